-- Lists of reads and writes, with what each answered. The newest stands first.
--   Event                                     a call, what it was handed, and what it answered and left
--   answer_to, buffer_after, store_after      what a call of either kind answers and leaves
--   Reaches                                   the meanings that a list of calls leads to
use Rattle.std.specs.Prelude.{ℕ, List, [], ◌∷◌, length, Result}
use Rattle.store.specs.declared.script.Access.{Access}
use Rattle.store.specs.declared.script.Access.TheVariants.{Read, Write}
use Rattle.store.specs.Faults.{Refused}
use Rattle.store.specs.Meaning.{Meaning, read_answer, read_buffer, read_after, write_answer, write_after}

-- the buffer as it was given, which for a write is the bytes to write, and as it was returned; a refusal is of any type F
pub record Event (F : Type 0) : Type 0 where
  pub access : Access
  pub page : ℕ
  pub given : List ℕ
  pub answer : Result Unit F
  pub returned : List ℕ

-- of a call on page p of a store that means m
abbrev pub answer_to : Access → Meaning → ℕ → ℕ → Result Unit Refused
answer_to Read m p len = read_answer m p len
answer_to Write m p len = write_answer m p len

abbrev pub buffer_after : Access → Meaning → ℕ → List ℕ → List ℕ
buffer_after Read m p given = read_buffer m p given
buffer_after Write m p given = given

abbrev pub store_after : Access → Meaning → ℕ → List ℕ → Meaning
store_after Read m p given = read_after m p (length given)
store_after Write m p given = write_after m p given

-- the call with its answer
abbrev pub event : Access → Meaning → ℕ → List ℕ → Event Refused
event a m p given = record { access = a; page = p; given = given; answer = answer_to a m p (length given); returned = buffer_after a m p given }

-- from the first meaning, calls lead to a meaning, one after another
pub data Reaches (first : Meaning) : List (Event Refused) → Meaning → Type 0 where
  start : Reaches first [] first
  more : (h : List (Event Refused)) (m : Meaning) (a : Access) (p : ℕ) (given : List ℕ)
      → Reaches first h m → Reaches first (event a m p given ∷ h) (store_after a m p given)
