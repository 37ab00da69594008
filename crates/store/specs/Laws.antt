-- What a store is seen to do over a list of reads and writes, in words of the calls and their answers alone.
--   wrote, has_read   whether a call is an accepted write of a page, an accepted read
--   accepted          the calls that were not refused
--   latest            the bytes of the latest accepted write of a page, or its first bytes
--   accepted_reads    how many reads were accepted
--   Throughout        each call obeys a law after those before it
--   Obeys             all the laws
use Rattle.std.specs.Prelude.{◌≡◌, ℕ, ◌+◌, ◌%◌, ◌^◌, Bool, true, false, if◌then◌else◌, ◌&&◌, List, [], ◌∷◌, length, filter, is_ok, ◌==◌}
use Rattle.store.specs.declared.script.Access.{Access}
use Rattle.store.specs.declared.script.Access.TheVariants.{Read, Write}
use Rattle.store.specs.Faults.{Refused}
use Rattle.store.specs.Meaning.{Meaning}
use Rattle.store.specs.Runs.{Event, answer_to, Reaches}

-- which of the two a call is
abbrev pub is_read : Access → Bool
is_read Read = true
is_read Write = false

abbrev pub is_write : Access → Bool
is_write Read = false
is_write Write = true

-- the calls that were not refused
abbrev pub accepted : {F : Type 0} → List (Event F) → List (Event F)
accepted h = filter (λ e. is_ok e.answer) h

-- whether the call is an accepted write of page p
abbrev pub wrote : {F : Type 0} → Event F → ℕ → Bool
wrote e p = is_ok e.answer && (is_write e.access && p == e.page)

-- whether the call is an accepted read
abbrev pub has_read : {F : Type 0} → Event F → Bool
has_read e = is_ok e.answer && is_read e.access

-- the bytes of the latest accepted write of page p, or the first bytes
abbrev pub latest : {F : Type 0} → (ℕ → List ℕ) → List (Event F) → ℕ → List ℕ
latest first [] p = first p
latest first (e ∷ h) p = if wrote e p then e.given else latest first h p

-- how many reads were accepted
abbrev pub accepted_reads : {F : Type 0} → List (Event F) → ℕ
accepted_reads h = length (filter has_read h)

-- each call obeys P after those before it
abbrev pub Throughout : {E : Type 0} → (List E → E → Type 0) → List E → Type 0
Throughout P [] = Unit
Throughout P (e ∷ h) = P h e × Throughout P h

-- an accepted read gets the latest bytes of its page
abbrev pub GetsLatest : {F : Type 0} → (ℕ → List ℕ) → List (Event F) → Event F → Type 0
GetsLatest first h e = has_read e ≡ true → e.returned ≡ latest first h e.page

-- a write and a refused read leave the buffer as it was given
abbrev pub LeavesBuffer : {F : Type 0} → List (Event F) → Event F → Type 0
LeavesBuffer h e = has_read e ≡ false → e.returned ≡ e.given

-- a call is answered as the first meaning says, whatever was called before it
abbrev pub AnswersAsFirst : Meaning → List (Event Refused) → Event Refused → Type 0
AnswersAsFirst first h e = e.answer ≡ answer_to e.access first e.page (length e.given)

-- of calls that lead from the first meaning to m
pub record Obeys (first : Meaning) (h : List (Event Refused)) (m : Meaning) : Type 0 where
  -- each page has the latest bytes
  pub pages : (p : ℕ) → m.pages p ≡ latest first.pages h p
  -- the tally rose by the accepted reads
  pub tally : m.tally ≡ (first.tally + accepted_reads h) % 2 ^ 32
  -- nothing else changed
  pub number : m.number ≡ first.number
  pub marks : m.marks ≡ first.marks
  pub origins : m.origins ≡ first.origins
  -- what each call returned and answered
  pub reads : Throughout (GetsLatest first.pages) h
  pub buffers : Throughout LeavesBuffer h
  pub answers : Throughout (AnswersAsFirst first) h
  -- the refused calls changed nothing: the others alone lead to m
  pub refusals : Reaches first (accepted h) m
