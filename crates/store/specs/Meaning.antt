-- What a store means, and what its calls answer and leave.
--   Meaning, meaning_of             number of pages, tally; bytes, mark and origin of each page
--   Lawful                          the bounds that every meaning keeps
--   read_answer, read_buffer,
--   read_after                      a read: its answer, the buffer and the store after it
--   write_answer, write_after       a write: its answer, and the store after it
use Rattle.std.specs.Prelude.{◌≡◌, ℕ, ◌+◌, ◌%◌, ◌^◌, ◌<◌, ◌≤◌, if◌then◌else◌, List, length, is_ok, Ok, Result, ◌==◌, nat_lt}
use Rattle.store.specs.declared.fault.Origin.{Origin}
use Rattle.store.specs.declared.mark.Mark.{Mark}
use Rattle.store.specs.declared.mark.Mark.TheVariants.{Open, Sealed, Dead}
use Rattle.store.specs.Faults.{Refused, refuse, here}

-- the last three are of the pages from 0 to number - 1; what they say of other numbers is of no account
pub record Meaning : Type 0 where
  pub number : ℕ
  pub tally : ℕ
  pub pages : ℕ → List ℕ
  pub marks : ℕ → Mark
  pub origins : ℕ → Origin

-- the five parts as one value
abbrev pub meaning_of : ℕ → ℕ → (ℕ → List ℕ) → (ℕ → Mark) → (ℕ → Origin) → Meaning
meaning_of n t bs ms os = record { number = n; tally = t; pages = bs; marks = ms; origins = os }

-- at most 65,536 pages of 256 bytes, a tally of 32 bits, and origins of 32 and 8 bits
pub record Lawful (m : Meaning) : Type 0 where
  pub number : m.number ≤ 65536
  pub tally : m.tally < 2 ^ 32
  pub pages : (p : ℕ) → p < m.number → length (m.pages p) ≡ 256
  pub origins : (p : ℕ) → p < m.number → ((m.origins p).page < 2 ^ 32) × ((m.origins p).depth ≤ 255)

-- the answer to a read, and to a write, of a page with this mark and origin
abbrev pub readable : Mark → Origin → Result Unit Refused
readable Open o = Ok tt
readable Sealed o = Ok tt
readable Dead o = refuse 6 o

abbrev pub writable : Mark → Origin → Result Unit Refused
writable Open o = Ok tt
writable Sealed o = refuse 7 o
writable Dead o = refuse 6 o

-- refusal 3 unless the buffer has 256 bytes
abbrev pub test_length : {X : Type 0} → ℕ → ℕ → Result X Refused → Result X Refused
test_length p len rest = if len == 256 then rest else refuse 3 (here p)

-- refusal 5 unless there is a page p
abbrev pub test_number : {X : Type 0} → ℕ → ℕ → Result X Refused → Result X Refused
test_number number p rest = if nat_lt p number then rest else refuse 5 (here p)

-- the tests of every call on page p with a buffer of len bytes, in their order
abbrev pub tested : {X : Type 0} → ℕ → ℕ → ℕ → Result X Refused → Result X Refused
tested number p len rest = test_length p len (test_number number p rest)

-- what a read of page p answers, and a write
abbrev pub read_answer : Meaning → ℕ → ℕ → Result Unit Refused
read_answer m p len = tested m.number p len (readable (m.marks p) (m.origins p))

abbrev pub write_answer : Meaning → ℕ → ℕ → Result Unit Refused
write_answer m p len = tested m.number p len (writable (m.marks p) (m.origins p))

-- one more read, from 2^32 - 1 to 0
abbrev pub tallied : Meaning → Meaning
tallied m = record m { tally = (m.tally + 1) % 2 ^ 32 }

-- page p becomes v, and every other page stays
abbrev pub put : (ℕ → List ℕ) → ℕ → List ℕ → ℕ → List ℕ
put pages p v q = if q == p then v else pages q

-- the store with page p written
abbrev pub written : Meaning → ℕ → List ℕ → Meaning
written m p v = record m { pages = put m.pages p v }

-- after a read of page p: the buffer, which held buf, and the store
abbrev pub read_buffer : Meaning → ℕ → List ℕ → List ℕ
read_buffer m p buf = if is_ok (read_answer m p (length buf)) then m.pages p else buf

abbrev pub read_after : Meaning → ℕ → ℕ → Meaning
read_after m p len = if is_ok (read_answer m p len) then tallied m else m

-- after a write of v to page p: the store
abbrev pub write_after : Meaning → ℕ → List ℕ → Meaning
write_after m p v = if is_ok (write_answer m p (length v)) then written m p v else m
