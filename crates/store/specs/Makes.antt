-- What each make of store means.
--   page_of, put_page   a page among the bytes of a memory
--   fits                whether a page can be copied
--   page_out, page_in   the buffer after a page was copied out, the memory after one was copied in
--   memory_after        a working store's memory after a write
--   mark_of             the mark that a mark byte stands for
--   working, plate      a store over bytes, its tally given
--   interleaved         left and right in turn
--   pair                two stores as one
use Rattle.std.specs.Prelude.{ℕ, ◌+◌, ◌-◌, ◌*◌, ◌/◌, ◌%◌, ◌^◌, min, Bool, if◌then◌else◌, ◌&&◌, List, ◌++◌, length, take, drop, ◌==◌, nat_lt, slice_index}
use Rattle.store.specs.declared.mark.Mark.{Mark}
use Rattle.store.specs.declared.mark.Mark.TheVariants.{Open, Sealed, Dead}
use Rattle.store.specs.Faults.{here, deeper}
use Rattle.store.specs.Meaning.{Meaning}

-- page p is the bytes from 256 × p on
abbrev pub page_of : List ℕ → ℕ → List ℕ
page_of bytes p = take 256 (drop (p * 256) bytes)

-- the memory with page p replaced by v
abbrev pub put_page : List ℕ → ℕ → List ℕ → List ℕ
put_page bytes p v = take (p * 256) bytes ++ (v ++ drop 256 (drop (p * 256) bytes))

-- whether all of page p lies in the memory, and v is a page long
abbrev pub fits : List ℕ → ℕ → List ℕ → Bool
fits bytes p v = nat_lt p (length bytes / 256) && length v == 256

-- the buffer after page p was copied out into it
abbrev pub page_out : List ℕ → ℕ → List ℕ → List ℕ
page_out bytes p buffer = if fits bytes p buffer then page_of bytes p else buffer

-- the memory after v was copied into it as page p
abbrev pub page_in : List ℕ → ℕ → List ℕ → List ℕ
page_in bytes p v = if fits bytes p v then put_page bytes p v else bytes

-- the memory after a write of v to page p was accepted, or was not: no byte outside the page changes
abbrev pub memory_after : Bool → List ℕ → ℕ → List ℕ → List ℕ
memory_after accepted bytes p v = if accepted then put_page bytes p v else bytes

-- 0 is open, 1 is sealed, any other byte is dead
abbrev pub mark_of : ℕ → Mark
mark_of b = if b == 0 then Open else (if b == 1 then Sealed else Dead)

-- as many pages as the least of the whole pages, the mark bytes and 65,536; the tally has 32 bits
abbrev pub working : List ℕ → List ℕ → ℕ → Meaning
working bytes marks tally = record {
  number = min (min (length bytes / 256) (length marks)) 65536;
  tally = tally % 2 ^ 32;
  pages = page_of bytes;
  marks = λ p. mark_of (slice_index marks p);
  origins = here;
}

-- as many pages as the lesser of the whole pages and 65,536, all of them sealed
abbrev pub plate : List ℕ → ℕ → Meaning
plate bytes tally = record {
  number = min (length bytes / 256) 65536;
  tally = tally % 2 ^ 32;
  pages = page_of bytes;
  marks = λ _. Sealed;
  origins = here;
}

-- an even page lies in the left, an odd one in the right
abbrev pub interleaved : {X : Type 0} → (ℕ → X) → (ℕ → X) → ℕ → X
interleaved left right p = if p % 2 == 0 then left (p / 2) else right ((p - 1) / 2)

-- twice as many pages as the side with fewer, at most 65,536
abbrev pub pair : Meaning → Meaning → Meaning
pair l r = record {
  number = min (2 * min l.number r.number) 65536;
  tally = (l.tally + r.tally) % 2 ^ 32;
  pages = interleaved l.pages r.pages;
  marks = interleaved l.marks r.marks;
  origins = λ p. deeper (interleaved l.origins r.origins p);
}
