-- Whole traces: reading item after item, and the law that ties it to the format.
--
--   meant        what an item of a trace asks
--   Reads        reading so many items leads from one place to another
--   AllRead      the sizes and so many items are read, and the trace ends
--   FirstFault   the sizes are refused so, or an item after those that are read
--   Encodes      the bytes stand for lawful sizes and so many lawful requests
use Rattle.std.specs.Prelude.{◌≡◌, ℕ, ◌⊎◌, List, [], ◌∷◌, length, Some, None, Ok, Err}
use Rattle.std.specs.List.{AllByRecursion}
use Rattle.values.specs.declared.size_numbers.SizeNumbers.{SizeNumbers}
use Rattle.values.specs.Sizes.{sizes_from}
use Rattle.trace.specs.Encoding.{Asked, LawfulRequest, trace_bytes}
use Rattle.trace.specs.Hints.{values_of}
use Rattle.trace.specs.Items.{Request}
use Rattle.trace.specs.Lefts.{Left}
use Rattle.trace.specs.Reading.{after_item, after_sizes, item_read, sizes_read}

abbrev pub meant : Request → Asked
meant q = record {
  call = q.call;
  page = q.page;
  hints = record { client = q.client; values = values_of q.hints };
}

pub data Reads : Left → List Asked → Left → Type 0 where
  stop : {l : Left} → Reads l [] l
  more : {l m : Left} {asked : List Asked} (q : Request) → item_read l ≡ Ok (Some q) → Reads (after_item l) asked m →
      Reads l (meant q ∷ asked) m

-- a reader at the first word
abbrev pub first : List ℕ → Left
first bs = record { rest = bs; place = 0 }

pub record AllRead (bs : List ℕ) (n : ℕ) : Type 0 where
  pub sizes : SizeNumbers
  pub requests : List Asked
  pub last : Left
  pub sized : sizes_read (first bs) ≡ Ok sizes
  pub reads : Reads (after_sizes (first bs)) requests last
  pub ends : item_read last ≡ Ok None
  pub many : length requests ≡ n

pub record FaultAfter (bs : List ℕ) (fault : ℕ × ℕ) : Type 0 where
  pub requests : List Asked
  pub last : Left
  pub reads : Reads (after_sizes (first bs)) requests last
  pub faults : item_read last ≡ Err fault

abbrev pub FirstFault : List ℕ → ℕ × ℕ → Type 0
FirstFault bs fault = (sizes_read (first bs) ≡ Err fault) ⊎ FaultAfter bs fault

pub record Encodes (bs : List ℕ) (n : ℕ) : Type 0 where
  pub sizes : SizeNumbers
  pub requests : List Asked
  pub lawful_sizes : sizes_from sizes ≡ Ok sizes
  pub lawful_requests : AllByRecursion LawfulRequest requests
  pub written : bs ≡ trace_bytes sizes requests
  pub many : length requests ≡ n
