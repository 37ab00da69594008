-- A trace that is read in part: what the loop over its items keeps.
use Rattle.std.proofs.Common.{◌≡◌, ℕ, ◌+◌, ◌*◌, ◌≤◌, List, [], ◌∷◌, ◌++◌, length, Some, None, Ok, refl, ap, ◌∙◌, arith}
use Rattle.std.proofs.lemmas.List.{length-append, length_push}
use Rattle.values.specs.declared.size_numbers.SizeNumbers.{SizeNumbers}
use Rattle.trace.specs.Encoding.{Asked, request_bytes}
use Rattle.trace.specs.Items.{Request}
use Rattle.trace.specs.Lefts.{Left}
use Rattle.trace.specs.Reading.{after_item, after_sizes, item_read, sizes_read}
use Rattle.trace.specs.Whole.{AllRead, Reads, first, meant, stop}
use Rattle.trace.proofs.Encodings.{Bytes}
use Rattle.trace.proofs.WholeTraces.{item_passed, reads_push, sizes_passed}

pub record SoFar (bs : List ℕ) (m : Left) (n : ℕ) : Type 0 where
  pub sizes : SizeNumbers
  pub requests : List Asked
  pub sized : sizes_read (first bs) ≡ Ok sizes
  pub reads : Reads (after_sizes (first bs)) requests m
  pub many : length requests ≡ n
  pub others : Bytes m.rest
  pub room : 4 * n + length m.rest ≤ length bs

-- after the sizes
pub so_far_none : (bs : List ℕ) (z : SizeNumbers) → Bytes bs → sizes_read (first bs) ≡ Ok z → SoFar bs (after_sizes (first bs)) 0
so_far_none bs z b e =
    let p = sizes_passed bs z b e in
    record { sizes = z; requests = []; sized = e; reads = stop; many = refl; others = p.others; room = omega (arith, ap length p.bytes) }

-- an item has at least one word
pub item_shortens : {bs : List ℕ} {m : Left} {n : ℕ} → SoFar bs m n → (q : Request) → item_read m ≡ Ok (Some q) →
    4 + length (after_item m).rest ≤ length m.rest
item_shortens {m = m} s q e =
    let p = item_passed m q s.others e in
    omega (arith, ap length p.bytes, length-append (request_bytes (meant q)) (after_item m).rest)

-- after one more item
pub so_far_more : {bs : List ℕ} {m : Left} {n : ℕ} → SoFar bs m n → (q : Request) → item_read m ≡ Ok (Some q) →
    SoFar bs (after_item m) (n + 1)
so_far_more {m = m} s q e = record {
  sizes = s.sizes;
  requests = s.requests ++ meant q ∷ [];
  sized = s.sized;
  reads = reads_push s.reads q e;
  many = length_push s.requests (meant q) ∙ ap (λ k. k + 1) s.many;
  others = (item_passed m q s.others e).others;
  room = omega (arith, item_shortens s q e, s.room);
}

-- at the end
pub so_far_all : {bs : List ℕ} {m : Left} {n : ℕ} → SoFar bs m n → item_read m ≡ Ok None → AllRead bs n
so_far_all {m = m} s e = record {
  sizes = s.sizes;
  requests = s.requests;
  last = m;
  sized = s.sized;
  reads = s.reads;
  ends = e;
  many = s.many;
}
