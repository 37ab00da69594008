-- Whole traces: what is read is what was written, and what was written is read.
use Rattle.std.proofs.Common.{◌≡◌, ℕ, Bool, true, false, cond, eqb, List, [], ◌∷◌, ◌++◌, length, Some, None, Ok, Err, Option, Result, sym, refl, ap, ◌∙◌, inl, inr, arith}
use Rattle.std.specs.Option.{option_map}
use Rattle.std.specs.Result.{MatchResult, result_map_both}
use Rattle.std.specs.List.{flat_map, AllByRecursion}
use Rattle.std.proofs.lemmas.List.{append_assoc, append-nil, nil_from_length}
use Rattle.std.proofs.lemmas.Bool.{cond-false, eqb-true, ne_eqb}
use Rattle.values.specs.declared.size_numbers.SizeNumbers.{SizeNumbers}
use Rattle.trace.specs.declared.fault.Fault.{Fault}
use Rattle.trace.specs.Encoding.{Asked, LawfulRequest, request_bytes}
use Rattle.trace.specs.Items.{Request, item_at, next_at}
use Rattle.trace.specs.Lefts.{Left}
use Rattle.trace.specs.Reading.{after_item, after_sizes, item_read, passed_item, passed_sizes, sizes_read}
use Rattle.trace.specs.Sizes.{sizes_at}
use Rattle.trace.specs.Whole.{AllRead, Encodes, FirstFault, Reads, first, meant, more, stop}
use Rattle.trace.specs.Words.{refused}
use Rattle.trace.proofs.Encodings.{Bytes}
use Rattle.trace.proofs.ItemBytes.{ItemWritten, item_complete, item_sound}
use Rattle.trace.proofs.SizeBytes.{SizesWritten, size_bytes, sizes_complete, sizes_sound}
use Rattle.trace.proofs.Thens.{err_ok}

-- what a reader does, by the test for the end and the item that is there
abbrev answer : Bool → Result (Request × Left) (ℕ × ℕ) → Result (Option (Request × Left)) (ℕ × ℕ)
answer end r = cond end (Ok None) (result_map_both Some (λ f. f) r)

abbrev told : Result (Option (Request × Left)) (ℕ × ℕ) → Result (Option Request) (ℕ × ℕ)
told r = result_map_both (option_map (λ t. t.0)) (λ f. f) r

none_is_some : {X F : Type 0} (x : X) → ◌≡◌ {A = Result (Option X) F} (Ok None) (Ok (Some x)) → ⊥
none_is_some x e = grind arith

-- the item that is read stands there, and the reader moves behind it
stepped_by : (l : Left) (end : Bool) (r : Result (Request × Left) (ℕ × ℕ)) (q : Request) → told (answer end r) ≡ Ok (Some q) →
    r ≡ Ok (q, passed_item l (answer end r))
stepped_by l true r q e = absurd (none_is_some q e)
stepped_by l false (Ok t) q e = ap (λ x. Ok (x, t.1)) (let same : t.0 ≡ q = cc in same)
stepped_by l false (Err f) q e = absurd (err_ok f (Some q) e)

step_read : (l : Left) (q : Request) → item_read l ≡ Ok (Some q) → item_at l ≡ Ok (q, after_item l)
step_read l q e = stepped_by l (eqb (length l.rest) 0) (item_at l) q e

-- where no item is left, no byte is
ended_by : (end : Bool) (r : Result (Request × Left) (ℕ × ℕ)) → told (answer end r) ≡ Ok None → end ≡ true
ended_by true r e = refl
ended_by false (Ok t) e = absurd (none_is_some t.0 (sym e))
ended_by false (Err f) e = absurd (err_ok f None e)

nothing_left : (l : Left) → item_read l ≡ Ok None → l.rest ≡ []
nothing_left l e = nil_from_length l.rest (eqb-true (length l.rest) 0 (ended_by (eqb (length l.rest) 0) (item_at l) e))

-- where no byte is left, no item is
end_read : (l : Left) → l.rest ≡ [] → item_read l ≡ Ok None
end_read l e = ap (λ bs. told (next_at (record { rest = bs; place = l.place }))) e

-- one item that is read was written
pub item_passed : (l : Left) (q : Request) → Bytes l.rest → item_read l ≡ Ok (Some q) → ItemWritten l.rest (q, after_item l)
item_passed l q b e = item_sound l (q, after_item l) b (step_read l q e)

-- all items that are read were written, one after another
pub record AllPassed (l : Left) (asked : List Asked) (m : Left) : Type 0 where
  pub lawful : AllByRecursion LawfulRequest asked
  pub bytes : l.rest ≡ flat_map request_bytes asked ++ m.rest
  pub others : Bytes m.rest

pub reads_sound : {l m : Left} {asked : List Asked} → Reads l asked m → Bytes l.rest → AllPassed l asked m
reads_sound stop b = record { lawful = tt; bytes = refl; others = b }
reads_sound {l} {m} (more {asked = asked} q e r) b =
    let p = item_passed l q b e in
    let i = reads_sound r p.others in
    record {
      lawful = (p.lawful, i.lawful);
      bytes = p.bytes ∙ ap (λ x. request_bytes (meant q) ++ x) i.bytes ∙ sym (append_assoc (request_bytes (meant q)) (flat_map request_bytes asked) m.rest);
      others = i.others;
    }

-- one more item at the end
pub reads_push : {l m : Left} {asked : List Asked} → Reads l asked m → (q : Request) → item_read m ≡ Ok (Some q) →
    Reads l (asked ++ meant q ∷ []) (after_item m)
reads_push stop q e = more q e stop
reads_push (more p d r) q e = more p d (reads_push r q e)

-- a request that was written is read
record Next (l : Left) (a : Asked) (rest : List ℕ) : Type 0 where
  item : Request
  read : item_read l ≡ Ok (Some item)
  left : (after_item l).rest ≡ rest

next_is : (l : Left) (a : Asked) (rest : List ℕ) → LawfulRequest a → l.rest ≡ request_bytes a ++ rest → Next l a rest
next_is l a rest h e =
    let i = item_complete a h rest l.place in
    let some_byte : eqb (length l.rest) 0 ≡ false = ne_eqb (length l.rest) 0 (λ z. omega (arith, ap length e, z)) in
    let here : item_at l ≡ Ok (i.item, i.left) = ap (λ x. item_at (record { rest = x; place = l.place })) e ∙ i.read in
    let next : next_at l ≡ Ok (Some (i.item, i.left)) = cond-false _ _ _ some_byte ∙ ap (result_map_both Some (λ f. f)) here in
    record {
      item = i.item;
      read = ap told next;
      left = ap (λ r. (passed_item l r).rest) next ∙ i.others;
    }

-- what is left of requests that were written, after some are read
record Remaining (m : Left) : Type 0 where
  requests : List Asked
  lawful : AllByRecursion LawfulRequest requests
  bytes : m.rest ≡ flat_map request_bytes requests

reads_complete : {l m : Left} {asked : List Asked} → Reads l asked m → (written : List Asked) → AllByRecursion LawfulRequest written →
    l.rest ≡ flat_map request_bytes written → Remaining m
reads_complete stop written h e = record { requests = written; lawful = h; bytes = e }
reads_complete {l} (more q d r) [] h e = absurd (none_is_some q (sym (end_read l e) ∙ d))
reads_complete {l} (more q d r) (a ∷ written) h e =
    reads_complete r written h.1 (next_is l a (flat_map request_bytes written) h.0 e).left

-- requests that were written are read without a fault
no_fault : (l : Left) (fault : ℕ × ℕ) (written : List Asked) → AllByRecursion LawfulRequest written →
    l.rest ≡ flat_map request_bytes written → item_read l ≡ Err fault → ⊥
no_fault l fault [] h e d = err_ok fault None (sym d ∙ end_read l e)
no_fault l fault (a ∷ written) h e d =
    let n = next_is l a (flat_map request_bytes written) h.0 e in err_ok fault (Some n.item) (sym d ∙ n.read)

-- the sizes that are read stand there, and the reader moves behind them
sized_by : (l : Left) (r : Result (SizeNumbers × Left) (ℕ × ℕ)) (z : SizeNumbers) →
    result_map_both (λ t. t.0) (λ (f : ℕ × ℕ). f) r ≡ Ok z → r ≡ Ok (z, passed_sizes l r)
sized_by l (Ok t) z e = ap (λ x. Ok (x, t.1)) (let same : t.0 ≡ z = cc in same)
sized_by l (Err f) z e = absurd (err_ok f z e)

pub sizes_passed : (bs : List ℕ) (z : SizeNumbers) → Bytes bs → sizes_read (first bs) ≡ Ok z → SizesWritten bs (z, after_sizes (first bs))
sizes_passed bs z b e = sizes_sound (first bs) (z, after_sizes (first bs)) b (sized_by (first bs) (sizes_at (first bs)) z e)

-- a trace that is read to its end is the encoding of what was read
pub all_read_encodes : (bs : List ℕ) (n : ℕ) → Bytes bs → AllRead bs n → Encodes bs n
all_read_encodes bs n b a =
    let w = sizes_passed bs a.sizes b a.sized in
    let p = reads_sound a.reads w.others in
    let items : (after_sizes (first bs)).rest ≡ flat_map request_bytes a.requests =
    p.bytes ∙ ap (λ x. flat_map request_bytes a.requests ++ x) (nothing_left a.last a.ends) ∙ append-nil (flat_map request_bytes a.requests) in
    record {
      sizes = a.sizes;
      requests = a.requests;
      lawful_sizes = w.lawful;
      lawful_requests = p.lawful;
      written = w.bytes ∙ ap (size_bytes a.sizes) items;
      many = a.many;
    }

-- an encoding has no fault
pub fault_no_encoding : (bs : List ℕ) (fault : ℕ × ℕ) → FirstFault bs fault → (n : ℕ) → Encodes bs n → ⊥
fault_no_encoding bs fault f n e =
    let items = flat_map request_bytes e.requests in
    let sizes : sizes_at (first bs) ≡ Ok (e.sizes, record { rest = items; place = 5 }) =
    ap (λ x. sizes_at (first x)) e.written ∙ sizes_complete e.sizes e.lawful_sizes items 0 in
    elim f [
      | inl d ↦ (err_ok fault e.sizes (sym d ∙ ap (result_map_both (λ t. t.0) (λ (g : ℕ × ℕ). g)) sizes))
      | inr a ↦
          (let r = reads_complete a.reads e.requests e.lawful_requests (ap (λ y. (passed_sizes (first bs) y).rest) sizes) in
          no_fault a.last fault r.requests r.lawful r.bytes a.faults)
    ]

-- what is read, in the words of the format
pub in_format : (bs : List ℕ) (r : Result ℕ Fault) → Bytes bs → MatchResult r (λ n. AllRead bs n) (λ f. FirstFault bs (refused f)) →
    MatchResult r (λ n. Encodes bs n) (λ _. (n : ℕ) → Encodes bs n → ⊥)
in_format bs (Ok n) b h = all_read_encodes bs n b h
in_format bs (Err f) b h = fault_no_encoding bs (refused f) h
