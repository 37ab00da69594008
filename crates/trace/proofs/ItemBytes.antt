-- An item that is read is the request that was written.
use Rattle.std.proofs.Common.{◌≡◌, ℕ, ◌+◌, ◌*◌, ◌^◌, ◌<◌, ◌≤◌, true, leb, List, ◌++◌, length, take, Ok, sym, refl, ap, ◌∙◌, subst, arith}
use Rattle.std.proofs.lemmas.List.{append_assoc}
use Rattle.std.proofs.lemmas.Bool.{and_from, le-leb}
use Rattle.trace.specs.declared.item.Call.{Call}
use Rattle.trace.specs.declared.item.Call.TheVariants.{Read, Write}
use Rattle.trace.specs.declared.word.Expected.TheVariants.{Item, Fill}
use Rattle.trace.specs.declared.word.Word.{Word}
use Rattle.trace.specs.declared.word.kind.Kind.{Kind}
use Rattle.trace.specs.declared.word.kind.Kind.TheVariants as kinds
use Rattle.trace.specs.Encoding.{Asked, Filled, LawfulRequest, fill_bytes, kind_of, request_bytes, word}
use Rattle.trace.specs.Items.{Request, call_at, hint_words, hints_at, item_at}
use Rattle.trace.specs.Kinds.{code}
use Rattle.trace.specs.Lefts.{Left}
use Rattle.trace.specs.Whole.{meant}
use Rattle.trace.specs.Words.{kind_fits, word_at}
use Rattle.trace.proofs.Encodings.{Bytes, WordRead, plain, word_complete, word_sound}
use Rattle.trace.proofs.HintBytes.{HintsWritten, hint_bytes, hints_complete, hints_sound, values_in_front}
use Rattle.trace.proofs.Thens.{then_ok, then_to}

-- a fill word that is read has its byte and nothing else
fill_word : (bs : List ℕ) (w : Word) (rest : List ℕ) → WordRead Fill bs w rest → (bs ≡ word 4 0 0 w.value ++ rest) × (w.value < 2 ^ 8)
fill_word bs w rest r = (grind (arith, r.written.bytes, r.kind, r.bits), grind (arith, r.bits))

-- the call of an item whose kind starts one was written after its hints
record CallRead (k : Kind) (bs : List ℕ) (t : Call × Left) : Type 0 where
  kind : code k ≡ kind_of t.0
  fill : Filled t.0
  bytes : bs ≡ fill_bytes t.0 ++ t.1.rest
  others : Bytes t.1.rest

call_sound : (k : Kind) (l : Left) (t : Call × Left) → Bytes l.rest → kind_fits Item k ≡ true → call_at k l ≡ Ok t → CallRead k l.rest t
call_sound kinds.Read l t b starts h =
    let same : ◌≡◌ {A = Call × Left} (Read, l) t = cc in
    subst (CallRead kinds.Read l.rest) same (record { kind = refl; fill = tt; bytes = refl; others = b })
call_sound kinds.Write l t b starts h =
    then_ok (word_at Fill l) _ t h (λ w read done.
    let r = word_sound Fill l w.0 w.1 b read in
    let g = fill_word l.rest w.0 w.1.rest r in
    let same : ◌≡◌ {A = Call × Left} (Write w.0.value, w.1) t = cc in
    subst (CallRead kinds.Write l.rest) same (record { kind = refl; fill = g.1; bytes = g.0; others = r.written.others }))
call_sound kinds.Size l t b starts h = absurd (grind arith)
call_sound kinds.Hint l t b starts h = absurd (grind arith)
call_sound kinds.Fill l t b starts h = absurd (grind arith)

-- what an item asks, by the values of its hint words
request_said : (place : ℕ) (call : Call) (page client : ℕ) (vs bs after : List ℕ) (n : ℕ) → bs ≡ hint_bytes vs ++ after → length vs ≡ n →
    meant (record { place = place; call = call; page = page; client = client; hints = take (4 * n) bs })
    ≡ record { call = call; page = page; hints = record { client = client; values = vs } }
request_said place call page client vs bs after n e many =
    ap (λ x. record { call = call; page = page; hints = record { client = client; values = x } }) (values_in_front vs bs after n e many)

pub record ItemWritten (bs : List ℕ) (t : Request × Left) : Type 0 where
  pub lawful : LawfulRequest (meant t.0)
  pub bytes : bs ≡ request_bytes (meant t.0) ++ t.1.rest
  pub others : Bytes t.1.rest

-- an item whose words are known was written
item_written : (l front : Left) (w : Word) (m : Left) (c : Call × Left) → WordRead Item l.rest w front.rest →
    HintsWritten w.count front.rest m.rest → CallRead w.kind m.rest c →
    ItemWritten l.rest (record { place = l.place; call = c.0; page = w.value; client = w.client; hints = take (4 * w.count) front.rest }, c.1)
item_written l front w m c r i f =
    let few : w.count ≤ 5 = grind (arith, r.bits) in
    let a : Asked = record { call = c.0; page = w.value; hints = record { client = w.client; values = i.values } } in
    let said = request_said l.place c.0 w.value w.client i.values front.rest m.rest w.count i.bytes i.many in
    let lawful : LawfulRequest a = record { fill = f.fill; page = r.written.value; client = r.written.client; count = omega (arith, i.many, few); values = i.narrow } in
    let bytes : l.rest ≡ request_bytes a ++ c.1.rest =
    r.written.bytes
    ∙ ap (λ k. word k w.client w.count w.value ++ front.rest) f.kind
    ∙ ap (λ n. word (kind_of c.0) w.client n w.value ++ front.rest) (sym i.many)
    ∙ ap (λ x. word (kind_of c.0) w.client (length i.values) w.value ++ x)
    (i.bytes ∙ ap (λ x. hint_bytes i.values ++ x) f.bytes ∙ sym (append_assoc (hint_bytes i.values) (fill_bytes c.0) c.1.rest))
    in
    record {
      lawful = subst LawfulRequest (sym said) lawful;
      bytes = bytes ∙ ap (λ x. request_bytes x ++ c.1.rest) (sym said);
      others = f.others;
    }

pub item_sound : (l : Left) (t : Request × Left) → Bytes l.rest → item_at l ≡ Ok t → ItemWritten l.rest t
item_sound l t b h =
    then_ok (word_at Item l) _ t h (λ first read after.
    then_ok (hints_at first.0.count first.1) _ t after (λ hints passed rest.
    then_ok (hint_words first.0.count first.1) _ hints passed (λ m words cut.
    then_ok (call_at first.0.kind hints.1) _ t rest (λ call asks done.
    let r = word_sound Item l first.0 first.1 b read in
    let i = hints_sound first.0.count first.1 m r.written.others words in
    let front : ◌≡◌ {A = List ℕ × Left} (take (4 * first.0.count) first.1.rest, m) hints = cc in
    let asks_there : call_at first.0.kind m ≡ Ok call = ap (λ x. call_at first.0.kind x.1) front ∙ asks in
    let f = call_sound first.0.kind m call i.others r.kind asks_there in
    let same : ◌≡◌ {A = Request × Left} (record { place = l.place; call = call.0; page = first.0.value; client = first.0.client; hints = take (4 * first.0.count) first.1.rest }, call.1) t = cc in
    subst (ItemWritten l.rest) same (item_written l first.1 first.0 m call r i f)))))

pub record ItemRead (a : Asked) (rest : List ℕ) (place : ℕ) : Type 0 where
  pub item : Request
  pub left : Left
  pub read : item_at (record { rest = request_bytes a ++ rest; place = place }) ≡ Ok (item, left)
  pub says : meant item ≡ a
  pub others : left.rest ≡ rest

-- the kind of a call's word
abbrev kind_for : Call → Kind
kind_for Read = kinds.Read
kind_for (Write b) = kinds.Write

code_for : (call : Call) → code (kind_for call) ≡ kind_of call
code_for Read = refl
code_for (Write b) = refl

kind_starts : (call : Call) → kind_fits Item (kind_for call) ≡ true
kind_starts Read = refl
kind_starts (Write b) = refl

-- the place after a call whose hints end at a place
abbrev ending : Call → ℕ → ℕ
ending Read place = place
ending (Write b) place = place + 1

call_complete : (call : Call) → Filled call → (rest : List ℕ) (place : ℕ) →
    call_at (kind_for call) (record { rest = fill_bytes call ++ rest; place = place }) ≡ Ok (call, record { rest = rest; place = ending call place })
call_complete Read f rest place = refl
call_complete (Write b) f rest place =
    then_to _ _ _ _ (word_complete Fill kinds.Fill 0 0 b (omega arith) (omega arith) (omega arith) refl (le-leb b 255 (omega arith)) rest place) refl

pub item_complete : (a : Asked) → LawfulRequest a → (rest : List ℕ) (place : ℕ) → ItemRead a rest place
item_complete a h rest place =
    let call = a.call in
    let vs = a.hints.values in
    let n = length vs in
    let w = plain (kind_for call) a.hints.client n a.page in
    let after = fill_bytes call ++ rest in
    let front : Left = record { rest = hint_bytes vs ++ after; place = place + 1 } in
    let middle : Left = record { rest = after; place = place + 1 + n } in
    let last : Left = record { rest = rest; place = ending call (place + 1 + n) } in
    let start : request_bytes a ++ rest ≡ word (code (kind_for call)) a.hints.client n a.page ++ front.rest =
    ap (λ x. word (kind_of call) a.hints.client n a.page ++ x) (append_assoc (hint_bytes vs) (fill_bytes call) rest)
    ∙ ap (λ k. word k a.hints.client n a.page ++ front.rest) (sym (code_for call)) in
    let first : word_at Item (record { rest = request_bytes a ++ rest; place = place }) ≡ Ok (w, front) =
    ap (λ x. word_at Item (record { rest = x; place = place })) start
    ∙ word_complete Item (kind_for call) a.hints.client n a.page h.client (omega arith) h.page (kind_starts call)
    (and_from (leb n 5) true (le-leb n 5 h.count) refl) front.rest place in
    let hints : hints_at n front ≡ Ok (take (4 * n) front.rest, middle) = then_to _ _ _ _ (hints_complete vs h.values after (place + 1)) refl in
    record {
      item = record { place = place; call = call; page = a.page; client = a.hints.client; hints = take (4 * n) front.rest };
      left = last;
      read = then_to _ _ _ _ first (then_to _ _ _ _ hints (then_to _ _ _ _ (call_complete call h.fill rest (place + 1 + n)) refl));
      says = request_said place call a.page a.hints.client vs front.rest after n refl refl;
      others = refl;
    }
