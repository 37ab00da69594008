-- The items that are read have hint sets, and their hint words are read one after another.
use Rattle.std.proofs.Common.{◌≡◌, ℕ, zero, suc, ◌+◌, ◌-◌, ◌*◌, ◌<◌, ◌≤◌, leb, List, length, take, Ok, Result, sym, ap, ◌∙◌, subst, arith}
use Rattle.std.proofs.lemmas.Bool.{leb-true}
use Rattle.std.proofs.lemmas.List.{length-take, length-drop}
use Rattle.std.proofs.lemmas.Option.{cond_some}
use Rattle.trace.specs.declared.word.Expected.{Expected}
use Rattle.trace.specs.declared.word.Expected.TheVariants.{Item, Hint}
use Rattle.trace.specs.declared.word.Word.{Word}
use Rattle.trace.specs.Items.{Hinted, Request, call_at, hint_words, hints_at, item_at}
use Rattle.trace.specs.Lefts.{Left}
use Rattle.trace.specs.Thens.{then}
use Rattle.trace.specs.Words.{word_at}
use Rattle.trace.proofs.Encodings.{word_taken}
use Rattle.trace.proofs.Thens.{then_ok}

-- one more, by what the word there was found to be
pub hint_words_more : (n i : ℕ) (l : Left) (r : Result (Word × Left) (ℕ × ℕ)) → i < n → r ≡ word_at Hint l →
    hint_words (n - i) l ≡ then r (λ t. hint_words (n - (i + 1)) t.1)
hint_words_more n i l r h e =
    ap (λ k. hint_words k l) (let d : n - i ≡ suc (n - (i + 1)) = omega arith in d)
    ∙ ap (λ x. then x (λ t. hint_words (n - (i + 1)) t.1)) (sym e)

-- no more
pub hint_words_none : (n i : ℕ) (l : Left) → n ≤ i → hint_words (n - i) l ≡ Ok l
hint_words_none n i l h = ap (λ k. hint_words k l) (let e : n - i ≡ 0 = omega arith in e)

-- a word has four bytes
word_length : (e : Expected) (l : Left) (w : Word) (m : Left) → word_at e l ≡ Ok (w, m) → 4 + length m.rest ≡ length l.rest
word_length e l w m h =
    let t = word_taken e l w m h in
    let there = cond_some (leb 4 (length l.rest)) _ _ t.first in
    omega (arith, leb-true 4 (length l.rest) there.0, ap (λ x. length x.1.rest) there.1, length-drop 4 l.rest)

pub hint_words_length : (n : ℕ) (l m : Left) → hint_words n l ≡ Ok m → 4 * n + length m.rest ≡ length l.rest
hint_words_length zero l m h = let same : l ≡ m = cc in omega (arith, ap (λ x. length x.rest) same)
hint_words_length (suc n) l m h =
    then_ok (word_at Hint l) _ m h (λ t first after. omega (arith, word_length Hint l t.0 t.1 first, hint_words_length n t.1 m after))

-- an item has a client of four bits and at most five hint words
pub item_hinted : (l : Left) (t : Request × Left) → item_at l ≡ Ok t → Hinted t.0
item_hinted l t h =
    then_ok (word_at Item l) _ _ h (λ first read after.
    let w = word_taken Item l first.0 first.1 read in
    let few : first.0.count ≤ 5 = grind (arith, w.bits) in
    let narrow : first.0.client ≤ 15 = omega (arith, w.parts.client) in
    then_ok (hints_at first.0.count first.1) _ _ after (λ hints passed rest.
    then_ok (hint_words first.0.count first.1) _ _ passed (λ m _ cut.
    then_ok (call_at first.0.kind hints.1) _ _ rest (λ call _ done.
    let same : ◌≡◌ {A = Request × Left} (record { place = l.place; call = call.0; page = first.0.value; client = first.0.client; hints = hints.0 }, call.1) t = cc in
    let bytes : take (4 * first.0.count) first.1.rest ≡ hints.0 = ap (λ x. x.0) (let e : ◌≡◌ {A = List ℕ × Left} (take (4 * first.0.count) first.1.rest, m) hints = cc in e) in
    subst (λ x. Hinted x.0) same (narrow, omega (arith, few, length-take (4 * first.0.count) first.1.rest, ap length bytes))))))
