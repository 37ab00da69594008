-- The hint words of a request, as they are written and as they are read.
use Rattle.std.proofs.Common.{◌≡◌, ℕ, zero, suc, ◌+◌, ◌*◌, ◌/◌, ◌^◌, ◌<◌, List, [], ◌∷◌, ◌++◌, length, get_or, take, Ok, sym, refl, ap, ◌∙◌, subst, arith}
use Rattle.std.specs.List.{flat_map, AllByRecursion}
use Rattle.std.proofs.lemmas.List.FromFn.{fill_by_all}
use Rattle.std.proofs.lemmas.List.{take_at}
use Rattle.trace.specs.declared.word.Expected.TheVariants.{Hint}
use Rattle.trace.specs.declared.word.Word.{Word}
use Rattle.trace.specs.declared.word.kind.Kind.TheVariants as kinds
use Rattle.trace.specs.Encoding.{word}
use Rattle.trace.specs.Hints.{value_at, values_of}
use Rattle.trace.specs.Items.{hint_words}
use Rattle.trace.specs.Lefts.{Left}
use Rattle.trace.proofs.Encodings.{Bytes, WordRead, word_complete, word_sound}
use Rattle.trace.proofs.Thens.{then_ok, then_to}

-- hint words, one for each value
abbrev pub hint_bytes : List ℕ → List ℕ
hint_bytes vs = flat_map (word 3 0 0) vs

pub length_hint_bytes : (vs : List ℕ) → length (hint_bytes vs) ≡ 4 * length vs
length_hint_bytes [] = refl
length_hint_bytes (v ∷ vs) = omega (arith, length_hint_bytes vs)

-- a value, by its place
value_at_hint : (vs : List ℕ) (k : ℕ) → k < length vs → get_or vs k 0 ≡ value_at (hint_bytes vs) k
value_at_hint [] k h = absurd (omega arith)
value_at_hint (v ∷ vs) zero h = omega arith
value_at_hint (v ∷ vs) (suc k) h =
    let two : 4 * suc k + 2 ≡ suc (suc (suc (suc (4 * k + 2)))) = omega arith in
    let three : 4 * suc k + 3 ≡ suc (suc (suc (suc (4 * k + 3)))) = omega arith in
    value_at_hint vs k (omega arith)
    ∙ sym (ap (λ i. get_or (hint_bytes (v ∷ vs)) i 0 * 256 + get_or (hint_bytes (v ∷ vs)) (4 * suc k + 3) 0) two
    ∙ ap (λ i. get_or (hint_bytes vs) (4 * k + 2) 0 * 256 + get_or (hint_bytes (v ∷ vs)) i 0) three)

-- hint words hold the values that they were made of
pub values_of_hints : (vs : List ℕ) → values_of (hint_bytes vs) ≡ vs
values_of_hints vs =
    sym (fill_by_all (value_at (hint_bytes vs)) vs (length (hint_bytes vs) / 4) 0 (omega (arith, length_hint_bytes vs))
    (λ k h. value_at_hint vs k (omega (arith, length_hint_bytes vs))))

-- the values of the hint words at the front of some bytes
pub values_in_front : (vs bs after : List ℕ) (n : ℕ) → bs ≡ hint_bytes vs ++ after → length vs ≡ n →
    values_of (take (4 * n) bs) ≡ vs
values_in_front vs bs after n e many =
    ap values_of (ap (take (4 * n)) e ∙ take_at (hint_bytes vs) after (4 * n) (length_hint_bytes vs ∙ ap (λ m. 4 * m) many))
    ∙ values_of_hints vs

pub record HintsWritten (n : ℕ) (bs rest : List ℕ) : Type 0 where
  pub values : List ℕ
  pub many : length values ≡ n
  pub narrow : AllByRecursion (λ v. v < 2 ^ 16) values
  pub bytes : bs ≡ hint_bytes values ++ rest
  pub others : Bytes rest

-- a hint word that is read has its value and nothing else
hint_word : (bs : List ℕ) (w : Word) (rest : List ℕ) → WordRead Hint bs w rest → bs ≡ word 3 0 0 w.value ++ rest
hint_word bs w rest r = grind (arith, r.written.bytes, r.kind, r.bits)

pub hints_sound : (n : ℕ) (l m : Left) → Bytes l.rest → hint_words n l ≡ Ok m → HintsWritten n l.rest m.rest
hints_sound zero l m b h =
    let same : l ≡ m = cc in
    subst (λ x. HintsWritten 0 l.rest x.rest) same (record { values = []; many = refl; narrow = tt; bytes = refl; others = b })
hints_sound (suc n) l m b h =
    then_ok _ _ _ h (λ t first after.
    let r = word_sound Hint l t.0 t.1 b first in
    let i = hints_sound n t.1 m r.written.others after in
    record {
      values = t.0.value ∷ i.values;
      many = ap suc i.many;
      narrow = (r.written.value, i.narrow);
      bytes = hint_word l.rest t.0 t.1.rest r ∙ ap (λ x. word 3 0 0 t.0.value ++ x) i.bytes;
      others = i.others;
    })

pub hints_complete : (vs : List ℕ) → AllByRecursion (λ v. v < 2 ^ 16) vs → (rest : List ℕ) (place : ℕ) →
    hint_words (length vs) (record { rest = hint_bytes vs ++ rest; place = place }) ≡ Ok (record { rest = rest; place = place + length vs })
hints_complete [] h rest place = ap (λ p. Ok (record { rest = rest; place = p })) (let e : place ≡ place + 0 = omega arith in e)
hints_complete (v ∷ vs) h rest place =
    then_to _ _ _ _ (word_complete Hint kinds.Hint 0 0 v (omega arith) (omega arith) h.0 refl refl (hint_bytes vs ++ rest) place)
    (hints_complete vs h.1 rest (place + 1) ∙ ap (λ p. Ok (record { rest = rest; place = p })) (let e : place + 1 + length vs ≡ place + suc (length vs) = omega arith in e))
