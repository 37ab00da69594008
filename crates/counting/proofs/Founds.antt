-- A key's row: where it stands, and where there is none.
use Rattle.std.proofs.Common.{◌≡◌, ℕ, suc, ◌+◌, ◌<◌, ◌≤◌, ◌⊎◌, ⊎_elim, Bool, true, false, cond, not, List, [], ◌∷◌, length, get_or, take, Some, None, Option, sym, refl, ap, ◌∙◌, subst, inl, inr, zero-add, add-one, length-take-le, arith}
use Rattle.std.specs.List.{enumerate_from, find, position, position_or_len, slice_get}
use Rattle.std.specs.Option.{option_map}
use Rattle.std.proofs.lemmas.Bool.{both_ways, cases_lt, cond-false, cond-true, false_from_ne_true, le-ltb, lt-ltb}
use Rattle.std.proofs.lemmas.List.{get_or-take}
use Rattle.std.proofs.lemmas.List.Folds.{find_at}
use Rattle.std.proofs.lemmas.List.FromFn.{get_or-enumerate_from, length-enumerate_from}
use Rattle.std.proofs.lemmas.List.Sums.{fails_before_first, passes_at_first, position_or_len_is}
use Rattle.std.proofs.lemmas.Option.{get_or_from_slice_get, none-some, same_Some, slice_get-get_or, slice_get_past, slice_get_within}
use Rattle.keys.specs.Meanings.{alike}
use Rattle.counting.specs.Rows.{found, has_key}
use Rattle.counting.specs.declared.row.Row.{Row}
use Rattle.keys.proofs.Alike.{alike_eq, eq_alike}

module _ {K : Type 0} (m : K → List ℕ) (k : K) where
  -- p is a place in the rows with what stands there, a row of the key
  pub record Standing (rs : List (Row K)) (d : Row K) (p : ℕ × Row K) : Type 0 where
    pub within : p.0 < length rs
    pub there : p.1 ≡ get_or rs p.0 d
    pub keyed : m p.1.key ≡ m k

  abbrev test : ℕ × Row K → Bool
  test p = has_key m k p.1

  abbrev first : List (Row K) → ℕ
  first rs = position_or_len test (enumerate_from 0 rs)

  pub found_some : (rs : List (Row K)) (d : Row K) (p : ℕ × Row K) → found m rs k ≡ Some p → Standing rs d p
  found_some rs d p h =
      let es = enumerate_from 0 rs in
      let i = first rs in
      let e = sym (find_at test es) ∙ h in
      let l : i < length es = slice_get_within es i p e in
      let within : i < length rs = omega (arith, length-enumerate_from 0 rs) in
      let there : get_or es i (0, d) ≡ (i, get_or rs i d) = get_or-enumerate_from 0 rs i (0, d) within ∙ ap (λ n. (n, get_or rs i d)) (zero-add i) in
      let q : (i, get_or rs i d) ≡ p = sym there ∙ get_or_from_slice_get es i p (0, d) e in
      let keyed = eq_alike _ _ (rw there at (passes_at_first test es (0, d) l)) in
      subst (λ (t : ℕ × Row K). Standing rs d t) q (record { within = within; there = refl; keyed = keyed })

  pub found_none : (rs : List (Row K)) (d : Row K) → found m rs k ≡ None → (i : ℕ) → i < length rs → m (get_or rs i d).key ≡ m k → ⊥
  found_none rs d h i l e = go (cases_lt (first rs) (length es))
    where
      es : List (ℕ × Row K)
      es = enumerate_from 0 rs

      go : (first rs < length es) ⊎ (length es ≤ first rs) → ⊥
      go (inl s) = let q = sym (find_at test es) ∙ h in let s' = slice_get-get_or es (first rs) (0, d) s in cc
      go (inr s) =
          let near : i < first rs = omega (arith, length-enumerate_from 0 rs) in
          both_ways _ (rw (get_or-enumerate_from 0 rs i (0, d) l) at (fails_before_first test es i (0, d) near)) (alike_eq _ _ e)

  -- the search of rows with their places stops where that of the rows alone does
  found_from : (rs : List (Row K)) (n : ℕ) → find test (enumerate_from n rs) ≡ option_map (λ r. (n + position_or_len (has_key m k) rs, r)) (slice_get rs (position_or_len (has_key m k) rs))
  found_from [] n = refl
  found_from (r ∷ rs) n = go (has_key m k r) (found_from rs (n + 1))
    where
      i : ℕ
      i = position_or_len (has_key m k) rs

      go : (b : Bool) → find test (enumerate_from (n + 1) rs) ≡ option_map (λ x. (n + 1 + i, x)) (slice_get rs i)
          → cond b (Some (n, r)) (find test (enumerate_from (n + 1) rs)) ≡ option_map (λ x. (n + cond (not b) (1 + i) 0, x)) (slice_get (r ∷ rs) (cond (not b) (1 + i) 0))
      go true h = ap (λ j. Some (j, r)) (let z : n ≡ n + 0 = omega arith in z)
      go false h =
          let one : suc i ≡ 1 + i = omega arith in
          let far : n + 1 + i ≡ n + suc i = omega arith in
          h ∙ ap (λ j. option_map {U = ℕ × Row K} (λ x. (j, x)) (slice_get rs i)) far
          ∙ ap (λ j. option_map {U = ℕ × Row K} (λ x. (n + j, x)) (slice_get (r ∷ rs) j)) one

  pub found_nowhere : (rs : List (Row K)) → None ≡ position (has_key m k) rs → None ≡ found m rs k
  found_nowhere rs e = sym (found_from rs 0 ∙ go (cases_lt (position_or_len (has_key m k) rs) (length rs)))
    where
      i : ℕ
      i = position_or_len (has_key m k) rs

      go : (i < length rs) ⊎ (length rs ≤ i) → option_map {U = ℕ × Row K} (λ x. (0 + i, x)) (slice_get rs i) ≡ None
      go (inl s) = absurd (none-some i (e ∙ cond-true _ _ _ (lt-ltb i (length rs) s)))
      go (inr l) = ap (option_map {U = ℕ × Row K} (λ x. (0 + i, x))) (slice_get_past rs i l)

  pub found_at : (rs : List (Row K)) (i : ℕ) (r : Row K) → Some i ≡ position (has_key m k) rs → r ≡ get_or rs i r → Some (i, r) ≡ found m rs k
  found_at rs i r e f = sym (found_from rs 0 ∙ go (cases_lt (position_or_len (has_key m k) rs) (length rs)))
    where
      j : ℕ
      j = position_or_len (has_key m k) rs

      go : (j < length rs) ⊎ (length rs ≤ j) → option_map {U = ℕ × Row K} (λ x. (0 + j, x)) (slice_get rs j) ≡ Some (i, r)
      go (inl s) =
          let same : i ≡ j = same_Some _ _ (e ∙ cond-true _ _ _ (lt-ltb j (length rs) s)) in
          ap (option_map {U = ℕ × Row K} (λ x. (0 + j, x))) (slice_get-get_or rs j r s)
          ∙ (λ t. Some ((zero-add j ∙ sym same) t, (ap (λ n. get_or rs n r) (sym same) ∙ sym f) t))
      go (inr l) = absurd (none-some i (sym (e ∙ cond-false _ _ _ (le-ltb j (length rs) l))))

  -- no row before place i is of the key
  none_before : (rs : List (Row K)) (i : ℕ) (d : Row K) → i ≤ length rs → found m (take i rs) k ≡ None → (j : ℕ) → j < i → alike (m (get_or rs j d).key) (m k) ≡ false
  none_before rs i d l h j s =
      false_from_ne_true _ (λ t. found_none (take i rs) d h j (omega (arith, length-take-le i rs l, s)) (ap (λ r. m r.key) (get_or-take i rs j d s) ∙ eq_alike _ _ t))

  -- a search that found nothing before place i
  pub found_here : (rs : List (Row K)) (i : ℕ) (d : Row K) → i < length rs → found m (take i rs) k ≡ None → alike (m (get_or rs i d).key) (m k) ≡ true → found m rs k ≡ Some (i, get_or rs i d)
  found_here rs i d l h t =
      let es = enumerate_from 0 rs in
      let n = length-enumerate_from 0 rs in
      let there : (j : ℕ) → j < length rs → get_or es j (0, d) ≡ (j, get_or rs j d) = λ j s. get_or-enumerate_from 0 rs j (0, d) s ∙ ap (λ n. (n, get_or rs j d)) (zero-add j) in
      let place = position_or_len_is test es i (0, d) (omega (arith, n, l)) (λ j s. ap test (there j (omega (arith, l, s))) ∙ none_before rs i d (omega (arith, l)) h j s) (λ s. ap test (there i l) ∙ t) in
      find_at test es ∙ ap (slice_get es) place ∙ slice_get-get_or es i (0, d) (omega (arith, n, l)) ∙ ap Some (there i l)

  found_suc : (rs : List (Row K)) (i : ℕ) (d : Row K) → i < length rs → found m (take i rs) k ≡ None → alike (m (get_or rs i d).key) (m k) ≡ false → found m (take (suc i) rs) k ≡ None
  found_suc rs i d l h t = go (found m (take (suc i) rs) k) refl
    where
      go : (o : Option (ℕ × Row K)) → found m (take (suc i) rs) k ≡ o → o ≡ None
      go None e = refl
      go (Some p) e =
          let f = found_some (take (suc i) rs) d p e in
          let n : p.0 < suc i = omega (arith, f.within, length-take-le (suc i) rs l) in
          let keyed = alike_eq _ _ (ap (λ r. m r.key) (sym (get_or-take (suc i) rs p.0 d n) ∙ sym f.there) ∙ f.keyed) in
          absurd (⊎_elim
          (λ b. both_ways _ (none_before rs i d (omega (arith, l)) h p.0 b) keyed)
          (λ b. let s : p.0 ≡ i = omega (arith, n, b) in both_ways _ (ap (λ j. alike (m (get_or rs j d).key) (m k)) s ∙ t) keyed)
          (cases_lt p.0 i))

  pub found_more : (rs : List (Row K)) (i : ℕ) (d : Row K) → i < length rs → found m (take i rs) k ≡ None → alike (m (get_or rs i d).key) (m k) ≡ false → found m (take (i + 1) rs) k ≡ None
  found_more rs i d l h t = rw (add-one i) (found_suc rs i d l h t)
