-- What holds of each row, and of the sum of the counts, where one row changes or is added.
use Rattle.std.proofs.Common.{◌≡◌, ℕ, zero, suc, ◌+◌, ◌*◌, ◌<◌, ◌≤◌, ◌⊎◌, List, [], ◌∷◌, ◌++◌, length, get_or, sum_by, refl, inl, inr, suc-mul, arith}
use Rattle.std.proofs.lemmas.List.{get_or-set_other, get_or-set_same, get_or_append_left, get_or_push, length_push}
use Rattle.std.proofs.lemmas.List.Sums.{sum_by-cons, sum_by-set}
use Rattle.std.proofs.lemmas.Bool.{cases_eq}
use Rattle.counting.specs.Rows.{amend}
use Rattle.counting.specs.declared.row.Row.{Row}
use Rattle.counting.proofs.Puts.{amend_is, length_amend}

module _ {A : Type 0} (d : A) where
  pub get_or_amend_same : (f : A → A) (xs : List A) (i : ℕ) → i < length xs → get_or (amend f xs i) i d ≡ f (get_or xs i d)
  get_or_amend_same f xs i l = rw (amend_is f xs i d) (get_or-set_same xs i (f (get_or xs i d)) d l)

  pub get_or_amend_other : (f : A → A) (xs : List A) (i j : ℕ) → (j ≡ i → ⊥) → get_or (amend f xs i) j d ≡ get_or xs j d
  get_or_amend_other f xs i j ne = rw (amend_is f xs i d) (get_or-set_other xs i j (f (get_or xs i d)) d ne)

  -- what holds of the changed element and of the others
  pub amend_each : (P : ℕ → A → Type 0) (f : A → A) (xs : List A) (i : ℕ) → i < length xs → P i (f (get_or xs i d))
      → ((j : ℕ) → (j ≡ i → ⊥) → j < length xs → P j (get_or xs j d)) → (j : ℕ) → j < length (amend f xs i) → P j (get_or (amend f xs i) j d)
  amend_each P f xs i l h g j lj = go (cases_eq j i)
    where
      go : (j ≡ i) ⊎ (j ≡ i → ⊥) → P j (get_or (amend f xs i) j d)
      go (inl e) = rw (e, get_or_amend_same f xs i l) h
      go (inr ne) = rw (get_or_amend_other f xs i j ne) (g j ne (rw (length_amend f xs i) at lj))

  pub push_each : (P : ℕ → A → Type 0) (xs : List A) (y : A) → ((j : ℕ) → j < length xs → P j (get_or xs j d)) → P (length xs) y
      → (j : ℕ) → j < length (xs ++ y ∷ []) → P j (get_or (xs ++ y ∷ []) j d)
  push_each P xs y g h j lj = go (cases_eq j (length xs))
    where
      go : (j ≡ length xs) ⊎ (j ≡ length xs → ⊥) → P j (get_or (xs ++ y ∷ []) j d)
      go (inl e) = rw (e, get_or_push xs y d (length xs) refl) h
      go (inr ne) =
          let n = length_push xs y in
          let l : j < length xs = omega arith in
          rw (get_or_append_left xs (y ∷ []) d j l) (g j l)

-- the sum of the counts
abbrev pub total : {K : Type 0} → List (Row K) → ℕ
total rs = sum_by (λ r. r.count) rs

module _ {K : Type 0} where
  pub total_amend : (f : Row K → Row K) (d : Row K) (rs : List (Row K)) (i : ℕ) → i < length rs → (f (get_or rs i d)).count ≡ (get_or rs i d).count + 1 → total (amend f rs i) ≡ total rs + 1
  total_amend f d rs i l h = rw (amend_is f rs i d) (omega (arith, h, sum_by-set (λ r. r.count) rs i (f (get_or rs i d)) d l))

  -- rows that each count at least x
  pub total_ge : (x : ℕ) (d : Row K) (rs : List (Row K)) → ((i : ℕ) → i < length rs → x ≤ (get_or rs i d).count) → length rs * x ≤ total rs
  total_ge x d [] h = omega arith
  total_ge x d (r ∷ rs) h =
      let a = h 0 (omega arith) in
      let b = total_ge x d rs (λ i l. h (suc i) (omega arith)) in
      omega (arith, sum_by-cons (λ q. q.count) r rs, suc-mul (length rs) x)

-- a change of one row, seen through a part that the change leaves
module _ {K : Type 0} (f : Row K → Row K) where
  pub amend_part : {X : Type 0} (part : Row K → X) → ((r : Row K) → part (f r) ≡ part r) → (rs : List (Row K)) (i j : ℕ) (d : Row K) → part (get_or (amend f rs i) j d) ≡ part (get_or rs j d)
  amend_part part h [] i j d = refl
  amend_part part h (r ∷ rs) zero zero d = h r
  amend_part part h (r ∷ rs) zero (suc j) d = refl
  amend_part part h (r ∷ rs) (suc i) zero d = refl
  amend_part part h (r ∷ rs) (suc i) (suc j) d = amend_part part h rs i j d

  pub total_same : ((r : Row K) → (f r).count ≡ r.count) → (rs : List (Row K)) (i : ℕ) → total (amend f rs i) ≡ total rs
  total_same h [] i = refl
  total_same h (r ∷ rs) zero = omega (arith, sum_by-cons (λ q. q.count) (f r) rs, sum_by-cons (λ q. q.count) r rs, h r)
  total_same h (r ∷ rs) (suc i) = omega (arith, sum_by-cons (λ q. q.count) r (amend f rs i), sum_by-cons (λ q. q.count) r rs, total_same h rs i)
