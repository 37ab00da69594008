-- A write of one row: at its place in all the rows, and among the used ones.
use Rattle.std.proofs.Common.{◌≡◌, ℕ, zero, suc, ◌+◌, ◌<◌, ◌≤◌, max, List, [], ◌∷◌, ◌++◌, length, get_or, take, drop, set, sym, refl, ap, ◌∙◌, arith, length-append, length-drop}
use lib.Seq.{set_split}
use Rattle.counting.specs.Rows.{amend, put}
use Rattle.counting.specs.Tables.{over}

module _ {A : Type 0} where
  -- d is any element
  pub amend_is : (f : A → A) (xs : List A) (i : ℕ) (d : A) → amend f xs i ≡ set xs i (f (get_or xs i d))
  amend_is f [] i d = refl
  amend_is f (x ∷ xs) zero d = refl
  amend_is f (x ∷ xs) (suc i) d = ap (λ ys. x ∷ ys) (amend_is f xs i d)

  pub length_amend : (f : A → A) (xs : List A) (i : ℕ) → length (amend f xs i) ≡ length xs
  length_amend f [] i = refl
  length_amend f (x ∷ xs) zero = refl
  length_amend f (x ∷ xs) (suc i) = ap suc (length_amend f xs i)

  pub put_amend : (f : A → A) (xs : List A) (i : ℕ) (d : A) → i < length xs → put xs i (f (get_or xs i d)) ≡ amend f xs i
  put_amend f xs i d l = sym (amend_is f xs i d ∙ set_split xs i (f (get_or xs i d)) l)

  pub put_end : (xs : List A) (y : A) → put xs (length xs) y ≡ xs ++ y ∷ []
  put_end [] y = refl
  put_end (x ∷ xs) y = ap (λ ys. x ∷ ys) (put_end xs y)

  pub length_put : (xs : List A) (i : ℕ) (y : A) → i ≤ length xs → length (put xs i y) ≡ max (length xs) (i + 1)
  length_put [] zero y l = omega arith
  length_put [] (suc i) y l = absurd (omega arith)
  length_put (x ∷ xs) zero y l = omega arith
  length_put (x ∷ xs) (suc i) y l = let e = length_put xs i y (omega arith) in omega arith

  pub over_take : (xs : List A) (u : ℕ) → over (take u xs) xs ≡ xs
  over_take xs zero = refl
  over_take [] (suc u) = refl
  over_take (x ∷ xs) (suc u) = ap (λ ys. x ∷ ys) (over_take xs u)

  -- the rows past the used ones stay
  pub over_put : (all : List A) (u i : ℕ) (y : A) → i ≤ length (take u all) → i < length all → set all i y ≡ over (put (take u all) i y) all
  over_put [] u i y l h = absurd (omega arith)
  over_put (x ∷ xs) zero zero y l h = refl
  over_put (x ∷ xs) zero (suc i) y l h = absurd (omega arith)
  over_put (x ∷ xs) (suc u) zero y l h = ap (λ ys. y ∷ ys) (sym (over_take xs u))
  over_put (x ∷ xs) (suc u) (suc i) y l h = ap (λ ys. x ∷ ys) (over_put xs u i y (omega arith) (omega arith))

  pub length_over : (new all : List A) → length new ≤ length all → length (over new all) ≡ length all
  length_over new all h = length-append new (drop (length new) all) ∙ (let e = length-drop (length new) all in omega arith)

  -- as many rows as were used take their place
  pub take_over : (u : ℕ) (new all : List A) → length new ≡ length (take u all) → take u (over new all) ≡ new
  take_over zero [] all e = refl
  take_over zero (y ∷ new) all e = absurd (omega arith)
  take_over (suc u) [] [] e = refl
  take_over (suc u) [] (x ∷ all) e = absurd (omega arith)
  take_over (suc u) (y ∷ new) [] e = absurd (omega arith)
  take_over (suc u) (y ∷ new) (x ∷ all) e = ap (λ ys. y ∷ ys) (take_over u new all (omega arith))
