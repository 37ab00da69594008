-- How often a key stands in a window.
use Rattle.std.proofs.Common.{◌≡◌, ℕ, ◌+◌, List, ◌∷◌, cond, ap, ◌∙◌, arith}
use Rattle.std.specs.List.{count_by}
use Rattle.std.proofs.lemmas.Bool.{false_from_ne_true}
use Rattle.std.proofs.lemmas.List.Sums.{sum_by-cons}
use Rattle.keys.specs.Meanings.{alike}
use Rattle.counting.specs.Laws.{times}
use Rattle.keys.proofs.Alike.{alike_eq, eq_alike}

module _ {K : Type 0} (m : K → List ℕ) where
  -- one more key counts where it is the same
  times_more : (k x : K) (w : List K) → times m x (k ∷ w) ≡ cond (alike (m k) (m x)) 1 0 + times m x w
  times_more k x w = sum_by-cons (λ y. cond (alike (m y) (m x)) 1 0) k w

  pub times_same : (k x : K) (w : List K) → m k ≡ m x → times m x (k ∷ w) ≡ times m x w + 1
  times_same k x w e = omega (arith, times_more k x w ∙ ap (λ b. cond b 1 0 + times m x w) (alike_eq (m k) (m x) e))

  pub times_other : (k x : K) (w : List K) → (m k ≡ m x → ⊥) → times m x (k ∷ w) ≡ times m x w
  times_other k x w ne =
      let no = false_from_ne_true (alike (m k) (m x)) (λ t. ne (eq_alike (m k) (m x) t)) in
      omega (arith, times_more k x w ∙ ap (λ b. cond b 1 0 + times m x w) no)

  pub times_cong : (a b : K) (w : List K) → m a ≡ m b → times m a w ≡ times m b w
  times_cong a b w e = ap (λ y. count_by (λ x. alike (m x) y) w) e
