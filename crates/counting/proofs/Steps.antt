-- What a counting comes to, or a credit comes to, by the way it takes.
use Rattle.std.proofs.Common.{◌≡◌, ℕ, ◌<◌, ◌≤◌, List, [], ◌∷◌, ◌++◌, length, Some, None, ap, ◌∙◌}
use Rattle.std.proofs.lemmas.Bool.{cond-false, cond-true, lt-ltb, le-ltb}
use Rattle.order.specs.Least.{least}
use Rattle.counting.specs.Rows.{amend, credited, found, fresh, raised, replaced, sooner}
use Rattle.counting.specs.Rule.{counted_as, counting, credit, credited_as}
use Rattle.counting.specs.declared.row.Row.{Row}

module _ {K : Type 0} (m : K → List ℕ) (room : ℕ) (rs : List (Row K)) (k : K) (number : ℕ) where
  pub counting_raises : (p : ℕ × Row K) → found m rs k ≡ Some p → counting m room rs k number ≡ amend raised rs p.0
  unfolding counting
  counting_raises p e = ap (counted_as room rs k number) e

  pub counting_enters : found m rs k ≡ None → length rs < room → counting m room rs k number ≡ rs ++ fresh k number ∷ []
  unfolding counting
  counting_enters e l = ap (counted_as room rs k number) e ∙ cond-true _ _ _ (lt-ltb _ _ l)

  pub counting_replaces : found m rs k ≡ None → room ≤ length rs → counting m room rs k number ≡ amend (replaced k number) rs (least sooner rs)
  unfolding counting
  counting_replaces e l = ap (counted_as room rs k number) e ∙ cond-false _ _ _ (le-ltb _ _ l)

module _ {K : Type 0} (m : K → List ℕ) (rs : List (Row K)) (k : K) (distance : ℕ) where
  pub credit_adds : (p : ℕ × Row K) → found m rs k ≡ Some p → credit m rs k distance ≡ amend (credited distance) rs p.0
  unfolding credit
  credit_adds p e = ap (credited_as rs distance) e

  pub credit_passes : found m rs k ≡ None → credit m rs k distance ≡ rs
  unfolding credit
  credit_passes e = ap (credited_as rs distance) e
