-- What holds of each row, after a counting and after a credit.
use Rattle.std.proofs.Common.{◌≡◌, ℕ, zero, suc, ◌+◌, ◌<◌, ◌≤◌, Bool, true, false, cond, ltb, List, [], ◌∷◌, ◌++◌, length, Some, None, Option, refl, arith}
use Rattle.std.specs.List.{AllByRecursion}
use Rattle.std.proofs.ByRecursion.{All-push, All-weaker}
use Rattle.order.specs.Least.{least}
use Rattle.counting.specs.Bounds.{Bounded}
use Rattle.counting.specs.Laws.{Uncredited}
use Rattle.counting.specs.Rows.{amend, credited, found, fresh, raised, replaced, sooner}
use Rattle.counting.specs.Rule.{counted_as, counting, credit, credited_as}
use Rattle.counting.specs.declared.row.Row.{Row}

-- P of each row before gives Q of each row after
module _ {K : Type 0} (P Q : Row K → Type 0) (kept : (r : Row K) → P r → Q r) where
  all_amend : (f : Row K → Row K) → ((r : Row K) → P r → Q (f r)) → (rs : List (Row K)) (i : ℕ) → AllByRecursion P rs → AllByRecursion Q (amend f rs i)
  all_amend f new [] i h = tt
  all_amend f new (r ∷ rs) zero h = (new r h.0, All-weaker P Q kept rs h.1)
  all_amend f new (r ∷ rs) (suc i) h = (kept r h.0, all_amend f new rs i h.1)

  pub counting_each : (m : K → List ℕ) (room : ℕ) (rs : List (Row K)) (k : K) (number : ℕ) → ((r : Row K) → P r → Q (raised r)) → Q (fresh k number) → ((r : Row K) → P r → Q (replaced k number r))
      → AllByRecursion P rs → AllByRecursion Q (counting m room rs k number)
  unfolding counting
  counting_each m room rs k number raise enter replace h = go (found m rs k)
    where
      enters : (b : Bool) → AllByRecursion Q (cond b (rs ++ fresh k number ∷ []) (amend (replaced k number) rs (least sooner rs)))
      enters true = All-push Q rs (fresh k number) (All-weaker P Q kept rs h) enter
      enters false = all_amend (replaced k number) replace rs (least sooner rs) h

      go : (o : Option (ℕ × Row K)) → AllByRecursion Q (counted_as room rs k number o)
      go (Some p) = all_amend raised raise rs p.0 h
      go None = enters (ltb (length rs) room)

  pub credit_each : (m : K → List ℕ) (rs : List (Row K)) (k : K) (distance : ℕ) → ((r : Row K) → P r → Q (credited distance r)) → AllByRecursion P rs → AllByRecursion Q (credit m rs k distance)
  unfolding credit
  credit_each m rs k distance more h = go (found m rs k)
    where
      go : (o : Option (ℕ × Row K)) → AllByRecursion Q (credited_as rs distance o)
      go (Some p) = all_amend (credited distance) more rs p.0 h
      go None = All-weaker P Q kept rs h

module _ {K : Type 0} (m : K → List ℕ) (rs : List (Row K)) (k : K) where
  -- a counting leaves repeats and distances alone, and a new key has none
  pub counting_uncredited : (room number : ℕ) → Uncredited rs → Uncredited (counting m room rs k number)
  counting_uncredited room number =
      counting_each (λ r. (r.repeats ≡ 0) × (r.distances ≡ 0)) (λ r. (r.repeats ≡ 0) × (r.distances ≡ 0)) (λ r h. h)
      m room rs k number (λ r h. h) (refl, refl) (λ r h. (refl, refl))

  -- one more counting
  pub counting_bounded : (countings credits room number : ℕ) → countings < 2048 → AllByRecursion (Bounded countings credits) rs → AllByRecursion (Bounded (countings + 1) credits) (counting m room rs k number)
  counting_bounded countings credits room number few =
      counting_each (Bounded countings credits) (Bounded (countings + 1) credits)
      (λ r v. record { real = v.real; count = omega (arith, v.count); repeats = v.repeats; least = v.least; most = v.most })
      m room rs k number
      (λ r v. record { real = omega (arith, v.real, v.count); count = omega (arith, v.count); repeats = v.repeats; least = v.least; most = v.most })
      (record { real = omega arith; count = omega arith; repeats = omega arith; least = omega arith; most = omega arith })
      (λ r v. record { real = omega (arith, v.real, v.count); count = omega (arith, v.count); repeats = omega arith; least = omega arith; most = omega arith })

  -- one more credit
  pub credit_bounded : (countings credits distance : ℕ) → credits < 2048 → 1 ≤ distance → distance ≤ 65535 → AllByRecursion (Bounded countings credits) rs → AllByRecursion (Bounded countings (credits + 1)) (credit m rs k distance)
  credit_bounded countings credits distance few near far =
      credit_each (Bounded countings credits) (Bounded countings (credits + 1))
      (λ r v. record { real = v.real; count = v.count; repeats = omega (arith, v.repeats); least = v.least; most = v.most })
      m rs k distance
      (λ r v. record {
        real = v.real;
        count = v.count;
        repeats = omega (arith, v.repeats);
        least = omega (arith, v.repeats, v.least, v.most);
        most = omega (arith, v.repeats, v.most);
      })
