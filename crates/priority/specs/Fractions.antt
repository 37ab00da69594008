-- Fractions within the limits are in a total order by their values. The laws of std's comparisons cite this, and can cite
-- only what stands in specs/.
use Rattle.std.proofs.Common.{◌≡◌, ℕ, ◌*◌, ◌<◌, ◌≤◌, Bool, refl, sym, ap, ap₂, ◌∙◌, subst, le_antisymm, le_of_lt, le_of_mul-le-mul_right, is_lt, mul-le-mul, mul-le-mul_right, mul_right_comm, arith, rules}
use Rattle.std.proofs.Math.Nat.{lt_of_mul-lt-mul_right, mul-lt-mul_of_pos_right}
use Rattle.std.specs.Cmp.{IsStrictWeakOrder, IsTotalOrder, nat_cmp_is}
use Rattle.std.specs.Ordering.{MatchOrdering, nat_cmp}
use Rattle.std.specs.declared.cmp.Ordering.{Ordering}
use Rattle.std.specs.declared.cmp.Ordering.TheVariants.{Less, Equal, Greater}
use borrow.Author.Tests.{tests}
use Rattle.std.proofs.lemmas.Cmp.{nat_cmp_total, ranked}
use Rattle.std.proofs.lemmas.List.MinMax.{ranks_by}
use Rattle.order.proofs.Orders.{less_number}
use Rattle.priority.specs.Priorities.{by_value, lower}
use Rattle.priority.specs.declared.priority.Priority.{Priority}

-- a denominator is at least 1
positive : (x : Priority) → 1 ≤ x.parts.denominator
positive x = search (rules, tests)

-- a factor changes no comparison
times : (a b k : ℕ) → 1 ≤ k → nat_cmp (a * k) (b * k) ≡ nat_cmp a b
times a b k p = nat_cmp_is a b (nat_cmp (a * k) (b * k)) (go (nat_cmp (a * k) (b * k)) (ranked (a * k) (b * k) _ refl))
  where
    go : (r : Ordering) → MatchOrdering r (a * k < b * k) (a * k ≡ b * k) (b * k < a * k) → MatchOrdering r (a < b) (a ≡ b) (b < a)
    go Less h = lt_of_mul-lt-mul_right k h
    go Equal h = le_antisymm (le_of_mul-le-mul_right (omega arith) p) (le_of_mul-le-mul_right (omega arith) p)
    go Greater h = lt_of_mul-lt-mul_right k h

-- a/b ≥ c/d ≥ e/f
module _ (a b c d e f : ℕ) (h : c * b ≤ a * d) (k : e * d ≤ c * f) where
  through : 1 ≤ d → e * b ≤ a * f
  through p =
      let u = mul-le-mul_right b k in
      let v = mul-le-mul_right f h in
      let q : (e * b) * d ≤ (a * f) * d = omega (arith, mul_right_comm e d b, mul_right_comm c f b, mul_right_comm a d f) in
      le_of_mul-le-mul_right q p

-- a/b and c/d, and each with e/f
module _ (a b c d e f : ℕ) where
  through_strictly : 1 ≤ b → 1 ≤ d → a * d < c * b → c * f < e * d → a * f < e * b
  through_strictly p q h k =
      let u = mul-le-mul_right f (le_of_lt h) in
      let v = mul-lt-mul_of_pos_right k p in
      let w : (a * f) * d < (e * b) * d = omega (arith, mul_right_comm a f d, mul_right_comm c f b, mul_right_comm e b d) in
      lt_of_mul-lt-mul_right d w

  alike : 1 ≤ b → 1 ≤ d → a * d ≡ c * b → nat_cmp (a * f) (e * b) ≡ nat_cmp (c * f) (e * d)
  alike p q h =
      sym (times (a * f) (e * b) d q)
      ∙ ap₂ nat_cmp (mul_right_comm a f d ∙ ap (λ n. n * f) h ∙ mul_right_comm c b f) (mul_right_comm e b d)
      ∙ times (c * f) (e * d) b p

-- the cross product of x with y
abbrev cross : Priority → Priority → ℕ
cross x y = x.parts.numerator * y.parts.denominator

pub by_value_total : IsTotalOrder by_value
by_value_total = record {
  antisymm = λ x y. nat_cmp_total.antisymm (cross x y) (cross y x);
  trans = λ x y z h k.
      sym (nat_cmp_is (cross x z) (cross z x) Less
      (through_strictly x.parts.numerator x.parts.denominator y.parts.numerator y.parts.denominator z.parts.numerator z.parts.denominator
      (positive x) (positive y) (ranked (cross x y) (cross y x) Less (sym h)) (ranked (cross y z) (cross z y) Less (sym k))));
  congr = λ x y z h.
      alike x.parts.numerator x.parts.denominator y.parts.numerator y.parts.denominator z.parts.numerator z.parts.denominator
      (positive x) (positive y) (ranked (cross x y) (cross y x) Equal (sym h));
}

pub lower_is : (x y : Priority) → is_lt (by_value x y) ≡ lower x y
lower_is x y = less_number (cross x y) (cross y x)

pub lower_ranks : IsStrictWeakOrder lower
lower_ranks = subst (λ (before : Priority → Priority → Bool). IsStrictWeakOrder before) (λ i x y. lower_is x y i) (ranks_by by_value_total (λ x. x))

-- the largest product: 2^22 × 2^38
pub cross_small : (x y : Priority) → cross x y ≤ 1152921504606846976
cross_small x y = mul-le-mul (at_most x) (below y)
  where
    at_most : (z : Priority) → z.parts.numerator ≤ 4194304
    at_most z = search (rules, tests)

    below : (z : Priority) → z.parts.denominator ≤ 274877906944
    below z = search (rules, tests)
