-- Priorities are told apart by their parts, and ranks that begin with one by its value.
use Rattle.std.proofs.Common.{◌≡◌, ℕ, not, ◌&&◌, ◌||◌, ltb, is_lt, ◌∙◌, true}
use mathlib.Core.HLevel.{is_prop→PathP}
use Rattle.std.proofs.Math.Bool.{Bool-set}
use Rattle.std.specs.Bool.{IsTrue}
use Rattle.std.specs.Ordering.{nat_cmp, ordering_then}
use Rattle.order.proofs.Orders.{less_number, less_then}
use Rattle.priority.specs.Fractions.{by_value_total, lower_is}
use Rattle.priority.specs.Priorities.{by_value, lower, parts_of, within}
use Rattle.priority.specs.declared.priority.Priority.{Priority}

-- priorities with the same parts are the same
pub same_parts : (x y : Priority) → parts_of x ≡ parts_of y → x ≡ y
same_parts x y p = λ i. record {
  parts = p i;
  in_limits = is_prop→PathP (λ j. IsTrue (within (p j))) (λ j. Bool-set (within (p j)) true) x.in_limits y.in_limits i;
}

-- ranks of a priority and a number: the lower priority, then the lesser number
pub less_rank : (x y : Priority) (m n : ℕ) → is_lt (ordering_then (by_value x y) (nat_cmp m n)) ≡ (lower x y || (not (lower y x) && ltb m n))
less_rank x y m n = less_then by_value_total x y (nat_cmp m n) ∙ (λ i. lower_is x y i || (not (lower_is y x i) && less_number m n i))
