-- The least of a list by a total order.
--
--   less_by      whether one element's rank is less than another's
--   least        the place of the first element that no other comes before
--   least_in     the same, or none in an empty list
--   lesser       the lesser of two elements with their places, the earlier among equals
--   FirstLeast   what makes a place that of the least, the first among equals
use Rattle.std.specs.Prelude.{ℕ, suc, Bool, cond, List, [], ◌∷◌, length, Some, None, Option}
use Rattle.std.specs.List.{IsFirstBest, list_any}
use Rattle.std.specs.Ordering.{is_lt}
use Rattle.std.specs.declared.cmp.Ordering.{Ordering}

-- a key gives the ranks
abbrev pub less_by : {A R : Type 0} → (R → R → Ordering) → (A → R) → A → A → Bool
less_by cmp key x y = is_lt (cmp (key x) (key y))

-- the head, unless some later element comes before it
abbrev pub least : {A : Type 0} → (A → A → Bool) → List A → ℕ
least before [] = 0
least before (x ∷ xs) = cond (list_any (λ y. before y x) xs) (suc (least before xs)) 0

abbrev pub least_in : {A : Type 0} → (A → A → Bool) → List A → Option ℕ
least_in before [] = None
least_in before (x ∷ xs) = Some (least before (x ∷ xs))

-- the later one only where it comes before the earlier
abbrev pub lesser : {A : Type 0} → (A → A → Bool) → ℕ × A → ℕ × A → ℕ × A
lesser before earlier later = cond (before later.1 earlier.1) later earlier

-- the place lies in the list, nothing comes before what stands there, and that comes before whatever stands earlier
abbrev pub FirstLeast : {A : Type 0} → (A → A → Bool) → List A → ℕ → Type 0
FirstLeast before xs place = IsFirstBest before xs (length xs) place
