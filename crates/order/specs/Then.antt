-- One order after another.
--
--   first_then   before by the first order, or equals by it and before by the second
use Rattle.std.specs.Prelude.{Bool, not, ◌&&◌, ◌||◌}

abbrev pub first_then : {A : Type 0} → (A → A → Bool) → (A → A → Bool) → A → A → Bool
first_then first second x y = first x y || (not (first y x) && second x y)
