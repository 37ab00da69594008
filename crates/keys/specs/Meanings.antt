-- Keys: what each kind means.
--
--   page_meaning   what a page number means: itself
--   hint_meaning   what the plain numbers of a hint set mean: all seven, lawful or not
--   alike          whether two meanings are equal
use Rattle.std.specs.Prelude.{ℕ, Bool, List, [], ◌∷◌, nat_eq}
use Rattle.std.specs.Cmp.Lexicographic.{pointwise}
use Rattle.values.specs.declared.hint_numbers.HintNumbers.{HintNumbers}

abbrev pub page_meaning : ℕ → List ℕ
page_meaning p = p ∷ []

-- the client, the count and the five values
abbrev pub hint_meaning : HintNumbers → List ℕ
hint_meaning n =
    n.client ∷ n.count ∷ n.first ∷ n.second ∷ n.third ∷ n.fourth ∷ n.fifth ∷ []

abbrev pub alike : List ℕ → List ℕ → Bool
alike = pointwise nat_eq
