-- What stands at the place that is sought.
use Rattle.std.proofs.Common.{◌≡◌, ℕ, suc, List, [], ◌∷◌, ◌++◌, take, drop, refl, arith}
use Rattle.std.specs.List.{slice_get}
use Rattle.rules.specs.Pages.{find, seek, without}

module _ {A : Type 0} (page : A → ℕ) (p : ℕ) where
  -- the thing there is the one that is found
  pub nth_seek : (xs : List A) → slice_get xs (seek page p xs) ≡ find page p xs
  nth_seek [] = refl
  nth_seek (x ∷ xs) = grind (arith, nth_seek xs)

  -- the list without that place is the list without the page
  pub without_seek : (xs : List A) → take (seek page p xs) xs ++ drop (suc (seek page p xs)) xs ≡ without page p xs
  without_seek [] = refl
  without_seek (x ∷ xs) = grind (arith, without_seek xs)
