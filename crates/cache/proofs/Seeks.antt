-- Seeking a page from a place on.
use Rattle.std.proofs.Common.{◌≡◌, ℕ, suc, ◌+◌, ◌<◌, List, length, get_or, drop, ◌∙◌}
use Rattle.std.proofs.lemmas.Bool.{eq-eqb, ne_eqb}
use Rattle.std.proofs.lemmas.List.{at_drop_more}
use Rattle.rules.specs.Pages.{seek}

module _ {A : Type 0} (page : A → ℕ) (p : ℕ) (xs : List A) (i : ℕ) (d : A) (l : i < length xs) where
  -- it stands here
  pub seek_here : page (get_or xs i d) ≡ p → seek page p (drop i xs) ≡ 0
  seek_here h = at_drop_more (λ ys. seek page p ys) xs i d l ∙ rw (eq-eqb (page (get_or xs i d)) p h)

  -- it does not
  pub seek_more : (page (get_or xs i d) ≡ p → ⊥) → seek page p (drop i xs) ≡ suc (seek page p (drop (i + 1) xs))
  seek_more h = at_drop_more (λ ys. seek page p ys) xs i d l ∙ rw (ne_eqb (page (get_or xs i d)) p h)
