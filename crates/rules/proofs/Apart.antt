-- No two cached pages have the same number.
use Rattle.std.proofs.Common.{◌≡◌, ℕ, zero, suc, ◌+◌, ◌<◌, ◌≤◌, List, [], ◌∷◌, length, get_or, Some, Ok, Err, refl, ap, ◌∙◌, arith}
use Rattle.store.specs.Laws.{Throughout}
use Rattle.rules.specs.State.{CachedPage, Places}
use Rattle.rules.specs.Pages.{cached_page}
use Rattle.rules.specs.Histories.{Event, asked, peeked, looked}
use Rattle.rules.specs.Accepted.{Accepted, accepted, latest_number}
use Rattle.rules.specs.Laws.{Numbers}
use Rattle.rules.proofs.Singles.{Once, this, that, absent_at}
use Rattle.rules.proofs.Where.{Where, spot}

-- ---- the latest requests of two pages have two numbers
abbrev pub InOrder : List Accepted → Type 0
InOrder [] = Unit
InOrder (x ∷ xs) = (x.answer.number ≡ length xs + 1) × InOrder xs

pub in_order : (h : List Event) → Throughout Numbers h → InOrder (accepted h)
in_order [] w = tt
in_order (asked r given (Ok a) returned ∷ h) w = ((w.0 a refl).0, in_order h w.1)
in_order (asked r given (Err f) returned ∷ h) w = in_order h w.1
in_order (peeked p given a returned ∷ h) w = in_order h w.1
in_order (looked l a ∷ h) w = in_order h w.1

latest_below : (p n : ℕ) (xs : List Accepted) → InOrder xs → latest_number p xs ≡ Some n → n ≤ length xs
latest_below p n [] o e = cc
latest_below p n (x ∷ xs) o e = grind (arith, o.0, latest_below p n xs o.1)

latest_same : (p q n : ℕ) (xs : List Accepted) → InOrder xs → latest_number p xs ≡ Some n → latest_number q xs ≡ Some n → p ≡ q
latest_same p q n [] o e f = cc
latest_same p q n (x ∷ xs) o e f = grind (arith, o.0, latest_below q n xs o.1, latest_below p n xs o.1, latest_same p q n xs o.1)

-- ---- a page that stands once stands at one place
once_at : {A : Type 0} (page : A → ℕ) (p n : ℕ) (e d : A) (xs : List A) (i j : ℕ) → Once page p n e xs → i < length xs → j < length xs → page (get_or xs i d) ≡ p → page (get_or xs j d) ≡ p → i ≡ j
once_at page p n e d _ zero zero (this xs h a l) li lj ei ej = refl
once_at page p n e d _ zero (suc j) (this xs h a l) li lj ei ej = absurd (absent_at page p j d xs (omega arith) a ej)
once_at page p n e d _ (suc i) j (this xs h a l) li lj ei ej = absurd (absent_at page p i d xs (omega arith) a ei)
once_at page p n e d _ zero j (that x xs ne o) li lj ei ej = absurd (ne ei)
once_at page p n e d _ (suc i) zero (that x xs ne o) li lj ei ej = absurd (ne ej)
once_at page p n e d _ (suc i) (suc j) (that x xs ne o) li lj ei ej = ap suc (once_at page p n e d xs i j o (omega arith) (omega arith) ei ej)

module _ (n s : ℕ) (xs : List Accepted) (o : InOrder xs) (a : Places) (was : (q : ℕ) → Where q n s (latest_number q xs) a) (d : CachedPage) where
  abbrev at : ℕ → CachedPage
  at i = get_or a.cache i d

  pub numbers_apart : (i j : ℕ) → i < length a.cache → j < length a.cache → (at i).entry.number ≡ (at j).entry.number → i ≡ j
  numbers_apart i j li lj e =
      let x = spot n s (λ q. latest_number q xs) a was d i li in
      let y = spot n s (λ q. latest_number q xs) a was d j lj in
      let same : (at i).entry.page ≡ (at j).entry.page = latest_same _ _ (at j).entry.number xs o (x.latest ∙ ap Some e) y.latest in
      once_at cached_page (at j).entry.page y.behind (at j) d a.cache i j y.once li lj same refl
