-- A list in which no thing, or just one thing, has page p.
use Rattle.std.proofs.Common.{◌≡◌, ℕ, zero, suc, ◌+◌, ◌<◌, ◌≤◌, Bool, true, false, cond, eqb, ltb, ◌⊎◌, List, [], ◌∷◌, ◌++◌, length, get_or, drop, set, Some, None, sym, refl, ◌∙◌, inl, inr, arith}
use Rattle.std.specs.List.{AllByRecursion}
use Rattle.std.proofs.lemmas.Bool.{ne_eqb}
use Rattle.std.proofs.lemmas.List.{length_push}
use Rattle.rules.specs.Pages.{find, how_many, seek, without}
use Rattle.rules.specs.Placing.{enter}

module _ {A : Type 0} (page : A → ℕ) where
  -- y in the place of the first that has page p
  abbrev pub swap : ℕ → A → List A → List A
  swap p y [] = []
  swap p y (x ∷ xs) = cond (eqb (page x) p) (y ∷ xs) (x ∷ swap p y xs)

  abbrev pub Absent : ℕ → List A → Type 0
  Absent p xs = AllByRecursion (λ x. page x ≡ p → ⊥) xs

  -- e is the one thing with page p, and at most n stand behind it
  pub data Once (p n : ℕ) (e : A) : List A → Type 0 where
    this : (xs : List A) → page e ≡ p → Absent p xs → length xs ≤ n → Once p n e (e ∷ xs)
    that : (x : A) (xs : List A) → (page x ≡ p → ⊥) → Once p n e xs → Once p n e (x ∷ xs)

  pub once_page : (p n : ℕ) (e : A) (xs : List A) → Once p n e xs → page e ≡ p
  once_page p n e _ (this xs q a l) = q
  once_page p n e _ (that x xs ne o) = once_page p n e xs o

  -- ---- what a search finds
  pub absent_find : (p : ℕ) (xs : List A) → Absent p xs → find page p xs ≡ None
  absent_find p [] a = refl
  absent_find p (x ∷ xs) a = grind (arith, a.0, absent_find p xs a.1)

  pub once_find : (p n : ℕ) (e : A) (xs : List A) → Once p n e xs → find page p xs ≡ Some e
  once_find p n e _ (this xs q a l) = grind arith
  once_find p n e _ (that x xs ne o) = grind (arith, once_find p n e xs o)

  -- ---- how many
  pub absent_none : (p : ℕ) (xs : List A) → Absent p xs → how_many page p xs ≡ 0
  absent_none p [] a = refl
  absent_none p (x ∷ xs) a = grind (arith, a.0, absent_none p xs a.1)

  pub once_one : (p n : ℕ) (e : A) (xs : List A) → Once p n e xs → how_many page p xs ≡ 1
  once_one p n e _ (this xs q a l) = grind (arith, absent_none p xs a)
  once_one p n e _ (that x xs ne o) = grind (arith, once_one p n e xs o)

  -- ---- without p
  pub shorter : (p : ℕ) (xs : List A) → length (without page p xs) ≤ length xs
  shorter p [] = omega arith
  shorter p (x ∷ xs) = grind (arith, shorter p xs)

  pub absent_kept : (p q : ℕ) (xs : List A) → Absent q xs → Absent q (without page p xs)
  absent_kept p q [] a = tt
  absent_kept p q (x ∷ xs) a = grind (arith, a.0, a.1, absent_kept p q xs a.1)

  pub once_out : (p n : ℕ) (e : A) (xs : List A) → Once p n e xs → Absent p (without page p xs)
  once_out p n e _ (this xs h a l) = grind arith
  once_out p n e _ (that x xs ne o) = grind (arith, once_out p n e xs o)

  pub once_kept : (p q n : ℕ) (e : A) (xs : List A) → (q ≡ p → ⊥) → Once q n e xs → Once q n e (without page p xs)
  once_kept p q n e _ np (this xs h a l) =
      rw (ne_eqb (page e) p (λ z. np (sym h ∙ z))) (this (without page p xs) h (absent_kept p q xs a) (omega (arith, shorter p xs)))
  once_kept p q n e _ np (that x xs ne o) = let r : Once q n e (x ∷ without page p xs) = that x (without page p xs) ne (once_kept p q n e xs np o) in grind (arith, r)

  -- ---- one more at the end
  pub absent_push : (q : ℕ) (y : A) (xs : List A) → (page y ≡ q → ⊥) → Absent q xs → Absent q (xs ++ y ∷ [])
  absent_push q y [] ne a = (ne, tt)
  absent_push q y (x ∷ xs) ne a = (a.0, absent_push q y xs ne a.1)

  pub once_push : (q n : ℕ) (e y : A) (xs : List A) → (page y ≡ q → ⊥) → Once q n e xs → Once q (n + 1) e (xs ++ y ∷ [])
  once_push q n e y _ ne (this xs h a l) = this (xs ++ y ∷ []) h (absent_push q y xs ne a) (omega (arith, length_push xs y))
  once_push q n e y _ ne (that x xs nx o) = that x (xs ++ y ∷ []) nx (once_push q n e y xs ne o)

  pub once_last : (p : ℕ) (y : A) (xs : List A) → page y ≡ p → Absent p xs → Once p 0 y (xs ++ y ∷ [])
  once_last p y [] h a = this [] h tt (omega arith)
  once_last p y (x ∷ xs) h a = that x (xs ++ y ∷ []) a.0 (once_last p y xs h a.1)

  -- ---- a queue that drops its first
  absent_drop : (q : ℕ) (xs : List A) → Absent q xs → Absent q (drop 1 xs)
  absent_drop q [] a = tt
  absent_drop q (x ∷ xs) a = a.1

  once_drop : (q n : ℕ) (e : A) (xs : List A) → Once q n e xs → Once q n e (drop 1 xs) ⊎ (Absent q (drop 1 xs) × (length xs ≤ n + 1))
  once_drop q n e _ (this xs h a l) = inr (a, omega arith)
  once_drop q n e _ (that x xs nx o) = inl o

  pub absent_enter : (m q : ℕ) (y : A) (xs : List A) → (page y ≡ q → ⊥) → Absent q xs → Absent q (enter m y xs)
  absent_enter m q y xs ne a = absent_push q y (cond (ltb (length xs) m) xs (drop 1 xs)) ne (grind (arith, absent_drop q xs a))

  pub last_enter : (m p : ℕ) (y : A) (xs : List A) → page y ≡ p → Absent p xs → Once p 0 y (enter m y xs)
  last_enter m p y xs h a = grind (arith, once_last, absent_drop)

  pub once_enter : (m q n : ℕ) (e y : A) (xs : List A) → (page y ≡ q → ⊥) → Once q n e xs
      → Once q (n + 1) e (enter m y xs) ⊎ (Absent q (enter m y xs) × (m ≤ n + 1))
  once_enter m q n e y xs ne o = grind (arith, once_push, absent_push, once_drop q n e xs o)

  -- ---- y in the place of the first with page p
  pub absent_swap : (p q : ℕ) (y : A) (xs : List A) → (page y ≡ q → ⊥) → Absent q xs → Absent q (swap p y xs)
  absent_swap p q y [] ne a = tt
  absent_swap p q y (x ∷ xs) ne a = grind (arith, absent_swap p q y xs ne a.1, a.0, a.1)

  length_swap : (p : ℕ) (y : A) (xs : List A) → length (swap p y xs) ≡ length xs
  length_swap p y [] = refl
  length_swap p y (x ∷ xs) = grind (arith, length_swap p y xs)

  -- the page p itself gets a thing with another page, or a new one with its own
  pub swap_gone : (p n : ℕ) (e y : A) (xs : List A) → (page y ≡ p → ⊥) → Once p n e xs → Absent p (swap p y xs)
  swap_gone p n e y _ ne (this xs h a l) = grind (arith, a)
  swap_gone p n e y _ ne (that x xs nx o) = grind (arith, swap_gone p n e y xs ne o)

  pub swap_same : (p n : ℕ) (e y : A) (xs : List A) → page y ≡ p → Once p n e xs → Once p n y (swap p y xs)
  swap_same p n e y _ h (this xs q a l) = grind (arith, this xs h a l)
  swap_same p n e y _ h (that x xs nx o) = grind (arith, that x (swap p y xs) nx (swap_same p n e y xs h o))

  pub swap_new : (v p n : ℕ) (e y : A) (xs : List A) → page y ≡ p → Absent p xs → Once v n e xs → Once p n y (swap v y xs)
  swap_new v p n e y _ h a (this xs q b l) = grind (arith, this xs h a.1 l)
  swap_new v p n e y _ h a (that x xs nx o) = grind (arith, that x (swap v y xs) a.0 (swap_new v p n e y xs h a.1 o))

  pub swap_other : (v q n : ℕ) (e y : A) (xs : List A) → (q ≡ v → ⊥) → (page y ≡ q → ⊥) → Once q n e xs → Once q n e (swap v y xs)
  swap_other v q n e y _ nv ny (this xs h a l) =
      rw (ne_eqb (page e) v (λ z. nv (sym h ∙ z))) (this (swap v y xs) h (absent_swap v q y xs ny a) (omega (arith, length_swap v y xs)))
  swap_other v q n e y _ nv ny (that x xs nx o) = grind (arith, that y xs ny o, that x (swap v y xs) nx (swap_other v q n e y xs nv ny o))

  -- ---- the same by places
  pub set_found : (p : ℕ) (y : A) (xs : List A) → seek page p xs < length xs → set xs (seek page p xs) y ≡ swap p y xs
  set_found p y [] l = absurd (omega arith)
  set_found p y (x ∷ xs) l = grind (arith, set_found p y xs)

  pub absent_at : (q i : ℕ) (d : A) (xs : List A) → i < length xs → Absent q xs → page (get_or xs i d) ≡ q → ⊥
  absent_at q i d [] l a = absurd (omega arith)
  absent_at q zero d (x ∷ xs) l a = a.0
  absent_at q (suc i) d (x ∷ xs) l a = absent_at q i d xs (omega arith) a.1

  pub set_once : (q n i : ℕ) (e d y : A) (xs : List A) → Once q n e xs → page (get_or xs i d) ≡ q → i < length xs → (set xs i y ≡ swap q y xs) × (get_or xs i d ≡ e)
  set_once q n zero e d y _ (this xs h a l) g k = grind arith
  set_once q n (suc i) e d y _ (this xs h a l) g k = absurd (absent_at q i d xs (omega arith) a g)
  set_once q n zero e d y _ (that x xs ne o) g k = absurd (ne g)
  set_once q n (suc i) e d y _ (that x xs ne o) g k = grind (arith, set_once q n i e d y xs o)

  pub found : (p : ℕ) (xs : List A) → seek page p xs < length xs → (x : A) × (find page p xs ≡ Some x)
  found p [] l = absurd (omega arith)
  found p (x ∷ xs) l = go (eqb (page x) p) l (found p xs)
    where
      go : (b : Bool) → cond b 0 (suc (seek page p xs)) < length (x ∷ xs) → (seek page p xs < length xs → (y : A) × (find page p xs ≡ Some y)) → (y : A) × (cond b (Some x) (find page p xs) ≡ Some y)
      go true h ih = (x, refl)
      go false h ih = ih (omega arith)

  pub unfound : (p : ℕ) (xs : List A) → length xs ≤ seek page p xs → find page p xs ≡ None
  unfound p [] l = refl
  unfound p (x ∷ xs) l = grind (arith, unfound p xs)
