-- What a comparison of ranks tells, and that the least depends on the order alone.
use Rattle.std.proofs.Common.{◌≡◌, ℕ, Bool, true, false, cond, not, ◌&&◌, ◌||◌, ltb, ◌==◌, suc, List, [], ◌∷◌, map, Some, refl, ap, ap₂, ◌∙◌}
use Rattle.std.specs.Cmp.{IsTotalOrder}
use Rattle.std.specs.List.{list_any}
use Rattle.std.specs.Ordering.{is_lt, nat_cmp, ordering_reverse, ordering_then}
use Rattle.std.specs.declared.cmp.Ordering.{Ordering}
use Rattle.std.specs.declared.cmp.Ordering.TheVariants.{Less, Equal, Greater}
use Rattle.std.proofs.lemmas.Cmp.{nat_cmp_total}
use Rattle.order.specs.Least.{least, least_in, less_by}
use Rattle.order.specs.Then.{first_then}

-- one number is less than another
pub less_number : (x y : ℕ) → is_lt (nat_cmp x y) ≡ ltb x y
less_number x y = go (ltb x y) (x == y)
  where
    go : (a b : Bool) → is_lt (cond a Less (cond b Equal Greater)) ≡ a
    go true b = refl
    go false true = refl
    go false false = refl

-- one rank is less than another by its first part, and where those are equal by what is left
pub less_then : {R : Type 0} {cmp : R → R → Ordering} → IsTotalOrder cmp → (x y : R) (rest : Ordering)
    → is_lt (ordering_then (cmp x y) rest) ≡ (is_lt (cmp x y) || (not (is_lt (cmp y x)) && is_lt rest))
less_then {cmp = cmp} o x y rest = go (cmp x y) (cmp y x) (o.antisymm x y)
  where
    go : (a b : Ordering) → a ≡ ordering_reverse b → is_lt (ordering_then a rest) ≡ (is_lt a || (not (is_lt b) && is_lt rest))
    go a Less e = rw e
    go a Equal e = rw e
    go a Greater e = rw e

-- ranks of two parts are one order after another
pub less_by_two : {A R S : Type 0} {first : R → R → Ordering} → IsTotalOrder first → (second : S → S → Ordering) (f : A → R) (g : A → S) (x y : A)
    → less_by {R = R × S} (λ p q. ordering_then (first p.0 q.0) (second p.1 q.1)) (λ z. (f z, g z)) x y ≡ first_then (less_by first f) (less_by second g) x y
less_by_two o second f g x y = less_then o (f x) (f y) (second (g x) (g y))

-- ranks of two numbers
pub less_by_numbers : {A : Type 0} (f g : A → ℕ) (x y : A)
    → less_by {R = ℕ × ℕ} (λ p q. ordering_then (nat_cmp p.0 q.0) (nat_cmp p.1 q.1)) (λ z. (f z, g z)) x y
    ≡ first_then (λ a b. ltb (f a) (f b)) (λ a b. ltb (g a) (g b)) x y
less_by_numbers f g x y = less_by_two nat_cmp_total nat_cmp f g x y
    ∙ (λ i. less_number (f x) (f y) i || (not (less_number (f y) (f x) i) && less_number (g x) (g y) i))

module _ {A : Type 0} {before sooner : A → A → Bool} (same : (x y : A) → before x y ≡ sooner x y) where
  pub least_same : (xs : List A) → least before xs ≡ least sooner xs
  least_same xs i = least (λ x y. same x y i) xs

  pub least_in_same : (xs : List A) → least_in before xs ≡ least_in sooner xs
  least_in_same xs i = least_in (λ x y. same x y i) xs

-- the least of what a function gives
module _ {A B : Type 0} (f : A → B) (before : B → B → Bool) (sooner : A → A → Bool) (same : (x y : A) → before (f x) (f y) ≡ sooner x y) where
  any_map : (x : B) (ys : List A) → list_any (λ y. before y x) (map f ys) ≡ list_any (λ y. before (f y) x) ys
  any_map x [] = refl
  any_map x (y ∷ ys) = ap (λ b. before (f y) x || b) (any_map x ys)

  least_map : (xs : List A) → least before (map f xs) ≡ least (λ x y. before (f x) (f y)) xs
  least_map [] = refl
  least_map (x ∷ xs) = ap₂ (λ b k. cond b (suc k) 0) (any_map (f x) xs) (least_map xs)

  pub least_in_map : (xs : List A) → least_in before (map f xs) ≡ least_in sooner xs
  least_in_map [] = refl
  least_in_map (x ∷ xs) = ap Some (least_map (x ∷ xs) ∙ least_same same (x ∷ xs))
