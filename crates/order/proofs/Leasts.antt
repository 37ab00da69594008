-- The place of the least element is the first that no other comes before.
use denote.Param.Members.{Mut, MutLaws, Shared, post_steps}
use denote.Ref.{Bor}
use Rattle.std.proofs.Common.{◌≡◌, ℕ, zero, suc, ◌+◌, ◌<◌, Bool, true, false, cond, List, [], ◌∷◌, length, map, get_or, Some, None, Option, is_lt, refl, sym, ap, ap₂, ◌∙◌, subst, arith}
use Rattle.std.specs.List.{FoldsTo, HoldsAt, IsFirstBest, enumerate_from, list_any}
use Rattle.std.specs.Cmp.{IsStrictWeakOrder, IsTotalOrder}
use Rattle.std.specs.Fn.{CalledAt, ComputesKey}
use Rattle.std.specs.Iterator.{ActsAsAt, KeyTurn, PicksMinByKey}
use Rattle.std.specs.Iterator.Runs.{Run, WholeRun}
use Rattle.std.specs.Option.{IfSome, MatchOption, option_map}
use Rattle.std.specs.Ordering.{min_by_ordering, ordering_reverse}
use Rattle.std.specs.declared.cmp.Ordering.{Ordering}
use Rattle.std.specs.declared.cmp.Ordering.TheVariants.{Less, Equal, Greater}
use Rattle.std.proofs.lemmas.Bool.{both_ways, false_from_ne_true, true_from_ne_false}
use Rattle.std.proofs.lemmas.Iterator.{YieldsList, items_from_drains}
use Rattle.std.proofs.lemmas.List.{get_or_default, length-map}
use Rattle.std.proofs.lemmas.List.FromFn.{get_or-enumerate_from, length-enumerate_from}
use Rattle.std.proofs.lemmas.List.Folds.{Any-from_list_any, list_any_at}
use Rattle.std.proofs.lemmas.List.MinMax.{IsFirstBest-keeps, IsFirstBest-none, IsFirstBest-takes, IsFirstBest-unique, ranks_by}
use Rattle.order.specs.Least.{FirstLeast, least, least_in, less_by, lesser}

module _ {A : Type 0} (before : A → A → Bool) where
  pub least_lt : (xs : List A) → 0 < length xs → least before xs < length xs
  least_lt [] l = absurd (omega arith)
  least_lt (x ∷ []) l = omega arith
  least_lt (x ∷ y ∷ ys) l = go (list_any (λ z. before z x) (y ∷ ys)) (least_lt (y ∷ ys) (omega arith))
    where
      go : (b : Bool) → least before (y ∷ ys) < length (y ∷ ys) → cond b (suc (least before (y ∷ ys))) 0 < length (x ∷ y ∷ ys)
      go true h = omega arith
      go false h = omega arith

  -- the least of the first i elements, with its place
  abbrev pub Least-so-far : List A → ℕ → ℕ × A → Type 0
  Least-so-far xs i p = IsFirstBest before xs i p.0 × HoldsAt (λ x. p.1 ≡ x) xs p.0

  module _ (o : IsStrictWeakOrder before) where
    -- where nothing of the rest comes before x, x is the least
    here : (x : A) (xs : List A) → list_any (λ y. before y x) xs ≡ false → IsFirstBest before (x ∷ xs) (length (x ∷ xs)) 0
    here x xs h = (omega arith, none, λ k d l. absurd (omega arith))
      where
        none : (k : ℕ) (d : A) → k < length (x ∷ xs) → before (get_or (x ∷ xs) k d) (get_or (x ∷ xs) 0 d) ≡ false
        none zero d l = false_from_ne_true (before x x) (λ e. both_ways (before x x) (o.one_way x x e) e)
        none (suc k) d l =
            false_from_ne_true (before (get_or xs k d) x)
            (λ e. both_ways (list_any (λ y. before y x) xs) h (list_any_at (λ y. before y x) xs k d (omega arith) e))

    -- where something of the rest comes before x, the least is in the rest
    later : (x : A) (xs : List A) (b : ℕ) → list_any (λ y. before y x) xs ≡ true → IsFirstBest before xs (length xs) b → IsFirstBest before (x ∷ xs) (length (x ∷ xs)) (suc b)
    later x xs b h f = (omega (arith, f.0), none, first)
      where
        beats : (d : A) → before (get_or xs b d) x ≡ true
        beats d =
            let (k, y, l, e, t) = Any-from_list_any (λ z. before z x) xs h in
            true_from_ne_false (before (get_or xs b d) x)
            (λ n. both_ways (before y x) (rw (get_or_default xs k d y l, e) at (o.chain (get_or xs k d) (get_or xs b d) x (f.1 k d l) n)) t)

        none : (k : ℕ) (d : A) → k < length (x ∷ xs) → before (get_or (x ∷ xs) k d) (get_or (x ∷ xs) (suc b) d) ≡ false
        none zero d l = o.one_way (get_or xs b d) x (beats d)
        none (suc k) d l = f.1 k d (omega arith)

        first : (k : ℕ) (d : A) → k < suc b → before (get_or (x ∷ xs) (suc b) d) (get_or (x ∷ xs) k d) ≡ true
        first zero d l = beats d
        first (suc k) d l = f.2 k d (omega arith)

    pub least_first : (xs : List A) → 0 < length xs → IsFirstBest before xs (length xs) (least before xs)
    least_first [] l = absurd (omega arith)
    least_first (x ∷ []) l = here x [] refl
    least_first (x ∷ y ∷ ys) l = go (list_any (λ z. before z x) (y ∷ ys)) refl (least_first (y ∷ ys) (omega arith))
      where
        go : (b : Bool) → list_any (λ z. before z x) (y ∷ ys) ≡ b → IsFirstBest before (y ∷ ys) (length (y ∷ ys)) (least before (y ∷ ys)) → IsFirstBest before (x ∷ y ∷ ys) (length (x ∷ y ∷ ys)) (cond b (suc (least before (y ∷ ys))) 0)
        go true e f = later x (y ∷ ys) (least before (y ∷ ys)) e f
        go false e f = here x (y ∷ ys) e

    -- one more element, x at i, beside the least so far, y at b
    pub lesser_more : (xs : List A) (i b : ℕ) (x y : A) → i < length xs → IsFirstBest before xs i b → HoldsAt (λ z. x ≡ z) xs i → HoldsAt (λ z. y ≡ z) xs b →
        Least-so-far xs (i + 1) (lesser before (b, y) (i, x))
    lesser_more xs i b x y l f ex ey = go (before x y) refl
      where
        go : (t : Bool) → before x y ≡ t → Least-so-far xs (i + 1) (cond t (i, x) (b, y))
        go true e = (IsFirstBest-takes o xs i b x y f l (ex x) (ey y) e, ex)
        go false e = (IsFirstBest-keeps o xs i b x y f l (ex x) (ey y) e, ey)

    -- what the search for the least finds is the least
    pub least_is : (xs : List A) (b : ℕ) → IsFirstBest before xs (length xs) b → b ≡ least before xs
    least_is [] b f = absurd (omega (arith, f.0))
    least_is (x ∷ xs) b f = IsFirstBest-unique o (x ∷ xs) (length (x ∷ xs)) b (least before (x ∷ xs)) x f (least_first (x ∷ xs) (omega arith))

-- a call for a rank answers what the key gives
pub computed : {F A R : Type 0} (g : Shared F (Bor A × Unit {0}) R) (law : MutLaws g) (key : A → R) (f : F) (x : Bor A) (r : R) → g.post f (x, tt) r → ComputesKey g key f → r ≡ key x.now
computed g law key f x r p h = let q = post_steps g f (x, tt) r law p in (h.at ((x, tt) ∷ []) r q.0 q.1).0

-- ---- ranks that a key gives
module _ {A R : Type 0} {cmp : R → R → Ordering} (o : IsTotalOrder cmp) (key : A → R) where
  -- the least rank of the first i elements, with its place
  abbrev LeastRankSoFar : List A → ℕ → ℕ × R → Type 0
  LeastRankSoFar xs i p = IsFirstBest (less_by cmp key) xs i p.0 × HoldsAt (λ x. p.1 ≡ key x) xs p.0

  -- the first element alone
  least_at_first : (xs : List A) (r : R) → HoldsAt (λ x. r ≡ key x) xs 0 → LeastRankSoFar xs 1 (0, r)
  least_at_first xs r e = (IsFirstBest-none (ranks_by o key) xs, e)

  -- one more element, x at i, of rank r
  lesser_rank_more : (xs : List A) (i : ℕ) (p : ℕ × R) (x : A) (r : R) → i < length xs → LeastRankSoFar xs i p → x ≡ get_or xs i x → r ≡ key x → LeastRankSoFar xs (i + 1) (lesser (λ a b. is_lt (cmp a b)) p (i, r))
  lesser_rank_more xs i p x r l f e k = go (is_lt (cmp r p.1)) refl
    where
      y : A
      y = get_or xs p.0 x

      within : p.0 < length xs
      within = omega (arith, f.0.0)

      there : y ≡ get_or xs p.0 y
      there = get_or_default xs p.0 x y within

      ranks : is_lt (cmp r p.1) ≡ less_by cmp key x y
      ranks = ap₂ (λ a b. is_lt (cmp a b)) k (f.1 x)

      go : (t : Bool) → is_lt (cmp r p.1) ≡ t → LeastRankSoFar xs (i + 1) (cond t (i, r) p)
      go true t = (IsFirstBest-takes (ranks_by o key) xs i p.0 x y f.0 l e there (sym ranks ∙ t), λ d. k ∙ ap key (e ∙ get_or_default xs i x d l))
      go false t = (IsFirstBest-keeps (ranks_by o key) xs i p.0 x y f.0 l e there (sym ranks ∙ t), f.1)

  -- at the end the least so far is the least
  least_so_far : (xs : List A) (i : ℕ) (p : ℕ × R) → i ≡ length xs → LeastRankSoFar xs i p → p.0 ≡ least (less_by cmp key) xs
  least_so_far xs i p e f = least_is (less_by cmp key) (ranks_by o key) xs p.0 (rw e at f.0)

  least_in_so_far : (xs : List A) (i : ℕ) (p : ℕ × R) → i ≡ length xs → LeastRankSoFar xs i p → Some p.0 ≡ least_in (less_by cmp key) xs
  least_in_so_far [] i p e f = absurd (omega (arith, f.0.0))
  least_in_so_far (x ∷ xs) i p e f = ap Some (least_so_far (x ∷ xs) i p e f)

  -- ---- the search of `min_by_key` over the elements with their places, by a value f whose calls give the key
  module _ {F : Type 0} (g : Mut F (Bor (ℕ × Bor A) × Unit {0}) R) (f : F) (acts : ActsAsAt g f (λ z. key z.1.now)) where
    abbrev pub seen : ℕ × Bor A → ℕ × A
    seen z = (z.0, z.1.now)

    abbrev Turn : (F × R) × (ℕ × Bor A) → ℕ × Bor A → (F × R) × (ℕ × Bor A) → Type 0
    Turn = KeyTurn min_by_ordering min_by_ordering g cmp

    -- of two elements the search keeps the lesser
    kept : (P : ℕ × R → Type 0) (a b : Ordering) → a ≡ ordering_reverse b → (p z : ℕ × Bor A) (k r : R)
        → P (lesser (λ _ _. is_lt b) (p.0, k) (z.0, r)) → P ((min_by_ordering a p z).0, min_by_ordering a k r)
    kept P a Less e p z k r h = rw e h
    kept P a Equal e p z k r h = rw e h
    kept P a Greater e p z k r h = rw e h

    -- one turn takes the least of the first n elements to that of one more
    turn : (all : List A) (n : ℕ) (p : (F × R) × (ℕ × Bor A)) (z : ℕ × Bor A) (q : (F × R) × (ℕ × Bor A)) → n < length all → p.0.0 ≡ f
        → LeastRankSoFar all n (p.1.0, p.0.1) → z.0 ≡ n → z.1.now ≡ get_or all n z.1.now → Turn p z q → (q.0.0 ≡ f) × LeastRankSoFar all (n + 1) (q.1.0, q.0.1)
    turn all n p z q l e so place there t =
        let a = acts z t.0 q.0.0 (subst (λ (y : F). CalledAt g y z t.0 q.0.0) e t.2) in
        let more = lesser_rank_more all n (p.1.0, p.0.1) z.1.now t.0 l so there a.1 in
        let placed = subst (λ (m : ℕ). LeastRankSoFar all (n + 1) (lesser (λ x y. is_lt (cmp x y)) (p.1.0, p.0.1) (m, t.0))) (sym place) more in
        let best = kept (LeastRankSoFar all (n + 1)) t.1 (cmp t.0 p.0.1) (sym t.3 ∙ o.antisymm p.0.1 t.0) p.1 z p.0.1 t.0 placed in
        let ranked = subst (λ (k : R). LeastRankSoFar all (n + 1) ((min_by_ordering t.1 p.1 z).0, k)) (sym t.4) best in
        (a.0, subst (λ (y : ℕ × Bor A). LeastRankSoFar all (n + 1) (y.0, q.0.1)) (sym t.5) ranked)

    -- and all turns to the least of all
    turns : (all : List A) (zs : List (ℕ × Bor A)) (n : ℕ) (p q : (F × R) × (ℕ × Bor A)) → n + length zs ≡ length all
        → ((k : ℕ) (d : ℕ × A) → k < length zs → get_or (map seen zs) k d ≡ (n + k, get_or all (n + k) d.1))
        → p.0.0 ≡ f → LeastRankSoFar all n (p.1.0, p.0.1) → FoldsTo Turn p zs q → LeastRankSoFar all (length all) (q.1.0, q.0.1)
    turns all [] n p q e at h so t = subst (λ (w : (F × R) × (ℕ × Bor A)). LeastRankSoFar all (length all) (w.1.0, w.0.1)) t
        (subst (λ (m : ℕ). LeastRankSoFar all m (p.1.0, p.0.1)) (omega (arith, e)) so)
    turns all (z ∷ zs) n p q e at h so t =
        let here = at 0 (seen z) (omega arith) in
        let zero_more : n + 0 ≡ n = omega arith in
        let next = turn all n p z t.0 (omega (arith, e)) h so (ap (λ w. w.0) here ∙ zero_more) (ap (λ w. w.1) here ∙ ap (λ m. get_or all m z.1.now) zero_more) t.1 in
        turns all zs (n + 1) t.0 q (omega (arith, e))
        (λ k d l. let m : n + suc k ≡ n + 1 + k = omega arith in at (suc k) d (omega arith) ∙ ap {B = ℕ × A} (λ j. (j, get_or all j d.1)) m)
        next.0 next.1 t.2

    -- so what the search gives, if anything, stands at the place of the least
    pub least_picked : {S : Type 0} {steps : S → Option (ℕ × Bor A) → S → Type 0} {s : S} (all : List A) (r : Option (ℕ × Bor A))
        → YieldsList steps seen s (enumerate_from 0 all) → PicksMinByKey steps g cmp s f r → option_map (λ z. z.0) r ≡ least_in (less_by cmp key) all
    least_picked {steps = steps} {s = s} all None y h = none all (ap length (items_from_drains [] (h.1.0, h.1.1, λ w. (h.0, h.1.2)) y) ∙ length-enumerate_from 0 all)
      where
        none : (xs : List A) → 0 ≡ length xs → None ≡ least_in (less_by cmp key) xs
        none [] e = refl
        none (x ∷ xs) e = absurd (omega (arith, e))
    least_picked {steps = steps} {s = s} all (Some b) y (z, zs, k, f', q, d, first, t) =
        let items = items_from_drains (z ∷ zs) (d.1.0, d.1.1, λ w. (d.0, d.1.2)) y in
        let long : suc (length (map seen zs)) ≡ length all = ap length items ∙ length-enumerate_from 0 all in
        let count : length (map seen zs) ≡ length zs = length-map zs seen in
        let at = λ (i : ℕ) (e : ℕ × A) (l : i < length all). ap (λ w. get_or w i e) items ∙ get_or-enumerate_from 0 all i e l in
        let a = acts z k f' first in
        let here = at 0 (seen z) (omega (arith, long)) in
        let so : LeastRankSoFar all 1 (z.0, k) = subst (λ (w : ℕ). LeastRankSoFar all 1 (w, k)) (sym (ap (λ w. w.0) here))
        (least_at_first all k (λ e. a.1 ∙ ap key (ap (λ w. w.1) here ∙ get_or_default all 0 z.1.now e (omega (arith, long))))) in
        least_in_so_far all (length all) (b.0, q.1) refl
        (turns all zs 1 ((f', k), z) (q, b) (omega (arith, long, count)) (λ i e l.
        let m : 0 + suc i ≡ 1 + i = omega arith in
        let n : suc i ≡ 1 + i = omega arith in
        at (suc i) e (omega (arith, long, count)) ∙ ap {B = ℕ × A} (λ j. (j, get_or all (suc i) e.1)) m ∙ ap {B = ℕ × A} (λ j. (1 + i, get_or all j e.1)) n)
        a.0 so t)

-- `min_by_key` over the elements with their places finds the least; its clause `runs` only says which steps it takes
pub least_found : {A R F S : Type 0} {cmp : R → R → Ordering} {steps : S → Option (ℕ × Bor A) → S → Type 0} {g : Mut F (Bor (ℕ × Bor A) × Unit {0}) R} {s : S} {f : F}
    {P : Run steps → Type 0} (r : Option (ℕ × Bor A)) → WholeRun steps s P → PicksMinByKey steps g cmp s f r → IsTotalOrder cmp → (key : A → R) (all : List A)
    → YieldsList {B = ℕ × A} steps (λ z. (z.0, z.1.now)) s (enumerate_from 0 all) → ActsAsAt g f (λ z. key z.1.now) → option_map (λ z. z.0) r ≡ least_in (less_by cmp key) all
least_found {g = g} {f = f} r run h o key all y acts = least_picked o key g f acts all r y h

-- what was found is the first of the least
pub least_found_first : {A : Type 0} {before : A → A → Bool} → IsStrictWeakOrder before → (xs : List A) (r : Option ℕ) → r ≡ least_in before xs → IfSome r (λ place. FirstLeast before xs place)
least_found_first {before = before} o xs r e = subst (λ (t : Option ℕ). IfSome t (λ place. FirstLeast before xs place)) (sym e) (go xs)
  where
    go : (ys : List _) → IfSome (least_in before ys) (λ place. FirstLeast before ys place)
    go [] = tt
    go (y ∷ ys) = least_first before o (y ∷ ys) (omega arith)

-- and in a list with an element it is there
pub least_found_some : {A : Type 0} (before : A → A → Bool) (xs : List A) → 0 < length xs → least_in before xs ≡ Some (least before xs)
least_found_some before [] l = absurd (omega arith)
least_found_some before (x ∷ xs) l = refl

-- the place of the least lies in the list
pub least_within : {A : Type 0} (before : A → A → Bool) (xs : List A) (o : Option ℕ) → o ≡ least_in before xs → MatchOption o Unit (λ i. i < length xs)
least_within {A = A} before xs o e = subst (λ (t : Option ℕ). MatchOption t Unit (λ i. i < length xs)) (sym e) (go xs)
  where
    go : (ys : List A) → MatchOption (least_in before ys) Unit (λ i. i < length ys)
    go [] = tt
    go (y ∷ ys) = least_lt before (y ∷ ys) (omega arith)
