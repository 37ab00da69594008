-- Entries with the numbers of hint sets stay so as pages are placed.
use Rattle.std.proofs.Common.{◌≡◌, ℕ, zero, suc, Bool, true, false, cond, eqb, ltb, List, [], ◌∷◌, ◌++◌, length, get_or, drop, set, Some, refl, subst, arith}
use Rattle.std.proofs.lemmas.Bool.{eq-eqb}
use Rattle.std.proofs.lemmas.Bool.Decides.{nat_tests}
use Rattle.std.proofs.lemmas.List.Elements.{All-weaker}
use Rattle.std.proofs.lemmas.List.Sums.{list_all-from_AllPass}
use Rattle.values.specs.HintSets.{five_values, lawful}
use Rattle.values.specs.declared.hint_set.HintSet.{HintSet}
use Rattle.rules.specs.declared.choice.Choice.{Choice}
use Rattle.rules.specs.declared.choice.Choice.TheVariants.{Hit, Free, Evict, Pass}
use Rattle.rules.specs.declared.entry.Entry.{Entry}
use Rattle.rules.specs.State.{CachedPage, Places, entries}
use Rattle.rules.specs.Pages.{entry_page, find, without}
use Rattle.rules.specs.Placing.{cache_after, enter, place, queue_after, unqueue}
use Rattle.server.specs.Hints.{all_hinted, each_hinted, hinted}

-- the numbers of a hint set are lawful
pub hint_set_lawful : (h : HintSet) → lawful h.numbers ≡ true
hint_set_lawful h =
    let n = h.numbers in
    let blank = list_all-from_AllPass (λ v. eqb v 0) (drop n.count (five_values n)) (All-weaker _ _ (λ v. eq-eqb v 0) _ h.blank) in
    grind (arith, nat_tests, h.few, blank)

-- ---- lists of entries
one_more : (es : List Entry) (e : Entry) → hinted e ≡ true → each_hinted es ≡ true → each_hinted (es ++ e ∷ []) ≡ true
one_more [] e n h = grind (arith, n)
one_more (y ∷ es) e n h = grind (arith, one_more es e n)

one_less : (p : ℕ) (es : List Entry) → each_hinted es ≡ true → each_hinted (without entry_page p es) ≡ true
one_less p [] h = refl
one_less p (y ∷ es) h = grind (arith, one_less p es)

but_first : (es : List Entry) → each_hinted es ≡ true → each_hinted (drop 1 es) ≡ true
but_first [] h = refl
but_first (y ∷ es) h = grind arith

entered : (room : ℕ) (e : Entry) (es : List Entry) → hinted e ≡ true → each_hinted es ≡ true → each_hinted (enter room e es) ≡ true
entered room e es n h = one_more (cond (ltb (length es) room) es (drop 1 es)) e n (grind (arith, but_first es))

at : (es : List Entry) (i : ℕ) (d : Entry) → hinted d ≡ true → each_hinted es ≡ true → hinted (get_or es i d) ≡ true
at [] i d n h = n
at (y ∷ es) zero d n h = grind arith
at (y ∷ es) (suc i) d n h = grind (arith, at es i d n)

-- an entry that is found is one of them
pub found_hinted : (p : ℕ) (es : List Entry) (e : Entry) → each_hinted es ≡ true → find entry_page p es ≡ Some e → hinted e ≡ true
found_hinted p [] e h f = cc
found_hinted p (y ∷ es) e h f = go (found_hinted p es e (grind arith)) (eqb y.page p) f
  where
    go : (find entry_page p es ≡ Some e → hinted e ≡ true) → (b : Bool) → cond b (Some y) (find entry_page p es) ≡ Some e → hinted e ≡ true
    go k true g = let is : y ≡ e = cc in subst (λ z. hinted z ≡ true) is (grind arith)
    go k false g = k g

-- ---- the cache and the queue
cached_set : (cs : List CachedPage) (i : ℕ) (x : CachedPage) → hinted x.entry ≡ true → each_hinted (entries cs) ≡ true → each_hinted (entries (set cs i x)) ≡ true
cached_set [] i x n h = refl
cached_set (y ∷ cs) zero x n h = grind arith
cached_set (y ∷ cs) (suc i) x n h = grind (arith, cached_set cs i x n)

cached_more : (cs : List CachedPage) (x : CachedPage) → hinted x.entry ≡ true → each_hinted (entries cs) ≡ true → each_hinted (entries (cs ++ x ∷ [])) ≡ true
cached_more [] x n h = grind (arith, n)
cached_more (y ∷ cs) x n h = grind (arith, cached_more cs x n)

cache_hinted : (d : Choice) (x : CachedPage) (cs : List CachedPage) → hinted x.entry ≡ true → each_hinted (entries cs) ≡ true → each_hinted (entries (cache_after d x cs)) ≡ true
cache_hinted (Hit i) x cs n h = cached_set cs i x n h
cache_hinted Free x cs n h = cached_more cs x n h
cache_hinted (Evict i) x cs n h = cached_set cs i x n h
cache_hinted Pass x cs n h = h

queue_hinted : (room : ℕ) (d : Choice) (e : Entry) (es qs : List Entry) → hinted e ≡ true → each_hinted es ≡ true → each_hinted qs ≡ true → each_hinted (queue_after room d e es qs) ≡ true
queue_hinted room (Hit i) e es qs n h k = k
queue_hinted room Free e es qs n h k = k
queue_hinted room (Evict i) e es qs n h k = entered room (get_or es i e) qs (at es i e n h) k
queue_hinted room Pass e es qs n h k = entered room e qs n k

pub hinted_placed : (room : ℕ) (d : Choice) (x : CachedPage) (a : Places) → hinted x.entry ≡ true → all_hinted a ≡ true → all_hinted (place room d x a) ≡ true
hinted_placed room d x a n h =
    grind (arith, cache_hinted d x a.cache n, one_less x.entry.page a.queue, queue_hinted room d x.entry (entries a.cache) (unqueue x.entry.page a.queue) n)
