-- Where a page is, by the number of its latest request: the invariant behind one place and the distances.
use Rattle.std.proofs.Common.{◌≡◌, ℕ, ◌+◌, ◌<◌, ◌≤◌, ◌⊎◌, List, [], ◌∷◌, ◌++◌, length, get_or, set, Some, None, Option, sym, refl, ap, ◌∙◌, subst, inl, inr, arith}
use Rattle.rules.specs.declared.entry.Entry.{Entry}
use Rattle.rules.specs.State.{CachedPage, Places}
use Rattle.rules.specs.Pages.{cached_page, entry_page, find}
use Rattle.rules.specs.Placing.{enter, unqueue}
use Rattle.rules.proofs.Singles.{Absent, Once, this, that, absent_at, absent_enter, absent_kept, absent_push, absent_swap, once_enter, once_kept, once_out, once_push, set_once, swap, swap_other}

abbrev pub Uncached : ℕ → Places → Type 0
Uncached q a = Absent cached_page q a.cache

abbrev pub Unqueued : ℕ → Places → Type 0
Unqueued q a = Absent entry_page q a.queue

-- with n queue places and after s requests, page q, whose latest request has number l
pub data Where (q n s : ℕ) (l : Option ℕ) (a : Places) : Type 0 where
  never : l ≡ None → Uncached q a → Unqueued q a → Where q n s l a
  gone : (t : ℕ) → l ≡ Some t → Uncached q a → Unqueued q a → n + t ≤ s → Where q n s l a
  cached : (i : ℕ) (x : CachedPage) → l ≡ Some x.entry.number → Once cached_page q i x a.cache → Unqueued q a → x.entry.number ≤ s → Where q n s l a
  queued : (i : ℕ) (e : Entry) → l ≡ Some e.number → Uncached q a → Once entry_page q i e a.queue → i + e.number ≤ s → Where q n s l a

pub none_absent : {A : Type 0} (page : A → ℕ) (p : ℕ) (xs : List A) → find page p xs ≡ None → Absent page p xs
none_absent page p [] h = tt
none_absent page p (x ∷ xs) h = grind (arith, none_absent page p xs)

-- a page whose entry is taken out of the queue is no longer there
pub removed : {q : ℕ} (n s : ℕ) (l : Option ℕ) (a : Places) → Where q n s l a → Unqueued q (record { cache = a.cache; queue = unqueue q a.queue })
removed n s l a (never e c u) = absent_kept entry_page _ _ a.queue u
removed n s l a (gone t e c u g) = absent_kept entry_page _ _ a.queue u
removed n s l a (cached i y e o u g) = absent_kept entry_page _ _ a.queue u
removed n s l a (queued i y e c o g) = once_out entry_page _ i y a.queue o

-- ---- what a request does to a page q that is not its own
-- the cache keeps it
abbrev pub Kept : ℕ → List CachedPage → List CachedPage → Type 0
Kept q cs cs' = (Absent cached_page q cs → Absent cached_page q cs') × ((i : ℕ) (x : CachedPage) → Once cached_page q i x cs → (j : ℕ) × Once cached_page q j x cs')

-- the queue of n places keeps it, or drops it behind n - 1 later ones
abbrev pub Shifted : ℕ → ℕ → List Entry → List Entry → Type 0
Shifted n q qs qs' =
    (Absent entry_page q qs → Absent entry_page q qs')
    × ((i : ℕ) (e : Entry) → Once entry_page q i e qs → Once entry_page q (i + 1) e qs' ⊎ (Absent entry_page q qs' × (n ≤ i + 1)))

pub other : (q n s : ℕ) (l : Option ℕ) (a a' : Places) → Kept q a.cache a'.cache → Shifted n q a.queue a'.queue → Where q n s l a → Where q n (s + 1) l a'
other q n s l a a' k m (never e c u) = never e (k.0 c) (m.0 u)
other q n s l a a' k m (gone t e c u h) = gone t e (k.0 c) (m.0 u) (omega arith)
other q n s l a a' k m (cached i x e o u h) = let w = k.1 i x o in cached w.0 x e w.1 (m.0 u) (omega arith)
other q n s l a a' k m (queued i x e c o h) = go (m.1 i x o)
  where
    go : Once entry_page q (i + 1) x a'.queue ⊎ (Absent entry_page q a'.queue × (n ≤ i + 1)) → Where q n (s + 1) l a'
    go (inl r) = queued (i + 1) x e (k.0 c) r (omega arith)
    go (inr r) = gone x.number e (k.0 c) r.0 (omega (arith, r.1))

-- at most i behind it are at most i + 1
looser : (q i : ℕ) (e : Entry) (qs : List Entry) → Once entry_page q i e qs → Once entry_page q (i + 1) e qs
looser q i e _ (this xs h a l) = this xs h a (omega arith)
looser q i e _ (that x xs ne o) = that x xs ne (looser q i e xs o)

module _ (n p q : ℕ) (np : q ≡ p → ⊥) (qs : List Entry) where
  pub unqueued : Shifted n q qs (unqueue p qs)
  unqueued = (absent_kept entry_page p q qs, λ i e o. inl (looser q i e (unqueue p qs) (once_kept entry_page p q i e qs np o)))

  pub entered : (y : Entry) → (y.page ≡ q → ⊥) → Shifted n q qs (enter n y (unqueue p qs))
  entered y ny = (
    λ u. absent_enter entry_page n q y (unqueue p qs) ny (absent_kept entry_page p q qs u),
    λ i e o. once_enter entry_page n q i e y (unqueue p qs) ny (once_kept entry_page p q i e qs np o),
  )

module _ (q : ℕ) (x : CachedPage) (cs : List CachedPage) (nx : x.entry.page ≡ q → ⊥) where
  pub swapped : (v : ℕ) → (q ≡ v → ⊥) → Kept q cs (swap cached_page v x cs)
  swapped v nv = (absent_swap cached_page v q x cs nx, λ i e o. (i, swap_other cached_page v q i e x cs nv nx o))

  pub pushed : Kept q cs (cs ++ x ∷ [])
  pushed = (absent_push cached_page q x cs nx, λ i e o. (i + 1, once_push cached_page q i e x cs nx o))

-- ---- the cached page at a place
-- v is at place i: no other thing has its page, and its number is that of the page's latest request
pub record Spot (s : ℕ) (l : ℕ → Option ℕ) (a : Places) (i : ℕ) (v : CachedPage) : Type 0 where
  pub behind : ℕ
  pub once : Once cached_page v.entry.page behind v a.cache
  pub latest : l v.entry.page ≡ Some v.entry.number
  pub unqueued_too : Unqueued v.entry.page a
  pub before : v.entry.number ≤ s
  pub swaps : (x : CachedPage) → set a.cache i x ≡ swap cached_page v.entry.page x a.cache

module _ (n s : ℕ) (l : ℕ → Option ℕ) (a : Places) (was : (q : ℕ) → Where q n s (l q) a) (d : CachedPage) where
  pub spot : (i : ℕ) → i < length a.cache → Spot s l a i (get_or a.cache i d)
  spot i h = go (was q)
    where
      q : ℕ
      q = (get_or a.cache i d).entry.page

      go : Where q n s (l q) a → Spot s l a i (get_or a.cache i d)
      go (never e c u) = absurd (absent_at cached_page _ i d a.cache h c refl)
      go (gone t e c u g) = absurd (absent_at cached_page _ i d a.cache h c refl)
      go (queued j y e c o g) = absurd (absent_at cached_page _ i d a.cache h c refl)
      go (cached j y e o u g) =
          let set_at = λ (x : CachedPage). set_once cached_page q j i y d x a.cache o refl h in
          let same = sym (set_at d).1 in
          record {
            behind = j;
            once = subst (λ v. Once cached_page q j v a.cache) same o;
            latest = e ∙ ap (λ v. Some v.entry.number) same;
            unqueued_too = u;
            before = subst (λ v. v.entry.number ≤ s) same g;
            swaps = λ x. (set_at x).0;
          }
