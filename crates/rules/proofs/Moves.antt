-- Where each page is after a request.
use Rattle.std.proofs.Common.{◌≡◌, ℕ, ◌+◌, ◌<◌, cond, eqb, ◌⊎◌, length, get_or, Some, Option, sym, refl, ap, ◌∙◌, subst, inl, inr, arith}
use Rattle.std.proofs.lemmas.Bool.{cases_eq, eq-eqb, ne_eqb}
use Rattle.rules.specs.State.{CachedPage, Places}
use Rattle.rules.specs.Pages.{cached_page, entry_page, seek}
use Rattle.rules.specs.Choices.{Choice, hit, evict}
use Rattle.rules.specs.Placing.{place, unqueue}
use Rattle.rules.proofs.Chosen.{Chosen, as_hit, as_free, as_evict, as_pass}
use Rattle.std.proofs.Math.ListN.{get_or-map}
use Rattle.rules.proofs.Singles.{Absent, absent_at, absent_enter, absent_find, absent_kept, last_enter, once_last, set_found, swap_gone, swap_new, swap_same}
use Rattle.rules.proofs.Where.{Where, never, gone, cached, queued, entered, none_absent, other, pushed, removed, Spot, spot, swapped, unqueued}

-- in a cache of so many places, and a queue of n: x is the requested page as it is cached, at number s + 1, and l gives the number
-- of each page's latest request before it
module _ (room n s : ℕ) (x : CachedPage) (at : x.entry.number ≡ s + 1) (a : Places) (l : ℕ → Option ℕ) (was : (q : ℕ) → Where q n s (l q) a) where
  abbrev page : ℕ
  page = x.entry.page

  abbrev at_place : ℕ → CachedPage
  at_place i = get_or a.cache i x

  spot_at : (i : ℕ) → i < length a.cache → Spot s l a i (at_place i)
  spot_at = spot n s l a was x

  -- the requested page's entry is removed
  cleared : Absent entry_page page (unqueue page a.queue)
  cleared = removed n s (l page) a (was page)

  -- the requested page
  self : (d : Choice) → Chosen room page a.cache d → Where page n (s + 1) (Some (s + 1)) (place n d x a)
  self _ (as_hit y f k) = go (was page)
    where
      go : Where page n s (l page) a → Where page n (s + 1) (Some (s + 1)) (place n (hit (seek cached_page page a.cache)) x a)
      go (never e c u) = absurd (cc (f, absent_find cached_page page a.cache c))
      go (gone t e c u g) = absurd (cc (f, absent_find cached_page page a.cache c))
      go (queued i w e c o g) = absurd (cc (f, absent_find cached_page page a.cache c))
      go (cached i w e o u g) =
          cached i x (ap Some (sym at)) (rw (set_found cached_page page x a.cache k) (swap_same cached_page page i w x a.cache refl o)) cleared (omega arith)
  self _ (as_free f k) = cached 0 x (ap Some (sym at)) (once_last cached_page page x a.cache refl (none_absent cached_page _ _ f)) cleared (omega arith)
  self _ (as_evict i f k) =
      let c = none_absent cached_page page a.cache f in
      let v = at_place i in
      let o = spot_at i k in
      let ne : v.entry.page ≡ page → ⊥ = absent_at cached_page page i x a.cache k c in
      cached o.behind x (ap Some (sym at)) (rw (o.swaps x) (swap_new cached_page v.entry.page page o.behind v x a.cache refl c o.once))
      (rw (get_or-map (λ y. y.entry) a.cache i x) (absent_enter entry_page n page v.entry _ ne cleared)) (omega arith)
  self _ (as_pass f) =
      queued 0 x.entry (ap Some (sym at)) (none_absent cached_page _ _ f) (last_enter entry_page n page x.entry _ refl cleared) (omega arith)

  -- any other page
  others : (q : ℕ) → (q ≡ page → ⊥) → (d : Choice) → Chosen room page a.cache d → Where q n (s + 1) (l q) (place n d x a)
  others q np _ (as_hit y f k) =
      other q n s (l q) a _ (rw (set_found cached_page page x a.cache k) (swapped q x a.cache (λ e. np (sym e)) page np)) (unqueued n page q np a.queue) (was q)
  others q np _ (as_free f k) = other q n s (l q) a _ (pushed q x a.cache (λ e. np (sym e))) (unqueued n page q np a.queue) (was q)
  others q np _ (as_pass f) = other q n s (l q) a _ (λ c. c, λ i e o. (i, o)) (entered n page q np a.queue x.entry (λ e. np (sym e))) (was q)
  others q np _ (as_evict i f k) = go (cases_eq q v.entry.page)
    where
      v : CachedPage
      v = at_place i

      o : Spot s l a i v
      o = spot_at i k

      go : (q ≡ v.entry.page) ⊎ (q ≡ v.entry.page → ⊥) → Where q n (s + 1) (l q) (place n (evict i) x a)
      go (inr nv) =
          other q n s (l q) a _ (rw (o.swaps x) (swapped q x a.cache (λ e. np (sym e)) v.entry.page nv))
          (rw (get_or-map (λ y. y.entry) a.cache i x) (entered n page q np a.queue v.entry (λ e. nv (sym e)))) (was q)
      go (inl e) =
          let nx : page ≡ v.entry.page → ⊥ = λ h. np (e ∙ sym h) in
          subst (λ w. Where w n (s + 1) (l w) (place n (evict i) x a)) (sym e)
          (queued 0 v.entry o.latest (rw (o.swaps x) (swap_gone cached_page v.entry.page o.behind v x a.cache nx o.once))
          (rw (get_or-map (λ y. y.entry) a.cache i x) (last_enter entry_page n v.entry.page v.entry _ refl (absent_kept entry_page page v.entry.page a.queue o.unqueued_too)))
          (omega (arith, o.before)))

  pub moves : (d : Choice) → Chosen room page a.cache d → (q : ℕ) → Where q n (s + 1) (cond (eqb page q) (Some (s + 1)) (l q)) (place n d x a)
  moves d k q = go (cases_eq q page)
    where
      go : (q ≡ page) ⊎ (q ≡ page → ⊥) → Where q n (s + 1) (cond (eqb page q) (Some (s + 1)) (l q)) (place n d x a)
      go (inl e) = rw (eq-eqb page q (sym e)) (subst (λ w. Where w n (s + 1) (Some (s + 1)) (place n d x a)) (sym e) (self d k))
      go (inr ne) = rw (ne_eqb page q (λ e. ne (sym e))) (others q ne d k)
