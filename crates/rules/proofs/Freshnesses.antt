-- Reads and peeks get the latest bytes.
use Rattle.std.proofs.Common.{◌≡◌, ℕ, zero, suc, true, false, cond, eqb, List, [], ◌∷◌, ◌++◌, length, set, Some, None, Ok, Option, sym, refl, ap, ◌∙◌, subst, arith}
use Rattle.std.specs.List.{AllByRecursion}
use Rattle.std.proofs.lemmas.Bool.{both_ways, eq-eqb, ne_eqb}
use Rattle.values.specs.declared.hint_numbers.HintNumbers.{HintNumbers}
use Rattle.store.specs.declared.script.Access.{Access}
use Rattle.store.specs.declared.script.Access.TheVariants.{Read, Write}
use Rattle.store.specs.Meaning.{Meaning, put, tallied}
use Rattle.store.specs.Laws.{latest}
use Rattle.rules.specs.declared.request.Request.{Request}
use Rattle.rules.specs.Refusals.{Refused}
use Rattle.rules.specs.State.{CachedPage, Places, State, opened}
use Rattle.rules.specs.Pages.{cached_page, in_cache, seek}
use Rattle.rules.specs.Choices.{Choice}
use Rattle.rules.specs.Placing.{cache_after}
use Rattle.rules.specs.Requests.{after, cached_or, choice, newcomer, refusal}
use Rattle.rules.specs.Looks.{peek_answer, peek_buffer}
use Rattle.rules.specs.Histories.{Event, request_event}
use Rattle.rules.specs.Accepted.{Accepted, accepted, accesses, latest_number}
use Rattle.rules.specs.Laws.{Every, Freshness, GetsLatest}
use Rattle.rules.proofs.Along.{Keeps, Obeys, OnRequest, along, asks, throughout}
use Rattle.rules.proofs.Chosen.{Chosen, as_hit, as_free, as_evict, as_pass, chosen}
use Rattle.rules.proofs.Distances.{Placed, placed_more}
use Rattle.rules.proofs.Singles.{Absent, Once, this, that, set_found, swap}
use Rattle.rules.proofs.Where.{Where, never, gone, cached, queued, none_absent}

-- ---- P of each cached page gives Q of each after a request, where Q holds of the requested page x, and of any other that has P
module _ (P Q : CachedPage → Type 0) (x : CachedPage) (keep : (y : CachedPage) → (y.entry.page ≡ x.entry.page → ⊥) → P y → Q y) (new : Q x) where
  abbrev page : ℕ
  page = x.entry.page

  all_kept : (cs : List CachedPage) → Absent cached_page page cs → AllByRecursion P cs → AllByRecursion Q cs
  all_kept [] a h = tt
  all_kept (y ∷ cs) a h = (keep y a.0 h.0, all_kept cs a.1 h.1)

  all_pushed : (cs : List CachedPage) → AllByRecursion Q cs → AllByRecursion Q (cs ++ x ∷ [])
  all_pushed [] h = (new, tt)
  all_pushed (y ∷ cs) h = (h.0, all_pushed cs h.1)

  all_set : (i : ℕ) (cs : List CachedPage) → AllByRecursion Q cs → AllByRecursion Q (set cs i x)
  all_set i [] h = tt
  all_set zero (y ∷ cs) h = (new, h.1)
  all_set (suc i) (y ∷ cs) h = (h.0, all_set i cs h.1)

  all_swapped : (i : ℕ) (e : CachedPage) (cs : List CachedPage) → Once cached_page page i e cs → AllByRecursion P cs → AllByRecursion Q (swap cached_page page x cs)
  all_swapped i e _ (this cs q a l) h = rw (eq-eqb e.entry.page page q) (new, all_kept cs a h.1)
  all_swapped i e _ (that y cs ne o) h = rw (ne_eqb y.entry.page page ne) (keep y ne h.0, all_swapped i e cs o h.1)

  all_after : (room n s : ℕ) (l : Option ℕ) (a : Places) → Where page n s l a → (d : Choice) → Chosen room page a.cache d → AllByRecursion P a.cache → AllByRecursion Q (cache_after d x a.cache)
  all_after room n s l a w _ (as_free f k) h = all_pushed a.cache (all_kept a.cache (none_absent cached_page page a.cache f) h)
  all_after room n s l a w _ (as_pass f) h = all_kept a.cache (none_absent cached_page page a.cache f) h
  all_after room n s l a w _ (as_evict i f k) h = all_set i a.cache (all_kept a.cache (none_absent cached_page page a.cache f) h)
  all_after room n s l a w _ (as_hit y f k) h = go w
    where
      bare : Absent cached_page page a.cache → AllByRecursion Q (set a.cache (seek cached_page page a.cache) x)
      bare c = all_set (seek cached_page page a.cache) a.cache (all_kept a.cache c h)

      go : Where page n s l a → AllByRecursion Q (set a.cache (seek cached_page page a.cache) x)
      go (never e c u) = bare c
      go (gone t e c u g) = bare c
      go (queued i z e c o g) = bare c
      go (cached i z e o u g) = rw (set_found cached_page page x a.cache k) (all_swapped i z a.cache o h)

-- ---- a cached page's bytes are the store's
abbrev Mirrors : (ℕ → List ℕ) → CachedPage → Type 0
Mirrors pages x = x.bytes ≡ pages x.entry.page

-- so the bytes that a read gets are the store's
mirror : (pages : ℕ → List ℕ) (p : ℕ) (cs : List CachedPage) → AllByRecursion (Mirrors pages) cs → cached_or (λ x. x.bytes) (pages p) (in_cache p cs) ≡ pages p
mirror pages p [] h = refl
mirror pages p (y ∷ cs) h = grind (arith, mirror pages p cs h.1, h.0)

-- and it leaves them
read_leaves : (m : Meaning) (o : Option CachedPage) → (cached_or (λ _. m) (tallied m) o).pages ≡ m.pages
read_leaves m None = refl
read_leaves m (Some x) = refl

-- the bytes of every page are these now
record Fresh (now : ℕ → List ℕ) (xs : List Accepted) (t : State) (m : Meaning) : Type 0 where
  placed : Placed xs t
  stored : (q : ℕ) → m.pages q ≡ now q
  mirrored : AllByRecursion (Mirrors m.pages) t.places.cache

module _ (first : ℕ → List ℕ) where
  abbrev FreshSoFar : List Event → State → Meaning → Type 0
  FreshSoFar h t m = Fresh (latest first (accesses h)) (accepted h) t m

  accepts : (k : Access) (p : ℕ) (g : HintNumbers) (given : List ℕ) (h : List Event) (t : State) (m : Meaning) → refusal t m (asks k p g) (length given) ≡ None → FreshSoFar h t m
      → FreshSoFar (request_event (asks k p g) given (after None t m (asks k p g) given) ∷ h) (after None t m (asks k p g) given).state (after None t m (asks k p g) given).store
  accepts Write p g given h t m e f =
      let r = asks Write p g in
      record {
        placed = placed_more (accepted h) t m r given e f.placed;
        stored = λ q. ap (λ v. cond (eqb q p) given v) (f.stored q);
        mirrored = all_after (Mirrors m.pages) (Mirrors (put m.pages p given)) (newcomer t m r given)
            (λ y ne q. rw (ne_eqb y.entry.page p ne) q) (rw (eq-eqb p p refl))
            t.sizes.cache_places t.sizes.queue_places t.number (latest_number p (accepted h)) t.places (f.placed p) (choice t r)
            (chosen t.sizes.cache_places t.tables.closed t.places.cache p g) f.mirrored;
      }
  accepts Read p g given h t m e f =
      let r = asks Read p g in
      let same = read_leaves m (in_cache p t.places.cache) in
      record {
        placed = placed_more (accepted h) t m r given e f.placed;
        stored = λ q. ap (λ (u : ℕ → List ℕ). u q) same ∙ f.stored q;
        mirrored = subst (λ (u : ℕ → List ℕ). AllByRecursion (Mirrors u) (cache_after (choice t r) (newcomer t m r given) t.places.cache)) (sym same)
            (all_after (Mirrors m.pages) (Mirrors m.pages) (newcomer t m r given) (λ y ne q. q) (mirror m.pages p t.places.cache f.mirrored)
            t.sizes.cache_places t.sizes.queue_places t.number (latest_number p (accepted h)) t.places (f.placed p) (choice t r)
            (chosen t.sizes.cache_places t.tables.closed t.places.cache p g) f.mirrored);
      }

  request_fresh : OnRequest FreshSoFar
  request_fresh (Some x) h t m r given e f = f
  request_fresh None h t m r given e f = accepts r.access r.page r.hints given h t m e f

  fresh_keeps : Keeps FreshSoFar
  fresh_keeps = record { request = request_fresh; peek = λ h t m p given f. f; look = λ h t m l f. f }

  -- ---- what is returned
  accepted_gets : (k : Access) (p : ℕ) (g : HintNumbers) (given : List ℕ) (h : List Event) (t : State) (m : Meaning) → FreshSoFar h t m
      → GetsLatest first h (request_event (asks k p g) given (after None t m (asks k p g) given))
  accepted_gets Write p g given h t m f k = absurd (both_ways false refl k)
  accepted_gets Read p g given h t m f k = mirror m.pages p t.places.cache f.mirrored ∙ f.stored p

  request_gets : (o : Option Refused) (h : List Event) (t : State) (m : Meaning) (r : Request) (given : List ℕ) → FreshSoFar h t m → GetsLatest first h (request_event r given (after o t m r given))
  request_gets (Some x) h t m r given f = λ k. absurd (both_ways false refl k)
  request_gets None h t m r given f = accepted_gets r.access r.page r.hints given h t m f

  peek_gets : (h : List Event) (t : State) (m : Meaning) (p : ℕ) (given : List ℕ) → FreshSoFar h t m → peek_answer t p (length given) ≡ Ok true → peek_buffer t p given ≡ latest first (accesses h) p
  peek_gets h t m p given f = grind (arith, got (in_cache p t.places.cache) (mirror m.pages p t.places.cache f.mirrored))
    where
      got : (o : Option CachedPage) → cached_or (λ x. x.bytes) (m.pages p) o ≡ m.pages p → cached_or (λ _. true) false o ≡ true → cached_or (λ x. x.bytes) given o ≡ latest first (accesses h) p
      got None e q = cc
      got (Some x) e q = e ∙ f.stored p

  fresh_obeys : Obeys FreshSoFar (GetsLatest first)
  fresh_obeys = record { request = request_gets; peek = peek_gets; look = λ h t m l f. tt }

pub freshness : Every Freshness
freshness sizes below h t m lawful good w =
    let fresh = along (FreshSoFar below.pages) (fresh_keeps below.pages) (opened sizes) below (record { placed = λ q. never refl tt tt; stored = λ q. refl; mirrored = tt }) in
    record {
      gets = throughout (FreshSoFar below.pages) (GetsLatest below.pages) (fresh_obeys below.pages) (opened sizes) below fresh h t m w;
      stored = (fresh h t m w).stored;
    }
