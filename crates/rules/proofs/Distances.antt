-- Each page has one place, and reads report how long ago their page was requested.
use Rattle.std.proofs.Common.{◌≡◌, ℕ, ◌+◌, ◌≤◌, List, Some, None, Option, refl, ap, subst, inl, inr, arith}
use Rattle.store.specs.Meaning.{Meaning}
use Rattle.rules.specs.Refusals.{Refused}
use Rattle.values.specs.declared.size_numbers.SizeNumbers.{SizeNumbers}
use Rattle.rules.specs.declared.request.Request.{Request}
use Rattle.rules.specs.State.{Places, State, opened}
use Rattle.rules.specs.Pages.{cached_page, entry_page, how_many}
use Rattle.rules.specs.Placing.{known}
use Rattle.rules.specs.Requests.{after, answer, choice, distance_from, newcomer}
use Rattle.rules.specs.Histories.{Event, request_event, Reaches}
use Rattle.rules.specs.Accepted.{Accepted, accepted, latest_number}
use Rattle.rules.specs.Laws.{Distance, Every, OnePlace, Reports, ReportsDistance}
use Rattle.rules.proofs.Along.{Obeys, OnAccepted, along_accepted, refused, throughout}
use Rattle.rules.proofs.Chosen.{chosen}
use Rattle.rules.proofs.Moves.{moves}
use Rattle.rules.proofs.Numberings.{numbered}
use Rattle.rules.proofs.Singles.{absent_find, absent_none, once_find, once_one}
use Rattle.rules.proofs.Where.{Where, never, gone, cached, queued}

-- where each page is
abbrev pub Placed : List Accepted → State → Type 0
Placed xs t = (q : ℕ) → Where q t.sizes.queue_places t.number (latest_number q xs) t.places

pub placed_more : OnAccepted Placed
placed_more xs t m r given e was =
    moves t.sizes.cache_places t.sizes.queue_places t.number (newcomer t m r given) refl t.places (λ q. latest_number q xs) was (choice t r)
    (chosen t.sizes.cache_places t.tables.closed t.places.cache r.page r.hints)

pub placed : (sizes : SizeNumbers) (below : Meaning) (h : List Event) (t : State) (m : Meaning) → Reaches (opened sizes) below h t m → Placed (accepted h) t
placed sizes below = along_accepted Placed placed_more (opened sizes) below (λ q. never refl tt tt)

pub one_place : Every OnePlace
one_place sizes below h t m lawful good w p = go (placed sizes below h t m w p)
  where
    go : Where p t.sizes.queue_places t.number (latest_number p (accepted h)) t.places → how_many cached_page p t.places.cache + how_many entry_page p t.places.queue ≤ 1
    go (never e c u) = omega (arith, absent_none cached_page p _ c, absent_none entry_page p _ u)
    go (gone n e c u g) = omega (arith, absent_none cached_page p _ c, absent_none entry_page p _ u)
    go (cached i x e o u g) = omega (arith, once_one cached_page p i x _ o, absent_none entry_page p _ u)
    go (queued i x e c o g) = omega (arith, absent_none cached_page p _ c, once_one entry_page p i x _ o)

reports : (q n s : ℕ) (l : Option ℕ) (a : Places) → Where q n s l a → Reports n (s + 1) l (distance_from (s + 1) (known q a))
reports q n s l a (never e c u) = rw (e, absent_find cached_page q a.cache c, absent_find entry_page q a.queue u) refl
reports q n s l a (gone t e c u g) = rw (e, absent_find cached_page q a.cache c, absent_find entry_page q a.queue u) (inr (refl, omega arith))
reports q n s l a (cached i x e o u g) = rw (e, once_find cached_page q i x a.cache o) (inl refl)
reports q n s l a (queued i x e c o g) = rw (e, absent_find cached_page q a.cache c, once_find entry_page q i x a.queue o) (inl refl)

-- of a server with so many queue places
module _ (queue : ℕ) where
  abbrev Reporting : List Event → State → Meaning → Type 0
  Reporting h t m = Placed (accepted h) t × (t.sizes.queue_places ≡ queue)

  request_reports : (o : Option Refused) (h : List Event) (t : State) (m : Meaning) (r : Request) (given : List ℕ) → Reporting h t m → ReportsDistance queue h (request_event r given (after o t m r given))
  request_reports (Some f) h t m r given w a e k = refused f a e
  request_reports None h t m r given w a e k =
      let same : answer t r ≡ a = cc in
      subst (λ b. Reports queue b.number (latest_number r.page (accepted h)) b.distance) same
      (rw (k, ← w.1) (reports r.page t.sizes.queue_places t.number (latest_number r.page (accepted h)) t.places (w.0 r.page)))

  reporting : Obeys Reporting (ReportsDistance queue)
  reporting = record { request = request_reports; peek = λ h t m p given w. tt; look = λ h t m l w. tt }

pub distance : Every Distance
distance sizes below h t m lawful good w =
    throughout (Reporting sizes.queue_places) (ReportsDistance sizes.queue_places) (reporting sizes.queue_places) (opened sizes) below
    (λ h t m w. (placed sizes below h t m w, ap (λ z. z.queue_places) (numbered sizes below h t m lawful good w).same_sizes)) h t m w
