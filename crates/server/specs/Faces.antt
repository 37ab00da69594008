-- What callers are shown, in the words of the rules.
--
--   place_of   where a page is, as plain numbers
use Rattle.std.specs.Prelude.{ℕ}
use Rattle.rules.specs.declared.entry.Place.{Place}
use Rattle.rules.specs.declared.entry.Place.TheVariants.{Cached, Queued, Unknown}
use Rattle.server.specs.declared.page_place.PagePlace.{PagePlace}
use Rattle.server.specs.declared.page_place.PagePlace.TheVariants.{Cached as IsCached, Queued as IsQueued, Unknown as IsUnknown}
use Rattle.values.specs.HintSets.{numbers_of}

-- of the page that was asked about
abbrev pub place_of : ℕ → PagePlace → Place
place_of p (IsCached n h) = Cached (record { page = p; number = n; hints = numbers_of h })
place_of p (IsQueued n h) = Queued (record { page = p; number = n; hints = numbers_of h })
place_of p IsUnknown = Unknown
