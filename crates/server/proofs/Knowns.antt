-- The entries of pages, cached or queued, by where the searches find them.
use Rattle.std.proofs.Common.{◌≡◌, ℕ, cond, ltb, List, [], ◌∷◌, length, Some, None, Option, sym, refl, ap, ◌∙◌, arith}
use Rattle.std.specs.List.{remove, slice_get}
use Rattle.std.specs.Option.{option_and_then, option_map, option_map_or}
use Rattle.std.proofs.lemmas.Option.{slice_get_past, unwrap_or-slice_get}
use Rattle.cache.specs.Changes.{sought}
use Rattle.cache.proofs.Contests.{seek_position}
use Rattle.cache.proofs.Settles.{sought_none, sought_nth}
use Rattle.queue.proofs.Removals.{remove_past}
use Rattle.rules.specs.declared.entry.Entry.{Entry}
use Rattle.rules.specs.State.{CachedPage, entries}
use Rattle.rules.specs.Pages.{entry_page, find, in_cache, seek, without}
use Rattle.rules.proofs.Sought.{nth_seek, without_seek}

-- ---- among entries, as those of the queue
module _ (p : ℕ) (es : List Entry) where
  by_seek : sought p es ≡ cond (ltb (seek entry_page p es) (length es)) (Some (seek entry_page p es)) None
  by_seek = ap (λ i. cond (ltb i (length es)) (Some i) None) (sym (seek_position p es))

  pub found_by : find entry_page p es ≡ option_and_then (slice_get es) (sought p es)
  found_by = rw by_seek (grind (arith, nth_seek entry_page p es, slice_get_past es (seek entry_page p es)))

  pub removed_by : without entry_page p es ≡ option_map_or (remove es) (sought p es) es
  removed_by = rw by_seek (grind (arith, without_seek entry_page p es, remove_past es (seek entry_page p es)))

-- ---- in the cache
find_entries : (p : ℕ) (cs : List CachedPage) → find entry_page p (entries cs) ≡ option_map (λ x. x.entry) (in_cache p cs)
find_entries p [] = refl
find_entries p (x ∷ cs) = grind (arith, find_entries p cs)

module _ (p : ℕ) (cs : List CachedPage) where
  pub entry_by : option_map (λ x. x.entry) (in_cache p cs) ≡ option_and_then (slice_get (entries cs)) (sought p (entries cs))
  entry_by = sym (find_entries p cs) ∙ found_by p (entries cs)

  pub cached_by : in_cache p cs ≡ option_and_then (slice_get cs) (sought p (entries cs))
  cached_by = go (sought p (entries cs)) refl
    where
      go : (o : Option ℕ) → sought p (entries cs) ≡ o → in_cache p cs ≡ option_and_then (slice_get cs) o
      go None e = sought_none p cs e
      go (Some i) e = sym (sought_nth p cs i e)

pub ruleset at_place = (unwrap_or-slice_get)
