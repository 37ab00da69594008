-- What each choice tells of the cache.
use Rattle.std.proofs.Common.{◌≡◌, ℕ, ◌<◌, List, [], ◌∷◌, length, Some, None, arith}
use Rattle.values.specs.declared.hint_numbers.HintNumbers.{HintNumbers}
use Rattle.order.proofs.Leasts.{least_lt}
use Rattle.counting.specs.declared.row.Row.{Row}
use Rattle.rules.specs.State.{CachedPage, entries}
use Rattle.rules.specs.Pages.{cached_page, in_cache, seek}
use Rattle.rules.specs.Priorities.{gives_way}
use Rattle.rules.specs.Choices.{Choice, hit, free, evict, pass, choose, contest, victim_place}
use Rattle.rules.proofs.Entries.{length_entries, seek_entries}
use Rattle.rules.proofs.Singles.{found, unfound}

-- of page p, in a cache of so many places that holds cs
pub data Chosen (room p : ℕ) (cs : List CachedPage) : Choice → Type 0 where
  as_hit : (x : CachedPage) → in_cache p cs ≡ Some x → seek cached_page p cs < length cs → Chosen room p cs (hit (seek cached_page p cs))
  as_free : in_cache p cs ≡ None → length cs < room → Chosen room p cs free
  as_evict : (i : ℕ) → in_cache p cs ≡ None → i < length cs → Chosen room p cs (evict i)
  as_pass : in_cache p cs ≡ None → Chosen room p cs pass

contested : (room p : ℕ) (closed : List (Row HintNumbers)) (h : HintNumbers) (cs : List CachedPage) → in_cache p cs ≡ None → Chosen room p cs (contest closed h (entries cs))
contested room p closed h [] e = as_pass e
contested room p closed h (x ∷ cs) e = grind (arith, won, lost)
  where
    won : Chosen room p (x ∷ cs) (evict (victim_place closed (entries (x ∷ cs))))
    won = as_evict _ e (omega (arith, least_lt (gives_way closed) (entries (x ∷ cs)) (omega arith), length_entries cs))

    lost : Chosen room p (x ∷ cs) pass
    lost = as_pass e

pub chosen : (room : ℕ) (closed : List (Row HintNumbers)) (cs : List CachedPage) (p : ℕ) (h : HintNumbers) → Chosen room p cs (choose room closed (entries cs) p h)
unfolding choose
chosen room closed cs p h = rw (seek_entries p cs, length_entries cs) (grind (arith, at_hit, at_free, contested room p closed h cs, unfound cached_page p cs))
  where
    at_hit : seek cached_page p cs < length cs → Chosen room p cs (hit (seek cached_page p cs))
    at_hit l = let f = found cached_page p cs l in as_hit f.0 f.1 l

    at_free : in_cache p cs ≡ None → length cs < room → Chosen room p cs free
    at_free e l = as_free e l
