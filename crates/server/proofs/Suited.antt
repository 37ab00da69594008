-- A page's choice suits the cache that it was made for.
use Rattle.std.proofs.Common.{◌≡◌, ℕ, ◌≤◌, List, length}
use Rattle.values.specs.declared.hint_numbers.HintNumbers.{HintNumbers}
use Rattle.counting.specs.declared.row.Row.{Row}
use Rattle.cache.specs.Changes.{settled}
use Rattle.cache.proofs.Settles.{settled_chosen}
use Rattle.rules.proofs.Chosen.{chosen}
use Rattle.rules.specs.Choices.{choose}
use Rattle.rules.specs.Placing.{cache_after}
use Rattle.rules.specs.State.{CachedPage, entries}

pub choice_settles : (room : ℕ) (closed : List (Row HintNumbers)) (cs : List CachedPage) (p : ℕ) (h : HintNumbers) (places : ℕ) (x : CachedPage) → length x.bytes ≡ 256 → room ≤ places
    → settled places (choose room closed (entries cs) p h) x cs ≡ cache_after (choose room closed (entries cs) p h) x cs
choice_settles room closed cs p h places x k l = settled_chosen room places p x cs k l (choose room closed (entries cs) p h) (chosen room closed cs p h)
