-- Which choices can be carried out in a cache.
--
--   Suits   settling a page by the choice leaves the cache that the rules give
use Rattle.std.specs.Prelude.{◌≡◌, ℕ, List, length}
use Rattle.cache.specs.Changes.{settled}
use Rattle.rules.specs.declared.choice.Choice.{Choice}
use Rattle.rules.specs.Placing.{cache_after}
use Rattle.rules.specs.State.{CachedPage}

-- in a cache of so many places that holds cs
abbrev pub Suits : ℕ → List CachedPage → Choice → Type 0
Suits places cs d = (x : CachedPage) → length x.bytes ≡ 256 → settled places d x cs ≡ cache_after d x cs
