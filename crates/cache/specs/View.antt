-- What a cache's lent memory stands for.
--
--   places      how many places a cache has, used or not
--   held        how many of them are used
--   cached      the cached pages
--   KeepsLent   a cache has the rows and the memory that it had, as long as they were
use Rattle.std.specs.Prelude.{ℕ, List}
use Rattle.lent.specs.Lent.{SameSlice}
use Rattle.rules.specs.State.{CachedPage}
use Rattle.cache.specs.Pages.{pages_of, room_of}
use Rattle.cache.specs.declared.cache.Cache.{Cache}

abbrev pub places : Cache → ℕ
places c = room_of c.rows.now c.bytes.now

-- never more than there are
abbrev pub held : Cache → ℕ
held c = c.used

abbrev pub cached : Cache → List CachedPage
cached c = pages_of c.used c.rows.now c.bytes.now

-- what stands in them may differ
pub record KeepsLent (old new : Cache) : Type 0 where
  pub rows : SameSlice old.rows new.rows
  pub bytes : SameSlice old.bytes new.bytes
