-- Pages in lent rows and lent memory.
--
--   room_of     how many places rows and a memory make
--   cached_at   a row with the page of its place
--   pages_of    the pages of the first places
use Rattle.std.specs.Prelude.{ℕ, ◌/◌, min, List, length, take, map}
use Rattle.std.specs.List.{enumerate_from}
use Rattle.store.specs.Makes.{page_of}
use Rattle.rules.specs.declared.entry.Entry.{Entry}
use Rattle.rules.specs.State.{CachedPage}

-- a place has a row and a whole page
abbrev pub room_of : List Entry → List ℕ → ℕ
room_of rows bytes = min (length rows) (length bytes / 256)

abbrev pub cached_at : List ℕ → ℕ × Entry → CachedPage
cached_at bytes row = record { entry = row.1; bytes = page_of bytes row.0 }

-- of so many places
unfoldable pub pages_of : ℕ → List Entry → List ℕ → List CachedPage
pages_of used rows bytes = map (cached_at bytes) (enumerate_from 0 (take used rows))
