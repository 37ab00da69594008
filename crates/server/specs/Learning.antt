-- What the tables of a server need of each other.
--
--   Sized       they have the rows that the sizes ask for, and count the same requests
--   Countable   and the window has room for one more
use Rattle.std.specs.Prelude.{◌≡◌, ◌<◌, ◌≤◌, length}
use Rattle.counting.specs.Tables.{state_of as table_of}
use Rattle.values.specs.declared.sizes.Sizes.{Sizes}
use Rattle.server.specs.declared.tables.Tables.{Tables}

pub record Sized (z : Sizes) (t : Tables) : Type 0 where
  pub live_rows : length (table_of t.live).rows ≡ z.numbers.hint_rows
  pub closed_rows : length (table_of t.closed).rows ≡ z.numbers.hint_rows
  pub page_rows : length (table_of t.pages).rows ≡ z.numbers.page_rows
  pub alike : (table_of t.pages).counted ≡ (table_of t.live).counted
  pub within : (table_of t.live).counted ≤ z.numbers.window

pub record Countable (z : Sizes) (t : Tables) : Type 0 where
  pub sized : Sized z t
  pub unfinished : (table_of t.live).counted < z.numbers.window
