-- What is read off a server's parts, in the words of the rules.
--
--   places_of   the cached pages and the queue
--   tables_of   the window's requests, and the rows of the three tables
use Rattle.cache.specs.View.{cached}
use Rattle.counting.specs.Tables.{state_of as table_of, used_rows}
use Rattle.queue.specs.Held.{held}
use Rattle.rules.specs.State.{Places, Tables}
use Rattle.server.specs.declared.places.Places.{Places as PlacesHeld}
use Rattle.server.specs.declared.tables.Tables.{Tables as TablesHeld}

abbrev pub places_of : PlacesHeld → Places
places_of p = record { cache = cached p.cache; queue = held p.queue }

abbrev pub tables_of : TablesHeld → Tables
tables_of t = record {
  requests = (table_of t.live).counted;
  live = used_rows (table_of t.live);
  closed = used_rows (table_of t.closed);
  pages = used_rows (table_of t.pages);
}
