-- What is read off a server, in the words of the rules.
--
--   open_state   the state of an open server
--   shut         the state of a shut one, which holds nothing
--   state_of     the state of a server
--   is_new       whether it is open and has accepted no request yet
use Rattle.std.specs.Prelude.{Bool, true, false, ◌&&◌, [], ◌==◌}
use Rattle.rules.specs.State.{State}
use Rattle.server.specs.declared.open_server.OpenServer.{OpenServer}
use Rattle.server.specs.declared.server.Server.{Server}
use Rattle.server.specs.declared.server.Server.TheVariants.{Shut, Open}
use Rattle.server.specs.Parts.{places_of, tables_of}

abbrev pub open_state : OpenServer → State
open_state o = record {
  is_open = true;
  sizes = o.sizes.numbers;
  number = o.number;
  places = places_of o.places;
  tables = tables_of o.tables;
}

-- of the least sizes
abbrev pub shut : State
shut = record {
  is_open = false;
  sizes = record { cache_places = 1; queue_places = 1; hint_rows = 1; page_rows = 1; window = 1 };
  number = 0;
  places = record { cache = []; queue = [] };
  tables = record { requests = 0; live = []; closed = []; pages = [] };
}

abbrev pub state_of : Server → State
state_of Shut = shut
state_of (Open o) = open_state o

abbrev pub is_new : State → Bool
is_new t = t.is_open && t.number == 0
