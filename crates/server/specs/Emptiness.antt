-- What a server holds before its first request.
--
--   all_empty   whether no page, no entry and no row is held, and the window has no request
use Rattle.std.specs.Prelude.{Bool, true, false, ◌&&◌, List, [], ◌∷◌, ◌==◌}
use Rattle.rules.specs.State.{Places, Tables}

abbrev pub none : {A : Type 0} → List A → Bool
none [] = true
none (x ∷ xs) = false

abbrev pub all_empty : Places → Tables → Bool
all_empty p t = none p.cache && none p.queue && t.requests == 0 && none t.live && none t.closed && none t.pages
