-- An accepted request, once the bytes of its page are known.
--
--   accept_with   the state after it: that of the rules, where the bytes are those that the request gives its page
use Rattle.std.specs.Prelude.{ℕ, ◌+◌, List}
use Rattle.rules.specs.declared.request.Request.{Request}
use Rattle.rules.specs.Learning.{learn}
use Rattle.rules.specs.Placing.{known, place}
use Rattle.rules.specs.Requests.{choice, distance, new_entry}
use Rattle.rules.specs.State.{State}

abbrev pub accept_with : State → Request → List ℕ → State
accept_with t r bytes =
    let e = known r.page t.places in
    record {
      is_open = t.is_open;
      sizes = t.sizes;
      number = t.number + 1;
      places = place t.sizes.queue_places (choice t r) (record { entry = new_entry t r; bytes = bytes }) t.places;
      tables = learn t.sizes (t.number + 1) r.page r.hints e (distance r.access (t.number + 1) e) t.tables;
    }
