use Rattle.std.proofs.Common.{◌≡◌, ap, ◌∙◌, rules}
use Rattle.cache.specs.Changes.{cached_as}
use Rattle.queue.specs.Held.{places as queue_places}
use Rattle.rules.specs.Placing.{place}
use Rattle.server.specs.Hints.{all_hinted}
use Rattle.server.specs.Parts.{places_of}
use Rattle.server.proofs.Hinted.{hinted_placed}
use Rattle.server.proofs.places.Places.place.Goals as goal

pub returns-clause-hinted : goal.returns-clause-hinted
returns-clause-hinted c =
    let p = c.args.self.now in
    let x = cached_as c.args.new c.args.bytes.now in
    let after : places_of (record { cache = c.settle.new.self; queue = c.enqueue.new.self.queue }) ≡ place (queue_places p.queue) c.args.choice x (places_of p) = search rules in
    λ n a. ap all_hinted after ∙ hinted_placed (queue_places p.queue) c.args.choice x (places_of p) n a
