use Rattle.std.proofs.Common.{take, drop, refl, rules}
use Rattle.std.proofs.lemmas.Iterator.{YieldsList-from_slice, YieldsList-from_take}
use Rattle.std.proofs.lemmas.Iterator.Consumers.{YieldsList-at, YieldsList-from_chain}
use Rattle.std.proofs.lemmas.Iterator.Search.{position_from_yields_List}
use Rattle.queue.specs.Rings.{in_order}
use Rattle.queue.proofs.ring.Queue.position.Goals as goal

-- the walk goes over the rows from the first on, then over those before it, and takes so many
pub returns : goal.returns
unfolding in_order
returns g c = λ p says.
    let q = c.args.self.now in
    position_from_yields_List p _ _ c.position.result c.position.ensures.ran
    (YieldsList-from_take q.len (YieldsList-at c.take.ensures.source (YieldsList-from_chain (YieldsList-from_slice (drop q.head q.rows.now) (cc)) (YieldsList-from_slice (take q.head q.rows.now) (cc)) (cc) (cc))) (search rules))
    (λ x b k called. (search rules, says x.now b (record { shown = x; shows = refl; says = record { met = search rules } })))
