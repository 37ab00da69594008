use Rattle.std.proofs.Common.{rules}
use Rattle.queue.specs.Held.{held, places}
use Rattle.queue.proofs.Enterings.{enter_keeps_latest}
use Rattle.queue.proofs.enter_all.enter_all.Goals as goal

pub loop-item-preserved : goal.loop-item-preserved
loop-item-preserved g c =
    let q = c.loop-item.queue in
    let v = c.loop-item.invariant in
    record {
      held = enter_keeps_latest _ (places q) c.loop-item.item-index c.args.items.now c.item-item.result (held q) _ v.rows.len c.loop-item-test.true c.item-item.is v.held (search rules) (search rules);
      rows = search rules;
    }
