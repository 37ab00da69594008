use Rattle.std.proofs.Common.{◌≡◌, take}
use Rattle.lent.specs.Lent.{SameSlice}
use Rattle.queue.specs.Held.{held, places}
use Rattle.queue.specs.Lists.{latest}
use Rattle.queue.proofs.enter_all.enter_all.Given as goal

abbrev pub invariant-loop-item : goal.invariant-loop-item
invariant-loop-item g l = record {
  held : held l.queue ≡ latest (places l.initial.queue) (take l.item-index l.items);
  rows : SameSlice l.initial.queue.rows l.queue.rows;
}
