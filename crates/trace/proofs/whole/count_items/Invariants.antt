use Rattle.std.proofs.Common.{length}
use Rattle.trace.specs.Lefts.{left}
use Rattle.trace.proofs.SoFar.{SoFar}
use Rattle.trace.proofs.whole.count_items.Given as goal

abbrev pub invariant-loop-item : goal.invariant-loop-item
invariant-loop-item l = SoFar l.trace (left l.reader) l.count

abbrev pub decreases-loop-item : goal.decreases-loop-item
decreases-loop-item l = length (left l.reader).rest
