use Rattle.std.proofs.Common.{map}
use Rattle.store.specs.Faults.{numbered}
use Rattle.store.proofs.Performs.{Performing}
use Rattle.store.proofs.script.perform.Given as goal

abbrev pub invariant-loop-done : goal.invariant-loop-done
invariant-loop-done g l =
    Performing (g.S.Store.meaning l.initial.store) (g.S.Store.meaning l.store) l.script l.initial.memory l.memory
    (map numbered l.initial.outcomes) (map numbered l.outcomes) l.done l.start
