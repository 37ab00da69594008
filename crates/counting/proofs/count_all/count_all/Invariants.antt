use Rattle.std.proofs.Common.{◌≡◌, take}
use Rattle.counting.specs.Laws.{after_all}
use Rattle.lent.specs.Lent.{SameSlice}
use Rattle.counting.specs.Tables.{state_of}
use Rattle.counting.proofs.count_all.count_all.Given as goal

abbrev pub invariant-loop-c : goal.invariant-loop-c
invariant-loop-c g l =
    (state_of l.table ≡ after_all g.K.Key.meaning l.fn.rows (take l.c-index l.countings))
    × SameSlice l.initial.table.rows l.table.rows
