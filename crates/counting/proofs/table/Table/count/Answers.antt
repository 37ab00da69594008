use Rattle.counting.specs.Tables.{state_of}
use Rattle.counting.proofs.Writes.{count_written}
use Rattle.counting.proofs.table.Table.count.Goals as goal

pub returns-clause-state : goal.returns-clause-state
returns-clause-state g c =
    let w = rw c.used_rows.ensures at c.written-place.ensures in
    count_written g.K.Key.meaning (state_of c.args.self.now) c.args.self.now.within c.args.key c.args.number c.written-place.result c.max-self.result w.next w.within w.rows c.max-self.ensures
    c.if-refuses.ensures
