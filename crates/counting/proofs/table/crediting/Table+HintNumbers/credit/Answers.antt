use Rattle.std.proofs.Common.{sym, ap, ◌∙◌}
use Rattle.keys.specs.Meanings.{hint_meaning}
use Rattle.counting.specs.Rows.{found}
use Rattle.counting.specs.Tables.{state_of}
use Rattle.counting.proofs.Writes.{credit_unwritten, credit_written}
use Rattle.counting.proofs.table.crediting.Table+HintNumbers.credit.Goals as goal

pub returns-in-Some-clause-state : goal.returns-in-Some-clause-state
returns-in-Some-clause-state c =
    let at = c.in-Some.ensures.value ∙ ap (λ us. found hint_meaning us c.args.key) c.used_rows.ensures in
    credit_written hint_meaning (state_of c.args.self.now) c.args.self.now.within c.args.key c.args.distance (c.in-Some.place, c.in-Some.row) c.credited.result (sym at) c.credited.ensures

pub returns-in_default-clause-state : goal.returns-in_default-clause-state
returns-in_default-clause-state c =
    let at = c.in_default.ensures.value ∙ ap (λ us. found hint_meaning us c.args.key) c.used_rows.ensures in
    credit_unwritten hint_meaning (state_of c.args.self.now) c.args.self.now.within c.args.key c.args.distance (sym at)
