use Rattle.std.proofs.Common.{◌≡◌, ap, ◌∙◌, take_all, rules}
use Rattle.counting.specs.Laws.{after_all}
use Rattle.counting.specs.Tables.{state_of}
use Rattle.counting.proofs.Runs.{left}
use Rattle.counting.proofs.count_all.count_all.Goals as goal

pub returns : goal.returns
returns g c =
    let m = g.K.Key.meaning in
    let all = c.args.rows.now in
    let cs = c.args.countings.now in
    let e : state_of c.loop-c.table ≡ after_all m all cs = c.loop-c.invariant.0 ∙ ap (after_all m all) (take_all c.loop-c.c-index cs c.loop-c-test.false) in
    let v = left m all cs (state_of c.loop-c.table) e in
    record { state = e; counted = v.counted; lawful = v.lawful; uncredited = v.uncredited; slice = search rules }
