use Rattle.std.proofs.Common.{◌*◌, Ok, Err, sym, ◌∙◌, arith}
use Rattle.std.proofs.lemmas.List.{length-take-le}
use Rattle.std.proofs.lemmas.Result.{err_from_is_err_and}
use Rattle.trace.specs.Lefts.{left}
use Rattle.trace.specs.Words.{refused}
use Rattle.trace.proofs.Items.{hint_words_length, hint_words_more, hint_words_none}
use Rattle.trace.proofs.Thens.{then_err}
use Rattle.trace.proofs.reader.Reader.hints.Goals as goal

pub returns-in_err-after : goal.returns-in_err-after
returns-in_err-after c =
    let l = c.loop in
    let p = err_from_is_err_and c.from_residual.result c.from_residual.ensures.1 in
    let fault = refused c.in_err-after.field-0.0 in
    let more = hint_words_more c.args.count l.counter (left l.after) (Err fault) c.loop-test.true c.in_err-after.ensures.value in
    rw (p.1, p.2) (sym (then_err _ _ fault (sym l.invariant ∙ more)))

pub loop-preserved : goal.loop-preserved
loop-preserved c =
    let l = c.loop in
    let word = Ok (c.in_ok-after.field-0-0, left c.in_ok-after.field-0-1) in
    sym (hint_words_more c.args.count l.counter (left l.after) word c.loop-test.true c.in_ok-after.ensures.value) ∙ l.invariant

pub slice_bounds-result-end : goal.slice_bounds-result-end
slice_bounds-result-end c =
    let l = c.loop in
    let n = c.args.count in
    let all = sym l.invariant ∙ hint_words_none n l.counter (left l.after) c.loop-test.false in
    sym (length-take-le (4 * n) c.args.self.rest.now (omega (arith, hint_words_length n (left c.args.self) (left l.after) all)))
