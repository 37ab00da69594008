use Rattle.std.proofs.Common.{rules, sym, ◌∙◌}
use Rattle.std.proofs.lemmas.Iterator.{YieldsList-from_slice}
use Rattle.std.proofs.lemmas.Iterator.Search.{position_from_yields_List}
use Rattle.counting.specs.Rows.{has_key}
use Rattle.counting.proofs.Founds.{found_at, found_nowhere}
use Rattle.counting.proofs.find.find.Goals as goal

pub returns-in_err-place-clause-value : goal.returns-in_err-place-clause-value
returns-in_err-place-clause-value g c =
    let m = g.K.Key.meaning in
    let searched = position_from_yields_List (has_key m c.args.key) _ _ c.position.result c.position.ensures.ran (YieldsList-from_slice c.args.rows.now c.iter.ensures.rest) (λ x b q k. search rules) in
    c.from_residual.ensures ∙ found_nowhere m c.args.key c.args.rows.now (sym (c.in_err-place.was) ∙ searched)

pub returns-clause-value : goal.returns-clause-value
returns-clause-value g c =
    let m = g.K.Key.meaning in
    let searched = position_from_yields_List (has_key m c.args.key) _ _ c.position.result c.position.ensures.ran (YieldsList-from_slice c.args.rows.now c.iter.ensures.rest) (λ x b q k. search rules) in
    found_at m c.args.key c.args.rows.now c.in_ok-place.place c.index-rows-place.result (sym (c.in_ok-place.was) ∙ searched) c.index-rows-place.is
