use Rattle.std.proofs.Common.{◌≡◌, ◌/◌, ◌≤◌, length, Some, ap, ◌∙◌, arith, rules}
use Rattle.std.proofs.lemmas.Grind.{common_steps}
use Rattle.std.proofs.lemmas.List.FromFn.{length-map-range_with_len, take-map-range_with_len}
use Rattle.std.proofs.lemmas.Option.{MatchOption-at_some}
use Rattle.values.specs.HintSets.{hints_from}
use Rattle.trace.specs.Hints.{value_at, values_of}
use Rattle.trace.proofs.item.Item.hint_set.Goals as goal

pub returns-in_err-values-clause-value : goal.returns-in_err-values-clause-value
returns-in_err-values-clause-value c = grind (arith, common_steps, length-map-range_with_len)

pub returns-clause-value : goal.returns-clause-value
returns-clause-value c =
    let bs = c.args.self.now.hints.now in
    let values = c.in_ok-values.values in
    let there : c.get.result ≡ Some values = search rules in
    let part = MatchOption-at_some _ _ values there c.get.ensures.lookup.0 in
    let made = c.hint_values-values.ensures in
    let few : length bs / 4 ≤ 5 = omega (arith, part.1, ap length made, length-map-range_with_len (value_at bs) 0 5) in
    let front = take-map-range_with_len (value_at bs) 0 5 (length bs / 4) few in
    let same : values.now ≡ values_of bs = grind (arith, part.2, made, front) in
    c.new.ensures ∙ ap (hints_from c.args.self.now.client) same
