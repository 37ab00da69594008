use Rattle.std.proofs.Common.{◌≡◌, ◌<◌, length, arith}
use Rattle.std.proofs.lemmas.List.MinMax.{IsFirstBest-none}
use Rattle.order.specs.Least.{FirstLeast}
use Rattle.order.proofs.Leasts.{least_is, lesser_more}
use Rattle.order.proofs.least.least_of_some.Goals as goal

pub loop-place-init : goal.loop-place-init
loop-place-init g c = (IsFirstBest-none g.met.R.Order.ranks (g.S.Ranked.ranked c.args.run.now), c.rank.ensures)

pub loop-place-preserved : goal.loop-place-preserved
loop-place-preserved g c =
    let run = g.S.Ranked.ranked c.args.run.now in
    let within : c.loop-place.place < length run = omega (arith, c.many-place-end.ensures) in
    simp c.lesser-least.ensures
    (lesser_more g.R.Order.before g.met.R.Order.ranks run c.loop-place.place c.loop-place.least.0 c.rank-in-loop-place.result c.loop-place.least.1
    within c.loop-place.invariant.0 c.rank-in-loop-place.ensures c.loop-place.invariant.1)

pub returns : goal.returns
returns g c =
    let run = g.S.Ranked.ranked c.args.run.now in
    let whole : c.loop-place.place ≡ length run = omega (arith, c.many-place-end.ensures) in
    let first : FirstLeast g.R.Order.before run c.loop-place.least.0 = rw whole at c.loop-place.invariant.0 in
    record { value = least_is g.R.Order.before g.met.R.Order.ranks run c.loop-place.least.0 first; first = first }
