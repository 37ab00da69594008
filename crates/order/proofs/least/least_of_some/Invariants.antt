use Rattle.order.proofs.Leasts.{Least-so-far}
use Rattle.order.proofs.least.least_of_some.Given as goal

abbrev pub invariant-loop-place : goal.invariant-loop-place
invariant-loop-place g l = Least-so-far g.R.Order.before (g.S.Ranked.ranked l.run) l.place l.least
