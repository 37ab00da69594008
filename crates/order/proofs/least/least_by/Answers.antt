use Rattle.std.proofs.Common.{rules, ◌≡◌, ap, ◌∙◌}
use Rattle.std.specs.Option.{option_map}
use Rattle.std.proofs.lemmas.Iterator.{YieldsList-from_slice}
use Rattle.std.proofs.lemmas.Iterator.Consumers.{YieldsList-from_enumerate}
use Rattle.std.proofs.lemmas.List.MinMax.{ranks_by}
use Rattle.order.specs.Least.{less_by}
use Rattle.order.proofs.Leasts.{computed, least_found, least_found_first, least_found_some}
use Rattle.order.proofs.least.least_by.Goals as goal

pub returns-clause-value : goal.returns-clause-value
returns-clause-value g c key k =
    let listed = YieldsList-from_enumerate {s = c.enumerate.result} (YieldsList-from_slice c.args.things.now (ap (λ s. s.rest.now) c.enumerate.ensures.source ∙ c.iter.ensures.rest)) c.enumerate.ensures.count in
    let picked = least_found c.min_by_key.result c.min_by_key.ensures.runs c.min_by_key.ensures.ran g.met.R.Ord.total key c.args.things.now (search listed)
    (λ z r f' h. (search rules, computed g.F.Fn g.met.F.FnMut.1 key c.args.rank z.1 r (search rules) k)) in
    let placed : c.map.result ≡ option_map (λ z. z.0) c.min_by_key.result = search rules in
    placed ∙ picked

pub returns-clause-first : goal.returns-clause-first
returns-clause-first g c key k = least_found_first (ranks_by g.met.R.Ord.total key) c.args.things.now c.map.result (returns-clause-value g c key k)

pub returns-clause-some : goal.returns-clause-some
returns-clause-some g c key k l = returns-clause-value g c key k ∙ least_found_some (less_by g.R.Ord.cmp key) c.args.things.now l
