use Rattle.std.proofs.Common.{ap, ◌∙◌, rules}
use Rattle.std.proofs.lemmas.Fn.{always_returns_same}
use Rattle.order.specs.Least.{least_in}
use Rattle.rules.specs.Priorities.{gives_way}
use Rattle.cache.proofs.Ranks.{least_rank, ranked_as, ranked_by}
use Rattle.cache.proofs.cache.Cache.victim.Goals as goal

pub returns-clause-value : goal.returns-clause-value
returns-clause-value c =
    let closed = c.args.closed.now in
    c.least_by.ensures.value (ranked_by closed) (always_returns_same _ _ _ (λ a r f' k. (ranked_as closed a.0.now r (search rules) (search rules), search rules)))
    ∙ least_rank closed c.entries.result.now
    ∙ ap (λ es. least_in (gives_way closed) es) c.entries.ensures
