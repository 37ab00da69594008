use Rattle.rules.proofs.Orders.{victims}
use Rattle.rules.proofs.victims.the_victim_is_the_least.Goals as goal

pub returns : goal.returns
returns c = victims
