use Rattle.rules.proofs.Everything.{lawful_history}
use Rattle.rules.proofs.laws.every_history_is_lawful.Goals as goal

pub returns : goal.returns
returns c = lawful_history
