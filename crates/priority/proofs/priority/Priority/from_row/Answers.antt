use Rattle.std.proofs.Common.{ap, ◌∙◌}
use Rattle.priority.specs.Priorities.{priority_from}
use Rattle.priority.proofs.Made.{made_exactly}
use Rattle.priority.proofs.priority.Priority.from_row.Goals as goal

pub returns-clause-made : goal.returns-clause-made
returns-clause-made c bounded = c.try_from.ensures ∙ ap priority_from c.row_parts.ensures ∙ made_exactly c.args.row bounded
