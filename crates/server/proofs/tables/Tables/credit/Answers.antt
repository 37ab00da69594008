use Rattle.std.proofs.Common.{arith}
use Rattle.counting.specs.Tables.{state_of as table_of}
use Rattle.counting.proofs.Afters.{used_after_credit}
use Rattle.keys.specs.Meanings.{hint_meaning}
use Rattle.server.proofs.Learned.{same_parts}
use Rattle.server.proofs.tables.Tables.credit.Goals as goal

pub returns-in-Some-distance-clause-after : goal.returns-in-Some-distance-clause-after
returns-in-Some-distance-clause-after c =
    same_parts (grind arith) (grind (arith, used_after_credit hint_meaning (table_of c.args.self.now.live) c.in-Some.entry.hints c.in-Some-distance.distance)) (grind arith) (grind arith)
