use Rattle.std.proofs.Common.{refl, arith, rules}
use Rattle.std.proofs.lemmas.List.{length-map, map-set}
use Rattle.store.specs.declared.script.Access.TheVariants.{Read}
use Rattle.store.specs.declared.script.Call.{Call}
use Rattle.store.proofs.Performs.{performing_none, performing_more, performing_over, performing_full}
use Rattle.store.proofs.script.perform.Goals.{then-done-outcomes-via-then-done-outcomes, then-done-outcomes-via-else-done-outcomes+then-call-memory}
use Rattle.store.proofs.script.perform.Goals as goal

-- the default at which an element of the script is read
abbrev none : Call
none = record { access = Read; page = 0; length = 0 }

pub loop-done-init : goal.loop-done-init
loop-done-init g c = performing_none (g.S.Store.lawful c.args.store.now)

pub loop-done-preserved : goal.loop-done-preserved
loop-done-preserved g c = rw map-set (performing_more none (g.S.Store.lawful c.args.store.now) c.loop-done.invariant
    (omega arith) (simp length-map (omega arith)) refl (omega arith) (omega arith) (search rules) (search rules) (search rules))

pub returns-then-done-outcomes-clause-many : goal.returns-then-done-outcomes-clause-many
returns-then-done-outcomes-clause-many g c = elim c.then-done-outcomes.branch [
  | then-done-outcomes-via-then-done-outcomes w ↦ rw length-map at (performing_over c.loop-done.invariant (simp length-map (omega arith)))
  | then-done-outcomes-via-else-done-outcomes+then-call-memory w ↦ rw length-map at (performing_full none c.loop-done.invariant (omega arith) (omega arith))
]
