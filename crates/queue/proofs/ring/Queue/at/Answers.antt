use Rattle.std.proofs.Common.{sym, arith, rules}
use Rattle.std.proofs.lemmas.Option.{slice_get_past}
use Rattle.queue.proofs.Rings.{length_in_order, in_order_read}
use Rattle.queue.proofs.ring.Queue.at.Goals as goal

pub returns-then-place-self : goal.returns-then-place-self
returns-then-place-self g c =
    let q = c.args.self.now in
    in_order_read q.rows.now q.head q.len c.args.place _ _ (omega arith) (omega arith) (omega arith) (search rules)

pub returns-else-place-self : goal.returns-else-place-self
returns-else-place-self g c =
    let q = c.args.self.now in
    let many = length_in_order q.rows.now q.head q.len in
    sym (slice_get_past _ c.args.place (omega arith))
