use Rattle.std.proofs.Common.{sym, ap, ◌∙◌, arith}
use Rattle.std.proofs.lemmas.Option.{same_Some}
use Rattle.order.specs.Least.{least}
use Rattle.counting.specs.Rows.{amend, put, raised, replaced, sooner}
use Rattle.counting.proofs.Founds.{found_some}
use Rattle.counting.proofs.Puts.{put_amend, put_end}
use Rattle.counting.proofs.Steps.{counting_enters, counting_raises, counting_replaces}
use Rattle.counting.proofs.table.counting.written.Goals as goal

pub returns-in-Some-clause-rows : goal.returns-in-Some-clause-rows
returns-in-Some-clause-rows g c =
    let m = g.K.Key.meaning in
    let used = c.args.used.now in
    let place = c.in-Some.place in
    let row = c.in-Some.row in
    let e = sym c.in-Some.ensures.value in
    let s = found_some m c.args.c.key used row (place, row) e in
    ap (put used place) (c.raised.ensures ∙ ap raised s.there) ∙ put_amend raised used place row s.within
    ∙ sym (counting_raises m c.args.room used c.args.c.key c.args.c.number (place, row) e)

pub returns-then-used-room-clause-rows : goal.returns-then-used-room-clause-rows
returns-then-used-room-clause-rows g c =
    let used = c.args.used.now in
    ap (put used _) c.new.ensures ∙ put_end used _
    ∙ sym (counting_enters g.K.Key.meaning c.args.room used c.args.c.key c.args.c.number (sym c.in_default.ensures.value) c.if-used-room.true)

pub returns-clause-rows : goal.returns-clause-rows
returns-clause-rows g c =
    let used = c.args.used.now in
    let place = c.in-Some-least_place.place in
    let replace = replaced c.args.c.key c.args.c.number in
    let chosen = c.in-Some-least_place.ensures in
    let within = chosen.first.0 in
    ap (put used place) (c.replaced.ensures ∙ ap replace c.index-used-place.is) ∙ put_amend replace used place _ within
    ∙ ap (amend replace used) (same_Some place (least sooner used) (chosen.some (omega (arith, within))))
    ∙ sym (counting_replaces g.K.Key.meaning c.args.room used c.args.c.key c.args.c.number (sym c.in_default.ensures.value) c.if-used-room.false)
