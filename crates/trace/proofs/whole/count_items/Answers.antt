use Rattle.std.proofs.Common.{◌≡◌, ℕ, ◌+◌, ◌^◌, ◌<◌, List, length, get_or, Some, None, Ok, sym, ap, ◌∙◌, subst, arith, rules, w8, Fits}
use Rattle.std.specs.Option.{option_map}
use Rattle.std.proofs.ByRecursion.{All-from_get_or}
use Rattle.trace.specs.Items.{request}
use Rattle.trace.specs.Lefts.{left}
use Rattle.trace.specs.Reading.{after_sizes, item_read, sizes_read}
use Rattle.trace.proofs.Encodings.{Bytes}
use Rattle.trace.proofs.SoFar.{SoFar, item_shortens, so_far_all, so_far_more, so_far_none}
use Rattle.trace.proofs.WholeTraces.{in_format}
use Rattle.trace.proofs.whole.count_items.Goals as goal

bytes : (bs : List ℕ) → ((i : ℕ) → Fits w8 (get_or bs i 0)) → Bytes bs
bytes bs typed = All-from_get_or (λ b. b < 2 ^ 8) bs 0 (λ i _. omega (arith, typed i))

pub returns-in_err-_sizes-clause-format : goal.returns-in_err-_sizes-clause-format
returns-in_err-_sizes-clause-format c = in_format c.args.trace.now c.from_residual.result (bytes c.args.trace.now c.type_inv.trace) (search rules)

pub loop-item-init : goal.loop-item-init
loop-item-init c =
    let bs = c.args.trace.now in
    let e = c.in_ok-_sizes.ensures in
    subst (λ m. SoFar bs m 0) (sym (e.after ∙ ap after_sizes c.new-reader.ensures))
    (so_far_none bs _ (bytes bs c.type_inv.trace) (sym (e.value ∙ ap sizes_read c.new-reader.ensures)))

pub returns-in_err-_item-clause-format : goal.returns-in_err-_item-clause-format
returns-in_err-_item-clause-format c =
    in_format c.args.trace.now c.from_residual-in_err-_item.result (bytes c.args.trace.now c.type_inv.trace) (search rules)

item_is : (c : goal.In-Some) → item_read (left c.loop-item.reader) ≡ Ok (Some (request c.in-Some._item))
item_is c = sym c.in_ok-_item.ensures.value ∙ ap (λ o. Ok (option_map request o)) c.in-Some.is

pub loop-item-smaller : goal.loop-item-smaller
loop-item-smaller c =
    omega (arith, item_shortens c.loop-item.invariant (request c.in-Some._item) (item_is c), ap (λ m. length m.rest) c.in_ok-_item.ensures.after)

pub loop-item-preserved : goal.loop-item-preserved
loop-item-preserved c =
    subst (λ m. SoFar c.args.trace.now m (c.loop-item.count + 1)) (sym c.in_ok-_item.ensures.after)
    (so_far_more c.loop-item.invariant (request c.in-Some._item) (item_is c))

pub returns : goal.returns
returns c =
    let ended : item_read (left c.loop-item.reader) ≡ Ok None =
    sym c.in_ok-_item.ensures.value ∙ ap (λ o. Ok (option_map request o)) c.in_default.is in
    let all = so_far_all c.loop-item.invariant ended in
    let bs = c.args.trace.now in
    record { reading = all; format = in_format bs (Ok c.loop-item.count) (bytes bs c.type_inv.trace) all }
