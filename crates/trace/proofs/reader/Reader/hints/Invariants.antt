use Rattle.std.proofs.Common.{◌≡◌, ◌-◌}
use Rattle.trace.specs.Items.{hint_words}
use Rattle.trace.specs.Lefts.{left}
use Rattle.trace.proofs.reader.Reader.hints.Given as goal

-- what is left gives what the whole gives
abbrev pub invariant-loop : goal.invariant-loop
invariant-loop l = hint_words (l.count - l.counter) (left l.after) ≡ hint_words l.count (left l.self)
