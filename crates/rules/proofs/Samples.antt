-- The sample and the cases, by computation.
use Rattle.std.proofs.Common.{refl}
use Rattle.counting.specs.Rule.{counting, credit}
use Rattle.rules.specs.Priorities.{priority_of}
use Rattle.rules.specs.Choices.{choose}
use Rattle.rules.specs.Learning.{close, count}
use Rattle.rules.specs.Requests.{refusal}
use Rattle.rules.specs.Sample.{Sample}
use Rattle.rules.specs.Cases.{CreditFirst, EqualPriority, FarRepeat, FullQueue, Looking, RefusalOrder, ReplacedRow, WriteCredits, WrittenCopy}

pub sample : Sample
unfolding refusal choose count close counting credit priority_of
sample = record { decided = refl; bytes = refl; tally = refl; cached = refl; queued = refl; first_window = refl; second_window = refl }

pub refusal_order : RefusalOrder
unfolding refusal
refusal_order = record {
  shut_first = refl;
  buffer_second = refl;
  last_third = refl;
  store_last = refl;
  short = refl;
  long = refl;
  sealed_read = refl;
  sealed_write = refl;
  dead_read = refl;
  dead_write = refl;
}

pub write_credits : WriteCredits
unfolding refusal choose count close counting credit priority_of
write_credits = record { write = refl; unreported = refl; read = refl; write_then_read = refl }

pub credit_first : CreditFirst
unfolding refusal choose count close counting credit priority_of
credit_first = refl

pub replaced : ReplacedRow
unfolding refusal choose count close counting credit priority_of
replaced = record { by_the_row = refl; without_row = refl }

pub equal_priority : EqualPriority
unfolding refusal choose count close counting credit priority_of
equal_priority = refl

pub full_queue : FullQueue
unfolding refusal choose count close counting credit priority_of
full_queue = record { filled = refl; one_more = refl; again = refl }

pub written_copy : WrittenCopy
unfolding refusal choose count close counting credit priority_of
written_copy = refl

pub far_repeat : FarRepeat
far_repeat = record { near = refl; far = refl; farther = refl }

pub looking : Looking
unfolding refusal choose count close counting credit priority_of
looking = record {
  hint_counts = refl;
  hint_absent = refl;
  page_counts = refl;
  cached = refl;
  queued = refl;
  unknown = refl;
  priority = refl;
  so_far = refl;
  opened = refl;
  peeked = refl;
  peeked_bytes = refl;
  not_cached = refl;
  untouched = refl;
  short = refl;
  shut_peek = refl;
  shut_look = refl;
  shut = refl;
}
