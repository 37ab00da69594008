-- Eight requests to a server with one cache place, two queue places, two rows of each kind and windows of four.
--
--   eight          the requests
--   small          the server
--   Sample         what they answer and leave
--   LawfulSample   they make a history, to which the laws apply
use Rattle.std.specs.Prelude.{◌≡◌, List, [], ◌∷◌, map, take, Some, None}
use Rattle.priority.specs.declared.priority_parts.PriorityParts.{PriorityParts}
use Rattle.rules.specs.declared.answer.Decision.TheVariants.{Hit, Free, Evict, Pass}
use Rattle.rules.specs.State.{State}
use Rattle.rules.specs.Priorities.{priority_of}
use Rattle.rules.specs.Histories.{Call, end_state, end_store, history}
use Rattle.rules.specs.Laws.{LawfulHistory}
use Rattle.rules.specs.Examples.{accepts, answers, first_bytes, hint, pages_64, reads, server, writes}

abbrev pub eight : List Call
eight = reads 10 1 ∷ reads 20 2 ∷ reads 20 1 ∷ reads 10 2 ∷ reads 20 1 ∷ writes 30 2 7 ∷ reads 10 1 ∷ reads 30 2 ∷ []

abbrev pub small : State
small = server 1 2 2 2 4

-- the priorities of the hint values 1 and 2
abbrev pub priorities : State → List PriorityParts
priorities t = priority_of t.tables.closed (hint 1) ∷ priority_of t.tables.closed (hint 2) ∷ []

pub record Sample : Type 0 where
  pub decided : answers small pages_64 eight ≡
      accepts 1 Free None None
      ∷ accepts 2 Pass None None
      ∷ accepts 3 Pass None (Some 1)
      ∷ accepts 4 Hit None (Some 3)
      ∷ accepts 5 Pass None (Some 2)
      ∷ accepts 6 Pass None None
      ∷ accepts 7 Hit None (Some 3)
      ∷ accepts 8 Evict (Some 10) (Some 2)
      ∷ []
  pub bytes : first_bytes small pages_64 eight ≡ 10 ∷ 20 ∷ 20 ∷ 10 ∷ 20 ∷ 7 ∷ 10 ∷ 7 ∷ []
  pub tally : (end_store small pages_64 eight).tally ≡ 5
  -- page 30 is cached and no longer queued; the victim, page 10, has entered the queue last
  pub cached : map (λ x. x.entry.page) (end_state small pages_64 eight).places.cache ≡ 30 ∷ []
  pub queued : map (λ e. e.page) (end_state small pages_64 eight).places.queue ≡ 20 ∷ 10 ∷ []
  -- after the first window: 1/6 and 1/2
  pub first_window : priorities (end_state small pages_64 (take 4 eight)) ≡
      record { numerator = 1; denominator = 6 } ∷ record { numerator = 1; denominator = 2 } ∷ []
  -- after the second: 0/1 and 4/10, which is not reduced
  pub second_window : priorities (end_state small pages_64 eight) ≡
      record { numerator = 0; denominator = 1 } ∷ record { numerator = 4; denominator = 10 } ∷ []

abbrev pub LawfulSample : Type 0
LawfulSample = LawfulHistory small.sizes pages_64 (history small pages_64 eight []) (end_state small pages_64 eight) (end_store small pages_64 eight)
