-- Every list of calls makes a history, and so does the sample.
use Rattle.std.proofs.Common.{List, [], ◌∷◌, refl, arith}
use lib.ListN.{length-replicate}
use Rattle.store.specs.Meaning.{Lawful, Meaning}
use Rattle.rules.specs.State.{State}
use Rattle.rules.specs.Histories.{Call, Event, Performs, Reaches, start, more, end_state, end_store, event, history, state_after, store_after}
use Rattle.rules.specs.Examples.{pages_64}
use Rattle.rules.specs.Sample.{LawfulSample, eight, small}
use Rattle.rules.proofs.Everything.{lawful_history}

goes_on : (first : State) (below : Meaning) (h : List Event) (t : State) (m : Meaning) (cs : List Call) → Reaches first below h t m
    → Reaches first below (history t m cs h) (end_state t m cs) (end_store t m cs)
goes_on first below h t m [] w = w
goes_on first below h t m (c ∷ cs) w = goes_on first below (event t m c ∷ h) (state_after t m c) (store_after t m c) cs (more h t m c w)

pub performs : Performs
performs t m cs = goes_on t m [] t m cs start

lawful_64 : Lawful pages_64
lawful_64 = record {
  number = omega arith;
  tally = omega arith;
  pages = λ p l. length-replicate 256 p;
  origins = λ p l. (omega arith, omega arith);
}

pub lawful_sample : LawfulSample
lawful_sample =
    lawful_history small.sizes pages_64 (history small pages_64 eight []) (end_state small pages_64 eight) (end_store small pages_64 eight) refl lawful_64
    (performs small pages_64 eight)
