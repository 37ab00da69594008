-- Hits and store reads are the accepted reads.
use Rattle.std.proofs.Common.{◌≡◌, ℕ, ◌+◌, ◌%◌, ◌^◌, ◌<◌, ◌≤◌, List, ◌∷◌, length, Some, None, refl, arith}
use Rattle.values.specs.declared.hint_numbers.HintNumbers.{HintNumbers}
use Rattle.store.specs.declared.script.Access.{Access}
use Rattle.store.specs.declared.script.Access.TheVariants.{Read, Write}
use Rattle.store.specs.Meaning.{Meaning}
use Rattle.store.specs.Laws.{accepted_reads}
use Rattle.rules.specs.State.{State, opened}
use Rattle.rules.specs.Choices.{Choice, decision}
use Rattle.rules.specs.Requests.{after, choice, store_after}
use Rattle.rules.specs.Histories.{Event, request_event}
use Rattle.rules.specs.Accepted.{accepted, accesses, hit_of, hits}
use Rattle.rules.specs.Laws.{Conservation, Every}
use Rattle.rules.proofs.Along.{Keeps, OnRequest, along, asks, granted}
use Rattle.rules.proofs.Chosen.{Chosen, as_hit, as_free, as_evict, as_pass, chosen}

-- the tally, which was from at the start, after so many hits and reads, at the number of the latest request
pub record Balance (from tally hit read number : ℕ) : Type 0 where
  pub fits : tally < 2 ^ 32
  pub even : (tally + hit) % 2 ^ 32 ≡ (from + read) % 2 ^ 32
  pub part : hit ≤ read
  -- so they stay below 2^24, and nothing is lost by the modulus
  pub few : read ≤ number
  pub limit : number ≤ 16777215

-- a read either hits or raises the tally
record OneRead (before after hit : ℕ) : Type 0 where
  fits : after < 2 ^ 32
  even : (after + hit) % 2 ^ 32 ≡ (before + 1) % 2 ^ 32
  most : hit ≤ 1

one_read : (room : ℕ) (t : State) (m : Meaning) (p : ℕ) (given : List ℕ) (d : Choice) → Chosen room p t.places.cache d → m.tally < 2 ^ 32
    → OneRead m.tally (store_after Read t m p given).tally (hit_of Read (decision d))
one_read room t m p given _ (as_hit x f k) l = rw f (record { fits = l; even = refl; most = omega arith })
one_read room t m p given _ (as_free f k) l = rw f (record { fits = omega arith; even = omega arith; most = omega arith })
one_read room t m p given _ (as_evict i f k) l = rw f (record { fits = omega arith; even = omega arith; most = omega arith })
one_read room t m p given _ (as_pass f) l = rw f (record { fits = omega arith; even = omega arith; most = omega arith })

module _ (from : ℕ) where
  abbrev Balanced : List Event → State → Meaning → Type 0
  Balanced h t m = Balance from m.tally (hits (accepted h)) (accepted_reads (accesses h)) t.number

  accepts : (k : Access) (p : ℕ) (g : HintNumbers) (given : List ℕ) (h : List Event) (t : State) (m : Meaning) → t.number < 16777215 → Balanced h t m
      → Balanced (request_event (asks k p g) given (after None t m (asks k p g) given) ∷ h) (after None t m (asks k p g) given).state (after None t m (asks k p g) given).store
  accepts Write p g given h t m l w = record {
    fits = w.fits;
    even = omega (arith, w.even);
    part = omega (arith, w.part);
    few = omega (arith, w.few);
    limit = omega arith;
  }
  accepts Read p g given h t m l w =
      let r = asks Read p g in
      let o = one_read t.sizes.cache_places t m p given (choice t r) (chosen t.sizes.cache_places t.tables.closed t.places.cache p g) w.fits in
      record {
        fits = o.fits;
        even = omega (arith, o.even, w.even);
        part = omega (arith, o.most, w.part);
        few = omega (arith, w.few);
        limit = omega arith;
      }

  request_balance : OnRequest Balanced
  request_balance (Some f) h t m r given e w = w
  request_balance None h t m r given e w = accepts r.access r.page r.hints given h t m (granted t m r (length given) e) w

  balance_keeps : Keeps Balanced
  balance_keeps = record { request = request_balance; peek = λ h t m p given w. w; look = λ h t m l w. w }

pub conservation : Every Conservation
conservation sizes below h t m lawful good w =
    let b = along (Balanced below.tally) (balance_keeps below.tally) (opened sizes) below
    (record { fits = good.tally; even = refl; part = omega arith; few = omega arith; limit = omega arith }) h t m w in
    omega (arith, good.tally, b.fits, b.even, b.part, b.few, b.limit)
