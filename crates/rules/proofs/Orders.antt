-- Cached pages give way in a total order, and the victim is its least.
use Rattle.std.proofs.Common.{◌≡◌, ℕ, ◌<◌, ◌≤◌, Bool, true, false, cond, ◌⊎◌, List, [], ◌∷◌, length, get_or, Some, None, Ok, Err, Option, refl, ap, ◌∙◌, subst, arith}
use Rattle.std.specs.Cmp.{IsStrictWeakOrder}
use Rattle.std.specs.Result.{result_unwrap_or}
use Rattle.std.proofs.ByRecursion.{All-from_get_or}
use Rattle.std.proofs.lemmas.List.{get_or_default}
use Rattle.std.proofs.lemmas.Bool.Decides.{nat_tests}
use Rattle.values.specs.declared.hint_numbers.HintNumbers.{HintNumbers}
use Rattle.keys.specs.Meanings.{hint_meaning}
use Rattle.order.proofs.Leasts.{least_first}
use Rattle.order.proofs.Thens.{ranks_then}
use Rattle.counting.specs.Rows.{row_in}
use Rattle.counting.specs.declared.row.Row.{Row}
use Rattle.priority.specs.Learned.{row_parts}
use Rattle.priority.specs.Priorities.{less, lowest, priority_from, within}
use Rattle.priority.specs.declared.priority.Priority.{Priority}
use Rattle.priority.specs.declared.priority_parts.PriorityParts.{PriorityParts}
use Rattle.priority.specs.Fractions.{lower_ranks}
use Rattle.rules.specs.declared.entry.Entry.{Entry}
use Rattle.rules.specs.Priorities.{earlier, gives_way, priority_by, priority_of, worth_less}
use Rattle.rules.specs.Choices.{evict, choose, contest, victim_place}
use Rattle.rules.specs.Victims.{GivesWay, Victim, Victims}

-- ---- every priority is within the limits
or_lowest_within : (p : PriorityParts) → within (result_unwrap_or (priority_from p) lowest) ≡ true
or_lowest_within p = go (within p) refl
  where
    go : (b : Bool) → within p ≡ b → within (result_unwrap_or {E = ℕ} (cond b (Ok p) (Err 9)) lowest) ≡ true
    go true e = e
    go false e = refl

by_within : (o : Option (Row HintNumbers)) → within (priority_by o) ≡ true
by_within None = refl
by_within (Some r) = or_lowest_within (row_parts r)

pub priority_within : (closed : List (Row HintNumbers)) (h : HintNumbers) → within (priority_of closed h) ≡ true
unfolding priority_of
priority_within closed h = by_within (row_in hint_meaning closed h)

module _ (closed : List (Row HintNumbers)) where
  worth : Entry → Priority
  worth e = record { parts = priority_of closed e.hints; in_limits = priority_within closed e.hints }

  worth_ranks : IsStrictWeakOrder (worth_less closed)
  unfolding worth
  worth_ranks = record { one_way = λ x y. lower_ranks.one_way (worth x) (worth y); chain = λ x y z. lower_ranks.chain (worth x) (worth y) (worth z) }

  earlier_ranks : IsStrictWeakOrder earlier
  earlier_ranks = record { one_way = λ x y h. grind (arith, nat_tests); chain = λ x y z h k. grind (arith, nat_tests) }

  ranks : IsStrictWeakOrder (gives_way closed)
  ranks = ranks_then (worth_less closed) earlier worth_ranks earlier_ranks

  apart : (x y : Entry) → (x.number ≡ y.number → ⊥) → (gives_way closed x y ≡ true) ⊎ (gives_way closed y x ≡ true)
  apart x y ne = grind (arith, nat_tests)

  -- what an entry that does not give way before v tells
  no_less : (e v : Entry) → gives_way closed e v ≡ false → worth_less closed e v ≡ false
  no_less e v h = grind arith

  no_lower : (e v : Entry) → gives_way closed e v ≡ false → worth_less closed v e ≡ false → v.number ≤ e.number
  no_lower e v h k = grind (arith, nat_tests)

  victim_at : (es : List Entry) (d : Entry) → 0 < length es → Victim closed es (victim_place closed es) (get_or es (victim_place closed es) d)
  victim_at es d l =
      let f = least_first (gives_way closed) ranks es l in
      record {
        place = f;
        least = All-from_get_or _ es d (λ i k. no_less (get_or es i d) (get_or es (victim_place closed es) d) (f.1 i d k));
        lowest = All-from_get_or _ es d (λ i k. no_lower (get_or es i d) (get_or es (victim_place closed es) d) (f.1 i d k));
      }

  abbrev Won : HintNumbers → List Entry → ℕ → Entry → Type 0
  Won h es i d = Victim closed es i (get_or es i d) × (less (priority_of closed (get_or es i d).hints) (priority_of closed h) ≡ true)

  won : (h : HintNumbers) (es : List Entry) (i : ℕ) (d : Entry) → contest closed h es ≡ evict i → Won h es i d
  won h [] i d q = absurd (cc)
  won h (e ∷ es) i d q =
      let v = victim_place closed (e ∷ es) in
      let w = victim_at (e ∷ es) d (omega arith) in
      let same : v ≡ i = grind arith in
      let lets_in : less (priority_of closed (get_or (e ∷ es) v e).hints) (priority_of closed h) ≡ true = grind arith in
      subst (λ j. Won h (e ∷ es) j d) same (w, ap (λ x. less (priority_of closed x.hints) (priority_of closed h)) (get_or_default (e ∷ es) v d e w.place.0) ∙ lets_in)

pub gives_way_total : GivesWay
gives_way_total closed = record { ranks = ranks closed; told_apart = apart closed }

pub victims : Victims
unfolding choose
victims closed room es p h i d q = grind (arith, won closed h es i d)
