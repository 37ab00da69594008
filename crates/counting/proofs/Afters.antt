-- The used rows of a table after a counting and after a credit are those that the rule gives.
use Rattle.std.proofs.Common.{◌≡◌, ℕ, ◌<◌, false, List, length, drop, Some, None, Option, refl, ap, ◌∙◌, arith}
use lib.Seq.{take-append_seam}
use Rattle.std.proofs.lemmas.Bool.{cond-false}
use Rattle.std.proofs.lemmas.Bool.Decides.{nat_tests}
use Rattle.counting.specs.Rows.{credited, found}
use Rattle.counting.specs.Rule.{counting, credit, credited_as, refuses}
use Rattle.counting.specs.Tables.{State, accepted, after_count, after_credit, used_rows}
use Rattle.counting.specs.declared.row.Row.{Row}
use Rattle.counting.proofs.Puts.{length_amend, take_over}

module _ {K : Type 0} (m : K → List ℕ) (t : State K) (k : K) where
  pub count_accepted : (number : ℕ) → 0 < length t.rows → t.counted < 2048 → after_count m t k number ≡ accepted t (counting m (length t.rows) (used_rows t) k number)
  count_accepted number some few =
      let open_still : refuses (length t.rows) t.counted ≡ false = grind (arith, nat_tests) in
      cond-false (refuses (length t.rows) t.counted) t (accepted t (counting m (length t.rows) (used_rows t) k number)) open_still

  pub used_after_count : (number : ℕ) → 0 < length t.rows → t.counted < 2048 → used_rows (after_count m t k number) ≡ counting m (length t.rows) (used_rows t) k number
  used_after_count number some few =
      let new = counting m (length t.rows) (used_rows t) k number in
      ap used_rows (count_accepted number some few) ∙ take-append_seam new (drop (length new) t.rows)

  length_credit : (distance : ℕ) → length (credit m (used_rows t) k distance) ≡ length (used_rows t)
  unfolding credit
  length_credit distance = go (found m (used_rows t) k)
    where
      go : (o : Option (ℕ × Row K)) → length (credited_as (used_rows t) distance o) ≡ length (used_rows t)
      go (Some p) = length_amend (credited distance) (used_rows t) p.0
      go None = refl

  pub used_after_credit : (distance : ℕ) → used_rows (after_credit m t k distance) ≡ credit m (used_rows t) k distance
  used_after_credit distance = take_over t.used (credit m (used_rows t) k distance) t.rows (length_credit distance)
