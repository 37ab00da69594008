-- A write of one row gives the state that the rule gives.
use Rattle.std.proofs.Common.{◌≡◌, ℕ, ◌+◌, ◌<◌, ◌≤◌, max, false, cond, List, length, set, Some, None, sym, ap, ◌∙◌, ap₂, arith, length-take}
use Rattle.std.proofs.lemmas.Bool.{cond-false}
use Rattle.counting.specs.Rows.{credited, found, put}
use Rattle.counting.specs.Rule.{counting, credit, refuses}
use Rattle.counting.specs.Tables.{State, accepted, after_count, after_credit, over, used_rows}
use Rattle.counting.specs.declared.row.Row.{Row}
use Rattle.counting.proofs.Founds.{found_some}
use Rattle.counting.proofs.Puts.{length_put, over_put, over_take, put_amend}
use Rattle.counting.proofs.Steps.{credit_adds, credit_passes}

module _ {K : Type 0} (m : K → List ℕ) (t : State K) (within : t.used ≤ length t.rows) (k : K) where
  accepts : (new rs : List (Row K)) (u : ℕ) → rs ≡ over new t.rows → u ≡ length new → false ≡ refuses (length t.rows) t.counted →
      record { rows = rs; used = u; counted = t.counted + 1 } ≡ cond (refuses (length t.rows) t.counted) t (accepted t new)
  accepts new rs u a b h = ap₂ (λ xs n. record { rows = xs; used = n; counted = t.counted + 1 }) a b ∙ sym (cond-false _ t (accepted t new) (sym h))

  -- the write of a counting, at its place among the used rows or after them
  pub count_written : (number : ℕ) (p : ℕ × Row K) (u : ℕ) → p.0 ≤ length (used_rows t) → p.0 < length t.rows → put (used_rows t) p.0 p.1 ≡ counting m (length t.rows) (used_rows t) k number →
      u ≡ max t.used (p.0 + 1) → false ≡ refuses (length t.rows) t.counted → record { rows = set t.rows p.0 p.1; used = u; counted = t.counted + 1 } ≡ after_count m t k number
  count_written number p u next low q e h =
      accepts (counting m (length t.rows) (used_rows t) k number) (set t.rows p.0 p.1) u
      (over_put t.rows t.used p.0 p.1 next low ∙ ap (λ rs. over rs t.rows) q)
      (omega (arith, length_put (used_rows t) p.0 p.1 next, length-take t.used t.rows, ap length q))
      h

  -- the write of a credit
  pub credit_written : (distance : ℕ) (p : ℕ × Row K) (y : Row K) → found m (used_rows t) k ≡ Some p → y ≡ credited distance p.1 →
      record { rows = set t.rows p.0 y; used = t.used; counted = t.counted } ≡ after_credit m t k distance
  credit_written distance p y f e =
      let used = used_rows t in
      let s = found_some m k used p.1 p f in
      let low : p.0 < length t.rows = omega (arith, s.within, length-take t.used t.rows) in
      let q : put used p.0 y ≡ credit m used k distance
      = ap (put used p.0) (e ∙ ap (credited distance) s.there) ∙ put_amend (credited distance) used p.0 p.1 s.within ∙ sym (credit_adds m used k distance p f) in
      ap (λ rs. record { rows = rs; used = t.used; counted = t.counted }) (over_put t.rows t.used p.0 y (omega (arith, s.within)) low ∙ ap (λ rs. over rs t.rows) q)

  pub credit_unwritten : (distance : ℕ) → found m (used_rows t) k ≡ None → t ≡ after_credit m t k distance
  credit_unwritten distance f =
      ap (λ rs. record { rows = rs; used = t.used; counted = t.counted }) (sym (ap (λ rs. over rs t.rows) (credit_passes m (used_rows t) k distance f) ∙ over_take t.rows t.used))
