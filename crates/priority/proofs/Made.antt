-- A row within its bounds gives parts within the limits.
use Rattle.std.proofs.Common.{◌≡◌, ℕ, ◌*◌, ◌≤◌, Bool, true, false, cond, leb, Ok, Err, refl, ap, mul-le-mul, mul-pos, arith}
use Rattle.std.proofs.lemmas.Bool.{leb-true}
use Rattle.std.proofs.lemmas.Bool.Decides.{nat_tests}
use Rattle.counting.specs.Bounds.{Bounded}
use Rattle.counting.specs.declared.row.Row.{Row}
use Rattle.priority.specs.Learned.{requests, row_parts}
use Rattle.priority.specs.Priorities.{lowest, priority_from, within}

within_limits : (a b : ℕ) → a ≤ 4194304 → 1 ≤ b → b ≤ 274877906944 → within (record { numerator = a; denominator = b }) ≡ true
within_limits a b x y z = grind (arith, nat_tests)

module _ {K : Type 0} (r : Row K) (v : Bounded 2048 2048 r) where
  pub row_within : within (row_parts r) ≡ true
  row_within = go (leb 1 r.repeats) refl
    where
      go : (b : Bool) → leb 1 r.repeats ≡ b → within (cond b (record { numerator = r.repeats * r.repeats; denominator = requests r * r.distances }) lowest) ≡ true
      go false e = refl
      go true e =
          let some = leb-true 1 r.repeats e in
          let few : requests r ≤ 2048 = omega (arith, v.count) in
          let near : r.distances ≤ 134215680 = omega (arith, v.most, v.repeats) in
          within_limits (r.repeats * r.repeats) (requests r * r.distances)
          (omega (arith, mul-le-mul v.repeats v.repeats))
          (mul-pos (omega (arith, v.real)) (omega (arith, v.least, some)))
          (omega (arith, mul-le-mul few near))

  pub made_exactly : priority_from (row_parts r) ≡ Ok (row_parts r)
  made_exactly = ap (λ b. cond b (Ok (row_parts r)) (Err 9)) row_within
