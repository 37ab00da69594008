-- Every list of countings leaves a table lawful.
use Rattle.std.proofs.Common.{◌≡◌, ℕ, ◌<◌, Bool, true, false, cond, List, [], ◌∷◌, length, drop, fold, sym, refl, ap, ◌∙◌, mul-zero, arith}
use lib.Seq.{take-append_seam}
use Rattle.std.proofs.lemmas.Bool.{false≢true}
use Rattle.std.proofs.lemmas.Bool.Decides.{nat_tests}
use Rattle.counting.specs.Rows.{fresh}
use Rattle.counting.specs.Rule.{counting, refuses}
use Rattle.counting.specs.Tables.{State, accepted, after_count, emptied, used_rows}
use Rattle.counting.specs.Laws.{Lawful, Uncredited, accept, after_all, window}
use Rattle.counting.specs.declared.count_all.Counting.{Counting}
use Rattle.counting.specs.declared.row.Row.{Row}
use Rattle.counting.proofs.Invariants.{Invariant, lawful, start}
use Rattle.counting.proofs.Countings.{counting_keeps}
use Rattle.counting.proofs.Each.{counting_uncredited}
use Rattle.counting.proofs.Puts.{length_over}

-- a table with room for n, whose window is w
module _ {K : Type 0} (m : K → List ℕ) (n : ℕ) (d : Row K) where
  record Sound (t : State K) (w : List K) : Type 0 where
    room : length t.rows ≡ n
    counted : t.counted ≡ length w
    rows : Invariant m n d (used_rows t) w
    bare : Uncredited (used_rows t)

  accepted_sound : (t : State K) (w : List K) (k : K) (number : ℕ) → Sound t w → 0 < n → length w < 2048 → Sound (accepted t (counting m n (used_rows t) k number)) (k ∷ w)
  accepted_sound t w k number v pos few =
      let new = counting m n (used_rows t) k number in
      let kept = counting_keeps m n d (used_rows t) w v.rows pos few k number in
      let seam = take-append_seam new (drop (length new) t.rows) in
      record {
        room = length_over new t.rows (omega (arith, kept.short, v.room)) ∙ v.room;
        counted = omega (arith, v.counted);
        rows = rw seam kept;
        bare = rw seam (counting_uncredited m (used_rows t) k n number v.bare);
      }

  count_sound : (t : State K) (w : List K) (c : Counting K) → Sound t w → Sound (after_count m t c.key c.number) (accept n w c)
  count_sound t w c v = rw v.room (go (refuses n t.counted) (refuses n (length w)) (ap (refuses n) v.counted) refl)
    where
      go : (a b : Bool) → a ≡ b → refuses n (length w) ≡ b → Sound (cond a t (accepted t (counting m n (used_rows t) c.key c.number))) (cond b w (c.key ∷ w))
      go true true e h = v
      go true false e h = absurd (false≢true (sym e))
      go false true e h = absurd (false≢true e)
      go false false e h = accepted_sound t w c.key c.number v (grind (arith, nat_tests)) (grind (arith, nat_tests))

  all_sound : (t : State K) (w : List K) (cs : List (Counting K)) → Sound t w → Sound (fold (λ s c. after_count m s c.key c.number) t cs) (fold (accept n) w cs)
  all_sound t w [] v = v
  all_sound t w (c ∷ cs) v = all_sound (after_count m t c.key c.number) (accept n w c) cs (count_sound t w c v)

-- what holds of the state that countings of an empty table left
pub record Left {K : Type 0} (m : K → List ℕ) (all : List (Row K)) (cs : List (Counting K)) (t : State K) : Type 0 where
  pub counted : t.counted ≡ length (window (length all) cs)
  pub lawful : Lawful m (length all) (used_rows t) (window (length all) cs)
  pub uncredited : Uncredited (used_rows t)

pub all_left : {K : Type 0} (m : K → List ℕ) (all : List (Row K)) (cs : List (Counting K)) → Left m all cs (after_all m all cs)
all_left m all [] = record {
  counted = refl;
  lawful = record { at_least = tt; at_most = tt; errors = tt; unlisted = λ k u. omega (arith, mul-zero (length all)); sums = refl; small = tt };
  uncredited = tt;
}
all_left m all (c ∷ cs) =
    let d = fresh c.key c.number in
    let v = all_sound m (length all) d (emptied all) [] (c ∷ cs) (record { room = refl; counted = refl; rows = start m (length all) d; bare = tt }) in
    record { counted = v.counted; lawful = lawful m (length all) d _ _ v.rows; uncredited = v.bare }

pub left : {K : Type 0} (m : K → List ℕ) (all : List (Row K)) (cs : List (Counting K)) (t : State K) → t ≡ after_all m all cs → Left m all cs t
left m all cs t e = rw e (all_left m all cs)
