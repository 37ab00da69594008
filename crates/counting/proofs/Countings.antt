-- A counting keeps the invariant, whichever way it takes.
use Rattle.std.proofs.Common.{◌≡◌, ℕ, ◌+◌, ◌<◌, ◌≤◌, true, false, ◌⊎◌, List, [], ◌∷◌, ◌++◌, length, get_or, Some, None, Option, sym, refl, ap, ◌∙◌, inl, inr, arith}
use Rattle.std.specs.Cmp.{IsStrictWeakOrder}
use Rattle.std.proofs.lemmas.List.MinMax.{IsStrictWeakOrder-by_number}
use Rattle.std.proofs.lemmas.List.{get_or_append_left, get_or_push, length_push}
use Rattle.std.proofs.lemmas.List.Sums.{get_or-le-sum_by, sum_by_push}
use Rattle.std.proofs.lemmas.Bool.{both_ways, cases_Bool, cases_eq, cases_lt}
use Rattle.std.proofs.lemmas.Bool.Decides.{nat_tests}
use Rattle.order.specs.Least.{least}
use Rattle.order.proofs.Leasts.{least_first}
use Rattle.order.proofs.Thens.{ranks_then}
use Rattle.keys.specs.Meanings.{alike}
use Rattle.counting.specs.Rows.{amend, earlier, fewer, found, fresh, raised, replaced, sooner}
use Rattle.counting.specs.Rule.{counting}
use Rattle.counting.specs.Laws.{times}
use Rattle.counting.specs.declared.row.Row.{Row}
use Rattle.keys.proofs.Alike.{alike_eq, eq_alike}
use Rattle.counting.proofs.Changes.{amend_each, amend_part, get_or_amend_other, get_or_amend_same, push_each, total_amend}
use Rattle.counting.proofs.Founds.{found_none, found_some}
use Rattle.counting.proofs.Invariants.{Fair, Invariant, Out}
use Rattle.counting.proofs.Puts.{length_amend}
use Rattle.counting.proofs.Steps.{counting_enters, counting_raises, counting_replaces}
use Rattle.counting.proofs.Windows.{times_cong, times_other, times_same}

pub sooner_ranks : {K : Type 0} → IsStrictWeakOrder (sooner {K = K})
sooner_ranks = ranks_then fewer earlier (IsStrictWeakOrder-by_number (λ r. r.count)) (IsStrictWeakOrder-by_number (λ r. r.entered))

-- a row that is not sooner has no lesser count
no_fewer : {K : Type 0} (x y : Row K) → sooner x y ≡ false → y.count ≤ x.count
no_fewer x y e = grind (arith, nat_tests)

module _ {K : Type 0} (m : K → List ℕ) (n : ℕ) (d : Row K) where
  -- a row of another key than the counted one, k; the bound may rise
  other_fair : (w : List K) (k : K) (x y : ℕ) (r : Row K) → x ≤ y → y ≤ r.count → Fair m n d w x r → (m k ≡ m r.key → ⊥) → Fair m n d (k ∷ w) y r
  other_fair w k x y r up under f ne =
      let t = times_other m k r.key w ne in
      record { low = omega (arith, f.low); high = omega (arith, f.high); error = omega (arith, f.error); count = under }

  -- a key with a row, at i, has one more in it
  module _ (rs : List (Row K)) (w : List K) (v : Invariant m n d rs w) (k : K) (i : ℕ) (l : i < length rs) (at : m (get_or rs i d).key ≡ m k) (few : length w < 2048) where
    abbrev up : List (Row K)
    up = amend raised rs i

    up_length : length up ≡ length rs
    up_length = length_amend raised rs i

    up_key : (j : ℕ) → (get_or up j d).key ≡ (get_or rs j d).key
    up_key j = amend_part raised (λ r. r.key) (λ r. refl) rs i j d

    small : (get_or rs i d).count < 2048
    small = omega (arith, get_or-le-sum_by (λ r. r.count) rs i d l, v.sums)

    -- a key that has no row now had none before, and is not the key that was counted
    up_out : (x : K) → Out m n d up x → Out m n d rs x
    up_out x h j lj e = h j (rw up_length lj) (ap m (up_key j) ∙ e)

    raised_fair : Fair m n d (k ∷ w) v.bound (raised (get_or rs i d))
    raised_fair =
        let f = v.fair i l in
        let t = times_same m k (get_or rs i d).key w (sym at) in
        record { low = omega (arith, small, f.low); high = omega (arith, small, f.high); error = f.error; count = omega (arith, small, f.count) }

    raise_keeps : Invariant m n d up (k ∷ w)
    raise_keeps = record {
      short = rw up_length v.short;
      few = omega (arith, few);
      sums = omega (arith, total_amend raised d rs i l (omega (arith, small)), v.sums);
      apart = λ a b la lb e. v.apart a b (rw up_length at la) (rw up_length at lb) (ap m (sym (up_key a)) ∙ e ∙ ap m (up_key b));
      bound = v.bound;
      fair = amend_each d (λ _ r. Fair m n d (k ∷ w) v.bound r) raised rs i l raised_fair
          (λ j ne lj. other_fair w k v.bound v.bound (get_or rs j d) (omega arith) (v.fair j lj).count (v.fair j lj) (λ e. ne (sym (v.apart i j l lj (at ∙ e)))));
      out = λ x h. omega (arith, times_other m k x w (λ e. up_out x h i l (at ∙ e)), v.out x (up_out x h));
      unused = λ s. v.unused (rw up_length at s);
    }

  -- a key without a row takes the first unused row
  module _ (rs : List (Row K)) (w : List K) (v : Invariant m n d rs w) (k : K) (s : ℕ) (room : length rs < n) (new : Out m n d rs k) (few : length w < 2048) where
    abbrev more : List (Row K)
    more = rs ++ fresh k s ∷ []

    more_length : length more ≡ length rs + 1
    more_length = length_push rs (fresh k s)

    more_out : (x : K) → Out m n d more x → Out m n d rs x
    more_out x h j lj e = h j (omega (arith, more_length)) (rw (get_or_append_left rs (fresh k s ∷ []) d j lj) e)

    more_other : (x : K) → Out m n d more x → m k ≡ m x → ⊥
    more_other x h e = h (length rs) (omega (arith, more_length)) (rw (get_or_push rs (fresh k s) d (length rs) refl) e)

    fresh_fair : Fair m n d (k ∷ w) v.bound (fresh k s)
    fresh_fair =
        let z = v.unused room in
        let t = times_same m k k w refl in
        record { low = omega (arith, v.out k new); high = omega arith; error = omega arith; count = omega arith }

    enter_keeps : Invariant m n d more (k ∷ w)
    enter_keeps = record {
      short = omega (arith, more_length);
      few = omega (arith, few);
      sums = omega (arith, sum_by_push (λ r. r.count) rs (fresh k s), v.sums);
      apart = λ a b la lb. push_each d (λ i r. (j : ℕ) → j < length more → m r.key ≡ m (get_or more j d).key → i ≡ j) rs (fresh k s)
          (λ i li. push_each d (λ j q. m (get_or rs i d).key ≡ m q.key → i ≡ j) rs (fresh k s) (λ j lj e. v.apart i j li lj e) (λ e. absurd (new i li e)))
          (push_each d (λ j q. m k ≡ m q.key → length rs ≡ j) rs (fresh k s) (λ j lj e. absurd (new j lj (sym e))) (λ e. refl))
          a la b lb;
      bound = v.bound;
      fair = push_each d (λ _ r. Fair m n d (k ∷ w) v.bound r) rs (fresh k s)
          (λ j lj. other_fair w k v.bound v.bound (get_or rs j d) (omega arith) (v.fair j lj).count (v.fair j lj) (λ e. new j lj (sym e)))
          fresh_fair;
      out = λ x h. omega (arith, times_other m k x w (more_other x h), v.out x (more_out x h));
      unused = λ _. v.unused room;
    }

  -- a key without a row takes the row with the least count
  module _ (rs : List (Row K)) (w : List K) (v : Invariant m n d rs w) (k : K) (s : ℕ) (full : n ≤ length rs) (new : Out m n d rs k) (i : ℕ) (l : i < length rs)
      (min : (j : ℕ) → j < length rs → (get_or rs i d).count ≤ (get_or rs j d).count) (few : length w < 2048) where
    abbrev least_count : ℕ
    least_count = (get_or rs i d).count

    abbrev swap : List (Row K)
    swap = amend (replaced k s) rs i

    swap_length : length swap ≡ length rs
    swap_length = length_amend (replaced k s) rs i

    less : least_count < 2048
    less = omega (arith, get_or-le-sum_by (λ r. r.count) rs i d l, v.sums)

    rises : v.bound ≤ least_count
    rises = (v.fair i l).count

    swap_other : (x : K) → Out m n d swap x → m k ≡ m x → ⊥
    swap_other x h e = h i (rw swap_length l) (rw (get_or_amend_same d (replaced k s) rs i l) e)

    -- a key without a row now had the row that gave way, or none
    swap_out : (x : K) → Out m n d swap x → times m x w ≤ least_count
    swap_out x h = go (cases_Bool (alike (m (get_or rs i d).key) (m x)))
      where
        go : (alike (m (get_or rs i d).key) (m x) ≡ true) ⊎ (alike (m (get_or rs i d).key) (m x) ≡ false) → times m x w ≤ least_count
        go (inl t) = omega (arith, times_cong m (get_or rs i d).key x w (eq_alike _ _ t), (v.fair i l).low)
        go (inr f) = omega (arith, v.out x old, rises)
          where
            old : Out m n d rs x
            old j lj e = elim (cases_eq j i) [
              | inl q ↦ both_ways _ f (alike_eq _ _ (rw q at e))
              | inr ne ↦ h j (rw swap_length lj) (rw (get_or_amend_other d (replaced k s) rs i j ne) e)
            ]

    replaced_fair : Fair m n d (k ∷ w) least_count (replaced k s (get_or rs i d))
    replaced_fair =
        let t = times_same m k k w refl in
        record { low = omega (arith, less, v.out k new, rises); high = omega (arith, less); error = omega arith; count = omega (arith, less) }

    replace_keeps : Invariant m n d swap (k ∷ w)
    replace_keeps = record {
      short = rw swap_length v.short;
      few = omega (arith, few);
      sums = omega (arith, total_amend (replaced k s) d rs i l (omega (arith, less)), v.sums);
      apart = λ a b la lb. amend_each d (λ p r. (j : ℕ) → j < length swap → m r.key ≡ m (get_or swap j d).key → p ≡ j) (replaced k s) rs i l
          (amend_each d (λ j q. m k ≡ m q.key → i ≡ j) (replaced k s) rs i l (λ e. refl) (λ j ne lj e. absurd (new j lj (sym e))))
          (λ p np lp. amend_each d (λ j q. m (get_or rs p d).key ≡ m q.key → p ≡ j) (replaced k s) rs i l (λ e. absurd (new p lp e)) (λ j ne lj e. v.apart p j lp lj e))
          a la b lb;
      bound = least_count;
      fair = amend_each d (λ _ r. Fair m n d (k ∷ w) least_count r) (replaced k s) rs i l replaced_fair
          (λ j ne lj. other_fair w k v.bound least_count (get_or rs j d) rises (min j lj) (v.fair j lj) (λ e. new j lj (sym e)));
      out = λ x h. omega (arith, times_other m k x w (swap_other x h), swap_out x h);
      unused = λ r. absurd (omega (arith, swap_length));
    }

  pub counting_keeps : (rs : List (Row K)) (w : List K) → Invariant m n d rs w → 0 < n → length w < 2048 → (k : K) (number : ℕ) → Invariant m n d (counting m n rs k number) (k ∷ w)
  counting_keeps rs w v pos few k number = go (found m rs k) refl (cases_lt (length rs) n)
    where
      go : (o : Option (ℕ × Row K)) → found m rs k ≡ o → (length rs < n) ⊎ (n ≤ length rs) → Invariant m n d (counting m n rs k number) (k ∷ w)
      go (Some p) e _ =
          let s = found_some m k rs d p e in
          rw (counting_raises m n rs k number p e) (raise_keeps rs w v k p.0 s.within (ap (λ r. m r.key) (sym s.there) ∙ s.keyed) few)
      go None e (inl room) = rw (counting_enters m n rs k number e room) (enter_keeps rs w v k number room (found_none m k rs d e) few)
      go None e (inr full) =
          let p : 0 < length rs = omega arith in
          let f = least_first sooner sooner_ranks rs p in
          rw (counting_replaces m n rs k number e full)
          (replace_keeps rs w v k number full (found_none m k rs d e) (least sooner rs) f.0
          (λ j lj. no_fewer (get_or rs j d) (get_or rs (least sooner rs) d) (f.1 j d lj)) few)
