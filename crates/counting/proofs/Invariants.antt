-- The invariant of a table: what its used rows say of its window, with all that one more counting needs.
-- It holds at the start, a counting keeps it, a change that leaves keys, counts and errors keeps it, as a credit does, and it gives the laws.
use Rattle.std.proofs.Common.{◌≡◌, ℕ, ◌+◌, ◌*◌, ◌<◌, ◌≤◌, ◌⊎◌, List, [], length, get_or, Some, None, Option, sym, refl, ap, ◌∙◌, inl, inr, mul-zero, arith}
use Rattle.std.proofs.ByRecursion.{All-from_get_or, All-get_or}
use Rattle.std.proofs.lemmas.List.Sums.{get_or-le-sum_by}
use Rattle.std.proofs.lemmas.Bool.{cases_lt}
use Rattle.counting.specs.Rows.{amend, credited, found}
use Rattle.counting.specs.Rule.{credit, credited_as}
use Rattle.counting.specs.Laws.{Lawful, times}
use Rattle.counting.specs.declared.row.Row.{Row}
use Rattle.counting.proofs.Changes.{amend_part, total, total_ge, total_same}
use Rattle.counting.proofs.Puts.{length_amend}

-- rs are the used rows of a table with room for n, and w its window, the latest first; d is any row
module _ {K : Type 0} (m : K → List ℕ) (n : ℕ) (d : Row K) where
  -- no row has the key
  abbrev pub Out : List (Row K) → K → Type 0
  Out rs k = (i : ℕ) → i < length rs → m (get_or rs i d).key ≡ m k → ⊥

  -- a row's count is its key's times at least, and those with the error at most; x lies between error and count
  pub record Fair (w : List K) (x : ℕ) (r : Row K) : Type 0 where
    pub low : times m r.key w ≤ r.count
    pub high : r.count ≤ times m r.key w + r.error
    pub error : r.error ≤ x
    pub count : x ≤ r.count

  pub record Invariant (rs : List (Row K)) (w : List K) : Type 0 where
    pub short : length rs ≤ n
    pub few : length w ≤ 2048
    pub sums : total rs ≡ length w
    pub apart : (i j : ℕ) → i < length rs → j < length rs → m (get_or rs i d).key ≡ m (get_or rs j d).key → i ≡ j
    -- a bound that no count is below, and that no error and no unlisted key's times pass
    pub bound : ℕ
    pub fair : (i : ℕ) → i < length rs → Fair w bound (get_or rs i d)
    pub out : (k : K) → Out rs k → times m k w ≤ bound
    -- with a row unused, there is neither an error nor an unlisted key
    pub unused : length rs < n → bound ≡ 0

  pub start : Invariant [] []
  start = record {
    short = omega arith;
    few = omega arith;
    sums = refl;
    apart = λ i j li lj e. absurd (omega arith);
    bound = 0;
    fair = λ i li. absurd (omega arith);
    out = λ k h. omega arith;
    unused = λ _. refl;
  }

  spread : (rs : List (Row K)) (w : List K) (v : Invariant rs w) (x : ℕ) → x ≤ v.bound → n * x ≤ length w
  spread rs w v x h = go (cases_lt (length rs) n)
    where
      go : (length rs < n) ⊎ (n ≤ length rs) → n * x ≤ length w
      go (inl r) = let z : x ≡ 0 = omega (arith, v.unused r) in rw z (omega (arith, mul-zero n))
      go (inr f) =
          let e : n ≡ length rs = omega (arith, v.short) in
          rw e (omega (arith, total_ge x d rs (λ i l. omega (arith, (v.fair i l).count)), v.sums))

  pub lawful : (rs : List (Row K)) (w : List K) → Invariant rs w → Lawful m n rs w
  lawful rs w v = record {
    at_least = All-from_get_or _ rs d (λ i l. (v.fair i l).low);
    at_most = All-from_get_or _ rs d (λ i l. (v.fair i l).high);
    errors = All-from_get_or _ rs d (λ i l. spread rs w v (get_or rs i d).error (v.fair i l).error);
    unlisted = λ k u. spread rs w v (times m k w) (v.out k (λ i l. All-get_or (λ r. m r.key ≡ m k → ⊥) rs i d l u));
    sums = v.sums;
    small = All-from_get_or _ rs d (λ i l. omega (arith, get_or-le-sum_by (λ r. r.count) rs i d l, v.sums, v.few));
  }

  -- a row changed, but not in its key, count or error
  pub change_keeps : (f : Row K → Row K) → ((r : Row K) → (f r).key ≡ r.key) → ((r : Row K) → (f r).count ≡ r.count) → ((r : Row K) → (f r).error ≡ r.error)
      → (rs : List (Row K)) (i : ℕ) (w : List K) → Invariant rs w → Invariant (amend f rs i) w
  change_keeps f hk hc he rs i w v = record {
    short = rw len v.short;
    few = v.few;
    sums = total_same f hc rs i ∙ v.sums;
    apart = λ a b la lb e. v.apart a b (rw len at la) (rw len at lb) (ap m (sym (key a)) ∙ e ∙ ap m (key b));
    bound = v.bound;
    fair = λ j lj.
        let u = v.fair j (rw len at lj) in
        record { low = rw (key j, count j) u.low; high = rw (key j, count j, error j) u.high; error = rw (error j) u.error; count = rw (count j) u.count };
    out = λ k o. v.out k (λ j lj e. o j (rw len lj) (ap m (key j) ∙ e));
    unused = λ s. v.unused (rw len at s);
  }
    where
      len : length (amend f rs i) ≡ length rs
      len = length_amend f rs i

      key : (j : ℕ) → (get_or (amend f rs i) j d).key ≡ (get_or rs j d).key
      key j = amend_part f (λ r. r.key) hk rs i j d

      count : (j : ℕ) → (get_or (amend f rs i) j d).count ≡ (get_or rs j d).count
      count j = amend_part f (λ r. r.count) hc rs i j d

      error : (j : ℕ) → (get_or (amend f rs i) j d).error ≡ (get_or rs j d).error
      error j = amend_part f (λ r. r.error) he rs i j d

  pub credit_keeps : (rs : List (Row K)) (w : List K) → Invariant rs w → (k : K) (distance : ℕ) → Invariant (credit m rs k distance) w
  unfolding credit
  credit_keeps rs w v k distance = go (found m rs k)
    where
      go : (o : Option (ℕ × Row K)) → Invariant (credited_as rs distance o) w
      go (Some p) = change_keeps (credited distance) (λ r. refl) (λ r. refl) (λ r. refl) rs p.0 w v
      go None = v
