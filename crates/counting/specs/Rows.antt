-- Rows of a counting table.
--
--   amend      a list with the element at a place changed
--   put        a list with a new element at a place, at its end too
--   plus       a sum of 32 bits
--   entering   the row of a key that had none, with an error
--   fresh      the row of a key that takes an unused place
--   raised     a row with one more counting
--   replaced   the row of a key that takes the place of another
--   credited   a row with one more repeat
--   fewer      which of two rows has the lesser count
--   earlier    which of two rows entered earlier
--   sooner     which of two rows gives way first
--   has_key    whether it is the row of a key
--   found      a key's row with its place
--   row_in     a key's row
--   looked     a key's count with its error
use Rattle.std.specs.Prelude.{ℕ, zero, suc, ◌+◌, min, Bool, List, [], ◌∷◌, ◌++◌, take, drop, Option, nat_lt}
use Rattle.std.specs.List.{enumerate_from, find}
use Rattle.std.specs.Option.{option_map}
use Rattle.keys.specs.Meanings.{alike}
use Rattle.order.specs.Then.{first_then}
use Rattle.counting.specs.declared.row.Row.{Row}

-- std's `slice_set` by a function; nothing changes past the end
abbrev pub amend : {A : Type 0} → (A → A) → List A → ℕ → List A
amend f [] i = []
amend f (x ∷ xs) zero = f x ∷ xs
amend f (x ∷ xs) (suc i) = x ∷ amend f xs i

-- past the end it is added there
abbrev pub put : {A : Type 0} → List A → ℕ → A → List A
put xs i y = take i xs ++ y ∷ drop (suc i) xs

-- the sum, but at most the largest number of 32 bits, which no lawful table comes to
abbrev pub plus : ℕ → ℕ → ℕ
plus a b = min (a + b) 4294967295

-- its first counting comes on top of the error
abbrev pub entering : {K : Type 0} → K → ℕ → ℕ → Row K
entering k number error = record {
  key = k;
  count = plus error 1;
  error = error;
  entered = number;
  repeats = 0;
  distances = 0;
}

-- count 1, error 0
abbrev pub fresh : {K : Type 0} → K → ℕ → Row K
fresh k number = entering k number 0

-- all but the count stays
abbrev pub raised : {K : Type 0} → Row K → Row K
raised r = record {
  key = r.key;
  count = plus r.count 1;
  error = r.error;
  entered = r.entered;
  repeats = r.repeats;
  distances = r.distances;
}

-- the old count plus one, and the old count as the error
abbrev pub replaced : {K : Type 0} → K → ℕ → Row K → Row K
replaced k number r = entering k number r.count

-- repeats go up by one and distances by the distance; the rest stays
abbrev pub credited : {K : Type 0} → ℕ → Row K → Row K
credited distance r = record {
  key = r.key;
  count = r.count;
  error = r.error;
  entered = r.entered;
  repeats = plus r.repeats 1;
  distances = plus r.distances distance;
}

abbrev pub fewer : {K : Type 0} → Row K → Row K → Bool
fewer x y = nat_lt x.count y.count

abbrev pub earlier : {K : Type 0} → Row K → Row K → Bool
earlier x y = nat_lt x.entered y.entered

-- the lesser count, then the earlier entered; neither, where both are equal
abbrev pub sooner : {K : Type 0} → Row K → Row K → Bool
sooner = first_then fewer earlier

-- by the keys' meanings
abbrev pub has_key : {K : Type 0} → (K → List ℕ) → K → Row K → Bool
has_key meaning k r = alike (meaning r.key) (meaning k)

-- the first such row, from place 0
abbrev pub found : {K : Type 0} → (K → List ℕ) → List (Row K) → K → Option (ℕ × Row K)
found meaning rs k = find (λ p. has_key meaning k p.1) (enumerate_from 0 rs)

-- without its place
abbrev pub row_in : {K : Type 0} → (K → List ℕ) → List (Row K) → K → Option (Row K)
row_in meaning rs k = find (has_key meaning k) rs

-- the two numbers that a look answers
abbrev pub looked : {K : Type 0} → (K → List ℕ) → List (Row K) → K → Option (ℕ × ℕ)
looked meaning rs k = option_map (λ r. (r.count, r.error)) (row_in meaning rs k)
