-- The values of hint words.
use Rattle.std.proofs.Common.{◌≡◌, ℕ, ◌/◌, ◌<◌, ◌≤◌, true, leb, List, length, is_ok, Ok, Err, Result, sym, refl, ap, ◌∙◌, arith}
use Rattle.std.specs.Result.{result_map_both}
use Rattle.std.proofs.lemmas.List.FromFn.{length-map-range_with_len}
use Rattle.std.proofs.lemmas.Bool.{and_from, and_right, cond-false, cond-true, le-leb, lt-leb}
use Rattle.values.specs.declared.hint_set.BadHintSet.{BadHintSet}
use Rattle.values.specs.declared.hint_set.HintSet.{HintSet}
use Rattle.values.specs.HintSets.{hints_from, meaning, refused}
use Rattle.trace.specs.Hints.{value_at, values_of}

is_ok_map : (r : Result HintSet BadHintSet) → is_ok (result_map_both meaning refused r) ≡ is_ok r
is_ok_map (Ok h) = refl
is_ok_map (Err b) = refl

-- more than five words are refused
pub too_many_hints : (client : ℕ) (bs : List ℕ) → 5 < length bs / 4 → Err 8 ≡ hints_from client (values_of bs)
too_many_hints client bs h =
    let n = length-map-range_with_len (value_at bs) 0 (length bs / 4) in
    sym (cond-false _ _ _ (and_right (leb client 15) (leb (length (values_of bs)) 5) (lt-leb (length (values_of bs)) 5 (omega arith))))

-- a client of four bits with at most five words has a hint set
pub hints_there : (client : ℕ) (bs : List ℕ) (r : Result HintSet BadHintSet) →
    result_map_both meaning refused r ≡ hints_from client (values_of bs) → client ≤ 15 → length bs ≤ 20 → is_ok r ≡ true
hints_there client bs r e h k =
    let n = length-map-range_with_len (value_at bs) 0 (length bs / 4) in
    let made = cond-true _ _ _ (and_from (leb client 15) (leb (length (values_of bs)) 5) (le-leb client 15 h) (le-leb (length (values_of bs)) 5 (omega arith))) in
    sym (is_ok_map r) ∙ ap is_ok (e ∙ made)
