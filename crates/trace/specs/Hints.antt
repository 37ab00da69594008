-- The values that hint words hold.
--
--   value_at    the value of the word at a place, from 0: its last two bytes
--   values_of   the values of all whole words
use Rattle.std.specs.Prelude.{ℕ, ◌+◌, ◌*◌, ◌/◌, List, map, length, slice_index}
use Rattle.std.specs.List.{range_with_len}

abbrev pub value_at : List ℕ → ℕ → ℕ
value_at bs i = slice_index bs (4 * i + 2) * 256 + slice_index bs (4 * i + 3)

abbrev pub values_of : List ℕ → List ℕ
values_of bs = map (value_at bs) (range_with_len 0 (length bs / 4))
