-- The parts of a line: numbers in decimal, and what stands for none.
--
--   spaced   parts with a space between them
--   dashed   a number, or - for none
--   listed   numbers with commas between them, or - for none
use Rattle.std.specs.Prelude.{ℕ, List, [], ◌∷◌, ◌++◌, Some, None, codes, decimal, flat_map, Option}
use Rattle.std.specs.List.{join_with_byte}

abbrev pub spaced : List (List ℕ) → List ℕ
spaced = join_with_byte 32

abbrev pub dashed : Option ℕ → List ℕ
dashed (Some n) = decimal n
dashed None = codes "-"

abbrev pub listed : List ℕ → List ℕ
listed [] = codes "-"
listed (n ∷ ns) = decimal n ++ flat_map (λ m. codes "," ++ decimal m) ns
