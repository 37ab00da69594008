-- `alike` decides whether two meanings are equal.
use Rattle.std.proofs.Common.{◌≡◌, ℕ, true, List, Decides}
use Rattle.std.specs.Cmp.Lexicographic.{bytes_decides}
use Rattle.keys.specs.Meanings.{alike}

pub decides_alike : (xs ys : List ℕ) → Decides (alike xs ys) (xs ≡ ys)
decides_alike = bytes_decides

pub eq_alike : (xs ys : List ℕ) → alike xs ys ≡ true → xs ≡ ys
eq_alike xs ys = (decides_alike xs ys).0

pub alike_eq : (xs ys : List ℕ) → xs ≡ ys → alike xs ys ≡ true
alike_eq xs ys = (decides_alike xs ys).1
