-- Answers made one from another.
--
--   then   the next answer, made from this one, unless this one is a fault
use Rattle.std.specs.Prelude.{Ok, Err, Result}

-- as `and_then` does; the library has a word for that at an `Option` alone
abbrev pub then : {X Y F : Type 0} → Result X F → (X → Result Y F) → Result Y F
then (Ok x) next = next x
then (Err f) next = Err f
