-- The last window of a trace.
--
--   Last     the size of the windows, and what stands in the last one
--   empty    nothing yet
--   room     what stands in the window that the next request goes into: nothing after a full one
--   noted    the window with one more request
use Rattle.std.specs.Prelude.{ℕ, cond, List, [], ◌∷◌, ◌++◌, length, nat_le}

pub record Last (X : Type 0) : Type 0 where
  pub size : ℕ
  pub items : List X

abbrev pub empty : {X : Type 0} → ℕ → Last X
empty size = record { size = size; items = [] }

abbrev pub room : {X : Type 0} → ℕ → List X → List X
room size xs = cond (nat_le size (length xs)) [] xs

abbrev pub noted : {X : Type 0} → Last X → X → Last X
noted w x = record { size = w.size; items = room w.size w.items ++ x ∷ [] }
