-- What the calls of a queue do to the list of its elements, the earliest first.
--
--   with_room   a full queue without its earliest, any other as it is
--   entered     a queue that one more has entered
--   latest      the last so many of a list
use Rattle.std.specs.Prelude.{ℕ, ◌-◌, cond, List, [], ◌∷◌, ◌++◌, length, drop, nat_lt}

-- room is the number of places of the queue
abbrev pub with_room : {A : Type 0} → ℕ → List A → List A
with_room room xs = cond (nat_lt (length xs) room) xs (drop 1 xs)

-- it comes last in a queue of so many places, of at least one
abbrev pub entered : {A : Type 0} → ℕ → A → List A → List A
entered room x xs = with_room room xs ++ x ∷ []

-- all of them where there are fewer
abbrev pub latest : {A : Type 0} → ℕ → List A → List A
latest n xs = drop (length xs - n) xs
