-- Hint sets: what one means, and which plain numbers are those of one.
--
--   Hints          what a hint set says: its client and its values
--   five_values    the five values of plain numbers, those past the count too
--   says           what plain numbers say, the values past the count left out
--   numbers_of     the plain numbers of a hint set
--   meaning        what a hint set says
--   padded         the plain numbers of a client with up to five values
--   hints_from     what making a hint set from a client and values answers
--   blank          whether each value past the count is 0
--   lawful         whether plain numbers are those of a hint set
--   numbers_from   what making a hint set from plain numbers answers
--   refused        the refusal: its number
--   Made           what making a hint set from plain numbers promises
use Rattle.std.specs.Prelude.{◌≡◌, ℕ, Bool, cond, ◌&&◌, List, [], ◌∷◌, length, take, drop, Ok, Err, Result, ◌==◌, nat_le, slice_index, IfOk}
use Rattle.std.specs.List.{list_all}
use Rattle.std.specs.Result.{result_map_both}
use Rattle.values.specs.declared.hint_numbers.HintNumbers.{HintNumbers}
use Rattle.values.specs.declared.hint_set.BadHintSet.{BadHintSet}
use Rattle.values.specs.declared.hint_set.HintSet.{HintSet}

pub record Hints : Type 0 where
  pub client : ℕ
  pub values : List ℕ

abbrev pub five_values : HintNumbers → List ℕ
five_values n = n.first ∷ n.second ∷ n.third ∷ n.fourth ∷ n.fifth ∷ []

abbrev pub says : HintNumbers → Hints
says n = record { client = n.client; values = take n.count (five_values n) }

abbrev pub numbers_of : HintSet → HintNumbers
numbers_of h = h.numbers

abbrev pub meaning : HintSet → Hints
meaning h = says (numbers_of h)

-- places past the end of the values hold 0
abbrev pub padded : ℕ → List ℕ → HintNumbers
padded client values = record {
  client = client;
  count = length values;
  first = slice_index values 0;
  second = slice_index values 1;
  third = slice_index values 2;
  fourth = slice_index values 3;
  fifth = slice_index values 4;
}

-- at most client 15 and five values, else refusal 8
abbrev pub hints_from : ℕ → List ℕ → Result Hints ℕ
hints_from client values =
    cond (nat_le client 15 && nat_le (length values) 5) (Ok (record { client = client; values = values })) (Err 8)

-- each value past the count is 0
abbrev pub blank : HintNumbers → Bool
blank n = list_all (λ v. v == 0) (drop n.count (five_values n))

abbrev pub lawful : HintNumbers → Bool
lawful n = nat_le n.client 15 && nat_le n.count 5 && blank n

abbrev pub numbers_from : HintNumbers → Result HintNumbers ℕ
numbers_from n = cond (lawful n) (Ok n) (Err 8)

abbrev pub refused : BadHintSet → ℕ
refused b = 8

pub record Made (n : HintNumbers) (r : Result HintSet BadHintSet) : Type 0 where
  pub value : result_map_both numbers_of refused r ≡ numbers_from n
  pub meaning : IfOk r (λ h. meaning h ≡ says n)
