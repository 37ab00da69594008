-- A reader of a trace: what each call answers and leaves.
--
--   sizes_read, after_sizes   what reading the sizes answers, and what it leaves
--   item_read, after_item     what reading an item answers, and what it leaves
use Rattle.std.specs.Prelude.{ℕ, Some, None, Ok, Err, Option, Result}
use Rattle.std.specs.Option.{option_map}
use Rattle.std.specs.Result.{result_map_both}
use Rattle.values.specs.declared.size_numbers.SizeNumbers.{SizeNumbers}
use Rattle.trace.specs.Items.{Request, next_at}
use Rattle.trace.specs.Lefts.{Left}
use Rattle.trace.specs.Sizes.{sizes_at}

-- the part of an answer that the caller gets
abbrev pub sizes_read : Left → Result SizeNumbers (ℕ × ℕ)
sizes_read l = result_map_both (λ t. t.0) (λ f. f) (sizes_at l)

abbrev pub item_read : Left → Result (Option Request) (ℕ × ℕ)
item_read l = result_map_both (option_map (λ t. t.0)) (λ f. f) (next_at l)

-- a fault and the end of the trace leave the reader where it was
abbrev pub passed_sizes : Left → Result (SizeNumbers × Left) (ℕ × ℕ) → Left
passed_sizes l (Ok t) = t.1
passed_sizes l (Err f) = l

abbrev pub passed_item : Left → Result (Option (Request × Left)) (ℕ × ℕ) → Left
passed_item l (Ok (Some t)) = t.1
passed_item l (Ok None) = l
passed_item l (Err f) = l

abbrev pub after_sizes : Left → Left
after_sizes l = passed_sizes l (sizes_at l)

abbrev pub after_item : Left → Left
after_item l = passed_item l (next_at l)
