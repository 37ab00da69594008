-- The five size words at the start of a trace.
--
--   size_at      the size of a name at the front of what is left, and what is left after it
--   size_words   five sizes in order
--   in_limits    the same numbers, or refusal 1 at the word of the first size out of its limits
--   sizes_at     the sizes at the front of what is left, and what is left after them
use Rattle.std.specs.Prelude.{ℕ, ◌+◌, Ok, Result}
use Rattle.std.specs.Result.{result_map_both}
use Rattle.values.specs.declared.size_numbers.SizeNumbers.{SizeNumbers}
use Rattle.values.specs.declared.sizes.SizeName.{SizeName}
use Rattle.values.specs.declared.sizes.SizeName.TheVariants.{CachePlaces, QueuePlaces, HintRows, PageRows, Window}
use Rattle.values.specs.Sizes.{sizes_from}
use Rattle.trace.specs.declared.word.Expected.TheVariants.{Size}
use Rattle.trace.specs.Lefts.{Left}
use Rattle.trace.specs.Thens.{then}
use Rattle.trace.specs.Words.{word_at}

abbrev pub size_at : SizeName → Left → Result (ℕ × Left) (ℕ × ℕ)
size_at name l = then (word_at (Size name) l) (λ t. Ok (t.0.value, t.1))

abbrev pub size_words : Left → Result (SizeNumbers × Left) (ℕ × ℕ)
size_words l =
    then (size_at CachePlaces l) (λ c.
    then (size_at QueuePlaces c.1) (λ q.
    then (size_at HintRows q.1) (λ k.
    then (size_at PageRows k.1) (λ j.
    then (size_at Window j.1) (λ w.
    Ok (record { cache_places = c.0; queue_places = q.0; hint_rows = k.0; page_rows = j.0; window = w.0 }, w.1))))))

abbrev pub in_limits : SizeNumbers → ℕ → Result SizeNumbers (ℕ × ℕ)
in_limits n place = result_map_both (λ z. z) (λ f. (f.0, place + f.1)) (sizes_from n)

abbrev pub sizes_at : Left → Result (SizeNumbers × Left) (ℕ × ℕ)
sizes_at l = then (size_words l) (λ t. then (in_limits t.0 l.place) (λ _. Ok t))
