-- The sizes of a server: their limits, and the first that breaks one.
--
--   place        a size's place in the order of the sizes, from 0
--   most         the largest that a size may be
--   limited      what the test of one size answers
--   sizes_from   what making sizes from plain numbers answers
--   numbers_of   the plain numbers of sizes
--   refused      the refusal: its number, and the place of the size that it names
--   Made         what making sizes from plain numbers promises
use Rattle.std.specs.Prelude.{ℕ, cond, ◌&&◌, ◌≡◌, Ok, Err, Result, nat_le}
use Rattle.std.specs.Result.{result_and, result_map_both}
use Rattle.values.specs.declared.size_numbers.SizeNumbers.{SizeNumbers}
use Rattle.values.specs.declared.sizes.BadSize.{BadSize}
use Rattle.values.specs.declared.sizes.SizeName.{SizeName}
use Rattle.values.specs.declared.sizes.SizeName.TheVariants.{CachePlaces, QueuePlaces, HintRows, PageRows, Window}
use Rattle.values.specs.declared.sizes.Sizes.{Sizes}

-- the order of the sizes
abbrev pub place : SizeName → ℕ
place CachePlaces = 0
place QueuePlaces = 1
place HintRows = 2
place PageRows = 3
place Window = 4

-- the largest that a size may be
abbrev pub most : SizeName → ℕ
most CachePlaces = 1024
most QueuePlaces = 8192
most HintRows = 256
most PageRows = 256
most Window = 2048

-- a size is from 1 to its limit, or refused by 1 with its place
abbrev pub limited : SizeName → ℕ → Result Unit (ℕ × ℕ)
limited name size = cond (nat_le 1 size && nat_le size (most name)) (Ok tt) (Err (1, place name))

-- each size in order, and then the numbers as they are
abbrev pub sizes_from : SizeNumbers → Result SizeNumbers (ℕ × ℕ)
sizes_from n =
    result_and (limited CachePlaces n.cache_places)
    (result_and (limited QueuePlaces n.queue_places)
    (result_and (limited HintRows n.hint_rows)
    (result_and (limited PageRows n.page_rows)
    (result_and (limited Window n.window)
    (Ok n)))))

abbrev pub numbers_of : Sizes → SizeNumbers
numbers_of s = s.numbers

abbrev pub refused : BadSize → ℕ × ℕ
refused b = (1, place b.0)

abbrev pub Made : SizeNumbers → Result Sizes BadSize → Type 0
Made n r = result_map_both numbers_of refused r ≡ sizes_from n
