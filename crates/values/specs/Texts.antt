-- What the sizes and their refusal print.
--
--   name_text       the name of a size
--   bad_size_text   a size that is refused, by its name
use Rattle.std.specs.Prelude.{ℕ, List, ◌++◌, codes}
use Rattle.values.specs.declared.sizes.BadSize.{BadSize}
use Rattle.values.specs.declared.sizes.SizeName.{SizeName}
use Rattle.values.specs.declared.sizes.SizeName.TheVariants.{CachePlaces, QueuePlaces, HintRows, PageRows, Window}

abbrev pub name_text : SizeName → List ℕ
name_text CachePlaces = codes "cache places"
name_text QueuePlaces = codes "queue places"
name_text HintRows = codes "hint rows"
name_text PageRows = codes "page rows"
name_text Window = codes "window"

abbrev pub bad_size_text : BadSize → List ℕ
bad_size_text bad = codes "the size " ++ name_text bad.0 ++ codes " is 0 or over its limit"
