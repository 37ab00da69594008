-- The kinds of words.
--
--   code            the number that stands for a kind
--   kind_numbered   the kind of a number, if it is that of one
--   IsKind          the kind of a number, or that it has none
use Rattle.std.specs.Prelude.{ℕ, ◌≡◌, [], ◌∷◌, Option, Result, slice_get}
use Rattle.std.specs.Option.{ok_or}
use Rattle.trace.specs.declared.fault.Cause as fault
use Rattle.trace.specs.declared.word.kind.Kind.{Kind}
use Rattle.trace.specs.declared.word.kind.Kind.TheVariants.{Size, Read, Write, Hint, Fill}

abbrev pub code : Kind → ℕ
code Size = 0
code Read = 1
code Write = 2
code Hint = 3
code Fill = 4

abbrev pub kind_numbered : ℕ → Option Kind
kind_numbered n = slice_get (Size ∷ Read ∷ Write ∷ Hint ∷ Fill ∷ []) n

abbrev pub IsKind : ℕ → Result Kind fault.Cause → Type 0
IsKind n r = r ≡ ok_or (kind_numbered n) fault.TheVariants.Kind
