-- The plain parts of fractions, and what is said of them.
--
--   within          whether parts lie within the limits
--   priority_from   what making a priority from parts answers
--   lowest          the parts of the lowest priority
--   compared        how one fraction stands to another
--   less            whether one fraction is less than another
use Rattle.std.specs.Prelude.{ℕ, ◌*◌, Bool, cond, ◌&&◌, Ok, Err, Result, nat_le, nat_lt}
use Rattle.std.specs.Ordering.{nat_cmp}
use Rattle.std.specs.declared.cmp.Ordering.{Ordering}
use Rattle.priority.specs.declared.priority_parts.PriorityParts.{PriorityParts}

-- a numerator of at most 2^22, and a denominator from 1 to 2^38
abbrev pub within : PriorityParts → Bool
within p = nat_le p.numerator 4194304 && nat_le 1 p.denominator && nat_le p.denominator 274877906944

-- the parts as they are, or refusal 9
abbrev pub priority_from : PriorityParts → Result PriorityParts ℕ
priority_from p = cond (within p) (Ok p) (Err 9)

abbrev pub lowest : PriorityParts
lowest = record { numerator = 0; denominator = 1 }

-- by cross products: a/b stands to c/d as a × d to c × b
abbrev pub compared : PriorityParts → PriorityParts → Ordering
compared x y = nat_cmp (x.numerator * y.denominator) (y.numerator * x.denominator)

abbrev pub less : PriorityParts → PriorityParts → Bool
less x y = nat_lt (x.numerator * y.denominator) (y.numerator * x.denominator)
