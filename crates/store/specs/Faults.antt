-- What a store answers when it refuses.
--   number_of    the number of a cause
--   Refused      a refusal: a number and an origin
--   refuse       the answer that is a refusal
--   refusal_of   a fault as a refusal
--   numbered     an answer with numbers in place of causes
--   here         the origin of a page that no pair has passed on
--   deeper       an origin as a pair passes it on
use Rattle.std.specs.Prelude.{ℕ, ◌+◌, min, Err, Result}
use Rattle.std.specs.Result.{result_map_both}
use Rattle.store.specs.declared.fault.Origin.{Origin}
use Rattle.store.specs.declared.fault.Fault.{Fault}
use Rattle.store.specs.declared.fault.FaultNumber.{FaultNumber}
use Rattle.store.specs.declared.fault.FaultNumber.TheVariants.{Buffer, NoPage, Dead, Sealed}

-- the numbers of the causes: a wrong buffer, no such page, a dead page, a sealed page
abbrev pub number_of : FaultNumber → ℕ
number_of Buffer = 3
number_of NoPage = 5
number_of Dead = 6
number_of Sealed = 7

-- a refusal as contracts speak of it
pub record Refused : Type 0 where
  pub number : ℕ
  pub origin : Origin

-- the answer that is a refusal
abbrev pub refuse : {X : Type 0} → ℕ → Origin → Result X Refused
refuse n o = Err (record { number = n; origin = o })

-- the number and the origin of a fault
abbrev pub refusal_of : Fault → Refused
refusal_of f = record { number = number_of f.number; origin = f.origin }

-- an answer of the code, its fault by number and origin
abbrev pub numbered : {X : Type 0} → Result X Fault → Result X Refused
numbered r = result_map_both (λ x. x) refusal_of r

-- page p itself, no pair above it
abbrev pub here : ℕ → Origin
here p = record { page = p; depth = 0 }

-- one pair deeper, but never past 255
abbrev pub deeper : Origin → Origin
deeper o = record o { depth = min (o.depth + 1) 255 }
