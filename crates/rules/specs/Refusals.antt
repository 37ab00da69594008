-- What a call of the server answers when it refuses.
--
--   Refused      a refusal: its number, and an origin where a store refused
--   plain        a refusal of the server itself
--   passed_up    a store's refusal, as the server gives it
--   refusal_of   the code's refusal in these words
--   numbered     the code's answer in these words
use Rattle.std.specs.Prelude.{ℕ, Some, None, Option, Result}
use Rattle.std.specs.Result.{result_map_both}
use Rattle.store.specs.declared.fault.Origin.{Origin}
use Rattle.store.specs.Faults.{Refused as StoreRefused, refusal_of as store_refusal_of}
use Rattle.rules.specs.declared.refusal.Refusal.{Refusal}
use Rattle.rules.specs.declared.refusal.Refusal.TheVariants.{Shut, Buffer, Exhausted, Store}

-- a refusal as contracts speak of it
pub record Refused : Type 0 where
  pub number : ℕ
  pub origin : Option Origin

-- 2, 3 or 4, with no origin
abbrev pub plain : ℕ → Refused
plain n = record { number = n; origin = None }

-- whole: its number and its origin
abbrev pub passed_up : StoreRefused → Refused
passed_up f = record { number = f.number; origin = Some f.origin }

-- the number and the origin of a refusal
abbrev pub refusal_of : Refusal → Refused
refusal_of Shut = plain 2
refusal_of Buffer = plain 3
refusal_of Exhausted = plain 4
refusal_of (Store f) = passed_up (store_refusal_of f)

-- an answer of the code, its refusal by number and origin
abbrev pub numbered : {X : Type 0} → Result X Refusal → Result X Refused
numbered r = result_map_both (λ x. x) refusal_of r
