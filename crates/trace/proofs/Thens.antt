-- Answers made one from another.
use Rattle.std.proofs.Common.{◌≡◌, Some, None, Ok, Err, Option, Result, refl, ap, ◌∙◌, arith}
use Rattle.std.specs.Option.{ok_or}
use Rattle.std.specs.Result.{result_map_both}
use Rattle.trace.specs.Thens.{then}

-- a refusal is no answer
pub err_ok : {X F : Type 0} (f : F) (x : X) → ◌≡◌ {A = Result X F} (Err f) (Ok x) → ⊥
err_ok f x e = grind arith

-- what answered, where the answer made from it is no fault
pub then_ok : {X Y F P : Type 0} (r : Result X F) (k : X → Result Y F) (y : Y) → then r k ≡ Ok y →
    ((x : X) → r ≡ Ok x → k x ≡ Ok y → P) → P
then_ok (Ok x) k y e next = next x refl e
then_ok (Err f) k y e next = absurd (err_ok f y e)

-- the answer made from an answer that is no fault
pub then_to : {X Y F : Type 0} (r : Result X F) (k : X → Result Y F) (x : X) (s : Result Y F) → r ≡ Ok x → k x ≡ s → then r k ≡ s
then_to r k x s e h = ap (λ q. then q k) e ∙ h

-- an answer under another name for its faults
pub renamed_ok : {X F G : Type 0} (g : F → G) (r : Result X F) (x : X) → result_map_both (λ y. y) g r ≡ Ok x → r ≡ Ok x
renamed_ok g (Ok y) x e = cc
renamed_ok g (Err f) x e = absurd (err_ok (g f) x e)

pub ok_or_ok : {X F : Type 0} (o : Option X) (f : F) (x : X) → ok_or o f ≡ Ok x → o ≡ Some x
ok_or_ok (Some y) f x e = cc
ok_or_ok None f x e = absurd (err_ok f x e)

-- a fault before it is its fault
pub then_err : {X Y F : Type 0} (r : Result X F) (k : X → Result Y F) (f : F) → r ≡ Err f → then r k ≡ Err f
then_err r k f e = ap (λ q. then q k) e
