-- Plain numbers that are padded with 0 are those of a hint set, and say the values again.
use Rattle.std.proofs.Common.{◌≡◌, ℕ, ◌≤◌, Bool, true, false, cond, leb, List, [], ◌∷◌, length, Ok, Err, Result, refl, ap, ◌∙◌, arith}
use Rattle.std.specs.Result.{result_map_both}
use Rattle.std.proofs.Math.Bool.{and-true}
use Rattle.std.proofs.lemmas.Bool.{le-leb}
use Rattle.values.specs.declared.hint_numbers.HintNumbers.{HintNumbers}
use Rattle.values.specs.declared.hint_set.BadHintSet.{BadHintSet}
use Rattle.values.specs.declared.hint_set.HintSet.{HintSet}
use Rattle.values.specs.HintSets.{hints_from, lawful, meaning, numbers_from, numbers_of, padded, refused, says}

-- of up to five values only the client can be wrong
pub lawful_padded : (client : ℕ) (vs : List ℕ) → length vs ≤ 5 → lawful (padded client vs) ≡ leb client 15
lawful_padded client [] h = simp and-true
lawful_padded client (a ∷ []) h = simp and-true
lawful_padded client (a ∷ b ∷ []) h = simp and-true
lawful_padded client (a ∷ b ∷ c ∷ []) h = simp and-true
lawful_padded client (a ∷ b ∷ c ∷ d ∷ []) h = simp and-true
lawful_padded client (a ∷ b ∷ c ∷ d ∷ e ∷ []) h = simp and-true
lawful_padded client (a ∷ b ∷ c ∷ d ∷ e ∷ f ∷ vs) h = absurd (omega arith)

-- the five places, cut at the count, are the values
pub says_padded : (client : ℕ) (vs : List ℕ) → length vs ≤ 5 → says (padded client vs) ≡ record { client = client; values = vs }
says_padded client [] h = refl
says_padded client (a ∷ []) h = refl
says_padded client (a ∷ b ∷ []) h = refl
says_padded client (a ∷ b ∷ c ∷ []) h = refl
says_padded client (a ∷ b ∷ c ∷ d ∷ []) h = refl
says_padded client (a ∷ b ∷ c ∷ d ∷ e ∷ []) h = refl
says_padded client (a ∷ b ∷ c ∷ d ∷ e ∷ f ∷ vs) h = absurd (omega arith)

-- what a hint set says, its numbers say
told : (r : Result HintSet BadHintSet) → result_map_both meaning refused r ≡ result_map_both says (λ f. f) (result_map_both numbers_of refused r)
told (Ok h) = refl
told (Err b) = refl

mapped_cond : (b : Bool) (n : HintNumbers) → result_map_both says (λ (f : ℕ). f) (cond b (Ok n) (Err 8)) ≡ cond b (Ok (says n)) (Err 8)
mapped_cond true n = refl
mapped_cond false n = refl

-- a hint set made from the padded numbers is that of the client and the values
pub made_from_padded : (client : ℕ) (vs : List ℕ) → length vs ≤ 5 → (r : Result HintSet BadHintSet) →
    result_map_both numbers_of refused r ≡ numbers_from (padded client vs) → result_map_both meaning refused r ≡ hints_from client vs
made_from_padded client vs h r e =
    told r ∙ ap (result_map_both says (λ f. f)) e ∙ mapped_cond (lawful (padded client vs)) (padded client vs)
    ∙ cc (lawful_padded client vs h, says_padded client vs h, le-leb (length vs) 5 h, and-true (leb client 15))
