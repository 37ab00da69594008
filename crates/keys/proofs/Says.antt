-- Hint sets that say the same have the same numbers.
use Rattle.std.proofs.Common.{◌≡◌, ℕ, zero, suc, ◌≤◌, [], ◌∷◌, take, sym, refl, ap, drop, lit<, ◌∙◌, arith}
use Rattle.std.specs.List.{All}
use Rattle.values.specs.HintSets.{meaning, numbers_of, padded}
use Rattle.values.specs.declared.hint_set.HintSet.{HintSet}

-- the numbers of a hint set are its values, padded with 0
padded_first : (client count a b c d e : ℕ) → count ≤ 5 → All (λ v. v ≡ 0) (drop count (a ∷ b ∷ c ∷ d ∷ e ∷ []))
    → record { client = client; count = count; first = a; second = b; third = c; fourth = d; fifth = e } ≡ padded client (take count (a ∷ b ∷ c ∷ d ∷ e ∷ []))
padded_first client zero a b c d e h z = cc (z 0 0 (lit< tt), z 1 0 (lit< tt), z 2 0 (lit< tt), z 3 0 (lit< tt), z 4 0 (lit< tt))
padded_first client (suc zero) a b c d e h z = cc (z 0 0 (lit< tt), z 1 0 (lit< tt), z 2 0 (lit< tt), z 3 0 (lit< tt))
padded_first client (suc (suc zero)) a b c d e h z = cc (z 0 0 (lit< tt), z 1 0 (lit< tt), z 2 0 (lit< tt))
padded_first client (suc (suc (suc zero))) a b c d e h z = cc (z 0 0 (lit< tt), z 1 0 (lit< tt))
padded_first client (suc (suc (suc (suc zero)))) a b c d e h z = cc (z 0 0 (lit< tt))
padded_first client (suc (suc (suc (suc (suc zero))))) a b c d e h z = refl
padded_first client (suc (suc (suc (suc (suc (suc count)))))) a b c d e h z = absurd (omega arith)

padded_meaning : (h : HintSet) → numbers_of h ≡ padded (meaning h).client (meaning h).values
padded_meaning h =
    let n = numbers_of h in
    padded_first n.client n.count n.first n.second n.third n.fourth n.fifth h.few.1 h.blank

pub same_numbers : (a b : HintSet) → meaning a ≡ meaning b → numbers_of a ≡ numbers_of b
same_numbers a b e = padded_meaning a ∙ ap (λ h. padded h.client h.values) e ∙ sym (padded_meaning b)
