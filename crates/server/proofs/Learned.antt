-- Tables whose parts are others.
use Rattle.std.proofs.Common.{◌≡◌, ℕ, cond, List, sym, ap}
use Rattle.std.proofs.lemmas.Bool.{eq-eqb, ne_eqb}
use Rattle.values.specs.declared.hint_numbers.HintNumbers.{HintNumbers}
use Rattle.values.specs.declared.size_numbers.SizeNumbers.{SizeNumbers}
use Rattle.counting.specs.declared.row.Row.{Row}
use Rattle.rules.specs.State.{Tables}
use Rattle.rules.specs.Learning.{close, emptied}

abbrev pub with_parts : ℕ → List (Row HintNumbers) → List (Row HintNumbers) → List (Row ℕ) → Tables
with_parts requests live closed pages = record { requests = requests; live = live; closed = closed; pages = pages }

pub same_parts : {n n' : ℕ} {l l' c c' : List (Row HintNumbers)} {p p' : List (Row ℕ)}
    → n ≡ n' → l ≡ l' → c ≡ c' → p ≡ p' → with_parts n l c p ≡ with_parts n' l' c' p'
same_parts a b c d = λ i. with_parts (a i) (b i) (c i) (d i)

-- a window that is full, and one that is not
module _ (z : SizeNumbers) (t : Tables) where
  pub closes : t.requests ≡ z.window → emptied t ≡ close z t
  unfolding close
  closes e = ap (λ b. cond b (emptied t) t) (sym (eq-eqb t.requests z.window e))

  pub stays : (t.requests ≡ z.window → ⊥) → t ≡ close z t
  unfolding close
  stays e = ap (λ b. cond b (emptied t) t) (sym (ne_eqb t.requests z.window e))
