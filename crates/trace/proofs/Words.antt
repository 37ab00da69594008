-- The words of a trace as the code takes them.
use Rattle.std.proofs.Common.{◌≡◌, ℕ, ◌+◌, ◌-◌, ◌≤◌, length, take, drop, Some, sym, ap, ◌∙◌}
use Rattle.std.proofs.lemmas.List.{take_rest}
use Rattle.std.proofs.lemmas.Bool.{cond-true, le-leb}
use Rattle.trace.specs.Lefts.{Left}
use Rattle.trace.specs.Words.{first_word, high_first}

-- the first word, with the rest as a slice pattern gives it
pub first_word_is : (l : Left) (n : ℕ) → 4 ≤ length l.rest → n ≡ high_first l.rest →
    Some (n, record { rest = take (length l.rest - 4) (drop 4 l.rest); place = l.place + 1 }) ≡ first_word l
first_word_is l n h e =
    ap (λ r. Some (n, record { rest = r; place = l.place + 1 })) (take_rest l.rest 4) ∙ ap (λ v. Some (v, record { rest = drop 4 l.rest; place = l.place + 1 })) e
    ∙ sym (cond-true _ _ _ (le-leb 4 (length l.rest) h))
