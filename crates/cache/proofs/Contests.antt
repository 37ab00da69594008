-- The rules' choices, by what the searches answer.
use Rattle.std.proofs.Common.{◌≡◌, ℕ, suc, ◌+◌, Bool, true, false, cond, not, eqb, nat_lt, List, [], ◌∷◌, length, get_or, Some, None, sym, refl, ap, ◌∙◌, arith}
use Rattle.std.specs.List.{position_or_len}
use Rattle.std.specs.Option.{option_map_or}
use Rattle.values.specs.declared.hint_numbers.HintNumbers.{HintNumbers}
use Rattle.counting.specs.declared.row.Row.{Row}
use Rattle.rules.specs.declared.choice.Choice.{Choice}
use Rattle.rules.specs.declared.choice.Choice.TheVariants.{Hit, Free, Evict, Pass}
use Rattle.rules.specs.declared.entry.Entry.{Entry}
use Rattle.rules.specs.State.{CachedPage, entries}
use Rattle.rules.specs.Pages.{entry_page, seek}
use Rattle.rules.specs.Choices.{choose, contest, victim_place}
use Rattle.rules.specs.Priorities.{gives_way, priority_of}
use Rattle.priority.specs.Priorities.{less}
use Rattle.order.specs.Least.{least_in}
use Rattle.order.proofs.Leasts.{least_lt}
use Rattle.std.proofs.lemmas.List.{get_or_default}
use Rattle.std.proofs.lemmas.Option.{same_Some}
use Rattle.rules.proofs.Entries.{length_entries}
use Rattle.cache.specs.Changes.{sought}

-- the rules seek a page where `position` finds it
pub seek_position : (p : ℕ) (es : List Entry) → seek entry_page p es ≡ position_or_len (λ e. eqb (entry_page e) p) es
seek_position p [] = refl
seek_position p (e ∷ es) = go (eqb (entry_page e) p) (seek_position p es)
  where
    go : (b : Bool) → seek entry_page p es ≡ position_or_len (λ e. eqb (entry_page e) p) es
        → cond b 0 (suc (seek entry_page p es)) ≡ cond (not b) (1 + position_or_len (λ e. eqb (entry_page e) p) es) 0
    go true q = refl
    go false q = omega (arith, q)

-- by what is found and how many pages are cached
pub choose_sought : (room : ℕ) (closed : List (Row HintNumbers)) (cs : List CachedPage) (p : ℕ) (h : HintNumbers)
    → choose room closed (entries cs) p h ≡ option_map_or Hit (sought p (entries cs)) (cond (nat_lt (length cs) room) Free (contest closed h (entries cs)))
unfolding choose
choose_sought room closed cs p h =
    let es = entries cs in
    let other : Choice = cond (nat_lt (length es) room) Free (contest closed h es) in
    ap (λ i. cond (nat_lt i (length es)) (Hit i) other) (seek_position p es)
    ∙ go other (nat_lt (position_or_len (λ e. eqb (entry_page e) p) es) (length es)) (position_or_len (λ e. eqb (entry_page e) p) es)
    ∙ ap (λ n. option_map_or Hit (sought p es) (cond (nat_lt n room) Free (contest closed h es))) (length_entries cs)
  where
    go : (d : Choice) (b : Bool) (i : ℕ) → cond b (Hit i) d ≡ option_map_or Hit (cond b (Some i) None) d
    go d true i = refl
    go d false i = refl

-- ---- the parts of a choice
module _ (closed : List (Row HintNumbers)) (h : HintNumbers) where
  -- against the victim at place i
  pub contest_at : (es : List Entry) (i : ℕ) (d : Entry) → Some i ≡ least_in (gives_way closed) es
      → contest closed h es ≡ cond (less (priority_of closed (get_or es i d).hints) (priority_of closed h)) (Evict i) Pass
  contest_at [] i d e = let z : ◌≡◌ {A = ℕ} 0 1 = cc in let no : ⊥ = omega arith in absurd no
  contest_at (x ∷ es) i d e =
      let v = victim_place closed (x ∷ es) in
      let same : v ≡ i = sym (same_Some i v e) in
      ap (λ y. cond (less (priority_of closed y.hints) (priority_of closed h)) (Evict v) Pass)
      (get_or_default (x ∷ es) v x d (least_lt (gives_way closed) (x ∷ es) (omega arith)))
      ∙ ap (λ j. cond (less (priority_of closed (get_or (x ∷ es) j d).hints) (priority_of closed h)) (Evict j) Pass) same

  module _ (room : ℕ) (es : List Entry) (p : ℕ) where
    abbrev admitted : Choice
    admitted = cond (nat_lt (length es) room) Free (contest closed h es)

    pub choose_hit : (i : ℕ) → sought p es ≡ Some i → Hit i ≡ choose room closed es p h
    unfolding choose
    choose_hit i e = go (nat_lt (seek entry_page p es) (length es)) (ap (λ j. cond (nat_lt j (length es)) (Some j) None) (seek_position p es) ∙ e)
      where
        go : (b : Bool) → cond b (Some (seek entry_page p es)) None ≡ Some i → Hit i ≡ cond b (Hit (seek entry_page p es)) admitted
        go true q = ap Hit (sym (same_Some (seek entry_page p es) i q))
        go false q = cc

    pub choose_other : sought p es ≡ None → admitted ≡ choose room closed es p h
    unfolding choose
    choose_other e = go (nat_lt (seek entry_page p es) (length es)) (ap (λ j. cond (nat_lt j (length es)) (Some j) None) (seek_position p es) ∙ e)
      where
        go : (b : Bool) → cond b (Some (seek entry_page p es)) None ≡ None → admitted ≡ cond b (Hit (seek entry_page p es)) admitted
        go true q = cc
        go false q = refl
