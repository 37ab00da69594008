-- Every list of calls obeys the laws: each law is kept by one call, and so by all.
use Rattle.std.proofs.Common.{◌≡◌, ℕ, ◌+◌, ◌%◌, ◌^◌, cond, eqb, List, [], ◌∷◌, length, is_ok, Ok, Err, Result, sym, refl, ap, ◌∙◌, subst, arith}
use Rattle.std.proofs.lemmas.Bool.{both_ways}
use Rattle.store.specs.declared.script.Access.{Access}
use Rattle.store.specs.declared.script.Access.TheVariants.{Read, Write}
use Rattle.store.specs.Faults.{Refused}
use Rattle.store.specs.Meaning.{Meaning, Lawful, readable, writable, tested, read_answer, write_answer, tallied, written}
use Rattle.store.specs.Runs.{Event, answer_to, store_after, event, Reaches, start, more}
use Rattle.store.specs.Laws.{accepted, latest, accepted_reads, Throughout, GetsLatest, LeavesBuffer, AnswersAsFirst, Obeys}

-- what one call is: refused and nothing changes, an accepted read, or an accepted write
data Step (m : Meaning) : Event Refused → Meaning → Type 0 where
  refuses : (a : Access) (p : ℕ) (v : List ℕ) (f : Refused) → answer_to a m p (length v) ≡ Err f
      → Step m (record { access = a; page = p; given = v; answer = Err f; returned = v }) m
  reads : (p : ℕ) (v : List ℕ) → read_answer m p (length v) ≡ Ok tt
      → Step m (record { access = Read; page = p; given = v; answer = Ok tt; returned = m.pages p }) (tallied m)
  writes : (p : ℕ) (v : List ℕ) → write_answer m p (length v) ≡ Ok tt
      → Step m (record { access = Write; page = p; given = v; answer = Ok tt; returned = v }) (written m p v)

step : (a : Access) (m : Meaning) (p : ℕ) (v : List ℕ) → Step m (event a m p v) (store_after a m p v)
step Read m p v = go (read_answer m p (length v)) refl
  where
    go : (r : Result Unit Refused) → read_answer m p (length v) ≡ r
        → Step m (record { access = Read; page = p; given = v; answer = r; returned = cond (is_ok r) (m.pages p) v }) (cond (is_ok r) (tallied m) m)
    go (Ok x) e = reads p v e
    go (Err f) e = refuses Read p v f e
step Write m p v = go (write_answer m p (length v)) refl
  where
    go : (r : Result Unit Refused) → write_answer m p (length v) ≡ r
        → Step m (record { access = Write; page = p; given = v; answer = r; returned = v }) (cond (is_ok r) (written m p v) m)
    go (Ok x) e = writes p v e
    go (Err f) e = refuses Write p v f e

-- what each call keeps holds along every list of calls
abbrev Keeps : (List (Event Refused) → Meaning → Type 0) → Type 0
Keeps P = (h : List (Event Refused)) (m n : Meaning) (e : Event Refused) → Step m e n → P h m → P (e ∷ h) n

along : (P : List (Event Refused) → Meaning → Type 0) → Keeps P → (first : Meaning) → P [] first
    → (h : List (Event Refused)) (m : Meaning) → Reaches first h m → P h m
along P k first b _ _ start = b
along P k first b _ _ (more h m a p v r) = k h m (store_after a m p v) (event a m p v) (step a m p v) (along P k first b h m r)

module _ (first : Meaning) where
  -- ---- the meaning: number, marks and origins, bytes, tally
  abbrev Same : List (Event Refused) → Meaning → Type 0
  Same h m = record { number : m.number ≡ first.number; marks : m.marks ≡ first.marks; origins : m.origins ≡ first.origins }

  keeps_same : Keeps Same
  keeps_same h m _ _ (refuses a p v f e) s = s
  keeps_same h m _ _ (reads p v e) s = s
  keeps_same h m _ _ (writes p v e) s = s

  abbrev Pages : List (Event Refused) → Meaning → Type 0
  Pages h m = (p : ℕ) → m.pages p ≡ latest first.pages h p

  keeps_pages : Keeps Pages
  keeps_pages h m _ _ (refuses a p v f e) s = s
  keeps_pages h m _ _ (reads p v e) s = s
  keeps_pages h m _ _ (writes p v e) s = λ q. ap (cond (eqb q p) v) (s q)

  abbrev Tally : List (Event Refused) → Meaning → Type 0
  Tally h m = m.tally ≡ (first.tally + accepted_reads h) % 2 ^ 32

  keeps_tally : Keeps Tally
  keeps_tally h m _ _ (refuses a p v f e) s = s
  keeps_tally h m _ _ (reads p v e) s = omega arith
  keeps_tally h m _ _ (writes p v e) s = s

  -- ---- each call: what an accepted read gets, what the others leave
  abbrev ReadLatest : List (Event Refused) → Meaning → Type 0
  ReadLatest h m = record { now : Pages h m; before : Throughout (GetsLatest first.pages) h }

  keeps_read_latest : Keeps ReadLatest
  keeps_read_latest h m n x (refuses a p v f e) s = record { now = s.now; before = ((λ o. absurd (both_ways _ refl o)), s.before) }
  keeps_read_latest h m n x (reads p v e) s = record { now = s.now; before = ((λ o. s.now p), s.before) }
  keeps_read_latest h m n x (writes p v e) s = record { now = keeps_pages h m n x (writes p v e) s.now; before = ((λ o. absurd (both_ways _ refl o)), s.before) }

  keeps_buffers : Keeps (λ h _. Throughout LeavesBuffer h)
  keeps_buffers h m _ _ (refuses a p v f e) s = ((λ o. refl), s)
  keeps_buffers h m _ _ (reads p v e) s = ((λ o. absurd (both_ways _ o refl)), s)
  keeps_buffers h m _ _ (writes p v e) s = ((λ o. refl), s)

  -- a call's answer rests on what no call changes
  same_answer : (a : Access) (h : List (Event Refused)) (m : Meaning) (p len : ℕ) → Same h m → answer_to a m p len ≡ answer_to a first p len
  same_answer Read h m p len s = λ i. tested (s.number i) p len (readable (s.marks i p) (s.origins i p))
  same_answer Write h m p len s = λ i. tested (s.number i) p len (writable (s.marks i p) (s.origins i p))

  abbrev Answered : List (Event Refused) → Meaning → Type 0
  Answered h m = record { now : Same h m; before : Throughout (AnswersAsFirst first) h }

  keeps_answered : Keeps Answered
  keeps_answered h m _ _ (refuses a p v f e) s = record { now = s.now; before = (sym e ∙ same_answer a h m p (length v) s.now, s.before) }
  keeps_answered h m _ _ (reads p v e) s = record { now = s.now; before = (sym e ∙ same_answer Read h m p (length v) s.now, s.before) }
  keeps_answered h m _ _ (writes p v e) s = record { now = s.now; before = (sym e ∙ same_answer Write h m p (length v) s.now, s.before) }

  -- ---- without the refused calls
  abbrev called : Access → ℕ → List ℕ → List ℕ → Result Unit Refused → Event Refused
  called a p v w r = record { access = a; page = p; given = v; answer = r; returned = w }

  keeps_accepted : Keeps (λ h m. Reaches first (accepted h) m)
  keeps_accepted h m _ _ (refuses a p v f e) s = s
  keeps_accepted h m _ _ (reads p v e) s =
      subst (λ (r : Result Unit Refused). Reaches first (called Read p v (cond (is_ok r) (m.pages p) v) r ∷ accepted h) (cond (is_ok r) (tallied m) m)) e
      (more (accepted h) m Read p v s)
  keeps_accepted h m _ _ (writes p v e) s =
      subst (λ (r : Result Unit Refused). Reaches first (called Write p v v r ∷ accepted h) (cond (is_ok r) (written m p v) m)) e
      (more (accepted h) m Write p v s)

  -- all of them together
  pub obeys : Lawful first → (h : List (Event Refused)) (m : Meaning) → Reaches first h m → Obeys first h m
  obeys l h m r =
      let answered = along Answered keeps_answered first (record { now = record { number = refl; marks = refl; origins = refl }; before = tt }) h m r in
      let latest = along ReadLatest keeps_read_latest first (record { now = λ p. refl; before = tt }) h m r in
      record {
        pages = latest.now;
        tally = along Tally keeps_tally first (omega (arith, l.tally)) h m r;
        number = answered.now.number;
        marks = answered.now.marks;
        origins = answered.now.origins;
        reads = latest.before;
        buffers = along (λ h _. Throughout LeavesBuffer h) keeps_buffers first tt h m r;
        answers = answered.before;
        refusals = along (λ h m. Reaches first (accepted h) m) keeps_accepted first start h m r;
      }
