-- A script that is being performed: what holds at the start, after each call and at the end.
use Rattle.std.proofs.Common.{◌≡◌, ℕ, zero, suc, ◌+◌, ◌-◌, ◌<◌, ◌≤◌, min, List, [], ◌∷◌, ◌++◌, length, get_or, take, drop, set, Result, sym, refl, ap, ◌∙◌, subst, append_assoc, zero-add, arith, length-append}
use native.Mathlib.Nat.{sub-zero}
use Rattle.std.proofs.lemmas.List.{take-append-drop, take_at, drop_at, set_at, length-take-le, take_more, drop_more, length-drop}
use Rattle.store.specs.declared.script.Call.{Call}
use Rattle.store.specs.Faults.{Refused}
use Rattle.store.specs.Meaning.{Meaning, Lawful}
use Rattle.store.specs.Runs.{Event, answer_to, buffer_after, store_after, event, Reaches, start, more}
use Rattle.store.specs.Scripts.{gathered, call_of, given_of, returned_of, answer_of, fitting, Performed}
use Rattle.store.proofs.Histories.{obeys}

-- the first done calls were made, with the memory's first at bytes
pub record Performing (first last : Meaning) (script : List Call) (before after : List ℕ) (old new : List (Result Unit Refused)) (done at : ℕ) : Type 0 where
  pub so_far : Performed first last (take done script) before after old new
  pub given : length (gathered given_of so_far.history) ≡ at
  pub returned : length (gathered returned_of so_far.history) ≡ at
  pub room : at ≤ length before
  pub counted : done + fitting (drop done script) (length before - at) (length old - done) ≡ fitting script (length before) (length old)

pub performing_none : {first : Meaning} {script : List Call} {memory : List ℕ} {old : List (Result Unit Refused)} → Lawful first
    → Performing first first script memory memory old old 0 0
performing_none {first} {script} {memory} {old} l = record {
  so_far = record { history = []; rest = memory; calls = refl; given = refl; returned = refl; answers = refl; reached = start; lawful = obeys first l [] first start };
  given = refl;
  returned = refl;
  room = omega arith;
  counted = simp (zero-add, sub-zero);
}

-- there are as many answers as calls
length_answers : (h : List (Event Refused)) → length (gathered answer_of h) ≡ length (gathered call_of h)
length_answers [] = refl
length_answers (e ∷ h) = simp length-append (omega (arith, length_answers h))

-- ---- how many calls fit
fitting_more : (c : Call) (script : List Call) (room places : ℕ) → c.length ≤ room → 0 < places
    → fitting (c ∷ script) room places ≡ 1 + fitting script (room - c.length) (places - 1)
fitting_more c script room zero h k = absurd (omega arith)
fitting_more c script room (suc places) h k = grind arith

fitting_full : (c : Call) (script : List Call) (room places : ℕ) → room < c.length → fitting (c ∷ script) room places ≡ 0
fitting_full c script room zero h = refl
fitting_full c script room (suc places) h = grind arith

fitting_over : (script : List Call) (room places : ℕ) → min (length script) places ≡ 0 → fitting script room places ≡ 0
fitting_over [] room places h = refl
fitting_over (c ∷ script) room zero h = refl
fitting_over (c ∷ script) room (suc places) h = absurd (omega arith)

-- ---- one more call
-- the memory before and after, where the call was given the first k bytes of the rest
given_more : (xs rest before : List ℕ) (k : ℕ) → before ≡ xs ++ rest → before ≡ (xs ++ take k rest) ++ drop k rest
given_more xs rest before k e = grind (arith, take-append-drop, append_assoc)

-- the outcomes, of which the next becomes r
answers_more : {X : Type 0} (xs old new : List X) (done n : ℕ) (r : X) → new ≡ xs ++ drop n old → n ≡ done → length xs ≡ done → done < length old
    → set new done r ≡ (xs ++ r ∷ []) ++ drop (done + 1) old
answers_more xs old new done n r e i l h =
    rw (e, i, drop_more old done r h) (set_at xs (get_or old done r) (drop (done + 1) old) r done l ∙ sym (append_assoc xs (r ∷ []) (drop (done + 1) old)))

-- how many calls fit of the rest
counted_more : (script : List Call) (done room places : ℕ) (d : Call) → done < length script → (get_or script done d).length ≤ room → 0 < places
    → done + fitting (drop done script) room places ≡ (done + 1) + fitting (drop (done + 1) script) (room - (get_or script done d).length) (places - 1)
counted_more script done room places d h k p = grind (arith, drop_more, fitting_more)

-- the script's next call was made, with the memory's next bytes up to the end-th
pub performing_more : {first m n : Meaning} {script : List Call} {before after left : List ℕ} {old new : List (Result Unit Refused)} {done at end : ℕ}
    {r : Result Unit Refused} (d : Call)
    → Lawful first → Performing first m script before after old new done at
    → done < length script → done < length old → end ≡ at + (get_or script done d).length → end ≤ length before → length left ≡ end - at
    → r ≡ answer_to (get_or script done d).access m (get_or script done d).page (length (take (end - at) (drop at after)))
    → left ≡ buffer_after (get_or script done d).access m (get_or script done d).page (take (end - at) (drop at after))
    → n ≡ store_after (get_or script done d).access m (get_or script done d).page (take (end - at) (drop at after))
    → Performing first n script before (take at after ++ (left ++ drop (end - at) (drop at after))) old (set new done r) (done + 1) end
performing_more {first} {m} {n} {script} {before} {after} {left} {old} {new} {done} {at} {end} {r} d l w more-script more-places next-end more_Room length-left answer buffer store =
    let s = w.so_far in
    let h : List (Event Refused) = s.history in
    let rest : List ℕ = s.rest in
    let c : Call = get_or script done d in
    let k : ℕ = end - at in
    let part : List ℕ = take k (drop at after) in
    let e : Event Refused = event c.access m c.page part in
    let here : take at after ≡ gathered returned_of h = rw s.returned (take_at (gathered returned_of h) rest at w.returned) in
    let next : drop at after ≡ rest = rw s.returned (drop_at (gathered returned_of h) rest at w.returned) in
    let sum = ap length s.given ∙ length-append (gathered given_of h) rest in
    let start = w.given in
    let long : length part ≡ k = ap (λ xs. length (take k xs)) next ∙ length-take-le k rest (omega arith) in
    let call : length part ≡ c.length = omega arith in
    let many : length (take done script) ≡ done = length-take-le done script (omega arith) in
    let reached : Reaches first (e ∷ h) n = subst (Reaches first (e ∷ h)) (sym store) (more h m c.access c.page part s.reached) in
    let room : length before - at - c.length ≡ length before - end = omega arith in
    let places : length old - done - 1 ≡ length old - (done + 1) = omega arith in
    record {
      so_far = record {
        history = e ∷ h;
        rest = drop k rest;
        calls = (λ i. s.calls i ++ record { access = c.access; page = c.page; length = call i } ∷ []) ∙ sym (take_more script done d more-script);
        given = given_more (gathered given_of h) rest before k s.given ∙ (λ i. (gathered given_of h ++ take k (sym next i)) ++ drop k rest);
        returned = (λ i. here i ++ (buffer i ++ drop k (next i))) ∙ sym (append_assoc (gathered returned_of h) e.returned (drop k rest));
        answers = answers_more (gathered answer_of h) old new done (length (take done script)) r s.answers many (length_answers h ∙ ap length s.calls ∙ many) more-places
            ∙ (λ i. (gathered answer_of h ++ answer i ∷ []) ++ drop (sym (length-take-le (done + 1) script (omega arith)) i) old);
        reached = reached;
        lawful = obeys first l (e ∷ h) n reached;
      };
      given = length-append (gathered given_of h) part ∙ (omega arith);
      returned = length-append (gathered returned_of h) e.returned ∙ (let x = w.returned in let y = ap length (sym buffer) ∙ length-left in omega arith);
      room = more_Room;
      counted = (λ i. (done + 1) + fitting (drop (done + 1) script) (sym room i) (sym places i))
          ∙ sym (counted_more script done (length before - at) (length old - done) d more-script (omega arith) (omega arith)) ∙ w.counted;
    }

-- where the script or the places are used up, and where the next buffer finds no room
pub performing_over : {first m : Meaning} {script : List Call} {before after : List ℕ} {old new : List (Result Unit Refused)} {done at : ℕ}
    → Performing first m script before after old new done at → min (length script) (length old) ≤ done → done ≡ fitting script (length before) (length old)
performing_over {script = script} {before = before} {old = old} {done = done} {at = at} w h =
    let none : min (length (drop done script)) (length old - done) ≡ 0 = simp length-drop (omega arith) in
    let over = fitting_over (drop done script) (length before - at) (length old - done) none in
    omega (arith, w.counted)

pub performing_full : {first m : Meaning} {script : List Call} {before after : List ℕ} {old new : List (Result Unit Refused)} {done at : ℕ} (d : Call)
    → Performing first m script before after old new done at → done < length script → length before - at < (get_or script done d).length
    → done ≡ fitting script (length before) (length old)
performing_full d w h k = grind (arith, w.counted, drop_more, fitting_full)
