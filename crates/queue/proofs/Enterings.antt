-- One entering, and the law over lists of enterings.
--
--   with_room_free, with_room_full   where a queue has room, and where it is full
--   latest_none                      of nothing
--   latest_more                      entering one more keeps the latest
--   latest_no_places                 of a queue with no places
--   enter_keeps_latest               one call of enter
use Rattle.std.proofs.Common.{◌≡◌, ℕ, ◌+◌, ◌-◌, ◌<◌, ◌≤◌, cond, List, [], ◌∷◌, ◌++◌, length, get_or, take, drop, sym, ap, ap₂, ◌∙◌, ⊎_elim, arith}
use Rattle.std.proofs.lemmas.List.{drop_all, drop-drop, drop-append-le, length-drop, length_push, take_more}
use Rattle.std.proofs.lemmas.Bool.{lt-ltb, le-ltb, cases_lt}
use Rattle.queue.specs.Lists.{with_room, entered, latest}

pub with_room_free : {A : Type 0} (n : ℕ) (xs : List A) → length xs < n → with_room n xs ≡ xs
with_room_free n xs h = ap (λ b. cond b xs (drop 1 xs)) (lt-ltb (length xs) n h)

pub with_room_full : {A : Type 0} (n : ℕ) (xs : List A) → n ≤ length xs → with_room n xs ≡ drop 1 xs
with_room_full n xs h = ap (λ b. cond b xs (drop 1 xs)) (le-ltb (length xs) n h)

pub latest_none : {A : Type 0} (n : ℕ) → latest {A = A} n [] ≡ []
latest_none n = drop_all (0 - n) [] (omega arith)

pub latest_no_places : {A : Type 0} (n : ℕ) (xs : List A) → n ≡ 0 → latest n xs ≡ []
latest_no_places n xs none = drop_all (length xs - n) xs (omega arith)

length_latest : {A : Type 0} (n : ℕ) (xs : List A) → length (latest n xs) ≡ length xs - (length xs - n)
length_latest n xs = length-drop (length xs - n) xs

-- fewer than places so far: all of them are held
more_free : {A : Type 0} (n : ℕ) (xs : List A) (x : A) → length xs < n → entered n x (latest n xs) ≡ latest n (xs ++ x ∷ [])
more_free n xs x free =
    let many = length_latest n xs in
    let longer = length_push xs x in
    let all : length xs - n ≡ 0 = omega arith in
    let all_more : length (xs ++ x ∷ []) - n ≡ 0 = omega arith in
    ap (λ ys. ys ++ x ∷ []) (with_room_free n (latest n xs) (omega arith) ∙ ap (λ k. drop k xs) all)
    ∙ sym (ap (λ k. drop k (xs ++ x ∷ [])) all_more)

-- as many as places or more: the earliest held one is dropped
more_full : {A : Type 0} (n : ℕ) (xs : List A) (x : A) → 0 < n → n ≤ length xs → entered n x (latest n xs) ≡ latest n (xs ++ x ∷ [])
more_full n xs x some full =
    let many = length_latest n xs in
    let longer = length_push xs x in
    let gone : length xs - n + 1 ≡ length (xs ++ x ∷ []) - n = omega arith in
    let within : length (xs ++ x ∷ []) - n ≤ length xs = omega arith in
    ap (λ ys. ys ++ x ∷ []) (with_room_full n (latest n xs) (omega arith) ∙ drop-drop 1 (length xs - n) xs ∙ ap (λ k. drop k xs) gone)
    ∙ sym (drop-append-le (length (xs ++ x ∷ []) - n) xs (x ∷ []) within)

pub latest_more : {A : Type 0} (n : ℕ) (xs : List A) (x : A) → 0 < n → entered n x (latest n xs) ≡ latest n (xs ++ x ∷ [])
latest_more n xs x some = ⊎_elim (more_free n xs x) (more_full n xs x some) (cases_lt (length xs) n)

-- one more call of `enter`, with the item at place i, on a queue of m places
pub enter_keeps_latest : {A : Type 0} (n m i : ℕ) (items : List A) (x : A) (before after : List A)
    → m ≡ n
    → i < length items
    → x ≡ get_or items i x
    → before ≡ latest n (take i items)
    → (0 < m → after ≡ entered m x before)
    → (m ≡ 0 → after ≡ [])
    → after ≡ latest n (take (i + 1) items)
enter_keeps_latest n m i items x before after same b is e some none =
    ⊎_elim
    (λ h. some (omega arith) ∙ ap₂ (λ k. entered k x) same e ∙ latest_more n (take i items) x h ∙ ap (λ y. latest n (take i items ++ y ∷ [])) is)
    (λ h. none (omega arith) ∙ sym (latest_no_places n _ (omega arith)))
    (cases_lt 0 n)
    ∙ ap (latest n) (sym (take_more items i x b))
