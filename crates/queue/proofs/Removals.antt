-- A removal by moving the elements on one side of the place by one row.
--
--   remove_past, remove_first               a place past the end, and the first place
--   copied_none                             where no row is copied
--   get_or_copied, -before, -after          a row that was copied over, and those before and after
--   row_above, row_below                    the row of a place from the first row on, and before it
--   moved_above, kept_above, closed_above   the elements before the place have moved up
--   closed_by, closed_last                  each element is where it has to be; the latest is given up
--   moved_below, kept_below, closed_below   the elements after it have moved down, where it lies past the last row
--   closed_after                            the same where none lies past the last row
--   around, around_-, closed_around         the same where some do, and that of row 0 has moved to the last row
--   shifted                                 the same in a list, one element after the other: those after place i have moved up to place j
--   shifted_none, -more, -all               before the first has moved, one more has moved, all have moved and the last place is given up
use Rattle.std.proofs.Common.{◌≡◌, ℕ, ◌+◌, ◌-◌, ◌<◌, ◌≤◌, List, [], ◌∷◌, ◌++◌, length, get_or, suc, take, drop, set, refl, sym, ap, ap₂, ◌∙◌, append_assoc, ⊎_elim, arith, rules}
use Rattle.std.proofs.lemmas.List.{places, same_lists, length-drop, get_or-drop, append-nil, take_all, drop_all, drop_more, take_more, set-append_right, length-set, length-take-le, get_or-append_right, get_or_default, get_or-set_same, get_or-set_other}
use Rattle.std.proofs.lemmas.Bool.{cases_lt}
use Rattle.std.proofs.lemmas.List.Edits.{length-remove, get_or-remove_below, get_or-remove_above}
use Rattle.std.specs.List.{copy_within, remove}
use Rattle.queue.specs.Rings.{in_order, row_of}
use Rattle.queue.proofs.Rings.{length_in_order, get_or_in_order, get_or_in_order_of}

get_or_copied : {A : Type 0} (xs : List A) (i j at k : ℕ) (d : A) → i ≤ j → j ≤ length xs → at + (j - i) ≤ length xs → at ≤ k → k < at + (j - i) → get_or (copy_within xs i j at) k d ≡ get_or xs (i + (k - at)) d
get_or_copied xs i j at k d a b e f g = grind (arith, places)

get_or_before : {A : Type 0} (xs : List A) (i j at k : ℕ) (d : A) → i ≤ j → j ≤ length xs → at + (j - i) ≤ length xs → k < at → get_or (copy_within xs i j at) k d ≡ get_or xs k d
get_or_before xs i j at k d a b e f = grind (arith, places)

get_or_after : {A : Type 0} (xs : List A) (i j at k : ℕ) (d : A) → i ≤ j → j ≤ length xs → at + (j - i) ≤ length xs → at + (j - i) ≤ k → get_or (copy_within xs i j at) k d ≡ get_or xs k d
get_or_after xs i j at k d a b e f = grind (arith, places)

pub remove_past : {A : Type 0} (xs : List A) (i : ℕ) → length xs ≤ i → remove xs i ≡ xs
remove_past xs i b = ap₂ ◌++◌ (take_all i xs b) (drop_all (suc i) xs (omega arith)) ∙ append-nil xs

pub remove_first : {A : Type 0} (xs : List A) → drop 1 xs ≡ remove xs 0
remove_first xs = refl

pub copied_none : {A : Type 0} (xs : List A) (i j at : ℕ) → at ≤ length xs → j ≤ i → copy_within xs i j at ≡ xs
copied_none xs i j at a b = same_lists _ _ (grind (arith, places)) (λ k d f. grind (arith, places))

length_closed : {A : Type 0} (xs : List A) (i j at : ℕ) → i ≤ j → j ≤ length xs → at + (j - i) ≤ length xs → length (copy_within xs i j at) ≡ length xs
length_closed xs i j at a b e = grind (arith, places)

row_above : (n h k : ℕ) → k < n - h → row_of n h k ≡ h + k
row_above n h k a = grind arith

row_below : (n h k : ℕ) → n - h ≤ k → row_of n h k ≡ k - (n - h)
row_below n h k a = grind arith

moved_above : {A : Type 0} (rows : List A) (h i k : ℕ) (d : A) → i < length rows - h → k < i → get_or (copy_within rows h (h + i) (h + 1)) (row_of (length rows) h (1 + k)) d ≡ get_or rows (row_of (length rows) h k) d
moved_above rows h i k d a b =
    ap (λ j. get_or (copy_within rows h (h + i) (h + 1)) j d) (row_above (length rows) h (1 + k) (omega arith))
    ∙ get_or_copied rows h (h + i) (h + 1) (h + (1 + k)) d (omega arith) (omega arith) (omega arith) (omega arith) (omega arith)
    ∙ ap (λ j. get_or rows j d) (omega arith ∙ sym (row_above (length rows) h k (omega arith)))

kept_above : {A : Type 0} (rows : List A) (h i k : ℕ) (d : A) → h ≤ length rows → i < length rows - h → i ≤ k → k + 1 < length rows → get_or (copy_within rows h (h + i) (h + 1)) (row_of (length rows) h (1 + k)) d ≡ get_or rows (row_of (length rows) h (k + 1)) d
kept_above rows h i k d a b e f = grind (arith, get_or_before rows h (h + i) (h + 1) (row_of (length rows) h (k + 1)) d, get_or_after rows h (h + i) (h + 1) (row_of (length rows) h (k + 1)) d)

moved_below : {A : Type 0} (rows : List A) (h l i k : ℕ) (d : A) → h ≤ length rows → l ≤ length rows → length rows - h ≤ i → i ≤ k → k + 1 < l → get_or (copy_within rows (i - (length rows - h) + 1) (l - (length rows - h)) (i - (length rows - h))) (row_of (length rows) h k) d ≡ get_or rows (row_of (length rows) h (k + 1)) d
moved_below rows h l i k d a b e f j =
    let u = length rows - h in
    ap (λ r. get_or (copy_within rows (i - u + 1) (l - u) (i - u)) r d) (row_below (length rows) h k (omega arith))
    ∙ get_or_copied rows (i - u + 1) (l - u) (i - u) (k - u) d (omega arith) (omega arith) (omega arith) (omega arith) (omega arith)
    ∙ ap (λ r. get_or rows r d) (omega arith ∙ sym (row_below (length rows) h (k + 1) (omega arith)))

kept_below : {A : Type 0} (rows : List A) (h l i k : ℕ) (d : A) → h ≤ length rows → l ≤ length rows → length rows - h ≤ i → i < l → k < i → get_or (copy_within rows (i - (length rows - h) + 1) (l - (length rows - h)) (i - (length rows - h))) (row_of (length rows) h k) d ≡ get_or rows (row_of (length rows) h k) d
kept_below rows h l i k d a b e f j = grind (arith, get_or_before rows (i - (length rows - h) + 1) (l - (length rows - h)) (i - (length rows - h)) (row_of (length rows) h k) d, get_or_after rows (i - (length rows - h) + 1) (l - (length rows - h)) (i - (length rows - h)) (row_of (length rows) h k) d)

-- the rows from the first on, which hold the elements before the place, move up
pub closed_above : {A : Type 0} (rows : List A) (h l i : ℕ) → l ≤ length rows → i < l → i < length rows - h → drop 1 (in_order (copy_within rows h (h + i) (h + 1)) h l) ≡ remove (in_order rows h l) i
closed_above rows h l i b e f =
    let new = copy_within rows h (h + i) (h + 1) in
    let n = length_closed rows h (h + i) (h + 1) (omega arith) (omega arith) (omega arith) in
    let old = length_in_order rows h l in
    let now = length_in_order new h l in
    let removed = length-remove (in_order rows h l) i (omega arith) in
    let dropped = length-drop 1 (in_order new h l) in
    same_lists _ _ (omega arith) (λ k d g. ⊎_elim
    (λ before. get_or-drop 1 (in_order new h l) k d
    ∙ get_or_in_order_of new (length rows) h l (1 + k) d n (omega arith) (omega arith) (omega arith)
    ∙ moved_above rows h i k d f before
    ∙ sym (get_or_in_order rows h l k d (omega arith) (omega arith) (omega arith))
    ∙ sym (get_or-remove_below (in_order rows h l) i d k before (omega arith)))
    (λ after. get_or-drop 1 (in_order new h l) k d
    ∙ get_or_in_order_of new (length rows) h l (1 + k) d n (omega arith) (omega arith) (omega arith)
    ∙ kept_above rows h i k d (omega arith) f after (omega arith)
    ∙ sym (get_or_in_order rows h l (k + 1) d (omega arith) (omega arith) (omega arith))
    ∙ sym (get_or-remove_above (in_order rows h l) i d k after (omega arith)))
    (cases_lt k i))

-- where each element before the place is where it was, and each after it where the one before it was
closed_by : {A : Type 0} (rows new : List A) (h l i : ℕ) → length new ≡ length rows → h ≤ length rows → l ≤ length rows → i < l
    → ((k : ℕ) (d : A) → k < i → get_or new (row_of (length rows) h k) d ≡ get_or rows (row_of (length rows) h k) d)
    → ((k : ℕ) (d : A) → i ≤ k → k + 1 < l → get_or new (row_of (length rows) h k) d ≡ get_or rows (row_of (length rows) h (k + 1)) d)
    → in_order new h (l - 1) ≡ remove (in_order rows h l) i
closed_by rows new h l i n a b e kept moved =
    let old = length_in_order rows h l in
    let now = length_in_order new h (l - 1) in
    let removed = length-remove (in_order rows h l) i (omega arith) in
    same_lists _ _ (omega arith) (λ k d g. get_or_in_order_of new (length rows) h (l - 1) k d n a (omega arith) (omega arith) ∙ ⊎_elim
    (λ before. kept k d before
    ∙ sym (get_or_in_order rows h l k d a (omega arith) (omega arith))
    ∙ sym (get_or-remove_below (in_order rows h l) i d k before (omega arith)))
    (λ after. moved k d after (omega arith)
    ∙ sym (get_or_in_order rows h l (k + 1) d a (omega arith) (omega arith))
    ∙ sym (get_or-remove_above (in_order rows h l) i d k after (omega arith)))
    (cases_lt k i))

-- no row moves where the latest element is given up
pub closed_last : {A : Type 0} (rows : List A) (h l : ℕ) → h ≤ length rows → l ≤ length rows → 0 < l → in_order rows h (l - 1) ≡ remove (in_order rows h l) (l - 1)
closed_last rows h l a b e = closed_by rows rows h l (l - 1) refl a b (omega arith) (λ k d before. refl) (λ k d after more. absurd (omega arith))

-- the rows before the first, which hold the elements after the place, move down
pub closed_below : {A : Type 0} (rows : List A) (h l i : ℕ) → h ≤ length rows → l ≤ length rows → i < l → length rows - h ≤ i → in_order (copy_within rows (i - (length rows - h) + 1) (l - (length rows - h)) (i - (length rows - h))) h (l - 1) ≡ remove (in_order rows h l) i
closed_below rows h l i a b e f =
    let u = length rows - h in
    closed_by rows (copy_within rows (i - u + 1) (l - u) (i - u)) h l i (length_closed rows (i - u + 1) (l - u) (i - u) (omega arith) (omega arith) (omega arith)) a b e
    (λ k d before. kept_below rows h l i k d a b f e before)
    (λ k d after more. moved_below rows h l i k d a b f after more)

-- the rows after that of the place move down, where they hold all the elements after it
pub closed_after : {A : Type 0} (rows : List A) (h l i : ℕ) → h ≤ length rows → i < l → l ≤ length rows - h → in_order (copy_within rows (h + i + 1) (h + l) (h + i)) h (l - 1) ≡ remove (in_order rows h l) i
closed_after rows h l i a b e =
    closed_by rows (copy_within rows (h + i + 1) (h + l) (h + i)) h l i (length_closed rows (h + i + 1) (h + l) (h + i) (omega arith) (omega arith) (omega arith)) a (omega arith) b
    (λ k d before. ap (λ r. get_or (copy_within rows (h + i + 1) (h + l) (h + i)) r d) (row_above (length rows) h k (omega arith))
    ∙ get_or_before rows (h + i + 1) (h + l) (h + i) (h + k) d (omega arith) (omega arith) (omega arith) (omega arith)
    ∙ ap (λ r. get_or rows r d) (sym (row_above (length rows) h k (omega arith))))
    (λ k d after more. ap (λ r. get_or (copy_within rows (h + i + 1) (h + l) (h + i)) r d) (row_above (length rows) h k (omega arith))
    ∙ get_or_copied rows (h + i + 1) (h + l) (h + i) (h + k) d (omega arith) (omega arith) (omega arith) (omega arith) (omega arith)
    ∙ ap (λ r. get_or rows r d) (omega arith ∙ sym (row_above (length rows) h (k + 1) (omega arith))))

-- the rows after that of the place move down, the element of row 0 goes to the last row, and those after row 0 move down
abbrev over_last : {A : Type 0} → List A → ℕ → ℕ → A → List A
over_last rows h i x = set (copy_within rows (h + i + 1) (length rows) (h + i)) (length rows - 1) x

abbrev around : {A : Type 0} → List A → ℕ → ℕ → ℕ → A → List A
around rows h l i x = copy_within (over_last rows h i x) 1 (l - (length rows - h)) 0

length_over_last : {A : Type 0} (rows : List A) (h i : ℕ) (x : A) → i < length rows - h → length (over_last rows h i x) ≡ length rows
length_over_last rows h i x e =
    length-set (copy_within rows (h + i + 1) (length rows) (h + i)) (length rows - 1) x
    ∙ length_closed rows (h + i + 1) (length rows) (h + i) (omega arith) (omega arith) (omega arith)

length_around : {A : Type 0} (rows : List A) (h l i : ℕ) (x : A) → h ≤ length rows → l ≤ length rows → i < length rows - h → length rows - h < l → length (around rows h l i x) ≡ length rows
length_around rows h l i x a b e f =
    let n = length_over_last rows h i x e in
    length_closed (over_last rows h i x) 1 (l - (length rows - h)) 0 (omega arith) (omega arith) (omega arith) ∙ n

-- a row from that many on is as before the last step
around_from : {A : Type 0} (rows : List A) (h l i r : ℕ) (x d : A) → h ≤ length rows → l ≤ length rows → i < length rows - h → length rows - h < l → h ≤ r
    → get_or (around rows h l i x) r d ≡ get_or (over_last rows h i x) r d
around_from rows h l i r x d a b e f g =
    let n = length_over_last rows h i x e in
    get_or_after (over_last rows h i x) 1 (l - (length rows - h)) 0 r d (omega arith) (omega arith) (omega arith) (omega arith)

-- a row before the last is as it was before the element went to the last row
around_other : {A : Type 0} (rows : List A) (h l i r : ℕ) (x d : A) → i < length rows - h → r < length rows - 1
    → get_or (over_last rows h i x) r d ≡ get_or (copy_within rows (h + i + 1) (length rows) (h + i)) r d
around_other rows h l i r x d e g = get_or-set_other (copy_within rows (h + i + 1) (length rows) (h + i)) (length rows - 1) r x d (λ s. omega (arith, s))

around_kept : {A : Type 0} (rows : List A) (h l i k : ℕ) (x d : A) → h ≤ length rows → l ≤ length rows → i < length rows - h → length rows - h < l → k < i
    → get_or (around rows h l i x) (h + k) d ≡ get_or rows (h + k) d
around_kept rows h l i k x d a b e f g =
    around_from rows h l i (h + k) x d a b e f (omega arith)
    ∙ around_other rows h l i (h + k) x d e (omega arith)
    ∙ get_or_before rows (h + i + 1) (length rows) (h + i) (h + k) d (omega arith) (omega arith) (omega arith) (omega arith)

around_above : {A : Type 0} (rows : List A) (h l i k : ℕ) (x d : A) → h ≤ length rows → l ≤ length rows → i < length rows - h → length rows - h < l → i ≤ k → k + 1 < length rows - h
    → get_or (around rows h l i x) (h + k) d ≡ get_or rows (h + (k + 1)) d
around_above rows h l i k x d a b e f g m =
    around_from rows h l i (h + k) x d a b e f (omega arith)
    ∙ around_other rows h l i (h + k) x d e (omega arith)
    ∙ get_or_copied rows (h + i + 1) (length rows) (h + i) (h + k) d (omega arith) (omega arith) (omega arith) (omega arith) (omega arith)
    ∙ ap (λ r. get_or rows r d) (omega arith)

around_last : {A : Type 0} (rows : List A) (h l i : ℕ) (x d : A) → h ≤ length rows → l ≤ length rows → i < length rows - h → length rows - h < l
    → get_or (around rows h l i x) (length rows - 1) d ≡ x
around_last rows h l i x d a b e f =
    let down = length_closed rows (h + i + 1) (length rows) (h + i) (omega arith) (omega arith) (omega arith) in
    around_from rows h l i (length rows - 1) x d a b e f (omega arith)
    ∙ get_or-set_same (copy_within rows (h + i + 1) (length rows) (h + i)) (length rows - 1) x d (omega arith)

around_below : {A : Type 0} (rows : List A) (h l i r : ℕ) (x d : A) → h ≤ length rows → l ≤ length rows → i < length rows - h → length rows - h < l → r + 1 < l - (length rows - h)
    → get_or (around rows h l i x) r d ≡ get_or rows (r + 1) d
around_below rows h l i r x d a b e f g =
    let n = length_over_last rows h i x e in
    get_or_copied (over_last rows h i x) 1 (l - (length rows - h)) 0 r d (omega arith) (omega arith) (omega arith) (omega arith) (omega arith)
    ∙ ap (λ s. get_or (over_last rows h i x) s d) (let c : 1 + (r - 0) ≡ r + 1 = omega arith in c)
    ∙ around_other rows h l i (r + 1) x d e (omega arith)
    ∙ get_or_before rows (h + i + 1) (length rows) (h + i) (r + 1) d (omega arith) (omega arith) (omega arith) (omega arith)

around_moved : {A : Type 0} (rows : List A) (h l i k : ℕ) (x d : A) → h ≤ length rows → l ≤ length rows → i < length rows - h → length rows - h < l → x ≡ get_or rows 0 x → i ≤ k → k + 1 < l
    → get_or (around rows h l i x) (row_of (length rows) h k) d ≡ get_or rows (row_of (length rows) h (k + 1)) d
around_moved rows h l i k x d a b e f first after more = ⊎_elim
    (λ upper. ap (λ r. get_or (around rows h l i x) r d) (row_above (length rows) h k (omega arith))
    ∙ around_above rows h l i k x d a b e f after upper
    ∙ ap (λ r. get_or rows r d) (sym (row_above (length rows) h (k + 1) upper)))
    (λ lower. ⊎_elim
    (λ seam. ap (λ r. get_or (around rows h l i x) r d) (row_above (length rows) h k seam ∙ (let c : h + k ≡ length rows - 1 = omega arith in c))
    ∙ around_last rows h l i x d a b e f
    ∙ first ∙ get_or_default rows 0 x d (omega arith)
    ∙ ap (λ r. get_or rows r d) ((let c : 0 ≡ k + 1 - (length rows - h) = omega arith in c) ∙ sym (row_below (length rows) h (k + 1) lower)))
    (λ past. ap (λ r. get_or (around rows h l i x) r d) (row_below (length rows) h k past)
    ∙ around_below rows h l i (k - (length rows - h)) x d a b e f (omega arith)
    ∙ ap (λ r. get_or rows r d) ((let c : k - (length rows - h) + 1 ≡ k + 1 - (length rows - h) = omega arith in c) ∙ sym (row_below (length rows) h (k + 1) lower)))
    (cases_lt k (length rows - h)))
    (cases_lt (k + 1) (length rows - h))

pub closed_around : {A : Type 0} (rows : List A) (h l i : ℕ) (x : A) → h ≤ length rows → l ≤ length rows → i < length rows - h → length rows - h < l → x ≡ get_or rows 0 x → in_order (around rows h l i x) h (l - 1) ≡ remove (in_order rows h l) i
closed_around rows h l i x a b e f first =
    closed_by rows (around rows h l i x) h l i (length_around rows h l i x a b e f) a b (omega arith)
    (λ k d before. ap (λ r. get_or (around rows h l i x) r d) (row_above (length rows) h k (omega arith))
    ∙ around_kept rows h l i k x d a b e f before
    ∙ ap (λ r. get_or rows r d) (sym (row_above (length rows) h k (omega arith))))
    (λ k d after more. around_moved rows h l i k x d a b e f first after more)

-- a list where the elements after place i have moved up to place j
abbrev pub shifted : {A : Type 0} → List A → ℕ → ℕ → List A
shifted xs i j = take j (remove xs i) ++ drop j xs

pub shifted_none : {A : Type 0} (xs : List A) (i : ℕ) → i < length xs → xs ≡ shifted xs i i
shifted_none xs i b = same_lists _ _ (search (rules, places)) (λ k d f. grind (arith, places))

pub shifted_more : {A : Type 0} (xs : List A) (i j : ℕ) (x : A) → i ≤ j → j + 1 < length xs → x ≡ get_or (shifted xs i j) (j + 1) x → set (shifted xs i j) j x ≡ shifted xs i (j + 1)
shifted_more xs i j x a b e =
    let n = length-remove xs i (omega arith) in
    let m : length (take j (remove xs i)) ≡ j = length-take-le j (remove xs i) (omega arith) in
    let o : j ≤ j = omega arith in
    let q : x ≡ get_or (remove xs i) j x = e ∙ get_or-append_right (take j (remove xs i)) (drop j xs) j (j + 1) x m (omega arith) ∙ get_or-drop j xs (j + 1 - j) x ∙ ap (λ k. get_or xs k x) (let c : j + (j + 1 - j) ≡ j + 1 = omega arith in c) ∙ sym (get_or-remove_above xs i x j a (omega arith)) in
    set-append_right (take j (remove xs i)) (drop j xs) j j x m o
    ∙ ap (λ k. take j (remove xs i) ++ set (drop j xs) k x) (let c : j - j ≡ 0 = omega arith in c)
    ∙ ap (λ l. take j (remove xs i) ++ set l 0 x) (drop_more xs j x (omega arith))
    ∙ ap (λ y. take j (remove xs i) ++ y ∷ drop (j + 1) xs) q
    ∙ sym (append_assoc (take j (remove xs i)) (get_or (remove xs i) j x ∷ []) (drop (j + 1) xs))
    ∙ ap (λ l. l ++ drop (j + 1) xs) (sym (take_more (remove xs i) j x (omega arith)))

pub shifted_all : {A : Type 0} (xs : List A) (i j : ℕ) → i ≤ j → j + 1 ≡ length xs → take j (shifted xs i j) ≡ remove xs i
shifted_all xs i j a b =
    let n = length-remove xs i (omega arith) in
    same_lists _ _ (search (rules, places)) (λ k d f. grind (arith, places))

pub ruleset raising = (length_in_order, closed_above)

pub ruleset lowering = (length_in_order, closed_last, closed_below, closed_after, closed_around)

pub ruleset removing = (length_in_order, remove_past, remove_first)
