-- What a ring of rows holds, and what one written row, a new first row and a new number of elements make of it.
--
--   row_of_below, row_of_apart, row_of_next   rows lie within, differ at different places, and the place after is a place of the rest
--   row_of_first, row_of_last                 the row after the first is a first row, and the last place from it on is the row of the first
--   length_in_order, get_or_in_order          how many elements there are, and each of them
--   in_order_none                             a ring of no rows, or with no element
--   in_order_within                           numbers past the rows do as the number of rows
--   in_order_read                             the element at a place, as it is read
--   next_row_within                           numbers past the rows do as the number of rows
--   next_row_room, -full, -drop               the row to write next: where there is room, where there is none, after a drop
--   in_order_write, -push, -drop, -fewer      one element written, one more, the earliest dropped, the latest dropped
use Rattle.std.proofs.Common.{◌≡◌, ℕ, ◌+◌, ◌-◌, ◌<◌, ◌≤◌, min, ◌≢◌, List, [], ◌∷◌, ◌++◌, length, get_or, take, drop, set, Some, sym, ap, ◌∙◌, ⊎_elim, arith, rules}
use Rattle.std.proofs.lemmas.List.{places, same_lists, length-take, length-append, length-drop, get_or-set_same, get_or-set_other, length-set, take-take, get_or-drop, get_or_append_left, get_or_push, length_push, nil_from_length}
use Rattle.std.proofs.lemmas.Option.{slice_get-get_or}
use Rattle.std.proofs.lemmas.Bool.{cases_eq, cases_lt}
use Rattle.std.specs.List.{slice_get}
use Rattle.queue.specs.Rings.{in_order, next_row, row_of}

pub row_of_below : (n h i : ℕ) → h ≤ n → i < n → row_of n h i < n
row_of_below n h i a b = grind arith

pub row_of_apart : (n h i k : ℕ) → h ≤ n → i < n → k < n → k ≢ i → row_of n h k ≢ row_of n h i
row_of_apart n h i k a b e ne same = grind arith

pub row_of_next : (n h k : ℕ) → h ≤ n → k + 1 < n → row_of n (row_of n h 1) k ≡ row_of n h (k + 1)
row_of_next n h k a b = grind arith

pub row_of_first : (n h : ℕ) → h ≤ n → 0 < n → row_of n h 1 ≤ n
row_of_first n h a b = grind arith

row_of_last : (n h : ℕ) → h ≤ n → 0 < n → row_of n (row_of n h 1) (n - 1) ≡ row_of n h 0
row_of_last n h a b = grind arith

-- numbers past the rows
pub next_row_within : (n h l : ℕ) → next_row n (min (min h n) n) (min (min l n) n) ≡ next_row n (min h n) (min l n)
next_row_within n h l =
    let a : min (min h n) n ≡ min h n = omega arith in
    let b : min (min l n) n ≡ min l n = omega arith in
    rw (a, b)

-- where there is room it is the row of the place after the last, else that of the earliest
pub next_row_room : (n h l : ℕ) → h ≤ n → l < n → next_row n (min h n) (min l n) ≡ row_of n h l
next_row_room n h l a b = grind arith

next_row_full : (n h l : ℕ) → h ≤ n → n ≤ l → next_row n (min h n) (min l n) ≡ row_of n h 0
next_row_full n h l a b = grind arith

-- dropping the earliest leaves it where it is
pub next_row_drop : (n h l row : ℕ) → h ≤ n → 0 < l → l ≤ n → row ≡ row_of n h 1 → next_row n (min row n) (min (l - 1) n) ≡ next_row n (min h n) (min l n)
next_row_drop n h l row a b e r =
    let within = row_of_first n h a (omega arith) in
    let before : l - 1 + 1 ≡ l = omega arith in
    next_row_room n row (l - 1) (omega arith) (omega arith)
    ∙ ap (λ k. row_of n k (l - 1)) r
    ∙ ⊎_elim
    (λ room. row_of_next n h (l - 1) a (omega arith) ∙ ap (row_of n h) before ∙ sym (next_row_room n h l a room))
    (λ full.
    let last : l - 1 ≡ n - 1 = omega arith in
    ap (row_of n (row_of n h 1)) last ∙ row_of_last n h a (omega arith) ∙ sym (next_row_full n h l a full))
    (cases_lt l n)

pub length_in_order : {A : Type 0} (rows : List A) (h l : ℕ) → length (in_order rows h l) ≡ min l (length rows)
unfolding in_order
length_in_order rows h l = simp (length-take, length-append, length-drop) (omega arith)

pub get_or_in_order : {A : Type 0} (rows : List A) (h l i : ℕ) (d : A) → h ≤ length rows → i < l → i < length rows → get_or (in_order rows h l) i d ≡ get_or rows (row_of (length rows) h i) d
unfolding in_order
get_or_in_order rows h l i d a b e = grind (arith, places)

-- the same, where the number of rows has another name
pub get_or_in_order_of : {A : Type 0} (rows : List A) (n h l i : ℕ) (d : A) → length rows ≡ n → h ≤ n → i < l → i < n → get_or (in_order rows h l) i d ≡ get_or rows (row_of n h i) d
get_or_in_order_of rows n h l i d e a b f = get_or_in_order rows h l i d (omega arith) b (omega arith) ∙ ap (λ m. get_or rows (row_of m h i) d) e

pub in_order_none : {A : Type 0} (rows : List A) (h l : ℕ) → min l (length rows) ≡ 0 → in_order rows h l ≡ []
in_order_none rows h l e = nil_from_length (in_order rows h l) (length_in_order rows h l ∙ e)

-- numbers past the rows do as the number of rows
pub in_order_within : {A : Type 0} (rows : List A) (h l : ℕ) → in_order rows (min h (length rows)) (min l (length rows)) ≡ in_order rows h l
unfolding in_order
in_order_within rows h l = same_lists _ _ (search (rules, places)) (λ k d b. grind (arith, places))

pub in_order_read : {A : Type 0} (rows : List A) (h l i row : ℕ) (x : A) → h ≤ length rows → l ≤ length rows → i < l → row ≡ row_of (length rows) h i → Some (get_or rows row x) ≡ slice_get (in_order rows h l) i
in_order_read rows h l i row x a b e r =
    let n = length_in_order rows h l in
    ap (λ k. Some (get_or rows k x)) r
    ∙ ap Some (sym (get_or_in_order rows h l i x a e (omega arith)))
    ∙ sym (slice_get-get_or (in_order rows h l) i x (omega arith))

-- the element at place i where its row is written
written_at : {A : Type 0} (rows : List A) (h l i : ℕ) (x d : A) → h ≤ length rows → i < l → i < length rows → get_or (in_order (set rows (row_of (length rows) h i) x) h l) i d ≡ x
written_at rows h l i x d a b e = get_or_in_order_of (set rows (row_of (length rows) h i) x) (length rows) h l i d (length-set rows (row_of (length rows) h i) x) a b e
    ∙ get_or-set_same rows (row_of (length rows) h i) x d (row_of_below (length rows) h i a e)

-- the element at another place there
written_off : {A : Type 0} (rows : List A) (h l m i k : ℕ) (x d : A) → h ≤ length rows → i < length rows → k < l → k < m → k < length rows → k ≢ i → get_or (in_order (set rows (row_of (length rows) h i) x) h l) k d ≡ get_or (in_order rows h m) k d
written_off rows h l m i k x d a b e f j ne = get_or_in_order_of (set rows (row_of (length rows) h i) x) (length rows) h l k d (length-set rows (row_of (length rows) h i) x) a e j
    ∙ get_or-set_other rows (row_of (length rows) h i) (row_of (length rows) h k) x d (row_of_apart (length rows) h i k a b j ne)
    ∙ sym (get_or_in_order rows h m k d a f j)

length_written : {A : Type 0} (rows : List A) (h l row : ℕ) (x : A) → length (in_order (set rows row x) h l) ≡ min l (length rows)
length_written rows h l row x = length_in_order (set rows row x) h l ∙ ap (min l) (length-set rows row x)

pub in_order_write : {A : Type 0} (rows : List A) (h l i : ℕ) (x : A) → h ≤ length rows → l ≤ length rows → i < l → in_order (set rows (row_of (length rows) h i) x) h l ≡ set (in_order rows h l) i x
in_order_write rows h l i x a b e =
    let n = length_written rows h l (row_of (length rows) h i) x in
    let m = length_in_order rows h l in
    same_lists _ _ (n ∙ sym m ∙ sym (length-set (in_order rows h l) i x))
    (λ k d f. ⊎_elim
    (λ s. ap (λ j. get_or (in_order (set rows (row_of (length rows) h i) x) h l) j d) s ∙ written_at rows h l i x d a e (omega arith) ∙ sym (get_or-set_same (in_order rows h l) i x d (omega arith)) ∙ ap (λ j. get_or (set (in_order rows h l) i x) j d) (sym s))
    (λ ne. written_off rows h l l i k x d a (omega arith) (omega arith) (omega arith) (omega arith) ne ∙ sym (get_or-set_other (in_order rows h l) i k x d ne))
    (cases_eq k i))

pub in_order_push : {A : Type 0} (rows : List A) (h l : ℕ) (x : A) → h ≤ length rows → l < length rows → in_order rows h l ++ x ∷ [] ≡ in_order (set rows (row_of (length rows) h l) x) h (l + 1)
in_order_push rows h l x a b =
    let n = length_written rows h (l + 1) (row_of (length rows) h l) x in
    let m = length_in_order rows h l in
    let p = length_push (in_order rows h l) x in
    sym (same_lists _ _ (omega arith)
    (λ k d f. ⊎_elim
    (λ s. ap (λ j. get_or (in_order (set rows (row_of (length rows) h l) x) h (l + 1)) j d) s ∙ written_at rows h (l + 1) l x d a (omega arith) b ∙ sym (get_or_push (in_order rows h l) x d l (omega arith)) ∙ ap (λ j. get_or (in_order rows h l ++ x ∷ []) j d) (sym s))
    (λ ne. written_off rows h (l + 1) l l k x d a b (omega arith) (omega arith) (omega arith) ne ∙ sym (get_or_append_left (in_order rows h l) (x ∷ []) d k (omega arith)))
    (cases_eq k l)))

pub in_order_drop : {A : Type 0} (rows : List A) (h l : ℕ) → h ≤ length rows → 0 < l → l ≤ length rows → drop 1 (in_order rows h l) ≡ in_order rows (row_of (length rows) h 1) (l - 1)
in_order_drop rows h l a b e =
    let n = length_in_order rows (row_of (length rows) h 1) (l - 1) in
    let m = length_in_order rows h l in
    let p = length-drop 1 (in_order rows h l) in
    sym (same_lists _ _ (omega arith)
    (λ k d f. get_or_in_order rows (row_of (length rows) h 1) (l - 1) k d (grind arith) (omega arith) (omega arith)
    ∙ ap (λ j. get_or rows j d) (row_of_next (length rows) h k a (omega arith))
    ∙ sym (get_or_in_order rows h l (k + 1) d a (omega arith) (omega arith))
    ∙ ap (λ j. get_or (in_order rows h l) j d) (let c : k + 1 ≡ 1 + k = omega arith in c)
    ∙ sym (get_or-drop 1 (in_order rows h l) k d)))

pub in_order_fewer : {A : Type 0} (rows : List A) (h l m : ℕ) → m ≤ l → in_order rows h m ≡ take m (in_order rows h l)
unfolding in_order
in_order_fewer rows h l m le = sym (take-take m l (drop h rows ++ take h rows) le)

pub ruleset entering = (length_in_order, in_order_none)
