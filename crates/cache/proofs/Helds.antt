-- The pages of the used places, and what changes of rows and memory make of them.
use Rattle.std.proofs.Common.{◌≡◌, ℕ, zero, suc, ◌+◌, ◌/◌, ◌<◌, ◌≤◌, min, Bool, true, false, cond, ◌&&◌, eqb, List, [], ◌∷◌, ◌++◌, length, get_or, take, map, set, Some, sym, refl, ap, ◌∙◌, ap₂, zero-add, arith, length-take-le, eqb-true}
use borrow.Author.Tests.{eqb-false}
use Rattle.std.specs.List.{enumerate_from, slice_get}
use Rattle.std.proofs.lemmas.Bool.{eq-eqb, lt-ltb}
use Rattle.std.proofs.lemmas.Grind.{get_or-set_at}
use Rattle.std.proofs.lemmas.List.{ext_get_or, get_or_default, get_or-map, get_or-set_other, get_or-take, get_or_append_left, get_or_push, length-map, length-set, length_push}
use Rattle.std.proofs.lemmas.List.FromFn.{get_or-enumerate_from, length-enumerate_from}
use Rattle.std.proofs.lemmas.Option.{slice_get-get_or}
use Rattle.store.specs.Makes.{fits, page_in, page_of, page_out, put_page}
use Rattle.store.specs.Meaning.{put}
use Rattle.store.proofs.Pages.{page_of_put_page}
use Rattle.rules.specs.declared.entry.Entry.{Entry}
use Rattle.rules.specs.State.{CachedPage, entries}
use Rattle.rules.specs.Requests.{cached_or}
use Rattle.cache.specs.Pages.{cached_at, pages_of, room_of}
use Rattle.cache.specs.Changes.{added, cached_as, has_room, put_at, shown, takes, touched}
use Rattle.cache.proofs.Blanks.{blank, blank_page}

set_take : {A : Type 0} (u i : ℕ) (y : A) (xs : List A) → take u (set xs i y) ≡ set (take u xs) i y
set_take zero i y [] = refl
set_take zero i y (x ∷ xs) = refl
set_take (suc u) i y [] = refl
set_take (suc u) zero y (x ∷ xs) = refl
set_take (suc u) (suc i) y (x ∷ xs) = ap (λ ys. x ∷ ys) (set_take u i y xs)

entries_from : (bs : List ℕ) (n : ℕ) (es : List Entry) → entries (map (cached_at bs) (enumerate_from n es)) ≡ es
entries_from bs n [] = refl
entries_from bs n (e ∷ es) = ap (λ xs. e ∷ xs) (entries_from bs (n + 1) es)

pub entries_pages : (u : ℕ) (rows : List Entry) (bs : List ℕ) → entries (pages_of u rows bs) ≡ take u rows
unfolding pages_of
entries_pages u rows bs = entries_from bs 0 (take u rows)

pub pages_none : (rows : List Entry) (bs : List ℕ) → pages_of 0 rows bs ≡ []
unfolding pages_of
pages_none [] bs = refl
pages_none (e ∷ rows) bs = refl

module _ (u : ℕ) (rows : List Entry) (bs : List ℕ) (w : u ≤ length rows) where
  pub length_pages : length (pages_of u rows bs) ≡ u
  unfolding pages_of
  length_pages = simp (length-map, length-enumerate_from) (length-take-le u rows w)

  pub at_place : (i : ℕ) → i < u → get_or (pages_of u rows bs) i blank_page ≡ cached_as (get_or rows i blank) (page_of bs i)
  unfolding pages_of
  at_place i l =
      let k = length-take-le u rows w in
      get_or-map (cached_at bs) (enumerate_from 0 (take u rows)) i (0, blank) blank_page (simp length-enumerate_from (omega (arith, k, l)))
      ∙ ap (cached_at bs) (get_or-enumerate_from 0 (take u rows) i (0, blank) (omega (arith, k, l)))
      ∙ ap₂ (λ e n. cached_as e (page_of bs n)) (get_or-take u rows i blank l) (zero-add i)

  -- a list with the row and the page of each place
  pages_are : (cs : List CachedPage) → length cs ≡ u → ((i : ℕ) → i < u → get_or cs i blank_page ≡ cached_as (get_or rows i blank) (page_of bs i)) → pages_of u rows bs ≡ cs
  pages_are cs n h =
      ext_get_or blank_page (pages_of u rows bs) cs (length_pages ∙ sym n) (λ i l. at_place i (omega (arith, length_pages, l)) ∙ sym (h i (omega (arith, length_pages, l))))

-- another row at place i, and v as its page
module _ (u : ℕ) (rows : List Entry) (bs : List ℕ) (e : Entry) (v : List ℕ) (i : ℕ) (l : i < length rows) (new : List ℕ) (h : (j : ℕ) → page_of new j ≡ put (page_of bs) i v j) where
  row_at : (j : ℕ) → j ≡ i → cached_as (get_or (set rows i e) j blank) (page_of new j) ≡ cached_as e v
  row_at j q = ap₂ cached_as (get_or-set_at rows i j e blank q l) (h j ∙ ap (λ b. cond b v (page_of bs j)) (eq-eqb j i q))

  other_row : (j : ℕ) → (j ≡ i → ⊥) → eqb j i ≡ false → cached_as (get_or (set rows i e) j blank) (page_of new j) ≡ cached_as (get_or rows j blank) (page_of bs j)
  other_row j n q = ap₂ cached_as (get_or-set_other rows i j e blank n) (h j ∙ ap (λ b. cond b v (page_of bs j)) q)

  pages_set : u ≤ length rows → i < u → pages_of u (set rows i e) new ≡ set (pages_of u rows bs) i (cached_as e v)
  pages_set w k =
      let cs = pages_of u rows bs in
      let n = length_pages u rows bs w in
      pages_are u (set rows i e) new (omega (arith, length-set rows i e, w)) (set cs i (cached_as e v)) (length-set cs i (cached_as e v) ∙ n) (λ j m. go j m (eqb j i) refl)
    where
      go : (j : ℕ) → j < u → (b : Bool) → eqb j i ≡ b → get_or (set (pages_of u rows bs) i (cached_as e v)) j blank_page ≡ cached_as (get_or (set rows i e) j blank) (page_of new j)
      go j m true q =
          let s = eqb-true j i q in
          get_or-set_at (pages_of u rows bs) i j (cached_as e v) blank_page s (omega (arith, length_pages u rows bs w, k)) ∙ sym (row_at j s)
      go j m false q =
          let s = eqb-false j i q in
          get_or-set_other (pages_of u rows bs) i j (cached_as e v) blank_page s ∙ at_place u rows bs w j m ∙ sym (other_row j s q)

  pages_more : i ≡ u → pages_of (i + 1) (set rows i e) new ≡ pages_of u rows bs ++ cached_as e v ∷ []
  pages_more s =
      let cs = pages_of u rows bs in
      let n = length_pages u rows bs (omega (arith, l, s)) in
      pages_are (i + 1) (set rows i e) new (omega (arith, length-set rows i e, l)) (cs ++ cached_as e v ∷ []) (length_push cs (cached_as e v) ∙ omega (arith, n, s)) (λ j m. go j m (eqb j i) refl)
    where
      go : (j : ℕ) → j < i + 1 → (b : Bool) → eqb j i ≡ b → get_or (pages_of u rows bs ++ cached_as e v ∷ []) j blank_page ≡ cached_as (get_or (set rows i e) j blank) (page_of new j)
      go j m true q =
          let t = eqb-true j i q in
          get_or_push (pages_of u rows bs) (cached_as e v) blank_page j (omega (arith, length_pages u rows bs (omega (arith, l, s)), t, s)) ∙ sym (row_at j t)
      go j m false q =
          let t = eqb-false j i q in
          get_or_append_left (pages_of u rows bs) (cached_as e v ∷ []) blank_page j (omega (arith, length_pages u rows bs (omega (arith, l, s)), t, m, s))
          ∙ at_place u rows bs (omega (arith, l, s)) j (omega (arith, t, m, s)) ∙ sym (other_row j t q)

module _ (u : ℕ) (rows : List Entry) (bs : List ℕ) (w : u ≤ room_of rows bs) where
  -- whether a used place takes bytes that are a page
  pub takes_used : (i : ℕ) (v : List ℕ) → i < u → length v ≡ 256 → takes (pages_of u rows bs) i (length v) ≡ true
  takes_used i v l k = ap₂ (λ x y. x && y) (lt-ltb i (length (pages_of u rows bs)) (omega (arith, length_pages u rows bs, w, l))) (eq-eqb (length v) 256 k)

  fits_place : (i : ℕ) (v : List ℕ) → i < room_of rows bs → length v ≡ 256 → fits bs i v ≡ true
  fits_place i v l k = ap₂ (λ x y. x && y) (lt-ltb i (length bs / 256) (omega (arith, l))) (eq-eqb (length v) 256 k)

  pub got : (i : ℕ) → i < u → slice_get (pages_of u rows bs) i ≡ Some (cached_as (get_or rows i blank) (page_of bs i))
  got i l =
      let n = length_pages u rows bs (omega (arith, w)) in
      slice_get-get_or (pages_of u rows bs) i blank_page (omega (arith, n, l)) ∙ ap Some (at_place u rows bs (omega (arith, w)) i l)

  pub shown_page : (i : ℕ) (given : List ℕ) → i < u → length given ≡ 256 → page_out bs i given ≡ shown (pages_of u rows bs) i given
  shown_page i given l k =
      ap (λ b. cond b (page_of bs i) given) (fits_place i given (omega (arith, w, l)) k)
      ∙ sym (ap₂ (λ b o. cond b (cached_or (λ x. x.bytes) given o) given) (takes_used i given l k) (got i l))

  -- the rows and the memory after a page was written
  module _ (e : Entry) (v : List ℕ) (k : length v ≡ 256) (i : ℕ) (l : i < room_of rows bs) (new : List ℕ) (q : new ≡ page_in bs i v) where
    written : (j : ℕ) → page_of new j ≡ put (page_of bs) i v j
    written j =
        ap (λ x. page_of x j) (q ∙ ap (λ b. cond b (put_page bs i v) bs) (fits_place i v l k))
        ∙ page_of_put_page bs v i j (omega (arith, l)) k

    pub pages_put : i < u → pages_of u (set rows i e) new ≡ put_at (pages_of u rows bs) i (cached_as e v)
    pages_put m =
        let cs = pages_of u rows bs in
        pages_set u rows bs e v i (omega (arith, l)) new written (omega (arith, w)) m
        ∙ sym (ap (λ b. cond b (set cs i (cached_as e v)) cs) (takes_used i v m k))

    pub pages_push : i ≡ u → pages_of (i + 1) (set rows i e) new ≡ added (room_of rows bs) (cached_as e v) (pages_of u rows bs)
    pages_push s =
        let cs = pages_of u rows bs in
        let n = length_pages u rows bs (omega (arith, w)) in
        let t : has_room (room_of rows bs) cs (length v) ≡ true = ap₂ (λ x y. x && y) (lt-ltb (length cs) (room_of rows bs) (omega (arith, n, l, s))) (eq-eqb (length v) 256 k) in
        pages_more u rows bs e v i (omega (arith, l)) new written s
        ∙ sym (ap (λ b. cond b (cs ++ cached_as e v ∷ []) cs) t)

  same_page : (i j : ℕ) → page_of bs j ≡ put (page_of bs) i (page_of bs i) j
  same_page i j = go (eqb j i) refl
    where
      go : (b : Bool) → eqb j i ≡ b → page_of bs j ≡ cond b (page_of bs i) (page_of bs j)
      go true q = ap (page_of bs) (eqb-true j i q)
      go false q = refl

  -- the rows after an entry was written
  pub pages_touch : (e : Entry) (i : ℕ) → i < u → pages_of u (set rows i e) bs ≡ touched e (pages_of u rows bs) i
  pages_touch e i l =
      let cs = pages_of u rows bs in
      let n = length_pages u rows bs (omega (arith, w)) in
      pages_set u rows bs e (page_of bs i) i (omega (arith, w, l)) bs (same_page i) (omega (arith, w)) l
      ∙ sym (ap₂ (λ b o. cond b (cached_or (λ x. set cs i (cached_as e x.bytes)) cs o) cs) (lt-ltb i (length cs) (omega (arith, n, l))) (got i l))

-- the same of any number of places, of which those with room are used
module _ (u : ℕ) (rows : List Entry) (bs : List ℕ) where
  pub takes_held : (i : ℕ) (v : List ℕ) → i < min u (room_of rows bs) → length v ≡ 256 → takes (pages_of (min u (room_of rows bs)) rows bs) i (length v) ≡ true
  takes_held = takes_used (min u (room_of rows bs)) rows bs (omega arith)

  pub nth_pages : (i : ℕ) (d : Entry) → i < min u (room_of rows bs) → slice_get (pages_of (min u (room_of rows bs)) rows bs) i ≡ Some (cached_as (get_or rows i d) (page_of bs i))
  nth_pages i d l = got (min u (room_of rows bs)) rows bs (omega arith) i l ∙ ap (λ e. Some (cached_as e (page_of bs i))) (get_or_default rows i blank d (omega (arith, l)))
