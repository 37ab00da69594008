-- Changes of rows and memory, as changes of the cached pages: of pages of any size, and of all rows.
use Rattle.std.proofs.Common.{◌≡◌, ℕ, zero, suc, ◌+◌, ◌*◌, ◌<◌, ◌≤◌, List, [], ◌∷◌, ◌++◌, length, get_or, take, drop, set, Some, sym, refl, ap, ◌∙◌, ap₂, append_assoc, suc-mul, zero-mul, arith, length-drop, length-take-le, drop-drop, take_at, take-add, drop_at}
use Rattle.std.specs.List.{slice_get}
use Rattle.rules.specs.declared.entry.Entry.{Entry}
use Rattle.rules.specs.State.{CachedPage, entries}
use Rattle.cache.specs.Changes.{cached_as}

-- rows with the pages of a memory, of n bytes each: the first row has the first page, and the others the pages after it
abbrev pub cache_of : ℕ → List Entry → List ℕ → List CachedPage
cache_of n [] bytes = []
cache_of n (e ∷ es) bytes = record { entry = e; bytes = take n bytes } ∷ cache_of n es (drop n bytes)

-- the i-th page, and the memory with the i-th replaced
abbrev pub nth_page : ℕ → List ℕ → ℕ → List ℕ
nth_page n bytes i = take n (drop (i * n) bytes)

abbrev pub with_page : ℕ → List ℕ → ℕ → List ℕ → List ℕ
with_page n bytes i v = take (i * n) bytes ++ (v ++ drop n (drop (i * n) bytes))

module _ (n : ℕ) where
  pub length_cache : (es : List Entry) (bs : List ℕ) → length (cache_of n es bs) ≡ length es
  length_cache [] bs = refl
  length_cache (e ∷ es) bs = ap suc (length_cache es (drop n bs))

  pub entries_cache : (es : List Entry) (bs : List ℕ) → entries (cache_of n es bs) ≡ es
  entries_cache [] bs = refl
  entries_cache (e ∷ es) bs = ap (λ xs. e ∷ xs) (entries_cache es (drop n bs))

  first_page : (bs : List ℕ) → nth_page n bs 0 ≡ take n bs
  first_page bs = ap (λ k. take n (drop k bs)) (zero-mul n)

  later_drop : (bs : List ℕ) (i : ℕ) → drop (suc i * n) bs ≡ drop (i * n) (drop n bs)
  later_drop bs i = let q : suc i * n ≡ n + i * n = omega (arith, suc-mul i n) in ap (λ k. drop k bs) q ∙ sym (drop-drop (i * n) n bs)

  later_page : (bs : List ℕ) (i : ℕ) → nth_page n bs (suc i) ≡ nth_page n (drop n bs) i
  later_page bs i = ap (take n) (later_drop bs i)

  -- what stands at a place
  pub nth_cache : (es : List Entry) (bs : List ℕ) (i : ℕ) (d : Entry) → i < length es → slice_get (cache_of n es bs) i ≡ Some (cached_as (get_or es i d) (nth_page n bs i))
  nth_cache [] bs i d l = absurd (omega arith)
  nth_cache (e ∷ es) bs zero d l = ap (λ y. Some (cached_as e y)) (sym (first_page bs))
  nth_cache (e ∷ es) bs (suc i) d l = nth_cache es (drop n bs) i d (omega arith) ∙ ap (λ y. Some (cached_as (get_or es i d) y)) (sym (later_page bs i))

  with_first : (bs v : List ℕ) → with_page n bs 0 v ≡ v ++ drop n bs
  with_first bs v = rw (zero-mul n) refl

  with_later : (bs : List ℕ) (i : ℕ) (v : List ℕ) → with_page n bs (suc i) v ≡ take n bs ++ with_page n (drop n bs) i v
  with_later bs i v =
      let q : suc i * n ≡ n + i * n = omega (arith, suc-mul i n) in
      ap₂ (λ x y. x ++ (v ++ drop n y)) (ap (λ k. take k bs) q ∙ take-add n (i * n) bs) (later_drop bs i)
      ∙ append_assoc (take n bs) (take (i * n) (drop n bs)) (v ++ drop n (drop (i * n) (drop n bs)))

  rest : (e : Entry) (es : List Entry) (bs : List ℕ) → length (e ∷ es) * n ≤ length bs → (length (take n bs) ≡ n) × (length es * n ≤ length (drop n bs))
  rest e es bs room =
      let q = suc-mul (length es) n in
      (length-take-le n bs (omega arith), omega (arith, length-drop n bs))

  -- a memory whose first page stays
  behind : (e : Entry) (es : List Entry) (bs more new : List ℕ) → length (take n bs) ≡ n → new ≡ take n bs ++ more
      → cache_of n (e ∷ es) new ≡ cached_as e (take n bs) ∷ cache_of n es more
  behind e es bs more new k q =
      ap₂ (λ x y. cached_as e x ∷ cache_of n es y) (ap (take n) q ∙ take_at (take n bs) more n k) (ap (drop n) q ∙ drop_at (take n bs) more n k)

  -- another row at a place, and its page
  pub cache_set : (e : Entry) (v : List ℕ) → length v ≡ n → (es : List Entry) (bs : List ℕ) (i : ℕ) → i < length es → length es * n ≤ length bs
      → cache_of n (set es i e) (with_page n bs i v) ≡ set (cache_of n es bs) i (cached_as e v)
  cache_set e v k [] bs i l room = absurd (omega arith)
  cache_set e v k (x ∷ es) bs zero l room = rw (with_first bs v, take_at v (drop n bs) n k, drop_at v (drop n bs) n k) refl
  cache_set e v k (x ∷ es) bs (suc i) l room =
      let w = rest x es bs room in
      behind x (set es i e) bs (with_page n (drop n bs) i v) (with_page n bs (suc i) v) w.0 (with_later bs i v)
      ∙ ap (λ y. cached_as x (take n bs) ∷ y) (cache_set e v k es (drop n bs) i (omega arith) w.1)

  -- one row more, and its page
  pub cache_push : (e : Entry) (v : List ℕ) → length v ≡ n → (es : List Entry) (bs : List ℕ) → length es * n ≤ length bs
      → cache_of n (es ++ e ∷ []) (with_page n bs (length es) v) ≡ cache_of n es bs ++ cached_as e v ∷ []
  cache_push e v k [] bs room = rw (with_first bs v, take_at v (drop n bs) n k) refl
  cache_push e v k (x ∷ es) bs room =
      let w = rest x es bs room in
      behind x (es ++ e ∷ []) bs (with_page n (drop n bs) (length es) v) (with_page n bs (length (x ∷ es)) v) w.0 (with_later bs (length es) v)
      ∙ ap (λ y. cached_as x (take n bs) ∷ y) (cache_push e v k es (drop n bs) w.1)

  -- another row at a place, whose page stays
  pub cache_touch : (e : Entry) (es : List Entry) (bs : List ℕ) (i : ℕ) → i < length es → cache_of n (set es i e) bs ≡ set (cache_of n es bs) i (cached_as e (nth_page n bs i))
  cache_touch e [] bs i l = absurd (omega arith)
  cache_touch e (x ∷ es) bs zero l = ap (λ y. cached_as e y ∷ cache_of n es (drop n bs)) (sym (first_page bs))
  cache_touch e (x ∷ es) bs (suc i) l =
      ap (λ y. cached_as x (take n bs) ∷ y)
      (cache_touch e es (drop n bs) i (omega arith) ∙ ap (λ y. set (cache_of n es (drop n bs)) i (cached_as e y)) (sym (later_page bs i)))
