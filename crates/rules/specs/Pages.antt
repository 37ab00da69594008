-- Lists of things that each have a page.
--
--   find                 the first thing that has a page
--   seek                 its place, or the length of the list where there is none
--   without              the list without it
--   how_many             how many things have a page
--   in_cache, in_queue   the cached page, and the entry, that has a page
use Rattle.std.specs.Prelude.{ℕ, suc, cond, List, [], ◌∷◌, Option, ◌==◌}
use Rattle.std.specs.List.{find as find_by}
use Rattle.rules.specs.declared.entry.Entry.{Entry}
use Rattle.rules.specs.State.{CachedPage}

module _ {A : Type 0} (page : A → ℕ) where
  abbrev pub find : ℕ → List A → Option A
  find p xs = find_by (λ x. page x == p) xs

  abbrev pub seek : ℕ → List A → ℕ
  seek p [] = 0
  seek p (x ∷ xs) = cond (page x == p) 0 (suc (seek p xs))

  abbrev pub without : ℕ → List A → List A
  without p [] = []
  without p (x ∷ xs) = cond (page x == p) xs (x ∷ without p xs)

  abbrev pub how_many : ℕ → List A → ℕ
  how_many p [] = 0
  how_many p (x ∷ xs) = cond (page x == p) (suc (how_many p xs)) (how_many p xs)

-- the page of an entry, and of a cached page
abbrev pub entry_page : Entry → ℕ
entry_page e = e.page

abbrev pub cached_page : CachedPage → ℕ
cached_page x = x.entry.page

abbrev pub in_cache : ℕ → List CachedPage → Option CachedPage
in_cache p cs = find cached_page p cs

abbrev pub in_queue : ℕ → List Entry → Option Entry
in_queue p qs = find entry_page p qs
