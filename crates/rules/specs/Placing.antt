-- The cache and the queue after a request.
--
--   unqueue       the queue without the entry of a page
--   enter         a queue with one entry more
--   cache_after   the cache after a choice
--   queue_after   the queue after a choice
--   place         both
--   known         the entry of a page that is cached or queued
use Rattle.std.specs.Prelude.{ℕ, cond, List, [], ◌∷◌, ◌++◌, length, drop, Option, nat_lt, slice_index_or, slice_set}
use Rattle.std.specs.Option.{option_map, option_or}
use Rattle.rules.specs.declared.entry.Entry.{Entry}
use Rattle.rules.specs.State.{CachedPage, Places, entries}
use Rattle.rules.specs.Pages.{entry_page, in_cache, in_queue, without}
use Rattle.rules.specs.Choices.{Choice, hit, free, evict, pass}

abbrev pub unqueue : ℕ → List Entry → List Entry
unqueue p qs = without entry_page p qs

-- it comes last in a queue of so many places; a full one drops its first, which entered earliest
abbrev pub enter : {A : Type 0} → ℕ → A → List A → List A
enter room y xs = cond (nat_lt (length xs) room) xs (drop 1 xs) ++ y ∷ []

-- x is the requested page as it is cached
abbrev pub cache_after : Choice → CachedPage → List CachedPage → List CachedPage
cache_after (hit i) x cs = slice_set cs i x
cache_after free x cs = cs ++ x ∷ []
cache_after (evict i) x cs = slice_set cs i x
cache_after pass x cs = cs

-- the victim enters, or the page itself; es are the entries of the cache
abbrev pub queue_after : ℕ → Choice → Entry → List Entry → List Entry → List Entry
queue_after room (hit i) e es qs = qs
queue_after room free e es qs = qs
queue_after room (evict i) e es qs = enter room (slice_index_or es i e) qs
queue_after room pass e es qs = enter room e qs

-- with so many queue places
abbrev pub place : ℕ → Choice → CachedPage → Places → Places
place room d x a = record {
  cache = cache_after d x a.cache;
  queue = queue_after room d x.entry (entries a.cache) (unqueue x.entry.page a.queue);
}

-- the cache is looked into first
abbrev pub known : ℕ → Places → Option Entry
known p a = option_or (option_map (λ x. x.entry) (in_cache p a.cache)) (in_queue p a.queue)
