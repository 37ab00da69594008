-- What is asked of a cache, over the list of its cached pages.
--
--   sought      the place of a page
--   cached_as   an entry with its bytes, as it is cached
--   takes       whether a place is used, and bytes are a page
--   shown       a buffer after a page was copied into it
--   put_at      the cache with another page at a place
--   has_room    whether a place is unused, and bytes are a page
--   added       the cache with one page more
--   touched     the cache with another entry at a place, and the bytes as they were
--   settles     whether a choice caches a page
--   settled     the cache after a choice
use Rattle.std.specs.Prelude.{ℕ, Bool, false, cond, ◌&&◌, List, length, Option, ◌==◌, nat_lt}
use Rattle.std.specs.List.{position, slice_get}
use Rattle.rules.specs.declared.entry.Entry.{Entry}
use Rattle.rules.specs.State.{CachedPage}
use Rattle.rules.specs.Pages.{entry_page}
use Rattle.rules.specs.declared.choice.Choice.{Choice}
use Rattle.rules.specs.declared.choice.Choice.TheVariants.{Hit, Free, Evict, Pass}
use Rattle.rules.specs.Placing.{cache_after}
use Rattle.rules.specs.Requests.{cached_or}

-- among entries
abbrev pub sought : ℕ → List Entry → Option ℕ
sought p es = position (λ e. entry_page e == p) es

abbrev pub cached_as : Entry → List ℕ → CachedPage
cached_as e bytes = record { entry = e; bytes = bytes }

abbrev pub takes : List CachedPage → ℕ → ℕ → Bool
takes cs i len = nat_lt i (length cs) && len == 256

-- it stays as it was given where the place is unused, or where it is not a page long
abbrev pub shown : List CachedPage → ℕ → List ℕ → List ℕ
shown cs i given = cond (takes cs i (length given)) (cached_or (λ x. x.bytes) given (slice_get cs i)) given

-- as after a hit or an eviction
abbrev pub put_at : List CachedPage → ℕ → CachedPage → List CachedPage
put_at cs i x = cond (takes cs i (length x.bytes)) (cache_after (Evict i) x cs) cs

abbrev pub has_room : ℕ → List CachedPage → ℕ → Bool
has_room room cs len = nat_lt (length cs) room && len == 256

-- as after a free place is taken
abbrev pub added : ℕ → CachedPage → List CachedPage → List CachedPage
added room x cs = cond (has_room room cs (length x.bytes)) (cache_after Free x cs) cs

-- as after the hit of a read: the bytes are those that stand there
abbrev pub touched : Entry → List CachedPage → ℕ → List CachedPage
touched e cs i = cond (nat_lt i (length cs)) (cached_or (λ x. cache_after (Hit i) (cached_as e x.bytes) cs) cs (slice_get cs i)) cs

abbrev pub settles : ℕ → Choice → List CachedPage → ℕ → Bool
settles room (Hit i) cs len = takes cs i len
settles room Free cs len = has_room room cs len
settles room (Evict i) cs len = takes cs i len
settles room Pass cs len = false

-- a choice for this cache leaves what the rules say; one for another may find its place unused, and then nothing changes
abbrev pub settled : ℕ → Choice → CachedPage → List CachedPage → List CachedPage
settled room (Hit i) x cs = put_at cs i x
settled room Free x cs = added room x cs
settled room (Evict i) x cs = put_at cs i x
settled room Pass x cs = cs
