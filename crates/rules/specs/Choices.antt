-- What is done with a requested page, and where in the cache.
--
--   victim_place   the place of the cached page that gives way first
--   contest        a page against the victim of a full cache
--   choose         hit, free, evict or pass
--   decision       the choice without its place
--   victim         the page that gives way
use Rattle.std.specs.Prelude.{ℕ, cond, List, [], ◌∷◌, length, Some, None, Option, nat_lt, slice_index_or}
use Rattle.values.specs.declared.hint_numbers.HintNumbers.{HintNumbers}
use Rattle.order.specs.Least.{least}
use Rattle.counting.specs.declared.row.Row.{Row}
use Rattle.priority.specs.Priorities.{less}
use Rattle.rules.specs.declared.answer.Decision.{Decision}
use Rattle.rules.specs.declared.answer.Decision.TheVariants.{Hit, Free, Evict, Pass}
use Rattle.rules.specs.declared.entry.Entry.{Entry}
use Rattle.rules.specs.Pages.{entry_page, seek}
use Rattle.rules.specs.Priorities.{gives_way, priority_of}
pub use Rattle.rules.specs.declared.choice.Choice.{Choice}
pub use Rattle.rules.specs.declared.choice.Choice.TheVariants.{Hit as hit, Free as free, Evict as evict, Pass as pass}

abbrev pub victim_place : List (Row HintNumbers) → List Entry → ℕ
victim_place closed es = least (gives_way closed) es

-- the entries of a full cache: the page is let in only where its hint set has the greater priority
abbrev pub contest : List (Row HintNumbers) → HintNumbers → List Entry → Choice
contest closed h [] = pass
contest closed h (e ∷ es) =
    let i = victim_place closed (e ∷ es) in
    cond (less (priority_of closed (slice_index_or (e ∷ es) i e).hints) (priority_of closed h)) (evict i) pass

-- of page p with hint set h, in a cache of so many places, of which es are the entries
unfoldable pub choose : ℕ → List (Row HintNumbers) → List Entry → ℕ → HintNumbers → Choice
choose room closed es p h =
    let i = seek entry_page p es in
    cond (nat_lt i (length es)) (hit i) (cond (nat_lt (length es) room) free (contest closed h es))

abbrev pub decision : Choice → Decision
decision (hit i) = Hit
decision free = Free
decision (evict i) = Evict
decision pass = Pass

-- by the entries of the cache; the entry d stands in where there is none at the place, which no choice has
abbrev pub victim : Choice → Entry → List Entry → Option ℕ
victim (hit i) d es = None
victim free d es = None
victim (evict i) d es = Some (slice_index_or es i d).page
victim pass d es = None
