-- What a request does to the tables.
--
--   credit_known   the live rows after the distance to the page's earlier request is credited
--   count          the tables after the hint set and the page are counted
--   close          the tables after the window's last request
--   learn          all of it, in this order
use Rattle.std.specs.Prelude.{ℕ, ◌+◌, cond, List, [], Some, None, Option, ◌==◌}
use Rattle.values.specs.declared.hint_numbers.HintNumbers.{HintNumbers}
use Rattle.values.specs.declared.size_numbers.SizeNumbers.{SizeNumbers}
use Rattle.keys.specs.Meanings.{hint_meaning, page_meaning}
use Rattle.counting.specs.Rule.{counting, credit}
use Rattle.counting.specs.declared.row.Row.{Row}
use Rattle.rules.specs.declared.entry.Entry.{Entry}
use Rattle.rules.specs.State.{Tables}

-- it goes to the hint set of the earlier request; without a distance nothing is credited
abbrev pub credit_known : Option Entry → Option ℕ → List (Row HintNumbers) → List (Row HintNumbers)
credit_known None d rs = rs
credit_known (Some e) None rs = rs
credit_known (Some e) (Some d) rs = credit hint_meaning rs e.hints d

abbrev pub with_live : List (Row HintNumbers) → Tables → Tables
with_live rs t = record { requests = t.requests; live = rs; closed = t.closed; pages = t.pages }

-- at request number s
unfoldable pub count : SizeNumbers → ℕ → ℕ → HintNumbers → Tables → Tables
count z s p h t = record {
  requests = t.requests + 1;
  live = counting hint_meaning z.hint_rows t.live h s;
  closed = t.closed;
  pages = counting page_meaning z.page_rows t.pages p s;
}

-- the live rows become the closed ones, and both tables are emptied
abbrev pub emptied : Tables → Tables
emptied t = record { requests = 0; live = []; closed = t.live; pages = [] }

unfoldable pub close : SizeNumbers → Tables → Tables
close z t = cond (t.requests == z.window) (emptied t) t

-- credit, then count, then close
abbrev pub learn : SizeNumbers → ℕ → ℕ → HintNumbers → Option Entry → Option ℕ → Tables → Tables
learn z s p h e d t = close z (count z s p h (with_live (credit_known e d t.live) t))
