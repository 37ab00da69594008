-- What a server holds.
--
--   CachedPage   a used cache place: its entry and its bytes
--   Places       the cache and the queue
--   Tables       the window's requests, and the rows that are learned from them
--   State        all of a server
--   opened       a new open server of given sizes
--   entries      the entries of cached pages
use Rattle.std.specs.Prelude.{ℕ, Bool, true, List, [], map}
use Rattle.values.specs.declared.hint_numbers.HintNumbers.{HintNumbers}
use Rattle.values.specs.declared.size_numbers.SizeNumbers.{SizeNumbers}
use Rattle.counting.specs.declared.row.Row.{Row}
use Rattle.rules.specs.declared.entry.Entry.{Entry}

-- a page with the number and the hint set of its latest request, and its 256 bytes
pub record CachedPage : Type 0 where
  pub entry : Entry
  pub bytes : List ℕ

-- the used cache places, and the queue in the order of entering
pub record Places : Type 0 where
  pub cache : List CachedPage
  pub queue : List Entry

-- the window's requests so far; the live hint rows and the page rows, which count them; the hint rows of the window before
pub record Tables : Type 0 where
  pub requests : ℕ
  pub live : List (Row HintNumbers)
  pub closed : List (Row HintNumbers)
  pub pages : List (Row ℕ)

-- whether it is open, its sizes, the number of the latest accepted request, and the rest
pub record State : Type 0 where
  pub is_open : Bool
  pub sizes : SizeNumbers
  pub number : ℕ
  pub places : Places
  pub tables : Tables

-- empty, and no request accepted yet
abbrev pub opened : SizeNumbers → State
opened z = record {
  is_open = true;
  sizes = z;
  number = 0;
  places = record { cache = []; queue = [] };
  tables = record { requests = 0; live = []; closed = []; pages = [] };
}

-- place by place
abbrev pub entries : List CachedPage → List Entry
entries cs = map (λ x. x.entry) cs
