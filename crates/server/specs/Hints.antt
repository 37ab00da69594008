-- The hint sets of entries, which lie in lent memory as plain numbers.
--
--   hinted       whether an entry has the numbers of a hint set
--   all_hinted   whether the entries of the cache and of the queue have
use Rattle.std.specs.Prelude.{Bool, ◌&&◌, List}
use Rattle.std.specs.List.{list_all}
use Rattle.rules.specs.declared.entry.Entry.{Entry}
use Rattle.rules.specs.State.{Places, entries}
use Rattle.values.specs.HintSets.{lawful}

abbrev pub hinted : Entry → Bool
hinted e = lawful e.hints

abbrev pub each_hinted : List Entry → Bool
each_hinted es = list_all hinted es

abbrev pub all_hinted : Places → Bool
all_hinted p = each_hinted (entries p.cache) && each_hinted p.queue
