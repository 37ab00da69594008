-- What a store's refusal prints.
--
--   fault_text   its number and its origin
use Rattle.std.specs.Prelude.{ℕ, List, ◌++◌, codes}
use Rattle.std.specs.Fmt.{decimal}
use Rattle.store.specs.declared.fault.Fault.{Fault}
use Rattle.store.specs.Faults.{number_of}

abbrev pub fault_text : Fault → List ℕ
fault_text fault =
    codes "refused " ++ decimal (number_of fault.number) ++ codes " at page " ++ decimal fault.origin.page
    ++ codes ", depth " ++ decimal fault.origin.depth
