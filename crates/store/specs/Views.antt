-- The meaning of each make of store, read off its fields.
use Rattle.store.specs.declared.pair.Pair.{Pair}
use Rattle.store.specs.declared.plate.PlateStore.{PlateStore}
use Rattle.store.specs.declared.working.WorkingStore.{WorkingStore}
use Rattle.store.specs.Meaning.{Meaning}
use Rattle.store.specs.Makes.{working, plate, pair}

abbrev pub plate_of : PlateStore → Meaning
plate_of s = plate s.bytes.now s.tally

abbrev pub working_of : WorkingStore → Meaning
working_of s = working s.bytes.now s.marks.now s.tally

-- with the meanings of the two sides
abbrev pub pair_of : {L R : Type 0} → (L → Meaning) → (R → Meaning) → Pair L R → Meaning
pair_of left right s = pair (left s.left) (right s.right)
