-- What a fault of a trace prints.
--
--   cause_text   what is wrong
--   fault_text   the place of the word, and what is wrong there
use Rattle.std.specs.Prelude.{ℕ, List, ◌++◌, codes}
use Rattle.std.specs.Fmt.{decimal}
use Rattle.trace.specs.declared.fault.Cause.{Cause}
use Rattle.trace.specs.declared.fault.Cause.TheVariants.{SizeLimit, Ended, Kind, Bits}
use Rattle.trace.specs.declared.fault.Fault.{Fault}

abbrev pub cause_text : Cause → List ℕ
cause_text SizeLimit = codes "the size is 0 or over its limit"
cause_text Ended = codes "the trace ends too early"
cause_text Kind = codes "the word's kind is not allowed here"
cause_text Bits = codes "the word's bits are not allowed here"

abbrev pub fault_text : Fault → List ℕ
fault_text fault = codes "word " ++ decimal fault.place ++ codes ": " ++ cause_text fault.cause
