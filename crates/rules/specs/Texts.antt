-- What a refusal of the server prints.
--
--   refusal_text   why it refuses; of a store's fault what the fault prints
use Rattle.std.specs.Prelude.{ℕ, List, codes}
use Rattle.store.specs.Texts.{fault_text}
use Rattle.rules.specs.declared.refusal.Refusal.{Refusal}
use Rattle.rules.specs.declared.refusal.Refusal.TheVariants.{Shut, Buffer, Exhausted, Store}

abbrev pub refusal_text : Refusal → List ℕ
refusal_text Shut = codes "the server is shut"
refusal_text Buffer = codes "the buffer is not 256 bytes long"
refusal_text Exhausted = codes "no request number is left"
refusal_text (Store fault) = fault_text fault
