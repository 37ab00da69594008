-- The lines of a listed trace.
--
--   size_lines   a line for each size: its place, its letter, its number
--   Said, said   what a line says of an item
--   line_of      what the line of an item says, or the refusal of its hints
--   item_line    place, r or w, page, client, hints, fill
--   fault_line   the fault's number and word place
--   end_line     the number of items
use Rattle.std.specs.Prelude.{ℕ, List, [], ◌∷◌, ◌++◌, Some, None, Ok, codes, decimal, Option, Result}
use Rattle.std.specs.Result.{result_map_both}
use Rattle.trace.specs.declared.fault.Fault.{Fault}
use Rattle.trace.specs.declared.item.Call.{Call}
use Rattle.trace.specs.declared.item.Call.TheVariants.{Read, Write}
use Rattle.trace.specs.declared.item.Item.{Item}
use Rattle.trace.specs.Hints.{values_of}
use Rattle.trace.specs.Words.{number}
use Rattle.values.specs.declared.size_numbers.SizeNumbers.{SizeNumbers}
use Rattle.values.specs.HintSets.{Hints, hints_from, meaning}
use Rattle.lines.specs.declared.trace_lines.ItemLine.{ItemLine}
use Rattle.lines.specs.Parts.{dashed, listed, spaced}

abbrev pub size_lines : SizeNumbers → List ℕ
size_lines n =
    codes "0 C " ++ (decimal n.cache_places ++ (codes "\n1 Q " ++ (decimal n.queue_places
    ++ (codes "\n2 k " ++ (decimal n.hint_rows ++ (codes "\n3 j " ++ (decimal n.page_rows
    ++ (codes "\n4 W " ++ decimal n.window))))))))

abbrev pub letter : Call → List ℕ
letter Read = codes "r"
letter (Write b) = codes "w"

abbrev pub fill : Call → Option ℕ
fill Read = None
fill (Write b) = Some b

pub record Said : Type 0 where
  pub place : ℕ
  pub call : Call
  pub page : ℕ
  pub hints : Hints

abbrev pub said : ItemLine → Said
said l = record { place = l.place; call = l.call; page = l.page; hints = meaning l.hints }

abbrev pub line_of : Item → Result Said ℕ
line_of i =
    result_map_both (λ h. record { place = i.place; call = i.call; page = i.page; hints = h }) (λ refusal. refusal)
    (hints_from i.client (values_of i.hints.now))

abbrev pub item_line : ItemLine → List ℕ
item_line l =
    spaced (decimal l.place ∷ letter l.call ∷ decimal l.page ∷ decimal (meaning l.hints).client
    ∷ listed (meaning l.hints).values ∷ dashed (fill l.call) ∷ [])

abbrev pub fault_line : Fault → List ℕ
fault_line f = spaced (codes "fault" ∷ decimal (number f.cause) ∷ decimal f.place ∷ [])

abbrev pub end_line : ℕ → List ℕ
end_line n = spaced (codes "end" ∷ decimal n ∷ [])
