-- The lines that sum up a listed trace.
--
--   window_line     how many requests were counted
--   hint_key        client and values of a hint set
--   page_key        number of a page
--   row_line        what a key shows, its count and its error
--   hint_row_line   client, values, count and error of a hint set
--   page_row_line   number, count and error of a page
use Rattle.std.specs.Prelude.{ℕ, List, [], ◌∷◌, ◌++◌, Some, codes, decimal, Option}
use Rattle.std.specs.Fmt.{◌++?◌}
use Rattle.values.specs.declared.hint_numbers.HintNumbers.{HintNumbers}
use Rattle.values.specs.HintSets.{says}
use Rattle.lines.specs.declared.summary_lines.HintKey.{HintKey}
use Rattle.lines.specs.declared.summary_lines.PageKey.{PageKey}
use Rattle.lines.specs.declared.summary_lines.RowLine.{RowLine}
use Rattle.lines.specs.Parts.{listed, spaced}

abbrev pub window_line : ℕ → List ℕ
window_line n = spaced (codes "window" ∷ decimal n ∷ [])

abbrev pub hint_key : HintNumbers → List ℕ
hint_key n = spaced (codes "hints" ∷ decimal n.client ∷ listed (says n).values ∷ [])

abbrev pub page_key : ℕ → List ℕ
page_key n = spaced (codes "page" ∷ decimal n ∷ [])

abbrev pub row_line : Option (List ℕ) → ℕ → ℕ → Option (List ℕ)
row_line key count error = key ++? Some (codes " " ++ spaced (decimal count ∷ decimal error ∷ []))

abbrev pub hint_row_line : RowLine HintKey → List ℕ
hint_row_line l =
    spaced (codes "hints" ∷ decimal l.key.0.client ∷ listed (says l.key.0).values
    ∷ decimal l.count ∷ decimal l.error ∷ [])

abbrev pub page_row_line : RowLine PageKey → List ℕ
page_row_line l = spaced (codes "page" ∷ decimal l.key.0 ∷ decimal l.count ∷ decimal l.error ∷ [])
