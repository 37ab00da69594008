use Rattle.std.proofs.Common.{rules, ◌≡◌, ◌∙◌}
use Rattle.std.specs.Option.{option_map}
use Rattle.std.proofs.lemmas.Iterator.{YieldsList-from_slice}
use Rattle.std.proofs.lemmas.Iterator.Search.{find_from_yields_List}
use Rattle.counting.specs.Rows.{has_key}
use Rattle.counting.proofs.find.row_of.Goals as goal

pub returns : goal.returns
returns g c =
    let found = find_from_yields_List (has_key g.K.Key.meaning c.args.key) _ _ c.find.result c.find.ensures.ran
    (YieldsList-from_slice c.args.rows.now c.iter.ensures.rest) (λ x b q k. search rules) in
    let copied : c.copied.result ≡ option_map (λ r. r.now) c.find.result = search rules in
    copied ∙ found
