use Rattle.std.proofs.lemmas.Bool.Decides.{same_from_decides}
use Rattle.keys.proofs.Alike.{decides_alike}
use Rattle.counting.proofs.row.Row.has_key.Goals as goal

pub returns : goal.returns
returns g c =
    let m = g.K.Key.meaning in
    same_from_decides _ _ c.same.ensures (decides_alike (m c.args.self.now.key) (m c.args.key.now))
