-- A store of two dead pages, whose origin is as deep as origins go and whose tally is at its highest.
use Rattle.std.proofs.Common.{lit<, lit≤}
use Rattle.std.specs.Prelude.{ℕ, replicate}
use Rattle.std.proofs.lemmas.List.{length-replicate}
use Rattle.store.specs.declared.mark.Mark.TheVariants.{Dead}
use Rattle.store.specs.Meaning.{Meaning, Lawful}

abbrev pub buried : Meaning
buried = record {
  number = 2;
  tally = 4294967295;
  pages = λ _. replicate 256 0;
  marks = λ _. Dead;
  origins = λ _. record { page = 9; depth = 255 };
}

pub buried_lawful : Lawful buried
buried_lawful = record {
  number = lit≤ tt;
  tally = lit< tt;
  pages = λ p h. length-replicate {A = ℕ} 256 0;
  origins = λ p h. (lit< tt, lit≤ tt);
}
