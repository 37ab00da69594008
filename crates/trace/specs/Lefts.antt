-- What is left of a trace.
--
--   Left       the bytes that are left, and the place of their first word
--   left       what a reader has left
--   and_left   what the code answers beside a reader, in the words of f, and what that has left
use Rattle.std.specs.Prelude.{ℕ, List}
use Rattle.trace.specs.declared.reader.Reader.{Reader}

pub record Left : Type 0 where
  pub rest : List ℕ
  pub place : ℕ

abbrev pub left : Reader → Left
left r = record { rest = r.rest.now; place = r.place }

abbrev pub and_left : {X Y : Type 0} → (X → Y) → X × Reader → Y × Left
and_left f t = (f t.0, left t.1)
