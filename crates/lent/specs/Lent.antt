-- What a call leaves of a lent slice that a struct holds.
--
--   Untouched   the same slice is held, and what it holds stays
--   SameSlice   the same slice is held, as long as it was; what it holds may differ
use Rattle.std.specs.Prelude.{◌≡◌, List, length}
use Rattle.std.specs.Borrow.{MutBor}

pub record Untouched {A : Type 0} (old new : MutBor (List A)) : Type 0 where
  pub lent : new.ghost_name ≡ old.ghost_name
  pub same : new.now ≡ old.now

pub record SameSlice {A : Type 0} (old new : MutBor (List A)) : Type 0 where
  pub lent : new.ghost_name ≡ old.ghost_name
  pub len : length new.now ≡ length old.now
