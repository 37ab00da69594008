-- The meaning of every make keeps the bounds: what each implementation shows of itself, by a ghost member, which cites `specs/` alone.
use Rattle.std.specs.Prelude.{◌≡◌, ℕ, ◌-◌, ◌/◌, ◌%◌, ◌^◌, ◌<◌, ◌≤◌, Bool, true, false, if◌then◌else◌, List, length, ◌==◌}
use Rattle.std.proofs.Common.{arith, length-take, length-drop}
use Rattle.store.specs.Faults.{deeper}
use Rattle.store.specs.Meaning.{Meaning, Lawful}
use Rattle.store.specs.Makes.{page_of, working, plate, pair}

whole_page : (bytes : List ℕ) (p : ℕ) → p < length bytes / 256 → length (page_of bytes p) ≡ 256
whole_page bytes p h = simp (length-take, length-drop) (omega arith)

pub working_lawful : (bytes marks : List ℕ) (tally : ℕ) → Lawful (working bytes marks tally)
working_lawful bytes marks tally = record {
  number = omega arith;
  tally = omega arith;
  pages = λ p h. whole_page bytes p (omega arith);
  origins = λ p h. (omega arith, omega arith);
}

pub plate_lawful : (bytes : List ℕ) (tally : ℕ) → Lawful (plate bytes tally)
plate_lawful bytes tally = record {
  number = omega arith;
  tally = omega arith;
  pages = λ p h. whole_page bytes p (omega arith);
  origins = λ p h. (omega arith, omega arith);
}

-- what holds of a page of either side holds of the pair's
sides : {X : Type 0} (P : X → Type 0) (left right : ℕ → X) (p : ℕ) (b : Bool) → P (left (p / 2)) → P (right ((p - 1) / 2))
    → P (if b then left (p / 2) else right ((p - 1) / 2))
sides P left right p true x y = x
sides P left right p false x y = y

pub pair_lawful : {l r : Meaning} → Lawful l → Lawful r → Lawful (pair l r)
pair_lawful {l} {r} x y = record {
  number = omega arith;
  tally = omega arith;
  pages = λ p h. sides (λ v. length v ≡ 256) l.pages r.pages p (p % 2 == 0) (x.pages (p / 2) (omega arith)) (y.pages ((p - 1) / 2) (omega arith));
  origins = λ p h. sides (λ o. ((deeper o).page < 2 ^ 32) × ((deeper o).depth ≤ 255)) l.origins r.origins p (p % 2 == 0)
      ((x.origins (p / 2) (omega arith)).0, omega arith)
      ((y.origins ((p - 1) / 2) (omega arith)).0, omega arith);
}
