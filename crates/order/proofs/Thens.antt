-- One total order after another is a total order.
use Rattle.std.proofs.Common.{◌≡◌, Bool, true, false, not, ◌&&◌, ◌||◌, refl}
use Rattle.std.specs.Cmp.{IsStrictWeakOrder}
use Rattle.std.proofs.lemmas.Bool.{both_ways, or_parts}
use Rattle.order.specs.Then.{first_then}

-- a, b: which of two comes before by the first order; c, d: by the second
one_way_then : (a b c d : Bool) → (a ≡ true → b ≡ false) → (c ≡ true → d ≡ false) → (a || (not b && c)) ≡ true → (b || (not a && d)) ≡ false
one_way_then true true c d f s h = f refl
one_way_then true false c d f s h = refl
one_way_then false true c d f s h = absurd (both_ways false refl h)
one_way_then false false c d f s h = s h

second_false : (b c : Bool) → (not b && c) ≡ false → b ≡ false → c ≡ false
second_false b c h e = rw e at h

join_false : (a b c : Bool) → a ≡ false → (b ≡ false → c ≡ false) → (a || (not b && c)) ≡ false
join_false a true c e f = rw e
join_false a false c e f = rw (e, f refl)

module _ {A : Type 0} (first second : A → A → Bool) (o : IsStrictWeakOrder first) (p : IsStrictWeakOrder second) where
  pub ranks_then : IsStrictWeakOrder (first_then first second)
  ranks_then = record {
    one_way = λ x y h. one_way_then (first x y) (first y x) (second x y) (second y x) (o.one_way x y) (p.one_way x y) h;
    chain = chain;
  }
    where
      chain : (x y z : A) → first_then first second x y ≡ false → first_then first second y z ≡ false → first_then first second x z ≡ false
      chain x y z h k =
          let a = or_parts (first x y) (not (first y x) && second x y) h in
          let b = or_parts (first y z) (not (first z y) && second y z) k in
          join_false (first x z) (first z x) (second x z) (o.chain x y z a.0 b.0)
          (λ e. p.chain x y z
          (second_false (first y x) (second x y) a.1 (o.chain y z x b.0 e))
          (second_false (first z y) (second y z) b.1 (o.chain z x y e a.0)))
