-- A memory after one of its pages was replaced.
use Rattle.std.proofs.Common.{◌≡◌, ℕ, ◌+◌, ◌-◌, ◌*◌, ◌/◌, ◌<◌, min, Bool, true, false, cond, eqb, List, length, take, drop, sym, refl, ap, ◌∙◌, arith, length-append, length-drop, length-take, eqb-true}
use borrow.Author.Tests.{eqb-false}
use Rattle.std.proofs.lemmas.Slice.{between_is, between-put_mid, take-put_mid_below, drop-put_mid}
use Rattle.store.specs.Meaning.{put, written}
use Rattle.store.specs.Makes.{page_of, put_page, working}

page_same : (bytes v : List ℕ) (p : ℕ) → p < length bytes / 256 → length v ≡ 256 → page_of (put_page bytes p v) p ≡ v
page_same bytes v p h e =
    let n : (p * 256 + 256) - p * 256 ≡ 256 = omega arith in
    rw n at (between-put_mid (p * 256) 256 bytes v (p * 256 + 256) (omega arith) (omega arith))

page_below : (bytes v : List ℕ) (p q : ℕ) → p < length bytes / 256 → q < p → page_of (put_page bytes p v) q ≡ page_of bytes q
page_below bytes v p q h k =
    let n : (q * 256 + 256) - q * 256 ≡ 256 = omega arith in
    rw n at (between_is (put_page bytes p v) (q * 256) (q * 256 + 256)
    ∙ ap (drop (q * 256)) (take-put_mid_below (p * 256) 256 bytes v (q * 256 + 256) (omega arith) (omega arith))
    ∙ sym (between_is bytes (q * 256) (q * 256 + 256)))

page_above : (bytes v : List ℕ) (p q : ℕ) → p < length bytes / 256 → length v ≡ 256 → p < q → page_of (put_page bytes p v) q ≡ page_of bytes q
page_above bytes v p q h e k = ap (take 256) (drop-put_mid (p * 256) 256 bytes v (q * 256) (omega arith) (omega arith) e)

page_cases : (bytes v : List ℕ) (p q : ℕ) (b : Bool) → eqb q p ≡ b → p < length bytes / 256 → length v ≡ 256
    → page_of (put_page bytes p v) q ≡ cond b v (page_of bytes q)
page_cases bytes v p q true t h e = grind (arith, page_same, eqb-true)
page_cases bytes v p q false t h e = grind (arith, page_below, page_above, eqb-false)

-- page p is the new one, and every other page is as it was
pub page_of_put_page : (bytes v : List ℕ) (p q : ℕ) → p < length bytes / 256 → length v ≡ 256 → page_of (put_page bytes p v) q ≡ put (page_of bytes) p v q
page_of_put_page bytes v p q h e = page_cases bytes v p q (eqb q p) refl h e

length_put_page : (bytes v : List ℕ) (p : ℕ) → p < length bytes / 256 → length v ≡ 256 → length (put_page bytes p v) ≡ length bytes
length_put_page bytes v p h e = simp (length-append, length-take, length-drop) (omega arith)

-- a working store whose memory has page p replaced is the store with page p written
pub working_put_page : (bytes marks v : List ℕ) (tally p : ℕ) → p < length bytes / 256 → length v ≡ 256
    → working (put_page bytes p v) marks tally ≡ written (working bytes marks tally) p v
working_put_page bytes marks v tally p h e = λ i. record (working bytes marks tally) {
  number = min (min (length_put_page bytes v p h e i / 256) (length marks)) 65536;
  pages = λ q. page_of_put_page bytes v p q h e i;
}
