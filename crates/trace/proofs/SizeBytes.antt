-- The sizes that are read are those that were written.
use Rattle.std.proofs.Common.{◌≡◌, ℕ, ◌+◌, ◌^◌, ◌<◌, List, ◌++◌, Ok, refl, ap, ◌∙◌, subst, arith}
use Rattle.std.specs.Result.{result_map_both}
use Rattle.values.specs.declared.size_numbers.SizeNumbers.{SizeNumbers}
use Rattle.values.specs.declared.sizes.SizeName.{SizeName}
use Rattle.values.specs.declared.sizes.SizeName.TheVariants.{CachePlaces, QueuePlaces, HintRows, PageRows, Window}
use Rattle.values.specs.Sizes as sizes
use Rattle.values.proofs.Limits.{within_limits}
use Rattle.trace.specs.declared.word.Expected.TheVariants.{Size}
use Rattle.trace.specs.declared.word.kind.Kind.TheVariants as kinds
use Rattle.trace.specs.Encoding.{word}
use Rattle.trace.specs.Lefts.{Left}
use Rattle.trace.specs.Sizes.{in_limits, size_at, size_words, sizes_at}
use Rattle.trace.specs.Words.{word_at}
use Rattle.trace.proofs.Encodings.{Bytes, word_complete, word_sound}
use Rattle.trace.proofs.Thens.{renamed_ok, then_ok, then_to}

-- the bytes of the size words, from the last, the one before it, and so on
abbrev from_window : SizeNumbers → List ℕ → List ℕ
from_window z rest = word 0 4 0 z.window ++ rest

abbrev from_pages : SizeNumbers → List ℕ → List ℕ
from_pages z rest = word 0 3 0 z.page_rows ++ from_window z rest

abbrev from_hints : SizeNumbers → List ℕ → List ℕ
from_hints z rest = word 0 2 0 z.hint_rows ++ from_pages z rest

abbrev from_queue : SizeNumbers → List ℕ → List ℕ
from_queue z rest = word 0 1 0 z.queue_places ++ from_hints z rest

abbrev pub size_bytes : SizeNumbers → List ℕ → List ℕ
size_bytes z rest = word 0 0 0 z.cache_places ++ from_queue z rest

-- one size that is read was written there
record SizeRead (name : SizeName) (bs : List ℕ) (t : ℕ × Left) : Type 0 where
  bytes : bs ≡ word 0 (sizes.place name) 0 t.0 ++ t.1.rest
  others : Bytes t.1.rest

size_sound : (name : SizeName) (l : Left) (t : ℕ × Left) → Bytes l.rest → size_at name l ≡ Ok t → SizeRead name l.rest t
size_sound name l t b h =
    then_ok (word_at (Size name) l) _ _ h (λ first read done.
    let w = first.0 in
    let r = word_sound (Size name) l w first.1 b read in
    let same : ◌≡◌ {A = ℕ × Left} (w.value, first.1) t = cc in
    subst (SizeRead name l.rest) same (record { bytes = grind (arith, r.written.bytes, r.kind, r.bits); others = r.written.others }))

-- one size that was written is read
place_narrow : (name : SizeName) → sizes.place name < 2 ^ 4
place_narrow CachePlaces = omega arith
place_narrow QueuePlaces = omega arith
place_narrow HintRows = omega arith
place_narrow PageRows = omega arith
place_narrow Window = omega arith

size_complete : (name : SizeName) (v : ℕ) → v < 2 ^ 16 → (rest : List ℕ) (place : ℕ) →
    size_at name (record { rest = word 0 (sizes.place name) 0 v ++ rest; place = place }) ≡ Ok (v, record { rest = rest; place = place + 1 })
size_complete name v hv rest place =
    let order = sizes.place name in
    then_to _ _ _ _ (word_complete (Size name) kinds.Size order 0 v (place_narrow name) (omega arith) hv refl (grind arith) rest place) refl

-- the five sizes
record SizesRead (bs : List ℕ) (t : SizeNumbers × Left) : Type 0 where
  bytes : bs ≡ size_bytes t.0 t.1.rest
  others : Bytes t.1.rest

size_words_sound : (l : Left) (t : SizeNumbers × Left) → Bytes l.rest → size_words l ≡ Ok t → SizesRead l.rest t
size_words_sound l t b h =
    then_ok (size_at CachePlaces l) _ _ h (λ c ec hc.
    then_ok (size_at QueuePlaces c.1) _ _ hc (λ q eq hq.
    then_ok (size_at HintRows q.1) _ _ hq (λ k ek hk.
    then_ok (size_at PageRows k.1) _ _ hk (λ j ej hj.
    then_ok (size_at Window j.1) _ _ hj (λ w ew done.
    let rc = size_sound CachePlaces l c b ec in
    let rq = size_sound QueuePlaces c.1 q rc.others eq in
    let rk = size_sound HintRows q.1 k rq.others ek in
    let rj = size_sound PageRows k.1 j rk.others ej in
    let rw = size_sound Window j.1 w rj.others ew in
    let same : ◌≡◌ {A = SizeNumbers × Left} (record { cache_places = c.0; queue_places = q.0; hint_rows = k.0; page_rows = j.0; window = w.0 }, w.1) t = cc in
    subst (SizesRead l.rest) same (record {
      bytes =
          rc.bytes ∙ ap (λ x. word 0 0 0 c.0 ++ x)
          (rq.bytes ∙ ap (λ x. word 0 1 0 q.0 ++ x)
          (rk.bytes ∙ ap (λ x. word 0 2 0 k.0 ++ x)
          (rj.bytes ∙ ap (λ x. word 0 3 0 j.0 ++ x) rw.bytes)));
      others = rw.others;
    }))))))

pub record SizesWritten (bs : List ℕ) (t : SizeNumbers × Left) : Type 0 where
  pub lawful : sizes.sizes_from t.0 ≡ Ok t.0
  pub bytes : bs ≡ size_bytes t.0 t.1.rest
  pub others : Bytes t.1.rest

pub sizes_sound : (l : Left) (t : SizeNumbers × Left) → Bytes l.rest → sizes_at l ≡ Ok t → SizesWritten l.rest t
sizes_sound l t b h =
    then_ok (size_words l) _ _ h (λ s read after.
    then_ok (in_limits s.0 l.place) _ _ after (λ z limited done.
    let r = size_words_sound l s b read in
    let w = within_limits s.0 z (renamed_ok _ (sizes.sizes_from s.0) z limited) in
    let same : s ≡ t = cc in
    subst (SizesWritten l.rest) same (record { lawful = w.kept; bytes = r.bytes; others = r.others })))

pub sizes_complete : (z : SizeNumbers) → sizes.sizes_from z ≡ Ok z → (rest : List ℕ) (place : ℕ) →
    sizes_at (record { rest = size_bytes z rest; place = place }) ≡ Ok (z, record { rest = rest; place = place + 5 })
sizes_complete z h rest place =
    let l = within_limits z z h in
    let five : place + 1 + 1 + 1 + 1 + 1 ≡ place + 5 = omega arith in
    let read : size_words (record { rest = size_bytes z rest; place = place }) ≡ Ok (z, record { rest = rest; place = place + 5 }) =
    then_to _ _ _ _ (size_complete CachePlaces z.cache_places (omega arith) (from_queue z rest) place)
    (then_to _ _ _ _ (size_complete QueuePlaces z.queue_places (omega arith) (from_hints z rest) (place + 1))
    (then_to _ _ _ _ (size_complete HintRows z.hint_rows (omega arith) (from_pages z rest) (place + 1 + 1))
    (then_to _ _ _ _ (size_complete PageRows z.page_rows (omega arith) (from_window z rest) (place + 1 + 1 + 1))
    (then_to _ _ _ _ (size_complete Window z.window (omega arith) rest (place + 1 + 1 + 1 + 1)) (ap (λ n. Ok (z, record { rest = rest; place = n })) five))))) in
    let limited : in_limits z place ≡ Ok z = ap (result_map_both {D = ℕ × ℕ} (λ x. x) (λ f. (f.0, place + f.1))) h in
    then_to _ _ _ _ read (then_to _ _ _ _ limited refl)
