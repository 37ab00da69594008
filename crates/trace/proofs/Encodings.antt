-- A word that is read is the word that was written.
use Rattle.std.proofs.Common.{◌≡◌, ℕ, zero, suc, ◌+◌, ◌*◌, ◌/◌, ◌%◌, ◌^◌, ◌<◌, Bool, true, false, cond, List, [], ◌∷◌, ◌++◌, length, Some, None, Ok, Err, Option, sym, refl, ap, ◌∙◌, subst, arith}
use Rattle.std.specs.List.{AllByRecursion}
use Rattle.std.specs.Option.{ok_or, option_map}
use Rattle.std.specs.Result.{result_map_both}
use Rattle.std.proofs.lemmas.Bool.{cond-true, le-leb}
use Rattle.std.proofs.lemmas.Option.{none-some, same_Some}
use Rattle.trace.specs.declared.word.Expected.{Expected}
use Rattle.trace.specs.declared.word.Expected.TheVariants.{Size, Item, Hint, Fill}
use Rattle.trace.specs.declared.word.Word.{Word}
use Rattle.trace.specs.declared.word.kind.Kind.{Kind}
use Rattle.trace.specs.declared.word.kind.Kind.TheVariants as kinds
use Rattle.trace.specs.Encoding.{word}
use Rattle.trace.specs.Kinds.{code, kind_numbered}
use Rattle.trace.specs.Lefts.{Left}
use Rattle.trace.specs.Words.{bits_fit, first_word, kind_fits, parts, taken, tested, word_at}
use Rattle.trace.proofs.Thens.{err_ok, ok_or_ok, renamed_ok, then_ok, then_to}

-- what a slice of bytes holds
abbrev pub Bytes : List ℕ → Type 0
Bytes bs = AllByRecursion (λ b. b < 2 ^ 8) bs

-- a word with no bit set between count and value
abbrev pub plain : Kind → ℕ → ℕ → ℕ → Word
plain kind client count value = record { kind = kind; client = client; count = count; zero = 0; value = value }

abbrev number_of : ℕ → ℕ → ℕ → ℕ → ℕ
number_of a b c d = a * 2 ^ 24 + b * 2 ^ 16 + c * 2 ^ 8 + d

first_word_cons : (a b c d : ℕ) (rest : List ℕ) (place : ℕ) →
    first_word (record { rest = a ∷ b ∷ c ∷ d ∷ rest; place = place }) ≡ Some (number_of a b c d, record { rest = rest; place = place + 1 })
first_word_cons a b c d rest place = cond-true _ _ _ (le-leb 4 (length (a ∷ b ∷ c ∷ d ∷ rest)) (omega arith))

-- a kind, by its number
kind_numbered_code : (k : Kind) → kind_numbered (code k) ≡ Some k
kind_numbered_code kinds.Size = refl
kind_numbered_code kinds.Read = refl
kind_numbered_code kinds.Write = refl
kind_numbered_code kinds.Hint = refl
kind_numbered_code kinds.Fill = refl

code_numbered : (n : ℕ) (k : Kind) → kind_numbered n ≡ Some k → code k ≡ n
code_numbered zero k e = sym (ap code (same_Some _ _ e))
code_numbered (suc zero) k e = sym (ap code (same_Some _ _ e))
code_numbered (suc (suc zero)) k e = sym (ap code (same_Some _ _ e))
code_numbered (suc (suc (suc zero))) k e = sym (ap code (same_Some _ _ e))
code_numbered (suc (suc (suc (suc zero)))) k e = sym (ap code (same_Some _ _ e))
code_numbered (suc (suc (suc (suc (suc n))))) k e = absurd (none-some k e)

module _ (a b c d : ℕ) (ha : a < 2 ^ 8) (hb : b < 2 ^ 8) (hc : c < 2 ^ 8) (hd : d < 2 ^ 8) where
  -- the parts of a word, by its bytes
  pub parts_of_bytes : parts (number_of a b c d)
      ≡ option_map (λ k. record { kind = k; client = a % 2 ^ 4; count = b / 2 ^ 4; zero = b % 2 ^ 4; value = c * 2 ^ 8 + d }) (kind_numbered (a / 2 ^ 4))
  parts_of_bytes =
      let w : ℕ = number_of a b c d in
      let kind : w / 2 ^ 28 ≡ a / 2 ^ 4 = omega arith in
      let client : w / 2 ^ 24 % 16 ≡ a % 2 ^ 4 = omega arith in
      let count : w / 2 ^ 20 % 16 ≡ b / 2 ^ 4 = omega arith in
      let zero : w / 2 ^ 16 % 16 ≡ b % 2 ^ 4 = omega arith in
      let value : w % 2 ^ 16 ≡ c * 2 ^ 8 + d = omega arith in
      λ i. option_map (λ k. record { kind = k; client = client i; count = count i; zero = zero i; value = value i }) (kind_numbered (kind i))

-- a word that was written is read, of any kind
pub read_word : (k m n v : ℕ) → k < 2 ^ 4 → m < 2 ^ 4 → n < 2 ^ 4 → v < 2 ^ 16 → (rest : List ℕ) (place : ℕ) →
    (number : ℕ) × (first_word (record { rest = word k m n v ++ rest; place = place }) ≡ Some (number, record { rest = rest; place = place + 1 }))
    × (parts number ≡ option_map (λ x. plain x m n v) (kind_numbered k))
read_word k m n v hk hm hn hv rest place =
    let kind : (k * 2 ^ 4 + m) / 2 ^ 4 ≡ k = omega arith in
    let client : (k * 2 ^ 4 + m) % 2 ^ 4 ≡ m = omega arith in
    let count : n * 2 ^ 4 / 2 ^ 4 ≡ n = omega arith in
    let zero : n * 2 ^ 4 % 2 ^ 4 ≡ 0 = omega arith in
    let value : v / 2 ^ 8 * 2 ^ 8 + v % 2 ^ 8 ≡ v = omega arith in
    let e = parts_of_bytes (k * 2 ^ 4 + m) (n * 2 ^ 4) (v / 2 ^ 8) (v % 2 ^ 8) (omega arith) (omega arith) (omega arith) (omega arith) in (
      number_of (k * 2 ^ 4 + m) (n * 2 ^ 4) (v / 2 ^ 8) (v % 2 ^ 8),
      first_word_cons (k * 2 ^ 4 + m) (n * 2 ^ 4) (v / 2 ^ 8) (v % 2 ^ 8) rest place,
      e ∙ (λ i. option_map (λ x. record { kind = x; client = client i; count = count i; zero = zero i; value = value i }) (kind_numbered (kind i))),
    )

-- the parts of a word, by its number
pub record Parts (n : ℕ) (w : Word) : Type 0 where
  pub kind : code w.kind ≡ n / 2 ^ 28
  pub client : w.client ≡ n / 2 ^ 24 % 16
  pub count : w.count ≡ n / 2 ^ 20 % 16
  pub zero : w.zero ≡ n / 2 ^ 16 % 16
  pub value : w.value ≡ n % 2 ^ 16

parts_by : (n : ℕ) (w : Word) (o : Option Kind) → kind_numbered (n / 2 ^ 28) ≡ o →
    option_map (λ k. record { kind = k; client = n / 2 ^ 24 % 16; count = n / 2 ^ 20 % 16; zero = n / 2 ^ 16 % 16; value = n % 2 ^ 16 }) o ≡ Some w →
    Parts n w
parts_by n w None o e = absurd (none-some w e)
parts_by n w (Some k) o e =
    let same = same_Some _ _ e in
    subst (Parts n) same (record { kind = code_numbered (n / 2 ^ 28) k o; client = refl; count = refl; zero = refl; value = refl })

parts_are : (n : ℕ) (w : Word) → parts n ≡ Some w → Parts n w
parts_are n w e = parts_by n w (kind_numbered (n / 2 ^ 28)) refl e

-- a word that is read passed its tests
pub record Taken (e : Expected) (l : Left) (w : Word) (m : Left) : Type 0 where
  pub number : ℕ
  pub first : first_word l ≡ Some (number, m)
  pub parts : Parts number w
  pub kind : kind_fits e w.kind ≡ true
  pub bits : bits_fit e w ≡ true

both_passed : {X F : Type 0} (b d : Bool) (x y : X) (f g : F) → cond b (cond d (Ok x) (Err f)) (Err g) ≡ Ok y →
    (b ≡ true) × (d ≡ true) × (x ≡ y)
both_passed true true x y f g e = (refl, refl, cc)
both_passed true false x y f g e = absurd (err_ok f y e)
both_passed false d x y f g e = absurd (err_ok g y e)

pub word_taken : (e : Expected) (l : Left) (w : Word) (m : Left) → word_at e l ≡ Ok (w, m) → Taken e l w m
word_taken e l w m h =
    then_ok (ok_or (first_word l) 10) _ _ (renamed_ok _ (taken e l) (w, m) h) (λ t first after.
    then_ok (ok_or (parts t.0) 11) _ _ after (λ v split tests.
    then_ok (tested e v) _ _ tests (λ _ passed done.
    let same : ◌≡◌ {A = Word × Left} (v, t.1) (w, m) = cc in
    let both = both_passed (kind_fits e v.kind) (bits_fit e v) tt tt 12 11 passed in
    subst (λ y. Taken e l y.0 y.1) same
    (record { number = t.0; first = ok_or_ok _ _ _ first; parts = parts_are t.0 v (ok_or_ok _ _ _ split); kind = both.0; bits = both.1 }))))

-- a word whose zero bits are 0 was written there
pub record Written (bs : List ℕ) (w : Word) (rest : List ℕ) : Type 0 where
  pub bytes : bs ≡ word (code w.kind) w.client w.count w.value ++ rest
  pub client : w.client < 2 ^ 4
  pub count : w.count < 2 ^ 4
  pub value : w.value < 2 ^ 16
  pub others : Bytes rest

-- a word that is read was written there, and passed its tests
pub record WordRead (e : Expected) (bs : List ℕ) (w : Word) (rest : List ℕ) : Type 0 where
  pub written : Written bs w rest
  pub kind : kind_fits e w.kind ≡ true
  pub bits : bits_fit e w ≡ true

zero_bits : (e : Expected) (w : Word) → bits_fit e w ≡ true → w.zero ≡ 0
zero_bits (Size name) w h = grind arith
zero_bits Item w h = grind arith
zero_bits Hint w h = grind arith
zero_bits Fill w h = grind arith

-- four bytes with no bit set between count and value are the word of their parts, of any kind
pub four_bytes : (a b c d : ℕ) (rest : List ℕ) → Bytes (a ∷ b ∷ c ∷ d ∷ rest) → b % 2 ^ 4 ≡ 0 →
    a ∷ b ∷ c ∷ d ∷ rest ≡ word (a / 2 ^ 4) (a % 2 ^ 4) (b / 2 ^ 4) (c * 2 ^ 8 + d) ++ rest
four_bytes a b c d rest h z =
    let ha : a < 2 ^ 8 = h.0 in
    let hb : b < 2 ^ 8 = h.1.0 in
    let hc : c < 2 ^ 8 = h.1.1.0 in
    let hd : d < 2 ^ 8 = h.1.1.1.0 in
    let first : a ≡ a / 2 ^ 4 * 2 ^ 4 + a % 2 ^ 4 = omega arith in
    let second : b ≡ b / 2 ^ 4 * 2 ^ 4 = omega arith in
    let third : c ≡ (c * 2 ^ 8 + d) / 2 ^ 8 = omega arith in
    let fourth : d ≡ (c * 2 ^ 8 + d) % 2 ^ 8 = omega arith in
    cc

-- the bytes of a number whose word has no bit set between count and value
written_bytes : (a b c d : ℕ) (rest : List ℕ) → Bytes (a ∷ b ∷ c ∷ d ∷ rest) → (w : Word) → Parts (number_of a b c d) w → w.zero ≡ 0 →
    a ∷ b ∷ c ∷ d ∷ rest ≡ word (code w.kind) w.client w.count w.value ++ rest
written_bytes a b c d rest h w p z =
    let ha : a < 2 ^ 8 = h.0 in
    let hb : b < 2 ^ 8 = h.1.0 in
    let hc : c < 2 ^ 8 = h.1.1.0 in
    let hd : d < 2 ^ 8 = h.1.1.1.0 in
    let first : a ≡ code w.kind * 2 ^ 4 + w.client = omega (arith, p.kind, p.client) in
    let second : b ≡ w.count * 2 ^ 4 = omega (arith, p.count, p.zero, z) in
    let third : c ≡ w.value / 2 ^ 8 = omega (arith, p.value) in
    let fourth : d ≡ w.value % 2 ^ 8 = omega (arith, p.value) in
    cc

-- whether or not a test would let it pass
pub written_word : (bs : List ℕ) (place n : ℕ) (w : Word) (m : Left) → Bytes bs → first_word (record { rest = bs; place = place }) ≡ Some (n, m) → Parts n w → w.zero ≡ 0 →
    Written bs w m.rest
written_word [] place n w m h e p z = absurd (none-some _ e)
written_word (a ∷ []) place n w m h e p z = absurd (none-some _ e)
written_word (a ∷ b ∷ []) place n w m h e p z = absurd (none-some _ e)
written_word (a ∷ b ∷ c ∷ []) place n w m h e p z = absurd (none-some _ e)
written_word (a ∷ b ∷ c ∷ d ∷ bs) place n w m h e p z =
    let same : ◌≡◌ {A = ℕ × Left} (number_of a b c d, record { rest = bs; place = place + 1 }) (n, m) =
    same_Some _ _ (sym (first_word_cons a b c d bs place) ∙ e) in
    let rest : bs ≡ m.rest = ap (λ y. y.1.rest) same in
    let parts : Parts (number_of a b c d) w = subst (λ k. Parts k w) (sym (ap (λ y. y.0) same)) p in
    record {
      bytes = written_bytes a b c d bs h w parts z ∙ ap (λ x. word (code w.kind) w.client w.count w.value ++ x) rest;
      client = omega (arith, p.client);
      count = omega (arith, p.count);
      value = omega (arith, p.value);
      others = subst Bytes rest h.1.1.1.1;
    }

pub word_sound : (e : Expected) (l : Left) (w : Word) (m : Left) → Bytes l.rest → word_at e l ≡ Ok (w, m) → WordRead e l.rest w m.rest
word_sound e l w m b h =
    let t = word_taken e l w m h in
    record { written = written_word l.rest l.place t.number w m b t.first t.parts (zero_bits e w t.bits); kind = t.kind; bits = t.bits }

-- an expected word that was written is read
parts_from : (w : ℕ) (k : Kind) (m n v : ℕ) → w / 2 ^ 28 ≡ code k → w / 2 ^ 24 % 16 ≡ m → w / 2 ^ 20 % 16 ≡ n → w / 2 ^ 16 % 16 ≡ 0 →
    w % 2 ^ 16 ≡ v → parts w ≡ Some (plain k m n v)
parts_from w k m n v kind client count none value =
    let numbered : kind_numbered (w / 2 ^ 28) ≡ Some k = ap kind_numbered kind ∙ kind_numbered_code k in
    ap (option_map (λ x. record { kind = x; client = w / 2 ^ 24 % 16; count = w / 2 ^ 20 % 16; zero = w / 2 ^ 16 % 16; value = w % 2 ^ 16 })) numbered
    ∙ ap Some cc

parts_of_word : (k : Kind) (m n v : ℕ) → m < 2 ^ 4 → n < 2 ^ 4 → v < 2 ^ 16 →
    parts (number_of (code k * 2 ^ 4 + m) (n * 2 ^ 4) (v / 2 ^ 8) (v % 2 ^ 8)) ≡ Some (plain k m n v)
parts_of_word k m n v hm hn hv =
    parts_from (number_of (code k * 2 ^ 4 + m) (n * 2 ^ 4) (v / 2 ^ 8) (v % 2 ^ 8)) k m n v
    (omega arith) (omega arith) (omega arith) (omega arith) (omega arith)

pub word_complete : (e : Expected) (k : Kind) (m n v : ℕ) → m < 2 ^ 4 → n < 2 ^ 4 → v < 2 ^ 16 →
    kind_fits e k ≡ true → bits_fit e (plain k m n v) ≡ true → (rest : List ℕ) (place : ℕ) →
    word_at e (record { rest = word (code k) m n v ++ rest; place = place }) ≡ Ok (plain k m n v, record { rest = rest; place = place + 1 })
word_complete e k m n v hm hn hv kind bits rest place =
    let l : Left = record { rest = word (code k) m n v ++ rest; place = place } in
    let first = ap (λ o. ok_or {E = ℕ} o 10) (first_word_cons (code k * 2 ^ 4 + m) (n * 2 ^ 4) (v / 2 ^ 8) (v % 2 ^ 8) rest place) in
    let split = ap (λ o. ok_or {E = ℕ} o 11) (parts_of_word k m n v hm hn hv) in
    let passed : tested e (plain k m n v) ≡ Ok tt = cond-true _ _ _ kind ∙ cond-true _ _ _ bits in
    let all : taken e l ≡ Ok (plain k m n v, record { rest = rest; place = place + 1 }) = then_to _ _ _ _ first (then_to _ _ _ _ split (then_to _ _ _ _ passed refl)) in
    ap (result_map_both (λ t. t) (λ (cause : ℕ). (cause, place))) all
