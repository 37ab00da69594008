-- The words of a trace: 32 bits, high byte first, and the tests at each place.
--
--   parts        a word taken apart, if its kind is one
--   IsWord       the same, or that its kind is none
--   first_word   the first word of what is left, and what is left after it
--   kind_fits    whether a kind may stand where such a word is expected
--   bits_fit     whether a word's other bits may
--   tested       whether a word may, or what is wrong with it
--   word_at      the expected word at the front of what is left, or the fault there
--   number       the number of a cause
--   refused      a fault as its number and word place
use Rattle.std.specs.Prelude.{ℕ, ◌≡◌, ◌+◌, ◌*◌, ◌/◌, ◌%◌, ◌^◌, Bool, cond, ◌&&◌, ◌||◌, List, length, drop, Some, None, Ok, Err, Option, Result, ◌==◌, nat_le, slice_index}
use Rattle.std.specs.Option.{ok_or, option_map}
use Rattle.std.specs.Result.{result_map_both}
use Rattle.values.specs.Sizes.{place}
use Rattle.trace.specs.declared.fault.Cause.{Cause}
use Rattle.trace.specs.declared.fault.Cause.TheVariants.{SizeLimit, Ended, Kind, Bits}
use Rattle.trace.specs.declared.fault.Fault.{Fault}
use Rattle.trace.specs.declared.word.Expected.{Expected}
use Rattle.trace.specs.declared.word.Expected.TheVariants.{Size, Item, Hint, Fill}
use Rattle.trace.specs.declared.word.Word.{Word}
use Rattle.trace.specs.declared.word.kind.Kind as kinds
use Rattle.trace.specs.Kinds.{code, kind_numbered}
use Rattle.trace.specs.Lefts.{Left}
use Rattle.trace.specs.Thens.{then}

-- bits 31 to 28, 27 to 24, 23 to 20, 19 to 16, and 15 to 0
abbrev pub parts : ℕ → Option Word
parts w = option_map (λ k. record {
  kind = k;
  client = w / 2 ^ 24 % 16;
  count = w / 2 ^ 20 % 16;
  zero = w / 2 ^ 16 % 16;
  value = w % 2 ^ 16;
}) (kind_numbered (w / 2 ^ 28))

abbrev pub IsWord : ℕ → Result Word Cause → Type 0
IsWord w r = r ≡ ok_or (parts w) Kind

-- the number that the first four bytes write, the high one first
abbrev pub high_first : List ℕ → ℕ
high_first bs = slice_index bs 0 * 2 ^ 24 + slice_index bs 1 * 2 ^ 16 + slice_index bs 2 * 2 ^ 8 + slice_index bs 3

abbrev pub first_word : Left → Option (ℕ × Left)
first_word l =
    cond (nat_le 4 (length l.rest)) (Some (high_first l.rest, record { rest = drop 4 l.rest; place = l.place + 1 })) None

-- sizes are of kind 0, reads 1, writes 2, hints 3, fills 4
abbrev pub kind_fits : Expected → kinds.Kind → Bool
kind_fits (Size name) k = code k == 0
kind_fits Item k = code k == 1 || code k == 2
kind_fits Hint k = code k == 3
kind_fits Fill k = code k == 4

-- a size says which it is; an item has a client and at most five hints; a fill is a byte; other bits are 0
abbrev pub bits_fit : Expected → Word → Bool
bits_fit (Size name) w = w.client == place name && w.count == 0 && w.zero == 0
bits_fit Item w = nat_le w.count 5 && w.zero == 0
bits_fit Hint w = w.client == 0 && w.count == 0 && w.zero == 0
bits_fit Fill w = w.client == 0 && w.count == 0 && w.zero == 0 && nat_le w.value 255

-- 11 where its kind does not fit, then 12 where its bits do not
abbrev pub tested : Expected → Word → Result Unit ℕ
tested e w = cond (kind_fits e w.kind) (cond (bits_fit e w) (Ok tt) (Err 12)) (Err 11)

-- 10 where there is no whole word, then 11 where its kind is none, and then its tests
abbrev pub taken : Expected → Left → Result (Word × Left) ℕ
taken e l =
    then (ok_or (first_word l) 10) (λ t.
    then (ok_or (parts t.0) 11) (λ w.
    then (tested e w) (λ _.
    Ok (w, t.1))))

abbrev pub word_at : Expected → Left → Result (Word × Left) (ℕ × ℕ)
word_at e l = result_map_both (λ t. t) (λ cause. (cause, l.place)) (taken e l)

abbrev pub number : Cause → ℕ
number SizeLimit = 1
number Ended = 10
number Kind = 11
number Bits = 12

abbrev pub refused : Fault → ℕ × ℕ
refused f = (number f.cause, f.place)
