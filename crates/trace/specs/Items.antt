-- The items of a trace: a read or a write with its hint words, and a write with its fill word.
--
--   hint_words   what is left after so many hint words
--   hints_at     the bytes of so many hint words, and what is left after them
--   call_at      what an item of a kind asks, after its hint words, and what is left after that
--   Request      an item: where it stands, what it asks, and the bytes of its hint words
--   item_at      the item at the front of what is left, and what is left after it
--   next_at      the same, or none at the end of a trace
--   Hinted       an item's client and hint words are those of a hint set
--   request      the code's item in these words
use Rattle.std.specs.Prelude.{ℕ, zero, suc, ◌*◌, ◌≤◌, cond, List, length, take, Some, None, Ok, Option, Result, ◌==◌}
use Rattle.std.specs.Result.{result_map_both}
use Rattle.trace.specs.declared.item.Call.{Call}
use Rattle.trace.specs.declared.item.Call.TheVariants.{Read, Write}
use Rattle.trace.specs.declared.item.Item as code
use Rattle.trace.specs.declared.word.Expected.TheVariants.{Item, Hint, Fill}
use Rattle.trace.specs.declared.word.kind.Kind.{Kind}
use Rattle.trace.specs.Kinds as kinds
use Rattle.trace.specs.Lefts.{Left}
use Rattle.trace.specs.Thens.{then}
use Rattle.trace.specs.Words.{word_at}

abbrev pub hint_words : ℕ → Left → Result Left (ℕ × ℕ)
hint_words zero l = Ok l
hint_words (suc n) l = then (word_at Hint l) (λ t. hint_words n t.1)

abbrev pub hints_at : ℕ → Left → Result (List ℕ × Left) (ℕ × ℕ)
hints_at n l = then (hint_words n l) (λ m. Ok (take (4 * n) l.rest, m))

-- a read ends with its hint words, and a write with the fill word after them
abbrev pub call_at : Kind → Left → Result (Call × Left) (ℕ × ℕ)
call_at k l = cond (kinds.code k == 1) (Ok (Read, l)) (then (word_at Fill l) (λ t. Ok (Write t.0.value, t.1)))

pub record Request : Type 0 where
  pub place : ℕ
  pub call : Call
  pub page : ℕ
  pub client : ℕ
  pub hints : List ℕ

abbrev pub item_at : Left → Result (Request × Left) (ℕ × ℕ)
item_at l =
    then (word_at Item l) (λ t.
    then (hints_at t.0.count t.1) (λ h.
    then (call_at t.0.kind h.1) (λ c.
    Ok (record { place = l.place; call = c.0; page = t.0.value; client = t.0.client; hints = h.0 }, c.1))))

abbrev pub next_at : Left → Result (Option (Request × Left)) (ℕ × ℕ)
next_at l = cond (length l.rest == 0) (Ok None) (result_map_both Some (λ f. f) (item_at l))

abbrev pub Hinted : Request → Type 0
Hinted q = (q.client ≤ 15) × (length q.hints ≤ 20)

abbrev pub request : code.Item → Request
request i = record { place = i.place; call = i.call; page = i.page; client = i.client; hints = i.hints.now }
