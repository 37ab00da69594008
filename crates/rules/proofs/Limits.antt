-- Places and rows stay within their bounds.
use Rattle.std.proofs.Common.{◌≡◌, ℕ, ◌+◌, ◌<◌, ◌≤◌, Bool, true, false, cond, eqb, List, length, get_or, drop, Some, None, Option, refl, subst, arith, length-drop, length-set}
use Rattle.std.specs.List.{AllByRecursion}
use Rattle.std.proofs.ByRecursion.{All-weaker}
use Rattle.std.proofs.lemmas.List.{length_push}
use Rattle.std.proofs.lemmas.Bool.{eqb-true}
use Rattle.values.specs.declared.hint_numbers.HintNumbers.{HintNumbers}
use Rattle.values.specs.declared.size_numbers.SizeNumbers.{SizeNumbers}
use Rattle.values.proofs.Limits.{Within}
use Rattle.keys.specs.Meanings.{hint_meaning, page_meaning}
use Rattle.counting.specs.Bounds.{Bounded}
use Rattle.counting.specs.Rule.{counting}
use Rattle.counting.specs.declared.row.Row.{Row}
use Rattle.counting.proofs.Each.{counting_bounded, credit_bounded}
use Rattle.store.specs.declared.script.Access.{Access}
use Rattle.store.specs.declared.script.Access.TheVariants.{Read, Write}
use Rattle.rules.specs.declared.entry.Entry.{Entry}
use Rattle.rules.specs.State.{CachedPage, Places, Tables}
use Rattle.rules.specs.Pages.{cached_page, entry_page}
use Rattle.rules.specs.Choices.{Choice}
use Rattle.rules.specs.Placing.{cache_after, enter, known, queue_after, unqueue}
use Rattle.rules.specs.Learning.{close, count, credit_known, emptied, learn, with_live}
use Rattle.rules.specs.Requests.{distance, distance_from}
use Rattle.rules.proofs.Chosen.{Chosen, as_hit, as_free, as_evict, as_pass}
use Rattle.rules.proofs.Singles.{absent_find, once_find, shorter}
use Rattle.rules.proofs.Where.{Where, never, gone, cached, queued}

-- ---- lengths
pub cache_length : (room p : ℕ) (x : CachedPage) (cs : List CachedPage) (d : Choice) → Chosen room p cs d → length cs ≤ room → length (cache_after d x cs) ≤ room
cache_length room p x cs _ (as_hit y f k) l = simp length-set l
cache_length room p x cs _ (as_free f k) l = omega (arith, length_push cs x)
cache_length room p x cs _ (as_evict i f k) l = simp length-set l
cache_length room p x cs _ (as_pass f) l = l

enter_length : (n : ℕ) (y : Entry) (qs : List Entry) → 1 ≤ n → length qs ≤ n → length (enter n y qs) ≤ n
enter_length n y qs pos l = grind (arith, length_push qs y, length_push (drop 1 qs) y, length-drop 1 qs)

pub queue_length : (room n p : ℕ) (e : Entry) (cs : List CachedPage) (es qs : List Entry) (d : Choice) → Chosen room p cs d → 1 ≤ n → length qs ≤ n → length (queue_after n d e es (unqueue p qs)) ≤ n
queue_length room n p e cs es qs _ (as_hit y f k) pos l = omega (arith, shorter entry_page p qs)
queue_length room n p e cs es qs _ (as_free f k) pos l = omega (arith, shorter entry_page p qs)
queue_length room n p e cs es qs _ (as_evict i f k) pos l = enter_length n (get_or es i e) (unqueue p qs) pos (omega (arith, shorter entry_page p qs))
queue_length room n p e cs es qs _ (as_pass f) pos l = enter_length n e (unqueue p qs) pos (omega (arith, shorter entry_page p qs))

-- ---- a distance lies from 1 to 65,535
abbrev InRange : Option ℕ → Type 0
InRange None = Unit
InRange (Some d) = (1 ≤ d) × (d ≤ 65535)

read_in_range : (q n s : ℕ) (l : Option ℕ) (a : Places) → Where q n s l a → InRange (distance_from (s + 1) (known q a))
read_in_range q n s l a (never e c u) = rw (absent_find cached_page q a.cache c, absent_find entry_page q a.queue u) tt
read_in_range q n s l a (gone t e c u g) = rw (absent_find cached_page q a.cache c, absent_find entry_page q a.queue u) tt
read_in_range q n s l a (cached i x e o u g) = rw (once_find cached_page q i x a.cache o) (omega arith, omega arith)
read_in_range q n s l a (queued i x e c o g) = rw (absent_find cached_page q a.cache c, once_find entry_page q i x a.queue o) (omega arith, omega arith)

pub in_range : (k : Access) (q n s : ℕ) (l : Option ℕ) (a : Places) → Where q n s l a → InRange (distance k (s + 1) (known q a))
in_range Read q n s l a w = read_in_range q n s l a w
in_range Write q n s l a w = tt

-- ---- rows
one_more_credit : (c b : ℕ) (rs : List (Row HintNumbers)) → AllByRecursion (Bounded c b) rs → AllByRecursion (Bounded c (b + 1)) rs
one_more_credit c b rs =
    All-weaker (Bounded c b) (Bounded c (b + 1))
    (λ r v. record { real = v.real; count = v.count; repeats = omega (arith, v.repeats); least = v.least; most = v.most }) rs

credited_rows : (c b : ℕ) → b < 2048 → (e : Option Entry) (d : Option ℕ) → InRange d → (rs : List (Row HintNumbers)) → AllByRecursion (Bounded c b) rs → AllByRecursion (Bounded c (b + 1)) (credit_known e d rs)
credited_rows c b few None d f rs h = one_more_credit c b rs h
credited_rows c b few (Some e) None f rs h = one_more_credit c b rs h
credited_rows c b few (Some e) (Some d) f rs h = credit_bounded hint_meaning rs e.hints c b d few f.0 f.1 h

pub record Rows (z : SizeNumbers) (t : Tables) : Type 0 where
  pub live : AllByRecursion (Bounded t.requests t.requests) t.live
  pub pages : AllByRecursion (Bounded t.requests 0) t.pages
  pub closed : AllByRecursion (Bounded z.window z.window) t.closed

closing : (z : SizeNumbers) (s p : ℕ) (g : HintNumbers) (t : Tables) → Within z → t.requests < z.window
    → AllByRecursion (Bounded t.requests (t.requests + 1)) t.live → AllByRecursion (Bounded t.requests 0) t.pages → AllByRecursion (Bounded z.window z.window) t.closed
    → Rows z (close z (count z s p g t))
unfolding count close
closing z s p g t most l v u w = go (eqb (t.requests + 1) z.window) refl
  where
    few : t.requests < 2048
    few = omega (arith, most.window)

    live_next : List (Row HintNumbers)
    live_next = counting hint_meaning z.hint_rows t.live g s

    pages_next : List (Row ℕ)
    pages_next = counting page_meaning z.page_rows t.pages p s

    hints : AllByRecursion (Bounded (t.requests + 1) (t.requests + 1)) live_next
    hints = counting_bounded hint_meaning t.live g t.requests (t.requests + 1) z.hint_rows s few v

    next : Tables
    next = record { requests = t.requests + 1; live = live_next; closed = t.closed; pages = pages_next }

    go : (b : Bool) → eqb (t.requests + 1) z.window ≡ b → Rows z (cond b (emptied next) next)
    go false e = record { live = hints; pages = counting_bounded page_meaning t.pages p t.requests 0 z.page_rows s few u; closed = w }
    go true e = record { live = tt; pages = tt; closed = subst (λ n. AllByRecursion (Bounded n n) live_next) (eqb-true _ _ e) hints }

pub learned : (z : SizeNumbers) (s p : ℕ) (g : HintNumbers) (e : Option Entry) (d : Option ℕ) (t : Tables) → Within z → t.requests < z.window → InRange d → Rows z t → Rows z (learn z s p g e d t)
learned z s p g e d t most l f r =
    closing z s p g (with_live (credit_known e d t.live) t) most l
    (credited_rows t.requests t.requests (omega (arith, most.window)) e d f t.live r.live) r.pages r.closed
