-- The tables count the open window.
use Rattle.std.proofs.Common.{◌≡◌, ℕ, ◌+◌, ◌%◌, ◌<◌, Bool, true, false, cond, eqb, List, [], ◌∷◌, map, length, take, Some, None, Ok, Option, sym, refl, ap, ◌∙◌, mod-lt, mod-eq_of_lt, add-one, arith, length-take-le}
use Rattle.std.proofs.lemmas.List.{length-map, length-take}
use native.Mathlib.Nat.{suc-mod, mod_self, mod-le}
use Rattle.std.proofs.lemmas.Bool.{eqb-true, eqb-false}
use Rattle.values.specs.declared.hint_numbers.HintNumbers.{HintNumbers}
use Rattle.values.specs.declared.size_numbers.SizeNumbers.{SizeNumbers}
use Rattle.values.specs.Sizes.{sizes_from}
use Rattle.values.proofs.Limits.{Positive, Within, positive, within_limits}
use Rattle.keys.specs.Meanings.{hint_meaning, page_meaning}
use Rattle.counting.specs.Rows.{fresh}
use Rattle.counting.specs.Rule.{counting}
use Rattle.counting.specs.declared.row.Row.{Row}
use Rattle.counting.proofs.Invariants.{Invariant, credit_keeps, lawful, start}
use Rattle.counting.proofs.Countings.{counting_keeps}
use Rattle.store.specs.Meaning.{Meaning}
use Rattle.rules.specs.declared.entry.Entry.{Entry}
use Rattle.rules.specs.State.{State, Tables, opened}
use Rattle.rules.specs.Placing.{known}
use Rattle.rules.specs.Learning.{close, count, credit_known, emptied, with_live}
use Rattle.rules.specs.Requests.{answer, distance}
use Rattle.rules.specs.Histories.{Event}
use Rattle.rules.specs.Accepted.{Accepted, accepted}
use Rattle.rules.specs.Laws.{Counting, Every}
use Rattle.rules.proofs.Along.{OnAccepted, along_accepted}
use Rattle.rules.proofs.Numberings.{numbered}

abbrev no_hints : HintNumbers
no_hints = record { client = 0; count = 0; first = 0; second = 0; third = 0; fourth = 0; fifth = 0 }

-- any row of either kind
abbrev hint_row : Row HintNumbers
hint_row = fresh no_hints 0

abbrev page_row : Row ℕ
page_row = fresh 0 0

-- with room for n rows
abbrev HintsCount : ℕ → List (Row HintNumbers) → List HintNumbers → Type 0
HintsCount n rs w = Invariant hint_meaning n hint_row rs w

abbrev PagesCount : ℕ → List (Row ℕ) → List ℕ → Type 0
PagesCount n rs w = Invariant page_meaning n page_row rs w

credit_known_keeps : (n : ℕ) (w : List HintNumbers) (e : Option Entry) (d : Option ℕ) (rs : List (Row HintNumbers)) → HintsCount n rs w → HintsCount n (credit_known e d rs) w
credit_known_keeps n w None d rs v = v
credit_known_keeps n w (Some e) None rs v = v
credit_known_keeps n w (Some e) (Some d) rs v = credit_keeps hint_meaning n hint_row rs w v e.hints d

-- ---- the tables, by the accepted requests xs
pub record Counts (z : SizeNumbers) (s : ℕ) (t : Tables) (xs : List Accepted) : Type 0 where
  pub same : t.requests ≡ s % z.window
  pub hints : HintsCount z.hint_rows t.live (map (λ x. x.request.hints) (take t.requests xs))
  pub pages : PagesCount z.page_rows t.pages (map (λ x. x.request.page) (take t.requests xs))

-- a counting of one request more, where the window has so many
window_more : {K : Type 0} (m : K → List ℕ) (n : ℕ) (d : Row K) (f : Accepted → K) (c : ℕ) (x : Accepted) (xs : List Accepted) (rs : List (Row K)) (number : ℕ) → 0 < n → c < 2048
    → Invariant m n d rs (map f (take c xs)) → Invariant m n d (counting m n rs (f x) number) (map f (take (c + 1) (x ∷ xs)))
window_more m n d f c x xs rs number some few v =
    rw (add-one c) (counting_keeps m n d rs (map f (take c xs)) v some (simp (length-map, length-take) (omega arith)) (f x) number)

tables_step : (z : SizeNumbers) (s : ℕ) (x : Accepted) (t : Tables) (xs : List Accepted) → Positive z → Within z → Counts z s t xs
    → Counts z (s + 1) (close z (count z (s + 1) x.request.page x.request.hints t)) (x ∷ xs)
unfolding count close
tables_step z s x t xs least most c = go (eqb (t.requests + 1) z.window) refl
  where
    pos : 0 < z.window
    pos = omega (arith, least.window)

    small : t.requests < z.window
    small = omega (arith, mod-lt s pos, c.same)

    up : (s + 1) % z.window ≡ (t.requests + 1) % z.window
    up = rw (add-one s, add-one t.requests, c.same) (suc-mod s z.window)

    next : Tables
    next = record {
      requests = t.requests + 1;
      live = counting hint_meaning z.hint_rows t.live x.request.hints (s + 1);
      closed = t.closed;
      pages = counting page_meaning z.page_rows t.pages x.request.page (s + 1);
    }

    go : (b : Bool) → eqb (t.requests + 1) z.window ≡ b → Counts z (s + 1) (cond b (emptied next) next) (x ∷ xs)
    go true e = record {
      same = sym (up ∙ ap (λ n. n % z.window) (eqb-true _ _ e) ∙ mod_self z.window);
      hints = start hint_meaning z.hint_rows hint_row;
      pages = start page_meaning z.page_rows page_row;
    }
    go false e =
        let ne = eqb-false _ _ e in
        let l : t.requests + 1 < z.window = omega (arith, small, ne) in
        let few : t.requests < 2048 = omega (arith, small, most.window) in
        record {
          same = sym (up ∙ mod-eq_of_lt l);
          hints = window_more hint_meaning z.hint_rows hint_row (λ y. y.request.hints) t.requests x xs t.live (s + 1) (omega (arith, least.hints)) few c.hints;
          pages = window_more page_meaning z.page_rows page_row (λ y. y.request.page) t.requests x xs t.pages (s + 1) (omega (arith, least.pages)) few c.pages;
        }

pub record Counted (xs : List Accepted) (t : State) : Type 0 where
  pub positive : Positive t.sizes
  pub within : Within t.sizes
  pub counts : Counts t.sizes t.number t.tables xs

pub counted_more : OnAccepted Counted
counted_more xs t m r given e c =
    let k = known r.page t.places in
    let d = distance r.access (t.number + 1) k in
    record {
      positive = c.positive;
      within = c.within;
      counts = tables_step t.sizes t.number (record { request = r; answer = answer t r }) (with_live (credit_known k d t.tables.live) t.tables) xs c.positive c.within
          (record { same = c.counts.same; hints = credit_known_keeps _ _ k d t.tables.live c.counts.hints; pages = c.counts.pages });
    }

pub counted_start : (sizes : SizeNumbers) → sizes_from sizes ≡ Ok sizes → Counted [] (opened sizes)
counted_start sizes ok =
    let least = positive sizes sizes ok in
    record {
      positive = least;
      within = within_limits sizes sizes ok;
      counts = record {
        same = sym (mod-eq_of_lt (omega (arith, least.window)));
        hints = start hint_meaning _ hint_row;
        pages = start page_meaning _ page_row;
      };
    }

pub counted : Every (λ sizes below h t m. Counted (accepted h) t)
counted sizes below h t m ok good w = along_accepted Counted counted_more (opened sizes) below (counted_start sizes ok) h t m w

-- the window is not full between requests
pub small : (xs : List Accepted) (t : State) → Counted xs t → t.tables.requests < t.sizes.window
small xs t c = let l : 0 < t.sizes.window = omega (arith, c.positive.window) in omega (arith, mod-lt t.number l, c.counts.same)

counting_by : (z : SizeNumbers) (below : Meaning) (h : List Event) (t : State) (m : Meaning) → Counts z (length (accepted h)) t.tables (accepted h) → Counting z below h t m
counting_by z below h t m c = record {
  hints = rw (← c.same) (lawful hint_meaning z.hint_rows hint_row t.tables.live _ c.hints);
  pages = rw (← c.same) (lawful page_meaning z.page_rows page_row t.tables.pages _ c.pages);
  requests = rw (← c.same) (sym (length-take-le t.tables.requests (accepted h) (rw c.same (mod-le (length (accepted h)) z.window))));
}

pub counting_holds : Every Counting
counting_holds sizes below h t m ok good w =
    let n = numbered sizes below h t m ok good w in
    let c = (counted sizes below h t m ok good w).counts in
    counting_by sizes below h t m (rw (n.same_sizes, n.latest) at c)
