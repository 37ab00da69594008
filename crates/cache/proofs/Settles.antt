-- For the server above: what the cache's calls find and leave, in the words of the rules.
use Rattle.std.proofs.Common.{◌≡◌, ℕ, ◌<◌, ◌≤◌, Bool, true, false, cond, ◌&&◌, eqb, ltb, List, [], ◌∷◌, ◌++◌, length, set, Some, None, sym, refl, ◌∙◌, ap₂, arith}
use Rattle.std.specs.List.{slice_get}
use Rattle.std.proofs.lemmas.Option.{slice_get_within}
use Rattle.std.proofs.lemmas.Bool.{eq-eqb, lt-ltb, ltb-false}
use Rattle.std.proofs.lemmas.List.Quantifiers.{position-Some}
use Rattle.rules.specs.declared.choice.Choice.{Choice}
use Rattle.rules.specs.declared.choice.Choice.TheVariants.{Hit, Free, Evict, Pass}
use Rattle.rules.specs.declared.entry.Entry.{Entry}
use Rattle.rules.specs.State.{CachedPage, entries}
use Rattle.rules.specs.Pages.{cached_page, entry_page, in_cache, seek}
use Rattle.rules.specs.Placing.{cache_after}
use Rattle.rules.specs.Requests.{cached_or}
use Rattle.rules.proofs.Chosen.{Chosen, as_hit, as_free, as_evict, as_pass}
use Rattle.rules.proofs.Entries.{length_entries, seek_entries}
use Rattle.rules.proofs.Singles.{unfound}
use Rattle.rules.proofs.Sought.{nth_seek}
use Rattle.cache.specs.Changes.{cached_as, put_at, settled, shown, sought, touched}
use Rattle.cache.proofs.Blanks.{blank}
use Rattle.cache.proofs.Contests.{seek_position}

-- ---- what is found is what stands at the place
module _ (p : ℕ) (cs : List CachedPage) where
  sought_by : sought p (entries cs) ≡ cond (ltb (seek cached_page p cs) (length cs)) (Some (seek cached_page p cs)) None
  sought_by = ap₂ (λ i n. cond (ltb i n) (Some i) None) (sym (seek_position p (entries cs)) ∙ seek_entries p cs) (length_entries cs)

  pub sought_nth : (i : ℕ) → sought p (entries cs) ≡ Some i → slice_get cs i ≡ in_cache p cs
  sought_nth i e = go (ltb (seek cached_page p cs) (length cs)) (nth_seek cached_page p cs) (sym sought_by ∙ e)
    where
      go : (b : Bool) → slice_get cs (seek cached_page p cs) ≡ in_cache p cs → cond b (Some (seek cached_page p cs)) None ≡ Some i → slice_get cs i ≡ in_cache p cs
      go true n q = cc
      go false n q = cc

  pub sought_within : (i : ℕ) → sought p (entries cs) ≡ Some i → i < length cs
  sought_within i e = omega (arith, length_entries cs, (position-Some (λ e. eqb (entry_page e) p) (entries cs) i blank e).0)

  pub sought_none : sought p (entries cs) ≡ None → in_cache p cs ≡ None
  sought_none e = go (ltb (seek cached_page p cs) (length cs)) refl (sym sought_by ∙ e)
    where
      go : (b : Bool) → ltb (seek cached_page p cs) (length cs) ≡ b → cond b (Some (seek cached_page p cs)) None ≡ None → in_cache p cs ≡ None
      go true t q = cc
      go false t q = unfound cached_page p cs (ltb-false _ _ t)

-- ---- at a used place
module _ (cs : List CachedPage) (i : ℕ) (x : CachedPage) (h : slice_get cs i ≡ Some x) where
  within : ltb i (length cs) ≡ true
  within = lt-ltb i (length cs) (slice_get_within cs i x h)

  -- a read's hit leaves what the rules say
  pub touched_hit : (e : Entry) → touched e cs i ≡ cache_after (Hit i) (cached_as e x.bytes) cs
  touched_hit e = ap₂ (λ b o. cond b (cached_or (λ y. set cs i (cached_as e y.bytes)) cs o) cs) within h

  -- a buffer gets the bytes
  pub shown_hit : (given : List ℕ) → length given ≡ 256 → shown cs i given ≡ x.bytes
  shown_hit given k = ap₂ (λ b o. cond b (cached_or (λ y. y.bytes) given o) given) (ap₂ (λ s t. s && t) within (eq-eqb (length given) 256 k)) h

-- ---- a choice for this cache leaves what the rules say
module _ (room places p : ℕ) (x : CachedPage) (cs : List CachedPage) (k : length x.bytes ≡ 256) (l : room ≤ places) where
  put_within : (i : ℕ) → i < length cs → put_at cs i x ≡ set cs i x
  put_within i q = ap₂ (λ s t. cond (s && t) (set cs i x) cs) (lt-ltb i (length cs) q) (eq-eqb (length x.bytes) 256 k)

  pub settled_chosen : (d : Choice) → Chosen room p cs d → settled places d x cs ≡ cache_after d x cs
  settled_chosen (Hit i) (as_hit y e q) = put_within (seek cached_page p cs) q
  settled_chosen Free (as_free e q) =
      ap₂ (λ s t. cond (s && t) (cs ++ x ∷ []) cs) (lt-ltb (length cs) places (omega (arith, q, l))) (eq-eqb (length x.bytes) 256 k)
  settled_chosen (Evict i) (as_evict j e q) = put_within j q
  settled_chosen Pass (as_pass e) = refl
