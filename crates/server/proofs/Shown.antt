-- A cached page that is copied out, by where the search finds it.
use Rattle.std.proofs.Common.{◌≡◌, ℕ, true, false, ◌&&◌, List, length, Some, None, Option, refl, ap₂, arith}
use Rattle.std.specs.Option.{option_map_or}
use Rattle.std.proofs.lemmas.Bool.{eq-eqb, lt-ltb}
use Rattle.std.proofs.lemmas.Bool.Decides.{nat_tests}
use Rattle.std.proofs.lemmas.Option.{slice_get_cases}
use Rattle.cache.specs.Changes.{shown, sought, takes}
use Rattle.cache.proofs.Settles.{sought_none, sought_nth, sought_within}
use Rattle.rules.specs.Pages.{in_cache}
use Rattle.rules.specs.Requests.{cached_or}
use Rattle.rules.specs.State.{CachedPage, entries}

module _ (p : ℕ) (cs : List CachedPage) where
  pub copied_by : cached_or (λ _. true) false (in_cache p cs) ≡ option_map_or (λ i. takes cs i 256) (sought p (entries cs)) false
  copied_by = go (sought p (entries cs)) refl
    where
      go : (o : Option ℕ) → sought p (entries cs) ≡ o → cached_or (λ _. true) false (in_cache p cs) ≡ option_map_or (λ i. takes cs i 256) o false
      go None e = grind (arith, sought_none p cs e)
      go (Some i) e = grind (arith, nat_tests, sought_nth p cs i e, sought_within p cs i e, (slice_get_cases cs i).1)

  pub shown_by : (given : List ℕ) → length given ≡ 256 → cached_or (λ x. x.bytes) given (in_cache p cs) ≡ option_map_or (λ i. shown cs i given) (sought p (entries cs)) given
  shown_by given k = go (sought p (entries cs)) refl
    where
      go : (o : Option ℕ) → sought p (entries cs) ≡ o → cached_or (λ x. x.bytes) given (in_cache p cs) ≡ option_map_or (λ i. shown cs i given) o given
      go None e = grind (arith, sought_none p cs e)
      go (Some i) e = grind (arith, nat_tests, k, sought_nth p cs i e, sought_within p cs i e, (slice_get_cases cs i).1)

  -- the page was found at a place
  pub whole : (given : List ℕ) (i : ℕ) → length given ≡ 256 → sought p (entries cs) ≡ Some i → takes cs i (length given) ≡ true
  whole given i k found = ap₂ (λ a b. a && b) (lt-ltb i (length cs) (sought_within p cs i found)) (eq-eqb (length given) 256 k)
