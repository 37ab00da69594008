-- The entries of cached pages, place by place.
use Rattle.std.proofs.Common.{◌≡◌, ℕ, suc, cond, eqb, List, [], ◌∷◌, length, refl, ap}
use Rattle.std.proofs.lemmas.List.{length-map}
use Rattle.rules.specs.State.{CachedPage, entries}
use Rattle.rules.specs.Pages.{cached_page, entry_page, seek}

pub length_entries : (cs : List CachedPage) → length (entries cs) ≡ length cs
length_entries cs = length-map cs (λ x. x.entry)

pub seek_entries : (p : ℕ) (cs : List CachedPage) → seek entry_page p (entries cs) ≡ seek cached_page p cs
seek_entries p [] = refl
seek_entries p (x ∷ cs) = ap (λ i. cond (eqb x.entry.page p) 0 (suc i)) (seek_entries p cs)
