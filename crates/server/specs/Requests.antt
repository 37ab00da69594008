-- Requests as callers make them, and what the phases of one answer.
--
--   request       a read or a write of a page with a hint set
--   is_cached     whether a page is cached
--   cached_copy   a buffer with the copy of a cached page
--   own_answer    what the server itself answers before the store is asked
--   passed        what a store answers, as the server passes it up
use Rattle.std.specs.Prelude.{ℕ, Bool, true, false, List, Ok, Err, Result}
use Rattle.std.specs.Option.{option_map_or}
use Rattle.std.specs.Result.{result_map_both}
use Rattle.rules.specs.declared.request.Request.{Request}
use Rattle.rules.specs.Pages.{in_cache}
use Rattle.rules.specs.Refusals.{Refused, passed_up}
use Rattle.rules.specs.Requests.{cached_or, own_refusal}
use Rattle.rules.specs.State.{State}
use Rattle.store.specs.Faults.{Refused as StoreRefused}
use Rattle.store.specs.declared.script.Access.{Access}
use Rattle.values.specs.HintSets.{numbers_of}
use Rattle.values.specs.declared.hint_set.HintSet.{HintSet}

abbrev pub request : Access → ℕ → HintSet → Request
request a p h = record { access = a; page = p; hints = numbers_of h }

abbrev pub is_cached : State → ℕ → Bool
is_cached t p = cached_or (λ _. true) false (in_cache p t.places.cache)

-- where the page is not cached, the buffer stays as it was given
abbrev pub cached_copy : State → ℕ → List ℕ → List ℕ
cached_copy t p given = cached_or (λ x. x.bytes) given (in_cache p t.places.cache)

abbrev pub passed : Result Unit StoreRefused → Result Unit Refused
passed r = result_map_both (λ x. x) passed_up r

-- with a buffer of so many bytes
abbrev pub own_answer : State → ℕ → Result Unit Refused
own_answer t len = option_map_or Err (own_refusal t len) (Ok tt)
