-- One request, a read or a write.
--
--   own_refusal    whether the server refuses it
--   refusal        why it is refused, if it is
--   content        the page's bytes after it
--   distance       how long ago the page was requested, if that is known
--   accept         the state after it is accepted
--   answer         what it then answers
--   After          what a request answers and leaves
--   serve          a request, refused or accepted
use Rattle.std.specs.Prelude.{ℕ, ◌+◌, ◌-◌, min, cond, List, length, Some, None, Ok, Err, Option, Result, ◌==◌, nat_lt}
use Rattle.std.specs.Option.{option_map, option_map_or, option_or}
use Rattle.std.specs.Result.{result_err}
use Rattle.store.specs.declared.script.Access.{Access}
use Rattle.store.specs.declared.script.Access.TheVariants.{Read, Write}
use Rattle.store.specs.Faults.{Refused as StoreRefused}
use Rattle.store.specs.Meaning.{Meaning, read_answer, tallied, write_answer, written}
use Rattle.rules.specs.declared.answer.Answer.{Answer}
use Rattle.rules.specs.declared.entry.Entry.{Entry}
use Rattle.rules.specs.declared.request.Request.{Request}
use Rattle.rules.specs.Refusals.{Refused, passed_up, plain}
use Rattle.rules.specs.State.{CachedPage, State, entries}
use Rattle.rules.specs.Pages.{in_cache}
use Rattle.rules.specs.Choices.{Choice, choose, decision, victim}
use Rattle.rules.specs.Placing.{known, place}
use Rattle.rules.specs.Learning.{learn}

-- what is cached, or else what stands in for it
abbrev pub cached_or : {X : Type 0} → (CachedPage → X) → X → Option CachedPage → X
cached_or f other o = option_map_or f o other

-- ---- refuse
-- what the store answers: a write always asks it, a read only where the page is not cached
abbrev pub store_answer : Access → State → Meaning → ℕ → ℕ → Result Unit StoreRefused
store_answer Write t m p len = write_answer m p len
store_answer Read t m p len = cached_or (λ _. Ok tt) (read_answer m p len) (in_cache p t.places.cache)

-- with a buffer of so many bytes: 2, 3 and 4, in this order
abbrev pub own_refusal : State → ℕ → Option Refused
own_refusal t len =
    cond t.is_open (cond (len == 256) (cond (nat_lt t.number 16777215) None (Some (plain 4))) (Some (plain 3))) (Some (plain 2))

-- and then the store's
unfoldable pub refusal : State → Meaning → Request → ℕ → Option Refused
refusal t m r len = option_or (own_refusal t len) (option_map passed_up (result_err (store_answer r.access t m r.page len)))

-- ---- accept, with a buffer that was given
-- the store after it
abbrev pub store_after : Access → State → Meaning → ℕ → List ℕ → Meaning
store_after Write t m p given = written m p given
store_after Read t m p given = cached_or (λ _. m) (tallied m) (in_cache p t.places.cache)

-- what a write was given; what a read finds in the cache, or else in the store
abbrev pub content : Access → State → Meaning → ℕ → List ℕ → List ℕ
content Write t m p given = given
content Read t m p given = cached_or (λ x. x.bytes) (m.pages p) (in_cache p t.places.cache)

-- from an earlier request to number s, at most 65,535
abbrev pub distance_from : ℕ → Option Entry → Option ℕ
distance_from s None = None
distance_from s (Some e) = Some (min (s - e.number) 65535)

-- a write reports none
abbrev pub distance : Access → ℕ → Option Entry → Option ℕ
distance Write s e = None
distance Read s e = distance_from s e

abbrev pub choice : State → Request → Choice
choice t r = choose t.sizes.cache_places t.tables.closed (entries t.places.cache) r.page r.hints

-- the page with its number and hint set, and as it is cached
abbrev pub new_entry : State → Request → Entry
new_entry t r = record { page = r.page; number = t.number + 1; hints = r.hints }

abbrev pub newcomer : State → Meaning → Request → List ℕ → CachedPage
newcomer t m r given = record {
  entry = new_entry t r;
  bytes = content r.access t m r.page given;
}

-- the request gets the next number
abbrev pub accept : State → Meaning → Request → List ℕ → State
accept t m r given =
    let e = known r.page t.places in
    record {
      is_open = t.is_open;
      sizes = t.sizes;
      number = t.number + 1;
      places = place t.sizes.queue_places (choice t r) (newcomer t m r given) t.places;
      tables = learn t.sizes (t.number + 1) r.page r.hints e (distance r.access (t.number + 1) e) t.tables;
    }

abbrev pub answer : State → Request → Answer
answer t r = record {
  number = t.number + 1;
  decision = decision (choice t r);
  victim = victim (choice t r) (new_entry t r) (entries t.places.cache);
  distance = distance r.access (t.number + 1) (known r.page t.places);
}

-- the answer, the server, the store and the buffer
pub record After : Type 0 where
  pub answer : Result Answer Refused
  pub state : State
  pub store : Meaning
  pub buffer : List ℕ

-- where anything refused, nothing has changed
abbrev pub after : Option Refused → State → Meaning → Request → List ℕ → After
after (Some f) t m r given = record { answer = Err f; state = t; store = m; buffer = given }
after None t m r given = record {
  answer = Ok (answer t r);
  state = accept t m r given;
  store = store_after r.access t m r.page given;
  buffer = content r.access t m r.page given;
}

abbrev pub serve : State → Meaning → Request → List ℕ → After
serve t m r given = after (refusal t m r (length given)) t m r given
