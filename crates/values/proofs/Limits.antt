-- Sizes that are not refused: they are as given, and within their limits.
use Rattle.std.proofs.Common.{◌≡◌, ℕ, ◌≤◌, Bool, true, false, cond, Ok, Err, Result, sym, ◌∙◌, refl, arith}
use Rattle.std.specs.Result.{result_and}
use Rattle.values.specs.declared.size_numbers.SizeNumbers.{SizeNumbers}
use Rattle.values.specs.declared.sizes.SizeName.{SizeName}
use Rattle.values.specs.declared.sizes.SizeName.TheVariants.{CachePlaces, QueuePlaces, HintRows, PageRows, Window}
use Rattle.values.specs.Sizes.{limited, most, sizes_from}

-- a test that is not refused is passed
ok_passed : (b : Bool) (f : ℕ × ℕ) → ◌≡◌ {A = Result (Unit {0}) (ℕ × ℕ)} (cond b (Ok tt) (Err f)) (Ok tt) → b ≡ true
ok_passed true f e = refl
ok_passed false f e = let z : ◌≡◌ {A = ℕ} 0 1 = cc in absurd (omega arith)

pub record Positive (n : SizeNumbers) : Type 0 where
  pub cache : 1 ≤ n.cache_places
  pub queue : 1 ≤ n.queue_places
  pub hints : 1 ≤ n.hint_rows
  pub pages : 1 ≤ n.page_rows
  pub window : 1 ≤ n.window

pub record Within (n : SizeNumbers) : Type 0 where
  pub cache : n.cache_places ≤ 1024
  pub queue : n.queue_places ≤ 8192
  pub hints : n.hint_rows ≤ 256
  pub pages : n.page_rows ≤ 256
  pub window : n.window ≤ 2048
  pub kept : sizes_from n ≡ Ok n

-- a size that passes its test
passed : (name : SizeName) (size : ℕ) → limited name size ≡ Ok tt → (1 ≤ size) × (size ≤ most name)
passed name size e = grind arith

-- where two answers in a row are no refusal, neither is
both : {Y F : Type 0} (r : Result (Unit {0}) F) (s : Result Y F) (y : Y) → result_and r s ≡ Ok y → (r ≡ Ok tt) × (s ≡ Ok y)
both (Ok x) s y e = (refl, e)
both (Err f) s y e = cc

limits : (n m : SizeNumbers) → sizes_from n ≡ Ok m → Positive n × Within n
limits n m e =
    let a = both (limited CachePlaces n.cache_places) _ m e in
    let b = both (limited QueuePlaces n.queue_places) _ m a.1 in
    let c = both (limited HintRows n.hint_rows) _ m b.1 in
    let d = both (limited PageRows n.page_rows) _ m c.1 in
    let f = both (limited Window n.window) _ m d.1 in
    let cache = passed CachePlaces n.cache_places a.0 in
    let queue = passed QueuePlaces n.queue_places b.0 in
    let hints = passed HintRows n.hint_rows c.0 in
    let pages = passed PageRows n.page_rows d.0 in
    let window = passed Window n.window f.0 in (
      record { cache = cache.0; queue = queue.0; hints = hints.0; pages = pages.0; window = window.0 },
      record {
        cache = cache.1;
        queue = queue.1;
        hints = hints.1;
        pages = pages.1;
        window = window.1;
        kept = e ∙ sym f.1;
      },
    )

pub positive : (n m : SizeNumbers) → sizes_from n ≡ Ok m → Positive n
positive n m e = (limits n m e).0

pub within_limits : (n m : SizeNumbers) → sizes_from n ≡ Ok m → Within n
within_limits n m e = (limits n m e).1
