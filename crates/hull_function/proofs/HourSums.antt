-- What an hour adds to costs by output, as its steps are taken: each is within the limits of values.
use Rattle.std.proofs.Common.{◌≡◌, ℕ, lit<, ◌+◌, ◌*◌, ◌≤◌, sym, ap, subst, ◌∙◌, arith, ℤ, pos, ◌+ℤ◌, ◌-ℤ◌, ◌*ℤ◌, neg_ℤ, ◌≤ℤ◌, to_z, of_z, unsigned_abs}
use Rattle.std.specs.Int.{w64, w128, int_max, int_min}
use Rattle.std.proofs.lemmas.Int.{ints, clamps}
use Rattle.uc_model.specs.Prelude.{IsLimit}
use Rattle.uc_model.proofs.Common.{linear, mul-sub, abs_mul, narrow}
use Rattle.step_functions.specs.Functions.{Steps, IsPlace, IsSmall, last_place, shortfall, value_at}
use Rattle.hull_function.specs.Hulls.{IsBounded, IsHullFunction}
use Rattle.hull_function.specs.Hours.{Hour, IsNear, IsSizedHour, MAX_OUTPUT_COST, MAX_RESERVE, MAX_RUN}
use Rattle.hull_function.specs.Problems.{MAX_POWER, MAX_PRICE}
use Rattle.hull_function.proofs.Represented.{SamePlaces, place_from}

-- what output costs at most beside L
abbrev MAX_OUTPUT : ℕ
MAX_OUTPUT = 2 * MAX_PRICE * (2 * MAX_POWER)

module _ (hour : Hour) (sized : IsSizedHour hour) where
  worth-size : unsigned_abs hour.worth ≤ MAX_PRICE
  worth-size =
      let low = sized.worth.0 in
      let high = sized.worth.1 in
      omega (arith, ints)

  pub cap-size : unsigned_abs (hour.worth *ℤ hour.cap) ≤ MAX_RESERVE
  cap-size =
      let product = abs_mul hour.worth hour.cap MAX_PRICE MAX_POWER worth-size sized.cap in
      omega (arith, product)

  output-size : (p : ℤ) → unsigned_abs p ≤ 2 * MAX_POWER → unsigned_abs (hour.price *ℤ p) ≤ MAX_OUTPUT
  output-size p h = abs_mul hour.price p (2 * MAX_PRICE) (2 * MAX_POWER) sized.price h

  module _ (up : ℤ) (limit : IsLimit up) where
    shortfall-size : (p : ℤ) → unsigned_abs p ≤ 4 * MAX_POWER → unsigned_abs (hour.worth *ℤ shortfall (hour.cap -ℤ up) p) ≤ MAX_RESERVE
    shortfall-size p h =
        abs_mul hour.worth (shortfall (hour.cap -ℤ up) p) MAX_PRICE (6 * MAX_POWER) worth-size (short_size hour.cap up p sized.cap limit.power h)
      where
        short_size : (most up p : ℤ) → unsigned_abs most ≤ MAX_POWER → unsigned_abs up ≤ MAX_POWER → unsigned_abs p ≤ 4 * MAX_POWER
            → unsigned_abs (int_max (most -ℤ up -ℤ p) (pos 0)) ≤ 6 * MAX_POWER
        short_size most up p a b c = omega (arith, ints, clamps)

    -- ---- reserve: all that the cap gives, less what the output before leaves of it
    reserve-is : (worth most p : ℤ) → worth *ℤ shortfall (most -ℤ up) p -ℤ worth *ℤ most ≡ neg_ℤ (worth *ℤ int_min most (p +ℤ up))
    reserve-is worth most p =
        let least = least_is most up p in
        let product = mul-sub worth most (shortfall (most -ℤ up) p) in
        let same : worth *ℤ int_min most (p +ℤ up) ≡ worth *ℤ (most -ℤ shortfall (most -ℤ up) p) = λ i. worth *ℤ least i in
        omega (arith, linear, product, same)
      where
        least_is : (most up p : ℤ) → int_min most (p +ℤ up) ≡ most -ℤ int_max (most -ℤ up -ℤ p) (pos 0)
        least_is most up p = omega (arith, ints, clamps)

    module _ (f short : Steps) (near : IsNear 4 f) (small : IsBounded f MAX_RUN) where
      pub short-small : (p : ℤ) → IsPlace f p → IsSmall (value_at f p +ℤ hour.worth *ℤ shortfall (hour.cap -ℤ up) p)
      short-small p place =
          let old = small p place in
          let more = shortfall-size p (near p place) in
          omega (arith, ints, old, more)

      module _ (same : SamePlaces f short)
          (value : (p : ℤ) → IsPlace short p → value_at short p ≡ value_at f p +ℤ hour.worth *ℤ shortfall (hour.cap -ℤ up) p) where
        pub reserve-small : (p : ℤ) → IsPlace short p → IsSmall (value_at short p +ℤ neg_ℤ (hour.worth *ℤ hour.cap))
        reserve-small p place =
            let own = place_from f short p same place in
            let old = small p own in
            let more = shortfall-size p (near p own) in
            let most = cap-size in
            let is = value p place in
            omega (arith, ints, old, more, most, is)

        pub reserve-value : (g : Steps) → SamePlaces short g
            → ((p : ℤ) → IsPlace g p → value_at g p ≡ value_at short p +ℤ neg_ℤ (hour.worth *ℤ hour.cap))
            → (p : ℤ) → IsPlace g p → value_at g p ≡ value_at f p +ℤ neg_ℤ (hour.worth *ℤ int_min hour.cap (p +ℤ up))
        reserve-value g again more p place =
            let first = more p place in
            let second = value p (place_from short g p again place) in
            let sum = reserve-is hour.worth hour.cap p in
            omega (arith, linear, first, second, sum)

    reserve-size : (p : ℤ) → unsigned_abs p ≤ 4 * MAX_POWER → unsigned_abs (neg_ℤ (hour.worth *ℤ int_min hour.cap (p +ℤ up))) ≤ MAX_RESERVE
    reserve-size p h =
        let least = min_size hour.cap up p sized.cap limit.power h in
        let product = abs_mul hour.worth (int_min hour.cap (p +ℤ up)) MAX_PRICE (6 * MAX_POWER) worth-size least in
        omega (arith, ints, product)
      where
        min_size : (most up p : ℤ) → unsigned_abs most ≤ MAX_POWER → unsigned_abs up ≤ MAX_POWER → unsigned_abs p ≤ 4 * MAX_POWER
            → unsigned_abs (int_min most (p +ℤ up)) ≤ 6 * MAX_POWER
        min_size most up p a b c = omega (arith, ints, clamps)

    pub reserve-bounded : (f g : Steps) (size : ℕ) → IsNear 4 f → SamePlaces f g
        → ((p : ℤ) → IsPlace g p → value_at g p ≡ value_at f p +ℤ neg_ℤ (hour.worth *ℤ int_min hour.cap (p +ℤ up)))
        → IsBounded f size → IsBounded g (size + MAX_RESERVE)
    reserve-bounded f g size near same value small p place =
        let own = place_from f g p same place in
        let is = value p place in
        let old = small p own in
        let more = reserve-size p (near p own) in
        omega (arith, ints, is, old, more)

  -- ---- output
  -- a function on places of the hull
  module _ (f hull : Steps) (is_hull : IsHullFunction hull) (low : pos 0 ≤ℤ f.first) (high : last_place f ≤ℤ last_place hull) where
    hull-place : (p : ℤ) → IsPlace f p → IsPlace hull p
    hull-place p place =
        let begins = place.low in
        let ends = place.high in
        let first = is_hull.first in
        record { low = omega (arith, linear, first, low, begins); high = omega (arith, linear, ends, high) }

    pub near-hull : IsNear 2 f
    near-hull p place =
        let begins = place.low in
        let ends = place.high in
        let wide = is_hull.last.1 in
        between f.first p (last_place f) (last_place hull) low begins ends high wide
      where
        between : (a p b w : ℤ) → pos 0 ≤ℤ a → a ≤ℤ p → p ≤ℤ b → b ≤ℤ w → w ≤ℤ pos (2 * MAX_POWER) → unsigned_abs p ≤ 2 * MAX_POWER
        between a p b w zero low high most wide = omega (arith, ints)

    -- with the hull's values added, and then a slope and a constant
    pub output-bounded : (g : Steps) (size : ℕ) → SamePlaces f g
        → ((p : ℤ) → IsPlace g p → value_at g p ≡ value_at f p +ℤ value_at hull p +ℤ hour.price *ℤ p +ℤ hour.fixed)
        → IsBounded f size → IsBounded g (size + MAX_OUTPUT_COST)
    output-bounded g size same value small p place =
        let own = place_from f g p same place in
        let is = value p place in
        let old = small p own in
        let at_hull = is_hull.size p (hull-place p own) in
        let more = output-size p (near-hull p own) in
        let fixed = sized.fixed in
        omega (arith, ints, is, old, at_hull, more, fixed)

    module _ (small : IsBounded f MAX_RUN) (sum : Steps) (places : SamePlaces f sum)
        (value : (p : ℤ) → IsPlace sum p → value_at sum p ≡ value_at f p +ℤ value_at hull p) where
      pub slope-small : (p : ℤ) → IsPlace sum p → IsSmall (value_at sum p +ℤ hour.price *ℤ p)
      slope-small p place =
          let own = place_from f sum p places place in
          let is = value p place in
          let old = small p own in
          let at_hull = is_hull.size p (hull-place p own) in
          let more = output-size p (near-hull p own) in
          omega (arith, ints, is, old, at_hull, more)

      module _ (sloped : Steps) (same : SamePlaces sum sloped)
          (slope : (p : ℤ) → IsPlace sloped p → value_at sloped p ≡ value_at sum p +ℤ hour.price *ℤ p) where
        pub fixed-small : (p : ℤ) → IsPlace sloped p → IsSmall (value_at sloped p +ℤ hour.fixed)
        fixed-small p place =
            let there = place_from sum sloped p same place in
            let own = place_from f sum p places there in
            let first = value p there in
            let second = slope p place in
            let old = small p own in
            let at_hull = is_hull.size p (hull-place p own) in
            let more = output-size p (near-hull p own) in
            let fixed = sized.fixed in
            omega (arith, ints, first, second, old, at_hull, more, fixed)

        pub output-value : (g : Steps) → SamePlaces sloped g → ((p : ℤ) → IsPlace g p → value_at g p ≡ value_at sloped p +ℤ hour.fixed)
            → (p : ℤ) → IsPlace g p → value_at g p ≡ value_at f p +ℤ value_at hull p +ℤ hour.price *ℤ p +ℤ hour.fixed
        output-value g again more p place =
            let there = place_from sloped g p again place in
            let first = more p place in
            let second = slope p there in
            let third = value p (place_from sum sloped p same there) in
            omega (arith, linear, first, second, third)

-- ---- numbers as their bits
pub limit-is : (z : ℤ) → IsLimit z → to_z w64 (of_z w64 z) ≡ z
limit-is z limit = narrow z MAX_POWER limit.power (lit< tt)

pub limit-bits : (z : ℤ) → IsLimit z → IsLimit (to_z w64 (of_z w64 z))
limit-bits z limit = subst IsLimit (sym (limit-is z limit)) limit

-- the places of the sum with a function that reaches further
pub sum-places : (f hull g : Steps) → hull.first ≡ pos 0 → pos 0 ≤ℤ f.first → last_place f ≤ℤ last_place hull
    → g.first ≡ int_max f.first hull.first → last_place g ≡ int_min (last_place f) (last_place hull) → SamePlaces f g
sum-places f hull g zero low high first last = grind (arith, ints, low, high, last)

wide_is : (z r : ℤ) → unsigned_abs z ≤ 2 * MAX_PRICE → r ≡ to_z w64 (of_z w64 z) → to_z w128 (of_z w128 r) ≡ z
wide_is z r h e = omega (arith, ints)

module _ (hour : Hour) (sized : IsSizedHour hour) where
  worth-small : unsigned_abs hour.worth ≤ 2 * MAX_PRICE
  worth-small =
      let low = sized.worth.0 in
      let high = sized.worth.1 in
      omega (arith, ints)

  pub worth-wide : (r : ℤ) → r ≡ to_z w64 (of_z w64 hour.worth) → to_z w128 (of_z w128 r) ≡ hour.worth
  worth-wide r e = wide_is hour.worth r worth-small e

  pub price-wide : (r : ℤ) → r ≡ to_z w64 (of_z w64 hour.price) → to_z w128 (of_z w128 r) ≡ hour.price
  price-wide r e = wide_is hour.price r sized.price e

  pub place-is : (up : ℤ) → IsLimit up → to_z w64 (of_z w64 (to_z w64 (of_z w64 hour.cap) -ℤ to_z w64 (of_z w64 up))) ≡ hour.cap -ℤ up
  place-is up limit =
      let most = sized.cap in
      let low = limit.low in
      let high = limit.power in
      omega (arith, ints)

  pub earned-is : (a b : ℤ) → a ≡ to_z w64 (of_z w64 hour.worth) → b ≡ to_z w64 (of_z w64 hour.cap)
      → to_z w128 (of_z w128 a) *ℤ to_z w128 (of_z w128 b) ≡ hour.worth *ℤ hour.cap
  earned-is a b e d =
      let worth = worth-wide a e in
      let most = wide_is hour.cap b (let cap = sized.cap in omega (arith, cap)) d in
      λ i. worth i *ℤ most i

  pub constant-is : (a b : ℤ) → a ≡ to_z w64 (of_z w64 hour.worth) → b ≡ to_z w64 (of_z w64 hour.cap)
      → to_z w128 (of_z w128 (pos 0 -ℤ to_z w128 (of_z w128 (to_z w128 (of_z w128 a) *ℤ to_z w128 (of_z w128 b))))) ≡ neg_ℤ (hour.worth *ℤ hour.cap)
  constant-is a b e d =
      ap (λ z. to_z w128 (of_z w128 (pos 0 -ℤ to_z w128 (of_z w128 z)))) (earned-is a b e d) ∙ turned (hour.worth *ℤ hour.cap) (cap-size hour sized)
    where
      turned : (z : ℤ) → unsigned_abs z ≤ MAX_RESERVE → to_z w128 (of_z w128 (pos 0 -ℤ to_z w128 (of_z w128 z))) ≡ neg_ℤ z
      turned z h = omega (arith, ints)
