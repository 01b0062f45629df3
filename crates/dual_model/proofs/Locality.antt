-- A unit's rules and costs depend on its commitment in the periods of the instance alone.
use Rattle.std.proofs.Common.{◌≡◌, ℕ, zero, suc, ◌-◌, ◌<◌, ◌≤◌, Bool, true, false, not, ◌&&◌, ◌||◌, cond, refl, ap, arith, List, [], ◌∷◌, pos, nat_lt, int_le, min, max, ◌==◌, ltb-false}
use Rattle.std.specs.List.{list_all}
use Rattle.uc_model.specs.Prelude.{all_below, Commitment, was_on, starts, stops, keeps_minimum_at, cap, is_allowed_at, is_allowed, initial_stop_holds, last_stop, sigma, is_category_allowed}
use Rattle.uc_model.specs.declared.instance.Thermal.{Thermal}
use Rattle.uc_model.proofs.Common.{sum_below-same}
use Rattle.dual_model.specs.Prelude.{Fixing, keeps, keeps_of}

-- the commitments are the same in the periods below n
pub record SameBelow (n : ℕ) (first second : Commitment) : Type 0 where
  pub same : (t : ℕ) → t < n → first t ≡ second t

or_same : (b x y : Bool) → (b ≡ false → x ≡ y) → (b || x) ≡ (b || y)
or_same true x y h = refl
or_same false x y h = h refl

pub all_below-same : (n : ℕ) (f g : ℕ → Bool) → ((k : ℕ) → k < n → f k ≡ g k) → all_below n f ≡ all_below n g
all_below-same zero f g e = refl
all_below-same (suc n) f g e = λ i. e n (omega arith) i && all_below-same n f g (λ k h. e k (omega arith)) i

was_on-same : (n : ℕ) (unit : Thermal) (on other : Commitment) → SameBelow n on other → (t : ℕ) → t ≤ n
    → was_on unit on t ≡ was_on unit other t
was_on-same n unit on other h zero l = refl
was_on-same n unit on other h (suc t) l = h.same t (omega arith)

pub starts-same : (n : ℕ) (unit : Thermal) (on other : Commitment) → SameBelow n on other → (t : ℕ) → t < n
    → starts unit on t ≡ starts unit other t
starts-same n unit on other h t l = λ i. not (was_on-same n unit on other h t (omega arith) i) && h.same t l i

pub stops-same : (n : ℕ) (unit : Thermal) (on other : Commitment) → SameBelow n on other → (t : ℕ) → t < n
    → stops unit on t ≡ stops unit other t
stops-same n unit on other h t l = λ i. was_on-same n unit on other h t (omega arith) i && not (h.same t l i)

pub keeps_minimum-same : (n window : ℕ) (changes changes' state state' : Commitment) → SameBelow n changes changes'
    → SameBelow n state state' → (t : ℕ) → t < n
    → keeps_minimum_at window changes state t ≡ keeps_minimum_at window changes' state' t
keeps_minimum-same n window changes changes' state state' hc hs t l = grind (arith, or_same, ltb-false, sum_below-same, int_le, hc, hs, l)

pub cap-same : (periods : ℕ) (unit : Thermal) (on other : Commitment) → SameBelow periods on other → (t : ℕ) → t < periods
    → cap periods unit on t ≡ cap periods unit other t
cap-same periods unit on other h t l = grind (arith, h, l)

allowed_at-same : (periods : ℕ) (unit : Thermal) (on other : Commitment) → SameBelow periods on other → (t : ℕ) → t < periods
    → is_allowed_at periods unit on t ≡ is_allowed_at periods unit other t
allowed_at-same periods unit on other h t l =
    let here = h.same t l in
    let started = keeps_minimum-same periods (min unit.ut periods) (starts unit on) (starts unit other) on other
    (record { same = starts-same periods unit on other h }) h t l in
    let stopped = keeps_minimum-same periods (min unit.dt periods) (stops unit on) (stops unit other)
    (λ k. not (on k)) (λ k. not (other k))
    (record { same = stops-same periods unit on other h }) (record { same = λ k m. ap not (h.same k m) }) t l in
    let room = cap-same periods unit on other h t l in
    λ i. (not unit.must_run || here i) && (not (unit.on0 && nat_lt t (unit.ut - unit.ut0)) || here i)
    && (not (not unit.on0 && nat_lt t (unit.dt - unit.dt0)) || not (here i))
    && started i && stopped i && (not (here i) || int_le (pos 0) (room i))

pub initial_stop-same : (periods : ℕ) (unit : Thermal) (on other : Commitment) → SameBelow periods on other → 0 < periods
    → initial_stop_holds unit on ≡ initial_stop_holds unit other
initial_stop-same periods unit on other h some = grind (arith, h, some)

-- the same patterns are allowed
pub is_allowed-same : (periods : ℕ) (unit : Thermal) (on other : Commitment) → 0 < periods → SameBelow periods on other
    → is_allowed periods unit on ≡ is_allowed periods unit other
is_allowed-same periods unit on other some h = grind (arith, initial_stop-same, all_below-same, allowed_at-same, some, h)

last_stop-same : (n : ℕ) (unit : Thermal) (on other : Commitment) → SameBelow n on other → (t : ℕ) → t ≤ n
    → last_stop unit on t ≡ last_stop unit other t
last_stop-same n unit on other h zero l = refl
last_stop-same n unit on other h (suc t) l = grind (arith, h, l, (last_stop-same n unit on other h t (omega arith)))

-- a start costs the same by the last stop
pub sigma-same : (n : ℕ) (unit : Thermal) (on other : Commitment) → SameBelow n on other → (t : ℕ) → t ≤ n
    → sigma unit (last_stop unit on t) t ≡ sigma unit (last_stop unit other t) t
sigma-same n unit on other h t l = ap (λ last. sigma unit last t) (last_stop-same n unit on other h t l)

-- a start may use the same categories
pub category_allowed-same : (n : ℕ) (unit : Thermal) (on other : Commitment) → SameBelow n on other → (s t : ℕ) → t < n
    → is_category_allowed unit on s t ≡ is_category_allowed unit other s t
category_allowed-same n unit on other h zero t l = refl
category_allowed-same n unit on other h (suc s) t l = grind (arith, h, l)

-- ---- fixings
-- one more than the last period of which the fixings speak
abbrev pub fixed_below : List Fixing → ℕ
fixed_below [] = 0
fixed_below (fixing ∷ fixings) = max (suc fixing.t) (fixed_below fixings)

keeps-same : (n : ℕ) (on other : Commitment) (fixing : Fixing) → SameBelow n on other → fixing.t < n → keeps fixing on ≡ keeps fixing other
keeps-same n on other fixing h l = λ i. cond fixing.on (h.same fixing.t l i) (not (h.same fixing.t l i))

-- the same fixings are kept
pub kept-same : (n g : ℕ) (on other : Commitment) → SameBelow n on other → (fixings : List Fixing) → fixed_below fixings ≤ n
    → list_all (keeps_of g on) fixings ≡ list_all (keeps_of g other) fixings
kept-same n g on other h [] l = refl
kept-same n g on other h (fixing ∷ fixings) l =
    λ i. (not (fixing.g == g) || keeps-same n on other fixing h (omega arith) i)
    && kept-same n g on other h fixings (omega arith) i
