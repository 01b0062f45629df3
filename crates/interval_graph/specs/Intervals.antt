-- What an on-interval of a unit costs: the sum of the terms of its cells, of which the first is a start and the last
-- one is followed by a stop. Source: the interval formulations of single-unit commitment (Frangioni and Gentile, "Solving
-- nonlinear single-unit commitment problems with ramping constraints", 2006), whose arcs are such intervals.
--
-- Periods count from 0 here.
use Rattle.std.specs.Prelude.{◌≡◌, ℕ, suc, ◌+◌, ◌-◌, ◌*◌, ◌<◌, ◌≤◌, Bool, false, ◌==◌, List, [], ℤ, pos, unsigned_abs, length, slice_index_or, unwrap_or, Option, Some, None, IfSome}
use Rattle.uc_model.specs.Prelude.{sum_below, place}
pub use Rattle.uc_model.specs.declared.limits.TheConstants.{MAX_PERIODS}
pub use Rattle.uc_model.specs.declared.limits.TheConstants.{MAX_TERM}

-- the term of a cell in period t, by whether it starts its interval and whether it ends it
abbrev pub term_in : List (List (Option ℤ)) → ℕ → Bool → Bool → Option ℤ
term_in rows t start stop = slice_index_or (slice_index_or rows t []) (place start stop) None

abbrev pub IsThere : Option ℤ → Type 0
IsThere term = (m : ℤ) × (term ≡ Some m)

-- rows of terms: four in each period, within the limits, and one at the full cap
pub record AreTermRows (rows : List (List (Option ℤ))) : Type 0 where
  pub periods : length rows ≤ MAX_PERIODS
  pub size : (t : ℕ) (start stop : Bool) → t < length rows → IfSome (term_in rows t start stop) (λ m. unsigned_abs m ≤ MAX_TERM)
  pub full : (t : ℕ) → t < length rows → IsThere (term_in rows t false false)

-- the term of period t in the interval from a to b, both in it
abbrev pub interval_term : List (List (Option ℤ)) → ℕ → ℕ → ℕ → Option ℤ
interval_term rows a b t = term_in rows t (t == a) (t == b)

-- some cell of the interval has no term
pub record HasNoTerm (rows : List (List (Option ℤ))) (a b : ℕ) : Type 0 where
  pub period : ℕ
  pub after : a ≤ period
  pub within : period ≤ b
  pub none : interval_term rows a b period ≡ None

-- the plain sum of the interval's terms
abbrev pub interval_cost : List (List (Option ℤ)) → ℕ → ℕ → ℤ
interval_cost rows a b = sum_below (suc b - a) (λ i. unwrap_or (interval_term rows a b (a + i)) (pos 0))

-- an interval's cost is at most this in size
abbrev pub MAX_INTERVAL : ℕ
MAX_INTERVAL = MAX_PERIODS * MAX_TERM
