-- An instance cut to its first periods: those that are decided, when a schedule is made window by window. Source: the
-- rolling horizon of unit commitment, as in Bakirtzis and others, Multiple time resolution unit commitment for short-term
-- operations scheduling under high renewable penetration (IEEE Transactions on Power Systems, 2014).
use Rattle.std.specs.Prelude.{ℕ, take, map}
pub use Rattle.uc_model.specs.declared.instance.Instance.{Instance}
use Rattle.uc_model.specs.declared.instance.Renewable.{Renewable}

-- a renewable unit with its limits in the first n periods
abbrev pub first_limits : ℕ → Renewable → Renewable
first_limits n unit = record unit { minimum = take n unit.minimum; maximum = take n unit.maximum }

-- the first n periods, with their demand, reserves and renewable limits; all else is the instance's
abbrev pub first_periods : ℕ → Instance → Instance
first_periods n instance = record instance {
  periods = n;
  demand = take n instance.demand;
  reserves = take n instance.reserves;
  renewable = map (first_limits n) instance.renewable;
}
