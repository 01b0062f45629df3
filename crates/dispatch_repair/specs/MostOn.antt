-- The most-on commitment: for each thermal unit the allowed pattern with the most on periods. This project's own starting
-- point of a schedule, over the allowed patterns of the reference model by Knueven, Ostrowski and Watson.
--
-- Units and periods count from 0 here.
use Rattle.std.specs.Prelude.{◌≡◌, ℕ, ◌<◌, ◌≤◌, false, List, length, slice_index_or, ⊤}
use Rattle.uc_model.specs.Prelude.{commitment_of, IsMostOn, HasNoAllowedPattern, thermal_unit, thermal_count}
pub use Rattle.uc_model.specs.declared.instance.Instance.{Instance}
pub use Rattle.uc_model.specs.declared.pattern.Pattern.{Pattern}
use Rattle.dispatch_repair.specs.declared.most_on_commitment.MostFault.{MostFault}
use Rattle.dispatch_repair.specs.declared.most_on_commitment.MostFault.TheVariants.{Empty, NoMemory}

-- the pattern has no bit at or past this period
abbrev pub IsOffFrom : ℕ → Pattern → Type 0
IsOffFrom periods pattern = (t : ℕ) → periods ≤ t → commitment_of pattern t ≡ false

-- unit g's pattern has the most on periods
pub record IsMostOnOf (instance : Instance) (g : ℕ) (pattern : Pattern) : Type 0 where
  pub most : IsMostOn instance.periods (thermal_unit instance g) (commitment_of pattern)
  pub off : IsOffFrom instance.periods pattern

-- for each unit its pattern with the most on periods
pub record AreMostOn (instance : Instance) (patterns : List Pattern) : Type 0 where
  pub count : length patterns ≡ thermal_count instance
  pub each : (g : ℕ) → g < thermal_count instance → IsMostOnOf instance g (slice_index_or patterns g (record { low = 0; high = 0 }))

-- unit g is the first of the instance that has no allowed pattern
pub record IsFirstWithoutPattern (instance : Instance) (g : ℕ) : Type 0 where
  pub within : g < thermal_count instance
  pub empty : HasNoAllowedPattern instance.periods (thermal_unit instance g)
  pub first : (earlier : ℕ) → earlier < g → ¬ HasNoAllowedPattern instance.periods (thermal_unit instance earlier)

-- why there is no most-on commitment
abbrev pub IsMostFault : Instance → MostFault → Type 0
IsMostFault instance (Empty g) = IsFirstWithoutPattern instance g
IsMostFault instance NoMemory = ⊤
