-- A period that was filled, by the sources' amounts and what is missing. This project's own.
use Rattle.std.specs.Prelude.{◌≡◌, ℕ, ◌<◌, List, ℤ, ◌-ℤ◌}
use Rattle.uc_model.specs.Prelude.{IsPower, thermal_count}
use Rattle.dispatch_repair.specs.Period.{Period}
use Rattle.dispatch_repair.specs.Shortage.{served, shed_of, short_of}
use Rattle.dispatch_repair.specs.MeritOrder.{IsInMeritOrder}
use Rattle.dispatch_repair.specs.Amounts.{amount_of, thermal_amount, AreHeadsOf, IsSizedOutput}
pub use Rattle.dispatch_repair.specs.declared.shortage.Shortage.{Shortage}

-- what is missing in the period
pub record AreShortages (period : Period) (shortage : Shortage) : Type 0 where
  pub shed : shortage.shed ≡ shed_of period
  pub short : shortage.short ≡ short_of period

-- the period as it is served
abbrev pub served_by : Period → Shortage → Period
served_by period shortage = served period shortage.shed shortage.short

-- the amounts are in order of merit for what is served, and the heads the units'
pub record IsDispatchedFrom (period : Period) (shortage : Shortage) (amounts numbers : List ℤ) : Type 0 where
  pub shortages : AreShortages period shortage
  pub merit : IsInMeritOrder (served_by period shortage) (amount_of period.instance amounts)
  pub heads : AreHeadsOf period numbers
  pub sizes : (g : ℕ) → g < thermal_count period.instance → IsSizedOutput (thermal_amount period.instance amounts g)
  pub kept : IsPower (period.need -ℤ shortage.short)
