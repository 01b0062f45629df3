-- The cost of the output that was priced last. This project's own.
use Rattle.std.specs.Prelude.{◌≡◌, ℕ}
use Rattle.uc_model.specs.Prelude.{hull_cost}
use Rattle.uc_model.specs.declared.instance.Thermal.{Thermal}
use Rattle.schedule_check.specs.declared.pricing.Known.{Known}

abbrev pub IsKnownOn : ℕ → Thermal → Known → Type 0
IsKnownOn d unit known = known.cost ≡ hull_cost unit.points d known.output
