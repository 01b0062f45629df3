-- The trials of commitments, and what a turn makes of the pass.
use Rattle.std.specs.Prelude.{◌≡◌, ℕ, ◌<◌, Bool, true, false, nat_lt, int_lt, List, IsTrue}
use Rattle.uc_model.specs.Prelude.{is_allowed, thermal_count, thermal_unit}
use Rattle.dispatch_repair.specs.Prelude.{commitment_at}
use Rattle.decommitment.specs.DropCommitment.{Instance, Pattern, Printed, Ending, Dispatched, StuckIn}
use Rattle.decommitment.specs.MostOnStuck.{IsMostOnStuck}
pub use Rattle.decommitment.specs.declared.stand.Stand.{Stand}
use Rattle.decommitment.specs.declared.stand.Stand.TheVariants as stand
pub use Rattle.decommitment.specs.declared.stand.Turn.{Turn}
pub use Rattle.decommitment.specs.declared.stand.Trial.{Trial}
use Rattle.decommitment.specs.declared.stand.Trial.TheVariants as trial

-- each unit's pattern is an allowed one
abbrev pub AreAllowed : Instance → List Pattern → Type 0
AreAllowed instance patterns =
    (g : ℕ) → g < thermal_count instance → IsTrue (is_allowed instance.periods (thermal_unit instance g) (commitment_at patterns g))

-- how a trial ended, of which this is the schedule
abbrev pub ending_of_trial : Printed → Trial → Ending
ending_of_trial printed (trial.Dispatched cost) = Dispatched printed cost
ending_of_trial printed (trial.Stuck t) = StuckIn t

-- the same of the commitment that is kept
abbrev pub ending_of_stand : Printed → Stand → Ending
ending_of_stand printed (stand.Dispatched cost) = Dispatched printed cost
ending_of_stand printed (stand.Stuck period most_on) = StuckIn period

-- where it is stuck, so is the most-on commitment
abbrev pub KeepsStuck : Instance → Stand → Type 0
KeepsStuck instance (stand.Dispatched cost) = Unit {0}
KeepsStuck instance (stand.Stuck period most_on) = IsMostOnStuck instance most_on

-- a trial is better than what is kept
abbrev pub beats : Trial → Stand → Bool
beats (trial.Dispatched cost) (stand.Dispatched stood) = int_lt cost stood
beats (trial.Dispatched cost) (stand.Stuck period most_on) = true
beats (trial.Stuck t) (stand.Dispatched stood) = false
beats (trial.Stuck t) (stand.Stuck period most_on) = nat_lt period t

-- what is kept is stuck
abbrev pub IsStuckStand : Stand → Type 0
IsStuckStand (stand.Dispatched cost) = ⊥
IsStuckStand (stand.Stuck period most_on) = Unit {0}

-- it is stuck later now
abbrev pub IsLater : ℕ → Stand → Stand → Type 0
IsLater later (stand.Dispatched cost) after = ⊥
IsLater later (stand.Stuck period most_on) after = after ≡ stand.Stuck later most_on

-- what the better dispatch makes of what was kept: what is known of the most-on commitment stays
abbrev pub IsReplaced : Trial → Stand → Stand → Type 0
IsReplaced (trial.Dispatched cost) former after = after ≡ stand.Dispatched cost
IsReplaced (trial.Stuck t) (stand.Dispatched cost) after = ⊥
IsReplaced (trial.Stuck t) (stand.Stuck period most_on) after = after ≡ stand.Stuck t most_on
