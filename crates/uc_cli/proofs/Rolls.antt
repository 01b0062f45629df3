-- How the ends of a run of `roll` follow from its steps: reading and rolling (from the files f to g), and the report.
use Rattle.std.proofs.Common.{◌≡◌, ℕ, true, Option, None, sym, subst, ap, refl}
use Rattle.outside.specs.declared.slot.Slot.TheVariants as slot
use Rattle.outside.specs.Prelude.{SlotState, SameBut, SinkState}
use Rattle.command_line.specs.Command.{Roll}
use Rattle.command_runs.specs.Prelude.{outside_of, HasCause}
use Rattle.uc_cli.specs.RollRun.{Fault, Instance, Rolled, Slot, Write, roll_options, IsRollAnswer, IsRollDone, IsRollFailure}
use Rattle.uc_cli.specs.inside.Rolls.{IsToldRoll, IsUntoldRoll}

-- a fault before anything was written
pub stopped : (asked : Roll) (f g : Slot → SlotState) (out err_old err_new : SinkState) (fault : Fault)
    → HasCause (roll_options asked) (f slot.Instance) (g slot.Instance) fault
    → IsRollFailure asked (outside_of f out err_old) (outside_of g out err_new) fault None
stopped asked f g out err_old err_new (Write _) cause = absurd cause
stopped asked f g out err_old err_new fault cause = record { cause = cause; out = refl }

-- reading counts no fault on the other slots
calm_each : (f g : Slot → SlotState) → SameBut slot.Instance f g → (g slot.Instance).faults ≡ (f slot.Instance).faults
    → (s : Slot) → (g s).faults ≡ (f s).faults
calm_each f g same read slot.Instance = read
calm_each f g same read slot.CertIn = ap (λ (s : SlotState). s.faults) (same slot.CertIn (λ e. cc))
calm_each f g same read slot.CertOut = ap (λ (s : SlotState). s.faults) (same slot.CertOut (λ e. cc))

pub done : (asked : Roll) (f g : Slot → SlotState) (before after err_old err_new : SinkState) (instance : Instance) (rounded : ℕ) (rolled left : Rolled)
    → IsRollAnswer asked (f slot.Instance) instance rounded rolled → SameBut slot.Instance f g
    → (g slot.Instance).faults ≡ (f slot.Instance).faults → IsToldRoll instance rounded rolled before after left
    → IsRollDone asked (outside_of f before err_old) (outside_of g after err_new) left
done asked f g before after err_old err_new instance rounded rolled left answer same calm is =
    subst (IsRollDone asked (outside_of f before err_old) (outside_of g after err_new)) (sym is.same)
    (record {
      has = record { instance = instance; rounded = rounded; answer = answer };
      told = is.told;
      calm = calm_each f g same calm;
    })

pub untold : (asked : Roll) (f g : Slot → SlotState) (before after err_old err_new : SinkState) (instance : Instance) (rounded : ℕ) (rolled : Rolled)
    (fault : Fault) (left : Option Rolled) → IsRollAnswer asked (f slot.Instance) instance rounded rolled
    → IsUntoldRoll instance rounded rolled before after fault left
    → IsRollFailure asked (outside_of f before err_old) (outside_of g after err_new) fault left
untold asked f g before after err_old err_new instance rounded rolled fault left answer is =
    let before_all = outside_of f before err_old in
    let after_all = outside_of g after err_new in
    subst (λ fault. IsRollFailure asked before_all after_all fault left) (sym is.is_fault)
    (subst (IsRollFailure asked before_all after_all (Write true)) (sym is.same)
    (record { has = record { instance = instance; rounded = rounded; answer = answer }; report = is.report }))
