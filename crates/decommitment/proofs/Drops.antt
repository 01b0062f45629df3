-- The turns of the drop pass.
use Rattle.std.proofs.Common.{◌≡◌, ◌⊎◌, ◌∙◌, ⊎_elim, ℕ, ◌<◌, zero, suc, false, true, List, get_or, get_or-set_other, get_or-set_same, set, length, inl, inr, refl, sym, subst, ap, arith, ℤ, IsTrue, int_lt, ◌≤◌, unsigned_abs}
use Rattle.std.proofs.lemmas.Bool.{cases_Bool, cases_eq}
use Rattle.std.proofs.lemmas.List.{set-get_or}
use Rattle.uc_model.proofs.Common.{printed_cost-fits, watts-factor, linear, int_lt-true}
use Rattle.uc_model.specs.Prelude.{is_allowed, IsLawfulInstance, commitment_of, cell_at, printed_cost, printed_denominator, thermal_count, thermal_unit}
use Rattle.uc_model.specs.declared.limits.TheConstants.{COST_MAX}
use Rattle.schedule_check.specs.Accepted.{IsAccepted}
use Rattle.schedule_check.specs.WholeWatts.{HasPrice}
use Rattle.schedule_check.proofs.Priced.{priced}
use Rattle.dispatch_repair.specs.Prelude.{HasPeriods, IsObstacleOf, IsDispatchOf}
use Rattle.dispatch_repair.proofs.Obeying.{obeying}
use Rattle.dispatch_repair.specs.declared.schedule.Obstacle.{Obstacle}
use Rattle.dispatch_repair.proofs.Periods.{stuck_of}
use Rattle.dispatch_repair.proofs.Plain.{plain}
use Rattle.dispatch_repair.proofs.Regular.{regular}
use Rattle.dispatch_repair.proofs.RowsEdits.{cut_at, cut_stuck}
use Rattle.decommitment.specs.DropCommitment.{Instance, Pattern, Printed, Ending, Dispatched, StuckIn, IsDropPass, IsEndingOf, IsFewestOnOf, IsStuckIn, IsTaken, is_better}
use Rattle.decommitment.specs.declared.stand.Stand.TheVariants as stand
use Rattle.decommitment.specs.declared.stand.Trial.TheVariants as trial
use Rattle.decommitment.specs.inside.Turns.{Stand, Trial, AreAllowed, beats, ending_of_stand, ending_of_trial, IsReplaced, KeepsStuck}

-- ---- allowed patterns
pub allowed_set : (instance : Instance) (patterns : List Pattern) (g : ℕ) (fewest : Pattern) → length patterns ≡ thermal_count instance
    → AreAllowed instance patterns → IsFewestOnOf instance g fewest → AreAllowed instance (set patterns g fewest)
allowed_set instance patterns g fewest count are few h within = elim (cases_eq h g) [
  | inl same ↦ subst (λ k. IsAllowedAt k (get_or (set patterns g fewest) k none)) (sym same)
      (subst (IsAllowedAt g) (sym (get_or-set_same patterns g fewest none (subst (λ k. k < length patterns) same (omega (arith, within, count))))) few.fewest.allowed)
  | inr apart ↦ subst (IsAllowedAt h) (sym (get_or-set_other patterns g h fewest none apart)) (are h within)
]
  where
    none : Pattern
    none = record { low = 0; high = 0 }

    IsAllowedAt : ℕ → Pattern → Type 0
    IsAllowedAt k pattern = IsTrue (is_allowed instance.periods (thermal_unit instance k) (commitment_of pattern))

-- ---- a dispatch is accepted
pub accepted : (instance : Instance) (patterns : List Pattern) (printed : Printed) (cost : ℤ) → IsLawfulInstance instance
    → IsDispatchOf instance patterns printed → cost ≡ printed_cost instance printed → IsAccepted instance printed cost
accepted instance patterns printed cost lawful is cost_is =
    let obeys = obeying instance patterns printed lawful is.regular is.periods in
    let shape = is.periods.shape in
    let factor = watts-factor instance printed in
    record {
      shape = record {
        thermal = shape.thermal;
        cells = shape.cells;
        renewable = shape.renewable;
        outputs = shape.outputs;
        shed = shape.shed;
        short = shape.short;
        denominator = (omega (arith, shape.whole), omega (arith, shape.whole));
      };
      obeys = obeys;
      cost_is = cost_is;
      numbers = plain instance patterns instance.periods printed lawful (omega arith) is.periods;
      whole = shape.whole;
      size = subst (λ z. unsigned_abs z ≤ COST_MAX) (sym cost_is) (printed_cost-fits instance printed (printed_denominator instance printed) factor.0 lawful factor.1 obeys);
    }

-- and its cells can be priced
pub dispatch_prices : (instance : Instance) (patterns : List Pattern) (printed : Printed) → IsLawfulInstance instance → IsDispatchOf instance patterns printed
    → (g t : ℕ) → g < thermal_count instance → t < instance.periods → HasPrice (thermal_unit instance g) (cell_at printed g t)
dispatch_prices instance patterns printed lawful is = priced instance printed lawful is.periods.shape.whole (obeying instance patterns printed lawful is.regular is.periods)

-- where something is in the way the commitment is stuck
pub stuck_in : (instance : Instance) (patterns : List Pattern) (printed : Printed) (obstacle : Obstacle) → AreAllowed instance patterns
    → HasPeriods instance instance.periods printed → IsObstacleOf instance patterns printed obstacle → IsStuckIn instance patterns obstacle.period
stuck_in instance patterns printed obstacle allowed shape is = record {
  stuck = record { period = obstacle.period; prefix = cut_at obstacle.period printed; why = obstacle.why };
  stuck_by = stuck_of instance patterns printed obstacle _ (regular instance patterns allowed) shape is (cut_stuck printed obstacle);
  period = refl;
}

-- ---- a turn
-- a number isn't below itself
int_not_below : (z : ℤ) → int_lt z z ≡ false
int_not_below z = ⊎_elim (λ (e : int_lt z z ≡ true). absurd (omega (arith, linear, int_lt-true z z e))) (λ (e : int_lt z z ≡ false). e) (cases_Bool (int_lt z z))

-- no ending is better than itself
not_better : (ending : Ending) → is_better ending ending ≡ false
not_better (Dispatched printed cost) = int_not_below cost
not_better (StuckIn t) = grind (arith, linear, t)

-- an ending of each commitment that a pass has come to
pub ending_is : (instance : Instance) (n : ℕ) (patterns : List Pattern) (ending : Ending) → IsDropPass instance n patterns ending
    → IsEndingOf instance patterns ending
ending_is instance zero patterns ending passed = passed.1
ending_is instance (suc n) patterns ending passed = grind (arith, linear, passed, (ending_is instance n passed.former passed.stood passed.before))

-- a turn more
pub passed_turn : (instance : Instance) (g : ℕ) (former patterns : List Pattern) (stood ending tried : Ending) (fewest : Pattern)
    → IsDropPass instance g former stood → IsFewestOnOf instance g fewest → IsEndingOf instance (set former g fewest) tried
    → (IsTrue (is_better tried stood) × IsTaken (set former g fewest) patterns tried ending)
    ⊎ ((is_better tried stood ≡ false) × IsTaken former patterns stood ending)
    → IsDropPass instance (suc g) patterns ending
passed_turn instance g former patterns stood ending tried fewest before few is taken = grind (arith, linear, before, few, is, taken)

-- the unit has its pattern with the fewest on periods already, so that it is tried with no change
pub passed_spared : (instance : Instance) (g : ℕ) (patterns : List Pattern) (ending : Ending) (fewest : Pattern)
    → IsDropPass instance g patterns ending → IsFewestOnOf instance g fewest → fewest ≡ get_or patterns g fewest
    → IsDropPass instance (suc g) patterns ending
passed_spared instance g patterns ending fewest h few same =
    let unchanged : set patterns g fewest ≡ patterns = ap (set patterns g) same ∙ set-get_or patterns g fewest in
    passed_turn instance g patterns patterns ending ending ending fewest h few
    (subst (λ p. IsEndingOf instance p ending) (sym unchanged) (ending_is instance g patterns ending h))
    (inr (not_better ending, record { commitment = refl; end = refl }))

-- a trial that is better is so by its ending
pub beats_is : (tried kept : Printed) (t : Trial) (s : Stand) → is_better (ending_of_trial tried t) (ending_of_stand kept s) ≡ beats t s
beats_is tried kept (trial.Dispatched cost) (stand.Dispatched stood) = refl
beats_is tried kept (trial.Dispatched cost) (stand.Stuck period most_on) = refl
beats_is tried kept (trial.Stuck t) (stand.Dispatched stood) = refl
beats_is tried kept (trial.Stuck t) (stand.Stuck period most_on) = refl

-- what is replaced ends as the trial did, and keeps what is known of the most-on commitment
pub replaced_end : (printed : Printed) (tried : Trial) (former after : Stand) → IsReplaced tried former after
    → ending_of_stand printed after ≡ ending_of_trial printed tried
replaced_end printed (trial.Dispatched cost) former after is = ap (ending_of_stand printed) is
replaced_end printed (trial.Stuck t) (stand.Dispatched cost) after is = absurd is
replaced_end printed (trial.Stuck t) (stand.Stuck period most_on) after is = ap (ending_of_stand printed) is

pub replaced_kept : (instance : Instance) (tried : Trial) (former after : Stand) → IsReplaced tried former after → KeepsStuck instance former
    → KeepsStuck instance after
replaced_kept instance (trial.Dispatched cost) former after is kept = subst (KeepsStuck instance) (sym is) tt
replaced_kept instance (trial.Stuck t) (stand.Dispatched cost) after is kept = absurd is
replaced_kept instance (trial.Stuck t) (stand.Stuck period most_on) after is kept = subst (KeepsStuck instance) (sym is) kept
