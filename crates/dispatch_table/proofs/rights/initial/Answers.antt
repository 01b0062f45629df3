-- Only the first period has one.
use Rattle.std.proofs.Common.{◌≡◌, ◌*◌, ℕ, zero, suc, ℤ, pos, refl, ap, ◌∙◌, arith}
use Rattle.uc_model.specs.Prelude.{initial_p, thermal_unit}
use Rattle.uc_model.specs.declared.limits.TheConstants.{MAX_POWER}
use Rattle.uc_model.proofs.Common.{narrow}
use Rattle.dispatch_rules.specs.Prelude.{Task, initial_at}
use Rattle.dispatch_table.specs.Tasks.{task_of}
use Rattle.dispatch_table.proofs.rights.initial.Goals as goal

initial_is : (task : Task) (g t : ℕ) (z : ℤ) → (t ≡ 0 → z ≡ initial_p (thermal_unit task.instance g)) → ((n : ℕ) → t ≡ suc n → z ≡ pos 0) → z ≡ initial_at task g t
initial_is task g zero z first later = first refl
initial_is task g (suc n) z first later = later n refl

pub returns-clause-value : goal.returns-clause-value
returns-clause-value c =
    narrow c.initial_output.result (2 * MAX_POWER) c.initial_output.ensures.size (omega arith)
    ∙ initial_is (task_of c.args.given.now) c.args.g c.args.t c.initial_output.result
    (λ e. c.initial_output.ensures.first e ∙ ap initial_p c.unit.ensures.value) c.initial_output.ensures.later
