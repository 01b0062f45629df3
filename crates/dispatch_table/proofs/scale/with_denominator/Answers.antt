-- The denominator is above 0.
use Rattle.std.proofs.Common.{sym, subst, pos, ◌<ℤ◌}
use Rattle.fractions.specs.declared.fraction.Fraction.{Fraction}
use Rattle.dispatch_table.specs.Tasks.{task_of}
use Rattle.dispatch_table.proofs.Scales.{fraction_positive}
use Rattle.dispatch_table.proofs.scale.with_denominator.Goals as goal

pub least_multiple-requires-clause-second : goal.least_multiple-requires-clause-second
least_multiple-requires-clause-second c =
    subst (λ (f : Fraction). pos 0 <ℤ f.denominator) (sym c.fraction-fraction.ensures)
    (fraction_positive (task_of c.args.given.now) c.requires.given.curves.curve c.args.amount.now c.requires.amount)
