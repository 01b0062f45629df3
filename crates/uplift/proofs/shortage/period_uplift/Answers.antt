-- The numbers of the period are what their bits say.
use Rattle.std.proofs.Common.{◌≡◌, ◌*◌, ◌^◌, arith, lit<, slice_index_or}
use Rattle.std.proofs.lemmas.Int.{to_z-of_z}
use Rattle.uc_model.specs.Prelude.{shed_at, short_at, most_shed, most_short}
use Rattle.uc_model.proofs.Common.{sum-fits, sum-is}
use Rattle.dual_model.specs.Prelude.{mu_at, pi_at}
use Rattle.uplift.specs.Uplift.{shortage_uplift}
use Rattle.uplift.specs.declared.shortage.TheConstants.{MOST_GAIN}
use Rattle.uplift.proofs.shortage.period_uplift.Goals as goal

pub missing_uplift-unserved-requires-clause-multiplier : goal.missing_uplift-unserved-requires-clause-multiplier
missing_uplift-unserved-requires-clause-multiplier c = grind (arith, c)

pub missing_uplift-unserved-requires-clause-need : goal.missing_uplift-unserved-requires-clause-need
missing_uplift-unserved-requires-clause-need c = grind (arith, c)

pub missing_uplift-missing-requires-clause-multiplier : goal.missing_uplift-missing-requires-clause-multiplier
missing_uplift-missing-requires-clause-multiplier c = grind (arith, c)

pub missing_uplift-missing-requires-clause-need : goal.missing_uplift-missing-requires-clause-need
missing_uplift-missing-requires-clause-need c = grind (arith, c)

pub sum-requires : goal.sum-requires
sum-requires c =
    sum-fits c.missing_uplift-unserved.result c.missing_uplift-missing.result (2 * (MOST_GAIN * 2 ^ 63)) (2 * (MOST_GAIN * 2 ^ 63)) c.missing_uplift-unserved.ensures.size
    c.missing_uplift-missing.ensures.size (lit< tt)

unserved : (c : goal.After-sum) → c.missing_uplift-unserved.result
    ≡ shortage_uplift c.args.table.now.k c.args.instance.now.a (pi_at c.args.table.now c.args.t) (most_shed c.args.instance.now c.args.t) (shed_at c.args.printed.now c.args.t)
unserved c = grind (arith, slice_index_or, to_z-of_z)

missing : (c : goal.After-sum) → c.missing_uplift-missing.result
    ≡ shortage_uplift c.args.table.now.k c.args.instance.now.b (mu_at c.args.table.now c.args.t) (most_short c.args.instance.now c.args.t) (short_at c.args.printed.now c.args.t)
missing c = grind (arith, slice_index_or, to_z-of_z)

pub returns-clause-value : goal.returns-clause-value
returns-clause-value c = grind (arith, to_z-of_z, sum-is, unserved, missing, c)
