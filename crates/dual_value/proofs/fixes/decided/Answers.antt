-- The decision against it, or one more.
use Rattle.std.proofs.Common.{arith, ◌≡◌, true}
use Rattle.uc_model.specs.Prelude.{commitment_of}
use Rattle.dual_value.proofs.FixBits.{decided-against, decided-with, differ, plain-more, IsMore}
use Rattle.dual_value.proofs.fixes.decided.Goals as goal
use Rattle.dual_value.proofs.fixes.decided.Goals.{After-switch_on}

-- what was decided of the period is the same
same : (c : After-switch_on) → commitment_of c.args.fix.now.known c.args.fixing.now.t ≡ true → commitment_of c.args.fix.now.on c.args.fixing.now.t ≡ c.args.fixing.now.on
same c known = grind arith

on_bits : (c : goal.After-switch_on-then-fixing) → IsMore c.args.fix.now c.args.fixing.now (record { known = c.switch_on.new.self; on = c.switch_on-then-fixing.new.self })
on_bits c = grind arith

off_bits : (c : goal.Else-fixing) → IsMore c.args.fix.now c.args.fixing.now (record { known = c.switch_on.new.self; on = c.args.fix.now.on })
off_bits c = grind arith

pub returns-then-is_on-fixing-clause-fix : goal.returns-then-is_on-fixing-clause-fix
returns-then-is_on-fixing-clause-fix c = grind (arith, decided-against, differ, c)

pub returns-then-fixing-clause-fix : goal.returns-then-fixing-clause-fix
returns-then-fixing-clause-fix c = decided-with c.args.fix.now c.args.fixing.now _ (λ known. same c.before.before.before known) (on_bits c)

pub returns-then-fixing-clause-plain : goal.returns-then-fixing-clause-plain
returns-then-fixing-clause-plain c = plain-more c.args.fix.now c.args.fixing.now _ c.requires.plain (on_bits c)

pub returns-else-fixing-clause-fix : goal.returns-else-fixing-clause-fix
returns-else-fixing-clause-fix c = decided-with c.args.fix.now c.args.fixing.now _ (λ known. same c.before known) (off_bits c)

pub returns-else-fixing-clause-plain : goal.returns-else-fixing-clause-plain
returns-else-fixing-clause-plain c = plain-more c.args.fix.now c.args.fixing.now _ c.requires.plain (off_bits c)
