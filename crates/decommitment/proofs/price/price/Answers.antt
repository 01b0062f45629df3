-- The units' costs and those of what is missing, as 128 bits keep them.
use Rattle.std.proofs.Common.{◌≡◌, ◌+◌, ◌*◌, ◌^◌, ◌≤◌, ◌∙◌, sym, subst, arith, ◌+ℤ◌, unsigned_abs}
use Rattle.uc_model.proofs.Common.{abs_add}
use Rattle.uc_model.proofs.Sizes.{wide}
use Rattle.decommitment.proofs.RunCosts.{whole_cost}
use Rattle.decommitment.proofs.price.price.Goals as goal

pub returns-clause-trial : goal.returns-clause-trial
returns-clause-trial c =
    let changed = c.args.changed.now in
    let are = c.requires.changed.dispatched in
    let one = c.in_ok-units.units in
    let other = c.in_ok-missing.missing in
    let units = wide one (4096 * (168 * 2 ^ 64)) c.in_ok-units.ensures.size (omega arith) in
    let missing = wide other (168 * 2 ^ 96) c.in_ok-missing.ensures.size (omega arith) in
    let whole : c.sum.result ≡ one +ℤ other = c.sum.ensures ∙ (λ i. units i +ℤ missing i) in
    let size : unsigned_abs c.sum.result ≤ 4096 * (168 * 2 ^ 64) + 168 * 2 ^ 96 =
    subst (λ z. unsigned_abs z ≤ 4096 * (168 * 2 ^ 64) + 168 * 2 ^ 96) (sym whole) (abs_add one other _ _ c.in_ok-units.ensures.size c.in_ok-missing.ensures.size) in
    record {
      printed = are.printed;
      ending = (
        are.dispatch,
        wide c.sum.result _ size (omega arith) ∙ whole
            ∙ whole_cost changed.instance.now changed.patterns.now changed.fills.now are c.price_units.new.costs one other c.in_ok-units.ensures.costs
            c.in_ok-units.ensures.total (c.in_ok-missing.ensures.value are.printed are.lacks),
      );
    }
