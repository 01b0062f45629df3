-- A run through all periods is priced, and one that stops shows where the commitment is stuck.
use Rattle.std.proofs.Common.{subst, sym}
use Rattle.decommitment.specs.inside.Runs.{AreDispatched, IsReach, instance_of, order_of}
use Rattle.decommitment.proofs.Runs.{dispatched, stuck_there}
use Rattle.decommitment.proofs.pass.attempt.Goals as goal

pub price-requires-clause-changed : goal.price-requires-clause-changed
price-requires-clause-changed c =
    let instance = instance_of c.args.setting.now in
    let start = c.args.setting.now.start.now in
    let fills = c.fill_periods.new.run.fills.items in
    record {
      lawful = c.requires.setting.lawful;
      patterns = c.requires.patterns;
      dispatched = subst (AreDispatched instance c.args.patterns.now) (sym c.as_slice.ensures.value)
          (dispatched instance (order_of c.args.setting.now) c.args.patterns.now start fills c.requires.setting.lawful c.requires.setting.start
          c.in_ok-fill_periods.ensures.fills c.requires.allowed
          (subst (IsReach instance c.args.patterns.now start fills) c.in-Through.is c.in_ok-fill_periods.ensures.reach));
      known = c.requires.origin.run.known;
    }

pub returns-in-Stuck-clause-trial : goal.returns-in-Stuck-clause-trial
returns-in-Stuck-clause-trial c =
    let instance = instance_of c.args.setting.now in
    let start = c.args.setting.now.start.now in
    let fills = c.fill_periods.new.run.fills.items in
    stuck_there instance (order_of c.args.setting.now) c.args.patterns.now start fills c.requires.setting.lawful c.requires.setting.start c.in_ok-fill_periods.ensures.fills
    c.requires.allowed c.in-Stuck.t (subst (IsReach instance c.args.patterns.now start fills) c.in-Stuck.is c.in_ok-fill_periods.ensures.reach)
