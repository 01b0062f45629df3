-- One start more.
use Rattle.std.proofs.Common.{add-one, refl, sym, subst, arith}
use Rattle.unit_path.specs.inside.Hours.{hour_in}
use Rattle.unit_path.proofs.LeastStarts.{best-more, IsBestTo}
use Rattle.unit_path.proofs.Switched.{start-fits}
use Rattle.unit_path.proofs.rests.best_warm.Goals as goal

pub loop-t-init : goal.loop-t-init
loop-t-init c = record { cost = refl; start = tt }

pub from_start-requires-clause-start : goal.from_start-requires-clause-start
from_start-requires-clause-start c = grind (arith, start-fits, c)

pub loop-t-preserved : goal.loop-t-preserved
loop-t-preserved c =
    let hour = c.requires.later.hour c.loop-t.t (omega arith) (omega arith) in
    subst (λ k. IsBestTo c.args.terms.now c.args.unit.now c.args.fix.now c.args.since c.args.from k c.better-best.result) (sym (add-one c.loop-t.t))
    (best-more c.args.terms.now c.args.unit.now c.args.fix.now c.args.since c.args.from c.loop-t.t (hour_in c.args.hours.now c.loop-t.t).start
    c.loop-t.best c.better-best.result c.from_start.result (omega arith) (omega arith)
    (c.requires.may (omega arith)) (λ k low high. c.requires.off k low (omega arith))
    hour.start c.from_start.ensures c.loop-t.invariant c.better-best.ensures.cost c.better-best.ensures.choice)

pub returns-clause-cost : goal.returns-clause-cost
returns-clause-cost c = grind (arith, c)
