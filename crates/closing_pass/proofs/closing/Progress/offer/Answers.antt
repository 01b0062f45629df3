-- The schedule that is kept costs no more than the one that was found.
use Rattle.std.proofs.Common.{subst, sym}
use Rattle.incumbent.specs.Costs.{AtMost}
use Rattle.search_desk.specs.Best.{cost_of}
use Rattle.search_desk.proofs.Costs.{least_second}
use Rattle.closing_pass.proofs.closing.Progress.offer.Goals as goal

pub returns-clause-lower : goal.returns-clause-lower
returns-clause-lower g c =
    subst (λ cost. AtMost cost (cost_of c.args.found)) (sym c.cheaper.ensures.least) (least_second (cost_of c.take-best.result) (cost_of c.args.found))
