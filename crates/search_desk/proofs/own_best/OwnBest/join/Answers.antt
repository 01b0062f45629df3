-- The lesser of both costs is that of the cheaper schedule.
use Rattle.std.proofs.Common.{arith, ◌≡◌, ◌∙◌, ap, sym, ℤ, Option}
use Rattle.incumbent.specs.Costs.{AtMost, least}
use Rattle.incumbent.specs.Passes.{Known}
use Rattle.uc_model.specs.declared.schedule.Printed.{Printed}
use Rattle.search_desk.specs.Best.{cost_of}
use Rattle.search_desk.proofs.Costs.{least_both}
use Rattle.search_desk.proofs.own_best.OwnBest.join.Goals as goal

pub invariant_of-self : goal.invariant_of-self
invariant_of-self g c =
    let own = c.self.inside in
    let other = c.other.inside in
    let mine = c.self.invariant in
    let theirs = c.other.invariant in
    let pass = c.join.ensures in
    let taken : c.take-own.result ≡ own.schedule = c.take-own.ensures.value in
    let cost : cost_of c.cheaper.result ≡ least (cost_of own.schedule) (cost_of other.schedule) =
    c.cheaper.ensures.least ∙ ap (λ (s : Option (Printed × ℤ)). least (cost_of s) (cost_of other.schedule)) taken in
    let both : AtMost (least own.pass.seen other.pass.seen) (least (cost_of own.schedule) (cost_of other.schedule)) =
    least_both own.pass.seen other.pass.seen (cost_of own.schedule) (cost_of other.schedule) mine.below theirs.below in
    record {
      object = ap (λ (p : Known). p.object) pass ∙ mine.object;
      mine = ap (λ (p : Known). p.mine) pass ∙ (λ i. least (mine.mine i) (theirs.mine i)) ∙ sym cost;
      below = grind (arith, c, pass, own, other, cost, both);
      found = grind (arith, c, g, taken, mine, theirs);
    }
