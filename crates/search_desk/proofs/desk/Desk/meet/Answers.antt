-- The desk's pass has one part again, and has seen what both had.
use Rattle.std.proofs.Common.{◌≡◌, ◌∙◌, ap, arith, sym, subst, ℤ, Option}
use Rattle.incumbent.specs.Costs.{least}
use Rattle.incumbent.specs.Passes.{Known}
use Rattle.search_desk.specs.Desks.{IsKeptBy}
use Rattle.search_desk.proofs.Costs.{least_first}
use Rattle.search_desk.proofs.Kept.{kept_lower}
use Rattle.search_desk.proofs.desk.Desk.meet.Goals as goal

pub invariant_of-self : goal.invariant_of-self
invariant_of-self g c =
    let desk = c.self.invariant.0 in
    let opening = g.C.Case.opening in
    let book = c.self.inside.book in
    let old = c.self.inside.pass in
    let lent = c.split-lent.result in
    let joined = c.join.ensures in
    let left = c.split-back.ensures.left in
    let seen : c.split-back.new.pass.seen ≡ least old.seen lent.seen = ap (λ (p : Known). p.seen) left ∙ ap (λ (p : Known). p.seen) joined in
    let lower = kept_lower c.cost_less_tolerance_never_decreases.ensures g.C.SearchCase.exact opening book old.seen (least old.seen lent.seen) opening.budget
    (least_first old.seen lent.seen) desk.kept in (
      record {
        object = ap (λ (p : Known). p.object) left ∙ ap (λ (p : Known). p.object) joined ∙ desk.object;
        mine = ap (λ (p : Known). p.mine) left ∙ ap (λ (p : Known). p.mine) joined ∙ (λ i. least (desk.mine i) (c.split-lent.ensures.mine i));
        parts = omega (arith, ap (λ (p : Known). p.parts) left, ap (λ (p : Known). p.parts) joined, desk.parts, c.split-lent.ensures.parts);
        kept = subst (λ (s : Option ℤ). IsKeptBy g.C.SearchCase.exact opening book s opening.budget) (sym seen) lower;
        complete = desk.complete;
      },
      c.self.invariant.1,
      c.self.invariant.2,
      c.self.invariant.3,
    )
