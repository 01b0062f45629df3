-- A pass sees no more than it saw.
use Rattle.std.proofs.Common.{◌≡◌, ◌∙◌, ap, subst, sym, Option, ℤ}
use Rattle.incumbent.specs.Passes.{Known}
use Rattle.search_desk.specs.Desks.{IsKeptBy}
use Rattle.search_desk.proofs.Kept.{kept_lower}
use Rattle.search_desk.proofs.desk.Desk.look.Goals as goal

pub invariant_of-self : goal.invariant_of-self
invariant_of-self g c =
    let desk = c.self.invariant.0 in
    let old : Known = c.self.inside.pass in
    let new : Known = record old { seen = c.look.new.pass.found; found = c.look.new.pass.found } in
    let pass : c.look.new.pass ≡ new = c.look.ensures.pass in
    let opening = g.C.Case.opening in
    let book = c.self.inside.book in
    let lower = kept_lower c.cost_less_tolerance_never_decreases.ensures g.C.SearchCase.exact opening book c.self.inside.pass.seen c.look.new.pass.found opening.budget
    c.look.ensures.seen desk.kept in (
      record {
        object = ap (λ (p : Known). p.object) pass ∙ desk.object;
        mine = ap (λ (p : Known). p.mine) pass ∙ desk.mine;
        parts = ap (λ (p : Known). p.parts) pass ∙ desk.parts;
        kept = subst (λ (s : Option ℤ). IsKeptBy g.C.SearchCase.exact opening book s opening.budget) (sym (ap (λ (p : Known). p.seen) pass)) lower;
        complete = desk.complete;
      },
      c.self.invariant.1,
      c.self.invariant.2,
      c.self.invariant.3,
    )
