-- Whatever the book answers, it is kept.
use Rattle.search_desk.proofs.Dispatches.{pivoted_claim}
use Rattle.search_desk.proofs.Kept.{safe_claim}
use Rattle.search_desk.proofs.desk.Desk.take.Goals as goal

pub invariant_of-self : goal.invariant_of-self
invariant_of-self g c =
    let desk = c.self.invariant.0 in
    let safe = safe_claim g.C.SearchCase.exact g.C.Case.opening c.self.inside.book c.claim.new.self c.self.inside.pass.seen g.C.Case.opening.budget c.args.me c.args.node
    c.self.inside.failed c.claim.result (record { kept = desk.kept; complete = desk.complete }) c.claim.ensures in (
      record { object = desk.object; mine = desk.mine; parts = desk.parts; kept = safe.kept; complete = safe.complete },
      c.self.invariant.1,
      c.self.invariant.2,
      pivoted_claim g.C.SearchCase.exact_dispatch g.C.Case.opening c.self.inside.book c.claim.new.self c.args.me c.args.node c.claim.result c.self.invariant.3
          c.claim.ensures,
    )
