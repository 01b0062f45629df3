-- Where memory was refused claims may be given back.
use Rattle.search_desk.proofs.Dispatches.{pivoted_abandon}
use Rattle.search_desk.proofs.Kept.{safe_abandon}
use Rattle.search_desk.proofs.desk.Desk.give_back.Goals as goal

pub invariant_of-self : goal.invariant_of-self
invariant_of-self g c =
    let desk = c.self.invariant.0 in (
      record {
        object = desk.object;
        mine = desk.mine;
        parts = desk.parts;
        kept = safe_abandon g.C.SearchCase.exact g.C.Case.opening c.self.inside.book c.abandon.new.self c.self.inside.pass.seen g.C.Case.opening.budget c.args.me c.args.unit
            c.abandon.result desk.kept c.abandon.ensures;
        complete = λ whole. absurd (cc);
      },
      c.self.invariant.1,
      c.self.invariant.2,
      pivoted_abandon g.C.SearchCase.exact_dispatch g.C.Case.opening c.self.inside.book c.abandon.new.self c.args.me c.args.unit c.abandon.result c.self.invariant.3
          c.abandon.ensures,
    )
