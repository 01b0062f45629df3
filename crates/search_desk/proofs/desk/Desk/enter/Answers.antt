-- Whether or not the book takes the commit, it is kept.
use Rattle.std.proofs.Common.{◌≡◌, subst, sym}
use Rattle.book.specs.Prelude.{IsCommitAnswer}
use Rattle.search_desk.specs.Commits.{Stands, move_for}
use Rattle.search_desk.specs.Desks.{DeskView, IsPrunedBy}
use Rattle.search_desk.specs.Dispatches.{IsFirstByDispatch}
use Rattle.search_desk.proofs.Claimed.{later_of}
use Rattle.search_desk.proofs.Dispatches.{pivoted_entered}
use Rattle.search_desk.proofs.Kept.{safe_commit}
use Rattle.search_desk.proofs.desk.Desk.enter.Goals as goal

pub invariant_of-self : goal.invariant_of-self
invariant_of-self g c =
    let desk = c.self.invariant.0 in
    let a = c.args in
    let opening = g.C.Case.opening in
    let view = sym c.self.view_is in
    let stands = subst (λ (d : DeskView). Stands d.book a.me a.claim.now) view (c.stands.ensures.0 c.if-not-stands.false) in
    let answer = subst (λ exact. IsCommitAnswer c.self.inside.book a.me a.claim.now.unit a.claim.now.path a.done.table exact a.done.outcome a.action c.commit.new.self
    c.commit.result) c.self.invariant.2 c.commit.ensures in
    let safe = safe_commit c.tree_runs_hold.ensures g.C.SearchCase.exact opening c.self.inside.book c.commit.new.self c.self.inside.pass.seen
    opening.budget a.me a.claim.now.unit c.self.inside.failed a.claim.now.path a.done.table a.done.outcome a.action c.commit.result
    c.keeps_run.ensures c.requires.sized
    (λ node. later_of c.self.inside.book opening.budget a.me a.claim.now.unit a.claim.now.node a.claim.now.had a.me node a.done.table stands c.requires.scaled)
    (subst (λ (d : DeskView). IsPrunedBy d.seen a.action) view c.requires.pruned)
    (record { kept = desk.kept; complete = desk.complete }) answer in (
      record { object = desk.object; mine = desk.mine; parts = desk.parts; kept = safe.kept; complete = safe.complete },
      c.self.invariant.1,
      c.self.invariant.2,
      pivoted_entered c.tree_runs_hold.ensures c.cost_less_tolerance_never_decreases.ensures g.C.SearchCase.exact_dispatch g.C.SearchCase.exact opening c.self.inside.book
          c.commit.new.self a.me a.claim.now.unit a.claim.now.node a.claim.now.had a.claim.now.path c.self.inside.pass.seen a.claim.now.bound a.done a.action
          c.commit.result desk.kept.begun c.keeps_run.ensures stands
          (subst (λ (d : DeskView). a.action ≡ move_for d.seen opening.gap a.claim.now.bound a.done) view c.requires.action)
          (subst (λ (d : DeskView). IsFirstByDispatch g.C.SearchCase.exact_dispatch opening a.claim.now.path a.claim.now.had d.seen a.done) view c.requires.dispatch)
          c.self.invariant.3 answer,
    )
