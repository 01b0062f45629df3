-- Once all passes are joined, the schedule costs no more than what the desk's pass has seen.
use Rattle.std.proofs.Common.{ap, arith, length, subst, sym, List}
use Rattle.incumbent.specs.Costs.{AtMost}
use Rattle.search_desk.specs.Best.{IsNoWorse, cost_of}
use Rattle.search_desk.specs.Passes.{OwnBestView}
use Rattle.search_desk.proofs.Costs.{at_most_itself, at_most_through, least_first, least_second}
use Rattle.search_desk.proofs.Kept.{kept_lower}
use Rattle.tree_search.proofs.crowd.joined.Goals as goal

pub loop-member-init : goal.loop-member-init
loop-member-init g c =
    let joined = c.join_pass.ensures in (
      omega (
        arith,
        ap (λ (o : OwnBestView). o.parts) joined,
        c.in_ok-book.ensures.parts,
        c.requires.parts,
        ap (λ (l : List _). length l) c.into_iter-member-iterator.ensures.into_iter_gives.0,
        c.args.members.ok.0,
      ),
      at_most_itself c.join_pass.new.self.seen,
      subst (λ (o : OwnBestView). IsNoWorse c.args.own.schedule o.schedule) (sym joined) (at_most_itself (cost_of c.args.own.schedule)),
    )

pub loop-member-preserved : goal.loop-member-preserved
loop-member-preserved g c =
    let before = c.loop-member.invariant in
    let old = c.loop-member.own.seen in
    let lower : AtMost c.join.new.self.seen old =
    subst (λ s. AtMost s old) (sym c.join.ensures.seen) (least_first old c.into_best.result.seen) in (
      omega (arith, before.0, c.join.ensures.parts, c.into_best.ensures, ap (λ (l : List _). length l) c.in-Some.ensures.steps.0),
      at_most_through c.join.new.self.seen old c.join_pass.new.self.seen lower before.1,
      at_most_through (cost_of c.join.new.self.schedule) (cost_of c.loop-member.own.schedule) (cost_of c.args.own.schedule) c.join.ensures.no_worse before.2,
    )

pub close-schedule-requires-clause-whole : goal.close-schedule-requires-clause-whole
close-schedule-requires-clause-whole g c =
    omega (arith, c.loop-member.invariant.0, c.in-None.ensures.steps.0, c.loop-member.member-iterator.rest.ok.0)

pub returns-clause-left : goal.returns-clause-left
returns-clause-left g c =
    let opening = g.C.Case.opening in
    let pass = c.in_ok-book.pass in
    let first : AtMost c.join_pass.new.self.seen pass.seen =
    subst (λ (o : OwnBestView). AtMost o.seen pass.seen) (sym c.join_pass.ensures) (least_second c.args.own.seen pass.seen) in
    let below : AtMost (cost_of c.close-schedule.result) pass.seen =
    at_most_through (cost_of c.close-schedule.result) c.loop-member.own.seen pass.seen c.close-schedule.ensures.least
    (at_most_through c.loop-member.own.seen c.join_pass.new.self.seen pass.seen c.loop-member.invariant.1 first) in
    record {
      kept = kept_lower c.cost_less_tolerance_never_decreases.ensures g.C.SearchCase.exact opening c.in_ok-book.book pass.seen (cost_of c.close-schedule.result) opening.budget
          below c.in_ok-book.ensures.kept;
      complete = c.in_ok-book.ensures.complete;
    }

pub returns-clause-no_worse : goal.returns-clause-no_worse
returns-clause-no_worse g c = rw c.close-schedule.ensures.schedule c.loop-member.invariant.2
