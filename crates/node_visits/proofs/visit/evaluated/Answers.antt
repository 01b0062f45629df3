-- What was evaluated at the table of the exact dispatch is by it; and a node that is ripe and late at once is split, unless each cell is decided.
use Rattle.std.proofs.Common.{◌∙◌, arith, subst, sym, IfOk}
use Rattle.uc_model.specs.declared.instance.Instance.{Instance}
use Rattle.decided_nodes.specs.Decided.{DecidesEach}
use Rattle.decided_nodes.specs.Pivoting.{uses_exact_dispatch}
use Rattle.opening.specs.Outcomes.{IsOutcomeAt}
use Rattle.search_desk.proofs.Dispatches.{by_dispatch}
use Rattle.node_visits.specs.declared.visit.Trial.{Trial}
use Rattle.node_visits.specs.inside.Trying.{IsExactTrial}
use Rattle.node_visits.proofs.visit.evaluated.Goals as goal

pub returns-clause-visited : goal.returns-clause-visited
returns-clause-visited c =
    let instance = c.args.worker.now in
    let claim = c.args.claim.now in
    let asked = uses_exact_dispatch c.args.aim.pivoting in
    let trial = c.in_ok-trial-2.trial in
    let outcome = c.in_ok-trial-2.outcome in
    let of = c.worker.view_is ∙ c.in_ok-trial.ensures.kept in
    let is : IsExactTrial asked instance claim trial =
    subst (λ (t : Trial). IsExactTrial asked instance claim t) (sym c.in_ok-trial-2.ensures.value) c.in_ok-trial.ensures.trial in
    let told : IsOutcomeAt c.args.aim.exact instance claim.path c.in_ok-trial.trial.table outcome =
    subst (λ (i : Instance). IsOutcomeAt c.args.aim.exact i claim.path c.in_ok-trial.trial.table outcome) of
    (subst (λ made. IfOk made (IsOutcomeAt c.args.aim.exact c.worker.inside.evaluator claim.path c.in_ok-trial.trial.table)) c.in_ok-trial-2.ensures.made
    c.outcome-outcome.ensures.outcome) in
    let here = subst (λ (t : Trial). IsOutcomeAt c.args.aim.exact instance claim.path t.table outcome) (sym c.in_ok-trial-2.ensures.value) told in
    record {
      direct = λ exhaustive none.
          let at_once = c.branching.ensures exhaustive in
          subst (λ (i : Instance). DecidesEach i claim.path)
          (c.instance-instance.ensures.is ∙ c.outcome-outcome.ensures.kept ∙ of) (c.split_cell-cell.ensures (omega (arith, at_once.0)) (omega (arith, at_once.1)) none);
      exact = λ used first each.
          by_dispatch c.args.aim.exact instance claim.path (record { table = trial.table; schedule = trial.found }) outcome
          (record { lawful = is.is.table.lawful; told = here.told }) (is.dispatched used first each);
    }
