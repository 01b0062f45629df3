-- Where there is no exact dispatch, any table serves.
use Rattle.std.proofs.Common.{inr, subst, MatchOption}
use Rattle.std.proofs.lemmas.Result.{IfOk-weaker}
use Rattle.closing_pass.specs.inside.Tables.{IsExactTrialAt, IsUndispatchedAt}
use Rattle.closing_pass.proofs.settling.Settling.trial.Goals as goal

pub returns-in-None : goal.returns-in-None
returns-in-None g c =
    let self = c.args.self.now in
    let asked = g.C.SearchCase.exact_dispatch in
    let instance = g.C.Case.opening.instance in
    let none : IsUndispatchedAt asked instance self c.args.holding.now.path =
    subst (λ trial. MatchOption trial (IsUndispatchedAt asked instance self c.args.holding.now.path)
    (IsExactTrialAt self.closing.exact asked instance c.args.book.now self c.args.holding.now.path)) c.in-None.is c.in_ok-trial.ensures in
    IfOk-weaker c.priced.result _ _ (λ trial is. record { is = is; dispatched = λ used first each. inr (none used first each) }) c.priced.ensures
