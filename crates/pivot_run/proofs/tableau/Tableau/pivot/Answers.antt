-- The rows form the product.
use Rattle.std.proofs.Common.{subst}
use Rattle.std.proofs.lemmas.Result.{err_from_is_err_and}
use Rattle.pivot_run.specs.Prelude.{IfMet, IsWide, PivotForms, Table}
use Rattle.pivot_run.proofs.tableau.Tableau.pivot.Goals as goal

pub returns-in_err-pivot-clause-wide : goal.returns-in_err-pivot-clause-wide
returns-in_err-pivot-clause-wide c =
    let p = err_from_is_err_and c.from_residual.result c.from_residual.ensures.1 in
    rw (p.1, p.2) (subst (λ (t : Table). IfMet (λ wide. PivotForms t.rows c.args.i c.args.j wide.size wide.other × IsWide wide.size wide.other) c.in_err-pivot.field-0.0)
    c.self.view_is (subst (λ rows. IfMet (λ wide. PivotForms rows c.args.i c.args.j wide.size wide.other × IsWide wide.size wide.other) c.in_err-pivot.field-0.0)
    c.deref_mut.ensures.value c.in_err-pivot.ensures.wide))
