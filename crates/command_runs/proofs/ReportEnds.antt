-- What holds of a run whose report was told holds of its end, and what holds of one whose report failed holds of its failure.
use Rattle.std.proofs.Common.{true, subst, sym, Result, Ok, Err, IfOk, IfErr, None}
use Rattle.std.specs.Prelude.{OnOk, OnErr}
use Rattle.report.specs.declared.fault.Fault.TheVariants.{Write}
use Rattle.command_runs.specs.Prelude.{End, Failure, IsReportEnd}

pub told_end : {E : Type 0} (told : Result (Unit {0}) E) (ended : Result End Failure) (Told : Type 0) (IsDone : End → Type 0)
    → IsReportEnd told ended → OnOk told Told → (Told → IsDone (record { code = 0; found = None; rolled = None })) → IfOk ended IsDone
told_end (Ok x) ended Told IsDone is told done = subst (λ it. IfOk it IsDone) (sym is) (done told)
told_end (Err x) ended Told IsDone is told done = subst (λ it. IfOk it IsDone) (sym is) tt

pub untold_end : {E : Type 0} (told : Result (Unit {0}) E) (ended : Result End Failure) (Failed : Type 0) (HasFailed : Failure → Type 0)
    → IsReportEnd told ended → OnErr told Failed → (Failed → HasFailed (record { fault = Write true; found = None })) → IfErr ended HasFailed
untold_end (Ok x) ended Failed HasFailed is failed fails = subst (λ it. IfErr it HasFailed) (sym is) tt
untold_end (Err x) ended Failed HasFailed is failed fails = subst (λ it. IfErr it HasFailed) (sym is) (fails failed)
