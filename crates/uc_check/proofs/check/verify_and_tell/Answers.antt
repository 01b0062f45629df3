-- Each end from the steps before it.
use Rattle.std.specs.Prelude.{None, refl}
use Rattle.command_runs.specs.Prelude.{IsTold, FailsToTell}
use Rattle.command_runs.proofs.ReportEnds.{told_end, untold_end}
use Rattle.command_runs.proofs.HandedUp.{handed_up}
use Rattle.uc_check.proofs.Verdicts.{stopped_failure, of_claims}
use Rattle.uc_check.proofs.check.verify_and_tell.Goals as goal

pub returns-in_err-checked-clause-failed : goal.returns-in_err-checked-clause-failed
returns-in_err-checked-clause-failed g c = λ err_old err_new.
    let fault = c.in_err-checked.field-0.0 in
    handed_up c.from_residual.result (record { fault = fault; found = None }) _ c.from_residual.ensures.1
    (stopped_failure _ _ _ fault (c.in_err-checked.ensures.stopped (g.O.Sink.state c.args.out.now) err_old err_new))

pub returns-in_err-checked-clause-files : goal.returns-in_err-checked-clause-files
returns-in_err-checked-clause-files g c = λ err_old err_new.
    c.in_err-checked.ensures.files (g.O.Sink.state c.args.out.now) (g.O.Sink.state c.args.out.now) err_old err_new

pub returns-clause-done : goal.returns-clause-done
returns-clause-done g c = λ err_old err_new.
    let verified = c.in_ok-checked.ensures.verified in
    told_end c.tell_claims-told.result c.end_of_report.result _ _ c.end_of_report.ensures c.tell_claims-told.ensures.told (λ told. record {
      code = refl;
      nothing = refl;
      unrolled = refl;
      done = record {
        certificate = verified.certificate;
        verified = verified.verified;
        told = of_claims (λ text. IsTold text (g.O.Sink.state c.args.out.now) (g.O.Sink.state c.tell_claims-told.new.out)) verified.certificate c.in_ok-checked.checked.claims verified.claimed told;
        calm = verified.calm;
      };
    })

pub returns-clause-failed : goal.returns-clause-failed
returns-clause-failed g c = λ err_old err_new.
    let verified = c.in_ok-checked.ensures.verified in
    untold_end c.tell_claims-told.result c.end_of_report.result _ _ c.end_of_report.ensures c.tell_claims-told.ensures.failed (λ failed. record {
      certificate = verified.certificate;
      verified = verified.verified;
      report = of_claims (λ text. FailsToTell text (g.O.Sink.state c.args.out.now) (g.O.Sink.state c.tell_claims-told.new.out)) verified.certificate c.in_ok-checked.checked.claims verified.claimed failed;
    })

pub returns-clause-files : goal.returns-clause-files
returns-clause-files g c = λ err_old err_new.
    c.in_ok-checked.ensures.files (g.O.Sink.state c.args.out.now) (g.O.Sink.state c.tell_claims-told.new.out) err_old err_new
