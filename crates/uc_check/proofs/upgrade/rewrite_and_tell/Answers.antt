-- Each end from the steps before it.
use Rattle.std.specs.Prelude.{None, refl}
use Rattle.command_runs.specs.Prelude.{outside_of}
use Rattle.uc_check.specs.Upgrading.{IsUpgradeFailure}
use Rattle.command_runs.proofs.ReportEnds.{told_end, untold_end}
use Rattle.command_runs.proofs.HandedUp.{handed_up}
use Rattle.uc_check.proofs.upgrade.rewrite_and_tell.Goals as goal

pub returns-in_err-rewrite-clause-failed : goal.returns-in_err-rewrite-clause-failed
returns-in_err-rewrite-clause-failed g c = λ err_old err_new.
    let out = g.O.Sink.state c.args.out.now in
    let before = outside_of (g.F.Files.state c.args.files.now) out err_old in
    let after = outside_of (g.F.Files.state c.rewrite.new.files) out err_new in
    handed_up c.from_residual.result (record { fault = c.in_err-rewrite.field-0.0; found = None })
    (λ failure. IsUpgradeFailure before after failure.fault failure.found) c.from_residual.ensures.1
    (c.in_err-rewrite.ensures.failed out err_old err_new)

pub returns-in_err-rewrite-clause-files : goal.returns-in_err-rewrite-clause-files
returns-in_err-rewrite-clause-files g c = λ err_old err_new.
    c.in_err-rewrite.ensures.files (g.O.Sink.state c.args.out.now) (g.O.Sink.state c.args.out.now) err_old err_new

pub returns-clause-done : goal.returns-clause-done
returns-clause-done g c = λ err_old err_new.
    told_end c.tell_upgraded.result c.end_of_report.result _ _ c.end_of_report.ensures c.tell_upgraded.ensures.told (λ told. record {
      code = refl;
      nothing = refl;
      unrolled = refl;
      done = record { rewritten = c.in_ok-rewrite.ensures.done; told = told };
    })

pub returns-clause-failed : goal.returns-clause-failed
returns-clause-failed g c = λ err_old err_new.
    untold_end c.tell_upgraded.result c.end_of_report.result _ _ c.end_of_report.ensures c.tell_upgraded.ensures.failed
    (λ failed. record { rewritten = c.in_ok-rewrite.ensures.done; report = failed })

pub returns-clause-files : goal.returns-clause-files
returns-clause-files g c = λ err_old err_new.
    c.in_ok-rewrite.ensures.files (g.O.Sink.state c.args.out.now) (g.O.Sink.state c.tell_upgraded.new.out) err_old err_new
