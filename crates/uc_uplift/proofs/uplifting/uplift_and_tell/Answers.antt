-- Each end from the steps before it.
use Rattle.std.specs.Prelude.{None, refl}
use Rattle.command_line.specs.Asked.{uplift_asked}
use Rattle.command_runs.proofs.ReportEnds.{told_end, untold_end}
use Rattle.command_runs.proofs.HandedUp.{handed_up}
use Rattle.uc_uplift.proofs.Uplifts.{stopped_uplift, uplifts_told, uplifts_untold, without_uplifts}
use Rattle.uc_uplift.proofs.uplifting.uplift_and_tell.Goals as goal

pub returns-in_err-checked-clause-failed : goal.returns-in_err-checked-clause-failed
returns-in_err-checked-clause-failed g c = λ err_old err_new.
    let fault = c.in_err-checked.field-0.0 in
    handed_up c.from_residual.result (record { fault = fault; found = None }) _ c.from_residual.ensures.1
    (stopped_uplift (uplift_asked c.args.asked.now) _ _ fault (c.in_err-checked.ensures.stopped (g.O.Sink.state c.args.out.now) err_old err_new))

pub returns-in_err-checked-clause-files : goal.returns-in_err-checked-clause-files
returns-in_err-checked-clause-files g c = λ err_old err_new.
    c.in_err-checked.ensures.files (g.O.Sink.state c.args.out.now) (g.O.Sink.state c.args.out.now) err_old err_new

pub uplifts_at-requires : goal.uplifts_at-requires
uplifts_at-requires g c =
    let files = g.F.Files.state in
    ((uplift_asked c.args.asked.now).check, files c.args.files.now, files c.verify.new.files, c.in_ok-checked.ensures.verified)

pub returns-in-Ok-clause-done : goal.returns-in-Ok-clause-done
returns-in-Ok-clause-done g c = λ err_old err_new.
    told_end c.tell_uplifts-told.result c.end_of_report.result _ _ c.end_of_report.ensures c.tell_uplifts-told.ensures.told (λ told. record {
      code = refl;
      nothing = refl;
      unrolled = refl;
      done = uplifts_told (uplift_asked c.args.asked.now) (g.F.Files.state c.args.files.now) (g.F.Files.state c.verify.new.files) _ _ err_old err_new
          c.in_ok-checked.checked c.in-Ok.uplifted c.in_ok-checked.ensures.verified c.in-Ok.ensures.uplifted told;
    })

pub returns-in-Ok-clause-failed : goal.returns-in-Ok-clause-failed
returns-in-Ok-clause-failed g c = λ err_old err_new.
    untold_end c.tell_uplifts-told.result c.end_of_report.result _ _ c.end_of_report.ensures c.tell_uplifts-told.ensures.failed
    (uplifts_untold (uplift_asked c.args.asked.now) (g.F.Files.state c.args.files.now) (g.F.Files.state c.verify.new.files) _ _ err_old err_new
    c.in_ok-checked.checked c.in-Ok.uplifted c.in_ok-checked.ensures.verified c.in-Ok.ensures.uplifted)

pub returns-in-Ok-clause-files : goal.returns-in-Ok-clause-files
returns-in-Ok-clause-files g c = λ err_old err_new.
    c.in_ok-checked.ensures.files (g.O.Sink.state c.args.out.now) (g.O.Sink.state c.tell_uplifts-told.new.out) err_old err_new

pub returns-in-Err-clause-failed : goal.returns-in-Err-clause-failed
returns-in-Err-clause-failed g c = λ err_old err_new.
    let files = g.F.Files.state in
    without_uplifts (uplift_asked c.args.asked.now) (files c.args.files.now) (files c.verify.new.files) (g.O.Sink.state c.args.out.now) err_old err_new
    c.in_ok-checked.checked c.in-Err.fault c.in_ok-checked.ensures.verified c.in-Err.ensures.refused

pub returns-in-Err-clause-files : goal.returns-in-Err-clause-files
returns-in-Err-clause-files g c = λ err_old err_new.
    c.in_ok-checked.ensures.files (g.O.Sink.state c.args.out.now) (g.O.Sink.state c.args.out.now) err_old err_new
