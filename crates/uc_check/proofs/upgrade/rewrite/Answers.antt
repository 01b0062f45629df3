-- Each end from the steps before it.
use Rattle.command_line.specs.Asked.{upgrade_asked}
use Rattle.uc_check.proofs.Rewriting.{keeps, rewritten, unread, unsaved}
use Rattle.command_runs.proofs.HandedUp.{handed_up}
use Rattle.uc_check.proofs.upgrade.rewrite.Goals as goal

pub returns-in_err-cert-clause-failed : goal.returns-in_err-cert-clause-failed
returns-in_err-cert-clause-failed g c =
    let files = g.F.Files.state in
    let fault = c.in_err-cert.field-0.0 in
    handed_up c.from_residual.result fault _ c.from_residual.ensures.1 (λ out err_old err_new.
    unread (files c.args.files.now) (files c.read_certificate.new.files) out err_old err_new fault c.in_err-cert.ensures.cause
    c.in_err-cert.ensures.others)

pub returns-in-Ok-clause-done : goal.returns-in-Ok-clause-done
returns-in-Ok-clause-done g c =
    let files = g.F.Files.state in
    let text = c.in_ok-cert.ensures.text in
    rewritten (files c.args.files.now) (files c.read_certificate.new.files) (files c.save_read.new.files) c.in_ok-cert.cert text
    c.in_ok-cert.ensures.others c.save_read.ensures.others c.in_ok-cert.ensures.calm
    (c.in-Ok.ensures.saved text.text.certificate text.text.listed)

pub returns-in-Ok-clause-files : goal.returns-in-Ok-clause-files
returns-in-Ok-clause-files g c = λ out_old out_new err_old err_new.
    keeps (upgrade_asked c.args.asked.now) _ _ _ out_old out_new err_old err_new c.in_ok-cert.ensures.named c.in_ok-cert.ensures.only_read
    c.in_ok-cert.ensures.others c.save_read.ensures.named c.save_read.ensures.others

pub returns-in-Err-clause-failed : goal.returns-in-Err-clause-failed
returns-in-Err-clause-failed g c = λ out err_old err_new.
    let files = g.F.Files.state in
    let text = c.in_ok-cert.ensures.text in
    unsaved (files c.args.files.now) (files c.read_certificate.new.files) (files c.save_read.new.files) out err_old err_new
    c.in_ok-cert.cert text c.in_ok-cert.ensures.others (c.in-Err.ensures.failed text.text.certificate text.text.listed)

pub returns-in-Err-clause-files : goal.returns-in-Err-clause-files
returns-in-Err-clause-files g c = λ out_old out_new err_old err_new.
    keeps (upgrade_asked c.args.asked.now) _ _ _ out_old out_new err_old err_new c.in_ok-cert.ensures.named c.in_ok-cert.ensures.only_read
    c.in_ok-cert.ensures.others c.save_read.ensures.named c.save_read.ensures.others
