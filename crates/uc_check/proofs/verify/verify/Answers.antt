-- A fault of the certificate comes after the instance was read.
use Rattle.std.proofs.Common.{arith}
use Rattle.command_line.specs.Asked.{check_asked}
use Rattle.uc_check.proofs.Verdicts.{certificate_fault, for_instance, refused_cause, verified}
use Rattle.uc_check.proofs.verify.verify.Goals as goal

pub returns-in-Ok-claims_of-clause-verified : goal.returns-in-Ok-claims_of-clause-verified
returns-in-Ok-claims_of-clause-verified g c =
    let files = g.F.Files.state in
    verified (check_asked c.args.asked.now) (files c.args.files.now) (files c.read_instance.new.files) (files c.read_certificate.new.files)
    c.in_ok-instance.instance c.in_ok-instance._rounded c.in-Ok.cert c.in-Ok-claims_of.claims c.in_ok-instance.ensures.read
    c.in_ok-instance.ensures.others c.in-Ok.ensures.others c.in_ok-instance.ensures.calm c.in-Ok.ensures.calm
    c.in-Ok.ensures.text c.in-Ok-claims_of.ensures.accepted c.in-Ok-claims_of.ensures.claim

pub returns-in-Err-claims_of-clause-stopped : goal.returns-in-Err-claims_of-clause-stopped
returns-in-Err-claims_of-clause-stopped g c = grind (arith, certificate_fault, refused_cause, g, c)

pub returns-in-Err-clause-stopped : goal.returns-in-Err-clause-stopped
returns-in-Err-clause-stopped g c = grind (arith, certificate_fault, for_instance, g, c)
