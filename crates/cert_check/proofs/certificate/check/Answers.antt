-- Each step says what it says of any certificate that has the listing that was read.
use Rattle.std.proofs.Common.{◌+◌, arith, sym, subst, ◌∙◌, true≢false}
use Rattle.dual_model.proofs.Covers.{certificates_claim_truly}
use Rattle.branch_tree.specs.Prelude.{written_of}
use Rattle.cert_check.specs.inside.Nodes.{IsFirstCode}
use Rattle.cert_check.specs.inside.Numbers.{IsFirstOffOf}
use Rattle.cert_check.proofs.Listed.{tables-from, schedule-from, claim-fits, refused-schedule, refused-1, refused-8, refused-node, accepted, cost-is, bound-is, schedule-is}
use Rattle.cert_check.proofs.certificate.check.Goals as goal

pub returns-then-not-fits_instance-clause-refused : goal.returns-then-not-fits_instance-clause-refused
returns-then-not-fits_instance-clause-refused c = grind (arith, c)

pub returns-then-not-reads_prices-clause-refused : goal.returns-then-not-reads_prices-clause-refused
returns-then-not-reads_prices-clause-refused c = grind (arith, c)

pub returns-in-Some-clause-refused : goal.returns-in-Some-clause-refused
returns-in-Some-clause-refused c = λ d e.
    refused-1 c.args.instance.now d c.args.cert.now c.in-Some.i (c.in-Some.i + 1) e c.requires.text (c.fits_instance.ensures.0 c.if-not-fits_instance.false)
    (c.reads_prices.ensures.0 c.if-not-reads_prices.false)
    (subst (IsFirstOffOf c.args.cert.now.tables) c.in-Some.is c.in_ok-off.ensures) (omega arith)

pub first_unsound-requires-clause-checkable : goal.first_unsound-requires-clause-checkable
first_unsound-requires-clause-checkable c = grind (arith, c)

pub returns-in-Err-clause-refused : goal.returns-in-Err-clause-refused
returns-in-Err-clause-refused c = λ d e.
    let fits = c.fits_instance.ensures.0 c.if-not-fits_instance.false in
    let reads = c.reads_prices.ensures.0 c.if-not-reads_prices.false in
    let numbers = (subst (IsFirstOffOf c.args.cert.now.tables) c.in_default.is c.in_ok-off.ensures) in
    refused-schedule c.args.instance.now d (written_of c.args.cert.now.schedule) c.in-Err.code
    (tables-from c.args.instance.now d c.args.cert.now e c.requires.text fits reads numbers) (schedule-is d c.args.cert.now e) c.in-Err.ensures.refused

pub returns-then-not-does_claim_fit-clause-refused : goal.returns-then-not-does_claim_fit-clause-refused
returns-then-not-does_claim_fit-clause-refused c = λ d e.
    let fits = c.fits_instance.ensures.0 c.if-not-fits_instance.false in
    let reads = c.reads_prices.ensures.0 c.if-not-reads_prices.false in
    let numbers = (subst (IsFirstOffOf c.args.cert.now.tables) c.in_default.is c.in_ok-off.ensures) in
    refused-8 c.args.instance.now d c.args.cert.now e
    (schedule-from c.args.instance.now d c.args.cert.now e c.requires.text fits reads numbers c.in-Ok.cost c.in-Ok.ensures.cost)
    (λ claim. true≢false (sym (c.does_claim_fit.ensures.1 claim) ∙ c.if-not-does_claim_fit.true))

pub returns-in-Ok-Some-clause-refused : goal.returns-in-Ok-Some-clause-refused
returns-in-Ok-Some-clause-refused c = λ d e.
    let fits = c.fits_instance.ensures.0 c.if-not-fits_instance.false in
    let reads = c.reads_prices.ensures.0 c.if-not-reads_prices.false in
    let numbers = (subst (IsFirstOffOf c.args.cert.now.tables) c.in_default.is c.in_ok-off.ensures) in
    let schedule = schedule-from c.args.instance.now d c.args.cert.now e c.requires.text fits reads numbers c.in-Ok.cost c.in-Ok.ensures.cost in
    let claim = claim-fits d c.args.cert.now e (c.does_claim_fit.ensures.0 c.if-not-does_claim_fit.false) in
    refused-node c.args.instance.now d c.args.cert.now c.in-Ok-Some.code e (record { schedule = schedule; claim = claim })
    (subst (λ found. IsFirstCode c.args.instance.now c.args.cert.now found) c.in-Ok-Some.field-0-is c.in-Ok-Some.ensures)

pub returns-in-Ok-None-clause-holds : goal.returns-in-Ok-None-clause-holds
returns-in-Ok-None-clause-holds c =
    let fits = c.fits_instance.ensures.0 c.if-not-fits_instance.false in
    let reads = c.reads_prices.ensures.0 c.if-not-reads_prices.false in
    let numbers = (subst (IsFirstOffOf c.args.cert.now.tables) c.in_default.is c.in_ok-off.ensures) in
    record {
      holds = λ d e.
          let schedule = schedule-from c.args.instance.now d c.args.cert.now e c.requires.text fits reads numbers c.in-Ok.cost c.in-Ok.ensures.cost in
          let claim = claim-fits d c.args.cert.now e (c.does_claim_fit.ensures.0 c.if-not-does_claim_fit.false) in
          accepted c.args.instance.now d c.args.cert.now e c.requires.text (record { schedule = schedule; claim = claim })
          (subst (λ found. IsFirstCode c.args.instance.now c.args.cert.now found) c.in-Ok-None.field-0-is c.in-Ok-None.ensures);
      claimed = λ d e. grind (arith, cost-is, bound-is, d, c, e);
    }

pub returns-in-Ok-None-clause-claims : goal.returns-in-Ok-None-clause-claims
returns-in-Ok-None-clause-claims c = grind (arith, schedule-from, claim-fits, bound-is, certificates_claim_truly, accepted, c)
