use Rattle.std.proofs.Common.{ℕ, ◌+◌, List, sym, subst, Bool}
use Rattle.decimal_json.specs.Value.{Frame}
use Rattle.decimal_json.specs.inside.Scan.{Spot, scan, JsonFault, Leads, MayEnd, AddsExponent}
use Rattle.decimal_json.proofs.Exits.{passed_on}
use Rattle.decimal_json.proofs.Numerals.{reads_exponent, no_digit_after_sign}
use Rattle.decimal_json.proofs.number.exponent.Goals as goal

pub returns-in_err-first-clause-fault : goal.returns-in_err-first-clause-fault
returns-in_err-first-clause-fault c =
    passed_on c.from_residual.result c.in_err-first.field-0.0
    (λ e. (outer : List Frame) (spot : Spot) (n : Bool) (ds fs : List ℕ) → MayEnd c.args.bytes.now c.args.start outer spot n ds fs → Leads e (scan c.args.bytes.now c.args.start outer spot))
    c.from_residual.ensures.1
    (λ outer spot n ds fs behind. subst (λ (e : JsonFault). Leads e (scan c.args.bytes.now c.args.start outer spot)) (sym c.in_err-first.ensures.fault.0)
    (no_digit_after_sign c.args.bytes.now c.args.start c.exponent_sign-down.result.1 c.in-Some.byte c.exponent_sign-down.result.0 c.in-Some.ensures.byte (sym c.if-not-is_mark_byte.ensures)
    c.exponent_sign-down.ensures.same c.in_err-first.ensures.fault.1 outer spot n ds fs behind))

pub returns-clause-read : goal.returns-clause-read
returns-clause-read c =
    let h = c.in_ok-first.ensures.digit in
    reads_exponent c.args.bytes.now c.args.start c.exponent_sign-down.result.1 c.exponent_digits-written.result.1 c.in-Some.byte h.0 c.exponent_digits-written.result.0 c.exponent_sign-down.result.0
    c.in-Some.ensures.byte (sym c.if-not-is_mark_byte.ensures) c.exponent_sign-down.ensures.same h.1 h.2
    (subst (λ (d : ℕ). AddsExponent c.args.bytes.now (c.exponent_sign-down.result.1 + 1) c.exponent_digits-written.result.1 d c.exponent_digits-written.result.0) h.3 c.exponent_digits-written.ensures.read)
    c.exponent_digits-written.ensures.past
