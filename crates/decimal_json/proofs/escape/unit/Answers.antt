use Rattle.std.proofs.Common.{◌+◌}
use Rattle.decimal_json.specs.inside.Scan.{BreaksUnit}
use Rattle.decimal_json.proofs.Exits.{passed_on}
use Rattle.decimal_json.proofs.Numerals.{no_hex, first_hex, second_hex, third_hex, reads_unit, breaks_unit}
use Rattle.decimal_json.proofs.escape.unit.Goals as goal

pub returns-in_err-a-clause-fault : goal.returns-in_err-a-clause-fault
returns-in_err-a-clause-fault c = passed_on c.from_residual.result c.in_err-a.field-0.0 (BreaksUnit c.args.bytes.now c.args.start) c.from_residual.ensures.1
    (breaks_unit c.args.bytes.now c.args.start c.args.start _ c.in_err-a.field-0.0 (no_hex c.args.bytes.now c.args.start) c.in_err-a.ensures.fault)

pub returns-in_err-b-clause-fault : goal.returns-in_err-b-clause-fault
returns-in_err-b-clause-fault c = passed_on c.from_residual-in_err-b.result c.in_err-b.field-0.0 (BreaksUnit c.args.bytes.now c.args.start) c.from_residual-in_err-b.ensures.1
    (breaks_unit c.args.bytes.now c.args.start (c.args.start + 1) _ c.in_err-b.field-0.0 (first_hex c.args.bytes.now c.args.start c.in_ok-a.a c.in_ok-a.ensures.digit) c.in_err-b.ensures.fault)

pub returns-in_err-c-clause-fault : goal.returns-in_err-c-clause-fault
returns-in_err-c-clause-fault c = passed_on c.from_residual-in_err-c.result c.in_err-c.field-0.0 (BreaksUnit c.args.bytes.now c.args.start) c.from_residual-in_err-c.ensures.1
    (breaks_unit c.args.bytes.now c.args.start (c.args.start + 2) _ c.in_err-c.field-0.0 (second_hex c.args.bytes.now c.args.start c.in_ok-a.a c.in_ok-b.b c.in_ok-a.ensures.digit c.in_ok-b.ensures.digit) c.in_err-c.ensures.fault)

pub returns-in_err-d-clause-fault : goal.returns-in_err-d-clause-fault
returns-in_err-d-clause-fault c = passed_on c.from_residual-in_err-d.result c.in_err-d.field-0.0 (BreaksUnit c.args.bytes.now c.args.start) c.from_residual-in_err-d.ensures.1
    (breaks_unit c.args.bytes.now c.args.start (c.args.start + 3) _ c.in_err-d.field-0.0 (third_hex c.args.bytes.now c.args.start c.in_ok-a.a c.in_ok-b.b c.in_ok-c.c c.in_ok-a.ensures.digit c.in_ok-b.ensures.digit c.in_ok-c.ensures.digit) c.in_err-d.ensures.fault)

pub returns-clause-read : goal.returns-clause-read
returns-clause-read c = reads_unit c.args.bytes.now c.args.start c.in_ok-a.a c.in_ok-b.b c.in_ok-c.c c.in_ok-d.d c.in_ok-a.ensures.digit c.in_ok-b.ensures.digit c.in_ok-c.ensures.digit c.in_ok-d.ensures.digit
