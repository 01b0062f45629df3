use Rattle.std.proofs.Common.{arith}
use Rattle.decimal_json.specs.View.{view}
use Rattle.decimal_json.proofs.Values.{token_of, end_of, document_breaks, document_ends, document_goes_on, gives_fault}
use Rattle.decimal_json.proofs.reader.document.Goals as goal

pub returns-in_err-value : goal.returns-in_err-value
returns-in_err-value c = grind (arith, gives_fault, document_breaks, c)

pub returns-in-None : goal.returns-in-None
returns-in-None c = document_ends c.args.source.now c.in_ok-value.end c.token_at-at.result.0 (view c.in_ok-value.value) c.in_ok-value.ensures.read c.token_at-at.ensures.same
    (end_of c.args.source.now c.token_at-at.result.0 c.token_at-at.result.1 c.in-None.is c.token_at-at.ensures.end)

pub returns-in-Some : goal.returns-in-Some
returns-in-Some c = document_goes_on c.args.source.now c.in_ok-value.end c.token_at-at.result.0 c.in-Some.field-0 (view c.in_ok-value.value) c.no_json.result c.in_ok-value.ensures.read c.token_at-at.ensures.same
    (token_of c.args.source.now c.token_at-at.result.0 c.in-Some.field-0 c.token_at-at.result.1 c.in-Some.is c.token_at-at.ensures.byte) c.no_json.ensures
