use Rattle.std.proofs.Common.{arith, sym, ◌∙◌}
use Rattle.std.specs.String.{string_bytes}
use Rattle.std.proofs.lemmas.Bool.{not-true, not-false}
use Rattle.decimal_json.specs.inside.Scan.{knows, BreaksKey}
use Rattle.decimal_json.proofs.Exits.{passed_on}
use Rattle.decimal_json.proofs.Values.{boundary_behind, no_key, key_breaks, key_twice, no_colon, key_read}
use Rattle.decimal_json.proofs.key.key.Goals as goal

pub returns-in_err-quote-clause-fault : goal.returns-in_err-quote-clause-fault
returns-in_err-quote-clause-fault c =
    passed_on c.from_residual.result c.in_err-quote.field-0.0 (BreaksKey (knows c.args.places.now) c.args.source.now c.args.start) c.from_residual.ensures.1
    (no_key c.args.source.now c.args.start (knows c.args.places.now) c.in_err-quote.field-0.0 c.in_err-quote.ensures.fault)

pub text-requires : goal.text-requires
text-requires c = grind (arith, boundary_behind, c)

pub returns-in_err-key-clause-fault : goal.returns-in_err-key-clause-fault
returns-in_err-key-clause-fault c =
    passed_on c.from_residual-in_err-key.result c.in_err-key.field-0.0 (BreaksKey (knows c.args.places.now) c.args.source.now c.args.start) c.from_residual-in_err-key.ensures.1
    (key_breaks c.args.source.now c.args.start c.in_ok-quote.quote (knows c.args.places.now) c.in_err-key.field-0.0 c.in_ok-quote.ensures.found c.in_err-key.ensures.fault)

pub returns-then-not-branch-clause-fault : goal.returns-then-not-branch-clause-fault
returns-then-not-branch-clause-fault c =
    key_twice c.args.source.now c.args.start c.in_ok-quote.quote c.in_ok-key.end (knows c.args.places.now) (string_bytes c.in_ok-key.key) c.in_ok-quote.ensures.found c.in_ok-key.ensures.read
    (not-false (knows c.args.places.now (string_bytes c.in_ok-key.key)) (sym c.in_ok-note_key.ensures.fresh ∙ c.if-not-branch.true))

pub returns-in_err-colon-clause-fault : goal.returns-in_err-colon-clause-fault
returns-in_err-colon-clause-fault c =
    passed_on c.from_residual-in_err-colon.result c.in_err-colon.field-0.0 (BreaksKey (knows c.args.places.now) c.args.source.now c.args.start) c.from_residual-in_err-colon.ensures.1
    (no_colon c.args.source.now c.args.start c.in_ok-quote.quote c.in_ok-key.end (knows c.args.places.now) (string_bytes c.in_ok-key.key) c.in_err-colon.field-0.0 c.in_ok-quote.ensures.found
    c.in_ok-key.ensures.read (not-true (knows c.args.places.now (string_bytes c.in_ok-key.key)) (sym c.in_ok-note_key.ensures.fresh ∙ c.if-not-branch.false))
    c.in_err-colon.ensures.fault)

pub returns-clause-read : goal.returns-clause-read
returns-clause-read c =
    key_read c.args.source.now c.args.start c.in_ok-quote.quote c.in_ok-key.end c.in_ok-colon.colon (knows c.args.places.now) (string_bytes c.in_ok-key.key) c.in_ok-quote.ensures.found
    c.in_ok-key.ensures.read (not-true (knows c.args.places.now (string_bytes c.in_ok-key.key)) (sym c.in_ok-note_key.ensures.fresh ∙ c.if-not-branch.false))
    c.in_ok-colon.ensures.found
