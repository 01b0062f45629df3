use mir.Val.{SFits, of_z, to_z}
use mir.Syntax.{w64}
use Rattle.std.proofs.Common.{rules, List, sym, subst, ◌∙◌}
use Rattle.std.proofs.lemmas.Int.{to_z-of_z}
use Rattle.decimal_json.specs.Value.{Frame}
use Rattle.decimal_json.specs.inside.Scan.{Outcome, scan, Leads, begun}
use Rattle.decimal_json.proofs.Exits.{passed_on}
use Rattle.decimal_json.proofs.Numerals.{reads_number}
use Rattle.decimal_json.proofs.number.number.Goals as goal

pub returns-in_err-places-clause-fault : goal.returns-in_err-places-clause-fault
returns-in_err-places-clause-fault c =
    passed_on c.from_residual-in_err-places.result c.in_err-places.field-0.0 (λ e. (outer : List Frame) → Leads e (scan c.args.bytes.now c.args.start outer (begun c.args.negative)))
    c.from_residual-in_err-places.ensures.1
    (λ outer. let whole = c.in_ok-at.ensures.read outer in
    subst (λ (o : Outcome). Leads c.in_err-places.field-0.0 o) (sym whole.same) (c.in_err-places.ensures.fault outer whole.spot c.args.negative whole.behind))

pub returns-in_err-down-clause-fault : goal.returns-in_err-down-clause-fault
returns-in_err-down-clause-fault c =
    passed_on c.from_residual-in_err-down.result c.in_err-down.field-0.0 (λ e. (outer : List Frame) → Leads e (scan c.args.bytes.now c.args.start outer (begun c.args.negative)))
    c.from_residual-in_err-down.ensures.1
    (λ outer. let whole = c.in_ok-at.ensures.read outer in let part = c.in_ok-places.ensures.read in let later = part.read outer whole.spot c.args.negative whole.behind in
    subst (λ (o : Outcome). Leads c.in_err-down.field-0.0 o) (sym (whole.same ∙ later.1)) (c.in_err-down.ensures.fault outer later.0 c.args.negative c.add_whole.new.digits.items part.digits later.2))

pub returns-clause-read : goal.returns-clause-read
returns-clause-read c = λ outer.
    let fits : SFits w64 c.held_exponent-exponent.result = search rules in
    reads_number c.args.bytes.now c.args.start c.in_ok-at.at c.in_ok-places.at c.in_ok-down.at c.in_ok-places.places c.in_ok-down.written outer c.args.negative c.in_ok-down.down
    c.add_whole.new.digits.items c.add_fraction.new.digits.items (to_z w64 (of_z w64 c.held_exponent-exponent.result)) (c.in_ok-at.ensures.read outer) c.in_ok-places.ensures.read c.in_ok-down.ensures.read
    (λ w h. to_z-of_z w64 c.held_exponent-exponent.result fits ∙ c.held_exponent-exponent.ensures w h)
