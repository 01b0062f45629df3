-- The changes are those of the table before with the new scale, and what they make is a table that has a text.
use Rattle.std.proofs.Common.{arith, sym, subst, ◌∙◌}
use Rattle.std.proofs.lemmas.Result.{err_from_is_err_and}
use Rattle.cert_text.specs.TextConditions.{IsTableText}
use Rattle.cert_text.specs.inside.Parts.{sizes}
use Rattle.cert_text.proofs.PartSteps.{ok_of}
use Rattle.cert_text.proofs.PartLaws.{next_form}
use Rattle.cert_text.proofs.ChangeSteps.{no_next, next_drafted}
use Rattle.cert_text.proofs.reader.table.take_next.Goals as goal

pub returns-in_default-clause-read : goal.returns-in_default-clause-read
returns-in_default-clause-read c = no_next (sizes c.args.size.now) c.args.before.now c.args.bytes.now c.in_default.ensures

pub take_changes-requires : goal.take_changes-requires
take_changes-requires c = grind (arith, c)

pub returns-in_err-rest-clause-read : goal.returns-in_err-rest-clause-read
returns-in_err-rest-clause-read c = grind (arith, next_drafted, err_from_is_err_and, c)

pub table-requires : goal.table-requires
table-requires c =
    let read = next_drafted (sizes c.args.size.now) c.args.draft.now c.args.before.now c.in-Some.next.k c.in-Some.next.changes c.ramps.result.now c.args.bytes.now c.in-Some.rest.now
    c.requires.before.numbers c.ramps.ensures.rows c.in-Some.ensures ∙ c.in_ok-rest.ensures in
    let text = next_form (sizes c.args.size.now) c.requires.sizes c.args.before.now c.requires.before.text c.args.bytes.now _ c.in_ok-rest.rest.now read in
    record { scale = text.scale; form = text.form }

pub returns-clause-read : goal.returns-clause-read
returns-clause-read c = grind (arith, next_drafted, ok_of, c)

pub returns-clause-drafted : goal.returns-clause-drafted
returns-clause-drafted c =
    let read = next_drafted (sizes c.args.size.now) c.args.draft.now c.args.before.now c.in-Some.next.k c.in-Some.next.changes c.ramps.result.now c.args.bytes.now c.in-Some.rest.now
    c.requires.before.numbers c.ramps.ensures.rows c.in-Some.ensures ∙ c.in_ok-rest.ensures in
    let text = next_form (sizes c.args.size.now) c.requires.sizes c.args.before.now c.requires.before.text c.args.bytes.now _ c.in_ok-rest.rest.now read in
    record { numbers = c.in_ok-table.ensures; text = subst (IsTableText c.args.size.now.periods c.args.size.now.thermal) (sym c.in_ok-table.ensures) text }
