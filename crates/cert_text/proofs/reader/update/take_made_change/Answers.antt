-- A change that is within the size stands where it comes behind the last one and says another number.
use Rattle.std.proofs.Common.{arith}
use Rattle.std.specs.Option.{option_map}
use Rattle.cert_text.specs.inside.Parts.{sizes}
use Rattle.cert_text.specs.inside.Drafts.{so_far}
use Rattle.table_list.specs.TableChanges.{change_of}
use Rattle.cert_text.proofs.ChangeSteps.{change_stands, change_barred, no_change}
use Rattle.cert_text.proofs.reader.update.take_made_change.Goals as goal

pub make_change-requires-clause-price : goal.make_change-requires-clause-price
make_change-requires-clause-price c = grind (arith, c)

pub returns-in_default-clause-read : goal.returns-in_default-clause-read
returns-in_default-clause-read c = grind (arith, no_change, c)

pub returns-in-Some-2-clause-read : goal.returns-in-Some-2-clause-read
returns-in-Some-2-clause-read c =
    let made = rw c.in-Some-2.is at c.in_ok-left.ensures in
    change_stands (sizes c.args.size.now) (so_far c.args.draft.now c.args.left.now) (option_map change_of c.args.last.now) c.args.bytes.now c.in-Some.rest.now (change_of c.in-Some.change)
    c.in-Some.ensures made.other

pub returns-in-None-clause-read : goal.returns-in-None-clause-read
returns-in-None-clause-read c =
    change_barred (sizes c.args.size.now) (so_far c.args.draft.now c.args.left.now) (option_map change_of c.args.last.now) c.args.bytes.now c.in-Some.rest.now (change_of c.in-Some.change)
    c.in-Some.ensures (rw c.in-None.is at c.in_ok-left.ensures)
