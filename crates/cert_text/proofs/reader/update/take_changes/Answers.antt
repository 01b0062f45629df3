-- A change more is made; where one can't stand, the changes stop. In the end the rows that are left go behind those that are done.
use Rattle.std.proofs.Common.{arith}
use Rattle.std.specs.Option.{option_map}
use Rattle.std.proofs.lemmas.Result.{err_from_is_err_and}
use Rattle.cert_text.specs.inside.Parts.{sizes}
use Rattle.cert_text.specs.inside.Drafts.{so_far}
use Rattle.table_list.specs.TableChanges.{change_of}
use Rattle.cert_text.proofs.PartSteps.{ok_of}
use Rattle.cert_text.proofs.ChangeSteps.{change_more, change_stops_as, changes_done, still_priced}
use Rattle.cert_text.proofs.reader.update.take_changes.Goals as goal

pub returns-in_err-change : goal.returns-in_err-change
returns-in_err-change c = grind (arith, err_from_is_err_and, change_stops_as, c)

pub loop-preserved : goal.loop-preserved
loop-preserved c =
    let made = c.in_ok-change.ensures.made in
    record {
      read = change_more (sizes c.args.size.now) c.args.count c.loop.counter (so_far c.loop.draft c.loop.left.now) _ (option_map change_of c.loop.last) c.loop.rest.now _ _ _ c.loop-test.true c.in_ok-change.ensures.read made.table c.loop.invariant.read;
      priced = still_priced c.args.size.now.periods c.loop.draft _ c.loop.left.now _ _ c.loop.invariant.priced made.table;
      underway = made.underway;
    }

pub returns : goal.returns
returns c = grind (arith, changes_done, ok_of, c)
