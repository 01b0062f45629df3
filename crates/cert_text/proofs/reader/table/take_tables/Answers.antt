-- A table more goes behind those that were read; where one stops, so do the tables.
use Rattle.std.proofs.Common.{ap, ◌∙◌, sym, subst, Option, IfSome}
use Rattle.std.proofs.lemmas.Result.{err_from_is_err_and}
use Rattle.table_list.specs.Changes.{Table}
use Rattle.cert_text.specs.inside.Parts.{sizes}
use Rattle.cert_text.specs.inside.Drafts.{IsDrafted}
use Rattle.table_list.specs.TableChanges.{last_table}
use Rattle.cert_text.proofs.ChangeSteps.{last_more, table_more, table_stops_as, tables_done}
use Rattle.cert_text.proofs.reader.table.take_tables.Goals as goal

pub returns-in_err-told : goal.returns-in_err-told
returns-in_err-told c =
    let p = err_from_is_err_and c.from_residual.result c.from_residual.ensures.1 in
    rw (p.1, p.2) (table_stops_as (sizes c.args.size.now) c.loop.tables c.args.size.now.tables c.loop.counter c.loop.rest.now
    c.in_err-told.field-0.0 _ c.loop-test.true c.in_err-told.ensures.stop c.loop.invariant.read)

pub loop-preserved : goal.loop-preserved
loop-preserved c =
    let pushed = c.in_ok-told.ensures.pushed in
    record {
      read = table_more (sizes c.args.size.now) c.loop.tables _ c.args.size.now.tables c.loop.counter c.loop.rest.now _ _ _ c.loop-test.true pushed.told pushed.all c.loop.invariant.read;
      drafted = subst (λ (last : Option Table). IfSome last (IsDrafted (sizes c.args.size.now) c.push_told.new.draft)) (sym (ap last_table pushed.all ∙ last_more c.loop.tables pushed.table)) pushed.drafted;
    }

pub returns : goal.returns
returns c = tables_done (sizes c.args.size.now) c.loop.tables c.args.size.now.tables c.loop.counter c.loop.rest.now _ c.loop-test.false c.loop.invariant.read
