-- The log tells it: by the scale alone, or by its entries.
use Rattle.std.proofs.Common.{arith, ◌↔◌, All, IsTrue, subst}
use Rattle.std.proofs.lemmas.Int.{to_z-of_z}
use Rattle.search_machine.specs.Prelude.{entries_of}
use Rattle.book.specs.Prelude.{BookView}
use Rattle.book.specs.inside.Chains.{IsElsewhere}
use Rattle.book.proofs.Scales.{above_all}
use Rattle.book.proofs.book.Book.fresh.Goals as goal

pub returns-else-is_above : goal.returns-else-is_above
returns-else-is_above g c =
    let a = c.self.inside in
    subst (λ (b : BookView). IsTrue c.is_fresh.result ↔ All (IsElsewhere b.tables c.args.table.now c.args.exact) (entries_of b.log c.args.node))
    c.self.view_is
    (subst (λ tables. IsTrue c.is_fresh.result ↔ All (IsElsewhere tables c.args.table.now c.args.exact) (entries_of a.log.entries c.args.node))
    c.as_slice.ensures.value c.is_fresh.ensures)

pub returns-then-is_above : goal.returns-then-is_above
returns-then-is_above g c = grind (arith, to_z-of_z, above_all, g, c)
