-- The entries of the one are those of the other.
use Rattle.std.proofs.Common.{arith, ap, sym, subst, ◌∙◌, length}
use Rattle.pivot_run.specs.Prelude.{IsLargest}
use Rattle.pivot_run.proofs.EntryLists.{length_spread}
use Rattle.pivot_run.proofs.SpreadRows.{copied, moved, view_of}
use Rattle.pivot_run.proofs.row.Row.copy_from.Goals as goal

pub invariant_of-self : goal.invariant_of-self
invariant_of-self c =
    let own = c.self.inside in
    let other = c.other.inside in
    let made = c.in_ok-self-inside in
    let long = sym (length_spread own.len own.entries.columns.items own.entries.numbers.items) ∙ ap length c.self.view_is ∙ c.requires in
    let same = copied own.len other.len other.entries.columns.items other.entries.numbers.items c.args.other.now c.other.invariant.0 c.other.invariant.1 c.other.view_is long in
    let here = moved other.entries.columns.items made.field-0.columns.items other.entries.numbers.items made.field-0.numbers.items own.len made.ensures.columns made.ensures.numbers
    c.other.invariant.0 same.0 in
    (here.0, here.1, subst (λ xs. IsLargest xs other.largest) (sym made.ensures.numbers) c.other.invariant.2)

pub returns-clause-row : goal.returns-clause-row
returns-clause-row c = grind (arith, length_spread, copied, view_of, c)
