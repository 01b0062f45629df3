-- The row is combined with the pivot row, and divided.
use Rattle.std.proofs.Common.{ap, sym, subst, ◌∙◌, length}
use Rattle.std.proofs.lemmas.List.{length-map}
use Rattle.std.proofs.lemmas.Result.{err_from_is_err_and}
use Rattle.pivot_run.specs.Prelude.{IsSmall, reduced, ClearingForms, IsWide}
use Rattle.pivot_run.specs.inside.Entries.{CombiningForms, number_at}
use Rattle.pivot_run.proofs.EntryLists.{length_spread}
use Rattle.pivot_run.proofs.Halting.{met_weaker}
use Rattle.pivot_run.proofs.SpreadRows.{cleared_entries, cleared_forms, entries_changed, holds, moved, view_of}
use Rattle.pivot_run.proofs.row.Row.clear.Goals as goal

pub returns-in_err-combine-clause-wide : goal.returns-in_err-combine-clause-wide
returns-in_err-combine-clause-wide c =
    let p = err_from_is_err_and c.from_residual.result c.from_residual.ensures.1 in
    let self = c.self.inside in
    let pivot = c.pivot.inside in
    let ks = self.entries.columns.items in
    let xs = self.entries.numbers.items in
    let ls = pivot.entries.columns.items in
    let ys = pivot.entries.numbers.items in
    let own = holds self.len ks xs c.args.self.now c.self.invariant.0 c.self.invariant.1 c.self.view_is in
    let other = holds pivot.len ls ys c.args.pivot.now c.pivot.invariant.0 c.pivot.invariant.1 c.pivot.view_is in
    rw (p.1, p.2) (met_weaker
    (λ wide. CombiningForms (number_at ks xs) (number_at ls ys) c.at.result.now c.at-2.result.now ks ls wide.size wide.other × IsWide wide.size wide.other)
    (λ wide. ClearingForms c.args.pivot.now c.args.j c.args.self.now wide.size wide.other × IsWide wide.size wide.other) _
    (λ wide told. (
      cleared_forms c.args.self.now c.args.pivot.now ks xs ls ys c.args.j c.at.result.now c.at-2.result.now wide.size wide.other own other c.requires.length c.at.ensures
          c.at-2.ensures told.0,
      told.1,
    )) c.in_err-combine.ensures.wide)

pub invariant_of-self : goal.invariant_of-self
invariant_of-self c =
    let self = c.self.inside in
    let pivot = c.pivot.inside in
    let ks = self.entries.columns.items in
    let xs = self.entries.numbers.items in
    let ls = pivot.entries.columns.items in
    let ys = pivot.entries.numbers.items in
    let own = holds self.len ks xs c.args.self.now c.self.invariant.0 c.self.invariant.1 c.self.view_is in
    let other = holds pivot.len ls ys c.args.pivot.now c.pivot.invariant.0 c.pivot.invariant.1 c.pivot.view_is in
    let ms = c.combine.new.made.columns.items in
    let zs = c.combine.new.made.numbers.items in
    let long = sym (length_spread self.len ks xs) ∙ ap length c.self.view_is in
    let all = cleared_entries c.args.self.now c.args.pivot.now ks xs ls ys c.args.j self.len c.at.result.now c.at-2.result.now ms zs own other c.requires.length c.at.ensures
    c.at-2.ensures long c.in_ok-combine.ensures.made in
    let made = c.in_ok-self-inside in
    let small = subst (λ it. IsSmall it) c.reduce.ensures.numbers c.reduce.ensures.small in
    let divided = entries_changed ms zs (reduced zs) all.2 (length-map zs _) small in
    let here = moved ms made.field-0.columns.items (reduced zs) made.field-0.numbers.items self.len (made.ensures.columns ∙ c.reduce.ensures.columns)
    (made.ensures.numbers ∙ c.reduce.ensures.numbers) divided all.3 in
    (here.0, here.1, c.largest-self-inside.ensures)

pub returns-clause-row : goal.returns-clause-row
returns-clause-row c =
    let self = c.self.inside in
    let pivot = c.pivot.inside in
    let ks = self.entries.columns.items in
    let xs = self.entries.numbers.items in
    let ls = pivot.entries.columns.items in
    let ys = pivot.entries.numbers.items in
    let own = holds self.len ks xs c.args.self.now c.self.invariant.0 c.self.invariant.1 c.self.view_is in
    let other = holds pivot.len ls ys c.args.pivot.now c.pivot.invariant.0 c.pivot.invariant.1 c.pivot.view_is in
    let ms = c.combine.new.made.columns.items in
    let zs = c.combine.new.made.numbers.items in
    let long = sym (length_spread self.len ks xs) ∙ ap length c.self.view_is in
    let all = cleared_entries c.args.self.now c.args.pivot.now ks xs ls ys c.args.j self.len c.at.result.now c.at-2.result.now ms zs own other c.requires.length c.at.ensures
    c.at-2.ensures long c.in_ok-combine.ensures.made in
    let made = c.in_ok-self-inside in
    view_of self.len ms made.field-0.columns.items (reduced zs) made.field-0.numbers.items _ (made.ensures.columns ∙ c.reduce.ensures.columns)
    (made.ensures.numbers ∙ c.reduce.ensures.numbers) all.0

pub returns-clause-narrow : goal.returns-clause-narrow
returns-clause-narrow c =
    let self = c.self.inside in
    let pivot = c.pivot.inside in
    let ks = self.entries.columns.items in
    let xs = self.entries.numbers.items in
    let ls = pivot.entries.columns.items in
    let ys = pivot.entries.numbers.items in
    let own = holds self.len ks xs c.args.self.now c.self.invariant.0 c.self.invariant.1 c.self.view_is in
    let other = holds pivot.len ls ys c.args.pivot.now c.pivot.invariant.0 c.pivot.invariant.1 c.pivot.view_is in
    let ms = c.combine.new.made.columns.items in
    let zs = c.combine.new.made.numbers.items in
    let long = sym (length_spread self.len ks xs) ∙ ap length c.self.view_is in
    let all = cleared_entries c.args.self.now c.args.pivot.now ks xs ls ys c.args.j self.len c.at.result.now c.at-2.result.now ms zs own other c.requires.length c.at.ensures
    c.at-2.ensures long c.in_ok-combine.ensures.made in
    all.1
