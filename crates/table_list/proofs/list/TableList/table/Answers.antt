-- The numbers of the one kept whole, with the changes.
use Rattle.std.proofs.Common.{arith, rules, FitsSigned, ◌≡◌, List, sym, ap, ◌∙◌, slice_range}
use Rattle.std.specs.Int.{w64}
use Rattle.std.proofs.lemmas.Int.{to_z-of_z}
use Rattle.std.proofs.lemmas.Result.{IfOk-weaker}
use Rattle.table_list.specs.Changes.{all_changed}
use Rattle.table_list.specs.TableChanges.{KeptChange, changes_of}
use Rattle.table_list.specs.inside.Kept.{with_scale}
use Rattle.table_list.specs.inside.Steps.{numbered}
use Rattle.table_list.proofs.Rebuilding.{rebuilt_in}
use Rattle.table_list.proofs.list.TableList.table.Goals as goal

pub table-requires : goal.table-requires
table-requires c =
    let entry = c.index-entry.result.now in
    let fits : FitsSigned w64 entry.k = search rules in
    let numbers = simp to_z-of_z at c.in_ok-numbers.ensures.numbers in
    let changes = c.self.inside.kept.changes.items in
    let part : slice_range c.deref.result.now entry.from entry.end ≡ slice_range changes entry.from entry.end = ap (λ (xs : List KeptChange). slice_range xs entry.from entry.end) c.deref.ensures.value in
    let made : numbered c.make_all.new.self ≡ all_changed (with_scale c.index.result.now entry.k) (changes_of (slice_range changes entry.from entry.end)) =
    c.in_ok-make_all.ensures ∙ (λ i. all_changed (numbers i) (changes_of (part i))) in
    (rebuilt_in c.self.inside.kept c.args.self.now (sym c.self.view_is) c.self.invariant.all c.args.number c.requires entry c.index-entry.ensures c.index.result.now
    (numbered c.make_all.new.self) c.index.ensures made).1

pub returns : goal.returns
returns c = grind (arith, to_z-of_z, slice_range, rebuilt_in, IfOk-weaker, c)
