-- The numbers so far, with the changes that are still to be made, are those of the table with all of them; and their rows rise.
use Rattle.std.proofs.Common.{◌≡◌, drop}
use Rattle.dual_model.specs.Prelude.{AreRising}
use Rattle.table_list.specs.Changes.{all_changed}
use Rattle.table_list.specs.TableChanges.{changes_of}
use Rattle.table_list.specs.inside.Steps.{numbered}
use Rattle.table_list.proofs.numbers.Numbers.make_all.Given as goal

abbrev pub invariant-loop-change : goal.invariant-loop-change
invariant-loop-change l = record {
  rising : AreRising l.self.ramps.items;
  left : all_changed (numbered l.self) (drop l.change-index (changes_of l.changes)) ≡ all_changed (numbered l.initial.self) (changes_of l.changes);
}
