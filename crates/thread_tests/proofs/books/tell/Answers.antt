-- The opening is true: the value is the root's bound at the table.
use Rattle.std.proofs.Common.{◌<ℤ◌, ◌≤◌, FitsSigned, false, pos, arith, rules, sym, subst, ℤ}
use Rattle.std.specs.Int.{w128}
use Rattle.std.proofs.lemmas.Int.{to_z-of_z}
use Rattle.uc_model.specs.Prelude.{IsLawfulInstance}
use Rattle.dual_model.specs.Prelude.{IsTableBound, IsLawfulTable, root}
use Rattle.thread_tests.proofs.books.tell.Goals as goal

pub ask_all-requires-clause-opening : goal.ask_all-requires-clause-opening
ask_all-requires-clause-opening g c =
    let instance = c.in_ok-instance.instance in
    let table = c.in_ok-table.table in
    let value = c.in_ok-table.value in
    let lawful : IsLawfulInstance instance = c.in_ok-instance.ensures in
    let lawful_table : IsLawfulTable instance table = c.in_ok-table.ensures.lawful in
    let scale : pos 0 <ℤ table.k = c.in_ok-table.ensures.scale in
    let bound : IsTableBound false instance root table value = c.in_ok-table.ensures.bound in
    let fits : FitsSigned w128 value = search rules in
    let small : c.from.result ≤ 65535 = omega (arith, c.from.ensures, c.ranges.budget.fits) in
    record {
      instance = lawful;
      budget = omega (arith, small);
      gap = omega arith;
      table = lawful_table;
      scale = scale;
      bound = subst (λ (z : ℤ). IsTableBound false instance root table z) (sym (to_z-of_z w128 value fits)) bound;
    }
