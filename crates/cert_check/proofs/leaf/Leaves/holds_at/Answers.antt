-- The entries are those of the table, and what is kept is ready again.
use Rattle.std.proofs.Common.{arith, ◌≡◌, ℕ, subst, Some, slice_get}
use Rattle.std.proofs.lemmas.Option.{get_or_from_slice_get}
use Rattle.dual_model.specs.Prelude.{IsLawfulTable}
use Rattle.cert_check.proofs.leaf.Leaves.holds_at.Goals as goal

pub holds-holds-requires-clause-table : goal.holds-holds-requires-clause-table
holds-holds-requires-clause-table c =
    let tables = c.args.tables.now in
    let table = c.in_ok-loaded.loaded.table in
    let here : slice_get tables c.args.number ≡ Some table = subst (λ (n : ℕ). slice_get tables n ≡ Some table) c.in_ok-loaded.ensures.loaded.number_is c.in_ok-loaded.ensures.loaded.of_number.is in
    subst (IsLawfulTable c.args.instance.now) (get_or_from_slice_get tables c.args.number table table here) (c.requires.tables c.args.number table c.requires.number)

pub returns-clause-ready : goal.returns-clause-ready
returns-clause-ready c = grind (arith, c)

pub returns-clause-holds : goal.returns-clause-holds
returns-clause-holds c = λ place are.
    let tables = c.args.tables.now in
    let table = c.in_ok-loaded.loaded.table in
    record {
      table = table;
      is_table = subst (λ (n : ℕ). slice_get tables n ≡ Some table) c.in_ok-loaded.ensures.loaded.number_is c.in_ok-loaded.ensures.loaded.of_number.is;
      holds = c.holds-holds.ensures.holds place are;
    }
