-- What contracts see of a state's fields, and what the fields keep. This project's own form.
use Rattle.std.specs.Prelude.{◌≡◌}
use Rattle.branch_tree.specs.Prelude.{node_count}
use Rattle.search_machine.specs.Prelude.{Machine, IsOrderly}
pub use Rattle.search_core.specs.declared.state.State.TheInside.{Inside}

abbrev pub view_of : Inside → Machine
view_of a = record { budget = a.budget; gap = a.gap; tree = a.tree; tables = a.tables; claims = a.claims.items; log = a.log; best = a.best; desks = a.desks.items }

pub record IsKept (a : Inside) : Type 0 where
  pub orderly : IsOrderly (view_of a)
  -- how many nodes the tree has
  pub count : a.count ≡ node_count a.tree.nodes
