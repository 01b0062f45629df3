-- Whether a search uses the exact dispatch, and how many claims are enough for each node of its tree. This project's own form.
use Rattle.std.specs.Prelude.{ℕ, ◌+◌, ◌*◌, ◌^◌, Bool, true, false}
use Rattle.uc_model.specs.Prelude.{thermal_count}
pub use Rattle.uc_model.specs.declared.instance.Instance.{Instance}
pub use Rattle.decided_nodes.specs.declared.pivoting.Pivoting.{Pivoting}
use Rattle.decided_nodes.specs.declared.pivoting.Pivoting.TheVariants.{Off, On, Exhaustive}

abbrev pub uses_exact_dispatch : Pivoting → Bool
uses_exact_dispatch Off = false
uses_exact_dispatch On = true
uses_exact_dispatch Exhaustive = true

-- how many cells an instance has
abbrev pub cell_count : Instance → ℕ
cell_count instance = thermal_count instance * instance.periods

-- more nodes than a tree on these cells has: two to the power of its cells, twice
abbrev pub node_limit : Instance → ℕ
node_limit instance = 2 ^ (cell_count instance + 1)
