-- The table of the walk: the least cost of going on from each state before a period.
use Rattle.std.specs.Prelude.{◌≡◌, ℕ, ◌≤◌, true, false, List, slice_index_or, None}
pub use Rattle.uc_model.specs.declared.instance.Thermal.{Thermal}
pub use Rattle.uc_model.specs.declared.terms.Terms.{Terms}
pub use Rattle.dual_model.specs.declared.node.Fix.{Fix}
use Rattle.dual_model.specs.Prelude.{cost_to_go}
pub use Rattle.state_walk.specs.declared.walk.CostToGo.{CostToGo}

-- the table of the walk before period t, with n periods left: an entry for each time since which a state may last
abbrev pub entry : Terms → Thermal → Fix → ℕ → ℕ → ℕ → CostToGo
entry terms unit fix n t since =
    record { on = cost_to_go terms unit fix n t true since; off = cost_to_go terms unit fix n t false since }

abbrev pub entry_at : List CostToGo → ℕ → CostToGo
entry_at values since = slice_index_or values since (record { on = None; off = None })

abbrev pub IsTable : Terms → Thermal → Fix → ℕ → ℕ → List CostToGo → Type 0
IsTable terms unit fix n t values = (since : ℕ) → since ≤ t → entry_at values since ≡ entry terms unit fix n t since
