-- What agreement with a node says of each unit.
use Rattle.std.proofs.Common.{arith, ℕ, ◌<◌, List, [], ◌∷◌, refl, ◌≤◌, IsTrue}
use Rattle.std.specs.List.{list_all}
use Rattle.std.proofs.lemmas.Bool.{and_parts, and_from}
use Rattle.uc_model.specs.Prelude.{Schedule, thermal_unit, thermal_count, Obeys, IsLawfulThermal}
use Rattle.uc_model.proofs.Common.{is_allowed-obeying}
use Rattle.dual_model.specs.Prelude.{Fixing, Instance, Node, keeps, keeps_of, unit_agrees, IsPatternAt}
use Rattle.dual_model.specs.Fixings.{agrees}

kept_by_unit : (x : Schedule) (g : ℕ) (fixing : Fixing) → IsTrue (keeps fixing (x.thermal fixing.g).on)
    → IsTrue (keeps_of g (x.thermal g).on fixing)
kept_by_unit x g fixing kept = grind (arith, kept)

each_kept : (x : Schedule) (g : ℕ) (fixings : List Fixing) → IsTrue (list_all (λ fixing. keeps fixing (x.thermal fixing.g).on) fixings)
    → IsTrue (list_all (keeps_of g (x.thermal g).on) fixings)
each_kept x g [] kept = refl
each_kept x g (fixing ∷ fixings) kept =
    let parts = and_parts _ _ kept in
    and_from (keeps_of g (x.thermal g).on fixing) (list_all (keeps_of g (x.thermal g).on) fixings)
    (kept_by_unit x g fixing parts.0) (each_kept x g fixings parts.1)

-- where the schedule agrees with the node, each unit's commitment does
pub unit_agrees-agrees : (node : Node) (x : Schedule) (g : ℕ) → IsTrue (agrees node x) → IsTrue (unit_agrees node g (x.thermal g).on)
unit_agrees-agrees node x g kept = each_kept x g node.fixings kept

-- and it is a pattern at the node, where the schedule obeys
pub pattern-obeying : (instance : Instance) (node : Node) (q : ℕ) (x : Schedule) (g : ℕ) → 1 ≤ instance.periods → Obeys instance q x
    → IsTrue (agrees node x) → g < thermal_count instance → IsLawfulThermal (thermal_unit instance g)
    → IsPatternAt instance node g (x.thermal g).on
pattern-obeying instance node q x g some obeys kept hg lawful = record {
  allowed = is_allowed-obeying instance q x g some obeys hg lawful;
  agrees = unit_agrees-agrees node x g kept;
}
