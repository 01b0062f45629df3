-- A window of a lawful instance is lawful, where its units' states are.
use Rattle.std.proofs.Common.{arith, ℕ, ◌+◌, ◌≤◌, sym, subst}
use Rattle.uc_model.specs.Prelude.{thermal_unit, IsLawfulInstance, IsLawfulThermal}
use Rattle.roll.specs.Prelude.{Instance, Thermal, Carried, CarriedUnit, HasStates, IsLawfulState, state_of, IsWindow, continued}
use Rattle.roll.proofs.Parts.{part_lawful, window_is_part}

continued_lawful : (unit : Thermal) (left : CarriedUnit) → IsLawfulThermal unit → IsLawfulState left → IsLawfulThermal (continued unit left)
continued_lawful unit left lawful state = grind (arith, lawful, state)

pub window_lawful : (instance : Instance) (carried : Carried) (start len : ℕ) (window : Instance) → IsLawfulInstance instance
    → HasStates instance carried → 1 ≤ len → start + len ≤ instance.periods → IsWindow instance carried start len window → IsLawfulInstance window
window_lawful instance carried start len window lawful states some within is =
    part_lawful instance start len window lawful some (window_is_part instance carried start len window lawful within is)
    (λ g h. subst IsLawfulThermal (sym (is.thermal g h))
    (continued_lawful (thermal_unit instance g) (state_of carried g) (lawful.thermal g h) (states.lawful g h)))
