-- The unit's value with its constant, as the room has it, or that it is blocked.
use Rattle.std.proofs.Common.{◌≡◌, ℕ, ◌<◌, lit<, Bool, true, false, refl, sym, ap, subst, ◌∙◌, arith, List, IfOk, IfErr, slice_index_or}
use Rattle.std.proofs.lemmas.List.Elements.{All-weaker}
use Rattle.uc_model.specs.Prelude.{IsLawfulThermal, commitment_of, thermal_count, thermal_unit}
use Rattle.uc_model.specs.declared.instance.Thermal.{Thermal}
use Rattle.uc_model.proofs.Common.{wide-size}
use Rattle.uc_model.proofs.Sizes.{wide}
use Rattle.dual_model.specs.Prelude.{MAX_COST_TO_GO, IsCell, IsNodeOf, IsBestPattern, IsBlocked}
use Rattle.dual_model.specs.Fixings.{HasNoPattern}
use Rattle.unit_exact.proofs.Found.{unit-read}
use Rattle.dual_value.specs.NodeAnswer.{Instance, IsPartFault, IsPartOfKind}
use Rattle.dual_value.specs.Rooms.{keeps_ramps}
use Rattle.dual_value.specs.inside.Fixes.{AreBelow, Fixing, Node}
use Rattle.dual_value.proofs.Parts.{fix-decided, none-decided}
use Rattle.dual_value.proofs.units.unit_part.Goals as goal

-- the unit that is read is that of the instance
unit-is : (instance : Instance) (units : List Thermal) (g : ℕ) (unit : Thermal) → units ≡ instance.thermal → g < thermal_count instance
    → unit ≡ slice_index_or units g unit → thermal_unit instance g ≡ unit
unit-is instance units g unit same within read = sym (unit-read instance units g unit same within read)

-- the node's periods are those of the instance
below : (instance : Instance) (node : Node) → IsNodeOf instance node → AreBelow instance.periods node
below instance node cells = All-weaker (λ (fixing : Fixing). IsCell instance fixing.g fixing.t) (λ (fixing : Fixing). fixing.t < instance.periods) (λ fixing cell. cell.period) node.fixings cells

-- without a pattern there is no schedule either
blocked : (exact : Bool) (instance : Instance) (node : Node) (g : ℕ) → HasNoPattern instance node g → IsBlocked exact instance node g
blocked false instance node g none = none
blocked true instance node g none = λ q x is. none x.on is.pattern

pub returns-in_default-clause-fault : goal.returns-in_default-clause-fault
returns-in_default-clause-fault c = (
  refl,
  blocked (keeps_ramps c.args.room.now) c.args.instance.now c.args.node.now c.args.g
      (none-decided c.args.instance.now c.args.node.now c.args.g c.args.instance.now.periods c.fix_of.result c.fix_of.ensures
      (below c.args.instance.now c.args.node.now c.requires.node) c.in_default.is),
)

pub unit_terms-requires-clause-lawful : goal.unit_terms-requires-clause-lawful
unit_terms-requires-clause-lawful c =
    subst IsLawfulThermal (unit-is c.args.instance.now c.as_slice.result.now c.args.g c.index-as_slice-g.result c.as_slice.ensures c.requires.unit c.index-as_slice-g.is)
    (c.requires.lawful.thermal c.args.g c.requires.unit)

pub unit_terms-requires-clause-place : goal.unit_terms-requires-clause-place
unit_terms-requires-clause-place c = grind (arith, unit-is, c)

pub least-requires-clause-room : goal.least-requires-clause-room
least-requires-clause-room c = c.requires.memory ∙ sym c.requires.room.periods ∙ sym c.in_ok-terms.ensures.periods

pub constant-requires-clause-periods : goal.constant-requires-clause-periods
constant-requires-clause-periods c = omega (arith, c.requires.size.periods, c.requires.lawful.periods.1)

pub least-requires-clause-lawful : goal.least-requires-clause-lawful
least-requires-clause-lawful c =
    subst IsLawfulThermal (unit-is c.args.instance.now c.as_slice.result.now c.args.g c.index-as_slice-g.result c.as_slice.ensures c.requires.unit c.index-as_slice-g.is)
    (c.requires.lawful.thermal c.args.g c.requires.unit)

pub constant-requires-clause-lawful : goal.constant-requires-clause-lawful
constant-requires-clause-lawful c =
    subst IsLawfulThermal (unit-is c.args.instance.now c.as_slice.result.now c.args.g c.index-as_slice-g.result c.as_slice.ensures c.requires.unit c.index-as_slice-g.is)
    (c.requires.lawful.thermal c.args.g c.requires.unit)

pub returns-in_default-least-clause-fault : goal.returns-in_default-least-clause-fault
returns-in_default-least-clause-fault c =
    let instance = c.args.instance.now in
    let same = unit-is instance c.as_slice.result.now c.args.g c.index-as_slice-g.result c.as_slice.ensures c.requires.unit c.index-as_slice-g.is in
    let terms = c.in_ok-terms.ensures.at_table instance same (sym c.requires.room.periods) in
    let fix = fix-decided c.args.node.now c.args.g instance.periods instance.periods c.fix_of.result c.in-Some.fix c.fix_of.ensures
    (below instance c.args.node.now c.requires.node) refl c.in-Some.is in (
      refl,
      blocked (keeps_ramps c.args.room.now) instance c.args.node.now c.args.g
          (c.in_default-least.ensures.unit_value instance c.args.node.now c.args.table.now c.args.g same terms fix),
    )

pub part_in-requires-clause-terms : goal.part_in-requires-clause-terms
part_in-requires-clause-terms c =
    let instance = c.args.instance.now in
    let same = unit-is instance c.as_slice.result.now c.args.g c.index-as_slice-g.result c.as_slice.ensures c.requires.unit c.index-as_slice-g.is in
    c.in_ok-terms.ensures.at_table instance same (sym c.requires.room.periods)

pub part_in-requires-clause-sized : goal.part_in-requires-clause-sized
part_in-requires-clause-sized c = grind (arith, unit-is, c)

pub part_in-requires-clause-constant : goal.part_in-requires-clause-constant
part_in-requires-clause-constant c = grind (arith, unit-is, wide, c)

pub part_in-requires-clause-numbers : goal.part_in-requires-clause-numbers
part_in-requires-clause-numbers c = grind (arith, wide-size, c)

pub returns-clause-part : goal.returns-clause-part
returns-clause-part c =
    let instance = c.args.instance.now in
    let same = unit-is instance c.as_slice.result.now c.args.g c.index-as_slice-g.result c.as_slice.ensures c.requires.unit c.index-as_slice-g.is in
    let terms = c.in_ok-terms.ensures.at_table instance same (sym c.requires.room.periods) in
    let fix = fix-decided c.args.node.now c.args.g instance.periods instance.periods c.fix_of.result c.in-Some.fix c.fix_of.ensures
    (below instance c.args.node.now c.requires.node) refl c.in-Some.is in
    subst (λ b. IfOk c.part_in.result (λ part. IsPartOfKind b instance c.args.node.now c.args.table.now c.args.g part.0 part.1)) (ap keeps_ramps c.in_ok-terms.ensures.kept)
    (c.part_in.ensures.part c.args.node.now fix
    (subst (λ z. IsBestPattern instance c.args.node.now c.args.table.now c.args.g (commitment_of c.in-Some-least.pattern) z)
    (sym (wide c.in-Some-least.value MAX_COST_TO_GO c.in-Some-least.ensures.size (lit< tt)))
    (c.in-Some-least.ensures.unit_value instance c.args.node.now c.args.table.now c.args.g same terms fix)))

pub returns-clause-fault : goal.returns-clause-fault
returns-clause-fault c =
    let instance = c.args.instance.now in
    let fix = fix-decided c.args.node.now c.args.g instance.periods instance.periods c.fix_of.result c.in-Some.fix c.fix_of.ensures
    (below instance c.args.node.now c.requires.node) refl c.in-Some.is in
    subst (λ b. IfErr c.part_in.result (IsPartFault b instance c.args.node.now c.args.g)) (ap keeps_ramps c.in_ok-terms.ensures.kept)
    (c.part_in.ensures.fault c.args.node.now fix)
