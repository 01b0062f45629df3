-- The row in turn is the unit's, of the commitment; so what the row breaks the unit's pattern does.
use Rattle.std.proofs.Common.{◌≡◌, ℕ, ◌+◌, ◌<◌, ◌≤◌, ⊎_elim, [], length, sym, ap, subst, ◌∙◌, arith, pos, false, slice_index_or, Some, None}
use Rattle.std.proofs.lemmas.List.{get_or_read, get_or-map, length-map}
use Rattle.std.proofs.lemmas.Bool.{cases_lt}
use Rattle.std.proofs.Math.ListN.{get_or-eq_default}
use Rattle.uc_model.specs.Prelude.{IsLawfulThermal, cell_at, thermal_unit, thermal_count}
use Rattle.schedule_check.specs.SizedNumbers.{IsSized, IsSizedCell}
use Rattle.dual_model.proofs.Locality.{SameBelow}
use Rattle.schedule_check.specs.CommitmentRules.{IsFirstBrokenRule}
use Rattle.schedule_check.specs.WholeWatts.{IsSizedRow, commitment, row_of}
use Rattle.dispatch_repair.specs.Prelude.{commitment_at, printed_of}
use Rattle.dispatch_repair.specs.inside.Broken.{IsFirstOf}
use Rattle.dispatch_repair.proofs.BrokenRules.{unit_keeps, unit_breaks, more_kept, more_broken}
use Rattle.dispatch_repair.proofs.regularity.first_broken_rule.Goals as goal
use Rattle.dispatch_repair.proofs.regularity.first_broken_rule.Goals.{After-deref, in-Some, in_default}

within : (c : After-deref) → c.loop-unit.unit < thermal_count c.args.instance.now
within c = omega (arith, c.loop-unit-test.true, ap length c.as_slice-units.ensures)

unit-is : (c : After-deref) → c.index-units-unit.result ≡ thermal_unit c.args.instance.now c.loop-unit.unit
unit-is c = grind (arith, get_or_read, slice_index_or)

row-is : (c : After-deref) → row_of (printed_of c.args.rows.now) c.loop-unit.unit ≡ c.deref.result.now
row-is c = grind (arith, within, length-map, get_or-map)

width : (c : After-deref) → length c.deref.result.now ≡ c.args.instance.now.periods
width c =
    let printed = printed_of c.args.rows.now in
    ap length (sym (row-is c)) ∙ c.requires.rows.shape.cells c.loop-unit.unit [] (omega (arith, within c, c.requires.rows.shape.thermal))

same : (c : After-deref)
    → SameBelow c.args.instance.now.periods (commitment c.deref.result.now) (commitment_at c.args.patterns.now c.loop-unit.unit)
same c =
    subst (λ row. SameBelow c.args.instance.now.periods (commitment row) (commitment_at c.args.patterns.now c.loop-unit.unit)) (row-is c)
    (record { same = λ t ht. (c.requires.rows.cells c.loop-unit.unit t (within c) ht).on })

pub broken_rule-requires-clause-lawful : goal.broken_rule-requires-clause-lawful
broken_rule-requires-clause-lawful c =
    subst IsLawfulThermal (sym (unit-is c)) (c.requires.lawful.thermal c.loop-unit.unit (within c))

pub broken_rule-requires-clause-some : goal.broken_rule-requires-clause-some
broken_rule-requires-clause-some c = omega (arith, width c, c.requires.lawful.periods.0)

pub broken_rule-requires-clause-few : goal.broken_rule-requires-clause-few
broken_rule-requires-clause-few c = omega (arith, width c, c.requires.lawful.periods.1)

none : IsSized (pos 0)
none = omega arith

-- a new cell has no power, and past the row's end there is none
sized : (c : After-deref) (t : ℕ) → IsSizedCell (cell_at (printed_of c.args.rows.now) c.loop-unit.unit t)
sized c t = ⊎_elim
    (λ (h : t < c.args.instance.now.periods). record {
      output = subst IsSized (sym ((c.requires.powerless c.loop-unit.unit (within c)).output t h)) none;
      reserve = subst IsSized (sym ((c.requires.powerless c.loop-unit.unit (within c)).reserve t h)) none;
    })
    (λ (h : c.args.instance.now.periods ≤ t).
    subst IsSizedCell
    (sym (get_or-eq_default (row_of (printed_of c.args.rows.now) c.loop-unit.unit) (record { on = false; p = pos 0; r = pos 0; category = 0 })
    (subst (λ n. n ≤ t) (sym (ap length (row-is c) ∙ width c)) h)))
    (record { output = none; reserve = none }))
    (cases_lt t c.args.instance.now.periods)

pub broken_rule-requires-clause-sized : goal.broken_rule-requires-clause-sized
broken_rule-requires-clause-sized c = subst IsSizedRow (row-is c) (sized c)

pub loop-unit-preserved : goal.loop-unit-preserved
loop-unit-preserved c =
    let instance = c.args.instance.now in
    let patterns = c.args.patterns.now in
    let g = c.loop-unit.unit in
    let row = c.deref.result.now in
    let read = (goal.at.loop-unit-preserved c).After-deref in
    let some = c.requires.lawful.periods.0 in
    elim c.match-broken_rule.branch [
      | in-Some w ↦
          let broken = subst (λ unit. IsFirstBrokenRule unit row (Some w.in-Some.rule)) (unit-is read) w.in-Some.ensures in
          subst (IsFirstOf instance patterns (g + 1)) (sym w.first-is)
          (more_broken instance patterns g c.loop-unit.first w.in-Some.rule w.earlier-first.result c.loop-unit.invariant
          (unit_breaks instance patterns g row some (same read) (width read) w.in-Some.rule broken) w.earlier-first.ensures)
      | in_default w ↦
          let keeps = subst (λ unit. IsFirstBrokenRule unit row None) (unit-is read) w.in_default.ensures in
          subst (IsFirstOf instance patterns (g + 1)) (sym w.first-is)
          (more_kept instance patterns g c.loop-unit.first c.loop-unit.invariant
          (unit_keeps instance patterns g row some (same read) (width read) keeps))
    ]

pub returns : goal.returns
returns c =
    subst (λ n. IsFirstOf c.args.instance.now c.args.patterns.now n c.loop-unit.first)
    ((omega (arith, c.loop-unit-test.false, c.loop-unit.auto.unit-end)) ∙ ap length c.as_slice-units.ensures)
    c.loop-unit.invariant
