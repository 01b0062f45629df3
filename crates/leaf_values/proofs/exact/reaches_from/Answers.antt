-- One unit more, and what is answered of the sum so far.
use Rattle.std.proofs.Common.{◌≡◌, ℕ, ◌*◌, ◌<◌, arith, List, refl, sym, ap, subst, ◌∙◌, to_z, of_z, inr}
use Rattle.std.specs.Int.{w128}
use Rattle.std.proofs.lemmas.Int.{to_z-of_z}
use Rattle.uc_model.specs.Prelude.{thermal_count}
use Rattle.uc_model.specs.declared.limits.TheConstants.{MAX_UNITS}
use Rattle.dual_model.specs.Prelude.{IsWithin, IsFixOf}
use Rattle.leaf_values.specs.Entries.{UnitEntry, entry_in}
use Rattle.leaf_values.specs.Paths.{Node}
use Rattle.leaf_values.specs.Reached.{least_value}
use Rattle.leaf_values.specs.inside.ExactTotals.{IsGained, MAX_PART}
use Rattle.leaf_values.proofs.ExactSums.{enough-so-far, no-units, told-at-end}
use Rattle.leaf_values.proofs.GainSteps.{entries-with, entry-read, exact-read, gain-here, known-more, none-here, one_more}
use Rattle.leaf_values.proofs.exact.reaches_from.Goals as goal
use Rattle.leaf_values.proofs.exact.reaches_from.Goals.{After-is_reached}

known_unit : (c : After-is_reached) → c.loop-g.g < thermal_count c.args.instance.now
known_unit c = grind arith

-- what is decided of the entries at first is decided of those in the loop
decided-still : (periods g : ℕ) (node : Node) (old new : List UnitEntry) → new ≡ old → IsFixOf periods node g (entry_in old g).fix
    → IsFixOf periods node g (entry_in new g).fix
decided-still periods g node old new is decided = subst (λ (us : List UnitEntry). IsFixOf periods node g (entry_in us g).fix) (sym is) decided

pub loop-g-init : goal.loop-g-init
loop-g-init c = grind (arith, to_z-of_z, no-units, c)

pub returns-then-is_reached-clause-reaches : goal.returns-then-is_reached-clause-reaches
returns-then-is_reached-clause-reaches c = λ node decided value.
    let instance = c.args.instance.now in
    let table = c.args.table.now in
    let g = c.loop-g.g in
    let own = to_z-of_z w128 c.args.plain c.ranges.plain in
    let known = known_unit (goal.at.returns-then-is_reached-clause-reaches c).After-is_reached in
    let gained = subst (λ p. IsGained instance table node p g (to_z w128 c.loop-g.total-bits)) own (c.loop-g.invariant.sum node decided) in (
      (λ told. enough-so-far instance table node c.args.plain (least_value c.args.least.now) g (to_z w128 c.loop-g.total-bits) c.requires.lawful
          (omega (arith, known)) value gained (c.is_reached.ensures.0 c.if-is_reached.true)),
      (λ reaches. refl),
    )

pub value_from-exact-requires-clause-known : goal.value_from-exact-requires-clause-known
value_from-exact-requires-clause-known c = grind (arith, known_unit, After-is_reached, exact-read, c)

pub part-requires-clause-value : goal.part-requires-clause-value
part-requires-clause-value c = grind (arith, known_unit, After-is_reached, entry-read, c)

pub part-requires-clause-constant : goal.part-requires-clause-constant
part-requires-clause-constant c = grind (arith, known_unit, After-is_reached, entry-read, c)

pub returns-in-None-clause-kept : goal.returns-in-None-clause-kept
returns-in-None-clause-kept c =
    let instance = c.args.instance.now in
    let table = c.args.table.now in
    let known = known_unit (goal.at.returns-in-None-clause-kept c).After-is_reached in
    let are = c.loop-g.invariant.entries in
    entries-with instance table c.loop-g.entries _ are refl refl
    (known-more instance table c.loop-g.entries.exact.items c.loop-g.g c.value_from-exact.new.known known are.exact c.value_from-exact.ensures.known)

pub returns-in-None-clause-reaches : goal.returns-in-None-clause-reaches
returns-in-None-clause-reaches c = λ node decided value.
    let instance = c.args.instance.now in
    let table = c.args.table.now in
    let entries = c.loop-g.entries in
    let g = c.loop-g.g in
    let known = known_unit (goal.at.returns-in-None-clause-reaches c).After-is_reached in
    let are = c.loop-g.invariant.entries in
    let here = decided-still instance.periods g node c.args.entries.now.units.items entries.units.items (ap (λ v. v.items) c.loop-g.invariant.units) (decided g known) in
    let none = none-here instance table node entries g are known here c.index.result.now c.index-in-loop-g.result.now
    (entry-read instance table entries g c.index.result.now are known c.index.ensures)
    (entry-read instance table entries g c.index-in-loop-g.result.now are known c.index-in-loop-g.ensures)
    c.value_from-exact.result c.part.result c.value_from-exact.ensures.value c.part.ensures.part (sym c.gain.ensures.value ∙ c.in-None.is) in
    ((λ told. inr none), (λ reaches. refl))

pub loop-g-preserved : goal.loop-g-preserved
loop-g-preserved c =
    let instance = c.args.instance.now in
    let table = c.args.table.now in
    let entries = c.loop-g.entries in
    let g = c.loop-g.g in
    let known = known_unit (goal.at.loop-g-preserved c).After-is_reached in
    let are = c.loop-g.invariant.entries in
    let few : g < MAX_UNITS = omega (arith, known, c.requires.lawful.thermal_units) in
    let small = subst (λ o. IsWithin (2 * MAX_PART) o) c.in-Some.is c.gain.ensures.size in
    let more = one_more g (to_z w128 c.loop-g.total-bits) c.in-Some.gain c.sum-total.result few c.sum-total.ensures c.loop-g.invariant.size small in
    record {
      room = c.value_from-exact.ensures.room;
      entries = entries-with instance table entries _ are refl refl
          (known-more instance table entries.exact.items g c.value_from-exact.new.known known are.exact c.value_from-exact.ensures.known);
      units = c.loop-g.invariant.units;
      sum = λ node decided.
          let here = decided-still instance.periods g node c.args.entries.now.units.items entries.units.items (ap (λ v. v.items) c.loop-g.invariant.units)
          (decided g known) in
          gain-here instance table node entries g are known here c.index.result.now c.index-in-loop-g.result.now
          (entry-read instance table entries g c.index.result.now are known c.index.ensures)
          (entry-read instance table entries g c.index-in-loop-g.result.now are known c.index-in-loop-g.ensures)
          c.value_from-exact.result c.part.result c.value_from-exact.ensures.value c.part.ensures.part (to_z w128 (of_z w128 c.args.plain))
          (to_z w128 c.loop-g.total-bits) c.in-Some.gain _ (sym c.gain.ensures.value ∙ c.in-Some.is) (c.loop-g.invariant.sum node decided) more.sum;
      size = more.size;
    }

pub returns-clause-reaches : goal.returns-clause-reaches
returns-clause-reaches c = λ node decided value.
    let instance = c.args.instance.now in
    let table = c.args.table.now in
    let own = to_z-of_z w128 c.args.plain c.ranges.plain in
    let past = c.loop-g-test.false in
    let end = c.loop-g.auto.g-end in
    let long = c.len-g-end.ensures in
    let kept = c.args.entries.now.units.ok.0 in
    let count = c.requires.entries.reckoned.units.count in
    let all : c.loop-g.g ≡ thermal_count instance = omega (arith, past, end, long, kept, count) in
    let total = to_z w128 c.loop-g.total-bits in
    let gained = subst (λ p. IsGained instance table node p (thermal_count instance) total) own
    (subst (λ n. IsGained instance table node (to_z w128 (of_z w128 c.args.plain)) n total) all (c.loop-g.invariant.sum node decided)) in
    told-at-end instance table node c.args.plain (least_value c.args.least.now) total c.is_reached-2.result c.requires.lawful value gained c.is_reached-2.ensures
