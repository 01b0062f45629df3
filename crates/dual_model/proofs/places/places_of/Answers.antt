-- A row's unit, and those before it that have no place yet, begin at the row.
use Rattle.std.proofs.Common.{◌≡◌, suc, ◌+◌, ◌-◌, ◌<◌, ◌++◌, length, take, replicate, slice_index_or, pos, sym, subst, ◌∙◌, add-one, arith}
use Rattle.std.proofs.lemmas.List.{take_all}
use Rattle.dual_model.specs.Prelude.{RampRow}
use Rattle.dual_model.proofs.UnitRows.{ArePlacesSoFar, all_places, more_places}
use Rattle.dual_model.proofs.places.places_of.Goals as goal

pub loop-place-preserved : goal.loop-place-preserved
loop-place-preserved c =
    let rows = c.args.rows.now in
    let place = c.loop-place.place in
    let old = c.loop-place.places.items in
    let none : RampRow = record { g = 0; t = 0; up = pos 0; down = pos 0 } in
    let inside : place < length rows = omega (arith, c.loop-place-test.true) in
    let last = (slice_index_or rows place none).g in
    let step = more_places rows c.requires place old none c.loop-place.invariant inside in
    let kept : take (last + 1) old ≡ old = take_all (last + 1) old (omega (arith, c.loop-place.invariant.later place none (omega arith) inside)) in
    let room : last + 1 - c.loop-place.places.len ≡ suc last - length old = omega (arith, c.loop-place.places.ok) in
    let items : c.resize.new.self.items ≡ old ++ replicate (suc last - length old) place =
    c.in_ok-resize.ensures.items ∙ (λ i. kept i ++ replicate (room i) place) in
    subst (λ n. ArePlacesSoFar rows n c.resize.new.self.items) (sym (add-one place))
    (subst (λ places. ArePlacesSoFar rows (suc place) places) (sym items) step)

pub returns : goal.returns
returns c = grind (arith, all_places, c)
