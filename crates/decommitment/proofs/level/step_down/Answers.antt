-- The source of the segment at the level, or of the last one, falls.
use Rattle.std.proofs.Common.{arith, ◌≡◌, ◌∙◌, ◌-◌, ◌<◌, sym, ap, subst, length, slice_set, w64, to_z, of_z, if◌then◌else◌}
use Rattle.std.proofs.lemmas.Int.{to_z-of_z}
use Rattle.dispatch_repair.specs.Prelude.{segment_at}
use Rattle.decommitment.specs.inside.Fills.{IsWalked, IsSizedAmount, hour_period}
use Rattle.decommitment.specs.inside.Levels.{AreAtLevel, IsLeastAt, IsSunk}
use Rattle.decommitment.proofs.Levels.{lowered}
use Rattle.decommitment.proofs.Steps.{amount_kept, below_last, sized_in, source_inside, sunk_sized, up_to_last, walked_down, within_last}
use Rattle.decommitment.proofs.level.step_down.Goals as goal
use Rattle.decommitment.proofs.level.step_down.Goals.{After-open_at-part, After-sunk-step}

-- the least amount at the level
least_sized : (c : After-open_at-part) → IsSizedAmount c.open_at-part.result.low
least_sized c =
    let order = c.as_slice-order.result.now in
    let level = c.min-level.result in
    let same = c.as_slice-order.ensures.value in
    let within = within_last c.args.fill.now.level level (length order) c.min-level.ensures (subst (λ xs. 0 < length xs) (sym same) c.requires.segments) in
    let inside = source_inside c.args.system.now.instance.now order c.args.system.now.merit.now.order.items level same c.requires.hour.merit.order within in
    let range = c.source_range-range.result in
    let least = c.open_at-part.ensures.least in
    sized_in (hour_period c.args.system.now c.args.hour.now) (segment_at order level).source range c.open_at-part.result.low
    c.requires.hour.before.lawful c.requires.hour.before.period c.requires.ranges inside c.source_range-range.ensures least.low_end least.high_end

pub sunk-step-requires-clause-least : goal.sunk-step-requires-clause-least
sunk-step-requires-clause-least c = grind (arith, least_sized, After-open_at-part, amount_kept, c)

-- the new amount
amount_sized : (c : After-sunk-step) → IsSizedAmount c.open_at-part.result.low → IsSizedAmount c.sunk-step.result.amount
amount_sized c least =
    let order = c.as_slice-order.result.now in
    let level = c.min-level.result in
    let same = c.as_slice-order.ensures.value in
    let within = within_last c.args.fill.now.level level (length order) c.min-level.ensures (subst (λ xs. 0 < length xs) (sym same) c.requires.segments) in
    let inside = source_inside c.args.system.now.instance.now order c.args.system.now.merit.now.order.items level same c.requires.hour.merit.order within in
    let amount = to_z-of_z w64 c.amount_of.result (record { sfits = c.amount_of.type_inv }) ∙ c.amount_of.ensures in
    let kept = amount_kept c.open_at-part.result.low least in
    sunk_sized _ c.open_at-part.result.low c.sunk-step.result
    (subst IsSizedAmount (sym amount) (c.requires.standing.given.sizes (segment_at order level).source inside)) least.low
    (subst (λ z. IsSunk (to_z w64 (of_z w64 c.amount_of.result)) z c.sunk-step.result) kept c.sunk-step.ensures)

pub set_amount-requires-clause-amount : goal.set_amount-requires-clause-amount
set_amount-requires-clause-amount c = grind (arith, least_sized, After-open_at-part, amount_sized, After-sunk-step, amount_kept, c)

pub returns : goal.returns
returns c =
    let order = c.as_slice-order.result.now in
    let items = c.args.system.now.merit.now.order.items in
    let level = c.min-level.result in
    let fill = c.args.fill.now in
    let set = c.set_amount.new.fill in
    let period = hour_period c.args.system.now c.args.hour.now in
    let same : order ≡ items = c.as_slice-order.ensures.value in
    let within = within_last fill.level level (length order) c.min-level.ensures (subst (λ xs. 0 < length xs) (sym same) c.requires.segments) in
    let inside = source_inside c.args.system.now.instance.now order items level same c.requires.hour.merit.order within in
    let amount = to_z-of_z w64 c.amount_of.result (record { sfits = c.amount_of.type_inv }) ∙ c.amount_of.ensures in
    let sized = least_sized (goal.at.returns c).After-open_at-part in
    let least = amount_kept c.open_at-part.result.low sized in
    let kept = amount_kept c.sunk-step.result.amount (amount_sized (goal.at.returns c).After-sunk-step sized) in
    let at : AreAtLevel period order level fill.amounts.items =
    lowered period order fill.level level fill.amounts.items (below_last fill.level level (length order) c.min-level.ensures)
    (λ j. up_to_last fill.level level (length order) j c.min-level.ensures)
    (subst (λ xs. AreAtLevel period xs fill.level fill.amounts.items) (sym same) c.requires.standing.level) in
    subst (λ l. IsWalked period items fill (record set { level = l })) (sym c.level_down-fill.ensures)
    (subst (λ xs. IsWalked period xs fill (record set { level = if c.sunk-step.result.goes_on then level - 1 else level })) same
    (walked_down period order fill set level c.source_range-range.result c.sunk-step.result inside c.requires.standing.given at
    c.source_range-range.ensures (c.set_amount.ensures.amounts ∙ ap (slice_set fill.amounts.items (segment_at order level).source) kept) c.set_amount.ensures.given
    c.set_amount.ensures.totals c.set_amount.ensures.shortage
    c.open_at-part.result.low
    (subst (λ xs. IsLeastAt xs (segment_at order level).source level c.source_range-range.result c.open_at-part.result.low) (sym same) c.open_at-part.ensures.least)
    (subst (λ z. z) (λ i. IsSunk (amount i) (least i) c.sunk-step.result) c.sunk-step.ensures)))
