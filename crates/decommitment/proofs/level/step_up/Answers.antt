-- The source of the segment at the level rises.
use Rattle.std.proofs.Common.{arith, ◌≡◌, ◌∙◌, ◌<◌, sym, ap, subst, length, suc, slice_set, w64, if◌then◌else◌}
use Rattle.std.proofs.lemmas.Int.{to_z-of_z}
use Rattle.dispatch_repair.specs.Prelude.{segment_at}
use Rattle.decommitment.specs.inside.Fills.{IsWalked, IsSizedAmount, hour_period}
use Rattle.decommitment.specs.inside.Levels.{AreAtLevel, IsRisen}
use Rattle.decommitment.proofs.Steps.{amount_kept, end_size, risen_sized, source_inside, walked_up}
use Rattle.decommitment.proofs.level.step_up.Goals as goal
use Rattle.decommitment.proofs.level.step_up.Goals.{After-risen-step}

pub risen-step-requires-clause-end : goal.risen-step-requires-clause-end
risen-step-requires-clause-end c = grind (arith, end_size, to_z-of_z, c)

amount_sized : (c : After-risen-step) → IsSizedAmount c.risen-step.result.amount
amount_sized c =
    let order = c.as_slice-order.result.now in
    let level = c.args.fill.now.level in
    let same = c.as_slice-order.ensures.value in
    let end = to_z-of_z w64 c.end.result (record { sfits = c.end.type_inv }) ∙ c.end.ensures in
    let amount = to_z-of_z w64 c.amount_of.result (record { sfits = c.amount_of.type_inv }) ∙ c.amount_of.ensures in
    let within = subst (λ xs. level < length xs) (sym same) c.requires.level in
    let inside = source_inside c.args.system.now.instance.now order c.args.system.now.merit.now.order.items level same c.requires.hour.merit.order within in
    risen_sized _ _ c.risen-step.result
    (subst IsSizedAmount (sym amount) (c.requires.standing.given.sizes (segment_at order level).source inside))
    (end_size (segment_at order level).end c.source_range-range.result _ end c.source_range-range.ensures.high_size)
    c.risen-step.ensures

pub set_amount-requires-clause-amount : goal.set_amount-requires-clause-amount
set_amount-requires-clause-amount c = grind (arith, amount_sized, After-risen-step, amount_kept, c)

pub returns : goal.returns
returns c =
    let order = c.as_slice-order.result.now in
    let items = c.args.system.now.merit.now.order.items in
    let fill = c.args.fill.now in
    let level = fill.level in
    let set = c.set_amount.new.fill in
    let period = hour_period c.args.system.now c.args.hour.now in
    let same : order ≡ items = c.as_slice-order.ensures.value in
    let end = to_z-of_z w64 c.end.result (record { sfits = c.end.type_inv }) ∙ c.end.ensures in
    let amount = to_z-of_z w64 c.amount_of.result (record { sfits = c.amount_of.type_inv }) ∙ c.amount_of.ensures in
    let within = subst (λ xs. level < length xs) (sym same) c.requires.level in
    let inside = source_inside c.args.system.now.instance.now order items level same c.requires.hour.merit.order within in
    let kept = amount_kept c.risen-step.result.amount (amount_sized (goal.at.returns c).After-risen-step) in
    let up = c.level_up-fill.ensures ∙ ap (λ l. if c.risen-step.result.goes_on then suc l else l) c.set_amount.ensures.level in
    subst (λ l. IsWalked period items fill (record set { level = l })) (sym up)
    (subst (λ xs. IsWalked period xs fill (record set { level = if c.risen-step.result.goes_on then suc level else level })) same
    (walked_up period order fill set level c.source_range-range.result c.risen-step.result inside c.requires.standing.given
    (subst (λ xs. AreAtLevel period xs level fill.amounts.items) (sym same) c.requires.standing.level) c.source_range-range.ensures
    (c.set_amount.ensures.amounts ∙ ap (slice_set fill.amounts.items (segment_at order level).source) kept) c.set_amount.ensures.given
    c.set_amount.ensures.totals c.set_amount.ensures.shortage within
    (subst (λ z. z) (λ i. IsRisen (amount i) (end i) c.risen-step.result) c.risen-step.ensures)))
