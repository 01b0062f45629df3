-- The value with the constant, or the greater of that and the exact value.
use Rattle.std.proofs.Common.{◌≡◌, lit<, true, false, sym, ap, subst, ◌∙◌, arith, ◌+ℤ◌, to_z, of_z, IfOk}
use Rattle.std.specs.Int.{w128}
use Rattle.std.specs.Option.{is_some}
use Rattle.std.proofs.lemmas.List.{get_or_read}
use Rattle.uc_model.proofs.Sizes.{wide}
use Rattle.dual_value.specs.NodeAnswer.{IsPartOfKind, MAX_PART}
use Rattle.dual_value.specs.Rooms.{keeps_ramps}
use Rattle.dual_value.proofs.units.part_in.Goals as goal

pub returns-in_default-clause-part : goal.returns-in_default-clause-part
returns-in_default-clause-part c = λ node fix best.
    let plain : keeps_ramps c.args.room.now ≡ false = sym (ap keeps_ramps c.room.view_is) ∙ ap is_some c.in_default.is in
    let priced = c.args.priced.now in
    subst (λ b. IsPartOfKind b c.args.instance.now node c.args.table.now c.args.g (to_z w128 (of_z w128 c.part.result)) priced.plain.pattern.now) (sym plain)
    (record {
      value = priced.value;
      best = best;
      is = wide c.part.result MAX_PART c.part.ensures.size (lit< tt) ∙ c.part.ensures.value ∙ ap (λ x. priced.value +ℤ x) c.requires.constant;
    })

pub part_with_ramps-requires-clause-curve : goal.part_with_ramps-requires-clause-curve
part_with_ramps-requires-clause-curve c = grind (arith, get_or_read, c)

pub part_with_ramps-requires-clause-points : goal.part_with_ramps-requires-clause-points
part_with_ramps-requires-clause-points c = grind (arith, c)

pub returns-clause-part : goal.returns-clause-part
returns-clause-part c = λ node fix best.
    let exact : keeps_ramps c.args.room.now ≡ true = sym (ap keeps_ramps c.room.view_is) ∙ ap is_some c.in-Some.is in
    subst (λ b. IfOk c.part_with_ramps.result (λ part. IsPartOfKind b c.args.instance.now node c.args.table.now c.args.g part.0 part.1)) (sym exact)
    (c.part_with_ramps.ensures.part node fix best)

pub returns-clause-fault : goal.returns-clause-fault
returns-clause-fault c = grind (arith, c)
