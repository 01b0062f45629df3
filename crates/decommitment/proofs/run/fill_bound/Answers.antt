-- A period in which the limit binds is filled as it is dispatched, and is no base.
use Rattle.std.proofs.Common.{◌≡◌, ◌∙◌, arith, ap, length, subst, sym, true≢false}
use Rattle.std.proofs.lemmas.List.{with_items_is}
use Rattle.dispatch_repair.specs.Prelude.{AreBeforePeriod, next_period, IsDispatchedFrom}
use Rattle.decommitment.specs.inside.Runs.{instance_of, order_of, outputs_before}
use Rattle.decommitment.proofs.Runs.{before_period}
use Rattle.decommitment.proofs.run.fill_bound.Goals as goal

pub copy_from_slice-requires : goal.copy_from_slice-requires
copy_from_slice-requires c =
    let before = before_period (instance_of c.args.setting.now) (order_of c.args.setting.now) c.args.patterns.now c.args.setting.now.start.now c.args.fills.now
    c.requires.setting.lawful c.requires.setting.start c.requires.fills c.requires.patterns (length c.args.fills.now) (omega arith) c.requires.period in
    c.args.fill.now.amounts.ok.0 ∙ c.requires.amounts ∙ sym before.count ∙ ap length (sym c.given_before-before.ensures)

pub dispatch_after-requires-clause-before : goal.dispatch_after-requires-clause-before
dispatch_after-requires-clause-before c =
    let before = before_period (instance_of c.args.setting.now) (order_of c.args.setting.now) c.args.patterns.now c.args.setting.now.start.now c.args.fills.now
    c.requires.setting.lawful c.requires.setting.start c.requires.fills c.requires.patterns (length c.args.fills.now) (omega arith) c.requires.period in
    subst (AreBeforePeriod (instance_of c.args.setting.now) c.args.patterns.now (length c.args.fills.now))
    (sym (c.deref_mut.ensures.value ∙ c.copy_from_slice.ensures.items ∙ c.given_before-before.ensures)) before

pub returns-in-Ok-clause-filled : goal.returns-in-Ok-clause-filled
returns-in-Ok-clause-filled c =
    let instance = instance_of c.args.setting.now in
    let t = length c.args.fills.now in
    let given = outputs_before c.args.setting.now.start.now c.args.fills.now t in
    let before = before_period instance (order_of c.args.setting.now) c.args.patterns.now c.args.setting.now.start.now c.args.fills.now
    c.requires.setting.lawful c.requires.setting.start c.requires.fills c.requires.patterns t (omega arith) c.requires.period in
    let copied : c.deref_mut.result.now ≡ given = c.deref_mut.ensures.value ∙ c.copy_from_slice.ensures.items ∙ c.given_before-before.ensures in
    let is = with_items_is c.copy_from_slice.new.self c.dispatch_after.new.amounts (omega (arith, c.in-Ok.ensures.count, c.deref_mut.ensures.len)) in
    let was = subst (λ z. z)
    (λ i. IsDispatchedFrom (next_period instance c.args.patterns.now t (copied i)) c.in-Ok.shortage (sym is i) c.dispatch_after.new.room.heads.items)
    c.in-Ok.ensures.dispatched in
    record {
      was = before;
      count = ap length is ∙ c.in-Ok.ensures.count ∙ ap length copied ∙ before.count;
      ready = λ base. absurd (true≢false (sym base));
      dispatched = λ numbers tops. record { shortages = was.shortages; merit = was.merit; heads = tops; sizes = was.sizes; kept = was.kept };
    }
