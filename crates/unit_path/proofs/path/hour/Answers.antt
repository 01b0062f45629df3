-- The entry of a period, from the later ones.
use Rattle.std.proofs.Common.{◌≡◌, suc, ◌-◌, ◌≤◌, add-one, true, false, refl, sym, ap, subst, ◌∙◌, arith, lit<, ◌*ℤ◌, to_z, of_z, Some, None, unsigned_abs}
use Rattle.std.specs.Int.{w64, w128}
use Rattle.uc_model.specs.Prelude.{sigma, period_count}
use Rattle.uc_model.specs.declared.limits.TheConstants.{MAX_COST}
use Rattle.uc_model.proofs.Common.{from-size, narrow, wide-size, sigma-size}
use Rattle.uc_model.proofs.Sizes.{wide}
use Rattle.dual_model.specs.Prelude.{may_be_off, may_be_on, MAX_MOVE, total_of}
use Rattle.unit_path.specs.inside.Choices.{choice_cost}
use Rattle.unit_path.specs.inside.Hours.{hour_in}
use Rattle.unit_path.proofs.Entries.{cold_start-entry, off_until-entry, on_until-entry, onward-entry}
use Rattle.unit_path.proofs.LeastStarts.{least-cold}
use Rattle.unit_path.proofs.LeastStops.{least-onward}
use Rattle.unit_path.proofs.RestLaws.{lasted-later}
use Rattle.unit_path.proofs.Tables.{cold_start-moves, later-moves, lesser-moves, move-before, one_more-moves, onward-moves, start-moves, start_cost-size, stop-moves, until-step, within-fits}
use Rattle.unit_path.proofs.path.hour.Goals as goal

pub onward-requires-clause-exit : goal.onward-requires-clause-exit
onward-requires-clause-exit c = grind (arith, within-fits, move-before, stop-moves, c)

pub onward-requires-clause-later : goal.onward-requires-clause-later
onward-requires-clause-later c =
    within-fits c.args.unit.now c.args.terms.now c.requires.sized (suc c.args.t) (choice_cost c.on_after-on_until.result.1)
    (later-moves (may_be_on c.args.fix.now c.args.t) (period_count c.args.terms.now - suc c.args.t) (hour_in c.args.hours.now (suc c.args.t)).onward c.on_after-on_until.result.1
    (λ e. ap (λ p. p.1) (c.on_after-on_until.ensures.on e) ∙ ap (λ k. (hour_in c.args.hours.now k).onward) (add-one c.args.t)) (λ e. ap (λ p. p.1) (c.on_after-on_until.ensures.off e))
    (onward-moves c.args.terms.now c.args.unit.now c.args.fix.now (suc c.args.t) c.args.hours.now c.requires.later (suc c.args.t) (omega arith) (omega arith)))

pub cold_start-requires-clause-cost : goal.cold_start-requires-clause-cost
cold_start-requires-clause-cost c =
    from-size c.sigma-start_cost.result _ MAX_COST refl
    (subst (λ z. unsigned_abs z ≤ MAX_COST) (sym c.sigma-start_cost.ensures) (sigma-size c.args.unit.now c.requires.lawful None c.args.t))

pub returns : goal.returns
returns c =
    let terms = c.args.terms.now in
    let unit = c.args.unit.now in
    let fix = c.args.fix.now in
    let t = c.args.t in
    let hours = c.args.hours.now in
    let kept = wide c.full_hour_before-stay.result MAX_MOVE c.full_hour_before-stay.ensures.size (lit< tt) in
    let small : unsigned_abs c.sigma-start_cost.result ≤ MAX_COST =
    subst (λ z. unsigned_abs z ≤ MAX_COST) (sym c.sigma-start_cost.ensures) (sigma-size unit c.requires.lawful None t) in
    let start_cost : to_z w64 (of_z w64 c.sigma-start_cost.result) ≡ sigma unit None t =
    narrow c.sigma-start_cost.result MAX_COST small (lit< tt) ∙ c.sigma-start_cost.ensures in
    let stay = to_z w128 (of_z w128 c.full_hour_before-stay.result) in
    let stay_size : unsigned_abs stay ≤ MAX_MOVE = wide-size c.full_hour_before-stay.result MAX_MOVE c.full_hour_before-stay.ensures.size in
    let left = period_count terms - suc t in
    let on_next = λ (e : may_be_on fix t ≡ true). ap (λ p. p.1) (c.on_after-on_until.ensures.on e) ∙ ap (λ k. (hour_in hours k).onward) (add-one t) in
    let on_none = λ (e : may_be_on fix t ≡ false). ap (λ p. p.1) (c.on_after-on_until.ensures.off e) in
    let off_next = λ (e : may_be_off unit fix t ≡ true). ap (λ p. p.1) (c.off_after-off_until.ensures.off e) ∙ ap (λ k. (hour_in hours k).cold_start) (add-one t) in
    let off_none = λ (e : may_be_off unit fix t ≡ false). ap (λ p. p.1) (c.off_after-off_until.ensures.on e) in
    let onward_moves = later-moves (may_be_on fix t) left (hour_in hours (suc t)).onward c.on_after-on_until.result.1 on_next on_none
    (onward-moves terms unit fix (suc t) hours c.requires.later (suc t) (omega arith) (omega arith)) in
    let cold_moves = later-moves (may_be_off unit fix t) left (hour_in hours (suc t)).cold_start c.off_after-off_until.result.1 off_next off_none
    (cold_start-moves terms unit fix (suc t) hours c.requires.later (suc t) (omega arith) (omega arith)) in
    let exit_moves = move-before terms t c.hour_to.result c.exit-exit.result c.stop_in-stop.result c.requires.period c.hour_to.ensures.size c.exit-exit.ensures
    (stop-moves unit terms fix c.requires.lawful c.requires.sized t c.stop_in-stop.result c.requires.period c.stop_in-stop.ensures) in
    record {
      stay = ap Some kept ∙ c.full_hour_before-stay.ensures.value;
      stay_size = stay_size;
      start_cost = start_cost;
      on_until = until-step (may_be_on fix) (period_count terms) t (hour_in hours (suc t)).on_until c.on_after-on_until.result.0 c.requires.period
          (λ e. ap (λ p. p.0) (c.on_after-on_until.ensures.on e) ∙ ap (λ k. (hour_in hours k).on_until) (add-one t))
          (λ e. ap (λ p. p.0) (c.on_after-on_until.ensures.off e))
          (on_until-entry terms unit fix (suc t) hours c.requires.later (suc t) (omega arith) (omega arith));
      off_until = until-step (may_be_off unit fix) (period_count terms) t (hour_in hours (suc t)).off_until c.off_after-off_until.result.0 c.requires.period
          (λ e. ap (λ p. p.0) (c.off_after-off_until.ensures.off e) ∙ ap (λ k. (hour_in hours k).off_until) (add-one t))
          (λ e. ap (λ p. p.0) (c.off_after-off_until.ensures.on e))
          (off_until-entry terms unit fix (suc t) hours c.requires.later (suc t) (omega arith) (omega arith));
      start = c.start_in-start.ensures;
      stop = c.stop_in-stop.ensures;
      onward = least-onward terms unit fix c.requires.lawful c.requires.sized t stay (hour_in hours (suc t)).onward c.on_after-on_until.result.1
          c.stop_in-stop.result c.onward.result c.exit-exit.result c.requires.period on_next on_none
          (λ since h may. onward-entry terms unit fix (suc t) hours c.requires.later since (suc t) (omega arith) (omega arith) (omega arith)
          (λ less. lasted-later (unit.ut - unit.ut0) unit.ut since t (suc t) (omega arith) may))
          (ap Some kept ∙ c.full_hour_before-stay.ensures.value)
          (c.exit-exit.ensures ∙ ap (λ x. total_of x (choice_cost c.stop_in-stop.result)) c.hour_to.ensures.value)
          c.stop_in-stop.ensures c.onward.ensures.cost c.onward.ensures.choice;
      onward_size = grind (arith, lesser-moves, move-before, terms, t, c, stay, stay_size, onward_moves, exit_moves);
      cold_start = least-cold terms unit fix c.requires.lawful c.requires.sized t c.start_in-start.result (hour_in hours (suc t)).cold_start
          c.off_after-off_until.result.1 c.cold_start.result _ c.requires.period off_next off_none
          (λ since h may cold. cold_start-entry terms unit fix (suc t) hours c.requires.later since (suc t) (omega arith) (omega arith) (omega arith)
          (λ less. lasted-later (unit.dt - unit.dt0) unit.dt since t (suc t) (omega arith) may)
          (λ less k high. cold k (omega arith)))
          c.start_in-start.ensures
          (ap (λ z. total_of (Some (terms.k *ℤ z)) (choice_cost c.start_in-start.result)) start_cost)
          c.cold_start.ensures.cost c.cold_start.ensures.choice;
      cold_start_size = lesser-moves (period_count terms - t) (choice_cost c.off_after-off_until.result.1) _ c.cold_start.result c.cold_start.ensures.cost
          (one_more-moves left (period_count terms - t) c.off_after-off_until.result.1 (omega arith) cold_moves)
          (move-before terms t (Some (terms.k *ℤ to_z w64 (of_z w64 c.sigma-start_cost.result))) _ c.start_in-start.result c.requires.period
          (start_cost-size unit terms c.requires.sized (to_z w64 (of_z w64 c.sigma-start_cost.result)) (from-size c.sigma-start_cost.result _ MAX_COST refl small))
          refl (start-moves unit terms fix c.requires.lawful c.requires.sized t c.start_in-start.result c.requires.period c.start_in-start.ensures));
    }
