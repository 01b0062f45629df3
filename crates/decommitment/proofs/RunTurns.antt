-- The turns of the drop pass over runs, and its end.
use Rattle.std.proofs.Common.{Option, Some, None, ◌≡◌, ◌∙◌, ⊎_elim, ℕ, zero, suc, List, set, length, length-set, inl, inr, refl, sym, subst, ap, arith, ℤ, pos, ◌+ℤ◌, ◌*ℤ◌, IsTrue, false, of_z, to_z}
use Rattle.std.specs.Int.{w128}
use Rattle.std.proofs.lemmas.List.{set-get_or, set-set}
use Rattle.std.specs.declared.alloc.Global.{Global}
use Rattle.std.specs.declared.vec.Vec.{Vec}
use Rattle.uc_model.specs.Prelude.{quotient_up, IsLawfulInstance, printed_cell_cost, printed_cost, thermal_count, thermal_unit, sum_below}
use Rattle.uc_model.specs.declared.limits.TheConstants.{COST_MAX}
use Rattle.uc_model.proofs.Sizes.{wide}
use Rattle.dispatch_repair.specs.declared.segment.Segment.{Segment}
use Rattle.dispatch_repair.specs.Prelude.{IsRoomOf, IsDispatchOf, AreSame}
use Rattle.decommitment.specs.DropCommitment.{Instance, Pattern, Printed, Ending, Dispatched, StuckIn, IsDropPass, IsEndingOf, IsStuckIn, is_better}
use Rattle.decommitment.specs.Standings.{IsDropped}
use Rattle.decommitment.specs.declared.pass.Standing.TheVariants as standing
use Rattle.decommitment.specs.declared.stand.Stand.TheVariants as stand
use Rattle.decommitment.specs.declared.stand.Trial.TheVariants as trial
use Rattle.decommitment.specs.inside.Runs.{Fill, Pass, Run, Stand, Trial, Turn, IsRun, IsRunPass, IsStandOf, IsTrialOf, IsTriedRun}
use Rattle.decommitment.specs.inside.Turns.{AreAllowed, IsReplaced, KeepsStuck, beats, ending_of_stand, ending_of_trial}
use Rattle.decommitment.proofs.Drops.{accepted, beats_is, ending_is, passed_turn, replaced_end, replaced_kept}
use Rattle.dispatch_repair.proofs.OneDispatch.{one_dispatch}

-- ---- the beginning
-- and it has no fill
abbrev is_none : Option Fill → Type 0
is_none None = Unit {0}
is_none (Some fill) = ⊥

-- the most-on commitment stands as it was dispatched or is stuck
pub stand_dispatched : (instance : Instance) (patterns : List Pattern) (tried : Trial) (cost : ℤ) → IsLawfulInstance instance → IsTrialOf instance patterns tried
    → tried ≡ trial.Dispatched cost → IsStandOf instance patterns (stand.Dispatched (to_z w128 (of_z w128 cost)))
stand_dispatched instance patterns tried cost lawful is same =
    let ending = subst (λ t. IsEndingOf instance patterns (ending_of_trial is.printed t)) same is.ending in
    let size = (accepted instance patterns is.printed cost lawful ending.0 ending.1).size in
    subst (λ z. IsStandOf instance patterns (stand.Dispatched z)) (sym (wide cost COST_MAX size (omega arith))) (record {
      printed = is.printed;
      ending = ending;
      most_on = tt;
    })

pub trial_stuck : (instance : Instance) (patterns : List Pattern) (tried : Trial) (period : ℕ) → IsTrialOf instance patterns tried → tried ≡ trial.Stuck period
    → IsStuckIn instance patterns period
trial_stuck instance patterns tried period is same = subst (λ t. IsEndingOf instance patterns (ending_of_trial is.printed t)) same is.ending

-- ---- a turn
module _ (instance : Instance) (order : List Segment) (start : List ℤ) (turn : Turn) (pass after : Pass) (it : IsTriedRun instance order start turn pass) where
  abbrev tried : List Pattern
  tried = set it.former turn.g it.fewest

  ends : IsEndingOf instance tried (ending_of_trial it.trial.printed turn.trial)
  ends = subst (λ p. IsEndingOf instance p (ending_of_trial it.trial.printed turn.trial)) it.patterns it.trial.ending

  -- the trial is kept
  pub run_better : IsTrue (beats turn.trial pass.stand) → after.patterns ≡ pass.patterns → after.best ≡ pass.tried → after.tried ≡ pass.best
      → IsReplaced turn.trial pass.stand after.stand → IsRunPass instance order start (suc turn.g) after
  run_better better patterns best other replaced =
      let items : after.patterns.items ≡ tried = ap (λ (v : Vec Pattern Global). v.items) patterns ∙ it.patterns in
      record {
        kept = record {
          count = ap length items ∙ length-set it.former turn.g it.fewest ∙ it.kept.count;
          allowed = subst (AreAllowed instance) (it.patterns ∙ sym items) it.allowed;
          run = subst (λ p. IsRun instance order p start after.best) (sym items)
              (subst (IsRun instance order tried start) (sym best) (subst (λ p. IsRun instance order p start pass.tried) it.patterns it.tried));
          printed = it.trial.printed;
          passed = subst (λ p. IsDropPass instance (suc turn.g) p (ending_of_stand it.trial.printed after.stand)) (sym items)
              (passed_turn instance turn.g it.former tried (ending_of_stand it.kept.printed pass.stand) (ending_of_stand it.trial.printed after.stand)
              (ending_of_trial it.trial.printed turn.trial) it.fewest it.kept.passed it.is_fewest ends
              (inl (
                beats_is it.trial.printed it.kept.printed turn.trial pass.stand ∙ better,
                record { commitment = refl; end = replaced_end it.trial.printed turn.trial pass.stand after.stand replaced },
              )));
          most_on = replaced_kept instance turn.trial pass.stand after.stand replaced it.kept.most_on;
        };
        costs = ap (λ (r : Run). length r.costs.items) other ∙ it.kept.run.known.count;
        room = subst (λ (r : Run). IsRoomOf instance r.room) (sym other) it.kept.run.room;
      }

  -- the pattern that stood is put back
  pub run_worse : beats turn.trial pass.stand ≡ false → after.patterns.items ≡ set pass.patterns.items turn.g turn.stood
      → after.best ≡ pass.best → after.tried ≡ pass.tried → after.stand ≡ pass.stand → IsRunPass instance order start (suc turn.g) after
  run_worse worse patterns best other same =
      let back : set tried turn.g turn.stood ≡ it.former =
      set-set it.former turn.g it.fewest turn.stood ∙ (ap (set it.former turn.g) it.stood ∙ set-get_or it.former turn.g turn.stood) in
      let items : after.patterns.items ≡ it.former = patterns ∙ ap (λ xs. set xs turn.g turn.stood) it.patterns ∙ back in
      record {
        kept = record {
          count = ap length items ∙ it.kept.count;
          allowed = subst (AreAllowed instance) (sym items) it.kept.allowed;
          run = subst (λ p. IsRun instance order p start after.best) (sym items) (subst (IsRun instance order it.former start) (sym best) it.kept.run);
          printed = it.kept.printed;
          passed = subst (λ p. IsDropPass instance (suc turn.g) p (ending_of_stand it.kept.printed after.stand)) (sym items)
              (subst (λ s. IsDropPass instance (suc turn.g) it.former (ending_of_stand it.kept.printed s)) (sym same)
              (passed_turn instance turn.g it.former it.former (ending_of_stand it.kept.printed pass.stand) (ending_of_stand it.kept.printed pass.stand)
              (ending_of_trial it.trial.printed turn.trial) it.fewest it.kept.passed it.is_fewest ends
              (inr (beats_is it.trial.printed it.kept.printed turn.trial pass.stand ∙ worse, record { commitment = refl; end = refl }))));
          most_on = subst (KeepsStuck instance) (sym same) it.kept.most_on;
        };
        costs = ap (λ (r : Run). length r.costs.items) other ∙ it.tried.known.count;
        room = subst (λ (r : Run). IsRoomOf instance r.room) (sym other) it.tried.room;
      }

-- ---- the end
-- whether an ending is better hangs on its cost alone
better_alike : (one other : Printed) (cost : ℤ) (stood : Ending) → is_better (Dispatched other cost) stood ≡ is_better (Dispatched one cost) stood
better_alike one other cost (Dispatched printed least) = refl
better_alike one other cost (StuckIn t) = refl

worse_alike : (one other : Printed) (cost : ℤ) (tried : Ending) → is_better tried (Dispatched other cost) ≡ is_better tried (Dispatched one cost)
worse_alike one other cost (Dispatched printed least) = refl
worse_alike one other cost (StuckIn t) = refl

-- so a pass ends as well with another schedule of the dispatch
moved : (instance : Instance) (n : ℕ) (patterns : List Pattern) (one other : Printed) (cost : ℤ) → IsDropPass instance n patterns (Dispatched one cost)
    → IsEndingOf instance patterns (Dispatched other cost) → IsDropPass instance n patterns (Dispatched other cost)
moved instance zero patterns one other cost passed is = (passed.0, is)
moved instance (suc n) patterns one other cost passed is = ⊎_elim
    (λ better. record {
      former = passed.former;
      stood = passed.stood;
      before = passed.before;
      turn = record {
        fewest = passed.turn.fewest;
        is_fewest = passed.turn.is_fewest;
        tried = Dispatched other cost;
        is_tried = subst (λ p. IsEndingOf instance p (Dispatched other cost)) better.1.commitment is;
        taken = grind (arith, better_alike, one, other, cost, passed, better);
      };
    })
    (λ worse.
    let before = subst (IsDropPass instance n passed.former) (sym worse.1.end) passed.before in
    let ended = subst (λ p. IsEndingOf instance p (Dispatched other cost)) worse.1.commitment is in
    record {
      former = passed.former;
      stood = Dispatched other cost;
      before = moved instance n passed.former one other cost before ended;
      turn = grind (arith, worse_alike, passed, one, other, cost, worse);
    })
    passed.turn.taken

-- the same schedules cost the same
same_cost : (instance : Instance) (patterns : List Pattern) (one other : Printed) → IsDispatchOf instance patterns one → IsDispatchOf instance patterns other
    → AreSame one other → printed_cost instance one ≡ printed_cost instance other
same_cost instance patterns one other first second same =
    let over : one.denominator ≡ other.denominator = first.periods.shape.whole ∙ sym second.periods.shape.whole in
    λ i.
    sum_below (thermal_count instance) (λ g. sum_below instance.periods (λ t. printed_cell_cost (thermal_unit instance g) (over i) (same.cells g t i)))
    +ℤ sum_below instance.periods (λ t. quotient_up (pos instance.a *ℤ same.shed t i) (pos (over i)) +ℤ quotient_up (pos instance.b *ℤ same.short t i) (pos (over i)))

-- a commitment that is kept with a cost is dispatched
pub dispatch_there : (instance : Instance) (n : ℕ) (patterns : List Pattern) (kept : Stand) (stood : ℤ) (one : Printed)
    → IsDropPass instance n patterns (ending_of_stand one kept) → kept ≡ stand.Dispatched stood → IsDispatchOf instance patterns one × (stood ≡ printed_cost instance one)
dispatch_there instance n patterns kept stood one passed is = subst (λ s. IsEndingOf instance patterns (ending_of_stand one s)) is (ending_is instance n patterns _ passed)

-- with any schedule of its dispatch
pub run_dropped : (instance : Instance) (patterns : List Pattern) (kept : Stand) (stood : ℤ) (one printed : Printed) (cost : ℤ) → IsLawfulInstance instance
    → IsDropPass instance (thermal_count instance) patterns (ending_of_stand one kept) → kept ≡ stand.Dispatched stood → IsDispatchOf instance patterns printed
    → cost ≡ printed_cost instance printed → IsDropped instance (standing.Dispatched printed cost)
run_dropped instance patterns kept stood one printed cost lawful passed is dispatch cost_is =
    let there = dispatch_there instance (thermal_count instance) patterns kept stood one passed is in
    let same : stood ≡ cost = there.1 ∙ same_cost instance patterns one printed there.0 dispatch (one_dispatch instance patterns one printed lawful there.0 dispatch) ∙ sym cost_is in
    let known : IsDropPass instance (thermal_count instance) patterns (Dispatched one cost) =
    subst (IsDropPass instance (thermal_count instance) patterns) (ap (ending_of_stand one) is ∙ (λ i. Dispatched one (same i))) passed in
    record {
      patterns = patterns;
      drop = record { passed = moved instance (thermal_count instance) patterns one printed cost known (dispatch, cost_is) };
      accepted = accepted instance patterns printed cost lawful dispatch cost_is;
      most_on = tt;
    }
