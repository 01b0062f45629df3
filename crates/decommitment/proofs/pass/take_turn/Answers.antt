-- The commitment with the unit's pattern of the fewest on periods was tried, or stands already.
use Rattle.std.proofs.Common.{◌≡◌, ◌<◌, ◌∙◌, arith, rules, length, refl, subst, slice_index_or}
use Rattle.std.proofs.lemmas.List.{get_or_read, set-get_or, set-set}
use Rattle.decommitment.specs.inside.Runs.{IsRun, IsTrialOf, instance_of, order_of}
use Rattle.decommitment.proofs.Drops.{allowed_set, passed_spared}
use Rattle.decommitment.proofs.pass.take_turn.Goals as goal

pub returns-then-eq : goal.returns-then-eq
returns-then-eq c =
    let instance = instance_of c.args.setting.now in
    let kept = c.requires.passed.kept in
    let patterns = c.args.pass.now.patterns.items in
    let fewest = c.fewest-fewest.result in
    let one : fewest ≡ c.index.result.now = search rules in
    let within : c.args.g < length patterns = omega (arith, c.requires.unit, kept.count) in
    let same : fewest ≡ slice_index_or patterns c.args.g fewest = one ∙ get_or_read patterns c.args.g c.index.result.now within c.index.ensures fewest in
    record {
      kept = record {
        count = kept.count;
        allowed = kept.allowed;
        run = kept.run;
        printed = kept.printed;
        passed = passed_spared instance c.args.g patterns _ fewest kept.passed c.fewest-fewest.ensures same;
        most_on = kept.most_on;
      };
      costs = c.requires.passed.costs;
      room = c.requires.passed.room;
    }

pub attempt-requires-clause-allowed : goal.attempt-requires-clause-allowed
attempt-requires-clause-allowed c = grind (arith, allowed_set, c)

pub attempt-requires-clause-origin : goal.attempt-requires-clause-origin
attempt-requires-clause-origin c = grind (arith, set-set, get_or_read, set-get_or, c)

pub returns : goal.returns
returns c =
    let instance = instance_of c.args.setting.now in
    let order = order_of c.args.setting.now in
    let start = c.args.setting.now.start.now in
    let former = c.args.pass.now.patterns.items in
    let fewest = c.fewest-fewest.result in
    let kept = c.requires.passed.kept in
    let within : c.args.g < length former = omega (arith, c.requires.unit, kept.count) in
    c.choose.ensures instance order start (record {
      former = former;
      fewest = fewest;
      is_fewest = c.fewest-fewest.ensures;
      unit = c.requires.unit;
      stood = get_or_read former c.args.g c.index.result.now within c.index.ensures c.index.result.now;
      patterns = refl;
      kept = kept;
      allowed = allowed_set instance former c.args.g fewest kept.count kept.allowed c.fewest-fewest.ensures;
      tried = subst (λ p. IsRun instance order p start c.attempt.new.run) c.deref.ensures.value c.in_ok-trial.ensures.run;
      trial = subst (λ p. IsTrialOf instance p c.in_ok-trial.trial) c.deref.ensures.value c.in_ok-trial.ensures.trial;
    })
