-- The window is the one behind what is kept.
use Rattle.std.proofs.Common.{◌≡◌, ◌-◌, arith, subst}
use Rattle.roll.specs.Prelude.{IsCarried, IsWindow}
use Rattle.workers.proofs.Rolls.{found_ahead}
use Rattle.workers.proofs.rolling.found_ahead.Goals as goal

pub returns : goal.returns
returns g c =
    let instance = c.args.plan.instance.now in
    let kept = c.args.kept.now in
    let place = c.args.place in
    let start : place.from - 1 ≡ kept.done = omega (arith, c.requires.place.from) in
    found_ahead c.args.plan kept place c.in_ok-ahead.ahead c.search.result
    (record {
      carried = c.in_ok-carried.carried;
      is_carried = subst (λ n. IsCarried instance kept.schedule n c.in_ok-carried.carried) start c.in_ok-carried.ensures.carried;
      is_window = subst (λ n. IsWindow instance c.in_ok-carried.carried n place.len c.in_ok-ahead.ahead) start c.in_ok-ahead.ensures.window;
    })
    c.in_ok-ahead.ensures.lawful c.search.ensures.result c.requires.plan.pivot c.search.ensures.writable
