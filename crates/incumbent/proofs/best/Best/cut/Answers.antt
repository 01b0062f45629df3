use Rattle.std.proofs.Common.{rules, ◌<◌, ◌≡◌, ap, arith}
use Rattle.incumbent.specs.Passes.{Known}
use Rattle.incumbent.proofs.Steps.{splits}
use Rattle.incumbent.proofs.best.Best.cut.Goals as goal

pub split_seat-seat-requires : goal.split_seat-seat-requires
split_seat-seat-requires g c =
    let taken : g.N.Taken.taken ≡ c.args._parts = c.requires.taken in
    let some_part : 0 < g.N.Taken.taken = omega (arith, taken) in
    let fewer : g.N.Taken.taken < c.pass.inside.seat.me.0.parts =
    omega (arith, taken, ap (λ (k : Known). k.parts) c.pass.view_is, c.requires.fewer) in
    (search rules, search rules, splits _ _ _ _ some_part fewer)
