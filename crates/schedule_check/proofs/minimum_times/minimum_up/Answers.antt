-- The window is the minimum up time, or the whole horizon where that is shorter.
use Rattle.std.proofs.Common.{◌∙◌, ap, refl}
use Rattle.uc_model.specs.Prelude.{keeps_minimum_at, starts}
use Rattle.schedule_check.specs.WholeWatts.{commitment}
use Rattle.schedule_check.proofs.minimum_times.minimum_up.Goals as goal

pub returns : goal.returns
returns c =
    let on = commitment c.args.row.now in
    let test = starts c.args.unit.now on in
    c.keeps_minimum.ensures _ test on c.requires.counts c.requires.period refl
    ∙ ap (λ n. keeps_minimum_at n test on c.args.t) c.min.ensures
