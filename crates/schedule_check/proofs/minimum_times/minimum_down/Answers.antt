-- The window is the minimum down time, or the whole horizon where that is shorter.
use Rattle.std.proofs.Common.{ℕ, not, ◌∙◌, ap, refl}
use Rattle.uc_model.specs.Prelude.{keeps_minimum_at, stops}
use Rattle.schedule_check.specs.WholeWatts.{commitment}
use Rattle.schedule_check.proofs.minimum_times.minimum_down.Goals as goal

pub returns : goal.returns
returns c =
    let on = commitment c.args.row.now in
    let test = stops c.args.unit.now on in
    let off = λ (k : ℕ). not (on k) in
    c.keeps_minimum.ensures _ test off c.requires.counts c.requires.period refl
    ∙ ap (λ n. keeps_minimum_at n test off c.args.t) c.min.ensures
