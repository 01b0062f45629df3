-- There is a stop between the lags where the counts at both ends differ.
use Rattle.std.proofs.Common.{◌≡◌, suc, ◌+◌, ◌-◌, sym, ap, ◌∙◌, arith, nat_lt}
use Rattle.uc_model.specs.Prelude.{stops}
use Rattle.schedule_check.specs.inside.Changes.{count_below}
use Rattle.schedule_check.proofs.Counting.{has_stop, apart}
use Rattle.schedule_check.proofs.start_category.has_stop_within.Goals as goal

pub returns : goal.returns
returns c = λ last unit on counts before.
    let test = stops unit on in
    let next : c.args.t + 1 ≡ suc c.args.t = omega arith in
    ap (λ n. nat_lt 0 n) (c.within.ensures last test counts (omega arith) (omega (arith, c.saturating_sub.ensures)))
    ∙ apart _ _
    ∙ ap (λ k. nat_lt (count_below (c.args.t + 1 - c.args.to) test) (count_below k test)) c.saturating_sub.ensures
    ∙ ap (λ k. nat_lt (count_below (k - c.args.to) test) (count_below (k - c.args.from) test)) next
    ∙ sym (has_stop c.args.from c.args.to c.args.t test (omega arith))
