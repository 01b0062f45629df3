-- What is best in an on hour, and nothing in an off one.
use Rattle.std.proofs.Common.{◌≡◌, lit<, true, not, ◌&&◌, sym, ap, ◌∙◌, Option, Some, None, IfSome}
use mathlib.Core.Bool.{and-true}
use Rattle.uc_model.specs.Prelude.{starts, was_on, cell_cap, commitment_of, term_at}
use Rattle.uc_model.proofs.Sizes.{wide}
use Rattle.dual_model.specs.Prelude.{is_followed, MAX_TERM}
use Rattle.unit_exact.specs.inside.Hourly.{Given}
use Rattle.unit_exact.proofs.HourlySteps.{best-given}
use Rattle.hull_function.proofs.HullFunction.{hull-function}
use Rattle.unit_exact.proofs.hourly.given_in.Goals as goal

pub best_in-requires-clause-hull : goal.best_in-requires-clause-hull
best_in-requires-clause-hull c =
    let p = c.args.problem.now in
    hull-function p.unit.now p.table.now.k p.hull.now c.requires.lawful.unit_is c.requires.hull.function

if_some : (o : Option Given) (P Q : Given → Type 0) → IfSome o P → ((given : Given) → P given → Q given) → IfSome o Q
if_some None P Q is h = tt
if_some (Some given) P Q is h = h given is

pub returns : goal.returns
returns c =
    let p = c.args.problem.now in
    let unit = p.unit.now in
    let terms = c.args.plain.now.terms.now in
    let on = commitment_of c.args.plain.now.pattern.now in
    let here : on c.args.t ≡ true = sym c.if-not-is_on.ensures in
    let start : not c.was_on-start.result ≡ starts unit on c.args.t =
    ap not c.was_on-start.ensures ∙ sym (ap (λ b. not (was_on unit on c.args.t) && b) here ∙ and-true (not (was_on unit on c.args.t))) in
    let stop : c.is_followed-stop.result ≡ is_followed p.periods unit on c.args.t = c.is_followed-stop.ensures unit in
    let term = wide c.in_ok-term.term MAX_TERM (c.in_ok-term.ensures.size unit c.requires.sized) (lit< tt) in
    if_some c.best_in.result _ _ c.best_in.ensures (λ given is.
    best-given p.periods p.table.now unit terms on c.args.t p.hull.now c.at-hour.result _ given here c.requires.hull.function c.at-hour.ensures.at c.at-hour.ensures.sized
    (c.at-hour.ensures.cap ∙ (λ i. cell_cap p.periods unit c.args.t (start i) (stop i)))
    (sym ((λ i. Some (term i)) ∙ c.in_ok-term.ensures.value ∙ (λ i. term_at terms c.args.t (start i) (stop i)))) is)
