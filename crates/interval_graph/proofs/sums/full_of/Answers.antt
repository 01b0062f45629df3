-- There is a term at the full cap, within the limits.
use Rattle.std.proofs.Common.{◌≡◌, ◌≤◌, false, subst, ℤ, Option, None, IfSome, unsigned_abs}
use Rattle.uc_model.proofs.Common.{wide-size}
use Rattle.interval_graph.specs.Intervals.{MAX_TERM, term_in, IsThere}
use Rattle.interval_graph.proofs.sums.full_of.Goals as goal

not-none : (o : Option ℤ) → IsThere o → o ≡ None → ⊥
not-none o there none = let is = there.1 in cc

pub unreachable-requires : goal.unreachable-requires
unreachable-requires c = not-none (term_in c.args.rows.now c.args.t false false) (c.requires.rows.full c.args.t c.requires.period) c.in-None.is

pub returns-clause-size : goal.returns-clause-size
returns-clause-size c =
    wide-size c.in-Some.term MAX_TERM
    (subst (λ o. IfSome o (λ m. unsigned_abs m ≤ MAX_TERM)) c.in-Some.is (c.requires.rows.size c.args.t false false c.requires.period))
