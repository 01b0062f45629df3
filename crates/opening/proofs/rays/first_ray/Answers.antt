-- One ray more.
use Rattle.std.proofs.Common.{◌≡◌, ◌∙◌, ◌<◌, ℕ, Bool, subst, sym}
use Rattle.std.proofs.lemmas.Bool.{false≢true}
use Rattle.uc_model.specs.declared.instance.Instance.{Instance}
use Rattle.dual_model.specs.Prelude.{ray_count, ray_table, root}
use Rattle.dual_model.specs.declared.node.Node.{Node}
use Rattle.dual_model.specs.declared.table.Table.{Table}
use Rattle.branch_tree.specs.Prelude.{IsOutcome}
use Rattle.branch_tree.specs.declared.found.Outcome.{Outcome}
use Rattle.opening.proofs.OpeningRays.{none_more, not_positive, positive}
use Rattle.opening.proofs.rays.first_ray.Goals as goal

-- the outcome at the ray's table is that of the root
of_ray : (exact : Bool) (own instance : Instance) (n : ℕ) (node : Node) (table : Table) (outcome : Outcome) → own ≡ instance → node ≡ root
    → table ≡ ray_table own n → IsOutcome exact instance node table outcome → IsOutcome exact instance root (ray_table instance n) outcome
of_ray exact own instance n node table outcome same is_root is_ray told =
    subst (λ (i : Instance). IsOutcome exact instance root (ray_table i n) outcome) same
    (subst (λ (t : Table). IsOutcome exact instance root t outcome) is_ray
    (subst (λ (at : Node). IsOutcome exact instance at table outcome) is_root told))

pub loop-n-preserved : goal.loop-n-preserved
loop-n-preserved c =
    let exact = c.args.exact in
    let instance = c.args.evaluator.now in
    let n = c.loop-n.n in
    let outcome = c.in_ok-outcome.outcome in
    let own = subst (λ (own : Instance). IsOutcome exact own c.root.result c.in_ok-table.table outcome) c.loop-n.invariant.0 c.in_ok-outcome.ensures.outcome.told in
    let told = of_ray exact c.instance-instance.result.now instance n c.root.result c.in_ok-table.table outcome c.instance-instance.ensures.is
    c.root.ensures c.in_ok-table.ensures.table own in (
      c.in_ok-outcome.ensures.kept ∙ c.loop-n.invariant.0,
      none_more exact instance n c.loop-n.invariant.1
          (not_positive exact instance n outcome told (λ above. absurd (false≢true (sym c.if-is_positive.false ∙ c.is_positive.ensures.1 above)))),
    )

pub returns-then-is_positive-clause-ray : goal.returns-then-is_positive-clause-ray
returns-then-is_positive-clause-ray c =
    let exact = c.args.exact in
    let instance = c.args.evaluator.now in
    let n = c.loop-n.n in
    let outcome = c.in_ok-outcome.outcome in
    let own = subst (λ (own : Instance). IsOutcome exact own c.root.result c.in_ok-table.table outcome) c.loop-n.invariant.0 c.in_ok-outcome.ensures.outcome.told in
    let told = of_ray exact c.instance-instance.result.now instance n c.root.result c.in_ok-table.table outcome c.instance-instance.ensures.is
    c.root.ensures c.in_ok-table.ensures.table own in
    record {
      within = subst (λ (own : Instance). n < ray_count own.periods) c.instance-instance.ensures.is c.loop-n-test.true;
      positive = positive exact instance n outcome told (c.is_positive.ensures.0 c.if-is_positive.true);
      first = c.loop-n.invariant.1;
    }
