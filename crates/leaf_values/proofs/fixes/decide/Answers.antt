-- One bit more is set.
use Rattle.std.proofs.Common.{arith, ◌≡◌, ◌≢◌, ℕ, Bool, true, ap, sym, ◌∙◌, ◌==◌, ◌&&◌, ◌||◌}
use Rattle.uc_model.specs.Prelude.{commitment_of}
use Rattle.leaf_values.proofs.fixes.decide.Goals as goal

switched : (new old : ℕ → Bool) (p t : ℕ) → new p ≡ true → ((k : ℕ) → k ≢ p → new k ≡ old k) → new t ≡ (p == t || old t)
switched new old p t here others = grind (arith, here, others)

pub returns-then-fixing : goal.returns-then-fixing
returns-then-fixing c = record {
  known = λ t. switched (commitment_of c.switch_on.new.self) (commitment_of c.args.fix.now.known) c.args.fixing.now.t t c.switch_on.ensures.switched c.switch_on.ensures.others;
  on = λ t.
      switched (commitment_of c.switch_on-then-fixing.new.self) (commitment_of c.args.fix.now.on) c.args.fixing.now.t t
      c.switch_on-then-fixing.ensures.switched c.switch_on-then-fixing.ensures.others
      ∙ ap (λ b. (b && c.args.fixing.now.t == t) || commitment_of c.args.fix.now.on t) (sym c.if-fixing.true);
}

pub returns-else-fixing : goal.returns-else-fixing
returns-else-fixing c = record {
  known = λ t. switched (commitment_of c.switch_on.new.self) (commitment_of c.args.fix.now.known) c.args.fixing.now.t t c.switch_on.ensures.switched c.switch_on.ensures.others;
  on = λ t. ap (λ b. (b && c.args.fixing.now.t == t) || commitment_of c.args.fix.now.on t) (sym c.if-fixing.false);
}
