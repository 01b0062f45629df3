-- A decision for an on-child is left behind, and one for an off-child gives way to its on-child.
use Rattle.std.proofs.Common.{arith, true, sym, subst, ◌∙◌}
use Rattle.std.proofs.lemmas.Bool.{not-true, not-false}
use Rattle.cert_check.specs.inside.Walks.{IsPath}
use Rattle.cert_check.proofs.Pending.{left-behind, turned}
use Rattle.cert_check.proofs.WalkedPaths.{path-less, path-turned}
use Rattle.cert_check.proofs.path.turn.Goals as goal

pub returns-then-not-last : goal.returns-then-not-last
returns-then-not-last c = record {
  turns = grind (arith, turned, not-true, c);
  path = λ instance is.
      subst (λ path. IsPath instance path) (sym c.in_ok-push.ensures.items)
      (path-turned instance c.pop.new.self.items c.in-Some.last true
      (subst (λ path. IsPath instance path) c.in-Some.ensures.items (c.loop-last.invariant.path instance is)));
}

pub loop-last-preserved : goal.loop-last-preserved
loop-last-preserved c = record {
  pending = sym (left-behind c.pop.new.self.items c.loop-last.path.items c.in-Some.last c.in-Some.ensures.items (not-false c.in-Some.last.on c.if-not-last.false)) ∙ c.loop-last.invariant.pending;
  path = λ instance is.
      path-less instance c.pop.new.self.items c.in-Some.last (subst (λ path. IsPath instance path) c.in-Some.ensures.items (c.loop-last.invariant.path instance is));
}
