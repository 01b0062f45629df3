-- Powers in watts are what their bits say.
use Rattle.std.proofs.Common.{◌≡◌, ℕ, ◌*◌, ◌≤◌, sym, subst, ◌∙◌, arith, ℤ, to_z, of_z, unsigned_abs}
use Rattle.std.specs.Int.{w64}
use Rattle.uc_model.proofs.Common.{narrow}
use Rattle.demo_gen.specs.Demo.{millions}

pub narrow_millions : (k : ℕ) (z : ℤ) → z ≡ millions k → k ≤ 1000000 → to_z w64 (of_z w64 z) ≡ millions k
narrow_millions k z is h = narrow z (k * 1000000) (subst (λ x. unsigned_abs x ≤ k * 1000000) (sym is) (omega arith)) (omega arith) ∙ is
