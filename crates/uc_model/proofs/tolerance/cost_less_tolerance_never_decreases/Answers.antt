-- The tolerance grows at most as fast as the cost's size.
use Rattle.std.proofs.Common.{◌≡◌, ℕ, suc, ◌+◌, ◌-◌, ◌*◌, ◌/◌, ◌≤◌, ap, ℤ, pos, negsuc, ◌-ℤ◌, ◌≤ℤ◌, arith}
use Rattle.std.proofs.Math.Nat.{mul-le-mul_left, mul-le-mul_right}
use Rattle.uc_model.specs.Prelude.{tolerance_of}
use Rattle.uc_model.proofs.Ring.{linear}
use Rattle.uc_model.proofs.tolerance.cost_less_tolerance_never_decreases.Goals as goal

-- of a greater size it is no less
at_greater : (size more gap : ℕ) → size ≤ more → size * gap / 1000000 ≤ more * gap / 1000000
at_greater size more gap le = omega (arith, mul-le-mul_right gap le)

-- and no more than the size is greater
grown_by : (size more gap : ℕ) → gap ≤ 1000000 → size ≤ more → more * gap / 1000000 + size ≤ size * gap / 1000000 + more
grown_by size more gap small le = grown size (more - size) more gap small (omega arith)
  where
    grown : (size by more gap : ℕ) → gap ≤ 1000000 → more ≡ size + by → more * gap / 1000000 + size ≤ size * gap / 1000000 + more
    grown size by more gap small e =
        let product = ap (λ n. n * gap) e in
        omega (arith, mul-le-mul_left by small)

never_decreases : (low high : ℤ) (gap : ℕ) → gap ≤ 1000000 → low ≤ℤ high
    → (low -ℤ pos (tolerance_of low gap)) ≤ℤ (high -ℤ pos (tolerance_of high gap))
never_decreases (pos a) (pos b) gap small rising = let faster = grown_by a b gap small (omega (arith, linear)) in omega (arith, linear)
never_decreases (pos a) (negsuc b) gap small rising = absurd (omega (arith, linear))
never_decreases (negsuc a) (pos b) gap small rising = let within = grown_by 0 b gap small (omega arith) in omega (arith, linear)
never_decreases (negsuc a) (negsuc b) gap small rising = let slower = at_greater (suc b) (suc a) gap (omega (arith, linear)) in omega (arith, linear)

pub returns : goal.returns
returns c = never_decreases
