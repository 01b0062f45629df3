-- A scale is that of one number; so is a greatest multiplier.
use Rattle.std.proofs.Common.{◌≡◌, ℕ, ◌+◌, ◌^◌, ◌≤◌, ⊎_elim, arith, pos}
use Rattle.uc_model.proofs.Common.{linear}
use Rattle.prices.specs.Steps.{Table, IsGreatestSize, IsStepFor}
use Rattle.prices.proofs.laws.steps_differ.Goals as goal

no_ray : (table : Table) (number : ℕ) → table.k ≡ pos (1000000 + number) → table.k ≡ pos 0 → ⊥
no_ray table number e f = absurd (omega (arith, linear, e, f))

same_size : (table : Table) (m n : ℕ) → IsGreatestSize table m → IsGreatestSize table n → m ≡ n
same_size table m n a b =
    let low : n ≤ m = a.greatest n b.attained in
    let high : m ≤ n = b.greatest m a.attained in
    omega (arith, low, high)

differ : (table : Table) (first second : ℕ) → IsStepFor first table → IsStepFor second table → first ≡ second
differ table first second a b =
    ⊎_elim
    (λ (e : table.k ≡ pos (1000000 + first)).
    ⊎_elim
    (λ (f : table.k ≡ pos (1000000 + second)). omega (arith, linear))
    (λ (f : (table.k ≡ pos 0) × IsGreatestSize table (2 ^ 40 + second)). absurd (no_ray table first e f.0))
    b)
    (λ (e : (table.k ≡ pos 0) × IsGreatestSize table (2 ^ 40 + first)).
    ⊎_elim
    (λ (f : table.k ≡ pos (1000000 + second)). absurd (no_ray table second f e.0))
    (λ (f : (table.k ≡ pos 0) × IsGreatestSize table (2 ^ 40 + second)).
    omega (arith, same_size table (2 ^ 40 + first) (2 ^ 40 + second) e.1 f.1))
    b)
    a

pub returns : goal.returns
returns c = λ table first second a b. differ table first second a b
