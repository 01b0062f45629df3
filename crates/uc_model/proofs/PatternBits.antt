-- A pattern's commitment by its two words.
-- Cite from a crate above by `use Rattle.uc_model.proofs.PatternBits.{commitment-low}`.
use Rattle.std.proofs.Common.{◌≡◌, ℕ, zero, suc, ◌+◌, ◌-◌, ◌/◌, ◌^◌, ◌<◌, ◌≤◌, lt-ltb, le-ltb, sym, ap, ◌∙◌, arith, ◌==◌}
use Rattle.std.specs.Int.{bit_at}
use Rattle.std.proofs.lemmas.Bool.{cond-true, cond-false}
use Rattle.std.proofs.lemmas.Nat.Bits.{bit_at-lt, bit_at_lowest, bit_at-suc}
use Rattle.std.proofs.Math.Nat.{pow-suc}
use Rattle.uc_model.specs.Prelude.{Pattern, commitment_of}

pub commitment-low : (pattern : Pattern) (t : ℕ) → t < 128 → commitment_of pattern t ≡ (bit_at pattern.low t == 1)
commitment-low pattern t h = cond-true _ _ _ (lt-ltb t 128 h)

pub commitment-high : (pattern : Pattern) (t : ℕ) → 128 ≤ t → commitment_of pattern t ≡ (bit_at pattern.high (t - 128) == 1)
commitment-high pattern t h = cond-false _ _ _ (le-ltb t 128 h)

-- ---- a pattern by its periods
-- numbers of k bits that have the same ones are equal
same_bits : (k a b : ℕ) → a < 2 ^ k → b < 2 ^ k → ((i : ℕ) → i < k → bit_at a i ≡ bit_at b i) → a ≡ b
same_bits zero a b small other same = omega arith
same_bits (suc k) a b small other same =
    let half = same_bits k (a / 2) (b / 2) (omega (arith, pow-suc 2 k)) (omega (arith, pow-suc 2 k))
    (λ i h. sym (bit_at-suc a i) ∙ same (suc i) (omega arith) ∙ bit_at-suc b i) in
    let lowest = sym (bit_at_lowest a) ∙ same 0 (omega arith) ∙ bit_at_lowest b in
    omega (arith, half, lowest)

pub pattern_unique : (a b : Pattern) → a.low < 2 ^ 128 → b.low < 2 ^ 128 → a.high < 2 ^ 64 → b.high < 2 ^ 64
    → ((t : ℕ) → commitment_of a t ≡ commitment_of b t) → a ≡ b
pattern_unique a b low_a low_b high_a high_b same =
    let low = same_bits 128 a.low b.low low_a low_b
    (λ i h. grind (arith, bit_at-lt a.low i, bit_at-lt b.low i, sym (commitment-low a i h) ∙ same i ∙ commitment-low b i h)) in
    let high = same_bits 64 a.high b.high high_a high_b
    (λ i h. grind (arith, bit_at-lt a.high i, bit_at-lt b.high i, sym (late a i) ∙ same (128 + i) ∙ late b i)) in
    λ i. record { low = low i; high = high i }
  where
    late : (pattern : Pattern) (i : ℕ) → commitment_of pattern (128 + i) ≡ (bit_at pattern.high i == 1)
    late pattern i =
        let place : 128 + i - 128 ≡ i = omega arith in
        commitment-high pattern (128 + i) (omega arith) ∙ ap (λ k. bit_at pattern.high k == 1) place
