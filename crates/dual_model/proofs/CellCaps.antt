-- The caps of an allowed pattern's cells are those that the terms are of.
-- Cite from a crate above by `use Rattle.dual_model.proofs.CellCaps.{cell_cap-cap}`.
use Rattle.std.proofs.Common.{◌≡◌, ℕ, zero, suc, Bool, true, false, not, ◌&&◌, refl, sym, ap, ◌∙◌, arith, ℤ, pos, ◌-ℤ◌, ◌*ℤ◌, ◌≤ℤ◌, ◌==◌, nat_lt, if◌then◌else◌}
use Rattle.std.specs.Int.{int_min}
use Rattle.std.proofs.lemmas.Int.{ints}
use Rattle.uc_model.specs.Prelude.{bit, Commitment, starts, stops, start_reduction, stop_reduction, cap, cell_cap}
use Rattle.uc_model.proofs.Common.{linear, mul-one, mul-zero, mul_nonneg, bit_nonneg}
use Rattle.dual_model.specs.Prelude.{Thermal, is_followed}

min_of_more : (a b : ℤ) → a ≤ℤ b → int_min a b ≡ a
min_of_more a b h = grind (arith, ints)

-- a start in the first period is one of a unit that is off initially
start_counts : (unit : Thermal) (on : Commitment) (t : ℕ) → (starts unit on t && not (unit.on0 && (t == 0))) ≡ starts unit on t
start_counts unit on zero = grind (arith, ints)
start_counts unit on (suc t) = grind (arith, ints)

followed_counts : (a b : Bool) → ((a && b) && b) ≡ (a && b)
followed_counts true true = refl
followed_counts true false = refl
followed_counts false b = refl

-- the two forms of the least of both caps, over plain numbers
both_caps : (full started stopped : ℤ) (more stop : Bool) → pos 0 ≤ℤ started → pos 0 ≤ℤ stopped
    → int_min (full -ℤ started) (full -ℤ stopped *ℤ bit (stop && more))
    ≡ (if more then int_min (full -ℤ started) (full -ℤ stopped *ℤ bit stop) else (full -ℤ started))
both_caps full started stopped true true h k = refl
both_caps full started stopped true false h k = refl
both_caps full started stopped false true h k = min_of_more _ _ (let none = mul-zero stopped in omega (arith, linear))
both_caps full started stopped false false h k = min_of_more _ _ (let none = mul-zero stopped in omega (arith, linear))

pub cell_cap-cap : (periods : ℕ) (unit : Thermal) (on : Commitment) (t : ℕ) → on t ≡ true
    → cell_cap periods unit t (starts unit on t) (is_followed periods unit on t) ≡ cap periods unit on t
cell_cap-cap periods unit on t e =
    (λ i. int_min
    (full -ℤ start_reduction unit *ℤ bit (start_counts unit on t i))
    (full -ℤ stop_reduction unit *ℤ bit (followed_counts (stops unit on (suc t)) (nat_lt (suc t) periods) i)))
    ∙ both_caps full (start_reduction unit *ℤ bit (starts unit on t)) (stop_reduction unit) (nat_lt (suc t) periods) (stops unit on (suc t))
    (mul_nonneg (start_reduction unit) (bit (starts unit on t)) (grind (arith, ints)) (bit_nonneg (starts unit on t)))
    (grind (arith, ints))
    ∙ (λ i. if nat_lt (suc t) periods
    then int_min (whole (sym full_is i) (starts unit on t)) (rest (sym full_is i) (stops unit on (suc t)))
    else whole (sym full_is i) (starts unit on t))
  where
    full : ℤ
    full = unit.pmax -ℤ unit.pmin

    whole : ℤ → Bool → ℤ
    whole f b = f -ℤ start_reduction unit *ℤ bit b

    rest : ℤ → Bool → ℤ
    rest f b = f -ℤ stop_reduction unit *ℤ bit b

    full_is : full *ℤ bit (on t) ≡ full
    full_is = ap (λ b. full *ℤ bit b) e ∙ mul-one full
