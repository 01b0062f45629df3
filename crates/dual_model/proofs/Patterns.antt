-- Of finitely many patterns that pass a test one has the least value, or none passes.
use Rattle.std.proofs.Common.{◌≡◌, ℕ, zero, suc, Bool, true, false, ◌==◌, sym, ◌∙◌, arith, ⊎_elim, ℤ, ◌≤ℤ◌, IsTrue, int_le, Option, Some, None, if◌then◌else◌}
use Rattle.std.proofs.lemmas.Int.{ints}
use Rattle.std.proofs.lemmas.Bool.{cases_Bool, true≢false, cond_both}
use Rattle.uc_model.specs.Prelude.{Commitment}
use Rattle.uc_model.proofs.Common.{le_trans, le_of_eq, int_le-true}
use Rattle.dual_model.proofs.Locality.{SameBelow}

-- the test and the value depend on the periods below n alone
pub record IsLocal (n : ℕ) (test : Commitment → Bool) (value : Commitment → ℤ) : Type 0 where
  pub tests : (on other : Commitment) → SameBelow n on other → test on ≡ test other
  pub values : (on other : Commitment) → SameBelow n on other → value on ≡ value other

-- the pattern passes, and none that passes has a lower value
pub record IsLeastOf (test : Commitment → Bool) (value : Commitment → ℤ) (on : Commitment) : Type 0 where
  pub passes : IsTrue (test on)
  pub least : (other : Commitment) → IsTrue (test other) → value on ≤ℤ value other

pub record PassesNone (test : Commitment → Bool) : Type 0 where
  pub none : (on : Commitment) → ¬ IsTrue (test on)

-- the commitment with the bit b in period n
abbrev pub with_bit : ℕ → Bool → Commitment → Commitment
with_bit n b on t = if t == n then b else on t

with_bit-same : (n : ℕ) (b : Bool) (on other : Commitment) → SameBelow n on other → SameBelow (suc n) (with_bit n b on) (with_bit n b other)
with_bit-same n b on other h = grind (arith, ints, h)

-- its own bit changes nothing
own_bit : (n : ℕ) (on : Commitment) (b : Bool) → on n ≡ b → SameBelow (suc n) on (with_bit n b on)
own_bit n on b e = grind (arith, ints, e)

half_local : (n : ℕ) (test : Commitment → Bool) (value : Commitment → ℤ) (b : Bool) → IsLocal (suc n) test value
    → IsLocal n (λ on. test (with_bit n b on)) (λ on. value (with_bit n b on))
half_local n test value b h = record {
  tests = λ on other same. h.tests _ _ (with_bit-same n b on other same);
  values = λ on other same. h.values _ _ (with_bit-same n b on other same);
}

-- the least of one half: those with the bit b in period n
abbrev Half : ℕ → (Commitment → Bool) → (Commitment → ℤ) → Bool → Commitment → Type 0
Half n test value b on = IsLeastOf (λ c. test (with_bit n b c)) (λ c. value (with_bit n b c)) on

abbrev HalfNone : ℕ → (Commitment → Bool) → Bool → Type 0
HalfNone n test b = PassesNone (λ c. test (with_bit n b c))

-- a pattern of a half, as one of that half's choices
below_half : (n : ℕ) (test : Commitment → Bool) (value : Commitment → ℤ) (b : Bool) (on other : Commitment) → IsLocal (suc n) test value
    → Half n test value b on → other n ≡ b → IsTrue (test other) → value (with_bit n b on) ≤ℤ value other
below_half n test value b on other h half own passes =
    let same = own_bit n other b own in
    le_trans _ _ _ (half.least other (sym (h.tests other (with_bit n b other) same) ∙ passes))
    (le_of_eq _ _ (sym (h.values other (with_bit n b other) same)))

none_of_half : (n : ℕ) (test : Commitment → Bool) (value : Commitment → ℤ) (b : Bool) (other : Commitment) → IsLocal (suc n) test value
    → HalfNone n test b → other n ≡ b → ¬ IsTrue (test other)
none_of_half n test value b other h half own passes =
    half.none other (sym (h.tests other (with_bit n b other) (own_bit n other b own)) ∙ passes)

by_bit : {P : Type 0} (b : Bool) → (b ≡ true → P) → (b ≡ false → P) → P
by_bit b is_on is_off = ⊎_elim (λ (h : b ≡ true). is_on h) (λ (h : b ≡ false). is_off h) (cases_Bool b)

-- ---- the best pattern
-- the better of the best patterns of both halves
unfoldable pub better : ℕ → (Commitment → ℤ) → Option Commitment → Option Commitment → Option Commitment
better n value None None = None
better n value (Some first) None = Some (with_bit n true first)
better n value None (Some second) = Some (with_bit n false second)
better n value (Some first) (Some second) =
    if int_le (value (with_bit n true first)) (value (with_bit n false second)) then Some (with_bit n true first)
    else Some (with_bit n false second)

abbrev pub all_off : Commitment
all_off t = false

-- a pattern of least value among those that pass and are off from period n on
unfoldable pub best_pattern : ℕ → (Commitment → Bool) → (Commitment → ℤ) → Option Commitment
best_pattern zero test value = if test all_off then Some all_off else None
best_pattern (suc n) test value =
    better n value
    (best_pattern n (λ on. test (with_bit n true on)) (λ on. value (with_bit n true on)))
    (best_pattern n (λ on. test (with_bit n false on)) (λ on. value (with_bit n false on)))

-- the answer is a least pattern, or none passes
abbrev pub IsBestOf : (Commitment → Bool) → (Commitment → ℤ) → Option Commitment → Type 0
IsBestOf test value None = PassesNone test
IsBestOf test value (Some on) = IsLeastOf test value on

better_is : (n : ℕ) (test : Commitment → Bool) (value : Commitment → ℤ) → IsLocal (suc n) test value → (first second : Option Commitment)
    → IsBestOf (λ on. test (with_bit n true on)) (λ on. value (with_bit n true on)) first
    → IsBestOf (λ on. test (with_bit n false on)) (λ on. value (with_bit n false on)) second
    → IsBestOf test value (better n value first second)
unfolding better
better_is n test value h None None none nothing = record {
  none = λ other passes. by_bit (other n)
      (λ own. none_of_half n test value true other h none own passes)
      (λ own. none_of_half n test value false other h nothing own passes);
}
better_is n test value h (Some first) None least none = record {
  passes = least.passes;
  least = λ other passes. by_bit (other n)
      (λ own. below_half n test value true first other h least own passes)
      (λ own. absurd (none_of_half n test value false other h none own passes));
}
better_is n test value h None (Some second) none least = record {
  passes = least.passes;
  least = λ other passes. by_bit (other n)
      (λ own. absurd (none_of_half n test value true other h none own passes))
      (λ own. below_half n test value false second other h least own passes);
}
better_is n test value h (Some first) (Some second) left right =
    cond_both (int_le (value (with_bit n true first)) (value (with_bit n false second)))
    (Some (with_bit n true first)) (Some (with_bit n false second))
    (IsBestOf test value)
    (λ le. record {
      passes = left.passes;
      least = λ other passes. by_bit (other n)
          (λ own. below_half n test value true first other h left own passes)
          (λ own. le_trans _ _ _ (int_le-true _ _ le) (below_half n test value false second other h right own passes));
    })
    (λ more. record {
      passes = right.passes;
      least = λ other passes. by_bit (other n)
          (λ own. le_trans _ _ _ (grind (arith, ints)) (below_half n test value true first other h left own passes))
          (λ own. below_half n test value false second other h right own passes);
    })

pub best_pattern_is : (n : ℕ) (test : Commitment → Bool) (value : Commitment → ℤ) → IsLocal n test value
    → IsBestOf test value (best_pattern n test value)
unfolding best_pattern
best_pattern_is zero test value h =
    cond_both (test all_off) (Some all_off) None (IsBestOf test value)
    (λ passes. record {
      passes = passes;
      least = λ other pass. le_of_eq _ _ (h.values all_off other (record { same = λ t l. absurd (omega arith) }));
    })
    (λ fails. record {
      none = λ other pass.
          let same = h.tests other all_off (record { same = λ t l. absurd (omega arith) }) in
          true≢false (sym pass ∙ same ∙ fails);
    })
best_pattern_is (suc n) test value h =
    better_is n test value h _ _
    (best_pattern_is n (λ on. test (with_bit n true on)) (λ on. value (with_bit n true on))
    (half_local n test value true h))
    (best_pattern_is n (λ on. test (with_bit n false on)) (λ on. value (with_bit n false on))
    (half_local n test value false h))
