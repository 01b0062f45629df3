-- A function on the first n numbers with values below a limit that has a property and the least value, or that there is
-- none, where the property is decided and both hang on the first n numbers alone: all of them are tried, place by
-- place.
-- Cite from a crate above by `use Rattle.dual_model.proofs.BoundedSearch.{Agrees, IsSearched, IsWithin, search}`.
use Rattle.std.proofs.Common.{◌≡◌, ℕ, zero, suc, ◌<◌, ◌≤◌, ◌⊎◌, inl, inr, ⊎_elim, false, refl, sym, subst, ◌∙◌, arith, IsTrue, ℤ, ◌≤ℤ◌, ◌<ℤ◌, ◌==◌, if◌then◌else◌}
use Rattle.std.proofs.lemmas.Bool.{cases_Bool, cond-true, cond-false, cond_both, eqb-true, eqb-false, eq-eqb}
use Rattle.uc_model.proofs.Common.{linear, le_or_lt, le_of_eq}

-- ---- the least of the functions inside a set
pub record IsLeastIn (inside has : (ℕ → ℕ) → Type 0) (value : (ℕ → ℕ) → ℤ) (s : ℕ → ℕ) : Type 0 where
  pub in_it : inside s
  pub one : has s
  pub least : (other : ℕ → ℕ) → inside other → has other → value s ≤ℤ value other

-- there is one, or no function inside has the property
abbrev pub Answer : ((ℕ → ℕ) → Type 0) → ((ℕ → ℕ) → Type 0) → ((ℕ → ℕ) → ℤ) → Type 0
Answer inside has value = ((s : ℕ → ℕ) → inside s → ¬ has s) ⊎ ((s : ℕ → ℕ) × IsLeastIn inside has value s)

module _ (first second whole has : (ℕ → ℕ) → Type 0) (value : (ℕ → ℕ) → ℤ)
    (apart : (s : ℕ → ℕ) → whole s → first s ⊎ second s)
    (from_first : (s : ℕ → ℕ) → first s → whole s) (from_second : (s : ℕ → ℕ) → second s → whole s) where
  neither : ((s : ℕ → ℕ) → first s → ¬ has s) → ((s : ℕ → ℕ) → second s → ¬ has s) → (s : ℕ → ℕ) → whole s → ¬ has s
  neither none other s is h = ⊎_elim (λ a. none s a h) (λ b. other s b h) (apart s is)

  first_alone : ((s : ℕ → ℕ) → second s → ¬ has s) → (s : ℕ → ℕ) → IsLeastIn first has value s → IsLeastIn whole has value s
  first_alone none s is = record {
    in_it = from_first s is.in_it;
    one = is.one;
    least = λ other h one. ⊎_elim (λ a. is.least other a one) (λ b. absurd (none other b one)) (apart other h);
  }

  second_alone : ((s : ℕ → ℕ) → first s → ¬ has s) → (s : ℕ → ℕ) → IsLeastIn second has value s → IsLeastIn whole has value s
  second_alone none s is = record {
    in_it = from_second s is.in_it;
    one = is.one;
    least = λ other h one. ⊎_elim (λ a. absurd (none other a one)) (λ b. is.least other b one) (apart other h);
  }

  first_less : (s r : ℕ → ℕ) → IsLeastIn first has value s → IsLeastIn second has value r → value s ≤ℤ value r → IsLeastIn whole has value s
  first_less s r is other less = record {
    in_it = from_first s is.in_it;
    one = is.one;
    least = λ u h one. ⊎_elim
        (λ a. is.least u a one)
        (λ b. let below = other.least u b one in omega (arith, linear, less, below))
        (apart u h);
  }

  second_less : (s r : ℕ → ℕ) → IsLeastIn first has value s → IsLeastIn second has value r → value r ≤ℤ value s
      → IsLeastIn whole has value r
  second_less s r is other less = record {
    in_it = from_second r other.in_it;
    one = other.one;
    least = λ u h one. ⊎_elim
        (λ a. let below = is.least u a one in omega (arith, linear, less, below))
        (λ b. other.least u b one)
        (apart u h);
  }

  -- the least of two sets
  joined : Answer first has value → Answer second has value → Answer whole has value
  joined (inl none) (inl other) = inl (neither none other)
  joined (inl none) (inr found) = inr (found.0, second_alone none found.0 found.1)
  joined (inr found) (inl other) = inr (found.0, first_alone other found.0 found.1)
  joined (inr found) (inr other) = ⊎_elim
      (λ (le : value found.0 ≤ℤ value other.0). inr (found.0, first_less found.0 other.0 found.1 other.1 le))
      (λ (lt : value other.0 <ℤ value found.0). inr
      (other.0, second_less found.0 other.0 found.1 other.1 (omega (arith, linear, lt))))
      (le_or_lt (value found.0) (value other.0))

-- ---- functions on the first n numbers
-- two are the same there
pub record Agrees (n : ℕ) (s other : ℕ → ℕ) : Type 0 where
  pub same : (t : ℕ) → t < n → s t ≡ other t

-- the values there are below the limit
pub record IsWithin (n limit : ℕ) (s : ℕ → ℕ) : Type 0 where
  pub below : (t : ℕ) → t < n → s t < limit

-- the property is decided, and both hang on the first n numbers alone
pub record IsSearched (n : ℕ) (has : (ℕ → ℕ) → Type 0) (value : (ℕ → ℕ) → ℤ) : Type 0 where
  pub decided : (s : ℕ → ℕ) → has s ⊎ ¬ has s
  pub keeps : (s other : ℕ → ℕ) → Agrees n s other → has s → has other
  pub values : (s other : ℕ → ℕ) → Agrees n s other → value s ≡ value other

-- the value c in place of that at n
put : ℕ → ℕ → (ℕ → ℕ) → ℕ → ℕ
put n c s t = if t == n then c else s t

put-agrees : (n c : ℕ) (s : ℕ → ℕ) → s n ≡ c → Agrees (suc n) s (put n c s)
unfolding put
put-agrees n c s e = record {
  same = λ t l. cond_both (t == n) c (s t) (λ z. s t ≡ z)
      (λ here. subst (λ k. s k ≡ c) (sym (eqb-true t n here)) e)
      (λ away. refl);
}

put-same : (n c : ℕ) (s other : ℕ → ℕ) → Agrees n s other → Agrees (suc n) (put n c s) (put n c other)
unfolding put
put-same n c s other same = record {
  same = λ t l. ⊎_elim
      (λ (here : IsTrue (t == n)). cond-true (t == n) c (s t) here ∙ sym (cond-true (t == n) c (other t) here))
      (λ (away : (t == n) ≡ false).
      cond-false (t == n) c (s t) away
      ∙ same.same t (let apart = eqb-false t n away in omega (arith, l, apart))
      ∙ sym (cond-false (t == n) c (other t) away))
      (cases_Bool (t == n));
}

put-within : (n limit c : ℕ) (s : ℕ → ℕ) → c < limit → IsWithin n limit s → IsWithin (suc n) limit (put n c s)
unfolding put
put-within n limit c s small within = record {
  below = λ t l. cond_both (t == n) c (s t) (λ z. z < limit)
      (λ here. small)
      (λ away. within.below t (let other = eqb-false t n away in omega (arith, l, other)));
}

put-at : (n c : ℕ) (s : ℕ → ℕ) → put n c s n ≡ c
unfolding put
put-at n c s = cond-true (n == n) c (s n) (eq-eqb n n refl)

-- those whose value at n is below b, and those whose value there is c
record IsUnder (n limit b : ℕ) (s : ℕ → ℕ) : Type 0 where
  within : IsWithin (suc n) limit s
  under : s n < b

record IsAt (n limit c : ℕ) (s : ℕ → ℕ) : Type 0 where
  within : IsWithin (suc n) limit s
  at : s n ≡ c

narrower : (n limit : ℕ) (s : ℕ → ℕ) → IsWithin (suc n) limit s → IsWithin n limit s
narrower n limit s is = record { below = λ t l. is.below t (omega (arith, l)) }

module _ (n limit : ℕ) (has : (ℕ → ℕ) → Type 0) (value : (ℕ → ℕ) → ℤ) (searched : IsSearched (suc n) has value) where
  abbrev has_at : ℕ → (ℕ → ℕ) → Type 0
  has_at c s = has (put n c s)

  abbrev value_at : ℕ → (ℕ → ℕ) → ℤ
  value_at c s = value (put n c s)

  searched_at : (c : ℕ) → IsSearched n (has_at c) (value_at c)
  searched_at c = record {
    decided = λ s. searched.decided (put n c s);
    keeps = λ s other same. searched.keeps (put n c s) (put n c other) (put-same n c s other same);
    values = λ s other same. searched.values (put n c s) (put n c other) (put-same n c s other same);
  }

  -- where the value at n is c
  at_value : (c : ℕ) → c < limit → Answer (IsWithin n limit) (has_at c) (value_at c) → Answer (IsAt n limit c) has value
  at_value c small (inl none) = inl (λ s is h.
      none s (narrower n limit s is.within) (searched.keeps s (put n c s) (put-agrees n c s is.at) h))
  at_value c small (inr found) = inr (
    put n c found.0,
    record {
      in_it = record { within = put-within n limit c found.0 small found.1.in_it; at = put-at n c found.0 };
      one = found.1.one;
      least = λ other is h.
          let agrees = put-agrees n c other is.at in
          let below = found.1.least other (narrower n limit other is.within)
          (searched.keeps other (put n c other) agrees h) in
          let same = searched.values other (put n c other) agrees in
          omega (arith, linear, below, same);
    },
  )

  -- where it is below b
  under_value : ((c : ℕ) → Answer (IsWithin n limit) (has_at c) (value_at c)) → (b : ℕ) → b ≤ limit → Answer (IsUnder n limit b) has value
  under_value answers zero h = inl (λ s is one. absurd (let under = is.under in omega (arith, under)))
  under_value answers (suc b) h =
      joined (IsUnder n limit b) (IsAt n limit b) (IsUnder n limit (suc b)) has value
      (λ s is. ⊎_elim
      (λ (less : s n < b). inl (record { within = is.within; under = less }))
      (λ (same : s n ≡ b). inr (record { within = is.within; at = same }))
      (let under = is.under in grind arith))
      (λ s is. record { within = is.within; under = (let under = is.under in omega (arith, under)) })
      (λ s is. record { within = is.within; under = (let at = is.at in omega (arith, at)) })
      (under_value answers b (omega (arith, h)))
      (at_value b (omega (arith, h)) (answers b))

  one_place : ((c : ℕ) → Answer (IsWithin n limit) (has_at c) (value_at c)) → Answer (IsWithin (suc n) limit) has value
  one_place answers = widened (under_value answers limit (omega arith))
    where
      widened : Answer (IsUnder n limit limit) has value → Answer (IsWithin (suc n) limit) has value
      widened (inl none) = inl (λ s is. none s (record { within = is; under = is.below n (omega arith) }))
      widened (inr found) = inr (
        found.0,
        record {
          in_it = found.1.in_it.within;
          one = found.1.one;
          least = λ other is. found.1.least other (record { within = is; under = is.below n (omega arith) });
        },
      )

-- all are tried
pub search : (n limit : ℕ) (has : (ℕ → ℕ) → Type 0) (value : (ℕ → ℕ) → ℤ) → IsSearched n has value → Answer (IsWithin n limit) has value
search zero limit has value searched = ⊎_elim
    (λ (one : has (λ t. 0)). inr (
      (λ t. 0),
      record {
        in_it = record { below = λ t l. absurd (omega (arith, l)) };
        one = one;
        least = λ other is h. le_of_eq _ _ (searched.values (λ t. 0) other
            (record { same = λ t l. absurd (omega (arith, l)) }));
      },
    ))
    (λ (none : ¬ has (λ t. 0)). inl (λ s is h. none
    (searched.keeps s (λ t. 0) (record { same = λ t l. absurd (omega (arith, l)) }) h)))
    (searched.decided (λ t. 0))
search (suc n) limit has value searched =
    one_place n limit has value searched (λ c. search n limit (has_at n limit has value searched c)
    (value_at n limit has value searched c) (searched_at n limit has value searched c))
