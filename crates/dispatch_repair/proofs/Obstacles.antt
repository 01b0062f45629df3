-- A period has a first obstacle, or none.
use Rattle.std.proofs.Common.{◌≡◌, ℕ, zero, suc, ◌≤◌, ◌⊎◌, inl, inr, true, refl, sym, ap, subst, arith, ◌≤ℤ◌, nat_lt}
use Rattle.std.proofs.lemmas.Bool.{both_ways}
use Rattle.uc_model.specs.Prelude.{thermal_count}
use Rattle.uc_model.specs.declared.stuck.Why.TheVariants as why
use Rattle.uc_model.proofs.Common.{le_or_lt, below_or_last}
use Rattle.dispatch_repair.specs.Prelude.{Period, FromThermal, low_of, high_of, total_output, demand_of, need_of, greatest_room, Why, HaveRanges, HasBalance, IsBox, IsFree, IsFirstObstacle}
use Rattle.dispatch_repair.proofs.Shortages.{price_cases}

-- what a period comes to
pub data IsJudged (period : Period) : Type 0 where
  free : IsFree period → IsJudged period
  barred : (reason : Why) → IsFirstObstacle period reason → IsJudged period

-- the first empty range
record HasBox (period : Period) : Type 0 where
  g : ℕ
  box : IsBox period g (low_of period (FromThermal g)) (high_of period (FromThermal g))

module _ (period : Period) where
  abbrev G : ℕ
  G = thermal_count period.instance

  ranges_or : (n : ℕ) → n ≤ G → HaveRanges period n ⊎ HasBox period
  ranges_or zero h = inl (λ g none. absurd (omega (arith, none)))
  ranges_or (suc n) h = elim (ranges_or n (omega arith)) [
    | inl have ↦ elim (le_or_lt (low_of period (FromThermal n)) (high_of period (FromThermal n))) [
      | inl some ↦ inl (λ g within. elim (below_or_last n g within) [
        | inl early ↦ have g early
        | inr last ↦ subst (λ k. low_of period (FromThermal k) ≤ℤ high_of period (FromThermal k)) (sym last) some
      ])
      | inr empty ↦ inr (record { g = n; box = record { within = omega arith; low = refl; high = refl; empty = empty; earlier = have } })
    ]
    | inr found ↦ inr found
  ]

  priced : (price : ℕ) → nat_lt 0 price ≡ true → price ≡ 0 → ⊥
  priced price some none = both_ways (nat_lt 0 price) (ap (nat_lt 0) none) some

  reserved : HasBalance period → IsJudged period
  reserved balance = elim (price_cases period.instance.b) [
    | inl some ↦ free (record { balance = balance; reserve = λ none. absurd (priced period.instance.b some none) })
    | inr firm ↦ elim (le_or_lt (need_of period) (greatest_room period)) [
      | inl enough ↦ free (record { balance = balance; reserve = λ none. enough })
      | inr lack ↦ barred (why.Reserve (greatest_room period) (need_of period))
          (record { firm = firm; room = refl; need = refl; below = lack; balance = balance })
    ]
  ]

  balanced : HaveRanges period G → total_output period (low_of period) ≤ℤ demand_of period → IsJudged period
  balanced have least = elim (price_cases period.instance.a) [
    | inl some ↦ reserved (record { ranges = have; least = least; most = λ none. absurd (priced period.instance.a some none) })
    | inr firm ↦ elim (le_or_lt (demand_of period) (total_output period (high_of period))) [
      | inl most ↦ reserved (record { ranges = have; least = least; most = λ none. most })
      | inr lack ↦ barred (why.Under (total_output period (high_of period)) (demand_of period))
          (record { firm = firm; most = refl; demand = refl; below = lack; ranges = have; least = least })
    ]
  ]

  -- Cite by `use Rattle.dispatch_repair.proofs.Obstacles.{judged}`.
  pub judged : IsJudged period
  judged = elim (ranges_or G (omega arith)) [
    | inl have ↦ elim (le_or_lt (total_output period (low_of period)) (demand_of period)) [
      | inl least ↦ balanced have least
      | inr above ↦ barred (why.Over (total_output period (low_of period)) (demand_of period))
          (record { least = refl; demand = refl; above = above; ranges = have })
    ]
    | inr found ↦ barred (why.Box found.g (low_of period (FromThermal found.g)) (high_of period (FromThermal found.g))) found.box
  ]
