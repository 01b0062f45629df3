-- The answers at the end of a run.
-- Cite by `use Rattle.pivot_dispatch.proofs.Answering.{unpriced_sum, unpriced_cost, ray_is, cheapest_end, schedule_is, fine_is, wide_is, large_scale}`.
use Rattle.std.proofs.Common.{◌≡◌, ◌<◌, ◌⊎◌, ⊎_elim, inl, inr, refl, sym, ap, subst, ◌∙◌, arith, List, ℤ, pos, ◌<ℤ◌, unsigned_abs}
use Rattle.uc_model.specs.Prelude.{IsLawfulInstance}
use Rattle.uc_model.proofs.Common.{linear}
use Rattle.dual_model.specs.declared.table.Table.{Table}
use Rattle.pivot_run.specs.Prelude.{IsNarrow, IsWide}
use Rattle.pivot_run.specs.Tables as tables
use Rattle.dispatch_program.specs.Prelude.{IsCheapest, SumIsLeft}
use Rattle.dispatch_program.proofs.BasicValues.{shares_exist}
use Rattle.dispatch_rules.specs.Prelude.{AreAllowed, Task, program, scale_of}
use Rattle.dispatch_rules.specs.declared.amount.Amount.{Amount}
use Rattle.dispatch_prices.specs.ReadOff.{HasSmallMultipliers, IsLargeMultiplier, ReadingForms, is_priced}
use Rattle.dispatch_prices.specs.Readings.{IsPriceTable, IsUnfit}
use Rattle.dispatch_prices.specs.declared.unfit.Unfit.{Unfit}
use Rattle.dispatch_prices.specs.declared.unfit.Unfit.TheVariants.{Product as ProductOf, Multiplier as MultiplierOf, NoMemory}
use Rattle.dispatch_prices.proofs.TimesBy.{limit_is}
use Rattle.dispatch_schedule.specs.ColumnValues.{DenominatorForms}
use Rattle.dispatch_schedule.specs.ShownSchedules.{IsCheapestEnd, IsShown}
use Rattle.dispatch_schedule.specs.declared.shown.Shown.TheVariants.{Schedule as ScheduleOf, Fine as FineOf}
use Rattle.pivot_dispatch.specs.Answers.{BestForms, EndingForms, HasLargePrice, IsAnswer, IsAnswerOf, IsLargePrice, MeetsNone, DispatchAnswer, TableScaleForms, cost_row, sum_row}
use Rattle.pivot_dispatch.specs.Commitments.{IsBestOf, IsRayOf, Printed}
use Rattle.pivot_dispatch.specs.declared.pivot.DispatchAnswer.TheVariants.{Best, Ray, Wide}
use Rattle.pivot_dispatch.specs.declared.pivot.WideCause.TheVariants.{Product, Scale, Denominator}
use Rattle.pivot_dispatch.specs.inside.Endings.{Ending, IsEndedBy, IsPricedBy, Tells}
use Rattle.pivot_dispatch.proofs.Commitments.{ray_of, best_of}
use Rattle.pivot_dispatch.proofs.Tables.{sum_scale}
use Rattle.pivot_dispatch.proofs.Ended.{allowed_task, lawful_task, same_on, table_reached}

module _ (end : Ending) (task : Task) (ended : IsEndedBy end task) where
  abbrev t : tables.Table
  t = end.last.now.table

  meets_none : IsNarrow (EndingForms task t) → ((z : ℤ) → HasLargePrice task t z → ⊥) → MeetsNone task end.pivots t
  meets_none ending prices = record { making = ended.making; ends = ended.ends; ending = ending; prices = prices }

  -- no price of a row of small multipliers is large
  none_large : (row : List ℤ) → HasSmallMultipliers (program task) end.last.now.limits.items row → (z : ℤ) → IsLargePrice task row z → ⊥
  none_large row small z large =
      let within = small large.0 large.1.0 (ap is_priced (limit_is task end.last.now.limits.items ended.limits large.0) ∙ large.1.1.0) in
      let above = subst (λ n. 100000000000000 < unsigned_abs n) large.1.1.1.0 large.1.1.1.1 in
      absurd (omega arith)

  -- the answer of the task is that of the commitment
  answers : (answer pivot : DispatchAnswer) → pivot ≡ answer → IsAnswerOf end.instance.now end.patterns.now task answer → IsAnswer end.instance.now end.patterns.now pivot
  answers answer pivot same of = (task, (ended.of, subst (IsAnswerOf end.instance.now end.patterns.now task) (sym same) of))

  -- ---- a row without prices
  large_price : (row : List ℤ) (z : ℤ) → IsLargeMultiplier (program task) end.last.now.limits.items row z → IsLargePrice task row z
  large_price row z large =
      (large.0, (large.1, (sym (ap is_priced (limit_is task end.last.now.limits.items ended.limits large.0)) ∙ large.2, (large.3, large.4))))

  unpriced_is : (row : List ℤ) (unfit : Unfit) (pivot : DispatchAnswer) → ((a b : ℤ) → ReadingForms (program task) row a b → EndingForms task t a b)
      → ((z : ℤ) → IsLargePrice task row z → HasLargePrice task t z)
      → IsUnfit (program task) end.last.now.limits.items row unfit → Tells unfit end.pivots pivot → IsAnswer end.instance.now end.patterns.now pivot
  unpriced_is row (ProductOf wide) pivot forms prices unfit tells =
      answers _ pivot tells (unfit.1, inr (inr (t, (ended.ends, forms wide.size wide.other unfit.0))))
  unpriced_is row (MultiplierOf z) pivot forms prices unfit tells =
      answers _ pivot tells (refl, (t, (ended.ends, prices z (large_price row z unfit))))
  unpriced_is row NoMemory pivot forms prices unfit tells = absurd tells

  pub unpriced_sum : (row : List ℤ) (unfit : Unfit) (pivot : DispatchAnswer) → SumIsLeft (program task) t → row ≡ sum_row task t
      → IsUnfit (program task) end.last.now.limits.items row unfit → Tells unfit end.pivots pivot → IsAnswer end.instance.now end.patterns.now pivot
  unpriced_sum row unfit pivot left same =
      unpriced_is row unfit pivot (λ a b forms. inl (left, subst (λ r. ReadingForms (program task) r a b) same forms))
      (λ z large. inl (left, subst (λ r. IsLargePrice task r z) same large))

  pub unpriced_cost : (row : List ℤ) (unfit : Unfit) (pivot : DispatchAnswer) → IsCheapest (program task) t → row ≡ cost_row task t
      → IsUnfit (program task) end.last.now.limits.items row unfit → Tells unfit end.pivots pivot → IsAnswer end.instance.now end.patterns.now pivot
  unpriced_cost row unfit pivot cheapest same =
      unpriced_is row unfit pivot (λ a b forms. inr (cheapest, inl (subst (λ r. ReadingForms (program task) r a b) same forms)))
      (λ z large. inr (cheapest, subst (λ r. IsLargePrice task r z) same large))

  -- ---- a row with prices
  -- where a sum is left, none is a cheapest basis
  no_cheapest : SumIsLeft (program task) t → IsCheapest (program task) t → ⊥
  no_cheapest left cheapest = let below = left.0 in let none = cheapest.0 in absurd (omega (arith, linear))

  module _ (lawful : IsLawfulInstance end.instance.now) where
    pub ray_is : (row : List ℤ) (table : Table) → SumIsLeft (program task) t → row ≡ sum_row task t → IsPriceTable task row (pos 0) table
        → IsNarrow (ReadingForms (program task) row) → HasSmallMultipliers (program task) end.last.now.limits.items row → IsAnswer end.instance.now end.patterns.now (Ray table)
    ray_is row table left same priced narrow small =
        answers (Ray table) (Ray table) refl (
          subst (λ instance. IsRayOf instance end.patterns.now table) ended.of.instance_is
              (ray_of task end.patterns.now t table (lawful_task end task ended lawful) ended.is (same_on end task ended) (table_reached end task ended) left
              (subst (λ r. IsPriceTable task r (pos 0) table) same priced)),
          (end.pivots, (t, (meets_none forms prices, (left, (subst (λ r. IsPriceTable task r (pos 0) table) same priced).read (sym (sum_scale task t (table_reached end task ended))))))),
        )
      where
        forms : IsNarrow (EndingForms task t)
        forms a b of = ⊎_elim
            (λ (ray : SumIsLeft (program task) t × ReadingForms (program task) (sum_row task t) a b).
            narrow a b (subst (λ r. ReadingForms (program task) r a b) (sym same) ray.1))
            (λ (best : BestForms task t a b). absurd (no_cheapest left best.0))
            of

        prices : (z : ℤ) → HasLargePrice task t z → ⊥
        prices z large = ⊎_elim
            (λ (ray : SumIsLeft (program task) t × IsLargePrice task (sum_row task t) z).
            none_large row small z (subst (λ r. IsLargePrice task r z) (sym same) ray.1))
            (λ (best : IsCheapest (program task) t × IsLargePrice task (cost_row task t) z). absurd (no_cheapest left best.0))
            large

    module _ (allowed : AreAllowed end.instance.now end.patterns.now) (cheapest : IsCheapest (program task) t) (table : Table)
        (priced : IsPricedBy task t table) where
      pub schedule_is : (printed : Printed) → IsShown task t (ScheduleOf printed) → IsAnswer end.instance.now end.patterns.now (Best printed table)
      schedule_is printed shown =
          let shares = shares_exist t (table_reached end task ended).keeps.basis in
          answers (Best printed table) (Best printed table) refl (
            subst (λ instance. IsBestOf instance end.patterns.now printed table) ended.of.instance_is
                (best_of task end.patterns.now t table (lawful_task end task ended lawful) ended.is (same_on end task ended) (table_reached end task ended)
                (allowed_task end task ended allowed) cheapest priced.prices priced.scale printed
                (record { d = shares.0; share = shares.1; shares = shares.2; prints = shown.3 shares.0 shares.1 shares.2 }) priced.within shown.2),
            (end.pivots, (t, (meets_none forms prices, (cheapest, (priced.prices.read priced.scale, shown.0))))),
          )
        where
          forms : IsNarrow (EndingForms task t)
          forms a b of = ⊎_elim
              (λ (ray : SumIsLeft (program task) t × ReadingForms (program task) (sum_row task t) a b). absurd (no_cheapest ray.0 cheapest))
              (λ (best : BestForms task t a b). ⊎_elim
              (λ (reading : ReadingForms (program task) (cost_row task t) a b). priced.reading a b reading)
              (λ (rest : TableScaleForms task t a b ⊎ DenominatorForms task t a b). ⊎_elim
              (λ (scale : TableScaleForms task t a b). priced.forms a b scale)
              (λ (denominator : DenominatorForms task t a b). shown.1 a b denominator)
              rest)
              best.1)
              of

          prices : (z : ℤ) → HasLargePrice task t z → ⊥
          prices z large = ⊎_elim
              (λ (ray : SumIsLeft (program task) t × IsLargePrice task (sum_row task t) z). absurd (no_cheapest ray.0 cheapest))
              (λ (best : IsCheapest (program task) t × IsLargePrice task (cost_row task t) z).
              none_large (cost_row task t) (priced.small end.last.now.limits.items ended.limits) z best.1)
              large

  module _ (cheapest : IsCheapest (program task) t) where
    pub cheapest_end : (amounts_of : List Amount) → amounts_of ≡ end.last.now.amounts.items → IsCheapestEnd end.instance.now end.patterns.now amounts_of t task
    cheapest_end amounts_of same = record { of = ended.of; is = ended.is; reached = table_reached end task ended; cheapest = cheapest; amounts = same ∙ ended.amounts }

    pub fine_is : (z : ℤ) (pivot : DispatchAnswer) → IsShown task t (FineOf z) → pivot ≡ Wide Denominator z (pos 0) end.pivots → IsAnswer end.instance.now end.patterns.now pivot
    fine_is z pivot shown same = answers _ pivot same (refl, (t, (ended.ends, (cheapest, (shown.0, shown.1)))))

  pub wide_is : (a b : ℤ) (pivot : DispatchAnswer) → EndingForms task t a b → IsWide a b → pivot ≡ Wide Product a b end.pivots → IsAnswer end.instance.now end.patterns.now pivot
  wide_is a b pivot forms wide same = answers _ pivot same (wide, inr (inr (t, (ended.ends, forms))))

  pub large_scale : (k : ℤ) (pivot : DispatchAnswer) → IsCheapest (program task) t → k ≡ scale_of task (cost_row task t) → pos 1000000000 <ℤ k
      → pivot ≡ Wide Scale k (pos 0) end.pivots → IsAnswer end.instance.now end.patterns.now pivot
  large_scale k pivot cheapest scale large same = answers _ pivot same (refl, (t, (ended.ends, (cheapest, (scale, large)))))
