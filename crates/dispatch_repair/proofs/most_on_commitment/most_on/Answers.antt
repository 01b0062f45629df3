-- One unit more, the first one without an allowed pattern, or all.
use Rattle.std.proofs.Common.{◌≡◌, ℕ, ◌+◌, ◌<◌, ◌≤◌, ⊎_elim, List, [], ◌∷◌, ◌++◌, length, sym, ap, subst, ◌∙◌, arith, slice_index_or}
use Rattle.std.proofs.lemmas.Bool.{cases_lt}
use Rattle.std.proofs.lemmas.List.{get_or_read, get_or_append_left, get_or_at, length-append}
use Rattle.uc_model.specs.Prelude.{IsLawfulThermal, commitment_of, IsMostOn, HasNoAllowedPattern, thermal_unit}
use Rattle.uc_model.specs.declared.instance.Thermal.{Thermal}
use Rattle.dispatch_repair.specs.Prelude.{Instance, Pattern, IsMostOnOf}
use Rattle.dispatch_repair.proofs.most_on_commitment.most_on.Goals as goal

-- the unit that was read
unit_at : (instance : Instance) (units : List Thermal) (g : ℕ) (unit : Thermal) → units ≡ instance.thermal → g < length units
    → unit ≡ slice_index_or units g unit → thermal_unit instance g ≡ unit
unit_at instance units g unit are within is = grind (arith, slice_index_or, get_or_read, are, within, is)

pushed : (instance : Instance) (g : ℕ) (patterns : List Pattern) (pattern : Pattern) → length patterns ≡ g
    → ((k : ℕ) → k < g → IsMostOnOf instance k (slice_index_or patterns k (record { low = 0; high = 0 })))
    → IsMostOnOf instance g pattern
    → (k : ℕ) → k < g + 1 → IsMostOnOf instance k (slice_index_or (patterns ++ pattern ∷ []) k (record { low = 0; high = 0 }))
pushed instance g patterns pattern count before last k within = ⊎_elim
    (λ (earlier : k < g).
    subst (IsMostOnOf instance k) (sym (get_or_append_left patterns (pattern ∷ []) (record { low = 0; high = 0 }) k (omega arith))) (before k earlier))
    (λ (later : g ≤ k).
    let here : k ≡ g = omega arith in
    subst (λ n. IsMostOnOf instance n (slice_index_or (patterns ++ pattern ∷ []) n (record { low = 0; high = 0 }))) (sym here)
    (subst (IsMostOnOf instance g) (sym (get_or_at patterns pattern [] (record { low = 0; high = 0 }) g count)) last))
    (cases_lt k g)

pub most_of-requires-clause-lawful : goal.most_of-requires-clause-lawful
most_of-requires-clause-lawful c =
    subst IsLawfulThermal
    (unit_at c.args.instance.now c.as_slice-unit-items.result.now c.loop-g.g c.unit-item.result c.as_slice-unit-items.ensures c.loop-g-test.true c.unit-item.is)
    (c.requires.thermal c.loop-g.g (omega (arith, c.loop-g-test.true, ap length c.as_slice-unit-items.ensures)))

pub returns-in-None-clause-fault : goal.returns-in-None-clause-fault
returns-in-None-clause-fault c =
    let instance = c.args.instance.now in
    record {
      within = omega (arith, c.loop-g-test.true, ap length c.as_slice-unit-items.ensures);
      empty = subst (HasNoAllowedPattern instance.periods)
          (sym (unit_at instance c.as_slice-unit-items.result.now c.loop-g.g c.unit-item.result c.as_slice-unit-items.ensures c.loop-g-test.true c.unit-item.is))
          c.in-None.ensures.pattern;
      first = λ earlier less none. none (commitment_of (slice_index_or c.loop-g.patterns.items earlier (record { low = 0; high = 0 })))
          (c.loop-g.invariant.each earlier less).most.allowed;
    }

pub loop-g-preserved : goal.loop-g-preserved
loop-g-preserved c =
    let instance = c.args.instance.now in
    let items = c.loop-g.patterns.items in
    let most : IsMostOnOf instance c.loop-g.g c.in-Some.pattern = record {
      most = subst (λ unit. IsMostOn instance.periods unit (commitment_of c.in-Some.pattern))
          (sym (unit_at instance c.as_slice-unit-items.result.now c.loop-g.g c.unit-item.result c.as_slice-unit-items.ensures c.loop-g-test.true c.unit-item.is))
          c.in-Some.ensures.pattern;
      off = c.in-Some.ensures.off;
    } in
    record {
      count = ap length c.in_ok-push-in-Some.ensures.items ∙ length-append items (c.in-Some.pattern ∷ []) ∙ ap (λ n. n + 1) c.loop-g.invariant.count;
      each = λ k within.
          subst (λ patterns. IsMostOnOf instance k (slice_index_or patterns k (record { low = 0; high = 0 })))
          (sym c.in_ok-push-in-Some.ensures.items)
          (pushed instance c.loop-g.g items c.in-Some.pattern c.loop-g.invariant.count c.loop-g.invariant.each most k within);
    }
