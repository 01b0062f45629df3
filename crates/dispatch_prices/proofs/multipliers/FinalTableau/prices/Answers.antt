-- By the multipliers of the limits, which are the program's rules.
use Rattle.std.proofs.Common.{◌<◌, ◌≤◌, ◌∙◌, sym, ap, subst, length, unsigned_abs, pos, slice_index_or}
use Rattle.std.specs.Int.{w64}
use Rattle.std.proofs.lemmas.Int.{to_z-of_z}
use Rattle.pivot_run.specs.Prelude.{row_at}
use Rattle.uc_model.specs.declared.instance.Instance.{Instance}
use Rattle.dispatch_prices.specs.ReadOff.{AreMultipliers}
use Rattle.dispatch_prices.specs.Readings.{rules_at}
use Rattle.dispatch_prices.specs.PricedLimits.{IsTableOf}
use Rattle.dispatch_prices.proofs.ReadOffs.{price_table}
use Rattle.dispatch_prices.proofs.SameRules.{has_size, forms_same, multiplier_same, rules_same, unfit_same}
use Rattle.dispatch_prices.proofs.TimesBy.{are_once}
use Rattle.dispatch_prices.proofs.multipliers.FinalTableau.prices.Goals as goal

pub multipliers-requires-clause-size : goal.multipliers-requires-clause-size
multipliers-requires-clause-size c = has_size c.requires.end.0 c.args.self.now c.requires.end.1.1

pub returns-in-Err-clause-unfit : goal.returns-in-Err-clause-unfit
returns-in-Err-clause-unfit c = λ task is.
    unfit_same task c.args.self.now.unknowns c.args.self.now.limits.now c.args.self.now.rights.now c.args.self.now.table.now is
    (row_at c.args.self.now.table.now.rows c.args.o) c.in-Err.unfit c.in-Err.ensures.unfit

pub table_of-requires-clause-priced : goal.table_of-requires-clause-priced
table_of-requires-clause-priced c = record {
  once = are_once c.requires.end.0 c.args.self.now.limits.now c.requires.end.1.1.limits_are;
  count = ap length c.deref.ensures.value ∙ c.in-Ok.ensures.times.count;
  within = λ i. subst (λ xs. unsigned_abs (slice_index_or xs i (pos 0)) ≤ 100000000000000) (sym c.deref.ensures.value) (c.in-Ok.ensures.times.within i);
}

pub returns-in-Ok-table_of-clause-table : goal.returns-in-Ok-table_of-clause-table
returns-in-Ok-table_of-clause-table c = λ task same is.
    price_table task c.args.self.now.unknowns c.args.self.now.rights.now c.args.self.now.table.now (row_at c.args.self.now.table.now.rows c.args.o)
    (record { limits = c.args.self.now.limits; times = c.deref.result }) c.args.k c.in-Ok-table_of.table is
    (subst (AreMultipliers (rules_at c.args.self.now) c.args.self.now.limits.now (row_at c.args.self.now.table.now.rows c.args.o) (length c.args.self.now.limits.now)) (sym c.deref.ensures.value) c.in-Ok.ensures.times)
    (subst (λ n. IsTableOf (record { limits = c.args.self.now.limits; times = c.deref.result }) n task.instance.periods c.args.k c.in-Ok-table_of.table)
    (ap length c.as_slice.ensures ∙ sym (ap (λ (x : Instance). length x.thermal) same))
    (subst (λ n. IsTableOf (record { limits = c.args.self.now.limits; times = c.deref.result }) (length c.as_slice.result.now) n c.args.k c.in-Ok-table_of.table)
    (sym (ap (λ (x : Instance). x.periods) same))
    (subst (λ z. IsTableOf (record { limits = c.args.self.now.limits; times = c.deref.result }) (length c.as_slice.result.now) c.args.instance.now.periods z c.in-Ok-table_of.table)
    (to_z-of_z w64 c.args.k c.ranges.k) c.in-Ok-table_of.ensures)))

pub returns-in-Ok-table_of-clause-narrow : goal.returns-in-Ok-table_of-clause-narrow
returns-in-Ok-table_of-clause-narrow c = λ task is a b forms.
    c.in-Ok.ensures.narrow a b (forms_same task c.args.self.now.unknowns c.args.self.now.limits.now c.args.self.now.rights.now c.args.self.now.table.now is
    (row_at c.args.self.now.table.now.rows c.args.o) a b forms)

pub returns-in-Ok-table_of-clause-within : goal.returns-in-Ok-table_of-clause-within
returns-in-Ok-table_of-clause-within c = λ task is i h own.
    let rules = rules_same task c.args.self.now.unknowns c.args.self.now.limits.now c.args.self.now.rights.now c.args.self.now.table.now is in
    let times = c.in-Ok.ensures.times in
    subst (λ z. unsigned_abs z ≤ 100000000000000)
    (times.each i (subst (λ n. i < n) (sym rules) h) own
    ∙ multiplier_same task c.args.self.now.unknowns c.args.self.now.limits.now c.args.self.now.rights.now c.args.self.now.table.now is
    (row_at c.args.self.now.table.now.rows c.args.o) i h)
    (times.within i)
