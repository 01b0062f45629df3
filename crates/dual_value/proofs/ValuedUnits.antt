-- The value of a node from the parts of the units before one, and one unit more.
use Rattle.std.proofs.Common.{◌≡◌, ℕ, Bool, true, false, ◌⊎◌, inl, inr, ◌+◌, ◌*◌, ◌<◌, ◌≤◌, ⊎_elim, List, length, add-one, sym, ap, subst, ◌∙◌, arith, ℤ, pos, ◌+ℤ◌, ◌-ℤ◌, slice_index_or, slice_set, unsigned_abs, get_or-set_other, get_or-set_same, length-set, Result, Ok, Err, IfErr, IsErrAnd}
use Rattle.std.proofs.lemmas.Bool.{cases_lt}
use Rattle.std.proofs.lemmas.List.Elements.{All-from_get_or}
use Rattle.uc_model.specs.Prelude.{commitment_of, thermal_count, sum_below}
use Rattle.uc_model.specs.declared.pattern.Pattern.{Pattern}
use Rattle.uc_model.proofs.Common.{linear, abs_add, sum_below-same}
use Rattle.dual_model.specs.Prelude.{IsExactUnitValue, exact_part, parts_total, constant_at, node_total, renewables_value, system_value, unit_part, IsBestPattern, IsUnitValue, IsBlocked, IsFirstBlocked}
use Rattle.dual_model.specs.declared.table.Table.{Table}
use Rattle.dual_model.specs.declared.valued.Valued.{Valued}
use Rattle.dual_value.specs.NodeAnswer.{Empty, Instance, NoMemory, ValueFault, HasSizes, IsExactValued, IsFaultOfKind, IsPartFault, IsPartOfKind, IsValued, IsValuedOf, MAX_PART}
use Rattle.dual_model.specs.declared.node.Node.{Node}
use Rattle.system_value.specs.Sizes.{MAX_RENEWABLES, MAX_SYSTEM}

abbrev pub part_in : List ℤ → ℕ → ℤ
part_in parts g = slice_index_or parts g (pos 0)

abbrev pub pattern_in : List Pattern → ℕ → Pattern
pattern_in patterns g = slice_index_or patterns g (record { low = 0; high = 0 })

-- the units before g have their parts and patterns, and the total is what does not hang on units with these parts
pub record IsValuedTo (exact : Bool) (instance : Instance) (node : Node) (table : Table) (g : ℕ) (total : ℤ) (parts : List ℤ) (patterns : List Pattern) : Type 0 where
  pub part_count : length parts ≡ thermal_count instance
  pub pattern_count : length patterns ≡ thermal_count instance
  pub part : (k : ℕ) → k < g → IsPartOfKind exact instance node table k (part_in parts k) (pattern_in patterns k)
  pub part_size : (k : ℕ) → k < g → unsigned_abs (part_in parts k) ≤ MAX_PART
  pub sum : total ≡ (system_value instance table +ℤ renewables_value instance table) +ℤ sum_below g (part_in parts)
  pub rest : unsigned_abs (system_value instance table +ℤ renewables_value instance table) ≤ MAX_SYSTEM + MAX_RENEWABLES
  pub size : unsigned_abs total ≤ MAX_SYSTEM + MAX_RENEWABLES + g * MAX_PART

pub valued-none : (exact : Bool) (instance : Instance) (node : Node) (table : Table) (total : ℤ) (parts : List ℤ) (patterns : List Pattern)
    → length parts ≡ thermal_count instance → length patterns ≡ thermal_count instance
    → total ≡ system_value instance table +ℤ renewables_value instance table → unsigned_abs total ≤ MAX_SYSTEM + MAX_RENEWABLES
    → IsValuedTo exact instance node table 0 total parts patterns
valued-none exact instance node table total parts patterns p q is size = grind (arith, linear, p, q, is, size)

pub valued-more : (exact : Bool) (instance : Instance) (node : Node) (table : Table) (g : ℕ) (total part result : ℤ) (pattern : Pattern) (parts : List ℤ) (patterns : List Pattern)
    → g < thermal_count instance → IsPartOfKind exact instance node table g part pattern → unsigned_abs part ≤ MAX_PART → result ≡ total +ℤ part
    → IsValuedTo exact instance node table g total parts patterns
    → IsValuedTo exact instance node table (g + 1) result (slice_set parts g part) (slice_set patterns g pattern)
valued-more exact instance node table g total part result pattern parts patterns h is small e so_far =
    let count = so_far.part_count in
    let others = so_far.pattern_count in
    let part_here : part_in (slice_set parts g part) g ≡ part = get_or-set_same parts g part (pos 0) (omega arith) in
    let pattern_here : pattern_in (slice_set patterns g pattern) g ≡ pattern = get_or-set_same patterns g pattern (record { low = 0; high = 0 }) (omega arith) in
    let kept = sum_below-same g (part_in (slice_set parts g part)) (part_in parts) (λ k l. get_or-set_other parts g k part (pos 0) (λ same. omega arith)) in
    let sum_before = so_far.sum in
    subst (λ n. IsValuedTo exact instance node table n result (slice_set parts g part) (slice_set patterns g pattern)) (sym (add-one g))
    (record {
      part_count = length-set parts g part ∙ count;
      pattern_count = length-set patterns g pattern ∙ others;
      part = λ k l. ⊎_elim
          (λ (earlier : k < g).
          subst (λ x. IsPartOfKind exact instance node table k x (pattern_in (slice_set patterns g pattern) k)) (sym (get_or-set_other parts g k part (pos 0) (λ same. omega arith)))
          (subst (λ x. IsPartOfKind exact instance node table k (part_in parts k) x) (sym (get_or-set_other patterns g k pattern (record { low = 0; high = 0 }) (λ same. omega arith)))
          (so_far.part k earlier)))
          (λ (last : g ≤ k).
          let same : g ≡ k = omega arith in
          subst (λ n. IsPartOfKind exact instance node table n (part_in (slice_set parts g part) n) (pattern_in (slice_set patterns g pattern) n)) same
          (subst (λ x. IsPartOfKind exact instance node table g x (pattern_in (slice_set patterns g pattern) g)) (sym part_here)
          (subst (λ x. IsPartOfKind exact instance node table g part x) (sym pattern_here) is)))
          (cases_lt k g);
      part_size = λ k l. grind (arith, linear, get_or-set_other, slice_set, cases_lt, k, g, parts, part, so_far, part_here, small);
      sum = omega (arith, linear);
      rest = so_far.rest;
      size = grind (arith, linear, abs_add, g, e, total, part, so_far, small);
    })

-- ---- the whole
valued-plain : (instance : Instance) (node : Node) (table : Table) (total : ℤ) (parts : List ℤ) (patterns : List Pattern)
    → thermal_count instance ≤ 4096 → IsValuedTo false instance node table (thermal_count instance) total parts patterns
    → IsValued instance node table (record { total = total; parts = parts; patterns = patterns })
valued-plain instance node table total parts patterns few all = record {
  total = record {
    unit_value = value;
    units = λ g h. record {
      on = commitment_of (pattern_in patterns g);
      best = subst (IsBestPattern instance node table g (commitment_of (pattern_in patterns g))) (value_is g h) (all.part g h).best;
    };
    total = whole;
  };
  size = omega (arith, all.size);
  parts = all.part_count;
  patterns = all.pattern_count;
  part = all.part;
}
  where
    value : ℕ → ℤ
    value g = part_in parts g -ℤ constant_at instance table g

    value_is : (g : ℕ) (h : g < thermal_count instance) → (all.part g h).value ≡ value g
    value_is g h = let is = (all.part g h).is in omega (arith, linear)

    same : sum_below (thermal_count instance) (λ g. unit_part instance table g (value g)) ≡ sum_below (thermal_count instance) (part_in parts)
    same = sum_below-same (thermal_count instance) _ (part_in parts) (λ g h. omega (arith, linear))

    whole : total ≡ node_total instance table value
    whole = let sum = all.sum in let e = same in omega (arith, linear)

valued-exact : (instance : Instance) (node : Node) (table : Table) (total : ℤ) (parts : List ℤ) (patterns : List Pattern)
    → thermal_count instance ≤ 4096 → IsValuedTo true instance node table (thermal_count instance) total parts patterns
    → IsExactValued instance node table (record { total = total; parts = parts; patterns = patterns })
valued-exact instance node table total parts patterns few all = record {
  total = record {
    unit_value = λ g. value_of g (cases_lt g (thermal_count instance));
    exact_value = λ g. exact_of g (cases_lt g (thermal_count instance));
    units = λ g h. unit_is g h (cases_lt g (thermal_count instance));
    exact_units = λ g h. exact_is g h (cases_lt g (thermal_count instance));
    total = whole;
  };
  size = omega (arith, all.size);
  parts = all.part_count;
  patterns = all.pattern_count;
  part = all.part;
}
  where
    value_of : (g : ℕ) → (g < thermal_count instance) ⊎ (thermal_count instance ≤ g) → ℤ
    value_of g (inl h) = (all.part g h).value
    value_of g (inr past) = pos 0

    exact_of : (g : ℕ) → (g < thermal_count instance) ⊎ (thermal_count instance ≤ g) → ℤ
    exact_of g (inl h) = (all.part g h).exact
    exact_of g (inr past) = pos 0

    unit_is : (g : ℕ) → g < thermal_count instance → (within : (g < thermal_count instance) ⊎ (thermal_count instance ≤ g)) → IsUnitValue instance node table g (value_of g within)
    unit_is g l (inl h) = (all.part g h).unit_value
    unit_is g l (inr past) = absurd (omega arith)

    exact_is : (g : ℕ) → g < thermal_count instance → (within : (g < thermal_count instance) ⊎ (thermal_count instance ≤ g)) → IsExactUnitValue instance node table g (exact_of g within)
    exact_is g l (inl h) = (all.part g h).exact_value
    exact_is g l (inr past) = absurd (omega arith)

    part_is : (g : ℕ) → g < thermal_count instance → (within : (g < thermal_count instance) ⊎ (thermal_count instance ≤ g)) → exact_part instance table g (value_of g within) (exact_of g within) ≡ part_in parts g
    part_is g l (inl h) = sym (all.part g h).is
    part_is g l (inr past) = absurd (omega arith)

    same : sum_below (thermal_count instance)
        (λ g. exact_part instance table g (value_of g (cases_lt g (thermal_count instance))) (exact_of g (cases_lt g (thermal_count instance))))
        ≡ sum_below (thermal_count instance) (part_in parts)
    same = sum_below-same (thermal_count instance) _ (part_in parts) (λ g h. part_is g h (cases_lt g (thermal_count instance)))

    whole : total
        ≡ parts_total instance table
        (λ g. exact_part instance table g (value_of g (cases_lt g (thermal_count instance))) (exact_of g (cases_lt g (thermal_count instance))))
    whole = let sum = all.sum in let e = same in omega (arith, linear)

pub valued-all : (exact : Bool) (instance : Instance) (node : Node) (table : Table) (total : ℤ) (parts : List ℤ) (patterns : List Pattern)
    → thermal_count instance ≤ 4096 → IsValuedTo exact instance node table (thermal_count instance) total parts patterns
    → IsValuedOf exact instance node table (record { total = total; parts = parts; patterns = patterns })
valued-all false = valued-plain
valued-all true = valued-exact

pub sized-all : (exact : Bool) (instance : Instance) (node : Node) (table : Table) (total : ℤ) (parts : List ℤ) (patterns : List Pattern)
    → IsValuedTo exact instance node table (thermal_count instance) total parts patterns
    → HasSizes (record { total = total; parts = parts; patterns = patterns })
sized-all exact instance node table total parts patterns all =
    let count = all.part_count in
    let whole = ap (λ n. sum_below n (part_in parts)) count in
    let sum = all.sum in
    let rest : total -ℤ sum_below (length parts) (part_in parts) ≡ system_value instance table +ℤ renewables_value instance table = omega (arith, linear) in
    record {
      parts = All-from_get_or (λ part. unsigned_abs part ≤ MAX_PART) parts (pos 0) (λ k h. all.part_size k (omega arith));
      rest = subst (λ x. unsigned_abs x ≤ MAX_SYSTEM + MAX_RENEWABLES) (sym rest) all.rest;
    }

-- ---- a unit without a pattern
-- an error that is the one that came
pub err-only : (r : Result Valued ValueFault) (fault : ValueFault) (P : ValueFault → Type 0) → IsErrAnd r (λ e. e ≡ fault) → P fault → IfErr r P
err-only (Ok valued) fault P is h = tt
err-only (Err e) fault P is h = subst P (sym is) h

-- a unit that has its part isn't blocked
has-part : (exact : Bool) (instance : Instance) (node : Node) (table : Table) (g : ℕ) (part : ℤ) (pattern : Pattern)
    → IsPartOfKind exact instance node table g part pattern → ¬ IsBlocked exact instance node g
has-part false instance node table g part pattern is none = none (commitment_of pattern) is.best.pattern
has-part true instance node table g part pattern is none = let own = is.exact_value in none own.q own.x own.is_schedule

first-blocked : (exact : Bool) (instance : Instance) (node : Node) (g : ℕ) → g < thermal_count instance → IsBlocked exact instance node g
    → ((earlier : ℕ) → earlier < g → ¬ IsBlocked exact instance node earlier) → IsFirstBlocked exact instance node g
first-blocked false instance node g h empty first = record { within = h; empty = empty; first = first }
first-blocked true instance node g h none first = record { within = h; none = none; first = first }

pub first-without : (exact : Bool) (instance : Instance) (node : Node) (table : Table) (g : ℕ) (total : ℤ) (parts : List ℤ) (patterns : List Pattern) (fault : ValueFault)
    → g < thermal_count instance → IsValuedTo exact instance node table g total parts patterns → IsPartFault exact instance node g fault
    → IsFaultOfKind exact instance node fault
first-without exact instance node table g total parts patterns (Empty n) h so_far is =
    subst (λ k. IsFirstBlocked exact instance node k) (sym is.0)
    (first-blocked exact instance node g h is.1 (λ earlier l. has-part exact instance node table earlier _ _ (so_far.part earlier l)))
first-without exact instance node table g total parts patterns NoMemory h so_far is = is
