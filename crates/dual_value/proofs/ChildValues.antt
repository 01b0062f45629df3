-- The value of a node from its parent's: what the other units add stays, and one part gives way to another.
use Rattle.std.proofs.Common.{◌≡◌, ◌≢◌, ℕ, zero, suc, ◌+◌, ◌*◌, ◌<◌, ◌≤◌, ⊎_elim, Bool, false, List, Some, length, sym, ap, subst, ◌∙◌, arith, ℤ, pos, ◌+ℤ◌, ◌-ℤ◌, slice_set, unsigned_abs, get_or-set_other, get_or-set_same, length-set}
use Rattle.std.proofs.lemmas.List.Elements.{All-pop}
use Rattle.uc_model.specs.Prelude.{commitment_of, thermal_count, sum_below}
use Rattle.uc_model.specs.declared.pattern.Pattern.{Pattern}
use Rattle.uc_model.proofs.Common.{linear, abs_add, below_or_last, sum_below-same}
use Rattle.dual_model.specs.Prelude.{IsCell, IsFirstEmpty, IsNodeOf, IsPatternAt, renewables_value, system_value, unit_part, IsBestPattern}
use Rattle.dual_model.specs.declared.node.Fixing.{Fixing}
use Rattle.dual_model.specs.declared.node.Node.{Node}
use Rattle.dual_model.specs.declared.table.Table.{Table}
use Rattle.dual_model.specs.declared.valued.Valued.{Valued}
use Rattle.ramp_duals.proofs.ConstantSizes.{sum_below-size}
use Rattle.system_value.specs.Sizes.{MAX_RENEWABLES, MAX_SYSTEM}
use Rattle.dual_value.specs.Inheritance.{IsParentOf}
use Rattle.dual_value.specs.NodeAnswer.{Empty, Instance, NoMemory, ValueFault, IsFaultOf, IsPartFault, IsPartOf, IsValued, MAX_PART}
use Rattle.dual_value.proofs.OtherUnits.{part-other, pattern-other}
use Rattle.dual_value.proofs.ValuedUnits.{part_in, pattern_in, IsValuedTo}

-- ---- the parts of an answer
-- the least value of a unit's patterns is one number
least-alike : (instance : Instance) (node : Node) (table : Table) (g : ℕ) (on other : ℕ → Bool) (v w : ℤ)
    → IsBestPattern instance node table g on v → IsBestPattern instance node table g other w → v ≡ w
least-alike instance node table g on other v w first second =
    let below = first.least other w second.pattern second.value in
    let above = second.least on v first.pattern first.value in
    omega (arith, linear)

-- the total is what does not hang on units with the sum of the parts
pub total-is : (instance : Instance) (node : Node) (table : Table) (valued : Valued) → IsValued instance node table valued
    → valued.total ≡ (system_value instance table +ℤ renewables_value instance table) +ℤ sum_below (thermal_count instance) (part_in valued.parts)
total-is instance node table valued is =
    let each = sum_below-same (thermal_count instance) (λ g. unit_part instance table g (is.total.unit_value g)) (part_in valued.parts) (λ g h. alike g h) in
    let whole = is.total.total in
    omega (arith, linear)
  where
    alike : (g : ℕ) → g < thermal_count instance → unit_part instance table g (is.total.unit_value g) ≡ part_in valued.parts g
    alike g h =
        let own = is.total.units g h in
        let part = is.part g h in
        ap (unit_part instance table g)
        (least-alike instance node table g own.on (commitment_of (pattern_in valued.patterns g)) (is.total.unit_value g) part.value own.best part.best)
        ∙ sym part.is

-- ---- a part that gives way
pub sum-set : (n g : ℕ) (parts : List ℤ) (part : ℤ) → g < n → g < length parts
    → sum_below n (part_in (slice_set parts g part)) ≡ (sum_below n (part_in parts) -ℤ part_in parts g) +ℤ part
sum-set zero g parts part h inside = absurd (omega arith)
sum-set (suc n) g parts part h inside =
    let here = get_or-set_same parts g part (pos 0) inside in
    ⊎_elim
    (λ (before : g < n).
    let front = sum-set n g parts part before inside in
    let last = get_or-set_other parts g n part (pos 0) (λ e. omega arith) in
    omega (arith, linear))
    (λ (last : g ≡ n).
    let front = sum_below-same n (part_in (slice_set parts g part)) (part_in parts) (λ k l. get_or-set_other parts g k part (pos 0) (λ e. omega arith)) in
    let new : part_in (slice_set parts g part) n ≡ part = ap (part_in (slice_set parts g part)) (sym last) ∙ here in
    let old = ap (part_in parts) last in
    omega (arith, linear))
    (below_or_last n g h)

-- ---- the answer of a child
pub valued-child : (instance : Instance) (node : Node) (table : Table) (g : ℕ) (valued : Valued) (total part : ℤ) (pattern : Pattern)
    → g < thermal_count instance → IsParentOf instance node table g valued → IsPartOf instance node table g part pattern → unsigned_abs part ≤ MAX_PART
    → total ≡ (valued.total -ℤ part_in valued.parts g) +ℤ part
    → IsValuedTo false instance node table (thermal_count instance) total (slice_set valued.parts g part) (slice_set valued.patterns g pattern)
valued-child instance node table g valued total part pattern h from is small e =
    let count = from.value.parts in
    let others = from.value.patterns in
    let before = total-is instance from.parent table valued from.value in
    let change = sum-set (thermal_count instance) g valued.parts part h (omega arith) in
    let sum : total ≡ (system_value instance table +ℤ renewables_value instance table) +ℤ sum_below (thermal_count instance) (part_in (slice_set valued.parts g part)) = omega (arith, linear) in
    let rest = rest-is before count in
    record {
      part_count = length-set valued.parts g part ∙ count;
      pattern_count = length-set valued.patterns g pattern ∙ others;
      part = own;
      part_size = sized;
      sum = sum;
      rest = rest;
      size = subst (λ x. unsigned_abs x ≤ MAX_SYSTEM + MAX_RENEWABLES + thermal_count instance * MAX_PART) (sym sum)
          (abs_add (system_value instance table +ℤ renewables_value instance table) (sum_below (thermal_count instance) (part_in (slice_set valued.parts g part)))
          (MAX_SYSTEM + MAX_RENEWABLES) (thermal_count instance * MAX_PART) rest
          (sum_below-size (thermal_count instance) MAX_PART (part_in (slice_set valued.parts g part)) sized));
    }
  where
    part_here : part_in (slice_set valued.parts g part) g ≡ part
    part_here = get_or-set_same valued.parts g part (pos 0) (let count = from.value.parts in omega arith)

    pattern_here : pattern_in (slice_set valued.patterns g pattern) g ≡ pattern
    pattern_here = get_or-set_same valued.patterns g pattern (record { low = 0; high = 0 }) (let count = from.value.patterns in omega arith)

    rest-is : valued.total ≡ (system_value instance table +ℤ renewables_value instance table) +ℤ sum_below (thermal_count instance) (part_in valued.parts)
        → length valued.parts ≡ thermal_count instance
        → unsigned_abs (system_value instance table +ℤ renewables_value instance table) ≤ MAX_SYSTEM + MAX_RENEWABLES
    rest-is before count =
        let whole = ap (λ n. sum_below n (part_in valued.parts)) count in
        let same : valued.total -ℤ sum_below (length valued.parts) (part_in valued.parts) ≡ system_value instance table +ℤ renewables_value instance table = omega (arith, linear) in
        subst (λ x. unsigned_abs x ≤ MAX_SYSTEM + MAX_RENEWABLES) same from.sizes.rest

    kept : (k : ℕ) → k < thermal_count instance → k ≢ g → IsPartOf instance node table k (part_in (slice_set valued.parts g part) k) (pattern_in (slice_set valued.patterns g pattern) k)
    kept k l other =
        subst (λ x. IsPartOf instance node table k x (pattern_in (slice_set valued.patterns g pattern) k)) (sym (get_or-set_other valued.parts g k part (pos 0) other))
        (subst (λ x. IsPartOf instance node table k (part_in valued.parts k) x) (sym (get_or-set_other valued.patterns g k pattern (record { low = 0; high = 0 }) other))
        (subst (λ n. IsPartOf instance n table k (part_in valued.parts k) (pattern_in valued.patterns k)) (sym from.is)
        (part-other instance from.parent table g from.period from.on k (part_in valued.parts k) (pattern_in valued.patterns k) other (from.value.part k l))))

    own : (k : ℕ) → k < thermal_count instance → IsPartOf instance node table k (part_in (slice_set valued.parts g part) k) (pattern_in (slice_set valued.patterns g pattern) k)
    own k l =
        ⊎_elim
        (λ (here : k ≡ g).
        subst (λ n. IsPartOf instance node table n (part_in (slice_set valued.parts g part) n) (pattern_in (slice_set valued.patterns g pattern) n)) (sym here)
        (subst (λ x. IsPartOf instance node table g x (pattern_in (slice_set valued.patterns g pattern) g)) (sym part_here)
        (subst (λ x. IsPartOf instance node table g part x) (sym pattern_here) is)))
        (λ (other : k ≡ g → ⊥). kept k l other)
        (grind arith)

    sized : (k : ℕ) → k < thermal_count instance → unsigned_abs (part_in (slice_set valued.parts g part) k) ≤ MAX_PART
    sized k l =
        ⊎_elim
        (λ (here : k ≡ g). subst (λ n. unsigned_abs (part_in (slice_set valued.parts g part) n) ≤ MAX_PART) (sym here) (subst (λ x. unsigned_abs x ≤ MAX_PART) (sym part_here) small))
        (λ (other : k ≡ g → ⊥).
        subst (λ x. unsigned_abs x ≤ MAX_PART) (sym (get_or-set_other valued.parts g k part (pos 0) other))
        (from.sizes.parts k (pos 0) (let count = from.value.parts in omega arith)))
        (grind arith)

-- ---- the unit of the last decision
-- it is a unit of the instance
pub unit-within : (instance : Instance) (node : Node) (table : Table) (g : ℕ) (valued : Valued) → IsNodeOf instance node → IsParentOf instance node table g valued
    → g < thermal_count instance
unit-within instance node table g valued cells from =
    let fixing : Fixing = record { g = g; t = from.period; on = from.on } in
    let last = All-pop (λ (fixing : Fixing). IsCell instance fixing.g fixing.t) node.fixings from.parent.fixings (Some fixing) (ap (λ (n : Node). n.fixings) from.is) cells in
    last.1.unit

-- where it has no pattern, it is the first such unit
pub only-without : (instance : Instance) (node : Node) (table : Table) (g : ℕ) (valued : Valued) (fault : ValueFault)
    → g < thermal_count instance → IsParentOf instance node table g valued → IsPartFault false instance node g fault → IsFaultOf instance node fault
only-without instance node table g valued (Empty n) h from is =
    subst (λ k. IsFirstEmpty instance node k) (sym is.0)
    (record {
      within = h;
      empty = is.1;
      first = λ earlier l none.
          none (commitment_of (pattern_in valued.patterns earlier))
          (subst (λ n. IsPatternAt instance n earlier (commitment_of (pattern_in valued.patterns earlier))) (sym from.is)
          (pattern-other instance from.parent g from.period from.on earlier (commitment_of (pattern_in valued.patterns earlier)) (λ e. omega arith)
          (from.value.part earlier (omega arith)).best.pattern));
    })
only-without instance node table g valued NoMemory h from is = is
