-- A unit with an exact value has a schedule of its own, and one without has none.
use Rattle.std.proofs.Common.{◌≡◌, ℕ, ◌↔◌, Bool, true, false, not, sym, IsTrue, ℤ, Option, Some, None, MatchOption, refl}
use Rattle.std.specs.Option.{is_some}
use Rattle.std.proofs.lemmas.Bool.{false≢true}
use Rattle.dual_model.specs.Prelude.{HasNoUnitSchedule, IsExactUnitValue}
use Rattle.dual_model.specs.declared.table.Table.{Table}
use Rattle.leaf_values.specs.Paths.{Instance, Node}
use Rattle.leaf_values.proofs.unscheduled.is_unscheduled.Goals as goal

by_value : (instance : Instance) (node : Node) (table : Table) (g : ℕ) (value : Option ℤ) (none : Bool) → is_some value ≡ not none
    → MatchOption value (HasNoUnitSchedule instance node g) (IsExactUnitValue instance node table g) → IsTrue none ↔ HasNoUnitSchedule instance node g
by_value instance node table g None true e is = ((λ told. is), (λ lacks. refl))
by_value instance node table g None false e is = absurd (false≢true e)
by_value instance node table g (Some v) true e is = absurd (false≢true (sym e))
by_value instance node table g (Some v) false e is = ((λ told. absurd (false≢true told)), (λ lacks. absurd (lacks is.q is.x is.is_schedule)))

pub returns-clause-none : goal.returns-clause-none
returns-clause-none c = λ node decided.
    by_value c.args.instance.now node _ c.args.g c.unit_value.result c.is_none.result c.is_none.ensures (c.unit_value.ensures.value node decided)
