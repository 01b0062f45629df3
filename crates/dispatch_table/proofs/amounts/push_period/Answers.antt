-- The amounts of a unit more, and those of the system.
use Rattle.std.proofs.Common.{◌≡◌, ◌≤◌, List, ◌∷◌, [], ◌++◌, ap, ◌∙◌, arith, length, nat_lt}
use Rattle.std.proofs.lemmas.Result.{on_ok_weaker}
use Rattle.uc_model.specs.Prelude.{renewable_count, thermal_count}
use Rattle.uc_model.specs.declared.limits.TheConstants.{MAX_UNITS}
use Rattle.dispatch_rules.specs.declared.amount.Amount.{Amount}
use Rattle.dispatch_rules.specs.declared.amount.Amount.TheVariants.{Given, Shed, Short}
use Rattle.dispatch_rules.specs.Prelude.{listed, unit_amounts, where_true}
use Rattle.dispatch_table.specs.Tasks.{task_of}
use Rattle.dispatch_table.proofs.Pushed.{push_both, push_listed}
use Rattle.dispatch_table.proofs.amounts.push_period.Goals as goal

pub loop-g-preserved : goal.loop-g-preserved
loop-g-preserved c =
    push_listed c.args.all.now.items c.loop-g.all.items c.push_unit.new.all.items c.loop-g.g (unit_amounts (task_of c.args.given.now) c.args.t) c.loop-g.invariant
    c.in_ok-push_unit.ensures

pub push_system-requires : goal.push_system-requires
push_system-requires c = let few : renewable_count c.args.given.now.instance.now ≤ MAX_UNITS = c.requires.given.lawful.renewable_units in omega arith

pub returns : goal.returns
returns c =
    let instance = c.args.given.now.instance.now in
    let t = c.args.t in
    let before = c.args.all.now.items in
    let units = unit_amounts (task_of c.args.given.now) c.args.t in
    let count = ap length c.as_slice-g-end.ensures in
    let all_units : c.loop-g.g ≡ thermal_count instance = omega arith in
    let rest : List Amount =
    listed (renewable_count instance) (λ w. Given w t ∷ []) ++ (where_true (nat_lt 0 instance.a) (Shed t ∷ []) ++ where_true (nat_lt 0 instance.b) (Short t ∷ [])) in
    on_ok_weaker c.push_system.result
    (λ (pushed : c.push_system.new.all.items ≡ c.loop-g.all.items ++ rest).
    push_both before c.loop-g.all.items c.push_system.new.all.items (listed (thermal_count instance) units) rest
    (c.loop-g.invariant ∙ ap (λ n. before ++ listed n units) all_units) pushed)
    c.push_system.ensures
