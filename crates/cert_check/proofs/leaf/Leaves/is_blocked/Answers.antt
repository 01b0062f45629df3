-- What is told of the unit's decisions is told of each node that decides so.
use Rattle.std.proofs.Common.{arith, ◌≡◌, ℕ, ◌<◌, Bool, true, false, IsTrue, ◌↔◌, List, length, get_or, sym, subst, IfOk, Result}
use Rattle.std.proofs.lemmas.List.{get_or_read}
use Rattle.uc_model.specs.Prelude.{thermal_count}
use Rattle.uc_model.specs.declared.memory.NoMemory.{NoMemory}
use Rattle.dual_model.specs.Prelude.{IsFixOf, IsBlocked}
use Rattle.dual_model.specs.declared.node.Fix.{Fix}
use Rattle.leaf_values.specs.Paths.{Instance, Node, AreFixesOf}
use Rattle.cert_check.proofs.LeafNumbers.{each-node}
use Rattle.cert_check.proofs.leaf.Leaves.is_blocked.Goals as goal

-- that of a kind
of_kind : (instance : Instance) (fixes : List Fix) (g : ℕ) (fix : Fix) (kind exact : Bool) (result : Result Bool NoMemory) → exact ≡ kind
    → ((node : Node) → AreFixesOf instance node fixes → IsFixOf instance.periods node g fix)
    → ((node : Node) → IsFixOf instance.periods node g fix → IfOk result (λ told. IsTrue told ↔ IsBlocked kind instance node g))
    → IfOk result (λ told. (node : Node) → AreFixesOf instance node fixes → IsTrue told ↔ IsBlocked exact instance node g)
of_kind instance fixes g fix kind exact result is fixed told =
    each-node (λ node. AreFixesOf instance node fixes) (λ node told. IsTrue told ↔ IsBlocked exact instance node g) result
    (λ node are. subst (λ (e : Bool). IfOk result (λ told. IsTrue told ↔ IsBlocked e instance node g)) (sym is) (told node (fixed node are)))

-- the decisions of the unit are those that are read
fixed_at : (instance : Instance) (fixes : List Fix) (g : ℕ) (fix : Fix) → g < thermal_count instance → length fixes ≡ thermal_count instance → fix ≡ get_or fixes g fix
    → (node : Node) → AreFixesOf instance node fixes → IsFixOf instance.periods node g fix
fixed_at instance fixes g fix within count is node are = grind (arith, get_or_read, within, count, is, are)

pub returns-then-exact-clause-blocked : goal.returns-then-exact-clause-blocked
returns-then-exact-clause-blocked c =
    let fix = c.index-fix.result.now in
    of_kind c.args.instance.now c.args.self.now.fixes.items c.args.g fix true c.args.exact c.is_unscheduled.result c.if-exact.true
    (fixed_at c.args.instance.now c.args.self.now.fixes.items c.args.g fix c.requires.unit c.requires.room.fixes c.index-fix.ensures)
    c.is_unscheduled.ensures.none

pub returns-else-exact-clause-blocked : goal.returns-else-exact-clause-blocked
returns-else-exact-clause-blocked c =
    let fix = c.index-fix.result.now in
    of_kind c.args.instance.now c.args.self.now.fixes.items c.args.g fix false c.args.exact c.is_empty.result c.if-exact.false
    (fixed_at c.args.instance.now c.args.self.now.fixes.items c.args.g fix c.requires.unit c.requires.room.fixes c.index-fix.ensures)
    c.is_empty.ensures.empty
