-- What is told of the number of a leaf is told of the leaf.
use Rattle.std.proofs.Common.{arith, ◌≡◌, ◌<◌, Bool, List, ℤ, length, subst, ◌↔◌, IfOk, IsTrue, Option, Result, true, false}
use Rattle.std.proofs.lemmas.Result.{IfOk-weaker}
use Rattle.uc_model.specs.Prelude.{thermal_count}
use Rattle.uc_model.specs.declared.memory.NoMemory.{NoMemory}
use Rattle.leaf_values.specs.Paths.{node_of}
use Rattle.cert_check.specs.Visits.{Instance, Table, IsSound}
use Rattle.cert_check.specs.inside.Leaves.{CertNode, IsLeafNode}
use Rattle.cert_check.specs.inside.Walks.{Fixing, visit_of}
use Rattle.cert_check.proofs.LeafNumbers.{blocked-sound}
use Rattle.cert_check.proofs.leaf.Leaves.is_sound.Goals as goal

-- of a leaf that is the one in hand
of_leaf : (instance : Instance) (tables : List Table) (bound : Option ℤ) (path : List Fixing) (leaf named : CertNode) → leaf ≡ named
    → (result : Result Bool NoMemory) → IfOk result (λ told. IsTrue told ↔ IsSound instance tables bound (visit_of path named))
    → IfOk result (λ told. IsTrue told ↔ IsSound instance tables bound (visit_of path leaf))
of_leaf instance tables bound path leaf named is result told = grind (arith, is)

pub returns-in-Bound-clause-sound : goal.returns-in-Bound-clause-sound
returns-in-Bound-clause-sound c = grind (arith, of_leaf, IfOk-weaker, c)

pub returns-in-Exact-clause-sound : goal.returns-in-Exact-clause-sound
returns-in-Exact-clause-sound c = grind (arith, of_leaf, IfOk-weaker, c)

pub returns-in-Ray-clause-sound : goal.returns-in-Ray-clause-sound
returns-in-Ray-clause-sound c = grind (arith, of_leaf, IfOk-weaker, c)

pub returns-in-ExactRay-clause-sound : goal.returns-in-ExactRay-clause-sound
returns-in-ExactRay-clause-sound c = grind (arith, of_leaf, IfOk-weaker, c)

pub returns-in-Empty-clause-sound : goal.returns-in-Empty-clause-sound
returns-in-Empty-clause-sound c =
    let place = node_of c.args.path.now in
    let instance = c.args.instance.now in
    let tables = c.args.cert.now.tables in
    let g = c.in-Empty.g in
    let within : g < thermal_count instance = subst (λ (leaf : CertNode). IsLeafNode (thermal_count instance) (length tables) leaf) c.in-Empty.is c.requires.leaf in
    of_leaf instance tables c.args.cert.now.bound c.args.path.now c.args.leaf.now _ c.in-Empty.is c.is_blocked.result
    (IfOk-weaker c.is_blocked.result _ _ (λ told is. blocked-sound false instance tables place c.args.cert.now.bound g told within (is place c.decide.ensures))
    c.is_blocked.ensures.blocked)

pub returns-in-ExactEmpty-clause-sound : goal.returns-in-ExactEmpty-clause-sound
returns-in-ExactEmpty-clause-sound c =
    let place = node_of c.args.path.now in
    let instance = c.args.instance.now in
    let tables = c.args.cert.now.tables in
    let g = c.in-ExactEmpty.g in
    let within : g < thermal_count instance = subst (λ (leaf : CertNode). IsLeafNode (thermal_count instance) (length tables) leaf) c.in-ExactEmpty.is c.requires.leaf in
    of_leaf instance tables c.args.cert.now.bound c.args.path.now c.args.leaf.now _ c.in-ExactEmpty.is c.is_blocked-in-ExactEmpty.result
    (IfOk-weaker c.is_blocked-in-ExactEmpty.result _ _ (λ told is. blocked-sound true instance tables place c.args.cert.now.bound g told within (is place c.decide.ensures))
    c.is_blocked-in-ExactEmpty.ensures.blocked)
