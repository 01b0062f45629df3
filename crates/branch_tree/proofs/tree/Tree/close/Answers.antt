-- The open leaf has its place, and that place and its bound changed.
use Rattle.std.proofs.Common.{◌≡◌, ℕ, ℤ, Option, set, refl, ap, ◌∙◌, arith}
use Rattle.branch_tree.specs.StoredTree.{leaf_bound}
use Rattle.branch_tree.specs.inside.Minima.{MinimaView}
use Rattle.branch_tree.proofs.Changes.{stored_within, bound_count, close_made}
use Rattle.branch_tree.proofs.tree.Tree.close.Goals as goal

bound_stored : (a b : MinimaView) (node : ℕ) (bound is : Option ℤ) → b ≡ record a { values = set a.values node bound } → bound ≡ is
    → b ≡ record a { values = set a.values node is }
bound_stored a b node bound is e same = e ∙ ap (λ (x : Option ℤ). record a { values = set a.values node x }) same

pub set-requires : goal.set-requires
set-requires c =
    let within = stored_within c.self.inside c.args.self.now c.args.node c.self.view_is c.self.invariant c.requires.live in
    omega (arith, bound_count c.self.inside c.self.invariant)

pub store-requires : goal.store-requires
store-requires c =
    let within = stored_within c.self.inside c.args.self.now c.args.node c.self.view_is c.self.invariant c.requires.live in
    omega (arith, c.self.inside.places.ok.0)

pub invariant_of-self : goal.invariant_of-self
invariant_of-self c = (
    close_made c.self.inside (record c.self.inside { places = c.store.new.places; bounds = c.set.new.self }) c.args.self.now c.args.node c.args.leaf
    c.self.view_is c.self.invariant
    (record { units = refl; periods = refl; room = c.store.ensures.capacity }) c.requires.live c.store.ensures.places
    (bound_stored c.self.inside.bounds c.set.new.self c.args.node c.bound_at.result (leaf_bound c.args.leaf) c.set.ensures c.bound_at.ensures)
    ).stored

pub returns : goal.returns
returns c =
    let made = close_made c.self.inside (record c.self.inside { places = c.store.new.places; bounds = c.set.new.self }) c.args.self.now c.args.node c.args.leaf
    c.self.view_is c.self.invariant
    (record { units = refl; periods = refl; room = c.store.ensures.capacity }) c.requires.live c.store.ensures.places
    (bound_stored c.self.inside.bounds c.set.new.self c.args.node c.bound_at.result (leaf_bound c.args.leaf) c.set.ensures c.bound_at.ensures) in
    record { tree = made.view; whole = made.whole }
