-- The open leaf has its place, that place and its bound changed, and two others follow.
use Rattle.std.proofs.Common.{◌≡◌, ℕ, suc, ◌++◌, ◌∷◌, [], Option, ℤ, None, length-append, length-set, set, refl, ◌∙◌, ap, arith}
use Rattle.branch_tree.specs.inside.Minima.{MinimaView}
use Rattle.branch_tree.proofs.Changes.{stored_within, stored_count, bound_count, room_for_two, split_made}
use Rattle.branch_tree.proofs.tree.Tree.split.Goals as goal

-- what the tournament is after three changes
three_steps : (a b c d : MinimaView) (node : ℕ) (bound : Option ℤ) → b ≡ record a { values = set a.values node None }
    → c ≡ record b { values = b.values ++ bound ∷ [] } → d ≡ record c { values = c.values ++ bound ∷ [] }
    → d ≡ record a { values = (set a.values node None ++ bound ∷ []) ++ bound ∷ [] }
three_steps a b c d node bound first second third = grind (arith, first, second, third)

pub index-requires : goal.index-requires
index-requires c =
    let within = stored_within c.self.inside c.args.self.now c.args.node c.self.view_is c.self.invariant c.requires.live in
    omega (arith, c.self.inside.places.ok.0)

pub set-requires : goal.set-requires
set-requires c =
    let within = stored_within c.self.inside c.args.self.now c.args.node c.self.view_is c.self.invariant c.requires.live in
    omega (arith, bound_count c.self.inside c.self.invariant)

pub push-requires : goal.push-requires
push-requires c = grind (arith, room_for_two, length-set, c)

pub push-requires-2 : goal.push-requires-2
push-requires-2 c = grind (arith, room_for_two, length-set, length-append, c)

pub split-requires-clause-within : goal.split-requires-clause-within
split-requires-clause-within c =
    let within = stored_within c.self.inside c.args.self.now c.args.node c.self.view_is c.self.invariant c.requires.live in
    omega (arith, c.self.inside.places.ok.0)

pub split-requires-clause-room : goal.split-requires-clause-room
split-requires-clause-room c = grind (arith, c)

pub split-requires-clause-countable : goal.split-requires-clause-countable
split-requires-clause-countable c = c.self.invariant.whole.countable

pub invariant_of-self : goal.invariant_of-self
invariant_of-self c = (
    split_made c.self.inside (record c.self.inside { places = c.split.new.places; bounds = c.push-2.new.self }) c.args.self.now c.args.node c.args.g c.args.t
    c.split.result.0 c.split.result.1 c.index.result.now c.bound_at-bound.result c.self.view_is c.self.invariant
    (record { units = refl; periods = refl; room = c.split.ensures.capacity }) c.requires.live c.requires.free c.requires.room
    (c.split.ensures.off ∙ c.self.inside.places.ok.0) (c.split.ensures.on ∙ ap suc c.self.inside.places.ok.0) c.split.ensures.places
    c.index.ensures c.bound_at-bound.ensures
    (three_steps c.self.inside.bounds c.set.new.self c.push.new.self c.push-2.new.self c.args.node c.bound_at-bound.result
    c.set.ensures c.push.ensures c.push-2.ensures)
    ).stored

pub returns : goal.returns
returns c =
    let count = stored_count c.self.inside c.args.self.now c.self.view_is c.self.invariant in
    let made = split_made c.self.inside (record c.self.inside { places = c.split.new.places; bounds = c.push-2.new.self }) c.args.self.now c.args.node c.args.g c.args.t
    c.split.result.0 c.split.result.1 c.index.result.now c.bound_at-bound.result c.self.view_is c.self.invariant
    (record { units = refl; periods = refl; room = c.split.ensures.capacity }) c.requires.live c.requires.free c.requires.room
    (c.split.ensures.off ∙ c.self.inside.places.ok.0) (c.split.ensures.on ∙ ap suc c.self.inside.places.ok.0) c.split.ensures.places
    c.index.ensures c.bound_at-bound.ensures
    (three_steps c.self.inside.bounds c.set.new.self c.push.new.self c.push-2.new.self c.args.node c.bound_at-bound.result
    c.set.ensures c.push.ensures c.push-2.ensures) in
    record {
      children = (c.split.ensures.off ∙ (c.self.inside.places.ok.0 ∙ count), c.split.ensures.on ∙ ap suc (c.self.inside.places.ok.0 ∙ count));
      tree = made.view;
      whole = made.whole;
    }
