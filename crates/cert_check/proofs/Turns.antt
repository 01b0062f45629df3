-- A turn of the walk over a certificate's nodes: the visits so far and the one at hand, with those to come, are the visits.
use Rattle.std.proofs.Common.{◌≡◌, ℕ, suc, ◌+◌, ◌<◌, ◌≤◌, List, [], ◌∷◌, ◌++◌, length, map, drop, get_or, All, refl, sym, ap, subst, ◌∙◌, arith, append_assoc, true, false, ℤ, Option}
use Rattle.std.proofs.Math.Seq.{drop-cons}
use Rattle.std.proofs.lemmas.List.{append-nil, drop_all, get_or-map, length-append, length-map}
use Rattle.uc_model.specs.Prelude.{thermal_count}
use Rattle.cert_text.specs.CertificateText.{TreeNode, LeafNode, SplitNode, IsNodeWithin}
use Rattle.cert_text.specs.Reading.{node_of}
use Rattle.cert_text.specs.declared.cert.CertNode.TheVariants as nodes
use Rattle.cert_check.specs.Visits.{Instance, Table, Visit, IsSound}
use Rattle.cert_check.specs.Refusals.{IsFirstUnsound}
use Rattle.cert_check.specs.inside.Walks.{CertNode, Fixing, HasVisited, MayGoOn, StepsTo, all_visits, places, visit_of, walk}
use Rattle.cert_check.proofs.Places.{behind-front, each-push, front-is}

-- the node at a place of the list
abbrev pub node_at : List CertNode → ℕ → CertNode
node_at tree i = get_or tree i (nodes.Split 0 0)

abbrev rest_of : List CertNode → ℕ → List TreeNode
rest_of tree i = drop i (map node_of tree)

node-first : (tree : List CertNode) (i : ℕ) → i < length tree → rest_of tree i ≡ node_of (node_at tree i) ∷ rest_of tree (i + 1)
node-first tree i within =
    drop-cons (map node_of tree) i (node_of (nodes.Split 0 0)) (omega (arith, length-map tree node_of))
    ∙ ap (λ node. node ∷ drop (suc i) (map node_of tree)) (get_or-map node_of tree i (nodes.Split 0 0) (node_of (nodes.Split 0 0)) within)
    ∙ (let next : suc i ≡ i + 1 = omega arith in ap (λ j. node_of (node_at tree i) ∷ rest_of tree j) next)

none-left : (tree : List CertNode) (i : ℕ) → length tree ≤ i → rest_of tree i ≡ []
none-left tree i past = drop_all i (map node_of tree) (omega (arith, length-map tree node_of))

-- whatever the node is, its visit comes first
record Comes (path : List Fixing) (node : TreeNode) (rest : List TreeNode) : Type 0 where
  more : List Visit
  first : walk (places path) (node ∷ rest) ≡ (record { place = record { fixings = path }; node = node }) ∷ more

comes : (path : List Fixing) (node : TreeNode) (rest : List TreeNode) → Comes path node rest
comes path (LeafNode leaf) rest = record { more = _; first = refl }
comes path (SplitNode g t) rest = record { more = _; first = refl }

pub visited-unsound : (instance : Instance) (tables : List Table) (bound : Option ℤ) (tree : List CertNode) (i : ℕ) (path : List Fixing)
    → HasVisited instance tables bound (all_visits tree) i path (rest_of tree i) → i < length tree
    → ¬ IsSound instance tables bound (visit_of path (node_at tree i))
    → IsFirstUnsound instance tables bound (all_visits tree) i (visit_of path (node_at tree i))
visited-unsound instance tables bound tree i path has within unsound = grind (arith, comes, node-first, behind-front, front-is, has, within, unsound)

pub visited-next : (instance : Instance) (tables : List Table) (bound : Option ℤ) (tree : List CertNode) (i : ℕ) (path next : List Fixing)
    → HasVisited instance tables bound (all_visits tree) i path (rest_of tree i) → i < length tree
    → IsSound instance tables bound (visit_of path (node_at tree i)) → StepsTo path (node_at tree i) next true
    → HasVisited instance tables bound (all_visits tree) (i + 1) next (rest_of tree (i + 1))
visited-next instance tables bound tree i path next has within sound steps =
    let visit = visit_of path (node_at tree i) in
    record {
      done = has.done ++ visit ∷ [];
      count = length-append has.done (visit ∷ []) ∙ ap (λ n. n + 1) has.count;
      parts = grind (arith, node-first, append_assoc, has, path, tree, i, within, steps, visit, next);
      sound = each-push (IsSound instance tables bound) has.done visit has.sound sound;
    }

pub visited-end : (instance : Instance) (tables : List Table) (bound : Option ℤ) (tree : List CertNode) (i : ℕ) (path next : List Fixing)
    → HasVisited instance tables bound (all_visits tree) i path (rest_of tree i) → i < length tree
    → IsSound instance tables bound (visit_of path (node_at tree i)) → StepsTo path (node_at tree i) next false
    → All (IsSound instance tables bound) (all_visits tree)
visited-end instance tables bound tree i path next has within sound steps =
    let visit = visit_of path (node_at tree i) in
    let parts = has.parts ∙ ap (λ rest. has.done ++ walk (places path) rest) (node-first tree i within)
    ∙ ap (λ visits. has.done ++ visits) (steps (rest_of tree (i + 1))) in
    subst (λ visits. All (IsSound instance tables bound) visits) (sym parts)
    (each-push (IsSound instance tables bound) has.done visit has.sound sound)

pub visited-all : (instance : Instance) (tables : List Table) (bound : Option ℤ) (tree : List CertNode) (i : ℕ) (path : List Fixing)
    → HasVisited instance tables bound (all_visits tree) i path (rest_of tree i) → length tree ≤ i
    → All (IsSound instance tables bound) (all_visits tree)
visited-all instance tables bound tree i path has past = grind (arith, none-left, append-nil, has, past)

-- what each node meets, each meets
pub each-mapped : (P : TreeNode → Type 0) (tree : List CertNode) (i : ℕ) → All P (map node_of tree) → i < length tree → P (node_of (node_at tree i))
each-mapped P tree i each within =
    subst P (get_or-map node_of tree i (nodes.Split 0 0) (node_of (nodes.Split 0 0)) within)
    (each i (node_of (nodes.Split 0 0)) (omega (arith, length-map tree node_of)))

-- the walk may go on behind a sound node within the instance
pub may_go_on : (instance : Instance) (tables : List Table) (bound : Option ℤ) (path : List Fixing) (count : ℕ) (node : CertNode)
    → IsNodeWithin instance.periods (thermal_count instance) count (node_of node) → IsSound instance tables bound (visit_of path node)
    → MayGoOn instance path node
may_go_on instance tables bound path count (nodes.Split g t) within sound = (record { unit = within.0; period = within.1 }, sound)
may_go_on instance tables bound path count _ within sound = tt
