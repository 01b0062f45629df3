-- The visits of a list of nodes by a walk that knows the places at which subtrees are still to come, the next one first.
-- This project's own.
use Rattle.std.specs.Prelude.{◌≡◌, ℕ, Bool, not, IsTrue, All, true, false, List, [], ◌∷◌, ◌++◌, ℤ, Option, length, map, if◌then◌else◌}
pub use Rattle.uc_model.specs.declared.instance.Instance.{Instance}
use Rattle.dual_model.specs.Prelude.{IsCell, IsNodeOf, child, root, is_decided}
pub use Rattle.dual_model.specs.declared.node.Fixing.{Fixing}
use Rattle.cert_text.specs.CertificateText.{TreeNode, LeafNode, SplitNode}
use Rattle.cert_text.specs.Reading.{node_of}
pub use Rattle.cert_text.specs.declared.cert.CertNode.{CertNode}
use Rattle.cert_text.specs.declared.cert.CertNode.TheVariants as nodes
use Rattle.leaf_values.specs.Paths.{DecidesOnce}
use Rattle.cert_check.specs.Visits.{Node, Table, Visit, IsSound}

-- a split's children are to come before the other places
abbrev pub walk : List Node → List TreeNode → List Visit
walk [] nodes = []
walk (place ∷ places) [] = []
walk (place ∷ places) (LeafNode leaf ∷ nodes) = record { place = place; node = LeafNode leaf } ∷ walk places nodes
walk (place ∷ places) (SplitNode g t ∷ nodes) =
    record { place = place; node = SplitNode g t } ∷ walk (child place g t false ∷ child place g t true ∷ places) nodes

-- the visits of all nodes from the root on
abbrev pub all_visits : List CertNode → List Visit
all_visits nodes = walk (root ∷ []) (map node_of nodes)

-- the on-child of a path's last decision, where that is for the off-child
abbrev pub other_child : List Fixing → Fixing → List Node
other_child before last = if last.on then [] else record { fixings = before ++ (record { g = last.g; t = last.t; on = true }) ∷ [] } ∷ []

-- the on-children that are still to come on a path behind some decisions, the deepest first
abbrev pub pending : List Fixing → List Fixing → List Node
pending before [] = []
pending before (fixing ∷ fixings) = pending (before ++ fixing ∷ []) fixings ++ other_child before fixing

-- the place that a path leads to, and those that are to come behind it
abbrev pub places : List Fixing → List Node
places fixings = record { fixings = fixings } ∷ pending [] fixings

abbrev pub visit_of : List Fixing → CertNode → Visit
visit_of fixings node = record { place = record { fixings = fixings }; node = node_of node }

-- behind a node at a path comes the next path, or nothing
abbrev pub StepsTo : List Fixing → CertNode → List Fixing → Bool → Type 0
StepsTo path node next true =
    (nodes : List TreeNode) → walk (places path) (node_of node ∷ nodes) ≡ visit_of path node ∷ walk (places next) nodes
StepsTo path node next false =
    (nodes : List TreeNode) → walk (places path) (node_of node ∷ nodes) ≡ visit_of path node ∷ []

-- a path turns to the next place that is to come on it, or there is none
abbrev pub TurnsTo : List Fixing → List Fixing → Bool → Type 0
TurnsTo path next true = pending [] path ≡ places next
TurnsTo path next false = pending [] path ≡ []

-- a path of decisions on cells of the instance, none on one that is decided
pub record IsPath (instance : Instance) (path : List Fixing) : Type 0 where
  pub cells : IsNodeOf instance (record { fixings = path })
  pub once : DecidesOnce path

-- a split is on a cell of the instance that the path hasn't decided
abbrev pub MayGoOn : Instance → List Fixing → CertNode → Type 0
MayGoOn instance path (nodes.Split g t) = IsCell instance g t × IsTrue (not (is_decided (record { fixings = path }) g t))
MayGoOn instance path (nodes.Bound table) = Unit {0}
MayGoOn instance path (nodes.Ray table) = Unit {0}
MayGoOn instance path (nodes.Empty g) = Unit {0}
MayGoOn instance path (nodes.Exact table) = Unit {0}
MayGoOn instance path (nodes.ExactRay table) = Unit {0}
MayGoOn instance path (nodes.ExactEmpty g) = Unit {0}

-- the walk has made so many visits, all sound, and goes on at the path with the nodes that are left
pub record HasVisited (instance : Instance) (tables : List Table) (bound : Option ℤ) (all : List Visit) (turns : ℕ) (path : List Fixing) (rest : List TreeNode) : Type 0 where
  pub done : List Visit
  pub count : length done ≡ turns
  pub parts : all ≡ done ++ walk (places path) rest
  pub sound : All (IsSound instance tables bound) done
