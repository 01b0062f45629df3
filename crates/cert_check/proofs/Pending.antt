-- The places that are to come on a path, by its last decision; and the walk over the nodes of a tree in preorder.
use Rattle.std.proofs.Common.{arith, ◌≡◌, ℕ, true, false, refl, sym, ap, ◌∙◌, List, [], ◌∷◌, ◌++◌, append_assoc, append-nil, if◌then◌else◌}
use Rattle.dual_model.specs.Prelude.{Tree, Ends, Splits, child, Leaf}
use Rattle.cert_text.specs.CertificateText.{TreeNode, SplitNode, preorder}
use Rattle.cert_check.specs.Visits.{Node, visits}
use Rattle.cert_check.specs.inside.Walks.{Fixing, walk, other_child, pending, places}

pub pending-push : (before fixings : List Fixing) (last : Fixing)
    → pending before (fixings ++ last ∷ []) ≡ other_child (before ++ fixings) last ++ pending before fixings
pending-push before [] last = grind (arith, append-nil)
pending-push before (fixing ∷ fixings) last = grind (arith, append_assoc, (pending-push (before ++ fixing ∷ []) fixings last))

-- a walk that begins with a tree's nodes visits the tree, and goes on with the other places
pub walk-preorder : (place : Node) (tree : Tree Leaf) (places : List Node) (nodes : List TreeNode)
    → walk (place ∷ places) (preorder tree ++ nodes) ≡ visits place tree ++ walk places nodes
walk-preorder place (Ends leaf) places nodes = refl
walk-preorder place (Splits g t off on) places nodes =
    let off_place = child place g t false in
    let on_place = child place g t true in
    ap (λ more. record { place = place; node = SplitNode g t } ∷ more)
    (ap (λ rest. walk (off_place ∷ on_place ∷ places) rest) (append_assoc (preorder off) (preorder on) nodes)
    ∙ walk-preorder off_place off (on_place ∷ places) (preorder on ++ nodes)
    ∙ ap (λ rest. visits off_place off ++ rest) (walk-preorder on_place on places nodes)
    ∙ sym (append_assoc (visits off_place off) (visits on_place on) (walk places nodes)))

-- ---- a path's next place
abbrev off_to_on : Fixing → Fixing
off_to_on last = record { g = last.g; t = last.t; on = true }

other-off : (before : List Fixing) (last : Fixing) → last.on ≡ false → other_child before last ≡ record { fixings = before ++ off_to_on last ∷ [] } ∷ []
other-off before last off = ap (λ b. if b then [] else record { fixings = before ++ off_to_on last ∷ [] } ∷ []) off

other-on : (before : List Fixing) (last : Fixing) → last.on ≡ true → other_child before last ≡ []
other-on before last on = ap (λ b. if b then [] else record { fixings = before ++ off_to_on last ∷ [] } ∷ []) on

-- the last decision, for the on-child, is left
pub left-behind : (front whole : List Fixing) (last : Fixing) → whole ≡ front ++ last ∷ [] → last.on ≡ true → pending [] whole ≡ pending [] front
left-behind front whole last e on = grind (arith, pending-push, other-on, e)

-- and one for the off-child gives way to the on-child
pub turned : (front whole next : List Fixing) (last : Fixing) → whole ≡ front ++ last ∷ [] → last.on ≡ false
    → next ≡ front ++ (record { g = last.g; t = last.t; on = true }) ∷ [] → pending [] whole ≡ places next
turned front whole next last e off n = grind (arith, pending-push, other-off, left-behind, e, off, n)

-- below a split comes the off-child, and then the on-child
pub below : (path next : List Fixing) (g t : ℕ) → next ≡ path ++ (record { g = g; t = t; on = false }) ∷ []
    → (nodes : List TreeNode) → walk (places path) (SplitNode g t ∷ nodes)
    ≡ (record { place = record { fixings = path }; node = SplitNode g t }) ∷ walk (places next) nodes
below path next g t n nodes = grind (arith, pending-push, other-off, n)
