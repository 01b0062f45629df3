-- What the fields of a state keep after a step.
use Rattle.std.proofs.Common.{◌≡◌, ℕ, Bool, ◌+◌, List, [], ◌∷◌, length, refl, ap, sym, ◌∙◌, subst, Option, Some, None, ℤ, length-set}
use Rattle.branch_tree.specs.Prelude.{node_count, TreeView}
use Rattle.dual_model.specs.declared.table.Table.{Table}
use Rattle.search_machine.specs.declared.holder.Holder.{Holder}
use Rattle.branch_tree.specs.declared.found.Outcome.{Outcome}
use Rattle.search_machine.specs.declared.event.Move.{Move}
use Rattle.search_machine.specs.declared.event.Event.TheVariants.{Claim, Commit, Look, Pop, Publish, Push, Steal}
use Rattle.search_machine.specs.declared.event.Event.{Event}
use Rattle.search_machine.specs.Prelude.{Machine, holder_of, desk_in, IsHolding, kept, tree_after, tickets_of, IsFreeFor, children_by, IsLegal, HasSeen, committed_by, after, with_tickets, IsCommittable, IsOrderly}
use Rattle.search_machine.specs.declared.stored.Stored.{Stored}
use Rattle.search_core.specs.Fields.{Inside, view_of, IsKept}
use Rattle.search_machine.proofs.Claims.{holdable, one_held}
use Rattle.search_machine.proofs.Growth.{tree_grows}
use Rattle.search_machine.proofs.OrderlySteps.{free_for, same_count, orderly_after, sound_of}

-- ---- No event makes more or fewer desks.
pub desks_stay : (m : Machine) (event : Event) → length (after m event).desks ≡ length m.desks
desks_stay m (Claim worker node) = refl
desks_stay m (Commit worker unit table exact outcome action) = by_holder (holder_of m unit)
  where
    by_holder : (holder : Option Holder) → length (committed_by m worker unit table exact outcome action holder).desks ≡ length m.desks
    by_holder None = refl
    by_holder (Some holder) =
        length-set m.desks worker (with_tickets (desk_in m.desks worker) (tickets_of m.tree action))
desks_stay m (Publish worker cost) = length-set m.desks worker _
desks_stay m (Look worker) = length-set m.desks worker _
desks_stay m (Push worker node) = length-set m.desks worker _
desks_stay m (Pop worker) = length-set _ worker _ ∙ length-set m.desks worker _
desks_stay m (Steal worker victim) = length-set _ victim _ ∙ length-set m.desks worker _

-- ---- The fields after a step keep what they must.
pub kept_by : (a b : Inside) (m : Machine) (event : Event) → view_of a ≡ m → IsKept a → IsLegal m event
    → view_of b ≡ after (view_of a) event → b.count ≡ node_count b.tree.nodes → IsKept b
kept_by a b m event seen kept legal view count = record {
  orderly = subst IsOrderly (sym view)
      (orderly_after HasSeen (view_of a) event kept.orderly (subst (λ (x : Machine). IsLegal x event) (sym seen) legal));
  count = count;
}

-- ---- How many nodes there are after a commit.
-- of the node that is held a split is free
free_of_commit : (looked : ℤ → Type 0) (m : Machine) (worker unit node : ℕ) (table : Table) (exact : Bool) (outcome : Outcome) (action : Move)
    → IsHolding m worker unit node → IsCommittable looked m worker unit table exact outcome action → IsFreeFor m.tree node action
free_of_commit looked m worker unit node table exact outcome action holding legal =
    subst (λ n. IsFreeFor m.tree n action) (one_held m worker worker unit legal.node node legal.holds holding)
    (free_for looked m legal.node table exact outcome action legal.legal)

pub commit_count : (looked : ℤ → Type 0) (m : Machine) (worker unit node : ℕ) (table : Table) (exact : Bool) (outcome : Outcome) (action : Move)
    (stored : Stored) (number a b : ℕ) (new : TreeView) (children : List ℕ) → IsOrderly m → IsHolding m worker unit node
    → IsCommittable looked m worker unit table exact outcome action
    → new ≡ tree_after m.tree node stored number exact outcome action → children ≡ children_by (a ∷ b ∷ []) action
    → node_count new.nodes ≡ node_count m.tree.nodes + length children
commit_count looked m worker unit node table exact outcome action stored number a b new children orderly holding legal is added =
    let held = holdable m worker unit node orderly holding in
    let grows = tree_grows m.tree node stored number exact outcome action (sound_of m orderly) held.live
    (free_of_commit looked m worker unit node table exact outcome action holding legal) in
    ap (λ (t : TreeView). node_count t.nodes) is
    ∙ (grows.count ∙ ap (λ n. node_count m.tree.nodes + n) (same_count _ _ a b action ∙ ap length (sym added)))
