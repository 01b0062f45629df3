-- What every state of the machine keeps, whatever the instance: who holds what, where the tickets are, and how much there is
-- of each. This project's own form.
use Rattle.std.specs.Prelude.{◌≡◌, ℕ, suc, ◌+◌, ◌*◌, ◌<◌, ◌≤◌, ◌==◌, nat_lt, All, List, Option, Some, is_some, sum_by, count_by, length, slice_get, if◌then◌else◌}
pub use Rattle.uc_model.specs.declared.instance.Instance.{Instance}
pub use Rattle.uc_model.specs.declared.tolerance.TheConstants.{WHOLE_GAP}
use Rattle.dual_model.specs.Prelude.{IsCover}
use Rattle.branch_tree.specs.Prelude.{NumberedTree, node_count, IsPlaced, TreeView, IsSizeOf, IsOpenAt, tree_of}
pub use Rattle.search_machine.specs.declared.limits.TheConstants.{MAX_BUDGET}
use Rattle.search_machine.specs.Machine.{Table, Holder, WorkerState, Machine, room_for}

-- how often the ticket of the node is in a hand or a queue
abbrev pub times_at : WorkerState → ℕ → ℕ
times_at desk node = count_by (λ ticket. ticket == node) desk.hand + count_by (λ ticket. ticket == node) desk.queue

abbrev pub times_in : List WorkerState → ℕ → ℕ
times_in desks node = sum_by (λ desk. times_at desk node) desks

-- each node's ticket is in exactly one hand or queue, and there are no others
abbrev pub IsEachTicketOnce : List WorkerState → ℕ → Type 0
IsEachTicketOnce desks count = (node : ℕ) → times_in desks node ≡ (if nat_lt node count then 1 else 0)

-- each node that is held is an open leaf, held by one claim
pub record AreHoldersApart (nodes : NumberedTree) (claims : List (Option Holder)) : Type 0 where
  pub live : (claim : ℕ) (holder : Holder) → slice_get claims claim ≡ Some (Some holder) → IsOpenAt nodes holder.node
  pub once : (one other : ℕ) (holder second : Holder) → slice_get claims one ≡ Some (Some holder)
      → slice_get claims other ≡ Some (Some second) → holder.node ≡ second.node → one ≡ other

-- how many claims are held
abbrev pub held_count : List (Option Holder) → ℕ
held_count claims = count_by is_some claims

-- claims are within the budget; each that was committed added at most a table and two nodes
pub record IsWithinBudget (taken : List (Option Holder)) (stored : List Table) (tree : TreeView) (most share : ℕ) : Type 0 where
  pub claims : length taken ≤ most
  pub tables : length stored + held_count taken ≤ suc (length taken)
  pub nodes : node_count tree.nodes + 2 * held_count taken ≤ suc (2 * length taken)
  pub room : tree.room ≡ room_for most
  pub budget : most ≤ MAX_BUDGET
  pub gap : share ≤ WHOLE_GAP

pub record IsOrderly (m : Machine) : Type 0 where
  -- the tree is a cover of each instance of its size
  pub placed : IsPlaced m.tree.nodes
  pub cover : (instance : Instance) → IsSizeOf m.tree instance → IsCover instance (tree_of m.tree)
  pub holders : AreHoldersApart m.tree.nodes m.claims
  -- each entry is of a node of the tree
  pub entries : All (λ entry. entry.node < node_count m.tree.nodes) m.log
  pub tickets : IsEachTicketOnce m.desks (node_count m.tree.nodes)
  pub amounts : IsWithinBudget m.claims m.tables m.tree m.budget m.gap
