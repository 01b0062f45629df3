-- Every legal and true event keeps what is true of the log, of the tables, and of what each node stores by its own entries.
use Rattle.std.proofs.Common.{◌≡◌, ◌≢◌, ℕ, Bool, suc, ◌-◌, ◌<◌, ◌≤◌, All, List, [], ◌∷◌, ◌++◌, length, set, refl, ap, sym, ◌∙◌, subst, arith, ⊎_elim, ℤ, Option, Some, None, slice_get, AllPairs, length-append}
use Rattle.std.proofs.lemmas.Bool.{cases_eq, cases_lt}
use Rattle.std.proofs.lemmas.List.Elements.{All-push}
use Rattle.std.proofs.lemmas.Option.{slice_get_within, slice_get-get_or}
use Rattle.branch_tree.specs.Prelude.{node_count, IsNodeAt, TreeView, IsOpenAt, IsTrueEntry, AreApart}
use Rattle.branch_tree.specs.declared.tree.Leaf.TheVariants as leaf
use Rattle.branch_tree.proofs.Changes.{get-append, get-set_same}
use Rattle.search_machine.specs.Prelude.{Entry, Table, Holder, Machine, IsHolding, entries_of, stored_at, Again, Outcome, Move, HasFreeCell, MayGoOn, IsMoveLegal, kept, tree_after, Claim, Commit, Publish, Event, IsFresh, IsStoredTable, IsLegalBy, committed, committed_by, after, Instance, IsOrderly, Node, Owns, HasFewEntries, IsTrueEvent, IsTrueStart}
use Rattle.search_machine.proofs.Claims.{get_push_last, holdable}
use Rattle.search_machine.proofs.Growth.{leaf_part, part_node, IsAgain, node_after, open_before, free_before, open_again_only}
use Rattle.search_machine.proofs.OwnSteps.{IsEnded, entries_own, entries_same, no_entries, all_of_node, pairs_push, ended_more, ended_still, ended_apart, entry_by, own_after, IsTableWithin}
use Rattle.search_machine.proofs.OrderlySteps.{free_for, sound_of}

-- what is true of these parts of a state that a run from this start reached
pub record IsLogged (instance : Instance) (start : Machine) (tree : TreeView) (tables : List Table) (claims : List (Option Holder)) (log : List Entry) : Type 0 where
  -- the entries are true and apart, and their claims ended
  pub entries : All (IsTrueEntry instance tree tables) log
  pub apart : AllPairs (AreApart tables) log
  pub ended : All (λ entry. IsEnded claims entry.unit) log
  -- the tables of the start are there, and each node stores what its entries leave
  pub first : slice_get tables 0 ≡ slice_get start.tables 0
  pub there : (stored_at start.tree 0).table < length tables
  pub own : Owns tree tables log (stored_at start.tree 0)
  -- no node with an undecided cell has more than a hundred entries, and no open leaf as many
  pub few : HasFewEntries tree log
  pub fewer : (number : ℕ) → IsOpenAt tree.nodes number → HasFreeCell tree number → length (entries_of log number) < 100

abbrev pub HasTrueLog : Instance → Machine → Machine → Type 0
HasTrueLog instance start m = IsLogged instance start m.tree m.tables m.claims m.log

-- ---- the start
pub start_logged : (instance : Instance) (m : Machine) → IsTrueStart instance m → HasTrueLog instance m m
start_logged instance m start = grind (arith, start)

-- ---- a claim
claimed : (instance : Instance) (start : Machine) (tree : TreeView) (tables : List Table) (claims : List (Option Holder)) (log : List Entry) (next : Option Holder)
    → IsLogged instance start tree tables claims log → IsLogged instance start tree tables (claims ++ next ∷ []) log
claimed instance start tree tables claims log next is = grind (arith, ended_more, is)

-- ---- the entries after a commit
entry_more : (instance : Instance) (old new : TreeView) (tables : List Table) (table : Table) (entry : Entry)
    → ((number : ℕ) (node : Node) → IsNodeAt old number node → IsNodeAt new number node) → IsTrueEntry instance old tables entry
    → IsTrueEntry instance new (tables ++ table ∷ []) entry
entry_more instance old new tables table entry stays is = grind (arith, get-append, stays, is)

tables_within : (instance : Instance) (tree : TreeView) (tables : List Table) (log : List Entry) → All (IsTrueEntry instance tree tables) log
    → All (IsTableWithin (length tables)) log
tables_within instance tree tables log each k d within = grind (arith, slice_get_within, each, k, d, within)

-- reading one of the tables after one more
table_more : (tables : List Table) (table : Table) (number : ℕ) → number < length tables
    → slice_get (tables ++ table ∷ []) number ≡ slice_get tables number
table_more tables table number within =
    let some = slice_get-get_or tables number table within in get-append tables (table ∷ []) number _ some ∙ sym some

apart_more : (tables : List Table) (table : Table) (one other : Entry) → one.table < length tables → other.table < length tables
    → AreApart tables one other → AreApart (tables ++ table ∷ []) one other
apart_more tables table one other first second is = grind (arith, table_more, first, second, is)

apart_new : (m : Machine) (worker unit node : ℕ) (table : Table) (exact : Bool) (result : Outcome) (entry : Entry)
    → IsEnded m.claims entry.unit → IsHolding m worker unit node → entry.table < length m.tables
    → (entry.node ≡ node → entry.exact ≡ exact → slice_get m.tables entry.table ≢ Some table)
    → AreApart (m.tables ++ table ∷ []) entry (entry_by m worker unit node exact result)
apart_new m worker unit node table exact result entry ended holds within fresh = record {
  unit = ended_apart m.claims entry.unit unit (record { worker = worker; node = node }) ended holds;
  pair = λ same kind e. fresh same kind (sym (table_more m.tables table entry.table within) ∙ (e ∙ get_push_last m.tables table));
}

-- ---- how many entries a node has after a commit
may_go_on : (looked : ℤ → Type 0) (m : Machine) (node : ℕ) (table : Table) (exact : Bool) (result : Outcome) (action : Move)
    → IsMoveLegal looked m node table exact result action → IsAgain action → MayGoOn m node
may_go_on looked m node table exact result Again legal is = legal.1
may_go_on looked m node table exact result _ legal is = absurd is

logged_committed : (looked : ℤ → Type 0) (instance : Instance) (start m : Machine) (worker unit node : ℕ) (table : Table) (exact : Bool)
    (result : Outcome) (action : Move) → IsOrderly m → IsHolding m worker unit node → IsFresh m (entries_of m.log node) table exact
    → (entries_of m.log node ≡ [] → node ≢ 0 → HasFreeCell m.tree node → IsStoredTable m node table)
    → IsMoveLegal looked m node table exact result action → IsTrueEvent instance m (Commit worker unit table exact result action)
    → HasTrueLog instance start m → HasTrueLog instance start (committed m worker unit node table exact result action)
logged_committed looked instance start m worker unit node table exact result action orderly holding fresh at_first legal told is =
    let held = holdable m worker unit node orderly holding in
    let at : IsOpenAt m.tree.nodes node = held.live in
    let part = leaf_part m.tree node at in
    let here = part.part.node in
    let here_is = part_node m.tree node (leaf.Live at.table at.value at.exact) part in
    let own = told node here holding here_is in
    let free = free_for looked m node table exact result action legal in
    let sound = sound_of m orderly in
    let stored = kept m node table exact result in
    let new = tree_after m.tree node stored (length m.tables) exact result action in
    let more = m.tables ++ table ∷ [] in
    let entry = entry_by m worker unit node exact result in
    let later = m.log ++ entry ∷ [] in
    let stays = node_after m.tree node stored (length m.tables) exact result action sound at free in
    let within = tables_within instance m.tree m.tables m.log is.entries in
    let longer = length-append m.tables (table ∷ []) in
    let entries : All (IsTrueEntry instance new more) later =
    All-push (IsTrueEntry instance new more) m.log entry
    (λ k d below. entry_more instance m.tree new m.tables table _ stays (is.entries k d below))
    (record {
      node = here;
      is_node = stays node here here_is;
      table = table;
      is_table = get_push_last m.tables table;
      lawful = own.lawful;
      outcome = own.told;
    }) in
    let before : (number : ℕ) → number < node_count m.tree.nodes → HasFreeCell new number → HasFreeCell m.tree number =
    λ number below. free_before m.tree node stored (length m.tables) exact result action sound at free number below in
    let grown : length (entries_of later node) ≡ suc (length (entries_of m.log node)) =
    ap length (entries_own m.log entry node refl) ∙ omega (arith, length-append (entries_of m.log node) (entry ∷ [])) in
    let none : (number : ℕ) → node_count m.tree.nodes ≤ number → length (entries_of m.log number) ≡ 0 =
    λ number past. ap length (no_entries m.log (node_count m.tree.nodes) number orderly.entries past) in
    record {
      entries = entries;
      apart = pairs_push (AreApart more) m.log entry
          (λ i j d less below. apart_more m.tables table _ _ (within i d (omega arith)) (within j d below) (is.apart i j d less below))
          (λ k d below.
          apart_new m worker unit node table exact result _ (is.ended k d below) holding (within k d below)
          (all_of_node (λ (e : Entry). e.exact ≡ exact → slice_get m.tables e.table ≢ Some table) m.log node fresh k d below));
      ended = All-push (λ (e : Entry). IsEnded (set m.claims (unit - 1) None) e.unit) m.log entry
          (λ k d below. ended_still m.claims (unit - 1) _ (is.ended k d below))
          (record {
            claim = held.claim;
            unit_is = held.unit_is;
            ended = grind (arith, get-set_same, m, held, worker, node);
          });
      first = table_more m.tables table 0 (omega (arith, is.there)) ∙ is.first;
      there = omega (arith, is.there, longer);
      own = own_after m worker unit node table exact result action (stored_at start.tree 0) orderly at within
          (tables_within instance new more later entries) is.there (omega (arith, is.there, longer)) at_first is.own;
      few = λ number cell. ⊎_elim
          (λ (e : number ≡ node).
          let count = is.fewer node at (before node held.below (subst (HasFreeCell new) e cell)) in
          subst (λ n. length (entries_of later n) ≤ 100) (sym e) (omega (arith, grown, count)))
          (λ (differ : number ≡ node → ⊥).
          subst (λ es. length es ≤ 100) (sym (entries_same m.log entry number differ))
          (⊎_elim
          (λ (l : number < node_count m.tree.nodes). is.few number (before number l cell))
          (λ (l : node_count m.tree.nodes ≤ number). omega (arith, none number l))
          (cases_lt number (node_count m.tree.nodes))))
          (cases_eq number node);
      fewer = λ number there cell. ⊎_elim
          (λ (e : number ≡ node).
          let again = open_again_only m.tree node stored (length m.tables) exact result action sound at (subst (IsOpenAt new.nodes) e there) in
          let was = before node held.below (subst (HasFreeCell new) e cell) in
          subst (λ n. length (entries_of later n) < 100) (sym e)
          (⊎_elim
          (λ (less : suc (length (entries_of m.log node)) < 100). omega (arith, grown, less))
          (λ (decided : HasFreeCell m.tree node → ⊥). absurd (decided was))
          (may_go_on looked m node table exact result action legal again)))
          (λ (differ : number ≡ node → ⊥).
          subst (λ es. length es < 100) (sym (entries_same m.log entry number differ))
          (⊎_elim
          (λ (l : number < node_count m.tree.nodes).
          is.fewer number (open_before m.tree node stored (length m.tables) exact result action sound at number differ l there) (before number l cell))
          (λ (l : node_count m.tree.nodes ≤ number). omega (arith, none number l))
          (cases_lt number (node_count m.tree.nodes))))
          (cases_eq number node);
    }

-- ---- every event
pub logged_after : (looked : Machine → ℕ → ℤ → Type 0) (instance : Instance) (start m : Machine) (event : Event) → IsOrderly m
    → IsLegalBy looked m event → IsTrueEvent instance m event → HasTrueLog instance start m → HasTrueLog instance start (after m event)
logged_after looked instance start m (Claim worker node) orderly legal told is =
    claimed instance start m.tree m.tables m.claims m.log (Some (record { worker = worker; node = node })) is
logged_after looked instance start m (Commit worker unit table exact result action) orderly legal told is =
    subst (λ h. HasTrueLog instance start (committed_by m worker unit table exact result action h)) (sym legal.1.holds)
    (logged_committed (looked m worker) instance start m worker unit legal.1.node table exact result action orderly legal.1.holds legal.1.fresh
    legal.1.first legal.1.legal told is)
logged_after looked instance start m (Publish worker cost) orderly legal told is = is
logged_after looked instance start m _ orderly legal told is = is
