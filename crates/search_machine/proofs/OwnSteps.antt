-- What each node stores by its own entries, after an entry more and the move of its claim.
use Rattle.std.proofs.Common.{◌≡◌, ◌≢◌, ℕ, ◌<◌, true, false, cond, List, length, ap, sym, ◌∙◌, subst, arith, ⊎_elim, Some, eq-eqb, [], ◌∷◌, ◌++◌, All, refl, ℤ, pos, fold, int_lt, ◌&&◌, suc, ◌≤◌, set, Option, None, append-nil, ◌==◌, slice_get, AllPairs, Bool}
use Rattle.std.proofs.lemmas.Bool.{cases_Bool, cases_eq, cases_lt, ne_eqb}
use Rattle.std.proofs.lemmas.List.{get_or_append_left, get_or_push, length-append}
use Rattle.std.proofs.lemmas.List.Elements.{All-head, All-tail, All-nil, All-cons, filter-append, All-filter}
use Rattle.std.proofs.lemmas.List.Sums.{fold-append}
use Rattle.std.proofs.lemmas.Option.{get_or_from_slice_get}
use Rattle.dual_model.specs.Prelude.{child, root}
use Rattle.branch_tree.specs.Prelude.{NumberedTree, EndAt, SplitAt, Subtree, spot_of, times, subtree_below, replaced, node_count, split_leaf, no_table, table_at, TreeView, IsOpenAt}
use Rattle.branch_tree.specs.declared.tree.Spot.TheVariants as spot
use Rattle.branch_tree.specs.declared.found.Outcome.TheVariants as outcome
use Rattle.branch_tree.specs.declared.tree.Leaf.TheVariants as leaf
use Rattle.branch_tree.proofs.Subtrees.{one_if, replaced_nowhere, same_or_not, AreApart, IsOff, IsOn, apart_off, apart_on, leaf_sides, not_root, part_counted}
use Rattle.branch_tree.proofs.Changes.{get-append, get-set_other, get-set_same, are_apart}
use Rattle.branch_tree.proofs.Grown.{closed_count, open_numbered}
use Rattle.search_machine.specs.Prelude.{Entry, Table, entries_of, Holder, holder_in, Machine, stored_at, spot_stored, Node, HasFreeCellAt, StartsAt, HoldsStored, OwnsBelow, stored_after, stored_by, Owns, Outcome, bound_of, kept_after, Again, Empty, Prune, Ray, Split, Move, HasFreeCell, kept, closed, split, live_leaf, tree_after, IsOrderly, IsStoredTable}
use Rattle.search_machine.specs.declared.stored.Stored.{Stored}
use Rattle.branch_tree.specs.declared.tree.Leaf.{Leaf}
use Rattle.search_machine.proofs.Claims.{holder_place}
use Rattle.search_machine.proofs.Growth.{IsSound, closed_grows, open_again, IsLeafPart, leaf_part, of_ray, of_empty}
use Rattle.search_machine.proofs.OrderlySteps.{sound_of, entries_more}

-- ---- other lists of tables and entries
-- but for one node, the entries are those of before, and leave the same
pub record AreAlike (tables more : List Table) (log later : List Entry) (wanted : ℕ) : Type 0 where
  pub entries : (number : ℕ) → number ≢ wanted → entries_of later number ≡ entries_of log number
  pub starts : (number : ℕ) (stored : Stored) → stored.table < length tables → StartsAt tables stored (entries_of log number)
      → StartsAt more stored (entries_of log number)
  pub stores : (number : ℕ) (stored : Stored) → stored_after more stored (entries_of log number) ≡ stored_after tables stored (entries_of log number)
  pub within : (number : ℕ) (stored : Stored) → stored.table < length tables → (stored_after tables stored (entries_of log number)).table < length tables

-- what a node is by itself
start_same : (units periods : ℕ) (tables more : List Table) (log later : List Entry) (wanted : ℕ) (here : Node) (inherited : Stored) (number : ℕ)
    → AreAlike tables more log later wanted → number ≢ wanted → inherited.table < length tables
    → (number ≢ 0 → HasFreeCellAt units periods here → StartsAt tables inherited (entries_of log number))
    → number ≢ 0 → HasFreeCellAt units periods here → StartsAt more inherited (entries_of later number)
start_same units periods tables more log later wanted here inherited number like differ there starts nonzero free =
    subst (StartsAt more inherited) (sym (like.entries number differ)) (like.starts number inherited there (starts nonzero free))

stores_same : (tables more : List Table) (log later : List Entry) (wanted : ℕ) (inherited : Stored) (number : ℕ)
    → AreAlike tables more log later wanted → number ≢ wanted
    → stored_after more inherited (entries_of later number) ≡ stored_after tables inherited (entries_of log number)
stores_same tables more log later wanted inherited number like differ = grind (arith, like, differ)

-- a tree without that node
own_same : (units periods : ℕ) (tables more : List Table) (log later : List Entry) (wanted : ℕ) (here : Node) (inherited : Stored) (tree : NumberedTree)
    → AreAlike tables more log later wanted → times wanted tree ≡ 0 → inherited.table < length tables
    → OwnsBelow units periods tables log here inherited tree → OwnsBelow units periods more later here inherited tree
own_same units periods tables more log later wanted here inherited (EndAt number l) like none there own =
    let differ : number ≢ wanted = λ e. omega (arith, none, ap one_if (eq-eqb number wanted e)) in (
      start_same units periods tables more log later wanted here inherited number like differ there own.0,
      subst (λ s. HoldsStored s l) (sym (stores_same tables more log later wanted inherited number like differ)) own.1,
    )
own_same units periods tables more log later wanted here inherited (SplitAt number g t off on) like none there own =
    let differ : number ≢ wanted = λ e. omega (arith, none, ap one_if (eq-eqb number wanted e)) in
    let stored = stored_after tables inherited (entries_of log number) in
    let same = sym (stores_same tables more log later wanted inherited number like differ) in
    let within = like.within number inherited there in (
      start_same units periods tables more log later wanted here inherited number like differ there own.0,
      subst (λ s. OwnsBelow units periods more later (child here g t false) s off) same
          (own_same units periods tables more log later wanted (child here g t false) stored off like (omega (arith, none)) within own.1),
      subst (λ s. OwnsBelow units periods more later (child here g t true) s on) same
          (own_same units periods tables more log later wanted (child here g t true) stored on like (omega (arith, none)) within own.2),
    )

-- ---- a tree with that node, a leaf, whose place something else takes
pub own_replaced : (units periods : ℕ) (tables more : List Table) (log later : List Entry) (wanted : ℕ) (grow : Leaf → NumberedTree)
    (part : Subtree) (old : Leaf) → AreAlike tables more log later wanted → spot_of part.tree ≡ spot.Leaf old
    → ((stored : Stored) → stored.table < length tables → OwnsBelow units periods tables log part.node stored (EndAt wanted old)
    → OwnsBelow units periods more later part.node stored (grow old))
    → (here : Node) (inherited : Stored) (tree : NumberedTree) → AreApart tree → subtree_below here tree wanted ≡ Some part
    → inherited.table < length tables → OwnsBelow units periods tables log here inherited tree
    → OwnsBelow units periods more later here inherited (replaced wanted grow tree)
own_replaced units periods tables more log later wanted grow part old like is grown here inherited (EndAt number l) apart e there own =
    grind (arith, like, is, grown, number, l, apart, e, there, own)
own_replaced units periods tables more log later wanted grow part old like is grown here inherited (SplitAt number g t off on) apart e there own =
    let left = child here g t false in
    let right = child here g t true in
    let stored = stored_after tables inherited (entries_of log number) in
    let within = like.within number inherited there in
    ⊎_elim
    (λ (l : IsOff here g t off on wanted part).
    let some = part_counted left off wanted part l.0 in
    let differ = not_root number g t off on wanted apart (omega arith) in
    let same = sym (stores_same tables more log later wanted inherited number like differ) in (
      start_same units periods tables more log later wanted here inherited number like differ there own.0,
      subst (λ s. OwnsBelow units periods more later left s (replaced wanted grow off)) same
          (own_replaced units periods tables more log later wanted grow part old like is grown left stored off
          (apart_off number g t off on apart) l.0 within own.1),
      subst (λ tree. OwnsBelow units periods more later right (stored_after more inherited (entries_of later number)) tree)
          (sym (replaced_nowhere wanted grow on l.1))
          (subst (λ s. OwnsBelow units periods more later right s on) same
          (own_same units periods tables more log later wanted right stored on like l.1 within own.2)),
    ))
    (λ (r : IsOn here g t off on wanted part).
    let some = part_counted right on wanted part r.0 in
    let differ = not_root number g t off on wanted apart (omega arith) in
    let same = sym (stores_same tables more log later wanted inherited number like differ) in (
      start_same units periods tables more log later wanted here inherited number like differ there own.0,
      subst (λ tree. OwnsBelow units periods more later left (stored_after more inherited (entries_of later number)) tree)
          (sym (replaced_nowhere wanted grow off r.1))
          (subst (λ s. OwnsBelow units periods more later left s off) same
          (own_same units periods tables more log later wanted left stored off like r.1 within own.1)),
      subst (λ s. OwnsBelow units periods more later right s (replaced wanted grow on)) same
          (own_replaced units periods tables more log later wanted grow part old like is grown right stored on
          (apart_on number g t off on apart) r.0 within own.2),
    ))
    (leaf_sides here number g t off on wanted part old apart e is)

-- ---- What entries leave of what is stored, when the tables are those of before and some more, and after one entry more.
-- the entry's table is one of the first n
abbrev pub IsTableWithin : ℕ → Entry → Type 0
IsTableWithin n entry = entry.table < n

-- more tables change nothing of entries at those of before
pub more_tables : (tables more : List Table) (stored : Stored) (log : List Entry) → All (IsTableWithin (length tables)) log
    → stored_after (tables ++ more) stored log ≡ stored_after tables stored log
more_tables tables more stored [] within = refl
more_tables tables more stored (entry ∷ log) within =
    let same : table_at (tables ++ more) entry.table ≡ table_at tables entry.table =
    get_or_append_left tables more no_table entry.table (All-head (IsTableWithin (length tables)) entry log within) in
    ap (λ (table : Table). fold (stored_by (tables ++ more)) (kept_after stored entry.table table.k entry.exact entry.outcome) log) same
    ∙ more_tables tables more (stored_by tables stored entry) log (All-tail (IsTableWithin (length tables)) entry log within)

-- one entry more
pub one_more : (tables : List Table) (stored : Stored) (log : List Entry) (entry : Entry)
    → stored_after tables stored (log ++ entry ∷ []) ≡ stored_by tables (stored_after tables stored log) entry
one_more tables stored log entry = fold-append (stored_by tables) stored log (entry ∷ [])

-- nor of where the first entry is
pub more_start : (tables more : List Table) (stored : Stored) (log : List Entry) → stored.table < length tables
    → All (IsTableWithin (length tables)) log → StartsAt tables stored log → StartsAt (tables ++ more) stored log
more_start tables more stored [] there within starts = tt
more_start tables more stored (entry ∷ log) there within starts =
    get_or_append_left tables more no_table entry.table (All-head (IsTableWithin (length tables)) entry log within)
    ∙ (starts ∙ sym (get_or_append_left tables more no_table stored.table there))

-- what is stored then is at one of the tables
pub kept_within : (count : ℕ) (old : Stored) (number : ℕ) (k : ℤ) (exact : Bool) (result : Outcome) → old.table < count → number < count
    → (kept_after old number k exact result).table < count
kept_within count old number k exact (outcome.Value v) there within = ⊎_elim
    (λ (e : (int_lt (pos 0) k && int_lt old.value (bound_of v k)) ≡ true).
    subst (λ b. (cond b (record { table = number; value = bound_of v k; exact = exact }) old).table < count) (sym e) within)
    (λ (e : (int_lt (pos 0) k && int_lt old.value (bound_of v k)) ≡ false).
    subst (λ b. (cond b (record { table = number; value = bound_of v k; exact = exact }) old).table < count) (sym e) there)
    (cases_Bool (int_lt (pos 0) k && int_lt old.value (bound_of v k)))
kept_within count old number k exact (outcome.Empty g) there within = there

pub stored_within : (tables : List Table) (count : ℕ) (stored : Stored) (log : List Entry) → stored.table < count → All (IsTableWithin count) log
    → (stored_after tables stored log).table < count
stored_within tables count stored [] there within = there
stored_within tables count stored (entry ∷ log) there within =
    stored_within tables count (stored_by tables stored entry) log
    (kept_within count stored entry.table (table_at tables entry.table).k entry.exact entry.outcome there (All-head (IsTableWithin count) entry log within))
    (All-tail (IsTableWithin count) entry log within)

-- ---- The entries of a log with one more: those of each node, the pairs, and the claims that ended.
-- ---- those of a node
parts : (log : List Entry) (entry : Entry) (node : ℕ)
    → entries_of (log ++ entry ∷ []) node ≡ entries_of log node ++ cond (entry.node == node) (entry ∷ []) []
parts log entry node = filter-append (λ (e : Entry). e.node == node) log (entry ∷ [])

pub entries_own : (log : List Entry) (entry : Entry) (node : ℕ) → entry.node ≡ node
    → entries_of (log ++ entry ∷ []) node ≡ entries_of log node ++ entry ∷ []
entries_own log entry node is = grind (arith, parts, eq-eqb, is)

pub entries_same : (log : List Entry) (entry : Entry) (node : ℕ) → node ≢ entry.node
    → entries_of (log ++ entry ∷ []) node ≡ entries_of log node
entries_same log entry node differ = grind (arith, parts, ne_eqb, append-nil, differ)

-- a node that no entry is of has none
pub no_entries : (log : List Entry) (count node : ℕ) → All (λ entry. entry.node < count) log → count ≤ node → entries_of log node ≡ []
no_entries [] count node each past = refl
no_entries (entry ∷ log) count node each past =
    let own = each 0 entry (omega arith) in
    ap (λ b. cond b (entry ∷ entries_of log node) (entries_of log node)) (ne_eqb entry.node node (λ e. omega arith))
    ∙ no_entries log count node (λ k d within. each (suc k) d (omega arith)) past

-- what holds of the entries of a node holds of each entry of the log that is of it
pub all_of_node : (P : Entry → Type 0) (log : List Entry) (node : ℕ) → All P (entries_of log node) → All (λ (e : Entry). e.node ≡ node → P e) log
all_of_node P [] node each = All-nil (λ (e : Entry). e.node ≡ node → P e)
all_of_node P (entry ∷ log) node each = ⊎_elim
    (λ (h : (entry.node ≡ node) × ((entry.node == node) ≡ true)).
    let own : All P (entry ∷ entries_of log node) =
    subst (λ b. All P (cond b (entry ∷ entries_of log node) (entries_of log node))) h.1 each in
    All-cons (λ (e : Entry). e.node ≡ node → P e) entry log (λ e. All-head P entry (entries_of log node) own)
    (all_of_node P log node (All-tail P entry (entries_of log node) own)))
    (λ (h : ((entry.node ≡ node) → ⊥) × ((entry.node == node) ≡ false)).
    let own : All P (entries_of log node) =
    subst (λ b. All P (cond b (entry ∷ entries_of log node) (entries_of log node))) h.1 each in
    All-cons (λ (e : Entry). e.node ≡ node → P e) entry log (λ e. absurd (h.0 e)) (all_of_node P log node own))
    (same_or_not entry.node node)

-- and the other way round
pub each_of_node : (P : Entry → Type 0) (log : List Entry) (node : ℕ) → All (λ (e : Entry). e.node ≡ node → P e) log → All P (entries_of log node)
each_of_node P [] node each = All-nil P
each_of_node P (entry ∷ log) node each = ⊎_elim
    (λ (h : (entry.node ≡ node) × ((entry.node == node) ≡ true)).
    subst (λ b. All P (cond b (entry ∷ entries_of log node) (entries_of log node))) (sym h.1)
    (All-cons P entry (entries_of log node) (All-head (λ (e : Entry). e.node ≡ node → P e) entry log each h.0) (each_of_node P log node rest)))
    (λ (h : ((entry.node ≡ node) → ⊥) × ((entry.node == node) ≡ false)).
    subst (λ b. All P (cond b (entry ∷ entries_of log node) (entries_of log node))) (sym h.1) (each_of_node P log node rest))
    (same_or_not entry.node node)
  where
    rest : All (λ (e : Entry). e.node ≡ node → P e) log
    rest = All-tail (λ (e : Entry). e.node ≡ node → P e) entry log each

-- ---- pairs
-- what holds of two items holds of each pair of a list with one more
pub pairs_push : {A : Type 0} (R : A → A → Type 0) (xs : List A) (y : A) → AllPairs R xs → All (λ x. R x y) xs → AllPairs R (xs ++ y ∷ [])
pairs_push R xs y pairs own i j d before within =
    grind (arith, length-append, get_or_append_left, get_or_push, cases_lt, pairs, own, i, j, d, before, within)

-- ---- claims that ended
-- the claim of this unit ended
pub record IsEnded (claims : List (Option Holder)) (unit : ℕ) : Type 0 where
  pub claim : ℕ
  pub unit_is : unit ≡ suc claim
  pub ended : slice_get claims claim ≡ Some None

pub ended_more : (claims : List (Option Holder)) (next : Option Holder) (unit : ℕ) → IsEnded claims unit → IsEnded (claims ++ next ∷ []) unit
ended_more claims next unit is = grind (arith, get-append, is)

pub ended_still : (claims : List (Option Holder)) (place unit : ℕ) → IsEnded claims unit → IsEnded (set claims place None) unit
ended_still claims place unit is = grind (arith, get-set_same, get-set_other, cases_eq, is)

-- and so it isn't one that is held
pub ended_apart : (claims : List (Option Holder)) (unit held : ℕ) (holder : Holder) → IsEnded claims unit → holder_in claims held ≡ Some holder
    → unit ≢ held
ended_apart claims unit held holder is holds e = grind (arith, holder_place, is, holds, e)

-- ---- What each node stores is what its entries leave again, after the commit of one more.
-- the entry of a commit
abbrev pub entry_by : Machine → ℕ → ℕ → ℕ → Bool → Outcome → Entry
entry_by m worker unit node exact result =
    record { unit = unit; worker = worker; node = node; table = length m.tables; exact = exact; outcome = result }

within_of_node : (count : ℕ) (log : List Entry) (number : ℕ) → All (IsTableWithin count) log → All (IsTableWithin count) (entries_of log number)
within_of_node count log number each = All-filter (λ (e : Entry). e.node == number) (IsTableWithin count) log each

-- ---- a table and an entry more
alike_more : (tables : List Table) (table : Table) (log : List Entry) (entry : Entry) → All (IsTableWithin (length tables)) log
    → AreAlike tables (tables ++ table ∷ []) log (log ++ entry ∷ []) entry.node
alike_more tables table log entry within = grind (arith, entries_same, more_start, within_of_node, more_tables, stored_within, within)

-- at the number of the commit the first entry is at the table that was stored, and what is stored is what the move Again leaves
is_record : (stored : Stored) (table : ℕ) (value : ℤ) (exact : Bool) → table ≡ stored.table → value ≡ stored.value → exact ≡ stored.exact
    → stored ≡ record { table = table; value = value; exact = exact }
is_record stored table value exact first second third = λ i. record { table = sym first i; value = sym second i; exact = sym third i }

started : (tables : List Table) (table : Table) (stored : Stored) (entry : Entry) (entries : List Entry) → entry.table ≡ length tables
    → stored.table < length tables → All (IsTableWithin (length tables)) entries → StartsAt tables stored entries
    → (entries ≡ [] → slice_get tables stored.table ≡ Some table) → StartsAt (tables ++ table ∷ []) stored (entries ++ entry ∷ [])
started tables table stored entry [] number there within starts first =
    grind (arith, get_or_push, get_or_from_slice_get, get_or_append_left, number, there, within, starts, first)
started tables table stored entry (e ∷ entries) number there within starts first =
    more_start tables (table ∷ []) stored (e ∷ entries) there within starts

-- a free cell of the node that has the number
free_of_part : (tree : TreeView) (number : ℕ) (l : Leaf) (part : IsLeafPart tree number l)
    → HasFreeCellAt tree.units tree.periods part.part.node → HasFreeCell tree number
free_of_part tree number l part free = grind (arith, free)

-- ---- another leaf
own_closed : (m : Machine) (worker unit node : ℕ) (table : Table) (exact : Bool) (result : Outcome) (first : Stored) (new : Leaf) → IsOrderly m
    → IsOpenAt m.tree.nodes node → All (IsTableWithin (length m.tables)) m.log → first.table < length m.tables
    → (entries_of m.log node ≡ [] → node ≢ 0 → HasFreeCell m.tree node → IsStoredTable m node table)
    → HoldsStored (kept m node table exact result) new → Owns m.tree m.tables m.log first
    → Owns (closed m.tree node new) (m.tables ++ table ∷ []) (m.log ++ entry_by m worker unit node exact result ∷ []) first
own_closed m worker unit node table exact result first new orderly at within there at_first holds own =
    own_replaced m.tree.units m.tree.periods m.tables more m.log later node (λ (l : Leaf). EndAt node new) part.part old
    (alike_more m.tables table m.log entry within) part.is grown root first m.tree.nodes
    (are_apart m.tree.nodes orderly.placed.places orderly.placed.are) part.hangs there own
  where
    entry : Entry
    entry = entry_by m worker unit node exact result

    more : List Table
    more = m.tables ++ table ∷ []

    later : List Entry
    later = m.log ++ entry ∷ []

    old : Leaf
    old = leaf.Live at.table at.value at.exact

    part : IsLeafPart m.tree node (leaf.Live at.table at.value at.exact)
    part = leaf_part m.tree node at

    entries : List Entry
    entries = entries_of m.log node

    own_within : All (IsTableWithin (length m.tables)) entries
    own_within = within_of_node (length m.tables) m.log node within

    longer : entries_of later node ≡ entries ++ entry ∷ []
    longer = entries_own m.log entry node refl

    -- what was stored at the number is what the entries left
    stored_is : (stored : Stored) → HoldsStored (stored_after m.tables stored entries) old → stored_after m.tables stored entries ≡ stored_at m.tree node
    stored_is stored h =
        is_record (stored_after m.tables stored entries) at.table at.value at.exact h.0 h.1 h.2 ∙ sym (ap spot_stored at.live)

    grown : (stored : Stored) → stored.table < length m.tables
        → OwnsBelow m.tree.units m.tree.periods m.tables m.log part.part.node stored (EndAt node old)
        → OwnsBelow m.tree.units m.tree.periods more later part.part.node stored (EndAt node new)
    grown stored below was =
        let same = stored_is stored was.1 in
        let last : stored_after more stored (entries_of later node) ≡ kept m node table exact result =
        ap (stored_after more stored) longer
        ∙ (one_more more stored entries entry
        ∙ (ap (λ s. stored_by more s entry) (more_tables m.tables (table ∷ []) stored entries own_within ∙ same)
        ∙ ap (λ (t : Table). kept_after (stored_at m.tree node) (length m.tables) t.k exact result)
        (get_or_push m.tables table no_table (length m.tables) refl))) in (
          λ nonzero free. subst (StartsAt more stored) (sym longer)
              (started m.tables table stored entry entries refl below own_within (was.0 nonzero free)
              (λ none.
              let here : stored ≡ stored_at m.tree node = sym (ap (stored_after m.tables stored) none) ∙ same in
              subst (λ (s : Stored). slice_get m.tables s.table ≡ Some table) (sym here)
              (at_first none nonzero (free_of_part m.tree node old part free)))),
          subst (λ s. HoldsStored s new) (sym last) holds,
        )

-- ---- a split, whose children have no entries
alike_itself : (tables : List Table) (log : List Entry) (wanted : ℕ) → All (IsTableWithin (length tables)) log
    → AreAlike tables tables log log wanted
alike_itself tables log wanted within = grind (arith, stored_within, within_of_node, within)

own_split : (tree : TreeView) (tables : List Table) (log : List Entry) (node g t : ℕ) (first : Stored) → IsSound tree → IsOpenAt tree.nodes node
    → All (λ entry. entry.node < node_count tree.nodes) log → All (IsTableWithin (length tables)) log → first.table < length tables
    → Owns tree tables log first → Owns (split tree node g t) tables log first
own_split tree tables log node g t first sound at nodes within there own =
    let part = leaf_part tree node at in
    let old = leaf.Live at.table at.value at.exact in
    let count = node_count tree.nodes in
    own_replaced tree.units tree.periods tables tables log log node (split_leaf node g t count (suc count)) part.part old
    (alike_itself tables log node within) part.is
    (λ stored below was.
    let left = stored_after tables stored (entries_of log node) in
    (was.0, child_of left count g t false part.part.node old (omega arith) was.1, child_of left (suc count) g t true part.part.node old (omega arith) was.1))
    root first tree.nodes (are_apart tree.nodes sound.placed.places sound.placed.are) part.hangs there own
  where
    child_of : (stored : Stored) (number a b : ℕ) (on : Bool) (here : Node) (l : Leaf) → node_count tree.nodes ≤ number → HoldsStored stored l
        → OwnsBelow tree.units tree.periods tables log (child here a b on) stored (EndAt number l)
    child_of stored number a b on here l past holds =
        let none = no_entries log (node_count tree.nodes) number nodes past in (
          λ nonzero free. subst (StartsAt tables stored) (sym none) tt,
          subst (λ es. HoldsStored (stored_after tables stored es) l) (sym none) holds,
        )

-- ---- the move of a commit
pub own_after : (m : Machine) (worker unit node : ℕ) (table : Table) (exact : Bool) (result : Outcome) (action : Move) (first : Stored) → IsOrderly m
    → IsOpenAt m.tree.nodes node → All (IsTableWithin (length m.tables)) m.log
    → All (IsTableWithin (length (m.tables ++ table ∷ []))) (m.log ++ entry_by m worker unit node exact result ∷ [])
    → first.table < length m.tables → first.table < length (m.tables ++ table ∷ [])
    → (entries_of m.log node ≡ [] → node ≢ 0 → HasFreeCell m.tree node → IsStoredTable m node table)
    → Owns m.tree m.tables m.log first
    → Owns (tree_after m.tree node (kept m node table exact result) (length m.tables) exact result action) (m.tables ++ table ∷ [])
    (m.log ++ entry_by m worker unit node exact result ∷ []) first
own_after m worker unit node table exact result Again first orderly at within later there still at_first own =
    grind (arith, own_closed, Again, orderly, at, within, later, there, still, at_first, own)
own_after m worker unit node table exact result (Split g t) first orderly at within later there still at_first own =
    let stored = kept m node table exact result in
    let l = live_leaf stored in
    let middle = closed m.tree node l in
    let grown = closed_grows m.tree node l (sound_of m orderly) at in
    let count = closed_count m.tree.nodes node l orderly.placed at in
    own_split middle (m.tables ++ table ∷ []) (m.log ++ entry_by m worker unit node exact result ∷ []) node g t first grown.sound
    (open_again m.tree node stored orderly.placed at)
    (entries_more m.log (entry_by m worker unit node exact result) (node_count m.tree.nodes) (node_count middle.nodes) orderly.entries
    (open_numbered m.tree.nodes node orderly.placed at) (omega (arith, count)))
    later still
    (own_closed m worker unit node table exact result first l orderly at within there at_first (refl, refl, refl) own)
own_after m worker unit node table exact result (Prune seen) first orderly at within later there still at_first own =
    grind (arith, own_closed, seen, orderly, at, within, later, there, still, at_first, own)
own_after m worker unit node table exact result Ray first orderly at within later there still at_first own =
    grind (arith, own_closed, of_ray, Ray, orderly, at, within, later, there, still, at_first, own)
own_after m worker unit node table exact result Empty first orderly at within later there still at_first own =
    grind (arith, own_closed, of_empty, Empty, orderly, at, within, later, there, still, at_first, own)
