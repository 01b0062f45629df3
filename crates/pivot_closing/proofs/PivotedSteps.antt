-- What the log tells of exact dispatches is kept by each commit that keeps to them.
-- Cite by `use Rattle.pivot_closing.proofs.PivotedSteps.{none_pivoted, entries_keep_pivoted}`.
use Rattle.std.proofs.Common.{◌≡◌, ℕ, ◌<◌, ◌≤◌, All, inl, inr, ⊎_elim, Bool, refl, sym, ap, subst, ◌∙◌, arith, List, [], ◌∷◌, ◌++◌, length, ℤ, Some, slice_get}
use Rattle.std.specs.Option.{option_map}
use Rattle.std.proofs.lemmas.Bool.{cases_eq, cases_lt}
use Rattle.std.proofs.lemmas.Option.{same_Some}
use Rattle.dual_model.specs.declared.node.Node.{Node}
use Rattle.dual_model.specs.declared.table.Table.{Table}
use Rattle.branch_tree.specs.Prelude.{node_count, IsNodeAt, TreeView, IsOpenAt, HasFreeCell}
use Rattle.branch_tree.specs.declared.found.Entry.{Entry}
use Rattle.branch_tree.specs.declared.found.Outcome.{Outcome}
use Rattle.branch_tree.specs.declared.found.Outcome.TheVariants.{Value, Empty}
use Rattle.branch_tree.proofs.Changes.{get-append, place_part}
use Rattle.search_machine.specs.Prelude.{entries_of, IsFreeFor, kept, tree_after}
use Rattle.search_machine.specs.declared.event.Move.{Move}
use Rattle.search_machine.specs.declared.stored.Stored.{Stored}
use Rattle.search_machine.specs.declared.event.Move.TheVariants.{Again, Split, Prune, Ray, Empty as EmptyMove}
use Rattle.search_machine.proofs.Claims.{get_push_last, holdable}
use Rattle.search_machine.proofs.Growth as growth
use Rattle.search_machine.proofs.Growth.{node_after, open_before, free_before, open_again_only, tree_grows}
use Rattle.search_machine.proofs.OrderlySteps.{sound_of}
use Rattle.search_machine.proofs.OwnSteps.{entries_own, entries_same, no_entries}
use Rattle.pivot_dispatch.specs.declared.pivot.DispatchAnswer.{DispatchAnswer}
use Rattle.pivot_dispatch.specs.declared.pivot.DispatchAnswer.TheVariants.{Best, Ray as RayAnswer, Wide}
use Rattle.pivot_closing.specs.Pivoted.{Instance, GoesOn, IsByAnswer, IsExactFirst, IsPivoted}
use Rattle.pivot_closing.specs.PivotedSteps.{IsAgain, IsPivotedCommit, StartsArePivoted, CommitsKeepPivoted}
use Rattle.decided_nodes.specs.Pivoting.{node_limit}

pub none_pivoted : (instance : Instance) (budget gap : ℕ) (tree : TreeView) (tables : List Table) (log : List Entry) → log ≡ []
    → IsPivoted instance budget gap tree tables log
none_pivoted instance budget gap tree tables log none = record {
  direct = λ enough number first later free e. absurd (never number first later e);
  exact = λ number node first later at decided e. absurd (never number first later e);
}
  where
    never : (number : ℕ) (first : Entry) (later : List Entry) → entries_of log number ≡ first ∷ later → ⊥
    never number first later e =
        let nothing : [] ≡ first ∷ later = sym (ap (λ (l : List Entry). entries_of l number) none) ∙ e in cc

pub starts_are_pivoted : StartsArePivoted
starts_are_pivoted instance budget m none = none_pivoted instance budget m.gap m.tree m.tables m.log none

-- ---- one evaluation
-- what is said of one is so at other names of its table, where the node goes on less often
by_answer-map : (instance : Instance) (gap : ℕ) (P Q : Table → Type 0) (G H : Type 0) (v : ℤ) (pivot : DispatchAnswer) → ((t : Table) → P t → Q t) → (H → G)
    → IsByAnswer instance gap P G v pivot → IsByAnswer instance gap Q H v pivot
by_answer-map instance gap P Q G H v (Best printed table) more less by = (more table by.0, λ on. by.1 (less on))
by_answer-map instance gap P Q G H v (RayAnswer table) more less by = (more table by.0, λ on. by.1 (less on))
by_answer-map instance gap P Q G H v (Wide what size other pivots) more less by = by

exact_first-map : (instance : Instance) (gap : ℕ) (P Q : Table → Type 0) (node : Node) (G H : Type 0) (outcome : Outcome) → ((t : Table) → P t → Q t)
    → (H → G) → IsExactFirst instance gap P node G outcome → IsExactFirst instance gap Q node H outcome
exact_first-map instance gap P Q node G H (Value v) more less is =
    (is.0, (is.1.0, (is.1.1.0, (is.1.1.1.0, by_answer-map instance gap P Q G H v is.1.1.0 more less is.1.1.1.1))))
exact_first-map instance gap P Q node G H (Empty g) more less is = λ on. is (less on)

again_is : (action : Move) → growth.IsAgain action → IsAgain action
again_is Again is = tt
again_is (Split g t) is = is
again_is (Prune seen) is = is
again_is Ray is = is
again_is EmptyMove is = is

-- ---- the entries of one node
-- what is told of a node whose entries are these
record IsToldOf (instance : Instance) (budget gap : ℕ) (tree : TreeView) (tables : List Table) (number : ℕ) (entries : List Entry) : Type 0 where
  direct : (first : Entry) (later : List Entry) → entries ≡ first ∷ later → node_limit instance ≤ budget → HasFreeCell tree number
      → ¬ GoesOn tree number later
  exact : (first : Entry) (later : List Entry) → entries ≡ first ∷ later → (node : Node) → IsNodeAt tree number node → ¬ HasFreeCell tree number
      → IsExactFirst instance gap (λ table. slice_get tables first.table ≡ Some table) node (GoesOn tree number later) first.outcome

told_of : (instance : Instance) (budget gap : ℕ) (tree : TreeView) (tables : List Table) (log : List Entry) → IsPivoted instance budget gap tree tables log
    → (number : ℕ) → IsToldOf instance budget gap tree tables number (entries_of log number)
told_of instance budget gap tree tables log is number = record {
  direct = λ first later e enough free. is.direct enough number first later free e;
  exact = λ first later e node at none. is.exact number node first later at none e;
}

module _ (instance : Instance) (budget gap : ℕ) (tree : TreeView) (tables : List Table) (log : List Entry) (worker unit node : ℕ) (stored : Stored) (table : Table)
    (exact : Bool) (outcome : Outcome) (action : Move) (sound : growth.IsSound tree) (at : IsOpenAt tree.nodes node) (below : node < node_count tree.nodes)
    (of_nodes : All (λ entry. entry.node < node_count tree.nodes) log) (free : IsFreeFor tree node action)
    (commit : IsPivotedCommit instance budget gap tree log node table outcome action) (is : IsPivoted instance budget gap tree tables log) where
  abbrev new : TreeView
  new = tree_after tree node stored (length tables) exact outcome action

  abbrev more : List Table
  more = tables ++ table ∷ []

  abbrev entry : Entry
  entry = record { unit = unit; worker = worker; node = node; table = length tables; exact = exact; outcome = outcome }

  -- nodes that were there have the cells that they had
  was_free : (number : ℕ) → number < node_count tree.nodes → HasFreeCell new number → HasFreeCell tree number
  was_free number within cell =
      free_before tree node stored (length tables) exact outcome action sound at free number within cell

  still_free : (number : ℕ) → HasFreeCell tree number → HasFreeCell new number
  still_free number cell =
      let grows = tree_grows tree node stored (length tables) exact outcome action sound at free in
      record {
        g = cell.g;
        t = cell.t;
        free = record {
          unit = subst (λ n. cell.g < n) (sym grows.units) cell.free.unit;
          period = subst (λ n. cell.t < n) (sym grows.periods) cell.free.period;
          node = cell.free.node;
          is_node = node_after tree node stored (length tables) exact outcome action sound at free number cell.free.node cell.free.is_node;
          undecided = cell.free.undecided;
        };
      }

  was_node : (number : ℕ) (here : Node) → number < node_count tree.nodes → IsNodeAt new number here → IsNodeAt tree number here
  was_node number here within is_node =
      let part = place_part sound.placed.places tree.nodes number sound.placed.are (omega (arith, sound.placed.are.count)) in
      let was : IsNodeAt tree number part.0.node = ap (λ o. option_map (λ p. p.node) o) part.1 in
      let stays = node_after tree node stored (length tables) exact outcome action sound at free number part.0.node was in
      subst (λ (n : Node). IsNodeAt tree number n) (same_Some part.0.node here (sym stays ∙ is_node)) was

  table_stays : (number : ℕ) (t : Table) → slice_get tables number ≡ Some t → slice_get more number ≡ Some t
  table_stays number t there = get-append tables (table ∷ []) number t there

  -- the node of the commit
  here_told : (entries : List Entry) → entries_of log node ≡ entries → IsToldOf instance budget gap tree tables node entries
      → IsToldOf instance budget gap new more node (entries ++ entry ∷ [])
  here_told [] none told = record {
    direct = λ first later e enough cell on.
        commit.direct enough (was_free node below cell) none (again first later e on);
    exact = λ first later e here is_node decided.
        subst (λ (own : Entry). IsExactFirst instance gap (λ t. slice_get more own.table ≡ Some t) here (GoesOn new node later) own.outcome) (first_is first later e)
        (exact_first-map instance gap (λ other. table ≡ other) (λ t. slice_get more (length tables) ≡ Some t) here (IsAgain action) (GoesOn new node later) outcome
        (λ t same. get_push_last tables table ∙ ap Some same) (again first later e)
        (commit.exact here (was_node node here below is_node) (λ cell. decided (still_free node cell)) none));
  }
    where
      first_is : (first : Entry) (later : List Entry) → entry ∷ [] ≡ first ∷ later → entry ≡ first
      first_is first later e = cc

      later_is : (first : Entry) (later : List Entry) → entry ∷ [] ≡ first ∷ later → later ≡ []
      later_is first later e = cc

      again : (first : Entry) (later : List Entry) → entry ∷ [] ≡ first ∷ later → GoesOn new node later → IsAgain action
      again first later e on = ⊎_elim
          (λ (others : 0 < length later). absurd (let none_later = ap length (later_is first later e) in omega (arith, none_later)))
          (λ (live : IsOpenAt new.nodes node).
          again_is action (open_again_only tree node stored (length tables) exact outcome action sound at live))
          on
  here_told (one ∷ rest) some told = record {
    direct = λ first later e enough cell on. told.direct one rest refl enough (was_free node below cell) (inr at);
    exact = λ first later e here is_node decided.
        subst (λ (own : Entry). IsExactFirst instance gap (λ t. slice_get more own.table ≡ Some t) here (GoesOn new node later) own.outcome) (first_is first later e)
        (exact_first-map instance gap (λ t. slice_get tables one.table ≡ Some t) (λ t. slice_get more one.table ≡ Some t) here (GoesOn tree node rest)
        (GoesOn new node later) one.outcome (table_stays one.table) (λ on. inr at)
        (told.exact one rest refl here (was_node node here below is_node) (λ cell. decided (still_free node cell))));
  }
    where
      first_is : (first : Entry) (later : List Entry) → one ∷ (rest ++ entry ∷ []) ≡ first ∷ later → one ≡ first
      first_is first later e = cc

  -- the others
  there_told : (number : ℕ) → (number ≡ node → ⊥) → number < node_count tree.nodes → (entries : List Entry)
      → IsToldOf instance budget gap tree tables number entries → IsToldOf instance budget gap new more number entries
  there_told number differ within entries told = record {
    direct = λ first later e enough cell on. told.direct first later e enough (was_free number within cell) (went_on later on);
    exact = λ first later e here is_node decided.
        exact_first-map instance gap (λ t. slice_get tables first.table ≡ Some t) (λ t. slice_get more first.table ≡ Some t) here (GoesOn tree number later)
        (GoesOn new number later) first.outcome (table_stays first.table) (went_on later)
        (told.exact first later e here (was_node number here within is_node) (λ cell. decided (still_free number cell)));
  }
    where
      went_on : (later : List Entry) → GoesOn new number later → GoesOn tree number later
      went_on later on = ⊎_elim
          (λ (others : 0 < length later). inl others)
          (λ (live : IsOpenAt new.nodes number).
          inr (open_before tree node stored (length tables) exact outcome action sound at number differ within live))
          on

  -- new nodes have no entries
  none_told : (number : ℕ) (entries : List Entry) → entries ≡ [] → IsToldOf instance budget gap new more number entries
  none_told number entries none = record {
    direct = λ first later e. absurd (never first later e);
    exact = λ first later e. absurd (never first later e);
  }
    where
      never : (first : Entry) (later : List Entry) → entries ≡ first ∷ later → ⊥
      never first later e = let nothing : [] ≡ first ∷ later = sym none ∙ e in cc

  all_told : (number : ℕ) → IsToldOf instance budget gap new more number (entries_of (log ++ entry ∷ []) number)
  all_told number = ⊎_elim
      (λ (same : number ≡ node).
      subst (λ n. IsToldOf instance budget gap new more n (entries_of (log ++ entry ∷ []) n)) (sym same)
      (subst (IsToldOf instance budget gap new more node) (sym (entries_own log entry node refl))
      (here_told (entries_of log node) refl (told_of instance budget gap tree tables log is node))))
      (λ (differ : number ≡ node → ⊥).
      subst (IsToldOf instance budget gap new more number) (sym (entries_same log entry number differ))
      (⊎_elim
      (λ (within : number < node_count tree.nodes).
      there_told number differ within (entries_of log number) (told_of instance budget gap tree tables log is number))
      (λ (past : node_count tree.nodes ≤ number).
      none_told number (entries_of log number) (no_entries log (node_count tree.nodes) number of_nodes past))
      (cases_lt number (node_count tree.nodes))))
      (cases_eq number node)

  pub entries_keep_pivoted : IsPivoted instance budget gap new more (log ++ entry ∷ [])
  entries_keep_pivoted = record {
    direct = λ enough number first later cell e. (all_told number).direct first later e enough cell;
    exact = λ number here first later is_node decided e. (all_told number).exact first later e here is_node decided;
  }

pub commits_keep_pivoted : CommitsKeepPivoted
commits_keep_pivoted instance budget m worker unit node table exact outcome action orderly holding free commit is =
    let held = holdable m worker unit node orderly holding in
    entries_keep_pivoted instance budget m.gap m.tree m.tables m.log worker unit node (kept m node table exact outcome) table exact outcome action (sound_of m orderly)
    held.live held.below orderly.entries free commit is
