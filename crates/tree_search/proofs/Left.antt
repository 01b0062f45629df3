-- What a search leaves: the log of the book, under its own units.
use Rattle.std.proofs.Common.{◌≡◌, ◌≢◌, ◌∙◌, ℕ, ◌+◌, ◌*◌, ◌≤◌, Bool, true, false, cond, ◌==◌, List, [], ◌∷◌, length, map, refl, ap, sym, subst, arith, ℤ, Option}
use Rattle.std.proofs.lemmas.List.{length-map}
use Rattle.uc_model.specs.declared.schedule.Printed.{Printed}
use Rattle.dual_model.specs.Prelude.{root, child}
use Rattle.dual_model.specs.declared.node.Node.{Node}
use Rattle.branch_tree.specs.Prelude.{NumberedTree, EndAt, SplitAt, node_count, IsWhole}
use Rattle.search_machine.specs.Prelude.{entries_of, bound_of, HasFreeCellAt, HoldsStored, OwnsBelow, StartsAt, stored_after, stored_by, TreeRunsHold}
use Rattle.search_machine.specs.declared.stored.Stored.{Stored}
use Rattle.book.specs.Prelude.{BookView, Opening, IsTrueOpening, with_unit, number_of, IsRunning}
use Rattle.book.proofs.Books.{run_holds}
use Rattle.search_desk.specs.declared.grown.Grown.{Grown}
use Rattle.closing_pass.specs.Closings.{IsEnded}
use Rattle.branch_tree.specs.declared.found.Entry.{Entry}
use Rattle.uc_model.specs.declared.instance.Instance.{Instance}
use Rattle.dual_model.specs.declared.table.Table.{Table}
use Rattle.opening.specs.declared.root_tables.Priced.{Priced}
use Rattle.search_desk.specs.Dispatches.{IsPivotedBook}
use Rattle.search_desk.specs.Grown.{IsGrown, IsPivotedGrown}
use Rattle.tree_search.specs.inside.Searches.{opening_by}

-- ---- the log under its own units
entries_by : (f : ℕ → ℕ) (entry : Entry) (rest more : List Entry) → rest ≡ map (with_unit f) more → (b : Bool)
    → cond b (with_unit f entry ∷ rest) rest ≡ map (with_unit f) (cond b (entry ∷ more) more)
entries_by f entry rest more same true = ap (λ l. with_unit f entry ∷ l) same
entries_by f entry rest more same false = same

entries_anew : (f : ℕ → ℕ) (log : List Entry) (number : ℕ) → entries_of (map (with_unit f) log) number ≡ map (with_unit f) (entries_of log number)
entries_anew f [] number = refl
entries_anew f (entry ∷ log) number =
    entries_by f entry (entries_of (map (with_unit f) log) number) (entries_of log number) (entries_anew f log number) (entry.node == number)

starts_anew : (f : ℕ → ℕ) (tables : List Table) (stored : Stored) (entries : List Entry) → StartsAt tables stored (map (with_unit f) entries)
    → StartsAt tables stored entries
starts_anew f tables stored [] h = tt
starts_anew f tables stored (entry ∷ entries) h = h

stored_anew : (f : ℕ → ℕ) (tables : List Table) (stored : Stored) (entries : List Entry)
    → stored_after tables stored (map (with_unit f) entries) ≡ stored_after tables stored entries
stored_anew f tables stored [] = refl
stored_anew f tables stored (entry ∷ entries) = stored_anew f tables (stored_by tables stored entry) entries

module _ (f : ℕ → ℕ) (units periods : ℕ) (tables : List Table) (log : List Entry) where
  -- what the entries of a node leave
  own_after : (stored : Stored) (number : ℕ)
      → stored_after tables stored (entries_of (map (with_unit f) log) number) ≡ stored_after tables stored (entries_of log number)
  own_after stored number = ap (stored_after tables stored) (entries_anew f log number) ∙ stored_anew f tables stored (entries_of log number)

  own_start : (here : Node) (stored : Stored) (number : ℕ)
      → (number ≢ 0 → HasFreeCellAt units periods here → StartsAt tables stored (entries_of (map (with_unit f) log) number))
      → number ≢ 0 → HasFreeCellAt units periods here → StartsAt tables stored (entries_of log number)
  own_start here stored number h other free =
      starts_anew f tables stored (entries_of log number) (subst (StartsAt tables stored) (entries_anew f log number) (h other free))

  own_anew : (here : Node) (inherited : Stored) (tree : NumberedTree) → OwnsBelow units periods tables (map (with_unit f) log) here inherited tree
      → OwnsBelow units periods tables log here inherited tree
  own_anew here inherited (EndAt number l) own =
      (own_start here inherited number own.0, subst (λ (s : Stored). HoldsStored s l) (own_after inherited number) own.1)
  own_anew here inherited (SplitAt number g t off on) own =
      let next = stored_after tables inherited (entries_of log number) in (
        own_start here inherited number own.0,
        own_anew (child here g t false) next off
            (subst (λ (s : Stored). OwnsBelow units periods tables (map (with_unit f) log) (child here g t false) s off) (own_after inherited number) own.1),
        own_anew (child here g t true) next on
            (subst (λ (s : Stored). OwnsBelow units periods tables (map (with_unit f) log) (child here g t true) s on) (own_after inherited number) own.2),
      )

-- ---- how many nodes
few_nodes : TreeRunsHold → (opening : Opening) (book : BookView) → IsTrueOpening opening → IsRunning opening book
    → node_count book.tree.nodes ≤ 2 * opening.budget + 1
few_nodes runs opening book begun running =
    let amounts = (run_holds runs opening book begun running.replays).1.amounts in
    omega (arith, amounts.claims, amounts.nodes, running.budget)

-- ---- what is left
pub ended_grown : TreeRunsHold → (exact : Bool) (opening : Opening) (book : BookView) (best : Option (Printed × ℤ)) (instance : Instance) (priced : Priced) (budget gap : ℕ)
    (grown : Grown) → opening ≡ opening_by instance priced budget gap → IsRunning opening book → IsWhole book.tree → IsEnded exact opening book best
    → grown.tree ≡ book.tree → grown.tables ≡ book.tables → grown.log ≡ book.log → grown.best ≡ best
    → IsGrown exact instance priced budget gap grown
ended_grown runs exact opening book best instance priced budget gap grown same running whole ended tree tables log best_is =
    subst (λ (x : Grown). IsGrown exact instance priced budget gap x) (sym (λ i. record {
      tree = tree i;
      tables = tables i;
      log = log i;
      best = best_is i;
    }))
    (of_opening opening same running ended)
  where
    of_opening : (o : Opening) → o ≡ opening_by instance priced budget gap → IsRunning o book → IsEnded exact o book best
        → IsGrown exact instance priced budget gap (record { tree = book.tree; tables = book.tables; log = book.log; best = best })
    of_opening o is run end =
        let by = opening_by instance priced budget gap in
        let run2 : IsRunning by book = subst (λ (x : Opening). IsRunning x book) is run in
        let end2 : IsEnded exact by book best = subst (λ (x : Opening). IsEnded exact x book best) is end in
        let holds = run2.tree in
        let f = number_of book.claims in
        record {
          tree = record {
            whole = whole;
            cover = holds.cover;
            stored = holds.stored;
            bound = holds.bound;
            lawful = holds.tables;
            logged = run2.log;
            first = holds.first;
            own = own_anew f book.tree.units book.tree.periods book.tables book.log root
                (record { table = 0; value = bound_of priced.value priced.table.k; exact = false }) book.tree.nodes holds.own;
            few = λ number free.
                let few = holds.few number free in
                omega (
                  arith,
                  few,
                  ap (λ (l : List Entry). length l) (entries_anew f book.log number),
                  length-map (entries_of book.log number) (with_unit f),
                );
          };
          plain = end2.kept.plain;
          of_kind = end2.kept.of_kind;
          sized = end2.kept.sized;
          spent = end2.spent;
          nodes = few_nodes runs by book end2.kept.begun run2;
        }

pub pivoted_grown : (exact_dispatch : Bool) (opening : Opening) (book : BookView) (instance : Instance) (priced : Priced) (budget gap : ℕ) (grown : Grown)
    → opening ≡ opening_by instance priced budget gap → IsPivotedBook exact_dispatch opening book → grown.tree ≡ book.tree → grown.tables ≡ book.tables
    → grown.log ≡ book.log → IsPivotedGrown exact_dispatch instance budget gap grown
pivoted_grown exact_dispatch opening book instance priced budget gap grown same is tree tables log =
    let own = subst (λ (o : Opening). IsPivotedBook exact_dispatch o book) same is in
    subst (λ (x : Grown). IsPivotedGrown exact_dispatch instance budget gap x) (sym (λ i. record {
      tree = tree i;
      tables = tables i;
      log = log i;
      best = grown.best;
    }))
    (record { size = own.size; pivoted = own.pivoted })
