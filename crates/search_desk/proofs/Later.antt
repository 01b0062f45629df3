-- The scales of a node's later entries, after one entry more.
use Rattle.std.proofs.Common.{◌≡◌, ◌≢◌, ⊎_elim, ℕ, ◌==◌, true, false, All, List, [], ◌∷◌, ◌++◌, drop, get_or, length, sym, subst, arith, Some, slice_get}
use Rattle.std.proofs.lemmas.List.Elements.{All-nil, All-cons, All-append, All-filter, All-tail}
use Rattle.std.proofs.lemmas.Option.{slice_get_within}
use Rattle.branch_tree.proofs.Subtrees.{same_or_not}
use Rattle.search_machine.specs.Prelude.{entries_of}
use Rattle.search_machine.proofs.Claims.{get_push_cases}
use Rattle.search_machine.proofs.OwnSteps.{IsTableWithin, entries_own, entries_same}
use Rattle.search_desk.specs.Desks.{Entry, Table, AreLaterScaled, IsScaledEntry, IsScaledWithin}

-- ---- one entry more
module _ (limit : ℕ) (tables : List Table) (table : Table) where
  -- an entry that was there has the table that it had
  old_scaled : (entries : List Entry) → All (IsTableWithin (length tables)) entries → All (IsScaledEntry limit tables) entries
      → All (IsScaledEntry limit (tables ++ table ∷ [])) entries
  old_scaled entries there each i d within own is = ⊎_elim
      (λ (old : slice_get tables (get_or entries i d).table ≡ Some own). each i d within own old)
      (λ (new : ((get_or entries i d).table ≡ length tables) × (table ≡ own)). let below = there i d within in absurd (omega (arith, new.0, below)))
      (get_push_cases tables table own (get_or entries i d).table is)

  new_scaled : (entry : Entry) → entry.table ≡ length tables → IsScaledWithin limit table → IsScaledEntry limit (tables ++ table ∷ []) entry
  new_scaled entry last scaled own is = ⊎_elim
      (λ (old : slice_get tables entry.table ≡ Some own).
      let below = slice_get_within tables entry.table own old in absurd (omega (arith, last, below)))
      (λ (new : (entry.table ≡ length tables) × (table ≡ own)). subst (IsScaledWithin limit) new.1 scaled)
      (get_push_cases tables table own entry.table is)

  -- of one node
  own_later : (entries : List Entry) (entry : Entry) → entry.table ≡ length tables → All (IsTableWithin (length tables)) entries
      → (entries ≢ [] → IsScaledWithin limit table) → All (IsScaledEntry limit tables) (drop 1 entries)
      → All (IsScaledEntry limit (tables ++ table ∷ [])) (drop 1 (entries ++ entry ∷ []))
  own_later [] entry last there scaled each = All-nil (IsScaledEntry limit (tables ++ table ∷ []))
  own_later (first ∷ entries) entry last there scaled each =
      let new = IsScaledEntry limit (tables ++ table ∷ []) in
      All-append new entries (entry ∷ [])
      (old_scaled entries (All-tail (IsTableWithin (length tables)) first entries there) each)
      (All-cons new entry [] (new_scaled entry last (scaled (λ none. absurd (cc)))) (All-nil new))

  pub later_pushed : (log : List Entry) (entry : Entry) → entry.table ≡ length tables → All (IsTableWithin (length tables)) log
      → (entries_of log entry.node ≢ [] → IsScaledWithin limit table) → AreLaterScaled limit tables log
      → AreLaterScaled limit (tables ++ table ∷ []) (log ++ entry ∷ [])
  later_pushed log entry last there scaled later node = ⊎_elim
      (λ (h : (entry.node ≡ node) × ((entry.node == node) ≡ true)).
      subst (λ (es : List Entry). All (IsScaledEntry limit (tables ++ table ∷ [])) (drop 1 es)) (sym (entries_own log entry node h.0))
      (own_later (entries_of log node) entry last (here node)
      (subst (λ n. entries_of log n ≢ [] → IsScaledWithin limit table) h.0 scaled) (later node)))
      (λ (h : ((entry.node ≡ node) → ⊥) × ((entry.node == node) ≡ false)).
      subst (λ (es : List Entry). All (IsScaledEntry limit (tables ++ table ∷ [])) (drop 1 es))
      (sym (entries_same log entry node (λ same. h.0 (sym same))))
      (still (entries_of log node) (here node) (later node)))
      (same_or_not entry.node node)
    where
      here : (node : ℕ) → All (IsTableWithin (length tables)) (entries_of log node)
      here node = All-filter (λ (e : Entry). e.node == node) (IsTableWithin (length tables)) log there

      still : (entries : List Entry) → All (IsTableWithin (length tables)) entries → All (IsScaledEntry limit tables) (drop 1 entries)
          → All (IsScaledEntry limit (tables ++ table ∷ [])) (drop 1 entries)
      still [] there each = All-nil (IsScaledEntry limit (tables ++ table ∷ []))
      still (first ∷ entries) there each = old_scaled entries (All-tail (IsTableWithin (length tables)) first entries there) each
