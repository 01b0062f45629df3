-- The links of the log: with one entry more, and on the walk from entry to entry.
use Rattle.std.proofs.Common.{◌≡◌, ◌≢◌, ℕ, suc, ◌+◌, ◌<◌, ◌≤◌, Bool, All, List, [], ◌∷◌, ◌++◌, length, set, refl, ap, sym, ◌∙◌, subst, arith, ⊎_elim, Some, slice_get, length-append, length-set, ◌==◌, cond, true, false, eq-eqb}
use Rattle.std.proofs.lemmas.Bool.{cases_eq, ne_eqb}
use Rattle.std.proofs.lemmas.List.Elements.{All-nil, All-cons}
use Rattle.std.proofs.lemmas.Option.{slice_get_within, slice_get-get_or, get_or_from_slice_get}
use Rattle.search_machine.specs.Prelude.{entries_of}
use Rattle.search_machine.proofs.Claims.{get_push_cases, get_push_last, get_set_cases}
use Rattle.search_machine.proofs.OwnSteps.{entries_own, entries_same, no_entries, all_of_node}
use Rattle.book.specs.inside.Chains.{Entry, Table, IsNewest, AreLinked, IsElsewhere, IsWalked}

-- ---- no entry
-- ---- one entry more
newest_more : (entries : List Entry) (next : Entry) (bound node link : ℕ) → bound ≤ length entries → IsNewest entries bound node link
    → IsNewest (entries ++ next ∷ []) bound node link
newest_more entries next bound node link low is = grind (arith, get_push_cases, low, is)

-- of another node the link stays the newest
newest_other : (entries : List Entry) (next : Entry) (node link : ℕ) → node ≢ next.node → IsNewest entries (length entries) node link
    → IsNewest (entries ++ next ∷ []) (suc (length entries)) node link
newest_other entries next node link differ is = grind (arith, newest_more, slice_get_within, get_push_cases, differ, is)

-- of the entry's node it is the entry
newest_own : (entries : List Entry) (next : Entry) → IsNewest (entries ++ next ∷ []) (suc (length entries)) next.node (suc (length entries))
newest_own entries next = grind (arith, get_push_last)

pub linked_push : (entries : List Entry) (previous newest counts : List ℕ) (next : Entry) (link count : ℕ)
    → AreLinked entries previous newest counts → next.node < length newest → slice_get newest next.node ≡ Some link
    → slice_get counts next.node ≡ Some count
    → AreLinked (entries ++ next ∷ []) (previous ++ link ∷ []) (set newest next.node (suc (length entries))) (set counts next.node (count + 1))
linked_push entries previous newest counts next link count are inside here counted =
    let size = length-append entries (next ∷ []) in
    let nodes = length-set newest next.node (suc (length entries)) in
    let bound : length (entries ++ next ∷ []) ≡ suc (length entries) = omega (arith, size) in
    record {
      linked = omega (arith, size, length-append previous (link ∷ []), are.linked);
      counted = omega (arith, nodes, length-set counts next.node (count + 1), are.counted);
      within = λ place entry at. grind (arith, get_push_cases, nodes, are, inside, at);
      latest = λ node now at. ⊎_elim
          (λ (l : (node ≡ next.node) × (suc (length entries) ≡ now)).
          subst (λ b. IsNewest (entries ++ next ∷ []) b node now) (sym bound)
          (subst (λ n. IsNewest (entries ++ next ∷ []) (suc (length entries)) n now) (sym l.0)
          (subst (IsNewest (entries ++ next ∷ []) (suc (length entries)) next.node) l.1 (newest_own entries next))))
          (λ (r : (node ≢ next.node) × (slice_get newest node ≡ Some now)).
          subst (λ b. IsNewest (entries ++ next ∷ []) b node now) (sym bound)
          (newest_other entries next node now r.0 (are.latest node now r.1)))
          (get_set_cases newest next.node node (suc (length entries)) now at);
      earlier = λ place now entry at is. grind (arith, slice_get_within, newest_more, get_push_cases, are, is, here, at);
      many = λ node now at. ⊎_elim
          (λ (l : (node ≡ next.node) × (count + 1 ≡ now)).
          let more = ap length (entries_own entries next node (sym l.0)) in
          let old = are.many next.node count counted in
          let there = ap (λ n. length (entries_of entries n)) l.0 in
          omega (arith, l.1, more, old, there, length-append (entries_of entries node) (next ∷ [])))
          (λ (r : (node ≢ next.node) × (slice_get counts node ≡ Some now)).
          are.many node now r.1 ∙ ap length (sym (entries_same entries next node r.0)))
          (get_set_cases counts next.node node (count + 1) now at);
    }

-- a node has at most as many entries as there are
pub entries_few : (entries : List Entry) (node : ℕ) → length (entries_of entries node) ≤ length entries
entries_few [] node = omega arith
entries_few (entry ∷ entries) node = one_more (entry.node == node) entry (entries_of entries node) (length entries) (entries_few entries node)
  where
    one_more : (b : Bool) (entry : Entry) (rest : List Entry) (most : ℕ) → length rest ≤ most → length (cond b (entry ∷ rest) rest) ≤ suc most
    one_more true entry rest most few = omega arith
    one_more false entry rest most few = omega arith

-- ---- the walk
-- what holds of each entry of a node
pub all_entries : (P : Entry → Type 0) (entries : List Entry) (node : ℕ)
    → ((place : ℕ) (entry : Entry) → slice_get entries place ≡ Some entry → entry.node ≡ node → P entry) → All P (entries_of entries node)
all_entries P [] node each = All-nil P
all_entries P (entry ∷ entries) node each = ⊎_elim
    (λ (e : entry.node ≡ node).
    subst (λ b. All P (cond b (entry ∷ entries_of entries node) (entries_of entries node))) (sym (eq-eqb entry.node node e))
    (All-cons P entry (entries_of entries node) (each 0 entry refl e)
    (all_entries P entries node (λ place other at own. each (suc place) other at own))))
    (λ (d : entry.node ≡ node → ⊥).
    subst (λ b. All P (cond b (entry ∷ entries_of entries node) (entries_of entries node))) (sym (ne_eqb entry.node node d))
    (all_entries P entries node (λ place other at own. each (suc place) other at own)))
    (cases_eq entry.node node)

-- and the other way
pub entry_of : (P : Entry → Type 0) (entries : List Entry) (node place : ℕ) (entry : Entry) → All P (entries_of entries node)
    → slice_get entries place ≡ Some entry → entry.node ≡ node → P entry
entry_of P entries node place entry each at own =
    let within = slice_get_within entries place entry at in
    let here = get_or_from_slice_get entries place entry entry at in
    subst P here (all_of_node P entries node each place entry within (ap (λ (x : Entry). x.node) here ∙ own))

-- past an entry that isn't at the table
pub walk_on : (entries : List Entry) (tables : List Table) (table : Table) (exact : Bool) (node place link : ℕ) (entry : Entry)
    → IsWalked entries tables table exact node (suc place) → slice_get entries place ≡ Some entry → IsElsewhere tables table exact entry
    → IsNewest entries place entry.node link → IsWalked entries tables table exact node link
walk_on entries tables table exact node place link entry is here elsewhere newest = grind (arith, is, here, elsewhere, newest)

-- at its end
pub walk_ends : (entries : List Entry) (tables : List Table) (table : Table) (exact : Bool) (node link : ℕ)
    → IsWalked entries tables table exact node link → link ≡ 0 → All (IsElsewhere tables table exact) (entries_of entries node)
walk_ends entries tables table exact node link is e =
    all_entries (IsElsewhere tables table exact) entries node (λ place entry at own. is.clear place entry (omega (arith, e)) at own)

-- a node past the last has no entry
pub entries_none : (entries : List Entry) (previous newest counts : List ℕ) (node : ℕ) → AreLinked entries previous newest counts
    → length newest ≤ node → entries_of entries node ≡ []
entries_none entries previous newest counts node are past = grind (arith, no_entries, slice_get-get_or, are, past)
