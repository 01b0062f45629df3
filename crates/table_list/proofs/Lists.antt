-- What a list keeps of its tables stays when one is added.
use Rattle.std.proofs.Common.{◌≡◌, ℕ, zero, suc, ◌-◌, ◌<◌, ◌≤◌, List, [], ◌∷◌, ◌++◌, length, map, drop, get_or, slice_get, ℤ, refl, sym, ap, subst, ◌∙◌, length-append, length-drop, arith, All}
use Rattle.std.specs.List.{AllByRecursion as Each}
use Rattle.std.proofs.Math.ListN.{get_or-append}
use Rattle.std.proofs.lemmas.Bool.{cases_order}
use Rattle.std.proofs.lemmas.List.{map-append, length-map, drop-append-le, take-append-le, take_all, get_or_at}
use Rattle.std.proofs.lemmas.List.Elements.{All-append, recursion_from_All}
use Rattle.dual_model.specs.Prelude.{IsWellFormed}
use Rattle.table_list.specs.Changes.{Table, Change, OfDemand, OfReserve, OfRamps, changed, all_changed, table_changes}
use Rattle.table_list.specs.inside.Kept.{Entry, no_table, with_scale, stretch, rebuilt, own_changes, tables_of, IsWithin, AreSteps, AreKept}

-- ---- the scale of a table that is changed
change_scaled : (table : Table) (k : ℤ) (change : Change) → changed (with_scale table k) change ≡ with_scale (changed table change) k
change_scaled table k (OfDemand t price) = refl
change_scaled table k (OfReserve t price) = refl
change_scaled table k (OfRamps row) = refl

pub changes_scaled : (table : Table) (k : ℤ) (changes : List Change) → all_changed (with_scale table k) changes ≡ with_scale (all_changed table changes) k
changes_scaled table k [] = refl
changes_scaled table k (change ∷ changes) =
    ap (λ table. all_changed table changes) (change_scaled table k change) ∙ changes_scaled (changed table change) k changes

pub changes_behind : (table : Table) (changes more : List Change) → all_changed table (changes ++ more) ≡ all_changed (all_changed table changes) more
changes_behind table [] more = refl
changes_behind table (change ∷ changes) more = changes_behind (changed table change) changes more

-- ---- what was kept before
stretch_grown : (told more : List Change) (from end : ℕ) → from ≤ end → end ≤ length told → stretch (told ++ more) from end ≡ stretch told from end
stretch_grown told more from end le lt = grind (arith, drop-append-le, take-append-le, length-drop, le, lt)

pub stretch_end : (told : List Change) (from end : ℕ) → length told ≤ end → stretch told from end ≡ drop from told
stretch_end told from end le = take_all (end - from) (drop from told) (omega (arith, length-drop from told))

rebuilt_grown : (wholes others : List Table) (told more : List Change) (entry : Entry) → IsWithin (length wholes) (length told) entry
    → rebuilt (wholes ++ others) (told ++ more) entry ≡ rebuilt wholes told entry
rebuilt_grown wholes others told more entry h = grind (arith, get_or-append, stretch_grown, h)

tables_grown : (wholes others : List Table) (told more : List Change) (entries : List Entry) → All (IsWithin (length wholes) (length told)) entries
    → tables_of (wholes ++ others) (told ++ more) entries ≡ tables_of wholes told entries
tables_grown wholes others told more entries within = each entries (recursion_from_All (IsWithin (length wholes) (length told)) entries within)
  where
    each : (entries : List Entry) → Each (IsWithin (length wholes) (length told)) entries
        → tables_of (wholes ++ others) (told ++ more) entries ≡ tables_of wholes told entries
    each [] within = refl
    each (entry ∷ entries) within = λ i. rebuilt_grown wholes others told more entry within.0 i ∷ each entries within.1 i

steps_grown : (wholes : ℕ) (told more : List Change) (entries : List Entry) → All (IsWithin wholes (length told)) entries
    → map (own_changes (told ++ more)) entries ≡ map (own_changes told) entries
steps_grown wholes told more entries within = each entries (recursion_from_All (IsWithin wholes (length told)) entries within)
  where
    each : (entries : List Entry) → Each (IsWithin wholes (length told)) entries → map (own_changes (told ++ more)) entries ≡ map (own_changes told) entries
    each [] within = refl
    each (entry ∷ entries) within = λ i. stretch_grown told more entry.start entry.end within.0.start within.0.end i ∷ each entries within.1 i

within_grown : (wholes told more_wholes more_told : ℕ) (entries : List Entry) → wholes ≤ more_wholes → told ≤ more_told → All (IsWithin wholes told) entries
    → All (IsWithin more_wholes more_told) entries
within_grown wholes told more_wholes more_told entries le lt within i d low = grind (arith, le, lt, within, i, d, low)

-- ---- one that is added
all_one : {X : Type 0} (P : X → Type 0) (x : X) → P x → All P (x ∷ [])
all_one P x p zero d lt = p
all_one P x p (suc i) d lt = absurd (omega arith)

steps_added : (tables : List Table) (steps : List (List Change)) (table : Table) (more : List Change) → length steps ≡ length tables → AreSteps tables steps
    → (0 < length tables → more ≡ table_changes (get_or tables (length tables - 1) no_table) table) → AreSteps (tables ++ table ∷ []) (steps ++ more ∷ [])
steps_added tables steps table more long before last i lt =
    grind (arith, cases_order, get_or-append, length-append, get_or_at, long, before, last, i, lt)

pub record IsAdded (wholes others : List Table) (told more : List Change) (entries : List Entry) (entry : Entry) (table : Table) : Type 0 where
  pub within : IsWithin (length (wholes ++ others)) (length (told ++ more)) entry
  pub is : rebuilt (wholes ++ others) (told ++ more) entry ≡ table
  pub own : own_changes (told ++ more) entry ≡ more
  pub step : 0 < length entries → more ≡ table_changes (get_or (tables_of wholes told entries) (length entries - 1) no_table) table
  pub first : slice_get (wholes ++ others) 0 ≡ slice_get (tables_of wholes told entries ++ table ∷ []) 0
  pub formed : IsWellFormed table

pub tables_added : (wholes others : List Table) (told more : List Change) (entries : List Entry) (entry : Entry) (table : Table) → AreKept wholes told entries
    → IsAdded wholes others told more entries entry table
    → tables_of (wholes ++ others) (told ++ more) (entries ++ entry ∷ []) ≡ tables_of wholes told entries ++ table ∷ []
tables_added wholes others told more entries entry table kept h = grind (arith, map-append, tables_grown, kept, h)

pub kept_added : (wholes others : List Table) (told more : List Change) (entries : List Entry) (entry : Entry) (table : Table) → AreKept wholes told entries
    → IsAdded wholes others told more entries entry table → AreKept (wholes ++ others) (told ++ more) (entries ++ entry ∷ [])
kept_added wholes others told more entries entry table kept h =
    let tables = tables_added wholes others told more entries entry table kept h in
    let before = tables_of wholes told entries in
    let own = map (own_changes told) entries in
    let steps : map (own_changes (told ++ more)) (entries ++ entry ∷ []) ≡ own ++ more ∷ [] =
    map-append (own_changes (told ++ more)) entries (entry ∷ []) ∙ (λ i. steps_grown (length wholes) told more entries kept.within i ++ h.own i ∷ []) in
    let long : length before ≡ length entries = length-map entries (rebuilt wholes told) in
    let follow : AreSteps (before ++ table ∷ []) (own ++ more ∷ []) =
    steps_added before own table more (length-map entries (own_changes told) ∙ sym long) kept.steps
    (λ some. h.step (omega arith) ∙ ap (λ n. table_changes (get_or before (n - 1) no_table) table) (sym long)) in
    record {
      within = All-append (IsWithin (length (wholes ++ others)) (length (told ++ more))) entries (entry ∷ [])
          (within_grown (length wholes) (length told) (length (wholes ++ others)) (length (told ++ more)) entries (omega (arith, length-append wholes others)) (omega (arith, length-append told more)) kept.within)
          (all_one (IsWithin (length (wholes ++ others)) (length (told ++ more))) entry h.within);
      formed = subst (All IsWellFormed) (sym tables) (All-append IsWellFormed before (table ∷ []) kept.formed (all_one IsWellFormed table h.formed));
      steps = subst (AreSteps _) (sym steps) (subst (λ (all : List Table). AreSteps all (own ++ more ∷ [])) (sym tables) follow);
      first = h.first ∙ ap (λ all. slice_get all 0) (sym tables);
    }

-- it is the last one then
pub last_added : (wholes others : List Table) (told more : List Change) (entries : List Entry) (entry : Entry) (table : Table) → AreKept wholes told entries
    → IsAdded wholes others told more entries entry table
    → get_or (tables_of (wholes ++ others) (told ++ more) (entries ++ entry ∷ [])) (length (entries ++ entry ∷ []) - 1) no_table ≡ table
last_added wholes others told more entries entry table kept h = grind (arith, length-map, length-append, tables_added, get_or_at, kept, h)
