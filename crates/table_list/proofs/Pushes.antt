-- A list with one more table, kept whole or by its changes.
use Rattle.std.proofs.Common.{◌≡◌, ℕ, ℤ, ◌-◌, ◌<◌, List, [], ◌∷◌, ◌++◌, length, take, drop, get_or, slice_get, Some, Result, refl, sym, ap, subst, ◌∙◌, append-nil, length-append, arith}
use Rattle.std.specs.Result.{OnOk}
use Rattle.std.proofs.Math.Seq.{drop-append_seam}
use Rattle.std.proofs.lemmas.Result.{on_ok_weaker}
use Rattle.std.proofs.lemmas.List.{length-map, drop-append-le, drop_all, get_or_at}
use Rattle.dual_model.specs.Prelude.{IsWellFormed}
use Rattle.table_list.specs.Changes.{Table, Change, all_changed, table_changes}
use Rattle.table_list.specs.TableChanges.{change_of, changes_of, AreAlike}
use Rattle.table_list.specs.inside.Kept.{Entry, Kept, no_table, with_scale, rebuilt, tables_of, AreKept, IsLastOf, IsListed, IsWholeAdded, IsToldAdded, told_in, tables_in}
use Rattle.table_list.proofs.TableChanges.{changes_make_table}
use Rattle.table_list.proofs.Lists.{IsAdded, tables_added, kept_added, last_added, changes_scaled, changes_behind, stretch_end}

along : (P : List Table → List Change → List Entry → Type 0) (wholes other_wholes : List Table) (told other_told : List Change) (entries other_entries : List Entry)
    → wholes ≡ other_wholes → told ≡ other_told → entries ≡ other_entries → P wholes told entries → P other_wholes other_told other_entries
along P wholes other_wholes told other_told entries other_entries a b c p = grind (arith, a, b, c, p)

both_first : (wholes tables : List Table) (table : Table) → slice_get wholes 0 ≡ slice_get tables 0 → slice_get (wholes ++ table ∷ []) 0 ≡ slice_get (tables ++ table ∷ []) 0
both_first [] [] table e = refl
both_first [] (other ∷ tables) table e = absurd cc
both_first (whole ∷ wholes) [] table e = absurd cc
both_first (whole ∷ wholes) (other ∷ tables) table e = e

some_first : (tables : List Table) (table : Table) → 0 < length tables → slice_get tables 0 ≡ slice_get (tables ++ table ∷ []) 0
some_first [] table some = absurd (omega arith)
some_first (other ∷ tables) table some = refl

-- two facts that follow from what a call ensures
pub both_on_ok : {T E A B C : Type 0} (r : Result T E) → (A → B × C) → OnOk r A → OnOk r B × OnOk r C
both_on_ok r each a = (on_ok_weaker r (λ a. (each a).0) a, on_ok_weaker r (λ a. (each a).1) a)

-- ---- a table that is kept whole
pub listed_whole : (old mid new : Kept) (more : List Change) (table : Table) (start : ℕ)
    → AreKept old.wholes.items (told_in old) old.entries.items → IsWellFormed table → start ≡ length old.changes.items
    → mid.wholes.items ≡ old.wholes.items → mid.entries.items ≡ old.entries.items → changes_of mid.changes.items ≡ told_in old ++ more
    → (0 < length old.entries.items → more ≡ table_changes (get_or (tables_in old) (length old.entries.items - 1) no_table) table)
    → IsWholeAdded mid new table start → IsListed new (Some table) × (tables_in new ≡ tables_in old ++ table ∷ [])
listed_whole old mid new more table start kept formed begins w e t step a =
    let wholes = old.wholes.items in
    let told = told_in old in
    let entries = old.entries.items in
    let n = length mid.changes.items in
    let entry : Entry = record { k = table.k; whole = length mid.wholes.items; from = n; start = start; end = n } in
    let n_is : n ≡ length (told ++ more) = sym (length-map mid.changes.items change_of) ∙ ap length t in
    let start_is : start ≡ length told = begins ∙ sym (length-map old.changes.items change_of) in
    let place : length wholes ≡ length mid.wholes.items = ap length (sym w) in
    let zero : n - n ≡ 0 = omega arith in
    let added : IsAdded wholes (table ∷ []) told more entries entry table = record {
      within = record {
        whole = omega (arith, place, length-append wholes (table ∷ []));
        from = omega arith;
        start = omega (arith, n_is, start_is, length-append told more);
        end = omega (arith, n_is);
      };
      is = λ i. with_scale (all_changed (get_or_at wholes table [] no_table (length mid.wholes.items) place i) (take (zero i) (drop n (told ++ more)))) table.k;
      own = stretch_end (told ++ more) start n (omega (arith, n_is)) ∙ ap (λ m. drop m (told ++ more)) start_is ∙ drop-append_seam told more;
      step = step;
      first = both_first wholes (tables_of wholes told entries) table kept.first;
      formed = formed;
    } in
    let last : IsLastOf (wholes ++ table ∷ []) (told ++ more) (entries ++ entry ∷ []) n table = record {
      some = omega (arith, length-append entries (entry ∷ []));
      is = last_added wholes (table ∷ []) told more entries entry table kept added;
      whole = omega (arith, length-append wholes (table ∷ []));
      place = omega (arith, n_is);
      made = grind (arith, get_or_at, length-append, drop_all, wholes, table, n, told, more, n_is);
    } in
    let wholes_are : wholes ++ table ∷ [] ≡ new.wholes.items = ap (λ xs. xs ++ table ∷ []) (sym w) ∙ sym a.wholes in
    let told_are : told ++ more ≡ told_in new = sym t ∙ ap changes_of (sym a.changes) in
    let entries_are : entries ++ entry ∷ [] ≡ new.entries.items = ap (λ xs. xs ++ entry ∷ []) (sym e) ∙ sym a.entries in (
      record {
        all = along AreKept _ _ _ _ _ _ wholes_are told_are entries_are (kept_added wholes (table ∷ []) told more entries entry table kept added);
        end = grind (arith, along, new, table, wholes_are, told_are, entries_are, wholes, told, more, entries, entry, a, last);
      },
      along (λ x y z. tables_of x y z ≡ tables_of wholes told entries ++ table ∷ []) _ _ _ _ _ _ wholes_are told_are entries_are
          (tables_added wholes (table ∷ []) told more entries entry table kept added),
    )

-- ---- a table that is rebuilt of the last one that is kept whole
-- changes behind those that make the last table make the next one
make_next : (whole last table : Table) (changes : List Change) → IsWellFormed last → IsWellFormed table → AreAlike last table → last ≡ with_scale (all_changed whole changes) last.k
    → with_scale (all_changed whole (changes ++ table_changes last table)) table.k ≡ table
make_next whole last table changes form formed alike made =
    grind (arith, changes_scaled, changes_behind, changes_make_table, form, formed, alike, made)

pub listed_told : (old mid new : Kept) (last table : Table) (k : ℤ) (start : ℕ) → k ≡ table.k
    → IsListed old (Some last) → IsWellFormed table → AreAlike last table → start ≡ length old.changes.items
    → mid.wholes.items ≡ old.wholes.items → mid.entries.items ≡ old.entries.items → mid.from ≡ old.from
    → changes_of mid.changes.items ≡ told_in old ++ table_changes last table
    → IsToldAdded mid new k start → IsListed new (Some table) × (tables_in new ≡ tables_in old ++ table ∷ [])
listed_told old mid new last table k start scale listed formed alike begins w e f t pushed =
    let a = subst (λ (k : ℤ). IsToldAdded mid new k start) scale pushed in
    let wholes = old.wholes.items in
    let told = told_in old in
    let entries = old.entries.items in
    let kept = listed.all in
    let end = listed.end in
    let more = table_changes last table in
    let n = length mid.changes.items in
    let entry : Entry = record { k = table.k; whole = length mid.wholes.items - 1; from = mid.from; start = start; end = n } in
    let n_is : n ≡ length (told ++ more) = sym (length-map mid.changes.items change_of) ∙ ap length t in
    let start_is : start ≡ length told = begins ∙ sym (length-map old.changes.items change_of) in
    let place : length mid.wholes.items - 1 ≡ length wholes - 1 = ap (λ xs. length xs - 1) w in
    let long : length (tables_of wholes told entries) ≡ length entries = length-map entries (rebuilt wholes told) in
    let form : IsWellFormed last = subst IsWellFormed end.is (kept.formed (length entries - 1) no_table (omega (arith, end.some, long))) in
    let whole = get_or wholes (length wholes - 1) no_table in
    let all : drop mid.from (told ++ more) ≡ drop old.from told ++ more = ap (λ m. drop m (told ++ more)) f ∙ drop-append-le old.from told more end.place in
    let made : with_scale (all_changed whole (drop mid.from (told ++ more))) table.k ≡ table =
    ap (λ changes. with_scale (all_changed whole changes) table.k) all ∙ make_next whole last table (drop old.from told) form formed alike end.made in
    let found : get_or (wholes ++ []) (length mid.wholes.items - 1) no_table ≡ whole =
    ap (λ xs. get_or xs (length mid.wholes.items - 1) no_table) (append-nil wholes) ∙ ap (λ m. get_or wholes m no_table) place in
    let added : IsAdded wholes [] told more entries entry table = record {
      within = record {
        whole = omega (arith, place, end.whole, length-append wholes []);
        from = omega (arith, f, end.place, n_is, length-append told more);
        start = omega (arith, n_is, start_is, length-append told more);
        end = omega (arith, n_is);
      };
      is = (λ i. with_scale (all_changed (found i) (stretch_end (told ++ more) mid.from n (omega (arith, n_is)) i)) table.k) ∙ made;
      own = stretch_end (told ++ more) start n (omega (arith, n_is)) ∙ ap (λ m. drop m (told ++ more)) start_is ∙ drop-append_seam told more;
      step = λ some. ap (λ (other : Table). table_changes other table) (sym end.is);
      first = ap (λ xs. slice_get xs 0) (append-nil wholes) ∙ kept.first ∙ some_first (tables_of wholes told entries) table (omega (arith, end.some, long));
      formed = formed;
    } in
    let next : IsLastOf (wholes ++ []) (told ++ more) (entries ++ entry ∷ []) mid.from table = record {
      some = omega (arith, length-append entries (entry ∷ []));
      is = last_added wholes [] told more entries entry table kept added;
      whole = omega (arith, end.whole, length-append wholes []);
      place = omega (arith, f, end.place, length-append told more);
      made = sym ((λ i. with_scale (all_changed (get_or (append-nil wholes i) (length (append-nil wholes i) - 1) no_table) (drop mid.from (told ++ more))) table.k) ∙ made);
    } in
    let wholes_are : wholes ++ [] ≡ new.wholes.items = append-nil wholes ∙ sym w ∙ sym a.wholes in
    let told_are : told ++ more ≡ told_in new = sym t ∙ ap changes_of (sym a.changes) in
    let entries_are : entries ++ entry ∷ [] ≡ new.entries.items = ap (λ xs. xs ++ entry ∷ []) (sym e) ∙ sym a.entries in (
      record {
        all = along AreKept _ _ _ _ _ _ wholes_are told_are entries_are (kept_added wholes [] told more entries entry table kept added);
        end = grind (arith, along, new, table, wholes_are, told_are, entries_are, wholes, told, more, entries, entry, a, next);
      },
      along (λ x y z. tables_of x y z ≡ tables_of wholes told entries ++ table ∷ []) _ _ _ _ _ _ wholes_are told_are entries_are
          (tables_added wholes [] told more entries entry table kept added),
    )
