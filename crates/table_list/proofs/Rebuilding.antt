-- Reading a list: a table is rebuilt of one that is kept whole, by changes.
use Rattle.std.proofs.Common.{◌≡◌, ℕ, zero, suc, ◌+◌, ◌-◌, ◌<◌, List, ◌∷◌, length, take, drop, get_or, sym, ap, subst, ◌∙◌, arith}
use Rattle.std.proofs.lemmas.List.{length-map, take-map, drop-map, get_or-map, get_or_read, get_or_default, drop_more}
use Rattle.dual_model.specs.Prelude.{AreRising, IsWellFormed}
use Rattle.table_list.specs.Changes.{Table, Change, OfDemand, OfReserve, OfRamps, changed, all_changed, table_changes, with_row}
use Rattle.table_list.specs.TableChanges.{KeptChange, change_of, changes_of}
use Rattle.table_list.specs.inside.Kept.{Entry, Kept, no_table, with_scale, stretch, rebuilt, AreKept, told_in, tables_in}
use Rattle.table_list.proofs.RowChanges.{rise_from, rising_from, rise_with}
use Rattle.table_list.proofs.Lists.{changes_scaled}

-- ---- changes that are made one after another
changed_rising : (table : Table) (change : Change) → AreRising table.ramps → AreRising (changed table change).ramps
changed_rising table (OfDemand t price) rising = rising
changed_rising table (OfReserve t price) rising = rising
changed_rising table (OfRamps row) rising = rising_from (with_row table.ramps row) (rise_with table.ramps row (rise_from table.ramps rising))

pub made_rising : (table made : Table) (change : Change) → made ≡ changed table change → AreRising table.ramps → AreRising made.ramps
made_rising table made change e rising = subst (λ (table : Table). AreRising table.ramps) (sym e) (changed_rising table change rising)

pub made_more : (table made total : Table) (changes : List KeptChange) (i : ℕ) (d : KeptChange) → i < length changes → made ≡ changed table (change_of (get_or changes i d))
    → all_changed table (drop i (changes_of changes)) ≡ total → all_changed made (drop (i + 1) (changes_of changes)) ≡ total
made_more table made total changes i d lt e before =
    let change = change_of (get_or changes i d) in
    let within : i < length (changes_of changes) = omega (arith, length-map changes change_of) in
    let next : drop i (changes_of changes) ≡ change ∷ drop (i + 1) (changes_of changes) =
    drop_more (changes_of changes) i change within ∙ ap (λ first. first ∷ drop (i + 1) (changes_of changes)) (get_or-map change_of changes i d change lt) in
    ap (λ (table : Table). all_changed table (drop (i + 1) (changes_of changes))) e ∙ ap (all_changed table) (sym next) ∙ before

-- ---- a part of the changes
part_of : (changes : List KeptChange) (from end : ℕ) → changes_of (take (end - from) (drop from changes)) ≡ stretch (changes_of changes) from end
part_of changes from end = sym (ap (take (end - from)) (drop-map change_of from changes) ∙ take-map change_of (end - from) (drop from changes))

pub rebuilt_is : (kept : Kept) → AreKept kept.wholes.items (told_in kept) kept.entries.items → (number : ℕ) → number < length kept.entries.items → (entry : Entry)
    → entry ≡ get_or kept.entries.items number entry → (whole made : Table) → whole ≡ get_or kept.wholes.items entry.whole whole
    → made ≡ all_changed (with_scale whole entry.k) (changes_of (take (entry.end - entry.from) (drop entry.from kept.changes.items)))
    → (made ≡ get_or (tables_in kept) number no_table) × IsWellFormed made
rebuilt_is kept all number lt entry is whole made found e =
    let tables = tables_in kept in
    let entries = kept.entries.items in
    let within = all.within number entry lt in
    let whole_within : entry.whole < length kept.wholes.items = subst (λ (other : Entry). other.whole < length kept.wholes.items) (sym is) within.whole in
    let here : made ≡ rebuilt kept.wholes.items (told_in kept) entry =
    e ∙ changes_scaled whole entry.k (changes_of (take (entry.end - entry.from) (drop entry.from kept.changes.items)))
    ∙ (λ i. with_scale (all_changed (get_or_read kept.wholes.items entry.whole whole whole_within found no_table i) (part_of kept.changes.items entry.from entry.end i)) entry.k) in
    let there : made ≡ get_or tables number no_table =
    here ∙ ap (rebuilt kept.wholes.items (told_in kept)) is ∙ sym (get_or-map (rebuilt kept.wholes.items (told_in kept)) entries number entry no_table lt) in
    (there, subst IsWellFormed (sym there) (all.formed number no_table (omega (arith, length-map entries (rebuilt kept.wholes.items (told_in kept))))))

pub own_are : (kept : Kept) → AreKept kept.wholes.items (told_in kept) kept.entries.items → (number : ℕ) → 0 < number → number < length kept.entries.items → (entry : Entry)
    → entry ≡ get_or kept.entries.items number entry
    → changes_of (take (entry.end - entry.start) (drop entry.start kept.changes.items)) ≡ table_changes (get_or (tables_in kept) (number - 1) no_table) (get_or (tables_in kept) number no_table)
own_are kept all zero some lt entry is = absurd (omega arith)
own_are kept all (suc i) some lt entry is = grind (arith, part_of, get_or-map, length-map, all, some, lt, is)

-- ---- the same of the list that contracts see
pub rebuilt_in : (kept : Kept) (tables : List Table) → tables ≡ tables_in kept → AreKept kept.wholes.items (told_in kept) kept.entries.items → (number : ℕ) → number < length tables → (entry : Entry)
    → entry ≡ get_or kept.entries.items number entry → (whole made : Table) → whole ≡ get_or kept.wholes.items entry.whole whole
    → made ≡ all_changed (with_scale whole entry.k) (changes_of (take (entry.end - entry.from) (drop entry.from kept.changes.items)))
    → ((d : Table) → made ≡ get_or tables number d) × IsWellFormed made
rebuilt_in kept tables view all number lt entry is whole made found e =
    let made_is = rebuilt_is kept all number (omega (arith, ap length view, length-map kept.entries.items (rebuilt kept.wholes.items (told_in kept)))) entry is whole made found e in
    (λ d. made_is.0 ∙ ap (λ (all : List Table). get_or all number no_table) (sym view) ∙ get_or_default tables number no_table d lt, made_is.1)

pub own_in : (kept : Kept) (tables : List Table) → tables ≡ tables_in kept → AreKept kept.wholes.items (told_in kept) kept.entries.items → (number : ℕ) → 0 < number → number < length tables
    → (entry : Entry) → entry ≡ get_or kept.entries.items number entry → (d e : Table)
    → changes_of (take (entry.end - entry.start) (drop entry.start kept.changes.items)) ≡ table_changes (get_or tables (number - 1) d) (get_or tables number e)
own_in kept tables view all number some lt entry is d e =
    own_are kept all number some (omega (arith, ap length view, length-map kept.entries.items (rebuilt kept.wholes.items (told_in kept)))) entry is
    ∙ ap (λ (all : List Table). table_changes (get_or all (number - 1) no_table) (get_or all number no_table)) (sym view)
    ∙ (λ i. table_changes (get_or_default tables (number - 1) no_table d (omega arith) i) (get_or_default tables number no_table e lt i))
