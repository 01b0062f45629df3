-- The greatest scale of the tables of a node's entries: after one entry more, and that a table above it is at none of them.
use Rattle.std.proofs.Common.{◌≡◌, ℕ, ◌<◌, Bool, All, List, [], ◌∷◌, ◌++◌, length, ap, sym, ◌∙◌, subst, arith, ℤ, pos, ◌≤ℤ◌, ◌<ℤ◌, Some, slice_get, get_or, get_or-set_same, get_or-set_other}
use Rattle.std.specs.Int.{int_max}
use Rattle.std.proofs.lemmas.Bool.{cases_eq}
use Rattle.std.proofs.lemmas.Int.{ints, int_max_is}
use Rattle.std.proofs.lemmas.List.Elements.{All-push}
use Rattle.std.proofs.lemmas.Option.{slice_get_within, get_or_from_slice_get}
use Rattle.branch_tree.proofs.Changes.{get-append}
use Rattle.search_machine.specs.Prelude.{entries_of}
use Rattle.search_machine.proofs.Claims.{get_push_last}
use Rattle.book.specs.inside.Chains.{Entry, Table, IsElsewhere, raised, IsScaleNoted}
use Rattle.book.proofs.Links.{all_entries}

-- no greatest scale gets less
raised_above : (greatest : List ℤ) (node other : ℕ) (scale : ℤ) → node < length greatest
    → get_or greatest other (pos 0) ≤ℤ get_or (raised greatest node scale) other (pos 0)
raised_above greatest node other scale within = grind (arith, ints, get_or-set_same, int_max_is, get_or-set_other, cases_eq, within)

pub scales_raised : (tables : List Table) (table : Table) (greatest : List ℤ) (log : List Entry) (entry : Entry) → entry.table ≡ length tables
    → entry.node < length greatest → All (IsScaleNoted tables greatest) log
    → All (IsScaleNoted (tables ++ table ∷ []) (raised greatest entry.node table.k)) (log ++ entry ∷ [])
scales_raised tables table greatest log entry last within each =
    let later = tables ++ table ∷ [] in
    let node = entry.node in
    let was = get_or greatest node (pos 0) in
    let more = raised greatest node table.k in
    let now = get_or-set_same greatest node (int_max was table.k) (pos 0) within in
    let above : table.k ≤ℤ int_max was table.k = omega (arith, ints, int_max_is was table.k) in
    All-push (IsScaleNoted later more) log entry
    (λ k d inside.
    let own = each k d inside in
    let old = get_or log k d in
    let raised_is = raised_above greatest node old.node table.k within in
    record {
      table = own.table;
      is = get-append tables (table ∷ []) old.table own.table own.is;
      most = omega (arith, ints, own.most, raised_is);
    })
    (record {
      table = table;
      is = ap (slice_get later) last ∙ get_push_last tables table;
      most = subst (λ z. table.k ≤ℤ z) (sym now) above;
    })

-- a table above it is at none of the node's entries
pub above_all : (tables : List Table) (greatest : List ℤ) (log : List Entry) (node : ℕ) (table : Table) (exact : Bool)
    → All (IsScaleNoted tables greatest) log → get_or greatest node (pos 0) <ℤ table.k
    → All (IsElsewhere tables table exact) (entries_of log node)
above_all tables greatest log node table exact each above =
    all_entries (IsElsewhere tables table exact) log node
    (λ place entry at_place own kind there.
    let within = slice_get_within log place entry at_place in
    let noted = subst (IsScaleNoted tables greatest) (get_or_from_slice_get log place entry entry at_place) (each place entry within) in
    let both : Some noted.table ≡ Some table = sym noted.is ∙ there in
    let same : noted.table ≡ table = cc in
    let scale : noted.table.k ≡ table.k = ap (λ (t : Table). t.k) same in
    let here = ap (λ n. get_or greatest n (pos 0)) own in
    absurd (omega (arith, ints, scale, noted.most, above, here)))
