-- The parts of tables, of the tree and of the whole read their lines and nothing else.
use Rattle.std.proofs.Common.{◌≡◌, ℕ, zero, suc, List, [], ◌∷◌, ◌++◌, length, replicate, All, Option, Some, None, Result, Ok, Err, refl, sym, ap, subst, ◌∙◌, append_assoc, arith, ◌^◌, ◌<◌, map, get_or, ℤ, pos, negsuc, unsigned_abs, ◌≤ℤ◌, ◌≤◌, true, false, append-nil, ◌+◌, ◌-◌, length-append, IfSome, codes}
use Rattle.std.specs.List.{flat_map}
use Rattle.std.proofs.lemmas.List.Elements.{All-nil, All-cons, All-head, All-tail}
use Rattle.outside.specs.Lines.{joined, line}
use Rattle.outside.proofs.Joining.{joined-cons}
use Rattle.table_list.specs.Changes.{Change, changed, all_changed, table_changes}
use Rattle.cert_text.specs.Grammar.{RampRow, Symbol, Reaches, Sizes, AreSizes, Ahead, Scale, Pi, Mu, Ramps, Ramp, Next, Update, ArePrices, IsRampAfter, IsChangeAfter, table_head, tables_from, tables_behind, ramp_rows, changes_from, scaled, with_ramp, rescaled, ramp_count_line, Plan, Node, children, Head, Size, Claim, End, after_size}
use Rattle.cert_text.specs.inside.Forms.{signed_at, text_at, row_at, ramp_count_at, ramp_at, change_at, node_at, split_at, claim_at, end_at}
use Rattle.cert_text.specs.inside.Parts.{◌>>=◌, Planned, line_of, then, plan_part, ramp_rows_part, ramps_part, table_of, numbers_part, table_part, changes_part, next_part, told_part, tables_part, AreChanges, owed_after, nodes_part, tree_part, listing_from, heading_part, certificate_part, AreRamps}
use Rattle.cert_text.proofs.FormLaws.{IsForm, Anything, prices-form, scale-form, ramp_count-form, form-as, version-form, size-form, claim-form, end-form}
use Rattle.cert_text.proofs.TableForms.{ramp-form, next-form, change-form, node-form}
use Rattle.cert_text.proofs.ChangeLaws.{changes_found, changes_make, changed_is_text, changes_few}
use Rattle.std.proofs.lemmas.Int.{ints}
use Rattle.dual_model.specs.Prelude.{IsRowBefore, IsRowWithin, Certificate, Tree, Ends, Splits, Leaf, Bound, Ray, Empty}
use Rattle.cert_text.specs.TextConditions.{Table, IsRampText, IsTableText, IsMoney, IsNodeText, HasText}
use Rattle.cert_text.specs.CertificateText.{Version, First, Second, Third, prices_line, ramps_line, ramp_line, table_lines, next_line, change_line, next_lines, told_from, told_lines, tables_lines, Listing, listing_of, version_line, size_line, claim_line, end_line, certificate_lines, certificate_text, TreeNode, LeafNode, SplitNode, preorder, node_line}
use Rattle.cert_text.proofs.Loops.{behind_parts, regroup_parts}
use Rattle.cert_text.proofs.PartSteps.{Stops, IsPart, Done, bind_ok, ok_of, same_Ok, same_Err, StopsAt, AtFirst, AtSecond, bind_err, Stops-before, Stops-behind, line-part, then-part, told-part, part-as, before-part, told_then, told_second, nothing-part}
use Rattle.cert_text.proofs.PlanLaws.{IsPlan, plan-part, lines_of}

-- ---- The part of a table reads its lines.
-- ---- ramp rows
-- the table with rows behind those that were told of it
abbrev with_ramps : Table → List RampRow → Table
with_ramps table rows = record table { ramps = table.ramps ++ rows }

pub ramp_rows-part : (ahead : Ahead) → AreSizes ahead.size → (table : Table) (n : ℕ) (before : Option RampRow)
    → IsPart (ramp_rows_part ahead.size n before) (λ rows. (length rows ≡ n) × AreRamps ahead.size before rows) (map ramp_line) (ramp_rows ahead table n before)
    (λ rows. tables_behind ahead (with_ramps table rows))
unfolding ramp_rows_part
ramp_rows-part ahead lawful table zero before =
    part-as (told-part (before-part (nothing-part []) (tables_behind ahead table)) (λ rows. rows) (λ rows. (length rows ≡ 0) × AreRamps ahead.size before rows) (map ramp_line)
    (λ rows. tables_behind ahead (with_ramps table rows)) (record { there = there; back = back })) (λ bytes. refl)
  where
    there : (rows : List RampRow) → rows ≡ [] → ((length rows ≡ 0) × AreRamps ahead.size before rows) × ([] ≡ map ramp_line rows) × (tables_behind ahead table ≡ tables_behind ahead (with_ramps table rows))
    there [] e = ((refl, tt), refl, ap (λ ramps. tables_behind ahead (record table { ramps = ramps })) (sym (append-nil table.ramps)))
    there (row ∷ rows) e = absurd cc

    back : (rows : List RampRow) → (length rows ≡ 0) × AreRamps ahead.size before rows → (a : List RampRow) × (a ≡ []) × (a ≡ rows)
    back [] w = ([], refl, refl)
    back (row ∷ rows) w = absurd (omega arith)
ramp_rows-part ahead lawful table (suc n) before =
    part-as (told-part (then-part (line-part (ramp-form ahead.size lawful before) (Ramp ahead table n before) (λ row. ramp_rows ahead (with_ramp table row) n (Some row)) (λ row v. (row, v, refl, refl)) (λ text others p. (p.0, p.1, p.2)))
    (λ row v. ramp_rows-part ahead lawful (with_ramp table row) n (Some row)))
    grown (λ rows. (length rows ≡ suc n) × AreRamps ahead.size before rows) (map ramp_line) (λ rows. tables_behind ahead (with_ramps table rows))
    (record { there = λ p v. ((ap suc v.1.0, (v.0, v.1.1)), refl, ap (λ ramps. tables_behind ahead (record table { ramps = ramps })) (append_assoc table.ramps (p.0 ∷ []) p.1)); back = back }))
    (told_then grown (line_of (ramp_at ahead.size before)) (λ row. ramp_rows_part ahead.size n (Some row)))
  where
    grown : RampRow × List RampRow → List RampRow
    grown p = p.0 ∷ p.1

    back : (rows : List RampRow) → (length rows ≡ suc n) × AreRamps ahead.size before rows
        → (p : RampRow × List RampRow) × (IsRampAfter ahead.size before p.0 × ((length p.1 ≡ n) × AreRamps ahead.size (Some p.0) p.1)) × (grown p ≡ rows)
    back [] w = absurd (omega arith)
    back (row ∷ rows) w = ((row, rows), (w.1.0, (omega arith, w.1.1)), refl)

pub ramps-part : (ahead : Ahead) → AreSizes ahead.size → (table : Table)
    → IsPart (ramps_part ahead.size) (λ rows. (length rows < 10 ^ 18) × AreRamps ahead.size None rows) (λ rows. ramps_line rows ∷ map ramp_line rows) (Ramps ahead table ∷ [])
    (λ rows. tables_behind ahead (with_ramps table rows))
unfolding ramps_part
ramps-part ahead lawful table =
    part-as (told-part (then-part (line-part ramp_count-form (Ramps ahead table) (λ count. ramp_rows ahead table count None) (λ count v. (count, v, refl, refl)) (λ text others p. (p.0, p.1, p.2)))
    (λ count v. ramp_rows-part ahead lawful table count None))
    (λ p. p.1) (λ rows. (length rows < 10 ^ 18) × AreRamps ahead.size None rows) (λ rows. ramps_line rows ∷ map ramp_line rows) (λ rows. tables_behind ahead (with_ramps table rows))
    (record {
      there = λ p v. ((omega (arith, v.0, v.1.0), v.1.1), ap (λ count. ramp_count_line count ∷ map ramp_line p.1) (sym v.1.0), refl);
      back = λ rows w. ((length rows, rows), (w.0, (refl, w.1)), refl);
    }))
    (told_second (line_of ramp_count_at) (λ count. ramp_rows_part ahead.size count None))

-- rows that follow each other are within the size, of few digits, and rise
ramps_within : (size : Sizes) (before : Option RampRow) (rows : List RampRow) → AreRamps size before rows → All (IsRowWithin size.thermal size.periods) rows
ramps_within size before [] h = All-nil (IsRowWithin size.thermal size.periods)
ramps_within size before (row ∷ rows) h = All-cons (IsRowWithin size.thermal size.periods) row rows h.0.within (ramps_within size (Some row) rows h.1)

ramps_written : (size : Sizes) (before : Option RampRow) (rows : List RampRow) → AreRamps size before rows → All IsRampText rows
ramps_written size before [] h = All-nil IsRampText
ramps_written size before (row ∷ rows) h = All-cons IsRampText row rows h.0.written (ramps_written size (Some row) rows h.1)

ramps_rise : (size : Sizes) (before : Option RampRow) (rows : List RampRow) → AreRamps size before rows
    → (i : ℕ) (d : RampRow) → suc i < length rows → IsRowBefore (get_or rows i d) (get_or rows (suc i) d)
ramps_rise size before (row ∷ next ∷ rows) h zero d lt = h.1.0.rises
ramps_rise size before (row ∷ next ∷ rows) h (suc i) d lt = ramps_rise size (Some row) (next ∷ rows) h.1 i d (omega arith)
ramps_rise size before _ h i d lt = absurd (omega arith)

ramps_from : (size : Sizes) (before : Option RampRow) (rows : List RampRow) → All (IsRowWithin size.thermal size.periods) rows → All IsRampText rows
    → ((i : ℕ) (d : RampRow) → suc i < length rows → IsRowBefore (get_or rows i d) (get_or rows (suc i) d))
    → ((first : RampRow) (others : List RampRow) → rows ≡ first ∷ others → IfSome before (λ earlier. IsRowBefore earlier first)) → AreRamps size before rows
ramps_from size before [] within written rising first = tt
ramps_from size before (row ∷ rows) within written rising first = (
  record { within = All-head (IsRowWithin size.thermal size.periods) row rows within; written = All-head IsRampText row rows written; rises = first row rows refl },
  ramps_from size (Some row) rows (All-tail (IsRowWithin size.thermal size.periods) row rows within) (All-tail IsRampText row rows written)
      (λ i d lt. rising (suc i) d (omega arith)) (λ next others e. behind next others e),
)
  where
    behind : (next : RampRow) (others : List RampRow) → rows ≡ next ∷ others → IsRowBefore row next
    behind next others e =
        let long : 1 < length (row ∷ rows) = omega (arith, ap length e) in
        subst (λ (following : RampRow). IsRowBefore row following) (ap (λ rows. get_or rows 0 row) e) (rising 0 row long)

-- ---- tables
pub prices_as : (word : List ℕ) (size : Sizes) → IsForm (row_at word size.periods (signed_at 18)) (ArePrices size) (prices_line word) Anything
prices_as word size =
    form-as (prices-form word size.periods) (ArePrices size) (prices_line word) (λ prices v. record { periods = v.0; written = v.1 }) (λ prices w. (w.periods, w.written)) (λ prices v. refl)

pub table-part : (ahead : Ahead) → AreSizes ahead.size → IsPart (table_part ahead.size) (IsTableText ahead.size.periods ahead.size.thermal) table_lines (Scale ahead ∷ []) (tables_behind ahead)
unfolding table_part numbers_part
table-part ahead lawful =
    told-part (then-part (line-part scale-form (Scale ahead) (λ k. Pi ahead (scaled size k) ∷ []) (λ k v. (k, v, refl, refl)) (λ text others p. (p.0, p.1, p.2)))
    (λ k v. then-part (line-part (prices_as (codes "pi") size) (Pi ahead (scaled size k)) (λ pi. Mu ahead (record (scaled size k) { pi = pi }) ∷ []) (λ prices v. (prices, v, refl, refl)) (λ text others p. (p.0, p.1, p.2)))
    (λ pi v. then-part (line-part (prices_as (codes "mu") size) (Mu ahead (record (scaled size k) { pi = pi })) (λ mu. Ramps ahead (record (scaled size k) { pi = pi; mu = mu }) ∷ []) (λ prices v. (prices, v, refl, refl)) (λ text others p. (p.0, p.1, p.2)))
    (λ mu v. ramps-part ahead lawful (record (scaled size k) { pi = pi; mu = mu })))))
    (table_of size) (IsTableText size.periods size.thermal) table_lines (tables_behind ahead)
    (record {
      there = λ p v. (
        record {
          form = record {
            scale = omega (arith, ints);
            lengths = v.1.1.0.periods ∙ sym v.1.0.periods;
            rows = subst (λ (n : ℕ). All (IsRowWithin size.thermal n) p.1.1.1) (sym v.1.0.periods) (ramps_within size None p.1.1.1 v.1.1.1.1);
            rising = ramps_rise size None p.1.1.1 v.1.1.1.1;
          };
          units = refl;
          periods_priced = v.1.0.periods;
          scale = v.0;
          pi = v.1.0.written;
          mu = v.1.1.0.written;
          rows = v.1.1.1.0;
          ramps = ramps_written size None p.1.1.1 v.1.1.1.1;
        },
        refl,
        refl,
      );
      back = back;
    })
  where
    size : Sizes
    size = ahead.size

    natural : (k : ℤ) → pos 0 ≤ℤ k → pos (unsigned_abs k) ≡ k
    natural (pos n) h = refl
    natural (negsuc n) h = absurd (omega (arith, ints))

    back : (table : Table) → IsTableText size.periods size.thermal table
        → (p : ℕ × (List ℤ × (List ℤ × List RampRow))) × ((p.0 < 10 ^ 18) × (ArePrices size p.1.0
        × (ArePrices size p.1.1.0 × ((length p.1.1.1 < 10 ^ 18) × AreRamps size None p.1.1.1)))) × (table_of size p ≡ table)
    back table w =
        let within = subst (λ (n : ℕ). All (IsRowWithin n (length table.pi)) table.ramps) w.units w.form.rows in
        let rows = subst (λ (n : ℕ). All (IsRowWithin size.thermal n) table.ramps) w.periods_priced within in (
          (unsigned_abs table.k, (table.pi, (table.mu, table.ramps))),
          (w.scale, (record { periods = w.periods_priced; written = w.pi }, (record { periods = w.form.lengths ∙ w.periods_priced; written = w.mu }, (w.rows, ramps_from size None table.ramps rows w.ramps w.form.rising (λ first others e. tt))))),
          λ i. record { units = sym w.units i; k = natural table.k w.form.scale i; pi = table.pi; mu = table.mu; ramps = table.ramps },
        )

-- ---- tables told by their difference to another
pub changes-part : (ahead : Ahead) → AreSizes ahead.size → (table : Table) (n : ℕ) (last : Option Change)
    → IsPart (changes_part ahead.size table n last) (λ changes. (length changes ≡ n) × AreChanges ahead.size table last changes) (map change_line) (changes_from ahead table n last)
    (λ changes. tables_behind ahead (all_changed table changes))
unfolding changes_part
changes-part ahead lawful table zero last =
    part-as (told-part (before-part (nothing-part []) (tables_behind ahead table)) (λ changes. changes) (λ changes. (length changes ≡ 0) × AreChanges ahead.size table last changes) (map change_line)
    (λ changes. tables_behind ahead (all_changed table changes)) (record { there = there; back = back })) (λ bytes. refl)
  where
    there : (changes : List Change) → changes ≡ []
        → ((length changes ≡ 0) × AreChanges ahead.size table last changes) × ([] ≡ map change_line changes) × (tables_behind ahead table ≡ tables_behind ahead (all_changed table changes))
    there [] e = ((refl, tt), refl, refl)
    there (change ∷ changes) e = absurd cc

    back : (changes : List Change) → (length changes ≡ 0) × AreChanges ahead.size table last changes → (a : List Change) × (a ≡ []) × (a ≡ changes)
    back [] w = ([], refl, refl)
    back (change ∷ changes) w = absurd (omega arith)
changes-part ahead lawful table (suc n) last =
    part-as (told-part (then-part (line-part (change-form ahead.size lawful table last) (Update ahead table n last) (λ change. changes_from ahead (changed table change) n (Some change)) (λ change v. (change, v, refl, refl)) (λ text others p. (p.0, p.1, p.2)))
    (λ change v. changes-part ahead lawful (changed table change) n (Some change)))
    grown (λ changes. (length changes ≡ suc n) × AreChanges ahead.size table last changes) (map change_line) (λ changes. tables_behind ahead (all_changed table changes))
    (record { there = λ p v. ((ap suc v.1.0, (v.0, v.1.1)), refl, refl); back = back }))
    (told_then grown (line_of (change_at ahead.size table last)) (λ change. changes_part ahead.size (changed table change) n (Some change)))
  where
    grown : Change × List Change → List Change
    grown p = p.0 ∷ p.1

    back : (changes : List Change) → (length changes ≡ suc n) × AreChanges ahead.size table last changes
        → (p : Change × List Change) × (IsChangeAfter ahead.size table last p.0 × ((length p.1 ≡ n) × AreChanges ahead.size (changed table p.0) (Some p.0) p.1)) × (grown p ≡ changes)
    back [] w = absurd (omega arith)
    back (change ∷ changes) w = ((change, changes), (w.1.0, (omega arith, w.1.1)), refl)

pub next-part : (ahead : Ahead) → AreSizes ahead.size → (before : Table) → IsTableText ahead.size.periods ahead.size.thermal before
    → IsPart (next_part ahead.size before) (IsTableText ahead.size.periods ahead.size.thermal) (told_lines (Some before)) (Next ahead before ∷ []) (tables_behind ahead)
unfolding next_part
next-part ahead lawful before text =
    told-part (then-part (line-part next-form (Next ahead before) (λ p. changes_from ahead (rescaled before p.0) p.1 None) (λ p v. (p, v, refl, refl)) (λ text others p. (p.0, p.1, p.2)))
    (λ p v. changes-part ahead lawful (rescaled before p.0) p.1 None))
    (λ p. all_changed (rescaled before p.0.0) p.1) (IsTableText ahead.size.periods ahead.size.thermal) (told_lines (Some before)) (tables_behind ahead)
    (record {
      there = λ p v.
          let is = changed_is_text ahead.size lawful before p.0.0 p.1 text v.0.0 v.1.1 in (
            is.0,
            ap (λ n. next_line (pos p.0.0) n ∷ map change_line p.1) (sym v.1.0)
                ∙ (λ i. next_lines (sym is.1 i) (sym (changes_found ahead.size before p.0.0 p.1 text v.1.1) i)),
            refl,
          );
      back = λ table w.
          let made = changes_make ahead.size before table text w in (
            ((unsigned_abs table.k, length (table_changes before table)), table_changes before table),
            ((w.scale, changes_few ahead.size lawful (rescaled before (unsigned_abs table.k)) None (table_changes before table) made.0), (refl, made.0)),
            made.1,
          );
    })

-- a table is told whole, or by its difference to this one, which has a text too
pub told_table-part : (ahead : Ahead) → AreSizes ahead.size → (before : Option Table) → IfSome before (IsTableText ahead.size.periods ahead.size.thermal)
    → IsPart (told_part ahead.size before) (IsTableText ahead.size.periods ahead.size.thermal) (told_lines before) (table_head ahead before ∷ []) (tables_behind ahead)
unfolding told_part
told_table-part ahead lawful None text = table-part ahead lawful
told_table-part ahead lawful (Some before) text = next-part ahead lawful before text

-- the tables, of which each one has a text
told_has_text : (P : Table → Type 0) (version : Version) (before : Option Table) → IfSome before P → IfSome (told_from version before) P
told_has_text P First before text = tt
told_has_text P Second before text = text
told_has_text P Third before text = text

pub tables-part : (size : Sizes) → AreSizes size → (n : ℕ) (before : Option Table) → IfSome before (IsTableText size.periods size.thermal)
    → IsPart (tables_part size n before) (λ tables. (length tables ≡ n) × All (IsTableText size.periods size.thermal) tables) (tables_lines size.version before) (tables_from size n before) Done
unfolding tables_part
tables-part size lawful zero before text =
    part-as (told-part (nothing-part []) (λ tables. tables) (λ tables. (length tables ≡ 0) × All (IsTableText size.periods size.thermal) tables) (tables_lines size.version before) Done (record { there = there; back = back })) (λ bytes. refl)
  where
    there : (tables : List Table) → tables ≡ [] → ((length tables ≡ 0) × All (IsTableText size.periods size.thermal) tables) × ([] ≡ tables_lines size.version before tables) × ([] ≡ Done tables)
    there [] e = ((refl, All-nil (IsTableText size.periods size.thermal)), refl, refl)
    there (table ∷ tables) e = absurd cc

    back : (tables : List Table) → (length tables ≡ 0) × All (IsTableText size.periods size.thermal) tables → (a : List Table) × (a ≡ []) × (a ≡ tables)
    back [] w = ([], refl, refl)
    back (table ∷ tables) w = absurd (omega arith)
tables-part size lawful (suc n) before text =
    part-as (told-part (then-part (told_table-part (record { size = size; tables = n }) lawful (told_from size.version before) (told_has_text (IsTableText size.periods size.thermal) size.version before text))
    (λ table v. tables-part size lawful n (Some table) v))
    grown (λ tables. (length tables ≡ suc n) × All (IsTableText size.periods size.thermal) tables) (tables_lines size.version before) Done
    (record { there = λ p v. ((ap suc v.1.0, All-cons (IsTableText size.periods size.thermal) p.0 p.1 v.0 v.1.1), refl, refl); back = back }))
    (told_then grown (told_part size (told_from size.version before)) (λ table. tables_part size n (Some table)))
  where
    grown : Table × List Table → List Table
    grown p = p.0 ∷ p.1

    back : (tables : List Table) → (length tables ≡ suc n) × All (IsTableText size.periods size.thermal) tables
        → (p : Table × List Table) × (IsTableText size.periods size.thermal p.0 × ((length p.1 ≡ n) × All (IsTableText size.periods size.thermal) p.1)) × (grown p ≡ tables)
    back [] w = absurd (omega arith)
    back (table ∷ tables) w = ((table, tables), (All-head (IsTableText size.periods size.thermal) table tables w.1, (omega arith, All-tail (IsTableText size.periods size.thermal) table tables w.1)), refl)

-- the tables that are read have a text
pub next_form : (size : Sizes) → AreSizes size → (before : Table) → IsTableText size.periods size.thermal before → (bytes : List ℕ) (table : Table) (rest : List ℕ)
    → next_part size before bytes ≡ Ok (table, rest) → IsTableText size.periods size.thermal table
next_form size lawful before text bytes table rest e = ((next-part (record { size = size; tables = 0 }) lawful before text).takes bytes (table, rest) e).0

pub table_form : (size : Sizes) → AreSizes size → (bytes : List ℕ) (table : Table) (rest : List ℕ) → table_part size bytes ≡ Ok (table, rest) → IsTableText size.periods size.thermal table
table_form size lawful bytes table rest e = ((table-part (record { size = size; tables = 0 }) lawful).takes bytes (table, rest) e).0

-- ---- The part of the tree reads the nodes of one tree in preorder.
-- the nodes are those of so many trees
abbrev pub AreOwed : ℕ → List TreeNode → Type 0
AreOwed zero [] = Unit {0}
AreOwed (suc others) (node ∷ nodes) = AreOwed (owed_after others node) nodes
AreOwed _ _ = ⊥

-- ---- nodes that are owed are those of trees, in preorder
record AreTrees (n : ℕ) (nodes : List TreeNode) : Type 0 where
  trees : List (Tree Leaf)
  count : length trees ≡ n
  order : flat_map preorder trees ≡ nodes

leaf_before : (n : ℕ) (leaf : Leaf) (nodes : List TreeNode) → AreTrees n nodes → AreTrees (suc n) (LeafNode leaf ∷ nodes)
leaf_before n leaf nodes h = record { trees = Ends leaf ∷ h.trees; count = ap suc h.count; order = ap (λ nodes. LeafNode leaf ∷ nodes) h.order }

split_before : (n g t : ℕ) (nodes : List TreeNode) (trees : List (Tree Leaf)) → length trees ≡ suc (suc n) → flat_map preorder trees ≡ nodes → AreTrees (suc n) (SplitNode g t ∷ nodes)
split_before n g t nodes (off ∷ on ∷ trees) long order = record {
  trees = Splits g t off on ∷ trees;
  count = omega arith;
  order = ap (λ nodes. SplitNode g t ∷ nodes) (append_assoc (preorder off) (preorder on) (flat_map preorder trees) ∙ order);
}
split_before n g t nodes _ long order = absurd (omega arith)

owed_are_trees : (n : ℕ) (nodes : List TreeNode) → AreOwed n nodes → AreTrees n nodes
owed_are_trees zero [] h = record { trees = []; count = refl; order = refl }
owed_are_trees (suc others) (LeafNode leaf ∷ nodes) h = leaf_before others leaf nodes (owed_are_trees others nodes h)
owed_are_trees (suc others) (SplitNode g t ∷ nodes) h =
    let behind = owed_are_trees (suc (suc others)) nodes h in
    split_before others g t nodes behind.trees behind.count behind.order
owed_are_trees _ _ h = absurd h

one_tree : (nodes : List TreeNode) (trees : List (Tree Leaf)) → length trees ≡ 1 → flat_map preorder trees ≡ nodes → (tree : Tree Leaf) × (preorder tree ≡ nodes)
one_tree nodes (tree ∷ []) long order = (tree, sym (append-nil (preorder tree)) ∙ order)
one_tree nodes _ long order = absurd (omega arith)

pub owed_is_tree : (nodes : List TreeNode) → AreOwed 1 nodes → (tree : Tree Leaf) × (preorder tree ≡ nodes)
owed_is_tree nodes h = let behind = owed_are_trees 1 nodes h in one_tree nodes behind.trees behind.count behind.order

-- and the other way round
tree_before : (tree : Tree Leaf) (n : ℕ) (nodes : List TreeNode) → AreOwed n nodes → AreOwed (suc n) (preorder tree ++ nodes)
tree_before (Ends leaf) n nodes h = h
tree_before (Splits g t off on) n nodes h =
    subst (AreOwed (suc (suc n))) (sym (append_assoc (preorder off) (preorder on) nodes)) (tree_before off (suc n) (preorder on ++ nodes) (tree_before on n nodes h))

-- ---- reading them
abbrev WithinSize : Sizes → TreeNode → Type 0
WithinSize size node = IsNodeText size.version size.periods size.thermal size.tables node

-- a node takes more than one byte
pub line_long : (node : TreeNode) → 2 ≤ length (node_line node)
unfolding line
line_long (LeafNode (Bound false n)) = omega arith
line_long (LeafNode (Bound true n)) = omega arith
line_long (LeafNode (Ray false n)) = omega arith
line_long (LeafNode (Ray true n)) = omega arith
line_long (LeafNode (Empty false g)) = omega arith
line_long (LeafNode (Empty true g)) = omega arith
line_long (SplitNode g t) = omega arith

node-part : (size : Sizes) → AreSizes size → IsPart (line_of (node_at size)) (WithinSize size) (λ node. node_line node ∷ []) (Node size ∷ []) (children size)
node-part size lawful = line-part (node-form size lawful) (Node size) (children size) (λ node v. (node, v, refl, refl)) (λ text others p. (p.0, p.1, p.2))

-- what is owed after a node is its children, and then the others
owed_kinds : (size : Sizes) (others : ℕ) (node : TreeNode) → children size node ++ replicate others (Node size) ≡ replicate (owed_after others node) (Node size)
owed_kinds size others (LeafNode leaf) = refl
owed_kinds size others (SplitNode g t) = refl

nodes_runs : (size : Sizes) (n : ℕ) (nodes : List TreeNode) → AreOwed n nodes → All (WithinSize size) nodes → Reaches (replicate n (Node size)) (map node_line nodes) []
nodes_runs size zero [] h v = refl
nodes_runs size (suc others) (node ∷ nodes) h v = (
  children size node,
  (node, All-head (WithinSize size) node nodes v, refl, refl),
  subst (λ (kinds : List Symbol). Reaches kinds (map node_line nodes) []) (sym (owed_kinds size others node)) (nodes_runs size (owed_after others node) nodes h (All-tail (WithinSize size) node nodes v)),
)
nodes_runs size _ _ h v = absurd h

abbrev grown : TreeNode → Result (List TreeNode × List ℕ) (List ℕ) → Result (List TreeNode × List ℕ) (List ℕ)
grown node r = r >>= λ xs. ok_of (List TreeNode) (node ∷ xs.0) xs.1

nodes_take : (size : Sizes) → AreSizes size → (most n : ℕ) (bytes : List ℕ) (x : List TreeNode × List ℕ) → nodes_part size most n bytes ≡ Ok x
    → (AreOwed n x.0 × All (WithinSize size) x.0) × (bytes ≡ joined (map node_line x.0) ++ x.1)
unfolding nodes_part
nodes_take size lawful most zero bytes x e =
    subst (λ (x : List TreeNode × List ℕ). (AreOwed 0 x.0 × All (WithinSize size) x.0) × (bytes ≡ joined (map node_line x.0) ++ x.1)) (same_Ok ([], bytes) x e) ((tt, All-nil (WithinSize size)), refl)
nodes_take size lawful zero (suc others) bytes x e = absurd cc
nodes_take size lawful (suc most) (suc others) bytes x e =
    let b = bind_ok (line_of (node_at size) bytes) (λ x. grown x.0 (nodes_part size most (owed_after others x.0) x.1)) x e in
    let c = bind_ok (nodes_part size most (owed_after others b.0.0) b.0.1) (λ xs. ok_of (List TreeNode) (b.0.0 ∷ xs.0) xs.1) x b.2 in
    let one = (node-part size lawful).takes bytes b.0 b.1 in
    let more = nodes_take size lawful most (owed_after others b.0.0) b.0.1 c.0 c.1 in
    let parts = one.1 ∙ ap (λ rest. node_line b.0.0 ++ rest) more.1 ∙ sym (append_assoc (node_line b.0.0) (joined (map node_line c.0.0)) c.0.1)
    ∙ ap (λ text. text ++ c.0.1) (sym (joined-cons (node_line b.0.0) (map node_line c.0.0))) in
    subst (λ (x : List TreeNode × List ℕ). (AreOwed (suc others) x.0 × All (WithinSize size) x.0) × (bytes ≡ joined (map node_line x.0) ++ x.1)) (same_Ok (b.0.0 ∷ c.0.0, c.0.1) x c.2)
    ((more.0.0, All-cons (WithinSize size) b.0.0 c.0.0 one.0 more.0.1), parts)

nodes_again : (size : Sizes) → AreSizes size → (most n : ℕ) (nodes : List TreeNode) (rest : List ℕ) → length (joined (map node_line nodes) ++ rest) ≤ most
    → AreOwed n nodes → All (WithinSize size) nodes → nodes_part size most n (joined (map node_line nodes) ++ rest) ≡ Ok (nodes, rest)
unfolding nodes_part
nodes_again size lawful most zero [] rest few h v = refl
nodes_again size lawful most zero (node ∷ nodes) rest few h v = absurd h
nodes_again size lawful most (suc others) [] rest few h v = absurd h
nodes_again size lawful zero (suc others) (node ∷ nodes) rest few h v =
    absurd (omega (arith, line_long node, ap length (joined-cons (node_line node) (map node_line nodes)), length-append (node_line node) (joined (map node_line nodes)), length-append (joined (node_line node ∷ map node_line nodes)) rest))
nodes_again size lawful (suc most) (suc others) (node ∷ nodes) rest few h v =
    let behind = joined (map node_line nodes) ++ rest in
    let regrouped : joined (map node_line (node ∷ nodes)) ++ rest ≡ node_line node ++ behind = ap (λ text. text ++ rest) (joined-cons (node_line node) (map node_line nodes)) ∙ append_assoc (node_line node) (joined (map node_line nodes)) rest in
    let short : length behind ≤ most = omega (arith, line_long node, ap length regrouped, length-append (node_line node) behind) in
    ap (nodes_part size (suc most) (suc others)) regrouped
    ∙ rw ((node-part size lawful).again node behind (All-head (WithinSize size) node nodes v), nodes_again size lawful most (owed_after others node) nodes rest short h (All-tail (WithinSize size) node nodes v)) refl

-- where no byte is left no node stands
no_byte : (size : Sizes) → AreSizes size → (others : ℕ) (rest : List ℕ) → [] ≡ rest → Stops (Node size ∷ replicate others (Node size)) [] rest
unfolding node_at text_at split_at
no_byte size lawful others rest e = subst (Stops (Node size ∷ replicate others (Node size)) []) e (Stops-before (Node size ∷ []) (replicate others (Node size)) [] [] ((node-part size lawful).stops [] [] refl))

nodes_stop : (size : Sizes) → AreSizes size → (most n : ℕ) (bytes rest : List ℕ) → length bytes ≤ most → nodes_part size most n bytes ≡ Err rest → Stops (replicate n (Node size)) bytes rest
unfolding nodes_part
nodes_stop size lawful most zero bytes rest few e = absurd cc
nodes_stop size lawful zero (suc others) [] rest few e = no_byte size lawful others rest (same_Err [] rest e)
nodes_stop size lawful zero (suc others) (b ∷ bytes) rest few e = absurd (omega arith)
nodes_stop size lawful (suc most) (suc others) bytes rest few e =
    by_step (λ n bytes short f. nodes_stop size lawful most n bytes rest short f) (bind_err (line_of (node_at size) bytes) (λ x. grown x.0 (nodes_part size most (owed_after others x.0) x.1)) rest e)
  where
    by_second : ((n : ℕ) (bytes : List ℕ) → length bytes ≤ most → nodes_part size most n bytes ≡ Err rest → Stops (replicate n (Node size)) bytes rest)
        → (x : TreeNode × List ℕ) → line_of (node_at size) bytes ≡ Ok x → StopsAt (nodes_part size most (owed_after others x.0) x.1) (λ xs. ok_of (List TreeNode) (x.0 ∷ xs.0) xs.1) rest
        → Stops (Node size ∷ replicate others (Node size)) bytes rest
    by_second later x e (AtFirst f) =
        let one = (node-part size lawful).takes bytes x e in
        let short : length x.1 ≤ most = omega (arith, line_long x.0, ap length one.1, length-append (node_line x.0) x.1) in
        let behind = later (owed_after others x.0) x.1 short f in
        Stops-behind (Node size ∷ replicate others (Node size)) (replicate (owed_after others x.0) (Node size)) (node_line x.0 ∷ []) bytes x.1 rest
        (children size x.0, (x.0, one.0, refl, refl), owed_kinds size others x.0) one.1 behind
    by_second later x e (AtSecond y f g) = absurd cc

    by_step : ((n : ℕ) (bytes : List ℕ) → length bytes ≤ most → nodes_part size most n bytes ≡ Err rest → Stops (replicate n (Node size)) bytes rest)
        → StopsAt (line_of (node_at size) bytes) (λ x. grown x.0 (nodes_part size most (owed_after others x.0) x.1)) rest → Stops (Node size ∷ replicate others (Node size)) bytes rest
    by_step later (AtFirst f) = Stops-before (Node size ∷ []) (replicate others (Node size)) bytes rest ((node-part size lawful).stops bytes rest f)
    by_step later (AtSecond x f g) = by_second later x f (bind_err (nodes_part size most (owed_after others x.0) x.1) (λ xs. ok_of (List TreeNode) (x.0 ∷ xs.0) xs.1) rest g)

pub tree-part : (size : Sizes) → AreSizes size
    → IsPart (tree_part size) (λ nodes. AreOwed 1 nodes × All (WithinSize size) nodes) (map node_line) (Node size ∷ []) Done
unfolding tree_part
tree-part size lawful = record {
  takes = λ bytes x e. nodes_take size lawful (length bytes) 1 bytes x e;
  again = λ nodes rest v. nodes_again size lawful (length (joined (map node_line nodes) ++ rest)) 1 nodes rest (omega arith) v.0 v.1;
  runs = λ nodes v. nodes_runs size 1 nodes v.0 v.1;
  stops = λ bytes rest e. nodes_stop size lawful (length bytes) 1 bytes rest (omega arith) e;
}

-- ---- The whole of a certificate reads its lines.
abbrev heading_lines : Sizes → List (List ℕ)
heading_lines size = version_line size.version ∷ size_line size.periods size.thermal size.renewable size.tables ∷ []

heading-part : IsPart heading_part AreSizes heading_lines (Head ∷ []) after_size
unfolding heading_part
heading-part =
    told-part (then-part (line-part version-form Head (λ version. Size version ∷ []) (λ version v. (version, refl, refl)) (λ text others p. (p.0, tt, p.1)))
    (λ version v. line-part (size-form version) (Size version) after_size (λ size v. (size, v, refl, refl)) (λ text others p. (p.0, p.1, p.2))))
    (λ p. p.1) AreSizes heading_lines after_size
    (record {
      there = λ p v. (v.1.sizes, ap (λ version. version_line version ∷ size_line p.1.periods p.1.thermal p.1.renewable p.1.tables ∷ []) (sym v.1.told), refl);
      back = λ size w. ((size.version, size), (tt, record { sizes = w; told = refl }), refl);
    })

-- a listing that has a text in the version, with the nodes of one tree
pub record IsListed (version : Version) (c : Listing) : Type 0 where
  pub text : HasText version c
  pub tree : AreOwed 1 c.nodes

abbrev Body : Type 0
Body = Option ℤ × (Planned × (List Table × (List TreeNode × Unit {0})))

abbrev IsBody : Sizes → Body → Type 0
IsBody size p =
    IfSome p.0 IsMoney × (IsPlan size p.1.0
    × (((length p.1.1.0 ≡ size.tables) × All (IsTableText size.periods size.thermal) p.1.1.0)
    × ((AreOwed 1 p.1.1.1.0 × All (IsNodeText size.version size.periods size.thermal size.tables) p.1.1.1.0) × Unit {0})))

abbrev body_lines : Version → Body → List (List ℕ)
body_lines version p = claim_line p.0 ∷ (lines_of p.1.0 ++ (tables_lines version None p.1.1.0 ++ (map node_line p.1.1.1.0 ++ end_line ∷ [])))

body-part : (size : Sizes) → AreSizes size
    → IsPart (then (line_of claim_at) (λ _. then (plan_part size) (λ _. then (tables_part size size.tables None) (λ _. then (tree_part size) (λ _. line_of end_at)))))
    (IsBody size) (body_lines size.version) (after_size size) Done
body-part size lawful =
    let tables = tables_from size size.tables None in
    then-part (before-part (line-part claim-form Claim Done (λ bound v. (bound, v, refl, refl)) (λ text others p. (p.0, p.1, p.2))) (Plan size ∷ (tables ++ Node size ∷ End ∷ [])))
    (λ bound v. then-part (before-part (plan-part size) (tables ++ Node size ∷ End ∷ []))
    (λ plan v. then-part (before-part (tables-part size lawful size.tables None tt) (Node size ∷ End ∷ []))
    (λ tables v. then-part (before-part (tree-part size lawful) (End ∷ []))
    (λ nodes v. line-part end-form End Done (λ a v. (refl, refl)) (λ text others p. (tt, tt, p.0))))))

pub certificate-part : IsPart certificate_part (λ read. IsListed read.0 read.1) (λ read. certificate_lines read.0 read.1) (Head ∷ []) Done
unfolding certificate_part certificate_lines
certificate-part =
    told-part (then-part heading-part body-part) (λ p. (p.0.version, listing_from p)) (λ read. IsListed read.0 read.1) (λ read. certificate_lines read.0 read.1) Done
    (record {
      there = λ p v. (
        record {
          text = record {
            some_period = v.0.some_period;
            periods = v.0.periods;
            thermal = v.0.thermal;
            renewable = v.0.renewable;
            table_count = omega (arith, v.0.tables, v.1.1.1.0.0);
            bound = v.1.0;
            penalties = v.1.1.0.penalties;
            schedule = v.1.1.0.schedule;
            tables = v.1.1.1.0.1;
            nodes = subst (λ (n : ℕ). All (IsNodeText p.0.version p.0.periods p.0.thermal n) p.1.1.1.1.0) (sym v.1.1.1.0.0) v.1.1.1.1.0.1;
          };
          tree = v.1.1.1.1.0.0;
        },
        ap (λ n. version_line p.0.version ∷ size_line p.0.periods p.0.thermal p.0.renewable n ∷ body_lines p.0.version p.1) (sym v.1.1.1.0.0),
        refl,
      );
      back = λ read w.
          let c = read.1 in (
            (record { version = read.0; periods = c.periods; thermal = c.thermal; renewable = c.renewable; tables = length c.tables }, (c.bound, (((c.a, c.b), c.schedule), (c.tables, (c.nodes, tt))))),
            (
              record { some_period = w.text.some_period; periods = w.text.periods; thermal = w.text.thermal; renewable = w.text.renewable; tables = w.text.table_count },
              (w.text.bound, (record { penalties = w.text.penalties; schedule = w.text.schedule }, ((refl, w.text.tables), ((w.tree, w.text.nodes), tt)))),
            ),
            refl,
          );
    })

-- ---- certificates
pub certificate_listed : (version : Version) (c : Certificate) → HasText version (listing_of c) → IsListed version (listing_of c)
certificate_listed version c h = record { text = h; tree = subst (AreOwed 1) (append-nil (preorder c.tree)) (tree_before c.tree 0 [] tt) }

pub certificate_again : (version : Version) (c : Certificate) (rest : List ℕ) → HasText version (listing_of c) → certificate_part (certificate_text version c ++ rest) ≡ Ok ((version, listing_of c), rest)
unfolding certificate_text
certificate_again version c rest h = certificate-part.again (version, listing_of c) rest (certificate_listed version c h)

pub certificate_whole : (version : Version) (c : Certificate) → HasText version (listing_of c) → certificate_part (certificate_text version c) ≡ Ok ((version, listing_of c), [])
certificate_whole version c h = ap certificate_part (sym (append-nil (certificate_text version c))) ∙ certificate_again version c [] h

-- ---- Reading the nodes of trees that are owed, as a loop does.
pub node_more : (size : Sizes) (front grown : List TreeNode) (most fewer owed : ℕ) (bytes rest : List ℕ) (node : TreeNode) (total : Result (List TreeNode × List ℕ) (List ℕ))
    → 0 < owed → most ≡ suc fewer → node_at size bytes ≡ Some (node, rest) → grown ≡ front ++ node ∷ []
    → behind_parts front (nodes_part size most owed bytes) ≡ total → behind_parts grown (nodes_part size fewer (owed_after (owed - 1) node) rest) ≡ total
unfolding nodes_part
node_more size front grown most fewer owed bytes rest node total some more e g so_far =
    let k : owed ≡ suc (owed - 1) = omega arith in
    let left = nodes_part size fewer (owed_after (owed - 1) node) rest in
    let one : behind_parts front (nodes_part size (suc fewer) (suc (owed - 1)) bytes) ≡ behind_parts (front ++ node ∷ []) left = rw e (regroup_parts front node left) in
    ap (λ nodes. behind_parts nodes left) g ∙ sym one ∙ sym (λ i. behind_parts front (nodes_part size (more i) (k i) bytes)) ∙ so_far

pub no_node : (size : Sizes) (front : List TreeNode) (most owed : ℕ) (bytes : List ℕ) (total : Result (List TreeNode × List ℕ) (List ℕ))
    → 0 < owed → node_at size bytes ≡ None → behind_parts front (nodes_part size most owed bytes) ≡ total → total ≡ Err bytes
unfolding nodes_part
no_node size front most zero bytes total some e so_far = absurd (omega arith)
no_node size front zero (suc others) bytes total some e so_far = sym so_far
no_node size front (suc fewer) (suc others) bytes total some e so_far =
    let one : behind_parts front (nodes_part size (suc fewer) (suc others) bytes) ≡ Err bytes = rw e refl in
    sym so_far ∙ one

pub nodes_done : (size : Sizes) (front : List TreeNode) (most owed : ℕ) (bytes : List ℕ) (total : Result (List TreeNode × List ℕ) (List ℕ))
    → owed ≤ 0 → behind_parts front (nodes_part size most owed bytes) ≡ total → total ≡ Ok (front, bytes)
unfolding nodes_part
nodes_done size front most zero bytes total none so_far = sym so_far ∙ ap (λ (xs : List TreeNode). Ok (xs, bytes)) (append-nil front)
nodes_done size front most (suc others) bytes total none so_far = absurd (omega arith)

pub node_shorter : (size : Sizes) → AreSizes size → (bytes rest : List ℕ) (node : TreeNode) → node_at size bytes ≡ Some (node, rest) → length rest + 2 ≤ length bytes
node_shorter size lawful bytes rest node e =
    let parts = ((node-form size lawful).takes bytes (node, rest) e).1 in
    omega (arith, line_long node, ap length parts, length-append (node_line node) rest)

pub owed_few : (others : ℕ) (node : TreeNode) → owed_after others node ≤ others + 2
owed_few others (LeafNode leaf) = omega arith
owed_few others (SplitNode g t) = omega arith
