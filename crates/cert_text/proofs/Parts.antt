-- The parts in which a certificate is written are its lines.
use Rattle.std.proofs.Common.{◌≡◌, ℕ, List, [], ◌∷◌, ◌++◌, length, map, refl, ap, ◌∙◌, sym, append_assoc, Bool, Option, Some, None, zero, suc, ◌<◌, cond, get_or, arith, ◌^◌, true, false, All, ℤ, eq-eqb, ne_eqb, IfSome, ◌||◌}
use Rattle.std.specs.List.{flat_map, list_any}
use mathlib.Core.Bool.{or-true}
use Rattle.dual_model.specs.Prelude.{WrittenSchedule, Certificate, CertificateHolds, ClaimHolds, map_leaves, Tree, Ends, Splits, root, child, IsCoverBelow, IsCover, EachLeaf, Leaf, Bound, Ray, Empty, IsExcluded, LeafHolds, IsLawfulTable}
use Rattle.branch_tree.specs.Prelude.{IsWhole, place_of, certificate_of, leaf_claim, written_tables, written_of, NumberedTree, EndAt, SplitAt, IsNumbered, unnumbered, numbers, spot_at, tree_bound}
use Rattle.outside.specs.Lines.{joined}
use Rattle.outside.proofs.Joining.{joined-cons, joined-append, joined-map}
use Rattle.table_list.specs.Changes.{table_changes}
use Rattle.cert_text.specs.CertificateText.{Version, Second, Third, written_version, written_text, is_exact_node, is_divided, told_from, Listing, preorder, node_line, SplitNode, TreeNode, IsLeafWithin, IsNodeWithin, Table, Printed, certificate_lines, certificate_text, has_price, shortage_lines, schedule_lines, plan_lines, table_lines, next_lines, told_lines, tables_lines, version_line, size_line, claim_line, end_line, listing_of}
use Rattle.cert_text.specs.Reading.{node_of, listing_read}
use Rattle.cert_text.specs.declared.cert.CertNode.{CertNode}
use Rattle.cert_text.specs.inside.WrittenParts.{Found, Instance, Spot, Cert, penalty_part, shortages_part, schedule_part, table_part, next_part, told_part, tables_part, certificate_parts, found_text, read_text, spot_node}
use Rattle.std.specs.Option.{option_map_or}
use Rattle.std.proofs.lemmas.List.Concat.{flat_map-append}
use Rattle.std.proofs.lemmas.List.Folds.{flat_map-map, list_any-append, list_any_at}
use Rattle.branch_tree.proofs.Preorder.{IsPart, off_side, on_side, part_spot, length-each_once, length-stored_tables}
use Rattle.std.proofs.lemmas.Int.{ints}
use Rattle.std.proofs.lemmas.List.Elements.{All-cons, All-append}
use Rattle.std.proofs.lemmas.List.{length-map}
use Rattle.std.proofs.lemmas.Option.{slice_get_within}
use Rattle.uc_model.specs.Prelude.{IsLawfulInstance, thermal_count, renewable_count}
use Rattle.dual_model.specs.declared.node.Node.{Node}
use Rattle.cert_text.specs.TextConditions.{IsMoney, IsTableText, IsScheduleText, HasText, HasWrittenText}

shortages-part : (priced : Bool) (printed : Printed) → joined (shortage_lines priced printed) ≡ shortages_part priced printed
shortages-part false printed = refl
shortages-part true printed = refl

schedule-part : (priced : Bool) (schedule : Option WrittenSchedule) → joined (schedule_lines priced schedule) ≡ schedule_part priced schedule
schedule-part priced None = refl
schedule-part priced (Some written) = grind (arith, ints, joined-cons, joined-append, joined-map, shortages-part, written)

plan-part : (a b : ℕ) (schedule : Option WrittenSchedule) → joined (plan_lines a b schedule) ≡ penalty_part a b ++ schedule_part (has_price a b) schedule
plan-part a b schedule = grind (arith, ints, joined-cons, schedule-part)

table-part : (table : Table) → joined (table_lines table) ≡ table_part table
table-part table = grind (arith, ints, joined-cons, joined-map)

-- of a table that is told by its difference to another one: its changes are those of demand, of reserve and of ramps
next-part : (before table : Table) → joined (next_lines table.k (table_changes before table)) ≡ next_part before table
next-part before table = grind (arith, ints, joined-cons, joined-map, flat_map-append, flat_map-map)

told-part : (before : Option Table) (table : Table) → joined (told_lines before table) ≡ told_part before table
told-part None table = table-part table
told-part (Some before) table = next-part before table

-- in both versions in which certificates are written a table is told by its difference to the one before it
told-from : (exact : Bool) (before : Option Table) → told_from (cond exact Third Second) before ≡ before
told-from false before = refl
told-from true before = refl

tables-part : (exact : Bool) (before : Option Table) (tables : List Table) → joined (tables_lines (cond exact Third Second) before tables) ≡ tables_part before tables
tables-part exact before [] = refl
tables-part exact before (table ∷ tables) =
    let told = told_lines (told_from (cond exact Third Second) before) table in
    joined-append told (tables_lines (cond exact Third Second) (Some table) tables)
    ∙ (λ i. (ap (λ before. joined (told_lines before table)) (told-from exact before) ∙ told-part before table) i ++ tables-part exact (Some table) tables i)

parts-are-lines : (c : Listing) → certificate_parts c ≡ joined (certificate_lines (written_version c) c)
unfolding certificate_lines certificate_parts
parts-are-lines c =
    let third = list_any is_exact_node c.nodes || is_divided c.schedule in
    let nodes = map node_line c.nodes in
    let tables = tables_lines (written_version c) None c.tables in
    let last = joined-append nodes (end_line ∷ []) ∙ ap (λ text. text ++ end_line) (joined-map node_line c.nodes) in
    let lower = joined-append tables (nodes ++ end_line ∷ []) ∙ (λ i. tables-part third None c.tables i ++ last i) in
    let plan = plan_lines c.a c.b c.schedule in
    let body = joined-append plan (tables ++ (nodes ++ end_line ∷ [])) ∙ ((λ i. plan-part c.a c.b c.schedule i ++ lower i)
    ∙ append_assoc (penalty_part c.a c.b) (schedule_part (has_price c.a c.b) c.schedule) (tables_part None c.tables ++ (flat_map node_line c.nodes ++ end_line))) in
    simp append_assoc (sym (ap (λ text. version_line (written_version c) ++ (size_line c.periods c.thermal c.renewable (length c.tables) ++ text))
    (joined-cons (claim_line c.bound) (plan ++ (tables ++ (nodes ++ end_line ∷ [])))
    ∙ ap (λ text. claim_line c.bound ++ text) body)))

pub found_is_text : (instance : Instance) (found : Found) → found_text instance found ≡ written_text (certificate_of instance found)
unfolding found_text certificate_text
found_is_text instance found = parts-are-lines (listing_of (certificate_of instance found))

-- of what was read, for each certificate that has its listing
pub read_is_text : (cert : Cert) (c : Certificate) → listing_of c ≡ listing_read cert → read_text cert ≡ written_text c
unfolding read_text certificate_text
read_is_text cert c listed =
    parts-are-lines (listing_read cert) ∙ ap (λ listing. joined (certificate_lines (written_version listing) listing)) (sym listed)

-- ---- The lines of the nodes in preorder are those of the tree.
-- the line of what stands there
abbrev pub spot_line : List ℕ → Spot → List ℕ
spot_line used stands = node_line (spot_node used stands)

-- the line of the node of that number
abbrev pub line_at : List ℕ → NumberedTree → ℕ → List ℕ
line_at used whole number = option_map_or (spot_line used) (spot_at whole number) []

pub lines_listed : (used : List ℕ) (whole tree : NumberedTree) → IsNumbered whole → IsPart whole tree
    → flat_map (line_at used whole) (numbers tree) ≡ flat_map node_line (preorder (map_leaves (leaf_claim used) (unnumbered tree)))
lines_listed used whole (EndAt number leaf) numbered part = grind (arith, ints, number, leaf, numbered, part)
lines_listed used whole (SplitAt number g t off on) numbered part =
    let left = lines_listed used whole off numbered (off_side whole number g t off on numbered part) in
    let right = lines_listed used whole on numbered (on_side whole number g t off on numbered part) in
    let off_nodes = preorder (map_leaves (leaf_claim used) (unnumbered off)) in
    let on_nodes = preorder (map_leaves (leaf_claim used) (unnumbered on)) in
    let first = node_line (SplitNode g t) in
    (λ i. option_map_or (spot_line used) (part_spot whole (SplitAt number g t off on) part i) []
    ++ flat_map-append (line_at used whole) (numbers off) (numbers on) i)
    ∙ ((λ i. first ++ (left i ++ right i)) ∙ ap (λ rest. first ++ rest) (sym (flat_map-append node_line off_nodes on_nodes)))

-- ---- Whether some leaf claims by exact values.
abbrev pub exact_at : List ℕ → NumberedTree → ℕ → Bool
exact_at used whole number = option_map_or (λ stands. is_exact_node (spot_node used stands)) (spot_at whole number) false

pub exact_listed : (used : List ℕ) (whole tree : NumberedTree) → IsNumbered whole → IsPart whole tree
    → list_any (exact_at used whole) (numbers tree) ≡ list_any is_exact_node (preorder (map_leaves (leaf_claim used) (unnumbered tree)))
exact_listed used whole (EndAt number leaf) numbered part = grind (arith, ints, number, leaf, numbered, part)
exact_listed used whole (SplitAt number g t off on) numbered part =
    let left = exact_listed used whole off numbered (off_side whole number g t off on numbered part) in
    let right = exact_listed used whole on numbered (on_side whole number g t off on numbered part) in
    let off_nodes = preorder (map_leaves (leaf_claim used) (unnumbered off)) in
    let on_nodes = preorder (map_leaves (leaf_claim used) (unnumbered on)) in
    (λ i. option_map_or (λ stands. is_exact_node (spot_node used stands)) (part_spot whole (SplitAt number g t off on) part i) false
    || list_any-append (exact_at used whole) (numbers off) (numbers on) i)
    ∙ ((λ i. left i || right i) ∙ sym (list_any-append is_exact_node off_nodes on_nodes))

-- the same of nodes that were read
pub exact_mapped : (nodes : List CertNode) → list_any (λ node. is_exact_node (node_of node)) nodes ≡ list_any is_exact_node (map node_of nodes)
exact_mapped [] = refl
exact_mapped (node ∷ nodes) = ap (λ b. is_exact_node (node_of node) || b) (exact_mapped nodes)

-- the place of a table that was found behind others, and of one that wasn't
pub place_found : (used : List ℕ) (table place : ℕ) → place < length used → get_or used place 0 ≡ table
    → ((k : ℕ) → k < place → get_or used k 0 ≡ table → ⊥) → place_of used table ≡ place
place_found [] table place within is others = absurd (omega arith)
place_found (first ∷ used) table zero within is others = ap (λ b. cond b 0 (suc (place_of used table))) (eq-eqb first table is)
place_found (first ∷ used) table (suc place) within is others =
    ap (λ b. cond b 0 (suc (place_of used table))) (ne_eqb first table (others 0 (omega arith)))
    ∙ ap suc (place_found used table place (omega arith) is (λ k l. others (suc k) (omega arith)))

pub place_past : (used : List ℕ) (table : ℕ) → ((k : ℕ) → k < length used → get_or used k 0 ≡ table → ⊥)
    → place_of used table ≡ length used
place_past [] table others = refl
place_past (first ∷ used) table others =
    ap (λ b. cond b 0 (suc (place_of used table))) (ne_eqb first table (others 0 (omega arith)))
    ∙ ap suc (place_past used table (λ k l. others (suc k) (omega arith)))

-- ---- When the certificate of a found answer has a text.
-- a leaf that is excluded, or that holds for a bound, names a table that is listed, or a unit that there is
excluded-within : (instance : Instance) (tables : List Table) (node : Node) (leaf : Leaf) → IsExcluded instance tables node leaf
    → IsLeafWithin (thermal_count instance) (length tables) leaf
excluded-within instance tables node (Bound exact number) h = absurd h
excluded-within instance tables node (Ray exact number) h = slice_get_within tables number h.table h.is_table
excluded-within instance tables node (Empty exact g) h = h.0

holds-within : (instance : Instance) (tables : List Table) (b : ℤ) (node : Node) (leaf : Leaf) → LeafHolds instance tables b node leaf
    → IsLeafWithin (thermal_count instance) (length tables) leaf
holds-within instance tables b node (Bound exact number) h = slice_get_within tables number h.table h.is_table
holds-within instance tables b node (Ray exact number) h = excluded-within instance tables node (Ray exact number) h
holds-within instance tables b node (Empty exact g) h = excluded-within instance tables node (Empty exact g) h

-- so do all nodes of a cover whose leaves claim so
nodes-within : (instance : Instance) (tables : List Table) (P : Node → Leaf → Type 0)
    → ((node : Node) (leaf : Leaf) → P node leaf → IsLeafWithin (thermal_count instance) (length tables) leaf)
    → (node : Node) (tree : Tree Leaf) → IsCoverBelow instance node tree → EachLeaf P node tree
    → All (IsNodeWithin instance.periods (thermal_count instance) (length tables)) (preorder tree)
nodes-within instance tables P within node (Ends leaf) cover each = grind (arith, ints, within, cover, each)
nodes-within instance tables P within node (Splits g t off on) cover each =
    let Within : TreeNode → Type 0 = IsNodeWithin instance.periods (thermal_count instance) (length tables) in
    All-cons Within (SplitNode g t) (preorder off ++ preorder on) (cover.0.unit, cover.0.period)
    (All-append Within (preorder off) (preorder on)
    (nodes-within instance tables P within (child node g t false) off cover.2 each.0)
    (nodes-within instance tables P within (child node g t true) on cover.3 each.1))

claimed-within : (instance : Instance) (c : Certificate) (bound : Option ℤ) → IsCover instance c.tree → ClaimHolds instance c bound
    → All (IsNodeWithin instance.periods (thermal_count instance) (length c.tables)) (preorder c.tree)
claimed-within instance c (Some b) cover claim =
    nodes-within instance c.tables (LeafHolds instance c.tables b) (holds-within instance c.tables b) root c.tree cover claim.1
claimed-within instance c None cover claim =
    nodes-within instance c.tables (IsExcluded instance c.tables) (excluded-within instance c.tables) root c.tree cover claim.1

-- where a node claims by exact values, or the schedule has a denominator, the version in which they are written is the third
exact-written : (nodes : List TreeNode) (divided : Bool) (k : ℕ) (d : TreeNode) → k < length nodes → is_exact_node (get_or nodes k d) ≡ true
    → cond (list_any is_exact_node nodes || divided) Third Second ≡ Third
exact-written nodes divided k d within exact = ap (λ (b : Bool). cond (b || divided) Third Second) (list_any_at is_exact_node nodes k d within exact)

divided-written : (exact divided : Bool) → divided ≡ true → cond (exact || divided) Third Second ≡ Third
divided-written exact divided e = ap (λ (b : Bool). cond (exact || b) Third Second) e ∙ ap (λ (b : Bool). cond b Third Second) (or-true exact)

-- a schedule that has a text in some version has one in each in which its denominator stands
restated : (version other : Version) (priced : Bool) (periods thermal renewable : ℕ) (schedule : Option WrittenSchedule) → (is_divided schedule ≡ true → other ≡ Third)
    → IfSome schedule (IsScheduleText version priced periods thermal renewable) → IfSome schedule (IsScheduleText other priced periods thermal renewable)
restated version other priced periods thermal renewable None third h = tt
restated version other priced periods thermal renewable (Some written) third h = grind (arith, ints, written, third, h)

-- a certificate that has a text in some version has one in the version in which it is written
pub written_text_is : (version : Version) (c : Certificate) → HasText version (listing_of c) → HasWrittenText c
written_text_is version c h = grind (arith, ints, restated, divided-written, exact-written, h)

-- a lawful table whose rows can be counted has a text
lawful-table-text : (instance : Instance) (table : Table) → IsLawfulTable instance table → length table.ramps < 10 ^ 18
    → IsTableText instance.periods (thermal_count instance) table
lawful-table-text instance table h few = grind (arith, ints, h, few)

-- the tables of a whole tree can be counted
few-tables : (instance : Instance) (found : Found) → IsWhole found.tree → length (written_tables found) < 2 ^ 32
few-tables instance found whole = grind (arith, ints, length-map, length-each_once, length-stored_tables, whole)

pub found_has_text : (version : Version) (instance : Instance) (found : Found) → IsLawfulInstance instance → IsWhole found.tree
    → CertificateHolds instance (certificate_of instance found)
    → IfSome (written_of found.schedule) (IsScheduleText version (has_price instance.a instance.b) instance.periods (thermal_count instance) (renewable_count instance))
    → IfSome (tree_bound found.tree) IsMoney
    → All (λ table. length table.ramps < 10 ^ 18) (written_tables found)
    → HasWrittenText (certificate_of instance found)
found_has_text version instance found lawful whole holds schedule bound few =
    grind (arith, ints, claimed-within, few-tables, restated, divided-written, lawful-table-text, exact-written, lawful, whole, holds, bound, few)
