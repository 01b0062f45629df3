-- The nodes in preorder: the walk that finds their numbers, what stands at them, and the tables that are used along them.
use mathlib.Core.Bool.{or-true, or-false}
use Rattle.std.proofs.Common.{◌≡◌, ℕ, ◌<◌, ◌≤◌, true, false, All, List, [], ◌∷◌, ◌++◌, length, map, reverse, refl, ap, sym, ◌∙◌, subst, arith, ⊎_elim, Option, Some, append_assoc, append-nil, length-append, suc, ◌+◌, Bool, not, ◌||◌, cond, set, get_or, drop, length-set, ◌==◌, filter}
use Rattle.std.specs.Option.{option_map, option_map_or}
use Rattle.std.specs.List.{flat_map, list_any}
use Rattle.std.proofs.lemmas.Bool.{cases_lt, cases_eq, cases_Bool, eq-eqb, ne_eqb}
use Rattle.std.proofs.lemmas.List.{length-reverse, reverse-append, same_from_push, get_or-set_same, get_or-set_other, get_or_at, drop_more}
use Rattle.std.proofs.lemmas.List.Elements.{All-nil, All-cons, All-append, filter-append}
use Rattle.std.proofs.lemmas.Option.{same_Some}
use Rattle.std.proofs.lemmas.List.Concat.{flat_map-append}
use Rattle.std.proofs.lemmas.List.Folds.{list_any-append}
use Rattle.dual_model.specs.Prelude.{root}
use Rattle.branch_tree.specs.NumberedTree.{Node, Spot, NumberedTree, EndAt, SplitAt, Subtree, IsNumbered, number_of, spot_of, children_of, numbers, node_count, subtree_at, spot_at, Leaf, unnumbered}
use Rattle.branch_tree.specs.declared.tree.Spot.TheVariants as spot
use Rattle.branch_tree.specs.UsedTables.{leaves, leaf_tables, spot_tables, stored_tables, each_once}
use Rattle.branch_tree.specs.declared.tree.Leaf.TheVariants as leaf
use Rattle.branch_tree.proofs.Subtrees.{AreApart, part_counted, at_root, children_hang}

pub numbered_apart : (tree : NumberedTree) → IsNumbered tree → AreApart tree
numbered_apart tree numbered number = grind (arith, numbered, number)

-- the tree is a part of the whole
pub record IsPart (whole tree : NumberedTree) : Type 0 where
  pub node : Node
  pub hangs : subtree_at whole (number_of tree) ≡ Some (record { node = node; tree = tree })

pub whole_part : (whole : NumberedTree) → IsPart whole whole
whole_part whole = record { node = root; hangs = at_root root whole }

pub off_side : (whole : NumberedTree) (number g t : ℕ) (off on : NumberedTree) → IsNumbered whole
    → IsPart whole (SplitAt number g t off on) → IsPart whole off
off_side whole number g t off on numbered part = grind (arith, children_hang, numbered_apart, numbered, part)

pub on_side : (whole : NumberedTree) (number g t : ℕ) (off on : NumberedTree) → IsNumbered whole
    → IsPart whole (SplitAt number g t off on) → IsPart whole on
on_side whole number g t off on numbered part = grind (arith, children_hang, numbered_apart, numbered, part)

-- its number is one of a node, at which its root stands
pub part_within : (whole tree : NumberedTree) → IsNumbered whole → IsPart whole tree → number_of tree < node_count whole
part_within whole tree numbered part = grind (arith, part_counted, cases_lt, numbered, part)

pub part_spot : (whole tree : NumberedTree) → IsPart whole tree → spot_at whole (number_of tree) ≡ Some (spot_of tree)
part_spot whole tree part = ap (λ (o : Option Subtree). option_map (λ (p : Subtree). spot_of p.tree) o) part.hangs

-- ---- what stands at the nodes in preorder

pub numbers_within : (whole tree : NumberedTree) → IsNumbered whole → IsPart whole tree → All (λ number. number < node_count whole) (numbers tree)
numbers_within whole (EndAt number leaf) numbered part =
    All-cons (λ n. n < node_count whole) number [] (part_within whole (EndAt number leaf) numbered part) (All-nil (λ n. n < node_count whole))
numbers_within whole (SplitAt number g t off on) numbered part =
    All-cons (λ n. n < node_count whole) number (numbers off ++ numbers on) (part_within whole (SplitAt number g t off on) numbered part)
    (All-append (λ n. n < node_count whole) (numbers off) (numbers on)
    (numbers_within whole off numbered (off_side whole number g t off on numbered part))
    (numbers_within whole on numbered (on_side whole number g t off on numbered part)))

pub length-numbers : (tree : NumberedTree) → length (numbers tree) ≡ node_count tree
length-numbers (EndAt number leaf) = refl
length-numbers (SplitAt number g t off on) = grind (arith, length-append, number, g, t, off, on, (length-numbers off), (length-numbers on))

-- ---- the walk
-- each of the trees is a part of the whole
abbrev pub AreParts : NumberedTree → List NumberedTree → Type 0
AreParts whole [] = Unit {0}
AreParts whole (tree ∷ trees) = IsPart whole tree × AreParts whole trees

-- what is still to be walked, the next one last, and what has been
pub record IsWalked (whole : NumberedTree) (pending found : List ℕ) : Type 0 where
  pub trees : List NumberedTree
  pub parts : AreParts whole trees
  pub to_walk : pending ≡ reverse (map number_of trees)
  pub walked : found ++ flat_map numbers trees ≡ numbers whole

pub walk_begins : (whole : NumberedTree) → IsNumbered whole → IsWalked whole (0 ∷ []) []
walk_begins whole numbered = record {
  trees = whole ∷ [];
  parts = (whole_part whole, tt);
  to_walk = ap (λ n. n ∷ []) (sym numbered.root);
  walked = append-nil (numbers whole);
}

pub walk_ends : (whole : NumberedTree) (pending found : List ℕ) → IsWalked whole pending found → pending ≡ [] → found ≡ numbers whole
walk_ends whole pending found walk none = no_trees walk.trees walk.to_walk walk.walked
  where
    no_trees : (trees : List NumberedTree) → pending ≡ reverse (map number_of trees) → found ++ flat_map numbers trees ≡ numbers whole
        → found ≡ numbers whole
    no_trees [] is walked = sym (append-nil found) ∙ walked
    no_trees (tree ∷ trees) is walked =
        absurd (omega (arith, ap length (sym none ∙ is), length-reverse (number_of tree ∷ map number_of trees)))

-- the next number is that of a part, which the others follow
pub record IsNext (whole : NumberedTree) (number : ℕ) (rest found : List ℕ) : Type 0 where
  pub tree : NumberedTree
  pub part : IsPart whole tree
  pub is_number : number_of tree ≡ number
  pub trees : List NumberedTree
  pub parts : AreParts whole trees
  pub to_walk : rest ≡ reverse (map number_of trees)
  pub walked : found ++ (numbers tree ++ flat_map numbers trees) ≡ numbers whole

pub walk_next : (whole : NumberedTree) (pending found rest : List ℕ) (number : ℕ) → IsWalked whole pending found
    → pending ≡ rest ++ number ∷ [] → IsNext whole number rest found
walk_next whole pending found rest number walk popped = first walk.trees walk.parts walk.to_walk walk.walked
  where
    first : (trees : List NumberedTree) → AreParts whole trees → pending ≡ reverse (map number_of trees)
        → found ++ flat_map numbers trees ≡ numbers whole → IsNext whole number rest found
    first [] parts is walked = absurd (omega (arith, ap length (sym popped ∙ is), length-append rest (number ∷ [])))
    first (tree ∷ trees) parts is walked =
        let both = same_from_push (reverse (map number_of trees)) rest (number_of tree) number
        (sym (reverse-append (number_of tree ∷ []) (map number_of trees)) ∙ (sym is ∙ popped)) in
        record { tree = tree; part = parts.0; is_number = both.1; trees = trees; parts = parts.1; to_walk = sym both.0; walked = walked }

-- fewer nodes were found than there are
pub next_within : (whole : NumberedTree) (number : ℕ) (rest found : List ℕ) → IsNext whole number rest found → length found < node_count whole
next_within whole number rest found next =
    let own = ap length next.walked in
    let some = length-numbers next.tree in
    omega (
      arith,
      length-append found (numbers next.tree ++ flat_map numbers next.trees),
      length-append (numbers next.tree) (flat_map numbers next.trees),
      length-numbers whole,
      some,
      one_node next.tree,
    )
  where
    one_node : (tree : NumberedTree) → 1 ≤ node_count tree
    one_node (EndAt n leaf) = omega arith
    one_node (SplitAt n g t off on) = omega arith

-- what is to be walked of a node: the children of a split, the off-child last
pub walk_on : (whole : NumberedTree) (number : ℕ) (rest found : List ℕ) (stands : Spot) → IsNumbered whole → IsNext whole number rest found
    → spot_at whole number ≡ Some stands → IsWalked whole (rest ++ children_of stands) (found ++ number ∷ [])
walk_on whole number rest found stands numbered next is_spot = of_tree next.tree next.part next.is_number next.walked
  where
    later : List ℕ
    later = flat_map numbers next.trees

    of_tree : (tree : NumberedTree) → IsPart whole tree → number_of tree ≡ number → found ++ (numbers tree ++ later) ≡ numbers whole
        → IsWalked whole (rest ++ children_of stands) (found ++ number ∷ [])
    of_tree (EndAt n l) part is walked =
        let same : stands ≡ spot.Leaf l =
        same_Some stands (spot.Leaf l) (sym is_spot ∙ (ap (spot_at whole) (sym is) ∙ part_spot whole (EndAt n l) part)) in
        record {
          trees = next.trees;
          parts = next.parts;
          to_walk = ap (λ s. rest ++ children_of s) same ∙ (append-nil rest ∙ next.to_walk);
          walked = append_assoc found (number ∷ []) later ∙ (ap (λ m. found ++ (m ∷ later)) (sym is) ∙ walked);
        }
    of_tree (SplitAt n g t off on) part is walked =
        let trees = next.trees in
        let same : stands ≡ spot.Inner g t (number_of off) (number_of on) =
        same_Some stands (spot.Inner g t (number_of off) (number_of on))
        (sym is_spot ∙ (ap (spot_at whole) (sym is) ∙ part_spot whole (SplitAt n g t off on) part)) in
        record {
          trees = off ∷ (on ∷ trees);
          parts = (off_side whole n g t off on numbered part, (on_side whole n g t off on numbered part, next.parts));
          to_walk = ap (λ s. rest ++ children_of s) same
              ∙ (ap (λ r. r ++ number_of on ∷ number_of off ∷ []) next.to_walk
              ∙ sym (reverse-append (number_of off ∷ number_of on ∷ []) (map number_of trees)));
          walked = grind (arith, append_assoc, found, number);
        }

pub next_node : (whole : NumberedTree) (number : ℕ) (rest found : List ℕ) → IsNumbered whole → IsNext whole number rest found
    → number < node_count whole
next_node whole number rest found numbered next = grind (arith, part_within, numbered, next)

-- ---- The tables that a tree uses, found along its nodes in preorder.
-- ---- the tables along the nodes
abbrev pub tables_at : NumberedTree → ℕ → List ℕ
tables_at whole number = option_map_or spot_tables (spot_at whole number) []

pub tables_listed : (whole tree : NumberedTree) → IsNumbered whole → IsPart whole tree
    → flat_map (tables_at whole) (numbers tree) ≡ stored_tables (unnumbered tree)
tables_listed whole (EndAt number leaf) numbered part = grind (arith, number, leaf, numbered, part)
tables_listed whole (SplitAt number g t off on) numbered part =
    let left = tables_listed whole off numbered (off_side whole number g t off on numbered part) in
    let right = tables_listed whole on numbered (on_side whole number g t off on numbered part) in
    (λ i. option_map_or spot_tables (part_spot whole (SplitAt number g t off on) part i) []
    ++ flat_map-append (tables_at whole) (numbers off) (numbers on) i)
    ∙ ((λ i. left i ++ right i) ∙ sym (flat_map-append leaf_tables (leaves (unnumbered off)) (leaves (unnumbered on))))

-- ---- each number once
abbrev pub is_among : List ℕ → ℕ → Bool
is_among numbers number = list_any (λ other. other == number) numbers

abbrev pub unlike : ℕ → ℕ → Bool
unlike number other = not (other == number)

-- a number more is listed where it isn't among them
pub each_once-push : (numbers : List ℕ) (number : ℕ)
    → each_once (numbers ++ number ∷ []) ≡ cond (is_among numbers number) (each_once numbers) (each_once numbers ++ number ∷ [])
each_once-push [] number = refl
each_once-push (first ∷ numbers) number =
    let later = each_once numbers in
    let one = each_once-push numbers number in
    ⊎_elim
    (λ (among : is_among numbers number ≡ true).
    let any : is_among (first ∷ numbers) number ≡ true = ap (λ b. (first == number) || b) among ∙ or-true (first == number) in
    ap (λ rest. first ∷ filter (unlike first) rest) (one ∙ ap (λ b. cond b later (later ++ number ∷ [])) among)
    ∙ sym (ap (λ b. cond b (first ∷ filter (unlike first) later) ((first ∷ filter (unlike first) later) ++ number ∷ [])) any))
    (λ (new : is_among numbers number ≡ false).
    let grown : first ∷ filter (unlike first) (each_once (numbers ++ number ∷ [])) ≡ first ∷ (filter (unlike first) later ++ filter (unlike first) (number ∷ [])) =
    ap (λ rest. first ∷ filter (unlike first) rest) (one ∙ ap (λ b. cond b later (later ++ number ∷ [])) new)
    ∙ ap (λ rest. first ∷ rest) (filter-append (unlike first) later (number ∷ [])) in
    ⊎_elim
    (λ (same : first ≡ number).
    let any : is_among (first ∷ numbers) number ≡ true = ap (λ b. b || is_among numbers number) (eq-eqb first number same) in
    let out : filter (unlike first) (number ∷ []) ≡ [] = ap (λ b. cond (not b) (number ∷ []) []) (eq-eqb number first (sym same)) in
    grown ∙ (ap (λ rest. first ∷ (filter (unlike first) later ++ rest)) out ∙ (ap (λ rest. first ∷ rest) (append-nil (filter (unlike first) later))
    ∙ sym (ap (λ b. cond b (first ∷ filter (unlike first) later) ((first ∷ filter (unlike first) later) ++ number ∷ [])) any))))
    (λ (differ : first ≡ number → ⊥).
    let any : is_among (first ∷ numbers) number ≡ false =
    ap (λ b. b || is_among numbers number) (ne_eqb first number differ) ∙ new in
    let kept : filter (unlike first) (number ∷ []) ≡ number ∷ [] =
    ap (λ b. cond (not b) (number ∷ []) []) (ne_eqb number first (λ e. differ (sym e))) in
    grown ∙ (ap (λ rest. first ∷ (filter (unlike first) later ++ rest)) kept
    ∙ sym (ap (λ b. cond b (first ∷ filter (unlike first) later) ((first ∷ filter (unlike first) later) ++ number ∷ [])) any)))
    (cases_eq first number))
    (cases_Bool (is_among numbers number))

-- what holds of all numbers holds of each once
All-filter : (P : ℕ → Type 0) (test : ℕ → Bool) (numbers : List ℕ) → All P numbers → All P (filter test numbers)
All-filter P test [] h = All-nil P
All-filter P test (number ∷ numbers) h =
    let tail : All P numbers = λ k d l. h (suc k) d (omega arith) in
    let rest = All-filter P test numbers tail in
    let head : P number = h 0 number (omega arith) in
    ⊎_elim
    (λ (e : test number ≡ true). subst (λ b. All P (cond b (number ∷ filter test numbers) (filter test numbers))) (sym e) (All-cons P number (filter test numbers) head rest))
    (λ (e : test number ≡ false). subst (λ b. All P (cond b (number ∷ filter test numbers) (filter test numbers))) (sym e) rest)
    (cases_Bool (test number))

pub All-each_once : (P : ℕ → Type 0) (numbers : List ℕ) → All P numbers → All P (each_once numbers)
All-each_once P [] h = All-nil P
All-each_once P (number ∷ numbers) h =
    let tail : All P numbers = λ k d l. h (suc k) d (omega arith) in
    All-cons P number (filter (unlike number) (each_once numbers)) (h 0 number (omega arith))
    (All-filter P (unlike number) (each_once numbers) (All-each_once P numbers tail))

-- ---- so far
-- the tables of the first leaves: those used are listed, and marked among all
pub record IsUsedSoFar (stored rest used : List ℕ) (seen : List Bool) (tables : ℕ) : Type 0 where
  pub before : List ℕ
  pub parted : before ++ rest ≡ stored
  pub listed : used ≡ each_once before
  pub marked : (table : ℕ) → table < tables → get_or seen table false ≡ is_among before table
  pub marks : length seen ≡ tables

pub used_begins : (stored : List ℕ) (seen : List Bool) (tables : ℕ) → length seen ≡ tables
    → ((table : ℕ) → table < tables → get_or seen table false ≡ false) → IsUsedSoFar stored stored [] seen tables
used_begins stored seen tables marks none = record { before = []; parted = refl; listed = refl; marked = none; marks = marks }

-- the next table is one of the list
pub next_table : (stored rest used : List ℕ) (seen : List Bool) (tables table : ℕ) → All (λ t. t < tables) stored
    → IsUsedSoFar stored (table ∷ rest) used seen tables → table < tables
next_table stored rest used seen tables table within so_far =
    let size = ap length so_far.parted in
    let at : get_or stored (length so_far.before) 0 ≡ table =
    ap (λ xs. get_or xs (length so_far.before) 0) (sym so_far.parted) ∙ get_or_at so_far.before table rest 0 (length so_far.before) refl in
    subst (λ t. t < tables) at (within (length so_far.before) 0 (omega (arith, length-append so_far.before (table ∷ rest))))

-- and is noted
pub used_more : (stored rest used used' : List ℕ) (seen seen' : List Bool) (tables table : ℕ) → table < tables
    → IsUsedSoFar stored (table ∷ rest) used seen tables
    → seen' ≡ set seen table true → used' ≡ cond (get_or seen table false) used (used ++ table ∷ [])
    → IsUsedSoFar stored rest used' seen' tables
used_more stored rest used used' seen seen' tables table within so_far is_seen is_used = record {
  before = so_far.before ++ table ∷ [];
  parted = append_assoc so_far.before (table ∷ []) rest ∙ so_far.parted;
  listed = grind (arith, each_once-push, is_used, so_far, table, within);
  marked = λ other below. ap (λ xs. get_or xs other false) is_seen ∙ (mark other below ∙ sym (list_any-append (λ n. n == other) so_far.before (table ∷ [])));
  marks = ap length is_seen ∙ (length-set seen table true ∙ so_far.marks);
}
  where
    mark : (other : ℕ) → other < tables → get_or (set seen table true) other false ≡ (is_among so_far.before other || ((table == other) || false))
    mark other below = ⊎_elim
        (λ (same : table ≡ other).
        let inside : table < length seen = omega (arith, so_far.marks) in
        subst (λ n. get_or (set seen table true) n false ≡ (is_among so_far.before n || ((table == n) || false))) same
        (get_or-set_same seen table true false inside
        ∙ sym (ap (λ b. is_among so_far.before table || (b || false)) (eq-eqb table table refl) ∙ or-true (is_among so_far.before table))))
        (λ (differ : table ≡ other → ⊥).
        get_or-set_other seen table other true false (λ e. differ (sym e))
        ∙ (so_far.marked other below
        ∙ sym (ap (λ b. is_among so_far.before other || (b || false)) (ne_eqb table other differ) ∙ or-false (is_among so_far.before other))))
        (cases_eq table other)

-- the tables of the nodes from one on are those of this node and of the nodes after it
pub tables_next : (whole : NumberedTree) (nodes : List ℕ) (index : ℕ) (stands : Spot) → index < length nodes
    → spot_at whole (get_or nodes index 0) ≡ Some stands
    → flat_map (tables_at whole) (drop index nodes) ≡ spot_tables stands ++ flat_map (tables_at whole) (drop (index + 1) nodes)
tables_next whole nodes index stands within is = grind (arith, drop_more, within, is)

-- ---- how many
length-filter_le : (test : ℕ → Bool) (numbers : List ℕ) → length (filter test numbers) ≤ length numbers
length-filter_le test [] = omega arith
length-filter_le test (number ∷ numbers) =
    let rest = length-filter_le test numbers in
    ⊎_elim
    (λ (e : test number ≡ true). subst (λ b. length (cond b (number ∷ filter test numbers) (filter test numbers)) ≤ suc (length numbers)) (sym e) (omega arith))
    (λ (e : test number ≡ false). subst (λ b. length (cond b (number ∷ filter test numbers) (filter test numbers)) ≤ suc (length numbers)) (sym e) (omega arith))
    (cases_Bool (test number))

pub length-each_once : (numbers : List ℕ) → length (each_once numbers) ≤ length numbers
length-each_once [] = omega arith
length-each_once (number ∷ numbers) =
    omega (arith, length-filter_le (unlike number) (each_once numbers), length-each_once numbers)

leaf_count : (l : Leaf) → length (leaf_tables l ++ []) ≤ 1
leaf_count (leaf.Live table value exact) = omega arith
leaf_count _ = omega arith

-- a tree has no more tables than nodes
pub length-stored_tables : (tree : NumberedTree) → length (stored_tables (unnumbered tree)) ≤ node_count tree
length-stored_tables (EndAt number l) = leaf_count l
length-stored_tables (SplitAt number g t off on) =
    grind (arith, flat_map-append, length-append, number, g, t, off, on, (length-stored_tables off), (length-stored_tables on))
