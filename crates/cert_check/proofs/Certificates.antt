-- From what the steps of the check say to whether the certificate holds, and back.
use Rattle.std.proofs.Common.{◌≡◌, ℕ, ◌+◌, ◌-◌, ◌<◌, Bool, true, false, ◌||◌, refl, ap, subst, ◌∙◌, arith, List, [], ◌++◌, length, length-append, get_or, All, ℤ, Option, Some, None}
use mathlib.Core.Bool.{or-false}
use Rattle.std.specs.List.{list_any}
use Rattle.std.proofs.Math.Seq.{get_or-append_right}
use Rattle.std.proofs.lemmas.List.{get_or_append_left}
use Rattle.std.proofs.lemmas.List.Elements.{All-head, All-tail, All-cons, All-append}
use Rattle.std.proofs.lemmas.List.Folds.{list_any-append}
use Rattle.uc_model.specs.Prelude.{thermal_count}
use Rattle.dual_model.specs.Prelude.{Tree, Ends, Splits, root, child, IsCoverBelow, EachLeaf, any_leaf, Leaf, Bound, Ray, Empty, IsExcluded, is_bound, Certificate, CertificateHolds, ClaimHolds}
use Rattle.cert_text.specs.CertificateText.{TreeNode, LeafNode, SplitNode, preorder, IsNodeWithin}
use Rattle.cert_check.specs.Visits.{Instance, Node, Table, Visit, visits, IsSoundNode, IsSound}
use Rattle.cert_check.specs.Refusals.{ClaimFits, HasClaim}

-- ---- facts of each element of two lists
all-left : {A : Type 0} (P : A → Type 0) (xs ys : List A) → All P (xs ++ ys) → All P xs
all-left P xs ys all = λ k d h. subst P (get_or_append_left xs ys d k h) (all k d (omega (arith, length-append xs ys)))

all-right : {A : Type 0} (P : A → Type 0) (xs ys : List A) → All P (xs ++ ys) → All P ys
all-right P xs ys all = λ k d h.
    let same : length xs + k - length xs ≡ k = omega arith in
    subst P (get_or-append_right xs ys (length xs + k) d (omega arith) ∙ ap (λ j. get_or ys j d) same) (all (length xs + k) d (omega (arith, length-append xs ys)))

-- ---- the tree
-- some leaf is a bound exactly where some node is
abbrev pub is_bound_node : TreeNode → Bool
is_bound_node (LeafNode leaf) = is_bound leaf
is_bound_node (SplitNode g t) = false

pub any-preorder : (tree : Tree Leaf) → list_any is_bound_node (preorder tree) ≡ any_leaf is_bound tree
any-preorder (Ends leaf) = or-false (is_bound leaf)
any-preorder (Splits g t off on) = grind (arith, list_any-append, (any-preorder off), (any-preorder on))

-- what each leaf of a sound tree meets, and that its splits are those of a cover
abbrev Sound : Instance → List Table → Option ℤ → Node → Leaf → Type 0
Sound instance tables bound place leaf = IsSoundNode instance tables bound place (LeafNode leaf)

pub leaves-from : (instance : Instance) (tables : List Table) (bound : Option ℤ) (place : Node) (tree : Tree Leaf)
    → All (IsSound instance tables bound) (visits place tree) → EachLeaf (Sound instance tables bound) place tree
leaves-from instance tables bound place (Ends leaf) all = All-head (IsSound instance tables bound) (record { place = place; node = LeafNode leaf }) [] all
leaves-from instance tables bound place (Splits g t off on) all =
    let first : Visit = record { place = place; node = SplitNode g t } in
    let rest = All-tail (IsSound instance tables bound) first (visits (child place g t false) off ++ visits (child place g t true) on) all in (
      leaves-from instance tables bound (child place g t false) off (all-left (IsSound instance tables bound) (visits (child place g t false) off) (visits (child place g t true) on) rest),
      leaves-from instance tables bound (child place g t true) on (all-right (IsSound instance tables bound) (visits (child place g t false) off) (visits (child place g t true) on) rest),
    )

pub cover-from : (instance : Instance) (tables : List Table) (bound : Option ℤ) (periods thermal count : ℕ) (place : Node) (tree : Tree Leaf)
    → periods ≡ instance.periods → thermal ≡ thermal_count instance → All (IsNodeWithin periods thermal count) (preorder tree)
    → All (IsSound instance tables bound) (visits place tree) → IsCoverBelow instance place tree
cover-from instance tables bound periods thermal count place (Ends leaf) hp hg within all = tt
cover-from instance tables bound periods thermal count place (Splits g t off on) hp hg within all =
    let first : Visit = record { place = place; node = SplitNode g t } in
    let Q = IsSound instance tables bound in
    let W = IsNodeWithin periods thermal count in
    let here = All-head W (SplitNode g t) (preorder off ++ preorder on) within in
    let nodes = All-tail W (SplitNode g t) (preorder off ++ preorder on) within in
    let rest = All-tail Q first (visits (child place g t false) off ++ visits (child place g t true) on) all in (
      record { unit = subst (λ n. g < n) hg here.0; period = subst (λ n. t < n) hp here.1 },
      All-head Q first (visits (child place g t false) off ++ visits (child place g t true) on) all,
      cover-from instance tables bound periods thermal count (child place g t false) off hp hg (all-left W (preorder off) (preorder on) nodes)
          (all-left Q (visits (child place g t false) off) (visits (child place g t true) on) rest),
      cover-from instance tables bound periods thermal count (child place g t true) on hp hg (all-right W (preorder off) (preorder on) nodes)
          (all-right Q (visits (child place g t false) off) (visits (child place g t true) on) rest),
    )

-- and back
pub sound-from : (instance : Instance) (tables : List Table) (bound : Option ℤ) (place : Node) (tree : Tree Leaf)
    → IsCoverBelow instance place tree → EachLeaf (Sound instance tables bound) place tree → All (IsSound instance tables bound) (visits place tree)
sound-from instance tables bound place (Ends leaf) cover each = grind (arith, leaf, cover, each)
sound-from instance tables bound place (Splits g t off on) cover each =
    All-cons (IsSound instance tables bound) (record { place = place; node = SplitNode g t }) (visits (child place g t false) off ++ visits (child place g t true) on) cover.1
    (All-append (IsSound instance tables bound) (visits (child place g t false) off) (visits (child place g t true) on)
    (sound-from instance tables bound (child place g t false) off cover.2 each.0) (sound-from instance tables bound (child place g t true) on cover.3 each.1))

-- ---- the whole
claim-from : (instance : Instance) (c : Certificate) (bound : Option ℤ) → ClaimFits c bound → EachLeaf (Sound instance c.tables bound) root c.tree → ClaimHolds instance c bound
claim-from instance c (Some b) fits each = (fits, each)
claim-from instance c None fits each = (fits.0, each)

pub holds-from : (instance : Instance) (c : Certificate) → HasClaim instance c → All (IsNodeWithin c.periods c.thermal (length c.tables)) (preorder c.tree)
    → All (IsSound instance c.tables c.bound) (visits root c.tree) → CertificateHolds instance c
holds-from instance c has within all =
    let size = has.schedule.tables.size in
    record {
      periods = size.periods;
      thermal = size.thermal;
      renewable = size.renewable;
      penalty = (has.schedule.tables.prices.shed, has.schedule.tables.prices.short);
      tables = has.schedule.tables.tables;
      tree = cover-from instance c.tables c.bound c.periods c.thermal (length c.tables) root c.tree size.periods size.thermal within all;
      schedule = has.schedule.schedule;
      claim = claim-from instance c c.bound has.claim (leaves-from instance c.tables c.bound root c.tree all);
    }

-- no leaf of an excluded tree is a bound
no-bound : (instance : Instance) (tables : List Table) (place : Node) (tree : Tree Leaf) → EachLeaf (IsExcluded instance tables) place tree → any_leaf is_bound tree ≡ false
no-bound instance tables place (Ends (Bound exact number)) each = absurd each
no-bound instance tables place (Ends (Ray exact number)) each = refl
no-bound instance tables place (Ends (Empty exact g)) each = refl
no-bound instance tables place (Splits g t off on) each =
    (λ i. no-bound instance tables (child place g t false) off each.0 i || no-bound instance tables (child place g t true) on each.1 i)

pub fits-of : (instance : Instance) (c : Certificate) (bound : Option ℤ) → ClaimHolds instance c bound → ClaimFits c bound
fits-of instance c (Some b) claim = claim.0
fits-of instance c None claim = (claim.0, no-bound instance c.tables root c.tree claim.1)

sound-leaves : (instance : Instance) (c : Certificate) (bound : Option ℤ) → ClaimHolds instance c bound → EachLeaf (Sound instance c.tables bound) root c.tree
sound-leaves instance c (Some b) claim = claim.1
sound-leaves instance c None claim = claim.1

pub sound-of : (instance : Instance) (c : Certificate) → CertificateHolds instance c → All (IsSound instance c.tables c.bound) (visits root c.tree)
sound-of instance c holds = sound-from instance c.tables c.bound root c.tree holds.tree (sound-leaves instance c c.bound holds.claim)
