-- What a path decides of each unit, decision by decision: the commitments that agree with one decision more are those
-- that agreed and keep it.
use Rattle.std.proofs.Common.{◌≡◌, ℕ, zero, suc, ◌+◌, ◌<◌, ◌≤◌, ◌≢◌, ⊎_elim, Bool, true, false, List, [], ◌∷◌, ◌++◌, length, take, get_or, refl, sym, ap, subst, ◌∙◌, add-one, arith, get_or-set_other, get_or-set_same, ◌||◌, ◌&&◌, ◌==◌, not, All, slice_set, length-set, take_all, if◌then◌else◌}
use mathlib.Core.Bool.{and_assoc}
use Rattle.std.proofs.Math.Seq.{take-suc}
use Rattle.std.proofs.lemmas.Bool.{eq-eqb, ne_eqb, not_from_false, or_left}
use Rattle.std.proofs.lemmas.List.Folds.{list_all-append, list_any-append}
use Rattle.uc_model.specs.Prelude.{Commitment, commitment_of, thermal_count, all_below}
use Rattle.uc_model.proofs.Common.{all_below-from}
use Rattle.dual_model.specs.Prelude.{IsNodeOf, fix_agrees, keeps, keeps_of, unit_agrees, is_decided}
use Rattle.leaf_values.specs.Paths.{Fix, Fixing, Instance, AreFixesOf, DecidesOnce, IsUndecided, fix_at, node_of}

-- what the first n decisions of a path decide of unit g, by its bits and by the commitments that agree
pub record IsFixSoFar (path : List Fixing) (n g : ℕ) (fix : Fix) : Type 0 where
  pub known : (t : ℕ) → commitment_of fix.known t ≡ is_decided (node_of (take n path)) g t
  pub off : (t : ℕ) → commitment_of fix.known t ≡ false → commitment_of fix.on t ≡ false
  pub same : (periods : ℕ) → All (λ fixing. fixing.t < periods) path → (on : Commitment) →
      unit_agrees (node_of (take n path)) g on ≡ fix_agrees periods fix on

pub record AreFixesSoFar (path : List Fixing) (n : ℕ) (fixes : List Fix) : Type 0 where
  pub fix : (g : ℕ) → g < length fixes → IsFixSoFar path n g (fix_at fixes g)

-- a fix with a decision more
pub record IsFixWith (fixing : Fixing) (old new : Fix) : Type 0 where
  pub known : (t : ℕ) → commitment_of new.known t ≡ (fixing.t == t || commitment_of old.known t)
  pub on : (t : ℕ) → commitment_of new.on t ≡ (fixing.on && fixing.t == t || commitment_of old.on t)

-- ---- nothing is decided
pub undecided_so_far : (path : List Fixing) (g : ℕ) (fix : Fix) → IsUndecided fix → IsFixSoFar path 0 g fix
undecided_so_far path g fix free = grind (arith, all_below-from, or_left, not_from_false, free)

-- ---- a decision of another unit
other_any : (a b c : Bool) → b ≡ false → (a || ((b && c) || false)) ≡ a
other_any true b c e = refl
other_any false b c e = ap (λ x. (x && c) || false) e

other_all : (a b c : Bool) → b ≡ false → (a && ((not b || c) && true)) ≡ a
other_all true b c e = ap (λ x. (not x || c) && true) e
other_all false b c e = refl

-- ---- a decision of the unit
own_any : (a b c : Bool) → b ≡ true → (c || a) ≡ (a || ((b && c) || false))
own_any true b true e = refl
own_any true b false e = refl
own_any false b true e = ap (λ x. (x && true) || false) (sym e)
own_any false b false e = ap (λ x. (x && false) || false) (sym e)

own_all : (a b c : Bool) → b ≡ true → (a && ((not b || c) && true)) ≡ (a && c)
own_all true b true e = ap (λ x. (not x || true) && true) e
own_all true b false e = ap (λ x. (not x || false) && true) e
own_all false b c e = refl

still_off : (here known on kept : Bool) → (here || known) ≡ false → (known ≡ false → on ≡ false) → ((kept && here) || on) ≡ false
still_off true known on kept e h = cc
still_off false known on true e h = h e
still_off false known on false e h = h e

swap_and : (a b c : Bool) → b ≡ true → (c && a) ≡ ((b && a) && c)
swap_and true b true e = ap (λ x. (x && true) && true) (sym e)
swap_and true b false e = ap (λ x. (x && true) && false) (sym e)
swap_and false b true e = ap (λ x. (x && false) && true) (sym e)
swap_and false b false e = ap (λ x. (x && false) && false) (sym e)

all_below-same : (n : ℕ) (old new : ℕ → Bool) → ((t : ℕ) → t < n → new t ≡ old t) → all_below n new ≡ all_below n old
all_below-same zero old new e = refl
all_below-same (suc n) old new e = λ i. e n (omega arith) i && all_below-same n old new (λ t h. e t (omega arith)) i

-- a test that is stricter at one index, at which it held
all_below-with : (n k : ℕ) (old new : ℕ → Bool) → k < n → old k ≡ true → ((t : ℕ) → t ≢ k → new t ≡ old t)
    → all_below n new ≡ (all_below n old && new k)
all_below-with zero k old new h held other = absurd (omega arith)
all_below-with (suc n) k old new h held other =
    ⊎_elim
    (λ (less : k < n).
    (λ i. other n (omega arith) i && all_below-with n k old new less held other i)
    ∙ sym (and_assoc (old n) (all_below n old) (new k)))
    (λ (last : k ≡ n).
    ap (λ x. new n && x) (all_below-same n old new (λ t l. other t (omega arith)))
    ∙ swap_and (all_below n old) (old n) (new n) (subst (λ j. old j ≡ true) last held)
    ∙ ap (λ j. (old n && all_below n old) && new j) (sym last))
    (grind arith)

-- what an element behind a list adds to a test of some and to a test of all
some_more : (path : List Fixing) (fixing : Fixing) (g t : ℕ)
    → is_decided (node_of (path ++ fixing ∷ [])) g t ≡ (is_decided (node_of path) g t || (((fixing.g == g) && (fixing.t == t)) || false))
some_more path fixing g t = list_any-append (λ f. (f.g == g) && (f.t == t)) path (fixing ∷ [])

all_more : (path : List Fixing) (fixing : Fixing) (g : ℕ) (on : Commitment)
    → unit_agrees (node_of (path ++ fixing ∷ [])) g on ≡ (unit_agrees (node_of path) g on && ((not (fixing.g == g) || keeps fixing on) && true))
all_more path fixing g on = list_all-append (keeps_of g on) path (fixing ∷ [])

-- a period's part of the test whether a pattern is as the fix decides
abbrev fits : Fix → Commitment → ℕ → Bool
fits fix on t = not (commitment_of fix.known t) || (if commitment_of fix.on t then on t else not (on t))

fits-undecided : (fix : Fix) (on : Commitment) (t : ℕ) → commitment_of fix.known t ≡ false → fits fix on t ≡ true
fits-undecided fix on t e = or_left _ _ (not_from_false _ e)

fits-here : (fixing : Fixing) (old new : Fix) (on : Commitment) → IsFixWith fixing old new → commitment_of old.on fixing.t ≡ false
    → fits new on fixing.t ≡ keeps fixing on
fits-here fixing old new on with off = grind (arith, with, off)

fits-elsewhere : (fixing : Fixing) (old new : Fix) (on : Commitment) (t : ℕ) → IsFixWith fixing old new → t ≢ fixing.t
    → fits new on t ≡ fits old on t
fits-elsewhere fixing old new on t with other = grind (arith, with, other)

agrees-with : (periods : ℕ) (fixing : Fixing) (old new : Fix) (on : Commitment) → IsFixWith fixing old new → fixing.t < periods
    → commitment_of old.known fixing.t ≡ false → commitment_of old.on fixing.t ≡ false
    → fix_agrees periods new on ≡ (fix_agrees periods old on && keeps fixing on)
agrees-with periods fixing old new on with inside free off =
    all_below-with periods fixing.t (fits old on) (fits new on) inside (fits-undecided old on fixing.t free) (λ t other. fits-elsewhere fixing old new on t with other)
    ∙ ap (λ x. fix_agrees periods old on && x) (fits-here fixing old new on with off)

-- ---- one decision more
-- a path whose first n decisions are followed by this one
record Follows (path : List Fixing) (n : ℕ) (fixing : Fixing) : Type 0 where
  within : n < length path
  next : take (n + 1) path ≡ take n path ++ fixing ∷ []
  placed : (periods : ℕ) → All (λ f. f.t < periods) path → fixing.t < periods

follows : (path : List Fixing) (n : ℕ) (fixing : Fixing) → n < length path → fixing ≡ get_or path n fixing → Follows path n fixing
follows path n fixing within read = grind (arith, add-one, take-suc, within, read)

-- of another unit
other_unit : (path : List Fixing) (n : ℕ) (fixing : Fixing) (g : ℕ) (fix : Fix) → Follows path n fixing → g ≢ fixing.g
    → IsFixSoFar path n g fix → IsFixSoFar path (n + 1) g fix
other_unit path n fixing g fix after other so_far = grind (arith, ne_eqb, other_any, some_more, all_more, other_all, after, other, so_far)

-- of the unit itself, in a period in which nothing was decided
own_unit : (path : List Fixing) (n : ℕ) (fixing : Fixing) (old new : Fix) → Follows path n fixing → IsFixWith fixing old new
    → commitment_of old.known fixing.t ≡ false → IsFixSoFar path n fixing.g old → IsFixSoFar path (n + 1) fixing.g new
own_unit path n fixing old new after with free so_far =
    let same = eq-eqb fixing.g fixing.g refl in
    record {
      known = λ t. grind (arith, own_any, some_more, with, t, fixing, so_far, n, path, same, after);
      off = λ t e. grind (arith, still_off, with, t, fixing, old, e, so_far);
      same = λ periods inside on.
          ap (λ p. unit_agrees (node_of p) fixing.g on) after.next
          ∙ all_more (take n path) fixing fixing.g on
          ∙ own_all (unit_agrees (node_of (take n path)) fixing.g on) (fixing.g == fixing.g) (keeps fixing on) same
          ∙ ap (λ x. x && keeps fixing on) (so_far.same periods inside on)
          ∙ sym (agrees-with periods fixing old new on with (after.placed periods inside) free (so_far.off fixing.t free));
    }

pub decided_more : (path : List Fixing) (n : ℕ) (fixing : Fixing) (fixes : List Fix) (new : Fix) → n < length path
    → fixing ≡ get_or path n fixing → fixing.g < length fixes → IsFixWith fixing (fix_at fixes fixing.g) new
    → commitment_of (fix_at fixes fixing.g).known fixing.t ≡ false
    → AreFixesSoFar path n fixes → AreFixesSoFar path (n + 1) (slice_set fixes fixing.g new)
decided_more path n fixing fixes new within read placed with free so_far = record {
  fix = λ g h.
      ⊎_elim
      (λ (this : g ≡ fixing.g).
      subst (λ k. IsFixSoFar path (n + 1) k (fix_at (slice_set fixes fixing.g new) k)) (sym this)
      (rw get_or-set_same (own_unit path n fixing (fix_at fixes fixing.g) new (follows path n fixing within read) with free (so_far.fix fixing.g placed))))
      (λ (other : g ≢ fixing.g).
      let before : g < length fixes = subst (λ k. g < k) (length-set fixes fixing.g new) h in
      rw get_or-set_other (other_unit path n fixing g (fix_at fixes g) (follows path n fixing within read) other (so_far.fix g before)))
      (grind arith);
}

-- the next decision of a path that decides each cell once is of a cell that isn't decided so far
pub next_free : (path : List Fixing) (n : ℕ) (fixing : Fixing) (fixes : List Fix) → n < length path → fixing ≡ get_or path n fixing
    → fixing.g < length fixes → DecidesOnce path → AreFixesSoFar path n fixes
    → commitment_of (fix_at fixes fixing.g).known fixing.t ≡ false
next_free path n fixing fixes within read placed once so_far = grind (arith, within, read, placed, once, so_far)

-- ---- the whole path
pub fixes_of_path : (path : List Fixing) (n : ℕ) (fixes : List Fix) → length path ≤ n → AreFixesSoFar path n fixes
    → (instance : Instance) → thermal_count instance ≡ length fixes → IsNodeOf instance (node_of path) → AreFixesOf instance (node_of path) fixes
fixes_of_path path n fixes most so_far instance count inside = grind (arith, take_all, most, so_far, count, inside)
