-- One decision more: the commitments that agree are those that agreed and keep it.
use Rattle.std.proofs.Common.{◌≡◌, ◌≢◌, ℕ, zero, suc, ◌<◌, ◌≤◌, ⊎_elim, Bool, true, false, not, ◌&&◌, ◌||◌, List, drop, length, refl, sym, ap, ◌∙◌, arith, Some, None, slice_index_or, if◌then◌else◌}
use mathlib.Core.Bool.{beq, and-true, and_assoc, and_comm}
use Rattle.std.specs.List.{list_all}
use Rattle.std.proofs.Math.Seq.{drop-cons}
use Rattle.std.proofs.lemmas.List.{drop_all}
use Rattle.std.proofs.lemmas.Bool.{cases_Bool, cases_lt, eq-eqb, ne_eqb, true≢false}
use Rattle.uc_model.specs.Prelude.{all_below, Commitment, commitment_of}
use Rattle.uc_model.proofs.Common.{all_below-at, all_below-from}
use Rattle.dual_model.specs.Prelude.{fix_agrees, keeps, keeps_of, unit_agrees}
use Rattle.dual_model.proofs.Locality.{all_below-same}
use Rattle.dual_value.specs.inside.Fixes.{Fix, Fixing, Node, IsFixWith, IsPlain}

-- ---- tests
pub differ : (a b : Bool) → not (beq a b) ≡ true → a ≡ b → ⊥
differ true true h e = true≢false (sym h)
differ true false h e = true≢false e
differ false true h e = true≢false (sym e)
differ false false h e = true≢false (sym h)

pub agree : (a b : Bool) → not (beq a b) ≡ false → a ≡ b
agree true true h = refl
agree true false h = absurd (true≢false h)
agree false true h = absurd (true≢false h)
agree false false h = refl

and_swap : (a b c : Bool) → ((a && b) && c) ≡ ((a && c) && b)
and_swap a b c = and_assoc a b c ∙ ap (λ x. a && x) (and_comm b c) ∙ sym (and_assoc a c b)

all-with : (n s : ℕ) (f g : ℕ → Bool) (k : Bool) → s < n → ((t : ℕ) → t ≢ s → f t ≡ g t) → (f s && k) ≡ g s → (all_below n f && k) ≡ all_below n g
all-with zero s f g k h same here = absurd (omega arith)
all-with (suc n) s f g k h same here =
    ⊎_elim
    (λ (before : s < n). and_assoc (f n) (all_below n f) k
    ∙ (λ i. same n (λ e. omega arith) i && all-with n s f g k before same here i))
    (λ (last : n ≤ s).
    let e : n ≡ s = omega arith in
    and_swap (f n) (all_below n f) k
    ∙ (λ i. (ap (λ t. f t && k) e ∙ here ∙ ap g (sym e)) i && all_below-same n f g (λ t l. same t (λ q. omega arith)) i))
    (cases_lt s n)

all-none : (n s : ℕ) (f : ℕ → Bool) (k : Bool) → s < n → (f s && k) ≡ false → (all_below n f && k) ≡ false
all-none n s f k h none =
    ⊎_elim
    (λ (all : all_below n f ≡ true). (λ i. all i && k) ∙ sym (λ i. all_below-at n f all s h i && k) ∙ none)
    (λ (some : all_below n f ≡ false). λ i. some i && k)
    (cases_Bool (all_below n f))

-- ---- the bits of one period
-- what a decision says of the commitment's bit there
abbrev says : Bool → Bool → Bool
says wanted b = if wanted then b else not b

against : (known now wanted b : Bool) → known ≡ true → (now ≡ wanted → ⊥) → ((not known || says now b) && says wanted b) ≡ false
against true true true b h other = absurd (other refl)
against true true false true h other = refl
against true true false false h other = refl
against true false true true h other = refl
against true false true false h other = refl
against true false false b h other = absurd (other refl)
against false now wanted b h other = absurd (true≢false (sym h))

with_it : (known now wanted b : Bool) → (known ≡ true → now ≡ wanted) → ((not known || says now b) && says wanted b) ≡ says wanted b
with_it false now wanted b same = refl
with_it true true true true same = refl
with_it true true true false same = refl
with_it true true false b same = absurd (true≢false (same refl))
with_it true false true b same = absurd (true≢false (sym (same refl)))
with_it true false false true same = refl
with_it true false false false same = refl

-- ---- the whole
pub decided-against : (fix : Fix) (fixing : Fixing) → commitment_of fix.known fixing.t ≡ true → (commitment_of fix.on fixing.t ≡ fixing.on → ⊥)
    → IsFixWith fix fixing None
decided-against fix fixing known other = λ periods on within.
    all-none periods fixing.t (λ t. not (commitment_of fix.known t) || (if commitment_of fix.on t then on t else not (on t))) (keeps fixing on) within
    (against (commitment_of fix.known fixing.t) (commitment_of fix.on fixing.t) fixing.on (on fixing.t) known other)

-- the bits after the decision
pub record IsMore (fix : Fix) (fixing : Fixing) (more : Fix) : Type 0 where
  pub known : commitment_of more.known fixing.t ≡ true
  pub on : commitment_of more.on fixing.t ≡ fixing.on
  pub known_others : (t : ℕ) → t ≢ fixing.t → commitment_of more.known t ≡ commitment_of fix.known t
  pub on_others : (t : ℕ) → t ≢ fixing.t → commitment_of more.on t ≡ commitment_of fix.on t

pub decided-with : (fix : Fix) (fixing : Fixing) (more : Fix) → (commitment_of fix.known fixing.t ≡ true → commitment_of fix.on fixing.t ≡ fixing.on)
    → IsMore fix fixing more → IsFixWith fix fixing (Some more)
decided-with fix fixing more same bits = λ periods on within.
    all-with periods fixing.t
    (λ t. not (commitment_of fix.known t) || (if commitment_of fix.on t then on t else not (on t)))
    (λ t. not (commitment_of more.known t) || (if commitment_of more.on t then on t else not (on t)))
    (keeps fixing on) within
    (λ t other. λ i. not (sym (bits.known_others t other) i) || (if sym (bits.on_others t other) i then on t else not (on t)))
    (with_it (commitment_of fix.known fixing.t) (commitment_of fix.on fixing.t) fixing.on (on fixing.t) same
    ∙ (λ i. not (sym bits.known i) || (if sym bits.on i then on fixing.t else not (on fixing.t))))

pub plain-more : (fix : Fix) (fixing : Fixing) (more : Fix) → IsPlain fix → IsMore fix fixing more → IsPlain more
plain-more fix fixing more plain bits t on =
    ⊎_elim
    (λ (here : t ≡ fixing.t). ap (commitment_of more.known) here ∙ bits.known)
    (λ (other : t ≡ fixing.t → ⊥). bits.known_others t other ∙ plain t (sym (bits.on_others t other) ∙ on))
    (grind arith)

-- ---- the fixings of a node, one after the other
abbrev pub fixing_at : List Fixing → ℕ → Fixing
fixing_at fixings i = slice_index_or fixings i (record { g = 0; t = 0; on = false })

rest-split : (p : Fixing → Bool) (fixings : List Fixing) (i : ℕ) → i < length fixings
    → list_all p (drop i fixings) ≡ (p (fixing_at fixings i) && list_all p (drop (suc i) fixings))
rest-split p fixings i h = ap (list_all p) (drop-cons fixings i (record { g = 0; t = 0; on = false }) h)

pub fixing-of : (node : Node) (g i : ℕ) (before after : Bool) (on : Commitment) → i < length node.fixings → (fixing_at node.fixings i).g ≡ g
    → (before && keeps (fixing_at node.fixings i) on) ≡ after
    → unit_agrees node g on ≡ (before && list_all (keeps_of g on) (drop i node.fixings))
    → unit_agrees node g on ≡ (after && list_all (keeps_of g on) (drop (suc i) node.fixings))
fixing-of node g i before after on h e decided so_far = grind (arith, eq-eqb, rest-split, h, e, decided, so_far)

pub fixing-other : (node : Node) (g i : ℕ) (before : Bool) (on : Commitment) → i < length node.fixings → ((fixing_at node.fixings i).g ≡ g → ⊥)
    → unit_agrees node g on ≡ (before && list_all (keeps_of g on) (drop i node.fixings))
    → unit_agrees node g on ≡ (before && list_all (keeps_of g on) (drop (suc i) node.fixings))
fixing-other node g i before on h other so_far = grind (arith, ne_eqb, rest-split, h, other, so_far)

-- at first nothing is decided
pub nothing-agrees : (periods : ℕ) (fix : Fix) (on : Commitment) → ((t : ℕ) → commitment_of fix.known t ≡ false) → fix_agrees periods fix on ≡ true
nothing-agrees periods fix on none = grind (arith, all_below-from, none)

-- and at the end nothing is left
pub none-left : (node : Node) (g i : ℕ) (before : Bool) (on : Commitment) → length node.fixings ≤ i
    → unit_agrees node g on ≡ (before && list_all (keeps_of g on) (drop i node.fixings)) → unit_agrees node g on ≡ before
none-left node g i before on h so_far = so_far ∙ ap (λ xs. before && list_all (keeps_of g on) xs) (drop_all i node.fixings h) ∙ and-true before
