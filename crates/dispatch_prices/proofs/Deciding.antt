-- The node that decides each cell as the commitment does, and schedules of the commitment agree with it.
-- Cite by `use Rattle.dispatch_prices.proofs.Deciding.{deciding, is_decided, agrees_there}`.
use Rattle.std.proofs.Common.{◌≡◌, ℕ, zero, suc, ◌<◌, ◌≤◌, ⊎_elim, Bool, true, false, not, ◌&&◌, ◌==◌, refl, sym, ap, subst, ◌∙◌, arith, List, [], ◌∷◌, IsTrue, if◌then◌else◌}
use Rattle.std.specs.List.{All, list_all}
use Rattle.std.proofs.lemmas.List.Elements.{All-head, All-tail, All-cons, All-nil}
use Rattle.std.proofs.lemmas.List.Folds.{list_all-append}
use Rattle.std.proofs.lemmas.Bool.{and_parts, and_from, or_cases, cases_Bool, cases_lt, cond-true, cond-false, eq-eqb, true≢false}
use Rattle.uc_model.specs.Prelude.{Schedule, thermal_count, Commitment}
use Rattle.dual_model.specs.Fixings as nodes
use Rattle.dual_model.specs.declared.node.Fixing.{Fixing}
use Rattle.dual_model.specs.declared.node.Node.{Node}
use Rattle.dispatch_rules.specs.Prelude.{Task, listed}
use Rattle.dispatch_prices.specs.Dispatched.{IsDecided}
use Rattle.dispatch_prices.proofs.Listing.{all_listed}

-- ---- agreement
keeps_same : (fixing : Fixing) (first second : Commitment) → first fixing.t ≡ second fixing.t → nodes.keeps fixing first ≡ nodes.keeps fixing second
keeps_same fixing first second e = ap (λ b. if fixing.on then b else not b) e

-- commitments that are the same in the instance's cells agree with the same fixings of these
module _ (task : Task) (first second : ℕ → Commitment)
    (same : (g t : ℕ) → g < thermal_count task.instance → t < task.instance.periods → first g t ≡ second g t) where
  same_kept : (fixings : List Fixing) → All (λ fixing. nodes.IsCell task.instance fixing.g fixing.t) fixings
      → list_all (λ fixing. nodes.keeps fixing (first fixing.g)) fixings ≡ list_all (λ fixing. nodes.keeps fixing (second fixing.g)) fixings
  same_kept [] within = refl
  same_kept (fixing ∷ rest) within =
      let cell = All-head (λ f. nodes.IsCell task.instance f.g f.t) fixing rest within in
      λ i. keeps_same fixing (first fixing.g) (second fixing.g) (same fixing.g fixing.t cell.unit cell.period) i
      && same_kept rest (All-tail (λ f. nodes.IsCell task.instance f.g f.t) fixing rest within) i

-- a schedule with the bits of the commitment agrees with its node
pub agrees_there : (task : Task) (node : Node) (x : Schedule) → IsDecided task node
    → ((g t : ℕ) → g < thermal_count task.instance → t < task.instance.periods → (x.thermal g).on t ≡ task.on g t) → IsTrue (nodes.agrees node x)
agrees_there task node x decided same = same_kept task (λ g. (x.thermal g).on) task.on same node.fixings decided.cells ∙ decided.agrees

-- ---- the node
abbrev pub fixing_of : Task → ℕ → ℕ → Fixing
fixing_of task g t = record { g = g; t = t; on = task.on g t }

abbrev pub row_of : Task → ℕ → List Fixing
row_of task g = listed task.instance.periods (λ t. fixing_of task g t ∷ [])

abbrev pub deciding : Task → Node
deciding task = record { fixings = listed (thermal_count task.instance) (row_of task) }

-- what each part passes the whole list passes, and the other way round
passes_listed : (p : Fixing → Bool) (n : ℕ) (f : ℕ → List Fixing) → ((k : ℕ) → k < n → IsTrue (list_all p (f k))) → IsTrue (list_all p (listed n f))
passes_listed p zero f each = refl
passes_listed p (suc n) f each =
    list_all-append p (listed n f) (f n) ∙ and_from _ _ (passes_listed p n f (λ k h. each k (omega arith))) (each n (omega arith))

passes_at : (p : Fixing → Bool) (n : ℕ) (f : ℕ → List Fixing) → IsTrue (list_all p (listed n f)) → (k : ℕ) → k < n → IsTrue (list_all p (f k))
passes_at p zero f h k l = absurd (omega arith)
passes_at p (suc n) f h k l =
    let both = and_parts (list_all p (listed n f)) (list_all p (f n)) (sym (list_all-append p (listed n f) (f n)) ∙ h) in
    ⊎_elim
    (λ (less : k < n). passes_at p n f both.0 k less)
    (λ (last : n ≤ k). let same : n ≡ k = omega arith in subst (λ i. IsTrue (list_all p (f i))) same both.1)
    (cases_lt k n)

one : (p : Fixing → Bool) (x : Fixing) → IsTrue (p x) → IsTrue (list_all p (x ∷ []))
one p x h = and_from (p x) true h refl

kept : (task : Task) (g t : ℕ) → IsTrue (nodes.keeps (fixing_of task g t) (task.on g))
kept task g t = ⊎_elim
    (λ (on : task.on g t ≡ true). cond-true (task.on g t) (task.on g t) (not (task.on g t)) on ∙ on)
    (λ (off : task.on g t ≡ false). cond-false (task.on g t) (task.on g t) (not (task.on g t)) off ∙ ap not off)
    (cases_Bool (task.on g t))

-- what keeps it is the commitment
kept_alone : (task : Task) (g t : ℕ) (other : Commitment) → IsTrue (nodes.keeps (fixing_of task g t) other) → task.on g t ≡ other t
kept_alone task g t other h = ⊎_elim
    (λ (on : task.on g t ≡ true). on ∙ sym (sym (cond-true (task.on g t) (other t) (not (other t)) on) ∙ h))
    (λ (off : task.on g t ≡ false). off ∙ sym (not_to_false (other t) (sym (cond-false (task.on g t) (other t) (not (other t)) off) ∙ h)))
    (cases_Bool (task.on g t))
  where
    not_to_false : (b : Bool) → not b ≡ true → b ≡ false
    not_to_false true e = sym e
    not_to_false false e = refl

pub is_decided : (task : Task) → IsDecided task (deciding task)
is_decided task = record {
  cells = all_listed (λ f. nodes.IsCell task.instance f.g f.t) (thermal_count task.instance) (row_of task) (λ g hg.
      all_listed (λ f. nodes.IsCell task.instance f.g f.t) task.instance.periods (λ t. fixing_of task g t ∷ []) (λ t ht.
      All-cons (λ f. nodes.IsCell task.instance f.g f.t) (fixing_of task g t) [] (record { unit = hg; period = ht }) (All-nil (λ f. nodes.IsCell task.instance f.g f.t))));
  agrees = passes_listed (λ f. nodes.keeps f (task.on f.g)) (thermal_count task.instance) (row_of task) (λ g hg.
      passes_listed (λ f. nodes.keeps f (task.on f.g)) task.instance.periods (λ t. fixing_of task g t ∷ []) (λ t ht.
      one (λ f. nodes.keeps f (task.on f.g)) (fixing_of task g t) (kept task g t)));
  alone = record {
    alone = λ g other hg pattern t ht.
        let row = passes_at (nodes.keeps_of g other) (thermal_count task.instance) (row_of task) pattern.agrees g hg in
        let cell = and_parts (nodes.keeps_of g other (fixing_of task g t)) true (passes_at (nodes.keeps_of g other) task.instance.periods (λ t. fixing_of task g t ∷ []) row t ht) in
        ⊎_elim
        (λ (apart : IsTrue (not (g == g))). absurd (true≢false (sym apart ∙ ap not (eq-eqb g g refl))))
        (λ (keeps : IsTrue (nodes.keeps (fixing_of task g t) other)). kept_alone task g t other keeps)
        (or_cases (not (g == g)) (nodes.keeps (fixing_of task g t) other) cell.0);
  };
}
