-- The order of words is that of the costs that they stand for.
use Rattle.std.proofs.Common.{◌≡◌, ℕ, ◌+◌, ◌<◌, ◌≤◌, min, cond, ℤ, pos, ◌-ℤ◌, Some, None, refl, sym, ap, ◌∙◌, subst, ne_eqb, arith}
use Rattle.std.proofs.lemmas.Int.{ints, clamps}
use mathlib.Core.Logic.{dite}
use native.Mathlib.Decide.{dec_le}
use Rattle.atomic_table.specs.Table.{Me}
use Rattle.atomic_table.specs.Seated.{TableId}
use Rattle.incumbent.specs.Costs.{least}
use Rattle.incumbent.specs.Words.{HALF, NOTHING, IsCostWord, cost_of}
use Rattle.incumbent.specs.Passes.{Known}
use Rattle.incumbent.specs.Rule.{View, view, known, IsPass, IsFound, joined}

-- the least of two words that stand for costs or nothing
pub cost_word-min : (a b : ℕ) → IsCostWord a → IsCostWord b → IsCostWord (min a b)
cost_word-min a b ha hb = dite (dec_le a b)
    (λ (le : a ≤ b). let e : min a b ≡ a = omega arith in subst IsCostWord (sym e) ha)
    (λ (gt : ¬ (a ≤ b)). let e : min a b ≡ b = omega arith in subst IsCostWord (sym e) hb)

some_cost : (a : ℕ) → a < NOTHING → cost_of a ≡ Some (pos a -ℤ pos HALF)
some_cost a h = ap (λ b. cond b None (Some (pos a -ℤ pos HALF))) (ne_eqb a NOTHING (λ e. omega arith))

no_cost : (a : ℕ) → NOTHING ≤ a → a ≤ NOTHING → cost_of a ≡ None
no_cost a h fits = let e : a ≡ NOTHING = omega arith in ap cost_of e

least_of_words : (a b : ℕ) → b ≤ NOTHING → Dec (NOTHING ≤ a) → Dec (NOTHING ≤ b) → a ≤ NOTHING → cost_of (min a b) ≡ least (cost_of a) (cost_of b)
least_of_words a b fits' (yes ha) d fits =
    let e : min a b ≡ b = omega arith in ap cost_of e ∙ sym (ap (λ c. least c (cost_of b)) (no_cost a ha fits))
least_of_words a b fits' (no ha) (yes hb) fits =
    let e : min a b ≡ a = omega arith in
    let here = some_cost a (omega arith) in
    ap cost_of e ∙ (here ∙ sym (ap (λ c. least c (cost_of b)) here ∙ ap (λ c. least (Some (pos a -ℤ pos HALF)) c) (no_cost b hb fits')))
least_of_words a b fits' (no ha) (no hb) fits =
    let one = some_cost a (omega arith) in
    let two = some_cost b (omega arith) in
    some_cost (min a b) (omega arith)
    ∙ (ap (λ z. Some z) (omega (arith, ints, clamps))
    ∙ sym (ap (λ c. least c (cost_of b)) one ∙ ap (λ c. least (Some (pos a -ℤ pos HALF)) c) two))

-- the least of two words stands for the least of the two costs
pub cost_of-min : (a b : ℕ) → IsCostWord a → IsCostWord b → cost_of (min a b) ≡ least (cost_of a) (cost_of b)
cost_of-min a b ha hb = least_of_words a b hb.fits (dec_le NOTHING a) (dec_le NOTHING b) ha.fits

-- a pass after a publication
pub published_pass : (old new : Me (Unit {0}) View) (found word : ℕ) → IsPass old → IsCostWord word → IsFound old.0 found
    → new ≡ (view (min found word) (min old.0.mine word) found old.0.parts, old.1) → IsPass new
published_pass old new found word pass cost is after = subst IsPass (sym after) (record {
  slots = pass.slots;
  parts = pass.parts;
  seen = cost_word-min found word is.cost cost;
  mine = cost_word-min old.0.mine word pass.mine cost;
  found = is.cost;
})

-- a pass that another has joined
pub joined_pass : (old other new : Me (Unit {0}) View) → IsPass old → IsPass other → new ≡ (joined old.0 other.0, old.1) → IsPass new
joined_pass old other new pass pass' after = subst IsPass (sym after) (record {
  slots = pass.slots;
  parts = let some_part = pass.parts in omega arith;
  seen = cost_word-min old.0.seen other.0.seen pass.seen pass'.seen;
  mine = cost_word-min old.0.mine other.0.mine pass.mine pass'.mine;
  found = pass.found;
})

same_known : (a b : Known) → a.object ≡ b.object → a.seen ≡ b.seen → a.mine ≡ b.mine → a.found ≡ b.found → a.parts ≡ b.parts → a ≡ b
same_known a b object seen mine found parts =
    λ i. record { object = object i; seen = seen i; mine = mine i; found = found i; parts = parts i }

-- what contracts see of a pass after a publication
pub published_known : (object object' : TableId) (old new : Me (Unit {0}) View) (before : Known) (found word : ℕ) (cost : ℤ)
    → object' ≡ object → known object old ≡ before → IsPass old → IsCostWord word → cost_of word ≡ Some cost → IsFound old.0 found
    → new ≡ (view (min found word) (min old.0.mine word) found old.0.parts, old.1)
    → known object' new ≡ record {
      object = before.object;
      seen = least (cost_of new.0.found) (Some cost);
      mine = least before.mine (Some cost);
      found = cost_of new.0.found;
      parts = before.parts;
    }
published_known object object' old new before found word cost same was pass lawful is here after =
    let found_now : new.0.found ≡ found = ap (λ (m : Me (Unit {0}) View). m.0.found) after in
    same_known _ _
    (same ∙ ap (λ (k : Known). k.object) was)
    (ap (λ (m : Me (Unit {0}) View). cost_of m.0.seen) after
    ∙ (cost_of-min found word here.cost lawful
    ∙ (ap (λ n. least (cost_of n) (cost_of word)) (sym found_now) ∙ ap (λ c. least (cost_of new.0.found) c) is)))
    (ap (λ (m : Me (Unit {0}) View). cost_of m.0.mine) after
    ∙ (cost_of-min old.0.mine word pass.mine lawful
    ∙ (ap (λ (k : Known). least k.mine (cost_of word)) was ∙ ap (λ c. least before.mine c) is)))
    refl
    (ap (λ (m : Me (Unit {0}) View). m.0.parts) after ∙ ap (λ (k : Known). k.parts) was)

-- what contracts see of a pass that another has joined
pub joined_known : (object object' : TableId) (old new other : Me (Unit {0}) View) (before : Known) (object'' : TableId) (theirs : Known)
    → object' ≡ object → known object old ≡ before → known object'' other ≡ theirs → IsPass old → IsPass other
    → new ≡ (joined old.0 other.0, old.1)
    → known object' new ≡ record {
      object = before.object;
      seen = least before.seen theirs.seen;
      mine = least before.mine theirs.mine;
      found = before.found;
      parts = before.parts + theirs.parts;
    }
joined_known object object' old new other before object'' theirs same was was' pass pass' after = same_known _ _
    (same ∙ ap (λ (k : Known). k.object) was)
    (ap (λ (m : Me (Unit {0}) View). cost_of m.0.seen) after
    ∙ (cost_of-min old.0.seen other.0.seen pass.seen pass'.seen
    ∙ (ap (λ (k : Known). least k.seen (cost_of other.0.seen)) was ∙ ap (λ (k : Known). least before.seen k.seen) was')))
    (ap (λ (m : Me (Unit {0}) View). cost_of m.0.mine) after
    ∙ (cost_of-min old.0.mine other.0.mine pass.mine pass'.mine
    ∙ (ap (λ (k : Known). least k.mine (cost_of other.0.mine)) was ∙ ap (λ (k : Known). least before.mine k.mine) was')))
    (ap (λ (m : Me (Unit {0}) View). cost_of m.0.found) after ∙ ap (λ (k : Known). k.found) was)
    (ap (λ (m : Me (Unit {0}) View). m.0.parts) after
    ∙ (ap (λ (k : Known). k.parts + other.0.parts) was ∙ ap (λ (k : Known). before.parts + k.parts) was'))
