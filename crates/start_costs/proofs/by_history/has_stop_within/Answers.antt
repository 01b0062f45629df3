-- A stop that is found is one of those asked for, and where none is found there is none.
use Rattle.std.proofs.Common.{◌≡◌, ℕ, zero, suc, ◌-◌, ◌<◌, ◌≤◌, Bool, true, false, ◌&&◌, ◌||◌, refl, sym, ◌∙◌, ap, arith, IsTrue, nat_le}
use Rattle.std.proofs.lemmas.Bool.{and_from, leb-true, le-leb}
use Rattle.uc_model.specs.Prelude.{stops, commitment_of, any_below}
use Rattle.uc_model.proofs.Common.{any_below-from}
use Rattle.start_costs.proofs.by_history.has_stop_within.Goals as goal

found_in : (from to i : ℕ) (test : ℕ → Bool) → from ≤ i → i < to → IsTrue (test i) → IsTrue (any_below to (λ k. nat_le from k && test k))
found_in from to i test low high h =
    any_below-from to (λ k. nat_le from k && test k) i high (and_from (nat_le from i) (test i) (le-leb from i low) h)

or_none : (a b : Bool) → a ≡ false → b ≡ false → (a || b) ≡ false
or_none a b h k = ap (λ x. x || b) h ∙ k

and_none : (a b : Bool) → (IsTrue a → b ≡ false) → (a && b) ≡ false
and_none true b h = h refl
and_none false b h = refl

none_in : (from to : ℕ) (test : ℕ → Bool) → ((k : ℕ) → from ≤ k → k < to → test k ≡ false)
    → any_below to (λ k. nat_le from k && test k) ≡ false
none_in from zero test h = refl
none_in from (suc n) test h =
    or_none _ _
    (and_none (nat_le from n) (test n) (λ l. h n (leb-true from n l) (omega arith)))
    (none_in from n test (λ k l m. h k l (omega arith)))

pub returns-then-stops : goal.returns-then-stops
returns-then-stops c =
    let test = λ (k : ℕ). stops c.args.unit.now (commitment_of c.args.pattern.now) (c.args.t - k) in
    let found : IsTrue (test c.loop-i.i) = sym c.stops.ensures ∙ c.if-stops.true in
    sym (found_in c.args.from c.args.to c.loop-i.i test c.loop-i.auto.i c.loop-i-test.true found)

pub returns : goal.returns
returns c =
    let test = λ (k : ℕ). stops c.args.unit.now (commitment_of c.args.pattern.now) (c.args.t - k) in
    sym (none_in c.args.from c.args.to test (λ k low high. c.loop-i.invariant k low (omega (arith, c.loop-i-test.false))))
