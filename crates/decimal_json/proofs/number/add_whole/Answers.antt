use Rattle.std.proofs.Common.{◌≡◌, ℕ, List, sym, subst, arith, Bool, true, false, refl}
use Rattle.decimal_json.specs.Value.{is_digit, Frame}
use Rattle.decimal_json.specs.inside.Scan.{At, JsonFault, Leads, begun, FailsAt, scan}
use Rattle.decimal_json.proofs.Exits.{passed_on, ok_from_two}
use Rattle.decimal_json.proofs.Numerals.{reads_zero, reads_whole, no_whole, digit_low}
use Rattle.decimal_json.proofs.number.add_whole.Goals as goal

no_digit : (bytes : List ℕ) (start : ℕ) (outer : List Frame) (n : Bool) (e : JsonFault) → (n ≡ false → FailsAt is_digit bytes start → ⊥)
    → e ≡ At start 2 → FailsAt is_digit bytes start → Leads e (scan bytes start outer (begun n))
no_digit bytes start outer true e begins is fails = subst (λ (e : JsonFault). Leads e (scan bytes start outer (begun true))) (sym is) (no_whole bytes start outer fails)
no_digit bytes start outer false e begins is fails = absurd (begins refl fails)

pub returns-in_err-first-clause-fault : goal.returns-in_err-first-clause-fault
returns-in_err-first-clause-fault c = grind (arith, passed_on, no_digit, c)

pub returns-then-first-eq0-clause-read : goal.returns-then-first-eq0-clause-read
returns-then-first-eq0-clause-read c = grind (arith, digit_low, reads_zero, c)

pub returns-clause-read : goal.returns-clause-read
returns-clause-read c = grind (arith, digit_low, ok_from_two, reads_whole, c)
