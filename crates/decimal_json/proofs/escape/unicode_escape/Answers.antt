use Rattle.std.proofs.Common.{◌≡◌, ◌<◌, arith, ⊎_elim, ◌^◌, ℕ, true, false}
use Rattle.std.specs.Char.Utf16.{is_high_surrogate, is_low_surrogate}
use Rattle.std.specs.Char.{OutOfScalarRange}
use Rattle.decimal_json.proofs.Exits.{passed_on}
use Rattle.decimal_json.proofs.Numerals.{unicode_broken, unicode_alone, unicode_low, unicode_pair, unicode_unpaired, high_between}
use Rattle.decimal_json.proofs.escape.unicode_escape.Goals as goal

-- a unit that is no character and no second of a pair is a first
is_first : (u : ℕ) → u < 2 ^ 16 → OutOfScalarRange u → is_low_surrogate u ≡ false → is_high_surrogate u ≡ true
is_first u small out low = ⊎_elim (λ r. high_between u r.0 (omega arith) low) (λ le. absurd (omega arith)) out

pub returns-in_err-first-clause-fault : goal.returns-in_err-first-clause-fault
returns-in_err-first-clause-fault c = grind (arith, passed_on, unicode_broken, c)

pub returns-in-Some-clause-read : goal.returns-in-Some-clause-read
returns-in-Some-clause-read c = grind (arith, unicode_alone, c)

pub returns-then-is_low-clause-fault : goal.returns-then-is_low-clause-fault
returns-then-is_low-clause-fault c = grind (arith, unicode_low, c)

pub returns-in-Some-second_unit-clause-read : goal.returns-in-Some-second_unit-clause-read
returns-in-Some-second_unit-clause-read c = grind (arith, is_first, unicode_pair, c)

pub returns-in-None-clause-fault : goal.returns-in-None-clause-fault
returns-in-None-clause-fault c = grind (arith, is_first, unicode_unpaired, c)
