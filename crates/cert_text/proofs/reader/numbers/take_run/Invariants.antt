-- The digits so far, and their number.
use Rattle.std.proofs.Common.{length, get_or, take, ◌-◌, ◌≡◌, ℕ, true, ◌≤◌, ◌<◌, ◌^◌}
use Rattle.std.specs.Str.Parse.{digits_value}
use Rattle.cert_text.specs.inside.Forms.{is_digit}
use Rattle.cert_text.proofs.reader.numbers.take_run.Given as goal

abbrev pub invariant-loop-count : goal.invariant-loop-count
invariant-loop-count l = record {
  within : l.count ≤ length l.bytes;
  few : l.count ≤ 38;
  digits : (k : ℕ) → k < l.count → is_digit (get_or l.bytes k 0) ≡ true;
  number : l.value ≡ digits_value 10 (take l.count l.bytes);
  bound : l.value < 10 ^ l.count;
}

abbrev pub decreases-loop-count : goal.decreases-loop-count
decreases-loop-count l = length l.bytes - l.count
