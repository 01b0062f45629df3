use Rattle.std.proofs.Common.{◌≡◌, ◌*◌, ◌^◌, take}
use Rattle.decimal_json.specs.Value.{whole_of}
use Rattle.instance.specs.Scaled.{held}
use Rattle.instance.proofs.scaled.shifted.Given as goal

abbrev pub invariant-digits : goal.invariant-digits
invariant-digits l = l.size ≡ held (whole_of (take l.digit-index l.digits))

abbrev pub invariant-zeros : goal.invariant-zeros
invariant-zeros l = l.size ≡ held (whole_of l.digits * 10 ^ l.counter)
