use Rattle.std.proofs.Common.{◌≡◌, sym, subst}
use Rattle.decimal_json.specs.Value.{Value}
use Rattle.decimal_json.specs.declared.types.JsonFault.TheVariants as json
use Rattle.instance.specs.InstanceOf.{IsInstanceOf}
use Rattle.instance.proofs.StepLaws.{ok_is}
use Rattle.instance.proofs.from_bytes.read_instance.Goals as goal

pub returns-in-Err-At-clause-only : goal.returns-in-Err-At-clause-only
returns-in-Err-At-clause-only c i s =
    let none : c.in-Err-At.field-0 ≡ json.NoMemory = c.in-Err-At.ensures.only s.0 s.1 in
    absurd (cc (none, c.in-Err-At.field-0-is))

pub returns-in-Ok-from_json-clause-only : goal.returns-in-Ok-from_json-clause-only
returns-in-Ok-from_json-clause-only c i s =
    let same = c.in-Ok.ensures.only s.0 s.1 in
    let is = subst (λ (v : Value). IsInstanceOf c.args.exact v i) (sym same) s.2 in
    sym (ok_is i c.in-Ok-from_json.found.0 (c.in-Ok-from_json.ensures.only i is))

pub returns-in-Err-Refused-clause-only : goal.returns-in-Err-Refused-clause-only
returns-in-Err-Refused-clause-only c i s =
    let same = c.in-Ok.ensures.only s.0 s.1 in
    let is = subst (λ (v : Value). IsInstanceOf c.args.exact v i) (sym same) s.2 in
    let told = rw c.in-Err-Refused.field-0-is at (c.in-Err-Refused.ensures.only i is) in
    absurd (cc told)
