-- Where the bytes stood for an instance, it would be answered, or memory refused.
use Rattle.std.proofs.Common.{◌≡◌, ◌∙◌, sym, subst}
use Rattle.instance.specs.Bytes.{HasCause}
use Rattle.instance.specs.declared.from_bytes.ReadFault.TheVariants.{Json, Refused, NoMemory}
use Rattle.command_runs.proofs.input.given_of.Goals as goal

pub returns-in-Ok-clause-only : goal.returns-in-Ok-clause-only
returns-in-Ok-clause-only c i stand = sym (c.in-Ok.ensures.only i stand)

pub returns-in-Err-Json-clause-refused : goal.returns-in-Err-Json-clause-refused
returns-in-Err-Json-clause-refused c = record {
  none = λ instance stand.
      let e : Json c.in-Err-Json.at c.in-Err-Json.kind ≡ NoMemory = sym c.in-Err-Json.field-0-is ∙ c.in-Err-Json.ensures.only instance stand in
      cc;
  cause = subst (HasCause c.args.exact c.args.bytes.now) c.in-Err-Json.field-0-is c.in-Err-Json.ensures.cause;
}

pub returns-in-Err-Refused-clause-refused : goal.returns-in-Err-Refused-clause-refused
returns-in-Err-Refused-clause-refused c = record {
  none = λ instance stand.
      let e : Refused c.in-Err-Refused.refusal ≡ NoMemory = sym c.in-Err-Refused.field-0-is ∙ c.in-Err-Refused.ensures.only instance stand in
      cc;
  cause = subst (HasCause c.args.exact c.args.bytes.now) c.in-Err-Refused.field-0-is c.in-Err-Refused.ensures.cause;
}
