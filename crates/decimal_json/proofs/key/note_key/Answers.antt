use Rattle.std.proofs.Common.{List, ℕ, subst}
use Rattle.std.specs.String.{string_bytes}
use Rattle.decimal_json.specs.inside.Scan.{knows, AddsKey}
use Rattle.decimal_json.proofs.Keys.{adds_key}
use Rattle.decimal_json.proofs.key.note_key.Goals as goal

pub returns-clause-known : goal.returns-clause-known
returns-clause-known c = subst (λ (k : List ℕ). AddsKey (knows c.args.places.now) (knows c.insert.new.self) k) c.in_ok-clone.ensures.cases
    (adds_key c.args.places.now c.insert.new.self (string_bytes c.in_ok-clone.field-0) c.args.place c.in_ok-old.ensures.updates)
