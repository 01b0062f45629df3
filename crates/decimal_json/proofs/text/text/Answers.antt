use Rattle.std.proofs.Common.{arith}
use Rattle.std.specs.String.{string_bytes}
use Rattle.std.proofs.lemmas.Str.{IsCharBoundary-after_ascii}
use Rattle.decimal_json.proofs.Numerals.{Reaches, reaches, ends_early, ends_well, ends_badly, goes_on, boundary_at_end}
use Rattle.decimal_json.proofs.text.text.Goals as goal

pub range-requires-clause-end_boundary : goal.range-requires-clause-end_boundary
range-requires-clause-end_boundary c = grind (arith, boundary_at_end, c)

pub returns-in_default-clause-fault : goal.returns-in_default-clause-fault
returns-in_default-clause-fault c =
    let here : Reaches c.args.source.now c.args.start c.skip_plain-end.result (string_bytes c.push_str.new.self) =
    reaches c.as_bytes-bytes.result.now c.args.source.now c.args.start c.loop-text.at c.skip_plain-end.result (string_bytes c.loop-text.text) c.range.result.now (string_bytes c.push_str.new.self)
    c.as_bytes-bytes.ensures.value c.loop-text.invariant c.skip_plain-end.ensures.read c.range.ensures.value c.in_ok-push_str.ensures.bytes in
    ends_early c.as_bytes-bytes.result.now c.args.source.now c.args.start c.skip_plain-end.result (string_bytes c.push_str.new.self) c.no_json.result c.as_bytes-bytes.ensures.value here c.no_json.ensures c.in_default.ensures.end

pub returns-then-byte-eq34-clause-read : goal.returns-then-byte-eq34-clause-read
returns-then-byte-eq34-clause-read c = grind (arith, reaches, ends_well, c)

pub returns-then-byte-ne92-clause-fault : goal.returns-then-byte-ne92-clause-fault
returns-then-byte-ne92-clause-fault c =
    let here : Reaches c.args.source.now c.args.start c.skip_plain-end.result (string_bytes c.push_str.new.self) =
    reaches c.as_bytes-bytes.result.now c.args.source.now c.args.start c.loop-text.at c.skip_plain-end.result (string_bytes c.loop-text.text) c.range.result.now (string_bytes c.push_str.new.self)
    c.as_bytes-bytes.ensures.value c.loop-text.invariant c.skip_plain-end.ensures.read c.range.ensures.value c.in_ok-push_str.ensures.bytes in
    ends_badly c.as_bytes-bytes.result.now c.args.source.now c.args.start c.skip_plain-end.result c.in-Some.byte (string_bytes c.push_str.new.self) c.no_json-then-byte-ne92.result c.as_bytes-bytes.ensures.value here
    c.no_json-then-byte-ne92.ensures c.in-Some.ensures.byte c.skip_plain-end.ensures.past c.if-byte-eq34.false c.if-byte-ne92.true

pub returns-in_err-character-clause-fault : goal.returns-in_err-character-clause-fault
returns-in_err-character-clause-fault c = grind (arith, c)

pub loop-text-preserved : goal.loop-text-preserved
loop-text-preserved c = grind (arith, reaches, goes_on, IsCharBoundary-after_ascii, c)
