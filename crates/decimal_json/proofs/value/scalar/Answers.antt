use Rattle.std.proofs.Common.{◌+◌, [], arith, refl, true, false}
use Rattle.std.specs.String.{string_bytes}
use Rattle.decimal_json.specs.Value.{null, boolean, number, text, for_value}
use Rattle.decimal_json.specs.View.{decimal_of}
use Rattle.decimal_json.specs.Characters.{rue, alse, ull}
use Rattle.decimal_json.specs.inside.Scan.{literal, numeral, minus, quoted, plain, step, begin_step}
use Rattle.decimal_json.proofs.Values.{boundary_behind, read_behind, breaks_behind, text_reads, text_breaks, no_value}
use Rattle.decimal_json.proofs.Views.{view-null, view-bool, view-number, view-text}
use Rattle.decimal_json.proofs.value.scalar.Goals as goal

pub text-requires : goal.text-requires
text-requires c = boundary_behind c.args.source.now c.args.start c.args.first c.utf8.source c.requires.within c.requires.stands (omega (arith, c.in-34.is))

pub returns-in_err-text-in-34-clause-fault : goal.returns-in_err-text-in-34-clause-fault
unfolding step begin_step
returns-in_err-text-in-34-clause-fault c =
    breaks_behind c.args.source.now c.args.source.now c.args.start c.args.first 34 (quoted for_value (plain [])) c.in_err-text-in-34.field-0.0 c.from_residual-in_err-text-in-34.result
    refl c.requires.stands c.in-34.is (λ outer. refl) (text_breaks c.args.source.now (c.args.start + 1) c.in_err-text-in-34.field-0.0 c.in_err-text-in-34.ensures.fault)
    c.from_residual-in_err-text-in-34.ensures.1

pub returns-in_ok-text-in-34-clause-read : goal.returns-in_ok-text-in-34-clause-read
unfolding step begin_step
returns-in_ok-text-in-34-clause-read c =
    read_behind c.args.source.now c.args.source.now c.args.start c.in_ok-text-in-34.end c.args.first 34 (quoted for_value (plain [])) (text (string_bytes c.in_ok-text-in-34.text)) _
    refl c.requires.stands c.in-34.is (λ outer. refl) (text_reads c.args.source.now (c.args.start + 1) c.in_ok-text-in-34.end _ c.in_ok-text-in-34.ensures.read)
    (view-text c.in_ok-text-in-34.text)

pub returns-in_err-literal-in-116-clause-fault : goal.returns-in_err-literal-in-116-clause-fault
unfolding step begin_step
returns-in_err-literal-in-116-clause-fault c =
    breaks_behind c.as_bytes-bytes.result.now c.args.source.now c.args.start c.args.first 116 (literal (boolean true) rue) c.in_err-literal-in-116.field-0.0 c.from_residual-in_err-literal-in-116.result
    c.as_bytes-bytes.ensures.value c.requires.stands c.in-116.is (λ outer. refl) (c.in_err-literal-in-116.ensures.fault (boolean true)) c.from_residual-in_err-literal-in-116.ensures.1

pub returns-in_ok-literal-in-116-clause-read : goal.returns-in_ok-literal-in-116-clause-read
unfolding step begin_step
returns-in_ok-literal-in-116-clause-read c =
    read_behind c.as_bytes-bytes.result.now c.args.source.now c.args.start c.in_ok-literal-in-116.field-0 c.args.first 116 (literal (boolean true) rue) (boolean true) _
    c.as_bytes-bytes.ensures.value c.requires.stands c.in-116.is (λ outer. refl) (c.in_ok-literal-in-116.ensures.read (boolean true)) (view-bool true)

pub returns-in_err-literal-in-102-clause-fault : goal.returns-in_err-literal-in-102-clause-fault
unfolding step begin_step
returns-in_err-literal-in-102-clause-fault c =
    breaks_behind c.as_bytes-bytes.result.now c.args.source.now c.args.start c.args.first 102 (literal (boolean false) alse) c.in_err-literal-in-102.field-0.0 c.from_residual-in_err-literal-in-102.result
    c.as_bytes-bytes.ensures.value c.requires.stands c.in-102.is (λ outer. refl) (c.in_err-literal-in-102.ensures.fault (boolean false)) c.from_residual-in_err-literal-in-102.ensures.1

pub returns-in_ok-literal-in-102-clause-read : goal.returns-in_ok-literal-in-102-clause-read
unfolding step begin_step
returns-in_ok-literal-in-102-clause-read c =
    read_behind c.as_bytes-bytes.result.now c.args.source.now c.args.start c.in_ok-literal-in-102.field-0 c.args.first 102 (literal (boolean false) alse) (boolean false) _
    c.as_bytes-bytes.ensures.value c.requires.stands c.in-102.is (λ outer. refl) (c.in_ok-literal-in-102.ensures.read (boolean false)) (view-bool false)

pub returns-in_err-literal-in-110-clause-fault : goal.returns-in_err-literal-in-110-clause-fault
unfolding step begin_step
returns-in_err-literal-in-110-clause-fault c =
    breaks_behind c.as_bytes-bytes.result.now c.args.source.now c.args.start c.args.first 110 (literal null ull) c.in_err-literal-in-110.field-0.0 c.from_residual-in_err-literal-in-110.result
    c.as_bytes-bytes.ensures.value c.requires.stands c.in-110.is (λ outer. refl) (c.in_err-literal-in-110.ensures.fault null) c.from_residual-in_err-literal-in-110.ensures.1

pub returns-in_ok-literal-in-110-clause-read : goal.returns-in_ok-literal-in-110-clause-read
unfolding step begin_step
returns-in_ok-literal-in-110-clause-read c =
    read_behind c.as_bytes-bytes.result.now c.args.source.now c.args.start c.in_ok-literal-in-110.field-0 c.args.first 110 (literal null ull) null _
    c.as_bytes-bytes.ensures.value c.requires.stands c.in-110.is (λ outer. refl) (c.in_ok-literal-in-110.ensures.read null) view-null

pub returns-in_err-number-in-45-clause-fault : goal.returns-in_err-number-in-45-clause-fault
unfolding step begin_step
returns-in_err-number-in-45-clause-fault c =
    breaks_behind c.as_bytes-bytes.result.now c.args.source.now c.args.start c.args.first 45 (numeral minus) c.in_err-number-in-45.field-0.0 c.from_residual-in_err-number-in-45.result
    c.as_bytes-bytes.ensures.value c.requires.stands c.in-45.is (λ outer. refl) c.in_err-number-in-45.ensures.fault c.from_residual-in_err-number-in-45.ensures.1

pub returns-in_ok-number-in-45-clause-read : goal.returns-in_ok-number-in-45-clause-read
unfolding step begin_step
returns-in_ok-number-in-45-clause-read c =
    read_behind c.as_bytes-bytes.result.now c.args.source.now c.args.start c.in_ok-number-in-45.end c.args.first 45 (numeral minus) (number (decimal_of c.in_ok-number-in-45.number)) _
    c.as_bytes-bytes.ensures.value c.requires.stands c.in-45.is (λ outer. refl) c.in_ok-number-in-45.ensures.read (view-number c.in_ok-number-in-45.number)

pub returns-in_default-clause-fault : goal.returns-in_default-clause-fault
returns-in_default-clause-fault c = grind (arith, no_value, c)
