-- Each way out of the match, from what reading the whole gives.
use Rattle.std.proofs.Common.{arith, ◌≡◌, ◌≢◌, ℕ, List, [], Result, Ok, Err, IfOk, IfErr, MatchResult, refl, ◌∙◌}
use Rattle.std.proofs.lemmas.Result.{IfOk-weaker, IfErr-weaker}
use Rattle.dual_model.specs.Prelude.{Certificate}
use Rattle.cert_text.specs.CertificateText.{Version, listing_of, certificate_text}
use Rattle.cert_text.specs.TextConditions.{HasText}
use Rattle.cert_text.specs.Reading.{listing_read, IsTextOf}
use Rattle.cert_text.specs.Grammar.{IsFaultOf}
use Rattle.cert_text.specs.inside.LineCount.{StopsWithin, fault_of, line_number}
use Rattle.cert_text.specs.inside.Parts.{Stop, StopsAs, certificate_part}
use Rattle.cert_text.specs.declared.cert.Cert.{Cert}
use Rattle.cert_text.specs.declared.cert.CertFault.{CertFault}
use Rattle.cert_text.specs.declared.cert.CertFault.TheVariants as faults
use Rattle.cert_text.specs.declared.cert.CertKind.TheVariants as kinds
use Rattle.cert_text.specs.declared.reader.stop.Stop.TheVariants as stops
use Rattle.cert_text.proofs.GrammarLaws.{stop_is_fault, tail_is_fault, whole_is_read, rest_shorter, stop_shorter, read_as, no_stop}
use Rattle.cert_text.proofs.reader.read.Goals as goal

-- ---- where reading stops
within : (bytes : List ℕ) (stop : Stop) → StopsAs stop (certificate_part bytes) → StopsWithin bytes stop
within bytes stops.NoMemory e = tt
within bytes (stops.At rest) e = stop_shorter bytes rest.now e

is_fault : (bytes : List ℕ) (stop : Stop) → StopsAs stop (certificate_part bytes) → IsFaultOf bytes (fault_of bytes stop)
is_fault bytes stops.NoMemory e = tt
is_fault bytes (stops.At rest) e = stop_is_fault bytes rest.now e

no_text : (bytes : List ℕ) (stop : Stop) → StopsAs stop (certificate_part bytes) → (version : Version) (certificate : Certificate)
    → HasText version (listing_of certificate) → bytes ≡ certificate_text version certificate → fault_of bytes stop ≡ faults.NoMemory
no_text bytes stops.NoMemory e version certificate h text = refl
no_text bytes (stops.At rest) e version certificate h text = absurd (no_stop bytes rest.now e version certificate h text)

-- ---- where it comes to the end
is_text : (bytes rest : List ℕ) (version : Version) (cert read : Cert) → certificate_part bytes ≡ Ok ((version, listing_read cert), rest)
    → (rest ≡ []) × (read ≡ cert) → IsTextOf bytes read
is_text bytes rest version cert read e ended = grind (arith, whole_is_read, e, ended)

is_read : (bytes rest : List ℕ) (version : Version) (cert : Cert) (result : Result Cert CertFault) → certificate_part bytes ≡ Ok ((version, listing_read cert), rest)
    → IfOk result (λ read. (rest ≡ []) × (read ≡ cert)) → IfErr result (λ fault. (rest ≢ []) × (fault ≡ faults.At (line_number bytes rest) kinds.Tail))
    → (another : Version) (certificate : Certificate) → HasText another (listing_of certificate) → bytes ≡ certificate_text another certificate
    → MatchResult result (λ read. listing_read read ≡ listing_of certificate) (λ fault. fault ≡ faults.NoMemory)
is_read bytes rest version cert (Ok read) e ok err another certificate h text = grind (arith, read_as, e, ok, err, h, text)
is_read bytes rest version cert (Err fault) e ok err another certificate h text = grind (arith, read_as, e, ok, err, h, text)

-- ---- the goals
pub ended-requires : goal.ended-requires
ended-requires c = rest_shorter c.args.bytes.now c.in-Ok.rest.now _ (listing_read c.in-Ok.cert) c.in-Ok.ensures

pub returns-in-Ok-clause-text : goal.returns-in-Ok-clause-text
returns-in-Ok-clause-text c = grind (arith, IfOk-weaker, is_text, c)

pub returns-in-Ok-clause-read : goal.returns-in-Ok-clause-read
returns-in-Ok-clause-read c = is_read c.args.bytes.now c.in-Ok.rest.now _ c.in-Ok.cert c.ended.result c.in-Ok.ensures c.ended.ensures.ok c.ended.ensures.tail

pub returns-in-Ok-clause-fault : goal.returns-in-Ok-clause-fault
returns-in-Ok-clause-fault c = grind (arith, IfErr-weaker, tail_is_fault, c)

pub fault_of-requires : goal.fault_of-requires
fault_of-requires c = within c.args.bytes.now c.in-Err.stop c.in-Err.ensures

pub returns-in-Err-clause-read : goal.returns-in-Err-clause-read
returns-in-Err-clause-read c = λ version certificate h text. c.fault_of.ensures ∙ no_text c.args.bytes.now c.in-Err.stop c.in-Err.ensures version certificate h text

pub returns-in-Err-clause-fault : goal.returns-in-Err-clause-fault
returns-in-Err-clause-fault c = rw c.fault_of.ensures (is_fault c.args.bytes.now c.in-Err.stop c.in-Err.ensures)
