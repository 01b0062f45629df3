-- What a run of `check` says of a certificate's file hangs on the certificate alone, and not on which text of it stands in the file.
use Rattle.std.proofs.Common.{◌≡◌, ℕ, ◌<◌, ◌≤◌, true, List, length, ap, subst, inl, inr, ⊎_elim, arith, Option, Some, None, IfSome}
use Rattle.uc_model.specs.declared.instance.Instance.{Instance}
use Rattle.dual_model.specs.Prelude.{Certificate}
use Rattle.outside.specs.declared.slot.Slot.TheVariants as slot
use Rattle.outside.specs.Prelude.{Tells, SlotState}
use Rattle.outside.specs.declared.slot.Slot.{Slot}
use Rattle.branch_tree.specs.declared.found.Found.{Found}
use Rattle.report.specs.declared.fault.Fault.TheVariants.{Line, Long, Memory, Read}
use Rattle.command_line.specs.Command.{Check}
use Rattle.command_runs.specs.Prelude.{Outside, most_certificate_bytes, IsCertificateText, IsAnswered, IsFaulty}
use Rattle.command_runs.specs.declared.ending.End.{End}
use Rattle.uc_check.specs.Checking.{Code, Fault, Write, IsVerified, HasCertificateCause, IsInstanceFault, IsCertificateFault, IsCheckStopped, IsCheckFailure, KeepsToInput, IsAccepting}
use Rattle.uc_check.specs.Upgrading.{TellTheSame, with_left, leaving, IsCheckedAs}

-- the file with other bytes left
abbrev with_bytes : List ℕ → SlotState → SlotState
with_bytes bytes file = record file { left = Some bytes }

-- two texts that tell the same, of which the one is that of a certificate, and neither is too long
record AreTextsOf (certificate : Certificate) (one other : List ℕ) : Type 0 where
  is : IsCertificateText one certificate
  same : TellTheSame one other
  one_few : length one ≤ most_certificate_bytes
  other_few : length other ≤ most_certificate_bytes

-- what the file tells is the one text
told_is : (file : SlotState) (one bytes : List ℕ) → file.left ≡ Some one → Tells file.left bytes → one ≡ bytes
told_is file one bytes left told = subst (λ l. Tells l bytes) left told

verified_other : (c : Certificate) (one other : List ℕ) → AreTextsOf c one other → (asked : Check) (files : Slot → SlotState)
    → (files slot.CertIn).left ≡ Some one → (certificate : Certificate) → IsVerified asked files certificate
    → IsVerified asked (with_left other files) certificate
verified_other c one other texts asked files left certificate verified = grind (arith, texts, verified)

-- the one text is at fault in no line, and not too long
cause_other : (c : Certificate) (one other : List ℕ) → AreTextsOf c one other → (instance : Instance) (old new : SlotState) → old.left ≡ Some one
    → (fault : Fault) → HasCertificateCause instance old new fault
    → HasCertificateCause instance (with_bytes other old) (with_bytes other new) fault
cause_other c one other texts instance old new left (Read slot.CertIn) cause = cause
cause_other c one other texts instance old new left Memory cause = tt
cause_other c one other texts instance old new left (Long slot.CertIn) cause =
    let long = subst (λ l. IfSome l (λ bytes. most_certificate_bytes < length bytes)) left cause.long in
    let few = texts.one_few in
    absurd (omega (arith, long, few))
cause_other c one other texts instance old new left (Line line kind) cause =
    absurd (cause.faulty.none c (subst (λ b. IsCertificateText b c) (told_is old one cause.bytes left cause.told) texts.is))
cause_other c one other texts instance old new left (Code code) cause = grind (arith, texts, code, cause)
cause_other c one other texts instance old new left _ cause = absurd cause

stopped_other : (c : Certificate) (one other : List ℕ) → AreTextsOf c one other → (asked : Check) (before after : Outside)
    → (before.files slot.CertIn).left ≡ Some one → (fault : Fault) → IsCheckStopped asked before after fault
    → IsCheckStopped asked (leaving other before) (leaving other after) fault
stopped_other c one other texts asked before after left fault stopped = record {
  cause = ⊎_elim
      (λ (early : IsInstanceFault asked before after fault).
      inl (record { cause = early.cause; untouched = ap (with_bytes other) early.untouched }))
      (λ (late : IsCertificateFault asked before after fault).
      inr (record {
        instance = late.instance;
        rounded = late.rounded;
        read = late.read;
        calm = late.calm;
        cause = cause_other c one other texts late.instance (before.files slot.CertIn) (after.files slot.CertIn) left fault late.cause;
      }))
      stopped.cause;
  out = stopped.out;
}

failure_other : (c : Certificate) (one other : List ℕ) → AreTextsOf c one other → (asked : Check) (before after : Outside)
    → (before.files slot.CertIn).left ≡ Some one → (fault : Fault) (found : Option Found) → IsCheckFailure asked before after fault found
    → IsCheckFailure asked (leaving other before) (leaving other after) fault found
failure_other c one other texts asked before after left (Write true) None failure = record {
  certificate = failure.certificate;
  verified = verified_other c one other texts asked before.files left failure.certificate failure.verified;
  report = failure.report;
}
failure_other c one other texts asked before after left fault (Some found) failure = absurd failure
failure_other c one other texts asked before after left fault None failure =
    stopped_other c one other texts asked before after left fault failure

calm_other : (other : List ℕ) (before after : Slot → SlotState) → ((s : Slot) → (after s).faults ≡ (before s).faults)
    → (s : Slot) → (with_left other after s).faults ≡ (with_left other before s).faults
calm_other other before after calm slot.Instance = calm slot.Instance
calm_other other before after calm slot.CertIn = calm slot.CertIn
calm_other other before after calm slot.CertOut = calm slot.CertOut

accepting_other : (c : Certificate) (one other : List ℕ) → AreTextsOf c one other → (asked : Check) (before after : Outside)
    → (before.files slot.CertIn).left ≡ Some one → (end : End) → IsAccepting asked before after end
    → IsAccepting asked (leaving other before) (leaving other after) end
accepting_other c one other texts asked before after left end accepting = record {
  code = accepting.code;
  nothing = accepting.nothing;
  unrolled = accepting.unrolled;
  done = record {
    certificate = accepting.done.certificate;
    verified = verified_other c one other texts asked before.files left accepting.done.certificate accepting.done.verified;
    told = accepting.done.told;
    calm = calm_other other before.files after.files accepting.done.calm;
  };
}

keeps_other : (other : List ℕ) (asked : Check) (before after : Outside) → KeepsToInput asked before after
    → KeepsToInput asked (leaving other before) (leaving other after)
keeps_other other asked before after keeps = grind (arith, keeps)

pub checked_as : (c : Certificate) (one other : List ℕ) → IsCertificateText one c → TellTheSame one other → length one ≤ most_certificate_bytes
    → length other ≤ most_certificate_bytes → IsCheckedAs one other
checked_as c one other is same one_few other_few asked before after end left run =
    let texts : AreTextsOf c one other = record { is = is; same = same; one_few = one_few; other_few = other_few } in (
      other,
      record {
        files = keeps_other other asked before after run.files;
        ended = ⊎_elim
            (λ (answered : IsAnswered (IsAccepting asked before after) before.err after.err end).
            inl (record { done = accepting_other c one other texts asked before after left end answered.done; silent = answered.silent }))
            (λ (faulty : IsFaulty (IsCheckFailure asked before after) before.err after.err end).
            inr (record {
              fault = faulty.fault;
              code = faulty.code;
              failure = failure_other c one other texts asked before after left faulty.fault end.found faulty.failure;
              unrolled = faulty.unrolled;
              told = faulty.told;
            }))
            run.ended;
      },
    )
