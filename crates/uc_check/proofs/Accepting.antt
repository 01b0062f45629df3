-- A certificate that holds is accepted: each fault but want of memory has a cause that isn't there.
use Rattle.std.proofs.Common.{◌≡◌, ◌∙◌, ℕ, Bool, true, false, List, refl, sym, subst, inl, inr, ⊎_elim, arith, length, ◌<◌, ◌≤◌, ◌<ℤ◌, ◌≤ℤ◌, pos, Option, Some, None, IfSome}
use Rattle.uc_model.proofs.Common.{linear}
use Rattle.uc_model.specs.Prelude.{greatest_shortage_cost}
use Rattle.uc_model.specs.declared.field_refusal.FieldRefusal.{FieldRefusal}
use Rattle.uc_model.specs.declared.limits.TheConstants.{MAX_SHORTAGE_COST}
use Rattle.uc_model.specs.declared.instance.Instance.{Instance}
use Rattle.instance.specs.Bytes.{StandFor, StandForCounted}
use Rattle.instance.specs.declared.from_bytes.ReadFault.TheVariants as read_fault
use Rattle.instance.proofs.ExactLaws.{exact_is}
use Rattle.dual_model.specs.Prelude.{Certificate, CertificateHolds}
use Rattle.outside.specs.declared.slot.Slot.TheVariants as slot
use Rattle.outside.specs.Prelude.{Tells, SlotState}
use Rattle.branch_tree.specs.declared.found.Found.{Found}
use Rattle.cert_text.specs.CertificateText.{certificate_text, listing_of}
use Rattle.cert_text.specs.TextConditions.{HasText}
use Rattle.cert_text.specs.declared.cert.Version.{Version}
use Rattle.report.specs.FaultText.{status_of}
use Rattle.report.specs.declared.fault.Fault.TheVariants.{Instance as Refused, Json, Line, Long, Memory, Read}
use Rattle.command_line.specs.Command.{Check}
use Rattle.command_runs.specs.Prelude.{Outside, most_bytes, StandForPriced, HasInstance, HasCause, IsRefused, IsTooDear, most_certificate_bytes, IsCertificateText, IsAnswered, IsFaulty}
use Rattle.command_runs.specs.declared.input.ReadOptions.{ReadOptions}
use Rattle.uc_check.specs.Checking.{Code, Fault, Write, check_options, HasCertificateCause, IsInstanceFault, IsCertificateFault, IsCheckFailure, IsAccepting}
use Rattle.uc_check.specs.Accepting.{IsAcceptedFor, IsLittle, IsUndisturbed}
use Rattle.uc_check.proofs.SameTexts.{same_certificate}
use Rattle.uc_check.proofs.TextLengths.{text_short}

-- what a file tells is these bytes
told_is : (file : SlotState) (bytes others : List ℕ) → file.left ≡ Some bytes → Tells file.left others → bytes ≡ others
told_is file bytes others left told = subst (λ l. Tells l others) left told

-- a file of so few bytes isn't too long
not_long : (file : SlotState) (bytes : List ℕ) (most : ℕ) → file.left ≡ Some bytes → length bytes ≤ most
    → IfSome file.left (λ bytes. most < length bytes) → ⊥
not_long file bytes most left few long = grind (arith, linear, few, long)

-- bytes stand for an instance whether or not a rounded number is refused, where they do without
stands_rounded : (exact : Bool) (bytes : List ℕ) (instance : Instance) (rounded : ℕ) → StandForCounted exact bytes instance rounded
    → StandForCounted false bytes instance rounded
stands_rounded true bytes instance rounded stand = (stand.0, stand.1, (exact_is stand.0 instance stand.2).0, stand.3)
stands_rounded false bytes instance rounded stand = stand

module _ (options : ReadOptions) (file : List ℕ) (instance : Instance) (rounded : ℕ) (few : length file ≤ most_bytes)
    (stand : StandForPriced options file instance rounded) (c : Certificate) (holds : CertificateHolds instance c) (text : List ℕ)
    (is : IsCertificateText text c) (short : length text ≤ most_certificate_bytes) (asked : Check) (before after : Outside)
    (same_shed : asked.shed ≡ options.shed) (same_spill : asked.spill_reserve ≡ options.spill_reserve)
    (left : (before.files slot.Instance).left ≡ Some file) (left_text : (before.files slot.CertIn).left ≡ Some text)
    (calm : IsUndisturbed before after) where
  given_counted : StandForCounted false file stand.given rounded
  given_counted = stands_rounded options.exact file stand.given rounded stand.stand

  given_stands : StandFor false file stand.given
  given_stands = (given_counted.0, given_counted.1, given_counted.2)

  not_dear : pos MAX_SHORTAGE_COST <ℤ greatest_shortage_cost stand.given asked.shed asked.spill_reserve → ⊥
  not_dear dear =
      let fits = subst (λ shed. greatest_shortage_cost stand.given shed asked.spill_reserve ≤ℤ pos MAX_SHORTAGE_COST) (sym same_shed)
      (subst (λ spill. greatest_shortage_cost stand.given options.shed spill ≤ℤ pos MAX_SHORTAGE_COST) (sym same_spill) stand.priced.fits) in
      absurd (omega (arith, linear, dear, fits))

  -- so it is read by `check` too
  stands : StandForPriced (check_options asked) file instance rounded
  stands = record {
    given = stand.given;
    stand = given_counted;
    priced = record {
      priced = stand.priced.priced ∙ (λ i. record stand.given { a = sym same_shed i; b = sym same_spill i });
      fits = subst (λ shed. greatest_shortage_cost stand.given shed asked.spill_reserve ≤ℤ pos MAX_SHORTAGE_COST) (sym same_shed)
          (subst (λ spill. greatest_shortage_cost stand.given options.shed spill ≤ℤ pos MAX_SHORTAGE_COST) (sym same_spill) stand.priced.fits);
    };
  }

  not_refused : (bytes : List ℕ) → file ≡ bytes → (instance : Instance) → StandFor false file instance → ((i : Instance) → ¬ StandFor false bytes i) → ⊥
  not_refused bytes same instance stand none = none instance (subst (λ b. StandFor false b instance) same stand)

  not_too_dear : (bytes : List ℕ) (refusal : FieldRefusal) → file ≡ bytes → IsTooDear (check_options asked) bytes refusal → ⊥
  not_too_dear bytes refusal same dear =
      let one = dear.only stand.given (subst (λ b. StandFor false b stand.given) same given_stands) in
      not_dear (subst (λ i. pos MAX_SHORTAGE_COST <ℤ greatest_shortage_cost i asked.shed asked.spill_reserve) (sym one) dear.dear)

  -- no fault of the instance's file has a cause, but want of memory
  instance_read : (fault : Fault) → HasCause (check_options asked) (before.files slot.Instance) (after.files slot.Instance) fault → status_of fault ≡ 8
  instance_read (Read slot.Instance) cause = absurd (calm.instance cause)
  instance_read Memory cause = refl
  instance_read (Long slot.Instance) cause = absurd (not_long (before.files slot.Instance) file most_bytes left few cause.long)
  instance_read (Json at kind) cause =
      absurd (not_refused cause.bytes (told_is (before.files slot.Instance) file cause.bytes left cause.told) stand.given given_stands cause.refused.none)
  instance_read (Refused refusal) cause =
      let same = told_is (before.files slot.Instance) file cause.bytes left cause.told in
      absurd (⊎_elim
      (λ (refused : IsRefused false cause.bytes (read_fault.Refused refusal)). not_refused cause.bytes same stand.given given_stands refused.none)
      (λ (dear : IsTooDear (check_options asked) cause.bytes refusal). not_too_dear cause.bytes refusal same dear)
      cause.refused)
  instance_read _ cause = absurd cause

  -- nor one of the certificate's, for this instance
  certificate_read : (fault : Fault) → HasCertificateCause instance (before.files slot.CertIn) (after.files slot.CertIn) fault → status_of fault ≡ 8
  certificate_read (Read slot.CertIn) cause = absurd (calm.certificate cause)
  certificate_read Memory cause = refl
  certificate_read (Long slot.CertIn) cause = absurd (not_long (before.files slot.CertIn) text most_certificate_bytes left_text short cause.long)
  certificate_read (Line line kind) cause =
      absurd (cause.faulty.none c
      (subst (λ b. IsCertificateText b c) (told_is (before.files slot.CertIn) text cause.bytes left_text cause.told) is))
  certificate_read (Code code) cause =
      let same = told_is (before.files slot.CertIn) text cause.is.bytes left_text cause.is.told in
      let one = same_certificate text c cause.certificate is (subst (λ b. IsCertificateText b cause.certificate) (sym same) cause.is.is) in
      absurd (cause.fails (subst (CertificateHolds instance) one holds))
  certificate_read _ cause = absurd cause

  late : (fault : Fault) → IsCertificateFault asked before after fault → status_of fault ≡ 8
  late fault cause =
      let same = told_is (before.files slot.Instance) file cause.read.bytes left cause.read.told in
      let one = cause.read.only instance rounded (subst (λ b. StandForPriced (check_options asked) b instance rounded) same stands) in
      certificate_read fault
      (subst (λ i. HasCertificateCause i (before.files slot.CertIn) (after.files slot.CertIn) fault) (sym one) cause.cause)

  failed : (fault : Fault) (found : Option Found) → IsCheckFailure asked before after fault found → status_of fault ≡ 8
  failed (Write true) None failure = absurd (calm.out failure.report.rose)
  failed fault (Some found) failure = absurd failure
  failed fault None failure = ⊎_elim
      (λ (early : IsInstanceFault asked before after fault). instance_read fault early.cause)
      (λ (cause : IsCertificateFault asked before after fault). late fault cause)
      failure.cause

pub accepted_for : (options : ReadOptions) (file : SlotState) (instance : Instance) (rounded : ℕ) (c : Certificate) (version : Version)
    → (read : HasInstance options file instance rounded) → CertificateHolds instance c → HasText version (listing_of c) → IsLittle (listing_of c)
    → IsAcceptedFor options.shed options.spill_reserve read.bytes (certificate_text version c)
accepted_for options file instance rounded c version read holds text little asked before after end same_shed same_spill left left_text calm run =
    let is : IsCertificateText (certificate_text version c) c = record { version = version; conditions = text; text = refl } in
    ⊎_elim
    (λ (answered : IsAnswered (IsAccepting asked before after) before.err after.err end). inl answered.done.code)
    (λ (faulty : IsFaulty (IsCheckFailure asked before after) before.err after.err end).
    inr (faulty.code ∙ failed options read.bytes instance rounded read.few read.stand c holds (certificate_text version c) is
    (text_short version c text little) asked before after same_shed same_spill left left_text calm faulty.fault end.found faulty.failure))
    run.ended
