-- What the steps of the check say of any certificate that has the listing that was read.
use Rattle.std.proofs.Common.{arith, ◌≡◌, ℕ, suc, ◌||◌, refl, sym, ap, subst, ◌∙◌, List, [], ◌∷◌, length, All, ℤ, Option, Some, None, map, slice_get, append-nil}
use Rattle.std.specs.List.{list_any}
use Rattle.std.proofs.lemmas.Option.{get_or_from_slice_get, slice_get_within}
use Rattle.std.proofs.lemmas.List.Elements.{All-get_or, All-take}
use Rattle.uc_model.specs.declared.refusal.Refusal.TheVariants as codes
use Rattle.uc_model.specs.Prelude.{Obeys, printed_denominator, printed_schedule}
use Rattle.uc_model.proofs.Common.{rule_at}
use Rattle.schedule_check.specs.FirstBroken.{IsFirstBroken}
use Rattle.dual_model.specs.Prelude.{IsLawfulTable, root, Bound, has_bound, Certificate, CertificateHolds, WrittenSchedule}
use Rattle.branch_tree.specs.Prelude.{written_of}
use Rattle.cert_text.specs.CertificateText.{Listing, listing_of, TreeNode, LeafNode, preorder, IsNodeWithin}
use Rattle.cert_text.specs.TextConditions.{IsTableText, HasText}
use Rattle.cert_text.specs.Reading.{listing_read, node_of}
use Rattle.cert_text.specs.declared.cert.CertNode.TheVariants as nodes
use Rattle.cert_check.specs.Answers.{Cert, Instance, IsRead, cost_of}
use Rattle.cert_check.specs.Visits.{visits, IsSound}
use Rattle.cert_check.specs.Refusals.{Refusal, HasSize, HasPrices, HasTables, HasSchedule, ClaimFits, HasClaim, IsFirstUnlawful, IsFirstUnsound, IsUnsoundAt, IsRefusedBy, refusal_of}
use Rattle.cert_check.specs.inside.Nodes.{AreCheckable, IsCodeOf}
use Rattle.cert_check.specs.inside.Numbers.{HasLawfulNumbers, IsFirstOff}
use Rattle.cert_check.specs.inside.Schedules.{IsCostOf, IsScheduleFault}
use Rattle.cert_check.specs.inside.Steps.{CertNode, FitsInstance, ReadsPrices, ReadClaimFits, is_bound_leaf}
use Rattle.cert_check.specs.inside.Walks.{walk, all_visits}
use Rattle.cert_check.proofs.Certificates.{is_bound_node, any-preorder, holds-from, fits-of, sound-of}
use Rattle.cert_check.proofs.Pending.{walk-preorder}
use Rattle.cert_check.proofs.TextFacts.{lawful-table}

-- the certificate has the listing
abbrev Listed : Certificate → Cert → Type 0
Listed c cert = listing_of c ≡ listing_read cert

pub text-of : (c : Certificate) (cert : Cert) → Listed c cert → (read : IsRead cert) → HasText read.version (listing_of c)
text-of c cert e read = subst (HasText read.version) (read.listed ∙ sym e) read.conditions

-- ---- size, prices, tables
pub size-from : (instance : Instance) (c : Certificate) (cert : Cert) → Listed c cert → FitsInstance instance cert → HasSize instance c
size-from instance c cert e fits = grind (arith, e, fits)

pub prices-from : (instance : Instance) (c : Certificate) (cert : Cert) → Listed c cert → ReadsPrices instance cert → HasPrices instance c
prices-from instance c cert e reads = grind (arith, e, reads)

tables-is : (c : Certificate) (cert : Cert) → Listed c cert → c.tables ≡ cert.tables
tables-is c cert e = ap (λ (l : Listing). l.tables) e

pub tables-from : (instance : Instance) (c : Certificate) (cert : Cert) → Listed c cert → IsRead cert → FitsInstance instance cert
    → ReadsPrices instance cert → All HasLawfulNumbers cert.tables → HasTables instance c
tables-from instance c cert e read fits reads numbers = grind (arith, e, read, fits, reads, numbers)

-- ---- the schedule
pub schedule-is : (c : Certificate) (cert : Cert) → Listed c cert → c.schedule ≡ written_of cert.schedule
schedule-is c cert e = ap (λ (l : Listing). l.schedule) e

pub schedule-from : (instance : Instance) (c : Certificate) (cert : Cert) → Listed c cert → IsRead cert → FitsInstance instance cert
    → ReadsPrices instance cert → All HasLawfulNumbers cert.tables → (cost : Option ℤ) → IsCostOf instance (written_of cert.schedule) cost → HasSchedule instance c
schedule-from instance c cert e read fits reads numbers cost is = grind (arith, e, read, fits, reads, numbers, is)

-- ---- the claim
leaf-bound : (node : CertNode) → is_bound_leaf node ≡ is_bound_node (node_of node)
leaf-bound (nodes.Split g t) = refl
leaf-bound _ = refl

any-bound : (cert : List CertNode) → list_any is_bound_leaf cert ≡ list_any is_bound_node (map node_of cert)
any-bound [] = refl
any-bound (node ∷ rest) = λ i. leaf-bound node i || any-bound rest i

nodes-is : (c : Certificate) (cert : Cert) → Listed c cert → preorder c.tree ≡ map node_of cert.tree
nodes-is c cert e = ap (λ (l : Listing). l.nodes) e

has-bound-is : (c : Certificate) (cert : Cert) → Listed c cert → list_any is_bound_leaf cert.tree ≡ has_bound c.tree
has-bound-is c cert e = any-bound cert.tree ∙ ap (λ xs. list_any is_bound_node xs) (sym (nodes-is c cert e)) ∙ any-preorder c.tree

pub bound-is : (c : Certificate) (cert : Cert) → Listed c cert → c.bound ≡ cert.bound
bound-is c cert e = ap (λ (l : Listing). l.bound) e

claim-to : (c : Certificate) (cert : Cert) (bound : Option ℤ) → Listed c cert → ReadClaimFits cert bound → ClaimFits c bound
claim-to c cert (Some b) e fits = sym (has-bound-is c cert e) ∙ fits
claim-to c cert None e fits = (schedule-is c cert e ∙ fits.0, sym (has-bound-is c cert e) ∙ fits.1)

claim-back : (c : Certificate) (cert : Cert) (bound : Option ℤ) → Listed c cert → ClaimFits c bound → ReadClaimFits cert bound
claim-back c cert (Some b) e fits = has-bound-is c cert e ∙ fits
claim-back c cert None e fits = (sym (schedule-is c cert e) ∙ fits.0, has-bound-is c cert e ∙ fits.1)

pub claim-fits : (c : Certificate) (cert : Cert) → Listed c cert → ReadClaimFits cert cert.bound → ClaimFits c c.bound
claim-fits c cert e fits = claim-to c cert c.bound e (subst (λ b. ReadClaimFits cert b) (sym (bound-is c cert e)) fits)

pub claim-misfits : (c : Certificate) (cert : Cert) → Listed c cert → ¬ ReadClaimFits cert cert.bound → ¬ ClaimFits c c.bound
claim-misfits c cert e misfits fits = misfits (subst (λ b. ReadClaimFits cert b) (bound-is c cert e) (claim-back c cert c.bound e fits))

-- ---- the nodes
pub visits-is : (c : Certificate) (cert : Cert) → Listed c cert → all_visits cert.tree ≡ visits root c.tree
visits-is c cert e =
    ap (λ xs. walk (root ∷ []) xs) (sym (nodes-is c cert e) ∙ sym (append-nil (preorder c.tree)))
    ∙ walk-preorder root c.tree [] [] ∙ append-nil (visits root c.tree)

pub within-of : (c : Certificate) (cert : Cert) → Listed c cert → IsRead cert → All (IsNodeWithin c.periods c.thermal (length c.tables)) (preorder c.tree)
within-of c cert e read = λ k d within. ((text-of c cert e read).nodes k d within).within

-- what the walk over the nodes wants
pub checkable : (instance : Instance) (cert : Cert) → IsRead cert → FitsInstance instance cert → All HasLawfulNumbers cert.tables → AreCheckable instance cert
checkable instance cert read fits numbers = grind (arith, read, fits, numbers)

-- ---- the answers
-- a schedule that breaks a rule doesn't obey
breaks-obeys : (instance : Instance) (written : WrittenSchedule) (rule unit period : ℕ)
    → (let q = printed_denominator instance written.printed in
    IsFirstBroken instance q (printed_schedule instance written.printed q) (record { rule = rule; unit = unit; period = period }))
    → (let q = printed_denominator instance written.printed in Obeys instance q (printed_schedule instance written.printed q)) → ⊥
breaks-obeys instance written rule unit period broken obeys = grind (arith, rule_at, broken, obeys)

-- an element of each kind is none
not-all : {A : Type 0} (P : A → Type 0) (xs : List A) (i : ℕ) (x : A) → slice_get xs i ≡ Some x → ¬ P x → ¬ All P xs
not-all P xs i x e fails all = grind (arith, get_or_from_slice_get, All-get_or, slice_get_within, e, fails, all)

-- the first table with a number that isn't lawful isn't lawful, and those before it are
pub refused-1 : (instance : Instance) (c : Certificate) (cert : Cert) (i number : ℕ) → Listed c cert → IsRead cert → FitsInstance instance cert
    → ReadsPrices instance cert → IsFirstOff cert.tables i → number ≡ suc i → IsRefusedBy instance c (codes.C1 number) × (¬ CertificateHolds instance c)
refused-1 instance c cert i number e read fits reads own n =
    let size = size-from instance c cert e fits in
    let off : IsFirstOff c.tables i = subst (λ tables. IsFirstOff tables i) (sym (tables-is c cert e)) own in
    let texts = All-take (IsTableText c.periods c.thermal) i c.tables (text-of c cert e read).tables in
    let unlawful : ¬ IsLawfulTable instance off.table = (λ lawful. off.off (record { signs = lawful.signs; limits = lawful.limits })) in
    let first : IsFirstUnlawful instance c.tables i = record {
      table = off.table;
      is_table = off.is_table;
      unlawful = unlawful;
      before = λ k d h. lawful-table instance c.periods c.thermal _ size.periods size.thermal (texts k d h) (off.before k d h);
    } in (
      (size, prices-from instance c cert e reads, i, n, first),
      λ holds. not-all (IsLawfulTable instance) c.tables i off.table off.is_table unlawful holds.tables,
    )

pub refused-schedule : (instance : Instance) (c : Certificate) (schedule : Option WrittenSchedule) (code : Refusal) → HasTables instance c → c.schedule ≡ schedule
    → IsScheduleFault instance schedule code → IsRefusedBy instance c code × (¬ CertificateHolds instance c)
refused-schedule instance c None code tables e fault = absurd fault
refused-schedule instance c (Some written) (codes.C2 rule unit period) tables e fault = (
  record { tables = tables; written = written; is_written = e; breaks = fault },
  λ holds. breaks-obeys instance written rule unit period fault (holds.schedule written e).obeys,
)
refused-schedule instance c (Some written) (codes.C3 cost computed) tables e fault = (
  record { tables = tables; written = written; is_written = e; miscosts = fault },
  λ holds. fault.differs (sym fault.is_cost ∙ (holds.schedule written e).cost ∙ sym fault.is_computed),
)
refused-schedule instance c (Some written) (codes.C1 table) tables e fault = absurd fault
refused-schedule instance c (Some written) _ tables e fault = absurd fault

pub refused-8 : (instance : Instance) (c : Certificate) (cert : Cert) → Listed c cert → HasSchedule instance c → ¬ ReadClaimFits cert cert.bound
    → IsRefusedBy instance c codes.C8 × (¬ CertificateHolds instance c)
refused-8 instance c cert e schedule misfits = grind (arith, claim-misfits, fits-of, e, schedule, misfits)

-- a code of a node that isn't sound
code-of : (instance : Instance) (c : Certificate) (node : TreeNode) (number : ℕ) → IsUnsoundAt instance c (refusal_of node number)
    → IsRefusedBy instance c (refusal_of node number)
code-of instance c (LeafNode (Bound exact table)) number at = at
code-of instance c _ number at = at

pub refused-node : (instance : Instance) (c : Certificate) (cert : Cert) (code : Refusal) → Listed c cert → HasClaim instance c → IsCodeOf instance cert code
    → IsRefusedBy instance c code × (¬ CertificateHolds instance c)
refused-node instance c cert code e claim first =
    let at : IsFirstUnsound instance c.tables c.bound (visits root c.tree) first.index first.visit =
    subst (λ all. IsFirstUnsound instance c.tables c.bound all first.index first.visit) (visits-is c cert e)
    (subst (λ bound. IsFirstUnsound instance c.tables bound (all_visits cert.tree) first.index first.visit) (sym (bound-is c cert e))
    (subst (λ tables. IsFirstUnsound instance tables cert.bound (all_visits cert.tree) first.index first.visit) (sym (tables-is c cert e)) first.first)) in (
      subst (λ r. IsRefusedBy instance c r) (sym first.is_code)
          (code-of instance c first.visit.node (suc first.index) (record { claim = claim; index = first.index; visit = first.visit; first = at; is_code = refl })),
      λ holds. not-all (IsSound instance c.tables c.bound) (visits root c.tree) first.index first.visit at.is_visit at.unsound (sound-of instance c holds),
    )

-- and where each node is sound the certificate holds
pub accepted : (instance : Instance) (c : Certificate) (cert : Cert) → Listed c cert → IsRead cert → HasClaim instance c
    → All (IsSound instance cert.tables cert.bound) (all_visits cert.tree) → CertificateHolds instance c
accepted instance c cert e read claim all =
    holds-from instance c claim (within-of c cert e read)
    (subst (λ visited. All (IsSound instance c.tables c.bound) visited) (visits-is c cert e)
    (subst (λ bound. All (IsSound instance c.tables bound) (all_visits cert.tree)) (sym (bound-is c cert e))
    (subst (λ tables. All (IsSound instance tables cert.bound) (all_visits cert.tree)) (sym (tables-is c cert e)) all)))

pub cost-is : (c : Certificate) (cert : Cert) (instance : Instance) (cost : Option ℤ) → Listed c cert → IsCostOf instance (written_of cert.schedule) cost
    → cost ≡ cost_of c.schedule
cost-is c cert instance cost e is = grind (arith, e, is)
