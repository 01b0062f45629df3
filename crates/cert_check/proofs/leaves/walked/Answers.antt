-- Each turn makes one visit, of the node at hand.
use Rattle.std.proofs.Common.{◌≡◌, ◌↔◌, ℕ, suc, ◌+◌, ◌<◌, ◌≤◌, Bool, IsTrue, List, length, arith, sym, ap, subst, ◌∙◌, false, true≢false}
use Rattle.uc_model.specs.Prelude.{thermal_count}
use Rattle.cert_text.specs.CertificateText.{IsNodeWithin, TreeNode}
use Rattle.cert_text.specs.Reading.{node_of}
use Rattle.cert_text.specs.declared.cert.Cert.{Cert}
use Rattle.cert_check.specs.Refusals.{Instance, Refusal, refusal_of}
use Rattle.cert_check.specs.Visits.{IsSound}
use Rattle.cert_check.specs.inside.Walks.{CertNode, Fixing, MayGoOn, StepsTo, visit_of}
use Rattle.cert_check.proofs.Turns.{each-mapped, may_go_on, node_at, visited-all, visited-end, visited-next, visited-unsound}
use Rattle.cert_check.proofs.leaves.walked.Goals as goal

pub loop-i-init : goal.loop-i-init
loop-i-init c = grind (arith, c)

pub is_sound-requires-clause-node : goal.is_sound-requires-clause-node
is_sound-requires-clause-node c =
    let cert = c.args.cert.now in
    let within : c.loop-i.i < length cert.tree = subst (λ (ns : List CertNode). c.loop-i.i < length ns) c.as_slice-nodes.ensures c.loop-i-test.true in
    subst (λ (ns : List CertNode). IsNodeWithin cert.periods cert.thermal (length cert.tables) (node_of (node_at ns c.loop-i.i))) (sym c.as_slice-nodes.ensures)
    (each-mapped (IsNodeWithin cert.periods cert.thermal (length cert.tables)) cert.tree c.loop-i.i c.requires.checkable.nodes within)

-- what is told of the node at hand, in the names of the certificate
abbrev IsTold : Instance → Cert → ℕ → List Fixing → Bool → Type 0
IsTold instance cert i path told = IsTrue told ↔ IsSound instance cert.tables cert.bound (visit_of path (node_at cert.tree i))

is_told : (instance : Instance) (cert : Cert) (i : ℕ) (path shown : List Fixing) (tree : List CertNode) (told : Bool) → tree ≡ cert.tree → shown ≡ path
    → IsTrue told ↔ IsSound instance cert.tables cert.bound (visit_of shown (node_at tree i)) → IsTold instance cert i path told
is_told instance cert i path shown tree told t p is = grind (arith, t, p, is)

numbered : (i : ℕ) (node : TreeNode) (code : Refusal) → code ≡ refusal_of node (i + 1) → code ≡ refusal_of node (suc i)
numbered i node code e = let next : i + 1 ≡ suc i = omega arith in e ∙ ap (λ n. refusal_of node n) next

pub returns-then-not-branch : goal.returns-then-not-branch
returns-then-not-branch c =
    let instance = c.args.instance.now in
    let cert = c.args.cert.now in
    let i = c.loop-i.i in
    let path = c.loop-i.path.items in
    let within : i < length cert.tree = subst (λ (ns : List CertNode). i < length ns) c.as_slice-nodes.ensures c.loop-i-test.true in
    let told = is_told instance cert i path c.deref.result.now c.as_slice-nodes.result.now c.in_ok-is_sound.field-0 c.as_slice-nodes.ensures c.deref.ensures.value c.in_ok-is_sound.ensures.sound in
    record {
      index = i;
      visit = visit_of path (node_at cert.tree i);
      first = visited-unsound instance cert.tables cert.bound cert.tree i path c.loop-i.invariant.visited within
          (λ sound. true≢false (sym (told.1 sound) ∙ c.if-not-branch.true));
      is_code = subst (λ (ns : List CertNode). c.code.result ≡ refusal_of (node_of (node_at ns i)) (suc i)) c.as_slice-nodes.ensures (numbered i (node_of (node_at c.as_slice-nodes.result.now i)) c.code.result c.code.ensures);
    }

pub returns-then-not-branch-2 : goal.returns-then-not-branch-2
returns-then-not-branch-2 c =
    let instance = c.args.instance.now in
    let cert = c.args.cert.now in
    let i = c.loop-i.i in
    let path = c.loop-i.path.items in
    let next = c.go_on.new.path.items in
    let within : i < length cert.tree = subst (λ (ns : List CertNode). i < length ns) c.as_slice-nodes.ensures c.loop-i-test.true in
    let told = is_told instance cert i path c.deref.result.now c.as_slice-nodes.result.now c.in_ok-is_sound.field-0 c.as_slice-nodes.ensures c.deref.ensures.value c.in_ok-is_sound.ensures.sound in
    visited-end instance cert.tables cert.bound cert.tree i path next c.loop-i.invariant.visited within (told.0 c.if-not-branch.false)
    (subst (λ (ns : List CertNode). StepsTo path (node_at ns i) next false) c.as_slice-nodes.ensures
    (subst (λ (going : Bool). StepsTo path (node_at c.as_slice-nodes.result.now i) next going) c.if-not-branch-2.true c.in_ok-go_on.ensures.steps))

pub loop-i-preserved : goal.loop-i-preserved
loop-i-preserved c =
    let instance = c.args.instance.now in
    let cert = c.args.cert.now in
    let i = c.loop-i.i in
    let path = c.loop-i.path.items in
    let next = c.go_on.new.path.items in
    let nodes = c.as_slice-nodes.result.now in
    let within : i < length cert.tree = subst (λ (ns : List CertNode). i < length ns) c.as_slice-nodes.ensures c.loop-i-test.true in
    let told = is_told instance cert i path c.deref.result.now nodes c.in_ok-is_sound.field-0 c.as_slice-nodes.ensures c.deref.ensures.value c.in_ok-is_sound.ensures.sound in
    let sound = told.0 c.if-not-branch.false in
    let node : IsNodeWithin cert.periods cert.thermal (length cert.tables) (node_of (node_at cert.tree i)) =
    each-mapped (IsNodeWithin cert.periods cert.thermal (length cert.tables)) cert.tree i c.requires.checkable.nodes within in
    let sized : IsNodeWithin instance.periods (thermal_count instance) (length cert.tables) (node_of (node_at cert.tree i)) =
    subst (λ n. IsNodeWithin instance.periods n (length cert.tables) (node_of (node_at cert.tree i))) c.requires.checkable.size.thermal
    (subst (λ n. IsNodeWithin n cert.thermal (length cert.tables) (node_of (node_at cert.tree i))) c.requires.checkable.size.periods node) in
    record {
      visited = grind (arith, visited-next, node_at, instance, cert, i, path, next, c, within, sound, nodes);
      path = c.in_ok-go_on.ensures.path instance c.loop-i.invariant.path
          (subst (λ (ns : List CertNode). MayGoOn instance path (node_at ns i)) (sym c.as_slice-nodes.ensures)
          (may_go_on instance cert.tables cert.bound path (length cert.tables) (node_at cert.tree i) sized sound));
      ready = c.in_ok-is_sound.ensures.ready;
    }

pub returns : goal.returns
returns c =
    let cert = c.args.cert.now in
    let nodes : length c.as_slice-nodes.result.now ≤ c.loop-i.i = omega arith in
    visited-all c.args.instance.now cert.tables cert.bound cert.tree c.loop-i.i c.loop-i.path.items c.loop-i.invariant.visited
    (subst (λ (ns : List CertNode). length ns ≤ c.loop-i.i) c.as_slice-nodes.ensures nodes)
