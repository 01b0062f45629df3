-- A certificate is told by its listing, and so bytes are the text of one certificate at most, in whichever version.
use Rattle.std.proofs.Common.{arith, ◌≡◌, ◌∙◌, sym, ap, List, [], ◌∷◌, ◌++◌, ℕ, append-nil, append_assoc}
use Rattle.dual_model.specs.Prelude.{Tree, Ends, Splits, Leaf, Certificate}
use Rattle.cert_text.specs.CertificateText.{Listing, TreeNode, SplitNode, preorder, listing_of, certificate_text}
use Rattle.cert_text.proofs.GrammarLaws.{texts_apart}
use Rattle.command_runs.specs.Prelude.{IsCertificateText}
use Rattle.uc_check.specs.Upgrading.{TellTheSame}

-- nodes in preorder tell their tree, and where they end
tree_in_front : (tree other : Tree Leaf) (more rest : List TreeNode) → preorder tree ++ more ≡ preorder other ++ rest → (tree ≡ other) × (more ≡ rest)
tree_in_front (Ends leaf) (Ends other) more rest e = grind (arith, leaf, e)
tree_in_front (Ends leaf) (Splits g t off on) more rest e = grind (arith, leaf, g, t, off, on, e)
tree_in_front (Splits g t off on) (Ends leaf) more rest e = grind (arith, g, t, off, on, leaf, e)
tree_in_front (Splits g t off on) (Splits h u low high) more rest e =
    let nodes : SplitNode g t ∷ ((preorder off ++ preorder on) ++ more) ≡ SplitNode h u ∷ ((preorder low ++ preorder high) ++ rest) = e in
    let unit : g ≡ h = cc in
    let period : t ≡ u = cc in
    let behind : (preorder off ++ preorder on) ++ more ≡ (preorder low ++ preorder high) ++ rest = cc in
    let first = tree_in_front off low (preorder on ++ more) (preorder high ++ rest)
    (sym (append_assoc (preorder off) (preorder on) more) ∙ behind ∙ append_assoc (preorder low) (preorder high) rest) in
    let second = tree_in_front on high more rest first.1 in
    ((λ i. Splits (unit i) (period i) (first.0 i) (second.0 i)), second.1)

one_certificate : (one other : Certificate) → listing_of one ≡ listing_of other → one ≡ other
one_certificate one other e =
    let nodes = ap (λ (l : Listing). l.nodes) e in
    let trees = tree_in_front one.tree other.tree [] [] (append-nil (preorder one.tree) ∙ nodes ∙ sym (append-nil (preorder other.tree))) in
    λ i. record {
      periods = (e i).periods;
      thermal = (e i).thermal;
      renewable = (e i).renewable;
      a = (e i).a;
      b = (e i).b;
      bound = (e i).bound;
      schedule = (e i).schedule;
      tables = (e i).tables;
      tree = trees.0 i;
    }

pub same_certificate : (bytes : List ℕ) (one other : Certificate) → IsCertificateText bytes one → IsCertificateText bytes other → one ≡ other
same_certificate bytes one other first second =
    let texts : certificate_text first.version one ++ [] ≡ certificate_text second.version other =
    append-nil (certificate_text first.version one) ∙ sym first.text ∙ second.text in
    one_certificate one other (texts_apart first.version second.version one other [] first.conditions second.conditions texts).0

-- where bytes are the text of a certificate, and other bytes are so too, no other certificate has either text
pub tell_the_same : (one other : List ℕ) (certificate : Certificate) → IsCertificateText one certificate → IsCertificateText other certificate
    → TellTheSame one other
tell_the_same one other certificate first second = grind (arith, same_certificate, first, second)
