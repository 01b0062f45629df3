-- What a certificate that was read says: the listing that it stands for. This project's own format.
use Rattle.std.specs.Prelude.{◌≡◌, ℕ, true, false, List, map}
use Rattle.dual_model.specs.Prelude.{Certificate, Bound, Ray, Empty}
use Rattle.branch_tree.specs.Prelude.{written_of}
use Rattle.cert_text.specs.declared.cert.Cert.{Cert}
use Rattle.cert_text.specs.declared.cert.CertNode.{CertNode}
use Rattle.cert_text.specs.declared.cert.CertNode.TheVariants as nodes
use Rattle.cert_text.specs.CertificateText.{Version, TreeNode, LeafNode, SplitNode, Listing, listing_of, certificate_text}
use Rattle.cert_text.specs.TextConditions.{HasText}

abbrev pub node_of : CertNode → TreeNode
node_of (nodes.Split g t) = SplitNode g t
node_of (nodes.Bound table) = LeafNode (Bound false table)
node_of (nodes.Ray table) = LeafNode (Ray false table)
node_of (nodes.Empty g) = LeafNode (Empty false g)
node_of (nodes.Exact table) = LeafNode (Bound true table)
node_of (nodes.ExactRay table) = LeafNode (Ray true table)
node_of (nodes.ExactEmpty g) = LeafNode (Empty true g)

abbrev pub listing_read : Cert → Listing
listing_read cert = record {
  periods = cert.periods;
  thermal = cert.thermal;
  renewable = cert.renewable;
  a = cert.a;
  b = cert.b;
  bound = cert.bound;
  schedule = written_of cert.schedule;
  tables = cert.tables;
  nodes = map node_of cert.tree;
}

-- the bytes are the text of a certificate in some version, which has this listing
pub record IsTextOf (bytes : List ℕ) (cert : Cert) : Type 0 where
  pub version : Version
  pub certificate : Certificate
  pub listed : listing_of certificate ≡ listing_read cert
  pub conditions : HasText version (listing_of certificate)
  pub text : bytes ≡ certificate_text version certificate
