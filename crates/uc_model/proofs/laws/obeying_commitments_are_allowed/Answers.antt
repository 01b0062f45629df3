use Rattle.uc_model.proofs.Obeyed.{cap-obeying, is_allowed-obeying}
use Rattle.uc_model.proofs.laws.obeying_commitments_are_allowed.Goals as goal

pub returns : goal.returns
returns c = record {
  caps = λ instance q x g t lawful obeys hg ht on. cap-obeying instance q x g t obeys hg ht (lawful.thermal g hg);
  allowed = λ instance q x g lawful obeys hg. is_allowed-obeying instance q x g lawful.periods.0 obeys hg (lawful.thermal g hg);
}
