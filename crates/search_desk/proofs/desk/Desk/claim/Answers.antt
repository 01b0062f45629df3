-- The claim that was made is held.
use Rattle.search_desk.proofs.Claimed.{claim_held}
use Rattle.search_desk.proofs.desk.Desk.claim.Goals as goal

pub held-requires : goal.held-requires
held-requires g c =
    claim_held c.look-seen.new.self.book c.take.new.self.book c.args.me c.args.node c.in-Mine.unit c.in-Mine.had c.in-Mine.ensures
