use Rattle.incumbent.proofs.best.Best.split.Given as goal

-- the new pass takes as many parts as the call names
abbrev pub ghosts-cut : goal.ghosts-cut
ghosts-cut a = record { taken = a._parts }
