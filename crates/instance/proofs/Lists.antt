-- Lemmas on lists under the names that a tactic's list can have.
use Rattle.std.proofs.lemmas.List.{take-map, length-map}

pub ruleset taking = (take-map, length-map)
