use Rattle.std.proofs.Common.{◌+◌, ◌-◌, ◌*◌, map, length}
use Rattle.decimal_json.specs.inside.Scan.{knows}
use Rattle.decimal_json.specs.View.{view, pair_view}
use Rattle.decimal_json.proofs.Values.{HasItems, HasMembers}
use Rattle.decimal_json.proofs.value.+value.Given as goal

abbrev pub decreases-value : goal.decreases-value
decreases-value l = 3 * l.room

abbrev pub decreases-array : goal.decreases-array
decreases-array l = 3 * l.room + 2

abbrev pub decreases-object : goal.decreases-object
decreases-object l = 3 * l.room + 2

abbrev pub decreases-members : goal.decreases-members
decreases-members l = 3 * l.room + 1

abbrev pub invariant-array-loop-items : goal.invariant-array-loop-items
invariant-array-loop-items l = HasItems l.source l.start l.at l.room (map view l.items.items)

abbrev pub decreases-array-loop-items : goal.decreases-array-loop-items
decreases-array-loop-items l = length l.source - l.at

abbrev pub invariant-members-loop-key : goal.invariant-members-loop-key
invariant-members-loop-key l = HasMembers l.source l.start l.at l.room (map pair_view l.pairs.items) (knows l.places)

abbrev pub decreases-members-loop-key : goal.decreases-members-loop-key
decreases-members-loop-key l = length l.source - l.at
