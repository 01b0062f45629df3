use Rattle.std.proofs.Common.{◌≡◌, drop, map}
use Rattle.decimal_json.specs.View.{pair_view}
use Rattle.instance.specs.Fields.{field_of}
use Rattle.instance.proofs.object.member.Given as goal

abbrev pub invariant-loop-pair : goal.invariant-loop-pair
invariant-loop-pair l = field_of l.key (map pair_view (drop l.pair-index l.members)) ≡ field_of l.key (map pair_view l.members)
