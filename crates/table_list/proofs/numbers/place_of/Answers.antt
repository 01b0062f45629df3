-- Rows that rise are before the row up to its place.
use Rattle.std.proofs.Common.{rules, arith}
use Rattle.std.proofs.lemmas.List.Sorted.{IsPartitionPoint-from_clause}
use Rattle.table_list.specs.Changes.{is_before}
use Rattle.table_list.proofs.Places.{parted, behind_place}
use Rattle.table_list.proofs.numbers.place_of.Goals as goal

pub returns : goal.returns
returns c =
    let rows = c.args.rows.now in
    let row = c.args.row.now in
    let point = IsPartitionPoint-from_clause (λ other. is_before other row) rows c.partition_point.result c.partition_point.ensures.partitioned (parted rows row c.requires) (λ a r q k. search rules) in
    record {
      within = c.partition_point.ensures.bound;
      behind = behind_place rows row c.partition_point.result c.partition_point.ensures.bound (λ k d low high. point.0 k d low high);
      front = λ d lt. point.1 c.partition_point.result d (omega arith) lt;
    }
