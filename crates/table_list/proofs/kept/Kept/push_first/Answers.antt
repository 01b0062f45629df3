-- The first table is kept whole.
use Rattle.std.proofs.Common.{[], length, refl, sym, ap, append-nil, arith, rules}
use Rattle.table_list.specs.inside.Kept.{told_in}
use Rattle.table_list.proofs.Pushes.{both_on_ok, listed_whole}
use Rattle.table_list.proofs.kept.Kept.push_first.Goals as goal

pub returns : goal.returns
returns c =
    let old = c.args.self.now in
    let both = both_on_ok c.push_whole.result
    (listed_whole old old c.push_whole.new.self [] c.args.table.now c.len-start.result c.requires.listed.all c.requires.formed (search rules)
    refl refl (sym (append-nil (told_in old))) (λ some. absurd (omega (arith, ap length c.requires.listed.end))))
    c.push_whole.ensures in
    record { listed = both.0; tables = both.1 }
