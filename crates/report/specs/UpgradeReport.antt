-- The report of a certificate that was written anew. This project's own form.
use Rattle.std.specs.Prelude.{ℕ, List, [], codes}
use Rattle.outside.specs.Lines.{line}

abbrev pub upgrade_report : List ℕ
upgrade_report = line (codes "upgraded") []
