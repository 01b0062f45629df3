-- By which values a search evaluates. This project's own form.
use Rattle.std.specs.Prelude.{◌≡◌, Bool}
use Rattle.branch_tree.specs.declared.found.Entry.{Entry}

-- the entry's outcome is by VE where that is asked, and else by V
abbrev pub IsOfKind : Bool → Entry → Type 0
IsOfKind exact entry = entry.exact ≡ exact
