-- Words that are taken name one of the commands.
use Rattle.std.proofs.Common.{◌≡◌, ◌∙◌, ◌⊎◌, ◌&&◌, Bool, cond, true, false, refl, sym, ap, subst, ⊎_elim, true≢false, List, [], ◌∷◌, Option, Some, None, is_some, option_map, option_and_then, find, not}
use Rattle.std.specs.List.{list_any}
use Rattle.clap.specs.Words.{App, HasMatchesOf, IsAmong, Kinds, Text, fault_of, is_simple, is_simple_and_free, subcommand_of, subcommand_rows_of}
use Rattle.clap.specs.declared.error.kind.ErrorKind.{ErrorKind}
use Rattle.clap.specs.declared.error.kind.ErrorKind.TheVariants as kind
use Rattle.clap.specs.declared.parser.matches.ArgMatches.{ArgMatches}
use Rattle.clap.specs.Facts.{explicit_source}
use Rattle.clap.specs.Takes.{is_given}
use Rattle.clap.specs.Kinds.{check_kinds, or_else}
use Rattle.clap.specs.Faults.{level_fault, entered_fault, defaults_fault, settle_fault, walk_fault}
use Rattle.clap.specs.Simple.{argument_words, built, entered, label_of, names_of, rows_at, Shape}
use Rattle.clap.specs.Walk.{Names, answers_to, finished, nothing_held, settled, stop_after, walk, walk_from}
use Rattle.command_line.specs.Arguments.{program, is_none, is_taken}
use Rattle.command_line.specs.Command.{command_of, named}
use Rattle.command_line.specs.Asked.{CommandWords, command_asked, refusal_of, IsRefusal}

-- where neither of two steps fails, the second doesn't
second : (a b : Kinds) → or_else a b ≡ [] → b ≡ []
second [] b e = e
second (k ∷ ks) b e = absurd (cc)

no_kinds : (kinds : Kinds) → is_none kinds ≡ true → kinds ≡ []
no_kinds [] e = refl
no_kinds (k ∷ kinds) e = absurd (true≢false (sym e))

-- a command that is missing is an error, unless help comes first
missing : (help needed argument : Bool) → help ≡ false → needed ≡ true → check_kinds help needed argument ≡ [] → ⊥
missing true needed argument h n e = true≢false h
missing false true argument h n e = cc
missing false false argument h n e = true≢false (sym n)

-- where a level that needs a command doesn't fail, there is one
has_command : (s : Shape) (names : Names) (words : List Text) (has : Bool) (below : Kinds) → s.subcommand_required ≡ true
    → s.arg_required_else_help ≡ false → level_fault s names nothing_held words has below ≡ [] → has ≡ true
has_command s names words true below needed quiet e = refl
has_command s names words false below needed quiet e =
    let end = (walk s.rules names nothing_held words).held in
    let rows = finished s.rules end in
    let last : check_kinds (s.arg_required_else_help && not (list_any (λ r. explicit_source r.source) rows)) s.subcommand_required
    (not (s.subcommand_negates_reqs && false) && list_any (λ a. a.required && not (is_given a.id rows)) s.rules) ≡ [] =
    second (defaults_fault (settled s.rules end).rows s.rules) _
    (second (settle_fault s.rules s.args_override_self end) _
    (second below _ (second (walk_fault s names (walk_from nothing_held) words) _ e))) in
    absurd (missing _ _ _ (ap (λ b. b && not (list_any (λ r. explicit_source r.source) rows)) quiet) needed last)

-- the program has this command, whatever is found for its arguments
abbrev IsNamed : Shape → Type 0
IsNamed s = (rest : List Text) → is_some (named (rows_at s rest)) ≡ true

abbrev AreNamed : List Shape → Type 0
AreNamed [] = Unit {0}
AreNamed (s ∷ commands) = IsNamed s × AreNamed commands

-- the first of some commands of which a test holds is one that the program has
found-named : (p : Shape → Bool) (rest : List Text) (commands : List Shape) → AreNamed commands
    → is_some (option_map (λ s. rows_at s rest) (find p commands)) ≡ true
    → is_some (option_and_then named (option_map (λ s. rows_at s rest) (find p commands))) ≡ true
found-named p rest [] each e = absurd (true≢false (sym e))
found-named p rest (s ∷ commands) each e = go (p s) (found-named p rest commands each.1) e
  where
    go : (b : Bool)
        → (is_some (option_map (λ s. rows_at s rest) (find p commands)) ≡ true
        → is_some (option_and_then named (option_map (λ s. rows_at s rest) (find p commands))) ≡ true)
        → is_some (option_map (λ s. rows_at s rest) (cond b (Some s) (find p commands))) ≡ true
        → is_some (option_and_then named (option_map (λ s. rows_at s rest) (cond b (Some s) (find p commands)))) ≡ true
    go true later f = each.0 rest
    go false later f = later f

entered-named : (stop : Option (Text × List Text)) → is_some (entered (built program) stop) ≡ true
    → is_some (option_and_then named (entered (built program) stop)) ≡ true
entered-named None e = absurd (true≢false (sym e))
entered-named (Some p) e =
    found-named (λ s. answers_to p.0 (label_of s)) p.1 (built program).subs (λ rest. refl, (λ rest. refl, (λ rest. refl, (λ rest. refl, (λ rest. refl, (λ rest. refl, tt)))))) e

pub names_a_command : (words : List Text) → is_taken words ≡ true → is_some (command_of words) ≡ true
unfolding is_taken command_of
names_a_command words taken =
    let a = built program in
    let given = argument_words program words in
    let stop = stop_after a.top.rules (names_of a) given in
    let one = has_command a.top (names_of a) given (is_some (entered a stop)) (entered_fault a stop) refl refl (no_kinds _ taken) in
    rw taken (entered-named stop one)

-- ---- what a parse gave

free : is_simple_and_free program ≡ true
free = refl

pub taken : (app : App) (words : List Text) → app ≡ program → (is_simple_and_free app ≡ true → fault_of app words ≡ [])
    → is_taken words ≡ true
unfolding is_taken
taken app words is none =
    let no_fault : fault_of program words ≡ [] = ap (λ a. fault_of a words) (sym is) ∙ none (ap is_simple_and_free is ∙ free) in
    rw no_fault refl

pub found : (app : App) (words : List Text) (matches : ArgMatches) (command : Option CommandWords) → app ≡ program
    → is_taken words ≡ true → HasMatchesOf app words matches
    → option_map command_asked command ≡ option_and_then named (subcommand_rows_of matches)
    → option_map command_asked command ≡ command_of words
unfolding command_of
found app words matches command is took has e =
    let rows : subcommand_rows_of matches ≡ subcommand_of program words =
    (has (ap is_simple is)).1 ∙ ap (λ a. subcommand_of a words) is in
    e ∙ rw took (ap (option_and_then named) rows)

-- a command is found
pub none_missing : (words : List Text) → is_taken words ≡ true → None ≡ command_of words → ⊥
none_missing words took none = true≢false (sym (names_a_command words took) ∙ ap is_some (sym none))

some_fault : (k : ErrorKind) (kinds : Kinds) → IsAmong k kinds → is_none kinds ≡ false
some_fault k [] among = absurd among
some_fault k (x ∷ kinds) among = refl

not_memory : (words : List Text) (k : ErrorKind) → IsAmong k (fault_of program words) → IsRefusal words (refusal_of k)
unfolding is_taken
not_memory words kind.OutOfMemory among = tt
not_memory words k among = some_fault k (fault_of program words) among

pub refused : (app : App) (words : List Text) (k : ErrorKind) → app ≡ program
    → (is_simple_and_free app ≡ true → (k ≡ kind.OutOfMemory) ⊎ IsAmong k (fault_of app words)) → IsRefusal words (refusal_of k)
refused app words k is fails = ⊎_elim
    (λ (memory : k ≡ kind.OutOfMemory). subst (λ x. IsRefusal words (refusal_of x)) (sym memory) tt)
    (λ (among : IsAmong k (fault_of app words)). not_memory words k (subst (λ a. IsAmong k (fault_of a words)) is among))
    (fails (ap is_simple_and_free is ∙ free))
