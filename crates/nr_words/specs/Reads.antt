-- What is read of the words of a run.
use Rattle.std.specs.Prelude.{◌≡◌, ⊤, ℕ, ◌&&◌, Bool, true, false, nat_le, List, [], ◌∷◌, Option, Some, None, Result, Ok, Err}
use Rattle.std.specs.Borrow.{Bor}
use Rattle.std.specs.List.{list_any}
use Rattle.clap.specs.Words.{fault_of, subcommand_of}
use Rattle.clap.specs.declared.error.kind.ErrorKind.{ErrorKind}
use Rattle.clap.specs.declared.error.kind.ErrorKind.TheVariants as kinds
use Rattle.nr_words.specs.declared.commands.Command.{Command}
use Rattle.nr_words.specs.declared.commands.Command.TheVariants as commands
use Rattle.nr_words.specs.declared.commands.Client.{Client}
use Rattle.nr_words.specs.declared.commands.Action.{Action}
use Rattle.nr_words.specs.declared.commands.Action.TheVariants as actions
use Rattle.nr_words.specs.declared.words.WordsFault.{WordsFault}
use Rattle.nr_words.specs.declared.words.WordsFault.TheVariants as faults
use Rattle.nr_words.specs.Limits.{calls_max, client_number_max, clients_max, jobs_max, tries_max, units_max}
use Rattle.nr_words.specs.Lines.{Text, is_positional, line_of, plain_command}
use Rattle.nr_words.specs.Spelled.{spelled}
use Rattle.nr_words.specs.Program.{program_app}

-- whether a line can ask for this command
abbrev pub is_action : Action Text → Bool
is_action actions.Mount = true
is_action (actions.List path) = is_positional path
is_action (actions.Stat path) = is_positional path
is_action (actions.ReadLink path) = is_positional path
is_action (actions.MakeDirectory path) = is_positional path
is_action (actions.Remove path) = is_positional path
is_action (actions.Put path) = is_positional path
is_action (actions.Get path) = is_positional path
is_action (actions.Link path target) = is_positional path && is_positional target

abbrev pub are_units : ℕ → Bool
are_units units = nat_le 1 units && nat_le units units_max

-- several jobs, which a `get` can have
abbrev pub are_jobs : ℕ → Bool
are_jobs jobs = nat_le 2 jobs && nat_le jobs jobs_max

abbrev pub is_client : Client Text → Bool
is_client c = is_positional c.addr && is_positional c.export && are_units c.units && is_action c.action

-- the number of a client, and how often its link is dialled again
abbrev pub is_number : ℕ → Bool
is_number number = nat_le 1 number && nat_le number client_number_max

abbrev pub are_tries : ℕ → Bool
are_tries tries = nat_le tries tries_max

abbrev pub is_command : Command Text → Bool
is_command (commands.Serve config) = is_positional config
is_command (commands.Gate config) = is_positional config
is_command (commands.Client c) = is_client c
is_command (commands.NumberedClient c) = is_client c.client && is_number c.number && are_tries c.tries
is_command (commands.GetByJobs g) = is_positional g.addr && is_positional g.export && is_positional g.path && are_units g.units && are_jobs g.jobs
is_command (commands.Drill log) = true
is_command (commands.GeneratedDrill seed clients calls log) = nat_le 1 clients && nat_le clients clients_max && nat_le 1 calls && nat_le calls calls_max

abbrev pub is_some_command : Option (Command Text) → Bool
is_some_command None = false
is_some_command (Some command) = is_command command

-- help or the version is asked for
abbrev pub asks : ErrorKind → Bool
asks kinds.DisplayHelp = true
asks kinds.DisplayVersion = true
asks _ = false

-- the words are refused, for another cause than memory
abbrev pub refuses : ErrorKind → Bool
refuses kinds.DisplayHelp = false
refuses kinds.DisplayVersion = false
refuses kinds.OutOfMemory = false
refuses _ = true

-- an error of this kind as a fault; memory may run out while its text is made
abbrev pub IsFaultOf : ErrorKind → WordsFault → Type 0
IsFaultOf kind (faults.Asked text) = asks kind ≡ true
IsFaultOf kind (faults.Refused text) = refuses kind ≡ true
IsFaultOf kind faults.Bad = ⊥
IsFaultOf kind faults.Memory = ⊤

-- what is read of words that are no line, by what clap finds wrong with them
abbrev pub ReadsOther : List Text → Result (Command (Bor Text)) WordsFault → Type 0
ReadsOther words (Ok command) = (fault_of program_app words ≡ []) × (spelled (subcommand_of program_app words) ≡ Some (plain_command command)) × (is_command (plain_command command) ≡ true)
ReadsOther words (Err (faults.Asked text)) = list_any asks (fault_of program_app words) ≡ true
ReadsOther words (Err (faults.Refused text)) = list_any refuses (fault_of program_app words) ≡ true
ReadsOther words (Err faults.Bad) = (fault_of program_app words ≡ []) × (is_some_command (spelled (subcommand_of program_app words)) ≡ false)
ReadsOther words (Err faults.Memory) = ⊤

-- what is read of words: of a line its command and nothing else
abbrev pub ReadsBy : Option (Command Text) → List Text → Result (Command (Bor Text)) WordsFault → Type 0
ReadsBy (Some line) words (Ok command) = plain_command command ≡ line
ReadsBy (Some line) words (Err fault) = ⊥
ReadsBy None words result = ReadsOther words result

abbrev pub Reads : List Text → Result (Command (Bor Text)) WordsFault → Type 0
Reads words result = ReadsBy (line_of words) words result

-- the text of help or of the version is given, unless memory ran out
abbrev pub IsAsked : Result (Command (Bor Text)) WordsFault → Type 0
IsAsked (Err (faults.Asked text)) = ⊤
IsAsked (Err faults.Memory) = ⊤
IsAsked _ = ⊥

-- any answer to the program's name and this word
abbrev pub Asks : Text → Type 0
Asks word = (name : Text) (result : Result (Command (Bor Text)) WordsFault) → Reads (name ∷ word ∷ []) result → IsAsked result

-- every command that a line gives is one that a line can ask for
abbrev pub LinesArePossible : Type 0
LinesArePossible = (words : List Text) (command : Command Text) → line_of words ≡ Some command → is_command command ≡ true
