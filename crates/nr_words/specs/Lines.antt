-- The lines of the program: words in the one spelling that is never refused, and the command of each.
use Rattle.std.specs.Prelude.{ℕ, ◌==◌, Bool, true, false, not, if◌then◌else◌, List, [], ◌∷◌, codes, Option, Some, None, is_some, option_map, option_and_then, unwrap_or}
use Rattle.std.specs.Borrow.{Bor}
use Rattle.std.specs.Str.{bytes_eq}
use Rattle.nr_words.specs.Limits.{calls_max, client_number_max, clients_max, default_jobs, default_units, id_max, jobs_max, seed_max, tries_max, units_max}
use Rattle.nr_words.specs.Numbers.{numeral_within}
use Rattle.nr_words.specs.declared.commands.Command.{Command}
use Rattle.nr_words.specs.declared.commands.Command.TheVariants as commands
use Rattle.nr_words.specs.declared.commands.Client.{Client}
use Rattle.nr_words.specs.declared.commands.GetByJobs.{GetByJobs}
use Rattle.nr_words.specs.declared.commands.NumberedClient.{NumberedClient}
use Rattle.nr_words.specs.declared.commands.Action.{Action}
use Rattle.nr_words.specs.declared.commands.Action.TheVariants as actions
use Rattle.nr_words.specs.declared.lines.Subcommand.{Subcommand}
use Rattle.nr_words.specs.declared.lines.Subcommand.TheVariants as subcommands
use Rattle.nr_words.specs.declared.options.OptionName.{OptionName}
use Rattle.nr_words.specs.declared.options.OptionName.TheVariants as option_names
use Rattle.nr_words.specs.declared.options.Options.{Options}
use Rattle.nr_words.specs.declared.lines.Positionals.{Positionals}
use Rattle.nr_words.specs.declared.lines.State.{State}

abbrev pub Text : Type 0
Text = List ℕ

-- the first word after the program's name
abbrev pub subcommand_named : Text → Option Subcommand
subcommand_named word =
    if bytes_eq word (codes "serve") then Some subcommands.Serve
    else if bytes_eq word (codes "gate") then Some subcommands.Gate
    else if bytes_eq word (codes "mount") then Some subcommands.Mount
    else if bytes_eq word (codes "ls") then Some subcommands.List
    else if bytes_eq word (codes "stat") then Some subcommands.Stat
    else if bytes_eq word (codes "readlink") then Some subcommands.ReadLink
    else if bytes_eq word (codes "mkdir") then Some subcommands.MakeDirectory
    else if bytes_eq word (codes "rm") then Some subcommands.Remove
    else if bytes_eq word (codes "put") then Some subcommands.Put
    else if bytes_eq word (codes "get") then Some subcommands.Get
    else if bytes_eq word (codes "ln") then Some subcommands.Link
    else if bytes_eq word (codes "drill") then Some subcommands.Drill
    else None

abbrev pub option_named : Text → Option OptionName
option_named word =
    if bytes_eq word (codes "--uid") then Some option_names.Uid
    else if bytes_eq word (codes "--gid") then Some option_names.Gid
    else if bytes_eq word (codes "--inline") then Some option_names.Inline
    else if bytes_eq word (codes "--invalidate") then Some option_names.Invalidate
    else if bytes_eq word (codes "--client") then Some option_names.Client
    else if bytes_eq word (codes "--tries") then Some option_names.Tries
    else if bytes_eq word (codes "--jobs") then Some option_names.Jobs
    else if bytes_eq word (codes "--seed") then Some option_names.Seed
    else if bytes_eq word (codes "--clients") then Some option_names.Clients
    else if bytes_eq word (codes "--calls") then Some option_names.Calls
    else if bytes_eq word (codes "--log") then Some option_names.Log
    else None

-- the options of each client command, of `get`, and of `drill`
abbrev pub is_of_client : OptionName → Bool
is_of_client option_names.Uid = true
is_of_client option_names.Gid = true
is_of_client option_names.Inline = true
is_of_client option_names.Invalidate = true
is_of_client option_names.Client = true
is_of_client option_names.Tries = true
is_of_client _ = false

abbrev pub is_of_get : OptionName → Bool
is_of_get option_names.Jobs = true
is_of_get name = is_of_client name

abbrev pub is_of_drill : OptionName → Bool
is_of_drill option_names.Seed = true
is_of_drill option_names.Clients = true
is_of_drill option_names.Calls = true
is_of_drill option_names.Log = true
is_of_drill _ = false

abbrev pub takes : Subcommand → OptionName → Bool
takes subcommands.Serve name = false
takes subcommands.Gate name = false
takes subcommands.Drill name = is_of_drill name
takes subcommands.Get name = is_of_get name
takes _ name = is_of_client name

-- CONFIG; ADDR EXPORT; ADDR EXPORT PATH; ADDR EXPORT PATH TARGET
abbrev pub arity : Subcommand → ℕ
arity subcommands.Serve = 1
arity subcommands.Gate = 1
arity subcommands.Mount = 2
arity subcommands.Link = 4
arity subcommands.Drill = 0
arity _ = 3

-- the options with one more that has a value, if it was not given before and its value is in its range
abbrev pub once : Option ℕ → Option ℕ → (ℕ → Options) → Option Options
once None (Some value) with = Some (with value)
once _ _ with = None

abbrev pub with_value : Options → OptionName → Text → Option Options
with_value o option_names.Uid word = once o.uid (numeral_within 0 id_max word) (λ n. record o { uid = Some n })
with_value o option_names.Gid word = once o.gid (numeral_within 0 id_max word) (λ n. record o { gid = Some n })
with_value o option_names.Inline word = once o.inline (numeral_within 1 units_max word) (λ n. record o { inline = Some n })
with_value o option_names.Invalidate word = None
with_value o option_names.Client word = once o.number (numeral_within 1 client_number_max word) (λ n. record o { number = Some n })
with_value o option_names.Tries word = once o.tries (numeral_within 0 tries_max word) (λ n. record o { tries = Some n })
with_value o option_names.Jobs word = once o.jobs (numeral_within 1 jobs_max word) (λ n. record o { jobs = Some n })
with_value o option_names.Seed word = once o.seed (numeral_within 0 seed_max word) (λ n. record o { seed = Some n })
with_value o option_names.Clients word = once o.clients (numeral_within 1 clients_max word) (λ n. record o { clients = Some n })
with_value o option_names.Calls word = once o.calls (numeral_within 1 calls_max word) (λ n. record o { calls = Some n })
with_value o option_names.Log word = None

-- the options with `--invalidate` or `--log`, which have no value, if it was not given before
abbrev pub with_invalidate : Options → Option Options
with_invalidate o = if o.invalidates then None else Some (record o { invalidates = true })

abbrev pub with_log : Options → Option Options
with_log o = if o.log then None else Some (record o { log = true })

-- a positional is not empty, and does not begin with '-'
abbrev pub is_positional : Text → Bool
is_positional [] = false
is_positional (first ∷ rest) = not (first == 45)

abbrev pub with_positional : Positionals Text → Text → Option (Positionals Text)
with_positional p word =
    if p.count == 0 then Some (record p { count = 1; first = word })
    else if p.count == 1 then Some (record p { count = 2; second = word })
    else if p.count == 2 then Some (record p { count = 3; third = word })
    else if p.count == 3 then Some (record p { count = 4; fourth = word })
    else None

-- what is known with these options, if there are any: no value is waited for
abbrev pub with_options : State Text → Option Options → Option (State Text)
with_options s options = option_map (λ o. record s { waiting = None; options = o }) options

-- what is known after the name of an option: its value is waited for, if it has one
abbrev pub after_name : State Text → OptionName → Option (State Text)
after_name s option_names.Invalidate = with_options s (with_invalidate s.options)
after_name s option_names.Log = with_options s (with_log s.options)
after_name s name = Some (record s { waiting = Some name })

-- what is known after one more word
abbrev pub after_free_word : Subcommand → State Text → Option OptionName → Text → Option (State Text)
after_free_word subcommand s (Some name) word = if takes subcommand name then after_name s name else None
after_free_word subcommand s None word = if is_positional word then option_map (λ p. record s { positionals = p }) (with_positional s.positionals word) else None

abbrev pub after_word : Subcommand → State Text → Option OptionName → Text → Option (State Text)
after_word subcommand s (Some name) word = with_options s (with_value s.options name word)
after_word subcommand s None word = after_free_word subcommand s (option_named word) word

abbrev pub step : Subcommand → State Text → Text → Option (State Text)
step subcommand s word = after_word subcommand s s.waiting word

unfoldable pub steps : Subcommand → State Text → List Text → Option (State Text)
steps subcommand s [] = Some s
steps subcommand s (word ∷ words) = option_and_then (λ s'. steps subcommand s' words) (step subcommand s word)

-- the command of these options and positionals, if none is missing
abbrev pub drill_of : Option ℕ → Option ℕ → Option ℕ → Bool → Option (Command Text)
drill_of None None None log = Some (commands.Drill log)
drill_of (Some seed) (Some clients) (Some calls) log = Some (commands.GeneratedDrill seed clients calls log)
drill_of _ _ _ log = None

abbrev pub client_of : Options → Positionals Text → Action Text → Client Text
client_of o p action =
    record { addr = p.first; export = p.second; uid = unwrap_or o.uid 0; gid = unwrap_or o.gid 0; units = unwrap_or o.inline default_units; invalidates = o.invalidates; action = action }

-- with a number and its tries, or without both
abbrev pub with_number : (number tries : Option ℕ) → Client Text → Option (Command Text)
with_number None None c = Some (commands.Client c)
with_number (Some number) (Some tries) c = Some (commands.NumberedClient (record { client = c; number = number; tries = tries }))
with_number _ _ c = None

abbrev pub client : Options → Positionals Text → Action Text → Option (Command Text)
client o p action = with_number o.number o.tries (client_of o p action)

-- `get` by this many jobs: by one it is a command as the others are, by several it has no number
abbrev pub by_jobs : Options → Positionals Text → (jobs : ℕ) → GetByJobs Text
by_jobs o p jobs =
    record { addr = p.first; export = p.second; path = p.third; uid = unwrap_or o.uid 0; gid = unwrap_or o.gid 0; units = unwrap_or o.inline default_units; invalidates = o.invalidates; jobs = jobs }

abbrev pub without_number : (number tries : Option ℕ) → GetByJobs Text → Option (Command Text)
without_number None None get = Some (commands.GetByJobs get)
without_number _ _ get = None

abbrev pub get_of : Options → Positionals Text → (jobs : ℕ) → Option (Command Text)
get_of o p jobs = if jobs == 1 then client o p (actions.Get p.third) else without_number o.number o.tries (by_jobs o p jobs)

abbrev pub complete : Subcommand → Options → Positionals Text → Option (Command Text)
complete subcommands.Serve o p = Some (commands.Serve p.first)
complete subcommands.Gate o p = Some (commands.Gate p.first)
complete subcommands.Mount o p = client o p actions.Mount
complete subcommands.List o p = client o p (actions.List p.third)
complete subcommands.Stat o p = client o p (actions.Stat p.third)
complete subcommands.ReadLink o p = client o p (actions.ReadLink p.third)
complete subcommands.MakeDirectory o p = client o p (actions.MakeDirectory p.third)
complete subcommands.Remove o p = client o p (actions.Remove p.third)
complete subcommands.Put o p = client o p (actions.Put p.third)
complete subcommands.Get o p = get_of o p (unwrap_or o.jobs default_jobs)
complete subcommands.Link o p = client o p (actions.Link p.third p.fourth)
complete subcommands.Drill o p = drill_of o.seed o.clients o.calls o.log

abbrev pub command_of : Subcommand → Options → Positionals Text → Option (Command Text)
command_of subcommand o p = if p.count == arity subcommand then complete subcommand o p else None

abbrev pub finished : Subcommand → State Text → Option (Command Text)
finished subcommand s = if is_some s.waiting then None else command_of subcommand s.options s.positionals

abbrev pub no_options : Options
no_options = record { uid = None; gid = None; inline = None; invalidates = false; number = None; tries = None; jobs = None; seed = None; clients = None; calls = None; log = false }

abbrev pub start : State Text
start = record { waiting = None; options = no_options; positionals = record { count = 0; first = []; second = []; third = []; fourth = [] } }

-- a line is the program's name, a command, and its positionals in order and its options in any order
abbrev pub line_of : List Text → Option (Command Text)
line_of [] = None
line_of (name ∷ []) = None
line_of (name ∷ word ∷ words) = option_and_then (λ subcommand. option_and_then (finished subcommand) (steps subcommand start words)) (subcommand_named word)

-- ---- values that borrow their texts, as those texts

abbrev pub plain_positionals : Positionals (Bor Text) → Positionals Text
plain_positionals p = record { count = p.count; first = p.first.now; second = p.second.now; third = p.third.now; fourth = p.fourth.now }

abbrev pub plain_state : State (Bor Text) → State Text
plain_state s = record { waiting = s.waiting; options = s.options; positionals = plain_positionals s.positionals }

abbrev pub plain_action : Action (Bor Text) → Action Text
plain_action actions.Mount = actions.Mount
plain_action (actions.List path) = actions.List path.now
plain_action (actions.Stat path) = actions.Stat path.now
plain_action (actions.ReadLink path) = actions.ReadLink path.now
plain_action (actions.MakeDirectory path) = actions.MakeDirectory path.now
plain_action (actions.Remove path) = actions.Remove path.now
plain_action (actions.Put path) = actions.Put path.now
plain_action (actions.Get path) = actions.Get path.now
plain_action (actions.Link path target) = actions.Link path.now target.now

abbrev pub plain_client : Client (Bor Text) → Client Text
plain_client c = record { addr = c.addr.now; export = c.export.now; uid = c.uid; gid = c.gid; units = c.units; invalidates = c.invalidates; action = plain_action c.action }

abbrev pub plain_numbered : NumberedClient (Bor Text) → NumberedClient Text
plain_numbered c = record { client = plain_client c.client; number = c.number; tries = c.tries }

abbrev pub plain_get : GetByJobs (Bor Text) → GetByJobs Text
plain_get g = record { addr = g.addr.now; export = g.export.now; path = g.path.now; uid = g.uid; gid = g.gid; units = g.units; invalidates = g.invalidates; jobs = g.jobs }

abbrev pub plain_command : Command (Bor Text) → Command Text
plain_command (commands.Serve config) = commands.Serve config.now
plain_command (commands.Gate config) = commands.Gate config.now
plain_command (commands.Client client) = commands.Client (plain_client client)
plain_command (commands.NumberedClient client) = commands.NumberedClient (plain_numbered client)
plain_command (commands.GetByJobs get) = commands.GetByJobs (plain_get get)
plain_command (commands.Drill log) = commands.Drill log
plain_command (commands.GeneratedDrill seed clients calls log) = commands.GeneratedDrill seed clients calls log
