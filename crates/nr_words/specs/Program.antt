-- The program as clap knows it.
use Rattle.std.specs.Prelude.{◌≡◌, pos, true, false, codes, Some, Result, IfOk}
use Rattle.std.specs.declared.alloc.AllocError.{AllocError}
use Rattle.clap.specs.Words.{App, Rule, Text, app_of, new_app, new_rule, with_rule, with_subcommand}
use Rattle.clap.specs.declared.builder.command.Command.TheViews.{out-Command}
use Rattle.clap.specs.declared.builder.command.Command.{Command}
use Rattle.clap.specs.declared.builder.action.ArgAction.TheVariants.{SetTrue}
use Rattle.clap.specs.declared.builder.value_parser.ValueParser.{ValueParser}
use Rattle.clap.specs.declared.builder.value_parser.ValueParser.TheVariants as parsers
use Rattle.nr_words.specs.Limits.{calls_max, client_number_max, clients_max, id_max, jobs_max, seed_max, tries_max, units_max}

abbrev pub positional_rule : Text → Rule
positional_rule name = record (new_rule name) { required = true }

abbrev pub number_rule : Text → ValueParser → Rule
number_rule name parser = record (new_rule name) { long = Some name; parser = Some parser }

abbrev pub flag_rule : Text → Rule
flag_rule name = record (new_rule name) { long = Some name; action = Some SetTrue }

-- with the options of each command of a client
abbrev pub with_client_options : App → App
with_client_options app =
    with_rule (with_rule (with_rule (with_rule (with_rule (with_rule app
    (number_rule (codes "uid") (parsers.Signed (pos 0) (pos id_max))))
    (number_rule (codes "gid") (parsers.Signed (pos 0) (pos id_max))))
    (number_rule (codes "inline") (parsers.Signed (pos 1) (pos units_max))))
    (flag_rule (codes "invalidate")))
    (number_rule (codes "client") (parsers.Unsigned 1 client_number_max)))
    (number_rule (codes "tries") (parsers.Signed (pos 0) (pos tries_max)))

abbrev pub client_app : Text → App
client_app name = with_client_options (with_rule (with_rule (new_app name) (positional_rule (codes "ADDR"))) (positional_rule (codes "EXPORT")))

abbrev pub path_app : Text → App
path_app name = with_rule (client_app name) (positional_rule (codes "PATH"))

abbrev pub get_app : App
get_app = with_rule (path_app (codes "get")) (number_rule (codes "jobs") (parsers.Signed (pos 1) (pos jobs_max)))

abbrev pub link_app : App
link_app = with_rule (path_app (codes "ln")) (positional_rule (codes "TARGET"))

abbrev pub serve_app : App
serve_app = with_rule (new_app (codes "serve")) (positional_rule (codes "CONFIG"))

abbrev pub gate_app : App
gate_app = with_rule (new_app (codes "gate")) (positional_rule (codes "CONFIG"))

abbrev pub drill_app : App
drill_app =
    with_rule (with_rule (with_rule (with_rule (new_app (codes "drill")) (number_rule (codes "seed") (parsers.Unsigned 0 seed_max)))
    (number_rule (codes "clients") (parsers.Signed (pos 1) (pos clients_max)))) (number_rule (codes "calls") (parsers.Signed (pos 1) (pos calls_max))))
    (flag_rule (codes "log"))

abbrev pub plain_app : App
plain_app = record (new_app (codes "nfsrdma")) {
  top = record (new_app (codes "nfsrdma")).top { has_version = true; subcommand_required = true; disable_help_subcommand = true };
}

abbrev pub with_command : App → App → App
with_command app command = with_subcommand app command.top

-- with the commands of a client that have a PATH and no TARGET, but for `get`
abbrev pub with_paths : App → App
with_paths app =
    with_command (with_command (with_command (with_command (with_command (with_command app
    (path_app (codes "ls")))
    (path_app (codes "stat")))
    (path_app (codes "readlink")))
    (path_app (codes "mkdir")))
    (path_app (codes "rm")))
    (path_app (codes "put"))

unfoldable pub program_app : App
program_app =
    with_command (with_command (with_command (with_paths (with_command (with_command (with_command plain_app
    serve_app)
    gate_app)
    (client_app (codes "mount"))))
    get_app)
    link_app)
    drill_app

-- a command is this one, for itself alone
pub record Builds (app : App) (command : Command) : Type 0 where
  pub same : app_of command ≡ app
  pub local : (out-Command command).has_globals ≡ false

-- a program with one command more, whatever the program was
abbrev pub AddsTo : Command → App → Command → Type 0
AddsTo program sub more = (app : App) → Builds app program → Builds (with_command app sub) more

-- the same of a command that may not have been made
abbrev pub Adds : Command → Result Command AllocError → Command → Type 0
Adds program command more = (sub : App) → IfOk command (Builds sub) → AddsTo program sub more

-- the same of the commands of a client with a PATH
abbrev pub AddsPaths : Command → Command → Type 0
AddsPaths program more = (app : App) → Builds app program → Builds (with_paths app) more

-- a command with the options of a client, whatever the command was
abbrev pub AddsClientOptions : Command → Command → Type 0
AddsClientOptions command more = (app : App) → Builds app command → Builds (with_client_options app) more

-- a command with one more argument, whatever the command was
abbrev pub AddsRule : Command → Rule → Command → Type 0
AddsRule command rule more = (app : App) → Builds app command → Builds (with_rule app rule) more
