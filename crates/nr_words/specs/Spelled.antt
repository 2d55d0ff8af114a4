-- The command that clap's matches spell.
use Rattle.std.specs.Prelude.{ℕ, Bool, ◌==◌, ◌||◌, nat_le, if◌then◌else◌, List, [], ◌∷◌, codes, Option, Some, None, option_and_then, unwrap_or}
use Rattle.std.specs.Str.{bytes_eq}
use Rattle.clap.specs.Words.{Row, first_of}
use Rattle.nr_words.specs.declared.commands.Command.{Command}
use Rattle.nr_words.specs.declared.lines.Subcommand.{Subcommand}
use Rattle.nr_words.specs.declared.lines.Subcommand.TheVariants as subcommands
use Rattle.nr_words.specs.declared.options.Options.{Options}
use Rattle.nr_words.specs.declared.lines.Positionals.{Positionals}
use Rattle.nr_words.specs.Limits.{calls_max, client_number_max, clients_max, id_max, jobs_max, seed_max, tries_max, units_max}
use Rattle.nr_words.specs.Numbers.{number_within}
use Rattle.nr_words.specs.Lines.{Text, command_of, subcommand_named, arity}

abbrev pub text_of : Text → List Row → Text
text_of id rows = unwrap_or (first_of id rows) []

-- clap takes a sign before digits, and leading zeros
abbrev pub without_sign : Text → Text
without_sign [] = []
without_sign (byte ∷ bytes) = if byte == 43 || byte == 45 then bytes else byte ∷ bytes

abbrev pub number_of : ℕ → ℕ → Text → List Row → Option ℕ
number_of low high id rows = option_and_then (λ text. number_within low high (without_sign text)) (first_of id rows)

-- a number that fits a word of 32 bits
abbrev pub narrow : Option ℕ → Option ℕ
narrow None = None
narrow (Some value) = if nat_le value 4294967295 then Some value else None

-- a number that fits a byte
abbrev pub narrow_to_byte : Option ℕ → Option ℕ
narrow_to_byte None = None
narrow_to_byte (Some value) = if nat_le value 255 then Some value else None

-- clap gives an option without a value the text `true`, and `false` if it is left out
abbrev pub flag_of : Text → List Row → Bool
flag_of id rows = bytes_eq (text_of id rows) (codes "true")

abbrev pub options_of : List Row → Options
options_of rows = record {
  uid = narrow (number_of 0 id_max (codes "uid") rows);
  gid = narrow (number_of 0 id_max (codes "gid") rows);
  inline = narrow_to_byte (number_of 1 units_max (codes "inline") rows);
  invalidates = flag_of (codes "invalidate") rows;
  number = number_of 1 client_number_max (codes "client") rows;
  tries = narrow_to_byte (number_of 0 tries_max (codes "tries") rows);
  jobs = narrow_to_byte (number_of 1 jobs_max (codes "jobs") rows);
  seed = number_of 0 seed_max (codes "seed") rows;
  clients = narrow (number_of 1 clients_max (codes "clients") rows);
  calls = narrow (number_of 1 calls_max (codes "calls") rows);
  log = flag_of (codes "log") rows;
}

abbrev pub first_text : Subcommand → List Row → Text
first_text subcommands.Serve rows = text_of (codes "CONFIG") rows
first_text subcommands.Gate rows = text_of (codes "CONFIG") rows
first_text _ rows = text_of (codes "ADDR") rows

abbrev pub positionals_of : Subcommand → List Row → Positionals Text
positionals_of subcommand rows = record {
  count = arity subcommand;
  first = first_text subcommand rows;
  second = text_of (codes "EXPORT") rows;
  third = text_of (codes "PATH") rows;
  fourth = text_of (codes "TARGET") rows;
}

abbrev pub spelled_by : Text → List Row → Option (Command Text)
spelled_by name rows = option_and_then (λ subcommand. command_of subcommand (options_of rows) (positionals_of subcommand rows)) (subcommand_named name)

abbrev pub spelled : Option (Text × List Row) → Option (Command Text)
spelled = option_and_then (λ p. spelled_by p.0 p.1)
