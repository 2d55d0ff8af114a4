-- The configuration of a server, a TOML document.
use Rattle.std.specs.Prelude.{Bool, false, ℕ, ℤ, pos, negsuc, suc, ◌+◌, ◌==◌, ◌&&◌, nat_le, if◌then◌else◌, List, length, codes, Option, Some, None, option_and_then, option_map, string_bytes}
use Rattle.std.specs.Borrow.{Bor}
use Rattle.std.specs.Result.{result_ok}
use Rattle.std.specs.Str.{is_utf8}
use Rattle.hex.specs.Hex.{decode_sized}
use Rattle.toml.specs.Data.{Data, Members, no_members, member, get_member, as_bool, as_str, as_integer}
use Rattle.toml.specs.Parse.{parse_document}
use Rattle.nr_words.specs.declared.settings.Settings.{Settings}
use Rattle.nr_words.specs.declared.settings.Config.{Config}
use Rattle.nr_words.specs.declared.settings.Numbers.{Numbers}
use Rattle.nr_words.specs.declared.settings.Choices.{Choices}
use Rattle.nr_words.specs.Limits.{capacity_max, connections_max, credits_max, default_units, mount_path_max, units_max}
use Rattle.nr_words.specs.Lines.{Text}

-- the number of members
abbrev pub count : Members → ℕ
count no_members = 0
count (member key value members) = suc (count members)

-- the text at a key
abbrev pub text_at : Text → Members → Option Text
text_at key members = option_and_then as_str (get_member key members)

-- the integer at a key
abbrev pub integer_at : Text → Members → Option ℤ
integer_at key members = option_and_then as_integer (get_member key members)

-- the number at a key, if it is in the range
abbrev pub in_range : ℕ → ℕ → ℤ → Option ℕ
in_range low high (negsuc n) = None
in_range low high (pos n) = if nat_le low n && nat_le n high then Some n else None

abbrev pub number_at : ℕ → ℕ → Text → Members → Option ℕ
number_at low high key members = option_and_then (in_range low high) (integer_at key members)

-- the eight bytes that sixteen hexadecimal digits at a key write
abbrev pub verifier_at : Text → Members → Option (List ℕ)
verifier_at key members = option_and_then (λ text. result_ok (decode_sized text 8)) (text_at key members)

-- a path of at least one byte
abbrev pub path : Text → Option Text
path text = if nat_le 1 (length text) && nat_le (length text) mount_path_max then Some text else None

abbrev pub path_at : Text → Members → Option Text
path_at key members = option_and_then path (text_at key members)

-- ---- keys that may be left out

-- the boolean at such a key: false if it is left out
abbrev pub flag_of : Option Data → Option Bool
flag_of None = Some false
flag_of (Some value) = as_bool value

abbrev pub flag_at : Text → Members → Option Bool
flag_at key members = flag_of (get_member key members)

-- how many of the members have such a key
abbrev pub present : Option Data → ℕ
present None = 0
present (Some value) = 1

abbrev pub present_at : Text → Members → ℕ
present_at key members = present (get_member key members)

-- the number at such a key, if it is in the range: the default if it is left out
abbrev pub number_or : ℕ → ℕ → ℕ → Text → Members → Option ℕ
number_or default low high key members = if present_at key members == 0 then Some default else number_at low high key members

-- the number of keys: six, and those that may be left out and are there
abbrev pub keys_of : Members → ℕ
keys_of members =
    6 + present_at (codes "record") members + present_at (codes "inline") members + present_at (codes "low_credits") members
    + present_at (codes "invalidate") members

-- by the credits of the configuration
abbrev pub choices_of : ℕ → Members → Option Choices
choices_of credits members =
    option_and_then (λ records.
    option_and_then (λ units.
    option_and_then (λ low_credits.
    option_map (λ invalidates. record { records = records; units = units; low_credits = low_credits; invalidates = invalidates })
    (flag_at (codes "invalidate") members))
    (number_or credits 1 credits (codes "low_credits") members))
    (number_or default_units 1 units_max (codes "inline") members))
    (flag_at (codes "record") members)

-- ---- a configuration

abbrev pub numbers_of : Members → Option Numbers
numbers_of members =
    option_and_then (λ credits.
    option_and_then (λ capacity.
    option_map (λ connections. record { credits = credits; capacity = capacity; connections = connections })
    (number_at 1 connections_max (codes "connections") members))
    (number_at 0 capacity_max (codes "capacity") members))
    (number_at 1 credits_max (codes "credits") members)

-- a configuration of these values
abbrev pub settings_with : {T : Type 0} → T → T → Numbers → List ℕ → Choices → Settings T
settings_with listen export numbers verifier choices = record {
  listen = listen;
  export = export;
  credits = numbers.credits;
  capacity = numbers.capacity;
  connections = numbers.connections;
  write_verifier = verifier;
  records = choices.records;
  units = choices.units;
  low_credits = choices.low_credits;
  invalidates = choices.invalidates;
}

-- exactly these keys, with values in range
abbrev pub settings_of : Members → Option (Settings Text)
settings_of members =
    if count members == keys_of members then
    option_and_then (λ listen.
    option_and_then (λ export.
    option_and_then (λ numbers.
    option_and_then (λ verifier.
    option_map (settings_with listen export numbers verifier)
    (choices_of numbers.credits members))
    (verifier_at (codes "write_verifier") members))
    (numbers_of members))
    (path_at (codes "export") members))
    (text_at (codes "listen") members)
    else None

-- the configuration that a text gives
abbrev pub config_of : List ℕ → Option (Settings Text)
config_of bytes = if is_utf8 bytes then option_and_then settings_of (parse_document bytes) else None

-- ---- the same without references, and without strings

abbrev pub plain_settings : Settings (Bor Text) → Settings Text
plain_settings s = record { listen = s.listen.now; export = s.export.now; credits = s.credits; capacity = s.capacity; connections = s.connections; write_verifier = s.write_verifier; records = s.records; units = s.units; low_credits = s.low_credits; invalidates = s.invalidates }

abbrev pub config_settings : Config → Settings Text
config_settings c = record { listen = string_bytes c.listen; export = string_bytes c.export; credits = c.credits; capacity = c.capacity; connections = c.connections; write_verifier = c.write_verifier; records = c.records; units = c.units; low_credits = c.low_credits; invalidates = c.invalidates }
