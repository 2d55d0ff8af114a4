-- The configuration of a gateway, a TOML document.
use Rattle.std.specs.Prelude.{◌==◌, if◌then◌else◌, List, ℕ, codes, Option, None, option_and_then, option_map, string_bytes}
use Rattle.std.specs.Borrow.{Bor}
use Rattle.std.specs.Str.{is_utf8}
use Rattle.toml.specs.Data.{Members}
use Rattle.toml.specs.Parse.{parse_document}
use Rattle.nr_words.specs.declared.gate_settings.GateConfig.{GateConfig}
use Rattle.nr_words.specs.declared.gate_settings.GateSettings.{GateSettings}
use Rattle.nr_words.specs.Limits.{connections_max}
use Rattle.nr_words.specs.Lines.{Text}
use Rattle.nr_words.specs.Settings.{count, number_at, text_at}

-- exactly these keys, with values in range
abbrev pub gate_settings_of : Members → Option (GateSettings Text)
gate_settings_of members =
    if count members == 3 then
    option_and_then (λ listen.
    option_and_then (λ remote.
    option_map (λ connections. record { listen = listen; remote = remote; connections = connections })
    (number_at 1 connections_max (codes "connections") members))
    (text_at (codes "remote") members))
    (text_at (codes "listen") members)
    else None

-- the configuration that a text gives
abbrev pub gate_config_of : List ℕ → Option (GateSettings Text)
gate_config_of bytes = if is_utf8 bytes then option_and_then gate_settings_of (parse_document bytes) else None

-- ---- the same without references, and without strings

abbrev pub plain_gate_settings : GateSettings (Bor Text) → GateSettings Text
plain_gate_settings s = record { listen = s.listen.now; remote = s.remote.now; connections = s.connections }

abbrev pub gate_config_settings : GateConfig → GateSettings Text
gate_config_settings c = record { listen = string_bytes c.listen; remote = string_bytes c.remote; connections = c.connections }
