-- The configuration of a gateway: why none was read, and its range.
use Rattle.std.proofs.Common.{◌≡◌, ℕ, ◌≤◌, List, None, Some, refl, subst}
use Rattle.std.specs.Prelude.{◌<◌, ◌==◌, length, codes, IfSome}
use Rattle.std.specs.Str.{is_utf8}
use Rattle.toml.specs.Data.{Members}
use Rattle.toml.specs.Parse.{parse_document}
use Rattle.nr_outside.specs.Content.{HandsOut}
use Rattle.nr_outside.specs.Streams.{SourceAt, ReadsAll}
use Rattle.nr_outside.specs.Whole.{CountAtEnd, LengthAtEnd, input_max}
use Rattle.nr_outside.specs.declared.whole.ReadEnd.{ReadEnd}
use Rattle.nr_outside.specs.declared.whole.ReadEnd.TheVariants as ends
use Rattle.nr_words.specs.GateSettings.{gate_config_of, gate_settings_of}
use Rattle.nr_words.specs.Limits.{connections_max}
use Rattle.nr_words.specs.Lines.{Text}
use Rattle.nr_words.specs.Settings.{count, number_at, text_at}
use Rattle.nr_words.specs.declared.gate_settings.GateSettings.{GateSettings}
use Rattle.nr_words.specs.declared.settings.ConfigFault.{ConfigFault}
use Rattle.nr_words.specs.declared.settings.ConfigFault.TheVariants as faults
use Rattle.nr_serve.specs.Stops.{stop_of_config, stop_of_read}
use Rattle.nr_serve.proofs.Configs.{and_then_some, if_some, map_some, number_within}
use Rattle.nr_gateway.specs.Stops.{InRange, StoppedReading}

pub reading_stopped : (end : ReadEnd) (input input' : SourceAt) (bytes : List ℕ) → HandsOut input.left input.given input'.left input'.given bytes → LengthAtEnd end input_max bytes
    → CountAtEnd end input.faults input'.faults → (end ≡ ends.TooLong → IfSome input.left (λ left. input_max < length left)) → StoppedReading (stop_of_read end) input input'
reading_stopped ends.Failed input input' bytes reads len count long = ((bytes, reads, len), count)
reading_stopped ends.TooLong input input' bytes reads len count long = (long refl, (bytes, reads, len), count)
reading_stopped ends.Memory input input' bytes reads len count long = ((bytes, reads, len), count)

pub config_stopped : (fault : ConfigFault) (input input' : SourceAt) (text : List ℕ) → ReadsAll input_max input input' text → (fault ≡ faults.Bad → gate_config_of text ≡ None)
    → StoppedReading (stop_of_config fault) input input'
config_stopped faults.Bad input input' text all none = (text, (all, none refl))
config_stopped faults.Memory input input' text all none = ((text, all.handed, all.within), all.unfailing)

range : (members : Members) (s : GateSettings Text) → gate_settings_of members ≡ Some s → InRange s
range members s is =
    let (keys, e0) = if_some (count members == 3) _ s is in
    let (listen, (at1, e1)) = and_then_some _ (text_at (codes "listen") members) s e0 in
    let (remote, (at2, e2)) = and_then_some _ (text_at (codes "remote") members) s e1 in
    let (connections, (at3, same)) = map_some _ (number_at 1 connections_max (codes "connections") members) s e2 in
    let short : connections ≤ connections_max = number_within 1 connections_max connections (codes "connections") members at3 in
    subst (λ (t : GateSettings Text). t.connections ≤ connections_max) same short

pub in_range : (text : List ℕ) (s : GateSettings Text) → gate_config_of text ≡ Some s → InRange s
in_range text s is =
    let (utf8, e0) = if_some (is_utf8 text) _ s is in
    let (members, (parsed, e1)) = and_then_some gate_settings_of (parse_document text) s e0 in
    range members s e1
