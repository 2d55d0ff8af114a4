use Rattle.std.proofs.Common.{◌≡◌, ℕ, List, length, Some, None, Err, arith, ap, sym, subst}
use Rattle.nr_outside.specs.declared.whole.ReadEnd.{ReadEnd}
use Rattle.nr_words.specs.GateSettings.{gate_config_of, gate_config_settings}
use Rattle.nr_gateway.specs.Stops.{StoppedReading}
use Rattle.nr_serve.specs.declared.stop.ServeStop.{ServeStop}
use Rattle.nr_outside.specs.Streams.{source_at}
use Rattle.nr_gateway.proofs.Configs.{config_stopped, in_range, reading_stopped}
use Rattle.nr_gateway.proofs.gateway.read_gate_settings.Goals as goal

pub returns-in-Err-clause-read : goal.returns-in-Err-clause-read
returns-in-Err-clause-read g c =
    let (bytes, reads, len) = c.in-Err.ensures.err in
    subst (λ (stop : ServeStop). StoppedReading stop (source_at (g.I.Source.left c.args.input.now) (g.I.Source.given c.args.input.now) (g.I.Source.faults c.args.input.now)) (source_at (g.I.Source.left c.read_whole.new.source) (g.I.Source.given c.read_whole.new.source) (g.I.Source.faults c.read_whole.new.source))) (sym c.stop_of_read.ensures)
    (reading_stopped c.in-Err.end (source_at (g.I.Source.left c.args.input.now) (g.I.Source.given c.args.input.now) (g.I.Source.faults c.args.input.now)) (source_at (g.I.Source.left c.read_whole.new.source) (g.I.Source.given c.read_whole.new.source) (g.I.Source.faults c.read_whole.new.source)) bytes reads len c.in-Err.ensures.counted (λ e. c.in-Err.ensures.too_long (ap (λ (end : ReadEnd). Err end) e)))

pub returns-in-Ok-read_gate_config-clause-read : goal.returns-in-Ok-read_gate_config-clause-read
returns-in-Ok-read_gate_config-clause-read g c = record {
  text = c.in-Ok.text.items;
  whole = record { handed = c.in-Ok.ensures.whole; all = c.in-Ok.ensures.all; end = c.in-Ok.ensures.end; within = (let len = c.as_slice.ensures.len in let value : length c.as_slice.result.now ≡ length c.in-Ok.text.items = ap (λ (xs : List ℕ). length xs) c.as_slice.ensures.value in let within = c.in-Ok.ensures.within in omega (arith, len, value, within)); unfailing = c.in-Ok.ensures.counted };
  reads = subst (λ (text : List ℕ). gate_config_of text ≡ Some (gate_config_settings c.in-Ok-read_gate_config.config)) c.as_slice.ensures.value c.in-Ok-read_gate_config.ensures.ok;
}

pub returns-clause-read : goal.returns-clause-read
returns-clause-read g c =
    subst (λ (stop : ServeStop). StoppedReading stop (source_at (g.I.Source.left c.args.input.now) (g.I.Source.given c.args.input.now) (g.I.Source.faults c.args.input.now)) (source_at (g.I.Source.left c.read_whole.new.source) (g.I.Source.given c.read_whole.new.source) (g.I.Source.faults c.read_whole.new.source))) (sym c.stop_of_config.ensures)
    (config_stopped c.in-Err-read_gate_config.fault (source_at (g.I.Source.left c.args.input.now) (g.I.Source.given c.args.input.now) (g.I.Source.faults c.args.input.now)) (source_at (g.I.Source.left c.read_whole.new.source) (g.I.Source.given c.read_whole.new.source) (g.I.Source.faults c.read_whole.new.source)) c.in-Ok.text.items
    (record { handed = c.in-Ok.ensures.whole; all = c.in-Ok.ensures.all; end = c.in-Ok.ensures.end; within = (let len = c.as_slice.ensures.len in let value : length c.as_slice.result.now ≡ length c.in-Ok.text.items = ap (λ (xs : List ℕ). length xs) c.as_slice.ensures.value in let within = c.in-Ok.ensures.within in omega (arith, len, value, within)); unfailing = c.in-Ok.ensures.counted })
    (λ e. subst (λ (text : List ℕ). gate_config_of text ≡ None) c.as_slice.ensures.value (c.in-Err-read_gate_config.ensures.bad e)))

pub returns-in-Ok-read_gate_config-clause-ranges : goal.returns-in-Ok-read_gate_config-clause-ranges
returns-in-Ok-read_gate_config-clause-ranges g c =
    in_range c.in-Ok.text.items (gate_config_settings c.in-Ok-read_gate_config.config) (subst (λ (text : List ℕ). gate_config_of text ≡ Some (gate_config_settings c.in-Ok-read_gate_config.config)) c.as_slice.ensures.value c.in-Ok-read_gate_config.ensures.ok)
