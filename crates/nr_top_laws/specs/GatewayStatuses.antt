-- The status of a gateway, if its configuration is right; and what the status of a link fault says. `O` and `C` are the
-- types of the remote link's sink and of the rule on calls.
use Rattle.std.specs.Prelude.{◌≡◌, ℕ, ◌≤◌, ◌⊎◌, List, length, Some}
use Rattle.nr_outside.specs.Faults.{Rises}
use Rattle.nr_outside.specs.Streams.{SinkAt, SourceAt}
use Rattle.nr_outside.specs.Whole.{input_max}
use Rattle.nr_words.specs.GateSettings.{gate_config_of}
use Rattle.nr_words.specs.Lines.{Text}
use Rattle.nr_words.specs.declared.gate_settings.GateSettings.{GateSettings}
use Rattle.nr_gateway.specs.Gateways.{Around}
use Rattle.nr_top.specs.Gating.{GatewayEnds}
use Rattle.nr_top.specs.Statuses as statuses

-- no fault count of what a gateway uses rises: of its configuration's input, of the output, of what reports, of the
-- acceptor, of the dialer
pub record NoGatewayFaultRises (input input' : SourceAt) (out out' err err' : SinkAt) (before after : Around) : Type 0 where
  pub input_reads : Rises input.faults input'.faults → ⊥
  pub output_writes : Rises out.faults out'.faults → ⊥
  pub error_writes : Rises err.faults err'.faults → ⊥
  pub accepts : Rises before.acceptor.faults after.acceptor.faults → ⊥
  pub dials : Rises before.dialer.faults after.dialer.faults → ⊥

-- the complete input is a configuration of a gateway within the maximum length
pub record IsGateConfigured (input : SourceAt) : Type 0 where
  pub text : List ℕ
  pub settings : GateSettings Text
  pub whole : input.left ≡ Some text
  pub within : length text ≤ input_max
  pub reads : gate_config_of text ≡ Some settings

-- Then the gateway has served all its connections and printed that, or memory ran out.
abbrev pub GatewaysHaveStatuses : (O C : Type 0) → Type 0
GatewaysHaveStatuses O C =
    (status : ℕ) (input input' : SourceAt) (out out' err err' : SinkAt) (before after : Around) →
    IsGateConfigured input → NoGatewayFaultRises input input' out out' err err' before after → GatewayEnds O C status input input' out out' err err' before after →
    (status ≡ statuses.done) ⊎ (status ≡ statuses.no_memory)

-- With the status of a link fault the fault count of the acceptor or of the dialer rose.
abbrev pub GatewayLinkFaults : (O C : Type 0) → Type 0
GatewayLinkFaults O C =
    (status : ℕ) (input input' : SourceAt) (out out' err err' : SinkAt) (before after : Around) →
    GatewayEnds O C status input input' out out' err err' before after → status ≡ statuses.link_fault →
    Rises before.acceptor.faults after.acceptor.faults ⊎ Rises before.dialer.faults after.dialer.faults
