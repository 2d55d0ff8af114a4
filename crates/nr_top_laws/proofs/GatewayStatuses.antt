-- The status of a gateway.
use Rattle.std.proofs.Common.{◌≡◌, ◌⊎◌, ℕ, List, Some, None, refl, sym, ap, subst, ◌∙◌, inl, inr, arith}
use Rattle.std.specs.Prelude.{◌≤◌, length}
use Rattle.nr_outside.specs.Faults.{Rises}
use Rattle.nr_outside.specs.Streams.{SinkAt, SourceAt}
use Rattle.nr_outside.specs.Whole.{input_max}
use Rattle.nr_words.specs.GateSettings.{gate_config_of}
use Rattle.nr_words.specs.Lines.{Text}
use Rattle.nr_words.specs.declared.gate_settings.GateSettings.{GateSettings}
use Rattle.nr_client.specs.Dialing.{DialerAt}
use Rattle.nr_serve.specs.declared.stop.ServeStop.{ServeStop}
use Rattle.nr_serve.specs.declared.stop.ServeStop.TheVariants as stops
use Rattle.nr_serve.proofs.Completing.{printing, same_text, serving, too_long}
use Rattle.nr_gateway.specs.Gateways.{Around, gated_text}
use Rattle.nr_gateway.specs.Stops.{NotOpened, Stopped, StoppedGating, StoppedReading}
use Rattle.nr_gateway.specs.Stops.Stopped.{AfterReading, AtReading}
use Rattle.nr_gateway.specs.Stops.StoppedGating.{AtDialling, AtLinks, AtListening}
use Rattle.nr_gateway.specs.Stops.StopsGating.{AtGating, AtPrinting}
use Rattle.nr_top.specs.Ends.{Reported}
use Rattle.nr_top.specs.Gating.GatewayEnds.{Gated, NotGated}
use Rattle.nr_top.specs.Serving.{ReportsStop}
use Rattle.nr_top.specs.Statuses as statuses
use Rattle.nr_top_laws.specs.GatewayStatuses.{GatewayLinkFaults, GatewaysHaveStatuses}
use Rattle.nr_top_laws.proofs.ServerStatuses.{memory_reported}

-- ===== what stops a gateway whose configuration is right

not_none : (settings : GateSettings Text) (text other : List ℕ) → other ≡ text → gate_config_of text ≡ Some settings → gate_config_of other ≡ None → ⊥
not_none settings text other same is none = some_none (sym is ∙ (ap gate_config_of (sym same) ∙ none))
  where
    some_none : Some settings ≡ None → ⊥
    some_none e = absurd cc

reading : (stop : ServeStop) (text : List ℕ) (settings : GateSettings Text) (input input' : SourceAt) → input.left ≡ Some text → length text ≤ input_max → gate_config_of text ≡ Some settings
    → (Rises input.faults input'.faults → ⊥) → StoppedReading stop input input' → stop ≡ stops.Memory
reading stops.Memory text settings input input' is within right quiet stopped = refl
reading stops.Input text settings input input' is within right quiet stopped = absurd (quiet stopped.1)
reading stops.Budget text settings input input' is within right quiet stopped = absurd (too_long input.left text is within stopped.0)
reading stops.Configuration text settings input input' is within right quiet (other, both) =
    absurd (not_none settings text other (same_text input.left text other is both.0.all) right both.1)
reading stops.Link text settings input input' is within right quiet stopped = absurd stopped
reading stops.Output text settings input input' is within right quiet stopped = absurd stopped

dialling : (stop : ServeStop) (addr : List ℕ) (before after : DialerAt) → (Rises before.faults after.faults → ⊥) → NotOpened stop addr before after → stop ≡ stops.Memory
dialling stops.Memory addr before after quiet stopped = refl
dialling stops.Link addr before after quiet stopped = absurd (quiet stopped.failed)
dialling stops.Input addr before after quiet stopped = absurd stopped
dialling stops.Budget addr before after quiet stopped = absurd stopped
dialling stops.Configuration addr before after quiet stopped = absurd stopped
dialling stops.Output addr before after quiet stopped = absurd stopped

module _ {O C : Type 0} where
  gating : (stop : ServeStop) (settings : GateSettings Text) (before after : Around) → (Rises before.acceptor.faults after.acceptor.faults → ⊥) → (Rises before.dialer.faults after.dialer.faults → ⊥)
      → StoppedGating O C stop settings before after → stop ≡ stops.Memory
  gating stop settings before after accepts dials (AtListening is listens dialer spawner) = absurd (accepts listens.failed)
  gating stop settings before after accepts dials (AtDialling listens stopped spawner) = dialling stop settings.remote before.dialer after.dialer dials stopped
  gating stop settings before after accepts dials (AtLinks ends gates less back fault) = serving stop before.acceptor.faults after.acceptor.faults accepts fault

  -- ===== what the status of a link fault says

  link_rises : (input input' : SourceAt) (out out' : SinkAt) (before after : Around) → Stopped O C stops.Link input input' out out' before after
      → Rises before.acceptor.faults after.acceptor.faults ⊎ Rises before.dialer.faults after.dialer.faults
  link_rises input input' out out' before after (AtReading stopped none same) = absurd stopped
  link_rises input input' out out' before after (AfterReading settings read (AtGating (AtListening is listens dialer spawner) none)) = inl listens.failed
  link_rises input input' out out' before after (AfterReading settings read (AtGating (AtDialling listens stopped spawner) none)) = inr stopped.failed
  link_rises input input' out out' before after (AfterReading settings read (AtGating (AtLinks ends gates less back fault) none)) = inl fault
  link_rises input input' out out' before after (AfterReading settings read (AtPrinting gates stopped)) = absurd stopped

-- another text was reported, or standard error failed
other : {text : List ℕ} (due status : ℕ) (err err' : SinkAt) → (due ≡ statuses.link_fault → ⊥) → status ≡ statuses.link_fault → Reported due text status err err' → ⊥
other due status err err' differs is (inl (same, wrote)) = differs (sym same ∙ is)
other due status err err' differs is (inr (same, wrote)) = omega (arith, is, same)

is_link : (stop : ServeStop) (status : ℕ) (err err' : SinkAt) → status ≡ statuses.link_fault → ReportsStop stop status err err' → stop ≡ stops.Link
is_link stops.Link status err err' is reports = refl
is_link stops.Memory status err err' is reports = absurd (other statuses.no_memory status err err' (λ e. omega (arith, e)) is reports)
is_link stops.Input status err err' is reports = absurd (other statuses.fault status err err' (λ e. omega (arith, e)) is reports)
is_link stops.Output status err err' is reports = absurd (other statuses.fault status err err' (λ e. omega (arith, e)) is reports)
is_link stops.Configuration status err err' is reports = absurd (other statuses.bad_input status err err' (λ e. omega (arith, e)) is reports)
is_link stops.Budget status err err' is reports = absurd (other statuses.over_budget status err err' (λ e. omega (arith, e)) is reports)

-- ===== the laws

module _ {O C : Type 0} where
  pub gateways_have_statuses_lem : GatewaysHaveStatuses O C
  gateways_have_statuses_lem status input input' out out' err err' before after configured calm (Gated is done same) = inl is
  gateways_have_statuses_lem status input input' out out' err err' before after configured calm (NotGated stop (AtReading stopped none same) reports) =
      inr (memory_reported stop status err err' (reading stop configured.text configured.settings input input' configured.whole configured.within configured.reads calm.input_reads stopped) calm.error_writes reports)
  gateways_have_statuses_lem status input input' out out' err err' before after configured calm (NotGated stop (AfterReading settings read (AtGating stopped none)) reports) =
      inr (memory_reported stop status err err' (gating stop settings before after calm.accepts calm.dials stopped) calm.error_writes reports)
  gateways_have_statuses_lem status input input' out out' err err' before after configured calm (NotGated stop (AfterReading settings read (AtPrinting gates stopped)) reports) =
      inr (memory_reported stop status err err' (printing stop out out' (gated_text settings.connections) calm.output_writes stopped) calm.error_writes reports)

  pub gateway_link_faults_lem : GatewayLinkFaults O C
  gateway_link_faults_lem status input input' out out' err err' before after (Gated is done same) fault = absurd (omega (arith, is, fault))
  gateway_link_faults_lem status input input' out out' err err' before after (NotGated stop stopped reports) fault =
      link_rises input input' out out' before after (subst (λ (s : ServeStop). Stopped O C s input input' out out' before after) (is_link stop status err err' fault reports) stopped)
