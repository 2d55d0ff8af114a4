-- A forwarded call is never too large for the remote link of a gateway.
use Rattle.std.specs.Prelude.{ℕ, List}
use Rattle.std.specs.List.{AllByRecursion}
use Rattle.nr_xdr.specs.Item.{IsBytes}
use Rattle.nr_links.specs.Links.{EndedLink}
use Rattle.nr_reduce.specs.declared.mark.LinkParameters.{LinkParameters}
use Rattle.nr_reduce.specs.declared.mark.Mark.{Mark}
use Rattle.nr_turnstile.specs.declared.turnstile.Pass.{Pass}
use Rattle.nr_turnstile.specs.Passes.{seen_by}
use Rattle.nr_record_loop.specs.Connections.{Loop}
use Rattle.nr_shared.specs.declared.call_end.CallEnd.TheVariants as call_ends
use Rattle.nr_shared.specs.declared.entry.Entry.{Entry}
use Rattle.nr_shared.specs.declared.requester_with_sink.RequesterWithSink.{RequesterWithSink}
use Rattle.nr_shared.specs.LinkRuns.{FitsHistory}
use Rattle.nr_gate.specs.declared.gate_end.GateEnd.TheVariants as ends
use Rattle.nr_gate.specs.Gating.{IsGated}
use Rattle.nr_gate.specs.GateLinks.{GatesByPass}

-- No connection of a gateway whose records are bytes ends with this, if the history that its pass has seen in the end is that of a
-- requester which stood for some marks when it was shared, whichever numbers its links have.
abbrev pub ConnectionsNeverEndTooLarge : (O C : Type 0) → Type 0
ConnectionsNeverEndTooLarge O C = (before after : Loop (Pass (RequesterWithSink O C) Entry)) (need room : ℕ) (opened : LinkParameters) (numbers : ℕ → ℕ) (shared_after : List Mark)
    (g : IsGated before after (ends.Remote (call_ends.TooLarge need room))) → AllByRecursion IsBytes g.records → FitsHistory (seen_by after.state) opened numbers shared_after → ⊥

-- Nor does that of a link that the gateway served itself.
abbrev pub LinksNeverEndTooLarge : (O C : Type 0) → Type 0
LinksNeverEndTooLarge O C = (p q : Pass (RequesterWithSink O C) Entry) (accepted hung_up : EndedLink) (source_faults sink_faults need room : ℕ) (opened : LinkParameters) (numbers : ℕ → ℕ) (shared_after : List Mark)
    (g : GatesByPass p accepted hung_up source_faults sink_faults (ends.Remote (call_ends.TooLarge need room)) q) → AllByRecursion IsBytes g.gated.records → FitsHistory (seen_by g.own) opened numbers shared_after → ⊥
