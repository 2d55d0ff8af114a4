-- Links whose connections a gateway serves, each beside the others or by itself.
use Rattle.std.specs.Prelude.{◌≡◌, ℕ, List, []}
use Rattle.nr_links.specs.Links.{EndedLink}
use Rattle.nr_turnstile.specs.declared.turnstile.Pass.{Pass}
use Rattle.nr_turnstile.specs.Passes.{mine_of, seen_by}
use Rattle.nr_turnstile.specs.Rule.{Begins, in_order, longer}
use Rattle.nr_accept.specs.Accepting as accept
use Rattle.nr_record_loop.specs.Connections.{SinkCount, SourceCount, loop_at}
use Rattle.nr_shared.specs.declared.entry.Entry.{Entry}
use Rattle.nr_shared.specs.declared.requester_with_sink.RequesterWithSink.{RequesterWithSink}
use Rattle.nr_gate.specs.Gating.{IsGated, loop_end}
use Rattle.nr_gate.specs.declared.gate_end.GateEnd.{GateEnd}

module _ {O C : Type 0} where
  -- it knows what it knew
  abbrev pub KeepsKnown : Pass (RequesterWithSink O C) Entry → Pass (RequesterWithSink O C) Entry → Type 0
  KeepsKnown p q = (seen_by q ≡ seen_by p) × (mine_of q ≡ mine_of p)

  -- a pass that was split from another: it has seen what that one had, and nothing is its own
  abbrev pub SplitsOff : Pass (RequesterWithSink O C) Entry → Pass (RequesterWithSink O C) Entry → Type 0
  SplitsOff p own = (seen_by own ≡ seen_by p) × (mine_of own ≡ [])

  -- a pass took in another one
  pub record JoinsPass (p own q : Pass (RequesterWithSink O C) Entry) : Type 0 where
    pub seen : seen_by q ≡ longer (seen_by p) (seen_by own)
    pub begins : Begins (seen_by p) (seen_by q)
    pub own_begins : Begins (seen_by own) (seen_by q)
    pub mine : mine_of q ≡ in_order (mine_of p) (mine_of own)

  -- The connection of a link was served to its end by a pass of its own, `first` and then `own`, which the gateway's pass took
  -- in. `opened` is the link as it was accepted, `closed` as it is hung up, with the fault counts of its source and its sink,
  -- which were 0.
  pub record GatesByPass (p : Pass (RequesterWithSink O C) Entry) (opened closed : EndedLink) (source_faults sink_faults : ℕ) (end : GateEnd) (q : Pass (RequesterWithSink O C) Entry) : Type 0 where
    pub first : Pass (RequesterWithSink O C) Entry
    pub own : Pass (RequesterWithSink O C) Entry
    pub split : SplitsOff p first
    pub gated : IsGated (loop_at opened.left opened.given opened.taken first) (loop_at closed.left closed.given closed.taken own) end
    pub source_count : SourceCount (loop_end end) 0 source_faults
    pub sink_count : SinkCount (loop_end end) 0 sink_faults
    pub joins : JoinsPass p own q

  -- Links were taken one after another: of each a job was started, or its connection was served here. These are the ends of
  -- the latter.
  abbrev pub GatesLinks : (before : accept.Between (Pass (RequesterWithSink O C) Entry)) → (ends : List GateEnd) → (after : accept.Between (Pass (RequesterWithSink O C) Entry)) → Type 0
  GatesLinks before ends after = accept.Serves KeepsKnown GatesByPass before ends after
