-- Links that a gateway takes one after another; and a connection whose link is known by other names.
use Rattle.std.proofs.Common.{◌≡◌, ℕ, List, ap, subst, ◌∙◌}
use Rattle.nr_links.specs.Links.{EndedLink}
use Rattle.nr_turnstile.specs.declared.turnstile.Pass.{Pass}
use Rattle.nr_turnstile.specs.Passes.{mine_of, seen_by}
use Rattle.nr_turnstile.specs.Rule.{Begins, in_order, longer}
use Rattle.nr_record_loop.specs.Connections.{Loop}
use Rattle.nr_shared.specs.declared.entry.Entry.{Entry}
use Rattle.nr_shared.specs.declared.requester_with_sink.RequesterWithSink.{RequesterWithSink}
use Rattle.nr_gate.specs.Gating.{IsGated}
use Rattle.nr_gate.specs.GateLinks.{GatesByPass, KeepsKnown}
use Rattle.nr_gate.specs.declared.gate_end.GateEnd.{GateEnd}

module _ {O C : Type 0} where
  pub gated_same : (before before' after after' : Loop (Pass (RequesterWithSink O C) Entry)) (end : GateEnd) → before ≡ before' → after ≡ after' → IsGated before after end → IsGated before' after' end
  gated_same before before' after after' end b a gated =
      subst (λ (x : Loop (Pass (RequesterWithSink O C) Entry)). IsGated x after' end) b (subst (λ (x : Loop (Pass (RequesterWithSink O C) Entry)). IsGated before x end) a gated)

  -- a connection was served by a pass that was split off after another one had been, which left what is known
  pub gates_from : (p p' q : Pass (RequesterWithSink O C) Entry) (opened closed : EndedLink) (source_faults sink_faults : ℕ) (end : GateEnd)
      → KeepsKnown p p' → GatesByPass p' opened closed source_faults sink_faults end q → GatesByPass p opened closed source_faults sink_faults end q
  gates_from p p' q opened closed source_faults sink_faults end (seen, mine) g = record {
    first = g.first;
    own = g.own;
    split = (g.split.0 ∙ seen, g.split.1);
    gated = g.gated;
    source_count = g.source_count;
    sink_count = g.sink_count;
    joins = record {
      seen = g.joins.seen ∙ ap (λ (s : List Entry). longer s (seen_by g.own)) seen;
      begins = subst (λ (s : List Entry). Begins s (seen_by q)) seen g.joins.begins;
      own_begins = g.joins.own_begins;
      mine = g.joins.mine ∙ ap (λ (m : List ℕ). in_order m (mine_of g.own)) mine;
    };
  }
