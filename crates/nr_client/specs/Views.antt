-- A link as a caller sees it.
use Rattle.std.specs.Prelude.{ℕ, List, Option}
use Rattle.nr_requester.specs.RequesterState.{RequesterSide}
use Rattle.nr_client.specs.Transfers.{LinkBytes, link_bytes}

-- A link at a moment: what is known of its bytes, its requester, and the fault counts of its source and its sink.
pub record LinkView : Type 0 where
  pub bytes : LinkBytes
  pub requester : RequesterSide
  pub source_faults : ℕ
  pub sink_faults : ℕ

abbrev pub link_view : (left given taken : Option (List ℕ)) → ℕ → RequesterSide → (source_faults sink_faults : ℕ) → LinkView
link_view left given taken read requester source_faults sink_faults =
    record { bytes = link_bytes left given taken read; requester = requester; source_faults = source_faults; sink_faults = sink_faults }
