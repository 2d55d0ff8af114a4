-- Laws of links of `serve`, with record marks and without: a link whose client sends a complete stream is served to its
-- end, and the first byte of a stream says what the link carries.
use Rattle.std.specs.Prelude.{◌≡◌, ⊤, ℕ, ◌<◌, ◌≤◌, Bool, true, false, List, [], ◌∷◌, length, Some}
use Rattle.std.specs.List.{AllByRecursion}
use Rattle.nr_xdr.specs.Item.{IsBytes}
use Rattle.nr_outside.specs.Faults.{Rises}
use Rattle.nr_links.specs.Limits.{read_max}
use Rattle.nr_record.specs.Constants.{REASON_RECORD}
use Rattle.nr_record.specs.Records.{Cut, RecordsEncode, contents, encodings}
use Rattle.nr_record.specs.RecordsState.{IsContentInLimit, IsFaultOf, IsInLimit}
use Rattle.nr_record.specs.declared.fault.RecordFault.TheVariants as faults
use Rattle.nr_reduce.specs.declared.mark.Entry.{Entry}
use Rattle.nr_plain.specs.History.{IsHistory, Opening, setup_in}
use Rattle.nr_record_host.specs.RecordRuns.{Around, around}
use Rattle.nr_record_host.specs.Completing.{HasCallHead, IsComplete}
use Rattle.nr_host.specs.Connections.{Outside}
use Rattle.nr_host.specs.LinkServing.{HELLO_BYTE}
use Rattle.nr_host.specs.Serving.{Between, ServesLink, split_off}
use Rattle.nr_host.specs.Steps.{outside, sink_state}
use Rattle.nr_host.specs.declared.connection_limits.ConnectionLimits.{ConnectionLimits}
use Rattle.nr_host.specs.declared.link_end.LinkEnd.{LinkEnd}
use Rattle.nr_host.specs.declared.link_end.LinkEnd.TheVariants as link_ends
use Rattle.nr_host_laws.specs.Laws.{Completes}
use Rattle.nr_host_laws.specs.Streams.{IsCompleteStream}

-- a link as it was accepted, and as it was hung up
module _ {limits : ConnectionLimits} {records : Bool} {before after : Between} {end : LinkEnd} where
  abbrev pub opened_outside : ServesLink limits records before after end → Outside
  opened_outside s = outside s.opened.left s.opened.given (sink_state s.opened.taken 0 false) s.served.gave (split_off before.view)

  abbrev pub closed_outside : ServesLink limits records before after end → Outside
  closed_outside s = outside s.closed.left s.closed.given (sink_state s.closed.taken s.sink_faults false) s.served.gave' s.served.own

-- ===== RPC over RDMA

-- it counts as RPC over RDMA: it begins with the first byte of a hello, or is empty
abbrev pub BeginsAsRdma : List ℕ → Type 0
BeginsAsRdma [] = ⊤
BeginsAsRdma (byte ∷ rest) = byte ≡ HELLO_BYTE

abbrev pub LinkCompletes : (limits : ConnectionLimits) → Opening → List Entry → (before after : Outside) → List ℕ → LinkEnd → Type 0
LinkCompletes limits first J before after stream (link_ends.Rdma end) = Completes limits first J before after stream end
LinkCompletes limits first J before after stream (link_ends.Record end) = ⊥

-- A link of `serve` whose client sends a complete stream, which begins as RPC over RDMA if the server serves record
-- marks too. The count of lost links doesn't rise.
abbrev pub LinksComplete : Type 0
LinksComplete =
    (limits : ConnectionLimits) (records : Bool) (before after : Between) (end : LinkEnd) (first : Opening) (J : List Entry) (stream : List ℕ) (served : ServesLink limits records before after end) →
    (Rises before.lost after.lost → ⊥) → (records ≡ true → BeginsAsRdma stream) →
    IsHistory first J before.view.seen → served.opened.left ≡ Some stream → IsCompleteStream limits (setup_in first) J stream →
    LinkCompletes limits first J (opened_outside served) (closed_outside served) stream end

-- ===== RPC over TCP with record marks

abbrev pub around_of : Outside → Around
around_of o = around o.left o.given o.sink.taken o.gave o.view

abbrev pub RecordLinkCompletes : (before after : Outside) → List (List ℕ) → LinkEnd → Type 0
RecordLinkCompletes before after records (link_ends.Rdma end) = ⊥
RecordLinkCompletes before after records (link_ends.Record end) = IsComplete (around_of before) (around_of after) records end

-- A link of `serve` with record marks whose client sends one record or more, each complete, within the limit and with a
-- call head, in all fewer than 2^40 bytes. The count of lost links doesn't rise.
abbrev pub RecordLinksComplete : Type 0
RecordLinksComplete =
    (limits : ConnectionLimits) (before after : Between) (end : LinkEnd) (cut : Cut) (cuts : List Cut) (served : ServesLink limits true before after end) →
    (Rises before.lost after.lost → ⊥) → served.opened.left ≡ Some (encodings (cut ∷ cuts)) →
    AllByRecursion IsContentInLimit (cut ∷ cuts) → AllByRecursion HasCallHead (contents (cut ∷ cuts)) → length (encodings (cut ∷ cuts)) < read_max →
    RecordLinkCompletes (opened_outside served) (closed_outside served) (contents (cut ∷ cuts)) end

-- ===== the first byte

-- Bytes that begin with the first byte of a hello are no records: their first fragment is above the limit, the first
-- reason to end at offset 0; and no record within the limit begins with it.
abbrev pub HellosAreNoRecords : Type 0
HellosAreNoRecords =
    (rest : List ℕ) →
    (IsBytes rest → 3 ≤ length rest → IsFaultOf (HELLO_BYTE ∷ rest) (faults.Bad 0 REASON_RECORD))
    × ((records : List (List ℕ)) (left : List ℕ) → RecordsEncode (HELLO_BYTE ∷ rest) records left → AllByRecursion IsInLimit records → records ≡ [])
