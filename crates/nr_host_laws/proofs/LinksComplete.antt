-- Links of `serve`: how they end, by what their client sends.
use Rattle.std.proofs.Common.{◌≡◌, ℕ, ◌<◌, ◌≤◌, inl, inr, Bool, true, false, List, [], ◌∷◌, ◌++◌, length, Option, Some, None, refl, arith, subst, sym, ap, ◌∙◌}
use Rattle.std.proofs.lemmas.Bool.{ltb-false}
use Rattle.std.proofs.lemmas.List.{length-append}
use Rattle.std.proofs.lemmas.Option.{none-some, same_Some}
use Rattle.std.specs.Prelude.{MatchBool, nat_lt, ◌||◌}
use Rattle.std.specs.List.{AllByRecursion}
use Rattle.std.specs.Io.KnownBytes.{Consumes, IsAtEnd, Keeps}
use Rattle.nr_outside.specs.Faults.{Rises}
use Rattle.nr_links.specs.Limits.{read_max}
use Rattle.nr_links.specs.Links.{CountsLost, is_faulty}
use Rattle.nr_links.specs.Peeked.{left_with}
use Rattle.nr_record.specs.Records.{Cut, contents, encoding, encodings}
use Rattle.nr_record.specs.RecordsState.{IsContentInLimit}
use Rattle.nr_reduce.specs.declared.mark.Entry.{Entry}
use Rattle.nr_reduce.specs.History.{bytes_received}
use Rattle.nr_wire.specs.declared.hello.Side.TheVariants.{Responder}
use Rattle.nr_plain.specs.History.{IsHistory, Opening, setup_in}
use Rattle.nr_record_host.specs.Completing.{AnswersRecords, HasCallHead, IsComplete}
use Rattle.nr_record_host.specs.declared.record_end.RecordEnd.{RecordEnd}
use Rattle.nr_record_host.specs.declared.record_end.RecordEnd.TheVariants as record_ends
use Rattle.nr_record_host.proofs.Completing as record_completing
use Rattle.nr_record_loop.proofs.Readers.{encoding_some}
use Rattle.nr_host.specs.Connections.{Outside}
use Rattle.nr_host.specs.Ending.{HasRead, ReadAt, SourceCount}
use Rattle.nr_host.specs.LinkServing.{HELLO_BYTE, IsHeld, IsKindFor, LinkSinkCount, LinkSourceCount, LooksAndServes, holding}
use Rattle.nr_host.specs.Steps.{outside}
use Rattle.nr_host.specs.declared.connection_limits.ConnectionLimits.{ConnectionLimits}
use Rattle.nr_host.specs.declared.conn_end.ConnEnd.{ConnEnd}
use Rattle.nr_host.specs.declared.conn_end.ConnEnd.TheVariants as ends
use Rattle.nr_host.specs.declared.link_end.LinkEnd.{LinkEnd}
use Rattle.nr_host.specs.declared.link_end.LinkEnd.TheVariants as link_ends
use Rattle.nr_host_laws.specs.Laws.{Completes, EndsForOldCall}
use Rattle.nr_host_laws.specs.LinkLaws.{BeginsAsRdma, LinkCompletes, LinksComplete, RecordLinkCompletes, RecordLinksComplete, around_of, closed_outside, opened_outside}
use Rattle.nr_host_laws.specs.Streams.{IsCompleteStream, ServesStream}
use Rattle.nr_host_laws.proofs.Completing.{completes}
use Rattle.nr_host_laws.proofs.Hellos.{no_hello}

-- ---- A link that is not lost

not_lost : (source sink before after : ℕ) → CountsLost source sink before after → (Rises before after → ⊥) → is_faulty source sink ≡ false
not_lost source sink before after counts fine = by (is_faulty source sink) counts
  where
    by : (faulty : Bool) → MatchBool faulty (Rises before after) (after ≡ before) → faulty ≡ false
    by true rose = absurd (fine rose)
    by false same = refl

neither : (a b : Bool) → (a || b) ≡ false → (a ≡ false) × (b ≡ false)
neither true b is = absurd cc
neither false b is = (refl, is)

no_fault : (source sink : ℕ) → is_faulty source sink ≡ false → (source ≡ 0) × (sink ≡ 0)
no_fault source sink is =
    let none : (nat_lt 0 source ≡ false) × (nat_lt 0 sink ≡ false) = neither (nat_lt 0 source) (nat_lt 0 sink) is in
    let source_none : source ≤ 0 = ltb-false 0 source none.0 in
    let sink_none : sink ≤ 0 = ltb-false 0 sink none.1 in
    (omega (arith, source_none), omega (arith, sink_none))

no_rise : (count : ℕ) → count ≡ 0 → Rises 0 count → ⊥
no_rise count none (inl more) = absurd (omega (arith, none, more))
no_rise count none (inr last) = absurd (omega (arith, none, last))

-- ---- A byte that is held is still to come

some_bytes : (byte : ℕ) (left : List ℕ) → byte ∷ left ≡ [] → ⊥
some_bytes byte left e = absurd (omega (arith, ap length e))

none_held : (held : Option ℕ) (left : Option (List ℕ)) → left_with held left ≡ Some [] → held ≡ None
none_held None left e = refl
none_held (Some byte) None e = absurd (none-some [] e)
none_held (Some byte) (Some left) e = absurd (some_bytes byte left (same_Some (byte ∷ left) [] e))

none_held_at : (held : Option ℕ) (left : Option (List ℕ)) (all bytes : List ℕ) → Consumes (Some all) (left_with held left) bytes → IsAtEnd (left_with held left) → held ≡ None
none_held_at None left all bytes c e = refl
none_held_at (Some byte) None all bytes c e = absurd c
none_held_at (Some byte) (Some left) all bytes c e = absurd (some_bytes byte left e)

left_none : (left : Option (List ℕ)) → left_with None left ≡ left
left_none None = refl
left_none (Some left) = refl

without : (o : Outside) → holding None o ≡ o
without o = λ i. outside (left_none o.left i) o.given o.sink o.gave o.view

unheld : (held : Option ℕ) (o : Outside) → held ≡ None → holding held o ≡ o
unheld held o none = ap (λ (h : Option ℕ). holding h o) none ∙ without o

-- ---- RPC over RDMA

not_records : (stream : List ℕ) (left : Option (List ℕ)) (end : RecordEnd) → BeginsAsRdma stream → IsKindFor (Some stream) left (link_ends.Record end) → ⊥
not_records [] left end hello kind = absurd kind
not_records (byte ∷ rest) left end hello (inl other) = other hello
not_records (byte ∷ rest) left end hello (inr never) = absurd never

-- a connection that read something holds no byte
some_held : (byte : ℕ) (left : Option (List ℕ)) (stream bytes : List ℕ) → Consumes (Some stream) left (byte ∷ []) → Consumes (Some stream) (left_with (Some byte) left) bytes → 0 < length bytes → ⊥
some_held byte None stream bytes one all more = absurd one
some_held byte (Some rest) stream bytes one all more =
    let same : bytes ++ byte ∷ rest ≡ byte ∷ rest = sym all ∙ one in
    let lengths = ap length same in
    let parts = length-append bytes (byte ∷ rest) in
    absurd (omega (arith, lengths, parts, more))

none_held_by : (held : Option ℕ) (before left given given' : Option (List ℕ)) (stream bytes : List ℕ) → before ≡ Some stream → IsHeld held before given left given' → Consumes before (left_with held left) bytes → 0 < length bytes → held ≡ None
none_held_by None before left given given' stream bytes known is all more = refl
none_held_by (Some byte) before left given given' stream bytes known is all more =
    absurd (some_held byte left stream bytes (subst (λ (o : Option (List ℕ)). Consumes o left (byte ∷ [])) known is.from_left) (subst (λ (o : Option (List ℕ)). Consumes o (left_with (Some byte) left) bytes) known all) more)

module _ (limits : ConnectionLimits) (first : Opening) (J : List Entry) (before after : Outside) (stream : List ℕ) (held : Option ℕ) (known : before.left ≡ Some stream)
    (held_is : IsHeld held before.left before.given after.left after.given) where
  old_read : (end : ConnEnd) (link : ℕ) → EndsForOldCall limits link before (holding held after) end → EndsForOldCall limits link before after end
  old_read end link o =
      let bytes : List ℕ = bytes_received link Responder o.ended.run ++ o.ended.ahead in
      let read : HasRead o.read = subst (λ (e : ConnEnd). ReadAt e o.read) o.end_is o.ended.read_is in
      let some : 0 < length bytes =
      (let more = read.0 in let count = o.ended.runs.count in let parts = length-append (bytes_received link Responder o.ended.run) o.ended.ahead in omega (arith, more, count, parts)) in
      let none : held ≡ None = none_held_by held before.left after.left before.given after.given stream bytes known held_is o.ended.runs.handed.from_left some in
      subst (λ (x : Outside). EndsForOldCall limits link before x end) (unheld held after none) o

  all_read : (end : ConnEnd) → Completes limits first J before (holding held after) stream end → Completes limits first J before after stream end
  all_read end (inl memory) = inl memory
  all_read end (inr (inl (closed, serves))) =
      inr (inl (closed, λ link. subst (λ (o : Outside). ServesStream limits first J link before o stream) (unheld held after (none_held held after.left (serves link).left)) (serves link)))
  all_read end (inr (inr old)) = inr (inr (λ link. old_read end link (old link)))

looked_completes : (limits : ConnectionLimits) (before after : Outside) (end : LinkEnd) (source source' : ℕ) (first : Opening) (J : List Entry) (stream : List ℕ)
    → LooksAndServes limits before after end → LinkSourceCount end source source' → LinkSinkCount end before.sink.faults after.sink.faults
    → (Rises source source' → ⊥) → (Rises before.sink.faults after.sink.faults → ⊥)
    → IsHistory first J before.view.seen → before.left ≡ Some stream → IsCompleteStream limits (setup_in first) J stream → BeginsAsRdma stream → LinkCompletes limits first J before after stream end
looked_completes limits before after (link_ends.Rdma end) source source' first J stream s sc kc quiet fine stands known complete hello =
    all_read limits first J before after stream s.held known s.held_is end
    (completes limits before (holding s.held after) end source source' first J stream s.serves sc kc quiet fine stands known complete)
looked_completes limits before after (link_ends.Record end) source source' first J stream s sc kc quiet fine stands known complete hello =
    absurd (not_records stream (left_with s.held after.left) end hello
    (subst (λ (l : Option (List ℕ)). IsKindFor l (left_with s.held after.left) (link_ends.Record end)) known s.kind))

pub links_complete : LinksComplete
links_complete limits false before after (link_ends.Record end) first J stream served fine hello stands known complete = absurd served.served.served
links_complete limits false before after (link_ends.Rdma end) first J stream served fine hello stands known complete =
    let none = no_fault served.source_faults served.sink_faults (not_lost served.source_faults served.sink_faults before.lost after.lost served.lost fine) in
    completes limits (opened_outside served) (closed_outside served) end 0 served.source_faults first J stream served.served.served served.served.source_count served.served.sink_count
    (no_rise served.source_faults none.0) (no_rise served.sink_faults none.1) stands known complete
links_complete limits true before after end first J stream served fine hello stands known complete =
    let none = no_fault served.source_faults served.sink_faults (not_lost served.source_faults served.sink_faults before.lost after.lost served.lost fine) in
    looked_completes limits (opened_outside served) (closed_outside served) end 0 served.source_faults first J stream served.served.served served.served.source_count served.served.sink_count
    (no_rise served.source_faults none.0) (no_rise served.sink_faults none.1) stands known complete (hello refl)

-- ---- RPC over TCP with record marks

module _ (byte : ℕ) (rest : List ℕ) where
  not_at_end : (left : Option (List ℕ)) → Keeps (Some (byte ∷ rest)) left → IsAtEnd left → ⊥
  not_at_end None kept over = absurd kept
  not_at_end (Some left) kept over = some_bytes byte rest (sym kept ∙ over)

not_rdma : (stream : List ℕ) (left : Option (List ℕ)) (end : ConnEnd) (source source' : ℕ) → 0 < length stream → ((rest : List ℕ) → stream ≡ HELLO_BYTE ∷ rest → ⊥)
    → IsKindFor (Some stream) left (link_ends.Rdma end) → SourceCount end source source' → (Rises source source' → ⊥) → ⊥
not_rdma [] left end source source' some other kind sc quiet = absurd (omega (arith, some))
not_rdma (byte ∷ rest) left end source source' some other (inl hello) sc quiet = other rest (ap (λ (b : ℕ). b ∷ rest) hello)
not_rdma (byte ∷ rest) left ends.LinkRead source source' some other (inr unread) sc quiet = quiet sc
not_rdma (byte ∷ rest) left ends.Closed source source' some other (inr unread) sc quiet = not_at_end byte rest left unread.0 unread.1
not_rdma (byte ∷ rest) left (ends.Cut at calls) source source' some other (inr unread) sc quiet = absurd unread
not_rdma (byte ∷ rest) left ends.LinkWrite source source' some other (inr unread) sc quiet = absurd unread
not_rdma (byte ∷ rest) left (ends.Protocol why) source source' some other (inr unread) sc quiet = absurd unread
not_rdma (byte ∷ rest) left (ends.Budget most) source source' some other (inr unread) sc quiet = absurd unread
not_rdma (byte ∷ rest) left ends.Memory source source' some other (inr unread) sc quiet = absurd unread

all_answered : (before after : Outside) (held : Option ℕ) (all : List ℕ) (records : List (List ℕ)) (end : RecordEnd) → before.left ≡ Some all
    → IsComplete (around_of before) (around_of (holding held after)) records end → IsComplete (around_of before) (around_of after) records end
all_answered before after held all records record_ends.Closed known a =
    let c = subst (λ (l : Option (List ℕ)). Consumes l (left_with held after.left) a.bytes) known a.serves.handed.from_left in
    subst (λ (o : Outside). AnswersRecords (around_of before) (around_of o) records) (unheld held after (none_held_at held after.left all a.bytes c a.left)) a
all_answered before after held all records (record_ends.Cut at) known never = absurd never
all_answered before after held all records record_ends.LinkRead known never = absurd never
all_answered before after held all records record_ends.LinkWrite known never = absurd never
all_answered before after held all records (record_ends.Bad at reason) known never = absurd never
all_answered before after held all records (record_ends.Budget most) known never = absurd never
all_answered before after held all records record_ends.Memory known a = tt

records_complete : (limits : ConnectionLimits) (before after : Outside) (end : LinkEnd) (source source' : ℕ) (cut : Cut) (cuts : List Cut)
    → LooksAndServes limits before after end → LinkSourceCount end source source' → LinkSinkCount end before.sink.faults after.sink.faults
    → (Rises source source' → ⊥) → (Rises before.sink.faults after.sink.faults → ⊥)
    → before.left ≡ Some (encodings (cut ∷ cuts)) → AllByRecursion IsContentInLimit (cut ∷ cuts) → AllByRecursion HasCallHead (contents (cut ∷ cuts)) → length (encodings (cut ∷ cuts)) < read_max
    → RecordLinkCompletes before after (contents (cut ∷ cuts)) end
records_complete limits before after (link_ends.Record end) source source' cut cuts s sc kc quiet fine known within heads few =
    all_answered before after s.held (encodings (cut ∷ cuts)) (contents (cut ∷ cuts)) end known
    (record_completing.completes (around_of before) (around_of (holding s.held after)) end (cut ∷ cuts) source source' before.sink.faults after.sink.faults known within heads few s.serves sc kc quiet fine)
records_complete limits before after (link_ends.Rdma end) source source' cut cuts s sc kc quiet fine known within heads few =
    let some : 0 < length (encodings (cut ∷ cuts)) = (let one = encoding_some cut in omega (arith, one, length-append (encoding cut) (encodings cuts))) in
    absurd (not_rdma (encodings (cut ∷ cuts)) (left_with s.held after.left) end source source' some (λ rest. no_hello cut (encodings cuts) rest within.0)
    (subst (λ (l : Option (List ℕ)). IsKindFor l (left_with s.held after.left) (link_ends.Rdma end)) known s.kind) sc quiet)

pub record_links_complete : RecordLinksComplete
record_links_complete limits before after end cut cuts served fine known within heads few =
    let none = no_fault served.source_faults served.sink_faults (not_lost served.source_faults served.sink_faults before.lost after.lost served.lost fine) in
    records_complete limits (opened_outside served) (closed_outside served) end 0 served.source_faults cut cuts served.served.served served.served.source_count served.served.sink_count
    (no_rise served.source_faults none.0) (no_rise served.sink_faults none.1) known within heads few
