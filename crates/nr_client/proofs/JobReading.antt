-- A file is read by jobs: one outcome more, and how it ends.
use Rattle.std.proofs.Common.{◌≡◌, inl, inr, arith, ℕ, ◌+◌, ◌<◌, ◌≤◌, List, [], ◌∷◌, ◌++◌, length, take, append-nil, append_assoc, Bool, false, Option, None, Some, is_some, Result, Ok, Err, refl, sym, ap, subst, ◌∙◌}
use Rattle.std.specs.List.{All, slice_index_or}
use Rattle.std.proofs.lemmas.Bool.{le-ltb}
use Rattle.std.proofs.KnownBytes.{Appends-nil, Appends-trans}
use mathlib.Core.Option.{some-injective}
use lib.ListN.{get_elem?}
use Rattle.nr_outside.specs.Faults.{last_count}
use Rattle.nr_outside.specs.Streams.{SinkAt, SourceAt, sink_at, source_at}
use Rattle.nr_nfs_base.specs.declared.attributes.Attributes.{Attributes}
use Rattle.nr_reduce.specs.declared.call.Call.{Call}
use Rattle.nr_reduce.specs.declared.call.Form.{Form}
use Rattle.nr_reduce.specs.declared.call.Outcome.{Outcome}
use Rattle.nr_requester.specs.RequesterState.{RequesterSide}
use Rattle.nr_turnstile.specs.declared.turnstile.Pass.{Pass}
use Rattle.nr_turnstile.specs.Passes.{mine_of, seen_by}
use Rattle.nr_turnstile.specs.Rule.{Begins}
use Rattle.nr_shared.specs.declared.entry.Entry.{Entry}
use Rattle.nr_shared.specs.declared.entry.Entry.TheVariants as entries
use Rattle.nr_shared.specs.declared.entry.InitialSink.{InitialSink}
use Rattle.nr_shared.specs.declared.entry.InitialState.{InitialState}
use Rattle.nr_shared.specs.declared.no_dialer.NoDialer.{NoDialer}
use Rattle.nr_shared.specs.declared.requester_with_sink.RequesterWithSink.{RequesterWithSink}
use Rattle.nr_shared.specs.declared.shared.SharedRequester.{SharedRequester}
use Rattle.nr_shared.specs.Histories.{PastLink, bytes_fed, initial_of, present, sink_of}
use Rattle.nr_shared.specs.Feeding.{AskedEach, AskedIf, shared_giving}
use Rattle.nr_shared.specs.Opening.{GivesBack, GivesLink}
use Rattle.nr_shared.proofs.Histories.{initial_more}
use Rattle.nr_client.specs.declared.client_end.ClientEnd.{ClientEnd}
use Rattle.nr_client.specs.declared.client_end.ClientEnd.TheVariants as client
use Rattle.nr_client.specs.declared.jobs.ReadJob.{ReadJob}
use Rattle.nr_client.specs.Following.Next.{Calls, Returns}
use Rattle.nr_client.specs.Jobs.{AreExchanges, GetsAttributes, IsExchange, IsPiece, LinkAt, ReadsByJobs, ReadsFileByJobs, ReadsShared, view_at, link_at}
use Rattle.nr_client.specs.Jobs.ReadsFileByJobs.{NoAttributes, Shared}
use Rattle.nr_client.specs.LinkParts.{LinkParts}
use Rattle.nr_client.specs.Reading.{file_read, next_read, piece_left, read_call, reading, with_size}
use Rattle.nr_client.specs.Reading.FileRead.{SizeKnown}
use Rattle.nr_client.specs.Requests.{Asks, SinkFaults, SourceFaults, getattr_call, getattr_result}
use Rattle.nr_client.specs.private.JobReads.{Grows, HasNone, IsDone, IsUpTo, ReadByJobs}
use Rattle.nr_client.specs.private.OpenReads.{GivesData, GivesNone, IsInPiece}
use Rattle.nr_client.proofs.FileEnds.{at_reply, takes_bytes}
use Rattle.nr_client.proofs.FilePieces.{in_piece}
use Rattle.nr_client.proofs.FileReading.{data_came, follows}
use Rattle.nr_client.proofs.JobCalls.{all_lent, exchanges_grow}

-- one exchange more
exchanges_end : (uid gid : ℕ) (file : List ℕ) (seen : List Entry) (mine : List ℕ) (before after : List Outcome) (outcome : Outcome) (call : Call)
    → reading uid gid file (before ++ after) ≡ Calls call → IsExchange seen mine call outcome → AreExchanges uid gid file seen mine before after → AreExchanges uid gid file seen mine before (after ++ outcome ∷ [])
exchanges_end uid gid file seen mine before [] outcome call is made all = ((call, ap (reading uid gid file) (sym (append-nil before)) ∙ is, made), tt)
exchanges_end uid gid file seen mine before (o ∷ after) outcome call is made all =
    (all.0, exchanges_end uid gid file seen mine (before ++ o ∷ []) after outcome call (ap (reading uid gid file) (append_assoc before (o ∷ []) after) ∙ is) made all.1)

-- ---- Offsets

up_to : (size at end : ℕ) → IsInPiece size at end → IsUpTo size at end
up_to size at end (inl is) = inl is
up_to size at end (inr (below, (within, ends))) = inr (below, ends)

pub ends_at : (size at end : ℕ) → at < end → IsUpTo size at end → at + piece_left size at ≡ end
ends_at size at end below (inl is) = absurd (omega (arith, below, is))
ends_at size at end below (inr (within, ends)) = ends

pub up_to_more : (size at at' end n count : ℕ) → at < size → count ≡ piece_left size at → at' ≡ at + n → at + piece_left size at ≡ end → 0 < n → n ≤ count → IsUpTo size at' end
up_to_more size at at' end n count below same goes ends more within = up_to size at' end (in_piece size at at' end n count below same goes ends more within)

pub piece_at : (uid gid : ℕ) (file : List ℕ) (size at count : ℕ) → at < size → count ≡ piece_left size at → IsPiece uid gid file size (read_call uid gid file at count)
piece_at uid gid file size at count below same = (at, (below, ap (λ (n : ℕ). read_call uid gid file at n) same))

module _ {O C : Type 0} where
  exchanged_more : (uid gid : ℕ) (file : List ℕ) (first : Outcome) (size at count : ℕ) (p q : Pass (RequesterWithSink O C) Entry) (outcome : Outcome) (t u : Option (List ℕ))
      → at < size → count ≡ piece_left size at → Grows p q → IsExchange (seen_by q) (mine_of q) (read_call uid gid file at count) outcome
      → (so_far : ReadByJobs uid gid file first size at p t u) → AreExchanges uid gid file (seen_by q) (mine_of q) (first ∷ []) (so_far.outcomes ++ outcome ∷ [])
  exchanged_more uid gid file first size at count p q outcome t u below same grows made so_far =
      exchanges_end uid gid file (seen_by q) (mine_of q) (first ∷ []) so_far.outcomes outcome (read_call uid gid file at (piece_left size at))
      (follows uid gid file size at so_far.bytes (first ∷ so_far.outcomes) below so_far.state)
      (subst (λ (n : ℕ). IsExchange (seen_by q) (mine_of q) (read_call uid gid file at n) outcome) same made)
      (exchanges_grow uid gid file p q (first ∷ []) so_far.outcomes grows so_far.made)

  -- GETATTR told the size
  pub started : (uid gid : ℕ) (file : List ℕ) (first : Outcome) (size : ℕ) (p : Pass (RequesterWithSink O C) Entry) (taken : Option (List ℕ)) → file_read (first ∷ []) ≡ SizeKnown size 0 [] → ReadByJobs uid gid file first size 0 p taken taken
  started uid gid file first size p taken told = record { outcomes = []; bytes = []; made = tt; state = told; appends = Appends-nil taken }

  -- the data of one READ more
  pub read_more : (uid gid : ℕ) (file : List ℕ) (first : Outcome) (size at at' count step : ℕ) (p q : Pass (RequesterWithSink O C) Entry) (outcome : Outcome) (t u v : Option (List ℕ))
      → at < size → count ≡ piece_left size at → at' ≡ at + step → Grows p q → IsExchange (seen_by q) (mine_of q) (read_call uid gid file at count) outcome → GivesData count outcome step u v
      → ReadByJobs uid gid file first size at p t u → ReadByJobs uid gid file first size at' q t v
  read_more uid gid file first size at at' count step p q outcome t u v below same goes grows made (results, (reads, (is, appends))) so_far = record {
    outcomes = so_far.outcomes ++ outcome ∷ [];
    bytes = so_far.bytes ++ results.bytes;
    made = exchanged_more uid gid file first size at count p q outcome t u below same grows made so_far;
    state = data_came size at at' count step so_far.bytes (first ∷ so_far.outcomes) outcome results so_far.state same goes reads is;
    appends = Appends-trans t u v so_far.bytes results.bytes so_far.appends appends;
  }

  -- nothing more was read
  pub read_same : (uid gid : ℕ) (file : List ℕ) (first : Outcome) (size at : ℕ) (p q : Pass (RequesterWithSink O C) Entry) (t u : Option (List ℕ)) → Grows p q → ReadByJobs uid gid file first size at p t u → ReadByJobs uid gid file first size at q t u
  read_same uid gid file first size at p q t u grows so_far = record {
    outcomes = so_far.outcomes;
    bytes = so_far.bytes;
    made = exchanges_grow uid gid file p q (first ∷ []) so_far.outcomes grows so_far.made;
    state = so_far.state;
    appends = so_far.appends;
  }

  -- ---- Ends

  pub all_came : (uid gid : ℕ) (file : List ℕ) (first : Outcome) (size at : ℕ) (p : Pass (RequesterWithSink O C) Entry) (t u : Option (List ℕ)) → size ≤ at → ReadByJobs uid gid file first size at p t u → ReadsByJobs uid gid file first (seen_by p) (mine_of p) t u (Ok tt)
  all_came uid gid file first size at p t u above so_far =
      let returns : next_read uid gid file (SizeKnown size at so_far.bytes) ≡ Returns (Ok tt) = rw (le-ltb at size above) refl in
      record {
        outcomes = so_far.outcomes;
        made = so_far.made;
        ends = inl (inl (inr (ap (next_read uid gid file) so_far.state ∙ returns), inl (takes_bytes (first ∷ so_far.outcomes) (SizeKnown size at so_far.bytes) t u so_far.state so_far.appends)));
      }

  pub memory_out : (uid gid : ℕ) (file : List ℕ) (first : Outcome) (size at : ℕ) (p : Pass (RequesterWithSink O C) Entry) (t u : Option (List ℕ)) → ReadByJobs uid gid file first size at p t u → ReadsByJobs uid gid file first (seen_by p) (mine_of p) t u (Err client.Memory)
  memory_out uid gid file first size at p t u so_far = record {
    outcomes = so_far.outcomes;
    made = so_far.made;
    ends = inl (inl (inl refl, inl (takes_bytes (first ∷ so_far.outcomes) (SizeKnown size at so_far.bytes) t u so_far.state so_far.appends)));
  }

  -- the next READ has no outcome
  pub none_came : (uid gid : ℕ) (file : List ℕ) (first : Outcome) (size at count : ℕ) (p q : Pass (RequesterWithSink O C) Entry) (why : ClientEnd) (t u : Option (List ℕ)) → at < size → count ≡ piece_left size at → Grows p q
      → HasNone (read_call uid gid file at count) why q → ReadByJobs uid gid file first size at p t u → ReadsByJobs uid gid file first (seen_by q) (mine_of q) t u (Err why)
  none_came uid gid file first size at count p q why t u below same grows (inl memory) so_far =
      subst (λ (e : ClientEnd). ReadsByJobs uid gid file first (seen_by q) (mine_of q) t u (Err e)) (sym memory) (memory_out uid gid file first size at q t u (read_same uid gid file first size at p q t u grows so_far))
  none_came uid gid file first size at count p q why t u below same grows (inr (cause, (is, lacks))) so_far = record {
    outcomes = so_far.outcomes;
    made = exchanges_grow uid gid file p q (first ∷ []) so_far.outcomes grows so_far.made;
    ends = inr (
      read_call uid gid file at count,
      cause,
      (
        follows uid gid file size at so_far.bytes (first ∷ so_far.outcomes) below so_far.state ∙ ap (λ (n : ℕ). Calls (read_call uid gid file at n)) (sym same),
        (ap (λ (e : ClientEnd). Err e) is, (lacks, inl (takes_bytes (first ∷ so_far.outcomes) (SizeKnown size at so_far.bytes) t u so_far.state so_far.appends))),
      ),
    );
  }

  -- its reply has no data, or some of these were not written
  pub data_fails : (uid gid : ℕ) (file : List ℕ) (first : Outcome) (size at count : ℕ) (p q : Pass (RequesterWithSink O C) Entry) (outcome : Outcome) (why : ClientEnd) (t u v : Option (List ℕ)) → at < size → count ≡ piece_left size at → Grows p q
      → IsExchange (seen_by q) (mine_of q) (read_call uid gid file at count) outcome → GivesNone count outcome why u v → ReadByJobs uid gid file first size at p t u → ReadsByJobs uid gid file first (seen_by q) (mine_of q) t v (Err why)
  data_fails uid gid file first size at count p q outcome why t u v below same grows made gives so_far = record {
    outcomes = so_far.outcomes ++ outcome ∷ [];
    made = exchanged_more uid gid file first size at count p q outcome t u below same grows made so_far;
    ends = inl (at_reply uid gid file size at count so_far.bytes (first ∷ so_far.outcomes) outcome why t u v same so_far.state so_far.appends gives);
  }

-- ---- Jobs that have run

-- The jobs were lent as a slice, and each has run: a caller can take their passes back.
pub all_done : {I O C : Type 0} (s : SharedRequester I O C (NoDialer I O)) (uid gid : ℕ) (file : List ℕ) (size len : ℕ) (old new rest : List (ReadJob I O C)) → length new ≡ length old → length old ≡ len
    → ((k : ℕ) (d : ReadJob I O C) → k < length old → IsDone s uid gid file size (slice_index_or new k d)) → All (IsDone s uid gid file size) (take len (new ++ rest))
all_done s uid gid file size len old new rest same lent run =
    subst (All (IsDone s uid gid file size)) (sym (all_lent len new rest (same ∙ lent))) (λ k d lt. run k d (subst (λ (n : ℕ). k < n) same lt))

-- ---- Shared and taken back

-- GETATTR over the link gave the attributes
pub gets : (uid gid : ℕ) (file : List ℕ) (l m : LinkAt) (attributes : Attributes) → Asks getattr_result (getattr_call uid gid file) (view_at l) (view_at m) (Ok attributes)
    → m.source.faults ≡ l.source.faults → m.sink.faults ≡ l.sink.faults → (outcome : Outcome) × GetsAttributes uid gid file outcome attributes l m
gets uid gid file l m attributes (inl (outcome, (answered, reads))) source sink = (outcome, record { answers = answered.0; gives = reads; source_count = source; sink_count = sink })
gets uid gid file l m attributes (inr (inl (end, (is, rest)))) source sink = absurd (cc)
gets uid gid file l m attributes (inr (inr (is, rest))) source sink = absurd (cc)

module _ {I O : Type 0} (left given : I → Option (List ℕ)) (source_faults : I → ℕ) (taken : O → Option (List ℕ)) (sink_faults : O → ℕ) where
  -- what is known of a link
  abbrev pub known : LinkParts I O → LinkAt
  known l = link_at l.requester (source_at (left l.source) (given l.source) (source_faults l.source)) (sink_at (taken l.sink) (sink_faults l.sink)) l.read

  pub no_attributes : (uid gid : ℕ) (file : List ℕ) (l m : LinkParts I O) (end : ClientEnd) (source : I) (sink : O) (out : Option (List ℕ))
      → Asks getattr_result (getattr_call uid gid file) (view_at (known l)) (view_at (known m)) (Err end)
      → SourceFaults {A = Attributes} (Err end) (source_faults l.source) (source_faults m.source) → SinkFaults {A = Attributes} (Err end) (sink_faults l.sink) (sink_faults m.sink)
      → source ≡ m.source → sink ≡ m.sink
      → ReadsFileByJobs uid gid file (known l) (source_at (left source) (given source) (source_faults source)) (sink_at (taken sink) (sink_faults sink)) out out (Err end)
  no_attributes uid gid file l m end source sink out asks sources sinks same_source same_sink =
      NoAttributes (known m) end (record { asks = asks; source_count = sources; sink_count = sinks }) refl
      (ap (λ (x : I). source_at (left x) (given x) (source_faults x)) same_source, ap (λ (x : O). sink_at (taken x) (sink_faults x)) same_sink) refl

  pub shared_after : (uid gid : ℕ) (file : List ℕ) (l m : LinkParts I O) (attributes : Attributes) (r : RequesterSide) (source : I) (sink : O) (read : ℕ) (source' : SourceAt) (sink' : SinkAt) (t t' : Option (List ℕ)) (result : Result (Unit {0}) ClientEnd)
      → Asks getattr_result (getattr_call uid gid file) (view_at (known l)) (view_at (known m)) (Ok attributes)
      → source_faults m.source ≡ source_faults l.source → sink_faults m.sink ≡ sink_faults l.sink
      → r ≡ m.requester → source ≡ m.source → sink ≡ m.sink → read ≡ m.read
      → ((first : Outcome) → file_read (first ∷ []) ≡ SizeKnown attributes.size 0 []
      → ReadsShared uid gid file first attributes.size (link_at r (source_at (left source) (given source) (source_faults source)) (sink_at (taken sink) (sink_faults sink)) read) source' sink' t t' result)
      → ReadsFileByJobs uid gid file (known l) source' sink' t t' result
  shared_after uid gid file l m attributes r source sink read source' sink' t t' result asks sources sinks same_requester same_source same_sink same_read reads =
      let (outcome, got) = gets uid gid file (known l) (known m) attributes asks sources sinks in
      let is : link_at r (source_at (left source) (given source) (source_faults source)) (sink_at (taken sink) (sink_faults sink)) read ≡ known m =
      λ i. link_at (same_requester i) (source_at (left (same_source i)) (given (same_source i)) (source_faults (same_source i))) (sink_at (taken (same_sink i)) (sink_faults (same_sink i))) (same_read i) in
      Shared (known m) outcome attributes got (subst (λ (k : LinkAt). ReadsShared uid gid file outcome attributes.size k source' sink' t t' result) is (reads outcome (ap with_size got.gives)))

-- what was handed in first
pub initial_first : (c : InitialState) (e : Entry) → entries.Initial c ≡ e → initial_of (e ∷ []) ≡ Some c
initial_first c e is = ap (λ (x : Entry). initial_of (x ∷ [])) (sym is)

pub initial_on : (c : InitialState) (e : Entry) (xs ys : List Entry) → entries.Initial c ≡ e → xs ≡ e ∷ [] → Begins xs ys → initial_of ys ≡ Some c
initial_on c e xs ys is one begins =
    ap (λ (l : List Entry). initial_of l) begins.1 ∙ initial_more xs begins.0 c (ap (λ (l : List Entry). initial_of l) one ∙ initial_first c e is)

-- nothing was read, since memory ran out
pub none_read : (uid gid : ℕ) (file : List ℕ) (first : Outcome) (size : ℕ) (seen : List Entry) (taken : Option (List ℕ)) → file_read (first ∷ []) ≡ SizeKnown size 0 []
    → ReadsByJobs uid gid file first seen [] taken taken (Err client.Memory)
none_read uid gid file first size seen taken told = record {
  outcomes = [];
  made = tt;
  ends = inl (inl (inl refl, inl (takes_bytes (first ∷ []) (SizeKnown size 0 []) taken taken told (Appends-nil taken))));
}

-- the source and the sink of a link that was never left, by what is known of them
known_link : {I O : Type 0} (link : I → ℕ) (left given : I → Option (List ℕ)) (source_faults : I → ℕ) (sink_link : O → ℕ) (taken : O → Option (List ℕ)) (sink_faults : O → ℕ) (numbered told : Bool) (first : I) (read : ℕ)
    (source : I) (sink : O) (initial : Option InitialSink) (history : List Entry)
    → GivesLink link left given source_faults sink_link taken sink_faults numbered told (shared_giving left given source_faults first) read (Some (source, sink)) initial history
    → GivesLink {I = SourceAt} {O = SinkAt} (λ x. sink_link sink) (λ x. x.left) (λ x. x.given) (λ x. x.faults) (λ x. sink_link sink) (λ x. x.taken) (λ x. x.faults) numbered told
    (shared_giving {I = SourceAt} (λ x. x.left) (λ x. x.given) (λ x. x.faults) (source_at (left first) (given first) (source_faults first))) read
    (Some (source_at (left source) (given source) (source_faults source), sink_at (taken sink) (sink_faults sink))) initial history
known_link link left given source_faults sink_link taken sink_faults numbered told first read source sink None history back = absurd back
known_link link left given source_faults sink_link taken sink_faults numbered told first read source sink (Some initial) history (kept, gives) = (
  record { number = kept.number; took = kept.took; never_falls = kept.never_falls; failed = kept.failed; counted = kept.counted },
  record {
    number = λ is. kept.number;
    first = gives.first;
    is_first = gives.is_first;
    gave = gives.gave;
    never_falls = gives.never_falls;
    failed = gives.failed;
    counted = gives.counted;
    stop = gives.stop;
  },
)

-- the addresses that a dialer was asked for, if none is known
none_asked : (sink : Option InitialSink) (past : List PastLink) → AskedEach [] sink past None None
none_asked sink [] = refl
none_asked sink (p ∷ past) = (None, none_asked p.sink past, by sink) where
  by : (s : Option InitialSink) → AskedIf s [] None None
  by None = refl
  by (Some s) = tt

-- what was given back, by what is known of its source and its sink; its link isn't dialled again
pub back_known : {I O D : Type 0} (link : I → ℕ) (left given : I → Option (List ℕ)) (source_faults : I → ℕ) (sink_link : O → ℕ) (taken : O → Option (List ℕ)) (sink_faults : O → ℕ) (allows : Call → Form → Type 0) (seen : List Entry) (mine : List ℕ) (first : I)
    (first_dialer : D) (addr : List ℕ) (read : ℕ) (r : RequesterSide) (source : I) (sink : O) (dialer : D)
    → GivesBack link left given source_faults sink_link taken sink_faults (λ d. None) (λ d. None) (λ d. last_count) allows seen mine first first_dialer addr read r (Some (source, sink)) dialer
    → GivesBack {I = SourceAt} {O = SinkAt} {D = Unit {0}} (λ x. sink_link sink) (λ x. x.left) (λ x. x.given) (λ x. x.faults) (λ x. sink_link sink) (λ x. x.taken) (λ x. x.faults) (λ d. None) (λ d. None) (λ d. last_count) allows seen mine
    (source_at (left first) (given first) (source_faults first)) tt [] read r (Some (source_at (left source) (given source) (source_faults source), sink_at (taken sink) (sink_faults sink))) tt
back_known link left given source_faults sink_link taken sink_faults allows seen mine first first_dialer addr read r source sink dialer b = record {
  history = b.history;
  begins = b.begins;
  lies = b.lies;
  stays_open = b.stays_open;
  earlier = b.earlier;
  initial = b.initial;
  is_initial = b.is_initial;
  represents = b.represents;
  calls = b.calls;
  in_order = b.in_order;
  allowed = b.allowed;
  closes_calls = b.closes_calls;
  output = b.output;
  in_full = b.in_full;
  may_follow = b.may_follow;
  within_tries = b.within_tries;
  fed = b.fed;
  read = b.read;
  link_is = known_link link left given source_faults sink_link taken sink_faults (is_some b.initial.tries) false first (read + length (bytes_fed b.history)) source sink (sink_of b.history) b.history b.link_is;
  dialer_is = record { open_link = b.dialer_is.open_link; hung_up = b.dialer_is.hung_up; dialled = none_asked (sink_of b.history) (present b.history).left; counted = b.dialer_is.counted; failed = b.dialer_is.failed };
}

-- a list of one that is another list of one
pub one_same : {A : Type 0} (x y : A) (xs ys : List A) → xs ≡ x ∷ [] → ys ≡ y ∷ [] → ys ≡ xs → y ≡ x
one_same x y xs ys one two same = some-injective y x (ap (λ l. get_elem? l 0) (sym two ∙ (same ∙ one)))
