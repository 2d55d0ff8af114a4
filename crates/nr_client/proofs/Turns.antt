-- One step of a call after another.
use Rattle.std.proofs.Common.{◌≡◌, ◌⊎◌, ℕ, ◌+◌, true, false, None, List, [], ◌∷◌, ◌++◌, length, take, drop, Option, inl, inr, refl, sym, ap, subst, ◌∙◌, append_assoc, append-nil, take-append-drop}
use Rattle.std.proofs.Math.Seq.{drop-length}
use Rattle.nr_link.specs.declared.end.End.TheVariants as ends
use Rattle.nr_wire.specs.declared.hello.Side.TheVariants.{Initiator}
use Rattle.std.specs.Io.KnownBytes.{Appends}
use Rattle.nr_outside.specs.Content.{HandsOut}
use Rattle.nr_reduce.specs.declared.mark.Mark.{Mark}
use Rattle.nr_reduce.specs.declared.mark.Mark.TheVariants as marks
use Rattle.nr_reduce.specs.declared.mark.LinkParameters.{LinkParameters}
use Rattle.nr_reduce.specs.History.{bytes_sent}
use Rattle.nr_reduce.specs.AtEachMark.{AtEachMark}
use Rattle.nr_reduce.specs.Asked.{IsAll}
use Rattle.nr_reduce.specs.Run.{HasWritten, output_due}
use Rattle.nr_reduce.specs.Standing.{ClientRepresents}
use Rattle.nr_reduce.proofs.Standing.{client_queue_lem}
use Rattle.nr_endpoint.specs.SendQueue.{written}
use Rattle.nr_requester.specs.AfterCalls.{after_drain}
use Rattle.nr_requester.specs.MaySubmit.{may_submit}
use Rattle.nr_requester.specs.RequesterState.{RequesterSide, queue_of, kept_client, input_kept}
use Rattle.nr_requester.proofs.Queues.{written_writable}
use Rattle.nr_requester.specs.Standing.{StandsOn}
use Rattle.nr_requester.proofs.OwnLaw.{drain_keeps_law, drain_keeps_grant, piece_keeps_law}
use Rattle.nr_shared.specs.declared.call_end.CallEnd.{CallEnd}
use Rattle.nr_shared.specs.declared.call_end.CallEnd.TheVariants as calls
use Rattle.nr_client.specs.Ending.{SinkCountAt, SourceCountAt}
use Rattle.nr_client.specs.Steps.{FeedsOut, GoesOn, GoesTo, HasCreditLeft, HasWrittenAt, IsCutShort, IsDrained, IsLeft, IsLive, LacksCredit, Reads, ReadsTo, WholeIfWrote, Writes, WritesFirst, WritesInFull, WritesInFullTo, WritesTo, WrittenIfFed}
use Rattle.nr_client.specs.Transfers.{LinkBytes, link_bytes}
use Rattle.nr_client.proofs.Moves.{moves_both, moves_fed, moves_none, moves_wrote, stays}

-- all that may be written is written, so all output is
pub written_now : (opened : LinkParameters) (link : ℕ) (run : List Mark) (h : RequesterSide) → queue_of h.state ≡ [] → IsLive opened link h run → HasWritten opened link Initiator run
written_now opened link run h none live =
    sym (append-nil (bytes_sent link Initiator run)) ∙ ap (λ (l : List ℕ). bytes_sent link Initiator run ++ l) (sym none) ∙ live.stands.keeps.kept.output

pub written_at : (end : CallEnd) (opened : LinkParameters) (link : ℕ) (run : List Mark) (h : RequesterSide) → IsDrained end h → IsLive opened link h run → HasWrittenAt end opened link run
written_at end opened link run h (inl failed) live = inl failed
written_at end opened link run h (inr none) live = inr (inr (written_now opened link run h none live))

-- what is so of each mark of two lists, one after another
pub each_both : (P : List Mark → Mark → Type 0) (run moved more : List Mark) → AtEachMark P run moved → AtEachMark P (run ++ moved) more → AtEachMark P run (moved ++ more)
each_both P run [] more first second = subst (λ (r : List Mark). AtEachMark P r more) (append-nil run) second
each_both P run (m ∷ moved) more first second =
    (first.0, each_both P (run ++ m ∷ []) moved more first.1 (subst (λ (r : List Mark). AtEachMark P r more) (sym (append_assoc run (m ∷ []) moved)) second))

-- output is written first by both
pub first_both : (opened : LinkParameters) (link : ℕ) (run moved more : List Mark) → WritesFirst opened link run moved → WritesFirst opened link (run ++ moved) more → WritesFirst opened link run (moved ++ more)
first_both opened link run moved more first second = each_both (WrittenIfFed opened link) run moved more first second

-- all of it is written by both, or by both up to an end
pub whole_both : (opened : LinkParameters) (link : ℕ) (run moved more : List Mark) → WritesInFull opened link run moved → WritesInFull opened link (run ++ moved) more → WritesInFull opened link run (moved ++ more)
whole_both opened link run moved more first second = each_both (WholeIfWrote opened link) run moved more first second

-- a Wrote that falls short, after marks that write in full
pub cut_after : (opened : LinkParameters) (link : ℕ) (run moved more : List Mark) → WritesInFull opened link run moved → IsCutShort opened link (run ++ moved) more → IsCutShort opened link run (moved ++ more)
cut_after opened link run moved more whole cut = record {
  first = moved ++ cut.first;
  bytes = cut.bytes;
  last = cut.last;
  parts = ap (λ (l : List Mark). moved ++ l) cut.parts ∙ sym (append_assoc moved cut.first (marks.Wrote link Initiator cut.bytes ∷ cut.last));
  whole = whole_both opened link run moved cut.first whole cut.whole;
  none_after = cut.none_after;
}

whole_to_both : (end : CallEnd) (opened : LinkParameters) (link : ℕ) (run moved more : List Mark) → WritesInFull opened link run moved → WritesInFullTo end opened link (run ++ moved) more
    → WritesInFullTo end opened link run (moved ++ more)
whole_to_both end opened link run moved more first (inl failed) = inl (failed.0, cut_after opened link run moved more first failed.1)
whole_to_both end opened link run moved more first (inr second) = inr (whole_both opened link run moved more first second)

-- nothing happens
pub no_turn : (b : LinkBytes) (h : RequesterSide) → GoesOn b b h h
no_turn b h opened link run fine live =
    record { moved = []; bytes = stays link b; written = tt; whole = tt; live = subst (λ (all : List Mark). IsLive opened link h all) (sym (append-nil run)) live }

pub turns_compose : (b c d : LinkBytes) (h i j : RequesterSide) → GoesOn b c h i → GoesOn c d i j → GoesOn b d h j
turns_compose b c d h i j first second opened link run fine live =
    let one = first opened link run fine live in
    let two = second opened link (run ++ one.moved) fine one.live in
    record {
      moved = one.moved ++ two.moved;
      bytes = moves_both link b c d [] one.moved two.moved one.bytes two.bytes;
      written = first_both opened link run one.moved two.moved one.written two.written;
      whole = whole_both opened link run one.moved two.moved one.whole two.whole;
      live = subst (λ (all : List Mark). IsLive opened link j all) (append_assoc run one.moved two.moved) two.live;
    }

pub turn_to : (end : CallEnd) (b c d : LinkBytes) (h i j : RequesterSide) → GoesOn b c h i → GoesTo end c d i j → GoesTo end b d h j
turn_to end b c d h i j first second opened link run fine live =
    let one = first opened link run fine live in
    let two = second opened link (run ++ one.moved) fine one.live in
    record {
      moved = one.moved ++ two.moved;
      ahead = two.ahead;
      bytes = moves_both link b c d two.ahead one.moved two.moved one.bytes two.bytes;
      written = first_both opened link run one.moved two.moved one.written two.written;
      whole = whole_to_both end opened link run one.moved two.moved one.whole two.whole;
      all = subst (λ (all : List Mark). HasWrittenAt end opened link all) (append_assoc run one.moved two.moved) two.all;
      left = subst (λ (all : List Mark). IsLeft end opened link j two.ahead all) (append_assoc run one.moved two.moved) two.left;
    }

-- an end that leaves nothing over
pub ends_there : (end : CallEnd) (b c : LinkBytes) (h i : RequesterSide) → IsDrained end i → GoesOn b c h i → GoesTo end b c h i
ends_there end b c h i drained goes opened link run fine live =
    let one = goes opened link run fine live in
    record {
      moved = one.moved;
      ahead = [];
      bytes = one.bytes;
      written = one.written;
      whole = inr one.whole;
      all = written_at end opened link (run ++ one.moved) i drained one.live;
      left = inl (one.live, refl);
    }

-- a complete queue is all output that is due
queue_is_due : (opened : LinkParameters) (link : ℕ) (run : List Mark) (h : RequesterSide) (n : ℕ) → n ≡ length (queue_of h.state) → IsLive opened link h run
    → IsAll (bytes_sent link Initiator run ++ take n (queue_of h.state)) (output_due opened link Initiator run)
queue_is_due opened link run h n all live =
    let queue = queue_of h.state in
    let parts : ClientRepresents opened link (kept_client h.state) (input_kept h) (take n queue ++ drop n queue) run =
    subst (λ (q : List ℕ). ClientRepresents opened link (kept_client h.state) (input_kept h) q run) (sym (take-append-drop n queue)) live.stands.keeps.kept in
    ((client_queue_lem opened link (kept_client h.state) (input_kept h) (take n queue) (drop n queue) run run).0 parts).1 (ap (λ (k : ℕ). drop k queue) all ∙ drop-length queue)

-- a requester whose queue was written so far
drained_live : (opened : LinkParameters) (link : ℕ) (run : List Mark) (h i : RequesterSide) (n : ℕ) → StandsOn h (λ link. marks.Wrote link Initiator (take n (queue_of h.state))) i
    → IsLive opened link h run → IsLive opened link i (run ++ marks.Wrote link Initiator (take n (queue_of h.state)) ∷ [])
drained_live opened link run h i n on live = record {
  stands = on opened link run live.stands;
  asked = drain_keeps_law opened link h run n live.stands live.asked;
  granted = drain_keeps_grant opened link run (take n (queue_of h.state)) live.granted;
}

-- what is due is written, all of it
pub writes : (taken taken' : Option (List ℕ)) (h i : RequesterSide) (n : ℕ) → Appends taken taken' (take n (queue_of h.state))
    → StandsOn h (λ link. marks.Wrote link Initiator (take n (queue_of h.state))) i → n ≡ length (queue_of h.state) → Writes taken taken' h i
writes taken taken' h i n takes on all left given read opened link run fine live =
    let bytes = take n (queue_of h.state) in
    record {
      moved = marks.Wrote link Initiator bytes ∷ [];
      bytes = moves_wrote link left given taken taken' read bytes takes;
      written = (tt, tt);
      whole = (queue_is_due opened link run h n all live, tt);
      live = drained_live opened link run h i n on live;
    }

-- so it is up to an end
pub writes_to : (end : CallEnd) (taken taken' : Option (List ℕ)) (h i : RequesterSide) → queue_of i.state ≡ [] → Writes taken taken' h i → WritesTo end taken taken' h i
writes_to end taken taken' h i none writing left given read =
    ends_there end (link_bytes left given taken read) (link_bytes left given taken' read) h i (inr none) (writing left given read)

-- a write failed, after a part of it was written
pub writes_part : (taken taken' : Option (List ℕ)) (h i : RequesterSide) (n : ℕ) → Appends taken taken' (take n (queue_of h.state))
    → StandsOn h (λ link. marks.Wrote link Initiator (take n (queue_of h.state))) i → WritesTo calls.LinkWrite taken taken' h i
writes_part taken taken' h i n takes on left given read opened link run fine live =
    let bytes = take n (queue_of h.state) in
    record {
      moved = marks.Wrote link Initiator bytes ∷ [];
      ahead = [];
      bytes = moves_wrote link left given taken taken' read bytes takes;
      written = (tt, tt);
      whole = inl (refl, record { first = []; bytes = bytes; last = []; parts = refl; whole = tt; none_after = tt });
      all = inl refl;
      left = inl (drained_live opened link run h i n on live, refl);
    }

-- after all that may be written nothing is left of it
pub drained_all : (h i : RequesterSide) (n : ℕ) → i ≡ after_drain n h → n ≡ length (queue_of h.state) → queue_of i.state ≡ []
unfolding after_drain
drained_all h i n is all =
    ap (λ (x : RequesterSide). queue_of x.state) is ∙ written_writable h.state.side.has_hello n h.state.side.send_queue
    ∙ ap (λ (k : ℕ). drop k (queue_of h.state)) all ∙ drop-length (queue_of h.state)

-- a drain ends no side
pub drained_end : (h i : RequesterSide) (n : ℕ) → i ≡ after_drain n h → h.state.side.ended ≡ i.state.side.ended
unfolding after_drain
drained_end h i n is = sym (ap (λ (x : RequesterSide). x.state.side.ended) is)

pub drained_credit : (h i : RequesterSide) (n : ℕ) → i ≡ after_drain n h → (length i.state.outstanding ≡ length h.state.outstanding) × (may_submit i.state ≡ may_submit h.state)
unfolding after_drain may_submit written
drained_credit h i n is = (ap (λ (x : RequesterSide). length x.state.outstanding) is, ap (λ (x : RequesterSide). may_submit x.state) is)

-- nothing is read
pub reads_none : (left given left' given' : Option (List ℕ)) (read : ℕ) (h : RequesterSide) → HandsOut left given left' given' [] → Reads left given left' given' read read h h
reads_none left given left' given' read h hands taken opened link run fine live = record {
  moved = [];
  bytes = moves_none link left given left' given' taken read hands;
  written = tt;
  whole = tt;
  live = subst (λ (all : List Mark). IsLive opened link h all) (sym (append-nil run)) live;
}

-- a piece is read and fed
pub reads : (left given left' given' : Option (List ℕ)) (read read' : ℕ) (piece : List ℕ) (h i : RequesterSide) → queue_of h.state ≡ [] → HandsOut left given left' given' piece
    → read + length piece ≡ read' → StandsOn h (λ link. marks.Fed link Initiator piece) i → Reads left given left' given' read read' h i
reads left given left' given' read read' piece h i none hands counts on taken opened link run fine live =
    let all : piece ++ [] ≡ piece = append-nil piece in
    let kept = piece_keeps_law opened link run piece live.asked live.granted in
    record {
      moved = marks.Fed link Initiator piece ∷ [];
      bytes = moves_fed link left given left' given' taken read read' piece [] (subst (HandsOut left given left' given') (sym all) hands)
          (ap (λ (bytes : List ℕ). read + length bytes) all ∙ counts);
      written = (written_now opened link run h none live, tt);
      whole = (tt, tt);
      live = record { stands = on opened link run live.stands; asked = kept.0; granted = kept.1 };
    }

-- memory ran out for a frame of it
pub reads_out : (left given left' given' : Option (List ℕ)) (read read' : ℕ) (piece : List ℕ) (h i : RequesterSide) → queue_of h.state ≡ [] → HandsOut left given left' given' piece
    → read + length piece ≡ read' → FeedsOut piece h i → ReadsTo (calls.Ended ends.Memory) left given left' given' read read' h i
reads_out left given left' given' read read' piece h i none hands counts out taken opened link run fine live =
    let (n, stops) = out in
    let all : take n piece ++ drop n piece ≡ piece = take-append-drop n piece in
    let kept = piece_keeps_law opened link run (take n piece) live.asked live.granted in
    record {
      moved = marks.Fed link Initiator (take n piece) ∷ [];
      ahead = drop n piece;
      bytes = moves_fed link left given left' given' taken read read' (take n piece) (drop n piece) (subst (HandsOut left given left' given') (sym all) hands)
          (ap (λ (bytes : List ℕ). read + length bytes) all ∙ counts);
      written = (written_now opened link run h none live, tt);
      whole = inr (tt, tt);
      all = inr (inl refl);
      left = inr (refl, record { stopped = _; stands = stops opened link run live.stands; asked = kept.0; granted = kept.1 });
    }

pub reads_to : (end : CallEnd) (left given left' given' : Option (List ℕ)) (read read' : ℕ) (h i : RequesterSide) → queue_of i.state ≡ [] → Reads left given left' given' read read' h i
    → ReadsTo end left given left' given' read read' h i
reads_to end left given left' given' read read' h i none reading taken =
    ends_there end (link_bytes left given taken read) (link_bytes left' given' taken read') h i (inr none) (reading taken)

pub reads_out_at : (end : CallEnd) → end ≡ calls.Ended ends.Memory → (left given left' given' : Option (List ℕ)) (read read' : ℕ) (piece : List ℕ) (h i : RequesterSide)
    → queue_of h.state ≡ [] → HandsOut left given left' given' piece → read + length piece ≡ read' → FeedsOut piece h i → ReadsTo end left given left' given' read read' h i
reads_out_at end is left given left' given' read read' piece h i none hands counts out =
    subst (λ (e : CallEnd). ReadsTo e left given left' given' read read' h i) (sym is) (reads_out left given left' given' read read' piece h i none hands counts out)

-- a call never waits while it may be submitted
pub never_waits : (h i : RequesterSide) → i ≡ h → HasCreditLeft h → LacksCredit i → ⊥
never_waits h i same credit lacks = true_false (sym (ap (λ (x : RequesterSide). may_submit x.state) same ∙ credit) ∙ lacks) where
  true_false : true ≡ false → ⊥
  true_false e = absurd cc

-- the side of the link had not ended at first
pub started_with : (h i : RequesterSide) → (i ≡ h) ⊎ (h.state.side.ended ≡ None) → i.state.side.ended ≡ None → h.state.side.ended ≡ None
started_with h i (inl same) live = sym (ap (λ (x : RequesterSide). x.state.side.ended) same) ∙ live
started_with h i (inr known) live = known

-- ---- Fault counts

pub same_source : (end : CallEnd) (a b c : ℕ) → b ≡ a → SourceCountAt end b c → SourceCountAt end a c
same_source end a b c same counts = subst (λ (k : ℕ). SourceCountAt end k c) same counts

pub same_sink : (end : CallEnd) (a b c : ℕ) → b ≡ a → SinkCountAt end b c → SinkCountAt end a c
same_sink end a b c same counts = subst (λ (k : ℕ). SinkCountAt end k c) same counts
