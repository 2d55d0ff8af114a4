-- Both ends of a matched link after the marks of a run, while neither has ended: the bytes that each side sent and received are
-- those of frames.
use Rattle.std.proofs.Common.{◌≡◌, ℕ, ◌+◌, Bool, true, false, cond, ◌&&◌, eqb, List, [], ◌∷◌, ◌++◌, length, map, None, refl, sym, ap, subst, ◌∙◌, arith, append_assoc, append-nil, length-append}
use Rattle.std.specs.List.{concat}
use Rattle.nr_xdr.specs.Item.{IsBytes}
use Rattle.nr_xdr.proofs.Chains.{IsBytes_left, IsBytes_right}
use Rattle.nr_wire.specs.declared.hello.Side.{Side}
use Rattle.nr_wire.specs.declared.hello.Side.TheVariants.{Initiator, Responder}
use Rattle.nr_wire.specs.declared.stream.Awaited.{Awaited}
use Rattle.nr_wire.specs.declared.stream.Awaited.TheVariants.{Hello as HelloFrom, Fpdu}
use Rattle.nr_wire.specs.Stream.{split}
use Rattle.nr_wire.proofs.Splits.{split_Splits}
use Rattle.nr_wire.proofs.Frames.{fields_some}
use Rattle.nr_link.specs.Frames.{Frame, frames_from, frames_completed}
use Rattle.nr_reduce.specs.declared.mark.Mark.{Mark}
use Rattle.nr_reduce.specs.declared.mark.Mark.TheVariants as marks
use Rattle.nr_reduce.specs.declared.mark.LinkParameters.{LinkParameters}
use Rattle.nr_reduce.specs.History.{bytes_sent, bytes_received, written_at, fed_at}
use Rattle.nr_reduce.specs.Events.{RunEvent, if_own, events_at}
use Rattle.nr_reduce.specs.Events.RunEvent.{FrameReceived}
use Rattle.nr_reduce.specs.EndRules.{EndState, live, end_state_after, output_for_all}
use Rattle.nr_reduce.specs.ClientState.{ClientState}
use Rattle.nr_reduce.specs.ServerState.{ServerState}
use Rattle.nr_reduce.specs.Client.{client_rules}
use Rattle.nr_reduce.specs.Server.{server_rules}
use Rattle.nr_reduce.specs.Run.{client, server, output_due}
use Rattle.nr_reduce.specs.Opening.{IsOpened}
use Rattle.nr_reduce.specs.Credits.{WithinGrant}
use Rattle.nr_reduce.specs.Matched.{IsPrefixOf}
use Rattle.nr_reduce.proofs.Steps.{client_one, server_one, output_due_up_one, output_due_down_one}
use Rattle.nr_reduce.proofs.Standing.{itself, received_one, sent_one}
use Rattle.nr_laws.proofs.Bytes.{bytes_both}
use Rattle.nr_laws.proofs.FrameContents.{FrameContent, written_segment, frame_bytes, output_bytes, total_of, sends_in, requests_in}
use Rattle.nr_laws.proofs.LinkInvariants.{Transit}
use Rattle.nr_laws.proofs.StreamFrames.{AreWritableFrom, proper_frame, IsOf, frames_at, frames_append, spelled_append}
use Rattle.nr_laws.proofs.CompletedFrames.{fed}
use Rattle.nr_laws.proofs.Writable.{IsOutput, stream_proper, stream_left}
use Rattle.nr_laws.proofs.TotalsAtClient.{down_one}
use Rattle.nr_laws.proofs.Guards.{Guards}
use Rattle.nr_laws.specs.Typed.{TypedMark}
use Rattle.nr_laws.specs.Stays.{NotRevokedMark}
use Rattle.nr_laws.proofs.OfferedAccesses.{AccessesAgree}
use Rattle.nr_laws.proofs.AgreeingEnds.{EndsAgree, IsPlace, taken_up}
use Rattle.nr_laws.proofs.ServerFrames.{AreSome, events_of, server_runs}
use Rattle.nr_laws.proofs.ClientFrames.{client_runs}
use Rattle.std.proofs.lemmas.List.Folds.{concat-append}

pub record RunAgrees (opened : LinkParameters) (link : ℕ) (run : List Mark) : Type 0 where
  pub k : ClientState
  pub s : ServerState
  pub u : List FrameContent
  pub d : List FrameContent
  pub all_up : List FrameContent
  pub all_down : List FrameContent
  pub w : Transit
  pub client_is : client opened link run ≡ live k
  pub server_is : server opened link run ≡ live s
  pub linked : EndsAgree opened k s u d all_up all_down w
  pub frames_up : (split (HelloFrom Initiator) (bytes_received link Responder run)).frames ≡ frames_at opened Initiator 0 0 u
  pub frames_down : (split (HelloFrom Responder) (bytes_received link Initiator run)).frames ≡ frames_at opened Responder 0 0 d
  pub sent_up : bytes_sent link Initiator run ≡ output_bytes opened Initiator 0 0 (u ++ w.up)
  pub sent_down : bytes_sent link Responder run ≡ output_bytes opened Responder 0 0 (d ++ w.down)
  pub due_up : output_due opened link Initiator run ≡ output_bytes opened Initiator 0 0 all_up
  pub due_down : output_due opened link Responder run ≡ output_bytes opened Responder 0 0 all_down
  pub bytes_up : IsBytes (bytes_received link Responder run)
  pub bytes_down : IsBytes (bytes_received link Initiator run)

-- how far the frames went that the server received
abbrev pub place_of : LinkParameters → List FrameContent → ℕ
place_of opened u = length (concat (frames_at opened Initiator 0 0 u))

-- ---- One mark more

pub joined : (opened : LinkParameters) (side : Side) (ps qs : List FrameContent) → output_bytes opened side 0 0 ps ++ output_bytes opened side (total_of sends_in ps) (total_of requests_in ps) qs ≡ output_bytes opened side 0 0 (ps ++ qs)
joined opened side ps qs =
    let sends : total_of sends_in ps ≡ 0 + total_of sends_in ps = omega arith in
    let reads : total_of requests_in ps ≡ 0 + total_of requests_in ps = omega arith in
    (λ i. output_bytes opened side 0 0 ps ++ output_bytes opened side (sends i) (reads i) qs) ∙ sym (spelled_append opened side 0 0 ps qs)

-- what a mark does to it
pub record MarkAgrees (opened : LinkParameters) (link : ℕ) (run : List Mark) (mark : Mark) (j : RunAgrees opened link run) : Type 0 where
  pub k : ClientState
  pub s : ServerState
  pub u : List FrameContent
  pub d : List FrameContent
  pub said_up : List FrameContent
  pub said_down : List FrameContent
  pub w : Transit
  pub linked : EndsAgree opened k s u d (j.all_up ++ said_up) (j.all_down ++ said_down) w
  pub client : end_state_after (client_rules opened) (live j.k) (events_at link Initiator run mark) ≡ live k
  pub server : end_state_after (server_rules opened) (live j.s) (events_at link Responder run mark) ≡ live s
  pub output_up : output_for_all (client_rules opened) (live j.k) (events_at link Initiator run mark) ≡ output_bytes opened Initiator (total_of sends_in j.all_up) (total_of requests_in j.all_up) said_up
  pub output_down : output_for_all (server_rules opened) (live j.s) (events_at link Responder run mark) ≡ output_bytes opened Responder (total_of sends_in j.all_down) (total_of requests_in j.all_down) said_down
  pub frames_up : (split (HelloFrom Initiator) (bytes_received link Responder run ++ fed_at link Responder mark)).frames ≡ frames_at opened Initiator 0 0 u
  pub frames_down : (split (HelloFrom Responder) (bytes_received link Initiator run ++ fed_at link Initiator mark)).frames ≡ frames_at opened Responder 0 0 d
  pub sent_up : bytes_sent link Initiator run ++ written_at link Initiator mark ≡ output_bytes opened Initiator 0 0 (u ++ w.up)
  pub sent_down : bytes_sent link Responder run ++ written_at link Responder mark ≡ output_bytes opened Responder 0 0 (d ++ w.down)
  pub bytes_up : IsBytes (bytes_received link Responder run ++ fed_at link Responder mark)
  pub bytes_down : IsBytes (bytes_received link Initiator run ++ fed_at link Initiator mark)
  pub guarded : IsOpened opened → WithinGrant opened link run mark → Guards opened j.k j.s j.u j.d j.all_up j.all_down j.w (place_of opened j.u)
      → Guards opened k s u d (j.all_up ++ said_up) (j.all_down ++ said_down) w (place_of opened u)
  pub accessed : IsOpened opened → TypedMark run mark → NotRevokedMark link run mark → Guards opened j.k j.s j.u j.d j.all_up j.all_down j.w (place_of opened j.u)
      → AccessesAgree opened j.k j.s j.d j.all_up j.all_down (length (bytes_received link Initiator run)) → AccessesAgree opened k s d (j.all_up ++ said_up) (j.all_down ++ said_down) (length (bytes_received link Initiator run))

unfoldable pub preserved : (opened : LinkParameters) (link : ℕ) (run : List Mark) (mark : Mark) (j : RunAgrees opened link run) → MarkAgrees opened link run mark j → RunAgrees opened link (run ++ mark ∷ [])
preserved opened link run mark j g =
    let up = received_one link Responder run mark in
    let down = received_one link Initiator run mark in
    record {
      k = g.k;
      s = g.s;
      u = g.u;
      d = g.d;
      all_up = j.all_up ++ g.said_up;
      all_down = j.all_down ++ g.said_down;
      w = g.w;
      client_is = client_one opened link run mark ∙ ap (λ (r : EndState ClientState). end_state_after (client_rules opened) r (events_at link Initiator run mark)) j.client_is ∙ g.client;
      server_is = server_one opened link run mark ∙ ap (λ (r : EndState ServerState). end_state_after (server_rules opened) r (events_at link Responder run mark)) j.server_is ∙ g.server;
      linked = g.linked;
      frames_up = ap (λ (xs : List ℕ). (split (HelloFrom Initiator) xs).frames) up ∙ g.frames_up;
      frames_down = ap (λ (xs : List ℕ). (split (HelloFrom Responder) xs).frames) down ∙ g.frames_down;
      sent_up = sent_one link Initiator run mark ∙ g.sent_up;
      sent_down = sent_one link Responder run mark ∙ g.sent_down;
      due_up =
          output_due_up_one opened link run mark
          ∙ (λ i. j.due_up i ++ output_for_all (client_rules opened) (j.client_is i) (events_at link Initiator run mark))
          ∙ ap (λ (xs : List ℕ). output_bytes opened Initiator 0 0 j.all_up ++ xs) g.output_up
          ∙ joined opened Initiator j.all_up g.said_up;
      due_down =
          output_due_down_one opened link run mark
          ∙ (λ i. j.due_down i ++ output_for_all (server_rules opened) (j.server_is i) (events_at link Responder run mark))
          ∙ ap (λ (xs : List ℕ). output_bytes opened Responder 0 0 j.all_down ++ xs) g.output_down
          ∙ joined opened Responder j.all_down g.said_down;
      bytes_up = subst IsBytes (sym up) g.bytes_up;
      bytes_down = subst IsBytes (sym down) g.bytes_down;
    }

pub same_all : (opened : LinkParameters) (k : ClientState) (s : ServerState) (u d all_up all_down : List FrameContent) (w : Transit) → EndsAgree opened k s u d all_up all_down w → EndsAgree opened k s u d (all_up ++ []) (all_down ++ []) w
same_all opened k s u d all_up all_down w l =
    subst (λ (ps : List FrameContent). EndsAgree opened k s u d ps (all_down ++ []) w) (sym (append-nil all_up)) (subst (λ (ps : List FrameContent). EndsAgree opened k s u d all_up ps w) (sym (append-nil all_down)) l)

pub same_up_lem : (opened : LinkParameters) (k : ClientState) (s : ServerState) (u d all_up all_down : List FrameContent) (w : Transit) → EndsAgree opened k s u d all_up all_down w → EndsAgree opened k s u d all_up (all_down ++ []) w
same_up_lem opened k s u d all_up all_down w l = subst (λ (ps : List FrameContent). EndsAgree opened k s u d all_up ps w) (sym (append-nil all_down)) l

pub same_down_lem : (opened : LinkParameters) (k : ClientState) (s : ServerState) (u d all_up all_down : List FrameContent) (w : Transit) → EndsAgree opened k s u d all_up all_down w → EndsAgree opened k s u d (all_up ++ []) all_down w
same_down_lem opened k s u d all_up all_down w l = subst (λ (ps : List FrameContent). EndsAgree opened k s u d ps all_down w) (sym (append-nil all_up)) l

guards_all : (opened : LinkParameters) (k : ClientState) (s : ServerState) (u d all_up all_down : List FrameContent) (w : Transit) (place : ℕ) → Guards opened k s u d all_up all_down w place → Guards opened k s u d (all_up ++ []) (all_down ++ []) w place
guards_all opened k s u d all_up all_down w place g =
    subst (λ (ps : List FrameContent). Guards opened k s u d ps (all_down ++ []) w place) (sym (append-nil all_up)) (subst (λ (ps : List FrameContent). Guards opened k s u d all_up ps w place) (sym (append-nil all_down)) g)

pub guards_up : (opened : LinkParameters) (k : ClientState) (s : ServerState) (u d all_up all_down : List FrameContent) (w : Transit) (place : ℕ) → Guards opened k s u d all_up all_down w place → Guards opened k s u d all_up (all_down ++ []) w place
guards_up opened k s u d all_up all_down w place g = subst (λ (ps : List FrameContent). Guards opened k s u d all_up ps w place) (sym (append-nil all_down)) g

pub guards_down : (opened : LinkParameters) (k : ClientState) (s : ServerState) (u d all_up all_down : List FrameContent) (w : Transit) (place : ℕ) → Guards opened k s u d all_up all_down w place → Guards opened k s u d (all_up ++ []) all_down w place
guards_down opened k s u d all_up all_down w place g = subst (λ (ps : List FrameContent). Guards opened k s u d ps all_down w place) (sym (append-nil all_up)) g

pub accesses_up : (opened : LinkParameters) (k : ClientState) (s : ServerState) (d all_up all_down : List FrameContent) (place : ℕ) → AccessesAgree opened k s d all_up all_down place → AccessesAgree opened k s d all_up (all_down ++ []) place
accesses_up opened k s d all_up all_down place h = subst (λ (ps : List FrameContent). AccessesAgree opened k s d all_up ps place) (sym (append-nil all_down)) h

pub accesses_down : (opened : LinkParameters) (k : ClientState) (s : ServerState) (d all_up all_down : List FrameContent) (place : ℕ) → AccessesAgree opened k s d all_up all_down place → AccessesAgree opened k s d (all_up ++ []) all_down place
accesses_down opened k s d all_up all_down place h = subst (λ (ps : List FrameContent). AccessesAgree opened k s d ps all_down place) (sym (append-nil all_up)) h

-- a mark that is no event of this link, and brings no bytes
pub none_preserve : (opened : LinkParameters) (link : ℕ) (run : List Mark) (mark : Mark) (j : RunAgrees opened link run) → events_at link Initiator run mark ≡ [] → events_at link Responder run mark ≡ []
    → fed_at link Initiator mark ≡ [] → fed_at link Responder mark ≡ [] → written_at link Initiator mark ≡ [] → written_at link Responder mark ≡ [] → MarkAgrees opened link run mark j
none_preserve opened link run mark j own theirs fed_i fed_r wrote_i wrote_r = record {
  k = j.k;
  s = j.s;
  u = j.u;
  d = j.d;
  said_up = [];
  said_down = [];
  w = j.w;
  linked = same_all opened j.k j.s j.u j.d j.all_up j.all_down j.w j.linked;
  client = ap (λ (es : List RunEvent). end_state_after (client_rules opened) (live j.k) es) own;
  server = ap (λ (es : List RunEvent). end_state_after (server_rules opened) (live j.s) es) theirs;
  output_up = ap (λ (es : List RunEvent). output_for_all (client_rules opened) (live j.k) es) own;
  output_down = ap (λ (es : List RunEvent). output_for_all (server_rules opened) (live j.s) es) theirs;
  frames_up = ap (λ (xs : List ℕ). (split (HelloFrom Initiator) xs).frames) (ap (λ (xs : List ℕ). bytes_received link Responder run ++ xs) fed_r ∙ append-nil (bytes_received link Responder run)) ∙ j.frames_up;
  frames_down = ap (λ (xs : List ℕ). (split (HelloFrom Responder) xs).frames) (ap (λ (xs : List ℕ). bytes_received link Initiator run ++ xs) fed_i ∙ append-nil (bytes_received link Initiator run)) ∙ j.frames_down;
  sent_up = ap (λ (xs : List ℕ). bytes_sent link Initiator run ++ xs) wrote_i ∙ append-nil (bytes_sent link Initiator run) ∙ j.sent_up;
  sent_down = ap (λ (xs : List ℕ). bytes_sent link Responder run ++ xs) wrote_r ∙ append-nil (bytes_sent link Responder run) ∙ j.sent_down;
  bytes_up = subst IsBytes (sym (ap (λ (xs : List ℕ). bytes_received link Responder run ++ xs) fed_r ∙ append-nil (bytes_received link Responder run))) j.bytes_up;
  bytes_down = subst IsBytes (sym (ap (λ (xs : List ℕ). bytes_received link Initiator run ++ xs) fed_i ∙ append-nil (bytes_received link Initiator run))) j.bytes_down;
  guarded = λ o within g. guards_all opened j.k j.s j.u j.d j.all_up j.all_down j.w (place_of opened j.u) g;
  accessed = λ o typed kept g h.
      accesses_down opened j.k j.s j.d j.all_up (j.all_down ++ []) (length (bytes_received link Initiator run)) (accesses_up opened j.k j.s j.d j.all_up j.all_down (length (bytes_received link Initiator run)) h);
}

-- ---- A Fed

some_frames : (opened : LinkParameters) (side : Side) (a : Awaited) (n r : ℕ) (ps : List FrameContent) → IsOf side a → AreWritableFrom a n r ps → AreSome (frames_at opened side n r ps)
some_frames opened side a n r [] of h = tt
some_frames opened side a n r (p ∷ ps) of h =
    let f = proper_frame opened side a (written_segment n r p) of h.0 in
    (omega (arith, f.fields, fields_some a), some_frames opened side Fpdu (n + sends_in p) (r + requests_in p) ps tt h.1)

some_right : (xs ys : List (List ℕ)) → AreSome (xs ++ ys) → AreSome ys
some_right [] ys h = h
some_right (x ∷ xs) ys h = some_right xs ys h.1

at_place_lem : (opened : LinkParameters) (side : Side) (ps : List FrameContent) → AreSome (frames_at opened side 0 0 ps) → IsPlace ps (length (concat (frames_at opened side 0 0 ps)))
at_place_lem opened side [] h = refl
at_place_lem opened side (p ∷ ps) h =
    omega (arith, h.0, length-append (frame_bytes opened side (written_segment 0 0 p)) (concat (frames_at opened side (0 + sends_in p) (0 + requests_in p) ps)))

-- the new frames of some more bytes, with what the loops over their frames ask
pub record ArrivedFrames (opened : LinkParameters) (side : Side) (got bytes : List ℕ) (came way : List FrameContent) : Type 0 where
  pub new : List FrameContent
  pub left : List FrameContent
  pub parts : way ≡ new ++ left
  pub frames : frames_completed side got bytes ≡ frames_from (length (concat (frames_at opened side 0 0 came))) (frames_at opened side (0 + total_of sends_in came) (0 + total_of requests_in came) new)
  pub all : (split (HelloFrom side) (got ++ bytes)).frames ≡ frames_at opened side 0 0 (came ++ new)
  pub some : AreSome (frames_at opened side (0 + total_of sends_in came) (0 + total_of requests_in came) new)
  pub bytes_are : IsBytes (concat (frames_at opened side (0 + total_of sends_in came) (0 + total_of requests_in came) new))
  pub place : IsPlace came (length (concat (frames_at opened side 0 0 came)))

pub arrives : (opened : LinkParameters) (side : Side) (got bytes sent : List ℕ) (came way later : List FrameContent) → IsOutput (came ++ (way ++ later)) → (split (HelloFrom side) got).frames ≡ frames_at opened side 0 0 came → sent ≡ output_bytes opened side 0 0 (came ++ way)
    → IsPrefixOf (got ++ bytes) sent → IsBytes (got ++ bytes) → ArrivedFrames opened side got bytes came way
arrives opened side got bytes sent came way later stream before is prefix typed =
    let front : IsOutput (came ++ way) = stream_left (came ++ way) later (subst IsOutput (sym (append_assoc came way later)) stream) in
    let proper = stream_proper side (came ++ way) front in
    let m = fed opened side got bytes prefix.0 came way proper before (prefix.1 ∙ is) in
    let old = frames_at opened side 0 0 came in
    let news = frames_at opened side (0 + total_of sends_in came) (0 + total_of requests_in came) m.new in
    let parts : came ++ way ≡ (came ++ m.new) ++ m.left = ap (λ (ps : List FrameContent). came ++ ps) m.parts ∙ sym (append_assoc came m.new m.left) in
    let known : IsOutput (came ++ m.new) = stream_left (came ++ m.new) m.left (subst IsOutput parts front) in
    let some : AreSome (old ++ news) = subst AreSome (frames_append opened side 0 0 came m.new) (some_frames opened side (HelloFrom side) 0 0 (came ++ m.new) refl (stream_proper side (came ++ m.new) known)) in
    let sp = split_Splits (HelloFrom side) (got ++ bytes) in
    let whole : IsBytes (concat (split (HelloFrom side) (got ++ bytes)).frames) = IsBytes_left (concat (split (HelloFrom side) (got ++ bytes)).frames) (split (HelloFrom side) (got ++ bytes)).rest (subst IsBytes sp.whole typed) in
    let both : concat (split (HelloFrom side) (got ++ bytes)).frames ≡ concat old ++ concat news = ap concat (m.all ∙ frames_append opened side 0 0 came m.new) ∙ concat-append old news in
    let known_came : AreSome old = some_frames opened side (HelloFrom side) 0 0 came refl (stream_proper side came (stream_left came m.new known)) in
    record {
      new = m.new;
      left = m.left;
      parts = m.parts;
      frames = m.frames;
      all = m.all;
      some = some_right old news some;
      bytes_are = IsBytes_right (concat old) (concat news) (subst IsBytes both whole);
      place = at_place_lem opened side came known_came;
    }

-- ---- Each kind of mark, of this link

pub own_bytes : (link : ℕ) (bytes : List ℕ) → cond (eqb link link && true) bytes [] ≡ bytes
own_bytes link bytes = ap (λ (b : Bool). cond (b && true) bytes []) (itself link)

pub other_bytes : (b : Bool) (bytes : List ℕ) → cond (b && false) bytes [] ≡ []
other_bytes true bytes = refl
other_bytes false bytes = refl

pub own_events : (link : ℕ) (es : List RunEvent) → if_own (eqb link link && true) es ≡ es
own_events link es = ap (λ (b : Bool). if_own (b && true) es) (itself link)

pub other_events : (b : Bool) (es : List RunEvent) → if_own (b && false) es ≡ []
other_events true es = refl
other_events false es = refl

place_more : (opened : LinkParameters) (u new : List FrameContent) → place_of opened u + length (concat (frames_at opened Initiator (0 + total_of sends_in u) (0 + total_of requests_in u) new)) ≡ place_of opened (u ++ new)
place_more opened u new =
    let old = frames_at opened Initiator 0 0 u in
    let more = frames_at opened Initiator (0 + total_of sends_in u) (0 + total_of requests_in u) new in
    sym (ap (λ (fs : List (List ℕ)). length (concat fs)) (frames_append opened Initiator 0 0 u new) ∙ ap (λ (xs : List ℕ). length xs) (concat-append old more) ∙ length-append (concat old) (concat more))

-- the server is fed bytes
pub fed_up_preserves : (opened : LinkParameters) (link : ℕ) (run : List Mark) (bytes : List ℕ) (j : RunAgrees opened link run) → IsPrefixOf (bytes_received link Responder run ++ bytes) (bytes_sent link Initiator run) → IsBytes bytes
    → (server opened link (run ++ marks.Fed link Responder bytes ∷ [])).ended ≡ None → MarkAgrees opened link run (marks.Fed link Responder bytes) j
fed_up_preserves opened link run bytes j prefix typed unended =
    let mark = marks.Fed link Responder bytes in
    let got = bytes_received link Responder run in
    let all_typed : IsBytes (got ++ bytes) = bytes_both got bytes j.bytes_up typed in
    let stream : IsOutput (j.u ++ (j.w.up ++ j.w.queued_up)) = subst IsOutput (sym j.linked.parts_up) j.linked.stream_up in
    let a = arrives opened Initiator got bytes (bytes_sent link Initiator run) j.u j.w.up j.w.queued_up stream j.frames_up j.sent_up prefix all_typed in
    let place = length (concat (frames_at opened Initiator 0 0 j.u)) in
    let n = 0 + total_of sends_in j.u in
    let r = 0 + total_of requests_in j.u in
    let es = events_of place (frames_at opened Initiator n r a.new) in
    let events_are : events_at link Responder run mark ≡ es = own_events link (map FrameReceived (frames_completed Initiator got bytes)) ∙ ap (λ (fs : List Frame). map FrameReceived fs) a.frames in
    let state : end_state_after (server_rules opened) (server opened link run) (events_at link Responder run mark) ≡ end_state_after (server_rules opened) (live j.s) es =
    λ i. end_state_after (server_rules opened) (j.server_is i) (events_are i) in
    let stays : (end_state_after (server_rules opened) (live j.s) es).ended ≡ None = ap (λ (x : EndState ServerState). x.ended) (sym (server_one opened link run mark ∙ state)) ∙ unended in
    let m = server_runs opened j.k j.d j.all_up a.left a.new j.s j.u j.all_down j.w n r place j.linked a.parts (omega arith) (omega arith) a.place a.bytes_are a.some stays in
    let up : fed_at link Responder mark ≡ bytes = own_bytes link bytes in
    let down : fed_at link Initiator mark ≡ [] = other_bytes (eqb link link) bytes in
    let parts : (j.u ++ a.new) ++ a.left ≡ j.u ++ j.w.up = append_assoc j.u a.new a.left ∙ ap (λ (ps : List FrameContent). j.u ++ ps) (sym a.parts) in
    record {
      k = j.k;
      s = m.after;
      u = j.u ++ a.new;
      d = j.d;
      said_up = [];
      said_down = m.said;
      w = taken_up j.w a.left m.said;
      linked = same_down_lem opened j.k m.after (j.u ++ a.new) j.d j.all_up (j.all_down ++ m.said) (taken_up j.w a.left m.said) m.linked;
      client = ap (λ (xs : List RunEvent). end_state_after (client_rules opened) (live j.k) xs) (other_events (eqb link link) (map FrameReceived (frames_completed Responder (bytes_received link Initiator run) bytes)));
      server = ap (λ (xs : List RunEvent). end_state_after (server_rules opened) (live j.s) xs) events_are ∙ m.state;
      output_up = ap (λ (xs : List RunEvent). output_for_all (client_rules opened) (live j.k) xs) (other_events (eqb link link) (map FrameReceived (frames_completed Responder (bytes_received link Initiator run) bytes)));
      output_down = ap (λ (xs : List RunEvent). output_for_all (server_rules opened) (live j.s) xs) events_are ∙ m.output;
      frames_up = ap (λ (xs : List ℕ). (split (HelloFrom Initiator) (got ++ xs)).frames) up ∙ a.all;
      frames_down = ap (λ (xs : List ℕ). (split (HelloFrom Responder) xs).frames) (ap (λ (xs : List ℕ). bytes_received link Initiator run ++ xs) down ∙ append-nil (bytes_received link Initiator run)) ∙ j.frames_down;
      sent_up = append-nil (bytes_sent link Initiator run) ∙ j.sent_up ∙ ap (λ (ps : List FrameContent). output_bytes opened Initiator 0 0 ps) (sym parts);
      sent_down = append-nil (bytes_sent link Responder run) ∙ j.sent_down;
      bytes_up = subst (λ (xs : List ℕ). IsBytes (got ++ xs)) (sym up) all_typed;
      guarded = λ o within g.
          subst (λ (x : ℕ). Guards opened j.k m.after (j.u ++ a.new) j.d (j.all_up ++ []) (j.all_down ++ m.said) (taken_up j.w a.left m.said) x) (place_more opened j.u a.new)
          (guards_down opened j.k m.after (j.u ++ a.new) j.d j.all_up (j.all_down ++ m.said) (taken_up j.w a.left m.said) (place_of opened j.u + length (concat (frames_at opened Initiator n r a.new))) (m.guarded o g));
      accessed = λ o typed_mark kept g h.
          let reached = length (bytes_received link Initiator run) in
          accesses_down opened j.k m.after j.d j.all_up (j.all_down ++ m.said) reached (m.accessed o g reached h);
      bytes_down = subst IsBytes (sym (ap (λ (xs : List ℕ). bytes_received link Initiator run ++ xs) down ∙ append-nil (bytes_received link Initiator run))) j.bytes_down;
    }

-- the client is fed bytes
pub fed_down_preserves : (opened : LinkParameters) (link : ℕ) (run : List Mark) (bytes : List ℕ) (j : RunAgrees opened link run) → IsPrefixOf (bytes_received link Initiator run ++ bytes) (bytes_sent link Responder run) → IsBytes bytes
    → (client opened link (run ++ marks.Fed link Initiator bytes ∷ [])).ended ≡ None → MarkAgrees opened link run (marks.Fed link Initiator bytes) j
fed_down_preserves opened link run bytes j prefix typed unended =
    let mark = marks.Fed link Initiator bytes in
    let got = bytes_received link Initiator run in
    let all_typed : IsBytes (got ++ bytes) = bytes_both got bytes j.bytes_down typed in
    let stream : IsOutput (j.d ++ (j.w.down ++ j.w.queued_down)) = subst IsOutput (sym j.linked.parts_down) j.linked.stream_down in
    let a = arrives opened Responder got bytes (bytes_sent link Responder run) j.d j.w.down j.w.queued_down stream j.frames_down j.sent_down prefix all_typed in
    let place = length (concat (frames_at opened Responder 0 0 j.d)) in
    let n = 0 + total_of sends_in j.d in
    let r = 0 + total_of requests_in j.d in
    let es = events_of place (frames_at opened Responder n r a.new) in
    let events_are : events_at link Initiator run mark ≡ es = own_events link (map FrameReceived (frames_completed Responder got bytes)) ∙ ap (λ (fs : List Frame). map FrameReceived fs) a.frames in
    let state : end_state_after (client_rules opened) (client opened link run) (events_at link Initiator run mark) ≡ end_state_after (client_rules opened) (live j.k) es =
    λ i. end_state_after (client_rules opened) (j.client_is i) (events_are i) in
    let stays : (end_state_after (client_rules opened) (live j.k) es).ended ≡ None = ap (λ (x : EndState ClientState). x.ended) (sym (client_one opened link run mark ∙ state)) ∙ unended in
    let m = client_runs opened j.s j.u j.all_down a.left a.new j.k j.d j.all_up j.w n r place j.linked a.parts (omega arith) (omega arith) a.place a.bytes_are a.some stays in
    let down : fed_at link Initiator mark ≡ bytes = own_bytes link bytes in
    let up : fed_at link Responder mark ≡ [] = other_bytes (eqb link link) bytes in
    let parts : (j.d ++ a.new) ++ a.left ≡ j.d ++ j.w.down = append_assoc j.d a.new a.left ∙ ap (λ (ps : List FrameContent). j.d ++ ps) (sym a.parts) in
    record {
      k = m.after;
      s = j.s;
      u = j.u;
      d = j.d ++ a.new;
      said_up = m.said;
      said_down = [];
      w = down_one j.w m.said a.left;
      linked = same_up_lem opened m.after j.s j.u (j.d ++ a.new) (j.all_up ++ m.said) j.all_down (down_one j.w m.said a.left) m.linked;
      client = ap (λ (xs : List RunEvent). end_state_after (client_rules opened) (live j.k) xs) events_are ∙ m.state;
      server = ap (λ (xs : List RunEvent). end_state_after (server_rules opened) (live j.s) xs) (other_events (eqb link link) (map FrameReceived (frames_completed Initiator (bytes_received link Responder run) bytes)));
      output_up = ap (λ (xs : List RunEvent). output_for_all (client_rules opened) (live j.k) xs) events_are ∙ m.output;
      output_down = ap (λ (xs : List RunEvent). output_for_all (server_rules opened) (live j.s) xs) (other_events (eqb link link) (map FrameReceived (frames_completed Initiator (bytes_received link Responder run) bytes)));
      frames_up = ap (λ (xs : List ℕ). (split (HelloFrom Initiator) xs).frames) (ap (λ (xs : List ℕ). bytes_received link Responder run ++ xs) up ∙ append-nil (bytes_received link Responder run)) ∙ j.frames_up;
      frames_down = ap (λ (xs : List ℕ). (split (HelloFrom Responder) (got ++ xs)).frames) down ∙ a.all;
      sent_up = append-nil (bytes_sent link Initiator run) ∙ j.sent_up;
      sent_down = append-nil (bytes_sent link Responder run) ∙ j.sent_down ∙ ap (λ (ps : List FrameContent). output_bytes opened Responder 0 0 ps) (sym parts);
      bytes_up = subst IsBytes (sym (ap (λ (xs : List ℕ). bytes_received link Responder run ++ xs) up ∙ append-nil (bytes_received link Responder run))) j.bytes_up;
      bytes_down = subst (λ (xs : List ℕ). IsBytes (got ++ xs)) (sym down) all_typed;
      guarded = λ o within g.
          guards_up opened m.after j.s j.u (j.d ++ a.new) (j.all_up ++ m.said) j.all_down (down_one j.w m.said a.left) (place_of opened j.u) (m.guarded o (place_of opened j.u) g);
      accessed = λ o typed_mark kept g h.
          let reached = length (bytes_received link Initiator run) in
          accesses_up opened m.after j.s (j.d ++ a.new) (j.all_up ++ m.said) j.all_down reached (m.accessed reached h);
    }
