-- On a matched link the frames that a side receives are the first hellos and segments that the other side writes, each read as it
-- was written.
use Rattle.std.proofs.Common.{◌≡◌, ℕ, suc, ◌+◌, ◌≤◌, ◌<◌, Bool, true, false, cond, ◌&&◌, eqb, List, [], ◌∷◌, ◌++◌, length, take, drop, map, Result, Ok, Err, refl, sym, ap, subst, ◌∙◌, arith, append_assoc, append-nil, take_all, take-append-drop, zero, ne_eqb}
use Rattle.std.specs.List.{concat}
use Rattle.std.proofs.lemmas.List.{take_at, drop_at, length-append}
use Rattle.nr_wire.specs.declared.hello.Side.{Side}
use Rattle.nr_wire.specs.declared.hello.Side.TheVariants.{Initiator, Responder}
use Rattle.nr_wire.specs.declared.stream.Awaited.{Awaited}
use Rattle.nr_wire.specs.declared.stream.Awaited.TheVariants.{Hello as HelloFrom, Fpdu}
use Rattle.nr_wire.specs.Hello.{Hello, key, hello_encoding, hello_of, hello_len, is_refused_by, peer}
use Rattle.nr_wire.specs.Segment.{Segment, segment_of, encoding, fpdu_len, IsSupported, Fits, ulpdu_size}
use Rattle.nr_wire.specs.Next.{frame_answer, hello_in, segment_in}
use Rattle.nr_wire.specs.Next.Next.{Whole, More}
use Rattle.nr_wire.specs.Stream.{Split, split, frames_then, is_whole, frame_len, IsFrame, AreFrames, awaited_after}
use Rattle.nr_wire.proofs.Frames.{whole_from, fields_some}
use Rattle.nr_wire.proofs.Splits.{split_append, split_frames}
use Rattle.nr_wire.proofs.Segments.{encoding_again}
use Rattle.nr_wire.proofs.Hellos.{hello_again, length_key}
use Rattle.nr_wire.specs.Constants.{HELLO_LEN, HELLO_REVISION, PRIVATE_MAX, ULPDU_MAX}
use Rattle.nr_wire.specs.Fields.{half_word}
use Rattle.nr_link.specs.Output.{hello_with}
use Rattle.nr_link.specs.Frames.{Frame, frames_from, frames_completed, is_hello}
use Rattle.nr_link.proofs.Streams.{frames_from_append, frames_completed_split}
use Rattle.nr_reduce.specs.declared.call.Submission.TheVariants as submissions
use Rattle.nr_reduce.specs.declared.mark.Mark.{Mark}
use Rattle.nr_reduce.specs.declared.mark.Mark.TheVariants as marks
use Rattle.nr_reduce.specs.History.{same_side, bytes_received, fed_at}
use Rattle.nr_reduce.specs.Events.{RunEvent, events, events_at, if_own}
use Rattle.nr_reduce.specs.Events.RunEvent.{FrameReceived, CallSubmitted, MemoryRevoked, CallExecuted, QueueWritten, ServerTold}
use Rattle.nr_reduce.specs.Matched.{IsPrefixOf}
use Rattle.nr_reduce.proofs.Steps.{events_one}
use Rattle.nr_laws.proofs.Outputs.{Output, bytes_of, bytes_of_all}
use Rattle.nr_laws.proofs.Outputs.Output.{AHello, ASegment}
use Rattle.nr_reduce.proofs.Standing.{received_one}

-- ---- Segments that are read as they are written

pub record IsWord (segment : Segment) : Type 0 where
  pub supported : IsSupported segment
  pub fits : Fits segment
  pub size : ulpdu_size segment ≤ ULPDU_MAX

record Judged {V : Type 0} (whole : Bool) (r : Result V ℕ) (value : V) (len n : ℕ) : Type 0 where
  is_whole : whole ≡ true
  says : r ≡ Ok value
  len_is : len ≡ n

judged_whole : {V : Type 0} (whole : Bool) (r : Result V ℕ) (value : V) (len n : ℕ) → cond whole (frame_answer r len) More ≡ Whole value n → Judged whole r value len n
judged_whole true (Ok x) value len n e = record { is_whole = refl; says = cc; len_is = cc }
judged_whole true (Err f) value len n e = absurd cc
judged_whole false r value len n e = absurd cc

frame_from : (a : Awaited) (bytes : List ℕ) → is_whole a bytes ≡ true → frame_len a bytes ≡ length bytes → IsFrame a bytes
frame_from a bytes whole len = record { fields = (whole_from a bytes whole).fields; len = len }

pub record IsSegmentFrame (frame : List ℕ) (segment : Segment) : Type 0 where
  pub is_frame : IsFrame Fpdu frame
  pub says : segment_of frame ≡ Ok segment

pub encoding_is : (segment : Segment) → IsWord segment → IsSegmentFrame (encoding segment) segment
unfolding segment_in
encoding_is segment w =
    let frame = encoding segment in
    let read : segment_in (frame ++ []) ≡ Whole segment (length frame) = encoding_again segment [] w.supported w.fits w.size in
    let found : segment_in frame ≡ Whole segment (length frame) = rw append-nil at read in
    let j = judged_whole (is_whole Fpdu frame) (segment_of (take (fpdu_len frame) frame)) segment (fpdu_len frame) (length frame) found in
    let all : take (fpdu_len frame) frame ≡ frame = take_all (fpdu_len frame) frame (omega (arith, j.len_is)) in
    record { is_frame = frame_from Fpdu frame j.is_whole j.len_is; says = ap segment_of (sym all) ∙ j.says }

unrefused : (side : Side) → is_refused_by side 0 ≡ false
unrefused Initiator = refl
unrefused Responder = refl

pub record IsHelloFrame (side : Side) (frame : List ℕ) : Type 0 where
  pub is_frame : IsFrame (HelloFrom side) frame
  pub private : List ℕ
  pub says : hello_of side frame ≡ Ok (record { side = side; flags = 0; private = private })

-- the fields after the key
fields_length : (n : ℕ) → length (0 ∷ HELLO_REVISION ∷ half_word n) ≡ 4
unfolding half_word
fields_length n = refl

pub hello_is : (side : Side) (private : List ℕ) → length private ≤ PRIVATE_MAX → IsHelloFrame side (hello_with side private)
unfolding hello_with hello_in
hello_is side private short =
    let hello : Hello = record { side = side; flags = 0; private = private } in
    let frame = hello_encoding hello in
    let read : hello_in side (frame ++ []) ≡ Whole hello (length frame) = hello_again hello [] (unrefused side, short) in
    let found : hello_in side frame ≡ Whole hello (length frame) = rw append-nil at read in
    let j = judged_whole (is_whole (HelloFrom side) frame) (hello_of side (take (hello_len side frame) frame)) hello (hello_len side frame) (length frame) found in
    let all : take (hello_len side frame) frame ≡ frame = take_all (hello_len side frame) frame (omega (arith, j.len_is)) in
    record { is_frame = frame_from (HelloFrom side) frame j.is_whole j.len_is; private = private; says = ap (hello_of side) (sym all) ∙ j.says }

-- the private data follows the fields
pub hello_private : (side : Side) (private : List ℕ) → drop HELLO_LEN (hello_with side private) ≡ private
unfolding hello_with hello_encoding
hello_private side private =
    let fields : List ℕ = 0 ∷ HELLO_REVISION ∷ half_word (length private) in
    let opening : List ℕ = key side ++ fields in
    let fields_len : length fields ≡ 4 = fields_length (length private) in
    let long : length opening ≡ HELLO_LEN = omega (arith, length_key side, fields_len, length-append (key side) fields) in
    drop_at opening private HELLO_LEN long

-- ---- What a side writes: its hello first, and then segments

abbrev pub AreFrom : Awaited → List Output → Type 0
AreFrom a [] = Unit {0}
AreFrom (HelloFrom side) (AHello bytes ∷ outs) = IsHelloFrame side bytes × AreFrom Fpdu outs
AreFrom (HelloFrom side) (ASegment s ∷ outs) = ⊥
AreFrom Fpdu (AHello bytes ∷ outs) = ⊥
AreFrom Fpdu (ASegment s ∷ outs) = IsWord s × AreFrom Fpdu outs

from_frames : (a : Awaited) (outs : List Output) → AreFrom a outs → AreFrames a (map bytes_of outs)
from_frames a [] h = tt
from_frames (HelloFrom side) (AHello bytes ∷ outs) h = (h.0.is_frame, from_frames Fpdu outs h.1)
from_frames (HelloFrom side) (ASegment s ∷ outs) h = absurd h
from_frames Fpdu (AHello bytes ∷ outs) h = absurd h
from_frames Fpdu (ASegment s ∷ outs) h = ((encoding_is s h.0).is_frame, from_frames Fpdu outs h.1)

pub from_first : (a : Awaited) (xs ys : List Output) → AreFrom a (xs ++ ys) → AreFrom a xs
from_first a [] ys h = tt
from_first (HelloFrom side) (AHello bytes ∷ xs) ys h = (h.0, from_first Fpdu xs ys h.1)
from_first (HelloFrom side) (ASegment s ∷ xs) ys h = h
from_first Fpdu (AHello bytes ∷ xs) ys h = h
from_first Fpdu (ASegment s ∷ xs) ys h = (h.0, from_first Fpdu xs ys h.1)

concat_bytes : (outs : List Output) → concat (map bytes_of outs) ≡ bytes_of_all outs
concat_bytes [] = refl
concat_bytes (o ∷ outs) = ap (λ (xs : List ℕ). bytes_of o ++ xs) (concat_bytes outs)

map_take : (n : ℕ) (outs : List Output) → take n (map bytes_of outs) ≡ map bytes_of (take n outs)
map_take zero outs = refl
map_take (suc n) [] = refl
map_take (suc n) (o ∷ outs) = ap (λ (xs : List (List ℕ)). bytes_of o ∷ xs) (map_take n outs)

split_nothing : (a : Awaited) → split a [] ≡ record { frames = []; rest = [] }
unfolding split
split_nothing a = refl

-- the first bytes of what a side writes are the frames of its first outputs
pub record FirstOf (a : Awaited) (stream : List ℕ) (outs : List Output) : Type 0 where
  pub came : List Output
  pub left : List Output
  pub parts : came ++ left ≡ outs
  pub frames : (split a stream).frames ≡ map bytes_of came

pub first_of_lem : (a : Awaited) (stream : List ℕ) (outs : List Output) → AreFrom a outs → IsPrefixOf stream (bytes_of_all outs) → FirstOf a stream outs
first_of_lem a stream outs from p =
    let all : List (List ℕ) = map bytes_of outs in
    let whole : stream ++ p.0 ≡ concat all ++ [] = p.1 ∙ sym (concat_bytes outs) ∙ sym (append-nil (concat all)) in
    let first = split a stream in
    let rest = split (awaited_after a first.frames) (first.rest ++ p.0) in
    let both : frames_then first.frames rest ≡ frames_then all (split (awaited_after a all) []) =
    sym (split_append a stream p.0) ∙ ap (λ (xs : List ℕ). split a xs) whole ∙ split_frames a all [] (from_frames a outs from) in
    let frames : first.frames ++ rest.frames ≡ all =
    ap (λ (s : Split). s.frames) both ∙ ap (λ (s : Split). all ++ s.frames) (split_nothing (awaited_after a all)) ∙ append-nil all in
    let n = length first.frames in record {
      came = take n outs;
      left = drop n outs;
      parts = take-append-drop n outs;
      frames = sym (take_at first.frames rest.frames n refl) ∙ ap (λ (fs : List (List ℕ)). take n fs) frames ∙ map_take n outs;
    }

-- ---- The frames of events

abbrev pub Brought : Output → Frame → Type 0
Brought (AHello bytes) f = (is_hello f ≡ true) × (f.bytes ≡ bytes)
Brought (ASegment s) f = (is_hello f ≡ false) × (segment_of f.bytes ≡ Ok s)

-- the frames among some events bring these, in order
abbrev pub Brings : List RunEvent → List Output → Type 0
Brings [] outs = outs ≡ []
Brings (FrameReceived f ∷ es) [] = ⊥
Brings (FrameReceived f ∷ es) (o ∷ outs) = Brought o f × Brings es outs
Brings (CallSubmitted p a ∷ es) outs = Brings es outs
Brings (MemoryRevoked p xid ∷ es) outs = Brings es outs
Brings (CallExecuted e ∷ es) outs = Brings es outs
Brings (QueueWritten taken ∷ es) outs = Brings es outs
Brings (ServerTold what ∷ es) outs = Brings es outs

abbrev pub frames_in : List RunEvent → List Frame
frames_in [] = []
frames_in (FrameReceived f ∷ es) = f ∷ frames_in es
frames_in (CallSubmitted p a ∷ es) = frames_in es
frames_in (MemoryRevoked p xid ∷ es) = frames_in es
frames_in (CallExecuted e ∷ es) = frames_in es
frames_in (QueueWritten taken ∷ es) = frames_in es
frames_in (ServerTold what ∷ es) = frames_in es

frames_in_append : (es more : List RunEvent) → frames_in (es ++ more) ≡ frames_in es ++ frames_in more
frames_in_append [] more = refl
frames_in_append (FrameReceived f ∷ es) more = ap (λ (fs : List Frame). f ∷ fs) (frames_in_append es more)
frames_in_append (CallSubmitted p a ∷ es) more = frames_in_append es more
frames_in_append (MemoryRevoked p xid ∷ es) more = frames_in_append es more
frames_in_append (CallExecuted e ∷ es) more = frames_in_append es more
frames_in_append (QueueWritten taken ∷ es) more = frames_in_append es more
frames_in_append (ServerTold what ∷ es) more = frames_in_append es more

frames_in_map : (fs : List Frame) → frames_in (map FrameReceived fs) ≡ fs
frames_in_map [] = refl
frames_in_map (f ∷ fs) = ap (λ (x : List Frame). f ∷ x) (frames_in_map fs)

-- the frames of a stream
abbrev frames_by : Side → List ℕ → List Frame
frames_by peer stream = frames_from 0 (split (HelloFrom peer) stream).frames

frames_more : (peer : Side) (old more : List ℕ) → frames_by peer (old ++ more) ≡ frames_by peer old ++ frames_completed peer old more
frames_more peer old more =
    let s = split (HelloFrom peer) old in
    let later = (split (awaited_after (HelloFrom peer) s.frames) (s.rest ++ more)).frames in
    ap (λ (x : Split). frames_from 0 x.frames) (split_append (HelloFrom peer) old more)
    ∙ frames_from_append 0 s.frames later
    ∙ ap (λ (fs : List Frame). frames_from 0 s.frames ++ fs) (ap (λ (n : ℕ). frames_from n later) (omega arith) ∙ sym (frames_completed_split peer old more))

if_none_lem : (b : Bool) (e : RunEvent) → frames_in (e ∷ []) ≡ [] → frames_in (if_own b (e ∷ [])) ≡ []
if_none_lem true e h = h
if_none_lem false e h = refl

quiet : (link : ℕ) (side : Side) (before : List Mark) (mark : Mark) → fed_at link side mark ≡ [] → frames_in (events_at link side before mark) ≡ []
    → frames_by (peer side) (bytes_received link side before ++ fed_at link side mark) ≡ frames_by (peer side) (bytes_received link side before) ++ frames_in (events_at link side before mark)
quiet link side before mark none empty =
    let old = bytes_received link side before in
    ap (λ (xs : List ℕ). frames_by (peer side) (old ++ xs)) none ∙ ap (λ (xs : List ℕ). frames_by (peer side) xs) (append-nil old)
    ∙ sym (append-nil (frames_by (peer side) old)) ∙ ap (λ (fs : List Frame). frames_by (peer side) old ++ fs) (sym empty)

mark_frames : (link : ℕ) (side : Side) (before : List Mark) (mark : Mark) → frames_by (peer side) (bytes_received link side before ++ fed_at link side mark) ≡ frames_by (peer side) (bytes_received link side before) ++ frames_in (events_at link side before mark)
mark_frames link side before (marks.Fed l s bytes) = by (eqb l link && same_side s side)
  where
    sender : Side
    sender = peer side

    old : List ℕ
    old = bytes_received link side before

    by : (b : Bool) → frames_by sender (old ++ cond b bytes []) ≡ frames_by sender old ++ frames_in (if_own b (map FrameReceived (frames_completed sender old bytes)))
    by true = frames_more sender old bytes ∙ ap (λ (fs : List Frame). frames_by sender old ++ fs) (sym (frames_in_map (frames_completed sender old bytes)))
    by false = ap (λ (xs : List ℕ). frames_by sender xs) (append-nil old) ∙ sym (append-nil (frames_by sender old))
mark_frames link side before (marks.Wrote l s bytes) = quiet link side before (marks.Wrote l s bytes) refl (if_none_lem (eqb l link && same_side s side) (QueueWritten (length bytes)) refl)
mark_frames link side before (marks.Submit l call form (submissions.Accepted xid)) = quiet link side before (marks.Submit l call form (submissions.Accepted xid)) refl (if_none_lem (eqb l link && same_side Initiator side) (CallSubmitted (length (bytes_received link side before)) (record { xid = xid; call = call; form = form })) refl)
mark_frames link side before (marks.Submit l call form (submissions.Refused why)) = quiet link side before (marks.Submit l call form (submissions.Refused why)) refl refl
mark_frames link side before (marks.Submit l call form submissions.Dropped) = quiet link side before (marks.Submit l call form submissions.Dropped) refl refl
mark_frames link side before (marks.Execute l xid moment payload place reply) = quiet link side before (marks.Execute l xid moment payload place reply) refl
    (if_none_lem (eqb l link && same_side Responder side) (CallExecuted (record { xid = xid; moment = moment; payload = payload; place = place; reply = reply })) refl)
mark_frames link side before (marks.Revoke l xid bytes) = quiet link side before (marks.Revoke l xid bytes) refl (if_none_lem (eqb l link && same_side Initiator side) (MemoryRevoked (length (bytes_received link side before)) xid) refl)
mark_frames link side before (marks.Done l xid outcome) = quiet link side before (marks.Done l xid outcome) refl refl
mark_frames link side before (marks.Lost l xid) = quiet link side before (marks.Lost l xid) refl refl
mark_frames link side before (marks.Forget l xid) = quiet link side before (marks.Forget l xid) refl refl
mark_frames link side before (marks.Drop l) = quiet link side before (marks.Drop l) refl refl
mark_frames link side before (marks.Told l what) = quiet link side before (marks.Told l what) refl (if_none_lem (eqb l link && same_side Responder side) (ServerTold what) refl)

run_frames : (link : ℕ) (side : Side) (before run : List Mark) → frames_in (events link side before) ≡ frames_by (peer side) (bytes_received link side before)
    → frames_in (events link side (before ++ run)) ≡ frames_by (peer side) (bytes_received link side (before ++ run))
run_frames link side before [] h = subst (λ (b : List Mark). frames_in (events link side b) ≡ frames_by (peer side) (bytes_received link side b)) (sym (append-nil before)) h
run_frames link side before (mark ∷ run) h =
    let next : frames_in (events link side (before ++ mark ∷ [])) ≡ frames_by (peer side) (bytes_received link side (before ++ mark ∷ [])) =
    ap frames_in (events_one link side before mark) ∙ frames_in_append (events link side before) (events_at link side before mark)
    ∙ ap (λ (fs : List Frame). fs ++ frames_in (events_at link side before mark)) h
    ∙ sym (mark_frames link side before mark)
    ∙ ap (λ (xs : List ℕ). frames_by (peer side) xs) (sym (received_one link side before mark)) in
    subst (λ (b : List Mark). frames_in (events link side b) ≡ frames_by (peer side) (bytes_received link side b)) (append_assoc before (mark ∷ []) run) (run_frames link side (before ++ mark ∷ []) run next)

pub events_frames : (link : ℕ) (side : Side) (run : List Mark) → frames_in (events link side run) ≡ frames_by (peer side) (bytes_received link side run)
unfolding events bytes_received split
events_frames link side run = run_frames link side [] run refl

-- ---- Frame by frame

abbrev EachBrought : List Frame → List Output → Type 0
EachBrought [] [] = Unit {0}
EachBrought [] (o ∷ outs) = ⊥
EachBrought (f ∷ fs) [] = ⊥
EachBrought (f ∷ fs) (o ∷ outs) = Brought o f × EachBrought fs outs

brings_each : (es : List RunEvent) (outs : List Output) → EachBrought (frames_in es) outs → Brings es outs
brings_each [] [] h = refl
brings_each [] (o ∷ outs) h = absurd h
brings_each (FrameReceived f ∷ es) [] h = absurd h
brings_each (FrameReceived f ∷ es) (o ∷ outs) h = (h.0, brings_each es outs h.1)
brings_each (CallSubmitted p a ∷ es) outs h = brings_each es outs h
brings_each (MemoryRevoked p xid ∷ es) outs h = brings_each es outs h
brings_each (CallExecuted e ∷ es) outs h = brings_each es outs h
brings_each (QueueWritten taken ∷ es) outs h = brings_each es outs h
brings_each (ServerTold what ∷ es) outs h = brings_each es outs h

later_brought : (place : ℕ) (outs : List Output) → 0 < place → AreFrom Fpdu outs → EachBrought (frames_from place (map bytes_of outs)) outs
later_brought place [] some h = tt
later_brought place (AHello bytes ∷ outs) some h = absurd h
later_brought place (ASegment s ∷ outs) some h =
    ((ne_eqb place 0 (λ e. omega (arith, e, some)), (encoding_is s h.0).says), later_brought (place + length (encoding s)) outs (omega (arith, some)) h.1)

pub all_brought : (side : Side) (outs : List Output) → AreFrom (HelloFrom side) outs → EachBrought (frames_from 0 (map bytes_of outs)) outs
all_brought side [] h = tt
all_brought side (AHello bytes ∷ outs) h =
    let least = h.0.is_frame.fields in
    ((refl, refl), later_brought (0 + length bytes) outs (omega (arith, least, fields_some (HelloFrom side))) h.1)
all_brought side (ASegment s ∷ outs) h = absurd h

-- what a side receives of what its peer writes
pub record Receives (link : ℕ) (side : Side) (run : List Mark) (outs : List Output) : Type 0 where
  pub came : List Output
  pub left : List Output
  pub parts : came ++ left ≡ outs
  pub from : AreFrom (HelloFrom (peer side)) came
  pub brings : Brings (events link side run) came

pub receives : (link : ℕ) (side : Side) (run : List Mark) (outs : List Output) → AreFrom (HelloFrom (peer side)) outs → IsPrefixOf (bytes_received link side run) (bytes_of_all outs) → Receives link side run outs
receives link side run outs from p =
    let f = first_of_lem (HelloFrom (peer side)) (bytes_received link side run) outs from p in
    let came : AreFrom (HelloFrom (peer side)) f.came = from_first (HelloFrom (peer side)) f.came f.left (subst (λ (x : List Output). AreFrom (HelloFrom (peer side)) x) (sym f.parts) from) in
    let frames : frames_in (events link side run) ≡ frames_from 0 (map bytes_of f.came) = events_frames link side run ∙ ap (λ (fs : List (List ℕ)). frames_from 0 fs) f.frames in
    record {
      came = f.came;
      left = f.left;
      parts = f.parts;
      from = came;
      brings = brings_each (events link side run) f.came (subst (λ (fs : List Frame). EachBrought fs f.came) (sym frames) (all_brought (peer side) f.came came));
    }
