-- Along the events of a run: frames that follow each other, and what a side writes for each event.
use Rattle.std.proofs.Common.{◌≡◌, ℕ, ◌+◌, ◌≤◌, ◌<◌, Bool, true, false, cond, ◌&&◌, eqb, List, [], ◌∷◌, ◌++◌, length, map, Option, None, Some, refl, sym, ap, subst, ◌∙◌, arith, append_assoc, append-nil, length-append, add-zero}
use Rattle.std.specs.List.{concat}
use Rattle.nr_xdr.specs.Item.{IsBytes}
use Rattle.nr_xdr.proofs.Chains.{IsBytes_left, IsBytes_right}
use Rattle.nr_wire.specs.declared.hello.Side.{Side}
use Rattle.nr_wire.specs.declared.hello.Side.TheVariants.{Initiator, Responder}
use Rattle.nr_wire.specs.declared.stream.Awaited.{Awaited}
use Rattle.nr_wire.specs.declared.stream.Awaited.TheVariants.{Hello as HelloFrom, Fpdu}
use Rattle.nr_wire.specs.Stream.{Split, split, awaited_after, AreFrames}
use Rattle.nr_wire.proofs.Splits.{split_Splits, split_append}
use Rattle.nr_wire.proofs.Frames.{fields_some}
use Rattle.nr_link.specs.declared.end.End.{End as Stop}
use Rattle.nr_link.specs.Frames.{Frame, frames_from, frames_completed}
use Rattle.nr_link.proofs.Streams.{frames_completed_split}
use Rattle.nr_reduce.specs.declared.call.Submission.TheVariants as submissions
use Rattle.nr_reduce.specs.declared.mark.Mark.{Mark}
use Rattle.nr_reduce.specs.declared.mark.Mark.TheVariants as marks
use Rattle.nr_wire.specs.Hello.{peer}
use Rattle.nr_reduce.specs.History.{same_side, bytes_received, fed_at}
use Rattle.nr_reduce.specs.AtEachMark.{AtEachMark}
use Rattle.nr_reduce.specs.Events.{RunEvent, events, events_at, if_own}
use Rattle.nr_reduce.specs.Events.RunEvent.{FrameReceived, CallSubmitted, MemoryRevoked, CallExecuted, QueueWritten, ServerTold}
use Rattle.nr_reduce.specs.EndRules.{EndMachine, EndState, next_end_state, end_state_after}
use Rattle.nr_reduce.proofs.Steps.{events_one}
use Rattle.nr_laws.specs.Typed.{TypedMark}
use Rattle.nr_laws.proofs.Outputs.{Output}
use Rattle.std.proofs.lemmas.List.Folds.{concat-append}
use Rattle.nr_laws.proofs.Bytes.{bytes_both}
use Rattle.nr_reduce.proofs.Standing.{received_one}

-- ---- Outputs of a machine

module _ {S : Type 0} (rules : EndMachine S) (says : S → RunEvent → List Output) (last : Stop → List Output) where
  abbrev pub outputs_by : S → RunEvent → Option Stop → List Output
  outputs_by s event None = says s event
  outputs_by s event (Some end) = last end

  abbrev pub outputs_in : S → RunEvent → Option Stop → List Output
  outputs_in s event None = outputs_by s event (rules.end_at s event)
  outputs_in s event (Some end) = []

  abbrev pub outputs_for : EndState S → RunEvent → List Output
  outputs_for r event = outputs_in r.state event r.ended

  abbrev pub outputs_all : EndState S → List RunEvent → List Output
  outputs_all r [] = []
  outputs_all r (event ∷ es) = outputs_for r event ++ outputs_all (next_end_state rules r event) es

-- ---- Frames that follow each other

abbrev pub IsNext : ℕ → RunEvent → Type 0
IsNext place (FrameReceived f) = (f.at ≡ place) × (place < f.end) × IsBytes f.bytes
IsNext place (CallSubmitted p a) = place ≤ p
IsNext place (MemoryRevoked p xid) = place ≤ p
IsNext place (CallExecuted e) = Unit {0}
IsNext place (QueueWritten taken) = Unit {0}
IsNext place (ServerTold what) = Unit {0}

abbrev pub place_after : ℕ → RunEvent → ℕ
place_after place (FrameReceived f) = f.end
place_after place (CallSubmitted p a) = place
place_after place (MemoryRevoked p xid) = place
place_after place (CallExecuted e) = place
place_after place (QueueWritten taken) = place
place_after place (ServerTold what) = place

abbrev pub places_after : ℕ → List RunEvent → ℕ
places_after place [] = place
places_after place (e ∷ es) = places_after (place_after place e) es

module _ {S : Type 0} (rules : EndMachine S) (Good : EndState S → RunEvent → Type 0) where
  abbrev pub GoesOn : ℕ → EndState S → List RunEvent → Type 0
  GoesOn place r [] = Unit {0}
  GoesOn place r (e ∷ es) = IsNext place e × Good r e × GoesOn (place_after place e) (next_end_state rules r e) es

pub appended_preserve : {S : Type 0} (rules : EndMachine S) (Good : EndState S → RunEvent → Type 0) (place : ℕ) (r : EndState S) (es more : List RunEvent) →
    GoesOn rules Good place r es → GoesOn rules Good (places_after place es) (end_state_after rules r es) more → GoesOn rules Good place r (es ++ more)
appended_preserve rules Good place r [] more h g = g
appended_preserve rules Good place r (e ∷ es) more h g = (h.0, h.1, appended_preserve rules Good (place_after place e) (next_end_state rules r e) es more h.2 g)

pub first_preserve : {S : Type 0} (rules : EndMachine S) (Good : EndState S → RunEvent → Type 0) (place : ℕ) (r : EndState S) (es more : List RunEvent) →
    GoesOn rules Good place r (es ++ more) → GoesOn rules Good place r es
first_preserve rules Good place r [] more h = tt
first_preserve rules Good place r (e ∷ es) more h = (h.0, h.1, first_preserve rules Good (place_after place e) (next_end_state rules r e) es more h.2)

pub later_preserve : {S : Type 0} (rules : EndMachine S) (Good : EndState S → RunEvent → Type 0) (place : ℕ) (r : EndState S) (es more : List RunEvent) →
    GoesOn rules Good place r (es ++ more) → GoesOn rules Good (places_after place es) (end_state_after rules r es) more
later_preserve rules Good place r [] more h = h
later_preserve rules Good place r (e ∷ es) more h = later_preserve rules Good (place_after place e) (next_end_state rules r e) es more h.2

pub places_append : (place : ℕ) (es more : List RunEvent) → places_after place (es ++ more) ≡ places_after (places_after place es) more
places_append place [] more = refl
places_append place (e ∷ es) more = places_append (place_after place e) es more

-- ---- A fact that goes along

pub along : {S : Type 0} (rules : EndMachine S) (says : S → RunEvent → List Output) (last : Stop → List Output) (Good : EndState S → RunEvent → Type 0)
    (P : List RunEvent → ℕ → EndState S → List Output → Type 0)
    → ((es : List RunEvent) (place : ℕ) (r : EndState S) (outs : List Output) (e : RunEvent) → IsNext place e → Good r e → P es place r outs
    → P (es ++ e ∷ []) (place_after place e) (next_end_state rules r e) (outs ++ outputs_for rules says last r e))
    → (es : List RunEvent) (place : ℕ) (r : EndState S) (outs : List Output) (more : List RunEvent) → GoesOn rules Good place r more → P es place r outs
    → P (es ++ more) (places_after place more) (end_state_after rules r more) (outs ++ outputs_all rules says last r more)
along rules says last Good P step es place r outs [] h p =
    subst (λ (x : List RunEvent). P x place r (outs ++ [])) (sym (append-nil es)) (subst (λ (o : List Output). P es place r o) (sym (append-nil outs)) p)
along rules says last Good P step es place r outs (e ∷ more) h p =
    let o : List Output = outputs_for rules says last r e in
    let rest : List Output = outputs_all rules says last (next_end_state rules r e) more in
    let t = end_state_after rules (next_end_state rules r e) more in
    let q = places_after (place_after place e) more in
    let next = along rules says last Good P step (es ++ e ∷ []) (place_after place e) (next_end_state rules r e) (outs ++ o) more h.2 (step es place r outs e h.0 h.1 p) in
    subst (λ (x : List RunEvent). P x q t (outs ++ (o ++ rest))) (append_assoc es (e ∷ []) more)
    (subst (λ (x : List Output). P ((es ++ e ∷ []) ++ more) q t x) (append_assoc outs o rest) next)

-- ---- The events of a run

abbrev pub AreSome : List (List ℕ) → Type 0
AreSome [] = Unit {0}
AreSome (b ∷ bs) = (0 < length b) × IsBytes b × AreSome bs

some_frames : (a : Awaited) (fs : List (List ℕ)) (rest : List ℕ) → AreFrames a fs → IsBytes (concat fs ++ rest) → AreSome fs
some_frames a [] rest h b = tt
some_frames a (f ∷ fs) rest h b =
    let both : IsBytes (f ++ (concat fs ++ rest)) = subst IsBytes (append_assoc f (concat fs) rest) b in
    let least = h.0.fields in
    (omega (arith, least, fields_some a), IsBytes_left f (concat fs ++ rest) both, some_frames Fpdu fs rest h.1 (IsBytes_right f (concat fs ++ rest) both))

frames_go : {S : Type 0} (rules : EndMachine S) (Good : EndState S → RunEvent → Type 0) → ((r : EndState S) (f : Frame) → IsBytes f.bytes → Good r (FrameReceived f))
    → (place : ℕ) (r : EndState S) (fs : List (List ℕ)) → AreSome fs → GoesOn rules Good place r (map FrameReceived (frames_from place fs))
frames_go rules Good good place r [] h = tt
frames_go rules Good good place r (f ∷ fs) h =
    let frame : Frame = record { at = place; end = place + length f; bytes = f } in
    let some = h.0 in
    ((refl, omega (arith, some), h.1), good r frame h.1, frames_go rules Good good (place + length f) (next_end_state rules r (FrameReceived frame)) fs h.2)

places_frames : (place : ℕ) (fs : List (List ℕ)) → places_after place (map FrameReceived (frames_from place fs)) ≡ place + length (concat fs)
places_frames place [] = sym (add-zero place)
places_frames place (f ∷ fs) = (let e = places_frames (place + length f) fs in let l = length-append f (concat fs) in omega (arith, e, l))

-- how many bytes of complete frames a side received
abbrev pub whole_bytes : ℕ → Side → List Mark → ℕ
whole_bytes link side run = length (concat (split (HelloFrom (peer side)) (bytes_received link side run)).frames)

-- the frames that more bytes complete
abbrev later_frames : Side → List ℕ → List ℕ → List (List ℕ)
later_frames peer old more = (split (awaited_after (HelloFrom peer) (split (HelloFrom peer) old).frames) ((split (HelloFrom peer) old).rest ++ more)).frames

whole_more : (peer : Side) (old more : List ℕ) → length (concat (split (HelloFrom peer) (old ++ more)).frames) ≡ length (concat (split (HelloFrom peer) old).frames) + length (concat (later_frames peer old more))
whole_more peer old more =
    ap (λ (s : Split). length (concat s.frames)) (split_append (HelloFrom peer) old more)
    ∙ ap (λ (xs : List ℕ). length xs) (concat-append (split (HelloFrom peer) old).frames (later_frames peer old more))
    ∙ length-append (concat (split (HelloFrom peer) old).frames) (concat (later_frames peer old more))

pub whole_within : (link : ℕ) (side : Side) (run : List Mark) → whole_bytes link side run ≤ length (bytes_received link side run)
whole_within link side run =
    let s = split (HelloFrom (peer side)) (bytes_received link side run) in
    let e = ap (λ (xs : List ℕ). length xs) (split_Splits (HelloFrom (peer side)) (bytes_received link side run)).whole in
    omega (arith, e, length-append (concat s.frames) s.rest)

bytes_if : (b : Bool) (xs : List ℕ) → IsBytes xs → IsBytes (cond b xs [])
bytes_if true xs h = h
bytes_if false xs h = λ i. omega arith

fed_bytes_lem : (link : ℕ) (side : Side) (before : List Mark) (mark : Mark) → TypedMark before mark → IsBytes (fed_at link side mark)
fed_bytes_lem link side before (marks.Fed l s bytes) h = bytes_if (eqb l link && same_side s side) bytes h
fed_bytes_lem link side before (marks.Submit l call form answer) h = λ i. omega arith
fed_bytes_lem link side before (marks.Wrote l s bytes) h = λ i. omega arith
fed_bytes_lem link side before (marks.Execute l xid moment payload place reply) h = λ i. omega arith
fed_bytes_lem link side before (marks.Done l xid outcome) h = λ i. omega arith
fed_bytes_lem link side before (marks.Lost l xid) h = λ i. omega arith
fed_bytes_lem link side before (marks.Forget l xid) h = λ i. omega arith
fed_bytes_lem link side before (marks.Revoke l xid bytes) h = λ i. omega arith
fed_bytes_lem link side before (marks.Drop l) h = λ i. omega arith
fed_bytes_lem link side before (marks.Told l what) h = λ i. omega arith

abbrev pub FirstGood : {S : Type 0} → (EndState S → RunEvent → Type 0) → EndState S → List RunEvent → Type 0
FirstGood Good r [] = Unit {0}
FirstGood Good r (FrameReceived f ∷ es) = Unit {0}
FirstGood Good r (CallSubmitted p a ∷ es) = Good r (CallSubmitted p a)
FirstGood Good r (MemoryRevoked p xid ∷ es) = Good r (MemoryRevoked p xid)
FirstGood Good r (CallExecuted e ∷ es) = Good r (CallExecuted e)
FirstGood Good r (QueueWritten taken ∷ es) = Good r (QueueWritten taken)
FirstGood Good r (ServerTold what ∷ es) = Good r (ServerTold what)

-- what a run shows of one of its sides: its events go on, and its frames are placed by the bytes that were received
pub record Goes {S : Type 0} (rules : EndMachine S) (Good : EndState S → RunEvent → Type 0) (start : EndState S) (link : ℕ) (side : Side) (run : List Mark) : Type 0 where
  pub bytes : IsBytes (bytes_received link side run)
  pub place : places_after 0 (events link side run) ≡ whole_bytes link side run
  pub goes : GoesOn rules Good 0 start (events link side run)

if_goes : {S : Type 0} (rules : EndMachine S) (Good : EndState S → RunEvent → Type 0) (place : ℕ) (r : EndState S) (e : RunEvent) → IsNext place e → place_after place e ≡ place
    → (FirstGood Good r (e ∷ []) → Good r e) → (b : Bool) → FirstGood Good r (if_own b (e ∷ [])) → GoesOn rules Good place r (if_own b (e ∷ [])) × (places_after place (if_own b (e ∷ [])) ≡ place)
if_goes rules Good place r e next same good true h = ((next, good h, tt), same)
if_goes rules Good place r e next same good false h = (tt, refl)

abbrev MarkGoes : {S : Type 0} → EndMachine S → (EndState S → RunEvent → Type 0) → EndState S → ℕ → Side → List Mark → Mark → Type 0
MarkGoes rules Good r link side before mark =
    GoesOn rules Good (whole_bytes link side before) r (events_at link side before mark)
    × (places_after (whole_bytes link side before) (events_at link side before mark) ≡ whole_bytes link side (before ++ mark ∷ []))

none_fed : (link : ℕ) (side : Side) (before : List Mark) (mark : Mark) → fed_at link side mark ≡ [] → whole_bytes link side (before ++ mark ∷ []) ≡ whole_bytes link side before
none_fed link side before mark none =
    ap (λ (xs : List ℕ). length (concat (split (HelloFrom (peer side)) xs).frames))
    (received_one link side before mark ∙ ap (λ (xs : List ℕ). bytes_received link side before ++ xs) none ∙ append-nil (bytes_received link side before))

quiet_goes : {S : Type 0} (rules : EndMachine S) (Good : EndState S → RunEvent → Type 0) (r : EndState S) (link : ℕ) (side : Side) (before : List Mark) (mark : Mark) → fed_at link side mark ≡ []
    → GoesOn rules Good (whole_bytes link side before) r (events_at link side before mark) × (places_after (whole_bytes link side before) (events_at link side before mark) ≡ whole_bytes link side before)
    → MarkGoes rules Good r link side before mark
quiet_goes rules Good r link side before mark none h = (h.0, h.1 ∙ sym (none_fed link side before mark none))

fed_goes : {S : Type 0} (rules : EndMachine S) (Good : EndState S → RunEvent → Type 0) → ((r : EndState S) (f : Frame) → IsBytes f.bytes → Good r (FrameReceived f))
    → (r : EndState S) (link : ℕ) (side : Side) (before : List Mark) (l : ℕ) (s : Side) (bytes : List ℕ) → IsBytes (bytes_received link side before) → IsBytes bytes
    → MarkGoes rules Good r link side before (marks.Fed l s bytes)
fed_goes rules Good good r link side before l s bytes old new = by (eqb l link && same_side s side) refl
  where
    sender : Side
    sender = peer side

    got : List ℕ
    got = bytes_received link side before

    fs : List (List ℕ)
    fs = later_frames sender got bytes

    place : ℕ
    place = whole_bytes link side before

    by : (b : Bool) → (eqb l link && same_side s side) ≡ b
        → GoesOn rules Good place r (if_own b (map FrameReceived (frames_completed sender got bytes)))
        × (places_after place (if_own b (map FrameReceived (frames_completed sender got bytes))) ≡ whole_bytes link side (before ++ marks.Fed l s bytes ∷ []))
    by false is = (tt, sym (none_fed link side before (marks.Fed l s bytes) (ap (λ (b : Bool). cond b bytes []) is)))
    by true is =
        let frames : frames_completed sender got bytes ≡ frames_from place fs = frames_completed_split sender got bytes in
        let events : map FrameReceived (frames_completed sender got bytes) ≡ map FrameReceived (frames_from place fs) = ap (λ (x : List Frame). map FrameReceived x) frames in
        let splits = split_Splits (awaited_after (HelloFrom sender) (split (HelloFrom sender) got).frames) ((split (HelloFrom sender) got).rest ++ bytes) in
        let rest : IsBytes (split (HelloFrom sender) got).rest = IsBytes_right (concat (split (HelloFrom sender) got).frames) (split (HelloFrom sender) got).rest (subst IsBytes (split_Splits (HelloFrom sender) got).whole old) in
        let some : AreSome fs = some_frames _ fs _ splits.each (subst IsBytes splits.whole (bytes_both _ bytes rest new)) in
        let all : bytes_received link side (before ++ marks.Fed l s bytes ∷ []) ≡ got ++ bytes =
        received_one link side before (marks.Fed l s bytes) ∙ ap (λ (b : Bool). got ++ cond b bytes []) is in (
          subst (λ (es : List RunEvent). GoesOn rules Good place r es) (sym events) (frames_go rules Good good place r fs some),
          ap (λ (es : List RunEvent). places_after place es) events ∙ places_frames place fs ∙ sym (whole_more sender got bytes)
              ∙ ap (λ (xs : List ℕ). length (concat (split (HelloFrom sender) xs).frames)) (sym all),
        )

mark_goes : {S : Type 0} (rules : EndMachine S) (Good : EndState S → RunEvent → Type 0) → ((r : EndState S) (f : Frame) → IsBytes f.bytes → Good r (FrameReceived f))
    → (r : EndState S) (link : ℕ) (side : Side) (before : List Mark) (mark : Mark) → IsBytes (bytes_received link side before) → TypedMark before mark
    → FirstGood Good r (events_at link side before mark) → MarkGoes rules Good r link side before mark
mark_goes rules Good good r link side before (marks.Fed l s bytes) old new h = fed_goes rules Good good r link side before l s bytes old new
mark_goes rules Good good r link side before (marks.Wrote l s bytes) old new h =
    quiet_goes rules Good r link side before (marks.Wrote l s bytes) refl (if_goes rules Good (whole_bytes link side before) r (QueueWritten (length bytes)) tt refl (λ g. g) (eqb l link && same_side s side) h)
mark_goes rules Good good r link side before (marks.Submit l call form (submissions.Accepted xid)) old new h =
    quiet_goes rules Good r link side before (marks.Submit l call form (submissions.Accepted xid)) refl
    (if_goes rules Good (whole_bytes link side before) r (CallSubmitted (length (bytes_received link side before)) (record { xid = xid; call = call; form = form })) (whole_within link side before) refl (λ g. g) (eqb l link && same_side Initiator side) h)
mark_goes rules Good good r link side before (marks.Submit l call form (submissions.Refused why)) old new h = quiet_goes rules Good r link side before (marks.Submit l call form (submissions.Refused why)) refl (tt, refl)
mark_goes rules Good good r link side before (marks.Submit l call form submissions.Dropped) old new h = quiet_goes rules Good r link side before (marks.Submit l call form submissions.Dropped) refl (tt, refl)
mark_goes rules Good good r link side before (marks.Execute l xid moment payload place reply) old new h =
    quiet_goes rules Good r link side before (marks.Execute l xid moment payload place reply) refl
    (if_goes rules Good (whole_bytes link side before) r (CallExecuted (record { xid = xid; moment = moment; payload = payload; place = place; reply = reply })) tt refl (λ g. g) (eqb l link && same_side Responder side) h)
mark_goes rules Good good r link side before (marks.Revoke l xid bytes) old new h =
    quiet_goes rules Good r link side before (marks.Revoke l xid bytes) refl
    (if_goes rules Good (whole_bytes link side before) r (MemoryRevoked (length (bytes_received link side before)) xid) (whole_within link side before) refl (λ g. g) (eqb l link && same_side Initiator side) h)
mark_goes rules Good good r link side before (marks.Done l xid outcome) old new h = quiet_goes rules Good r link side before (marks.Done l xid outcome) refl (tt, refl)
mark_goes rules Good good r link side before (marks.Lost l xid) old new h = quiet_goes rules Good r link side before (marks.Lost l xid) refl (tt, refl)
mark_goes rules Good good r link side before (marks.Forget l xid) old new h = quiet_goes rules Good r link side before (marks.Forget l xid) refl (tt, refl)
mark_goes rules Good good r link side before (marks.Drop l) old new h = quiet_goes rules Good r link side before (marks.Drop l) refl (tt, refl)
mark_goes rules Good good r link side before (marks.Told l what) old new h =
    quiet_goes rules Good r link side before (marks.Told l what) refl (if_goes rules Good (whole_bytes link side before) r (ServerTold what) tt refl (λ g. g) (eqb l link && same_side Responder side) h)

pub each_preserves : {S : Type 0} (rules : EndMachine S) (Good : EndState S → RunEvent → Type 0) → ((r : EndState S) (f : Frame) → IsBytes f.bytes → Good r (FrameReceived f))
    → (start : EndState S) (link : ℕ) (side : Side) (P : List Mark → Mark → Type 0)
    → ((before : List Mark) (mark : Mark) → P before mark → FirstGood Good (end_state_after rules start (events link side before)) (events_at link side before mark))
    → (before run : List Mark) → AtEachMark TypedMark before run → AtEachMark P before run → Goes rules Good start link side before → Goes rules Good start link side (before ++ run)
each_preserves rules Good good start link side P firsts before [] typed each g = subst (λ (b : List Mark). Goes rules Good start link side b) (sym (append-nil before)) g
each_preserves rules Good good start link side P firsts before (mark ∷ run) typed each g =
    let r = end_state_after rules start (events link side before) in
    let es = events link side before in
    let more = events_at link side before mark in
    let one = mark_goes rules Good good r link side before mark g.bytes typed.0 (firsts before mark each.0) in
    let new : IsBytes (bytes_received link side (before ++ mark ∷ [])) = subst IsBytes (sym (received_one link side before mark)) (bytes_both _ _ g.bytes (fed_bytes_lem link side before mark typed.0)) in
    let next : Goes rules Good start link side (before ++ mark ∷ []) = record {
      bytes = new;
      place = ap (λ (x : List RunEvent). places_after 0 x) (events_one link side before mark) ∙ places_append 0 es more ∙ ap (λ (p : ℕ). places_after p more) g.place ∙ one.1;
      goes = subst (λ (x : List RunEvent). GoesOn rules Good 0 start x) (sym (events_one link side before mark))
          (appended_preserve rules Good 0 start es more g.goes (subst (λ (p : ℕ). GoesOn rules Good p r more) (sym g.place) one.0));
    } in
    subst (λ (b : List Mark). Goes rules Good start link side b) (append_assoc before (mark ∷ []) run) (each_preserves rules Good good start link side P firsts (before ++ mark ∷ []) run typed.1 each.1 next)

pub nothing_preserves : {S : Type 0} (rules : EndMachine S) (Good : EndState S → RunEvent → Type 0) (start : EndState S) (link : ℕ) (side : Side) → Goes rules Good start link side []
unfolding events bytes_received split
nothing_preserves rules Good start link side = record { bytes = λ i. omega arith; place = refl; goes = tt }
