-- Once a link is open each side has the hello of the other, and the server the number of the client.
use Rattle.std.specs.Prelude.{◌-◌, ◌&&◌, ◌≤◌, if◌then◌else◌, ◌==◌, not}
use Rattle.std.specs.List.{AllByRecursion}
use Rattle.std.proofs.Common.{◌≡◌, ◌≢◌, ℕ, ◌+◌, arith, eqb-true, Bool, true, false, List, [], ◌∷◌, ◌++◌, length, map, take, drop, Option, None, refl, sym, ap, subst, ◌∙◌, append-nil, append_assoc, ◌^◌, ◌<◌}
use Rattle.std.proofs.lemmas.List.{take_all}
use Rattle.std.proofs.lemmas.Grind.{flat_map-append}
use Rattle.nr_wire.specs.declared.hello.Side.{Side}
use Rattle.nr_wire.specs.declared.hello.Side.TheVariants.{Initiator, Responder}
use Rattle.nr_wire.specs.declared.stream.Awaited.TheVariants.{Hello as HelloFrom, Fpdu}
use Rattle.nr_wire.specs.Stream.{Split, split}
use Rattle.nr_wire.proofs.Splits.{split_frame}
use Rattle.nr_link.specs.declared.end.End.{End}
use Rattle.nr_link.specs.Frames.{Frame, frames_from, frames_of, frames_completed}
use Rattle.nr_reduce.specs.Hellos.{client_hello, server_hello}
use Rattle.nr_reduce.specs.declared.mark.Mark.{Mark}
use Rattle.nr_reduce.specs.declared.mark.Mark.TheVariants as marks
use Rattle.nr_reduce.specs.declared.mark.LinkParameters.{LinkParameters}
use Rattle.nr_reduce.specs.History.{bytes_received, fed_at, is_dropped}
use Rattle.nr_reduce.specs.Events.{RunEvent, events_at, events}
use Rattle.nr_reduce.specs.Events.RunEvent.{FrameReceived}
use Rattle.nr_reduce.specs.EndRules.{EndState, end_state_after, output_for_all, output_for_by, output_for_in, next_end_state}
use Rattle.nr_reduce.specs.ServerState.{ServerState}
use Rattle.nr_reduce.specs.Client.{client_rules, initial_client}
use Rattle.nr_reduce.specs.Server.{server_rules, server_end, server_output}
use Rattle.nr_reduce.specs.Run.{client, server, output_due}
use Rattle.nr_reduce.proofs.Steps.{server_one, output_due_down_one}
use Rattle.nr_reduce.proofs.Standing.{itself, received_one}
use Rattle.nr_laws.proofs.Brought.{IsHelloFrame}
use Rattle.nr_laws.proofs.FirstHellos.{client_hello_is, server_hello_is, client_says}
use Rattle.nr_laws.proofs.ServerEnds.{hello_goes}
use Rattle.nr_drill.specs.Drill.{link_of, Setting, Drill, Pipes, pipes_of, settled, after_feeding, after_feeding_up, after_feeding_down, after_outcomes, after_up, after_down, after_opening, after_resends, resend_mark}
use Rattle.nr_drill.proofs.Lawful.{IsLawful, NoneAgain, lawful_settled, lawful_after_up}
use Rattle.nr_drill.proofs.Followed.{Extends, no_event, down_adds}
use Rattle.nr_drill.proofs.Carried.{Carries, carry_settled, carries_up, same_here, same_received}
use Rattle.nr_drill.proofs.LessWork.{leaves_through, settled_leaves, own, no_drop, same_due_down}
use Rattle.nr_drill.proofs.LessFrames.{frames_one, completed_is, still_heard}
use Rattle.nr_drill.proofs.LessDown.{all_written_lem, outcomes_leave}
use Rattle.nr_reduce.specs.ClientState.{WaitingCall}
use Rattle.nr_reduce.specs.SubmitAnswer.{calls_to_resend}
use Rattle.nr_reduce.specs.NumberedJournal.{number_in_frames, number_heard}
use Rattle.nr_link.specs.declared.agreement.SideTerms.{SideTerms}
use Rattle.nr_wire.specs.declared.terms.Terms.{Terms}
use Rattle.nr_link.specs.Agreement.{initiator_private, client_number, number_by}
use Rattle.nr_wire.specs.Constants.{UNITS_MAX}
use Rattle.nr_wire.specs.Terms.{units_byte, terms_encoding, terms_in}
use Rattle.nr_wire.proofs.PrivateData.{terms_are_read}
use Rattle.nr_drill.specs.Unnumbered.{Heard}

-- ===== each side has the hello of the other

received_both : (link : ℕ) (side : Side) (run more : List Mark) → bytes_received link side (run ++ more) ≡ bytes_received link side run ++ bytes_received link side more
unfolding bytes_received
received_both link side run more = flat_map-append (fed_at link side) run more

-- the first frame stays
first_number : (fs gs : List Frame) → fs ≢ [] → number_in_frames (fs ++ gs) ≡ number_in_frames fs
first_number [] gs some = absurd (some refl)
first_number (f ∷ fs) gs some = refl

pub number_more : (link : ℕ) (run more : List Mark) → frames_of Initiator (bytes_received link Responder run) ≢ [] → number_heard (run ++ more) link ≡ number_heard run link
unfolding number_heard
number_more link run more some =
    let old = bytes_received link Responder run in
    let new = bytes_received link Responder more in
    ap (λ (xs : List ℕ). number_in_frames (frames_of Initiator xs)) (received_both link Responder run more)
    ∙ ap (λ (fs : List Frame). number_in_frames fs) (frames_one Initiator old new) ∙ first_number (frames_of Initiator old) (frames_completed Initiator old new) some

pub heard_more : (o : LinkParameters) (link : ℕ) (run more : List Mark) → Heard o link run → Heard o link (run ++ more)
heard_more o link run more h = record {
  client = subst (λ (xs : List ℕ). frames_of Responder xs ≢ []) (sym (received_both link Initiator run more)) (still_heard Responder (bytes_received link Initiator run) (bytes_received link Initiator more) h.client);
  server = subst (λ (xs : List ℕ). frames_of Initiator xs ≢ []) (sym (received_both link Responder run more)) (still_heard Initiator (bytes_received link Responder run) (bytes_received link Responder more) h.server);
  number = number_more link run more h.server ∙ h.number;
}

pub heard_by_lem : (o : LinkParameters) (link acted : ℕ) (old new : Drill) → Extends acted old new → Heard o link old.marks → Heard o link new.marks
heard_by_lem o link acted old new x h = subst (Heard o link) (sym x.marks.is) (heard_more o link old.marks x.marks.added h)

-- ===== the hello is one frame

hello_frame : List ℕ → Frame
hello_frame hello = record { at = 0; end = 0 + length hello; bytes = hello }

split_none : (side : Side) → (split Fpdu []).frames ≡ []
unfolding split
split_none side = refl

none_framed : (side : Side) → frames_of side [] ≡ []
unfolding frames_of split
none_framed side = refl

hello_frames : (side : Side) (hello : List ℕ) → IsHelloFrame side hello → frames_of side hello ≡ hello_frame hello ∷ []
unfolding frames_of hello_frame
hello_frames side hello read =
    ap (λ (xs : List ℕ). frames_from 0 (split (HelloFrom side) xs).frames) (sym (append-nil hello))
    ∙ ap (λ (s : Split). frames_from 0 s.frames) (split_frame (HelloFrom side) hello [] read.is_frame)
    ∙ ap (λ (fs : List (List ℕ)). frames_from 0 (hello ∷ fs)) (split_none side)

some_frame : (f : Frame) (fs more : List Frame) → fs ≡ f ∷ more → fs ≢ []
some_frame f [] more e = absurd cc
some_frame f (x ∷ fs) more e = λ none. absurd cc

begins_heard : (side : Side) (hello stream more : List ℕ) → IsHelloFrame side hello → stream ≡ hello ++ more → frames_of side stream ≢ []
begins_heard side hello stream more read is =
    subst (λ (xs : List ℕ). frames_of side xs ≢ []) (sym is) (still_heard side hello more (some_frame (hello_frame hello) (frames_of side hello) [] (hello_frames side hello read)))

-- the first frame of the client that a server receives
first_completed : (hello piece more : List ℕ) → IsHelloFrame Initiator hello → piece ≡ hello ++ more → (fs : List Frame) × (frames_completed Initiator [] piece ≡ hello_frame hello ∷ fs)
first_completed hello piece more read is =
    let fs = frames_completed Initiator hello more in (
      fs,
      completed_is Initiator [] piece
          ∙ ap (λ (old : List Frame). drop (length old) (frames_of Initiator piece)) (none_framed Initiator)
          ∙ ap (λ (xs : List ℕ). frames_of Initiator xs) is ∙ frames_one Initiator hello more ∙ ap (λ (old : List Frame). old ++ fs) (hello_frames Initiator hello read),
    )

-- ===== the number that it says

own_number : (t : SideTerms) → 1 ≤ t.units → t.units ≤ UNITS_MAX → t.number < 2 ^ 64 → client_number (initiator_private t) ≡ t.number
unfolding initiator_private client_number terms_in
own_number t some few small = by (units_byte t.units == 0) (t.number == 0) refl (not t.invalidates)
  where
    encoded : List ℕ
    encoded = terms_encoding t.units t.number t.invalidates

    said : number_by (terms_in encoded) ≡ t.number
    said = ap (λ (bytes : List ℕ). number_by (terms_in bytes)) (sym (append-nil encoded)) ∙ ap (λ (terms : Option Terms). number_by terms) (terms_are_read t.units t.number t.invalidates [] some few small)

    by : (a b : Bool) → t.number == 0 ≡ b → (c : Bool) → number_by (terms_in (if a && (b && c) then [] else encoded)) ≡ t.number
    by true true is true = sym (eqb-true t.number 0 is)
    by true true is false = said
    by true false is c = said
    by false b is c = said

-- what the units and the number of a client are in range for
abbrev pub AreTerms : SideTerms → Type 0
AreTerms t = (1 ≤ t.units) × (t.units ≤ UNITS_MAX) × (t.number < 2 ^ 64)

hello_number : (o : LinkParameters) (more : List ℕ) → AreTerms o.client → number_in_frames (frames_of Initiator (client_hello o ++ more)) ≡ o.client.number
unfolding hello_frame
hello_number o more terms =
    let hello = client_hello o in
    ap (λ (fs : List Frame). number_in_frames fs) (frames_one Initiator hello more ∙ ap (λ (fs : List Frame). fs ++ frames_completed Initiator hello more) (hello_frames Initiator hello (client_hello_is o)))
    ∙ ap (λ (private : List ℕ). client_number private) (client_says o) ∙ own_number o.client terms.0 terms.1 terms.2

-- a server answers it with its own, whatever else it knows
answers_hello : (o : LinkParameters) (hello : List ℕ) (r : EndState ServerState) (es : List RunEvent) → IsHelloFrame Initiator hello → r.ended ≡ None →
    (more : List ℕ) × (output_for_all (server_rules o) r (FrameReceived (hello_frame hello) ∷ es) ≡ server_hello o (hello_frame hello) ++ more)
unfolding server_output hello_frame
answers_hello o hello r es read lives =
    let event = FrameReceived (hello_frame hello) in
    let more = output_for_all (server_rules o) (next_end_state (server_rules o) r event) es in
    let goes : server_end o r.state event ≡ None = hello_goes o r.state (hello_frame hello) refl read in (
      more,
      ap (λ (xs : List ℕ). xs ++ more)
          (ap (λ (e : Option End). output_for_in (server_rules o) r.state event e) lives
          ∙ ap (λ (e : Option End). output_for_by (server_rules o) r.state event e) goes),
    )

client_begins_lem : (o : LinkParameters) (link : ℕ) (run : List Mark) → (more : List ℕ) × (output_due o link Initiator run ≡ client_hello o ++ more)
unfolding output_due
client_begins_lem o link run = (output_for_all (client_rules o) (initial_client o) (events link Initiator run), refl)

-- ===== a link opens

-- nothing happened yet at the server
pub record Fresh (o : LinkParameters) (link : ℕ) (run : List Mark) : Type 0 where
  pub got : bytes_received link Responder run ≡ []
  pub lives : (server o link run).ended ≡ None
  pub due : output_due o link Responder run ≡ []

pub start_fresh : (o : LinkParameters) (link : ℕ) → Fresh o link []
unfolding bytes_received server output_due events
start_fresh o link = record { got = refl; lives = refl; due = refl }

server_elsewhere : (o : LinkParameters) (link other : ℕ) (run added : List Mark) → other ≢ link → AllByRecursion (λ (mark : Mark). link_of mark ≡ other) added →
    (server o link (run ++ added) ≡ server o link run) × (output_due o link Responder (run ++ added) ≡ output_due o link Responder run)
server_elsewhere o link other run [] ne own = (ap (λ (r : List Mark). server o link r) (append-nil run), ap (λ (r : List Mark). output_due o link Responder r) (append-nil run))
server_elsewhere o link other run (mark ∷ added) ne own =
    let from : link_of mark ≢ link = (λ same. ne (sym own.0 ∙ same)) in
    let none = no_event link Responder run mark from in
    let rest = server_elsewhere o link other (run ++ mark ∷ []) added ne own.1 in (
      ap (λ (r : List Mark). server o link r) (sym (append_assoc run (mark ∷ []) added)) ∙ rest.0 ∙ server_one o link run mark ∙ ap (λ (es : List RunEvent). end_state_after (server_rules o) (server o link run) es) none,
      ap (λ (r : List Mark). output_due o link Responder r) (sym (append_assoc run (mark ∷ []) added)) ∙ rest.1 ∙ same_due_down o link run mark [] none refl,
    )

pub fresh_elsewhere : (o : LinkParameters) (link other : ℕ) (old new : Drill) → other ≢ link → Extends other old new → Fresh o link old.marks → Fresh o link new.marks
fresh_elsewhere o link other old new ne x h =
    let same = server_elsewhere o link other old.marks x.marks.added ne x.marks.own in
    subst (Fresh o link) (sym x.marks.is) (record {
      got = (same_here link other old.marks x.marks.added ne x.marks.own).received Responder ∙ h.got;
      lives = ap (λ (r : EndState ServerState). r.ended) same.0 ∙ h.lives;
      due = same.1 ∙ h.due;
    })

-- no mark is of the link
pub fresh_all : (o : LinkParameters) (link : ℕ) (before added : List Mark) → AllByRecursion (λ (mark : Mark). link_of mark ≢ link) added → Fresh o link before → Fresh o link (before ++ added)
fresh_all o link before [] apart h = subst (Fresh o link) (sym (append-nil before)) h
fresh_all o link before (mark ∷ added) apart h =
    let same = server_elsewhere o link (link_of mark) before (mark ∷ []) apart.0 (refl, tt) in
    let here = same_here link (link_of mark) before (mark ∷ []) apart.0 (refl, tt) in
    subst (Fresh o link) (append_assoc before (mark ∷ []) added)
    (fresh_all o link (before ++ mark ∷ []) added apart.1 (record {
      got = here.received Responder ∙ h.got;
      lives = ap (λ (r : EndState ServerState). r.ended) same.0 ∙ h.lives;
      due = same.1 ∙ h.due;
    }))

fed_got : (link : ℕ) (side : Side) (piece : List ℕ) (rest : Pipes) (d : Drill) → bytes_received link side (after_feeding link side piece rest d).marks ≡ bytes_received link side d.marks ++ piece
fed_got link side [] rest d = sym (append-nil (bytes_received link side d.marks))
fed_got link Initiator (b ∷ piece) rest d =
    received_one link Initiator d.marks (marks.Fed link Initiator (b ∷ piece)) ∙ ap (λ (xs : List ℕ). bytes_received link Initiator d.marks ++ xs) (ap (λ (t : Bool). if t && true then b ∷ piece else []) (itself link))
fed_got link Responder (b ∷ piece) rest d =
    received_one link Responder d.marks (marks.Fed link Responder (b ∷ piece)) ∙ ap (λ (xs : List ℕ). bytes_received link Responder d.marks ++ xs) (ap (λ (t : Bool). if t && true then b ∷ piece else []) (itself link))

fed_standing : (link : ℕ) (side : Side) (piece : List ℕ) (rest : Pipes) (d : Drill) → is_dropped link (after_feeding link side piece rest d).marks ≡ is_dropped link d.marks
fed_standing link side [] rest d = refl
fed_standing link side (b ∷ piece) rest d = no_drop link d.marks (marks.Fed link side (b ∷ piece)) refl

-- what is due to the server of the link once it is fed the client's hello
fed_due : (o : LinkParameters) (link : ℕ) (piece more : List ℕ) (rest : Pipes) (d : Drill) → piece ≡ client_hello o ++ more → Fresh o link d.marks →
    (left : List ℕ) × (output_due o link Responder (after_feeding link Responder piece rest d).marks ≡ server_hello o (hello_frame (client_hello o)) ++ left)
fed_due o link [] more rest d is h = absurd (begins_heard Initiator (client_hello o) [] more (client_hello_is o) is (none_framed Initiator))
fed_due o link (b ∷ piece) more rest d is h =
    let run = d.marks in
    let all = b ∷ piece in
    let mark = marks.Fed link Responder all in
    let first = first_completed (client_hello o) all more (client_hello_is o) is in
    let events_are : events_at link Responder run mark ≡ FrameReceived (hello_frame (client_hello o)) ∷ map FrameReceived first.0 =
    own link (map FrameReceived (frames_completed Initiator (bytes_received link Responder run) all))
    ∙ ap (λ (got : List ℕ). map FrameReceived (frames_completed Initiator got all)) h.got ∙ ap (λ (fs : List Frame). map FrameReceived fs) first.1 in
    let answer = answers_hello o (client_hello o) (server o link run) (map FrameReceived first.0) (client_hello_is o) h.lives in (
      answer.0,
      output_due_down_one o link run mark
          ∙ (λ i. h.due i ++ output_for_all (server_rules o) (server o link run) (events_are i))
          ∙ answer.1,
    )

-- calls that are sent again bring no side anything
resends_received : (link : ℕ) (side : Side) (ws : List WaitingCall) (run : List Mark) → bytes_received link side (run ++ map (resend_mark link) ws) ≡ bytes_received link side run
resends_received link side [] run = ap (λ (all : List Mark). bytes_received link side all) (append-nil run)
resends_received link side (w ∷ ws) run =
    ap (λ (all : List Mark). bytes_received link side all) (sym (append_assoc run (resend_mark link w ∷ []) (map (resend_mark link) ws)))
    ∙ resends_received link side ws (run ++ resend_mark link w ∷ []) ∙ same_received link side run (resend_mark link w) refl

-- Once a link is open each side has the hello of the other.
pub opening_heard : (s : Setting) (link : ℕ) (d : Drill) → AreTerms (s.opened link).client → NoneAgain (s.opened link) link d.marks → IsLawful (s.opened link) link d.marks → is_dropped link d.marks ≡ false → Carries link d →
    Fresh (s.opened link) link d.marks → Heard (s.opened link) link (after_opening s link d).marks
unfolding after_opening after_up after_down after_resends number_heard
opening_heard s link d terms none h standing c fresh =
    let o = s.opened link in
    let one = settled s link d in
    let l_one = settled_leaves s o link d in
    let k_one = lawful_settled s link d none h in
    let c_one = carry_settled s link d standing c in
    let stands_one : is_dropped link one.marks ≡ false = l_one.dropped ∙ standing in
    let fresh_one : Fresh o link one.marks = record { got = l_one.got ∙ fresh.got; lives = l_one.server_end ∙ fresh.lives; due = l_one.due_down ∙ fresh.due } in
    let up = (pipes_of link one).up in
    let n = length up in
    let fed = after_feeding_up link n one in
    let rest : Pipes = record (pipes_of link one) { up = drop n up } in
    let two = settled s link fed in
    let l_two = settled_leaves s o link fed in
    let k_two = lawful_after_up s link n one k_one in
    let c_two = carries_up s link n one k_one c_one in
    let stands_two : is_dropped link two.marks ≡ false = l_two.dropped ∙ fed_standing link Responder (take n up) rest one ∙ stands_one in
    let begins = client_begins_lem o link one.marks in
    let sent : bytes_received link Responder one.marks ++ up ≡ client_hello o ++ begins.0 = (c_one.carried stands_one).up ∙ (all_written_lem s link one k_one).0 ∙ begins.1 in
    let whole : take n up ≡ up = take_all n up (omega arith) in
    let piece : take n up ≡ client_hello o ++ begins.0 = whole ∙ ap (λ (got : List ℕ). got ++ up) (sym fresh_one.got) ∙ sent in
    let got_two : bytes_received link Responder two.marks ≡ client_hello o ++ begins.0 =
    l_two.got ∙ fed_got link Responder (take n up) rest one ∙ ap (λ (xs : List ℕ). bytes_received link Responder one.marks ++ xs) whole ∙ sent in
    let due = fed_due o link (take n up) begins.0 rest one piece fresh_one in
    let down = (pipes_of link two).down in
    let m = length down in
    let fed_two = after_feeding_down link m two in
    let rest_two : Pipes = record (pipes_of link two) { down = drop m down } in
    let again = calls_to_resend (client o link fed_two.marks) in
    let sent_two : Drill = record fed_two { marks = fed_two.marks ++ map (resend_mark link) again } in
    let last = settled s link (after_outcomes s link sent_two) in
    let l_last = leaves_through o link sent_two.marks (after_outcomes s link sent_two).marks last.marks (outcomes_leave s o link sent_two) (settled_leaves s o link (after_outcomes s link sent_two)) in
    let got_last : bytes_received link Initiator last.marks ≡ server_hello o (hello_frame (client_hello o)) ++ due.0 =
    l_last.heard ∙ resends_received link Initiator again fed_two.marks
    ∙ fed_got link Initiator (take m down) rest_two two ∙ ap (λ (xs : List ℕ). bytes_received link Initiator two.marks ++ xs) (take_all m down (omega arith))
    ∙ (c_two.carried stands_two).down ∙ (all_written_lem s link two k_two).1 ∙ l_two.due_down ∙ due.1 in
    let extends = down_adds s link m two in
    let server_two : frames_of Initiator (bytes_received link Responder two.marks) ≢ [] = begins_heard Initiator (client_hello o) (bytes_received link Responder two.marks) begins.0 (client_hello_is o) got_two in
    let number_two : number_heard two.marks link ≡ o.client.number = ap (λ (xs : List ℕ). number_in_frames (frames_of Initiator xs)) got_two ∙ hello_number o begins.0 terms in
    record {
      client = begins_heard Responder (server_hello o (hello_frame (client_hello o))) (bytes_received link Initiator last.marks) due.0 (server_hello_is o (hello_frame (client_hello o))) got_last;
      server = subst (λ (run : List Mark). frames_of Initiator (bytes_received link Responder run) ≢ []) (sym extends.marks.is)
          (subst (λ (xs : List ℕ). frames_of Initiator xs ≢ []) (sym (received_both link Responder two.marks extends.marks.added)) (still_heard Initiator (bytes_received link Responder two.marks) (bytes_received link Responder extends.marks.added) server_two));
      number = ap (λ (run : List Mark). number_heard run link) extends.marks.is ∙ number_more link two.marks extends.marks.added server_two ∙ number_two;
    }
