-- The number that a server heard on a matched link is the one that its client was opened with: it says that in its hello.
use Rattle.std.proofs.Common.{◌≡◌, ◌≢◌, ℕ, ◌+◌, ◌-◌, ◌^◌, ◌<◌, ◌≤◌, min, Bool, true, false, not, cond, ◌&&◌, eqb, List, [], ◌∷◌, ◌++◌, length, drop, refl, sym, ap, subst, ◌∙◌, arith, append_assoc, ◌⊎◌, inl, inr, append-nil}
use Rattle.std.proofs.lemmas.Bool.{eqb-true}
use Rattle.std.proofs.Math.Nat.{min-eq_left, min-le_right}
use Rattle.nr_wire.specs.Constants.{HELLO_LEN, UNITS_MAX}
use Rattle.nr_wire.specs.declared.hello.Side.TheVariants.{Initiator, Responder}
use Rattle.nr_wire.specs.declared.stream.Awaited.TheVariants.{Hello as HelloFrom}
use Rattle.nr_wire.specs.Stream.{split}
use Rattle.nr_wire.specs.Terms.{units_byte, terms_flags, number_encoding, terms_key, terms_encoding, terms_in}
use Rattle.nr_wire.proofs.PrivateData.{terms_are_read}
use Rattle.nr_link.specs.declared.agreement.SideTerms.{SideTerms}
use Rattle.nr_link.specs.Agreement.{initiator_private, number_by, client_number}
use Rattle.nr_link.specs.Frames.{Frame, frames_from, frames_of, is_hello}
use Rattle.nr_reduce.specs.declared.call.Outcome.TheVariants as outcomes
use Rattle.nr_reduce.specs.declared.call.Submission.TheVariants as submissions
use Rattle.nr_reduce.specs.declared.mark.LinkParameters.{LinkParameters}
use Rattle.nr_reduce.specs.declared.mark.Mark.{Mark}
use Rattle.nr_reduce.specs.declared.mark.Mark.TheVariants as marks
use Rattle.nr_reduce.specs.Events.{RunEvent, events}
use Rattle.nr_reduce.specs.Events.RunEvent.{FrameReceived, CallSubmitted, MemoryRevoked, CallExecuted, QueueWritten, ServerTold}
use Rattle.nr_reduce.specs.History.{bytes_received}
use Rattle.nr_reduce.specs.Matched.{IsPrefixOf}
use Rattle.nr_reduce.specs.NumberedJournal.{number_in_frames, number_heard}
use Rattle.nr_reduce.specs.Served.{ServedMark, IsExecuted}
use Rattle.nr_reduce.proofs.Conveyed.{payload_conveyed}
use Rattle.nr_laws.specs.MarkAt.{MarkAt}
use Rattle.nr_laws.specs.MatchedSoFar.{MatchedSoFar}
use Rattle.nr_laws.specs.OnceEach.{NumbersAreHeard}
use Rattle.nr_laws.specs.Payloads.{HasPlan}
use Rattle.nr_laws.specs.Typed.{IsTyped}
use Rattle.nr_laws.proofs.Brought.{frames_in, events_frames}
use Rattle.nr_laws.proofs.FirstHellos.{first_hello, client_says}
use Rattle.nr_laws.proofs.Following.{events_more}
use Rattle.nr_laws.proofs.MatchedHellos.{HearHello, server_hears}
use Rattle.nr_laws.proofs.LaterMarks.{mark_later}
use Rattle.nr_laws.proofs.OnceByXid.{at_mark}
use Rattle.nr_laws.proofs.OwnReplies.{executed_replies_are_handed_over}
use Rattle.nr_laws.proofs.RepliedPlans.{replies_have_plans}

-- ---- What a client says

-- units in range have the same byte
units_again : (units : ℕ) → units_byte (units_byte units + 1) ≡ units_byte units
units_again units =
    let byte : ℕ = units_byte units in
    ap (λ (n : ℕ). min n (UNITS_MAX - 1)) (let e : (byte + 1) - 1 ≡ byte = omega arith in e) ∙ min-eq_left (min-le_right (units - 1) (UNITS_MAX - 1))

in_range : (units : ℕ) → units_byte units + 1 ≤ UNITS_MAX
in_range units = omega (arith, min-le_right (units - 1) (UNITS_MAX - 1))

terms_number : (units number : ℕ) (invalidates : Bool) → number < 2 ^ 64 → number_by (terms_in (terms_encoding units number invalidates)) ≡ number
unfolding terms_encoding
terms_number units number invalidates fits =
    let byte : ℕ = units_byte units in
    let same : terms_encoding units number invalidates ≡ terms_encoding (byte + 1) number invalidates =
    ap (λ (b : ℕ). terms_key ++ (terms_flags number invalidates ∷ b ∷ b ∷ []) ++ number_encoding number) (sym (units_again units)) in
    ap (λ (private : List ℕ). number_by (terms_in private)) (same ∙ sym (append-nil (terms_encoding (byte + 1) number invalidates)))
    ∙ ap number_by (terms_are_read (byte + 1) number invalidates [] (omega arith) (in_range units) fits)

said_number : (t : SideTerms) → t.number < 2 ^ 64 → client_number (initiator_private t) ≡ t.number
unfolding initiator_private client_number terms_in
said_number t fits = by (eqb (units_byte t.units) 0) (eqb t.number 0) (not t.invalidates) (eqb-true t.number 0)
  where
    own : List ℕ
    own = terms_encoding t.units t.number t.invalidates

    by : (a b c : Bool) → (b ≡ true → t.number ≡ 0) → number_by (terms_in (cond (a && (b && c)) [] own)) ≡ t.number
    by true true true none = sym (none refl)
    by true true false none = terms_number t.units t.number t.invalidates fits
    by true false c none = terms_number t.units t.number t.invalidates fits
    by false b c none = terms_number t.units t.number t.invalidates fits

-- ---- What a server hears

first_heard : (bytes : List ℕ) (es : List RunEvent) (f : Frame) (fs : List Frame) → HearHello bytes es → frames_in es ≡ f ∷ fs → is_hello f ≡ true → f.bytes ≡ bytes
first_heard bytes [] f fs h e is = absurd cc
first_heard bytes (FrameReceived g ∷ es) f fs h e is = (let same : g ≡ f = cc in ap (λ (x : Frame). x.bytes) (sym same) ∙ h.0 (ap (λ (x : Frame). is_hello x) same ∙ is))
first_heard bytes (CallSubmitted p a ∷ es) f fs h e is = first_heard bytes es f fs h.1 e is
first_heard bytes (MemoryRevoked p xid ∷ es) f fs h e is = first_heard bytes es f fs h.1 e is
first_heard bytes (CallExecuted x ∷ es) f fs h e is = first_heard bytes es f fs h.1 e is
first_heard bytes (QueueWritten taken ∷ es) f fs h e is = first_heard bytes es f fs h.1 e is
first_heard bytes (ServerTold what ∷ es) f fs h e is = first_heard bytes es f fs h.1 e is

frames_are : (link : ℕ) (run : List Mark) → frames_in (events link Responder run) ≡ frames_of Initiator (bytes_received link Responder run)
unfolding frames_of
frames_are link run = events_frames link Responder run

-- the first frame of a stream begins it
stream_number : (opened : LinkParameters) (es : List RunEvent) (frames : List (List ℕ)) → HearHello (first_hello opened Initiator) es → frames_in es ≡ frames_from 0 frames → frames_in es ≢ [] → opened.client.number < 2 ^ 64
    → number_in_frames (frames_from 0 frames) ≡ opened.client.number
stream_number opened es [] h is some fits = absurd (some is)
stream_number opened es (bytes ∷ frames) h is some fits =
    let f : Frame = record { at = 0; end = 0 + length bytes; bytes = bytes } in
    let own : bytes ≡ first_hello opened Initiator = first_heard (first_hello opened Initiator) es f (frames_from (0 + length bytes) frames) h is refl in
    ap (λ (b : List ℕ). client_number (drop HELLO_LEN b)) own ∙ ap client_number (client_says opened) ∙ said_number opened.client fits

pub heard_number : (opened : LinkParameters) (link : ℕ) (run : List Mark) → IsTyped run → MatchedSoFar opened link run → opened.client.number < 2 ^ 64 → frames_in (events link Responder run) ≢ [] → number_heard run link ≡ opened.client.number
unfolding number_heard frames_of
heard_number opened link run typed far fits some =
    stream_number opened (events link Responder run) (split (HelloFrom Initiator) (bytes_received link Responder run)).frames (server_hears opened link run typed far) (frames_are link run) some fits

-- or it heard none
pub heard_or_none : (opened : LinkParameters) (link : ℕ) (run : List Mark) → IsTyped run → MatchedSoFar opened link run → opened.client.number < 2 ^ 64 → (number_heard run link ≡ 0) ⊎ (number_heard run link ≡ opened.client.number)
unfolding number_heard frames_of
heard_or_none opened link run typed far fits = by (split (HelloFrom Initiator) (bytes_received link Responder run)).frames (frames_are link run)
  where
    by : (frames : List (List ℕ)) → frames_in (events link Responder run) ≡ frames_from 0 frames → (number_in_frames (frames_from 0 frames) ≡ 0) ⊎ (number_in_frames (frames_from 0 frames) ≡ opened.client.number)
    by [] is = inl refl
    by (bytes ∷ frames) is =
        inr (stream_number opened (events link Responder run) (bytes ∷ frames) (server_hears opened link run typed far) is (λ none. (let wrong = sym none ∙ is in absurd cc)) fits)

-- ---- A server that executed a call received frames

-- a frame was received among these events
received_some : (xs : List RunEvent) (f : Frame) (ys : List RunEvent) → frames_in (xs ++ FrameReceived f ∷ ys) ≢ []
received_some [] f ys e = absurd cc
received_some (FrameReceived g ∷ xs) f ys e = absurd cc
received_some (CallSubmitted p a ∷ xs) f ys e = received_some xs f ys e
received_some (MemoryRevoked p xid ∷ xs) f ys e = received_some xs f ys e
received_some (CallExecuted x ∷ xs) f ys e = received_some xs f ys e
received_some (QueueWritten taken ∷ xs) f ys e = received_some xs f ys e
received_some (ServerTold what ∷ xs) f ys e = received_some xs f ys e

pub numbers_are_heard : NumbersAreHeard
numbers_are_heard opened link run before xid moment payload place reply typed far fits at =
    let mark : Mark = marks.Execute link xid moment payload place reply in
    let executed : IsExecuted opened link before xid payload = at_mark (ServedMark IsPrefixOf opened link) run before mark at.after at.is far.served refl in
    let was = payload_conveyed opened link before xid payload executed in
    let more = events_more link Responder before (mark ∷ at.after) in
    let all : events link Responder run ≡ was.earlier ++ FrameReceived was.frame ∷ (was.later ++ more.0) =
    ap (λ (r : List Mark). events link Responder r) at.is ∙ more.1 ∙ ap (λ (es : List RunEvent). es ++ more.0) was.is_received ∙ append_assoc was.earlier (FrameReceived was.frame ∷ was.later) more.0 in
    heard_number opened link run typed far fits
    (subst (λ (es : List RunEvent). frames_in es ≢ []) (sym all) (received_some was.earlier was.frame (was.later ++ more.0)))

-- so did one whose reply was handed over
pub replied_number : (opened : LinkParameters) (link : ℕ) (run before : List Mark) (xid : ℕ) (reply : List ℕ) → IsTyped run → MatchedSoFar opened link run → opened.client.number < 2 ^ 64
    → MarkAt run before (marks.Done link xid (outcomes.Reply reply)) → number_heard run link ≡ opened.client.number
replied_number opened link run before xid reply typed far fits done =
    let mark : Mark = marks.Done link xid (outcomes.Reply reply) in
    let p = replies_have_plans opened link run before xid reply typed far done in
    let h = p.1 in
    let submit : Mark = marks.Submit link h.call h.form (submissions.Accepted xid) in
    let at : MarkAt run h.before submit = mark_later run before mark done.after h.before submit done.is h.at in
    let has : HasPlan opened link run xid p.0 = record { call = h.call; form = h.form; before = h.before; at = at; planned = h.planned } in
    let r = executed_replies_are_handed_over opened link run before xid p.0 reply typed far has done in
    let execute : Mark = marks.Execute link xid r.moment r.payload r.place reply in
    let there : MarkAt run r.before execute = mark_later run before mark done.after r.before execute done.is r.at in
    numbers_are_heard opened link run r.before xid r.moment r.payload r.place reply typed far fits there
