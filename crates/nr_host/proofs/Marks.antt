-- One mark more of a connection.
use Rattle.std.proofs.Common.{◌≡◌, ◌≢◌, ℕ, ◌+◌, arith, List, [], ◌∷◌, ◌++◌, length, Option, Some, None, refl, sym, ap, subst, ◌∙◌, append_assoc, append-nil}
use Rattle.std.specs.Prelude.{map}
use Rattle.std.proofs.lemmas.List.{length-append}
use Rattle.nr_outside.specs.Content.{HandsOut}
use Rattle.nr_outside.proofs.Moves.{HandsOut_append}
use Rattle.nr_outside.specs.declared.moment.Moment.{Moment}
use Rattle.nr_links.specs.Moments.{Gives}
use Rattle.nr_wire.specs.declared.hello.Side.TheVariants.{Responder}
use Rattle.nr_reduce.specs.declared.mark.Mark.{Mark}
use Rattle.nr_reduce.specs.declared.mark.Mark.TheVariants as marks
use Rattle.nr_reduce.specs.declared.mark.LinkParameters.{LinkParameters}
use Rattle.nr_reduce.specs.declared.mark.Told.TheVariants.{Old}
use Rattle.nr_reduce.specs.History.{bytes_sent, bytes_received, fed_at, written_at}
use Rattle.nr_reduce.specs.NumberedJournal.{number_heard}
use Rattle.nr_reduce.specs.Matched.{IsPrefixOf}
use Rattle.nr_reduce.specs.Run.{output_due}
use Rattle.nr_reduce.specs.Served.{IsExecuted, ServedMark, last_frame_at, next_call}
use Rattle.nr_reduce.proofs.Standing.{AtEachMark_more, itself, one_more, received_one, sent_one}
use Rattle.nr_plain.specs.History.{Answered, OnlyOthersAdded, PassView, xid_in}
use Rattle.nr_host.specs.Connections.{Outside, Runs, SinkState, Takes, IsOwn, QuietMark, FrameMark, WriteMark, GivesAll, handled_by, handled_in, IsOpenedWith}
use Rattle.nr_host.specs.Steps.{AllQuiet, outside}
use Rattle.nr_host.specs.Turns.{Handled, Taken, Turn, given_for, handled_at}
use Rattle.nr_host.specs.Turns.Turn.{Answers, Refuses}
use Rattle.nr_host.proofs.Numbers.{frames_received, frames_same, number_fed, number_same, some_fed}
use Rattle.nr_host.proofs.Sinks.{TakesMore}
use Rattle.nr_host.proofs.Turning.{given_one, handled_one, taken_answered, taken_by, taken_others, taken_refused, AnswersEach, FindsOld}
use Rattle.nr_host.specs.declared.connection_limits.ConnectionLimits.{ConnectionLimits}

-- ---- Lists of one mark more

gives_more : (before now after : Option (List Moment)) (given : List Moment) (moment : Moment) → GivesAll before now given → Gives now after moment → GivesAll before after (given ++ moment ∷ [])
gives_more before now None given moment all one = tt
gives_more before now (Some after) given moment all one =
    let (earlier, known, is) = one in
    let all' : GivesAll before (Some earlier) given = subst (λ (o : Option (List Moment)). GivesAll before o given) known all in
    let (first, begun, all_is) = all' in
    (first, begun, is ∙ ap (λ (l : List Moment). l ++ moment ∷ []) all_is ∙ append_assoc first given (moment ∷ []))

pub handled_more : (run : List Mark) (mark : Mark) → handled_in (run ++ mark ∷ []) ≡ handled_in run ++ handled_by mark
unfolding handled_in
handled_more run mark = one_more handled_by run mark

-- ---- The turns so far, with one mark more

-- what a connection's marks say of its turns
record HasTurns (link : ℕ) (before after : PassView) (run : List Mark) : Type 0 where
  turns : List Turn
  handled : map handled_at turns ≡ handled_in run
  over : Taken (number_heard run link) before turns after
  greeted : turns ≢ [] → frames_received link run ≢ []

-- a mark at which no turn is taken and nothing is fed
same_turns : (link : ℕ) (before after : PassView) (run : List Mark) (mark : Mark) → fed_at link Responder mark ≡ [] → handled_by mark ≡ [] → HasTurns link before after run → HasTurns link before after (run ++ mark ∷ [])
same_turns link before after run mark fed none h = record {
  turns = h.turns;
  handled = h.handled ∙ sym (handled_more run mark ∙ ap (λ (calls : List Handled). handled_in run ++ calls) none ∙ append-nil (handled_in run));
  over = subst (λ (n : ℕ). Taken n before h.turns after) (sym (number_same link run mark fed)) h.over;
  greeted = λ some unfed. h.greeted some (sym (frames_same link run mark fed) ∙ unfed);
}

-- a piece
fed_turns : (link : ℕ) (before after : PassView) (run : List Mark) (piece : List ℕ) → fed_at link Responder (marks.Fed link Responder piece) ≡ piece → HasTurns link before after run → HasTurns link before after (run ++ marks.Fed link Responder piece ∷ [])
fed_turns link before after run piece fed h = record {
  turns = h.turns;
  handled = h.handled ∙ sym (handled_more run mark ∙ append-nil (handled_in run));
  over = by h.turns h.over h.greeted;
  greeted = λ some. some_fed link run mark piece fed (h.greeted some);
}
  where
    mark : Mark
    mark = marks.Fed link Responder piece

    by : (turns : List Turn) → Taken (number_heard run link) before turns after → (turns ≢ [] → frames_received link run ≢ []) → Taken (number_heard (run ++ mark ∷ []) link) before turns after
    by [] over greeted = taken_by (number_heard run link) (number_heard (run ++ mark ∷ []) link) before after over
    by (t ∷ turns) over greeted =
        subst (λ (n : ℕ). Taken n before (t ∷ turns) after) (sym (number_fed link run mark piece fed (greeted (λ none. absurd (let two : t ∷ turns ≡ [] = none in cc))))) over

-- a turn that is taken at a mark
turn_taken : (link : ℕ) (before now after : PassView) (run : List Mark) (mark : Mark) (t : Turn) → fed_at link Responder mark ≡ [] → handled_at t ∷ [] ≡ handled_by mark → frames_received link run ≢ []
    → (h : HasTurns link before now run) → Taken (number_heard run link) before (h.turns ++ t ∷ []) after → HasTurns link before after (run ++ mark ∷ [])
turn_taken link before now after run mark t fed handles some h over = record {
  turns = h.turns ++ t ∷ [];
  handled = handled_one h.turns t ∙ (λ i. h.handled i ++ handles i) ∙ sym (handled_more run mark);
  over = subst (λ (n : ℕ). Taken n before (h.turns ++ t ∷ []) after) (sym (number_same link run mark fed)) over;
  greeted = λ other none. some (sym (frames_same link run mark fed) ∙ none);
}

turns_of : (limits : ConnectionLimits) (read link : ℕ) (before after : Outside) (ahead : List ℕ) (more : List Moment) (run : List Mark) → Runs limits read link before after ahead more run → HasTurns link before.view after.view run
turns_of limits read link before after ahead more run r = record { turns = r.turns; handled = r.handled; over = r.over; greeted = r.greeted }

-- ---- One mark more

-- A turn is taken: a mark at which nothing is fed or written says so.
took : (limits : ConnectionLimits) (read link : ℕ) (before : Outside) (left given : Option (List ℕ)) (sink : SinkState) (gave gave' : Option (List Moment)) (view view' : PassView)
    (ahead : List ℕ) (run : List Mark) (mark : Mark) (t : Turn) → IsOwn link mark → fed_at link Responder mark ≡ [] → written_at link Responder mark ≡ []
    → handled_at t ∷ [] ≡ handled_by mark → frames_received link run ≢ []
    → (r : Runs limits read link before (outside left given sink gave view) ahead [] run)
    → ((opened : LinkParameters) → IsOpenedWith limits opened → ServedMark IsPrefixOf opened link run mark)
    → ((opened : LinkParameters) → QuietMark opened link run mark × (WriteMark opened link run mark × FrameMark opened link run mark))
    → Gives gave gave' (given_for t)
    → Taken (number_heard run link) before.view (r.turns ++ t ∷ []) view'
    → Runs limits read link before (outside left given sink gave' view') ahead [] (run ++ mark ∷ [])
unfolding turn_taken turns_of
took limits read link before left given sink gave gave' view view' ahead run mark t own fed written handles some r serves others gives over =
    let turns = turn_taken link before.view view view' run mark t fed handles some (turns_of limits read link before (outside left given sink gave view) ahead [] run r) over in
    let received : bytes_received link Responder (run ++ mark ∷ []) ≡ bytes_received link Responder run =
    received_one link Responder run mark ∙ ap (λ (bytes : List ℕ). bytes_received link Responder run ++ bytes) fed ∙ append-nil (bytes_received link Responder run) in
    record {
      own = AtEachMark_more (λ earlier m. IsOwn link m) [] run mark r.own own;
      handed = subst (λ (bytes : List ℕ). HandsOut before.left before.given left given (bytes ++ ahead)) (sym received) r.handed;
      taken = subst (λ (bytes : List ℕ). Takes before.sink sink bytes)
          (sym (sent_one link Responder run mark ∙ ap (λ (bytes : List ℕ). bytes_sent link Responder run ++ bytes) written ∙ append-nil (bytes_sent link Responder run))) r.taken;
      served = λ opened same. AtEachMark_more (ServedMark IsPrefixOf opened link) [] run mark (r.served opened same) (serves opened same);
      quiet = λ opened same. AtEachMark_more (QuietMark opened link) [] run mark (r.quiet opened same) (others opened).0;
      writes = λ opened same. AtEachMark_more (WriteMark opened link) [] run mark (r.writes opened same) (others opened).1.0;
      frames = λ opened same. AtEachMark_more (FrameMark opened link) [] run mark (r.frames opened same) (others opened).1.1;
      turns = turns.turns;
      handled = turns.handled;
      over = turns.over;
      greeted = turns.greeted;
      gave = subst (λ (ms : List Moment). GivesAll before.gave gave' ms)
          (sym (append-nil (map given_for (r.turns ++ t ∷ [])) ∙ given_one r.turns t))
          (gives_more before.gave gave gave' (map given_for r.turns) (given_for t)
          (subst (λ (ms : List Moment). GivesAll before.gave gave ms) (append-nil (map given_for r.turns)) r.gave) gives);
      count = ap (λ (l : List ℕ). length l + length ahead) received ∙ r.count;
    }

-- a call is answered
pub executed : (limits : ConnectionLimits) (read link : ℕ) (before : Outside) (left given : Option (List ℕ)) (sink : SinkState) (gave gave' : Option (List Moment)) (view view' : PassView)
    (ahead : List ℕ) (run : List Mark) (client xid place : ℕ) (now moment : Moment) (payload reply : List ℕ)
    → Runs limits read link before (outside left given sink gave view) ahead [] run
    → ((opened : LinkParameters) → IsOpenedWith limits opened → IsExecuted opened link run xid payload)
    → client ≡ number_heard run link → frames_received link run ≢ []
    → Gives gave gave' now
    → AnswersEach view view' client now moment payload reply place
    → Runs limits read link before (outside left given sink gave' view') ahead [] (run ++ marks.Execute link xid moment payload place reply ∷ [])
executed limits read link before left given sink gave gave' view view' ahead run client xid place now moment payload reply r executes own some gives done =
    let a : Answered = record { moment = moment; payload = payload; place = place; reply = reply } in
    took limits read link before left given sink gave gave' view view' ahead run (marks.Execute link xid moment payload place reply) (Answers now a) refl refl refl refl some r
    (λ opened same l. executes opened same) (λ opened. (tt, (tt, tt))) gives
    (subst (λ (n : ℕ). Taken n before.view (r.turns ++ Answers now a ∷ []) view') own
    (taken_answered before.view view view' client now moment payload reply place r.turns (subst (λ (n : ℕ). Taken n before.view r.turns view) (sym own) r.over) done))

-- a call is refused, since it is old
pub refused : (limits : ConnectionLimits) (read link : ℕ) (before : Outside) (left given : Option (List ℕ)) (sink : SinkState) (gave gave' : Option (List Moment)) (view view' : PassView)
    (ahead : List ℕ) (run : List Mark) (client xid : ℕ) (now : Moment) (payload : List ℕ)
    → Runs limits read link before (outside left given sink gave view) ahead [] run
    → ((opened : LinkParameters) → IsOpenedWith limits opened → IsExecuted opened link run xid payload)
    → xid ≡ xid_in payload
    → client ≡ number_heard run link → frames_received link run ≢ []
    → Gives gave gave' now
    → client ≢ 0 → FindsOld view view' client payload
    → Runs limits read link before (outside left given sink gave' view') ahead [] (run ++ marks.Told link (Old xid (last_frame_at link run)) ∷ [])
refused limits read link before left given sink gave gave' view view' ahead run client xid now payload r executes of own some gives numbered old =
    let over : Taken (number_heard run link) before.view (r.turns ++ Refuses now xid ∷ []) view' =
    subst (λ (n : ℕ). Taken n before.view (r.turns ++ Refuses now xid ∷ []) view') own
    (taken_refused before.view view view' client now xid payload r.turns of (subst (λ (n : ℕ). Taken n before.view r.turns view) (sym own) r.over) old) in
    took limits read link before left given sink gave gave' view view' ahead run (marks.Told link (Old xid (last_frame_at link run))) (Refuses now xid) refl refl refl refl some r
    (λ opened same l.
    let x = executes opened same in
    record { call = x.call; is_next = x.is_next; own = x.own; numbered = λ none. numbered (own ∙ none); last = refl })
    (λ opened. (tt, (tt, tt))) gives over

-- a moment was given, and no call executed
pub given_alone : (limits : ConnectionLimits) (read link : ℕ) (before : Outside) (left given : Option (List ℕ)) (sink : SinkState) (gave gave' : Option (List Moment)) (view view' : PassView)
    (ahead : List ℕ) (run : List Mark) (moment : Moment)
    → Runs limits read link before (outside left given sink gave view) ahead [] run → Gives gave gave' moment → OnlyOthersAdded view view'
    → Runs limits read link before (outside left given sink gave' view') ahead (moment ∷ []) run
given_alone limits read link before left given sink gave gave' view view' ahead run moment r gives added = record {
  own = r.own;
  handed = r.handed;
  taken = r.taken;
  served = r.served;
  quiet = r.quiet;
  writes = r.writes;
  frames = r.frames;
  turns = r.turns;
  handled = r.handled;
  over = taken_others before.view view view' (number_heard run link) r.turns r.over added;
  greeted = r.greeted;
  gave = gives_more before.gave gave gave' (map given_for r.turns) moment (subst (λ (ms : List Moment). GivesAll before.gave gave ms) (append-nil (map given_for r.turns)) r.gave) gives;
  count = r.count;
}

-- a piece is fed
pub fed : (limits : ConnectionLimits) (read link : ℕ) (before now : Outside) (piece ahead : List ℕ) (run : List Mark)
    → Runs limits read link before now (piece ++ ahead) [] run → AllQuiet limits link run
    → ((opened : LinkParameters) → IsOpenedWith limits opened → FrameMark opened link run (marks.Fed link Responder piece))
    → Runs limits read link before now ahead [] (run ++ marks.Fed link Responder piece ∷ [])
unfolding fed_turns turns_of
fed limits read link before now piece ahead run r quiet frames =
    let mark : Mark = marks.Fed link Responder piece in
    let received : bytes_received link Responder (run ++ mark ∷ []) ≡ bytes_received link Responder run ++ piece =
    received_one link Responder run mark ∙ rw (itself link) refl in
    let all : fed_at link Responder mark ≡ piece = rw (itself link) refl in
    let turns = fed_turns link before.view now.view run piece all (turns_of limits read link before now (piece ++ ahead) [] run r) in
    record {
      own = AtEachMark_more (λ earlier m. IsOwn link m) [] run mark r.own refl;
      handed = subst (HandsOut before.left before.given now.left now.given)
          (sym (ap (λ (l : List ℕ). l ++ ahead) received ∙ append_assoc (bytes_received link Responder run) piece ahead)) r.handed;
      taken = subst (λ (bytes : List ℕ). Takes before.sink now.sink bytes)
          (sym (sent_one link Responder run mark ∙ append-nil (bytes_sent link Responder run))) r.taken;
      served = λ opened same. AtEachMark_more (ServedMark IsPrefixOf opened link) [] run mark (r.served opened same) tt;
      quiet = λ opened same. AtEachMark_more (QuietMark opened link) [] run mark (r.quiet opened same) (quiet opened same);
      writes = λ opened same. AtEachMark_more (WriteMark opened link) [] run mark (r.writes opened same) tt;
      frames = λ opened same. AtEachMark_more (FrameMark opened link) [] run mark (r.frames opened same) (frames opened same);
      turns = turns.turns;
      handled = turns.handled;
      over = turns.over;
      greeted = turns.greeted;
      gave = r.gave;
      count = (let before_it = r.count in let now_it = ap length received in omega (arith, before_it, now_it, length-append (bytes_received link Responder run) piece, length-append piece ahead));
    }

-- bytes are written
pub wrote : (limits : ConnectionLimits) (read link : ℕ) (before : Outside) (left given : Option (List ℕ)) (sink sink' : SinkState) (gave : Option (List Moment)) (view : PassView)
    (bytes ahead : List ℕ) (run : List Mark)
    → Runs limits read link before (outside left given sink gave view) ahead [] run → TakesMore sink sink' bytes
    → ((opened : LinkParameters) → IsOpenedWith limits opened → IsPrefixOf (bytes_sent link Responder run ++ bytes) (output_due opened link Responder run))
    → ((opened : LinkParameters) → IsOpenedWith limits opened → next_call opened link run ≡ None)
    → Runs limits read link before (outside left given sink' gave view) ahead [] (run ++ marks.Wrote link Responder bytes ∷ [])
unfolding same_turns turns_of
wrote limits read link before left given sink sink' gave view bytes ahead run r takes due none =
    let mark : Mark = marks.Wrote link Responder bytes in
    let sent : bytes_sent link Responder (run ++ mark ∷ []) ≡ bytes_sent link Responder run ++ bytes =
    sent_one link Responder run mark ∙ rw (itself link) refl in
    let turns = same_turns link before.view view run mark refl refl (turns_of limits read link before (outside left given sink gave view) ahead [] run r) in
    record {
      own = AtEachMark_more (λ earlier m. IsOwn link m) [] run mark r.own refl;
      handed = subst (λ (received : List ℕ). HandsOut before.left before.given left given (received ++ ahead))
          (sym (received_one link Responder run mark ∙ append-nil (bytes_received link Responder run))) r.handed;
      taken = subst (λ (all : List ℕ). Takes before.sink sink' all) (sym sent) (takes before.sink (bytes_sent link Responder run) r.taken);
      served = λ opened same. AtEachMark_more (ServedMark IsPrefixOf opened link) [] run mark (r.served opened same) (λ l. due opened same);
      quiet = λ opened same. AtEachMark_more (QuietMark opened link) [] run mark (r.quiet opened same) tt;
      writes = λ opened same. AtEachMark_more (WriteMark opened link) [] run mark (r.writes opened same) (none opened same);
      frames = λ opened same. AtEachMark_more (FrameMark opened link) [] run mark (r.frames opened same) tt;
      turns = turns.turns;
      handled = turns.handled;
      over = turns.over;
      greeted = turns.greeted;
      gave = r.gave;
      count = ap (λ (l : List ℕ). length l + length ahead) (received_one link Responder run mark ∙ append-nil (bytes_received link Responder run)) ∙ r.count;
    }

-- bytes are read
pub read_more : (limits : ConnectionLimits) (read link : ℕ) (before : Outside) (left given left' given' : Option (List ℕ)) (sink : SinkState) (gave : Option (List Moment)) (view : PassView)
    (piece : List ℕ) (run : List Mark)
    → Runs limits read link before (outside left given sink gave view) [] [] run → HandsOut left given left' given' piece
    → Runs limits (read + length piece) link before (outside left' given' sink gave view) piece [] run
read_more limits read link before left given left' given' sink gave view piece run r hands = record {
  own = r.own;
  handed = HandsOut_append before.left before.given left given left' given' (bytes_received link Responder run) piece
      (subst (HandsOut before.left before.given left given) (append-nil (bytes_received link Responder run)) r.handed) hands;
  taken = r.taken;
  served = r.served;
  quiet = r.quiet;
  writes = r.writes;
  frames = r.frames;
  turns = r.turns;
  handled = r.handled;
  over = r.over;
  greeted = r.greeted;
  gave = r.gave;
  count = (let now_it = r.count in omega (arith, now_it));
}
