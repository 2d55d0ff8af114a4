-- A drill whose server replies in bytes: its marks are of their types, and the payloads of its executed calls are bytes.
use Rattle.std.specs.Prelude.{◌-◌}
use Rattle.std.specs.List.{AllByRecursion}
use Rattle.std.proofs.Common.{◌≡◌, ℕ, suc, ◌+◌, ◌≤◌, arith, Bool, true, false, List, [], ◌∷◌, ◌++◌, length, Option, None, Some, sym, subst}
use Rattle.nr_xdr.specs.Item.{IsBytes}
use Rattle.nr_wire.specs.declared.hello.Side.TheVariants.{Initiator}
use Rattle.nr_reduce.specs.declared.mark.Mark.{Mark}
use Rattle.nr_reduce.specs.declared.mark.Mark.TheVariants as marks
use Rattle.nr_reduce.specs.ServerState.{ReadyCall}
use Rattle.nr_reduce.specs.Run.{server}
use Rattle.nr_reduce.specs.Served.{next_call, first_ready}
use Rattle.nr_reduce.specs.History.{is_dropped}
use Rattle.nr_reduce.proofs.SoFarLaws.{AtEachMark_each}
use Rattle.nr_reduce.proofs.Standing.{AtEachMark_more}
use Rattle.nr_link.specs.declared.end.End.{End}
use Rattle.nr_laws.specs.Typed.{TypedMark, IsTyped}
use Rattle.nr_byte_laws.specs.DueBytes.{AreInBytes}
use Rattle.nr_byte_laws.proofs.ByteServers.{ReadyOfBytes, ready_bytes}
use Rattle.nr_texts.specs.declared.opening.Opening.{Opening}
use Rattle.nr_script.specs.Limits.{lines_max}
use Rattle.nr_script.specs.Script.{ScriptLines, IsScript}
use Rattle.nr_drill.specs.Drill.{SerialServer, Setting, Drill, setting_now, start, links_of, if_standing, waiting_call, after_opening, after_openings}
use Rattle.nr_drill.specs.Follows.{Follows, setting_of, opened_drill}
use Rattle.nr_drill.specs.InBytes.{RepliedMark, RepliedInBytes, ExecutedMark, ExecutedInBytes}
use Rattle.nr_drill.specs.Drains.{AnswersInBytesAt, AnswersInBytes}
use Rattle.nr_drill.proofs.TypedDrills.{IsTypedDrill, ResumedTyped, AddsQuiet, KeptBySteps, marked, with_cred_at_lem, action_keeps_steps, opening_keeps_steps, start_typed}
use Rattle.nr_drill.proofs.TypedDrills.AddsQuiet.{Same, More}
use Rattle.nr_drill.proofs.Actions.{IsKept, AnyRaw, all_act, lines_of, lines_kept}
use Rattle.nr_drill.proofs.Links.{link_bytes}
use Rattle.nr_drill.proofs.BegunLinks.{Holds, begun_drill, next_link, begins_so, begun_typed, new_holds, holds_kept, counted_most, first_then}

pub record IsByteDrill (d : Drill) : Type 0 where
  pub typed : IsTypedDrill d
  pub executed : ExecutedInBytes d.marks

-- ===== a call that waits

first_of_lem : (ready : List ReadyCall) (ended : Option End) (call : ReadyCall) → AllByRecursion ReadyOfBytes ready → first_ready ready ended ≡ Some call → IsBytes call.payload
first_of_lem ready (Some end) call h e = absurd cc
first_of_lem [] None call h e = absurd cc
first_of_lem (r ∷ ready) None call h e = let same : r ≡ call = cc in subst (λ (c : ReadyCall). IsBytes c.payload) same h.0

pub next_of_lem : (dropped : Bool) (call : ReadyCall) (next : Option ReadyCall) → if_standing dropped next ≡ Some call → next ≡ Some call
next_of_lem true call next e = absurd cc
next_of_lem false call next e = e

-- its payload is bytes
pub waiting_bytes : (s : Setting) (link : ℕ) (run : List Mark) (call : ReadyCall) → IsTyped run → waiting_call s link run ≡ Some call → IsBytes call.payload
unfolding waiting_call next_call
waiting_bytes s link run call typed e =
    let k = server (s.opened link) link run in
    first_of_lem k.state.ready k.ended call (ready_bytes (s.opened link) link run typed) (next_of_lem (is_dropped link run) call (first_ready k.state.ready k.ended) e)

-- ===== each step

executed_more : (run : List Mark) (mark : Mark) → ExecutedMark run mark → ExecutedInBytes run → ExecutedInBytes (run ++ mark ∷ [])
executed_more run mark b h = AtEachMark_more ExecutedMark [] run mark h b

quiet_executed : (s : Setting) (old new : Drill) → AddsQuiet s old new → ExecutedInBytes old.marks → ExecutedInBytes new.marks
quiet_executed s old new (Same is) h = subst ExecutedInBytes (sym is) h
quiet_executed s old new (More mark none other is) h = subst ExecutedInBytes (sym is) (executed_more old.marks mark other h)

-- what each step on a link keeps
pub byte_steps : (s : Setting) (link : ℕ) → AreInBytes Initiator (s.opened link) → AllByRecursion ResumedTyped (s.opened link).resumed → ((d : Drill) → IsTyped d.marks → ExecutedInBytes d.marks → AnswersInBytesAt s link d) →
    KeptBySteps s link IsByteDrill
byte_steps s link in_bytes again replies = record {
  in_bytes = in_bytes;
  again = again;
  quiet = λ old new adds keeps h. record { typed = keeps h.typed; executed = quiet_executed s old new adds h.executed };
  executes = λ call g d next is h.
      (let mark = marks.Execute link call.xid g.moment call.payload g.place g.reply in
      record {
        typed = marked mark d (replies d h.typed.typed h.executed call g next is) h.typed;
        executed = executed_more d.marks mark (waiting_bytes s link d.marks call h.typed.typed next) h.executed;
      });
}

-- ===== all lines

typed_replied : (before : List Mark) (mark : Mark) → TypedMark before mark → RepliedMark before mark
typed_replied before (marks.Submit l call form answer) h = tt
typed_replied before (marks.Wrote l side bytes) h = tt
typed_replied before (marks.Fed l side bytes) h = tt
typed_replied before (marks.Execute l xid moment payload place reply) h = h
typed_replied before (marks.Done l xid outcome) h = tt
typed_replied before (marks.Lost l xid) h = tt
typed_replied before (marks.Forget l xid) h = tt
typed_replied before (marks.Revoke l xid bytes) h = tt
typed_replied before (marks.Drop l) h = tt
typed_replied before (marks.Told l what) h = tt

pub byte_replied : (d : Drill) → IsByteDrill d → RepliedInBytes d.marks
byte_replied d h = AtEachMark_each TypedMark RepliedMark [] d.marks typed_replied h.typed.typed

-- of a script whose server replies in bytes
abbrev pub BytesThen : Setting → Opening → ℕ → Drill → Type 0
BytesThen s opening n d = Holds s opening n d × (n ≤ lines_max → IsByteDrill d)

pub bytes_kept : (s : Setting) (opening : Opening) (Raws : ℕ → Type 0) → AnswersInBytes s → IsKept s opening AnyRaw Raws (BytesThen s opening)
bytes_kept s opening Raws replies =
    let k = holds_kept s opening AnyRaw Raws in
    record {
      count = λ n d p. k.count n d p.0;
      later = λ n d p. (k.later n d p.0, λ le. p.1 (omega (arith, le)));
      credential = λ n c cred d can typed p. (
        k.credential n c cred d can typed p.0,
        λ le. (let h = p.1 le in record {
          typed = record { typed = h.typed.typed; pipes = h.typed.pipes; creds = with_cred_at_lem d.creds (c - 1) cred h.typed.creds typed };
          executed = h.executed;
        }),
      );
      time = λ n seconds d p. (k.time n seconds d p.0, λ le. (let h = p.1 le in record { typed = record { typed = h.typed.typed; pipes = h.typed.pipes; creds = h.typed.creds }; executed = h.executed }));
      action = λ n c link a d last acts may p. (
        k.action n c link a d last acts may p.0,
        λ le. (let most = counted_most a n in
            let fits : n ≤ lines_max = omega (arith, le, most) in
            let h = p.1 fits in
            let t = setting_now s d in
            let held = p.0.1 fits (byte_replied d h) in
            let l = held.links link (held.frame.owned c link last).0 in
            action_keeps_steps t link c opening.credits Raws IsByteDrill
            (byte_steps t link (link_bytes opening n (t.opened link) link d.marks l) l.again (λ e typed executed. replies t.opened link e typed executed)) a d h.typed.creds may h),
      );
      begins = λ n c link d last acts numbered gone stays p. (
        k.begins n c link d last acts numbered gone stays p.0,
        λ le. (let fits : n ≤ lines_max = omega (arith, le) in
            let h = p.1 fits in
            let held = p.0.1 fits (byte_replied d h) in
            let begun = begun_drill s c link d in
            let u = setting_now s begun in
            let next = next_link d in
            let l = new_holds s opening n c link d le last numbered stays held in
            let b = begins_so s opening n c link d le last numbered stays held in
            let steps = byte_steps u next (link_bytes opening (suc n) (u.opened next) next (after_opening u next begun).marks l) l.again (λ e typed executed. replies u.opened next e typed executed) in
            subst (λ (m : ℕ). IsByteDrill (after_opening u m begun)) (sym b.is_last)
            (opening_keeps_steps u next IsByteDrill steps begun (record { typed = begun_typed s opening n c link d le last numbered stays held; executed = h.executed }))),
      );
    }

openings_bytes : (server : SerialServer) (opening : Opening) → AnswersInBytes (setting_of server opening) → (links : List ℕ) (d : Drill) → IsByteDrill d → IsByteDrill (after_openings (setting_of server opening) links d)
openings_bytes server opening replies [] d h = h
openings_bytes server opening replies (link ∷ links) d h =
    let s = setting_of server opening in
    openings_bytes server opening replies links (after_opening s link d)
    (opening_keeps_steps s link IsByteDrill (byte_steps s link tt tt (λ e typed executed. replies s.opened link e typed executed)) d h)

pub first_bytes : (server : SerialServer) (script : ScriptLines) → IsScript script → AnswersInBytes (setting_of server script.opening) → BytesThen (setting_of server script.opening) script.opening 0 (opened_drill server script.opening)
unfolding opened_drill
first_bytes server script is replies = (
  first_then server script is,
  λ le. openings_bytes server script.opening replies (links_of script.opening.clients) (start (setting_of server script.opening) script.opening.clients)
      (record { typed = start_typed (setting_of server script.opening) script.opening.clients; executed = tt }),
)

-- so all that a script makes is of its types
pub script_bytes : (server : SerialServer) (script : ScriptLines) (run : List Mark) → IsScript script → AnswersInBytes (setting_of server script.opening) → (follows : Follows server script run) → IsByteDrill follows.last
script_bytes server script run is replies follows =
    let s = setting_of server script.opening in
    (lines_kept s script.opening AnyRaw AnyRaw (BytesThen s script.opening) (bytes_kept s script.opening AnyRaw replies) 0 (length script.lines) script.opening.clients script.lines (opened_drill server script.opening) follows.last
    (lines_of script is) (all_act script.lines) (omega arith) follows.makes (first_bytes server script is replies)).1 is.few_lines
