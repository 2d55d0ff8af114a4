-- On each link that isn't dropped no byte that a side wrote is lost: it was received, or it waits, whatever else a script puts into the pipes.
use Rattle.std.specs.Prelude.{◌-◌, slice_get, map}
use Rattle.std.specs.List.{AllByRecursion, range_with_len}
use Rattle.std.proofs.Common.{◌≡◌, ◌≢◌, ℕ, zero, suc, ◌+◌, ◌<◌, ◌≤◌, arith, eqb-true, Bool, true, false, eqb, List, [], ◌∷◌, ◌++◌, length, take, drop, Option, None, Some, refl, sym, ap, subst, ◌∙◌, append-nil, append_assoc}
use Rattle.std.proofs.lemmas.List.{length-append, length-replicate, take-append-drop}
use Rattle.nr_wire.specs.declared.hello.Side.{Side}
use Rattle.nr_wire.specs.declared.hello.Side.TheVariants.{Initiator, Responder}
use Rattle.nr_reduce.specs.declared.call.Call.{Call}
use Rattle.nr_reduce.specs.declared.call.Form.{Form}
use Rattle.nr_reduce.specs.declared.mark.Mark.{Mark}
use Rattle.nr_reduce.specs.declared.mark.Mark.TheVariants as marks
use Rattle.nr_reduce.specs.declared.mark.Told.TheVariants.{Granted}
use Rattle.nr_reduce.specs.declared.mark.Told.TheVariants as told
use Rattle.nr_reduce.specs.History.{CompletedCall, bytes_sent, bytes_received, written_at, fed_at, is_drop_of, is_dropped}
use Rattle.nr_reduce.specs.ServerState.{ReadyCall}
use Rattle.nr_reduce.specs.SubmitAnswer.{submit_answer_after, calls_to_resend}
use Rattle.nr_reduce.specs.OutcomesDue.{outcomes_due}
use Rattle.nr_reduce.specs.Asked.{revoked_bytes}
use Rattle.nr_reduce.specs.Run.{server, client}
use Rattle.nr_reduce.proofs.Standing.{sent_one, received_one}
use Rattle.nr_script.specs.declared.script.Line.TheVariants as lines
use Rattle.nr_script.specs.Script.{ScriptLines, IsScript}
use Rattle.nr_drill.specs.Drill.{SerialServer, Setting, Drill, Pipes, empty_pipes, unwritten, appended, after_output, after_all_output, settled, pipes_of, with_mark, after_feeding, after_feeding_up, after_feeding_down, after_up, after_down, after_handing, after_done, after_dones, after_outcomes, after_submit, waiting_call, after_answer, after_execution, after_work, after_calls, after_all_up, after_all_work, after_moves, answer_of_line, open_xid, after_giving_up, after_forget, after_taking_back, after_revoke, after_drop, after_raw, after_opening, after_openings, start, links_of, IsLink, last_link, setting_now, after_leaving, after_grant, GivenReply, client_of, standing_of, reply_given, resend_mark, after_resends, after_call}
use Rattle.nr_drill.specs.Follows.{Follows, setting_of, opened_drill}
use Rattle.nr_drill.proofs.Lawful.{own_written, up_written, down_written}
use Rattle.nr_drill.proofs.Followed.{Extends, opening_adds}
use Rattle.nr_drill.proofs.Carried.{same_dropped, same_sent, same_received, own_pipes, still_room, own_fed, up_fed, down_fed, dropped_at_last, IsSameHere, same_here, other_than}
use Rattle.nr_drill.proofs.Actions.{Action, after_action, IsKept, AnyRaw, lines_of, all_act, lines_kept}
use Rattle.nr_drill.proofs.Actions.Action.{SubmitCall, FeedUp, FeedDown, WorkOnce, ForgetCall, RevokeCall, DropLink, PutRaw, GrantCredits}
use Rattle.nr_drill.proofs.Links.{none_sent, action_extends, link_of_same}
use Rattle.nr_drill.proofs.BegunLinks.{Holds, IsBegun, begun_drill, next_link, begins_so, holds_kept, counted_most, replied_before, opened_count, first_then}
use Rattle.nr_drill.specs.InBytes.{RepliedInBytes}
use Rattle.nr_script.specs.Limits.{lines_max}
use Rattle.nr_texts.specs.declared.opening.Opening.{Opening}
use Rattle.nr_reduce.specs.NumberedJournal.{Standing}
use Rattle.nr_reduce.specs.NumberedJournal.Standing.{Old, Kept, New}
use Rattle.nr_reduce.specs.ClientState.{WaitingCall}
use Rattle.nr_reduce.specs.Served.{last_frame_at}

pub record NoneLost (link : ℕ) (d : Drill) : Type 0 where
  pub room : link - 1 < length d.pipes
  pub up : is_dropped link d.marks ≡ false → length (bytes_sent link Initiator d.marks) ≤ length (bytes_received link Responder d.marks) + length (pipes_of link d).up
  pub down : is_dropped link d.marks ≡ false → length (bytes_sent link Responder d.marks) ≤ length (bytes_received link Initiator d.marks) + length (pipes_of link d).down

-- ===== on its own link

none_mark : (link : ℕ) (mark : Mark) (d : Drill) → written_at link Initiator mark ≡ [] → written_at link Responder mark ≡ [] → fed_at link Initiator mark ≡ [] → fed_at link Responder mark ≡ [] →
    is_drop_of link mark ≡ false → NoneLost link d → NoneLost link (with_mark mark d)
none_mark link mark d wi wr fi fr standing n = record {
  room = n.room;
  up = λ e.
      (let sent : length (bytes_sent link Initiator (d.marks ++ mark ∷ [])) ≡ length (bytes_sent link Initiator d.marks) = ap length (same_sent link Initiator d.marks mark wi) in
      let received : length (bytes_received link Responder (d.marks ++ mark ∷ [])) ≡ length (bytes_received link Responder d.marks) = ap length (same_received link Responder d.marks mark fr) in
      let h = n.up (sym (same_dropped link d.marks mark standing) ∙ e) in
      omega (arith, sent, received, h));
  down = λ e.
      (let sent : length (bytes_sent link Responder (d.marks ++ mark ∷ [])) ≡ length (bytes_sent link Responder d.marks) = ap length (same_sent link Responder d.marks mark wr) in
      let received : length (bytes_received link Initiator (d.marks ++ mark ∷ [])) ≡ length (bytes_received link Initiator d.marks) = ap length (same_received link Initiator d.marks mark fi) in
      let h = n.down (sym (same_dropped link d.marks mark standing) ∙ e) in
      omega (arith, sent, received, h));
}

-- a side's bytes with more put last
longer : (xs ys zs : List ℕ) → xs ≡ ys ++ zs → length xs ≡ length ys + length zs
longer xs ys zs e = ap length e ∙ length-append ys zs

none_output : (link : ℕ) (side : Side) (bytes : List ℕ) (d : Drill) → NoneLost link d → NoneLost link (after_output link side bytes d)
none_output link side [] d n = n
none_output link Initiator (b ∷ bytes) d n =
    let mark = marks.Wrote link Initiator (b ∷ bytes) in
    let pipes = pipes_of link d in
    let new = after_output link Initiator (b ∷ bytes) d in
    let own = own_pipes link (appended Initiator (b ∷ bytes) pipes) (with_mark mark d) n.room in
    record {
      room = still_room link (appended Initiator (b ∷ bytes) pipes) (with_mark mark d) n.room;
      up = λ e.
          (let sent : length (bytes_sent link Initiator (d.marks ++ mark ∷ [])) ≡ length (bytes_sent link Initiator d.marks) + length (b ∷ bytes) =
          longer (bytes_sent link Initiator (d.marks ++ mark ∷ [])) (bytes_sent link Initiator d.marks) (b ∷ bytes)
          (sent_one link Initiator d.marks mark ∙ ap (λ (xs : List ℕ). bytes_sent link Initiator d.marks ++ xs) (own_written link Initiator (b ∷ bytes))) in
          let received : length (bytes_received link Responder (d.marks ++ mark ∷ [])) ≡ length (bytes_received link Responder d.marks) = ap length (same_received link Responder d.marks mark refl) in
          let waits : length (pipes_of link new).up ≡ length pipes.up + length (b ∷ bytes) = longer (pipes_of link new).up pipes.up (b ∷ bytes) (ap (λ (p : Pipes). p.up) own) in
          let h = n.up (sym (same_dropped link d.marks mark refl) ∙ e) in
          omega (arith, sent, received, waits, h));
      down = λ e.
          (let sent : length (bytes_sent link Responder (d.marks ++ mark ∷ [])) ≡ length (bytes_sent link Responder d.marks) = ap length (same_sent link Responder d.marks mark (up_written link (b ∷ bytes))) in
          let received : length (bytes_received link Initiator (d.marks ++ mark ∷ [])) ≡ length (bytes_received link Initiator d.marks) = ap length (same_received link Initiator d.marks mark refl) in
          let waits : length (pipes_of link new).down ≡ length pipes.down = ap (λ (p : Pipes). length p.down) own in
          let h = n.down (sym (same_dropped link d.marks mark refl) ∙ e) in
          omega (arith, sent, received, waits, h));
    }
none_output link Responder (b ∷ bytes) d n =
    let mark = marks.Wrote link Responder (b ∷ bytes) in
    let pipes = pipes_of link d in
    let new = after_output link Responder (b ∷ bytes) d in
    let own = own_pipes link (appended Responder (b ∷ bytes) pipes) (with_mark mark d) n.room in
    record {
      room = still_room link (appended Responder (b ∷ bytes) pipes) (with_mark mark d) n.room;
      up = λ e.
          (let sent : length (bytes_sent link Initiator (d.marks ++ mark ∷ [])) ≡ length (bytes_sent link Initiator d.marks) = ap length (same_sent link Initiator d.marks mark (down_written link (b ∷ bytes))) in
          let received : length (bytes_received link Responder (d.marks ++ mark ∷ [])) ≡ length (bytes_received link Responder d.marks) = ap length (same_received link Responder d.marks mark refl) in
          let waits : length (pipes_of link new).up ≡ length pipes.up = ap (λ (p : Pipes). length p.up) own in
          let h = n.up (sym (same_dropped link d.marks mark refl) ∙ e) in
          omega (arith, sent, received, waits, h));
      down = λ e.
          (let sent : length (bytes_sent link Responder (d.marks ++ mark ∷ [])) ≡ length (bytes_sent link Responder d.marks) + length (b ∷ bytes) =
          longer (bytes_sent link Responder (d.marks ++ mark ∷ [])) (bytes_sent link Responder d.marks) (b ∷ bytes)
          (sent_one link Responder d.marks mark ∙ ap (λ (xs : List ℕ). bytes_sent link Responder d.marks ++ xs) (own_written link Responder (b ∷ bytes))) in
          let received : length (bytes_received link Initiator (d.marks ++ mark ∷ [])) ≡ length (bytes_received link Initiator d.marks) = ap length (same_received link Initiator d.marks mark refl) in
          let waits : length (pipes_of link new).down ≡ length pipes.down + length (b ∷ bytes) = longer (pipes_of link new).down pipes.down (b ∷ bytes) (ap (λ (p : Pipes). p.down) own) in
          let h = n.down (sym (same_dropped link d.marks mark refl) ∙ e) in
          omega (arith, sent, received, waits, h));
    }

none_settled : (s : Setting) (link : ℕ) (d : Drill) → NoneLost link d → NoneLost link (settled s link d)
unfolding settled
none_settled s link d n =
    let mid = after_all_output s link Initiator d in
    none_output link Responder (unwritten (s.opened link) link Responder mid.marks) mid (none_output link Initiator (unwritten (s.opened link) link Initiator d.marks) d n)

-- what is fed is taken off what waits
none_fed_up : (link : ℕ) (piece rest : List ℕ) (d : Drill) → piece ++ rest ≡ (pipes_of link d).up → NoneLost link d → NoneLost link (after_feeding link Responder piece (record (pipes_of link d) { up = rest }) d)
none_fed_up link [] rest d is n = n
none_fed_up link (b ∷ piece) rest d is n =
    let mark = marks.Fed link Responder (b ∷ piece) in
    let pipes : Pipes = record (pipes_of link d) { up = rest } in
    let new = after_feeding link Responder (b ∷ piece) pipes d in
    let own = own_pipes link pipes (with_mark mark d) n.room in
    let waited : length (pipes_of link d).up ≡ length (b ∷ piece) + length rest = longer (pipes_of link d).up (b ∷ piece) rest (sym is) in
    record {
      room = still_room link pipes (with_mark mark d) n.room;
      up = λ e.
          (let sent : length (bytes_sent link Initiator (d.marks ++ mark ∷ [])) ≡ length (bytes_sent link Initiator d.marks) = ap length (same_sent link Initiator d.marks mark refl) in
          let received : length (bytes_received link Responder (d.marks ++ mark ∷ [])) ≡ length (bytes_received link Responder d.marks) + length (b ∷ piece) =
          longer (bytes_received link Responder (d.marks ++ mark ∷ [])) (bytes_received link Responder d.marks) (b ∷ piece)
          (received_one link Responder d.marks mark ∙ ap (λ (xs : List ℕ). bytes_received link Responder d.marks ++ xs) (own_fed link Responder (b ∷ piece))) in
          let waits : length (pipes_of link new).up ≡ length rest = ap (λ (p : Pipes). length p.up) own in
          let h = n.up (sym (same_dropped link d.marks mark refl) ∙ e) in
          omega (arith, sent, received, waits, waited, h));
      down = λ e.
          (let sent : length (bytes_sent link Responder (d.marks ++ mark ∷ [])) ≡ length (bytes_sent link Responder d.marks) = ap length (same_sent link Responder d.marks mark refl) in
          let received : length (bytes_received link Initiator (d.marks ++ mark ∷ [])) ≡ length (bytes_received link Initiator d.marks) = ap length (same_received link Initiator d.marks mark (up_fed link (b ∷ piece))) in
          let waits : length (pipes_of link new).down ≡ length (pipes_of link d).down = ap (λ (p : Pipes). length p.down) own in
          let h = n.down (sym (same_dropped link d.marks mark refl) ∙ e) in
          omega (arith, sent, received, waits, h));
    }

none_fed_down : (link : ℕ) (piece rest : List ℕ) (d : Drill) → piece ++ rest ≡ (pipes_of link d).down → NoneLost link d → NoneLost link (after_feeding link Initiator piece (record (pipes_of link d) { down = rest }) d)
none_fed_down link [] rest d is n = n
none_fed_down link (b ∷ piece) rest d is n =
    let mark = marks.Fed link Initiator (b ∷ piece) in
    let pipes : Pipes = record (pipes_of link d) { down = rest } in
    let new = after_feeding link Initiator (b ∷ piece) pipes d in
    let own = own_pipes link pipes (with_mark mark d) n.room in
    let waited : length (pipes_of link d).down ≡ length (b ∷ piece) + length rest = longer (pipes_of link d).down (b ∷ piece) rest (sym is) in
    record {
      room = still_room link pipes (with_mark mark d) n.room;
      up = λ e.
          (let sent : length (bytes_sent link Initiator (d.marks ++ mark ∷ [])) ≡ length (bytes_sent link Initiator d.marks) = ap length (same_sent link Initiator d.marks mark refl) in
          let received : length (bytes_received link Responder (d.marks ++ mark ∷ [])) ≡ length (bytes_received link Responder d.marks) = ap length (same_received link Responder d.marks mark (down_fed link (b ∷ piece))) in
          let waits : length (pipes_of link new).up ≡ length (pipes_of link d).up = ap (λ (p : Pipes). length p.up) own in
          let h = n.up (sym (same_dropped link d.marks mark refl) ∙ e) in
          omega (arith, sent, received, waits, h));
      down = λ e.
          (let sent : length (bytes_sent link Responder (d.marks ++ mark ∷ [])) ≡ length (bytes_sent link Responder d.marks) = ap length (same_sent link Responder d.marks mark refl) in
          let received : length (bytes_received link Initiator (d.marks ++ mark ∷ [])) ≡ length (bytes_received link Initiator d.marks) + length (b ∷ piece) =
          longer (bytes_received link Initiator (d.marks ++ mark ∷ [])) (bytes_received link Initiator d.marks) (b ∷ piece)
          (received_one link Initiator d.marks mark ∙ ap (λ (xs : List ℕ). bytes_received link Initiator d.marks ++ xs) (own_fed link Initiator (b ∷ piece))) in
          let waits : length (pipes_of link new).down ≡ length rest = ap (λ (p : Pipes). length p.down) own in
          let h = n.down (sym (same_dropped link d.marks mark refl) ∙ e) in
          omega (arith, sent, received, waits, waited, h));
    }

none_up : (s : Setting) (link n : ℕ) (d : Drill) → NoneLost link d → NoneLost link (after_up s link n d)
unfolding after_up
none_up s link n d h = none_settled s link (after_feeding_up link n d) (none_fed_up link (take n (pipes_of link d).up) (drop n (pipes_of link d).up) d (take-append-drop n (pipes_of link d).up) h)

none_handing : (link : ℕ) (c : Option CompletedCall) (d : Drill) → NoneLost link d → NoneLost link (after_handing link c d)
none_handing link None d h = h
none_handing link (Some c) d h = none_mark link (marks.Done link c.xid c.outcome) d refl refl refl refl refl h

none_dones : (s : Setting) (link n : ℕ) (d : Drill) → NoneLost link d → NoneLost link (after_dones s link n d)
unfolding after_done
none_dones s link zero d h = h
none_dones s link (suc n) d h = none_dones s link n (after_done s link d) (none_handing link (slice_get (outcomes_due (s.opened link) link d.marks) 0) d h)

none_resent : (link : ℕ) (ws : List WaitingCall) (d : Drill) → NoneLost link d → NoneLost link (record d { marks = d.marks ++ map (resend_mark link) ws })
none_resent link [] d h = subst (λ (run : List Mark). NoneLost link (record d { marks = run })) (sym (append-nil d.marks)) h
none_resent link (w ∷ ws) d h =
    let mark = resend_mark link w in
    subst (λ (run : List Mark). NoneLost link (record d { marks = run })) (append_assoc d.marks (mark ∷ []) (map (resend_mark link) ws))
    (none_resent link ws (with_mark mark d) (none_mark link mark d refl refl refl refl refl h))

none_resends : (s : Setting) (link : ℕ) (d : Drill) → NoneLost link d → NoneLost link (after_resends s link d)
unfolding after_resends
none_resends s link d h = none_resent link (calls_to_resend (client (s.opened link) link d.marks)) d h

none_down : (s : Setting) (link n : ℕ) (d : Drill) → NoneLost link d → NoneLost link (after_down s link n d)
unfolding after_down after_outcomes
none_down s link n d h =
    let fed = after_feeding_down link n d in
    let sent = after_resends s link fed in
    none_settled s link (after_outcomes s link sent)
    (none_dones s link (length (outcomes_due (s.opened link) link sent.marks)) sent
    (none_resends s link fed (none_fed_down link (take n (pipes_of link d).down) (drop n (pipes_of link d).down) d (take-append-drop n (pipes_of link d).down) h)))

none_answer : (s : Setting) (link : ℕ) (call : ReadyCall) (answer : Option GivenReply) (d : Drill) → NoneLost link d → NoneLost link (after_answer s link call answer d)
none_answer s link call None d h = h
none_answer s link call (Some g) d h =
    let mark = marks.Execute link call.xid g.moment call.payload g.place g.reply in
    none_settled s link (with_mark mark d) (none_mark link mark d refl refl refl refl refl h)

none_call : (s : Setting) (link : ℕ) (call : ReadyCall) (is : Standing) (answer : Option GivenReply) (d : Drill) → NoneLost link d → NoneLost link (after_call s link call is answer d)
none_call s link call (Old top) answer d h =
    let mark = marks.Told link (told.Old call.xid (last_frame_at link d.marks)) in
    none_settled s link (with_mark mark d) (none_mark link mark d refl refl refl refl refl h)
none_call s link call (Kept place) answer d h = none_answer s link call answer d h
none_call s link call New answer d h = none_answer s link call answer d h

none_execution : (s : Setting) (link : ℕ) (call : Option ReadyCall) (d : Drill) → NoneLost link d → NoneLost link (after_execution s link call d)
none_execution s link None d h = h
none_execution s link (Some call) d h = none_call s link call (standing_of s link d call) (reply_given s link d call) d h

none_work : (s : Setting) (link : ℕ) (d : Drill) → NoneLost link d → NoneLost link (after_work s link d)
unfolding after_work
none_work s link d h = none_execution s link (waiting_call s link d.marks) d h

none_calls : (s : Setting) (link n : ℕ) (d : Drill) → NoneLost link d → NoneLost link (after_calls s link n d)
none_calls s link zero d h = h
none_calls s link (suc n) d h = none_calls s link n (after_work s link d) (none_work s link d h)

none_moves : (s : Setting) (link : ℕ) (d : Drill) → NoneLost link d → NoneLost link (after_moves s link d)
unfolding after_moves after_all_work
none_moves s link d h =
    let one = after_all_up s link d in
    let two = after_all_work s link one in
    none_down s link (length (pipes_of link two).down) two
    (none_calls s link (length (server (s.opened link) link one.marks).state.ready) one (none_up s link (length (pipes_of link d).up) d h))

none_opening : (s : Setting) (link : ℕ) (d : Drill) → NoneLost link d → NoneLost link (after_opening s link d)
unfolding after_opening
none_opening s link d h =
    let one = settled s link d in
    let two = after_all_up s link one in
    none_down s link (length (pipes_of link two).down) two (none_up s link (length (pipes_of link one).up) one (none_settled s link d h))

none_submit : (s : Setting) (link : ℕ) (call : Call) (form : Form) (d : Drill) → NoneLost link d → NoneLost link (after_submit s link call form d)
unfolding after_submit
none_submit s link call form d h =
    let mark = marks.Submit link call form (submit_answer_after (s.opened link) link d.marks call form) in
    none_settled s link (with_mark mark d) (none_mark link mark d refl refl refl refl refl h)

none_giving_up : (link : ℕ) (xid : Option ℕ) (d : Drill) → NoneLost link d → NoneLost link (after_giving_up link xid d)
none_giving_up link None d h = h
none_giving_up link (Some xid) d h = none_mark link (marks.Forget link xid) d refl refl refl refl refl h

none_forget : (s : Setting) (link number : ℕ) (d : Drill) → NoneLost link d → NoneLost link (after_forget s link number d)
unfolding after_forget
none_forget s link number d h = none_giving_up link (open_xid s link d.marks (answer_of_line s (client_of s link) number d.marks)) d h

none_taking_back : (s : Setting) (link : ℕ) (xid : Option ℕ) (d : Drill) → NoneLost link d → NoneLost link (after_taking_back s link xid d)
none_taking_back s link None d h = h
none_taking_back s link (Some xid) d h =
    let mark = marks.Revoke link xid (revoked_bytes (s.opened link) link d.marks xid) in
    none_settled s link (with_mark mark d) (none_mark link mark d refl refl refl refl refl h)

none_revoke : (s : Setting) (link number : ℕ) (d : Drill) → NoneLost link d → NoneLost link (after_revoke s link number d)
unfolding after_revoke
none_revoke s link number d h = none_taking_back s link (open_xid s link d.marks (answer_of_line s (client_of s link) number d.marks)) d h

not_dropped : true ≡ false → ⊥
not_dropped e = absurd cc

none_drop : (link : ℕ) (d : Drill) → NoneLost link d → NoneLost link (after_drop link d)
none_drop link d h = record {
  room = still_room link empty_pipes (with_mark (marks.Drop link) d) h.room;
  up = λ e. absurd (not_dropped (sym (dropped_at_last link d.marks) ∙ e));
  down = λ e. absurd (not_dropped (sym (dropped_at_last link d.marks) ∙ e));
}

none_grant : (link credits : ℕ) (d : Drill) → NoneLost link d → NoneLost link (after_grant link credits d)
none_grant link credits d h = none_mark link (marks.Told link (Granted credits)) d refl refl refl refl refl h

none_raw : (link : ℕ) (side : Side) (bytes : List ℕ) (dropped : Bool) (d : Drill) → NoneLost link d → NoneLost link (after_raw link side bytes dropped d)
none_raw link side bytes true d h = h
none_raw link Initiator bytes false d h =
    let pipes = pipes_of link d in
    let new = after_raw link Initiator bytes false d in
    let own = own_pipes link (appended Initiator bytes pipes) d h.room in
    let up : length (pipes_of link new).up ≡ length pipes.up + length bytes = longer (pipes_of link new).up pipes.up bytes (ap (λ (p : Pipes). p.up) own) in
    let down : length (pipes_of link new).down ≡ length pipes.down = ap (λ (p : Pipes). length p.down) own in
    record {
      room = still_room link (appended Initiator bytes pipes) d h.room;
      up = λ e. (let k = h.up e in omega (arith, k, up));
      down = λ e. (let k = h.down e in omega (arith, k, down));
    }
none_raw link Responder bytes false d h =
    let pipes = pipes_of link d in
    let new = after_raw link Responder bytes false d in
    let own = own_pipes link (appended Responder bytes pipes) d h.room in
    let up : length (pipes_of link new).up ≡ length pipes.up = ap (λ (p : Pipes). length p.up) own in
    let down : length (pipes_of link new).down ≡ length pipes.down + length bytes = longer (pipes_of link new).down pipes.down bytes (ap (λ (p : Pipes). p.down) own) in
    record {
      room = still_room link (appended Responder bytes pipes) d h.room;
      up = λ e. (let k = h.up e in omega (arith, k, up));
      down = λ e. (let k = h.down e in omega (arith, k, down));
    }

-- ===== on other links

none_elsewhere : (link other : ℕ) (old new : Drill) → other ≢ link → link - 1 ≢ other - 1 → Extends other old new → NoneLost link old → NoneLost link new
none_elsewhere link other old new ne apart_pipes x h =
    let same : IsSameHere link old.marks new.marks = subst (IsSameHere link old.marks) (sym x.marks.is) (same_here link other old.marks x.marks.added ne x.marks.own) in
    let pipes = x.pipes link apart_pipes in
    record {
      room = subst (λ (n : ℕ). link - 1 < n) (sym x.room) h.room;
      up = λ e.
          (let sent : length (bytes_sent link Initiator new.marks) ≡ length (bytes_sent link Initiator old.marks) = ap length (same.sent Initiator) in
          let received : length (bytes_received link Responder new.marks) ≡ length (bytes_received link Responder old.marks) = ap length (same.received Responder) in
          let waits : length (pipes_of link new).up ≡ length (pipes_of link old).up = ap (λ (p : Pipes). length p.up) pipes in
          let k = h.up (sym same.dropped ∙ e) in
          omega (arith, sent, received, waits, k));
      down = λ e.
          (let sent : length (bytes_sent link Responder new.marks) ≡ length (bytes_sent link Responder old.marks) = ap length (same.sent Responder) in
          let received : length (bytes_received link Initiator new.marks) ≡ length (bytes_received link Initiator old.marks) = ap length (same.received Initiator) in
          let waits : length (pipes_of link new).down ≡ length (pipes_of link old).down = ap (λ (p : Pipes). length p.down) pipes in
          let k = h.down (sym same.dropped ∙ e) in
          omega (arith, sent, received, waits, k));
    }

none_by : (acted link : ℕ) (old new : Drill) → 1 ≤ acted → 1 ≤ link → Extends acted old new → (NoneLost acted old → NoneLost acted new) → NoneLost link old → NoneLost link new
none_by acted link old new some one x own h = by (eqb acted link) refl
  where
    by : (b : Bool) → eqb acted link ≡ b → NoneLost link new
    by true is = (let same = eqb-true acted link is in subst (λ (l : ℕ). NoneLost l new) same (own (subst (λ (l : ℕ). NoneLost l old) (sym same) h)))
    by false is =
        let ne : acted ≢ link = other_than acted link is in
        none_elsewhere link acted old new ne (λ same. ne (let a = some in let b = one in let c = same in omega (arith, a, b, c))) x h

-- ===== each action, and each link that begins

none_acts : (s : Setting) (link : ℕ) (a : Action) (d : Drill) → NoneLost link d → NoneLost link (after_action s link a d)
none_acts s link (SubmitCall call form) d h = none_submit s link call form d h
none_acts s link (FeedUp n) d h = none_up s link n d h
none_acts s link (FeedDown n) d h = none_down s link n d h
none_acts s link WorkOnce d h = none_work s link d h
none_acts s link (ForgetCall number) d h = none_forget s link number d h
none_acts s link (RevokeCall number) d h = none_revoke s link number d h
none_acts s link DropLink d h = none_drop link d h
none_acts s link (PutRaw side bytes) d h = none_raw link side bytes (is_dropped link d.marks) d h
none_acts s link (GrantCredits credits) d h = none_grant link credits d h

abbrev pub LosesNothing : Drill → Type 0
LosesNothing d = (link : ℕ) → IsLink d link → NoneLost link d

begun_loses : (s : Setting) (c link : ℕ) (d : Drill) → IsBegun s c link d → LosesNothing d → LosesNothing (after_leaving s c link d)
begun_loses s c link d b h = subst (λ (l : ℕ). LosesNothing (after_opening u l begun)) (sym b.is_last) all
  where
    begun : Drill
    begun = begun_drill s c link d

    u : Setting
    u = setting_now s begun

    next : ℕ
    next = next_link d

    x : Extends next begun (after_opening u next begun)
    x = opening_adds u next begun

    fresh : NoneLost next begun
    fresh =
        let sent = none_sent next d.marks b.apart in
        let sent_up : length (bytes_sent next Initiator d.marks) ≡ 0 = ap (λ (xs : List ℕ). length xs) sent.0 in
        let sent_down : length (bytes_sent next Responder d.marks) ≡ 0 = ap (λ (xs : List ℕ). length xs) sent.1 in
        record { room = b.room; up = λ e. omega (arith, sent_up); down = λ e. omega (arith, sent_down) }

    older : (l : ℕ) → IsLink d l → NoneLost l begun
    older l is =
        let k = h l is in
        let old : pipes_of l begun ≡ pipes_of l d = b.old_pipes l is in
        let waits_up : length (pipes_of l begun).up ≡ length (pipes_of l d).up = ap (λ (p : Pipes). length p.up) old in
        let waits_down : length (pipes_of l begun).down ≡ length (pipes_of l d).down = ap (λ (p : Pipes). length p.down) old in
        let room = k.room in
        let longer = b.longer in
        record {
          room = omega (arith, room, longer);
          up = λ e. (let up = k.up e in omega (arith, up, waits_up));
          down = λ e. (let down = k.down e in omega (arith, down, waits_down));
        }

    all : LosesNothing (after_opening u next begun)
    all l is = by (eqb l next) refl
      where
        was : IsLink begun l
        was = link_of_same begun (after_opening u next begun) l x.opened is

        by : (e : Bool) → eqb l next ≡ e → NoneLost l (after_opening u next begun)
        by true e = subst (λ (m : ℕ). NoneLost m (after_opening u next begun)) (sym (eqb-true l next e)) (none_opening u next begun fresh)
        by false e =
            let ne : l ≢ next = other_than l next e in
            none_by next l begun (after_opening u next begun) b.is_link.0 is.0 x (λ k. none_opening u next begun k) (older l (b.was_link l ne was))

-- ===== all lines

abbrev LosesThen : Setting → Opening → ℕ → Drill → Type 0
LosesThen s opening n d = Holds s opening n d × (n ≤ lines_max → RepliedInBytes d.marks → LosesNothing d)

loses_kept : (s : Setting) (opening : Opening) → IsKept s opening AnyRaw AnyRaw (LosesThen s opening)
loses_kept s opening =
    let k = holds_kept s opening AnyRaw AnyRaw in
    record {
      count = λ n d p. k.count n d p.0;
      later = λ n d p. (k.later n d p.0, λ le replied. p.1 (omega (arith, le)) replied);
      credential = λ n c cred d can typed p.
          (k.credential n c cred d can typed p.0, λ le replied link is. (let h = p.1 le replied link is in record { room = h.room; up = h.up; down = h.down }));
      time = λ n seconds d p. (k.time n seconds d p.0, λ le replied link is. (let h = p.1 le replied link is in record { room = h.room; up = h.up; down = h.down }));
      action = λ n c link a d last acts may p. (
        k.action n c link a d last acts may p.0,
        λ le replied other is. (let most = counted_most a n in
            let fits : n ≤ lines_max = omega (arith, le, most) in
            let t = setting_now s d in
            let new = after_action t link a d in
            let x = action_extends t link a d in
            let before = replied_before link d new x replied in
            let here = (p.0.1 fits before).frame.owned c link last in
            let was = link_of_same d new other x.opened is in
            none_by link other d new here.0.0 is.0 x (none_acts t link a d) (p.1 fits before other was)),
      );
      begins = λ n c link d last acts numbered gone stays p. (
        k.begins n c link d last acts numbered gone stays p.0,
        λ le replied. (let fits : n ≤ lines_max = omega (arith, le) in
            let begun = begun_drill s c link d in
            let before = replied_before (last_link c begun) begun (after_leaving s c link d) (opening_adds (setting_now s begun) (last_link c begun) begun) replied in
            begun_loses s c link d (begins_so s opening n c link d le last numbered stays (p.0.1 fits before)) (p.1 fits before)),
      );
    }

none_openings : (s : Setting) (link : ℕ) (links : List ℕ) (d : Drill) → 1 ≤ link → AllByRecursion (λ (l : ℕ). 1 ≤ l) links → NoneLost link d → NoneLost link (after_openings s links d)
none_openings s link [] d one some h = h
none_openings s link (l ∷ links) d one some h =
    none_openings s link links (after_opening s l d) one some.1 (none_by l link d (after_opening s l d) some.0 one (opening_adds s l d) (none_opening s l d) h)

from_one : (from n : ℕ) → 1 ≤ from → AllByRecursion (λ (l : ℕ). 1 ≤ l) (range_with_len from n)
from_one from zero low = tt
from_one from (suc n) low = (low, from_one (from + 1) n (omega (arith, low)))

start_none : (s : Setting) (clients link : ℕ) → 1 ≤ link → link ≤ clients → NoneLost link (start s clients)
unfolding bytes_sent bytes_received
start_none s clients link low high = record {
  room = (let count = length-replicate clients empty_pipes in omega (arith, count, low, high));
  up = λ e. omega arith;
  down = λ e. omega arith;
}

first_loses : (server : SerialServer) (script : ScriptLines) → IsScript script → LosesNothing (opened_drill server script.opening)
unfolding opened_drill
first_loses server script is link within =
    let opening = script.opening in
    let s = setting_of server opening in
    let many = opened_count server script is in
    none_openings s link (links_of opening.clients) (start s opening.clients) within.0 (from_one 1 opening.clients (omega arith))
    (start_none s opening.clients link within.0 (let most = within.1 in omega (arith, most, many)))

pub follows_lose_nothing : (server : SerialServer) (script : ScriptLines) (run : List Mark) → IsScript script → RepliedInBytes run → (follows : Follows server script run) → LosesNothing follows.last
follows_lose_nothing server script run is replied follows =
    let s = setting_of server script.opening in
    (lines_kept s script.opening AnyRaw AnyRaw (LosesThen s script.opening) (loses_kept s script.opening) 0 (length script.lines) script.opening.clients script.lines (opened_drill server script.opening) follows.last
    (lines_of script is) (all_act script.lines) (omega arith) follows.makes (first_then server script is, λ le replied. first_loses server script is)).1 is.few_lines (subst RepliedInBytes follows.marks_are replied)
