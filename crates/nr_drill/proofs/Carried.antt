-- What each side of a link sent is what the other received and what waits in the pipes, as long as nothing else is put there.
use Rattle.std.specs.Prelude.{◌-◌, ◌&&◌, ◌||◌, if◌then◌else◌, slice_get, slice_index_or}
use Rattle.std.specs.List.{AllByRecursion}
use Rattle.std.proofs.lemmas.Bool.{eq-eqb}
use Rattle.std.proofs.Common.{◌≡◌, ◌≢◌, ℕ, zero, suc, ◌+◌, ◌<◌, Bool, true, false, eqb, List, [], ◌∷◌, ◌++◌, length, map, take, drop, Option, None, Some, refl, sym, ap, subst, ◌∙◌, append_assoc, append-nil}
use Rattle.std.proofs.lemmas.List.{get_or-set_same, take-append-drop, length-set}
use Rattle.nr_wire.specs.declared.hello.Side.{Side}
use Rattle.nr_wire.specs.declared.hello.Side.TheVariants.{Initiator, Responder}
use Rattle.nr_reduce.specs.declared.mark.Mark.{Mark}
use Rattle.nr_reduce.specs.declared.mark.Mark.TheVariants as marks
use Rattle.nr_reduce.specs.declared.mark.Told.TheVariants.{Granted}
use Rattle.nr_reduce.specs.declared.mark.Told.TheVariants as told
use Rattle.nr_reduce.specs.declared.mark.LinkParameters.{LinkParameters}
use Rattle.nr_link.specs.declared.end.End.{End}
use Rattle.nr_reduce.specs.declared.call.Call.{Call}
use Rattle.nr_reduce.specs.declared.call.Form.{Form}
use Rattle.nr_reduce.specs.NumberedJournal.{Standing}
use Rattle.nr_reduce.specs.NumberedJournal.Standing.{Old, Kept, New}
use Rattle.nr_reduce.specs.SubmitAnswer.{unless_dropped, submit_answer, submit_answer_after, calls_to_resend}
use Rattle.nr_reduce.specs.OutcomesDue.{outcomes_due}
use Rattle.nr_reduce.specs.Asked.{revoked_bytes}
use Rattle.nr_reduce.specs.Served.{next_call, last_frame_at}
use Rattle.nr_reduce.specs.Run.{client, server}
use Rattle.nr_reduce.specs.Client.{client_rules, client_end, client_output}
use Rattle.nr_reduce.specs.Server.{server_rules}
use Rattle.nr_reduce.specs.ClientState.{ClientState, WaitingCall}
use Rattle.nr_reduce.specs.ServerState.{ReadyCall}
use Rattle.nr_reduce.specs.EndRules.{output_for_all}
use Rattle.nr_reduce.specs.Events.{if_own}
use Rattle.nr_reduce.specs.Events.RunEvent.{MemoryRevoked}
use Rattle.nr_reduce.specs.History.{CompletedCall, bytes_sent, bytes_received, written_at, fed_at, is_drop_of, is_dropped}
use Rattle.nr_reduce.specs.Matched.{Matched, MatchedMark}
use Rattle.nr_reduce.proofs.Standing.{AtEachMark_more, itself, sent_one, received_one}
use Rattle.nr_laws.proofs.DistinctKeys.{any_append}
use Rattle.nr_reduce.proofs.Unconcerned.{not_fed as is_unfed, none_fed}
use Rattle.nr_drill.specs.Drill.{link_of, Setting, Drill, Pipes, empty_pipes, GivenReply, client_of, standing_of, reply_given, resend_mark, after_resends, unwritten, appended, after_output, after_all_output, settled, pipes_of, with_mark, with_pipes, after_feeding, after_feeding_up, after_feeding_down, after_up, after_down, after_handing, after_done, after_dones, after_outcomes, after_submit, if_standing, waiting_call, after_answer, after_call, after_execution, after_work, after_all_up, answer_of_line, open_xid, after_giving_up, after_forget, after_taking_back, after_revoke, after_drop, after_opening, after_grant}
use Rattle.nr_drill.proofs.Lawful.{IsLawful, IsWritten, Keeps, NoneAgain, again_mark, own_written, up_written, down_written, more_due, lawful_settled, lawful_handing, lawful_after_up}
use Rattle.nr_drill.proofs.Followed.{quiet_mark, apart, unconcerned, not_written, Extends}

-- what each side sent is what the other received and what waits
pub record IsCarried (link : ℕ) (d : Drill) : Type 0 where
  pub up : bytes_received link Responder d.marks ++ (pipes_of link d).up ≡ bytes_sent link Initiator d.marks
  pub down : bytes_received link Initiator d.marks ++ (pipes_of link d).down ≡ bytes_sent link Responder d.marks

-- so it is until the link is dropped; then nothing waits
pub record Carries (link : ℕ) (d : Drill) : Type 0 where
  pub matched : Matched link d.marks
  pub room : link - 1 < length d.pipes
  pub carried : is_dropped link d.marks ≡ false → IsCarried link d
  pub gone : is_dropped link d.marks ≡ true → pipes_of link d ≡ empty_pipes

or_false : (b : Bool) → (b || false) ≡ b
or_false true = refl
or_false false = refl

pub same_dropped : (link : ℕ) (run : List Mark) (mark : Mark) → is_drop_of link mark ≡ false → is_dropped link (run ++ mark ∷ []) ≡ is_dropped link run
same_dropped link run mark none =
    any_append (is_drop_of link) run (mark ∷ []) ∙ ap (λ (b : Bool). is_dropped link run || (b || false)) none ∙ or_false (is_dropped link run)

pub same_sent : (link : ℕ) (side : Side) (run : List Mark) (mark : Mark) → written_at link side mark ≡ [] → bytes_sent link side (run ++ mark ∷ []) ≡ bytes_sent link side run
same_sent link side run mark none = sent_one link side run mark ∙ ap (λ (xs : List ℕ). bytes_sent link side run ++ xs) none ∙ append-nil (bytes_sent link side run)

pub same_received : (link : ℕ) (side : Side) (run : List Mark) (mark : Mark) → fed_at link side mark ≡ [] → bytes_received link side (run ++ mark ∷ []) ≡ bytes_received link side run
same_received link side run mark none = received_one link side run mark ∙ ap (λ (xs : List ℕ). bytes_received link side run ++ xs) none ∙ append-nil (bytes_received link side run)

-- ===== a mark of no bytes

pub carry_mark : (link : ℕ) (mark : Mark) (d : Drill) → written_at link Initiator mark ≡ [] → written_at link Responder mark ≡ [] → fed_at link Initiator mark ≡ [] → fed_at link Responder mark ≡ [] →
    is_drop_of link mark ≡ false → MatchedMark link d.marks mark → Carries link d → Carries link (with_mark mark d)
carry_mark link mark d wi wr fi fr standing m c = record {
  matched = AtEachMark_more (MatchedMark link) [] d.marks mark c.matched m;
  room = c.room;
  carried = λ e. (let h = c.carried (sym (same_dropped link d.marks mark standing) ∙ e) in record {
    up = ap (λ (xs : List ℕ). xs ++ (pipes_of link d).up) (same_received link Responder d.marks mark fr) ∙ h.up ∙ sym (same_sent link Initiator d.marks mark wi);
    down = ap (λ (xs : List ℕ). xs ++ (pipes_of link d).down) (same_received link Initiator d.marks mark fi) ∙ h.down ∙ sym (same_sent link Responder d.marks mark wr);
  });
  gone = λ e. c.gone (sym (same_dropped link d.marks mark standing) ∙ e);
}

-- ===== what is written

pub own_pipes : (link : ℕ) (pipes : Pipes) (d : Drill) → link - 1 < length d.pipes → pipes_of link (with_pipes link pipes d) ≡ pipes
own_pipes link pipes d room = get_or-set_same d.pipes (link - 1) pipes empty_pipes room

pub still_room : (link : ℕ) (pipes : Pipes) (d : Drill) → link - 1 < length d.pipes → link - 1 < length (with_pipes link pipes d).pipes
still_room link pipes d room = subst (λ (n : ℕ). link - 1 < n) (sym (length-set d.pipes (link - 1) pipes)) room

carry_output : (link : ℕ) (side : Side) (bytes : List ℕ) (d : Drill) → is_dropped link d.marks ≡ false → Carries link d → Carries link (after_output link side bytes d)
carry_output link side [] d standing c = c
carry_output link Initiator (b ∷ bytes) d standing c =
    let mark = marks.Wrote link Initiator (b ∷ bytes) in
    let pipes = pipes_of link d in
    let mid = with_mark mark d in
    let own = own_pipes link (appended Initiator (b ∷ bytes) pipes) mid c.room in
    let h = c.carried standing in
    let kept : is_dropped link (d.marks ++ mark ∷ []) ≡ false = same_dropped link d.marks mark refl ∙ standing in
    record {
      matched = AtEachMark_more (MatchedMark link) [] d.marks mark c.matched tt;
      room = still_room link (appended Initiator (b ∷ bytes) pipes) mid c.room;
      carried = λ e. record {
        up =
            (λ i. same_received link Responder d.marks mark refl i ++ (own i).up) ∙ sym (append_assoc (bytes_received link Responder d.marks) pipes.up (b ∷ bytes))
            ∙ ap (λ (xs : List ℕ). xs ++ (b ∷ bytes)) h.up ∙ sym (sent_one link Initiator d.marks mark ∙ ap (λ (xs : List ℕ). bytes_sent link Initiator d.marks ++ xs) (own_written link Initiator (b ∷ bytes)));
        down = (λ i. same_received link Initiator d.marks mark refl i ++ (own i).down) ∙ h.down ∙ sym (same_sent link Responder d.marks mark (up_written link (b ∷ bytes)));
      };
      gone = λ e. absurd (true_false (sym e ∙ kept));
    }
  where
    true_false : true ≡ false → ⊥
    true_false e = absurd cc
carry_output link Responder (b ∷ bytes) d standing c =
    let mark = marks.Wrote link Responder (b ∷ bytes) in
    let pipes = pipes_of link d in
    let mid = with_mark mark d in
    let own = own_pipes link (appended Responder (b ∷ bytes) pipes) mid c.room in
    let h = c.carried standing in
    let kept : is_dropped link (d.marks ++ mark ∷ []) ≡ false = same_dropped link d.marks mark refl ∙ standing in
    record {
      matched = AtEachMark_more (MatchedMark link) [] d.marks mark c.matched tt;
      room = still_room link (appended Responder (b ∷ bytes) pipes) mid c.room;
      carried = λ e. record {
        up = (λ i. same_received link Responder d.marks mark refl i ++ (own i).up) ∙ h.up ∙ sym (same_sent link Initiator d.marks mark (down_written link (b ∷ bytes)));
        down =
            (λ i. same_received link Initiator d.marks mark refl i ++ (own i).down) ∙ sym (append_assoc (bytes_received link Initiator d.marks) pipes.down (b ∷ bytes))
            ∙ ap (λ (xs : List ℕ). xs ++ (b ∷ bytes)) h.down ∙ sym (sent_one link Responder d.marks mark ∙ ap (λ (xs : List ℕ). bytes_sent link Responder d.marks ++ xs) (own_written link Responder (b ∷ bytes)));
      };
      gone = λ e. absurd (true_false (sym e ∙ kept));
    }
  where
    true_false : true ≡ false → ⊥
    true_false e = absurd cc

output_dropped : (link : ℕ) (side : Side) (bytes : List ℕ) (d : Drill) → is_dropped link (after_output link side bytes d).marks ≡ is_dropped link d.marks
output_dropped link side [] d = refl
output_dropped link side (b ∷ bytes) d = same_dropped link d.marks (marks.Wrote link side (b ∷ bytes)) refl

-- on a link that stands
pub carry_settled : (s : Setting) (link : ℕ) (d : Drill) → is_dropped link d.marks ≡ false → Carries link d → Carries link (settled s link d)
unfolding settled
carry_settled s link d standing c =
    let up = unwritten (s.opened link) link Initiator d.marks in
    let mid = after_all_output s link Initiator d in
    carry_output link Responder (unwritten (s.opened link) link Responder mid.marks) mid (output_dropped link Initiator up d ∙ standing) (carry_output link Initiator up d standing c)

-- if nothing is left to write, nothing changes
pub settled_same : (s : Setting) (link : ℕ) (d : Drill) → IsWritten (s.opened link) link d.marks → settled s link d ≡ d
unfolding settled
settled_same s link d w =
    let o = s.opened link in
    ap (λ (m : Drill). after_output link Responder (unwritten o link Responder m.marks) m) (ap (λ (xs : List ℕ). after_output link Initiator xs d) w.client)
    ∙ ap (λ (xs : List ℕ). after_output link Responder xs d) w.server

-- ===== what is fed

pub own_fed : (link : ℕ) (side : Side) (bytes : List ℕ) → fed_at link side (marks.Fed link side bytes) ≡ bytes
own_fed link Initiator bytes = ap (λ (b : Bool). if b && true then bytes else []) (itself link)
own_fed link Responder bytes = ap (λ (b : Bool). if b && true then bytes else []) (itself link)

pub up_fed : (link : ℕ) (bytes : List ℕ) → fed_at link Initiator (marks.Fed link Responder bytes) ≡ []
up_fed link bytes = ap (λ (b : Bool). if b && false then bytes else []) (itself link)

pub down_fed : (link : ℕ) (bytes : List ℕ) → fed_at link Responder (marks.Fed link Initiator bytes) ≡ []
down_fed link bytes = ap (λ (b : Bool). if b && false then bytes else []) (itself link)

carry_up : (link : ℕ) (piece rest : List ℕ) (d : Drill) → piece ++ rest ≡ (pipes_of link d).up → is_dropped link d.marks ≡ false → Carries link d →
    Carries link (after_feeding link Responder piece (record (pipes_of link d) { up = rest }) d)
carry_up link [] rest d is standing c = c
carry_up link (b ∷ piece) rest d is standing c =
    let mark = marks.Fed link Responder (b ∷ piece) in
    let pipes : Pipes = record (pipes_of link d) { up = rest } in
    let mid = with_mark mark d in
    let own = own_pipes link pipes mid c.room in
    let h = c.carried standing in
    let got = bytes_received link Responder d.marks in
    let all : (got ++ (b ∷ piece)) ++ rest ≡ bytes_sent link Initiator d.marks = append_assoc got (b ∷ piece) rest ∙ ap (λ (xs : List ℕ). got ++ xs) is ∙ h.up in
    let kept : is_dropped link (d.marks ++ mark ∷ []) ≡ false = same_dropped link d.marks mark refl ∙ standing in
    record {
      matched = AtEachMark_more (MatchedMark link) [] d.marks mark c.matched (λ same. (rest, all));
      room = still_room link pipes mid c.room;
      carried = λ e. record {
        up =
            (λ i. (received_one link Responder d.marks mark ∙ ap (λ (xs : List ℕ). got ++ xs) (own_fed link Responder (b ∷ piece))) i ++ (own i).up)
            ∙ all ∙ sym (same_sent link Initiator d.marks mark refl);
        down = (λ i. same_received link Initiator d.marks mark (up_fed link (b ∷ piece)) i ++ (own i).down) ∙ h.down ∙ sym (same_sent link Responder d.marks mark refl);
      };
      gone = λ e. absurd (true_false (sym e ∙ kept));
    }
  where
    true_false : true ≡ false → ⊥
    true_false e = absurd cc

carry_down : (link : ℕ) (piece rest : List ℕ) (d : Drill) → piece ++ rest ≡ (pipes_of link d).down → is_dropped link d.marks ≡ false → Carries link d →
    Carries link (after_feeding link Initiator piece (record (pipes_of link d) { down = rest }) d)
carry_down link [] rest d is standing c = c
carry_down link (b ∷ piece) rest d is standing c =
    let mark = marks.Fed link Initiator (b ∷ piece) in
    let pipes : Pipes = record (pipes_of link d) { down = rest } in
    let mid = with_mark mark d in
    let own = own_pipes link pipes mid c.room in
    let h = c.carried standing in
    let got = bytes_received link Initiator d.marks in
    let all : (got ++ (b ∷ piece)) ++ rest ≡ bytes_sent link Responder d.marks = append_assoc got (b ∷ piece) rest ∙ ap (λ (xs : List ℕ). got ++ xs) is ∙ h.down in
    let kept : is_dropped link (d.marks ++ mark ∷ []) ≡ false = same_dropped link d.marks mark refl ∙ standing in
    record {
      matched = AtEachMark_more (MatchedMark link) [] d.marks mark c.matched (λ same. (rest, all));
      room = still_room link pipes mid c.room;
      carried = λ e. record {
        up = (λ i. same_received link Responder d.marks mark (down_fed link (b ∷ piece)) i ++ (own i).up) ∙ h.up ∙ sym (same_sent link Initiator d.marks mark refl);
        down =
            (λ i. (received_one link Initiator d.marks mark ∙ ap (λ (xs : List ℕ). got ++ xs) (own_fed link Initiator (b ∷ piece))) i ++ (own i).down)
            ∙ all ∙ sym (same_sent link Responder d.marks mark refl);
      };
      gone = λ e. absurd (true_false (sym e ∙ kept));
    }
  where
    true_false : true ≡ false → ⊥
    true_false e = absurd cc

-- ===== each function, on its own link

feed_dropped : (link : ℕ) (side : Side) (piece : List ℕ) (rest : Pipes) (d : Drill) → is_dropped link (after_feeding link side piece rest d).marks ≡ is_dropped link d.marks
feed_dropped link side [] rest d = refl
feed_dropped link side (b ∷ piece) rest d = same_dropped link d.marks (marks.Fed link side (b ∷ piece)) refl

take_none : (n : ℕ) → take {A = ℕ} n [] ≡ []
take_none zero = refl
take_none (suc n) = refl

pub carries_up : (s : Setting) (link n : ℕ) (d : Drill) → Keeps s link d → Carries link d → Carries link (after_up s link n d)
unfolding after_up
carries_up s link n d h c = by (is_dropped link d.marks) refl
  where
    fed : Drill
    fed = after_feeding_up link n d

    rest : Pipes
    rest = record (pipes_of link d) { up = drop n (pipes_of link d).up }

    by : (b : Bool) → is_dropped link d.marks ≡ b → Carries link (settled s link fed)
    by true e =
        let none : take n (pipes_of link d).up ≡ [] = ap (λ (p : Pipes). take n p.up) (c.gone e) ∙ take_none n in
        let same : fed ≡ d = ap (λ (xs : List ℕ). after_feeding link Responder xs rest d) none in
        subst (λ (x : Drill). Carries link (settled s link x)) (sym same) (subst (Carries link) (sym (settled_same s link d h.1)) c)
    by false e =
        carry_settled s link fed (feed_dropped link Responder (take n (pipes_of link d).up) rest d ∙ e)
        (carry_up link (take n (pipes_of link d).up) (drop n (pipes_of link d).up) d (take-append-drop n (pipes_of link d).up) e c)

carry_handing : (link : ℕ) (c : Option CompletedCall) (d : Drill) → Carries link d → Carries link (after_handing link c d)
carry_handing link None d h = h
carry_handing link (Some c) d h = carry_mark link (marks.Done link c.xid c.outcome) d refl refl refl refl refl tt h

handing_dropped : (link : ℕ) (c : Option CompletedCall) (d : Drill) → is_dropped link (after_handing link c d).marks ≡ is_dropped link d.marks
handing_dropped link None d = refl
handing_dropped link (Some c) d = same_dropped link d.marks (marks.Done link c.xid c.outcome) refl

carry_dones : (s : Setting) (link n : ℕ) (d : Drill) → Carries link d → Carries link (after_dones s link n d)
unfolding after_done
carry_dones s link zero d h = h
carry_dones s link (suc n) d h = carry_dones s link n (after_done s link d) (carry_handing link (slice_get (outcomes_due (s.opened link) link d.marks) 0) d h)

dones_dropped : (s : Setting) (link n : ℕ) (d : Drill) → is_dropped link (after_dones s link n d).marks ≡ is_dropped link d.marks
unfolding after_done
dones_dropped s link zero d = refl
dones_dropped s link (suc n) d = dones_dropped s link n (after_done s link d) ∙ handing_dropped link (slice_get (outcomes_due (s.opened link) link d.marks) 0) d

handing_keeps : (s : Setting) (link : ℕ) (c : Option CompletedCall) (d : Drill) → slice_get (outcomes_due (s.opened link) link d.marks) 0 ≡ c → Keeps s link d → Keeps s link (after_handing link c d)
handing_keeps s link None d e h = h
handing_keeps s link (Some c) d e h = (
  lawful_handing (s.opened link) link (Some c) d e h.2 h.0,
  quiet_mark (s.opened link) link d.marks (marks.Done link c.xid c.outcome) h.0 h.1 refl refl refl refl,
  again_mark (s.opened link) link d.marks (marks.Done link c.xid c.outcome) tt h.2,
)

pub dones_keep : (s : Setting) (link n : ℕ) (d : Drill) → Keeps s link d → Keeps s link (after_dones s link n d)
unfolding after_done
dones_keep s link zero d h = h
dones_keep s link (suc n) d h = dones_keep s link n (after_done s link d) (handing_keeps s link (slice_get (outcomes_due (s.opened link) link d.marks) 0) d refl h)

-- calls that are sent again
carry_resends : (link : ℕ) (ws : List WaitingCall) (d : Drill) → Carries link d → Carries link (record d { marks = d.marks ++ map (resend_mark link) ws })
carry_resends link [] d c = subst (λ (run : List Mark). Carries link (record d { marks = run })) (sym (append-nil d.marks)) c
carry_resends link (w ∷ ws) d c =
    let mark : Mark = resend_mark link w in
    subst (λ (run : List Mark). Carries link (record d { marks = run })) (append_assoc d.marks (mark ∷ []) (map (resend_mark link) ws))
    (carry_resends link ws (with_mark mark d) (carry_mark link mark d refl refl refl refl refl tt c))

resends_stand : (link : ℕ) (ws : List WaitingCall) (run : List Mark) → is_dropped link (run ++ map (resend_mark link) ws) ≡ is_dropped link run
resends_stand link [] run = ap (λ (all : List Mark). is_dropped link all) (append-nil run)
resends_stand link (w ∷ ws) run =
    ap (λ (all : List Mark). is_dropped link all) (sym (append_assoc run (resend_mark link w ∷ []) (map (resend_mark link) ws)))
    ∙ resends_stand link ws (run ++ resend_mark link w ∷ []) ∙ same_dropped link run (resend_mark link w) refl

pub none_again : (s : Setting) (link : ℕ) (d : Drill) → NoneAgain (s.opened link) link d.marks → after_resends s link d ≡ d
unfolding after_resends
none_again s link d none =
    ap (λ (ws : List WaitingCall). record d { marks = d.marks ++ map (resend_mark link) ws }) none
    ∙ ap (λ (run : List Mark). record d { marks = run }) (append-nil d.marks)

pub carries_down : (s : Setting) (link n : ℕ) (d : Drill) → Keeps s link d → Carries link d → Carries link (after_down s link n d)
unfolding after_down after_outcomes after_resends
carries_down s link n d h c = by (is_dropped link d.marks) refl
  where
    fed : Drill
    fed = after_feeding_down link n d

    rest : Pipes
    rest = record (pipes_of link d) { down = drop n (pipes_of link d).down }

    again : Drill → List WaitingCall
    again x = calls_to_resend (client (s.opened link) link x.marks)

    sent_of : Drill → Drill
    sent_of x = record x { marks = x.marks ++ map (resend_mark link) (again x) }

    handed : Drill → Drill
    handed x = after_dones s link (length (outcomes_due (s.opened link) link x.marks)) x

    by : (b : Bool) → is_dropped link d.marks ≡ b → Carries link (settled s link (handed (sent_of fed)))
    by true e =
        let none : take n (pipes_of link d).down ≡ [] = ap (λ (p : Pipes). take n p.down) (c.gone e) ∙ take_none n in
        let same : fed ≡ d = ap (λ (xs : List ℕ). after_feeding link Initiator xs rest d) none in
        let unsent : sent_of d ≡ d = none_again s link d h.2 in
        let k = length (outcomes_due (s.opened link) link d.marks) in
        subst (λ (x : Drill). Carries link (settled s link (handed (sent_of x)))) (sym same)
        (subst (λ (x : Drill). Carries link (settled s link (handed x))) (sym unsent)
        (subst (Carries link) (sym (settled_same s link (after_dones s link k d) (dones_keep s link k d h).1)) (carry_dones s link k d c)))
    by false e =
        let sent : Drill = sent_of fed in
        let k = length (outcomes_due (s.opened link) link sent.marks) in
        let fed_stands : is_dropped link fed.marks ≡ false = feed_dropped link Initiator (take n (pipes_of link d).down) rest d ∙ e in
        carry_settled s link (after_dones s link k sent) (dones_dropped s link k sent ∙ resends_stand link (again fed) fed.marks ∙ fed_stands)
        (carry_dones s link k sent (carry_resends link (again fed) fed (carry_down link (take n (pipes_of link d).down) (drop n (pipes_of link d).down) d (take-append-drop n (pipes_of link d).down) e c)))

carry_answer : (s : Setting) (link : ℕ) (call : ReadyCall) (answer : Option GivenReply) (d : Drill) → is_dropped link d.marks ≡ false → Carries link d → Carries link (after_answer s link call answer d)
carry_answer s link call None d standing c = c
carry_answer s link call (Some g) d standing c =
    let mark = marks.Execute link call.xid g.moment call.payload g.place g.reply in
    carry_settled s link (with_mark mark d) (same_dropped link d.marks mark refl ∙ standing) (carry_mark link mark d refl refl refl refl refl tt c)

carry_call : (s : Setting) (link : ℕ) (call : ReadyCall) (is : Standing) (answer : Option GivenReply) (d : Drill) → is_dropped link d.marks ≡ false → Carries link d → Carries link (after_call s link call is answer d)
carry_call s link call (Old top) answer d standing c =
    let mark = marks.Told link (told.Old call.xid (last_frame_at link d.marks)) in
    carry_settled s link (with_mark mark d) (same_dropped link d.marks mark refl ∙ standing) (carry_mark link mark d refl refl refl refl refl tt c)
carry_call s link call (Kept place) answer d standing c = carry_answer s link call answer d standing c
carry_call s link call New answer d standing c = carry_answer s link call answer d standing c

carry_execution : (s : Setting) (link : ℕ) (call : Option ReadyCall) (d : Drill) → is_dropped link d.marks ≡ false → Carries link d → Carries link (after_execution s link call d)
carry_execution s link None d standing c = c
carry_execution s link (Some call) d standing c = carry_call s link call (standing_of s link d call) (reply_given s link d call) d standing c

pub carries_work : (s : Setting) (link : ℕ) (d : Drill) → Carries link d → Carries link (after_work s link d)
unfolding after_work waiting_call
carries_work s link d c = by (is_dropped link d.marks) refl
  where
    next : Option ReadyCall
    next = next_call (s.opened link) link d.marks

    by : (b : Bool) → is_dropped link d.marks ≡ b → Carries link (after_execution s link (if_standing (is_dropped link d.marks) next) d)
    by true e = subst (λ (x : Option ReadyCall). Carries link (after_execution s link x d)) (sym (ap (λ (b : Bool). if_standing b next) e)) c
    by false e = carry_execution s link (if_standing (is_dropped link d.marks) next) d e c

pub carries_submit : (s : Setting) (link : ℕ) (call : Call) (form : Form) (d : Drill) → Keeps s link d → Carries link d → Carries link (after_submit s link call form d)
unfolding after_submit submit_answer_after
carries_submit s link call form d h c = by (is_dropped link d.marks) refl
  where
    o : LinkParameters
    o = s.opened link

    answered : Bool → Mark
    answered b = marks.Submit link call form (unless_dropped b (submit_answer (client o link d.marks) call form))

    by : (b : Bool) → is_dropped link d.marks ≡ b → Carries link (settled s link (with_mark (answered (is_dropped link d.marks)) d))
    by true e =
        let mark = answered (is_dropped link d.marks) in
        subst (Carries link) (sym (settled_same s link (with_mark mark d) (quiet_mark o link d.marks mark h.0 h.1 refl refl
        (ap (λ (b : Bool). more_due o link Initiator d.marks (answered b)) e) (ap (λ (b : Bool). more_due o link Responder d.marks (answered b)) e))))
        (carry_mark link mark d refl refl refl refl refl tt c)
    by false e =
        let mark = answered (is_dropped link d.marks) in
        carry_settled s link (with_mark mark d) (same_dropped link d.marks mark refl ∙ e) (carry_mark link mark d refl refl refl refl refl tt c)

carry_giving_up : (link : ℕ) (xid : Option ℕ) (d : Drill) → Carries link d → Carries link (after_giving_up link xid d)
carry_giving_up link None d c = c
carry_giving_up link (Some xid) d c = carry_mark link (marks.Forget link xid) d refl refl refl refl refl tt c

pub carries_forget : (s : Setting) (link number : ℕ) (d : Drill) → Carries link d → Carries link (after_forget s link number d)
unfolding after_forget
carries_forget s link number d c = carry_giving_up link (open_xid s link d.marks (answer_of_line s (client_of s link) number d.marks)) d c

-- taking memory back makes nothing due
revoke_client : (o : LinkParameters) (k : ClientState) (ended : Option End) (place xid : ℕ) → output_for_all (client_rules o) (record { state = k; ended = ended }) (MemoryRevoked place xid ∷ []) ≡ []
unfolding client_end client_output
revoke_client o k None place xid = refl
revoke_client o k (Some end) place xid = refl

quiet_revoke : (o : LinkParameters) (link xid : ℕ) (side : Side) (run : List Mark) (bytes : List ℕ) → more_due o link side run (marks.Revoke link xid bytes) ≡ []
quiet_revoke o link xid Initiator run bytes =
    let place = length (bytes_received link Initiator run) in
    ap (λ (b : Bool). output_for_all (client_rules o) (client o link run) (if_own (b && true) (MemoryRevoked place xid ∷ []))) (itself link)
    ∙ revoke_client o (client o link run).state (client o link run).ended place xid
quiet_revoke o link xid Responder run bytes =
    let place = length (bytes_received link Responder run) in
    ap (λ (b : Bool). output_for_all (server_rules o) (server o link run) (if_own (b && false) (MemoryRevoked place xid ∷ []))) (itself link)

carry_taking_back : (s : Setting) (link : ℕ) (xid : Option ℕ) (d : Drill) → Keeps s link d → Carries link d → Carries link (after_taking_back s link xid d)
carry_taking_back s link None d h c = c
carry_taking_back s link (Some xid) d h c = by (is_dropped link d.marks) refl
  where
    o : LinkParameters
    o = s.opened link

    mark : Mark
    mark = marks.Revoke link xid (revoked_bytes o link d.marks xid)

    by : (b : Bool) → is_dropped link d.marks ≡ b → Carries link (settled s link (with_mark mark d))
    by true e =
        subst (Carries link) (sym (settled_same s link (with_mark mark d) (quiet_mark o link d.marks mark h.0 h.1 refl refl
        (quiet_revoke o link xid Initiator d.marks (revoked_bytes o link d.marks xid)) (quiet_revoke o link xid Responder d.marks (revoked_bytes o link d.marks xid)))))
        (carry_mark link mark d refl refl refl refl refl tt c)
    by false e = carry_settled s link (with_mark mark d) (same_dropped link d.marks mark refl ∙ e) (carry_mark link mark d refl refl refl refl refl tt c)

pub carries_revoke : (s : Setting) (link number : ℕ) (d : Drill) → Keeps s link d → Carries link d → Carries link (after_revoke s link number d)
unfolding after_revoke
carries_revoke s link number d h c = carry_taking_back s link (open_xid s link d.marks (answer_of_line s (client_of s link) number d.marks)) d h c

pub dropped_at_last : (link : ℕ) (run : List Mark) → is_dropped link (run ++ marks.Drop link ∷ []) ≡ true
dropped_at_last link run =
    any_append (is_drop_of link) run (marks.Drop link ∷ []) ∙ ap (λ (b : Bool). is_dropped link run || (b || false)) (itself link) ∙ or_true (is_dropped link run)
  where
    or_true : (b : Bool) → (b || true) ≡ true
    or_true true = refl
    or_true false = refl

pub carries_drop : (link : ℕ) (d : Drill) → Carries link d → Carries link (after_drop link d)
carries_drop link d c =
    let mark = marks.Drop link in
    let mid = with_mark mark d in
    record {
      matched = AtEachMark_more (MatchedMark link) [] d.marks mark c.matched tt;
      room = still_room link empty_pipes mid c.room;
      carried = λ e. absurd (true_false (sym (dropped_at_last link d.marks) ∙ e));
      gone = λ e. own_pipes link empty_pipes mid c.room;
    }
  where
    true_false : true ≡ false → ⊥
    true_false e = absurd cc

pub carries_grant : (link credits : ℕ) (d : Drill) → Carries link d → Carries link (after_grant link credits d)
carries_grant link credits d c = carry_mark link (marks.Told link (Granted credits)) d refl refl refl refl refl tt c

-- ===== on other links

pub not_fed : (link : ℕ) (side : Side) (mark : Mark) → link_of mark ≢ link → fed_at link side mark ≡ []
not_fed link side mark ne = none_fed link side mark (is_unfed link side mark (unconcerned link side mark ne))

pub not_drop : (link : ℕ) (mark : Mark) → link_of mark ≢ link → is_drop_of link mark ≡ false
not_drop link (marks.Drop l) ne = apart l link ne
not_drop link (marks.Submit l call form answer) ne = refl
not_drop link (marks.Wrote l s bytes) ne = refl
not_drop link (marks.Fed l s bytes) ne = refl
not_drop link (marks.Execute l xid moment payload place reply) ne = refl
not_drop link (marks.Done l xid outcome) ne = refl
not_drop link (marks.Lost l xid) ne = refl
not_drop link (marks.Forget l xid) ne = refl
not_drop link (marks.Revoke l xid bytes) ne = refl
not_drop link (marks.Told l what) ne = refl

matched_elsewhere : (link : ℕ) (run : List Mark) (mark : Mark) → link_of mark ≢ link → MatchedMark link run mark
matched_elsewhere link run (marks.Fed l s bytes) ne = λ same. absurd (ne same)
matched_elsewhere link run (marks.Submit l call form answer) ne = tt
matched_elsewhere link run (marks.Wrote l s bytes) ne = tt
matched_elsewhere link run (marks.Execute l xid moment payload place reply) ne = tt
matched_elsewhere link run (marks.Done l xid outcome) ne = tt
matched_elsewhere link run (marks.Lost l xid) ne = tt
matched_elsewhere link run (marks.Forget l xid) ne = tt
matched_elsewhere link run (marks.Revoke l xid bytes) ne = tt
matched_elsewhere link run (marks.Drop l) ne = tt
matched_elsewhere link run (marks.Told l what) ne = tt

pub record IsSameHere (link : ℕ) (old new : List Mark) : Type 0 where
  pub sent : (side : Side) → bytes_sent link side new ≡ bytes_sent link side old
  pub received : (side : Side) → bytes_received link side new ≡ bytes_received link side old
  pub dropped : is_dropped link new ≡ is_dropped link old
  pub matched : Matched link old → Matched link new

pub same_here : (link other : ℕ) (old added : List Mark) → other ≢ link → AllByRecursion (λ (mark : Mark). link_of mark ≡ other) added → IsSameHere link old (old ++ added)
same_here link other old [] ne own =
    subst (IsSameHere link old) (sym (append-nil old)) (record { sent = λ side. refl; received = λ side. refl; dropped = refl; matched = λ m. m })
same_here link other old (mark ∷ added) ne own =
    let from : link_of mark ≢ link = (λ same. ne (sym own.0 ∙ same)) in
    let run = old ++ mark ∷ [] in
    let rest = same_here link other run added ne own.1 in
    subst (IsSameHere link old) (append_assoc old (mark ∷ []) added) (record {
      sent = λ side. rest.sent side ∙ same_sent link side old mark (not_written link side mark from);
      received = λ side. rest.received side ∙ same_received link side old mark (not_fed link side mark from);
      dropped = rest.dropped ∙ same_dropped link old mark (not_drop link mark from);
      matched = λ m. rest.matched (AtEachMark_more (MatchedMark link) [] old mark m (matched_elsewhere link old mark from));
    })

-- no mark is of the link
pub here_all : (link : ℕ) (old added : List Mark) → AllByRecursion (λ (mark : Mark). link_of mark ≢ link) added → IsSameHere link old (old ++ added)
here_all link old [] apart = subst (IsSameHere link old) (sym (append-nil old)) (record { sent = λ side. refl; received = λ side. refl; dropped = refl; matched = λ m. m })
here_all link old (mark ∷ added) apart =
    let one = same_here link (link_of mark) old (mark ∷ []) apart.0 (refl, tt) in
    let rest = here_all link (old ++ mark ∷ []) added apart.1 in
    subst (IsSameHere link old) (append_assoc old (mark ∷ []) added) (record {
      sent = λ side. rest.sent side ∙ one.sent side;
      received = λ side. rest.received side ∙ one.received side;
      dropped = rest.dropped ∙ one.dropped;
      matched = λ m. rest.matched (one.matched m);
    })

pub carries_elsewhere : (link other : ℕ) (old new : Drill) → other ≢ link → link - 1 ≢ other - 1 → Extends other old new → Carries link old → Carries link new
carries_elsewhere link other old new ne apart_pipes x c =
    let same : IsSameHere link old.marks new.marks = subst (IsSameHere link old.marks) (sym x.marks.is) (same_here link other old.marks x.marks.added ne x.marks.own) in
    let pipes = x.pipes link apart_pipes in
    record {
      matched = same.matched c.matched;
      room = subst (λ (n : ℕ). link - 1 < n) (sym x.room) c.room;
      carried = λ e. (let h = c.carried (sym same.dropped ∙ e) in record {
        up = (λ i. same.received Responder i ++ (pipes i).up) ∙ h.up ∙ sym (same.sent Initiator);
        down = (λ i. same.received Initiator i ++ (pipes i).down) ∙ h.down ∙ sym (same.sent Responder);
      });
      gone = λ e. pipes ∙ c.gone (sym same.dropped ∙ e);
    }

pub true_not : true ≡ false → ⊥
true_not e = absurd cc

pub other_than : (a b : ℕ) → eqb a b ≡ false → a ≢ b
other_than a b is same = true_not (sym (eq-eqb a b same) ∙ is)

-- a drill with the same marks and pipes
pub same_marks : (link : ℕ) (old new : Drill) → new.marks ≡ old.marks → new.pipes ≡ old.pipes → Carries link old → Carries link new
same_marks link old new m p c = record {
  matched = subst (Matched link) (sym m) c.matched;
  room = subst (λ (ps : List Pipes). link - 1 < length ps) (sym p) c.room;
  carried = λ e. (let h = c.carried (ap (λ (run : List Mark). is_dropped link run) (sym m) ∙ e) in record {
    up = (λ i. bytes_received link Responder (m i) ++ (slice_index_or (p i) (link - 1) empty_pipes).up) ∙ h.up ∙ ap (λ (run : List Mark). bytes_sent link Initiator run) (sym m);
    down = (λ i. bytes_received link Initiator (m i) ++ (slice_index_or (p i) (link - 1) empty_pipes).down) ∙ h.down ∙ ap (λ (run : List Mark). bytes_sent link Responder run) (sym m);
  });
  gone = λ e. ap (λ (ps : List Pipes). slice_index_or ps (link - 1) empty_pipes) p ∙ c.gone (ap (λ (run : List Mark). is_dropped link run) (sym m) ∙ e);
}

-- ===== a link opens

pub opening_carries : (s : Setting) (link : ℕ) (d : Drill) → NoneAgain (s.opened link) link d.marks → IsLawful (s.opened link) link d.marks → is_dropped link d.marks ≡ false → Carries link d → Carries link (after_opening s link d)
unfolding after_opening
opening_carries s link d none h standing c =
    let one = settled s link d in
    let kept = lawful_settled s link d none h in
    let two = after_all_up s link one in
    carries_down s link (length (pipes_of link two).down) two (lawful_after_up s link (length (pipes_of link one).up) one kept)
    (carries_up s link (length (pipes_of link one).up) one kept (carry_settled s link d standing c))

-- a link of which nothing happened, with empty pipes
pub fresh_carries : (link : ℕ) (d : Drill) → link - 1 < length d.pipes → pipes_of link d ≡ empty_pipes → bytes_sent link Initiator d.marks ≡ [] → bytes_sent link Responder d.marks ≡ [] →
    bytes_received link Initiator d.marks ≡ [] → bytes_received link Responder d.marks ≡ [] → Matched link d.marks → Carries link d
fresh_carries link d room none up down got heard matched = record {
  matched = matched;
  room = room;
  carried = λ e. record { up = (λ i. heard i ++ (none i).up) ∙ sym up; down = (λ i. got i ++ (none i).down) ∙ sym down };
  gone = λ e. none;
}
