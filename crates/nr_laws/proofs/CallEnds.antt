-- The frame at which a server ends for a call.
use Rattle.std.proofs.Common.{◌≡◌, ℕ, Bool, false, cond, List, ◌∷◌, ◌++◌, Option, None, Some, Ok, refl, sym, ap, subst, ◌∙◌, arith, inl, inr}
use Rattle.nr_regions.specs.Access.{Grant}
use Rattle.nr_wire.specs.declared.hello.Side.TheVariants.{Initiator, Responder}
use Rattle.nr_wire.specs.Hello.{hello_of}
use Rattle.nr_wire.specs.Segment.{Segment}
use Rattle.nr_link.specs.declared.end.End.{End as Stop}
use Rattle.nr_link.specs.declared.end.End.TheVariants as ends
use Rattle.nr_link.specs.Frames.{Frame, is_hello}
use Rattle.nr_link.specs.Ending.{frame_segment, frame_end, hello_end}
use Rattle.nr_reduce.specs.declared.mark.Mark.{Mark}
use Rattle.nr_reduce.specs.declared.mark.LinkParameters.{LinkParameters}
use Rattle.nr_reduce.specs.OfferedRegions.{region_grants}
use Rattle.nr_reduce.specs.Events.{RunEvent, events}
use Rattle.nr_reduce.specs.Events.RunEvent.{FrameReceived, CallSubmitted, MemoryRevoked, CallExecuted, QueueWritten, ServerTold}
use Rattle.nr_reduce.specs.EndRules.{end_state_after}
use Rattle.nr_reduce.specs.ServerState.{ServerState}
use Rattle.nr_reduce.specs.ServerFrames.{frame_effect}
use Rattle.nr_reduce.specs.Server.{server_rules, server_end, initial_server, server_readiness, or_refusal, refusal_end}
use Rattle.nr_reduce.specs.Run.{server}
use Rattle.nr_reduce.specs.RunLaws.{server_by}
use Rattle.nr_laws.proofs.EndReasons.{IsCallReason}
use Rattle.nr_laws.specs.MatchedSoFar.{MatchedSoFar}
use Rattle.nr_laws.specs.Typed.{IsTyped}
use Rattle.nr_laws.proofs.EventOutputs.{GoesOn, later_preserve}
use Rattle.nr_laws.proofs.CallRefusals.{RefusedBy, refused_by, frame_other}
use Rattle.nr_laws.proofs.EndingEvents.{ends_at_lem}
use Rattle.nr_laws.proofs.HeldChunks.{server_good}
use Rattle.nr_laws.proofs.ServerAlong.{ServerGood, FrameGood}
use Rattle.nr_laws.proofs.ServerEnds.{hello_goes, ends_as_old}
use Rattle.nr_link.specs.Reasons.{REASON_OLD}
use Rattle.nr_laws.proofs.Basics.{none_some_lem}

-- ---- The frame that ends a server for a call

pub record RefusedAt (opened : LinkParameters) (link : ℕ) (run : List Mark) (reason : ℕ) : Type 0 where
  pub earlier : List RunEvent
  pub frame : Frame
  pub later : List RunEvent
  pub segment : Segment
  pub is : events link Responder run ≡ earlier ++ FrameReceived frame ∷ later
  pub behind : is_hello frame ≡ false
  pub is_segment : frame_segment frame ≡ Ok segment
  pub live : (end_state_after (server_rules opened) (initial_server opened) earlier).ended ≡ None
  pub fits : frame_end (server_readiness opened (server_by opened earlier)) (region_grants frame.end (server_by opened earlier).regions) frame ≡ None
  pub cause : RefusedBy (server_by opened earlier) frame segment reason

reason_same : (a b n m : ℕ) → Some (ends.Bad a n) ≡ Some (ends.Bad b m) → n ≡ m
reason_same a b n m e = cc

not_old : (a reason b : ℕ) → IsCallReason reason → ends.Bad a reason ≡ ends.Bad b REASON_OLD → ⊥
not_old a reason b own e = by own (let same : reason ≡ REASON_OLD = cc in same)
  where
    by : IsCallReason reason → reason ≡ REASON_OLD → ⊥
    by (inl head) is = omega (arith, head, is)
    by (inr xid) is = omega (arith, xid, is)

refused_frame : (opened : LinkParameters) (link : ℕ) (run : List Mark) (es : List RunEvent) (f : Frame) (more : List RunEvent) (at reason : ℕ) → events link Responder run ≡ es ++ FrameReceived f ∷ more
    → (end_state_after (server_rules opened) (initial_server opened) es).ended ≡ None → FrameGood f → IsCallReason reason → server_end opened (server_by opened es) (FrameReceived f) ≡ Some (ends.Bad at reason) → RefusedAt opened link run reason
unfolding server_end
refused_frame opened link run es f more at reason all live (inl h) own e =
    absurd (none_some_lem (ends.Bad at reason) (server_end opened (server_by opened es) (FrameReceived f)) (hello_goes opened (server_by opened es) f h.0 h.1) e)
refused_frame opened link run es f more at reason all live (inr (s, behind, is)) own e =
    by (frame_end (server_readiness opened k) grants f) refl (ap (λ (b : Bool). cond b (hello_end (hello_of Initiator f.bytes)) (or_refusal k f (frame_end (server_readiness opened k) grants f))) (sym behind) ∙ e)
  where
    k : ServerState
    k = server_by opened es

    grants : List Grant
    grants = region_grants f.end k.regions

    by_refusal : frame_end (server_readiness opened k) grants f ≡ None → (o : Option ℕ) → (frame_effect k f).refusal ≡ o → refusal_end f o ≡ Some (ends.Bad at reason) → RefusedAt opened link run reason
    by_refusal fits None refusal e = absurd cc
    by_refusal fits (Some n) refusal e =
        let same : n ≡ reason = reason_same f.at at n reason e in
        record {
          earlier = es;
          frame = f;
          later = more;
          segment = s;
          is = all;
          behind = behind;
          is_segment = is;
          live = live;
          fits = fits;
          cause = subst (λ (x : ℕ). RefusedBy k f s x) same (refused_by k f s n (subst IsCallReason (sym same) own) is refusal);
        }

    by : (o : Option Stop) → frame_end (server_readiness opened k) grants f ≡ o → or_refusal k f o ≡ Some (ends.Bad at reason) → RefusedAt opened link run reason
    by (Some end) fits e = absurd (frame_other (server_readiness opened k) grants f s at reason is own (fits ∙ e))
    by None fits e = by_refusal fits (frame_effect k f).refusal refl e

pub refused_at_lem : (opened : LinkParameters) (link : ℕ) (run : List Mark) → IsTyped run → MatchedSoFar opened link run → (at reason : ℕ) → IsCallReason reason → (server opened link run).ended ≡ Some (ends.Bad at reason) → RefusedAt opened link run reason
unfolding server server_end
refused_at_lem opened link run typed far at reason own e =
    let es : List RunEvent = events link Responder run in
    let r = ends_at_lem (server_rules opened) (initial_server opened) es (ends.Bad at reason) refl e in
    let good = later_preserve (server_rules opened) ServerGood 0 (initial_server opened) r.earlier (r.event ∷ r.later)
    (subst (λ (ev : List RunEvent). GoesOn (server_rules opened) ServerGood 0 (initial_server opened) ev) r.is (server_good opened link run typed far.asked far.served far.matched)) in
    by r.earlier r.event r.later r.is r.live good.1 r.ends
  where
    by : (es : List RunEvent) (x : RunEvent) (more : List RunEvent) → events link Responder run ≡ es ++ x ∷ more → (end_state_after (server_rules opened) (initial_server opened) es).ended ≡ None
        → ServerGood (end_state_after (server_rules opened) (initial_server opened) es) x → server_end opened (server_by opened es) x ≡ Some (ends.Bad at reason) → RefusedAt opened link run reason
    by es (FrameReceived f) more is live good e = refused_frame opened link run es f more at reason is live good own e
    by es (CallSubmitted p a) more is live good e = absurd cc
    by es (MemoryRevoked p xid) more is live good e = absurd cc
    by es (CallExecuted x) more is live good e = absurd cc
    by es (QueueWritten taken) more is live good e = absurd cc
    by es (ServerTold what) more is live good e = (let old = ends_as_old (server_by opened es) what (ends.Bad at reason) e in absurd (not_old at reason old.at own old.is))
