-- A reply that is handed over, and the reply of the Execute, are what the same message and the same memory convey.
use Rattle.std.proofs.Common.{◌≡◌, ℕ, ◌≤◌, ◌<◌, true, false, cond, List, [], ◌∷◌, ◌++◌, map, Option, None, Some, sym, ap, subst, ◌∙◌, arith}
use Rattle.nr_xdr.specs.Item.{IsBytes}
use Rattle.nr_header.specs.declared.header.ChunkLists.{ChunkLists}
use Rattle.nr_rpc.specs.Reading.{call_of, target_of}
use Rattle.nr_header.specs.Constants.{PAYLOAD_MAX}
use Rattle.nr_reduce.proofs.OwnLimits.{server_limits}
use Rattle.nr_reduce.specs.declared.call.Outcome.TheVariants as outcomes
use Rattle.nr_reduce.specs.declared.call.Call.{Call}
use Rattle.nr_reduce.specs.declared.mark.Mark.{Mark}
use Rattle.nr_reduce.specs.declared.mark.Mark.TheVariants as marks
use Rattle.nr_reduce.specs.declared.mark.LinkParameters.{LinkParameters}
use Rattle.nr_reduce.specs.declared.outline.Plan.{Plan}
use Rattle.nr_reduce.specs.History.{ExecutedCall}
use Rattle.nr_reduce.specs.Events.RunEvent.{FrameReceived, CallExecuted}
use Rattle.nr_reduce.specs.Plans.{Buffer, buffers, lists_of, read_list, write_stag, reply_stag}
use Rattle.nr_reduce.specs.Chunks.{Bytes, reply_conveyed}
use Rattle.nr_reduce.specs.Holds.{Answer, answer_for, answer_lists, answer_message}
use Rattle.nr_reduce.specs.ChunkBytes.{after, answer_segments}
use Rattle.nr_reduce.specs.ClientState.{ClientState, client_memory_at, stag_for}
use Rattle.nr_reduce.specs.Client.{client_rules, initial_client}
use Rattle.nr_reduce.specs.Run.{client}
use Rattle.nr_reduce.specs.ServerState.{ServerState, credit_word}
use Rattle.nr_reduce.specs.Server.{offer_of}
use Rattle.nr_reduce.specs.RunLaws.{server_by}
use Rattle.nr_reduce.proofs.Answering.{conveyed}
use Rattle.nr_reduce.proofs.OwnStags.{ClientNumbers, client_numbers}
use Rattle.nr_laws.specs.MarkAt.{MarkAt}
use Rattle.nr_laws.specs.MatchedSoFar.{MatchedSoFar}
use Rattle.nr_laws.specs.Typed.{TypedMark, IsTyped}
use Rattle.nr_laws.specs.Payloads.{HasPlan}
use Rattle.nr_laws.specs.MarkAt.{MarkAt}
use Rattle.nr_reduce.specs.declared.call.Outcome.TheVariants as outcomes
use Rattle.nr_laws.proofs.EventOutputs.{places_after}
use Rattle.nr_laws.proofs.Outputs.Output.{ASegment}
use Rattle.nr_laws.proofs.ServerAlong.{outs_of}
use Rattle.nr_laws.proofs.ServerOutputs.{for_target}
use Rattle.nr_laws.proofs.ExecuteMarks.{execute_mark}
use Rattle.nr_laws.proofs.OnceByXid.{at_mark}
use Rattle.nr_laws.proofs.ClientMemory.{HasBuffers, client_gathers}
use Rattle.nr_laws.proofs.Memory.{Part, parts_of, parts_out, gathers, Settled, settled_later}
use Rattle.nr_laws.proofs.Outcomes.{client_by, OutcomeSaid}
use Rattle.nr_laws.proofs.DoneCalls.{GivesBy, gives_by}
use Rattle.nr_laws.proofs.Replied.{RepliedBy}
use Rattle.nr_laws.proofs.SubmittedPlans.{AnsweredCall, answered_submit, OwnSubmit, own_submit}
use Rattle.nr_laws.proofs.InlineReplies.{no_chunks}
use Rattle.nr_laws.proofs.OfferedLists.{no_offer_lem}
use Rattle.nr_laws.proofs.KeptOffers.{KeptOffer, kept_offer}
use Rattle.nr_laws.proofs.KeptOffers.KeptOffer.{Kept, NotKept}
use Rattle.nr_laws.proofs.ReplyMemory.{memory_conveys, conveyed_same}
use Rattle.nr_laws.proofs.WrittenBytes.{WrittenAs, written_as_lem}
use Rattle.nr_laws.proofs.WrittenAnswers.{answer_same}
use Rattle.nr_laws.proofs.ReadAnswers.{client_reads}
use Rattle.nr_laws.proofs.HandedOver.{outcome_frame}

-- both replies are conveyed by the same stream, lists and memory
pub record BothConveyed (call : Call) (plan : Plan) (offer : ChunkLists) (down : ℕ) (executed reply : List ℕ) (a : Answer) : Type 0 where
  pub inline : Option (List ℕ)
  pub lists : ChunkLists
  pub memory : Bytes
  pub handed : reply_conveyed call.prog call.vers call.proc inline lists memory ≡ Some reply
  pub own : (prog vers proc : ℕ) → answer_for offer down prog vers proc executed ≡ Some a → reply_conveyed prog vers proc inline lists memory ≡ Some executed

pub both_conveyed : (opened : LinkParameters) (link : ℕ) (run before : List Mark) (xid : ℕ) (plan : Plan) (reply : List ℕ) → IsTyped run → MatchedSoFar opened link run → (has : HasPlan opened link run xid plan)
    → (at : MarkAt run before (marks.Done link xid (outcomes.Reply reply))) → (r : RepliedBy opened link before xid reply)
    → BothConveyed has.call plan (offer_of (server_by opened r.answer.earlier) r.answer.call.xid) (server_by opened r.answer.earlier).down_max r.answer.call.reply reply r.answer.answer
unfolding lists_of
both_conveyed opened link run before xid plan reply typed far has at r = by offered
  where
    done : Mark
    done = marks.Done link xid (outcomes.Reply reply)

    d : OutcomeSaid opened link before (record { xid = xid; outcome = outcomes.Reply reply })
    d = r.done.said

    k : ClientState
    k = (client_by opened d.given.earlier).state

    place : ℕ
    place = d.given.frame.end

    g : GivesBy k place d.given.message xid (Some (outcomes.Reply reply))
    g = gives_by k place d.given.message xid (Some (outcomes.Reply reply)) d.given.given

    s : AnsweredCall opened link before d.given.earlier g.call
    s = answered_submit opened link before r.done.typed r.done.far.asked d.given.earlier (FrameReceived d.given.frame ∷ d.given.later) d.given.is g.header.xid g.call g.is_call

    own : OwnSubmit s.submit.submit.earlier has.before s.submit.submit.call has.call s.submit.submit.accepted.plan plan
    own = (let w = s.submit.submit in own_submit opened link run before done at.after xid plan far.asked at.is has w.earlier w.later w.call w.form w.xid w.is w.accepted (sym s.submit.own_xid ∙ g.call_xid))

    stag : ℕ
    stag = stag_for (client opened link has.before).state xid

    stag_is : g.call.stag ≡ stag
    stag_is = (let xid_is : s.submit.submit.xid ≡ xid = sym s.submit.own_xid ∙ g.call_xid in s.submit.own_stag ∙ (λ i. stag_for (client opened link (own.place i)).state (xid_is i)))

    plan_is : g.call.plan ≡ plan
    plan_is = s.submit.own_plan ∙ own.plan_is

    call_is : g.call.call ≡ has.call
    call_is = s.submit.own_call ∙ own.call_is

    server : ServerState
    server = server_by opened r.answer.earlier

    down : ℕ
    down = server.down_max

    down_small : down ≤ PAYLOAD_MAX
    down_small = (let limit = (server_limits opened r.answer.earlier).down.1 in omega (arith, limit))

    e : ExecutedCall
    e = r.answer.call

    a : Answer
    a = r.answer.answer

    offered : KeptOffer server xid stag plan
    offered = kept_offer opened link run before done at.after xid plan r.done.typed r.done.far far.asked at.is has r.answer.earlier (CallExecuted e ∷ r.answer.later) r.answer.is r.answer.live

    bytes : IsBytes e.reply
    bytes = at_mark TypedMark before r.by.mark.earlier (execute_mark link e) r.by.mark.later r.by.mark.is r.done.typed

    credit : WrittenAs (credit_word server)
    credit = written_as_lem (credit_word server)

    word : e.xid < 4294967296
    word = r.by.fits

    settled : Settled place k.regions k.accesses_received
    settled = (let next = (outcome_frame opened link before (record { xid = xid; outcome = outcomes.Reply reply }) r.done.typed r.done.far.asked d).0 in settled_later (places_after 0 d.given.earlier) place k.regions k.accesses_received (omega (arith, next)) s.settled)

    backed : HasBuffers k.regions (buffers stag plan)
    backed = subst (λ (bs : List Buffer). HasBuffers k.regions bs) (λ i. buffers (stag_is i) (plan_is i)) s.backed

    numbers : ClientNumbers opened k
    numbers = client_numbers opened d.given.earlier

    front : List Part
    front = parts_out (outs_of opened r.answer.earlier)

    parts : (offer : ChunkLists) → offer_of server e.xid ≡ offer → parts_of k.accesses_received ≡ front ++ parts_out (map ASegment (answer_segments offer a))
    parts offer is =
        gathers (client_rules opened) (λ (x : ClientState). x.accesses_received) (client_gathers opened) (initial_client opened) d.given.earlier d.before d.brings d.given.live
        ∙ r.answer.before
        ∙ ap (λ (o : ChunkLists). front ++ parts_out (map ASegment (answer_segments o a))) is

    same_call : (inline : Option (List ℕ)) (lists : ChunkLists) → reply_conveyed g.call.call.prog g.call.call.vers g.call.call.proc inline lists (client_memory_at k place) ≡ Some reply
        → reply_conveyed has.call.prog has.call.vers has.call.proc inline lists (client_memory_at k place) ≡ Some reply
    same_call inline lists h = ap (λ (c : Call). reply_conveyed c.prog c.vers c.proc inline lists (client_memory_at k place)) (sym call_is) ∙ h

    t : (prog : ℕ) × (vers : ℕ) × (proc : ℕ) × (answer_for (offer_of server e.xid) down prog vers proc e.reply ≡ Some a)
    t = for_target (offer_of server e.xid) down e.reply (target_of (call_of e.payload)) a r.answer.is_answer

    answers : (offer : ChunkLists) → offer_of server e.xid ≡ offer → (prog vers proc : ℕ) → answer_for (offer_of server e.xid) down prog vers proc e.reply ≡ Some a → answer_for offer down prog vers proc e.reply ≡ Some a
    answers offer is prog vers proc h = ap (λ (o : ChunkLists). answer_for o down prog vers proc e.reply) (sym is) ∙ h

    message : (offer : ChunkLists) → offer_of server e.xid ≡ offer → d.given.message ≡ answer_message e.xid credit.number offer a
    message offer is = r.answer.message ∙ ap (λ (o : ChunkLists). answer_message e.xid (credit_word server) o a) is ∙ answer_same e.xid (credit_word server) credit.number offer a credit.same

    own_offer : (offer : ChunkLists) → offer_of server xid ≡ offer → offer_of server e.xid ≡ offer
    own_offer offer is = ap (λ (x : ℕ). offer_of server x) r.own ∙ is

    by : KeptOffer server xid stag plan → BothConveyed has.call plan (offer_of server e.xid) down e.reply reply a
    by (Kept kept offer) =
        let is = own_offer (lists_of stag plan) kept in
        record {
          inline = cond a.long None (Some a.stream);
          lists = answer_lists (lists_of stag plan) a;
          memory = client_memory_at k place;
          handed = same_call (cond a.long None (Some a.stream)) (answer_lists (lists_of stag plan) a)
              (client_reads (read_list stag plan plan.read_at) (write_stag stag plan) (reply_stag stag plan) plan.write plan.reply down t.0 t.1 t.2 e.xid credit.number e.reply a k place g.call d.given.message g.header xid reply bytes offer
              (answers (lists_of stag plan) is t.0 t.1 t.2 t.3) down_small word credit.fits (message (lists_of stag plan) is) g.is_header g.by_its_body);
          own = λ prog vers proc h. memory_conveys k place opened.first_stag stag plan a front down prog vers proc e.reply bytes numbers.regions settled backed (parts (lists_of stag plan) is) (answers (lists_of stag plan) is prog vers proc h);
        }
    by (NotKept kept) =
        let is = own_offer no_chunks kept in
        record {
          inline = cond a.long None (Some a.stream);
          lists = answer_lists no_chunks a;
          memory = client_memory_at k place;
          handed = same_call (cond a.long None (Some a.stream)) (answer_lists no_chunks a)
              (client_reads [] 0 0 None None down t.0 t.1 t.2 e.xid credit.number e.reply a k place g.call d.given.message g.header xid reply bytes no_offer_lem (answers no_chunks is t.0 t.1 t.2 t.3) down_small word credit.fits (message no_chunks is) g.is_header g.by_its_body);
          own = λ prog vers proc h. conveyed_same (client_memory_at k place) (after (client_memory_at k place) no_chunks a) [] 0 0 None None a prog vers proc (λ no. absurd (let w : false ≡ true = no in cc)) (λ no. absurd (let w : false ≡ true = no in cc))
              ∙ conveyed [] 0 0 None None down prog vers proc e.reply a (client_memory_at k place) bytes (record { write = λ no. absurd (let w : false ≡ true = no in cc); reply = λ no. absurd (let w : false ≡ true = no in cc); apart = λ no. absurd (let w : false ≡ true = no in cc) })
              (answers no_chunks is prog vers proc h);
        }
