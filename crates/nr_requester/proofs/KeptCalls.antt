-- What a requester keeps of its client after each call, as nr_reduce says it.
use Rattle.std.proofs.Common.{◌≡◌, ℕ, ◌+◌, ◌≤◌, Bool, true, false, cond, eqb, ltb, List, [], ◌∷◌, ◌++◌, length, map, Some, refl, sym, ap, ◌∙◌, length-append}
use Rattle.std.specs.Prelude.{is_some}
use Rattle.std.specs.List.{find}
use Rattle.std.proofs.lemmas.List.{length-map}
use Rattle.std.proofs.lemmas.Bool.{le-ltb}
use Rattle.nr_endpoint.specs.SendQueue.{written}
use Rattle.nr_reduce.specs.declared.call.Call.{Call}
use Rattle.nr_reduce.specs.declared.outline.Plan.{Plan}
use Rattle.nr_reduce.specs.KeptCalls.{KeptCall}
use Rattle.nr_reduce.specs.KeptClient.{KeptClient, released_all, sent_kept, kept_sent, kept_of, kept_submitted, kept_revoked, revoked_kept, stags_for as kept_stags}
use Rattle.nr_requester.proofs.Sent.{stags_are_lem}
use Rattle.nr_requester.specs.RequesterState.{StoredCall, RequesterSide, kept_call, kept_client}
use Rattle.nr_requester.specs.AfterCalls.{stored_call, after_submit, sent_unless, after_drain, revoked_call, stags_for, after_revoke}

-- ---- A drain

sent_calls : (before after : ℕ) (cs : List StoredCall) → map (sent_kept after) (map (kept_call before) cs) ≡ map (kept_call after) cs
sent_calls before after [] = refl
sent_calls before after (c ∷ cs) = ap (λ (xs : List KeptCall). kept_call after c ∷ xs) (sent_calls before after cs)

-- how many Sends have left after it
abbrev pub sent_after : ℕ → RequesterSide → ℕ
sent_after n h = sent_unless (is_some h.state.side.ended) h.state.sent (written n h.state.side.send_queue).sends_left

pub kept_drained : (h : RequesterSide) (n : ℕ) → kept_sent (sent_after n h) (kept_client h.state) ≡ kept_client (after_drain n h).state
unfolding kept_sent after_drain
kept_drained h n = λ i. record (kept_client h.state) { calls = sent_calls h.state.sent (sent_after n h) h.state.outstanding i }

-- what a drain leaves of one that has ended
pub ended_drained : (h : RequesterSide) (n : ℕ) → is_some h.state.side.ended ≡ true → kept_client (after_drain n h).state ≡ kept_client h.state
unfolding after_drain
ended_drained h n e = ap (λ (b : Bool). record (kept_client h.state) { calls = map (kept_call (sent_unless b h.state.sent (written n h.state.side.send_queue).sends_left)) h.state.outstanding }) e

-- ---- An accepted call

map_one : (sent : ℕ) (cs : List StoredCall) (c : StoredCall) → map (kept_call sent) (cs ++ c ∷ []) ≡ map (kept_call sent) cs ++ kept_call sent c ∷ []
map_one sent [] c = refl
map_one sent (x ∷ cs) c = ap (λ (xs : List KeptCall). kept_call sent x ∷ xs) (map_one sent cs c)

pub kept_accepted : (h : RequesterSide) (call : Call) (plan : Plan) → h.state.sent ≤ h.state.sends → kept_submitted (kept_client h.state) call plan ≡ kept_client (after_submit h call plan).state
unfolding kept_submitted
kept_accepted h call plan few =
    let c : StoredCall = stored_call h.state.next_xid h.state.sends call plan h.state.side.memory in
    let unsent : ltb h.state.sends h.state.sent ≡ false = le-ltb h.state.sends h.state.sent few in
    let one : kept_of h.state.next_xid h.state.sends call plan h.state.side.memory.next ≡ kept_call h.state.sent c = λ i. record { xid = h.state.next_xid; send = h.state.sends; is_sent = sym unsent i; call = Some call; read_at = c.read_at; offered = c.offered; given = c.given; stags = sym (stags_are_lem h.state.side.memory plan) i } in
    let count : length h.state.outstanding + 1 ≡ length (h.state.outstanding ++ c ∷ []) = sym (length-append h.state.outstanding (c ∷ [])) in
    let calls : map (kept_call h.state.sent) h.state.outstanding ++ kept_of h.state.next_xid h.state.sends call plan h.state.side.memory.next ∷ [] ≡ map (kept_call h.state.sent) (h.state.outstanding ++ c ∷ []) =
    ap (λ (x : KeptCall). map (kept_call h.state.sent) h.state.outstanding ++ x ∷ []) one ∙ sym (map_one h.state.sent h.state.outstanding c) in
    λ i. record (kept_client (after_submit h call plan).state) { outstanding = count i; calls = calls i }

-- ---- A revoke

one_revoked : (sent xid : ℕ) (c : StoredCall) (b : Bool) → Rattle.nr_reduce.specs.KeptClient.revoked_if b (kept_call sent c) ≡ kept_call sent (Rattle.nr_requester.specs.AfterCalls.revoked_if b c)
one_revoked sent xid c true = refl
one_revoked sent xid c false = refl

calls_revoked : (sent xid : ℕ) (cs : List StoredCall) → map (revoked_kept xid) (map (kept_call sent) cs) ≡ map (kept_call sent) (map (revoked_call xid) cs)
calls_revoked sent xid [] = refl
calls_revoked sent xid (c ∷ cs) = λ i. one_revoked sent xid c (eqb c.xid xid) i ∷ calls_revoked sent xid cs i

pub stags_alike : (sent xid : ℕ) (cs : List StoredCall) → kept_stags xid (map (kept_call sent) cs) ≡ stags_for xid cs
stags_alike sent xid [] = refl
stags_alike sent xid (c ∷ cs) = by (eqb c.xid xid) (stags_alike sent xid cs)
  where
    by : (b : Bool) → kept_stags xid (map (kept_call sent) cs) ≡ stags_for xid cs →
        Rattle.nr_reduce.specs.KeptClient.stags_in (cond b (Some (kept_call sent c)) (find (λ d. eqb d.xid xid) (map (kept_call sent) cs))) ≡ Rattle.nr_requester.specs.AfterCalls.stags_in (cond b (Some c) (find (λ d. eqb d.xid xid) cs))
    by true rest = refl
    by false rest = rest

pub kept_after_revoke : (h : RequesterSide) (xid : ℕ) → kept_revoked (kept_client h.state) xid ≡ kept_client (after_revoke h xid).state
unfolding kept_revoked after_revoke
kept_after_revoke h xid =
    let sent : ℕ = h.state.sent in
    let calls = calls_revoked sent xid h.state.outstanding in
    let memory : released_all h.state.side.memory (kept_stags xid (map (kept_call sent) h.state.outstanding)) ≡ released_all h.state.side.memory (stags_for xid h.state.outstanding) = ap (released_all h.state.side.memory) (stags_alike sent xid h.state.outstanding) in
    let count : length h.state.outstanding ≡ length (map (revoked_call xid) h.state.outstanding) = sym (length-map h.state.outstanding (revoked_call xid)) in
    λ i. record (kept_client h.state) { outstanding = count i; calls = calls i; memory = memory i }
