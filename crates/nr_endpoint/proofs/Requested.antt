-- Several Read Requests: one after the other, and from the side's new state to the list of calls.
use Rattle.std.proofs.Common.{◌≡◌, ℕ, ◌+◌, ◌<◌, Bool, true, false, cond, List, [], ◌∷◌, ◌++◌, length, map, drop, get_or, refl, sym, ap, ◌∙◌, append_assoc}
use Rattle.std.proofs.lemmas.List.{append-nil, drop_more}
use Rattle.nr_link.specs.Output.{read_request}
use Rattle.nr_link.specs.SegmentFaults.{ExpectedResponse}
use Rattle.nr_endpoint.specs.declared.requests.RemoteRead.{RemoteRead}
use Rattle.nr_endpoint.specs.SendQueue.{SendQueue, next_number, with_send, with_request}
use Rattle.nr_endpoint.specs.LinkState.{LinkSide, LinkState, has_ended}
use Rattle.nr_endpoint.specs.Calls.{Call, after_call, after_calls, with_state}
use Rattle.nr_endpoint.specs.Calls.Call.{Send}
use Rattle.nr_endpoint.specs.Requesting.{after_reads, after_send_reads, last_request_after, read_call, read_calls, requests_output, response_of, send_read_calls, with_read_requests}

-- ---- One after the other

pub request_goes : (reads : List RemoteRead) (i : ℕ) (d : RemoteRead) (last msn : ℕ) (total now after : List ℕ) → i < length reads → msn ≡ next_number last →
    now ++ requests_output last (drop i reads) ≡ total →
    after ≡ now ++ read_request msn (get_or reads i d).sink (get_or reads i d).at (get_or reads i d).len (get_or reads i d).stag (get_or reads i d).to →
    after ++ requests_output msn (drop (i + 1) reads) ≡ total
request_goes reads i d last msn total now after lt next so_far e =
    let r : RemoteRead = get_or reads i d in
    let others : List RemoteRead = drop (i + 1) reads in
    let left : drop i reads ≡ r ∷ others = drop_more reads i d lt in
    ap (λ (bytes : List ℕ). bytes ++ requests_output msn others) e
    ∙ append_assoc now (read_request msn r.sink r.at r.len r.stag r.to) (requests_output msn others)
    ∙ ap (λ (n : ℕ). now ++ (read_request n r.sink r.at r.len r.stag r.to ++ requests_output n others)) next
    ∙ ap (λ (rs : List RemoteRead). now ++ requests_output last rs) (sym left)
    ∙ so_far

pub last_goes : (reads : List RemoteRead) (i : ℕ) (d : RemoteRead) (last msn total : ℕ) → i < length reads → msn ≡ next_number last →
    last_request_after last (drop i reads) ≡ total → last_request_after msn (drop (i + 1) reads) ≡ total
last_goes reads i d last msn total lt next so_far =
    let others : List RemoteRead = drop (i + 1) reads in
    let left : drop i reads ≡ get_or reads i d ∷ others = drop_more reads i d lt in
    ap (λ (n : ℕ). last_request_after n others) next ∙ ap (λ (rs : List RemoteRead). last_request_after last rs) (sym left) ∙ so_far

-- ---- The calls

-- the state, with another queue of output and other reads
abbrev requesting : LinkState → SendQueue → List ExpectedResponse → LinkState
requesting s q reads = record s { send_queue = q; reads = reads }

first_call : (l : LinkSide) (call : Call) (calls : List Call) → after_calls l (call ∷ calls) ≡ after_calls (after_call l call) calls
unfolding after_calls
first_call l call calls = refl

no_calls : (l : LinkSide) → after_calls l [] ≡ l
unfolding after_calls
no_calls l = refl

read_live : (reads : List RemoteRead) (l : LinkSide) → has_ended l.state ≡ false →
    with_state (requesting l.state (with_read_requests reads l.state.send_queue) (l.state.reads ++ map response_of reads)) l ≡ after_calls l (read_calls reads)
unfolding after_call
read_live [] l live =
    let q : SendQueue = l.state.send_queue in
    (λ i. with_state (requesting l.state (record q { fpdus = append-nil q.fpdus i }) (append-nil l.state.reads i)) l) ∙ sym (no_calls l)
read_live (r ∷ reads) l live =
    let q : SendQueue = l.state.send_queue in
    let one : LinkSide = with_state (requesting l.state (with_request r.sink r.at r.len r.stag r.to q) (l.state.reads ++ response_of r ∷ [])) l in
    let first : after_call l (read_call r) ≡ one = ap (λ (b : Bool). with_state (cond b l.state one.state) l) live in
    (λ i. with_state (requesting l.state (record q {
      fpdus = sym (append_assoc q.fpdus (read_request (next_number q.last_request) r.sink r.at r.len r.stag r.to) (requests_output (next_number q.last_request) reads)) i;
      last_request = last_request_after (next_number q.last_request) reads;
    }) (sym (append_assoc l.state.reads (response_of r ∷ []) (map response_of reads)) i)) l)
    ∙ read_live reads one live
    ∙ ap (λ (k : LinkSide). after_calls k (read_calls reads)) (sym first)
    ∙ sym (first_call l (read_call r) (read_calls reads))

read_ended : (reads : List RemoteRead) (l : LinkSide) → has_ended l.state ≡ true → l ≡ after_calls l (read_calls reads)
unfolding after_call
read_ended [] l over = sym (no_calls l)
read_ended (r ∷ reads) l over =
    let q : SendQueue = l.state.send_queue in
    let one : LinkState = requesting l.state (with_request r.sink r.at r.len r.stag r.to q) (l.state.reads ++ response_of r ∷ []) in
    let first : after_call l (read_call r) ≡ l = ap (λ (b : Bool). with_state (cond b l.state one) l) over in
    read_ended reads l over
    ∙ ap (λ (k : LinkSide). after_calls k (read_calls reads)) (sym first)
    ∙ sym (first_call l (read_call r) (read_calls reads))

pub read_all_state : (l : LinkSide) (t : LinkState) (reads : List RemoteRead) → t ≡ after_reads reads l.state → with_state t l ≡ after_calls l (read_calls reads)
read_all_state l t reads is = ap (λ (s : LinkState). with_state s l) is ∙ by (has_ended l.state) refl
  where
    after : LinkState
    after = requesting l.state (with_read_requests reads l.state.send_queue) (l.state.reads ++ map response_of reads)

    by : (b : Bool) → has_ended l.state ≡ b → with_state (cond (has_ended l.state) l.state after) l ≡ after_calls l (read_calls reads)
    by true over = ap (λ (b : Bool). with_state (cond b l.state after) l) over ∙ read_ended reads l over
    by false live = ap (λ (b : Bool). with_state (cond b l.state after) l) live ∙ read_live reads l live

pub send_read_state : (l : LinkSide) (t : LinkState) (message : List ℕ) (reads : List RemoteRead) → t ≡ after_send_reads message reads l.state →
    with_state t l ≡ after_calls l (send_read_calls message reads)
unfolding after_call
send_read_state l t message reads is = ap (λ (s : LinkState). with_state s l) is ∙ by (has_ended l.state) refl
  where
    sent : LinkState
    sent = record l.state { send_queue = with_send message l.state.send_queue }

    after : LinkState
    after = requesting l.state (with_read_requests reads (with_send message l.state.send_queue)) (l.state.reads ++ map response_of reads)

    first : (b : Bool) → has_ended l.state ≡ b → after_call l (Send message) ≡ with_state (cond b l.state sent) l
    first b is = ap (λ (b : Bool). with_state (cond b l.state sent) l) is

    by : (b : Bool) → has_ended l.state ≡ b → with_state (cond (has_ended l.state) l.state after) l ≡ after_calls l (send_read_calls message reads)
    by true over =
        ap (λ (b : Bool). with_state (cond b l.state after) l) over
        ∙ read_ended reads l over
        ∙ ap (λ (k : LinkSide). after_calls k (read_calls reads)) (sym (first true over))
        ∙ sym (first_call l (Send message) (read_calls reads))
    by false live =
        ap (λ (b : Bool). with_state (cond b l.state after) l) live
        ∙ read_live reads (with_state sent l) live
        ∙ ap (λ (k : LinkSide). after_calls k (read_calls reads)) (sym (first false live))
        ∙ sym (first_call l (Send message) (read_calls reads))

-- ---- The reads that are open then

pub opened_goes : (reads : List RemoteRead) (i : ℕ) (d : RemoteRead) (total now after : List ExpectedResponse) → i < length reads →
    now ++ map response_of (drop i reads) ≡ total → after ≡ now ++ response_of (get_or reads i d) ∷ [] → after ++ map response_of (drop (i + 1) reads) ≡ total
opened_goes reads i d total now after lt so_far e =
    let others : List RemoteRead = drop (i + 1) reads in
    let left : drop i reads ≡ get_or reads i d ∷ others = drop_more reads i d lt in
    ap (λ (rs : List ExpectedResponse). rs ++ map response_of others) e
    ∙ append_assoc now (response_of (get_or reads i d) ∷ []) (map response_of others)
    ∙ ap (λ (rs : List RemoteRead). now ++ map response_of rs) (sym left)
    ∙ so_far
