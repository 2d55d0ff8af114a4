-- The reads that open, from the list of all and to the side of the link.
use Rattle.std.proofs.Common.{◌≡◌, ◌≢◌, ℕ, zero, suc, ◌+◌, ◌<◌, ◌≤◌, cond, List, [], ◌∷◌, ◌++◌, length, take, drop, get_or, map, Option, None, Result, Ok, Err, refl, sym, ap, ◌∙◌, arith, append_assoc, append-nil, is_some}
use Rattle.std.specs.Prelude.{min, OnErr, OnOk}
use Rattle.std.proofs.lemmas.List.{length-drop, length-map, length-take, drop_more}
use Rattle.nr_link.specs.declared.end.End.{End}
use Rattle.nr_link.specs.Limits.{open_reads_max}
use Rattle.nr_endpoint.specs.declared.requests.RemoteRead.{RemoteRead}
use Rattle.nr_endpoint.specs.LinkState.{LinkSide}
use Rattle.nr_endpoint.specs.SendQueue.{with_send}
use Rattle.nr_endpoint.specs.Calls.{Call, after_call, after_calls}
use Rattle.nr_endpoint.specs.Calls.Call.{Send}
use Rattle.nr_endpoint.specs.Requesting.{read_call, read_calls, send_read_calls}
use Rattle.nr_reduce.specs.ServerState.{PendingRead}
use Rattle.nr_responder.specs.declared.call.ReadEntry.{ReadEntry}
use Rattle.nr_responder.specs.Keeping.{later_responses}
use Rattle.nr_responder.specs.Views.{read_view}
use Rattle.nr_responder.specs.private.Reading.{opening, remote_of, with_opened, with_opened_after, with_requests}

pub on_err_any : {X E : Type 0} (r : Result X E) {P : Type 0} → P → OnErr r P
on_err_any (Ok x) p = tt
on_err_any (Err e) p = p

pub on_ok_by : {X E : Type 0} (r : Result X E) {P Q : Type 0} → OnOk r P → (P → Q) → OnOk r Q
on_ok_by (Ok x) p f = f p
on_ok_by (Err e) p f = tt

length_nil : {X : Type 0} (xs : List X) → xs ≡ [] → length xs ≡ 0
length_nil xs is = ap (λ ys. length ys) is

pub some_open : (kept i n : ℕ) (reads : List ReadEntry) → kept ≤ i → i < n → n ≡ min (length reads) open_reads_max → opening kept (map read_view reads) ≢ []
some_open kept i n reads from lt is none =
    let len : length (map read_view reads) ≡ length reads = length-map reads read_view in
    let count : length (opening kept (map read_view reads)) ≡ 0 = length_nil (opening kept (map read_view reads)) none in
    let first : length (take open_reads_max (map read_view reads)) ≡ min open_reads_max (length (map read_view reads)) = length_take open_reads_max (map read_view reads) in
    omega (arith, from, lt, is, len, count, first, length-drop kept (take open_reads_max (map read_view reads)))
  where
    length_take : {X : Type 0} (n : ℕ) (xs : List X) → length (take n xs) ≡ min n (length xs)
    length_take n xs = length-take n xs

-- one more of them
pub opening_step : (reads : List ReadEntry) (i n : ℕ) (d : ReadEntry) (now after all : List RemoteRead) → i < n → n ≡ min (length reads) open_reads_max →
    now ++ map remote_of (drop i (take open_reads_max (map read_view reads))) ≡ all → after ≡ now ++ remote_of (read_view (get_or reads i d)) ∷ [] →
    after ++ map remote_of (drop (i + 1) (take open_reads_max (map read_view reads))) ≡ all
opening_step reads i n d now after all lt is so_far one =
    let opened : List PendingRead = take open_reads_max (map read_view reads) in
    let len : length opened ≡ min open_reads_max (length (map read_view reads)) = length-take open_reads_max (map read_view reads) in
    let count : length (map read_view reads) ≡ length reads = length-map reads read_view in
    let left : drop i opened ≡ get_or opened i (read_view d) ∷ drop (i + 1) opened = drop_more opened i (read_view d) (omega (arith, lt, is, len, count)) in
    let same : get_or opened i (read_view d) ≡ read_view (get_or reads i d) = got reads open_reads_max i d (omega (arith, lt, is)) in
    ap (λ (rs : List RemoteRead). rs ++ map remote_of (drop (i + 1) opened)) one
    ∙ append_assoc now (remote_of (read_view (get_or reads i d)) ∷ []) (map remote_of (drop (i + 1) opened))
    ∙ ap (λ (r : PendingRead). now ++ remote_of r ∷ map remote_of (drop (i + 1) opened)) (sym same)
    ∙ ap (λ (rs : List PendingRead). now ++ map remote_of rs) (sym left)
    ∙ so_far
  where
    got : (reads : List ReadEntry) (n i : ℕ) (d : ReadEntry) → i < n → get_or (take n (map read_view reads)) i (read_view d) ≡ read_view (get_or reads i d)
    got [] zero i d lt = absurd (omega (arith, lt))
    got [] (suc n) zero d lt = refl
    got [] (suc n) (suc i) d lt = refl
    got (r ∷ reads) zero i d lt = absurd (omega (arith, lt))
    got (r ∷ reads) (suc n) zero d lt = refl
    got (r ∷ reads) (suc n) (suc i) d lt = got reads n i d (omega (arith, lt))

-- ---- The side of the link

none_opened : (l : LinkSide) → l ≡ with_opened [] l
none_opened l = λ i. record { awaited = l.awaited; rest = l.rest; state = record l.state { reads = sym (append-nil l.state.reads) i } }

map_nil : (reads : List PendingRead) → map remote_of reads ≡ [] → reads ≡ []
map_nil [] is = refl
map_nil (r ∷ reads) is = absurd cc

pub nothing_opened : (reads : List PendingRead) (l m : LinkSide) (remote : List RemoteRead) → remote ≡ map remote_of reads → remote ≡ [] → m ≡ l → m ≡ with_opened reads l
nothing_opened reads l m remote is none same = same ∙ none_opened l ∙ ap (λ (rs : List PendingRead). with_opened rs l) (sym (map_nil reads (sym is ∙ none)))

one_opened : (r : PendingRead) (l : LinkSide) → l.state.ended ≡ None → after_call l (read_call (remote_of r)) ≡ with_opened (r ∷ []) l
unfolding after_call
one_opened r l live = ap (λ (o : Option End). record { awaited = l.awaited; rest = l.rest; state = cond (is_some o) l.state (with_opened (r ∷ []) l).state }) live

then_opened : (r : PendingRead) (reads : List PendingRead) (l : LinkSide) → with_opened reads (with_opened (r ∷ []) l) ≡ with_opened (r ∷ reads) l
then_opened r reads l = λ i. record {
  awaited = l.awaited;
  rest = l.rest;
  state = record l.state { send_queue = with_requests (r ∷ reads) l.state.send_queue; reads = append_assoc l.state.reads (later_responses (r ∷ [])) (later_responses reads) i };
}

no_calls : (l : LinkSide) → after_calls l [] ≡ l
unfolding after_calls
no_calls l = refl

first_call : (l : LinkSide) (call : Call) (calls : List Call) → after_calls l (call ∷ calls) ≡ after_calls (after_call l call) calls
unfolding after_calls
first_call l call calls = refl

pub opened_calls : (reads : List PendingRead) (l : LinkSide) → l.state.ended ≡ None → after_calls l (read_calls (map remote_of reads)) ≡ with_opened reads l
opened_calls [] l live = no_calls l ∙ none_opened l
opened_calls (r ∷ reads) l live =
    first_call l (read_call (remote_of r)) (read_calls (map remote_of reads))
    ∙ ap (λ (x : LinkSide). after_calls x (read_calls (map remote_of reads))) (one_opened r l live)
    ∙ opened_calls reads (with_opened (r ∷ []) l) live
    ∙ then_opened r reads l

abbrev sent : List ℕ → LinkSide → LinkSide
sent message l = record { awaited = l.awaited; rest = l.rest; state = record l.state { send_queue = with_send message l.state.send_queue } }

sent_first : (message : List ℕ) (l : LinkSide) → l.state.ended ≡ None → after_call l (Send message) ≡ sent message l
unfolding after_call
sent_first message l live = ap (λ (o : Option End). record { awaited = l.awaited; rest = l.rest; state = cond (is_some o) l.state (sent message l).state }) live

pub sent_opened_calls : (message : List ℕ) (reads : List PendingRead) (l : LinkSide) → l.state.ended ≡ None → after_calls l (send_read_calls message (map remote_of reads)) ≡ with_opened_after message reads l
sent_opened_calls message reads l live =
    first_call l (Send message) (read_calls (map remote_of reads))
    ∙ ap (λ (x : LinkSide). after_calls x (read_calls (map remote_of reads))) (sent_first message l live)
    ∙ opened_calls reads (sent message l) live
