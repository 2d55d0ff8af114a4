-- What a test knows of its endpoint lasts over each call.
use Rattle.std.proofs.Common.{◌≡◌, ◌≢◌, ℕ, ◌+◌, ◌≤◌, ◌<◌, ◌⊎◌, inl, inr, is_some, Bool, true, false, cond, Result, Ok, Err, List, [], ◌∷◌, ◌++◌, length, take, Option, Some, None, refl, sym, ap, subst, ◌∙◌, arith, length-append}
use Rattle.std.specs.Prelude.{IfSome, OnOk, OnErr}
use Rattle.std.specs.List.{concat}
use Rattle.std.proofs.lemmas.List.{length-take}
use Rattle.std.proofs.lemmas.List.Elements.{All-nil, All-cons}
use Rattle.nr_wire.specs.declared.stream.Awaited.{Awaited}
use Rattle.nr_wire.specs.declared.stream.Awaited.TheVariants.{Fpdu}
use Rattle.nr_wire.specs.declared.hello.Side.{Side}
use Rattle.nr_wire.specs.Feeding.{feeding_after, feeding_after_frames}
use Rattle.nr_wire.specs.Stream.{split}
use Rattle.nr_wire.proofs.Splits.{split_Splits}
use Rattle.nr_regions.specs.declared.right.Right.{Right}
use Rattle.nr_regions.specs.RegisteredMemory.{Claim, IsHeld, RegisteredMemory, claim_of}
use Rattle.nr_link.specs.declared.agreement.SideTerms.{SideTerms}
use Rattle.nr_link.specs.declared.agreement.Agreement.{Agreement}
use Rattle.nr_link.specs.declared.end.End.{End}
use Rattle.nr_link.specs.declared.end.End.TheVariants as ends
use Rattle.nr_endpoint.specs.LinkState.{LinkState, LinkSide, has_ended, initial_link}
use Rattle.nr_endpoint.specs.Judging.{with_frame, with_end_of}
use Rattle.nr_endpoint.specs.Calls.{Call, after_call, after_calls}
use Rattle.nr_endpoint.specs.Calls.Call.{Feed, FeedOne, NextEvent, Post, Stop, OutOfMemory, Send, SendInvalidate, Hold, SendHeld, WriteRemote, ReadRemote, Drain, Register, Release, Invalidate}
use Rattle.nr_endpoint.specs.FedBytes.{fed_bytes}
use Rattle.nr_endpoint.proofs.Pieces.{frame_place}
use Rattle.nr_endpoint.proofs.FedBytes.{fed_within, fed_one_within, send_fed, write_fed_lem, read_fed, register_fed, open_fed}
use Rattle.nr_endpoint.proofs.ClaimLaws.{claims_stay_lem}
use Rattle.nr_endpoint_tests.specs.Counts.{IsCounted}

no_end : (e : Option End) → is_some e ≡ false → e ≡ None
no_end None is = refl
no_end (Some end) is = absurd cc

-- ---- A feed that doesn't end the side

never : {A : Type 0} (b : Bool) → b ≡ true → b ≡ false → A
never b is live = absurd (let h : true ≡ false = sym is ∙ live in cc)

-- a side that is live after some frames went over all their bytes
abbrev WentOver : ℕ → LinkState → LinkSide → Type 0
WentOver n s after = has_ended after.state ≡ false → (has_ended s ≡ false) × (s.place + n ≤ fed_bytes after)

frames_live : (frames : List (List ℕ)) (rest : List ℕ) (a : Awaited) (s : LinkState) (b : Bool) → has_ended s ≡ b →
    WentOver (length (concat frames) + length rest) s (feeding_after_frames has_ended with_frame frames rest a s)
frames_live [] rest a s true is =
    subst (λ (w : Bool). WentOver (length (concat []) + length rest) s (record { awaited = a; rest = cond w [] rest; state = s })) (sym is)
    (λ live. never (has_ended s) is live)
frames_live [] rest a s false is =
    subst (λ (w : Bool). WentOver (length (concat []) + length rest) s (record { awaited = a; rest = cond w [] rest; state = s })) (sym is)
    (λ live. (live, omega arith))
frames_live (frame ∷ frames) rest a s true is =
    subst (λ (w : Bool). WentOver (length (concat (frame ∷ frames)) + length rest) s
    (cond w (record { awaited = a; rest = cond w [] []; state = s }) (feeding_after_frames has_ended with_frame frames rest Fpdu (with_frame s a frame)))) (sym is)
    (λ live. never (has_ended s) is live)
frames_live (frame ∷ frames) rest a s false is =
    subst (λ (w : Bool). WentOver (length (concat (frame ∷ frames)) + length rest) s
    (cond w (record { awaited = a; rest = cond w [] []; state = s }) (feeding_after_frames has_ended with_frame frames rest Fpdu (with_frame s a frame)))) (sym is)
    (λ live.
    let more = frames_live frames rest Fpdu (with_frame s a frame) (has_ended (with_frame s a frame)) refl live in
    let place : (with_frame s a frame).place ≡ s.place + length frame = frame_place s a frame (no_end (with_frame s a frame).ended more.0) in
    (is, omega (arith, more.1, place, length-append frame (concat frames))))

feed_live : (l : LinkSide) (piece : List ℕ) → has_ended (after_call l (Feed piece)).state ≡ false →
    (has_ended l.state ≡ false) × (fed_bytes l + length piece ≤ fed_bytes (after_call l (Feed piece)))
unfolding after_call feeding_after
feed_live l piece live =
    let s = split_Splits l.awaited (l.rest ++ piece) in
    let len : length (l.rest ++ piece) ≡ length (concat (split l.awaited (l.rest ++ piece)).frames) + length (split l.awaited (l.rest ++ piece)).rest =
    ap (λ (bytes : List ℕ). length bytes) s.whole ∙ length-append (concat (split l.awaited (l.rest ++ piece)).frames) (split l.awaited (l.rest ++ piece)).rest in
    let over = frames_live (split l.awaited (l.rest ++ piece)).frames (split l.awaited (l.rest ++ piece)).rest l.awaited l.state (has_ended l.state) refl live in
    (over.0, omega (arith, over.1, len, length-append l.rest piece))

-- ---- A region that is kept

abbrev Keeps : RegisteredMemory → Option Claim → Type 0
Keeps m region = IfSome region (λ claim. IsHeld m claim)

held_after : (l : LinkSide) (call : Call) (region : Option Claim) → ((stag : ℕ) → call ≢ Release stag) → Keeps l.state.memory region → Keeps (after_call l call).state.memory region
unfolding after_calls
held_after l call None other held = tt
held_after l call (Some claim) other held =
    claims_stay_lem l claim (call ∷ []) held (All-cons (λ c. c ≢ Release claim.stag) call [] (other claim.stag) (All-nil (λ c. c ≢ Release claim.stag)))

-- ---- Calls that take bytes

live_none : (e : Option End) → e ≡ None → is_some e ≡ false
live_none e is = ap (λ (o : Option End). is_some o) is

after_feed : (l : LinkSide) (piece : List ℕ) (most least : ℕ) (region : Option Claim) → IsCounted l most least region →
    IsCounted (after_call l (Feed piece)) (most + length piece) (least + length piece) region
after_feed l piece most least region c = record {
  most_fed = omega (arith, c.most_fed, fed_within l piece);
  least_fed = λ none.
      let live = feed_live l piece (live_none (after_call l (Feed piece)).state.ended none) in
      omega (arith, live.1, c.least_fed (no_end l.state.ended live.0));
  held = held_after l (Feed piece) region (λ stag e. cc) c.held;
}

after_feed_one : (l : LinkSide) (piece : List ℕ) (most least : ℕ) (region : Option Claim) → IsCounted l most least region →
    IsCounted (after_call l (FeedOne piece)) (most + length piece) 0 region
after_feed_one l piece most least region c = record {
  most_fed = omega (arith, c.most_fed, fed_one_within l piece);
  least_fed = λ none. omega arith;
  held = held_after l (FeedOne piece) region (λ stag e. cc) c.held;
}

is_ended_lem : (s after : LinkState) (b : Bool) → has_ended s ≡ b → has_ended after ≡ true → has_ended (cond b s after) ≡ true
is_ended_lem s after true is ended = is
is_ended_lem s after false is ended = ended

place_stays : (s after : LinkState) (b : Bool) → after.place ≡ s.place → (cond b s after).place ≡ s.place
place_stays s after true is = refl
place_stays s after false is = is

end_stays_lem : (s after : LinkState) (b : Bool) → after.ended ≡ s.ended → (cond b s after).ended ≡ s.ended
end_stays_lem s after true is = refl
end_stays_lem s after false is = is

after_no_memory : (l : LinkSide) (most least least_after : ℕ) (region : Option Claim) → IsCounted l most least region → IsCounted (after_call l OutOfMemory) most least_after region
unfolding after_call
after_no_memory l most least least_after region c = record {
  most_fed = omega (arith, c.most_fed, place_stays l.state (record l.state { ended = Some ends.Memory }) (has_ended l.state) refl);
  least_fed = λ none. never (has_ended (after_call l OutOfMemory).state) (is_ended_lem l.state _ (has_ended l.state) refl refl) (live_none (after_call l OutOfMemory).state.ended none);
  held = held_after l OutOfMemory region (λ stag e. cc) c.held;
}

after_stop : (l : LinkSide) (reason most least : ℕ) (region : Option Claim) → IsCounted l most least region → IsCounted (after_call l (Stop reason)) most least region
unfolding after_call
after_stop l reason most least region c = record {
  most_fed = omega (arith, c.most_fed, place_stays l.state (with_end_of (ends.Bad l.state.last reason) l.state) (has_ended l.state) refl);
  least_fed = λ none. never (has_ended (after_call l (Stop reason)).state) (is_ended_lem l.state (with_end_of (ends.Bad l.state.last reason) l.state) (has_ended l.state) refl refl) (live_none (after_call l (Stop reason)).state.ended none);
  held = held_after l (Stop reason) region (λ stag e. cc) c.held;
}

more : (l : LinkSide) (most further least : ℕ) (region : Option Claim) → most ≤ further → IsCounted l most least region → IsCounted l further least region
more l most further least region le c = record { most_fed = omega (arith, le, c.most_fed); least_fed = c.least_fed; held = c.held }

is_memory : (e : End) → (e ≡ ends.Memory) ⊎ (e ≢ ends.Memory)
is_memory (ends.Bad at reason) = inr (λ e. cc)
is_memory (ends.Denied stag offset why) = inr (λ e. cc)
is_memory (ends.NoBuffer msn) = inr (λ e. cc)
is_memory (ends.Terminated reason) = inr (λ e. cc)
is_memory ends.Memory = inl refl

is_memory_error : {A : Type 0} (r : Result A End) → (r ≡ Err ends.Memory) ⊎ (r ≢ Err ends.Memory)
is_memory_error (Ok a) = inr (λ e. cc)
is_memory_error (Err (ends.Bad at reason)) = inr (λ e. cc)
is_memory_error (Err (ends.Denied stag offset why)) = inr (λ e. cc)
is_memory_error (Err (ends.NoBuffer msn)) = inr (λ e. cc)
is_memory_error (Err (ends.Terminated reason)) = inr (λ e. cc)
is_memory_error (Err ends.Memory) = inl refl

-- equal in all that is counted
moved : (l after : LinkSide) (most most_after least least_after : ℕ) (region : Option Claim) → after ≡ l → most_after ≡ most → least_after ≡ least → IsCounted l most least region →
    IsCounted after most_after least_after region
moved l after most most_after least least_after region same is_most is_least c =
    subst (λ (x : LinkSide). IsCounted x most_after least_after region) (sym same)
    (subst (λ (n : ℕ). IsCounted l n least_after region) (sym is_most)
    (subst (λ (n : ℕ). IsCounted l most n region) (sym is_least) c))

pub feed_counted : {A : Type 0} (l after : LinkSide) (piece : List ℕ) (r : Result A End) (most most_after least least_after : ℕ) (region : Option Claim) →
    (r ≢ Err ends.Memory → after ≡ after_call l (Feed piece)) →
    (r ≡ Err ends.Memory → (n : ℕ) × (after ≡ after_calls l (Feed (take n piece) ∷ OutOfMemory ∷ []))) →
    most_after ≡ most + length piece → least_after ≡ least + length piece → IsCounted l most least region → IsCounted after most_after least_after region
unfolding after_calls
feed_counted l after piece r most most_after least least_after region fine none is_most is_least c = by (is_memory_error r)
  where
    by : (r ≡ Err ends.Memory) ⊎ (r ≢ Err ends.Memory) → IsCounted after most_after least_after region
    by (inr other) = moved (after_call l (Feed piece)) after (most + length piece) most_after (least + length piece) least_after region (fine other) is_most is_least (after_feed l piece most least region c)
    by (inl is) =
        let fed = none is in
        moved (after_call (after_call l (Feed (take fed.0 piece))) OutOfMemory) after most_after most_after least_after least_after region fed.1 refl refl
        (after_no_memory (after_call l (Feed (take fed.0 piece))) most_after (least + length (take fed.0 piece)) least_after region
        (more (after_call l (Feed (take fed.0 piece))) (most + length (take fed.0 piece)) most_after (least + length (take fed.0 piece)) region (omega (arith, is_most, length-take fed.0 piece))
        (after_feed l (take fed.0 piece) most least region c)))

pub feed_one_counted : {A : Type 0} (l after : LinkSide) (piece : List ℕ) (r : Result A End) (most most_after least : ℕ) (region : Option Claim) →
    (r ≢ Err ends.Memory → after ≡ after_call l (FeedOne piece)) → (r ≡ Err ends.Memory → after ≡ after_call l OutOfMemory) →
    most_after ≡ most + length piece → IsCounted l most least region → IsCounted after most_after 0 region
feed_one_counted l after piece r most most_after least region fine none is_most c = by (is_memory_error r)
  where
    by : (r ≡ Err ends.Memory) ⊎ (r ≢ Err ends.Memory) → IsCounted after most_after 0 region
    by (inr other) = moved (after_call l (FeedOne piece)) after (most + length piece) most_after 0 0 region (fine other) is_most refl (after_feed_one l piece most least region c)
    by (inl is) = moved (after_call l OutOfMemory) after most_after most_after 0 0 region (none is) refl refl
        (after_no_memory l most_after least 0 region (more l most most_after least region (omega (arith, is_most)) c))

pub stop_counted : (l after : LinkSide) (reason : ℕ) (e : End) (most least : ℕ) (region : Option Claim) →
    (e ≢ ends.Memory → after ≡ after_call l (Stop reason)) → (e ≡ ends.Memory → after ≡ after_call l OutOfMemory) → IsCounted l most least region → IsCounted after most least region
stop_counted l after reason e most least region fine none c = by (is_memory e)
  where
    by : (e ≡ ends.Memory) ⊎ (e ≢ ends.Memory) → IsCounted after most least region
    by (inr other) = moved (after_call l (Stop reason)) after most most least least region (fine other) refl refl (after_stop l reason most least region c)
    by (inl is) = moved (after_call l OutOfMemory) after most most least least region (none is) refl refl (after_no_memory l most least least region c)

-- ---- Calls that take none, and end nothing

quiet : (l after : LinkSide) (call : Call) (most least : ℕ) (region : Option Claim) → after ≡ after_call l call → fed_bytes (after_call l call) ≡ fed_bytes l →
    (after_call l call).state.ended ≡ l.state.ended → ((stag : ℕ) → call ≢ Release stag) → IsCounted l most least region → IsCounted after most least region
quiet l after call most least region is bytes ended other c =
    moved (after_call l call) after most most least least region is refl refl
    (record {
      most_fed = omega (arith, bytes, c.most_fed);
      least_fed = λ none. omega (arith, bytes, c.least_fed (sym ended ∙ none));
      held = held_after l call region other c.held;
    })

pub event_counted : (l after : LinkSide) (most least : ℕ) (region : Option Claim) → after ≡ after_call l NextEvent → IsCounted l most least region → IsCounted after most least region
unfolding after_call
event_counted l after most least region is c = quiet l after NextEvent most least region is refl refl (λ stag e. cc) c

pub post_counted : (l after : LinkSide) (most least : ℕ) (region : Option Claim) → after ≡ after_call l Post → IsCounted l most least region → IsCounted after most least region
unfolding after_call
post_counted l after most least region is c = quiet l after Post most least region is refl refl (λ stag e. cc) c

pub drain_counted : (l after : LinkSide) (n most least : ℕ) (region : Option Claim) → after ≡ after_call l (Drain n) → IsCounted l most least region → IsCounted after most least region
unfolding after_call
drain_counted l after n most least region is c = quiet l after (Drain n) most least region is refl refl (λ stag e. cc) c

after_send : (l after : LinkSide) (message : List ℕ) (most least : ℕ) (region : Option Claim) → after ≡ after_call l (Send message) → IsCounted l most least region → IsCounted after most least region
unfolding after_call
after_send l after message most least region is c =
    quiet l after (Send message) most least region is (send_fed l message) (end_stays_lem l.state _ (has_ended l.state) refl) (λ stag e. cc) c

invalidate_fed : (l : LinkSide) (stag : ℕ) (message : List ℕ) → fed_bytes (after_call l (SendInvalidate stag message)) ≡ fed_bytes l
unfolding after_call
invalidate_fed l stag message = ap (λ (n : ℕ). n + length l.rest) (place_stays l.state _ (has_ended l.state) refl)

after_send_invalidate : (l after : LinkSide) (stag : ℕ) (message : List ℕ) (most least : ℕ) (region : Option Claim) → after ≡ after_call l (SendInvalidate stag message) →
    IsCounted l most least region → IsCounted after most least region
unfolding after_call
after_send_invalidate l after stag message most least region is c =
    quiet l after (SendInvalidate stag message) most least region is (invalidate_fed l stag message) (end_stays_lem l.state _ (has_ended l.state) refl) (λ released e. cc) c

hold_fed : (l : LinkSide) (message : List ℕ) → fed_bytes (after_call l (Hold message)) ≡ fed_bytes l
unfolding after_call
hold_fed l message = ap (λ (n : ℕ). n + length l.rest) (place_stays l.state _ (has_ended l.state) refl)

after_hold : (l after : LinkSide) (message : List ℕ) (most least : ℕ) (region : Option Claim) → after ≡ after_call l (Hold message) → IsCounted l most least region → IsCounted after most least region
unfolding after_call
after_hold l after message most least region is c =
    quiet l after (Hold message) most least region is (hold_fed l message) (end_stays_lem l.state _ (has_ended l.state) refl) (λ stag e. cc) c

held_fed : (l : LinkSide) (message : List ℕ) → fed_bytes (after_call l (SendHeld message)) ≡ fed_bytes l
unfolding after_call
held_fed l message = ap (λ (n : ℕ). n + length l.rest) (place_stays l.state _ (has_ended l.state) refl)

after_send_held : (l after : LinkSide) (message : List ℕ) (most least : ℕ) (region : Option Claim) → after ≡ after_call l (SendHeld message) → IsCounted l most least region → IsCounted after most least region
unfolding after_call
after_send_held l after message most least region is c =
    quiet l after (SendHeld message) most least region is (held_fed l message) (end_stays_lem l.state _ (has_ended l.state) refl) (λ stag e. cc) c

after_invalidated : (l after : LinkSide) (stag : ℕ) (most least : ℕ) (region : Option Claim) → after ≡ after_call l (Invalidate stag) →
    IsCounted l most least region → IsCounted after most least region
unfolding after_call
after_invalidated l after stag most least region is c = quiet l after (Invalidate stag) most least region is refl refl (λ released e. cc) c

after_write : (l after : LinkSide) (stag to : ℕ) (bytes : List ℕ) (most least : ℕ) (region : Option Claim) → after ≡ after_call l (WriteRemote stag to bytes) →
    IsCounted l most least region → IsCounted after most least region
unfolding after_call
after_write l after stag to bytes most least region is c =
    quiet l after (WriteRemote stag to bytes) most least region is (write_fed_lem l stag to bytes) (end_stays_lem l.state _ (has_ended l.state) refl) (λ released e. cc) c

after_read_lem : (l after : LinkSide) (sink at stag to len : ℕ) (most least : ℕ) (region : Option Claim) → after ≡ after_call l (ReadRemote sink at stag to len) →
    IsCounted l most least region → IsCounted after most least region
unfolding after_call
after_read_lem l after sink at stag to len most least region is c =
    quiet l after (ReadRemote sink at stag to len) most least region is (read_fed l sink at stag to len) (end_stays_lem l.state _ (has_ended l.state) refl) (λ released e. cc) c

same_link : (l after : LinkSide) (most least : ℕ) (region : Option Claim) → after ≡ l → IsCounted l most least region → IsCounted after most least region
same_link l after most least region is c = moved l after most most least least region is refl refl c

pub send_counted : {A E : Type 0} (l after : LinkSide) (message : List ℕ) (r : Result A E) (most least : ℕ) (region : Option Claim) → OnOk r (after ≡ after_call l (Send message)) →
    OnErr r (after ≡ l) → IsCounted l most least region → IsCounted after most least region
send_counted l after message (Ok u) most least region fine none c = after_send l after message most least region fine c
send_counted l after message (Err e) most least region fine none c = same_link l after most least region none c

pub hold_counted : {A E : Type 0} (l after : LinkSide) (message : List ℕ) (r : Result A E) (most least : ℕ) (region : Option Claim) → OnOk r (after ≡ after_call l (Hold message)) →
    OnErr r (after ≡ l) → IsCounted l most least region → IsCounted after most least region
hold_counted l after message (Ok u) most least region fine none c = after_hold l after message most least region fine c
hold_counted l after message (Err e) most least region fine none c = same_link l after most least region none c

pub send_held_counted : (l after : LinkSide) (most least : ℕ) (region : Option Claim) →
    ((message : List ℕ) (others : List (List ℕ)) → l.state.send_queue.held ≡ message ∷ others → after ≡ after_call l (SendHeld message)) → (l.state.send_queue.held ≡ [] → after ≡ l) →
    IsCounted l most least region → IsCounted after most least region
send_held_counted l after most least region some none c = by l.state.send_queue.held refl
  where
    by : (held : List (List ℕ)) → l.state.send_queue.held ≡ held → IsCounted after most least region
    by [] is = same_link l after most least region (none is) c
    by (message ∷ others) is = after_send_held l after message most least region (some message others is) c

pub invalidate_counted : {A E : Type 0} (l after : LinkSide) (stag : ℕ) (message : List ℕ) (r : Result A E) (most least : ℕ) (region : Option Claim) →
    OnOk r (after ≡ after_call l (SendInvalidate stag message)) → OnErr r (after ≡ l) → IsCounted l most least region → IsCounted after most least region
invalidate_counted l after stag message (Ok u) most least region fine none c = after_send_invalidate l after stag message most least region fine c
invalidate_counted l after stag message (Err e) most least region fine none c = same_link l after most least region none c

pub died_counted : {A E : Type 0} (l after : LinkSide) (stag : ℕ) (r : Result A E) (most least : ℕ) (region : Option Claim) →
    OnOk r (after ≡ after_call l (Invalidate stag)) → OnErr r (after ≡ l) → IsCounted l most least region → IsCounted after most least region
died_counted l after stag (Ok u) most least region fine none c = after_invalidated l after stag most least region fine c
died_counted l after stag (Err e) most least region fine none c = same_link l after most least region none c

pub write_counted : {A E : Type 0} (l after : LinkSide) (stag to : ℕ) (bytes : List ℕ) (r : Result A E) (most least : ℕ) (region : Option Claim) →
    OnOk r (after ≡ after_call l (WriteRemote stag to bytes)) → OnErr r (after ≡ l) → IsCounted l most least region → IsCounted after most least region
write_counted l after stag to bytes (Ok u) most least region fine none c = after_write l after stag to bytes most least region fine c
write_counted l after stag to bytes (Err e) most least region fine none c = same_link l after most least region none c

pub read_counted_lem : {A E : Type 0} (l after : LinkSide) (sink at stag to len : ℕ) (r : Result A E) (most least : ℕ) (region : Option Claim) →
    OnOk r (after ≡ after_call l (ReadRemote sink at stag to len)) → OnErr r (after ≡ l) → IsCounted l most least region → IsCounted after most least region
read_counted_lem l after sink at stag to len (Ok u) most least region fine none c = after_read_lem l after sink at stag to len most least region fine c
read_counted_lem l after sink at stag to len (Err e) most least region fine none c = same_link l after most least region none c

-- ---- Regions

pub open_counted : (l : LinkSide) (side : Side) (receives stag : ℕ) (terms : SideTerms) (earlier : Option Agreement) → l ≡ initial_link side receives stag terms earlier → IsCounted l 0 0 None
open_counted l side receives stag terms earlier is = record { most_fed = omega (arith, open_fed l side receives stag terms earlier is); least_fed = λ none. omega arith; held = tt }

register_ended : (l after : LinkSide) (buf : List ℕ) (right : Right) → after ≡ after_call l (Register buf right) → after.state.ended ≡ l.state.ended
unfolding after_call
register_ended l after buf right is = ap (λ (x : LinkSide). x.state.ended) is

pub register_counted : (l after : LinkSide) (buf : List ℕ) (right : Right) (claim : Claim) (most least : ℕ) (region : Option Claim) → after ≡ after_call l (Register buf right) →
    IsHeld after.state.memory claim → IsCounted l most least region → IsCounted after most least (Some claim)
register_counted l after buf right claim most least region is held c = record {
  most_fed = omega (arith, register_fed l after buf right is, c.most_fed);
  least_fed = λ none. omega (arith, register_fed l after buf right is, c.least_fed (sym (register_ended l after buf right is) ∙ none));
  held = held;
}

pub other_counted : (l after : LinkSide) (buf : List ℕ) (right : Right) (most least : ℕ) (region : Option Claim) → after ≡ after_call l (Register buf right) →
    IsCounted l most least region → IsCounted after most least region
unfolding after_call
other_counted l after buf right most least region is c = quiet l after (Register buf right) most least region is refl refl (λ stag e. cc) c

release_fed : (l after : LinkSide) (stag : ℕ) → after ≡ after_call l (Release stag) → fed_bytes after ≡ fed_bytes l
unfolding after_call
release_fed l after stag is = ap (λ (x : LinkSide). fed_bytes x) is

release_ended : (l after : LinkSide) (stag : ℕ) → after ≡ after_call l (Release stag) → after.state.ended ≡ l.state.ended
unfolding after_call
release_ended l after stag is = ap (λ (x : LinkSide). x.state.ended) is

pub release_counted : (l after : LinkSide) (stag most least : ℕ) (region : Option Claim) → after ≡ after_call l (Release stag) → IsCounted l most least region → IsCounted after most least None
release_counted l after stag most least region is c = record {
  most_fed = omega (arith, release_fed l after stag is, c.most_fed);
  least_fed = λ none. omega (arith, release_fed l after stag is, c.least_fed (sym (release_ended l after stag is) ∙ none));
  held = tt;
}

kept_other : (l : LinkSide) (buf : List ℕ) (right : Right) (claim : Claim) → IsHeld l.state.memory claim → Release l.state.memory.next ≢ Release claim.stag
kept_other l buf right claim held e =
    let lt : claim.stag < l.state.memory.next = held.given in
    let same : l.state.memory.next ≡ claim.stag = cc in
    absurd (omega (arith, lt, same))

held_released : (l : LinkSide) (stag : ℕ) (region : Option Claim) → IfSome region (λ claim. Release stag ≢ Release claim.stag) → Keeps l.state.memory region →
    Keeps (after_call l (Release stag)).state.memory region
unfolding after_calls
held_released l stag None other held = tt
held_released l stag (Some claim) other held =
    claims_stay_lem l claim (Release stag ∷ []) held (All-cons (λ c. c ≢ Release claim.stag) (Release stag) [] other (All-nil (λ c. c ≢ Release claim.stag)))

kept_others : (l : LinkSide) (buf : List ℕ) (right : Right) (region : Option Claim) → Keeps l.state.memory region → IfSome region (λ claim. Release l.state.memory.next ≢ Release claim.stag)
kept_others l buf right None held = tt
kept_others l buf right (Some claim) held = kept_other l buf right claim held

-- a region that is released at once, beside the one that is kept
pub passing_counted : (l between after : LinkSide) (buf : List ℕ) (right : Right) (claim : Claim) (most least : ℕ) (region : Option Claim) →
    between ≡ after_call l (Register buf right) → claim ≡ claim_of l.state.memory buf → after ≡ after_call between (Release claim.stag) →
    IsCounted l most least region → IsCounted after most least region
passing_counted l between after buf right claim most least region opened is closed c =
    let b : IsCounted between most least region = other_counted l between buf right most least region opened c in
    let stag : claim.stag ≡ l.state.memory.next = ap (λ (x : Claim). x.stag) is in
    let others : IfSome region (λ x. Release claim.stag ≢ Release x.stag) =
    subst (λ (n : ℕ). IfSome region (λ x. Release n ≢ Release x.stag)) (sym stag) (kept_others l buf right region c.held) in
    record {
      most_fed = omega (arith, release_fed between after claim.stag closed, b.most_fed);
      least_fed = λ none. omega (arith, release_fed between after claim.stag closed, b.least_fed (sym (release_ended between after claim.stag closed) ∙ none));
      held = subst (λ (x : LinkSide). Keeps x.state.memory region) (sym closed) (held_released between claim.stag region others b.held);
    }

pub held_kept : (l : LinkSide) (most least : ℕ) (region : Option Claim) (claim : Claim) → region ≡ Some claim → IsCounted l most least region → IsHeld l.state.memory claim
held_kept l most least region claim is c = subst (λ (r : Option Claim). IfSome r (λ x. IsHeld l.state.memory x)) is c.held

pub next_counted : (l after : LinkSide) (most least : ℕ) (region : Option Claim) (b : Bool) → after ≡ cond b (after_call l NextEvent) l → IsCounted l most least region → IsCounted after most least region
next_counted l after most least region true is c = event_counted l after most least region is c
next_counted l after most least region false is c = same_link l after most least region is c
