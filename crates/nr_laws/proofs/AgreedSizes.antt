-- What both sides of a matched link agree on, by their hellos, and how long their messages are by that.
use Rattle.std.proofs.Common.{◌≡◌, ℕ, ◌≤◌, ◌<◌, Bool, true, List, [], ◌∷◌, ◌++◌, drop, length, Option, None, Some, Result, Ok, Err, refl, sym, ap, subst, ◌∙◌, arith}
use Rattle.nr_wire.specs.Constants.{HELLO_LEN}
use Rattle.nr_wire.specs.Segment.{Segment}
use Rattle.nr_wire.specs.declared.hello.Side.TheVariants.{Initiator, Responder}
use Rattle.nr_link.specs.declared.agreement.Agreement.{Agreement}
use Rattle.nr_link.specs.Agreement.{agreement, responder_private, IsSendLimit}
use Rattle.nr_link.specs.Frames.{Frame}
use Rattle.nr_link.specs.ReceiveState.{ReadRequest, message_completed, read_request_of}
use Rattle.nr_link.proofs.Agreements.{agreements_bounded}
use Rattle.nr_reduce.specs.declared.mark.LinkParameters.{LinkParameters}
use Rattle.nr_reduce.specs.Hellos.{client_private, private_of, client_agreement, server_agreement}
use Rattle.nr_reduce.specs.ClientState.{ClientState}
use Rattle.nr_reduce.specs.Client.{with_hello, with_message, with_request, with_segment, due_with_response}
use Rattle.nr_reduce.specs.ServerState.{ServerState}
use Rattle.nr_reduce.specs.Server.{with_own_hello}
use Rattle.nr_laws.proofs.Brought.{hello_private}
use Rattle.nr_laws.proofs.FirstHellos.{first_private, first_hello, client_says}
use Rattle.nr_laws.proofs.FrameContents.{FrameContent}

-- by the first hello of each side
abbrev pub matched_agreement : LinkParameters → Agreement
matched_agreement opened = agreement (first_private opened Initiator) (first_private opened Responder)

abbrev pub matched_up : LinkParameters → ℕ
matched_up opened = (matched_agreement opened).up

abbrev pub matched_down : LinkParameters → ℕ
matched_down opened = (matched_agreement opened).down

-- whether a reply may be a Send with Invalidate
abbrev pub matched_invalidates : LinkParameters → Bool
matched_invalidates opened = (matched_agreement opened).invalidates

pub up_limited : (opened : LinkParameters) → IsSendLimit (matched_up opened)
up_limited opened = (agreements_bounded (first_private opened Initiator) (first_private opened Responder)).0

pub down_limited : (opened : LinkParameters) → IsSendLimit (matched_down opened)
down_limited opened = (agreements_bounded (first_private opened Initiator) (first_private opened Responder)).1

-- each side agrees on it once it has the other's hello
pub client_agrees : (opened : LinkParameters) (f : Frame) → f.bytes ≡ first_hello opened Responder → client_agreement opened f ≡ matched_agreement opened
unfolding client_agreement
client_agrees opened f is =
    ap (λ (private : List ℕ). agreement (client_private opened) private) (ap (λ (bytes : List ℕ). drop HELLO_LEN bytes) is ∙ hello_private Responder (first_private opened Responder))

pub server_agrees : (opened : LinkParameters) (f : Frame) → f.bytes ≡ first_hello opened Initiator → server_agreement opened f ≡ matched_agreement opened
unfolding server_agreement
server_agrees opened f is =
    let says : private_of f ≡ client_private opened = ap (λ (bytes : List ℕ). drop HELLO_LEN bytes) is ∙ client_says opened in
    ap (λ (private : List ℕ). agreement private (responder_private opened.server private)) says

-- Both sides go by it: what a side sends is no longer, and what it takes after the other's hello is no shorter; a server names STags only if
-- that is agreed, and then a client takes them.
pub record SizesAgree (opened : LinkParameters) (k : ClientState) (s : ServerState) (received_up : List FrameContent) : Type 0 where
  pub client_up : k.up_max ≤ matched_up opened
  pub client_down : k.has_hello ≡ true → matched_down opened ≤ k.down_max
  pub server_up : 0 < length received_up → matched_up opened ≤ s.up_max
  pub server_down : s.down_max ≤ matched_down opened
  pub client_takes : k.has_hello ≡ true → k.invalidates ≡ matched_invalidates opened
  pub server_names : s.invalidates ≡ true → matched_invalidates opened ≡ true

-- ---- A frame later than the hello changes none of it

request_sizes : (m : ClientState) (due : ℕ) (o : Option ReadRequest) → ((with_request m due o).up_max ≡ m.up_max) × ((with_request m due o).down_max ≡ m.down_max) × ((with_request m due o).invalidates ≡ m.invalidates)
request_sizes m due None = (refl, refl, refl)
request_sizes m due (Some q) = (refl, refl, refl)

message_sizes : (k : ClientState) (place : ℕ) (o : Option (List ℕ)) → ((with_message k place o).up_max ≡ k.up_max) × ((with_message k place o).down_max ≡ k.down_max) × ((with_message k place o).invalidates ≡ k.invalidates)
message_sizes k place None = (refl, refl, refl)
message_sizes k place (Some message) = (refl, refl, refl)

pub segment_sizes : (k : ClientState) (f : Frame) (r : Result Segment ℕ) → ((with_segment k f r).up_max ≡ k.up_max) × ((with_segment k f r).down_max ≡ k.down_max) × ((with_segment k f r).invalidates ≡ k.invalidates)
segment_sizes k f (Err reason) = (refl, refl, refl)
segment_sizes k f (Ok s) =
    let m = message_sizes k f.end (message_completed k.received s) in
    let q = request_sizes (with_message k f.end (message_completed k.received s)) (due_with_response k f s) (read_request_of s) in
    (q.0 ∙ m.0, q.1 ∙ m.1, q.2 ∙ m.2)

pub segment_hello : (k : ClientState) (f : Frame) (r : Result Segment ℕ) → (with_segment k f r).has_hello ≡ k.has_hello
segment_hello k f (Err reason) = refl
segment_hello k f (Ok s) = by (message_completed k.received s) (read_request_of s)
  where
    by : (m : Option (List ℕ)) (q : Option ReadRequest) → (with_request (with_message k f.end m) (due_with_response k f s) q).has_hello ≡ k.has_hello
    by None None = refl
    by None (Some q) = refl
    by (Some m) None = refl
    by (Some m) (Some q) = refl

pub client_keeps_sizes : (opened : LinkParameters) (k t : ClientState) (s : ServerState) (u : List FrameContent) (f : Frame) (r : Result Segment ℕ) → t ≡ with_segment k f r → k.has_hello ≡ true → SizesAgree opened k s u → SizesAgree opened t s u
client_keeps_sizes opened k t s u f r is hello z =
    let same = segment_sizes k f r in
    subst (λ (x : ClientState). SizesAgree opened x s u) (sym is) (record {
      client_up = omega (arith, same.0, z.client_up);
      client_down = λ e. omega (arith, same.1, z.client_down hello);
      server_up = z.server_up;
      server_down = z.server_down;
      client_takes = λ e. same.2 ∙ z.client_takes hello;
      server_names = z.server_names;
    })

pub server_keeps_sizes : (opened : LinkParameters) (k : ClientState) (s t : ServerState) (u : List FrameContent) (p : FrameContent) → 0 < length u → t.up_max ≡ s.up_max → t.down_max ≡ s.down_max → t.invalidates ≡ s.invalidates → SizesAgree opened k s u → SizesAgree opened k t (u ++ p ∷ [])
server_keeps_sizes opened k s t u p received up down names z = record {
  client_up = z.client_up;
  client_down = z.client_down;
  server_up = λ some. omega (arith, up, z.server_up received);
  server_down = omega (arith, down, z.server_down);
  client_takes = z.client_takes;
  server_names = λ e. z.server_names (sym names ∙ e);
}

-- ---- The hellos

pub client_takes_sizes : (opened : LinkParameters) (k : ClientState) (s : ServerState) (u : List FrameContent) (f : Frame) → f.bytes ≡ first_hello opened Responder → SizesAgree opened k s u → SizesAgree opened (with_hello opened k f) s u
client_takes_sizes opened k s u f is z =
    let agreed = client_agrees opened f is in
    record {
      client_up = omega (arith, ap (λ (a : Agreement). a.up) agreed);
      client_down = λ e. omega (arith, ap (λ (a : Agreement). a.down) agreed);
      server_up = z.server_up;
      server_down = z.server_down;
      client_takes = λ e. ap (λ (a : Agreement). a.invalidates) agreed;
      server_names = z.server_names;
    }

pub server_takes_sizes : (opened : LinkParameters) (k : ClientState) (s : ServerState) (u : List FrameContent) (p : FrameContent) (f : Frame) → f.bytes ≡ first_hello opened Initiator → SizesAgree opened k s u → SizesAgree opened k (with_own_hello opened s f) (u ++ p ∷ [])
server_takes_sizes opened k s u p f is z =
    let agreed = server_agrees opened f is in
    record {
      client_up = z.client_up;
      client_down = z.client_down;
      server_up = λ some. omega (arith, ap (λ (a : Agreement). a.up) agreed);
      server_down = omega (arith, ap (λ (a : Agreement). a.down) agreed);
      client_takes = z.client_takes;
      server_names = λ e. sym (ap (λ (a : Agreement). a.invalidates) agreed) ∙ e;
    }
