-- Once an FPDU is awaited, the peer's hello was accepted; and calls that are allowed one after the other.
use Rattle.std.proofs.Common.{◌≡◌, ℕ, Bool, true, false, cond, List, [], ◌∷◌, Option, Some, None, Result, Ok, Err, is_some, refl, sym, ap, subst, ◌∙◌}
use Rattle.nr_wire.specs.declared.hello.Side.{Side}
use Rattle.nr_wire.specs.declared.stream.Awaited.{Awaited}
use Rattle.nr_wire.specs.declared.stream.Awaited.TheVariants.{Hello as HelloFrom, Fpdu}
use Rattle.nr_wire.specs.Hello.{Hello, hello_of}
use Rattle.nr_link.specs.declared.end.End.{End}
use Rattle.nr_link.specs.declared.end.End.TheVariants as ends
use Rattle.nr_link.specs.Frames.{Frame}
use Rattle.nr_link.specs.declared.agreement.SideTerms.{SideTerms}
use Rattle.nr_link.specs.declared.agreement.Agreement.{Agreement}
use Rattle.nr_endpoint.specs.LinkState.{LinkState, LinkSide, has_ended, initial_link}
use Rattle.nr_endpoint.specs.Judging.{next_frame, with_frame, with_fpdu, with_peer_hello, next_segment}
use Rattle.nr_endpoint.specs.Calls.{Call, after_call, after_calls}
use Rattle.nr_endpoint.specs.Calls.Call.{Feed, FeedOne, NextEvent, Post, Stop, OutOfMemory, Send, WriteRemote, ReadRemote, Drain, Register, Release, SendInvalidate, Hold, SendHeld, Invalidate}
use Rattle.nr_endpoint.specs.OutputLaws.{AllowedCallsJoin, FpdusFollowHello}
use Rattle.nr_endpoint.proofs.AlongFrames.{feed_keeps, feed_one_keeps}
use Rattle.nr_endpoint.proofs.HelloLaws.{SameSide, fpdu_side}
use Rattle.nr_endpoint.proofs.HellosFrom.{hello_from}

pub allowed_join : AllowedCallsJoin
unfolding after_calls
allowed_join start [] more first later = later
allowed_join start (call ∷ calls) more first later = (first.0, allowed_join (after_call start call) calls more first.1 later)

abbrev pub Greeted : Awaited → LinkState → Type 0
Greeted a s = has_ended s ≡ false → a ≡ Fpdu → s.has_hello ≡ true

hello_greeted : (s : LinkState) (f : Frame) (r : Result Hello ℕ) → Greeted Fpdu (with_peer_hello f r s)
unfolding with_peer_hello
hello_greeted s f (Ok hello) = λ live is. refl
hello_greeted s f (Err reason) = λ live is. absurd (let h : true ≡ false = live in cc)

frame_greeted : (a : Awaited) (s : LinkState) (frame : List ℕ) → has_ended s ≡ false → Greeted a s → Greeted Fpdu (with_frame s a frame)
frame_greeted (HelloFrom side) s frame live greeted =
    hello_from (Greeted Fpdu) side (next_frame s frame) (hello_of side frame) s (hello_greeted s (next_frame s frame) (hello_of side frame)) (λ lives is. absurd (let h : true ≡ false = lives in cc))
frame_greeted Fpdu s frame live greeted =
    let same : SameSide s (with_fpdu (next_frame s frame) (next_segment s frame) s) = fpdu_side s (next_frame s frame) (next_segment s frame) in
    λ lives is. same.1 ∙ greeted live refl

-- after a frame that was judged
pub greeted_judged : (a : Awaited) (s next : LinkState) (frame : List ℕ) → s.ended ≡ None → Greeted a s → next ≡ with_frame s a frame → Greeted Fpdu next
greeted_judged a s next frame none greeted is =
    subst (λ (t : LinkState). Greeted Fpdu t) (sym is) (frame_greeted a s frame (ap (λ (e : Option End). is_some e) none) greeted)

-- after memory ran out
pub greeted_out : (a : Awaited) (s next : LinkState) → next ≡ record s { ended = Some ends.Memory } → Greeted a next
greeted_out a s next is = λ live awaits. absurd (let h : true ≡ false = sym (ap (λ (t : LinkState). has_ended t) is) ∙ live in cc)

either_greeted : (a : Awaited) (s after : LinkState) (b : Bool) → Greeted a s → Greeted a after → Greeted a (cond b s after)
either_greeted a s after true greeted later = greeted
either_greeted a s after false greeted later = later

call_greeted : (link : LinkSide) (call : Call) → Greeted link.awaited link.state → Greeted (after_call link call).awaited (after_call link call).state
unfolding after_call
call_greeted link (Feed piece) greeted = feed_keeps Greeted frame_greeted link piece greeted
call_greeted link (FeedOne piece) greeted = feed_one_keeps Greeted frame_greeted link piece greeted
call_greeted link NextEvent greeted = greeted
call_greeted link Post greeted = greeted
call_greeted link (Stop reason) greeted =
    either_greeted link.awaited link.state _ (has_ended link.state) greeted (λ live is. absurd (let h : true ≡ false = live in cc))
call_greeted link OutOfMemory greeted =
    either_greeted link.awaited link.state _ (has_ended link.state) greeted (λ live is. absurd (let h : true ≡ false = live in cc))
call_greeted link (Send message) greeted = either_greeted link.awaited link.state _ (has_ended link.state) greeted greeted
call_greeted link (SendInvalidate stag message) greeted = either_greeted link.awaited link.state _ (has_ended link.state) greeted greeted
call_greeted link (Hold message) greeted = either_greeted link.awaited link.state _ (has_ended link.state) greeted greeted
call_greeted link (SendHeld message) greeted = either_greeted link.awaited link.state _ (has_ended link.state) greeted greeted
call_greeted link (WriteRemote stag to bytes) greeted = either_greeted link.awaited link.state _ (has_ended link.state) greeted greeted
call_greeted link (ReadRemote sink at stag to len) greeted = either_greeted link.awaited link.state _ (has_ended link.state) greeted greeted
call_greeted link (Drain count) greeted = greeted
call_greeted link (Register buf right) greeted = greeted
call_greeted link (Release stag) greeted = greeted
call_greeted link (Invalidate stag) greeted = greeted

calls_greeted : (link : LinkSide) (calls : List Call) → Greeted link.awaited link.state → Greeted (after_calls link calls).awaited (after_calls link calls).state
unfolding after_calls
calls_greeted link [] greeted = greeted
calls_greeted link (call ∷ calls) greeted = calls_greeted (after_call link call) calls (call_greeted link call greeted)

initial_greeted : (side : Side) (receives first_stag : ℕ) (terms : SideTerms) (earlier : Option Agreement) → Greeted (initial_link side receives first_stag terms earlier).awaited (initial_link side receives first_stag terms earlier).state
unfolding initial_link
initial_greeted side receives first_stag terms earlier = λ live is. absurd cc

pub fpdus_follow_hello : FpdusFollowHello
fpdus_follow_hello side receives first_stag terms earlier calls =
    calls_greeted (initial_link side receives first_stag terms earlier) calls (initial_greeted side receives first_stag terms earlier)
