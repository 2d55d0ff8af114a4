-- A link is the same however its stream is cut, and what a link keeps of its input.
use Rattle.std.proofs.Common.{◌≡◌, ℕ, Bool, true, false, cond, List, [], ◌∷◌, ◌++◌, refl, sym, subst, ◌∙◌, Option}
use Rattle.nr_wire.specs.declared.hello.Side.{Side}
use Rattle.nr_wire.specs.declared.stream.Awaited.{Awaited}
use Rattle.nr_wire.specs.declared.stream.Awaited.TheVariants.{Fpdu}
use Rattle.nr_wire.specs.Stream.{IsPartial, is_whole}
use Rattle.nr_wire.specs.Feeding.{feeding_after, feeding_after_step, feeding_after_frames}
use Rattle.nr_wire.proofs.Frames.{partial_nil}
use Rattle.nr_wire.proofs.Feedings.{feeding_after-append, feeding_after_step-rest, feeding_after-partial, feeding_after_step-partial_rest, feeding-ended, feeding_after_step-ended, feeding_after_step-whole, feeding_after_step-partial}
use Rattle.nr_link.specs.declared.agreement.SideTerms.{SideTerms}
use Rattle.nr_link.specs.declared.agreement.Agreement.{Agreement}
use Rattle.nr_endpoint.specs.LinkState.{LinkSide, LinkState, has_ended, initial_link}
use Rattle.nr_endpoint.specs.Judging.{with_frame}
use Rattle.nr_endpoint.specs.Calls.{Call, after_call, after_calls, unless_ended}
use Rattle.nr_endpoint.specs.Calls.Call.{Feed, FeedOne, NextEvent, Post, Stop, OutOfMemory, Send, WriteRemote, ReadRemote, Drain, Register, Release, SendInvalidate, Hold, SendHeld, Invalidate}
use Rattle.nr_endpoint.specs.Laws.{PiecesJoin, StepsReach, EndStays, KeepsLessThanFrame, EndedKeepsNothing}

pub pieces_join : PiecesJoin
unfolding after_calls after_call
pieces_join link x y = feeding_after-append has_ended with_frame link x y

pub steps_reach : StepsReach
unfolding after_calls after_call
steps_reach link piece partial = feeding_after_step-rest has_ended with_frame link piece partial

pub end_stays_lem : EndStays
unfolding after_call
end_stays_lem link piece ended none = feeding-ended has_ended with_frame link piece ended none

-- ---- Less than a frame

abbrev IsPartialLink : LinkSide → Type 0
IsPartialLink link = IsPartial link.awaited link.rest

partial_call : (link : LinkSide) (call : Call) → IsPartialLink link → IsPartialLink (after_call link call)
unfolding after_call
partial_call link (Feed piece) p = feeding_after-partial has_ended with_frame link piece
partial_call link (FeedOne piece) p = feeding_after_step-partial_rest has_ended with_frame link piece
partial_call link NextEvent p = p
partial_call link Post p = p
partial_call link (Stop reason) p = partial_nil link.awaited
partial_call link OutOfMemory p = partial_nil link.awaited
partial_call link (Send message) p = p
partial_call link (SendInvalidate stag message) p = p
partial_call link (Hold message) p = p
partial_call link (SendHeld message) p = p
partial_call link (WriteRemote stag to bytes) p = p
partial_call link (ReadRemote sink at stag to len) p = p
partial_call link (Drain count) p = p
partial_call link (Register buf right) p = p
partial_call link (Release stag) p = p
partial_call link (Invalidate stag) p = p

partial_calls : (link : LinkSide) (calls : List Call) → IsPartialLink link → IsPartialLink (after_calls link calls)
unfolding after_calls
partial_calls link [] p = p
partial_calls link (call ∷ calls) p = partial_calls (after_call link call) calls (partial_call link call p)

partial_initial : (side : Side) (receives first_stag : ℕ) (terms : SideTerms) (earlier : Option Agreement) → IsPartialLink (initial_link side receives first_stag terms earlier)
unfolding initial_link
partial_initial side receives first_stag terms earlier = partial_nil _

pub keeps_less_than_frame : KeepsLessThanFrame
keeps_less_than_frame side receives first_stag terms earlier calls = partial_calls (initial_link side receives first_stag terms earlier) calls (partial_initial side receives first_stag terms earlier)

-- ---- A side that has ended keeps no input

abbrev IsEmptyIfEnded : LinkSide → Type 0
IsEmptyIfEnded link = has_ended link.state ≡ true → link.rest ≡ []

if_ended : (b : Bool) (rest : List ℕ) → b ≡ true → cond b [] rest ≡ []
if_ended true rest is = refl
if_ended false rest is = absurd cc

empty_frames : (frames : List (List ℕ)) (rest : List ℕ) (a : Awaited) (s : LinkState) (b : Bool) → has_ended s ≡ b →
    IsEmptyIfEnded (feeding_after_frames has_ended with_frame frames rest a s)
empty_frames [] rest a s b is = if_ended (has_ended s) rest
empty_frames (frame ∷ frames) rest a s true is =
    subst (λ (w : Bool). IsEmptyIfEnded (cond w (record { awaited = a; rest = cond w [] []; state = s }) (feeding_after_frames has_ended with_frame frames rest Fpdu (with_frame s a frame))))
    (sym is) (λ ended. refl)
empty_frames (frame ∷ frames) rest a s false is =
    subst (λ (w : Bool). IsEmptyIfEnded (cond w (record { awaited = a; rest = cond w [] []; state = s }) (feeding_after_frames has_ended with_frame frames rest Fpdu (with_frame s a frame))))
    (sym is) (empty_frames frames rest Fpdu (with_frame s a frame) (has_ended (with_frame s a frame)) refl)

empty_fed : (link : LinkSide) (piece : List ℕ) → IsEmptyIfEnded (feeding_after has_ended with_frame link piece)
unfolding feeding_after
empty_fed link piece = empty_frames _ _ link.awaited link.state (has_ended link.state) refl

empty_step : (link : LinkSide) (piece : List ℕ) (gone whole : Bool) → has_ended link.state ≡ gone → is_whole link.awaited (link.rest ++ piece) ≡ whole →
    IsEmptyIfEnded (feeding_after_step has_ended with_frame link piece)
empty_step link piece true whole is w =
    subst IsEmptyIfEnded (sym (feeding_after_step-ended has_ended with_frame link piece is)) (λ ended. refl)
empty_step link piece false true is w =
    subst IsEmptyIfEnded (sym (feeding_after_step-whole has_ended with_frame link piece is w)) (λ ended. refl)
empty_step link piece false false is w =
    subst IsEmptyIfEnded (sym (feeding_after_step-partial has_ended with_frame link piece is w)) (λ ended. absurd (let h : true ≡ false = sym ended ∙ is in cc))

-- a side that has ended or not is left as it is
unless_kept : (s after : LinkState) (rest : List ℕ) → has_ended after ≡ has_ended s → (has_ended s ≡ true → rest ≡ []) → has_ended (unless_ended s after) ≡ true → rest ≡ []
unless_kept s after rest same p = by (has_ended s) refl
  where
    by : (b : Bool) → has_ended s ≡ b → has_ended (cond b s after) ≡ true → rest ≡ []
    by true is ended = p is
    by false is ended = p (sym same ∙ ended)

empty_call : (link : LinkSide) (call : Call) → IsEmptyIfEnded link → IsEmptyIfEnded (after_call link call)
unfolding after_call
empty_call link (Feed piece) p = empty_fed link piece
empty_call link (FeedOne piece) p = empty_step link piece (has_ended link.state) (is_whole link.awaited (link.rest ++ piece)) refl refl
empty_call link NextEvent p = p
empty_call link Post p = p
empty_call link (Stop reason) p = λ ended. refl
empty_call link OutOfMemory p = λ ended. refl
empty_call link (Send message) p = unless_kept link.state _ link.rest refl p
empty_call link (SendInvalidate stag message) p = unless_kept link.state _ link.rest refl p
empty_call link (Hold message) p = unless_kept link.state _ link.rest refl p
empty_call link (SendHeld message) p = unless_kept link.state _ link.rest refl p
empty_call link (WriteRemote stag to bytes) p = unless_kept link.state _ link.rest refl p
empty_call link (ReadRemote sink at stag to len) p = unless_kept link.state _ link.rest refl p
empty_call link (Drain count) p = p
empty_call link (Register buf right) p = p
empty_call link (Release stag) p = p
empty_call link (Invalidate stag) p = p

empty_calls : (link : LinkSide) (calls : List Call) → IsEmptyIfEnded link → IsEmptyIfEnded (after_calls link calls)
unfolding after_calls
empty_calls link [] p = p
empty_calls link (call ∷ calls) p = empty_calls (after_call link call) calls (empty_call link call p)

empty_initial : (side : Side) (receives first_stag : ℕ) (terms : SideTerms) (earlier : Option Agreement) → IsEmptyIfEnded (initial_link side receives first_stag terms earlier)
unfolding initial_link
empty_initial side receives first_stag terms earlier = λ ended. refl

pub ended_keeps_nothing : EndedKeepsNothing
ended_keeps_nothing side receives first_stag terms earlier calls = empty_calls (initial_link side receives first_stag terms earlier) calls (empty_initial side receives first_stag terms earlier)
