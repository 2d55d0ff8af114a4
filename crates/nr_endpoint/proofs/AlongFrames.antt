-- What each frame keeps, a feed keeps.
use Rattle.std.proofs.Common.{◌≡◌, ℕ, Bool, true, false, cond, List, [], ◌∷◌, ◌++◌, take, refl, sym, subst}
use Rattle.nr_wire.specs.declared.stream.Awaited.{Awaited}
use Rattle.nr_wire.specs.declared.stream.Awaited.TheVariants.{Fpdu}
use Rattle.nr_wire.specs.Stream.{is_whole, frame_len, split}
use Rattle.nr_wire.specs.Feeding.{feeding_after, feeding_after_step, feeding_after_frames}
use Rattle.nr_wire.proofs.Feedings.{feeding_after_step-ended, feeding_after_step-whole, feeding_after_step-partial}
use Rattle.nr_endpoint.specs.LinkState.{LinkState, LinkSide, has_ended}
use Rattle.nr_endpoint.specs.Judging.{with_frame}
use Rattle.nr_endpoint.specs.Calls.{after_call}
use Rattle.nr_endpoint.specs.Calls.Call.{Feed, FeedOne}

-- each frame of a side that hasn't ended keeps it
abbrev pub KeptByFrames : (Awaited → LinkState → Type 0) → Type 0
KeptByFrames P = (a : Awaited) (s : LinkState) (frame : List ℕ) → has_ended s ≡ false → P a s → P Fpdu (with_frame s a frame)

abbrev pub Holds : (Awaited → LinkState → Type 0) → LinkSide → Type 0
Holds P link = P link.awaited link.state

pub frames_keep : (P : Awaited → LinkState → Type 0) → KeptByFrames P → (frames : List (List ℕ)) (rest : List ℕ) (a : Awaited) (s : LinkState) (b : Bool) → has_ended s ≡ b → P a s →
    Holds P (feeding_after_frames has_ended with_frame frames rest a s)
frames_keep P keeps [] rest a s b is holds = holds
frames_keep P keeps (frame ∷ frames) rest a s true is holds =
    subst (λ (w : Bool). Holds P (cond w (record { awaited = a; rest = cond w [] []; state = s }) (feeding_after_frames has_ended with_frame frames rest Fpdu (with_frame s a frame))))
    (sym is) holds
frames_keep P keeps (frame ∷ frames) rest a s false is holds =
    subst (λ (w : Bool). Holds P (cond w (record { awaited = a; rest = cond w [] []; state = s }) (feeding_after_frames has_ended with_frame frames rest Fpdu (with_frame s a frame))))
    (sym is) (frames_keep P keeps frames rest Fpdu (with_frame s a frame) (has_ended (with_frame s a frame)) refl (keeps a s frame is holds))

pub feed_keeps : (P : Awaited → LinkState → Type 0) → KeptByFrames P → (link : LinkSide) (piece : List ℕ) → P link.awaited link.state →
    P (after_call link (Feed piece)).awaited (after_call link (Feed piece)).state
unfolding after_call feeding_after
feed_keeps P keeps link piece holds =
    frames_keep P keeps (split link.awaited (link.rest ++ piece)).frames (split link.awaited (link.rest ++ piece)).rest link.awaited link.state (has_ended link.state) refl holds

pub step_by_lem : (P : Awaited → LinkState → Type 0) → KeptByFrames P → (link : LinkSide) (piece : List ℕ) (gone whole : Bool) → has_ended link.state ≡ gone → is_whole link.awaited (link.rest ++ piece) ≡ whole →
    P link.awaited link.state → Holds P (feeding_after_step has_ended with_frame link piece)
step_by_lem P keeps link piece true whole is w holds = subst (Holds P) (sym (feeding_after_step-ended has_ended with_frame link piece is)) holds
step_by_lem P keeps link piece false false is w holds = subst (Holds P) (sym (feeding_after_step-partial has_ended with_frame link piece is w)) holds
step_by_lem P keeps link piece false true is w holds =
    subst (Holds P) (sym (feeding_after_step-whole has_ended with_frame link piece is w))
    (keeps link.awaited link.state (take (frame_len link.awaited (link.rest ++ piece)) (link.rest ++ piece)) is holds)

pub feed_one_keeps : (P : Awaited → LinkState → Type 0) → KeptByFrames P → (link : LinkSide) (piece : List ℕ) → P link.awaited link.state →
    P (after_call link (FeedOne piece)).awaited (after_call link (FeedOne piece)).state
unfolding after_call
feed_one_keeps P keeps link piece holds = step_by_lem P keeps link piece (has_ended link.state) (is_whole link.awaited (link.rest ++ piece)) refl refl holds
