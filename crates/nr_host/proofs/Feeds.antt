-- A piece that is fed frame by frame.
use Rattle.std.proofs.Common.{◌≡◌, ℕ, List, [], ◌∷◌, ◌++◌, take, drop, Option, None, inl, refl, sym, ap, subst, ◌∙◌, append_assoc, take-append-drop}
use Rattle.nr_outside.specs.declared.moment.Moment.{Moment}
use Rattle.nr_wire.specs.declared.hello.Side.TheVariants.{Responder}
use Rattle.nr_reduce.specs.declared.mark.Mark.{Mark}
use Rattle.nr_reduce.specs.declared.mark.Mark.TheVariants as marks
use Rattle.nr_reduce.specs.declared.mark.LinkParameters.{LinkParameters}
use Rattle.nr_wire.specs.Feeding.{bytes_taken}
use Rattle.nr_responder.specs.ResponderState.{ResponderSide, end_of}
use Rattle.nr_responder.specs.Standing.{ResponderRepresents}
use Rattle.nr_responder.specs.Steps.{Fed}
use Rattle.nr_responder.proofs.Marks.{fed_stands_lem}
use Rattle.nr_plain.specs.History.{PassView}
use Rattle.nr_host.specs.declared.connection_limits.ConnectionLimits.{ConnectionLimits}
use Rattle.nr_host.specs.declared.conn_end.ConnEnd.{ConnEnd}
use Rattle.nr_host.specs.Connections.{Outside, SinkState, FrameMark, IsOpenedWith}
use Rattle.nr_host.specs.Steps.{IsLive, AllQuiet, EndsAt, EndsWith, FeedEnds, FeedsTo, GoesQuietly, outside}
use Rattle.nr_host.proofs.Marks.{fed}
use Rattle.nr_host.proofs.OneFrame.{one_frame}

-- a responder stands for one piece more
abbrev pub TakesIn : List ℕ → ResponderSide → ResponderSide → Type 0
TakesIn piece v v' = (opened : LinkParameters) (link : ℕ) (run : List Mark) → ResponderRepresents opened link run v → ResponderRepresents opened link (run ++ marks.Fed link Responder piece ∷ []) v'

pub live_fed : (limits : ConnectionLimits) (read link : ℕ) (before now : Outside) (piece ahead : List ℕ) (run : List Mark) (v v' : ResponderSide) → TakesIn piece v v'
    → IsLive limits read link before now (piece ++ ahead) run v → AllQuiet limits link run
    → ((opened : LinkParameters) → IsOpenedWith limits opened → FrameMark opened link run (marks.Fed link Responder piece))
    → IsLive limits read link before now ahead (run ++ marks.Fed link Responder piece ∷ []) v'
live_fed limits read link before now piece ahead run v v' takes live quiet frames = record {
  runs = fed limits read link before now piece ahead run live.runs quiet frames;
  stands = λ opened granted. takes opened link run (live.stands opened granted);
}

-- the piece is cut after n bytes
cut_at : (n : ℕ) (left rest ahead : List ℕ) → rest ≡ drop n left → left ++ ahead ≡ take n left ++ (rest ++ ahead)
cut_at n left rest ahead is =
    ap (λ (l : List ℕ). l ++ ahead) (sym (take-append-drop n left)) ∙ append_assoc (take n left) (drop n left) ahead
    ∙ ap (λ (l : List ℕ). take n left ++ (l ++ ahead)) (sym is)

-- the bytes that a step takes, of which one frame at most is complete
one_fed : (limits : ConnectionLimits) (read link : ℕ) (before now : Outside) (left rest ahead : List ℕ) (n : ℕ) (run : List Mark) (v v1 : ResponderSide) → end_of v ≡ None
    → n ≡ bytes_taken v.link.awaited v.link.rest left → TakesIn (take n left) v v1 → rest ≡ drop n left
    → IsLive limits read link before now (left ++ ahead) run v → AllQuiet limits link run
    → IsLive limits read link before now (rest ++ ahead) (run ++ marks.Fed link Responder (take n left) ∷ []) v1
one_fed limits read link before now left rest ahead n run v v1 on n_is takes is live quiet =
    let cut = subst (λ (bytes : List ℕ). IsLive limits read link before now bytes run v) (cut_at n left rest ahead is) live in
    live_fed limits read link before now (take n left) (rest ++ ahead) run v v1 takes cut quiet
    (λ opened granted. inl (one_frame opened link run v left n (live.stands opened granted) on n_is))

module _ (piece left : List ℕ) (sink sink' : SinkState) (gave gave' : Option (List Moment)) (view view' : PassView) (v v' : ResponderSide)
    (feeds : FeedsTo piece left sink sink' gave gave' view view' v v') (on : end_of v' ≡ None) (n : ℕ) (n_is : n ≡ bytes_taken v'.link.awaited v'.link.rest left) where
  -- one frame more
  pub feeds_on : (rest : List ℕ) (sink'' : SinkState) (gave'' : Option (List Moment)) (view'' : PassView) (v1 v2 : ResponderSide)
      → TakesIn (take n left) v' v1 → rest ≡ drop n left
      → GoesQuietly sink' sink'' gave' gave'' view' view'' v1 v2 → FeedsTo piece rest sink sink'' gave gave'' view view'' v v2
  feeds_on rest sink'' gave'' view'' v1 v2 takes is goes limits read link before l g ahead run live quiet =
      let (run1, (live1, quiet1)) = feeds limits read link before l g ahead run live quiet in
      let live2 = one_fed limits read link before (outside l g sink' gave' view') left rest ahead n run1 v' v1 on n_is takes is live1 quiet1 in
      goes limits read link before l g (rest ++ ahead) (run1 ++ marks.Fed link Responder (take n left) ∷ []) live2

  -- the connection ends while the calls of a frame are answered
  pub answers_end : (rest : List ℕ) (end : ConnEnd) (sink'' : SinkState) (gave'' : Option (List Moment)) (view'' : PassView) (v1 : ResponderSide)
      → TakesIn (take n left) v' v1 → rest ≡ drop n left
      → EndsWith end sink' sink'' gave' gave'' view' view'' v1 → FeedEnds end piece sink sink'' gave gave'' view view'' v
  answers_end rest end sink'' gave'' view'' v1 takes is ends limits read link before l g run most live quiet =
      let (run1, (live1, quiet1)) = feeds limits read link before l g [] run live quiet in
      let live2 = one_fed limits read link before (outside l g sink' gave' view') left rest [] n run1 v' v1 on n_is takes is live1 quiet1 in
      ends limits read link before l g (rest ++ []) (run1 ++ marks.Fed link Responder (take n left) ∷ []) most live2

  -- the side ends at a frame
  pub feed_ends : (end : ConnEnd) (sink'' : SinkState) (v1 : ResponderSide) → Fed v' (take n left) v1
      → EndsAt end sink' sink'' v1 → FeedEnds end piece sink sink'' gave gave' view view' v
  feed_ends end sink'' v1 fed ends limits read link before l g run most live quiet =
      let (run1, (live1, quiet1)) = feeds limits read link before l g [] run live quiet in
      let takes : TakesIn (take n left) v' v1 = λ opened k r stands. fed_stands_lem opened k r v' v1 (take n left) fed on stands in
      let live2 = one_fed limits read link before (outside l g sink' gave' view') left (drop n left) [] n run1 v' v1 on n_is takes refl live1 quiet1 in
      ends limits read link before l g gave' view' (drop n left ++ []) (run1 ++ marks.Fed link Responder (take n left) ∷ []) most live2
