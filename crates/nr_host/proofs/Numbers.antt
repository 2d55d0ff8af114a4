-- The number of a client, as the marks go on: it stays once the hello was received.
use Rattle.std.proofs.Common.{◌≡◌, ◌≢◌, ℕ, List, [], ◌∷◌, ◌++◌, refl, sym, ap, ◌∙◌, append-nil}
use Rattle.nr_wire.specs.declared.hello.Side.TheVariants.{Initiator, Responder}
use Rattle.nr_link.specs.Frames.{Frame, frames_of}
use Rattle.nr_link.specs.Input.{initial_input, input_after, input_frames}
use Rattle.nr_reduce.specs.declared.mark.Mark.{Mark}
use Rattle.nr_reduce.specs.History.{bytes_received, fed_at}
use Rattle.nr_reduce.specs.NumberedJournal.{number_heard, number_in_frames}
use Rattle.nr_reduce.proofs.Standing.{received_one}
use Rattle.nr_responder.proofs.Pieces.{frames_parts}

abbrev pub frames_received : ℕ → List Mark → List Frame
frames_received link run = frames_of Initiator (bytes_received link Responder run)

-- ---- A mark at which nothing is fed

received_same : (link : ℕ) (run : List Mark) (mark : Mark) → fed_at link Responder mark ≡ [] → bytes_received link Responder (run ++ mark ∷ []) ≡ bytes_received link Responder run
received_same link run mark none = received_one link Responder run mark ∙ ap (λ (bytes : List ℕ). bytes_received link Responder run ++ bytes) none ∙ append-nil (bytes_received link Responder run)

pub frames_same : (link : ℕ) (run : List Mark) (mark : Mark) → fed_at link Responder mark ≡ [] → frames_received link (run ++ mark ∷ []) ≡ frames_received link run
frames_same link run mark none = ap (frames_of Initiator) (received_same link run mark none)

pub number_same : (link : ℕ) (run : List Mark) (mark : Mark) → fed_at link Responder mark ≡ [] → number_heard (run ++ mark ∷ []) link ≡ number_heard run link
unfolding number_heard
number_same link run mark none = ap number_in_frames (frames_same link run mark none)

-- ---- A piece

-- the frames of more bytes
longer : (x y : List ℕ) → frames_of Initiator (x ++ y) ≡ frames_of Initiator x ++ input_frames (input_after (initial_input Initiator) x) y
unfolding frames_of
longer x y = frames_parts (initial_input Initiator) x y

frames_fed : (link : ℕ) (run : List Mark) (mark : Mark) (piece : List ℕ) → fed_at link Responder mark ≡ piece →
    frames_received link (run ++ mark ∷ []) ≡ frames_received link run ++ input_frames (input_after (initial_input Initiator) (bytes_received link Responder run)) piece
frames_fed link run mark piece fed =
    ap (frames_of Initiator) (received_one link Responder run mark ∙ ap (λ (bytes : List ℕ). bytes_received link Responder run ++ bytes) fed) ∙ longer (bytes_received link Responder run) piece

some_more : (fs gs : List Frame) → fs ≢ [] → fs ++ gs ≢ []
some_more [] gs some is = some refl
some_more (f ∷ fs) gs some is = absurd (let two : f ∷ (fs ++ gs) ≡ [] = is in cc)

same_number : (fs gs : List Frame) → fs ≢ [] → number_in_frames (fs ++ gs) ≡ number_in_frames fs
same_number [] gs some = absurd (some refl)
same_number (f ∷ fs) gs some = refl

pub some_fed : (link : ℕ) (run : List Mark) (mark : Mark) (piece : List ℕ) → fed_at link Responder mark ≡ piece → frames_received link run ≢ [] → frames_received link (run ++ mark ∷ []) ≢ []
some_fed link run mark piece fed some none = some_more (frames_received link run) _ some (sym (frames_fed link run mark piece fed) ∙ none)

pub number_fed : (link : ℕ) (run : List Mark) (mark : Mark) (piece : List ℕ) → fed_at link Responder mark ≡ piece → frames_received link run ≢ [] → number_heard (run ++ mark ∷ []) link ≡ number_heard run link
unfolding number_heard
number_fed link run mark piece fed some = ap number_in_frames (frames_fed link run mark piece fed) ∙ same_number (frames_received link run) _ some
