-- A piece in parts, and a piece that completes one frame, or none.
use Rattle.std.proofs.Common.{◌≡◌, ℕ, suc, ◌+◌, true, false, List, [], ◌∷◌, ◌++◌, length, take, drop, Some, None, refl, sym, ap, subst, ◌∙◌, append_assoc, arith, length-append}
use Rattle.std.specs.Prelude.{map}
use Rattle.std.specs.List.{concat}
use Rattle.std.proofs.lemmas.List.{append-nil, map-append}
use Rattle.nr_wire.specs.declared.stream.Awaited.{Awaited}
use Rattle.nr_wire.specs.declared.stream.Awaited.TheVariants.{Fpdu}
use Rattle.nr_wire.specs.Stream.{Split, split, is_whole, frame_len, awaited_after, frames_then, IsPartial}
use Rattle.nr_wire.specs.Feeding.{bytes_taken}
use Rattle.nr_wire.proofs.Splits.{split_append, split_partial, split_frame, awaited_after_Fpdu}
use Rattle.nr_link.specs.Frames.{frames_from}
use Rattle.nr_link.specs.Input.{InputState, input_split, input_frames, input_after}
use Rattle.nr_link.proofs.Streams.{frames_from_append}
use Rattle.nr_endpoint.proofs.StagedFrames.{taken_whole, taken_all}
use Rattle.nr_reduce.specs.declared.mark.LinkParameters.{LinkParameters}
use Rattle.nr_reduce.specs.Events.{RunEvent}
use Rattle.nr_reduce.specs.Events.RunEvent.{FrameReceived}
use Rattle.nr_reduce.specs.EndRules.{EndState, end_state_after, output_for_all}
use Rattle.nr_reduce.specs.ServerState.{ServerState}
use Rattle.nr_reduce.specs.Server.{server_rules}
use Rattle.nr_reduce.proofs.Standing.{live_before}
use Rattle.nr_reduce.proofs.Steps.{end_state_after_append, output_for_all_append}
use Rattle.nr_endpoint.specs.LinkState.{LinkState}
use Rattle.nr_responder.specs.Heard.{client_after, client_after_all, last_after, last_after_all, Hears}
use Rattle.nr_responder.specs.ResponderState.{ResponderSide, queue, end_of}
use Rattle.nr_responder.specs.Keeping.{KeepsEnd}
use Rattle.nr_link.specs.declared.end.End.TheVariants as ends
use Rattle.nr_responder.specs.Steps.{received_events, GoesOn, FedOn, TakesMemory, frame_by, Fed, KeepsOutput}
use Rattle.nr_responder.specs.Steps.Fed.{WentOn, RanOut}

-- ---- The input of a piece in two parts

after_append : (a : Awaited) (xs ys : List (List ℕ)) → awaited_after a (xs ++ ys) ≡ awaited_after (awaited_after a xs) ys
after_append a [] ys = refl
after_append a (x ∷ xs) ys = sym (awaited_after_Fpdu ys)

concat_append : (xs ys : List (List ℕ)) → concat (xs ++ ys) ≡ concat xs ++ concat ys
concat_append [] ys = refl
concat_append (x ∷ xs) ys = ap (λ (zs : List ℕ). x ++ zs) (concat_append xs ys) ∙ sym (append_assoc x (concat xs) (concat ys))

split_parts : (input : InputState) (x y : List ℕ) → input_split input (x ++ y) ≡ frames_then (input_split input x).frames (input_split (input_after input x) y)
split_parts input x y = ap (split input.awaited) (sym (append_assoc input.rest x y)) ∙ split_append input.awaited (input.rest ++ x) y

pub input_parts : (input : InputState) (x y : List ℕ) → input_after input (x ++ y) ≡ input_after (input_after input x) y
input_parts input x y =
    let fs = (input_split input x).frames in
    let gs = (input_split (input_after input x) y).frames in
    let len : input.place + length (concat (fs ++ gs)) ≡ input.place + length (concat fs) + length (concat gs) =
    omega (arith, ap (λ (xs : List ℕ). length xs) (concat_append fs gs), length-append (concat fs) (concat gs)) in
    ap (λ (s : Split). record { awaited = awaited_after input.awaited s.frames; rest = s.rest; place = input.place + length (concat s.frames) }) (split_parts input x y)
    ∙ (λ i. record { awaited = after_append input.awaited fs gs i; rest = (input_split (input_after input x) y).rest; place = len i })

pub frames_parts : (input : InputState) (x y : List ℕ) → input_frames input (x ++ y) ≡ input_frames input x ++ input_frames (input_after input x) y
frames_parts input x y =
    ap (λ (s : Split). frames_from input.place s.frames) (split_parts input x y)
    ∙ frames_from_append input.place (input_split input x).frames (input_split (input_after input x) y).frames

pub events_parts : (input : InputState) (x y : List ℕ) → received_events input (x ++ y) ≡ received_events input x ++ received_events (input_after input x) y
events_parts input x y = ap (map FrameReceived) (frames_parts input x y) ∙ map-append FrameReceived (input_frames input x) (input_frames (input_after input x) y)

-- ---- What a side knows of the frames, after events in two parts

pub last_parts : (n : ℕ) (es fs : List RunEvent) → last_after_all n (es ++ fs) ≡ last_after_all (last_after_all n es) fs
last_parts n [] fs = refl
last_parts n (e ∷ es) fs = last_parts (last_after n e) es fs

pub client_parts : (n : ℕ) (es fs : List RunEvent) → client_after_all n (es ++ fs) ≡ client_after_all (client_after_all n es) fs
client_parts n [] fs = refl
client_parts n (e ∷ es) fs = client_parts (client_after n e) es fs

pub hears_parts : (a b c : LinkState) (es fs : List RunEvent) → Hears a es b → Hears b fs c → Hears a (es ++ fs) c
hears_parts a b c es fs first second = record {
  last = second.last ∙ ap (λ (n : ℕ). last_after_all n fs) first.last ∙ sym (last_parts a.last es fs);
  client = second.client ∙ ap (λ (n : ℕ). client_after_all n fs) first.client ∙ sym (client_parts a.client es fs);
}

-- ---- A piece in two parts

-- what goes on for two parts goes on for both joined
pub fed_parts : (a b c : ResponderSide) (x y : List ℕ) → FedOn a x b → FedOn b y c → FedOn a (x ++ y) c
fed_parts a b c x y first second opened end input keeps =
    let one : GoesOn opened end input a (received_events input x) (input_after input x) b = first opened end input keeps in
    let between : EndState ServerState = end_state_after (server_rules opened) end (received_events input x) in
    let two : GoesOn opened between (input_after input x) b (received_events (input_after input x) y) (input_after (input_after input x) y) c = second opened between (input_after input x) one.keeps in
    let es : List RunEvent = received_events input x in
    let fs : List RunEvent = received_events (input_after input x) y in
    let all : received_events input (x ++ y) ≡ es ++ fs = events_parts input x y in
    let state : end_state_after (server_rules opened) end (received_events input (x ++ y)) ≡ end_state_after (server_rules opened) between fs =
    ap (end_state_after (server_rules opened) end) all ∙ end_state_after_append (server_rules opened) end es fs in
    let heard : (end_state_after (server_rules opened) between fs).ended ≡ None → Hears a.link.state (es ++ fs) c.link.state =
    λ live. hears_parts a.link.state b.link.state c.link.state es fs (one.heard (live_before (server_rules opened) between fs live)) (two.heard live) in
    record {
      keeps =
          subst (λ (e : EndState ServerState). KeepsEnd opened e (input_after input (x ++ y)) c) (sym state)
          (subst (λ (i : InputState). KeepsEnd opened (end_state_after (server_rules opened) between fs) i c) (sym (input_parts input x y)) two.keeps);
      output =
          two.output
          ∙ ap (λ (bytes : List ℕ). bytes ++ output_for_all (server_rules opened) between fs) one.output
          ∙ append_assoc (queue a) (output_for_all (server_rules opened) end es) (output_for_all (server_rules opened) between fs)
          ∙ ap (λ (bytes : List ℕ). queue a ++ bytes) (sym (output_for_all_append (server_rules opened) end es fs))
          ∙ ap (λ (events : List RunEvent). queue a ++ output_for_all (server_rules opened) end events) (sym all);
      heard = λ live. subst (λ (events : List RunEvent). Hears a.link.state events c.link.state) (sym all) (heard (ap (λ (e : EndState ServerState). e.ended) (sym state) ∙ live));
    }

-- ---- A piece of one frame, or of none

pub record IsOneFrame (input : InputState) (x : List ℕ) (frame : List ℕ) : Type 0 where
  pub frames : input_frames input x ≡ record { at = input.place; end = input.place + length frame; bytes = frame } ∷ []
  pub after : input_after input x ≡ record { awaited = Fpdu; rest = []; place = input.place + length frame }

pub record IsNoFrame (input : InputState) (x : List ℕ) : Type 0 where
  pub frames : input_frames input x ≡ []
  pub after : input_after input x ≡ record { awaited = input.awaited; rest = input.rest ++ x; place = input.place }

split_none : split Fpdu [] ≡ record { frames = []; rest = [] }
unfolding split
split_none = refl

pub whole_piece : (input : InputState) (piece : List ℕ) → IsPartial input.awaited input.rest → is_whole input.awaited (input.rest ++ piece) ≡ true →
    IsOneFrame input (take (bytes_taken input.awaited input.rest piece) piece) (take (frame_len input.awaited (input.rest ++ piece)) (input.rest ++ piece))
whole_piece input piece p whole =
    let x : List ℕ = take (bytes_taken input.awaited input.rest piece) piece in
    let frame : List ℕ = take (frame_len input.awaited (input.rest ++ piece)) (input.rest ++ piece) in
    let t = taken_whole input.awaited input.rest piece p whole in
    let one : input_split input x ≡ record { frames = frame ∷ []; rest = [] } =
    ap (split input.awaited) (sym (append-nil (input.rest ++ x)))
    ∙ split_frame input.awaited (input.rest ++ x) [] t.1.0
    ∙ (λ i. record { frames = t.0 i ∷ (split_none i).frames; rest = (split_none i).rest }) in
    let nothing : List ℕ = [] in
    let len : input.place + length (frame ++ nothing) ≡ input.place + length frame = omega (arith, length-append frame nothing) in
    record {
      frames = ap (λ (s : Split). frames_from input.place s.frames) one;
      after =
          ap (λ (s : Split). record { awaited = awaited_after input.awaited s.frames; rest = s.rest; place = input.place + length (concat s.frames) }) one
          ∙ (λ i. record { awaited = Fpdu; rest = []; place = len i });
    }

pub partial_piece : (input : InputState) (piece : List ℕ) → is_whole input.awaited (input.rest ++ piece) ≡ false → IsNoFrame input (take (bytes_taken input.awaited input.rest piece) piece)
partial_piece input piece partial =
    let x : List ℕ = take (bytes_taken input.awaited input.rest piece) piece in
    let same : input.rest ++ x ≡ input.rest ++ piece = taken_all input.awaited input.rest piece partial in
    let none : input_split input x ≡ record { frames = []; rest = input.rest ++ x } =
    split_partial input.awaited (input.rest ++ x) (ap (is_whole input.awaited) same ∙ partial) in
    let nothing : List (List ℕ) = [] in
    let zero : input.place + length (concat nothing) ≡ input.place = omega arith in
    record {
      frames = ap (λ (s : Split). frames_from input.place s.frames) none;
      after =
          ap (λ (s : Split). record { awaited = awaited_after input.awaited s.frames; rest = s.rest; place = input.place + length (concat s.frames) }) none
          ∙ (λ i. record { awaited = input.awaited; rest = input.rest ++ x; place = zero i });
    }

-- ---- Two pieces, of which the second may run out of memory

take_past : (n : ℕ) (x y : List ℕ) → take (length x + n) (x ++ y) ≡ x ++ take n y
take_past n [] y = ap (λ (m : ℕ). take m y) (let e : 0 + n ≡ n = omega arith in e)
take_past n (b ∷ x) y =
    ap (λ (m : ℕ). take m (b ∷ (x ++ y))) (let e : length (b ∷ x) + n ≡ suc (length x + n) = omega arith in e)
    ∙ ap (λ (xs : List ℕ). b ∷ xs) (take_past n x y)

drop_past : (n : ℕ) (x y : List ℕ) → drop (length x + n) (x ++ y) ≡ drop n y
drop_past n [] y = ap (λ (m : ℕ). drop m y) (let e : 0 + n ≡ n = omega arith in e)
drop_past n (b ∷ x) y =
    ap (λ (m : ℕ). drop m (b ∷ (x ++ y))) (let e : length (b ∷ x) + n ≡ suc (length x + n) = omega arith in e)
    ∙ drop_past n x y

pub fed_join : (a b c : ResponderSide) (x y : List ℕ) → Fed a x b → end_of b ≡ None → Fed b y c → Fed a (x ++ y) c
fed_join a b c x y (WentOn first) live (WentOn second) = WentOn (fed_parts a b c x y first second)
fed_join a b c x y (WentOn first) live (RanOut n out) =
    RanOut (length x + n) (record {
      stopped = out.stopped;
      fed = subst (λ (bytes : List ℕ). FedOn a bytes out.stopped) (sym (take_past n x y)) (fed_parts a b out.stopped x (take n y) first out.fed);
      live = out.live;
      ended = out.ended;
      same = out.same;
      needs = subst (λ (bytes : List ℕ). (opened : LinkParameters) (end : EndState ServerState) (input : InputState) → KeepsEnd opened end input out.stopped →
          (is_whole out.stopped.link.awaited (out.stopped.link.rest ++ bytes) ≡ true) × (KeepsOutput out.stopped.link.state c.link.state × TakesMemory opened end.state (frame_by out.stopped.link bytes))) (sym (drop_past n x y)) out.needs;
    })
fed_join a b c x y (RanOut n out) live second = absurd (let two : Some ends.Memory ≡ None = sym out.ended ∙ live in cc)
