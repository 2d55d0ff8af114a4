-- What a piece leaves of the staging buffer.
use Rattle.std.proofs.Common.{◌≡◌, ℕ, ◌+◌, ◌-◌, ◌<◌, ◌⊎◌, inl, inr, List, [], length, drop, sym, ap, ◌∙◌, arith}
use Rattle.std.specs.Prelude.{max}
use Rattle.std.specs.FinMap.{empty}
use Rattle.std.proofs.lemmas.List.{length-drop}
use Rattle.nr_endpoint.specs.EndpointState.{EndpointState, KeepsStaging as KeepsEndpoint, cut_frame_len}
use Rattle.nr_endpoint.proofs.Pieces.{keeps_on}
use Rattle.nr_requester.specs.RequesterState.{RequesterFeeding, RequesterSide, feeding_of, KeepsStaging}
use Rattle.nr_requester.specs.Fed.{TakesDeliveries}
use Rattle.nr_requester.proofs.PieceLoop.{FedTo, Stepped, fed_on, rest_on}

pub unstaged : (h : RequesterSide) (after : RequesterSide) (piece : List ℕ) → after.staging ≡ h.staging → KeepsStaging h after piece
unstaged h after piece same = record {
  others = ap (λ (xs : List ℕ). drop (max (length after.rest) (cut_frame_len h.awaited h.rest piece)) xs) same;
  len = ap (λ (xs : List ℕ). length xs) same;
}

-- an event leaves the input
pub told_rest : (before after : RequesterFeeding) → TakesDeliveries before after → after.rest ≡ before.rest
told_rest before after (inl is) = ap (λ (h : RequesterFeeding). h.rest) is
told_rest before after (inr out) = out.rest ∙ sym out.waits.rest

-- what the endpoint keeps of it, the requester keeps
pub staged_step : (e e2 : EndpointState) (piece : List ℕ) (before after : RequesterSide) → before.awaited ≡ e.link.awaited → before.rest ≡ e.link.rest → before.staging ≡ e.staging → after.rest ≡ e2.link.rest → after.staging ≡ e2.staging → KeepsEndpoint e e2 piece →
    KeepsStaging before after piece
staged_step e e2 piece before after awaited rest staging rest2 staging2 k = record {
  others = (λ i. drop (max (length (rest2 i)) (cut_frame_len (awaited i) (rest i) piece)) (staging2 i)) ∙ k.others ∙ (λ i. drop (max (length (sym rest2 i)) (cut_frame_len (sym awaited i) (sym rest i) piece)) (sym staging i));
  len = ap (λ (xs : List ℕ). length xs) staging2 ∙ k.len ∙ ap (λ (xs : List ℕ). length xs) (sym staging);
}

-- ---- A piece of several frames

-- how far a piece is taken before a step on the rest of it
abbrev pub IsFirst : (before now : RequesterSide) (at : ℕ) → List ℕ → Type 0
IsFirst before now at piece = ((now ≡ before) × (at ≡ 0)) ⊎ ((now.rest ≡ []) ⊎ (at ≡ length piece))

abbrev as_endpoint : RequesterSide → EndpointState
as_endpoint h = record { link = record { awaited = h.awaited; rest = h.rest; state = h.state.side }; staging = h.staging; room = 0; outside = empty }

staging_on : (before now after : RequesterSide) (at : ℕ) (piece left : List ℕ) → at < length piece → left ≡ drop at piece → IsFirst before now at piece → KeepsStaging before now piece → KeepsStaging now after left → KeepsStaging before after piece
staging_on before now after at piece left lt is first so_far step =
    let k : KeepsEndpoint (as_endpoint before) (as_endpoint after) piece =
    keeps_on (as_endpoint before) (as_endpoint now) (as_endpoint after) piece left (record { others = so_far.others; len = so_far.len }) (seen first) (record { others = step.others; len = step.len }) in
    record { others = k.others; len = k.len }
  where
    seen : IsFirst before now at piece → ((as_endpoint now ≡ as_endpoint before) × (left ≡ piece)) ⊎ ((as_endpoint now).link.rest ≡ [])
    seen (inl same) = inl (ap as_endpoint same.0, is ∙ ap (λ (n : ℕ). drop n piece) same.1)
    seen (inr (inl none)) = inr none
    seen (inr (inr all)) = absurd (omega (arith, lt, all))

-- how far a piece was taken, as contracts see it
pub record TakenTo (old : RequesterSide) (piece : List ℕ) (now : RequesterSide) (at : ℕ) : Type 0 where
  pub fed : FedTo (feeding_of old) piece (feeding_of now) at
  pub staging : KeepsStaging old now piece
  pub first : IsFirst old now at piece
  pub marks : now.marks ≡ old.marks

module _ (old now new : RequesterSide) (piece left : List ℕ) (at count : ℕ) (f : TakenTo old piece now at) (lt : at < length piece) (is : left ≡ drop at piece)
    (s : Stepped (feeding_of now) left (feeding_of new) count) (k : KeepsStaging now new left) (m : new.marks ≡ now.marks) where
  pub staged_on : KeepsStaging old new piece
  staged_on = staging_on old now new at piece left lt is f.first f.staging k

  pub marks_on : new.marks ≡ old.marks
  marks_on = m ∙ f.marks

  pub taken_on : 0 < count → TakenTo old piece new (at + count)
  taken_on some = record {
    fed = fed_on (feeding_of old) (feeding_of now) (feeding_of new) piece left at count f.fed lt is s some;
    staging = staged_on;
    first = first_on (rest_on (feeding_of old) (feeding_of now) (feeding_of new) piece left at count f.fed lt is s some);
    marks = marks_on;
  }
    where
      first_on : (new.rest ≡ []) ⊎ (count ≡ length left) → IsFirst old new (at + count) piece
      first_on (inl none) = inr (inl none)
      first_on (inr all) = inr (inr (let long : length left ≡ length piece - at = ap (λ (xs : List ℕ). length xs) is ∙ length-drop at piece in omega (arith, all, long, lt)))
