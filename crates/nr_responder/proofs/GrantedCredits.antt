-- A responder that grants other credits, or has another credit word for its messages.
use Rattle.std.proofs.Common.{◌≡◌, ℕ, List, [], ◌∷◌, ◌++◌, true, false, Option, None, refl, sym, ap, subst, ◌∙◌, inl, inr, is_some}
use Rattle.std.proofs.lemmas.List.{append-nil}
use Rattle.nr_link.specs.declared.end.End.{End}
use Rattle.nr_link.specs.Input.{InputState}
use Rattle.nr_reduce.specs.declared.mark.LinkParameters.{LinkParameters}
use Rattle.nr_reduce.specs.declared.mark.Mark.{Mark}
use Rattle.nr_reduce.specs.declared.mark.Mark.TheVariants as marks
use Rattle.nr_reduce.specs.declared.mark.Told.{Told}
use Rattle.nr_reduce.specs.declared.mark.Told.TheVariants.{Granted}
use Rattle.nr_reduce.specs.EndRules.{EndState, live, next_end_state_in, output_for_in}
use Rattle.nr_reduce.specs.Events.RunEvent.{ServerTold}
use Rattle.nr_reduce.specs.Server.{server_end, server_output, server_rules, server_state_after}
use Rattle.nr_reduce.specs.ServerState.{ServerState}
use Rattle.nr_endpoint.specs.LinkState.{LinkState}
use Rattle.nr_responder.specs.declared.granting.Credits.{Credits}
use Rattle.nr_responder.specs.Granting.{grant}
use Rattle.nr_responder.specs.HeldBytes.{KeptFits, OutputFits, OutputLives, SharesFit, SinksFit}
use Rattle.nr_responder.specs.Keeping.{IsServer, Keeps, KeepsEnd, LinkKeeps}
use Rattle.nr_responder.specs.ResponderState.{ResponderSide, end_of, queue, with_granted}
use Rattle.nr_responder.specs.Standing.{ResponderRepresents, RepresentsServer}
use Rattle.nr_responder.specs.Steps.{Fed, FedOn, GoesOn}
use Rattle.nr_responder.specs.Steps.Fed.{WentOn, RanOut}
use Rattle.nr_responder.proofs.Fed.{ended_events, not_ended_lem}
use Rattle.nr_responder.proofs.Marks.{represents, stays_out, told_represents}

-- with these credits
abbrev pub with_credits : Credits → ResponderSide → ResponderSide
with_credits c v = record v { credits = c }

-- ---- Another credit word

keeps_as : (opened : LinkParameters) (k : ServerState) (so_far : InputState) (v : ResponderSide) (c : Credits) → grant c ≡ grant v.credits → Keeps opened k so_far v → Keeps opened k so_far (with_credits c v)
keeps_as opened k so_far v c same h = record {
  link = h.link;
  input = h.input;
  begins = h.begins;
  server = h.server;
  calls = h.calls;
  ready = h.ready;
  credits = same ∙ h.credits;
  reads = h.reads;
  sinks = h.sinks;
  payloads = h.payloads;
  quiet = h.quiet;
}

keeps_end_as : (opened : LinkParameters) (end : EndState ServerState) (so_far : InputState) (v : ResponderSide) (c : Credits) → grant c ≡ grant v.credits → KeepsEnd opened end so_far v → KeepsEnd opened end so_far (with_credits c v)
keeps_end_as opened end so_far v c same (inl live_now) = inl (live_now.0, keeps_as opened end.state so_far v c same live_now.1)
keeps_end_as opened end so_far v c same (inr ended) =
    inr (record { over = ended.over; why = ended.why; calls = ended.calls; ready = ended.ready; credits = same ∙ ended.credits; agreed = ended.agreed; sendable = ended.sendable })

pub represents_as : (opened : LinkParameters) (link : ℕ) (run : List Mark) (v : ResponderSide) (c : Credits) → grant c ≡ grant v.credits → ResponderRepresents opened link run v → ResponderRepresents opened link run (with_credits c v)
represents_as opened link run v c same (inl h) = inl (record { end = h.end; input = h.input; stands = h.stands; keeps = keeps_end_as opened h.end h.input v c same h.keeps; heard = h.heard })
represents_as opened link run v c same (inr h) =
    inr (record { output = h.output; stopped = h.stopped; received = h.received; live = h.live; queued = h.queued; calls = h.calls; ready = h.ready; credits = same ∙ h.credits; agreed = h.agreed })

fed_as : (v after : ResponderSide) (piece : List ℕ) (c : Credits) → grant c ≡ grant v.credits → FedOn (with_credits c v) piece after → FedOn v piece after
fed_as v after piece c same fed opened end so_far keeps =
    let g = fed opened end so_far (keeps_end_as opened end so_far v c same keeps) in
    record { keeps = g.keeps; output = g.output; heard = g.heard }

-- a piece makes of it the same
pub taken_as : (v after : ResponderSide) (piece : List ℕ) (c : Credits) → grant c ≡ grant v.credits → Fed (with_credits c v) piece after → Fed v piece after
taken_as v after piece c same (WentOn fed) = WentOn (fed_as v after piece c same fed)
taken_as v after piece c same (RanOut n out) =
    RanOut n (record { stopped = out.stopped; fed = fed_as v out.stopped _ c same out.fed; live = out.live; ended = out.ended; same = out.same; needs = out.needs })

pub fits_as : (v : ResponderSide) (c : Credits) → c.receives ≡ v.credits.receives → KeptFits v → KeptFits (with_credits c v)
fits_as v c same h =
    let s : SinksFit v = h.sinks in
    let o : OutputFits v = h.output in
    record {
      sinks = record {
        memory = s.memory;
        most = s.most;
        count = s.count;
        each = λ live_now. (let f : SharesFit v = s.each live_now in record { shares = f.shares; counts = f.counts; waiting = f.waiting });
        receives = record { count = s.receives.count ∙ sym same; len = s.receives.len };
      };
      output = record {
        most = o.most;
        hello = o.hello;
        held = o.held;
        each = λ live_now. (let f : OutputLives v = o.each live_now in record { queue = f.queue; reads = f.reads; hello = f.hello; none = f.none; held = f.held });
      };
      reads = h.reads;
    }

-- ---- Other credits

-- the server once it was told to grant them
abbrev granted_state : ServerState → ℕ → ServerState
granted_state k credits = record k { credit = credits }

told_lives : (opened : LinkParameters) (k : ServerState) (credits : ℕ) (o : Option End) → o ≡ None → next_end_state_in (server_rules opened) k (ServerTold (Granted credits)) o ≡ live (granted_state k credits)
unfolding server_end server_state_after
told_lives opened k credits o is = ap (λ (x : Option End). next_end_state_in (server_rules opened) k (ServerTold (Granted credits)) x) is

told_silent : (opened : LinkParameters) (k : ServerState) (credits : ℕ) (o : Option End) → o ≡ None → output_for_in (server_rules opened) k (ServerTold (Granted credits)) o ≡ []
unfolding server_end server_output
told_silent opened k credits o is = ap (λ (x : Option End). output_for_in (server_rules opened) k (ServerTold (Granted credits)) x) is

granted_server : (k : ServerState) (credits : ℕ) (place : ℕ) → IsServer k place → IsServer (granted_state k credits) place
granted_server k credits place is = record {
  offered = is.offered;
  accesses = is.accesses;
  numbered = is.numbered;
  sinks = is.sinks;
  calls_before = is.calls_before;
  reads_before = is.reads_before;
  regions_before = is.regions_before;
  closed = is.closed;
  numbers = is.numbers;
  xids = is.xids;
  ready_xids = is.ready_xids;
  ready = is.ready;
  idle = is.idle;
  up = is.up;
  down = is.down;
}

granted_link : (opened : LinkParameters) (k : ServerState) (credits : ℕ) (s : LinkState) → LinkKeeps opened k s → LinkKeeps opened (granted_state k credits) s
granted_link opened k credits s h = record {
  live = h.live;
  side = h.side;
  received = h.received;
  receive_length = h.receive_length;
  message_max = h.message_max;
  fits = h.fits;
  terms = h.terms;
  up = h.up;
  down = h.down;
  invalidates = h.invalidates;
  free = h.free;
  lent = h.lent;
  told = h.told;
  reads = h.reads;
  memory = h.memory;
  none_dead = h.none_dead;
  next = h.next;
  queue = h.queue;
}

granted_keeps : (opened : LinkParameters) (k : ServerState) (so_far : InputState) (v : ResponderSide) (credits : ℕ) → Keeps opened k so_far v → Keeps opened (granted_state k credits) so_far (with_granted credits v)
granted_keeps opened k so_far v credits h = record {
  link = granted_link opened k credits v.link.state h.link;
  input = h.input;
  begins = h.begins;
  server = granted_server k credits v.link.state.place h.server;
  calls = h.calls;
  ready = h.ready;
  credits = λ i. ((h.credits i).0, (credits, (h.credits i).1.1));
  reads = h.reads;
  sinks = h.sinks;
  payloads = h.payloads;
  quiet = h.quiet;
}

granted_goes : (opened : LinkParameters) (end : EndState ServerState) (so_far : InputState) (v : ResponderSide) (credits : ℕ) → end.ended ≡ None → Keeps opened end.state so_far v → GoesOn opened end so_far v (ServerTold (Granted credits) ∷ []) so_far (with_granted credits v)
granted_goes opened end so_far v credits is h = record {
  keeps = subst (λ (e : EndState ServerState). KeepsEnd opened e so_far (with_granted credits v)) (sym (told_lives opened end.state credits end.ended is)) (inl (refl, granted_keeps opened end.state so_far v credits h));
  output = sym (append-nil (queue v)) ∙ ap (λ (bytes : List ℕ). queue v ++ bytes) (sym (append-nil (output_for_in (server_rules opened) end.state (ServerTold (Granted credits)) end.ended) ∙ told_silent opened end.state credits end.ended is));
  heard = λ lives. record { last = refl; client = refl };
}

-- a side that has ended stays as it is
ended_told : (opened : LinkParameters) (end : EndState ServerState) (so_far : InputState) (v : ResponderSide) (what : Told) → is_some (end_of v) ≡ true → KeepsEnd opened end so_far v → GoesOn opened end so_far v (ServerTold what ∷ []) so_far v
ended_told opened end so_far v what over (inl live_now) =
    absurd (let none : is_some (end_of v) ≡ false = ap (λ (o : Option End). is_some o) live_now.1.link.live in let two : true ≡ false = sym over ∙ none in cc)
ended_told opened end so_far v what over (inr ended) =
    let all = ended_events opened end (ServerTold what ∷ []) end.ended refl ended.over in
    record {
      keeps = subst (λ (e : EndState ServerState). KeepsEnd opened e so_far v) (sym all.0) (inr ended);
      output = sym (append-nil (queue v)) ∙ ap (λ (bytes : List ℕ). queue v ++ bytes) (sym all.1);
      heard = λ lives. record { last = refl; client = refl };
    }

-- it stands on by the mark
pub granted_stands : (opened : LinkParameters) (link : ℕ) (run : List Mark) (v : ResponderSide) (credits : ℕ) → end_of v ≡ None → ResponderRepresents opened link run v → ResponderRepresents opened link (run ++ marks.Told link (Granted credits) ∷ []) (with_granted credits v)
granted_stands opened link run v credits live_now stands =
    let h : RepresentsServer opened link run v = represents opened link run v live_now stands in
    let both : (h.end.ended ≡ None) × Keeps opened h.end.state h.input v = not_ended_lem opened h.end h.input v live_now h.keeps in
    inl (told_represents opened link run v (with_granted credits v) (Granted credits) h (granted_goes opened h.end h.input v credits both.0 both.1))

pub ended_granted : (opened : LinkParameters) (link : ℕ) (run : List Mark) (v : ResponderSide) (credits : ℕ) → is_some (end_of v) ≡ true → ResponderRepresents opened link run v → ResponderRepresents opened link (run ++ marks.Told link (Granted credits) ∷ []) v
ended_granted opened link run v credits over (inl h) = inl (told_represents opened link run v v (Granted credits) h (ended_told opened h.end h.input v (Granted credits) over h.keeps))
ended_granted opened link run v credits over (inr out) = inr (stays_out opened link run v v (marks.Told link (Granted credits)) out refl (record { calls = refl; ready = refl; credits = refl }) refl refl)
