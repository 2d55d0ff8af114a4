-- A region of a server is closed at the end of a frame after which nothing is left to be read for it.
use Rattle.std.proofs.Common.{◌≡◌, ℕ, Bool, true, false, cond, List, [], ◌∷◌, ◌++◌, Option, None, Some, refl, sym, ap, subst, ◌∙◌, append_assoc, inl, inr, ◌⊎◌}
use Rattle.std.specs.Prelude.{Contains}
use Rattle.std.specs.List.{AllByRecursion}
use Rattle.std.proofs.lemmas.List.Elements.{recursion_from_All, All-contains_itself}
use Rattle.nr_wire.specs.declared.hello.Side.TheVariants.{Responder}
use Rattle.nr_link.specs.Frames.{Frame, is_hello}
use Rattle.nr_link.specs.Ending.{frame_segment}
use Rattle.nr_reduce.specs.declared.mark.LinkParameters.{LinkParameters}
use Rattle.nr_reduce.specs.Events.{RunEvent, events}
use Rattle.nr_reduce.specs.Events.RunEvent.{FrameReceived}
use Rattle.nr_reduce.specs.EndRules.{EndState, next_end_state}
use Rattle.nr_reduce.specs.OfferedRegions.{Region, until_at, closed_if, regions_closed}
use Rattle.nr_reduce.specs.ServerState.{ServerState}
use Rattle.nr_reduce.specs.ServerReads.{is_over}
use Rattle.nr_reduce.specs.ServerFrames.{frame_effect}
use Rattle.nr_reduce.specs.Server.{server_rules, server_state_after, initial_server, with_effect, with_own_hello}
use Rattle.nr_reduce.specs.Run.{server}
use Rattle.nr_reduce.specs.RunLaws.{server_by}
use Rattle.nr_reduce.proofs.Steps.{end_state_after_append}
use Rattle.nr_laws.specs.ServerRegions.{IsChunkOfFrame, HasReadLeft, IsClosedAt, ServerRegionsCloseWhenRead}
use Rattle.nr_laws.proofs.LiveRegions.{none_left_lem}
use Rattle.nr_laws.proofs.Basics.{each_all, each_append, some_is_lem}
use Rattle.nr_laws.proofs.SendRegions.{chunks_in, frame_chunks, state_at, new_each, regions_along, region_of_list, counted}

abbrev IsClosed : LinkParameters → List RunEvent → Region → Type 0
IsClosed opened es r = (place : ℕ) → r.until ≡ Some place → IsClosedAt opened es r place

closed_more : (opened : LinkParameters) (es more : List RunEvent) (r : Region) → IsClosed opened es r → IsClosed opened (es ++ more) r
closed_more opened es more r h place is =
    let c = h place is in
    record {
      earlier = c.earlier;
      later = c.later ++ more;
      frame = c.frame;
      is_received = ap (λ (xs : List RunEvent). xs ++ more) c.is_received ∙ append_assoc c.earlier (FrameReceived c.frame ∷ c.later) more;
      ends_there = c.ends_there;
      was_live = c.was_live;
      nothing_left = c.nothing_left;
    }

frame_event : (opened : LinkParameters) (es : List RunEvent) (f : Frame) → AllByRecursion (IsClosed opened es) (server_by opened es).regions → (next_end_state (server_rules opened) (state_at opened es) (FrameReceived f)).ended ≡ None
    → AllByRecursion (IsClosed opened (es ++ FrameReceived f ∷ [])) (server_state_after opened (server_by opened es) (FrameReceived f)).regions
unfolding server_state_after regions_closed
frame_event opened es f h stays = by (is_hello f) refl
  where
    k : ServerState
    k = server_by opened es

    after : List RunEvent
    after = es ++ FrameReceived f ∷ []

    next : ServerState
    next = with_effect k f (frame_effect k f)

    P : Region → Type 0
    P = IsClosed opened after

    WasLive : Region → Type 0
    WasLive r = Contains k.regions (record r { until = None }) ⊎ IsChunkOfFrame opened es f r

    old : AllByRecursion P k.regions
    old = each_all (IsClosed opened es) P k.regions (closed_more opened es (FrameReceived f ∷ [])) h

    each_pair : (xs : List Region) → AllByRecursion P xs → AllByRecursion (Contains k.regions) xs → AllByRecursion (λ (r : Region). P r × (r.until ≡ None → WasLive r)) xs
    each_pair [] p q = tt
    each_pair (x ∷ xs) p q = ((p.0, λ none. inl (subst (λ (u : Option ℕ). Contains k.regions (record x { until = u })) none q.0)), each_pair xs p.1 q.1)

    all : is_hello f ≡ false → AllByRecursion (λ (r : Region). P r × (r.until ≡ None → WasLive r)) (frame_effect k f).regions
    all behind =
        subst (AllByRecursion (λ (r : Region). P r × (r.until ≡ None → WasLive r))) (sym (frame_chunks k f))
        (each_append (λ (r : Region). P r × (r.until ≡ None → WasLive r)) k.regions (chunks_in k f (frame_segment f)) (each_pair k.regions old (recursion_from_All (Contains k.regions) k.regions (All-contains_itself k.regions)))
        (new_each opened es f (λ (r : Region). P r × (r.until ≡ None → WasLive r)) stays behind
        (λ r own none. ((λ place is. absurd (let wrong : None ≡ Some place = sym none ∙ is in cc)), λ n. inr own)) (frame_segment f) refl))

    state : is_hello f ≡ false → server_by opened after ≡ next
    state behind =
        ap (λ (r : EndState ServerState). r.state) (end_state_after_append (server_rules opened) (initial_server opened) es (FrameReceived f ∷ []))
        ∙ counted opened (state_at opened es) (FrameReceived f) stays ∙ ap (λ (b : Bool). cond b (with_own_hello opened k f) next) behind

    close : is_hello f ≡ false → (x : Region) → P x → (x.until ≡ None → WasLive x) → (b : Bool) → is_over next.calls next.reads x ≡ b → P (closed_if b f.end x)
    close behind x p live false over = p
    close behind x p live true over = λ place is. by x.until refl is
      where
        own : HasReadLeft next (closed_if true f.end x) → HasReadLeft next x
        own h = record { read = h.read; is_left = h.is_left; own = h.own; of_chunk = h.of_chunk }

        by : (u : Option ℕ) → x.until ≡ u → {place : ℕ} → until_at f.end u ≡ Some place → IsClosedAt opened after (closed_if true f.end x) place
        by None none {place} is = record {
          earlier = es;
          later = [];
          frame = f;
          is_received = refl;
          ends_there = some_is_lem f.end place is;
          was_live = was (live none);
          nothing_left = λ h. none_left_lem next x over (own (subst (λ (s : ServerState). HasReadLeft s (closed_if true f.end x)) (state behind) h));
        }
          where
            was : WasLive x → WasLive (closed_if true f.end x)
            was (inl there) = inl there
            was (inr c) = inr (record { call = c.call; is_made = c.is_made; chunk = c.chunk })
        by (Some u) some {place} is =
            let c = p place (some ∙ is) in
            record {
              earlier = c.earlier;
              later = c.later;
              frame = c.frame;
              is_received = c.is_received;
              ends_there = c.ends_there;
              was_live = was c.earlier c.frame c.was_live;
              nothing_left = λ h. c.nothing_left (record { read = h.read; is_left = h.is_left; own = h.own; of_chunk = h.of_chunk });
            }
          where
            was : (earlier : List RunEvent) (frame : Frame) → Contains (server_by opened earlier).regions (record x { until = None }) ⊎ IsChunkOfFrame opened earlier frame x
                → Contains (server_by opened earlier).regions (record x { until = None }) ⊎ IsChunkOfFrame opened earlier frame (closed_if true f.end x)
            was earlier frame (inl there) = inl there
            was earlier frame (inr c) = inr (record { call = c.call; is_made = c.is_made; chunk = c.chunk })

    closed : is_hello f ≡ false → (xs : List Region) → AllByRecursion (λ (r : Region). P r × (r.until ≡ None → WasLive r)) xs → AllByRecursion P (regions_closed (is_over next.calls next.reads) f.end xs)
    closed behind [] h = tt
    closed behind (x ∷ xs) h = (close behind x h.0.0 h.0.1 (is_over next.calls next.reads x) refl, closed behind xs h.1)

    by : (b : Bool) → is_hello f ≡ b → AllByRecursion P (cond b (with_own_hello opened k f) next).regions
    by true is = old
    by false is = closed is (frame_effect k f).regions (all is)

pub server_regions_close_when_read : ServerRegionsCloseWhenRead
unfolding server
server_regions_close_when_read opened link run r place there is =
    region_of_list (IsClosed opened (events link Responder run)) _ r
    (regions_along opened (IsClosed opened) (closed_more opened) (frame_event opened) [] (events link Responder run) tt) there place is
