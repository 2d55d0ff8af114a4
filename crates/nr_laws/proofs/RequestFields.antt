-- A Read Request reads back as its fields; and a client that it doesn't end has the bytes for which it asks.
use Rattle.std.proofs.Common.{◌≡◌, ℕ, ◌+◌, ◌≤◌, ◌<◌, ◌^◌, Bool, true, false, cond, ◌&&◌, eqb, ltb, leb, List, [], ◌∷◌, ◌++◌, length, map, take, drop, Option, Some, None, Ok, refl, sym, ap, ◌∙◌, arith, length-append, length-take, length-drop, append_assoc, append-nil, take_all, inl, inr}
use Rattle.std.specs.List.{find}
use Rattle.std.proofs.Math.Seq.{drop-append_seam}
use Rattle.std.proofs.lemmas.List.{take-append-le}
use Rattle.std.proofs.lemmas.Bool.{eqb-true, cases_lt, lt-ltb, ne_eqb}
use Rattle.nr_xdr.specs.Item.{word, hyper, word_of, hyper_of}
use Rattle.nr_xdr.proofs.WordBytes.{length_word, length_hyper, word_of_word, hyper_of_hyper}
use Rattle.nr_wire.specs.Constants.{OPCODE_READ_REQUEST, QUEUE_READ_REQUEST}
use Rattle.nr_wire.specs.Segment.{Segment}
use Rattle.nr_wire.specs.Segment.Segment.{Untagged}
use Rattle.nr_regions.specs.declared.right.Right.TheVariants.{Fetch}
use Rattle.nr_regions.specs.declared.denied.Denied.TheVariants.{NoStag, Bounds, Right as WrongRight}
use Rattle.std.specs.Prelude.{is_none}
use Rattle.nr_regions.specs.RegisteredMemory.{Access, denial_in, same_right, bytes_after_write}
use Rattle.nr_regions.specs.Access.{Grant, TaggedSegment, applies, grant_at, grant_offer, grant_denial, HasOwnStag, HaveOwnStags, after_segment, access_of_tagged, contents}
use Rattle.nr_link.specs.Frames.{Frame, is_hello}
use Rattle.nr_link.specs.ReceiveState.{read_request_in}
use Rattle.nr_link.specs.Ending.{missing_access}
use Rattle.nr_reduce.specs.OfferedRegions.{Region, region_grant, region_grants, region_bytes, region_bytes_by}
use Rattle.nr_reduce.specs.Events.RunEvent.{FrameReceived}
use Rattle.nr_reduce.specs.ClientState.{ClientState}
use Rattle.nr_reduce.specs.Client.{client_segment, client_end}
use Rattle.nr_reduce.proofs.Touches.{client_touched}
use Rattle.nr_laws.proofs.TotalsAtClient.{request_payload}
use Rattle.nr_laws.proofs.ReadsAtClient.{IsThere}

-- ---- The fields

pub part_at : (n m : ℕ) (front part rest : List ℕ) → length front ≡ n → length part ≡ m → take m (drop n (front ++ (part ++ rest))) ≡ part
part_at n m front part rest at len =
    ap (λ (k : ℕ). take m (drop k (front ++ (part ++ rest)))) (sym at)
    ∙ ap (λ (xs : List ℕ). take m xs) (drop-append_seam front (part ++ rest))
    ∙ take-append-le m part rest (omega (arith, len)) ∙ take_all m part (omega (arith, len))

pub request_again : (sink at size stag to : ℕ) → sink < 2 ^ 32 → at < 2 ^ 64 → size < 2 ^ 32 → stag < 2 ^ 32 → to < 2 ^ 64
    → read_request_in (request_payload sink at size stag to) ≡ record { sink = sink; sink_to = at; size = size; stag = stag; to = to }
request_again sink at size stag to a b c d e =
    let p = request_payload sink at size stag to in
    let l1 = length_word sink in
    let l2 = length_hyper at in
    let l3 = length_word size in
    let l4 = length_word stag in
    let two = word sink ++ hyper at in
    let three = two ++ word size in
    let four = three ++ word stag in
    let len2 : length two ≡ 12 = omega (arith, length-append (word sink) (hyper at), l1, l2) in
    let len3 : length three ≡ 16 = omega (arith, length-append two (word size), len2, l3) in
    let len4 : length four ≡ 20 = omega (arith, length-append three (word stag), len3, l4) in
    let as2 : p ≡ two ++ (word size ++ (word stag ++ hyper to)) = sym (append_assoc (word sink) (hyper at) (word size ++ (word stag ++ hyper to))) in
    let as3 : p ≡ three ++ (word stag ++ hyper to) = as2 ∙ sym (append_assoc two (word size) (word stag ++ hyper to)) in
    let as4 : p ≡ four ++ hyper to = as3 ∙ sym (append_assoc three (word stag) (hyper to)) in
    let sink_is = ap word_of (part_at 0 4 [] (word sink) (hyper at ++ (word size ++ (word stag ++ hyper to))) refl l1) ∙ word_of_word sink a in
    let at_is = ap hyper_of (part_at 4 8 (word sink) (hyper at) (word size ++ (word stag ++ hyper to)) l1 l2) ∙ hyper_of_hyper at b in
    let size_is = ap (λ (xs : List ℕ). word_of (take 4 (drop 12 xs))) as2 ∙ ap word_of (part_at 12 4 two (word size) (word stag ++ hyper to) len2 l3) ∙ word_of_word size c in
    let stag_is = ap (λ (xs : List ℕ). word_of (take 4 (drop 16 xs))) as3 ∙ ap word_of (part_at 16 4 three (word stag) (hyper to) len3 l4) ∙ word_of_word stag d in
    let to_is =
    ap (λ (xs : List ℕ). hyper_of (take 8 (drop 20 xs))) (as4 ∙ ap (λ (xs : List ℕ). four ++ xs) (sym (append-nil (hyper to))))
    ∙ ap hyper_of (part_at 20 8 four (hyper to) [] len4 (length_hyper to)) ∙ hyper_of_hyper to e in
    λ i. record { sink = sink_is i; sink_to = at_is i; size = size_is i; stag = stag_is i; to = to_is i }

-- ---- The bytes

longer_write : (bytes : List ℕ) (at : ℕ) (over : List ℕ) → length bytes ≤ length (bytes_after_write bytes at over)
longer_write bytes at over =
    omega (arith, length-append (take at bytes) (over ++ drop (at + length over) bytes), length-append over (drop (at + length over) bytes), length-take at bytes, length-drop (at + length over) bytes)

longer_segment : (grants : List Grant) (stag : ℕ) (bytes : List ℕ) (s : TaggedSegment) → length bytes ≤ length (after_segment grants stag bytes s)
longer_segment grants stag bytes s = by (eqb s.stag stag && is_none (grant_denial grants (access_of_tagged s) s.end))
  where
    by : (b : Bool) → length bytes ≤ length (cond b (bytes_after_write bytes s.to s.payload) bytes)
    by true = longer_write bytes s.to s.payload
    by false = omega arith

longer_contents : (grants : List Grant) (stag : ℕ) (segments : List TaggedSegment) (bytes : List ℕ) → length bytes ≤ length (contents grants stag bytes segments)
longer_contents grants stag [] bytes = omega arith
longer_contents grants stag (s ∷ segments) bytes = omega (arith, longer_segment grants stag bytes s, longer_contents grants stag segments (after_segment grants stag bytes s))

not_denied : (g : Region) (place : ℕ) (access : Access) → denial_in (grant_offer (Some (region_grant place g))) access ≡ None → access.to + access.len ≤ length g.bytes
not_denied g place access e = by (ltb (length g.bytes) (access.to + access.len)) refl e
  where
    by : (b : Bool) → ltb (length g.bytes) (access.to + access.len) ≡ b → cond b (Some Bounds) (cond (same_right g.right access.right) None (Some WrongRight)) ≡ None → access.to + access.len ≤ length g.bytes
    by true is e = absurd cc
    by false is e =
        elim (cases_lt (length g.bytes) (access.to + access.len)) [
          | inl lt ↦ absurd (let wrong : true ≡ false = sym (lt-ltb (length g.bytes) (access.to + access.len) lt) ∙ is in cc)
          | inr le ↦ le
        ]

-- no other of the STag applies
pub none_applies : (stag end place : ℕ) (g : Grant) (regions : List Region) → g.stag ≡ stag → HasOwnStag g (map (region_grant place) regions) → find (applies stag end) (map (region_grant place) regions) ≡ None
none_applies stag end place g [] own h = refl
none_applies stag end place g (r ∷ regions) own h =
    ap (λ (b : Bool). cond (b && (ltb r.from end && leb end (region_grant place r).until)) (Some (region_grant place r)) (find (applies stag end) (map (region_grant place) regions)))
    (ne_eqb r.stag stag (λ e. h.0 (own ∙ sym e)))
    ∙ none_applies stag end place g regions own h.1

-- the region that an allowed access touches
pub record AllowedIn (place : ℕ) (access : Access) (regions : List Region) : Type 0 where
  pub region : Region
  pub found : find (λ (r : Region). eqb r.stag access.stag) regions ≡ Some region
  pub own : region.stag ≡ access.stag
  pub allowed : denial_in (grant_offer (Some (region_grant place region))) access ≡ None

pub allowed_in : (place end : ℕ) (access : Access) (regions : List Region) → HaveOwnStags (map (region_grant place) regions) → denial_in (grant_offer (find (applies access.stag end) (map (region_grant place) regions))) access ≡ None → AllowedIn place access regions
allowed_in place end access [] own e = absurd cc
allowed_in place end access (r ∷ regions) own e = by (eqb r.stag access.stag) (ltb r.from end && leb end (region_grant place r).until) refl e (λ rest. allowed_in place end access regions own.1 rest)
  where
    later : Option Grant
    later = find (applies access.stag end) (map (region_grant place) regions)

    by : (b c : Bool) → eqb r.stag access.stag ≡ b → denial_in (grant_offer (cond (b && c) (Some (region_grant place r)) later)) access ≡ None → (denial_in (grant_offer later) access ≡ None → AllowedIn place access regions) → AllowedIn place access (r ∷ regions)
    by true true is e rest = record { region = r; found = ap (λ (b : Bool). cond b (Some r) (find (λ (x : Region). eqb x.stag access.stag) regions)) is; own = eqb-true r.stag access.stag is; allowed = e }
    by true false is e rest =
        let none = none_applies access.stag end place (region_grant place r) regions (eqb-true r.stag access.stag is) own.0 in
        let wrong : denial_in None access ≡ None = ap (λ (o : Option Grant). denial_in (grant_offer o) access) (sym none) ∙ e in
        absurd (let no : Some NoStag ≡ None = wrong in cc)
    by false c is e rest =
        let m = rest e in
        record { region = m.region; found = ap (λ (b : Bool). cond b (Some r) (find (λ (x : Region). eqb x.stag access.stag) regions)) is ∙ m.found; own = m.own; allowed = m.allowed }

pub memory_there : (place : ℕ) (access : Access) (regions : List Region) (segments : List TaggedSegment) → HaveOwnStags (region_grants place regions) → grant_denial (region_grants place regions) access place ≡ None
    → access.to + access.len ≤ length (region_bytes (region_grants place regions) regions segments access.stag)
unfolding region_grants grant_denial grant_at region_bytes
memory_there place access regions segments own e =
    let m = allowed_in place place access regions own e in
    let bytes : region_bytes_by (map (region_grant place) regions) segments (find (λ (r : Region). eqb r.stag access.stag) regions) ≡ contents (map (region_grant place) regions) m.region.stag m.region.bytes segments =
    ap (λ (o : Option Region). region_bytes_by (map (region_grant place) regions) segments o) m.found in
    omega (arith, not_denied m.region place access m.allowed, longer_contents (map (region_grant place) regions) m.region.stag segments m.region.bytes, ap (λ (xs : List ℕ). length xs) bytes)

pub is_there_lem : (k : ClientState) (f : Frame) (n sink at size stag to : ℕ) → HaveOwnStags (region_grants f.end k.regions) → is_hello f ≡ false → client_segment k f ≡ Ok (Untagged true OPCODE_READ_REQUEST 0 QUEUE_READ_REQUEST n 0 (request_payload sink at size stag to))
    → client_end k (FrameReceived f) ≡ None → 0 < size → sink < 2 ^ 32 → at < 2 ^ 64 → size < 2 ^ 32 → stag < 2 ^ 32 → to < 2 ^ 64 → IsThere k f.end sink at size stag to
is_there_lem k f n sink at size stag to own behind is stays some a b c d e =
    let read = request_again sink at size stag to a b c d e in
    let segment : Segment = Untagged true OPCODE_READ_REQUEST 0 QUEUE_READ_REQUEST n 0 (request_payload sink at size stag to) in
    let lacks : missing_access (region_grants f.end k.regions) f segment ≡ None = client_touched k f segment behind is stays in
    let access : Access = record { right = Fetch; stag = stag; to = to; len = size } in
    let allowed : grant_denial (region_grants f.end k.regions) access f.end ≡ None =
    (λ i. grant_denial (region_grants f.end k.regions) (record { right = Fetch; stag = (sym read i).stag; to = (sym read i).to; len = (sym read i).size }) f.end) ∙ lacks in
    record { read = read; some = some; there = memory_there f.end access k.regions k.accesses_received own allowed }
