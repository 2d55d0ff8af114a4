-- What the parts of a message say of the verdict on it, for the code.
use Rattle.std.proofs.Common.{◌≡◌, ◌≢◌, ℕ, zero, suc, ◌<◌, ◌≤◌, inl, inr, Bool, true, false, cond, ◌&&◌, eqb, List, [], ◌∷◌, ◌++◌, length, take, drop, Option, None, Some, Result, Ok, Err, refl, sym, ap, subst, ◌∙◌, arith, append-nil, append_assoc}
use Rattle.std.specs.Prelude.{IfSome, get_or, slice_set}
use Rattle.std.specs.List.{AllByRecursion}
use Rattle.std.proofs.lemmas.Bool.{le-ltb, ltb-true}
use Rattle.nr_xdr.specs.Fields.{word_at}
use Rattle.nr_header.specs.declared.fault.HeaderFault.{HeaderFault}
use Rattle.nr_header.specs.declared.fault.HeaderFault.TheVariants as faults
use Rattle.nr_header.specs.declared.header.RdmaSegment.{RdmaSegment}
use Rattle.nr_header.specs.declared.header.ChunkLists.{ChunkLists}
use Rattle.nr_header.specs.declared.header.Body.{Body}
use Rattle.nr_header.specs.declared.header.Body.TheVariants.{Msg, Nomsg}
use Rattle.nr_header.specs.declared.header.Header.{Header}
use Rattle.nr_header.specs.declared.header.HeaderFields.{HeaderFields}
use Rattle.nr_header.specs.ReadInto.{body_with}
use Rattle.nr_header.specs.Reading.{header_of, header_by, body_by, error_by, version1_of, in_lists}
use Rattle.nr_regions.specs.RegisteredMemory.{RegisteredMemory, Claim, IsHeld, AreHeldFrom}
use Rattle.nr_link.specs.Reasons.{REASON_CALL, REASON_CHUNKS, REASON_INVALIDATED}
use Rattle.nr_endpoint.specs.declared.offering.Claims.{Claims}
use Rattle.nr_reduce.specs.declared.call.Call.{Call}
use Rattle.nr_reduce.specs.Chunks.{Bytes, returns, returns_each, returns_stream, answers_offer, reply_conveyed, reply_stream, reply_moved, fills_first, returns_none}
use Rattle.nr_reduce.specs.ClientMessages.{ReplyVerdict}
use Rattle.nr_reduce.specs.ClientMessages.ReplyVerdict.{EndsLink, GivesOutcome}
use Rattle.nr_reduce.specs.KeptCalls.{KeptCall, kept_payload, kept_lists, kept_body, kept_call as by_kept_call, kept_by, kept_in, kept_header, kept_verdict, kept_names_another, kept_invalidates_another, own_if, kept_named, kept_message_verdict}
use Rattle.nr_requester.specs.declared.outstanding.OutstandingCall.{OutstandingCall}
use Rattle.nr_requester.specs.HeldClaims.{claim_list, call_claims, all_claims, IsChunkOf, IsWriteOf, IsReplyOf, IsOfferOf, IsOwnOffer, OffersOwn}
use Rattle.nr_requester.specs.Judged.{header_reason, ComesBack, WriteComesBack, ReplyComesBack, by_stream, SameCall, SameCalls, kept_view, kept_views, Ends, Brings, outcome_by, LiesWithin}
use Rattle.nr_requester.specs.declared.replies.Found.{Found}
use Rattle.nr_requester.specs.Views.{HasRoom, given_stags, names_another, own_named}
use Rattle.nr_requester.proofs.Releases.{held_middle, held_one}
use Rattle.std.proofs.lemmas.List.{take_at}
use Rattle.nr_requester.proofs.Taken.{same_length}
use Rattle.nr_requester.proofs.Completing.{around, all_without, held_one as call_held}

-- ---- Chunks

and_first : (a b : Bool) → (a && b) ≡ true → a ≡ true
and_first true b e = refl
and_first false b e = absurd cc

and_second : (a b : Bool) → (a && b) ≡ true → b ≡ true
and_second true b e = e
and_second false b e = absurd cc

none_back : (b : List RdmaSegment) → returns [] b ≡ true → b ≡ []
none_back [] e = refl
none_back (x ∷ b) e = absurd cc

comes_back : (m : RegisteredMemory) (claim : Option Claim) (o b : List RdmaSegment) → IfSome claim (IsHeld m) → IsChunkOf claim o → returns o b ≡ true → ComesBack m claim b
comes_back m None o b held is e = none_back b (ap (λ (xs : List RdmaSegment). returns xs b) (sym is) ∙ e)
comes_back m (Some claim) o b held is e = (held, (is.0, (is.2, ap (λ (xs : List RdmaSegment). returns xs b) (sym is.1) ∙ e)))

write_held : (m : RegisteredMemory) (c : Claims) → AreHeldFrom m 0 (call_claims c) → IfSome c.write (IsHeld m)
write_held m c h = held_one m 0 c.write (held_middle m 0 (claim_list c.read) (claim_list c.write) (claim_list c.reply) h)

reply_held : (m : RegisteredMemory) (c : Claims) → AreHeldFrom m 0 (call_claims c) → IfSome c.reply (IsHeld m)
reply_held m c h =
    held_one m 0 c.reply (held_middle m 0 (claim_list c.read ++ claim_list c.write) (claim_list c.reply) []
    (subst (λ (cs : List Claim). AreHeldFrom m 0 cs) (sym (append_assoc (claim_list c.read) (claim_list c.write) (claim_list c.reply)) ∙ ap (λ (xs : List Claim). (claim_list c.read ++ claim_list c.write) ++ xs) (sym (append-nil (claim_list c.reply)))) h))

each_back : (m : RegisteredMemory) (claim : Option Claim) (o b : List (List RdmaSegment)) → IfSome claim (IsHeld m) → IsWriteOf claim o → returns_each o b ≡ true → WriteComesBack m claim b
each_back m claim o [] held is e = tt
each_back m claim [] (b ∷ bs) held is e = absurd cc
each_back m claim (o ∷ []) (b ∷ bs) held is e = comes_back m claim o b held is (and_first (returns o b) (returns_each [] bs) e)
each_back m claim (o ∷ o2 ∷ os) (b ∷ bs) held is e = absurd is

own_offer : (c : OutstandingCall) (call : Call) → OffersOwn c → c.call ≡ Some call → IsOwnOffer c.xid c.read_at c.offered c.claims call
own_offer c call own has = subst (λ (o : Option Call). IfSome o (IsOwnOffer c.xid c.read_at c.offered c.claims)) has own

pub write_back : (long : Bool) (m : RegisteredMemory) (c : OutstandingCall) (call : Call) (back : ChunkLists) → AreHeldFrom m 0 (call_claims c.claims) → OffersOwn c → c.call ≡ Some call → answers_offer long c.offered back ≡ true → WriteComesBack m c.claims.write back.write
unfolding answers_offer
write_back long m c call back held own has e =
    let is : IsOfferOf c.claims c.offered = (own_offer c call own has).offer in
    let none : Bool = eqb (length back.read) 0 in
    let each : Bool = returns_each c.offered.write back.write in
    let rest : Bool = fills_first back.write && cond long (returns_stream c.offered.reply back.reply) (returns_none c.offered.reply back.reply) in
    each_back m c.claims.write c.offered.write back.write (write_held m c.claims held) is.write (and_first each rest (and_second none (each && rest) e))

stream_back : (m : RegisteredMemory) (claim : Option Claim) (o b : Option (List RdmaSegment)) → IfSome claim (IsHeld m) → IsReplyOf claim o → returns_stream o b ≡ true → ReplyComesBack m claim b
stream_back m claim o None held is e = tt
stream_back m claim None (Some b) held is e = absurd cc
stream_back m claim (Some o) (Some b) held is e = comes_back m claim o b held is e

pub reply_back : (m : RegisteredMemory) (c : OutstandingCall) (call : Call) (back : ChunkLists) → AreHeldFrom m 0 (call_claims c.claims) → OffersOwn c → c.call ≡ Some call → answers_offer true c.offered back ≡ true → ReplyComesBack m c.claims.reply back.reply
unfolding answers_offer
reply_back m c call back held own has e =
    let is : IsOfferOf c.claims c.offered = (own_offer c call own has).offer in
    let none : Bool = eqb (length back.read) 0 in
    let each : Bool = returns_each c.offered.write back.write in
    let rest : Bool = fills_first back.write && returns_stream c.offered.reply back.reply in
    stream_back m c.claims.reply c.offered.reply back.reply (reply_held m c.claims held) is.reply (and_second (fills_first back.write) (returns_stream c.offered.reply back.reply) (and_second each rest (and_second none (each && rest) e)))

-- ---- Bodies

pub refused_msg : (sent : ℕ) (c : OutstandingCall) (memory : Bytes) (message : List ℕ) (lists : ChunkLists) (at : ℕ) → answers_offer false c.offered lists ≡ false → Ends (kept_body (kept_view sent c) memory message (Msg lists at)) REASON_CHUNKS
refused_msg sent c memory message lists at e = (ap (kept_lists (kept_view sent c) (Some (drop at message)) lists memory) e, inr (inr (inr (inr (inl refl)))))

pub refused_nomsg : (sent : ℕ) (c : OutstandingCall) (memory : Bytes) (message : List ℕ) (lists : ChunkLists) → answers_offer true c.offered lists ≡ false → Ends (kept_body (kept_view sent c) memory message (Nomsg lists)) REASON_CHUNKS
refused_nomsg sent c memory message lists e = (ap (kept_lists (kept_view sent c) None lists memory) e, inr (inr (inr (inr (inl refl)))))

pub revoked_msg : (sent : ℕ) (c : OutstandingCall) (memory : Bytes) (message : List ℕ) (lists : ChunkLists) (at : ℕ) → answers_offer false c.offered lists ≡ true → c.call ≡ None → kept_body (kept_view sent c) memory message (Msg lists at) ≡ GivesOutcome c.xid None
revoked_msg sent c memory message lists at e none = ap (kept_lists (kept_view sent c) (Some (drop at message)) lists memory) e ∙ ap (λ (o : Option Call). kept_payload c.xid o (Some (drop at message)) lists memory) none

pub revoked_nomsg : (sent : ℕ) (c : OutstandingCall) (memory : Bytes) (message : List ℕ) (lists : ChunkLists) → answers_offer true c.offered lists ≡ true → c.call ≡ None → kept_body (kept_view sent c) memory message (Nomsg lists) ≡ GivesOutcome c.xid None
revoked_nomsg sent c memory message lists e none = ap (kept_lists (kept_view sent c) None lists memory) e ∙ ap (λ (o : Option Call). kept_payload c.xid o None lists memory) none

pub body_msg : (sent : ℕ) (c : OutstandingCall) (call : Call) (memory : Bytes) (message stream : List ℕ) (lists : ChunkLists) (at : ℕ) → answers_offer false c.offered lists ≡ true → c.call ≡ Some call → stream ≡ drop at message →
    kept_body (kept_view sent c) memory message (Msg lists at) ≡ by_stream c.xid call stream (reply_moved memory lists.write)
unfolding reply_conveyed
body_msg sent c call memory message stream lists at e has is =
    ap (kept_lists (kept_view sent c) (Some (drop at message)) lists memory) e ∙ ap (λ (o : Option Call). kept_payload c.xid o (Some (drop at message)) lists memory) has ∙ ap (λ (xs : List ℕ). by_stream c.xid call xs (reply_moved memory lists.write)) (sym is)

pub body_nomsg : (sent : ℕ) (c : OutstandingCall) (call : Call) (memory : Bytes) (message stream : List ℕ) (lists : ChunkLists) → answers_offer true c.offered lists ≡ true → c.call ≡ Some call → stream ≡ reply_stream memory None lists.reply →
    kept_body (kept_view sent c) memory message (Nomsg lists) ≡ by_stream c.xid call stream (reply_moved memory lists.write)
unfolding reply_conveyed
body_nomsg sent c call memory message stream lists e has is =
    ap (kept_lists (kept_view sent c) None lists memory) e ∙ ap (λ (o : Option Call). kept_payload c.xid o None lists memory) has ∙ ap (λ (xs : List ℕ). by_stream c.xid call xs (reply_moved memory lists.write)) (sym is)

-- ---- Headers

-- a header whose lists were read apart from it
abbrev pub header_with : HeaderFields → ChunkLists → Header
header_with fields lists = record { xid = fields.xid; credit = fields.credit; body = body_with fields.kind lists }

lists_short : (r : Result Body ℕ) → in_lists r ≢ Err faults.Short
lists_short (Ok body) = λ e. cc
lists_short (Err at) = λ e. cc

version_short : (kind : ℕ) (bytes : List ℕ) → version1_of kind bytes ≢ Err faults.Short
unfolding version1_of
version_short kind bytes = by (eqb kind 0) (eqb kind 1) _ _
  where
    by : (a b : Bool) (r s : Result Body ℕ) → cond a (in_lists r) (cond b (in_lists s) (Err (faults.Kind kind))) ≢ Err faults.Short
    by true b r s = lists_short r
    by false true r s = lists_short s
    by false false r s = λ e. cc

body_short : (o : Option Body) (version kind : ℕ) (bytes : List ℕ) → body_by o version kind bytes ≢ Err faults.Short
unfolding body_by
body_short (Some body) version kind bytes = λ e. cc
body_short None version kind bytes = by (eqb version 1)
  where
    by : (b : Bool) → cond b (version1_of kind bytes) (Err (faults.Version version)) ≢ Err faults.Short
    by true = version_short kind bytes
    by false = λ e. cc

header_short : (xid credit : ℕ) (r : Result Body HeaderFault) → r ≢ Err faults.Short → header_by xid credit r ≢ Err faults.Short
header_short xid credit (Ok body) never = λ e. cc
header_short xid credit (Err faults.Short) never = λ e. never refl
header_short xid credit (Err (faults.Version version)) never = λ e. cc
header_short xid credit (Err (faults.Kind kind)) never = λ e. cc
header_short xid credit (Err (faults.BadChunks at)) never = λ e. cc

not_short : (message : List ℕ) → 16 ≤ length message → header_of message ≢ Err faults.Short
unfolding header_of
not_short message le =
    subst (λ (b : Bool). cond b (Err faults.Short) (header_by (word_at 0 message) (word_at 8 message) (body_by (error_by (word_at 12 message) message) (word_at 4 message) (word_at 12 message) message)) ≢ Err faults.Short)
    (sym (le-ltb (length message) 16 le)) (header_short (word_at 0 message) (word_at 8 message) _ (body_short (error_by (word_at 12 message) message) (word_at 4 message) (word_at 12 message) message))

-- a message that names no STag of another call is judged by its header
plain : (calls : List KeptCall) (memory : Bytes) (named : Option ℕ) (message : List ℕ) → kept_invalidates_another calls named message ≡ false → kept_message_verdict calls memory named message ≡ kept_verdict calls memory message
unfolding kept_message_verdict
plain calls memory named message e = ap (λ (b : Bool). cond b (EndsLink REASON_INVALIDATED) (kept_verdict calls memory message)) e

plain_bad : (calls : List KeptCall) (named : Option ℕ) (message : List ℕ) (fault : HeaderFault) → header_of message ≡ Err fault → kept_invalidates_another calls named message ≡ false
plain_bad calls None message fault is = refl
plain_bad calls (Some stag) message fault is = ap (λ (r : Result Header HeaderFault). kept_names_another (kept_in calls r) stag) is

plain_none : (calls : List KeptCall) (named : Option ℕ) (message : List ℕ) (h : Header) → header_of message ≡ Ok h → kept_by calls h.xid ≡ None → kept_invalidates_another calls named message ≡ false
plain_none calls None message h is none = refl
plain_none calls (Some stag) message h is none = ap (λ (r : Result Header HeaderFault). kept_names_another (kept_in calls r) stag) is ∙ ap (λ (o : Option KeptCall). kept_names_another o stag) none

-- whether it names one of another call, if it answers this one
another_call : (calls : List KeptCall) (named : Option ℕ) (message : List ℕ) (h : Header) (c : KeptCall) → header_of message ≡ Ok h → kept_by calls h.xid ≡ Some c → kept_invalidates_another calls named message ≡ names_another c.given named
another_call calls None message h c is one = refl
another_call calls (Some stag) message h c is one = ap (λ (r : Result Header HeaderFault). kept_names_another (kept_in calls r) stag) is ∙ ap (λ (o : Option KeptCall). kept_names_another o stag) one

-- the STag whose region dies
pub own_bad : (calls : List KeptCall) (named : Option ℕ) (message : List ℕ) (fault : HeaderFault) → header_of message ≡ Err fault → kept_named calls named message ≡ None
own_bad calls None message fault is = refl
own_bad calls (Some stag) message fault is = ap (λ (r : Result Header HeaderFault). own_if (kept_in calls r) stag) is

pub own_none : (calls : List KeptCall) (named : Option ℕ) (message : List ℕ) (h : Header) → header_of message ≡ Ok h → kept_by calls h.xid ≡ None → kept_named calls named message ≡ None
own_none calls None message h is none = refl
own_none calls (Some stag) message h is none = ap (λ (r : Result Header HeaderFault). own_if (kept_in calls r) stag) is ∙ ap (λ (o : Option KeptCall). own_if o stag) none

pub own_call : (calls : List KeptCall) (named : Option ℕ) (message : List ℕ) (h : Header) (c : KeptCall) → header_of message ≡ Ok h → kept_by calls h.xid ≡ Some c → kept_named calls named message ≡ own_named c.stags named
own_call calls None message h c is one = refl
own_call calls (Some stag) message h c is one = ap (λ (r : Result Header HeaderFault). own_if (kept_in calls r) stag) is ∙ ap (λ (o : Option KeptCall). own_if o stag) one

pub bad_header : (calls : List KeptCall) (memory : Bytes) (named : Option ℕ) (message : List ℕ) (fault : HeaderFault) (reason : ℕ) → 16 ≤ length message → header_of message ≡ Err fault → reason ≡ header_reason fault → Ends (kept_message_verdict calls memory named message) reason
unfolding kept_verdict
bad_header calls memory named message fault reason le is why =
    subst (λ (v : ReplyVerdict). Ends v reason) (sym (plain calls memory named message (plain_bad calls named message fault is))) (subst (λ (n : ℕ). Ends (kept_verdict calls memory message) n) (sym why) (by fault is))
  where
    by : (x : HeaderFault) → header_of message ≡ Err x → Ends (kept_verdict calls memory message) (header_reason x)
    by faults.Short e = absurd (not_short message le e)
    by (faults.Version version) e = (ap (kept_header calls memory message) e, inr (inr (inr (inr (inr (inl refl))))))
    by (faults.Kind kind) e = (ap (kept_header calls memory message) e, inl refl)
    by (faults.BadChunks at) e = (ap (kept_header calls memory message) e, inl refl)

pub no_call : (calls : List KeptCall) (memory : Bytes) (named : Option ℕ) (message : List ℕ) (h : Header) → header_of message ≡ Ok h → kept_by calls h.xid ≡ None → Ends (kept_message_verdict calls memory named message) REASON_CALL
unfolding kept_verdict
no_call calls memory named message h is none =
    (plain calls memory named message (plain_none calls named message h is none) ∙ ap (kept_header calls memory message) is ∙ ap (by_kept_call memory message h.body) none, inr (inr (inr (inl refl))))

-- it names an STag of another call
pub named_call : (calls : List KeptCall) (memory : Bytes) (named : Option ℕ) (message : List ℕ) (h : Header) (c : KeptCall) → header_of message ≡ Ok h → kept_by calls h.xid ≡ Some c → names_another c.given named ≡ true → Ends (kept_message_verdict calls memory named message) REASON_INVALIDATED
unfolding kept_message_verdict
named_call calls memory named message h c is one another =
    (ap (λ (b : Bool). cond b (EndsLink REASON_INVALIDATED) (kept_verdict calls memory message)) (another_call calls named message h c is one ∙ another), inr (inr (inr (inr (inr (inr (inl refl)))))))

pub by_call : (calls : List KeptCall) (memory : Bytes) (named : Option ℕ) (message : List ℕ) (h : Header) (c : KeptCall) → header_of message ≡ Ok h → kept_by calls h.xid ≡ Some c → names_another c.given named ≡ false →
    kept_message_verdict calls memory named message ≡ kept_body c memory message h.body
unfolding kept_verdict
by_call calls memory named message h c is one own =
    plain calls memory named message (another_call calls named message h c is one ∙ own) ∙ ap (kept_header calls memory message) is ∙ ap (by_kept_call memory message h.body) one

-- ---- One of several calls

one_of : (P : OutstandingCall → Type 0) (cs : List OutstandingCall) (at : ℕ) (d : OutstandingCall) → at < length cs → AllByRecursion P cs → P (get_or cs at d)
one_of P cs at d lt h = (all_without (take at cs) (get_or cs at d) (drop (suc at) cs) P (subst (λ (xs : List OutstandingCall). AllByRecursion P xs) (around cs at d lt) h)).1

pub one_offers : (cs : List OutstandingCall) (at : ℕ) (d : OutstandingCall) → at < length cs → AllByRecursion OffersOwn cs → OffersOwn (get_or cs at d)
one_offers = one_of OffersOwn

-- a shorter message needs less room
pub shorter_rooms : (n len : ℕ) (cs : List OutstandingCall) → n ≤ len → AllByRecursion (HasRoom len) cs → AllByRecursion (HasRoom n) cs
shorter_rooms n len [] le h = tt
shorter_rooms n len (c ∷ cs) le h = (((let has = h.0.0 in omega (arith, has, le)), h.0.1), shorter_rooms n len cs le h.1)

pub one_room : (len : ℕ) (cs : List OutstandingCall) (at : ℕ) (d : OutstandingCall) → at < length cs → AllByRecursion (HasRoom len) cs → HasRoom len (get_or cs at d)
one_room len = one_of (HasRoom len)

pub one_held : (m : RegisteredMemory) (cs : List OutstandingCall) (at : ℕ) (d : OutstandingCall) → at < length cs → AreHeldFrom m 0 (all_claims cs) → AreHeldFrom m 0 (call_claims (get_or cs at d).claims)
one_held m cs at d lt h = call_held (take at cs) (get_or cs at d) (drop (suc at) cs) m (subst (λ (xs : List OutstandingCall). AreHeldFrom m 0 (all_claims xs)) (around cs at d lt) h)

pub same_all : (cs : List OutstandingCall) → SameCalls cs cs
same_all [] = tt
same_all (c ∷ cs) = ((refl, (refl, λ h. h)), same_all cs)

pub same_set : (cs : List OutstandingCall) (at : ℕ) (x d : OutstandingCall) → at < length cs → SameCall (get_or cs at d) x → SameCalls cs (slice_set cs at x)
same_set [] at x d lt h = absurd (omega (arith, lt))
same_set (c ∷ cs) zero x d lt h = (h, same_all cs)
same_set (c ∷ cs) (suc n) x d lt h = ((refl, (refl, λ within. within)), same_set cs n x d (omega (arith, lt)) h)

set_length : (cs : List OutstandingCall) (at : ℕ) (x : OutstandingCall) → length (slice_set cs at x) ≡ length cs
set_length [] at x = refl
set_length (c ∷ cs) zero x = refl
set_length (c ∷ cs) (suc n) x = (let ih = set_length cs n x in omega (arith, ih))

set_here : (cs : List OutstandingCall) (at : ℕ) (x d : OutstandingCall) → at < length cs → get_or (slice_set cs at x) at d ≡ x
set_here [] at x d lt = absurd (omega (arith, lt))
set_here (c ∷ cs) zero x d lt = refl
set_here (c ∷ cs) (suc n) x d lt = set_here cs n x d (omega (arith, lt))

-- the call at a place, whatever is given for places beyond
pub same_get : (cs : List OutstandingCall) (at : ℕ) (d e : OutstandingCall) → at < length cs → get_or cs at d ≡ get_or cs at e
same_get [] at d e lt = absurd (omega (arith, lt))
same_get (c ∷ cs) zero d e lt = refl
same_get (c ∷ cs) (suc n) d e lt = same_get cs n d e (omega (arith, lt))

-- a message names no STag of another call, whatever is given for places beyond
pub own_given : (cs : List OutstandingCall) (at : ℕ) (d e : OutstandingCall) (named : Option ℕ) (r : Bool) → at < length cs → r ≡ names_another (given_stags (get_or cs at e).given) named → r ≡ false → names_another (given_stags (get_or cs at d).given) named ≡ false
own_given cs at d e named r lt is own = ap (λ (x : OutstandingCall). names_another (given_stags x.given) named) (same_get cs at d e lt) ∙ sym is ∙ own

abbrev sent_of : Option KeptCall → Bool
sent_of None = true
sent_of (Some c) = c.is_sent

-- the call that a message answers was sent
found_sent : (cs : List KeptCall) (xid : ℕ) (y : KeptCall) → kept_by cs xid ≡ Some y → y.is_sent ≡ true
found_sent [] xid y is = absurd cc
found_sent (c ∷ cs) xid y is = by (eqb c.xid xid && c.is_sent) refl (λ e. found_sent cs xid y e) is
  where
    by : (b : Bool) → (eqb c.xid xid && c.is_sent) ≡ b → (kept_by cs xid ≡ Some y → y.is_sent ≡ true) → cond b (Some c) (kept_by cs xid) ≡ Some y → y.is_sent ≡ true
    by true here rest e = sym (ap (λ (o : Option KeptCall). sent_of o) e) ∙ and_second (eqb c.xid xid) c.is_sent here
    by false here rest e = rest e

-- a call was judged by the body of its message
pub brings_lem : (sent : ℕ) (cs : List OutstandingCall) (memory : Bytes) (named : Option ℕ) (message : List ℕ) (h : Header) (at : ℕ) (x d0 : OutstandingCall) (f : Found) → at < length cs → header_of message ≡ Ok h → kept_by (kept_views sent cs) h.xid ≡ Some (kept_view sent (get_or cs at d0)) →
    kept_body (kept_view sent (get_or cs at d0)) memory message h.body ≡ GivesOutcome (get_or cs at d0).xid (outcome_by f x.room.bytes) → LiesWithin f x.room.bytes → names_another (kept_view sent (get_or cs at d0)).given named ≡ false → Brings sent cs (slice_set cs at x) memory named message at f
brings_lem sent cs memory named message h at x d0 f lt is one body fits own = record {
  within = (let len = set_length cs at x in omega (arith, len, lt));
  verdict = λ d. by_call (kept_views sent cs) memory named message h (kept_view sent (get_or cs at d0)) is one own ∙ body
      ∙ (λ i. GivesOutcome (same_get cs at d0 d lt i).xid (outcome_by f (sym (set_here cs at x d lt) i).room.bytes));
  fits = λ d. subst (λ (y : OutstandingCall). LiesWithin f y.room.bytes) (sym (set_here cs at x d lt)) fits;
  sent = λ d. subst (λ (y : OutstandingCall). y.send < sent) (same_get cs at d0 d lt) (ltb-true (get_or cs at d0).send sent (found_sent (kept_views sent cs) h.xid (kept_view sent (get_or cs at d0)) one));
}

-- the calls as they are written back
pub written_back : (cs ns : List OutstandingCall) (len : ℕ) → SameCalls cs ns → len ≡ length cs → take len (ns ++ drop (length ns) cs) ≡ ns
written_back cs ns len same is = ap (λ (k : ℕ). take k (ns ++ drop (length ns) cs)) (is ∙ sym (same_length cs ns same)) ∙ take_at ns (drop (length ns) cs) (length ns) refl
