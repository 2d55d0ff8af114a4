-- The calls of a client, with the numbers of their Sends: those that are outstanding, and those that wait to be sent again.
use Rattle.std.proofs.Common.{◌≡◌, ◌≢◌, ℕ, suc, ◌+◌, ◌≤◌, Bool, true, false, not, cond, ◌&&◌, eqb, List, [], ◌∷◌, ◌++◌, length, map, Option, None, Some, refl, sym, ap, subst, ◌∙◌, arith, length-append, append-nil, append_assoc}
use Rattle.std.specs.List.{AllByRecursion, filter, find}
use Rattle.std.proofs.lemmas.Bool.{le-ltb, ne_eqb}
use Rattle.std.proofs.lemmas.List.{map-append}
use Rattle.nr_reduce.specs.Written.{ends_written}
use Rattle.nr_reduce.specs.ClientState.{OutstandingCall, WaitingCall, ClientState, is_sent}
use Rattle.nr_reduce.specs.Client.{revoked_call, revoked_waiting}
use Rattle.nr_reduce.specs.SubmitAnswer.{calls_counted}
use Rattle.nr_reduce.specs.KeptClient.{NoneWaitsFor}
use Rattle.nr_xdr.specs.Fields.{word_at}
use Rattle.nr_reduce.specs.KeptCalls.{numbered_from, numbered_calls}

-- ---- How many they are

from_length : (n : ℕ) (ws : List WaitingCall) → length (numbered_from n ws) ≡ length ws
from_length n [] = refl
from_length n (w ∷ ws) = ap suc (from_length (n + 1) ws)

pub numbered_length : (k : ClientState) → length (numbered_calls k) ≡ calls_counted k
numbered_length k = (let all = length-append k.outstanding (numbered_from k.sends k.waiting) in let later = from_length k.sends k.waiting in omega (arith, all, later))

-- ---- Calls whose memory is revoked

from_revoked : (xid n : ℕ) (ws : List WaitingCall) → map (revoked_call xid) (numbered_from n ws) ≡ numbered_from n (map (revoked_waiting xid) ws)
from_revoked xid n [] = refl
from_revoked xid n (w ∷ ws) = by (eqb w.xid xid) (from_revoked xid (n + 1) ws)
  where
    own : OutstandingCall
    own = record { xid = w.xid; send = n; call = w.call; plan = w.plan; stag = w.stag; is_revoked = w.is_revoked }

    by : (b : Bool) → map (revoked_call xid) (numbered_from (n + 1) ws) ≡ numbered_from (n + 1) (map (revoked_waiting xid) ws) →
        cond b (record own { is_revoked = true }) own ∷ map (revoked_call xid) (numbered_from (n + 1) ws) ≡ numbered_from n (cond b (record w { is_revoked = true }) w ∷ map (revoked_waiting xid) ws)
    by true rest = ap (λ (os : List OutstandingCall). record own { is_revoked = true } ∷ os) rest
    by false rest = ap (λ (os : List OutstandingCall). own ∷ os) rest

pub numbered_revoked : (xid : ℕ) (k : ClientState) → map (revoked_call xid) (numbered_calls k) ≡ map (revoked_call xid) k.outstanding ++ numbered_from k.sends (map (revoked_waiting xid) k.waiting)
numbered_revoked xid k =
    map-append (revoked_call xid) k.outstanding (numbered_from k.sends k.waiting) ∙ ap (λ (os : List OutstandingCall). map (revoked_call xid) k.outstanding ++ os) (from_revoked xid k.sends k.waiting)

-- ---- A message ends no call that waits

from_stays : (xid n : ℕ) (ws : List WaitingCall) → AllByRecursion (λ w. w.xid ≢ xid) ws → filter (λ o. not (eqb o.xid xid)) (numbered_from n ws) ≡ numbered_from n ws
from_stays xid n [] others = refl
from_stays xid n (w ∷ ws) others =
    let own : OutstandingCall = record { xid = w.xid; send = n; call = w.call; plan = w.plan; stag = w.stag; is_revoked = w.is_revoked } in
    let rest : List OutstandingCall = filter (λ o. not (eqb o.xid xid)) (numbered_from (n + 1) ws) in
    ap (λ (b : Bool). cond (not b) (own ∷ rest) rest) (ne_eqb w.xid xid others.0) ∙ ap (λ (os : List OutstandingCall). own ∷ os) (from_stays xid (n + 1) ws others.1)

pub numbered_without : (xid n : ℕ) (os : List OutstandingCall) (ws : List WaitingCall) → AllByRecursion (λ w. w.xid ≢ xid) ws →
    filter (λ o. not (eqb o.xid xid)) (os ++ numbered_from n ws) ≡ filter (λ o. not (eqb o.xid xid)) os ++ numbered_from n ws
numbered_without xid n [] ws others = from_stays xid n ws others
numbered_without xid n (o ∷ os) ws others = by (eqb o.xid xid) (numbered_without xid n os ws others)
  where
    by : (b : Bool) → filter (λ x. not (eqb x.xid xid)) (os ++ numbered_from n ws) ≡ filter (λ x. not (eqb x.xid xid)) os ++ numbered_from n ws →
        cond (not b) (o ∷ filter (λ x. not (eqb x.xid xid)) (os ++ numbered_from n ws)) (filter (λ x. not (eqb x.xid xid)) (os ++ numbered_from n ws))
        ≡ cond (not b) (o ∷ filter (λ x. not (eqb x.xid xid)) os) (filter (λ x. not (eqb x.xid xid)) os) ++ numbered_from n ws
    by true rest = rest
    by false rest = ap (λ (xs : List OutstandingCall). o ∷ xs) rest

-- ---- A message answers no call that waits

and_false : (b : Bool) → (b && false) ≡ false
and_false true = refl
and_false false = refl

abbrev Answers : ClientState → ℕ → OutstandingCall → Bool
Answers k xid o = eqb o.xid xid && is_sent k o

from_none : (k : ClientState) (xid n : ℕ) (ws : List WaitingCall) → ends_written k.written k.send_ends ≤ n → find (Answers k xid) (numbered_from n ws) ≡ None
from_none k xid n [] le = refl
from_none k xid n (w ∷ ws) le =
    let own : OutstandingCall = record { xid = w.xid; send = n; call = w.call; plan = w.plan; stag = w.stag; is_revoked = w.is_revoked } in
    let unsent : Answers k xid own ≡ false = ap (λ (b : Bool). eqb w.xid xid && b) (le-ltb n (ends_written k.written k.send_ends) le) ∙ and_false (eqb w.xid xid) in
    ap (λ (b : Bool). cond b (Some own) (find (Answers k xid) (numbered_from (n + 1) ws))) unsent ∙ from_none k xid (n + 1) ws (omega (arith, le))

found_left : (k : ClientState) (xid n : ℕ) (os : List OutstandingCall) (ws : List WaitingCall) → ends_written k.written k.send_ends ≤ n → find (Answers k xid) (os ++ numbered_from n ws) ≡ find (Answers k xid) os
found_left k xid n [] ws le = from_none k xid n ws le
found_left k xid n (o ∷ os) ws le = by (Answers k xid o) (found_left k xid n os ws le)
  where
    by : (b : Bool) → find (Answers k xid) (os ++ numbered_from n ws) ≡ find (Answers k xid) os →
        cond b (Some o) (find (Answers k xid) (os ++ numbered_from n ws)) ≡ cond b (Some o) (find (Answers k xid) os)
    by true rest = refl
    by false rest = rest

pub found_among : (k : ClientState) (xid : ℕ) → ends_written k.written k.send_ends ≤ k.sends → find (λ o. eqb o.xid xid && is_sent k o) (numbered_calls k) ≡ find (λ o. eqb o.xid xid && is_sent k o) k.outstanding
found_among k xid le = found_left k xid k.sends k.outstanding k.waiting le

-- ---- The first that waits is sent

pub numbered_sent : (os : List OutstandingCall) (n : ℕ) (w : WaitingCall) (ws : List WaitingCall) (o : OutstandingCall) → o ≡ record { xid = w.xid; send = n; call = w.call; plan = w.plan; stag = w.stag; is_revoked = w.is_revoked } →
    (os ++ o ∷ []) ++ numbered_from (n + 1) ws ≡ os ++ numbered_from n (w ∷ ws)
numbered_sent os n w ws o is = append_assoc os (o ∷ []) (numbered_from (n + 1) ws) ∙ ap (λ (x : OutstandingCall). os ++ x ∷ numbered_from (n + 1) ws) is

-- ---- While none waits

pub numbered_unwaited : (k : ClientState) → k.waiting ≡ [] → numbered_calls k ≡ k.outstanding
numbered_unwaited k none = ap (λ (ws : List WaitingCall). k.outstanding ++ numbered_from k.sends ws) none ∙ append-nil k.outstanding

pub waits_for_none : (k : ClientState) (message : Option (List ℕ)) → k.waiting ≡ [] → NoneWaitsFor k message
waits_for_none k None none = tt
waits_for_none k (Some message) none = subst (λ (ws : List WaitingCall). AllByRecursion (λ (w : WaitingCall). w.xid ≢ word_at 0 message) ws) (sym none) tt
