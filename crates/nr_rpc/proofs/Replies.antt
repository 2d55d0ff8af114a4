-- A reply head is read if and only if the bytes begin with it.
use Rattle.std.proofs.Common.{◌≡◌, ℕ, ◌+◌, ◌≤◌, cond, eqb, List, ◌++◌, length, Result, Ok, Err, refl, sym, ap, subst, ◌∙◌, arith, inl, inr}
use Rattle.std.specs.Prelude.{IfOk}
use Rattle.std.proofs.lemmas.Bool.{eqb-true, eqb-false, ne_eqb}
use Rattle.nr_xdr.specs.Item.{Item, IsBytes}
use Rattle.nr_xdr.specs.Item.Item.{Unsigned}
use Rattle.nr_xdr.specs.Items.{ReadsAll, AllFit, TakesAll}
use Rattle.nr_xdr.specs.Reading.{Cursor, Takes}
use Rattle.nr_xdr.proofs.Chains.{standing, each_takes, each_between, encodings_read}
use Rattle.nr_rpc.specs.Constants.{AUTH_BODY_MAX, REPLY, MSG_ACCEPTED, MSG_DENIED, PROG_MISMATCH, RPC_MISMATCH, AUTH_ERROR}
use Rattle.nr_rpc.specs.declared.fault.HeadFault.{HeadFault}
use Rattle.nr_rpc.specs.declared.fault.HeadFault.TheVariants as faults
use Rattle.nr_rpc.specs.declared.head.ReplyHead.{ReplyHead}
use Rattle.nr_rpc.specs.declared.head.ReplyHead.TheVariants as replies
use Rattle.nr_rpc.specs.Credential.{Auth, no_verifier}
use Rattle.nr_rpc.specs.Reply.{reply_items, ResultsAt, ReadsReply, BeginsReply, CanWriteReply, ReplyFits, reply_head, reply_encoding, reply_again}
use Rattle.nr_xdr.specs.Sequencing.{◌>>=◌, number_at}
use Rattle.nr_rpc.specs.Reading.{versions_at, accepted_at, denied_at, reply_at, head_of, reply_of, GivesReply}
use Rattle.nr_xdr.proofs.SequencingSteps.{chosen, done, ok_is, number_step, number_again}
use Rattle.nr_rpc.proofs.HeadSteps.{expect_step, expect_again, pair_step, pair_again, auth_step, auth_again, TakesAuth}
use Rattle.nr_rpc.proofs.Calls.{head_ok, one_answer}

-- a reply head that was read
pub record TakesReply (head : ReplyHead) (c after : Cursor) : Type 0 where
  pub verifier : Auth
  pub within : length verifier.body ≤ AUTH_BODY_MAX
  pub each : TakesAll c after (reply_items head verifier)
  pub accepted : ResultsAt head after.place

made_is : (made x : ReplyHead × Cursor) (c : Cursor) → TakesReply made.0 c made.1 → done made ≡ done x → TakesReply x.0 c x.1
made_is made x c t e = subst (λ (y : ReplyHead × Cursor). TakesReply y.0 c y.1) (ok_is made x e) t

-- the lowest and the highest version that were read
record TakesVersions (head : ℕ → ℕ → ReplyHead) (c : Cursor) (x : ReplyHead × Cursor) : Type 0 where
  low : ℕ
  high : ℕ
  behind_low : Cursor
  at_low : Takes c behind_low (Unsigned low)
  at_high : Takes behind_low x.1 (Unsigned high)
  is : x.0 ≡ head low high

versions_take : (head : ℕ → ℕ → ReplyHead) (c : Cursor) (x : ReplyHead × Cursor) → IsBytes c.rest → versions_at head c ≡ Ok x → TakesVersions head c x
unfolding versions_at
versions_take head c x fits e =
    let both = pair_step c _ x fits e in
    let made : ReplyHead × Cursor = (head both.0.0.0 both.0.0.1, both.0.1) in
    subst (λ (y : ReplyHead × Cursor). TakesVersions head c y) (ok_is made x both.3)
    (record { low = both.0.0.0; high = both.0.0.1; behind_low = both.1.behind_first; at_low = both.1.at_first; at_high = both.1.at_second; is = refl })

versions_again : (head : ℕ → ℕ → ReplyHead) (low high : ℕ) (c middle after : Cursor) → Takes c middle (Unsigned low) → Takes middle after (Unsigned high)
    → versions_at head c ≡ Ok (head low high, after)
unfolding versions_at
versions_again head low high c middle after at_low at_high = rw (pair_again low high c middle after at_low at_high) refl

accepted_take : (xid : ℕ) (start first second c : Cursor) (x : ReplyHead × Cursor) → IsBytes c.rest
    → Takes start first (Unsigned xid) → Takes first second (Unsigned REPLY) → Takes second c (Unsigned MSG_ACCEPTED)
    → accepted_at xid c ≡ Ok x → TakesReply x.0 start x.1
unfolding accepted_at
accepted_take xid start first second c x fits at_xid at_kind at_status e =
    let verifier = auth_step c _ x fits e in
    let stat = number_step verifier.0.1 _ x verifier.3 verifier.4 in
    let v = verifier.1 in
    elim (chosen (eqb stat.0.0 PROG_MISMATCH) (versions_at (replies.ProgMismatch xid) stat.0.1) (Ok (replies.Accepted xid stat.0.0 stat.0.1.place, stat.0.1)) (Ok x) stat.3) [
      | inl two ↦
          let t = versions_take (replies.ProgMismatch xid) stat.0.1 x stat.2 two.1 in
          let is : Takes verifier.0.1 stat.0.1 (Unsigned PROG_MISMATCH) = subst (λ (n : ℕ). Takes verifier.0.1 stat.0.1 (Unsigned n)) (eqb-true stat.0.0 PROG_MISMATCH two.0) stat.1 in
          subst (λ (h : ReplyHead). TakesReply h start x.1) (sym t.is) (record {
            verifier = verifier.0.0;
            within = v.within;
            each = (first, at_xid, (second, at_kind, (c, at_status, (v.behind_flavor, v.flavor, (verifier.0.1, v.body, (stat.0.1, is, (t.behind_low, t.at_low, (x.1, t.at_high, refl))))))));
            accepted = tt;
          })
      | inr other ↦
          made_is (replies.Accepted xid stat.0.0 stat.0.1.place, stat.0.1) x start (record {
            verifier = verifier.0.0;
            within = v.within;
            each = (first, at_xid, (second, at_kind, (c, at_status, (v.behind_flavor, v.flavor, (verifier.0.1, v.body, (stat.0.1, stat.1, refl))))));
            accepted = (eqb-false stat.0.0 PROG_MISMATCH other.0, refl);
          })
          other.1
    ]

denied_take : (xid : ℕ) (start first second c : Cursor) (x : ReplyHead × Cursor) → IsBytes c.rest
    → Takes start first (Unsigned xid) → Takes first second (Unsigned REPLY) → Takes second c (Unsigned MSG_DENIED)
    → denied_at xid c ≡ Ok x → TakesReply x.0 start x.1
unfolding denied_at
denied_take xid start first second c x fits at_xid at_kind at_status e =
    let stat = number_step c _ x fits e in
    let refused : Result (ReplyHead × Cursor) ℕ = cond (eqb stat.0.0 AUTH_ERROR) (number_at stat.0.1 >>= λ why. Ok (replies.AuthError xid why.0, why.1)) (Err c.place) in
    elim (chosen (eqb stat.0.0 RPC_MISMATCH) (versions_at (replies.RpcMismatch xid) stat.0.1) refused (Ok x) stat.3) [
      | inl versions ↦
          let t = versions_take (replies.RpcMismatch xid) stat.0.1 x stat.2 versions.1 in
          let is : Takes c stat.0.1 (Unsigned RPC_MISMATCH) = subst (λ (n : ℕ). Takes c stat.0.1 (Unsigned n)) (eqb-true stat.0.0 RPC_MISMATCH versions.0) stat.1 in
          subst (λ (h : ReplyHead). TakesReply h start x.1) (sym t.is) (record {
            verifier = no_verifier;
            within = omega arith;
            each = (first, at_xid, (second, at_kind, (c, at_status, (stat.0.1, is, (t.behind_low, t.at_low, (x.1, t.at_high, refl))))));
            accepted = tt;
          })
      | inr others ↦
          elim (chosen (eqb stat.0.0 AUTH_ERROR) (number_at stat.0.1 >>= λ why. Ok (replies.AuthError xid why.0, why.1)) (Err c.place) (Ok x) others.1) [
            | inl auth ↦
                let why = number_step stat.0.1 _ x stat.2 auth.1 in
                let is : Takes c stat.0.1 (Unsigned AUTH_ERROR) = subst (λ (n : ℕ). Takes c stat.0.1 (Unsigned n)) (eqb-true stat.0.0 AUTH_ERROR auth.0) stat.1 in
                made_is (replies.AuthError xid why.0.0, why.0.1) x start (record {
                  verifier = no_verifier;
                  within = omega arith;
                  each = (first, at_xid, (second, at_kind, (c, at_status, (stat.0.1, is, (why.0.1, why.1, refl)))));
                  accepted = tt;
                })
                why.3
            | inr neither ↦ absurd (let wrong : Err c.place ≡ done x = neither.1 in cc)
          ]
    ]

pub reply_take : (c : Cursor) (x : ReplyHead × Cursor) → IsBytes c.rest → reply_at c ≡ Ok x → TakesReply x.0 c x.1
unfolding reply_at
reply_take c x fits e =
    let xid = number_step c _ x fits e in
    let kind = expect_step REPLY xid.0.1 _ x xid.2 xid.3 in
    let status = number_step kind.0 _ x kind.2 kind.3 in
    let refused : Result (ReplyHead × Cursor) ℕ = cond (eqb status.0.0 MSG_DENIED) (denied_at xid.0.0 status.0.1) (Err kind.0.place) in
    elim (chosen (eqb status.0.0 MSG_ACCEPTED) (accepted_at xid.0.0 status.0.1) refused (Ok x) status.3) [
      | inl accepted ↦
          let is : Takes kind.0 status.0.1 (Unsigned MSG_ACCEPTED) = subst (λ (n : ℕ). Takes kind.0 status.0.1 (Unsigned n)) (eqb-true status.0.0 MSG_ACCEPTED accepted.0) status.1 in
          accepted_take xid.0.0 c xid.0.1 kind.0 status.0.1 x status.2 xid.1 kind.1 is accepted.1
      | inr others ↦
          elim (chosen (eqb status.0.0 MSG_DENIED) (denied_at xid.0.0 status.0.1) (Err kind.0.place) (Ok x) others.1) [
            | inl denied ↦
                let is : Takes kind.0 status.0.1 (Unsigned MSG_DENIED) = subst (λ (n : ℕ). Takes kind.0 status.0.1 (Unsigned n)) (eqb-true status.0.0 MSG_DENIED denied.0) status.1 in
                denied_take xid.0.0 c xid.0.1 kind.0 status.0.1 x status.2 xid.1 kind.1 is denied.1
            | inr neither ↦ absurd (let wrong : Err kind.0.place ≡ done x = neither.1 in cc)
          ]
    ]

pub reply_found : (head : ReplyHead) (c after : Cursor) → TakesReply head c after → reply_at c ≡ Ok (head, after)
unfolding reply_at accepted_at denied_at
reply_found (replies.Accepted xid stat results_at) c after t =
    let (d, at_xid, (f, at_kind, (g, at_status, (h, at_flavor, (i, at_body, (j, at_stat, last)))))) = t.each in
    let v : TakesAuth t.verifier g i = record { behind_flavor = h; flavor = at_flavor; body = at_body; within = t.within } in
    let (apart, place) = t.accepted in
    rw (number_again c xid d at_xid, expect_again REPLY d f at_kind, number_again f MSG_ACCEPTED g at_status, auth_again t.verifier g i v, number_again i stat j at_stat, ne_eqb stat PROG_MISMATCH apart, place)
    (ap (λ (m : Cursor). Ok (replies.Accepted xid stat m.place, m)) last)
reply_found (replies.ProgMismatch xid low high) c after t =
    let (d, at_xid, (f, at_kind, (g, at_status, (h, at_flavor, (i, at_body, (j, at_stat, (k, at_low, (l, at_high, last)))))))) = t.each in
    let v : TakesAuth t.verifier g i = record { behind_flavor = h; flavor = at_flavor; body = at_body; within = t.within } in
    rw (number_again c xid d at_xid, expect_again REPLY d f at_kind, number_again f MSG_ACCEPTED g at_status, auth_again t.verifier g i v, number_again i PROG_MISMATCH j at_stat, versions_again (replies.ProgMismatch xid) low high j k l at_low at_high)
    (ap (λ (m : Cursor). Ok (replies.ProgMismatch xid low high, m)) last)
reply_found (replies.RpcMismatch xid low high) c after t =
    let (d, at_xid, (f, at_kind, (g, at_status, (j, at_stat, (k, at_low, (l, at_high, last)))))) = t.each in
    rw (number_again c xid d at_xid, expect_again REPLY d f at_kind, number_again f MSG_DENIED g at_status, number_again g RPC_MISMATCH j at_stat, versions_again (replies.RpcMismatch xid) low high j k l at_low at_high)
    (ap (λ (m : Cursor). Ok (replies.RpcMismatch xid low high, m)) last)
reply_found (replies.AuthError xid stat) c after t =
    let (d, at_xid, (f, at_kind, (g, at_status, (j, at_stat, (k, at_why, last))))) = t.each in
    rw (number_again c xid d at_xid, expect_again REPLY d f at_kind, number_again f MSG_DENIED g at_status, number_again g AUTH_ERROR j at_stat, number_again j stat k at_why)
    (ap (λ (m : Cursor). Ok (replies.AuthError xid stat, m)) last)

-- the head that is read stands at the front
pub reply_begins : (bytes : List ℕ) (head : ReplyHead) → IsBytes bytes → reply_of bytes ≡ Ok head → BeginsReply head bytes
unfolding reply_of
reply_begins bytes head fits e =
    let h = head_ok (reply_at (standing 0 bytes)) head e in
    let t = reply_take (standing 0 bytes) (head, h.0) fits h.1 in
    let b = each_between (reply_items head t.verifier) (standing 0 bytes) h.0 t.each in
    let place : h.0.place ≡ length b.bytes = omega (arith, b.place) in
    (b.bytes, h.0.rest, record { verifier = t.verifier; body = t.within; items = b.reads; accepted = subst (λ (n : ℕ). ResultsAt head n) place t.accepted }, b.rest)

-- bytes that read as the head are taken as it
reads_reply : (head : ReplyHead) (bytes front behind : List ℕ) → ReadsReply head front → bytes ≡ front ++ behind
    → TakesReply head (standing 0 bytes) (standing (0 + length front) behind)
reads_reply head bytes front behind reads parts =
    let place : length front ≡ 0 + length front = omega arith in record {
      verifier = reads.verifier;
      within = reads.body;
      each = each_takes (reply_items head reads.verifier) front behind (standing 0 bytes) reads.items parts;
      accepted = subst (λ (n : ℕ). ResultsAt head n) place reads.accepted;
    }

-- the head that stands at the front is read
pub begins_reply : (bytes : List ℕ) (head : ReplyHead) → BeginsReply head bytes → reply_of bytes ≡ Ok head
unfolding reply_of
begins_reply bytes head (front, behind, reads, parts) =
    ap head_of (reply_found head (standing 0 bytes) (standing (0 + length front) behind) (reads_reply head bytes front behind reads parts))

-- two heads at one offset are one
pub one_reply : (a b : ReplyHead) (x y more others : List ℕ) → ReadsReply a x → ReadsReply b y → x ++ more ≡ y ++ others → (a ≡ b) × (more ≡ others)
one_reply a b x y more others reads_a reads_b e =
    let c = standing 0 (x ++ more) in
    let first = reply_found a c (standing (0 + length x) more) (reads_reply a (x ++ more) x more reads_a refl) in
    let second = reply_found b c (standing (0 + length y) others) (reads_reply b (x ++ more) y others reads_b e) in
    one_answer a b (standing (0 + length x) more) (standing (0 + length y) others) (reply_at c) first second

reply_items_fit : (head : ReplyHead) → ReplyFits head → AllFit (reply_items head no_verifier)
reply_items_fit (replies.Accepted xid stat results_at) fits = (fits.0, (omega arith, (omega arith, (omega arith, (omega arith, (fits.1, tt))))))
reply_items_fit (replies.ProgMismatch xid low high) fits = (fits.0, (omega arith, (omega arith, (omega arith, (omega arith, (omega arith, (fits.1, (fits.2, tt))))))))
reply_items_fit (replies.RpcMismatch xid low high) fits = (fits.0, (omega arith, (omega arith, (omega arith, (fits.1, (fits.2, tt))))))
reply_items_fit (replies.AuthError xid stat) fits = (fits.0, (omega arith, (omega arith, (omega arith, (fits.1, tt)))))

again_items : (head : ReplyHead) → reply_items (reply_again head) no_verifier ≡ reply_items head no_verifier
again_items (replies.Accepted xid stat results_at) = refl
again_items (replies.ProgMismatch xid low high) = refl
again_items (replies.RpcMismatch xid low high) = refl
again_items (replies.AuthError xid stat) = refl

again_accepted : (head : ReplyHead) → CanWriteReply head → ResultsAt (reply_again head) (length (reply_head head))
again_accepted (replies.Accepted xid stat results_at) can = (can, refl)
again_accepted (replies.ProgMismatch xid low high) can = tt
again_accepted (replies.RpcMismatch xid low high) can = tt
again_accepted (replies.AuthError xid stat) can = tt

-- what is written of a head is read again
pub reply_written : (head : ReplyHead) (results : List ℕ) → CanWriteReply head → ReplyFits head → reply_of (reply_encoding head results) ≡ Ok (reply_again head)
reply_written head results can fits =
    let items = reply_items head no_verifier in
    let reads : ReadsReply (reply_again head) (reply_head head) = record {
      verifier = no_verifier;
      body = omega arith;
      items = subst (λ (is : List Item). ReadsAll is (reply_head head)) (sym (again_items head)) (encodings_read items (reply_items_fit head fits));
      accepted = again_accepted head can;
    } in
    begins_reply (reply_encoding head results) (reply_again head) (reply_head head, results, reads, refl)

pub reply_is_found : (bytes : List ℕ) (r : Result ReplyHead HeadFault) → IsBytes bytes → GivesReply r (reply_of bytes) → IfOk r (λ head. BeginsReply head bytes)
reply_is_found bytes (Ok head) fits given = reply_begins bytes head fits given
reply_is_found bytes (Err fault) fits given = tt

-- what reading gives is answered
pub reply_answered : (r : Result ReplyHead HeadFault) (read : Result ReplyHead ℕ) (head : ReplyHead) → read ≡ Ok head → GivesReply r read → r ≡ Ok head
reply_answered (Ok found) read head e given = ap Ok (ok_is found head (sym given ∙ e))
reply_answered (Err (faults.NotCall at)) read head e given = absurd given
reply_answered (Err (faults.NotReply at)) read head e given = absurd (let wrong : Err at ≡ done head = sym given ∙ e in cc)
reply_answered (Err faults.Memory) read head e given = absurd given
