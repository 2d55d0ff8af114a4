-- A call head is read if and only if the bytes begin with it.
use Rattle.std.proofs.Common.{◌≡◌, ◌≢◌, ℕ, ◌+◌, ◌≤◌, eqb, List, [], ◌∷◌, ◌++◌, length, Option, Some, Result, Ok, Err, refl, sym, ap, subst, ◌∙◌, arith, inl, inr}
use Rattle.std.specs.Prelude.{IfOk, IfSome}
use Rattle.std.proofs.lemmas.Bool.{eqb-true, eqb-false, ne_eqb}
use Rattle.nr_xdr.specs.Item.{Item, IsBytes}
use Rattle.nr_xdr.specs.Item.Item.{Unsigned}
use Rattle.nr_xdr.specs.Items.{encodings, TakesAll}
use Rattle.nr_xdr.specs.Reading.{Cursor, Takes}
use Rattle.nr_xdr.proofs.Chains.{standing, each_takes, each_between, encodings_read, IsBytes_after, IsBytes_opaque}
use Rattle.nr_rpc.specs.Constants.{AUTH_BODY_MAX, RPC_VERSION, CALL}
use Rattle.nr_rpc.specs.declared.fault.HeadFault.{HeadFault}
use Rattle.nr_rpc.specs.declared.cred.Cred.{Cred}
use Rattle.nr_rpc.specs.declared.head.CallHead.{CallHead}
use Rattle.nr_rpc.specs.declared.head.CallHead.TheVariants as calls
use Rattle.nr_rpc.specs.Credential.{Auth, auth_items, auth_of, no_verifier, ReadsCred}
use Rattle.nr_rpc.specs.Call.{version2_items, other_items, ReadsCall, BeginsCall, CanWriteCall, CallFits, call_encoding, call_again}
use Rattle.nr_xdr.specs.Sequencing.{◌>>=◌}
use Rattle.nr_rpc.specs.Reading.{cred_of, pair_at, procedure_at, version2_at, call_at, head_of, call_of, GivesCall, head_xid, xid_of_call}
use Rattle.nr_xdr.proofs.SequencingSteps.{bind_ok, chosen, done, ok_is, number_step, number_again}
use Rattle.nr_rpc.proofs.HeadSteps.{expect_step, expect_again, auth_step, auth_again, TakesAuth, pair_step, pair_again}
use Rattle.nr_rpc.proofs.Credentials.{cred_takes, cred_again, cred_written, auth_of_fits}

-- a call head that was read
pub record TakesVersion2 (xid prog vers proc : ℕ) (auth verifier : Auth) (c after : Cursor) : Type 0 where
  pub each : TakesAll c after (version2_items xid prog vers proc auth verifier)
  pub auth_within : length auth.body ≤ AUTH_BODY_MAX
  pub verifier_within : length verifier.body ≤ AUTH_BODY_MAX
  pub bytes : IsBytes auth.body

abbrev pub TakesCall : CallHead → Cursor → Cursor → Type 0
TakesCall (calls.Version2 xid prog vers proc cred args_at) c after =
    (auth : Auth) × (verifier : Auth) × TakesVersion2 xid prog vers proc auth verifier c after × ReadsCred cred auth × (args_at ≡ after.place)
TakesCall (calls.Other xid rpcvers) c after = (rpcvers ≢ RPC_VERSION) × TakesAll c after (other_items xid rpcvers)

-- the items of a flavor and a body, and those after them
auth_each : (auth : Auth) (more : List Item) (c middle after : Cursor) → TakesAuth auth c middle → TakesAll middle after more → TakesAll c after (auth_items auth more)
auth_each auth more c middle after t others = (t.behind_flavor, t.flavor, (middle, t.body, others))

version2_made : (xid prog vers proc : ℕ) (auth verifier : Auth) (start after : Cursor) (x : CallHead × Cursor) → TakesVersion2 xid prog vers proc auth verifier start after
    → done {A = CallHead × Cursor} (calls.Version2 xid prog vers proc (cred_of auth) after.place, after) ≡ done x → TakesCall x.0 start x.1
version2_made xid prog vers proc auth verifier start after x t e =
    let made : CallHead × Cursor = (calls.Version2 xid prog vers proc (cred_of auth) after.place, after) in
    subst (λ (y : CallHead × Cursor). TakesCall y.0 start y.1) (ok_is made x e) (auth, verifier, t, cred_takes auth (cred_of auth) t.bytes refl, refl)

-- a program, its version and a procedure that were read, and what follows
record TakesProcedure (prog vers proc : ℕ) (c after : Cursor) : Type 0 where
  behind_prog : Cursor
  at_prog : Takes c behind_prog (Unsigned prog)
  behind_vers : Cursor
  at_vers : Takes behind_prog behind_vers (Unsigned vers)
  at_proc : Takes behind_vers after (Unsigned proc)

procedure_step : {B : Type 0} (c : Cursor) (f : (ℕ × (ℕ × ℕ)) × Cursor → Result B ℕ) (y : B) → IsBytes c.rest → (procedure_at c >>= f) ≡ Ok y
    → (x : (ℕ × (ℕ × ℕ)) × Cursor) × TakesProcedure x.0.0 x.0.1.0 x.0.1.1 c x.1 × IsBytes x.1.rest × (f x ≡ Ok y)
unfolding procedure_at pair_at
procedure_step c f y fits e =
    let a = bind_ok (procedure_at c) f y e in
    let prog = number_step c (λ prog. pair_at prog.1 >>= λ version. Ok ((prog.0, version.0), version.1)) a.0 fits a.1 in
    let version = pair_step prog.0.1 (λ version. Ok ((prog.0.0, version.0), version.1)) a.0 prog.2 prog.3 in
    let made : (ℕ × (ℕ × ℕ)) × Cursor = ((prog.0.0, version.0.0), version.0.1) in
    let taken : TakesProcedure prog.0.0 version.0.0.0 version.0.0.1 c version.0.1 = record { behind_prog = prog.0.1; at_prog = prog.1; behind_vers = version.1.behind_first; at_vers = version.1.at_first; at_proc = version.1.at_second } in
    let is = ok_is made a.0 version.3 in (
      a.0,
      subst (λ (x : (ℕ × (ℕ × ℕ)) × Cursor). TakesProcedure x.0.0 x.0.1.0 x.0.1.1 c x.1) is taken,
      subst (λ (x : (ℕ × (ℕ × ℕ)) × Cursor). IsBytes x.1.rest) is version.2,
      a.2,
    )

procedure_again : (prog vers proc : ℕ) (c d f after : Cursor) → Takes c d (Unsigned prog) → Takes d f (Unsigned vers) → Takes f after (Unsigned proc) → procedure_at c ≡ Ok ((prog, (vers, proc)), after)
unfolding procedure_at
procedure_again prog vers proc c d f after at_prog at_vers at_proc = rw (number_again c prog d at_prog, pair_again vers proc d f after at_vers at_proc) refl

version2_take : (xid : ℕ) (first second c : Cursor) (x : CallHead × Cursor) (start : Cursor) → IsBytes c.rest
    → Takes start first (Unsigned xid) → Takes first second (Unsigned CALL) → Takes second c (Unsigned RPC_VERSION)
    → version2_at xid c ≡ Ok x → TakesCall x.0 start x.1
unfolding version2_at
version2_take xid first second c x start fits at_xid at_kind at_version e =
    let called = procedure_step c _ x fits e in
    let t = called.1 in
    let auth = auth_step called.0.1 _ x called.2 called.3 in
    let verifier = auth_step auth.0.1 _ x auth.3 auth.4 in
    let each = auth_each auth.0.0 (auth_items verifier.0.0 []) called.0.1 auth.0.1 verifier.0.1 auth.1 (auth_each verifier.0.0 [] auth.0.1 verifier.0.1 verifier.0.1 verifier.1 (refl {a = verifier.0.1})) in
    version2_made xid called.0.0.0 called.0.0.1.0 called.0.0.1.1 auth.0.0 verifier.0.0 start verifier.0.1 x
    (record {
      each = (first, at_xid, (second, at_kind, (c, at_version, (t.behind_prog, t.at_prog, (t.behind_vers, t.at_vers, (called.0.1, t.at_proc, each))))));
      auth_within = auth.1.within;
      verifier_within = verifier.1.within;
      bytes = auth.2;
    })
    verifier.4

pub call_take : (c : Cursor) (x : CallHead × Cursor) → IsBytes c.rest → call_at c ≡ Ok x → TakesCall x.0 c x.1
unfolding call_at
call_take c x fits e =
    let xid = number_step c _ x fits e in
    let kind = expect_step CALL xid.0.1 _ x xid.2 xid.3 in
    let vers = number_step kind.0 _ x kind.2 kind.3 in
    let other : CallHead × Cursor = (calls.Other xid.0.0 vers.0.0, vers.0.1) in
    elim (chosen (eqb vers.0.0 RPC_VERSION) (version2_at xid.0.0 vers.0.1) (Ok other) (Ok x) vers.3) [
      | inl two ↦
          let is : vers.0.0 ≡ RPC_VERSION = eqb-true vers.0.0 RPC_VERSION two.0 in
          version2_take xid.0.0 xid.0.1 kind.0 vers.0.1 x c vers.2 xid.1 kind.1 (subst (λ (n : ℕ). Takes kind.0 vers.0.1 (Unsigned n)) is vers.1) two.1
      | inr others ↦
          subst (λ (y : CallHead × Cursor). TakesCall y.0 c y.1) (ok_is other x others.1)
          (eqb-false vers.0.0 RPC_VERSION others.0, (xid.0.1, xid.1, (kind.0, kind.1, (vers.0.1, vers.1, refl))))
    ]

version2_again : (xid prog vers proc : ℕ) (auth verifier : Auth) (c after : Cursor)
    → TakesAll c after (Unsigned prog ∷ (Unsigned vers ∷ (Unsigned proc ∷ auth_items auth (auth_items verifier []))))
    → length auth.body ≤ AUTH_BODY_MAX → length verifier.body ≤ AUTH_BODY_MAX
    → version2_at xid c ≡ Ok (calls.Version2 xid prog vers proc (cred_of auth) after.place, after)
unfolding version2_at
version2_again xid prog vers proc auth verifier c after (d, at_prog, (f, at_vers, (g, at_proc, (h, at_flavor, (i, at_body, (j, at_kind, (k, at_verifier, last))))))) auth_within verifier_within =
    let a : TakesAuth auth g i = record { behind_flavor = h; flavor = at_flavor; body = at_body; within = auth_within } in
    let v : TakesAuth verifier i k = record { behind_flavor = j; flavor = at_kind; body = at_verifier; within = verifier_within } in
    rw (procedure_again prog vers proc c d f g at_prog at_vers at_proc, auth_again auth g i a, auth_again verifier i k v)
    (ap (λ (m : Cursor). Ok (calls.Version2 xid prog vers proc (cred_of auth) m.place, m)) last)

-- a head of version 2 is read if its items are taken
pub version2_found : (xid prog vers proc : ℕ) (auth verifier : Auth) (c after : Cursor) → TakesAll c after (version2_items xid prog vers proc auth verifier)
    → length auth.body ≤ AUTH_BODY_MAX → length verifier.body ≤ AUTH_BODY_MAX
    → call_at c ≡ Ok (calls.Version2 xid prog vers proc (cred_of auth) after.place, after)
unfolding call_at
version2_found xid prog vers proc auth verifier c after (d, at_xid, (f, at_kind, (g, at_version, others))) auth_within verifier_within =
    rw (number_again c xid d at_xid, expect_again CALL d f at_kind, number_again f RPC_VERSION g at_version)
    (version2_again xid prog vers proc auth verifier g after others auth_within verifier_within)

pub call_found : (head : CallHead) (c after : Cursor) → TakesCall head c after → call_at c ≡ Ok (head, after)
unfolding call_at
call_found (calls.Version2 xid prog vers proc cred args_at) c after (auth, verifier, t, reads, at) =
    let is : cred_of auth ≡ cred = cred_again cred auth t.bytes reads in
    version2_found xid prog vers proc auth verifier c after t.each t.auth_within t.verifier_within
    ∙ ap (λ (k : Cred). Ok (calls.Version2 xid prog vers proc k after.place, after)) is
    ∙ ap (λ (p : ℕ). Ok (calls.Version2 xid prog vers proc cred p, after)) (sym at)
call_found (calls.Other xid rpcvers) c after (apart, (d, at_xid, (f, at_kind, (g, at_version, last)))) =
    rw (number_again c xid d at_xid, expect_again CALL d f at_kind, number_again f rpcvers g at_version, ne_eqb rpcvers RPC_VERSION apart)
    (ap (λ (m : Cursor). Ok (calls.Other xid rpcvers, m)) last)

-- what was read, and the cursor after it
pub head_ok : {A : Type 0} (r : Result (A × Cursor) ℕ) (x : A) → head_of r ≡ Ok x → (after : Cursor) × (r ≡ Ok (x, after))
head_ok (Ok y) x e = (y.1, ap (λ (z : _). Ok (z, y.1)) (ok_is y.0 x e))
head_ok (Err at) x e = absurd cc

-- the head that is read stands at the front
pub call_begins : (bytes : List ℕ) (head : CallHead) → IsBytes bytes → call_of bytes ≡ Ok head → BeginsCall head bytes
unfolding call_of
call_begins bytes head fits e =
    let h = head_ok (call_at (standing 0 bytes)) head e in
    stands head h.0 (call_take (standing 0 bytes) (head, h.0) fits h.1)
  where
    stands : (head : CallHead) (after : Cursor) → TakesCall head (standing 0 bytes) after → BeginsCall head bytes
    stands (calls.Version2 xid prog vers proc cred args_at) after (auth, verifier, t, reads, at) =
        let b = each_between (version2_items xid prog vers proc auth verifier) (standing 0 bytes) after t.each in
        let place : args_at ≡ length b.bytes = omega (arith, at, b.place) in
        (b.bytes, after.rest, (auth, verifier, t.auth_within, t.verifier_within, reads, b.reads, place), b.rest)
    stands (calls.Other xid rpcvers) after (apart, each) =
        let b = each_between (other_items xid rpcvers) (standing 0 bytes) after each in
        (b.bytes, after.rest, (apart, b.reads), b.rest)

-- bytes of a credential are bytes
auth_bytes : (xid prog vers proc : ℕ) (auth verifier : Auth) (c after : Cursor) → IsBytes c.rest → TakesAll c after (version2_items xid prog vers proc auth verifier) → IsBytes auth.body
auth_bytes xid prog vers proc auth verifier c after fits (a, ta, (b, tb, (d, td, (f, tf, (g, tg, (h, th, (i, ti, (j, tj, others)))))))) =
    let fa = IsBytes_after c a _ ta fits in
    let fb = IsBytes_after a b _ tb fa in
    let fd = IsBytes_after b d _ td fb in
    let ff = IsBytes_after d f _ tf fd in
    let fg = IsBytes_after f g _ tg ff in
    let fh = IsBytes_after g h _ th fg in
    let fi = IsBytes_after h i _ ti fh in
    IsBytes_opaque i j auth.body tj fi

-- one reading gives one head, and one rest
pub one_answer : {A : Type 0} (a b : A) (c d : Cursor) (read : Result (A × Cursor) ℕ) → read ≡ Ok (a, c) → read ≡ Ok (b, d) → (a ≡ b) × (c.rest ≡ d.rest)
one_answer {A} a b c d read e f =
    let is : ◌≡◌ {A = A × Cursor} (a, c) (b, d) = ok_is {A = A × Cursor} (a, c) (b, d) (sym e ∙ f) in
    (ap (λ (p : A × Cursor). p.0) is, ap (λ (p : A × Cursor). p.1.rest) is)

-- bytes that read as the head are taken as it
reads_call : (head : CallHead) (bytes front behind : List ℕ) → IsBytes bytes → ReadsCall head front → bytes ≡ front ++ behind
    → TakesCall head (standing 0 bytes) (standing (0 + length front) behind)
reads_call (calls.Version2 xid prog vers proc cred args_at) bytes front behind fits (auth, verifier, auth_within, verifier_within, reads, items, place) parts =
    let c = standing 0 bytes in
    let after = standing (0 + length front) behind in
    let each = each_takes (version2_items xid prog vers proc auth verifier) front behind c items parts in
    let t : TakesVersion2 xid prog vers proc auth verifier c after = record {
      each = each;
      auth_within = auth_within;
      verifier_within = verifier_within;
      bytes = auth_bytes xid prog vers proc auth verifier c after fits each;
    } in
    let at : args_at ≡ 0 + length front = omega arith in
    (auth, verifier, t, reads, at)
reads_call (calls.Other xid rpcvers) bytes front behind fits (apart, items) parts =
    (apart, each_takes (other_items xid rpcvers) front behind (standing 0 bytes) items parts)

-- the head that stands at the front is read
pub begins_call : (bytes : List ℕ) (head : CallHead) → IsBytes bytes → BeginsCall head bytes → call_of bytes ≡ Ok head
unfolding call_of
begins_call bytes head fits (front, behind, reads, parts) =
    ap head_of (call_found head (standing 0 bytes) (standing (0 + length front) behind) (reads_call head bytes front behind fits reads parts))

-- two heads at one offset are one
pub one_call : (a b : CallHead) (x y more others : List ℕ) → IsBytes (x ++ more) → ReadsCall a x → ReadsCall b y → x ++ more ≡ y ++ others → (a ≡ b) × (more ≡ others)
one_call a b x y more others fits reads_a reads_b e =
    let c = standing 0 (x ++ more) in
    let first = call_found a c (standing (0 + length x) more) (reads_call a (x ++ more) x more fits reads_a refl) in
    let second = call_found b c (standing (0 + length y) others) (reads_call b (x ++ more) y others fits reads_b e) in
    one_answer a b (standing (0 + length x) more) (standing (0 + length y) others) (call_at c) first second

pub call_is_found : (bytes : List ℕ) (r : Result CallHead HeadFault) → IsBytes bytes → GivesCall r (call_of bytes) → IfOk r (λ head. BeginsCall head bytes)
call_is_found bytes (Ok head) fits given = call_begins bytes head fits given
call_is_found bytes (Err fault) fits given = tt

-- the number that is found is that of a head at the front, and the number of a head at the front is found
pub xid_is_found : (bytes : List ℕ) (o : Option ℕ) → IsBytes bytes → o ≡ xid_of_call (call_of bytes) → IfSome o (λ xid. (head : CallHead) × BeginsCall head bytes × (head_xid head ≡ xid))
xid_is_found bytes o fits e = rw e (by_head (call_of bytes) refl)
  where
    by_head : (r : Result CallHead ℕ) → call_of bytes ≡ r → IfSome (xid_of_call r) (λ xid. (head : CallHead) × BeginsCall head bytes × (head_xid head ≡ xid))
    by_head (Ok head) is = (head, call_begins bytes head fits is, refl)
    by_head (Err at) is = tt

pub xid_again : (bytes : List ℕ) (head : CallHead) → IsBytes bytes → BeginsCall head bytes → xid_of_call (call_of bytes) ≡ Some (head_xid head)
xid_again bytes head fits begins = ap xid_of_call (begins_call bytes head fits begins)

-- what is written of a head is read again
pub call_written : (head : CallHead) (args : List ℕ) → CanWriteCall head → CallFits head → call_of (call_encoding head args) ≡ Ok (call_again head)
unfolding call_of
call_written (calls.Version2 xid prog vers proc cred args_at) args can fits =
    let auth = auth_of cred in
    let items = version2_items xid prog vers proc auth no_verifier in
    let bytes = encodings items ++ args in
    let auth_fits = auth_of_fits cred can fits.4 in
    let each = each_takes items (encodings items) args (standing 0 bytes) (encodings_read items (fits.0, (omega arith, (omega arith, (fits.1, (fits.2, (fits.3, (auth_fits.0, (omega arith, (omega arith, (omega arith, tt))))))))))) refl in
    let place : 0 + length (encodings items) ≡ length (encodings items) = omega arith in
    ap head_of (version2_found xid prog vers proc auth no_verifier (standing 0 bytes) (standing (0 + length (encodings items)) args) each auth_fits.1 (omega arith))
    ∙ ap (λ (k : Cred). Ok (calls.Version2 xid prog vers proc k (0 + length (encodings items)))) (cred_written cred can fits.4)
    ∙ ap (λ (p : ℕ). Ok (calls.Version2 xid prog vers proc cred p)) place
call_written (calls.Other xid rpcvers) args can fits =
    let items = other_items xid rpcvers in
    let bytes = encodings items ++ args in
    let each = each_takes items (encodings items) args (standing 0 bytes) (encodings_read items (fits.0, (omega arith, (fits.1, tt)))) refl in
    ap head_of (call_found (calls.Other xid rpcvers) (standing 0 bytes) (standing (0 + length (encodings items)) args) (can, each))
