-- A credential is read if and only if it is encoded.
use Rattle.std.proofs.Common.{◌≡◌, ◌≢◌, ℕ, ◌+◌, ◌*◌, ◌^◌, ◌<◌, ◌≤◌, false, cond, eqb, ltb, List, [], ◌∷◌, ◌++◌, length, map, replicate, Option, Some, None, Result, Ok, Err, refl, sym, ap, subst, ◌∙◌, arith, inl, inr, ◌⊎◌}
use Rattle.std.specs.Prelude.{unwrap_or}
use Rattle.std.proofs.lemmas.Bool.{ltb-false, le-ltb, eqb-true, eqb-false, ne_eqb}
use Rattle.std.proofs.lemmas.Bool.Decides.{eqb_tells}
use Rattle.std.proofs.lemmas.List.{append-nil, nil_from_length, length-append, length-replicate}
use Rattle.nr_xdr.specs.Item.{IsBytes, word, encoding, pad_len}
use Rattle.nr_xdr.specs.Item.Item.{Unsigned, Opaque}
use Rattle.nr_xdr.specs.Items.{ReadsAll, encodings, TakesAll}
use Rattle.nr_xdr.specs.Reading.{Cursor, Takes, unsigned_at}
use Rattle.nr_xdr.proofs.Chains.{standing, each_takes, each_between, encodings_read}
use Rattle.nr_xdr.proofs.WordBytes.{length_word}
use Rattle.nr_rpc.specs.Constants.{AUTH_BODY_MAX, MACHINE_MAX, GIDS_MAX, AUTH_NONE, AUTH_SYS}
use Rattle.nr_rpc.specs.declared.cred.Cred.{Cred}
use Rattle.nr_rpc.specs.declared.cred.Cred.TheVariants as creds
use Rattle.nr_rpc.specs.Credential.{Auth, auth_of, sys_items, ReadsSys, ReadsCred, CanWriteCred, CredFits}
use Rattle.nr_rpc.specs.Reading.{numbers_at, gids_at, user_at, sys_at, whole_value, cred_of}
use Rattle.nr_xdr.proofs.SequencingSteps.{bind_ok, chosen, done, ok_is, number_step, number_again, opaque_step, opaque_placed}
use Rattle.nr_rpc.proofs.HeadSteps.{pair_step, pair_again}
use Rattle.nr_rpc.proofs.Loop.{numbers_take, numbers_again}

-- further groups that were read
record TakesGids (gids : List ℕ) (c after : Cursor) : Type 0 where
  behind_count : Cursor
  count : Takes c behind_count (Unsigned (length gids))
  each : TakesAll behind_count after (map Unsigned gids)
  within : length gids ≤ GIDS_MAX

gids_take : (c : Cursor) (x : List ℕ × Cursor) → IsBytes c.rest → gids_at c ≡ Ok x → TakesGids x.0 c x.1
unfolding gids_at
gids_take c x fits e =
    let count = number_step c (λ count. cond (ltb GIDS_MAX count.0) (Err c.place) (numbers_at count.0 count.1)) x fits e in
    elim (chosen (ltb GIDS_MAX count.0.0) (Err c.place) (numbers_at count.0.0 count.0.1) (Ok x) count.3) [
      | inl way ↦ absurd (let wrong : Err c.place ≡ Ok x = way.1 in cc)
      | inr way ↦
          let each = numbers_take count.0.0 count.0.1 x count.2 way.1 in
          record {
            behind_count = count.0.1;
            count = subst (λ (n : ℕ). Takes c count.0.1 (Unsigned n)) (sym each.1) count.1;
            each = each.0;
            within = omega (arith, ltb-false GIDS_MAX count.0.0 way.0, each.1);
          }
    ]

gids_again : (gids : List ℕ) (c after : Cursor) → TakesGids gids c after → gids_at c ≡ Ok (gids, after)
unfolding gids_at
gids_again gids c after t = rw (number_again c (length gids) t.behind_count t.count, le-ltb GIDS_MAX (length gids) t.within) (numbers_again gids t.behind_count after t.each)

-- a user, its group and further groups that were read
record TakesUser (uid gid : ℕ) (gids : List ℕ) (c after : Cursor) : Type 0 where
  behind_uid : Cursor
  at_uid : Takes c behind_uid (Unsigned uid)
  behind_gid : Cursor
  at_gid : Takes behind_uid behind_gid (Unsigned gid)
  group : TakesGids gids behind_gid after

user_take : (c : Cursor) (x : ((ℕ × ℕ) × List ℕ) × Cursor) → IsBytes c.rest → user_at c ≡ Ok x → TakesUser x.0.0.0 x.0.0.1 x.0.1 c x.1
unfolding user_at
user_take c x fits e =
    let ids = pair_step c _ x fits e in
    let gids = bind_ok (gids_at ids.0.1) _ x ids.3 in
    let made : ((ℕ × ℕ) × List ℕ) × Cursor = ((ids.0.0, gids.0.0), gids.0.1) in
    subst (λ (y : ((ℕ × ℕ) × List ℕ) × Cursor). TakesUser y.0.0.0 y.0.0.1 y.0.1 c y.1) (ok_is made x gids.2)
    (record { behind_uid = ids.1.behind_first; at_uid = ids.1.at_first; behind_gid = ids.0.1; at_gid = ids.1.at_second; group = gids_take ids.0.1 gids.0 ids.2 gids.1 })

user_again : (uid gid : ℕ) (gids : List ℕ) (c d f after : Cursor) → Takes c d (Unsigned uid) → Takes d f (Unsigned gid) → TakesGids gids f after → user_at c ≡ Ok (((uid, gid), gids), after)
unfolding user_at
user_again uid gid gids c d f after at_uid at_gid group = rw (pair_again uid gid c d f at_uid at_gid, gids_again gids f after group) refl

-- the body of AUTH_SYS that was read
pub record TakesSys (stamp : ℕ) (machine : List ℕ) (uid gid : ℕ) (gids : List ℕ) (c after : Cursor) : Type 0 where
  pub each : TakesAll c after (sys_items stamp machine uid gid gids)
  pub machine_within : length machine ≤ MACHINE_MAX
  pub gids_within : length gids ≤ GIDS_MAX

-- what was read is a credential of AUTH_SYS with these parts
record IsSysAt (c : Cursor) (x : Cred × Cursor) : Type 0 where
  stamp : ℕ
  machine : List ℕ
  uid : ℕ
  gid : ℕ
  gids : List ℕ
  is : x.0 ≡ creds.Sys stamp machine uid gid gids
  taken : TakesSys stamp machine uid gid gids c x.1

sys_made : (stamp : ℕ) (machine : List ℕ) (uid gid : ℕ) (gids : List ℕ) (c after : Cursor) (x : Cred × Cursor) → TakesSys stamp machine uid gid gids c after
    → done {A = Cred × Cursor} (creds.Sys stamp machine uid gid gids, after) ≡ done x → IsSysAt c x
sys_made stamp machine uid gid gids c after x t e =
    let made : Cred × Cursor = (creds.Sys stamp machine uid gid gids, after) in
    subst (λ (y : Cred × Cursor). IsSysAt c y) (ok_is made x e) (record { stamp = stamp; machine = machine; uid = uid; gid = gid; gids = gids; is = refl; taken = t })

sys_take : (c : Cursor) (x : Cred × Cursor) → IsBytes c.rest → sys_at c ≡ Ok x → IsSysAt c x
unfolding sys_at
sys_take c x fits e =
    let stamp = number_step c _ x fits e in
    let machine = opaque_step MACHINE_MAX stamp.0.1 _ x stamp.2 stamp.3 in
    let user = bind_ok (user_at machine.0.1) _ x machine.4 in
    let u = user_take machine.0.1 user.0 machine.3 user.1 in
    sys_made stamp.0.0 machine.0.0 user.0.0.0.0 user.0.0.0.1 user.0.0.1 c user.0.1 x
    (record {
      each = (stamp.0.1, stamp.1, (machine.0.1, machine.1, (u.behind_uid, u.at_uid, (u.behind_gid, u.at_gid, (u.group.behind_count, u.group.count, u.group.each)))));
      machine_within = machine.2;
      gids_within = u.group.within;
    })
    user.2

sys_again : (stamp : ℕ) (machine : List ℕ) (uid gid : ℕ) (gids : List ℕ) (c after : Cursor) → TakesSys stamp machine uid gid gids c after
    → sys_at c ≡ Ok (creds.Sys stamp machine uid gid gids, after)
unfolding sys_at
sys_again stamp machine uid gid gids c after t =
    let (a, at_stamp, (b, at_machine, (d, at_uid, (f, at_gid, (g, at_count, at_gids))))) = t.each in
    let group : TakesGids gids f after = record { behind_count = g; count = at_count; each = at_gids; within = t.gids_within } in
    rw (number_again c stamp a at_stamp, opaque_placed MACHINE_MAX a machine b t.machine_within at_machine, user_again uid gid gids b d f after at_uid at_gid group) refl

-- a body reads as AUTH_SYS if and only if it is taken so to its end
taken_reads : (stamp : ℕ) (machine : List ℕ) (uid gid : ℕ) (gids body : List ℕ) (after : Cursor) → TakesSys stamp machine uid gid gids (standing 0 body) after → after.rest ≡ []
    → ReadsSys stamp machine uid gid gids body
taken_reads stamp machine uid gid gids body after t none =
    let items = sys_items stamp machine uid gid gids in
    let between = each_between items (standing 0 body) after t.each in
    let all : body ≡ between.bytes = between.rest ∙ ap (λ (r : List ℕ). between.bytes ++ r) none ∙ append-nil between.bytes in
    record { items = subst (λ (b : List ℕ). ReadsAll items b) (sym all) between.reads; machine_within = t.machine_within; gids_within = t.gids_within }

reads_taken : (stamp : ℕ) (machine : List ℕ) (uid gid : ℕ) (gids body : List ℕ) → ReadsSys stamp machine uid gid gids body
    → TakesSys stamp machine uid gid gids (standing 0 body) (standing (0 + length body) [])
reads_taken stamp machine uid gid gids body r = record {
  each = each_takes (sys_items stamp machine uid gid gids) body [] (standing 0 body) r.items (sym (append-nil body));
  machine_within = r.machine_within;
  gids_within = r.gids_within;
}

abbrev some : {A : Type 0} → A → Option A
some x = Some x

some_is : {A : Type 0} (x y : A) → some x ≡ some y → x ≡ y
some_is x y e = cc

-- what was read with nothing after it
whole_value_some : {A : Type 0} (r : Result (A × Cursor) ℕ) (x : A) → whole_value r ≡ Some x → (after : Cursor) × (r ≡ Ok (x, after)) × (after.rest ≡ [])
whole_value_some (Ok y) x e =
    elim (chosen (eqb (length y.1.rest) 0) (Some y.0) None (some x) e) [
      | inl way ↦ (y.1, ap (λ (z : _). Ok (z, y.1)) (some_is y.0 x way.1), nil_from_length y.1.rest (eqb-true (length y.1.rest) 0 way.0))
      | inr way ↦ absurd (let wrong : None ≡ some x = way.1 in cc)
    ]
whole_value_some (Err at) x e = absurd cc

-- the parts of a credential whose body reads as AUTH_SYS
record IsSysBody (cred : Cred) (body : List ℕ) : Type 0 where
  stamp : ℕ
  machine : List ℕ
  uid : ℕ
  gid : ℕ
  gids : List ℕ
  is : cred ≡ creds.Sys stamp machine uid gid gids
  reads : ReadsSys stamp machine uid gid gids body

body_takes : (body : List ℕ) (cred : Cred) → IsBytes body → whole_value (sys_at (standing 0 body)) ≡ Some cred → IsSysBody cred body
body_takes body cred fits e =
    let w = whole_value_some (sys_at (standing 0 body)) cred e in
    let s = sys_take (standing 0 body) (cred, w.0) fits w.1 in record {
      stamp = s.stamp;
      machine = s.machine;
      uid = s.uid;
      gid = s.gid;
      gids = s.gids;
      is = s.is;
      reads = taken_reads s.stamp s.machine s.uid s.gid s.gids body w.0 s.taken w.2;
    }

body_again : (stamp : ℕ) (machine : List ℕ) (uid gid : ℕ) (gids body : List ℕ) → ReadsSys stamp machine uid gid gids body
    → whole_value (sys_at (standing 0 body)) ≡ Some (creds.Sys stamp machine uid gid gids)
body_again stamp machine uid gid gids body r =
    ap whole_value (sys_again stamp machine uid gid gids (standing 0 body) (standing (0 + length body) []) (reads_taken stamp machine uid gid gids body r))

-- a value, or a default instead of it
unwrapped : {A : Type 0} (o : Option A) (d x : A) → unwrap_or o d ≡ x → (o ≡ Some x) ⊎ ((o ≡ None) × (d ≡ x))
unwrapped (Some y) d x e = inl (ap Some e)
unwrapped None d x e = inr (refl, e)

-- the credential that is read is the one that the flavor and the body are
pub cred_takes : (auth : Auth) (cred : Cred) → IsBytes auth.body → cred_of auth ≡ cred → ReadsCred cred auth
unfolding cred_of
cred_takes auth cred fits e =
    let other = creds.Other auth.flavor in
    let sys = whole_value (sys_at (standing 0 auth.body)) in
    elim (chosen (eqb auth.flavor AUTH_NONE) creds.None (cond (eqb auth.flavor AUTH_SYS) (unwrap_or sys other) other) cred e) [
      | inl none ↦ subst (λ (c : Cred). ReadsCred c auth) none.1 (eqb-true auth.flavor AUTH_NONE none.0)
      | inr named ↦
          let apart : auth.flavor ≢ AUTH_NONE = eqb-false auth.flavor AUTH_NONE named.0 in
          elim (chosen (eqb auth.flavor AUTH_SYS) (unwrap_or sys other) other cred named.1) [
            | inl is_sys ↦
                let flavor : auth.flavor ≡ AUTH_SYS = eqb-true auth.flavor AUTH_SYS is_sys.0 in
                elim (unwrapped sys other cred is_sys.1) [
                  | inl found ↦
                      let s = body_takes auth.body cred fits found in
                      subst (λ (c : Cred). ReadsCred c auth) (sym s.is) (flavor, s.reads)
                  | inr nothing ↦
                      subst (λ (c : Cred). ReadsCred c auth) nothing.1
                      (refl, apart, λ _ stamp machine uid gid gids reads. let wrong : None ≡ some (creds.Sys stamp machine uid gid gids) = sym nothing.0 ∙ body_again stamp machine uid gid gids auth.body reads in cc)
                ]
            | inr is_other ↦
                subst (λ (c : Cred). ReadsCred c auth) is_other.1
                (refl, apart, λ is_sys stamp machine uid gid gids reads. absurd (eqb-false auth.flavor AUTH_SYS is_other.0 is_sys))
          ]
    ]

no_value : {A : Type 0} (o : Option A) → ((x : A) → o ≡ Some x → ⊥) → o ≡ None
no_value (Some x) none = absurd (none x refl)
no_value None none = refl

-- what a flavor and a body are is read of them
pub cred_again : (cred : Cred) (auth : Auth) → IsBytes auth.body → ReadsCred cred auth → cred_of auth ≡ cred
unfolding cred_of
cred_again creds.None auth fits reads = rw reads refl
cred_again (creds.Sys stamp machine uid gid gids) auth fits reads =
    rw (reads.0, body_again stamp machine uid gid gids auth.body reads.1) refl
cred_again (creds.Other flavor) auth fits (is, apart, not_sys) =
    let named : eqb flavor AUTH_NONE ≡ false = ne_eqb flavor AUTH_NONE apart in
    elim (eqb_tells flavor AUTH_SYS) [
      | inl sys ↦
          let nothing : whole_value (sys_at (standing 0 auth.body)) ≡ None =
          no_value (whole_value (sys_at (standing 0 auth.body)))
          (λ x e. let s = body_takes auth.body x fits e in not_sys sys.1 s.stamp s.machine s.uid s.gid s.gids s.reads) in
          rw (is, named, sys.0, nothing) refl
      | inr other ↦ rw (is, named, other.0) refl
    ]

-- the length of numbers, and of the body of AUTH_SYS
pub length_numbers : (ns : List ℕ) → length (encodings (map Unsigned ns)) ≡ 4 * length ns
length_numbers [] = refl
length_numbers (n ∷ ns) = omega (arith, length-append (word n) (encodings (map Unsigned ns)), length_word n, length_numbers ns)

opaque_len : List ℕ → ℕ
opaque_len bytes = 4 + (length bytes + pad_len (length bytes))

length_opaque : (bytes : List ℕ) → length (encoding (Opaque bytes)) ≡ opaque_len bytes
unfolding opaque_len
length_opaque bytes =
    let pad : List ℕ = replicate (pad_len (length bytes)) 0 in
    omega (arith, length-append (word (length bytes)) (bytes ++ pad), length-append bytes pad, length_word (length bytes), length-replicate {A = ℕ} (pad_len (length bytes)) 0)

pad_len_below : (n : ℕ) → pad_len n < 4
unfolding pad_len
pad_len_below n = omega arith

pub length_sys : (stamp : ℕ) (machine : List ℕ) (uid gid : ℕ) (gids : List ℕ) → length machine ≤ MACHINE_MAX → length gids ≤ GIDS_MAX
    → length (encodings (sys_items stamp machine uid gid gids)) ≤ AUTH_BODY_MAX
unfolding opaque_len
length_sys stamp machine uid gid gids machine_within gids_within =
    let last = word (length gids) ++ encodings (map Unsigned gids) in
    let group = word gid ++ last in
    let user = word uid ++ group in
    let name = encoding (Opaque machine) ++ user in
    omega (arith, length-append (word stamp) name, length_word stamp, length-append (encoding (Opaque machine)) user, length_opaque machine, pad_len_below (length machine), length-append (word uid) group, length_word uid, length-append (word gid) last, length_word gid, length-append (word (length gids)) (encodings (map Unsigned gids)), length_word (length gids), length_numbers gids)

-- the credential that is written fits its items, and its body's limit
pub auth_of_fits : (cred : Cred) → CanWriteCred cred → CredFits cred → ((auth_of cred).flavor < 2 ^ 32) × (length (auth_of cred).body ≤ AUTH_BODY_MAX)
auth_of_fits creds.None can fits = (omega arith, omega arith)
auth_of_fits (creds.Sys stamp machine uid gid gids) can fits = (omega arith, length_sys stamp machine uid gid gids can.0 can.1)
auth_of_fits (creds.Other flavor) can fits = (fits, omega arith)

nothing_reads : whole_value (sys_at (standing 0 [])) ≡ None
unfolding sys_at unsigned_at
nothing_reads = refl

-- the credential that is written is read again
pub cred_written : (cred : Cred) → CanWriteCred cred → CredFits cred → cred_of (auth_of cred) ≡ cred
unfolding cred_of
cred_written creds.None can fits = refl
cred_written (creds.Sys stamp machine uid gid gids) can fits =
    let items = sys_items stamp machine uid gid gids in
    let r : ReadsSys stamp machine uid gid gids (encodings items) = record { items = encodings_read items fits; machine_within = can.0; gids_within = can.1 } in
    rw (body_again stamp machine uid gid gids (encodings items) r) refl
cred_written (creds.Other flavor) can fits =
    let named : eqb flavor AUTH_NONE ≡ false = ne_eqb flavor AUTH_NONE can in
    elim (eqb_tells flavor AUTH_SYS) [
      | inl sys ↦ rw (named, sys.0, nothing_reads) refl
      | inr other ↦ rw (named, other.0) refl
    ]
