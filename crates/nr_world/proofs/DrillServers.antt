-- What the plain server of a drill makes of a call, as a run says it.
use Rattle.std.specs.Prelude.{◌==◌, get_or, All}
use Rattle.std.proofs.Common.{◌≡◌, ℕ, ◌+◌, ◌<◌, ◌≤◌, arith, ltb, Bool, true, false, cond, List, [], ◌∷◌, ◌++◌, length, map, ◌⊎◌, inl, inr, refl, sym, ap, subst, ◌∙◌, append-nil, length-append, ltb-true}
use Rattle.std.proofs.lemmas.Bool.{ltb-false}
use Rattle.std.proofs.lemmas.List.{length-map, map-append}
use Rattle.nr_xdr.specs.Item.{IsBytes}
use Rattle.nr_outside.specs.declared.moment.Moment.{Moment}
use Rattle.nr_reduce.specs.declared.mark.Entry.{Entry}
use Rattle.nr_reduce.specs.declared.mark.TaggedEntry.{TaggedEntry}
use Rattle.nr_reduce.specs.NumberedJournal.{Standing, IsExecutedBy, IsOld, IsReplyOf, added_by, entries_alone, standing_for, tagged}
use Rattle.nr_reduce.specs.NumberedJournal.Standing.{Old, Kept, New}
use Rattle.nr_plain.specs.Setup.{Setup}
use Rattle.nr_plain.specs.Added.{entries_of_call}
use Rattle.nr_plain.specs.History.{AddsOne, entries_added, xid_in}
use Rattle.nr_plain.specs.Numbered.{AnsweredAsRun, AnswersFor, HasCall, IsNumberedCause, LeavesServer, RepresentsTagged, added_for}
use Rattle.nr_plain.specs.ReplyLaws.{plain_server}
use Rattle.nr_plain.specs.ReplySizes.{any_reply_max}
use Rattle.nr_plain.specs.Stands.{PlainServerState, RepresentsJournal}
use Rattle.nr_plain.specs.declared.fault.Fault.{Fault}
use Rattle.nr_plain.specs.declared.fault.Fault.TheVariants as faults
use Rattle.nr_plain.proofs.EntryCalls.{moment_is}
use Rattle.nr_plain.proofs.OneEntry.{few}
use Rattle.nr_plain.proofs.TurnAnswers.{answered_as_run, old_calls}
use Rattle.nr_world.specs.DrillServers.{DrillServerState, ExecutesCall, ExecutesFor, FindsOld, StandsForEntries, at_second, seconds_if}

abbrev moment_of : TaggedEntry → Moment
moment_of t = t.entry.moment

-- ---- When an entry was made

second_there : (earlier : List TaggedEntry) (own : TaggedEntry) (later : List TaggedEntry) (seconds : List ℕ) (now : ℕ) → map moment_of (earlier ++ own ∷ later) ≡ map at_second seconds →
    own.entry.moment ≡ at_second (get_or seconds (length earlier) now)
second_there [] own later [] now e = absurd cc
second_there [] own later (n ∷ seconds) now e = cc
second_there (t ∷ earlier) own later [] now e = absurd cc
second_there (t ∷ earlier) own later (n ∷ seconds) now e = second_there earlier own later seconds now cc

none_there : (T : List TaggedEntry) (seconds : List ℕ) (now : ℕ) → map moment_of T ≡ map at_second seconds → get_or seconds (length T) now ≡ now
none_there [] [] now e = refl
none_there [] (n ∷ seconds) now e = absurd cc
none_there (t ∷ T) [] now e = absurd cc
none_there (t ∷ T) (n ∷ seconds) now e = none_there T seconds now cc

-- a kept call has the moment of its entry, a new one this second
executed_at : (setup : Setup) (T : List TaggedEntry) (k : Standing) (seconds : List ℕ) (now : ℕ) (moment : Moment) (payload : List ℕ) (place : ℕ) (reply : List ℕ) → map moment_of T ≡ map at_second seconds →
    IsExecutedBy (plain_server setup) T k moment payload place reply → (k ≡ New → moment ≡ at_second now) → moment ≡ at_second (get_or seconds place now)
executed_at setup T (Old top) seconds now moment payload place reply same h new = absurd h
executed_at setup T (Kept at) seconds now moment payload place reply same h new =
    let own : IsReplyOf (plain_server setup) T place moment reply = h.1 in
    own.moment_is ∙ second_there own.earlier own.own own.later seconds now (ap (λ (es : List TaggedEntry). map moment_of es) (sym own.is_cut) ∙ same)
    ∙ ap (λ (n : ℕ). at_second (get_or seconds n now)) (sym own.is_place)
executed_at setup T New seconds now moment payload place reply same h new =
    new refl ∙ ap at_second (sym (ap (λ (n : ℕ). get_or seconds n now) h.0 ∙ none_there T seconds now same))

second_is_now : (setup : Setup) (T : List TaggedEntry) (k : Standing) (seconds : List ℕ) (now : ℕ) (moment : Moment) (payload : List ℕ) (place : ℕ) (reply : List ℕ) → map moment_of T ≡ map at_second seconds →
    IsExecutedBy (plain_server setup) T k moment payload place reply → k ≡ New → get_or seconds place now ≡ now
second_is_now setup T (Old top) seconds now moment payload place reply same h new = absurd h
second_is_now setup T (Kept at) seconds now moment payload place reply same h new = absurd cc
second_is_now setup T New seconds now moment payload place reply same h new = ap (λ (n : ℕ). get_or seconds n now) h.0 ∙ none_there T seconds now same

-- ---- What a call adds

abbrev IsFew : ℕ → List TaggedEntry → Type 0
IsFew now es = (es ≡ []) ⊎ ((t : TaggedEntry) × (es ≡ t ∷ []) × (t.entry.moment ≡ at_second now))

tagged_entry : (client xid : ℕ) (e : Entry) (b : Bool) → (cond {A = TaggedEntry} b (record { entry = e; client = 0; xid = 0 }) (record { entry = e; client = client; xid = xid })).entry ≡ e
tagged_entry client xid e true = refl
tagged_entry client xid e false = refl

few_added : (client now : ℕ) (payload reply : List ℕ) (k : Standing) → IsFew now (added_by k (entries_added client (at_second now) payload reply))
few_added client now payload reply (Old top) = inl refl
few_added client now payload reply (Kept place) = inl refl
few_added client now payload reply New = by (few (at_second now) payload reply)
  where
    x : ℕ
    x = xid_in payload

    by : (entries_of_call (at_second now) payload reply ≡ []) ⊎ AddsOne (at_second now) payload reply → IsFew now (entries_added client (at_second now) payload reply)
    by (inl none) = inl (ap (λ (es : List Entry). map (tagged client x) es) none)
    by (inr (e, one)) =
        inr (
          tagged client x e,
          ap (λ (es : List Entry). map (tagged client x) es) one,
          ap (λ (a : Entry). a.moment) (tagged_entry client x e (client == 0)) ∙ moment_is (at_second now) payload reply e one,
        )

-- ---- The seconds of the entries, once the journal grew

alone_length : (T : List TaggedEntry) → length (entries_alone T) ≡ length T
alone_length T = length-map T (λ (t : TaggedEntry). t.entry)

not_less : (n : ℕ) → ltb n n ≡ false
not_less n = by (ltb n n) refl
  where
    by : (b : Bool) → ltb n n ≡ b → b ≡ false
    by true is = absurd (let lt = ltb-true n n is in omega (arith, lt))
    by false is = refl

less_one : (n m : ℕ) → m ≡ n + 1 → ltb n m ≡ true
less_one n m is = by (ltb n m) refl
  where
    by : (b : Bool) → ltb n m ≡ b → b ≡ true
    by true e = refl
    by false e = absurd (let no = ltb-false n m e in omega (arith, no, is))

grown : (T added : List TaggedEntry) (now : ℕ) (seconds : List ℕ) → IsFew now added → map moment_of T ≡ map at_second seconds →
    map moment_of (T ++ added) ≡ map at_second (seconds ++ seconds_if (ltb (length (entries_alone T)) (length (entries_alone (T ++ added)))) now)
grown T added now seconds (inl none) same =
    let all : T ++ added ≡ T = ap (λ (es : List TaggedEntry). T ++ es) none ∙ append-nil T in
    let off : ltb (length (entries_alone T)) (length (entries_alone (T ++ added))) ≡ false =
    ap (λ (es : List TaggedEntry). ltb (length (entries_alone T)) (length (entries_alone es))) all ∙ not_less (length (entries_alone T)) in
    ap (λ (es : List TaggedEntry). map moment_of es) all ∙ same
    ∙ sym (ap (λ (b : Bool). map at_second (seconds ++ seconds_if b now)) off ∙ ap (λ (ns : List ℕ). map at_second ns) (append-nil seconds))
grown T added now seconds (inr (t, one, moment)) same =
    let count : length (entries_alone (T ++ added)) ≡ length (entries_alone T) + 1 =
    (let a = alone_length (T ++ added) in let b = alone_length T in let c = length-append T added in let e = ap (λ (es : List TaggedEntry). length es) one in omega (arith, a, b, c, e)) in
    let on : ltb (length (entries_alone T)) (length (entries_alone (T ++ added))) ≡ true = less_one (length (entries_alone T)) (length (entries_alone (T ++ added))) count in
    map-append moment_of T added
    ∙ (λ i. same i ++ map moment_of (one i))
    ∙ ap (λ (m : Moment). map at_second seconds ++ m ∷ []) moment
    ∙ sym (ap (λ (b : Bool). map at_second (seconds ++ seconds_if b now)) on ∙ map-append at_second seconds (now ∷ []))

-- ---- The call

pub executed_call : (setup : Setup) (T : List TaggedEntry) (client now : ℕ) (payload reply : List ℕ) (place start : ℕ) (before after : DrillServerState) → StandsForEntries setup T before → IsBytes payload →
    AnswersFor setup T client (at_second now) payload reply place before.server after.server → start ≡ length (entries_alone T) →
    after.seconds ≡ before.seconds ++ seconds_if (ltb start (length (entries_alone (T ++ added_for setup T (record { client = client; moment = at_second now; payload = payload; reply = reply }))))) now →
    ExecutesFor setup T client now payload (record { second = get_or before.seconds place now; place = place; reply = reply }) after
executed_call setup T client now payload reply place start before after h bytes answers begins more =
    let k : Standing = standing_for T client (xid_in payload) in
    let own : List TaggedEntry = added_for setup T (record { client = client; moment = at_second now; payload = payload; reply = reply }) in
    let added : List TaggedEntry = added_by k (entries_added client (at_second now) payload reply) in
    let r : AnsweredAsRun setup T client (at_second now) payload reply place = answered_as_run setup T client (at_second now) payload reply place before.server after.server h.calls bytes answers in
    let at : r.moment ≡ at_second (get_or before.seconds place now) = executed_at setup T k before.seconds now r.moment payload place reply h.moments r.executed r.moment_is in
    let seconds : after.seconds ≡ before.seconds ++ seconds_if (ltb (length (entries_alone T)) (length (entries_alone (T ++ added)))) now =
    more ∙ (λ i. before.seconds ++ seconds_if (ltb (begins i) (length (entries_alone (T ++ r.added i)))) now) in
    record {
      executed = subst (λ (m : Moment). IsExecutedBy (plain_server setup) T k m payload place reply) at r.executed;
      moment_is = second_is_now setup T k before.seconds now r.moment payload place reply h.moments r.executed;
      stands = record {
        represents = subst (λ (es : List TaggedEntry). RepresentsTagged setup (T ++ es) after.server) r.added answers.stands;
        calls = subst (λ (es : List TaggedEntry). All HasCall (T ++ es)) r.added r.have_calls;
        moments = grown T added now before.seconds (few_added client now payload reply k) h.moments ∙ ap (λ (ns : List ℕ). map at_second ns) (sym seconds);
      };
    }

-- ---- For the code

-- the second of an entry is noted, if the journal grew
pub none_noted : (before now len : ℕ) (seconds : List ℕ) → len ≤ before → seconds ≡ seconds ++ seconds_if (ltb before len) now
none_noted before now len seconds le = by (ltb before len) refl
  where
    by : (b : Bool) → ltb before len ≡ b → seconds ≡ seconds ++ seconds_if b now
    by true is = absurd (let lt = ltb-true before len is in omega (arith, lt, le))
    by false is = sym (append-nil seconds)

pub one_noted : (before now len : ℕ) (seconds : List ℕ) → before < len → seconds ++ now ∷ [] ≡ seconds ++ seconds_if (ltb before len) now
one_noted before now len seconds lt = by (ltb before len) refl
  where
    by : (b : Bool) → ltb before len ≡ b → seconds ++ now ∷ [] ≡ seconds ++ seconds_if b now
    by true is = refl
    by false is = absurd (let no = ltb-false before len is in omega (arith, no, lt))

pub old_found : (client top : ℕ) (payload : List ℕ) (before after : PlainServerState) (seconds : List ℕ) (old : DrillServerState) (f : Fault) → record { server = before; seconds = seconds } ≡ old → f ≡ faults.Old top → LeavesServer f before after →
    ((setup : Setup) (T : List TaggedEntry) → RepresentsTagged setup T before → IsNumberedCause setup T client payload f) → FindsOld client payload old (record { server = after; seconds = seconds })
old_found client top payload before after seconds old f view is leaves cause =
    let same : after ≡ before = subst (λ (x : Fault). LeavesServer x before after) is leaves in (
      ap (λ (kept : PlainServerState). record { server = kept; seconds = seconds }) same ∙ view,
      λ setup T h.
          (let represents : RepresentsTagged setup T before = subst (λ (kept : DrillServerState). RepresentsTagged setup T kept.server) (sym view) h.represents in
          let found = subst (λ (x : Fault). IsNumberedCause setup T client payload x) is (cause setup T represents) in
          subst (λ (k : Standing). IsOld k) (sym (old_calls setup T client (xid_in payload) top found.1)) tt),
    )

-- the seconds after the call: those of before, and one more, if the journal grew from `start`
abbrev pub Notes : (start now : ℕ) → (seconds : List ℕ) → PlainServerState → DrillServerState → Type 0
Notes start now seconds after new =
    (new.server ≡ after) × ((setup : Setup) (J : List Entry) → RepresentsJournal setup J after → new.seconds ≡ seconds ++ seconds_if (ltb start (length J)) now)

pub executes_code : (client now : ℕ) (payload reply : List ℕ) (place start second : ℕ) (before after : PlainServerState) (seconds : List ℕ) (old new : DrillServerState) → record { server = before; seconds = seconds } ≡ old →
    IsBytes payload → IsBytes reply → length reply ≤ any_reply_max →
    ((setup : Setup) (T : List TaggedEntry) → RepresentsTagged setup T before → AnswersFor setup T client (at_second now) payload reply place before after) →
    ((setup : Setup) (J : List Entry) → RepresentsJournal setup J before → start ≡ length J) → second ≡ get_or seconds place now → Notes start now seconds after new →
    ExecutesCall client now payload (record { second = second; place = place; reply = reply }) old new
executes_code client now payload reply place start second before after seconds old new view bytes reply_bytes short answers count at notes =
    subst (λ (kept : DrillServerState). ExecutesCall client now payload (record { second = second; place = place; reply = reply }) kept new) view
    (subst (λ (n : ℕ). ExecutesCall client now payload (record { second = n; place = place; reply = reply }) (record { server = before; seconds = seconds }) new) (sym at) (
      reply_bytes,
      short,
      λ setup T h.
          (let a : AnswersFor setup T client (at_second now) payload reply place before after = answers setup T h.represents in
          let own : List TaggedEntry = added_for setup T (record { client = client; moment = at_second now; payload = payload; reply = reply }) in
          executed_call setup T client now payload reply place start (record { server = before; seconds = seconds }) new h bytes
          (subst (λ (kept : PlainServerState). AnswersFor setup T client (at_second now) payload reply place before kept) (sym notes.0) a) (count setup (entries_alone T) h.represents.journal)
          (notes.1 setup (entries_alone (T ++ own)) a.stands.journal)),
    ))
