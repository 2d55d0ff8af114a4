-- The entry of a call that is kept: it was added by an Execute of the same call, and its place has the reply of that one.
use Rattle.std.proofs.Common.{◌≡◌, ◌≢◌, ℕ, ◌<◌, Bool, true, false, cond, eqb, List, [], ◌∷◌, ◌++◌, length, map, Option, None, Some, refl, sym, ap, subst, ◌∙◌, arith, append_assoc, ◌⊎◌, inl, inr}
use Rattle.std.specs.Prelude.{slice_get}
use Rattle.std.proofs.lemmas.Bool.{ne_eqb}
use Rattle.nr_xdr.specs.Item.{IsBytes}
use Rattle.nr_outside.specs.declared.moment.Moment.{Moment}
use Rattle.nr_rpc.specs.Reading.{call_of, xid_of_call}
use Rattle.nr_reduce.specs.declared.mark.Entry.{Entry}
use Rattle.nr_reduce.specs.declared.mark.Mark.{Mark}
use Rattle.nr_reduce.specs.declared.mark.Mark.TheVariants as marks
use Rattle.nr_reduce.specs.declared.mark.TaggedEntry.{TaggedEntry}
use Rattle.nr_reduce.specs.KeepsCalls.{AddsOneAtMost, KeepsCalls}
use Rattle.nr_reduce.specs.NumberedJournal.{Standing, standing, standing_for, tagged, tagged_by, added_by, tagged_journal, entries_alone, call_of_entry, IsExecutedBy, NumberedMark}
use Rattle.nr_reduce.specs.NumberedJournal.Standing.{Kept, New}
use Rattle.nr_reduce.specs.AtEachMark.{AtEachMark}
use Rattle.nr_laws.specs.PlainLinks.{server_with}
use Rattle.nr_laws.proofs.Basics.{some_is_lem}
use Rattle.nr_laws.proofs.JournalPlaces.{same_front, journal_from, journal_parts, journal_more, AddedBy, added_by_mark, kept_entry}
use Rattle.nr_laws.proofs.OnceByXid.{at_mark}

-- ---- The entry that an Execute adds

abbrev unnumbered : Entry → TaggedEntry
unnumbered e = record { entry = e; client = 0; xid = 0 }

abbrev pub entry_of : (client xid : ℕ) → Entry → TaggedEntry
entry_of client xid e = record { entry = e; client = client; xid = xid }

pub numbered : (client xid : ℕ) (e : Entry) → client ≢ 0 → tagged client xid e ≡ record { entry = e; client = client; xid = xid }
numbered client xid e some = ap (λ (b : Bool). cond b (unnumbered e) (entry_of client xid e)) (ne_eqb client 0 some)

-- an entry with a number is of a client with that number
pub record IsTagOf (client xid : ℕ) (e : Entry) (t : TaggedEntry) : Type 0 where
  pub client_is : client ≡ t.client
  pub xid_is : xid ≡ t.xid
  pub entry_is : e ≡ t.entry

pub tag_of : (client xid : ℕ) (e : Entry) (t : TaggedEntry) → t ≡ tagged client xid e → t.client ≢ 0 → IsTagOf client xid e t
tag_of client xid e t own some = by (eqb client 0) own
  where
    by : (b : Bool) → t ≡ cond b (unnumbered e) (entry_of client xid e) → IsTagOf client xid e t
    by true is = absurd (some (ap (λ (x : TaggedEntry). x.client) is))
    by false is = record { client_is = ap (λ (x : TaggedEntry). x.client) (sym is); xid_is = ap (λ (x : TaggedEntry). x.xid) (sym is); entry_is = ap (λ (x : TaggedEntry). x.entry) (sym is) }

pub added_parts : (reply_to : List Entry → Moment → List ℕ → Option (List ℕ)) (adds : Moment → List ℕ → List ℕ → List Entry) (number : ℕ → ℕ) (run before after : List Mark) (link xid : ℕ) (moment : Moment) (payload : List ℕ) (at : ℕ) (reply : List ℕ) (e : Entry)
    → run ≡ before ++ marks.Execute link xid moment payload at reply ∷ after → standing_for (journal_from reply_to adds number [] before) (number link) xid ≡ New → adds moment payload reply ≡ e ∷ []
    → (rest : List TaggedEntry) × (journal_from reply_to adds number [] run ≡ journal_from reply_to adds number [] before ++ tagged (number link) xid e ∷ rest)
added_parts reply_to adds number run before after link xid moment payload at reply e is new adds_it =
    let mark : Mark = marks.Execute link xid moment payload at reply in
    let J : List TaggedEntry = journal_from reply_to adds number [] before in
    let own : tagged_by (server_with reply_to adds) number J mark ≡ tagged (number link) xid e ∷ [] =
    ap (λ (s : Standing). added_by s (map (tagged (number link) xid) (adds moment payload reply))) new ∙ ap (λ (es : List Entry). map (tagged (number link) xid) es) adds_it in
    let more = journal_more reply_to adds number (J ++ tagged_by (server_with reply_to adds) number J mark) after in (
      more.0,
      ap (λ (r : List Mark). journal_from reply_to adds number [] r) is ∙ journal_parts reply_to adds number [] before (mark ∷ after) ∙ more.1
          ∙ ap (λ (xs : List TaggedEntry). (J ++ xs) ++ more.0) own ∙ append_assoc J (tagged (number link) xid e ∷ []) more.0,
    )

pub adds_one : (reply_to : List Entry → Moment → List ℕ → Option (List ℕ)) (adds : Moment → List ℕ → List ℕ → List Entry) → KeepsCalls reply_to adds → (m : Moment) (payload reply : List ℕ) → adds m payload reply ≢ [] → (e : Entry) × (adds m payload reply ≡ e ∷ [])
adds_one reply_to adds keeps m payload reply some = by (adds m payload reply) refl (keeps.one m payload reply)
  where
    by : (es : List Entry) → adds m payload reply ≡ es → length es < 2 → (e : Entry) × (adds m payload reply ≡ e ∷ [])
    by [] is lt = absurd (some is)
    by (e ∷ []) is lt = (e, is)
    by (e ∷ f ∷ es) is lt = absurd (omega (arith, lt))

-- ---- The entry of a kept call

-- It is of this call, which adds just it, and whose reply is the one of its place.
pub record KeptEntry (reply_to : List Entry → Moment → List ℕ → Option (List ℕ)) (adds : Moment → List ℕ → List ℕ → List Entry) (client xid : ℕ) (moment : Moment) (payload reply : List ℕ) (earlier : List TaggedEntry) (own : TaggedEntry) : Type 0 where
  pub client_is : own.client ≡ client
  pub xid_is : own.xid ≡ xid
  pub adds_is : adds moment payload reply ≡ own.entry ∷ []
  pub replied : reply_to (entries_alone earlier) moment payload ≡ Some reply

pub kept_numbered : (T : List TaggedEntry) (client xid at : ℕ) → standing_for T client xid ≡ Kept at → client ≢ 0
kept_numbered T client xid at kept none = by (eqb client 0) (ap (λ (n : ℕ). eqb n 0) none) kept
  where
    by : (b : Bool) → b ≡ true → cond b New (standing T client xid) ≡ Kept at → ⊥
    by true is e = absurd cc
    by false is e = absurd cc

pub entry_added : (reply_to : List Entry → Moment → List ℕ → Option (List ℕ)) (adds : Moment → List ℕ → List ℕ → List Entry) (number : ℕ → ℕ) (run : List Mark) (place : ℕ) (t : TaggedEntry) → AddsOneAtMost adds
    → slice_get (journal_from reply_to adds number [] run) place ≡ Some t → AddedBy reply_to adds number [] run place t
entry_added reply_to adds number run place t few there = by (added_by_mark reply_to adds number [] run place t few there)
  where
    none : List TaggedEntry
    none = []

    by : (slice_get none place ≡ Some t) ⊎ AddedBy reply_to adds number [] run place t → AddedBy reply_to adds number [] run place t
    by (inl wrong) = absurd (let e : None ≡ Some t = wrong in cc)
    by (inr h) = h

-- every Execute of this xid among these marks, on a link with this number, has this payload
abbrev pub HaveSamePayload : (number : ℕ → ℕ) → List Mark → (client xid : ℕ) → List ℕ → Type 0
HaveSamePayload number run client xid payload =
    (link : ℕ) → number link ≡ client → (before after : List Mark) (moment : Moment) (bytes : List ℕ) (place : ℕ) (reply : List ℕ) → run ≡ before ++ marks.Execute link xid moment bytes place reply ∷ after → bytes ≡ payload

module _ (reply_to : List Entry → Moment → List ℕ → Option (List ℕ)) (adds : Moment → List ℕ → List ℕ → List Entry) (number : ℕ → ℕ) (run : List Mark) (keeps : KeepsCalls reply_to adds) where
  pub kept_is : (client xid at : ℕ) (moment : Moment) (payload : List ℕ) (place : ℕ) (reply : List ℕ) → client ≢ 0 → AtEachMark (NumberedMark (server_with reply_to adds) number) [] run → HaveSamePayload number run client xid payload → IsBytes payload → xid_of_call (call_of payload) ≡ Some xid
      → standing_for (tagged_journal (server_with reply_to adds) number run) client xid ≡ Kept at → (law : IsExecutedBy (server_with reply_to adds) (tagged_journal (server_with reply_to adds) number run) (Kept at) moment payload place reply)
      → KeptEntry reply_to adds client xid moment payload reply (law.1).earlier (law.1).own
  unfolding tagged_journal
  kept_is client xid at moment payload place reply some each same_payload bytes head kept law =
      let J : List TaggedEntry = journal_from reply_to adds number [] run in
      let entry = kept_entry J client xid at kept in
      let a = entry_added reply_to adds number run at entry.own keeps.one entry.there in
      let B : List TaggedEntry = journal_from reply_to adds number [] a.before in
      let tag = tag_of (number a.link) a.xid a.entry entry.own a.own (λ e. some (sym entry.client_is ∙ e)) in
      let same_client : number a.link ≡ client = tag.client_is ∙ entry.client_is in
      let same_xid : a.xid ≡ xid = tag.xid_is ∙ entry.xid_is in
      let earliest : Mark = marks.Execute a.link xid a.moment a.payload a.at a.reply in
      let there : run ≡ a.before ++ earliest ∷ a.after = a.is ∙ ap (λ (x : ℕ). a.before ++ marks.Execute a.link x a.moment a.payload a.at a.reply ∷ a.after) same_xid in
      let same : a.payload ≡ payload = same_payload a.link same_client a.before a.after a.moment a.payload a.at a.reply there in
      let new : standing_for B (number a.link) xid ≡ New = ap (λ (x : ℕ). standing_for B (number a.link) x) (sym same_xid) ∙ a.new in
      let executed : IsExecutedBy (server_with reply_to adds) B New a.moment a.payload a.at a.reply =
      subst (λ (s : Standing). IsExecutedBy (server_with reply_to adds) B s a.moment a.payload a.at a.reply) new
      (at_mark (NumberedMark (server_with reply_to adds) number) run a.before earliest a.after there each) in
      let replied : reply_to (entries_alone B) a.moment payload ≡ Some a.reply = ap (λ (q : List ℕ). reply_to (entries_alone B) a.moment q) (sym same) ∙ executed.1 in
      let adds_it : adds a.moment payload a.reply ≡ a.entry ∷ [] = ap (λ (q : List ℕ). adds a.moment q a.reply) (sym same) ∙ a.adds_it in
      let called : reply_to (entries_alone B) a.moment (call_of_entry xid a.entry) ≡ Some a.reply = keeps.own (entries_alone B) a.moment payload a.reply xid a.entry bytes replied adds_it head in
      let at_moment : a.entry.moment ≡ a.moment = keeps.moment a.moment payload a.reply a.entry adds_it in
      let k = law.1 in
      let parts = added_parts reply_to adds number run a.before a.after a.link a.xid a.moment a.payload a.at a.reply a.entry a.is a.new a.adds_it in
      let fronts = same_front k.earlier k.own k.later B (tagged (number a.link) a.xid a.entry) parts.0 (sym k.is_cut ∙ parts.1) (sym k.is_place ∙ law.0 ∙ a.place_is) in
      let own_is : k.own ≡ entry.own = fronts.1 ∙ sym a.own in
      let own_entry : k.own.entry ≡ a.entry = ap (λ (t : TaggedEntry). t.entry) own_is ∙ sym tag.entry_is in
      let own_xid : k.own.xid ≡ xid = ap (λ (t : TaggedEntry). t.xid) own_is ∙ entry.xid_is in
      let own_moment : k.own.entry.moment ≡ a.moment = ap (λ (e : Entry). e.moment) own_entry ∙ at_moment in
      let then : moment ≡ a.moment = k.moment_is ∙ own_moment in
      let kept_reply : reply_to (entries_alone B) a.moment (call_of_entry xid a.entry) ≡ Some reply =
      sym (λ i. reply_to (entries_alone (fronts.0 i)) (then i) (call_of_entry (own_xid i) (own_entry i))) ∙ k.replied in
      let reply_is : a.reply ≡ reply = some_is_lem a.reply reply (sym called ∙ kept_reply) in
      record {
        client_is = ap (λ (t : TaggedEntry). t.client) own_is ∙ entry.client_is;
        xid_is = own_xid;
        adds_is = (λ i. adds (then i) payload (sym reply_is i)) ∙ adds_it ∙ ap (λ (e : Entry). e ∷ []) (sym own_entry);
        replied = (λ i. reply_to (entries_alone (fronts.0 i)) (then i) payload) ∙ replied ∙ ap (λ (q : List ℕ). Some q) reply_is;
      }
