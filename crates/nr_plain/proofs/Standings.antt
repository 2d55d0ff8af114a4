-- What a call is found to be by the replies of a journal, and what it is by the entries of a run: the same.
use Rattle.std.proofs.Common.{◌≡◌, ◌≢◌, ℕ, ◌+◌, Bool, true, false, cond, eqb, leb, List, [], ◌∷◌, ◌++◌, length, take, Option, None, Some, refl, sym, ap, subst, ◌∙◌, arith}
use Rattle.std.specs.Prelude.{◌&&◌, All, max, option_map}
use Rattle.std.specs.List.{find, fold}
use Rattle.std.proofs.Math.Seq.{take-length}
use Rattle.std.proofs.lemmas.Bool.{eqb-true, eqb-false, ne_eqb}
use Rattle.std.proofs.lemmas.List.Elements.{All-head, All-tail}
use Rattle.nr_reduce.specs.declared.mark.Entry.{Entry}
use Rattle.nr_reduce.specs.declared.mark.TaggedEntry.{TaggedEntry}
use Rattle.nr_reduce.specs.NumberedJournal.{Standing, added_by, call_of_entry, entries_alone, kept_or_new as standing_at, largest_xid, place_from, place_of_entry, standing, standing_for, top_of as top_of_entries}
use Rattle.nr_reduce.specs.NumberedJournal.Standing.{Old, Kept, New}
use Rattle.nr_cache.specs.Entries.{KeptEntry, Finding, entries_of, found_for, found_in, kept_or_new, larger, top_of, window}
use Rattle.nr_cache.specs.Entries.Finding.{KeptCall, OldCall, NewCall}
use Rattle.nr_plain.specs.Setup.{Parameters, Setup, State}
use Rattle.nr_plain.specs.Journal.{first_state, next_state, state_after, state_of}
use Rattle.nr_plain.specs.Replies.{Answer, plain_answer, plain_reply}
use Rattle.nr_plain.specs.History.{entries_added, xid_in}
use Rattle.nr_plain.specs.Numbered.{FindingIsStanding, FoundAs, HasCall, NumberedCall, added_for, added_if, answer_of_entry, finding, kept_from, kept_replies}
use Rattle.nr_plain.specs.Turns.{added_to}
use Rattle.nr_plain.proofs.EntryCalls.{answer_again}

-- the reply of an entry that is kept
abbrev kept_of : TaggedEntry → ℕ → List ℕ → KeptEntry
kept_of t place reply = record { client = t.client; xid = t.xid; place = place; reply = reply }

abbrev is_of_xid : ℕ → KeptEntry → Bool
is_of_xid xid e = eqb e.xid xid

-- ===== the largest xid

module _ (client : ℕ) (numbered : client ≢ 0) where
  other_client : (t : TaggedEntry) → t.client ≡ 0 → eqb t.client client ≡ false
  other_client t zero_is = ne_eqb t.client client (λ same. numbered (sym same ∙ zero_is))

  -- one entry, and those after it
  module _ (t : TaggedEntry) (T : List TaggedEntry) (more : List KeptEntry) (rest : (n : ℕ) → fold larger n (entries_of client more) ≡ fold (largest_xid client) n T) (top place : ℕ) (reply : List ℕ) where
    top_by_client : (c : Bool) → fold larger top (cond c (kept_of t place reply ∷ entries_of client more) (entries_of client more)) ≡ fold (largest_xid client) (cond c (max top t.xid) top) T
    top_by_client true = rest (max top t.xid)
    top_by_client false = rest top

    top_by : (b : Bool) → eqb t.client 0 ≡ b → fold larger top (entries_of client (cond b [] (kept_of t place reply ∷ []) ++ more)) ≡ fold (largest_xid client) top (t ∷ T)
    top_by true e = rest top ∙ ap (λ (c : Bool). fold (largest_xid client) (cond c (max top t.xid) top) T) (sym (other_client t (eqb-true t.client 0 e)))
    top_by false e = top_by_client (eqb t.client client)

  top_from : (prm : Parameters) (st : State) (place top : ℕ) (T : List TaggedEntry) → fold larger top (entries_of client (kept_from prm st place T)) ≡ fold (largest_xid client) top T
  top_from prm st place top [] = refl
  top_from prm st place top (t ∷ T) =
      top_by t T (kept_from prm (next_state prm st t.entry) (place + 1) T) (λ n. top_from prm (next_state prm st t.entry) (place + 1) n T) top place
      (answer_of_entry prm st t.xid t.entry).reply (eqb t.client 0) refl

  same_top : (s : Setup) (T : List TaggedEntry) → top_of (entries_of client (kept_replies s T)) ≡ top_of_entries T client
  unfolding top_of top_of_entries
  same_top s T = top_from s.parameters (first_state s) 0 0 T

-- ===== the place and the reply of an entry

-- a reply is kept: that of the entry at a place of the journal, which begins at the place `at`
record HasKept (prm : Parameters) (st : State) (at place : ℕ) (T : List TaggedEntry) (o : Option KeptEntry) : Type 0 where
  kept : KeptEntry
  is : o ≡ Some kept
  place_is : kept.place ≡ place
  earlier : List TaggedEntry
  own : TaggedEntry
  later : List TaggedEntry
  is_cut : T ≡ earlier ++ own ∷ later
  at_is : place ≡ at + length earlier
  reply_is : kept.reply ≡ (answer_of_entry prm (state_after prm st (entries_alone earlier)) own.xid own.entry).reply

abbrev IsPlaced : Parameters → State → (at : ℕ) → List TaggedEntry → Option ℕ → Option KeptEntry → Type 0
IsPlaced prm st at T None o = o ≡ None
IsPlaced prm st at T (Some place) o = HasKept prm st at place T o

-- one entry before it
one_before : (prm : Parameters) (st : State) (at : ℕ) (t : TaggedEntry) (T : List TaggedEntry) (p : Option ℕ) (o : Option KeptEntry) →
    IsPlaced prm (next_state prm st t.entry) (at + 1) T p o → IsPlaced prm st at (t ∷ T) p o
one_before prm st at t T None o h = h
one_before prm st at t T (Some place) o h = record {
  kept = h.kept;
  is = h.is;
  place_is = h.place_is;
  earlier = t ∷ h.earlier;
  own = h.own;
  later = h.later;
  is_cut = ap (λ (l : List TaggedEntry). t ∷ l) h.is_cut;
  at_is = (let from = h.at_is in omega (arith, from));
  reply_is = h.reply_is;
}

module _ (prm : Parameters) (client xid : ℕ) (numbered : client ≢ 0) where
  module _ (st : State) (at : ℕ) (t : TaggedEntry) (T : List TaggedEntry) (more : List KeptEntry)
      (rest : IsPlaced prm (next_state prm st t.entry) (at + 1) T (place_from (at + 1) client xid T) (find (is_of_xid xid) (entries_of client more))) where
    reply_here : List ℕ
    reply_here = (answer_of_entry prm st t.xid t.entry).reply

    later_placed : IsPlaced prm st at (t ∷ T) (place_from (at + 1) client xid T) (find (is_of_xid xid) (entries_of client more))
    later_placed = one_before prm st at t T (place_from (at + 1) client xid T) (find (is_of_xid xid) (entries_of client more)) rest

    first_placed : (reply : List ℕ) → reply ≡ (answer_of_entry prm st t.xid t.entry).reply → HasKept prm st at at (t ∷ T) (Some (kept_of t at reply))
    first_placed reply is = record {
      kept = kept_of t at reply;
      is = refl;
      place_is = refl;
      earlier = [];
      own = t;
      later = T;
      is_cut = refl;
      at_is = (let same : at ≡ at + 0 = omega arith in same);
      reply_is = is;
    }

    module _ (reply : List ℕ) (reply_is : reply ≡ (answer_of_entry prm st t.xid t.entry).reply) where
      placed_by_xid : (d : Bool) → IsPlaced prm st at (t ∷ T) (cond d (Some at) (place_from (at + 1) client xid T)) (cond d (Some (kept_of t at reply)) (find (is_of_xid xid) (entries_of client more)))
      placed_by_xid true = first_placed reply reply_is
      placed_by_xid false = later_placed

      placed_by_client : (c : Bool) → IsPlaced prm st at (t ∷ T) (cond (c && eqb t.xid xid) (Some at) (place_from (at + 1) client xid T))
          (find (is_of_xid xid) (cond c (kept_of t at reply ∷ entries_of client more) (entries_of client more)))
      placed_by_client true = placed_by_xid (eqb t.xid xid)
      placed_by_client false = later_placed

      placed_by : (b : Bool) → eqb t.client 0 ≡ b → IsPlaced prm st at (t ∷ T) (place_from at client xid (t ∷ T)) (find (is_of_xid xid) (entries_of client (cond b [] (kept_of t at reply ∷ []) ++ more)))
      placed_by true e =
          subst (λ (c : Bool). IsPlaced prm st at (t ∷ T) (cond (c && eqb t.xid xid) (Some at) (place_from (at + 1) client xid T)) (find (is_of_xid xid) (entries_of client more)))
          (sym (other_client client numbered t (eqb-true t.client 0 e))) later_placed
      placed_by false e = placed_by_client (eqb t.client client)

  placed_from : (st : State) (at : ℕ) (T : List TaggedEntry) → IsPlaced prm st at T (place_from at client xid T) (find (is_of_xid xid) (entries_of client (kept_from prm st at T)))
  placed_from st at [] = refl
  placed_from st at (t ∷ T) =
      placed_by st at t T (kept_from prm (next_state prm st t.entry) (at + 1) T) (placed_from (next_state prm st t.entry) (at + 1) T)
      (answer_of_entry prm st t.xid t.entry).reply refl (eqb t.client 0) refl

-- ===== the law

own_call : (earlier : List TaggedEntry) (own : TaggedEntry) (later : List TaggedEntry) → All HasCall (earlier ++ own ∷ later) → HasCall own
own_call [] own later all = All-head HasCall own later all
own_call (t ∷ earlier) own later all = own_call earlier own later (All-tail HasCall t (earlier ++ own ∷ later) all)

module _ (s : Setup) (T : List TaggedEntry) where
  -- the reply is that of the entry's call
  replied_at : (earlier : List TaggedEntry) (own : TaggedEntry) (reply : List ℕ) → HasCall own → reply ≡ (answer_of_entry s.parameters (state_of s (entries_alone earlier)) own.xid own.entry).reply
      → plain_reply s (entries_alone earlier) (length (entries_alone earlier)) own.entry.moment (call_of_entry own.xid own.entry) ≡ Some reply
  replied_at earlier own reply call is =
      let J : List Entry = entries_alone earlier in
      ap (λ (l : List Entry). option_map (λ (a : Answer). a.reply) (plain_answer s.parameters (state_of s l) own.entry.moment (call_of_entry own.xid own.entry))) (take-length J)
      ∙ ap (option_map (λ (a : Answer). a.reply)) (answer_again s.parameters (state_of s J) own.xid own.entry call.0 call.1)
      ∙ ap (λ (r : List ℕ). Some r) (sym is)

  kept_as : (p : Option ℕ) (o : Option KeptEntry) → IsPlaced s.parameters (first_state s) 0 T p o → FoundAs s T (standing_at p) (kept_or_new o)
  kept_as None o none = ap kept_or_new none
  kept_as (Some place) o h = (
    h.kept.reply,
    ap kept_or_new h.is ∙ ap (λ (n : ℕ). KeptCall n h.kept.reply) h.place_is,
    λ all. (
      h.own.entry.moment,
      record {
        earlier = h.earlier;
        own = h.own;
        later = h.later;
        is_cut = h.is_cut;
        is_place = (let from = h.at_is in let same : place ≡ length h.earlier = omega (arith, from) in same);
        moment_is = refl;
        replied = replied_at h.earlier h.own h.kept.reply (own_call h.earlier h.own h.later (subst (All HasCall) h.is_cut all)) h.reply_is;
      },
    ),
  )

  module _ (client xid : ℕ) (numbered : client ≢ 0) where
    found_by_top : (b : Bool) (top : ℕ) → FoundAs s T (cond b (Old top) (standing_at (place_from 0 client xid T))) (cond b (OldCall top) (kept_or_new (find (is_of_xid xid) (entries_of client (kept_replies s T)))))
    found_by_top true top = refl
    found_by_top false top = kept_as (place_from 0 client xid T) (find (is_of_xid xid) (entries_of client (kept_replies s T))) (placed_from s.parameters client xid numbered (first_state s) 0 T)

    found_numbered : FoundAs s T (standing T client xid) (found_for (kept_replies s T) client xid)
    unfolding standing place_of_entry found_for found_in
    found_numbered =
        subst (λ (n : ℕ). FoundAs s T (standing T client xid) (cond (leb (xid + window) n) (OldCall n) (kept_or_new (find (is_of_xid xid) (entries_of client (kept_replies s T))))))
        (sym (same_top client numbered s T)) (found_by_top (leb (xid + window) (top_of_entries T client)) (top_of_entries T client))

  found_either : (client xid : ℕ) (b : Bool) → eqb client 0 ≡ b → FoundAs s T (cond b New (standing T client xid)) (cond b NewCall (found_for (kept_replies s T) client xid))
  found_either client xid true e = refl
  found_either client xid false e = found_numbered client xid (eqb-false client 0 e)

pub finding_is_standing : FindingIsStanding
finding_is_standing s T client xid = found_either s T client xid (eqb client 0) refl

-- ===== what a call adds

added_as : (k : Standing) (f : Finding) (s : Setup) (T es : List TaggedEntry) → FoundAs s T k f → added_if f es ≡ added_by k es
added_as (Old top) f s T es h = ap (λ (g : Finding). added_if g es) h
added_as (Kept place) f s T es (reply, h, given) = ap (λ (g : Finding). added_if g es) h
added_as New f s T es h = ap (λ (g : Finding). added_if g es) h

-- by what the call is in a run
pub added_same : (s : Setup) (T : List TaggedEntry) (c : NumberedCall) → added_for s T c ≡ added_to T c.client c.moment c.payload c.reply
added_same s T c =
    added_as (standing_for T c.client (xid_in c.payload)) (finding s T c.client (xid_in c.payload)) s T (entries_added c.client c.moment c.payload c.reply)
    (finding_is_standing s T c.client (xid_in c.payload))
