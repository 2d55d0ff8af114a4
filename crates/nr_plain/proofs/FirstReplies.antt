-- A kept call gets the place and the reply that its change got.
use Rattle.std.proofs.Common.{◌≡◌, ◌≢◌, ℕ, ◌+◌, ◌<◌, Bool, cond, List, [], ◌∷◌, ◌++◌, length, Some, sym, subst, ap, ◌∙◌, append_assoc}
use Rattle.std.proofs.Math.Seq.{take-length}
use Rattle.std.proofs.lemmas.Bool.{ne_eqb}
use Rattle.std.proofs.lemmas.List.{length-map}
use Rattle.nr_outside.specs.declared.moment.Moment.{Moment}
use Rattle.nr_rpc.specs.Reading.{call_of}
use Rattle.nr_reduce.specs.declared.mark.Entry.{Entry}
use Rattle.nr_cache.specs.Entries.{Finding, KeptEntry, entries_of, found_for, top_of, window}
use Rattle.nr_cache.specs.Entries.Finding.{KeptCall, NewCall}
use Rattle.nr_cache.proofs.Finding.{kept_found}
use Rattle.nr_plain.specs.Setup.{Setup}
use Rattle.nr_plain.specs.Journal.{first_state, state_after, state_of}
use Rattle.nr_plain.specs.Replies.{Answer, plain_answer, plain_reply}
use Rattle.nr_plain.specs.Added.{entries_of_call}
use Rattle.nr_plain.specs.History.{AddsOne, entries_added, xid_in}
use Rattle.nr_reduce.specs.NumberedJournal.{entries_alone}
use Rattle.nr_plain.specs.Numbered.{FirstRepliesAreKept, added_for, added_if, answer_of_entry, finding, kept_from, kept_replies, top_in}
use Rattle.nr_reduce.specs.declared.mark.TaggedEntry.{TaggedEntry}
use Rattle.nr_plain.proofs.Added.{answer_of_reply}
use Rattle.nr_plain.proofs.NumberedCalls.{entry_answer, kept_append, kept_one_added}

module _ (s : Setup) (T later : List TaggedEntry) (client : ℕ) (m : Moment) (payload reply : List ℕ) (numbered : client ≢ 0) where
  abbrev J : List Entry
  J = entries_alone T

  abbrev new_entries : List TaggedEntry
  new_entries = entries_added client m payload reply

  abbrev first_reply : KeptEntry
  first_reply = record { client = client; xid = xid_in payload; place = length T; reply = reply }

  -- the replies of the entries that follow
  abbrev replies_later : List KeptEntry
  replies_later = kept_from s.parameters (state_after s.parameters (first_state s) (entries_alone (T ++ new_entries))) (0 + length (T ++ new_entries)) later

  of_entry : (e : Entry) → plain_reply s J (length J) m payload ≡ Some reply → entries_of_call m payload reply ≡ e ∷ [] →
      reply ≡ (answer_of_entry s.parameters (state_of s J) (xid_in payload) e).reply
  of_entry e replied one =
      let given : Answer = record { reply = reply; entries = entries_of_call m payload reply } in
      let answered : plain_answer s.parameters (state_of s J) m payload ≡ Some given =
      ap (λ (L : List Entry). plain_answer s.parameters (state_of s L) m payload) (sym (take-length J)) ∙ answer_of_reply s J (length J) m payload reply replied in
      ap (λ (a : Answer). a.reply) (entry_answer s.parameters (state_of s J) m payload (call_of payload) given e answered one)

  all_replies : (e : Entry) → plain_reply s J (length J) m payload ≡ Some reply → entries_of_call m payload reply ≡ e ∷ [] →
      kept_replies s (T ++ new_entries ++ later) ≡ kept_replies s T ++ first_reply ∷ replies_later
  all_replies e replied one =
      kept_append s.parameters (first_state s) 0 (T ++ new_entries) later
      ∙ ap (λ (E : List KeptEntry). E ++ replies_later) (kept_one_added s T client m payload reply e numbered one (of_entry e replied one))
      ∙ append_assoc (kept_replies s T) (first_reply ∷ []) replies_later

  first_kept : finding s T client (xid_in payload) ≡ NewCall → plain_reply s J (length J) m payload ≡ Some reply → AddsOne m payload reply →
      top_in s (T ++ new_entries ++ later) client < xid_in payload + window → finding s (T ++ new_entries ++ later) client (xid_in payload) ≡ KeptCall (length T) reply
  first_kept new replied one young =
      let all : kept_replies s (T ++ new_entries ++ later) ≡ kept_replies s T ++ first_reply ∷ replies_later = all_replies one.0 replied one.1 in
      let before : found_for (kept_replies s T) client (xid_in payload) ≡ NewCall =
      sym (ap (λ (b : Bool). cond b NewCall (found_for (kept_replies s T) client (xid_in payload))) (ne_eqb client 0 numbered)) ∙ new in
      ap (λ (b : Bool). cond b NewCall (found_for (kept_replies s (T ++ new_entries ++ later)) client (xid_in payload))) (ne_eqb client 0 numbered)
      ∙ ap (λ (E : List KeptEntry). found_for E client (xid_in payload)) all
      ∙ kept_found (kept_replies s T) replies_later first_reply before (subst (λ (E : List KeptEntry). top_of (entries_of client E) < xid_in payload + window) all young)

pub first_replies : FirstRepliesAreKept
first_replies s T later c numbered new replied one young =
    let added_is : added_for s T c ≡ entries_added c.client c.moment c.payload c.reply = ap (λ (f : Finding). added_if f (entries_added c.client c.moment c.payload c.reply)) new in
    subst (λ (A : List TaggedEntry). finding s (T ++ A ++ later) c.client (xid_in c.payload) ≡ KeptCall (length T) c.reply) (sym added_is)
    (first_kept s T later c.client c.moment c.payload c.reply numbered new
    (subst (λ (n : ℕ). plain_reply s (entries_alone T) n c.moment c.payload ≡ Some c.reply) (sym (length-map T (λ (t : TaggedEntry). t.entry))) replied) one
    (subst (λ (A : List TaggedEntry). top_in s (T ++ A ++ later) c.client < xid_in c.payload + window) added_is young))
