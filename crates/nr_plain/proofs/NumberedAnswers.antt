-- The answers of a server to calls of clients with a number.
use Rattle.std.proofs.Common.{◌≡◌, ◌≢◌, ℕ, ◌+◌, ◌<◌, ◌≤◌, List, ◌++◌, ◌∷◌, [], length, sym, subst, ap, ◌∙◌, refl, arith}
use Rattle.std.specs.Prelude.{IsOk, IfErr, OnErr, Result, Ok, Err}
use Rattle.std.proofs.lemmas.Bool.{false≢true}
use Rattle.std.proofs.lemmas.List.{append-nil, length-map}
use Rattle.nr_outside.specs.declared.moment.Moment.{Moment}
use Rattle.nr_rpc.specs.Reading.{call_of}
use Rattle.nr_rpc.specs.declared.head.CallHead.{CallHead}
use Rattle.nr_reduce.specs.declared.mark.Entry.{Entry}
use Rattle.nr_cache.specs.Entries.{KeptEntry, Finding}
use Rattle.nr_cache.specs.Entries.Finding.{KeptCall, NewCall}
use Rattle.nr_cache.specs.Caches.{RemembersAll}
use Rattle.nr_plain.specs.Setup.{Setup}
use Rattle.nr_plain.specs.Journal.{state_of}
use Rattle.nr_plain.specs.Replies.{Answer}
use Rattle.nr_plain.specs.Added.{entries_of_call}
use Rattle.nr_plain.specs.History.{AddsOne, entries_added, xid_in}
use Rattle.nr_reduce.specs.NumberedJournal.{entries_alone}
use Rattle.nr_plain.specs.Stands.{PlainServerState, RepresentsJournal, ExecutesCall, IsCause}
use Rattle.nr_plain.specs.Numbered.{AnswersFor, IsAnswerBy, IsNumberedCause, IsSameButRoom, LeavesServer, RepresentsTagged, added_if, answer_of_entry, finding, kept_replies}
use Rattle.nr_plain.specs.private.Executing.{ExecutedNow, ExecutesTagged, IsRefusedBy}
use Rattle.nr_plain.specs.ReplySizes.{reply_max}
use Rattle.nr_reduce.specs.declared.mark.TaggedEntry.{TaggedEntry}
use Rattle.nr_plain.specs.declared.fault.Fault.{Fault}
use Rattle.nr_plain.specs.declared.fault.Fault.TheVariants as faults
use Rattle.nr_plain.proofs.Changes.{changes_short}
use Rattle.nr_plain.proofs.Executed.{adds_are, executed, plain_is}
use Rattle.nr_plain.proofs.NumberedCalls.{entry_answer, executes_with, kept_none_added, kept_one_added, kept_unnumbered}
use Rattle.nr_plain.proofs.OneEntry.{adds_none, adds_one}

-- ===== the journal, whatever the cache has

-- two servers that are the same but for their caches
abbrev IsSameButCache : PlainServerState → PlainServerState → Type 0
IsSameButCache before after = ◌≡◌ {A = PlainServerState} (record after { cache = before.cache }) before

other_cache : (s : Setup) (J : List Entry) (before after : PlainServerState) → IsSameButCache before after → RepresentsJournal s J before → RepresentsJournal s J after
other_cache s J before after same is = record {
  tree = ap (λ (k : PlainServerState). k.tree) same ∙ is.tree;
  cost = ap (λ (k : PlainServerState). k.cost) same ∙ is.cost;
  count = ap (λ (k : PlainServerState). k.count) same ∙ is.count;
  parameters = ap (λ (k : PlainServerState). k.parameters) same ∙ is.parameters;
}

pub same_stands : (s : Setup) (T : List TaggedEntry) (before after : PlainServerState) → IsSameButRoom before after → RepresentsTagged s T before → RepresentsTagged s T after
same_stands s T before after same is = record {
  journal = other_cache s (entries_alone T) before after same.rest is.journal;
  remembers = same.replies (kept_replies s T) is.remembers;
}

-- ===== a call that is executed

module _ (m : Moment) (payload reply : List ℕ) (place : ℕ) (before mid : PlainServerState) (x : ExecutedNow before m payload reply place mid) where
  pub cache_stays : mid.cache ≡ before.cache
  cache_stays = ap (λ (k : PlainServerState). k.cache) x.kept

  more_entries : mid.count ≡ place + length x.answer.entries
  more_entries = let place_is = x.place_is in let count = ap (λ (k : PlainServerState). k.count) x.kept in omega (arith, place_is, count)

  -- a reply with which the journal grew is short
  pub grown_short : place < mid.count → length reply ≤ reply_max
  grown_short more =
      subst (λ (r : List ℕ). length r ≤ reply_max) (sym x.replied)
      (changes_short before.parameters (record { tree = before.tree; cost = before.cost }) m payload x.answer x.is
      (λ none. let n = ap length none in let all = more_entries in (let wrong : ⊥ = omega (arith, more, n, all) in wrong)))

  module _ (s : Setup) (T : List TaggedEntry) (client : ℕ) (is : RepresentsTagged s T before) where
    abbrev J : List Entry
    J = entries_alone T

    does : ExecutesCall s J m payload reply place mid
    does = executed s J before mid m payload reply place is.journal x

    remembers_still : RemembersAll (kept_replies s T) mid.cache
    remembers_still = subst (RemembersAll (kept_replies s T)) (sym cache_stays) is.remembers

    -- a call that adds no entry
    pub quiet_executes : entries_of_call m payload reply ≡ [] → ExecutesTagged s T client m payload reply place mid
    quiet_executes none =
        executes_with s T client m payload reply place mid does
        (subst (λ (E : List KeptEntry). RemembersAll E mid.cache) (sym (kept_none_added s T client m payload reply none)) remembers_still)

    pub unmoved_executes : (place < mid.count → ⊥) → ExecutesTagged s T client m payload reply place mid
    unmoved_executes never = quiet_executes (adds_none m payload reply J mid.count place does.stands.count does.place_is never)

    -- a call of a client without a number
    pub unnumbered_executes : client ≡ 0 → ExecutesTagged s T client m payload reply place mid
    unnumbered_executes zero_is =
        subst (λ (n : ℕ). ExecutesTagged s T n m payload reply place mid) (sym zero_is)
        (executes_with s T 0 m payload reply place mid does (subst (λ (E : List KeptEntry). RemembersAll E mid.cache) (sym (kept_unnumbered s T m payload reply)) remembers_still))

    -- a change of a client with a number, whose reply is kept
    module _ (after : PlainServerState) (numbered : client ≢ 0) (more : place < mid.count) (same : IsSameButCache mid after) where
      one : AddsOne m payload reply
      one = adds_one m payload reply J mid.count place does.stands.count does.place_is more

      reply_is : reply ≡ (answer_of_entry s.parameters (state_of s J) (xid_in payload) one.0).reply
      reply_is =
          x.replied
          ∙ ap (λ (a : Answer). a.reply)
          (entry_answer s.parameters (state_of s J) m payload (call_of payload) x.answer one.0 (plain_is s J before mid m payload reply place is.journal x)
          (adds_are s J before mid m payload reply place is.journal x ∙ one.1))

      place_at : place ≡ length T
      place_at = does.place_is ∙ length-map T (λ (t : TaggedEntry). t.entry)

      does_after : ExecutesCall s J m payload reply place after
      does_after = record {
        replied = does.replied;
        place_is = does.place_is;
        stands = other_cache s (J ++ entries_of_call m payload reply) mid after same does.stands;
      }

      pub kept_executes : ((E : List KeptEntry) → RemembersAll E mid.cache → RemembersAll (E ++ record { client = client; xid = xid_in payload; place = place; reply = reply } ∷ []) after.cache)
          → ExecutesTagged s T client m payload reply place after
      kept_executes keeps =
          executes_with s T client m payload reply place after does_after
          (subst (λ (E : List KeptEntry). RemembersAll E after.cache)
          (ap (λ (n : ℕ). kept_replies s T ++ record { client = client; xid = xid_in payload; place = n; reply = reply } ∷ []) place_at
          ∙ sym (kept_one_added s T client m payload reply one.0 numbered one.1 reply_is))
          (keeps (kept_replies s T) remembers_still))

-- ===== answers

module _ (s : Setup) (T : List TaggedEntry) (client : ℕ) (m : Moment) (payload reply : List ℕ) (place : ℕ) (before after : PlainServerState) where
  -- the server stands for what was added
  stands_by : (f : Finding) → finding s T client (xid_in payload) ≡ f → RepresentsTagged s (T ++ added_if f (entries_added client m payload reply)) after
      → RepresentsTagged s (T ++ added_if (finding s T client (xid_in payload)) (entries_added client m payload reply)) after
  stands_by f is = subst (λ (g : Finding). RepresentsTagged s (T ++ added_if g (entries_added client m payload reply)) after) (sym is)

  -- of a new call
  pub new_answers : finding s T client (xid_in payload) ≡ NewCall → ExecutesTagged s T client m payload reply place after → AnswersFor s T client m payload reply place before after
  new_answers new executes = record {
    answer = subst (IsAnswerBy s T m payload reply place before after) (sym new) (executes.replied, executes.place_is);
    stands = stands_by NewCall new executes.stands;
  }

  -- of a kept call
  pub kept_answers : finding s T client (xid_in payload) ≡ KeptCall place reply → after ≡ before → RepresentsTagged s T before → AnswersFor s T client m payload reply place before after
  kept_answers kept same is = record {
    answer = subst (IsAnswerBy s T m payload reply place before after) (sym kept) (refl, refl, same);
    stands = stands_by (KeptCall place reply) kept
        (subst (λ (U : List TaggedEntry). RepresentsTagged s U after) (sym (append-nil T)) (subst (RepresentsTagged s T) (sym same) is));
  }

-- a client without a number has new calls alone
pub unnumbered_new : (s : Setup) (T : List TaggedEntry) (client xid : ℕ) → client ≡ 0 → finding s T client xid ≡ NewCall
unnumbered_new s T client xid zero_is = ap (λ (n : ℕ). finding s T n xid) zero_is

-- ===== faults

pub plain_cause : (e : Fault) (s : Setup) (T : List TaggedEntry) (client : ℕ) (payload : List ℕ) → IsCause e (call_of payload) → IsNumberedCause s T client payload e
plain_cause (faults.NotCall at) s T client payload is = is
plain_cause faults.Memory s T client payload is = tt
plain_cause (faults.Old top) s T client payload is = absurd is

pub memory_alone : (e : Fault) (r : Result CallHead ℕ) → IsOk r → IsCause e r → e ≡ faults.Memory
memory_alone (faults.NotCall at) r ok is = absurd (false≢true (subst (λ (q : Result CallHead ℕ). IsOk q) is ok))
memory_alone faults.Memory r ok is = refl
memory_alone (faults.Old top) r ok is = absurd is

-- by what the cache says of the call
pub refused_cause : (e : Fault) (s : Setup) (T : List TaggedEntry) (client : ℕ) (payload : List ℕ) → IsOk (call_of payload) → (found : Finding) →
    finding s T client (xid_in payload) ≡ found → IsRefusedBy e found → IsNumberedCause s T client payload e
refused_cause (faults.NotCall at) s T client payload call found is refused = absurd refused
refused_cause faults.Memory s T client payload call found is refused = tt
refused_cause (faults.Old top) s T client payload call found is refused = (call, is ∙ refused)

room_same : (k : PlainServerState) → IsSameButRoom k k
room_same k = record { rest = refl; replies = λ E is. is }

pub leaves_same : (e : Fault) (before after : PlainServerState) → after ≡ before → LeavesServer e before after
leaves_same (faults.NotCall at) before after same = same
leaves_same faults.Memory before after same = subst (IsSameButRoom before) (sym same) (room_same before)
leaves_same (faults.Old top) before after same = same

pub any_err : {A E : Type 0} (r : Result A E) (P : Type 0) → P → OnErr r P
any_err (Ok x) P holds = tt
any_err (Err e) P holds = holds

pub leaves_room : {A : Type 0} (r : Result A Fault) (before after : PlainServerState) → IfErr r (λ e. e ≡ faults.Memory) → OnErr r (IsSameButRoom before after) →
    IfErr r (λ e. LeavesServer e before after)
leaves_room (Ok x) before after memory same = tt
leaves_room (Err e) before after memory same = subst (λ (f : Fault). LeavesServer f before after) (sym memory) same
