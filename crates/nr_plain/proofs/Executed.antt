-- A call that was executed.
use Rattle.std.proofs.Common.{◌≡◌, ℕ, List, ◌++◌, length, take, Some, Ok, Err, Result, ap, sym, ◌∙◌, subst}
use Rattle.std.specs.Prelude.{IfOk, OnErr}
use Rattle.std.specs.Option.{option_map}
use Rattle.std.proofs.Math.Seq.{take-length}
use Rattle.nr_rpc.specs.Reading.{call_of}
use Rattle.nr_rpc.specs.declared.head.CallHead.{CallHead}
use Rattle.nr_reduce.specs.declared.mark.Entry.{Entry}
use Rattle.nr_outside.specs.declared.moment.Moment.{Moment}
use Rattle.nr_plain.specs.Setup.{Setup}
use Rattle.nr_plain.specs.Journal.{state_of}
use Rattle.nr_plain.specs.Replies.{Answer, answer_to, answer_by, plain_answer, plain_reply}
use Rattle.nr_plain.specs.Added.{entries_of_call}
use Rattle.nr_plain.specs.Stands.{PlainServerState, RepresentsJournal, ExecutesCall, state_kept, state_after_answer}
use Rattle.nr_plain.specs.private.Executing.{ExecutedNow}
use Rattle.nr_plain.specs.declared.server.Reply.{Reply}
use Rattle.nr_plain.proofs.Added.{added}
use Rattle.nr_plain.proofs.Serving.{state_is, stands_after}

reply_at : (s : Setup) (J : List Entry) (m : Moment) (payload : List ℕ) (place : ℕ) (a : Answer) → place ≡ length J → plain_answer s.parameters (state_of s J) m payload ≡ Some a → plain_reply s J place m payload ≡ Some a.reply
reply_at s J m payload place a at is =
    let all : take place J ≡ J = ap (λ (n : ℕ). take n J) at ∙ take-length J in
    ap (λ (L : List Entry). option_map (λ (x : Answer). x.reply) (plain_answer s.parameters (state_of s L) m payload)) all ∙ ap (option_map (λ (x : Answer). x.reply)) is

-- by the state alone, and so over every journal for which the server stood
pub executed_now : (k new : PlainServerState) (m : Moment) (payload reply : List ℕ) (place : ℕ) (head : CallHead) → call_of payload ≡ Ok head → place ≡ k.count
    → reply ≡ (answer_to k.parameters (state_kept k) m payload head).reply → new ≡ state_after_answer k (answer_to k.parameters (state_kept k) m payload head).entries → ExecutedNow k m payload reply place new
executed_now k new m payload reply place head found at replied kept = record {
  answer = answer_to k.parameters (state_kept k) m payload head;
  is = ap (answer_by k.parameters (state_kept k) m payload) found;
  replied = replied;
  kept = kept;
  place_is = at;
}

-- whether it was executed or not, the same replies are remembered
pub cache_same : {E : Type 0} (k new : PlainServerState) (m : Moment) (payload : List ℕ) (r : Result Reply E) → IfOk r (λ q. ExecutedNow k m payload q.payload q.place new) → OnErr r (new ≡ k) → new.cache ≡ k.cache
cache_same k new m payload (Ok q) x same = ap (λ (l : PlainServerState). l.cache) x.kept
cache_same k new m payload (Err e) x same = ap (λ (l : PlainServerState). l.cache) same

module _ (s : Setup) (J : List Entry) (k new : PlainServerState) (m : Moment) (payload reply : List ℕ) (place : ℕ) (is : RepresentsJournal s J k) (x : ExecutedNow k m payload reply place new) where
  pub plain_is : plain_answer s.parameters (state_of s J) m payload ≡ Some x.answer
  plain_is = let state : state_kept k ≡ state_of s J = state_is s J k is in sym (λ i. plain_answer (is.parameters i) (state i) m payload) ∙ x.is

  pub adds_are : x.answer.entries ≡ entries_of_call m payload reply
  adds_are = added s.parameters (state_of s J) m payload x.answer plain_is ∙ sym (ap (entries_of_call m payload) x.replied)

  pub executed : ExecutesCall s J m payload reply place new
  executed = record {
    replied = reply_at s J m payload place x.answer (x.place_is ∙ is.count) plain_is ∙ sym (ap (λ (r : List ℕ). Some r) x.replied);
    place_is = x.place_is ∙ is.count;
    stands = subst (λ (es : List Entry). RepresentsJournal s (J ++ es) new) adds_are
        (subst (RepresentsJournal s (J ++ x.answer.entries)) (sym x.kept) (stands_after s J k x.answer.entries is));
  }
