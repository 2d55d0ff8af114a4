-- The end of a connection, by that of the loop over its records.
use Rattle.std.specs.Prelude.{⊤}
use Rattle.std.proofs.Common.{◌≡◌, ℕ, List, ◌++◌, Option, None, Some, refl, sym, subst, ⊎_elim}
use Rattle.nr_turnstile.specs.declared.turnstile.Pass.{Pass}
use Rattle.nr_record_loop.specs.Connections.{Exchange, IsNext, IsNoCall, IsServedBy, IsTooLong, Unanswered, calls, loop_at}
use Rattle.nr_record_loop.specs.declared.answering.NoReply.{NoReply}
use Rattle.nr_record_loop.specs.declared.answering.NoReply.TheVariants as reasons
use Rattle.nr_record_loop.specs.declared.loop_end.LoopEnd.{LoopEnd}
use Rattle.nr_record_loop.specs.declared.loop_end.LoopEnd.TheVariants as loops
use Rattle.nr_shared.specs.declared.entry.Entry.{Entry}
use Rattle.nr_shared.specs.declared.requester_with_sink.RequesterWithSink.{RequesterWithSink}
use Rattle.nr_gate.specs.Gating.{EndsRemotely, Gates, IsGated, Unforwarded, loop_end}
use Rattle.nr_gate.specs.private.Forwarded.{gate_end, kept_end}
use Rattle.nr_gate.specs.declared.gate_end.GateEnd.{GateEnd}
use Rattle.nr_gate.specs.declared.gate_end.GateEnd.TheVariants as ends

-- it isn't the remote call for which this has no reply
abbrev IsOwnReason : NoReply → Type 0
IsOwnReason reasons.NotCall = ⊤
IsOwnReason reasons.Memory = ⊤
IsOwnReason reasons.Other = ⊥

abbrev HasOwnReason : Option Unanswered → Type 0
HasOwnReason None = ⊤
HasOwnReason (Some x) = IsOwnReason x.reason

none_has : (more : Option Unanswered) → more ≡ None → HasOwnReason more
none_has more is = subst HasOwnReason (sym is) tt

next_has : (others : List (List ℕ)) (more : Option Unanswered) (reason : NoReply) → IsOwnReason reason → IsNext others more reason → HasOwnReason more
next_has others more reason own next = subst HasOwnReason (sym next.more_is) own

module _ {O C : Type 0} where
  un_other : (e e' : GateEnd) (reason : NoReply) (p q : Pass (RequesterWithSink O C) Entry) (bytes : List ℕ) → IsOwnReason reason → Unforwarded e reason p q bytes → Unforwarded e' reason p q bytes
  un_other e e' reasons.NotCall p q bytes own un = un
  un_other e e' reasons.Memory p q bytes own un = un
  un_other e e' reasons.Other p q bytes own un = absurd own

  gates_other : (e e' : GateEnd) (p q : Pass (RequesterWithSink O C) Entry) (xs : List Exchange) (more : Option Unanswered) → HasOwnReason more → Gates e p q xs more → Gates e' p q xs more
  gates_other e e' p q xs None own gates = gates
  gates_other e e' p q xs (Some x) own (m, (all, un)) = (m, (all, un_other e e' x.reason m q x.call own un))

  remote_loop : (e : GateEnd) (p q : Pass (RequesterWithSink O C) Entry) (bytes : List ℕ) → EndsRemotely e p q bytes → loop_end e ≡ loops.Unanswered
  remote_loop (ends.Remote end) p q bytes ended = refl
  remote_loop ends.Chunk p q bytes ended = refl
  remote_loop (ends.Version low high) p q bytes ended = refl
  remote_loop ends.Closed p q bytes ended = absurd ended
  remote_loop (ends.Cut at) p q bytes ended = absurd ended
  remote_loop ends.LinkRead p q bytes ended = absurd ended
  remote_loop ends.LinkWrite p q bytes ended = absurd ended
  remote_loop (ends.Bad at reason) p q bytes ended = absurd ended
  remote_loop (ends.Budget read) p q bytes ended = absurd ended
  remote_loop ends.Memory p q bytes ended = absurd ended

  module _ {S : Type 0} (main_of : S → Pass (RequesterWithSink O C) Entry) (ended_of : S → Option GateEnd) (left given taken left' given' taken' : Option (List ℕ)) (u u' : S) where
    abbrev Did : S → S → List Exchange → Option Unanswered → Type 0
    Did a b xs more = Gates (kept_end (ended_of b)) (main_of a) (main_of b) xs more

    abbrev Served : LoopEnd → Type 0
    Served end = IsServedBy Did (loop_at left given taken u) (loop_at left' given' taken' u') end

    -- the remote call that was made last ended so
    remotely : (s : Served loops.Unanswered) → loop_end (kept_end (ended_of u')) ≡ loops.Unanswered
    remotely s =
        let next = s.more_is in
        let (m, (all, un)) = subst (λ (more : Option Unanswered). Gates (kept_end (ended_of u')) (main_of u) (main_of u') s.exchanges more) next.more_is s.serves.did in
        remote_loop (kept_end (ended_of u')) m (main_of u') next.call un

    pub same_loop : (end : LoopEnd) → Served end → loop_end (gate_end end (ended_of u')) ≡ end
    same_loop loops.Closed s = refl
    same_loop (loops.Cut at) s = refl
    same_loop loops.LinkRead s = refl
    same_loop loops.LinkWrite s = refl
    same_loop (loops.Bad at reason) s = refl
    same_loop (loops.Budget read) s = refl
    same_loop loops.Memory s = refl
    same_loop loops.Unanswered s = remotely s

    other_did : (end : LoopEnd) (e : GateEnd) (s : Served end) → HasOwnReason s.more → Gates e (main_of u) (main_of u') s.exchanges s.more
    other_did end e s own = gates_other (kept_end (ended_of u')) e (main_of u) (main_of u') s.exchanges s.more own s.serves.did

    bad_has : (at reason : ℕ) (s : Served (loops.Bad at reason)) → HasOwnReason s.more
    bad_has at reason s = ⊎_elim
        (λ (long : IsTooLong (s.stream ++ s.unread) (calls s.exchanges) s.others at reason). none_has s.more (s.more_is.0 long.fault.0))
        (λ (stop : IsNoCall (s.stream ++ s.unread) (calls s.exchanges) s.others at reason). next_has s.others s.more reasons.NotCall tt (s.more_is.1 stop.reason_is))
        s.cause

    memory_has : (s : Served loops.Memory) → HasOwnReason s.more
    memory_has s = ⊎_elim (λ (none : s.more ≡ None). none_has s.more none) (λ (next : IsNext s.others s.more reasons.Memory). next_has s.others s.more reasons.Memory tt next) s.more_is

    did_at : (end : LoopEnd) (s : Served end) → Gates (gate_end end (ended_of u')) (main_of u) (main_of u') s.exchanges s.more
    did_at loops.Closed s = other_did loops.Closed ends.Closed s (none_has s.more s.more_is)
    did_at (loops.Cut at) s = other_did (loops.Cut at) (ends.Cut at) s (none_has s.more s.more_is)
    did_at loops.LinkRead s = other_did loops.LinkRead ends.LinkRead s (none_has s.more s.more_is)
    did_at loops.LinkWrite s = other_did loops.LinkWrite ends.LinkWrite s (none_has s.more s.more_is)
    did_at (loops.Bad at reason) s = other_did (loops.Bad at reason) (ends.Bad at reason) s (bad_has at reason s)
    did_at (loops.Budget read) s = other_did (loops.Budget read) (ends.Budget read) s (none_has s.more s.more_is)
    did_at loops.Memory s = other_did loops.Memory ends.Memory s (memory_has s)
    did_at loops.Unanswered s = s.serves.did

    -- a connection whose calls were forwarded
    pub gated : (end : LoopEnd) → Served end → IsGated (loop_at left given taken (main_of u)) (loop_at left' given' taken' (main_of u')) (gate_end end (ended_of u'))
    gated end s =
        let e : GateEnd = gate_end end (ended_of u') in
        subst (λ (l : LoopEnd). IsServedBy (Gates e) (loop_at left given taken (main_of u)) (loop_at left' given' taken' (main_of u')) l) (sym (same_loop end s))
        (record {
          stream = s.stream;
          unread = s.unread;
          records = s.records;
          rest = s.rest;
          exchanges = s.exchanges;
          others = s.others;
          more = s.more;
          took = s.took;
          encode = s.encode;
          limit = s.limit;
          order = s.order;
          serves = record { handed = s.serves.handed; taken = s.serves.taken; did = did_at end s };
          within = s.within;
          unread_is = s.unread_is;
          took_is = s.took_is;
          more_is = s.more_is;
          cause = s.cause;
        })
