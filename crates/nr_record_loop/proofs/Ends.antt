-- How a connection ends: what was read, what was answered and what was not.
use Rattle.std.proofs.Common.{◌≡◌, ℕ, ◌+◌, ◌≤◌, List, [], ◌∷◌, ◌++◌, length, true, false, Option, None, Some, inr, refl, sym, ap, ◌∙◌, subst, append-nil, arith}
use Rattle.std.specs.Prelude.{is_ok}
use Rattle.nr_links.specs.Limits.{read_max}
use Rattle.nr_record.specs.Records.{contents, fragment}
use Rattle.nr_record.specs.RecordsState.{IsAt, RecordsState, RepresentsStream, read_in, rest_in}
use Rattle.nr_record.proofs.Above.{none_above}
use Rattle.nr_record.proofs.Begun.{records_encoded}
use Rattle.nr_rpc.specs.Reading.{call_of}
use Rattle.nr_record_loop.specs.Connections.{AllAnswered, Exchange, IsLoopCause, IsNext, IsNoCall, IsServedBy, Loop, MoreAt, REASON_CALL, ServesBy, TookAt, Unanswered, UnreadAt, calls, loop_at, written}
use Rattle.nr_record_loop.specs.private.Answering.{AnswersCall, BreaksOff, DoesNone, StopsAt}
use Rattle.nr_record_loop.specs.private.Steps.{AnswerEnds, AnswersAll, AnswersOn, HasRead, IsAnswered, IsPlace, end_at}
use Rattle.nr_record_loop.specs.declared.answering.NoReply.{NoReply}
use Rattle.nr_record_loop.specs.declared.answering.NoReply.TheVariants as reasons
use Rattle.nr_record_loop.specs.declared.answering.Stop.{Stop}
use Rattle.nr_record_loop.specs.declared.answering.Stop.TheVariants as stops
use Rattle.nr_record_loop.specs.declared.loop_end.LoopEnd.{LoopEnd}
use Rattle.nr_record_loop.specs.declared.loop_end.LoopEnd.TheVariants as ends
use Rattle.nr_record_loop.proofs.Exchanges.{contents_both, contents_within, written_end}
use Rattle.nr_record_loop.proofs.Executions.{serves_more, serves_none}
use Rattle.nr_record_loop.proofs.Readers.{begins, go_on, next_of, none_more, place_of, read_on}

module _ {S : Type 0} (Did : S → S → List Exchange → Option Unanswered → Type 0) where
  -- what was answered, what was not, and what the reader did not judge
  pub ended : (before after : Loop S) (end : LoopEnd) (k : RecordsState) (stream : List ℕ) (xs : List Exchange) (more : Option Unanswered) (took : List ℕ) (h : HasRead k stream xs)
      → ServesBy Did before after stream xs more took → length stream ≤ read_max → UnreadAt end h.stands.unread → TookAt end took xs → MoreAt end (contents (go_on k stream xs h).more) more
      → IsLoopCause after.left stream (rest_in h.stands) (calls xs) (contents (go_on k stream xs h).more) end → IsServedBy Did before after end
  ended before after end k stream xs more took h serves within unread_is took_is more_is cause =
      let s = h.stands in
      let g = go_on k stream xs h in
      let split : stream ≡ read_in s ++ s.unread = s.stream_is in
      record {
        stream = read_in s;
        unread = s.unread;
        records = contents s.cuts;
        rest = rest_in s;
        exchanges = xs;
        others = contents g.more;
        more = more;
        took = took;
        encode = records_encoded k stream (length xs) s;
        limit = contents_within s.cuts s.within;
        order = ap contents g.cuts_are ∙ contents_both h.done g.more ∙ ap (λ (l : List (List ℕ)). l ++ contents g.more) h.calls_are;
        serves = subst (λ (b : List ℕ). ServesBy Did before after b xs more took) split serves;
        within = subst (λ (b : List ℕ). length b ≤ read_max) split within;
        unread_is = unread_is;
        took_is = took_is;
        more_is = more_is;
        cause = subst (λ (b : List ℕ). IsLoopCause after.left b (rest_in s) (calls xs) (contents g.more) end) split cause;
      }

  -- all were answered, and none is above the limit
  pub all_answered : (k : RecordsState) (stream : List ℕ) (xs : List Exchange) (h : HasRead k stream xs) → k.fault ≡ None → length xs ≡ length h.stands.cuts
      → AllAnswered stream (contents (go_on k stream xs h).more)
  all_answered k stream xs h none all = (ap contents (none_more k stream xs h all), λ at. none_above k stream (length xs) at h.stands none)

  -- without anything that is fed ahead
  pub nothing_ahead : (before now : Loop S) (stream : List ℕ) (xs : List Exchange) (more : Option Unanswered) (took : List ℕ) → ServesBy Did before now (stream ++ []) xs more took → ServesBy Did before now stream xs more took
  nothing_ahead before now stream xs more took s = subst (λ (b : List ℕ). ServesBy Did before now b xs more took) (append-nil stream) s

  pub still_nothing : (before now : Loop S) (stream : List ℕ) (xs : List Exchange) (more : Option Unanswered) (took : List ℕ) → ServesBy Did before now stream xs more took → ServesBy Did before now (stream ++ []) xs more took
  still_nothing before now stream xs more took s = subst (λ (b : List ℕ). ServesBy Did before now b xs more took) (sym (append-nil stream)) s

  -- a call more is answered
  pub answer_on : (k k' : RecordsState) (taken taken' : Option (List ℕ)) (u u' : S) (call : List ℕ)
      → ((stream : List ℕ) (n : ℕ) (s : RepresentsStream k stream n) → IsAt (contents s.cuts) n call × RepresentsStream k' stream (n + 1))
      → AnswersCall Did call taken taken' u u' → AnswersOn Did k k' taken taken' u u'
  answer_on k k' taken taken' u u' call next (reply, (answers, appends)) before left given stream live =
      let xs = live.exchanges in
      let (at, stands') = next stream (length xs) live.read.stands in
      let bytes : List ℕ = stream ++ [] in
      let x : Exchange = record { call = call; reply = reply } in
      record {
        exchanges = xs ++ x ∷ [];
        read = read_on k stream xs live.read call at k' x refl stands';
        serves = subst (ServesBy Did before (loop_at left given taken' u') bytes (xs ++ x ∷ []) None) (sym (written_end xs x))
            (serves_more Did before left given taken taken' u u' bytes xs (written xs) live.serves call reply (fragment true reply) answers appends);
      }

  pub steps_on : (k k' k'' : RecordsState) (taken taken' taken'' : Option (List ℕ)) (u u' u'' : S)
      → AnswersOn Did k k' taken taken' u u' → AnswersOn Did k' k'' taken' taken'' u' u'' → AnswersOn Did k k'' taken taken'' u u''
  steps_on k k' k'' taken taken' taken'' u u' u'' first second before left given stream live =
      second before left given stream (first before left given stream live)

  -- none waits
  pub answer_none : (k k' k'' : RecordsState) (taken taken' : Option (List ℕ)) (u u' : S)
      → AnswersOn Did k k' taken taken' u u' → ((stream : List ℕ) (n : ℕ) (s : RepresentsStream k' stream n) → n ≡ length s.cuts) → k'' ≡ k'
      → AnswersAll Did k k'' taken taken' u u'
  answer_none k k' k'' taken taken' u u' on none same before left given stream live =
      let live' = on before left given stream live in
      subst (λ (l : RecordsState). IsAnswered Did before (loop_at left given taken' u') l stream) (sym same)
      (record { live = live'; all = none stream (length live'.exchanges) live'.read.stands })

  -- the sink took a part of the last reply
  broken_off : (k k' : RecordsState) (taken taken' : Option (List ℕ)) (u u' : S) (call : List ℕ)
      → ((stream : List ℕ) (n : ℕ) (s : RepresentsStream k stream n) → IsAt (contents s.cuts) n call × RepresentsStream k' stream (n + 1))
      → BreaksOff Did call taken taken' u u' → AnswerEnds Did ends.LinkWrite k taken taken' u u'
  broken_off k k' taken taken' u u' call next (reply, (answers, (part, (others, (is_part, appends))))) before left given stream within live =
      let xs = live.exchanges in
      let (at, stands') = next stream (length xs) live.read.stands in
      let x : Exchange = record { call = call; reply = reply } in
      let h = read_on k stream xs live.read call at k' x refl stands' in
      let ys : List Exchange = xs ++ x ∷ [] in
      let after = loop_at left given taken' u' in
      ended before after ends.LinkWrite k' stream ys None (written xs ++ part) h
      (nothing_ahead before after stream ys None (written xs ++ part)
      (serves_more Did before left given taken taken' u u' (stream ++ []) xs (written xs) live.serves call reply part answers appends))
      within tt (record { answered = xs; last = x; xs_are = refl; part = part; others = others; is_part = is_part; took_is = refl }) refl tt

  -- a record that isn't answered
  module _ (k k' : RecordsState) (taken taken' : Option (List ℕ)) (u u' : S) (call : List ℕ) (at : ℕ) (place : IsPlace k at)
      (next : (stream : List ℕ) (n : ℕ) (s : RepresentsStream k stream n) → IsAt (contents s.cuts) n call × RepresentsStream k' stream (n + 1)) where
    -- it is the first of those that aren't
    first_other : (reason : NoReply) (stream : List ℕ) (xs : List Exchange) (h : HasRead k stream xs)
        → IsNext (contents (go_on k stream xs h).more) (Some (record { call = call; reason = reason })) reason
    first_other reason stream xs h =
        let n = next_of k stream xs h call (next stream (length xs) h.stands).0 in
        record {
          call = call;
          later = contents n.others;
          others_are = ap contents n.more_is ∙ ap (λ (l : List ℕ). l ∷ contents n.others) n.content_is;
          more_is = refl;
        }

    no_call : is_ok (call_of call) ≡ false → (stream : List ℕ) (xs : List Exchange) (h : HasRead k stream xs) → IsNoCall stream (calls xs) (contents (go_on k stream xs h).more) at REASON_CALL
    no_call none stream xs h =
        let n = next_of k stream xs h call (next stream (length xs) h.stands).0 in
        record {
          call = call;
          more = contents n.others;
          others_are = ap contents n.more_is ∙ ap (λ (l : List ℕ). l ∷ contents n.others) n.content_is;
          no_head = none;
          begins = begins k stream xs h at (place_of k stream xs h at (place stream (length xs) h.stands));
          reason_is = refl;
        }

    -- the sink took all replies
    none_answered : (end : LoopEnd) (reason : NoReply)
        → ((unread : List ℕ) → UnreadAt end unread) → ((xs : List Exchange) → TookAt end (written xs) xs)
        → ((others : List (List ℕ)) → IsNext others (Some (record { call = call; reason = reason })) reason → MoreAt end others (Some (record { call = call; reason = reason })))
        → ((stream : List ℕ) (xs : List Exchange) (left : Option (List ℕ)) (h : HasRead k stream xs) → IsLoopCause left stream (rest_in h.stands) (calls xs) (contents (go_on k stream xs h).more) end)
        → DoesNone Did call reason taken taken' u u' → AnswerEnds Did end k taken taken' u u'
    none_answered end reason unread takes more cause ((has, answers), taken_is) before left given stream within live =
        let xs = live.exchanges in
        let after = loop_at left given taken' u' in
        let x : Unanswered = record { call = call; reason = reason } in
        ended before after end k stream xs (Some x) (written xs) live.read
        (nothing_ahead before after stream xs (Some x) (written xs)
        (serves_none Did before left given taken taken' u u' (stream ++ []) xs (written xs) live.serves x answers taken_is))
        within (unread live.read.stands.unread) (takes xs)
        (more (contents (go_on k stream xs live.read).more) (first_other reason stream xs live.read)) (cause stream xs left live.read)

    pub stop_ends : (stop : Stop) → StopsAt Did stop call taken taken' u u' → AnswerEnds Did (end_at stop at) k taken taken' u u'
    stop_ends stops.NotCall none =
        none_answered (ends.Bad at REASON_CALL) reasons.NotCall (λ unread. tt) (λ xs. refl) (λ others is. ((λ e. absurd (omega (arith, e))), λ e. is))
        (λ stream xs left h. inr (no_call none.0.0 stream xs h)) none
    stop_ends stops.LinkWrite breaks = broken_off k k' taken taken' u u' call next breaks
    stop_ends stops.Memory none =
        none_answered ends.Memory reasons.Memory (λ unread. tt) (λ xs. refl) (λ others is. inr is) (λ stream xs left h. tt) none
    stop_ends stops.Other none =
        none_answered ends.Unanswered reasons.Other (λ unread. tt) (λ xs. refl) (λ others is. is) (λ stream xs left h. tt) none

  -- some were answered before it
  pub on_ends : (end : LoopEnd) (k k' : RecordsState) (taken taken' taken'' : Option (List ℕ)) (u u' u'' : S)
      → AnswersOn Did k k' taken taken' u u' → AnswerEnds Did end k' taken' taken'' u' u'' → AnswerEnds Did end k taken taken'' u u''
  on_ends end k k' taken taken' taken'' u u' u'' first second before left given stream within live =
      second before left given stream within (first before left given stream live)
