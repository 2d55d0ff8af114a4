-- A call that is submitted, and bytes that are written before and after it.
use Rattle.std.proofs.Common.{◌≡◌, ◌≢◌, ℕ, List, [], ◌∷◌, ◌++◌, length, length-append, arith, ◌≤◌, Result, Ok, Err, refl, sym, ap, subst, ◌∙◌, append_assoc, append-nil, inr, Option, Some, None}
use mathlib.Core.Option.{some}
use lib.ListN.{get_elem?}
use Rattle.atomic_table.proofs.Lists.{at_last, at_longer}
use Rattle.nr_reduce.specs.declared.call.Call.{Call}
use Rattle.nr_reduce.specs.declared.call.Form.{Form}
use Rattle.nr_requester.specs.declared.taking.Done.{Done}
use Rattle.nr_turnstile.specs.declared.turnstile.Pass.{Pass}
use Rattle.nr_turnstile.specs.Rule.{Begins, IsIn, IsOpen, Lies}
use Rattle.nr_turnstile.specs.Passes.{seen_by, mine_of}
use Rattle.nr_shared.specs.declared.call_end.CallEnd.{CallEnd}
use Rattle.nr_shared.specs.declared.call_end.CallEnd.TheVariants as calls
use Rattle.nr_shared.specs.declared.entry.Entry.{Entry}
use Rattle.nr_shared.specs.declared.entry.Entry.TheVariants as entries
use Rattle.nr_shared.specs.declared.caller_turns.SubmitTurn.{SubmitTurn}
use Rattle.nr_shared.specs.declared.caller_turns.SubmitTurn.TheVariants as submit_turns
use Rattle.nr_shared.specs.declared.requester_with_sink.RequesterWithSink.{RequesterWithSink}
use Rattle.nr_shared.specs.Adding.{Adds}
use Rattle.nr_shared.specs.Callers.{HasOpenCall, IsCaller, KeepsOpen, Writes}
use Rattle.nr_shared.specs.Draining.{AreWrites}
use Rattle.nr_shared.specs.Ending.{IsCause, LinkEnded, LossEnds}
use Rattle.nr_shared.specs.Histories.{closes_of, tries_of}
use Rattle.nr_shared.specs.Output.{HasWrittenOutput}
use Rattle.nr_shared.specs.Waiting.{Awaits, IsSubmitTurn, GivesUp, LacksCredit, NoAnswer, OpensCall, OwnAnswer, Sends, SendsNone, Waits, WritesDue}
use Rattle.nr_shared.proofs.Adding.{adds_both, adds_same}
use Rattle.nr_shared.proofs.Alone.{open_writes}
use Rattle.nr_shared.proofs.Asking.{asked_just, asked_on, none_closed}
use Rattle.nr_shared.proofs.Lists.{in_more}
use Rattle.nr_shared.proofs.Polling.{keeps_same}
use Rattle.nr_shared.proofs.Resting.{caller_on, of_both, of_writes}

both_write : (xs ys : List Entry) → AreWrites xs → AreWrites ys → AreWrites (xs ++ ys)
both_write [] ys one two = two
both_write (entries.Wrote bytes ∷ xs) ys one two = both_write xs ys one two
both_write (entries.WriteFailed ∷ xs) ys one two = both_write xs ys one two
both_write (entries.Initial initial ∷ xs) ys one two = absurd one
both_write (entries.Submit call form x ∷ xs) ys one two = absurd one
both_write (entries.Fed bytes previous ∷ xs) ys one two = absurd one
both_write (entries.Done x outcome asked ∷ xs) ys one two = absurd one
both_write (entries.Lost x asked ∷ xs) ys one two = absurd one
both_write (entries.Forget x asked ∷ xs) ys one two = absurd one
both_write (entries.Revoke x bytes asked ∷ xs) ys one two = absurd one
both_write (entries.Stopped cause previous ∷ xs) ys one two = absurd one
both_write (entries.Rejoin sink previous ∷ xs) ys one two = absurd one
both_write (entries.OutOfMemory piece previous ∷ xs) ys one two = absurd one

-- what is written before a call is closed is written after its Submit
one_more_written : (s t before : List Entry) (e f : Entry) → (before ++ e ∷ s) ++ (t ++ f ∷ []) ≡ (before ++ e ∷ (s ++ t)) ++ f ∷ []
one_more_written s t before e f = sym (append_assoc (before ++ e ∷ s) t (f ∷ [])) ∙ ap (λ (l : List Entry). l ++ f ∷ []) (append_assoc before (e ∷ s) t)

-- an end of the link is a cause
pub link_cause : (end : CallEnd) (call : Call) (form : Form) (h : List Entry) → LinkEnded end h → IsCause end call form h
link_cause (calls.Ended end) call form h is = is
link_cause calls.LinkRead call form h is = is
link_cause calls.LinkWrite call form h is = is
link_cause calls.Closed call form h is = is
link_cause (calls.Budget read) call form h is = is
link_cause (calls.Tries n) call form h is = is
link_cause calls.DialFault call form h is = is
link_cause (calls.Spent left need) call form h is = inr is
link_cause (calls.TooLarge need room) call form h is = absurd (no_large (tries_of h) is) where
  no_large : (o : Option ℕ) → LossEnds o (calls.TooLarge need room) h → ⊥
  no_large None ended = ended
  no_large (Some tries) ended = ended
link_cause calls.Memory call form h is = tt

module _ {O C : Type 0} where
  -- A call is submitted in a turn: bytes are written, the Submit is added, and bytes are written.
  pub sends : (p q r s : Pass (RequesterWithSink O C) Entry) (call : Call) (form : Form) (xid : ℕ) → Writes p q → Adds q r (entries.Submit call form xid ∷ []) → seen_by r ≡ seen_by q ++ entries.Submit call form xid ∷ [] → KeepsOpen q r
      → IsOpen closes_of (seen_by r) (mine_of r) (length (seen_by q)) → Writes r s → HasWrittenOutput (seen_by s) → Sends p s call form xid
  sends p q r s call form xid one adds seen keeps opened two all_written =
      let e : Entry = entries.Submit call form xid in
      let n = length (seen_by q) in
      let there : get_elem? (seen_by r) n ≡ some e = subst (λ (l : List Entry). get_elem? l n ≡ some e) (sym seen) (at_last (seen_by q) e n refl) in
      record {
        writes_before = one.es;
        are_writes_before = one.are;
        writes_after = two.es;
        are_writes_after = two.are;
        adds = subst (λ (l : List Entry). Adds p s l) (append_assoc one.es (e ∷ []) two.es) (adds_both p r s (one.es ++ e ∷ []) two.es (adds_both p q r one.es (e ∷ []) one.adds adds) two.adds);
        keeps = λ k o. open_writes r s k two (keeps k (open_writes p q k one o));
        at = n;
        stands = subst (λ (l : List Entry). get_elem? l n ≡ some e) (sym two.seen) (at_longer (seen_by r) two.es n e there);
        new = (let l = ap length one.seen ∙ length-append (seen_by p) one.es in omega (arith, l));
        opened = open_writes r s n two opened;
        written = all_written;
      }

  -- a turn in which a call is submitted, and nothing else is done
  pub opens_call : (p q r s : Pass (RequesterWithSink O C) Entry) (call : Call) (form : Form) (xid : ℕ) → Adds p q [] → KeepsOpen p q → Adds q r (entries.Submit call form xid ∷ []) → seen_by r ≡ seen_by q ++ entries.Submit call form xid ∷ [] → KeepsOpen q r
      → IsOpen closes_of (seen_by r) (mine_of r) (length (seen_by q)) → seen_by s ≡ seen_by r → mine_of s ≡ mine_of r → OpensCall p s call form xid
  opens_call p q r s call form xid none kept adds more keeps opened seen mine =
      let e : Entry = entries.Submit call form xid in
      let n = length (seen_by q) in
      record {
        adds = adds_same p r s (e ∷ []) (adds_both p q r [] (e ∷ []) none adds) seen mine;
        keeps = λ k o. keeps_same r s seen mine k (keeps k (kept k o));
        at = n;
        stands = subst (λ (l : List Entry). get_elem? l n ≡ some e) (sym (seen ∙ more)) (at_last (seen_by q) e n refl);
        new = (let l = ap length none.seen.1 ∙ length-append (seen_by p) none.seen.0 in omega (arith, l));
        opened = subst (λ (l : List Entry). IsOpen closes_of l (mine_of s) n) (sym seen) (subst (λ (m : List ℕ). IsOpen closes_of (seen_by r) m n) (sym mine) opened);
      }

  -- a turn in which the call is submitted: what keeps calls from being submitted is looked for between
  pub submit_turn_sends : (p q r u s : Pass (RequesterWithSink O C) Entry) (call : Call) (form : Form) (xid : ℕ) → Writes p q → seen_by r ≡ seen_by q → mine_of r ≡ mine_of q → Adds r u (entries.Submit call form xid ∷ []) → seen_by u ≡ seen_by r ++ entries.Submit call form xid ∷ [] → KeepsOpen r u
      → IsOpen closes_of (seen_by u) (mine_of u) (length (seen_by r)) → Writes u s → HasWrittenOutput (seen_by s) → Sends p s call form xid
  submit_turn_sends p q r u s call form xid w seen mine adds longer keeps opened two all_written =
      sends p r u s call form xid (record { es = w.es; are = w.are; seen = seen ∙ w.seen; adds = adds_same p q r w.es w.adds seen mine }) adds longer keeps opened two all_written

  -- the same told of the pass before, and after turns that added nothing
  sends_from : (p q r : Pass (RequesterWithSink O C) Entry) (call : Call) (form : Form) (xid : ℕ) (es : List Entry) → AreWrites es → Adds p q es → KeepsOpen p q → Sends q r call form xid → Sends p r call form xid
  sends_from p q r call form xid es are a keeps s = record {
    writes_before = es ++ s.writes_before;
    are_writes_before = both_write es s.writes_before are s.are_writes_before;
    writes_after = s.writes_after;
    are_writes_after = s.are_writes_after;
    adds = subst (λ (l : List Entry). Adds p r l) (sym (append_assoc es s.writes_before (entries.Submit call form xid ∷ s.writes_after))) (adds_both p q r es (s.writes_before ++ entries.Submit call form xid ∷ s.writes_after) a s.adds);
    keeps = λ k o. s.keeps k (keeps k o);
    at = s.at;
    stands = s.stands;
    new = (let l = ap length a.seen.1 ∙ length-append (seen_by p) a.seen.0 in let n = s.new in omega (arith, l, n));
    opened = s.opened;
    written = s.written;
  }

  sends_to : (p r s : Pass (RequesterWithSink O C) Entry) (call : Call) (form : Form) (xid : ℕ) → Sends p r call form xid → seen_by s ≡ seen_by r → mine_of s ≡ mine_of r → Sends p s call form xid
  sends_to p r s call form xid t seen mine = record {
    writes_before = t.writes_before;
    are_writes_before = t.are_writes_before;
    writes_after = t.writes_after;
    are_writes_after = t.are_writes_after;
    adds = adds_same p r s (t.writes_before ++ entries.Submit call form xid ∷ t.writes_after) t.adds seen mine;
    keeps = λ k o. keeps_same r s seen mine k (t.keeps k o);
    at = t.at;
    stands = subst (λ (l : List Entry). get_elem? l t.at ≡ some (entries.Submit call form xid)) (sym seen) t.stands;
    new = t.new;
    opened = subst (λ (l : List Entry). IsOpen closes_of l (mine_of s) t.at) (sym seen) (subst (λ (m : List ℕ). IsOpen closes_of (seen_by r) m t.at) (sym mine) t.opened);
    written = subst HasWrittenOutput (sym seen) t.written;
  }

  none_from : (p q r : Pass (RequesterWithSink O C) Entry) (call : Call) (form : Form) (end : CallEnd) (es : List Entry) → AreWrites es → Adds p q es → KeepsOpen p q → SendsNone q r call form end → SendsNone p r call form end
  none_from p q r call form end es are a keeps s = record { writes_before = es ++ s.writes_before; are_writes_before = both_write es s.writes_before are s.are_writes_before; adds = adds_both p q r es s.writes_before a s.adds; keeps = λ k o. s.keeps k (keeps k o); cause = s.cause; written = s.written }

  none_to : (p r s : Pass (RequesterWithSink O C) Entry) (call : Call) (form : Form) (end : CallEnd) → SendsNone p r call form end → seen_by s ≡ seen_by r → mine_of s ≡ mine_of r → SendsNone p s call form end
  none_to p r s call form end t seen mine = record { writes_before = t.writes_before; are_writes_before = t.are_writes_before; adds = adds_same p r s t.writes_before t.adds seen mine; keeps = λ k o. keeps_same r s seen mine k (t.keeps k o); cause = subst (λ (l : List Entry). IsCause end call form l) (sym seen) t.cause; written = subst HasWrittenOutput (sym seen) t.written }

  -- a call that isn't submitted in a turn
  pub sends_none : (p q r : Pass (RequesterWithSink O C) Entry) (call : Call) (form : Form) (end : CallEnd) → Writes p q → seen_by r ≡ seen_by q → mine_of r ≡ mine_of q → IsCause end call form (seen_by q) → HasWrittenOutput (seen_by q) → SendsNone p r call form end
  sends_none p q r call form end w seen mine cause all_written = none_to p q r call form end (record { writes_before = w.es; are_writes_before = w.are; adds = w.adds; keeps = λ k o. open_writes p q k w o; cause = cause; written = all_written }) seen mine

  pub refused_none : (p q r u : Pass (RequesterWithSink O C) Entry) (call : Call) (form : Form) (end : CallEnd) → Writes p q → seen_by r ≡ seen_by q → mine_of r ≡ mine_of q → Adds r u [] → KeepsOpen r u → seen_by u ≡ seen_by r → IsCause end call form (seen_by r) → HasWrittenOutput (seen_by q) → SendsNone p u call form end
  refused_none p q r u call form end w seen mine adds keeps kept cause all_written = record {
    writes_before = w.es;
    are_writes_before = w.are;
    adds = subst (λ (l : List Entry). Adds p u l) (append-nil w.es) (adds_both p r u w.es [] (adds_same p q r w.es w.adds seen mine) adds);
    keeps = λ k o. keeps k (keeps_same q r seen mine k (open_writes p q k w o));
    cause = subst (λ (l : List Entry). IsCause end call form l) (sym kept) cause;
    written = subst HasWrittenOutput (sym (kept ∙ seen)) all_written;
  }

  pub lacks : (p q r : Pass (RequesterWithSink O C) Entry) (call : Call) (form : Form) → Writes p q → seen_by r ≡ seen_by q → mine_of r ≡ mine_of q → LacksCredit p r call call form form
  lacks p q r call form w seen mine = record { writes_before = w.es; are_writes_before = w.are; adds = adds_same p q r w.es w.adds seen mine; keeps = λ k o. keeps_same q r seen mine k (open_writes p q k w o); same_call = refl; same_form = refl }

  lacks_from : (p q r : Pass (RequesterWithSink O C) Entry) (call c : Call) (form f : Form) (es : List Entry) → AreWrites es → Adds p q es → KeepsOpen p q → LacksCredit q r call c form f → LacksCredit p r call c form f
  lacks_from p q r call c form f es are a keeps s = record { writes_before = es ++ s.writes_before; are_writes_before = both_write es s.writes_before are s.are_writes_before; adds = adds_both p q r es s.writes_before a s.adds; keeps = λ k o. s.keeps k (keeps k o); same_call = s.same_call; same_form = s.same_form }

  lacks_to : (p r s : Pass (RequesterWithSink O C) Entry) (call c : Call) (form f : Form) → LacksCredit p r call c form f → seen_by s ≡ seen_by r → mine_of s ≡ mine_of r → LacksCredit p s call c form f
  lacks_to p r s call c form f t seen mine = record { writes_before = t.writes_before; are_writes_before = t.are_writes_before; adds = adds_same p r s t.writes_before t.adds seen mine; keeps = λ k o. keeps_same r s seen mine k (t.keeps k o); same_call = t.same_call; same_form = t.same_form }

  pub submit_turns_after : (p q r s : Pass (RequesterWithSink O C) Entry) (call : Call) (form : Form) (tried : SubmitTurn) → Adds p q [] → KeepsOpen p q → IsSubmitTurn q r call form tried → seen_by s ≡ seen_by r → mine_of s ≡ mine_of r → IsSubmitTurn p s call form tried
  submit_turns_after p q r s call form (submit_turns.Accepted xid) a keeps t seen mine = sends_to p r s call form xid (sends_from p q r call form xid [] tt a keeps t) seen mine
  submit_turns_after p q r s call form (submit_turns.NoCredit c f) a keeps t seen mine = lacks_to p r s call c form f (lacks_from p q r call c form f [] tt a keeps t) seen mine
  submit_turns_after p q r s call form (submit_turns.Ended end) a keeps t seen mine = none_to p r s call form end (none_from p q r call form end [] tt a keeps t) seen mine

  -- turns before that only wrote
  pub sends_later : (p q r : Pass (RequesterWithSink O C) Entry) (call c : Call) (form f : Form) (xid : ℕ) (es : List Entry) → AreWrites es → Adds p q es → KeepsOpen p q → c ≡ call → f ≡ form → Sends q r c f xid → Sends p r call form xid
  sends_later p q r call c form f xid es are a keeps one two s = subst (λ (x : Call). Sends p r x form xid) one (subst (λ (x : Form). Sends p r c x xid) two (sends_from p q r c f xid es are a keeps s))

  pub none_later : (p q r : Pass (RequesterWithSink O C) Entry) (call c : Call) (form f : Form) (end : CallEnd) (es : List Entry) → AreWrites es → Adds p q es → KeepsOpen p q → c ≡ call → f ≡ form → SendsNone q r c f end → SendsNone p r call form end
  none_later p q r call c form f end es are a keeps one two s = subst (λ (x : Call). SendsNone p r x form end) one (subst (λ (x : Form). SendsNone p r c x end) two (none_from p q r c f end es are a keeps s))

  pub lacks_later : (p q r : Pass (RequesterWithSink O C) Entry) (call c d : Call) (form f g : Form) (es : List Entry) → AreWrites es → Adds p q es → KeepsOpen p q → c ≡ call → f ≡ form → LacksCredit q r c d f g → LacksCredit p r call d form g
  lacks_later p q r call c d form f g es are a keeps one two s =
      let t = lacks_from p q r c d f g es are a keeps s in
      record { writes_before = t.writes_before; are_writes_before = t.are_writes_before; adds = t.adds; keeps = t.keeps; same_call = t.same_call ∙ one; same_form = t.same_form ∙ two }

  -- ---- Callers

  pub caller_sends : (p q : Pass (RequesterWithSink O C) Entry) (call : Call) (form : Form) (xid : ℕ) → IsCaller p → Sends p q call form xid → IsCaller q
  caller_sends p q call form xid c s = caller_on p q (s.writes_before ++ entries.Submit call form xid ∷ s.writes_after) c s.adds
      (of_both p s.writes_before (entries.Submit call form xid ∷ s.writes_after) (of_writes p s.writes_before s.are_writes_before) ((refl, λ k is. absurd (none_closed k is)), of_writes p s.writes_after s.are_writes_after))

  pub caller_none : (p q : Pass (RequesterWithSink O C) Entry) (call : Call) (form : Form) (end : CallEnd) → IsCaller p → SendsNone p q call form end → IsCaller q
  caller_none p q call form end c s = caller_on p q s.writes_before c s.adds (of_writes p s.writes_before s.are_writes_before)

  pub caller_lacks : (p q : Pass (RequesterWithSink O C) Entry) (call d : Call) (form f : Form) → IsCaller p → LacksCredit p q call d form f → IsCaller q
  caller_lacks p q call d form f c s = caller_on p q s.writes_before c s.adds (of_writes p s.writes_before s.are_writes_before)

  -- ---- A call with all its turns

  stands_on : (p q : Pass (RequesterWithSink O C) Entry) (e : Entry) (k : ℕ) → Begins (seen_by p) (seen_by q) → get_elem? (seen_by p) k ≡ some e → get_elem? (seen_by q) k ≡ some e
  stands_on p q e k begins at = subst (λ (l : List Entry). get_elem? l k ≡ some e) (sym begins.1) (at_longer (seen_by p) begins.0 k e at)

  own_on : (q r : Pass (RequesterWithSink O C) Entry) (k : ℕ) (es : List Entry) → Adds q r es → IsIn k (mine_of q) → IsIn k (mine_of r)
  own_on q r k es a i = subst (IsIn k) (sym a.mine) (in_more (mine_of q) a.places k i)

  -- the place of a call that is new isn't one of before
  not_new : (p : Pass (RequesterWithSink O C) Entry) (n k : ℕ) → Lies (seen_by p) (mine_of p) → length (seen_by p) ≤ n → IsIn k (mine_of p) → k ≢ n
  not_new p n k lies new i same = let l = lies k i in omega (arith, l, new, same)

  -- the call that was submitted is the pass's own
  pub sent_open_call : (p q : Pass (RequesterWithSink O C) Entry) (call : Call) (form : Form) (xid : ℕ) → Lies (seen_by q) (mine_of q) → Sends p q call form xid → HasOpenCall q xid
  sent_open_call p q call form xid lies s = record { at = s.at; call = call; is_call = (entries.Submit call form xid, s.stands, asked_just xid call form); stays = s.opened; lies = lies }

  pub own_answer : (p q r : Pass (RequesterWithSink O C) Entry) (call : Call) (form : Form) (xid : ℕ) (done : Done) → Lies (seen_by p) (mine_of p) → Sends p q call form xid → Waits q r xid (Ok done) → OwnAnswer p r call form done
  own_answer p q r call form xid done lies s waits =
      let e0 : Entry = entries.Submit call form xid in
      let t = waits s.at call (e0, s.stands, asked_just xid call form) s.opened in
      let f : Entry = entries.Done xid done.outcome s.at in
      record {
        writes_before = s.writes_before;
        are_writes_before = s.are_writes_before;
        writes_after = s.writes_after ++ t.writes;
        are_writes_after = both_write s.writes_after t.writes s.are_writes_after t.are_writes;
        xid = xid;
        at = s.at;
        stands = stands_on q r e0 s.at t.adds.seen s.stands;
        adds = subst (λ (l : List Entry). Adds p r l) (one_more_written s.writes_after t.writes s.writes_before e0 f) (adds_both p q r (s.writes_before ++ e0 ∷ s.writes_after) (t.writes ++ f ∷ []) s.adds t.adds);
        new = s.new;
        own = own_on q r s.at (t.writes ++ f ∷ []) t.adds s.opened.0;
        keeps = λ k o. t.keeps k (not_new p s.at k lies s.new o.0) (s.keeps k o);
        call = t.own;
        before = t.before;
        seen = t.seen;
        buffers = t.buffers;
      }

  pub no_answer : (p q r : Pass (RequesterWithSink O C) Entry) (call : Call) (form : Form) (xid : ℕ) (end : CallEnd) → Lies (seen_by p) (mine_of p) → Sends p q call form xid → GivesUp q r xid end → NoAnswer p r call form end
  no_answer p q r call form xid end lies s gives =
      let e0 : Entry = entries.Submit call form xid in
      let g = gives s.at call (e0, s.stands, asked_just xid call form) s.opened in
      let f : Entry = entries.Forget xid s.at in
      record {
        writes_before = s.writes_before;
        are_writes_before = s.are_writes_before;
        writes_after = s.writes_after ++ g.writes;
        are_writes_after = both_write s.writes_after g.writes s.are_writes_after g.are_writes;
        xid = xid;
        at = s.at;
        stands = stands_on q r e0 s.at g.adds.seen s.stands;
        adds = subst (λ (l : List Entry). Adds p r l) (one_more_written s.writes_after g.writes s.writes_before e0 f) (adds_both p q r (s.writes_before ++ e0 ∷ s.writes_after) (g.writes ++ f ∷ []) s.adds g.adds);
        new = s.new;
        own = own_on q r s.at (g.writes ++ f ∷ []) g.adds s.opened.0;
        keeps = λ k o. g.keeps k (not_new p s.at k lies s.new o.0) (s.keeps k o);
        before = g.before;
        seen = g.seen;
        ended = g.ended;
        unanswered = g.unanswered;
        written = g.written;
      }

  -- ---- A call that is waited for, after bytes were written

  pub waits_after : (p q r : Pass (RequesterWithSink O C) Entry) (xid : ℕ) (result : Result Done CallEnd) → WritesDue p q → Awaits q r xid result → Waits p r xid result
  waits_after p q r xid (Ok done) w awaits = λ k call asked o.
      (let t = awaits k call (asked_on (seen_by p) (seen_by q) xid k call w.adds.seen asked) (w.keeps k o) in
      let f : Entry = entries.Done xid done.outcome k in
      record {
        own = t.own;
        writes = w.writes;
        are_writes = w.are_writes;
        adds = adds_both p q r w.writes (f ∷ []) w.adds t.adds;
        keeps = λ j differs oj. t.keeps j differs (w.keeps j oj);
        before = t.before;
        seen = t.seen;
        buffers = t.buffers;
        at_turn = seen_by q;
        begins = w.adds.seen;
        goes_on = t.adds.seen;
        written = w.written;
      })
  waits_after p q r xid (Err end) w awaits = λ k call asked o.
      (let t = awaits k call (asked_on (seen_by p) (seen_by q) xid k call w.adds.seen asked) (w.keeps k o) in
      let f : Entry = entries.Forget xid k in
      record {
        writes = w.writes ++ t.writes;
        are_writes = both_write w.writes t.writes w.are_writes t.are_writes;
        adds = subst (λ (l : List Entry). Adds p r l) (sym (append_assoc w.writes t.writes (f ∷ []))) (adds_both p q r w.writes (t.writes ++ f ∷ []) w.adds t.adds);
        keeps = λ j differs oj. t.keeps j differs (w.keeps j oj);
        before = t.before;
        seen = t.seen;
        ended = t.ended;
        unanswered = t.unanswered;
        written = t.written;
      })

  pub caller_writes : (p q : Pass (RequesterWithSink O C) Entry) → IsCaller p → WritesDue p q → IsCaller q
  caller_writes p q c w = caller_on p q w.writes c w.adds (of_writes p w.writes w.are_writes)
