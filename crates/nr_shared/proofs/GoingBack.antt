-- What a requester keeps of each link when a call is accepted, or goes back.
use Rattle.std.proofs.Common.{◌≡◌, ◌≢◌, ℕ, ◌+◌, eqb, cond, Bool, true, false, List, [], ◌∷◌, ◌++◌, Option, Some, None, is_some, refl, sym, ap, subst, ◌∙◌}
use Rattle.std.specs.List.{AllByRecursion, find}
use Rattle.std.proofs.lemmas.Bool.{eqb-true}
use Rattle.nr_link.specs.declared.end.End.{End}
use Rattle.nr_reduce.specs.declared.call.Call.{Call}
use Rattle.nr_reduce.specs.declared.call.Form.{Form}
use Rattle.nr_reduce.specs.declared.mark.LinkParameters.{LinkParameters}
use Rattle.nr_reduce.specs.declared.mark.Mark.{Mark}
use Rattle.nr_reduce.specs.declared.mark.Mark.TheVariants as marks
use Rattle.nr_requester.specs.declared.answer.AnsweredCall.{AnsweredCall}
use Rattle.nr_requester.specs.AfterCalls.{after_forget, after_revoke}
use Rattle.nr_requester.specs.Answers.{WasSent}
use Rattle.nr_requester.specs.Buffers.{bytes_of_buffers}
use Rattle.nr_requester.specs.EarlierLinks.{KeepsEarlierBeside}
use Rattle.nr_requester.specs.OpenCalls.{buffers_of, call_with, found_answer, found_call, open_call}
use Rattle.nr_requester.specs.RequesterState.{RequesterSide, StoredCall}
use Rattle.nr_requester.specs.ReopenedLinks.{KeepsEarlier, KeepsOn, RequesterKeeps, RequesterStops, StopsOn, StopsOnRevoke}
use Rattle.nr_requester.specs.Reopening.{link_of}
use Rattle.nr_requester.proofs.EarlierBeside.{earlier_beside, earlier_done_law, earlier_forget_law, earlier_revoke_law, earlier_submits}
use Rattle.nr_requester.proofs.EarlierLinks.{earlier_counts, earlier_counts_stopped, earlier_goes}
use Rattle.nr_requester.proofs.HandedBack.{open_remains}
use Rattle.nr_requester.proofs.KeptLaw.{done_law, forget_law, lost_law, open_law, revoke_law}
use Rattle.nr_requester.proofs.StoppedLaw.{done_stopped_law, forget_stopped_law, open_stopped, revoke_stopped_law}
use Rattle.nr_shared.specs.LinkStanding.{KeepsLinkLaw}
use Rattle.nr_shared.proofs.LinkSteps.{Closes, ClosesLive, ClosesOut}

-- ---- A call that is accepted

pub submit_stays : (r s : RequesterSide) (call : Call) (form : Form) (xid : ℕ) → WasSent r s call form xid → KeepsEarlierBeside r s
submit_stays r s call form xid sent = subst (KeepsEarlierBeside r) (sym sent.after_is) (earlier_submits r call sent.plan)

-- ---- The answer of a link that was left

found_all : (P : StoredCall → Type 0) (xid : ℕ) (calls : List StoredCall) (c : StoredCall) → find (λ (d : StoredCall). eqb d.xid xid) calls ≡ Some c → AllByRecursion P calls → P c × (c.xid ≡ xid)
found_all P xid [] c e all = absurd cc
found_all P xid (d ∷ calls) c e all = by (eqb d.xid xid) refl (found_all P xid calls c) e
  where
    first : (x y : StoredCall) → Some x ≡ Some y → x ≡ y
    first x y is = ap (λ (o : Option StoredCall). or_else o x) is where
      or_else : Option StoredCall → StoredCall → StoredCall
      or_else None z = z
      or_else (Some w) z = w

    by : (b : Bool) → eqb d.xid xid ≡ b → (find (λ (d : StoredCall). eqb d.xid xid) calls ≡ Some c → AllByRecursion P calls → P c × (c.xid ≡ xid)) → cond b (Some d) (find (λ (d : StoredCall). eqb d.xid xid) calls) ≡ Some c → P c × (c.xid ≡ xid)
    by true is rest f = let same : d ≡ c = first d c f in (subst P same all.0, ap (λ (x : StoredCall). x.xid) (sym same) ∙ eqb-true d.xid xid is)
    by false is rest f = rest f all.1

true_false : true ≡ false → ⊥
true_false e = absurd cc

none_open : false ≡ true → ⊥
none_open e = absurd cc

-- an open call that belongs to it has its answer
pub left_answer : (is_own : ℕ → Bool) (opened : LinkParameters) (link : ℕ) (r : RequesterSide) (run : List Mark) (xid : ℕ) → KeepsEarlier is_own opened link r run → is_own xid ≡ true → is_some (open_call xid r.state) ≡ true → (a : AnsweredCall) × (found_answer xid r.state ≡ Some a)
left_answer is_own opened link r run xid keeps own there = by (found_call xid r.state) (found_answer xid r.state) refl refl there where
  by : (c : Option StoredCall) (a : Option AnsweredCall) → found_call xid r.state ≡ c → found_answer xid r.state ≡ a → is_some (call_with c a) ≡ true → (b : AnsweredCall) × (found_answer xid r.state ≡ Some b)
  by (Some c) a is answer some =
      let both = found_all (λ (d : StoredCall). is_own d.xid ≡ false) xid r.state.outstanding c is keeps.outstanding in
      absurd (true_false (sym own ∙ (ap is_own (sym both.1) ∙ both.0)))
  by None (Some a) is answer some = (a, answer)
  by None None is answer some = absurd (none_open some)

-- ---- By a mark that hands over, gives up or revokes

module _ (r s : RequesterSide) (xid : ℕ) where
  forgotten_stays : s ≡ after_forget r xid → (is_own : ℕ → Bool) (opened : LinkParameters) (link : ℕ) (run : List Mark) (m : Mark) → KeepsEarlier is_own opened link r run → is_own xid ≡ false → link_of m ≢ link → KeepsEarlier is_own opened link s (run ++ m ∷ [])
  forgotten_stays after is_own opened link run m keeps not other = subst (λ (x : RequesterSide). KeepsEarlier is_own opened link x (run ++ m ∷ [])) (sym after) (earlier_beside is_own opened link r run (m ∷ []) xid keeps not (other, tt)).0

  revoked_stays : s ≡ after_revoke r xid → (is_own : ℕ → Bool) (opened : LinkParameters) (link : ℕ) (run : List Mark) (m : Mark) → KeepsEarlier is_own opened link r run → is_own xid ≡ false → link_of m ≢ link → KeepsEarlier is_own opened link s (run ++ m ∷ [])
  revoked_stays after is_own opened link run m keeps not other = subst (λ (x : RequesterSide). KeepsEarlier is_own opened link x (run ++ m ∷ [])) (sym after) (earlier_beside is_own opened link r run (m ∷ []) xid keeps not (other, tt)).1

  forgotten_counts : s ≡ after_forget r xid → (is_own : ℕ → Bool) (earlier : ℕ) (opened : LinkParameters) (link : ℕ) (run : List Mark) (m : Mark) → RequesterKeeps is_own earlier opened link r run → is_own xid ≡ false → link_of m ≢ link → RequesterKeeps is_own (earlier + 1) opened link s (run ++ m ∷ [])
  forgotten_counts after is_own earlier opened link run m keeps not other = subst (λ (x : RequesterSide). RequesterKeeps is_own (earlier + 1) opened link x (run ++ m ∷ [])) (sym after) (earlier_counts is_own earlier opened link r run m xid keeps not other).0

  revoked_counts : s ≡ after_revoke r xid → (is_own : ℕ → Bool) (earlier : ℕ) (opened : LinkParameters) (link : ℕ) (run : List Mark) (m : Mark) → RequesterKeeps is_own earlier opened link r run → is_own xid ≡ false → link_of m ≢ link → RequesterKeeps is_own (earlier + 1) opened link s (run ++ m ∷ [])
  revoked_counts after is_own earlier opened link run m keeps not other = subst (λ (x : RequesterSide). RequesterKeeps is_own (earlier + 1) opened link x (run ++ m ∷ [])) (sym after) (earlier_counts is_own earlier opened link r run m xid keeps not other).1

  forgotten_out : s ≡ after_forget r xid → (is_own : ℕ → Bool) (earlier : ℕ) (opened : LinkParameters) (link : ℕ) (stopped run : List Mark) (m : Mark) → RequesterStops is_own earlier opened link r stopped run → is_own xid ≡ false → link_of m ≢ link → RequesterStops is_own (earlier + 1) opened link s stopped (run ++ m ∷ [])
  forgotten_out after is_own earlier opened link stopped run m keeps not other = subst (λ (x : RequesterSide). RequesterStops is_own (earlier + 1) opened link x stopped (run ++ m ∷ [])) (sym after) (earlier_counts_stopped is_own earlier opened link r stopped run m xid keeps not other).0

  revoked_out : s ≡ after_revoke r xid → (is_own : ℕ → Bool) (earlier : ℕ) (opened : LinkParameters) (link : ℕ) (stopped run : List Mark) (m : Mark) → RequesterStops is_own earlier opened link r stopped run → is_own xid ≡ false → link_of m ≢ link → RequesterStops is_own (earlier + 1) opened link s stopped (run ++ m ∷ [])
  revoked_out after is_own earlier opened link stopped run m keeps not other = subst (λ (x : RequesterSide). RequesterStops is_own (earlier + 1) opened link x stopped (run ++ m ∷ [])) (sym after) (earlier_counts_stopped is_own earlier opened link r stopped run m xid keeps not other).1

  -- the outcome of an answer is handed over
  done_closes : (a : AnsweredCall) → found_answer xid r.state ≡ Some a → s ≡ after_forget r xid → Closes r s xid (λ link. marks.Done link xid a.outcome)
  done_closes a found after = record {
    of = λ link. refl;
    goes = λ is_own opened link run keeps own. subst (λ (x : RequesterSide). KeepsEarlier is_own opened link x (run ++ marks.Done link xid a.outcome ∷ [])) (sym after) ((earlier_goes r xid).0 a.outcome is_own opened link run keeps);
    stays = forgotten_stays after;
    law_left = λ is_own opened link run keeps own law. (let both = earlier_done_law is_own opened link r run xid a keeps own found law.asked law.granted in record { asked = both.0; granted = both.1 });
  }

  pub done_live : (a : AnsweredCall) → found_answer xid r.state ≡ Some a → s ≡ after_forget r xid → KeepsOn r (λ link. marks.Done link xid a.outcome) s → ClosesLive r s xid (λ link. marks.Done link xid a.outcome)
  done_live a found after on = record {
    closes = done_closes a found after;
    keeps = on;
    counts = forgotten_counts after;
    law = λ is_own earlier opened link run keeps own law. (let both = done_law is_own earlier opened link r run keeps xid a own found law.asked law.granted in record { asked = both.0; granted = both.1 });
  }

  pub done_out : (a : AnsweredCall) → found_answer xid r.state ≡ Some a → s ≡ after_forget r xid → StopsOn r (λ link. marks.Done link xid a.outcome) s → ClosesOut r s xid (λ link. marks.Done link xid a.outcome)
  done_out a found after stops = record {
    closes = done_closes a found after;
    keeps = λ is_own earlier opened link stopped run st. (stopped, stops is_own earlier opened link stopped run st);
    counts = forgotten_out after;
    law = λ is_own earlier opened link stopped run st own law. (let both = done_stopped_law is_own earlier opened link r stopped run st xid a own found law.asked law.granted in record { asked = both.0; granted = both.1 });
  }

  -- a call is given up
  forget_closes : is_some (open_call xid r.state) ≡ true → s ≡ after_forget r xid → Closes r s xid (λ link. marks.Forget link xid)
  forget_closes there after = record {
    of = λ link. refl;
    goes = λ is_own opened link run keeps own. subst (λ (x : RequesterSide). KeepsEarlier is_own opened link x (run ++ marks.Forget link xid ∷ [])) (sym after) ((earlier_goes r xid).1.0 is_own opened link run keeps);
    stays = forgotten_stays after;
    law_left = λ is_own opened link run keeps own law.
        (let a = left_answer is_own opened link r run xid keeps own there in
        let both = earlier_forget_law is_own opened link r run xid a.0 keeps own a.1 law.asked law.granted in
        record { asked = both.0; granted = both.1 });
  }

  pub forget_live : is_some (open_call xid r.state) ≡ true → s ≡ after_forget r xid → KeepsOn r (λ link. marks.Forget link xid) s → ClosesLive r s xid (λ link. marks.Forget link xid)
  forget_live there after on = record {
    closes = forget_closes there after;
    keeps = on;
    counts = forgotten_counts after;
    law = λ is_own earlier opened link run keeps own law. (let both = forget_law is_own earlier opened link r run keeps xid own there law.asked law.granted in record { asked = both.0; granted = both.1 });
  }

  pub forget_out : is_some (open_call xid r.state) ≡ true → s ≡ after_forget r xid → StopsOn r (λ link. marks.Forget link xid) s → ClosesOut r s xid (λ link. marks.Forget link xid)
  forget_out there after stops = record {
    closes = forget_closes there after;
    keeps = λ is_own earlier opened link stopped run st. (stopped, stops is_own earlier opened link stopped run st);
    counts = forgotten_out after;
    law = λ is_own earlier opened link stopped run st own law. (let both = forget_stopped_law is_own earlier opened link r stopped run st xid own there law.asked law.granted in record { asked = both.0; granted = both.1 });
  }

  module _ (bytes : List ℕ) (are : bytes ≡ bytes_of_buffers (buffers_of xid r.state)) (there : is_some (open_call xid r.state) ≡ true) (after : s ≡ after_revoke r xid) where
    these : (opened : LinkParameters) (link : ℕ) (run : List Mark) → KeepsLinkLaw opened link (run ++ marks.Revoke link xid (bytes_of_buffers (buffers_of xid r.state)) ∷ []) → KeepsLinkLaw opened link (run ++ marks.Revoke link xid bytes ∷ [])
    these opened link run law = subst (λ (b : List ℕ). KeepsLinkLaw opened link (run ++ marks.Revoke link xid b ∷ [])) (sym are) law

    -- the memory of a call is revoked
    revoke_closes : Closes r s xid (λ link. marks.Revoke link xid bytes)
    revoke_closes = record {
      of = λ link. refl;
      goes = λ is_own opened link run keeps own. subst (λ (x : RequesterSide). KeepsEarlier is_own opened link x (run ++ marks.Revoke link xid bytes ∷ [])) (sym after) ((earlier_goes r xid).1.1 bytes is_own opened link run keeps);
      stays = revoked_stays after;
      law_left = λ is_own opened link run keeps own law.
          (let a = left_answer is_own opened link r run xid keeps own there in
          let both = earlier_revoke_law is_own opened link r run xid a.0 keeps own a.1 law.asked law.granted in
          these opened link run (record { asked = both.0; granted = both.1 }));
    }

    pub revoke_live : KeepsOn r (λ link. marks.Revoke link xid bytes) s → ClosesLive r s xid (λ link. marks.Revoke link xid bytes)
    revoke_live on = record {
      closes = revoke_closes;
      keeps = on;
      counts = revoked_counts after;
      law = λ is_own earlier opened link run keeps own law.
          (let both = revoke_law is_own earlier opened link r run keeps xid own (open_remains r.state xid there) (open_law is_own earlier opened link r run keeps xid own there) law.asked law.granted in
          these opened link run (record { asked = both.0; granted = both.1 }));
    }

    pub revoke_out : StopsOnRevoke r xid bytes s → ClosesOut r s xid (λ link. marks.Revoke link xid bytes)
    revoke_out stops = record {
      closes = revoke_closes;
      keeps = λ is_own earlier opened link stopped run st. (stopped ++ marks.Revoke link xid bytes ∷ [], stops is_own earlier opened link stopped run st);
      counts = revoked_out after;
      law = λ is_own earlier opened link stopped run st own law.
          (let both = revoke_stopped_law is_own earlier opened link r stopped run st xid own (open_remains r.state xid there) (open_stopped is_own earlier opened link r stopped run st xid own there) law.asked law.granted in
          these opened link run (record { asked = both.0; granted = both.1 }));
    }

  -- a call is lost: its link has ended, and it has no answer
  lost_open : (is_own : ℕ → Bool) (opened : LinkParameters) (link : ℕ) (run : List Mark) → KeepsEarlier is_own opened link r run → is_own xid ≡ true → is_some (open_call xid r.state) ≡ true → found_answer xid r.state ≡ None → ⊥
  lost_open is_own opened link run keeps own there none = let a = left_answer is_own opened link r run xid keeps own there in absurd (no_answer a.0 (sym none ∙ a.1)) where
    no_answer : (a : AnsweredCall) → None ≡ Some a → ⊥
    no_answer a e = absurd cc

  pub lost_live : (end : End) → r.state.side.ended ≡ Some end → is_some (open_call xid r.state) ≡ true → found_answer xid r.state ≡ None → s ≡ after_revoke r xid → KeepsOn r (λ link. marks.Lost link xid) s → ClosesLive r s xid (λ link. marks.Lost link xid)
  lost_live end ended there none after on = record {
    closes = record {
      of = λ link. refl;
      goes = λ is_own opened link run keeps own. absurd (lost_open is_own opened link run keeps own there none);
      stays = revoked_stays after;
      law_left = λ is_own opened link run keeps own law. absurd (lost_open is_own opened link run keeps own there none);
    };
    keeps = on;
    counts = revoked_counts after;
    law = λ is_own earlier opened link run keeps own law. (let both = lost_law is_own earlier opened link r run keeps xid end own ended there none law.asked law.granted in record { asked = both.0; granted = both.1 });
  }
