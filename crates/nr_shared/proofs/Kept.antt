-- What a source and a dialer are after a read, a stop, and a dial.
use Rattle.std.proofs.Common.{◌≡◌, ◌≢◌, ℕ, ◌≤◌, ◌||◌, arith, Bool, true, false, is_some, List, [], ◌∷◌, append-nil, Option, Some, None, refl, sym, ap, subst, ◌∙◌}
use Rattle.nr_outside.specs.Content.{HandsOut}
use Rattle.nr_outside.specs.Faults.{Rises}
use Rattle.nr_outside.proofs.Moves.{HandsOut_append, HandsOut_nil}
use Rattle.nr_links.specs.Links.{EndedLink, EndsLink, HasOpenLink, IsNewLink, IsTold, IsToldNew, LinkLog, MakesLink, ended_link}
use Rattle.nr_shared.specs.declared.entry.Entry.TheVariants as entries
use Rattle.nr_shared.specs.declared.entry.InitialSink.{InitialSink}
use Rattle.nr_shared.specs.declared.entry.Stop.{Stop}
use Rattle.nr_shared.specs.declared.entry.Stop.TheVariants as causes
use Rattle.nr_shared.specs.Dialing.{DialsNext, HasLink, IsNext, LinkHungUp}
use Rattle.nr_shared.specs.Draining.{fed_entry, initial_sink}
use Rattle.nr_shared.specs.Feeding.{AskedEach, HungUp, InitialGiving, KeepsDialer, KeepsSource, KeepsSourceIf, KeepsSourceOf, LinkEndedIf, LinkMade, StopHolds}
use Rattle.nr_shared.specs.Histories.{PastLink, PresentLink, is_lost_by, is_read_fault, present_after}
use Rattle.nr_shared.specs.Standing.{KeepsSinkIf, KeepsSinkOf}
use Rattle.nr_shared.specs.private.Reading.{read_part}
use Rattle.nr_shared.proofs.Moving.{rises_from}

pub none_some : {A : Type 0} (x : A) → None ≡ Some x → ⊥
none_some x e = absurd cc

true_false : true ≡ false → ⊥
true_false e = absurd cc

pub none_dial : (out : Bool) (piece : List ℕ) (n : ℕ) (l : PresentLink) → l.stopped ≡ None → (present_after l (fed_entry out piece n)).stopped ≢ Some causes.DialFault
none_dial true piece n l goes e = absurd cc
none_dial false piece n l goes e = none_some causes.DialFault (sym goes ∙ e)

-- a cause that is met now holds of the source since its bytes began to move
holds_since : (cause : Stop) (before faults faults' : ℕ) (left : Option (List ℕ)) (read : ℕ) → before ≤ faults → StopHolds (Some cause) faults faults' left read → StopHolds (Some cause) before faults' left read
holds_since causes.LinkRead before faults faults' left read le is = rises_from before faults faults' le is
holds_since causes.Closed before faults faults' left read le is = is
holds_since causes.Budget before faults faults' left read le is = is
holds_since causes.Memory before faults faults' left read le is = tt
holds_since causes.DialFault before faults faults' left read le is = tt
holds_since (causes.Spent spent need) before faults faults' left read le is = tt
holds_since causes.NotReopened before faults faults' left read le is = tt

-- ---- The source

module _ {I : Type 0} (link : I → ℕ) (left given : I → Option (List ℕ)) (faults : I → ℕ) (numbered told : Bool) where
  -- what is written doesn't matter
  pub to_part : (shared : InitialGiving) (o : Option I) (i : Option InitialSink) (read : ℕ) (l : PresentLink) → KeepsSourceIf link left given faults numbered told shared o i read l → KeepsSourceIf link left given faults numbered told shared o i read (read_part l)
  to_part shared (Some source) (Some sink) read l k = record { number = k.number; first = k.first; is_first = k.is_first; gave = k.gave; never_falls = k.never_falls; failed = k.failed; counted = k.counted; stop = k.stop }
  to_part shared None None read l k = k
  to_part shared (Some source) None read l k = absurd k
  to_part shared None (Some sink) read l k = absurd k

  of_part : (shared : InitialGiving) (o : Option I) (i : Option InitialSink) (read : ℕ) (l : PresentLink) → KeepsSourceIf link left given faults numbered told shared o i read (read_part l) → KeepsSourceIf link left given faults numbered told shared o i read l
  of_part shared (Some source) (Some sink) read l k = record { number = k.number; first = k.first; is_first = k.is_first; gave = k.gave; never_falls = k.never_falls; failed = k.failed; counted = k.counted; stop = k.stop }
  of_part shared None None read l k = k
  of_part shared (Some source) None read l k = absurd k
  of_part shared None (Some sink) read l k = absurd k

  pub by_part : (shared : InitialGiving) (o : Option I) (read : ℕ) (l m : PresentLink) → read_part l ≡ m → KeepsSourceOf link left given faults numbered told shared o read m → KeepsSourceOf link left given faults numbered told shared o read l
  by_part shared o read l m is k = of_part shared o l.sink read l (subst (λ (x : PresentLink). KeepsSourceOf link left given faults numbered told shared o read x) (sym is) k)

  pub source_same : (shared : InitialGiving) (o : Option I) (read : ℕ) (l m : PresentLink) → read_part m ≡ read_part l → KeepsSourceOf link left given faults numbered told shared o read l → KeepsSourceOf link left given faults numbered told shared o read m
  source_same shared o read l m is k = by_part shared o read m (read_part l) is (to_part shared o l.sink read l k)

  -- a piece was read and fed
  pub piece_if : (shared : InitialGiving) (source source' : I) (i : Option InitialSink) (read read' : ℕ) (l : PresentLink) (piece : List ℕ) (out : Bool) → HandsOut (left source) (given source) (left source') (given source') piece → link source' ≡ link source → faults source' ≡ faults source
      → l.stopped ≡ None → KeepsSourceIf link left given faults numbered told shared (Some source) i read l → KeepsSourceIf link left given faults numbered told shared (Some source') i read' (present_after l (fed_entry out piece 0))
  piece_if shared source source' None read read' l piece out gave number same goes k = absurd k
  piece_if shared source source' (Some sink) read read' l piece true gave number same goes k = record {
    number = λ is. number ∙ k.number is;
    first = k.first;
    is_first = k.is_first;
    gave = HandsOut_append k.first.left k.first.given (left source) (given source) (left source') (given source') l.fed piece k.gave gave;
    never_falls = (let n = k.never_falls in omega (arith, n, same));
    failed = λ is. subst (λ (n : ℕ). Rises k.first.faults n) (sym same) (k.failed is);
    counted = λ is. same ∙ k.counted is;
    stop = tt;
  }
  piece_if shared source source' (Some sink) read read' l piece false gave number same goes k = record {
    number = λ is. number ∙ k.number is;
    first = k.first;
    is_first = k.is_first;
    gave = HandsOut_append k.first.left k.first.given (left source) (given source) (left source') (given source') l.fed piece k.gave gave;
    never_falls = (let n = k.never_falls in omega (arith, n, same));
    failed = λ is. subst (λ (n : ℕ). Rises k.first.faults n) (sym same) (k.failed is);
    counted = λ is. same ∙ k.counted is;
    stop = subst (λ (o : Option Stop). StopHolds o k.first.faults (faults source') (left source') read') (sym goes) tt;
  }

  -- no more is read
  pub stop_if : (shared : InitialGiving) (source source' : I) (i : Option InitialSink) (read : ℕ) (l : PresentLink) (cause : Stop) → HandsOut (left source) (given source) (left source') (given source') [] → link source' ≡ link source → faults source ≤ faults source'
      → (cause ≢ causes.LinkRead → faults source' ≡ faults source) → StopHolds (Some cause) (faults source) (faults source') (left source') read
      → KeepsSourceIf link left given faults numbered told shared (Some source) i read l → KeepsSourceIf link left given faults numbered told shared (Some source') i read (present_after l (entries.Stopped cause 0))
  stop_if shared source source' None read l cause gave number rises same holds k = absurd k
  stop_if shared source source' (Some sink) read l cause gave number rises same holds k = record {
    number = λ is. number ∙ k.number is;
    first = k.first;
    is_first = k.is_first;
    gave = subst (λ (bytes : List ℕ). HandsOut k.first.left k.first.given (left source') (given source') bytes) (append-nil l.fed)
        (HandsOut_append k.first.left k.first.given (left source) (given source) (left source') (given source') l.fed [] k.gave gave);
    never_falls = (let n = k.never_falls in omega (arith, n, rises));
    failed = λ is. fails cause l.read_failed same holds k.never_falls k.failed is;
    counted = λ is. counts cause l.read_failed same k.counted is;
    stop = holds_since cause k.first.faults (faults source) (faults source') (left source') read k.never_falls holds;
  } where
    differs : (c : Stop) → is_read_fault c ≡ false → c ≢ causes.LinkRead
    differs c is e = true_false (sym (ap is_read_fault e) ∙ is)

    or_false : (x y : Bool) → (x || y) ≡ false → (x ≡ false) × (y ≡ false)
    or_false true y e = absurd cc
    or_false false y e = (refl, e)

    rises_on : (a b c : ℕ) → c ≡ b → Rises a b → Rises a c
    rises_on a b c e r = subst (λ (n : ℕ). Rises a n) (sym e) r

    fails : (c : Stop) (read_failed : Bool) → (c ≢ causes.LinkRead → faults source' ≡ faults source) → StopHolds (Some c) (faults source) (faults source') (left source') read → k.first.faults ≤ faults source → (read_failed ≡ true → Rises k.first.faults (faults source)) → (read_failed || is_read_fault c) ≡ true → Rises k.first.faults (faults source')
    fails causes.LinkRead failed s h never old is = rises_from k.first.faults (faults source) (faults source') never h
    fails causes.Closed true s h never old is = rises_on _ _ _ (s (λ e. absurd cc)) (old refl)
    fails causes.Budget true s h never old is = rises_on _ _ _ (s (λ e. absurd cc)) (old refl)
    fails causes.Memory true s h never old is = rises_on _ _ _ (s (λ e. absurd cc)) (old refl)
    fails causes.DialFault true s h never old is = rises_on _ _ _ (s (λ e. absurd cc)) (old refl)
    fails (causes.Spent spent need) true s h never old is = rises_on _ _ _ (s (λ e. absurd cc)) (old refl)
    fails causes.NotReopened true s h never old is = rises_on _ _ _ (s (λ e. absurd cc)) (old refl)
    fails causes.Closed false s h never old is = absurd cc
    fails causes.Budget false s h never old is = absurd cc
    fails causes.Memory false s h never old is = absurd cc
    fails causes.DialFault false s h never old is = absurd cc
    fails (causes.Spent spent need) false s h never old is = absurd cc
    fails causes.NotReopened false s h never old is = absurd cc

    counts : (c : Stop) (read_failed : Bool) → (c ≢ causes.LinkRead → faults source' ≡ faults source) → (read_failed ≡ false → faults source ≡ k.first.faults) → (read_failed || is_read_fault c) ≡ false → faults source' ≡ k.first.faults
    counts c failed s old is = let both = or_false failed (is_read_fault c) is in s (differs c both.1) ∙ old both.0

  -- the next link was dialled
  next_if : (shared : InitialGiving) (source : I) (sink : InitialSink) (read previous : ℕ) (l : PresentLink) → link source ≡ sink.link → IsNewLink (given source) sink.taken (faults source) sink.faults → (told ≡ true → IsToldNew (given source) (left source) sink.taken)
      → KeepsSource link left given faults numbered told shared source sink read (present_after l (entries.Rejoin (Some sink) previous))
  next_if shared source sink read previous l number new known = record {
    number = λ is. number;
    first = record { left = left source; given = given source; faults = faults source };
    is_first = (new, known);
    gave = HandsOut_nil (left source) (given source);
    never_falls = omega arith;
    failed = λ is. absurd cc;
    counted = λ is. refl;
    stop = tt;
  }

-- ---- The dialer

module _ {D : Type 0} (asked : D → Option (List (List ℕ))) (ended : D → Option LinkLog) (faults : D → ℕ) (addr : List ℕ) (giving : InitialGiving) where
  pub dialer_to : (shared dialer : D) (l : PresentLink) → KeepsDialer asked ended faults addr giving shared dialer l → KeepsDialer asked ended faults addr giving shared dialer (read_part l)
  dialer_to shared dialer l k = record { open_link = k.open_link; hung_up = k.hung_up; dialled = k.dialled; counted = k.counted; failed = k.failed }

  pub dialer_of : (shared dialer : D) (l : PresentLink) → KeepsDialer asked ended faults addr giving shared dialer (read_part l) → KeepsDialer asked ended faults addr giving shared dialer l
  dialer_of shared dialer l k = record { open_link = k.open_link; hung_up = k.hung_up; dialled = k.dialled; counted = k.counted; failed = k.failed }

  pub dialer_same : (shared dialer : D) (l m : PresentLink) → read_part m ≡ read_part l → KeepsDialer asked ended faults addr giving shared dialer l → KeepsDialer asked ended faults addr giving shared dialer m
  dialer_same shared dialer l m is k = dialer_of shared dialer m (subst (λ (x : PresentLink). KeepsDialer asked ended faults addr giving shared dialer x) (sym is) (dialer_to shared dialer l k))

  -- it stays, while no dial failed
  pub dialer_stays : (shared dialer : D) (l m : PresentLink) → m.sink ≡ l.sink → m.left ≡ l.left → l.stopped ≢ Some causes.DialFault → m.stopped ≢ Some causes.DialFault → KeepsDialer asked ended faults addr giving shared dialer l → KeepsDialer asked ended faults addr giving shared dialer m
  dialer_stays shared dialer l m sink left before after k = record {
    open_link = λ some. k.open_link (ap (λ (o : Option InitialSink). is_some o) (sym sink) ∙ some);
    hung_up = subst (λ (o : Option InitialSink). HungUp (is_some (ended shared)) giving o m.left (ended shared) (ended dialer)) (sym sink)
        (subst (λ (past : List PastLink). HungUp (is_some (ended shared)) giving l.sink past (ended shared) (ended dialer)) (sym left) k.hung_up);
    dialled = subst (λ (o : Option InitialSink). AskedEach addr o m.left (asked shared) (asked dialer)) (sym sink)
        (subst (λ (past : List PastLink). AskedEach addr l.sink past (asked shared) (asked dialer)) (sym left) k.dialled);
    counted = λ no. k.counted before;
    failed = λ is. absurd (after is);
  }

-- a log that is told is told from then on
ends_known : (before after : Option LinkLog) (e : EndedLink) → EndsLink before after e → is_some before ≡ true → is_some after ≡ true
ends_known None after e ends known = absurd cc
ends_known (Some log) after e ends known = ap (λ (o : Option LinkLog). is_some o) ends

makes_known : (before after : Option LinkLog) → MakesLink before after → is_some before ≡ true → is_some after ≡ true
makes_known None after made known = absurd cc
makes_known (Some log) after made known = ap (λ (o : Option LinkLog). is_some o) made.0

same_known : (before after : Option LinkLog) → after ≡ before → is_some before ≡ true → is_some after ≡ true
same_known before after same known = ap (λ (o : Option LinkLog). is_some o) same ∙ known

told_still : (told : Bool) (shared : InitialGiving) (sink : Option InitialSink) (past : List PastLink) (before after : Option LinkLog) → HungUp told shared sink past before after → is_some before ≡ true → is_some after ≡ true
told_still told shared sink [] before after same known = same_known before after same known
told_still told shared sink (p ∷ past) before after (found, ended, hung, ends, made) known = made_by sink made (ended_by p.sink ends (told_still told shared p.sink past before found hung known)) where
  ended_by : (o : Option InitialSink) → LinkEndedIf told shared past p o found ended → is_some found ≡ true → is_some ended ≡ true
  ended_by (Some s) e k = ends_known found ended (ended_link s.link e.given e.left e.taken) e.ends k
  ended_by None e k = same_known found ended e k

  made_by : (o : Option InitialSink) → LinkMade o ended after → is_some ended ≡ true → is_some after ≡ true
  made_by (Some s) m k = makes_known ended after m k
  made_by None m k = same_known ended after m k

-- ---- A redial

pub lost_some : (failed : Bool) (o : Option Stop) → is_lost_by failed o ≡ true → o ≢ Some causes.DialFault
lost_some failed None lost e = absurd cc
lost_some failed (Some causes.DialFault) lost e = absurd cc
lost_some failed (Some causes.LinkRead) lost e = absurd cc
lost_some failed (Some causes.Closed) lost e = absurd cc
lost_some failed (Some causes.Budget) lost e = absurd cc
lost_some failed (Some causes.Memory) lost e = absurd cc
lost_some failed (Some (causes.Spent spent need)) lost e = absurd cc
lost_some failed (Some causes.NotReopened) lost e = absurd cc

module _ {I O D : Type 0} (link : I → ℕ) (left given : I → Option (List ℕ)) (faults : I → ℕ) (sink_link : O → ℕ) (taken : O → Option (List ℕ)) (sink_faults : O → ℕ) (asked : D → Option (List (List ℕ))) (ended : D → Option LinkLog) (dialer_faults : D → ℕ) (shared : InitialGiving) where
  -- a lost link can be hung up
  pub can_hang_up : (o : Option I) (k : Option O) (read : ℕ) (l : PresentLink) (first dialer : D) (addr : List ℕ) → KeepsSourceOf link left given faults true (is_some (ended first)) shared o read l → KeepsSinkOf sink_link taken sink_faults k l → KeepsDialer asked ended dialer_faults addr shared first dialer l → HasOpenLink (ended first)
      → HasLink link sink_link ended o k dialer
  can_hang_up o k read l first dialer addr source sink keeps opened = by_halves o k l.sink refl source sink where
    by_halves : (x : Option I) (y : Option O) (i : Option InitialSink) → l.sink ≡ i → KeepsSourceIf link left given faults true (is_some (ended first)) shared x i read l → KeepsSinkIf sink_link taken sink_faults y i l → HasLink link sink_link ended x y dialer
    by_halves (Some source) (Some sink) (Some i) is a b = (a.number refl ∙ sym b.number, keeps.open_link (ap (λ (z : Option InitialSink). is_some z) is) opened)
    by_halves None None None is a b = tt
    by_halves (Some source) y None is a b = absurd a
    by_halves None y (Some i) is a b = absurd a
    by_halves (Some source) None (Some i) is a b = absurd b
    by_halves None (Some sink) None is a b = absurd b

  -- It was hung up, and the next one was dialled.
  known_next : (o o' : Option I) (k k' : Option O) (l : PresentLink) (first dialer dialer' : D) (addr : List ℕ) → DialsNext link left given faults sink_link taken sink_faults asked ended dialer_faults o o' k k' dialer dialer' addr
      → KeepsDialer asked ended dialer_faults addr shared first dialer l → is_some (ended first) ≡ true → is_some (ended dialer') ≡ true
  known_next o o' k k' l first dialer dialer' addr d keeps known = by_next o' k' d.next where
    hung : (x : Option I) (y : Option O) → LinkHungUp link left given taken x y (ended dialer) d.log → is_some (ended dialer) ≡ true → is_some d.log ≡ true
    hung (Some a) (Some b) up is = ends_known (ended dialer) d.log _ up is
    hung None None up is = same_known (ended dialer) d.log up is
    hung (Some a) None up is = same_known (ended dialer) d.log up is
    hung None (Some b) up is = same_known (ended dialer) d.log up is

    logged : is_some d.log ≡ true
    logged = hung o k d.hung_up (told_still (is_some (ended first)) shared l.sink l.left (ended first) (ended dialer) keeps.hung_up known)

    by_next : (x : Option I) (y : Option O) → IsNext link left given faults sink_link taken sink_faults x y addr (asked dialer) (asked dialer') d.log (ended dialer') (dialer_faults dialer) (dialer_faults dialer') → is_some (ended dialer') ≡ true
    by_next (Some a) (Some b) n = makes_known d.log (ended dialer') n.1.1.1.0 logged
    by_next None None n = same_known d.log (ended dialer') n.1.0 logged
    by_next (Some a) None n = absurd n
    by_next None (Some b) n = absurd n

  if_some : (o : Option LinkLog) (given left taken : Option (List ℕ)) → IsTold o given left taken → is_some o ≡ true → IsToldNew given left taken
  if_some (Some log) given left taken is known = is
  if_some None given left taken is known = absurd cc

  pub source_next : (o o' : Option I) (k k' : Option O) (read : ℕ) (l : PresentLink) (first dialer dialer' : D) (addr : List ℕ) (previous : ℕ) → DialsNext link left given faults sink_link taken sink_faults asked ended dialer_faults o o' k k' dialer dialer' addr
      → KeepsDialer asked ended dialer_faults addr shared first dialer l
      → KeepsSourceOf link left given faults true (is_some (ended first)) shared o' read (present_after l (entries.Rejoin (initial_sink sink_link taken sink_faults k') previous))
  source_next o (Some source) k (Some sink) read l first dialer dialer' addr previous d keeps =
      next_if link left given faults true (is_some (ended first)) shared source (record { link = sink_link sink; faults = sink_faults sink; taken = taken sink }) read previous l d.next.0 d.next.1.0
      (λ known. if_some (ended dialer') (given source) (left source) (taken sink) d.next.1.1.1.1.0 (known_next o (Some source) k (Some sink) l first dialer dialer' addr d keeps known))
  source_next o None k None read l first dialer dialer' addr previous d keeps = refl
  source_next o (Some source) k None read l first dialer dialer' addr previous d keeps = absurd d.next
  source_next o None k (Some sink) read l first dialer dialer' addr previous d keeps = absurd d.next

  pub dialer_next : (o o' : Option I) (k k' : Option O) (read : ℕ) (l : PresentLink) (first dialer dialer' : D) (addr : List ℕ) (previous : ℕ) → DialsNext link left given faults sink_link taken sink_faults asked ended dialer_faults o o' k k' dialer dialer' addr
      → KeepsSourceOf link left given faults true (is_some (ended first)) shared o read l → KeepsSinkOf sink_link taken sink_faults k l → l.stopped ≢ Some causes.DialFault
      → KeepsDialer asked ended dialer_faults addr shared first dialer l → KeepsDialer asked ended dialer_faults addr shared first dialer' (present_after l (entries.Rejoin (initial_sink sink_link taken sink_faults k') previous))
  dialer_next o o' k k' read l first dialer dialer' addr previous d source sink lost keeps = by_next o' k' d.next where
    past : PastLink
    past = record { sink = l.sink; written = l.written; fed = l.fed }

    ended_one : (x : Option I) (y : Option O) (i : Option InitialSink) → KeepsSourceIf link left given faults true (is_some (ended first)) shared x i read l → KeepsSinkIf sink_link taken sink_faults y i l → LinkHungUp link left given taken x y (ended dialer) d.log
        → LinkEndedIf (is_some (ended first)) shared l.left past i (ended dialer) d.log
    ended_one (Some a) (Some b) (Some i) s t up = record {
      given = given a;
      left = left a;
      taken = taken b;
      ends = subst (λ (n : ℕ). EndsLink (ended dialer) d.log (ended_link n (given a) (left a) (taken b))) (s.number refl) up;
      took = t.took;
      first = s.first;
      is_first = s.is_first;
      gave = s.gave;
    }
    ended_one None None None s t up = up
    ended_one (Some a) y None s t up = absurd s
    ended_one None y (Some i) s t up = absurd s
    ended_one (Some a) None (Some i) s t up = absurd t
    ended_one None (Some b) None s t up = absurd t

    hung_on : (i : Option InitialSink) (after : Option LinkLog) → LinkMade i d.log after → HungUp (is_some (ended first)) shared i (past ∷ l.left) (ended first) after
    hung_on i after made = (ended dialer, d.log, keeps.hung_up, ended_one o k l.sink source sink d.hung_up, made)

    by_next : (x : Option I) (y : Option O) → IsNext link left given faults sink_link taken sink_faults x y addr (asked dialer) (asked dialer') d.log (ended dialer') (dialer_faults dialer) (dialer_faults dialer')
        → KeepsDialer asked ended dialer_faults addr shared first dialer' (present_after l (entries.Rejoin (initial_sink sink_link taken sink_faults y) previous))
    by_next (Some a) (Some b) n = record {
      open_link = λ some opened. n.1.1.1.0.1;
      hung_up = hung_on (Some (record { link = sink_link b; faults = sink_faults b; taken = taken b })) (ended dialer') n.1.1.1.0;
      dialled = (asked dialer, keeps.dialled, n.1.1.0);
      counted = λ no. n.1.1.1.1.1 ∙ keeps.counted lost;
      failed = λ is. absurd cc;
    }
    by_next None None n = record {
      open_link = λ some opened. absurd cc;
      hung_up = hung_on None (ended dialer') n.1.0;
      dialled = (asked dialer, keeps.dialled, n.0);
      counted = λ no. absurd (no refl);
      failed = λ is. subst (λ (z : ℕ). Rises z (dialer_faults dialer')) (keeps.counted lost) n.1.1;
    }
    by_next (Some a) None n = absurd n
    by_next None (Some b) n = absurd n
