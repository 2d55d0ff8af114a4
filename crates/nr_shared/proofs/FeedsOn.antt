-- The pass that feeds, with the source and the dialer: after a turn, a read, and a dial.
use Rattle.std.proofs.Common.{◌≡◌, ◌≢◌, ℕ, ◌+◌, ◌≤◌, arith, Bool, true, false, is_some, List, [], ◌∷◌, ◌++◌, length, length-append, append-nil, Option, Some, None, ◌⊎◌, ⊎_elim, inl, refl, sym, ap, subst, ◌∙◌}
use Rattle.std.specs.String.{string_bytes}
use Rattle.std.proofs.lemmas.Grind.{flat_map-append}
use mathlib.Core.Option.{some-injective}
use lib.ListN.{get_elem?}
use Rattle.nr_outside.specs.Content.{HandsOut}
use Rattle.nr_outside.proofs.Moves.{HandsOut_nil}
use Rattle.nr_links.specs.Limits.{piece_max, read_max}
use Rattle.nr_links.specs.Links.{HasOpenLink, LinkLog}
use Rattle.nr_turnstile.specs.declared.turnstile.Pass.{Pass}
use Rattle.nr_turnstile.specs.Rule.{Lies}
use Rattle.nr_turnstile.specs.Passes.{IsOutside, home_of, mine_of, seen_by}
use Rattle.nr_shared.specs.declared.entry.Entry.{Entry}
use Rattle.nr_shared.specs.declared.entry.Entry.TheVariants as entries
use Rattle.nr_shared.specs.declared.entry.InitialSink.{InitialSink}
use Rattle.nr_shared.specs.declared.entry.InitialState.{InitialState}
use Rattle.nr_shared.specs.declared.entry.Stop.{Stop}
use Rattle.nr_shared.specs.declared.entry.Stop.TheVariants as causes
use Rattle.nr_shared.specs.declared.source_reader.InitialSource.{InitialSource}
use Rattle.nr_shared.specs.declared.source_reader.SourceReader.{SourceReader}
use Rattle.nr_shared.specs.declared.requester_with_sink.RequesterWithSink.{RequesterWithSink}
use Rattle.nr_shared.specs.Callers.{IsFeeding}
use Rattle.nr_shared.specs.Dialing.{CannotReopen, DialsNext}
use Rattle.nr_shared.specs.Draining.{fed_entry, initial_sink, stopped_after}
use Rattle.nr_shared.specs.Feeding.{Feeds, FeedsFor, InitialGiving, KeepsDialer, KeepsSourceIf, KeepsSourceOf, StopHolds, address_of, shared_giving}
use Rattle.nr_shared.specs.Histories.{PresentLink, bytes_fed, fed_by, initial_of, is_lost, last_feeding, place_or_none, present, present_after, rejoins, tries_of}
use Rattle.nr_shared.specs.Output.{IsTryLeft}
use Rattle.nr_shared.specs.Standing.{KeepsSinkOf}
use Rattle.nr_shared.specs.private.Reading.{CanHangUp, IsReadEnd, IsUnmoved, Leaves, Redials, StaysLost, read_part}
use Rattle.nr_shared.proofs.Alone.{tries_more}
use Rattle.nr_shared.proofs.Histories.{present_end}
use Rattle.nr_shared.proofs.Kept.{by_part, can_hang_up, dialer_next, dialer_of, dialer_same, dialer_stays, dialer_to, lost_some, none_dial, none_some, piece_if, source_next, source_same, stop_if, to_part}

pub lies_same : {O C : Type 0} (r s : Pass (RequesterWithSink O C) Entry) → seen_by s ≡ seen_by r → mine_of s ≡ mine_of r → Lies (seen_by r) (mine_of r) → Lies (seen_by s) (mine_of s)
lies_same r s seen mine l = subst (λ (x : List Entry). Lies x (mine_of s)) (sym seen) (subst (λ (m : List ℕ). Lies (seen_by r) m) (sym mine) l)

-- ---- The reader

module _ {I O C D : Type 0} (link : I → ℕ) (left given : I → Option (List ℕ)) (faults : I → ℕ) (asked : D → Option (List (List ℕ))) (ended : D → Option LinkLog) (dialer_faults : D → ℕ) where
  -- what a source and a dialer are after a history: since they were shared so
  pub record Reads (b : InitialSource I O C D) (source : Option I) (dialer : D) (read : ℕ) (h : List Entry) : Type 0 where
    pub source_is : KeepsSourceOf link left given faults (is_some (tries_of h)) (is_some (ended b.dialer.value)) (shared_giving left given faults b.source.value) source read (present h)
    pub dialer_is : KeepsDialer asked ended dialer_faults (address_of b) (shared_giving left given faults b.source.value) b.dialer.value dialer (present h)
    pub open_link : is_some (tries_of h) ≡ true → HasOpenLink (ended b.dialer.value)
    pub read_is : read ≡ b.read + length (bytes_fed h)
    pub within : read ≤ read_max

  pub of_feeds : (b : InitialSource I O C D) (s : SourceReader I O C D) → FeedsFor link left given faults asked ended dialer_faults b s → Reads b s.source s.dialer s.read (seen_by s.pass)
  of_feeds b s f = record { source_is = f.source; dialer_is = f.dialer; open_link = f.open_link; read_is = f.read; within = f.within }

  pub to_feeds : (b : InitialSource I O C D) (s : SourceReader I O C D) → string_bytes s.addr ≡ address_of b → home_of s.pass ≡ home_of b.pass.value → IsOutside s.pass → Lies (seen_by s.pass) (mine_of s.pass) → IsFeeding s.pass → length s.buf.items ≡ piece_max → Reads b s.source s.dialer s.read (seen_by s.pass)
      → FeedsFor link left given faults asked ended dialer_faults b s
  to_feeds b s address home outside lies feeding room r = record { home = home; outside = outside; lies = lies; feeding = feeding; source = r.source_is; dialer = r.dialer_is; open_link = r.open_link; address = address; read = r.read_is; within = r.within; room = room }

  -- entries that tell nothing of the link at hand but what is written
  pub reads_turned : (b : InitialSource I O C D) (source : Option I) (dialer : D) (read : ℕ) (h k : List Entry) → Reads b source dialer read h → tries_of k ≡ tries_of h → bytes_fed k ≡ bytes_fed h → read_part (present k) ≡ read_part (present h) → Reads b source dialer read k
  reads_turned b source dialer read h k r tries bytes part =
      let shared = shared_giving left given faults b.source.value in
      record {
        source_is = subst (λ (x : Bool). KeepsSourceOf link left given faults x (is_some (ended b.dialer.value)) shared source read (present k)) (ap (λ (o : Option ℕ). is_some o) (sym tries))
            (source_same link left given faults (is_some (tries_of h)) (is_some (ended b.dialer.value)) shared source read (present h) (present k) part r.source_is);
        dialer_is = dialer_same asked ended dialer_faults (address_of b) shared b.dialer.value dialer (present h) (present k) part r.dialer_is;
        open_link = λ some. r.open_link (ap (λ (o : Option ℕ). is_some o) (sym tries) ∙ some);
        read_is = r.read_is ∙ ap (λ (l : List ℕ). b.read + length l) (sym bytes);
        within = r.within;
      }

  -- a piece was read and fed
  pub reads_more : (b : InitialSource I O C D) (source source' : I) (dialer : D) (read read' : ℕ) (h k : List Entry) (piece : List ℕ) (out : Bool) → Reads b (Some source) dialer read h → tries_of k ≡ tries_of h
      → HandsOut (left source) (given source) (left source') (given source') piece → link source' ≡ link source → faults source' ≡ faults source → (present h).stopped ≡ None → read' ≡ read + length piece → read' ≤ read_max
      → bytes_fed k ≡ bytes_fed h ++ piece → read_part (present k) ≡ present_after (read_part (present h)) (fed_entry out piece 0) → Reads b (Some source') dialer read' k
  reads_more b source source' dialer read read' h k piece out r tries gave number same goes more within bytes part =
      let shared = shared_giving left given faults b.source.value in
      let x = is_some (tries_of h) in
      let l = read_part (present h) in
      record {
        source_is = subst (λ (z : Bool). KeepsSourceOf link left given faults z (is_some (ended b.dialer.value)) shared (Some source') read' (present k)) (ap (λ (o : Option ℕ). is_some o) (sym tries))
            (by_part link left given faults x (is_some (ended b.dialer.value)) shared (Some source') read' (present k) (present_after l (fed_entry out piece 0)) part (piece_of shared x out l goes (to_part link left given faults x (is_some (ended b.dialer.value)) shared (Some source) l.sink read (present h) r.source_is)));
        dialer_is = dialer_of asked ended dialer_faults (address_of b) shared b.dialer.value dialer (present k) (subst (λ (m : PresentLink). KeepsDialer asked ended dialer_faults (address_of b) shared b.dialer.value dialer m) (sym part)
            (dialer_piece shared out l goes (dialer_to asked ended dialer_faults (address_of b) shared b.dialer.value dialer (present h) r.dialer_is)));
        open_link = λ some. r.open_link (ap (λ (o : Option ℕ). is_some o) (sym tries) ∙ some);
        read_is = (let was = r.read_is in let len = ap length bytes ∙ length-append (bytes_fed h) piece in omega (arith, was, more, len));
        within = within;
      } where
        piece_of : (shared : InitialGiving) (x o : Bool) (l : PresentLink) → l.stopped ≡ None → KeepsSourceOf link left given faults x (is_some (ended b.dialer.value)) shared (Some source) read l → KeepsSourceOf link left given faults x (is_some (ended b.dialer.value)) shared (Some source') read' (present_after l (fed_entry o piece 0))
        piece_of shared x true l none k = piece_if link left given faults x (is_some (ended b.dialer.value)) shared source source' l.sink read read' l piece true gave number same none k
        piece_of shared x false l none k = piece_if link left given faults x (is_some (ended b.dialer.value)) shared source source' l.sink read read' l piece false gave number same none k

        dialer_piece : (shared : InitialGiving) (o : Bool) (l : PresentLink) → l.stopped ≡ None → KeepsDialer asked ended dialer_faults (address_of b) shared b.dialer.value dialer l → KeepsDialer asked ended dialer_faults (address_of b) shared b.dialer.value dialer (present_after l (fed_entry o piece 0))
        dialer_piece shared true l none k = dialer_stays asked ended dialer_faults (address_of b) shared b.dialer.value dialer l (present_after l (fed_entry true piece 0)) refl refl (λ e. none_some causes.DialFault (sym none ∙ e)) (none_dial true piece 0 l none) k
        dialer_piece shared false l none k = dialer_stays asked ended dialer_faults (address_of b) shared b.dialer.value dialer l (present_after l (fed_entry false piece 0)) refl refl (λ e. none_some causes.DialFault (sym none ∙ e)) (none_dial false piece 0 l none) k

  -- no more is read
  pub reads_stopped : (b : InitialSource I O C D) (source source' : I) (dialer : D) (read : ℕ) (h k : List Entry) (cause : Stop) → Reads b (Some source) dialer read h → tries_of k ≡ tries_of h
      → HandsOut (left source) (given source) (left source') (given source') [] → link source' ≡ link source → faults source ≤ faults source' → (cause ≢ causes.LinkRead → faults source' ≡ faults source) → (present h).stopped ≡ None → IsReadEnd cause
      → StopHolds (Some cause) (faults source) (faults source') (left source') read
      → bytes_fed k ≡ bytes_fed h → read_part (present k) ≡ present_after (read_part (present h)) (entries.Stopped cause 0) → Reads b (Some source') dialer read k
  reads_stopped b source source' dialer read h k cause r tries gave number rises same goes ends holds bytes part =
      let shared = shared_giving left given faults b.source.value in
      let x = is_some (tries_of h) in
      let l = read_part (present h) in
      record {
        source_is = subst (λ (z : Bool). KeepsSourceOf link left given faults z (is_some (ended b.dialer.value)) shared (Some source') read (present k)) (ap (λ (o : Option ℕ). is_some o) (sym tries))
            (by_part link left given faults x (is_some (ended b.dialer.value)) shared (Some source') read (present k) (present_after l (entries.Stopped cause 0)) part
            (stop_if link left given faults x (is_some (ended b.dialer.value)) shared source source' l.sink read l cause gave number rises same holds (to_part link left given faults x (is_some (ended b.dialer.value)) shared (Some source) l.sink read (present h) r.source_is)));
        dialer_is = dialer_of asked ended dialer_faults (address_of b) shared b.dialer.value dialer (present k) (subst (λ (m : PresentLink). KeepsDialer asked ended dialer_faults (address_of b) shared b.dialer.value dialer m) (sym part)
            (dialer_stays asked ended dialer_faults (address_of b) shared b.dialer.value dialer l (present_after l (entries.Stopped cause 0)) refl refl (λ e. none_some causes.DialFault (sym goes ∙ e)) (λ e. no_dial cause ends e) (dialer_to asked ended dialer_faults (address_of b) shared b.dialer.value dialer (present h) r.dialer_is)));
        open_link = λ some. r.open_link (ap (λ (o : Option ℕ). is_some o) (sym tries) ∙ some);
        read_is = r.read_is ∙ ap (λ (bs : List ℕ). b.read + length bs) (sym bytes);
        within = r.within;
      } where
        no_dial : (c : Stop) → IsReadEnd c → Some c ≡ Some causes.DialFault → ⊥
        no_dial causes.LinkRead end e = absurd cc
        no_dial causes.Closed end e = absurd cc
        no_dial causes.Budget end e = absurd cc
        no_dial causes.Memory end e = end
        no_dial causes.DialFault end e = end
        no_dial (causes.Spent spent need) end e = end
        no_dial causes.NotReopened end e = end

  -- the requester couldn't be reopened
  pub reads_stay : (b : InitialSource I O C D) (source : Option I) (dialer : D) (read : ℕ) (h : List Entry) (c : InitialState) (cause : Stop) (previous : ℕ) → Reads b source dialer read h → initial_of h ≡ Some c → is_lost h ≡ true → CannotReopen cause
      → Reads b source dialer read (h ++ entries.Stopped cause previous ∷ [])
  reads_stay b source dialer read h c cause previous r is lost cannot =
      let shared = shared_giving left given faults b.source.value in
      let e : Entry = entries.Stopped cause previous in
      let now : present (h ++ e ∷ []) ≡ present_after (present h) e = present_end h e in
      let tries : tries_of (h ++ e ∷ []) ≡ tries_of h = tries_more h e c is in
      let bytes : bytes_fed (h ++ e ∷ []) ≡ bytes_fed h = flat_map-append fed_by h (e ∷ []) ∙ append-nil (bytes_fed h) in
      let l = present h in
      record {
        source_is = subst (λ (x : Bool). KeepsSourceOf link left given faults x (is_some (ended b.dialer.value)) shared source read (present (h ++ e ∷ []))) (ap (λ (o : Option ℕ). is_some o) (sym tries))
            (subst (λ (m : PresentLink). KeepsSourceOf link left given faults (is_some (tries_of h)) (is_some (ended b.dialer.value)) shared source read m) (sym now) (stays_if shared (is_some (tries_of h)) source l.sink r.source_is));
        dialer_is = subst (λ (m : PresentLink). KeepsDialer asked ended dialer_faults (address_of b) shared b.dialer.value dialer m) (sym now)
            (dialer_stays asked ended dialer_faults (address_of b) shared b.dialer.value dialer l (present_after l e) refl refl (lost_some l.write_failed l.stopped lost) (λ same. no_dial cause cannot same) r.dialer_is);
        open_link = λ some. r.open_link (ap (λ (o : Option ℕ). is_some o) (sym tries) ∙ some);
        read_is = r.read_is ∙ ap (λ (bs : List ℕ). b.read + length bs) (sym bytes);
        within = r.within;
      } where
        no_dial : (c : Stop) → CannotReopen c → Some c ≡ Some causes.DialFault → ⊥
        no_dial (causes.Spent spent need) end e = absurd cc
        no_dial causes.NotReopened end e = absurd cc
        no_dial causes.LinkRead end e = end
        no_dial causes.Closed end e = end
        no_dial causes.Budget end e = end
        no_dial causes.Memory end e = end
        no_dial causes.DialFault end e = end

        holds : (c : Stop) (n m : ℕ) (o : Option (List ℕ)) (k : ℕ) → CannotReopen c → StopHolds (Some c) n m o k
        holds (causes.Spent spent need) n m o k end = tt
        holds causes.NotReopened n m o k end = tt
        holds causes.LinkRead n m o k end = absurd end
        holds causes.Closed n m o k end = absurd end
        holds causes.Budget n m o k end = absurd end
        holds causes.Memory n m o k end = absurd end
        holds causes.DialFault n m o k end = absurd end

        stays_if : (shared : InitialGiving) (x : Bool) (o : Option I) (i : Option InitialSink) → KeepsSourceIf link left given faults x (is_some (ended b.dialer.value)) shared o i read (present h) → KeepsSourceIf link left given faults x (is_some (ended b.dialer.value)) shared o i read (present_after (present h) (entries.Stopped cause previous))
        stays_if shared x (Some source) i k = stop_if link left given faults x (is_some (ended b.dialer.value)) shared source source i read (present h) cause (HandsOut_nil (left source) (given source)) refl (omega arith) (λ no. refl) (holds cause (faults source) (faults source) (left source) read cannot) k
        stays_if shared x None None k = absurd (lost_some (present h).write_failed (present h).stopped lost k)
        stays_if shared x None (Some sink) k = absurd k

  -- the value of the source's turn
  pub feeds_value : (b : InitialSource I O C D) (s t : SourceReader I O C D) (h : List (InitialSource I O C D)) → h ≡ b ∷ [] → Feeds link left given faults asked ended dialer_faults s h → s ≡ t → FeedsFor link left given faults asked ended dialer_faults b t
  feeds_value b s t h one (d, two, f) same = subst (FeedsFor link left given faults asked ended dialer_faults b) same (subst (λ (x : InitialSource I O C D). FeedsFor link left given faults asked ended dialer_faults x s) (only d b (sym two ∙ one)) f) where
    only : (x y : InitialSource I O C D) → x ∷ [] ≡ y ∷ [] → x ≡ y
    only x y is = some-injective x y (ap (λ (l : List (InitialSource I O C D)). get_elem? l 0) is)

-- The lost link was left, and the next one was dialled.
pub reads_rejoined : {I O C D : Type 0} (link : I → ℕ) (left given : I → Option (List ℕ)) (faults : I → ℕ) (sink_link : O → ℕ) (taken : O → Option (List ℕ)) (sink_faults : O → ℕ) (asked : D → Option (List (List ℕ))) (ended : D → Option LinkLog) (dialer_faults : D → ℕ)
    (b : InitialSource I O C D) (source source' : Option I) (dialer dialer' : D) (read : ℕ) (h : List Entry) (c : InitialState) (k k' : Option O) (previous : ℕ) → Reads link left given faults asked ended dialer_faults b source dialer read h → initial_of h ≡ Some c
    → KeepsSinkOf sink_link taken sink_faults k (present h) → is_some (tries_of h) ≡ true → is_lost h ≡ true → DialsNext link left given faults sink_link taken sink_faults asked ended dialer_faults source source' k k' dialer dialer' (address_of b)
    → Reads link left given faults asked ended dialer_faults b source' dialer' read (h ++ entries.Rejoin (initial_sink sink_link taken sink_faults k') previous ∷ [])
reads_rejoined link left given faults sink_link taken sink_faults asked ended dialer_faults b source source' dialer dialer' read h c k k' previous r is sink some lost dials =
    let shared = shared_giving left given faults b.source.value in
    let e : Entry = entries.Rejoin (initial_sink sink_link taken sink_faults k') previous in
    let now : present (h ++ e ∷ []) ≡ present_after (present h) e = present_end h e in
    let tries : tries_of (h ++ e ∷ []) ≡ tries_of h = tries_more h e c is in
    let bytes : bytes_fed (h ++ e ∷ []) ≡ bytes_fed h = flat_map-append fed_by h (e ∷ []) ∙ append-nil (bytes_fed h) in
    let l = present h in
    record {
      source_is = subst (λ (z : Bool). KeepsSourceOf link left given faults z (is_some (ended b.dialer.value)) shared source' read (present (h ++ e ∷ []))) (sym (ap (λ (o : Option ℕ). is_some o) tries ∙ some))
          (subst (λ (m : PresentLink). KeepsSourceOf link left given faults true (is_some (ended b.dialer.value)) shared source' read m) (sym now)
          (source_next link left given faults sink_link taken sink_faults asked ended dialer_faults shared source source' k k' read l b.dialer.value dialer dialer' (address_of b) previous dials r.dialer_is));
      dialer_is = subst (λ (m : PresentLink). KeepsDialer asked ended dialer_faults (address_of b) shared b.dialer.value dialer' m) (sym now)
          (dialer_next link left given faults sink_link taken sink_faults asked ended dialer_faults shared source source' k k' read l b.dialer.value dialer dialer' (address_of b) previous dials
          (subst (λ (z : Bool). KeepsSourceOf link left given faults z (is_some (ended b.dialer.value)) shared source read l) some r.source_is) sink (lost_some l.write_failed l.stopped lost) r.dialer_is);
      open_link = λ is. r.open_link some;
      read_is = r.read_is ∙ ap (λ (bs : List ℕ). b.read + length bs) (sym bytes);
      within = r.within;
    }

-- ---- A turn of the pass that feeds

tries_some : (o : Option ℕ) (n : ℕ) → IsTryLeft o n → is_some o ≡ true
tries_some (Some tries) n left = refl
tries_some None n left = absurd left

pub either_way : {A B : Type 0} (x : Bool) → (x ≡ true → A) → (x ≡ false → A ⊎ B) → A ⊎ B
either_way true same other = inl (same refl)
either_way false same other = other refl

module _ {I O C D : Type 0} (link : I → ℕ) (left given : I → Option (List ℕ)) (faults : I → ℕ) (sink_link : O → ℕ) (taken : O → Option (List ℕ)) (sink_faults : O → ℕ) (asked : D → Option (List (List ℕ))) (ended : D → Option LinkLog) (dialer_faults : D → ℕ) where
  -- a lost link can be hung up
  pub hangs_up : (b : InitialSource I O C D) (source : Option I) (dialer : D) (read : ℕ) (h : List Entry) → Reads link left given faults asked ended dialer_faults b source dialer read h → CanHangUp link sink_link taken sink_faults ended h source dialer
  hangs_up b source dialer read h r may sink keeps =
      let shared = shared_giving left given faults b.source.value in
      let some = tries_some (tries_of h) (rejoins h) may.try_left in
      can_hang_up link left given faults sink_link taken sink_faults asked ended dialer_faults shared source sink read (present h) b.dialer.value dialer (address_of b)
      (subst (λ (z : Bool). KeepsSourceOf link left given faults z (is_some (ended b.dialer.value)) shared source read (present h)) some r.source_is) keeps r.dialer_is (r.open_link some)

  -- the link at hand stays, or was left
  pub reads_after : (b : InitialSource I O C D) (source source' : Option I) (dialer dialer' : D) (read : ℕ) (h k : List Entry) (addr : List ℕ) (c : InitialState) → addr ≡ address_of b → initial_of h ≡ Some c → Reads link left given faults asked ended dialer_faults b source dialer read h
      → IsUnmoved h k source source' dialer dialer' ⊎ Redials link left given faults sink_link taken sink_faults asked ended dialer_faults h k source source' dialer dialer' addr → Reads link left given faults asked ended dialer_faults b source' dialer' read k
  reads_after b source source' dialer dialer' read h k addr c to is r does = ⊎_elim
      (λ (same : IsUnmoved h k source source' dialer dialer').
      subst (λ (l : List Entry). Reads link left given faults asked ended dialer_faults b source' dialer' read l) (sym same.0)
      (subst (λ (i : Option I). Reads link left given faults asked ended dialer_faults b i dialer' read h) (sym same.1.0) (subst (λ (d : D). Reads link left given faults asked ended dialer_faults b source d read h) (sym same.1.1) r)))
      (λ (redials : Redials link left given faults sink_link taken sink_faults asked ended dialer_faults h k source source' dialer dialer' addr). ⊎_elim
      (λ (l : Leaves link left given faults sink_link taken sink_faults asked ended dialer_faults h k source source' dialer dialer' addr).
      subst (λ (x : List Entry). Reads link left given faults asked ended dialer_faults b source' dialer' read x) (sym l.seen)
      (reads_rejoined link left given faults sink_link taken sink_faults asked ended dialer_faults b source source' dialer dialer' read h c l.was l.sink (place_or_none (last_feeding h)) r is l.stood (tries_some (tries_of h) (rejoins h) redials.may.try_left) redials.may.lost
      (subst (λ (z : List ℕ). DialsNext link left given faults sink_link taken sink_faults asked ended dialer_faults source source' l.was l.sink dialer dialer' z) to l.dials)))
      (λ (s : StaysLost h k source source' dialer dialer').
      subst (λ (x : List Entry). Reads link left given faults asked ended dialer_faults b source' dialer' read x) (sym s.seen)
      (subst (λ (i : Option I). Reads link left given faults asked ended dialer_faults b i dialer' read (h ++ stopped_after h s.cause ∷ [])) (sym s.source_is)
      (subst (λ (d : D). Reads link left given faults asked ended dialer_faults b source d read (h ++ stopped_after h s.cause ∷ [])) (sym s.dialer_is)
      (reads_stay link left given faults asked ended dialer_faults b source dialer read h c s.cause (place_or_none (last_feeding h)) r is redials.may.lost s.cannot))))
      redials.does)
      does
