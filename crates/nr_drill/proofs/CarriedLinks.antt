-- Both ends of each link keep their laws in full. If no line puts bytes into the pipes of a link, or of any link of its client, each side receives what
-- the other sent.
use Rattle.std.specs.Prelude.{◌-◌}
use Rattle.std.specs.List.{AllByRecursion, range_with_len}
use Rattle.std.proofs.Common.{◌≡◌, ◌≢◌, ℕ, zero, suc, ◌+◌, ◌≤◌, ◌<◌, arith, eqb, eqb-true, Bool, true, false, List, [], ◌∷◌, ◌++◌, length, refl, sym, ap, subst, ◌∙◌, append_assoc}
use Rattle.std.proofs.lemmas.Bool.{eq-eqb}
use Rattle.nr_xdr.specs.Item.{IsBytes}
use Rattle.nr_wire.specs.declared.hello.Side.{Side}
use Rattle.nr_wire.specs.declared.hello.Side.TheVariants.{Initiator, Responder}
use Rattle.nr_reduce.specs.declared.mark.Mark.{Mark}
use Rattle.nr_reduce.specs.declared.mark.LinkParameters.{LinkParameters}
use Rattle.nr_reduce.specs.History.{bytes_sent, bytes_received, is_dropped}
use Rattle.nr_reduce.specs.Matched.{Matched}
use Rattle.nr_reduce.specs.Asked.{Asked}
use Rattle.nr_reduce.specs.Served.{Served}
use Rattle.nr_reduce.specs.OutcomesDue.{outcomes_due}
use Rattle.nr_laws.specs.Grant.{AcceptsByRule}
use Rattle.nr_reduce.specs.SubmitAnswer.{calls_to_resend}
use Rattle.nr_laws.proofs.Granted.{submits_within}
use Rattle.nr_texts.specs.declared.opening.Opening.{Opening}
use Rattle.nr_script.specs.Limits.{lines_max}
use Rattle.nr_script.specs.declared.script.Line.{Line}
use Rattle.nr_script.specs.declared.script.Line.TheVariants as lines
use Rattle.nr_script.specs.Script.{ScriptLines, IsScript}
use Rattle.nr_drill.specs.Drill.{SerialServer, Setting, Drill, IsLink, client_of, setting_now, pipes_of, empty_pipes, start, with_cred, after_raw, after_opening, after_openings, after_leaving, last_link}
use Rattle.nr_drill.specs.Follows.{Makes, MakeAll, Follows, HasRawLine, setting_of, last_setting, opened_drill}
use Rattle.nr_drill.specs.Headline.{KeepsLaws}
use Rattle.nr_drill.specs.InBytes.{RepliedInBytes}
use Rattle.nr_drill.proofs.Lawful.{Keeps}
use Rattle.nr_drill.proofs.Followed.{Extends, KeepsAll, laws_of, same_setting, same_all, opening_adds, start_lawful, start_none}
use Rattle.nr_drill.proofs.Carried.{Carries, carries_up, carries_down, carries_submit, carries_work, carries_forget, carries_revoke, carries_drop, carries_grant, carries_elsewhere, opening_carries, fresh_carries, here_all, same_marks}
use Rattle.nr_drill.proofs.Actions.{Action, after_action, counted, IsIn, IsLineOf, ActsIn, IsLastOf, MayAct, IsKept, AnyRaw, NotOf, all_act, line_kept, lines_kept, lines_of, lines_not_of}
use Rattle.nr_drill.proofs.Actions.Action.{SubmitCall, FeedUp, FeedDown, WorkOnce, ForgetCall, RevokeCall, DropLink, PutRaw, GrantCredits}
use Rattle.nr_drill.proofs.Links.{LinkHolds, DrillHolds, NoMarkOf, none_sent, action_extends, link_of_same}
use Rattle.nr_drill.proofs.OneRun.{last_made}
use Rattle.nr_drill.proofs.BegunLinks.{Holds, IsBegun, begun_drill, next_link, begins_so, holds_kept, counted_most, first_then, replied_before, AreOpen, open_one, at_start, none_of_next, opened_count, lines_hold}

-- ===== an action on the link itself

own_carries : (s : Setting) (Raws : ℕ → Type 0) (most c link : ℕ) (a : Action) (d : Drill) → (Raws c → ⊥) → MayAct Raws most c d a → Keeps s link d → Carries link d → Carries link (after_action s link a d)
own_carries s Raws most c link (SubmitCall call form) d none may k h = carries_submit s link call form d k h
own_carries s Raws most c link (FeedUp n) d none may k h = carries_up s link n d k h
own_carries s Raws most c link (FeedDown n) d none may k h = carries_down s link n d k h
own_carries s Raws most c link WorkOnce d none may k h = carries_work s link d h
own_carries s Raws most c link (ForgetCall number) d none may k h = carries_forget s link number d h
own_carries s Raws most c link (RevokeCall number) d none may k h = carries_revoke s link number d k h
own_carries s Raws most c link DropLink d none may k h = carries_drop link d h
own_carries s Raws most c link (PutRaw side bytes) d none may k h = absurd (none may.0)
own_carries s Raws most c link (GrantCredits credits) d none may k h = carries_grant link credits d h

-- the links of a client carry what is sent on them
abbrev pub ClientCarries : Setting → (own : ℕ) → Drill → Type 0
ClientCarries s own d = (link : ℕ) → IsLink d link → client_of (setting_now s d) link ≡ own → Carries link d

differs : false ≡ true → ⊥
differs e = absurd cc

apart_pipes : (a b : ℕ) → 1 ≤ a → 1 ≤ b → a ≢ b → a - 1 ≢ b - 1
apart_pipes a b one other ne = λ same. ne (omega (arith, one, other, same))

-- an action leaves what other links carry; and what its own link does, if it puts nothing into the pipes of that
acts_carry : (s : Setting) (opening : Opening) (Raws : ℕ → Type 0) (n c link other : ℕ) (a : Action) (d : Drill) → IsLastOf opening.clients c link d → (link ≡ other → Raws c → ⊥) → MayAct Raws opening.credits c d a → DrillHolds s opening n d →
    IsLink d other → Carries other d → Carries other (after_action (setting_now s d) link a d)
acts_carry s opening Raws n c link other a d last none may h was carries = by (eqb link other) refl
  where
    t : Setting
    t = setting_now s d

    new : Drill
    new = after_action t link a d

    here : IsLink d link × (client_of t link ≡ c)
    here = h.frame.owned c link last

    by : (b : Bool) → eqb link other ≡ b → Carries other new
    by true e =
        let one = eqb-true link other e in
        let l = h.links link here.0 in
        subst (λ (m : ℕ). Carries m new) one (own_carries t Raws opening.credits c link a d (none one) may (l.lawful, l.written, l.none) (subst (λ (m : ℕ). Carries m d) (sym one) carries))
    by false e =
        let ne : link ≢ other = (λ same. differs (sym e ∙ eq-eqb link other same)) in
        carries_elsewhere other link d new ne (apart_pipes other link was.0 here.0.0 (λ same. ne (sym same))) (action_extends t link a d) carries

client_acts : (s : Setting) (opening : Opening) (own n c link : ℕ) (a : Action) (d : Drill) → IsLastOf opening.clients c link d → MayAct (NotOf own) opening.credits c d a → DrillHolds s opening n d → ClientCarries s own d →
    ClientCarries s own (after_action (setting_now s d) link a d)
client_acts s opening own n c link a d last may h carries other is mine =
    acts_carry s opening (NotOf own) n c link other a d last (λ one ne. ne (sym (h.frame.owned c link last).1 ∙ ap (client_of t) one ∙ mine_then)) may h was (carries other was mine_then)
  where
    t : Setting
    t = setting_now s d

    new : Drill
    new = after_action t link a d

    x : Extends link d new
    x = action_extends t link a d

    was : IsLink d other
    was = link_of_same d new other x.opened is

    mine_then : client_of t other ≡ own
    mine_then = ap (λ (r : Setting). client_of r other) (sym (same_setting s d new (record { opened = x.opened; last_links = x.last_links }))) ∙ mine

-- ===== a link that begins

-- one that was there before
begun_carries : (link : ℕ) (d new : Drill) → new.marks ≡ d.marks → pipes_of link new ≡ pipes_of link d → length d.pipes < length new.pipes → Carries link d → Carries link new
begun_carries link d new marks_are pipes longer c = record {
  matched = subst (Matched link) (sym marks_are) c.matched;
  room = (let room = c.room in omega (arith, room, longer));
  carried = λ e. (let h = c.carried (ap (λ (run : List Mark). is_dropped link run) (sym marks_are) ∙ e) in record {
    up = (λ i. bytes_received link Responder (marks_are i) ++ (pipes i).up) ∙ h.up ∙ ap (λ (run : List Mark). bytes_sent link Initiator run) (sym marks_are);
    down = (λ i. bytes_received link Initiator (marks_are i) ++ (pipes i).down) ∙ h.down ∙ ap (λ (run : List Mark). bytes_sent link Responder run) (sym marks_are);
  });
  gone = λ e. pipes ∙ c.gone (ap (λ (run : List Mark). is_dropped link run) (sym marks_are) ∙ e);
}

-- one that opens
opened_carries : (s : Setting) (link : ℕ) (d : Drill) → NoMarkOf link d.marks → pipes_of link d ≡ empty_pipes → link - 1 < length d.pipes → Carries link (after_opening s link d)
opened_carries s link d apart empty room =
    let o = s.opened link in
    let fresh = same_all o link [] d.marks apart in
    let here = here_all link [] d.marks apart in
    let b = none_sent link d.marks apart in
    opening_carries s link d (ap calls_to_resend fresh.same_client ∙ start_none o link) (fresh.lawful (start_lawful o link)) here.dropped
    (fresh_carries link d room empty b.0 b.1 b.2 b.3 (here.matched tt))

-- all others, and that one
next_carries : (s : Setting) (c link other : ℕ) (d : Drill) → IsBegun s c link d → (IsLink d other → Carries other d) → IsLink (after_opening (setting_now s (begun_drill s c link d)) (next_link d) (begun_drill s c link d)) other →
    Carries other (after_opening (setting_now s (begun_drill s c link d)) (next_link d) (begun_drill s c link d))
next_carries s c link other d b carries is = by (eqb next other) refl
  where
    begun : Drill
    begun = begun_drill s c link d

    u : Setting
    u = setting_now s begun

    next : ℕ
    next = next_link d

    new : Drill
    new = after_opening u next begun

    x : Extends next begun new
    x = opening_adds u next begun

    by : (e : Bool) → eqb next other ≡ e → Carries other new
    by true e = subst (λ (l : ℕ). Carries l new) (eqb-true next other e) (opened_carries u next begun b.apart b.empty b.room)
    by false e =
        let ne : next ≢ other = (λ same. differs (sym e ∙ eq-eqb next other same)) in
        let was : IsLink d other = b.was_link other (λ same. ne (sym same)) (link_of_same begun new other x.opened is) in
        carries_elsewhere other next begun new ne (apart_pipes other next was.0 b.is_link.0 (λ same. ne (sym same))) x (begun_carries other d begun refl (b.old_pipes other was) b.longer (carries was))

client_begins : (s : Setting) (opening : Opening) (own n c link : ℕ) (d : Drill) → IsBegun s c link d → ClientCarries s own d → ClientCarries s own (after_leaving s c link d)
client_begins s opening own n c link d b carries = subst (λ (l : ℕ). ClientCarries s own (after_opening u l begun)) (sym b.is_last) all
  where
    begun : Drill
    begun = begun_drill s c link d

    u : Setting
    u = setting_now s begun

    new : Drill
    new = after_opening u (next_link d) begun

    x : Extends (next_link d) begun new
    x = opening_adds u (next_link d) begun

    same : setting_now s new ≡ u
    same = same_setting s begun new (record { opened = x.opened; last_links = x.last_links })

    all : ClientCarries s own new
    all other is mine =
        next_carries s c link other d b
        (λ was. carries other was (ap (λ (o : LinkParameters). client_of (record u { opened = λ l. o }) other) (sym (b.old_link other was)) ∙ ap (λ (r : Setting). client_of r other) (sym same) ∙ mine)) is

-- ===== all lines

abbrev pub CarriesThen : Setting → Opening → (own n : ℕ) → Drill → Type 0
CarriesThen s opening own n d = Holds s opening n d × (n ≤ lines_max → RepliedInBytes d.marks → ClientCarries s own d)

moved_on : (s : Setting) (own : ℕ) (d new : Drill) → new.marks ≡ d.marks → new.pipes ≡ d.pipes → new.opened ≡ d.opened → new.last_links ≡ d.last_links → ClientCarries s own d → ClientCarries s own new
moved_on s own d new m p o l carries link is mine =
    let same : setting_now s new ≡ setting_now s d = same_setting s d new (record { opened = o; last_links = l }) in
    same_marks link d new m p (carries link (link_of_same d new link o is) (ap (λ (r : Setting). client_of r link) (sym same) ∙ mine))

pub carries_kept : (s : Setting) (opening : Opening) (own : ℕ) → IsKept s opening AnyRaw (NotOf own) (CarriesThen s opening own)
carries_kept s opening own =
    let k = holds_kept s opening AnyRaw (NotOf own) in
    record {
      count = λ n d p. k.count n d p.0;
      later = λ n d p. (k.later n d p.0, λ le replied. p.1 (omega (arith, le)) replied);
      credential = λ n c cred d can typed p. (k.credential n c cred d can typed p.0, λ le replied. moved_on s own d (with_cred c cred d) refl refl refl refl (p.1 le replied));
      time = λ n seconds d p. (k.time n seconds d p.0, λ le replied. moved_on s own d (record d { seconds = d.seconds + seconds }) refl refl refl refl (p.1 le replied));
      action = λ n c link a d last acts may p. (
        k.action n c link a d last acts may p.0,
        λ le replied. (let most = counted_most a n in
            let fits : n ≤ lines_max = omega (arith, le, most) in
            let before = replied_before link d (after_action (setting_now s d) link a d) (action_extends (setting_now s d) link a d) replied in
            client_acts s opening own n c link a d last may (p.0.1 fits before) (p.1 fits before)),
      );
      begins = λ n c link d last acts numbered gone stays p. (
        k.begins n c link d last acts numbered gone stays p.0,
        λ le replied. (let fits : n ≤ lines_max = omega (arith, le) in
            let begun = begun_drill s c link d in
            let before = replied_before (last_link c begun) begun (after_leaving s c link d) (opening_adds (setting_now s begun) (last_link c begun) begun) replied in
            client_begins s opening own n c link d (begins_so s opening n c link d le last numbered stays (p.0.1 fits before)) (p.1 fits before)),
      );
    }

-- ===== the first links open

-- those of which some are open
record FirstCarry (done : ℕ) (d : Drill) : Type 0 where
  links : (link : ℕ) → 1 ≤ link → link ≤ done → Carries link d

first_one : (s : Setting) (clients done : ℕ) (d : Drill) → NoMarkOf (done + 1) d.marks → pipes_of (done + 1) d ≡ empty_pipes → done + 1 - 1 < length d.pipes → FirstCarry done d → FirstCarry (done + 1) (after_opening s (done + 1) d)
first_one s clients done d apart empty room h = record { links = by }
  where
    x : Extends (done + 1) d (after_opening s (done + 1) d)
    x = opening_adds s (done + 1) d

    by : (link : ℕ) → 1 ≤ link → link ≤ done + 1 → Carries link (after_opening s (done + 1) d)
    by link low high = cases (eqb (done + 1) link) refl
      where
        cases : (b : Bool) → eqb (done + 1) link ≡ b → Carries link (after_opening s (done + 1) d)
        cases true e = subst (λ (l : ℕ). Carries l (after_opening s (done + 1) d)) (eqb-true (done + 1) link e) (opened_carries s (done + 1) d apart empty room)
        cases false e =
            let ne : done + 1 ≢ link = (λ same. differs (sym e ∙ eq-eqb (done + 1) link same)) in
            carries_elsewhere link (done + 1) d (after_opening s (done + 1) d) ne (apart_pipes link (done + 1) low (omega arith) (λ same. ne (sym same))) x (h.links link low (omega (arith, high, ne)))

first_all : (server : SerialServer) (script : ScriptLines) (is : IsScript script) (done more : ℕ) (d : Drill) → done + more ≡ script.opening.clients → AreOpen server script done d → FirstCarry done d →
    FirstCarry script.opening.clients (after_openings (setting_of server script.opening) (range_with_len (done + 1) more) d)
first_all server script is done zero d all a h = (let same : done ≡ script.opening.clients = omega (arith, all) in subst (λ (m : ℕ). FirstCarry m d) same h)
first_all server script is done (suc more) d all a h =
    let s = setting_of server script.opening in
    let le : done + 1 ≤ script.opening.clients = omega (arith, all) in
    first_all server script is (done + 1) more (after_opening s (done + 1) d) (omega (arith, all)) (open_one server script is done d le a)
    (first_one s script.opening.clients done d (none_of_next server script done d a) (a.empty (done + 1) (omega arith) le) (let room = a.room in omega (arith, room, le)) h)

pub first_carries : (server : SerialServer) (script : ScriptLines) → IsScript script → (own : ℕ) → ClientCarries (setting_of server script.opening) own (opened_drill server script.opening)
unfolding opened_drill
first_carries server script is own link within mine =
    let all = first_all server script is 0 script.opening.clients (start (setting_of server script.opening) script.opening.clients) (omega arith) (at_start server script is) (record { links = λ l low high. absurd (omega (arith, low, high)) }) in
    let many = opened_count server script is in
    all.links link within.0 (let most = within.1 in omega (arith, most, many))

-- ===== one link, into whose pipes no line puts bytes

-- it carries what is sent on it, once it is there
abbrev LinkThen : Setting → Opening → (own n : ℕ) → Drill → Type 0
LinkThen s opening own n d = Holds s opening n d × (n ≤ lines_max → RepliedInBytes d.marks → IsLink d own → Carries own d)

-- nothing is put into pipes
abbrev NoRaw : ℕ → Type 0
NoRaw c = ⊥

link_acts : (s : Setting) (opening : Opening) (Raws : ℕ → Type 0) (own n c link : ℕ) (a : Action) (d : Drill) → IsLastOf opening.clients c link d → (link ≡ own → Raws c → ⊥) → MayAct Raws opening.credits c d a → LinkThen s opening own n d →
    LinkThen s opening own (counted a n) (after_action (setting_now s d) link a d)
link_acts s opening Raws own n c link a d last none may p = (
  (holds_kept s opening AnyRaw Raws).action n c link a d last tt may p.0,
  λ le replied is. (let x = action_extends (setting_now s d) link a d in
      let most = counted_most a n in
      let fits : n ≤ lines_max = omega (arith, le, most) in
      let before = replied_before link d (after_action (setting_now s d) link a d) x replied in
      let was = link_of_same d (after_action (setting_now s d) link a d) own x.opened is in
      acts_carry s opening Raws n c link own a d last none may (p.0.1 fits before) was (p.1 fits before was)),
)

link_moved : (own : ℕ) (d new : Drill) → new.marks ≡ d.marks → new.pipes ≡ d.pipes → new.opened ≡ d.opened → (IsLink d own → Carries own d) → IsLink new own → Carries own new
link_moved own d new m p o carries is = same_marks own d new m p (carries (link_of_same d new own o is))

link_kept : (s : Setting) (opening : Opening) (own : ℕ) → IsKept s opening AnyRaw NoRaw (LinkThen s opening own)
link_kept s opening own =
    let k = holds_kept s opening AnyRaw NoRaw in
    record {
      count = λ n d p. k.count n d p.0;
      later = λ n d p. (k.later n d p.0, λ le replied. p.1 (omega (arith, le)) replied);
      credential = λ n c cred d can typed p. (k.credential n c cred d can typed p.0, λ le replied. link_moved own d (with_cred c cred d) refl refl refl (p.1 le replied));
      time = λ n seconds d p. (k.time n seconds d p.0, λ le replied. link_moved own d (record d { seconds = d.seconds + seconds }) refl refl refl (p.1 le replied));
      action = λ n c link a d last acts may p. link_acts s opening NoRaw own n c link a d last (λ one wrong. wrong) may p;
      begins = λ n c link d last acts numbered gone stays p. (
        k.begins n c link d last acts numbered gone stays p.0,
        λ le replied. (let fits : n ≤ lines_max = omega (arith, le) in
            let begun = begun_drill s c link d in
            let before = replied_before (last_link c begun) begun (after_leaving s c link d) (opening_adds (setting_now s begun) (last_link c begun) begun) replied in
            let b = begins_so s opening n c link d le last numbered stays (p.0.1 fits before) in
            subst (λ (l : ℕ). IsLink (after_opening (setting_now s begun) l begun) own → Carries own (after_opening (setting_now s begun) l begun)) (sym b.is_last) (next_carries s c link own d b (p.1 fits before))),
      );
    }

-- a line puts bytes into its pipes
abbrev IsRawOn : ℕ → Line → Drill → Type 0
IsRawOn own (lines.Raw c side bytes) d = (last_link c d ≡ own) × (is_dropped own d.marks ≡ false)
IsRawOn own line d = ⊥

module _ (s : Setting) (opening : Opening) (own : ℕ) where
  abbrev P : ℕ → Drill → Type 0
  P = LinkThen s opening own

  -- bytes that are put into the pipes of another link, or of one that was dropped
  raw_kept : (n c : ℕ) (side : Side) (bytes : List ℕ) (d : Drill) → IsIn opening c → IsBytes bytes → (IsRawOn own (lines.Raw c side bytes) d → ⊥) → P n d → P n (after_raw (last_link c d) side bytes (is_dropped (last_link c d) d.marks) d)
  raw_kept n c side bytes d within typed not p = by (is_dropped (last_link c d) d.marks) refl
    where
      by : (b : Bool) → is_dropped (last_link c d) d.marks ≡ b → P n (after_raw (last_link c d) side bytes (is_dropped (last_link c d) d.marks) d)
      by true gone = subst (λ (b : Bool). P n (after_raw (last_link c d) side bytes b d)) (sym gone) p
      by false stands =
          link_acts s opening AnyRaw own n c (last_link c d) (PutRaw side bytes) d (record { low = within.0; high = within.1; is = refl })
          (λ same any. not (same, ap (λ (l : ℕ). is_dropped l d.marks) (sym same) ∙ stands)) (tt, typed) p

  other_line : (n clients : ℕ) (line : Line) (old new : Drill) → IsLineOf opening NoRaw line → ActsIn AnyRaw line → Makes s clients line old new → P n old → P (suc n) new
  other_line n clients line old new w acts e h = line_kept s opening AnyRaw NoRaw P (link_kept s opening own) n clients line old new w acts e h

  line_carried : (n clients : ℕ) (line : Line) (old new : Drill) → IsLineOf opening AnyRaw line → Makes s clients line old new → (IsRawOn own line old → ⊥) → P n old → P (suc n) new
  line_carried n clients (lines.Raw c side bytes) old new w e not h =
      subst (P (suc n)) (sym e) ((link_kept s opening own).later n (after_raw (last_link c old) side bytes (is_dropped (last_link c old) old.marks) old) (raw_kept n c side bytes old w.0 w.2 not h))
  line_carried n clients (lines.Cred c cred) old new w e not h = other_line n clients (lines.Cred c cred) old new w tt e h
  line_carried n clients (lines.Call c form prog vers proc args) old new w e not h = other_line n clients (lines.Call c form prog vers proc args) old new w tt e h
  line_carried n clients (lines.Up c most) old new w e not h = other_line n clients (lines.Up c most) old new w tt e h
  line_carried n clients (lines.Down c most) old new w e not h = other_line n clients (lines.Down c most) old new w tt e h
  line_carried n clients (lines.Work c) old new w e not h = other_line n clients (lines.Work c) old new w tt e h
  line_carried n clients (lines.Tick seconds) old new w e not h = other_line n clients (lines.Tick seconds) old new w tt e h
  line_carried n clients (lines.Forget c number) old new w e not h = other_line n clients (lines.Forget c number) old new w tt e h
  line_carried n clients (lines.Revoke c number) old new w e not h = other_line n clients (lines.Revoke c number) old new w tt e h
  line_carried n clients (lines.Drop c) old new w e not h = other_line n clients (lines.Drop c) old new w tt e h
  line_carried n clients (lines.Rejoin c) old new w e not h = other_line n clients (lines.Rejoin c) old new w tt e h
  line_carried n clients (lines.Grant c credits) old new w e not h = other_line n clients (lines.Grant c credits) old new w tt e h
  line_carried n clients lines.Drain old new w e not h = other_line n clients lines.Drain old new w (λ c. tt) e h

module _ (server : SerialServer) (script : ScriptLines) (own : ℕ) (not : HasRawLine server script own → ⊥) where
  abbrev base : Setting
  base = setting_of server script.opening

  abbrev clients : ℕ
  clients = script.opening.clients

  abbrev first : Drill
  first = opened_drill server script.opening

  none_here : (before after : List Line) (line : Line) (old : Drill) → script.lines ≡ before ++ line ∷ after → MakeAll base clients before first old → IsRawOn own line old → ⊥
  none_here before after (lines.Raw c side bytes) old cut made is =
      not (record { before = before; after = after; client = c; side = side; bytes = bytes; is_cut = cut; old = old; made = made; is_last = is.0; stands = is.1 })
  none_here before after (lines.Cred c cred) old cut made is = is
  none_here before after (lines.Call c form prog vers proc args) old cut made is = is
  none_here before after (lines.Up c most) old cut made is = is
  none_here before after (lines.Down c most) old cut made is = is
  none_here before after (lines.Work c) old cut made is = is
  none_here before after (lines.Tick seconds) old cut made is = is
  none_here before after (lines.Forget c number) old cut made is = is
  none_here before after (lines.Revoke c number) old cut made is = is
  none_here before after (lines.Drop c) old cut made is = is
  none_here before after (lines.Rejoin c) old cut made is = is
  none_here before after (lines.Grant c credits) old cut made is = is
  none_here before after lines.Drain old cut made is = is

  rest_carried : (n m : ℕ) (before rest : List Line) (old new : Drill) → script.lines ≡ before ++ rest → MakeAll base clients before first old → AllByRecursion (IsLineOf script.opening AnyRaw) rest → n + length rest ≡ m → MakeAll base clients rest old new →
      LinkThen base script.opening own n old → LinkThen base script.opening own m new
  rest_carried n m before [] old new cut made w count e h =
      (let same : n ≡ m = omega (arith, count) in subst (λ (x : ℕ). LinkThen base script.opening own x new) same (subst (LinkThen base script.opening own n) (sym e) h))
  rest_carried n m before (line ∷ rest) old new cut made w count e h =
      rest_carried (suc n) m (before ++ line ∷ []) rest e.0 new (cut ∙ sym (append_assoc before (line ∷ []) rest)) (last_made base clients before line first old e.0 made e.1) w.1 (omega (arith, count)) e.2
      (line_carried base script.opening own n clients line old e.0 w.0 e.1 (none_here before rest line old cut made) h)

  -- after all lines
  link_carried : (is : IsScript script) (last : Drill) → MakeAll base clients script.lines first last → RepliedInBytes last.marks → IsLink last own → Carries own last
  link_carried is last makes replied within =
      (rest_carried 0 (length script.lines) [] script.lines first last refl refl (lines_of script is) (omega arith) makes
      (first_then server script is, λ le all there. first_carries server script is (client_of (setting_now base first) own) own there refl)).1 is.few_lines replied within

-- ===== the laws of each link

link_laws : (opening : Opening) (n : ℕ) (o : LinkParameters) (link : ℕ) (run : List Mark) → LinkHolds opening n o link run → KeepsAll o link run
link_laws opening n o link run h = laws_of o link run h.lawful h.written h.none

-- of a script whose first links carry what is sent on them
pub follows_keeps : (server : SerialServer) (script : ScriptLines) (run : List Mark) → IsScript script → RepliedInBytes run → (follows : Follows server script run) → (link : ℕ) → IsLink follows.last link →
    KeepsLaws server script ((last_setting follows).opened link) (client_of (last_setting follows) link) link run
follows_keeps server script run is replied follows link within =
    let s = setting_of server script.opening in
    let o = (last_setting follows).opened link in
    let own = client_of (last_setting follows) link in
    let h = (lines_hold server script is run replied follows).links link within in
    let laws = link_laws script.opening (length script.lines) o link follows.last.marks h in
    let rejoin = sym follows.marks_are in
    record {
      asked = subst (λ (r : List Mark). Asked o link r) rejoin laws.asked;
      served = subst (λ (r : List Mark). Served o link r) rejoin laws.served;
      accepts = subst (λ (r : List Mark). AcceptsByRule o link r) rejoin laws.accepts;
      grant = submits_within o link run (subst (λ (r : List Mark). AcceptsByRule o link r) rejoin laws.accepts);
      handed = subst (λ (r : List Mark). outcomes_due o link r ≡ []) rejoin h.due;
      matched = λ raw.
          (let all = lines_kept s script.opening AnyRaw (NotOf own) (CarriesThen s script.opening own) (carries_kept s script.opening own) 0 (length script.lines) script.opening.clients script.lines (opened_drill server script.opening)
          follows.last (lines_not_of own script is raw) (all_act script.lines) (omega arith) follows.makes
          (first_then server script is, λ le replied. first_carries server script is own) in
          subst (Matched link) rejoin (all.1 is.few_lines (subst RepliedInBytes follows.marks_are replied) link within refl).matched);
      matched_alone = λ none. subst (Matched link) rejoin (link_carried server script link none is follows.last follows.makes (subst RepliedInBytes follows.marks_are replied) within).matched;
    }
