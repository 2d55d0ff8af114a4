-- All that lines make of a drill is made by actions on the last links of clients, by links that begin, by credentials and by the clock. What each of
-- these keeps every line keeps.
use Rattle.std.specs.Prelude.{◌-◌, ◌||◌, slice_index_or}
use Rattle.std.specs.List.{AllByRecursion, list_any}
use Rattle.std.proofs.Common.{◌≡◌, ◌≢◌, ℕ, zero, suc, ◌+◌, ◌≤◌, ◌<◌, ◌^◌, arith, eqb, Bool, true, false, leb, ◌&&◌, List, [], ◌∷◌, ◌++◌, length, Option, None, Some, refl, sym, ap, subst, ◌∙◌}
use Rattle.std.proofs.lemmas.Bool.{leb-true, eq-eqb}
use Rattle.nr_wire.specs.declared.hello.Side.{Side}
use Rattle.nr_rpc.specs.declared.cred.Cred.{Cred}
use Rattle.nr_rpc.specs.Credential.{CanWriteCred}
use Rattle.nr_link.specs.declared.end.End.{End}
use Rattle.nr_reduce.specs.declared.call.Call.{Call}
use Rattle.nr_reduce.specs.declared.call.Form.{Form}
use Rattle.nr_reduce.specs.declared.mark.Mark.{Mark}
use Rattle.nr_reduce.specs.declared.mark.Mark.TheVariants as marks
use Rattle.nr_reduce.specs.EndRules.{EndState}
use Rattle.nr_reduce.specs.ClientState.{ClientState}
use Rattle.nr_reduce.specs.History.{is_drop_of, is_dropped}
use Rattle.nr_reduce.specs.Run.{client, server}
use Rattle.nr_reduce.proofs.Steps.{client_one}
use Rattle.nr_reduce.proofs.Standing.{itself}
use Rattle.nr_laws.proofs.DistinctKeys.{any_append}
use Rattle.nr_texts.specs.declared.opening.Opening.{Opening}
use Rattle.nr_script.specs.declared.script.Line.{Line}
use Rattle.nr_script.specs.declared.script.Line.TheVariants as lines
use Rattle.nr_xdr.specs.Item.{IsBytes}
use Rattle.nr_reduce.specs.Plans.{HasWordPosition}
use Rattle.nr_script.specs.Script.{ScriptLines, HasWritableCred, IsTypedCred, IsTypedLine, FollowOn, is_client, is_call_line, credits_in_range, may_follow, IsScript}
use Rattle.nr_drill.specs.Drill.{Setting, Drill, setting_now, last_link, pipes_of, cred_of, with_cred, after_submit, after_up, after_down, after_work, after_calls, after_all_up, after_all_work, after_moves, after_round, after_forget, after_revoke, after_drop, after_raw, after_grant, after_leaving, after_drop_if, after_rejoin_on, after_rejoin}
use Rattle.nr_drill.specs.Follows.{Drains, Makes, MakeAll}
use Rattle.nr_drill.specs.Lines.{is_raw_of, acts_on}
use Rattle.nr_drill.proofs.Followed.{KeepsLinks, extending_keeps, same_setting, submit_adds, up_adds, down_adds, work_adds, forget_adds, revoke_adds, drop_adds, raw_adds, grant_adds}

-- ===== what is done on a link

pub data Action : Type 0 where
  SubmitCall : (call : Call) → (form : Form) → Action
  FeedUp : (most : ℕ) → Action
  FeedDown : (most : ℕ) → Action
  WorkOnce : Action
  ForgetCall : (number : ℕ) → Action
  RevokeCall : (number : ℕ) → Action
  DropLink : Action
  PutRaw : (side : Side) → (bytes : List ℕ) → Action
  GrantCredits : (credits : ℕ) → Action

abbrev pub after_action : Setting → ℕ → Action → Drill → Drill
after_action s link (SubmitCall call form) d = after_submit s link call form d
after_action s link (FeedUp most) d = after_up s link most d
after_action s link (FeedDown most) d = after_down s link most d
after_action s link WorkOnce d = after_work s link d
after_action s link (ForgetCall number) d = after_forget s link number d
after_action s link (RevokeCall number) d = after_revoke s link number d
after_action s link DropLink d = after_drop link d
after_action s link (PutRaw side bytes) d = after_raw link side bytes (is_dropped link d.marks) d
after_action s link (GrantCredits credits) d = after_grant link credits d

-- a client of a drill with this many clients, and its last link
pub record IsLastOf (clients client link : ℕ) (d : Drill) : Type 0 where
  pub low : 1 ≤ client
  pub high : client ≤ clients
  pub is : link ≡ last_link client d

-- A call has the credential of its client; credits are within those of the first line; bytes are put into the pipes of the links of such clients
-- alone.
abbrev pub MayAct : (Raws : ℕ → Type 0) → (most client : ℕ) → Drill → Action → Type 0
MayAct Raws most client d (SubmitCall call form) = (call.cred ≡ cred_of client d) × HasWordPosition form × (call.prog < 2 ^ 32) × (call.vers < 2 ^ 32) × (call.proc < 2 ^ 32) × IsBytes call.args
MayAct Raws most client d (FeedUp n) = Unit {0}
MayAct Raws most client d (FeedDown n) = Unit {0}
MayAct Raws most client d WorkOnce = Unit {0}
MayAct Raws most client d (ForgetCall number) = Unit {0}
MayAct Raws most client d (RevokeCall number) = Unit {0}
MayAct Raws most client d DropLink = Unit {0}
MayAct Raws most client d (PutRaw side bytes) = Raws client × IsBytes bytes
MayAct Raws most client d (GrantCredits credits) = (1 ≤ credits) × (credits ≤ most)

-- how many calls were submitted and links begun, with an action more
abbrev pub counted : Action → ℕ → ℕ
counted (SubmitCall call form) n = suc n
counted (FeedUp most) n = n
counted (FeedDown most) n = n
counted WorkOnce n = n
counted (ForgetCall number) n = n
counted (RevokeCall number) n = n
counted DropLink n = n
counted (PutRaw side bytes) n = n
counted (GrantCredits credits) n = n

-- What is kept, of a drill after at most so many calls were submitted and links begun: by each action on the last link of a client that may act, by each
-- link that such a client begins once that link is dropped, by credentials and by the clock.
pub record IsKept (s : Setting) (opening : Opening) (Acts Raws : ℕ → Type 0) (P : ℕ → Drill → Type 0) : Type 0 where
  pub count : (n : ℕ) (d : Drill) → P n d → length d.last_links ≡ opening.clients
  pub later : (n : ℕ) (d : Drill) → P n d → P (suc n) d
  pub credential : (n client : ℕ) (cred : Cred) (d : Drill) → CanWriteCred cred → IsTypedCred cred → P n d → P n (with_cred client cred d)
  pub time : (n seconds : ℕ) (d : Drill) → P n d → P n (record d { seconds = d.seconds + seconds })
  pub action : (n c link : ℕ) (a : Action) (d : Drill) → IsLastOf opening.clients c link d → Acts c → MayAct Raws opening.credits c d a → P n d → P (counted a n) (after_action (setting_now s d) link a d)
  pub begins : (n c link : ℕ) (d : Drill) → IsLastOf opening.clients c link d → Acts c → opening.numbered ≡ true → is_dropped link d.marks ≡ true →
      (client ((setting_now s d).opened link) link d.marks).ended ≡ None → P n d → P (suc n) (after_leaving s c link d)

-- ===== what an action leaves of the links

pub action_keeps : (s : Setting) (link : ℕ) (a : Action) (d : Drill) → KeepsLinks d (after_action s link a d)
action_keeps s link (SubmitCall call form) d = extending_keeps link d (after_submit s link call form d) (submit_adds s link call form d)
action_keeps s link (FeedUp most) d = extending_keeps link d (after_up s link most d) (up_adds s link most d)
action_keeps s link (FeedDown most) d = extending_keeps link d (after_down s link most d) (down_adds s link most d)
action_keeps s link WorkOnce d = extending_keeps link d (after_work s link d) (work_adds s link d)
action_keeps s link (ForgetCall number) d = extending_keeps link d (after_forget s link number d) (forget_adds s link number d)
action_keeps s link (RevokeCall number) d = extending_keeps link d (after_revoke s link number d) (revoke_adds s link number d)
action_keeps s link DropLink d = extending_keeps link d (after_drop link d) (drop_adds link d)
action_keeps s link (PutRaw side bytes) d = extending_keeps link d (after_raw link side bytes (is_dropped link d.marks) d) (raw_adds link side bytes (is_dropped link d.marks) d)
action_keeps s link (GrantCredits credits) d = extending_keeps link d (after_grant link credits d) (grant_adds link credits d)

pub then_keep : (a b c : Drill) → KeepsLinks a b → KeepsLinks b c → KeepsLinks a c
then_keep a b c x y = record { opened = y.opened ∙ x.opened; last_links = y.last_links ∙ x.last_links }

-- ===== the last links

-- what is so at each index is so of each element
each_at : {X : Type 0} (P : X → Type 0) (xs : List X) → ((i : ℕ) (other : X) → i < length xs → P (slice_index_or xs i other)) → AllByRecursion P xs
each_at P [] all = tt
each_at P (x ∷ xs) all = (all 0 x (omega arith), each_at P xs (λ i other lt. all (suc i) other (omega (arith, lt))))

abbrev pub IsLastOfSome : ℕ → Drill → ℕ → Type 0
IsLastOfSome clients d link = (c : ℕ) × IsLastOf clients c link d

pub all_last : (clients : ℕ) (d : Drill) → length d.last_links ≡ clients → AllByRecursion (IsLastOfSome clients d) d.last_links
all_last clients d count = each_at (IsLastOfSome clients d) d.last_links (λ i other lt. at i other lt)
  where
    inside : (links : List ℕ) (i one other : ℕ) → i < length links → slice_index_or links i one ≡ slice_index_or links i other
    inside [] i one other lt = absurd (omega (arith, lt))
    inside (l ∷ links) zero one other lt = refl
    inside (l ∷ links) (suc i) one other lt = inside links i one other (omega (arith, lt))

    at : (i other : ℕ) → i < length d.last_links → IsLastOfSome clients d (slice_index_or d.last_links i other)
    at i other lt =
        let here : i ≡ suc i - 1 = omega arith in (
          suc i,
          record {
            low = omega arith;
            high = omega (arith, lt, count);
            is = inside d.last_links i other (suc i) lt ∙ ap (λ (j : ℕ). slice_index_or d.last_links j (suc i)) here;
          },
        )

-- ===== lines

abbrev pub IsIn : Opening → ℕ → Type 0
IsIn opening c = (1 ≤ c) × (c ≤ opening.clients)

-- what a line of a script is
abbrev pub IsLineOf : Opening → (Raws : ℕ → Type 0) → Line → Type 0
IsLineOf opening Raws (lines.Cred c cred) = CanWriteCred cred × IsTypedCred cred
IsLineOf opening Raws (lines.Call c form prog vers proc args) = IsIn opening c × HasWordPosition form × (prog < 2 ^ 32) × (vers < 2 ^ 32) × (proc < 2 ^ 32) × IsBytes args
IsLineOf opening Raws (lines.Up c most) = IsIn opening c
IsLineOf opening Raws (lines.Down c most) = IsIn opening c
IsLineOf opening Raws (lines.Work c) = IsIn opening c
IsLineOf opening Raws (lines.Tick seconds) = Unit {0}
IsLineOf opening Raws (lines.Forget c number) = IsIn opening c
IsLineOf opening Raws (lines.Revoke c number) = IsIn opening c
IsLineOf opening Raws (lines.Drop c) = IsIn opening c
IsLineOf opening Raws (lines.Rejoin c) = IsIn opening c × (opening.numbered ≡ true)
IsLineOf opening Raws (lines.Raw c side bytes) = IsIn opening c × Raws c × IsBytes bytes
IsLineOf opening Raws (lines.Grant c credits) = IsIn opening c × ((1 ≤ credits) × (credits ≤ opening.credits))
IsLineOf opening Raws lines.Drain = Unit {0}

-- the clients that act in a line: in a drain all do
abbrev pub ActsIn : (ℕ → Type 0) → Line → Type 0
ActsIn Acts (lines.Cred c cred) = Unit {0}
ActsIn Acts (lines.Call c form prog vers proc args) = Acts c
ActsIn Acts (lines.Up c most) = Acts c
ActsIn Acts (lines.Down c most) = Acts c
ActsIn Acts (lines.Work c) = Acts c
ActsIn Acts (lines.Tick seconds) = Unit {0}
ActsIn Acts (lines.Forget c number) = Acts c
ActsIn Acts (lines.Revoke c number) = Acts c
ActsIn Acts (lines.Drop c) = Acts c
ActsIn Acts (lines.Rejoin c) = Acts c
ActsIn Acts (lines.Raw c side bytes) = Acts c
ActsIn Acts (lines.Grant c credits) = Acts c
ActsIn Acts lines.Drain = (c : ℕ) → Acts c

dropped_now : (link : ℕ) (run : List Mark) → is_dropped link (run ++ marks.Drop link ∷ []) ≡ true
dropped_now link run =
    any_append (is_drop_of link) run (marks.Drop link ∷ []) ∙ ap (λ (b : Bool). is_dropped link run || (b || false)) (itself link) ∙ or_true (is_dropped link run)
  where
    or_true : (b : Bool) → (b || true) ≡ true
    or_true true = refl
    or_true false = refl

module _ (s : Setting) (opening : Opening) (Acts Raws : ℕ → Type 0) (P : ℕ → Drill → Type 0) (k : IsKept s opening Acts Raws P) where
  -- an action, with the setting of an earlier drill that has the same links
  acted : (n c link : ℕ) (a : Action) (old d : Drill) → KeepsLinks old d → IsLastOf opening.clients c link old → Acts c → MayAct Raws opening.credits c d a → P n d → P (counted a n) (after_action (setting_now s old) link a d)
  acted n c link a old d keeps last acts may h =
      let now : IsLastOf opening.clients c link d = record { low = last.low; high = last.high; is = last.is ∙ sym (ap (λ (links : List ℕ). slice_index_or links (c - 1) c) keeps.last_links) } in
      subst (λ (t : Setting). P (counted a n) (after_action t link a d)) (same_setting s old d keeps) (k.action n c link a d now acts may h)

  -- the drill after some steps of a drain, which leave the links
  pub record Drained (old : Drill) (n : ℕ) (d : Drill) : Type 0 where
    pub holds : P n d
    pub keeps : KeepsLinks old d

  pub fed_up : (old : Drill) (n c link most : ℕ) (d : Drill) → IsLastOf opening.clients c link old → Acts c → Drained old n d → Drained old n (after_up (setting_now s old) link most d)
  fed_up old n c link most d last acts h = record {
    holds = acted n c link (FeedUp most) old d h.keeps last acts tt h.holds;
    keeps = then_keep old d (after_up (setting_now s old) link most d) h.keeps (action_keeps (setting_now s old) link (FeedUp most) d);
  }

  fed_down : (old : Drill) (n c link most : ℕ) (d : Drill) → IsLastOf opening.clients c link old → Acts c → Drained old n d → Drained old n (after_down (setting_now s old) link most d)
  fed_down old n c link most d last acts h = record {
    holds = acted n c link (FeedDown most) old d h.keeps last acts tt h.holds;
    keeps = then_keep old d (after_down (setting_now s old) link most d) h.keeps (action_keeps (setting_now s old) link (FeedDown most) d);
  }

  worked : (old : Drill) (n c link : ℕ) (d : Drill) → IsLastOf opening.clients c link old → Acts c → Drained old n d → Drained old n (after_work (setting_now s old) link d)
  worked old n c link d last acts h = record {
    holds = acted n c link WorkOnce old d h.keeps last acts tt h.holds;
    keeps = then_keep old d (after_work (setting_now s old) link d) h.keeps (action_keeps (setting_now s old) link WorkOnce d);
  }

  pub worked_all : (old : Drill) (n c link calls : ℕ) (d : Drill) → IsLastOf opening.clients c link old → Acts c → Drained old n d → Drained old n (after_calls (setting_now s old) link calls d)
  worked_all old n c link zero d last acts h = h
  worked_all old n c link (suc calls) d last acts h = worked_all old n c link calls (after_work (setting_now s old) link d) last acts (worked old n c link d last acts h)

  moved : (old : Drill) (n c link : ℕ) (d : Drill) → IsLastOf opening.clients c link old → Acts c → Drained old n d → Drained old n (after_moves (setting_now s old) link d)
  unfolding after_moves after_all_work
  moved old n c link d last acts h =
      let t = setting_now s old in
      let one = after_all_up t link d in
      let two = after_all_work t link one in
      fed_down old n c link (length (pipes_of link two).down) two last acts
      (worked_all old n c link (length (server (t.opened link) link one.marks).state.ready) one last acts (fed_up old n c link (length (pipes_of link d).up) d last acts h))

  pub round_kept : (old : Drill) (n : ℕ) (links : List ℕ) (d : Drill) → ((c : ℕ) → Acts c) → AllByRecursion (IsLastOfSome opening.clients old) links → Drained old n d → Drained old n (after_round (setting_now s old) links d)
  round_kept old n [] d acts last h = h
  round_kept old n (link ∷ links) d acts last h = round_kept old n links (after_moves (setting_now s old) link d) acts last.1 (moved old n last.0.0 link d last.0.1 (acts last.0.0) h)

  drained : (old : Drill) (n : ℕ) (links : List ℕ) (rounds : ℕ) (d new : Drill) → ((c : ℕ) → Acts c) → AllByRecursion (IsLastOfSome opening.clients old) links → Drains (setting_now s old) links rounds d new → Drained old n d → Drained old n new
  drained old n links zero d new acts last e h = subst (Drained old n) (sym e.1) h
  drained old n links (suc rounds) d new acts last e h = drained old n links rounds (after_round (setting_now s old) links d) new acts last e.1 (round_kept old n links d acts last h)

  drain_kept : (n rounds : ℕ) (old new : Drill) → ((c : ℕ) → Acts c) → Drains (setting_now s old) old.last_links rounds old new → P n old → P n new
  drain_kept n rounds old new acts e h =
      (drained old n old.last_links rounds old new acts (all_last opening.clients old (k.count n old h)) e (record { holds = h; keeps = record { opened = refl; last_links = refl } })).holds

  -- a client leaves its link and begins the next one
  rejoined : (n c : ℕ) (d : Drill) → IsIn opening c → Acts c → opening.numbered ≡ true → P n d → P (suc n) (after_rejoin s c d)
  unfolding after_rejoin
  rejoined n c d within acts numbered h = by (client (t.opened link) link d.marks).ended refl
    where
      t : Setting
      t = setting_now s d

      link : ℕ
      link = last_link c d

      last : IsLastOf opening.clients c link d
      last = record { low = within.0; high = within.1; is = refl }

      begun : (b : Bool) → is_dropped link d.marks ≡ b → (client (t.opened link) link d.marks).ended ≡ None → P (suc n) (after_leaving s c link (after_drop_if b link d))
      begun true gone stays = k.begins n c link d last acts numbered gone stays h
      begun false gone stays =
          k.begins n c link (after_drop link d) (record { low = within.0; high = within.1; is = refl }) acts numbered (dropped_now link d.marks)
          (ap (λ (r : EndState ClientState). r.ended) (client_one (t.opened link) link d.marks (marks.Drop link)) ∙ stays) (k.action n c link DropLink d last acts tt h)

      by : (ended : Option End) → (client (t.opened link) link d.marks).ended ≡ ended → P (suc n) (after_rejoin_on s c link ended d)
      by (Some end) is = k.later n d h
      by None is = begun (is_dropped link d.marks) refl is

  on_last : (n c : ℕ) (a : Action) (d : Drill) → IsIn opening c → Acts c → MayAct Raws opening.credits c d a → P n d → P (counted a n) (after_action (setting_now s d) (last_link c d) a d)
  on_last n c a d within acts may h = k.action n c (last_link c d) a d (record { low = within.0; high = within.1; is = refl }) acts may h

  pub line_kept : (n clients : ℕ) (line : Line) (old new : Drill) → IsLineOf opening Raws line → ActsIn Acts line → Makes s clients line old new → P n old → P (suc n) new
  line_kept n clients (lines.Cred c cred) old new w acts e h = subst (P (suc n)) (sym e) (k.later n (with_cred c cred old) (k.credential n c cred old w.0 w.1 h))
  line_kept n clients (lines.Call c form prog vers proc args) old new w acts e h =
      let call : Call = record { prog = prog; vers = vers; proc = proc; cred = cred_of c old; args = args } in
      subst (P (suc n)) (sym e) (on_last n c (SubmitCall call form) old w.0 acts (refl, w.1, w.2, w.3, w.4, w.5) h)
  line_kept n clients (lines.Up c most) old new w acts e h = subst (P (suc n)) (sym e) (k.later n (after_up (setting_now s old) (last_link c old) most old) (on_last n c (FeedUp most) old w acts tt h))
  line_kept n clients (lines.Down c most) old new w acts e h = subst (P (suc n)) (sym e) (k.later n (after_down (setting_now s old) (last_link c old) most old) (on_last n c (FeedDown most) old w acts tt h))
  line_kept n clients (lines.Work c) old new w acts e h = subst (P (suc n)) (sym e) (k.later n (after_work (setting_now s old) (last_link c old) old) (on_last n c WorkOnce old w acts tt h))
  line_kept n clients (lines.Tick seconds) old new w acts e h = subst (P (suc n)) (sym e) (k.later n (record old { seconds = old.seconds + seconds }) (k.time n seconds old h))
  line_kept n clients (lines.Forget c number) old new w acts e h = subst (P (suc n)) (sym e) (k.later n (after_forget (setting_now s old) (last_link c old) number old) (on_last n c (ForgetCall number) old w acts tt h))
  line_kept n clients (lines.Revoke c number) old new w acts e h = subst (P (suc n)) (sym e) (k.later n (after_revoke (setting_now s old) (last_link c old) number old) (on_last n c (RevokeCall number) old w acts tt h))
  line_kept n clients (lines.Drop c) old new w acts e h = subst (P (suc n)) (sym e) (k.later n (after_drop (last_link c old) old) (on_last n c DropLink old w acts tt h))
  line_kept n clients (lines.Rejoin c) old new w acts e h = subst (P (suc n)) (sym e) (rejoined n c old w.0 acts w.1 h)
  line_kept n clients (lines.Raw c side bytes) old new w acts e h =
      subst (P (suc n)) (sym e) (k.later n (after_raw (last_link c old) side bytes (is_dropped (last_link c old) old.marks) old) (on_last n c (PutRaw side bytes) old w.0 acts (w.1, w.2) h))
  line_kept n clients (lines.Grant c credits) old new w acts e h = subst (P (suc n)) (sym e) (k.later n (after_grant (last_link c old) credits old) (on_last n c (GrantCredits credits) old w.0 acts w.1 h))
  line_kept n clients lines.Drain old new w acts e h = k.later n new (drain_kept n e.0 old new acts e.1 h)

  pub lines_kept : (n m clients : ℕ) (all : List Line) (old new : Drill) → AllByRecursion (IsLineOf opening Raws) all → AllByRecursion (ActsIn Acts) all → n + length all ≡ m → MakeAll s clients all old new → P n old → P m new
  lines_kept n m clients [] old new w acts count e h = (let same : n ≡ m = omega (arith, count) in subst (λ (x : ℕ). P x new) same (subst (P n) (sym e) h))
  lines_kept n m clients (line ∷ others) old new w acts count e h =
      lines_kept (suc n) m clients others e.0 new w.1 acts.1 (omega (arith, count)) e.2 (line_kept n clients line old e.0 w.0 acts.0 e.1 h)

-- ===== the lines of a script

both : (a b : Bool) → (a && b) ≡ true → (a ≡ true) × (b ≡ true)
both true b e = (refl, e)
both false b e = absurd cc

in_range : (opening : Opening) (c : ℕ) → is_client opening c ≡ true → IsIn opening c
in_range opening c e = (let h = both (leb 1 c) (leb c opening.clients) e in (leb-true 1 c h.0, leb-true c opening.clients h.1))

-- the clients that are allowed raw lines, by a line
abbrev RawOf : (ℕ → Type 0) → Line → Type 0
RawOf Raws (lines.Raw c side bytes) = Raws c
RawOf Raws line = Unit {0}

line_of : (opening : Opening) (Raws : ℕ → Type 0) (before : List Line) (line : Line) → may_follow opening before line ≡ true → HasWritableCred line → IsTypedLine line → RawOf Raws line → IsLineOf opening Raws line
line_of opening Raws before (lines.Cred c cred) e w l r = (w, l)
line_of opening Raws before (lines.Call c form prog vers proc args) e w l r = (in_range opening c e, l.0, l.1, l.2, l.3, l.4)
line_of opening Raws before (lines.Up c most) e w l r = in_range opening c e
line_of opening Raws before (lines.Down c most) e w l r = in_range opening c e
line_of opening Raws before (lines.Work c) e w l r = in_range opening c e
line_of opening Raws before (lines.Tick seconds) e w l r = tt
line_of opening Raws before (lines.Forget c number) e w l r = in_range opening c (both (is_client opening c) (is_call_line c number before) e).0
line_of opening Raws before (lines.Revoke c number) e w l r = in_range opening c (both (is_client opening c) (is_call_line c number before) e).0
line_of opening Raws before (lines.Drop c) e w l r = in_range opening c e
line_of opening Raws before (lines.Rejoin c) e w l r = (let h = both (is_client opening c) opening.numbered e in (in_range opening c h.0, h.1))
line_of opening Raws before (lines.Raw c side bytes) e w l r = (in_range opening c e, r, l)
line_of opening Raws before (lines.Grant c credits) e w l r =
    let h = both (is_client opening c) (credits_in_range opening credits) e in
    let within = both (leb 1 credits) (leb credits opening.credits) h.1 in
    (in_range opening c h.0, (leb-true 1 credits within.0, leb-true credits opening.credits within.1))
line_of opening Raws before lines.Drain e w l r = tt

lines_from : (opening : Opening) (Raws : ℕ → Type 0) (before all : List Line) → FollowOn opening before all → AllByRecursion HasWritableCred all → AllByRecursion IsTypedLine all → AllByRecursion (RawOf Raws) all → AllByRecursion (IsLineOf opening Raws) all
lines_from opening Raws before [] h w l r = tt
lines_from opening Raws before (line ∷ all) h w l r = (line_of opening Raws before line h.0 w.0 l.0 r.0, lines_from opening Raws (before ++ line ∷ []) all h.1 w.1 l.1 r.1)

-- whatever is put into pipes
abbrev pub AnyRaw : ℕ → Type 0
AnyRaw c = Unit {0}

pub may_any : (Raws : ℕ → Type 0) (most c : ℕ) (d : Drill) (a : Action) → MayAct Raws most c d a → MayAct AnyRaw most c d a
may_any Raws most c d (SubmitCall call form) may = may
may_any Raws most c d (FeedUp n) may = tt
may_any Raws most c d (FeedDown n) may = tt
may_any Raws most c d WorkOnce may = tt
may_any Raws most c d (ForgetCall number) may = tt
may_any Raws most c d (RevokeCall number) may = tt
may_any Raws most c d DropLink may = tt
may_any Raws most c d (PutRaw side bytes) may = (tt, may.1)
may_any Raws most c d (GrantCredits credits) may = may

any_raw : (all : List Line) → AllByRecursion (RawOf AnyRaw) all
any_raw [] = tt
any_raw (line ∷ all) = (by line, any_raw all)
  where
    by : (line : Line) → RawOf AnyRaw line
    by (lines.Cred c cred) = tt
    by (lines.Call c form prog vers proc args) = tt
    by (lines.Up c most) = tt
    by (lines.Down c most) = tt
    by (lines.Work c) = tt
    by (lines.Tick seconds) = tt
    by (lines.Forget c number) = tt
    by (lines.Revoke c number) = tt
    by (lines.Drop c) = tt
    by (lines.Rejoin c) = tt
    by (lines.Raw c side bytes) = tt
    by (lines.Grant c credits) = tt
    by lines.Drain = tt

-- clients but for one
abbrev pub NotOf : ℕ → ℕ → Type 0
NotOf own c = c ≢ own

differs_by : (own c : ℕ) → eqb c own ≡ false → c ≢ own
differs_by own c none same = absurd (let wrong : true ≡ false = sym (eq-eqb c own same) ∙ none in cc)

any_acts : (line : Line) → ActsIn AnyRaw line
any_acts (lines.Cred c cred) = tt
any_acts (lines.Call c form prog vers proc args) = tt
any_acts (lines.Up c most) = tt
any_acts (lines.Down c most) = tt
any_acts (lines.Work c) = tt
any_acts (lines.Tick seconds) = tt
any_acts (lines.Forget c number) = tt
any_acts (lines.Revoke c number) = tt
any_acts (lines.Drop c) = tt
any_acts (lines.Rejoin c) = tt
any_acts (lines.Raw c side bytes) = tt
any_acts (lines.Grant c credits) = tt
any_acts lines.Drain = λ c. tt

pub all_act : (all : List Line) → AllByRecursion (ActsIn AnyRaw) all
all_act [] = tt
all_act (line ∷ all) = (any_acts line, all_act all)

-- lines that don't act on the links of a client
line_apart : (own : ℕ) (line : Line) → acts_on own line ≡ false → ActsIn (NotOf own) line
line_apart own (lines.Cred c cred) none = tt
line_apart own (lines.Call c form prog vers proc args) none = differs_by own c none
line_apart own (lines.Up c most) none = differs_by own c none
line_apart own (lines.Down c most) none = differs_by own c none
line_apart own (lines.Work c) none = differs_by own c none
line_apart own (lines.Tick seconds) none = tt
line_apart own (lines.Forget c number) none = differs_by own c none
line_apart own (lines.Revoke c number) none = differs_by own c none
line_apart own (lines.Drop c) none = differs_by own c none
line_apart own (lines.Rejoin c) none = differs_by own c none
line_apart own (lines.Raw c side bytes) none = differs_by own c none
line_apart own (lines.Grant c credits) none = differs_by own c none
line_apart own lines.Drain none = absurd cc

pub lines_apart : (own : ℕ) (all : List Line) → list_any (acts_on own) all ≡ false → AllByRecursion (ActsIn (NotOf own)) all
lines_apart own [] none = tt
lines_apart own (line ∷ all) none = (let e = neither (acts_on own line) (list_any (acts_on own) all) none in (line_apart own line e.0, lines_apart own all e.1))
  where
    neither : (a b : Bool) → (a || b) ≡ false → (a ≡ false) × (b ≡ false)
    neither true b e = absurd cc
    neither false b e = (refl, e)

pub lines_of : (script : ScriptLines) → IsScript script → AllByRecursion (IsLineOf script.opening AnyRaw) script.lines
lines_of script is = lines_from script.opening AnyRaw [] script.lines is.follow_on is.creds is.typed (any_raw script.lines)

none_of_client : (own : ℕ) (all : List Line) → list_any (is_raw_of own) all ≡ false → AllByRecursion (RawOf (NotOf own)) all
none_of_client own [] e = tt
none_of_client own (line ∷ all) e = (let h = neither (is_raw_of own line) (list_any (is_raw_of own) all) e in (by line h.0, none_of_client own all h.1))
  where
    neither : (a b : Bool) → (a || b) ≡ false → (a ≡ false) × (b ≡ false)
    neither true b e = absurd cc
    neither false b e = (refl, e)

    differs : true ≡ false → ⊥
    differs e = absurd cc

    by : (line : Line) → is_raw_of own line ≡ false → RawOf (NotOf own) line
    by (lines.Cred c cred) e = tt
    by (lines.Call c form prog vers proc args) e = tt
    by (lines.Up c most) e = tt
    by (lines.Down c most) e = tt
    by (lines.Work c) e = tt
    by (lines.Tick seconds) e = tt
    by (lines.Forget c number) e = tt
    by (lines.Revoke c number) e = tt
    by (lines.Drop c) e = tt
    by (lines.Rejoin c) e = tt
    by (lines.Raw c side bytes) e = λ same. differs (sym (eq-eqb c own same) ∙ e)
    by (lines.Grant c credits) e = tt
    by lines.Drain e = tt

pub lines_not_of : (own : ℕ) (script : ScriptLines) → IsScript script → list_any (is_raw_of own) script.lines ≡ false → AllByRecursion (IsLineOf script.opening (NotOf own)) script.lines
lines_not_of own script is none = lines_from script.opening (NotOf own) [] script.lines is.follow_on is.creds is.typed (none_of_client own script.lines none)

-- so it is of a line, if it puts none there
line_not_of : (opening : Opening) (own : ℕ) (line : Line) → is_raw_of own line ≡ false → IsLineOf opening AnyRaw line → IsLineOf opening (NotOf own) line
line_not_of opening own (lines.Cred c cred) none h = h
line_not_of opening own (lines.Call c form prog vers proc args) none h = h
line_not_of opening own (lines.Up c most) none h = h
line_not_of opening own (lines.Down c most) none h = h
line_not_of opening own (lines.Work c) none h = h
line_not_of opening own (lines.Tick seconds) none h = h
line_not_of opening own (lines.Forget c number) none h = h
line_not_of opening own (lines.Revoke c number) none h = h
line_not_of opening own (lines.Drop c) none h = h
line_not_of opening own (lines.Rejoin c) none h = h
line_not_of opening own (lines.Raw c side bytes) none h = (h.0, (λ same. absurd (let wrong : true ≡ false = sym (eq-eqb c own same) ∙ none in cc)), h.2)
line_not_of opening own (lines.Grant c credits) none h = h
line_not_of opening own lines.Drain none h = h

pub part_not_of : (opening : Opening) (own : ℕ) (part : List Line) → list_any (is_raw_of own) part ≡ false → AllByRecursion (IsLineOf opening AnyRaw) part → AllByRecursion (IsLineOf opening (NotOf own)) part
part_not_of opening own [] none h = tt
part_not_of opening own (line ∷ part) none h = (let e = neither (is_raw_of own line) (list_any (is_raw_of own) part) none in (line_not_of opening own line e.0 h.0, part_not_of opening own part e.1 h.1))
  where
    neither : (a b : Bool) → (a || b) ≡ false → (a ≡ false) × (b ≡ false)
    neither true b e = absurd cc
    neither false b e = (refl, e)
