-- A client begins its next link: the world stands for the drill then.
use Rattle.std.specs.Prelude.{◌-◌, slice_index_or, slice_set}
use Rattle.std.specs.List.{AllByRecursion, range_with_len}
use Rattle.std.proofs.Common.{◌≡◌, ◌≢◌, ℕ, zero, suc, ◌+◌, ◌<◌, ◌≤◌, arith, Bool, true, false, eqb, eqb-true, List, [], ◌∷◌, ◌++◌, length, length-append, map, get_or, refl, sym, ap, subst, ◌∙◌, add-one}
use Rattle.std.proofs.lemmas.Bool.{eq-eqb}
use Rattle.std.proofs.lemmas.List.{get_or-set_same, get_or-set_other, length-set}
use Rattle.nr_rpc.specs.Credential.{CanWriteCred}
use Rattle.nr_reduce.specs.Reopening.{reopened}
use Rattle.nr_reduce.specs.declared.mark.LinkParameters.{LinkParameters}
use Rattle.nr_reduce.specs.declared.mark.Mark.{Mark}
use Rattle.nr_texts.specs.declared.opening.Opening.{Opening}
use Rattle.nr_drill.specs.Drill.{Setting, Drill, IsLink, client_of, empty_pipes, last_link, link_of, pipes_of, setting_now, after_opening}
use Rattle.nr_drill.specs.DrillSetup.{drill_setup}
use Rattle.nr_drill.specs.InBytes.{RepliedInBytes}
use Rattle.nr_drill.proofs.BegunLinks.{at_end, begun_drill, in_front, next_link, next_number, numbered_owner}
use Rattle.nr_drill.proofs.Followed.{Extends, opening_adds}
use Rattle.nr_world.specs.DrillLinkState.{DrillLinkState}
use Rattle.nr_world.specs.DrillServers.{DrillServerState}
use Rattle.nr_world.specs.LinkStands.{LinkStands}
use Rattle.nr_world.specs.Steps.{HasNext, IsBeforeOpening, OpensServerSo, Reopens, ServerStands, StandsAt}
use Rattle.nr_world.specs.declared.world.World.{World}
use Rattle.nr_world.specs.private.Stands.{BeginsLink, HasLastLinks, HasOpened, WorldStands, drill_setting}
use Rattle.nr_world.specs.private.Within.{IsClient}
use Rattle.nr_world.proofs.FreshLinks.{next_server}
use Rattle.nr_world.proofs.JournalSteps.{stays}
use Rattle.nr_world.proofs.NextLinks.{same_stands}
use Rattle.nr_world.proofs.Others.{others_stand}
use Rattle.nr_world.proofs.SameServer.{opening_leaves, Leaves}
use Rattle.nr_world.proofs.Stands.{client_in, frame_stays, stands_at}

false_true : false ≢ true
false_true e = absurd cc

range_length : (from n : ℕ) → length (range_with_len from n) ≡ n
range_length from zero = refl
range_length from (suc n) = ap (λ (m : ℕ). suc m) (range_length (from + 1) n)

map_length : {X Y : Type 0} (g : X → Y) (xs : List X) → length (map g xs) ≡ length xs
map_length g [] = refl
map_length g (x ∷ xs) = ap (λ (m : ℕ). suc m) (map_length g xs)

map_each : {X : Type 0} (P Q : X → Type 0) (xs : List X) → ((x : X) → P x → Q x) → AllByRecursion P xs → AllByRecursion Q xs
map_each P Q [] f h = tt
map_each P Q (x ∷ xs) f h = (f x h.0, map_each P Q xs f h.1)

-- the world `n` is the world `w` after a client began the link with this number
pub record IsAfterBeginning (w : World) (c : ℕ) (v : DrillLinkState) (n : World) : Type 0 where
  pub first_line : n.opening ≡ w.opening
  pub links : n.links.items ≡ slice_set w.links.items (c - 1) v
  pub owners : n.owners.items ≡ w.owners.items ++ c ∷ []
  pub server : n.server ≡ w.server
  pub seconds : n.seconds ≡ w.seconds
  pub creds : n.creds.items ≡ w.creds.items

-- ---- The drill with the next link

module _ (s : Setting) (clients c : ℕ) (d : Drill) (f : HasLastLinks s clients d) (low : 1 ≤ c) (high : c ≤ clients) where
  abbrev t : Setting
  t = setting_now s d

  abbrev link : ℕ
  link = last_link c d

  abbrev o : LinkParameters
  o = t.opened link

  abbrev begun : Drill
  begun = begun_drill s c link d

  abbrev u : Setting
  u = setting_now s begun

  abbrev next : ℕ
  next = next_link d

  next_is : next ≡ length d.opened + 1
  next_is = ap (λ (m : ℕ). m + 1) f.pipes

  more_links : length begun.opened ≡ length d.opened + 1
  more_links = length-append d.opened (reopened o link d.marks ∷ [])

  pub is_last : last_link c begun ≡ next
  is_last = get_or-set_same d.last_links (c - 1) next c (omega (arith, f.count, low, high))

  pub other_last : (k : ℕ) → 1 ≤ k → k ≢ c → last_link k begun ≡ last_link k d
  other_last k first ne = get_or-set_other d.last_links (c - 1) (k - 1) next k (λ same. ne (omega (arith, same, first, low)))

  pub old_link : (l : ℕ) → IsLink d l → u.opened l ≡ t.opened l
  old_link l is = in_front (s.opened 0 ∷ d.opened) (reopened o link d.marks ∷ []) l (s.opened l) (let most = is.1 in omega (arith, most))

  pub new_link : u.opened next ≡ reopened o link d.marks
  new_link =
      ap (λ (i : ℕ). slice_index_or (s.opened 0 ∷ begun.opened) i (s.opened i)) (next_is ∙ add-one (length d.opened))
      ∙ at_end (s.opened 0 ∷ d.opened) (reopened o link d.marks) (s.opened (suc (length d.opened)))

  pub new_owner : o.client.number ≢ 0 → client_of u next ≡ c
  new_owner some =
      let number : (u.opened next).client.number ≡ o.client.number = ap (λ (p : LinkParameters). p.client.number) new_link ∙ next_number o link d.marks in
      numbered_owner (u.opened next) next (λ none. some (sym number ∙ none)) ∙ number ∙ sym (numbered_owner o link some) ∙ (f.owned c low high).1

  old_owner : (l : ℕ) → IsLink d l → client_of u l ≡ client_of t l
  old_owner l is = ap (λ (p : LinkParameters). client_of (record { server = s.server; opened = λ other. p }) l) (old_link l is)

  none_next : (run : List Mark) → AllByRecursion (λ (mark : Mark). IsLink d (link_of mark)) run → AllByRecursion (λ (mark : Mark). link_of mark ≢ next) run
  none_next run h = map_each (λ (mark : Mark). IsLink d (link_of mark)) (λ (mark : Mark). link_of mark ≢ next) run (λ mark is. (λ same. (let most = is.1 in absurd (omega (arith, most, same, next_is))))) h

  pub begins_before : IsBeforeOpening next begun
  begins_before = record {
    first = omega arith;
    room = (let more = length-append d.pipes (empty_pipes ∷ []) in omega (arith, more));
    pipes = ap (λ (i : ℕ). slice_index_or begun.pipes i empty_pipes) (omega arith) ∙ at_end d.pipes empty_pipes empty_pipes;
    none = none_next d.marks f.within;
  }

  pub has_next : o.client.number ≢ 0 → HasNext t u link next d begun
  has_next some = record {
    marks = refl;
    opened = new_link;
    same = map_each (λ (mark : Mark). IsLink d (link_of mark)) (λ (mark : Mark). u.opened (link_of mark) ≡ t.opened (link_of mark)) d.marks (λ mark is. old_link (link_of mark) is) f.within;
    client = new_owner some ∙ sym (f.owned c low high).1;
    begins = begins_before;
  }

  -- the link of another client stands on
  pub other_begun : o.client.number ≢ 0 → (k : ℕ) (v : DrillLinkState) → 1 ≤ k → k ≤ clients → k ≢ c → LinkStands t (last_link k d) d v → LinkStands u (last_link k begun) begun v
  other_begun some k v first last ne h =
      let theirs = f.owned k first last in
      let pipes : pipes_of (last_link k d) begun ≡ pipes_of (last_link k d) d =
      in_front d.pipes (empty_pipes ∷ []) (last_link k d - 1) empty_pipes (let from = theirs.0.0 in let most = theirs.0.1 in omega (arith, from, most, f.pipes)) in
      subst (λ (l : ℕ). LinkStands u l begun v) (sym (other_last k first ne))
      (same_stands t u (last_link k d) d begun v (has_next some).same (old_link (last_link k d) theirs.0) refl pipes (let more = length-append d.pipes (empty_pipes ∷ []) in omega (arith, more)) h)

  pub begun_frame : o.client.number ≢ 0 → HasLastLinks s clients begun
  begun_frame some = record {
    count = length-set d.last_links (c - 1) next ∙ f.count;
    pipes = length-append d.pipes (empty_pipes ∷ []) ∙ ap (λ (m : ℕ). m + 1) f.pipes ∙ sym more_links;
    owned = λ k first last. owned k first last;
    within = map_each (λ (mark : Mark). IsLink d (link_of mark)) (λ (mark : Mark). IsLink begun (link_of mark)) d.marks (λ mark is. was_link (link_of mark) is) f.within;
  }
    where
      was_link : (l : ℕ) → IsLink d l → IsLink begun l
      was_link l is = (is.0, (let most = is.1 in omega (arith, most, more_links)))

      owned : (k : ℕ) → 1 ≤ k → k ≤ clients → IsLink begun (last_link k begun) × (client_of u (last_link k begun) ≡ k)
      owned k first last = by (eqb k c) refl
        where
          by : (b : Bool) → eqb k c ≡ b → IsLink begun (last_link k begun) × (client_of u (last_link k begun) ≡ k)
          by true same =
              let here : k ≡ c = eqb-true k c same in
              subst (λ (j : ℕ). IsLink begun (last_link j begun) × (client_of u (last_link j begun) ≡ j)) (sym here)
              (subst (λ (l : ℕ). IsLink begun l × (client_of u l ≡ c)) (sym is_last) ((omega arith, omega (arith, next_is, more_links)), new_owner some))
          by false other =
              let ne : k ≢ c = (λ same. false_true (sym other ∙ eq-eqb k c same)) in
              let theirs = f.owned k first last in
              subst (λ (l : ℕ). IsLink begun l × (client_of u l ≡ k)) (sym (other_last k first ne)) (was_link (last_link k d) theirs.0, old_owner (last_link k d) theirs.0 ∙ theirs.1)

  pub begun_servers : (opening : Opening) → ((k : ℕ) → 1 ≤ k → k ≤ clients → OpensServerSo opening (t.opened (last_link k d))) → (k : ℕ) → 1 ≤ k → k ≤ clients → OpensServerSo opening (u.opened (last_link k begun))
  begun_servers opening h k first last = by (eqb k c) refl
    where
      by : (b : Bool) → eqb k c ≡ b → OpensServerSo opening (u.opened (last_link k begun))
      by true same =
          let here : k ≡ c = eqb-true k c same in
          subst (λ (j : ℕ). OpensServerSo opening (u.opened (last_link j begun))) (sym here)
          (subst (λ (l : ℕ). OpensServerSo opening (u.opened l)) (sym is_last) (subst (OpensServerSo opening) (sym new_link) (next_server opening o link d.marks (h c low high))))
      by false other =
          let ne : k ≢ c = (λ same. false_true (sym other ∙ eq-eqb k c same)) in
          subst (λ (l : ℕ). OpensServerSo opening (u.opened l)) (sym (other_last k first ne)) (subst (OpensServerSo opening) (sym (old_link (last_link k d) (f.owned k first last).0)) (h k first last))

  -- the clients of all links
  old_owners : (from n : ℕ) → 1 ≤ from → from + n ≤ length d.opened + 1 → map (client_of u) (range_with_len from n) ≡ map (client_of t) (range_with_len from n)
  old_owners from zero some le = refl
  old_owners from (suc n) some le = (λ i. old_owner from (some, omega (arith, le)) i ∷ old_owners (from + 1) n (omega (arith, some)) (omega (arith, le)) i)

  last_owner : (from n : ℕ) → map (client_of u) (range_with_len from (n + 1)) ≡ map (client_of u) (range_with_len from n) ++ client_of u (from + n) ∷ []
  last_owner from n = ap (λ (m : ℕ). map (client_of u) (range_with_len from m)) (add-one n) ∙ by from n
    where
      by : (first k : ℕ) → map (client_of u) (range_with_len first (suc k)) ≡ map (client_of u) (range_with_len first k) ++ client_of u (first + k) ∷ []
      by first zero = let place : first ≡ first + 0 = omega arith in ap (λ (m : ℕ). client_of u m ∷ []) place
      by first (suc k) =
          let place : first + 1 + k ≡ first + suc k = omega arith in
          ap (λ (rest : List ℕ). client_of u first ∷ rest) (by (first + 1) k) ∙ ap (λ (m : ℕ). client_of u first ∷ (map (client_of u) (range_with_len (first + 1) k) ++ client_of u m ∷ [])) place

  pub begun_owners : o.client.number ≢ 0 → map (client_of t) (range_with_len 1 (length d.opened)) ++ c ∷ [] ≡ map (client_of u) (range_with_len 1 (length begun.opened))
  begun_owners some =
      let place : next ≡ 1 + length d.opened = omega (arith, next_is) in
      (λ i. sym (old_owners 1 (length d.opened) (omega arith) (omega arith)) i ++ sym (new_owner some) i ∷ [])
      ∙ ap (λ (l : ℕ). map (client_of u) (range_with_len 1 (length d.opened)) ++ client_of u l ∷ []) place
      ∙ sym (last_owner 1 (length d.opened))
      ∙ ap (λ (n : ℕ). map (client_of u) (range_with_len 1 n)) (sym more_links)

-- ---- The world

pub begins_link : (c : ℕ) (w n : World) (v v2 : DrillLinkState) (number : ℕ) → v ≡ slice_index_or w.links.items (c - 1) v → IsClient (length w.links.items) c → number ≡ length w.owners.items + 1 → IsAfterBeginning w c v2 n →
    Reopens number w.opening v v2 w.marks n.marks → BeginsLink c w n
begins_link c w n v v2 number e is count a begins tree opening d h may =
    subst (λ (l : ℕ). WorldStands tree opening (after_opening u l begun) n) (sym last_is) (record {
      opened = subst (λ (x : Setting). HasOpened tree opening x opening.clients new n) same (record {
        first_line = a.first_line ∙ h.opened.first_line;
        count = ap length a.links ∙ length-set w.links.items (c - 1) v2 ∙ h.opened.count;
        links = λ k f low high. subst (λ (ls : List ℕ). LinkStands u (slice_index_or ls (k - 1) k) new (slice_index_or n.links.items (k - 1) f)) (sym x.last_links) (each k f low high);
        marks = after.marks;
        replies = subst RepliedInBytes after.marks after.replies;
        seconds = a.seconds ∙ h.opened.seconds ∙ sym leaves.seconds;
        creds = a.creds ∙ h.opened.creds ∙ sym x.creds;
        creds_count = ap length a.creds ∙ h.opened.creds_count;
        creds_fit = subst (AllByRecursion CanWriteCred) (sym a.creds) h.opened.creds_fit;
        server = subst (λ (k : DrillServerState). ServerStands (drill_setup tree opening) new k) (sym a.server)
            (stays (drill_setup tree opening) begun new w.server leaves (record { entries = h.opened.server.entries; heard = h.opened.server.heard }));
      });
      frame = frame_stays s opening.clients next begun new frame (omega arith, omega (arith, more)) x;
      servers = λ k low high. subst (λ (ls : List ℕ). OpensServerSo opening ((setting_now s new).opened (slice_index_or ls (k - 1) k))) (sym x.last_links)
          (subst (λ (y : Setting). OpensServerSo opening (y.opened (last_link k begun))) same (begun_servers s opening.clients c d h.frame is.0 most opening h.servers k low high));
      owners = a.owners ∙ ap (λ (os : List ℕ). os ++ c ∷ []) h.owners ∙ begun_owners s opening.clients c d h.frame is.0 most may.numbered ∙ (λ i. map (client_of (same i)) (range_with_len 1 (length (sym x.opened i))));
    })
  where
    s : Setting
    s = drill_setting tree opening

    t : Setting
    t = setting_now s d

    begun : Drill
    begun = begun_drill s c (last_link c d) d

    u : Setting
    u = setting_now s begun

    next : ℕ
    next = next_link d

    new : Drill
    new = after_opening u next begun

    most : c ≤ opening.clients
    most = client_in tree opening t opening.clients d w c h.opened is

    x : Extends next begun new
    x = opening_adds u next begun

    leaves : Leaves begun new
    leaves = opening_leaves u next begun

    same : u ≡ setting_now s new
    same = λ i. record s { opened = λ link. slice_index_or (s.opened 0 ∷ sym x.opened i) link (s.opened link) }

    last_is : last_link c begun ≡ next
    last_is = is_last s opening.clients c d h.frame is.0 most

    more : length begun.opened ≡ next
    more = length-append d.opened (reopened (t.opened (last_link c d)) (last_link c d) d.marks ∷ []) ∙ sym (ap (λ (m : ℕ). m + 1) h.frame.pipes)

    frame : HasLastLinks s opening.clients begun
    frame = begun_frame s opening.clients c d h.frame is.0 most may.numbered

    number_is : number ≡ next
    number_is =
        let all : length w.owners.items ≡ length d.opened = ap length h.owners ∙ map_length (client_of t) (range_with_len 1 (length d.opened)) ∙ range_length 1 (length d.opened) in
        omega (arith, count, all, h.frame.pipes)

    after : StandsAt u next new v2 n.marks
    after =
        subst (λ (o : Opening). Reopens next o v v2 w.marks n.marks) h.opened.first_line (subst (λ (l : ℕ). Reopens l w.opening v v2 w.marks n.marks) number_is begins)
        t u (last_link c d) d begun may (has_next s opening.clients c d h.frame is.0 most may.numbered) (h.servers c is.0 most) (stands_at tree opening t opening.clients d w c v h.opened is e)

    each : (k : ℕ) (f : DrillLinkState) → 1 ≤ k → k ≤ opening.clients → LinkStands u (last_link k begun) new (slice_index_or n.links.items (k - 1) f)
    each k f low high = by (eqb k c) refl
      where
        by : (b : Bool) → eqb k c ≡ b → LinkStands u (last_link k begun) new (slice_index_or n.links.items (k - 1) f)
        by true here =
            let is_c : k ≡ c = eqb-true k c here in
            let lt : c - 1 < length w.links.items = omega (arith, is.0, is.1) in
            subst (λ (j : ℕ). LinkStands u (last_link j begun) new (slice_index_or n.links.items (j - 1) f)) (sym is_c)
            (subst (λ (l : ℕ). LinkStands u l new (slice_index_or n.links.items (c - 1) f)) (sym last_is)
            (subst (LinkStands u next new) (sym (ap (λ (all : List DrillLinkState). slice_index_or all (c - 1) f) a.links ∙ get_or-set_same w.links.items (c - 1) v2 f lt)) after.stands))
        by false other =
            let ne : k ≢ c = (λ is_c. false_true (sym other ∙ eq-eqb k c is_c)) in
            let apart : k - 1 ≢ c - 1 = (λ at. ne (omega (arith, at, low, is.0))) in
            let mine = frame.owned c is.0 most in
            let theirs = frame.owned k low high in
            let owners : client_of u next ≢ client_of u (last_link k begun) = (λ at. ne (sym theirs.1 ∙ sym at ∙ ap (client_of u) (sym last_is) ∙ mine.1)) in
            subst (LinkStands u (last_link k begun) new) (sym (ap (λ (all : List DrillLinkState). slice_index_or all (k - 1) f) a.links ∙ get_or-set_other w.links.items (c - 1) (k - 1) v2 f apart))
            (others_stand u next (last_link k begun) begun new (get_or w.links.items (k - 1) f) (omega arith) owners x
            (other_begun s opening.clients c d h.frame is.0 most may.numbered k (get_or w.links.items (k - 1) f) low high ne (h.opened.links k f low high)))
