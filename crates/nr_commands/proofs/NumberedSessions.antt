-- A session over a shared link, as it was opened and as it was closed, told of what is known of the link and its dialer, which was lent to it.
use Rattle.std.proofs.Common.{◌≡◌, ℕ, ◌∙◌, List, [], ◌∷◌, Option, Result, Err, refl, sym, ap, subst, get_or, map}
use Rattle.nr_outside.specs.Streams.{SinkAt, SourceAt}
use Rattle.nr_words.specs.Lines.{Text}
use Rattle.nr_words.specs.declared.commands.NumberedClient.{NumberedClient}
use Rattle.nr_shared.specs.declared.call_rule.AnyCall.{AnyCall}
use Rattle.nr_shared.specs.declared.shared.Pass.{Pass}
use Rattle.nr_shared.specs.declared.source_reader.InitialSource.{InitialSource}
use Rattle.nr_client.specs.declared.client_end.ClientEnd.{ClientEnd}
use Rattle.nr_client.specs.CallerViews.{CallerView, FirstLink, caller_view, first_link, shared_relations}
use Rattle.nr_client.specs.Dialing.{DialerAt, dialer_at}
use Rattle.nr_client.specs.Numbered.{ClosesNumbered, NumberedFails, OpensNumbered}
use Rattle.nr_commands.specs.NumberedRuns.{ClosesLast, OpensFirst, OpensNone, PrintsShared, RunsNumbered, hello_terms}
use Rattle.nr_commands.specs.NumberedRuns.RunsNumbered.{FirstOpened, NoneOpened}
use Rattle.nr_commands.specs.Running.{IsPrinted, text_of_over}
use Rattle.nr_commands.proofs.FirstLinks.{keeps_first}
use Rattle.nr_commands.proofs.LinkViews.{GivesBackView, Known, dialer_view, link_view, source_view, view_back, view_fails, view_last}
use Rattle.nr_commands.proofs.Parts.{with_user}

abbrev caller_at : {I O D : Type 0} → Known I O D → Pass I O AnyCall D → CallerView
caller_at k pass = caller_view k.link k.left k.given k.faults k.asked k.ended k.dialer_faults pass

abbrev first_at : {I O D : Type 0} → Known I O D → InitialSource I O AnyCall D → FirstLink
first_at k first = first_link k.link k.left k.given k.faults k.asked k.ended k.dialer_faults first

abbrev OpensAt : {I O D : Type 0} → Known I O D → NumberedClient Text → (tries : ℕ) → D → Pass I O AnyCall D → Type 0
OpensAt k c tries dialer pass = OpensNumbered k.link k.left k.given k.faults k.asked k.ended k.dialer_faults tries (hello_terms c) c.client.addr dialer pass

abbrev ClosesAt : {I O D : Type 0} → Known I O D → Pass I O AnyCall D → D → Type 0
ClosesAt k pass dialer = ClosesNumbered k.link k.left k.given k.faults k.sink_link k.taken k.sink_faults k.asked k.ended k.lost k.dialer_faults pass dialer

abbrev FailsAt : {I O D : Type 0} → Known I O D → NumberedClient Text → (tries : ℕ) → D → ClientEnd → D → Type 0
FailsAt k c tries dialer end back =
    NumberedFails k.link k.left k.given k.faults k.sink_link k.taken k.sink_faults k.asked k.ended k.dialer_faults tries (hello_terms c) c.client.addr dialer end back

opens_first : {I O D : Type 0} (k : Known I O D) (c : NumberedClient Text) (dialer : D) (pass : Pass I O AnyCall D) (o : OpensAt k c c.tries dialer pass)
    → OpensFirst c (dialer_view k dialer) (dialer_view k o.opened.first.dialer.value) (source_view k o.opened.first.source.value) (caller_at k pass)
opens_first k c dialer pass o = record {
  requester = o.requester;
  new = o.new;
  sink = o.opened.sink;
  seen = o.opened.seen;
  mine = o.opened.mine;
  same = o.opened.same;
  fresh = o.opened.new;
  told = o.opened.told;
  asks = o.opened.dialled;
  makes = o.opened.made;
  unfailing = o.opened.counted;
}

-- the link is the same one when the session is closed
same_first : {I O D : Type 0} (k : Known I O D) (before after : List (InitialSource I O AnyCall D)) (b a : InitialSource I O AnyCall D) → before ≡ b ∷ [] → after ≡ a ∷ []
    → map (first_at k) after ≡ map (first_at k) before → first_at k a ≡ first_at k b
same_first k before after b a was is same =
    ap (λ (links : List FirstLink). get_or links 0 (first_at k b)) (sym (ap (map (first_at k)) is) ∙ (same ∙ ap (map (first_at k)) was))

closes_last : {I O D : Type 0} (k : Known I O D) (c : NumberedClient Text) (dialer dialer' : D) (pass pass' : Pass I O AnyCall D) (o : OpensAt k c c.tries dialer pass) → ClosesAt k pass' dialer'
    → (caller_at k pass').firsts ≡ (caller_at k pass).firsts
    → ClosesLast c (source_view k o.opened.first.source.value) (dialer_view k o.opened.first.dialer.value) (caller_at k pass') (dialer_view k dialer')
closes_last k c dialer dialer' pass pass' o x same =
    let v = caller_at k pass' in
    let lost = k.lost o.opened.first.dialer.value in
    let is = same_first k _ _ o.opened.first x.first o.opened.source x.source same in
    let back = view_back k lost v.seen v.mine x.first.source.value x.first.dialer.value _ x.first.read x.requester x.link x.between x.back in
    let of_first = subst (λ (f : FirstLink). GivesBackView v.seen v.mine (record { link = f.link; left = f.left; given = f.given; faults = f.faults }) (dialer_at f.asked f.ended lost f.dialer_faults) f.addr f.read x.requester (link_view k x.link) (dialer_view k x.between)) is back in
    let to_address = subst (λ (addr : List ℕ). GivesBackView v.seen v.mine (source_view k o.opened.first.source.value) (dialer_view k o.opened.first.dialer.value) addr o.opened.first.read x.requester (link_view k x.link) (dialer_view k x.between)) o.opened.address of_first in
    record {
      requester = x.requester;
      link = link_view k x.link;
      between = dialer_view k x.between;
      back = subst (λ (read : ℕ). GivesBackView v.seen v.mine (source_view k o.opened.first.source.value) (dialer_view k o.opened.first.dialer.value) c.client.addr read x.requester (link_view k x.link) (dialer_view k x.between)) o.opened.unread to_address;
      hung_up = view_last k x.link x.between dialer' x.hung_up;
    }

-- ---- A dialer that was lent: what is known of what holds it

abbrev lent_known : {I O D L : Type 0} → Known I O D → (L → D) → Known I O L
lent_known k inner = record {
  link = k.link;
  left = k.left;
  given = k.given;
  faults = k.faults;
  sink_link = k.sink_link;
  taken = k.taken;
  sink_faults = k.sink_faults;
  asked = λ l. k.asked (inner l);
  ended = λ l. k.ended (inner l);
  lost = λ l. k.lost (inner l);
  dialer_faults = λ l. k.dialer_faults (inner l);
}

-- no session was opened
pub runs_none : {I O D L : Type 0} (k : Known I O D) (lent : L) (inner : L → D) (back : L) (c : NumberedClient Text) (tries : ℕ) (before after : D) (end : ClientEnd) (result : Result (Unit {0}) ClientEnd)
    (input : SourceAt) (out : SinkAt) → inner lent ≡ before → after ≡ inner back → tries ≡ c.tries → result ≡ Err end → FailsAt (lent_known k inner) c tries lent end back
    → RunsNumbered c (dialer_view k before) (dialer_view k after) input input out out result
runs_none {I} {O} {D} {L} k lent inner back c tries before after end result input out was is few ends fails =
    let seen = view_fails (lent_known k inner) c.tries (hello_terms c) c.client.addr lent end back (subst (λ (t : ℕ). FailsAt (lent_known k inner) c t lent end back) few fails) in
    let from_before = subst (λ (d : D). OpensNone end c (dialer_view k d) (dialer_view k (inner back))) was seen in
    NoneOpened end ends (subst (λ (d : D). OpensNone end c (dialer_view k before) (dialer_view k d)) (sym is) from_before) refl refl

-- one was opened, its requests were made, and it was closed
pub runs_first : {I O D L : Type 0} (k : Known I O D) (lent : L) (inner : L → D) (back : L) (pass pass' : Pass I O AnyCall L) (c : NumberedClient Text) (tries uid gid : ℕ) (before after : D)
    (text : Result (List ℕ) ClientEnd) (result : Result (Unit {0}) ClientEnd) (input input' : SourceAt) (out written out' : SinkAt)
    → inner lent ≡ before → after ≡ inner back → tries ≡ c.tries → (uid ≡ c.client.uid) × (gid ≡ c.client.gid) → OpensAt (lent_known k inner) c tries lent pass
    → text_of_over shared_relations uid gid c.client.export c.client.action input input' out written (caller_at (lent_known k inner) pass) (caller_at (lent_known k inner) pass') text
    → ClosesAt (lent_known k inner) pass' back → IsPrinted text result written out' → RunsNumbered c (dialer_view k before) (dialer_view k after) input input' out out' result
runs_first {I} {O} {D} {L} k lent inner back pass pass' c tries uid gid before after text result input input' out written out' was is few user opens made closes prints =
    let known = lent_known k inner in
    let v = caller_at known pass in
    let w = caller_at known pass' in
    let o = subst (λ (t : ℕ). OpensAt known c t lent pass) few opens in
    let own = with_user (λ u g. text_of_over shared_relations u g c.client.export c.client.action input input' out written) c.client.uid c.client.gid uid gid v w text user made in
    let opened = opens_first known c lent pass o in
    let closed = closes_last known c lent back pass pass' o closes (keeps_first c.client.uid c.client.gid c.client.export c.client.action input input' out written v w text own) in
    let source = source_view known o.opened.first.source.value in
    let dialed = dialer_view known o.opened.first.dialer.value in
    FirstOpened dialed source v w
    (subst (λ (d : D). OpensFirst c (dialer_view k d) dialed source v) was opened)
    (record { text = text; written = written; made = own; prints = prints })
    (subst (λ (d : D). ClosesLast c source dialed w (dialer_view k d)) (sym is) closed)
