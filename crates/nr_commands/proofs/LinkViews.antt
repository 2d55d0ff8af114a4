-- What is given back of a shared link, told of what is known of its source, its sink and its dialer.
use Rattle.std.proofs.Common.{◌≡◌, ℕ, List, [], ◌∷◌, Option, None, Some, inl, inr, refl, ap, subst}
use Rattle.std.specs.Prelude.{⊤, Bool, is_some, option_map}
use Rattle.nr_link.specs.declared.agreement.SideTerms.{SideTerms}
use Rattle.nr_links.specs.Links.{LinkLog}
use Rattle.nr_reduce.specs.declared.call.Call.{Call}
use Rattle.nr_reduce.specs.declared.call.Form.{Form}
use Rattle.nr_requester.specs.RequesterState.{RequesterSide}
use Rattle.nr_shared.specs.declared.entry.Entry.{Entry}
use Rattle.nr_shared.specs.declared.entry.InitialSink.{InitialSink}
use Rattle.nr_shared.specs.Feeding.{InitialGiving, KeepsDialer, KeepsSource, shared_giving}
use Rattle.nr_shared.specs.Histories.{PresentLink, bytes_fed, present, sink_of}
use Rattle.nr_shared.specs.Numbered.{GivesUpDialled, GivesUpLink, HangsUpBack}
use Rattle.nr_shared.specs.Opening.{GivesBack, GivesLink}
use Rattle.nr_shared.specs.Standing.{KeepsSink}
use Rattle.nr_client.specs.declared.client_end.ClientEnd.{ClientEnd}
use Rattle.nr_client.specs.declared.client_end.ClientEnd.TheVariants as client
use Rattle.nr_client.specs.Dialing.{DialerAt, dialer_at}
use Rattle.nr_client.specs.Numbered.{HangsUpLast, NumberedFails}
use Rattle.nr_commands.specs.NumberedRuns.{SinkView, SourceView}

-- the functions that say what is known of a source, a sink and a dialer
pub record Known (I O D : Type 0) : Type 0 where
  pub link : I → ℕ
  pub left : I → Option (List ℕ)
  pub given : I → Option (List ℕ)
  pub faults : I → ℕ
  pub sink_link : O → ℕ
  pub taken : O → Option (List ℕ)
  pub sink_faults : O → ℕ
  pub asked : D → Option (List (List ℕ))
  pub ended : D → Option LinkLog
  pub lost : D → ℕ
  pub dialer_faults : D → ℕ

abbrev pub source_view : {I O D : Type 0} → Known I O D → I → SourceView
source_view k s = record { link = k.link s; left = k.left s; given = k.given s; faults = k.faults s }

abbrev pub sink_view : {I O D : Type 0} → Known I O D → O → SinkView
sink_view k o = record { link = k.sink_link o; taken = k.taken o; faults = k.sink_faults o }

abbrev pub dialer_view : {I O D : Type 0} → Known I O D → D → DialerAt
dialer_view k d = dialer_at (k.asked d) (k.ended d) (k.lost d) (k.dialer_faults d)

abbrev pub link_view : {I O D : Type 0} → Known I O D → Option (I × O) → Option (SourceView × SinkView)
link_view k link = option_map (λ l. (source_view k l.0, sink_view k l.1)) link

abbrev pub GivesBackView : List Entry → List ℕ → SourceView → DialerAt → (addr : List ℕ) → (read : ℕ) → RequesterSide → Option (SourceView × SinkView) → DialerAt → Type 0
GivesBackView seen mine source dialed addr read r link between =
    GivesBack {I = SourceView} {O = SinkView} {D = DialerAt} (λ s. s.link) (λ s. s.left) (λ s. s.given) (λ s. s.faults) (λ k. k.link) (λ k. k.taken) (λ k. k.faults) (λ d. d.asked) (λ d. d.ended) (λ d. d.faults)
    (λ call form. ⊤) seen mine source dialed addr read r link between

abbrev GivesLinkView : (numbered told : Bool) → InitialGiving → ℕ → Option (SourceView × SinkView) → Option InitialSink → List Entry → Type 0
GivesLinkView numbered told shared read link initial history =
    GivesLink {I = SourceView} {O = SinkView} (λ s. s.link) (λ s. s.left) (λ s. s.given) (λ s. s.faults) (λ k. k.link) (λ k. k.taken) (λ k. k.faults) numbered told shared read link initial history

view_sink : {I O D : Type 0} (k : Known I O D) (sink : O) (initial : InitialSink) (p : PresentLink) → KeepsSink k.sink_link k.taken k.sink_faults sink initial p
    → KeepsSink {O = SinkView} (λ o. o.link) (λ o. o.taken) (λ o. o.faults) (sink_view k sink) initial p
view_sink k sink initial p s = record { number = s.number; took = s.took; never_falls = s.never_falls; failed = s.failed; counted = s.counted }

view_source : {I O D : Type 0} (k : Known I O D) (numbered told : Bool) (shared : InitialGiving) (source : I) (initial : InitialSink) (read : ℕ) (p : PresentLink)
    → KeepsSource k.link k.left k.given k.faults numbered told shared source initial read p
    → KeepsSource {I = SourceView} (λ s. s.link) (λ s. s.left) (λ s. s.given) (λ s. s.faults) numbered told shared (source_view k source) initial read p
view_source k numbered told shared source initial read p s = record {
  number = s.number;
  first = s.first;
  is_first = s.is_first;
  gave = s.gave;
  never_falls = s.never_falls;
  failed = s.failed;
  counted = s.counted;
  stop = s.stop;
}

view_link : {I O D : Type 0} (k : Known I O D) (numbered told : Bool) (shared : InitialGiving) (read : ℕ) (link : Option (I × O)) (initial : Option InitialSink) (history : List Entry)
    → GivesLink k.link k.left k.given k.faults k.sink_link k.taken k.sink_faults numbered told shared read link initial history
    → GivesLinkView numbered told shared read (link_view k link) initial history
view_link k numbered told shared read (Some (source, sink)) (Some initial) history h =
    (view_sink k sink initial (present history) h.0, view_source k numbered told shared source initial read (present history) h.1)
view_link k numbered told shared read None None history h = h
view_link k numbered told shared read (Some (source, sink)) None history h = h
view_link k numbered told shared read None (Some initial) history h = h

-- as it was at first, whatever its count of lost links was
abbrev pub first_dialer_view : {I O D : Type 0} → Known I O D → (lost : ℕ) → D → DialerAt
first_dialer_view k lost d = dialer_at (k.asked d) (k.ended d) lost (k.dialer_faults d)

view_dialer : {I O D : Type 0} (k : Known I O D) (lost : ℕ) (addr : List ℕ) (giving : InitialGiving) (first dialer : D) (p : PresentLink)
    → KeepsDialer k.asked k.ended k.dialer_faults addr giving first dialer p
    → KeepsDialer {D = DialerAt} (λ d. d.asked) (λ d. d.ended) (λ d. d.faults) addr giving (first_dialer_view k lost first) (dialer_view k dialer) p
view_dialer k lost addr giving first dialer p d = record { open_link = d.open_link; hung_up = d.hung_up; dialled = d.dialled; counted = d.counted; failed = d.failed }

pub view_back : {I O D : Type 0} (k : Known I O D) (lost : ℕ) (seen : List Entry) (mine : List ℕ) (first : I) (first_dialer : D) (addr : List ℕ) (read : ℕ) (r : RequesterSide) (link : Option (I × O)) (dialer : D)
    → GivesBack k.link k.left k.given k.faults k.sink_link k.taken k.sink_faults k.asked k.ended k.dialer_faults (λ (call : Call) (form : Form). ⊤) seen mine first first_dialer addr read r link dialer
    → GivesBackView seen mine (source_view k first) (first_dialer_view k lost first_dialer) addr read r (link_view k link) (dialer_view k dialer)
view_back k lost seen mine first first_dialer addr read r link dialer b = record {
  history = b.history;
  begins = b.begins;
  lies = b.lies;
  stays_open = b.stays_open;
  earlier = b.earlier;
  initial = b.initial;
  is_initial = b.is_initial;
  represents = b.represents;
  calls = b.calls;
  in_order = b.in_order;
  allowed = b.allowed;
  closes_calls = b.closes_calls;
  output = b.output;
  in_full = b.in_full;
  may_follow = b.may_follow;
  within_tries = b.within_tries;
  fed = b.fed;
  read = b.read;
  link_is = view_link k (is_some b.initial.tries) (is_some (k.ended first_dialer)) (shared_giving k.left k.given k.faults first) _ link (sink_of b.history) b.history b.link_is;
  dialer_is = view_dialer k lost addr (shared_giving k.left k.given k.faults first) first_dialer dialer (present b.history) b.dialer_is;
}

-- of the link at hand, which was hung up
pub view_last : {I O D : Type 0} (k : Known I O D) (link : Option (I × O)) (between dialer : D)
    → HangsUpLast k.link k.left k.given k.faults k.taken k.sink_faults k.asked k.ended k.lost k.dialer_faults link between dialer
    → HangsUpLast {I = SourceView} {O = SinkView} {D = DialerAt} (λ s. s.link) (λ s. s.left) (λ s. s.given) (λ s. s.faults) (λ o. o.taken) (λ o. o.faults) (λ d. d.asked) (λ d. d.ended) (λ d. d.lost) (λ d. d.faults)
    (link_view k link) (dialer_view k between) (dialer_view k dialer)
view_last k None between dialer h = ap (dialer_view k) h
view_last k (Some (source, sink)) between dialer h = h

-- ---- It was not opened

view_hung_up : {I O D : Type 0} (k : Known I O D) (link : Option (I × O)) (between dialer : D)
    → HangsUpBack k.link k.left k.given k.taken k.asked k.ended k.dialer_faults link between dialer
    → HangsUpBack {I = SourceView} {O = SinkView} {D = DialerAt} (λ s. s.link) (λ s. s.left) (λ s. s.given) (λ o. o.taken) (λ d. d.asked) (λ d. d.ended) (λ d. d.faults) (link_view k link) (dialer_view k between) (dialer_view k dialer)
view_hung_up k None between dialer h = ap (dialer_view k) h
view_hung_up k (Some (source, sink)) between dialer h = h

view_given_up : {I O D : Type 0} (k : Known I O D) (history : List Entry) (first : I) (first_dialer : D) (addr : List ℕ) (r : RequesterSide) (dialer : D)
    → GivesUpLink k.link k.left k.given k.faults k.sink_link k.taken k.sink_faults k.asked k.ended k.dialer_faults (λ (call : Call) (form : Form). ⊤) history first first_dialer addr r dialer
    → GivesUpLink {I = SourceView} {O = SinkView} {D = DialerAt} (λ s. s.link) (λ s. s.left) (λ s. s.given) (λ s. s.faults) (λ o. o.link) (λ o. o.taken) (λ o. o.faults) (λ d. d.asked) (λ d. d.ended) (λ d. d.faults)
    (λ call form. ⊤) history (source_view k first) (dialer_view k first_dialer) addr r (dialer_view k dialer)
view_given_up k history first first_dialer addr r dialer g = record {
  link = link_view k g.link;
  between = dialer_view k g.between;
  gives = view_back k (k.lost first_dialer) history [] first first_dialer addr 0 r g.link g.between g.gives;
  hung_up = view_hung_up k g.link g.between dialer g.hung_up;
}

view_dialled : {I O D : Type 0} (k : Known I O D) (r : RequesterSide) (dialer : D) (addr : List ℕ) (tries : ℕ) (r' : RequesterSide) (dialer' : D)
    → GivesUpDialled k.link k.left k.given k.faults k.sink_link k.taken k.sink_faults k.asked k.ended k.dialer_faults (λ (call : Call) (form : Form). ⊤) r dialer addr tries r' dialer'
    → GivesUpDialled {I = SourceView} {O = SinkView} {D = DialerAt} (λ s. s.link) (λ s. s.left) (λ s. s.given) (λ s. s.faults) (λ o. o.link) (λ o. o.taken) (λ o. o.faults) (λ d. d.asked) (λ d. d.ended) (λ d. d.faults)
    (λ call form. ⊤) r (dialer_view k dialer) addr tries r' (dialer_view k dialer')
view_dialled k r dialer addr tries r' dialer' g = record {
  sink = g.sink;
  source = source_view k g.source;
  dialled = dialer_view k g.dialled;
  same = g.same;
  told = g.told;
  new = g.new;
  asks = g.asks;
  made = g.made;
  counted = g.counted;
  gives_up = view_given_up k _ g.source g.dialled addr r' dialer' g.gives_up;
}

pub view_fails : {I O D : Type 0} (k : Known I O D) (tries : ℕ) (terms : SideTerms) (addr : List ℕ) (dialer : D) (end : ClientEnd) (dialer' : D)
    → NumberedFails k.link k.left k.given k.faults k.sink_link k.taken k.sink_faults k.asked k.ended k.dialer_faults tries terms addr dialer end dialer'
    → NumberedFails {I = SourceView} {O = SinkView} {D = DialerAt} (λ s. s.link) (λ s. s.left) (λ s. s.given) (λ s. s.faults) (λ o. o.link) (λ o. o.taken) (λ o. o.faults) (λ d. d.asked) (λ d. d.ended) (λ d. d.faults)
    tries terms addr (dialer_view k dialer) end (dialer_view k dialer')
view_fails k tries terms addr dialer client.DialFault dialer' h = h
view_fails k tries terms addr dialer client.Memory dialer' (inl same) = inl (ap (dialer_view k) same)
view_fails k tries terms addr dialer client.Memory dialer' (inr (r, back, (new, gives))) = inr (r, back, (new, view_dialled k r dialer addr tries back dialer' gives))
view_fails k tries terms addr dialer (client.Link end) dialer' h = h
view_fails k tries terms addr dialer (client.Rpc kind code) dialer' h = h
view_fails k tries terms addr dialer (client.Mount status) dialer' h = h
view_fails k tries terms addr dialer (client.Nfs status) dialer' h = h
view_fails k tries terms addr dialer client.Chunk dialer' h = h
view_fails k tries terms addr dialer (client.Version low high) dialer' h = h
view_fails k tries terms addr dialer (client.BadReply at reason) dialer' h = h
view_fails k tries terms addr dialer (client.BadPath at) dialer' h = h
view_fails k tries terms addr dialer client.InputFault dialer' h = h
view_fails k tries terms addr dialer client.OutputFault dialer' h = h
view_fails k tries terms addr dialer (client.Budget count) dialer' h = h
