-- A pass that sees the history again.
use Rattle.std.proofs.Common.{◌≡◌, ℕ, suc, ◌+◌, ◌<◌, ◌^◌, Bool, true, false, List, [], ◌∷◌, ◌++◌, length, map, Option, None, Some, arith, refl, sym, ap, subst, ◌∙◌, append_assoc, append-nil}
use Rattle.std.specs.Prelude.{◌==◌, if◌then◌else◌}
use Rattle.std.proofs.lemmas.List.{length-map, map-append}
use Rattle.std.proofs.lemmas.List.Elements.{All-nil}
use Rattle.std.proofs.lemmas.Option.{none-some, same_Some}
use Rattle.nr_reduce.specs.declared.mark.Entry.{Entry}
use Rattle.nr_plain.specs.Setup.{Setup}
use Rattle.nr_plain.specs.Stands.{PlainServerState, RepresentsJournal}
use Rattle.nr_plain.specs.Numbered.{HasCall, RepresentsTagged}
use Rattle.nr_plain.specs.Turns.{StandsAfter, StandsFor}
use Rattle.nr_turnstile.specs.Rule.{Begins, Earlier, opening_view, places}
use Rattle.nr_turnstile.specs.declared.plays.View.{View}
use Rattle.nr_plain.specs.declared.history_entry.HistoryEntry.{HistoryEntry}
use Rattle.nr_plain.specs.declared.history_entry.HistoryEntry.TheVariants.{Opened, Added}
use Rattle.nr_reduce.specs.declared.mark.TaggedEntry.{TaggedEntry}
use Rattle.nr_reduce.specs.NumberedJournal.{HasNoEntryTwice, tagged, entries_alone}
use Rattle.nr_plain.proofs.EntriesApart.{none_twice}
use Rattle.nr_plain.specs.History.{Opening, setup_in, additions, history, HasNoCallTwice, IsHistory, closes_none, AreOfCalls, PassView, OnlyOthersAdded}
use Rattle.nr_plain.proofs.OfCalls.{later_of_calls}

-- ===== histories and their entries

entry_by : (b : Bool) (x y : TaggedEntry) (e : Entry) → x.entry ≡ e → y.entry ≡ e → (if b then x else y).entry ≡ e
entry_by true x y e p q = p
entry_by false x y e p q = q

tagged_is : (client xid : ℕ) (e : Entry) → (tagged client xid e).entry ≡ e
tagged_is client xid e = entry_by (client == 0) (record { entry = e; client = 0; xid = 0 }) (record { entry = e; client = client; xid = xid }) e refl refl

pub tagged_alone : (client xid : ℕ) (es : List Entry) → entries_alone (map (tagged client xid) es) ≡ es
tagged_alone client xid [] = refl
tagged_alone client xid (e ∷ es) = λ i. tagged_is client xid e i ∷ tagged_alone client xid es i

pub history_length : (first : Opening) (J : List Entry) (h : List HistoryEntry) → IsHistory first J h → length h ≡ suc (length J)
history_length first J h i =
    ap length i.is ∙ ap suc (length-map i.entries (λ (t : TaggedEntry). Added t) ∙ sym (length-map i.entries (λ (t : TaggedEntry). t.entry)) ∙ ap length i.journal)

pub history_grows : (first : Opening) (J : List Entry) (h : List HistoryEntry) (client xid : ℕ) (es : List Entry) → IsHistory first J h → IsHistory first (J ++ es) (h ++ additions (map (tagged client xid) es))
history_grows first J h client xid es i = record {
  entries = i.entries ++ map (tagged client xid) es;
  is = ap (λ (l : List HistoryEntry). l ++ additions (map (tagged client xid) es)) i.is
      ∙ ap (λ (l : List HistoryEntry). Opened first ∷ l) (sym (map-append (λ (t : TaggedEntry). Added t) i.entries (map (tagged client xid) es)));
  journal = map-append (λ (t : TaggedEntry). t.entry) i.entries (map (tagged client xid) es) ∙ (λ j. i.journal j ++ tagged_alone client xid es j);
}

-- the entries that a history has after its first
abbrev tagged_in : HistoryEntry → List TaggedEntry
tagged_in (Opened first) = []
tagged_in (Added t) = t ∷ []

abbrev all_tagged_in : List HistoryEntry → List TaggedEntry
all_tagged_in [] = []
all_tagged_in (x ∷ h) = tagged_in x ++ all_tagged_in h

all_of_added : (T : List TaggedEntry) → all_tagged_in (additions T) ≡ T
all_of_added [] = refl
all_of_added (t ∷ T) = ap (λ (l : List TaggedEntry). t ∷ l) (all_of_added T)

all_append : (xs ys : List HistoryEntry) → all_tagged_in (xs ++ ys) ≡ all_tagged_in xs ++ all_tagged_in ys
all_append [] ys = refl
all_append (x ∷ xs) ys =
    ap (λ (l : List TaggedEntry). tagged_in x ++ l) (all_append xs ys) ∙ sym (append_assoc (tagged_in x) (all_tagged_in xs) (all_tagged_in ys))

opening_of : HistoryEntry → Option Opening
opening_of (Opened first) = Some first
opening_of (Added t) = None

opening_in : List HistoryEntry → Option Opening
opening_in [] = None
opening_in (x ∷ h) = opening_of x

same_opening : (f g : Opening) (S T : List TaggedEntry) (more : List HistoryEntry) → history g T ≡ history f S ++ more → g ≡ f
unfolding opening_in opening_of
same_opening f g S T more e = same_Some g f (ap opening_in e)

later : (f g : Opening) (S T : List TaggedEntry) (more : List HistoryEntry) → history g T ≡ history f S ++ more → T ≡ S ++ all_tagged_in more
later f g S T more e =
    sym (all_of_added T) ∙ ap all_tagged_in e ∙ all_append (history f S) more ∙ ap (λ (l : List TaggedEntry). l ++ all_tagged_in more) (all_of_added S)

-- The entries of the history for which a server stands are the same, whatever history it is said to be.
pub no_call_twice : (kept : PlainServerState) (h : List HistoryEntry) → StandsFor kept h → HasNoCallTwice h
no_call_twice kept h (first, (T, (is, stands))) other U also =
    let same : T ≡ U = sym (all_of_added T) ∙ ap all_tagged_in (sym is ∙ also) ∙ all_of_added U in subst HasNoEntryTwice same stands.once

pub begins_itself : (xs : List HistoryEntry) → Begins xs xs
begins_itself xs = ([], sym (append-nil xs))

pub begins_on : (xs ys zs : List HistoryEntry) → Begins xs ys → Begins ys zs → Begins xs zs
begins_on xs ys zs (m, e) (n, f) = (m ++ n, f ∙ ap (λ (l : List HistoryEntry). l ++ n) e ∙ append_assoc xs m n)

-- ===== a turn

-- what a pass finds when it gets the turn
pub record Found (first : Opening) (T : List TaggedEntry) (seen : List HistoryEntry) (kept : PlainServerState) (stood : StandsFor kept seen) : Type 0 where
  pub others : List TaggedEntry
  pub first_is : stood.0 ≡ first
  pub entries_are : stood.1.0 ≡ T ++ others
  pub is : seen ≡ history first (T ++ others)
  pub stands : StandsAfter first (T ++ others) kept
  pub of_calls : AreOfCalls (setup_in first) (entries_alone T) (entries_alone others)

pub alone_append : (T U : List TaggedEntry) → entries_alone (T ++ U) ≡ entries_alone T ++ entries_alone U
alone_append T U = map-append (λ (t : TaggedEntry). t.entry) T U

pub found : (first : Opening) (T : List TaggedEntry) (seen seen' : List HistoryEntry) (kept : PlainServerState) → seen ≡ history first T → Begins seen seen' → (stood : StandsFor kept seen') → Found first T seen' kept stood
found first T seen seen' kept i (more, begins) (g, (U, (i', stands))) =
    let e : history g U ≡ history first T ++ more = sym i' ∙ begins ∙ ap (λ (l : List HistoryEntry). l ++ more) i in
    let same : g ≡ first = same_opening first g T U more e in
    let all : U ≡ T ++ all_tagged_in more = later first g T U more e in
    let others : List TaggedEntry = all_tagged_in more in
    let after : StandsAfter first (T ++ others) kept =
    subst (λ (l : List TaggedEntry). StandsAfter first l kept) all (subst (λ (f : Opening). StandsAfter f U kept) same stands) in
    record {
      others = others;
      first_is = same;
      entries_are = all;
      is = i' ∙ (λ j. history (same j) (all j));
      stands = after;
      of_calls = later_of_calls (setup_in first) [] (entries_alone T) (entries_alone others)
          (subst (λ (l : List Entry). AreOfCalls (setup_in first) [] l) (alone_append T others) after.of_calls);
    }

pub others_added : (before at after : PassView) (kept : PlainServerState) → Begins before.seen at.seen → at.mine ≡ before.mine → StandsFor kept at.seen → after.seen ≡ at.seen → after.mine ≡ at.mine → OnlyOthersAdded before after
others_added before at after kept begins own stands same same_own first J i =
    let f = found first i.entries before.seen at.seen kept i.is begins stands in
    record {
      others = entries_alone f.others;
      begins = (begins.0, same ∙ begins.1);
      seen = record {
        entries = i.entries ++ f.others;
        is = same ∙ f.is;
        journal = alone_append i.entries f.others ∙ ap (λ (l : List Entry). l ++ entries_alone f.others) i.journal;
      };
      once = no_call_twice kept after.seen (subst (StandsFor kept) (sym same) stands);
      of_calls = subst (λ (l : List Entry). AreOfCalls (setup_in first) l (entries_alone f.others)) i.journal f.of_calls;
      mine_is = same_own ∙ own;
    }

-- ===== lengths

pub stood_length : (kept : PlainServerState) (h : List HistoryEntry) → (stood : StandsFor kept h) → length h ≡ suc (length stood.1.0)
stood_length kept h (first, (T, (is, stands))) = ap length is ∙ ap suc (length-map T (λ (t : TaggedEntry). Added t))

pub entries_are : (kept : PlainServerState) (h : List HistoryEntry) (len n : ℕ) → ((s : Setup) (J : List Entry) → RepresentsJournal s J kept → len ≡ length J) → n ≡ len + 1 → StandsFor kept h → n ≡ length h
entries_are kept h len n is more (first, (T, (i, stands))) =
    let long = stood_length kept h (first, (T, (i, stands))) in
    let short = is (setup_in first) (entries_alone T) stands.represents.journal in
    let same = length-map T (λ (t : TaggedEntry). t.entry) in omega (arith, more, long, short, same)

pub fits : (kept : PlainServerState) (h : List HistoryEntry) (len : ℕ) → ((s : Setup) (J : List Entry) → RepresentsJournal s J kept → len ≡ length J) → StandsFor kept h → length h < 2 ^ 63 → len + 1 < 2 ^ 63
fits kept h len is stood room = let all = entries_are kept h len (len + 1) is refl stood in omega (arith, room, all)

-- after a call there is room for one entry more
pub room_for_one : (kept : PlainServerState) (h : List HistoryEntry) → StandsFor kept h → ((s : Setup) (T : List TaggedEntry) → RepresentsTagged s T kept → length T < 2 ^ 60) → length h + 1 < 2 ^ 63
room_for_one kept h (first, (T, (i, stands))) few =
    let long = stood_length kept h (first, (T, (i, stands))) in let less = few (setup_in first) T stands.represents in omega (arith, less, long)

pub some_entries : (kept : PlainServerState) (h : List HistoryEntry) → StandsFor kept h → (s : Setup) × ((T : List TaggedEntry) × RepresentsTagged s T kept)
some_entries kept h (first, (T, (i, stands))) = (setup_in first, (T, stands.represents))

-- ===== a server that was just opened

pub opened_stands : (kept : PlainServerState) (first : Opening) (h : List HistoryEntry) → first.value ≡ kept → h ≡ history first [] → (s : Setup) × RepresentsTagged s [] kept → StandsFor kept h
opened_stands kept first h is h_is (s, stands) = (
  first,
  (
    [],
    (
      h_is,
      record {
        represents = record {
          journal = record {
            tree = ap (λ (k : PlainServerState). k.tree) (sym is);
            cost = stands.journal.cost;
            count = stands.journal.count;
            parameters = ap (λ (k : PlainServerState). k.parameters) (sym is);
          };
          remembers = stands.remembers;
        };
        of_calls = tt;
        have_calls = All-nil HasCall;
        once = none_twice;
      },
    ),
  ),
)

same_view : (a b : PassView) → a.seen ≡ b.seen → a.mine ≡ b.mine → a ≡ b
same_view a b seen mine i = record { seen = seen i; mine = mine i }

-- what the pass has seen, and its one place
pub opened_view : (first : Opening) (h : List HistoryEntry) (v : View HistoryEntry) → h ≡ history first [] → v ≡ opening_view h
    → ◌≡◌ {A = PassView} (record { seen = v.seen; mine = v.mine }) (record { seen = history first []; mine = 0 ∷ [] })
opened_view first h v is e =
    same_view (record { seen = v.seen; mine = v.mine }) (record { seen = history first []; mine = 0 ∷ [] }) (ap (λ (w : View HistoryEntry). w.seen) e ∙ is)
    (ap (λ (w : View HistoryEntry). w.mine) e ∙ ap (λ (l : List HistoryEntry). places (length l)) is)

pub opened_room : (first : Opening) (h : List HistoryEntry) → h ≡ history first [] → length h < 2 ^ 63
opened_room first h is = let one = ap length is in omega (arith, one)

pub earlier : (h : List HistoryEntry) → Earlier closes_none h
earlier h p q e a c = absurd (none-some p c)
