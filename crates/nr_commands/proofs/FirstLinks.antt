-- A command over a shared link keeps what its caller knows of the link when the requester was shared.
use Rattle.std.proofs.Common.{◌≡◌, ℕ, ◌∙◌, List, [], ◌∷◌, length, Result, Ok, Err, Option, inl, inr, refl, ap}
use Rattle.std.specs.Prelude.{Bool, true, false, nat_lt, MatchBool}
use Rattle.nr_outside.specs.Streams.{SinkAt, SourceAt}
use Rattle.nr_nfs_base.specs.Limits.{link_target_max}
use Rattle.nr_nfs_res.specs.declared.create.CreateOk.{CreateOk}
use Rattle.nr_reduce.specs.declared.call.Call.{Call}
use Rattle.nr_reduce.specs.declared.call.Outcome.{Outcome}
use Rattle.nr_words.specs.Limits.{mount_path_max}
use Rattle.nr_words.specs.Lines.{Text}
use Rattle.nr_words.specs.declared.commands.Action.{Action}
use Rattle.nr_words.specs.declared.commands.Action.TheVariants as actions
use Rattle.nr_shared.specs.declared.call_end.CallEnd.{CallEnd}
use Rattle.nr_client.specs.declared.client_end.ClientEnd.{ClientEnd}
use Rattle.nr_client.specs.declared.client_end.ClientEnd.TheVariants as client
use Rattle.nr_client.specs.CallerViews.{AnswersBy, CallerView, CompletesBy, ForgetsBy, ForgetsCallBy, GivesUpBy, LooksBy, RefusesBy, SubmitsBy, shared_relations}
use Rattle.nr_client.specs.Following.{EndsWithOver, FollowsOver, MakesCallsOver, Next, UnansweredOver}
use Rattle.nr_client.specs.Following.Next.{Calls, Returns}
use Rattle.nr_client.specs.Listing.{list_next}
use Rattle.nr_client.specs.Reading.{EndsReadingOver, ForgetsCallsOver, LeadsOver, OpenRead, ReadStepOver, ReadingOver, ReadsFileOver, starts_at, xids_of}
use Rattle.nr_client.specs.Reading.ReadStepOver.{AsksAhead, Looks, MakesAlone, TakesOldest}
use Rattle.nr_client.specs.Reading.EndsReadingOver.{EndsByReplies, NotAnswered, NotSubmitted, OldestForgotten, OutputFails}
use Rattle.nr_client.specs.Requests.{AsksOver, create_result, getattr_call, getattr_result, mkdir_call, mnt_call, mnt_result, readlink_call, readlink_result, remove_call, remove_result, symlink_call}
use Rattle.nr_client.specs.Walking.{parent_next, walk_next}
use Rattle.nr_client.specs.Writing.{EndsWritingOver, WritesFileOver, writing}
use Rattle.nr_client.specs.Writing.EndsWritingOver.{FollowsInput, InputFails}
use Rattle.nr_commands.specs.Commands.{FindsOver, FindsParentOver, GetsOver, MountsOver, PutsOver, SymlinksOver}
use Rattle.nr_commands.specs.Printed.{attributes_text, handle_text, names_text, path_text}
use Rattle.nr_commands.specs.Running.{text_of_over}
use Rattle.nr_commands.specs.Sessions.{FailsOver, PartOver, RequestOver, RequestsOver, TextOver, ThenOver}

abbrev Keeps : (v w : CallerView) → Type 0
Keeps v w = w.firsts ≡ v.firsts

same : (v w : CallerView) → w ≡ v → Keeps v w
same v w is = ap (λ (x : CallerView). x.firsts) is

-- ---- Each call, and each half of one

answered : (v w : CallerView) (call : Call) (outcome : Outcome) → AnswersBy v w call outcome → Keeps v w
answered v w call outcome a = a.adds.same_firsts

refused : (v w : CallerView) (call : Call) (end : CallEnd) → RefusesBy v w call end → Keeps v w
refused v w call end r = r.adds.same_firsts

given_up : (v w : CallerView) (call : Call) (end : CallEnd) → GivesUpBy v w call end → Keeps v w
given_up v w call end (inl r) = refused v w call end r
given_up v w call end (inr f) = f.adds.same_firsts

submitted : (v w : CallerView) (call : Call) (xid : ℕ) → SubmitsBy v w call xid → Keeps v w
submitted v w call xid s = s.adds.same_firsts

completed : (xid : ℕ) (outcome : Outcome) (v w : CallerView) → CompletesBy xid outcome v w → Keeps v w
completed xid outcome v w c = c.adds.same_firsts

forgotten : (xid : ℕ) (end : CallEnd) (v w : CallerView) → ForgetsBy xid end v w → Keeps v w
forgotten xid end v w f = f.adds.same_firsts

dropped : (xid : ℕ) (v w : CallerView) → ForgetsCallBy xid v w → Keeps v w
dropped xid v w f = f.adds.same_firsts

looked : (v w : CallerView) → LooksBy v w → Keeps v w
looked v w l = l.adds.same_firsts

-- ---- Requests of one call, and of several

asked : {A : Type 0} (reads : Outcome → Result A ClientEnd) (call : Call) (v w : CallerView) (result : Result A ClientEnd) → AsksOver shared_relations reads call v w result → Keeps v w
asked reads call v w result (inl (outcome, (a, gives))) = answered v w call outcome a
asked reads call v w result (inr (inl (end, (is, g)))) = given_up v w call end g
asked reads call v w result (inr (inr (is, before))) = same v w before

made : {A : Type 0} (request : List Outcome → Next A) (outcomes : List Outcome) (v w : CallerView) → MakesCallsOver shared_relations request outcomes v w → Keeps v w
made request [] v w h = same v w h
made request (outcome ∷ outcomes) v w (call, mid, (is, (a, more))) = made (λ later. request (outcome ∷ later)) outcomes mid w more ∙ answered v mid call outcome a

unanswered : (call : Call) (v w : CallerView) (end : ClientEnd) → UnansweredOver shared_relations call v w end → Keeps v w
unanswered call v w end (inl (cause, (is, g))) = given_up v w call cause g
unanswered call v w end (inr (is, before)) = same v w before

ended : {A : Type 0} (next : Next A) (v w : CallerView) (given : Result A ClientEnd) → EndsWithOver shared_relations next v w given → Keeps v w
ended (Returns result) v w given (gives, is) = same v w is
ended (Calls call) v w given (end, (is, u)) = unanswered call v w end u

followed : {A : Type 0} (request : List Outcome → Next A) (v w : CallerView) (given : Result A ClientEnd) → FollowsOver shared_relations request v w given → Keeps v w
followed request v w given f = ended (request f.outcomes) f.between w given f.ends ∙ made request f.outcomes v f.between f.made

-- ---- A file that is read, and one that is written

stepped : (uid gid : ℕ) (file : List ℕ) (s t : ReadingOver CallerView) → ReadStepOver shared_relations uid gid file s t → Keeps s.link t.link
stepped uid gid file s t (MakesAlone call outcome alone a more waits) = answered s.link t.link call outcome a
stepped uid gid file s t (AsksAhead read ahead sub more waits) = submitted s.link t.link read.call read.xid sub
stepped uid gid file s t (TakesOldest read outcome none next done more waits) = completed read.xid outcome s.link t.link done
stepped uid gid file s t (Looks looks more waits) = looked s.link t.link looks

led : (uid gid : ℕ) (file : List ℕ) (first : ReadingOver CallerView) (states : List (ReadingOver CallerView)) (last : ReadingOver CallerView)
    → LeadsOver shared_relations uid gid file first states last → Keeps first.link last.link
led uid gid file first [] last h = ap (λ (s : ReadingOver CallerView). s.link.firsts) h
led uid gid file first (s ∷ states) last (step, more) = stepped uid gid file s last step ∙ led uid gid file first states s more

read_to : (uid gid : ℕ) (file : List ℕ) (s : ReadingOver CallerView) (left : List OpenRead) (w : CallerView) (taken taken' : Option (List ℕ)) (given : Result (Unit {0}) ClientEnd)
    → EndsReadingOver shared_relations uid gid file s left w taken taken' given → Keeps s.link w
read_to uid gid file s left w taken taken' given (EndsByReplies is why stay takes) = same s.link w is
read_to uid gid file s left w taken taken' given (OutputFails end is stay takes) = same s.link w is
read_to uid gid file s left w taken taken' given (NotAnswered call end alone is u stay takes) = unanswered call s.link w end u
read_to uid gid file s left w taken taken' given (NotSubmitted call end ahead is r stay takes) = refused s.link w call end r
read_to uid gid file s left w taken taken' given (OldestForgotten read end none next is f stay takes) = forgotten read.xid end s.link w f

all_dropped : (xids : List ℕ) (v w : CallerView) → ForgetsCallsOver shared_relations xids v w → Keeps v w
all_dropped [] v w h = same v w h
all_dropped (xid ∷ xids) v w (mid, (f, more)) = all_dropped xids mid w more ∙ dropped xid v mid f

file_read : (uid gid : ℕ) (file : List ℕ) (v w : CallerView) (taken taken' : Option (List ℕ)) (given : Result (Unit {0}) ClientEnd)
    → ReadsFileOver shared_relations uid gid file v w taken taken' given → Keeps v w
file_read uid gid file v w taken taken' given r =
    all_dropped (xids_of r.left) r.ended w r.forgets
    ∙ (read_to uid gid file r.last r.left r.ended taken taken' given r.ends ∙ led uid gid file (starts_at v) r.between r.last r.made)

written_to : (uid gid : ℕ) (dir name handed rest : List ℕ) (v w : CallerView) (result : Result (Unit {0}) ClientEnd)
    → EndsWritingOver shared_relations uid gid dir name handed rest v w result → Keeps v w
written_to uid gid dir name handed rest v w result (FollowsInput follows count ahead) = followed _ v w result follows
written_to uid gid dir name handed rest v w result (InputFails outcomes is calls ahead) = made _ outcomes v w calls

-- ---- Parts of a command

abbrev PartKeeps : {A : Type 0} → PartOver CallerView A → Type 0
PartKeeps {A} part = (v w : CallerView) (result : Result A ClientEnd) → part v w result → Keeps v w

keeps_then : {A B : Type 0} (first : PartOver CallerView A) (next : A → PartOver CallerView B) → PartKeeps first → ((value : A) → PartKeeps (next value)) → PartKeeps (ThenOver first next)
keeps_then first next k m v w result (inl (value, (mid, (f, n)))) = m value mid w result n ∙ k v mid (Ok value) f
keeps_then first next k m v w result (inr (end, (f, is))) = k v w (Err end) f

keeps_text : (text : List ℕ) → PartKeeps (TextOver text)
keeps_text text v w result (is, of) = same v w is

keeps_request : {A : Type 0} (reads : Outcome → Result A ClientEnd) (call : Call) → PartKeeps (RequestOver shared_relations reads call)
keeps_request reads call v w result (a, counts) = asked reads call v w result a

keeps_requests : {A : Type 0} (request : List Outcome → Next A) → PartKeeps (RequestsOver shared_relations request)
keeps_requests request v w result (f, counts) = followed request v w result f

-- a request, unless what it sends is too long
keeps_within : {A : Type 0} (too_long : Bool) (limit : ℕ) (sent : PartOver CallerView A) → PartKeeps sent → (v w : CallerView) (result : Result A ClientEnd)
    → MatchBool too_long (FailsOver (client.Budget limit) v w result) (sent v w result) → Keeps v w
keeps_within true limit sent k v w result (is, of) = same v w is
keeps_within false limit sent k v w result h = k v w result h

keeps_mount : (uid gid : ℕ) (export : List ℕ) → PartKeeps (MountsOver shared_relations uid gid export)
keeps_mount uid gid export v w result h =
    keeps_within (nat_lt mount_path_max (length export)) mount_path_max (RequestOver shared_relations mnt_result (mnt_call uid gid export)) (keeps_request mnt_result (mnt_call uid gid export)) v w result h

keeps_find : (uid gid : ℕ) (export path : List ℕ) → PartKeeps (FindsOver shared_relations uid gid export path)
keeps_find uid gid export path = keeps_then _ _ (keeps_mount uid gid export) (λ root. keeps_requests (walk_next uid gid root path))

keeps_parent : (uid gid : ℕ) (export path : List ℕ) → PartKeeps (FindsParentOver shared_relations uid gid export path)
keeps_parent uid gid export path = keeps_then _ _ (keeps_mount uid gid export) (λ root. keeps_requests (parent_next uid gid root path))

keeps_symlink : (uid gid : ℕ) (dir name target : List ℕ) → PartKeeps (SymlinksOver shared_relations uid gid dir name target)
keeps_symlink uid gid dir name target v w result h =
    keeps_within (nat_lt link_target_max (length target)) link_target_max (RequestOver shared_relations create_result (symlink_call uid gid dir name target))
    (keeps_request create_result (symlink_call uid gid dir name target)) v w result h

keeps_get : (uid gid : ℕ) (export path : List ℕ) (out out' : SinkAt) → PartKeeps (GetsOver shared_relations uid gid export path out out')
keeps_get uid gid export path out out' v w text (inl (file, (mid, (found, (done, ((reads, counts), silent)))))) =
    file_read uid gid file mid w out.taken out'.taken done reads ∙ keeps_find uid gid export path v mid (Ok file) found
keeps_get uid gid export path out out' v w text (inr (end, (found, none))) = keeps_find uid gid export path v w (Err end) found

keeps_put : (uid gid : ℕ) (export path : List ℕ) (input input' : SourceAt) → PartKeeps (PutsOver shared_relations uid gid export path input input')
keeps_put uid gid export path input input' v w text (inl (place, (mid, (found, (done, ((writes, counts), silent)))))) =
    written_to uid gid place.0 place.1 writes.handed writes.rest mid w done writes.calls ∙ keeps_parent uid gid export path v mid (Ok place) found
keeps_put uid gid export path input input' v w text (inr (end, (found, none))) = keeps_parent uid gid export path v w (Err end) found

-- the complete part up to its text
pub keeps_first : (uid gid : ℕ) (export : List ℕ) (action : Action Text) (input input' : SourceAt) (out out' : SinkAt) → PartKeeps (text_of_over shared_relations uid gid export action input input' out out')
keeps_first uid gid export actions.Mount input input' out out' v w text (h, rest) =
    keeps_then _ _ (keeps_mount uid gid export) (λ root. keeps_text (handle_text root)) v w text h
keeps_first uid gid export (actions.List path) input input' out out' v w text (h, rest) =
    keeps_then _ _ (keeps_find uid gid export path) (λ dir. keeps_then _ _ (keeps_requests (list_next uid gid dir)) (λ names. keeps_text (names_text names))) v w text h
keeps_first uid gid export (actions.Stat path) input input' out out' v w text (h, rest) =
    keeps_then _ _ (keeps_find uid gid export path) (λ file. keeps_then _ _ (keeps_request getattr_result (getattr_call uid gid file)) (λ attributes. keeps_text (attributes_text attributes))) v w text h
keeps_first uid gid export (actions.ReadLink path) input input' out out' v w text (h, rest) =
    keeps_then _ _ (keeps_find uid gid export path) (λ file. keeps_then _ _ (keeps_request readlink_result (readlink_call uid gid file)) (λ link. keeps_text (path_text link.path))) v w text h
keeps_first uid gid export (actions.MakeDirectory path) input input' out out' v w text (h, rest) =
    keeps_then _ _ (keeps_parent uid gid export path) (λ place. keeps_then _ _ (keeps_request create_result (mkdir_call uid gid place.0 place.1)) (λ done. keeps_text [])) v w text h
keeps_first uid gid export (actions.Remove path) input input' out out' v w text (h, rest) =
    keeps_then _ _ (keeps_parent uid gid export path) (λ place. keeps_then _ _ (keeps_request remove_result (remove_call uid gid place.0 place.1)) (λ done. keeps_text [])) v w text h
keeps_first uid gid export (actions.Link path target) input input' out out' v w text (h, rest) =
    keeps_then _ _ (keeps_parent uid gid export path) (λ place. keeps_then _ _ (keeps_symlink uid gid place.0 place.1 target) (λ done. keeps_text [])) v w text h
keeps_first uid gid export (actions.Put path) input input' out out' v w text (h, rest) = keeps_put uid gid export path input input' v w text h
keeps_first uid gid export (actions.Get path) input input' out out' v w text (h, rest) = keeps_get uid gid export path out out' v w text h
