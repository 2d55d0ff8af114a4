-- What a command prints, or why it is refused, as functions of the server's trees: each LOOKUP is answered in the tree at its place of the journal, and
-- so is the call after them.
use Rattle.std.specs.Prelude.{◌≡◌, ⊤, ℕ, suc, ◌<◌, ◌≤◌, ◌^◌, ◌⊎◌, if◌then◌else◌, List, [], ◌∷◌, ◌++◌, length, take, nat_eq, nat_lt, None, Some, Result, Ok, Err}
use Rattle.std.specs.Cmp.Lexicographic.{pointwise}
use mathlib.Core.Logic.{inl, inr}
use Rattle.nr_outside.specs.Streams.{SinkAt, SourceAt}
use Rattle.nr_outside.specs.declared.moment.Moment.{Moment}
use Rattle.nr_rpc.specs.declared.cred.Cred.TheVariants as creds
use Rattle.nr_nfs_base.specs.Limits.{link_target_max}
use Rattle.nr_nfs_base.specs.declared.attributes.Attributes.{Attributes}
use Rattle.nr_nfs_base.specs.declared.caller.Caller.{Caller}
use Rattle.nr_nfs_base.specs.declared.mount_status.MountStatus.TheVariants as mount_status
use Rattle.nr_nfs_base.specs.declared.procedure.NfsProcedure.{NfsProcedure}
use Rattle.nr_nfs_base.specs.declared.procedure.NfsProcedure.TheVariants as nfs
use Rattle.nr_nfs_base.specs.declared.status.Status.{Status}
use Rattle.nr_nfs_base.specs.declared.status_union.StatusUnion.{StatusUnion}
use Rattle.nr_nfs_base.specs.declared.status_union.StatusUnion.TheVariants.{Done, Failed}
use Rattle.nr_nfs_args.specs.Arguments.{NfsArguments}
use Rattle.nr_nfs_args.specs.declared.create.MkdirArgs.{MkdirArgs}
use Rattle.nr_nfs_args.specs.declared.remove.RemoveArgs.{RemoveArgs}
use Rattle.nr_nfs_args.specs.declared.special.SymlinkArgs.{SymlinkArgs}
use Rattle.nr_nfs_res.specs.declared.lookup.LookupOk.{LookupOk}
use Rattle.nr_nfs_res.specs.declared.lookup.ReadlinkOk.{ReadlinkOk}
use Rattle.nr_reduce.specs.declared.mark.Entry.{Entry}
use Rattle.nr_tree.specs.Replies.{attributes_at}
use Rattle.nr_tree.specs.Rules.{node_of_handle, number_of_handle}
use Rattle.nr_tree.specs.Sane.{IsSane}
use Rattle.nr_tree.specs.Tree.{Tree, attributes_of}
use Rattle.nr_tree.specs.declared.node.Content.TheVariants.{Link}
use Rattle.nr_tree.specs.declared.node.Node.{Node}
use Rattle.nr_ops_file.specs.Attributes.{getattr_reply}
use Rattle.nr_ops_file.specs.Links.{readlink_reply}
use Rattle.nr_ops_list.specs.Lookup.{lookup_reply}
use Rattle.nr_plain.specs.Journal.{state_of, tree_at}
use Rattle.nr_plain.specs.Programs.{nfs_tree}
use Rattle.nr_plain.specs.Setup.{Setup, caller_of, space_of, time_of}
use Rattle.nr_words.specs.Limits.{mount_path_max}
use Rattle.nr_words.specs.Lines.{Text}
use Rattle.nr_words.specs.declared.commands.Action.{Action}
use Rattle.nr_words.specs.declared.commands.Action.TheVariants as actions
use Rattle.nr_words.specs.declared.commands.Client.{Client}
use Rattle.nr_client.specs.declared.client_end.ClientEnd.{ClientEnd}
use Rattle.nr_client.specs.declared.client_end.ClientEnd.TheVariants as client
use Rattle.nr_client.specs.Dialing.{DialerAt}
use Rattle.nr_client.specs.Paths.{path_names}
use Rattle.nr_client.specs.Requests.{directory_mode, machine, only_mode}
use Rattle.nr_commands.specs.Commands.{Gets, Puts}
use Rattle.nr_commands.specs.Printed.{attributes_text, handle_text, path_text}
use Rattle.nr_commands.specs.Running.{Runs, text_of}
use Rattle.nr_commands.specs.Running.Runs.{NotOpened, Opened}
use Rattle.nr_commands.specs.Sessions.{SessionAt}
use Rattle.nr_service_laws.specs.Exchanges.{tells_text}
use Rattle.nr_reply_laws.specs.Replies.{AreIds}
use Rattle.nr_pair_laws.specs.FilesAt.{KeepPath, handle_along}
use Rattle.nr_pair_laws.specs.Pairs.{AreAnsweredFrom}
use Rattle.nr_pair_laws.specs.PutThenGet.{root_handle}
use Rattle.nr_pair_laws.specs.ReadResults.{encoded_arguments, results_there}

-- ===== results

-- what follows from a value, or the end that there is in its place
abbrev pub on_value : {A B : Type 0} → Result A ClientEnd → (A → Result B ClientEnd) → Result B ClientEnd
on_value (Ok value) next = next value
on_value (Err end) next = Err end

-- what a command makes of the results of a procedure: of their value, or the status of the refusal (RFC 1813 section 2.6)
abbrev pub result_by : {A D F : Type 0} → (D → A) → StatusUnion D F Status → Result A ClientEnd
result_by make (Done value) = Ok (make value)
result_by make (Failed status part) = Err (client.Nfs status)

-- the results of a change, of which nothing is printed
abbrev pub silent : {D F : Type 0} → StatusUnion D F Status → Result (List ℕ) ClientEnd
silent results = result_by (λ value. []) results

-- ===== where a path leads a user

-- MNT (RFC 1813 section 5.2.1): the handle of the root, whatever the tree has, if the path is byte for byte that of the server's export
abbrev pub root_of : (served export : List ℕ) → Result (List ℕ) ClientEnd
root_of served export =
    if nat_lt mount_path_max (length export) then Err (client.Budget mount_path_max)
    else (if pointwise nat_eq export served then Ok root_handle
    else Err (client.Mount mount_status.Noent))

-- LOOKUP of a name in a directory (RFC 1813 section 3.3.3): the handle
abbrev pub object_in : Tree → Caller → (dir name : List ℕ) → Result (List ℕ) ClientEnd
object_in t c dir name = result_by (λ (found : LookupOk). found.object) (lookup_reply t c (record { dir = dir; name = name }))

-- LOOKUPs of names, one after another from a directory, each in the next of these trees
abbrev pub object_along : (trees : ℕ → Tree) → Caller → (dir : List ℕ) → (names : List (List ℕ)) → Result (List ℕ) ClientEnd
object_along trees c dir [] = Ok dir
object_along trees c dir (name ∷ names) = on_value (object_in (trees 0) c dir name) (λ object. object_along (λ i. trees (suc i)) c object names)

-- the same of all names but the last: the directory that has the last name, and that name
abbrev pub parent_after : (trees : ℕ → Tree) → Caller → (dir name : List ℕ) → (names : List (List ℕ)) → Result (List ℕ × List ℕ) ClientEnd
parent_after trees c dir name [] = Ok (dir, name)
parent_after trees c dir name (next ∷ names) = on_value (object_in (trees 0) c dir name) (λ object. parent_after (λ i. trees (suc i)) c object next names)

-- a path without a name is bad at its end
abbrev pub parent_along : (trees : ℕ → Tree) → Caller → (dir : List ℕ) → (at : ℕ) → (names : List (List ℕ)) → Result (List ℕ × List ℕ) ClientEnd
parent_along trees c dir at [] = Err (client.BadPath at)
parent_along trees c dir at (name ∷ names) = parent_after trees c dir name names

-- from the root of an export: the file of a path, or the directory that has its last component
abbrev pub file_of : (served export path : List ℕ) → Caller → (trees : ℕ → Tree) → Result (List ℕ) ClientEnd
file_of served export path c trees = on_value (root_of served export) (λ root. on_value (path_names path) (λ names. object_along trees c root names))

abbrev pub parent_of : (served export path : List ℕ) → Caller → (trees : ℕ → Tree) → Result (List ℕ × List ℕ) ClientEnd
parent_of served export path c trees = on_value (root_of served export) (λ root. on_value (path_names path) (λ names. parent_along trees c root (length path) names))

-- ===== the call after that, and the text of its results

-- `stat` and `readlink`: GETATTR and READLINK (RFC 1813 sections 3.3.1 and 3.3.5)
abbrev pub stat_in : Tree → (file : List ℕ) → Result (List ℕ) ClientEnd
stat_in t file = result_by attributes_text (getattr_reply t (record { object = file }))

abbrev pub link_in : Tree → (file : List ℕ) → Result (List ℕ) ClientEnd
link_in t file = result_by (λ (link : ReadlinkOk). path_text link.path) (readlink_reply t (record { symlink = file }))

-- `mkdir`, `rm` and `ln`: MKDIR, REMOVE and SYMLINK (RFC 1813 sections 3.3.9, 3.3.12 and 3.3.10)
abbrev pub mkdir_of : (at : List ℕ × List ℕ) → MkdirArgs
mkdir_of at = record { dir = at.0; name = at.1; attributes = only_mode (Some directory_mode) }

abbrev pub remove_of : (at : List ℕ × List ℕ) → RemoveArgs
remove_of at = record { dir = at.0; name = at.1 }

abbrev pub symlink_of : (target : List ℕ) → (at : List ℕ × List ℕ) → SymlinkArgs
symlink_of target at = record { dir = at.0; name = at.1; attributes = only_mode None; path = target }

-- the tree that a procedure makes of the tree at a place, by a call of this user at this moment
abbrev pub tree_there : Setup → List Entry → (place : ℕ) → Moment → (uid gid : ℕ) → (p : NfsProcedure) → NfsArguments p → Tree
tree_there s J place m uid gid p a =
    nfs_tree (tree_at s J place) (caller_of (creds.Sys 0 machine uid gid [])) (space_of s.parameters (state_of s (take place J)) (encoded_arguments p a)) (time_of m) p a

-- ===== at places of a journal

-- The calls of a command have these places in a journal, none before the one before it, from a place on: each LOOKUP, and the call after them.
pub record ArePlaces (J : List Entry) (from : ℕ) (places : ℕ → ℕ) (last : ℕ) : Type 0 where
  pub first : from ≤ places 0
  pub rise : (i : ℕ) → places i ≤ places (suc i)
  pub ends : (i : ℕ) → places i ≤ last
  pub within : last ≤ length J

-- A command has the result that these functions give: of the trees at the places of its LOOKUPs, what they find; and of that, with the place of the call
-- after them and the moment at which it was executed, the text or the refusal.
pub record IsOfTrees {A : Type 0} (s : Setup) (J : List Entry) (from : ℕ) (finds : (trees : ℕ → Tree) → Result A ClientEnd) (answer : (place : ℕ) → Moment → A → Result (List ℕ) ClientEnd)
    (result : Result (List ℕ) ClientEnd) : Type 0 where
  pub places : ℕ → ℕ
  pub last : ℕ
  pub are : ArePlaces J from places last
  pub moment : Moment
  pub is : result ≡ on_value (finds (λ i. tree_at s J (places i))) (answer last moment)

-- The same of a change. If it was done, the tree after the entry at its place is this.
pub record ChangesTree {A : Type 0} (s : Setup) (J : List Entry) (from : ℕ) (finds : (trees : ℕ → Tree) → Result A ClientEnd) (answer : (place : ℕ) → Moment → A → Result (List ℕ) ClientEnd)
    (tree : (place : ℕ) → Moment → A → Tree) (result : Result (List ℕ) ClientEnd) : Type 0 where
  pub of_trees : IsOfTrees s J from finds answer result
  pub changed : (value : A) (text : List ℕ) → finds (λ i. tree_at s J (of_trees.places i)) ≡ Ok value → result ≡ Ok text → tree_at s J (suc of_trees.last) ≡ tree of_trees.last of_trees.moment value

-- What the LOOKUPs of a command found, or the end with which they ended, is what this function gives of the trees at their places.
pub record IsFound {A : Type 0} (s : Setup) (J : List Entry) (from : ℕ) (finds : (trees : ℕ → Tree) → Result A ClientEnd) (found : Result A ClientEnd) : Type 0 where
  pub places : ℕ → ℕ
  pub last : ℕ
  pub are : ArePlaces J from places last
  pub is : found ≡ finds (λ i. tree_at s J (places i))

-- what the LOOKUPs of a `get` found, by its own clause: the file, or the end with which they ended
abbrev pub found_by_get : (uid gid : ℕ) (export path : List ℕ) (out out' : SinkAt) (t t' : SessionAt) (result : Result (List ℕ) ClientEnd) → Gets uid gid export path out out' t t' result → Result (List ℕ) ClientEnd
found_by_get uid gid export path out out' t t' result (inl (file, rest)) = Ok file
found_by_get uid gid export path out out' t t' result (inr (end, rest)) = Err end

-- those of a `put`: the directory that has the last name, and that name, or the end
abbrev pub found_by_put : (uid gid : ℕ) (export path : List ℕ) (input input' : SourceAt) (t t' : SessionAt) (result : Result (List ℕ) ClientEnd) → Puts uid gid export path input input' t t' result → Result (List ℕ × List ℕ) ClientEnd
found_by_put uid gid export path input input' t t' result (inl (at, rest)) = Ok at
found_by_put uid gid export path input input' t t' result (inr (end, rest)) = Err end

-- `ln`: a target of more than 1024 bytes is not sent
abbrev pub within_target : (target : List ℕ) → Result (List ℕ) ClientEnd → Result (List ℕ) ClientEnd
within_target target result = if nat_lt link_target_max (length target) then Err (client.Budget link_target_max) else result

-- What each command prints. Of `put` and `get`, what their LOOKUPs found, or the end with which these ended, and nothing of the calls after them; `ls` stands
-- in Listings.
abbrev pub TextIsOfTrees : Setup → List Entry → (from : ℕ) → (uid gid : ℕ) (export : List ℕ) (action : Action Text) (input input' : SourceAt) (out out' : SinkAt) (t t' : SessionAt) (result : Result (List ℕ) ClientEnd)
    → text_of uid gid export action input input' out out' t t' result → Type 0
TextIsOfTrees s J from uid gid export actions.Mount input input' out out' t t' result is = result ≡ on_value (root_of s.parameters.export export) (λ root. Ok (handle_text root))
TextIsOfTrees s J from uid gid export (actions.List path) input input' out out' t t' result is = ⊤
TextIsOfTrees s J from uid gid export (actions.Stat path) input input' out out' t t' result is =
    IsOfTrees s J from (file_of s.parameters.export export path (caller_of (creds.Sys 0 machine uid gid []))) (λ place m file. stat_in (tree_at s J place) file) result
TextIsOfTrees s J from uid gid export (actions.ReadLink path) input input' out out' t t' result is =
    IsOfTrees s J from (file_of s.parameters.export export path (caller_of (creds.Sys 0 machine uid gid []))) (λ place m file. link_in (tree_at s J place) file) result
TextIsOfTrees s J from uid gid export (actions.MakeDirectory path) input input' out out' t t' result is =
    ChangesTree s J from (parent_of s.parameters.export export path (caller_of (creds.Sys 0 machine uid gid [])))
    (λ place m at. silent (results_there s J place m uid gid nfs.Mkdir (mkdir_of at))) (λ place m at. tree_there s J place m uid gid nfs.Mkdir (mkdir_of at)) result
TextIsOfTrees s J from uid gid export (actions.Remove path) input input' out out' t t' result is =
    ChangesTree s J from (parent_of s.parameters.export export path (caller_of (creds.Sys 0 machine uid gid [])))
    (λ place m at. silent (results_there s J place m uid gid nfs.Remove (remove_of at))) (λ place m at. tree_there s J place m uid gid nfs.Remove (remove_of at)) result
TextIsOfTrees s J from uid gid export (actions.Link path target) input input' out out' t t' result is =
    ChangesTree s J from (parent_of s.parameters.export export path (caller_of (creds.Sys 0 machine uid gid [])))
    (λ place m at. within_target target (silent (results_there s J place m uid gid nfs.Symlink (symlink_of target at)))) (λ place m at. tree_there s J place m uid gid nfs.Symlink (symlink_of target at)) result
TextIsOfTrees s J from uid gid export (actions.Put path) input input' out out' t t' result is =
    IsFound s J from (parent_of s.parameters.export export path (caller_of (creds.Sys 0 machine uid gid []))) (found_by_put uid gid export path input input' t t' result is.0)
TextIsOfTrees s J from uid gid export (actions.Get path) input input' out out' t t' result is =
    IsFound s J from (file_of s.parameters.export export path (caller_of (creds.Sys 0 machine uid gid []))) (found_by_get uid gid export path out out' t t' result is.0)

-- ===== the laws

-- a call has no answer, or memory ran out
abbrev pub IsUnanswered : {A : Type 0} → Result A ClientEnd → Type 0
IsUnanswered (Err (client.Link end)) = ⊤
IsUnanswered (Err client.Memory) = ⊤
IsUnanswered result = ⊥

-- the numbers that `stat` prints fit their fields (RFC 1813 section 2.5, fattr3)
pub record FitFields (a : Attributes) : Type 0 where
  pub mode : a.mode < 2 ^ 32
  pub nlink : a.nlink < 2 ^ 32
  pub uid : a.uid < 2 ^ 32
  pub gid : a.gid < 2 ^ 32
  pub size : a.size < 2 ^ 64
  pub fileid : a.fileid < 2 ^ 64

-- so do those of each file, at each place of a journal
abbrev pub AttributesFit : Setup → List Entry → Type 0
AttributesFit s J = (k : ℕ) (h : List ℕ) (a : Attributes) → attributes_at (tree_at s J k) h ≡ Some a → FitFields a

-- what is asked of the trees of a command
abbrev pub FitsText : Setup → List Entry → Action Text → Type 0
FitsText s J actions.Mount = ⊤
FitsText s J (actions.List path) = ⊤
FitsText s J (actions.Stat path) = AttributesFit s J
FitsText s J (actions.ReadLink path) = ⊤
FitsText s J (actions.MakeDirectory path) = ⊤
FitsText s J (actions.Remove path) = ⊤
FitsText s J (actions.Link path target) = ⊤
FitsText s J (actions.Put path) = ⊤
FitsText s J (actions.Get path) = ⊤

-- what follows of a command whose calls are answered at places of a journal
abbrev pub SaysText : Setup → List Entry → (from : ℕ) → (c : Client Text) (before after : DialerAt) (input input' : SourceAt) (out out' : SinkAt) (result : Result (Unit {0}) ClientEnd)
    → Runs c before after input input' out out' result → Type 0
SaysText s J from c before after input input' out out' result (NotOpened end is fails same_input same_out) = ⊤
SaysText s J from c before after input input' out out' result (Opened dialed t t' opens prints closes) =
    AreAnsweredFrom s J from [] (tells_text c.uid c.gid c.export c.action input input' out prints.written t t' prints.text prints.made).made →
    IsUnanswered prints.text ⊎ TextIsOfTrees s J from c.uid c.gid c.export c.action input input' out prints.written t t' prints.text prints.made

-- What a command prints, or the refusal with its status, are these functions of the trees at the places of its calls, if each call has an answer, at a
-- place of the journal as `pairs_are_served` gives it.
abbrev pub TextsAreOfTheTrees : Type 0
TextsAreOfTheTrees =
    (s : Setup) (J : List Entry) (from : ℕ) (c : Client Text) (before after : DialerAt) (input input' : SourceAt) (out out' : SinkAt) (result : Result (Unit {0}) ClientEnd)
    (runs : Runs c before after input input' out out' result) → IsSane s.tree → FitsText s J c.action → AreIds c.uid c.gid → SaysText s J from c before after input input' out out' result runs

-- ---- In one tree

-- In the same tree each time a path leads to what it leads to in that tree alone.
abbrev pub PathsInOneTree : Type 0
PathsInOneTree =
    (served export path : List ℕ) (c : Caller) (trees : ℕ → Tree) (t : Tree) → ((i : ℕ) → trees i ≡ t) →
    (file_of served export path c trees ≡ file_of served export path c (λ i. t)) × (parent_of served export path c trees ≡ parent_of served export path c (λ i. t))

-- no entry from a place on, up to that one, changes the tree
abbrev pub KeepTree : Setup → List Entry → (from to : ℕ) → Type 0
KeepTree s J from to = (k : ℕ) → from ≤ k → k < to → tree_at s J (suc k) ≡ tree_at s J k

-- So of a command between whose calls no entry changes the tree, what it finds is a function of the tree at the place of its last call.
abbrev pub TextsInOneTree : Type 0
TextsInOneTree =
    (s : Setup) (J : List Entry) (from : ℕ) (served export path : List ℕ) (c : Caller) (places : ℕ → ℕ) (last : ℕ) → ArePlaces J from places last → KeepTree s J from last →
    (file_of served export path c (λ i. tree_at s J (places i)) ≡ file_of served export path c (λ i. tree_at s J last))
    × (parent_of served export path c (λ i. tree_at s J (places i)) ≡ parent_of served export path c (λ i. tree_at s J last))

-- ---- Where the path leads

-- If no entry between the calls changes what the path leads to, the file that they find is the one to which the path leads at the place of the last call.
abbrev pub FoundFilesAreThere : Type 0
FoundFilesAreThere =
    (s : Setup) (J : List Entry) (from : ℕ) (served export path : List ℕ) (names : List (List ℕ)) (c : Caller) (places : ℕ → ℕ) (last : ℕ) (file : List ℕ) → ArePlaces J from places last →
    path_names path ≡ Ok names → KeepPath s J root_handle names from last → file_of served export path c (λ i. tree_at s J (places i)) ≡ Ok file →
    handle_along (tree_at s J last) root_handle names ≡ Some file

-- The same of the directory that has the last name.
pub record IsParentThere (t : Tree) (names : List (List ℕ)) (at : List ℕ × List ℕ) : Type 0 where
  pub above : List (List ℕ)
  pub whole : above ++ at.1 ∷ [] ≡ names
  pub leads : handle_along t root_handle above ≡ Some at.0

abbrev pub FoundParentsAreThere : Type 0
FoundParentsAreThere =
    (s : Setup) (J : List Entry) (from : ℕ) (served export path : List ℕ) (names : List (List ℕ)) (c : Caller) (places : ℕ → ℕ) (last : ℕ) (at : List ℕ × List ℕ) → ArePlaces J from places last →
    path_names path ≡ Ok names → KeepPath s J root_handle names from last → parent_of served export path c (λ i. tree_at s J (places i)) ≡ Ok at → IsParentThere (tree_at s J last) names at

-- ---- The node at the end of the path

-- Names lead to the file of a node, of which this holds.
pub record LeadsToNode (t : Tree) (names : List (List ℕ)) (Is : (number : ℕ) → Node → Type 0) : Type 0 where
  pub file : List ℕ
  pub leads : handle_along t root_handle names ≡ Some file
  pub node : Node
  pub live : node_of_handle t file ≡ Some node
  pub is : Is (number_of_handle file) node

-- What `stat` printed are the attributes of the node to which its path leads at the place of its GETATTR, if no entry between its calls changes what the
-- path leads to.
abbrev pub StatsAreOfTheNode : Type 0
StatsAreOfTheNode =
    (s : Setup) (J : List Entry) (from : ℕ) (c : Caller) (export path text : List ℕ) (names : List (List ℕ))
    (of_trees : IsOfTrees s J from (file_of s.parameters.export export path c) (λ place m file. stat_in (tree_at s J place) file) (Ok text)) → path_names path ≡ Ok names →
    KeepPath s J root_handle names from of_trees.last → LeadsToNode (tree_at s J of_trees.last) names (λ number node. text ≡ attributes_text (attributes_of number node))

-- What `readlink` printed is the path of the symbolic link to which its path leads.
abbrev pub LinksAreOfTheNode : Type 0
LinksAreOfTheNode =
    (s : Setup) (J : List Entry) (from : ℕ) (c : Caller) (export path text : List ℕ) (names : List (List ℕ))
    (of_trees : IsOfTrees s J from (file_of s.parameters.export export path c) (λ place m file. link_in (tree_at s J place) file) (Ok text)) → path_names path ≡ Ok names →
    KeepPath s J root_handle names from of_trees.last → LeadsToNode (tree_at s J of_trees.last) names (λ number node. (target : List ℕ) × ((node.content ≡ Link target) × (text ≡ path_text target)))
