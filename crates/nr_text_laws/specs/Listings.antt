-- What `ls` prints, as a function of the server's trees: READDIR up to the end of the directory, each in the tree at its place (RFC 1813 section 3.3.16).
use Rattle.std.specs.Prelude.{◌≡◌, ℕ, zero, suc, ◌<◌, ◌^◌, ◌⊎◌, ltb, if◌then◌else◌, List, [], ◌++◌, length, map, Option, None, Some, Result, Ok, Err}
use Rattle.std.specs.Option.{option_map}
use Rattle.nr_rpc.specs.declared.cred.Cred.TheVariants as creds
use Rattle.nr_nfs_base.specs.Limits.{listing_max}
use Rattle.nr_nfs_base.specs.declared.attributes.Attributes.{Attributes}
use Rattle.nr_nfs_base.specs.declared.caller.Caller.{Caller}
use Rattle.nr_nfs_base.specs.declared.status.Status.{Status}
use Rattle.nr_nfs_base.specs.declared.status_union.StatusUnion.{StatusUnion}
use Rattle.nr_nfs_base.specs.declared.status_union.StatusUnion.TheVariants.{Done, Failed}
use Rattle.nr_nfs_args.specs.declared.readdir.ReaddirArgs.{ReaddirArgs}
use Rattle.nr_nfs_res.specs.Readdir.{ReaddirOk}
use Rattle.nr_nfs_res.specs.declared.readdir.Entry.{Entry as Listed}
use Rattle.nr_reduce.specs.declared.mark.Entry.{Entry}
use Rattle.nr_tree.specs.Entries.{Each, Entries}
use Rattle.nr_tree.specs.Entries.{Entry as DirectoryEntry}
use Rattle.nr_tree.specs.Sane.{IsSane}
use Rattle.nr_tree.specs.Tree.{Tree}
use Rattle.nr_tree.specs.declared.node.Content.TheVariants.{Directory}
use Rattle.nr_ops_list.specs.Readdir.{cookie_verifier, readdir_reply}
use Rattle.nr_plain.specs.Journal.{tree_at}
use Rattle.nr_plain.specs.Setup.{Setup, caller_of}
use Rattle.nr_client.specs.declared.client_end.ClientEnd.{ClientEnd}
use Rattle.nr_client.specs.declared.client_end.ClientEnd.TheVariants as client
use Rattle.nr_client.specs.Listing.{entries_max, last_cookie}
use Rattle.nr_client.specs.Paths.{path_names}
use Rattle.nr_client.specs.Requests.{machine}
use Rattle.nr_commands.specs.Commands.{Lists}
use Rattle.nr_commands.specs.Printed.{names_text}
use Rattle.nr_commands.specs.Sessions.{SessionAt}
use Rattle.nr_service_laws.specs.Exchanges.{tells_list}
use Rattle.nr_reply_laws.specs.Replies.{AreIds}
use Rattle.nr_pair_laws.specs.FilesAt.{KeepPath, content_along, content_at}
use Rattle.nr_pair_laws.specs.Pairs.{AreAnsweredFrom}
use Rattle.nr_pair_laws.specs.PutThenGet.{root_handle}
use Rattle.nr_text_laws.specs.CommandTexts.{ArePlaces, IsUnanswered, file_of, on_value}

-- READDIR of a directory after a cookie, as a command makes it
abbrev pub readdir_of : (dir : List ℕ) → (cookie : ℕ) → ReaddirArgs
readdir_of dir cookie = record { dir = dir; cookie = cookie; verifier = cookie_verifier; count = listing_max }

abbrev pub names_in : List Listed → List (List ℕ)
names_in entries = map (λ (e : Listed). e.name) entries

-- By the results of a READDIR: the refusal; more names than a list may have; the names, at the end of the directory; or what follows from the names so far
-- and the cookie of the last.
abbrev pub listed_by : StatusUnion ReaddirOk (Option Attributes) Status → (before : List (List ℕ)) → (cookie : ℕ) → (next : List (List ℕ) → ℕ → Option (Result (List (List ℕ)) ClientEnd))
    → Option (Result (List (List ℕ)) ClientEnd)
listed_by (Failed status part) before cookie next = Some (Err (client.Nfs status))
listed_by (Done l) before cookie next =
    if ltb entries_max (length (before ++ names_in l.entries)) then Some (Err (client.Budget entries_max))
    else (if l.eof then Some (Ok (before ++ names_in l.entries))
    else next (before ++ names_in l.entries) (last_cookie cookie l.entries))

-- These names and those that READDIRs list after a cookie, each READDIR in the next of these trees. None if the directory goes on after this number of
-- READDIRs.
abbrev pub listed_in : (calls : ℕ) → (trees : ℕ → Tree) → Caller → (dir : List ℕ) → (before : List (List ℕ)) → (cookie : ℕ) → Option (Result (List (List ℕ)) ClientEnd)
listed_in zero trees c dir before cookie = None
listed_in (suc calls) trees c dir before cookie =
    listed_by (readdir_reply (trees 0) c (readdir_of dir cookie)) before cookie (λ names next. listed_in calls (λ i. trees (suc i)) c dir names next)

-- the names as a text
abbrev pub text_of_names : Result (List (List ℕ)) ClientEnd → Result (List ℕ) ClientEnd
text_of_names listed = on_value listed (λ names. Ok (names_text names))

-- of a directory that is found, or why there is none
abbrev pub text_of_listing : Result (List ℕ) ClientEnd → (List ℕ → Option (Result (List (List ℕ)) ClientEnd)) → Option (Result (List ℕ) ClientEnd)
text_of_listing (Ok dir) lists = option_map text_of_names (lists dir)
text_of_listing (Err end) lists = Some (Err end)

-- `ls` has the result that these functions give of the trees at the places of its LOOKUPs and, after them, of its READDIRs.
pub record ListsTrees (s : Setup) (J : List Entry) (from : ℕ) (c : Caller) (export path : List ℕ) (result : Result (List ℕ) ClientEnd) : Type 0 where
  pub places : ℕ → ℕ
  pub found_at : ℕ
  pub are : ArePlaces J from places found_at
  pub readdirs : ℕ → ℕ
  pub last : ℕ
  pub they : ArePlaces J found_at readdirs last
  pub calls : ℕ
  pub is : text_of_listing (file_of s.parameters.export export path c (λ i. tree_at s J (places i))) (λ dir. listed_in calls (λ i. tree_at s J (readdirs i)) c dir [] 0) ≡ Some result

-- the cookies and the numbers of the entries of each directory, at each place of a journal, fit in eight bytes
abbrev pub EntriesFit : Setup → List Entry → Type 0
EntriesFit s J =
    (k : ℕ) (h : List ℕ) (entries : Entries) → content_at (tree_at s J k) h ≡ Some (Directory entries) → Each (λ (e : DirectoryEntry). (e.cookie < 2 ^ 64) × (e.number < 2 ^ 64)) entries.list

-- What `ls` prints, or the refusal with its status, if each call has an answer, at a place of the journal as `pairs_are_served` gives it.
abbrev pub ListsAreOfTheTrees : Type 0
ListsAreOfTheTrees =
    (s : Setup) (J : List Entry) (uid gid : ℕ) (export path : List ℕ) (before after : SessionAt) (result : Result (List ℕ) ClientEnd) (lists : Lists uid gid export path before after result) (from : ℕ) →
    IsSane s.tree → EntriesFit s J → AreIds uid gid → AreAnsweredFrom s J from [] (tells_list uid gid export path before after result lists).made →
    IsUnanswered result ⊎ ListsTrees s J from (caller_of (creds.Sys 0 machine uid gid [])) export path result

-- So it prints the name of each entry of the directory, in order, if no entry of the journal between its calls changes what its path leads to.
abbrev pub ListsAreOfTheDirectory : Type 0
ListsAreOfTheDirectory =
    (s : Setup) (J : List Entry) (from : ℕ) (c : Caller) (export path text : List ℕ) (names : List (List ℕ)) (lists : ListsTrees s J from c export path (Ok text)) → IsSane s.tree →
    path_names path ≡ Ok names → KeepPath s J root_handle names from lists.last →
    (entries : Entries) × ((content_along (tree_at s J lists.last) root_handle names ≡ Some (Directory entries)) × (text ≡ names_text (map (λ (e : DirectoryEntry). e.name) entries.list)))
