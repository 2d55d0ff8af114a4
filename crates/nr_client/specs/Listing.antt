-- The request that lists a directory: READDIR up to the end of the directory (RFC 1813 section 3.3.16).
use Rattle.std.specs.Prelude.{ℕ, ◌-◌, ltb, if◌then◌else◌, Bool, true, false, not, ◌&&◌, List, [], ◌∷◌, ◌++◌, length, map, Result, Ok, Err}
use Rattle.nr_xdr.specs.Items.{encodings}
use Rattle.nr_nfs_args.specs.Readdir.{readdir_args_codec}
use Rattle.nr_nfs_base.specs.Attributes.{attributes_codec}
use Rattle.nr_nfs_base.specs.Codec.{optional}
use Rattle.nr_nfs_base.specs.Limits.{listing_max}
use Rattle.nr_nfs_base.specs.Procedures.{nfs_procedure_number, nfs_program, nfs_version}
use Rattle.nr_nfs_base.specs.declared.procedure.NfsProcedure.TheVariants as nfs
use Rattle.nr_nfs_base.specs.declared.verifier.Verifier.{Verifier}
use Rattle.nr_nfs_res.specs.Readdir.{ReaddirOk, readdir_ok_codec}
use Rattle.nr_nfs_res.specs.declared.readdir.Entry.{Entry}
use Rattle.nr_reduce.specs.declared.call.Call.{Call}
use Rattle.nr_reduce.specs.declared.call.Outcome.{Outcome}
use Rattle.nr_reduce.specs.declared.call.Outcome.TheVariants as outcomes
use Rattle.nr_client.specs.declared.client_end.ClientEnd.{ClientEnd}
use Rattle.nr_client.specs.declared.client_end.ClientEnd.TheVariants as client
use Rattle.nr_client.specs.declared.listing.Listed.{Listed}
use Rattle.nr_client.specs.Following.{Next, go_on}
use Rattle.nr_client.specs.Following.Next.{Calls, Returns}
use Rattle.nr_client.specs.Requests.{client_call, nfs_reads}

-- the maximum number of entries of a list
abbrev pub entries_max : ℕ
entries_max = 1048576

-- the reason of a reply that has neither results to go on with nor an end
abbrev pub no_progress : ℕ
no_progress = 25

-- READDIR of a directory after a cookie
abbrev pub readdir_call : (uid gid : ℕ) → List ℕ → ℕ → Verifier → Call
readdir_call uid gid dir cookie verifier =
    client_call nfs_program nfs_version (nfs_procedure_number nfs.Readdir) uid gid
    (encodings (readdir_args_codec.items (record { dir = dir; cookie = cookie; verifier = verifier; count = listing_max })))

abbrev pub readdir_result : Outcome → Result ReaddirOk ClientEnd
readdir_result = nfs_reads readdir_ok_codec (optional attributes_codec)

-- the offset of the eof word of a reply: it is the last
abbrev pub eof_offset : Outcome → ℕ
eof_offset (outcomes.Reply payload) = length payload - 4
eof_offset outcome = 0

-- the cookie of the last of some entries; that before them if there is none
abbrev pub last_cookie : ℕ → List Entry → ℕ
last_cookie cookie [] = cookie
last_cookie cookie (entry ∷ entries) = last_cookie entry.cookie entries

abbrev pub is_empty : List Entry → Bool
is_empty [] = true
is_empty (entry ∷ entries) = false

-- no entry, and not the end of the directory
abbrev pub is_stuck : ReaddirOk → Bool
is_stuck listing = is_empty listing.entries && not listing.eof

-- what is listed with these results, whose eof word has this offset
abbrev pub listed_with : Listed → ReaddirOk → ℕ → Result Listed ClientEnd
listed_with listed listing at =
    if ltb entries_max (length (listed.names ++ map (λ (entry : Entry). entry.name) listing.entries)) then Err (client.Budget entries_max)
    else (if is_stuck listing then Err (client.BadReply at no_progress)
    else Ok (record {
      names = listed.names ++ map (λ (entry : Entry). entry.name) listing.entries;
      cookie = last_cookie listed.cookie listing.entries;
      verifier = listing.verifier;
      eof = listing.eof;
    }))

abbrev pub listed_or : Listed → ℕ → Result ReaddirOk ClientEnd → Result Listed ClientEnd
listed_or listed at (Ok listing) = listed_with listed listing at
listed_or listed at (Err end) = Err end

-- what is listed after one more call, by its outcome
abbrev pub listed_after : Listed → Outcome → Result Listed ClientEnd
listed_after listed outcome = listed_or listed (eof_offset outcome) (readdir_result outcome)

-- what is listed before the first call
abbrev pub none_listed : Listed
none_listed = record { names = []; cookie = 0; verifier = record { number = 0 }; eof = false }

-- the names, or the next call
abbrev pub list_from : (uid gid : ℕ) → List ℕ → Listed → List Outcome → Next (List (List ℕ))
list_from uid gid dir listed [] = if listed.eof then Returns (Ok listed.names) else Calls (readdir_call uid gid dir listed.cookie listed.verifier)
list_from uid gid dir listed (outcome ∷ later) = go_on (listed_after listed outcome) (λ more. list_from uid gid dir more later)

abbrev pub list_next : (uid gid : ℕ) → List ℕ → List Outcome → Next (List (List ℕ))
list_next uid gid dir = list_from uid gid dir none_listed
