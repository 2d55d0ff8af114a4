-- What a client makes of the plain server's reply to a READDIR, at its place.
use Rattle.std.proofs.Common.{◌≡◌, ℕ, ◌<◌, ◌≤◌, ◌^◌, Bool, true, false, cond, ltb, List, [], ◌∷◌, ◌++◌, length, map, take, Option, None, Some, Result, Ok, Err, refl, sym, ap, subst, ◌∙◌, arith}
use Rattle.std.specs.Prelude.{◌==◌}
use Rattle.std.specs.List.{AllByRecursion}
use Rattle.std.specs.Option.{option_map, option_map_or}
use Rattle.nr_xdr.specs.Items.{AllFit, encodings}
use Rattle.nr_rpc.specs.declared.cred.Cred.TheVariants as creds
use Rattle.nr_nfs_base.specs.Attributes.{attributes_codec}
use Rattle.nr_nfs_base.specs.Codec.{◌⊗◌, boolean, hyper, linked_list, linked_list_fits, linked_list_items, opaque, optional, read_all, word}
use Rattle.nr_nfs_base.specs.Laws.{linked_list_lawful}
use Rattle.nr_nfs_base.specs.Limits.{handle_max, name_length_max}
use Rattle.nr_nfs_base.specs.Verifier.{verifier_codec}
use Rattle.nr_nfs_base.specs.declared.attributes.Attributes.{Attributes}
use Rattle.nr_nfs_base.specs.declared.caller.Caller.{Caller}
use Rattle.nr_nfs_base.specs.declared.procedure.NfsProcedure.TheVariants as nfs
use Rattle.nr_nfs_base.specs.declared.status.Status.{Status}
use Rattle.nr_nfs_base.specs.declared.status_union.StatusUnion.{StatusUnion}
use Rattle.nr_nfs_base.specs.declared.status_union.StatusUnion.TheVariants.{Done, Failed}
use Rattle.nr_nfs_base.specs.declared.verifier.Verifier.{Verifier}
use Rattle.nr_nfs_args.specs.Readdir.{readdir_args_codec, readdir_args_lawful}
use Rattle.nr_nfs_args.specs.declared.readdir.ReaddirArgs.{ReaddirArgs}
use Rattle.nr_nfs_res.specs.Readdir.{ReaddirOk, entry_codec, entry_lawful, listing_codec, readdir_ok_codec}
use Rattle.nr_nfs_res.specs.declared.readdir.Entry.{Entry as Listed}
use Rattle.nr_reduce.specs.ClientState.{call_payload}
use Rattle.nr_reduce.specs.declared.call.Outcome.{Outcome}
use Rattle.nr_reduce.specs.declared.call.Outcome.TheVariants as outcomes
use Rattle.nr_reduce.specs.declared.mark.Entry.{Entry}
use Rattle.nr_tree.specs.Entries.{Each, Entries, NamesAreValid}
use Rattle.nr_tree.specs.Entries.{Entry as DirectoryEntry}
use Rattle.nr_tree.specs.Listing.{entries_after}
use Rattle.nr_tree.specs.Replies.{attributes_at}
use Rattle.nr_tree.specs.Rules.{first, node_of_handle}
use Rattle.nr_tree.specs.Sane.{IsSane, IsValidContent}
use Rattle.nr_tree.specs.Tree.{Tree, entries_in, entries_of}
use Rattle.nr_tree.specs.declared.node.Content.{Content}
use Rattle.nr_tree.specs.declared.node.Content.TheVariants.{Block, Character, Directory, Fifo, Link, Regular, Socket}
use Rattle.nr_tree.specs.declared.node.Node.{Node}
use Rattle.nr_tree.proofs.PassedRules.{got}
use Rattle.nr_ops_list.specs.Readdir.{cookie_verifier, entries_behind, listed, readdir_fits, readdir_left, readdir_ok, readdir_reply, readdir_rules, readdir_taken}
use Rattle.nr_ops_list.proofs.ListingLimits.{is_longest}
use Rattle.nr_plain.specs.Journal.{tree_at}
use Rattle.nr_plain.specs.Added.{entries_of_call}
use Rattle.nr_plain.specs.Replies.{Answer, nfs_answer}
use Rattle.nr_plain.specs.Setup.{Setup, caller_of}
use Rattle.nr_plain.proofs.SaneTrees.{tree_sane}
use Rattle.nr_client.specs.declared.client_end.ClientEnd.{ClientEnd}
use Rattle.nr_client.specs.declared.client_end.ClientEnd.TheVariants as client
use Rattle.nr_client.specs.Listing.{entries_max, last_cookie, listed_after, listed_or, none_listed, readdir_call, readdir_result}
use Rattle.nr_client.specs.Requests.{machine}
use Rattle.nr_reply_laws.specs.Replies.{AreIds, HasResults, ListsOn}
use Rattle.nr_reply_laws.proofs.Decoding.{IsRead, boolean_is, lawful_read, pair_is, structure_is, weaker}
use Rattle.nr_reply_laws.proofs.Replies.{readdir_lem}
use Rattle.nr_reply_laws.proofs.Values.{some_attributes}
use Rattle.nr_pair_laws.specs.FilesAt.{content_at}
use Rattle.nr_pair_laws.specs.Pairs.{IsAnsweredAt, place_after}
use Rattle.nr_pair_laws.proofs.AtPlace.{answered_at, entry_by, results_at}
use Rattle.nr_pair_laws.proofs.ReadBack.{written_read}
use Rattle.nr_pair_laws.proofs.Results.{answer_done}
use Rattle.nr_text_laws.specs.CommandTexts.{result_by}
use Rattle.nr_text_laws.specs.Listings.{EntriesFit, names_in, readdir_of}
use Rattle.nr_text_laws.proofs.Encoded.{hyper_is}
use Rattle.nr_text_laws.proofs.MadeOf.{made, nfs_made, reads_as}

readdir_args_read : (dir : List ℕ) (cookie : ℕ) → length dir ≤ handle_max → cookie < 2 ^ 64 → read_all readdir_args_codec (encodings (readdir_args_codec.items (readdir_of dir cookie))) ≡ Ok (readdir_of dir cookie)
unfolding readdir_args_codec verifier_codec opaque hyper word
readdir_args_read dir cookie short fits =
    written_read readdir_args_codec (readdir_of dir cookie) readdir_args_lawful ((short, (tt, tt)), tt) (omega (arith, short), (fits, (omega arith, (omega arith, tt))))

-- ---- Entries that are read

-- an entry fits its fields
abbrev FitsFields : Listed → Type 0
FitsFields e = (e.fileid < 2 ^ 64) × ((length e.name ≤ name_length_max) × (e.cookie < 2 ^ 64))

entries_fit : (es : List Listed) → AllByRecursion FitsFields es → linked_list_fits entry_codec es
unfolding entry_codec optional boolean opaque hyper word
entries_fit [] all = (tt, tt)
entries_fit (e ∷ es) (fits, all) = ((tt, (tt, (omega (arith, fits.1.0), tt))), entries_fit es all)

items_fit : (es : List Listed) → AllByRecursion FitsFields es → AllFit (linked_list_items entry_codec es)
unfolding entry_codec optional boolean opaque hyper word
items_fit [] all = (tt, tt)
items_fit (e ∷ es) (fits, all) = (tt, (fits.0, (omega (arith, fits.1.0), (fits.1.1, items_fit es all))))

entries_read : (es : List Listed) → AllByRecursion FitsFields es → IsRead (linked_list entry_codec) ((linked_list entry_codec).items es) (λ ws. ws ≡ es)
unfolding linked_list
entries_read es all = lawful_read (linked_list entry_codec) es (linked_list_lawful entry_codec entry_lawful) (entries_fit es all) (items_fit es all)

verifier_read : (v : Verifier) → v.number < 2 ^ 64 → IsRead verifier_codec (verifier_codec.items v) (λ w. w ≡ v)
unfolding verifier_codec
verifier_read v fits = structure_is _ _ _ _ _ _ (λ n is. ap (λ (x : ℕ). record { number = x }) is) (hyper_is v.number fits)

-- what is looked at of the results of a READDIR
abbrev Seen : Type 0
Seen = List Listed × (Bool × Verifier)

abbrev seen : ReaddirOk → Seen
seen l = (l.entries, (l.eof, l.verifier))

same_seen : (v w : ReaddirOk) → (w.verifier ≡ v.verifier) × ((w.entries ≡ v.entries) × (w.eof ≡ v.eof)) → seen w ≡ seen v
same_seen v w (verifier, (entries, eof)) =
    ap (λ (es : List Listed). (es, (w.eof, w.verifier))) entries ∙ ap (λ (b : Bool). (v.entries, (b, w.verifier))) eof ∙ ap (λ (x : Verifier). (v.entries, (v.eof, x))) verifier

listing_read : (v : ReaddirOk) → AllByRecursion FitsFields v.entries → v.verifier.number < 2 ^ 64 → IsRead readdir_ok_codec (readdir_ok_codec.items v) (λ w. (w.verifier ≡ v.verifier) × ((w.entries ≡ v.entries) × (w.eof ≡ v.eof)))
unfolding listing_codec
listing_read v all fits =
    structure_is _ _ _ _ _ _ (λ w is. (is.1.0, (is.1.1.0, is.1.1.1)))
    (pair_is (optional attributes_codec) (verifier_codec ⊗ linked_list entry_codec ⊗ boolean) _ _ _ _ (some_attributes v.dir_attributes)
    (pair_is verifier_codec (linked_list entry_codec ⊗ boolean) _ _ _ _ (verifier_read v.verifier fits)
    (pair_is (linked_list entry_codec) boolean _ _ _ _ (entries_read v.entries all) (boolean_is v.eof))))

-- ---- Entries of a directory

-- an entry fits its fields
abbrev Fits : DirectoryEntry → Type 0
Fits e = (e.cookie < 2 ^ 64) × (e.number < 2 ^ 64)

abbrev AreShort : List DirectoryEntry → Type 0
AreShort es = AllByRecursion (λ (e : DirectoryEntry). length e.name ≤ name_length_max) es

names_short : (es : List DirectoryEntry) → NamesAreValid es → AreShort es
names_short [] valid = tt
names_short (e ∷ es) valid = (valid.1, names_short es valid.3)

abbrev AllListed : List DirectoryEntry → Type 0
AllListed es = AllByRecursion FitsFields (map listed es)

all_listed : (es : List DirectoryEntry) → Each Fits es → AreShort es → AllListed es
all_listed [] fits short = tt
all_listed (e ∷ es) fits short = ((fits.0.1, (short.0, fits.0.0)), all_listed es fits.1 short.1)

after_listed : (cookie : ℕ) (es : List DirectoryEntry) → AllListed es → AllListed (entries_after cookie es)
after_listed cookie [] all = tt
after_listed cookie (e ∷ es) all = by (ltb cookie e.cookie) (after_listed cookie es all.1)
  where
    by : (b : Bool) → AllListed (entries_after cookie es) → AllListed (cond b (e ∷ entries_after cookie es) (entries_after cookie es))
    by true rest = (all.0, rest)
    by false rest = rest

front_listed : (xs ys : List DirectoryEntry) → AllListed (xs ++ ys) → AllListed xs
front_listed [] ys all = tt
front_listed (x ∷ xs) ys all = (all.0, front_listed xs ys all.1)

content_listed : (c : Content) → IsValidContent c → ((entries : Entries) → c ≡ Directory entries → Each Fits entries.list) → AllListed (entries_of c)
content_listed (Regular bytes) valid fits = tt
content_listed (Directory entries) valid fits = all_listed entries.list (fits entries refl) (names_short entries.list valid.1)
content_listed (Block device) valid fits = tt
content_listed (Character device) valid fits = tt
content_listed (Link path) valid fits = tt
content_listed Socket valid fits = tt
content_listed Fifo valid fits = tt

behind_listed : (t : Tree) (dir : List ℕ) (cookie : ℕ) → IsSane t → ((entries : Entries) → content_at t dir ≡ Some (Directory entries) → Each Fits entries.list) → AllListed (entries_behind t dir cookie)
behind_listed t dir cookie sane fits = by (node_of_handle t dir) refl
  where
    by : (o : Option Node) → node_of_handle t dir ≡ o → AllListed (option_map_or (λ (v : Node). entries_after cookie (entries_in v)) o [])
    by None is = tt
    by (Some v) is =
        after_listed cookie (entries_in v)
        (content_listed v.content (sane.contents _ v (got t dir v is)) (λ entries same. fits entries (ap (λ (o : Option Node). option_map (λ (x : Node). x.content) o) is ∙ ap (λ (c : Content). Some c) same)))

-- what a READDIR lists that is done
pub done_listing : (t : Tree) (c : Caller) (a : ReaddirArgs) (d : ReaddirOk) → readdir_reply t c a ≡ Done d
    → (first (readdir_rules t c a) ≡ None) × (readdir_ok t a.dir (readdir_taken t a) (length (readdir_taken t a) == length (readdir_left t a)) ≡ d)
done_listing t c a d is =
    answer_done (first (readdir_rules t c a)) (λ s. attributes_at t a.dir) (readdir_ok t a.dir (readdir_taken t a) (length (readdir_taken t a) == length (readdir_left t a))) d is

taken_listed : (t : Tree) (a : ReaddirArgs) → AllListed (readdir_left t a) → AllListed (readdir_taken t a)
taken_listed t a all = let l = is_longest (readdir_fits t a) (readdir_left t a) in front_listed (readdir_taken t a) l.rest (subst AllListed l.first all)

last_fits : (cookie : ℕ) (es : List Listed) → cookie < 2 ^ 64 → AllByRecursion FitsFields es → last_cookie cookie es < 2 ^ 64
last_fits cookie [] fits all = fits
last_fits cookie (e ∷ es) fits all = last_fits e.cookie es all.0.1.1 all.1

-- ---- The next step of a listing

-- the type of what is listed so far
abbrev pub type_of_value : {A : Type 0} → A → Type 0
type_of_value {A} value = A

abbrev pub Names : Type 0
Names = type_of_value none_listed

-- what is listed so far, at a cookie; the directory goes on
abbrev pub open_at : List (List ℕ) → ℕ → Names
open_at names cookie = record { names = names; cookie = cookie; verifier = cookie_verifier; eof = false }

-- what is listed after a READDIR with these results
abbrev pub after_results : List (List ℕ) → ℕ → StatusUnion ReaddirOk (Option Attributes) Status → Result Names ClientEnd
after_results names cookie (Failed status part) = Err (client.Nfs status)
after_results names cookie (Done d) =
    cond (ltb entries_max (length (names ++ names_in d.entries))) (Err (client.Budget entries_max))
    (Ok (record { names = names ++ names_in d.entries; cookie = last_cookie cookie d.entries; verifier = cookie_verifier; eof = d.eof }))

step_of : (names : List (List ℕ)) (cookie at : ℕ) (r : Result ReaddirOk ClientEnd) (results : StatusUnion ReaddirOk (Option Attributes) Status) → ((d : ReaddirOk) → results ≡ Done d → d.verifier ≡ cookie_verifier)
    → made seen r ≡ result_by seen results → HasResults ListsOn r → listed_or (open_at names cookie) at r ≡ after_results names cookie results
step_of names cookie at (Ok w) (Done d) first same goes =
    let both : seen w ≡ seen d = cc in
    ap (λ (b : Bool). cond (ltb entries_max (length (names ++ names_in w.entries))) (Err (client.Budget entries_max))
    (cond b (Err (client.BadReply at 25)) (Ok (record { names = names ++ names_in w.entries; cookie = last_cookie cookie w.entries; verifier = w.verifier; eof = w.eof })))) goes
    ∙ ap (λ (x : Seen). cond (ltb entries_max (length (names ++ names_in x.0))) (Err (client.Budget entries_max))
    (Ok (record { names = names ++ names_in x.0; cookie = last_cookie cookie x.0; verifier = x.1.1; eof = x.1.0 }))) both
    ∙ ap (λ (v : Verifier). cond (ltb entries_max (length (names ++ names_in d.entries))) (Err (client.Budget entries_max))
    (Ok (record { names = names ++ names_in d.entries; cookie = last_cookie cookie d.entries; verifier = v; eof = d.eof }))) (first d refl)
step_of names cookie at (Ok w) (Failed status part) first same goes = absurd (let wrong : ◌≡◌ {A = Result Seen ClientEnd} (Ok (seen w)) (Err (client.Nfs status)) = same in cc)
step_of names cookie at (Err end) (Done d) first same goes = absurd (let wrong : ◌≡◌ {A = Result Seen ClientEnd} (Err end) (Ok (seen d)) = same in cc)
step_of names cookie at (Err end) (Failed status part) first same goes =
    let ends : end ≡ client.Nfs status = (let both : ◌≡◌ {A = Result Seen ClientEnd} (Err end) (Err (client.Nfs status)) = same in cc) in ap (λ (e : ClientEnd). Err e) ends

-- what holds of the READDIR of a listing that is answered at a place
pub record IsListedAt (s : Setup) (J : List Entry) (c : Caller) (names : List (List ℕ)) (cookie : ℕ) (dir : List ℕ) (o : Outcome) (place : ℕ) : Type 0 where
  pub is : listed_after (open_at names cookie) o ≡ after_results names cookie (readdir_reply (tree_at s J place) c (readdir_of dir cookie))
  pub fits : (d : ReaddirOk) → readdir_reply (tree_at s J place) c (readdir_of dir cookie) ≡ Done d → last_cookie cookie d.entries < 2 ^ 64

module _ (s : Setup) (J : List Entry) (uid gid : ℕ) (ids : AreIds uid gid) (sane : IsSane s.tree) (fit : EntriesFit s J) where
  pub listed_there : (names : List (List ℕ)) (cookie : ℕ) (dir : List ℕ) (o : Outcome) (place : ℕ) → length dir ≤ handle_max → cookie < 2 ^ 64 → (a : IsAnsweredAt s J (readdir_call uid gid dir cookie cookie_verifier) o place)
      → IsListedAt s J (caller_of (creds.Sys 0 machine uid gid [])) names cookie dir o place × (place_after s J (readdir_call uid gid dir cookie cookie_verifier) o place a ≡ place)
  listed_there names cookie dir o place short fits a = (record { is = step_of names cookie _ (readdir_result o) results verifiers read goes; fits = last }, (let none = ap (λ (x : Answer). length x.entries) both in omega (arith, none)))
    where
      t : Tree
      t = tree_at s J place

      v : ReaddirArgs
      v = readdir_of dir cookie

      results : StatusUnion ReaddirOk (Option Attributes) Status
      results = readdir_reply (tree_at s J place) (caller_of (creds.Sys 0 machine uid gid [])) (readdir_of dir cookie)

      both : record { reply = a.reply; entries = entries_of_call a.moment (call_payload a.xid (readdir_call uid gid dir cookie cookie_verifier)) a.reply }
          ≡ nfs_answer a.xid (entry_by uid gid a.moment nfs.Readdir (encodings (readdir_args_codec.items (readdir_of dir cookie)))) nfs.Readdir
          (results_at s uid gid nfs.Readdir (encodings (readdir_args_codec.items (readdir_of dir cookie))) (readdir_of dir cookie) J place a.moment)
      both = answered_at s uid gid a.xid ids a.fits nfs.Readdir (encodings (readdir_args_codec.items (readdir_of dir cookie))) (readdir_of dir cookie) J place a.moment a.reply (readdir_args_read dir cookie short fits) a.at.replied

      all : AllListed (readdir_taken t v)
      all = taken_listed t v (behind_listed t dir cookie (tree_sane s J place sane) (λ entries is. fit place dir entries is))

      verifiers : (d : ReaddirOk) → results ≡ Done d → d.verifier ≡ cookie_verifier
      verifiers d is = sym (ap (λ (x : ReaddirOk). x.verifier) (done_listing t (caller_of (creds.Sys 0 machine uid gid [])) v d is).1)

      entries_are : (d : ReaddirOk) → results ≡ Done d → map listed (readdir_taken t v) ≡ d.entries
      entries_are d is = ap (λ (x : ReaddirOk). x.entries) (done_listing t (caller_of (creds.Sys 0 machine uid gid [])) v d is).1

      last : (d : ReaddirOk) → results ≡ Done d → last_cookie cookie d.entries < 2 ^ 64
      last d is = last_fits cookie d.entries fits (subst (λ (es : List Listed). AllByRecursion FitsFields es) (entries_are d is) all)

      goes : HasResults ListsOn (readdir_result o)
      goes = readdir_lem s uid gid dir cookie cookie_verifier o sane ids
          (record { xid = a.xid; fits = a.fits; journal = take place J; place = length (take place J); moment = a.moment; reply = a.reply; is = a.is; replied = a.at.replied })

      read : made seen (readdir_result o) ≡ result_by seen results
      read =
          ap (λ (x : Outcome). made seen (readdir_result x)) (a.is ∙ ap (λ (l : List ℕ). outcomes.Reply l) (ap (λ (x : Answer). x.reply) both))
          ∙ nfs_made a.xid a.fits readdir_ok_codec (optional attributes_codec) seen results some_attributes
          (reads_as readdir_ok_codec seen results (λ d is. weaker readdir_ok_codec _ _ (λ w. seen w ≡ seen d) (λ w same. same_seen d w same)
          (listing_read d (subst (λ (es : List Listed). AllByRecursion FitsFields es) (entries_are d is) all) (let zero = ap (λ (x : Verifier). x.number) (verifiers d is) in omega (arith, zero)))))
