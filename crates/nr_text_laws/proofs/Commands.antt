-- What each command prints, by its calls and the places at which they are answered.
use Rattle.std.proofs.Common.{◌≡◌, ℕ, suc, ◌≤◌, Bool, true, false, cond, List, [], ◌++◌, length, Result, Ok, Err, inl, inr, refl, sym, ap, subst, ◌∙◌, arith}
use Rattle.std.specs.Prelude.{◌⊎◌, MatchBool, nat_lt}
use Rattle.std.proofs.lemmas.Bool.{ltb-false}
use Rattle.nr_outside.specs.Streams.{SinkAt, SourceAt}
use Rattle.nr_outside.specs.declared.moment.Moment.{Moment}
use Rattle.nr_rpc.specs.declared.cred.Cred.TheVariants as creds
use Rattle.nr_nfs_base.specs.Limits.{handle_max, link_target_max, name_length_max}
use Rattle.nr_nfs_base.specs.declared.procedure.NfsProcedure.TheVariants as nfs
use Rattle.nr_nfs_res.specs.declared.create.CreateOk.{CreateOk}
use Rattle.nr_nfs_res.specs.declared.lookup.ReadlinkOk.{ReadlinkOk}
use Rattle.nr_reduce.specs.declared.call.Call.{Call}
use Rattle.nr_reduce.specs.declared.call.Outcome.{Outcome}
use Rattle.nr_reduce.specs.declared.mark.Entry.{Entry}
use Rattle.nr_tree.specs.Sane.{IsSane}
use Rattle.nr_tree.specs.Tree.{Tree}
use Rattle.nr_plain.specs.Journal.{tree_at}
use Rattle.nr_plain.specs.Setup.{Setup, caller_of}
use Rattle.nr_words.specs.Lines.{Text}
use Rattle.nr_words.specs.declared.commands.Action.{Action}
use Rattle.nr_words.specs.declared.commands.Action.TheVariants as actions
use Rattle.nr_client.specs.declared.client_end.ClientEnd.{ClientEnd}
use Rattle.nr_client.specs.declared.client_end.ClientEnd.TheVariants as client
use Rattle.nr_client.specs.Requests.{create_result, getattr_call, getattr_result, machine, mkdir_call, readlink_call, readlink_result, remove_call, remove_result, symlink_call}
use Rattle.nr_commands.specs.Commands.{Finds, FindsParent, Gets, MakesDirectory, MakesSymlink, MountsAndPrints, Puts, ReadsLink, Removes, Stats, Symlinks}
use Rattle.nr_commands.specs.Printed.{attributes_text, handle_text, path_text}
use Rattle.nr_commands.specs.Running.{text_of}
use Rattle.nr_commands.specs.Running.Runs.{NotOpened, Opened}
use Rattle.nr_commands.specs.Sessions.{Fails, Part, Request, SessionAt, Then}
use Rattle.nr_commands.specs.Sessions.{Text as Shows}
use Rattle.nr_service_laws.specs.Exchanges.{Exchange, Tells, tells_finds, tells_finds_parent, tells_get, tells_make_directory, tells_make_symlink, tells_mount, tells_mounts, tells_none, tells_put, tells_read_link, tells_reads_out, tells_remove, tells_request, tells_stat, tells_symlinks, tells_text, tells_then, tells_writes_in, within_exchanges}
use Rattle.nr_reply_laws.specs.Replies.{AreIds}
use Rattle.nr_pair_laws.specs.Pairs.{AreAnsweredFrom, IsAnsweredAt}
use Rattle.nr_pair_laws.specs.ReadResults.{results_there}
use Rattle.nr_text_laws.specs.CommandTexts.{AttributesFit, ChangesTree, FitsText, IsFound, IsOfTrees, IsUnanswered, TextIsOfTrees, TextsAreOfTheTrees, file_of, found_by_get, found_by_put, link_in, mkdir_of, on_value, parent_of, remove_of, root_of, silent, stat_in, symlink_of, tree_there, within_target}
use Rattle.nr_text_laws.proofs.Ending.{IsCalled, IsLast, IsWhole, at_most, called, composed, nothing_more, shown}
use Rattle.nr_text_laws.proofs.Finding.{IsShort, file_long, parent_is_short}
use Rattle.nr_text_laws.proofs.MadeOf.{made}
use Rattle.nr_text_laws.proofs.Parts.{IsAsked, IsMounted, IsPlaced, asked, mounted, same_end}
use Rattle.nr_text_laws.proofs.Replies.{link_there, mkdir_there, none_of, remove_there, stat_there, symlink_there}
use Rattle.nr_text_laws.proofs.Walks.{found, found_parent}

module _ (s : Setup) (J : List Entry) (uid gid : ℕ) (ids : AreIds uid gid) where
  -- ---- `mount`

  mount_text : (export : List ℕ) (t t' : SessionAt) (result : Result (List ℕ) ClientEnd) (is : MountsAndPrints uid gid export t t' result) (from : ℕ) → AreAnsweredFrom s J from [] (tells_mount uid gid export t t' result is).made
      → IsUnanswered result ⊎ (result ≡ on_value (root_of s.parameters.export export) (λ root. Ok (handle_text root)))
  mount_text export t t' result (inl (root, (mid, (mounts, (still, shows))))) from are = by (mounted s J uid gid ids export t mid (Ok root) mounts from [] are) (shown (handle_text root) result shows)
    where
      by : IsUnanswered {A = List ℕ} (Ok root) ⊎ IsMounted s J export from (Ok root) [] → IsUnanswered result ⊎ (result ≡ Ok (handle_text root))
          → IsUnanswered result ⊎ (result ≡ on_value (root_of s.parameters.export export) (λ root. Ok (handle_text root)))
      by (inl un) shows = absurd un
      by (inr m) (inl un) = inl un
      by (inr m) (inr is) = inr (is ∙ ap (λ (r : Result (List ℕ) ClientEnd). on_value r (λ root. Ok (handle_text root))) m.is)
  mount_text export t t' result (inr (end, (mounts, same))) from are = by (mounted s J uid gid ids export t t' (Err end) mounts from [] (nothing_more s J from (tells_mounts uid gid export t t' (Err end) mounts).made are))
    where
      by : IsUnanswered {A = List ℕ} (Err end) ⊎ IsMounted s J export from (Err end) [] → IsUnanswered result ⊎ (result ≡ on_value (root_of s.parameters.export export) (λ root. Ok (handle_text root)))
      by (inl un) = inl (same_end (List ℕ) end result same un)
      by (inr m) = inr (same ∙ ap (λ (r : Result (List ℕ) ClientEnd). on_value r (λ root. Ok (handle_text root))) m.is)

  -- ---- `stat` and `readlink`

  abbrev Nothing : List ℕ → Result (List ℕ) ClientEnd → (place : ℕ) → Moment → Type 0
  Nothing file result place m = Unit {0}

  -- a file that is found, and a call whose results are read so in each tree
  read_text : {B : Type 0} (export path : List ℕ) (reads : Outcome → Result B ClientEnd) (call : List ℕ → Call) (text : B → List ℕ) (answer : Tree → List ℕ → Result (List ℕ) ClientEnd)
      → ((file : List ℕ) (o : Outcome) (place : ℕ) → length file ≤ handle_max → IsAnsweredAt s J (call file) o place → made text (reads o) ≡ answer (tree_at s J place) file)
      → (t t' : SessionAt) (result : Result (List ℕ) ClientEnd) (is : Then (Finds uid gid export path) (λ file. Then (Request reads (call file)) (λ x. Shows (text x))) t t' result) (from : ℕ)
      → AreAnsweredFrom s J from [] (tells_then (Finds uid gid export path) (λ file. Then (Request reads (call file)) (λ x. Shows (text x))) (tells_finds uid gid export path)
      (λ file. tells_then (Request reads (call file)) (λ x. Shows (text x)) (tells_request reads (call file)) (λ x. tells_none (Shows (text x)))) t t' result is).made
      → IsUnanswered result ⊎ IsOfTrees s J from (file_of s.parameters.export export path (caller_of (creds.Sys 0 machine uid gid []))) (λ place m file. answer (tree_at s J place) file) result
  read_text {B} export path reads call text answer there t t' result is from are =
      by (composed s J (Finds uid gid export path) (tells_finds uid gid export path) (file_of s.parameters.export export path (caller_of (creds.Sys 0 machine uid gid [])))
      (λ file. Then (Request reads (call file)) (λ x. Shows (text x)))
      (λ file. tells_then (Request reads (call file)) (λ x. Shows (text x)) (tells_request reads (call file)) (λ x. tells_none (Shows (text x))))
      (λ place m file. answer (tree_at s J place) file) Nothing (λ file. length file ≡ 8)
      (λ trees file is. file_long s.parameters.export export path (caller_of (creds.Sys 0 machine uid gid [])) trees file is)
      (found s J uid gid ids export path)
      (λ file long u u' r asks least answered. last file long r least (called s J reads (call file) text u u' r asks least answered)) t t' result is from are)
    where
      last : (file : List ℕ) → length file ≡ 8 → (r : Result (List ℕ) ClientEnd) (least : ℕ) → IsUnanswered r ⊎ IsCalled s J reads (call file) text least r
          → IsUnanswered r ⊎ IsLast J (λ place m. answer (tree_at s J place) file) (Nothing file r) least r
      last file long r least (inl un) = inl un
      last file long r least (inr c) =
          inr (record {
            place = c.place;
            moment = c.answered.moment;
            low = c.low;
            within = c.answered.at.within;
            is = c.is ∙ there file c.outcome c.place (omega (arith, long)) c.answered;
            also = tt;
          })

      by : IsUnanswered result ⊎ IsWhole s J from (file_of s.parameters.export export path (caller_of (creds.Sys 0 machine uid gid []))) (λ place m file. answer (tree_at s J place) file) Nothing result
          → IsUnanswered result ⊎ IsOfTrees s J from (file_of s.parameters.export export path (caller_of (creds.Sys 0 machine uid gid []))) (λ place m file. answer (tree_at s J place) file) result
      by (inl un) = inl un
      by (inr w) = inr w.of_trees

  stat_text : AttributesFit s J → (export path : List ℕ) (t t' : SessionAt) (result : Result (List ℕ) ClientEnd) (is : Stats uid gid export path t t' result) (from : ℕ)
      → AreAnsweredFrom s J from [] (tells_stat uid gid export path t t' result is).made → IsUnanswered result ⊎ IsOfTrees s J from (file_of s.parameters.export export path (caller_of (creds.Sys 0 machine uid gid []))) (λ place m file. stat_in (tree_at s J place) file) result
  stat_text fit export path = read_text export path getattr_result (getattr_call uid gid) attributes_text stat_in (λ file o place short a. stat_there s J uid gid ids file o place short (fit place file) a)

  link_text : IsSane s.tree → (export path : List ℕ) (t t' : SessionAt) (result : Result (List ℕ) ClientEnd) (is : ReadsLink uid gid export path t t' result) (from : ℕ)
      → AreAnsweredFrom s J from [] (tells_read_link uid gid export path t t' result is).made → IsUnanswered result ⊎ IsOfTrees s J from (file_of s.parameters.export export path (caller_of (creds.Sys 0 machine uid gid []))) (λ place m file. link_in (tree_at s J place) file) result
  link_text sane export path =
      read_text export path readlink_result (readlink_call uid gid) (λ (link : ReadlinkOk). path_text link.path) link_in (λ file o place short a. link_there s J uid gid ids file o place sane short a)

  -- ---- `mkdir`, `rm` and `ln`

  abbrev At : Type 0
  At = List ℕ × List ℕ

  -- the tree after the place, if the command was done
  abbrev Made : ((place : ℕ) → Moment → At → Tree) → At → Result (List ℕ) ClientEnd → (place : ℕ) → Moment → Type 0
  Made tree at result place m = (text : List ℕ) → result ≡ Ok text → tree_at s J (suc place) ≡ tree place m at

  -- a directory that is found, and a part that changes it
  change_text : (export path : List ℕ) (next : At → Part (List ℕ)) (tells_next : (at : At) → Tells (next at)) (answer : (place : ℕ) → Moment → At → Result (List ℕ) ClientEnd) (tree : (place : ℕ) → Moment → At → Tree)
      → ((at : At) → IsShort at → (t t' : SessionAt) (r : Result (List ℕ) ClientEnd) (is : next at t t' r) (from : ℕ) → AreAnsweredFrom s J from [] (tells_next at t t' r is).made
      → IsUnanswered r ⊎ IsLast J (λ place m. answer place m at) (Made tree at r) from r)
      → (t t' : SessionAt) (result : Result (List ℕ) ClientEnd) (is : Then (FindsParent uid gid export path) next t t' result) (from : ℕ)
      → AreAnsweredFrom s J from [] (tells_then (FindsParent uid gid export path) next (tells_finds_parent uid gid export path) tells_next t t' result is).made
      → IsUnanswered result ⊎ ChangesTree s J from (parent_of s.parameters.export export path (caller_of (creds.Sys 0 machine uid gid []))) answer tree result
  change_text export path next tells_next answer tree last t t' result is from are =
      by (composed s J (FindsParent uid gid export path) (tells_finds_parent uid gid export path) (parent_of s.parameters.export export path (caller_of (creds.Sys 0 machine uid gid []))) next tells_next answer (Made tree) IsShort
      (λ trees at is. parent_is_short s.parameters.export export path (caller_of (creds.Sys 0 machine uid gid [])) trees at is)
      (found_parent s J uid gid ids export path) last t t' result is from are)
    where
      by : IsUnanswered result ⊎ IsWhole s J from (parent_of s.parameters.export export path (caller_of (creds.Sys 0 machine uid gid []))) answer (Made tree) result
          → IsUnanswered result ⊎ ChangesTree s J from (parent_of s.parameters.export export path (caller_of (creds.Sys 0 machine uid gid []))) answer tree result
      by (inl un) = inl un
      by (inr w) = inr (record { of_trees = w.of_trees; changed = λ value text is done. w.also value is text done })

  -- one call, of which nothing is printed
  change_last : {B : Type 0} (reads : Outcome → Result B ClientEnd) (call : At → Call) (answer : (place : ℕ) → Moment → At → Result (List ℕ) ClientEnd) (tree : (place : ℕ) → Moment → At → Tree)
      → ((at : At) (o : Outcome) (place : ℕ) → length at.0 ≤ handle_max → length at.1 ≤ name_length_max → (a : IsAnsweredAt s J (call at) o place)
      → (made none_of (reads o) ≡ answer place a.moment at) × ((text : List ℕ) → answer place a.moment at ≡ Ok text → tree_at s J (suc place) ≡ tree place a.moment at))
      → (at : At) → IsShort at → (t t' : SessionAt) (r : Result (List ℕ) ClientEnd) (is : Then (Request reads (call at)) (λ x. Shows []) t t' r) (from : ℕ)
      → AreAnsweredFrom s J from [] (tells_then (Request reads (call at)) (λ x. Shows []) (tells_request reads (call at)) (λ x. tells_none (Shows [])) t t' r is).made
      → IsUnanswered r ⊎ IsLast J (λ place m. answer place m at) (Made tree at r) from r
  change_last {B} reads call answer tree there at short t t' r is from are = by (called s J reads (call at) none_of t t' r is from are)
    where
      by : IsUnanswered r ⊎ IsCalled s J reads (call at) none_of from r → IsUnanswered r ⊎ IsLast J (λ place m. answer place m at) (Made tree at r) from r
      by (inl un) = inl un
      by (inr c) =
          let x = there at c.outcome c.place (let long = short.0 in omega (arith, long)) short.1 c.answered in
          inr (record {
            place = c.place;
            moment = c.answered.moment;
            low = c.low;
            within = c.answered.at.within;
            is = c.is ∙ x.0;
            also = λ text done. x.1 text (sym (c.is ∙ x.0) ∙ done);
          })

  mkdir_text : (export path : List ℕ) (t t' : SessionAt) (result : Result (List ℕ) ClientEnd) (is : MakesDirectory uid gid export path t t' result) (from : ℕ)
      → AreAnsweredFrom s J from [] (tells_make_directory uid gid export path t t' result is).made → IsUnanswered result
      ⊎ ChangesTree s J from (parent_of s.parameters.export export path (caller_of (creds.Sys 0 machine uid gid []))) (λ place m at. silent (results_there s J place m uid gid nfs.Mkdir (mkdir_of at))) (λ place m at. tree_there s J place m uid gid nfs.Mkdir (mkdir_of at)) result
  mkdir_text export path =
      change_text export path (λ at. Then (Request create_result (mkdir_call uid gid at.0 at.1)) (λ x. Shows []))
      (λ at. tells_then (Request create_result (mkdir_call uid gid at.0 at.1)) (λ x. Shows []) (tells_request create_result (mkdir_call uid gid at.0 at.1)) (λ x. tells_none (Shows [])))
      (λ place m at. silent (results_there s J place m uid gid nfs.Mkdir (mkdir_of at))) (λ place m at. tree_there s J place m uid gid nfs.Mkdir (mkdir_of at))
      (change_last create_result (λ at. mkdir_call uid gid at.0 at.1) (λ place m at. silent (results_there s J place m uid gid nfs.Mkdir (mkdir_of at)))
      (λ place m at. tree_there s J place m uid gid nfs.Mkdir (mkdir_of at)) (mkdir_there s J uid gid ids))

  remove_text : (export path : List ℕ) (t t' : SessionAt) (result : Result (List ℕ) ClientEnd) (is : Removes uid gid export path t t' result) (from : ℕ)
      → AreAnsweredFrom s J from [] (tells_remove uid gid export path t t' result is).made → IsUnanswered result
      ⊎ ChangesTree s J from (parent_of s.parameters.export export path (caller_of (creds.Sys 0 machine uid gid []))) (λ place m at. silent (results_there s J place m uid gid nfs.Remove (remove_of at))) (λ place m at. tree_there s J place m uid gid nfs.Remove (remove_of at)) result
  remove_text export path =
      change_text export path (λ at. Then (Request remove_result (remove_call uid gid at.0 at.1)) (λ x. Shows []))
      (λ at. tells_then (Request remove_result (remove_call uid gid at.0 at.1)) (λ x. Shows []) (tells_request remove_result (remove_call uid gid at.0 at.1)) (λ x. tells_none (Shows [])))
      (λ place m at. silent (results_there s J place m uid gid nfs.Remove (remove_of at))) (λ place m at. tree_there s J place m uid gid nfs.Remove (remove_of at))
      (change_last remove_result (λ at. remove_call uid gid at.0 at.1) (λ place m at. silent (results_there s J place m uid gid nfs.Remove (remove_of at)))
      (λ place m at. tree_there s J place m uid gid nfs.Remove (remove_of at)) (remove_there s J uid gid ids))

  -- SYMLINK, if the target is within its maximum
  abbrev LinkAnswer : (target : List ℕ) (place : ℕ) → Moment → At → Result (List ℕ) ClientEnd
  LinkAnswer target place m at = within_target target (silent (results_there s J place m uid gid nfs.Symlink (symlink_of target at)))

  abbrev LinkTree : (target : List ℕ) (place : ℕ) → Moment → At → Tree
  LinkTree target place m at = tree_there s J place m uid gid nfs.Symlink (symlink_of target at)

  linked : (above : Bool) (target : List ℕ) (at : At) → IsShort at → nat_lt link_target_max (length target) ≡ above → (t t' : SessionAt) (r : Result CreateOk ClientEnd)
      (is : MatchBool above (Fails (client.Budget link_target_max) t t' r) (Request create_result (symlink_call uid gid at.0 at.1 target) t t' r)) (from : ℕ)
      → AreAnsweredFrom s J from [] ((within_exchanges above (Fails (client.Budget link_target_max) t t' r) (Request create_result (symlink_call uid gid at.0 at.1 target) t t' r)
      (tells_request create_result (symlink_call uid gid at.0 at.1 target) t t' r) is).made ++ [])
      → IsUnanswered r ⊎ IsLast J (λ place m. LinkAnswer target place m at) (Made (LinkTree target) at (made none_of r)) from (made none_of r)
  linked true target at short long t t' r (still, is) from are =
      let ends : made none_of r ≡ Err (client.Budget link_target_max) = ap (λ (x : Result CreateOk ClientEnd). made none_of x) is in
      inr (record {
        place = from;
        moment = record { seconds = 0; nanos = 0 };
        low = omega arith;
        within = are;
        is = ends ∙ ap (λ (b : Bool). cond b (Err (client.Budget link_target_max)) (silent (results_there s J from (record { seconds = 0; nanos = 0 }) uid gid nfs.Symlink (symlink_of target at)))) (sym long);
        also = λ text done. absurd (let wrong : ◌≡◌ {A = Result (List ℕ) ClientEnd} (Err (client.Budget link_target_max)) (Ok text) = sym ends ∙ done in cc);
      })
  linked false target at short few t t' r is from are = by (asked s J create_result (symlink_call uid gid at.0 at.1 target) t t' r is from [] are)
    where
      by : IsUnanswered r ⊎ IsAsked s J create_result (symlink_call uid gid at.0 at.1 target) from r []
          → IsUnanswered r ⊎ IsLast J (λ place m. LinkAnswer target place m at) (Made (LinkTree target) at (made none_of r)) from (made none_of r)
      by (inl un) = inl un
      by (inr a) =
          let there = symlink_there s J uid gid ids target at a.outcome a.place (ltb-false link_target_max (length target) few) (let long = short.0 in omega (arith, long)) short.1 a.answered in
          let read : made none_of r ≡ silent (results_there s J a.place a.answered.moment uid gid nfs.Symlink (symlink_of target at)) = ap (λ (x : Result CreateOk ClientEnd). made none_of x) a.is ∙ there.0 in
          inr (record {
            place = a.place;
            moment = a.answered.moment;
            low = a.low;
            within = a.answered.at.within;
            is = read ∙ ap (λ (b : Bool). cond b (Err (client.Budget link_target_max)) (silent (results_there s J a.place a.answered.moment uid gid nfs.Symlink (symlink_of target at)))) (sym few);
            also = λ text done. there.1 text (sym read ∙ done);
          })

  -- what was made of one result, made of another that is the same
  as_made : (target : List ℕ) (at : At) (from : ℕ) (r q : Result (List ℕ) ClientEnd) → r ≡ q → IsLast J (λ place m. LinkAnswer target place m at) (Made (LinkTree target) at q) from q
      → IsLast J (λ place m. LinkAnswer target place m at) (Made (LinkTree target) at r) from r
  as_made target at from r q same l = subst (λ (x : Result (List ℕ) ClientEnd). IsLast J (λ place m. LinkAnswer target place m at) (Made (LinkTree target) at x) from x) (sym same) l

  symlink_last : (target : List ℕ) (at : At) → IsShort at → (t t' : SessionAt) (r : Result (List ℕ) ClientEnd) (is : Then (Symlinks uid gid at.0 at.1 target) (λ x. Shows []) t t' r) (from : ℕ)
      → AreAnsweredFrom s J from [] (tells_then (Symlinks uid gid at.0 at.1 target) (λ x. Shows []) (tells_symlinks uid gid at.0 at.1 target) (λ x. tells_none (Shows [])) t t' r is).made
      → IsUnanswered r ⊎ IsLast J (λ place m. LinkAnswer target place m at) (Made (LinkTree target) at r) from r
  symlink_last target at short t t' r (inl (x, (mid, (links, (still, shows))))) from are =
      by (linked (nat_lt link_target_max (length target)) target at short refl t mid (Ok x) links from are) (shown [] r shows)
    where
      by : IsUnanswered {A = CreateOk} (Ok x) ⊎ IsLast J (λ place m. LinkAnswer target place m at) (Made (LinkTree target) at (Ok [])) from (Ok []) → IsUnanswered r ⊎ (r ≡ Ok [])
          → IsUnanswered r ⊎ IsLast J (λ place m. LinkAnswer target place m at) (Made (LinkTree target) at r) from r
      by (inl un) shows = absurd un
      by (inr l) (inl un) = inl un
      by (inr l) (inr is) = inr (as_made target at from r (Ok []) is l)
  symlink_last target at short t t' r (inr (end, (links, same))) from are =
      by (linked (nat_lt link_target_max (length target)) target at short refl t t' (Err end) links from (nothing_more s J from (tells_symlinks uid gid at.0 at.1 target t t' (Err end) links).made are))
    where
      by : IsUnanswered {A = CreateOk} (Err end) ⊎ IsLast J (λ place m. LinkAnswer target place m at) (Made (LinkTree target) at (Err end)) from (Err end)
          → IsUnanswered r ⊎ IsLast J (λ place m. LinkAnswer target place m at) (Made (LinkTree target) at r) from r
      by (inl un) = inl (same_end CreateOk end r same un)
      by (inr l) = inr (as_made target at from r (Err end) same l)

  symlink_text : (export path target : List ℕ) (t t' : SessionAt) (result : Result (List ℕ) ClientEnd) (is : MakesSymlink uid gid export path target t t' result) (from : ℕ)
      → AreAnsweredFrom s J from [] (tells_make_symlink uid gid export path target t t' result is).made → IsUnanswered result
      ⊎ ChangesTree s J from (parent_of s.parameters.export export path (caller_of (creds.Sys 0 machine uid gid []))) (LinkAnswer target) (LinkTree target) result
  symlink_text export path target =
      change_text export path (λ at. Then (Symlinks uid gid at.0 at.1 target) (λ x. Shows []))
      (λ at. tells_then (Symlinks uid gid at.0 at.1 target) (λ x. Shows []) (tells_symlinks uid gid at.0 at.1 target) (λ x. tells_none (Shows [])))
      (LinkAnswer target) (LinkTree target) (symlink_last target)

  -- ---- `put` and `get`, up to their file

  found_ok : {A : Type 0} (finds : (trees : ℕ → Tree) → Result A ClientEnd) (from : ℕ) (value : A) (rest : List Exchange) (result : Result (List ℕ) ClientEnd)
      → IsUnanswered (Ok value) ⊎ IsPlaced s J finds from (Ok value) rest → IsUnanswered result ⊎ IsFound s J from finds (Ok value)
  found_ok finds from value rest result (inl un) = absurd un
  found_ok finds from value rest result (inr p) =
      inr (record { places = p.places; last = p.last; are = record { first = p.first; rise = p.rise; ends = p.ends; within = at_most s J rest p.last [] p.later }; is = p.is })

  found_none : {A : Type 0} (finds : (trees : ℕ → Tree) → Result A ClientEnd) (from : ℕ) (end : ClientEnd) (result : Result (List ℕ) ClientEnd) → result ≡ Err end
      → IsUnanswered {A = A} (Err end) ⊎ IsPlaced s J finds from (Err end) [] → IsUnanswered result ⊎ IsFound s J from finds (Err end)
  found_none {A} finds from end result same (inl un) = inl (same_end A end result same un)
  found_none finds from end result same (inr p) =
      inr (record { places = p.places; last = p.last; are = record { first = p.first; rise = p.rise; ends = p.ends; within = p.later }; is = p.is })

  put_text : (export path : List ℕ) (input input' : SourceAt) (t t' : SessionAt) (result : Result (List ℕ) ClientEnd) (is : Puts uid gid export path input input' t t' result) (from : ℕ)
      → AreAnsweredFrom s J from [] (tells_put uid gid export path input input' t t' result is).made → IsUnanswered result ⊎ IsFound s J from (parent_of s.parameters.export export path (caller_of (creds.Sys 0 machine uid gid []))) (found_by_put uid gid export path input input' t t' result is)
  put_text export path input input' t t' result (inl (at, (mid, (finds, writes)))) from are =
      let rest = (tells_writes_in uid gid at.0 at.1 input input' mid t' result writes).made in
      found_ok (parent_of s.parameters.export export path (caller_of (creds.Sys 0 machine uid gid []))) from at rest result (found_parent s J uid gid ids export path t mid (Ok at) finds from rest are)
  put_text export path input input' t t' result (inr (end, (finds, (same, still)))) from are =
      found_none (parent_of s.parameters.export export path (caller_of (creds.Sys 0 machine uid gid []))) from end result same
      (found_parent s J uid gid ids export path t t' (Err end) finds from [] (nothing_more s J from (tells_finds_parent uid gid export path t t' (Err end) finds).made are))

  get_text : (export path : List ℕ) (out out' : SinkAt) (t t' : SessionAt) (result : Result (List ℕ) ClientEnd) (is : Gets uid gid export path out out' t t' result) (from : ℕ)
      → AreAnsweredFrom s J from [] (tells_get uid gid export path out out' t t' result is).made → IsUnanswered result ⊎ IsFound s J from (file_of s.parameters.export export path (caller_of (creds.Sys 0 machine uid gid []))) (found_by_get uid gid export path out out' t t' result is)
  get_text export path out out' t t' result (inl (file, (mid, (finds, reads)))) from are =
      let rest = (tells_reads_out uid gid file out out' mid t' result reads).made in
      found_ok (file_of s.parameters.export export path (caller_of (creds.Sys 0 machine uid gid []))) from file rest result (found s J uid gid ids export path t mid (Ok file) finds from rest are)
  get_text export path out out' t t' result (inr (end, (finds, (same, still)))) from are =
      found_none (file_of s.parameters.export export path (caller_of (creds.Sys 0 machine uid gid []))) from end result same
      (found s J uid gid ids export path t t' (Err end) finds from [] (nothing_more s J from (tells_finds uid gid export path t t' (Err end) finds).made are))

  -- ---- Any command

  any_text : IsSane s.tree → (export : List ℕ) (action : Action Text) → FitsText s J action → (input input' : SourceAt) (out out' : SinkAt) (t t' : SessionAt) (result : Result (List ℕ) ClientEnd)
      (is : text_of uid gid export action input input' out out' t t' result) (from : ℕ) → AreAnsweredFrom s J from [] (tells_text uid gid export action input input' out out' t t' result is).made
      → IsUnanswered result ⊎ TextIsOfTrees s J from uid gid export action input input' out out' t t' result is
  any_text sane export actions.Mount fit input input' out out' t t' result is from are = mount_text export t t' result is.0 from are
  any_text sane export (actions.List path) fit input input' out out' t t' result is from are = inr tt
  any_text sane export (actions.Stat path) fit input input' out out' t t' result is from are = stat_text fit export path t t' result is.0 from are
  any_text sane export (actions.ReadLink path) fit input input' out out' t t' result is from are = link_text sane export path t t' result is.0 from are
  any_text sane export (actions.MakeDirectory path) fit input input' out out' t t' result is from are = mkdir_text export path t t' result is.0 from are
  any_text sane export (actions.Remove path) fit input input' out out' t t' result is from are = remove_text export path t t' result is.0 from are
  any_text sane export (actions.Link path target) fit input input' out out' t t' result is from are = symlink_text export path target t t' result is.0 from are
  any_text sane export (actions.Put path) fit input input' out out' t t' result is from are = put_text export path input input' t t' result is.0 from are
  any_text sane export (actions.Get path) fit input input' out out' t t' result is from are = get_text export path out out' t t' result is.0 from are

pub texts_are_of_the_trees_lem : TextsAreOfTheTrees
texts_are_of_the_trees_lem s J from c before after input input' out out' result (NotOpened end is fails same_input same_out) sane fit ids = tt
texts_are_of_the_trees_lem s J from c before after input input' out out' result (Opened dialed t t' opens prints closes) sane fit ids =
    λ are. any_text s J c.uid c.gid ids sane c.export c.action fit input input' out prints.written t t' prints.text prints.made from are
