-- The replies of one client as the code keeps them: in the slots that their xids give modulo the window.
use Rattle.std.specs.Prelude.{◌≡◌, ℕ, ◌+◌, ◌<◌, ◌≤◌, ◌%◌, max, refl, ◌==◌, nat_le, if◌then◌else◌, List, length, replicate, get_or, slice_set, Option, None, Some, is_some}
use Rattle.std.specs.List.{count_by}
use Rattle.std.specs.Coded.{Coded, code_by, coded×, coded_ℕ, coded_list, coded_option}
use Rattle.nr_cache.specs.declared.window.KeptReply.{KeptReply}
use Rattle.nr_cache.specs.declared.window.Found.{Found}
use Rattle.nr_cache.specs.declared.window.Found.TheVariants as found
use Rattle.nr_cache.specs.Entries.{KeptEntry, Finding, window, top_of, found_in}
use Rattle.nr_cache.specs.Entries.Finding.{KeptCall, OldCall, NewCall}

pub record Replies : Type 0 where
  pub top : ℕ
  pub slots : List (Option KeptReply)

abbrev pub no_replies : Replies
no_replies = record { top = 0; slots = replicate window None }

-- how many replies are kept
abbrev pub replies_kept : Replies → ℕ
replies_kept w = count_by is_some w.slots

-- a finding of the code
abbrev pub finding_of : Found → Finding
finding_of (found.Kept place reply) = KeptCall place reply.now
finding_of (found.Old top) = OldCall top
finding_of found.New = NewCall

-- what a slot says of an xid
abbrev pub by_slot : ℕ → Option KeptReply → Finding
by_slot xid None = NewCall
by_slot xid (Some k) = if k.xid == xid then KeptCall k.place k.reply else NewCall

unfoldable pub found_at : Replies → ℕ → Finding
found_at w xid = if nat_le (xid + window) w.top then OldCall w.top else by_slot xid (get_or w.slots (xid % window) None)

-- a reply more
unfoldable pub kept_in : Replies → KeptReply → Replies
kept_in w k = record { top = max w.top k.xid; slots = slice_set w.slots (k.xid % window) (Some k) }

-- each slot has a reply of its own xids, none above the largest
abbrev pub IsInSlot : ℕ → ℕ → Option KeptReply → Type 0
IsInSlot top at None = Unit {0}
IsInSlot top at (Some k) = (k.xid % window ≡ at) × (k.xid ≤ top)

pub record IsWindow (w : Replies) : Type 0 where
  pub len : length w.slots ≡ window
  pub slots : (at : ℕ) → at < window → IsInSlot w.top at (get_or w.slots at None)

-- these replies are those of the entries of a client
pub record Remembers (E : List KeptEntry) (w : Replies) : Type 0 where
  pub top : w.top ≡ top_of E
  pub found : (xid : ℕ) → found_at w xid ≡ found_in E xid

abbrev pub reply_code : Coded KeptReply
reply_code = code_by (ℕ × (ℕ × List ℕ)) (coded× coded_ℕ (coded× coded_ℕ (coded_list coded_ℕ))) (λ k. (k.xid, (k.place, k.reply))) (λ p. record { xid = p.0; place = p.1.0; reply = p.1.1 }) (λ _. refl)

abbrev pub replies_code : Coded Replies
replies_code = code_by (ℕ × List (Option KeptReply)) (coded× coded_ℕ (coded_list (coded_option reply_code))) (λ w. (w.top, w.slots)) (λ p. record { top = p.0; slots = p.1 }) (λ _. refl)
