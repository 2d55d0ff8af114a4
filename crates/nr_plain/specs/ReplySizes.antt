-- How many bytes replies have.
use Rattle.std.specs.Prelude.{ℕ, ◌+◌, ◌≤◌, List, length, Option, Some, None}
use Rattle.nr_header.specs.Constants.{PAYLOAD_MAX}
use Rattle.nr_nfs_base.specs.Limits.{handle_max}
use Rattle.nr_nfs_base.specs.declared.status.Status.{Status}
use Rattle.nr_nfs_base.specs.declared.status_union.StatusUnion.{StatusUnion}
use Rattle.nr_nfs_base.specs.declared.status_union.StatusUnion.TheVariants.{Done, Failed}
use Rattle.nr_nfs_base.specs.declared.weak_cache.WccData.{WccData}
use Rattle.nr_nfs_res.specs.declared.create.CreateOk.{CreateOk}

-- The maximum length of any reply, in bytes: the longest are those of READ, READDIR and READDIRPLUS, whose limits are
-- below this (nr_reduce, `largest_reply`).
abbrev pub any_reply_max : ℕ
any_reply_max = PAYLOAD_MAX

-- the bytes of the head of a reply to a call that was accepted (RFC 5531 section 9)
abbrev pub head_size : ℕ
head_size = 24

-- The maximum length of the results of a procedure that changes files, which are those of CREATE on success (RFC 1813
-- section 3.3.8): the status, a handle of 64 bytes, the attributes of the object, and those of the directory before and
-- after.
abbrev pub results_max : ℕ
results_max = 280

-- the maximum length of a reply with such results, in bytes
abbrev pub reply_max : ℕ
reply_max = head_size + results_max

-- a handle, if there is one, is no longer than a handle may be
abbrev pub HandleFits : Option (List ℕ) → Type 0
HandleFits None = Unit {0}
HandleFits (Some handle) = length handle ≤ handle_max

-- so is the handle in the results of a procedure that creates a file
abbrev pub ObjectFits : StatusUnion CreateOk WccData Status → Type 0
ObjectFits (Done ok) = HandleFits ok.object
ObjectFits (Failed status wcc) = Unit {0}
