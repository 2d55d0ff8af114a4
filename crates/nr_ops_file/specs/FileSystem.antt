-- FSSTAT, FSINFO and PATHCONF (RFC 1813 sections 3.3.18 to 3.3.20). The handle alone is tested.
use Rattle.std.specs.Prelude.{ℕ, ◌+◌, ◌-◌, ◌/◌, true, false, List, [], ◌∷◌, Option}
use Rattle.nr_nfs_base.specs.declared.attributes.Attributes.{Attributes}
use Rattle.nr_nfs_base.specs.declared.status.Status.{Status}
use Rattle.nr_nfs_base.specs.declared.status_union.StatusUnion.{StatusUnion}
use Rattle.nr_nfs_base.specs.declared.status_union.StatusUnion.TheVariants.{Done, Failed}
use Rattle.nr_nfs_base.specs.declared.time.Time.{Time}
use Rattle.nr_nfs_args.specs.declared.file_system.FsinfoArgs.{FsinfoArgs}
use Rattle.nr_nfs_args.specs.declared.file_system.FsstatArgs.{FsstatArgs}
use Rattle.nr_nfs_args.specs.declared.file_system.PathconfArgs.{PathconfArgs}
use Rattle.nr_nfs_res.specs.declared.file_system.FsinfoOk.{FsinfoOk}
use Rattle.nr_nfs_res.specs.declared.file_system.FsstatOk.{FsstatOk}
use Rattle.nr_nfs_res.specs.declared.file_system.PathconfOk.{PathconfOk}
use Rattle.nr_nfs_base.specs.Limits.{listing_max, transfer_max}
use Rattle.nr_nfs_base.specs.Limits.{name_length_max}
use Rattle.nr_tree.specs.Replies.{attributes_at}
use Rattle.nr_tree.specs.Rules.{first, answer, handle_rule, entry_cost}
use Rattle.nr_tree.specs.Sane.{file_size_max}
use Rattle.nr_tree.specs.DirectoryGraph.{links_max}
use Rattle.nr_tree.specs.Tree.{Tree}
use Rattle.nr_tree.specs.declared.rules.Space.{Space}

-- ===== FSSTAT (section 3.3.18)

-- what the journal may still cost
abbrev pub free_of : Space → ℕ
free_of space = space.capacity - space.used

-- each file that is made costs at least an entry of the journal
abbrev pub fsstat_ok : Space → Option Attributes → FsstatOk
fsstat_ok space attributes = record {
  attributes = attributes;
  tbytes = space.capacity;
  fbytes = free_of space;
  abytes = free_of space;
  tfiles = space.capacity / entry_cost;
  ffiles = free_of space / entry_cost;
  afiles = free_of space / entry_cost;
  invarsec = 0;
}

abbrev pub fsstat_rules : Tree → FsstatArgs → List (Option Status)
fsstat_rules t a = handle_rule t a.fsroot ∷ []

abbrev pub fsstat_reply : Tree → Space → FsstatArgs → StatusUnion FsstatOk (Option Attributes) Status
fsstat_reply t space a = answer (first (fsstat_rules t a)) (λ s. Failed s (attributes_at t a.fsroot)) (Done (fsstat_ok space (attributes_at t a.fsroot)))

-- ===== FSINFO (section 3.3.19)

-- what the bytes of a READ and of a WRITE should be a multiple of
abbrev pub transfer_multiple : ℕ
transfer_multiple = 4096

-- the resolution of times: a nanosecond
abbrev pub time_step : Time
time_step = record { seconds = 0; nanoseconds = 1 }

-- FSF3_LINK, FSF3_SYMLINK, FSF3_HOMOGENEOUS and FSF3_CANSETTIME: there are hard links and symbolic links, PATHCONF answers the same everywhere, and times can be set
abbrev pub properties_of_server : ℕ
properties_of_server = 1 + 2 + 8 + 16

abbrev pub fsinfo_ok : Option Attributes → FsinfoOk
fsinfo_ok attributes = record {
  attributes = attributes;
  rtmax = transfer_max;
  rtpref = transfer_max;
  rtmult = transfer_multiple;
  wtmax = transfer_max;
  wtpref = transfer_max;
  wtmult = transfer_multiple;
  dtpref = listing_max;
  maxfilesize = file_size_max;
  time_delta = time_step;
  properties = properties_of_server;
}

abbrev pub fsinfo_rules : Tree → FsinfoArgs → List (Option Status)
fsinfo_rules t a = handle_rule t a.fsroot ∷ []

abbrev pub fsinfo_reply : Tree → FsinfoArgs → StatusUnion FsinfoOk (Option Attributes) Status
fsinfo_reply t a = answer (first (fsinfo_rules t a)) (λ s. Failed s (attributes_at t a.fsroot)) (Done (fsinfo_ok (attributes_at t a.fsroot)))

-- ===== PATHCONF (section 3.3.20)

abbrev pub pathconf_ok : Option Attributes → PathconfOk
pathconf_ok attributes = record {
  attributes = attributes;
  linkmax = links_max;
  name_max = name_length_max;
  no_trunc = true;
  chown_restricted = true;
  case_insensitive = false;
  case_preserving = true;
}

abbrev pub pathconf_rules : Tree → PathconfArgs → List (Option Status)
pathconf_rules t a = handle_rule t a.object ∷ []

abbrev pub pathconf_reply : Tree → PathconfArgs → StatusUnion PathconfOk (Option Attributes) Status
pathconf_reply t a = answer (first (pathconf_rules t a)) (λ s. Failed s (attributes_at t a.object)) (Done (pathconf_ok (attributes_at t a.object)))
