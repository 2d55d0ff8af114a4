use Rattle.nr_reply_laws.proofs.Replies.{create_lem, getattr_lem, lookup_lem, mkdir_lem, mount_lem, read_lem, readdir_lem, readlink_lem, remove_lem, symlink_lem, write_lem}
use Rattle.nr_reply_laws.proofs.laws.plain_replies_are_read.Goals as goal

pub returns-clause-mount : goal.returns-clause-mount
returns-clause-mount c = mount_lem

pub returns-clause-look_up : goal.returns-clause-look_up
returns-clause-look_up c = lookup_lem

pub returns-clause-attributes : goal.returns-clause-attributes
returns-clause-attributes c = getattr_lem

pub returns-clause-link_read : goal.returns-clause-link_read
returns-clause-link_read c = readlink_lem

pub returns-clause-listed : goal.returns-clause-listed
returns-clause-listed c = readdir_lem

pub returns-clause-directory_made : goal.returns-clause-directory_made
returns-clause-directory_made c = mkdir_lem

pub returns-clause-link_made : goal.returns-clause-link_made
returns-clause-link_made c = symlink_lem

pub returns-clause-removed : goal.returns-clause-removed
returns-clause-removed c = remove_lem

pub returns-clause-created : goal.returns-clause-created
returns-clause-created c = create_lem

pub returns-clause-file_read : goal.returns-clause-file_read
returns-clause-file_read c = read_lem

pub returns-clause-file_written : goal.returns-clause-file_written
returns-clause-file_written c = write_lem
