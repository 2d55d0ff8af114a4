use Rattle.std.proofs.Common.{sym, append_assoc}
use Rattle.nr_nfs_base.specs.Codec.{enumeration, word}
use Rattle.nr_nfs_base.specs.Fronts.{read_ok_front, readlink_ok_front, success_codec}
use Rattle.nr_nfs_base.specs.Names.{text_codec}
use Rattle.nr_nfs_base.specs.StatusUnion.{status_union_codec}
use Rattle.nr_nfs_res.specs.Bytes.{read_ok_codec}
use Rattle.nr_nfs_res.specs.Lookup.{readlink_ok_codec}
use Rattle.nr_nfs_res.specs.Results.{before_read_data, before_readlink_path}
use Rattle.nr_nfs_res.proofs.laws.fronts_of_results.Goals as goal

pub returns-clause-read : goal.returns-clause-read
unfolding status_union_codec success_codec enumeration read_ok_codec
returns-clause-read c = λ v. sym (append_assoc (word.items 0) (read_ok_front.items (before_read_data v).1) (text_codec.items v.bytes))

pub returns-clause-readlink : goal.returns-clause-readlink
unfolding status_union_codec success_codec enumeration readlink_ok_codec
returns-clause-readlink c = λ v. sym (append_assoc (word.items 0) (readlink_ok_front.items (before_readlink_path v).1) (text_codec.items v.path))
