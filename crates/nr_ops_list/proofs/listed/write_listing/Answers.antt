use Rattle.std.proofs.Common.{◌≡◌, ◌-◌, ◌++◌, List, Bool, take, length, ap, subst, sym, arith}
use Rattle.std.proofs.lemmas.List.{length-drop}
use Rattle.std.specs.Prelude.{map}
use Rattle.nr_xdr.specs.Items.{encodings}
use Rattle.nr_nfs_base.specs.Attributes.{attributes_codec}
use Rattle.nr_nfs_base.specs.Codec.{boolean, optional, linked_list}
use Rattle.nr_nfs_base.specs.Verifier.{verifier_codec}
use Rattle.nr_nfs_res.specs.Readdir.{listing_codec}
use Rattle.nr_tree.specs.Entries.{Entry, NamesAreValid}
use Rattle.nr_ops_list.specs.Readdir.{cookie_verifier}
use Rattle.nr_ops_list.proofs.Counting.{names_from}
use Rattle.nr_ops_list.proofs.Written.{Writes, written_then, written_value, bytes_then}
use Rattle.nr_ops_list.proofs.listed.write_listing.Goals as goal

pub write_entries-requires-clause-count : goal.write_entries-requires-clause-count
write_entries-requires-clause-count g c =
    omega (arith, c.requires.rises, c.requires.bounded, ap (λ (l : List Entry). length l) c.entries_from-left.ensures, length-drop c.args.range.now.start c.args.range.now.dir.now.list)

pub write_entries-requires-clause-names : goal.write_entries-requires-clause-names
write_entries-requires-clause-names g c = subst NamesAreValid (sym c.entries_from-left.ensures) (names_from c.args.range.now.dir.now.list c.args.range.now.start c.requires.names)

pub returns : goal.returns
unfolding listing_codec
returns g c =
    written_then c.args.writer c.in_ok-writer.writer ((optional attributes_codec).items c.args.dir_attributes) _ c.write_to-3.result c.in_ok-writer.ensures.exact.appended
    (written_then c.in_ok-writer.writer c.in_ok-writer-2.writer (verifier_codec.items cookie_verifier) _ c.write_to-3.result c.in_ok-writer-2.ensures.exact.appended
    (bytes_then c.in_ok-writer-2.writer c.in_ok-writer-3.writer _ _ c.write_to-3.result
    (subst (λ (l : List Entry). c.in_ok-writer-3.writer.bytes ≡ c.in_ok-writer-2.writer.bytes ++ encodings ((linked_list g.E.Xdr.codec).items (map (g.E.Listed.said c.args.tree.now) (take (c.args.range.now.end - c.args.range.now.start) l)))) c.entries_from-left.ensures c.in_ok-writer-3.ensures)
    (subst (λ (b : Bool). Writes c.in_ok-writer-3.writer (boolean.items b) c.write_to-3.result) c.is_last.ensures (written_value boolean c.in_ok-writer-3.writer c.is_last.result c.write_to-3.result c.write_to-3.ensures.exact))))
