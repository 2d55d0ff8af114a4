use Rattle.nr_ops_list.proofs.listings.range_within.Given as goal

abbrev pub ghosts-place_after : goal.ghosts-place_after
ghosts-place_after a = record { name = a.blank.name; parts = a.blank.parts }
