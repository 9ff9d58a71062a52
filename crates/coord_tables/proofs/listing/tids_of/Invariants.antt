use Rattle.std.proofs.Common.{◌≡◌, take}
use Rattle.coord_tables.specs.Listing.{listed_tids}
use Rattle.coord_tables.proofs.listing.tids_of.Given as goal

-- those of the first ones
abbrev pub invariant-loop-place : goal.invariant-loop-place
invariant-loop-place l = l.tids.items ≡ listed_tids l.undecided (take l.place l.table)
