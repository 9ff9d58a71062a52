use Rattle.std.proofs.Common.{[], ◌∷◌}
use Rattle.scripted_link.specs.Outlets.{outlet_wire}
use Rattle.world_tests.proofs.locked_links.crossed.Given as goal

-- the ring of these ends is the one that is named
abbrev pub ghosts-cross : goal.ghosts-cross
ghosts-cross g a = record { rings = outlet_wire a.ends.outlet ∷ [] }
