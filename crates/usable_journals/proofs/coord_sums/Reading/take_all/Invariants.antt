use Rattle.std.proofs.Common.{◌≡◌, true, [], ◌∷◌, ◌++◌, take, reverse}
use Rattle.fed_rules.specs.declared.records.CoordRecord.{CoordRecord}
use Rattle.fed_rules.specs.Usable.{coord_read}
use Rattle.usable_journals.specs.CoordTests.{in_order}
use Rattle.usable_journals.specs.Reads.{Says}
use Rattle.usable_journals.proofs.SameLists.{IsSoFar}
use Rattle.usable_journals.proofs.coord_sums.Reading.take_all.Given as goal

-- the first ones were read, and each Checkpoint among them fits
abbrev pub invariant-loop-entry : goal.invariant-loop-entry
invariant-loop-entry l =
    (first : CoordRecord) → Says l.protocols l.fn.self (coord_read (first ∷ [])) → in_order (coord_read (reverse l.entries ++ first ∷ [])) ≡ true →
    IsSoFar l.protocols l.self (reverse (take l.entry-index l.entries)) first
