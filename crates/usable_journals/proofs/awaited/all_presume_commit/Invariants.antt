use Rattle.std.proofs.Common.{◌≡◌, drop}
use Rattle.presumptions.specs.declared.Protocol.TheVariants as By
use Rattle.fed_rules.specs.CoordRecords.{all_follow}
use Rattle.usable_journals.proofs.awaited.all_presume_commit.Given as goal

-- the rest decides
abbrev pub invariant-loop-participant : goal.invariant-loop-participant
invariant-loop-participant l = all_follow By.Commit (drop l.participant-index l.participants) ≡ all_follow By.Commit l.participants
