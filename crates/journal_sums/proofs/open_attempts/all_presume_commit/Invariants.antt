use Rattle.std.proofs.Common.{◌≡◌, drop}
use Rattle.presumptions.specs.declared.Protocol.TheVariants as By
use Rattle.fed_rules.specs.CoordRecords.{all_follow}
use Rattle.journal_sums.proofs.open_attempts.all_presume_commit.Given as goal

-- the first ones presume commit
abbrev pub invariant-loop-participant : goal.invariant-loop-participant
invariant-loop-participant l = all_follow By.Commit (drop l.participant-index l.participants) ≡ all_follow By.Commit l.participants
