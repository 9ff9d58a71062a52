use Rattle.std.proofs.Common.{◌≡◌, drop}
use Rattle.mdb_base.specs.Words.{each_of}
use Rattle.coord_tables.specs.Voting.{votes_with}
use Rattle.coord_tables.proofs.votes.all_vote_with.Given as goal

-- the members that are left decide
abbrev pub invariant-loop-member : goal.invariant-loop-member
invariant-loop-member l = each_of (votes_with l.site l.ticket) (drop l.member-index l.members) ≡ each_of (votes_with l.site l.ticket) l.members
