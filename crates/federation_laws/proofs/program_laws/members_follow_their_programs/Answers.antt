use Rattle.federation_laws.proofs.Memberships.{members-follow}
use Rattle.federation_laws.proofs.program_laws.members_follow_their_programs.Goals as goal

pub returns : goal.returns
returns c = members-follow
