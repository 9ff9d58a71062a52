use Rattle.world_laws.proofs.Sent.{messages_declared}
use Rattle.world_laws.proofs.messages.messages_are_of_declared_sites.Goals as goal

pub returns : goal.returns
returns c = messages_declared
