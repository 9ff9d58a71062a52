use Rattle.world_laws.proofs.Sent.{messages_of_begun}
use Rattle.world_laws.proofs.messages.messages_to_sites_are_of_begun_attempts.Goals as goal

pub returns : goal.returns
returns c = messages_of_begun
