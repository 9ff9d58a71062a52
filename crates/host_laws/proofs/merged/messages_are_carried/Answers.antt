use Rattle.host_laws.proofs.Carried.{messages_carried}
use Rattle.host_laws.proofs.Stories.{merged_are_right}
use Rattle.host_laws.proofs.merged.messages_are_carried.Goals as goal

pub returns : goal.returns
returns c = messages_carried merged_are_right
