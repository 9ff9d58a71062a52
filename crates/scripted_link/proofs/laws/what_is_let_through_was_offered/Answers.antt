use Rattle.scripted_link.proofs.Scripts.{were_offered}
use Rattle.scripted_link.proofs.laws.what_is_let_through_was_offered.Goals as goal

pub returns : goal.returns
returns g c = were_offered _
