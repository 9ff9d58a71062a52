use Rattle.scripted_link.proofs.Scripts.{see_places_alone}
use Rattle.scripted_link.proofs.laws.scripts_see_places_alone.Goals as goal

pub returns : goal.returns
returns g c = see_places_alone _ _
