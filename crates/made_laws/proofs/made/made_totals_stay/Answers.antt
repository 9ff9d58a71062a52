use Rattle.made_laws.proofs.MadeTotal.{made_total}
use Rattle.made_laws.proofs.made.made_totals_stay.Goals as goal

pub returns : goal.returns
returns c = made_total c.federation_is_serializable.ensures.headline c.moves_keep_worth.ensures
