use Rattle.closing.proofs.Cores.{on_ok}
use Rattle.closing.proofs.actors.known.Goals as goal

pub returns : goal.returns
returns c =
    on_ok _ _ c.known_tids.result
    (λ tids listed session commands r up. listed _ _ (c.core.ensures.held _ _ _ (c.coordinator.ensures session commands r)) up.coordinator)
    c.known_tids.ensures
