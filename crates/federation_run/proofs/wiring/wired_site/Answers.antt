use Rattle.std.proofs.Common.{refl}
use Rattle.federation_run.proofs.wiring.wired_site.Goals as goal

pub returns : goal.returns
returns c = refl
