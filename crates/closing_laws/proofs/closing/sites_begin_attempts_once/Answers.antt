use Rattle.closing_laws.proofs.BegunOnce.{sites_begin_once}
use Rattle.closing_laws.proofs.closing.sites_begin_attempts_once.Goals as goal

pub returns : goal.returns
returns c = sites_begin_once
