use Rattle.engine_laws.proofs.Epochs.{history}
use Rattle.engine_laws.proofs.every_rule.epochs_are_serial.Goals as goal

pub returns : goal.returns
returns c = history
