use Rattle.fed_rules.proofs.Heard.{heard-known}
use Rattle.fed_rules.proofs.coordinator_laws.counted_messages_are_about_known_attempts.Goals as goal

pub returns : goal.returns
returns c = λ protocols policy past site message e h. heard-known protocols policy past site message e h
