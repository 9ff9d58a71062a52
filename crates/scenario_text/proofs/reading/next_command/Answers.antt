use Rattle.std.proofs.lemmas.Option.{IfSome_then}
use Rattle.scenario_text.proofs.reading.next_command.Goals as goal

pub returns-then-draft : goal.returns-then-draft
returns-then-draft c = IfSome_then c.usual_command.result c.usual_command.ensures (λ p said. (c.if-draft.true, said))
