use Rattle.std.proofs.Common.{◌∙◌}
use Rattle.scenario_text.proofs.SeenLemmas.{link_to_seen, link_from_seen}
use Rattle.scenario_text.proofs.draft.links.LinkDraft.has.Goals as goal

pub returns-then-line : goal.returns-then-line
returns-then-line c = rw (← c.self.view_is) (c.contains.ensures ∙ link_to_seen c.args.line _ _ _ c.self.invariant c.if-line.true)

pub returns-else-line : goal.returns-else-line
returns-else-line c = rw (← c.self.view_is) (c.contains-else-line.ensures ∙ link_from_seen c.args.line _ _ _ c.self.invariant c.if-line.false)
