use Rattle.scenario_text.proofs.SeenLemmas.{stop_kept}
use Rattle.scenario_text.proofs.draft.stops.StopDraft.add.Goals as goal

pub invariant_of-self-2 : goal.invariant_of-self-2
invariant_of-self-2 c = rw c.in_ok-push.ensures.items (stop_kept c.args.line _ _ c.self.invariant c.requires c.self.told)
