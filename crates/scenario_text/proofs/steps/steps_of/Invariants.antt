use Rattle.std.proofs.Common.{◌≡◌, length}
use Rattle.scenario_text.specs.Pieces.{pieces, space}
use Rattle.scenario_text.specs.Steps as steps
use Rattle.scenario_text.proofs.steps.steps_of.Given as goal

-- the steps so far and those of the words that are left are those of all words
abbrev pub invariant-loop-word : goal.invariant-loop-word
invariant-loop-word l = steps.behind l.steps.items (steps.steps_of l.sites l.home (pieces space l.rest)) ≡ steps.steps_of l.sites l.home (pieces space l.words)

abbrev pub decreases-loop-word : goal.decreases-loop-word
decreases-loop-word l = length l.rest
