use Rattle.std.proofs.Common.{◌≡◌, length}
use Rattle.scenario_text.specs.Pieces.{pieces, space}
use Rattle.scenario_text.specs.Steps.{behind, steps_of}
use Rattle.scenario_text.proofs.usual_steps.read_usual.Given as goal

-- the steps so far and those of the words that are left are those of all words
abbrev pub invariant-loop-step : goal.invariant-loop-step
invariant-loop-step l =
    behind l.read.items (steps_of l.sites l.home (pieces space l.rest)) ≡ behind l.fn.read.items (steps_of l.sites l.home (pieces space l.words))

abbrev pub decreases-loop-step : goal.decreases-loop-step
decreases-loop-step l = length l.rest
