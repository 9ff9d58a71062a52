-- A session at rest to which a command is added, and a cycle that may be printed in two ways.
use Rattle.std.proofs.Common.{◌≡◌, ℕ, Some, false, List, [], ◌∷◌, length, refl, ap}
use Rattle.mdb_base.specs.declared.replies.Edge.{Edge}
use Rattle.presumptions.specs.declared.Decision.TheVariants as Decided
use Rattle.order_laws.specs.Tickets.{IsCycle}
use Rattle.fed_rules.specs.declared.answers.Answer.{Answer}
use Rattle.fed_rules.specs.declared.answers.Answer.TheVariants as Say
use Rattle.fed_rules.specs.declared.answers.Cause.TheVariants as For
use Rattle.fed_rules.specs.declared.commands.Line.{Line}
use Rattle.fed_rules.specs.Right.{story_told}
use Rattle.fed_rules.proofs.ForCallers.{before, edge, line, opened, place, scenario_of, take, tid, trip}
use Rattle.fed_rules.proofs.ForCallers as Opposite
use Rattle.replay_laws.specs.WrongRules.{AddsAtRest, NextLinesDiffer, disarmed_always}

pub added_at_rest : AddsAtRest disarmed_always
unfolding opened
added_at_rest =
    record {
      scenario = scenario_of [] [] [];
      commands = [];
      at_rest = record {
        coordinator_up = refl;
        coordinator_untripped = refl;
        sites_up = λ site. refl;
        sites_untripped = λ site. refl;
        none_live = λ site. refl;
        none_in_doubt = λ site. refl;
        none_known = refl;
      };
      added = λ e. (let longer : trip 0 0 0 ∷ [] ≡ [] = e in cc);
    }

-- ---- a cycle, and the same one twice round

abbrev round : List Edge
round = edge (tid 2 0) (tid 1 0) 2 ∷ edge (tid 1 0) (tid 2 0) 1 ∷ []

abbrev twice_round : List Edge
twice_round = edge (tid 2 0) (tid 1 0) 2 ∷ edge (tid 1 0) (tid 2 0) 1 ∷ round

goes_twice : IsCycle Opposite.attempts (tid 2 0) twice_round
goes_twice =
    record {
      some = λ none. cc;
      edges = (Opposite.edge_1, (Opposite.edge_2, (Opposite.edge_1, (Opposite.edge_2, tt))));
      round = (refl, (refl, (refl, (refl, refl))));
    }

-- the line that refuses the second attempt, with these edges
abbrev refusal : List Edge → Line
refusal edges = line (take 1 5) (Say.Decides Decided.Abort (Some (For.Cycle edges)) false) (place 1 7 ∷ place 2 7 ∷ [])

-- how many edges an answer names
abbrev edges_in : Answer → ℕ
edges_in (Say.Decides decision (Some (For.Cycle edges)) forgets) = length edges
edges_in answer = 0

pub two_refusals : NextLinesDiffer
unfolding opened
two_refusals =
    record {
      scenario = Opposite.scenario;
      story = story_told Opposite.scenario (before 25 Opposite.printed);
      line = refusal round;
      other = refusal twice_round;
      next = record { answer = (refl, refl, Opposite.cycle_is_one); sends = refl };
      other_next = record { answer = (refl, refl, goes_twice); sends = refl };
      same_command = refl;
      differ = λ e. (let two_are_four : 2 ≡ 4 = ap (λ (l : Line). edges_in l.answer) e in cc);
    }
