-- A coordinator that takes tickets whenever it comes to them, also where they are to be taken conservatively.
use Rattle.std.specs.Prelude.{◌≡◌, true, List, [], ◌∷◌}
use Rattle.fed_rules.specs.declared.answers.Answer.{Answer}
use Rattle.fed_rules.specs.declared.answers.Answer.TheVariants as Say
use Rattle.fed_rules.specs.declared.commands.Command.{Command}
use Rattle.fed_rules.specs.declared.scenario.Scenario.{Scenario}
use Rattle.fed_rules.specs.Coord.{coord_line}
use Rattle.fed_rules.specs.Plans.{IsScenario}
use Rattle.fed_rules.specs.Policies.{always}
use Rattle.fed_rules.specs.Story.{Story, answer_of}
use Rattle.commit_laws.specs.WrongRules.{Rules, right_rules, story_by}
use Rattle.federation_laws.specs.Conservative.{RefusesForCycle}

abbrev pub tickets_at_once : Rules
tickets_at_once = record right_rules { coordinator = λ protocols policy past event. coord_line protocols always past event }

-- the answer of the last line
abbrev pub last_answer : Story → Answer
last_answer [] = Say.None
last_answer (told ∷ story) = answer_of told.happened

-- by these rules a commit is refused for a cycle in some scenario whose tickets are to be taken conservatively
pub record RefusesConservatively (rules : Rules) : Type 0 where
  pub scenario : Scenario
  pub good : IsScenario scenario
  pub conservative : scenario.conservative ≡ true
  pub commands : List Command  -- the last one first
  pub refused : RefusesForCycle (last_answer (story_by rules scenario commands))
