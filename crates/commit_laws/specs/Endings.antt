-- The part of the headline that is about how global attempts end, in the story of any commands.
use Rattle.std.specs.Prelude.{List}
use Rattle.fed_rules.specs.declared.commands.Command.{Command}
use Rattle.fed_rules.specs.declared.scenario.Scenario.{Scenario}
use Rattle.fed_rules.specs.Endings.{AtEach, AnswersInDoubt, EndsAlike, ForgetsExactly, outcome_in}
use Rattle.fed_rules.specs.Story.{Story, story_of}

-- the fact holds of the story of any commands, whatever the scenario
abbrev pub OfAnyStory : (Scenario → Story → Type 0) → Type 0
OfAnyStory P = (scenario : Scenario) (commands : List Command) → P scenario (story_of scenario commands)

-- every line that settles an attempt says the outcome that it has at the end of the story
abbrev pub StoriesEndAlike : Type 0
StoriesEndAlike = OfAnyStory (λ scenario. EndsAlike)

-- at every line the coordinator forgets exactly when the required acknowledgements are in
abbrev pub StoriesForgetExactly : Type 0
StoriesForgetExactly = OfAnyStory ForgetsExactly

-- every line that takes an inquiry about a forgotten attempt from a site in doubt answers the outcome at the end of the story
abbrev pub StoriesAnswerInDoubt : Type 0
StoriesAnswerInDoubt = OfAnyStory (λ scenario story. AtEach (AnswersInDoubt scenario (outcome_in story)) story)
