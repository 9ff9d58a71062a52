use Rattle.std.proofs.Common.{List}
use Rattle.fed_rules.specs.declared.commands.Command.{Command}
use Rattle.fed_rules.specs.declared.scenario.Scenario.{Scenario}
use Rattle.fed_rules.specs.Plans.{IsScenario}
use Rattle.fed_rules.specs.Story.{story_of}
use Rattle.federation_laws.specs.OneOrder.{OfStories, Parts}
use Rattle.federation_laws.specs.SiteOrders.{SitesAreSerial}
use Rattle.federation_laws.proofs.Headlines.{headline}
use Rattle.federation_laws.proofs.Memberships.{commits-agree, members-follow}
use Rattle.federation_laws.proofs.OnceEach.{one-attempt}
use Rattle.federation_laws.proofs.OneOrders.{one-order}
use Rattle.federation_laws.proofs.Ordered.{all-ordered}
use Rattle.federation_laws.proofs.serial_laws.federation_is_serializable.Goals as goal

parts : OfStories SitesAreSerial → (scenario : Scenario) → IsScenario scenario → (commands : List Command) → Parts scenario (story_of scenario commands)
parts serial scenario good commands =
    record {
      sites = serial scenario good commands;
      commits = commits-agree scenario good commands;
      programs = members-follow scenario good commands;
    }

pub returns-clause-headline : goal.returns-clause-headline
returns-clause-headline c = λ scenario good commands.
    let ends = c.attempts_end_by_their_outcomes.ensures in
    headline c.each_site_of_a_story_is_serial.ensures.serial ends.alike ends.forgets ends.answers scenario good commands
    (one-order scenario commands (parts c.sites_are_serial_in_every_story.ensures scenario good commands)) (all-ordered scenario good commands)
    (one-attempt c.stories_have_right_lines.ensures scenario good commands)

pub returns-clause-one_order : goal.returns-clause-one_order
returns-clause-one_order c = λ scenario good commands. one-order scenario commands (parts c.sites_are_serial_in_every_story.ensures scenario good commands)

pub returns-clause-all : goal.returns-clause-all
returns-clause-all c = all-ordered

pub returns-clause-once : goal.returns-clause-once
returns-clause-once c = one-attempt c.stories_have_right_lines.ensures

pub returns-clause-outcome : goal.returns-clause-outcome
returns-clause-outcome c = c.sites_settle_the_outcome.ensures.outcome

pub returns-clause-alike : goal.returns-clause-alike
returns-clause-alike c = c.sites_settle_alike.ensures

pub returns-clause-known : goal.returns-clause-known
returns-clause-known c = c.attempts_are_forgotten_when_acknowledged.ensures.known

pub returns-clause-forgotten : goal.returns-clause-forgotten
returns-clause-forgotten c = c.attempts_are_forgotten_when_acknowledged.ensures.forgotten

pub returns-clause-acknowledged : goal.returns-clause-acknowledged
returns-clause-acknowledged c = c.attempts_are_forgotten_when_acknowledged.ensures.acknowledged

pub returns-clause-inquiries : goal.returns-clause-inquiries
returns-clause-inquiries c = c.inquiries_in_doubt_are_answered_the_outcome.ensures.answer
