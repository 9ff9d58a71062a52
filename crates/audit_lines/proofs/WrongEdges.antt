-- When it is told whether the edges of a printed line are wrong.
use Rattle.std.proofs.Common.{◌≡◌, ℕ, Bool, true, false, not, Option, Some, None, List, refl, sym, subst}
use Rattle.mdb_base.specs.declared.names.SiteId.{SiteId}
use Rattle.mdb_base.specs.declared.replies.Edge.{Edge}
use Rattle.mdb_base.specs.Words.{given, item_at}
use Rattle.presumptions.specs.declared.Participant.{Participant}
use Rattle.fed_rules.specs.declared.answers.Answer.TheVariants as Say
use Rattle.fed_rules.specs.declared.commands.Command.{Command}
use Rattle.fed_rules.specs.declared.commands.Command.TheVariants as Cmd
use Rattle.fed_rules.specs.declared.events.CoordEvent.{CoordEvent}
use Rattle.fed_rules.specs.declared.events.CoordEvent.TheVariants as Ev
use Rattle.fed_rules.specs.declared.messages.FromSite.{FromSite}
use Rattle.fed_rules.specs.declared.scenario.Scenario.{Scenario}
use Rattle.fed_rules.specs.CoordPast.{CoordHappening, CoordPast, message_tid}
use Rattle.fed_rules.specs.Scenarios.{policy, protocols}
use Rattle.fed_rules.specs.Story.{Story, Happened, AtSite, AtCoordinator, Nowhere, at_coordinator, coord_past, happens, on_take, sent_from}
use Rattle.audit_rules.specs.Faults.{may_name, names_cycle}
use Rattle.audit_lines.specs.Compared.{TellsAt, TellsWrong, is_take}
use Rattle.audit_lines.proofs.Refusals.{taken}
use Rattle.audit_lines.proofs.Takes.{IsNoTake, TookNothing, heard, takes_none}

no_tellings : (members : List Participant) (past : CoordPast) (x : CoordHappening) (event : CoordEvent) (edges : List Edge) (wrong : Bool) → IsNoTake event → TellsAt members past x event edges wrong
no_tellings members past x (Ev.Take site message) edges wrong none = absurd none
no_tellings members past x event edges wrong none = tt

tells_nothing : (members : List Participant) (story : Story) (happened : Happened) (edges : List Edge) (wrong : Bool) → TookNothing happened → TellsWrong members story happened edges wrong
tells_nothing members story (AtSite site x) edges wrong none = tt
tells_nothing members story (AtCoordinator x) edges wrong none = no_tellings members (coord_past story) x x.event edges wrong none
tells_nothing members story (Nowhere answer) edges wrong none = tt

module _ (scenario : Scenario) (story : Story) (edges : List Edge) (wrong : Bool) where
  -- a refusal by a cycle of this message is told of
  abbrev pub TellsOf : SiteId → FromSite → Type 0
  TellsOf site message =
      names_cycle (taken (protocols scenario) (policy scenario) (coord_past story) site message).answer ≡ true
      → wrong ≡ not (may_name (protocols scenario) (coord_past story) (taken (protocols scenario) (policy scenario) (coord_past story) site message) (message_tid message) edges)

  by_message : (site : SiteId) (o : Option FromSite) → ((message : FromSite) → o ≡ Some message → TellsOf site message)
      → TellsWrong (protocols scenario) story (given o (λ message. at_coordinator scenario story (Ev.Take site message)) (Nowhere Say.None)) edges wrong
  unfolding given
  by_message site None tells = tt
  by_message site (Some message) tells =
      subst (λ event. TellsAt (protocols scenario) (coord_past story) (taken (protocols scenario) (policy scenario) (coord_past story) site message) event edges wrong)
      (sym (heard scenario story (Ev.Take site message))) (tells message refl)

  at_take : (site : SiteId) (place : ℕ) → ((message : FromSite) → item_at (sent_from site story) place ≡ Some message → TellsOf site message)
      → TellsWrong (protocols scenario) story (happens scenario story (Cmd.Take site place)) edges wrong
  unfolding happens on_take
  at_take site place tells = by_message site (item_at (sent_from site story) place) tells

  -- it is told where it is of each message that a `take` has the coordinator take
  pub tells_wrong : (command : Command) → ((site : SiteId) (place : ℕ) (message : FromSite) → command ≡ Cmd.Take site place → item_at (sent_from site story) place ≡ Some message → TellsOf site message)
      → TellsWrong (protocols scenario) story (happens scenario story command) edges wrong
  tells_wrong command tells = by_take command (is_take command) refl tells where
    of_take : (command : Command) → is_take command ≡ true → ((site : SiteId) (place : ℕ) (message : FromSite) → command ≡ Cmd.Take site place → item_at (sent_from site story) place ≡ Some message → TellsOf site message)
        → TellsWrong (protocols scenario) story (happens scenario story command) edges wrong
    of_take (Cmd.Take site place) e tells = at_take site place (λ message there. tells site place message refl there)
    of_take command e tells = cc

    by_take : (command : Command) (b : Bool) → is_take command ≡ b → ((site : SiteId) (place : ℕ) (message : FromSite) → command ≡ Cmd.Take site place → item_at (sent_from site story) place ≡ Some message → TellsOf site message)
        → TellsWrong (protocols scenario) story (happens scenario story command) edges wrong
    by_take command true e tells = of_take command e tells
    by_take command false e tells = tells_nothing (protocols scenario) story (happens scenario story command) edges wrong (takes_none scenario story command e)
