-- When the lines of a site's host are right: each is what the rules make of the lines before it and the packets that were taken.
use Rattle.std.specs.Prelude.{◌≡◌, ℕ, IsSome, Option, Some, None, List, [], ◌∷◌, length, slice_get}
use Rattle.fed_rules.specs.declared.commands.Command.{Command}
use Rattle.fed_rules.specs.declared.commands.Command.TheVariants as Cmd
use Rattle.fed_rules.specs.declared.messages.ToSite.{ToSite}
use Rattle.fed_rules.specs.SiteCommands.{answer_to}
use Rattle.fed_rules.specs.Story.{place_from}
use Rattle.fed_messages.specs.declared.Envelope.{Envelope}
use Rattle.host_laws.specs.Lines.{next_stamp, stamp_of}
use Rattle.host_laws.specs.Plans.{SitePlan}
use Rattle.host_laws.specs.Turns.{SiteTurn, is_arming, is_due, last_stamp, past_of, request_at, sends_at, sent_by, trips_of}

-- the envelope that a `give` takes is the one that the line names by its number
pub record IsGiven (place : ℕ) (took : Option (Envelope ToSite)) : Type 0 where
  pub envelope : Envelope ToSite
  pub is : took ≡ Some envelope
  pub place_is : place ≡ envelope.index

-- a command of this site's host: of its own transactions, with the envelope that it takes, or of the next stop that is left
abbrev pub IsCommand : SitePlan → List SiteTurn → Command → Option (Envelope ToSite) → Type 0
IsCommand plan turns (Cmd.Begin tx) took = IsSome (plan.programs tx) × (took ≡ None)
IsCommand plan turns (Cmd.Step tx) took = IsSome (plan.programs tx) × (took ≡ None)
IsCommand plan turns (Cmd.Commit tx) took = IsSome (plan.programs tx) × (took ≡ None)
IsCommand plan turns (Cmd.Abort tx) took = IsSome (plan.programs tx) × (took ≡ None)
IsCommand plan turns (Cmd.Fate tx) took = IsSome (plan.programs tx) × (took ≡ None)
IsCommand plan turns (Cmd.Give site place) took = (site ≡ plan.home.site) × IsGiven place took
IsCommand plan turns (Cmd.Ask site tid) took = (site ≡ plan.home.site) × (took ≡ None)
IsCommand plan turns (Cmd.Trip actor calls cut) took =
    (slice_get plan.stops (trips_of turns) ≡ Some (record { actor = actor; calls = calls; cut = cut })) × (took ≡ None)
IsCommand plan turns (Cmd.Back actor) took = (actor ≡ plan.home.site.0) × (took ≡ None)
IsCommand plan turns command took = ⊥

-- the line is the next one: its answer and its place are those of the rules, its stamp is one more than the last one and than that of the
-- message that it takes, and it arms a stop exactly where one has to be armed
pub record IsNext (plan : SitePlan) (turns : List SiteTurn) (turn : SiteTurn) : Type 0 where
  pub command : IsCommand plan turns turn.line.line.command turn.took
  pub answer : turn.line.line.answer ≡ answer_to plan.home (past_of plan turns) (request_at plan turns turn)
  pub sends : turn.line.line.sends ≡ place_from plan.home.site (length (sent_by plan turns)) (sends_at plan turns turn)
  pub stamp : turn.line.stamp ≡ next_stamp (last_stamp turns) (stamp_of turn.took)
  pub arms : is_arming turn ≡ is_due plan turns

-- each line is the next one on those before it
abbrev pub IsHistory : SitePlan → List SiteTurn → Type 0
IsHistory plan [] = Unit {0}
IsHistory plan (turn ∷ turns) = IsNext plan turns turn × IsHistory plan turns
