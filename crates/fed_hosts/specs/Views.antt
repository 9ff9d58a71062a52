-- What contracts see of a site's host, and what its calls do.
use Rattle.std.specs.Prelude.{◌≡◌, ◌⊎◌, ℕ, Bool, true, IsSome, None, Some, List, [], ◌∷◌, ◌++◌, length, map, reverse, slice_get}
use Rattle.mdb_base.specs.declared.names.SiteId.{SiteId}
use Rattle.mdb_base.specs.declared.names.Tx.{Tx}
use Rattle.mdb_base.specs.Words.{found}
use Rattle.fed_rules.specs.declared.answers.Answer.{Answer}
use Rattle.fed_rules.specs.declared.answers.Answer.TheVariants as Say
use Rattle.fed_rules.specs.declared.commands.Command.{Command}
use Rattle.fed_rules.specs.declared.commands.Place.{Place}
use Rattle.fed_rules.specs.declared.commands.Stamped.{Stamped}
use Rattle.fed_rules.specs.Requests.{attempt}
use Rattle.fed_rules.specs.SiteCommands.{answer_to}
use Rattle.fed_messages.specs.declared.Packet.{Packet}
use Rattle.scripted_link.specs.Inlets.{empty_count, taken}
use Rattle.fed_hosts.specs.declared.site_actor.SiteActor.{SiteActor}
use Rattle.host_laws.specs.Hearing.{HasHeard}
use Rattle.host_laws.specs.History.{IsHistory}
use Rattle.fed_hosts.specs.Keeps.{most_begun}
use Rattle.host_laws.specs.Plans.{SitePlan, most_lines}
use Rattle.host_laws.specs.Turns.{SiteTurn, is_trip, past_of, request_of}

-- the site's number, the lines in their order, the packets that were taken, oldest first, how often the inlet gave none, how many turns found no
-- message since the last eighth, and whether a disk call failed
pub record SiteView : Type 0 where
  pub site : SiteId
  pub lines : List Stamped
  pub took : List Packet
  pub empties : ℕ
  pub idle : ℕ
  pub failed : Bool

abbrev pub view_of : {E D : Type 0} → SiteActor E D → Bool → SiteView
view_of actor failed =
    record { site = actor.ends.site; lines = actor.lines.items; took = taken actor.ends.inlet; empties = empty_count actor.ends.inlet; idle = actor.idle; failed = failed }

-- a line that arms a stop, or none
abbrev pub IsArming : List Stamped → Type 0
IsArming [] = Unit {0}
IsArming (line ∷ []) = is_trip line.line.command ≡ true
IsArming (line ∷ other ∷ lines) = ⊥

-- behind the lines stand this command with this answer, and at most a line that arms a stop
pub record Adds (old new : List Stamped) (command : Command) (answer : Answer) : Type 0 where
  pub stamp : ℕ
  pub places : List Place
  pub arming : List Stamped
  pub is_arming : IsArming arming
  pub lines : new ≡ old ++ record { stamp = stamp; line = record { command = command; answer = answer; sends = places } } ∷ arming

-- what was seen of the host is what these turns of its site make: its lines are theirs, right by the site's plan, with the envelopes that the
-- packets bear
pub record IsSeen (sites : List SitePlan) (plan : SitePlan) (turns : List SiteTurn) (view : SiteView) : Type 0 where
  pub place : ℕ
  pub at : slice_get sites place ≡ Some plan
  pub site : view.site ≡ plan.home.site
  pub right : IsHistory plan turns
  pub lines : view.lines ≡ reverse (map (λ (turn : SiteTurn). turn.line) turns)
  pub heard : HasHeard plan.programs view.took (found (λ (turn : SiteTurn). turn.took) turns)

-- what the rules answer to a command that takes no message behind these turns
abbrev pub answer_next : SitePlan → List SiteTurn → Command → Answer
answer_next plan turns command = answer_to plan.home (past_of plan turns) (request_of plan (past_of plan turns) command None)

-- a host makes no line with this answer behind its lines: it has as many as it makes, or the line would begin the attempt behind the last that it
-- begins
abbrev pub IsSpent : List Stamped → Tx → Answer → Type 0
IsSpent lines tx answer = (length lines ≡ most_lines) ⊎ (answer ≡ Say.Begun (attempt tx most_begun))

-- one line is made, with the answer of the rules
pub record MakesLine (old new : SiteView) (command : Command) (answer rule : Answer) : Type 0 where
  pub others : new ≡ record old { lines = new.lines }
  pub adds : Adds old.lines new.lines command answer
  pub right : answer ≡ rule

-- without a line it is answered spent exactly where it is spent, and else none where the transaction is none of the site's own; else one line is
-- made
abbrev pub IsServed : SitePlan → List SiteTurn → SiteView → SiteView → Command → Tx → Answer → Type 0
IsServed plan turns old new command tx answer =
    (IsSpent old.lines tx (answer_next plan turns command) × (answer ≡ Say.Spent) × (new ≡ old))
    ⊎ ((IsSpent old.lines tx (answer_next plan turns command) → ⊥)
    × (((plan.programs tx ≡ None) × (answer ≡ Say.None) × (new ≡ old)) ⊎ (IsSome (plan.programs tx) × MakesLine old new command answer (answer_next plan turns command))))

-- what a client's call of a transaction does
pub record HasServed (sites : List SitePlan) (old new : SiteView) (command : Command) (tx : Tx) (answer : Answer) : Type 0 where
  pub plan : SitePlan
  pub turns : List SiteTurn
  pub seen : IsSeen sites plan turns old
  pub served : IsServed plan turns old new command tx answer
