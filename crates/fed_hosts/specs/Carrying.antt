-- A line that is added, and the arming of a stop behind it.
use Rattle.std.specs.Prelude.{◌≡◌, ◌<◌, ◌^◌, suc, cond, Bool, true, Option, List, ◌++◌, length, option_to_list}
use Rattle.mdb_base.specs.declared.names.Tx.{Tx}
use Rattle.mdb_base.specs.Words.{found}
use Rattle.fed_rules.specs.declared.commands.Stamped.{Stamped}
use Rattle.fed_rules.specs.declared.messages.ToSite.{ToSite}
use Rattle.fed_rules.specs.Runs.{Start, EngineLine}
use Rattle.fed_rules.specs.SiteCommands.{answer_to, past_behind}
use Rattle.fed_rules.specs.SitePast.{attempts_of, begins_tx}
use Rattle.fed_messages.specs.declared.Envelope.{Envelope}
use Rattle.journal_disk.specs.Disk.{Seen}
use Rattle.local_dbms.specs.Stands.{Stands}
use Rattle.scripted_link.specs.Outlets.{outlet_wire}
use Rattle.fed_hosts.specs.declared.site_actor.SiteActor.{SiteActor}
use Rattle.fed_hosts.specs.declared.site_actor.LineParts.{LineParts}
use Rattle.host_laws.specs.History.{IsCommand}
use Rattle.fed_hosts.specs.Keeps.{IsKept, most_begun}
use Rattle.host_laws.specs.Lines.{stamp_of}
use Rattle.fed_hosts.specs.Lines.{line_of}
use Rattle.host_laws.specs.Plans.{SitePlan}
use Rattle.host_laws.specs.Turns.{SiteTurn, past_of, request_of, sends_of}
use Rattle.fed_hosts.specs.Views.{IsArming}

-- what is told of a line is what the rules make of its command behind these lines, with the envelope that it takes
pub record IsTold (plan : SitePlan) (turns : List SiteTurn) (told : LineParts) (took : Option (Envelope ToSite)) : Type 0 where
  pub command : IsCommand plan turns told.command took
  pub after : told.after ≡ stamp_of took
  pub small : stamp_of took < 2 ^ 62
  pub answer : told.answer ≡ answer_to plan.home (past_of plan turns) (request_of plan (past_of plan turns) told.command took)
  pub sends : option_to_list told.send ≡ sends_of plan.home (past_of plan turns) (request_of plan (past_of plan turns) told.command took)
  pub counted : (tx : Tx) → attempts_of (past_behind plan.home (past_of plan turns) (request_of plan (past_of plan turns) told.command took)) tx
      ≡ cond (begins_tx tx told.answer) (suc (attempts_of (past_of plan turns) tx)) (attempts_of (past_of plan turns) tx)
  pub few : (tx : Tx) → begins_tx tx told.answer ≡ true → attempts_of (past_of plan turns) tx < most_begun

-- the line that this becomes
abbrev pub turn_of : {E D : Type 0} → SiteActor E D → LineParts → Option (Envelope ToSite) → SiteTurn
turn_of actor told took = record { line = line_of actor.ends.site actor.last (length actor.sent.items) told; took = took }

-- behind the lines of these turns stand further lines, which take no packet, and no stop has still to be armed
pub record HasArmed {E D : Type 0} (stands : E → Start → List EngineLine → Type 0) (tells : Bool) (seen : Seen) (plan : SitePlan) (turns : List SiteTurn) (old : List Stamped) (new : SiteActor E D) : Type 0 where
  pub more : List SiteTurn
  pub arming : List Stamped
  pub is_arming : IsArming arming
  pub lines : new.lines.items ≡ old ++ arming
  pub kept : IsKept plan more new
  pub stood : Stands stands tells new.dbms seen plan.home plan.programs (past_of plan more)
  pub took : found (λ (turn : SiteTurn). turn.took) more ≡ found (λ (turn : SiteTurn). turn.took) turns

-- what adding lines leaves alone
pub record IsBesideLines {E D : Type 0} (old new : SiteActor E D) : Type 0 where
  pub disk : new.disk ≡ old.disk
  pub site : new.ends.site ≡ old.ends.site
  pub inlet : new.ends.inlet ≡ old.ends.inlet
  pub wire : outlet_wire new.ends.outlet ≡ outlet_wire old.ends.outlet
  pub idle : new.idle ≡ old.idle
