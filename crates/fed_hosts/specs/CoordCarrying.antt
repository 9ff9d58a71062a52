-- A line that the coordinator's host adds, and the arming of a stop behind it.
use Rattle.std.specs.Prelude.{◌≡◌, ◌<◌, ◌^◌, suc, cond, Bool, true, Option, List, ◌++◌}
use Rattle.mdb_base.specs.declared.names.SiteId.{SiteId}
use Rattle.mdb_base.specs.declared.names.Tx.{Tx}
use Rattle.fed_rules.specs.declared.commands.Stamped.{Stamped}
use Rattle.fed_rules.specs.declared.messages.FromSite.{FromSite}
use Rattle.fed_rules.specs.CoordPast.{attempts_of}
use Rattle.fed_rules.specs.Policies.{Policy}
use Rattle.fed_rules.specs.SitePast.{begins_tx}
use Rattle.fed_messages.specs.declared.Envelope.{Envelope}
use Rattle.journal_disk.specs.Disk.{Seen}
use Rattle.global_manager.specs.Stands.{Stands}
use Rattle.fed_hosts.specs.declared.coord_actor.CoordActor.{CoordActor}
use Rattle.fed_hosts.specs.declared.coord_actor.CoordLineParts.{CoordLineParts}
use Rattle.host_laws.specs.CoordHistory.{IsCoordCommand}
use Rattle.fed_hosts.specs.CoordKeeps.{IsCoordKept}
use Rattle.host_laws.specs.CoordPlans.{CoordPlan}
use Rattle.fed_hosts.specs.CoordRooms.{coord_line_of}
use Rattle.host_laws.specs.CoordTurns.{CoordTurn, MayAnswer, coord_behind, coord_past_of, coord_request, coord_sends, took_from}
use Rattle.fed_hosts.specs.Keeps.{most_begun}
use Rattle.host_laws.specs.Lines.{stamp_of}
use Rattle.fed_hosts.specs.Ports.{AreBesidePorts}
use Rattle.fed_hosts.specs.Views.{IsArming}

-- what is told of a line is what the rules make of its command behind these lines, with the envelope that it takes
pub record IsCoordTold (plan : CoordPlan) (turns : List CoordTurn) (told : CoordLineParts) (took : Option (Envelope FromSite)) : Type 0 where
  pub command : IsCoordCommand plan turns told.command took
  pub after : told.after ≡ stamp_of took
  pub small : stamp_of took < 2 ^ 62
  pub answer : MayAnswer plan.terms (coord_past_of plan turns) (coord_request plan (coord_past_of plan turns) told.command took) told.answer
  pub sends : told.sends ≡ coord_sends plan.terms (coord_past_of plan turns) (coord_request plan (coord_past_of plan turns) told.command took)
  pub counted : (tx : Tx) → attempts_of (coord_behind plan.terms (coord_past_of plan turns) (coord_request plan (coord_past_of plan turns) told.command took)) tx
      ≡ cond (begins_tx tx told.answer) (suc (attempts_of (coord_past_of plan turns) tx)) (attempts_of (coord_past_of plan turns) tx)
  pub few : (tx : Tx) → begins_tx tx told.answer ≡ true → attempts_of (coord_past_of plan turns) tx < most_begun

-- the line that this becomes
abbrev pub coord_turn_of : {P D : Type 0} → CoordActor P D → CoordLineParts → Option (Envelope FromSite) → CoordTurn
coord_turn_of actor told took = record { line = coord_line_of actor.last actor.ports.items told; took = took }

-- behind the lines of these turns stand further lines, which take no packet, and no stop has still to be armed
pub record HasCoordArmed {P D : Type 0} (test : P → Policy) (tells : Bool) (seen : Seen) (plan : CoordPlan) (turns : List CoordTurn) (old : List Stamped) (new : CoordActor P D) : Type 0 where
  pub more : List CoordTurn
  pub arming : List Stamped
  pub is_arming : IsArming arming
  pub lines : new.lines.items ≡ old ++ arming
  pub kept : IsCoordKept plan more new
  pub stood : Stands test tells new.manager seen plan.terms plan.programs (coord_past_of plan more)
  pub took : (site : SiteId) → took_from site more ≡ took_from site turns

-- what adding lines leaves alone
pub record IsBesideCoordLines {P D : Type 0} (old new : CoordActor P D) : Type 0 where
  pub disk : new.disk ≡ old.disk
  pub ports : AreBesidePorts old.ports.items new.ports.items
  pub first : new.first ≡ old.first
