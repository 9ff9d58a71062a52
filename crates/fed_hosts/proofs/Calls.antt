-- A line that a client's call makes.
use Rattle.std.proofs.Common.{◌≡◌, ◌<◌, Bool, false, IsSome, None, List, length, refl, sym, ap, ◌∙◌, subst}
use Rattle.mdb_base.specs.declared.names.Tx.{Tx}
use Rattle.fed_rules.specs.declared.commands.Command.{Command}
use Rattle.fed_rules.specs.Runs.{Start, EngineLine}
use Rattle.fed_rules.specs.SiteCommands.{own_request, past_behind}
use Rattle.fed_rules.specs.SitePast.{SitePast}
use Rattle.journal_disk.specs.Disk.{Seen}
use Rattle.local_dbms.specs.declared.dbms.LocalDbms.{LocalDbms}
use Rattle.local_dbms.specs.Stands.{Serves, Stands}
use Rattle.scripted_link.specs.Inlets.{taken}
use Rattle.scripted_link.specs.Outlets.{HasMovedOn}
use Rattle.scripted_link.specs.Rings.{Wire}
use Rattle.fed_hosts.specs.declared.site_actor.SiteActor.{SiteActor}
use Rattle.fed_hosts.specs.declared.site_actor.LineParts.{LineParts}
use Rattle.fed_hosts.specs.declared.verbs.Verb.{Verb}
use Rattle.fed_hosts.specs.declared.verbs.Verb.TheVariants as Asks
use Rattle.fed_hosts.specs.Carrying.{IsBesideLines, IsTold}
use Rattle.fed_hosts.specs.Keeps.{Keeps}
use Rattle.host_laws.specs.Plans.{SitePlan, most_lines}
use Rattle.fed_hosts.specs.Serving.{MayBegin}
use Rattle.host_laws.specs.Turns.{is_trip, past_of, request_of}
use Rattle.fed_hosts.specs.Verbs.{command_of, rule_of}
use Rattle.fed_hosts.proofs.Asked.{asked_past, asked_told, command_untripped}
use Rattle.fed_hosts.proofs.Lines.{Carries, HasLine, line_carried}

module _ {E D : Type 0} (stands : E → Start → List EngineLine → Type 0) (tells : Bool) (seen : D → Seen) (sites : List SitePlan) (rings : List Wire) where
  pub call_line : (old : SiteActor E D) (dbms : LocalDbms E) (disk : D) (new : SiteActor E D) (verb : Verb) (tx : Tx) (told : LineParts) (k : Keeps stands tells seen sites rings false old)
      → told ≡ record told { send = None; after = 0 } → told.command ≡ command_of verb tx
      → Serves (Stands stands tells dbms (seen disk)) told.answer k.plan.home k.plan.programs (past_of k.plan k.turns) (own_request (rule_of verb) k.plan.home (k.plan.programs tx) (past_of k.plan k.turns) tx)
      → IsSome (k.plan.programs tx) → (verb ≡ Asks.Begin → MayBegin k.plan.home (past_of k.plan k.turns) tx) → length old.lines.items < most_lines → (seen disk).faults ≡ (seen old.disk).faults
      → Carries stands tells (seen disk) (record old { dbms = dbms; disk = disk }) new told
      → IsBesideLines (record old { dbms = dbms; disk = disk }) new → HasMovedOn new.ends.outlet → HasLine stands tells seen sites rings old new told
  call_line old dbms disk new verb tx told k shape command serves own may few faults carries beside moved_on =
      let plan = k.plan in
      let turns = k.turns in
      let past = past_of plan turns in
      let same : told ≡ record told { command = command_of verb tx; send = None; after = 0 } =
      shape ∙ ap (λ (c : Command). let t : LineParts = record { command = c; answer = told.answer; send = None; after = 0 } in t) command in
      let is : IsTold plan turns told None = subst (λ (t : LineParts). IsTold plan turns t None) (sym same) (asked_told plan turns verb tx told (Stands stands tells dbms (seen disk)) serves k.standing.core.holds.made own may) in
      let stood : Stands stands tells dbms (seen disk) plan.home plan.programs (past_behind plan.home past (request_of plan past told.command None)) =
      subst (λ (c : Command). Stands stands tells dbms (seen disk) plan.home plan.programs (past_behind plan.home past (request_of plan past c None))) (sym command)
      (subst (λ (p : SitePast). Stands stands tells dbms (seen disk) plan.home plan.programs p) (asked_past plan turns verb tx told (Stands stands tells dbms (seen disk)) serves) serves.next) in
      line_carried stands tells seen sites rings old dbms disk new plan turns told None (taken old.ends.inlet) k.planned k.kept few is (ap is_trip command ∙ command_untripped verb tx) stood refl k.heard (faults ∙ k.faults) carries beside moved_on
