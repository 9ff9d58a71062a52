-- A line with the stop that is armed behind it.
use Rattle.std.proofs.Common.{◌≡◌, ℕ, suc, ◌≤◌, ◌<◌, Bool, false, cond, Option, List, ◌∷◌, ◌++◌, [], length, sym, ap, ◌∙◌, subst, arith}
use Rattle.mdb_base.specs.Words.{Each}
use Rattle.fed_rules.specs.declared.commands.Stamped.{Stamped}
use Rattle.fed_rules.specs.declared.messages.ToSite.{ToSite}
use Rattle.fed_rules.specs.Runs.{Start, EngineLine}
use Rattle.fed_messages.specs.declared.Envelope.{Envelope}
use Rattle.journal_disk.specs.Disk.{Seen}
use Rattle.local_dbms.specs.declared.dbms.LocalDbms.{LocalDbms}
use Rattle.local_dbms.specs.Stands.{Stands}
use Rattle.scripted_link.specs.declared.outlet.Outlet.{Outlet}
use Rattle.scripted_link.specs.Outlets.{offered}
use Rattle.fed_hosts.specs.declared.site_actor.SiteActor.{SiteActor}
use Rattle.fed_hosts.specs.declared.site_actor.LineParts.{LineParts}
use Rattle.fed_hosts.specs.Carrying.{HasArmed, IsTold, turn_of}
use Rattle.fed_hosts.specs.Keeps.{IsKept, IsLogged, IsStop}
use Rattle.host_laws.specs.Plans.{SitePlan, most_lines}
use Rattle.fed_hosts.specs.Rooms.{HasAdded, IsBeside}
use Rattle.host_laws.specs.Turns.{SiteTurn, is_trip, past_of}
use Rattle.fed_hosts.proofs.Adding.{logged_more}
use Rattle.fed_hosts.proofs.Armed.{flushed}

module _ {E D : Type 0} (stands : E → Start → List EngineLine → Type 0) (tells : Bool) (seen : Seen) (plan : SitePlan) (turns : List SiteTurn) (told : LineParts) (took : Option (Envelope ToSite)) where
  pub carried : (old mid armed : SiteActor E D) (outlet : Outlet) → IsKept plan turns old → length turns < most_lines → IsTold plan turns told took → is_trip told.command ≡ false
      → Each (IsStop plan.home.site.0) plan.stops → old.ends.site ≡ plan.home.site → Stands stands tells old.dbms seen plan.home plan.programs (past_of plan (turn_of old told took ∷ turns))
      → HasAdded old mid told → IsBeside old mid
      → ((more : List SiteTurn) → IsLogged plan more mid → 1 ≤ length more → mid.ends.site ≡ plan.home.site → Stands stands tells mid.dbms seen plan.home plan.programs (past_of plan more)
      → HasArmed stands tells seen plan more mid.lines.items armed)
      → offered outlet ≡ offered armed.ends.outlet
      → HasArmed stands tells seen plan (turn_of old told took ∷ turns) (old.lines.items ++ (turn_of old told took).line ∷ []) (record armed { ends = record armed.ends { outlet = outlet } })
  carried old mid armed outlet kept less is untripped stops site stood added beside arms same =
      let turn = turn_of old told took in
      let count : mid.armed ≡ cond (is_trip told.command) (suc old.armed) old.armed = beside.armed ∙ ap (λ (b : Bool). cond b (suc old.armed) old.armed) (sym untripped) in
      let count' = count ∙ ap (λ (n : ℕ). cond (is_trip told.command) (suc n) n) kept.logged.armed in
      let logged = logged_more plan turns told took old mid kept.logged is site (untripped ∙ sym (kept.settled less)) less added beside.stops count' in
      let site' = beside.site ∙ site in
      let stood' = subst (λ (d : LocalDbms E). Stands stands tells d seen plan.home plan.programs (past_of plan (turn ∷ turns))) (sym beside.dbms) stood in
      let h = arms (turn ∷ turns) logged (omega arith) site' stood' in
      flushed stands tells seen plan (turn ∷ turns) (old.lines.items ++ turn.line ∷ []) armed outlet same
      (subst (λ (ls : List Stamped). HasArmed stands tells seen plan (turn ∷ turns) ls armed) added.lines h)
