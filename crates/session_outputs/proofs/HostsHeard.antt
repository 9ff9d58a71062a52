-- Each command of a run's hosts is one that some actor hears, and none asks for a Checkpoint.
use Rattle.std.proofs.Common.{◌≡◌, ℕ, ◌==◌, Bool, true, false, cond, Option, Some, List, [], ◌∷◌, map, reverse, slice_get, refl, sym, subst}
use Rattle.std.proofs.lemmas.Bool.{and_parts, or_left, or_right}
use Rattle.mdb_base.specs.declared.names.SiteId.{SiteId}
use Rattle.mdb_base.specs.Names.{same_site}
use Rattle.mdb_base.specs.Words.{Each, some_of, those}
use Rattle.mdb_base.proofs.ForCallers.{each_filtered, each_map, each_of_mapped}
use Rattle.order_laws.proofs.ForCallers.{each_at, each_passes, each_reverse, slice_get-in}
use Rattle.fed_rules.specs.declared.commands.Command.{Command}
use Rattle.fed_rules.specs.declared.commands.Command.TheVariants as Cmd
use Rattle.fed_rules.specs.declared.commands.Line.{Line}
use Rattle.fed_rules.specs.declared.commands.Stamped.{Stamped}
use Rattle.fed_rules.specs.declared.messages.FromSite.{FromSite}
use Rattle.fed_rules.specs.declared.messages.ToSite.{ToSite}
use Rattle.fed_rules.specs.declared.scenario.ItemLine.{ItemLine}
use Rattle.fed_rules.specs.declared.scenario.Scenario.{Scenario}
use Rattle.fed_rules.specs.declared.scenario.SiteLine.{SiteLine}
use Rattle.fed_rules.specs.declared.scenario.StopLine.{StopLine}
use Rattle.fed_rules.specs.Plans.{IsScenario, declares, is_actor, is_declared, is_stop, stops_actor}
use Rattle.fed_rules.specs.Scenarios.{home_in, items_of, sites}
use Rattle.fed_rules.specs.SiteRecords.{Home}
use Rattle.fed_rules.proofs.ForCallers.{its-site}
use Rattle.fed_messages.specs.declared.Envelope.{Envelope}
use Rattle.trace_merge.specs.Traces.{Entry, IsTrace}
use Rattle.host_laws.specs.CoordHistory.{IsCoordCommand, IsCoordHistory}
use Rattle.host_laws.specs.CoordPlans.{CoordPlan}
use Rattle.host_laws.specs.CoordTurns.{CoordTurn, coord_trips_of}
use Rattle.host_laws.specs.History.{IsCommand, IsHistory}
use Rattle.host_laws.specs.Logs.{AreLists, AreLogs, CoordLog, Scripts, SiteLog}
use Rattle.host_laws.specs.Merged.{commands_of, lines_in}
use Rattle.host_laws.specs.Plans.{SitePlan}
use Rattle.host_laws.specs.Turns.{SiteTurn, trips_of}
use Rattle.host_laws.proofs.ForCallers.{by_list, each_entry}
use Rattle.line_laws.specs.Lines.{IsHeard}
use Rattle.made_laws.specs.Unchecked.{AreUnchecked, is_check}

-- some actor hears the command, and it asks for no Checkpoint
abbrev IsOfHosts : List SiteLine → Command → Type 0
IsOfHosts sites command = IsHeard sites command × (is_check command ≡ false)

-- a line is of such a command
abbrev HostLine : List SiteLine → Stamped → Type 0
HostLine sites line = IsOfHosts sites line.line.command

-- a site with a home is declared
home_declared : (lines : List SiteLine) (items : List ItemLine) (site : SiteId) (home : Home) → home_in lines items site ≡ Some home → is_declared lines site ≡ true
home_declared [] items site home e = absurd cc
home_declared (line ∷ lines) items site home e = by_test (same_site line.site site) refl e (home_declared lines items site home)
  where
    here : Home
    here = record { site = line.site; engine = line.engine; protocol = line.protocol; items = items_of items site }

    by_test : (b : Bool) → same_site line.site site ≡ b → cond b (Some here) (home_in lines items site) ≡ Some home → (home_in lines items site ≡ Some home → is_declared lines site ≡ true)
        → is_declared (line ∷ lines) site ≡ true
    by_test true is f rest = or_left (declares site line) (some_of (declares site) lines) is
    by_test false is f rest = or_right (declares site line) (some_of (declares site) lines) (rest f)

-- and so is its actor
declared_actor : (sites : List SiteLine) (site : SiteId) → is_declared sites site ≡ true → is_actor sites site.0 ≡ true
declared_actor sites site e = or_right (site.0 == 0) (is_declared sites site) e

-- that of a stop line is one
stop_actor : (scenario : Scenario) (actor place : ℕ) (stop : StopLine) → IsScenario scenario → slice_get (those (stops_actor actor) scenario.stops) place ≡ Some stop → is_actor scenario.sites stop.actor ≡ true
stop_actor scenario actor place stop whole at =
    let all = each_filtered (λ (line : StopLine). is_stop scenario.sites line ≡ true) (stops_actor actor) scenario.stops (each_passes (is_stop scenario.sites) scenario.stops whole.stops.range) in
    let own = each_at (λ (line : StopLine). is_stop scenario.sites line ≡ true) stop (those (stops_actor actor) scenario.stops) all (slice_get-in (those (stops_actor actor) scenario.stops) place stop at) in
    (and_parts (is_actor scenario.sites stop.actor) _ (and_parts _ _ own).0).0

module _ (scenario : Scenario) (whole : IsScenario scenario) where
  abbrev IsHosts : Command → Type 0
  IsHosts command = IsOfHosts scenario.sites command

  -- a command of a site's host
  site_command : (site : SiteId) (plan : SitePlan) → is_declared scenario.sites plan.home.site ≡ true → plan.stops ≡ those (stops_actor site.0) scenario.stops
      → (turns : List SiteTurn) (command : Command) (took : Option (Envelope ToSite)) → IsCommand plan turns command took → IsHosts command
  site_command site plan declared stops turns (Cmd.Ask own tid) took c = (subst (λ s. is_declared scenario.sites s ≡ true) (sym c.0) declared, refl)
  site_command site plan declared stops turns (Cmd.Trip actor calls cut) took c =
      (stop_actor scenario site.0 (trips_of turns) (record { actor = actor; calls = calls; cut = cut }) whole (subst (λ (ls : List StopLine). slice_get ls (trips_of turns) ≡ Some (record { actor = actor; calls = calls; cut = cut })) stops c.0), refl)
  site_command site plan declared stops turns (Cmd.Back actor) took c = (subst (λ a. is_actor scenario.sites a ≡ true) (sym c.0) (declared_actor scenario.sites plan.home.site declared), refl)
  site_command site plan declared stops turns (Cmd.Drop own tid) took c = absurd c
  site_command site plan declared stops turns (Cmd.Halt actor cut) took c = absurd c
  site_command site plan declared stops turns (Cmd.Check actor) took c = absurd c
  site_command site plan declared stops turns command took c = (tt, refl)

  site_hosts : (site : SiteId) (plan : SitePlan) → is_declared scenario.sites plan.home.site ≡ true → plan.stops ≡ those (stops_actor site.0) scenario.stops
      → (turns : List SiteTurn) → IsHistory plan turns → Each (λ (turn : SiteTurn). IsHosts turn.line.line.command) turns
  site_hosts site plan declared stops [] h = tt
  site_hosts site plan declared stops (turn ∷ turns) h = (site_command site plan declared stops turns turn.line.line.command turn.took h.0.command, site_hosts site plan declared stops turns h.1)

  -- and one of the coordinator's
  coord_command : (plan : CoordPlan) → plan.stops ≡ those (stops_actor 0) scenario.stops
      → (turns : List CoordTurn) (command : Command) (took : Option (Envelope FromSite)) → IsCoordCommand plan turns command took → IsHosts command
  coord_command plan stops turns (Cmd.Trip actor calls cut) took c =
      (stop_actor scenario 0 (coord_trips_of turns) (record { actor = actor; calls = calls; cut = cut }) whole (subst (λ (ls : List StopLine). slice_get ls (coord_trips_of turns) ≡ Some (record { actor = actor; calls = calls; cut = cut })) stops c.0), refl)
  coord_command plan stops turns (Cmd.Back actor) took c = (subst (λ a. is_actor scenario.sites a ≡ true) (sym c.0) refl, refl)
  coord_command plan stops turns (Cmd.Ask site tid) took c = absurd c
  coord_command plan stops turns (Cmd.Drop site tid) took c = absurd c
  coord_command plan stops turns (Cmd.Halt actor cut) took c = absurd c
  coord_command plan stops turns (Cmd.Check actor) took c = absurd c
  coord_command plan stops turns command took c = (tt, refl)

  coord_hosts : (plan : CoordPlan) → plan.stops ≡ those (stops_actor 0) scenario.stops → (turns : List CoordTurn) → IsCoordHistory plan turns → Each (λ (turn : CoordTurn). IsHosts turn.line.line.command) turns
  coord_hosts plan stops [] h = tt
  coord_hosts plan stops (turn ∷ turns) h = (coord_command plan stops turns turn.line.line.command turn.took h.0.command, coord_hosts plan stops turns h.1)

-- so is each command of the merged lines
of_hosts : {scripts : Scripts} (scenario : Scenario) (coordinator : CoordLog) (logs : List SiteLog) (lists : List (List Stamped)) (merged : List Stamped)
    → AreLogs scripts scenario coordinator logs → AreLists scenario coordinator logs lists → IsTrace lists merged → Each (IsOfHosts scenario.sites) (commands_of (lines_in merged))
of_hosts scenario coordinator logs lists merged are listed trace =
    each_of_mapped _ (λ (line : Line). line.command) (reverse (lines_in merged)) (each_reverse (λ (line : Line). IsOfHosts scenario.sites line.command) (lines_in merged)
    (each_of_mapped _ (λ (stamped : Stamped). stamped.line) merged (subst (λ (ss : List Stamped). Each (HostLine scenario.sites) ss) (sym trace.lines) (each_of_mapped _ (λ (e : Entry). e.line) trace.entries entries))))
  where
    own : Each (HostLine scenario.sites) (reverse (map (λ (turn : CoordTurn). turn.line) coordinator.turns))
    own = each_reverse (HostLine scenario.sites) _ (each_of_mapped _ (λ (turn : CoordTurn). turn.line) coordinator.turns (coord_hosts scenario are.whole coordinator.plan are.coordinator_is.stops coordinator.turns are.coordinator_is.right))

    site_own : (place : ℕ) (site : SiteId) (log : SiteLog) → slice_get (sites scenario) place ≡ Some site → slice_get logs place ≡ Some log → Each (HostLine scenario.sites) (reverse (map (λ (turn : SiteTurn). turn.line) log.turns))
    site_own place site log at there =
        let s = are.site_is place site log at there in
        let same : log.plan.home.site ≡ site = its-site scenario site log.plan.home s.home in
        let declared = subst (λ x. is_declared scenario.sites x ≡ true) (sym same) (home_declared scenario.sites scenario.items site log.plan.home s.home) in
        each_reverse (HostLine scenario.sites) _ (each_of_mapped _ (λ (turn : SiteTurn). turn.line) log.turns (site_hosts scenario are.whole site log.plan declared s.stops log.turns s.right))

    entries : Each (λ (e : Entry). HostLine scenario.sites e.line) trace.entries
    entries = each_entry (λ actor. HostLine scenario.sites) trace.entries (λ actor. subst (Each (HostLine scenario.sites)) (sym (trace.each_list actor)) (by_list are listed (λ n. Each (HostLine scenario.sites)) own site_own (λ n. tt) actor))

module _ {scripts : Scripts} (scenario : Scenario) (coordinator : CoordLog) (logs : List SiteLog) (lists : List (List Stamped)) (merged : List Stamped) (are : AreLogs scripts scenario coordinator logs)
    (listed : AreLists scenario coordinator logs lists) (trace : IsTrace lists merged)
  where
    -- each is heard
    pub hosts_heard : Each (IsHeard scenario.sites) (commands_of (lines_in merged))
    hosts_heard = each_map (IsOfHosts scenario.sites) (IsHeard scenario.sites) (λ command own. own.0) (commands_of (lines_in merged)) (of_hosts scenario coordinator logs lists merged are listed trace)

    -- and none asks for a Checkpoint
    pub hosts_unchecked : AreUnchecked (commands_of (lines_in merged))
    hosts_unchecked = each_map (IsOfHosts scenario.sites) (λ command. is_check command ≡ false) (λ command own. own.1) (commands_of (lines_in merged)) (of_hosts scenario coordinator logs lists merged are listed trace)
