-- The merged lines of a run are right, and what its hosts left stands for them.
use Rattle.std.proofs.Common.{◌≡◌, ℕ, zero, suc, ◌+◌, ◌≤◌, ◌<◌, Bool, true, false, cond, nat_eq, Option, Some, None, List, [], ◌∷◌, length, map, reverse, slice_get, refl, sym, ap, ◌∙◌, subst, arith}
use Rattle.std.proofs.lemmas.List.{length-append, length-reverse}
use Rattle.std.specs.Prelude.{nat_lt, option_to_list}
use Rattle.std.proofs.lemmas.Bool.{ltb-false, ltb-true}
use Rattle.std.proofs.lemmas.Option.{get_or_from_slice_get}
use Rattle.mdb_base.specs.declared.names.SiteId.{SiteId}
use Rattle.mdb_base.specs.declared.names.Tx.{Tx}
use Rattle.mdb_base.specs.Counts.{HasRisen}
use Rattle.mdb_base.proofs.ForCallers.{length-map, length-option, made_of, rises_by_place, same_lists, slice_get-one}
use Rattle.fed_rules.specs.declared.commands.Command.{Command}
use Rattle.fed_rules.specs.declared.commands.Line.{Line}
use Rattle.fed_rules.specs.declared.commands.Stamped.{Stamped}
use Rattle.fed_rules.specs.declared.messages.FromSite.{FromSite}
use Rattle.fed_rules.specs.declared.messages.ToSite.{ToSite}
use Rattle.fed_rules.specs.declared.scenario.Scenario.{Scenario}
use Rattle.fed_rules.specs.declared.scenario.StopLine.{StopLine}
use Rattle.fed_rules.specs.CoordPast.{CoordPast}
use Rattle.fed_rules.specs.Plans.{IsScenario}
use Rattle.fed_rules.specs.Scenarios.{global_program, home_of, sites}
use Rattle.fed_rules.specs.SitePast.{SitePast}
use Rattle.fed_rules.specs.SiteRecords.{Home}
use Rattle.fed_rules.specs.Story as Told
use Rattle.fed_rules.specs.Story.{Story, story_of}
use Rattle.fed_messages.specs.declared.Packet.{Packet}
use Rattle.journal_disk.specs.Disk.{Seen}
use Rattle.any_engine.specs.declared.engine.AnyEngine.{AnyEngine}
use Rattle.any_engine.specs.Stands as Engines
use Rattle.conservative_take.specs.AnyPolicies.{policy_is}
use Rattle.coord_core.specs.Found as Coord_found
use Rattle.site_core.specs.Made.{was_found}
use Rattle.held_disks.proofs.ForCallers.{coord_not_found, site_not_found}
use Rattle.global_manager.specs.Stands as Manager
use Rattle.local_dbms.specs.declared.dbms.LocalDbms.{LocalDbms}
use Rattle.local_dbms.specs.Stands as Dbms
use Rattle.local_dbms.specs.Stands.{OwnPrograms, own_programs}
use Rattle.session_report.specs.declared.marks.Mark.{Mark}
use Rattle.session_report.specs.declared.marks.Marks.{Marks}
use Rattle.session_report.specs.declared.session.Channel.{Channel}
use Rattle.session_report.specs.Marks.{kept_marks}
use Rattle.session_routes.specs.Posting.{message_to}
use Rattle.fed_world.specs.Seats.{AreFew}
use Rattle.trace_merge.specs.Traces.{Entry, IsTrace, lines_of, list_of}
use Rattle.world_laws.proofs.ForCallers.{messages_declared}
use Rattle.fed_world.specs.declared.cores.Cores.{Cores}
use Rattle.fed_world.specs.Asks.{terms_of}
use Rattle.fed_world.specs.Faults.{faults_of}
use Rattle.fed_world.specs.Gathering.{Gathers, GathersAt, GathersOn, IsChannel, IsGathered}
use Rattle.fed_world.specs.FreshWorlds.{AreDisks}
use Rattle.fed_world.specs.Worlds.{DbmsRecalls, DbmsStands, ManagerRecalls, ManagerStands, OfManager, OnDisk}
use Rattle.fed_world.proofs.ForCallers.{at_its_place, declared_rise, has_item, no_home_placeless}
use Rattle.session_routes.specs.Routes.{place_in}
use Rattle.host_laws.specs.CoordTurns.{CoordTurn, coord_past_of, coord_sends_at, sent_to}
use Rattle.host_laws.specs.Links.{script_of}
use Rattle.host_laws.specs.Logs.{AreLists, AreLogs, CoordLog, SiteLog}
use Rattle.host_laws.specs.Merged.{AreShort, CarriesSite, MergedLinesAreRight, MessagesAreCarried, TellsLogs, TellsSite, commands_of, lines_in, story_in}
use Rattle.host_laws.specs.Plans.{SitePlan, most_lines}
use Rattle.host_laws.specs.Stops.{AreSettled, StopsAreArmed}
use Rattle.host_laws.specs.Turns as Turns
use Rattle.host_laws.specs.Turns.{SiteTurn, begun_in, request_at, sends_at, sent_by}
use Rattle.host_laws.proofs.ForCallers.{few_sent}
use Rattle.fed_hosts.specs.declared.ports.Port.{Port}
use Rattle.fed_hosts.specs.CoordKeeps.{IsCoordStanding, IsPortLogged}
use Rattle.fed_hosts.specs.Keeps.{IsCounting, IsStanding, most_begun}
use Rattle.fed_hosts.specs.Ports.{backs_of}
use Rattle.scripted_link.specs.Inlets.{returned}
use Rattle.federation_run.specs.declared.lefts.Left.{Left}
use Rattle.federation_run.specs.declared.lefts.SiteLeft.{SiteLeft}
use Rattle.federation_run.specs.declared.sorting.Sorted.{Sorted}
use Rattle.federation_run.specs.Lefts.{ArePlaced, IsLeft}
use Rattle.federation_run.specs.Plans.{coord_plan, count_at, site_plan, stops_in}
use Rattle.federation_run.specs.Running.{EndsCoord, EndsSite, HasBroken, HaveRun}
use Rattle.federation_run.specs.Sorting.{AllFit, AreMarks, AreSorted, FailedAt, IsSent, NoneFailed}
use Rattle.federation_run.proofs.Counted.{few_begun, few_lines}
use Rattle.federation_run.proofs.Held.{coord_left, site_left}
use Rattle.federation_run.proofs.Logged.{are_lists, are_logs, back_carried, backs_carried, coord_at, coord_held, coord_log, left_of, logs, logs_count, own, own_is, port_site, ports_count}
use Rattle.federation_run.proofs.Owned.{IsOwnLog}
use Rattle.federation_run.proofs.Unchecked.{marks_kept}

-- ---- how many lines and messages there are

-- an actor has at most as many lines as there are in all
lines_few : (actor : ℕ) (es : List Entry) → length (lines_of actor es) ≤ length es
lines_few actor [] = omega arith
lines_few actor (e ∷ es) = by_test (nat_eq e.actor actor) (lines_few actor es)
  where
    by_test : (b : Bool) → length (lines_of actor es) ≤ length es → length (cond b (e.line ∷ lines_of actor es) (lines_of actor es)) ≤ length (e ∷ es)
    by_test true less = omega (arith, less)
    by_test false less = omega (arith, less)

pub list_few : (lists : List (List Stamped)) (merged : List Stamped) (actor : ℕ) → IsTrace lists merged → length (list_of lists actor) ≤ length (commands_of (lines_in merged))
list_few lists merged actor trace =
    let few = lines_few actor trace.entries in
    let here : length (lines_of actor trace.entries) ≡ length (list_of lists actor) = ap (λ (ls : List Stamped). length ls) (trace.each_list actor) in
    let all : length merged ≡ length trace.entries = ap (λ (ls : List Stamped). length ls) trace.lines ∙ length-map (λ (e : Entry). e.line) trace.entries in
    let told : length (commands_of (lines_in merged)) ≡ length merged =
    length-map (λ (line : Line). line.command) (reverse (lines_in merged)) ∙ (length-reverse (lines_in merged) ∙ length-map (λ (s : Stamped). s.line) merged) in
    omega (arith, few, here, all, told)

-- the coordinator sends a site at most one message in a line
to_few : (log : CoordLog) (site : SiteId) (turns : List CoordTurn) → length (sent_to log.plan site turns) ≤ length turns
to_few log site [] = omega arith
to_few log site (turn ∷ turns) =
    let rest = to_few log site turns in
    let one = length-option (message_to site (coord_sends_at log.plan turns turn)) in
    let both = length-append (sent_to log.plan site turns) (option_to_list (message_to site (coord_sends_at log.plan turns turn))) in
    omega (arith, rest, one, both)

-- and a site the coordinator
from_few : (plan : SitePlan) (turns : List SiteTurn) → length (sent_by plan turns) ≤ length turns
from_few plan [] = omega arith
from_few plan (turn ∷ turns) =
    let rest = from_few plan turns in
    let one = few_sent plan.home (Turns.past_of plan turns) (request_at plan turns turn) in
    let both = length-append (sent_by plan turns) (sends_at plan turns turn) in
    omega (arith, rest, one, both)

-- ---- what became of the run

module _ (right : MergedLinesAreRight) (carries : MessagesAreCarried) (arms : StopsAreArmed) (tells : Bool) (counts : List ℕ) (disks : List Seen) (scenario : Scenario) (whole : IsScenario scenario) (left : Left)
    (l : IsLeft tells counts disks scenario left) (placed : ArePlaced (sites scenario) left.sites.items) (fits : AllFit left.sites.items left.coordinator.ports.items) (sorted : Sorted)
    (s : AreSorted left.coordinator.lines left.sites.items left.coordinator.ports.items sorted) (merged : List Stamped) (traced : IsTrace sorted.lists.items merged) where
  abbrev coordinator : CoordLog
  coordinator = coord_log tells counts disks scenario whole left l placed fits

  abbrev sites_logs : List SiteLog
  sites_logs = logs tells counts disks scenario whole left l placed fits

  logged : AreLogs (script_of scenario) scenario coordinator sites_logs
  logged = are_logs tells counts disks scenario whole left l placed fits s.met

  listed : AreLists scenario coordinator sites_logs sorted.lists.items
  listed = are_lists tells counts disks scenario whole left l placed fits sorted.lists.items s.lists

  coordinator_short : length coordinator.turns ≤ most_lines
  coordinator_short = (coord_held tells counts disks scenario whole left l placed fits).short

  sites_short : (place : ℕ) (log : SiteLog) → slice_get sites_logs place ≡ Some log → length log.turns ≤ most_lines
  sites_short place log at =
      let one = left_of tells counts disks scenario whole left l placed fits place log at in
      (own tells counts disks scenario whole left l placed fits place one.0 log one.1 at).short

  -- the lines are right, and tell what the hosts did
  pub told : TellsLogs scenario coordinator sites_logs (lines_in merged)
  told = right (script_of scenario) scenario coordinator sites_logs sorted.lists.items merged logged listed traced (coordinator_short, sites_short)

  -- at the end no stop is to be armed
  settled : AreSettled coordinator sites_logs
  settled = record {
    coordinator_is = (coord_held tells counts disks scenario whole left l placed fits).settled;
    each = λ place log at.
        let one = left_of tells counts disks scenario whole left l placed fits place log at in
        (own tells counts disks scenario whole left l placed fits place one.0 log one.1 at).settled;
  }

  logs_few : (place : ℕ) (log : SiteLog) → slice_get sites_logs place ≡ Some log → (tx : Tx) → begun_in tx log.turns ≤ most_begun
  logs_few place log at =
      let one = left_of tells counts disks scenario whole left l placed fits place log at in
      (own tells counts disks scenario whole left l placed fits place one.0 log one.1 at).few

  -- no host went on from a found journal
  coordinator_new : Coord_found.was_found (coord_past_of coordinator.plan coordinator.turns) ≡ false
  coordinator_new = ap Coord_found.was_found (sym told.coordinator_is) ∙ coord_not_found scenario (commands_of (lines_in merged))

  site_new : (place : ℕ) (site : SiteId) (log : SiteLog) → slice_get (sites scenario) place ≡ Some site → slice_get sites_logs place ≡ Some log → was_found (Turns.past_of log.plan log.turns) ≡ false
  site_new place site log there at =
      let f = own_is tells counts disks scenario whole left l placed fits place site log there at in
      let named : f.2.home.site ≡ site = f.2.home_site_is ∙ f.3 in
      let declared : home_of scenario f.2.home.site ≡ Some f.2.home = subst (λ (z : SiteId). home_of scenario z ≡ Some f.2.home) (sym f.2.home_site_is) f.2.home_is in
      ap was_found (sym (told.each place site log there at).past)
      ∙ subst (λ (z : SiteId). was_found (Told.past_of z (story_of scenario (commands_of (lines_in merged)))) ≡ false) named
      (site_not_found scenario (commands_of (lines_in merged)) f.2.home declared)

  coordinator_ends : EndsCoord counts disks scenario sites_logs coordinator
  coordinator_ends =
      let at = coord_at tells counts disks scenario whole left l placed fits in
      let held = coord_held tells counts disks scenario whole left l placed fits in
      record {
        stops = refl;
        few = held.few;
        armed = held.settled;
        disk = record {
          disk = at.disk;
          own = at.own;
          holds = record {
            failed = left.coordinator.failed;
            backs = backs_of left.coordinator.ports.items;
            carried = backs_carried tells counts disks scenario whole left l placed fits s.met;
            holds = coord_left tells left.coordinator.failed left.coordinator.manager at.disk coordinator.plan (backs_of left.coordinator.ports.items) coordinator.turns coordinator_new held.standing;
            faults = held.faults;
          };
        };
      }

  sites_end : (place : ℕ) (site : SiteId) (log : SiteLog) → slice_get (sites scenario) place ≡ Some site → slice_get sites_logs place ≡ Some log → EndsSite counts disks scenario site coordinator log
  sites_end place site log there at =
      let f = own_is tells counts disks scenario whole left l placed fits place site log there at in
      let o = f.2 in
      record {
        stops = ap (λ (p : SitePlan). p.stops) o.plan_is ∙ ap (λ (z : SiteId). stops_in scenario z.0) f.3;
        few = o.few;
        armed = o.settled;
        disk = record {
          disk = o.disk;
          own = subst (λ (z : SiteId). slice_get disks z.0 ≡ Some o.disk) f.3 o.own;
          holds = record {
            failed = f.0.failed;
            back = returned f.0.ends.inlet;
            carried = back_carried tells counts disks scenario whole left l placed fits s.met place site log there at f.0 f.1;
            holds = site_left tells f.0.failed f.0.dbms o.disk log.plan (returned f.0.ends.inlet) log.turns (site_new place site log there at) o.standing;
            faults = subst (λ (n : ℕ). IsCounting f.0.failed n o.disk.faults) (ap (λ (p : SitePlan). p.faults) o.plan_is ∙ ap (λ (z : SiteId). count_at counts z.0) f.3) o.faults;
          };
        };
      }

  others_empty : AreDisks disks scenario
  others_empty = record { nine = l.nine; others = λ site disk least none at. (l.others site disk least none at).empty }

  pub have_run : HaveRun counts disks scenario coordinator sites_logs sorted.lists.items merged
  have_run = record {
    logged = logged;
    listed = listed;
    traced = traced;
    told = told;
    carried = carries (script_of scenario) scenario coordinator sites_logs sorted.lists.items merged logged listed traced (coordinator_short, sites_short);
    armed = arms (script_of scenario) scenario coordinator sites_logs sorted.lists.items merged logged listed traced (coordinator_short, sites_short) settled;
    few_begun = few_begun logged listed traced (coordinator_short, sites_short) told (coord_held tells counts disks scenario whole left l placed fits).few logs_few;
    few_lines = few_lines logged listed traced (coordinator_short, sites_short);
    coordinator_short = coordinator_short;
    sites_short = sites_short;
    coordinator_ends = coordinator_ends;
    sites_end = sites_end;
    others = others_empty;
  }

  -- ---- the numbers of faults

  abbrev story : Story
  story = story_in scenario (lines_in merged)

  -- where the host of an actor didn't fail, its disk's count stands where it stood
  pub calm_at : (n : ℕ) (disk : Seen) → slice_get disks n ≡ Some disk → (n ≡ 0 → left.coordinator.failed ≡ false)
      → ((place : ℕ) (one : SiteLeft) → slice_get left.sites.items place ≡ Some one → one.actor ≡ n → one.failed ≡ false) → disk.faults ≡ count_at counts n
  calm_at zero disk at runs sites_run =
      let c = coord_at tells counts disks scenario whole left l placed fits in
      let held = coord_held tells counts disks scenario whole left l placed fits in
      let same : c.disk ≡ disk = slice_get-one disks 0 c.disk disk c.own at in
      let counting : c.disk.faults ≡ count_at counts 0 = subst (λ (b : Bool). IsCounting b (count_at counts 0) c.disk.faults) (runs refl) held.faults in
      ap (λ (d : Seen). d.faults) (sym same) ∙ counting
  calm_at (suc n) disk at runs sites_run = by_place (place_in (sites scenario) site) refl
    where
      site : SiteId
      site = record { 0 = suc n }

      by_place : (o : Option ℕ) → place_in (sites scenario) site ≡ o → disk.faults ≡ count_at counts (suc n)
      by_place None is = (l.others site disk (omega arith) (no_home_placeless scenario site is) at).calm
      by_place (Some place) is =
          let there = at_its_place (sites scenario) site place is in
          let log = has_item sites_logs (sites scenario) place site (logs_count tells counts disks scenario whole left l placed fits) there in
          let f = own_is tells counts disks scenario whole left l placed fits place site log.0 there log.1 in
          let o = f.2 in
          let actor : f.0.actor ≡ suc n = o.own_actor ∙ ap (λ (z : SiteId). z.0) f.3 in
          let same : o.disk ≡ disk = slice_get-one disks (suc n) o.disk disk (subst (λ (z : SiteId). slice_get disks z.0 ≡ Some o.disk) f.3 o.own) at in
          let counting : o.disk.faults ≡ log.0.plan.faults = subst (λ (b : Bool). IsCounting b log.0.plan.faults o.disk.faults) (sites_run place f.0 f.1 actor) o.faults in
          ap (λ (d : Seen). d.faults) (sym same) ∙ (counting ∙ (ap (λ (p : SitePlan). p.faults) o.plan_is ∙ ap (λ (z : SiteId). count_at counts z.0) f.3))

  -- ---- where no host failed

  module _ (none : NoneFailed left.coordinator left.sites.items) where
    pub all_calm : faults_of disks ≡ counts
    all_calm = same_lists (faults_of disks) counts (length-map (λ (d : Seen). d.faults) disks ∙ (l.nine ∙ sym l.counted)) each
      where
        each : (n x y : ℕ) → slice_get (faults_of disks) n ≡ Some x → slice_get counts n ≡ Some y → x ≡ y
        each n x y at count =
            let d = made_of (λ (d : Seen). d.faults) disks n x at in
            sym d.2 ∙ (calm_at n d.0 d.1 (λ e. none.coordinator_runs) (λ place one here same. none.sites_run place one here) ∙ get_or_from_slice_get counts n y 0 count)

    module _ (cores : Cores) (cores_are : cores ≡ record { scenario = scenario; coordinator = left.coordinator.manager; sites = record { items = sorted.cores }; marks = sorted.marks }) (channels : List Channel) (channels_are : channels ≡ sorted.channels.items) where
      gathered : (place : ℕ) (site : SiteId) (dbms : LocalDbms AnyEngine) (marks : Marks) (channel : Channel) → slice_get (sites scenario) place ≡ Some site
          → slice_get sorted.cores.items place ≡ Some dbms → slice_get sorted.marks.items place ≡ Some marks → slice_get sorted.channels.items place ≡ Some channel
          → IsGathered (DbmsStands tells disks) dbms marks channel scenario site story
      gathered place site dbms marks channel there core_at marks_at channel_at = record {
        home = o.home;
        is = home_is;
        declared = declared;
        recalls = record { disk = o.disk; own = subst (λ (z : SiteId). slice_get disks z.0 ≡ Some o.disk) (sym o.home_site_is) o.own; holds = stands };
        marked = marked.site ∙ port_is;
        kept = marked.kept log.plan.home log.plan.programs (Turns.past_of log.plan log.turns) (record { core = standing.core.holds; owns = standing.owns }) ∙ (marks_kept log.plan log.turns
            ∙ (ap (λ (h : Home). kept_marks h (Turns.past_of log.plan log.turns)) o.plan_home ∙ ap (λ (past : SitePast). kept_marks o.home past) (sym t.past)));
        messages = record {
          site = sent.site ∙ port_is;
          to = sent.to ∙ (ported.sent ∙ (ap (λ (z : SiteId). sent_to coordinator.plan z coordinator.turns) port_is ∙ sym t.to));
          from = sent.from ∙ (o.sent ∙ sym t.from);
        };
      }
        where
          log_there : (log : SiteLog) × (slice_get sites_logs place ≡ Some log)
          log_there = has_item sites_logs (sites scenario) place site (logs_count tells counts disks scenario whole left l placed fits) there

          log : SiteLog
          log = log_there.0

          f : (one : SiteLeft) × (slice_get left.sites.items place ≡ Some one) × (o : IsOwnLog tells counts disks scenario l.rings place one log) × (o.site ≡ site)
          f = own_is tells counts disks scenario whole left l placed fits place site log there log_there.1

          o : IsOwnLog tells counts disks scenario l.rings place f.0 log
          o = f.2

          port_there : (port : Port) × (slice_get left.coordinator.ports.items place ≡ Some port)
          port_there = has_item left.coordinator.ports.items (sites scenario) place site (ports_count tells counts disks scenario whole left l placed fits) there

          port : Port
          port = port_there.0

          port_is : port.ends.site ≡ site
          port_is = port_site tells counts disks scenario whole left l placed fits place site port there port_there.1

          ported : IsPortLogged coordinator.plan coordinator.turns port
          ported = (coord_held tells counts disks scenario whole left l placed fits).ports place port port_there.1

          t : TellsSite story coordinator site log
          t = told.each place site log there log_there.1

          marked : AreMarks f.0.dbms port marks
          marked = s.marks place f.0 port marks f.1 port_there.1 marks_at

          sent : IsSent f.0 port channel
          sent = s.sent place f.0 port channel f.1 port_there.1 channel_at

          home_is : o.home.site ≡ site
          home_is = o.home_site_is ∙ f.3

          declared : home_of scenario site ≡ Some o.home
          declared = subst (λ (z : SiteId). home_of scenario z ≡ Some o.home) f.3 o.home_is

          programs_are : log.plan.programs ≡ own_programs site scenario.transactions
          programs_are = ap (λ (p : SitePlan). p.programs) o.plan_is ∙ ap (λ (z : SiteId). own_programs z scenario.transactions) f.3

          standing : Dbms.Stands Engines.Stands tells f.0.dbms o.disk log.plan.home log.plan.programs (Turns.past_of log.plan log.turns)
          standing = subst (λ (b : Bool). IsStanding (Dbms.Stands Engines.Stands tells f.0.dbms o.disk log.plan.home log.plan.programs) b log.plan (returned f.0.ends.inlet) log.turns) (none.sites_run place f.0 f.1) o.standing

          stands : Dbms.Stands Engines.Stands tells dbms o.disk o.home (own_programs site scenario.transactions) (Told.past_of site story)
          stands =
              subst (λ (d : LocalDbms AnyEngine). Dbms.Stands Engines.Stands tells d o.disk o.home (own_programs site scenario.transactions) (Told.past_of site story)) (sym (s.core place f.0 dbms f.1 core_at))
              (subst (λ (past : SitePast). Dbms.Stands Engines.Stands tells f.0.dbms o.disk o.home (own_programs site scenario.transactions) past) (sym t.past)
              (subst (λ (h : Home). Dbms.Stands Engines.Stands tells f.0.dbms o.disk h (own_programs site scenario.transactions) (Turns.past_of log.plan log.turns)) o.plan_home
              (subst (λ (ps : OwnPrograms). Dbms.Stands Engines.Stands tells f.0.dbms o.disk log.plan.home ps (Turns.past_of log.plan log.turns)) programs_are standing)))

      -- to and from each site were sent at most as many messages as there are lines
      to_site_few : (site : SiteId) → length (Told.sent_to site story) ≤ length (commands_of (lines_in merged))
      to_site_few site = by_place (place_in (sites scenario) site) refl
        where
          by_place : (o : Option ℕ) → place_in (sites scenario) site ≡ o → length (Told.sent_to site story) ≤ length (commands_of (lines_in merged))
          by_place None is = (let empty = ap (λ (ms : List ToSite). length ms) (messages_declared scenario (commands_of (lines_in merged)) site (no_home_placeless scenario site is)).0 in omega (arith, empty))
          by_place (Some place) is =
              let there = at_its_place (sites scenario) site place is in
              let log = has_item sites_logs (sites scenario) place site (logs_count tells counts disks scenario whole left l placed fits) there in
              let same = ap (λ (ms : List ToSite). length ms) (told.each place site log.0 there log.1).to in
              let few = to_few coordinator site coordinator.turns in
              let listed_all = ap (λ (ls : List Stamped). length ls) listed.coordinator_is ∙ (length-reverse (map (λ (turn : CoordTurn). turn.line) coordinator.turns) ∙ length-map (λ (turn : CoordTurn). turn.line) coordinator.turns) in
              let all = list_few sorted.lists.items merged 0 traced in
              omega (arith, same, few, listed_all, all)

      from_site_few : (site : SiteId) → length (Told.sent_from site story) ≤ length (commands_of (lines_in merged))
      from_site_few site = by_place (place_in (sites scenario) site) refl
        where
          by_place : (o : Option ℕ) → place_in (sites scenario) site ≡ o → length (Told.sent_from site story) ≤ length (commands_of (lines_in merged))
          by_place None is = (let empty = ap (λ (ms : List FromSite). length ms) (messages_declared scenario (commands_of (lines_in merged)) site (no_home_placeless scenario site is)).1 in omega (arith, empty))
          by_place (Some place) is =
              let there = at_its_place (sites scenario) site place is in
              let log = has_item sites_logs (sites scenario) place site (logs_count tells counts disks scenario whole left l placed fits) there in
              let same = ap (λ (ms : List FromSite). length ms) (told.each place site log.0 there log.1).from in
              let few = from_few log.0.plan log.0.turns in
              let listed_all = ap (λ (ls : List Stamped). length ls) (listed.site_is place site log.0 there log.1) ∙ (length-reverse (map (λ (turn : SiteTurn). turn.line) log.0.turns) ∙ length-map (λ (turn : SiteTurn). turn.line) log.0.turns) in
              let all = list_few sorted.lists.items merged site.0 traced in
              omega (arith, same, few, listed_all, all)

      coordinator_stands : ManagerStands tells disks left.coordinator.manager (terms_of scenario) (global_program scenario) (Told.coord_past story)
      coordinator_stands =
          let c = coord_at tells counts disks scenario whole left l placed fits in
          let held = coord_held tells counts disks scenario whole left l placed fits in
          record {
            disk = c.disk;
            own = c.own;
            holds = subst (λ (past : CoordPast). Manager.Stands policy_is tells left.coordinator.manager c.disk (terms_of scenario) (global_program scenario) past) (sym told.coordinator_is)
                (subst (λ (b : Bool). IsCoordStanding (Manager.Stands policy_is tells left.coordinator.manager c.disk (terms_of scenario) (global_program scenario)) b (coord_plan scenario counts) (backs_of left.coordinator.ports.items) coordinator.turns)
                none.coordinator_runs held.standing);
          }

      -- what the hosts left is that of a world
      pub gathers_on : (lines : List Line) → lines ≡ lines_in merged → GathersOn tells disks cores lines channels scenario (commands_of (lines_in merged))
      gathers_on lines is = subst (λ (ls : List Line). GathersOn tells disks cores ls channels scenario (commands_of (lines_in merged))) (sym is)
          (subst (λ (cs : List Channel). GathersOn tells disks cores (lines_in merged) cs scenario (commands_of (lines_in merged))) (sym channels_are)
          (subst (λ (k : Cores). GathersOn tells disks k (lines_in merged) sorted.channels.items scenario (commands_of (lines_in merged))) (sym cores_are)
          (record {
            parts = record {
              scenario_is = refl;
              told = record { commands_are = refl; right = told.right };
              coordinator = coordinator_stands;
              all_cores = s.cores_count ∙ placed.count;
              all_marks = s.marks_count ∙ placed.count;
              all_channels = s.channels_count ∙ placed.count;
              each = gathered;
            };
            few = record { to = to_site_few; from = from_site_few };
            others = others_empty;
          })))

  -- ---- where a host failed

  module _ (number : ℕ) (lines : List Line) (lines_are : lines ≡ lines_in merged) where
    -- the coordinator's
    pub coordinator_broken : number ≡ 0 → left.coordinator.failed ≡ true → HasBroken counts disks scenario number lines
    coordinator_broken zero_is failed =
        let c = coord_at tells counts disks scenario whole left l placed fits in
        let held = coord_held tells counts disks scenario whole left l placed fits in
        record {
          coordinator = coordinator;
          logs = sites_logs;
          lists = sorted.lists.items;
          merged = merged;
          run = have_run;
          lines_are = lines_are;
          rose = subst (λ (n : ℕ). OnDisk disks n (λ disk. HasRisen (count_at counts n) disk.faults)) (sym zero_is)
              (record { disk = c.disk; own = c.own; holds = subst (λ (b : Bool). IsCounting b (count_at counts 0) c.disk.faults) failed held.faults });
          first = λ actor disk less at. absurd (omega (arith, less, zero_is));
        }

    -- that of a site
    pub site_broken : FailedAt number left.coordinator left.sites.items → HasBroken counts disks scenario number lines
    site_broken b = record {
      coordinator = coordinator;
      logs = sites_logs;
      lists = sorted.lists.items;
      merged = merged;
      run = have_run;
      lines_are = lines_are;
      rose = subst (λ (n : ℕ). OnDisk disks n (λ disk. HasRisen (count_at counts n) disk.faults)) (sym o.own_actor ∙ b.actor)
          (record {
            disk = o.disk;
            own = o.own;
            holds = subst (λ (n : ℕ). HasRisen n o.disk.faults) (ap (λ (p : SitePlan). p.faults) o.plan_is)
                (subst (λ (t : Bool). IsCounting t log.0.plan.faults o.disk.faults) b.failed o.faults);
          });
      first = λ actor disk less at. calm_at actor disk at (λ e. b.coordinator_runs) (λ place one here same. b.sites_run place one (sooner place one here (omega (arith, less, same))) here);
    }
      where
        log : (log : SiteLog) × (slice_get sites_logs b.place ≡ Some log)
        log = has_item sites_logs left.sites.items b.place b.left (logs_count tells counts disks scenario whole left l placed fits ∙ sym placed.count) b.at

        o : IsOwnLog tells counts disks scenario l.rings b.place b.left log.0
        o = own tells counts disks scenario whole left l placed fits b.place b.left log.0 b.at log.1

        -- a site of a lesser number stands before
        sooner : (place : ℕ) (one : SiteLeft) → slice_get left.sites.items place ≡ Some one → one.actor < number → place < b.place
        sooner place one here less = by_order (nat_lt place b.place) refl (nat_lt b.place place) refl
          where
            other : (site : SiteId) × (slice_get (sites scenario) place ≡ Some site)
            other = has_item (sites scenario) left.sites.items place one (sym placed.count) here

            by_order : (t : Bool) → nat_lt place b.place ≡ t → (u : Bool) → nat_lt b.place place ≡ u → place < b.place
            by_order true is u k = ltb-true place b.place is
            by_order false is true k =
                (let rises = rises_by_place (λ (z : SiteId). z.0) (sites scenario) b.place place o.site other.0 (declared_rise scenario whole) o.at other.1 (ltb-true b.place place k) in
                let mine = o.own_actor in
                let its = placed.actor place other.0 one other.1 here in
                let is_number = b.actor in
                absurd (omega (arith, rises, mine, its, is_number, less)))
            by_order false is false k =
                (let one_way = ltb-false place b.place is in
                let other_way = ltb-false b.place place k in
                let here_too : place ≡ b.place = omega (arith, one_way, other_way) in
                let same : one ≡ b.left = slice_get-one left.sites.items b.place one b.left (subst (λ (n : ℕ). slice_get left.sites.items n ≡ Some one) here_too here) b.at in
                let actors = ap (λ (z : SiteLeft). z.actor) same in
                let is_number = b.actor in
                absurd (omega (arith, actors, is_number, less)))
