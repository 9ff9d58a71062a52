-- The lines of all hosts told one after another: each is right, and the story goes on as its host did.
use Rattle.std.proofs.Common.{◌≡◌, ℕ, zero, suc, ◌≤◌, inl, inr, Bool, true, false, cond, nat_eq, Option, Some, None, List, [], ◌∷◌, ◌++◌, map, reverse, slice_get, refl, sym, ap, ap₂, ◌∙◌, subst, arith}
use Rattle.std.proofs.lemmas.Bool.{ne_eqb}
use Rattle.std.proofs.lemmas.Bool.Decides.{eqb_tells}
use Rattle.std.proofs.lemmas.List.{append-nil}
use Rattle.mdb_base.specs.declared.names.SiteId.{SiteId}
use Rattle.mdb_base.specs.Names.{same_site}
use Rattle.mdb_base.specs.Words.{Each}
use Rattle.mdb_base.proofs.ForCallers.{some_parts}
use Rattle.order_laws.specs.Chains.{In}
use Rattle.order_laws.proofs.ForCallers.{map_reverse, slice_get-in}
use Rattle.fed_rules.specs.declared.commands.Line.{Line}
use Rattle.fed_rules.specs.declared.commands.Stamped.{Stamped}
use Rattle.fed_rules.specs.declared.scenario.Scenario.{Scenario}
use Rattle.fed_rules.specs.declared.scenario.StopLine.{StopLine}
use Rattle.fed_rules.specs.Right.{IsNext, IsRightStory, story_told}
use Rattle.fed_rules.specs.Scenarios.{global_program, home_of, policy, protocols, sites}
use Rattle.fed_rules.specs.SiteRecords.{Home}
use Rattle.fed_rules.specs.Story as Told
use Rattle.fed_rules.specs.Story.{coord_past}
use Rattle.fed_rules.proofs.ForCallers.{home-again, its-site}
use Rattle.world_laws.proofs.ForCallers.{homed}
use Rattle.fed_rules.specs.Terms.{Terms}
use Rattle.fed_rules.specs.OwnPrograms.{OwnPrograms, own_programs}
use Rattle.coord_tables.specs.Terms.{Terms}
use Rattle.fed_messages.specs.declared.Packet.{Packet}
use Rattle.trace_merge.specs.Traces.{Entry, IsOrdered, IsTrace, list_of, lines_of}
use Rattle.host_laws.specs.CoordHistory.{IsCoordHistory}
use Rattle.host_laws.specs.CoordPlans.{CoordPlan}
use Rattle.host_laws.specs.CoordTurns.{CoordTurn, coord_past_of, sent_to}
use Rattle.host_laws.specs.History.{IsHistory}
use Rattle.host_laws.specs.Logs.{AreLists, AreLogs, CoordLog, IsSiteLog, Scripts, SiteLog}
use Rattle.host_laws.specs.Merged.{AreShort, MergedLinesAreRight, TellsLogs, lines_in}
use Rattle.host_laws.specs.Turns as Site
use Rattle.host_laws.specs.Turns.{SiteTurn, sent_by}
use Rattle.host_laws.proofs.AtCoordinator.{plan_in}
use Rattle.host_laws.proofs.AtSite.{WasGiven}
use Rattle.host_laws.proofs.CoordMoves.{CoordMoves, coord_moves}
use Rattle.host_laws.proofs.DeclaredSites.{beside, declared_least, place_of, site_place}
use Rattle.host_laws.proofs.Sides.{CoordSide, Sides, SiteSide, coord_behind, of_other, of_own, own_stops, site_behind}
use Rattle.host_laws.proofs.SiteMoves.{SiteMoves, site_moves}
use Rattle.host_laws.proofs.Standing.{IsFirst, all_ahead, first_ahead, goes_on, none_ahead, onto}
use Rattle.host_laws.proofs.Taken.{coord_takes, site_takes}

-- an actor that is no declared site has no line behind
abbrev pub NoStrangers : Scenario → List Entry → Type 0
NoStrangers scenario behind = (actor : ℕ) → 1 ≤ actor → home_of scenario (record { 0 = actor }) ≡ None → lines_of actor behind ≡ []

-- the next line told
pub record Step (scenario : Scenario) (coordinator : CoordLog) (logs : List SiteLog) (told : List Line) (line : Line) (rest : List Entry) : Type 0 where
  pub next : IsNext scenario (story_told scenario told) line
  pub sides : Sides scenario coordinator logs (line ∷ told) rest

-- all lines told
pub record AllTold (scenario : Scenario) (coordinator : CoordLog) (logs : List SiteLog) (told : List Line) : Type 0 where
  pub right : IsRightStory scenario told
  pub sides : Sides scenario coordinator logs told []

abbrev line_in : Entry → Line
line_in e = e.line.line

module _ (scripts : Scripts) (scenario : Scenario) (stops : List StopLine) (faults : ℕ) (turns : List CoordTurn) (tooks : List (List Packet)) (logs : List SiteLog) where
  abbrev coordinator : CoordLog
  coordinator = record { plan = plan_in scenario stops faults; turns = turns; tooks = tooks }

  module _ (are : AreLogs scripts scenario coordinator logs) (short : AreShort coordinator logs) where
    least : (place : ℕ) (site : SiteId) → slice_get (sites scenario) place ≡ Some site → 1 ≤ site.0
    least place site at = declared_least scenario site are.whole (slice_get-in (sites scenario) place site at)

    module _ (told : List Line) (e : Entry) (rest : List Entry) (ordered : IsOrdered (e ∷ rest)) (sides : Sides scenario coordinator logs told (e ∷ rest)) where
      -- a line of the coordinator
      coord_step : e.actor ≡ 0 → Step scenario coordinator logs told (line_in e) rest
      coord_step own_is = record {
        next = moves.next;
        sides = record {
          own = record { ahead = first.rest; done = first.turn ∷ own.done; split = split; lines = first.lines_are; past = moves.past };
          each = λ place site log at log_at.
              let side = sides.each place site log at log_at in
              let least_is = least place site at in
              record {
                ahead = side.ahead;
                done = side.done;
                split = side.split;
                lines = side.lines ∙ of_other site.0 e rest (λ same. omega (arith, same, own_is, least_is));
                past = moves.stays site ∙ side.past;
                to = moves.to site side.to;
                from = moves.from site ∙ side.from;
              };
        };
      }
        where
          own : CoordSide coordinator.plan turns (story_told scenario told) (e ∷ rest)
          own = sides.own

          first : IsFirst (λ (t : CoordTurn). t.line) own.ahead e.line (lines_of 0 rest)
          first = first_ahead (λ (t : CoordTurn). t.line) own.ahead e.line (lines_of 0 rest) (own.lines ∙ of_own 0 e rest own_is)

          split : reverse first.rest ++ first.turn ∷ own.done ≡ turns
          split = goes_on own.ahead own.done turns first.rest first.turn own.split first.is

          right : IsCoordHistory coordinator.plan (first.turn ∷ own.done)
          right = coord_behind coordinator.plan (reverse first.rest) (first.turn ∷ own.done) (subst (IsCoordHistory coordinator.plan) (sym split) are.coordinator_is.right)

          declared_sent : (site : SiteId) → In site (sites scenario) → Told.sent_to site (story_told scenario told) ≡ sent_to coordinator.plan site own.done
          declared_sent site i =
              let p = place_of site (sites scenario) i in
              let log = beside (sites scenario) logs p.0 site are.count p.1 in
              (sides.each p.0 site log.0 p.1 log.1).to

          moves : CoordMoves scenario coordinator.plan told own.done first.turn (line_in e)
          moves = subst (λ (x : Stamped). CoordMoves scenario coordinator.plan told own.done first.turn x.line) first.line_is
              (coord_moves scenario are.whole stops (own_stops 0 stops scenario.stops are.coordinator_is.stops) faults told own.done first.turn own.past right.0
              (coord_takes scripts scenario coordinator logs are short told e rest ordered sides first.turn first.rest own.done split first.line_is right.0) declared_sent)

      -- a line of a declared site
      site_step : (place : ℕ) (site : SiteId) (log : SiteLog) → slice_get (sites scenario) place ≡ Some site → slice_get logs place ≡ Some log → e.actor ≡ site.0 → Step scenario coordinator logs told (line_in e) rest
      site_step place site log at log_at actor_is = record {
        next = moves.next;
        sides = record {
          own = record {
            ahead = own.ahead;
            done = own.done;
            split = own.split;
            lines = own.lines ∙ of_other 0 e rest (λ same. omega (arith, same, actor_is, least_is));
            past = moves.coordinator ∙ own.past;
          };
          each = λ p other other_log other_at other_log_at. elim (eqb_tells p place) [
            | inl (is, same) ↦
                let site_same : site ≡ other = some_parts (sym at ∙ ap (slice_get (sites scenario)) (sym same) ∙ other_at) in
                let log_same : log ≡ other_log = some_parts (sym log_at ∙ ap (slice_get logs) (sym same) ∙ other_log_at) in
                subst (λ (s : SiteId). SiteSide coordinator.plan own.done s other_log (story_told scenario (line_in e ∷ told)) rest) site_same
                (subst (λ (l : SiteLog). SiteSide coordinator.plan own.done site l (story_told scenario (line_in e ∷ told)) rest) log_same moved)
            | inr (isnt, ne) ↦
                let apart : site.0 ≡ other.0 → ⊥ = λ same. ne (sym (site_place scenario place p site other are.whole at other_at same)) in
                let unlike : same_site site other ≡ false = ne_eqb site.0 other.0 apart in
                let theirs = sides.each p other other_log other_at other_log_at in
                record {
                  ahead = theirs.ahead;
                  done = theirs.done;
                  split = theirs.split;
                  lines = theirs.lines ∙ of_other other.0 e rest (λ same. apart (sym actor_is ∙ same));
                  past = moves.others_past other unlike ∙ theirs.past;
                  to = moves.to other ∙ theirs.to;
                  from = moves.others_from other unlike ∙ theirs.from;
                }
          ];
        };
      }
        where
          own : CoordSide coordinator.plan turns (story_told scenario told) (e ∷ rest)
          own = sides.own

          side : SiteSide coordinator.plan own.done site log (story_told scenario told) (e ∷ rest)
          side = sides.each place site log at log_at

          it : IsSiteLog scenario site log
          it = are.site_is place site log at log_at

          least_is : 1 ≤ site.0
          least_is = least place site at

          first : IsFirst (λ (t : SiteTurn). t.line) side.ahead e.line (lines_of site.0 rest)
          first = first_ahead (λ (t : SiteTurn). t.line) side.ahead e.line (lines_of site.0 rest) (side.lines ∙ of_own site.0 e rest actor_is)

          split : reverse first.rest ++ first.turn ∷ side.done ≡ log.turns
          split = goes_on side.ahead side.done log.turns first.rest first.turn side.split first.is

          right : IsHistory log.plan (first.turn ∷ side.done)
          right = site_behind log.plan (reverse first.rest) (first.turn ∷ side.done) (subst (IsHistory log.plan) (sym split) it.right)

          own_site : log.plan.home.site ≡ site
          own_site = its-site scenario site log.plan.home it.home

          moved_at : (s : SiteId) → log.plan.home.site ≡ s → Told.past_of s (story_told scenario told) ≡ Site.past_of log.plan side.done → Told.sent_from s (story_told scenario told) ≡ sent_by log.plan side.done
              → WasGiven (story_told scenario told) s first.turn.line.line.command first.turn.took → 1 ≤ s.0 → log.plan.programs ≡ own_programs s scenario.transactions → Each (λ (stop : StopLine). stop.actor ≡ s.0) log.plan.stops
              → SiteMoves scenario log.plan s told side.done first.turn first.turn.line.line
          moved_at s same past from given at_least programs own_lines =
              subst (λ (z : SiteId). SiteMoves scenario log.plan z told side.done first.turn first.turn.line.line) same
              (site_moves scenario log.plan (home-again scenario site log.plan.home it.home) (subst (λ (z : SiteId). 1 ≤ z.0) (sym same) at_least)
              (subst (λ (z : SiteId). log.plan.programs ≡ own_programs z scenario.transactions) (sym same) programs)
              (subst (λ (z : SiteId). Each (λ (stop : StopLine). stop.actor ≡ z.0) log.plan.stops) (sym same) own_lines) told side.done first.turn
              (subst (λ (z : SiteId). Told.past_of z (story_told scenario told) ≡ Site.past_of log.plan side.done) (sym same) past)
              (subst (λ (z : SiteId). Told.sent_from z (story_told scenario told) ≡ sent_by log.plan side.done) (sym same) from) right.0
              (subst (λ (z : SiteId). WasGiven (story_told scenario told) z first.turn.line.line.command first.turn.took) (sym same) given))

          moves : SiteMoves scenario log.plan site told side.done first.turn (line_in e)
          moves = subst (λ (x : Stamped). SiteMoves scenario log.plan site told side.done first.turn x.line) first.line_is
              (moved_at site own_site side.past side.from (site_takes scripts scenario coordinator logs are short told e rest ordered sides place site log at log_at first.turn first.rest side.done split first.line_is right.0)
              least_is it.programs (own_stops site.0 log.plan.stops scenario.stops it.stops))

          moved : SiteSide coordinator.plan own.done site log (story_told scenario (line_in e ∷ told)) rest
          moved = record {
            ahead = first.rest;
            done = first.turn ∷ side.done;
            split = split;
            lines = first.lines_are;
            past = moves.past;
            to = moves.to site ∙ side.to;
            from = moves.from;
          }

      -- whoever made the line
      step : NoStrangers scenario (e ∷ rest) → Step scenario coordinator logs told (line_in e) rest
      step known = by_actor e.actor refl
        where
          by_home : (n : ℕ) → e.actor ≡ suc n → (o : Option Home) → home_of scenario (record { 0 = suc n }) ≡ o → Step scenario coordinator logs told (line_in e) rest
          by_home n is None none = (let empty : e.line ∷ lines_of (suc n) rest ≡ [] = sym (of_own (suc n) e rest is) ∙ known (suc n) (omega arith) none in cc)
          by_home n is (Some home) found =
              (let site : SiteId = record { 0 = suc n } in
              let p = place_of site (sites scenario) (homed scenario.sites scenario.items site home found) in
              let log = beside (sites scenario) logs p.0 site are.count p.1 in
              site_step p.0 site log.0 p.1 log.1 is)

          by_actor : (n : ℕ) → e.actor ≡ n → Step scenario coordinator logs told (line_in e) rest
          by_actor zero is = coord_step is
          by_actor (suc n) is = by_home n is (home_of scenario (record { 0 = suc n })) refl

    still_known : (e : Entry) (rest : List Entry) → NoStrangers scenario (e ∷ rest) → NoStrangers scenario rest
    still_known e rest known actor most none = by_test (nat_eq e.actor actor) (known actor most none)
      where
        by_test : (b : Bool) → cond b (e.line ∷ lines_of actor rest) (lines_of actor rest) ≡ [] → lines_of actor rest ≡ []
        by_test true e = cc
        by_test false e = e

    -- one line after another
    pub all_told : (behind : List Entry) (told all : List Line) → IsOrdered behind → NoStrangers scenario behind → IsRightStory scenario told → Sides scenario coordinator logs told behind
        → reverse (map line_in behind) ++ told ≡ all → AllTold scenario coordinator logs all
    all_told [] told all ordered known right sides is = subst (AllTold scenario coordinator logs) is (record { right = right; sides = sides })
    all_told (e ∷ rest) told all ordered known right sides is =
        let s = step told e rest ordered sides known in
        all_told rest (line_in e ∷ told) all ordered.1 (still_known e rest known) (right, s.next) s.sides (sym (onto (line_in e) (map line_in rest) told) ∙ is)

    -- so the story goes along with the hosts at each place between the lines
    some_told : (before behind : List Entry) (told : List Line) → IsOrdered (before ++ behind) → NoStrangers scenario (before ++ behind) → Sides scenario coordinator logs told (before ++ behind)
        → Sides scenario coordinator logs (reverse (map line_in before) ++ told) behind
    some_told [] behind told ordered known sides = sides
    some_told (e ∷ before) behind told ordered known sides =
        let s = step told e (before ++ behind) ordered sides known in
        subst (λ (ls : List Line). Sides scenario coordinator logs ls behind) (sym (onto (line_in e) (map line_in before) told))
        (some_told before behind (line_in e ∷ told) ordered.1 (still_known e (before ++ behind) known) s.sides)

    -- before the first line
    begins : (lists : List (List Stamped)) (entries : List Entry) → AreLists scenario coordinator logs lists → ((actor : ℕ) → lines_of actor entries ≡ list_of lists actor) → Sides scenario coordinator logs [] entries
    begins lists entries listed each_list = record {
      own = record {
        ahead = reverse turns;
        done = [];
        split = all_ahead turns;
        lines = map_reverse (λ (t : CoordTurn). t.line) turns ∙ sym listed.coordinator_is ∙ sym (each_list 0);
        past = refl;
      };
      each = λ place site log at log_at. record {
        ahead = reverse log.turns;
        done = [];
        split = all_ahead log.turns;
        lines = map_reverse (λ (t : SiteTurn). t.line) log.turns ∙ sym (listed.site_is place site log at log_at) ∙ sym (each_list site.0);
        past = refl;
        to = refl;
        from = refl;
      };
    }

    -- what is told behind the last line
    ends : (lines : List Line) → AllTold scenario coordinator logs (reverse lines) → TellsLogs scenario coordinator logs lines
    ends lines t = record {
      right = t.right;
      coordinator_is = t.sides.own.past ∙ ap (coord_past_of coordinator.plan) coord_done;
      each = λ place site log at log_at.
          let side = t.sides.each place site log at log_at in
          let done : side.done ≡ log.turns = ap (λ (ts : List SiteTurn). reverse ts ++ side.done) (sym (none_ahead (λ (x : SiteTurn). x.line) side.ahead side.lines)) ∙ side.split in
          record {
            past = side.past ∙ ap (Site.past_of log.plan) done;
            to = side.to ∙ ap (sent_to coordinator.plan site) coord_done;
            from = side.from ∙ ap (sent_by log.plan) done;
          };
    }
      where
        coord_done : t.sides.own.done ≡ turns
        coord_done = ap (λ (ts : List CoordTurn). reverse ts ++ t.sides.own.done) (sym (none_ahead (λ (x : CoordTurn). x.line) t.sides.own.ahead t.sides.own.lines)) ∙ t.sides.own.split

    lines_joined : (entries : List Entry) → map (λ (s : Stamped). s.line) (map (λ (e : Entry). e.line) entries) ≡ map line_in entries
    lines_joined [] = refl
    lines_joined (e ∷ es) = ap (λ (ls : List Line). line_in e ∷ ls) (lines_joined es)

    pub hosts_tell : (lists : List (List Stamped)) (merged : List Stamped) → AreLists scenario coordinator logs lists → IsTrace lists merged → TellsLogs scenario coordinator logs (lines_in merged)
    hosts_tell lists merged listed trace =
        ends (lines_in merged) (all_told trace.entries [] (reverse (lines_in merged)) trace.ordered (λ actor most none. trace.each_list actor ∙ listed.others actor most none) tt
        (begins lists trace.entries listed trace.each_list)
        (append-nil (reverse (map line_in trace.entries)) ∙ sym (ap (λ (ls : List Line). reverse ls) (ap (λ (ss : List Stamped). map (λ (s : Stamped). s.line) ss) trace.lines ∙ lines_joined trace.entries))))

    pub sides_at : (lists : List (List Stamped)) (merged : List Stamped) → AreLists scenario coordinator logs lists → (trace : IsTrace lists merged) → (before behind : List Entry) → trace.entries ≡ before ++ behind
        → Sides scenario coordinator logs (reverse (map line_in before)) behind
    sides_at lists merged listed trace before behind split =
        subst (λ (ls : List Line). Sides scenario coordinator logs ls behind) (append-nil (reverse (map line_in before)))
        (some_told before behind [] (subst IsOrdered split trace.ordered)
        (λ actor most none. ap (lines_of actor) (sym split) ∙ trace.each_list actor ∙ listed.others actor most none)
        (subst (Sides scenario coordinator logs []) split (begins lists trace.entries listed trace.each_list)))

-- the plan of the coordinator's host is one of the scenario
plan_is : (scenario : Scenario) (plan : CoordPlan) → plan.terms ≡ record { protocols = protocols scenario; policy = policy scenario } → plan.programs ≡ global_program scenario → plan ≡ plan_in scenario plan.stops plan.faults
plan_is scenario plan terms programs = ap₂ (λ (t : Terms) (p : OwnPrograms). let made : CoordPlan = record { terms = t; programs = p; stops = plan.stops; faults = plan.faults } in made) terms programs

pub merged_are_right : MergedLinesAreRight
merged_are_right scripts scenario coordinator logs lists merged are listed trace short =
    subst (λ (plan : CoordPlan). AreLogs scripts scenario (log_of plan) logs → AreLists scenario (log_of plan) logs lists → TellsLogs scenario (log_of plan) logs (lines_in merged))
    (sym (plan_is scenario coordinator.plan are.coordinator_is.terms are.coordinator_is.programs))
    (λ kept made. hosts_tell scripts scenario coordinator.plan.stops coordinator.plan.faults coordinator.turns coordinator.tooks logs kept short lists merged made trace) are listed
  where
    log_of : CoordPlan → CoordLog
    log_of plan = record { plan = plan; turns = coordinator.turns; tooks = coordinator.tooks }

-- at each place of the trace the story of the lines before it tells what the hosts had done
pub told_at : (scripts : Scripts) (scenario : Scenario) (coordinator : CoordLog) (logs : List SiteLog) (lists : List (List Stamped)) (merged : List Stamped) → AreLogs scripts scenario coordinator logs
    → AreLists scenario coordinator logs lists → (trace : IsTrace lists merged) → AreShort coordinator logs → (before behind : List Entry) → trace.entries ≡ before ++ behind
    → Sides scenario coordinator logs (reverse (map line_in before)) behind
told_at scripts scenario coordinator logs lists merged are listed trace short before behind split =
    subst (λ (plan : CoordPlan). AreLogs scripts scenario (log_of plan) logs → AreLists scenario (log_of plan) logs lists → Sides scenario (log_of plan) logs (reverse (map line_in before)) behind)
    (sym (plan_is scenario coordinator.plan are.coordinator_is.terms are.coordinator_is.programs))
    (λ kept made. sides_at scripts scenario coordinator.plan.stops coordinator.plan.faults coordinator.turns coordinator.tooks logs kept short lists merged made trace before behind split) are listed
  where
    log_of : CoordPlan → CoordLog
    log_of plan = record { plan = plan; turns = coordinator.turns; tooks = coordinator.tooks }
