-- Scripted stops are armed: in the lists of the hosts, and so in the merged lines.
use Rattle.std.proofs.Common.{◌≡◌, ℕ, zero, suc, ◌+◌, ◌<◌, Bool, true, false, cond, ◌&&◌, Option, Some, None, List, [], ◌∷◌, ◌++◌, length, map, reverse, slice_get, append_assoc, refl, sym, ap, ap₂, ◌∙◌, subst, inl, inr, arith}
use Rattle.std.specs.Prelude.{is_none, nat_lt}
use Rattle.std.proofs.lemmas.Bool.Decides.{eqb_tells}
use Rattle.std.proofs.lemmas.Bool.{eqb-true, lt-ltb}
use Rattle.std.proofs.lemmas.List.{append_cancel_right, length-map, length-reverse, map-append, reverse-append, reverse-reverse}
use Rattle.mdb_base.specs.declared.names.SiteId.{SiteId}
use Rattle.mdb_base.specs.Words.{how_many}
use Rattle.mdb_base.proofs.ForCallers.{append_none, each_at_place, reverse_more, slice_get-below, some_parts, those_pass}
use Rattle.order_laws.proofs.ForCallers.{map_reverse}
use Rattle.fed_rules.specs.declared.commands.Command.{Command}
use Rattle.fed_rules.specs.declared.commands.Command.TheVariants as Cmd
use Rattle.fed_rules.specs.declared.commands.Stamped.{Stamped}
use Rattle.fed_rules.specs.declared.messages.FromSite.{FromSite}
use Rattle.fed_rules.specs.declared.messages.ToSite.{ToSite}
use Rattle.fed_rules.specs.declared.scenario.Scenario.{Scenario}
use Rattle.fed_rules.specs.declared.scenario.StopLine.{StopLine}
use Rattle.fed_rules.specs.CoordPast as Coordinator
use Rattle.fed_rules.specs.Happenings.{Trip}
use Rattle.fed_rules.specs.Plans.{stops_actor}
use Rattle.fed_rules.specs.Scenarios.{home_of, sites}
use Rattle.fed_rules.specs.SitePast as Site
use Rattle.fed_rules.specs.SiteRecords.{Home}
use Rattle.fed_rules.specs.Story.{coord_past, past_of}
use Rattle.fed_messages.specs.declared.Envelope.{Envelope}
use Rattle.trace_merge.specs.Traces.{Entry, IsTrace, lines_of, list_of}
use Rattle.trace_merge.proofs.ForCallers.{list_splits}
use Rattle.world_laws.proofs.ForCallers.{homed}
use Rattle.host_laws.specs.CoordHistory.{IsCoordCommand, IsCoordHistory, IsCoordNext}
use Rattle.host_laws.specs.CoordPlans.{CoordPlan}
use Rattle.host_laws.specs.CoordTurns.{CoordTurn, coord_is_due, coord_past_of, coord_trips_of}
use Rattle.host_laws.specs.History.{IsCommand, IsHistory, IsNext}
use Rattle.host_laws.specs.Logs.{AreLists, AreLogs, CoordLog, Scripts, SiteLog}
use Rattle.host_laws.specs.Plans.{SitePlan, most_lines}
use Rattle.host_laws.specs.Stops.{AreSettled, ArmsFirst, StopsAreArmed, armed_in, stop_left, stops_of, story_to, trip_at}
use Rattle.host_laws.specs.Turns as Host
use Rattle.host_laws.specs.Turns.{SiteTurn, is_due, is_trip, trips_of}
use Rattle.host_laws.proofs.CarriedHosts.{host_at}
use Rattle.host_laws.proofs.Sides.{Sides, coord_behind, of_other, of_own, site_behind}
use Rattle.host_laws.proofs.Standing.{onto}
use Rattle.host_laws.proofs.Stories.{told_at}

-- Lists that are turned round.

module _ {T : Type 0} (line : T → Stamped) where
  -- where the lines of turns, the oldest first, are these and behind them those of the turns ahead, these are the lines of the turns that are done
  lines_done : (turns ahead done : List T) (first rest : List Stamped) → reverse (map line turns) ≡ first ++ rest → reverse ahead ++ done ≡ turns → map line ahead ≡ rest → first ≡ reverse (map line done)
  lines_done turns ahead done first rest lines split behind =
      append_cancel_right first (reverse (map line done)) rest
      (sym lines
      ∙ ap (λ (ts : List T). reverse (map line ts)) (sym split)
      ∙ ap reverse (map-append line (reverse ahead) done)
      ∙ reverse-append (map line (reverse ahead)) (map line done)
      ∙ ap (λ (xs : List Stamped). reverse (map line done) ++ xs) (ap reverse (map_reverse line ahead) ∙ reverse-reverse (map line ahead) ∙ behind))

  count_append : (test : Stamped → Bool) (xs ys : List Stamped) → how_many test (xs ++ ys) ≡ how_many test xs + how_many test ys
  count_append test [] ys = omega arith
  count_append test (x ∷ xs) ys = by_test (test x) (count_append test xs ys)
    where
      by_test : (b : Bool) → how_many test (xs ++ ys) ≡ how_many test xs + how_many test ys → cond b (suc (how_many test (xs ++ ys))) (how_many test (xs ++ ys)) ≡ cond b (suc (how_many test xs)) (how_many test xs) + how_many test ys
      by_test true e = omega (arith, e)
      by_test false e = e

  -- as many pass a test whichever way they stand
  count_turned : (test : Stamped → Bool) (turns : List T) → how_many test (reverse (map line turns)) ≡ how_many (λ turn. test (line turn)) turns
  count_turned test [] = refl
  count_turned test (t ∷ turns) = by_test (test (line t)) (ap (how_many test) (reverse_more (line t) (map line turns)) ∙ count_append test (reverse (map line turns)) (line t ∷ [])) (count_turned test turns)
    where
      by_test : (b : Bool) → how_many test (reverse (map line (t ∷ turns))) ≡ how_many test (reverse (map line turns)) + cond b 1 0 → how_many test (reverse (map line turns)) ≡ how_many (λ turn. test (line turn)) turns
          → how_many test (reverse (map line (t ∷ turns))) ≡ cond b (suc (how_many (λ turn. test (line turn)) turns)) (how_many (λ turn. test (line turn)) turns)
      by_test true e rest = omega (arith, e, rest)
      by_test false e rest = omega (arith, e, rest)

-- a stop of an actor is of that actor
stop_actor : (scenario : Scenario) (actor n : ℕ) (stop : StopLine) → slice_get (stops_of scenario actor) n ≡ Some stop → stop.actor ≡ actor
stop_actor scenario actor n stop e = eqb-true stop.actor actor (each_at_place (λ (line : StopLine). stops_actor actor line ≡ true) (stops_of scenario actor) n stop (those_pass (stops_actor actor) scenario.stops) e)

-- whether a stop is due
due_true : (o : Option Trip) (n m : ℕ) → o ≡ None → n < m → (is_none o && nat_lt n m) ≡ true
due_true None n m e less = lt-ltb n m less
due_true (Some trip) n m e less = cc

same_stop : (actor calls cut : ℕ) (stop : StopLine) (one other : ℕ) → record { actor = one; calls = calls; cut = cut } ≡ stop → stop.actor ≡ actor → Cmd.Trip one calls cut ≡ Cmd.Trip actor stop.calls stop.cut
same_stop actor calls cut stop one other e is = ap (λ (s : StopLine). Cmd.Trip s.actor s.calls s.cut) e ∙ ap (λ (a : ℕ). Cmd.Trip a stop.calls stop.cut) is

-- In the list of a site's host.

module _ (plan : SitePlan) (turns : List SiteTurn) (actor : ℕ) (stop : StopLine) (next : slice_get plan.stops (trips_of turns) ≡ Some stop) (own : stop.actor ≡ actor) where
  command_arms : (command : Command) (took : Option (Envelope ToSite)) → IsCommand plan turns command took → is_trip command ≡ true → command ≡ Cmd.Trip actor stop.calls stop.cut
  command_arms (Cmd.Trip of calls cut) took h is = same_stop actor calls cut stop of 0 (some_parts (sym h.0 ∙ next)) own
  command_arms command took h is = cc

site_due : (plan : SitePlan) (turn : SiteTurn) (turns : List SiteTurn) (stop : StopLine) → Site.trip (Host.past_of plan (turn ∷ turns)) ≡ None → slice_get plan.stops (trips_of (turn ∷ turns)) ≡ Some stop → is_due plan (turn ∷ turns) ≡ true
site_due plan turn turns stop none next = due_true (Site.trip (Host.past_of plan (turn ∷ turns))) (trips_of (turn ∷ turns)) (length plan.stops) none (slice_get-below plan.stops (trips_of (turn ∷ turns)) stop next)

-- where a stop is due behind the turns that are done, the first turn ahead arms it
site_arms : (plan : SitePlan) (ahead done : List SiteTurn) (actor : ℕ) (stop : StopLine) → IsHistory plan (reverse ahead ++ done) → is_due plan (reverse ahead ++ done) ≡ false → is_due plan done ≡ true
    → slice_get plan.stops (trips_of done) ≡ Some stop → stop.actor ≡ actor → ArmsFirst actor stop (map (λ (turn : SiteTurn). turn.line) ahead)
site_arms plan [] done actor stop h settled due next own = (let no : true ≡ false = sym due ∙ settled in cc)
site_arms plan (turn ∷ ahead) done actor stop h settled due next own =
    let is : IsNext plan done turn = (site_behind plan (reverse ahead) (turn ∷ done) (subst (IsHistory plan) (onto turn ahead done) h)).0 in
    record { line = turn.line; first = refl; arms = command_arms plan done actor stop next own turn.line.line.command turn.took is.command (is.arms ∙ due) }

-- In the list of the coordinator's.

module _ (plan : CoordPlan) (turns : List CoordTurn) (actor : ℕ) (stop : StopLine) (next : slice_get plan.stops (coord_trips_of turns) ≡ Some stop) (own : stop.actor ≡ actor) where
  coord_command_arms : (command : Command) (took : Option (Envelope FromSite)) → IsCoordCommand plan turns command took → is_trip command ≡ true → command ≡ Cmd.Trip actor stop.calls stop.cut
  coord_command_arms (Cmd.Trip of calls cut) took h is = same_stop actor calls cut stop of 0 (some_parts (sym h.0 ∙ next)) own
  coord_command_arms command took h is = cc

coord_due : (plan : CoordPlan) (turn : CoordTurn) (turns : List CoordTurn) (stop : StopLine) → Coordinator.trip (coord_past_of plan (turn ∷ turns)) ≡ None → slice_get plan.stops (coord_trips_of (turn ∷ turns)) ≡ Some stop → coord_is_due plan (turn ∷ turns) ≡ true
coord_due plan turn turns stop none next = due_true (Coordinator.trip (coord_past_of plan (turn ∷ turns))) (coord_trips_of (turn ∷ turns)) (length plan.stops) none (slice_get-below plan.stops (coord_trips_of (turn ∷ turns)) stop next)

coord_arms : (plan : CoordPlan) (ahead done : List CoordTurn) (actor : ℕ) (stop : StopLine) → IsCoordHistory plan (reverse ahead ++ done) → coord_is_due plan (reverse ahead ++ done) ≡ false → coord_is_due plan done ≡ true
    → slice_get plan.stops (coord_trips_of done) ≡ Some stop → stop.actor ≡ actor → ArmsFirst actor stop (map (λ (turn : CoordTurn). turn.line) ahead)
coord_arms plan [] done actor stop h settled due next own = (let no : true ≡ false = sym due ∙ settled in cc)
coord_arms plan (turn ∷ ahead) done actor stop h settled due next own =
    let is : IsCoordNext plan done turn = (coord_behind plan (reverse ahead) (turn ∷ done) (subst (IsCoordHistory plan) (onto turn ahead done) h)).0 in
    record { line = turn.line; first = refl; arms = coord_command_arms plan done actor stop next own turn.line.line.command turn.took is.command (is.arms ∙ due) }

-- In the merged lines.

-- an entry's line is among its actor's
line_there : (before : List Entry) (entry : Entry) → lines_of entry.actor (before ++ entry ∷ []) ≡ [] → ⊥
line_there [] entry e = (let own = sym (of_own entry.actor entry [] refl) ∙ e in cc)
line_there (first ∷ before) entry e = elim (eqb_tells first.actor entry.actor) [
  | inl (is, same) ↦ let own = sym (of_own entry.actor first (before ++ entry ∷ []) same) ∙ e in cc
  | inr (isnt, apart) ↦ line_there before entry (sym (of_other entry.actor first (before ++ entry ∷ []) apart) ∙ e)
]

module _ (scripts : Scripts) (scenario : Scenario) (coordinator : CoordLog) (logs : List SiteLog) (lists : List (List Stamped)) (merged : List Stamped) (are : AreLogs scripts scenario coordinator logs)
    (has : AreLists scenario coordinator logs lists) (trace : IsTrace lists merged) (settled : AreSettled coordinator logs) (before behind : List Entry) (entry : Entry) (stop : StopLine)
    (split : trace.entries ≡ before ++ entry ∷ behind) where
  -- the lines up to the one that is taken
  abbrev so_far : List Entry
  so_far = before ++ entry ∷ []

  list_is : (actor : ℕ) → list_of lists actor ≡ lines_of actor so_far ++ lines_of actor behind
  list_is actor = list_splits lists merged trace so_far behind actor (split ∙ sym (append_assoc before (entry ∷ []) behind))

  some_line : (actor : ℕ) → entry.actor ≡ actor → lines_of actor so_far ≡ [] → ⊥
  some_line actor own e = line_there before entry (ap (λ (n : ℕ). lines_of n so_far) own ∙ e)

  coord_case : (ahead done : List CoordTurn) → entry.actor ≡ 0 → reverse ahead ++ done ≡ coordinator.turns → map (λ (turn : CoordTurn). turn.line) ahead ≡ lines_of 0 behind → coord_past (story_to scenario so_far) ≡ coord_past_of coordinator.plan done
      → Coordinator.trip (coord_past (story_to scenario so_far)) ≡ None → stop_left scenario 0 so_far ≡ Some stop → length (list_of lists 0) < most_lines → ArmsFirst 0 stop (lines_of 0 behind)
  coord_case ahead done own parts rest past none left few = by_done done refl
    where
      first : lines_of 0 so_far ≡ reverse (map (λ (turn : CoordTurn). turn.line) done)
      first = lines_done (λ (turn : CoordTurn). turn.line) coordinator.turns ahead done (lines_of 0 so_far) (lines_of 0 behind) (sym has.coordinator_is ∙ list_is 0) parts rest

      short : length coordinator.turns < most_lines
      short =
          let list = ap length has.coordinator_is in
          let turned = length-reverse (map (λ (turn : CoordTurn). turn.line) coordinator.turns) in
          let mapped = length-map coordinator.turns (λ (turn : CoordTurn). turn.line) in
          omega (arith, few, list, turned, mapped)

      next : slice_get coordinator.plan.stops (coord_trips_of done) ≡ Some stop
      next =
          ap₂ (λ (lines : List StopLine) (n : ℕ). slice_get lines n) are.coordinator_is.stops
          (sym (count_turned (λ (turn : CoordTurn). turn.line) (λ line. is_trip line.line.command) done) ∙ ap (how_many (λ (line : Stamped). is_trip line.line.command)) (sym first))
          ∙ left

      armed : coord_is_due coordinator.plan done ≡ true → ArmsFirst 0 stop (lines_of 0 behind)
      armed due =
          subst (ArmsFirst 0 stop) rest
          (coord_arms coordinator.plan ahead done 0 stop (subst (IsCoordHistory coordinator.plan) (sym parts) are.coordinator_is.right) (ap (coord_is_due coordinator.plan) parts ∙ settled.coordinator_is short) due next
          (stop_actor scenario 0 (armed_in 0 so_far) stop left))

      by_done : (turns : List CoordTurn) → done ≡ turns → ArmsFirst 0 stop (lines_of 0 behind)
      by_done [] e = absurd (some_line 0 own (first ∙ ap (λ (ts : List CoordTurn). reverse (map (λ (turn : CoordTurn). turn.line) ts)) e))
      by_done (turn ∷ turns) e =
          armed
          (ap (coord_is_due coordinator.plan) e
          ∙ coord_due coordinator.plan turn turns stop (ap (λ (ts : List CoordTurn). Coordinator.trip (coord_past_of coordinator.plan ts)) (sym e) ∙ ap Coordinator.trip (sym past) ∙ none)
          (ap (λ (ts : List CoordTurn). slice_get coordinator.plan.stops (coord_trips_of ts)) (sym e) ∙ next))

  site_case : (place : ℕ) (site : SiteId) (log : SiteLog) → slice_get (sites scenario) place ≡ Some site → slice_get logs place ≡ Some log → (ahead done : List SiteTurn) → entry.actor ≡ site.0 → reverse ahead ++ done ≡ log.turns
      → map (λ (turn : SiteTurn). turn.line) ahead ≡ lines_of site.0 behind → past_of site (story_to scenario so_far) ≡ Host.past_of log.plan done
      → Site.trip (past_of site (story_to scenario so_far)) ≡ None → stop_left scenario site.0 so_far ≡ Some stop → length (list_of lists site.0) < most_lines → ArmsFirst site.0 stop (lines_of site.0 behind)
  site_case place site log at there ahead done own parts rest past none left few = by_done done refl
    where
      first : lines_of site.0 so_far ≡ reverse (map (λ (turn : SiteTurn). turn.line) done)
      first = lines_done (λ (turn : SiteTurn). turn.line) log.turns ahead done (lines_of site.0 so_far) (lines_of site.0 behind) (sym (has.site_is place site log at there) ∙ list_is site.0) parts rest

      short : length log.turns < most_lines
      short =
          let list = ap length (has.site_is place site log at there) in
          let turned = length-reverse (map (λ (turn : SiteTurn). turn.line) log.turns) in
          let mapped = length-map log.turns (λ (turn : SiteTurn). turn.line) in
          omega (arith, few, list, turned, mapped)

      next : slice_get log.plan.stops (trips_of done) ≡ Some stop
      next =
          ap₂ (λ (lines : List StopLine) (n : ℕ). slice_get lines n) (are.site_is place site log at there).stops
          (sym (count_turned (λ (turn : SiteTurn). turn.line) (λ line. is_trip line.line.command) done) ∙ ap (how_many (λ (line : Stamped). is_trip line.line.command)) (sym first))
          ∙ left

      armed : is_due log.plan done ≡ true → ArmsFirst site.0 stop (lines_of site.0 behind)
      armed due =
          subst (ArmsFirst site.0 stop) rest
          (site_arms log.plan ahead done site.0 stop (subst (IsHistory log.plan) (sym parts) (are.site_is place site log at there).right) (ap (is_due log.plan) parts ∙ settled.each place log there short) due next
          (stop_actor scenario site.0 (armed_in site.0 so_far) stop left))

      by_done : (turns : List SiteTurn) → done ≡ turns → ArmsFirst site.0 stop (lines_of site.0 behind)
      by_done [] e = absurd (some_line site.0 own (first ∙ ap (λ (ts : List SiteTurn). reverse (map (λ (turn : SiteTurn). turn.line) ts)) e))
      by_done (turn ∷ turns) e =
          armed
          (ap (is_due log.plan) e
          ∙ site_due log.plan turn turns stop (ap (λ (ts : List SiteTurn). Site.trip (Host.past_of log.plan ts)) (sym e) ∙ ap Site.trip (sym past) ∙ none)
          (ap (λ (ts : List SiteTurn). slice_get log.plan.stops (trips_of ts)) (sym e) ∙ next))

  by_actor : Sides scenario coordinator logs (reverse (map (λ (e : Entry). e.line.line) so_far)) behind → (actor : ℕ) → entry.actor ≡ actor → trip_at actor (story_to scenario so_far) ≡ None → stop_left scenario actor so_far ≡ Some stop
      → length (list_of lists actor) < most_lines → ArmsFirst actor stop (lines_of actor behind)
  by_actor told zero own none left few = let s = told.own in coord_case s.ahead s.done own s.split s.lines s.past none left few
  by_actor told (suc n) own none left few = by_home (home_of scenario site) refl
    where
      site : SiteId
      site = record { 0 = suc n }

      by_home : (o : Option Home) → home_of scenario site ≡ o → ArmsFirst (suc n) stop (lines_of (suc n) behind)
      by_home None e = absurd (some_line (suc n) own (append_none (lines_of (suc n) so_far) (lines_of (suc n) behind) (sym (list_is (suc n)) ∙ has.others (suc n) (omega arith) e)).0)
      by_home (Some home) e =
          let host = host_at are site (homed scenario.sites scenario.items site home e) in
          let s = told.each host.place site host.log host.at host.there in
          site_case host.place site host.log host.at host.there s.ahead s.done own s.split s.lines s.past none left few

pub stops_armed : StopsAreArmed
stops_armed scripts scenario coordinator logs lists merged are has trace short settled before behind entry stop split none left few =
    by_actor scripts scenario coordinator logs lists merged are has trace settled before behind entry stop split
    (told_at scripts scenario coordinator logs lists merged are has trace short (before ++ entry ∷ []) behind (split ∙ sym (append_assoc before (entry ∷ []) behind))) entry.actor refl none left few
