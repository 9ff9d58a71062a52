-- The arming of a stop behind the lines, where one has to be armed.
use Rattle.std.proofs.Common.{◌≡◌, ℕ, suc, ◌≤◌, ◌<◌, Bool, true, false, cond, is_some, Some, None, List, [], ◌∷◌, length, slice_get, append-nil, refl, sym, ap, ◌∙◌, subst, arith}
use Rattle.mdb_base.specs.Words.{Each}
use Rattle.mdb_base.proofs.ForCallers.{each_at_place}
use Rattle.fed_rules.specs.declared.answers.Answer.{Answer}
use Rattle.fed_rules.specs.declared.answers.Answer.TheVariants as Say
use Rattle.fed_rules.specs.declared.commands.Command.TheVariants as Cmd
use Rattle.fed_rules.specs.declared.commands.Stamped.{Stamped}
use Rattle.fed_rules.specs.declared.events.SiteEvent.TheVariants as Ev
use Rattle.fed_rules.specs.declared.scenario.StopLine.{StopLine}
use Rattle.fed_rules.specs.Requests.{Submits}
use Rattle.fed_rules.specs.Runs.{Start, EngineLine}
use Rattle.fed_rules.specs.Site.{site_line}
use Rattle.fed_rules.specs.SitePast.{SiteHappening, attempts_of, begins_tx, trip}
use Rattle.journal_disk.specs.Disk.{Seen}
use Rattle.site_core.proofs.ForCallers.{trip_is}
use Rattle.local_dbms.specs.declared.dbms.LocalDbms.{LocalDbms}
use Rattle.local_dbms.specs.Stands.{Serves, Stands}
use Rattle.scripted_link.specs.declared.outlet.Outlet.{Outlet}
use Rattle.scripted_link.specs.Outlets.{offered}
use Rattle.fed_hosts.specs.declared.site_actor.SiteActor.{SiteActor}
use Rattle.fed_hosts.specs.declared.site_actor.LineParts.{LineParts}
use Rattle.fed_hosts.specs.Carrying.{HasArmed, IsTold, turn_of}
use Rattle.fed_hosts.specs.Keeps.{IsLogged, IsStop}
use Rattle.host_laws.specs.Plans.{SitePlan, most_lines}
use Rattle.fed_hosts.specs.Rooms.{HasAdded}
use Rattle.host_laws.specs.Turns.{SiteTurn, is_due, past_of, trips_of}
use Rattle.fed_hosts.proofs.Adding.{logged_more}
use Rattle.fed_hosts.proofs.Own.{line_trip}
use Rattle.fed_hosts.proofs.Trips.{none_left, one_due, one_set, settles}
use Rattle.fed_hosts.proofs.Words.{length_turned}

-- as many lines as turns
pub as_many : {E D : Type 0} (plan : SitePlan) (turns : List SiteTurn) (actor : SiteActor E D) → IsLogged plan turns actor → length actor.lines.items ≡ length turns
as_many plan turns actor logged = ap length logged.lines ∙ length_turned (λ (turn : SiteTurn). turn.line) turns

pub unarmed_set : (plan : SitePlan) (turns : List SiteTurn) (set : Bool) → set ≡ is_some (trip (past_of plan turns)) → set ≡ true → length turns < most_lines → is_due plan turns ≡ false
unarmed_set plan turns set is e less = one_set plan turns (sym is ∙ e)

module _ {E : Type 0} (stands : E → Start → List EngineLine → Type 0) (tells : Bool) (seen : Seen) (plan : SitePlan) (turns : List SiteTurn) where
  -- the line that arms a stop is told as the rules say
  trip_told : (stop : StopLine) (told : LineParts) (dbms : LocalDbms E) → slice_get plan.stops (trips_of turns) ≡ Some stop
      → Serves (Stands stands tells dbms seen) told.answer plan.home plan.programs (past_of plan turns) (Submits (Ev.Trip stop.calls stop.cut))
      → IsTold plan turns (record told { command = Cmd.Trip stop.actor stop.calls stop.cut; send = None; after = 0 }) None
  trip_told stop told dbms at serves =
      let past = past_of plan turns in
      let said : told.answer ≡ (site_line plan.home past (Ev.Trip stop.calls stop.cut)).answer = serves.said in
      let set : told.answer ≡ Say.Set = said ∙ ap (λ (x : SiteHappening). x.answer) (trip_is plan.home past stop.calls stop.cut) in
      record {
        command = (at, refl);
        after = refl;
        small = omega arith;
        answer = said;
        sends = sym (line_trip plan.home past stop.calls stop.cut).0;
        counted = λ tx. ap (λ (a : Answer). cond (begins_tx tx a) (suc (attempts_of past tx)) (attempts_of past tx)) (sym said);
        few = λ tx e. let set_begins : begins_tx tx Say.Set ≡ true = subst (λ (a : Answer). begins_tx tx a ≡ true) set e in cc;
      }

module _ {E D : Type 0} (stands : E → Start → List EngineLine → Type 0) (tells : Bool) (seen : Seen) (plan : SitePlan) (turns : List SiteTurn) where
  -- none has to be armed
  pub unarmed : (actor : SiteActor E D) → IsLogged plan turns actor → Stands stands tells actor.dbms seen plan.home plan.programs (past_of plan turns)
      → (length turns < most_lines → is_due plan turns ≡ false) → HasArmed stands tells seen plan turns actor.lines.items actor
  unarmed actor logged stood settled = record {
    more = turns;
    arming = [];
    is_arming = tt;
    lines = sym (append-nil actor.lines.items);
    kept = record { logged = logged; settled = settled };
    stood = stood;
    took = refl;
  }

  pub unarmed_full : (actor : SiteActor E D) → IsLogged plan turns actor → most_lines ≤ length actor.lines.items → length turns < most_lines → is_due plan turns ≡ false
  unarmed_full actor logged full less = let same = as_many plan turns actor logged in absurd (omega (arith, same, full, less))

  pub unarmed_left : (actor : SiteActor E D) → IsLogged plan turns actor → length actor.stops.items ≤ actor.armed → length turns < most_lines → is_due plan turns ≡ false
  unarmed_left actor logged all less =
      let stops = ap length logged.stops in
      let armed = logged.armed in
      none_left plan turns (omega (arith, stops, armed, all))

  -- the line that arms a stop
  pub arms : (old new : SiteActor E D) (stop : StopLine) (told : LineParts) → IsLogged plan turns old → 1 ≤ length turns → Each (IsStop plan.home.site.0) plan.stops → old.ends.site ≡ plan.home.site
      → length turns < most_lines → old.armed < length old.stops.items → slice_get old.stops.items old.armed ≡ Some stop → is_some (trip (past_of plan turns)) ≡ false
      → told ≡ record told { command = Cmd.Trip stop.actor stop.calls stop.cut; send = None; after = 0 }
      → Serves (Stands stands tells new.dbms seen) told.answer plan.home plan.programs (past_of plan turns) (Submits (Ev.Trip stop.calls stop.cut))
      → HasAdded old new told → new.stops ≡ old.stops → new.armed ≡ suc old.armed → HasArmed stands tells seen plan turns old.lines.items new
  arms old new stop told logged some stops site less left at unset is serves added same armed =
      let at' : slice_get plan.stops (trips_of turns) ≡ Some stop = subst (λ (n : ℕ). slice_get plan.stops n ≡ Some stop) logged.armed (subst (λ (xs : List StopLine). slice_get xs old.armed ≡ Some stop) logged.stops at) in
      let left' : trips_of turns < length plan.stops = let e = ap length logged.stops in let f = logged.armed in omega (arith, e, f, left) in
      let trip_is' = trip_told stands tells seen plan turns stop told new.dbms at' serves in
      let due = one_due plan turns some unset left' in
      let told' = record told { command = Cmd.Trip stop.actor stop.calls stop.cut; send = None; after = 0 } in
      let added' : HasAdded old new told' = subst (λ (t : LineParts). HasAdded old new t) is added in
      let turn = turn_of old told' None in
      let one = each_at_place (IsStop plan.home.site.0) plan.stops (trips_of turns) stop stops at' in
      record {
        more = turn ∷ turns;
        arming = turn.line ∷ [];
        is_arming = refl;
        lines = added'.lines;
        kept = record {
          logged = logged_more plan turns told' None old new logged trip_is' site (sym due) less added' same (armed ∙ ap suc logged.armed);
          settled = λ fewer. settles plan turns stop.calls stop.cut one.calls (turn ∷ turns) refl;
        };
        stood = serves.next;
        took = refl;
      }

  -- what the outlet moves changes nothing that is kept
  pub flushed : (lines : List Stamped) (actor : SiteActor E D) (outlet : Outlet) → offered outlet ≡ offered actor.ends.outlet → HasArmed stands tells seen plan turns lines actor
      → HasArmed stands tells seen plan turns lines (record actor { ends = record actor.ends { outlet = outlet } })
  flushed lines actor outlet same h =
      let l = h.kept.logged in
      record {
        more = h.more;
        arming = h.arming;
        is_arming = h.is_arming;
        lines = h.lines;
        kept = record {
          logged = record {
            right = l.right;
            lines = l.lines;
            sent = l.sent;
            offers = same ∙ l.offers;
            stops = l.stops;
            armed = l.armed;
            last = l.last;
            low = l.low;
            short = l.short;
            few_sent = l.few_sent;
            counted = l.counted;
            few = l.few;
          };
          settled = h.kept.settled;
        };
        stood = h.stood;
        took = h.took;
      }
