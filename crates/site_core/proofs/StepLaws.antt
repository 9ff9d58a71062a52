-- A step of a core: the line that it answers goes on with a past that events made.
use Rattle.std.proofs.Common.{◌≡◌, ℕ, ◌+◌, Bool, false, true, List, [], ◌∷◌, Result, Ok, Err, IfOk, IfErr, refl, sym, ap, ◌∙◌, subst}
use Rattle.fed_rules.specs.declared.events.SiteEvent.{SiteEvent}
use Rattle.fed_rules.specs.declared.events.SiteEvent.TheVariants as Ev
use Rattle.fed_rules.specs.declared.messages.ToSite.TheVariants as To
use Rattle.fed_rules.specs.declared.events.SiteStep.{SiteStep}
use Rattle.fed_rules.specs.Happenings.{is_down}
use Rattle.fed_rules.specs.Runs as Lines
use Rattle.fed_rules.specs.Runs.{EngineLine}
use Rattle.fed_rules.specs.Site.{site_line}
use Rattle.fed_rules.specs.SitePast.{SiteHappening, SitePast}
use Rattle.fed_rules.specs.SiteRecords.{Home}
use Rattle.journal_disk.specs.Disk.{HasCalled, HasCalledAtMost, Seen}
use Rattle.journal_rules.specs.Calls.{can_fail}
use Rattle.actor_store.specs.declared.errors.StepErr.{StepErr}
use Rattle.actor_store.specs.declared.errors.StepErr.TheVariants as Err_is
use Rattle.site_core.specs.declared.site.SiteCore.{SiteCore}
use Rattle.site_core.specs.Made.{IsApart, IsGoingOn}
use Rattle.site_core.specs.Stands.{Answers, Before, Breaks, Carries, Fails, Stands, Steps, StopAt, Within, behind, beside_rules, calls_for, stopped_past}
use Rattle.site_core.specs.Steps.{CanStep, EachPast}
use Rattle.site_core.proofs.MadeLaws.{made_more}
use Rattle.site_core.proofs.StopLaws.{trip_is, trip_line}

-- an event that a step takes may come
pub can_come : (home : Home) (past : SitePast) (event : SiteEvent) → CanStep event home past → IsApart past event
can_come home past (Ev.Begin tid) may = may.apart
can_come home past (Ev.Act tid act) may = may.apart
can_come home past (Ev.Commit tid) may = may.apart
can_come home past (Ev.Abort tid) may = may
can_come home past (Ev.Fate tx) may = tt
can_come home past (Ev.Give (To.Take tid epoch n)) may = may.apart
can_come home past (Ev.Give (To.Work tid epoch n act)) may = may.apart
can_come home past (Ev.Give (To.Prepare tid epoch n)) may = may.apart
can_come home past (Ev.Give (To.Decide tid decision)) may = may.apart
can_come home past (Ev.Ask tid) may = tt
can_come home past (Ev.Drop tid) may = tt
can_come home past (Ev.Halt cut) may = tt
can_come home past (Ev.Trip calls cut) may = tt
can_come home past Ev.Back may = tt
can_come home past Ev.Check may = tt

-- also where a trip is set before it
still_apart : (past : SitePast) (event : SiteEvent) (calls cut : ℕ) → IsApart past event → IsApart (trip_line calls cut ∷ past) event
still_apart past (Ev.Begin tid) calls cut a = a
still_apart past (Ev.Act tid act) calls cut a = a
still_apart past (Ev.Commit tid) calls cut a = a
still_apart past (Ev.Abort tid) calls cut a = a
still_apart past (Ev.Fate tx) calls cut a = a
still_apart past (Ev.Give message) calls cut a = a
still_apart past (Ev.Ask tid) calls cut a = a
still_apart past (Ev.Drop tid) calls cut a = a
still_apart past (Ev.Halt cut') calls cut a = a
still_apart past (Ev.Trip calls' cut') calls cut a = a
still_apart past Ev.Back calls cut a = a
still_apart past Ev.Check calls cut a = a

-- what such a stop leaves is made by events
pub stopped_made : (home : Home) (past : SitePast) (event : SiteEvent) (at : StopAt) → IsGoingOn home past → IsApart past event → IsGoingOn home (stopped_past home past event at)
stopped_made home past event (Before cut) made apart = made_more home (behind home past (Ev.Trip 0 0)) (Ev.Halt cut) (made_more home past (Ev.Trip 0 0) made tt) tt
stopped_made home past event (Within calls cut) made apart =
    let P : SiteHappening → Type 0 = λ t. IsApart (t ∷ past) event in
    made_more home (behind home past (Ev.Trip calls cut)) event (made_more home past (Ev.Trip calls cut) made tt) (subst P (sym (trip_is home past calls cut)) (still_apart past event calls cut apart))

module _ {E : Type 0} (stands : E → Lines.Start → List EngineLine → Type 0) (tells : Bool) (old new : SiteCore E) (before now : Seen) (event : SiteEvent) (beside : ℕ) (same : beside ≡ beside_rules event old before) where
  pub steps : (step : SiteStep) (home : Home) (past : SitePast) → Stands stands tells old before home past → CanStep event home past
      → Answers stands tells beside before step new now home past (site_line home past event) → Steps stands tells (beside_rules event old before) before step new now home past (site_line home past event)
  steps step home past k may a = record {
    answer = a.answer;
    sends = a.sends;
    stood = record { holds = record { made = made_more home past event k.holds.made (can_come home past event may); memory = a.carries.memory }; stored = a.carries.stored };
    called = (let H : ℕ → Type 0 = λ n. HasCalled (n + can_fail (site_line home past event).calls) before now in subst H same a.called);
  }

  at_most_here : (home : Home) (past : SitePast) → HasCalledAtMost (beside + calls_for home past event) before now → HasCalledAtMost (beside_rules event old before + calls_for home past event) before now
  at_most_here home past called = let M : ℕ → Type 0 = λ n. HasCalledAtMost (n + calls_for home past event) before now in subst M same called

  fails : (why : StepErr) (home : Home) (past : SitePast) → Stands stands tells old before home past → CanStep event home past
      → Breaks stands tells (beside + calls_for home past event) before why new now home past event
      → Fails stands tells (beside_rules event old before + calls_for home past event) before why new now home past event
  fails Err_is.Memory home past k may (b, called) = (
    record { holds = record { made = k.holds.made; memory = b.memory }; stored = b.stored },
    at_most_here home past called,
  )
  fails Err_is.Disk home past k may (at, c, down, called) = (
    at,
    record { holds = record { made = stopped_made home past event at k.holds.made (can_come home past event may); memory = c.memory }; stored = c.stored },
    down,
    at_most_here home past called,
  )

  pub all_steps : (result : Result SiteStep StepErr)
      → IfOk result (λ step. EachPast (Stands stands tells old before) (λ home past. CanStep event home past → Answers stands tells beside before step new now home past (site_line home past event)))
      → IfOk result (λ step. EachPast (Stands stands tells old before) (λ home past. CanStep event home past → Steps stands tells (beside_rules event old before) before step new now home past (site_line home past event)))
  all_steps (Ok step) answered = λ home past k may. steps step home past k may (answered home past k may)
  all_steps (Err why) answered = tt

  pub all_fails : (result : Result SiteStep StepErr)
      → IfErr result (λ why. EachPast (Stands stands tells old before) (λ home past. CanStep event home past → Breaks stands tells (beside + calls_for home past event) before why new now home past event))
      → IfErr result (λ why. EachPast (Stands stands tells old before) (λ home past. CanStep event home past → Fails stands tells (beside_rules event old before + calls_for home past event) before why new now home past event))
  all_fails (Ok step) broken = tt
  all_fails (Err why) broken = λ home past k may. fails why home past k may (broken home past k may)
