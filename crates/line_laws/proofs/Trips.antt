-- A trip in force at an actor has calls left behind each of its lines, where it had some before.
use Rattle.std.proofs.Common.{◌≡◌, ℕ, ◌<◌, ◌==◌, ◌-◌, Bool, true, false, cond, ◌++◌, nat_le, Option, Some, None, List, [], ◌∷◌, length, take, refl, sym, ap, subst, ◌∙◌, arith}
use Rattle.std.proofs.lemmas.Bool.{leb-false}
use Rattle.mdb_base.specs.Words.{when}
use Rattle.mdb_base.proofs.ForCallers.{positive}
use Rattle.presumptions.specs.declared.Participant.{Participant}
use Rattle.fed_rules.specs.declared.answers.Answer.{Answer}
use Rattle.fed_rules.specs.declared.answers.Answer.TheVariants as Say
use Rattle.fed_rules.specs.declared.events.CoordEvent.{CoordEvent}
use Rattle.fed_rules.specs.declared.events.CoordEvent.TheVariants as To_coord
use Rattle.fed_rules.specs.declared.events.SiteEvent.{SiteEvent}
use Rattle.fed_rules.specs.declared.events.SiteEvent.TheVariants as To_site
use Rattle.fed_rules.specs.Coord as Coord
use Rattle.fed_rules.specs.Coord.{coord_line}
use Rattle.fed_rules.specs.CoordPast as Coordinator
use Rattle.fed_rules.specs.CoordPast.{CoordPast}
use Rattle.fed_rules.specs.CoordRecords.{coord_frame}
use Rattle.fed_rules.specs.Disk.{Call, Disk, Stops}
use Rattle.fed_rules.specs.Happenings.{Happening, Trip, armed, is_down, quiet, set, stopped, stops, tripped, used}
use Rattle.fed_rules.specs.Policies.{Policy}
use Rattle.fed_rules.specs.Site.{answered, of_back, site_line}
use Rattle.fed_rules.specs.SitePast.{SitePast, disk, trip, trip_of}
use Rattle.fed_rules.specs.SiteRecords.{Home, site_frame}
use Rattle.commit_laws.proofs.ForCallers.{HasCalls}

-- ---- a line of any actor

module _ {Event Message Record : Type 0} (trip_in : Event → Option Trip) (past : List (Happening Event Message Record)) where
  -- a line that no stop ends has fewer calls than the trip in force
  abbrev Outlasts : Happening Event Message Record → Type 0
  Outlasts x = stops x.answer ≡ false → (t : Trip) → armed trip_in past ≡ Some t → length x.calls < t.calls

  when_outlasts : (b : Bool) (x y : Happening Event Message Record) → Outlasts x → Outlasts y → Outlasts (when b x y)
  unfolding when
  when_outlasts true x y p q = p
  when_outlasts false x y p q = q

  tripped_outlasts : (size : Record → ℕ) (disk : Disk Record) (y : Happening Event Message Record) → Outlasts (tripped size disk (armed trip_in past) y)
  unfolding tripped stopped when
  tripped_outlasts size disk y = by_trip (armed trip_in past) refl
    where
      by_trip : (o : Option Trip) → armed trip_in past ≡ o → Outlasts (tripped size disk o y)
      by_trip None q on t e = let none : None ≡ Some t = sym q ∙ e in cc
      by_trip (Some u) q on t e = by_test (nat_le u.calls (length y.calls)) refl on
        where
          same : u ≡ t
          same = let both : Some u ≡ Some t = sym q ∙ e in cc

          by_test : (b : Bool) → nat_le u.calls (length y.calls) ≡ b
              → stops (when b (stopped size disk y.event (take u.calls y.calls ++ Stops u.cut ∷ [])) y).answer ≡ false
              → length (when b (stopped size disk y.event (take u.calls y.calls ++ Stops u.cut ∷ [])) y).calls < t.calls
          by_test true f s = cc
          by_test false f s = let less = leb-false u.calls (length y.calls) f in let calls = ap (λ (z : Trip). z.calls) same in omega (arith, less, calls)

  module _ (has : HasCalls (armed trip_in past)) (size : Record → ℕ) (disk : Disk Record) (event : Event) where
    quiet_outlasts : (answer : Answer) → Outlasts (quiet event answer)
    quiet_outlasts answer on t e = has t e

    halt_outlasts : (calls : List (Call Record)) → Outlasts (when (is_down past) (quiet event Say.Down) (stopped size disk event calls))
    unfolding stopped
    halt_outlasts calls = when_outlasts (is_down past) _ _ (quiet_outlasts Say.Down) (λ on. cc)

    back_outlasts : (y : Happening Event Message Record) → Outlasts (when (is_down past) (tripped size disk (armed trip_in past) y) (quiet event Say.Awake))
    back_outlasts y = when_outlasts (is_down past) _ _ (tripped_outlasts size disk y) (quiet_outlasts Say.Awake)

    up_outlasts : (y : Happening Event Message Record) → Outlasts (when (is_down past) (quiet event Say.Down) (tripped size disk (armed trip_in past) y))
    up_outlasts y = when_outlasts (is_down past) _ _ (quiet_outlasts Say.Down) (tripped_outlasts size disk y)

  -- so what is left of the trip behind it has calls
  left_calls : HasCalls (armed trip_in past) → (x : Happening Event Message Record) → Outlasts x → HasCalls (armed trip_in (x ∷ past))
  left_calls has x outlasts = by_stop (stops x.answer) refl
    where
      by_used : stops x.answer ≡ false → (o : Option Trip) → armed trip_in past ≡ o → HasCalls (used (length x.calls) o)
      by_used on None q t e = cc
      by_used on (Some u) q t e =
          let less = outlasts on u q in
          let calls : u.calls - length x.calls ≡ t.calls = ap (λ (z : Trip). z.calls) (one e) in omega (arith, less, calls)
        where
          one : Some (record { calls = u.calls - length x.calls; cut = u.cut }) ≡ Some t → record { calls = u.calls - length x.calls; cut = u.cut } ≡ t
          one f = cc

      by_new : (new : Option Trip) → HasCalls (used (length x.calls) (armed trip_in past)) → HasCalls (set new (used (length x.calls) (armed trip_in past)))
      by_new None old = old
      by_new (Some u) old = by_zero (u.calls == 0) refl
        where
          by_zero : (b : Bool) → (u.calls == 0) ≡ b → HasCalls (cond b None (Some u))
          by_zero true q t e = cc
          by_zero false q t e =
              let same : u ≡ t = cc in
              let some : 0 < u.calls = positive u.calls q in subst (λ (z : Trip). 0 < z.calls) same some

      by_stop : (b : Bool) → stops x.answer ≡ b → HasCalls (cond b None (set (trip_in x.event) (used (length x.calls) (armed trip_in past))))
      by_stop true q = λ t e. cc
      by_stop false q = by_new (trip_in x.event) (by_used q (armed trip_in past) refl)

-- ---- at the coordinator

module _ (protocols : List Participant) (policy : Policy) (past : CoordPast) (has : HasCalls (Coordinator.trip past)) where
  coord_up : (event : CoordEvent) → Outlasts Coordinator.trip_of past (when (is_down past) (quiet event Say.Down) (tripped coord_frame (Coordinator.disk past) (Coordinator.trip past) (Coord.answered protocols policy past event)))
  coord_up event = up_outlasts Coordinator.trip_of past has coord_frame (Coordinator.disk past) event (Coord.answered protocols policy past event)

  coord_outlasts : (event : CoordEvent) → Outlasts Coordinator.trip_of past (coord_line protocols policy past event)
  unfolding coord_line
  coord_outlasts (To_coord.Trip calls cut) = quiet_outlasts Coordinator.trip_of past has coord_frame (Coordinator.disk past) (To_coord.Trip calls cut) Say.Set
  coord_outlasts (To_coord.Halt cut) = halt_outlasts Coordinator.trip_of past has coord_frame (Coordinator.disk past) (To_coord.Halt cut) (Stops cut ∷ [])
  coord_outlasts To_coord.Back = back_outlasts Coordinator.trip_of past has coord_frame (Coordinator.disk past) To_coord.Back (Coord.of_back protocols past)
  coord_outlasts (To_coord.Go tid steps) = coord_up (To_coord.Go tid steps)
  coord_outlasts (To_coord.Take site message) = coord_up (To_coord.Take site message)
  coord_outlasts (To_coord.Again tid) = coord_up (To_coord.Again tid)
  coord_outlasts (To_coord.Late tid) = coord_up (To_coord.Late tid)
  coord_outlasts (To_coord.Fate tx) = coord_up (To_coord.Fate tx)
  coord_outlasts To_coord.Check = coord_up To_coord.Check

  pub coord_calls : (event : CoordEvent) → HasCalls (Coordinator.trip (coord_line protocols policy past event ∷ past))
  coord_calls event = left_calls Coordinator.trip_of past has (coord_line protocols policy past event) (coord_outlasts event)

-- ---- at a site

module _ (home : Home) (past : SitePast) (has : HasCalls (trip past)) where
  site_up : (event : SiteEvent) → Outlasts trip_of past (when (is_down past) (quiet event Say.Down) (tripped site_frame (disk home past) (trip past) (answered home past event)))
  site_up event = up_outlasts trip_of past has site_frame (disk home past) event (answered home past event)

  site_outlasts : (event : SiteEvent) → Outlasts trip_of past (site_line home past event)
  unfolding site_line
  site_outlasts (To_site.Trip calls cut) = quiet_outlasts trip_of past has site_frame (disk home past) (To_site.Trip calls cut) Say.Set
  site_outlasts (To_site.Halt cut) = halt_outlasts trip_of past has site_frame (disk home past) (To_site.Halt cut) (Stops cut ∷ [])
  site_outlasts To_site.Back = back_outlasts trip_of past has site_frame (disk home past) To_site.Back (of_back home past)
  site_outlasts (To_site.Begin tid) = site_up (To_site.Begin tid)
  site_outlasts (To_site.Act tid act) = site_up (To_site.Act tid act)
  site_outlasts (To_site.Commit tid) = site_up (To_site.Commit tid)
  site_outlasts (To_site.Abort tid) = site_up (To_site.Abort tid)
  site_outlasts (To_site.Fate tx) = site_up (To_site.Fate tx)
  site_outlasts (To_site.Give message) = site_up (To_site.Give message)
  site_outlasts (To_site.Ask tid) = site_up (To_site.Ask tid)
  site_outlasts (To_site.Drop tid) = site_up (To_site.Drop tid)
  site_outlasts To_site.Check = site_up To_site.Check

  pub site_calls : (event : SiteEvent) → HasCalls (trip (site_line home past event ∷ past))
  site_calls event = left_calls trip_of past has (site_line home past event) (site_outlasts event)
