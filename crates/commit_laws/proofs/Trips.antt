-- A trip in force at a site has calls left, so it stops no line without disk calls.
use Rattle.std.proofs.Common.{◌≡◌, ◌<◌, ◌==◌, ◌-◌, Bool, true, false, cond, ◌++◌, nat_le, Option, Some, None, List, [], ◌∷◌, length, take, refl, sym, ap, subst, ◌∙◌, arith}
use Rattle.std.proofs.lemmas.Bool.{leb-false, leb-true}
use Rattle.mdb_base.specs.Names.{same_site}
use Rattle.mdb_base.specs.Words.{when}
use Rattle.mdb_base.proofs.ForCallers.{positive, same_site-equal}
use Rattle.fed_rules.specs.declared.answers.Answer.{Answer}
use Rattle.fed_rules.specs.declared.answers.Answer.TheVariants as Say
use Rattle.fed_rules.specs.declared.commands.Command.{Command}
use Rattle.fed_rules.specs.declared.events.SiteEvent.{SiteEvent}
use Rattle.fed_rules.specs.declared.events.SiteEvent.TheVariants as Ev
use Rattle.fed_rules.specs.declared.scenario.Scenario.{Scenario}
use Rattle.fed_rules.specs.Disk.{Stops}
use Rattle.fed_rules.specs.Happenings.{Trip, is_down, quiet, set, stopped, stops, tripped, used}
use Rattle.fed_rules.specs.Site.{answered, of_back, site_line}
use Rattle.fed_rules.specs.SitePast.{SiteHappening, SitePast, disk, trip, trip_of}
use Rattle.fed_rules.specs.SiteRecords.{Home, site_frame}
use Rattle.fed_rules.specs.Story.{Happened, AtSite, AtCoordinator, Nowhere, happens, past_of, story_of, with_site}
use Rattle.fed_rules.specs.Lines.{IsLine}
use Rattle.fed_rules.proofs.ForCallers.{line_is}

-- the trip in force has calls left
abbrev pub HasCalls : Option Trip → Type 0
HasCalls armed = (t : Trip) → armed ≡ Some t → 0 < t.calls

-- a line that no stop ends has fewer calls than the trip in force
abbrev Outlasts : SitePast → SiteHappening → Type 0
Outlasts past x = stops x.answer ≡ false → (t : Trip) → trip past ≡ Some t → length x.calls < t.calls

quiet_outlasts : (past : SitePast) (event : SiteEvent) (answer : Answer) → HasCalls (trip past) → Outlasts past (quiet event answer)
quiet_outlasts past event answer h on t e = h t e

when_outlasts : (past : SitePast) (b : Bool) (x y : SiteHappening) → Outlasts past x → Outlasts past y → Outlasts past (when b x y)
unfolding when
when_outlasts past true x y p q = p
when_outlasts past false x y p q = q

tripped_outlasts : (home : Home) (past : SitePast) (y : SiteHappening) → Outlasts past (tripped site_frame (disk home past) (trip past) y)
unfolding tripped stopped when
tripped_outlasts home past y = by_trip (trip past) refl
  where
    by_trip : (armed : Option Trip) → trip past ≡ armed → Outlasts past (tripped site_frame (disk home past) armed y)
    by_trip None q on t e = let none : None ≡ Some t = sym q ∙ e in cc
    by_trip (Some u) q on t e = by_test (nat_le u.calls (length y.calls)) refl on
      where
        same : u ≡ t
        same = let both : Some u ≡ Some t = sym q ∙ e in cc

        by_test : (b : Bool) → nat_le u.calls (length y.calls) ≡ b
            → stops (when b (stopped site_frame (disk home past) y.event (take u.calls y.calls ++ Stops u.cut ∷ [])) y).answer ≡ false
            → length (when b (stopped site_frame (disk home past) y.event (take u.calls y.calls ++ Stops u.cut ∷ [])) y).calls < t.calls
        by_test true f s = cc
        by_test false f s = let less = leb-false u.calls (length y.calls) f in let calls = ap (λ (z : Trip). z.calls) same in omega (arith, less, calls)

up_outlasts : (home : Home) (past : SitePast) (event : SiteEvent) → HasCalls (trip past)
    → Outlasts past (when (is_down past) (quiet event Say.Down) (tripped site_frame (disk home past) (trip past) (answered home past event)))
up_outlasts home past event h = when_outlasts past (is_down past) _ _ (quiet_outlasts past event Say.Down h) (tripped_outlasts home past (answered home past event))

line_outlasts : (home : Home) (past : SitePast) (event : SiteEvent) → HasCalls (trip past) → Outlasts past (site_line home past event)
unfolding site_line stopped
line_outlasts home past (Ev.Trip calls cut) h = quiet_outlasts past (Ev.Trip calls cut) Say.Set h
line_outlasts home past (Ev.Halt cut) h = when_outlasts past (is_down past) _ _ (quiet_outlasts past (Ev.Halt cut) Say.Down h) (λ on. cc)
line_outlasts home past Ev.Back h =
    when_outlasts past (is_down past) _ _ (tripped_outlasts home past (of_back home past)) (quiet_outlasts past Ev.Back Say.Awake h)
line_outlasts home past (Ev.Begin tid) h = up_outlasts home past (Ev.Begin tid) h
line_outlasts home past (Ev.Act tid act) h = up_outlasts home past (Ev.Act tid act) h
line_outlasts home past (Ev.Commit tid) h = up_outlasts home past (Ev.Commit tid) h
line_outlasts home past (Ev.Abort tid) h = up_outlasts home past (Ev.Abort tid) h
line_outlasts home past (Ev.Fate tx) h = up_outlasts home past (Ev.Fate tx) h
line_outlasts home past (Ev.Give message) h = up_outlasts home past (Ev.Give message) h
line_outlasts home past (Ev.Ask tid) h = up_outlasts home past (Ev.Ask tid) h
line_outlasts home past (Ev.Drop tid) h = up_outlasts home past (Ev.Drop tid) h
line_outlasts home past Ev.Check h = up_outlasts home past Ev.Check h

-- so what is left of the trip has calls
left_calls : (past : SitePast) (x : SiteHappening) → Outlasts past x → HasCalls (trip (x ∷ past))
left_calls past x outlasts = by_stop (stops x.answer) refl
  where
    by_used : stops x.answer ≡ false → (armed : Option Trip) → trip past ≡ armed → HasCalls (used (length x.calls) armed)
    by_used on None q t e = cc
    by_used on (Some u) q t e =
        let less = outlasts on u q in
        let calls : u.calls - length x.calls ≡ t.calls = ap (λ (z : Trip). z.calls) (one e) in omega (arith, less, calls)
      where
        one : Some (record { calls = u.calls - length x.calls; cut = u.cut }) ≡ Some t → record { calls = u.calls - length x.calls; cut = u.cut } ≡ t
        one f = cc

    by_new : (new : Option Trip) → HasCalls (used (length x.calls) (trip past)) → HasCalls (set new (used (length x.calls) (trip past)))
    by_new None old = old
    by_new (Some u) old = by_zero (u.calls == 0) refl
      where
        by_zero : (b : Bool) → (u.calls == 0) ≡ b → HasCalls (cond b None (Some u))
        by_zero true q t e = cc
        by_zero false q t e =
            let same : u ≡ t = cc in
            let some : 0 < u.calls = positive u.calls q in subst (λ (z : Trip). 0 < z.calls) same some

    by_stop : (b : Bool) → stops x.answer ≡ b → HasCalls (cond b None (set (trip_of x.event) (used (length x.calls) (trip past))))
    by_stop true q = λ t e. cc
    by_stop false q = by_new (trip_of x.event) (by_used q (trip past) refl)

-- in every story
pub trips_have_calls : (scenario : Scenario) (home : Home) (commands : List Command) → HasCalls (trip (past_of home.site (story_of scenario commands)))
trips_have_calls scenario home [] = λ t e. cc
trips_have_calls scenario home (command ∷ commands) =
    more (happens scenario (story_of scenario commands) command) (line_is scenario (story_of scenario commands) command) (trips_have_calls scenario home commands)
  where
    past : SitePast
    past = past_of home.site (story_of scenario commands)

    more : (happened : Happened) → IsLine scenario (story_of scenario commands) command happened → HasCalls (trip past) → HasCalls (trip (with_site home.site happened past))
    more (Nowhere answer) line h = h
    more (AtCoordinator x) line h = h
    more (AtSite at x) line h = by_test (same_site at home.site) refl
      where
        by_test : (b : Bool) → same_site at home.site ≡ b → HasCalls (trip (cond b (x ∷ past) past))
        by_test false q = h
        by_test true q =
            let here : line.home.site ≡ home.site = sym line.here ∙ same_site-equal at home.site q in
            let made : x ≡ site_line line.home past line.event = line.is_next ∙ ap (λ s. site_line line.home (past_of s (story_of scenario commands)) line.event) here in
            left_calls past x (subst (Outlasts past) (sym made) (line_outlasts line.home past line.event h))

-- a line that a site that is up answers without disk calls is never stopped
pub uncalled : (home : Home) (past : SitePast) (y : SiteHappening) → HasCalls (trip past) → y.calls ≡ [] → tripped site_frame (disk home past) (trip past) y ≡ y
unfolding tripped when
uncalled home past y h none = by_trip (trip past) refl
  where
    by_trip : (armed : Option Trip) → trip past ≡ armed → tripped site_frame (disk home past) armed y ≡ y
    by_trip None q = refl
    by_trip (Some u) q = by_test (nat_le u.calls (length y.calls)) refl
      where
        by_test : (b : Bool) → nat_le u.calls (length y.calls) ≡ b
            → when b (stopped site_frame (disk home past) y.event (take u.calls y.calls ++ Stops u.cut ∷ [])) y ≡ y
        by_test true f =
            let some = h u q in
            let most = leb-true u.calls (length y.calls) f in
            let zero_calls = ap length none in absurd (omega (arith, some, most, zero_calls))
        by_test false f = refl
