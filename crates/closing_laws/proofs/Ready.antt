-- The first two steps: each armed trip is disarmed, and then each actor that is down comes back.
use Rattle.std.proofs.Common.{◌≡◌, ℕ, zero, suc, ◌⊎◌, Bool, true, false, cond, is_some, Option, Some, None, List, [], ◌∷◌, length, inl, inr, refl, sym, ap, subst, ◌∙◌}
use Rattle.mdb_base.specs.declared.names.SiteId.{SiteId}
use Rattle.mdb_base.specs.Names.{same_site}
use Rattle.mdb_base.specs.Words.{given, those}
use Rattle.mdb_base.proofs.ForCallers.{same_site-equal, same_site-refl, when-false, when-true}
use Rattle.presumptions.specs.declared.Participant.{Participant}
use Rattle.order_laws.specs.Chains.{In}
use Rattle.order_laws.proofs.ForCallers.{among_weaker, in_those, map_among}
use Rattle.fed_rules.specs.declared.answers.Answer.TheVariants as Say
use Rattle.fed_rules.specs.declared.commands.Command.{Command}
use Rattle.fed_rules.specs.declared.commands.Command.TheVariants as Cmd
use Rattle.fed_rules.specs.declared.events.CoordEvent.TheVariants as To_coord
use Rattle.fed_rules.specs.declared.events.SiteEvent.TheVariants as Ev
use Rattle.fed_rules.specs.declared.scenario.Scenario.{Scenario}
use Rattle.fed_rules.specs.Closing.{for_each, one, actors, disarm, bring_up}
use Rattle.fed_rules.specs.Coord as Coord
use Rattle.fed_rules.specs.Coord.{coord_line}
use Rattle.fed_rules.specs.CoordPast as Coordinator
use Rattle.fed_rules.specs.CoordPast.{CoordPast}
use Rattle.fed_rules.specs.CoordRecords.{coord_frame}
use Rattle.fed_rules.specs.Happenings.{Trip, quiet, is_down, used, tripped}
use Rattle.fed_rules.specs.Plans.{AreSites}
use Rattle.fed_rules.specs.Scenarios.{home_of, protocols, sites, policy}
use Rattle.fed_rules.specs.Sessions.{Session}
use Rattle.fed_rules.specs.Site.{site_line, of_back}
use Rattle.fed_rules.specs.SitePast.{SitePast, disk, trip_of, trip}
use Rattle.fed_rules.specs.SiteRecords.{Home, site_frame}
use Rattle.fed_rules.specs.Story.{Story, Nowhere, past_of, coord_past, with_site, with_coordinator, at_site, on_site, on_actor, happens, story_in}
use Rattle.commit_laws.proofs.ForCallers.{home-again, its-site}
use Rattle.closing_laws.proofs.Calm.{IsReady, ready_next}
use Rattle.federation_laws.proofs.ForCallers.{declared-in}
use Rattle.closing_laws.proofs.Declared.{actor_hears}
use Rattle.closing_laws.proofs.Onward.{IsCalm}
use Rattle.fed_rules.specs.Policies.{Policy}

-- an actor of which the test holds is listed
in_one : (b : Bool) (n m : ℕ) (xs : List ℕ) → In n xs → In n (one b m xs)
in_one true n m xs i = inr i
in_one false n m xs i = i

site_listed : (of_coordinator : CoordPast → Bool) (of_site : SitePast → Bool) (scenario : Scenario) (story : Story) (home : Home) → home_of scenario home.site ≡ Some home
    → of_site (past_of home.site story) ≡ true → In home.site.0 (actors of_coordinator of_site scenario story)
site_listed of_coordinator of_site scenario story home d e =
    in_one (of_coordinator (coord_past story)) home.site.0 0 _
    (map_among (λ n. n ≡ home.site.0) (λ (s : SiteId). s.0) (those (λ s. of_site (past_of s story)) (sites scenario))
    (among_weaker (λ s. s ≡ home.site) (λ s. s.0 ≡ home.site.0) (λ s q. ap (λ (z : SiteId). z.0) q) _
    (in_those (λ s. of_site (past_of s story)) home.site (sites scenario) (declared-in scenario home.site home d) e)))

zero_in_one : (b : Bool) (xs : List ℕ) → b ≡ true → In {A = ℕ} 0 (one b 0 xs)
zero_in_one true xs e = inl refl
zero_in_one false xs e = cc

coordinator_listed : (of_coordinator : CoordPast → Bool) (of_site : SitePast → Bool) (scenario : Scenario) (story : Story) → of_coordinator (coord_past story) ≡ true → In {A = ℕ} 0 (actors of_coordinator of_site scenario story)
coordinator_listed of_coordinator of_site scenario story e = zero_in_one (of_coordinator (coord_past story)) _ e

-- a start without a trip comes through, and what is up stays so
rises : (home : Home) (past : SitePast) → trip past ≡ None → IsReady trip_of (site_line home past Ev.Back ∷ past)
unfolding site_line of_back tripped
rises home past none = by_test (is_down past) refl
  where
    by_test : (b : Bool) → is_down past ≡ b → IsReady trip_of (site_line home past Ev.Back ∷ past)
    by_test true down =
        subst (λ x. IsReady trip_of (x ∷ past)) (sym (when-true _ _ _ down ∙ ap (λ t. tripped site_frame (disk home past) t (of_back home past)) none))
        (record { up = refl; untripped = ap (λ t. used (length (of_back home past).calls) t) none })
    by_test false up = subst (λ x. IsReady trip_of (x ∷ past)) (sym (when-false _ _ _ up)) (ready_next trip_of past (quiet Ev.Back Say.Awake) refl refl (record { up = up; untripped = none }))

coordinator_rises : (protocols : List Participant) (policy : Policy) (past : CoordPast) → Coordinator.trip past ≡ None → IsReady Coordinator.trip_of (coord_line protocols policy past To_coord.Back ∷ past)
unfolding coord_line Coord.of_back tripped
coordinator_rises protocols policy past none = by_test (is_down past) refl
  where
    by_test : (b : Bool) → is_down past ≡ b → IsReady Coordinator.trip_of (coord_line protocols policy past To_coord.Back ∷ past)
    by_test true down =
        subst (λ x. IsReady Coordinator.trip_of (x ∷ past)) (sym (when-true _ _ _ down ∙ ap (λ t. tripped coord_frame (Coordinator.disk past) t (Coord.of_back protocols past)) none))
        (record { up = refl; untripped = ap (λ t. used (length (Coord.of_back protocols past).calls) t) none })
    by_test false up = subst (λ x. IsReady Coordinator.trip_of (x ∷ past)) (sym (when-false _ _ _ up)) (ready_next Coordinator.trip_of past (quiet To_coord.Back Say.Awake) refl refl (record { up = up; untripped = none }))

-- no trip is armed behind a disarming
disarms : (home : Home) (past : SitePast) → trip (site_line home past (Ev.Trip 0 0) ∷ past) ≡ None
unfolding site_line
disarms home past = refl

coordinator_disarms : (protocols : List Participant) (policy : Policy) (past : CoordPast) → Coordinator.trip (coord_line protocols policy past (To_coord.Trip 0 0) ∷ past) ≡ None
unfolding coord_line
coordinator_disarms protocols policy past = refl

-- a site that isn't declared has no past, whatever the commands
abbrev pub UndeclaredAreSilent : Session → Type 0
UndeclaredAreSilent session =
    (site : SiteId) (commands : List Command) → home_of session.plan site ≡ None → past_of site (story_in session commands) ≡ []

module _ (session : Session) where
  -- what an event of an actor leaves of a site: its past, or that with its next line
  left : (P : SitePast → Type 0) (story : Story) (actor : ℕ) (c : _) (s : _) (home : Home) → home_of session.plan home.site ≡ Some home → P (past_of home.site story)
      → P (site_line home (past_of home.site story) s ∷ past_of home.site story) → P (with_site home.site (on_actor session.plan story actor c s) (past_of home.site story))
  unfolding on_actor on_site given
  left P story zero c s home d old new = old
  left P story (suc n) c s home d old new = by_home (home_of session.plan (record { 0 = suc n })) refl
    where
      by_home : (o : Option Home) → home_of session.plan (record { 0 = suc n }) ≡ o → P (with_site home.site (given o (λ h. at_site h story s) (Nowhere Say.None)) (past_of home.site story))
      by_home None e = old
      by_home (Some other) e = by_test (same_site other.site home.site) refl
        where
          by_test : (b : Bool) → same_site other.site home.site ≡ b → P (cond b (site_line other (past_of other.site story) s ∷ past_of home.site story) (past_of home.site story))
          by_test false q = old
          by_test true q =
              let site : other.site ≡ home.site = same_site-equal other.site home.site q in
              let found : home_of session.plan home.site ≡ Some other = ap (home_of session.plan) (sym site) ∙ home-again session.plan (record { 0 = suc n }) other e in
              let same : home ≡ other = (let t : Some home ≡ Some other = sym d ∙ found in cc) in
              subst (λ h. P (site_line h (past_of h.site story) s ∷ past_of home.site story)) same new

  own : (P : SitePast → Type 0) (story : Story) (c : _) (s : _) (home : Home) → AreSites session.plan.sites → home_of session.plan home.site ≡ Some home
      → P (site_line home (past_of home.site story) s ∷ past_of home.site story) → P (with_site home.site (on_actor session.plan story home.site.0 c s) (past_of home.site story))
  own P story c s home whole d new =
      subst (λ h. P (with_site home.site h (past_of home.site story))) (sym (actor_hears session.plan home story c s whole d))
      (subst (λ b. P (cond b (site_line home (past_of home.site story) s ∷ past_of home.site story) (past_of home.site story))) (sym (same_site-refl home.site)) new)

  left_coordinator : (P : CoordPast → Type 0) (story : Story) (actor : ℕ) (c : _) (s : _) → P (coord_past story)
      → P (coord_line (protocols session.plan) (policy session.plan) (coord_past story) c ∷ coord_past story) → P (with_coordinator (on_actor session.plan story actor c s) (coord_past story))
  unfolding on_actor on_site given
  left_coordinator P story zero c s old new = new
  left_coordinator P story (suc n) c s old new = by_home (home_of session.plan (record { 0 = suc n }))
    where
      by_home : (o : Option Home) → P (with_coordinator (given o (λ h. at_site h story s) (Nowhere Say.None)) (coord_past story))
      by_home None = old
      by_home (Some other) = old

  own_coordinator : (P : CoordPast → Type 0) (story : Story) (c : _) (s : _) → P (coord_line (protocols session.plan) (policy session.plan) (coord_past story) c ∷ coord_past story)
      → P (with_coordinator (on_actor session.plan story 0 c s) (coord_past story))
  unfolding on_actor
  own_coordinator P story c s new = new

  -- disarmings
  abbrev trip_more : ℕ → List Command → List Command
  trip_more actor more = Cmd.Trip actor 0 0 ∷ more

  disarmed_site : (actors : List ℕ) (commands : List Command) (home : Home) → AreSites session.plan.sites → home_of session.plan home.site ≡ Some home
      → (trip (past_of home.site (story_in session commands)) ≡ None) ⊎ In home.site.0 actors → trip (past_of home.site (story_in session (for_each trip_more actors commands))) ≡ None
  unfolding happens
  disarmed_site [] commands home whole d (inl e) = e
  disarmed_site [] commands home whole d (inr i) = absurd i
  disarmed_site (actor ∷ actors) commands home whole d (inl e) =
      disarmed_site actors (Cmd.Trip actor 0 0 ∷ commands) home whole d
      (inl (left (λ past. trip past ≡ None) (story_in session commands) actor (To_coord.Trip 0 0) (Ev.Trip 0 0) home d e (disarms home (past_of home.site (story_in session commands)))))
  disarmed_site (actor ∷ actors) commands home whole d (inr (inl e)) =
      disarmed_site actors (Cmd.Trip actor 0 0 ∷ commands) home whole d
      (inl (subst (λ n. trip (with_site home.site (on_actor session.plan (story_in session commands) n (To_coord.Trip 0 0) (Ev.Trip 0 0)) (past_of home.site (story_in session commands))) ≡ None) (sym e)
      (own (λ past. trip past ≡ None) (story_in session commands) (To_coord.Trip 0 0) (Ev.Trip 0 0) home whole d (disarms home (past_of home.site (story_in session commands))))))
  disarmed_site (actor ∷ actors) commands home whole d (inr (inr i)) = disarmed_site actors (Cmd.Trip actor 0 0 ∷ commands) home whole d (inr i)

  disarmed_coordinator : (actors : List ℕ) (commands : List Command)
      → (Coordinator.trip (coord_past (story_in session commands)) ≡ None) ⊎ In {A = ℕ} 0 actors → Coordinator.trip (coord_past (story_in session (for_each trip_more actors commands))) ≡ None
  unfolding happens
  disarmed_coordinator [] commands (inl e) = e
  disarmed_coordinator [] commands (inr i) = absurd i
  disarmed_coordinator (actor ∷ actors) commands (inl e) =
      disarmed_coordinator actors (Cmd.Trip actor 0 0 ∷ commands)
      (inl (left_coordinator (λ past. Coordinator.trip past ≡ None) (story_in session commands) actor (To_coord.Trip 0 0) (Ev.Trip 0 0) e (coordinator_disarms (protocols session.plan) (policy session.plan) (coord_past (story_in session commands)))))
  disarmed_coordinator (actor ∷ actors) commands (inr (inl e)) =
      disarmed_coordinator actors (Cmd.Trip actor 0 0 ∷ commands)
      (inl (subst (λ n. Coordinator.trip (with_coordinator (on_actor session.plan (story_in session commands) n (To_coord.Trip 0 0) (Ev.Trip 0 0)) (coord_past (story_in session commands))) ≡ None) (sym e)
      (own_coordinator (λ past. Coordinator.trip past ≡ None) (story_in session commands) (To_coord.Trip 0 0) (Ev.Trip 0 0) (coordinator_disarms (protocols session.plan) (policy session.plan) (coord_past (story_in session commands))))))
  disarmed_coordinator (actor ∷ actors) commands (inr (inr i)) = disarmed_coordinator actors (Cmd.Trip actor 0 0 ∷ commands) (inr i)

  -- starts
  abbrev back_more : ℕ → List Command → List Command
  back_more actor more = Cmd.Back actor ∷ more

  brought_site : (actors : List ℕ) (commands : List Command) (home : Home) → AreSites session.plan.sites → home_of session.plan home.site ≡ Some home
      → trip (past_of home.site (story_in session commands)) ≡ None → (is_down (past_of home.site (story_in session commands)) ≡ false) ⊎ In home.site.0 actors
      → IsReady trip_of (past_of home.site (story_in session (for_each back_more actors commands)))
  unfolding happens
  brought_site [] commands home whole d none (inl e) = record { up = e; untripped = none }
  brought_site [] commands home whole d none (inr i) = absurd i
  brought_site (actor ∷ actors) commands home whole d none (inl e) =
      let ready = left (IsReady trip_of) (story_in session commands) actor To_coord.Back Ev.Back home d (record { up = e; untripped = none }) (rises home (past_of home.site (story_in session commands)) none) in
      brought_site actors (Cmd.Back actor ∷ commands) home whole d ready.untripped (inl ready.up)
  brought_site (actor ∷ actors) commands home whole d none (inr (inl e)) =
      let ready : IsReady trip_of (with_site home.site (on_actor session.plan (story_in session commands) actor To_coord.Back Ev.Back) (past_of home.site (story_in session commands))) =
      subst (λ n. IsReady trip_of (with_site home.site (on_actor session.plan (story_in session commands) n To_coord.Back Ev.Back) (past_of home.site (story_in session commands)))) (sym e)
      (own (IsReady trip_of) (story_in session commands) To_coord.Back Ev.Back home whole d (rises home (past_of home.site (story_in session commands)) none)) in
      brought_site actors (Cmd.Back actor ∷ commands) home whole d ready.untripped (inl ready.up)
  brought_site (actor ∷ actors) commands home whole d none (inr (inr i)) =
      brought_site actors (Cmd.Back actor ∷ commands) home whole d
      (left (λ past. trip past ≡ None) (story_in session commands) actor To_coord.Back Ev.Back home d none (rises home (past_of home.site (story_in session commands)) none).untripped) (inr i)

  brought_coordinator : (actors : List ℕ) (commands : List Command) → Coordinator.trip (coord_past (story_in session commands)) ≡ None
      → (is_down (coord_past (story_in session commands)) ≡ false) ⊎ In {A = ℕ} 0 actors → IsReady Coordinator.trip_of (coord_past (story_in session (for_each back_more actors commands)))
  unfolding happens
  brought_coordinator [] commands none (inl e) = record { up = e; untripped = none }
  brought_coordinator [] commands none (inr i) = absurd i
  brought_coordinator (actor ∷ actors) commands none (inl e) =
      let ready = left_coordinator (IsReady Coordinator.trip_of) (story_in session commands) actor To_coord.Back Ev.Back (record { up = e; untripped = none })
      (coordinator_rises (protocols session.plan) (policy session.plan) (coord_past (story_in session commands)) none) in
      brought_coordinator actors (Cmd.Back actor ∷ commands) ready.untripped (inl ready.up)
  brought_coordinator (actor ∷ actors) commands none (inr (inl e)) =
      let ready : IsReady Coordinator.trip_of (with_coordinator (on_actor session.plan (story_in session commands) actor To_coord.Back Ev.Back) (coord_past (story_in session commands))) =
      subst (λ n. IsReady Coordinator.trip_of (with_coordinator (on_actor session.plan (story_in session commands) n To_coord.Back Ev.Back) (coord_past (story_in session commands)))) (sym e)
      (own_coordinator (IsReady Coordinator.trip_of) (story_in session commands) To_coord.Back Ev.Back (coordinator_rises (protocols session.plan) (policy session.plan) (coord_past (story_in session commands)) none)) in
      brought_coordinator actors (Cmd.Back actor ∷ commands) ready.untripped (inl ready.up)
  brought_coordinator (actor ∷ actors) commands none (inr (inr i)) =
      brought_coordinator actors (Cmd.Back actor ∷ commands)
      (left_coordinator (λ past. Coordinator.trip past ≡ None) (story_in session commands) actor To_coord.Back Ev.Back none
      (coordinator_rises (protocols session.plan) (policy session.plan) (coord_past (story_in session commands)) none).untripped) (inr i)

  -- no trip is armed behind the first step
  untripped_site : (commands : List Command) (home : Home) → AreSites session.plan.sites → home_of session.plan home.site ≡ Some home → trip (past_of home.site (story_in session (disarm session commands))) ≡ None
  untripped_site commands home whole d = by_trip (trip (past_of home.site (story_in session commands))) refl
    where
      armed_of : CoordPast → Bool
      armed_of past = is_some (Coordinator.trip past)

      armed_at : SitePast → Bool
      armed_at past = is_some (trip past)

      by_trip : (o : Option Trip) → trip (past_of home.site (story_in session commands)) ≡ o → trip (past_of home.site (story_in session (disarm session commands))) ≡ None
      by_trip None e = disarmed_site (actors armed_of armed_at session.plan (story_in session commands)) commands home whole d (inl e)
      by_trip (Some t) e = disarmed_site (actors armed_of armed_at session.plan (story_in session commands)) commands home whole d (inr (site_listed armed_of armed_at session.plan (story_in session commands) home d (ap is_some e)))

  untripped_coordinator : (commands : List Command) → Coordinator.trip (coord_past (story_in session (disarm session commands))) ≡ None
  untripped_coordinator commands = by_trip (Coordinator.trip (coord_past (story_in session commands))) refl
    where
      armed_of : CoordPast → Bool
      armed_of past = is_some (Coordinator.trip past)

      armed_at : SitePast → Bool
      armed_at past = is_some (trip past)

      by_trip : (o : Option Trip) → Coordinator.trip (coord_past (story_in session commands)) ≡ o → Coordinator.trip (coord_past (story_in session (disarm session commands))) ≡ None
      by_trip None e = disarmed_coordinator (actors armed_of armed_at session.plan (story_in session commands)) commands (inl e)
      by_trip (Some t) e = disarmed_coordinator (actors armed_of armed_at session.plan (story_in session commands)) commands (inr (coordinator_listed armed_of armed_at session.plan (story_in session commands) (ap is_some e)))

  -- and behind the second every actor is up
  ready_site : (commands : List Command) (home : Home) → AreSites session.plan.sites → home_of session.plan home.site ≡ Some home
      → IsReady trip_of (past_of home.site (story_in session (bring_up session (disarm session commands))))
  ready_site commands home whole d = by_test (is_down (past_of home.site (story_in session calm))) refl
    where
      calm : List Command
      calm = disarm session commands

      down : List ℕ
      down = actors (λ past. is_down past) (λ past. is_down past) session.plan (story_in session calm)

      by_test : (b : Bool) → is_down (past_of home.site (story_in session calm)) ≡ b → IsReady trip_of (past_of home.site (story_in session (for_each back_more down calm)))
      by_test false e = brought_site down calm home whole d (untripped_site commands home whole d) (inl e)
      by_test true e = brought_site down calm home whole d (untripped_site commands home whole d) (inr (site_listed (λ past. is_down past) (λ past. is_down past) session.plan (story_in session calm) home d e))

  ready_coordinator : (commands : List Command) → IsReady Coordinator.trip_of (coord_past (story_in session (bring_up session (disarm session commands))))
  ready_coordinator commands = by_test (is_down (coord_past (story_in session calm))) refl
    where
      calm : List Command
      calm = disarm session commands

      down : List ℕ
      down = actors (λ past. is_down past) (λ past. is_down past) session.plan (story_in session calm)

      by_test : (b : Bool) → is_down (coord_past (story_in session calm)) ≡ b → IsReady Coordinator.trip_of (coord_past (story_in session (for_each back_more down calm)))
      by_test false e = brought_coordinator down calm (untripped_coordinator commands) (inl e)
      by_test true e = brought_coordinator down calm (untripped_coordinator commands) (inr (coordinator_listed (λ past. is_down past) (λ past. is_down past) session.plan (story_in session calm) e))

  pub brought_calm : UndeclaredAreSilent session → (commands : List Command) → AreSites session.plan.sites → IsCalm (story_in session (bring_up session (disarm session commands)))
  brought_calm silent commands whole = record { coordinator = ready_coordinator commands; sites = λ site. by_home site (home_of session.plan site) refl }
    where
      by_home : (site : SiteId) (o : Option Home) → home_of session.plan site ≡ o → IsReady trip_of (past_of site (story_in session (bring_up session (disarm session commands))))
      by_home site None e = subst (IsReady trip_of) (sym (silent site (bring_up session (disarm session commands)) e)) (record { up = refl; untripped = refl })
      by_home site (Some home) e =
          subst (λ s. IsReady trip_of (past_of s (story_in session (bring_up session (disarm session commands))))) (its-site session.plan site home e)
          (ready_site commands home whole (home-again session.plan site home e))
