-- The commands that close a session speak of the coordinator and of declared sites, whatever it found on its disks.
use Rattle.std.proofs.Common.{◌≡◌, ◌⊎◌, ℕ, ◌==◌, ◌||◌, nat_lt, Bool, true, false, cond, not, is_some, List, [], ◌∷◌, map, inl, inr, refl, sym, ◌∙◌, ap, subst}
use Rattle.mdb_base.specs.declared.names.SiteId.{SiteId}
use Rattle.mdb_base.specs.declared.names.Tid.{Tid}
use Rattle.mdb_base.specs.Names.{same_site}
use Rattle.mdb_base.specs.Words.{Each, inserted, some_of, those}
use Rattle.mdb_base.proofs.ForCallers.{each_append, or_true, same_site-refl}
use Rattle.order_laws.specs.Chains.{In}
use Rattle.presumptions.specs.declared.Participant.{Participant}
use Rattle.fed_rules.specs.declared.commands.Command.{Command}
use Rattle.fed_rules.specs.declared.commands.Command.TheVariants as Cmd
use Rattle.fed_rules.specs.declared.commands.Place.{Place}
use Rattle.fed_rules.specs.declared.scenario.Scenario.{Scenario}
use Rattle.fed_rules.specs.declared.scenario.SiteLine.{SiteLine}
use Rattle.fed_rules.specs.Closing.{actors, ask_all, ask_site, bring_up, clear, clear_site, closed_in, deliver, disarm, end_known, for_each, give_up, in_doubt_at, inquire, known, last_sends, live, one, send_again, take_answers, taken, undecided}
use Rattle.fed_rules.specs.CoordPast as Coordinator
use Rattle.fed_rules.specs.CoordPast.{CoordPast}
use Rattle.fed_rules.specs.Happenings.{is_down}
use Rattle.fed_rules.specs.Plans.{declares, is_actor, is_declared}
use Rattle.fed_rules.specs.Resumed.{going_on, plan_of}
use Rattle.fed_rules.specs.Scenarios.{home_of, protocols_in, sites}
use Rattle.fed_rules.specs.Sessions.{Session, fresh}
use Rattle.fed_rules.specs.SitePast.{SitePast, is_local, trip}
use Rattle.fed_rules.specs.Story.{Story, coord_past, past_of, story_in}
use Rattle.line_laws.specs.Lines.{ClosingIsHeard, IsHeard}
use Rattle.line_laws.specs.Resumed.{ResumingIsHeard, SessionsCloseHeard}

-- ---- a listed site is declared

abbrev site_of : Participant → SiteId
site_of p = p.site

put_in : (before : Participant → Participant → Bool) (x : Participant) (ys : List Participant) (site : SiteId) → In site (map site_of (inserted before x ys)) → (x.site ≡ site) ⊎ In site (map site_of ys)
put_in before x [] site (inl e) = inl e
put_in before x [] site (inr i) = absurd i
put_in before x (y ∷ ys) site i = by_test (before y x) i (put_in before x ys site)
  where
    by_test : (b : Bool) → In site (map site_of (cond b (y ∷ inserted before x ys) (x ∷ y ∷ ys))) → (In site (map site_of (inserted before x ys)) → (x.site ≡ site) ⊎ In site (map site_of ys)) → (x.site ≡ site) ⊎ In site (map site_of (y ∷ ys))
    by_test true (inl e) more = inr (inl e)
    by_test true (inr j) more = elim (more j) [ inl e ↦ inl e | inr k ↦ inr (inr k) ]
    by_test false (inl e) more = inl e
    by_test false (inr j) more = inr j

in_declared : (lines : List SiteLine) (site : SiteId) → In site (map site_of (protocols_in lines)) → is_declared lines site ≡ true
in_declared [] site i = absurd i
in_declared (line ∷ lines) site i = by_place (put_in (λ a b. nat_lt a.site.0 b.site.0) (record { site = line.site; protocol = line.protocol }) (protocols_in lines) site i) (in_declared lines site)
  where
    by_place : (line.site ≡ site) ⊎ In site (map site_of (protocols_in lines)) → (In site (map site_of (protocols_in lines)) → is_declared lines site ≡ true) → is_declared (line ∷ lines) site ≡ true
    by_place (inl e) more = ap (λ b. b || some_of (declares site) lines) (ap (λ s. same_site s site) e ∙ same_site-refl site)
    by_place (inr j) more = ap (λ b. declares site line || b) (more j) ∙ or_true (declares site line)

module _ (session : Session) where
  abbrev plan : Scenario
  plan = session.plan

  site_declared : (site : SiteId) → In site (sites plan) → is_declared plan.sites site ≡ true
  site_declared site i = in_declared plan.sites site i

  actor_declared : (site : SiteId) → In site (sites plan) → is_actor plan.sites site.0 ≡ true
  actor_declared site i = ap (λ b. (site.0 == 0) || b) (site_declared site i) ∙ or_true (site.0 == 0)

  abbrev Heard : List Command → Type 0
  Heard commands = Each (IsHeard plan.sites) commands

  -- what each item of a list adds
  each_adds : {A : Type 0} (add : A → List Command → List Command) (xs : List A) → ((x : A) → In x xs → (commands : List Command) → Heard commands → Heard (add x commands))
      → (commands : List Command) → Heard commands → Heard (for_each add xs commands)
  each_adds add [] f commands h = h
  each_adds add (x ∷ xs) f commands h = each_adds add xs (λ y i. f y (inr i)) (add x commands) (f x (inl refl) commands h)

  actors_heard : (P : ℕ → Type 0) (xs : List SiteId) (test : SiteId → Bool) → ((site : SiteId) → In site xs → P site.0) → (actor : ℕ) → In actor (map (λ (site : SiteId). site.0) (those test xs)) → P actor
  actors_heard P [] test f actor i = absurd i
  actors_heard P (x ∷ xs) test f actor i = by_test (test x) i (actors_heard P xs test (λ site j. f site (inr j)) actor)
    where
      by_test : (b : Bool) → In actor (map (λ (site : SiteId). site.0) (cond b (x ∷ those test xs) (those test xs))) → (In actor (map (λ (site : SiteId). site.0) (those test xs)) → P actor) → P actor
      by_test true (inl e) more = subst P e (f x (inl refl))
      by_test true (inr j) more = more j
      by_test false j more = more j

  actor_heard : (of_coordinator : CoordPast → Bool) (of_site : SitePast → Bool) (story : Story) (actor : ℕ) → In actor (actors of_coordinator of_site plan story) → is_actor plan.sites actor ≡ true
  actor_heard of_coordinator of_site story actor i = by_test (of_coordinator (coord_past story)) i
    where
      sited : In actor (map (λ (site : SiteId). site.0) (those (λ site. of_site (past_of site story)) (sites plan))) → is_actor plan.sites actor ≡ true
      sited j = actors_heard (λ n. is_actor plan.sites n ≡ true) (sites plan) (λ site. of_site (past_of site story)) actor_declared actor j

      by_test : (b : Bool) → In actor (one b 0 (map (λ (site : SiteId). site.0) (those (λ site. of_site (past_of site story)) (sites plan)))) → is_actor plan.sites actor ≡ true
      by_test true (inl e) = subst (λ n. is_actor plan.sites n ≡ true) e refl
      by_test true (inr j) = sited j
      by_test false j = sited j

  -- ---- the steps of closing

  takes_heard : (places : List Place) (commands : List Command) → Heard commands → Heard (take_answers places commands)
  takes_heard [] commands h = h
  takes_heard (place ∷ places) commands h = takes_heard places (Cmd.Take place.site place.place ∷ commands) (tt, h)

  taken_heard : (commands : List Command) → Heard commands → Heard (taken session commands)
  taken_heard commands h = takes_heard (last_sends session commands) commands h

  deliver_heard : (place : Place) (commands : List Command) → Heard commands → Heard (deliver session place commands)
  deliver_heard place commands h = taken_heard (Cmd.Give place.site place.place ∷ commands) (tt, h)

  again_heard : (tid : Tid) (commands : List Command) → Heard commands → Heard (send_again session tid commands)
  again_heard tid commands h =
      each_adds (deliver session) (last_sends session (Cmd.Again tid ∷ commands)) (λ place i. deliver_heard place) (Cmd.Again tid ∷ commands) (tt, h)

  inquire_heard : (site : SiteId) (tid : Tid) → In site (sites plan) → (commands : List Command) → Heard commands → Heard (inquire session site tid commands)
  inquire_heard site tid i commands h =
      let asked = taken session (Cmd.Ask site tid ∷ commands) in
      each_adds (λ place more. Cmd.Give place.site place.place ∷ more) (last_sends session asked) (λ place j more k. (tt, k)) asked
      (taken_heard (Cmd.Ask site tid ∷ commands) (site_declared site i, h))

  disarm_heard : (commands : List Command) → Heard commands → Heard (disarm session commands)
  disarm_heard commands h =
      each_adds (λ actor more. Cmd.Trip actor 0 0 ∷ more) (actors (λ past. is_some (Coordinator.trip past)) (λ past. is_some (trip past)) plan (story_in session commands))
      (λ actor i more k. (actor_heard (λ past. is_some (Coordinator.trip past)) (λ past. is_some (trip past)) (story_in session commands) actor i, k)) commands h

  bring_up_heard : (commands : List Command) → Heard commands → Heard (bring_up session commands)
  bring_up_heard commands h =
      each_adds (λ actor more. Cmd.Back actor ∷ more) (actors (λ past. is_down past) (λ past. is_down past) plan (story_in session commands))
      (λ actor i more k. (actor_heard (λ past. is_down past) (λ past. is_down past) (story_in session commands) actor i, k)) commands h

  give_up_heard : (commands : List Command) → Heard commands → Heard (give_up session commands)
  give_up_heard commands h = each_adds (λ tid more. Cmd.Late tid ∷ more) (undecided (story_in session commands)) (λ tid i more k. (tt, k)) commands h

  clear_site_heard : (story : Story) (site : SiteId) → In site (sites plan) → (commands : List Command) → Heard commands → Heard (clear_site plan story site commands)
  clear_site_heard story site i commands h =
      each_adds (λ tid more. Cmd.Drop site tid ∷ more) (those (λ tid. not (is_local (past_of site story) tid)) (live plan story site)) (λ tid j more k. (site_declared site i, k))
      (for_each (λ (tid : Tid) more. Cmd.Abort tid.tx ∷ more) (those (is_local (past_of site story)) (live plan story site)) commands)
      (each_adds (λ (tid : Tid) more. Cmd.Abort tid.tx ∷ more) (those (is_local (past_of site story)) (live plan story site)) (λ tid j more k. (tt, k)) commands h)

  clear_heard : (commands : List Command) → Heard commands → Heard (clear session commands)
  clear_heard commands h = each_adds (clear_site plan (story_in session commands)) (sites plan) (λ site i. clear_site_heard (story_in session commands) site i) commands h

  end_known_heard : (commands : List Command) → Heard commands → Heard (end_known session commands)
  end_known_heard commands h = each_adds (send_again session) (known plan (story_in session commands)) (λ tid i. again_heard tid) commands h

  ask_site_heard : (story : Story) (site : SiteId) → In site (sites plan) → (commands : List Command) → Heard commands → Heard (ask_site session story site commands)
  ask_site_heard story site i commands h = each_adds (inquire session site) (in_doubt_at (home_of plan site) story) (λ tid j. inquire_heard site tid i) commands h

  ask_all_heard : (commands : List Command) → Heard commands → Heard (ask_all session commands)
  ask_all_heard commands h = each_adds (ask_site session (story_in session commands)) (sites plan) (λ site i. ask_site_heard (story_in session commands) site i) commands h

  closed_heard : (commands : List Command) → Heard commands → Heard (closed_in session commands)
  closed_heard commands h =
      ask_all_heard _ (end_known_heard _ (clear_heard _ (give_up_heard _ (bring_up_heard _ (disarm_heard commands h)))))

pub closing_heard : ClosingIsHeard
closing_heard scenario whole commands h = closed_heard (fresh scenario) commands h

pub sessions_heard : SessionsCloseHeard
sessions_heard session commands h = closed_heard session commands h

pub resuming_heard : ResumingIsHeard
resuming_heard found behind commands is =
    (each_append (IsHeard (plan_of found).sites) behind commands (subst (Each (IsHeard (plan_of found).sites)) (sym is) (closed_heard (going_on found) [] tt))).1
