-- The invariant holds in the story of any commands.
use Rattle.std.proofs.Common.{◌≡◌, ℕ, inl, inr, Bool, true, false, cond, Some, List, [], ◌∷◌, ◌++◌, refl, sym, ap, subst, ◌∙◌, arith}
use Rattle.mdb_base.specs.declared.names.SiteId.{SiteId}
use Rattle.mdb_base.specs.declared.names.Tid.{Tid}
use Rattle.mdb_base.specs.Names.{same_tid, same_site}
use Rattle.mdb_base.proofs.ForCallers.{append_nil, same_tid-equal}
use Rattle.fed_rules.specs.declared.commands.Command.{Command}
use Rattle.fed_rules.specs.declared.events.CoordEvent.{CoordEvent}
use Rattle.fed_rules.specs.declared.events.SiteEvent.{SiteEvent}
use Rattle.fed_rules.specs.declared.events.SiteEvent.TheVariants as Ev
use Rattle.fed_rules.specs.declared.scenario.Scenario.{Scenario}
use Rattle.fed_rules.specs.Coord.{coord_line}
use Rattle.fed_rules.specs.Disk.{empty_disk}
use Rattle.fed_rules.specs.Scenarios.{home_of, local_home, policy, protocols}
use Rattle.fed_rules.specs.Site.{site_line}
use Rattle.fed_rules.specs.SitePast.{set_up_calls}
use Rattle.fed_rules.specs.SiteRecords.{Home, site_frame}
use Rattle.fed_rules.specs.Story.{Story, Happened, AtSite, AtCoordinator, Nowhere, past_of, coord_past, with_site, with_coordinator, sent_to, sent_from, sends_to, sends_from, happens, story_of}
use Rattle.fed_rules.specs.Durable.{IsFirm}
use Rattle.commit_laws.specs.Records.{IsLooseEnded}
use Rattle.commit_laws.proofs.Links.{story_goes_on, numbered, member_of, IsGlobal, SiteCame, CoordCame, Linked, linked, linked-here, not-both}
use Rattle.coord_laws.proofs.ForCallers.{CoordSound, IsBegun, Turn, any_member, begins_go, coord_lines, past_sound}
use Rattle.fed_rules.specs.CoordPast.{begins}
use Rattle.commit_laws.proofs.Agree.{Agree, Agrees}
use Rattle.commit_laws.proofs.AgreeCoord.{CoordNext, coord-next}
use Rattle.commit_laws.proofs.AgreeSite.{SiteTurn, site-turn}
use Rattle.commit_laws.proofs.Declared.{is-declared}
use Rattle.fed_rules.proofs.ForCallers.{firm_quiet}
use Rattle.commit_laws.proofs.SiteFacts.{NotBegun}
use Rattle.commit_laws.proofs.SiteLines.{site-lines}

empty-firm : {R : Type 0} (size : R → ℕ) (Loose : R → Type 0) → IsFirm size Loose empty_disk
empty-firm size Loose = record { sound = record { frames = omega arith; synced = omega arith }; loose = tt }

-- before the first command
first : (scenario : Scenario) (home : Home) (g : Tid) → Agree scenario home g [] [] [] []
first scenario home g = record {
  sound = past_sound (protocols scenario) (policy scenario) (member_of home) g [] tt;
  global = (λ b. absurd b);
  firm = firm_quiet site_frame (IsLooseEnded home.protocol) empty_disk (set_up_calls home) (inr tt)
      (empty-firm site_frame (IsLooseEnded home.protocol));
  shut = (λ global. record { down = (λ e. cc); over = (λ e. cc) });
  given = (λ m i. absurd i);
  taken = (λ m i. absurd i);
  preparing = (λ e n i. absurd i);
  telling = (λ d i. absurd i);
  replied = (λ e n r i. absurd i);
  voted = (λ k i. absurd i);
  acked = (λ i. absurd i);
  asked = (λ i. absurd i);
  started = omega arith;
  known = omega arith;
  counted = inl refl;
  barred = (λ got. absurd got.1);
  ended = (λ d m. elim m [ inl e ↦ absurd e | inr i ↦ elim i [ inl e ↦ absurd e | inr j ↦ absurd j ] ]);
  settled = (λ d m. absurd m);
  prepared = (λ e m. elim m [ inl f ↦ absurd f | inr i ↦ elim i [ inl f ↦ absurd f | inr j ↦ absurd j ] ]);
  sealed = (λ m. absurd m);
  tidy = ((λ e p. absurd p), ((λ e p. absurd p), tt));
}

-- a global attempt isn't begun as a local one
not-begun : (scenario : Scenario) (site : SiteId) (story : Story) (g : Tid) (event : SiteEvent) → SiteCame scenario site story event
    → IsGlobal scenario g → NotBegun g event
not-begun scenario site story g (Ev.Begin t) (h, local) (steps, global) = by_test (same_tid t g) refl where
  by_test : (b : Bool) → same_tid t g ≡ b → b ≡ false
  by_test false q = refl
  by_test true q = absurd
      (not-both scenario g.tx h steps (ap (λ u. local_home scenario u.tx) (sym (same_tid-equal t g q)) ∙ local) global)
not-begun scenario site story g (Ev.Act t act) came global = tt
not-begun scenario site story g (Ev.Commit t) came global = tt
not-begun scenario site story g (Ev.Abort t) came global = tt
not-begun scenario site story g (Ev.Fate tx) came global = tt
not-begun scenario site story g (Ev.Give m) came global = tt
not-begun scenario site story g (Ev.Ask t) came global = tt
not-begun scenario site story g (Ev.Drop t) came global = tt
not-begun scenario site story g (Ev.Halt cut) came global = tt
not-begun scenario site story g (Ev.Trip calls cut) came global = tt
not-begun scenario site story g Ev.Back came global = tt
not-begun scenario site story g Ev.Check came global = tt

pub at-site : (scenario : Scenario) (home : Home) (g : Tid) (story : Story) (event : SiteEvent)
    → SiteCame scenario home.site story event
    → Agrees scenario home g story
    → SiteTurn scenario home g (coord_past story) (past_of home.site story) (sent_to home.site story) (sent_from home.site story) event
    (site_line home (past_of home.site story) event)
at-site scenario home g story event came a = record {
  agree = a;
  line = site-lines home g (past_of home.site story) event a.firm;
  comes = (λ m e. subst (SiteCame scenario home.site story) e came);
  global = not-begun scenario home.site story g event came;
}

-- the next line of the coordinator
pub turn : (scenario : Scenario) (home : Home) (g : Tid) (story : Story) (event : CoordEvent) → CoordCame scenario story event
    → CoordSound (protocols scenario) (member_of home) g (coord_past story)
    → Turn (protocols scenario) (member_of home) g (coord_past story) event (coord_line (protocols scenario) (policy scenario) (coord_past story) event)
turn scenario home g story event came s = record {
  sound = s;
  line = coord_lines (protocols scenario) (policy scenario) g (coord_past story) event s.firm;
  numbered = numbered scenario story event came;
}

at-coordinator : (scenario : Scenario) (home : Home) (g : Tid) (story : Story) (event : CoordEvent)
    → home_of scenario home.site ≡ Some home → CoordCame scenario story event
    → Agrees scenario home g story
    → CoordNext scenario home g (coord_past story) (past_of home.site story) (sent_to home.site story)
    (sent_from home.site story) event (coord_line (protocols scenario) (policy scenario) (coord_past story) event)
at-coordinator scenario home g story event declared came a = record {
  agree = a;
  turn = turn scenario home g story event came a.sound;
  begins = (λ steps e. (steps, (subst (CoordCame scenario story) e came).1));
  comes = (λ m e. subst (CoordCame scenario story) e came);
  declared = (is-declared scenario home.site home declared).0;
  protocol = (is-declared scenario home.site home declared).1;
}

-- whatever happens next
next : (scenario : Scenario) (home : Home) (g : Tid) (story : Story) (happened : Happened) → home_of scenario home.site ≡ Some home
    → Linked scenario story happened
    → Agrees scenario home g story
    → Agree scenario home g (with_coordinator happened (coord_past story)) (with_site home.site happened (past_of home.site story))
    (sent_to home.site story ++ sends_to home.site happened) (sent_from home.site story ++ sends_from home.site happened)
next scenario home g story (Nowhere answer) declared l a =
    subst (λ m. Agree scenario home g (coord_past story) (past_of home.site story) m (sent_from home.site story ++ []))
    (sym (append_nil (sent_to home.site story)))
    (subst (λ m. Agree scenario home g (coord_past story) (past_of home.site story) (sent_to home.site story) m)
    (sym (append_nil (sent_from home.site story))) a)
next scenario home g story (AtCoordinator x) declared l a =
    let (event, is, came) = l.next in
    subst (λ y. Agree scenario home g (y ∷ coord_past story) (past_of home.site story)
    (sent_to home.site story ++ sends_to home.site (AtCoordinator y)) (sent_from home.site story ++ [])) (sym is)
    (subst (λ m. Agree scenario home g (coord_line (protocols scenario) (policy scenario) (coord_past story) event ∷ coord_past story)
    (past_of home.site story)
    (sent_to home.site story ++ sends_to home.site (AtCoordinator (coord_line (protocols scenario) (policy scenario) (coord_past story) event))) m)
    (sym (append_nil (sent_from home.site story)))
    (coord-next scenario home g (coord_past story) (past_of home.site story) (sent_to home.site story)
    (sent_from home.site story) event (coord_line (protocols scenario) (policy scenario) (coord_past story) event)
    (at-coordinator scenario home g story event declared came a)))
next scenario home g story (AtSite at x) declared l a =
    subst (λ m. Agree scenario home g (coord_past story) (with_site home.site (AtSite at x) (past_of home.site story)) m
    (sent_from home.site story ++ sends_from home.site (AtSite at x))) (sym (append_nil (sent_to home.site story)))
    (by_test (same_site at home.site) refl)
  where
    by_test : (b : Bool) → same_site at home.site ≡ b
        → Agree scenario home g (coord_past story) (cond b (x ∷ past_of home.site story) (past_of home.site story))
        (sent_to home.site story) (sent_from home.site story ++ cond b x.sends [])
    by_test false q = subst (λ m. Agree scenario home g (coord_past story) (past_of home.site story) (sent_to home.site story) m)
        (sym (append_nil (sent_from home.site story))) a
    by_test true q =
        let (event, is, came) = linked-here scenario home story x at declared q l.next in
        subst (λ y. Agree scenario home g (coord_past story) (y ∷ past_of home.site story) (sent_to home.site story)
        (sent_from home.site story ++ y.sends)) (sym is)
        (site-turn scenario home g (coord_past story) (past_of home.site story) (sent_to home.site story)
        (sent_from home.site story) event (site_line home (past_of home.site story) event)
        (at-site scenario home g story event came a))

pub agreed : (scenario : Scenario) (home : Home) (g : Tid) (commands : List Command) → home_of scenario home.site ≡ Some home
    → Agrees scenario home g (story_of scenario commands)
agreed scenario home g [] declared = first scenario home g
agreed scenario home g (command ∷ commands) declared =
    next scenario home g (story_of scenario commands) (happens scenario (story_of scenario commands) command) declared
    (linked scenario (story_of scenario commands) command)
    (agreed scenario home g commands declared)

-- the coordinator's part holds for any site, also for one that isn't declared
pub coord-sound : (scenario : Scenario) (home : Home) (g : Tid) (commands : List Command)
    → CoordSound (protocols scenario) (member_of home) g (coord_past (story_of scenario commands))
coord-sound scenario home g commands =
    past_sound (protocols scenario) (policy scenario) (member_of home) g (coord_past (story_of scenario commands)) (story_goes_on scenario commands)

-- what was begun is an attempt of a global transaction
pub begun_global : (scenario : Scenario) (g : Tid) (commands : List Command) → IsBegun (coord_past (story_of scenario commands)) g
    → IsGlobal scenario g
begun_global scenario g [] b = absurd b
begun_global scenario g (command ∷ commands) b =
    more (happens scenario story command) (linked scenario story command) (begun_global scenario g commands) b
  where
    story : Story
    story = story_of scenario commands

    more : (happened : Happened) → Linked scenario story happened → (IsBegun (coord_past story) g → IsGlobal scenario g)
        → IsBegun (with_coordinator happened (coord_past story)) g → IsGlobal scenario g
    more (Nowhere answer) l old b = old b
    more (AtSite at x) l old b = old b
    more (AtCoordinator x) l old (inr b) = old b
    more (AtCoordinator x) l old (inl b) =
        let (event, is, came) = l.next in
        let firm = (past_sound (protocols scenario) (policy scenario) any_member g (coord_past story) (story_goes_on scenario commands)).firm in
        let line = coord_lines (protocols scenario) (policy scenario) g (coord_past story) event firm in
        let go = begins_go (protocols scenario) g (coord_past story) (coord_line (protocols scenario) (policy scenario) (coord_past story) event) line.stood
        (subst (λ y. begins g y.answer ≡ true) is b) in
        (go.0, (subst (CoordCame scenario story) (sym line.is ∙ go.1) came).1)
