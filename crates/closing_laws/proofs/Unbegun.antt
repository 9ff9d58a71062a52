-- Before the coordinator begins an attempt, no site has a run of it, and none has closed it.
use Rattle.std.proofs.Common.{◌≡◌, ◌≤◌, Bool, true, false, cond, ◌&&◌, ◌||◌, Option, Some, None, List, [], ◌∷◌, refl, sym, ap, ap₂, subst, ◌∙◌, arith}
use Rattle.mdb_base.specs.declared.names.Tid.{Tid}
use Rattle.mdb_base.specs.declared.names.Tx.{Tx}
use Rattle.mdb_base.specs.Names.{same_site, same_tid}
use Rattle.mdb_base.specs.Words.{Each, when, given, some_of}
use Rattle.mdb_base.proofs.ForCallers.{same_tid-equal, same_tid-refl, same_tx-equal}
use Rattle.presumptions.specs.declared.Decision.{Decision}
use Rattle.order_laws.specs.Chains.{In}
use Rattle.order_laws.proofs.ForCallers.{each_at}
use Rattle.fed_rules.specs.declared.answers.Answer.TheVariants as Say
use Rattle.fed_rules.specs.declared.commands.Command.{Command}
use Rattle.fed_rules.specs.declared.events.SiteEvent.{SiteEvent}
use Rattle.fed_rules.specs.declared.events.SiteEvent.TheVariants as Ev
use Rattle.fed_rules.specs.declared.messages.ToSite.{ToSite}
use Rattle.fed_rules.specs.declared.messages.ToSite.TheVariants as To
use Rattle.fed_rules.specs.declared.scenario.Scenario.{Scenario}
use Rattle.fed_rules.specs.CoordPast as Coordinator
use Rattle.fed_rules.specs.CoordPast.{CoordPast, begun_by, begun_tids}
use Rattle.fed_rules.specs.Happenings.{Trip, quiet, comes_up, is_down, stopped, tripped}
use Rattle.fed_rules.specs.Plans.{IsScenario}
use Rattle.fed_rules.specs.Runs.{EngineLine, Begins, Acts, Takes, Seals, Refuses, Commits, Aborts, tid_of, gives_up}
use Rattle.fed_rules.specs.Scenarios.{home_of, home_at, local_site, local_home}
use Rattle.fed_rules.specs.Site.{site_line, answered, with_lines, of_ask, of_drop, of_fate, of_back, of_give, of_check}
use Rattle.fed_rules.specs.SitePast.{SiteHappening, SitePast, disk, records, trip, live, live_of_tx, is_closed, decides_on, ends}
use Rattle.fed_rules.specs.SiteRecords.{Home, site_frame, local_of, doubt_of}
use Rattle.fed_rules.specs.Story.{Story, Happened, AtSite, AtCoordinator, Nowhere, past_of, coord_past, with_site, with_coordinator, sent_to, happens, story_of}
use Rattle.coord_laws.proofs.ForCallers.{more_attempts as attempts_grow}
use Rattle.commit_laws.proofs.ForCallers.{agreed, coord-sound, nowhere}
use Rattle.federation_laws.proofs.ForCallers.{Closing, Gone, Granting, IsAbout, IsLine, IsOf, LocalMove, Made, NotAsked, Opening, Rests, SiteCause, abort_about, act_about, begin_about, commit_about, decide_about, drop_about, is_begun, line_is, live_of_tx-is, local-made, prepare_about, story-agrees, story-holds, take_about, work_about}
use Rattle.closing_laws.specs.Given.{UnbegunAreOpen}
use Rattle.closing_laws.proofs.Locals.{IsHere, line_here}

-- lines about another attempt end none of this one
ends_other : (g t : Tid) (line : EngineLine) → tid_of line ≡ t → same_tid t g ≡ false → ends g line ≡ false
ends_other g t (Commits u) e q = ap (λ z. same_tid z g) e ∙ q
ends_other g t (Begins u n) e q = refl
ends_other g t (Acts u act reply) e q = ap (λ z. gives_up (Acts u act reply) && same_tid z g) e ∙ and_off (gives_up (Acts u act reply)) (same_tid t g) q
  where
    and_off : (a b : Bool) → b ≡ false → (a && b) ≡ false
    and_off true b f = f
    and_off false b f = refl
ends_other g t (Takes u reply) e q = ap (λ z. gives_up (Takes u reply) && same_tid z g) e ∙ and_off (gives_up (Takes u reply)) (same_tid t g) q
  where
    and_off : (a b : Bool) → b ≡ false → (a && b) ≡ false
    and_off true b f = f
    and_off false b f = refl
ends_other g t (Seals u n) e q = refl
ends_other g t (Refuses u why) e q = ap (λ z. same_tid z g) e ∙ q
ends_other g t (Aborts u) e q = ap (λ z. same_tid z g) e ∙ q

ends_none : (g t : Tid) (lines : List EngineLine) → Each (λ line. tid_of line ≡ t) lines → same_tid t g ≡ false → some_of (ends g) lines ≡ false
ends_none g t [] h q = refl
ends_none g t (line ∷ lines) h q = ap₂ (λ (a b : Bool). a || b) (ends_other g t line h.0 q) (ends_none g t lines h.1 q)

-- an event that is about another attempt, or does nothing of this one
abbrev to_tid : ToSite → Tid
to_tid (To.Work tid e n act) = tid
to_tid (To.Take tid e n) = tid
to_tid (To.Prepare tid e n) = tid
to_tid (To.Decide tid decision) = tid

abbrev IsOff : Tid → SiteEvent → Type 0
IsOff g (Ev.Begin t) = same_tid t g ≡ false
IsOff g (Ev.Act t act) = same_tid t g ≡ false
IsOff g (Ev.Commit t) = same_tid t g ≡ false
IsOff g (Ev.Abort t) = same_tid t g ≡ false
IsOff g (Ev.Give message) = same_tid (to_tid message) g ≡ false
IsOff g event = Unit {0}

-- the line ends no run of the attempt
record EndsNone (g : Tid) (x : SiteHappening) : Type 0 where
  none : some_of (ends g) x.lines ≡ false

module _ (home : Home) (past : SitePast) (g : Tid) where
  none_when : (b : Bool) (x y : SiteHappening) → EndsNone g x → EndsNone g y → EndsNone g (when b x y)
  unfolding when
  none_when true x y p q = p
  none_when false x y p q = q

  none_given : {A : Type 0} (o : Option A) (x : SiteHappening) (some : A → SiteHappening) → EndsNone g x → ((z : A) → EndsNone g (some z)) → EndsNone g (given o some x)
  unfolding given
  none_given None x some p q = p
  none_given (Some z) x some p q = q z

  none_tripped : (t : Option Trip) (x : SiteHappening) → EndsNone g x → EndsNone g (tripped site_frame (disk home past) t x)
  unfolding tripped stopped
  none_tripped None x p = p
  none_tripped (Some t) x p = none_when _ _ _ (record { none = refl }) p

  none_about : (t : Tid) (x : SiteHappening) → IsAbout home past t x → same_tid t g ≡ false → EndsNone g x
  none_about t x a q = record { none = ends_none g t x.lines a.lines q }

  none_up : (event : SiteEvent) (x : SiteHappening) → EndsNone g x → EndsNone g (when (is_down past) (quiet event Say.Down) (tripped site_frame (disk home past) (trip past) x))
  none_up event x p = none_when _ _ _ (record { none = refl }) (none_tripped (trip past) x p)

  none_drop : (t : Tid) → live home past g ≡ None → EndsNone g (of_drop home past t)
  unfolding of_drop given
  none_drop t e = by_test (same_tid t g) refl
    where
      by_test : (b : Bool) → same_tid t g ≡ b → EndsNone g (of_drop home past t)
      by_test false q = none_about t (of_drop home past t) (drop_about home past t) q
      by_test true q =
          none_when _ _ _ (record { none = refl })
          (subst (λ o. EndsNone g (given o (λ run. with_lines (Ev.Drop t) (Say.Dropped t) (Aborts t ∷ [])) (quiet (Ev.Drop t) Say.Idle))) (sym (ap (live home past) (same_tid-equal t g q) ∙ e)) (record { none = refl }))

  none_line : (event : SiteEvent) → IsOff g event → live home past g ≡ None → EndsNone g (site_line home past event)
  unfolding site_line answered stopped of_ask of_fate of_back of_check of_give
  none_line (Ev.Begin t) off e = none_up _ _ (none_about t _ (begin_about home past t) off)
  none_line (Ev.Act t act) off e = none_up _ _ (none_about t _ (act_about home past t act) off)
  none_line (Ev.Commit t) off e = none_up _ _ (none_about t _ (commit_about home past t) off)
  none_line (Ev.Abort t) off e = none_up _ _ (none_about t _ (abort_about home past t) off)
  none_line (Ev.Fate tx) off e = none_up _ _ (none_given (local_of (records home past) tx) _ _ (none_given (live_of_tx home past tx) _ _ (record { none = refl }) (λ z. record { none = refl })) (λ z. record { none = refl }))
  none_line (Ev.Give (To.Work t ep n act)) off e = none_up _ _ (none_about t _ (work_about home past t ep n act) off)
  none_line (Ev.Give (To.Take t ep n)) off e = none_up _ _ (none_about t _ (take_about home past t ep n) off)
  none_line (Ev.Give (To.Prepare t ep n)) off e = none_up _ _ (none_about t _ (prepare_about home past t ep n) off)
  none_line (Ev.Give (To.Decide t decision)) off e = none_up _ _ (none_about t _ (decide_about home past t decision) off)
  none_line (Ev.Ask t) off e = none_up _ _ (none_given (doubt_of (records home past) t) _ _ (record { none = refl }) (λ z. record { none = refl }))
  none_line (Ev.Drop t) off e = none_up _ _ (none_drop t e)
  none_line (Ev.Halt cut) off e = none_when _ _ _ (record { none = refl }) (record { none = refl })
  none_line (Ev.Trip calls cut) off e = record { none = refl }
  none_line Ev.Back off e = none_when _ _ _ (none_tripped (trip past) _ (record { none = refl })) (record { none = refl })
  none_line Ev.Check off e = none_up _ _ (none_when _ _ _ (record { none = refl }) (record { none = refl }))

-- no fewer attempts later
more_attempts : (scenario : Scenario) (commands : List Command) (command : Command) (tx : Tx) → Coordinator.attempts_of (coord_past (story_of scenario commands)) tx ≤ Coordinator.attempts_of (coord_past (story_of scenario (command ∷ commands))) tx
more_attempts scenario commands command tx = by_case (happens scenario (story_of scenario commands) command)
  where
    past : CoordPast
    past = coord_past (story_of scenario commands)

    by_case : (happened : Happened) → Coordinator.attempts_of past tx ≤ Coordinator.attempts_of (with_coordinator happened past) tx
    by_case (Nowhere answer) = omega arith
    by_case (AtSite at x) = omega arith
    by_case (AtCoordinator x) = attempts_grow tx (begun_by x.answer) (begun_tids past)

-- the attempt isn't there
record IsUnopened (home : Home) (past : SitePast) (g : Tid) : Type 0 where
  shut : is_closed past g ≡ false
  none : live home past g ≡ None

unopened : (scenario : Scenario) (commands : List Command) (home : Home) (g : Tid) → IsScenario scenario → home_of scenario home.site ≡ Some home → local_site scenario g.tx ≡ None
    → Coordinator.attempts_of (coord_past (story_of scenario commands)) g.tx ≤ g.attempt → IsUnopened home (past_of home.site (story_of scenario commands)) g
unopened scenario [] home g whole d global unbegun = record { shut = refl; none = refl }
unopened scenario (command ∷ commands) home g whole d global unbegun =
    by_case (happens scenario story command) (line_is scenario story command) (unopened scenario commands home g whole d global fewer)
  where
    story : Story
    story = story_of scenario commands

    past : SitePast
    past = past_of home.site story

    fewer : Coordinator.attempts_of (coord_past story) g.tx ≤ g.attempt
    fewer = let more = more_attempts scenario commands command g.tx in omega (arith, more, unbegun)

    not_home : (tx : Tx) → local_home scenario tx ≡ Some home → tx ≡ g.tx → ⊥
    not_home tx e same = (let none : local_home scenario g.tx ≡ None = ap (home_at scenario) global in let some = ap (local_home scenario) (sym same) ∙ e in let clash = sym none ∙ some in cc)

    other_tid : (t : Tid) (tx : Tx) → local_home scenario tx ≡ Some home → t.tx ≡ tx → same_tid t g ≡ false
    other_tid t tx e f = by_test (same_tid t g) refl
      where
        by_test : (b : Bool) → same_tid t g ≡ b → same_tid t g ≡ false
        by_test false q = q
        by_test true q = absurd (not_home tx e (sym f ∙ ap (λ (z : Tid). z.tx) (same_tid-equal t g q)))

    never_asked : (message : ToSite) → In message (sent_to home.site story) → IsOf g message → ⊥
    never_asked message i of =
        let begun = each_at (λ m. IsOf g m → is_begun (coord_past story) g ≡ true) message (sent_to home.site story) (story-agrees scenario whole commands home g d global).asked.begun i of in
        let less = (story-holds scenario whole commands g).numbered begun in omega (arith, less, fewer)

    never_told : (decision : Decision) → In (To.Decide g decision) (sent_to home.site story) → ⊥
    never_told decision i =
        let begun = ((agreed scenario home g commands d).telling decision i).begun in
        let less = (coord-sound scenario nowhere g commands).numbered begun in omega (arith, less, fewer)

    off_message : (message : ToSite) → In message (sent_to home.site story) → same_tid (to_tid message) g ≡ false
    off_message message i = by_test (same_tid (to_tid message) g) refl
      where
        is_of : (m : ToSite) → In m (sent_to home.site story) → to_tid m ≡ g → ⊥
        is_of (To.Work t e n act) j same = never_asked (To.Work t e n act) j same
        is_of (To.Take t e n) j same = never_asked (To.Take t e n) j same
        is_of (To.Prepare t e n) j same = never_asked (To.Prepare t e n) j same
        is_of (To.Decide t decision) j same = never_told decision (subst (λ z. In (To.Decide z decision) (sent_to home.site story)) same j)

        by_test : (b : Bool) → same_tid (to_tid message) g ≡ b → same_tid (to_tid message) g ≡ false
        by_test false q = q
        by_test true q = absurd (is_of message i (same_tid-equal (to_tid message) g q))

    off : (event : SiteEvent) → SiteCause scenario story home event → IsOff g event
    off (Ev.Begin t) c = other_tid t t.tx c.here refl
    off (Ev.Act t act) c = other_tid t c.tx c.here (same_tx-equal t.tx c.tx (live_of_tx-is home past c.tx t c.found_live))
    off (Ev.Commit t) c = other_tid t c.tx c.here (same_tx-equal t.tx c.tx (live_of_tx-is home past c.tx t c.found_live))
    off (Ev.Abort t) c = other_tid t c.tx c.here (same_tx-equal t.tx c.tx (live_of_tx-is home past c.tx t c.found_live))
    off (Ev.Give message) c = off_message message c
    off (Ev.Fate tx) c = tt
    off (Ev.Ask t) c = tt
    off (Ev.Drop t) c = tt
    off (Ev.Halt cut) c = tt
    off (Ev.Trip calls cut) c = tt
    off Ev.Back c = tt
    off Ev.Check c = tt

    asked : (event : SiteEvent) → SiteCause scenario story home event → NotAsked g event
    asked (Ev.Give message) c = λ of. never_asked message c of
    asked (Ev.Begin t) c = tt
    asked (Ev.Act t act) c = tt
    asked (Ev.Commit t) c = tt
    asked (Ev.Abort t) c = tt
    asked (Ev.Fate tx) c = tt
    asked (Ev.Ask t) c = tt
    asked (Ev.Drop t) c = tt
    asked (Ev.Halt cut) c = tt
    asked (Ev.Trip calls cut) c = tt
    asked Ev.Back c = tt
    asked Ev.Check c = tt

    undecided : (event : SiteEvent) → SiteCause scenario story home event → decides_on g event ≡ false
    undecided (Ev.Give (To.Decide t decision)) c = off_message (To.Decide t decision) c
    undecided (Ev.Give (To.Work t e n act)) c = refl
    undecided (Ev.Give (To.Take t e n)) c = refl
    undecided (Ev.Give (To.Prepare t e n)) c = refl
    undecided (Ev.Begin t) c = refl
    undecided (Ev.Act t act) c = refl
    undecided (Ev.Commit t) c = refl
    undecided (Ev.Abort t) c = refl
    undecided (Ev.Fate tx) c = refl
    undecided (Ev.Ask t) c = refl
    undecided (Ev.Drop t) c = refl
    undecided (Ev.Halt cut) c = refl
    undecided (Ev.Trip calls cut) c = refl
    undecided Ev.Back c = refl
    undecided Ev.Check c = refl

    both_false : (b c : Bool) → c ≡ false → cond b false c ≡ false
    both_false true c e = refl
    both_false false c e = e

    none_now : (event : SiteEvent) (x : SiteHappening) → IsOff g event → LocalMove home past g event x → live home past g ≡ None → live home (x ∷ past) g ≡ None
    none_now event x o (Rests i s) e = s ∙ e
    none_now event x o (Gone i n) e = n
    none_now event x o (Opening w) e = (let same = subst (IsOff g) w.taken o in let yes = same_tid-refl g in let clash = sym same ∙ yes in cc)
    none_now event x o (Granting w) e = (let was = w.was in let clash = sym e ∙ was in cc)
    none_now event x o (Closing w) e = (let was = w.was in let clash = sym e ∙ was in cc)

    here : (x : SiteHappening) → IsHere scenario story home x → IsUnopened home past g → IsUnopened home (x ∷ past) g
    here x at u =
        let made = subst (λ (y : SiteHappening). Made home past g at.event y) (sym at.is) (local-made home past g at.event (asked at.event at.cause)) in
        let ended = subst (EndsNone g) (sym at.is) (none_line home past g at.event (off at.event at.cause) u.none) in
        record {
          shut = both_false (comes_up x.answer) (decides_on g x.event || some_of (ends g) x.lines || is_closed past g) (ap₂ (λ (a b : Bool). a || b) (ap₂ (λ (a b : Bool). a || b) (ap (decides_on g) made.heard ∙ undecided at.event at.cause) ended.none) u.shut);
          none = none_now at.event x (off at.event at.cause) made.move u.none;
        }

    by_case : (happened : Happened) → IsLine scenario story happened → IsUnopened home past g → IsUnopened home (with_site home.site happened past) g
    by_case (Nowhere answer) line u = u
    by_case (AtCoordinator x) line u = u
    by_case (AtSite s x) line u = by_test (same_site s home.site) refl
      where
        by_test : (b : Bool) → same_site s home.site ≡ b → IsUnopened home (cond b (x ∷ past) past) g
        by_test false q = u
        by_test true q = here x (line_here scenario story home s x d q line) u

pub unbegun_open : UnbegunAreOpen
unbegun_open scenario commands home tid whole d global unbegun = (unopened scenario commands home tid whole d global unbegun).shut

-- so it isn't live there
pub unbegun_none : (scenario : Scenario) (commands : List Command) (home : Home) (tid : Tid) → IsScenario scenario → home_of scenario home.site ≡ Some home
    → local_site scenario tid.tx ≡ None → Coordinator.attempts_of (coord_past (story_of scenario commands)) tid.tx ≤ tid.attempt
    → live home (past_of home.site (story_of scenario commands)) tid ≡ None
unbegun_none scenario commands home tid whole d global unbegun = (unopened scenario commands home tid whole d global unbegun).none
