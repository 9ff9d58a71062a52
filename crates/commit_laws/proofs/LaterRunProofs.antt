-- A later run of an attempt that is finished at a site comes to nothing.
use Rattle.std.proofs.Common.{◌≡◌, ℕ, inl, inr, ◌⊎◌, Bool, true, false, cond, ◌||◌, is_some, Option, Some, None, List, [], ◌∷◌, ◌++◌, refl, sym, ap, subst, ◌∙◌}
use Rattle.std.proofs.lemmas.Bool.{or_right, or_cases}
use Rattle.mdb_base.specs.declared.acts.Step.{Step}
use Rattle.mdb_base.specs.declared.names.Tid.{Tid}
use Rattle.mdb_base.specs.Names.{same_site}
use Rattle.mdb_base.specs.Words.{Among, given}
use Rattle.mdb_base.proofs.ForCallers.{same_site-equal, same_site-refl, same_tid-equal, when-false}
use Rattle.presumptions.specs.declared.Decision.{Decision}
use Rattle.order_laws.proofs.ForCallers.{is_among, some_of_is}
use Rattle.fed_rules.specs.declared.answers.Answer.TheVariants as Say
use Rattle.fed_rules.specs.declared.commands.Command.{Command}
use Rattle.fed_rules.specs.declared.events.SiteEvent.{SiteEvent}
use Rattle.fed_rules.specs.declared.events.SiteEvent.TheVariants as Ev
use Rattle.fed_rules.specs.declared.messages.ToSite.TheVariants as To
use Rattle.fed_rules.specs.declared.scenario.Scenario.{Scenario}
use Rattle.fed_rules.specs.Happenings.{is_down, quiet, tripped}
use Rattle.fed_rules.specs.Runs.{Run, Aborts}
use Rattle.fed_rules.specs.Scenarios.{home_of, global_program}
use Rattle.fed_rules.specs.Site.{answered, is_over, of_decide, of_give, settles, site_line, unheld}
use Rattle.fed_rules.specs.SitePast.{SiteHappening, SitePast, decides_on, disk, is_closed, live, records, trip}
use Rattle.fed_rules.specs.SiteRecords.{Home, Held, doubt_of, site_frame}
use Rattle.fed_rules.specs.Story.{Happened, AtSite, AtCoordinator, Nowhere, coord_past, past_of, sent_from, sent_to, with_site, happens, story_of}
use Rattle.commit_laws.specs.LaterRuns.{is_finished, FinishedAreNotSealed, LaterRunsLeaveNoRecord, LiveRunsAreUnheld}
use Rattle.commit_laws.specs.Records.{IsPrepared}
use Rattle.commit_laws.specs.SealLaws.{IsNextAt}
use Rattle.commit_laws.specs.Seals.{seals}
use Rattle.commit_laws.proofs.Agree.{IsGot}
use Rattle.commit_laws.proofs.AgreeSite.{bars, new-prepared}
use Rattle.commit_laws.proofs.Agreed.{agreed, at-site}
use Rattle.commit_laws.proofs.Links.{IsNext, linked, linked-here}
use Rattle.commit_laws.proofs.SealProofs.{Next, next-line, sealed-twice}
use Rattle.commit_laws.proofs.SiteFacts.{IsSealing, Shut}
use Rattle.fed_rules.proofs.ForCallers.{home-again, its-site}
use Rattle.commit_laws.proofs.Trips.{HasCalls, trips_have_calls, uncalled}

-- the event is a decision on the attempt
decision_of : (tid : Tid) (event : SiteEvent) → decides_on tid event ≡ true → (decision : Decision) × (event ≡ Ev.Give (To.Decide tid decision))
decision_of tid (Ev.Give (To.Decide t d)) e = (d, ap (λ u. Ev.Give (To.Decide u d)) (same_tid-equal t tid e))
decision_of tid (Ev.Give (To.Work t k n act)) e = cc
decision_of tid (Ev.Give (To.Take t k n)) e = cc
decision_of tid (Ev.Give (To.Prepare t k n)) e = cc
decision_of tid (Ev.Begin t) e = cc
decision_of tid (Ev.Act t act) e = cc
decision_of tid (Ev.Commit t) e = cc
decision_of tid (Ev.Abort t) e = cc
decision_of tid (Ev.Fate tx) e = cc
decision_of tid (Ev.Ask t) e = cc
decision_of tid (Ev.Drop t) e = cc
decision_of tid (Ev.Halt cut) e = cc
decision_of tid (Ev.Trip calls cut) e = cc
decision_of tid Ev.Back e = cc
decision_of tid Ev.Check e = cc

-- why it is finished: a decision was given, or a line sealed it
why_finished : (tid : Tid) (past : SitePast) → is_finished past tid ≡ true → IsGot tid past ⊎ Among (λ y. seals tid y ≡ true) past
why_finished tid past finished =
    let (y, i, why) = some_of_is (λ z. decides_on tid z.event || seals tid z) past finished in
    elim (or_cases (decides_on tid y.event) (seals tid y) why) [
      | inl decides ↦
          let (decision, is) = decision_of tid y.event decides in
          inl (decision, is_among (λ z. z.event ≡ Ev.Give (To.Decide tid decision)) y past i is)
      | inr sealed ↦ inr (is_among (λ z. seals tid z ≡ true) y past i sealed)
    ]

-- so a line may not seal it
no_sealing : (scenario : Scenario) (commands : List Command) (home : Home) (x : SiteHappening) (tid : Tid) (event : SiteEvent) (e : ℕ)
    → Next scenario commands home tid event x → is_finished (past_of home.site (story_of scenario commands)) tid ≡ true
    → IsSealing home tid (past_of home.site (story_of scenario commands)) event e → ⊥
no_sealing scenario commands home x tid event e t finished s =
    elim (why_finished tid (past_of home.site (story_of scenario commands)) finished) [
      | inl got ↦
          bars scenario home tid (coord_past (story_of scenario commands)) (past_of home.site (story_of scenario commands))
          (sent_to home.site (story_of scenario commands)) (sent_from home.site (story_of scenario commands)) event e t.agree t.comes s got
      | inr sealed ↦ sealed-twice scenario commands home x tid event e t s sealed
    ]

not_sealed : (scenario : Scenario) (commands : List Command) (home : Home) → home_of scenario home.site ≡ Some home
    → (x : SiteHappening) → IsNextAt scenario commands home.site x → (tid : Tid) → is_finished (past_of home.site (story_of scenario commands)) tid ≡ true
    → seals tid x ≡ false
not_sealed scenario commands home declared x next tid finished = by_test (seals tid x) refl where
  by_test : (b : Bool) → seals tid x ≡ b → seals tid x ≡ false
  by_test false e = e
  by_test true e =
      let (event, t) = next-line scenario commands home declared x next tid in
      let s = t.line.seals e in absurd (no_sealing scenario commands home x tid event s.0 t finished s.1)

pub finished-are-not-sealed : FinishedAreNotSealed
finished-are-not-sealed scenario commands site home declared =
    subst (λ s. (x : SiteHappening) → IsNextAt scenario commands s x → (tid : Tid) → is_finished (past_of s (story_of scenario commands)) tid ≡ true
    → seals tid x ≡ false)
    (its-site scenario site home declared) (not_sealed scenario commands home (home-again scenario site home declared))

-- what was finished stays so
still_finished : (tid : Tid) (newer older : SitePast) → is_finished older tid ≡ true → is_finished (newer ++ older) tid ≡ true
still_finished tid [] older e = e
still_finished tid (y ∷ newer) older e = by_or (decides_on tid y.event || seals tid y) (is_finished (newer ++ older) tid) (still_finished tid newer older e)
  where
    by_or : (b c : Bool) → c ≡ true → (b || c) ≡ true
    by_or true c e = refl
    by_or false c e = e

-- a Prepared record of a finished attempt is an old one
next_record : (scenario : Scenario) (commands : List Command) (home : Home) → home_of scenario home.site ≡ Some home
    → (x : SiteHappening) → IsNextAt scenario commands home.site x → (tid : Tid) → is_finished (past_of home.site (story_of scenario commands)) tid ≡ true
    → (e : ℕ) → Among (IsPrepared tid e) (records home (x ∷ past_of home.site (story_of scenario commands)))
    → Among (IsPrepared tid e) (records home (past_of home.site (story_of scenario commands)))
next_record scenario commands home declared x next tid finished e kept =
    let here = past_of home.site (story_of scenario commands) in
    let (event, t) = next-line scenario commands home declared x next tid in
    elim (new-prepared home tid here event (records home (x ∷ here)) e t.line.kept kept) [
      | inl old ↦ old
      | inr s ↦ absurd (no_sealing scenario commands home x tid event e t finished s)
    ]

-- so it is for all lines behind the one that finished it
abbrev OldRecords : Home → SitePast → Tid → Type 0
OldRecords home past tid =
    (newer older : SitePast) → past ≡ newer ++ older → is_finished older tid ≡ true → (e : ℕ) → Among (IsPrepared tid e) (records home past)
    → Among (IsPrepared tid e) (records home older)

old_behind : (home : Home) (tid : Tid) (x : SiteHappening) (past : SitePast)
    → (is_finished past tid ≡ true → (e : ℕ) → Among (IsPrepared tid e) (records home (x ∷ past)) → Among (IsPrepared tid e) (records home past))
    → OldRecords home past tid → OldRecords home (x ∷ past) tid
old_behind home tid x past one rest [] older is finished e kept = subst (λ p. Among (IsPrepared tid e) (records home p)) is kept
old_behind home tid x past one rest (y ∷ newer) older is finished e kept =
    let same : past ≡ newer ++ older = cc in
    rest newer older same finished e (one (subst (λ p. is_finished p tid ≡ true) (sym same) (still_finished tid newer older finished)) e kept)

old_records : (scenario : Scenario) (commands : List Command) (home : Home) → home_of scenario home.site ≡ Some home → (tid : Tid)
    → OldRecords home (past_of home.site (story_of scenario commands)) tid
old_records scenario [] home declared tid = at_first where
  at_first : (newer older : SitePast) → [] ≡ newer ++ older → is_finished older tid ≡ true → (e : ℕ) → Among (IsPrepared tid e) (records home [])
      → Among (IsPrepared tid e) (records home older)
  at_first [] [] is finished e kept = kept
  at_first [] (y ∷ older) is finished e kept = cc
  at_first (y ∷ newer) older is finished e kept = cc
old_records scenario (command ∷ commands) home declared tid =
    more (happens scenario (story_of scenario commands) command) refl (old_records scenario commands home declared tid)
  where
    past : SitePast
    past = past_of home.site (story_of scenario commands)

    more : (happened : Happened) → happens scenario (story_of scenario commands) command ≡ happened → OldRecords home past tid
        → OldRecords home (with_site home.site happened past) tid
    more (Nowhere answer) e rest = rest
    more (AtCoordinator x) e rest = rest
    more (AtSite at x) e rest = by_test (same_site at home.site) refl
      where
        by_test : (b : Bool) → same_site at home.site ≡ b → OldRecords home (cond b (x ∷ past) past) tid
        by_test false q = rest
        by_test true q =
            let here : happens scenario (story_of scenario commands) command ≡ AtSite home.site x = e ∙ ap (λ s. AtSite s x) (same_site-equal at home.site q) in
            old_behind home tid x past (next_record scenario commands home declared x (command, here) tid) rest

pub later-runs-leave-no-record : LaterRunsLeaveNoRecord
later-runs-leave-no-record scenario commands site home declared =
    subst (λ s. (newer older : SitePast) → past_of s (story_of scenario commands) ≡ newer ++ older → (tid : Tid)
    → is_finished older tid ≡ true → (e : ℕ) → Among (IsPrepared tid e) (records home (newer ++ older)) → Among (IsPrepared tid e) (records home older))
    (its-site scenario site home declared)
    (λ newer older is tid finished e kept.
    old_records scenario commands home (home-again scenario site home declared) tid newer older is finished e
    (subst (λ p. Among (IsPrepared tid e) (records home p)) (sym is) kept))

-- the rule of a decision on a live run
live_decide : (home : Home) (past : SitePast) (tid : Tid) (decision : Decision) (run : Run) → doubt_of (records home past) tid ≡ None
    → live home past tid ≡ Some run → of_decide home past tid decision ≡ unheld home tid decision (Aborts tid ∷ [])
unfolding of_decide given
live_decide home past tid decision run free alive =
    ap (λ o. given o (λ held. settles home tid decision) (given (live home past tid) (λ r. unheld home tid decision (Aborts tid ∷ [])) (unheld home tid decision []))) free
    ∙ ap (λ o. given o (λ r. unheld home tid decision (Aborts tid ∷ [])) (unheld home tid decision [])) alive

unheld_calls : (home : Home) (tid : Tid) (decision : Decision) → (unheld home tid decision (Aborts tid ∷ [])).calls ≡ []
unfolding unheld
unheld_calls home tid decision = refl

-- the line of a decision at a site that is up
decide_line : (home : Home) (past : SitePast) (tid : Tid) (decision : Decision) → is_down past ≡ false → HasCalls (trip past)
    → of_decide home past tid decision ≡ unheld home tid decision (Aborts tid ∷ [])
    → site_line home past (Ev.Give (To.Decide tid decision)) ≡ unheld home tid decision (Aborts tid ∷ [])
unfolding site_line answered of_give
decide_line home past tid decision up armed is =
    when-false (is_down past) (quiet (Ev.Give (To.Decide tid decision)) Say.Down)
    (tripped site_frame (disk home past) (trip past) (of_decide home past tid decision)) up
    ∙ ap (tripped site_frame (disk home past) (trip past)) is
    ∙ uncalled home past (unheld home tid decision (Aborts tid ∷ [])) armed (unheld_calls home tid decision)

unheld_next : (scenario : Scenario) (commands : List Command) (home : Home) → home_of scenario home.site ≡ Some home
    → (x : SiteHappening) → IsNextAt scenario commands home.site x → (tid : Tid) (program : List Step) → global_program scenario tid.tx ≡ Some program
    → (run : Run) → live home (past_of home.site (story_of scenario commands)) tid ≡ Some run → (decision : Decision)
    → x.event ≡ Ev.Give (To.Decide tid decision) → x ≡ unheld home tid decision (Aborts tid ∷ [])
unheld_next scenario commands home declared x (command, e) tid program global run alive decision is =
    let past = past_of home.site (story_of scenario commands) in
    let l : IsNext scenario (story_of scenario commands) (AtSite home.site x) = subst (IsNext scenario (story_of scenario commands)) e
    (linked scenario (story_of scenario commands) command).next in
    let (event, made, came) = linked-here scenario home (story_of scenario commands) x home.site declared (same_site-refl home.site) l in
    let t = at-site scenario home tid (story_of scenario commands) event came (agreed scenario home tid commands declared) in
    let named : event ≡ Ev.Give (To.Decide tid decision) = sym t.line.is ∙ (ap (λ y. y.event) (sym made) ∙ is) in
    let line : x ≡ site_line home past (Ev.Give (To.Decide tid decision)) = made ∙ ap (site_line home past) named in
    let shut = t.agree.shut (program, global) in
    line ∙ decide_line home past tid decision (up shut (is_down past) refl) (trips_have_calls scenario home commands)
    (live_decide home past tid decision run (free shut (doubt_of (records home past) tid) refl) alive)
  where
    past : SitePast
    past = past_of home.site (story_of scenario commands)

    up : Shut home tid past → (b : Bool) → is_down past ≡ b → is_down past ≡ false
    up shut false q = q
    up shut true q = let no : Some run ≡ None = sym alive ∙ shut.down q in cc

    free : Shut home tid past → (o : Option Held) → doubt_of (records home past) tid ≡ o → doubt_of (records home past) tid ≡ None
    free shut None q = q
    free shut (Some held) q =
        let over : is_over home past tid ≡ true = or_right (is_closed past tid) (is_some (doubt_of (records home past) tid)) (ap is_some q) in
        let no : Some run ≡ None = sym alive ∙ shut.over over in cc

pub live-runs-are-unheld : LiveRunsAreUnheld
live-runs-are-unheld scenario commands site home declared =
    subst (λ s. (x : SiteHappening) → IsNextAt scenario commands s x → (tid : Tid) (program : List Step) → global_program scenario tid.tx ≡ Some program
    → (run : Run) → live home (past_of s (story_of scenario commands)) tid ≡ Some run → (decision : Decision)
    → x.event ≡ Ev.Give (To.Decide tid decision) → x ≡ unheld home tid decision (Aborts tid ∷ []))
    (its-site scenario site home declared) (unheld_next scenario commands home (home-again scenario site home declared))
