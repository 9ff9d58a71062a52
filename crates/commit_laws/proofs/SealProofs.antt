-- An attempt is sealed at most once at a site; an acknowledged one is over; a commit never meets a live run of the known epoch.
use Rattle.std.proofs.Common.{◌≡◌, ◌<◌, inl, inr, Bool, true, false, ◌||◌, is_some, Option, Some, None, List, refl, sym, ap, subst, ◌∙◌, arith, ℕ, ◌≤◌}
use Rattle.std.proofs.lemmas.Bool.{or_left, or_right}
use Rattle.mdb_base.specs.declared.acts.Step.{Step}
use Rattle.mdb_base.specs.declared.names.Tid.{Tid}
use Rattle.mdb_base.specs.Words.{Each, Among, how_many}
use Rattle.mdb_base.proofs.ForCallers.{same_site-refl}
use Rattle.order_laws.specs.Chains.{In}
use Rattle.order_laws.proofs.ForCallers.{each_from, is_among}
use Rattle.presumptions.specs.declared.Decision.{Decision}
use Rattle.presumptions.specs.declared.Decision.TheVariants as Decided
use Rattle.fed_rules.specs.declared.commands.Command.{Command}
use Rattle.fed_rules.specs.declared.events.SiteEvent.{SiteEvent}
use Rattle.fed_rules.specs.declared.events.SiteEvent.TheVariants as Ev
use Rattle.fed_rules.specs.declared.messages.FromSite.TheVariants as From
use Rattle.fed_rules.specs.declared.messages.ToSite.TheVariants as To
use Rattle.fed_rules.specs.declared.scenario.Scenario.{Scenario}
use Rattle.fed_rules.specs.CoordPast as Coordinator
use Rattle.fed_rules.specs.CoordPast.{last_epoch, epoch_at}
use Rattle.fed_rules.specs.Runs.{Run}
use Rattle.fed_rules.specs.Scenarios.{home_of, global_program}
use Rattle.fed_rules.specs.Site.{is_over}
use Rattle.fed_rules.specs.SitePast.{SiteHappening, SitePast, records, epoch, live, is_closed}
use Rattle.fed_rules.specs.SiteRecords.{Home, Held, doubt_of}
use Rattle.fed_rules.specs.Story.{AtSite, coord_past, past_of, sent_to, sent_from, story_of}
use Rattle.commit_laws.specs.Records.{IsPrepared}
use Rattle.commit_laws.specs.Seals.{is_prepared, seals, IsPrepareOf}
use Rattle.commit_laws.specs.SealLaws.{IsNextAt, AttemptsAreSealedOnce, OnePreparedIsKept, PreparedInTheKnownEpoch, DecidedAreNotSealed, AcknowledgedAreNotInDoubt, AcknowledgedAreNotSealed, CommitsMeetNoLiveRun, ClosedHaveNoLiveRun}
use Rattle.commit_laws.proofs.Agree.{IsGot, IsOver, Agrees}
use Rattle.commit_laws.proofs.AgreeSite.{SiteTurn, bars}
use Rattle.commit_laws.proofs.Agreed.{agreed, at-site}
use Rattle.commit_laws.proofs.Links.{IsNext, linked, linked-here, home-again, its-site}
use Rattle.commit_laws.proofs.OutcomeLaws.{outcome-commits}
use Rattle.commit_laws.proofs.PreparedLaws.{committed-prepared}
use Rattle.commit_laws.proofs.SiteFacts.{IsSealing}
use Rattle.commit_laws.proofs.SiteLists.{tidy-doubt, settled-ended, tidy-once}
use Rattle.commit_laws.proofs.SiteWork.{held-prepared}

-- the next line of the site, with the invariant before it
abbrev pub Next : Scenario → List Command → Home → Tid → SiteEvent → SiteHappening → Type 0
Next scenario commands home tid event x = SiteTurn scenario home tid (coord_past (story_of scenario commands))
    (past_of home.site (story_of scenario commands)) (sent_to home.site (story_of scenario commands))
    (sent_from home.site (story_of scenario commands)) event x

pub next-line : (scenario : Scenario) (commands : List Command) (home : Home) → home_of scenario home.site ≡ Some home
    → (x : SiteHappening) → IsNextAt scenario commands home.site x → (tid : Tid)
    → (event : SiteEvent) × Next scenario commands home tid event x
next-line scenario commands home declared x (command, e) tid =
    let l : IsNext scenario (story_of scenario commands) (AtSite home.site x) = subst (IsNext scenario (story_of scenario commands)) e
    (linked scenario (story_of scenario commands) command).next in
    let (event, is, came) = linked-here scenario home (story_of scenario commands) x home.site declared
    (same_site-refl home.site) l in (
      event,
      subst (λ y. Next scenario commands home tid event y) (sym is)
          (at-site scenario home tid (story_of scenario commands) event came (agreed scenario home tid commands declared)),
    )

-- a line that seals is barred by what was given
no-seal : (scenario : Scenario) (commands : List Command) (home : Home) (x : SiteHappening) (tid : Tid) (event : SiteEvent)
    → Next scenario commands home tid event x → IsGot tid (past_of home.site (story_of scenario commands)) → seals tid x ≡ false
no-seal scenario commands home x tid event t got = by_test (seals tid x) refl where
  by_test : (b : Bool) → seals tid x ≡ b → seals tid x ≡ false
  by_test false e = e
  by_test true e =
      let s = t.line.seals e in
      absurd (bars scenario home tid (coord_past (story_of scenario commands)) (past_of home.site (story_of scenario commands))
      (sent_to home.site (story_of scenario commands))
      (sent_from home.site (story_of scenario commands)) event s.0 t.agree t.comes s.1 got)

-- what is over isn't in doubt
pub over-free : (scenario : Scenario) (commands : List Command) (home : Home) (tid : Tid) → home_of scenario home.site ≡ Some home
    → IsOver home tid (past_of home.site (story_of scenario commands))
    → doubt_of (records home (past_of home.site (story_of scenario commands))) tid ≡ None
over-free scenario commands home tid declared over = by_doubt
    (doubt_of (records home (past_of home.site (story_of scenario commands))) tid) refl where
      by_doubt : (o : Option Held) → doubt_of (records home (past_of home.site (story_of scenario commands))) tid ≡ o
          → doubt_of (records home (past_of home.site (story_of scenario commands))) tid ≡ None
      by_doubt None e = e
      by_doubt (Some held) e =
          let p = held-prepared (records home (past_of home.site (story_of scenario commands))) tid held e in
          let (d, m, f) = over.ended held.epoch p in
          tidy-doubt tid (records home (past_of home.site (story_of scenario commands))) held.epoch d
          (agreed scenario home tid commands declared).tidy p m

-- a line that may seal is the first one that does
pub sealed-twice : (scenario : Scenario) (commands : List Command) (home : Home) (x : SiteHappening) (tid : Tid) (event : SiteEvent) (e : ℕ)
    → Next scenario commands home tid event x → IsSealing home tid (past_of home.site (story_of scenario commands)) event e
    → Among (λ y. seals tid y ≡ true) (past_of home.site (story_of scenario commands)) → ⊥
sealed-twice scenario commands home x tid event e t s m =
    let here = past_of home.site (story_of scenario commands) in
    let sealed = t.agree.sealed m in
    elim sealed.left [
      | inl o ↦ elim o [
        | inl (k, p) ↦
            let ended = settled-ended tid (records home here) k p s.doubt in
            bars scenario home tid (coord_past (story_of scenario commands)) here (sent_to home.site (story_of scenario commands))
            (sent_from home.site (story_of scenario commands)) event e t.agree t.comes s (t.agree.ended ended.0 ended.1).0
        | inr down ↦ let up = s.up in let contra : true ≡ false = sym down ∙ up in cc
      ]
      | inr less ↦
          let p = t.agree.preparing e s.n (t.comes (To.Prepare tid e s.n) s.taken) in
          let named = p.epoch in
          let here_is = s.epoch in
          let no : ⊥ = omega (arith, less, named, here_is) in absurd no
    ]

sealed-once : (scenario : Scenario) (commands : List Command) (home : Home) → home_of scenario home.site ≡ Some home
    → (x : SiteHappening) → IsNextAt scenario commands home.site x → (tid : Tid) → seals tid x ≡ true
    → IsPrepareOf tid (epoch home (past_of home.site (story_of scenario commands))) x.event × Each (λ y. seals tid y ≡ false)
    (past_of home.site (story_of scenario commands))
sealed-once scenario commands home declared x next tid e =
    let (event, t) = next-line scenario commands home declared x next tid in
    let s = t.line.seals e in (
      subst (IsPrepareOf tid (epoch home (past_of home.site (story_of scenario commands)))) (sym (t.line.is ∙ s.1.taken))
          (refl, s.1.epoch),
      each_from (λ y. seals tid y ≡ false) (past_of home.site (story_of scenario commands))
          (λ y i. by_test event t y i (seals tid y) refl),
    )
  where
    by_test : (event : SiteEvent) → Next scenario commands home tid event x → (y : SiteHappening)
        → In y (past_of home.site (story_of scenario commands)) → (b : Bool) → seals tid y ≡ b → seals tid y ≡ false
    by_test event t y i false q = q
    by_test event t y i true q =
        let s = t.line.seals e in
        absurd (sealed-twice scenario commands home x tid event s.0 t s.1
        (is_among (λ z. seals tid z ≡ true) y (past_of home.site (story_of scenario commands)) i q))

pub attempts-are-sealed-once : AttemptsAreSealedOnce
attempts-are-sealed-once scenario commands site home declared =
    subst (λ s. (x : SiteHappening) → IsNextAt scenario commands s x → (tid : Tid) → seals tid x ≡ true → IsPrepareOf tid
    (epoch home (past_of s (story_of scenario commands))) x.event × Each (λ y. seals tid y ≡ false)
    (past_of s (story_of scenario commands)))
    (its-site scenario site home declared) (sealed-once scenario commands home (home-again scenario site home declared))

decided-next : (scenario : Scenario) (commands : List Command) (home : Home) → home_of scenario home.site ≡ Some home
    → (tid : Tid) (decision : Decision)
    → Among (λ y. y.event ≡ Ev.Give (To.Decide tid decision)) (past_of home.site (story_of scenario commands)) → (x : SiteHappening)
    → IsNextAt scenario commands home.site x → seals tid x ≡ false
decided-next scenario commands home declared tid decision got x next =
    let (event, t) = next-line scenario commands home declared x next tid in
    no-seal scenario commands home x tid event t (decision, got)

pub decided-are-not-sealed : DecidedAreNotSealed
decided-are-not-sealed scenario commands site home declared =
    subst (λ s. (tid : Tid) (decision : Decision) → Among (λ y. y.event ≡ Ev.Give (To.Decide tid decision))
    (past_of s (story_of scenario commands)) → (x : SiteHappening) → IsNextAt scenario commands s x → seals tid x ≡ false)
    (its-site scenario site home declared) (decided-next scenario commands home (home-again scenario site home declared))

pub acknowledged-are-not-in-doubt : AcknowledgedAreNotInDoubt
acknowledged-are-not-in-doubt scenario commands site home declared =
    subst (λ s. (tid : Tid) → In (From.Ack tid) (sent_from s (story_of scenario commands)) → doubt_of
    (records home (past_of s (story_of scenario commands))) tid ≡ None)
    (its-site scenario site home declared)
    (λ tid i. over-free scenario commands home tid (home-again scenario site home declared)
    ((agreed scenario home tid commands (home-again scenario site home declared)).acked i))

acknowledged-next : (scenario : Scenario) (commands : List Command) (home : Home) → home_of scenario home.site ≡ Some home
    → (tid : Tid) → In (From.Ack tid) (sent_from home.site (story_of scenario commands)) → (x : SiteHappening)
    → IsNextAt scenario commands home.site x → seals tid x ≡ false
acknowledged-next scenario commands home declared tid i x next =
    let (event, t) = next-line scenario commands home declared x next tid in
    no-seal scenario commands home x tid event t (t.agree.acked i).got

pub acknowledged-are-not-sealed : AcknowledgedAreNotSealed
acknowledged-are-not-sealed scenario commands site home declared =
    subst (λ s. (tid : Tid) → In (From.Ack tid) (sent_from s (story_of scenario commands)) → (x : SiteHappening)
    → IsNextAt scenario commands s x → seals tid x ≡ false)
    (its-site scenario site home declared) (acknowledged-next scenario commands home (home-again scenario site home declared))

no-live : (scenario : Scenario) (commands : List Command) (home : Home) → home_of scenario home.site ≡ Some home → (x : SiteHappening)
    → IsNextAt scenario commands home.site x → (tid : Tid) → x.event ≡ Ev.Give (To.Decide tid Decided.Commit) → (run : Run)
    → live home (past_of home.site (story_of scenario commands)) tid ≡ Some run
    → epoch_at (coord_past (story_of scenario commands)) tid home.site < epoch home (past_of home.site (story_of scenario commands))
no-live scenario commands home declared x next tid is run alive = by_line (next-line scenario commands home declared x next tid) where
  here : SitePast
  here = past_of home.site (story_of scenario commands)

  a : Agrees scenario home tid (story_of scenario commands)
  a = agreed scenario home tid commands declared

  -- a run that is live isn't closed or in doubt
  open_run : (event : SiteEvent) → Next scenario commands home tid event x
      → (is_closed here tid || is_some (doubt_of (records home here) tid)) ≡ true → ⊥
  open_run event t over =
      let told = a.telling Decided.Commit (t.comes (To.Decide tid Decided.Commit) (sym t.line.is ∙ is)) in
      let dead = (a.shut (a.global told.begun)).over over in
      let no : Some run ≡ None = sym alive ∙ dead in cc

  by_got : (event : SiteEvent) → Next scenario commands home tid event x → IsGot tid here
      → epoch_at (coord_past (story_of scenario commands)) tid home.site < epoch home here
  by_got event t got = elim (a.barred got) [
    | inl less ↦ less
    | inr closed ↦ absurd (open_run event t (or_left (is_closed here tid) (is_some (doubt_of (records home here) tid)) closed))
  ]

  free : (event : SiteEvent) → Next scenario commands home tid event x → doubt_of (records home here) tid ≡ None
  free event t = by_doubt (doubt_of (records home here) tid) refl where
    by_doubt : (o : Option Held) → doubt_of (records home here) tid ≡ o → doubt_of (records home here) tid ≡ None
    by_doubt None e = e
    by_doubt (Some held) e = absurd
        (open_run event t (or_right (is_closed here tid) (is_some (doubt_of (records home here) tid)) (ap is_some e)))

  by_line : (event : SiteEvent) × Next scenario commands home tid event x
      → epoch_at (coord_past (story_of scenario commands)) tid home.site < epoch home here
  by_line (event, t) = elim (a.telling Decided.Commit (t.comes (To.Decide tid Decided.Commit) (sym t.line.is ∙ is))).right [
    | inl right ↦ elim a.counted [
      | inl none ↦ let zero_is : epoch_at
          (coord_past (story_of scenario commands)) tid home.site ≡ 0 = ap last_epoch none in let one = a.started in omega
          (arith, zero_is, one)
      | inr (one, visited) ↦
          let kept = outcome-commits (Coordinator.records (coord_past (story_of scenario commands))) tid (sym right) in
          let p = committed-prepared scenario commands tid home declared kept visited in
          let ended = settled-ended tid (records home here) p.0 p.1 (free event t) in
          by_got event t (a.ended ended.0 ended.1).0
    ]
    | inr over ↦ by_got event t over.got
  ]

pub commits-meet-no-live-run : CommitsMeetNoLiveRun
commits-meet-no-live-run scenario commands site home declared =
    subst (λ s. (x : SiteHappening) → IsNextAt scenario commands s x → (tid : Tid) → x.event ≡ Ev.Give (To.Decide tid Decided.Commit) →
    (run : Run) → live home (past_of s (story_of scenario commands)) tid ≡ Some run → epoch_at
    (coord_past (story_of scenario commands)) tid s < epoch home (past_of s (story_of scenario commands)))
    (its-site scenario site home declared) (no-live scenario commands home (home-again scenario site home declared))

pub one-prepared-is-kept : OnePreparedIsKept
one-prepared-is-kept scenario commands site home declared =
    subst (λ s. (tid : Tid) → how_many (is_prepared tid) (records home (past_of s (story_of scenario commands))) ≤ 1)
    (its-site scenario site home declared)
    (λ tid. tidy-once tid (records home (past_of home.site (story_of scenario commands)))
    (agreed scenario home tid commands (home-again scenario site home declared)).tidy)

pub prepared-in-the-known-epoch : PreparedInTheKnownEpoch
prepared-in-the-known-epoch scenario commands site home declared =
    subst (λ s. (tid : Tid) (e : ℕ) → Among (IsPrepared tid e) (records home (past_of s (story_of scenario commands))) → e ≡ epoch_at
    (coord_past (story_of scenario commands)) tid s)
    (its-site scenario site home declared)
    (λ tid e m.
    let a = agreed scenario home tid commands (home-again scenario site home declared) in
    let p = a.prepared e m in (a.preparing e p.0 p.1).epoch)

pub closed-have-no-live-run : ClosedHaveNoLiveRun
closed-have-no-live-run scenario commands site home declared =
    subst (λ s. (tid : Tid) (program : List Step) → global_program scenario tid.tx ≡ Some program
    → is_over home (past_of s (story_of scenario commands)) tid ≡ true → live home
    (past_of s (story_of scenario commands)) tid ≡ None)
    (its-site scenario site home declared)
    (λ tid program global over.
    ((agreed scenario home tid commands (home-again scenario site home declared)).shut (program, global)).over over)
