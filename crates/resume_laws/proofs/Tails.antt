-- What a session without transactions that nothing stops appends at a site: Start records, Checkpoints, and an Ended record for each line that settles.
use Rattle.std.proofs.Common.{◌≡◌, ◌+◌, Bool, true, false, cond, Option, Some, None, List, [], ◌∷◌, ◌++◌, refl, sym, ap, subst, ◌∙◌, inl, inr}
use Rattle.mdb_base.specs.declared.names.Tid.{Tid}
use Rattle.mdb_base.specs.Names.{same_site}
use Rattle.mdb_base.specs.Words.{Each, when, given}
use Rattle.mdb_base.proofs.ForCallers.{append_each, same_site-equal, some_parts}
use Rattle.presumptions.specs.declared.Decision.{Decision}
use Rattle.presumptions.specs.Table.{forces}
use Rattle.fed_rules.specs.declared.answers.Answer.TheVariants as Say
use Rattle.fed_rules.specs.declared.commands.Command.{Command}
use Rattle.fed_rules.specs.declared.events.SiteEvent.{SiteEvent}
use Rattle.fed_rules.specs.declared.events.SiteEvent.TheVariants as Ev
use Rattle.fed_rules.specs.declared.messages.FromSite.TheVariants as From
use Rattle.fed_rules.specs.declared.messages.ToSite.TheVariants as To
use Rattle.fed_rules.specs.declared.records.SiteRecord.{SiteRecord}
use Rattle.fed_rules.specs.declared.records.SiteRecord.TheVariants as Rec
use Rattle.fed_rules.specs.declared.scenario.Scenario.{Scenario}
use Rattle.fed_rules.specs.Disk.{Append, Sync, CutBack, after_calls, is_torn}
use Rattle.fed_rules.specs.Endings.{Settles}
use Rattle.fed_rules.specs.Happenings.{is_down, quiet, tripped}
use Rattle.fed_rules.specs.Scenarios.{home_of}
use Rattle.fed_rules.specs.Sessions.{Session}
use Rattle.fed_rules.specs.Runs.{EngineLine, Aborts}
use Rattle.fed_rules.specs.Site.{answered, checkpoint, of_ask, of_back, of_check, of_decide, of_drop, of_give, settles, site_line, unheld, with_lines}
use Rattle.fed_rules.specs.SitePast.{SiteHappening, SitePast, disk, epoch, is_local, live, records, trip}
use Rattle.fed_rules.specs.SiteRecords.{Home, doubt_of, site_frame}
use Rattle.fed_rules.specs.Story.{AtCoordinator, AtSite, Happened, Nowhere, Story, happens, past_of, story_in, with_site}
use Rattle.fed_rules.specs.Lines.{IsLine, SiteCause}
use Rattle.fed_rules.proofs.ForCallers.{line_is}
use Rattle.resume_laws.specs.Gentle.{IsGentle}
use Rattle.resume_laws.proofs.LiveWalk.{IsDormantIn, dormant_on}
use Rattle.resume_laws.proofs.SiteGentle.{IsGentleEvent}
use Rattle.found_laws.proofs.ForCallers.{IsIdle}
use Rattle.resume_laws.proofs.Walk.{of_cause}

-- a record that such a session appends
abbrev pub IsTail : SitePast → SiteRecord → Type 0
IsTail past (Rec.Start e) = Unit {0}
IsTail past (Rec.Checkpoint sum) = Unit {0}
IsTail past (Rec.Ended g d) = Settles past g d
IsTail past other = ⊥

-- what was appended between
pub record Tail (home : Home) (older : List SiteRecord) (now : SitePast) : Type 0 where
  pub news : List SiteRecord
  pub is : records home now ≡ news ++ older
  pub each : Each (IsTail now) news

no_news : (home : Home) (here : SitePast) (x : SiteHappening) → records home (x ∷ here) ≡ records home here → Tail home (records home here) (x ∷ here)
no_news home here x e = record { news = []; is = e; each = tt }

tail_when : (home : Home) (here : SitePast) (b : Bool) (x y : SiteHappening) → Tail home (records home here) (x ∷ here) → Tail home (records home here) (y ∷ here) → Tail home (records home here) (when b x y ∷ here)
unfolding when
tail_when home here true x y p q = p
tail_when home here false x y p q = q

tail_given : {A : Type 0} (home : Home) (here : SitePast) (o : Option A) (none : SiteHappening) (some : A → SiteHappening) → Tail home (records home here) (none ∷ here)
    → ((a : A) → Tail home (records home here) (some a ∷ here)) → Tail home (records home here) (given o some none ∷ here)
unfolding given
tail_given home here None none some p q = p
tail_given home here (Some a) none some p q = q a

settles_tail : (home : Home) (here : SitePast) (tid : Tid) (decision : Decision) → Tail home (records home here) (settles home tid decision ∷ here)
unfolding settles
settles_tail home here tid decision = record { news = Rec.Ended tid decision ∷ []; is = by_force (forces home.protocol decision); each = (inl refl, tt) }
  where
    by_force : (t : Bool) → (after_calls site_frame (disk home here) (Append (Rec.Ended tid decision) ∷ cond t (Sync ∷ []) [])).records ≡ Rec.Ended tid decision ∷ records home here
    by_force true = refl
    by_force false = refl

unheld_tail : (home : Home) (here : SitePast) (tid : Tid) (decision : Decision) (lines : List EngineLine) → Tail home (records home here) (unheld home tid decision lines ∷ here)
unfolding unheld
unheld_tail home here tid decision lines = record { news = []; is = refl; each = tt }

decide_tail : (home : Home) (here : SitePast) (tid : Tid) (decision : Decision) → Tail home (records home here) (of_decide home here tid decision ∷ here)
unfolding of_decide
decide_tail home here tid decision =
    tail_given home here (doubt_of (records home here) tid) _ _
    (tail_given home here (live home here tid) _ _ (unheld_tail home here tid decision []) (λ run. unheld_tail home here tid decision (Aborts tid ∷ [])))
    (λ held. settles_tail home here tid decision)

ask_tail : (home : Home) (here : SitePast) (tid : Tid) → Tail home (records home here) (of_ask home here tid ∷ here)
unfolding of_ask
ask_tail home here tid =
    tail_given home here (doubt_of (records home here) tid) _ _ (no_news home here (quiet (Ev.Ask tid) Say.Idle) refl)
    (λ held. no_news home here (record { event = Ev.Ask tid; answer = Say.Asks tid; sends = From.Inquiry tid ∷ []; calls = []; lines = [] }) refl)

drop_tail : (home : Home) (here : SitePast) (tid : Tid) → Tail home (records home here) (of_drop home here tid ∷ here)
unfolding of_drop
drop_tail home here tid =
    tail_when home here (is_local here tid) _ _ (no_news home here (quiet (Ev.Drop tid) Say.Idle) refl)
    (tail_given home here (live home here tid) _ _ (no_news home here (quiet (Ev.Drop tid) Say.Idle) refl) (λ run. no_news home here (with_lines (Ev.Drop tid) (Say.Dropped tid) (Aborts tid ∷ [])) refl))

back_tail : (home : Home) (here : SitePast) → Tail home (records home here) (of_back home here ∷ here)
unfolding of_back
back_tail home here = record { news = Rec.Start (epoch home here + 1) ∷ []; is = started (is_torn site_frame (disk home here)); each = (tt, tt) }
  where
    started : (t : Bool) → (after_calls site_frame (disk home here) (cond t (CutBack ∷ []) [] ++ Append (Rec.Start (epoch home here + 1)) ∷ Sync ∷ [])).records
        ≡ Rec.Start (epoch home here + 1) ∷ records home here
    started true = refl
    started false = refl

check_tail : (home : Home) (here : SitePast) → Tail home (records home here) (of_check home here ∷ here)
unfolding of_check
check_tail home here = tail_when home here _ _ _ (no_news home here (quiet Ev.Check Say.Large) refl) (record { news = checkpoint home here ∷ []; is = refl; each = (tt, tt) })

unstopped : (home : Home) (here : SitePast) (y : SiteHappening) → trip here ≡ None → Tail home (records home here) (y ∷ here)
    → Tail home (records home here) (tripped site_frame (disk home here) (trip here) y ∷ here)
unfolding tripped
unstopped home here y none p = subst (λ t. Tail home (records home here) (tripped site_frame (disk home here) t y ∷ here)) (sym none) p

while_up : (home : Home) (here : SitePast) (event : SiteEvent) (y : SiteHappening) → trip here ≡ None → Tail home (records home here) (y ∷ here)
    → Tail home (records home here) (when (is_down here) (quiet event Say.Down) (tripped site_frame (disk home here) (trip here) y) ∷ here)
while_up home here event y none p = tail_when home here (is_down here) _ _ (no_news home here (quiet event Say.Down) refl) (unstopped home here y none p)

tail_line : (home : Home) (here : SitePast) (event : SiteEvent) → trip here ≡ None → IsGentleEvent event → Tail home (records home here) (site_line home here event ∷ here)
unfolding site_line answered of_give
tail_line home here (Ev.Give (To.Decide tid decision)) none i = while_up home here (Ev.Give (To.Decide tid decision)) (of_decide home here tid decision) none (decide_tail home here tid decision)
tail_line home here (Ev.Give (To.Work tid e n act)) none i = absurd i
tail_line home here (Ev.Give (To.Take tid e n)) none i = absurd i
tail_line home here (Ev.Give (To.Prepare tid e n)) none i = absurd i
tail_line home here (Ev.Trip calls cut) none i = no_news home here (quiet (Ev.Trip calls cut) Say.Set) refl
tail_line home here (Ev.Ask tid) none i = while_up home here (Ev.Ask tid) (of_ask home here tid) none (ask_tail home here tid)
tail_line home here (Ev.Drop tid) none i = while_up home here (Ev.Drop tid) (of_drop home here tid) none (drop_tail home here tid)
tail_line home here Ev.Back none i = tail_when home here (is_down here) _ _ (unstopped home here (of_back home here) none (back_tail home here)) (no_news home here (quiet Ev.Back Say.Awake) refl)
tail_line home here Ev.Check none i = while_up home here Ev.Check (of_check home here) none (check_tail home here)
tail_line home here (Ev.Begin tid) none i = absurd i
tail_line home here (Ev.Act tid act) none i = absurd i
tail_line home here (Ev.Commit tid) none i = absurd i
tail_line home here (Ev.Abort tid) none i = absurd i
tail_line home here (Ev.Fate tx) none i = absurd i
tail_line home here (Ev.Halt cut) none i = absurd i

-- ---- through the session

later : (x : SiteHappening) (past : SitePast) (rs : List SiteRecord) → Each (IsTail past) rs → Each (IsTail (x ∷ past)) rs
later x past [] h = tt
later x past (Rec.Start e ∷ rs) h = (tt, later x past rs h.1)
later x past (Rec.Checkpoint sum ∷ rs) h = (tt, later x past rs h.1)
later x past (Rec.Ended g d ∷ rs) h = (inr h.0, later x past rs h.1)
later x past (Rec.Setup site engine protocol items ∷ rs) h = absurd h.0
later x past (Rec.Prepared tid e number ticket writes ∷ rs) h = absurd h.0
later x past (Rec.Local tid number writes ∷ rs) h = absurd h.0

assoc : (xs ys zs : List SiteRecord) → xs ++ (ys ++ zs) ≡ (xs ++ ys) ++ zs
assoc [] ys zs = refl
assoc (x ∷ xs) ys zs = ap (λ r. x ∷ r) (assoc xs ys zs)

joined : (home : Home) (older : List SiteRecord) (here : SitePast) (x : SiteHappening) → Tail home older here → Tail home (records home here) (x ∷ here) → Tail home older (x ∷ here)
joined home older here x t u = record {
  news = u.news ++ t.news;
  is = u.is ∙ ap (λ rs. u.news ++ rs) t.is ∙ assoc u.news t.news older;
  each = append_each (IsTail (x ∷ here)) u.news t.news u.each (later x here t.news t.each);
}

module _ (scenario : Scenario) (idle : IsIdle scenario) (home : Home) (declared : home_of scenario home.site ≡ Some home) (older : List SiteRecord) where
  tail_next : (story : Story) (command : Command) (happened : Happened) → IsGentle command → IsLine scenario story command happened → IsDormantIn home story
      → Tail home older (past_of home.site story) → Tail home older (with_site home.site happened (past_of home.site story))
  tail_next story command (Nowhere answer) gentle line r t = t
  tail_next story command (AtCoordinator x) gentle line r t = t
  tail_next story command (AtSite at x) gentle line r t = by_test (same_site at home.site) refl
    where
      same_home : same_site at home.site ≡ true → line.home ≡ home
      same_home q = some_parts (sym line.declared ∙ ap (home_of scenario) (sym line.here ∙ same_site-equal at home.site q) ∙ declared)

      here : (own : Home) → own ≡ home → x ≡ site_line own (past_of own.site story) line.event → SiteCause scenario own story command line.event → Tail home older (x ∷ past_of home.site story)
      here own same is cause =
          let q = of_cause scenario home story command line.event idle gentle r.decides (subst (λ h. SiteCause scenario h story command line.event) same cause) in
          let mine : x ≡ site_line home (past_of home.site story) line.event = is ∙ ap (λ (h : Home). site_line h (past_of h.site story) line.event) same in
          subst (λ y. Tail home older (y ∷ past_of home.site story)) (sym mine)
          (joined home older (past_of home.site story) (site_line home (past_of home.site story) line.event) t (tail_line home (past_of home.site story) line.event r.untripped q.gentle))

      by_test : (b : Bool) → same_site at home.site ≡ b → Tail home older (cond b (x ∷ past_of home.site story) (past_of home.site story))
      by_test false q = t
      by_test true q = here line.home (same_home q) line.is_next line.cause

pub tails_on : (session : Session) → IsIdle session.plan → (home : Home) → home_of session.plan home.site ≡ Some home → IsDormantIn home (story_in session [])
    → (commands : List Command) → Each IsGentle commands → Tail home (records home (past_of home.site (story_in session []))) (past_of home.site (story_in session commands))
tails_on session idle home declared first [] h = record { news = []; is = refl; each = tt }
tails_on session idle home declared first (command ∷ commands) h =
    tail_next session.plan idle home declared (records home (past_of home.site (story_in session []))) (story_in session commands) command
    (happens session.plan (story_in session commands) command) h.0 (line_is session.plan (story_in session commands) command)
    (dormant_on session idle home declared first commands h.1) (tails_on session idle home declared first commands h.1)
