-- Local attempts at a site: they are of transactions that are at home there, and no two of one transaction are live.
use Rattle.std.proofs.Common.{◌≡◌, ℕ, ◌⊎◌, Bool, true, false, cond, not, ◌&&◌, ◌||◌, ◌==◌, is_some, Option, Some, None, List, [], ◌∷◌, inl, inr, refl, sym, ap, subst, ◌∙◌}
use Rattle.mdb_base.specs.declared.acts.PlainAct.{PlainAct}
use Rattle.mdb_base.specs.declared.names.SiteId.{SiteId}
use Rattle.mdb_base.specs.declared.names.Tid.{Tid}
use Rattle.mdb_base.specs.declared.names.Tx.{Tx}
use Rattle.mdb_base.specs.Names.{same_site, same_tx}
use Rattle.mdb_base.specs.Words.{when, given, first_where, map_some}
use Rattle.mdb_base.specs.declared.replies.Reply.TheVariants as Reply_is
use Rattle.mdb_base.proofs.ForCallers.{same_site-equal, same_tx-equal, some_parts}
use Rattle.presumptions.specs.declared.Decision.{Decision}
use Rattle.order_laws.proofs.ForCallers.{first_where_some}
use Rattle.fed_rules.specs.declared.answers.Answer.TheVariants as Say
use Rattle.fed_rules.specs.declared.commands.Command.{Command}
use Rattle.fed_rules.specs.declared.events.SiteEvent.{SiteEvent}
use Rattle.fed_rules.specs.declared.events.SiteEvent.TheVariants as Ev
use Rattle.fed_rules.specs.declared.messages.ToSite.{ToSite}
use Rattle.fed_rules.specs.declared.messages.ToSite.TheVariants as To
use Rattle.fed_rules.specs.declared.scenario.Scenario.{Scenario}
use Rattle.fed_rules.specs.EngineLines.{IsRight}
use Rattle.fed_rules.specs.Happenings.{Trip, quiet, is_down, stopped, tripped}
use Rattle.fed_rules.specs.Plans.{IsScenario}
use Rattle.fed_rules.specs.Runs.{Run, attempts, run_at, unended, is_sealed}
use Rattle.fed_rules.specs.Scenarios.{home_of, local_home}
use Rattle.fed_rules.specs.Site.{site_line, answered, of_begin, reply_to, of_act, seals_local, of_commit, of_abort, of_fate, did, unknown, first_work, next_work, next_take, repeated, work_live, of_work, take_live, of_take, votes_again, votes_no, votes_yes, seals_global, prepare_live, of_prepare, settles, unheld, of_decide, of_give, of_ask, of_drop, of_back, of_check}
use Rattle.fed_rules.specs.SitePast.{SiteHappening, SitePast, disk, trip, epoch_start, engine_lines, live, live_of_tx, attempts_of, begins_tx, is_local}
use Rattle.fed_rules.specs.SiteRecords.{Home, site_frame}
use Rattle.fed_rules.specs.Story.{Story, Happened, AtSite, AtCoordinator, Nowhere, past_of, with_site, happens, story_of}
use Rattle.engine_laws.proofs.ForCallers.{found_from, is_live_of, tid_is}
use Rattle.site_history.specs.Stories.{StoriesHaveRightLines}
use Rattle.site_history.proofs.ForCallers.{act_begins-none, none_live, refusal_answer-is}
use Rattle.federation_laws.proofs.ForCallers.{Closing, Gone, Granting, IsLine, IsSiteLine, LocalMove, Made, Opening, Opens, Rests, SiteCause, line_is, local-made, local_home-declared, not-asked}

-- what begins an attempt of the transaction is a `begin` of it
abbrev pub IsBeginOf : Tx → SiteEvent → Type 0
IsBeginOf tx (Ev.Begin tid) = same_tx tid.tx tx ≡ true
IsBeginOf tx event = ⊥

pub record Begins (tx : Tx) (event : SiteEvent) (x : SiteHappening) : Type 0 where
  pub begins : begins_tx tx x.answer ≡ true → IsBeginOf tx event

module _ (tx : Tx) (event : SiteEvent) where
  begins_when : (t : Bool) (a b : SiteHappening) → Begins tx event a → Begins tx event b → Begins tx event (when t a b)
  unfolding when
  begins_when true a b p q = p
  begins_when false a b p q = q

  begins_given : {A : Type 0} (o : Option A) (none : SiteHappening) (some : A → SiteHappening) → Begins tx event none → ((x : A) → Begins tx event (some x)) → Begins tx event (given o some none)
  unfolding given
  begins_given None none some p q = p
  begins_given (Some x) none some p q = q x

  begins_none : (x : SiteHappening) → begins_tx tx x.answer ≡ false → Begins tx event x
  begins_none x e = record { begins = λ t. (let clash = sym e ∙ t in cc) }

  begins_tripped : (home : Home) (past : SitePast) (t : Option Trip) (x : SiteHappening) → Begins tx event x → Begins tx event (tripped site_frame (disk home past) t x)
  unfolding tripped stopped
  begins_tripped home past None x p = p
  begins_tripped home past (Some t) x p = begins_when _ _ _ (begins_none _ refl) p

  begins_up : (home : Home) (past : SitePast) (x : SiteHappening) → Begins tx event x → Begins tx event (when (is_down past) (quiet event Say.Down) (tripped site_frame (disk home past) (trip past) x))
  begins_up home past x p = begins_when _ _ _ (begins_none _ refl) (begins_tripped home past (trip past) x p)

module _ (tx : Tx) (home : Home) (past : SitePast) where
  of_did : (event : SiteEvent) (message : ToSite) (tid : Tid) (n : ℕ) (reply : _) (lines : _) → Begins tx event (did home past message tid n reply lines)
  unfolding did
  of_did event message tid n reply lines = begins_none tx event _ refl

  of_unknown : (event : SiteEvent) (message : ToSite) (tid : Tid) (n : ℕ) → Begins tx event (unknown home past message tid n)
  unfolding unknown
  of_unknown event message tid n = of_did event message tid n Reply_is.Unknown []

  by_work : (tid : Tid) (e n : ℕ) (act : PlainAct) → Begins tx (Ev.Give (To.Work tid e n act)) (of_work home past tid e n act)
  unfolding of_work work_live first_work next_work repeated unknown did
  by_work tid e n act =
      begins_when tx _ _ _ _ (begins_none tx _ _ refl)
      (begins_given tx _ _ _ _ (begins_when tx _ _ _ _ (begins_none tx _ _ refl) (begins_none tx _ _ refl))
      (λ run. begins_when tx _ _ _ _ (begins_none tx _ _ refl)
      (begins_when tx _ _ _ _ (begins_none tx _ _ refl) (begins_when tx _ _ _ _ (begins_none tx _ _ refl) (begins_none tx _ _ refl)))))

  by_take : (tid : Tid) (e n : ℕ) → Begins tx (Ev.Give (To.Take tid e n)) (of_take home past tid e n)
  unfolding of_take take_live next_take repeated unknown did
  by_take tid e n =
      begins_when tx _ _ _ _ (begins_none tx _ _ refl)
      (begins_given tx _ _ _ _ (begins_none tx _ _ refl)
      (λ run. begins_when tx _ _ _ _ (begins_none tx _ _ refl)
      (begins_when tx _ _ _ _ (begins_none tx _ _ refl) (begins_when tx _ _ _ _ (begins_none tx _ _ refl) (begins_none tx _ _ refl)))))

  by_prepare : (tid : Tid) (e n : ℕ) → Begins tx (Ev.Give (To.Prepare tid e n)) (of_prepare home past tid e n)
  unfolding of_prepare prepare_live seals_global votes_yes votes_again votes_no
  by_prepare tid e n =
      begins_given tx _ _ _ _
      (begins_given tx _ _ _ _ (begins_none tx _ _ refl)
      (λ run. begins_when tx _ _ _ _
      (begins_given tx _ _ _ _ (begins_none tx _ _ refl)
      (λ ticket. begins_given tx _ _ _ _ (begins_none tx _ _ refl) (λ why. begins_none tx _ _ refl)))
      (begins_none tx _ _ refl)))
      (λ held. begins_when tx _ _ _ _ (begins_none tx _ _ refl) (begins_none tx _ _ refl))

  by_decide : (tid : Tid) (decision : Decision) → Begins tx (Ev.Give (To.Decide tid decision)) (of_decide home past tid decision)
  unfolding of_decide settles unheld
  by_decide tid decision =
      begins_given tx _ _ _ _ (begins_given tx _ _ _ _ (begins_none tx _ _ refl) (λ run. begins_none tx _ _ refl)) (λ held. begins_none tx _ _ refl)

  by_give : (message : ToSite) → Begins tx (Ev.Give message) (of_give home past message)
  unfolding of_give
  by_give (To.Work tid e n act) = by_work tid e n act
  by_give (To.Take tid e n) = by_take tid e n
  by_give (To.Prepare tid e n) = by_prepare tid e n
  by_give (To.Decide tid decision) = by_decide tid decision

  by_fate : (of : Tx) → Begins tx (Ev.Fate of) (of_fate home past of)
  unfolding of_fate
  by_fate of =
      begins_given tx _ _ _ _
      (begins_given tx _ _ _ _ (by_count (attempts_of past of == 0)) (λ running. begins_none tx _ _ refl))
      (λ committed. begins_none tx _ _ refl)
    where
      by_count : (b : Bool) → Begins tx (Ev.Fate of) (quiet (Ev.Fate of) (cond b Say.Unbegun Say.Ended))
      by_count true = begins_none tx _ _ refl
      by_count false = begins_none tx _ _ refl

  pub by_line : (event : SiteEvent) → Begins tx event (site_line home past event)
  unfolding site_line answered of_begin of_act of_commit of_abort of_ask of_drop of_back of_check seals_local stopped
  by_line (Ev.Begin tid) =
      begins_up tx _ home past _
      (begins_given tx _ _ _ _
      (begins_given tx _ _ _ _ (record { begins = λ e. e }) (λ running. begins_none tx _ _ refl))
      (λ committed. begins_none tx _ _ refl))
  by_line (Ev.Act tid act) =
      begins_up tx _ home past _
      (begins_given tx _ _ _ _ (begins_none tx _ _ refl) (λ run. begins_none tx _ _ (act_begins-none tx tid (reply_to home past run act) act)))
  by_line (Ev.Commit tid) =
      begins_up tx _ home past _
      (begins_given tx _ _ _ _ (begins_none tx _ _ refl)
      (λ run. begins_given tx _ _ _ _ (begins_none tx _ _ refl) (λ why. begins_none tx _ _ (refusal_answer-is (λ a. begins_tx tx a ≡ false) (λ by key. refl) refl why))))
  by_line (Ev.Abort tid) = begins_up tx _ home past _ (begins_given tx _ _ _ _ (begins_none tx _ _ refl) (λ run. begins_none tx _ _ refl))
  by_line (Ev.Fate of) = begins_up tx _ home past _ (by_fate of)
  by_line (Ev.Give message) = begins_up tx _ home past _ (by_give message)
  by_line (Ev.Ask tid) = begins_up tx _ home past _ (begins_given tx _ _ _ _ (begins_none tx _ _ refl) (λ held. begins_none tx _ _ refl))
  by_line (Ev.Drop tid) =
      begins_up tx _ home past _
      (begins_when tx _ _ _ _ (begins_none tx _ _ refl) (begins_given tx _ _ _ _ (begins_none tx _ _ refl) (λ run. begins_none tx _ _ refl)))
  by_line (Ev.Halt cut) = begins_when tx _ _ _ _ (begins_none tx _ _ refl) (begins_none tx _ _ refl)
  by_line (Ev.Trip calls cut) = begins_none tx _ _ refl
  by_line Ev.Back = begins_when tx _ _ _ _ (begins_tripped tx _ home past (trip past) _ (begins_none tx _ _ refl)) (begins_none tx _ _ refl)
  by_line Ev.Check = begins_up tx _ home past _ (begins_when tx _ _ _ _ (begins_none tx _ _ refl) (begins_none tx _ _ refl))

-- what a site begins as a local attempt is at home there
home_of_begun : (scenario : Scenario) (story : Story) (home : Home) (event : SiteEvent) (tx : Tx) → SiteCause scenario story home event → IsBeginOf tx event → local_home scenario tx ≡ Some home
home_of_begun scenario story home (Ev.Begin tid) tx c b = sym (ap (local_home scenario) (same_tx-equal tid.tx tx b)) ∙ c.here
home_of_begun scenario story home (Ev.Act tid act) tx c b = absurd b
home_of_begun scenario story home (Ev.Commit tid) tx c b = absurd b
home_of_begun scenario story home (Ev.Abort tid) tx c b = absurd b
home_of_begun scenario story home (Ev.Fate of) tx c b = absurd b
home_of_begun scenario story home (Ev.Give message) tx c b = absurd b
home_of_begun scenario story home (Ev.Ask tid) tx c b = absurd b
home_of_begun scenario story home (Ev.Drop tid) tx c b = absurd b
home_of_begun scenario story home (Ev.Halt cut) tx c b = absurd b
home_of_begun scenario story home (Ev.Trip calls cut) tx c b = absurd b
home_of_begun scenario story home Ev.Back tx c b = absurd b
home_of_begun scenario story home Ev.Check tx c b = absurd b

-- a line of this site is its next one
pub record IsHere (scenario : Scenario) (story : Story) (home : Home) (x : SiteHappening) : Type 0 where
  pub event : SiteEvent
  pub is : x ≡ site_line home (past_of home.site story) event
  pub cause : SiteCause scenario story home event

pub line_here : (scenario : Scenario) (story : Story) (home : Home) (s : SiteId) (x : SiteHappening) → home_of scenario home.site ≡ Some home → same_site s home.site ≡ true → IsSiteLine scenario story s x → IsHere scenario story home x
line_here scenario story home s x d q line =
    let own : line.home.site ≡ home.site = sym line.here ∙ same_site-equal s home.site q in
    let same : line.home ≡ home = some_parts (sym line.declared ∙ (ap (home_of scenario) own ∙ d)) in
    record {
      event = line.event;
      is = subst (λ (z : Home). x ≡ site_line z (past_of z.site story) line.event) same line.is_next;
      cause = subst (λ z. SiteCause scenario story z line.event) same line.cause;
    }

pub local_at_home : (scenario : Scenario) (commands : List Command) (home : Home) (tid : Tid) → home_of scenario home.site ≡ Some home → is_local (past_of home.site (story_of scenario commands)) tid ≡ true
    → local_home scenario tid.tx ≡ Some home
local_at_home scenario [] home tid d e = cc
local_at_home scenario (command ∷ commands) home tid d e =
    by_case (happens scenario story command) (line_is scenario story command) e (local_at_home scenario commands home tid d)
  where
    story : Story
    story = story_of scenario commands

    either : (a b : Bool) → (a || b) ≡ true → (a ≡ true) ⊎ (b ≡ true)
    either true b t = inl refl
    either false b t = inr t

    by_case : (happened : Happened) → IsLine scenario story happened → is_local (with_site home.site happened (past_of home.site story)) tid ≡ true
        → (is_local (past_of home.site story) tid ≡ true → local_home scenario tid.tx ≡ Some home) → local_home scenario tid.tx ≡ Some home
    by_case (Nowhere answer) line t k = k t
    by_case (AtCoordinator x) line t k = k t
    by_case (AtSite s x) line t k = by_test (same_site s home.site) refl t
      where
        by_test : (b : Bool) → same_site s home.site ≡ b → is_local (cond b (x ∷ past_of home.site story) (past_of home.site story)) tid ≡ true → local_home scenario tid.tx ≡ Some home
        by_test false q t = k t
        by_test true q t = elim (either _ _ t) [
          | inl new ↦
              let here = line_here scenario story home s x d q line in
              home_of_begun scenario story home here.event tid.tx here.cause
              ((subst (Begins tid.tx here.event) (sym here.is) (by_line tid.tx home (past_of home.site story) here.event)).begins new)
          | inr old ↦ k old
        ]

-- who is found is live
pub record IsFoundLive (home : Home) (past : SitePast) (tx : Tx) (tid : Tid) : Type 0 where
  pub run : Run
  pub is_live : live home past tid ≡ Some run
  pub of_tx : tid.tx ≡ tx

pub found_live : (home : Home) (past : SitePast) (tx : Tx) (tid : Tid) → IsRight (epoch_start home past) (engine_lines past) → live_of_tx home past tx ≡ Some tid → IsFoundLive home past tx tid
found_live home past tx tid right e = by_first (first_where (is_live_of tx) (unended (epoch_start home past) (engine_lines past))) refl e
  where
    parts : (a b : Bool) → (a && b) ≡ true → (a ≡ true) × (b ≡ true)
    parts true b t = (refl, t)
    parts false b t = cc

    open_one : (run : Run) (o : Option ℕ) → run.sealed ≡ o → not (is_some o) ≡ true → cond (is_sealed run) None (Some run) ≡ Some run
    open_one run None q t = ap (λ s. cond (is_some s) None (Some run)) q
    open_one run (Some n) q t = cc

    by_first : (o : Option Run) → first_where (is_live_of tx) (unended (epoch_start home past) (engine_lines past)) ≡ o → map_some (λ (r : Run). r.tid) o ≡ Some tid → IsFoundLive home past tx tid
    by_first None f g = cc
    by_first (Some run) f g =
        let first = first_where_some (is_live_of tx) (unended (epoch_start home past) (engine_lines past)) run f in
        let (at, was) = found_from (run_at (epoch_start home past) (engine_lines past)) (attempts (epoch_start home past) (engine_lines past)) run first.0 in
        let tests = parts (same_tx run.tid.tx tx) (not (is_sealed run)) first.1 in
        let own : run.tid ≡ at = tid_is (epoch_start home past) (engine_lines past) right at run was in
        let named : run.tid ≡ tid = some_parts g in
        record {
          run = run;
          is_live = ap (live home past) (sym named ∙ own) ∙ (ap (λ o. live_here o) was ∙ open_one run run.sealed refl tests.1);
          of_tx = ap (λ (t : Tid). t.tx) (sym named) ∙ same_tx-equal run.tid.tx tx tests.0;
        }
      where
        live_here : Option Run → Option Run
        live_here None = None
        live_here (Some r) = cond (is_sealed r) None (Some r)

-- no two attempts of a local transaction are live
record OneLive (home : Home) (past : SitePast) (tx : Tx) : Type 0 where
  one : (t u : Tid) (r s : Run) → t.tx ≡ tx → u.tx ≡ tx → live home past t ≡ Some r → live home past u ≡ Some s → t ≡ u

was_live : (home : Home) (past : SitePast) (t : Tid) (event : SiteEvent) (x : SiteHappening) (run : Run) → LocalMove home past t event x → live home (x ∷ past) t ≡ Some run
    → ((r : Run) × (live home past t ≡ Some r)) ⊎ Opens home past t event x
was_live home past t event x run (Rests i s) e = inl (run, sym s ∙ e)
was_live home past t event x run (Gone i none) e = (let clash = sym none ∙ e in cc)
was_live home past t event x run (Opening o) e = inr o
was_live home past t event x run (Granting g) e = inl (g.run, g.was)
was_live home past t event x run (Closing k) e = (let none = k.now in let clash = sym none ∙ e in cc)

same_begin : (a b : Tid) → Ev.Begin a ≡ Ev.Begin b → a ≡ b
same_begin a b e = cc

one_next : StoriesHaveRightLines → (scenario : Scenario) (commands : List Command) (home : Home) (tx : Tx) (x : SiteHappening) → IsScenario scenario → home_of scenario home.site ≡ Some home → local_home scenario tx ≡ Some home
    → IsHere scenario (story_of scenario commands) home x → OneLive home (past_of home.site (story_of scenario commands)) tx → OneLive home (x ∷ past_of home.site (story_of scenario commands)) tx
one_next rights scenario commands home tx x whole d here at o = record {
  one = λ t u r s e f g h. by_case t u e f (was_live home past t at.event x r (move t e) g) (was_live home past u at.event x s (move u f) h);
}
  where
    past : SitePast
    past = past_of home.site (story_of scenario commands)

    right : IsRight (epoch_start home past) (engine_lines past)
    right = (rights scenario commands home.site home d).right

    move : (t : Tid) → t.tx ≡ tx → LocalMove home past t at.event x
    move t e =
        let own : local_home scenario t.tx ≡ Some home = ap (local_home scenario) e ∙ here in
        (subst (λ (y : SiteHappening). Made home past t at.event y) (sym at.is) (local-made home past t at.event (not-asked scenario whole commands t home home at.event own at.cause))).move

    by_case : (t u : Tid) → t.tx ≡ tx → u.tx ≡ tx → ((r : Run) × (live home past t ≡ Some r)) ⊎ Opens home past t at.event x → ((r : Run) × (live home past u ≡ Some r)) ⊎ Opens home past u at.event x → t ≡ u
    by_case t u e f (inl (r, g)) (inl (s, h)) = o.one t u r s e f g h
    by_case t u e f (inl (r, g)) (inr p) = absurd (none_live home past t r right g (ap (live_of_tx home past) (e ∙ sym f) ∙ p.alone))
    by_case t u e f (inr p) (inl (s, h)) = absurd (none_live home past u s right h (ap (live_of_tx home past) (f ∙ sym e) ∙ p.alone))
    by_case t u e f (inr p) (inr q) = same_begin t u (sym p.taken ∙ q.taken)

one_live : StoriesHaveRightLines → (scenario : Scenario) (commands : List Command) (home : Home) (tx : Tx) → IsScenario scenario → local_home scenario tx ≡ Some home → OneLive home (past_of home.site (story_of scenario commands)) tx
one_live rights scenario [] home tx whole here = record { one = λ t u r s e f g h. cc }
one_live rights scenario (command ∷ commands) home tx whole here =
    by_case (happens scenario story command) (line_is scenario story command) (one_live rights scenario commands home tx whole here)
  where
    story : Story
    story = story_of scenario commands

    d : home_of scenario home.site ≡ Some home
    d = local_home-declared scenario tx home here

    by_case : (happened : Happened) → IsLine scenario story happened → OneLive home (past_of home.site story) tx → OneLive home (with_site home.site happened (past_of home.site story)) tx
    by_case (Nowhere answer) line o = o
    by_case (AtCoordinator x) line o = o
    by_case (AtSite s x) line o = by_test (same_site s home.site) refl
      where
        by_test : (b : Bool) → same_site s home.site ≡ b → OneLive home (cond b (x ∷ past_of home.site story) (past_of home.site story)) tx
        by_test false q = o
        by_test true q = one_next rights scenario commands home tx x whole d here (line_here scenario story home s x d q line) o

-- so the live attempt of a local transaction is the one that is found
pub live_is_found : StoriesHaveRightLines → (scenario : Scenario) (commands : List Command) (home : Home) (tid : Tid) (run : Run) → IsScenario scenario → local_home scenario tid.tx ≡ Some home
    → live home (past_of home.site (story_of scenario commands)) tid ≡ Some run → live_of_tx home (past_of home.site (story_of scenario commands)) tid.tx ≡ Some tid
live_is_found rights scenario commands home tid run whole here e = by_found (live_of_tx home past tid.tx) refl
  where
    past : SitePast
    past = past_of home.site (story_of scenario commands)

    right : IsRight (epoch_start home past) (engine_lines past)
    right = (rights scenario commands home.site home (local_home-declared scenario tid.tx home here)).right

    by_found : (o : Option Tid) → live_of_tx home past tid.tx ≡ o → live_of_tx home past tid.tx ≡ Some tid
    by_found None f = absurd (none_live home past tid run right e f)
    by_found (Some other) f =
        let l = found_live home past tid.tx other right f in
        f ∙ ap (λ t. Some t) ((one_live rights scenario commands home tid.tx whole here).one other tid l.run run l.of_tx refl l.is_live e)
