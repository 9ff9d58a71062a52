-- The sixth step: each site asks about each attempt that it is in doubt of, and is given the answer.
use Rattle.std.proofs.Common.{◌≡◌, ℕ, ◌⊎◌, Bool, true, false, cond, Option, Some, None, List, [], ◌∷◌, ◌++◌, map, length, inl, inr, refl, sym, ap, subst, ◌∙◌}
use Rattle.mdb_base.specs.declared.names.SiteId.{SiteId}
use Rattle.mdb_base.specs.declared.names.Tid.{Tid}
use Rattle.mdb_base.specs.Names.{same_tid}
use Rattle.mdb_base.specs.Words.{given, item_at, found}
use Rattle.mdb_base.proofs.ForCallers.{cond-true, same_site-refl, same_tid-equal, same_tid-refl}
use Rattle.presumptions.specs.declared.Decision.{Decision}
use Rattle.presumptions.specs.Table.{presumed}
use Rattle.order_laws.specs.Chains.{In}
use Rattle.order_laws.proofs.ForCallers.{in_map}
use Rattle.fed_rules.specs.declared.answers.Answer.TheVariants as Say
use Rattle.fed_rules.specs.declared.commands.Command.{Command}
use Rattle.fed_rules.specs.declared.commands.Command.TheVariants as Cmd
use Rattle.fed_rules.specs.declared.commands.Place.{Place}
use Rattle.fed_rules.specs.declared.events.SiteEvent.TheVariants as Ev
use Rattle.fed_rules.specs.declared.messages.FromSite.TheVariants as From
use Rattle.fed_rules.specs.declared.messages.Sent.{Sent}
use Rattle.fed_rules.specs.declared.messages.ToSite.TheVariants as To
use Rattle.fed_rules.specs.declared.records.SiteRecord.{SiteRecord}
use Rattle.fed_rules.specs.declared.records.SiteRecord.TheVariants as Rec
use Rattle.fed_rules.specs.Closing.{for_each, last_sends, take_answers, taken, in_doubt_at, inquire, ask_site, ask_all}
use Rattle.fed_rules.specs.Coord.{protocol_of, tells, asked_while, of_inquiry, of_take}
use Rattle.fed_rules.specs.CoordPast.{CoordHappening, Gone, standing}
use Rattle.fed_rules.specs.Happenings.{quiet}
use Rattle.fed_rules.specs.Runs.{Aborts}
use Rattle.fed_rules.specs.Scenarios.{home_of, protocols, sites, policy}
use Rattle.fed_rules.specs.Sessions.{Session}
use Rattle.fed_rules.specs.Site.{of_ask, settles, unheld, of_decide}
use Rattle.fed_rules.specs.SitePast.{SiteHappening, SitePast, records, live}
use Rattle.fed_rules.specs.SiteRecords.{Home, Held, doubt_of, prepared_tids, doubts}
use Rattle.fed_rules.specs.Story.{Story, AtSite, AtCoordinator, past_of, coord_past, with_site, sent_to, sends_to, sent_from, happens, places_of, story_in}
use Rattle.commit_laws.proofs.ForCallers.{CoordinatorFits, home-again, its-site, settles-records}
use Rattle.fed_rules.proofs.ForCallers.{in_each, in_sorted, rising_in}
use Rattle.closing_laws.proofs.Calm.{asks, takes}
use Rattle.closing_laws.proofs.CoordTurns.{takes_there, gentle_inquiry}
use Rattle.federation_laws.proofs.ForCallers.{declared-in}
use Rattle.closing_laws.proofs.Delivered.{item_behind, give_told, sent_behind}
use Rattle.closing_laws.proofs.Onward.{IsCalm, Onward, onward_here, onward_on, onward_next, at_home, gentle_ask, gentle_give}
use Rattle.fed_rules.specs.Attempts.{each_attempt}
use Rattle.site_history.proofs.ForCallers.{found_in}

-- the site is in doubt of the attempt
abbrev pub doubt_at : Home → Story → Tid → Option Held
doubt_at home story tid = doubt_of (records home (past_of home.site story)) tid

-- who is in doubt was prepared
record IsPreparedAs (rs : List SiteRecord) (tid : Tid) (held : Held) : Type 0 where
  prepared : In tid (prepared_tids rs)
  named : held.tid ≡ tid

prepared_as : (rs : List SiteRecord) (tid : Tid) (held : Held) → doubt_of rs tid ≡ Some held → IsPreparedAs rs tid held
prepared_as [] tid held e = cc
prepared_as (Rec.Setup s g p i ∷ rs) tid held e = let r = prepared_as rs tid held e in record { prepared = r.prepared; named = r.named }
prepared_as (Rec.Checkpoint sum ∷ rs) tid held e = let r = prepared_as rs tid held e in record { prepared = r.prepared; named = r.named }
prepared_as (Rec.Start n ∷ rs) tid held e = let r = prepared_as rs tid held e in record { prepared = r.prepared; named = r.named }
prepared_as (Rec.Local t n w ∷ rs) tid held e = let r = prepared_as rs tid held e in record { prepared = r.prepared; named = r.named }
prepared_as (Rec.Ended t d ∷ rs) tid held e = by_test (same_tid t tid) e (prepared_as rs tid held)
  where
    by_test : (b : Bool) → cond b None (doubt_of rs tid) ≡ Some held → (doubt_of rs tid ≡ Some held → IsPreparedAs rs tid held) → IsPreparedAs (Rec.Ended t d ∷ rs) tid held
    by_test true f k = cc
    by_test false f k = record { prepared = (k f).prepared; named = (k f).named }
prepared_as (Rec.Prepared t ep n k w ∷ rs) tid held e = by_test (same_tid t tid) refl e (prepared_as rs tid held)
  where
    mine : Held
    mine = record { tid = t; epoch = ep; number = n; ticket = k; writes = w }

    by_test : (b : Bool) → same_tid t tid ≡ b → cond b (Some mine) (doubt_of rs tid) ≡ Some held → (doubt_of rs tid ≡ Some held → IsPreparedAs rs tid held) → IsPreparedAs (Rec.Prepared t ep n k w ∷ rs) tid held
    by_test true q f j = (let same : mine ≡ held = cc in record { prepared = inl (same_tid-equal t tid q); named = ap (λ (h : Held). h.tid) (sym same) ∙ same_tid-equal t tid q })
    by_test false q f j = record { prepared = inr (j f).prepared; named = (j f).named }

-- and is listed
pub doubt_listed : (home : Home) (story : Story) (tid : Tid) (held : Held) → doubt_at home story tid ≡ Some held → In tid (in_doubt_at (Some home) story)
doubt_listed home story tid held e =
    let rs = records home (past_of home.site story) in
    let p = prepared_as rs tid held e in
    rising_in _ tid (subst (λ t. In t (map (λ (h : Held). h.tid) (doubts rs))) p.named (in_map (λ (h : Held). h.tid) held (doubts rs) (in_sorted held (found (doubt_of rs) (each_attempt (prepared_tids rs))) (found_in (doubt_of rs) (each_attempt (prepared_tids rs)) tid held (in_each (prepared_tids rs) tid p.prepared) e))))

-- behind a settling the attempt isn't in doubt
settled_now : (home : Home) (past : SitePast) (tid : Tid) (decision : Decision) → doubt_of (records home (settles home tid decision ∷ past)) tid ≡ None
settled_now home past tid decision = ap (λ rs. doubt_of rs tid) (settles-records home past tid decision) ∙ cond-true _ _ _ (same_tid-refl tid)

-- nor behind any decision that is given
decided_settles : (home : Home) (past : SitePast) (tid : Tid) (decision : Decision) → (doubt_of (records home (of_decide home past tid decision ∷ past)) tid ≡ None) ⊎ (doubt_of (records home past) tid ≡ None)
unfolding of_decide given
decided_settles home past tid decision = by_doubt (doubt_of (records home past) tid) refl
  where
    by_doubt : (o : Option Held) → doubt_of (records home past) tid ≡ o → (doubt_of (records home (given o (λ held. settles home tid decision) (given (live home past tid) (λ run. unheld home tid decision (Aborts tid ∷ [])) (unheld home tid decision [])) ∷ past)) tid ≡ None) ⊎ (doubt_of (records home past) tid ≡ None)
    by_doubt None e = inr e
    by_doubt (Some held) e = inl (settled_now home past tid decision)

module _ (session : Session) (fits : CoordinatorFits session) where
  -- a given decision ends the doubt
  pub give_settles : (commands : List Command) (home : Home) (n : ℕ) (tid : Tid) (decision : Decision) → IsCalm (story_in session commands) → home_of session.plan home.site ≡ Some home
      → item_at (sent_to home.site (story_in session commands)) n ≡ Some (To.Decide tid decision) → doubt_at home (story_in session (Cmd.Give home.site n ∷ commands)) tid ≡ None
  give_settles commands home n tid decision c d e =
      elim (decided_settles home (past_of home.site story) tid decision) [
        | inl now ↦
            subst (λ h. doubt_of (records home (with_site home.site h (past_of home.site story))) tid ≡ None) (sym (give_told session.plan story home n tid decision c d e))
            (subst (λ b. doubt_of (records home (cond b (of_decide home (past_of home.site story) tid decision ∷ past_of home.site story) (past_of home.site story))) tid ≡ None) (sym (same_site-refl home.site)) now)
        | inr before ↦ (onward_next session.plan story (Cmd.Give home.site n) (happens session.plan story (Cmd.Give home.site n)) c (gentle_give session.plan story home.site n tid decision c e)).settles home tid d before
      ]
    where
      story : Story
      story = story_in session commands

  -- behind an inquiry the site isn't in doubt of the attempt
  record IsAnswered (home : Home) (tid : Tid) (before now : Story) : Type 0 where
    onward : Onward session.plan before now
    settled : doubt_at home now tid ≡ None

  -- the line that asks
  asking : Tid → SiteHappening
  asking tid = record { event = Ev.Ask tid; answer = Say.Asks tid; sends = From.Inquiry tid ∷ []; calls = []; lines = [] }

  ask_told : (story : Story) (home : Home) (tid : Tid) (o : Option Held) → IsCalm story → home_of session.plan home.site ≡ Some home → doubt_at home story tid ≡ o
      → happens session.plan story (Cmd.Ask home.site tid) ≡ AtSite home.site (given o (λ held. asking tid) (quiet (Ev.Ask tid) Say.Idle))
  unfolding happens of_ask asking
  ask_told story home tid o c d e =
      at_home session.plan story home (Ev.Ask tid) d
      ∙ ap (λ x. AtSite home.site x) (asks home (past_of home.site story) tid (c.sites home.site) ∙ ap (λ q. given q (λ held. asking tid) (quiet (Ev.Ask tid) Say.Idle)) e)

  inquired : (commands : List Command) (home : Home) (tid : Tid) → IsCalm (story_in session commands) → home_of session.plan home.site ≡ Some home → standing (protocols session.plan) (coord_past (story_in session commands)) tid ≡ Gone
      → IsAnswered home tid (story_in session commands) (story_in session (inquire session home.site tid commands))
  unfolding given of_take of_inquiry asked_while asking
  inquired commands home tid c d g = by_doubt (doubt_at home story tid) refl
    where
      story : Story
      story = story_in session commands

      ask : List Command
      ask = Cmd.Ask home.site tid ∷ commands

      first : Onward session.plan story (story_in session ask)
      first = onward_next session.plan story (Cmd.Ask home.site tid) (happens session.plan story (Cmd.Ask home.site tid)) c (gentle_ask session.plan story home.site tid c)

      given_all : List Command → List Command
      given_all asked = for_each (λ (place : Place) more. Cmd.Give place.site place.place ∷ more) (last_sends session asked) asked

      -- nothing was asked
      unasked : last_sends session ask ≡ [] → doubt_at home story tid ≡ None → IsAnswered home tid story (story_in session (given_all (taken session ask)))
      unasked none e =
          let same : given_all (taken session ask) ≡ ask =
          ap (λ ps. given_all (take_answers ps ask)) none ∙ ap (λ ps. for_each (λ (place : Place) more. Cmd.Give place.site place.place ∷ more) ps ask) none in
          subst (λ cs. IsAnswered home tid story (story_in session cs)) (sym same) (record { onward = first; settled = first.settles home tid d e })

      place : ℕ
      place = length (sent_from home.site story)

      take : List Command
      take = Cmd.Take home.site place ∷ ask

      answer : Decision
      answer = presumed (protocol_of (protocols session.plan) home.site)

      line : CoordHappening
      line = tells home.site tid (Say.Presumes answer) answer

      number : ℕ
      number = length (sent_to home.site (story_in session ask))

      give : List Command
      give = Cmd.Give home.site number ∷ take

      asked : (held : Held) → doubt_at home story tid ≡ Some held → IsAnswered home tid story (story_in session (given_all (taken session ask)))
      asked held e =
          let told = ask_told story home tid (Some held) c d e in
          let places : last_sends session ask ≡ record { site = home.site; place = place } ∷ [] = ap (places_of story) told in
          let there : item_at (sent_from home.site (story_in session ask)) place ≡ Some (From.Inquiry tid) =
          ap (λ h. item_at (sent_from home.site (record { command = Cmd.Ask home.site tid; happened = h } ∷ story)) place) told
          ∙ sent_behind story (Cmd.Ask home.site tid) home.site (asking tid) (From.Inquiry tid) refl in
          let second = onward_next session.plan (story_in session ask) (Cmd.Take home.site place) (happens session.plan (story_in session ask) (Cmd.Take home.site place)) first.calm (gentle_inquiry session fits ask home.site place tid first.calm there) in
          let taken_so : happens session.plan (story_in session ask) (Cmd.Take home.site place) ≡ AtCoordinator line =
          takes_there session.plan (story_in session ask) home.site place (From.Inquiry tid) there
          ∙ ap (λ x. AtCoordinator x) (takes (protocols session.plan) (policy session.plan) (coord_past (story_in session ask)) home.site (From.Inquiry tid) first.calm.coordinator
          ∙ ap (asked_while (protocols session.plan) home.site tid) (first.gone tid g)) in
          let sends : last_sends session take ≡ record { site = home.site; place = number } ∷ [] = ap (places_of (story_in session ask)) taken_so in
          let stands : item_at (sent_to home.site (story_in session take)) number ≡ Some (To.Decide tid answer) =
          ap (λ h. item_at (sent_to home.site (story_in session ask) ++ sends_to home.site h) number) taken_so
          ∙ (ap (λ b. item_at (sent_to home.site (story_in session ask) ++ map (λ (sent : Sent). sent.message) (cond b (record { site = home.site; message = To.Decide tid answer } ∷ []) [])) number) (same_site-refl home.site)
          ∙ item_behind (sent_to home.site (story_in session ask)) [] (To.Decide tid answer)) in
          let third = onward_next session.plan (story_in session take) (Cmd.Give home.site number) (happens session.plan (story_in session take) (Cmd.Give home.site number)) second.calm (gentle_give session.plan (story_in session take) home.site number tid answer second.calm stands) in
          let same : given_all (taken session ask) ≡ give =
          ap (λ ps. given_all (take_answers ps ask)) places ∙ ap (λ ps. for_each (λ (p : Place) more. Cmd.Give p.site p.place ∷ more) ps take) sends in
          subst (λ cs. IsAnswered home tid story (story_in session cs)) (sym same)
          (record {
            onward = onward_on session.plan story (story_in session ask) (story_in session give) first (onward_on session.plan (story_in session ask) (story_in session take) (story_in session give) second third);
            settled = give_settles take home number tid answer second.calm d stands;
          })

      by_doubt : (o : Option Held) → doubt_at home story tid ≡ o → IsAnswered home tid story (story_in session (given_all (taken session ask)))
      by_doubt None e = unasked (ap (places_of story) (ask_told story home tid None c d e)) e
      by_doubt (Some held) e = asked held e

  -- behind these commands the site isn't in doubt of these attempts
  record AreAnswered (home : Home) (tids : List Tid) (before now : Story) : Type 0 where
    onward : Onward session.plan before now
    settled : (tid : Tid) → In tid tids → doubt_at home now tid ≡ None

  inquire_all : (tids : List Tid) (commands : List Command) (home : Home) → IsCalm (story_in session commands) → home_of session.plan home.site ≡ Some home
      → ((tid : Tid) → standing (protocols session.plan) (coord_past (story_in session commands)) tid ≡ Gone)
      → AreAnswered home tids (story_in session commands) (story_in session (for_each (inquire session home.site) tids commands))
  inquire_all [] commands home c d g = record { onward = onward_here session.plan (story_in session commands) c; settled = λ tid i. absurd i }
  inquire_all (tid ∷ tids) commands home c d g =
      let one = inquired commands home tid c d (g tid) in
      let next = inquire session home.site tid commands in
      let rest = inquire_all tids next home one.onward.calm d (λ t. one.onward.gone t (g t)) in
      record {
        onward = onward_on session.plan (story_in session commands) (story_in session next) _ one.onward rest.onward;
        settled = λ other i. elim i [ inl same ↦ rest.onward.settles home other d (subst (λ t. doubt_at home (story_in session next) t ≡ None) same one.settled) | inr j ↦ rest.settled other j ];
      }

  -- behind these commands no such site is in doubt of any attempt
  record AreSettled (ss : List SiteId) (before now : Story) : Type 0 where
    onward : Onward session.plan before now
    settled : (home : Home) (tid : Tid) → home_of session.plan home.site ≡ Some home → In home.site ss → doubt_at home now tid ≡ None

  asked_site : (start commands : List Command) (site : SiteId) → Onward session.plan (story_in session start) (story_in session commands) → ((tid : Tid) → standing (protocols session.plan) (coord_past (story_in session commands)) tid ≡ Gone)
      → AreSettled (site ∷ []) (story_in session commands) (story_in session (ask_site session (story_in session start) site commands))
  asked_site start commands site o g = by_home (home_of session.plan site) refl
    where
      asked_by : SiteId → Option Home → List Command
      asked_by s h = for_each (inquire session s) (in_doubt_at h (story_in session start)) commands

      by_home : (h : Option Home) → home_of session.plan site ≡ h → AreSettled (site ∷ []) (story_in session commands) (story_in session (asked_by site (home_of session.plan site)))
      by_home None e = subst (λ h. AreSettled (site ∷ []) (story_in session commands) (story_in session (asked_by site h))) (sym e) (record {
        onward = onward_here session.plan (story_in session commands) o.calm;
        settled = λ home tid d i. elim i [ inl same ↦ (let seen = ap (home_of session.plan) same ∙ d in let clash = sym e ∙ seen in cc) | inr j ↦ absurd j ];
      })
      by_home (Some home) e = subst (λ h. AreSettled (site ∷ []) (story_in session commands) (story_in session (asked_by site h))) (sym e)
          (subst (λ s. AreSettled (s ∷ []) (story_in session commands) (story_in session (asked_by s (Some home)))) (its-site session.plan site home e)
          (record { onward = all.onward; settled = λ other tid d i. elim i [ inl same ↦ here other tid d same | inr j ↦ absurd j ] }))
        where
          declared : home_of session.plan home.site ≡ Some home
          declared = home-again session.plan site home e

          all : AreAnswered home (in_doubt_at (Some home) (story_in session start)) (story_in session commands) (story_in session (asked_by home.site (Some home)))
          all = inquire_all (in_doubt_at (Some home) (story_in session start)) commands home o.calm declared g

          by_doubt : (tid : Tid) (q : Option Held) → doubt_at home (story_in session start) tid ≡ q → doubt_at home (story_in session (asked_by home.site (Some home))) tid ≡ None
          by_doubt tid None f = all.onward.settles home tid declared (o.settles home tid declared f)
          by_doubt tid (Some held) f = all.settled tid (doubt_listed home (story_in session start) tid held f)

          here : (other : Home) (tid : Tid) → home_of session.plan other.site ≡ Some other → home.site ≡ other.site → doubt_at other (story_in session (asked_by home.site (Some home))) tid ≡ None
          here other tid d same =
              let one : home ≡ other = (let t : Some home ≡ Some other = sym declared ∙ (ap (home_of session.plan) same ∙ d) in cc) in
              subst (λ h. doubt_at h (story_in session (asked_by home.site (Some home))) tid ≡ None) one (by_doubt tid (doubt_at home (story_in session start) tid) refl)

  asked_sites : (start : List Command) (ss : List SiteId) (commands : List Command) → Onward session.plan (story_in session start) (story_in session commands)
      → ((tid : Tid) → standing (protocols session.plan) (coord_past (story_in session commands)) tid ≡ Gone)
      → AreSettled ss (story_in session commands) (story_in session (for_each (ask_site session (story_in session start)) ss commands))
  asked_sites start [] commands o g = record { onward = onward_here session.plan (story_in session commands) o.calm; settled = λ home tid d i. absurd i }
  asked_sites start (site ∷ ss) commands o g =
      let next = ask_site session (story_in session start) site commands in
      let one = asked_site start commands site o g in
      let rest = asked_sites start ss next (onward_on session.plan (story_in session start) (story_in session commands) (story_in session next) o one.onward) (λ tid. one.onward.gone tid (g tid)) in
      record {
        onward = onward_on session.plan (story_in session commands) (story_in session next) _ one.onward rest.onward;
        settled = λ home tid d i. elim i [
          | inl same ↦ rest.onward.settles home tid d (one.settled home tid d (inl same))
          | inr j ↦ rest.settled home tid d j
        ];
      }

  -- behind the step no site is in doubt of any attempt
  pub record IsSettled (before now : Story) : Type 0 where
    pub onward : Onward session.plan before now
    pub settled : (home : Home) (tid : Tid) → home_of session.plan home.site ≡ Some home → doubt_of (records home (past_of home.site now)) tid ≡ None

  pub settled : (commands : List Command) → IsCalm (story_in session commands) → ((tid : Tid) → standing (protocols session.plan) (coord_past (story_in session commands)) tid ≡ Gone)
      → IsSettled (story_in session commands) (story_in session (ask_all session commands))
  settled commands c g =
      let all = asked_sites commands (sites session.plan) commands (onward_here session.plan (story_in session commands) c) g in
      record { onward = all.onward; settled = λ home tid d. all.settled home tid d (declared-in session.plan home.site home d) }
