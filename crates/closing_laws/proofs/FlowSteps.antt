-- Each operation of an attempt that is alone is granted: the queue goes on with what becomes outstanding then.
use Rattle.std.proofs.Common.{◌≡◌, ℕ, zero, suc, ◌+◌, ◌≤◌, Bool, true, false, cond, not, ◌&&◌, ◌||◌, ◌==◌, is_some, Option, Some, None, List, [], ◌∷◌, ◌++◌, map, length, drop, inl, inr, refl, sym, ap, ap₂, subst, ◌∙◌, arith, eq-eqb}
use Rattle.std.proofs.lemmas.Bool.{or_right, or_from}
use Rattle.mdb_base.specs.declared.acts.PlainAct.{PlainAct}
use Rattle.mdb_base.specs.declared.acts.PlainAct.TheVariants.{Read, Write}
use Rattle.mdb_base.specs.declared.acts.Step.{Step}
use Rattle.mdb_base.specs.declared.names.SiteId.{SiteId}
use Rattle.mdb_base.specs.declared.names.Tid.{Tid}
use Rattle.mdb_base.specs.declared.replies.Reply.{Reply}
use Rattle.mdb_base.specs.declared.replies.Reply.TheVariants as Reply_is
use Rattle.mdb_base.specs.Names.{same_site}
use Rattle.mdb_base.specs.Programs.{IsProgram}
use Rattle.mdb_base.specs.Words.{Among, some_of, how_many, item_at}
use Rattle.mdb_base.proofs.ForCallers.{cond-false, cond-true, item_at-below, same_site-equal, same_site-refl, when-true}
use Rattle.presumptions.specs.declared.Participant.{Participant}
use Rattle.order_laws.specs.Chains.{In}
use Rattle.order_laws.proofs.ForCallers.{those_in}
use Rattle.fed_rules.specs.declared.answers.Answer.TheVariants as Say
use Rattle.fed_rules.specs.declared.commands.Command.{Command}
use Rattle.fed_rules.specs.declared.events.CoordEvent.TheVariants as Ev
use Rattle.fed_rules.specs.declared.messages.Due.{Due}
use Rattle.fed_rules.specs.declared.messages.Due.TheVariants as Due_is
use Rattle.fed_rules.specs.declared.messages.FromSite.{FromSite}
use Rattle.fed_rules.specs.declared.messages.FromSite.TheVariants as From
use Rattle.fed_rules.specs.declared.messages.ToSite.TheVariants as To
use Rattle.fed_rules.specs.declared.scenario.Scenario.{Scenario}
use Rattle.fed_rules.specs.Closing.{deliver_all}
use Rattle.fed_rules.specs.Coord.{message_of, sends_dues, news, fits_act, fits, did_counts, did_reply, of_did, of_take, sends_news}
use Rattle.fed_rules.specs.CoordPast.{CoordHappening, CoordPast, visits, Counted, counted, is_wait, is_ticket, vote_at, outstanding}
use Rattle.fed_rules.specs.Disk.{after_calls}
use Rattle.fed_rules.specs.Happenings.{quiet}
use Rattle.fed_rules.specs.Plans.{IsScenario}
use Rattle.fed_rules.specs.Replies.{granted}
use Rattle.fed_rules.specs.Runs.{Start, EngineLine, Begins, Run, begun, published}
use Rattle.fed_rules.specs.Scenarios.{home_of, protocols, policy}
use Rattle.fed_rules.specs.Site.{of_give, next_number, done}
use Rattle.fed_rules.specs.SitePast.{SiteHappening, SitePast, disk, epoch, epoch_start, engine_lines}
use Rattle.fed_rules.specs.SiteRecords.{Home, site_frame}
use Rattle.fed_rules.specs.Story.{Story, past_of, coord_past, sent_to, story_of}
use Rattle.closing_laws.proofs.AloneSites.{Stage, NotYet, Running, Sealed, Sends, first_line, first_is, first_stage, first_sends, next_line, next_is, next_stage, next_sends, ticket_line, ticket_is, ticket_stage, ticket_sends}
use Rattle.closing_laws.proofs.CoordView.{did_event, reply_of, SendsDues, dues_sent}
use Rattle.closing_laws.proofs.Declared.{member_home}
use Rattle.closing_laws.proofs.Dues.{act_of, due_of, due_is, step_keeps, ticket_keeps, no_more}
use Rattle.federation_laws.proofs.ForCallers.{count_of, epoch_of, of_site, steps_of, ticket_of}
use Rattle.closing_laws.proofs.Exchange.{IsExchange}
use Rattle.closing_laws.proofs.Flow.{Entry, site_of, place_of, members_of, Flow, Answered, member_there, answered, sent_entries, advance, advanced, counted_now, vote_now, alone_takes, news_alone}
use Rattle.fed_rules.specs.Policies.{Policy}

-- how far an attempt has come: its steps, tickets and votes
abbrev pub weight : List Counted → (SiteId → Option ℕ) → List Participant → ℕ
weight replies votes members = steps_of replies + how_many (λ (m : Participant). ticket_of replies m.site) members + how_many (λ (m : Participant). is_some (votes m.site)) members

abbrev pub weight_of : Tid → Story → List Participant → ℕ
weight_of g story members = weight (counted (coord_past story) g) (vote_at (coord_past story) g) members

-- one message more is delivered
pub record Advances (scenario : Scenario) (g : Tid) (prog : List Step) (commands : List Command) (en : Entry) (queue : List Entry) : Type 0 where
  pub next : List Command
  pub left : List Entry
  pub flow : Flow scenario g prog (story_of scenario next) left
  pub same : (m : ℕ) → deliver_all scenario (suc m) (map place_of (en ∷ queue)) commands ≡ deliver_all scenario m (map place_of left) next
  pub more : weight_of g (story_of scenario commands) (members_of scenario prog) + 1 ≤ weight_of g (story_of scenario next) (members_of scenario prog)

pub more_pass : {A : Type 0} (f h : A → Bool) (xs : List A) → ((x : A) → f x ≡ true → h x ≡ true) → how_many f xs ≤ how_many h xs
more_pass f h [] k = omega arith
more_pass f h (x ∷ xs) k = by_test (f x) (h x) refl refl (more_pass f h xs k)
  where
    by_test : (b c : Bool) → f x ≡ b → h x ≡ c → how_many f xs ≤ how_many h xs → cond b (suc (how_many f xs)) (how_many f xs) ≤ cond c (suc (how_many h xs)) (how_many h xs)
    by_test true true p q less = omega arith
    by_test false true p q less = omega arith
    by_test false false p q less = less
    by_test true false p q less = (let yes = k x p in let clash = sym q ∙ yes in cc)

pub one_more_passes : {A : Type 0} (f h : A → Bool) (xs : List A) (y : A) → ((x : A) → f x ≡ true → h x ≡ true) → In y xs → f y ≡ false → h y ≡ true → how_many f xs + 1 ≤ how_many h xs
one_more_passes f h [] y k i p q = absurd i
one_more_passes f h (x ∷ xs) y k (inl same) p q =
    let rest = more_pass f h xs k in
    let off : f x ≡ false = ap f same ∙ p in
    let on : h x ≡ true = ap h same ∙ q in
    let a = cond-false (f x) (suc (how_many f xs)) (how_many f xs) off in
    let b = cond-true (h x) (suc (how_many h xs)) (how_many h xs) on in
    omega (arith, rest, a, b)
one_more_passes f h (x ∷ xs) y k (inr i) p q = by_test (f x) (h x) refl refl (one_more_passes f h xs y k i p q)
  where
    by_test : (b c : Bool) → f x ≡ b → h x ≡ c → how_many f xs + 1 ≤ how_many h xs → cond b (suc (how_many f xs)) (how_many f xs) + 1 ≤ cond c (suc (how_many h xs)) (how_many h xs)
    by_test true true r s less = omega arith
    by_test false true r s less = omega arith
    by_test false false r s less = less
    by_test true false r s less = (let yes = k x r in let clash = sym s ∙ yes in cc)

-- a granted reply: the coordinator goes on with what becomes outstanding
record IsGood (act : PlainAct) (reply : Reply) : Type 0 where
  no_wait : is_wait reply ≡ false
  no_ticket : is_ticket reply ≡ false
  fits_it : fits_act act reply ≡ true
  says : (protocols : List Participant) (policy : Policy) (past : CoordPast) (site : SiteId) (message : FromSite) (tid : Tid)
      → did_reply protocols policy past site message tid reply ≡ sends_news protocols policy past (Ev.Take site message) tid (news protocols past (quiet (Ev.Take site message) Say.Only ∷ past) tid site)

granted_good : (start : Start) (lines : List EngineLine) (me : Run) (act : PlainAct) → IsGood act (granted start lines me act)
unfolding did_reply
granted_good start lines me (Read key) = record { no_wait = refl; no_ticket = refl; fits_it = refl; says = λ protocols policy past site message tid. refl }
granted_good start lines me (Write key value) = record { no_wait = refl; no_ticket = refl; fits_it = refl; says = λ protocols policy past site message tid. refl }

-- the operations of a site without its ticket are steps
few_counted : (replies : List Counted) (site : SiteId) → ticket_of replies site ≡ false → count_of replies site ≤ steps_of replies
few_counted [] site t = omega arith
few_counted (r ∷ replies) site t = by_site (same_site r.site site) t (few_counted replies site)
  where
    step : Bool
    step = not (is_wait r.reply) && not (is_ticket r.reply)

    more : steps_of replies ≤ cond step (suc (steps_of replies)) (steps_of replies)
    more = by_test step
      where
        by_test : (b : Bool) → steps_of replies ≤ cond b (suc (steps_of replies)) (steps_of replies)
        by_test true = omega arith
        by_test false = omega arith

    by_reply : (w k : Bool) → (k || ticket_of replies site) ≡ false → (ticket_of replies site ≡ false → count_of replies site ≤ steps_of replies)
        → cond (not w) (suc (count_of replies site)) (count_of replies site) ≤ cond (not w && not k) (suc (steps_of replies)) (steps_of replies)
    by_reply true false e h = h e
    by_reply true true e h = cc
    by_reply false false e h = (let less = h e in omega (arith, less))
    by_reply false true e h = cc

    by_site : (b : Bool) → some_of (λ (z : Counted). is_ticket z.reply) (cond b (r ∷ of_site replies site) (of_site replies site)) ≡ false → (ticket_of replies site ≡ false → count_of replies site ≤ steps_of replies)
        → how_many (λ (z : Counted). not (is_wait z.reply)) (cond b (r ∷ of_site replies site) (of_site replies site)) ≤ cond step (suc (steps_of replies)) (steps_of replies)
    by_site false e h = (let less = h e in let big = more in omega (arith, less, big))
    by_site true e h = by_reply (is_wait r.reply) (is_ticket r.reply) e h

stage_as : (home : Home) (past : SitePast) (g : Tid) (c d e f : ℕ) (t u : Bool) (v w : Option ℕ) → c ≡ d → e ≡ f → t ≡ u → v ≡ w → Stage home past g c e t v → Stage home past g d f u w
stage_as home past g c d e f t u v w p q r s h =
    subst (λ z. Stage home past g z f u w) p (subst (λ z. Stage home past g c z u w) q (subst (λ z. Stage home past g c e z w) r (subst (λ z. Stage home past g c e t z) s h)))

module _ (scenario : Scenario) (whole : IsScenario scenario) (g : Tid) (prog : List Step) (fits_prog : IsProgram prog) (all_declared : (site : SiteId) → visits site prog ≡ true → Among (λ (p : Participant). p.site ≡ site) (protocols scenario))
    (commands : List Command) (en : Entry) (queue : List Entry) (flow : Flow scenario g prog (story_of scenario commands) (en ∷ queue)) where
  abbrev past : CoordPast
  past = coord_past (story_of scenario commands)

  abbrev replies : List Counted
  replies = counted (coord_past (story_of scenario commands)) g

  abbrev votes : SiteId → Option ℕ
  votes = vote_at (coord_past (story_of scenario commands)) g

  -- the home of the message
  pub record IsHomeOf : Type 0 where
    pub home : Home
    pub declared : home_of scenario home.site ≡ Some home
    pub here : home.site ≡ site_of en

  pub home_here : visits (site_of en) prog ≡ true → IsHomeOf
  home_here v =
      let (m, i, e) = member_there scenario prog (site_of en) (all_declared (site_of en) v) v in
      let at = member_home scenario m whole.sites (in_protocols m i) in
      record { home = at.home; declared = at.declared; here = at.here ∙ e }
    where
      in_protocols : (m : Participant) → In m (members_of scenario prog) → In m (protocols scenario)
      in_protocols m i = (those_in (λ (p : Participant). visits p.site prog) m (protocols scenario) i).0

  -- an operation is granted: this much is the same for all
  record IsGranted (home : Home) (e n : ℕ) (reply : Reply) (x : SiteHappening) : Type 0 where
    pub declared : home_of scenario home.site ≡ Some home
    pub here : home.site ≡ site_of en
    gives : of_give home (past_of home.site (story_of scenario commands)) (message_of g en.due) ≡ x
    sends : Sends x (From.Did g e n reply)
    no_wait : is_wait reply ≡ false
    fits_it : fits (Some en.due) n reply ≡ true
    epoch_fits : ((epoch_of replies home.site == 0) || (e == epoch_of replies home.site)) ≡ true
    says : (protocols : List Participant) (policy : Policy) (p : CoordPast) (site : SiteId) (message : FromSite) (tid : Tid)
        → did_reply protocols policy p site message tid reply ≡ sends_news protocols policy p (Ev.Take site message) tid (news protocols p (quiet (Ev.Take site message) Say.Only ∷ p) tid site)
    stage : Stage home (x ∷ past_of home.site (story_of scenario commands)) g (suc (count_of replies home.site)) e (is_ticket reply || ticket_of replies home.site) (votes home.site)
    keeps : (site : SiteId) (due : Due) → same_site home.site site ≡ false → due_of prog replies votes site ≡ Some due → due_of prog (reply_of g past home.site e n reply ∷ replies) votes site ≡ Some due
    left : (site : SiteId) → visits site (drop (steps_of replies) prog) ≡ false → visits site (drop (steps_of (reply_of g past home.site e n reply ∷ replies)) prog) ≡ false
    back : (site : SiteId) → same_site home.site site ≡ false → visits site (drop (steps_of (reply_of g past home.site e n reply ∷ replies)) prog) ≡ false → visits site (drop (steps_of replies) prog) ≡ false
    last : is_ticket reply ≡ true → visits home.site (drop (steps_of (reply_of g past home.site e n reply ∷ replies)) prog) ≡ false
    few : steps_of (reply_of g past home.site e n reply ∷ replies) ≤ length prog
    heavier : weight replies votes (members_of scenario prog) + 1 ≤ weight (reply_of g past home.site e n reply ∷ replies) votes (members_of scenario prog)

  granted_on : (home : Home) (e n : ℕ) (reply : Reply) (x : SiteHappening) → IsGranted home e n reply x → Advances scenario g prog commands en queue
  unfolding of_take of_did
  granted_on home e n reply x h = record {
    next = answered scenario whole g prog all_declared commands en queue home e n reply x y flow h.here ex a;
    left = queue ++ sent_entries scenario whole g prog all_declared commands en queue home e n reply x y flow h.here ex a;
    flow = advance scenario whole g prog all_declared commands en queue home e n reply x y flow h.here ex a;
    same = advanced scenario whole g prog all_declared commands en queue home e n reply x y flow h.here ex a;
    more = heavier_now;
  }
    where
      dues : List Due
      dues = news (protocols scenario) past (quiet (did_event g past home.site e n reply) Say.Only ∷ past) g home.site

      y : CoordHappening
      y = sends_dues (protocols scenario) past (did_event g past home.site e n reply) g Say.Only dues

      counts_it : did_counts past home.site g e n reply ≡ true
      counts_it = ap₂ (λ (p q : Bool). p && q) (ap₂ (λ (p q : Bool). p && q) flow.undecided (ap (λ o. fits o n reply) (ap (outstanding past g) h.here ∙ flow.queued.0.is_due) ∙ h.fits_it)) h.epoch_fits

      takes : of_take (protocols scenario) (policy scenario) past home.site (From.Did g e n reply) ≡ y
      takes =
          when-true _ _ _ counts_it
          ∙ (h.says (protocols scenario) (policy scenario) past home.site (From.Did g e n reply) g
          ∙ news_alone (protocols scenario) (policy scenario) past (did_event g past home.site e n reply) g dues (alone_takes scenario past g flow.others))

      sent : SendsDues g past home.site e n reply y dues
      sent = dues_sent g past home.site e n reply (protocols scenario) dues

      ex : IsExchange scenario commands home en.place (message_of g en.due) x (From.Did g e n reply) y
      ex = record {
        calm = flow.calm;
        declared = h.declared;
        there = subst (λ s. item_at (sent_to s (story_of scenario commands)) en.place ≡ Some (message_of g en.due)) (sym h.here) flow.queued.0.there;
        gives = h.gives;
        sends = h.sends.sends;
        stays = h.sends.stays;
        unarmed = h.sends.unarmed;
        takes = takes;
        goes = sent.views.goes;
        unset = sent.views.unset;
      }

      a : Answered scenario g prog commands home e n reply x y
      a = record {
        declared = h.declared;
        no_wait = h.no_wait;
        sends = sent;
        stage = h.stage;
        same_records = ap (λ cs. (after_calls site_frame (disk home (past_of home.site (story_of scenario commands))) cs).records) h.sends.same_records;
        keeps = h.keeps;
        left = h.left;
        back = h.back;
        last = h.last;
        few = h.few;
      }

      heavier_now : weight replies votes (members_of scenario prog) + 1 ≤ weight_of g (story_of scenario (answered scenario whole g prog all_declared commands en queue home e n reply x y flow h.here ex a)) (members_of scenario prog)
      heavier_now =
          subst (λ rs. weight replies votes (members_of scenario prog) + 1 ≤ weight rs (vote_at (coord_past (story_of scenario (answered scenario whole g prog all_declared commands en queue home e n reply x y flow h.here ex a))) g) (members_of scenario prog))
          (sym (counted_now scenario whole g prog all_declared commands en queue home e n reply x y flow h.here ex a))
          (let same = same_votes (members_of scenario prog) in let big = h.heavier in omega (arith, same, big))
        where
          same_votes : (ms : List Participant) → how_many (λ (m : Participant). is_some (vote_at (coord_past (story_of scenario (answered scenario whole g prog all_declared commands en queue home e n reply x y flow h.here ex a))) g m.site)) ms
              ≡ how_many (λ (m : Participant). is_some (votes m.site)) ms
          same_votes [] = refl
          same_votes (m ∷ ms) = ap₂ (λ b k. cond (is_some b) (suc k) k) (vote_now scenario whole g prog all_declared commands en queue home e n reply x y flow h.here ex a m.site) (same_votes ms)

  -- what is due at the home
  pub due_at_home : (home : Home) → home.site ≡ site_of en → due_of prog replies votes home.site ≡ Some en.due
  due_at_home home here = ap (λ p. due_of p replies votes home.site) (sym flow.program_is) ∙ (sym (due_is past g home.site) ∙ (ap (outstanding past g) here ∙ flow.queued.0.is_due))

  ticket_more : (r : Counted) (site : SiteId) → ticket_of replies site ≡ true → ticket_of (r ∷ replies) site ≡ true
  ticket_more r site t = by_test (same_site r.site site) refl
    where
      or_true : (b c : Bool) → c ≡ true → (b || c) ≡ true
      or_true true c k = refl
      or_true false c k = k

      by_test : (b : Bool) → same_site r.site site ≡ b → some_of (λ (z : Counted). is_ticket z.reply) (cond b (r ∷ of_site replies site) (of_site replies site)) ≡ true
      by_test true q = or_true (is_ticket r.reply) (ticket_of replies site) t
      by_test false q = t

  -- the act of a step is granted
  step_granted : (home : Home) (e : ℕ) (step : Step) (start : Start) (lines : List EngineLine) (me : Run) (x : SiteHappening) → home_of scenario home.site ≡ Some home → home.site ≡ site_of en
      → item_at prog (steps_of replies) ≡ Some step → same_site step.site home.site ≡ true → en.due ≡ Due_is.Work home.site (epoch_of replies home.site) (count_of replies home.site) (act_of replies step)
      → of_give home (past_of home.site (story_of scenario commands)) (message_of g en.due) ≡ x → Sends x (From.Did g e (count_of replies home.site) (granted start lines me (act_of replies step)))
      → ((epoch_of replies home.site == 0) || (e == epoch_of replies home.site)) ≡ true
      → (ticket_of replies home.site ≡ false → Stage home (x ∷ past_of home.site (story_of scenario commands)) g (suc (count_of replies home.site)) e false None) → ticket_of replies home.site ≡ false → votes home.site ≡ None
      → IsGranted home e (count_of replies home.site) (granted start lines me (act_of replies step)) x
  step_granted home e step start lines me x d here i q due gives sends ep stage t v = record {
    declared = d;
    here = here;
    gives = gives;
    sends = sends;
    no_wait = good.no_wait;
    fits_it = ap (λ o. fits (Some o) (count_of replies home.site) reply) due ∙ ap₂ (λ (a b : Bool). a && b) (eq-eqb (count_of replies home.site) (count_of replies home.site) refl) good.fits_it;
    epoch_fits = ep;
    says = good.says;
    stage = stage_as home (x ∷ past_of home.site (story_of scenario commands)) g (suc (count_of replies home.site)) (suc (count_of replies home.site)) e e false (is_ticket reply || ticket_of replies home.site) None (votes home.site)
        refl refl (sym (or_from (is_ticket reply) (ticket_of replies home.site) good.no_ticket t)) (sym v) (stage t);
    keeps = λ site o other f. step_keeps prog answer replies votes step site o answered_step i q other f;
    left = λ site l. ap (λ k. visits site (drop k prog)) more ∙ no_more site prog (steps_of replies) l;
    back = λ site other l. not_last site other (sym (ap (λ k. visits site (drop k prog)) more) ∙ l);
    last = λ k. (let no_ticket = good.no_ticket in let clash = sym no_ticket ∙ k in cc);
    few = (let less = item_at-below prog (steps_of replies) step i in let m = more in omega (arith, less, m));
    heavier =
        (let tickets = more_pass (λ (m : Participant). ticket_of replies m.site) (λ (m : Participant). ticket_of (answer ∷ replies) m.site) (members_of scenario prog) (λ m k. ticket_more answer m.site k) in
        let m = more in omega (arith, tickets, m));
  }
    where
      reply : Reply
      reply = granted start lines me (act_of replies step)

      good : IsGood (act_of replies step) reply
      good = granted_good start lines me (act_of replies step)

      answer : Counted
      answer = reply_of g past home.site e (count_of replies home.site) reply

      answered_step : (not (is_wait reply) && not (is_ticket reply)) ≡ true
      answered_step = ap₂ (λ (a b : Bool). not a && not b) good.no_wait good.no_ticket

      more : steps_of (answer ∷ replies) ≡ suc (steps_of replies)
      more = cond-true _ _ _ answered_step

      not_last : (site : SiteId) → same_site home.site site ≡ false → visits site (drop (suc (steps_of replies)) prog) ≡ false → visits site (drop (steps_of replies) prog) ≡ false
      not_last site other l = walk prog (steps_of replies) i l
        where
          apart : same_site step.site site ≡ false
          apart = ap (λ s. same_site s site) (same_site-equal step.site home.site q) ∙ other

          some_same : {x y : Step} → Some x ≡ Some y → x ≡ y
          some_same f = cc

          walk : (steps : List Step) (k : ℕ) → item_at steps k ≡ Some step → visits site (drop (suc k) steps) ≡ false → visits site (drop k steps) ≡ false
          walk [] k f h = cc
          walk (z ∷ steps) zero f h = ap₂ (λ (a b : Bool). a || b) (ap (λ (w : Step). same_site w.site site) (some_same f) ∙ apart) h
          walk (z ∷ steps) (suc k) f h = walk steps k f h

  -- an operation of a step
  pub work_on : (home : Home) (step : Step) → home_of scenario home.site ≡ Some home → home.site ≡ site_of en → visits home.site prog ≡ true → visits home.site (drop (steps_of replies) prog) ≡ true
      → item_at prog (steps_of replies) ≡ Some step → same_site step.site home.site ≡ true → en.due ≡ Due_is.Work home.site (epoch_of replies home.site) (count_of replies home.site) (act_of replies step)
      → Advances scenario g prog commands en queue
  unfolding of_give
  work_on home step d here v l i q due = by_stage (flow.stages home d v)
    where
      here_past : SitePast
      here_past = past_of home.site (story_of scenario commands)

      act : PlainAct
      act = act_of replies step

      ticketless : ticket_of replies home.site ≡ false
      ticketless = by_test (ticket_of replies home.site) refl
        where
          by_test : (b : Bool) → ticket_of replies home.site ≡ b → ticket_of replies home.site ≡ false
          by_test false t = t
          by_test true t = (let none = flow.tickets_last home.site t in let clash = sym none ∙ l in cc)

      by_stage : Stage home here_past g (count_of replies home.site) (epoch_of replies home.site) (ticket_of replies home.site) (votes home.site) → Advances scenario g prog commands en queue
      by_stage (NotYet idle over c e t w) =
          let number = next_number home here_past in
          let lines = Begins g number ∷ engine_lines here_past in
          granted_on home (epoch home here_past) (count_of replies home.site) (granted (epoch_start home here_past) lines (begun g number) act) (first_line home here_past g act)
          (step_granted home (epoch home here_past) step (epoch_start home here_past) lines (begun g number) (first_line home here_past g act) d here i q due
          (ap (λ o. of_give home here_past (message_of g o)) due ∙ (ap₂ (λ a b. of_give home here_past (To.Work g a b act)) e c ∙ first_is home here_past g act idle over))
          (subst (λ k. Sends (first_line home here_past g act) (From.Did g (epoch home here_past) k (granted (epoch_start home here_past) lines (begun g number) act))) (sym c) (first_sends home here_past g act))
          (ap (λ b. b || (epoch home here_past == epoch_of replies home.site)) (eq-eqb (epoch_of replies home.site) 0 e))
          (λ k. stage_as home (first_line home here_past g act ∷ here_past) g 1 (suc (count_of replies home.site)) (epoch home here_past) (epoch home here_past) false false None None (ap suc (sym c)) refl refl refl (first_stage home here_past g act idle over))
          ticketless w)
      by_stage (Running me named alone over c e t w) =
          let no_ticket = t ∙ ticketless in
          let below = item_at-below prog (steps_of replies) step i in
          let counted_few = few_counted replies home.site ticketless in
          let most = fits_prog.few in
          granted_on home (epoch home here_past) (count_of replies home.site) (granted (epoch_start home here_past) (engine_lines here_past) me act) (next_line home here_past g me act)
          (step_granted home (epoch home here_past) step (epoch_start home here_past) (engine_lines here_past) me (next_line home here_past g me act) d here i q due
          (ap (λ o. of_give home here_past (message_of g o)) due ∙ (ap₂ (λ a b. of_give home here_past (To.Work g a b act)) (sym e) (sym c) ∙ next_is home here_past g me act named alone over no_ticket (omega (arith, below, counted_few, most, c))))
          (subst (λ k. Sends (next_line home here_past g me act) (From.Did g (epoch home here_past) k (granted (epoch_start home here_past) (engine_lines here_past) me act))) c (next_sends home here_past g me act))
          (or_right (epoch_of replies home.site == 0) (epoch home here_past == epoch_of replies home.site) (eq-eqb (epoch home here_past) (epoch_of replies home.site) e))
          (λ k. stage_as home (next_line home here_past g me act ∷ here_past) g (suc (done me)) (suc (count_of replies home.site)) (epoch home here_past) (epoch home here_past) false false None None (ap suc c) refl refl refl (next_stage home here_past g me act named alone over no_ticket))
          ticketless w)
      by_stage (Sealed none n w) = (let gone = (flow.finished home.site n w).0 in let clash = sym gone ∙ l in cc)

  -- the taking of the ticket
  pub take_on : (home : Home) → home_of scenario home.site ≡ Some home → home.site ≡ site_of en → visits home.site prog ≡ true → visits home.site (drop (steps_of replies) prog) ≡ false → ticket_of replies home.site ≡ false
      → en.due ≡ Due_is.Take home.site (epoch_of replies home.site) (count_of replies home.site) → Advances scenario g prog commands en queue
  unfolding of_give did_reply
  take_on home d here v l t due = by_stage (flow.stages home d v)
    where
      here_past : SitePast
      here_past = past_of home.site (story_of scenario commands)

      by_stage : Stage home here_past g (count_of replies home.site) (epoch_of replies home.site) (ticket_of replies home.site) (votes home.site) → Advances scenario g prog commands en queue
      by_stage (NotYet idle over c e k w) = (let some = flow.worked home.site v l in absurd (omega (arith, some, c)))
      by_stage (Sealed none n w) = (let has = (flow.finished home.site n w).1 in let clash = sym t ∙ has in cc)
      by_stage (Running me named alone over c e k w) =
          granted_on home (epoch home here_past) (count_of replies home.site) ticket_reply_is (ticket_line home here_past g me) (record {
            declared = d;
            here = here;
            gives = ap (λ o. of_give home here_past (message_of g o)) due ∙ (ap₂ (λ a b. of_give home here_past (To.Take g a b)) (sym e) (sym c) ∙ ticket_is home here_past g me named alone over (k ∙ t));
            sends = subst (λ n. Sends (ticket_line home here_past g me) (From.Did g (epoch home here_past) n ticket_reply_is)) c (ticket_sends home here_past g me);
            no_wait = refl;
            fits_it = ap (λ o. fits (Some o) (count_of replies home.site) ticket_reply_is) due ∙ ap (λ b. b && true) (eq-eqb (count_of replies home.site) (count_of replies home.site) refl);
            epoch_fits = or_right (epoch_of replies home.site == 0) (epoch home here_past == epoch_of replies home.site) (eq-eqb (epoch home here_past) (epoch_of replies home.site) e);
            says = λ protocols policy p site message tid. refl;
            stage = stage_as home (ticket_line home here_past g me ∷ here_past) g (suc (done me)) (suc (count_of replies home.site)) (epoch home here_past) (epoch home here_past) true true None (votes home.site)
                (ap suc c) refl refl (sym w) (ticket_stage home here_past g me named alone over (k ∙ t));
            keeps = λ site o other f. ticket_keeps prog home.site (epoch home here_past) (published (epoch_start home here_past) (engine_lines here_past) + 1) replies votes site o other f;
            left = λ site f. f;
            back = λ site other f. f;
            last = λ f. l;
            few = flow.few;
            heavier = heavier_ticket;
          })
        where
          ticket_reply_is : Reply
          ticket_reply_is = Reply_is.Ticket (published (epoch_start home here_past) (engine_lines here_past) + 1)

          answer : Counted
          answer = reply_of g past home.site (epoch home here_past) (count_of replies home.site) ticket_reply_is

          heavier_ticket : weight replies votes (members_of scenario prog) + 1 ≤ weight (answer ∷ replies) votes (members_of scenario prog)
          heavier_ticket =
              let (m, i, same) = member_there scenario prog home.site (all_declared home.site v) v in
              let new : ticket_of (answer ∷ replies) home.site ≡ true = ap (some_of (λ (z : Counted). is_ticket z.reply)) (cond-true _ _ _ (same_site-refl home.site)) in
              let tickets = one_more_passes (λ (p : Participant). ticket_of replies p.site) (λ (p : Participant). ticket_of (answer ∷ replies) p.site) (members_of scenario prog) m (λ p f. ticket_more answer p.site f) i
              (ap (ticket_of replies) same ∙ t) (ap (ticket_of (answer ∷ replies)) same ∙ new) in
              omega (arith, tickets)
