-- The story of a global attempt that is alone, until its decision: what is outstanding is in the queue, each message once.
use Rattle.std.proofs.Common.{◌≡◌, ℕ, suc, ◌<◌, ◌≤◌, ◌⊎◌, Bool, true, false, cond, not, ◌&&◌, ◌||◌, Option, Some, None, List, [], ◌∷◌, ◌++◌, map, length, drop, inl, inr, refl, sym, ap, subst, ◌∙◌, arith}
use Rattle.mdb_base.specs.declared.acts.Step.{Step}
use Rattle.mdb_base.specs.declared.names.SiteId.{SiteId}
use Rattle.mdb_base.specs.declared.names.Tid.{Tid}
use Rattle.mdb_base.specs.declared.replies.Reply.{Reply}
use Rattle.mdb_base.specs.Names.{same_site, same_tid}
use Rattle.mdb_base.specs.Words.{Each, Among, those, some_of, how_many, item_at}
use Rattle.mdb_base.proofs.ForCallers.{among_append, among_behind, append_each, cond-true, item_at-front, same_site-equal, same_site-refl, same_tid-equal, same_tid-refl}
use Rattle.presumptions.specs.declared.Participant.{Participant}
use Rattle.order_laws.specs.Chains.{In}
use Rattle.order_laws.specs.Tickets.{Ticketed}
use Rattle.mdb_base.specs.declared.names.SiteTicket.{SiteTicket}
use Rattle.order_laws.proofs.ForCallers.{among_is, among_weaker, each_at, each_from, in_those}
use Rattle.fed_rules.specs.declared.answers.Answer.TheVariants as Say
use Rattle.fed_rules.specs.declared.commands.Command.{Command}
use Rattle.fed_rules.specs.declared.commands.Place.{Place}
use Rattle.fed_rules.specs.declared.messages.Due.{Due}
use Rattle.fed_rules.specs.declared.messages.FromSite.TheVariants as From
use Rattle.fed_rules.specs.declared.messages.Sent.{Sent}
use Rattle.fed_rules.specs.declared.scenario.Scenario.{Scenario}
use Rattle.fed_rules.specs.Closing.{deliver_all}
use Rattle.fed_rules.specs.Coord.{message_of, send_due, news_at, news, may_take, sends_news, sends_dues, defers_some, is_take}
use Rattle.fed_rules.specs.CoordPast as Coordinator
use Rattle.fed_rules.specs.CoordPast.{CoordHappening, CoordPast, Gone, standing, program, visits, participants_of, participants, Counted, counted, is_wait, is_ticket, last_epoch, vote_at, outstanding, is_open, standing_of, known_decision, sites_of, in_phase, oldest_first, begun_tids, has_sent, is_take_of}
use Rattle.fed_rules.specs.CoordRecords.{commits}
use Rattle.fed_rules.specs.Happenings.{quiet}
use Rattle.fed_rules.specs.Plans.{IsScenario}
use Rattle.fed_rules.specs.Scenarios.{home_of, protocols, policy}
use Rattle.fed_rules.specs.SitePast.{SiteHappening, records, live}
use Rattle.fed_rules.specs.SiteRecords.{Home, doubt_of}
use Rattle.fed_rules.specs.Site_of.{due_site}
use Rattle.fed_rules.specs.Story.{Story, AtCoordinator, past_of, coord_past, sent_to, sends_to, places_of, story_of}
use Rattle.closing_laws.proofs.AloneSites.{Stage}
use Rattle.closing_laws.proofs.CoordView.{Views, did_event, reply_of, only_views, SendsDues, due_now, Apart, apart_those, protocols_apart, found_where, found_apart, IsNew, new_from, new_to, first_due}
use Rattle.closing_laws.proofs.Delivered.{item_behind}
use Rattle.closing_laws.proofs.Dues.{due_of, due_is, IsDue, AtWork, AtTake, AtPrepare, due_kind, due_there, other_at, other_ticketed}
use Rattle.federation_laws.proofs.ForCallers.{count_of, epoch_of, of_site, steps_of, ticket_of}
use Rattle.closing_laws.proofs.Exchange.{IsExchange, with_give, both, past_given, other_given, coord_both, past_both, sent_given, sent_both, calm_both, goes_on}
use Rattle.closing_laws.proofs.Onward.{IsCalm, one_home}
use Rattle.fed_rules.specs.Policies.{Policy, policy_of}
use Rattle.presumptions.specs.declared.Decision.{Decision}
use Rattle.closing_laws.proofs.Quiet.{nothing_passes}
use Rattle.fed_rules.specs.declared.events.CoordEvent.{CoordEvent}
use Rattle.site_history.proofs.ForCallers.{found_in}

-- a message that is outstanding, with its place
pub record Entry : Type 0 where
  pub due : Due
  pub place : ℕ

abbrev pub site_of : Entry → SiteId
site_of entry = due_site entry.due

abbrev pub place_of : Entry → Place
place_of entry = record { site = due_site entry.due; place = entry.place }

pub record IsQueued (g : Tid) (story : Story) (entry : Entry) : Type 0 where
  pub is_due : outstanding (coord_past story) g (site_of entry) ≡ Some entry.due
  pub there : item_at (sent_to (site_of entry) story) entry.place ≡ Some (message_of g entry.due)

-- the participants of a program
abbrev pub members_of : Scenario → List Step → List Participant
members_of scenario prog = participants_of (protocols scenario) prog

-- the attempt is alone and undecided; each visited site agrees with the coordinator on how far it has come; the queue has each outstanding message once
pub record Flow (scenario : Scenario) (g : Tid) (prog : List Step) (story : Story) (queue : List Entry) : Type 0 where
  pub calm : IsCalm story
  pub undecided : is_open (coord_past story) g ≡ true
  pub program_is : program (coord_past story) g ≡ prog
  pub others : (tid : Tid) → same_tid g tid ≡ false → standing (protocols scenario) (coord_past story) tid ≡ Gone
  pub stages : (home : Home) → home_of scenario home.site ≡ Some home → visits home.site prog ≡ true
      → Stage home (past_of home.site story) g (count_of (counted (coord_past story) g) home.site) (epoch_of (counted (coord_past story) g) home.site) (ticket_of (counted (coord_past story) g) home.site) (vote_at (coord_past story) g home.site)
  pub doubts : (home : Home) (tid : Tid) → home_of scenario home.site ≡ Some home → same_tid g tid ≡ false → doubt_of (records home (past_of home.site story)) tid ≡ None
  pub away : (home : Home) (tid : Tid) → home_of scenario home.site ≡ Some home → visits home.site prog ≡ false → (live home (past_of home.site story) tid ≡ None) × (doubt_of (records home (past_of home.site story)) tid ≡ None)
  pub above : (site : SiteId) (n : ℕ) (commit : Ticketed) (k : SiteTicket) → vote_at (coord_past story) g site ≡ Some n → In commit (commits (Coordinator.records (coord_past story))) → In k commit.tickets → k.site ≡ site → k.ticket < n
  pub finished : (site : SiteId) (n : ℕ) → vote_at (coord_past story) g site ≡ Some n → (visits site (drop (steps_of (counted (coord_past story) g)) prog) ≡ false) × (ticket_of (counted (coord_past story) g) site ≡ true)
  pub tickets_last : (site : SiteId) → ticket_of (counted (coord_past story) g) site ≡ true → visits site (drop (steps_of (counted (coord_past story) g)) prog) ≡ false
  pub worked : (site : SiteId) → visits site prog ≡ true → visits site (drop (steps_of (counted (coord_past story) g)) prog) ≡ false → 1 ≤ count_of (counted (coord_past story) g) site
  pub queued : Each (IsQueued g story) queue
  pub apart : Apart site_of queue
  pub whole : (site : SiteId) (due : Due) → outstanding (coord_past story) g site ≡ Some due → Among (λ entry. site_of entry ≡ site) queue
  pub unvoted : Among (λ (m : Participant). vote_at (coord_past story) g m.site ≡ None) (members_of scenario prog)
  pub few : steps_of (counted (coord_past story) g) ≤ length prog

-- an attempt that isn't known isn't open
pub gone_closed : (o : Bool) (d : Option Decision) → standing_of o d ≡ Gone → o ≡ false
gone_closed false d e = refl
gone_closed true d e = cc

-- where no other attempt is known none is in its phase, so that tickets may be taken
pub alone_takes : (scenario : Scenario) (past : CoordPast) (g : Tid) → ((tid : Tid) → same_tid g tid ≡ false → standing (protocols scenario) past tid ≡ Gone) → may_take (protocols scenario) (policy scenario) past g ≡ true
alone_takes scenario past g others =
    ap (λ ts. policy scenario (sites_of (protocols scenario) past g) (map (sites_of (protocols scenario) past) ts))
    (nothing_passes (λ other. not (same_tid other g) && in_phase past other) (oldest_first (begun_tids past)) out_of_phase)
    ∙ beside_none scenario.conservative (sites_of (protocols scenario) past g)
  where
    beside_none : (b : Bool) (own : List SiteId) → policy_of b own [] ≡ true
    beside_none true own = refl
    beside_none false own = refl

    out_of_phase : (other : Tid) → (not (same_tid other g) && in_phase past other) ≡ false
    out_of_phase other = by_test (same_tid other g) refl
      where
        apart : same_tid other g ≡ false → (b : Bool) → same_tid g other ≡ b → same_tid g other ≡ false
        apart q false r = r
        apart q true r = (let same = same_tid-equal g other r in let yes : same_tid other g ≡ true = subst (λ t. same_tid other t ≡ true) (sym same) (same_tid-refl other) in let clash = sym q ∙ yes in cc)

        by_test : (b : Bool) → same_tid other g ≡ b → (not b && in_phase past other) ≡ false
        by_test true q = refl
        by_test false q =
            ap (λ o. o && has_sent (is_take_of other) past)
            (gone_closed (is_open past other) (known_decision (protocols scenario) past other) (others other (apart q (same_tid g other) refl)))

-- then all that became outstanding is sent
pub news_alone : (protocols : List Participant) (policy : Policy) (past : CoordPast) (event : CoordEvent) (g : Tid) (dues : List Due) → may_take protocols policy past g ≡ true
    → sends_news protocols policy past event g dues ≡ sends_dues protocols past event g Say.Only dues
unfolding sends_news
news_alone protocols policy past event g dues e =
    ap (λ m. sends_dues protocols past event g (defers_some (those (λ due. is_take due && not m) dues)) (those (λ due. not (is_take due && not m)) dues)) e
    ∙ (ap (λ ds. sends_dues protocols past event g (defers_some ds) (those (λ due. not (is_take due && not true)) dues)) (held_none dues)
    ∙ ap (λ ds. sends_dues protocols past event g Say.Only ds) (through_all dues))
  where
    and_false : (b : Bool) → (b && false) ≡ false
    and_false true = refl
    and_false false = refl

    held_none : (ds : List Due) → those (λ due. is_take due && not true) ds ≡ []
    held_none [] = refl
    held_none (d ∷ ds) = ap (λ b. cond b (d ∷ those (λ due. is_take due && not true) ds) (those (λ due. is_take due && not true) ds)) (and_false (is_take d)) ∙ held_none ds

    through_all : (ds : List Due) → those (λ due. not (is_take due && not true)) ds ≡ ds
    through_all [] = refl
    through_all (d ∷ ds) =
        ap (λ b. cond (not b) (d ∷ those (λ due. not (is_take due && not true)) ds) (those (λ due. not (is_take due && not true)) ds)) (and_false (is_take d))
        ∙ ap (λ es. d ∷ es) (through_all ds)

-- lists at sites of their own
apart_append : (xs ys : List Entry) → Apart site_of xs → Apart site_of ys → ((x y : Entry) → In x xs → In y ys → same_site (site_of x) (site_of y) ≡ false) → Apart site_of (xs ++ ys)
apart_append [] ys h k d = k
apart_append (x ∷ xs) ys h k d = (each_both xs h.0, apart_append xs ys h.1 k (λ a b i j. d a b (inr i) j))
  where
    each_both : (zs : List Entry) → Each (λ z. same_site (site_of x) (site_of z) ≡ false) zs → Each (λ z. same_site (site_of x) (site_of z) ≡ false) (zs ++ ys)
    each_both [] e = each_from (λ z. same_site (site_of x) (site_of z) ≡ false) ys (λ y j. d x y (inl refl) j)
    each_both (z ∷ zs) e = (e.0, each_both zs e.1)

-- the entries of what is sent in a line behind a story
abbrev pub entry_for : Story → Due → Entry
entry_for story due = record { due = due; place = length (sent_to (due_site due) story) }

-- they are where the line's messages stand
pub places_for : (g : Tid) (story : Story) (y : CoordHappening) (dues : List Due) → y.sends ≡ map (send_due g) dues → places_of story (AtCoordinator y) ≡ map place_of (map (entry_for story) dues)
places_for g story y dues e = ap (map (λ (sent : Sent). record { site = sent.site; place = length (sent_to sent.site story) })) e ∙ fuse dues
  where
    fuse : (ds : List Due) → map (λ (sent : Sent). record { site = sent.site; place = length (sent_to sent.site story) }) (map (send_due g) ds) ≡ map place_of (map (entry_for story) ds)
    fuse [] = refl
    fuse (d ∷ ds) = ap (λ ps. place_of (entry_for story d) ∷ ps) (fuse ds)

pub apart_entries : (story : Story) (dues : List Due) → Apart due_site dues → Apart site_of (map (entry_for story) dues)
apart_entries story [] h = tt
apart_entries story (d ∷ dues) h = (each_one dues h.0, apart_entries story dues h.1)
  where
    each_one : (ds : List Due) → Each (λ z. same_site (due_site d) (due_site z) ≡ false) ds → Each (λ en. same_site (due_site d) (site_of en) ≡ false) (map (entry_for story) ds)
    each_one [] e = tt
    each_one (z ∷ ds) e = (e.0, each_one ds e.1)

pub in_entries : (story : Story) (dues : List Due) (en : Entry) → In en (map (entry_for story) dues) → (due : Due) × In due dues × (entry_for story due ≡ en)
in_entries story [] en i = absurd i
in_entries story (d ∷ dues) en (inl e) = (d, inl refl, e)
in_entries story (d ∷ dues) en (inr i) = let r = in_entries story dues en i in (r.0, inr r.1, r.2)

pub entry_among : (story : Story) (dues : List Due) (due : Due) (site : SiteId) → In due dues → due_site due ≡ site → Among (λ en. site_of en ≡ site) (map (entry_for story) dues)
entry_among story [] due site i e = absurd i
entry_among story (d ∷ dues) due site (inl same) e = inl (ap due_site same ∙ e)
entry_among story (d ∷ dues) due site (inr i) e = inr (entry_among story dues due site i e)

-- a declared site that a program visits is a participant of it
pub member_there : (scenario : Scenario) (prog : List Step) (site : SiteId) → Among (λ (p : Participant). p.site ≡ site) (protocols scenario) → visits site prog ≡ true → (m : Participant) × In m (members_of scenario prog) × (m.site ≡ site)
member_there scenario prog site a v =
    let (m, i, e) = among_is (λ (p : Participant). p.site ≡ site) (protocols scenario) a in
    (m, in_those (λ (p : Participant). visits p.site prog) m (protocols scenario) i (ap (λ s. visits s prog) e ∙ v), e)

-- a counted reply of a site
pub record Answered (scenario : Scenario) (g : Tid) (prog : List Step) (commands : List Command) (home : Home) (e n : ℕ) (reply : Reply) (x : SiteHappening) (y : CoordHappening) : Type 0 where
  pub declared : home_of scenario home.site ≡ Some home
  pub no_wait : is_wait reply ≡ false
  pub sends : SendsDues g (coord_past (story_of scenario commands)) home.site e n reply y (news (protocols scenario) (coord_past (story_of scenario commands)) (quiet (did_event g (coord_past (story_of scenario commands)) home.site e n reply) Say.Only ∷ coord_past (story_of scenario commands)) g home.site)
  pub stage : Stage home (x ∷ past_of home.site (story_of scenario commands)) g (suc (count_of (counted (coord_past (story_of scenario commands)) g) home.site)) e
      (is_ticket reply || ticket_of (counted (coord_past (story_of scenario commands)) g) home.site) (vote_at (coord_past (story_of scenario commands)) g home.site)
  pub same_records : records home (x ∷ past_of home.site (story_of scenario commands)) ≡ records home (past_of home.site (story_of scenario commands))
  pub keeps : (site : SiteId) (due : Due) → same_site home.site site ≡ false → due_of prog (counted (coord_past (story_of scenario commands)) g) (vote_at (coord_past (story_of scenario commands)) g) site ≡ Some due
      → due_of prog (reply_of g (coord_past (story_of scenario commands)) home.site e n reply ∷ counted (coord_past (story_of scenario commands)) g) (vote_at (coord_past (story_of scenario commands)) g) site ≡ Some due
  pub left : (site : SiteId) → visits site (drop (steps_of (counted (coord_past (story_of scenario commands)) g)) prog) ≡ false
      → visits site (drop (steps_of (reply_of g (coord_past (story_of scenario commands)) home.site e n reply ∷ counted (coord_past (story_of scenario commands)) g)) prog) ≡ false
  pub back : (site : SiteId) → same_site home.site site ≡ false → visits site (drop (steps_of (reply_of g (coord_past (story_of scenario commands)) home.site e n reply ∷ counted (coord_past (story_of scenario commands)) g)) prog) ≡ false
      → visits site (drop (steps_of (counted (coord_past (story_of scenario commands)) g)) prog) ≡ false
  pub last : is_ticket reply ≡ true → visits home.site (drop (steps_of (reply_of g (coord_past (story_of scenario commands)) home.site e n reply ∷ counted (coord_past (story_of scenario commands)) g)) prog) ≡ false
  pub few : steps_of (reply_of g (coord_past (story_of scenario commands)) home.site e n reply ∷ counted (coord_past (story_of scenario commands)) g) ≤ length prog

module _ (scenario : Scenario) (whole : IsScenario scenario) (g : Tid) (prog : List Step) (all_declared : (site : SiteId) → visits site prog ≡ true → Among (λ (p : Participant). p.site ≡ site) (protocols scenario))
    (commands : List Command) (en : Entry) (queue : List Entry) (home : Home) (e n : ℕ) (reply : Reply) (x : SiteHappening) (y : CoordHappening)
    (flow : Flow scenario g prog (story_of scenario commands) (en ∷ queue)) (here : home.site ≡ site_of en)
    (ex : IsExchange scenario commands home en.place (message_of g en.due) x (From.Did g e n reply) y) (a : Answered scenario g prog commands home e n reply x y) where
  abbrev story : Story
  story = story_of scenario commands

  abbrev past : CoordPast
  past = coord_past (story_of scenario commands)

  abbrev replies : List Counted
  replies = counted (coord_past (story_of scenario commands)) g

  abbrev votes : SiteId → Option ℕ
  votes = vote_at (coord_past (story_of scenario commands)) g

  abbrev answer : Counted
  answer = reply_of g (coord_past (story_of scenario commands)) home.site e n reply

  abbrev dues : List Due
  dues = news (protocols scenario) (coord_past (story_of scenario commands)) (quiet (did_event g (coord_past (story_of scenario commands)) home.site e n reply) Say.Only ∷ coord_past (story_of scenario commands)) g home.site

  abbrev mid : Story
  mid = story_of scenario (with_give scenario commands home en.place (message_of g en.due) x (From.Did g e n reply) y ex)

  abbrev pub answered : List Command
  answered = both scenario commands home en.place (message_of g en.due) x (From.Did g e n reply) y ex

  abbrev pub sent_entries : List Entry
  sent_entries = map (entry_for (story_of scenario (with_give scenario commands home en.place (message_of g en.due) x (From.Did g e n reply) y ex)))
      (news (protocols scenario) (coord_past (story_of scenario commands)) (quiet (did_event g (coord_past (story_of scenario commands)) home.site e n reply) Say.Only ∷ coord_past (story_of scenario commands)) g home.site)

  coord_now : coord_past (story_of scenario answered) ≡ y ∷ past
  coord_now = coord_both scenario commands home en.place (message_of g en.due) x (From.Did g e n reply) y ex

  views : Views g past y (answer ∷ replies) votes
  views = a.sends.views

  -- what is outstanding before, in the line and behind it
  due_before : (site : SiteId) → outstanding past g site ≡ due_of prog replies votes site
  due_before site = due_is past g site ∙ ap (λ p. due_of p replies votes site) flow.program_is

  due_after : (site : SiteId) → outstanding (coord_past (story_of scenario answered)) g site ≡ due_of prog (answer ∷ replies) votes site
  due_after site =
      ap (λ p. outstanding p g site) coord_now
      ∙ (due_now g past y (answer ∷ replies) votes site views ∙ ap (λ p. due_of p (answer ∷ replies) votes site) flow.program_is)

  due_within : (site : SiteId) → outstanding (quiet (did_event g past home.site e n reply) Say.Only ∷ past) g site ≡ due_of prog (answer ∷ replies) votes site
  due_within site =
      due_now g past (quiet (did_event g past home.site e n reply) Say.Only) (answer ∷ replies) votes site (only_views g past home.site e n reply [])
      ∙ ap (λ p. due_of p (answer ∷ replies) votes site) flow.program_is

  -- entries elsewhere
  elsewhere : (entry : Entry) → In entry queue → same_site home.site (site_of entry) ≡ false
  elsewhere entry i = ap (λ s. same_site s (site_of entry)) here ∙ each_at (λ (z : Entry). same_site (site_of en) (site_of z) ≡ false) entry queue flow.apart.0 i

  is_out : (entry : Entry) → In entry queue → outstanding past g (site_of entry) ≡ Some entry.due
  is_out entry i = (each_at (IsQueued g story) entry queue flow.queued.1 i).is_due

  -- what is sent is new
  record IsSentNew (due : Due) : Type 0 where
    member : Participant
    named : due_site due ≡ member.site
    is_new : IsNew past (quiet (did_event g past home.site e n reply) Say.Only ∷ past) g home.site member.site due
    is_due : due_of prog (answer ∷ replies) votes (due_site due) ≡ Some due

  sent_new : (due : Due) → In due dues → IsSentNew due
  sent_new due i =
      let (m, j, f) = found_where (λ (m : Participant). news_at past (quiet (did_event g past home.site e n reply) Say.Only ∷ past) g home.site m.site) (participants (protocols scenario) past g) due i in
      let w = new_from past (quiet (did_event g past home.site e n reply) Say.Only ∷ past) g home.site m.site due f in
      let out = sym (due_within m.site) ∙ w.is_now in
      let named = due_there prog (answer ∷ replies) (votes m.site) m.site due (due_kind prog (answer ∷ replies) votes m.site due out) in
      record { member = m; named = named; is_new = w; is_due = subst (λ s. due_of prog (answer ∷ replies) votes s ≡ Some due) (sym named) out }

  dues_apart : Apart due_site dues
  dues_apart =
      found_apart (λ (m : Participant). news_at past (quiet (did_event g past home.site e n reply) Say.Only ∷ past) g home.site m.site) (participants (protocols scenario) past g)
      (λ m due f. (let w = new_from past (quiet (did_event g past home.site e n reply) Say.Only ∷ past) g home.site m.site due f in
      due_there prog (answer ∷ replies) (votes m.site) m.site due (due_kind prog (answer ∷ replies) votes m.site due (sym (due_within m.site) ∙ w.is_now))))
      (apart_those (λ (m : Participant). m.site) (λ (m : Participant). visits m.site (program past g)) (protocols scenario) (protocols_apart scenario whole))

  old_queued : (entry : Entry) → In entry queue → IsQueued g (story_of scenario answered) entry
  old_queued entry i =
      let was = each_at (IsQueued g story) entry queue flow.queued.1 i in
      record {
        is_due = due_after (site_of entry) ∙ a.keeps (site_of entry) entry.due (elsewhere entry i) (sym (due_before (site_of entry)) ∙ was.is_due);
        there = ap (λ ms. item_at ms entry.place) (sent_both scenario commands home en.place (message_of g en.due) x (From.Did g e n reply) y ex (site_of entry))
            ∙ item_at-front (sent_to (site_of entry) story) (sends_to (site_of entry) (AtCoordinator y)) entry.place (message_of g entry.due) was.there;
      }

  new_queued : (due : Due) → In due dues → IsQueued g (story_of scenario answered) (entry_for mid due)
  new_queued due i =
      let f = first_due g dues due i dues_apart in
      record {
        is_due = due_after (due_site due) ∙ (sent_new due i).is_due;
        there = ap (λ ms. item_at ms (length (sent_to (due_site due) mid))) (sent_both scenario commands home en.place (message_of g en.due) x (From.Did g e n reply) y ex (due_site due))
            ∙ (ap (λ ms. item_at (sent_to (due_site due) story ++ sends_to (due_site due) (AtCoordinator y)) (length ms)) (sent_given scenario commands home en.place (message_of g en.due) x (From.Did g e n reply) y ex (due_site due))
            ∙ (ap (λ sends. item_at (sent_to (due_site due) story ++ map (λ (sent : Sent). sent.message) (those (λ (sent : Sent). same_site sent.site (due_site due)) sends)) (length (sent_to (due_site due) story))) a.sends.sends
            ∙ (ap (λ ms. item_at (sent_to (due_site due) story ++ ms) (length (sent_to (due_site due) story))) f.1
            ∙ item_behind (sent_to (due_site due) story) f.0 (message_of g due))));
      }

  all_queued : Each (IsQueued g (story_of scenario answered)) (queue ++ sent_entries)
  all_queued =
      append_each (IsQueued g (story_of scenario answered)) queue sent_entries (each_from (IsQueued g (story_of scenario answered)) queue old_queued)
      (each_from (IsQueued g (story_of scenario answered)) sent_entries (λ entry i. (let (due, j, same) = in_entries mid dues entry i in subst (IsQueued g (story_of scenario answered)) same (new_queued due j))))

  all_apart : Apart site_of (queue ++ sent_entries)
  all_apart = apart_append queue sent_entries flow.apart.1 (apart_entries mid dues dues_apart) (λ old new i j.
      (let (due, k, same) = in_entries mid dues new j in subst (λ z. same_site (site_of old) (site_of z) ≡ false) same (apart_of old i due k (same_site (site_of old) (due_site due)) refl)))
    where
      apart_of : (old : Entry) → In old queue → (due : Due) → In due dues → (b : Bool) → same_site (site_of old) (due_site due) ≡ b → same_site (site_of old) (due_site due) ≡ false
      apart_of old i due k false q = q
      apart_of old i due k true q =
          let w = sent_new due k in
          let there : site_of old ≡ w.member.site = same_site-equal (site_of old) (due_site due) q ∙ w.named in
          elim w.is_new.fresh [
            | inl own ↦
                let off = elsewhere old i in
                let at : w.member.site ≡ home.site = same_site-equal w.member.site home.site own in
                let t : same_site home.site home.site ≡ false = ap (same_site home.site) (sym (there ∙ at)) ∙ off in
                let yes = same_site-refl home.site in
                let clash = sym t ∙ yes in cc
            | inr none ↦ (let some = is_out old i in let clash = sym some ∙ (ap (outstanding past g) there ∙ none) in cc)
          ]

  all_whole : (site : SiteId) (due : Due) → outstanding (coord_past (story_of scenario answered)) g site ≡ Some due → Among (λ entry. site_of entry ≡ site) (queue ++ sent_entries)
  all_whole site due f = by_kind (due_kind prog (answer ∷ replies) votes site due out)
    where
      out : due_of prog (answer ∷ replies) votes site ≡ Some due
      out = sym (due_after site) ∙ f

      visited : IsDue prog (answer ∷ replies) (votes site) site due → visits site prog ≡ true
      visited (AtWork step v l i q h) = v
      visited (AtTake v l t h) = v
      visited (AtPrepare v l t k h) = v

      fresh_one : visits site prog ≡ true → (same_site site home.site ≡ true) ⊎ (outstanding past g site ≡ None) → Among (λ entry. site_of entry ≡ site) (queue ++ sent_entries)
      fresh_one v w =
          let (m, i, same) = member_there scenario prog site (all_declared site v) v in
          let here_too : news_at past (quiet (did_event g past home.site e n reply) Say.Only ∷ past) g home.site m.site ≡ Some due =
          ap (news_at past (quiet (did_event g past home.site e n reply) Say.Only ∷ past) g home.site) same
          ∙ new_to past (quiet (did_event g past home.site e n reply) Say.Only ∷ past) g home.site site due (record { is_now = due_within site ∙ out; fresh = w }) in
          among_behind (λ entry. site_of entry ≡ site) queue sent_entries
          (entry_among mid dues due site
          (found_in (λ (k : Participant). news_at past (quiet (did_event g past home.site e n reply) Say.Only ∷ past) g home.site k.site) (participants (protocols scenario) past g) m due
          (subst (λ p. In m (participants_of (protocols scenario) p)) (sym flow.program_is) i) here_too)
          (due_there prog (answer ∷ replies) (votes site) site due (due_kind prog (answer ∷ replies) votes site due out)))

      by_old : visits site prog ≡ true → (b : Bool) → same_site site home.site ≡ b → (o : Option Due) → outstanding past g site ≡ o → Among (λ entry. site_of entry ≡ site) (queue ++ sent_entries)
      by_old v true q o h = fresh_one v (inl q)
      by_old v false q None h = fresh_one v (inr h)
      by_old v false q (Some d) h = elim (flow.whole site d h) [
        | inl same ↦
            let t : same_site site site ≡ false = ap (same_site site) (sym (here ∙ same)) ∙ q in
            let yes = same_site-refl site in
            let clash = sym t ∙ yes in cc
        | inr i ↦ among_append (λ entry. site_of entry ≡ site) queue sent_entries i
      ]

      by_kind : IsDue prog (answer ∷ replies) (votes site) site due → Among (λ entry. site_of entry ≡ site) (queue ++ sent_entries)
      by_kind k = by_old (visited k) (same_site site home.site) refl (outstanding past g site) refl

  -- what the coordinator counted of the site and of the others
  own_at : of_site (answer ∷ replies) home.site ≡ answer ∷ of_site replies home.site
  own_at = cond-true _ _ _ (same_site-refl home.site)

  own_count : count_of (answer ∷ replies) home.site ≡ suc (count_of replies home.site)
  own_count = ap (how_many (λ (r : Counted). not (is_wait r.reply))) own_at ∙ ap (λ b. cond (not b) (suc (count_of replies home.site)) (count_of replies home.site)) a.no_wait

  pub counted_now : counted (coord_past (story_of scenario answered)) g ≡ answer ∷ replies
  counted_now = ap (λ p. counted p g) coord_now ∙ views.counted_is

  pub vote_now : (site : SiteId) → vote_at (coord_past (story_of scenario answered)) g site ≡ votes site
  vote_now site = ap (λ p. vote_at p g site) coord_now ∙ views.votes_are site

  past_here : past_of home.site (story_of scenario answered) ≡ x ∷ past_of home.site story
  past_here = past_both scenario commands home en.place (message_of g en.due) x (From.Did g e n reply) y ex home.site ∙ past_given scenario commands home en.place (message_of g en.due) x (From.Did g e n reply) y ex

  past_there : (site : SiteId) → same_site home.site site ≡ false → past_of site (story_of scenario answered) ≡ past_of site story
  past_there site q = past_both scenario commands home en.place (message_of g en.due) x (From.Did g e n reply) y ex site ∙ other_given scenario commands home en.place (message_of g en.due) x (From.Did g e n reply) y ex site q

  stage_here : Stage home (past_of home.site (story_of scenario answered)) g (count_of (counted (coord_past (story_of scenario answered)) g) home.site) (epoch_of (counted (coord_past (story_of scenario answered)) g) home.site)
      (ticket_of (counted (coord_past (story_of scenario answered)) g) home.site) (vote_at (coord_past (story_of scenario answered)) g home.site)
  stage_here =
      subst (λ rs. Stage home (past_of home.site (story_of scenario answered)) g (count_of rs home.site) (epoch_of rs home.site) (ticket_of rs home.site) (vote_at (coord_past (story_of scenario answered)) g home.site)) (sym counted_now)
      (subst (λ v. Stage home (past_of home.site (story_of scenario answered)) g (count_of (answer ∷ replies) home.site) (epoch_of (answer ∷ replies) home.site) (ticket_of (answer ∷ replies) home.site) v) (sym (vote_now home.site))
      (subst (λ p. Stage home p g (count_of (answer ∷ replies) home.site) (epoch_of (answer ∷ replies) home.site) (ticket_of (answer ∷ replies) home.site) (votes home.site)) (sym past_here)
      (subst (λ c. Stage home (x ∷ past_of home.site story) g c (epoch_of (answer ∷ replies) home.site) (ticket_of (answer ∷ replies) home.site) (votes home.site)) (sym own_count)
      (subst (λ rs. Stage home (x ∷ past_of home.site story) g (suc (count_of replies home.site)) (last_epoch rs) (some_of (λ (r : Counted). is_ticket r.reply) rs) (votes home.site)) (sym own_at) a.stage))))

  stage_there : (other : Home) → home_of scenario other.site ≡ Some other → visits other.site prog ≡ true → same_site home.site other.site ≡ false
      → Stage other (past_of other.site (story_of scenario answered)) g (count_of (counted (coord_past (story_of scenario answered)) g) other.site) (epoch_of (counted (coord_past (story_of scenario answered)) g) other.site)
      (ticket_of (counted (coord_past (story_of scenario answered)) g) other.site) (vote_at (coord_past (story_of scenario answered)) g other.site)
  stage_there other d v q =
      subst (λ rs. Stage other (past_of other.site (story_of scenario answered)) g (count_of rs other.site) (epoch_of rs other.site) (ticket_of rs other.site) (vote_at (coord_past (story_of scenario answered)) g other.site)) (sym counted_now)
      (subst (λ rs. Stage other (past_of other.site (story_of scenario answered)) g (how_many (λ (r : Counted). not (is_wait r.reply)) rs) (last_epoch rs) (some_of (λ (r : Counted). is_ticket r.reply) rs) (vote_at (coord_past (story_of scenario answered)) g other.site)) (sym (other_at answer replies other.site q))
      (subst (λ z. Stage other (past_of other.site (story_of scenario answered)) g (count_of replies other.site) (epoch_of replies other.site) (ticket_of replies other.site) z) (sym (vote_now other.site))
      (subst (λ p. Stage other p g (count_of replies other.site) (epoch_of replies other.site) (ticket_of replies other.site) (votes other.site)) (sym (past_there other.site q)) (flow.stages other d v))))

  pub ticket_stays : (site : SiteId) → ticket_of replies site ≡ true → ticket_of (answer ∷ replies) site ≡ true
  ticket_stays site t = by_test (same_site home.site site) refl
    where
      or_true : (b c : Bool) → c ≡ true → (b || c) ≡ true
      or_true true c k = refl
      or_true false c k = k

      by_test : (b : Bool) → same_site home.site site ≡ b → ticket_of (answer ∷ replies) site ≡ true
      by_test true q = ap (some_of (λ (r : Counted). is_ticket r.reply)) (cond-true _ _ _ q) ∙ or_true (is_ticket reply) (ticket_of replies site) t
      by_test false q = other_ticketed answer replies site q ∙ t

  same_home : (other : Home) → home_of scenario other.site ≡ Some other → same_site home.site other.site ≡ true → home ≡ other
  same_home other d q = one_home scenario home other a.declared d (same_site-equal home.site other.site q)

  pub advance : Flow scenario g prog (story_of scenario answered) (queue ++ sent_entries)
  advance = record {
    calm = calm_both scenario commands home en.place (message_of g en.due) x (From.Did g e n reply) y ex;
    undecided = ap (λ p. is_open p g) coord_now ∙ views.undecided flow.undecided;
    program_is = ap (λ p. program p g) coord_now ∙ (views.program_is ∙ flow.program_is);
    others = λ tid q. ap (λ p. standing (protocols scenario) p tid) coord_now ∙ views.others (protocols scenario) tid (flow.others tid q);
    stages = λ other d v. stage_at other d v (same_site home.site other.site) refl;
    doubts = λ other tid d q. doubt_at other tid d (flow.doubts other tid d q) (same_site home.site other.site) refl;
    away = λ other tid d v. away_at other tid d v (same_site home.site other.site) refl;
    above = λ site m commit k v i j f. flow.above site m commit k (sym (vote_now site) ∙ v) (subst (λ cs. In commit cs) (ap (λ p. commits (Coordinator.records p)) coord_now ∙ views.commits_are) i) j f;
    finished = λ site m v.
        (let f = flow.finished site m (sym (vote_now site) ∙ v) in
        (ap (λ rs. visits site (drop (steps_of rs) prog)) counted_now ∙ a.left site f.0, ap (λ rs. ticket_of rs site) counted_now ∙ ticket_stays site f.1));
    tickets_last = λ site t. ap (λ rs. visits site (drop (steps_of rs) prog)) counted_now ∙ last_at site (sym (ap (λ rs. ticket_of rs site) counted_now) ∙ t) (same_site home.site site) refl;
    worked = λ site v l. subst (λ rs. 1 ≤ count_of rs site) (sym counted_now) (worked_at site v (sym (ap (λ rs. visits site (drop (steps_of rs) prog)) counted_now) ∙ l) (same_site home.site site) refl);
    queued = all_queued;
    apart = all_apart;
    whole = all_whole;
    unvoted = among_weaker (λ (m : Participant). votes m.site ≡ None) (λ (m : Participant). vote_at (coord_past (story_of scenario answered)) g m.site ≡ None) (λ m v. vote_now m.site ∙ v) (members_of scenario prog) flow.unvoted;
    few = subst (λ rs. steps_of rs ≤ length prog) (sym counted_now) a.few;
  }
    where
      either : (b c : Bool) → (b || c) ≡ true → (b ≡ true) ⊎ (c ≡ true)
      either true c k = inl refl
      either false c k = inr k

      last_at : (site : SiteId) → ticket_of (answer ∷ replies) site ≡ true → (b : Bool) → same_site home.site site ≡ b → visits site (drop (steps_of (answer ∷ replies)) prog) ≡ false
      last_at site t false q = a.left site (flow.tickets_last site (sym (other_ticketed answer replies site q) ∙ t))
      last_at site t true q = elim (either (is_ticket reply) (ticket_of replies site) (sym (ap (some_of (λ (r : Counted). is_ticket r.reply)) (cond-true _ _ _ q)) ∙ t)) [
        | inl new ↦ ap (λ s. visits s (drop (steps_of (answer ∷ replies)) prog)) (sym (same_site-equal home.site site q)) ∙ a.last new
        | inr old ↦ a.left site (flow.tickets_last site old)
      ]

      worked_at : (site : SiteId) → visits site prog ≡ true → visits site (drop (steps_of (answer ∷ replies)) prog) ≡ false → (b : Bool) → same_site home.site site ≡ b → 1 ≤ count_of (answer ∷ replies) site
      worked_at site v l false q = subst (λ rs. 1 ≤ how_many (λ (r : Counted). not (is_wait r.reply)) rs) (sym (other_at answer replies site q)) (flow.worked site v (a.back site q l))
      worked_at site v l true q = subst (λ s. 1 ≤ count_of (answer ∷ replies) s) (same_site-equal home.site site q) (let c = own_count in omega (arith, c))

      stage_at : (other : Home) → home_of scenario other.site ≡ Some other → visits other.site prog ≡ true → (b : Bool) → same_site home.site other.site ≡ b
          → Stage other (past_of other.site (story_of scenario answered)) g (count_of (counted (coord_past (story_of scenario answered)) g) other.site) (epoch_of (counted (coord_past (story_of scenario answered)) g) other.site)
          (ticket_of (counted (coord_past (story_of scenario answered)) g) other.site) (vote_at (coord_past (story_of scenario answered)) g other.site)
      stage_at other d v true q =
          subst (λ h. Stage h (past_of h.site (story_of scenario answered)) g (count_of (counted (coord_past (story_of scenario answered)) g) h.site) (epoch_of (counted (coord_past (story_of scenario answered)) g) h.site)
          (ticket_of (counted (coord_past (story_of scenario answered)) g) h.site) (vote_at (coord_past (story_of scenario answered)) g h.site)) (same_home other d q) stage_here
      stage_at other d v false q = stage_there other d v q

      doubt_at : (other : Home) (tid : Tid) → home_of scenario other.site ≡ Some other → doubt_of (records other (past_of other.site story)) tid ≡ None → (b : Bool) → same_site home.site other.site ≡ b
          → doubt_of (records other (past_of other.site (story_of scenario answered))) tid ≡ None
      doubt_at other tid d none false q = ap (λ p. doubt_of (records other p) tid) (past_there other.site q) ∙ none
      doubt_at other tid d none true q =
          let same = same_home other d q in
          subst (λ h. doubt_of (records h (past_of h.site (story_of scenario answered))) tid ≡ None) same
          (ap (λ p. doubt_of (records home p) tid) past_here ∙ (ap (λ rs. doubt_of rs tid) a.same_records ∙ subst (λ h. doubt_of (records h (past_of h.site story)) tid ≡ None) (sym same) none))

      away_at : (other : Home) (tid : Tid) → home_of scenario other.site ≡ Some other → visits other.site prog ≡ false → (b : Bool) → same_site home.site other.site ≡ b
          → (live other (past_of other.site (story_of scenario answered)) tid ≡ None) × (doubt_of (records other (past_of other.site (story_of scenario answered))) tid ≡ None)
      away_at other tid d v false q = let f = flow.away other tid d v in (ap (λ p. live other p tid) (past_there other.site q) ∙ f.0, ap (λ p. doubt_of (records other p) tid) (past_there other.site q) ∙ f.1)
      away_at other tid d v true q = absurd (visited_here (due_kind prog replies votes home.site en.due (sym (due_before home.site) ∙ (ap (outstanding past g) here ∙ flow.queued.0.is_due))))
        where
          off : visits home.site prog ≡ false
          off = ap (λ s. visits s prog) (same_site-equal home.site other.site q) ∙ v

          visited_here : IsDue prog replies (votes home.site) home.site en.due → ⊥
          visited_here (AtWork step w l i r h) = (let clash = sym off ∙ w in cc)
          visited_here (AtTake w l t h) = (let clash = sym off ∙ w in cc)
          visited_here (AtPrepare w l t k h) = (let clash = sym off ∙ w in cc)

  -- the delivery goes on with them
  pub advanced : (m : ℕ) → deliver_all scenario (suc m) (map place_of (en ∷ queue)) commands ≡ deliver_all scenario m (map place_of (queue ++ sent_entries)) answered
  advanced m =
      ap (λ s. deliver_all scenario (suc m) (record { site = s; place = en.place } ∷ map place_of queue) commands) (sym here)
      ∙ (goes_on scenario commands home en.place (message_of g en.due) x (From.Did g e n reply) y ex m (map place_of queue)
      ∙ (ap (λ ps. deliver_all scenario m (map place_of queue ++ ps) answered) (places_for g mid y dues a.sends.sends)
      ∙ ap (λ ps. deliver_all scenario m ps answered) (map_append queue sent_entries)))
    where
      map_append : (xs ys : List Entry) → map place_of xs ++ map place_of ys ≡ map place_of (xs ++ ys)
      map_append [] ys = refl
      map_append (z ∷ xs) ys = ap (λ ps. place_of z ∷ ps) (map_append xs ys)
