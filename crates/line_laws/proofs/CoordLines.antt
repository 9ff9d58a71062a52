-- A line of the coordinator fits its command, and each undecided attempt is ready behind it: lines that say nothing new, and decisions.
use Rattle.std.proofs.Common.{◌≡◌, ◌⊎◌, ℕ, ◌&&◌, ◌||◌, nat_le, Bool, true, false, cond, is_none, is_some, Option, Some, None, List, [], ◌∷◌, ◌++◌, length, map, take, inl, inr, refl, sym, ◌∙◌, ap, ap₂, subst}
use Rattle.mdb_base.specs.declared.acts.Step.{Step}
use Rattle.mdb_base.specs.declared.names.SiteId.{SiteId}
use Rattle.mdb_base.specs.declared.names.SiteTicket.{SiteTicket}
use Rattle.mdb_base.specs.declared.names.Tid.{Tid}
use Rattle.mdb_base.specs.declared.replies.Edge.{Edge}
use Rattle.mdb_base.specs.declared.replies.Reply.{Reply}
use Rattle.mdb_base.specs.Names.{same_site, same_tid}
use Rattle.mdb_base.specs.Words.{each_of, found, map_some, or_else, when, with_some}
use Rattle.order_laws.specs.Search.{and_then, or_way, path}
use Rattle.order_laws.specs.Tickets.{Ticketed, edge_between}
use Rattle.presumptions.specs.declared.Decision.{Decision}
use Rattle.presumptions.specs.declared.Decision.TheVariants as Decision_is
use Rattle.presumptions.specs.declared.Participant.{Participant}
use Rattle.fed_rules.specs.declared.answers.Answer.TheVariants as Say
use Rattle.fed_rules.specs.declared.answers.Cause.{Cause}
use Rattle.fed_rules.specs.declared.answers.Cause.TheVariants as For
use Rattle.fed_rules.specs.declared.commands.Command.{Command}
use Rattle.fed_rules.specs.declared.events.CoordEvent.{CoordEvent}
use Rattle.fed_rules.specs.declared.events.CoordEvent.TheVariants as Ev
use Rattle.fed_rules.specs.declared.messages.Due.{Due}
use Rattle.fed_rules.specs.declared.messages.FromSite.TheVariants as From
use Rattle.fed_rules.specs.declared.messages.Sent.{Sent}
use Rattle.fed_rules.specs.declared.messages.ToSite.TheVariants as To
use Rattle.fed_rules.specs.declared.records.CoordRecord.TheVariants as Rec
use Rattle.fed_rules.specs.Coord.{abort_records, aborts, commits_it, decide_to, fits, forced, lacks_initiation, news, news_at, send_due, unless_tripped}
use Rattle.fed_rules.specs.CoordPast.{CoordHappening, CoordPast, Counted, begins, counted, counts, did_in, disk, has_sent, is_about, is_open, is_prepare_of, outstanding, participants, or_steps, or_vote, participants_of, program, program_in, records, trip, visits, vote_at, vote_in}
use Rattle.fed_rules.specs.CoordRecords.{class_of, coord_frame, has_abort, has_initiation, named, ticketed}
use Rattle.fed_rules.specs.Disk.{Stops, after_calls}
use Rattle.fed_rules.specs.Happenings.{Trip, quiet, stopped, tripped}
use Rattle.fed_rules.specs.Site_of.{due_site}
use Rattle.fed_rules.proofs.ForCallers.{due_number}
use Rattle.line_text.specs.Fits.{answer_fits, coordinator_sends, is_cause, is_only}
use Rattle.coord_laws.proofs.ForCallers.{outstanding_site}
use Rattle.line_laws.proofs.News.{now, reply_of}
use Rattle.line_laws.proofs.Outstanding.{Ready, ReadyFor}
use Rattle.line_laws.proofs.Sorted.{Sorted, found_sorted, map_sorted, number_of, those_sorted}

-- ---- what is outstanding names its site

abbrev pub sent_number : Sent → ℕ
sent_number s = s.site.0

-- ---- a cycle that is found has an edge

pub found_cycle : (nodes : List Ticketed) (a b : Ticketed) (edges : List Edge) → path edge_between nodes a b ≡ Some edges → is_cause (For.Cycle edges) ≡ true
found_cycle nodes a b [] e = absurd (never nodes a b e)
  where
    later : (p : Option (List Edge)) (q : Option (List Edge)) → (p ≡ Some [] → ⊥) → and_then p q ≡ Some [] → ⊥
    later None q n e = cc
    later (Some es) None n e = cc
    later (Some []) (Some fs) n e = n refl
    later (Some (x ∷ es)) (Some fs) n e = cc

    either : (p q : Option (List Edge)) → (p ≡ Some [] → ⊥) → (q ≡ Some [] → ⊥) → or_way p q ≡ Some [] → ⊥
    either None q n m e = m e
    either (Some es) q n m e = n e

    last : (o : Option Edge) → map_some (λ (x : Edge). x ∷ []) o ≡ Some [] → ⊥
    last None e = cc
    last (Some x) e = cc

    never : (nodes : List Ticketed) (a b : Ticketed) → path edge_between nodes a b ≡ Some [] → ⊥
    never [] a b e = last (edge_between a b) e
    never (c ∷ cs) a b e = either (path edge_between cs a b) (and_then (path edge_between cs a c) (path edge_between cs c b)) (never cs a b) (later (path edge_between cs a c) (path edge_between cs c b) (never cs a c)) e
found_cycle nodes a b (x ∷ edges) e = refl

-- ---- readiness over a line

-- the same of what is the same
pub ready_as : (protocols : List Participant) (steps steps' : List Step) (replies replies' : List Counted) (vote vote' : SiteId → Option ℕ) (lacks lacks' : Bool)
    → steps' ≡ steps → replies' ≡ replies → ((s : SiteId) → vote' s ≡ vote s) → (lacks ≡ false → lacks' ≡ false) → ReadyFor protocols steps replies vote lacks → ReadyFor protocols steps' replies' vote' lacks'
ready_as protocols steps steps' replies replies' vote vote' lacks lacks' p q v l ready =
    subst (λ (ss : List Step). ReadyFor protocols ss replies' vote' lacks') (sym p)
    (subst (λ (rs : List Counted). ReadyFor protocols steps rs vote' lacks') (sym q)
    (record {
      sited = ready.sited;
      ticketed = ready.ticketed;
      recorded = λ s t. l (ready.recorded s t);
      voted = λ s e. ready.voted s (sym (ap is_some (v s)) ∙ e);
      missing = same_votes (participants_of protocols steps) ∙ ready.missing;
    }))
  where
    same_votes : (ms : List Participant) → each_of (λ (m : Participant). is_some (vote' m.site)) ms ≡ each_of (λ (m : Participant). is_some (vote m.site)) ms
    same_votes [] = refl
    same_votes (m ∷ ms) = ap₂ (λ a b. a && b) (ap is_some (v m.site)) (same_votes ms)

pub same_either : (b old : Bool) → cond b old old ≡ true → old ≡ true
same_either true old e = e
same_either false old e = e

-- an attempt whose line closes it isn't open
pub other_open : (b old : Bool) → cond b false old ≡ true → (b ≡ false) × (old ≡ true)
other_open true old e = cc
other_open false old e = (refl, e)

pub kept_lacking : (a b c : Bool) → (b ≡ false → c ≡ false) → (a && b) ≡ false → (a && c) ≡ false
kept_lacking true b c f e = f e
kept_lacking false b c f e = refl

module _ (protocols : List Participant) (past : CoordPast) (ready : (g : Tid) → is_open past g ≡ true → Ready protocols past g) (sorted : Sorted number_of protocols) where
  -- the line fits its command, and each undecided attempt is ready behind it
  pub record CoordGood (command : Command) (x : CoordHappening) : Type 0 where
    pub answer : answer_fits command x.answer ≡ true
    pub some : x.sends ≡ [] → is_only x.answer ≡ false
    pub rises : Sorted sent_number x.sends
    pub can : (x.sends ≡ []) ⊎ (coordinator_sends command x.answer ≡ true)
    pub next : (g : Tid) → is_open (x ∷ past) g ≡ true → Ready protocols (x ∷ past) g

  -- ---- what is sent

  pub members_sorted : (t : Tid) → Sorted number_of (participants protocols past t)
  members_sorted t = those_sorted number_of (λ (m : Participant). visits m.site (program past t)) protocols sorted

  pub decides_sorted : (t : Tid) (d : Decision) (ms : List Participant) → Sorted number_of ms → Sorted sent_number (decide_to t d ms)
  decides_sorted t d ms h = map_sorted number_of sent_number (λ (m : Participant). (let s : Sent = record { site = m.site; message = To.Decide t d } in s)) (λ m. refl) ms h

  pub dues_sorted : (t : Tid) (dues : List Due) → Sorted due_number dues → Sorted sent_number (map (send_due t) dues)
  dues_sorted t dues h = map_sorted due_number sent_number (send_due t) (λ d. refl) dues h

  pub out_sorted : (now : CoordPast) (t : Tid) (ms : List Participant) → Sorted number_of ms → Sorted due_number (found (λ (m : Participant). outstanding now t m.site) ms)
  out_sorted now t ms h =
      found_sorted number_of due_number (λ (m : Participant). outstanding now t m.site) (λ m due e. ap (λ (s : SiteId). s.0) (outstanding_site now t m.site due e)) ms h

  pub news_sorted : (now : CoordPast) (t : Tid) (site : SiteId) → Sorted due_number (news protocols past now t site)
  news_sorted now t site =
      found_sorted number_of due_number (λ (m : Participant). news_at past now t site m.site)
      (λ m due e. ap (λ (s : SiteId). s.0) (by_test m due (same_site m.site site || is_none (outstanding past t m.site)) e)) (participants protocols past t) (members_sorted t)
    where
      by_test : (m : Participant) (due : Due) (b : Bool) → cond b (outstanding now t m.site) None ≡ Some due → due_site due ≡ m.site
      by_test m due true e = outstanding_site now t m.site due e
      by_test m due false e = cc

  -- ---- a line that says nothing new

  -- with the coordinator down
  pub down_good : (command : Command) (event : CoordEvent) → answer_fits command Say.Down ≡ true → CoordGood command (quiet event Say.Down)
  down_good command event e = record {
    answer = e;
    some = λ n. refl;
    rises = tt;
    can = inl refl;
    next = λ g o. ready g (same_either (is_about g event) (is_open past g) o);
  }

  -- where a trip comes
  pub tripped_good : (command : Command) (x : CoordHappening) → ((kept : ℕ) → answer_fits command (Say.Stopped kept) ≡ true) → CoordGood command x → CoordGood command (unless_tripped past x)
  unfolding tripped stopped when
  tripped_good command x stop good = by_trip (trip past)
    where
      by_trip : (t : Option Trip) → CoordGood command (tripped coord_frame (disk past) t x)
      by_trip None = good
      by_trip (Some t) = by_test (nat_le t.calls (length x.calls))
        where
          by_test : (b : Bool) → CoordGood command (when b (stopped coord_frame (disk past) x.event (take t.calls x.calls ++ Stops t.cut ∷ [])) x)
          by_test true = record { answer = stop _; some = λ n. refl; rises = tt; can = inl refl; next = λ g o. absurd cc }
          by_test false = good

  -- ---- a decision

  -- the event is about this attempt alone
  pub record IsOf (t : Tid) (event : CoordEvent) : Type 0 where
    pub about : (g : Tid) → is_about g event ≡ same_tid t g
    pub undid : (g : Tid) → same_tid t g ≡ false → did_in g event ≡ None
    pub unvoted : (g : Tid) → same_tid t g ≡ false → (s : SiteId) → vote_in g s event ≡ None

  -- another attempt is ready as before
  pub others_ready : (t : Tid) (event : CoordEvent) (x : CoordHappening) (g : Tid) → IsOf t event → x.event ≡ event → begins g x.answer ≡ false → same_tid t g ≡ false
      → (is_none (named protocols (records past) g) ≡ false → is_none (named protocols (records (x ∷ past)) g) ≡ false) → Ready protocols past g → Ready protocols (x ∷ past) g
  others_ready t event x g of e b apart kept r =
      let steps : program (x ∷ past) g ≡ program past g = ap (λ c. cond c (or_steps (program_in g x.event) []) (program past g)) b in
      ready_as protocols (program past g) (program (x ∷ past) g) (counted past g) (counted (x ∷ past) g) (vote_at past g) (vote_at (x ∷ past) g) (lacks_initiation protocols past g) (lacks_initiation protocols (x ∷ past) g)
      steps
      (ap (λ c. cond c [] (cond (counts x.answer) (with_some (did_in g x.event) (counted past g)) (counted past g))) b
      ∙ (ap (λ v. cond (counts x.answer) (with_some (did_in g v) (counted past g)) (counted past g)) e
      ∙ (ap (λ o. cond (counts x.answer) (with_some o (counted past g)) (counted past g)) (of.undid g apart) ∙ either (counts x.answer) (counted past g))))
      (λ s. ap (λ c. cond c None (cond (counts x.answer) (or_vote (vote_in g s x.event) (vote_at past g s)) (vote_at past g s))) b
      ∙ (ap (λ v. cond (counts x.answer) (or_vote (vote_in g s v) (vote_at past g s)) (vote_at past g s)) e
      ∙ (ap (λ o. cond (counts x.answer) (or_vote o (vote_at past g s)) (vote_at past g s)) (of.unvoted g apart s) ∙ either (counts x.answer) (vote_at past g s))))
      (λ l. ap (λ (ss : List Step). has_initiation (class_of (participants_of protocols ss)) && is_none (named protocols (records (x ∷ past)) g)) steps
      ∙ kept_lacking (has_initiation (class_of (participants protocols past g))) (is_none (named protocols (records past) g)) (is_none (named protocols (records (x ∷ past)) g)) kept l)
      r
    where
      either : {A : Type 0} (c : Bool) (v : A) → cond c v v ≡ v
      either true v = refl
      either false v = refl

  pub aborts_good : (command : Command) (event : CoordEvent) (t : Tid) (cause : Cause) → IsOf t event → ((forgets : Bool) → answer_fits command (Say.Decides Decision_is.Abort (Some cause) forgets) ≡ true)
      → ((forgets : Bool) → coordinator_sends command (Say.Decides Decision_is.Abort (Some cause) forgets) ≡ true) → CoordGood command (aborts protocols past event t cause)
  unfolding aborts
  aborts_good command event t cause of fits can = record {
    answer = fits _;
    some = λ n. refl;
    rises = decides_sorted t Decision_is.Abort (participants protocols past t) (members_sorted t);
    can = inr (can _);
    next = λ g o.
        let (apart, was) = other_open (is_about g event) (is_open past g) o in
        let other : same_tid t g ≡ false = sym (of.about g) ∙ apart in
        others_ready t event (aborts protocols past event t cause) g of refl refl other (kept g other) (ready g was);
  }
    where
      kept : (g : Tid) → same_tid t g ≡ false → is_none (named protocols (records past) g) ≡ false
          → is_none (named protocols (after_calls coord_frame (disk past) (forced (abort_records protocols past t))).records g) ≡ false
      kept g other e = by_test (has_abort (class_of (participants protocols past t)) && has_sent (is_prepare_of t) past)
        where
          by_test : (b : Bool) → is_none (named protocols (after_calls coord_frame (disk past) (forced (cond b (Rec.Abort t (participants protocols past t) ∷ []) []))).records g) ≡ false
          by_test true = ap (λ b. is_none (cond b (Some (or_else (named protocols (records past) g) (participants protocols past t))) (named protocols (records past) g))) other ∙ e
          by_test false = e

  pub commits_good : (command : Command) (event : CoordEvent) (t : Tid) (tickets : List SiteTicket) → IsOf t event → ((forgets : Bool) → answer_fits command (Say.Decides Decision_is.Commit None forgets) ≡ true)
      → ((forgets : Bool) → coordinator_sends command (Say.Decides Decision_is.Commit None forgets) ≡ true) → CoordGood command (commits_it protocols past event t tickets)
  unfolding commits_it
  commits_good command event t tickets of fits can = record {
    answer = fits _;
    some = λ n. refl;
    rises = decides_sorted t Decision_is.Commit (participants protocols past t) (members_sorted t);
    can = inr (can _);
    next = λ g o.
        let (apart, was) = other_open (is_about g event) (is_open past g) o in
        let other : same_tid t g ≡ false = sym (of.about g) ∙ apart in
        others_ready t event (commits_it protocols past event t tickets) g of refl refl other
        (λ e. ap (λ b. is_none (cond b (Some (or_else (named protocols (records past) g) (ticketed protocols tickets))) (named protocols (records past) g))) other ∙ e) (ready g was);
  }

  pub late_of : (t : Tid) → IsOf t (Ev.Late t)
  late_of t = record { about = λ g. refl; undid = λ g e. refl; unvoted = λ g e s. refl }

  again_of : (t : Tid) → IsOf t (Ev.Again t)
  again_of t = record { about = λ g. refl; undid = λ g e. refl; unvoted = λ g e s. refl }

  pub did_of : (site : SiteId) (t : Tid) (e n : ℕ) (reply : Reply) → IsOf t (Ev.Take site (From.Did t e n reply))
  did_of site t e n reply = record { about = λ g. refl; undid = λ g o. ap (λ b. cond b (Some (reply_of site e reply)) None) o; unvoted = λ g o s. refl }

  pub vote_of : (site : SiteId) (t : Tid) (vote : Option ℕ) → IsOf t (Ev.Take site (From.Vote t vote))
  vote_of site t vote = record { about = λ g. refl; undid = λ g o. refl; unvoted = λ g o s. ap (λ b. cond (b && same_site site s) vote None) o }
