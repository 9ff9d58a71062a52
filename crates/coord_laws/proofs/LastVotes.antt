-- Commits, votes and replies at the coordinator: the facts on one attempt hold of their lines.
use Rattle.std.proofs.Common.{◌≡◌, ℕ, inl, inr, Bool, true, false, not, ◌&&◌, ◌||◌, ◌==◌, is_some, Option, Some, None, List, [], ◌∷◌, refl, sym, ap, ◌∙◌}
use Rattle.std.proofs.lemmas.Bool.{and_parts, or_cases}
use Rattle.mdb_base.specs.declared.acts.Step.{Step}
use Rattle.mdb_base.specs.declared.names.SiteId.{SiteId}
use Rattle.mdb_base.specs.declared.names.SiteTicket.{SiteTicket}
use Rattle.mdb_base.specs.declared.names.Tid.{Tid}
use Rattle.mdb_base.specs.declared.replies.Reply.{Reply}
use Rattle.mdb_base.specs.declared.replies.Reply.TheVariants as Reply_is
use Rattle.mdb_base.specs.declared.replies.Why.TheVariants as Because
use Rattle.mdb_base.specs.Names.{same_site, same_tid}
use Rattle.mdb_base.specs.Words.{Each, with_some}
use Rattle.mdb_base.proofs.ForCallers.{each_all, each_filtered, each_of_mapped, or_true, same_site-equal, same_site-refl, same_tid-equal, same_tid-refl, tests_agree, those_pass}
use Rattle.order_laws.specs.Chains.{In}
use Rattle.order_laws.proofs.ForCallers.{in_those, is_among, of_same, those_same}
use Rattle.order_laws.specs.Search.{cycle_through}
use Rattle.order_laws.specs.Tickets.{edge_between}
use Rattle.presumptions.specs.declared.Decision.TheVariants as Decided
use Rattle.presumptions.specs.declared.Participant.{Participant}
use Rattle.fed_rules.specs.declared.answers.Answer.TheVariants as Say
use Rattle.fed_rules.specs.declared.answers.Cause.TheVariants as For
use Rattle.fed_rules.specs.declared.events.CoordEvent.TheVariants as Ev
use Rattle.fed_rules.specs.declared.messages.Due.{Due}
use Rattle.fed_rules.specs.declared.messages.FromSite.TheVariants as From
use Rattle.fed_rules.specs.declared.records.CoordRecord.{CoordRecord}
use Rattle.fed_rules.specs.declared.records.CoordRecord.TheVariants as Rec
use Rattle.fed_rules.specs.Happenings.{quiet}
use Rattle.fed_rules.specs.Coord.{is_take, may_take, held_back, let_through, defers_some, sends_news, news, forgets_at_once, aborts, commits_it, did_counts, did_reply, of_did, all_voted, vote_ticket, vote_tickets, last_vote, yes_vote, is_due_vote, vote_counts, vote_counted, of_vote, fits}
use Rattle.fed_rules.specs.CoordPast.{CoordHappening, CoordPast, records, is_open, participants, program, visits, outstanding, epoch_at, vote_at}
use Rattle.fed_rules.specs.CoordRecords.{has_ticket, ticketed, required, is_nobody, commits}
use Rattle.fed_rules.specs.Policies.{Policy}
use Rattle.fed_rules.proofs.ForCallers.{appended, some_sending}
use Rattle.coord_laws.proofs.Facts.{IsOpen, IsCommitting, Stands, Same, Decides, IsTelling, Now, Tells, Counted, Goes}
use Rattle.coord_laws.proofs.Rules.{goes_when, goes_given, open_undecided, acked_on, silently, ignored}
use Rattle.coord_laws.proofs.Dues.{IsOwed, news_owed, by_dues}
use Rattle.coord_laws.proofs.Ends.{acked_off, decided_standing, other_standing, by_aborts}
use Rattle.fed_rules.specs.Usable.{IsDeclaredAt}

-- a ticket of these votes is of a site that the program visits
ticket_visits : (past : CoordPast) (t : Tid) (site : SiteId) (program : List Step) (members : List Participant)
    → Each (λ m. visits m.site program ≡ true) members → has_ticket (vote_tickets past t members) site ≡ true
    → visits site program ≡ true
ticket_visits past t site program [] each h = cc
ticket_visits past t site program (m ∷ members) each h = by_vote (vote_at past t m.site) h
    (ticket_visits past t site program members each.1)
  where
    by_vote : (o : Option ℕ)
        → has_ticket (with_some (vote_ticket m.site o) (vote_tickets past t members)) site ≡ true
        → (has_ticket (vote_tickets past t members) site ≡ true → visits site program ≡ true) → visits site program ≡ true
    by_vote None h k = k h
    by_vote (Some n) h k = elim (or_cases (same_site m.site site) (has_ticket (vote_tickets past t members) site) h) [
      | inl here ↦ ap (λ s. visits s program) (sym (same_site-equal m.site site here)) ∙ each.0
      | inr more ↦ k more
    ]

-- and where all members voted, each of them has a ticket
voted_ticket : (past : CoordPast) (t : Tid) (member : Participant) (members : List Participant) → all_voted past t members ≡ true
    → In member members → has_ticket (vote_tickets past t members) member.site ≡ true
voted_ticket past t member [] all i = absurd i
voted_ticket past t member (m ∷ members) all i =
    let parts = and_parts (is_some (vote_at past t m.site)) (all_voted past t members) all in
    by_vote (vote_at past t m.site) parts.0 i (voted_ticket past t member members parts.1)
  where
    by_vote : (o : Option ℕ) → is_some o ≡ true → In member (m ∷ members)
        → (In member members → has_ticket (vote_tickets past t members) member.site ≡ true)
        → has_ticket (with_some (vote_ticket m.site o) (vote_tickets past t members)) member.site ≡ true
    by_vote None s i k = cc
    by_vote (Some n) s (inl same) k = ap (λ b. b || has_ticket (vote_tickets past t members) member.site)
        (ap (λ p. same_site m.site p.site) (sym same) ∙ same_site-refl m.site)
    by_vote (Some n) s (inr i) k = ap (λ b. same_site m.site member.site || b) (k i) ∙ or_true (same_site m.site member.site)

-- so the sites of the last votes' tickets are the participants
pub tickets_name : (protocols : List Participant) (before now : CoordPast) (t : Tid)
    → all_voted now t (participants protocols before t) ≡ true
    → ticketed protocols (vote_tickets now t (participants protocols before t)) ≡ participants protocols before t
tickets_name protocols before now t all =
    those_same (λ p. has_ticket (vote_tickets now t (participants protocols before t)) p.site)
    (λ p. visits p.site (program before t)) protocols
    (λ p i. tests_agree (has_ticket (vote_tickets now t (participants protocols before t)) p.site) (visits p.site (program before t))
    (λ h. ticket_visits now t p.site (program before t) (participants protocols before t)
    (those_pass (λ m. visits m.site (program before t)) protocols) h)
    (λ v. voted_ticket now t p (participants protocols before t) all (in_those (λ m. visits m.site (program before t)) p protocols i v)))

-- and each of these tickets is of a site of theirs
sited : (past : CoordPast) (t : Tid) (all members : List Participant) → ((m : Participant) → In m members → In m all)
    → Each (IsDeclaredAt all) (vote_tickets past t members)
sited past t all [] sub = tt
sited past t all (m ∷ members) sub = by_vote (vote_at past t m.site) (sited past t all members (λ n i. sub n (inr i)))
  where
    by_vote : (o : Option ℕ) → Each (IsDeclaredAt all) (vote_tickets past t members)
        → Each (IsDeclaredAt all) (with_some (vote_ticket m.site o) (vote_tickets past t members))
    by_vote None rest = rest
    by_vote (Some n) rest = (is_among (λ (member : Participant). member.site ≡ m.site) m all (sub m (inl refl)) refl, rest)

-- a commit at the last yes vote
by_commits_it : (protocols : List Participant) (g : Tid) (past : CoordPast) (site : SiteId) (t : Tid) (ticket : ℕ)
    (tickets : List SiteTicket) → IsOpen protocols past t
    → all_voted (quiet (Ev.Take site (From.Vote t (Some ticket))) Say.Voted ∷ past) t (participants protocols past t) ≡ true
    → ticketed protocols tickets ≡ participants protocols past t → Each (IsDeclaredAt (participants protocols past t)) tickets
    → Goes protocols g past (Ev.Take site (From.Vote t (Some ticket)))
    (commits_it protocols past (Ev.Take site (From.Vote t (Some ticket))) t tickets)
unfolding commits_it
by_commits_it protocols g past site t ticket tickets undecided all names places = record {
  is = refl;
  quiet = inr tt;
  wrote = (
    (λ q. of_same
        (λ u. IsCommitting protocols u past (Ev.Take site (From.Vote t (Some ticket))) × (before ≡ []) ×
        (ticketed protocols tickets ≡ participants protocols past u) × Each (IsDeclaredAt (participants protocols past u)) tickets) t g
        (record { undecided = undecided; site = site; ticket = ticket; taken = refl; all = all }, refl, names, places) q),
    tt,
  );
  stands = stands (same_tid t g) refl;
  tells = each_of_mapped (Tells protocols g past y) (λ member. record { site = member.site; message = _ }) (participants protocols past t)
      (each_all (λ member. same_tid t g ≡ true → IsTelling protocols g past y member.site Decided.Commit)
      (λ member q. of_same (λ u. IsTelling protocols u past y member.site Decided.Commit) t g
      (Now f undecided (decided_standing protocols t past y Decided.Commit None f refl (same_tid-refl t)) (appended y.calls []) refl
      (inl refl)) q)
      (participants protocols past t));
  counted = (λ e. tt);
  committed = (λ q. inl (same_tid-equal t g q));
} where
  before : List CoordRecord
  before = []

  y : CoordHappening
  y = commits_it protocols past (Ev.Take site (From.Vote t (Some ticket))) t tickets

  f : Bool
  f = forgets_at_once protocols (Rec.Commit t tickets ∷ records past) t Decided.Commit

  stands : (q : Bool) → same_tid t g ≡ q
      → Stands protocols g past (commits_it protocols past (Ev.Take site (From.Vote t (Some ticket))) t tickets)
      (Rec.Commit t tickets ∷ [])
  stands true q =
      Decides Decided.Commit f (of_same (λ u. IsOpen protocols past u) t g undecided q) refl
      (decided_standing protocols g past y Decided.Commit None f refl q)
      (of_same (λ u. is_nobody (required protocols (Rec.Commit t tickets ∷ records past) u Decided.Commit) ≡ f) t g refl q)
      (inl (same_tid-equal t g q))
      (λ at. acked_off g past y at q refl)
  stands false q =
      Same (other_standing protocols g past y Decided.Commit None f refl q) refl (q, tt)
      (inl (λ at. acked_on g past y at refl refl (ap (λ b. b && true) q) refl))

by_last_vote : (protocols : List Participant) (g : Tid) (past : CoordPast) (site : SiteId) (t : Tid) (ticket : ℕ)
    (tickets : List SiteTicket) → IsOpen protocols past t
    → all_voted (quiet (Ev.Take site (From.Vote t (Some ticket))) Say.Voted ∷ past) t (participants protocols past t) ≡ true
    → ticketed protocols tickets ≡ participants protocols past t → Each (IsDeclaredAt (participants protocols past t)) tickets
    → Goes protocols g past (Ev.Take site (From.Vote t (Some ticket)))
    (last_vote protocols past (Ev.Take site (From.Vote t (Some ticket))) t tickets)
unfolding last_vote aborts
by_last_vote protocols g past site t ticket tickets undecided all names places =
    goes_given protocols g past (Ev.Take site (From.Vote t (Some ticket)))
    (cycle_through edge_between (record { tid = t; tickets = tickets }) (commits (records past))) _ _
    (λ e. by_commits_it protocols g past site t ticket tickets undecided all names places)
    (λ edges e. by_aborts protocols g past (Ev.Take site (From.Vote t (Some ticket))) t (For.Cycle edges) undecided (λ u. refl) tt
    (λ at. refl) tt)

by_yes_vote : (protocols : List Participant) (g : Tid) (past : CoordPast) (site : SiteId) (t : Tid) (ticket : ℕ)
    → IsOpen protocols past t
    → Goes protocols g past (Ev.Take site (From.Vote t (Some ticket)))
    (yes_vote protocols past (Ev.Take site (From.Vote t (Some ticket))) t)
unfolding yes_vote
by_yes_vote protocols g past site t ticket undecided =
    goes_when protocols g past (Ev.Take site (From.Vote t (Some ticket))) (all_voted now t members) _ _
    (λ all. by_last_vote protocols g past site t ticket (vote_tickets now t members) undecided all
    (tickets_name protocols past now t all) (sited now t members members (λ m i. i)))
    (λ e. silently protocols g past (Ev.Take site (From.Vote t (Some ticket))) Say.Voted tt tt tt)
  where
    now : CoordPast
    now = quiet (Ev.Take site (From.Vote t (Some ticket))) Say.Voted ∷ past

    members : List Participant
    members = participants protocols past t

by_vote_counted : (protocols : List Participant) (g : Tid) (past : CoordPast) (site : SiteId) (t : Tid) (vote : Option ℕ)
    → IsOpen protocols past t → Goes protocols g past (Ev.Take site (From.Vote t vote)) (vote_counted protocols past site t vote)
unfolding vote_counted aborts
by_vote_counted protocols g past site t None undecided = by_aborts protocols g past (Ev.Take site (From.Vote t None)) t
    (For.No site) undecided (λ u. refl) tt (λ at. refl) tt
by_vote_counted protocols g past site t (Some ticket) undecided = by_yes_vote protocols g past site t ticket undecided

pub at_vote : (protocols : List Participant) (g : Tid) (past : CoordPast) (site : SiteId) (t : Tid) (vote : Option ℕ)
    → Goes protocols g past (Ev.Take site (From.Vote t vote)) (of_vote protocols past site t vote)
unfolding of_vote
at_vote protocols g past site t vote =
    goes_when protocols g past (Ev.Take site (From.Vote t vote)) (vote_counts past site t) _ _
    (λ e. by_vote_counted protocols g past site t vote
    (open_undecided protocols past t (and_parts (is_open past t) (is_due_vote (outstanding past t site)) e).0))
    (λ e. ignored protocols g past (Ev.Take site (From.Vote t vote)))

-- a reply that counts
by_did_reply : (protocols : List Participant) (policy : Policy) (g : Tid) (past : CoordPast) (site : SiteId) (t : Tid) (e n : ℕ)
    (full reply : Reply) → IsOpen protocols past t → Counted protocols g past (Ev.Take site (From.Did t e n full))
    → Goes protocols g past (Ev.Take site (From.Did t e n full)) (did_reply protocols policy past site (From.Did t e n full) t reply)
unfolding did_reply sends_news aborts
by_did_reply protocols policy g past site t e n full (Reply_is.Wait by) undecided k = silently protocols g past
    (Ev.Take site (From.Did t e n full)) Say.TookWaits tt tt k
by_did_reply protocols policy g past site t e n full (Reply_is.Refused (Because.Die by)) undecided k = by_aborts protocols g past
    (Ev.Take site (From.Did t e n full)) t (For.Dies site by) undecided (λ u. refl) tt (λ at. refl) k
by_did_reply protocols policy g past site t e n full (Reply_is.Refused (Because.Late by)) undecided k = by_aborts protocols g past
    (Ev.Take site (From.Did t e n full)) t (For.TooLate site by) undecided (λ u. refl) tt (λ at. refl) k
by_did_reply protocols policy g past site t e n full Reply_is.Unknown undecided k = by_aborts protocols g past
    (Ev.Take site (From.Did t e n full)) t (For.Unknown site) undecided (λ u. refl) tt (λ at. refl) k
by_did_reply protocols policy g past site t e n full reply undecided k =
    by_dues protocols g past (Ev.Take site (From.Did t e n full)) t (defers_some (held_back protocols policy past t due))
    (let_through protocols policy past t due) undecided (some_sending (held_back protocols policy past t due)) tt k
    (each_filtered (IsOwed now t) (λ d. not (is_take d && not (may_take protocols policy past t))) due
    (news_owed protocols past now t site))
  where
    now : CoordPast
    now = quiet (Ev.Take site (From.Did t e n full)) Say.Only ∷ past

    due : List Due
    due = news protocols past (quiet (Ev.Take site (From.Did t e n full)) Say.Only ∷ past) t site

pub by_did : (protocols : List Participant) (policy : Policy) (g : Tid) (past : CoordPast) (site : SiteId) (t : Tid) (e n : ℕ)
    (reply : Reply) → Goes protocols g past (Ev.Take site (From.Did t e n reply)) (of_did protocols policy past site t e n reply)
unfolding of_did
by_did protocols policy g past site t e n reply =
    goes_when protocols g past (Ev.Take site (From.Did t e n reply)) (did_counts past site t e n reply) _ _
    (λ c. by_did_reply protocols policy g past site t e n reply reply
    (open_undecided protocols past t (and_parts (is_open past t) (fits (outstanding past t site) n reply) (and_parts
    (is_open past t && fits (outstanding past t site) n reply)
    ((epoch_at past t site == 0) || (e == epoch_at past t site)) c).0).0)
    (λ q. of_same (λ u. did_counts past site u e n reply ≡ true) t g c q))
    (λ c. ignored protocols g past (Ev.Take site (From.Did t e n reply)))
