-- A refusal by a cycle answers the last yes vote of an undecided attempt, and the cycle goes over the tickets of its votes and the committed attempts.
use Rattle.std.proofs.Common.{◌≡◌, ℕ, Bool, true, false, cond, ◌&&◌, nat_le, Option, Some, None, List, [], ◌∷◌, ◌++◌, length, take, map, refl, sym, ap, ap₂, ◌∙◌}
use Rattle.std.proofs.lemmas.Bool.{and_parts}
use Rattle.mdb_base.specs.declared.names.SiteId.{SiteId}
use Rattle.mdb_base.specs.declared.names.SiteTicket.{SiteTicket}
use Rattle.mdb_base.specs.declared.names.Tid.{Tid}
use Rattle.mdb_base.specs.declared.replies.Edge.{Edge}
use Rattle.mdb_base.specs.declared.replies.Reply.{Reply}
use Rattle.mdb_base.specs.declared.replies.Reply.TheVariants as Reply_is
use Rattle.mdb_base.specs.declared.replies.Why.TheVariants as Because
use Rattle.mdb_base.specs.Names.{same_site}
use Rattle.mdb_base.specs.Words.{some_of, when, with_some}
use Rattle.mdb_base.proofs.ForCallers.{same_tid-refl}
use Rattle.presumptions.specs.declared.Participant.{Participant}
use Rattle.order_laws.specs.Tickets.{Ticketed}
use Rattle.fed_rules.specs.declared.answers.Answer.{Answer}
use Rattle.fed_rules.specs.declared.answers.Answer.TheVariants as Say
use Rattle.fed_rules.specs.declared.events.CoordEvent.{CoordEvent}
use Rattle.fed_rules.specs.declared.events.CoordEvent.TheVariants as Ev
use Rattle.fed_rules.specs.declared.messages.Due.{Due}
use Rattle.fed_rules.specs.declared.messages.FromSite.{FromSite}
use Rattle.fed_rules.specs.declared.messages.FromSite.TheVariants as From
use Rattle.fed_rules.specs.Coord.{coord_line, answered, of_take, of_did, did_counts, did_reply, of_vote, vote_counted, vote_counts, is_due_vote, of_ack, acked_while, ack_counts, of_inquiry, asked_while, aborts, sends_news, sends_dues, defers_some, held_back, let_through, news, vote_ticket, vote_tickets, unless_tripped, missing, is_member, is_prepare, lacks_initiation}
use Rattle.fed_rules.specs.CoordPast.{CoordHappening, CoordPast, Standing, Undecided, Decided, Gone, begins, counts, disk, is_open, journal, known_decision, or_steps, or_vote, outstanding, participants, participants_of, program, program_in, records, standing, standing_of, trip, vote_at, vote_in}
use Rattle.fed_rules.specs.CoordRecords.{coord_frame, commits, is_nobody}
use Rattle.fed_rules.specs.Disk.{Stops}
use Rattle.fed_rules.specs.Happenings.{Trip, is_down, quiet, stopped, tripped}
use Rattle.fed_rules.specs.Policies.{Policy}
use Rattle.fed_rules.specs.Right.{refused}
use Rattle.coord_laws.specs.CoordRestarts.{CoordJournalSaysAll}
use Rattle.coord_laws.proofs.ForCallers.{coord_made}
use Rattle.protocol_table.specs.declared.known.Known.{Known}
use Rattle.protocol_table.specs.Agreement.{IsUndecidedAs, voter}
use Rattle.audit_rules.specs.Faults.{is_cycle, may_name, names_cycle}
use Rattle.audit_lines.specs.Edges.{goes_round}
use Rattle.audit_lines.specs.Votes.{tickets_with}
use Rattle.audit_lines.proofs.Journals.{round_is}

-- a yes vote
abbrev pub IsYes : FromSite → Type 0
IsYes (From.Vote tid (Some ticket)) = Unit {0}
IsYes message = ⊥

-- the line refuses for no cycle
abbrev Unnamed : CoordHappening → Type 0
Unnamed x = names_cycle x.answer ≡ false

when_unnamed : (b : Bool) (x y : CoordHappening) → Unnamed x → Unnamed y → Unnamed (when b x y)
unfolding when
when_unnamed true x y p q = p
when_unnamed false x y p q = q

trip_unnamed : (o : Option Trip) (past : CoordPast) (x : CoordHappening) → Unnamed x → Unnamed (tripped coord_frame (disk past) o x)
unfolding tripped stopped
trip_unnamed None past x p = p
trip_unnamed (Some trip) past x p = when_unnamed (nat_le trip.calls (length x.calls)) (stopped coord_frame (disk past) x.event (take trip.calls x.calls ++ Stops trip.cut ∷ [])) x refl p

defers_unnamed : (held : List Due) → names_cycle (defers_some held) ≡ false
defers_unnamed [] = refl
defers_unnamed (due ∷ held) = refl

module _ (protocols : List Participant) (policy : Policy) (past : CoordPast) (site : SiteId) where
  news_unnamed : (tid : Tid) (event : CoordEvent) (dues : List Due) → Unnamed (sends_news protocols policy past event tid dues)
  unfolding sends_news sends_dues
  news_unnamed tid event dues =
      when_unnamed (some_of is_prepare (let_through protocols policy past tid dues) && lacks_initiation protocols past tid) _ _ refl (defers_unnamed (held_back protocols policy past tid dues))

  reply_unnamed : (message : FromSite) (tid : Tid) (reply : Reply) → Unnamed (did_reply protocols policy past site message tid reply)
  unfolding did_reply aborts
  reply_unnamed message tid (Reply_is.Wait by) = refl
  reply_unnamed message tid (Reply_is.Refused (Because.Die by)) = refl
  reply_unnamed message tid (Reply_is.Refused (Because.Late by)) = refl
  reply_unnamed message tid Reply_is.Unknown = refl
  reply_unnamed message tid reply = news_unnamed tid (Ev.Take site message) (news protocols past (quiet (Ev.Take site message) Say.Only ∷ past) tid site)

  ack_unnamed : (tid : Tid) (standing : Standing) → Unnamed (acked_while protocols past site tid standing)
  unfolding acked_while ack_counts
  ack_unnamed tid (Decided decision) =
      when_unnamed (is_member site (missing protocols past tid decision)) _ _
      (when_unnamed (is_nobody (missing protocols (quiet (Ev.Take site (From.Ack tid)) Say.Acked ∷ past) tid decision)) _ _ refl refl) refl
  ack_unnamed tid Undecided = refl
  ack_unnamed tid Gone = refl

  inquiry_unnamed : (tid : Tid) (standing : Standing) → Unnamed (asked_while protocols site tid standing)
  unfolding asked_while
  inquiry_unnamed tid Undecided = refl
  inquiry_unnamed tid (Decided decision) = refl
  inquiry_unnamed tid Gone = refl

  other_unnamed : (message : FromSite) → (IsYes message → ⊥) → Unnamed (answered protocols policy past (Ev.Take site message))
  unfolding answered of_take of_did of_vote vote_counted aborts of_ack of_inquiry
  other_unnamed (From.Did tid epoch n reply) other = when_unnamed (did_counts past site tid epoch n reply) _ _ (reply_unnamed (From.Did tid epoch n reply) tid reply) refl
  other_unnamed (From.Vote tid None) other = when_unnamed (vote_counts past site tid) _ _ refl refl
  other_unnamed (From.Vote tid (Some ticket)) other = absurd (other tt)
  other_unnamed (From.Ack tid) other = ack_unnamed tid (standing protocols past tid)
  other_unnamed (From.Inquiry tid) other = inquiry_unnamed tid (standing protocols past tid)

  -- the line of a message that is taken
  abbrev pub taken : FromSite → CoordHappening
  taken message = coord_line protocols policy past (Ev.Take site message)

  by_up : (message : FromSite) (b : Bool) → (names_cycle (when b (quiet (Ev.Take site message) Say.Down) (unless_tripped past (answered protocols policy past (Ev.Take site message)))).answer ≡ true) → b ≡ false
  unfolding when
  by_up message true e = cc
  by_up message false e = refl

  -- only of a coordinator that is up
  pub names_up : (message : FromSite) → names_cycle (taken message).answer ≡ true → is_down past ≡ false
  unfolding coord_line
  names_up message e = by_up message (is_down past) e

  pub names_yes : (message : FromSite) → (IsYes message → ⊥) → Unnamed (taken message)
  unfolding coord_line
  names_yes message other = when_unnamed (is_down past) _ _ refl (trip_unnamed (trip past) past (answered protocols policy past (Ev.Take site message)) (other_unnamed message other))

  decides_counts : (a : Answer) → names_cycle a ≡ true → counts a ≡ true
  decides_counts (Say.Decides decision cause forgets) e = refl
  decides_counts a e = cc

  decides_begins : (tid : Tid) (a : Answer) → names_cycle a ≡ true → begins tid a ≡ false
  decides_begins tid (Say.Decides decision cause forgets) e = refl
  decides_begins tid a e = cc

  -- ---- the tickets of the votes, with the one that comes
  module _ (x : CoordHappening) (tid : Tid) (vote : Option ℕ) (is : x.event ≡ Ev.Take site (From.Vote tid vote)) (counted : counts x.answer ≡ true) (old : begins tid x.answer ≡ false) where
    vote_now : (s : SiteId) → vote_at (x ∷ past) tid s ≡ or_vote (cond (same_site site s) vote None) (vote_at past tid s)
    vote_now s =
        ap (λ b. cond b None (cond (counts x.answer) (or_vote (vote_in tid s x.event) (vote_at past tid s)) (vote_at past tid s))) old
        ∙ (ap (λ b. cond b (or_vote (vote_in tid s x.event) (vote_at past tid s)) (vote_at past tid s)) counted
        ∙ (ap (λ e. or_vote (vote_in tid s e) (vote_at past tid s)) is
        ∙ ap (λ b. or_vote (cond (b && same_site site s) vote None) (vote_at past tid s)) (same_tid-refl tid)))

    tickets_now : (members : List Participant) → tickets_with site vote (map (voter past tid) members) ≡ vote_tickets (x ∷ past) tid members
    tickets_now [] = refl
    tickets_now (member ∷ members) =
        ap₂ (λ (v : Option ℕ) (ts : List SiteTicket). with_some (vote_ticket member.site v) ts) (sym (vote_now member.site)) (tickets_now members)

    still_members : participants protocols (x ∷ past) tid ≡ participants protocols past tid
    still_members = ap (λ b. participants_of protocols (cond b (or_steps (program_in tid x.event) []) (program past tid))) old

    candidate_now : refused protocols (x ∷ past) tid ≡ record { tid = tid; tickets = tickets_with site vote (map (voter past tid) (participants protocols past tid)) }
    candidate_now =
        let named : List SiteTicket → Ticketed = λ (ts : List SiteTicket). record { tid = tid; tickets = ts } in
        ap (λ ms. named (vote_tickets (x ∷ past) tid ms)) still_members ∙ ap named (sym (tickets_now (participants protocols past tid)))

  module _ (tid : Tid) (ticket : ℕ) (names : names_cycle (taken (From.Vote tid (Some ticket))).answer ≡ true) where
    -- the attempt is undecided
    pub stands_open : standing protocols past tid ≡ Undecided
    stands_open =
        let counted = (coord_made protocols policy past (Ev.Take site (From.Vote tid (Some ticket)))).counted (decides_counts (taken (From.Vote tid (Some ticket))).answer names) in
        ap (λ b. standing_of b (known_decision protocols past tid)) (and_parts (is_open past tid) (is_due_vote (outstanding past tid site)) counted).0

    -- the edges go round by what the journal and the table tell where they may stand there
    pub may_is : (known : Known) → IsUndecidedAs protocols past tid known → CoordJournalSaysAll protocols past → (own : Tid) (votes : List SiteTicket) → own ≡ known.tid → votes ≡ tickets_with site (Some ticket) known.members
        → (edges : List Edge) → goes_round own votes (journal past) edges ≡ may_name protocols past (taken (From.Vote tid (Some ticket))) tid edges
    may_is known undecided says own votes e f edges =
        let x = taken (From.Vote tid (Some ticket)) in
        let heard = (coord_made protocols policy past (Ev.Take site (From.Vote tid (Some ticket)))).heard in
        let candidate_is : record { tid = own; tickets = votes } ≡ refused protocols (x ∷ past) tid =
        ap₂ (λ (t : Tid) (ts : List SiteTicket). let one : Ticketed = record { tid = t; tickets = ts } in one) (e ∙ undecided.name) (f ∙ ap (tickets_with site (Some ticket)) undecided.members)
        ∙ sym (candidate_now x tid (Some ticket) heard (decides_counts x.answer names) (decides_begins tid x.answer names)) in
        round_is protocols past says (record { tid = own; tickets = votes }) edges ∙ ap (λ (v : Ticketed). is_cycle (v ∷ commits (records past)) v.tid edges) candidate_is
