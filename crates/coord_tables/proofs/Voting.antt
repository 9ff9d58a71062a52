-- Yes votes that count.
use Rattle.std.proofs.Common.{◌≡◌, ℕ, ◌<◌, Bool, true, false, cond, ◌&&◌, ◌||◌, is_none, is_some, Option, Some, None, List, [], ◌∷◌, map, refl, sym, ap, ap₂, subst, ◌∙◌}
use Rattle.std.proofs.lemmas.Bool.{and_parts, cond-true, false≢true, and_from, or_left, or_right}
use Rattle.mdb_base.specs.declared.acts.PlainAct.{PlainAct}
use Rattle.mdb_base.specs.declared.acts.Step.{Step}
use Rattle.mdb_base.specs.declared.names.SiteId.{SiteId}
use Rattle.mdb_base.specs.declared.names.SiteTicket.{SiteTicket}
use Rattle.mdb_base.specs.declared.names.Tid.{Tid}
use Rattle.mdb_base.specs.Names.{same_site, same_tid}
use Rattle.mdb_base.specs.Rising.{IsRising}
use Rattle.mdb_base.specs.Words.{Each, each_of, found, holds_of, map_some, or_else, some_of, when, with_some}
use Rattle.mdb_base.proofs.ForCallers.{above_rising, cond_some, rising_rest, same_site-equal}
use Rattle.presumptions.specs.declared.Participant.{Participant}
use Rattle.fed_rules.specs.declared.answers.Answer.TheVariants as Say
use Rattle.fed_rules.specs.declared.answers.Cause.TheVariants as For
use Rattle.fed_rules.specs.declared.messages.Due.TheVariants as Due_is
use Rattle.fed_rules.specs.Happenings.{quiet}
use Rattle.fed_rules.specs.Coord.{aborts, all_voted, answered, is_due_vote, last_vote, of_take, of_vote, vote_counted, vote_counts, vote_ticket, vote_tickets, yes_vote}
use Rattle.fed_rules.specs.CoordRecords.{commits}
use Rattle.fed_rules.specs.CoordPast.{CoordHappening, CoordPast, Standing, Undecided, count_at, epoch_at, has_step_left, has_ticket_at, is_open, known_decision, next_step, outstanding, outstanding_at, participants, participants_of, prepare_at, program, records, standing, standing_of, take_at, visits, vote_at, work_at}
use Rattle.global_exec.specs.Firsts.{replaced}
use Rattle.global_exec.specs.Live.{Live, awaits_vote, is_of, live_of, voted}
use Rattle.global_exec.specs.Pasts.{IsAmong}
use Rattle.global_exec.proofs.ForCallers.{awaits_link, each_above, vote_of_past}
use Rattle.protocol_table.specs.declared.known.Known.{Known}
use Rattle.protocol_table.specs.declared.members.Member.{Member}
use Rattle.protocol_table.specs.Agreement.{IsKnownAs, IsUndecidedAs, member_ticket, voter}
use Rattle.protocol_table.specs.Attempts.{changed, has_voted, known_of, lacks_vote, with_vote}
use Rattle.protocol_table.specs.Ends as ends
use Rattle.protocol_table.proofs.ForCallers.{each_of_map, votes_agree, votes_go}
use Rattle.ticket_graph.specs.Graph.{AreHeld, StandsFor}
use Rattle.coord_tables.specs.declared.tables.Tables.{Tables}
use Rattle.coord_tables.specs.Attempts.{IsLiveAs}
use Rattle.coord_tables.specs.Trees.{committed_in}
use Rattle.coord_tables.specs.Deciding.{IsAborting}
use Rattle.coord_tables.specs.Stages.{AreStagesOf}
use Rattle.coord_tables.specs.Tables.{IsServing}
use Rattle.coord_tables.specs.Terms.{Terms, IsSound, answer_of}
use Rattle.coord_tables.specs.Waiting.{waiting}
use Rattle.coord_tables.specs.Voting.{CountsVote, last_tickets, ticket_with, vote_event, voted_past, votes_with}
use Rattle.coord_tables.proofs.Dids.{live_changed, live_unchanged, rising_only}
use Rattle.coord_tables.proofs.Initiations.{known_open}
use Rattle.coord_tables.proofs.Lines.{IsAsBefore, elsewhere}
use Rattle.coord_tables.proofs.Own.{serving_own}
use Rattle.coord_tables.proofs.Waiting.{held_still}
use Rattle.coord_tables.proofs.Serving.{stages_stay}
use Rattle.coord_tables.proofs.Tabled.{known_changed, other_changed}

-- ---- lists

found_above : {A B : Type 0} (key : A → ℕ) (number : B → ℕ) (look : A → Option B) → ((x : A) (y : B) → look x ≡ Some y → number y ≡ key x) → (n : ℕ) (xs : List A) → Each (λ x. n < key x) xs → Each (λ y. n < number y) (found look xs)
found_above key number look same n [] h = tt
found_above key number look same n (x ∷ xs) h = by_look (look x) refl (found_above key number look same n xs h.1) where
  by_look : (o : Option _) → look x ≡ o → Each (λ y. n < number y) (found look xs) → Each (λ y. n < number y) (with_some o (found look xs))
  by_look None e rest = rest
  by_look (Some y) e rest = (subst (λ (m : ℕ). n < m) (sym (same x y e)) h.0, rest)

-- what is found of rising items rises
pub found_rise : {A B : Type 0} (key : A → ℕ) (number : B → ℕ) (look : A → Option B) → ((x : A) (y : B) → look x ≡ Some y → number y ≡ key x) → (xs : List A) → IsRising key xs → IsRising number (found look xs)
found_rise key number look same [] h = tt
found_rise key number look same (x ∷ xs) h = by_look (look x) refl (found_rise key number look same xs (rising_rest key x xs h)) where
  by_look : (o : Option _) → look x ≡ o → IsRising number (found look xs) → IsRising number (with_some o (found look xs))
  by_look None e rest = rest
  by_look (Some y) e rest =
      above_rising number y (found look xs)
      (subst (λ (m : ℕ). Each (λ z. m < number z) (found look xs)) (sym (same x y e)) (found_above key number look same (key x) xs (each_above key x xs h))) rest

-- the tickets of rising members rise
pub tickets_rise : (site : SiteId) (ticket : ℕ) (members : List Member) → IsRising (λ m. m.site.0) members → IsRising (λ k. k.site.0) (map (ticket_with site ticket) members)
tickets_rise site ticket [] h = tt
tickets_rise site ticket (m ∷ []) h = tt
tickets_rise site ticket (m ∷ n ∷ ms) h = (h.0, tickets_rise site ticket (n ∷ ms) h.1)

-- where all voted, these are the tickets of their votes
one_ticket : (site : SiteId) (ticket : ℕ) (m : Member) → votes_with site ticket m ≡ true → Some (ticket_with site ticket m) ≡ member_ticket (with_vote site ticket m)
one_ticket site ticket m e = by_site (same_site m.site site) e where
  by_vote : (v : Option ℕ) → is_some v ≡ true → Some (record { site = m.site; ticket = or_else v 0 }) ≡ vote_ticket m.site v
  by_vote None e = absurd (false≢true e)
  by_vote (Some n) e = refl

  by_site : (b : Bool) → has_voted (cond b (record m { vote = Some ticket }) m) ≡ true
      → Some (record { site = m.site; ticket = or_else (cond b (record m { vote = Some ticket }) m).vote 0 }) ≡ member_ticket (cond b (record m { vote = Some ticket }) m)
  by_site true e = refl
  by_site false e = by_vote m.vote e

tickets_found : (site : SiteId) (ticket : ℕ) (ms : List Member) → each_of (votes_with site ticket) ms ≡ true → map (ticket_with site ticket) ms ≡ found member_ticket (map (with_vote site ticket) ms)
tickets_found site ticket [] e = refl
tickets_found site ticket (m ∷ ms) e =
    let parts = and_parts (votes_with site ticket m) (each_of (votes_with site ticket) ms) e in
    ap₂ (λ (o : Option SiteTicket) ks. with_some o ks) (one_ticket site ticket m parts.0) (tickets_found site ticket ms parts.1)

-- ---- what counts

pub awaits_are : (tables : Tables) (terms : Terms) (past : CoordPast) → IsServing tables terms past → (site : SiteId) (tid : Tid) → IsAmong site terms.protocols → holds_of (awaits_vote site) (live_of tid tables.exec) ≡ vote_counts past site tid
awaits_are tables terms past s site tid among = by_live (is_open past tid) refl (live_of tid tables.exec) (s.live tid) where
  by_live : (b : Bool) → is_open past tid ≡ b → (o : Option Live) → IsLiveAs terms.protocols past tid b o → holds_of (awaits_vote site) o ≡ vote_counts past site tid
  by_live true u (Some live) l = awaits_link terms.protocols past tid live l site among ∙ sym (ap (λ b. b && is_due_vote (outstanding past tid site)) u)
  by_live true u None l = absurd l
  by_live false u (Some live) l = absurd l
  by_live false u None l = sym (ap (λ b. b && is_due_vote (outstanding past tid site)) u)

pub vote_open : (past : CoordPast) (site : SiteId) (tid : Tid) → vote_counts past site tid ≡ true → is_open past tid ≡ true
vote_open past site tid e = (and_parts (is_open past tid) (is_due_vote (outstanding past tid site)) e).0

-- a site whose vote is due is visited, and didn't vote
due_voter : (past : CoordPast) (tid : Tid) (site : SiteId) → is_due_vote (outstanding past tid site) ≡ true → (visits site (program past tid) ≡ true) × (vote_at past tid site ≡ None)
due_voter past tid site e = by_visit (visits site (program past tid)) refl e where
  by_vote : (o : Option ℕ) → is_due_vote (cond (is_none o) (Some (Due_is.Prepare site (epoch_at past tid site) (count_at past tid site))) None) ≡ true → o ≡ None
  by_vote None d = refl
  by_vote (Some n) d = absurd (false≢true d)

  by_same : (b : Bool) (act : PlainAct) → is_due_vote (cond b (Some (Due_is.Work site (epoch_at past tid site) (count_at past tid site) act)) None) ≡ true → ⊥
  by_same true act d = false≢true d
  by_same false act d = false≢true d

  by_work : (o : Option Step) → is_due_vote (work_at past tid site o) ≡ true → ⊥
  by_work None d = false≢true d
  by_work (Some step) d = by_same (same_site step.site site) _ d

  by_ticket : (b : Bool) → is_due_vote (cond b (prepare_at past tid site) (take_at past tid site)) ≡ true → vote_at past tid site ≡ None
  by_ticket true d = by_vote (vote_at past tid site) d
  by_ticket false d = absurd (false≢true d)

  by_left : (b : Bool) → is_due_vote (cond b (work_at past tid site (next_step past tid)) (cond (has_ticket_at past tid site) (prepare_at past tid site) (take_at past tid site))) ≡ true → vote_at past tid site ≡ None
  by_left true d = absurd (by_work (next_step past tid) d)
  by_left false d = by_ticket (has_ticket_at past tid site) d

  by_visit : (b : Bool) → visits site (program past tid) ≡ b → is_due_vote (cond b (outstanding_at past tid site) None) ≡ true → (visits site (program past tid) ≡ true) × (vote_at past tid site ≡ None)
  by_visit true v d = (v, by_left (has_step_left past tid site) d)
  by_visit false v d = absurd (false≢true d)

lacks_one : (past : CoordPast) (tid : Tid) (site : SiteId) (steps : List Step) (ps : List Participant) → visits site steps ≡ true → vote_at past tid site ≡ None
    → some_of (λ p. same_site p.site site) ps ≡ true → some_of (lacks_vote site) (map (voter past tid) (participants_of ps steps)) ≡ true
lacks_one past tid site steps [] v n among = absurd (false≢true among)
lacks_one past tid site steps (p ∷ ps) v n among = by_test (same_site p.site site) refl (lacks_one past tid site steps ps v n) where
  by_visit : (w : Bool) → some_of (lacks_vote site) (map (voter past tid) (participants_of ps steps)) ≡ true
      → some_of (lacks_vote site) (map (voter past tid) (cond w (p ∷ participants_of ps steps) (participants_of ps steps))) ≡ true
  by_visit true h = or_right (lacks_vote site (voter past tid p)) _ h
  by_visit false h = h

  by_test : (b : Bool) → same_site p.site site ≡ b → (some_of (λ q. same_site q.site site) ps ≡ true → some_of (lacks_vote site) (map (voter past tid) (participants_of ps steps)) ≡ true)
      → some_of (lacks_vote site) (map (voter past tid) (participants_of (p ∷ ps) steps)) ≡ true
  by_test true e h =
      let is : p.site ≡ site = same_site-equal p.site site e in
      let there : visits p.site steps ≡ true = ap (λ (s : SiteId). visits s steps) is ∙ v in
      let lacks : lacks_vote site (voter past tid p) ≡ true = and_from _ _ e (ap (λ (s : SiteId). is_none (vote_at past tid s)) is ∙ ap is_none n) in
      ap (λ w. some_of (lacks_vote site) (map (voter past tid) (cond w (p ∷ participants_of ps steps) (participants_of ps steps)))) there ∙ or_left (lacks_vote site (voter past tid p)) _ lacks
  by_test false e h = by_visit (visits p.site steps) (h (sym (ap (λ b. b || some_of (λ q. same_site q.site site) ps) e) ∙ among))

-- ---- the lines

pub vote_ignored : (terms : Terms) (past : CoordPast) (site : SiteId) (tid : Tid) (vote : Option ℕ) → vote_counts past site tid ≡ false → answer_of terms past (vote_event site tid vote) ≡ quiet (vote_event site tid vote) Say.Ignored
unfolding answered of_take of_vote when
vote_ignored terms past site tid vote e = ap (λ b. when b (vote_counted terms.protocols past site tid vote) (quiet (vote_event site tid vote) Say.Ignored)) e

vote_is : (terms : Terms) (past : CoordPast) (site : SiteId) (tid : Tid) (vote : Option ℕ) → vote_counts past site tid ≡ true → answer_of terms past (vote_event site tid vote) ≡ vote_counted terms.protocols past site tid vote
unfolding answered of_take of_vote when
vote_is terms past site tid vote e = ap (λ b. when b (vote_counted terms.protocols past site tid vote) (quiet (vote_event site tid vote) Say.Ignored)) e

no_counted : (protocols : List Participant) (past : CoordPast) (site : SiteId) (tid : Tid) → vote_counted protocols past site tid None ≡ aborts protocols past (vote_event site tid None) tid (For.No site)
unfolding vote_counted
no_counted protocols past site tid = refl

yes_counted : (protocols : List Participant) (past : CoordPast) (site : SiteId) (tid : Tid) (ticket : ℕ) → vote_counted protocols past site tid (Some ticket) ≡ yes_vote protocols past (vote_event site tid (Some ticket)) tid
unfolding vote_counted
yes_counted protocols past site tid ticket = refl

yes_by : (protocols : List Participant) (past : CoordPast) (site : SiteId) (tid : Tid) (ticket : ℕ) (b : Bool) → all_voted (voted_past past site tid ticket) tid (participants protocols past tid) ≡ b
    → yes_vote protocols past (vote_event site tid (Some ticket)) tid
    ≡ when b (last_vote protocols past (vote_event site tid (Some ticket)) tid (vote_tickets (voted_past past site tid ticket) tid (participants protocols past tid))) (quiet (vote_event site tid (Some ticket)) Say.Voted)
unfolding yes_vote
yes_by protocols past site tid ticket b e =
    ap (λ c. when c (last_vote protocols past (vote_event site tid (Some ticket)) tid (vote_tickets (voted_past past site tid ticket) tid (participants protocols past tid))) (quiet (vote_event site tid (Some ticket)) Say.Voted)) e

when_true : {A : Type 0} (x y : A) → when true x y ≡ x
unfolding when
when_true x y = refl

when_false : {A : Type 0} (x y : A) → when false x y ≡ y
unfolding when
when_false x y = refl

none_last : {A : Type 0} (b : Bool) (x : A) → cond b (Some x) None ≡ None → b ≡ false
none_last true x e = cc
none_last false x e = refl

-- a vote that isn't the last one
pub vote_more : (terms : Terms) (past : CoordPast) (site : SiteId) (tid : Tid) (ticket : ℕ) → vote_counts past site tid ≡ true → last_tickets terms.protocols past site tid ticket ≡ None
    → answer_of terms past (vote_event site tid (Some ticket)) ≡ quiet (vote_event site tid (Some ticket)) Say.Voted
vote_more terms past site tid ticket c none =
    vote_is terms past site tid (Some ticket) c ∙ yes_counted terms.protocols past site tid ticket ∙ yes_by terms.protocols past site tid ticket false (none_last _ _ none) ∙ when_false _ _

-- the last one
pub vote_last : (terms : Terms) (past : CoordPast) (site : SiteId) (tid : Tid) (ticket : ℕ) (tickets : List SiteTicket) → vote_counts past site tid ≡ true → last_tickets terms.protocols past site tid ticket ≡ Some tickets
    → answer_of terms past (vote_event site tid (Some ticket)) ≡ last_vote terms.protocols past (vote_event site tid (Some ticket)) tid tickets
vote_last terms past site tid ticket tickets c some =
    let parts = cond_some _ _ tickets some in
    vote_is terms past site tid (Some ticket) c ∙ yes_counted terms.protocols past site tid ticket ∙ yes_by terms.protocols past site tid ticket true parts.0 ∙ when_true _ _
    ∙ ap (last_vote terms.protocols past (vote_event site tid (Some ticket)) tid) parts.1

pub last_parts : (protocols : List Participant) (past : CoordPast) (site : SiteId) (tid : Tid) (ticket : ℕ) (tickets : List SiteTicket) → last_tickets protocols past site tid ticket ≡ Some tickets
    → (all_voted (voted_past past site tid ticket) tid (participants protocols past tid) ≡ true) × (vote_tickets (voted_past past site tid ticket) tid (participants protocols past tid) ≡ tickets)
last_parts protocols past site tid ticket tickets some = cond_some _ _ tickets some

-- a no
pub no_aborting : (terms : Terms) (past : CoordPast) (site : SiteId) (tid : Tid) (vote : Option ℕ) → vote ≡ None → vote_counts past site tid ≡ true → IsAborting terms past (vote_event site tid vote) tid (For.No site)
no_aborting terms past site tid vote none c = subst (λ (y : Option ℕ). IsAborting terms past (vote_event site tid y) tid (For.No site)) (sym none) (record {
  usual = tt;
  numbered = tt;
  undecided = vote_open past site tid c;
  cause = For.No site;
  line = vote_is terms past site tid None c ∙ no_counted terms.protocols past site tid;
  about = λ t. refl;
  prints = λ x forgets heard e. sym e;
})

-- ---- the tables

module _ (terms : Terms) (past : CoordPast) (site : SiteId) (tid : Tid) (ticket : ℕ) (counted : CountsVote site tid terms past) where
  abbrev pub vote_line : CoordHappening
  vote_line = quiet (vote_event site tid (Some ticket)) Say.Voted

  u : is_open past tid ≡ true
  u = vote_open past site tid counted.counts

  due : is_due_vote (outstanding past tid site) ≡ true
  due = (and_parts (is_open past tid) (is_due_vote (outstanding past tid site)) counted.counts).1

  vote_counts_in : (known : Known) → IsUndecidedAs terms.protocols past tid known → ends.vote_counts site known ≡ true
  vote_counts_in known k =
      let d = due_voter past tid site due in
      and_from _ _ (ap is_none k.undecided) (ap (some_of (lacks_vote site)) k.members ∙ lacks_one past tid site (program past tid) terms.protocols d.0 d.1 counted.among)

  voted_known : (known : Known) → IsUndecidedAs terms.protocols past tid known → IsUndecidedAs terms.protocols (vote_line ∷ past) tid (ends.voted site ticket known)
  voted_known known k = votes_go terms.protocols past tid known k site ticket vote_line refl refl refl refl

  -- the tickets of all votes, by the table
  pub last_by : (known : Known) → IsUndecidedAs terms.protocols past tid known → (b : Bool) → b ≡ each_of (votes_with site ticket) known.members
      → cond b (Some (map (ticket_with site ticket) known.members)) None ≡ last_tickets terms.protocols past site tid ticket
  last_by known k b is =
      let agree = votes_agree terms.protocols (vote_line ∷ past) tid (ends.voted site ticket known) (voted_known known k) in
      by_test b is ∙ ap₂ (λ c (ks : List SiteTicket). cond c (Some ks) None) (is ∙ sym (each_of_map has_voted (with_vote site ticket) known.members) ∙ agree.all) agree.tickets
    where
      by_test : (c : Bool) → c ≡ each_of (votes_with site ticket) known.members
          → cond c (Some (map (ticket_with site ticket) known.members)) None ≡ cond c (Some (found member_ticket (map (with_vote site ticket) known.members))) None
      by_test true e = ap (λ (ks : List SiteTicket). Some ks) (tickets_found site ticket known.members (sym e))
      by_test false e = refl

  others : (t : Tid) → same_tid tid t ≡ false → IsAsBefore terms.protocols past vote_line t
  others t e = elsewhere terms.protocols past vote_line t (record { goes = refl; about = e; begins = refl; named = refl; takes = refl; prepares = refl })

  either : (b old : Bool) → cond b old old ≡ old
  either true old = refl
  either false old = refl

  still_open : (t : Tid) → is_open (vote_line ∷ past) t ≡ is_open past t
  still_open t = either (same_tid tid t) (is_open past t)

  now_open : is_open (vote_line ∷ past) tid ≡ true
  now_open = still_open tid ∙ u

  vote_keeps : (q : Known) → (ends.after_vote site ticket q).tid ≡ q.tid
  vote_keeps q = by_test (ends.vote_counts site q) where
    by_test : (b : Bool) → (cond b (ends.voted site ticket q) q).tid ≡ q.tid
    by_test true = refl
    by_test false = refl

  known_by : (table : List Known) (o : Option Known) → known_of tid table ≡ o → IsKnownAs terms.protocols past tid Undecided o → IsKnownAs terms.protocols (vote_line ∷ past) tid Undecided (known_of tid (changed tid (ends.after_vote site ticket) table))
  known_by table None e k = absurd k
  known_by table (Some known) e k =
      subst (λ (o : Option Known). IsKnownAs terms.protocols (vote_line ∷ past) tid Undecided o)
      (sym (known_changed tid (ends.after_vote site ticket) vote_keeps table ∙ ap (map_some (ends.after_vote site ticket)) e ∙ ap (λ (q : Known). Some q) (cond-true _ _ _ (vote_counts_in known k))))
      (voted_known known k)

  known_others : (table : List Known) (t : Tid) → same_tid tid t ≡ false → known_of t (changed tid (ends.after_vote site ticket) table) ≡ known_of t table
  known_others table t e = other_changed tid t (ends.after_vote site ticket) e vote_keeps table

  live_by : IsSound terms past → (table : List Live) (o : Option Live) → live_of tid table ≡ o → IsLiveAs terms.protocols past tid true o → IsLiveAs terms.protocols (vote_line ∷ past) tid true (live_of tid (replaced (is_of tid) (voted site) table))
  live_by sound table None e l = absurd l
  live_by sound table (Some live) e l =
      subst (λ (o : Option Live). IsLiveAs terms.protocols (vote_line ∷ past) tid true o)
      (sym (live_changed tid (voted site) (λ q. refl) table ∙ ap (map_some (voted site)) e))
      (vote_of_past terms.protocols past tid live l site ticket vote_line refl refl refl (rising_only site live.program terms.protocols sound.rising))

  pub vote_serving : (tables now : Tables) → IsSound terms past → IsServing tables terms past
      → now ≡ record tables { known = changed tid (ends.after_vote site ticket) tables.known; exec = replaced (is_of tid) (voted site) tables.exec } → IsServing now terms (vote_line ∷ past)
  vote_serving tables now sound s is =
      let undecided : standing terms.protocols (vote_line ∷ past) tid ≡ Undecided = ap (λ o. standing_of o (known_decision terms.protocols (vote_line ∷ past) tid)) now_open in
      let known = ap (λ (t : Tables). t.known) is in
      let exec = ap (λ (t : Tables). t.exec) is in
      serving_own tables now terms past vote_line tid (record {
        others = others;
        known_others = λ t e. ap (known_of t) known ∙ known_others tables.known t e;
        live_others = λ t e. ap (live_of t) exec ∙ live_unchanged tid t (voted site) (λ q. refl) tables.exec e;
        known_own = subst (λ (st : Standing). IsKnownAs terms.protocols (vote_line ∷ past) tid st (known_of tid now.known)) (sym undecided)
            (subst (λ (ks : List Known). IsKnownAs terms.protocols (vote_line ∷ past) tid Undecided (known_of tid ks)) (sym known) (known_by tables.known (known_of tid tables.known) refl (known_open tables terms past tid s u)));
        live_own = subst (λ b. IsLiveAs terms.protocols (vote_line ∷ past) tid b (live_of tid now.exec)) (sym now_open)
            (subst (λ (ls : List Live). IsLiveAs terms.protocols (vote_line ∷ past) tid true (live_of tid ls)) (sym exec)
            (live_by sound tables.exec (live_of tid tables.exec) refl (subst (λ b. IsLiveAs terms.protocols past tid b (live_of tid tables.exec)) u (s.live tid))));
        stages = subst (λ (t : Tables). AreStagesOf terms.protocols (vote_line ∷ past) t.stages.listed) (sym is)
            (stages_stay terms.protocols past vote_line tables.stages.listed refl still_open (λ t. record { program = refl; takes = refl; prepares = refl; tickets = refl }) s.stages);
        committed = λ tx. ap (λ (t : Tables). committed_in t.committed.listed tx) is ∙ s.committed tx;
        graph = subst (λ (t : Tables). StandsFor (commits (records past)) t.graph) (sym is) s.graph;
        pruned = subst (λ (t : Tables). AreHeld (waiting (vote_line ∷ past)) t.graph) (sym is) (held_still past vote_line tables.graph refl still_open s.pruned);
      }) s
