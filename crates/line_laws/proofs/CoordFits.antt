-- What the coordinator answers to a command is one of the answers that the command can have, with places where it can send; and each undecided
-- attempt is ready behind it.
use Rattle.std.proofs.Common.{◌≡◌, ℕ, ◌<◌, ◌==◌, ◌&&◌, nat_le, nat_lt, Bool, true, false, cond, is_some, Option, Some, None, List, [], ◌∷◌, ◌++◌, length, map, take, inl, inr, refl, sym, ◌∙◌, ap, subst, arith}
use Rattle.std.proofs.lemmas.Bool.{and_parts, leb-true}
use Rattle.mdb_base.specs.declared.acts.Step.{Step}
use Rattle.mdb_base.specs.declared.names.SiteId.{SiteId}
use Rattle.mdb_base.specs.declared.names.Tid.{Tid}
use Rattle.mdb_base.specs.declared.names.Tx.{Tx}
use Rattle.mdb_base.specs.Names.{same_site, same_tid}
use Rattle.mdb_base.specs.Words.{Each, each_of, given, when}
use Rattle.mdb_base.proofs.ForCallers.{same_site-equal, same_tid-equal, same_tid-refl}
use Rattle.order_laws.specs.Chains.{In}
use Rattle.order_laws.specs.Search.{cycle_through}
use Rattle.order_laws.specs.Tickets.{edge_between}
use Rattle.order_laws.proofs.ForCallers.{each_at}
use Rattle.presumptions.specs.declared.Participant.{Participant}
use Rattle.fed_rules.specs.declared.answers.Answer.TheVariants as Say
use Rattle.fed_rules.specs.declared.answers.Cause.TheVariants as For
use Rattle.fed_rules.specs.declared.commands.Command.{Command}
use Rattle.fed_rules.specs.declared.commands.Command.TheVariants as Cmd
use Rattle.fed_rules.specs.declared.events.CoordEvent.{CoordEvent}
use Rattle.fed_rules.specs.declared.events.CoordEvent.TheVariants as Ev
use Rattle.fed_rules.specs.declared.messages.Due.{Due}
use Rattle.fed_rules.specs.declared.messages.Due.TheVariants as Due_is
use Rattle.fed_rules.specs.declared.messages.FromSite.{FromSite}
use Rattle.fed_rules.specs.declared.messages.FromSite.TheVariants as From
use Rattle.fed_rules.specs.declared.records.CoordRecord.{CoordRecord}
use Rattle.fed_rules.specs.Coord.{ack_counts, acked_while, again_while, all_outstanding, all_voted, answered, asked_while, checkpoint, coord_line, did_counts, is_due_vote, is_member, lacks_initiation, last_vote, missing, of_ack, of_again, of_back, of_check, of_did, of_fate, of_go, of_inquiry, of_late, of_take, of_vote, send_due, unless_tripped, vote_counted, vote_counts, vote_tickets, yes_vote}
use Rattle.fed_rules.specs.CoordPast.{CoordHappening, CoordPast, Decided, Gone, Standing, Undecided, attempts_of, counted, disk, has_ticket_at, is_about, is_open, outstanding, participants, or_steps, or_vote, participants_of, program, records, standing, trip, undecided_of, visits, vote_at}
use Rattle.fed_rules.specs.CoordRecords.{committed_of, commits, coord_frame, coord_payload, is_nobody}
use Rattle.fed_rules.specs.Disk.{Call, Stops, longest}
use Rattle.fed_rules.specs.Happenings.{Trip, is_down, quiet, stopped, tripped}
use Rattle.fed_rules.specs.Policies.{Policy}
use Rattle.coord_laws.proofs.ForCallers.{outstanding_site, owed}
use Rattle.line_text.specs.Fits.{answer_fits}
use Rattle.line_laws.proofs.Outstanding.{IsMember, Ready, ReadyFor, participant_at, ticket_in, visits_own}
use Rattle.line_laws.proofs.Sorted.{Sorted, number_of, those_sorted}
use Rattle.line_laws.proofs.CoordLines.{CoordGood, IsOf, aborts_good, commits_good, down_good, dues_sorted, found_cycle, late_of, other_open, others_ready, out_sorted, ready_as, same_either, tripped_good, vote_of}
use Rattle.line_laws.proofs.CoordSends.{KnowsDecided, again_good, no_calls}
use Rattle.line_laws.proofs.CoordReplies.{did_good}

module _ (protocols : List Participant) (past : CoordPast) (ready : (g : Tid) → is_open past g ≡ true → Ready protocols past g) (sorted : Sorted number_of protocols) where
  -- ---- votes

  ignored_good : (site : SiteId) (message : FromSite) (place : ℕ) → CoordGood protocols past ready sorted (Cmd.Take site place) (quiet (Ev.Take site message) Say.Ignored)
  ignored_good site message place = record {
    answer = refl;
    some = λ n. refl;
    rises = tt;
    can = inl refl;
    next = λ g o. ready g (same_either (is_about g (Ev.Take site message)) (is_open past g) o);
  }

  -- a vote is due only behind the ticket
  due_ticketed : (t : Tid) (site : SiteId) (o : Option Due) → outstanding past t site ≡ o → is_due_vote o ≡ true → has_ticket_at past t site ≡ true
  due_ticketed t site None e v = cc
  due_ticketed t site (Some (Due_is.Prepare s k m)) e v =
      let own = owed past t site (Due_is.Prepare s k m) e in
      let here : s ≡ site = outstanding_site past t site (Due_is.Prepare s k m) e in
      ap (has_ticket_at past t) (sym here) ∙ own.1
  due_ticketed t site (Some (Due_is.Work s k m act)) e v = cc
  due_ticketed t site (Some (Due_is.Take s k m)) e v = cc

  voted_good : (site : SiteId) (t : Tid) (k : ℕ) (place : ℕ) → vote_counts past site t ≡ true
      → all_voted (quiet (Ev.Take site (From.Vote t (Some k))) Say.Voted ∷ past) t (participants protocols past t) ≡ false → CoordGood protocols past ready sorted (Cmd.Take site place) (quiet (Ev.Take site (From.Vote t (Some k))) Say.Voted)
  voted_good site t k place c missing = record {
    answer = refl;
    some = λ n. refl;
    rises = tt;
    can = inl refl;
    next = λ g o. by_test g (same_tid t g) refl (same_either (same_tid t g) (is_open past g) o);
  }
    where
      x : CoordHappening
      x = quiet (Ev.Take site (From.Vote t (Some k))) Say.Voted

      parts : (is_open past t ≡ true) × (is_due_vote (outstanding past t site) ≡ true)
      parts = and_parts (is_open past t) (is_due_vote (outstanding past t site)) c

      r : Ready protocols past t
      r = ready t parts.0

      votes : (s : SiteId) → is_some (vote_at (x ∷ past) t s) ≡ true → ticket_in (counted past t) s ≡ true
      votes s v = by_site (same_tid t t && same_site site s) refl v
        where
          by_site : (b : Bool) → (same_tid t t && same_site site s) ≡ b → is_some (or_vote (cond b (Some k) None) (vote_at past t s)) ≡ true → ticket_in (counted past t) s ≡ true
          by_site true q w = subst (λ p. ticket_in (counted past t) p ≡ true) (same_site-equal site s (and_parts (same_tid t t) (same_site site s) q).1) (due_ticketed t site (outstanding past t site) refl parts.1)
          by_site false q w = r.voted s w

      mine : Ready protocols (x ∷ past) t
      mine = record { sited = r.sited; ticketed = r.ticketed; recorded = r.recorded; voted = votes; missing = missing }

      by_test : (g : Tid) (b : Bool) → same_tid t g ≡ b → is_open past g ≡ true → Ready protocols (x ∷ past) g
      by_test g true q o = subst (Ready protocols (x ∷ past)) (same_tid-equal t g q) mine
      by_test g false q o = others_ready protocols past ready sorted t (Ev.Take site (From.Vote t (Some k))) x g (vote_of protocols past ready sorted site t (Some k)) refl refl q (λ l. l) (ready g o)

  when_good : (command : Command) (b : Bool) (x y : CoordHappening) → (b ≡ true → CoordGood protocols past ready sorted command x) → (b ≡ false → CoordGood protocols past ready sorted command y) → CoordGood protocols past ready sorted command (when b x y)
  unfolding when
  when_good command true x y p q = p refl
  when_good command false x y p q = q refl

  given_good : {A : Type 0} (command : Command) (o : Option A) (x : CoordHappening) (f : A → CoordHappening) → (o ≡ None → CoordGood protocols past ready sorted command x) → ((a : A) → o ≡ Some a → CoordGood protocols past ready sorted command (f a)) → CoordGood protocols past ready sorted command (given o f x)
  unfolding given
  given_good command None x f p q = p refl
  given_good command (Some a) x f p q = q a refl

  yes_good : (site : SiteId) (t : Tid) (k : ℕ) (place : ℕ) → vote_counts past site t ≡ true → CoordGood protocols past ready sorted (Cmd.Take site place) (yes_vote protocols past (Ev.Take site (From.Vote t (Some k))) t)
  unfolding yes_vote last_vote
  yes_good site t k place c =
      let event = Ev.Take site (From.Vote t (Some k)) in
      let voted : CoordPast = quiet event Say.Voted ∷ past in
      let members = participants protocols past t in
      let tickets = vote_tickets voted t members in
      when_good (Cmd.Take site place) (all_voted voted t members) _ _
      (λ all. given_good (Cmd.Take site place) (cycle_through edge_between (record { tid = t; tickets = tickets }) (commits (records past))) _ _
      (λ none. commits_good protocols past ready sorted (Cmd.Take site place) event t tickets (vote_of protocols past ready sorted site t (Some k)) (λ f. refl) (λ f. refl))
      (λ edges found. aborts_good protocols past ready sorted (Cmd.Take site place) event t (For.Cycle edges) (vote_of protocols past ready sorted site t (Some k)) (λ f. found_cycle (commits (records past)) _ _ edges found) (λ f. refl)))
      (λ some. voted_good site t k place c some)

  vote_good : (site : SiteId) (t : Tid) (vote : Option ℕ) (place : ℕ) → CoordGood protocols past ready sorted (Cmd.Take site place) (of_vote protocols past site t vote)
  unfolding of_vote vote_counted
  vote_good site t None place =
      when_good (Cmd.Take site place) (vote_counts past site t) _ _ (λ c. aborts_good protocols past ready sorted (Cmd.Take site place) (Ev.Take site (From.Vote t None)) t (For.No site) (vote_of protocols past ready sorted site t None) (λ f. refl) (λ f. refl)) (λ c. ignored_good site (From.Vote t None) place)
  vote_good site t (Some k) place = when_good (Cmd.Take site place) (vote_counts past site t) _ _ (λ c. yes_good site t k place c) (λ c. ignored_good site (From.Vote t (Some k)) place)

  -- ---- acknowledgements and inquiries

  ack_good : (site : SiteId) (t : Tid) (place : ℕ) (s : Standing) → CoordGood protocols past ready sorted (Cmd.Take site place) (acked_while protocols past site t s)
  unfolding acked_while ack_counts
  ack_good site t place Undecided = ignored_good site (From.Ack t) place
  ack_good site t place Gone = ignored_good site (From.Ack t) place
  ack_good site t place (Decided d) =
      when_good (Cmd.Take site place) (is_member site (missing protocols past t d)) _ _
      (λ m. when_good (Cmd.Take site place) (is_nobody (missing protocols (quiet (Ev.Take site (From.Ack t)) Say.Acked ∷ past) t d)) _ _
      (λ none. record { answer = refl; some = λ n. refl; rises = tt; can = inl refl; next = λ g o. ready g (other_open (same_tid t g) (is_open past g) o).1 })
      (λ some. record { answer = refl; some = λ n. refl; rises = tt; can = inl refl; next = λ g o. ready g (same_either (same_tid t g) (is_open past g) o) }))
      (λ m. ignored_good site (From.Ack t) place)

  inquiry_good : (site : SiteId) (t : Tid) (place : ℕ) (s : Standing) → CoordGood protocols past ready sorted (Cmd.Take site place) (asked_while protocols site t s)
  unfolding asked_while
  inquiry_good site t place Undecided = record { answer = refl; some = λ n. refl; rises = tt; can = inl refl; next = λ g o. ready g (same_either (same_tid t g) (is_open past g) o) }
  inquiry_good site t place (Decided d) = record { answer = refl; some = λ n. refl; rises = (tt, tt); can = inr refl; next = λ g o. ready g (same_either (same_tid t g) (is_open past g) o) }
  inquiry_good site t place Gone = record { answer = refl; some = λ n. refl; rises = (tt, tt); can = inr refl; next = λ g o. ready g (same_either (same_tid t g) (is_open past g) o) }

  take_good : (policy : Policy) (site : SiteId) (message : FromSite) (place : ℕ) → IsMember protocols site → CoordGood protocols past ready sorted (Cmd.Take site place) (of_take protocols policy past site message)
  unfolding of_take of_did of_ack of_inquiry
  take_good policy site (From.Did t e n reply) place member =
      when_good (Cmd.Take site place) (did_counts past site t e n reply) _ _ (λ c. did_good protocols past ready sorted site t e n reply place policy member reply refl c) (λ c. ignored_good site (From.Did t e n reply) place)
  take_good policy site (From.Vote t vote) place member = vote_good site t vote place
  take_good policy site (From.Ack t) place member = ack_good site t place (standing protocols past t)
  take_good policy site (From.Inquiry t) place member = inquiry_good site t place (standing protocols past t)

  -- ---- the other commands

  -- a program that may begin: each of its steps is at a site of the table, and there is one
  pub record IsSited (steps : List Step) : Type 0 where
    pub each : Each (λ (step : Step). IsMember protocols step.site) steps
    pub some : (step : Step) × In step steps

  begun_missing : (steps : List Step) → IsSited steps → each_of (λ (m : Participant). is_some (let none : Option ℕ = None in none)) (participants_of protocols steps) ≡ false
  begun_missing steps s =
      let (step, i) = s.some in
      let (m, j, here) = participant_at protocols steps step.site (each_at (λ (x : Step). IsMember protocols x.site) step steps s.each i) (visits_own steps step i) in
      one_there (participants_of protocols steps) m j
    where
      one_there : (ms : List Participant) (m : Participant) → In m ms → each_of (λ (x : Participant). is_some (let none : Option ℕ = None in none)) ms ≡ false
      one_there [] m i = absurd i
      one_there (x ∷ ms) m i = refl

  go_good : (t : Tid) (steps : List Step) (tx : Tx) → IsSited steps → CoordGood protocols past ready sorted (Cmd.Go tx) (of_go protocols past t steps)
  unfolding of_go
  go_good t steps tx sited =
      given_good (Cmd.Go tx) (committed_of (records past) t.tx) _ _
      (λ none. given_good (Cmd.Go tx) (undecided_of past t.tx) _ _ (λ free. begun)
      (λ running q. record { answer = refl; some = λ n. refl; rises = tt; can = inl refl; next = λ g o. ready g (same_either (same_tid t g) (is_open past g) o) }))
      (λ committed q. record { answer = refl; some = λ n. refl; rises = tt; can = inl refl; next = λ g o. ready g (same_either (same_tid t g) (is_open past g) o) })
    where
      start : CoordPast
      start = quiet (Ev.Go t steps) (Say.Begun t) ∷ past

      go_of : IsOf protocols past ready sorted t (Ev.Go t steps)
      go_of = record { about = λ g. refl; undid = λ g e. refl; unvoted = λ g e s. refl }

      x : CoordHappening
      x = record { event = Ev.Go t steps; answer = Say.Begun t; sends = map (send_due t) (all_outstanding protocols (quiet (Ev.Go t steps) (Say.Begun t) ∷ past) t); calls = []; lines = [] }

      fresh : (lacks : Bool) → ReadyFor protocols steps [] (λ s. None) lacks
      fresh lacks = record {
        sited = sited.each;
        ticketed = λ s q. cc;
        recorded = λ s q. cc;
        voted = λ s q. cc;
        missing = begun_missing steps sited;
      }

      mine : Ready protocols (x ∷ past) t
      mine = ready_as protocols steps (program (x ∷ past) t) [] (counted (x ∷ past) t) (λ s. None) (vote_at (x ∷ past) t) (lacks_initiation protocols (x ∷ past) t) (lacks_initiation protocols (x ∷ past) t)
          (ap (λ b. cond b (or_steps (cond b (Some steps) None) []) (program past t)) (same_tid-refl t))
          (ap (λ b. cond b [] (counted past t)) (same_tid-refl t))
          (λ s. ap (λ b. cond b None (vote_at past t s)) (same_tid-refl t))
          (λ l. l) (fresh (lacks_initiation protocols (x ∷ past) t))

      by_test : (g : Tid) (b : Bool) → same_tid t g ≡ b → cond b true (is_open past g) ≡ true → Ready protocols (x ∷ past) g
      by_test g true q o = subst (Ready protocols (x ∷ past)) (same_tid-equal t g q) mine
      by_test g false q o = others_ready protocols past ready sorted t (Ev.Go t steps) x g go_of refl q q (λ l. l) (ready g o)

      begun : CoordGood protocols past ready sorted (Cmd.Go tx) x
      begun = record {
        answer = refl;
        some = λ n. refl;
        rises = dues_sorted protocols past ready sorted t (all_outstanding protocols start t) (out_sorted protocols past ready sorted start t (participants protocols start t) (those_sorted number_of (λ (m : Participant). visits m.site (program start t)) protocols sorted));
        can = inr refl;
        next = λ g o. by_test g (same_tid t g) refl o;
      }

  late_good : (t : Tid) → CoordGood protocols past ready sorted (Cmd.Late t) (of_late protocols past t)
  unfolding of_late
  late_good t =
      when_good (Cmd.Late t) (is_open past t) _ _ (λ o. aborts_good protocols past ready sorted (Cmd.Late t) (Ev.Late t) t For.Late (late_of protocols past ready sorted t) (λ f. refl) (λ f. refl))
      (λ o. record { answer = refl; some = λ n. refl; rises = tt; can = inl refl; next = λ g p. ready g (same_either (same_tid t g) (is_open past g) p) })

  fate_good : (tx other : Tx) → CoordGood protocols past ready sorted (Cmd.Fate other) (of_fate past tx)
  unfolding of_fate
  fate_good tx other =
      given_good (Cmd.Fate other) (committed_of (records past) tx) _ _
      (λ none. given_good (Cmd.Fate other) (undecided_of past tx) _ _ (λ free. by_count (attempts_of past tx == 0))
      (λ running q. record { answer = refl; some = λ n. refl; rises = tt; can = inl refl; next = λ g o. ready g o }))
      (λ committed q. record { answer = refl; some = λ n. refl; rises = tt; can = inl refl; next = λ g o. ready g o })
    where
      by_count : (b : Bool) → CoordGood protocols past ready sorted (Cmd.Fate other) (quiet (Ev.Fate tx) (cond b Say.Unbegun Say.Ended))
      by_count true = record { answer = refl; some = λ n. refl; rises = tt; can = inl refl; next = λ g o. ready g o }
      by_count false = record { answer = refl; some = λ n. refl; rises = tt; can = inl refl; next = λ g o. ready g o }

  check_good : (actor : ℕ) → CoordGood protocols past ready sorted (Cmd.Check actor) (of_check protocols past)
  unfolding of_check
  check_good actor =
      when_good (Cmd.Check actor) (nat_lt longest (coord_payload (checkpoint protocols past))) _ _
      (λ l. record { answer = refl; some = λ n. refl; rises = tt; can = inl refl; next = λ g o. ready g o })
      (λ l. record { answer = refl; some = λ n. refl; rises = tt; can = inl refl; next = λ g o. ready g o })

  back_good : CoordGood protocols past ready sorted (Cmd.Back 0) (of_back protocols past)
  unfolding of_back
  back_good = record { answer = refl; some = λ n. refl; rises = tt; can = inl refl; next = λ g o. absurd cc }

  -- ---- the line of each command

  -- a line without disk calls isn't stopped
  still_good : (command : Command) (x : CoordHappening) → ((t : Trip) → trip past ≡ Some t → 0 < t.calls) → x.calls ≡ [] → CoordGood protocols past ready sorted command x → CoordGood protocols past ready sorted command (unless_tripped past x)
  unfolding tripped stopped when
  still_good command x armed still good = by_trip (trip past) refl
    where
      by_trip : (o : Option Trip) → trip past ≡ o → CoordGood protocols past ready sorted command (tripped coord_frame (disk past) o x)
      by_trip None e = good
      by_trip (Some t) e = by_test (nat_le t.calls (length x.calls)) refl
        where
          by_test : (b : Bool) → nat_le t.calls (length x.calls) ≡ b → CoordGood protocols past ready sorted command (when b (stopped coord_frame (disk past) x.event (take t.calls x.calls ++ Stops t.cut ∷ [])) x)
          by_test true q =
              (let some = armed t e in
              let le = leb-true t.calls (length x.calls) q in
              let none = ap (λ (cs : List (Call CoordRecord)). length cs) still in absurd (omega (arith, some, le, none)))
          by_test false q = good

  still_given : {A : Type 0} (o : Option A) (x : CoordHappening) (f : A → CoordHappening) → x.calls ≡ [] → ((a : A) → (f a).calls ≡ []) → (given o f x).calls ≡ []
  unfolding given
  still_given None x f p q = p
  still_given (Some a) x f p q = q a

  go_still : (t : Tid) (steps : List Step) → (of_go protocols past t steps).calls ≡ []
  unfolding of_go
  go_still t steps = still_given (committed_of (records past) t.tx) _ _ (still_given (undecided_of past t.tx) _ _ refl (λ r. refl)) (λ c. refl)

  fate_still : (tx : Tx) → (of_fate past tx).calls ≡ []
  unfolding of_fate
  fate_still tx = still_given (committed_of (records past) tx) _ _ (still_given (undecided_of past tx) _ _ refl (λ r. refl)) (λ c. refl)

  up_good : (policy : Policy) (command : Command) (event : CoordEvent) → answer_fits command Say.Down ≡ true → CoordGood protocols past ready sorted command (unless_tripped past (answered protocols policy past event))
      → CoordGood protocols past ready sorted command (when (is_down past) (quiet event Say.Down) (unless_tripped past (answered protocols policy past event)))
  up_good policy command event down good = when_good command (is_down past) _ _ (λ d. down_good protocols past ready sorted command event down) (λ d. good)

  module _ (policy : Policy) (armed : (t : Trip) → trip past ≡ Some t → 0 < t.calls) where
    pub go_line : (t : Tid) (steps : List Step) (tx : Tx) → IsSited steps → CoordGood protocols past ready sorted (Cmd.Go tx) (coord_line protocols policy past (Ev.Go t steps))
    unfolding coord_line answered
    go_line t steps tx sited = up_good policy (Cmd.Go tx) (Ev.Go t steps) refl (still_good (Cmd.Go tx) (of_go protocols past t steps) armed (go_still t steps) (go_good t steps tx sited))

    pub fate_line : (tx other : Tx) → CoordGood protocols past ready sorted (Cmd.Fate other) (coord_line protocols policy past (Ev.Fate tx))
    unfolding coord_line answered
    fate_line tx other = up_good policy (Cmd.Fate other) (Ev.Fate tx) refl (still_good (Cmd.Fate other) (of_fate past tx) armed (fate_still tx) (fate_good tx other))

    pub again_line : (t : Tid) → KnowsDecided protocols past ready sorted → CoordGood protocols past ready sorted (Cmd.Again t) (coord_line protocols policy past (Ev.Again t))
    unfolding coord_line answered of_again
    again_line t knows =
        up_good policy (Cmd.Again t) (Ev.Again t) refl
        (still_good (Cmd.Again t) (again_while protocols policy past t (standing protocols past t)) armed (no_calls protocols past ready sorted policy t (standing protocols past t) refl) (again_good protocols past ready sorted policy t knows (standing protocols past t) refl))

    pub late_line : (t : Tid) → CoordGood protocols past ready sorted (Cmd.Late t) (coord_line protocols policy past (Ev.Late t))
    unfolding coord_line answered
    late_line t = up_good policy (Cmd.Late t) (Ev.Late t) refl (tripped_good protocols past ready sorted (Cmd.Late t) (of_late protocols past t) (λ kept. refl) (late_good t))

    pub take_line : (site : SiteId) (message : FromSite) (place : ℕ) → IsMember protocols site → CoordGood protocols past ready sorted (Cmd.Take site place) (coord_line protocols policy past (Ev.Take site message))
    unfolding coord_line answered
    take_line site message place member =
        up_good policy (Cmd.Take site place) (Ev.Take site message) refl (tripped_good protocols past ready sorted (Cmd.Take site place) (of_take protocols policy past site message) (λ kept. refl) (take_good policy site message place member))

    pub halt_line : (actor cut : ℕ) → CoordGood protocols past ready sorted (Cmd.Halt actor cut) (coord_line protocols policy past (Ev.Halt cut))
    unfolding coord_line stopped
    halt_line actor cut =
        when_good (Cmd.Halt actor cut) (is_down past) _ _ (λ d. down_good protocols past ready sorted (Cmd.Halt actor cut) (Ev.Halt cut) refl) (λ d. record { answer = refl; some = λ n. refl; rises = tt; can = inl refl; next = λ g o. absurd cc })

    pub trip_line : (actor calls cut : ℕ) → CoordGood protocols past ready sorted (Cmd.Trip actor calls cut) (coord_line protocols policy past (Ev.Trip calls cut))
    unfolding coord_line
    trip_line actor calls cut = record { answer = refl; some = λ n. refl; rises = tt; can = inl refl; next = λ g o. ready g o }

    pub back_line : CoordGood protocols past ready sorted (Cmd.Back 0) (coord_line protocols policy past Ev.Back)
    unfolding coord_line
    back_line =
        when_good (Cmd.Back 0) (is_down past) _ _ (λ d. tripped_good protocols past ready sorted (Cmd.Back 0) (of_back protocols past) (λ kept. refl) back_good)
        (λ d. record { answer = refl; some = λ n. refl; rises = tt; can = inl refl; next = λ g o. ready g o })

    pub check_line : (actor : ℕ) → CoordGood protocols past ready sorted (Cmd.Check actor) (coord_line protocols policy past Ev.Check)
    unfolding coord_line answered
    check_line actor = up_good policy (Cmd.Check actor) Ev.Check refl (tripped_good protocols past ready sorted (Cmd.Check actor) (of_check protocols past) (λ kept. refl) (check_good actor))
