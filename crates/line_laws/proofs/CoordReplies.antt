-- The line of the coordinator of a site's reply to an operation.
use Rattle.std.proofs.Common.{◌≡◌, ◌⊎◌, ℕ, ◌&&◌, ◌||◌, Bool, true, false, cond, not, is_none, Some, None, List, [], ◌∷◌, map, inl, inr, refl, sym, ◌∙◌, ap, ap₂, subst}
use Rattle.std.proofs.lemmas.Bool.{and_parts}
use Rattle.mdb_base.specs.declared.acts.PlainAct.{PlainAct}
use Rattle.mdb_base.specs.declared.acts.PlainAct.TheVariants.{Read, Write}
use Rattle.mdb_base.specs.declared.acts.Step.{Step}
use Rattle.mdb_base.specs.declared.names.SiteId.{SiteId}
use Rattle.mdb_base.specs.declared.names.Tid.{Tid}
use Rattle.mdb_base.specs.declared.replies.Reply.{Reply}
use Rattle.mdb_base.specs.declared.replies.Reply.TheVariants as Reply_is
use Rattle.mdb_base.specs.declared.replies.Why.TheVariants as Because
use Rattle.mdb_base.specs.Names.{same_tid}
use Rattle.mdb_base.specs.Words.{some_of, with_some}
use Rattle.mdb_base.proofs.ForCallers.{and_false, same_tid-equal, same_tid-refl}
use Rattle.order_laws.specs.Chains.{In}
use Rattle.order_laws.proofs.ForCallers.{in_those}
use Rattle.presumptions.specs.declared.Participant.{Participant}
use Rattle.fed_rules.specs.declared.answers.Answer.{Answer}
use Rattle.fed_rules.specs.declared.answers.Answer.TheVariants as Say
use Rattle.fed_rules.specs.declared.answers.Cause.TheVariants as For
use Rattle.fed_rules.specs.declared.commands.Command.{Command}
use Rattle.fed_rules.specs.declared.commands.Command.TheVariants as Cmd
use Rattle.fed_rules.specs.declared.events.CoordEvent.{CoordEvent}
use Rattle.fed_rules.specs.declared.events.CoordEvent.TheVariants as Ev
use Rattle.fed_rules.specs.declared.messages.Due.{Due}
use Rattle.fed_rules.specs.declared.messages.Due.TheVariants as Due_is
use Rattle.fed_rules.specs.declared.messages.FromSite.TheVariants as From
use Rattle.fed_rules.specs.declared.records.CoordRecord.{CoordRecord}
use Rattle.fed_rules.specs.declared.records.CoordRecord.TheVariants as Rec
use Rattle.fed_rules.specs.Coord.{defers_some, did_counts, did_reply, fits, fits_act, fits_take, held_back, is_prepare, is_take, lacks_initiation, let_through, may_take, news, send_due, sends_news}
use Rattle.fed_rules.specs.CoordPast.{CoordHappening, CoordPast, begins, counted, counts, did_in, is_about, is_open, is_ticket, is_wait, opened, outstanding, participants, or_steps, or_vote, participants_of, program, program_in, records, vote_at, vote_in}
use Rattle.fed_rules.specs.CoordRecords.{class_of, has_initiation, named}
use Rattle.fed_rules.specs.Happenings.{comes_up, quiet, stops}
use Rattle.fed_rules.specs.Policies.{Policy}
use Rattle.fed_rules.proofs.ForCallers.{due_number}
use Rattle.line_text.specs.Fits.{answer_fits, coordinator_sends}
use Rattle.federation_laws.proofs.ForCallers.{left_at}
use Rattle.line_laws.proofs.News.{NoTicket, now, reply_of, reply_ready, take_news, ticket_ready, work_news}
use Rattle.line_laws.proofs.Outstanding.{FitsWork, IsMember, IsTaking, IsWorking, Ready, ReadyFor, fitting}
use Rattle.line_laws.proofs.Sorted.{Sorted, number_of, those_sorted}
use Rattle.line_laws.proofs.CoordLines.{CoordGood, aborts_good, did_of, news_sorted, others_ready, ready_as, same_either}
use Rattle.line_laws.proofs.CoordSends.{IsSend, dues_good, some_held, take_some}

module _ (protocols : List Participant) (past : CoordPast) (ready : (g : Tid) → is_open past g ≡ true → Ready protocols past g) (sorted : Sorted number_of protocols) where
  -- ---- a reply of a site

  module _ (site : SiteId) (t : Tid) (e n : ℕ) (reply : Reply) (place : ℕ) where
    abbrev event : CoordEvent
    event = Ev.Take site (From.Did t e n reply)

    abbrev taking : Command
    taking = Cmd.Take site place

    -- behind a reply that counts the attempt is ready where it is with the reply, and others as before
    did_next : (x : CoordHappening) → x.event ≡ event → counts x.answer ≡ true → ((g : Tid) → begins g x.answer ≡ false)
        → ((g : Tid) → same_tid t g ≡ false → is_none (named protocols (records past) g) ≡ false → is_none (named protocols (records (x ∷ past)) g) ≡ false)
        → ReadyFor protocols (program past t) (reply_of site e reply ∷ counted past t) (vote_at past t) (lacks_initiation protocols (x ∷ past) t)
        → ((g : Tid) → is_open (x ∷ past) g ≡ true → is_open past g ≡ true)
        → (g : Tid) → is_open (x ∷ past) g ≡ true → Ready protocols (x ∷ past) g
    did_next x is c b kept own was g o = by_test (same_tid t g) refl
      where
        mine : Ready protocols (x ∷ past) t
        mine = ready_as protocols (program past t) (program (x ∷ past) t) (reply_of site e reply ∷ counted past t) (counted (x ∷ past) t) (vote_at past t) (vote_at (x ∷ past) t) (lacks_initiation protocols (x ∷ past) t) (lacks_initiation protocols (x ∷ past) t)
            (ap (λ c. cond c (or_steps (program_in t x.event) []) (program past t)) (b t))
            (ap (λ d. cond d [] (cond (counts x.answer) (with_some (did_in t x.event) (counted past t)) (counted past t))) (b t)
            ∙ (ap (λ d. cond d (with_some (did_in t x.event) (counted past t)) (counted past t)) c
            ∙ (ap (λ v. with_some (did_in t v) (counted past t)) is
            ∙ ap (λ d. with_some (cond d (Some (reply_of site e reply)) None) (counted past t)) (same_tid-refl t))))
            (λ s. ap (λ d. cond d None (cond (counts x.answer) (or_vote (vote_in t s x.event) (vote_at past t s)) (vote_at past t s))) (b t)
            ∙ (ap (λ d. cond d (or_vote (vote_in t s x.event) (vote_at past t s)) (vote_at past t s)) c ∙ ap (λ v. or_vote (vote_in t s v) (vote_at past t s)) is))
            (λ l. l) own

        by_test : (q : Bool) → same_tid t g ≡ q → Ready protocols (x ∷ past) g
        by_test true q = subst (Ready protocols (x ∷ past)) (same_tid-equal t g q) mine
        by_test false q = others_ready protocols past ready sorted t event x g (did_of protocols past ready sorted site t e n reply) is (b g) q (kept g q) (ready g (was g o))

    send_fits : (a : Answer) → IsSend protocols past ready sorted a → answer_fits taking a ≡ true
    send_fits a (inl e) = ap (answer_fits taking) e
    send_fits a (inr e) = ap (answer_fits taking) e

    send_can : (a : Answer) → IsSend protocols past ready sorted a → coordinator_sends taking a ≡ true
    send_can a (inl e) = ap (coordinator_sends taking) e
    send_can a (inr e) = ap (coordinator_sends taking) e

    send_counts : (a : Answer) → IsSend protocols past ready sorted a → counts a ≡ true
    send_counts a (inl e) = ap counts e
    send_counts a (inr e) = ap counts e

    send_begins : (a : Answer) → IsSend protocols past ready sorted a → (g : Tid) → begins g a ≡ false
    send_begins a (inl e) g = ap (begins g) e
    send_begins a (inr e) g = ap (begins g) e

    send_open : (a : Answer) → IsSend protocols past ready sorted a → (g : Tid) → cond (stops a || comes_up a) false (cond (same_tid t g) (opened a (is_open past g)) (is_open past g)) ≡ true → is_open past g ≡ true
    send_open a (inl e) g o = same_either (same_tid t g) (is_open past g) (subst (λ (b : Answer). cond (stops b || comes_up b) false (cond (same_tid t g) (opened b (is_open past g)) (is_open past g)) ≡ true) e o)
    send_open a (inr e) g o = same_either (same_tid t g) (is_open past g) (subst (λ (b : Answer). cond (stops b || comes_up b) false (cond (same_tid t g) (opened b (is_open past g)) (is_open past g)) ≡ true) e o)

    initiation_names : (g : Tid) (rs : List CoordRecord) → is_none (named protocols rs g) ≡ false → is_none (named protocols (Rec.Initiation t (participants protocols past t) ∷ rs) g) ≡ false
    initiation_names g rs e = by_test (same_tid t g)
      where
        by_test : (b : Bool) → is_none (cond b (Some (participants protocols past t)) (named protocols rs g)) ≡ false
        by_test true = refl
        by_test false = e

    -- its Initiation isn't lacking then
    lacks_none : (x : CoordHappening) → ((g : Tid) → begins g x.answer ≡ false) → records (x ∷ past) ≡ Rec.Initiation t (participants protocols past t) ∷ records past → lacks_initiation protocols (x ∷ past) t ≡ false
    lacks_none x b is =
        ap (λ (rs : List CoordRecord). has_initiation (class_of (participants protocols (x ∷ past) t)) && is_none (named protocols rs t)) is
        ∙ (ap (λ c. has_initiation (class_of (participants protocols (x ∷ past) t)) && is_none (cond c (Some (participants protocols past t)) (named protocols (records past) t))) (same_tid-refl t)
        ∙ and_false (has_initiation (class_of (participants protocols (x ∷ past) t))))

    -- with the reply it is ready, unless a Prepare is due and its Initiation lacks
    pub IsDueReady : Policy → Type 0
    IsDueReady policy =
        let dues = let_through protocols policy past t (news protocols past (now protocols past t site e n reply) t site) in
        ((some_of is_prepare dues && lacks_initiation protocols past t) ≡ false → ReadyFor protocols (program past t) (reply_of site e reply ∷ counted past t) (vote_at past t) (lacks_initiation protocols past t))
        × ((lacks : Bool) → lacks ≡ false → ReadyFor protocols (program past t) (reply_of site e reply ∷ counted past t) (vote_at past t) lacks)

    news_good : (policy : Policy) → is_open past t ≡ true → (due : Due) × In due (news protocols past (now protocols past t site e n reply) t site) → IsDueReady policy
        → CoordGood protocols past ready sorted taking (sends_news protocols policy past event t (news protocols past (now protocols past t site e n reply) t site))
    unfolding sends_news IsDueReady
    news_good policy undecided there own =
        let due = news protocols past (now protocols past t site e n reply) t site in
        let held = held_back protocols policy past t due in
        let sent = let_through protocols policy past t due in
        let is = some_held protocols past ready sorted held in
        dues_good protocols past ready sorted taking event t (defers_some held) sent is
        (those_sorted due_number (λ d. not (is_take d && not (may_take protocols policy past t))) due (news_sorted protocols past ready sorted (now protocols past t site e n reply) t site))
        send_fits (take_some protocols past ready sorted policy t due there) (inr (send_can (defers_some held) is)) (λ b. (refl, refl))
        (λ b. did_next (record { event = event; answer = defers_some held; sends = map (send_due t) sent; calls = []; lines = [] }) refl (send_counts (defers_some held) is) (send_begins (defers_some held) is) (λ g q k. k)
        (ready_as protocols (program past t) (program past t) (reply_of site e reply ∷ counted past t) (reply_of site e reply ∷ counted past t) (vote_at past t) (vote_at past t) (lacks_initiation protocols past t) _ refl refl (λ s. refl)
        (λ l. ap (λ (ss : List Step). has_initiation (class_of (participants_of protocols ss)) && is_none (named protocols (records past) t)) (ap (λ c. cond c (or_steps (program_in t event) []) (program past t)) (send_begins (defers_some held) is t)) ∙ l) (own.0 b))
        (send_open (defers_some held) is))
        (λ b x is_event is_answer is_records.
        did_next x is_event (ap counts is_answer) (λ g. ap (begins g) is_answer)
        (λ g q k. ap (λ (rs : List CoordRecord). is_none (named protocols rs g)) is_records ∙ initiation_names g (records past) k)
        (own.1 (lacks_initiation protocols (x ∷ past) t) (lacks_none x (λ g. ap (begins g) is_answer) is_records))
        (λ g o. same_either (same_tid t g) (is_open past g)
        (sym (ap (λ (v : CoordEvent). cond (is_about g v) (is_open past g) (is_open past g)) is_event)
        ∙ (sym (ap (λ (a : Answer). cond (stops a || comes_up a) false (cond (is_about g x.event) (opened a (is_open past g)) (is_open past g))) is_answer) ∙ o))))

    -- a reply to the outstanding step
    work_ready : (policy : Policy) → NoTicket reply → Ready protocols past t → IsDueReady policy
    unfolding IsDueReady
    work_ready policy none r = (
      (λ b. reply_ready protocols (program past t) (counted past t) (vote_at past t) (lacks_initiation protocols past t) (lacks_initiation protocols past t) (reply_of site e reply) none (λ l. l) r),
      (λ lacks l. reply_ready protocols (program past t) (counted past t) (vote_at past t) (lacks_initiation protocols past t) lacks (reply_of site e reply) none (λ k. l) r),
    )

    -- or the ticket
    taken_ready : (policy : Policy) → left_at (program past t) (counted past t) site ≡ false → (k m : ℕ) × In (Due_is.Prepare site k m) (news protocols past (now protocols past t site e n reply) t site) → Ready protocols past t → IsDueReady policy
    unfolding IsDueReady
    taken_ready policy left (k, m, i) r = (
      (λ b. ticket_ready protocols (program past t) (counted past t) (vote_at past t) (lacks_initiation protocols past t) (lacks_initiation protocols past t) (reply_of site e reply) left (un_lacking b) r),
      (λ lacks l. ticket_ready protocols (program past t) (counted past t) (vote_at past t) (lacks_initiation protocols past t) lacks (reply_of site e reply) left l r),
    )
      where
        dues : List Due
        dues = news protocols past (now protocols past t site e n reply) t site

        prepared : some_of is_prepare (let_through protocols policy past t dues) ≡ true
        prepared = some_there (let_through protocols policy past t dues) (in_those (λ d. not (is_take d && not (may_take protocols policy past t))) (Due_is.Prepare site k m) dues i refl)
          where
            some_there : (ds : List Due) → In (Due_is.Prepare site k m) ds → some_of is_prepare ds ≡ true
            some_there [] j = absurd j
            some_there (d ∷ ds) (inl same) = ap (λ b. b || some_of is_prepare ds) (ap is_prepare same)
            some_there (d ∷ ds) (inr j) = ap (λ b. is_prepare d || b) (some_there ds j) ∙ or_right (is_prepare d)
              where
                or_right : (b : Bool) → (b || true) ≡ true
                or_right true = refl
                or_right false = refl

        un_lacking : (some_of is_prepare (let_through protocols policy past t dues) && lacks_initiation protocols past t) ≡ false → lacks_initiation protocols past t ≡ false
        un_lacking b = sym (ap (λ c. c && lacks_initiation protocols past t) prepared) ∙ b

    -- a wait
    wait_good : is_open past t ≡ true → is_wait reply ≡ true → NoTicket reply → CoordGood protocols past ready sorted taking (quiet event Say.TookWaits)
    wait_good undecided wait none = record {
      answer = refl;
      some = λ q. refl;
      rises = tt;
      can = inl refl;
      next = did_next (quiet event Say.TookWaits) refl refl (λ g. refl) (λ g q k. k)
          (reply_ready protocols (program past t) (counted past t) (vote_at past t) (lacks_initiation protocols past t) (lacks_initiation protocols past t) (reply_of site e reply) none (λ l. l) (ready t undecided))
          (λ g o. same_either (same_tid t g) (is_open past g) o);
    }

    -- a reply that brings something
    brings_good : (policy : Policy) → IsMember protocols site → is_open past t ≡ true → fits (outstanding past t site) n reply ≡ true → is_wait reply ≡ false → (fits_take reply ≡ true → is_ticket reply ≡ true)
        → CoordGood protocols past ready sorted taking (sends_news protocols policy past event t (news protocols past (now protocols past t site e n reply) t site))
    brings_good policy member undecided fit no_wait granted = by_kind (fitting past t site n reply fit)
      where
        plain : (r : Reply) → is_wait r ≡ false → is_ticket r ≡ false → (not (is_wait r) && not (is_ticket r)) ≡ true
        plain r w k = ap₂ (λ a b. not a && not b) w k

        act_no_ticket : (r : Reply) (act : PlainAct) → fits_act act r ≡ true → is_ticket r ≡ false
        act_no_ticket (Reply_is.Wait by) act f = refl
        act_no_ticket (Reply_is.Refused why) act f = refl
        act_no_ticket Reply_is.Unknown act f = refl
        act_no_ticket (Reply_is.Value v) act f = refl
        act_no_ticket Reply_is.Done act f = refl
        act_no_ticket (Reply_is.Ticket k) (Read key) f = cc
        act_no_ticket (Reply_is.Ticket k) (Write key v) f = cc

        r : Ready protocols past t
        r = ready t undecided

        by_kind : (IsWorking past t site × FitsWork reply) ⊎ (IsTaking past t site × (fits_take reply ≡ true))
            → CoordGood protocols past ready sorted taking (sends_news protocols policy past event t (news protocols past (now protocols past t site e n reply) t site))
        by_kind (inl (w, (act, f))) =
            let none = act_no_ticket reply act f in
            news_good policy undecided (work_news protocols past t site e n reply (plain reply no_wait none) member r w) (work_ready policy none r)
        by_kind (inr (w, f)) =
            let (k, m, i) = take_news protocols past t site e n reply (granted f) member r w in
            news_good policy undecided (Due_is.Prepare site k m, i) (taken_ready policy w.left (k, m, i) r)

    pub did_good : (policy : Policy) → IsMember protocols site → (r : Reply) → reply ≡ r → did_counts past site t e n reply ≡ true → CoordGood protocols past ready sorted taking (did_reply protocols policy past site (From.Did t e n reply) t r)
    unfolding did_reply
    did_good policy member r same c = by_reply r same
      where
        parts : (is_open past t ≡ true) × (fits (outstanding past t site) n reply ≡ true)
        parts = and_parts (is_open past t) (fits (outstanding past t site) n reply) (and_parts (is_open past t && fits (outstanding past t site) n reply) _ c).0

        brings : is_wait reply ≡ false → (fits_take reply ≡ true → is_ticket reply ≡ true) → CoordGood protocols past ready sorted taking (sends_news protocols policy past event t (news protocols past (now protocols past t site e n reply) t site))
        brings = brings_good policy member parts.0 parts.1

        by_reply : (r : Reply) → reply ≡ r → CoordGood protocols past ready sorted taking (did_reply protocols policy past site (From.Did t e n reply) t r)
        by_reply (Reply_is.Wait by) q = wait_good parts.0 (ap is_wait q) (ap is_ticket q)
        by_reply (Reply_is.Refused (Because.Die by)) q = aborts_good protocols past ready sorted taking event t (For.Dies site by) (did_of protocols past ready sorted site t e n reply) (λ f. refl) (λ f. refl)
        by_reply (Reply_is.Refused (Because.Late by)) q = aborts_good protocols past ready sorted taking event t (For.TooLate site by) (did_of protocols past ready sorted site t e n reply) (λ f. refl) (λ f. refl)
        by_reply Reply_is.Unknown q = aborts_good protocols past ready sorted taking event t (For.Unknown site) (did_of protocols past ready sorted site t e n reply) (λ f. refl) (λ f. refl)
        by_reply (Reply_is.Value v) q = brings (ap is_wait q) (λ f. (let g = sym (ap fits_take q) ∙ f in cc))
        by_reply Reply_is.Done q = brings (ap is_wait q) (λ f. (let g = sym (ap fits_take q) ∙ f in cc))
        by_reply (Reply_is.Ticket k) q = brings (ap is_wait q) (λ f. ap is_ticket q)
        by_reply (Reply_is.Refused (Because.Invalid by key)) q = brings (ap is_wait q) (λ f. (let g = sym (ap fits_take q) ∙ f in cc))
        by_reply (Reply_is.Refused (Because.TicketMoved by)) q = brings (ap is_wait q) (λ f. (let g = sym (ap fits_take q) ∙ f in cc))
