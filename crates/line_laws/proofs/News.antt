-- What a reply that counts makes outstanding, and that the attempt is ready as before.
use Rattle.std.proofs.Common.{◌≡◌, ℕ, suc, ◌&&◌, ◌||◌, Bool, true, false, cond, not, is_none, is_some, Option, Some, None, List, ◌∷◌, drop, refl, sym, ◌∙◌, ap, subst}
use Rattle.mdb_base.specs.declared.acts.Step.{Step}
use Rattle.mdb_base.specs.declared.names.SiteId.{SiteId}
use Rattle.mdb_base.specs.declared.names.Tid.{Tid}
use Rattle.mdb_base.specs.declared.replies.Reply.{Reply}
use Rattle.mdb_base.specs.Names.{same_site}
use Rattle.mdb_base.specs.Programs.{plain_act}
use Rattle.mdb_base.specs.Words.{some_of, those, with_some}
use Rattle.mdb_base.proofs.ForCallers.{same_site-equal, same_site-refl, same_tid-refl}
use Rattle.order_laws.specs.Chains.{In}
use Rattle.order_laws.proofs.ForCallers.{each_at, found_there}
use Rattle.presumptions.specs.declared.Participant.{Participant}
use Rattle.fed_rules.specs.declared.answers.Answer.TheVariants as Say
use Rattle.fed_rules.specs.declared.events.CoordEvent.TheVariants as Ev
use Rattle.fed_rules.specs.declared.messages.Due.{Due}
use Rattle.fed_rules.specs.declared.messages.Due.TheVariants as Due_is
use Rattle.fed_rules.specs.declared.messages.FromSite.TheVariants as From
use Rattle.fed_rules.specs.Coord.{news, news_at}
use Rattle.fed_rules.specs.CoordPast.{Counted, CoordPast, count_at, counted, epoch_at, has_step_left, has_ticket_at, is_ticket, is_wait, next_step, outstanding, outstanding_at, participants, prepare_at, program, reads, steps_done, take_at, visits, vote_at, work_at}
use Rattle.fed_rules.specs.Happenings.{quiet}
use Rattle.federation_laws.proofs.ForCallers.{left_at, steps_of}
use Rattle.line_laws.proofs.Outstanding.{IsMember, IsTaking, IsWorking, Ready, ReadyFor, last_out, left_all, left_before, next_in, next_left, next_there, participant_at, ticket_in, work_out}

-- ---- one reply more

abbrev pub reply_of : SiteId → ℕ → Reply → Counted
reply_of site e reply = record { site = site; epoch = e; reply = reply }

-- a reply without a ticket brings none
abbrev pub NoTicket : Reply → Type 0
NoTicket reply = is_ticket reply ≡ false

ticket_same : (r : Counted) (replies : List Counted) (s : SiteId) → NoTicket r.reply → ticket_in (r ∷ replies) s ≡ ticket_in replies s
ticket_same r replies s none = by_test (same_site r.site s)
  where
    by_test : (b : Bool) → some_of (λ reply. is_ticket reply.reply) (cond b (r ∷ those (λ reply. same_site reply.site s) replies) (those (λ reply. same_site reply.site s) replies)) ≡ ticket_in replies s
    by_test true = ap (λ b. b || ticket_in replies s) none
    by_test false = refl

-- and one that is of another site
ticket_other : (r : Counted) (replies : List Counted) (s : SiteId) → same_site r.site s ≡ false → ticket_in (r ∷ replies) s ≡ ticket_in replies s
ticket_other r replies s apart =
    ap (λ b. some_of (λ reply. is_ticket reply.reply) (cond b (r ∷ those (λ reply. same_site reply.site s) replies) (those (λ reply. same_site reply.site s) replies))) apart

ticket_more : (r : Counted) (replies : List Counted) (s : SiteId) → ticket_in replies s ≡ true → ticket_in (r ∷ replies) s ≡ true
ticket_more r replies s e = by_test (same_site r.site s)
  where
    by_or : (b : Bool) → (b || ticket_in replies s) ≡ true
    by_or true = refl
    by_or false = e

    by_test : (b : Bool) → some_of (λ reply. is_ticket reply.reply) (cond b (r ∷ those (λ reply. same_site reply.site s) replies) (those (λ reply. same_site reply.site s) replies)) ≡ true
    by_test true = by_or (is_ticket r.reply)
    by_test false = e

-- with one step more answered no more are left
left_none : (n : ℕ) (s : SiteId) (steps : List Step) → visits s (drop n steps) ≡ false → visits s (drop (suc n) steps) ≡ false
left_none n s steps e = by_test (visits s (drop (suc n) steps)) refl
  where
    by_test : (b : Bool) → visits s (drop (suc n) steps) ≡ b → visits s (drop (suc n) steps) ≡ false
    by_test true q = (let more = left_before n s steps q in cc)
    by_test false q = q

left_less : (steps : List Step) (r : Counted) (replies : List Counted) (s : SiteId) → left_at steps replies s ≡ false → left_at steps (r ∷ replies) s ≡ false
left_less steps r replies s e = by_test (not (is_wait r.reply) && not (is_ticket r.reply))
  where
    by_test : (b : Bool) → visits s (drop (cond b (suc (steps_of replies)) (steps_of replies)) steps) ≡ false
    by_test true = left_none (steps_of replies) s steps e
    by_test false = e

-- a reply that brings no ticket leaves the attempt ready
pub reply_ready : (protocols : List Participant) (steps : List Step) (replies : List Counted) (vote : SiteId → Option ℕ) (lacks now : Bool) (r : Counted) → NoTicket r.reply → (lacks ≡ false → now ≡ false)
    → ReadyFor protocols steps replies vote lacks → ReadyFor protocols steps (r ∷ replies) vote now
reply_ready protocols steps replies vote lacks now r none kept ready = record {
  sited = ready.sited;
  ticketed = λ s t. left_less steps r replies s (ready.ticketed s (sym (ticket_same r replies s none) ∙ t));
  recorded = λ s t. kept (ready.recorded s (sym (ticket_same r replies s none) ∙ t));
  voted = λ s v. ticket_same r replies s none ∙ ready.voted s v;
  missing = ready.missing;
}

-- and so does a ticket, where no step is left at its site and the Initiation isn't lacking then
pub ticket_ready : (protocols : List Participant) (steps : List Step) (replies : List Counted) (vote : SiteId → Option ℕ) (lacks now : Bool) (r : Counted) → left_at steps replies r.site ≡ false → now ≡ false
    → ReadyFor protocols steps replies vote lacks → ReadyFor protocols steps (r ∷ replies) vote now
ticket_ready protocols steps replies vote lacks now r left kept ready = record {
  sited = ready.sited;
  ticketed = λ s t. by_site s t (same_site r.site s) refl;
  recorded = λ s t. kept;
  voted = λ s v. ticket_more r replies s (ready.voted s v);
  missing = ready.missing;
}
  where
    by_site : (s : SiteId) → ticket_in (r ∷ replies) s ≡ true → (b : Bool) → same_site r.site s ≡ b → left_at steps (r ∷ replies) s ≡ false
    by_site s t true q = left_less steps r replies s (subst (λ x. left_at steps replies x ≡ false) (same_site-equal r.site s q) left)
    by_site s t false q = left_less steps r replies s (ready.ticketed s (sym (ticket_other r replies s q) ∙ t))

-- the Initiation that isn't lacking any more changes nothing else
pub lacks_ready : (protocols : List Participant) (steps : List Step) (replies : List Counted) (vote : SiteId → Option ℕ) (lacks now : Bool) → (lacks ≡ false → now ≡ false)
    → ReadyFor protocols steps replies vote lacks → ReadyFor protocols steps replies vote now
lacks_ready protocols steps replies vote lacks now kept ready = record {
  sited = ready.sited;
  ticketed = ready.ticketed;
  recorded = λ s t. kept (ready.recorded s t);
  voted = ready.voted;
  missing = ready.missing;
}

-- ---- what becomes outstanding

module _ (protocols : List Participant) (past : CoordPast) (t : Tid) (site : SiteId) (e n : ℕ) (reply : Reply) where
  abbrev pub now : CoordPast
  now = quiet (Ev.Take site (From.Did t e n reply)) Say.Only ∷ past

  counted_now : counted now t ≡ reply_of site e reply ∷ counted past t
  counted_now = ap (λ b. with_some (cond b (Some (record { site = site; epoch = e; reply = reply })) None) (counted past t)) (same_tid-refl t)

  -- no vote of a site without a ticket is in
  unvoted : (s : SiteId) → Ready protocols past t → has_ticket_at past t s ≡ false → is_some (vote_at past t s) ≡ false
  unvoted s ready none = by_test (is_some (vote_at past t s)) refl
    where
      by_test : (b : Bool) → is_some (vote_at past t s) ≡ b → is_some (vote_at past t s) ≡ false
      by_test true q = (let some = ready.voted s q in cc)
      by_test false q = q

  -- what is outstanding at the site then is new
  news_here : (due : Due) → IsMember protocols site → visits site (program past t) ≡ true → outstanding now t site ≡ Some due → In due (news protocols past now t site)
  news_here due member there out =
      let (m, i, here) = participant_at protocols (program past t) site member there in
      found_there (λ (p : Participant). news_at past now t site p.site) m due (participants protocols past t) i
      (ap (news_at past now t site) here ∙ (ap (λ b. cond (b || is_none (outstanding past t site)) (outstanding now t site) None) (same_site-refl site) ∙ out))

  -- and elsewhere where nothing was
  news_there : (s : SiteId) (due : Due) → IsMember protocols s → visits s (program past t) ≡ true → outstanding past t s ≡ None → outstanding now t s ≡ Some due → In due (news protocols past now t site)
  news_there s due member there none out =
      let (m, i, here) = participant_at protocols (program past t) s member there in
      found_there (λ (p : Participant). news_at past now t site p.site) m due (participants protocols past t) i
      (ap (news_at past now t site) here ∙ (ap (λ o. cond (same_site s site || is_none o) (outstanding now t s) None) none ∙ (by_or (same_site s site) ∙ out)))
    where
      by_or : (b : Bool) → cond (b || true) (outstanding now t s) None ≡ outstanding now t s
      by_or true = refl
      by_or false = refl

  -- behind an answered step
  pub work_news : (not (is_wait reply) && not (is_ticket reply)) ≡ true → IsMember protocols site → Ready protocols past t → IsWorking past t site → (due : Due) × In due (news protocols past now t site)
  work_news plain member ready w = by_left (has_step_left now t site) refl
    where
      steps : List Step
      steps = program past t

      steps_now : steps_done now t ≡ suc (steps_done past t)
      steps_now = ap steps_of counted_now ∙ ap (λ b. cond b (suc (steps_of (counted past t))) (steps_of (counted past t))) plain

      ticketless : has_ticket_at past t site ≡ false
      ticketless = by_test (has_ticket_at past t site) refl
        where
          by_test : (b : Bool) → has_ticket_at past t site ≡ b → has_ticket_at past t site ≡ false
          by_test true q = (let none = ready.ticketed site q in let some = w.left in cc)
          by_test false q = q

      by_left : (b : Bool) → has_step_left now t site ≡ b → (due : Due) × In due (news protocols past now t site)
      by_left false q = let (due, out) = last_out now t site w.there q (unvoted site ready ticketless) in (due, news_here due member w.there out)
      by_left true q = by_next (next_there (steps_done now t) site steps q)
        where
          by_next : (step : Step) × (next_step now t ≡ Some step) → (due : Due) × In due (news protocols past now t site)
          by_next (step, next) = by_site (same_site step.site site) refl (work_out now t step next)
            where
              left : visits step.site (drop (steps_done past t) steps) ≡ true
              left = left_before (steps_done past t) step.site steps (subst (λ k. visits step.site (drop k steps) ≡ true) steps_now (next_left (steps_done now t) steps step next))

              there : visits step.site steps ≡ true
              there = left_all (steps_done past t) step.site steps left

              flip : same_site step.site site ≡ false → same_site w.step.site step.site ≡ false
              flip apart = by_test (same_site w.step.site step.site) refl
                where
                  by_test : (b : Bool) → same_site w.step.site step.site ≡ b → same_site w.step.site step.site ≡ false
                  by_test true s =
                      (let one : step.site ≡ site = sym (same_site-equal w.step.site step.site s) ∙ w.here in
                      let yes : same_site step.site site ≡ true = ap (λ x. same_site x site) one ∙ same_site-refl site in cc)
                  by_test false s = s

              none_before : same_site step.site site ≡ false → outstanding past t step.site ≡ None
              none_before apart =
                  ap (λ b. cond b (outstanding_at past t step.site) None) there
                  ∙ ap (λ b. cond b (work_at past t step.site (next_step past t)) (cond (has_ticket_at past t step.site) (prepare_at past t step.site) (take_at past t step.site))) left
                  ∙ ap (work_at past t step.site) w.next
                  ∙ ap (λ b. cond b (Some (Due_is.Work step.site (epoch_at past t step.site) (count_at past t step.site) (plain_act (reads past t) w.step.act))) None) (flip apart)

              by_site : (b : Bool) → same_site step.site site ≡ b → (due : Due) × (outstanding now t step.site ≡ Some due) → (due : Due) × In due (news protocols past now t site)
              by_site true s (due, out) = (due, news_here due member w.there (ap (outstanding now t) (sym (same_site-equal step.site site s)) ∙ out))
              by_site false s (due, out) =
                  (due, news_there step.site due (each_at (λ (x : Step). IsMember protocols x.site) step steps ready.sited (next_in (steps_done now t) steps step next)) there (none_before s) out)

  -- behind a ticket the Prepare
  pub take_news : is_ticket reply ≡ true → IsMember protocols site → Ready protocols past t → IsTaking past t site → (k m : ℕ) × In (Due_is.Prepare site k m) (news protocols past now t site)
  take_news ticket member ready w = (
    epoch_at now t site,
    count_at now t site,
    news_here _ member w.there
        (ap (λ b. cond b (outstanding_at now t site) None) w.there
        ∙ ap (λ b. cond b (work_at now t site (next_step now t)) (cond (has_ticket_at now t site) (prepare_at now t site) (take_at now t site))) left_now
        ∙ ap (λ b. cond b (prepare_at now t site) (take_at now t site)) ticket_now
        ∙ ap (λ b. cond b (Some (Due_is.Prepare site (epoch_at now t site) (count_at now t site))) None) (none (vote_at past t site) (unvoted site ready w.unticketed))),
  )
    where
      none : (o : Option ℕ) → is_some o ≡ false → is_none o ≡ true
      none None q = refl
      none (Some k) q = cc

      uncounted : (b : Bool) → is_ticket reply ≡ b → b ≡ true → cond (not (is_wait reply) && not b) (suc (steps_of (counted past t))) (steps_of (counted past t)) ≡ steps_of (counted past t)
      uncounted true q r = by_wait (is_wait reply)
        where
          by_wait : (b : Bool) → cond (not b && false) (suc (steps_of (counted past t))) (steps_of (counted past t)) ≡ steps_of (counted past t)
          by_wait true = refl
          by_wait false = refl
      uncounted false q r = cc

      left_now : has_step_left now t site ≡ false
      left_now = ap (λ k. visits site (drop k (program past t))) (ap steps_of counted_now ∙ uncounted (is_ticket reply) refl ticket) ∙ w.left

      ticket_now : has_ticket_at now t site ≡ true
      ticket_now =
          ap (λ replies. ticket_in replies site) counted_now
          ∙ ap (λ b. some_of (λ (r : Counted). is_ticket r.reply) (cond b (reply_of site e reply ∷ those (λ (r : Counted). same_site r.site site) (counted past t)) (those (λ (r : Counted). same_site r.site site) (counted past t)))) (same_site-refl site)
          ∙ ap (λ b. b || ticket_in (counted past t) site) ticket
