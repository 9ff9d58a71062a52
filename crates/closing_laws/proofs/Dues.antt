-- What is outstanding of an attempt, by its program, the replies that counted and the votes; and what one more reply changes.
use Rattle.mdb_base.proofs.ForCallers.{cond-false, cond-true, same_site-equal, same_site-refl, some_parts}
use Rattle.federation_laws.proofs.ForCallers.{count_of, epoch_of, of_site, steps_of, ticket_of}
use Rattle.std.proofs.Common.{◌≡◌, ℕ, zero, suc, Bool, true, false, cond, not, ◌&&◌, ◌||◌, is_none, Option, Some, None, List, [], ◌∷◌, drop, refl, sym, ap, ap₂, ◌∙◌}
use Rattle.mdb_base.specs.declared.acts.Step.{Step}
use Rattle.mdb_base.specs.declared.acts.PlainAct.{PlainAct}
use Rattle.mdb_base.specs.declared.names.SiteId.{SiteId}
use Rattle.mdb_base.specs.declared.names.Tid.{Tid}
use Rattle.mdb_base.specs.declared.replies.Reply.TheVariants as Reply_is
use Rattle.mdb_base.specs.Names.{same_site}
use Rattle.mdb_base.specs.Programs.{plain_act}
use Rattle.mdb_base.specs.Words.{found, how_many, some_of, item_at}
use Rattle.fed_rules.specs.declared.messages.Due.{Due}
use Rattle.fed_rules.specs.declared.messages.Due.TheVariants as Due_is
use Rattle.fed_rules.specs.CoordPast.{CoordPast, Counted, counted, is_wait, is_ticket, last_epoch, value_in, oldest_first, program, vote_at, visits, outstanding, work_at, next_step}
use Rattle.fed_rules.specs.Site_of.{due_site}

abbrev pub act_of : List Counted → Step → PlainAct
act_of replies step = plain_act (oldest_first (found value_in replies)) step.act

abbrev pub work_of : List Counted → SiteId → Option Step → Option Due
work_of replies site None = None
work_of replies site (Some step) = cond (same_site step.site site) (Some (Due_is.Work site (epoch_of replies site) (count_of replies site) (act_of replies step))) None

abbrev pub prepare_of : List Counted → Option ℕ → SiteId → Option Due
prepare_of replies vote site = cond (is_none vote) (Some (Due_is.Prepare site (epoch_of replies site) (count_of replies site))) None

abbrev pub due_of : List Step → List Counted → (SiteId → Option ℕ) → SiteId → Option Due
due_of prog replies votes site =
    cond (visits site prog)
    (cond (visits site (drop (steps_of replies) prog)) (work_of replies site (item_at prog (steps_of replies)))
    (cond (ticket_of replies site) (prepare_of replies (votes site) site) (Some (Due_is.Take site (epoch_of replies site) (count_of replies site)))))
    None

-- the same, from the vote of the site alone
abbrev pub due_by : List Step → List Counted → Option ℕ → SiteId → Option Due
due_by prog replies vote site =
    cond (visits site prog)
    (cond (visits site (drop (steps_of replies) prog)) (work_of replies site (item_at prog (steps_of replies)))
    (cond (ticket_of replies site) (prepare_of replies vote site) (Some (Due_is.Take site (epoch_of replies site) (count_of replies site)))))
    None

pub due_is : (past : CoordPast) (g : Tid) (site : SiteId) → outstanding past g site ≡ due_of (program past g) (counted past g) (vote_at past g) site
due_is past g site = by_step (next_step past g)
  where
    by_step : (o : Option Step) →
        cond (visits site (program past g))
        (cond (visits site (drop (steps_of (counted past g)) (program past g))) (work_at past g site o)
        (cond (ticket_of (counted past g) site) (prepare_of (counted past g) (vote_at past g site) site) (Some (Due_is.Take site (epoch_of (counted past g) site) (count_of (counted past g) site)))))
        None
        ≡ cond (visits site (program past g))
        (cond (visits site (drop (steps_of (counted past g)) (program past g))) (work_of (counted past g) site o)
        (cond (ticket_of (counted past g) site) (prepare_of (counted past g) (vote_at past g site) site) (Some (Due_is.Take site (epoch_of (counted past g) site) (count_of (counted past g) site)))))
        None
    by_step None = refl
    by_step (Some step) = refl

-- why something is outstanding
pub data IsDue (prog : List Step) (replies : List Counted) (vote : Option ℕ) (site : SiteId) (due : Due) : Type 0 where
  AtWork : (step : Step) → visits site prog ≡ true → visits site (drop (steps_of replies) prog) ≡ true → item_at prog (steps_of replies) ≡ Some step → same_site step.site site ≡ true
      → due ≡ Due_is.Work site (epoch_of replies site) (count_of replies site) (act_of replies step) → IsDue prog replies vote site due
  AtTake : visits site prog ≡ true → visits site (drop (steps_of replies) prog) ≡ false → ticket_of replies site ≡ false
      → due ≡ Due_is.Take site (epoch_of replies site) (count_of replies site) → IsDue prog replies vote site due
  AtPrepare : visits site prog ≡ true → visits site (drop (steps_of replies) prog) ≡ false → ticket_of replies site ≡ true → vote ≡ None
      → due ≡ Due_is.Prepare site (epoch_of replies site) (count_of replies site) → IsDue prog replies vote site due

pub due_kind : (prog : List Step) (replies : List Counted) (votes : SiteId → Option ℕ) (site : SiteId) (due : Due) → due_of prog replies votes site ≡ Some due → IsDue prog replies (votes site) site due
due_kind prog replies votes site due e = by_visit (visits site prog) refl e
  where
    left : List Step
    left = drop (steps_of replies) prog

    work : Option Due
    work = work_of replies site (item_at prog (steps_of replies))

    later : Option Due
    later = cond (ticket_of replies site) (prepare_of replies (votes site) site) (Some (Due_is.Take site (epoch_of replies site) (count_of replies site)))

    by_vote : (o : Option ℕ) → votes site ≡ o → visits site prog ≡ true → visits site left ≡ false → ticket_of replies site ≡ true → prepare_of replies o site ≡ Some due → IsDue prog replies (votes site) site due
    by_vote None q v l t f = AtPrepare v l t q (sym (some_parts f))
    by_vote (Some n) q v l t f = cc

    by_ticket : (b : Bool) → ticket_of replies site ≡ b → visits site prog ≡ true → visits site left ≡ false
        → cond b (prepare_of replies (votes site) site) (Some (Due_is.Take site (epoch_of replies site) (count_of replies site))) ≡ Some due → IsDue prog replies (votes site) site due
    by_ticket true t v l f = by_vote (votes site) refl v l t f
    by_ticket false t v l f = AtTake v l t (sym (some_parts f))

    by_site : (step : Step) (b : Bool) → same_site step.site site ≡ b → item_at prog (steps_of replies) ≡ Some step → visits site prog ≡ true → visits site left ≡ true
        → cond b (Some (Due_is.Work site (epoch_of replies site) (count_of replies site) (act_of replies step))) None ≡ Some due → IsDue prog replies (votes site) site due
    by_site step true q i v l f = AtWork step v l i q (sym (some_parts f))
    by_site step false q i v l f = cc

    by_step : (o : Option Step) → item_at prog (steps_of replies) ≡ o → visits site prog ≡ true → visits site left ≡ true → work_of replies site o ≡ Some due → IsDue prog replies (votes site) site due
    by_step None i v l f = cc
    by_step (Some step) i v l f = by_site step (same_site step.site site) refl i v l f

    by_left : (b : Bool) → visits site left ≡ b → visits site prog ≡ true → cond b work later ≡ Some due → IsDue prog replies (votes site) site due
    by_left true l v f = by_step (item_at prog (steps_of replies)) refl v l f
    by_left false l v f = by_ticket (ticket_of replies site) refl v l f

    by_visit : (b : Bool) → visits site prog ≡ b → cond b (cond (visits site left) work later) None ≡ Some due → IsDue prog replies (votes site) site due
    by_visit true v f = by_left (visits site left) refl v f
    by_visit false v f = cc

pub kind_due : (prog : List Step) (replies : List Counted) (votes : SiteId → Option ℕ) (site : SiteId) (due : Due) → IsDue prog replies (votes site) site due → due_of prog replies votes site ≡ Some due
kind_due prog replies votes site due (AtWork step v l i q e) =
    cond-true _ _ _ v ∙ (cond-true _ _ _ l ∙ (ap (work_of replies site) i ∙ (cond-true _ _ _ q ∙ ap (λ d. Some d) (sym e))))
kind_due prog replies votes site due (AtTake v l t e) = cond-true _ _ _ v ∙ (cond-false _ _ _ l ∙ (cond-false _ _ _ t ∙ ap (λ d. Some d) (sym e)))
kind_due prog replies votes site due (AtPrepare v l t n e) =
    cond-true _ _ _ v ∙ (cond-false _ _ _ l ∙ (cond-true _ _ _ t ∙ (ap (λ o. prepare_of replies o site) n ∙ ap (λ d. Some d) (sym e))))

-- what is outstanding at a site names that site
pub due_there : (prog : List Step) (replies : List Counted) (vote : Option ℕ) (site : SiteId) (due : Due) → IsDue prog replies vote site due → due_site due ≡ site
due_there prog replies vote site due (AtWork step v l i q e) = ap due_site e
due_there prog replies vote site due (AtTake v l t e) = ap due_site e
due_there prog replies vote site due (AtPrepare v l t n e) = ap due_site e

-- a reply of one site leaves what was counted of another
module _ (reply : Counted) (replies : List Counted) (site : SiteId) (other : same_site reply.site site ≡ false) where
  pub other_at : of_site (reply ∷ replies) site ≡ of_site replies site
  other_at = cond-false _ _ _ other

  other_work : (step : Step) → act_of (reply ∷ replies) step ≡ act_of replies step → Due_is.Work site (epoch_of replies site) (count_of replies site) (act_of replies step)
      ≡ Due_is.Work site (epoch_of (reply ∷ replies) site) (count_of (reply ∷ replies) site) (act_of (reply ∷ replies) step)
  other_work step a =
      ap₂ (λ rs x. Due_is.Work site (last_epoch rs) (how_many (λ r. not (is_wait r.reply)) rs) x) (sym other_at) (sym a)

  other_take : Due_is.Take site (epoch_of replies site) (count_of replies site) ≡ Due_is.Take site (epoch_of (reply ∷ replies) site) (count_of (reply ∷ replies) site)
  other_take = ap (λ rs. Due_is.Take site (last_epoch rs) (how_many (λ r. not (is_wait r.reply)) rs)) (sym other_at)

  other_prepare : Due_is.Prepare site (epoch_of replies site) (count_of replies site) ≡ Due_is.Prepare site (epoch_of (reply ∷ replies) site) (count_of (reply ∷ replies) site)
  other_prepare = ap (λ rs. Due_is.Prepare site (last_epoch rs) (how_many (λ r. not (is_wait r.reply)) rs)) (sym other_at)

  pub other_ticketed : ticket_of (reply ∷ replies) site ≡ ticket_of replies site
  other_ticketed = ap (some_of (λ r. is_ticket r.reply)) other_at

-- a site that has no step left has none later
pub no_more : (site : SiteId) (prog : List Step) (d : ℕ) → visits site (drop d prog) ≡ false → visits site (drop (suc d) prog) ≡ false
no_more site [] zero e = refl
no_more site [] (suc d) e = refl
no_more site (step ∷ prog) zero e = second (same_site step.site site) (visits site prog) e
  where
    second : (a b : Bool) → (a || b) ≡ false → b ≡ false
    second true b f = cc
    second false b f = f
no_more site (step ∷ prog) (suc d) e = no_more site prog d e

-- what is outstanding elsewhere stays so behind an answered step
pub step_keeps : (prog : List Step) (reply : Counted) (replies : List Counted) (votes : SiteId → Option ℕ) (step : Step) (site : SiteId) (due : Due)
    → (not (is_wait reply.reply) && not (is_ticket reply.reply)) ≡ true → item_at prog (steps_of replies) ≡ Some step → same_site step.site reply.site ≡ true → same_site reply.site site ≡ false
    → due_of prog replies votes site ≡ Some due → due_of prog (reply ∷ replies) votes site ≡ Some due
step_keeps prog reply replies votes step site due answered next here other e = by_kind (due_kind prog replies votes site due e)
  where
    more : steps_of (reply ∷ replies) ≡ suc (steps_of replies)
    more = cond-true _ _ _ answered

    by_kind : IsDue prog replies (votes site) site due → due_of prog (reply ∷ replies) votes site ≡ Some due
    by_kind (AtWork there v l i q f) =
        let same : step ≡ there = some_parts (sym next ∙ i) in
        let site_is : same_site reply.site site ≡ true = ap (λ s. same_site s site) (sym (same_site-equal step.site reply.site here)) ∙ (ap (λ (s : Step). same_site s.site site) same ∙ q) in
        let clash = sym other ∙ site_is in cc
    by_kind (AtTake v l t f) = kind_due prog (reply ∷ replies) votes site due
        (AtTake v (ap (λ d. visits site (drop d prog)) more ∙ no_more site prog (steps_of replies) l) (other_ticketed reply replies site other ∙ t) (f ∙ other_take reply replies site other))
    by_kind (AtPrepare v l t n f) = kind_due prog (reply ∷ replies) votes site due
        (AtPrepare v (ap (λ d. visits site (drop d prog)) more ∙ no_more site prog (steps_of replies) l) (other_ticketed reply replies site other ∙ t) n (f ∙ other_prepare reply replies site other))

-- and behind a ticket
pub ticket_keeps : (prog : List Step) (from : SiteId) (e n : ℕ) (replies : List Counted) (votes : SiteId → Option ℕ) (site : SiteId) (due : Due) → same_site from site ≡ false
    → due_of prog replies votes site ≡ Some due → due_of prog (record { site = from; epoch = e; reply = Reply_is.Ticket n } ∷ replies) votes site ≡ Some due
ticket_keeps prog from ep n replies votes site due other e = by_kind (due_kind prog replies votes site due e)
  where
    reply : Counted
    reply = record { site = from; epoch = ep; reply = Reply_is.Ticket n }

    by_kind : IsDue prog replies (votes site) site due → due_of prog (reply ∷ replies) votes site ≡ Some due
    by_kind (AtWork step v l i q f) = kind_due prog (reply ∷ replies) votes site due (AtWork step v l i q (f ∙ other_work reply replies site other step refl))
    by_kind (AtTake v l t f) = kind_due prog (reply ∷ replies) votes site due (AtTake v l (other_ticketed reply replies site other ∙ t) (f ∙ other_take reply replies site other))
    by_kind (AtPrepare v l t q f) = kind_due prog (reply ∷ replies) votes site due (AtPrepare v l (other_ticketed reply replies site other ∙ t) q (f ∙ other_prepare reply replies site other))

-- while no step is left and every site that is visited has its ticket and its vote, nothing is outstanding; else something is
pub record Outstanding (prog : List Step) (replies : List Counted) (votes : SiteId → Option ℕ) : Type 0 where
  pub site : SiteId
  pub due : Due
  pub is_due : due_of prog replies votes site ≡ Some due

pub unvoted_due : (prog : List Step) (replies : List Counted) (votes : SiteId → Option ℕ) (site : SiteId) → visits site prog ≡ true → votes site ≡ None → Outstanding prog replies votes
unvoted_due prog replies votes site v none = by_left (visits site (drop (steps_of replies) prog)) refl
  where
    first_left : (steps : List Step) → visits site steps ≡ true → (step : Step) × (item_at steps 0 ≡ Some step)
    first_left [] e = cc
    first_left (step ∷ steps) e = (step, refl)

    item_drop : (steps : List Step) (d : ℕ) → item_at (drop d steps) 0 ≡ item_at steps d
    item_drop [] zero = refl
    item_drop [] (suc d) = refl
    item_drop (step ∷ steps) zero = refl
    item_drop (step ∷ steps) (suc d) = item_drop steps d

    item_visits : (steps : List Step) (d : ℕ) (step : Step) → item_at steps d ≡ Some step → (visits step.site (drop d steps) ≡ true) × (visits step.site steps ≡ true)
    item_visits [] d step e = cc
    item_visits (s ∷ steps) zero step e =
        let same : s ≡ step = some_parts e in
        let own : same_site s.site step.site ≡ true = ap (λ (z : Step). same_site z.site step.site) same ∙ same_site-refl step.site in
        (ap (λ b. b || visits step.site steps) own, ap (λ b. b || visits step.site steps) own)
    item_visits (s ∷ steps) (suc d) step e = ((item_visits steps d step e).0, or_true (same_site s.site step.site) (visits step.site steps) (item_visits steps d step e).1)
      where
        or_true : (a b : Bool) → b ≡ true → (a || b) ≡ true
        or_true true b f = refl
        or_true false b f = f

    by_ticket : (b : Bool) → ticket_of replies site ≡ b → visits site (drop (steps_of replies) prog) ≡ false → Outstanding prog replies votes
    by_ticket true t l = record { site = site; due = _; is_due = kind_due prog replies votes site (Due_is.Prepare site (epoch_of replies site) (count_of replies site)) (AtPrepare v l t none refl) }
    by_ticket false t l = record { site = site; due = _; is_due = kind_due prog replies votes site (Due_is.Take site (epoch_of replies site) (count_of replies site)) (AtTake v l t refl) }

    by_left : (b : Bool) → visits site (drop (steps_of replies) prog) ≡ b → Outstanding prog replies votes
    by_left false l = by_ticket (ticket_of replies site) refl l
    by_left true l =
        let (step, f) = first_left (drop (steps_of replies) prog) l in
        let i = sym (item_drop prog (steps_of replies)) ∙ f in
        let w = item_visits prog (steps_of replies) step i in
        record {
          site = step.site;
          due = Due_is.Work step.site (epoch_of replies step.site) (count_of replies step.site) (act_of replies step);
          is_due = kind_due prog replies votes step.site (Due_is.Work step.site (epoch_of replies step.site) (count_of replies step.site) (act_of replies step)) (AtWork step w.1 w.0 i (same_site-refl step.site) refl);
        }
