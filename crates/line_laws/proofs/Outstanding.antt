-- What is outstanding of an attempt: where a step is left its next one is, and what a reply makes outstanding.
use Rattle.std.proofs.Common.{◌≡◌, ◌⊎◌, ℕ, zero, suc, ◌==◌, ◌||◌, Bool, true, false, cond, is_none, is_some, Option, Some, None, List, [], ◌∷◌, drop, inl, inr, refl, ◌∙◌, ap}
use Rattle.std.proofs.lemmas.Bool.{and_parts}
use Rattle.mdb_base.specs.declared.acts.PlainAct.{PlainAct}
use Rattle.mdb_base.specs.declared.acts.Step.{Step}
use Rattle.mdb_base.specs.declared.names.SiteId.{SiteId}
use Rattle.mdb_base.specs.declared.names.Tid.{Tid}
use Rattle.mdb_base.specs.declared.replies.Reply.{Reply}
use Rattle.mdb_base.specs.Names.{same_site}
use Rattle.mdb_base.specs.Programs.{plain_act}
use Rattle.mdb_base.specs.Words.{Each, each_of, item_at, some_of, those}
use Rattle.mdb_base.proofs.ForCallers.{or_true, same_site-equal, same_site-refl}
use Rattle.order_laws.specs.Chains.{In}
use Rattle.order_laws.proofs.ForCallers.{each_at, in_those, those_in}
use Rattle.presumptions.specs.declared.Participant.{Participant}
use Rattle.fed_rules.specs.declared.messages.Due.{Due}
use Rattle.fed_rules.specs.declared.messages.Due.TheVariants as Due_is
use Rattle.fed_rules.specs.Coord.{fits, fits_act, fits_take, lacks_initiation}
use Rattle.fed_rules.specs.CoordPast.{Counted, CoordPast, count_at, counted, epoch_at, has_step_left, has_ticket_at, is_ticket, next_step, outstanding, outstanding_at, participants, participants_of, prepare_at, program, reads, steps_done, take_at, visits, vote_at, work_at}
use Rattle.federation_laws.proofs.ForCallers.{left_at}

-- a participant's site is among these
abbrev pub IsMember : List Participant → SiteId → Type 0
IsMember protocols site = (m : Participant) × In m protocols × (m.site ≡ site)

-- the replies of a site have a ticket, and the program has a step there that isn't answered
abbrev pub ticket_in : List Counted → SiteId → Bool
ticket_in replies site = some_of (λ reply. is_ticket reply.reply) (those (λ reply. same_site reply.site site) replies)

-- what holds of an undecided attempt with this program, these replies and votes, where its Initiation is lacking or not
pub record ReadyFor (protocols : List Participant) (steps : List Step) (replies : List Counted) (vote : SiteId → Option ℕ) (lacks : Bool) : Type 0 where
  pub sited : Each (λ (step : Step). IsMember protocols step.site) steps
  pub ticketed : (site : SiteId) → ticket_in replies site ≡ true → left_at steps replies site ≡ false
  pub recorded : (site : SiteId) → ticket_in replies site ≡ true → lacks ≡ false
  pub voted : (site : SiteId) → is_some (vote site) ≡ true → ticket_in replies site ≡ true
  pub missing : each_of (λ (m : Participant). is_some (vote m.site)) (participants_of protocols steps) ≡ false

abbrev pub Ready : List Participant → CoordPast → Tid → Type 0
Ready protocols past g = ReadyFor protocols (program past g) (counted past g) (vote_at past g) (lacks_initiation protocols past g)

-- ---- where a step is left

-- a step that is left is one of the program
pub visited_in : (site : SiteId) (steps : List Step) → visits site steps ≡ true → (step : Step) × In step steps × (step.site ≡ site)
visited_in site [] e = cc
visited_in site (step ∷ steps) e = by_test (same_site step.site site) refl e (visited_in site steps)
  where
    by_test : (b : Bool) → same_site step.site site ≡ b → (b || visits site steps) ≡ true → (visits site steps ≡ true → (s : Step) × In s steps × (s.site ≡ site)) → (s : Step) × In s (step ∷ steps) × (s.site ≡ site)
    by_test true q e rest = (step, inl refl, same_site-equal step.site site q)
    by_test false q e rest = let (s, i, here) = rest e in (s, inr i, here)

-- and each step of it visits its own site
pub visits_own : (steps : List Step) (step : Step) → In step steps → visits step.site steps ≡ true
visits_own [] step i = absurd i
visits_own (x ∷ steps) step (inl e) = ap (λ b. b || visits step.site steps) (ap (λ (y : Step). same_site y.site step.site) e ∙ same_site-refl step.site)
visits_own (x ∷ steps) step (inr i) = ap (λ b. same_site x.site step.site || b) (visits_own steps step i) ∙ or_true (same_site x.site step.site)

-- where some are left there is a next one
pub next_there : (n : ℕ) (site : SiteId) (steps : List Step) → visits site (drop n steps) ≡ true → (step : Step) × (item_at steps n ≡ Some step)
next_there zero site [] e = cc
next_there zero site (step ∷ steps) e = (step, refl)
next_there (suc n) site [] e = cc
next_there (suc n) site (step ∷ steps) e = next_there n site steps e

-- the next one is left at its site, and stands among all
pub next_left : (n : ℕ) (steps : List Step) (step : Step) → item_at steps n ≡ Some step → visits step.site (drop n steps) ≡ true
next_left zero [] step e = cc
next_left zero (s ∷ steps) step e = let same : s ≡ step = cc in ap (λ b. b || visits step.site steps) (ap (λ (x : Step). same_site x.site step.site) same ∙ same_site-refl step.site)
next_left (suc n) [] step e = cc
next_left (suc n) (s ∷ steps) step e = next_left n steps step e

pub next_in : (n : ℕ) (steps : List Step) (step : Step) → item_at steps n ≡ Some step → In step steps
next_in zero [] step e = cc
next_in zero (s ∷ steps) step e = let same : s ≡ step = cc in inl same
next_in (suc n) [] step e = cc
next_in (suc n) (s ∷ steps) step e = inr (next_in n steps step e)

-- what is left was there with a step fewer answered too
pub left_before : (n : ℕ) (site : SiteId) (steps : List Step) → visits site (drop (suc n) steps) ≡ true → visits site (drop n steps) ≡ true
left_before zero site [] e = cc
left_before zero site (step ∷ steps) e = by_test (same_site step.site site) e
  where
    by_test : (b : Bool) → visits site steps ≡ true → (b || visits site steps) ≡ true
    by_test true e = refl
    by_test false e = e
left_before (suc n) site [] e = cc
left_before (suc n) site (step ∷ steps) e = left_before n site steps e

pub left_all : (n : ℕ) (site : SiteId) (steps : List Step) → visits site (drop n steps) ≡ true → visits site steps ≡ true
left_all zero site steps e = e
left_all (suc n) site [] e = cc
left_all (suc n) site (step ∷ steps) e = by_test (same_site step.site site) (left_all n site steps e)
  where
    by_test : (b : Bool) → visits site steps ≡ true → (b || visits site steps) ≡ true
    by_test true e = refl
    by_test false e = e

-- a visited site of the table is that of a participant
pub participant_at : (protocols : List Participant) (steps : List Step) (site : SiteId) → IsMember protocols site → visits site steps ≡ true → (m : Participant) × In m (participants_of protocols steps) × (m.site ≡ site)
participant_at protocols steps site (m, i, here) v =
    (m, in_those (λ (p : Participant). visits p.site steps) m protocols i (ap (λ s. visits s steps) here ∙ v), here)

-- the next step is outstanding at its site
pub work_out : (past : CoordPast) (t : Tid) (step : Step) → next_step past t ≡ Some step → (due : Due) × (outstanding past t step.site ≡ Some due)
work_out past t step next =
    let left : has_step_left past t step.site ≡ true = next_left (steps_done past t) (program past t) step next in
    let there : visits step.site (program past t) ≡ true = left_all (steps_done past t) step.site (program past t) left in
    let work = Due_is.Work step.site (epoch_at past t step.site) (count_at past t step.site) (plain_act (reads past t) step.act) in (
      work,
      ap (λ b. cond b (outstanding_at past t step.site) None) there
          ∙ ap (λ b. cond b (work_at past t step.site (next_step past t)) (cond (has_ticket_at past t step.site) (prepare_at past t step.site) (take_at past t step.site))) left
          ∙ ap (work_at past t step.site) next
          ∙ ap (λ b. cond b (Some work) None) (same_site-refl step.site),
    )

-- at a visited site where no step is left and no vote is in, something is outstanding
pub last_out : (past : CoordPast) (t : Tid) (site : SiteId) → visits site (program past t) ≡ true → has_step_left past t site ≡ false → is_some (vote_at past t site) ≡ false
    → (due : Due) × (outstanding past t site ≡ Some due)
last_out past t site there left none = by_ticket (has_ticket_at past t site) refl
  where
    so_far : outstanding past t site ≡ cond (has_ticket_at past t site) (prepare_at past t site) (take_at past t site)
    so_far = ap (λ b. cond b (outstanding_at past t site) None) there
        ∙ ap (λ b. cond b (work_at past t site (next_step past t)) (cond (has_ticket_at past t site) (prepare_at past t site) (take_at past t site))) left

    unvoted : (o : Option ℕ) → is_some o ≡ false → is_none o ≡ true
    unvoted None e = refl
    unvoted (Some n) e = cc

    by_ticket : (b : Bool) → has_ticket_at past t site ≡ b → (due : Due) × (outstanding past t site ≡ Some due)
    by_ticket true e =
        let prepare = Due_is.Prepare site (epoch_at past t site) (count_at past t site) in
        (prepare, so_far ∙ ap (λ b. cond b (prepare_at past t site) (take_at past t site)) e ∙ ap (λ b. cond b (Some prepare) None) (unvoted (vote_at past t site) none))
    by_ticket false e =
        let taking = Due_is.Take site (epoch_at past t site) (count_at past t site) in
        (taking, so_far ∙ ap (λ b. cond b (prepare_at past t site) (take_at past t site)) e)

-- so something is outstanding where a participant hasn't voted
pub out_somewhere : (protocols : List Participant) (past : CoordPast) (t : Tid) (m : Participant) → Each (λ (step : Step). IsMember protocols step.site) (program past t)
    → In m (participants protocols past t) → is_some (vote_at past t m.site) ≡ false → (other : Participant) × (due : Due) × In other (participants protocols past t) × (outstanding past t other.site ≡ Some due)
out_somewhere protocols past t m sited i none = by_left (has_step_left past t m.site) refl
  where
    there : visits m.site (program past t) ≡ true
    there = (those_in (λ (p : Participant). visits p.site (program past t)) m protocols i).1

    by_left : (b : Bool) → has_step_left past t m.site ≡ b → (other : Participant) × (due : Due) × In other (participants protocols past t) × (outstanding past t other.site ≡ Some due)
    by_left false e = let (due, out) = last_out past t m.site there e none in (m, due, i, out)
    by_left true e =
        let (step, next) = next_there (steps_done past t) m.site (program past t) e in
        let (due, out) = work_out past t step next in
        let here = each_at (λ (s : Step). IsMember protocols s.site) step (program past t) sited (next_in (steps_done past t) (program past t) step next) in
        let visited = left_all (steps_done past t) step.site (program past t) (next_left (steps_done past t) (program past t) step next) in
        let (other, j, same) = participant_at protocols (program past t) step.site here visited in
        (other, due, j, ap (outstanding past t) same ∙ out)

-- ---- which operation a reply that counts is of

-- the step that is outstanding there
pub record IsWorking (past : CoordPast) (t : Tid) (site : SiteId) : Type 0 where
  pub there : visits site (program past t) ≡ true
  pub left : has_step_left past t site ≡ true
  pub step : Step
  pub next : next_step past t ≡ Some step
  pub here : step.site ≡ site

-- or the ticket
pub record IsTaking (past : CoordPast) (t : Tid) (site : SiteId) : Type 0 where
  pub there : visits site (program past t) ≡ true
  pub left : has_step_left past t site ≡ false
  pub unticketed : has_ticket_at past t site ≡ false

-- a reply to a step brings no ticket
abbrev pub FitsWork : Reply → Type 0
FitsWork reply = (act : PlainAct) × (fits_act act reply ≡ true)

pub fitting : (past : CoordPast) (t : Tid) (site : SiteId) (n : ℕ) (reply : Reply) → fits (outstanding past t site) n reply ≡ true
    → (IsWorking past t site × FitsWork reply) ⊎ (IsTaking past t site × (fits_take reply ≡ true))
fitting past t site n reply e = by_visit (visits site (program past t)) refl e
  where
    by_step : visits site (program past t) ≡ true → has_step_left past t site ≡ true → (o : Option Step) → next_step past t ≡ o → fits (work_at past t site o) n reply ≡ true
        → (IsWorking past t site × FitsWork reply) ⊎ (IsTaking past t site × (fits_take reply ≡ true))
    by_step v l None q e = cc
    by_step v l (Some step) q e = by_test (same_site step.site site) refl e
      where
        act : PlainAct
        act = plain_act (reads past t) step.act

        by_test : (b : Bool) → same_site step.site site ≡ b → fits (cond b (Some (Due_is.Work site (epoch_at past t site) (count_at past t site) act)) None) n reply ≡ true
            → (IsWorking past t site × FitsWork reply) ⊎ (IsTaking past t site × (fits_take reply ≡ true))
        by_test true s e = inl (record { there = v; left = l; step = step; next = q; here = same_site-equal step.site site s }, (act, (and_parts (n == count_at past t site) (fits_act act reply) e).1))
        by_test false s e = cc

    by_vote : (b : Bool) → fits (cond b (Some (Due_is.Prepare site (epoch_at past t site) (count_at past t site))) None) n reply ≡ true → ⊥
    by_vote true e = cc
    by_vote false e = cc

    by_ticket : visits site (program past t) ≡ true → has_step_left past t site ≡ false → (b : Bool) → has_ticket_at past t site ≡ b → fits (cond b (prepare_at past t site) (take_at past t site)) n reply ≡ true
        → (IsWorking past t site × FitsWork reply) ⊎ (IsTaking past t site × (fits_take reply ≡ true))
    by_ticket v l true q e = absurd (by_vote (is_none (vote_at past t site)) e)
    by_ticket v l false q e = inr (record { there = v; left = l; unticketed = q }, (and_parts (n == count_at past t site) (fits_take reply) e).1)

    by_left : visits site (program past t) ≡ true → (b : Bool) → has_step_left past t site ≡ b
        → fits (cond b (work_at past t site (next_step past t)) (cond (has_ticket_at past t site) (prepare_at past t site) (take_at past t site))) n reply ≡ true
        → (IsWorking past t site × FitsWork reply) ⊎ (IsTaking past t site × (fits_take reply ≡ true))
    by_left v true q e = by_step v q (next_step past t) refl e
    by_left v false q e = by_ticket v q (has_ticket_at past t site) refl e

    by_visit : (b : Bool) → visits site (program past t) ≡ b → fits (cond b (outstanding_at past t site) None) n reply ≡ true
        → (IsWorking past t site × FitsWork reply) ⊎ (IsTaking past t site × (fits_take reply ≡ true))
    by_visit true q e = by_left q (has_step_left past t site) refl e
    by_visit false q e = cc
