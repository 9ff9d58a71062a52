-- What is outstanding at a site, from the program, the replies that counted and the site's vote.
use Rattle.std.proofs.Common.{◌≡◌, ℕ, Bool, true, false, cond, not, ◌&&◌, is_none, Option, Some, None, List, drop, refl, sym, ap, subst, eqb-true}
use Rattle.std.proofs.lemmas.Bool.{and_parts}
use Rattle.mdb_base.specs.declared.acts.PlainAct.{PlainAct}
use Rattle.mdb_base.specs.declared.acts.Step.{Step}
use Rattle.mdb_base.specs.declared.names.SiteId.{SiteId}
use Rattle.mdb_base.specs.declared.replies.Reply.{Reply}
use Rattle.mdb_base.specs.Names.{same_site}
use Rattle.mdb_base.specs.Programs.{plain_act}
use Rattle.mdb_base.specs.Words.{some_of, how_many, those, found, item_at}
use Rattle.mdb_base.proofs.ForCallers.{same_site-equal, some_parts}
use Rattle.fed_rules.specs.declared.messages.Due.{Due}
use Rattle.fed_rules.specs.declared.messages.Due.TheVariants as Due_is
use Rattle.fed_rules.specs.Coord.{fits, fits_act, fits_take, is_due_vote}
use Rattle.fed_rules.specs.CoordPast.{Counted, visits, is_wait, is_ticket, last_epoch, value_in, oldest_first}

-- those of one site, how many of them are no waits, their epoch, and whether a ticket is among them
abbrev pub of_site : List Counted → SiteId → List Counted
of_site replies site = those (λ reply. same_site reply.site site) replies

abbrev pub count_of : List Counted → SiteId → ℕ
count_of replies site = how_many (λ reply. not (is_wait reply.reply)) (of_site replies site)

abbrev pub epoch_of : List Counted → SiteId → ℕ
epoch_of replies site = last_epoch (of_site replies site)

abbrev pub ticket_of : List Counted → SiteId → Bool
ticket_of replies site = some_of (λ reply. is_ticket reply.reply) (of_site replies site)

-- how many steps were answered, and what was read
abbrev pub steps_of : List Counted → ℕ
steps_of replies = how_many (λ reply. not (is_wait reply.reply) && not (is_ticket reply.reply)) replies

abbrev pub reads_of : List Counted → List ℕ
reads_of replies = oldest_first (found value_in replies)

-- whether a step at the site isn't answered yet
abbrev pub left_at : List Step → List Counted → SiteId → Bool
left_at program replies site = visits site (drop (steps_of replies) program)

abbrev pub work_of : List Counted → SiteId → List ℕ → Option Step → Option Due
work_of replies site reads None = None
work_of replies site reads (Some step) =
    cond (same_site step.site site) (Some (Due_is.Work site (epoch_of replies site) (count_of replies site) (plain_act reads step.act))) None

-- what is outstanding at a site
abbrev pub due_of : List Step → List Counted → Option ℕ → SiteId → Option Due
due_of program replies vote site =
    cond (visits site program)
    (cond (left_at program replies site) (work_of replies site (reads_of replies) (item_at program (steps_of replies)))
    (cond (ticket_of replies site)
    (cond (is_none vote) (Some (Due_is.Prepare site (epoch_of replies site) (count_of replies site))) None)
    (Some (Due_is.Take site (epoch_of replies site) (count_of replies site)))))
    None

-- the next step is outstanding
pub record IsWork (program : List Step) (replies : List Counted) (site at : SiteId) (epoch n : ℕ) (act : PlainAct) : Type 0 where
  pub here : at ≡ site
  pub known : epoch ≡ epoch_of replies site
  pub count : n ≡ count_of replies site
  pub visited : visits site program ≡ true
  pub left : left_at program replies site ≡ true
  pub step : Step
  pub next : item_at program (steps_of replies) ≡ Some step
  pub its_site : step.site ≡ site
  pub its_act : act ≡ plain_act (reads_of replies) step.act

-- the ticket is outstanding
pub record IsTake (program : List Step) (replies : List Counted) (site at : SiteId) (epoch n : ℕ) : Type 0 where
  pub here : at ≡ site
  pub known : epoch ≡ epoch_of replies site
  pub count : n ≡ count_of replies site
  pub visited : visits site program ≡ true
  pub left : left_at program replies site ≡ false
  pub ticket : ticket_of replies site ≡ false

-- the vote is outstanding
pub record IsPrepare (program : List Step) (replies : List Counted) (site at : SiteId) (epoch n : ℕ) : Type 0 where
  pub here : at ≡ site
  pub known : epoch ≡ epoch_of replies site
  pub count : n ≡ count_of replies site
  pub visited : visits site program ≡ true
  pub left : left_at program replies site ≡ false
  pub ticket : ticket_of replies site ≡ true

abbrev pub IsDue : List Step → List Counted → SiteId → Due → Type 0
IsDue program replies site (Due_is.Work at epoch n act) = IsWork program replies site at epoch n act
IsDue program replies site (Due_is.Take at epoch n) = IsTake program replies site at epoch n
IsDue program replies site (Due_is.Prepare at epoch n) = IsPrepare program replies site at epoch n

work-is : (program : List Step) (replies : List Counted) (site : SiteId) (due : Due) → visits site program ≡ true → left_at program replies site ≡ true
    → (step : Option Step) → item_at program (steps_of replies) ≡ step → work_of replies site (reads_of replies) step ≡ Some due → IsDue program replies site due
work-is program replies site due v l None i e = cc
work-is program replies site due v l (Some step) i e = by_test (same_site step.site site) refl e
  where
    by_test : (t : Bool) → same_site step.site site ≡ t
        → cond t (Some (Due_is.Work site (epoch_of replies site) (count_of replies site) (plain_act (reads_of replies) step.act))) None ≡ Some due
        → IsDue program replies site due
    by_test true q e = subst (IsDue program replies site) (some_parts e) (record {
      here = refl;
      known = refl;
      count = refl;
      visited = v;
      left = l;
      step = step;
      next = i;
      its_site = same_site-equal step.site site q;
      its_act = refl;
    })
    by_test false q e = cc

prepare-is : (program : List Step) (replies : List Counted) (vote : Option ℕ) (site : SiteId) (due : Due) → visits site program ≡ true → left_at program replies site ≡ false → ticket_of replies site ≡ true
    → cond (is_none vote) (Some (Due_is.Prepare site (epoch_of replies site) (count_of replies site))) None ≡ Some due → IsDue program replies site due
prepare-is program replies None site due v l t e =
    subst (IsDue program replies site) (some_parts e) (record { here = refl; known = refl; count = refl; visited = v; left = l; ticket = t })
prepare-is program replies (Some vote) site due v l t e = cc

-- what is outstanding tells what was answered
pub due-is : (program : List Step) (replies : List Counted) (vote : Option ℕ) (site : SiteId) (due : Due) → due_of program replies vote site ≡ Some due → IsDue program replies site due
due-is program replies vote site due e = by_tests (visits site program) (left_at program replies site) (ticket_of replies site) refl refl refl e
  where
    by_tests : (v l t : Bool) → visits site program ≡ v → left_at program replies site ≡ l → ticket_of replies site ≡ t
        → cond v (cond l (work_of replies site (reads_of replies) (item_at program (steps_of replies)))
        (cond t (cond (is_none vote) (Some (Due_is.Prepare site (epoch_of replies site) (count_of replies site))) None)
        (Some (Due_is.Take site (epoch_of replies site) (count_of replies site))))) None ≡ Some due
        → IsDue program replies site due
    by_tests true true t p q r e = work-is program replies site due p q (item_at program (steps_of replies)) refl e
    by_tests true false true p q r e = prepare-is program replies vote site due p q r e
    by_tests true false false p q r e =
        subst (IsDue program replies site) (some_parts e) (record { here = refl; known = refl; count = refl; visited = p; left = q; ticket = r })
    by_tests false l t p q r e = cc

-- an operation whose reply counts: the step that was sent with a reply that it can have, or the taking of the ticket
pub record FitsWork (program : List Step) (replies : List Counted) (site : SiteId) (due : Option Due) (n : ℕ) (reply : Reply) : Type 0 where
  pub at : SiteId
  pub epoch : ℕ
  pub act : PlainAct
  pub is : due ≡ Some (Due_is.Work at epoch n act)
  pub fit : fits_act act reply ≡ true

pub record FitsTake (program : List Step) (replies : List Counted) (site : SiteId) (due : Option Due) (n : ℕ) (reply : Reply) : Type 0 where
  pub at : SiteId
  pub epoch : ℕ
  pub is : due ≡ Some (Due_is.Take at epoch n)
  pub fit : fits_take reply ≡ true

pub data Fitting (program : List Step) (replies : List Counted) (site : SiteId) (due : Option Due) (n : ℕ) (reply : Reply) : Type 0 where
  ToWork : FitsWork program replies site due n reply → Fitting program replies site due n reply
  ToTake : FitsTake program replies site due n reply → Fitting program replies site due n reply

pub fitting : (program : List Step) (replies : List Counted) (site : SiteId) (due : Option Due) (n : ℕ) (reply : Reply) → fits due n reply ≡ true → Fitting program replies site due n reply
fitting program replies site None n reply e = cc
fitting program replies site (Some (Due_is.Work at epoch count act)) n reply e =
    let parts = and_parts _ _ e in
    let same : n ≡ count = eqb-true n count parts.0 in
    ToWork (record { at = at; epoch = epoch; act = act; is = ap (λ k. Some (Due_is.Work at epoch k act)) (sym same); fit = parts.1 })
fitting program replies site (Some (Due_is.Take at epoch count)) n reply e =
    let parts = and_parts _ _ e in
    let same : n ≡ count = eqb-true n count parts.0 in
    ToTake (record { at = at; epoch = epoch; is = ap (λ k. Some (Due_is.Take at epoch k)) (sym same); fit = parts.1 })
fitting program replies site (Some (Due_is.Prepare at epoch count)) n reply e = cc

-- a vote is due where a Prepare is outstanding
pub voting : (program : List Step) (replies : List Counted) (vote : Option ℕ) (site : SiteId) → is_due_vote (due_of program replies vote site) ≡ true
    → (visits site program ≡ true) × (left_at program replies site ≡ false) × (ticket_of replies site ≡ true)
voting program replies vote site e = of_due (due_of program replies vote site) refl e
  where
    of_due : (due : Option Due) → due_of program replies vote site ≡ due → is_due_vote due ≡ true → (visits site program ≡ true) × (left_at program replies site ≡ false) × (ticket_of replies site ≡ true)
    of_due None q e = cc
    of_due (Some (Due_is.Work at epoch n act)) q e = cc
    of_due (Some (Due_is.Take at epoch n)) q e = cc
    of_due (Some (Due_is.Prepare at epoch n)) q e = let is : IsPrepare program replies site at epoch n = due-is program replies vote site (Due_is.Prepare at epoch n) q in (is.visited, is.left, is.ticket)
