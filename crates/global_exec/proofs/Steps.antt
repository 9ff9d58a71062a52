-- What a reply that counts says of the operation that is outstanding.
use Rattle.std.proofs.Common.{◌≡◌, ℕ, zero, suc, ◌+◌, ◌<◌, ◌==◌, ◌⊎◌, Bool, true, false, cond, Option, Some, None, List, [], ◌∷◌, length, take, drop, refl, sym, ap, ◌∙◌, inl, inr, arith}
use Rattle.std.proofs.lemmas.Bool.{and_parts, false≢true}
use Rattle.mdb_base.specs.declared.acts.Act.{Act}
use Rattle.mdb_base.specs.declared.acts.Act.TheVariants.{Get, Set, Add}
use Rattle.mdb_base.specs.declared.acts.Step.{Step}
use Rattle.mdb_base.specs.declared.names.SiteId.{SiteId}
use Rattle.mdb_base.specs.declared.program.Next.{Next}
use Rattle.mdb_base.specs.declared.replies.Reply.{Reply}
use Rattle.mdb_base.specs.declared.replies.Reply.TheVariants as Reply_is
use Rattle.mdb_base.specs.Names.{same_site}
use Rattle.mdb_base.specs.Programs.{is_get, next_of, plain_act}
use Rattle.mdb_base.specs.Words.{given, how_many, item_at}
use Rattle.fed_rules.specs.declared.messages.Due.TheVariants as Due_is
use Rattle.fed_rules.specs.Coord.{fits, fits_act, fits_take}
use Rattle.fed_rules.specs.CoordPast.{is_ticket, visits}
use Rattle.global_exec.specs.declared.progress.Progress.{Progress}
use Rattle.global_exec.specs.Counted.{is_answer}
use Rattle.global_exec.specs.Due.{due, work, take as take_due, prepare}

abbrev pub next_at : List ℕ → Option Step → Option Next
next_at reads None = None
next_at reads (Some step) = Some (record { site = step.site; act = plain_act reads step.act })

pub next_of-at : (program : List Step) (done : ℕ) (reads : List ℕ) → next_of program done reads ≡ next_at reads (item_at program done)
unfolding given
next_of-at program done reads = by_item (item_at program done)
  where
    by_item : (o : Option Step) → given o (λ step. Some (record { site = step.site; act = plain_act reads step.act })) None ≡ next_at reads o
    by_item None = refl
    by_item (Some step) = refl

-- the reply fits the next step's act
pub record FitsStep (program : List Step) (done : ℕ) (reads : List ℕ) (reply : Reply) : Type 0 where
  pub step : Step
  pub next : item_at program done ≡ Some step
  pub fits : fits_act (plain_act reads step.act) reply ≡ true

-- the reply fits the taking of a ticket, which the site doesn't have
pub record FitsTake (progress : Progress) (reply : Reply) : Type 0 where
  pub untaken : progress.ticket ≡ false
  pub fits : fits_take reply ≡ true

module _ (program : List Step) (done : ℕ) (reads : List ℕ) (progress : Progress) (n : ℕ) (reply : Reply) where
  work_fits : (o : Option Step) → item_at program done ≡ o → fits (work progress (next_at reads o)) n reply ≡ true → FitsStep program done reads reply
  work_fits None is e = absurd (false≢true e)
  work_fits (Some step) is e = by_test (same_site step.site progress.site) e
    where
      by_test : (b : Bool) → fits (cond b (Some (Due_is.Work progress.site progress.epoch progress.n (plain_act reads step.act))) None) n reply ≡ true → FitsStep program done reads reply
      by_test true e = record { step = step; next = is; fits = (and_parts (n == progress.n) (fits_act (plain_act reads step.act) reply) e).1 }
      by_test false e = absurd (false≢true e)

  else_fits : (b : Bool) → progress.ticket ≡ b → fits (cond b (prepare progress) (take_due progress)) n reply ≡ true → FitsTake progress reply
  else_fits false is e = record { untaken = is; fits = (and_parts (n == progress.n) (fits_take reply) e).1 }
  else_fits true is e = by_vote progress.voted e
    where
      by_vote : (b : Bool) → fits (cond b None (Some (Due_is.Prepare progress.site progress.epoch progress.n))) n reply ≡ true → FitsTake progress reply
      by_vote true e = absurd (false≢true e)
      by_vote false e = absurd (false≢true e)

  pub due_fits : fits (due program done reads progress) n reply ≡ true → FitsStep program done reads reply ⊎ FitsTake progress reply
  due_fits e = by_visit (visits progress.site (drop done program)) e
    where
      by_visit : (b : Bool) → fits (cond b (work progress (next_of program done reads)) (cond progress.ticket (prepare progress) (take_due progress))) n reply ≡ true → FitsStep program done reads reply ⊎ FitsTake progress reply
      by_visit true e =
          inl (work_fits (item_at program done) refl (ap (λ (o : Option Next). fits (work progress o) n reply) (sym (next_of-at program done reads)) ∙ e))
      by_visit false e = inr (else_fits progress.ticket refl e)

-- the next step is at the site
pub record IsNextAt (program : List Step) (done : ℕ) (site : SiteId) : Type 0 where
  pub step : Step
  pub next : item_at program done ≡ Some step
  pub here : same_site step.site site ≡ true

-- of the answers a take has a ticket alone
no_take : (r : Reply) → is_answer r ≡ true → is_ticket r ≡ false → fits_take r ≡ true → ⊥
no_take Reply_is.Done a plain e = false≢true e
no_take (Reply_is.Value value) a plain e = false≢true e
no_take (Reply_is.Ticket ticket) a plain e = false≢true (sym plain)
no_take (Reply_is.Wait by) a plain e = false≢true a
no_take (Reply_is.Refused why) a plain e = false≢true a
no_take Reply_is.Unknown a plain e = false≢true a

module _ (program : List Step) (done : ℕ) (reads : List ℕ) (progress : Progress) (n : ℕ) (reply : Reply) where
  work_here : (o : Option Step) → item_at program done ≡ o → fits (work progress (next_at reads o)) n reply ≡ true → IsNextAt program done progress.site
  work_here None is e = absurd (false≢true e)
  work_here (Some step) is e = by_test (same_site step.site progress.site) refl e
    where
      by_test : (b : Bool) → same_site step.site progress.site ≡ b → fits (cond b (Some (Due_is.Work progress.site progress.epoch progress.n (plain_act reads step.act))) None) n reply ≡ true → IsNextAt program done progress.site
      by_test true here e = record { step = step; next = is; here = here }
      by_test false here e = absurd (false≢true e)

  -- an answer other than a ticket is one to the next step
  pub answers_next : is_answer reply ≡ true → is_ticket reply ≡ false → fits (due program done reads progress) n reply ≡ true → IsNextAt program done progress.site
  answers_next answers plain e = by_visit (visits progress.site (drop done program)) e
    where
      by_visit : (b : Bool) → fits (cond b (work progress (next_of program done reads)) (cond progress.ticket (prepare progress) (take_due progress))) n reply ≡ true → IsNextAt program done progress.site
      by_visit true e =
          work_here (item_at program done) refl (ap (λ (o : Option Next). fits (work progress o) n reply) (sym (next_of-at program done reads)) ∙ e)
      by_visit false e = absurd (no_take reply answers plain (else_fits program done reads progress n reply progress.ticket refl e).fits)

-- a value answers a read, and a write isn't one
pub value_of_get : (reads : List ℕ) (act : Act) (value : ℕ) → fits_act (plain_act reads act) (Reply_is.Value value) ≡ true → is_get act ≡ true
value_of_get reads (Get key) value e = refl
value_of_get reads (Set key v) value e = absurd (false≢true e)
value_of_get reads (Add key register amount) value e = absurd (false≢true e)

pub done_of_write : (reads : List ℕ) (act : Act) → fits_act (plain_act reads act) Reply_is.Done ≡ true → is_get act ≡ false
done_of_write reads (Get key) e = absurd (false≢true e)
done_of_write reads (Set key v) e = refl
done_of_write reads (Add key register amount) e = refl

-- no step has a ticket for its reply
pub no_ticket_of_act : (reads : List ℕ) (act : Act) (ticket : ℕ) → fits_act (plain_act reads act) (Reply_is.Ticket ticket) ≡ true → ⊥
no_ticket_of_act reads (Get key) ticket e = false≢true e
no_ticket_of_act reads (Set key v) ticket e = false≢true e
no_ticket_of_act reads (Add key register amount) ticket e = false≢true e

-- one step more
pub more_within : (program : List Step) (done : ℕ) (step : Step) → item_at program done ≡ Some step → done < length program
more_within [] done step e = cc
more_within (x ∷ xs) zero step e = omega arith
more_within (x ∷ xs) (suc done) step e = omega (arith, more_within xs done step e)

pub how_many-more : (test : Step → Bool) (xs : List Step) (i : ℕ) (x : Step) → item_at xs i ≡ Some x → how_many test (take (suc i) xs) ≡ how_many test (take i xs) + cond (test x) 1 0
how_many-more test [] i x e = cc
how_many-more test (y ∷ ys) zero x e =
    let same : y ≡ x = cc in
    by_test (test y) ∙ ap (λ (z : Step). 0 + cond (test z) 1 0) same
  where
    by_test : (b : Bool) → cond b (suc 0) 0 ≡ 0 + cond b 1 0
    by_test true = refl
    by_test false = refl
how_many-more test (y ∷ ys) (suc i) x e = by_test (test y) (how_many-more test ys i x e)
  where
    by_test : (b : Bool) → how_many test (take (suc i) ys) ≡ how_many test (take i ys) + cond (test x) 1 0 → cond b (suc (how_many test (take (suc i) ys))) (how_many test (take (suc i) ys)) ≡ cond b (suc (how_many test (take i ys))) (how_many test (take i ys)) + cond (test x) 1 0
    by_test true rest = omega (arith, rest)
    by_test false rest = rest
