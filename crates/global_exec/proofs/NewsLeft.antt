-- What becomes outstanding by an answer that counts, told from the participants as they were.
use Rattle.std.proofs.Common.{◌≡◌, ℕ, zero, suc, ◌+◌, Bool, true, false, cond, not, ◌&&◌, ◌||◌, is_none, Option, Some, None, List, [], ◌∷◌, ◌++◌, drop, refl, sym, ap, ap₂, subst, ◌∙◌, add-one, add-zero}
use Rattle.std.proofs.lemmas.Bool.{and_parts, cond-true, cond-false, false≢true}
use Rattle.std.proofs.lemmas.List.{append-nil}
use Rattle.mdb_base.specs.declared.acts.Step.{Step}
use Rattle.mdb_base.specs.declared.names.SiteId.{SiteId}
use Rattle.mdb_base.specs.declared.program.Next.{Next}
use Rattle.mdb_base.specs.declared.replies.Reply.{Reply}
use Rattle.mdb_base.specs.declared.replies.Reply.TheVariants as Reply_is
use Rattle.mdb_base.specs.Names.{same_site}
use Rattle.mdb_base.specs.Programs.{next_of}
use Rattle.mdb_base.specs.Words.{found, holds_of, item_at, some_of}
use Rattle.mdb_base.proofs.ForCallers.{drop_before, first_passes, item_at-below, item_at-within, or_fails, same_site-equal, same_site-sym, some_parts}
use Rattle.fed_rules.specs.declared.messages.Due.{Due}
use Rattle.fed_rules.specs.declared.messages.Due.TheVariants as Due_is
use Rattle.fed_rules.specs.CoordPast.{is_ticket, visits}
use Rattle.global_exec.specs.declared.progress.Progress.{Progress}
use Rattle.global_exec.specs.Counted.{advanced, answered, counts, counts_at, is_answer, knows, news, news_at, news_left, steps_of, value_of}
use Rattle.global_exec.specs.Due.{due, is_idle, work, prepare, take as take_due}
use Rattle.global_exec.specs.Live.{IsLive, Live, due_in, is_at, progress_at, site_number}
use Rattle.global_exec.proofs.Finds.{found_replaced}
use Rattle.global_exec.proofs.NewsPasts.{idle_due}
use Rattle.global_exec.proofs.Rises.{only_number}
use Rattle.global_exec.proofs.Steps.{IsNextAt, answers_next, next_at, next_of-at}

-- where no item from a place on passes, the one there doesn't
none_there : {A : Type 0} (test : A → Bool) (xs : List A) (i : ℕ) → some_of test (drop i xs) ≡ false → holds_of test (item_at xs i) ≡ false
none_there test [] i none = refl
none_there test (x ∷ xs) zero none = (or_fails (test x) (some_of test xs) none).0
none_there test (x ∷ xs) (suc i) none = none_there test xs i none

-- the item there stands first
drop_item : {A : Type 0} (xs : List A) (i next : ℕ) (x : A) → next ≡ suc i → item_at xs i ≡ Some x → drop i xs ≡ x ∷ drop next xs
drop_item xs i next x more at =
    let within = item_at-below xs i x at in
    drop_before xs i next x more within (some_parts (sym at ∙ item_at-within xs i x within))

module _ (program : List Step) (done : ℕ) (reads : List ℕ) (p : Progress) where
  -- where no step is answered nothing becomes outstanding
  idle_still : cond (is_idle program done p) (due program done reads p) None ≡ None
  idle_still = ap (λ b. cond b (due program done reads p) None) (idle_due program done reads p) ∙ by_due (due program done reads p) where
    by_due : (o : Option Due) → cond (is_none o) o None ≡ None
    by_due None = refl
    by_due (Some d) = refl

  -- no step is left here, so the next one isn't here
  no_work : visits p.site (drop done program) ≡ false → work p (next_of program done reads) ≡ None
  no_work none =
      ap (work p) (next_of-at program done reads) ∙ by_item (item_at program done) (none_there (λ (s : Step). same_site s.site p.site) program done none)
    where
      by_item : (o : Option Step) → holds_of (λ (s : Step). same_site s.site p.site) o ≡ false → work p (next_at reads o) ≡ None
      by_item None off = refl
      by_item (Some step) off = cond-false _ _ _ off

-- where a step of another site is answered, the next one alone can become outstanding
idle_step : (program : List Step) (done now : ℕ) (reads : List ℕ) (step : Step) (p : Progress) → now ≡ suc done → item_at program done ≡ Some step → same_site step.site p.site ≡ false
    → cond (is_idle program done p) (due program now reads p) None ≡ work p (next_of program now reads)
idle_step program done now reads step p more at off =
    ap (λ b. cond b (due program now reads p) None) idle ∙ by_visit (visits p.site (drop now program)) refl
  where
    visit : visits p.site (drop done program) ≡ visits p.site (drop now program)
    visit = ap (visits p.site) (drop_item program done now step more at) ∙ ap (λ b. b || visits p.site (drop now program)) off

    other : holds_of (λ (s : Step). same_site s.site p.site) (item_at program done) ≡ false
    other = ap (holds_of (λ (s : Step). same_site s.site p.site)) at ∙ off

    idle : is_idle program done p ≡ cond (visits p.site (drop now program)) true (p.ticket && p.voted)
    idle = ap₂ (λ a b. cond a (not b) (p.ticket && p.voted)) visit other

    closed : (t v : Bool) → cond (t && v) (cond t (cond v None (Some (Due_is.Prepare p.site p.epoch p.n))) (take_due p)) None ≡ None
    closed true true = refl
    closed true false = refl
    closed false v = refl

    by_visit : (b : Bool) → visits p.site (drop now program) ≡ b
        → cond (cond b true (p.ticket && p.voted)) (cond b (work p (next_of program now reads)) (cond p.ticket (prepare p) (take_due p))) None ≡ work p (next_of program now reads)
    by_visit true e = refl
    by_visit false e = closed p.ticket p.voted ∙ sym (no_work program now reads p e)

-- a ticket gives no value
no_value : (reply : Reply) → is_ticket reply ≡ true → value_of reply ≡ []
no_value Reply_is.Done t = absurd (false≢true t)
no_value (Reply_is.Value value) t = absurd (false≢true t)
no_value (Reply_is.Ticket ticket) t = refl
no_value (Reply_is.Wait by) t = refl
no_value (Reply_is.Refused why) t = refl
no_value Reply_is.Unknown t = refl

module _ (site : SiteId) (epoch n : ℕ) (reply : Reply) (live : Live) (counted : counts site epoch n reply live ≡ true) (answers : is_answer reply ≡ true) (alive : IsLive live) where
  abbrev done : ℕ
  done = live.done + steps_of reply

  abbrev reads : List ℕ
  reads = live.reads ++ value_of reply

  abbrev left : List Step
  left = drop done live.program

  abbrev next : Option Next
  next = next_of live.program done reads

  abbrev after : Live
  after = advanced site epoch reply live

  -- a step that is answered is at the site
  step_there : is_ticket reply ≡ false → IsNextAt live.program live.done site
  step_there plain = by_first (progress_at site live) refl counted where
    by_first : (o : Option Progress) → progress_at site live ≡ o → holds_of (counts_at live epoch n reply) o ≡ true → IsNextAt live.program live.done site
    by_first None is e = absurd (false≢true e)
    by_first (Some p) is e =
        subst (IsNextAt live.program live.done) (same_site-equal p.site site (first_passes (is_at site) live.sites p is))
        (answers_next live.program live.done live.reads p n reply answers plain (and_parts _ (knows p.epoch epoch) e).0)

  here : (p : Progress) → is_at site p ≡ true → news_at site live.done after (answered epoch reply p) ≡ news_left site epoch reply left next p
  here p e = cond-true _ _ _ (ap (λ b. b || is_idle live.program live.done (answered epoch reply p)) e) ∙ sym (cond-true _ _ _ e)

  elsewhere : (p : Progress) → is_at site p ≡ false → news_at site live.done after p ≡ news_left site epoch reply left next p
  elsewhere p e =
      ap (λ b. cond (b || is_idle live.program live.done p) (due_in after p) None) e ∙ by_ticket (is_ticket reply) refl ∙ sym (cond-false _ _ _ e)
    where
      by_ticket : (t : Bool) → is_ticket reply ≡ t → cond (is_idle live.program live.done p) (due live.program done reads p) None ≡ cond t None (work p next)
      by_ticket true t =
          ap₂ (λ (k : ℕ) (vs : List ℕ). cond (is_idle live.program live.done p) (due live.program k vs p) None)
          (ap (λ b. live.done + cond b 0 1) t ∙ add-zero live.done) (ap (λ (vs : List ℕ). live.reads ++ vs) (no_value reply t) ∙ append-nil live.reads)
          ∙ idle_still live.program live.done live.reads p
      by_ticket false t =
          let there = step_there t in
          idle_step live.program live.done done reads there.step p (ap (λ b. live.done + cond b 0 1) t ∙ add-one live.done) there.next
          (ap (λ (s : SiteId). same_site s p.site) (same_site-equal there.step.site site there.here) ∙ same_site-sym site p.site ∙ e)

  pub news_told : found (news_left site epoch reply left next) live.sites ≡ news site live.done after
  news_told =
      sym (found_replaced (is_at site) (answered epoch reply) (news_at site live.done after) (news_left site epoch reply left next) here elsewhere live.sites (only_number site_number site.0 live.sites alive.rising))
