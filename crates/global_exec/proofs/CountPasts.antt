-- A reply counts in the table where it counts by the past.
use Rattle.std.proofs.Common.{◌≡◌, ℕ, ◌==◌, Bool, true, false, cond, ◌&&◌, ◌||◌, Option, Some, None, List, [], ◌∷◌, map, refl, sym, ap, ◌∙◌}
use Rattle.std.proofs.lemmas.Bool.{cond-true, cond-false, false≢true}
use Rattle.mdb_base.specs.declared.acts.Step.{Step}
use Rattle.mdb_base.specs.declared.names.SiteId.{SiteId}
use Rattle.mdb_base.specs.declared.names.Tid.{Tid}
use Rattle.mdb_base.specs.declared.replies.Reply.{Reply}
use Rattle.mdb_base.specs.Names.{same_site}
use Rattle.mdb_base.specs.Words.{first_where, holds_of, some_of, those}
use Rattle.mdb_base.proofs.ForCallers.{same_site-equal}
use Rattle.presumptions.specs.declared.Participant.{Participant}
use Rattle.presumptions.specs.declared.Protocol.TheVariants as By
use Rattle.fed_rules.specs.declared.messages.Due.{Due}
use Rattle.fed_rules.specs.Coord.{fits, is_due_vote}
use Rattle.fed_rules.specs.CoordPast.{CoordPast, epoch_at, outstanding, visits}
use Rattle.global_exec.specs.declared.progress.Progress.{Progress}
use Rattle.global_exec.specs.Agreement.{IsOfPast, progress_in}
use Rattle.global_exec.specs.Counted.{counts, counts_at, knows}
use Rattle.global_exec.specs.Live.{Live, awaits_vote, due_in, is_at, progress_at}
use Rattle.global_exec.proofs.Agrees.{due-at}

module _ (past : CoordPast) (tid : Tid) (site : SiteId) (steps : List Step) where
  -- how far the attempt has come at the site
  abbrev here : Progress
  here = progress_in past tid (record { site = site; protocol = By.Nothing })

  abbrev listed : List Participant → List Progress
  listed members = map (progress_in past tid) (those (λ p. visits p.site steps) members)

  none_there : visits site steps ≡ false → (members : List Participant) → first_where (is_at site) (listed members) ≡ None
  none_there off [] = refl
  none_there off (m ∷ ms) = by_test (same_site m.site site) refl (visits m.site steps) refl (none_there off ms) where
    by_test : (b : Bool) → same_site m.site site ≡ b → (v : Bool) → visits m.site steps ≡ v → first_where (is_at site) (listed ms) ≡ None
        → first_where (is_at site) (map (progress_in past tid) (cond v (m ∷ those (λ p. visits p.site steps) ms) (those (λ p. visits p.site steps) ms))) ≡ None
    by_test b same false v rest = rest
    by_test false same true v rest = cond-false _ _ _ same ∙ rest
    by_test true same true v rest = absurd (false≢true (sym off ∙ ap (λ s. visits s steps) (sym (same_site-equal m.site site same)) ∙ v))

  abbrev AtFirst : Participant → List Participant → Bool → Type 0
  AtFirst m ms v = first_where (is_at site) (map (progress_in past tid) (cond v (m ∷ those (λ p. visits p.site steps) ms) (those (λ p. visits p.site steps) ms))) ≡ cond (visits site steps) (Some here) None

  pub first_there : (members : List Participant) → some_of (λ p. same_site p.site site) members ≡ true
      → first_where (is_at site) (listed members) ≡ cond (visits site steps) (Some here) None
  first_there [] among = absurd (false≢true among)
  first_there (m ∷ ms) among = by_test (same_site m.site site) refl (visits m.site steps) refl (first_there ms) where
    by_test : (b : Bool) → same_site m.site site ≡ b → (v : Bool) → visits m.site steps ≡ v
        → (some_of (λ p. same_site p.site site) ms ≡ true → first_where (is_at site) (listed ms) ≡ cond (visits site steps) (Some here) None)
        → AtFirst m ms v
    by_test true same true v rest =
        cond-true _ _ _ same
        ∙ ap (λ (s : SiteId). Some (progress_in past tid (record { site = s; protocol = By.Nothing }))) (same_site-equal m.site site same)
        ∙ sym (cond-true _ _ _ (ap (λ (s : SiteId). visits s steps) (sym (same_site-equal m.site site same)) ∙ v))
    by_test true same false v rest =
        let off : visits site steps ≡ false = ap (λ (s : SiteId). visits s steps) (sym (same_site-equal m.site site same)) ∙ v in
        none_there off ms ∙ sym (cond-false _ _ _ off)
    by_test false same true v rest = cond-false _ _ _ same ∙ rest (sym (ap (λ b. b || some_of (λ p. same_site p.site site) ms) same) ∙ among)
    by_test false same false v rest = rest (sym (ap (λ b. b || some_of (λ p. same_site p.site site) ms) same) ∙ among)

module _ (protocols : List Participant) (past : CoordPast) (tid : Tid) (live : Live) (is : IsOfPast protocols past tid live)
    (site : SiteId) (among : some_of (λ p. same_site p.site site) protocols ≡ true) where
  at_site : progress_at site live ≡ cond (visits site live.program) (Some (here past tid site live.program)) None
  at_site = ap (first_where (is_at site)) is.sites ∙ first_there past tid site live.program protocols among

  -- what is outstanding at the site
  pub due_there : (f : Option Due → Bool) → f None ≡ false → holds_of (λ p. f (due_in live p)) (progress_at site live) ≡ f (outstanding past tid site)
  due_there f none = ap (holds_of (λ p. f (due_in live p))) at_site ∙ by_visit (visits site live.program) refl where
    by_visit : (v : Bool) → visits site live.program ≡ v → holds_of (λ p. f (due_in live p)) (cond v (Some (here past tid site live.program)) None) ≡ f (outstanding past tid site)
    by_visit true v = ap f (due-at protocols past tid live is (record { site = site; protocol = By.Nothing })) ∙ sym (ap f (cond-true _ _ _ (ap (visits site) (sym is.program) ∙ v)))
    by_visit false v = sym none ∙ sym (ap f (cond-false _ _ _ (ap (visits site) (sym is.program) ∙ v)))

  -- a vote is awaited where a Prepare is outstanding
  pub awaits_link : awaits_vote site live ≡ is_due_vote (outstanding past tid site)
  awaits_link = due_there is_due_vote refl

  -- a reply counts where it fits what is outstanding, with the known epoch
  pub counts_link : (epoch n : ℕ) (reply : Reply) → counts site epoch n reply live ≡ (fits (outstanding past tid site) n reply && ((epoch_at past tid site == 0) || (epoch == epoch_at past tid site)))
  counts_link epoch n reply = ap (holds_of (counts_at live epoch n reply)) at_site ∙ by_visit (visits site live.program) refl where
    by_visit : (v : Bool) → visits site live.program ≡ v → holds_of (counts_at live epoch n reply) (cond v (Some (here past tid site live.program)) None)
        ≡ (fits (outstanding past tid site) n reply && ((epoch_at past tid site == 0) || (epoch == epoch_at past tid site)))
    by_visit true v =
        ap (λ (d : Option Due). fits d n reply && knows (epoch_at past tid site) epoch) (due-at protocols past tid live is (record { site = site; protocol = By.Nothing }) ∙ sym (cond-true _ _ _ (ap (visits site) (sym is.program) ∙ v)))
    by_visit false v =
        sym (ap (λ (d : Option Due). fits d n reply && ((epoch_at past tid site == 0) || (epoch == epoch_at past tid site))) (cond-false _ _ _ (ap (visits site) (sym is.program) ∙ v)))
