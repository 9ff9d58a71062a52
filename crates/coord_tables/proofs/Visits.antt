-- The sites that a program visits, and what is outstanding for it at first.
use Rattle.std.proofs.Common.{◌≡◌, ℕ, ◌≤◌, Bool, true, false, cond, ◌&&◌, ◌||◌, Option, Some, None, List, [], ◌∷◌, drop, map, refl, sym, ap, ap₂, subst, ◌∙◌, arith}
use Rattle.std.proofs.lemmas.Bool.{cond-true}
use Rattle.mdb_base.specs.declared.acts.PlainAct.{PlainAct}
use Rattle.mdb_base.specs.declared.acts.Step.{Step}
use Rattle.mdb_base.specs.declared.names.SiteId.{SiteId}
use Rattle.mdb_base.specs.declared.names.Tid.{Tid}
use Rattle.mdb_base.specs.declared.program.Next.{Next}
use Rattle.mdb_base.specs.Names.{same_site}
use Rattle.mdb_base.specs.Programs.{next_of}
use Rattle.mdb_base.specs.Words.{Each, found, some_of, those, with_some}
use Rattle.presumptions.specs.declared.Participant.{Participant}
use Rattle.fed_rules.specs.declared.messages.Due.{Due}
use Rattle.fed_rules.specs.declared.messages.Due.TheVariants as Due_is
use Rattle.fed_rules.specs.Coord.{is_prepare, is_take}
use Rattle.fed_rules.specs.CoordPast.{CoordPast, participants_of, visits}
use Rattle.global_exec.specs.declared.policy.SiteSet.{SiteSet}
use Rattle.global_exec.specs.declared.progress.Progress.{Progress}
use Rattle.global_exec.specs.Due.{fresh, work}
use Rattle.global_exec.specs.Live as live
use Rattle.global_exec.specs.Live.{Live, all_due, all_sites, due_in, fresh_at, live_of}
use Rattle.global_exec.specs.Pasts.{IsAmong}
use Rattle.global_exec.specs.Sets.{has_site}
use Rattle.global_exec.proofs.ForCallers.{sets_are_lists}
use Rattle.coord_tables.specs.Terms.{Terms, IsSound}
use Rattle.mdb_base.proofs.ForCallers.{and_false, each_filtered, same_site-equal, those_rise}
use Rattle.fed_rules.proofs.ForCallers.{sites_rise}
use Rattle.coord_tables.proofs.Phases.{sites_named}
use Rattle.record_fields.specs.Named as Fields

pub those_alike : {A : Type 0} (f g : A → Bool) (xs : List A) → Each (λ x. f x ≡ g x) xs → those f xs ≡ those g xs
those_alike f g [] h = refl
those_alike f g (x ∷ xs) h = ap₂ (λ b ys. cond b (x ∷ ys) ys) h.0 (those_alike f g xs h.1)

-- ---- the sites of a program

-- a site that the program visits is declared, where each of its steps is at a declared site
visited_among : (site : SiteId) (steps : List Step) (protocols : List Participant) → Each (λ step. IsAmong step.site protocols) steps → visits site steps ≡ true → IsAmong site protocols
visited_among site [] protocols h v = cc
visited_among site (step ∷ steps) protocols h v = by_test (same_site step.site site) refl v (visited_among site steps protocols h.1) where
  by_test : (b : Bool) → same_site step.site site ≡ b → (b || visits site steps) ≡ true → (visits site steps ≡ true → IsAmong site protocols) → IsAmong site protocols
  by_test true e w rest = subst (λ (s : SiteId). IsAmong s protocols) (same_site-equal step.site site e) h.0
  by_test false e w rest = rest w

abbrev pub at : SiteId → List SiteId → Bool
at site sites = some_of (λ other. same_site other site) sites

abbrev pub sites_for : List Participant → List Step → List SiteId
sites_for protocols steps = map (λ (p : Participant). p.site) (participants_of protocols steps)

-- which sites the participants of a program are at
at_site : (site : SiteId) (steps : List Step) (ps : List Participant) → at site (sites_for ps steps) ≡ (visits site steps && some_of (λ m. same_site m.site site) ps)
at_site site steps [] = sym (and_false (visits site steps))
at_site site steps (p ∷ ps) = by_tests (visits p.site steps) (same_site p.site site) refl refl (at_site site steps ps) where
  here : (v : Bool) → visits p.site steps ≡ v → same_site p.site site ≡ true → visits site steps ≡ v
  here v e f = subst (λ (s : SiteId). visits s steps ≡ v) (same_site-equal p.site site f) e

  by_tests : (v s : Bool) → visits p.site steps ≡ v → same_site p.site site ≡ s → at site (sites_for ps steps) ≡ (visits site steps && some_of (λ m. same_site m.site site) ps)
      → at site (map (λ (q : Participant). q.site) (cond v (p ∷ participants_of ps steps) (participants_of ps steps))) ≡ (visits site steps && (s || some_of (λ m. same_site m.site site) ps))
  by_tests true true e f rest =
      ap (λ b. b || at site (sites_for ps steps)) f ∙ sym (ap (λ b. b && true) (here true e f))
  by_tests true false e f rest = ap (λ b. b || at site (sites_for ps steps)) f ∙ rest
  by_tests false true e f rest =
      rest ∙ ap (λ b. b && some_of (λ m. same_site m.site site) ps) (here false e f) ∙ sym (ap (λ b. b && true) (here false e f))
  by_tests false false e f rest = rest

-- the set has just the sites that the program visits
abbrev pub HasVisited : List Step → SiteSet → Type 0
HasVisited steps set = (site : SiteId) → 1 ≤ site.0 → site.0 ≤ 8 → has_site set site ≡ visits site steps

pub visited_sites : (protocols : List Participant) (steps : List Step) (set : SiteSet) → Each (λ step. IsAmong step.site protocols) steps → HasVisited steps set
    → (site : SiteId) → 1 ≤ site.0 → site.0 ≤ 8 → has_site set site ≡ at site (sites_for protocols steps)
visited_sites protocols steps set h has site least most = has site least most ∙ sym (at_site site steps protocols ∙ by_visit (visits site steps) refl) where
  by_visit : (b : Bool) → visits site steps ≡ b → (b && some_of (λ m. same_site m.site site) protocols) ≡ b
  by_visit true v = visited_among site steps protocols h v
  by_visit false v = refl

all_eight : (P : SiteId → Type 0) → ((site : SiteId) → 1 ≤ site.0 → site.0 ≤ 8 → P site) → Each P all_sites
all_eight P h = (
  h (record { 0 = 1 }) (omega arith) (omega arith),
  (
    h (record { 0 = 2 }) (omega arith) (omega arith),
    (
      h (record { 0 = 3 }) (omega arith) (omega arith),
      (
        h (record { 0 = 4 }) (omega arith) (omega arith),
        (
          h (record { 0 = 5 }) (omega arith) (omega arith),
          (
            h (record { 0 = 6 }) (omega arith) (omega arith),
            (h (record { 0 = 7 }) (omega arith) (omega arith), (h (record { 0 = 8 }) (omega arith) (omega arith), tt)),
          ),
        ),
      ),
    ),
  ),
)

-- the sites that the program visits are those of its participants
pub visited_are : (terms : Terms) (past : CoordPast) (steps : List Step) (set : SiteSet) → IsSound terms past → Each (λ step. IsAmong step.site terms.protocols) steps → HasVisited steps set
    → those (λ site. visits site steps) all_sites ≡ sites_for terms.protocols steps
visited_are terms past steps set sound h has =
    sym (those_alike (has_site set) (λ site. visits site steps) all_sites (all_eight (λ site. has_site set site ≡ visits site steps) has))
    ∙ sets_are_lists set (sites_for terms.protocols steps)
    (sites_rise (participants_of terms.protocols steps) (those_rise (λ (p : Participant). p.site.0) (λ (p : Participant). visits p.site steps) terms.protocols sound.rising))
    (sites_named (participants_of terms.protocols steps) (each_filtered (λ (p : Participant). Fields.IsSite p.site) (λ (p : Participant). visits p.site steps) terms.protocols sound.declared))
    (visited_sites terms.protocols steps set h has)

pub fresh_those : (steps : List Step) (sites : List SiteId) → found (fresh_at steps) sites ≡ map fresh (those (λ site. visits site steps) sites)
fresh_those steps [] = refl
fresh_those steps (site ∷ sites) = by_test (visits site steps) (fresh_those steps sites) where
  by_test : (b : Bool) → found (fresh_at steps) sites ≡ map fresh (those (λ s. visits s steps) sites)
      → with_some (cond b (Some (fresh site)) None) (found (fresh_at steps) sites) ≡ map fresh (cond b (site ∷ those (λ s. visits s steps) sites) (those (λ s. visits s steps) sites))
  by_test true rest = ap (λ ys. fresh site ∷ ys) rest
  by_test false rest = rest

-- ---- what is outstanding at first is work

drop_none : {A : Type 0} (xs : List A) → drop 0 xs ≡ xs
drop_none [] = refl
drop_none (x ∷ xs) = refl

module _ (test : Due → Bool) (no_work : (site : SiteId) (epoch n : ℕ) (act : PlainAct) → test (Due_is.Work site epoch n act) ≡ false) (tid : Tid) (steps : List Step) where
  work_only : (progress : Progress) (o : Option Next) (dues : List Due) → some_of test dues ≡ false → some_of test (with_some (work progress o) dues) ≡ false
  work_only progress None dues h = h
  work_only progress (Some next) dues h = by_test (same_site next.site progress.site) where
    by_test : (b : Bool) → some_of test (with_some (cond b (Some (Due_is.Work progress.site progress.epoch progress.n next.act)) None) dues) ≡ false
    by_test true = ap₂ (λ x y. x || y) (no_work progress.site progress.epoch progress.n next.act) h
    by_test false = h

  first_dues : (sites : List SiteId) → some_of test (found (due_in (live.submitted tid steps)) (found (fresh_at steps) sites)) ≡ false
  first_dues [] = refl
  first_dues (site ∷ sites) = by_test (visits site steps) refl (first_dues sites) where
    by_test : (b : Bool) → visits site steps ≡ b → some_of test (found (due_in (live.submitted tid steps)) (found (fresh_at steps) sites)) ≡ false
        → some_of test (found (due_in (live.submitted tid steps)) (with_some (cond b (Some (fresh site)) None) (found (fresh_at steps) sites))) ≡ false
    by_test true v rest =
        ap (λ o. some_of test (with_some o (found (due_in (live.submitted tid steps)) (found (fresh_at steps) sites))))
        (cond-true _ _ _ (ap (visits site) (drop_none steps) ∙ v))
        ∙ work_only (fresh site) (next_of steps 0 []) (found (due_in (live.submitted tid steps)) (found (fresh_at steps) sites)) rest
    by_test false v rest = rest

pub no_takes : (tid : Tid) (steps : List Step) → some_of is_take (all_due (live.submitted tid steps)) ≡ false
no_takes tid steps = first_dues is_take (λ site epoch n act. refl) tid steps all_sites

pub no_prepares : (tid : Tid) (steps : List Step) → some_of is_prepare (all_due (live.submitted tid steps)) ≡ false
no_prepares tid steps = first_dues is_prepare (λ site epoch n act. refl) tid steps all_sites
