-- What the tests at the end of the lines take for rest and for a merge are such, and such pass them.
use Rattle.std.proofs.Common.{◌≡◌, Bool, true, false, not, ◌&&◌, is_none, List, [], ◌∷◌, refl, ap, ◌∙◌, subst}
use Rattle.std.proofs.lemmas.Bool.{and_from, and_parts, not-true}
use Rattle.mdb_base.specs.declared.names.SiteId.{SiteId}
use Rattle.mdb_base.specs.declared.names.Tid.{Tid}
use Rattle.mdb_base.specs.Names.{same_tid}
use Rattle.mdb_base.specs.Words.{Each, each_of, those, is_empty}
use Rattle.mdb_base.proofs.ForCallers.{empty_means, is_none-true, same_tid-equal, same_tid-refl}
use Rattle.order_laws.specs.Merge as merge
use Rattle.order_laws.specs.Orders.{is_in}
use Rattle.fed_rules.specs.declared.scenario.Scenario.{Scenario}
use Rattle.fed_rules.specs.Closing.{live, in_doubt_at, known}
use Rattle.fed_rules.specs.CoordPast as Coordinator
use Rattle.fed_rules.specs.Happenings.{is_down}
use Rattle.fed_rules.specs.Scenarios.{home_of, sites}
use Rattle.fed_rules.specs.SitePast.{trip}
use Rattle.fed_rules.specs.Story.{Story, coord_past, past_of}
use Rattle.audit_rules.specs.Agreements.{SiteRests, Rests}
use Rattle.audit_rules.specs.Ends.{site_rests, rests, same_tids, merges}

-- ---- at rest

four : (a b c d : Bool) → (a && b && c && d) ≡ true → (a ≡ true) × (b ≡ true) × (c ≡ true) × (d ≡ true)
four true true true true e = (refl, refl, refl, refl)
four true true true false e = cc
four true true false d e = cc
four true false c d e = cc
four false b c d e = cc

four_pass : (a b c d : Bool) → a ≡ true → b ≡ true → c ≡ true → d ≡ true → (a && b && c && d) ≡ true
four_pass true true true true p q r s = refl
four_pass true true true false p q r s = cc
four_pass true true false d p q r s = cc
four_pass true false c d p q r s = cc
four_pass false b c d p q r s = cc

site_means : (scenario : Scenario) (story : Story) (site : SiteId) → site_rests scenario story site ≡ true → SiteRests scenario story site
site_means scenario story site e =
    let (up, untripped, dead, sure) = four (not (is_down (past_of site story))) (is_none (trip (past_of site story))) (is_empty (live scenario story site)) (is_empty (in_doubt_at (home_of scenario site) story)) e in
    record { up = not-true _ up; untripped = is_none-true _ untripped; none_live = empty_means _ dead; none_in_doubt = empty_means _ sure }

each_means : {A : Type 0} (P : A → Type 0) (test : A → Bool) → ((x : A) → test x ≡ true → P x) → (xs : List A) → each_of test xs ≡ true → Each P xs
each_means P test one [] e = tt
each_means P test one (x ∷ xs) e = let (first, more) = and_parts (test x) _ e in (one x first, each_means P test one xs more)

pub rest_means : (scenario : Scenario) (story : Story) → rests scenario story ≡ true → Rests scenario story
unfolding rests
rest_means scenario story e =
    let (up, untripped, forgotten, each) = four (not (is_down (coord_past story))) (is_none (Coordinator.trip (coord_past story))) (is_empty (known scenario story)) (each_of (site_rests scenario story) (sites scenario)) e in
    record {
      coordinator_up = not-true _ up;
      coordinator_untripped = is_none-true _ untripped;
      none_known = empty_means _ forgotten;
      sites = each_means (SiteRests scenario story) (site_rests scenario story) (site_means scenario story) (sites scenario) each;
    }

-- ---- a merge

tids_alike : (xs ys : List Tid) → same_tids xs ys ≡ true → xs ≡ ys
tids_alike [] [] e = refl
tids_alike [] (y ∷ ys) e = cc
tids_alike (x ∷ xs) [] e = cc
tids_alike (x ∷ xs) (y ∷ ys) e =
    let (one, more) = and_parts (same_tid x y) _ e in ap (λ z. z ∷ xs) (same_tid-equal x y one) ∙ ap (λ zs. y ∷ zs) (tids_alike xs ys more)

pub merge_means : (all : List (List Tid)) (order : List Tid) → merges all order ≡ true → merge.IsMerge same_tid all order
unfolding merges
merge_means all order e =
    let (kept, named) = and_parts (each_of (λ ts. same_tids (those (is_in same_tid ts) order) ts) all) _ e in
    record {
      kept = each_means (λ ts. those (is_in same_tid ts) order ≡ ts) (λ ts. same_tids (those (is_in same_tid ts) order) ts) (λ ts f. tids_alike _ ts f) all kept;
      named = named;
    }

site_passes : (scenario : Scenario) (story : Story) (site : SiteId) → SiteRests scenario story site → site_rests scenario story site ≡ true
site_passes scenario story site r =
    four_pass _ _ _ _ (ap not r.up) (ap is_none r.untripped) (ap is_empty r.none_live) (ap is_empty r.none_in_doubt)

each_passes : {A : Type 0} (P : A → Type 0) (test : A → Bool) → ((x : A) → P x → test x ≡ true) → (xs : List A) → Each P xs → each_of test xs ≡ true
each_passes P test one [] h = refl
each_passes P test one (x ∷ xs) h = and_from _ _ (one x h.0) (each_passes P test one xs h.1)

pub rest_passes : (scenario : Scenario) (story : Story) → Rests scenario story → rests scenario story ≡ true
unfolding rests
rest_passes scenario story r =
    four_pass _ _ _ _ (ap not r.coordinator_up) (ap is_none r.coordinator_untripped) (ap is_empty r.none_known)
    (each_passes (SiteRests scenario story) (site_rests scenario story) (site_passes scenario story) (sites scenario) r.sites)

tids_self : (xs : List Tid) → same_tids xs xs ≡ true
tids_self [] = refl
tids_self (x ∷ xs) = and_from _ _ (same_tid-refl x) (tids_self xs)

pub merge_passes : (all : List (List Tid)) (order : List Tid) → merge.IsMerge same_tid all order → merges all order ≡ true
unfolding merges
merge_passes all order m =
    and_from _ _
    (each_passes (λ ts. those (is_in same_tid ts) order ≡ ts) (λ ts. same_tids (those (is_in same_tid ts) order) ts)
    (λ ts e. subst (λ us. same_tids (those (is_in same_tid ts) order) us ≡ true) e (tids_self (those (is_in same_tid ts) order))) all m.kept)
    m.named
