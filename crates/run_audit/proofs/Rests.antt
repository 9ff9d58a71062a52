-- Whether all is at rest, by the actors.
use Rattle.std.proofs.Common.{◌≡◌, ◌&&◌, Bool, true, false, not, cond, Option, Some, None, is_some, is_none, List, [], ◌∷◌, map, nat_lt, refl, sym, ap, ap₂, ◌∙◌}
use Rattle.std.proofs.Math.Bool.{and_assoc, and_comm}
use Rattle.mdb_base.specs.declared.names.SiteId.{SiteId}
use Rattle.mdb_base.specs.declared.names.Tid.{Tid}
use Rattle.mdb_base.specs.Words.{each_of, inserted, is_empty}
use Rattle.presumptions.specs.declared.Participant.{Participant}
use Rattle.fed_rules.specs.declared.scenario.Scenario.{Scenario}
use Rattle.fed_rules.specs.declared.scenario.SiteLine.{SiteLine}
use Rattle.fed_rules.specs.Closing.{in_doubt_at, known, live, live_at}
use Rattle.fed_rules.specs.CoordPast as Coordinator
use Rattle.fed_rules.specs.Happenings.{is_down}
use Rattle.fed_rules.specs.Scenarios.{home_of, protocols_in}
use Rattle.fed_rules.specs.SitePast.{SitePast, trip}
use Rattle.fed_rules.specs.SiteRecords.{Home}
use Rattle.fed_rules.specs.Story.{Story, coord_past, past_of}
use Rattle.audit_rules.specs.Ends.{rests, site_rests}
use Rattle.run_audit.specs.Resting.{coordinator_rests, sites_rest}

swap : (a b c : Bool) → (a && (b && c)) ≡ (b && (a && c))
swap a b c = sym (and_assoc a b c) ∙ (ap (λ k. k && c) (and_comm a b) ∙ and_assoc b a c)

-- the place of an item doesn't matter
module _ {A : Type 0} (test : A → Bool) (before : A → A → Bool) (x : A) where
  each_inserted : (ys : List A) → each_of test (inserted before x ys) ≡ (test x && each_of test ys)
  each_inserted [] = refl
  each_inserted (y ∷ ys) = by_test (before y x) (each_inserted ys)
    where
      by_test : (b : Bool) → each_of test (inserted before x ys) ≡ (test x && each_of test ys)
          → each_of test (cond b (y ∷ inserted before x ys) (x ∷ y ∷ ys)) ≡ (test x && (test y && each_of test ys))
      by_test true rest = ap (λ k. test y && k) rest ∙ swap (test y) (test x) (each_of test ys)
      by_test false rest = refl

each_mapped : {A B : Type 0} (f : A → B) (test : B → Bool) (xs : List A) → each_of test (map f xs) ≡ each_of (λ x. test (f x)) xs
each_mapped f test [] = refl
each_mapped f test (x ∷ xs) = ap (λ k. test (f x) && k) (each_mapped f test xs)

-- of the sites, by rising number or by their lines
by_lines : (test : SiteId → Bool) (lines : List SiteLine) → each_of (λ (p : Participant). test p.site) (protocols_in lines) ≡ each_of (λ (line : SiteLine). test line.site) lines
by_lines test [] = refl
by_lines test (line ∷ lines) =
    each_inserted (λ (p : Participant). test p.site) (λ a b. nat_lt a.site.0 b.site.0) (record { site = line.site; protocol = line.protocol }) (protocols_in lines)
    ∙ ap (λ k. test line.site && k) (by_lines test lines)

module _ (scenario : Scenario) (story : Story) where
  rests_by : (coordinator_rests scenario story && sites_rest scenario story scenario.sites) ≡ rests scenario story
  unfolding rests
  rests_by =
      ap (λ k. coordinator_rests scenario story && k)
      (sym (each_mapped (λ (p : Participant). p.site) (site_rests scenario story) (protocols_in scenario.sites) ∙ by_lines (site_rests scenario story) scenario.sites))

  -- the coordinator isn't
  pub not_rested : false ≡ coordinator_rests scenario story → false ≡ rests scenario story
  not_rested e = ap (λ k. k && sites_rest scenario story scenario.sites) e ∙ rests_by

  -- it is, so the sites decide
  pub by_sites : (rest : Bool) → true ≡ coordinator_rests scenario story → rest ≡ sites_rest scenario story scenario.sites → rest ≡ rests scenario story
  by_sites rest e is = is ∙ (ap (λ k. k && sites_rest scenario story scenario.sites) e ∙ rests_by)

none_where : {A : Type 0} (o : Option A) → true ≡ is_some o → false ≡ is_none o
none_where None e = cc
none_where (Some x) e = refl

none_so : {A : Type 0} (o : Option A) → false ≡ is_some o → true ≡ is_none o
none_so None e = refl
none_so (Some x) e = cc

module _ (scenario : Scenario) (story : Story) (site : SiteId) where
  -- the site is down
  pub stopped : true ≡ is_down (past_of site story) → false ≡ site_rests scenario story site
  stopped e = ap (λ b. not b && is_none (trip (past_of site story)) && is_empty (live scenario story site) && is_empty (in_doubt_at (home_of scenario site) story)) e

  -- it is up, and a trip is armed
  pub armed : false ≡ is_down (past_of site story) → true ≡ is_some (trip (past_of site story)) → false ≡ site_rests scenario story site
  armed up e =
      ap₂ (λ a b. not a && b && is_empty (live scenario story site) && is_empty (in_doubt_at (home_of scenario site) story)) up (none_where (trip (past_of site story)) e)

  -- it is up, and none is
  pub quiet : (tids doubts : List Tid) → false ≡ is_down (past_of site story) → false ≡ is_some (trip (past_of site story)) → tids ≡ live scenario story site → doubts ≡ in_doubt_at (home_of scenario site) story
      → (is_empty tids && is_empty doubts) ≡ site_rests scenario story site
  quiet tids doubts up e lives held =
      ap₂ (λ ts ds. is_empty ts && is_empty ds) lives held
      ∙ ap₂ (λ a b. not a && b && is_empty (live scenario story site) && is_empty (in_doubt_at (home_of scenario site) story)) up (none_so (trip (past_of site story)) e)

  -- it isn't declared
  pub nowhere : past_of site story ≡ [] → home_of scenario site ≡ None → true ≡ site_rests scenario story site
  nowhere none away =
      ap₂ (λ (past : SitePast) (home : Option Home). not (is_down past) && is_none (trip past) && is_empty (live_at home story) && is_empty (in_doubt_at home story)) (sym none) (sym away)

module _ (scenario : Scenario) (story : Story) where
  pub coordinator_stopped : true ≡ is_down (coord_past story) → false ≡ coordinator_rests scenario story
  coordinator_stopped e = ap (λ b. not b && is_none (Coordinator.trip (coord_past story)) && is_empty (known scenario story)) e

  pub coordinator_armed : false ≡ is_down (coord_past story) → true ≡ is_some (Coordinator.trip (coord_past story)) → false ≡ coordinator_rests scenario story
  coordinator_armed up e = ap₂ (λ a b. not a && b && is_empty (known scenario story)) up (none_where (Coordinator.trip (coord_past story)) e)

  pub coordinator_quiet : (tids : List Tid) → false ≡ is_down (coord_past story) → false ≡ is_some (Coordinator.trip (coord_past story)) → tids ≡ known scenario story → is_empty tids ≡ coordinator_rests scenario story
  coordinator_quiet tids up e all =
      ap (λ (ts : List Tid). is_empty ts) all ∙ ap₂ (λ a b. not a && b && is_empty (known scenario story)) up (none_so (Coordinator.trip (coord_past story)) e)
