-- The sites go on from their journals one after another.
use Rattle.std.proofs.Common.{◌≡◌, ◌<◌, ◌+◌, ℕ, Bool, Some, List, [], ◌∷◌, ◌++◌, length, map, sym, ◌∙◌, ap, subst, arith}
use Rattle.std.specs.Prelude.{slice_get, slice_set}
use Rattle.std.proofs.lemmas.Option.{slice_get_within}
use Rattle.mdb_base.specs.declared.names.SiteId.{SiteId}
use Rattle.mdb_base.specs.Rising.{IsRising}
use Rattle.mdb_base.specs.Words.{first_where}
use Rattle.std.proofs.lemmas.List.{length_push}
use Rattle.mdb_base.proofs.ForCallers.{slice_get-one}
use Rattle.fed_rules.specs.declared.records.SiteRecord.{SiteRecord}
use Rattle.fed_rules.specs.declared.scenario.Scenario.{Scenario}
use Rattle.fed_rules.specs.declared.scenario.SiteLine.{SiteLine}
use Rattle.fed_rules.specs.Found.{Found, Journal}
use Rattle.fed_rules.specs.Plans.{IsScenario, declares}
use Rattle.fed_rules.specs.Reopened.{opened_site}
use Rattle.fed_rules.specs.Resumed.{plan_of}
use Rattle.fed_rules.specs.Scenarios.{home_of, items_of, protocols_in, sites}
use Rattle.fed_rules.specs.SiteRecords.{Home}
use Rattle.journal_disk.specs.Disk.{Image, Seen}
use Rattle.any_engine.specs.declared.engine.AnyEngine.{AnyEngine}
use Rattle.any_engine.specs.Stands as Engines
use Rattle.local_dbms.specs.declared.dbms.LocalDbms.{LocalDbms}
use Rattle.local_dbms.specs.Found.{found_programs}
use Rattle.local_dbms.specs.Stands as Dbms
use Rattle.local_dbms.specs.Stands.{home_from}
use Rattle.site_core.specs.Found as Site
use Rattle.session_routes.proofs.ForCallers.{get_other, get_put, snoc_before, snoc_get}
use Rattle.world_recovery.specs.Reopening.{AreBack, EachBack, GoesBack}
use Rattle.fed_world.specs.Worlds.{OnDisk}
use Rattle.fed_world.proofs.ForCallers.{by_place, declared_rise, line_home, one_place}

-- so many sites went back
pub record AreBackTo (tells : Bool) (cores : List (LocalDbms AnyEngine)) (disks : List Seen) (found : Found) (count : ℕ) : Type 0 where
  pub all : length cores ≡ count
  pub each : EachBack tells cores disks found

-- none did
pub none_back : (tells : Bool) (cores : List (LocalDbms AnyEngine)) (disks : List Seen) (found : Found) → cores ≡ [] → AreBackTo tells cores disks found 0
none_back tells cores disks found none = record {
  all = ap (λ (ds : List (LocalDbms AnyEngine)). length ds) none;
  each = λ place site dbms at got. (let nothing : slice_get [] place ≡ Some dbms = subst (λ (ds : List (LocalDbms AnyEngine)). slice_get ds place ≡ Some dbms) none got in cc);
}

-- all did
pub all_back : (tells : Bool) (cores : List (LocalDbms AnyEngine)) (disks : List Seen) (found : Found) (count : ℕ) → AreBackTo tells cores disks found count → count ≡ length (sites (plan_of found))
    → AreBack tells cores disks found
all_back tells cores disks found count back all = record { count = back.all ∙ all; each = back.each }

module _ (scenario : Scenario) (whole : IsScenario scenario) (found : Found) (same : scenario.sites ≡ (plan_of found).sites) where
  -- the declared sites are those of what is found
  pub sites_same : sites scenario ≡ sites (plan_of found)
  sites_same = ap (λ (lines : List SiteLine). map (λ p. p.site) (protocols_in lines)) same

  rise : IsRising (λ (z : SiteId). z.0) (sites (plan_of found))
  rise = subst (λ (zs : List SiteId). IsRising (λ (z : SiteId). z.0) zs) sites_same (declared_rise scenario whole)

  -- the line of a site has its rule
  pub same_rule : (site : SiteId) (line : SiteLine) (home : Home) → first_where (declares site) scenario.sites ≡ Some line → home_of (plan_of found) site ≡ Some home → home.engine ≡ line.engine
  same_rule site line home is declared =
      let lines : first_where (declares site) (plan_of found).sites ≡ Some line = sym (ap (λ (ls : List SiteLine). first_where (declares site) ls) same) ∙ is in
      let one : Some home ≡ Some (home_from line (items_of (plan_of found).items site)) = sym declared ∙ line_home (plan_of found).sites (plan_of found).items site line lines in
      let alike : home ≡ home_from line (items_of (plan_of found).items site) = cc in
      ap (λ (h : Home). h.engine) alike

  module _ (tells : Bool) (cores : List (LocalDbms AnyEngine)) (disks : List Seen) (n : ℕ) (site : SiteId) (old new : Seen) (own : slice_get (sites (plan_of found)) n ≡ Some site)
      (there : slice_get disks site.0 ≡ Some old) (back : AreBackTo tells cores disks found n) where
    -- the first ones stand on where the disk of the next one changes
    others_stay : EachBack tells cores (slice_set disks site.0 new) found
    others_stay place other dbms at got =
        let less = slice_get_within cores place dbms got in
        let all = back.all in
        let apart : other.0 ≡ site.0 → ⊥ = λ one. (let here = one_place (sites (plan_of found)) place n other site rise at own one in omega (arith, less, all, here)) in
        let o = back.each place other dbms at got in
        record { disk = o.disk; own = get_other disks site.0 other.0 new apart ∙ o.own; holds = o.holds }

    -- one more went back
    pub one_more_back : (dbms : LocalDbms AnyEngine) → new.image ≡ old.image
        → ((home : Home) (journal : Journal SiteRecord) → home_of (plan_of found) site ≡ Some home → Site.IsFoundOn old.image home journal
        → Dbms.Stands Engines.Stands tells dbms new home (found_programs journal.records) (opened_site journal))
        → AreBackTo tells (cores ++ dbms ∷ []) (slice_set disks site.0 new) found (n + 1)
    one_more_back dbms image stood = record {
      all = (let size = length_push cores dbms in let all = back.all in omega (arith, size, all));
      each = each;
    }
      where
        mine : OnDisk (slice_set disks site.0 new) site.0 (GoesBack tells dbms found site)
        mine = record {
          disk = new;
          own = get_put disks site.0 new (slice_get_within disks site.0 old there);
          holds = λ home journal declared on. stood home journal declared (subst (λ (i : Image). Site.IsFoundOn i home journal) image on);
        }

        each : EachBack tells (cores ++ dbms ∷ []) (slice_set disks site.0 new) found
        each place other d at got =
            by_place (OnDisk (slice_set disks site.0 new) other.0 (GoesBack tells d found other)) place n
            (λ here.
            let one_site : site ≡ other = slice_get-one (sites (plan_of found)) place site other (subst (λ p. slice_get (sites (plan_of found)) p ≡ Some site) (sym here) own) at in
            let one : dbms ≡ d = slice_get-one (cores ++ dbms ∷ []) place dbms d (snoc_get cores dbms place (here ∙ sym back.all)) got in
            subst (λ (z : LocalDbms AnyEngine). OnDisk (slice_set disks site.0 new) other.0 (GoesBack tells z found other)) one
            (subst (λ (z : SiteId). OnDisk (slice_set disks site.0 new) z.0 (GoesBack tells dbms found z)) one_site mine))
            (λ elsewhere.
            let most = slice_get_within (cores ++ dbms ∷ []) place d got in
            let size = length_push cores dbms in
            let all = back.all in
            let less : place < length cores = omega (arith, most, size, all, elsewhere) in
            others_stay place other d at (sym (snoc_before cores dbms place less) ∙ got))
