-- How far the setting up of the sites came: the first ones are set up on their disks, and nothing is on any other.
use Rattle.std.proofs.Common.{◌≡◌, ℕ, ◌+◌, ◌<◌, Bool, Some, List, [], ◌∷◌, ◌++◌, length, take, drop, slice_get, slice_set, inl, inr, refl, sym, ◌∙◌, ap, subst, arith}
use Rattle.std.proofs.lemmas.List.{length_push, take_all}
use Rattle.std.proofs.lemmas.Option.{slice_get_within}
use Rattle.mdb_base.specs.declared.names.SiteId.{SiteId}
use Rattle.mdb_base.specs.Words.{Each}
use Rattle.mdb_base.proofs.ForCallers.{slice_get-one, slice_get-there}
use Rattle.order_laws.specs.Chains.{In}
use Rattle.order_laws.proofs.ForCallers.{each_from, slice_get-in}
use Rattle.fed_rules.specs.declared.scenario.Scenario.{Scenario}
use Rattle.fed_rules.specs.Disk.{empty_disk}
use Rattle.fed_rules.specs.Plans.{IsScenario}
use Rattle.fed_rules.specs.Scenarios.{home_of, sites}
use Rattle.fed_rules.specs.SitePast.{SitePast, set_up_calls}
use Rattle.fed_rules.specs.SiteRecords.{Home}
use Rattle.fed_rules.proofs.ForCallers.{its-site}
use Rattle.journal_disk.specs.Disk.{Seen}
use Rattle.any_engine.specs.declared.engine.AnyEngine.{AnyEngine}
use Rattle.any_engine.specs.Stands as Engines
use Rattle.local_dbms.specs.declared.dbms.LocalDbms.{LocalDbms}
use Rattle.local_dbms.specs.Stands as Dbms
use Rattle.local_dbms.specs.Stands.{OwnPrograms, own_programs}
use Rattle.site_core.specs.Store.{SomeStop}
use Rattle.session_routes.proofs.ForCallers.{get_other, get_put, snoc_before, snoc_get}
use Rattle.fed_world.proofs.SeatLines.{one_place}
use Rattle.fed_world.specs.SettingUp.{AreEmpty, AreSetUp, EmptyBut, IsSetUp, StopsForDisk, StopsForMemory}
use Rattle.fed_world.specs.Worlds.{DbmsStands}
use Rattle.fed_world.proofs.DeclaredSites.{declared_rise, site_home}
use Rattle.fed_world.proofs.Pairs.{front_and_rest, front_grows, front_item_rest, front_next, front_place}
use Rattle.fed_world.proofs.SeenDisks.{by_place, set_here, set_there}

-- each of these local database systems stands for no line of the site at its place
abbrev pub EachStands : Bool → List (LocalDbms AnyEngine) → List Seen → Scenario → Type 0
EachStands tells cores disks scenario =
    (place : ℕ) (site : SiteId) (home : Home) (dbms : LocalDbms AnyEngine) → slice_get (sites scenario) place ≡ Some site → home_of scenario site ≡ Some home → slice_get cores place ≡ Some dbms
    → DbmsStands tells disks dbms home (own_programs site scenario.transactions) []

-- so many sites are set up
pub record IsUpTo (tells : Bool) (cores : List (LocalDbms AnyEngine)) (disks : List Seen) (scenario : Scenario) (count : ℕ) : Type 0 where
  pub all : length cores ≡ count
  pub each : EachStands tells cores disks scenario
  pub empty : EmptyBut (take count (sites scenario)) disks

-- none is
pub none_up : (tells : Bool) (cores : List (LocalDbms AnyEngine)) (disks : List Seen) (scenario : Scenario) → cores ≡ [] → AreEmpty disks → IsUpTo tells cores disks scenario 0
none_up tells cores disks scenario none empty = record {
  all = ap (λ (ds : List (LocalDbms AnyEngine)). length ds) none;
  each = λ place site home dbms at declared got. (let nothing : slice_get [] place ≡ Some dbms = subst (λ (ds : List (LocalDbms AnyEngine)). slice_get ds place ≡ Some dbms) none got in cc);
  empty = λ place disk at apart. empty place disk at;
}

-- all are
pub all_up : (tells : Bool) (cores : List (LocalDbms AnyEngine)) (disks : List Seen) (scenario : Scenario) (count : ℕ) → IsUpTo tells cores disks scenario count → count ≡ length (sites scenario) → AreSetUp tells cores disks scenario
all_up tells cores disks scenario count up all = record {
  count = up.all ∙ all;
  each = up.each;
  empty = subst (λ (zs : List SiteId). EmptyBut zs disks) (take_all count (sites scenario) (omega (arith, all))) up.empty;
}

-- a site stands on where another disk changes
pub stays_there : (tells : Bool) (disks : List Seen) (number : ℕ) (new : Seen) (dbms : LocalDbms AnyEngine) (home : Home) (programs : OwnPrograms) (past : SitePast) → (home.site.0 ≡ number → ⊥)
    → DbmsStands tells disks dbms home programs past → DbmsStands tells (slice_set disks number new) dbms home programs past
stays_there tells disks number new dbms home programs past apart s = record { disk = s.disk; own = get_other disks number home.site.0 new apart ∙ s.own; holds = s.holds }

module _ (tells : Bool) (scenario : Scenario) (whole : IsScenario scenario) where
  -- the first sites stand on where the disk of the next one changes
  others_stay : (cores : List (LocalDbms AnyEngine)) (disks : List Seen) (n : ℕ) (site : SiteId) (new : Seen) → length cores ≡ n → EachStands tells cores disks scenario → slice_get (sites scenario) n ≡ Some site
      → EachStands tells cores (slice_set disks site.0 new) scenario
  others_stay cores disks n site new all each own place other home dbms at declared got =
      let less = slice_get_within cores place dbms got in
      let apart : home.site.0 ≡ site.0 → ⊥ = λ same.
      (let one = one_place (sites scenario) place n other site (declared_rise scenario whole) at own (ap (λ (z : SiteId). z.0) (sym (its-site scenario other home declared)) ∙ same) in
      omega (arith, less, all, one)) in
      stays_there tells disks site.0 new dbms home (own_programs other scenario.transactions) [] apart (each place other home dbms at declared got)

  -- one more site is set up on its disk
  pub one_more_up : (cores : List (LocalDbms AnyEngine)) (disks : List Seen) (n : ℕ) (site : SiteId) (old new : Seen) (dbms : LocalDbms AnyEngine) → IsUpTo tells cores disks scenario n
      → slice_get (sites scenario) n ≡ Some site → slice_get disks site.0 ≡ Some old
      → ((home : Home) → home_of scenario site ≡ Some home → Dbms.Stands Engines.Stands tells dbms new home (own_programs site scenario.transactions) [])
      → IsUpTo tells (cores ++ dbms ∷ []) (slice_set disks site.0 new) scenario (n + 1)
  one_more_up cores disks n site old new dbms up own there stood = record {
    all = (let size = length_push cores dbms in let all = up.all in omega (arith, size, all));
    each = each;
    empty = λ place disk at apart. by_place (disk.size ≡ 0) place site.0
        (λ here. absurd (apart (subst (λ (z : SiteId). In z (take (n + 1) (sites scenario))) (ap (λ k. record { 0 = k }) (sym here)) (front_next n (sites scenario) site own))))
        (λ elsewhere. up.empty place disk (set_there disks site.0 place new disk elsewhere at) (λ i. apart (front_grows n (sites scenario) (record { 0 = place }) i)));
  }
    where
      mine : (home : Home) → home_of scenario site ≡ Some home → DbmsStands tells (slice_set disks site.0 new) dbms home (own_programs site scenario.transactions) []
      mine home declared = record {
        disk = new;
        own = subst (λ (z : SiteId). slice_get (slice_set disks site.0 new) z.0 ≡ Some new) (sym (its-site scenario site home declared)) (get_put disks site.0 new (slice_get_within disks site.0 old there));
        holds = stood home declared;
      }

      each : EachStands tells (cores ++ dbms ∷ []) (slice_set disks site.0 new) scenario
      each place other home d at declared got =
          by_place (DbmsStands tells (slice_set disks site.0 new) d home (own_programs other scenario.transactions) []) place n
          (λ here.
          let same : site ≡ other = slice_get-one (sites scenario) place site other (subst (λ p. slice_get (sites scenario) p ≡ Some site) (sym here) own) at in
          let one : dbms ≡ d = slice_get-one (cores ++ dbms ∷ []) place dbms d (snoc_get cores dbms place (here ∙ sym up.all)) got in
          subst (λ (z : LocalDbms AnyEngine). DbmsStands tells (slice_set disks site.0 new) z home (own_programs other scenario.transactions) []) one
          (subst (λ (z : SiteId). DbmsStands tells (slice_set disks site.0 new) dbms home (own_programs z scenario.transactions) []) same (mine home (ap (home_of scenario) same ∙ declared))))
          (λ elsewhere.
          let most = slice_get_within (cores ++ dbms ∷ []) place d got in
          let size = length_push cores dbms in
          let all = up.all in
          let less : place < length cores = omega (arith, most, size, all, elsewhere) in
          others_stay cores disks n site new up.all up.each own place other home d at declared (sym (snoc_before cores dbms place less) ∙ got))

  -- the first sites, each of them
  first_ones : (cores : List (LocalDbms AnyEngine)) (disks : List Seen) (n : ℕ) → length cores ≡ n → EachStands tells cores disks scenario → Each (IsSetUp tells disks scenario) (take n (sites scenario))
  first_ones cores disks n all each =
      each_from (IsSetUp tells disks scenario) (take n (sites scenario)) (λ site i.
      let (place, less, at) = front_place n (sites scenario) site i in
      let (home, declared) = site_home scenario site (slice_get-in (sites scenario) place site at) in
      let (dbms, got) = slice_get-there cores place (omega (arith, less, all)) in
      record { home = home; declared = declared; dbms = dbms; stood = each place site home dbms at declared got })

  -- want of memory at a site leaves its disk empty
  pub stops_for_memory : (cores : List (LocalDbms AnyEngine)) (disks : List Seen) (n : ℕ) (site : SiteId) (old new : Seen) → IsUpTo tells cores disks scenario n → slice_get (sites scenario) n ≡ Some site
      → slice_get disks site.0 ≡ Some old → new.size ≡ 0 → StopsForMemory tells (slice_set disks site.0 new) scenario
  stops_for_memory cores disks n site old new up own there none = record {
    done = take n (sites scenario);
    left = drop n (sites scenario);
    all = front_and_rest n (sites scenario);
    set_up = first_ones cores (slice_set disks site.0 new) n up.all (others_stay cores disks n site new up.all up.each own);
    empty = λ place disk at apart. by_place (disk.size ≡ 0) place site.0
        (λ here. sym (ap (λ (d : Seen). d.size) (set_here disks site.0 old new disk there (subst (λ k. slice_get (slice_set disks site.0 new) k ≡ Some disk) here at))) ∙ none)
        (λ elsewhere. up.empty place disk (set_there disks site.0 place new disk elsewhere at) apart);
  }

  -- a failed disk call leaves there what some stop within the set-up leaves
  pub stops_for_disk : (cores : List (LocalDbms AnyEngine)) (disks : List Seen) (n : ℕ) (site : SiteId) (old new : Seen) → IsUpTo tells cores disks scenario n → slice_get (sites scenario) n ≡ Some site
      → slice_get disks site.0 ≡ Some old → ((home : Home) → home_of scenario site ≡ Some home → SomeStop new.image empty_disk (set_up_calls home)) → StopsForDisk site.0 tells (slice_set disks site.0 new) scenario
  stops_for_disk cores disks n site old new up own there stop =
      let (home, declared) = site_home scenario site (slice_get-in (sites scenario) n site own) in
      let same : home.site ≡ site = its-site scenario site home declared in
      record {
        done = take n (sites scenario);
        left = drop (n + 1) (sites scenario);
        home = home;
        number_is = ap (λ (z : SiteId). z.0) (sym same);
        declared = ap (home_of scenario) same ∙ declared;
        all = front_item_rest n (sites scenario) home.site (own ∙ ap (λ (z : SiteId). Some z) (sym same));
        set_up = first_ones cores (slice_set disks site.0 new) n up.all (others_stay cores disks n site new up.all up.each own);
        disk = new;
        own = get_put disks site.0 new (slice_get_within disks site.0 old there);
        stop = stop home declared;
        empty = λ place disk at apart. by_place (disk.size ≡ 0) place site.0
            (λ here. absurd (apart (inl (same ∙ ap (λ k. record { 0 = k }) (sym here)))))
            (λ elsewhere. up.empty place disk (set_there disks site.0 place new disk elsewhere at) (λ i. apart (inr i)));
      }

-- want of memory before any site is set up
pub stops_at_once : (tells : Bool) (disks : List Seen) (scenario : Scenario) → AreEmpty disks → StopsForMemory tells disks scenario
stops_at_once tells disks scenario empty = record { done = []; left = sites scenario; all = refl; set_up = tt; empty = λ place disk at apart. empty place disk at }
