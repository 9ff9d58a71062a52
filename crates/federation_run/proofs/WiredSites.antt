-- The sites of a run are given their rings one after another.
use Rattle.std.proofs.Common.{◌≡◌, Bool, ℕ, zero, suc, ◌+◌, ◌<◌, ◌⊎◌, inl, inr, Some, List, [], ◌∷◌, ◌++◌, length, drop, slice_get, slice_index_or, refl, sym, ap, ◌∙◌, subst, arith}
use Rattle.std.proofs.lemmas.List.{length-append, length-drop}
use Rattle.std.proofs.lemmas.Option.{slice_get_within}
use Rattle.mdb_base.specs.declared.names.SiteId.{SiteId}
use Rattle.mdb_base.proofs.ForCallers.{slice_get-one}
use Rattle.fed_rules.specs.declared.scenario.Scenario.{Scenario}
use Rattle.fed_rules.specs.Scenarios.{global_program, sites}
use Rattle.journal_disk.specs.Disk.{Seen}
use Rattle.any_engine.specs.declared.engine.AnyEngine.{AnyEngine}
use Rattle.conservative_take.specs.declared.any_policy.AnyPolicy.{AnyPolicy}
use Rattle.global_manager.specs.declared.manager.GlobalManager.{GlobalManager}
use Rattle.local_dbms.specs.declared.dbms.LocalDbms.{LocalDbms}
use Rattle.fed_world.specs.Asks.{terms_of}
use Rattle.fed_world.specs.Worlds.{ManagerStands}
use Rattle.fed_world.proofs.ForCallers.{has_item}
use Rattle.fed_hosts.specs.declared.ports.Port.{Port}
use Rattle.federation_run.specs.declared.wired.WiredActors.{WiredActors}
use Rattle.federation_run.specs.declared.wired.WiredSite.{WiredSite}
use Rattle.federation_run.specs.Wired.{AreFreshActors, AreWired, AreWiredActors, IsStood, IsWired}
use Rattle.federation_run.specs.Plans.{stops_in}
use Rattle.federation_run.proofs.Places.{before_or_last}
use Rattle.federation_run.proofs.Rooms.{some_rest}

-- so many sites have their rings, and the local database systems of the others are left
pub record AreWiredTo (scenario : Scenario) (sites : List SiteId) (cores rest : List (LocalDbms AnyEngine)) (index : ℕ) (wired_sites : List WiredSite) (ports : List Port) : Type 0 where
  pub rest_is : rest ≡ drop index cores
  pub wired_count : length wired_sites ≡ index
  pub ports_count : length ports ≡ index
  pub each : (place : ℕ) (site : SiteId) (dbms : LocalDbms AnyEngine) (wired : WiredSite) (port : Port) → slice_get sites place ≡ Some site → slice_get cores place ≡ Some dbms
      → slice_get wired_sites place ≡ Some wired → slice_get ports place ≡ Some port → IsWired scenario site dbms wired port

-- none has its rings yet
pub wired_none : (scenario : Scenario) (sites : List SiteId) (cores : List (LocalDbms AnyEngine)) (wired_sites : List WiredSite) (ports : List Port) → wired_sites ≡ [] → ports ≡ [] → AreWiredTo scenario sites cores cores 0 wired_sites ports
wired_none scenario sites cores wired_sites ports no_wired no_port = record {
  rest_is = refl;
  wired_count = ap (λ (bs : List WiredSite). length bs) no_wired;
  ports_count = ap (λ (ps : List Port). length ps) no_port;
  each = λ place site dbms wired port at dat bat pat. (let nothing : slice_get [] place ≡ Some wired = subst (λ (bs : List WiredSite). slice_get bs place ≡ Some wired) no_wired bat in cc);
}

-- the local database system of the next site is left
pub rest_some : (scenario : Scenario) (sites : List SiteId) (cores rest : List (LocalDbms AnyEngine)) (index : ℕ) (wired_sites : List WiredSite) (ports : List Port) (len : ℕ) → length cores ≡ length sites → index < length sites
    → AreWiredTo scenario sites cores rest index wired_sites ports → len ≡ length rest → 0 < len
rest_some scenario sites cores rest index wired_sites ports len same within m long =
    some_rest (length cores) (length sites) index (length rest) len same within (ap (λ (ls : List (LocalDbms AnyEngine)). length ls) m.rest_is ∙ length-drop index cores) long

-- the first item of the rest of a list, and what is left then
pub first_of_rest : {A : Type 0} (xs : List A) (i : ℕ) (x : A) → i < length xs → x ≡ slice_index_or (drop i xs) 0 x → slice_get xs i ≡ Some x
first_of_rest [] i x within is = absurd (omega (arith, within))
first_of_rest (y ∷ ys) zero x within is = ap (λ (z : _). Some z) (sym is)
first_of_rest (y ∷ ys) (suc i) x within is = first_of_rest ys i x (omega (arith, within)) is

pub rest_of_rest : {A : Type 0} (xs : List A) (i : ℕ) → i < length xs → drop 1 (drop i xs) ≡ drop (i + 1) xs
rest_of_rest [] i within = absurd (omega (arith, within))
rest_of_rest (y ∷ ys) zero within = refl
rest_of_rest {A} (y ∷ ys) (suc i) within =
    (let next : suc i + 1 ≡ suc (i + 1) = omega arith in subst (λ (n : ℕ). drop 1 (drop i ys) ≡ drop n (y ∷ ys)) (sym next) (rest_of_rest ys i (omega (arith, within))))

last_length : {A : Type 0} (xs : List A) (x : A) → length (xs ++ x ∷ []) ≡ length xs + 1
last_length xs x = length-append xs (x ∷ [])

-- one site more
pub wired_next : (scenario : Scenario) (sites : List SiteId) (cores rest now : List (LocalDbms AnyEngine)) (index : ℕ) (wired_sites wired_now : List WiredSite) (ports ports_now : List Port) (site : SiteId) (dbms : LocalDbms AnyEngine) (wired : WiredSite) (port : Port)
    → length cores ≡ length sites → index < length sites → AreWiredTo scenario sites cores rest index wired_sites ports → slice_get sites index ≡ Some site → dbms ≡ slice_index_or rest 0 dbms → now ≡ drop 1 rest
    → IsWired scenario site dbms wired port → wired_now ≡ wired_sites ++ wired ∷ [] → ports_now ≡ ports ++ port ∷ [] → AreWiredTo scenario sites cores now (index + 1) wired_now ports_now
wired_next scenario sites cores rest now index wired_sites wired_now ports ports_now site dbms wired port same within m there first now_is own wired_are ports_are = record {
  rest_is = now_is ∙ (ap (λ (ls : List (LocalDbms AnyEngine)). drop 1 ls) m.rest_is ∙ rest_of_rest cores index (omega (arith, within, same)));
  wired_count = ap (λ (bs : List WiredSite). length bs) wired_are ∙ (last_length wired_sites wired ∙ ap (λ (n : ℕ). n + 1) m.wired_count);
  ports_count = ap (λ (ps : List Port). length ps) ports_are ∙ (last_length ports port ∙ ap (λ (n : ℕ). n + 1) m.ports_count);
  each = λ place s d b p at dat bat pat. by_place place s d b p at dat
      (before_or_last wired_sites wired b place (subst (λ (bs : List WiredSite). slice_get bs place ≡ Some b) wired_are bat))
      (before_or_last ports port p place (subst (λ (ps : List Port). slice_get ps place ≡ Some p) ports_are pat));
}
  where
    core_at : slice_get cores index ≡ Some dbms
    core_at = first_of_rest cores index dbms (omega (arith, within, same)) (subst (λ (ls : List (LocalDbms AnyEngine)). dbms ≡ slice_index_or ls 0 dbms) m.rest_is first)

    by_place : (place : ℕ) (s : SiteId) (d : LocalDbms AnyEngine) (b : WiredSite) (p : Port) → slice_get sites place ≡ Some s → slice_get cores place ≡ Some d
        → (slice_get wired_sites place ≡ Some b) ⊎ ((place ≡ length wired_sites) × (wired ≡ b)) → (slice_get ports place ≡ Some p) ⊎ ((place ≡ length ports) × (port ≡ p)) → IsWired scenario s d b p
    by_place place s d b p at dat (inl bat) (inl pat) = m.each place s d b p at dat bat pat
    by_place place s d b p at dat (inl bat) (inr last) =
        (let w = slice_get_within wired_sites place b bat in let n = m.wired_count in let k = m.ports_count in let e = last.0 in absurd (omega (arith, w, n, k, e)))
    by_place place s d b p at dat (inr last) (inl pat) =
        (let w = slice_get_within ports place p pat in let n = m.wired_count in let k = m.ports_count in let e = last.0 in absurd (omega (arith, w, n, k, e)))
    by_place place s d b p at dat (inr one) (inr two) =
        let here : place ≡ index = one.0 ∙ m.wired_count in
        let sites_same : site ≡ s = slice_get-one sites index site s there (subst (λ (n : ℕ). slice_get sites n ≡ Some s) here at) in
        let cores_same : dbms ≡ d = slice_get-one cores index dbms d core_at (subst (λ (n : ℕ). slice_get cores n ≡ Some d) here dat) in
        subst (λ (z : SiteId). IsWired scenario z d b p) sites_same (subst (λ (z : LocalDbms AnyEngine). IsWired scenario site z b p) cores_same
        (subst (λ (z : WiredSite). IsWired scenario site dbms z p) one.1 (subst (λ (z : Port). IsWired scenario site dbms wired z) two.1 own)))

-- all sites
pub wired_all : (scenario : Scenario) (sites : List SiteId) (cores rest : List (LocalDbms AnyEngine)) (index : ℕ) (wired_sites : List WiredSite) (ports : List Port) → index ≡ length sites
    → AreWiredTo scenario sites cores rest index wired_sites ports → AreWired scenario sites cores wired_sites ports
wired_all scenario sites cores rest index wired_sites ports all m = record { wired_count = m.wired_count ∙ all; ports_count = m.ports_count ∙ all; each = m.each }

-- with their local database systems, and the coordinator with its stops, they are the wired actors
pub wired_actors : (tells : Bool) (disks : List Seen) (scenario : Scenario) (manager : GlobalManager AnyPolicy) (cores : List (LocalDbms AnyEngine)) (actors : WiredActors) → actors.manager ≡ manager → actors.stops.items ≡ stops_in scenario 0
    → AreWired scenario (sites scenario) cores actors.wired_sites.items actors.ports.items → AreFreshActors tells disks scenario manager cores → AreWiredActors tells disks scenario actors
wired_actors tells disks scenario manager cores actors manager_is stops_are m fresh = record {
  manager = subst (λ (g : GlobalManager AnyPolicy). ManagerStands tells disks g (terms_of scenario) (global_program scenario) []) (sym manager_is) fresh.coordinator;
  stops = stops_are;
  wired_count = m.wired_count;
  ports_count = m.ports_count;
  wired = λ place site wired at bat.
      (let dbms = has_item cores (sites scenario) place site fresh.count at in
      let port = has_item actors.ports.items (sites scenario) place site m.ports_count at in
      let one = m.each place site dbms.0 wired port.0 at dbms.1 bat port.1 in
      (one.stops, subst (λ (d : LocalDbms AnyEngine). IsStood tells disks scenario site d) (sym one.dbms_is) (fresh.each place site dbms.0 at dbms.1)));
  ringed = λ place site wired port at bat pat.
      (let dbms = has_item cores (sites scenario) place site fresh.count at in
      (m.each place site dbms.0 wired port at dbms.1 bat pat).rings);
  others = fresh.others;
}
