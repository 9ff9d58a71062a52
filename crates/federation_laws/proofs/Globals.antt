-- A global member of a site's order: it did there what its program says, and its Commit record has the ticket of its Prepared record.
use Rattle.std.proofs.Common.{◌≡◌, ℕ, zero, suc, ◌≤◌, Bool, true, false, cond, ◌||◌, Option, Some, None, List, [], ◌∷◌, drop, length, refl, sym, ap, subst, ◌∙◌, arith}
use Rattle.mdb_base.specs.declared.acts.Step.{Step}
use Rattle.mdb_base.specs.declared.names.SiteId.{SiteId}
use Rattle.mdb_base.specs.declared.names.Tid.{Tid}
use Rattle.mdb_base.specs.Names.{same_site, same_tid}
use Rattle.mdb_base.specs.Words.{item_at}
use Rattle.mdb_base.proofs.ForCallers.{item_at-below, same_site-equal, same_site-refl}
use Rattle.order_laws.specs.Chains.{In}
use Rattle.order_laws.specs.Orders.{is_in}
use Rattle.order_laws.proofs.ForCallers.{each_at, in_is_true, tells_tids}
use Rattle.fed_rules.specs.declared.commands.Command.{Command}
use Rattle.fed_rules.specs.declared.messages.FromSite.TheVariants as From
use Rattle.fed_rules.specs.declared.messages.ToSite.TheVariants as To
use Rattle.fed_rules.specs.declared.scenario.Scenario.{Scenario}
use Rattle.fed_rules.specs.CoordPast as Coordinator
use Rattle.fed_rules.specs.CoordPast.{CoordPast, program, visits, counted}
use Rattle.fed_rules.specs.Orders.{is_committed, records_at, records_of, order_at, reads_at}
use Rattle.fed_rules.specs.Plans.{IsScenario}
use Rattle.fed_rules.specs.Scenarios.{home_of, home_at, local_site, program_of}
use Rattle.fed_rules.specs.SitePast.{records}
use Rattle.fed_rules.specs.SiteRecords.{Home}
use Rattle.fed_rules.specs.Story.{Story, coord_past, past_of, sent_from, sent_to, story_of}
use Rattle.site_history.specs.Accesses.{acts_at}
use Rattle.federation_laws.specs.Accesses.{SiteAccess, at, Follows, Ran}
use Rattle.federation_laws.specs.Parts.{IsAgreed, IsByProgram}
use Rattle.site_history.specs.Records.{IsPrepared}
use Rattle.federation_laws.proofs.Agreement.{IsSaid, has_sealed}
use Rattle.federation_laws.proofs.Asked.{IsOld, IsAskedVote}
use Rattle.federation_laws.proofs.CommitOnce.{votes-sent}
use Rattle.coord_laws.proofs.ForCallers.{commit_node}
use Rattle.federation_laws.proofs.CoordHolds.{Finished}
use Rattle.federation_laws.proofs.CoordOps.{ops, accesses, agree-steps, agree-reads, at-granted}
use Rattle.federation_laws.proofs.Declared.{undeclared}
use Rattle.federation_laws.proofs.Dues.{steps_of}
use Rattle.federation_laws.proofs.Members.{prepared-member, prepared-sealed}
use Rattle.federation_laws.proofs.StoryGlobals.{StoryHolds, story-holds, declared-program, story-agrees}
use Rattle.federation_laws.proofs.Told.{home_is-site, home-again}

-- where no site has a step left, all steps are done
none-left : (program : List Step) (n : ℕ) → ((s : SiteId) → visits s program ≡ true → visits s (drop n program) ≡ false) → length program ≤ n
none-left program n h = of_rest (drop n program) refl
  where
    longer : (n : ℕ) (steps : List Step) → drop n steps ≡ [] → length steps ≤ n
    longer zero [] e = omega arith
    longer zero (step ∷ steps) e = cc
    longer (suc n) [] e = omega arith
    longer (suc n) (step ∷ steps) e = let k = longer n steps e in omega (arith, k)

    second : (a b : Bool) → b ≡ true → (a || b) ≡ true
    second true b e = refl
    second false b e = e

    dropped : (n : ℕ) (steps : List Step) (s : SiteId) → visits s (drop n steps) ≡ true → visits s steps ≡ true
    dropped zero steps s v = v
    dropped (suc n) [] s v = v
    dropped (suc n) (step ∷ steps) s v = second (same_site step.site s) (visits s steps) (dropped n steps s v)

    first : (step : Step) (steps : List Step) → visits step.site (step ∷ steps) ≡ true
    first step steps = ap (λ t. t || visits step.site steps) (same_site-refl step.site)

    of_rest : (rest : List Step) → drop n program ≡ rest → length program ≤ n
    of_rest [] e = longer n program e
    of_rest (step ∷ steps) e =
        let here : visits step.site (drop n program) ≡ true = ap (visits step.site) e ∙ first step steps in
        absurd (let gone = h step.site (dropped n program step.site here) in let clash = sym here ∙ gone in cc)

-- accesses that follow a program are no more than its steps
pub follows-below : (program : List Step) (xs : List SiteAccess) → Follows program xs → length xs ≤ length program
follows-below program [] f = omega arith
follows-below program (x ∷ xs) f = let k = item_at-below program (length xs) f.0.step f.0.place in omega (arith, k)

equal-by : (a b : ℕ) → a ≤ b → b ≤ a → a ≡ b
equal-by a b le ge = omega (arith, le, ge)

-- an item at a place is one of the list
at-visits : (program : List Step) (n : ℕ) (step : Step) (s : SiteId) → item_at program n ≡ Some step → step.site ≡ s → visits s program ≡ true
at-visits [] n step s e h = cc
at-visits (x ∷ program) zero step s e h = (let same : x ≡ step = cc in ap (λ t. t || visits s program) (ap (λ (y : Step). same_site y.site s) same ∙ (ap (λ z. same_site z s) h ∙ same_site-refl s)))
at-visits (x ∷ program) (suc n) step s e h = second (same_site x.site s) (visits s program) (at-visits program n step s e h)
  where
    second : (a b : Bool) → b ≡ true → (a || b) ≡ true
    second true b e = refl
    second false b e = e

-- of a site that the program doesn't visit there are no accesses
pub unvisited-none : (program : List Step) (xs : List SiteAccess) (s : SiteId) → Follows program xs → visits s program ≡ false → at s xs ≡ []
unvisited-none program [] s f v = refl
unvisited-none program (x ∷ xs) s f v = by_test (same_site x.site s) refl (unvisited-none program xs s f.1 v)
  where
    by_test : (t : Bool) → same_site x.site s ≡ t → at s xs ≡ [] → cond t (x.access ∷ at s xs) (at s xs) ≡ []
    by_test true q h =
        let here : f.0.step.site ≡ s = f.0.site ∙ same_site-equal x.site s q in
        let yes = at-visits program (length xs) f.0.step s f.0.place here in let clash = sym yes ∙ v in cc
    by_test false q h = h

-- a committed global attempt did the whole of its program
global-ran : (scenario : Scenario) → IsScenario scenario → (commands : List Command) (g : Tid) → is_committed (story_of scenario commands) g ≡ true → Ran (program_of scenario g.tx) (accesses (ops (coord_past (story_of scenario commands)) g))
global-ran scenario good commands g commit =
    let past = coord_past (story_of scenario commands) in
    let h = story-holds scenario good commands g in
    let f = h.holds.committed commit in
    let follows = h.holds.follows f.alive in
    let same = (h.programmed f.known).0 in
    let count = agree-steps (counted past g) (ops past g) (h.holds.agree f.alive) in
    let most = none-left (program past g) (steps_of (counted past g)) (λ s v. (f.all s v).left) in
    let less = follows-below (program past g) (accesses (ops past g)) follows in
    record {
      follows = subst (λ steps. Follows steps (accesses (ops past g))) same follows;
      whole = subst (λ steps. length (accesses (ops past g)) ≡ length steps) same (equal-by (length (accesses (ops past g))) (length (program past g)) less (omega (arith, most, count)));
    }

-- its Commit record has the ticket with which it is prepared at each site of its program
pub global-agreed : (scenario : Scenario) → IsScenario scenario → (commands : List Command) (home : Home) (g : Tid) → home_of scenario home.site ≡ Some home → local_site scenario g.tx ≡ None → is_committed (story_of scenario commands) g ≡ true
    → visits home.site (program (coord_past (story_of scenario commands)) g) ≡ true → IsAgreed scenario (story_of scenario commands) home.site g
global-agreed scenario good commands home g declared none commit visited =
    let story = story_of scenario commands in
    let (node, kept, theirs) = commit_node (Coordinator.records (coord_past story)) g commit in
    let voted = (votes-sent scenario good commands).nodes node kept home.site (subst (λ t. visits home.site (program (coord_past story) t) ≡ true) (sym theirs) visited) in
    let a = story-agrees scenario good commands home g declared none in
    let said = each_at (IsSaid home (past_of home.site story) g) (From.Vote g (Some voted.0)) (sent_from home.site story) a.said (subst (λ t. In (From.Vote t (Some voted.0)) (sent_from home.site story)) theirs voted.2) refl in
    record {
      ticket = voted.0;
      prepared = subst (λ rs. IsPrepared rs g voted.0) (sym (ap (λ o. records_at o story) declared)) said;
      commit = node;
      kept = kept;
      theirs = theirs;
      named = voted.1;
    }

-- a prepared attempt's program has a step at the site
pub prepared-visits : (scenario : Scenario) → IsScenario scenario → (commands : List Command) (home : Home) (g : Tid) (ticket : ℕ) → home_of scenario home.site ≡ Some home → local_site scenario g.tx ≡ None → is_committed (story_of scenario commands) g ≡ true
    → IsPrepared (records home (past_of home.site (story_of scenario commands))) g ticket → visits home.site (program (coord_past (story_of scenario commands)) g) ≡ true
prepared-visits scenario good commands home g ticket declared none commit p =
    let story = story_of scenario commands in
    let a = story-agrees scenario good commands home g declared none in
    let h = story-holds scenario good commands g in
    let s = a.sealed (prepared-sealed home (past_of home.site story) g ticket p) in
    let old : IsAskedVote (program (coord_past story) g) (counted (coord_past story) g) home.site s.e s.n =
    each_at (IsOld g (program (coord_past story) g) (counted (coord_past story) g) home.site) (To.Prepare g s.e s.n) (sent_to home.site story) (a.asked.old (h.holds.committed commit).alive) s.asked refl in
    old.visited

-- a committed attempt stands in the order of each site that its program visits
pub visited-member : (scenario : Scenario) → IsScenario scenario → (commands : List Command) (site : SiteId) (g : Tid) → local_site scenario g.tx ≡ None → is_committed (story_of scenario commands) g ≡ true
    → visits site (program (coord_past (story_of scenario commands)) g) ≡ true → In g (order_at scenario (story_of scenario commands) site)
visited-member scenario good commands site g none commit v = by_home (home_of scenario site) refl
  where
    by_home : (o : Option Home) → home_of scenario site ≡ o → In g (order_at scenario (story_of scenario commands) site)
    by_home None e = absurd (undeclared scenario.sites scenario.items site e (declared-program scenario good (story_of scenario commands) g (story-holds scenario good commands g) site v))
    by_home (Some home) e =
        let same = home_is-site scenario site home e in
        let agreed = global-agreed scenario good commands home g (home-again scenario site home e) none commit (subst (λ z. visits z (program (coord_past (story_of scenario commands)) g) ≡ true) (sym same) v) in
        let member = prepared-member (is_committed (story_of scenario commands)) (records_of scenario (story_of scenario commands) home.site) g agreed.ticket commit agreed.prepared in
        subst (λ z. In g (order_at scenario (story_of scenario commands) z)) same member

-- a committed global attempt follows its program
pub global-program : (scenario : Scenario) → IsScenario scenario → (commands : List Command) (g : Tid) → local_site scenario g.tx ≡ None → is_committed (story_of scenario commands) g ≡ true
    → ((site : SiteId) (home : Home) → home_of scenario site ≡ Some home → In g (order_at scenario (story_of scenario commands) site) → has_sealed (past_of site (story_of scenario commands)) g ≡ true)
    → IsByProgram scenario (story_of scenario commands) g
global-program scenario good commands g none commit sealed =
    record {
      accesses = did;
      ran = global-ran scenario good commands g commit;
      reads = sym (agree-reads (counted past g) (ops past g) (h.holds.agree f.alive)) ∙ sym (ap (λ o. reads_at (home_at scenario o) story g) none);
      here = here;
      elsewhere = elsewhere;
    }
  where
    story : Story
    story = story_of scenario commands

    past : CoordPast
    past = coord_past (story_of scenario commands)

    did : List SiteAccess
    did = accesses (ops (coord_past (story_of scenario commands)) g)

    h : StoryHolds scenario (story_of scenario commands) g
    h = story-holds scenario good commands g

    f : Finished (coord_past (story_of scenario commands)) g
    f = (story-holds scenario good commands g).holds.committed commit

    here : (site : SiteId) (home : Home) → home_of scenario site ≡ Some home → In g (order_at scenario (story_of scenario commands) site) → at site (accesses (ops (coord_past (story_of scenario commands)) g)) ≡ acts_at home (past_of site (story_of scenario commands)) g
    here site home declared i =
        let same = home_is-site scenario site home declared in
        let a = story-agrees scenario good commands home g (home-again scenario site home declared) none in
        let s = a.sealed (subst (λ z. has_sealed (past_of z (story_of scenario commands)) g ≡ true) (sym same) (sealed site home declared i)) in
        let equal : at home.site (accesses (ops (coord_past (story_of scenario commands)) g)) ≡ acts_at home (past_of home.site (story_of scenario commands)) g =
        at-granted home.site (ops (coord_past (story_of scenario commands)) g) ∙ sym (s.same ((story-holds scenario good commands g).holds.committed commit).alive) in
        subst (λ z. at z (accesses (ops (coord_past (story_of scenario commands)) g)) ≡ acts_at home (past_of z (story_of scenario commands)) g) same equal

    elsewhere : (site : SiteId) → is_in same_tid (order_at scenario (story_of scenario commands) site) g ≡ false → at site (accesses (ops (coord_past (story_of scenario commands)) g)) ≡ []
    elsewhere site out = unvisited-none (program (coord_past (story_of scenario commands)) g) _ site ((story-holds scenario good commands g).holds.follows ((story-holds scenario good commands g).holds.committed commit).alive) (by_visit (visits site (program (coord_past (story_of scenario commands)) g)) refl)
      where
        by_visit : (t : Bool) → visits site (program (coord_past (story_of scenario commands)) g) ≡ t → visits site (program (coord_past (story_of scenario commands)) g) ≡ false
        by_visit true v =
            let inside = in_is_true same_tid tells_tids (order_at scenario (story_of scenario commands) site) g (visited-member scenario good commands site g none commit v) in
            absurd (let clash = sym inside ∙ out in cc)
        by_visit false v = v
