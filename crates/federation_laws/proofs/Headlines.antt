-- The headline holds of the story of any commands: its parts put together.
use Rattle.std.proofs.Common.{◌≡◌, Bool, cond, Option, Some, None, List, [], ◌∷◌, map, length, ◌<◌, true, false, inl, inr, refl, sym, ap, subst, ◌∙◌, arith}
use Rattle.mdb_base.specs.declared.acts.Step.{Step}
use Rattle.mdb_base.specs.declared.names.SiteId.{SiteId}
use Rattle.mdb_base.specs.declared.names.Tid.{Tid}
use Rattle.mdb_base.specs.Names.{same_tid, tid_before}
use Rattle.mdb_base.specs.Rows.{look_up}
use Rattle.mdb_base.specs.Words.{found, inserted, those, with_some}
use Rattle.order_laws.specs.Chains.{In}
use Rattle.order_laws.specs.Orders.{is_in}
use Rattle.order_laws.proofs.ForCallers.{each_at, merge_names, tells_tids, those_in}
use Rattle.fed_rules.specs.declared.commands.Command.{Command}
use Rattle.fed_rules.specs.declared.records.SiteRecord.{SiteRecord}
use Rattle.fed_rules.specs.declared.scenario.Scenario.{Scenario}
use Rattle.fed_rules.specs.Closing.{in_doubt_at, rising}
use Rattle.fed_rules.specs.CoordPast as Coordinator
use Rattle.fed_rules.specs.Headline.{Headline, HoldsCommitted, LeavesTables}
use Rattle.fed_rules.specs.Orders.{due_at, due_of, is_committed, order_at, orders, table_at, table_of, IsMerge, IsSerial}
use Rattle.fed_rules.specs.Plans.{IsScenario}
use Rattle.fed_rules.specs.Reports.{printed_order}
use Rattle.fed_rules.specs.Scenarios.{home_of, program_of}
use Rattle.fed_rules.specs.SitePast.{records}
use Rattle.fed_rules.specs.Attempts.{each_attempt}
use Rattle.fed_rules.specs.SiteRecords.{Home, Held, by_tid, doubt_of, doubts, held_before, prepared_tids, rows_after}
use Rattle.fed_rules.specs.Story.{Story, coord_past, past_of, story_of}
use Rattle.commit_laws.specs.Endings.{StoriesEndAlike, StoriesForgetExactly, StoriesAnswerInDoubt}
use Rattle.commit_laws.proofs.ForCallers.{begun_global, coord-sound, nowhere}
use Rattle.coord_laws.proofs.ForCallers.{commit_among, commit_mark}
use Rattle.site_history.specs.SiteOrders.{IsSerialPast}
use Rattle.site_history.specs.Stories.{OfSites}
use Rattle.engine_laws.proofs.ForCallers.{doubt_among}
use Rattle.federation_laws.specs.OneOrder.{AllAreOrdered, HasOneOrder, OneAttemptEach}
use Rattle.federation_laws.proofs.Declared.{member-declared, order-in, order-of}
use Rattle.federation_laws.proofs.ScenarioFacts.{global_program-is, program_fits}
use Rattle.federation_laws.proofs.SiteParts.{tells-outcomes}
use Rattle.federation_laws.proofs.Told.{home-again}
use Rattle.fed_rules.proofs.ForCallers.{in_each}

-- the members of each site's order stand in each merge
member_merged : (scenario : Scenario) (story : Story) (order : List Tid) → IsMerge scenario story order → (site : SiteId) (tid : Tid)
    → In tid (order_at scenario story site) → In tid order
member_merged scenario story order merge site tid i =
    let (home, declared) = member-declared scenario story site tid i in
    let ts = order_at scenario story site in
    let kept : those (is_in same_tid ts) order ≡ ts = each_at (λ us. those (is_in same_tid us) order ≡ us) ts (orders scenario story) merge.kept (order-in scenario story site home declared) in
    (those_in (is_in same_tid ts) tid order (subst (In tid) (sym kept) i)).0

-- a committed attempt is one of a global transaction, whose program has a step
committed_step : (scenario : Scenario) → IsScenario scenario → (commands : List Command) (tid : Tid) → is_committed (story_of scenario commands) tid ≡ true
    → (step : Step) × In step (program_of scenario tid.tx)
committed_step scenario good commands tid e =
    let s = coord-sound scenario nowhere tid commands in
    let kept = Coordinator.records (coord_past (story_of scenario commands)) in
    let (steps, is) = begun_global scenario tid commands (s.marked (commit_mark tid kept (commit_among tid kept e))).0 in
    let (first, i) = some_step steps (program_fits scenario tid.tx steps good is).some in
    (first, subst (In first) (sym (global_program-is scenario tid.tx steps is).0) i)
  where
    some_step : (steps : List Step) → 0 < length steps → (step : Step) × In step steps
    some_step [] less = absurd (omega (arith, less))
    some_step (step ∷ steps) less = (step, inl refl)

holds_committed : (scenario : Scenario) → IsScenario scenario → (commands : List Command) → AllAreOrdered scenario (story_of scenario commands)
    → (order : List Tid) → IsMerge scenario (story_of scenario commands) order → HoldsCommitted scenario (story_of scenario commands) order
holds_committed scenario good commands all order merge =
    record {
      locals = λ site tid number writes i. member_merged scenario (story_of scenario commands) order merge site tid (all.locals site tid number writes i);
      globals = λ tid commit.
          let (step, i) = committed_step scenario good commands tid commit in
          member_merged scenario (story_of scenario commands) order merge step.site tid (all.globals tid commit step i);
    }

-- two attempts of a merge that are of one transaction are one
one_of_each : (scenario : Scenario) (story : Story) → OneAttemptEach scenario story → (order : List Tid) → IsMerge scenario story order
    → (a b : Tid) → In a order → In b order → a.tx ≡ b.tx → a ≡ b
one_of_each scenario story each order merge a b i j same =
    let (ts, listed, here) = merge_names same_tid tells_tids (orders scenario story) order merge a i in
    let (us, other, there) = merge_names same_tid tells_tids (orders scenario story) order merge b j in
    let (site, e) = order-of scenario story ts listed in
    let (place, f) = order-of scenario story us other in
    each site place a b (subst (In a) (sym e) here) (subst (In b) (sym f) there) same

-- a list that is sorted into none is empty
none_inserted : {A : Type 0} (before : A → A → Bool) (x : A) (ys : List A) → inserted before x ys ≡ [] → ⊥
none_inserted before x [] e = cc
none_inserted before x (y ∷ ys) e = by_test (before y x) e where
  by_test : (b : Bool) → cond b (y ∷ inserted before x ys) (x ∷ y ∷ ys) ≡ [] → ⊥
  by_test true f = cc
  by_test false f = cc

pub none_rising : (tids : List Tid) → rising tids ≡ [] → tids ≡ []
none_rising [] e = refl
none_rising (tid ∷ tids) e = absurd (none_inserted tid_before tid (rising tids) e)

none_sorted : (helds : List Held) → by_tid helds ≡ [] → helds ≡ []
none_sorted [] e = refl
none_sorted (held ∷ helds) e = absurd (none_inserted held_before held (by_tid helds) e)

none_named : (helds : List Held) → map (λ held. held.tid) helds ≡ [] → helds ≡ []
none_named [] e = refl
none_named (held ∷ helds) e = cc

none_found : {A B : Type 0} (look : A → Option B) (xs : List A) (x : A) → found look xs ≡ [] → In x xs → look x ≡ None
none_found look [] x e i = absurd i
none_found {B = B} look (y ∷ ys) x e i = by_look (look y) refl e i (none_found look ys x) where
  by_look : (o : Option B) → look y ≡ o → with_some o (found look ys) ≡ [] → In x (y ∷ ys) → (found look ys ≡ [] → In x ys → look x ≡ None) → look x ≡ None
  by_look (Some b) f e i rest = cc
  by_look None f e (inl same) rest = subst (λ z. look z ≡ None) same f
  by_look None f e (inr j) rest = rest e j

-- where a site's list of doubts is empty, it is in doubt of no attempt
no_doubt : (rs : List SiteRecord) → rising (map (λ held. held.tid) (doubts rs)) ≡ [] → (tid : Tid) → doubt_of rs tid ≡ None
no_doubt rs none tid =
    let looked = none_sorted (found (doubt_of rs) (each_attempt (prepared_tids rs))) (none_named (doubts rs) (none_rising _ none)) in
    elim (doubt_among rs tid) [
      | inl i ↦ none_found (doubt_of rs) (each_attempt (prepared_tids rs)) tid looked (in_each (prepared_tids rs) tid i)
      | inr e ↦ e
    ]

-- what such a site is due is its table
due_is_table : OfSites IsSerialPast → (scenario : Scenario) (commands : List Command) (site : SiteId) (home : Home) → home_of scenario site ≡ Some home
    → in_doubt_at (home_of scenario site) (story_of scenario commands) ≡ []
    → due_of scenario (story_of scenario commands) site ≡ table_of scenario (story_of scenario commands) site
due_is_table serial scenario commands site home declared none =
    let story = story_of scenario commands in
    let rs = records home (past_of home.site story) in
    let free = no_doubt rs (sym (ap (λ o. in_doubt_at o story) declared) ∙ none) in
    let same = (serial scenario commands site home declared).all_settled (is_committed story) (tells-outcomes scenario commands home (home-again scenario site home declared)) (λ tid e. free tid) in
    ap (λ o. due_at o story) declared ∙ ap (rows_after home.items) same ∙ sym (ap (λ o. table_at o story) declared)

leaves_tables : OfSites IsSerialPast → (scenario : Scenario) (commands : List Command) (order : List Tid) → IsSerial scenario (story_of scenario commands) order
    → LeavesTables scenario (story_of scenario commands) order
leaves_tables serial scenario commands order gives site home declared none key =
    gives.tables site home declared key ∙ ap (λ rows. look_up rows key) (due_is_table serial scenario commands site home declared none)

-- what is proved of the order of all sites, and of how global attempts end, is the headline
pub headline : OfSites IsSerialPast → StoriesEndAlike → StoriesForgetExactly → StoriesAnswerInDoubt → (scenario : Scenario) → IsScenario scenario
    → (commands : List Command) → HasOneOrder scenario (story_of scenario commands) → AllAreOrdered scenario (story_of scenario commands)
    → OneAttemptEach scenario (story_of scenario commands) → Headline scenario (story_of scenario commands)
headline serial alike forgets answers scenario good commands one all each =
    let story = story_of scenario commands in
    let order = printed_order scenario story in
    let gives = one.serial order one.merge in
    record {
      holds_committed = holds_committed scenario good commands all order one.merge;
      names_once = record { attempts = one.once order one.merge; transactions = one_of_each scenario story each order one.merge };
      is_merge = one.merge;
      gives_reads_and_dues = gives;
      leaves_tables = leaves_tables serial scenario commands order gives;
      ends_alike = alike scenario commands;
      forgets_exactly = forgets scenario commands;
      answers_in_doubt = answers scenario commands;
    }
