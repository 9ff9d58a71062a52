-- Running the programs of a merge one at a time gives every read of every member and what is due at each site.
use Rattle.std.proofs.Common.{◌≡◌, Option, Some, None, List, [], ◌∷◌, refl, sym, ◌∙◌, ap, subst}
use Rattle.mdb_base.specs.declared.names.Key.{Key}
use Rattle.mdb_base.specs.declared.names.SiteId.{SiteId}
use Rattle.mdb_base.specs.declared.names.Tid.{Tid}
use Rattle.mdb_base.specs.Names.{same_tid}
use Rattle.mdb_base.specs.Rows.{look_up}
use Rattle.mdb_base.specs.Words.{those}
use Rattle.order_laws.specs.Chains.{In}
use Rattle.order_laws.specs.Orders.{is_in}
use Rattle.order_laws.proofs.ForCallers.{each_at, is_in_true, merge_names, tells_tids}
use Rattle.fed_rules.specs.declared.scenario.Scenario.{Scenario}
use Rattle.fed_rules.specs.Orders.{order_at, orders, reads_of, due_of, first_tables, IsMerge, IsSerial}
use Rattle.fed_rules.specs.Runs.{Access}
use Rattle.fed_rules.specs.Scenarios.{home_of, program_of}
use Rattle.fed_rules.specs.SiteRecords.{Home}
use Rattle.fed_rules.specs.Story.{Story, past_of}
use Rattle.site_history.specs.Accesses.{acts_at}
use Rattle.federation_laws.specs.OneOrder.{Parts}
use Rattle.site_history.specs.SiteOrders.{SiteSerial, table_after}
use Rattle.federation_laws.proofs.Declared.{home_is-items, order-in, order-of, nobody-there, member-declared}
use Rattle.federation_laws.proofs.SerialOrders.{Did, serial-gives}
use Rattle.federation_laws.proofs.Told.{home_is-site}

-- what an attempt did at a site of this number
acts_by : Option Home → Story → SiteId → Tid → List Access
acts_by None story site tid = []
acts_by (Some home) story site tid = acts_at home (past_of site story) tid

acts : Scenario → Story → SiteId → Tid → List Access
acts scenario story site = acts_by (home_of scenario site) story site

acts-declared : (scenario : Scenario) (story : Story) (site : SiteId) (home : Home) → home_of scenario site ≡ Some home → acts scenario story site ≡ acts_at home (past_of site story)
unfolding acts acts_by
acts-declared scenario story site home e = ap (λ o. acts_by o story site) e

-- of a site that isn't declared nobody is
none-of : (order : List Tid) → those (is_in same_tid []) order ≡ []
none-of [] = refl
none-of (t ∷ order) = none-of order

-- those of an order who are members of a site stand there in the site's order
those-at : (scenario : Scenario) (story : Story) (order : List Tid) → IsMerge scenario story order → (site : SiteId) → those (is_in same_tid (order_at scenario story site)) order ≡ order_at scenario story site
those-at scenario story order merge site = by_home (home_of scenario site) refl
  where
    by_home : (o : Option Home) → home_of scenario site ≡ o → those (is_in same_tid (order_at scenario story site)) order ≡ order_at scenario story site
    by_home None e =
        let nobody = nobody-there scenario story site e in
        ap (λ ts. those (is_in same_tid ts) order) nobody ∙ (none-of order ∙ sym nobody)
    by_home (Some home) e = each_at (λ ts. those (is_in same_tid ts) order ≡ ts) (order_at scenario story site) (orders scenario story) merge.kept (order-in scenario story site home e)

-- each member did what its program says
did : (scenario : Scenario) (story : Story) (order : List Tid) → Parts scenario story → IsMerge scenario story order → (tid : Tid) → In tid order
    → Did (λ t. program_of scenario t.tx) (reads_of scenario story) (λ s. is_in same_tid (order_at scenario story s)) (acts scenario story) tid
did scenario story order parts merge tid i =
    let (ts, listed, member) = merge_names same_tid tells_tids (orders scenario story) order merge tid i in
    let (site, e) = order-of scenario story ts listed in
    let by = parts.programs site tid (subst (λ us. In tid us) (sym e) member) in
    record {
      accesses = by.accesses;
      ran = by.ran;
      values = by.reads;
      inside = λ s t.
          let here = is_in_true same_tid tells_tids (order_at scenario story s) tid t in
          let (home, declared) = member-declared scenario story s tid here in
          by.here s home declared here ∙ sym (ap (λ f. f tid) (acts-declared scenario story s home declared));
      outside = by.elsewhere;
    }

-- at each site the members are serial
serial-at : (scenario : Scenario) (story : Story) (order : List Tid) → Parts scenario story → IsMerge scenario story order → (site : SiteId)
    → SiteSerial (acts scenario story site) (first_tables scenario site) (those (is_in same_tid (order_at scenario story site)) order)
serial-at scenario story order parts merge site =
    subst (λ ts. SiteSerial (acts scenario story site) (first_tables scenario site) ts) (sym (those-at scenario story order merge site)) (by_home (home_of scenario site) refl)
  where
    by_home : (o : Option Home) → home_of scenario site ≡ o → SiteSerial (acts scenario story site) (first_tables scenario site) (order_at scenario story site)
    by_home None e = subst (λ ts. SiteSerial (acts scenario story site) (first_tables scenario site) ts) (sym (nobody-there scenario story site e)) tt
    by_home (Some home) e =
        let same : home.site ≡ site = home_is-site scenario site home e in
        let alone = (parts.sites site home e).alone in
        let here : SiteSerial (acts_at home (past_of site story)) (look_up home.items) (order_at scenario story site) =
        subst (λ z. SiteSerial (acts_at home (past_of z story)) (look_up home.items) (order_at scenario story z)) same alone in
        subst (λ f. SiteSerial f (first_tables scenario site) (order_at scenario story site)) (sym (acts-declared scenario story site home e))
        (subst (λ rows. SiteSerial (acts_at home (past_of site story)) (look_up rows) (order_at scenario story site)) (home_is-items scenario site home e) here)

-- and leave what the site is due
left-there : (scenario : Scenario) (story : Story) (order : List Tid) → Parts scenario story → IsMerge scenario story order → (site : SiteId) (home : Home) → home_of scenario site ≡ Some home → (key : Key)
    → table_after (acts scenario story site) (first_tables scenario site) (those (is_in same_tid (order_at scenario story site)) order) key ≡ look_up (due_of scenario story site) key
left-there scenario story order parts merge site home e key =
    let same : home.site ≡ site = home_is-site scenario site home e in
    let here : table_after (acts_at home (past_of site story)) (look_up home.items) (order_at scenario story site) key ≡ look_up (due_of scenario story site) key =
    subst (λ z. table_after (acts_at home (past_of z story)) (look_up home.items) (order_at scenario story z) key ≡ look_up (due_of scenario story z) key) same ((parts.sites site home e).left key) in
    ap (λ ts. table_after (acts scenario story site) (first_tables scenario site) ts key) (those-at scenario story order merge site)
    ∙ (ap (λ f. table_after f (first_tables scenario site) (order_at scenario story site) key) (acts-declared scenario story site home e)
    ∙ (ap (λ rows. table_after (acts_at home (past_of site story)) (look_up rows) (order_at scenario story site) key) (sym (home_is-items scenario site home e)) ∙ here))

-- running the programs of a merge gives the reads and what is due
pub merge-serial : (scenario : Scenario) (story : Story) → Parts scenario story → (order : List Tid) → IsMerge scenario story order → IsSerial scenario story order
merge-serial scenario story parts order merge =
    let gives = serial-gives (λ t. program_of scenario t.tx) (reads_of scenario story) (λ s. is_in same_tid (order_at scenario story s)) (acts scenario story) order (first_tables scenario)
    (did scenario story order parts merge) (serial-at scenario story order parts merge) in
    record {
      reads = gives.reads_of;
      tables = λ site home e key. ap (λ table. table key) (gives.tables_of site) ∙ left-there scenario story order parts merge site home e key;
    }
