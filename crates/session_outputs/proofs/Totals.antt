-- Sums over lists, and what the journals of a story give.
use Rattle.std.proofs.Common.{◌≡◌, ℕ, ◌+◌, ◌%◌, ◌<◌, Bool, cond, Option, Some, None, List, [], ◌∷◌, length, reverse, slice_get, take, get_or, refl, sym, ◌∙◌, ap, arith}
use Rattle.std.proofs.Math.Nat.{add-mod-mod, mod-add-mod}
use Rattle.std.specs.Prelude.{count_by, sum_by}
use Rattle.std.proofs.lemmas.List.Sums.{sum_by-cons, sum_by_more, sum_by_push}
use Rattle.std.proofs.lemmas.Option.{get_or_from_slice_get, slice_get_within}
use Rattle.mdb_base.specs.declared.names.SiteId.{SiteId}
use Rattle.mdb_base.specs.declared.rows.Put.{Put}
use Rattle.mdb_base.proofs.ForCallers.{reverse_more}
use Rattle.fed_rules.proofs.ForCallers.{its-site}
use Rattle.fed_rules.specs.declared.commands.Command.{Command}
use Rattle.fed_rules.specs.declared.records.SiteRecord.{SiteRecord}
use Rattle.fed_rules.specs.declared.scenario.Scenario.{Scenario}
use Rattle.fed_rules.specs.Orders.{table_at, table_of}
use Rattle.fed_rules.specs.Scenarios.{home_of, sites}
use Rattle.fed_rules.specs.SitePast.{journal}
use Rattle.fed_rules.specs.SiteRecords.{Home}
use Rattle.fed_rules.specs.Story.{Story, past_of, story_of}
use Rattle.site_history.specs.Stories.{OfSites}
use Rattle.site_history.specs.Sums.{JournalSaysAll}
use Rattle.report_text.specs.Summaries.{commits_at, is_local_commit, journal_at, rows_at, rows_total, total_at}

-- ---- lists

-- a sum goes on by one item, modulo some number
pub sum_goes_on : {A : Type 0} (f : A → ℕ) (xs : List A) (n m total : ℕ) (d : A) → n < length xs → total ≡ sum_by f (take n xs) % m
    → (total + f (get_or xs n d)) % m ≡ sum_by f (take (n + 1) xs) % m
sum_goes_on f xs n m total d within e =
    ap (λ t. (t + f (get_or xs n d)) % m) e ∙ (mod-add-mod (sum_by f (take n xs)) m (f (get_or xs n d)) ∙ ap (λ s. s % m) (sym (sum_by_more f xs n d within)))

-- as many items of the reversed list pass a test
pub count_reversed : {A : Type 0} (test : A → Bool) (xs : List A) → count_by test (reverse xs) ≡ count_by test xs
count_reversed test [] = refl
count_reversed test (x ∷ xs) =
    let turned = ap (count_by test) (reverse_more x xs) in
    let last = sum_by_push (λ y. cond (test y) 1 0) (reverse xs) x in
    let first = sum_by-cons (λ y. cond (test y) 1 0) x xs in
    let rest = count_reversed test xs in
    turned ∙ (last ∙ omega (arith, first, rest))

-- ---- the journals of a story

-- with one further site there are as many commits more as its records hold
pub one_more_site : (scenario : Scenario) (story : Story) (place : ℕ) (site : SiteId) (home : Home) (records : List SiteRecord) → slice_get (sites scenario) place ≡ Some site
    → home_of scenario site ≡ Some home → records ≡ reverse (journal home (past_of site story))
    → sum_by (commits_at scenario story) (take (place + 1) (sites scenario)) ≡ sum_by (commits_at scenario story) (take place (sites scenario)) + count_by is_local_commit records
one_more_site scenario story place site home records at declared told =
    let f = commits_at scenario story in
    sum_by_more f (sites scenario) place site (slice_get_within (sites scenario) place site at)
    ∙ ap (λ n. sum_by f (take place (sites scenario)) + n) (ap f (get_or_from_slice_get (sites scenario) place site site at) ∙ here)
  where
    here : commits_at scenario story site ≡ count_by is_local_commit records
    here =
        ap (λ (o : Option Home). count_by is_local_commit (journal_at o story)) declared
        ∙ (ap (λ (s : SiteId). count_by is_local_commit (journal home (past_of s story))) (its-site scenario site home declared)
        ∙ (sym (count_reversed is_local_commit (journal home (past_of site story))) ∙ ap (count_by is_local_commit) (sym told)))

-- the table of a site is what its journal gives
pub table_given : OfSites JournalSaysAll → (scenario : Scenario) (commands : List Command) (site : SiteId)
    → table_of scenario (story_of scenario commands) site ≡ rows_at (home_of scenario site) (story_of scenario commands)
table_given law scenario commands site = by_home (home_of scenario site) refl
  where
    by_home : (o : Option Home) → home_of scenario site ≡ o → table_at o (story_of scenario commands) ≡ rows_at o (story_of scenario commands)
    by_home None e = refl
    by_home (Some home) e = sym (ap (λ sum. sum.rows) (law scenario commands site home e))

-- with one further site the total is greater by the values of its rows, modulo some number
pub one_more_total : (scenario : Scenario) (story : Story) (place : ℕ) (site : SiteId) (rows : List Put) (m total more : ℕ) → slice_get (sites scenario) place ≡ Some site → rows ≡ rows_at (home_of scenario site) story
    → more ≡ rows_total rows % m → total ≡ sum_by (total_at scenario story) (take place (sites scenario)) % m
    → (total + more) % m ≡ sum_by (total_at scenario story) (take (place + 1) (sites scenario)) % m
one_more_total scenario story place site rows m total more at given more_is e =
    ap (λ n. (total + n) % m) more_is
    ∙ (add-mod-mod total (rows_total rows) m
    ∙ (ap (λ n. (total + n) % m) (ap rows_total given ∙ sym (ap (total_at scenario story) (get_or_from_slice_get (sites scenario) place site site at)))
    ∙ sum_goes_on (total_at scenario story) (sites scenario) place m total site (slice_get_within (sites scenario) place site at) e))
