-- The homes of usable journals, by rising number, and the pasts that a session which goes on from them has at its sites before its first command.
use Rattle.std.proofs.Common.{◌≡◌, ℕ, ◌≤◌, ◌<◌, ◌&&◌, le-ltb, nat_lt, Bool, true, false, cond, nat_le, Option, Some, None, List, [], ◌∷◌, ◌++◌, map, refl, sym, ap, subst, ◌∙◌, inl, inr, arith}
use Rattle.mdb_base.specs.declared.names.Key.{Key}
use Rattle.mdb_base.specs.declared.rows.Put.{Put}
use Rattle.mdb_base.specs.Names.{same_key}
use Rattle.mdb_base.specs.Rising.{IsRising}
use Rattle.mdb_base.specs.Rows.{with_row, with_rows}
use Rattle.fed_rules.specs.Resumed.{items_by}
use Rattle.std.proofs.lemmas.Bool.{le-leb}
use Rattle.mdb_base.specs.declared.names.SiteId.{SiteId}
use Rattle.mdb_base.specs.Names.{same_site}
use Rattle.mdb_base.specs.Words.{Each, with_some}
use Rattle.mdb_base.proofs.ForCallers.{each_map, same_site-above, same_site-below, same_site-equal, same_site-refl, some_parts}
use Rattle.order_laws.specs.Chains.{In}
use Rattle.presumptions.specs.declared.Participant.{Participant}
use Rattle.fed_rules.specs.declared.records.SiteRecord.{SiteRecord}
use Rattle.fed_rules.specs.declared.scenario.ItemLine.{ItemLine}
use Rattle.fed_rules.specs.Found.{Journal}
use Rattle.fed_rules.specs.Plans.{is_between}
use Rattle.fed_rules.specs.Reopened.{first_of, opened_site}
use Rattle.fed_rules.specs.Resumed.{homes, site_line_by}
use Rattle.fed_rules.specs.Scenarios.{home_in, items_of}
use Rattle.fed_rules.specs.SiteRecords.{Home}
use Rattle.fed_rules.specs.Story.{AtSite, found_site, found_sites, home_found, past_of, untold}
use Rattle.fed_rules.specs.Usable.{IsOfSite, IsUsableSite, home_of_first}
use Rattle.fed_rules.proofs.ForCallers.{MembersRise}
use Rattle.commit_laws.proofs.ForCallers.{member_of, rising_from, rising_on, rising_over}
use Rattle.found_laws.specs.FoundSessions.{AreOfDisks}
use Rattle.found_laws.proofs.FoundHomes.{append_none, skipped, taken, told_here, told_there}
use Rattle.found_laws.proofs.PlanSites.{IsInRange}

-- ---- the homes of the journals

pub same_home : (o : Option SiteRecord) → home_found o ≡ home_of_first o
same_home None = refl
same_home (Some first) = refl

record IsHomeOf (number : ℕ) (journal : Journal SiteRecord) : Type 0 where
  home : Home
  found : home_found (first_of journal.records) ≡ Some home
  at : home.site.0 ≡ number

some_home : (number : ℕ) (o : Option Home) → IsOfSite number o → (home : Home) × (o ≡ Some home) × (home.site.0 ≡ number)
some_home number None i = absurd i
some_home number (Some home) i = (home, refl, i)

its_home : (number : ℕ) (journal : Journal SiteRecord) → IsUsableSite number journal.records → IsHomeOf number journal
its_home number journal usable =
    let h = some_home number (home_of_first (first_of journal.records)) usable.first in
    record { home = h.0; found = same_home (first_of journal.records) ∙ h.1; at = h.2 }

-- they stand by rising number, from 1 to 8
pub record AreHomes (least : ℕ) (hs : List Home) : Type 0 where
  pub above : Each (λ (m : Participant). least < m.site.0) (map member_of hs)
  pub rising : MembersRise (map member_of hs)
  pub range : Each IsInRange (map member_of hs)

in_range : (n : ℕ) → 0 < n → n ≤ 8 → is_between 1 8 n ≡ true
in_range n some most = ap (λ b. b && nat_le n 8) (le-leb 1 n (omega (arith, some))) ∙ le-leb n 8 most

pub all_homes : (least : ℕ) (journals : List (Journal SiteRecord)) → AreOfDisks least journals → AreHomes least (homes journals)
all_homes least [] d = record { above = tt; rising = tt; range = tt }
all_homes least (journal ∷ journals) (number, less, most, usable, d) =
    let h = its_home number journal usable in
    let rest = all_homes number journals d in
    let at = h.at in
    subst (λ o. AreHomes least (with_some o (homes journals))) (sym h.found) (record {
      above = (
        omega (arith, less, at),
        each_map (λ (m : Participant). number < m.site.0) (λ (m : Participant). least < m.site.0) (λ m more. omega (arith, more, less)) (map member_of (homes journals)) rest.above,
      );
      rising = rising_from (member_of h.home) (map member_of (homes journals)) (subst (λ n. Each (λ (m : Participant). n < m.site.0) (map member_of (homes journals))) (sym at) rest.above) rest.rising;
      range = (in_range h.home.site.0 (omega (arith, less, at)) (omega (arith, most, at)), rest.range);
    })

-- ---- the pasts of the sites

no_journal : SiteId → Option (Journal SiteRecord)
no_journal site = None

differs : (a b : SiteId) (n : ℕ) → a.0 ≡ n → b.0 < n → same_site a b ≡ false
differs a b n at less = by_test (same_site a b) refl
  where
    by_test : (t : Bool) → same_site a b ≡ t → t ≡ false
    by_test false e = refl
    by_test true e = let same : a.0 ≡ b.0 = ap (λ (s : SiteId). s.0) (same_site-equal a b e) in absurd (omega (arith, at, less, same))

-- a site before all of them has none
none_before : (least : ℕ) (journals : List (Journal SiteRecord)) (site : SiteId) → AreOfDisks least journals → site.0 ≤ least → past_of site (found_sites journals) ≡ []
none_before least [] site d le = refl
none_before least (journal ∷ journals) site (number, less, most, usable, d) le =
    let h = its_home number journal usable in
    ap (λ o. past_of site (found_site o journal (found_sites journals))) h.found
    ∙ told_there no_journal site h.home.site (opened_site journal) (found_sites journals) (differs h.home.site site number h.at (omega (arith, less, le)))
    ∙ none_before number journals site d (omega (arith, less, le))

-- the home in the plan
one_home : (items : List ItemLine) (site : SiteId) (home : Home) (hs : List Home) (b : Bool) → Option Home
one_home items site home hs b =
    cond b (Some (record { site = home.site; engine = home.engine; protocol = home.protocol; items = items_of items site })) (home_in (map site_line_by hs) items site)

-- of a site that isn't declared there is none
pub none_undeclared : (items : List ItemLine) (least : ℕ) (journals : List (Journal SiteRecord)) (site : SiteId) → AreOfDisks least journals
    → home_in (map site_line_by (homes journals)) items site ≡ None → past_of site (found_sites journals) ≡ []
unfolding one_home
none_undeclared items least [] site d none = refl
none_undeclared items least (journal ∷ journals) site (number, less, most, usable, d) none =
    ap (λ o. past_of site (found_site o journal (found_sites journals))) h.found
    ∙ by_test (same_site h.home.site site) refl (sym (ap (λ o. home_in (map site_line_by (with_some o (homes journals))) items site) h.found) ∙ none) (λ e. none_undeclared items number journals site d e)
  where
    h : IsHomeOf number journal
    h = its_home number journal usable

    by_test : (b : Bool) → same_site h.home.site site ≡ b → one_home items site h.home (homes journals) b ≡ None
        → (home_in (map site_line_by (homes journals)) items site ≡ None → past_of site (found_sites journals) ≡ [])
        → past_of site (found_site (Some h.home) journal (found_sites journals)) ≡ []
    by_test true e n rest = cc
    by_test false e n rest = told_there no_journal site h.home.site (opened_site journal) (found_sites journals) e ∙ rest n

-- of a declared one it is what one of the journals stands for, whose first record is of the site
pub record IsDeclaredAs (items : List ItemLine) (journals : List (Journal SiteRecord)) (site : SiteId) (home : Home) : Type 0 where
  pub journal : Journal SiteRecord
  pub among : In journal journals
  pub past : past_of site (found_sites journals) ≡ opened_site journal
  pub number : ℕ
  pub usable : IsUsableSite number journal.records
  pub first : Home
  pub begins : home_found (first_of journal.records) ≡ Some first
  pub listed : In first (homes journals)
  pub here : first.site ≡ site
  pub is : record { site = first.site; engine = first.engine; protocol = first.protocol; items = items_of items site } ≡ home

pub past_declared : (items : List ItemLine) (least : ℕ) (journals : List (Journal SiteRecord)) (site : SiteId) (home : Home) → AreOfDisks least journals
    → home_in (map site_line_by (homes journals)) items site ≡ Some home → IsDeclaredAs items journals site home
unfolding one_home
past_declared items least [] site home d is = cc
past_declared items least (journal ∷ journals) site home (number, less, most, usable, d) is =
    by_test (same_site h.home.site site) refl (sym (ap (λ o. home_in (map site_line_by (with_some o (homes journals))) items site) h.found) ∙ is) (λ e. past_declared items number journals site home d e)
  where
    h : IsHomeOf number journal
    h = its_home number journal usable

    here : past_of site (found_sites (journal ∷ journals)) ≡ past_of site (found_site (Some h.home) journal (found_sites journals))
    here = ap (λ o. past_of site (found_site o journal (found_sites journals))) h.found

    by_test : (b : Bool) → same_site h.home.site site ≡ b → one_home items site h.home (homes journals) b ≡ Some home
        → (home_in (map site_line_by (homes journals)) items site ≡ Some home → IsDeclaredAs items journals site home) → IsDeclaredAs items (journal ∷ journals) site home
    by_test true e i rest =
        let own : h.home.site ≡ site = same_site-equal h.home.site site e in
        let at = h.at in
        let place : site.0 ≡ number = sym (ap (λ (s : SiteId). s.0) own) ∙ at in
        record {
          journal = journal;
          among = inl refl;
          past = here
              ∙ ap (λ s. past_of site (map (λ x. untold (AtSite s x)) (opened_site journal) ++ found_sites journals)) own
              ∙ told_here no_journal site (opened_site journal) (found_sites journals)
              ∙ ap (λ past. opened_site journal ++ past) (none_before number journals site d (omega (arith, place)))
              ∙ append_none no_journal (opened_site journal);
          number = number;
          usable = usable;
          first = h.home;
          begins = h.found;
          listed = subst (λ o. In h.home (with_some o (homes journals))) (sym h.found) (inl refl);
          here = own;
          is = some_parts i;
        }
    by_test false e i rest =
        let r = rest i in
        record {
          journal = r.journal;
          among = inr r.among;
          past = here ∙ told_there no_journal site h.home.site (opened_site journal) (found_sites journals) e ∙ r.past;
          number = r.number;
          usable = r.usable;
          first = r.first;
          begins = r.begins;
          listed = subst (λ o. In r.first (with_some o (homes journals))) (sym h.found) (inr r.listed);
          here = r.here;
          is = r.is;
        }

-- ---- the first rows of each

pub rows_alone : (items : List Put) → IsRising (λ put. put.key.0) items → with_rows items [] ≡ items
rows_alone [] r = refl
rows_alone (row ∷ []) r = refl
rows_alone (row ∷ next ∷ items) r =
    ap (with_row row) (rows_alone (next ∷ items) r.1)
    ∙ ap (λ b. cond b (row ∷ items) (cond (nat_lt next.key.0 row.key.0) (next ∷ with_row row items) (row ∷ next ∷ items))) (other_key next.key row.key r.0)
    ∙ ap (λ b. cond b (next ∷ with_row row items) (row ∷ next ∷ items)) (let less = r.0 in le-ltb next.key.0 row.key.0 (omega (arith, less)))
  where
    other_key : (a b : Key) → b.0 < a.0 → same_key a b ≡ false
    other_key a b less = grind arith

rowless_for : (site : SiteId) (hs : List Home) → Each (λ (m : Participant). site.0 < m.site.0) (map member_of hs) → items_of (items_by hs) site ≡ []
rowless_for site [] r = refl
rowless_for site (k ∷ hs) r = skipped no_journal site k.site k.items (items_by hs) (same_site-above site k.site r.0) ∙ rowless_for site hs r.1

pub first_rows_of : (hs : List Home) (h : Home) → MembersRise (map member_of hs) → In h hs → items_of (items_by hs) h.site ≡ with_rows h.items []
first_rows_of [] h r i = absurd i
first_rows_of (k ∷ hs) h r (inl same) = subst (λ (g : Home). items_of (items_by (k ∷ hs)) g.site ≡ with_rows g.items []) same (
    taken no_journal k.site k.site k.items (items_by hs) (same_site-refl k.site) ∙ ap (with_rows k.items) (rowless_for k.site hs (rising_over (member_of k) (map member_of hs) r))
    )
first_rows_of (k ∷ hs) h r (inr i) =
    skipped no_journal h.site k.site k.items (items_by hs) (same_site-below k.site h.site (over hs i (rising_over (member_of k) (map member_of hs) r)))
    ∙ first_rows_of hs h (rising_on (member_of k) (map member_of hs) r) i
  where
    over : (gs : List Home) → In h gs → Each (λ (m : Participant). k.site.0 < m.site.0) (map member_of gs) → k.site.0 < h.site.0
    over [] j e = absurd j
    over (g ∷ gs) (inl same) e = subst (λ (f : Home). k.site.0 < f.site.0) same e.0
    over (g ∷ gs) (inr j) e = over gs j e.1
