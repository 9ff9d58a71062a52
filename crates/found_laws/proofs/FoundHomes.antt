-- The sites of a session that goes on from the disks that another one left: each declared site is found once, with its own protocol, and its past is the
-- one that its journal stands for.
use Rattle.std.proofs.Common.{◌≡◌, ◌<◌, true, false, cond, Option, Some, None, List, [], ◌∷◌, ◌++◌, map, refl, sym, ◌∙◌, ap, ap₂, subst, inl, inr, le-ltb, arith}
use Rattle.mdb_base.specs.declared.names.SiteId.{SiteId}
use Rattle.mdb_base.specs.Names.{same_site}
use Rattle.mdb_base.specs.declared.rows.Put.{Put}
use Rattle.mdb_base.specs.Rows.{with_row, with_rows}
use Rattle.mdb_base.specs.Words.{Each, found, inserted, with_some}
use Rattle.mdb_base.proofs.ForCallers.{same_site-above, same_site-below, same_site-refl}
use Rattle.presumptions.specs.declared.Participant.{Participant}
use Rattle.order_laws.specs.Chains.{In}
use Rattle.fed_rules.specs.declared.records.SiteRecord.{SiteRecord}
use Rattle.fed_rules.specs.declared.scenario.ItemLine.{ItemLine}
use Rattle.fed_rules.specs.Found.{Journal}
use Rattle.fed_rules.specs.Reopened.{first_of, opened_site}
use Rattle.fed_rules.specs.Resumed.{homes, items_by, site_line_by}
use Rattle.fed_rules.specs.Scenarios.{home_in, items_of, protocols_in}
use Rattle.fed_rules.specs.SitePast.{SitePast}
use Rattle.fed_rules.specs.SiteRecords.{Home}
use Rattle.fed_rules.specs.Story.{AtSite, Story, found_site, found_sites, home_found, past_of, untold}
use Rattle.fed_rules.proofs.ForCallers.{MembersRise}
use Rattle.commit_laws.proofs.ForCallers.{by_site, member_of, rising_on, rising_over}

-- ---- their order

-- ---- what is found of each

module _ (left : SiteId → Option (Journal SiteRecord)) where
  -- the participant's journal is found, and begins with a record of its site and its protocol
  pub record IsFound (m : Participant) : Type 0 where
    pub journal : Journal SiteRecord
    pub is : left m.site ≡ Some journal
    pub home : Home
    pub begins : home_found (first_of journal.records) ≡ Some home
    pub part : member_of home ≡ m

  -- the journals of these participants
  abbrev pub journals : List Participant → List (Journal SiteRecord)
  journals ms = found left (map (λ (m : Participant). m.site) ms)

  one_journal : (m : Participant) (ms : List Participant) (f : IsFound m) → journals (m ∷ ms) ≡ f.journal ∷ journals ms
  one_journal m ms f = ap (λ o. with_some o (journals ms)) f.is

  one_home : (m : Participant) (ms : List Participant) (f : IsFound m) → homes (journals (m ∷ ms)) ≡ f.home ∷ homes (journals ms)
  one_home m ms f = ap homes (one_journal m ms f) ∙ ap (λ o. with_some o (homes (journals ms))) f.begins

  pub parts_are : (ms : List Participant) → Each IsFound ms → map member_of (homes (journals ms)) ≡ ms
  parts_are [] h = refl
  parts_are (m ∷ ms) h = ap (map member_of) (one_home m ms h.0) ∙ ap₂ (λ p ps. p ∷ ps) h.0.part (parts_are ms h.1)

  -- the participants in their order
  put_all : List Participant → List Participant
  put_all [] = []
  put_all (p ∷ ps) = inserted by_site p (put_all ps)

  put_parts : (hs : List Home) → protocols_in (map site_line_by hs) ≡ put_all (map member_of hs)
  unfolding put_all
  put_parts [] = refl
  put_parts (h ∷ hs) = ap (inserted by_site (member_of h)) (put_parts hs)

  put_first : (p : Participant) (ps : List Participant) → MembersRise (p ∷ ps) → inserted by_site p ps ≡ p ∷ ps
  put_first p [] r = refl
  put_first p (q ∷ ps) r = ap (λ b. cond b (q ∷ inserted by_site p ps) (p ∷ q ∷ ps)) (let less = r.0 in le-ltb q.site.0 p.site.0 (omega (arith, less)))

  put_rising : (ps : List Participant) → MembersRise ps → put_all ps ≡ ps
  unfolding put_all
  put_rising [] r = refl
  put_rising (p ∷ ps) r = ap (inserted by_site p) (put_rising ps (rising_on p ps r)) ∙ put_first p ps r

  pub same_members : (ms : List Participant) → MembersRise ms → Each IsFound ms → protocols_in (map site_line_by (homes (journals ms))) ≡ ms
  same_members ms r h = put_parts (homes (journals ms)) ∙ ap put_all (parts_are ms h) ∙ put_rising ms r

  -- the home of each
  pub record IsHomed (items : List ItemLine) (hs : List Home) (m : Participant) : Type 0 where
    pub home : Home
    pub declared : home_in (map site_line_by hs) items m.site ≡ Some home
    pub part : member_of home ≡ m
    pub rows : home.items ≡ items_of items m.site

  homed : (items : List ItemLine) (ms : List Participant) → Each IsFound ms → (m : Participant) → In m ms → MembersRise ms → IsHomed items (homes (journals ms)) m
  homed items [] h m i r = absurd i
  homed items (n ∷ ms) h m i r = subst (λ hs. IsHomed items hs m) (sym (one_home n ms h.0)) (by_place i (λ j. homed items ms h.1 m j (rising_on n ms r)))
    where
      mine : Home
      mine = h.0.home

      site_is : mine.site ≡ n.site
      site_is = ap (λ (p : Participant). p.site) h.0.part

      by_place : In m (n ∷ ms) → (In m ms → IsHomed items (homes (journals ms)) m) → IsHomed items (mine ∷ homes (journals ms)) m
      by_place (inl same) rest = subst (IsHomed items (mine ∷ homes (journals ms))) same (record {
        home = record { site = mine.site; engine = mine.engine; protocol = mine.protocol; items = items_of items n.site };
        declared = ap (λ b. cond b (Some (record { site = mine.site; engine = mine.engine; protocol = mine.protocol; items = items_of items n.site })) (home_in (map site_line_by (homes (journals ms))) items n.site))
            (ap (λ s. same_site s n.site) site_is ∙ same_site-refl n.site);
        part = h.0.part;
        rows = refl;
      })
      by_place (inr j) rest =
          let k = rest j in
          record {
            home = k.home;
            declared = ap (λ b. cond b (Some (record { site = mine.site; engine = mine.engine; protocol = mine.protocol; items = items_of items m.site })) (home_in (map site_line_by (homes (journals ms))) items m.site))
                (ap (λ s. same_site s m.site) site_is ∙ same_site-below n.site m.site (over ms j (rising_over n ms r))) ∙ k.declared;
            part = k.part;
            rows = k.rows;
          }
        where
          over : (ps : List Participant) → In m ps → Each (λ (p : Participant). n.site.0 < p.site.0) ps → n.site.0 < m.site.0
          over [] i e = absurd i
          over (p ∷ ps) (inl same) e = subst (λ (q : Participant). n.site.0 < q.site.0) same e.0
          over (p ∷ ps) (inr i) e = over ps i e.1

  pub each_homed : (items : List ItemLine) (ms : List Participant) → MembersRise ms → Each IsFound ms → (m : Participant) → In m ms → IsHomed items (homes (journals ms)) m
  each_homed items ms r h m i = homed items ms h m i r

  -- its first rows
  pub skipped : (site at : SiteId) (puts : List Put) (rest : List ItemLine) → same_site at site ≡ false → items_of (map (λ put. record { site = at; put = put }) puts ++ rest) site ≡ items_of rest site
  skipped site at [] rest e = refl
  skipped site at (put ∷ puts) rest e =
      ap (λ b. cond b (with_row put (items_of (map (λ p. record { site = at; put = p }) puts ++ rest) site)) (items_of (map (λ p. record { site = at; put = p }) puts ++ rest) site)) e
      ∙ skipped site at puts rest e

  pub taken : (site at : SiteId) (puts : List Put) (rest : List ItemLine) → same_site at site ≡ true → items_of (map (λ put. record { site = at; put = put }) puts ++ rest) site ≡ with_rows puts (items_of rest site)
  taken site at [] rest e = refl
  taken site at (put ∷ puts) rest e =
      ap (λ b. cond b (with_row put (items_of (map (λ p. record { site = at; put = p }) puts ++ rest) site)) (items_of (map (λ p. record { site = at; put = p }) puts ++ rest) site)) e
      ∙ ap (with_row put) (taken site at puts rest e)

  rowless : (site : SiteId) (hs : List Home) → Each (λ (m : Participant). same_site m.site site ≡ false) (map member_of hs) → items_of (items_by hs) site ≡ []
  rowless site [] e = refl
  rowless site (h ∷ hs) e = skipped site h.site h.items (items_by hs) e.0 ∙ rowless site hs e.1

  pub first_rows : (ms : List Participant) → MembersRise ms → Each IsFound ms → (m : Participant) (journal : Journal SiteRecord) (home : Home) → In m ms → left m.site ≡ Some journal
      → home_found (first_of journal.records) ≡ Some home → items_of (items_by (homes (journals ms))) m.site ≡ with_rows home.items []
  first_rows [] r h m journal home i e f = absurd i
  first_rows (n ∷ ms) r h m journal home (inl same) e f =
      subst (λ (q : Participant). left q.site ≡ Some journal → items_of (items_by (homes (journals (n ∷ ms)))) q.site ≡ with_rows home.items []) same mine e
    where
      over : (ps : List Participant) → Each (λ (p : Participant). n.site.0 < p.site.0) ps → Each (λ (p : Participant). same_site p.site n.site ≡ false) ps
      over [] k = tt
      over (p ∷ ps) k = (same_site-above n.site p.site k.0, over ps k.1)

      mine : left n.site ≡ Some journal → items_of (items_by (homes (journals (n ∷ ms)))) n.site ≡ with_rows home.items []
      mine is =
          let one : h.0.journal ≡ journal = (let both : Some h.0.journal ≡ Some journal = sym h.0.is ∙ is in cc) in
          let two : h.0.home ≡ home = (let both : Some h.0.home ≡ Some home = sym h.0.begins ∙ (ap (λ (j : Journal SiteRecord). home_found (first_of j.records)) one ∙ f) in cc) in
          ap (λ hs. items_of (items_by hs) n.site) (one_home n ms h.0)
          ∙ taken n.site h.0.home.site h.0.home.items (items_by (homes (journals ms))) (ap (λ (p : Participant). same_site p.site n.site) h.0.part ∙ same_site-refl n.site)
          ∙ ap (with_rows h.0.home.items) (rowless n.site (homes (journals ms)) (subst (Each (λ (p : Participant). same_site p.site n.site ≡ false)) (sym (parts_are ms h.1)) (over ms (rising_over n ms r))))
          ∙ ap (λ (k : Home). with_rows k.items []) two
  first_rows (n ∷ ms) r h m journal home (inr j) e f =
      ap (λ hs. items_of (items_by hs) m.site) (one_home n ms h.0)
      ∙ skipped m.site h.0.home.site h.0.home.items (items_by (homes (journals ms))) (ap (λ (p : Participant). same_site p.site m.site) h.0.part ∙ same_site-below n.site m.site (over ms j (rising_over n ms r)))
      ∙ first_rows ms (rising_on n ms r) h.1 m journal home j e f
    where
      over : (ps : List Participant) → In m ps → Each (λ (p : Participant). n.site.0 < p.site.0) ps → n.site.0 < m.site.0
      over [] i k = absurd i
      over (p ∷ ps) (inl same) k = subst (λ (q : Participant). n.site.0 < q.site.0) same k.0
      over (p ∷ ps) (inr i) k = over ps i k.1

  -- a site that isn't among them has none
  homeless_by : (items : List ItemLine) (site : SiteId) (hs : List Home) → Each (λ (m : Participant). same_site m.site site ≡ false) (map member_of hs)
      → home_in (map site_line_by hs) items site ≡ None
  homeless_by items site [] e = refl
  homeless_by items site (h ∷ hs) e =
      ap (λ b. cond b (Some (record { site = h.site; engine = h.engine; protocol = h.protocol; items = items_of items site })) (home_in (map site_line_by hs) items site)) e.0
      ∙ homeless_by items site hs e.1

  pub homeless : (items : List ItemLine) (ms : List Participant) → Each IsFound ms → (site : SiteId) → Each (λ (m : Participant). same_site m.site site ≡ false) ms
      → home_in (map site_line_by (homes (journals ms))) items site ≡ None
  homeless items ms h site e = homeless_by items site (homes (journals ms)) (subst (Each (λ (m : Participant). same_site m.site site ≡ false)) (sym (parts_are ms h)) e)

  -- the past of each
  pub told_here : (site : SiteId) (past : SitePast) (story : Story) → past_of site (map (λ x. untold (AtSite site x)) past ++ story) ≡ past ++ past_of site story
  told_here site [] story = refl
  told_here site (x ∷ past) story = ap (λ b. cond b (x ∷ past_of site (map (λ y. untold (AtSite site y)) past ++ story)) (past_of site (map (λ y. untold (AtSite site y)) past ++ story))) (same_site-refl site)
      ∙ ap (λ p. x ∷ p) (told_here site past story)

  pub told_there : (site at : SiteId) (past : SitePast) (story : Story) → same_site at site ≡ false → past_of site (map (λ x. untold (AtSite at x)) past ++ story) ≡ past_of site story
  told_there site at [] story e = refl
  told_there site at (x ∷ past) story e = ap (λ b. cond b (x ∷ past_of site (map (λ y. untold (AtSite at y)) past ++ story)) (past_of site (map (λ y. untold (AtSite at y)) past ++ story))) e
      ∙ told_there site at past story e

  one_found : (m : Participant) (ms : List Participant) (f : IsFound m) → found_sites (journals (m ∷ ms)) ≡ map (λ x. untold (AtSite f.home.site x)) (opened_site f.journal) ++ found_sites (journals ms)
  one_found m ms f = ap found_sites (one_journal m ms f) ∙ ap (λ o. found_site o f.journal (found_sites (journals ms))) f.begins

  site_of : (m : Participant) (f : IsFound m) → f.home.site ≡ m.site
  site_of m f = ap (λ (p : Participant). p.site) f.part

  none_here : (ms : List Participant) → Each IsFound ms → (site : SiteId) → Each (λ (m : Participant). same_site m.site site ≡ false) ms → past_of site (found_sites (journals ms)) ≡ []
  none_here [] h site e = refl
  none_here (m ∷ ms) h site e =
      ap (past_of site) (one_found m ms h.0)
      ∙ told_there site h.0.home.site (opened_site h.0.journal) (found_sites (journals ms)) (ap (λ s. same_site s site) (site_of m h.0) ∙ e.0)
      ∙ none_here ms h.1 site e.1

  pub append_none : (past : SitePast) → past ++ [] ≡ past
  append_none [] = refl
  append_none (x ∷ past) = ap (λ p. x ∷ p) (append_none past)

  pub found_past : (ms : List Participant) → MembersRise ms → Each IsFound ms → (m : Participant) (journal : Journal SiteRecord) → In m ms → left m.site ≡ Some journal
      → past_of m.site (found_sites (journals ms)) ≡ opened_site journal
  found_past [] r h m journal i e = absurd i
  found_past (n ∷ ms) r h m journal (inl same) e = subst (λ (q : Participant). left q.site ≡ Some journal → past_of q.site (found_sites (journals (n ∷ ms))) ≡ opened_site journal) same mine e
    where
      over : (ps : List Participant) → Each (λ (p : Participant). n.site.0 < p.site.0) ps → Each (λ (p : Participant). same_site p.site n.site ≡ false) ps
      over [] k = tt
      over (p ∷ ps) k = (same_site-above n.site p.site k.0, over ps k.1)

      mine : left n.site ≡ Some journal → past_of n.site (found_sites (journals (n ∷ ms))) ≡ opened_site journal
      mine is =
          let one : h.0.journal ≡ journal = (let both : Some h.0.journal ≡ Some journal = sym h.0.is ∙ is in cc) in
          ap (past_of n.site) (one_found n ms h.0)
          ∙ ap (λ s. past_of n.site (map (λ x. untold (AtSite s x)) (opened_site h.0.journal) ++ found_sites (journals ms))) (site_of n h.0)
          ∙ told_here n.site (opened_site h.0.journal) (found_sites (journals ms))
          ∙ ap (λ p. opened_site h.0.journal ++ p) (none_here ms h.1 n.site (over ms (rising_over n ms r)))
          ∙ append_none (opened_site h.0.journal)
          ∙ ap opened_site one
  found_past (n ∷ ms) r h m journal (inr j) e =
      ap (past_of m.site) (one_found n ms h.0)
      ∙ told_there m.site h.0.home.site (opened_site h.0.journal) (found_sites (journals ms))
      (ap (λ s. same_site s m.site) (site_of n h.0) ∙ same_site-below n.site m.site (over ms j (rising_over n ms r)))
      ∙ found_past ms (rising_on n ms r) h.1 m journal j e
    where
      over : (ps : List Participant) → In m ps → Each (λ (p : Participant). n.site.0 < p.site.0) ps → n.site.0 < m.site.0
      over [] i k = absurd i
      over (p ∷ ps) (inl same) k = subst (λ (q : Participant). n.site.0 < q.site.0) same k.0
      over (p ∷ ps) (inr i) k = over ps i k.1

  -- and a site that isn't among them has none
  pub no_past : (ms : List Participant) → Each IsFound ms → (site : SiteId) → Each (λ (m : Participant). same_site m.site site ≡ false) ms → past_of site (found_sites (journals ms)) ≡ []
  no_past ms h site apart = none_here ms h site apart
