-- Where the declared sites of a scenario stand, each once.
use Rattle.std.proofs.Common.{◌≡◌, ℕ, suc, ◌⊎◌, Bool, true, false, cond, ◌||◌, not, Some, List, [], ◌∷◌, map, length, inl, inr, refl, sym, ap, ◌∙◌, arith}
use Rattle.std.proofs.lemmas.Bool.{and_parts}
use Rattle.std.specs.Prelude.{◌==◌}
use Rattle.mdb_base.specs.declared.names.Engine.TheVariants.{Locking}
use Rattle.mdb_base.specs.declared.names.SiteId.{SiteId}
use Rattle.mdb_base.specs.Names.{same_site}
use Rattle.mdb_base.specs.Words.{inserted, some_of}
use Rattle.mdb_base.proofs.ForCallers.{same_site-equal}
use Rattle.presumptions.specs.declared.Participant.{Participant}
use Rattle.order_laws.specs.Chains.{Distinct, In}
use Rattle.fed_rules.specs.declared.scenario.ItemLine.{ItemLine}
use Rattle.fed_rules.specs.declared.scenario.SiteLine.{SiteLine}
use Rattle.fed_rules.specs.Plans.{all_differ, is_declared, one_site}
use Rattle.fed_rules.specs.Scenarios.{home_in, items_of, protocols_in}
use Rattle.fed_rules.specs.SiteRecords.{Home}
use Rattle.commit_laws.proofs.ForCallers.{by_site}

abbrev pub sites_of : List SiteLine → List SiteId
sites_of lines = map (λ (p : Participant). p.site) (protocols_in lines)

in_sites : (line : SiteLine) (lines : List SiteLine) (p : Participant) (ps : List Participant) (s : SiteId) → In s (map (λ (q : Participant). q.site) (inserted by_site p ps)) → (p.site ≡ s) ⊎ In s (map (λ (q : Participant). q.site) ps)
in_sites line lines p [] s (inl e) = inl e
in_sites line lines p [] s (inr i) = inr i
in_sites line lines p (q ∷ ps) s i = by_test (by_site q p) i (in_sites line lines p ps s)
  where
    by_test : (b : Bool) → In s (map (λ (q : Participant). q.site) (cond b (q ∷ inserted by_site p ps) (p ∷ q ∷ ps)))
        → (In s (map (λ (q : Participant). q.site) (inserted by_site p ps)) → (p.site ≡ s) ⊎ In s (map (λ (q : Participant). q.site) ps))
        → (p.site ≡ s) ⊎ In s (map (λ (q : Participant). q.site) (q ∷ ps))
    by_test false (inl e) k = inl e
    by_test false (inr j) k = inr j
    by_test true (inl e) k = inr (inl e)
    by_test true (inr j) k = elim (k j) [ inl e ↦ inl e | inr l ↦ inr (inr l) ]

sites_in : (p : Participant) (ps : List Participant) (s : SiteId) → (p.site ≡ s) ⊎ In s (map (λ (q : Participant). q.site) ps) → In s (map (λ (q : Participant). q.site) (inserted by_site p ps))
sites_in p [] s (inl e) = inl e
sites_in p [] s (inr i) = inr i
sites_in p (q ∷ ps) s i = by_test (by_site q p) i (sites_in p ps s)
  where
    by_test : (b : Bool) → (p.site ≡ s) ⊎ In s (map (λ (q : Participant). q.site) (q ∷ ps))
        → ((p.site ≡ s) ⊎ In s (map (λ (q : Participant). q.site) ps) → In s (map (λ (q : Participant). q.site) (inserted by_site p ps)))
        → In s (map (λ (q : Participant). q.site) (cond b (q ∷ inserted by_site p ps) (p ∷ q ∷ ps)))
    by_test false (inl e) k = inl e
    by_test false (inr j) k = inr j
    by_test true (inl e) k = inr (k (inl e))
    by_test true (inr (inl e)) k = inl e
    by_test true (inr (inr j)) k = inr (k (inr j))

distinct_in : (p : Participant) (ps : List Participant) → Distinct (map (λ (q : Participant). q.site) ps) → (In p.site (map (λ (q : Participant). q.site) ps) → ⊥) → Distinct (map (λ (q : Participant). q.site) (inserted by_site p ps))
distinct_in p [] d n = (λ i. i, tt)
distinct_in p (q ∷ ps) d n = by_test (by_site q p) (distinct_in p ps d.1 (λ i. n (inr i)))
  where
    line : SiteLine
    line = record { site = p.site; engine = Locking; protocol = p.protocol }

    by_test : (b : Bool) → Distinct (map (λ (q : Participant). q.site) (inserted by_site p ps)) → Distinct (map (λ (q : Participant). q.site) (cond b (q ∷ inserted by_site p ps) (p ∷ q ∷ ps)))
    by_test false k = (n, d)
    by_test true k = (λ i. elim (in_sites line [] p ps q.site i) [ inl e ↦ n (inl (sym e)) | inr j ↦ d.0 j ], k)

-- a declared site stands among them, and what stands among them is declared
pub declared_there : (lines : List SiteLine) (s : SiteId) → is_declared lines s ≡ true → In s (sites_of lines)
declared_there [] s e = absurd cc
declared_there (line ∷ lines) s e = sites_in (record { site = line.site; protocol = line.protocol }) (protocols_in lines) s (by_test (same_site line.site s) refl e (declared_there lines s))
  where
    by_test : (b : Bool) → same_site line.site s ≡ b → (b || is_declared lines s) ≡ true → (is_declared lines s ≡ true → In s (sites_of lines)) → (line.site ≡ s) ⊎ In s (sites_of lines)
    by_test true e f k = inl (same_site-equal line.site s e)
    by_test false e f k = inr (k f)

pub there_line : (lines : List SiteLine) (s : SiteId) → In s (sites_of lines) → In s (map (λ (line : SiteLine). line.site) lines)
there_line [] s i = i
there_line (line ∷ lines) s i = elim (in_sites line lines (record { site = line.site; protocol = line.protocol }) (protocols_in lines) s i) [ inl e ↦ inl e | inr j ↦ inr (there_line lines s j) ]

pub sites_distinct : (lines : List SiteLine) → all_differ one_site lines ≡ true → Distinct (sites_of lines)
sites_distinct [] e = tt
sites_distinct (line ∷ lines) e =
    let parts = and_parts (not (some_of (one_site line) lines)) (all_differ one_site lines) e in
    distinct_in (record { site = line.site; protocol = line.protocol }) (protocols_in lines) (sites_distinct lines parts.1) (λ i. apart lines parts.0 (there_line lines line.site i))
  where
    apart : (ls : List SiteLine) → not (some_of (one_site line) ls) ≡ true → In line.site (map (λ (l : SiteLine). l.site) ls) → ⊥
    apart [] f i = i
    apart (l ∷ ls) f (inl same) = clash (same_site line.site l.site) (some_of (one_site line) ls) (ap (λ (s : SiteId). same_site line.site s) same ∙ itself line.site.0) f
      where
        itself : (n : ℕ) → (n == n) ≡ true
        itself n = grind arith

        clash : (a b : Bool) → a ≡ true → not (a || b) ≡ true → ⊥
        clash true b p q = cc
        clash false b p q = cc
    apart (l ∷ ls) f (inr i) = apart ls (rest (same_site line.site l.site) (some_of (one_site line) ls) f) i
      where
        rest : (a b : Bool) → not (a || b) ≡ true → not b ≡ true
        rest true b q = cc
        rest false b q = q

pub sites_many : (lines : List SiteLine) → length (sites_of lines) ≡ length lines
sites_many [] = refl
sites_many (line ∷ lines) = one_longer (record { site = line.site; protocol = line.protocol }) (protocols_in lines) ∙ ap suc (sites_many lines)
  where
    one_longer : (p : Participant) (ps : List Participant) → length (map (λ (q : Participant). q.site) (inserted by_site p ps)) ≡ suc (length (map (λ (q : Participant). q.site) ps))
    one_longer p [] = refl
    one_longer p (q ∷ ps) = by_test (by_site q p) (one_longer p ps)
      where
        by_test : (b : Bool) → length (map (λ (q : Participant). q.site) (inserted by_site p ps)) ≡ suc (length (map (λ (q : Participant). q.site) ps))
            → length (map (λ (q : Participant). q.site) (cond b (q ∷ inserted by_site p ps) (p ∷ q ∷ ps))) ≡ suc (suc (length (map (λ (q : Participant). q.site) ps)))
        by_test true k = ap suc k
        by_test false k = refl

pub home_there : (lines : List SiteLine) (items : List ItemLine) (s : SiteId) → In s (map (λ (line : SiteLine). line.site) lines) → (home : Home) × (home_in lines items s ≡ Some home)
home_there [] items s i = absurd i
home_there (line ∷ lines) items s i = by_test (same_site line.site s) refl i (home_there lines items s)
  where
    mine : Home
    mine = record { site = line.site; engine = line.engine; protocol = line.protocol; items = items_of items s }

    itself : (n : ℕ) → (n == n) ≡ true
    itself n = grind arith

    by_test : (b : Bool) → same_site line.site s ≡ b → In s (map (λ (l : SiteLine). l.site) (line ∷ lines)) → (In s (map (λ (l : SiteLine). l.site) lines) → (home : Home) × (home_in lines items s ≡ Some home)) → (home : Home) × (cond b (Some mine) (home_in lines items s) ≡ Some home)
    by_test true e i k = (mine, refl)
    by_test false e (inl same) k = absurd (let clash = sym e ∙ (ap (λ (z : SiteId). same_site line.site z) (sym same) ∙ itself line.site.0) in cc)
    by_test false e (inr j) k = k j
