-- The part of a site's journal that its next Checkpoint is compared with: the records from the last Checkpoint on.
use Rattle.std.proofs.Common.{◌≡◌, ℕ, zero, suc, ◌+◌, ◌-◌, ◌<◌, ◌≤◌, ◌⊎◌, ◌↔◌, Option, Some, None, List, [], ◌∷◌, ◌++◌, length, take, drop, get_or, reverse, refl, sym, ap, ◌∙◌, subst, inl, inr, arith}
use Rattle.std.proofs.lemmas.List.{reverse-append, take_more}
use Rattle.std.proofs.Math.Seq.{take-length}
use Rattle.fed_rules.specs.declared.records.SiteRecord.{SiteRecord}
use Rattle.fed_rules.specs.declared.records.SiteRecord.TheVariants.{Setup, Start, Prepared, Ended, Local, Checkpoint}
use Rattle.fed_rules.specs.declared.sums.SiteSum.{SiteSum}
use Rattle.fed_rules.specs.Reopened.{first_of, home_by}
use Rattle.fed_rules.specs.SiteRecords.{Home}
use Rattle.fed_rules.specs.SiteSums.{behind_sum, journal_sum, last_sum, sum_behind, sum_with}
use Rattle.fed_rules.specs.Usable.{home_of_first}
use Rattle.journal_sums.specs.Journals.{Begins, IsJournalOf}
use Rattle.usable_journals.specs.SiteReads.{AllFit, Fits, HasHome, front_from}
use Rattle.usable_journals.proofs.Recording.{reverse_more, reverse_rest}
use Rattle.usable_journals.proofs.SiteReflected.{first_is, split}
use Rattle.usable_journals.proofs.WalkLaws.{GoesBack, front_of}

-- ---- the records from one place up to another

abbrev pub part : List SiteRecord → (last place : ℕ) → List SiteRecord
part xs last place = take (place - last) (drop last xs)

pub part_more : (xs : List SiteRecord) (last place : ℕ) (d : SiteRecord) → last ≤ place → place < length xs
    → take ((place + 1) - last) (drop last xs) ≡ take (place - last) (drop last xs) ++ get_or xs place d ∷ []
part_more xs zero place d le within =
    let a : (place + 1) - 0 ≡ place + 1 = omega arith in
    let b : place - 0 ≡ place = omega arith in
    ap (λ n. take n xs) a ∙ take_more xs place d within ∙ ap (λ n. take n xs ++ get_or xs place d ∷ []) (sym b)
part_more [] (suc last) place d le within = absurd (omega (arith, within))
part_more (x ∷ xs) (suc last) zero d le within = absurd (omega (arith, le))
part_more (x ∷ xs) (suc last) (suc place) d le within =
    let a : (suc place + 1) - suc last ≡ (place + 1) - last = omega arith in
    let b : suc place - suc last ≡ place - last = omega arith in
    ap (λ n. take n (drop last xs)) a ∙ part_more xs last place d (omega (arith, le)) (omega (arith, within))
    ∙ ap (λ n. take n (drop last xs) ++ get_or xs place d ∷ []) (sym b)

next_part : (xs : List SiteRecord) (last place : ℕ) (d : SiteRecord) → last ≤ place → place < length xs
    → reverse (part xs last (place + 1)) ≡ get_or xs place d ∷ reverse (part xs last place)
next_part xs last place d le within = ap (λ (ys : List SiteRecord). reverse ys) (part_more xs last place d le within) ∙ reverse-append (take (place - last) (drop last xs)) (get_or xs place d ∷ [])

only_part : (xs : List SiteRecord) (place : ℕ) (d : SiteRecord) → place < length xs → reverse (part xs place (place + 1)) ≡ get_or xs place d ∷ []
only_part xs place d within =
    next_part xs place place d (omega arith) within
    ∙ ap (λ n. get_or xs place d ∷ reverse (take n (drop place xs))) (let none : place - place ≡ 0 = omega arith in none)

-- ---- a part that says what all say

pub record SaysOn (part all : List SiteRecord) (sum : SiteSum) : Type 0 where
  pub here : last_sum part ≡ Some sum
  pub there : last_sum all ≡ Some sum
  pub behind : behind_sum part ≡ behind_sum all

abbrev pub SaysSame : List SiteRecord → List SiteRecord → Type 0
SaysSame part all = (part ≡ all) ⊎ ((sum : SiteSum) × SaysOn part all sum)

same_sum : (home : Home) (part all : List SiteRecord) → SaysSame part all → journal_sum home part ≡ journal_sum home all
same_sum home part all (inl e) = ap (journal_sum home) e
same_sum home part all (inr (sum, s)) =
    ap (sum_behind home part) s.here ∙ ap (sum_with sum) s.behind ∙ sym (ap (sum_behind home all) s.there)

-- with one more record that is no Checkpoint
more_same : (r : SiteRecord) (part all : List SiteRecord) → ((sum : SiteSum) → r ≡ Checkpoint sum → ⊥) → SaysSame part all → SaysSame (r ∷ part) (r ∷ all)
more_same r part all nay (inl e) = inl (ap (λ (rs : List SiteRecord). r ∷ rs) e)
more_same (Checkpoint sum) part all nay (inr s) = absurd (nay sum refl)
more_same (Setup site engine protocol items) part all nay (inr (sum, s)) = inr (sum, record { here = s.here; there = s.there; behind = ap (λ (rs : List SiteRecord). Setup site engine protocol items ∷ rs) s.behind })
more_same (Start n) part all nay (inr (sum, s)) = inr (sum, record { here = s.here; there = s.there; behind = ap (λ (rs : List SiteRecord). Start n ∷ rs) s.behind })
more_same (Prepared t e n k w) part all nay (inr (sum, s)) = inr (sum, record { here = s.here; there = s.there; behind = ap (λ (rs : List SiteRecord). Prepared t e n k w ∷ rs) s.behind })
more_same (Ended t d) part all nay (inr (sum, s)) = inr (sum, record { here = s.here; there = s.there; behind = ap (λ (rs : List SiteRecord). Ended t d ∷ rs) s.behind })
more_same (Local t n w) part all nay (inr (sum, s)) = inr (sum, record { here = s.here; there = s.there; behind = ap (λ (rs : List SiteRecord). Local t n w ∷ rs) s.behind })

-- ---- a Checkpoint that fits is of the same site

pub record IsOfHome (home : Home) (sum : SiteSum) : Type 0 where
  pub site : sum.site ≡ home.site
  pub engine : sum.engine ≡ home.engine
  pub protocol : sum.protocol ≡ home.protocol

of_home : (home : Home) (part all : List SiteRecord) (o : Option SiteSum) → IsOfHome home (sum_behind home all o) → IsOfHome home (sum_behind home part o)
of_home home part all None h = record { site = refl; engine = refl; protocol = refl }
of_home home part all (Some sum) h = record { site = h.site; engine = h.engine; protocol = h.protocol }

pub first_home : (home : Home) (first : SiteRecord) → home_by first ≡ Some home → IsOfHome home (journal_sum home (first ∷ []))
first_home home (Checkpoint sum) e =
    let is : Some (record { site = sum.site; engine = sum.engine; protocol = sum.protocol; items = sum.rows }) ≡ Some home = e in
    record { site = cc; engine = cc; protocol = cc }
first_home home (Setup site engine protocol items) e = record { site = refl; engine = refl; protocol = refl }
first_home home (Start n) e = cc
first_home home (Prepared t n number ticket writes) e = cc
first_home home (Ended t d) e = cc
first_home home (Local t n writes) e = cc

-- with one more record that fits
more_home : (home : Home) (r : SiteRecord) (front : List SiteRecord) → Fits home r front → IsOfHome home (journal_sum home front) → IsOfHome home (journal_sum home (r ∷ front))
more_home home (Checkpoint sum) front fits h = let s = subst (IsOfHome home) fits h in record { site = s.site; engine = s.engine; protocol = s.protocol }
more_home home (Setup site engine protocol items) front fits h = of_home home (Setup site engine protocol items ∷ front) front (last_sum front) h
more_home home (Start n) front fits h = of_home home (Start n ∷ front) front (last_sum front) h
more_home home (Prepared t e n k w) front fits h = of_home home (Prepared t e n k w ∷ front) front (last_sum front) h
more_home home (Ended t d) front fits h = of_home home (Ended t d ∷ front) front (last_sum front) h
more_home home (Local t n w) front fits h = of_home home (Local t n w ∷ front) front (last_sum front) h

pub begins_by : (home : Home) (first : SiteRecord) → home_by first ≡ Some home → Begins home first
begins_by home (Checkpoint sum) e =
    let is : Some (record { site = sum.site; engine = sum.engine; protocol = sum.protocol; items = sum.rows }) ≡ Some home = e in (cc, cc, cc)
begins_by home (Setup site engine protocol items) e =
    let is : Some (record { site = site; engine = engine; protocol = protocol; items = items }) ≡ Some home = e in (cc, cc, cc, cc)
begins_by home (Start n) e = cc
begins_by home (Prepared t n number ticket writes) e = cc
begins_by home (Ended t d) e = cc
begins_by home (Local t n writes) e = cc

-- ---- the walk

pub record IsAt (home : Home) (xs : List SiteRecord) (last place : ℕ) : Type 0 where
  pub front : IsJournalOf home (reverse (part xs last place))
  pub same : SaysSame (reverse (part xs last place)) (reverse (take place xs))
  pub home_is : IsOfHome home (journal_sum home (reverse (take place xs)))
  pub fit : AllFit home (reverse (take place xs))

abbrev pub IsHomeOf : List SiteRecord → Home → Type 0
IsHomeOf records home = home_of_first (first_of (reverse records)) ≡ Some home

home_first : (home : Home) (first : SiteRecord) (newer : List SiteRecord) → IsHomeOf (first ∷ newer) home → home_by first ≡ Some home
home_first home first newer is = ap home_of_first (sym (ap first_of (split first newer) ∙ first_is (reverse newer) first)) ∙ is

pub at_first : (home : Home) (xs : List SiteRecord) → IsHomeOf xs home → IsAt home xs 0 1
at_first home [] is = cc
at_first home (first ∷ newer) is =
    let by = home_first home first newer is in
    record {
      front = record { newer = []; oldest = first; begins = begins_by home first by; stands = refl };
      same = inl refl;
      home_is = first_home home first by;
      fit = tt;
    }

journal_more : (home : Home) (r : SiteRecord) (rs : List SiteRecord) → IsJournalOf home rs → IsJournalOf home (r ∷ rs)
journal_more home r rs j = record { newer = r ∷ j.newer; oldest = j.oldest; begins = j.begins; stands = ap (λ (ys : List SiteRecord). r ∷ ys) j.stands }

-- no journal is empty
pub fit_more : (home : Home) (r : SiteRecord) (rs : List SiteRecord) → Fits home r rs → AllFit home rs → AllFit home (r ∷ rs)
fit_more home r [] f all = tt
fit_more home r (x ∷ rs) f all = (f, all)

fits_same : (home : Home) (r : SiteRecord) (part all : List SiteRecord) → SaysSame part all → Fits home r part ↔ Fits home r all
fits_same home (Checkpoint sum) part all s = (λ e. sym (same_sum home part all s) ∙ e, λ e. same_sum home part all s ∙ e)
fits_same home (Setup site engine protocol items) part all s = (λ e. tt, λ e. tt)
fits_same home (Start n) part all s = (λ e. tt, λ e. tt)
fits_same home (Prepared t e n k w) part all s = (λ e. tt, λ e. tt)
fits_same home (Ended t d) part all s = (λ e. tt, λ e. tt)
fits_same home (Local t n w) part all s = (λ e. tt, λ e. tt)

pub next_at : (home : Home) (xs : List SiteRecord) (last place next : ℕ) (d : SiteRecord) → last ≤ place → place < length xs → IsAt home xs last place
    → Fits home (get_or xs place d) (reverse (part xs last place)) → next ≡ front_from (get_or xs place d) place last → IsAt home xs next (place + 1)
next_at home xs last place next d le within at fits is = by_record (get_or xs place d) refl fits is
  where
    all : reverse (take (place + 1) xs) ≡ get_or xs place d ∷ reverse (take place xs)
    all = reverse_more xs place d within

    plain : (r : SiteRecord) → get_or xs place d ≡ r → ((sum : SiteSum) → r ≡ Checkpoint sum → ⊥) → Fits home r (reverse (part xs last place)) → next ≡ last → IsAt home xs next (place + 1)
    plain r here nay f e =
        let more : reverse (part xs next (place + 1)) ≡ r ∷ reverse (part xs last place) =
        ap (λ n. reverse (part xs n (place + 1))) e ∙ next_part xs last place d le within ∙ ap (λ y. y ∷ reverse (part xs last place)) here in
        let every : reverse (take (place + 1) xs) ≡ r ∷ reverse (take place xs) = all ∙ ap (λ y. y ∷ reverse (take place xs)) here in
        let whole = (fits_same home r (reverse (part xs last place)) (reverse (take place xs)) at.same).0 f in
        record {
          front = subst (IsJournalOf home) (sym more) (journal_more home r (reverse (part xs last place)) at.front);
          same = subst (λ rs. SaysSame rs (reverse (take (place + 1) xs))) (sym more)
              (subst (SaysSame (r ∷ reverse (part xs last place))) (sym every) (more_same r (reverse (part xs last place)) (reverse (take place xs)) nay at.same));
          home_is = subst (λ rs. IsOfHome home (journal_sum home rs)) (sym every) (more_home home r (reverse (take place xs)) whole at.home_is);
          fit = subst (AllFit home) (sym every) (fit_more home r (reverse (take place xs)) whole at.fit);
        }

    summed : (sum : SiteSum) → get_or xs place d ≡ Checkpoint sum → Fits home (Checkpoint sum) (reverse (part xs last place)) → next ≡ place → IsAt home xs next (place + 1)
    summed sum here f e =
        let more : reverse (part xs next (place + 1)) ≡ Checkpoint sum ∷ [] =
        ap (λ n. reverse (part xs n (place + 1))) e ∙ only_part xs place d within ∙ ap (λ y. y ∷ []) here in
        let every : reverse (take (place + 1) xs) ≡ Checkpoint sum ∷ reverse (take place xs) = all ∙ ap (λ y. y ∷ reverse (take place xs)) here in
        let whole = (fits_same home (Checkpoint sum) (reverse (part xs last place)) (reverse (take place xs)) at.same).0 f in
        let h = more_home home (Checkpoint sum) (reverse (take place xs)) whole at.home_is in
        record {
          front = subst (IsJournalOf home) (sym more) (record { newer = []; oldest = Checkpoint sum; begins = (h.site, h.engine, h.protocol); stands = refl });
          same = subst (λ rs. SaysSame rs (reverse (take (place + 1) xs))) (sym more)
              (subst (SaysSame (Checkpoint sum ∷ [])) (sym every) (inr (sum, record { here = refl; there = refl; behind = refl })));
          home_is = subst (λ rs. IsOfHome home (journal_sum home rs)) (sym every) h;
          fit = subst (AllFit home) (sym every) (fit_more home (Checkpoint sum) (reverse (take place xs)) whole at.fit);
        }

    by_record : (r : SiteRecord) → get_or xs place d ≡ r → Fits home r (reverse (part xs last place)) → next ≡ front_from r place last → IsAt home xs next (place + 1)
    by_record (Checkpoint sum) here f e = summed sum here f e
    by_record (Setup site engine protocol items) here f e = plain (Setup site engine protocol items) here (λ s q. cc) f e
    by_record (Start n) here f e = plain (Start n) here (λ s q. cc) f e
    by_record (Prepared t m n k w) here f e = plain (Prepared t m n k w) here (λ s q. cc) f e
    by_record (Ended t c) here f e = plain (Ended t c) here (λ s q. cc) f e
    by_record (Local t n w) here f e = plain (Local t n w) here (λ s q. cc) f e

fit_back : (home : Home) → GoesBack (AllFit home)
fit_back home x [] h = tt
fit_back home x (y ∷ xs) h = h.1

fit_here : (home : Home) (r : SiteRecord) (rs : List SiteRecord) → IsJournalOf home rs → AllFit home (r ∷ rs) → Fits home r rs
fit_here home r [] j h = absurd (never j.newer j.oldest j.stands)
  where
    never : (ys : List SiteRecord) (y : SiteRecord) → [] ≡ ys ++ y ∷ [] → ⊥
    never [] y e = cc
    never (z ∷ ys) y e = cc
fit_here home r (x ∷ rs) j h = h.0

-- where all fit, the next one does
pub fits_at : (home : Home) (xs : List SiteRecord) (last place : ℕ) (d : SiteRecord) → place < length xs → IsAt home xs last place → AllFit home (reverse xs)
    → Fits home (get_or xs place d) (reverse (part xs last place))
fits_at home xs last place d within at all =
    let front : AllFit home (reverse (take (place + 1) xs)) =
    front_of (AllFit home) (fit_back home) (reverse (drop (place + 1) xs)) (reverse (take (place + 1) xs)) (subst (AllFit home) (reverse_rest xs (place + 1)) all) in
    let here : AllFit home (get_or xs place d ∷ reverse (take place xs)) = subst (AllFit home) (reverse_more xs place d within) front in
    (fits_same home (get_or xs place d) (reverse (part xs last place)) (reverse (take place xs)) at.same).1 (here_of (reverse (take place xs)) at.same here)
  where
    here_of : (rs : List SiteRecord) → SaysSame (reverse (part xs last place)) rs → AllFit home (get_or xs place d ∷ rs) → Fits home (get_or xs place d) rs
    here_of (x ∷ rs) s h = h.0
    here_of [] (inl e) h = fit_here home (get_or xs place d) [] (subst (IsJournalOf home) e at.front) h
    here_of [] (inr (sum, s)) h = (let never = s.there in cc)

-- a journal with a first record has one
pub some_records : (xs : List SiteRecord) → HasHome (reverse xs) → 1 ≤ length xs
some_records [] (home, e) = let never : None ≡ Some home = e in cc
some_records (x ∷ xs) h = omega arith

-- at its end all fit
pub whole_fit : (home : Home) (xs : List SiteRecord) (last place : ℕ) → length xs ≤ place → place ≤ length xs → IsAt home xs last place → AllFit home (reverse xs)
whole_fit home xs last place all within at =
    let same : place ≡ length xs = omega (arith, all, within) in
    subst (λ ys. AllFit home (reverse ys)) (take-length xs) (subst (λ n. AllFit home (reverse (take n xs))) same at.fit)

-- the next front begins before the next place
pub next_before : (r : SiteRecord) (place last next : ℕ) → last < place → next ≡ front_from r place last → next < place + 1
next_before (Checkpoint sum) place last next low is = omega (arith, is)
next_before (Setup site engine protocol items) place last next low is = omega (arith, is, low)
next_before (Start n) place last next low is = omega (arith, is, low)
next_before (Prepared t e n k w) place last next low is = omega (arith, is, low)
next_before (Ended t d) place last next low is = omega (arith, is, low)
next_before (Local t n w) place last next low is = omega (arith, is, low)
