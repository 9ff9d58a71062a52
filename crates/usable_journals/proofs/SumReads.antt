-- Where the other rules of a site's journal hold, its Checkpoints are sums exactly where each says what stands before it, the older ones standing for all
-- before them.
use Rattle.std.proofs.Common.{◌≡◌, ◌↔◌, Option, Some, None, List, [], ◌∷◌, refl, sym, ap, ◌∙◌}
use Rattle.mdb_base.specs.Words.{Each}
use Rattle.fed_rules.specs.declared.records.SiteRecord.{SiteRecord}
use Rattle.fed_rules.specs.declared.records.SiteRecord.TheVariants.{Setup, Start, Prepared, Ended, Local, Checkpoint}
use Rattle.fed_rules.specs.declared.sums.SiteSum.{SiteSum}
use Rattle.fed_rules.specs.Reopened.{home_by, oldest}
use Rattle.fed_rules.specs.SiteRecords.{Home}
use Rattle.fed_rules.specs.SiteSums.{behind_sum, journal_sum, last_sum, site_sum, sum_behind, sum_with}
use Rattle.fed_rules.specs.Usable.{AreBehind, AreSumsOfSome, AreWithin, LocalsOnTop, OfFronts, SumsFit, read}
use Rattle.site_history.proofs.ForCallers.{all_in_order, all_read, all_says, all_sums, same_sum, whole_sum}
use Rattle.usable_journals.specs.SiteReads.{AllFit}

-- a journal with a Checkpoint says the same with what stands below it
record HasSum (home : Home) (newest : SiteRecord) (older : List SiteRecord) (sum : SiteSum) : Type 0 where
  last : last_sum (all_read home newest older) ≡ Some sum
  behind : behind_sum (all_read home newest older) ≡ behind_sum (newest ∷ older)

has_sum : (home : Home) (newest : SiteRecord) (older : List SiteRecord) (sum : SiteSum) → last_sum (newest ∷ older) ≡ Some sum → HasSum home newest older sum
has_sum home (Checkpoint s) [] sum e = record { last = e; behind = refl }
has_sum home (Setup site engine protocol items) [] sum e = cc
has_sum home (Start n) [] sum e = cc
has_sum home (Prepared t m n k w) [] sum e = cc
has_sum home (Ended t d) [] sum e = cc
has_sum home (Local t n w) [] sum e = cc
has_sum home (Checkpoint s) (next ∷ older) sum e = record { last = e; behind = refl }
has_sum home (Setup site engine protocol items) (next ∷ older) sum e =
    let h = has_sum home next older sum e in record { last = h.last; behind = ap (λ (rs : List SiteRecord). Setup site engine protocol items ∷ rs) h.behind }
has_sum home (Start n) (next ∷ older) sum e = let h = has_sum home next older sum e in record { last = h.last; behind = ap (λ (rs : List SiteRecord). Start n ∷ rs) h.behind }
has_sum home (Prepared t m n k w) (next ∷ older) sum e = let h = has_sum home next older sum e in record { last = h.last; behind = ap (λ (rs : List SiteRecord). Prepared t m n k w ∷ rs) h.behind }
has_sum home (Ended t d) (next ∷ older) sum e = let h = has_sum home next older sum e in record { last = h.last; behind = ap (λ (rs : List SiteRecord). Ended t d ∷ rs) h.behind }
has_sum home (Local t n w) (next ∷ older) sum e = let h = has_sum home next older sum e in record { last = h.last; behind = ap (λ (rs : List SiteRecord). Local t n w ∷ rs) h.behind }

-- without a Checkpoint the records are read as they are
read_plain : (rs : List SiteRecord) → last_sum rs ≡ None → read rs ≡ rs
read_plain [] e = refl
read_plain (Checkpoint sum ∷ rs) e = cc
read_plain (Setup site engine protocol items ∷ rs) e = ap (λ (ys : List SiteRecord). Setup site engine protocol items ∷ ys) (read_plain rs e)
read_plain (Start n ∷ rs) e = ap (λ (ys : List SiteRecord). Start n ∷ ys) (read_plain rs e)
read_plain (Prepared t m n k w ∷ rs) e = ap (λ (ys : List SiteRecord). Prepared t m n k w ∷ ys) (read_plain rs e)
read_plain (Ended t d ∷ rs) e = ap (λ (ys : List SiteRecord). Ended t d ∷ ys) (read_plain rs e)
read_plain (Local t n w ∷ rs) e = ap (λ (ys : List SiteRecord). Local t n w ∷ ys) (read_plain rs e)

-- what is asked of the journal beside its sums
pub record IsReady (home : Home) (newest : SiteRecord) (older : List SiteRecord) : Type 0 where
  pub first : home_by (oldest newest older) ≡ Some home
  pub within : Each AreWithin (newest ∷ older)
  pub some : Each AreSumsOfSome (newest ∷ older)
  pub clear : OfFronts AreBehind (newest ∷ older)
  pub on_top : LocalsOnTop (newest ∷ older)

-- a journal whose Checkpoints are sums says what all its records say
says_all : (home : Home) (newest : SiteRecord) (older : List SiteRecord) → IsReady home newest older → SumsFit home (newest ∷ older)
    → journal_sum home (newest ∷ older) ≡ site_sum home (read (newest ∷ older))
says_all home newest older ready fit = by_last (last_sum (newest ∷ older)) refl
  where
    all : journal_sum home (all_read home newest older) ≡ site_sum home (read (newest ∷ older))
    all = whole_sum home (all_read home newest older) (all_sums home newest older ready.first ready.within ready.some fit)
        (all_in_order home newest older ready.first ready.clear ready.on_top).order
        ∙ same_sum home (all_read home newest older) (read (newest ∷ older)) (all_says home newest older)

    by_last : (o : Option SiteSum) → last_sum (newest ∷ older) ≡ o → sum_behind home (newest ∷ older) o ≡ site_sum home (read (newest ∷ older))
    by_last None e = ap (site_sum home) (sym (read_plain (newest ∷ older) e))
    by_last (Some sum) e =
        let h = has_sum home newest older sum e in
        ap (sum_with sum) (sym h.behind) ∙ sym (ap (sum_behind home (all_read home newest older)) h.last) ∙ all

ready_back : (home : Home) (newest next : SiteRecord) (older : List SiteRecord) → IsReady home newest (next ∷ older) → IsReady home next older
ready_back home newest next older r = record { first = r.first; within = r.within.1; some = r.some.1; clear = r.clear.1; on_top = top newest r.on_top }
  where
    top : (x : SiteRecord) → LocalsOnTop (x ∷ next ∷ older) → LocalsOnTop (next ∷ older)
    top (Setup site engine protocol items) t = t
    top (Start n) t = t
    top (Prepared u m n k w) t = t
    top (Ended u d) t = t
    top (Local u n w) t = t.1
    top (Checkpoint sum) t = t

-- a Checkpoint behind other records says what they say where it is the sum of them
sums_step : (home : Home) (newest next : SiteRecord) (older : List SiteRecord) → IsReady home next older
    → (SumsFit home (next ∷ older) ↔ AllFit home (next ∷ older)) → SumsFit home (newest ∷ next ∷ older) ↔ AllFit home (newest ∷ next ∷ older)
sums_step home (Checkpoint sum) next older ready rest = (
  λ fit. (says_all home next older ready fit.1 ∙ sym fit.0, rest.0 fit.1),
  λ all. let fit = rest.1 all.1 in (sym all.0 ∙ says_all home next older ready fit, fit),
)
sums_step home (Setup site engine protocol items) next older ready rest = (λ fit. (tt, rest.0 fit), λ all. rest.1 all.1)
sums_step home (Start n) next older ready rest = (λ fit. (tt, rest.0 fit), λ all. rest.1 all.1)
sums_step home (Prepared t m n k w) next older ready rest = (λ fit. (tt, rest.0 fit), λ all. rest.1 all.1)
sums_step home (Ended t d) next older ready rest = (λ fit. (tt, rest.0 fit), λ all. rest.1 all.1)
sums_step home (Local t n w) next older ready rest = (λ fit. (tt, rest.0 fit), λ all. rest.1 all.1)

pub sums_are : (home : Home) (newest : SiteRecord) (older : List SiteRecord) → IsReady home newest older → SumsFit home (newest ∷ older) ↔ AllFit home (newest ∷ older)
sums_are home first [] ready = (λ f. tt, λ f. tt)
sums_are home newest (next ∷ older) ready =
    let back = ready_back home newest next older ready in sums_step home newest next older back (sums_are home next older back)
