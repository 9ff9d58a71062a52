-- What the reasons of a site's records say of its journal: only its first record is a Setup, locals have numbers, epochs rise, and who ended was in doubt.
use Rattle.std.proofs.Common.{◌≡◌, ◌≤◌, Option, Some, None, List, [], ◌∷◌, ◌++◌, map, refl, sym, ap, subst, ◌∙◌, arith}
use Rattle.mdb_base.specs.declared.names.Tid.{Tid}
use Rattle.fed_rules.specs.declared.records.SiteRecord.{SiteRecord}
use Rattle.fed_rules.specs.declared.records.SiteRecord.TheVariants.{Setup, Start, Prepared, Ended, Local, Checkpoint}
use Rattle.fed_rules.specs.declared.sums.SiteSum.{SiteSum}
use Rattle.fed_rules.specs.Reopened.{local_read, owner_read, site_sum_read}
use Rattle.fed_rules.specs.Site.{site_past}
use Rattle.fed_rules.specs.SitePast.{journal, records}
use Rattle.fed_rules.specs.SiteRecords.{Held, Home, epoch_of}
use Rattle.fed_rules.specs.SiteSums.{carried, site_sum}
use Rattle.fed_rules.specs.Usable.{EpochsRise, SetUpFirst, read}
use Rattle.fed_rules.proofs.ForCallers.{epoch_same}
use Rattle.site_history.proofs.ForCallers.{IsFounded, foundation, founded, of_events, pasts_summed}
use Rattle.site_history.specs.Sums.{AreSums}
use Rattle.disk_laws.specs.Left.{OfSites, OneSetup, EpochsStandInOrder}
use Rattle.disk_laws.proofs.SiteLeft.{counts}
use Rattle.disk_laws.proofs.SiteRead.{Counts, Whole, Behind}
use Rattle.disk_laws.proofs.SiteWalk.{AreWritten, set_all, set_more, written_front, written_past}

-- ---- one Setup

set_behind : (newer before : List SiteRecord) (sum : SiteSum) → AreWritten (newer ++ Checkpoint sum ∷ before) → SetUpFirst (newer ++ Checkpoint sum ∷ [])
set_behind [] before sum w = tt
set_behind (x ∷ newer) before sum w =
    set_more x (newer ++ Checkpoint sum ∷ before) (newer ++ Checkpoint sum ∷ []) w.0 (λ e. absurd (some newer e)) (set_behind newer before sum w.1)
  where
    some : (xs : List SiteRecord) → xs ++ Checkpoint sum ∷ before ≡ [] → ⊥
    some [] e = cc
    some (y ∷ ys) e = cc

one_setup : (home : Home) (rs js : List SiteRecord) → Counts home rs js → AreWritten rs → SetUpFirst js
one_setup home rs js (Whole newer e f) w = subst SetUpFirst (e ∙ sym f) (set_all rs w)
one_setup home rs js (Behind newer before e f) w = subst SetUpFirst (sym f) (set_behind newer before (site_sum home before) (subst AreWritten e w))

pub leave_setup : OfSites OneSetup
leave_setup = of_events (λ home past. SetUpFirst (journal home past))
    (λ home local events sorted.
    let past = site_past home events in
    one_setup home (records home past) (journal home past) (counts home local events sorted) (written_past home local events sorted).written)

-- ---- epochs

pub read_founded : (home : Home) (newer : List SiteRecord) → read (newer ++ foundation home) ≡ newer ++ foundation home
read_founded home [] = refl
read_founded home (Checkpoint s ∷ []) = refl
read_founded home (Checkpoint s ∷ r ∷ newer) = ap (λ xs. Checkpoint s ∷ xs) (read_founded home (r ∷ newer))
read_founded home (Setup site engine protocol items ∷ newer) = ap (λ xs. Setup site engine protocol items ∷ xs) (read_founded home newer)
read_founded home (Start e ∷ newer) = ap (λ xs. Start e ∷ xs) (read_founded home newer)
read_founded home (Prepared t e n k w ∷ newer) = ap (λ xs. Prepared t e n k w ∷ xs) (read_founded home newer)
read_founded home (Ended t d ∷ newer) = ap (λ xs. Ended t d ∷ xs) (read_founded home newer)
read_founded home (Local t n w ∷ newer) = ap (λ xs. Local t n w ∷ xs) (read_founded home newer)

pub read_behind : (newer : List SiteRecord) (sum : SiteSum) → read (newer ++ Checkpoint sum ∷ []) ≡ newer ++ Checkpoint sum ∷ site_sum_read sum
read_behind [] sum = refl
read_behind (Checkpoint s ∷ []) sum = refl
read_behind (Checkpoint s ∷ r ∷ newer) sum = ap (λ xs. Checkpoint s ∷ xs) (read_behind (r ∷ newer) sum)
read_behind (Setup site engine protocol items ∷ newer) sum = ap (λ xs. Setup site engine protocol items ∷ xs) (read_behind newer sum)
read_behind (Start e ∷ newer) sum = ap (λ xs. Start e ∷ xs) (read_behind newer sum)
read_behind (Prepared t e n k w ∷ newer) sum = ap (λ xs. Prepared t e n k w ∷ xs) (read_behind newer sum)
read_behind (Ended t d ∷ newer) sum = ap (λ xs. Ended t d ∷ xs) (read_behind newer sum)
read_behind (Local t n w ∷ newer) sum = ap (λ xs. Local t n w ∷ xs) (read_behind newer sum)

epoch_over : (newer xs ys : List SiteRecord) → epoch_of xs ≡ epoch_of ys → epoch_of (newer ++ xs) ≡ epoch_of (newer ++ ys)
epoch_over [] xs ys e = e
epoch_over (Start n ∷ newer) xs ys e = refl
epoch_over (Setup site engine protocol items ∷ newer) xs ys e = epoch_over newer xs ys e
epoch_over (Prepared t d n k w ∷ newer) xs ys e = epoch_over newer xs ys e
epoch_over (Ended t d ∷ newer) xs ys e = epoch_over newer xs ys e
epoch_over (Local t n w ∷ newer) xs ys e = epoch_over newer xs ys e
epoch_over (Checkpoint sum ∷ newer) xs ys e = epoch_over newer xs ys e

pub epoch_read : (home : Home) (before : List SiteRecord) → epoch_of (site_sum_read (site_sum home before)) ≡ epoch_of before
epoch_read home before = passes (site_sum home before).doubtful (site_sum home before).locals (site_sum home before).owner ∙ epoch_same before
  where
    sum : SiteSum
    sum = site_sum home before

    passes : (hs : List Held) (ts : List Tid) (o : Option Tid)
        → epoch_of (((carried hs ++ map (local_read sum.counter) ts) ++ owner_read o sum) ++ Start sum.epoch ∷ []) ≡ sum.epoch
    passes (h ∷ hs) ts o = passes hs ts o
    passes [] (t ∷ ts) o = passes [] ts o
    passes [] [] None = refl
    passes [] [] (Some t) = refl

-- behind a Start no epoch is 0
epoch_some : (newer rest : List SiteRecord) → AreWritten (newer ++ rest) → 1 ≤ epoch_of rest → 1 ≤ epoch_of (newer ++ rest)
epoch_some [] rest w some = some
epoch_some (Start e ∷ newer) rest w some = let is = w.0 in omega (arith, is)
epoch_some (Setup site engine protocol items ∷ newer) rest w some = epoch_some newer rest w.1 some
epoch_some (Prepared t d n k v ∷ newer) rest w some = epoch_some newer rest w.1 some
epoch_some (Ended t d ∷ newer) rest w some = epoch_some newer rest w.1 some
epoch_some (Local t n v ∷ newer) rest w some = epoch_some newer rest w.1 some
epoch_some (Checkpoint sum ∷ newer) rest w some = epoch_some newer rest w.1 some

-- a Checkpoint stands behind the foundation
sum_founded : (home : Home) (sum : SiteSum) (newer before xs : List SiteRecord) → newer ++ Checkpoint sum ∷ before ≡ xs ++ foundation home → IsFounded home before
sum_founded home sum [] before [] e = cc
sum_founded home sum [] before (x ∷ xs) e = record { newer = xs; founded = behind e }
  where
    behind : Checkpoint sum ∷ before ≡ x ∷ (xs ++ foundation home) → before ≡ xs ++ foundation home
    behind f = cc
sum_founded home sum (y ∷ []) before [] e = cc
sum_founded home sum (y ∷ z ∷ []) before [] e = cc
sum_founded home sum (y ∷ z ∷ u ∷ newer) before [] e = cc
sum_founded home sum (y ∷ newer) before (x ∷ xs) e = sum_founded home sum newer before xs (behind e)
  where
    behind : y ∷ (newer ++ Checkpoint sum ∷ before) ≡ x ∷ (xs ++ foundation home) → newer ++ Checkpoint sum ∷ before ≡ xs ++ foundation home
    behind f = cc

founded_some : (home : Home) (rs : List SiteRecord) → IsFounded home rs → AreWritten rs → 1 ≤ epoch_of rs
founded_some home rs f w =
    subst (λ xs. 1 ≤ epoch_of xs) (sym f.founded) (epoch_some f.newer (foundation home) (subst AreWritten f.founded w) (omega arith))

-- a front of the journal is read as having the epoch that the records have
epochs_rise : (home : Home) (newer rest short : List SiteRecord) → ((xs : List SiteRecord) → epoch_of (read (xs ++ short)) ≡ epoch_of (xs ++ rest)) → 1 ≤ epoch_of rest
    → EpochsRise short → AreWritten (newer ++ rest) → AreSums home (newer ++ rest) → EpochsRise (newer ++ short)
epochs_rise home [] rest short same some base w s = base
epochs_rise home (Start e ∷ newer) rest short same some base w s =
    ((let is = w.0 in let here = same newer in omega (arith, is, here)), epochs_rise home newer rest short same some base w.1 s)
epochs_rise home (Checkpoint sum ∷ newer) rest short same some base w s =
    let is = ap (λ (z : SiteSum). z.epoch) s.0 in
    let old = epoch_same (newer ++ rest) in (
      (let least = epoch_some newer rest w.1 some in omega (arith, least, is, old)),
      (let here = same newer in omega (arith, here, is, old)),
      epochs_rise home newer rest short same some base w.1 s.1,
    )
epochs_rise home (Setup site engine protocol items ∷ newer) rest short same some base w s = epochs_rise home newer rest short same some base w.1 s
epochs_rise home (Prepared t d n k v ∷ newer) rest short same some base w s = epochs_rise home newer rest short same some base w.1 s
epochs_rise home (Ended t d ∷ newer) rest short same some base w s = epochs_rise home newer rest short same some base w.1 s
epochs_rise home (Local t n v ∷ newer) rest short same some base w s = epochs_rise home newer rest short same some base w.1 s

all_rise : (home : Home) (rs js : List SiteRecord) → Counts home rs js → IsFounded home rs → AreWritten rs → AreSums home rs → EpochsRise js
all_rise home rs js (Whole newer e f) g w s =
    subst EpochsRise (sym f)
    (epochs_rise home newer (foundation home) (foundation home) (λ xs. ap epoch_of (read_founded home xs)) (omega arith) (omega arith, tt) (subst AreWritten e w)
    (subst (AreSums home) e s))
all_rise home rs js (Behind newer before e f) g w s =
    let sum = site_sum home before in
    let here : AreWritten (newer ++ Checkpoint sum ∷ before) = subst AreWritten e w in
    let some = founded_some home before (sum_founded home sum newer before g.newer (sym e ∙ g.founded)) (written_front newer (Checkpoint sum ∷ before) here).1 in
    let is = epoch_same before in
    subst EpochsRise (sym f)
    (epochs_rise home newer (Checkpoint sum ∷ before) (Checkpoint sum ∷ [])
    (λ xs. ap epoch_of (read_behind xs sum) ∙ epoch_over xs (Checkpoint sum ∷ site_sum_read sum) (Checkpoint sum ∷ before) (epoch_read home before))
    some (omega (arith, some, is), omega arith, tt) here (subst (AreSums home) e s))

pub leave_epochs : OfSites EpochsStandInOrder
leave_epochs = of_events (λ home past. EpochsRise (journal home past))
    (λ home local events sorted.
    let past = site_past home events in
    all_rise home (records home past) (journal home past) (counts home local events sorted) (founded home past)
    (written_past home local events sorted).written (pasts_summed home local events sorted).sums)
