-- The epochs of a site's journal.
use Rattle.std.proofs.Common.{ℕ, ◌+◌, length, take, drop, get_or, ◌<◌, ◌≤◌, ◌≡◌, true, nat_le, nat_lt, ◌↔◌, Option, Some, None, List, [], ◌∷◌, ◌++◌, map, reverse, refl, sym, ap, subst, ◌∙◌, arith, lt-ltb, ltb-true, le-leb, leb-true}
use Rattle.std.proofs.lemmas.List.{append_assoc}
use Rattle.mdb_base.specs.declared.names.Tid.{Tid}
use Rattle.mdb_base.proofs.ForCallers.{is_true_both, is_true_parts}
use Rattle.fed_rules.specs.declared.records.SiteRecord.{SiteRecord}
use Rattle.fed_rules.specs.declared.records.SiteRecord.TheVariants.{Setup, Start, Prepared, Ended, Local, Checkpoint}
use Rattle.fed_rules.specs.declared.sums.SiteSum.{SiteSum}
use Rattle.fed_rules.specs.Reopened.{local_read, owner_read, site_sum_read}
use Rattle.fed_rules.specs.SiteRecords.{Held, epoch_of}
use Rattle.fed_rules.specs.SiteSums.{carried}
use Rattle.fed_rules.specs.Usable.{EpochsRise, read}
use Rattle.usable_journals.specs.SiteTests as tests
use Rattle.usable_journals.proofs.Recording.{reverse_more, reverse_rest}

-- ---- what was read

over_carried : (helds : List Held) (rest : List SiteRecord) → epoch_of (carried helds ++ rest) ≡ epoch_of rest
over_carried [] rest = refl
over_carried (held ∷ helds) rest = over_carried helds rest

over_locals : (counter : ℕ) (tids : List Tid) (rest : List SiteRecord) → epoch_of (map (local_read counter) tids ++ rest) ≡ epoch_of rest
over_locals counter [] rest = refl
over_locals counter (tid ∷ tids) rest = over_locals counter tids rest

over_owner : (o : Option Tid) (sum : SiteSum) (rest : List SiteRecord) → epoch_of (owner_read o sum ++ rest) ≡ epoch_of rest
over_owner None sum rest = refl
over_owner (Some tid) sum rest = refl

sum_epoch : (sum : SiteSum) → epoch_of (site_sum_read sum) ≡ sum.epoch
sum_epoch sum =
    ap epoch_of (append_assoc (carried sum.doubtful ++ map (local_read sum.counter) sum.locals) (owner_read sum.owner sum) (Start sum.epoch ∷ []))
    ∙ ap epoch_of (append_assoc (carried sum.doubtful) (map (local_read sum.counter) sum.locals) (owner_read sum.owner sum ++ Start sum.epoch ∷ []))
    ∙ over_carried sum.doubtful (map (local_read sum.counter) sum.locals ++ (owner_read sum.owner sum ++ Start sum.epoch ∷ []))
    ∙ over_locals sum.counter sum.locals (owner_read sum.owner sum ++ Start sum.epoch ∷ [])
    ∙ over_owner sum.owner sum (Start sum.epoch ∷ [])

pub read_first_epoch : (first : SiteRecord) → epoch_of (read (first ∷ [])) ≡ tests.first_epoch first
read_first_epoch (Setup site engine protocol items) = refl
read_first_epoch (Start epoch) = refl
read_first_epoch (Prepared tid epoch number ticket writes) = refl
read_first_epoch (Ended tid decision) = refl
read_first_epoch (Local tid number writes) = refl
read_first_epoch (Checkpoint sum) = sum_epoch sum

pub read_epoch : (entry : SiteRecord) (newer : List SiteRecord) (first : SiteRecord) → epoch_of (read (entry ∷ (newer ++ first ∷ []))) ≡ tests.epoch_after (epoch_of (read (newer ++ first ∷ []))) entry
read_epoch (Setup site engine protocol items) [] first = refl
read_epoch (Setup site engine protocol items) (x ∷ newer) first = refl
read_epoch (Start epoch) [] first = refl
read_epoch (Start epoch) (x ∷ newer) first = refl
read_epoch (Prepared tid epoch number ticket writes) [] first = refl
read_epoch (Prepared tid epoch number ticket writes) (x ∷ newer) first = refl
read_epoch (Ended tid decision) [] first = refl
read_epoch (Ended tid decision) (x ∷ newer) first = refl
read_epoch (Local tid number writes) [] first = refl
read_epoch (Local tid number writes) (x ∷ newer) first = refl
read_epoch (Checkpoint sum) [] first = refl
read_epoch (Checkpoint sum) (x ∷ newer) first = refl

-- ---- one record

abbrev pub EpochFits : SiteRecord → ℕ → Type 0
EpochFits (Start next) epoch = epoch < next
EpochFits (Checkpoint sum) epoch = (1 ≤ sum.epoch) × (epoch ≤ sum.epoch)
EpochFits other epoch = Unit {0}

pub epoch_there : (entry : SiteRecord) (epoch : ℕ) → tests.epoch_fits epoch entry ≡ true → EpochFits entry epoch
epoch_there (Start next) epoch e = ltb-true epoch next e
epoch_there (Checkpoint sum) epoch e =
    let both = is_true_parts (nat_lt 0 sum.epoch) (nat_le epoch sum.epoch) e in (ltb-true 0 sum.epoch both.0, leb-true epoch sum.epoch both.1)
epoch_there (Setup site engine protocol items) epoch e = tt
epoch_there (Prepared tid started number ticket writes) epoch e = tt
epoch_there (Ended tid decision) epoch e = tt
epoch_there (Local tid number writes) epoch e = tt

pub epoch_back : (entry : SiteRecord) (epoch : ℕ) → EpochFits entry epoch → tests.epoch_fits epoch entry ≡ true
epoch_back (Start next) epoch h = lt-ltb epoch next h
epoch_back (Checkpoint sum) epoch h = is_true_both (nat_lt 0 sum.epoch) (nat_le epoch sum.epoch) (lt-ltb 0 sum.epoch h.0) (le-leb epoch sum.epoch h.1)
epoch_back (Setup site engine protocol items) epoch h = refl
epoch_back (Prepared tid started number ticket writes) epoch h = refl
epoch_back (Ended tid decision) epoch h = refl
epoch_back (Local tid number writes) epoch h = refl

pub rise_more : (entry : SiteRecord) (newer : List SiteRecord) (first : SiteRecord) → EpochFits entry (epoch_of (read (newer ++ first ∷ []))) → EpochsRise (newer ++ first ∷ []) →
    EpochsRise (entry ∷ (newer ++ first ∷ []))
rise_more (Start epoch) [] first h rest = (h, rest)
rise_more (Start epoch) (x ∷ newer) first h rest = (h, rest)
rise_more (Checkpoint sum) newer first h rest = (h.0, h.1, rest)
rise_more (Setup site engine protocol items) newer first h rest = rest
rise_more (Prepared tid epoch number ticket writes) newer first h rest = rest
rise_more (Ended tid decision) newer first h rest = rest
rise_more (Local tid number writes) newer first h rest = rest

pub rise_parts : (entry : SiteRecord) (newer : List SiteRecord) (first : SiteRecord) → EpochsRise (entry ∷ (newer ++ first ∷ [])) →
    EpochFits entry (epoch_of (read (newer ++ first ∷ []))) × EpochsRise (newer ++ first ∷ [])
rise_parts (Start epoch) [] first h = (h.0, h.1)
rise_parts (Start epoch) (x ∷ newer) first h = (h.0, h.1)
rise_parts (Checkpoint sum) newer first h = ((h.0, h.1), h.2)
rise_parts (Setup site engine protocol items) newer first h = (tt, h)
rise_parts (Prepared tid epoch number ticket writes) newer first h = (tt, h)
rise_parts (Ended tid decision) newer first h = (tt, h)
rise_parts (Local tid number writes) newer first h = (tt, h)

-- the first record alone
pub rise_first : (first : SiteRecord) → (tests.epoch_fits 0 first ≡ true) ↔ EpochsRise (first ∷ [])
rise_first (Start epoch) = (λ e. (ltb-true 0 epoch e, tt), λ h. lt-ltb 0 epoch h.0)
rise_first (Checkpoint sum) = (
  λ e. let both = epoch_there (Checkpoint sum) 0 e in (both.0, both.1, tt),
  λ h. epoch_back (Checkpoint sum) 0 (h.0, omega arith),
)
rise_first (Setup site engine protocol items) = (λ e. tt, λ h. refl)
rise_first (Prepared tid epoch number ticket writes) = (λ e. tt, λ h. refl)
rise_first (Ended tid decision) = (λ e. tt, λ h. refl)
rise_first (Local tid number writes) = (λ e. tt, λ h. refl)

-- ---- the records behind a first one, the oldest first

pub record IsAt (epoch : ℕ) (newer : List SiteRecord) (first : SiteRecord) : Type 0 where
  pub here : epoch ≡ epoch_of (read (newer ++ first ∷ []))
  pub rise : EpochsRise (newer ++ first ∷ [])

pub at_first : (epoch : ℕ) (first : SiteRecord) → epoch ≡ tests.first_epoch first → EpochsRise (first ∷ []) → IsAt epoch [] first
at_first epoch first is rise = record { here = is ∙ sym (read_first_epoch first); rise = rise }

pub next_at : (epoch next : ℕ) (xs : List SiteRecord) (n : ℕ) (d first : SiteRecord) → n < length xs → IsAt epoch (reverse (take n xs)) first → tests.epoch_fits epoch (get_or xs n d) ≡ true →
    next ≡ tests.epoch_after epoch (get_or xs n d) → IsAt next (reverse (take (n + 1) xs)) first
next_at epoch next xs n d first within at fits is =
    let before = reverse (take n xs) in
    let x = get_or xs n d in
    let more : x ∷ (before ++ first ∷ []) ≡ reverse (take (n + 1) xs) ++ first ∷ [] = ap (λ rs. rs ++ first ∷ []) (sym (reverse_more xs n d within)) in
    record {
      here = is ∙ ap (λ e. tests.epoch_after e x) at.here ∙ sym (read_epoch x before first) ∙ ap (λ rs. epoch_of (read rs)) more;
      rise = subst EpochsRise more (rise_more x before first (subst (EpochFits x) at.here (epoch_there x epoch fits)) at.rise);
    }

pub front_rises : (xs newer : List SiteRecord) (first : SiteRecord) → EpochsRise (xs ++ (newer ++ first ∷ [])) → EpochsRise (newer ++ first ∷ [])
front_rises [] newer first h = h
front_rises (x ∷ xs) newer first h =
    front_rises xs newer first
    (subst EpochsRise (append_assoc xs newer (first ∷ []))
    (rise_parts x (xs ++ newer) first (subst (λ rs. EpochsRise (x ∷ rs)) (sym (append_assoc xs newer (first ∷ []))) h)).1)

pub fits_at : (epoch : ℕ) (xs : List SiteRecord) (n : ℕ) (d first : SiteRecord) → n < length xs → IsAt epoch (reverse (take n xs)) first → EpochsRise (reverse xs ++ first ∷ []) →
    tests.epoch_fits epoch (get_or xs n d) ≡ true
fits_at epoch xs n d first within at all =
    let before = reverse (take n xs) in
    let x = get_or xs n d in
    let parts : reverse xs ++ first ∷ [] ≡ reverse (drop (n + 1) xs) ++ (reverse (take (n + 1) xs) ++ first ∷ []) =
    ap (λ rs. rs ++ first ∷ []) (reverse_rest xs (n + 1)) ∙ append_assoc (reverse (drop (n + 1) xs)) (reverse (take (n + 1) xs)) (first ∷ []) in
    let front = front_rises (reverse (drop (n + 1) xs)) (reverse (take (n + 1) xs)) first (subst EpochsRise parts all) in
    let here = (rise_parts x before first (subst EpochsRise (ap (λ rs. rs ++ first ∷ []) (reverse_more xs n d within)) front)).0 in
    epoch_back x epoch (subst (EpochFits x) (sym at.here) here)

pub empty_rises : (records : List SiteRecord) → length records ≡ 0 → (true ≡ true) ↔ EpochsRise (reverse records)
empty_rises [] none = (λ e. tt, λ f. refl)
empty_rises (x ∷ records) none = absurd (omega (arith, none))
