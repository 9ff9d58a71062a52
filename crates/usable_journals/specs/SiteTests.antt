-- The rules that a usable journal of a site keeps, as tests. Lists of records stand newest first.
use Rattle.std.specs.Prelude.{ℕ, max, ◌^◌, ◌==◌, Bool, true, false, not, ◌&&◌, ◌||◌, nat_lt, nat_le, is_some, Option, Some, None, List, [], ◌∷◌, map}
use Rattle.mdb_base.specs.declared.names.Tid.{Tid}
use Rattle.mdb_base.specs.declared.names.Tx.{Tx}
use Rattle.mdb_base.specs.Names.{same_tid, same_tx}
use Rattle.mdb_base.specs.Words.{each_of, some_of, is_empty}
use Rattle.fed_rules.specs.declared.records.SiteRecord.{SiteRecord}
use Rattle.fed_rules.specs.declared.records.SiteRecord.TheVariants.{Setup, Start, Prepared, Ended, Local, Checkpoint}
use Rattle.fed_rules.specs.declared.sums.SiteSum.{SiteSum}
use Rattle.presumptions.specs.declared.Participant.{Participant}
use Rattle.fed_rules.specs.SiteRecords.{Held, Home}
use Rattle.fed_rules.specs.SiteRecords.{doubt_of}
use Rattle.usable_journals.specs.Numbers.{differ}
use Rattle.usable_journals.specs.Rising.{rises}

-- ---- numbers, tickets and epochs in range

abbrev pub is_some_number : ℕ → Bool
is_some_number n = nat_lt 0 n && nat_lt n (2 ^ 62)

abbrev pub is_early : ℕ → Bool
is_early epoch = nat_lt epoch (2 ^ 31)

abbrev pub held_is_below : Held → Bool
held_is_below held = is_some_number held.number && (is_some_number held.ticket && is_early held.epoch)

abbrev pub sum_is_below : SiteSum → Bool
sum_is_below sum = is_early sum.epoch && (nat_lt sum.counter (2 ^ 62) && (nat_lt sum.published (2 ^ 62) && each_of held_is_below sum.doubtful))

abbrev pub is_below : SiteRecord → Bool
is_below (Start epoch) = is_early epoch
is_below (Prepared tid epoch number ticket writes) = is_some_number number && (is_some_number ticket && is_early epoch)
is_below (Local tid number writes) = is_some_number number
is_below (Checkpoint sum) = sum_is_below sum
is_below other = true

-- ---- epochs rise

-- whether the next record's epoch fits this one
abbrev pub epoch_fits : ℕ → SiteRecord → Bool
epoch_fits epoch (Start next) = nat_lt epoch next
epoch_fits epoch (Checkpoint sum) = nat_lt 0 sum.epoch && nat_le epoch sum.epoch
epoch_fits epoch other = true

abbrev pub epoch_after : ℕ → SiteRecord → ℕ
epoch_after epoch (Start next) = next
epoch_after epoch other = epoch

-- the epoch of a first record, or of a first Checkpoint
abbrev pub first_epoch : SiteRecord → ℕ
first_epoch (Start epoch) = epoch
first_epoch (Checkpoint sum) = sum.epoch
first_epoch other = 0

-- ---- tickets rise

-- whether it is over this floor, where there is one
abbrev pub is_over : Option ℕ → ℕ → Bool
is_over None n = true
is_over (Some f) n = nat_lt f n

abbrev pub greater_of : Option ℕ → ℕ → ℕ
greater_of None n = n
greater_of (Some f) n = max f n

abbrev pub ticket_fits : Option ℕ → SiteRecord → Bool
ticket_fits floor (Prepared tid epoch number ticket writes) = is_over floor ticket
ticket_fits floor other = true

abbrev pub floor_after : Option ℕ → SiteRecord → Option ℕ
floor_after floor (Prepared tid epoch number ticket writes) = Some (greater_of floor ticket)
floor_after floor (Checkpoint sum) = Some (greater_of floor sum.published)
floor_after floor other = floor

-- the greatest ticket of the records, and published one of their Checkpoints
abbrev pub floor_of : List SiteRecord → Option ℕ
floor_of [] = None
floor_of (newest ∷ older) = floor_after (floor_of older) newest

-- ---- a set-up stands first alone

abbrev pub sets_up : SiteRecord → Bool
sets_up (Setup site engine protocol items) = true
sets_up other = false

-- a site with its protocol
abbrev pub member_of : Home → Participant
member_of home = record { site = home.site; protocol = home.protocol }

-- ---- serial numbers differ

abbrev pub has_number : ℕ → SiteRecord → Bool
has_number n (Prepared tid epoch number ticket writes) = number == n
has_number n (Local tid number writes) = number == n
has_number n other = false

-- ---- each attempt once

abbrev pub is_prepared_of : Tid → SiteRecord → Bool
is_prepared_of tid (Prepared prepared epoch number ticket writes) = same_tid prepared tid
is_prepared_of tid other = false

abbrev pub is_local_of : Tx → SiteRecord → Bool
is_local_of tx (Local tid number writes) = same_tx tid.tx tx
is_local_of tx other = false

abbrev pub may_stand : SiteRecord → List SiteRecord → Bool
may_stand (Prepared tid epoch number ticket writes) older = not (some_of (is_prepared_of tid) older)
may_stand (Ended tid decision) older = is_some (doubt_of older tid) || not (some_of (is_prepared_of tid) older)
may_stand (Local tid number writes) older = not (some_of (is_local_of tid.tx) older)
may_stand other older = true

abbrev pub once_each : List SiteRecord → Bool
once_each [] = true
once_each (newest ∷ older) = may_stand newest older && once_each older

-- ---- a Checkpoint fits together

abbrev pub is_up_to : ℕ → ℕ → Held → Bool
is_up_to counter published held = nat_le held.number counter && nat_le held.ticket published

abbrev pub sum_is_within : SiteSum → Bool
sum_is_within sum = each_of (is_up_to sum.counter sum.published) sum.doubtful && differ (map (λ (held : Held). held.ticket) sum.doubtful)

abbrev pub is_within : SiteRecord → Bool
is_within (Checkpoint sum) = sum_is_within sum
is_within other = true

-- ---- its owner and its counter, and its lists rise

abbrev pub is_owned : Option Tid → (published counter : ℕ) → (no_locals : Bool) → Bool
is_owned (Some owner) published counter no_locals = nat_le 1 published && nat_le 1 counter
is_owned None published counter no_locals = (published == 0) && (not no_locals || (counter == 0))

abbrev pub sum_is_of_some : SiteSum → Bool
sum_is_of_some sum =
    is_owned sum.owner sum.published sum.counter (is_empty sum.locals)
    && (rises (λ (held : Held). held.tid) None sum.doubtful && rises (λ (tid : Tid). tid) None sum.locals)

abbrev pub is_of_some : SiteRecord → Bool
is_of_some (Checkpoint sum) = sum_is_of_some sum
is_of_some other = true
