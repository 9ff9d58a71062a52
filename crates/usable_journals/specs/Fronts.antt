-- What a front of a site's journal leaves: who is in doubt, who writes which key, and whether the next record may stand behind it. Lists of records
-- stand newest first.
use Rattle.std.specs.Prelude.{ℕ, ◌≡◌, ◌<◌, ◌≤◌, ◌⊎◌, Bool, true, false, cond, ◌&&◌, IsTrue, Option, Some, None, List, [], ◌∷◌, map, nat_lt}
use Rattle.std.specs.BTreeMap.{get}
use Rattle.std.specs.BTreeSet.{BTreeSet, contains}
use Rattle.std.specs.Ordering.{is_eq, nat_cmp}
use Rattle.mdb_base.specs.declared.names.Key.{Key}
use Rattle.mdb_base.specs.declared.names.Tid.{Tid}
use Rattle.mdb_base.specs.declared.rows.Put.{Put}
use Rattle.mdb_base.specs.Words.{Each, each_of}
use Rattle.order_laws.specs.Chains.{Distinct, In}
use Rattle.mdb_base.specs.Names.{tid_cmp}
use Rattle.fed_rules.specs.declared.records.SiteRecord.{SiteRecord}
use Rattle.fed_rules.specs.declared.records.SiteRecord.TheVariants.{Prepared, Local, Checkpoint}
use Rattle.fed_rules.specs.EngineLines.{has_row}
use Rattle.fed_rules.specs.Reopened.{local_read}
use Rattle.fed_rules.specs.SiteRecords.{Held, Install, doubt_of, installs}
use Rattle.fed_rules.specs.Usable.{AreBehind, DoubtsApart, KeepClear, LocalsOnTop, OfFronts}
use Rattle.journal_sums.specs.Versions.{key_cmp}
use Rattle.usable_journals.specs.declared.fronts.Front.{Front}
use Rattle.usable_journals.specs.SiteTests.{is_over}
use Rattle.usable_journals.specs.Walks as Walks
use Rattle.usable_journals.specs.Walks.{Walk}

-- the order of those in doubt, of what is committed, and of local commits, at every front
pub record AreInOrder (journal : List SiteRecord) : Type 0 where
  pub apart : OfFronts DoubtsApart journal
  pub clear : OfFronts AreBehind journal
  pub on_top : LocalsOnTop journal

abbrev pub IsDoubt : List SiteRecord → Held → Type 0
IsDoubt records held = doubt_of records held.tid ≡ Some held

-- one in doubt as its Prepared record
abbrev pub held_read : Held → SiteRecord
held_read held = Prepared held.tid held.epoch held.number held.ticket held.writes

-- what the rules of tickets and of attempts give: a Prepared is of an attempt that isn't in doubt, and has a greater ticket than all that are
abbrev pub IsNew : SiteRecord → List SiteRecord → Type 0
IsNew (Prepared tid epoch number ticket writes) older = (doubt_of older tid ≡ None) × ((held : Held) → IsDoubt older held → held.ticket < ticket)
IsNew other older = Unit {0}

abbrev pub AreNew : List SiteRecord → Type 0
AreNew [] = Unit {0}
AreNew (newest ∷ older) = IsNew newest older × AreNew older

-- whether the next record may stand behind these. A Prepared: it has a greater number than all in doubt, and writes no key of theirs, and none that was
-- written by a committed one of this number or a greater one. A Local: each committed one that wrote one of its keys has a smaller number, and each
-- in doubt that writes one has a greater number
abbrev pub MayStand : SiteRecord → List SiteRecord → Type 0
MayStand (Prepared tid epoch number ticket writes) older =
    ((held : Held) → IsDoubt older held → (held.number < number) × KeepClear writes held.writes)
    × ((install : Install) → In install (installs older) → number ≤ install.number → KeepClear writes install.writes)
MayStand (Local tid number writes) older =
    ((held : Held) → IsDoubt older held → held.number ≤ number → KeepClear held.writes writes)
    × ((install : Install) → In install (installs older) → (install.number < number) ⊎ KeepClear writes install.writes)
MayStand other older = Unit {0}

abbrev pub MayAllStand : List SiteRecord → Type 0
MayAllStand [] = Unit {0}
MayAllStand (newest ∷ older) = MayStand newest older × MayAllStand older

-- ---- what the walk keeps

-- the number is that of one in doubt that writes the key; without a number none writes it
abbrev pub IsHeldBy : List SiteRecord → Key → Option ℕ → Type 0
IsHeldBy records key None = (held : Held) → IsDoubt records held → has_row key held.writes ≡ false
IsHeldBy records key (Some number) = (held : Held) × IsDoubt records held × (has_row key held.writes ≡ true) × (held.number ≡ number)

-- the number is the greatest one of those committed that wrote the key; without a number none wrote it
abbrev pub IsWrittenUpTo : List Install → Key → Option ℕ → Type 0
IsWrittenUpTo committed key None = (install : Install) → In install committed → has_row key install.writes ≡ false
IsWrittenUpTo committed key (Some last) =
    ((install : Install) × In install committed × (has_row key install.writes ≡ true) × (install.number ≡ last))
    × ((install : Install) → In install committed → has_row key install.writes ≡ true → install.number ≤ last)

pub record Tells (front : Front) (records : List SiteRecord) : Type 0 where
  pub doubts : (tid : Tid) → get tid_cmp front.doubts tid ≡ doubt_of records tid
  pub numbers : (n : ℕ) → IsTrue (contains nat_cmp front.numbers n) → (held : Held) × IsDoubt records held × (held.number ≡ n)
  pub all_numbers : (held : Held) → IsDoubt records held → IsTrue (contains nat_cmp front.numbers held.number)
  pub held : (key : Key) → IsHeldBy records key (get key_cmp front.held key)
  pub committed : (key : Key) → IsWrittenUpTo (installs records) key (get key_cmp front.committed key)

abbrev pub walk : Walk Front SiteRecord
walk = record { Given = AreNew; Tells = Tells; Keeps = MayAllStand }

abbrev pub TakesAll : (before after : Front) → (entries : List SiteRecord) → (fits : Bool) → Type 0
TakesAll before after entries fits = Walks.TakesAll walk before after entries fits

abbrev pub Takes : (before after : Front) → SiteRecord → (fits : Bool) → Type 0
Takes before after entry fits = TakesAll before after (entry ∷ []) fits

-- ---- its tests, by the numbers that hold and wrote a key

abbrev pub is_free : Option ℕ → Bool
is_free None = true
is_free (Some n) = false

abbrev pub is_under : Option ℕ → ℕ → Bool
is_under None number = true
is_under (Some held) number = nat_lt number held

abbrev pub may_hold : Front → ℕ → Put → Bool
may_hold front number put = is_free (get key_cmp front.held put.key) && is_over (get key_cmp front.committed put.key) number

abbrev pub may_write : Front → ℕ → Put → Bool
may_write front number put = is_under (get key_cmp front.held put.key) number && is_over (get key_cmp front.committed put.key) number

abbrev pub IsLast : BTreeSet ℕ → ℕ → Type 0
IsLast numbers number = (n : ℕ) → IsTrue (contains nat_cmp numbers n) → n < number

pub record CanHold (front : Front) (number : ℕ) (writes : List Put) : Type 0 where
  pub last : IsLast front.numbers number
  pub keys : each_of (may_hold front number) writes ≡ true

-- ---- the records that a first Checkpoint is taken as

-- the last one of this ticket, or else the one before
abbrev pub held_at : List Held → ℕ → Option Held → Option Held
held_at [] ticket before = before
held_at (x ∷ xs) ticket before = held_at xs ticket (cond (is_eq (nat_cmp x.ticket ticket)) (Some x) before)

-- each has a greater ticket than all behind it
abbrev pub FallByTicket : List Held → Type 0
FallByTicket [] = Unit {0}
FallByTicket (x ∷ xs) = Each (λ (y : Held). y.ticket < x.ticket) xs × FallByTicket xs

-- the same ones, by falling ticket
pub record IsByTicket (helds sorted : List Held) : Type 0 where
  pub falls : FallByTicket sorted
  pub there : (held : Held) → In held sorted → In held helds
  pub back : (held : Held) → In held helds → In held sorted

-- a first record is taken as itself, and a Checkpoint as those that it has in doubt, by falling ticket
abbrev pub IsTakenAs : SiteRecord → List SiteRecord → Type 0
IsTakenAs (Checkpoint sum) base = (sorted : List Held) × IsByTicket sum.doubtful sorted × (base ≡ map held_read sorted)
IsTakenAs first base = base ≡ first ∷ []

-- behind its committed local ones
abbrev pub below : SiteRecord → List SiteRecord
below (Checkpoint sum) = map (local_read sum.counter) sum.locals
below first = []

-- the tickets of a first Checkpoint's doubtful ones differ
abbrev pub TicketsDiffer : SiteRecord → Type 0
TicketsDiffer (Checkpoint sum) = Distinct (map (λ (held : Held). held.ticket) sum.doubtful)
TicketsDiffer first = Unit {0}

-- what the first record was taken as, and whether it keeps the rule
abbrev pub TakesFirst : (before after : Front) → SiteRecord → (fits : Bool) → Type 0
TakesFirst before after first fits = (base : List SiteRecord) × IsTakenAs first base × TakesAll before after base fits
