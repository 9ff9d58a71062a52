-- What was read, with one more record and as the content of a Checkpoint.
use Rattle.std.proofs.Common.{◌≡◌, ℕ, Bool, true, false, cond, nat_lt, Option, Some, None, List, [], ◌∷◌, ◌++◌, ◌+◌, ◌<◌, length, get_or, take, reverse, refl, sym, ap, ◌∙◌, subst, arith}
use Rattle.std.specs.Prelude.{max}
use Rattle.std.specs.List.Sorted.{IsStrictlySortedBy}
use Rattle.std.specs.Map.{keys_of, values_of}
use Rattle.std.specs.BTreeMap.{BTreeMap, get}
use Rattle.std.proofs.lemmas.Bool.{cond-false, ltb-false, le-ltb}
use Rattle.std.proofs.lemmas.List.{append-nil, reverse-append, reverse-reverse, take_more}
use Rattle.mdb_base.specs.declared.names.Key.{Key}
use Rattle.mdb_base.specs.declared.names.Tid.{Tid}
use Rattle.mdb_base.specs.declared.rows.Put.{Put}
use Rattle.mdb_base.specs.Names.{same_tid, tid_before, tid_cmp}
use Rattle.mdb_base.specs.Rising.{IsRising}
use Rattle.mdb_base.specs.Rows.{value_in}
use Rattle.mdb_base.specs.Words.{inserted, or_else}
use Rattle.mdb_base.proofs.ForCallers.{same_rows}
use Rattle.presumptions.specs.declared.Decision.TheVariants as Decided
use Rattle.fed_rules.specs.declared.records.SiteRecord.{SiteRecord}
use Rattle.fed_rules.specs.declared.records.SiteRecord.TheVariants.{Setup, Start, Prepared, Ended, Local, Checkpoint}
use Rattle.fed_rules.specs.declared.sums.SiteSum.{SiteSum}
use Rattle.fed_rules.specs.SiteRecords.{Held, Home, doubts, install_held, installs, last_number, last_ticket, rows_after, ticket_owner}
use Rattle.fed_rules.specs.SiteSums.{behind_sum, carried, journal_sum, last_sum, locals_with, site_sum, sum_behind, sum_with}
use Rattle.journal_sums.specs.declared.counters.SiteCounters.{SiteCounters}
use Rattle.journal_sums.specs.declared.reading.Reading.{Reading}
use Rattle.journal_sums.specs.declared.versions.Versions.{Versions}
use Rattle.journal_sums.specs.Journals.{Begins, IsFirst, IsJournal, IsJournalOf, base, first_sum}
use Rattle.journal_sums.specs.Locals.{local_tids}
use Rattle.order_laws.specs.SortedLists.{also}
use Rattle.engine_laws.proofs.ForCallers.{rising_rows_after}
use Rattle.journal_sums.specs.Readings.{Adds, Holds, Says, SaysJournal, TellsCounters}
use Rattle.journal_sums.specs.Versions.{kept, row_of, version_after, version_in}
use Rattle.journal_sums.proofs.DoubtLaws.{values_doubts}
use Rattle.journal_sums.proofs.VersionLaws.{falls-installs, value_in-rows_after, version_in-by_number}

-- the counters stand beside what it holds
pub holds_beside : (reading : Reading) (counters : SiteCounters) (sum : SiteSum) (newer : List SiteRecord) → Holds reading sum newer →
    Holds (record {
      site = reading.site;
      engine = reading.engine;
      protocol = reading.protocol;
      counters = counters;
      versions = reading.versions;
      first_locals = reading.first_locals;
      locals = reading.locals;
      doubtful = reading.doubtful;
    }) sum newer
holds_beside reading counters sum newer h = record {
  site = h.site;
  engine = h.engine;
  protocol = h.protocol;
  rising = h.rising;
  versions = h.versions;
  first_locals = h.first_locals;
  locals = h.locals;
  doubtful = h.doubtful;
}

-- a committed one is installed, and is no longer in doubt
pub adds_commit : (old : Reading) (versions : Versions) (doubtful : BTreeMap Tid Held) (tid : Tid) (held : Held) → get tid_cmp old.doubtful tid ≡ Some held →
    ((key : Key) → kept versions key ≡ version_after held.number (value_in held.writes key) (kept old.versions key)) →
    ((other : Tid) → get tid_cmp doubtful other ≡ cond (same_tid tid other) None (get tid_cmp old.doubtful other)) →
    Adds old (record {
      site = old.site;
      engine = old.engine;
      protocol = old.protocol;
      counters = old.counters;
      versions = versions;
      first_locals = old.first_locals;
      locals = old.locals;
      doubtful = doubtful;
    }) (Ended tid Decided.Commit)
adds_commit old versions doubtful tid held is installed gone sum newer h = record {
  site = h.site;
  engine = h.engine;
  protocol = h.protocol;
  rising = h.rising;
  versions = λ key.
      installed key ∙ ap (version_after held.number (value_in held.writes key)) (h.versions key)
      ∙ sym (version_in-by_number sum.rows (record { tid = held.tid; number = held.number; writes = held.writes }) (installs rest) key (falls-installs rest))
      ∙ ap (λ o. version_in sum.rows (install_held o (installs rest)) key) (sym is ∙ h.doubtful tid);
  first_locals = h.first_locals;
  locals = h.locals;
  doubtful = λ other. gone other ∙ ap (cond (same_tid tid other) None) (h.doubtful other);
}
  where
    rest : List SiteRecord
    rest = newer ++ carried sum.doubtful

-- a local transaction is installed
pub adds_local : (old new : Reading) (tid : Tid) (number : ℕ) (writes : List Put) → new.site ≡ old.site → new.engine ≡ old.engine → new.protocol ≡ old.protocol →
    ((key : Key) → kept new.versions key ≡ version_after number (value_in writes key) (kept old.versions key)) →
    new.first_locals ≡ old.first_locals → new.locals.items ≡ old.locals.items ++ tid ∷ [] → new.doubtful ≡ old.doubtful → Adds old new (Local tid number writes)
adds_local old new tid number writes site engine protocol installed first pushed doubtful sum newer h = record {
  site = site ∙ h.site;
  engine = engine ∙ h.engine;
  protocol = protocol ∙ h.protocol;
  rising = h.rising;
  versions = λ key.
      installed key ∙ ap (version_after number (value_in writes key)) (h.versions key)
      ∙ sym (version_in-by_number sum.rows (record { tid = tid; number = number; writes = writes }) (installs rest) key (falls-installs rest));
  first_locals = first ∙ h.first_locals;
  locals = ap (λ (tids : List Tid). reverse tids) pushed ∙ reverse-append old.locals.items (tid ∷ []) ∙ ap (λ (tids : List Tid). tid ∷ tids) h.locals;
  doubtful = λ other. ap (λ (tree : BTreeMap Tid Held). get tid_cmp tree other) doubtful ∙ h.doubtful other;
}
  where
    rest : List SiteRecord
    rest = newer ++ carried sum.doubtful

-- a record that is no Checkpoint stands behind the last one
pub adds_journal : (old new : Reading) (entry : SiteRecord) → ((sum : SiteSum) (newer : List SiteRecord) → Says old sum newer → Says new sum (entry ∷ newer)) →
    ((sum : SiteSum) → entry ≡ Checkpoint sum → ⊥) → (home : Home) (journal : List SiteRecord) → SaysJournal old home journal → SaysJournal new home (entry ∷ journal)
adds_journal old new (Setup site engine protocol items) adds other home journal says = adds (base home journal) (behind_sum journal) says
adds_journal old new (Start epoch) adds other home journal says = adds (base home journal) (behind_sum journal) says
adds_journal old new (Prepared tid epoch number ticket writes) adds other home journal says = adds (base home journal) (behind_sum journal) says
adds_journal old new (Ended tid decision) adds other home journal says = adds (base home journal) (behind_sum journal) says
adds_journal old new (Local tid number writes) adds other home journal says = adds (base home journal) (behind_sum journal) says
adds_journal old new (Checkpoint sum) adds other home journal says = absurd (other sum refl)

-- the next record stands before those that were read
pub next_read : (entries : List SiteRecord) (n : ℕ) (entry : SiteRecord) (journal : List SiteRecord) → n < length entries → entry ≡ get_or entries n entry →
    reverse (take (n + 1) entries) ++ journal ≡ entry ∷ (reverse (take n entries) ++ journal)
next_read entries n entry journal within here =
    ap (λ (rs : List SiteRecord). reverse rs ++ journal) (take_more entries n entry within)
    ∙ ap (λ (rs : List SiteRecord). rs ++ journal) (reverse-append (take n entries) (get_or entries n entry ∷ []))
    ∙ ap (λ (e : SiteRecord). e ∷ (reverse (take n entries) ++ journal)) (sym here)

-- the locals put one by one
also-local_tids : (tids : List Tid) (records : List SiteRecord) → also tids (local_tids records) ≡ locals_with tids records
also-local_tids tids [] = refl
also-local_tids tids (Local tid number writes ∷ records) = ap (inserted tid_before tid) (also-local_tids tids records)
also-local_tids tids (Setup site engine protocol items ∷ records) = also-local_tids tids records
also-local_tids tids (Start epoch ∷ records) = also-local_tids tids records
also-local_tids tids (Prepared tid epoch number ticket writes ∷ records) = also-local_tids tids records
also-local_tids tids (Ended tid decision ∷ records) = also-local_tids tids records
also-local_tids tids (Checkpoint sum ∷ records) = also-local_tids tids records

-- what was read, as the content of a Checkpoint
pub sum_is : (reading : Reading) (sum : SiteSum) (newer : List SiteRecord) (rows : List Put) (locals : List Tid) (doubtful : List Held) → Says reading sum newer →
    IsRising (λ row. row.key.0) rows → ((key : Key) → value_in rows key ≡ row_of (kept reading.versions key)) →
    locals ≡ also reading.first_locals (reverse reading.locals.items) → IsStrictlySortedBy tid_cmp (keys_of reading.doubtful.entries) →
    doubtful ≡ values_of reading.doubtful.entries →
    ◌≡◌ {A = SiteSum} (record {
      site = reading.site;
      engine = reading.engine;
      protocol = reading.protocol;
      epoch = reading.counters.epoch;
      counter = reading.counters.counter;
      published = reading.counters.published;
      owner = reading.counters.owner;
      rows = rows;
      locals = locals;
      doubtful = doubtful;
    }) (sum_with sum newer)
sum_is reading sum newer rows locals doubtful says rising values locals_are sorted doubtful_are =
    rw (h.site, h.engine, h.protocol, m.epoch, m.counter, m.published, m.owner, all_rows, all_locals, all_doubtful) refl
  where
    h : Holds reading sum newer
    h = says.holds

    m : TellsCounters reading.counters sum newer
    m = says.counters

    rest : List SiteRecord
    rest = newer ++ carried sum.doubtful

    all_rows : rows ≡ rows_after sum.rows (installs rest)
    all_rows =
        same_rows rows (rows_after sum.rows (installs rest)) rising (rising_rows_after sum.rows (installs rest) h.rising)
        (λ key. values key ∙ ap row_of (h.versions key) ∙ sym (value_in-rows_after sum.rows (installs rest) key))

    all_locals : locals ≡ locals_with sum.locals newer
    all_locals = locals_are ∙ ap (λ first. also first (reverse reading.locals.items)) h.first_locals ∙ ap (also sum.locals) h.locals ∙ also-local_tids sum.locals newer

    all_doubtful : doubtful ≡ doubts rest
    all_doubtful = doubtful_are ∙ values_doubts reading.doubtful.entries rest sorted h.doubtful

-- without a Checkpoint all records stand behind the last one
all_behind : (journal : List SiteRecord) → last_sum journal ≡ None → behind_sum journal ≡ journal
all_behind [] none = refl
all_behind (Setup site engine protocol items ∷ records) none = ap (λ rs. Setup site engine protocol items ∷ rs) (all_behind records none)
all_behind (Start epoch ∷ records) none = ap (λ rs. Start epoch ∷ rs) (all_behind records none)
all_behind (Prepared tid epoch number ticket writes ∷ records) none = ap (λ rs. Prepared tid epoch number ticket writes ∷ rs) (all_behind records none)
all_behind (Ended tid decision ∷ records) none = ap (λ rs. Ended tid decision ∷ rs) (all_behind records none)
all_behind (Local tid number writes ∷ records) none = ap (λ rs. Local tid number writes ∷ rs) (all_behind records none)
all_behind (Checkpoint sum ∷ records) none = absurd cc

-- ticket 0 belongs to none
no_owner : (records : List SiteRecord) → last_ticket records ≡ 0 → ticket_owner records ≡ None
no_owner [] none = refl
no_owner (Prepared tid epoch number ticket writes ∷ records) none =
    let zero_ticket : ticket ≡ 0 = omega (arith, none) in
    let zero_before : last_ticket records ≡ 0 = omega (arith, none) in
    cond-false _ _ _ (le-ltb (last_ticket records) ticket (omega (arith, zero_ticket))) ∙ no_owner records zero_before
no_owner (Setup site engine protocol items ∷ records) none = no_owner records none
no_owner (Start epoch ∷ records) none = no_owner records none
no_owner (Ended tid decision ∷ records) none = no_owner records none
no_owner (Local tid number writes ∷ records) none = no_owner records none
no_owner (Checkpoint sum ∷ records) none = no_owner records none

own_owner : (records : List SiteRecord) → ticket_owner records ≡ cond (nat_lt 0 (last_ticket records)) (ticket_owner records) None
own_owner records = by_test (nat_lt 0 (last_ticket records)) refl
  where
    by_test : (b : Bool) → nat_lt 0 (last_ticket records) ≡ b → ticket_owner records ≡ cond b (ticket_owner records) None
    by_test true is = refl
    by_test false is = no_owner records (let few = ltb-false 0 (last_ticket records) is in omega (arith, few))

-- all records go on from what a site says before its first record
from_first : (home : Home) (records : List SiteRecord) → site_sum home records ≡ sum_with (first_sum home) records
from_first home records = rw (sym counter, sym published, sym (own_owner records), append-nil records) refl
  where
    counter : last_number records ≡ max (last_number records) 0
    counter = omega arith

    published : last_ticket records ≡ max (last_ticket records) 0
    published = omega arith

-- what a journal says goes on from its last Checkpoint, or else from the set-up
pub journal_is : (home : Home) (journal : List SiteRecord) → sum_with (base home journal) (behind_sum journal) ≡ journal_sum home journal
journal_is home journal = by_last (last_sum journal) refl
  where
    by_last : (o : Option SiteSum) → last_sum journal ≡ o → sum_with (or_else o (first_sum home)) (behind_sum journal) ≡ sum_behind home journal o
    by_last None none = ap (sum_with (first_sum home)) (all_behind journal none) ∙ sym (from_first home journal)
    by_last (Some sum) is = refl

-- of a journal the oldest record begins it
pub begins_of : (home : Home) (records : List SiteRecord) (oldest : SiteRecord) (newer : List SiteRecord) → records ≡ oldest ∷ newer →
    IsJournalOf home (reverse records) → Begins home oldest
begins_of home records oldest newer split journal =
    let turned : oldest ∷ newer ≡ journal.oldest ∷ reverse journal.newer =
    sym split ∙ sym (reverse-reverse records) ∙ ap (λ (rs : List SiteRecord). reverse rs) journal.stands ∙ reverse-append journal.newer (journal.oldest ∷ []) in
    let same : journal.oldest ≡ oldest = cc in
    subst (Begins home) same journal.begins

-- and what its newer records say behind it is what the journal says
pub all_read : (reading : Reading) (home : Home) (records : List SiteRecord) (oldest : SiteRecord) (newer : List SiteRecord) → records ≡ oldest ∷ newer →
    SaysJournal reading home (reverse newer ++ oldest ∷ []) → SaysJournal reading home (reverse records)
all_read reading home records oldest newer split says =
    subst (SaysJournal reading home) (sym (ap (λ (rs : List SiteRecord). reverse rs) split ∙ reverse-append (oldest ∷ []) newer)) says

-- no journal is empty
pub never_empty : (records : List SiteRecord) → IsJournal (reverse records) → length records ≡ 0 → ⊥
never_empty (newest ∷ records) journal none = absurd (omega (arith, none))
never_empty [] journal none = stands_there journal.journal.newer journal.journal.oldest journal.journal.stands
  where
    stands_there : (newer : List SiteRecord) (oldest : SiteRecord) → [] ≡ newer ++ oldest ∷ [] → ⊥
    stands_there [] oldest e = cc
    stands_there (newest ∷ newer) oldest e = cc

-- newer records stand behind the oldest one
pub journal_from : (oldest : SiteRecord) (newer : List SiteRecord) → IsFirst oldest → IsJournal (reverse (oldest ∷ newer))
journal_from oldest newer first = record {
  home = first.home;
  journal = record { newer = reverse newer; oldest = oldest; begins = first.begins; stands = reverse-append (oldest ∷ []) newer };
}
