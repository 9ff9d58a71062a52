-- What all rules keep alike: the committed runs are serial, and each unended run that has its place among the numbers fits in there.
use Rattle.std.proofs.Common.{◌≡◌, ℕ, ◌<◌, ◌⊎◌, false, Option, Some, List, [], ◌∷◌, refl, sym, ap, ◌∙◌, subst, inl, inr, arith, le-ltb}
use Rattle.std.specs.Prelude.{nat_lt}
use Rattle.mdb_base.specs.declared.names.Tid.{Tid}
use Rattle.mdb_base.specs.Names.{same_tid}
use Rattle.mdb_base.specs.Rows.{Table, look_up}
use Rattle.mdb_base.specs.Words.{Each, inserted}
use Rattle.mdb_base.proofs.ForCallers.{each_all, each_inserted, each_map, those_inserted}
use Rattle.fed_rules.specs.declared.runs.Kept.{Kept}
use Rattle.fed_rules.specs.Runs.{Start, EngineLine, Commits, Access, Run, tid_of, written, restored, run_at, number, committed, table_of, table}
use Rattle.fed_rules.specs.Replies.{Drawn, AtBegin, AtSealing}
use Rattle.fed_rules.specs.EngineLines.{IsRightLine, IsStart, AreApart}
use Rattle.fed_rules.specs.SerialRuns.{ReadsAlone, IsSerial, NumbersFall}
use Rattle.engine_laws.specs.Unended.{EachRun, EachPair, IsClear}
use Rattle.engine_laws.proofs.Tables.{reads_clear}
use Rattle.engine_laws.proofs.ByNumber.{is_later, below, StaysClear, table_those_inserted, below_all, falls_inserted, serial_inserted}
use Rattle.engine_laws.proofs.Runs.{Own, own, each_run, each_pair, each_restored, committed_is, number_is}
use Rattle.engine_laws.proofs.Restored.{reads_written, clear_written, rows_apart, each_restored_pair}

-- the place of an unended run in the order of the numbers, as far as it is settled
abbrev pub place : Drawn → Run → Option ℕ
place AtBegin run = Some run.age
place AtSealing run = run.sealed

-- a sealed run has its number as its place
abbrev pub IsPlaced : Drawn → Start → List EngineLine → Type 0
IsPlaced drawn start lines = EachRun start lines (λ run. (n : ℕ) → run.sealed ≡ Some n → place drawn run ≡ Some n)

-- one of the two has the smaller number, and the other one keeps clear of what it wrote
abbrev pub IsApart : List Access → ℕ → List Access → ℕ → Type 0
IsApart a m b n = ((m < n) × IsClear a b) ⊎ ((n < m) × IsClear b a)

swapped : (a b : List Access) (m n : ℕ) → IsApart a m b n → IsApart b n a m
swapped a b m n (inl h) = inr h
swapped a b m n (inr h) = inl h

-- accesses fit in at this number: they read alone on the runs below, those above keep clear of them, and so it is with each other run that has its place
pub record Fits (drawn : Drawn) (start : Start) (lines : List EngineLine) (tid : Tid) (acts : List Access) (n : ℕ) : Type 0 where
  pub reads : ReadsAlone acts (table_of (look_up start.rows) (below n (committed start lines)))
  pub clear : Each (StaysClear acts n) (committed start lines)
  pub apart : (u : Tid) (b : Run) → same_tid tid u ≡ false → run_at start lines u ≡ Some b → (m : ℕ) → place drawn b ≡ Some m
      → IsApart acts n b.acts m

-- the committed runs are serial, and each unended one that has its place fits in there
pub record IsSoundWith (drawn : Drawn) (start : Start) (lines : List EngineLine) (runs : List Run) : Type 0 where
  pub serial : IsSerial (look_up start.rows) runs
  pub falls : NumbersFall runs
  pub reads : EachRun start lines (λ r. (n : ℕ) → place drawn r ≡ Some n
      → ReadsAlone r.acts (table_of (look_up start.rows) (below n runs)))
  pub clear : EachRun start lines (λ r. (n : ℕ) → place drawn r ≡ Some n → Each (StaysClear r.acts n) runs)
  pub apart : EachPair start lines (λ a b. (m n : ℕ) → place drawn a ≡ Some m → place drawn b ≡ Some n → IsApart a.acts m b.acts n)

abbrev pub IsSound : Drawn → Start → List EngineLine → Type 0
IsSound drawn start lines = IsSoundWith drawn start lines (committed start lines)

-- a run that has its place fits in there
pub still_fits : (drawn : Drawn) (start : Start) (lines : List EngineLine) (tid : Tid) (run : Run) (n : ℕ)
    → IsSound drawn start lines
    → run_at start lines tid ≡ Some run → place drawn run ≡ Some n → Fits drawn start lines tid run.acts n
still_fits drawn start lines tid run n h at placed = record {
  reads = h.reads tid run at n placed;
  clear = h.clear tid run at n placed;
  apart = λ u b other was m e. h.apart tid u run b other at was n m placed e;
}

place_restored : (drawn : Drawn) (kept : Kept) → place drawn (restored kept) ≡ Some kept.number
place_restored AtBegin kept = refl
place_restored AtSealing kept = refl

-- restored runs keep clear of one another
pub clear_restored : (a b : Kept) → AreApart a b
    → IsClear (written a.writes) (written b.writes) × IsClear (written b.writes) (written a.writes)
clear_restored a b h = (
  clear_written b.writes a.writes (rows_apart a.writes b.writes h.keys),
  clear_written a.writes b.writes
      h.keys,
)

apart_restored : (a b : Kept) → AreApart a b → IsApart (written a.writes) a.number (written b.writes) b.number
apart_restored a b h = by_order h.order
  where
    by_order : ((a.number < b.number) × (a.ticket < b.ticket)) ⊎ ((b.number < a.number) × (b.ticket < a.ticket))
        → IsApart (written a.writes) a.number (written b.writes) b.number
    by_order (inl less) = inl (less.0, (clear_restored a b h).0)
    by_order (inr more) = inr (more.0, (clear_restored a b h).1)

-- so it is at the start
pub sound_start : (drawn : Drawn) (start : Start) → IsStart start → IsSound drawn start []
sound_start drawn start begun = record {
  serial = tt;
  falls = tt;
  reads = each_restored (λ r. (n : ℕ) → place drawn r ≡ Some n → ReadsAlone r.acts (look_up start.rows)) start.doubtful
      (each_all _ (λ kept n e. reads_written kept.writes (look_up start.rows)) start.doubtful);
  clear = λ t r at n e. tt;
  apart = each_restored_pair (λ a b. (m n : ℕ) → place drawn a ≡ Some m → place drawn b ≡ Some n → IsApart a.acts m b.acts n) both
      start.doubtful begun.apart;
}
  where
    numbered : (a b : Kept) (m n : ℕ) → place drawn (restored a) ≡ Some m → place drawn (restored b) ≡ Some n
        → IsApart (written a.writes) a.number (written b.writes) b.number → IsApart (written a.writes) m (written b.writes) n
    numbered a b m n ea eb h =
        let left : a.number ≡ m = cc (place_restored drawn a) in
        let right : b.number ≡ n = cc (place_restored drawn b) in
        subst (λ y. IsApart (written a.writes) m (written b.writes) y) right
        (subst (λ x. IsApart (written a.writes) x (written b.writes) b.number) left h)

    both : (a b : Kept) → AreApart a b
        → ((m n : ℕ) → place drawn (restored a) ≡ Some m → place drawn (restored b) ≡ Some n
        → IsApart (written a.writes) m (written b.writes) n)
        × ((m n : ℕ) → place drawn (restored b) ≡ Some m → place drawn (restored a) ≡ Some n
        → IsApart (written b.writes) m (written a.writes) n)
    both a b h =
        let there = apart_restored a b h in
        (λ m n ea eb. numbered a b m n ea eb there, λ m n eb ea. numbered b a m n eb ea (swapped _ _ _ _ there))

-- a line that commits nothing keeps it, where the line's own run fits in
goes_on : (drawn : Drawn) (start : Start) (older : List EngineLine) (line : EngineLine) → IsRightLine start older line
    → IsSound drawn start older
    → ((r : Run) (n : ℕ) → Own start older line r → place drawn r ≡ Some n → Fits drawn start older (tid_of line) r.acts n)
    → IsSoundWith drawn start (line ∷ older) (committed start older)
goes_on drawn start older line right h fits = record {
  serial = h.serial;
  falls = h.falls;
  reads = each_run start older line (λ r. (n : ℕ) → place drawn r ≡ Some n
      → ReadsAlone r.acts (table_of (look_up start.rows) (below n (committed start older))))
      (λ t r other was. h.reads t r was)
      (λ r now n placed. (fits r n (own start older line r right now) placed).reads);
  clear = each_run start older line (λ r. (n : ℕ) → place drawn r ≡ Some n → Each (StaysClear r.acts n) (committed start older))
      (λ t r other was. h.clear t r was)
      (λ r now n placed. (fits r n (own start older line r right now) placed).clear);
  apart = each_pair start older line (λ a b. (m n : ℕ) → place drawn a ≡ Some m → place drawn b ≡ Some n
      → IsApart a.acts m b.acts n) h.apart
      (λ u r b other now was.
      let mine = own start older line r right now in (
        λ m n placed_r placed_b. (fits r m mine placed_r).apart u b other was n placed_b,
        λ m n placed_b placed_r. swapped _ _ _ _ ((fits r n mine placed_r).apart u b other was m placed_b),
      ));
}

-- a commit keeps it
commits : (drawn : Drawn) (start : Start) (older : List EngineLine) (tid : Tid) (run : Run) → IsSound drawn start older
    → run_at start older tid ≡ Some run → place drawn run ≡ Some (number run)
    → IsSoundWith drawn start (Commits tid ∷ older) (inserted is_later run (committed start older))
commits drawn start older tid run h at placed = record {
  serial = serial_inserted items run runs fits.clear h.falls fits.reads h.serial;
  falls = falls_inserted run runs fits.clear h.falls;
  reads = each_run start older (Commits tid) (λ r. (n : ℕ) → place drawn r ≡ Some n
      → ReadsAlone r.acts (table_of items (below n (inserted is_later run runs))))
      (λ t r other was n e. reads_on_more r n (h.reads t r was n e) (fits.apart t r other was n e))
      (λ r now. cc);
  clear = each_run start older (Commits tid) (λ r. (n : ℕ) → place drawn r ≡ Some n
      → Each (StaysClear r.acts n) (inserted is_later run runs))
      (λ t r other was n e. each_inserted (StaysClear r.acts n) is_later run runs (stays_clear r n (fits.apart t r other was n e))
      (h.clear t r was n e))
      (λ r now. cc);
  apart = each_pair start older (Commits tid) (λ a b. (m n : ℕ) → place drawn a ≡ Some m → place drawn b ≡ Some n
      → IsApart a.acts m b.acts n) h.apart
      (λ u r b other now was. cc);
}
  where
    items : Table
    items = look_up start.rows

    runs : List Run
    runs = committed start older

    fits : Fits drawn start older tid run.acts (number run)
    fits = still_fits drawn start older tid run (number run) h at placed

    stays_clear : (r : Run) (n : ℕ) → IsApart run.acts (number run) r.acts n → StaysClear r.acts n run
    stays_clear r n (inl less) = inl less.0
    stays_clear r n (inr more) = inr more

    reads_on_more : (r : Run) (n : ℕ) → ReadsAlone r.acts (table_of items (below n runs)) → IsApart run.acts (number run) r.acts n
        → ReadsAlone r.acts (table_of items (below n (inserted is_later run runs)))
    reads_on_more r n reads (inl less) =
        reads_clear run.acts r.acts (table_of items (below n runs)) (table_of items (below n (inserted is_later run runs)))
        (λ key none. sym (table_those_inserted items (λ other. nat_lt (number other) n) is_later run runs key none)) less.1 reads
    reads_on_more r n reads (inr more) =
        let less : n < number run = more.0 in
        let same : below n (inserted is_later run runs) ≡ below n runs =
        those_inserted (λ other. nat_lt (number other) n) is_later run runs (le-ltb (number run) n (omega arith)) in
        subst (λ xs. ReadsAlone r.acts (table_of items xs)) (sym same) reads

-- so it is kept by each right line, where the line's own run fits in
pub sound_next : (drawn : Drawn) (start : Start) (older : List EngineLine) (line : EngineLine) → IsRightLine start older line
    → IsSound drawn start older
    → ((run : Run) (n : ℕ) → run_at start older (tid_of line) ≡ Some run → run.sealed ≡ Some n → place drawn run ≡ Some n)
    → ((r : Run) (n : ℕ) → Own start older line r → place drawn r ≡ Some n → Fits drawn start older (tid_of line) r.acts n)
    → IsSound drawn start (line ∷ older)
sound_next drawn start older (Commits tid) (run, n, sealed) h placed fits =
    let numbered : place drawn run ≡ Some (number run) =
    placed run n sealed.0 sealed.1 ∙ ap Some (sym (number_is run n sealed.1)) in
    subst (IsSoundWith drawn start (Commits tid ∷ older)) (sym (committed_is start older tid run sealed.0))
    (commits drawn start older tid run h sealed.0 numbered)
sound_next drawn start older line right h placed fits = goes_on drawn start older line right h fits

-- accesses fit in at a number above all, where they read alone on the table and keep clear of each other run that has its place
pub fits_last : (drawn : Drawn) (start : Start) (lines : List EngineLine) (tid : Tid) (acts : List Access) (n : ℕ)
    → Each (λ d. number d < n) (committed start lines) → ReadsAlone acts (table start lines)
    → ((u : Tid) (b : Run) → same_tid tid u ≡ false → run_at start lines u ≡ Some b → (m : ℕ) → place drawn b ≡ Some m
    → (m < n) × IsClear b.acts acts)
    → Fits drawn start lines tid acts n
fits_last drawn start lines tid acts n above reads others = record {
  reads = subst (λ runs. ReadsAlone acts (table_of (look_up start.rows) runs)) (sym (below_all n (committed start lines) above))
      reads;
  clear = each_map _ (StaysClear acts n) (λ d less. inl less) (committed start lines) above;
  apart = λ u b other was m placed. inr (others u b other was m placed);
}
