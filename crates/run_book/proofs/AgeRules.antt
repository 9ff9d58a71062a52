-- What the ages say stops an access is what the rules say.
use Rattle.std.proofs.Common.{◌≡◌, ℕ, ◌⊎◌, Bool, true, false, ◌||◌, Option, Some, None, List, [], ◌∷◌, inl, inr, refl, sym, ap, ◌∙◌, subst, arith}
use Rattle.std.proofs.lemmas.Bool.{or_cases, or_left, or_right}
use Rattle.mdb_base.specs.declared.names.Engine.{Engine}
use Rattle.mdb_base.specs.declared.names.Key.{Key}
use Rattle.mdb_base.specs.declared.names.Tid.{Tid}
use Rattle.mdb_base.specs.declared.acts.PlainAct.{PlainAct}
use Rattle.mdb_base.specs.declared.acts.PlainAct.TheVariants.{Read, Write}
use Rattle.mdb_base.specs.Names.{same_key}
use Rattle.mdb_base.specs.Words.{some_of, map_some, greatest}
use Rattle.mdb_base.proofs.ForCallers.{among_some, each_among, some_among}
use Rattle.fed_rules.specs.Runs.{Start, EngineLine, Access, Got, Wrote, Run, run_at, committed, aborted}
use Rattle.fed_rules.specs.Replies.{age_of, key_of, conflicts, conflicts_with_read, reads, writes, has_read, has_written, late_or_wait, younger_in_the_way, older_writers, age_stop}
use Rattle.fed_rules.specs.EngineLines.{IsStart, IsRight}
use Rattle.engine_laws.specs.ReplyLaws.{IsUnended, IsAmong, HasConflict, HasReadConflict, HasWritten, IsYoungerInTheWay, IsOlderWriter}
use Rattle.engine_laws.proofs.ForCallers.{IsByAge, age_sound, all_drew, drew_younger, lists_older, lists_younger, one_writer, read_conflicts, same_age, tid_is, write_conflicts}
use Rattle.run_book.specs.declared.rival.Rival.{Rival}
use Rattle.run_book.specs.Rivals.{rival_by}
use Rattle.run_book.specs.declared.key_ages.KeyAges.{KeyAges}
use Rattle.run_book.specs.Ages.{younger_of}
use Rattle.run_book.specs.Stops.{above, below, stop_by, youngest_against, key_stop, writer_stop}
use Rattle.run_book.specs.AgeLines.{writer, ages_after}
use Rattle.run_book.specs.AgeLaws.{StopsAccess, StopsReader}
use Rattle.run_book.proofs.Youngest.{IsUpTo, up_left, up_right, one_of}
use Rattle.run_book.proofs.Listed.{youngest_listed, youngest_above, youngest_below, stop_by-late_or_wait}
use Rattle.run_book.proofs.AgeCommits.{committed_up_to, committed_is_one}
use Rattle.run_book.proofs.Readers.{readers_up_to, Counts, reader_is}
use Rattle.run_book.proofs.Writers.{writer_is, writer_of}

no_read_conflict : (key : Key) (acts : List Access) → some_of (conflicts_with_read (Read key)) acts ≡ false
no_read_conflict key [] = refl
no_read_conflict key (Got k value ∷ acts) = no_read_conflict key acts
no_read_conflict key (Wrote k value ∷ acts) = no_read_conflict key acts

write_read_conflicts : (key : Key) (v : ℕ) (acts : List Access) → some_of (conflicts_with_read (Write key v)) acts ≡ some_of (reads key) acts
write_read_conflicts key v [] = refl
write_read_conflicts key v (Got k value ∷ acts) = ap (λ (b : Bool). same_key k key || b) (write_read_conflicts key v acts)
write_read_conflicts key v (Wrote k value ∷ acts) = write_read_conflicts key v acts

-- a run with an access that counts against an act
abbrev Against : Start → List EngineLine → PlainAct → Run → Type 0
Against start lines act run =
    (IsUnended start lines run × HasConflict act run) ⊎ (IsAmong run (committed start lines) × HasConflict act run) ⊎ (IsAmong run (aborted start lines) × HasReadConflict act run)

module _ (kind : Engine) (by : IsByAge kind) (start : Start) (lines : List EngineLine) (is_kind : start.kind ≡ kind) (begun : IsStart start) (right : IsRight start lines) where
  abbrev ages : Key → KeyAges
  ages key = ages_after start lines key

  conflict_writes : (key : Key) (run : Run) → HasConflict (Read key) run → has_written key run ≡ true
  conflict_writes key run h = sym (read_conflicts key run.acts) ∙ among_some (conflicts (Read key)) run.acts h

  conflict_either : (key : Key) (v : ℕ) (run : Run) → HasConflict (Write key v) run → (has_read key run ≡ true) ⊎ (has_written key run ≡ true)
  conflict_either key v run h = or_cases (has_read key run) (has_written key run) (sym (write_conflicts key v run.acts) ∙ among_some (conflicts (Write key v)) run.acts h)

  -- an unended or a committed run that has written the key is up to the youngest of these
  unended_writes : (key : Key) (run : Run) → IsUnended start lines run → has_written key run ≡ true → IsUpTo run.age (younger_of (ages key).last (ages key).writer)
  unended_writes key run at has =
      up_right run.age (ages key).last (ages key).writer
      (subst (λ (o : Option Rival). IsUpTo run.age o) (sym (writer_of kind start lines key run.tid run by is_kind begun right at has)) (omega arith))

  committed_writes : (key : Key) (run : Run) → IsAmong run (committed start lines) → has_written key run ≡ true → IsUpTo run.age (younger_of (ages key).last (ages key).writer)
  committed_writes key run among has =
      up_left run.age (ages key).last (ages key).writer
      (each_among (λ r. has_written key r ≡ true → IsUpTo r.age (ages key).last) run (committed start lines) (committed_up_to (has_written key) start lines right) among has)

  counts_reads : (key : Key) (run : Run) → Counts start lines run → has_read key run ≡ true → IsUpTo run.age (ages key).read
  counts_reads key run counts has =
      let up = readers_up_to start lines key right in
      elim counts [
        | inl at ↦ up.unended run.tid run at has
        | inr rest ↦ elim rest [
          | inl among ↦ each_among (λ r. has_read key r ≡ true → IsUpTo r.age (ages key).read) run (committed start lines) up.committed among has
          | inr among ↦ each_among (λ r. has_read key r ≡ true → IsUpTo r.age (ages key).read) run (aborted start lines) up.aborted among has
        ]
      ]

  against_up : (act : PlainAct) (run : Run) → Against start lines act run → IsUpTo run.age (youngest_against (ages (key_of act)) act)
  against_up (Read key) run (inl (at, h)) = unended_writes key run at (conflict_writes key run h)
  against_up (Read key) run (inr (inl (among, h))) = committed_writes key run among (conflict_writes key run h)
  against_up (Read key) run (inr (inr (among, h))) = let some = among_some (conflicts_with_read (Read key)) run.acts h in let none = no_read_conflict key run.acts in cc
  against_up (Write key v) run (inl (at, h)) = elim (conflict_either key v run h) [
    | inl has ↦ up_left run.age (ages key).read (younger_of (ages key).last (ages key).writer) (counts_reads key run (inl at) has)
    | inr has ↦ up_right run.age (ages key).read (younger_of (ages key).last (ages key).writer) (unended_writes key run at has)
  ]
  against_up (Write key v) run (inr (inl (among, h))) = elim (conflict_either key v run h) [
    | inl has ↦ up_left run.age (ages key).read (younger_of (ages key).last (ages key).writer) (counts_reads key run (inr (inl among)) has)
    | inr has ↦ up_right run.age (ages key).read (younger_of (ages key).last (ages key).writer) (committed_writes key run among has)
  ]
  against_up (Write key v) run (inr (inr (among, h))) =
      up_left run.age (ages key).read (younger_of (ages key).last (ages key).writer)
      (counts_reads key run (inr (inr among)) (sym (write_read_conflicts key v run.acts) ∙ among_some (conflicts_with_read (Write key v)) run.acts h))

  -- and the youngest of these is such a run
  abbrev Found : (Run → Type 0) → Rival → Type 0
  Found P rival = (run : Run) × P run × (run.tid ≡ rival.tid) × (run.age ≡ rival.rank)

  write_conflict : (act : PlainAct) (run : Run) → has_written (key_of act) run ≡ true → HasConflict act run
  write_conflict (Read key) run has = some_among (conflicts (Read key)) run.acts (read_conflicts key run.acts ∙ has)
  write_conflict (Write key v) run has = some_among (conflicts (Write key v)) run.acts (write_conflicts key v run.acts ∙ or_right (has_read key run) (has_written key run) has)

  writer_found : (act : PlainAct) (rival : Rival) → younger_of (ages (key_of act)).last (ages (key_of act)).writer ≡ Some rival → Found (Against start lines act) rival
  writer_found act rival is =
      let key = key_of act in
      elim (one_of (ages key).last (ages key).writer rival is) [
        | inl last ↦
            let h = committed_is_one (has_written key) start lines rival right last in
            (h.run, inr (inl (h.among, write_conflict act h.run h.passes)), h.tid, h.age)
        | inr wrote ↦
            let h = writer_is start lines key rival begun right wrote in
            let named = tid_is start lines right rival.tid h.run h.at in
            (h.run, inl (ap (λ (t : Tid). run_at start lines t) named ∙ h.at, write_conflict act h.run h.wrote), named, h.age)
      ]

  reader_found : (key : Key) (v : ℕ) (rival : Rival) → (ages key).read ≡ Some rival → Found (Against start lines (Write key v)) rival
  reader_found key v rival is =
      let h = reader_is start lines key rival right is in
      let conflict : HasConflict (Write key v) h.run = some_among (conflicts (Write key v)) h.run.acts (write_conflicts key v h.run.acts ∙ or_left (has_read key h.run) (has_written key h.run) h.has) in
      let read_conflict : HasReadConflict (Write key v) h.run = some_among (conflicts_with_read (Write key v)) h.run.acts (write_read_conflicts key v h.run.acts ∙ h.has) in
      let against : Against start lines (Write key v) h.run = elim h.counts [
        | inl at ↦ inl (at, conflict)
        | inr rest ↦ elim rest [ inl among ↦ inr (inl (among, conflict)) | inr among ↦ inr (inr (among, read_conflict)) ]
      ] in
      (h.run, against, h.tid, h.age)

  against_is : (act : PlainAct) (rival : Rival) → youngest_against (ages (key_of act)) act ≡ Some rival → Found (Against start lines act) rival
  against_is (Read key) rival is = writer_found (Read key) rival is
  against_is (Write key v) rival is = elim (one_of (ages key).read (younger_of (ages key).last (ages key).writer) rival is) [
    | inl read ↦ reader_found key v rival read
    | inr wrote ↦ writer_found (Write key v) rival wrote
  ]

  youngest_is : (me : Run) (act : PlainAct) → above me.age (youngest_against (ages (key_of act)) act) ≡ map_some (rival_by age_of) (greatest age_of (younger_in_the_way start lines me act))
  youngest_is me act =
      let Younger = IsYoungerInTheWay start lines me act in
      let drew = all_drew start lines begun right in
      youngest_listed Younger (younger_in_the_way start lines me act) _ (lists_younger start lines me act right)
      (λ a b h g. same_age start lines a b (drew_younger start lines me act a drew h) (drew_younger start lines me act b drew g))
      (youngest_above Younger (Against start lines act) me.age (youngest_against (ages (key_of act)) act) (λ run h. (h.younger, h.conflict)) (λ run younger conflict. record { younger = younger; conflict = conflict })
      (against_up act) (against_is act))

  -- the older writer
  older_is : (me : Run) (act : PlainAct) → below me.age (ages (key_of act)).writer ≡ map_some (rival_by age_of) (greatest age_of (older_writers start lines me act))
  older_is me act =
      let key = key_of act in
      let Older = IsOlderWriter start lines me act in
      let sound = age_sound kind start lines by is_kind begun right in
      youngest_listed Older (older_writers start lines me act) _ (lists_older start lines me act right)
      (λ a b h g same. one_writer start lines key a b sound h.unended g.unended h.wrote g.wrote)
      (youngest_below Older (λ run. IsUnended start lines run × HasWritten key run) me.age (writer start lines key) (λ run h. (h.older, (h.unended, h.wrote)))
      (λ run less q. record { unended = q.0; older = less; wrote = q.1 })
      (λ run q. writer_of kind start lines key run.tid run by is_kind begun right q.0 (among_some (writes key) run.acts q.1))
      (λ rival is.
      let h = writer_is start lines key rival begun right is in
      let named = tid_is start lines right rival.tid h.run h.at in
      (h.run, (ap (λ (t : Tid). run_at start lines t) named ∙ h.at, some_among (writes key) h.run.acts h.wrote), named, h.age)))

  key_stop_is : (me : Run) (act : PlainAct) → key_stop (ages (key_of act)) me.age act ≡ age_stop start lines me act
  key_stop_is me act =
      ap (λ (o : Option Rival). stop_by o (below me.age (ages (key_of act)).writer)) (youngest_is me act)
      ∙ (ap (λ (o : Option Rival). stop_by (map_some (rival_by age_of) (greatest age_of (younger_in_the_way start lines me act))) o) (older_is me act)
      ∙ stop_by-late_or_wait (greatest age_of (younger_in_the_way start lines me act)) (greatest age_of (older_writers start lines me act)))

  writer_stop_is : (me : Run) (key : Key) → writer_stop (ages key) me.age ≡ late_or_wait None (greatest age_of (older_writers start lines me (Read key)))
  writer_stop_is me key =
      ap (λ (o : Option Rival). stop_by None o) (older_is me (Read key)) ∙ stop_by-late_or_wait None (greatest age_of (older_writers start lines me (Read key)))

pub stops_access : (kind : Engine) → IsByAge kind → StopsAccess kind
stops_access kind by all takers start lines me act is_kind begun right keeps =
    ap (λ (a : KeyAges). key_stop a me.age act) (keeps.keys (key_of act)) ∙ key_stop_is kind by start lines is_kind begun right me act

pub stops_reader : (kind : Engine) → IsByAge kind → StopsReader kind
stops_reader kind by all takers start lines me key is_kind begun right keeps =
    ap (λ (a : KeyAges). writer_stop a me.age) (keeps.keys key) ∙ writer_stop_is kind by start lines is_kind begun right me key
