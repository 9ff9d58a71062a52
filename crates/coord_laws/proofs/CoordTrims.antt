-- What stands on the coordinator's disk: all records, or a Checkpoint of what was trimmed with the records behind it. A line adds one record at
-- most.
use Rattle.std.proofs.Common.{◌≡◌, ℕ, zero, suc, ◌+◌, ◌≤◌, ◌⊎◌, min, Bool, true, false, cond, nat_le, Option, Some, None, List, [], ◌∷◌, ◌++◌, length, take, refl, sym, ap, ◌∙◌, subst, inl, inr, arith}
use Rattle.std.proofs.lemmas.Bool.{leb-true, le-leb}
use Rattle.mdb_base.specs.Words.{when}
use Rattle.presumptions.specs.declared.Participant.{Participant}
use Rattle.fed_rules.specs.declared.answers.Answer.{Answer}
use Rattle.fed_rules.specs.declared.answers.Answer.TheVariants as Say
use Rattle.fed_rules.specs.declared.events.CoordEvent.{CoordEvent}
use Rattle.fed_rules.specs.declared.events.CoordEvent.TheVariants as Ev
use Rattle.fed_rules.specs.declared.records.CoordRecord.{CoordRecord}
use Rattle.fed_rules.specs.declared.records.CoordRecord.TheVariants.{Initiation, Commit, Abort, End, Checkpoint}
use Rattle.fed_rules.specs.declared.sums.CoordSum.{CoordSum}
use Rattle.fed_rules.specs.Coord.{answered, coord_line, coord_past, of_back, unless_tripped}
use Rattle.fed_rules.specs.CoordPast.{CoordHappening, CoordPast, disk, records, trip}
use Rattle.fed_rules.specs.CoordRecords.{coord_frame}
use Rattle.fed_rules.specs.CoordSums.{coord_journal_sum, coord_sum_with}
use Rattle.fed_rules.specs.Disk.{Append, Call, CutBack, TrimFront, Stops, Sync, Disk, after_call, after_calls, bytes_of, standing, whole}
use Rattle.fed_rules.specs.Happenings.{Trip, is_down, quiet, stopped, tripped}
use Rattle.fed_rules.specs.Policies.{Policy}
use Rattle.fed_rules.specs.Durable.{IsSound}
use Rattle.fed_rules.proofs.ForCallers.{sound_call, whole_all}
use Rattle.coord_laws.proofs.CoordCalls.{Shape, Idle, Appends, Forces, Cuts, Checks, HasShape, answered_shape, back_shape}

-- what was trimmed stands before a synced Checkpoint
pub record IsTrimmed (rs : List CoordRecord) (synced trimmed : ℕ) : Type 0 where
  pub newer : List CoordRecord
  pub sum : CoordSum
  pub before : List CoordRecord
  pub all : rs ≡ newer ++ Checkpoint sum ∷ before
  pub at : trimmed ≡ bytes_of coord_frame before
  pub kept : bytes_of coord_frame (Checkpoint sum ∷ before) ≤ synced

pub record IsFine (d : Disk CoordRecord) : Type 0 where
  pub sound : IsSound coord_frame d
  pub front : (d.trimmed ≡ 0) ⊎ IsTrimmed d.records d.synced d.trimmed

longer : (rs : List CoordRecord) (a b trimmed : ℕ) → a ≤ b → (trimmed ≡ 0) ⊎ IsTrimmed rs a trimmed → (trimmed ≡ 0) ⊎ IsTrimmed rs b trimmed
longer rs a b trimmed le (inl e) = inl e
longer rs a b trimmed le (inr t) =
    inr (record { newer = t.newer; sum = t.sum; before = t.before; all = t.all; at = t.at; kept = (let k = t.kept in omega (arith, k, le)) })

more : (newest : CoordRecord) (rs : List CoordRecord) (synced trimmed : ℕ) → (trimmed ≡ 0) ⊎ IsTrimmed rs synced trimmed
    → (trimmed ≡ 0) ⊎ IsTrimmed (newest ∷ rs) synced trimmed
more newest rs synced trimmed (inl e) = inl e
more newest rs synced trimmed (inr t) =
    inr (record { newer = newest ∷ t.newer; sum = t.sum; before = t.before; all = ap (λ xs. newest ∷ xs) t.all; at = t.at; kept = t.kept })

-- within a place behind the Checkpoint it stays whole
whole_trimmed : (place : ℕ) (newer older : List CoordRecord) → bytes_of coord_frame older ≤ place
    → (kept : List CoordRecord) × (whole coord_frame place (newer ++ older) ≡ kept ++ older)
whole_trimmed place [] older le = ([], whole_all coord_frame place older le)
whole_trimmed place (x ∷ newer) older le = by_test (nat_le (bytes_of coord_frame (x ∷ (newer ++ older))) place) (whole_trimmed place newer older le)
  where
    by_test : (b : Bool) → (kept : List CoordRecord) × (whole coord_frame place (newer ++ older) ≡ kept ++ older)
        → (kept : List CoordRecord) × (cond b (x ∷ (newer ++ older)) (whole coord_frame place (newer ++ older)) ≡ kept ++ older)
    by_test true rest = (x ∷ newer, refl)
    by_test false rest = rest

bytes_behind : (newer older : List CoordRecord) → bytes_of coord_frame older ≤ bytes_of coord_frame (newer ++ older)
bytes_behind [] older = omega arith
bytes_behind (x ∷ newer) older = let h = bytes_behind newer older in omega (arith, h)

appends : (kept : CoordRecord) (d : Disk CoordRecord) → IsFine d → IsFine (after_call coord_frame d (Append kept))
appends kept d f = record { sound = sound_call coord_frame d (Append kept) f.sound; front = more kept d.records d.synced d.trimmed f.front }

syncs : (d : Disk CoordRecord) → IsFine d → IsFine (after_call coord_frame d Sync)
syncs d f = record { sound = sound_call coord_frame d Sync f.sound; front = longer d.records d.synced d.length d.trimmed f.sound.synced f.front }

cuts : (d : Disk CoordRecord) → IsFine d → IsFine (after_call coord_frame d CutBack)
cuts d f = record { sound = sound_call coord_frame d CutBack f.sound; front = cut f.front }
  where
    cut : (d.trimmed ≡ 0) ⊎ IsTrimmed d.records d.synced d.trimmed → (d.trimmed ≡ 0) ⊎ IsTrimmed d.records (bytes_of coord_frame d.records) d.trimmed
    cut (inl e) = inl e
    cut (inr t) = inr (record {
      newer = t.newer;
      sum = t.sum;
      before = t.before;
      all = t.all;
      at = t.at;
      kept = subst (λ rs. bytes_of coord_frame (Checkpoint t.sum ∷ t.before) ≤ bytes_of coord_frame rs) (sym t.all) (bytes_behind t.newer (Checkpoint t.sum ∷ t.before));
    })

stops_at : (cut : ℕ) (d : Disk CoordRecord) → IsFine d → IsFine (after_call coord_frame d (Stops cut))
stops_at cut d f = record { sound = sound_call coord_frame d (Stops cut) f.sound; front = front f.front }
  where
    place : ℕ
    place = min d.length (d.synced + cut)

    enough : d.synced ≤ place
    enough = let h = f.sound.synced in omega (arith, h)

    front : (d.trimmed ≡ 0) ⊎ IsTrimmed d.records d.synced d.trimmed → (d.trimmed ≡ 0) ⊎ IsTrimmed (whole coord_frame place d.records) place d.trimmed
    front (inl e) = inl e
    front (inr t) =
        let k = t.kept in
        let le : bytes_of coord_frame (Checkpoint t.sum ∷ t.before) ≤ place = omega (arith, k, enough) in
        let (kept, e) = whole_trimmed place t.newer (Checkpoint t.sum ∷ t.before) le in
        inr (record { newer = kept; sum = t.sum; before = t.before; all = ap (whole coord_frame place) t.all ∙ e; at = t.at; kept = le })

trims : (sum : CoordSum) (d : Disk CoordRecord) → IsFine d
    → IsFine (after_call coord_frame (after_call coord_frame (after_call coord_frame d (Append (Checkpoint sum))) Sync) TrimFront)
trims sum d f =
    let synced = after_call coord_frame (after_call coord_frame d (Append (Checkpoint sum))) Sync in
    let fine = syncs (after_call coord_frame d (Append (Checkpoint sum))) (appends (Checkpoint sum) d f) in
    record {
      sound = sound_call coord_frame synced TrimFront fine.sound;
      front = inr (record { newer = []; sum = sum; before = d.records; all = refl; at = refl; kept = (let h = f.sound.frames in omega (arith, h)) });
    }

-- what the calls of a line leave, and those of one that a stop ends
fine_calls : (d : Disk CoordRecord) (calls : List (Call CoordRecord)) → Shape calls → IsFine d → IsFine (after_calls coord_frame d calls)
fine_calls d calls (Idle e) f = subst (λ cs. IsFine (after_calls coord_frame d cs)) (sym e) f
fine_calls d calls (Appends kept e) f = subst (λ cs. IsFine (after_calls coord_frame d cs)) (sym e) (appends kept d f)
fine_calls d calls (Forces kept e) f = subst (λ cs. IsFine (after_calls coord_frame d cs)) (sym e) (syncs _ (appends kept d f))
fine_calls d calls (Cuts e) f = subst (λ cs. IsFine (after_calls coord_frame d cs)) (sym e) (cuts d f)
fine_calls d calls (Checks sum e) f = subst (λ cs. IsFine (after_calls coord_frame d cs)) (sym e) (trims sum d f)

fine_stopped : (d : Disk CoordRecord) (calls : List (Call CoordRecord)) (n cut : ℕ) → Shape calls → IsFine d
    → IsFine (after_calls coord_frame d (take n calls ++ Stops cut ∷ []))
fine_stopped d calls n cut (Idle e) f = subst (λ cs. IsFine (after_calls coord_frame d (take n cs ++ Stops cut ∷ []))) (sym e) (by_count n)
  where
    by_count : (k : ℕ) → IsFine (after_calls coord_frame d (take k [] ++ Stops cut ∷ []))
    by_count zero = stops_at cut d f
    by_count (suc k) = stops_at cut d f
fine_stopped d calls n cut (Appends kept e) f = subst (λ cs. IsFine (after_calls coord_frame d (take n cs ++ Stops cut ∷ []))) (sym e) (by_count n)
  where
    by_count : (k : ℕ) → IsFine (after_calls coord_frame d (take k (Append kept ∷ []) ++ Stops cut ∷ []))
    by_count zero = stops_at cut d f
    by_count (suc zero) = stops_at cut _ (appends kept d f)
    by_count (suc (suc k)) = stops_at cut _ (appends kept d f)
fine_stopped d calls n cut (Forces kept e) f = subst (λ cs. IsFine (after_calls coord_frame d (take n cs ++ Stops cut ∷ []))) (sym e) (by_count n)
  where
    by_count : (k : ℕ) → IsFine (after_calls coord_frame d (take k (Append kept ∷ Sync ∷ []) ++ Stops cut ∷ []))
    by_count zero = stops_at cut d f
    by_count (suc zero) = stops_at cut _ (appends kept d f)
    by_count (suc (suc zero)) = stops_at cut _ (syncs _ (appends kept d f))
    by_count (suc (suc (suc k))) = stops_at cut _ (syncs _ (appends kept d f))
fine_stopped d calls n cut (Cuts e) f = subst (λ cs. IsFine (after_calls coord_frame d (take n cs ++ Stops cut ∷ []))) (sym e) (by_count n)
  where
    by_count : (k : ℕ) → IsFine (after_calls coord_frame d (take k (CutBack ∷ []) ++ Stops cut ∷ []))
    by_count zero = stops_at cut d f
    by_count (suc zero) = stops_at cut _ (cuts d f)
    by_count (suc (suc k)) = stops_at cut _ (cuts d f)
fine_stopped d calls n cut (Checks sum e) f = subst (λ cs. IsFine (after_calls coord_frame d (take n cs ++ Stops cut ∷ []))) (sym e) (by_count n)
  where
    by_count : (k : ℕ) → IsFine (after_calls coord_frame d (take k (Append (Checkpoint sum) ∷ Sync ∷ TrimFront ∷ []) ++ Stops cut ∷ []))
    by_count zero = stops_at cut d f
    by_count (suc zero) = stops_at cut _ (appends (Checkpoint sum) d f)
    by_count (suc (suc zero)) = stops_at cut _ (syncs _ (appends (Checkpoint sum) d f))
    by_count (suc (suc (suc zero))) = stops_at cut _ (trims sum d f)
    by_count (suc (suc (suc (suc k)))) = stops_at cut _ (trims sum d f)

-- a line adds one record at most
added : List (Call CoordRecord) → ℕ
added [] = 0
added (Append kept ∷ calls) = suc (added calls)
added (Sync ∷ calls) = added calls
added (CutBack ∷ calls) = added calls
added (TrimFront ∷ calls) = added calls
added (Stops cut ∷ calls) = added calls

whole_few : (place : ℕ) (rs : List CoordRecord) → length (whole coord_frame place rs) ≤ length rs
whole_few place [] = omega arith
whole_few place (r ∷ rs) = by_test (nat_le (bytes_of coord_frame (r ∷ rs)) place) (whole_few place rs)
  where
    by_test : (b : Bool) → length (whole coord_frame place rs) ≤ length rs → length (cond b (r ∷ rs) (whole coord_frame place rs)) ≤ suc (length rs)
    by_test true h = omega arith
    by_test false h = omega (arith, h)

records_few : (d : Disk CoordRecord) (calls : List (Call CoordRecord)) → length (after_calls coord_frame d calls).records ≤ added calls + length d.records
unfolding added
records_few d [] = omega arith
records_few d (Append kept ∷ calls) = let h = records_few (after_call coord_frame d (Append kept)) calls in omega (arith, h)
records_few d (Sync ∷ calls) = records_few (after_call coord_frame d Sync) calls
records_few d (CutBack ∷ calls) = records_few (after_call coord_frame d CutBack) calls
records_few d (TrimFront ∷ calls) = records_few (after_call coord_frame d TrimFront) calls
records_few d (Stops cut ∷ calls) =
    let h = records_few (after_call coord_frame d (Stops cut)) calls in
    let less = whole_few (min d.length (d.synced + cut)) d.records in omega (arith, h, less)

added_few : (calls : List (Call CoordRecord)) → Shape calls → added calls ≤ 1
unfolding added
added_few calls (Idle e) = subst (λ cs. added cs ≤ 1) (sym e) (omega arith)
added_few calls (Appends kept e) = subst (λ cs. added cs ≤ 1) (sym e) (omega arith)
added_few calls (Forces kept e) = subst (λ cs. added cs ≤ 1) (sym e) (omega arith)
added_few calls (Cuts e) = subst (λ cs. added cs ≤ 1) (sym e) (omega arith)
added_few calls (Checks sum e) = subst (λ cs. added cs ≤ 1) (sym e) (omega arith)

added_stopped : (n cut : ℕ) (calls : List (Call CoordRecord)) → added (take n calls ++ Stops cut ∷ []) ≤ added calls
unfolding added
added_stopped zero cut calls = omega arith
added_stopped (suc n) cut [] = omega arith
added_stopped (suc n) cut (Append kept ∷ calls) = let h = added_stopped n cut calls in omega (arith, h)
added_stopped (suc n) cut (Sync ∷ calls) = added_stopped n cut calls
added_stopped (suc n) cut (CutBack ∷ calls) = added_stopped n cut calls
added_stopped (suc n) cut (TrimFront ∷ calls) = added_stopped n cut calls
added_stopped (suc n) cut (Stops c ∷ calls) = added_stopped n cut calls

-- the next line leaves the disk so
pub record LeavesFine (past : CoordPast) (x : CoordHappening) : Type 0 where
  pub fine : IsFine (disk past) → IsFine (disk (x ∷ past))
  pub one : length (records (x ∷ past)) ≤ suc (length (records past))

line_whole : (past : CoordPast) (x : CoordHappening) → HasShape x → LeavesFine past x
line_whole past x s =
    record {
      fine = fine_calls (disk past) x.calls s.shape;
      one = (let all = records_few (disk past) x.calls in let few = added_few x.calls s.shape in omega (arith, all, few));
    }

line_stopped : (past : CoordPast) (event : CoordEvent) (x : CoordHappening) (n cut : ℕ) → HasShape x
    → LeavesFine past (stopped coord_frame (disk past) event (take n x.calls ++ Stops cut ∷ []))
unfolding stopped
line_stopped past event x n cut s =
    record {
      fine = fine_stopped (disk past) x.calls n cut s.shape;
      one = (let all = records_few (disk past) (take n x.calls ++ Stops cut ∷ []) in let less = added_stopped n cut x.calls in let few = added_few x.calls s.shape in omega (arith, all, less, few));
    }

fine_when : (past : CoordPast) (b : Bool) (x y : CoordHappening) → LeavesFine past x → LeavesFine past y → LeavesFine past (when b x y)
unfolding when
fine_when past true x y p q = p
fine_when past false x y p q = q

line_tripped : (past : CoordPast) (t : Option Trip) (x : CoordHappening) → HasShape x → LeavesFine past (tripped coord_frame (disk past) t x)
unfolding tripped
line_tripped past None x s = line_whole past x s
line_tripped past (Some t) x s =
    fine_when past (nat_le t.calls (length x.calls)) _ x (line_stopped past x.event x t.calls t.cut s) (line_whole past x s)

line_quiet : (past : CoordPast) (event : CoordEvent) (answer : Answer) → LeavesFine past (quiet event answer)
line_quiet past event answer = line_whole past (quiet event answer) (record { shape = Idle refl })

line_up : (protocols : List Participant) (policy : Policy) (past : CoordPast) (event : CoordEvent)
    → LeavesFine past (when (is_down past) (quiet event Say.Down) (unless_tripped past (answered protocols policy past event)))
line_up protocols policy past event =
    fine_when past (is_down past) _ _ (line_quiet past event Say.Down)
    (line_tripped past (trip past) (answered protocols policy past event) (answered_shape protocols policy past event))

pub line_fine : (protocols : List Participant) (policy : Policy) (past : CoordPast) (event : CoordEvent) → LeavesFine past (coord_line protocols policy past event)
unfolding coord_line
line_fine protocols policy past (Ev.Trip calls cut) = line_quiet past _ _
line_fine protocols policy past (Ev.Halt cut) =
    fine_when past (is_down past) _ _ (line_quiet past _ _) (line_stopped past (Ev.Halt cut) (quiet (Ev.Halt cut) Say.Down) 0 cut (record { shape = Idle refl }))
line_fine protocols policy past Ev.Back =
    fine_when past (is_down past) _ _ (line_tripped past (trip past) (of_back protocols past) (back_shape protocols past)) (line_quiet past _ _)
line_fine protocols policy past (Ev.Go tid steps) = line_up protocols policy past (Ev.Go tid steps)
line_fine protocols policy past (Ev.Take site message) = line_up protocols policy past (Ev.Take site message)
line_fine protocols policy past (Ev.Again tid) = line_up protocols policy past (Ev.Again tid)
line_fine protocols policy past (Ev.Late tid) = line_up protocols policy past (Ev.Late tid)
line_fine protocols policy past (Ev.Fate tx) = line_up protocols policy past (Ev.Fate tx)
line_fine protocols policy past Ev.Check = line_up protocols policy past Ev.Check

pub past_fine : (protocols : List Participant) (policy : Policy) (events : List CoordEvent) → IsFine (disk (coord_past protocols policy events))
past_fine protocols policy [] = record { sound = record { frames = omega arith; synced = omega arith }; front = inl refl }
past_fine protocols policy (event ∷ events) =
    (line_fine protocols policy (coord_past protocols policy events) event).fine (past_fine protocols policy events)

-- the records behind a trimmed place
none_stand : (rs : List CoordRecord) → standing coord_frame (bytes_of coord_frame rs) rs ≡ []
none_stand [] = refl
none_stand (x ∷ rs) = by_test (nat_le (bytes_of coord_frame (x ∷ rs)) (bytes_of coord_frame rs)) refl
  where
    by_test : (b : Bool) → nat_le (bytes_of coord_frame (x ∷ rs)) (bytes_of coord_frame rs) ≡ b
        → cond b (x ∷ standing coord_frame (bytes_of coord_frame (x ∷ rs)) rs) [] ≡ []
    by_test true e = let le = leb-true _ _ e in let never : ⊥ = omega (arith, le) in absurd never
    by_test false e = refl

pub standing_trimmed : (newer : List CoordRecord) (sum : CoordSum) (before : List CoordRecord)
    → standing coord_frame (bytes_of coord_frame before) (newer ++ Checkpoint sum ∷ before) ≡ newer ++ Checkpoint sum ∷ []
standing_trimmed [] sum before =
    ap (λ b. cond b (Checkpoint sum ∷ standing coord_frame (bytes_of coord_frame before) before) []) (le-leb (bytes_of coord_frame before) (bytes_of coord_frame before) (omega arith))
    ∙ ap (λ xs. Checkpoint sum ∷ xs) (none_stand before)
standing_trimmed (x ∷ newer) sum before =
    ap (λ b. cond b (x ∷ standing coord_frame (bytes_of coord_frame before) (newer ++ Checkpoint sum ∷ before)) [])
    (le-leb (bytes_of coord_frame before) (bytes_of coord_frame (newer ++ Checkpoint sum ∷ before))
    (let h = bytes_behind newer (Checkpoint sum ∷ before) in omega (arith, h)))
    ∙ ap (λ xs. x ∷ xs) (standing_trimmed newer sum before)

pub standing_all : (rs : List CoordRecord) → standing coord_frame 0 rs ≡ rs
standing_all [] = refl
standing_all (x ∷ rs) = ap (λ b. cond b (x ∷ standing coord_frame 0 rs) []) (le-leb 0 (bytes_of coord_frame rs) (omega arith)) ∙ ap (λ xs. x ∷ xs) (standing_all rs)

-- what a journal says with a Checkpoint is told without what stood before it
last_stands : (protocols : List Participant) (newer : List CoordRecord) (sum : CoordSum) (before : List CoordRecord)
    → coord_journal_sum protocols (newer ++ Checkpoint sum ∷ []) ≡ coord_journal_sum protocols (newer ++ Checkpoint sum ∷ before)
last_stands protocols [] sum before = refl
last_stands protocols (Checkpoint s ∷ newer) sum before = refl
last_stands protocols (Initiation t ms ∷ newer) sum before = ap (λ (s : CoordSum). coord_sum_with protocols s (let l : List CoordRecord = Initiation t ms ∷ [] in l)) (last_stands protocols newer sum before)
last_stands protocols (Commit t ks ∷ newer) sum before = ap (λ (s : CoordSum). coord_sum_with protocols s (let l : List CoordRecord = Commit t ks ∷ [] in l)) (last_stands protocols newer sum before)
last_stands protocols (Abort t ms ∷ newer) sum before = ap (λ (s : CoordSum). coord_sum_with protocols s (let l : List CoordRecord = Abort t ms ∷ [] in l)) (last_stands protocols newer sum before)
last_stands protocols (End t ∷ newer) sum before = ap (λ (s : CoordSum). coord_sum_with protocols s (let l : List CoordRecord = End t ∷ [] in l)) (last_stands protocols newer sum before)

pub journal_same : (protocols : List Participant) (d : Disk CoordRecord) → IsFine d
    → coord_journal_sum protocols (standing coord_frame d.trimmed d.records) ≡ coord_journal_sum protocols d.records
journal_same protocols d f = by_front f.front
  where
    by_front : (d.trimmed ≡ 0) ⊎ IsTrimmed d.records d.synced d.trimmed
        → coord_journal_sum protocols (standing coord_frame d.trimmed d.records) ≡ coord_journal_sum protocols d.records
    by_front (inl e) = ap (λ n. coord_journal_sum protocols (standing coord_frame n d.records)) e ∙ ap (coord_journal_sum protocols) (standing_all d.records)
    by_front (inr t) =
        ap (λ n. coord_journal_sum protocols (standing coord_frame n d.records)) t.at
        ∙ ap (λ rs. coord_journal_sum protocols (standing coord_frame (bytes_of coord_frame t.before) rs)) t.all
        ∙ ap (coord_journal_sum protocols) (standing_trimmed t.newer t.sum t.before)
        ∙ last_stands protocols t.newer t.sum t.before
        ∙ ap (coord_journal_sum protocols) (sym t.all)
