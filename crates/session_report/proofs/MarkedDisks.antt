-- What a line's disk calls do to the marks of the records that were kept, and to those that stand.
use Rattle.std.proofs.Common.{◌≡◌, ℕ, zero, suc, ◌+◌, ◌≤◌, ◌⊎◌, inl, inr, min, Bool, true, false, cond, Option, Some, None, List, [], ◌∷◌, ◌++◌, length, take, refl, sym, ◌∙◌, ap, ap₂, arith}
use Rattle.std.specs.Prelude.{nat_le, nat_lt}
use Rattle.std.proofs.lemmas.Bool.{le-leb, leb-true, le-ltb, lt-ltb}
use Rattle.mdb_base.specs.Words.{Each, found, with_some}
use Rattle.fed_rules.specs.declared.records.SiteRecord.{SiteRecord}
use Rattle.fed_rules.specs.Disk.{Call, Append, Sync, CutBack, TrimFront, Stops, Disk, after_call, after_calls, before_last, bytes_of, standing, whole}
use Rattle.fed_rules.specs.SiteRecords.{site_frame}
use Rattle.fed_rules.specs.Durable.{IsFirm, IsSound}
use Rattle.fed_rules.proofs.ForCallers.{IsCut, IsQuiet, Keeps, appended, bytes-more, bytes_whole, left_by_line, left_by_stop, quiet_plain, sound_call, whole_all}
use Rattle.session_report.specs.declared.marks.Mark.{Mark}
use Rattle.session_report.specs.Marks.{mark_of, new_marks}
use Rattle.session_report.proofs.LineForms.{Forms, IsUnmarked, none, forces_one, leaves_one, cuts_back, trims}

-- no more is whole within fewer bytes
whole_bytes : (rs : List SiteRecord) (b : ℕ) → bytes_of site_frame (whole site_frame b rs) ≤ bytes_of site_frame rs
whole_bytes [] b = omega arith
whole_bytes (r ∷ rs) b = by_test (nat_le (bytes_of site_frame (r ∷ rs)) b) (whole_bytes rs b)
  where
    by_test : (t : Bool) → bytes_of site_frame (whole site_frame b rs) ≤ bytes_of site_frame rs → bytes_of site_frame (cond t (r ∷ rs) (whole site_frame b rs)) ≤ bytes_of site_frame (r ∷ rs)
    by_test true h = omega arith
    by_test false h = omega (arith, h)

whole_within : (rs : List SiteRecord) (a b : ℕ) → a ≤ b → bytes_of site_frame (whole site_frame a rs) ≤ bytes_of site_frame (whole site_frame b rs)
whole_within [] a b le = omega arith
whole_within (r ∷ rs) a b le = by_test (nat_le (bytes_of site_frame (r ∷ rs)) b) refl (whole_within rs a b le)
  where
    within : nat_le (bytes_of site_frame (r ∷ rs)) b ≡ false → (t : Bool) → nat_le (bytes_of site_frame (r ∷ rs)) a ≡ t
        → bytes_of site_frame (whole site_frame a rs) ≤ bytes_of site_frame (whole site_frame b rs)
        → bytes_of site_frame (cond t (r ∷ rs) (whole site_frame a rs)) ≤ bytes_of site_frame (whole site_frame b rs)
    within e false f h = h
    within e true f h =
        let small : bytes_of site_frame (r ∷ rs) ≤ a = leb-true _ _ f in
        let fits = le-leb (bytes_of site_frame (r ∷ rs)) b (omega (arith, small, le)) in
        let clash = sym e ∙ fits in
        cc

    by_test : (t : Bool) → nat_le (bytes_of site_frame (r ∷ rs)) b ≡ t → bytes_of site_frame (whole site_frame a rs) ≤ bytes_of site_frame (whole site_frame b rs)
        → bytes_of site_frame (whole site_frame a (r ∷ rs)) ≤ bytes_of site_frame (cond t (r ∷ rs) (whole site_frame b rs))
    by_test true e h = whole_bytes (r ∷ rs) a
    by_test false e h = within e (nat_le (bytes_of site_frame (r ∷ rs)) a) refl h

-- what was trimmed lies before a synced record
abbrev IsSafelyTrimmed : Disk SiteRecord → Type 0
IsSafelyTrimmed d = d.trimmed ≤ bytes_of site_frame (whole site_frame d.synced d.records)

-- a sound disk on which no record with a mark can be lost, nor any that was trimmed
pub record IsMarked (d : Disk SiteRecord) : Type 0 where
  pub firm : IsFirm site_frame IsUnmarked d
  pub trimmed : IsSafelyTrimmed d

-- a call is a trim only where all records are synced
abbrev TrimsSafely : Disk SiteRecord → List (Call SiteRecord) → Type 0
TrimsSafely d [] = Unit {0}
TrimsSafely d (Append newest ∷ calls) = TrimsSafely (after_call site_frame d (Append newest)) calls
TrimsSafely d (Sync ∷ calls) = TrimsSafely (after_call site_frame d Sync) calls
TrimsSafely d (CutBack ∷ calls) = TrimsSafely (after_call site_frame d CutBack) calls
TrimsSafely d (Stops cut ∷ calls) = TrimsSafely (after_call site_frame d (Stops cut)) calls
TrimsSafely d (TrimFront ∷ calls) = (bytes_of site_frame d.records ≤ d.synced) × TrimsSafely (after_call site_frame d TrimFront) calls

before_last_bytes : (rs : List SiteRecord) → bytes_of site_frame (before_last rs) ≤ bytes_of site_frame rs
before_last_bytes [] = omega arith
before_last_bytes (r ∷ rs) = omega arith

trimmed_calls : (d : Disk SiteRecord) (calls : List (Call SiteRecord)) → TrimsSafely d calls → IsSound site_frame d → IsSafelyTrimmed d → IsSafelyTrimmed (after_calls site_frame d calls)
trimmed_calls d [] t s h = h
trimmed_calls d (Append newest ∷ calls) t s h =
    trimmed_calls (after_call site_frame d (Append newest)) calls t (sound_call site_frame d (Append newest) s) (by_test (nat_le (bytes_of site_frame (newest ∷ d.records)) d.synced))
  where
    by_test : (b : Bool) → d.trimmed ≤ bytes_of site_frame (cond b (newest ∷ d.records) (whole site_frame d.synced d.records))
    by_test true = (let all = whole_bytes d.records d.synced in omega (arith, all, h))
    by_test false = h
trimmed_calls d (Sync ∷ calls) t s h =
    trimmed_calls (after_call site_frame d Sync) calls t (sound_call site_frame d Sync s)
    (let more = whole_within d.records d.synced d.length s.synced in omega (arith, more, h))
trimmed_calls d (CutBack ∷ calls) t s h =
    trimmed_calls (after_call site_frame d CutBack) calls t (sound_call site_frame d CutBack s)
    (let all = ap (bytes_of site_frame) (whole_all site_frame (bytes_of site_frame d.records) d.records (omega arith)) in
    let some = whole_bytes d.records d.synced in
    omega (arith, all, some, h))
trimmed_calls d (TrimFront ∷ calls) (synced, t) s h =
    trimmed_calls (after_call site_frame d TrimFront) calls t (sound_call site_frame d TrimFront s)
    (let all = ap (bytes_of site_frame) (whole_all site_frame d.synced d.records synced) in
    let before = before_last_bytes d.records in
    omega (arith, all, before))
trimmed_calls d (Stops cut ∷ calls) t s h =
    trimmed_calls (after_call site_frame d (Stops cut)) calls t (sound_call site_frame d (Stops cut) s)
    (let place = min d.length (d.synced + cut) in
    let sound = s.synced in
    let enough : d.synced ≤ place = omega arith in
    let again = ap (bytes_of site_frame) (whole_all site_frame place (whole site_frame place d.records) (bytes_whole site_frame place d.records)) in
    let more = whole_within d.records d.synced place enough in
    omega (arith, again, more, h))

-- the first of these calls, before a stop, trim safely too
trims_stopped : (n cut : ℕ) (calls : List (Call SiteRecord)) (d : Disk SiteRecord) → TrimsSafely d calls → TrimsSafely d (take n calls ++ Stops cut ∷ [])
trims_stopped zero cut calls d t = tt
trims_stopped (suc n) cut [] d t = tt
trims_stopped (suc n) cut (Append newest ∷ calls) d t = trims_stopped n cut calls (after_call site_frame d (Append newest)) t
trims_stopped (suc n) cut (Sync ∷ calls) d t = trims_stopped n cut calls (after_call site_frame d Sync) t
trims_stopped (suc n) cut (CutBack ∷ calls) d t = trims_stopped n cut calls (after_call site_frame d CutBack) t
trims_stopped (suc n) cut (Stops c ∷ calls) d t = trims_stopped n cut calls (after_call site_frame d (Stops c)) t
trims_stopped (suc n) cut (TrimFront ∷ calls) d (s, t) = (s, trims_stopped n cut calls (after_call site_frame d TrimFront) t)

form_trims : (d : Disk SiteRecord) (calls : List (Call SiteRecord)) → Forms calls → IsSound site_frame d → TrimsSafely d calls
form_trims d _ none s = tt
form_trims d _ (forces_one newest) s = tt
form_trims d _ (leaves_one newest u) s = tt
form_trims d _ (cuts_back newest u) s = tt
form_trims d _ (trims newest u) s = ((let frames = s.frames in omega (arith, frames)), tt)

form_quiet : (calls : List (Call SiteRecord)) → Forms calls → IsQuiet IsUnmarked false calls
form_quiet _ none = tt
form_quiet _ (forces_one newest) = inr tt
form_quiet _ (leaves_one newest u) = inl (u, tt)
form_quiet _ (cuts_back newest u) = inr tt
form_quiet _ (trims newest u) = inr tt

-- one record is added, which has no mark where the disk was trimmed; or records without a mark are lost
pub data Change (old new : Disk SiteRecord) : Type 0 where
  Added : (newest : SiteRecord) → new.records ≡ newest ∷ old.records → (IsUnmarked newest ⊎ (new.trimmed ≡ old.trimmed)) → Change old new
  Fewer : IsCut IsUnmarked old.records new.records → old.trimmed ≤ new.trimmed → Change old new

-- the disk behind a line: it stays marked
pub record GoesOn (old new : Disk SiteRecord) : Type 0 where
  pub change : Change old new
  pub marked : IsMarked new

-- what may be trimmed behind the first of a line's calls and a stop
record IsTrimmedOn (old new : Disk SiteRecord) (news : List SiteRecord) : Type 0 where
  on : old.trimmed ≤ new.trimmed
  same : Each IsUnmarked news ⊎ (new.trimmed ≡ old.trimmed)

stop_trims : (d : Disk SiteRecord) (calls : List (Call SiteRecord)) (n cut : ℕ) → Forms calls → IsMarked d
    → IsTrimmedOn d (after_calls site_frame d (take n calls ++ Stops cut ∷ [])) (appended calls [])
stop_trims d _ zero cut f m = record { on = omega arith; same = inr refl }
stop_trims d _ (suc n) cut none m = record { on = omega arith; same = inr refl }
stop_trims d _ (suc zero) cut (forces_one newest) m = record { on = omega arith; same = inr refl }
stop_trims d _ (suc (suc zero)) cut (forces_one newest) m = record { on = omega arith; same = inr refl }
stop_trims d _ (suc (suc (suc n))) cut (forces_one newest) m = record { on = omega arith; same = inr refl }
stop_trims d _ (suc zero) cut (leaves_one newest u) m = record { on = omega arith; same = inr refl }
stop_trims d _ (suc (suc n)) cut (leaves_one newest u) m = record { on = omega arith; same = inr refl }
stop_trims d _ (suc zero) cut (cuts_back newest u) m = record { on = omega arith; same = inr refl }
stop_trims d _ (suc (suc zero)) cut (cuts_back newest u) m = record { on = omega arith; same = inr refl }
stop_trims d _ (suc (suc (suc zero))) cut (cuts_back newest u) m = record { on = omega arith; same = inr refl }
stop_trims d _ (suc (suc (suc (suc n)))) cut (cuts_back newest u) m = record { on = omega arith; same = inr refl }
stop_trims d _ (suc zero) cut (trims newest u) m = record { on = omega arith; same = inr refl }
stop_trims d _ (suc (suc zero)) cut (trims newest u) m = record { on = omega arith; same = inr refl }
stop_trims d _ (suc (suc (suc zero))) cut (trims newest u) m =
    record { on = (let some = whole_bytes d.records d.synced in let before = m.trimmed in omega (arith, some, before)); same = inl (u, tt) }
stop_trims d _ (suc (suc (suc (suc n)))) cut (trims newest u) m =
    record { on = (let some = whole_bytes d.records d.synced in let before = m.trimmed in omega (arith, some, before)); same = inl (u, tt) }

-- one record at most is appended
abbrev AtMostOne : List SiteRecord → Type 0
AtMostOne [] = Unit {0}
AtMostOne (r ∷ []) = Unit {0}
AtMostOne (r ∷ q ∷ rs) = ⊥

form_appends : (calls : List (Call SiteRecord)) → Forms calls → AtMostOne (appended calls [])
form_appends _ none = tt
form_appends _ (forces_one newest) = tt
form_appends _ (leaves_one newest u) = tt
form_appends _ (cuts_back newest u) = tt
form_appends _ (trims newest u) = tt

tail_of : List SiteRecord → List SiteRecord
tail_of [] = []
tail_of (x ∷ xs) = xs

kept_change : (old new : Disk SiteRecord) (news : List SiteRecord) → AtMostOne news → IsTrimmedOn old new news → Keeps IsUnmarked news old.records new.records → Change old new
kept_change old new news one t (inr cut) = Fewer cut t.on
kept_change old new news one t (inl ([], front, is)) = Fewer ([], tt, sym is) t.on
kept_change old new [] one t (inl (k ∷ kept, ([], e), is)) = cc
kept_change old new [] one t (inl (k ∷ kept, (n ∷ newer, e), is)) = cc
kept_change old new (r ∷ []) one t (inl (k ∷ kept, ([], e), is)) =
    Added r (is ∙ ap (λ (xs : List SiteRecord). xs ++ old.records) (sym e)) (elim t.same [ inl u ↦ inl u.0 | inr s ↦ inr s ])
kept_change old new (r ∷ []) one t (inl (k ∷ kept, (n ∷ [], e), is)) = (let clash = ap tail_of e in cc)
kept_change old new (r ∷ []) one t (inl (k ∷ kept, (n ∷ m ∷ newer, e), is)) = (let clash = ap tail_of e in cc)
kept_change old new (r ∷ q ∷ rs) one t (inl (k ∷ kept, front, is)) = absurd one

-- a line that a stop ends
pub goes_stopped : (d : Disk SiteRecord) (calls : List (Call SiteRecord)) (n cut : ℕ) → Forms calls → IsMarked d → GoesOn d (after_calls site_frame d (take n calls ++ Stops cut ∷ []))
goes_stopped d calls n cut f m =
    let left = left_by_stop site_frame IsUnmarked d calls n cut (quiet_plain IsUnmarked false calls (form_quiet calls f)) m.firm in
    record {
      change = kept_change d _ (appended calls []) (form_appends calls f) (stop_trims d calls n cut f m) left.keeps;
      marked = record {
        firm = left.firm;
        trimmed = trimmed_calls d (take n calls ++ Stops cut ∷ []) (trims_stopped n cut calls d (form_trims d calls f m.firm.sound)) m.firm.sound m.trimmed;
      };
    }

whole_change : (d : Disk SiteRecord) (calls : List (Call SiteRecord)) → Forms calls → Change d (after_calls site_frame d calls)
whole_change d _ none = Fewer ([], tt, refl) (omega arith)
whole_change d _ (forces_one newest) = Added newest refl (inr refl)
whole_change d _ (leaves_one newest u) = Added newest refl (inl u)
whole_change d _ (cuts_back newest u) = Added newest refl (inl u)
whole_change d _ (trims newest u) = Added newest refl (inl u)

-- a line that goes through
pub goes_whole : (d : Disk SiteRecord) (calls : List (Call SiteRecord)) → Forms calls → IsMarked d → GoesOn d (after_calls site_frame d calls)
goes_whole d calls f m =
    record {
      change = whole_change d calls f;
      marked = record {
        firm = (left_by_line site_frame IsUnmarked d calls (form_quiet calls f) m.firm).firm;
        trimmed = trimmed_calls d calls (form_trims d calls f m.firm.sound) m.firm.sound m.trimmed;
      };
    }

-- fewer records stand where more was trimmed
standing_more : (a b : ℕ) (rs : List SiteRecord) → a ≤ b → length (standing site_frame b rs) ≤ length (standing site_frame a rs)
standing_more a b [] le = omega arith
standing_more a b (r ∷ rs) le = by_test (nat_le b (bytes_of site_frame rs)) refl (standing_more a b rs le)
  where
    by_test : (t : Bool) → nat_le b (bytes_of site_frame rs) ≡ t → length (standing site_frame b rs) ≤ length (standing site_frame a rs)
        → length (cond t (r ∷ standing site_frame b rs) []) ≤ length (standing site_frame a (r ∷ rs))
    by_test false e h = omega arith
    by_test true e h =
        let there : b ≤ bytes_of site_frame rs = leb-true _ _ e in
        let more = ap (λ (c : Bool). length (cond c (r ∷ standing site_frame a rs) [])) (le-leb a (bytes_of site_frame rs) (omega (arith, there, le))) in
        omega (arith, more, h)

-- not within so many bytes, so not within fewer
still_false : (t a b : ℕ) → a ≤ b → nat_le t b ≡ false → nat_le t a ≡ false
still_false t a b le e = by_test (nat_le t a) refl
  where
    by_test : (c : Bool) → nat_le t a ≡ c → nat_le t a ≡ false
    by_test false f = f
    by_test true f = (let low : t ≤ a = leb-true _ _ f in let high = le-leb t b (omega (arith, low, le)) in let clash = sym e ∙ high in cc)

standing_none : (t : ℕ) (rs : List SiteRecord) → nat_le t (bytes_of site_frame rs) ≡ false → standing site_frame t rs ≡ []
standing_none t [] e = refl
standing_none t (r ∷ rs) e = ap (λ (c : Bool). cond c (r ∷ standing site_frame t rs) []) (still_false t (bytes_of site_frame rs) (bytes_of site_frame (r ∷ rs)) (omega arith) e)

-- and where the newest are lost
standing_cut : (t : ℕ) (newer rs : List SiteRecord) → length (standing site_frame t rs) ≤ length (standing site_frame t (newer ++ rs))
standing_cut t [] rs = omega arith
standing_cut t (n ∷ newer) rs = by_test (nat_le t (bytes_of site_frame (newer ++ rs))) refl (standing_cut t newer rs)
  where
    by_test : (b : Bool) → nat_le t (bytes_of site_frame (newer ++ rs)) ≡ b → length (standing site_frame t rs) ≤ length (standing site_frame t (newer ++ rs))
        → length (standing site_frame t rs) ≤ length (cond b (n ∷ standing site_frame t (newer ++ rs)) [])
    by_test true e h = omega (arith, h)
    by_test false e h =
        let none = ap (λ (xs : List SiteRecord). length xs) (standing_none t rs (still_false t (bytes_of site_frame rs) (bytes_of site_frame (newer ++ rs)) (bytes-more newer rs) e)) in
        omega (arith, none)

-- no record that has no mark adds one
found_cut : (newer rs : List SiteRecord) → Each IsUnmarked newer → found mark_of (newer ++ rs) ≡ found mark_of rs
found_cut [] rs u = refl
found_cut (n ∷ newer) rs u = ap (λ o. with_some o (found mark_of (newer ++ rs))) u.0 ∙ found_cut newer rs u.1

few_marks : (before : ℕ) (js : List SiteRecord) → length js ≤ before → new_marks before js ≡ []
few_marks before [] le = refl
few_marks before (j ∷ js) le = ap (λ (c : Bool). cond c (with_some (mark_of j) []) []) (le-ltb before (length (j ∷ js)) le)

no_marks : (before t : ℕ) (newest : SiteRecord) (rs : List SiteRecord) → IsUnmarked newest → new_marks before (standing site_frame t (newest ∷ rs)) ≡ []
no_marks before t newest rs u = by_test (nat_le t (bytes_of site_frame rs))
  where
    same : (c : Bool) → cond c (with_some (mark_of newest) []) [] ≡ []
    same true = ap (λ o. with_some o []) u
    same false = refl

    by_test : (c : Bool) → new_marks before (cond c (newest ∷ standing site_frame t rs) []) ≡ []
    by_test false = refl
    by_test true = same (nat_lt before (length (newest ∷ standing site_frame t rs)))

one_mark : (o : Option Mark) (xs : List Mark) → with_some o xs ≡ with_some o [] ++ xs
one_mark None xs = refl
one_mark (Some m) xs = refl

-- the marks behind a line are those before it, and the one of the newest standing record where more stand
pub marks_grow : (old new : Disk SiteRecord) → IsMarked old → Change old new
    → found mark_of new.records ≡ new_marks (length (standing site_frame old.trimmed old.records)) (standing site_frame new.trimmed new.records) ++ found mark_of old.records
marks_grow old new m (Fewer (newer, unmarked, is) on) =
    let cut = standing_cut old.trimmed newer new.records in
    let all = ap (λ (rs : List SiteRecord). length (standing site_frame old.trimmed rs)) is in
    let more = standing_more old.trimmed new.trimmed new.records on in
    let few = few_marks (length (standing site_frame old.trimmed old.records)) (standing site_frame new.trimmed new.records) (omega (arith, cut, all, more)) in
    sym (found_cut newer new.records unmarked) ∙ (sym (ap (found mark_of) is) ∙ ap (λ (ms : List Mark). ms ++ found mark_of old.records) (sym few))
marks_grow old new m (Added newest is (inl unmarked)) =
    let none = ap (λ rs. new_marks (length (standing site_frame old.trimmed old.records)) (standing site_frame new.trimmed rs)) is ∙ no_marks (length (standing site_frame old.trimmed old.records)) new.trimmed newest old.records unmarked in
    ap (found mark_of) is ∙ (ap (λ o. with_some o (found mark_of old.records)) unmarked ∙ ap (λ (ms : List Mark). ms ++ found mark_of old.records) (sym none))
marks_grow old new m (Added newest is (inr same)) =
    let t = old.trimmed in
    let js = standing site_frame t old.records in
    let below : t ≤ bytes_of site_frame old.records = (let some = whole_bytes old.records old.synced in let before = m.trimmed in omega (arith, some, before)) in
    let there : standing site_frame t (newest ∷ old.records) ≡ newest ∷ js = ap (λ (c : Bool). cond c (newest ∷ js) []) (le-leb t (bytes_of site_frame old.records) below) in
    let now : standing site_frame new.trimmed new.records ≡ newest ∷ js = ap₂ (λ n rs. standing site_frame n rs) same is ∙ there in
    let one : new_marks (length js) (standing site_frame new.trimmed new.records) ≡ with_some (mark_of newest) [] =
    ap (new_marks (length js)) now ∙ ap (λ (c : Bool). cond c (with_some (mark_of newest) []) []) (lt-ltb (length js) (length (newest ∷ js)) (omega arith)) in
    ap (found mark_of) is ∙ (one_mark (mark_of newest) (found mark_of old.records) ∙ ap (λ (ms : List Mark). ms ++ found mark_of old.records) (sym one))
