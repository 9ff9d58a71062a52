-- What stands on a site's disk: all records, or a Checkpoint of what was trimmed with the records behind it.
use Rattle.std.proofs.Common.{◌≡◌, ℕ, ◌+◌, ◌≤◌, ◌⊎◌, min, Bool, true, false, cond, nat_le, Option, Some, None, List, [], ◌∷◌, ◌++◌, take, zero, suc, refl, sym, ap, ◌∙◌, subst, inl, inr, arith}
use Rattle.std.proofs.lemmas.Bool.{leb-true, le-leb}
use Rattle.fed_rules.specs.declared.records.SiteRecord.{SiteRecord}
use Rattle.fed_rules.specs.declared.records.SiteRecord.TheVariants.{Setup, Start, Prepared, Ended, Local, Checkpoint}
use Rattle.fed_rules.specs.declared.sums.SiteSum.{SiteSum}
use Rattle.fed_rules.specs.Disk.{Append, Call, CutBack, TrimFront, Stops, Sync, Disk, after_call, after_calls, bytes_of, standing, whole}
use Rattle.fed_rules.specs.SiteRecords.{Home, site_frame}
use Rattle.fed_rules.specs.SiteSums.{behind_sum, journal_sum, last_sum, site_sum, sum_behind, sum_with}
use Rattle.fed_rules.specs.Durable.{IsSound}
use Rattle.fed_rules.proofs.ForCallers.{sound_call, standing_all, whole_all, whole_front}
use Rattle.site_history.specs.Sums.{AreSums, ComeInOrder}
use Rattle.site_history.proofs.SameSays.{SameSays, all_say, same_sum, says_more}
use Rattle.site_history.proofs.Whole.{goes_on_in_order}

pub sums_behind : (home : Home) (newest : SiteRecord) (rs : List SiteRecord) → AreSums home (newest ∷ rs) → AreSums home rs
sums_behind home (Setup site engine protocol items) rs s = s
sums_behind home (Start n) rs s = s
sums_behind home (Prepared t e n ticket writes) rs s = s
sums_behind home (Ended t d) rs s = s
sums_behind home (Local t n writes) rs s = s
sums_behind home (Checkpoint sum) rs s = s.1

pub sums_front : (home : Home) (newer kept : List SiteRecord) → AreSums home (newer ++ kept) → AreSums home kept
sums_front home [] kept s = s
sums_front home (x ∷ newer) kept s = sums_front home newer kept (sums_behind home x (newer ++ kept) s)

-- a record that may stand first behind these: a Checkpoint, or a set-up behind what says nothing
abbrev pub Begins : Home → SiteRecord → List SiteRecord → Type 0
Begins home (Checkpoint sum) before = Unit {0}
Begins home (Setup site engine protocol items) before =
    ((site ≡ home.site) × (engine ≡ home.engine) × (protocol ≡ home.protocol) × (items ≡ home.items)) × SameSays before [] × (last_sum before ≡ None)
Begins home other before = ⊥

-- what was trimmed stands before a synced Checkpoint, or says nothing and stands before a synced set-up
pub record IsTrimmed (home : Home) (rs : List SiteRecord) (synced trimmed : ℕ) : Type 0 where
  pub newer : List SiteRecord
  pub first : SiteRecord
  pub before : List SiteRecord
  pub all : rs ≡ newer ++ first ∷ before
  pub at : trimmed ≡ bytes_of site_frame before
  pub kept : bytes_of site_frame (first ∷ before) ≤ synced
  pub begins : Begins home first before

pub record IsSummed (home : Home) (d : Disk SiteRecord) : Type 0 where
  pub sound : IsSound site_frame d
  pub sums : AreSums home d.records
  pub front : (d.trimmed ≡ 0) ⊎ IsTrimmed home d.records d.synced d.trimmed

-- each appended Checkpoint is the Sum of what stands before it, and what is trimmed stands before a synced one
abbrev pub Fits : Home → Disk SiteRecord → List (Call SiteRecord) → Type 0
Fits home d [] = Unit {0}
Fits home d (Append (Checkpoint sum) ∷ calls) = (sum ≡ site_sum home d.records) × Fits home (after_call site_frame d (Append (Checkpoint sum))) calls
Fits home d (Append newest ∷ calls) = Fits home (after_call site_frame d (Append newest)) calls
Fits home d (TrimFront ∷ calls) =
    ((sum : SiteSum) × (before : List SiteRecord) × (d.records ≡ Checkpoint sum ∷ before) × (bytes_of site_frame (Checkpoint sum ∷ before) ≤ d.synced))
    × Fits home (after_call site_frame d TrimFront) calls
Fits home d (call ∷ calls) = Fits home (after_call site_frame d call) calls

longer : (home : Home) (rs : List SiteRecord) (a b trimmed : ℕ) → a ≤ b → (trimmed ≡ 0) ⊎ IsTrimmed home rs a trimmed → (trimmed ≡ 0) ⊎ IsTrimmed home rs b trimmed
longer home rs a b trimmed le (inl e) = inl e
longer home rs a b trimmed le (inr t) =
    inr (record { newer = t.newer; first = t.first; before = t.before; all = t.all; at = t.at; kept = (let k = t.kept in omega (arith, k, le)); begins = t.begins })

more : (home : Home) (newest : SiteRecord) (rs : List SiteRecord) (synced trimmed : ℕ) → (trimmed ≡ 0) ⊎ IsTrimmed home rs synced trimmed
    → (trimmed ≡ 0) ⊎ IsTrimmed home (newest ∷ rs) synced trimmed
more home newest rs synced trimmed (inl e) = inl e
more home newest rs synced trimmed (inr t) =
    inr (record { newer = newest ∷ t.newer; first = t.first; before = t.before; all = ap (λ xs. newest ∷ xs) t.all; at = t.at; kept = t.kept; begins = t.begins })

-- within a place behind the Checkpoint it stays whole
whole_trimmed : (place : ℕ) (newer older : List SiteRecord) → bytes_of site_frame older ≤ place
    → (kept : List SiteRecord) × (whole site_frame place (newer ++ older) ≡ kept ++ older)
whole_trimmed place [] older le = ([], whole_all site_frame place older le)
whole_trimmed place (x ∷ newer) older le = by_test (nat_le (bytes_of site_frame (x ∷ (newer ++ older))) place) (whole_trimmed place newer older le)
  where
    by_test : (b : Bool) → (kept : List SiteRecord) × (whole site_frame place (newer ++ older) ≡ kept ++ older)
        → (kept : List SiteRecord) × (cond b (x ∷ (newer ++ older)) (whole site_frame place (newer ++ older)) ≡ kept ++ older)
    by_test true rest = (x ∷ newer, refl)
    by_test false rest = rest

summed_call : (home : Home) (d : Disk SiteRecord) (call : Call SiteRecord) (calls : List (Call SiteRecord)) → Fits home d (call ∷ calls) → IsSummed home d
    → IsSummed home (after_call site_frame d call) × Fits home (after_call site_frame d call) calls
summed_call home d (Append (Checkpoint sum)) calls f s = (
  record { sound = sound_call site_frame d (Append (Checkpoint sum)) s.sound; sums = (f.0, s.sums); front = more home _ d.records d.synced d.trimmed s.front },
  f.1,
)
summed_call home d (Append (Setup site engine protocol items)) calls f s =
    (record { sound = sound_call site_frame d (Append (Setup site engine protocol items)) s.sound; sums = s.sums; front = more home _ d.records d.synced d.trimmed s.front }, f)
summed_call home d (Append (Start n)) calls f s =
    (record { sound = sound_call site_frame d (Append (Start n)) s.sound; sums = s.sums; front = more home _ d.records d.synced d.trimmed s.front }, f)
summed_call home d (Append (Prepared t e n ticket writes)) calls f s =
    (record { sound = sound_call site_frame d (Append (Prepared t e n ticket writes)) s.sound; sums = s.sums; front = more home _ d.records d.synced d.trimmed s.front }, f)
summed_call home d (Append (Ended t decision)) calls f s =
    (record { sound = sound_call site_frame d (Append (Ended t decision)) s.sound; sums = s.sums; front = more home _ d.records d.synced d.trimmed s.front }, f)
summed_call home d (Append (Local t n writes)) calls f s =
    (record { sound = sound_call site_frame d (Append (Local t n writes)) s.sound; sums = s.sums; front = more home _ d.records d.synced d.trimmed s.front }, f)
summed_call home d Sync calls f s =
    (record { sound = sound_call site_frame d Sync s.sound; sums = s.sums; front = longer home d.records d.synced d.length d.trimmed s.sound.synced s.front }, f)
summed_call home d CutBack calls f s =
    (record { sound = sound_call site_frame d CutBack s.sound; sums = s.sums; front = cut s.front }, f)
  where
    behind : (newer older : List SiteRecord) → bytes_of site_frame older ≤ bytes_of site_frame (newer ++ older)
    behind [] older = omega arith
    behind (x ∷ newer) older = let h = behind newer older in omega (arith, h)

    cut : (d.trimmed ≡ 0) ⊎ IsTrimmed home d.records d.synced d.trimmed → (d.trimmed ≡ 0) ⊎ IsTrimmed home d.records (bytes_of site_frame d.records) d.trimmed
    cut (inl e) = inl e
    cut (inr t) = inr (record {
      newer = t.newer;
      first = t.first;
      before = t.before;
      all = t.all;
      at = t.at;
      kept = subst (λ rs. bytes_of site_frame (t.first ∷ t.before) ≤ bytes_of site_frame rs) (sym t.all) (behind t.newer (t.first ∷ t.before));
      begins = t.begins;
    })
summed_call home d TrimFront calls ((sum, before, all, kept), f) s = (
  record {
    sound = sound_call site_frame d TrimFront s.sound;
    sums = s.sums;
    front = inr (record { newer = []; first = Checkpoint sum; before = before; all = all; at = ap (λ rs. bytes_of site_frame (Rattle.fed_rules.specs.Disk.before_last rs)) all; kept = kept; begins = tt });
  },
  f,
)
summed_call home d (Stops stop) calls f s = (
  record {
    sound = sound_call site_frame d (Stops stop) s.sound;
    sums = (let (newer, e) = whole_front site_frame place d.records in sums_front home newer (whole site_frame place d.records) (subst (AreSums home) e s.sums));
    front = stopped s.front;
  },
  f,
)
  where
    place : ℕ
    place = min d.length (d.synced + stop)

    enough : d.synced ≤ place
    enough = let h = s.sound.synced in omega (arith, h)

    stopped : (d.trimmed ≡ 0) ⊎ IsTrimmed home d.records d.synced d.trimmed → (d.trimmed ≡ 0) ⊎ IsTrimmed home (whole site_frame place d.records) place d.trimmed
    stopped (inl e) = inl e
    stopped (inr t) =
        let k = t.kept in
        let le : bytes_of site_frame (t.first ∷ t.before) ≤ place = omega (arith, k, enough) in
        let (kept, e) = whole_trimmed place t.newer (t.first ∷ t.before) le in
        inr (record { newer = kept; first = t.first; before = t.before; all = ap (whole site_frame place) t.all ∙ e; at = t.at; kept = le; begins = t.begins })

pub summed_calls : (home : Home) (d : Disk SiteRecord) (calls : List (Call SiteRecord)) → Fits home d calls → IsSummed home d
    → IsSummed home (after_calls site_frame d calls)
summed_calls home d [] f s = s
summed_calls home d (call ∷ calls) f s =
    let r = summed_call home d call calls f s in summed_calls home (after_call site_frame d call) calls r.1 r.0

-- so do the first of these calls, before a stop
pub fits_stopped : (home : Home) (n cut : ℕ) (calls : List (Call SiteRecord)) (d : Disk SiteRecord) → Fits home d calls
    → Fits home d (take n calls ++ Stops cut ∷ [])
fits_stopped home zero cut calls d f = tt
fits_stopped home (suc n) cut [] d f = tt
fits_stopped home (suc n) cut (Append (Checkpoint sum) ∷ calls) d f = (f.0, fits_stopped home n cut calls _ f.1)
fits_stopped home (suc n) cut (Append (Setup site engine protocol items) ∷ calls) d f = fits_stopped home n cut calls _ f
fits_stopped home (suc n) cut (Append (Start e) ∷ calls) d f = fits_stopped home n cut calls _ f
fits_stopped home (suc n) cut (Append (Prepared t e m ticket writes) ∷ calls) d f = fits_stopped home n cut calls _ f
fits_stopped home (suc n) cut (Append (Ended t decision) ∷ calls) d f = fits_stopped home n cut calls _ f
fits_stopped home (suc n) cut (Append (Local t m writes) ∷ calls) d f = fits_stopped home n cut calls _ f
fits_stopped home (suc n) cut (Sync ∷ calls) d f = fits_stopped home n cut calls _ f
fits_stopped home (suc n) cut (CutBack ∷ calls) d f = fits_stopped home n cut calls _ f
fits_stopped home (suc n) cut (TrimFront ∷ calls) d f = (f.0, fits_stopped home n cut calls _ f.1)
fits_stopped home (suc n) cut (Stops c ∷ calls) d f = fits_stopped home n cut calls _ f

-- the records behind a trimmed place
pub standing_trimmed : (newer : List SiteRecord) (first : SiteRecord) (before : List SiteRecord)
    → standing site_frame (bytes_of site_frame before) (newer ++ first ∷ before) ≡ newer ++ first ∷ []
standing_trimmed [] first before =
    ap (λ b. cond b (first ∷ standing site_frame (bytes_of site_frame before) before) []) (le-leb (bytes_of site_frame before) (bytes_of site_frame before) (omega arith))
    ∙ ap (λ xs. first ∷ xs) (none before)
  where
    none : (rs : List SiteRecord) → standing site_frame (bytes_of site_frame rs) rs ≡ []
    none [] = refl
    none (x ∷ rs) = by_test (nat_le (bytes_of site_frame (x ∷ rs)) (bytes_of site_frame rs)) refl
      where
        by_test : (b : Bool) → nat_le (bytes_of site_frame (x ∷ rs)) (bytes_of site_frame rs) ≡ b
            → cond b (x ∷ standing site_frame (bytes_of site_frame (x ∷ rs)) rs) [] ≡ []
        by_test true e = let le = leb-true _ _ e in let never : ⊥ = omega (arith, le) in absurd never
        by_test false e = refl
standing_trimmed (x ∷ newer) first before =
    ap (λ b. cond b (x ∷ standing site_frame (bytes_of site_frame before) (newer ++ first ∷ before)) [])
    (le-leb (bytes_of site_frame before) (bytes_of site_frame (newer ++ first ∷ before)) (behind newer (first ∷ before) (omega arith)))
    ∙ ap (λ xs. x ∷ xs) (standing_trimmed newer first before)
  where
    behind : (newer older : List SiteRecord) → bytes_of site_frame before ≤ bytes_of site_frame older → bytes_of site_frame before ≤ bytes_of site_frame (newer ++ older)
    behind [] older h = h
    behind (y ∷ newer) older h = let k = behind newer older h in omega (arith, k)

-- a list with its last Checkpoint
record HasLast (rs : List SiteRecord) (sum : SiteSum) : Type 0 where
  older : List SiteRecord
  all : rs ≡ behind_sum rs ++ Checkpoint sum ∷ older

has_last : (rs : List SiteRecord) (sum : SiteSum) → last_sum rs ≡ Some sum → HasLast rs sum
has_last [] sum e = cc
has_last (Checkpoint found ∷ rs) sum e = record { older = rs; all = ap (λ (s : SiteSum). let l : List SiteRecord = Checkpoint s ∷ rs in l) (some_parts e) }
  where
    some_parts : Some found ≡ Some sum → found ≡ sum
    some_parts e = cc
has_last (Setup site engine protocol items ∷ rs) sum e = let h = has_last rs sum e in record { older = h.older; all = ap (λ xs. Setup site engine protocol items ∷ xs) h.all }
has_last (Start n ∷ rs) sum e = let h = has_last rs sum e in record { older = h.older; all = ap (λ xs. Start n ∷ xs) h.all }
has_last (Prepared t n number ticket writes ∷ rs) sum e = let h = has_last rs sum e in record { older = h.older; all = ap (λ xs. Prepared t n number ticket writes ∷ xs) h.all }
has_last (Ended t d ∷ rs) sum e = let h = has_last rs sum e in record { older = h.older; all = ap (λ xs. Ended t d ∷ xs) h.all }
has_last (Local t n writes ∷ rs) sum e = let h = has_last rs sum e in record { older = h.older; all = ap (λ xs. Local t n writes ∷ xs) h.all }

-- a list in which each Checkpoint is the Sum of what stands before says what all its records say
pub whole_sum : (home : Home) (rs : List SiteRecord) → AreSums home rs → ComeInOrder rs → journal_sum home rs ≡ site_sum home rs
whole_sum home rs sums order = by_last (last_sum rs) refl
  where
    by_last : (o : Option SiteSum) → last_sum rs ≡ o → sum_behind home rs o ≡ site_sum home rs
    by_last None e = refl
    by_last (Some sum) e =
        let h = has_last rs sum e in
        let older : List SiteRecord = Checkpoint sum ∷ h.older in
        let is : sum ≡ site_sum home h.older = (sums_front home (behind_sum rs) older (subst (AreSums home) h.all sums)).0 in
        ap (λ (s : SiteSum). sum_with s (behind_sum rs)) is
        ∙ goes_on_in_order home (behind_sum rs) older (subst ComeInOrder h.all order)
        ∙ ap (site_sum home) (sym h.all)

-- the last Checkpoint stands on the disk
last_stands : (home : Home) (newer : List SiteRecord) (sum : SiteSum) (before : List SiteRecord)
    → journal_sum home (newer ++ Checkpoint sum ∷ []) ≡ journal_sum home (newer ++ Checkpoint sum ∷ before)
last_stands home newer sum before = by_both (last_same newer) (behind_same newer)
  where
    last_same : (xs : List SiteRecord) → (s : SiteSum) × (last_sum (xs ++ Checkpoint sum ∷ []) ≡ Some s) × (last_sum (xs ++ Checkpoint sum ∷ before) ≡ Some s)
    last_same [] = (sum, refl, refl)
    last_same (Checkpoint s ∷ xs) = (s, refl, refl)
    last_same (Setup site engine protocol items ∷ xs) = last_same xs
    last_same (Start n ∷ xs) = last_same xs
    last_same (Prepared t e n ticket writes ∷ xs) = last_same xs
    last_same (Ended t d ∷ xs) = last_same xs
    last_same (Local t n writes ∷ xs) = last_same xs

    behind_same : (xs : List SiteRecord) → behind_sum (xs ++ Checkpoint sum ∷ []) ≡ behind_sum (xs ++ Checkpoint sum ∷ before)
    behind_same [] = refl
    behind_same (Checkpoint s ∷ xs) = refl
    behind_same (Setup site engine protocol items ∷ xs) = ap (λ ys. Setup site engine protocol items ∷ ys) (behind_same xs)
    behind_same (Start n ∷ xs) = ap (λ ys. Start n ∷ ys) (behind_same xs)
    behind_same (Prepared t e n ticket writes ∷ xs) = ap (λ ys. Prepared t e n ticket writes ∷ ys) (behind_same xs)
    behind_same (Ended t d ∷ xs) = ap (λ ys. Ended t d ∷ ys) (behind_same xs)
    behind_same (Local t n writes ∷ xs) = ap (λ ys. Local t n writes ∷ ys) (behind_same xs)

    by_both : (s : SiteSum) × (last_sum (newer ++ Checkpoint sum ∷ []) ≡ Some s) × (last_sum (newer ++ Checkpoint sum ∷ before) ≡ Some s)
        → behind_sum (newer ++ Checkpoint sum ∷ []) ≡ behind_sum (newer ++ Checkpoint sum ∷ before)
        → journal_sum home (newer ++ Checkpoint sum ∷ []) ≡ journal_sum home (newer ++ Checkpoint sum ∷ before)
    by_both (s, e, f) b =
        ap (sum_behind home (newer ++ Checkpoint sum ∷ [])) e ∙ ap (sum_with s) b ∙ sym (ap (sum_behind home (newer ++ Checkpoint sum ∷ before)) f)

-- whether a Checkpoint is among the records is told without what stood before them
record AreTold (ys zs xs : List SiteRecord) (sum : SiteSum) : Type 0 where
  one : last_sum (xs ++ ys) ≡ Some sum
  other : last_sum (xs ++ zs) ≡ Some sum
  same : behind_sum (xs ++ ys) ≡ behind_sum (xs ++ zs)

abbrev NoneAmong : (ys zs xs : List SiteRecord) → Type 0
NoneAmong ys zs xs = (last_sum (xs ++ ys) ≡ None) × (last_sum (xs ++ zs) ≡ None)

by_last_sum : (ys zs : List SiteRecord) → last_sum ys ≡ None → last_sum zs ≡ None → (xs : List SiteRecord)
    → ((sum : SiteSum) × AreTold ys zs xs sum) ⊎ NoneAmong ys zs xs
by_last_sum ys zs p q [] = inr (p, q)
by_last_sum ys zs p q (Checkpoint sum ∷ xs) = inl (sum, record { one = refl; other = refl; same = refl })
by_last_sum ys zs p q (Setup site engine protocol items ∷ xs) = elim (by_last_sum ys zs p q xs) [
  | inl (sum, t) ↦ inl (sum, record { one = t.one; other = t.other; same = ap (λ rs. Setup site engine protocol items ∷ rs) t.same })
  | inr n ↦ inr n
]
by_last_sum ys zs p q (Start e ∷ xs) = elim (by_last_sum ys zs p q xs) [
  | inl (sum, t) ↦ inl (sum, record { one = t.one; other = t.other; same = ap (λ rs. Start e ∷ rs) t.same })
  | inr n ↦ inr n
]
by_last_sum ys zs p q (Prepared u e n ticket writes ∷ xs) = elim (by_last_sum ys zs p q xs) [
  | inl (sum, t) ↦ inl (sum, record { one = t.one; other = t.other; same = ap (λ rs. Prepared u e n ticket writes ∷ rs) t.same })
  | inr n ↦ inr n
]
by_last_sum ys zs p q (Ended u d ∷ xs) = elim (by_last_sum ys zs p q xs) [
  | inl (sum, t) ↦ inl (sum, record { one = t.one; other = t.other; same = ap (λ rs. Ended u d ∷ rs) t.same })
  | inr n ↦ inr n
]
by_last_sum ys zs p q (Local u n writes ∷ xs) = elim (by_last_sum ys zs p q xs) [
  | inl (sum, t) ↦ inl (sum, record { one = t.one; other = t.other; same = ap (λ rs. Local u n writes ∷ rs) t.same })
  | inr n ↦ inr n
]

-- so what says nothing may be left out before a set-up
set_up_stands : (home : Home) (newer : List SiteRecord) (first : SiteRecord) (before : List SiteRecord) → last_sum (first ∷ []) ≡ None
    → last_sum (first ∷ before) ≡ None → SameSays before [] → journal_sum home (newer ++ first ∷ []) ≡ journal_sum home (newer ++ first ∷ before)
set_up_stands home newer first before p q s = elim (by_last_sum (first ∷ []) (first ∷ before) p q newer) [
  | inl (sum, t) ↦
      ap (sum_behind home (newer ++ first ∷ [])) t.one ∙ ap (sum_with sum) t.same ∙ sym (ap (sum_behind home (newer ++ first ∷ before)) t.other)
  | inr (one, other) ↦
      ap (sum_behind home (newer ++ first ∷ [])) one
      ∙ sym (same_sum home (newer ++ first ∷ before) (newer ++ first ∷ []) (all_say newer (first ∷ before) (first ∷ []) (says_more first before [] s)))
      ∙ sym (ap (sum_behind home (newer ++ first ∷ before)) other)
]

first_stands : (home : Home) (newer : List SiteRecord) (first : SiteRecord) (before : List SiteRecord) → Begins home first before
    → journal_sum home (newer ++ first ∷ []) ≡ journal_sum home (newer ++ first ∷ before)
first_stands home newer (Checkpoint sum) before b = last_stands home newer sum before
first_stands home newer (Setup site engine protocol items) before b = set_up_stands home newer (Setup site engine protocol items) before refl b.2 b.1
first_stands home newer (Start n) before b = absurd b
first_stands home newer (Prepared t e n ticket writes) before b = absurd b
first_stands home newer (Ended t d) before b = absurd b
first_stands home newer (Local t n writes) before b = absurd b

-- what the journal on a disk says is what all records say
pub journal_says_all : (home : Home) (d : Disk SiteRecord) → IsSummed home d → ComeInOrder d.records
    → journal_sum home (standing site_frame d.trimmed d.records) ≡ site_sum home d.records
journal_says_all home d s order = by_front s.front ∙ whole_sum home d.records s.sums order
  where
    by_front : (d.trimmed ≡ 0) ⊎ IsTrimmed home d.records d.synced d.trimmed
        → journal_sum home (standing site_frame d.trimmed d.records) ≡ journal_sum home d.records
    by_front (inl e) = ap (λ n. journal_sum home (standing site_frame n d.records)) e ∙ ap (journal_sum home) (standing_all d.records)
    by_front (inr t) =
        ap (λ n. journal_sum home (standing site_frame n d.records)) t.at
        ∙ ap (λ rs. journal_sum home (standing site_frame (bytes_of site_frame t.before) rs)) t.all
        ∙ ap (journal_sum home) (standing_trimmed t.newer t.first t.before)
        ∙ first_stands home t.newer t.first t.before t.begins
        ∙ ap (journal_sum home) (sym t.all)
