-- What a line's disk calls leave. A line that a stop ends keeps the oldest of the records that it appends, or it loses loose ones before them.
use Rattle.std.proofs.Common.{◌≡◌, ℕ, zero, suc, ◌+◌, ◌≤◌, ◌⊎◌, inl, inr, min, Bool, true, false, cond, nat_le, List, [], ◌∷◌, ◌++◌, take, refl, sym, ap, subst, ◌∙◌, arith}
use Rattle.mdb_base.specs.Words.{Each, Among}
use Rattle.mdb_base.proofs.ForCallers.{among_behind, among_split}
use Rattle.order_laws.proofs.ForCallers.{each_not}
use Rattle.fed_rules.specs.Disk.{Disk, Call, Append, Sync, CutBack, TrimFront, Stops, bytes_of, whole, after_call, after_calls}
use Rattle.fed_rules.specs.Durable.{IsSound, LooseFirst, IsFirm, IsFrontOf}
use Rattle.fed_rules.proofs.Durable.{whole_all, sound_call, all_synced, firm_append, firm_sync, firm_cut, firm_stop}
use Rattle.std.proofs.lemmas.List.{append_assoc}

-- the records that these calls append, the newest first, before those that were appended so far
abbrev pub appended : {R : Type 0} → List (Call R) → List R → List R
appended [] rs = rs
appended (Append r ∷ cs) rs = appended cs (r ∷ rs)
appended (Sync ∷ cs) rs = appended cs rs
appended (CutBack ∷ cs) rs = appended cs rs
appended (TrimFront ∷ cs) rs = appended cs rs
appended (Stops cut ∷ cs) rs = appended cs rs

-- none of these calls is a stop, and only loose records are left unsynced; said behind what is synced, or behind what still has to be
abbrev pub IsQuiet : {R : Type 0} → (R → Type 0) → Bool → List (Call R) → Type 0
IsQuiet Loose false [] = Unit {0}
IsQuiet Loose true [] = ⊥
IsQuiet Loose false (Append r ∷ cs) = (Loose r × IsQuiet Loose false cs) ⊎ IsQuiet Loose true cs
IsQuiet Loose true (Append r ∷ cs) = IsQuiet Loose true cs
IsQuiet Loose b (Sync ∷ cs) = IsQuiet Loose false cs
IsQuiet Loose b (CutBack ∷ cs) = IsQuiet Loose false cs
IsQuiet Loose b (TrimFront ∷ cs) = IsQuiet Loose b cs
IsQuiet Loose b (Stops cut ∷ cs) = ⊥

-- none of these calls is a stop
abbrev pub IsPlain : {R : Type 0} → List (Call R) → Type 0
IsPlain [] = Unit {0}
IsPlain (Append r ∷ cs) = IsPlain cs
IsPlain (Sync ∷ cs) = IsPlain cs
IsPlain (CutBack ∷ cs) = IsPlain cs
IsPlain (TrimFront ∷ cs) = IsPlain cs
IsPlain (Stops cut ∷ cs) = ⊥

-- what is left of these records when the newest were taken away, all of them loose
abbrev pub IsCut : {R : Type 0} → (R → Type 0) → List R → List R → Type 0
IsCut {R} Loose rs now = (newer : List R) × Each Loose newer × (rs ≡ newer ++ now)

-- the oldest of the appended records stand before the old ones, or some loose old ones are gone
abbrev pub Keeps : {R : Type 0} → (R → Type 0) → List R → List R → List R → Type 0
Keeps {R} Loose news old now = ((kept : List R) × IsFrontOf news kept × (now ≡ kept ++ old)) ⊎ IsCut Loose old now

pub quiet_plain : {R : Type 0} (Loose : R → Type 0) (b : Bool) (cs : List (Call R)) → IsQuiet Loose b cs → IsPlain cs
quiet_plain Loose false [] q = tt
quiet_plain Loose true [] q = tt
quiet_plain Loose false (Append r ∷ cs) (inl q) = quiet_plain Loose false cs q.1
quiet_plain Loose false (Append r ∷ cs) (inr q) = quiet_plain Loose true cs q
quiet_plain Loose true (Append r ∷ cs) q = quiet_plain Loose true cs q
quiet_plain Loose false (Sync ∷ cs) q = quiet_plain Loose false cs q
quiet_plain Loose true (Sync ∷ cs) q = quiet_plain Loose false cs q
quiet_plain Loose false (CutBack ∷ cs) q = quiet_plain Loose false cs q
quiet_plain Loose false (TrimFront ∷ cs) q = quiet_plain Loose false cs q
quiet_plain Loose true (CutBack ∷ cs) q = quiet_plain Loose false cs q
quiet_plain Loose true (TrimFront ∷ cs) q = quiet_plain Loose true cs q
quiet_plain Loose false (Stops cut ∷ cs) q = absurd q
quiet_plain Loose true (Stops cut ∷ cs) q = absurd q

pub plain_take : {R : Type 0} (k : ℕ) (cs : List (Call R)) → IsPlain cs → IsPlain (take k cs)
plain_take zero cs p = tt
plain_take (suc k) [] p = tt
plain_take (suc k) (Append r ∷ cs) p = plain_take k cs p
plain_take (suc k) (Sync ∷ cs) p = plain_take k cs p
plain_take (suc k) (CutBack ∷ cs) p = plain_take k cs p
plain_take (suc k) (TrimFront ∷ cs) p = plain_take k cs p
plain_take (suc k) (Stops cut ∷ cs) p = absurd p

firm_trim : {R : Type 0} (size : R → ℕ) (Loose : R → Type 0) (d : Disk R) → IsFirm size Loose d → IsFirm size Loose (after_call size d TrimFront)
firm_trim size Loose d f = record { sound = sound_call size d TrimFront f.sound; loose = f.loose }

-- quiet calls leave a firm disk firm
firm_calls : {R : Type 0} (size : R → ℕ) (Loose : R → Type 0) (b : Bool) (d : Disk R) (cs : List (Call R)) → IsQuiet Loose b cs
    → IsSound size d → (b ≡ false → IsFirm size Loose d) → IsFirm size Loose (after_calls size d cs)
firm_calls size Loose false d [] q s f = f refl
firm_calls size Loose true d [] q s f = absurd q
firm_calls size Loose false d (Append r ∷ cs) (inl q) s f =
    firm_calls size Loose false (after_call size d (Append r)) cs q.1 (sound_call size d (Append r) s)
    (λ e. firm_append size Loose d r q.0 (f refl))
firm_calls size Loose false d (Append r ∷ cs) (inr q) s f =
    firm_calls size Loose true (after_call size d (Append r)) cs q (sound_call size d (Append r) s) (λ e. cc)
firm_calls size Loose true d (Append r ∷ cs) q s f =
    firm_calls size Loose true (after_call size d (Append r)) cs q (sound_call size d (Append r) s) (λ e. cc)
firm_calls size Loose false d (Sync ∷ cs) q s f =
    firm_calls size Loose false (after_call size d Sync) cs q (sound_call size d Sync s) (λ e. firm_sync size Loose d s)
firm_calls size Loose true d (Sync ∷ cs) q s f =
    firm_calls size Loose false (after_call size d Sync) cs q (sound_call size d Sync s) (λ e. firm_sync size Loose d s)
firm_calls size Loose false d (CutBack ∷ cs) q s f =
    firm_calls size Loose false (after_call size d CutBack) cs q (sound_call size d CutBack s) (λ e. firm_cut size Loose d s)
firm_calls size Loose false d (TrimFront ∷ cs) q s f =
    firm_calls size Loose false (after_call size d TrimFront) cs q (sound_call size d TrimFront s) (λ e. firm_trim size Loose d (f e))
firm_calls size Loose true d (CutBack ∷ cs) q s f =
    firm_calls size Loose false (after_call size d CutBack) cs q (sound_call size d CutBack s) (λ e. firm_cut size Loose d s)
firm_calls size Loose true d (TrimFront ∷ cs) q s f =
    firm_calls size Loose true (after_call size d TrimFront) cs q (sound_call size d TrimFront s) (λ e. cc)
firm_calls size Loose false d (Stops cut ∷ cs) q s f = absurd q
firm_calls size Loose true d (Stops cut ∷ cs) q s f = absurd q

pub firm_quiet : {R : Type 0} (size : R → ℕ) (Loose : R → Type 0) (d : Disk R) (cs : List (Call R)) → IsQuiet Loose false cs
    → IsFirm size Loose d → IsFirm size Loose (after_calls size d cs)
firm_quiet size Loose d cs q f = firm_calls size Loose false d cs q f.sound (λ e. f)

-- calls that are no stops keep all that they append
pub plain_records : {R : Type 0} (size : R → ℕ) (d : Disk R) (cs : List (Call R)) (news old : List R) → IsPlain cs
    → d.records ≡ news ++ old → (after_calls size d cs).records ≡ appended cs news ++ old
plain_records size d [] news old p e = e
plain_records size d (Append r ∷ cs) news old p e = plain_records size (after_call size d (Append r)) cs (r ∷ news) old p
    (ap (λ rs. r ∷ rs) e)
plain_records size d (Sync ∷ cs) news old p e = plain_records size (after_call size d Sync) cs news old p e
plain_records size d (CutBack ∷ cs) news old p e = plain_records size (after_call size d CutBack) cs news old p e
plain_records size d (TrimFront ∷ cs) news old p e = plain_records size (after_call size d TrimFront) cs news old p e
plain_records size d (Stops cut ∷ cs) news old p e = absurd p

-- in the middle of a line: its records so far stand before the old ones
record Mid {R : Type 0} (size : R → ℕ) (Loose : R → Type 0) (old news : List R) (d : Disk R) : Type 0 where
  records : d.records ≡ news ++ old
  sound : IsSound size d
  loose : LooseFirst size Loose d.synced old

loose_more : {R : Type 0} (size : R → ℕ) (Loose : R → Type 0) (a b : ℕ) (rs : List R) → a ≤ b → LooseFirst size Loose a rs
    → LooseFirst size Loose b rs
loose_more size Loose a b [] le f = tt
loose_more size Loose a b (r ∷ rs) le (inl h) = inl (omega (arith, h, le))
loose_more size Loose a b (r ∷ rs) le (inr h) = inr (h.0, loose_more size Loose a b rs le h.1)

bytes_behind : {R : Type 0} (size : R → ℕ) (news old : List R) → bytes_of size old ≤ bytes_of size (news ++ old)
bytes_behind size [] old = omega arith
bytes_behind size (r ∷ news) old = let h = bytes_behind size news old in omega (arith, h)

mid_calls : {R : Type 0} (size : R → ℕ) (Loose : R → Type 0) (old news : List R) (d : Disk R) (cs : List (Call R)) → IsPlain cs
    → Mid size Loose old news d → Mid size Loose old (appended cs news) (after_calls size d cs)
mid_calls size Loose old news d [] p m = m
mid_calls size Loose old news d (Append r ∷ cs) p m =
    mid_calls size Loose old (r ∷ news) (after_call size d (Append r)) cs p
    (record { records = ap (λ rs. r ∷ rs) m.records; sound = sound_call size d (Append r) m.sound; loose = m.loose })
mid_calls size Loose old news d (Sync ∷ cs) p m =
    mid_calls size Loose old news (after_call size d Sync) cs p
    (record { records = m.records; sound = sound_call size d Sync m.sound; loose = loose_more size Loose d.synced d.length old m.sound.synced m.loose })
mid_calls size Loose old news d (CutBack ∷ cs) p m =
    mid_calls size Loose old news (after_call size d CutBack) cs p
    (record {
      records = m.records;
      sound = sound_call size d CutBack m.sound;
      loose = all_synced size Loose (bytes_of size d.records) old
          (subst (λ rs. bytes_of size old ≤ bytes_of size rs) (sym m.records) (bytes_behind size news old));
    })
mid_calls size Loose old news d (TrimFront ∷ cs) p m =
    mid_calls size Loose old news (after_call size d TrimFront) cs p
    (record { records = m.records; sound = sound_call size d TrimFront m.sound; loose = m.loose })
mid_calls size Loose old news d (Stops cut ∷ cs) p m = absurd p

whole_cut : {R : Type 0} (size : R → ℕ) (Loose : R → Type 0) (a b : ℕ) (rs : List R) → a ≤ b → LooseFirst size Loose a rs
    → IsCut Loose rs (whole size b rs)
whole_cut size Loose a b [] le f = ([], tt, refl)
whole_cut size Loose a b (r ∷ rs) le (inl h) = ([], tt, sym (whole_all size b (r ∷ rs) (omega (arith, h, le))))
whole_cut {R = R} size Loose a b (r ∷ rs) le (inr h) = by_test (nat_le (bytes_of size (r ∷ rs)) b)
    (whole_cut size Loose a b rs le h.1) where
      by_test : (t : Bool) → IsCut Loose rs (whole size b rs) → IsCut Loose (r ∷ rs) (cond t (r ∷ rs) (whole size b rs))
      by_test true c = ([], tt, refl)
      by_test false (newer, each, e) = (r ∷ newer, (h.0, each), ap (λ xs. r ∷ xs) e)

whole_keeps : {R : Type 0} (size : R → ℕ) (Loose : R → Type 0) (a b : ℕ) (news old : List R) → a ≤ b → LooseFirst size Loose a old
    → Keeps Loose news old (whole size b (news ++ old))
whole_keeps size Loose a b [] old le f = inr (whole_cut size Loose a b old le f)
whole_keeps {R = R} size Loose a b (r ∷ news) old le f = by_test (nat_le (bytes_of size (r ∷ (news ++ old))) b)
    (whole_keeps size Loose a b news old le f) where
      by_test : (t : Bool) → Keeps Loose news old (whole size b (news ++ old))
          → Keeps Loose (r ∷ news) old (cond t (r ∷ (news ++ old)) (whole size b (news ++ old)))
      by_test true k = inl (r ∷ news, ([], refl), refl)
      by_test false (inl (kept, (newer, e), is)) = inl (kept, (r ∷ newer, ap (λ xs. r ∷ xs) e), is)
      by_test false (inr c) = inr c

pub front_of_front : {A : Type 0} (xs ys zs : List A) → IsFrontOf xs ys → IsFrontOf ys zs → IsFrontOf xs zs
front_of_front xs ys zs (a, e) (b, f) = (a ++ b, e ∙ ap (λ r. a ++ r) f ∙ sym (append_assoc a b zs))

appended_grows : {R : Type 0} (cs : List (Call R)) (news : List R) → IsFrontOf (appended cs news) news
appended_grows [] news = ([], refl)
appended_grows (Append r ∷ cs) news = front_of_front _ (r ∷ news) news (appended_grows cs (r ∷ news)) (r ∷ [], refl)
appended_grows (Sync ∷ cs) news = appended_grows cs news
appended_grows (CutBack ∷ cs) news = appended_grows cs news
appended_grows (TrimFront ∷ cs) news = appended_grows cs news
appended_grows (Stops cut ∷ cs) news = appended_grows cs news

appended_take : {R : Type 0} (k : ℕ) (cs : List (Call R)) (news : List R) → IsFrontOf (appended cs news) (appended (take k cs) news)
appended_take zero cs news = appended_grows cs news
appended_take (suc k) [] news = ([], refl)
appended_take (suc k) (Append r ∷ cs) news = appended_take k cs (r ∷ news)
appended_take (suc k) (Sync ∷ cs) news = appended_take k cs news
appended_take (suc k) (CutBack ∷ cs) news = appended_take k cs news
appended_take (suc k) (TrimFront ∷ cs) news = appended_take k cs news
appended_take (suc k) (Stops cut ∷ cs) news = appended_take k cs news

after_append : {R : Type 0} (size : R → ℕ) (d : Disk R) (cs bs : List (Call R))
    → after_calls size d (cs ++ bs) ≡ after_calls size (after_calls size d cs) bs
after_append size d [] bs = refl
after_append size d (c ∷ cs) bs = after_append size (after_call size d c) cs bs

-- a disk after a line that goes through, or that a stop ends
pub record Left {R : Type 0} (size : R → ℕ) (Loose : R → Type 0) (news old : List R) (d : Disk R) : Type 0 where
  pub firm : IsFirm size Loose d
  pub keeps : Keeps Loose news old d.records

start_mid : {R : Type 0} (size : R → ℕ) (Loose : R → Type 0) (d : Disk R) → IsFirm size Loose d → Mid size Loose d.records [] d
start_mid size Loose d f = record { records = refl; sound = f.sound; loose = f.loose }

-- a line of quiet calls
pub left_by_line : {R : Type 0} (size : R → ℕ) (Loose : R → Type 0) (d : Disk R) (cs : List (Call R)) → IsQuiet Loose false cs
    → IsFirm size Loose d → Left size Loose (appended cs []) d.records (after_calls size d cs)
left_by_line size Loose d cs q f = record {
  firm = firm_quiet size Loose d cs q f;
  keeps = inl (
    appended cs [],
    ([], refl),
    (mid_calls size Loose d.records [] d cs (quiet_plain Loose false cs q) (start_mid size Loose d f)).records,
  );
}

-- a line that stops after the first of its calls
pub left_by_stop : {R : Type 0} (size : R → ℕ) (Loose : R → Type 0) (d : Disk R) (cs : List (Call R)) (k cut : ℕ) → IsPlain cs
    → IsFirm size Loose d → Left size Loose (appended cs []) d.records (after_calls size d (take k cs ++ Stops cut ∷ []))
left_by_stop {R = R} size Loose d cs k cut p f = subst (λ x. Left size Loose (appended cs []) d.records x)
    (sym (after_append size d (take k cs) (Stops cut ∷ []))) ended where
      mid : Disk R
      mid = after_calls size d (take k cs)

      m : Mid size Loose d.records (appended (take k cs) []) mid
      m = mid_calls size Loose d.records [] d (take k cs) (plain_take k cs p) (start_mid size Loose d f)

      bytes : ℕ
      bytes = min mid.length (mid.synced + cut)

      enough : mid.synced ≤ bytes
      enough = let h = m.sound.synced in omega (arith, h)

      widen : Keeps Loose (appended (take k cs) []) d.records (whole size bytes mid.records)
          → Keeps Loose (appended cs []) d.records (whole size bytes mid.records)
      widen (inl (kept, front, e)) = inl (kept, front_of_front _ _ _ (appended_take k cs []) front, e)
      widen (inr c) = inr c

      ended : Left size Loose (appended cs []) d.records (after_call size mid (Stops cut))
      ended = record {
        firm = firm_stop size Loose mid cut m.sound;
        keeps = widen (subst (λ rs. Keeps Loose (appended (take k cs) []) d.records (whole size bytes rs)) (sym m.records)
            (whole_keeps size Loose mid.synced bytes (appended (take k cs) []) d.records enough m.loose));
      }

-- what is left after a cut was there
pub cut_old : {A : Type 0} (Loose P : A → Type 0) (old now : List A) → IsCut Loose old now → Among P now → Among P old
cut_old Loose P old now (newer, each, e) m = subst (Among P) (sym e) (among_behind P newer now m)

-- what isn't loose is left
pub cut_stays : {A : Type 0} (Loose P : A → Type 0) → ((x : A) → Loose x → P x → ⊥) → (old now : List A) → IsCut Loose old now
    → Among P old → Among P now
cut_stays Loose P no_both old now (newer, each, e) m =
    elim (among_split P newer now (subst (Among P) e m)) [ inl i ↦ absurd (each_not Loose P no_both newer each i) | inr i ↦ i ]
