-- What is synced stays through every call and every stop, and a stop takes only loose records away.
use Rattle.std.proofs.Common.{◌≡◌, ℕ, ◌+◌, ◌≤◌, ◌⊎◌, inl, inr, min, Bool, true, false, cond, nat_le, Option, Some, List, [], ◌∷◌, refl, sym, ap, subst, arith}
use Rattle.std.proofs.lemmas.Bool.{leb-true, le-leb}
use Rattle.order_laws.specs.Chains.{In}
use Rattle.fed_rules.specs.Disk.{Disk, Call, Append, Sync, CutBack, TrimFront, Stops, bytes_of, oldest_lost, whole, after_call, after_calls}
use Rattle.fed_rules.specs.Durable.{IsSafe, IsSound, LooseFirst, IsFirm, IsFrontOf}

-- the frames of those that are whole within so many bytes take no more
pub bytes_whole : {R : Type 0} (size : R → ℕ) (b : ℕ) (rs : List R) → bytes_of size (whole size b rs) ≤ b
bytes_whole size b [] = omega arith
bytes_whole size b (r ∷ rs) = by_test (nat_le (bytes_of size (r ∷ rs)) b) refl (bytes_whole size b rs) where
  by_test : (t : Bool) → nat_le (bytes_of size (r ∷ rs)) b ≡ t → bytes_of size (whole size b rs) ≤ b → bytes_of size (cond t (r ∷ rs) (whole size b rs)) ≤ b
  by_test true e h = leb-true _ _ e
  by_test false e h = h

-- all are whole where there is room for all
pub whole_all : {R : Type 0} (size : R → ℕ) (b : ℕ) (rs : List R) → bytes_of size rs ≤ b → whole size b rs ≡ rs
whole_all size b [] h = refl
whole_all size b (r ∷ rs) h = ap (λ t. cond t (r ∷ rs) (whole size b rs)) (le-leb _ _ h)

-- and then none is lost
pub none_lost : {R : Type 0} (size : R → ℕ) (b : ℕ) (before : Option R) (rs : List R) → bytes_of size rs ≤ b → oldest_lost size b before rs ≡ before
none_lost size b before [] h = refl
none_lost size b before (r ∷ rs) h = ap (λ t. cond t before (oldest_lost size b (Some r) rs)) (le-leb _ _ h)

-- those that are whole are some of them
pub whole_some : {R : Type 0} (size : R → ℕ) (b : ℕ) (rs : List R) (r : R) → In r (whole size b rs) → In r rs
whole_some size b [] r i = i
whole_some size b (x ∷ rs) r i = by_test (nat_le (bytes_of size (x ∷ rs)) b) i (whole_some size b rs r) where
  by_test : (t : Bool) → In r (cond t (x ∷ rs) (whole size b rs)) → (In r (whole size b rs) → In r rs) → In r (x ∷ rs)
  by_test true i h = i
  by_test false i h = inr (h i)

-- what is whole within fewer bytes is so within more
pub whole_more : {R : Type 0} (size : R → ℕ) (a b : ℕ) (rs : List R) (r : R) → a ≤ b → In r (whole size a rs) → In r (whole size b rs)
whole_more size a b [] r h i = i
whole_more size a b (x ∷ rs) r h i =
    by_test (nat_le (bytes_of size (x ∷ rs)) a) (nat_le (bytes_of size (x ∷ rs)) b) refl refl i (whole_more size a b rs r h) where
      by_test : (s t : Bool) → nat_le (bytes_of size (x ∷ rs)) a ≡ s → nat_le (bytes_of size (x ∷ rs)) b ≡ t → In r (cond s (x ∷ rs) (whole size a rs)) → (In r (whole size a rs) → In r (whole size b rs)) → In r (cond t (x ∷ rs) (whole size b rs))
      by_test true true e f i k = i
      by_test true false e f i k =
          let m : bytes_of size (x ∷ rs) ≤ a = leb-true _ _ e in
          let n : bytes_of size (x ∷ rs) ≤ b = omega (arith, m, h) in
          let t = le-leb _ _ n in cc
      by_test false true e f i k = inr (whole_some size a rs r i)
      by_test false false e f i k = k i

-- what is whole behind a further record was whole
pub whole_behind : {R : Type 0} (size : R → ℕ) (b : ℕ) (x : R) (rs : List R) (r : R) → In r (whole size b rs) → In r (whole size b (x ∷ rs))
whole_behind size b x rs r i = by_test (nat_le (bytes_of size (x ∷ rs)) b) where
  by_test : (t : Bool) → In r (cond t (x ∷ rs) (whole size b rs))
  by_test true = inr (whole_some size b rs r i)
  by_test false = i

-- a sound disk stays sound at every call
pub sound_call : {R : Type 0} (size : R → ℕ) (d : Disk R) (c : Call R) → IsSound size d → IsSound size (after_call size d c)
sound_call size d (Append r) s = record {
  frames = (let h = s.frames in omega arith);
  synced = (let h = s.synced in omega arith);
}
sound_call size d Sync s = record { frames = s.frames; synced = omega arith }
sound_call size d CutBack s = record { frames = omega arith; synced = omega arith }
sound_call size d TrimFront s = record { frames = s.frames; synced = s.synced }
sound_call size d (Stops cut) s = record { frames = bytes_whole size _ d.records; synced = omega arith }

-- what is safe stays so at every call
pub safe_call : {R : Type 0} (size : R → ℕ) (d : Disk R) (c : Call R) (r : R) → IsSound size d → IsSafe size d r → IsSafe size (after_call size d c) r
safe_call size d (Append x) r s i = whole_behind size d.synced x d.records r i
safe_call size d Sync r s i = whole_more size d.synced d.length d.records r s.synced i
safe_call size d CutBack r s i =
    subst (λ rs. In r rs) (sym (whole_all size (bytes_of size d.records) d.records (omega arith))) (whole_some size d.synced d.records r i)
safe_call size d TrimFront r s i = i
safe_call size d (Stops cut) r s i =
    let b = min d.length (d.synced + cut) in
    let le : d.synced ≤ b = (let h = s.synced in omega arith) in
    subst (λ rs. In r rs) (sym (whole_all size b (whole size b d.records) (bytes_whole size b d.records))) (whole_more size d.synced b d.records r le i)

-- both through any list of calls
pub sound_calls : {R : Type 0} (size : R → ℕ) (d : Disk R) (cs : List (Call R)) → IsSound size d → IsSound size (after_calls size d cs)
sound_calls size d [] s = s
sound_calls size d (c ∷ cs) s = sound_calls size (after_call size d c) cs (sound_call size d c s)

pub safe_calls : {R : Type 0} (size : R → ℕ) (d : Disk R) (cs : List (Call R)) (r : R) → IsSound size d → IsSafe size d r → IsSafe size (after_calls size d cs) r
safe_calls size d [] r s i = i
safe_calls size d (c ∷ cs) r s i = safe_calls size (after_call size d c) cs r (sound_call size d c s) (safe_call size d c r s i)

-- where all frames lie within the synced bytes, no record is loose
pub all_synced : {R : Type 0} (size : R → ℕ) (Loose : R → Type 0) (b : ℕ) (rs : List R) → bytes_of size rs ≤ b → LooseFirst size Loose b rs
all_synced size Loose b [] h = tt
all_synced size Loose b (r ∷ rs) h = inl h

-- a loose record behind a firm disk's
pub firm_append : {R : Type 0} (size : R → ℕ) (Loose : R → Type 0) (d : Disk R) (r : R) → Loose r → IsFirm size Loose d → IsFirm size Loose (after_call size d (Append r))
firm_append size Loose d r l f = record { sound = sound_call size d (Append r) f.sound; loose = inr (l, f.loose) }

-- a sync, a cut back and a stop leave nothing loose
pub firm_sync : {R : Type 0} (size : R → ℕ) (Loose : R → Type 0) (d : Disk R) → IsSound size d → IsFirm size Loose (after_call size d Sync)
firm_sync size Loose d s = record { sound = sound_call size d Sync s; loose = all_synced size Loose _ _ s.frames }

pub firm_cut : {R : Type 0} (size : R → ℕ) (Loose : R → Type 0) (d : Disk R) → IsSound size d → IsFirm size Loose (after_call size d CutBack)
firm_cut size Loose d s = record { sound = sound_call size d CutBack s; loose = all_synced size Loose _ d.records (omega arith) }

pub firm_stop : {R : Type 0} (size : R → ℕ) (Loose : R → Type 0) (d : Disk R) (cut : ℕ) → IsSound size d → IsFirm size Loose (after_call size d (Stops cut))
firm_stop size Loose d cut s = record { sound = sound_call size d (Stops cut) s; loose = all_synced size Loose _ _ (bytes_whole size _ d.records) }

-- each record of a firm disk is safe, or loose
pub safe_or_loose : {R : Type 0} (size : R → ℕ) (Loose : R → Type 0) (b : ℕ) (rs : List R) (r : R) → LooseFirst size Loose b rs → In r rs → In r (whole size b rs) ⊎ Loose r
safe_or_loose size Loose b [] r f i = absurd i
safe_or_loose size Loose b (x ∷ rs) r (inl le) i = inl (subst (λ ys. In r ys) (sym (whole_all size b (x ∷ rs) le)) i)
safe_or_loose size Loose b (x ∷ rs) r (inr (l, f)) (inl e) = inr (subst Loose e l)
safe_or_loose size Loose b (x ∷ rs) r (inr (l, f)) (inr i) = elim (safe_or_loose size Loose b rs r f i) [
  | inl j ↦ inl (whole_behind size b x rs r j)
  | inr l ↦ inr l
]

-- those that are whole are the oldest ones
pub whole_front : {R : Type 0} (size : R → ℕ) (b : ℕ) (rs : List R) → IsFrontOf rs (whole size b rs)
whole_front size b [] = ([], refl)
whole_front {R = R} size b (r ∷ rs) = by_test (nat_le (bytes_of size (r ∷ rs)) b) (whole_front size b rs) where
  by_test : (t : Bool) → IsFrontOf rs (whole size b rs) → IsFrontOf (r ∷ rs) (cond t (r ∷ rs) (whole size b rs))
  by_test true h = ([], refl)
  by_test false (newer, e) = (r ∷ newer, ap (λ xs. r ∷ xs) e)
