-- A site's records about one attempt: no Prepared record stands behind another one or an Ended record of it.
use Rattle.std.proofs.Common.{◌≡◌, ℕ, inl, inr, Bool, true, false, cond, Some, None, List, [], ◌∷◌, ◌++◌, refl, ap, suc, ◌≤◌, arith}
use Rattle.mdb_base.specs.declared.names.Tid.{Tid}
use Rattle.mdb_base.specs.Names.{same_tid}
use Rattle.mdb_base.specs.Words.{Each, Among, how_many}
use Rattle.mdb_base.proofs.ForCallers.{same_tid-equal}
use Rattle.presumptions.specs.declared.Decision.{Decision}
use Rattle.presumptions.specs.declared.Protocol.{Protocol}
use Rattle.presumptions.specs.Table.{forces}
use Rattle.fed_rules.specs.declared.records.SiteRecord.{SiteRecord}
use Rattle.fed_rules.specs.declared.records.SiteRecord.TheVariants as Rec
use Rattle.fed_rules.specs.SiteRecords.{Held, doubt_of, epoch_of}
use Rattle.commit_laws.specs.Seals.{is_prepared}
use Rattle.commit_laws.specs.Records.{IsPrepared, IsEnded, IsLooseEnded}
use Rattle.order_laws.proofs.ForCallers.{same_of}

-- neither a Prepared nor an Ended record of the attempt
pub record Free (g : Tid) (rs : List SiteRecord) : Type 0 where
  pub prepared : (e : ℕ) → Among (IsPrepared g e) rs → ⊥
  pub ended : (d : Decision) → Among (IsEnded g d) rs → ⊥

abbrev pub IsTidy : Tid → List SiteRecord → Type 0
IsTidy g [] = Unit {0}
IsTidy g (r ∷ rs) = ((e : ℕ) → IsPrepared g e r → Free g rs) × IsTidy g rs

pub tidy-behind : (g : Tid) (newer now : List SiteRecord) → IsTidy g (newer ++ now) → IsTidy g now
tidy-behind g [] now t = t
tidy-behind g (r ∷ newer) now t = tidy-behind g newer now t.1

-- an attempt with a Prepared and an Ended record isn't in doubt
pub tidy-doubt : (g : Tid) (rs : List SiteRecord) (e : ℕ) (d : Decision) → IsTidy g rs → Among (IsPrepared g e) rs
    → Among (IsEnded g d) rs → doubt_of rs g ≡ None
tidy-doubt g [] e d t p n = absurd p
tidy-doubt g (Rec.Setup site engine protocol items ∷ rs) e d t (inl p) n = absurd p
tidy-doubt g (Rec.Checkpoint sum ∷ rs) e d t (inl p) n = absurd p
tidy-doubt g (Rec.Setup site engine protocol items ∷ rs) e d t (inr p) (inl n) = absurd n
tidy-doubt g (Rec.Checkpoint sum ∷ rs) e d t (inr p) (inl n) = absurd n
tidy-doubt g (Rec.Setup site engine protocol items ∷ rs) e d t (inr p) (inr n) = tidy-doubt g rs e d t.1 p n
tidy-doubt g (Rec.Checkpoint sum ∷ rs) e d t (inr p) (inr n) = tidy-doubt g rs e d t.1 p n
tidy-doubt g (Rec.Start k ∷ rs) e d t (inl p) n = absurd p
tidy-doubt g (Rec.Start k ∷ rs) e d t (inr p) (inl n) = absurd n
tidy-doubt g (Rec.Start k ∷ rs) e d t (inr p) (inr n) = tidy-doubt g rs e d t.1 p n
tidy-doubt g (Rec.Local tid number writes ∷ rs) e d t (inl p) n = absurd p
tidy-doubt g (Rec.Local tid number writes ∷ rs) e d t (inr p) (inl n) = absurd n
tidy-doubt g (Rec.Local tid number writes ∷ rs) e d t (inr p) (inr n) = tidy-doubt g rs e d t.1 p n
tidy-doubt g (Rec.Prepared tid k number ticket writes ∷ rs) e d t p (inl n) = absurd n
tidy-doubt g (Rec.Prepared tid k number ticket writes ∷ rs) e d t p (inr n) = by_test (same_tid tid g) refl p
    (λ i. tidy-doubt g rs e d t.1 i n) where
      held : Held
      held = record { tid = tid; epoch = k; number = number; ticket = ticket; writes = writes }

      by_test : (q : Bool) → same_tid tid g ≡ q → Among (IsPrepared g e) (Rec.Prepared tid k number ticket writes ∷ rs)
          → (Among (IsPrepared g e) rs → doubt_of rs g ≡ None) → cond q (Some held) (doubt_of rs g) ≡ None
      by_test true q p rest = absurd ((t.0 k (same_tid-equal tid g q, refl)).ended d n)
      by_test false q (inl p) rest = let same = same_of tid g p.0 in cc
      by_test false q (inr p) rest = rest p
tidy-doubt g (Rec.Ended tid made ∷ rs) e d t (inl p) n = absurd p
tidy-doubt g (Rec.Ended tid made ∷ rs) e d t (inr p) n = by_test (same_tid tid g) refl n (tidy-doubt g rs e d t.1 p) where
  by_test : (q : Bool) → same_tid tid g ≡ q → Among (IsEnded g d) (Rec.Ended tid made ∷ rs)
      → (Among (IsEnded g d) rs → doubt_of rs g ≡ None) → cond q None (doubt_of rs g) ≡ None
  by_test true q n k = refl
  by_test false q (inl n) k = let same = same_of tid g n.0 in cc
  by_test false q (inr n) k = k n

-- an attempt with a Prepared record that isn't in doubt has an Ended record
pub settled-ended : (g : Tid) (rs : List SiteRecord) (e : ℕ) → Among (IsPrepared g e) rs → doubt_of rs g ≡ None
    → (d : Decision) × Among (IsEnded g d) rs
settled-ended g [] e p n = absurd p
settled-ended g (Rec.Setup site engine protocol items ∷ rs) e (inl p) n = absurd p
settled-ended g (Rec.Checkpoint sum ∷ rs) e (inl p) n = absurd p
settled-ended g (Rec.Setup site engine protocol items ∷ rs) e (inr p) n = let r = settled-ended g rs e p n in (r.0, inr r.1)
settled-ended g (Rec.Checkpoint sum ∷ rs) e (inr p) n = let r = settled-ended g rs e p n in (r.0, inr r.1)
settled-ended g (Rec.Start k ∷ rs) e (inl p) n = absurd p
settled-ended g (Rec.Start k ∷ rs) e (inr p) n = let r = settled-ended g rs e p n in (r.0, inr r.1)
settled-ended g (Rec.Local tid number writes ∷ rs) e (inl p) n = absurd p
settled-ended g (Rec.Local tid number writes ∷ rs) e (inr p) n = let r = settled-ended g rs e p n in (r.0, inr r.1)
settled-ended g (Rec.Prepared tid k number ticket writes ∷ rs) e p n = by_test (same_tid tid g) refl p n (settled-ended g rs e) where
  held : Held
  held = record { tid = tid; epoch = k; number = number; ticket = ticket; writes = writes }

  by_test : (q : Bool) → same_tid tid g ≡ q → Among (IsPrepared g e) (Rec.Prepared tid k number ticket writes ∷ rs)
      → cond q (Some held) (doubt_of rs g) ≡ None
      → (Among (IsPrepared g e) rs → doubt_of rs g ≡ None → (d : Decision) × Among (IsEnded g d) rs)
      → (d : Decision) × Among (IsEnded g d) (Rec.Prepared tid k number ticket writes ∷ rs)
  by_test true q p n k = cc
  by_test false q (inl p) n k = let same = same_of tid g p.0 in cc
  by_test false q (inr p) n k = let r = k p n in (r.0, inr r.1)
settled-ended g (Rec.Ended tid made ∷ rs) e (inl p) n = absurd p
settled-ended g (Rec.Ended tid made ∷ rs) e (inr p) n = by_test (same_tid tid g) refl n (settled-ended g rs e p) where
  by_test : (q : Bool) → same_tid tid g ≡ q → cond q None (doubt_of rs g) ≡ None
      → (doubt_of rs g ≡ None → (d : Decision) × Among (IsEnded g d) rs)
      → (d : Decision) × Among (IsEnded g d) (Rec.Ended tid made ∷ rs)
  by_test true q n k = (made, inl (same_tid-equal tid g q, refl))
  by_test false q n k = let r = k n in (r.0, inr r.1)

-- a cut leaves the epoch as it was
pub epoch-cut : (p : Protocol) (newer now : List SiteRecord) → Each (IsLooseEnded p) newer → epoch_of (newer ++ now) ≡ epoch_of now
epoch-cut p [] now h = refl
epoch-cut p (Rec.Ended tid made ∷ newer) now h = epoch-cut p newer now h.1
epoch-cut p (Rec.Setup site engine protocol items ∷ newer) now h = absurd h.0
epoch-cut p (Rec.Checkpoint sum ∷ newer) now h = absurd h.0
epoch-cut p (Rec.Start k ∷ newer) now h = absurd h.0
epoch-cut p (Rec.Prepared tid k number ticket writes ∷ newer) now h = absurd h.0
epoch-cut p (Rec.Local tid number writes ∷ newer) now h = absurd h.0

pub loose-prepared : (p : Protocol) (g : Tid) (e : ℕ) (r : SiteRecord) → IsLooseEnded p r → IsPrepared g e r → ⊥
loose-prepared p g e (Rec.Ended tid made) l h = h
loose-prepared p g e (Rec.Setup site engine protocol items) l h = h
loose-prepared p g e (Rec.Checkpoint sum) l h = h
loose-prepared p g e (Rec.Start k) l h = h
loose-prepared p g e (Rec.Prepared tid k number ticket writes) l h = l
loose-prepared p g e (Rec.Local tid number writes) l h = h

pub loose-forced : (p : Protocol) (g : Tid) (d : Decision) → forces p d ≡ true → (r : SiteRecord) → IsLooseEnded p r → IsEnded g d r → ⊥
loose-forced p g d f (Rec.Ended tid made) l h = let e : forces p made ≡ forces p d = ap (forces p) h.1 in cc
loose-forced p g d f (Rec.Setup site engine protocol items) l h = h
loose-forced p g d f (Rec.Checkpoint sum) l h = h
loose-forced p g d f (Rec.Start k) l h = h
loose-forced p g d f (Rec.Prepared tid k number ticket writes) l h = h
loose-forced p g d f (Rec.Local tid number writes) l h = h

-- without a Prepared record of the attempt none is counted
none-counted : (g : Tid) (rs : List SiteRecord) → ((e : ℕ) → Among (IsPrepared g e) rs → ⊥) → how_many (is_prepared g) rs ≡ 0
none-counted g [] f = refl
none-counted g (Rec.Prepared tid k number ticket writes ∷ rs) f = by_test (same_tid tid g) refl
    (none-counted g rs (λ e m. f e (inr m))) where
      by_test : (b : Bool) → same_tid tid g ≡ b → how_many (is_prepared g) rs ≡ 0
          → cond b (suc (how_many (is_prepared g) rs)) (how_many (is_prepared g) rs) ≡ 0
      by_test true q h = absurd (f k (inl (same_tid-equal tid g q, refl)))
      by_test false q h = h
none-counted g (Rec.Ended tid made ∷ rs) f = none-counted g rs (λ e m. f e (inr m))
none-counted g (Rec.Setup site engine protocol items ∷ rs) f = none-counted g rs (λ e m. f e (inr m))
none-counted g (Rec.Checkpoint sum ∷ rs) f = none-counted g rs (λ e m. f e (inr m))
none-counted g (Rec.Start k ∷ rs) f = none-counted g rs (λ e m. f e (inr m))
none-counted g (Rec.Local tid number writes ∷ rs) f = none-counted g rs (λ e m. f e (inr m))

-- tidy records have one Prepared record of the attempt at most
pub tidy-once : (g : Tid) (rs : List SiteRecord) → IsTidy g rs → how_many (is_prepared g) rs ≤ 1
tidy-once g [] t = omega arith
tidy-once g (Rec.Prepared tid k number ticket writes ∷ rs) t = by_test (same_tid tid g) refl (tidy-once g rs t.1) where
  by_test : (b : Bool) → same_tid tid g ≡ b → how_many (is_prepared g) rs ≤ 1
      → cond b (suc (how_many (is_prepared g) rs)) (how_many (is_prepared g) rs) ≤ 1
  by_test true q h = let none = none-counted g rs (t.0 k (same_tid-equal tid g q, refl)).prepared in omega (arith, none)
  by_test false q h = h
tidy-once g (Rec.Ended tid made ∷ rs) t = tidy-once g rs t.1
tidy-once g (Rec.Setup site engine protocol items ∷ rs) t = tidy-once g rs t.1
tidy-once g (Rec.Checkpoint sum ∷ rs) t = tidy-once g rs t.1
tidy-once g (Rec.Start k ∷ rs) t = tidy-once g rs t.1
tidy-once g (Rec.Local tid number writes ∷ rs) t = tidy-once g rs t.1
