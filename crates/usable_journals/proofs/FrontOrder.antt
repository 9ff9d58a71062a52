-- The fronts of a journal are in order exactly where each record may stand behind those before it.
use Rattle.std.proofs.Common.{◌≡◌, ◌<◌, ◌⊎◌, ◌↔◌, nat_lt, Bool, true, false, Option, Some, None, List, [], ◌∷◌, ◌++◌, refl, sym, ap, ◌∙◌, subst, inl, inr}
use Rattle.mdb_base.specs.Names.{same_tid}
use Rattle.mdb_base.specs.Words.{Each}
use Rattle.mdb_base.proofs.ForCallers.{same_tid-sym}
use Rattle.order_laws.specs.Chains.{In}
use Rattle.order_laws.proofs.ForCallers.{each_at, each_from, in_inserted}
use Rattle.presumptions.specs.declared.Decision.TheVariants as Decided
use Rattle.fed_rules.specs.declared.records.SiteRecord.{SiteRecord}
use Rattle.fed_rules.specs.declared.records.SiteRecord.TheVariants.{Setup, Start, Prepared, Ended, Local, Checkpoint}
use Rattle.fed_rules.specs.SiteRecords.{Held, Install, doubt_of, doubts, install_held, installs}
use Rattle.fed_rules.specs.Usable.{AreBehind, DoubtsApart, IsBehind, KeepClear, LocalsOnTop, OfFronts, counted}
use Rattle.engine_laws.proofs.ForCallers.{doubt_tid}
use Rattle.site_history.proofs.ForCallers.{SameDue, all_due, are_doubts, counted_more, doubts_are, inserted_in}
use Rattle.usable_journals.proofs.OnceLaws.{counted_behind}
use Rattle.usable_journals.specs.Fronts.{AreInOrder, IsDoubt, IsNew, MayAllStand, MayStand}
use Rattle.usable_journals.proofs.FrontLaws.{AreAllApart, apart_more, may_hold_from, new_or_old, newly, was_doubt}

-- ---- the rules in the words of who is in doubt

abbrev pub AreAllBehind : List SiteRecord → Type 0
AreAllBehind rs = (held : Held) → IsDoubt rs held → (i : Install) → In i (installs rs) → IsBehind held i

own_doubt : (rs : List SiteRecord) (h : Held) → IsDoubt rs h → In h (doubts rs)
own_doubt rs h e = are_doubts rs h.tid h e

pub apart_there : (journal : List SiteRecord) → DoubtsApart journal → AreAllApart (counted journal)
apart_there journal apart a b x y other = apart a b (own_doubt (counted journal) a x) (own_doubt (counted journal) b y) other

pub apart_back : (journal : List SiteRecord) → AreAllApart (counted journal) → DoubtsApart journal
apart_back journal apart a b i j other = apart a b (doubts_are (counted journal) a i) (doubts_are (counted journal) b j) other

pub behind_there : (journal : List SiteRecord) → AreBehind journal → AreAllBehind (counted journal)
behind_there journal behind held is i at =
    each_at (IsBehind held) i (installs (counted journal)) (each_at (λ (h : Held). Each (IsBehind h) (installs (counted journal))) held (doubts (counted journal)) behind (own_doubt (counted journal) held is)) at

pub behind_back : (journal : List SiteRecord) → AreAllBehind (counted journal) → AreBehind journal
behind_back journal behind =
    each_from (λ (h : Held). Each (IsBehind h) (installs (counted journal))) (doubts (counted journal))
    (λ h i. each_from (IsBehind h) (installs (counted journal)) (λ install at. behind h (doubts_are (counted journal) h i) install at))

-- ---- one more record

pub behind_more : (r : SiteRecord) (rs : List SiteRecord) → AreAllApart rs → AreAllBehind rs → IsNew r rs → MayStand r rs → AreAllBehind (r ∷ rs)
behind_more (Prepared t e n k w) rs apart behind new may x is i at =
    elim (new_or_old (record { tid = t; epoch = e; number = n; ticket = k; writes = w }) x rs is) [
      | inl here ↦ subst (λ h. IsBehind h i) here (may.1 i at)
      | inr old ↦ behind x old i at
    ]
behind_more (Local t n w) rs apart behind new may x is i at =
    elim (in_inserted (λ (a b : Install). nat_lt b.number a.number) (record { tid = t; number = n; writes = w }) i (installs rs) at) [
      | inl here ↦ subst (IsBehind x) here (may.0 x is)
      | inr old ↦ behind x is i old
    ]
behind_more (Ended t Decided.Abort) rs apart behind new may x is i at = behind x (was_doubt t Decided.Abort x rs is).1 i at
behind_more (Ended t Decided.Commit) rs apart behind new may x is i at = by_held (doubt_of rs t) refl at
  where
    was : (same_tid t x.tid ≡ false) × IsDoubt rs x
    was = was_doubt t Decided.Commit x rs is

    ended : (held : Held) → doubt_of rs t ≡ Some held → IsBehind x (record { tid = held.tid; number = held.number; writes = held.writes })
    ended held e less = by_tid (same_tid held.tid x.tid) refl
      where
        own : held.tid ≡ t
        own = doubt_tid rs t held e

        by_tid : (b : Bool) → same_tid held.tid x.tid ≡ b → KeepClear x.writes held.writes
        by_tid true f = let never : same_tid t x.tid ≡ true = ap (λ u. same_tid u x.tid) (sym own) ∙ f in let nay = was.0 in cc
        by_tid false f = (apart x held was.1 (ap (doubt_of rs) own ∙ e) (same_tid-sym x.tid held.tid ∙ f)).keys

    by_held : (o : Option Held) → doubt_of rs t ≡ o → In i (install_held o (installs rs)) → IsBehind x i
    by_held None e at = behind x was.1 i at
    by_held (Some held) e at =
        elim (in_inserted (λ (a b : Install). nat_lt b.number a.number) (record { tid = held.tid; number = held.number; writes = held.writes }) i (installs rs) at) [
          | inl here ↦ subst (IsBehind x) here (ended held e)
          | inr old ↦ behind x was.1 i old
        ]
behind_more (Setup site engine protocol items) rs apart behind new may x is i at = behind x is i at
behind_more (Start n) rs apart behind new may x is i at = behind x is i at
behind_more (Checkpoint sum) rs apart behind new may x is i at = behind x is i at

-- what the rule of local commits asks of one
abbrev pub IsOnTop : SiteRecord → List SiteRecord → Type 0
IsOnTop (Local tid number writes) rs = Each (λ (i : Install). (i.number < number) ⊎ KeepClear writes i.writes) (installs rs)
IsOnTop other rs = Unit {0}

-- so a record may stand where those in doubt are apart with it, and what is committed stands behind them and below it
may_stand : (r : SiteRecord) (rs : List SiteRecord) → IsNew r rs → AreAllApart (r ∷ rs) → AreAllBehind (r ∷ rs) → IsOnTop r rs → MayStand r rs
may_stand (Prepared t e n k w) rs new apart behind top =
    let held : Held = record { tid = t; epoch = e; number = n; ticket = k; writes = w } in
    (may_hold_from held rs apart new.0 new.1, λ i at. behind held (newly held rs) i at)
may_stand (Local t n w) rs new apart behind top =
    let mine : Install = record { tid = t; number = n; writes = w } in (
      λ x is. behind x is mine (inserted_in (λ (a b : Install). nat_lt b.number a.number) mine mine (installs rs) (inl refl)),
      λ i at. each_at (λ (j : Install). (j.number < n) ⊎ KeepClear w j.writes) i (installs rs) top at,
    )
may_stand (Setup site engine protocol items) rs new apart behind top = tt
may_stand (Start n) rs new apart behind top = tt
may_stand (Ended t d) rs new apart behind top = tt
may_stand (Checkpoint sum) rs new apart behind top = tt

on_top : (r : SiteRecord) (rs : List SiteRecord) → MayStand r rs → IsOnTop r rs
on_top (Local t n w) rs may = each_from (λ (i : Install). (i.number < n) ⊎ KeepClear w i.writes) (installs rs) (λ i at. may.1 i at)
on_top (Prepared t e n k w) rs may = tt
on_top (Setup site engine protocol items) rs may = tt
on_top (Start n) rs may = tt
on_top (Ended t d) rs may = tt
on_top (Checkpoint sum) rs may = tt

-- ---- a front with one more record

top_parts : (r next : SiteRecord) (older : List SiteRecord) → LocalsOnTop (r ∷ next ∷ older) → IsOnTop r (counted (next ∷ older)) × LocalsOnTop (next ∷ older)
top_parts (Local t n w) next older t2 = t2
top_parts (Prepared t e n k w) next older t2 = (tt, t2)
top_parts (Setup site engine protocol items) next older t2 = (tt, t2)
top_parts (Start n) next older t2 = (tt, t2)
top_parts (Ended t d) next older t2 = (tt, t2)
top_parts (Checkpoint sum) next older t2 = (tt, t2)

top_with : (r next : SiteRecord) (older : List SiteRecord) → IsOnTop r (counted (next ∷ older)) → LocalsOnTop (next ∷ older) → LocalsOnTop (r ∷ next ∷ older)
top_with (Local t n w) next older top rest = (top, rest)
top_with (Prepared t e n k w) next older top rest = rest
top_with (Setup site engine protocol items) next older top rest = rest
top_with (Start n) next older top rest = rest
top_with (Ended t d) next older top rest = rest
top_with (Checkpoint sum) next older top rest = rest

front_holds : (P : List SiteRecord → Type 0) (r : SiteRecord) (rs : List SiteRecord) → OfFronts P (r ∷ rs) → P (r ∷ rs)
front_holds P r rs h = h.0

pub order_more : (r next : SiteRecord) (older : List SiteRecord) → IsNew r (counted (next ∷ older)) → AreInOrder (next ∷ older) → MayStand r (counted (next ∷ older)) → AreInOrder (r ∷ next ∷ older)
order_more r next older new o may =
    let rs = counted (next ∷ older) in
    let apart = apart_there (next ∷ older) o.apart.0 in
    let is = sym (counted_more r next older) in
    record {
      apart = (apart_back (r ∷ next ∷ older) (subst AreAllApart is (apart_more r rs apart new may)), o.apart);
      clear = (behind_back (r ∷ next ∷ older) (subst AreAllBehind is (behind_more r rs apart (behind_there (next ∷ older) o.clear.0) new may)), o.clear);
      on_top = top_with r next older (on_top r rs may) o.on_top;
    }

pub order_back : (r next : SiteRecord) (older : List SiteRecord) → IsNew r (counted (next ∷ older)) → AreInOrder (r ∷ next ∷ older) → MayStand r (counted (next ∷ older)) × AreInOrder (next ∷ older)
order_back r next older new o =
    let rs = counted (next ∷ older) in
    let is = counted_more r next older in
    let top = top_parts r next older o.on_top in (
      may_stand r rs new (subst AreAllApart is (apart_there (r ∷ next ∷ older) o.apart.0)) (subst AreAllBehind is (behind_there (r ∷ next ∷ older) o.clear.0)) top.0,
      record { apart = o.apart.1; clear = o.clear.1; on_top = top.1 },
    )

-- ---- records by which the same are in doubt and the same is committed

pub same_new : (r : SiteRecord) (a b : List SiteRecord) → SameDue a b → IsNew r b → IsNew r a
same_new (Prepared t e n k w) a b s new = (s.doubt t ∙ new.0, λ x is. new.1 x (sym (s.doubt x.tid) ∙ is))
same_new (Local t n w) a b s new = tt
same_new (Setup site engine protocol items) a b s new = tt
same_new (Start n) a b s new = tt
same_new (Ended t d) a b s new = tt
same_new (Checkpoint sum) a b s new = tt

same_stand : (r : SiteRecord) (a b : List SiteRecord) → SameDue a b → MayStand r b → MayStand r a
same_stand (Prepared t e n k w) a b s may = (λ x is. may.0 x (sym (s.doubt x.tid) ∙ is), λ i at. may.1 i (subst (In i) s.due at))
same_stand (Local t n w) a b s may = (λ x is. may.0 x (sym (s.doubt x.tid) ∙ is), λ i at. may.1 i (subst (In i) s.due at))
same_stand (Setup site engine protocol items) a b s may = tt
same_stand (Start n) a b s may = tt
same_stand (Ended t d) a b s may = tt
same_stand (Checkpoint sum) a b s may = tt

same_back : (a b : List SiteRecord) → SameDue a b → SameDue b a
same_back a b s = record { due = sym s.due; doubt = λ tid. sym (s.doubt tid) }

-- all records behind a first one that is taken as these
pub all_stand : (newer : List SiteRecord) (first : SiteRecord) (base : List SiteRecord) → SameDue base (counted (first ∷ [])) → (MayAllStand base ↔ AreInOrder (first ∷ []))
    → ((xs ys : List SiteRecord) (r : SiteRecord) → newer ≡ xs ++ r ∷ ys → IsNew r (counted (ys ++ first ∷ []))) → MayAllStand (newer ++ base) ↔ AreInOrder (newer ++ first ∷ [])
all_stand [] first base same is new = is
all_stand (r ∷ newer) first base same is new =
    by_front (newer ++ first ∷ []) (nonempty newer) (new [] newer r refl) (counted_due newer)
    (all_stand newer first base same is (λ xs ys x e. new (r ∷ xs) ys x (ap (λ rs. r ∷ rs) e)))
  where
    counted_due : (ys : List SiteRecord) → SameDue (ys ++ base) (counted (ys ++ first ∷ []))
    counted_due ys = subst (SameDue (ys ++ base)) (sym (counted_behind ys first)) (all_due ys base (counted (first ∷ [])) same)

    nonempty : (ys : List SiteRecord) → (x : SiteRecord) × (xs : List SiteRecord) × (ys ++ first ∷ [] ≡ x ∷ xs)
    nonempty [] = (first, [], refl)
    nonempty (y ∷ ys) = (y, ys ++ first ∷ [], refl)

    by_front : (front : List SiteRecord) → (x : SiteRecord) × (xs : List SiteRecord) × (front ≡ x ∷ xs) → IsNew r (counted front) → SameDue (newer ++ base) (counted front)
        → (MayAllStand (newer ++ base) ↔ AreInOrder front) → MayAllStand (r ∷ (newer ++ base)) ↔ AreInOrder (r ∷ front)
    by_front front (x, xs, e) here due rest =
        let due2 = subst (λ f. SameDue (newer ++ base) (counted f)) e due in
        let here2 = subst (λ f. IsNew r (counted f)) e here in
        let rest2 = subst (λ f. MayAllStand (newer ++ base) ↔ AreInOrder f) e rest in
        subst (λ f. MayAllStand (r ∷ (newer ++ base)) ↔ AreInOrder (r ∷ f)) (sym e) (
          λ all. order_more r x xs here2 (rest2.0 all.1) (same_stand r (counted (x ∷ xs)) (newer ++ base) (same_back _ _ due2) all.0),
          λ o. let both = order_back r x xs here2 o in (same_stand r (newer ++ base) (counted (x ∷ xs)) due2 both.0, rest2.1 both.1),
        )
