-- What the walk over a site's fronts keeps with one more record.
use Rattle.std.proofs.Common.{◌≡◌, ℕ, ◌⊎◌, max, nat_lt, Bool, true, false, cond, Option, Some, None, List, [], ◌∷◌, refl, sym, ap, ap₂, ◌∙◌, subst, inl, inr, arith, ltb-true, ltb-false}
use Rattle.std.proofs.lemmas.Bool.Decides.{nat_tests}
use Rattle.std.specs.Ordering.{is_eq, nat_cmp}
use Rattle.std.specs.BTreeMap.{BTreeMap, get}
use Rattle.std.specs.BTreeSet.{BTreeSet, contains}
use Rattle.mdb_base.specs.declared.names.Engine.{Engine}
use Rattle.mdb_base.specs.declared.names.Key.{Key}
use Rattle.mdb_base.specs.declared.names.SiteId.{SiteId}
use Rattle.mdb_base.specs.declared.names.Tid.{Tid}
use Rattle.mdb_base.specs.declared.rows.Put.{Put}
use Rattle.mdb_base.specs.Names.{same_tid, tid_cmp}
use Rattle.mdb_base.specs.Words.{each_of}
use Rattle.mdb_base.proofs.ForCallers.{same_tid-equal, tid_ties}
use Rattle.order_laws.specs.Chains.{In}
use Rattle.order_laws.proofs.ForCallers.{in_inserted}
use Rattle.presumptions.specs.declared.Decision.{Decision}
use Rattle.presumptions.specs.declared.Protocol.{Protocol}
use Rattle.fed_rules.specs.declared.sums.SiteSum.{SiteSum}
use Rattle.presumptions.specs.declared.Decision.TheVariants as Decided
use Rattle.fed_rules.specs.declared.records.SiteRecord.{SiteRecord}
use Rattle.fed_rules.specs.declared.records.SiteRecord.TheVariants.{Setup, Start, Ended, Local, Checkpoint}
use Rattle.fed_rules.specs.EngineLines.{has_row}
use Rattle.fed_rules.specs.SiteRecords.{Held, Install, by_number, doubt_of, install_held, installs}
use Rattle.engine_laws.proofs.ForCallers.{doubt_tid}
use Rattle.site_history.proofs.ForCallers.{inserted_in}
use Rattle.journal_sums.specs.Versions.{key_cmp}
use Rattle.usable_journals.specs.declared.fronts.Front.{Front}
use Rattle.usable_journals.specs.Fronts as tests
use Rattle.usable_journals.specs.Fronts.{CanHold, IsDoubt, IsHeldBy, IsLast, IsNew, IsWrittenUpTo, MayAllStand, MayStand, AreNew, Takes, Tells, held_read, walk}
use Rattle.usable_journals.specs.SiteTests.{greater_of}
use Rattle.usable_journals.proofs.FrontLaws.{AreAllApart, apart_more, apart_numbers, both_write, hold_back, hold_there, new_or_old, newly, one_doubt, stays_doubt, still, was_doubt, write_back, write_there}
use Rattle.usable_journals.proofs.Words.{is_eq-nat}
use Rattle.usable_journals.proofs.WalkLaws.{OfEveryFront}

-- all in doubt are apart where each record may stand
pub all_apart : (rs : List SiteRecord) → AreNew rs → MayAllStand rs → AreAllApart rs
all_apart [] new may a b x y other = cc
all_apart (r ∷ rs) new may a b x y other = apart_more r rs (all_apart rs new.1 may.1) new.0 may.0 a b x y other

-- ---- one more is committed

pub installed : (i : Install) (is : List Install) (key : Key) (o : Option ℕ) → IsWrittenUpTo is key o
    → IsWrittenUpTo (by_number i is) key (cond (has_row key i.writes) (Some (greater_of o i.number)) o)
installed i is key o up = by_row (has_row key i.writes) refl o up
  where
    mine : (j : Install) → In j (by_number i is) → (i ≡ j) ⊎ In j is
    mine j at = in_inserted (λ (a b : Install). nat_lt b.number a.number) i j is at

    put_in : (j : Install) → (i ≡ j) ⊎ In j is → In j (by_number i is)
    put_in j at = inserted_in (λ (a b : Install). nat_lt b.number a.number) i j is at

    by_row : (b : Bool) → has_row key i.writes ≡ b → (o : Option ℕ) → IsWrittenUpTo is key o → IsWrittenUpTo (by_number i is) key (cond b (Some (greater_of o i.number)) o)
    by_row false e None none = λ j at. elim (mine j at) [
      | inl same ↦ ap (λ (k : Install). has_row key k.writes) (sym same) ∙ e
      | inr k ↦ none j k
    ]
    by_row false e (Some last) ((j, at, row, is_last), all) = (
      (j, put_in j (inr at), row, is_last),
      λ k at_k row_k. elim (mine k at_k) [
        | inl same ↦ (let never : has_row key i.writes ≡ true = ap (λ (m : Install). has_row key m.writes) same ∙ row_k in cc)
        | inr m ↦ all k m row_k
      ],
    )
    by_row true e None none = (
      (i, put_in i (inl refl), e, refl),
      λ k at_k row_k. elim (mine k at_k) [
        | inl same ↦ (let n = ap (λ (m : Install). m.number) same in omega (arith, n))
        | inr m ↦ (let never = none k m in cc)
      ],
    )
    by_row true e (Some last) ((j, at, row, is_last), all) = (
      greatest (nat_lt last i.number) refl,
      λ k at_k row_k. elim (mine k at_k) [
        | inl same ↦ (let n = ap (λ (m : Install). m.number) same in omega (arith, n))
        | inr m ↦ (let low = all k m row_k in omega (arith, low))
      ],
    )
      where
        greatest : (b : Bool) → nat_lt last i.number ≡ b → (k : Install) × In k (by_number i is) × (has_row key k.writes ≡ true) × (k.number ≡ max last i.number)
        greatest true f = let less = ltb-true last i.number f in (i, put_in i (inl refl), e, omega (arith, less))
        greatest false f = let few = ltb-false last i.number f in (j, put_in j (inr at), row, omega (arith, few, is_last))

-- ---- a Prepared

is_eq-self : (a b : ℕ) → a ≡ b → is_eq (nat_cmp a b) ≡ true
is_eq-self a b e = grind (arith, nat_tests)

pub prepared_tells : (old : Front) (doubts : BTreeMap Tid Held) (numbers : BTreeSet ℕ) (held_keys : BTreeMap Key ℕ) (held : Held) (rs : List SiteRecord) → IsNew (held_read held) rs
    → ((q : Tid) → get tid_cmp doubts q ≡ cond (is_eq (tid_cmp held.tid q)) (Some held) (get tid_cmp old.doubts q))
    → ((n : ℕ) → contains nat_cmp numbers n ≡ cond (is_eq (nat_cmp held.number n)) true (contains nat_cmp old.numbers n))
    → ((key : Key) → get key_cmp held_keys key ≡ cond (has_row key held.writes) (Some held.number) (get key_cmp old.held key))
    → Tells old rs → Tells (record { doubts = doubts; numbers = numbers; held = held_keys; committed = old.committed }) (held_read held ∷ rs)
prepared_tells old doubts numbers held_keys held rs new d n k t = record {
  doubts = λ q. d q ∙ ap₂ (λ b o. cond b (Some held) o) (tid_ties held.tid q) (t.doubts q);
  numbers = λ m has. by_number_of m (is_eq (nat_cmp held.number m)) refl (sym (n m) ∙ has);
  all_numbers = λ x is. elim (new_or_old held x rs is) [
    | inl same ↦ n x.number ∙ ap (λ b. cond b true (contains nat_cmp old.numbers x.number)) (is_eq-self held.number x.number (ap (λ (h : Held). h.number) same))
    | inr i ↦ n x.number ∙ ap (cond (is_eq (nat_cmp held.number x.number)) true) (t.all_numbers x i) ∙ same_both (is_eq (nat_cmp held.number x.number))
  ];
  held = λ key. subst (IsHeldBy (held_read held ∷ rs) key) (sym (k key)) (by_row key (has_row key held.writes) refl (get key_cmp old.held key) (t.held key));
  committed = t.committed;
}
  where
    same_both : (b : Bool) → cond b true true ≡ true
    same_both true = refl
    same_both false = refl

    by_number_of : (m : ℕ) (b : Bool) → is_eq (nat_cmp held.number m) ≡ b → cond b true (contains nat_cmp old.numbers m) ≡ true → (x : Held) × IsDoubt (held_read held ∷ rs) x × (x.number ≡ m)
    by_number_of m true e f = (held, newly held rs, is_eq-nat held.number m e)
    by_number_of m false e f = (let (x, is, same) = t.numbers m f in (x, still held x rs new.0 is, same))

    by_row : (key : Key) (b : Bool) → has_row key held.writes ≡ b → (o : Option ℕ) → IsHeldBy rs key o → IsHeldBy (held_read held ∷ rs) key (cond b (Some held.number) o)
    by_row key true e o h = (held, newly held rs, e, refl)
    by_row key false e None none = λ x is. elim (new_or_old held x rs is) [
      | inl same ↦ ap (λ (h : Held). has_row key h.writes) (sym same) ∙ e
      | inr i ↦ none x i
    ]
    by_row key false e (Some m) (x, is, row, same) = (x, still held x rs new.0 is, row, same)

pub prepares : (old new : Front) (held : Held) → (CanHold old held.number held.writes)
    → ((rs : List SiteRecord) → IsNew (held_read held) rs → Tells old rs → Tells new (held_read held ∷ rs)) → Takes old new (held_read held) true
prepares old new held can tells rs given t keeps = ((λ e. (hold_there old rs held t can, keeps), λ k. refl), λ e. tells rs given.0 t)

pub refuses_prepared : (old new : Front) (held : Held) → (CanHold old held.number held.writes → ⊥) → Takes old new (held_read held) false
refuses_prepared old new held can rs given t keeps = ((λ e. absurd cc, λ k. absurd (can (hold_back old rs held t k.0))), λ e. absurd cc)

-- ---- an Ended

-- of an attempt that isn't in doubt
pub ends_nothing : (old : Front) (doubts : BTreeMap Tid Held) (tid : Tid) (decision : Decision) → get tid_cmp old.doubts tid ≡ None
    → ((q : Tid) → get tid_cmp doubts q ≡ cond (is_eq (tid_cmp tid q)) None (get tid_cmp old.doubts q))
    → Takes old (record { doubts = doubts; numbers = old.numbers; held = old.held; committed = old.committed }) (Ended tid decision) true
ends_nothing old doubts tid decision gone d rs given t keeps = (
  (λ e. (tt, keeps), λ k. refl),
  λ e. record {
    doubts = λ q. d q ∙ ap₂ (λ b o. cond b None o) (tid_ties tid q) (t.doubts q);
    numbers = λ n has. (let (x, is, same) = t.numbers n has in (x, on x is, same));
    all_numbers = λ x is. t.all_numbers x (was_doubt tid decision x rs is).1;
    held = λ key. by_look key (get key_cmp old.held key) (t.held key);
    committed = by_decision decision;
  },
)
  where
    none : doubt_of rs tid ≡ None
    none = sym (t.doubts tid) ∙ gone

    on : (x : Held) → IsDoubt rs x → IsDoubt (Ended tid decision ∷ rs) x
    on x is = by_test (same_tid tid x.tid) refl
      where
        by_test : (b : Bool) → same_tid tid x.tid ≡ b → cond b None (doubt_of rs x.tid) ≡ Some x
        by_test true e = let never : None ≡ Some x = sym none ∙ ap (doubt_of rs) (same_tid-equal tid x.tid e) ∙ is in cc
        by_test false e = is

    by_look : (key : Key) (o : Option ℕ) → IsHeldBy rs key o → IsHeldBy (Ended tid decision ∷ rs) key o
    by_look key None free = λ x is. free x (was_doubt tid decision x rs is).1
    by_look key (Some n) (x, is, row, same) = (x, on x is, row, same)

    by_decision : (d : Decision) → (key : Key) → IsWrittenUpTo (installs (Ended tid d ∷ rs)) key (get key_cmp old.committed key)
    by_decision Decided.Commit key = subst (λ o. IsWrittenUpTo (install_held o (installs rs)) key (get key_cmp old.committed key)) (sym none) (t.committed key)
    by_decision Decided.Abort key = t.committed key

-- of one that is
pub ended_tells : (old : Front) (doubts : BTreeMap Tid Held) (numbers : BTreeSet ℕ) (held_keys committed : BTreeMap Key ℕ) (tid : Tid) (decision : Decision) (held : Held) (rs : List SiteRecord)
    → AreAllApart rs → doubt_of rs tid ≡ Some held → held.tid ≡ tid
    → ((q : Tid) → get tid_cmp doubts q ≡ cond (is_eq (tid_cmp tid q)) None (get tid_cmp old.doubts q))
    → ((n : ℕ) → contains nat_cmp numbers n ≡ cond (is_eq (nat_cmp held.number n)) false (contains nat_cmp old.numbers n))
    → ((key : Key) → get key_cmp held_keys key ≡ cond (has_row key held.writes) None (get key_cmp old.held key))
    → ((key : Key) → IsWrittenUpTo (installs (Ended tid decision ∷ rs)) key (get key_cmp committed key))
    → Tells old rs → Tells (record { doubts = doubts; numbers = numbers; held = held_keys; committed = committed }) (Ended tid decision ∷ rs)
ended_tells old doubts numbers held_keys committed tid decision held rs apart at own d n k up t = record {
  doubts = λ q. d q ∙ ap₂ (λ b o. cond b None o) (tid_ties tid q) (t.doubts q);
  numbers = λ m has. by_number_of m (is_eq (nat_cmp held.number m)) refl (sym (n m) ∙ has);
  all_numbers = λ x is. let was = was_doubt tid decision x rs is in n x.number ∙ by_equal x was (is_eq (nat_cmp held.number x.number)) refl;
  held = λ key. subst (IsHeldBy (Ended tid decision ∷ rs) key) (sym (k key)) (by_row key (has_row key held.writes) refl (get key_cmp old.held key) (t.held key));
  committed = up;
}
  where
    mine : IsDoubt rs held
    mine = ap (doubt_of rs) own ∙ at

    -- one in doubt that differs from it is of another attempt
    on : (x : Held) → IsDoubt rs x → (held ≡ x → ⊥) → IsDoubt (Ended tid decision ∷ rs) x
    on x is other = by_test (same_tid held.tid x.tid) refl
      where
        by_test : (b : Bool) → same_tid held.tid x.tid ≡ b → IsDoubt (Ended tid decision ∷ rs) x
        by_test true e = absurd (other (one_doubt rs held x mine is e))
        by_test false e = stays_doubt tid decision x rs (ap (λ (u : Tid). same_tid u x.tid) (sym own) ∙ e) is

    others : (x : Held) → (same_tid tid x.tid ≡ false) × IsDoubt rs x → same_tid held.tid x.tid ≡ false
    others x was = ap (λ (u : Tid). same_tid u x.tid) own ∙ was.0

    by_equal : (x : Held) → (same_tid tid x.tid ≡ false) × IsDoubt rs x → (b : Bool) → is_eq (nat_cmp held.number x.number) ≡ b → cond b false (contains nat_cmp old.numbers x.number) ≡ true
    by_equal x was true e = absurd (apart_numbers held x (apart held x mine was.1 (others x was)) (is_eq-nat held.number x.number e))
    by_equal x was false e = t.all_numbers x was.1

    by_number_of : (m : ℕ) (b : Bool) → is_eq (nat_cmp held.number m) ≡ b → cond b false (contains nat_cmp old.numbers m) ≡ true → (x : Held) × IsDoubt (Ended tid decision ∷ rs) x × (x.number ≡ m)
    by_number_of m true e f = cc
    by_number_of m false e f =
        (let (x, is, same) = t.numbers m f in
        (x, on x is (λ one. let yes = is_eq-self held.number m (ap (λ (h : Held). h.number) one ∙ same) in cc), same))

    by_row : (key : Key) (b : Bool) → has_row key held.writes ≡ b → (o : Option ℕ) → IsHeldBy rs key o → IsHeldBy (Ended tid decision ∷ rs) key (cond b None o)
    by_row key true e o h = λ x is. by_has x (was_doubt tid decision x rs is) (has_row key x.writes) refl
      where
        by_has : (x : Held) → (same_tid tid x.tid ≡ false) × IsDoubt rs x → (c : Bool) → has_row key x.writes ≡ c → has_row key x.writes ≡ false
        by_has x was true f = absurd (both_write key held.writes x.writes (apart held x mine was.1 (others x was)).keys e f)
        by_has x was false f = f
    by_row key false e None none = λ x is. none x (was_doubt tid decision x rs is).1
    by_row key false e (Some m) (x, is, row, same) = (x, on x is (λ one. let nay = ap (λ (h : Held). has_row key h.writes) one in cc), row, same)

-- an Ended may stand everywhere: a commit installs
pub settles : (old : Front) (doubts : BTreeMap Tid Held) (numbers : BTreeSet ℕ) (held_keys committed : BTreeMap Key ℕ) (tid : Tid) (held : Held) → get tid_cmp old.doubts tid ≡ Some held
    → ((q : Tid) → get tid_cmp doubts q ≡ cond (is_eq (tid_cmp tid q)) None (get tid_cmp old.doubts q))
    → ((n : ℕ) → contains nat_cmp numbers n ≡ cond (is_eq (nat_cmp held.number n)) false (contains nat_cmp old.numbers n))
    → ((key : Key) → get key_cmp held_keys key ≡ cond (has_row key held.writes) None (get key_cmp old.held key))
    → ((key : Key) → get key_cmp committed key ≡ cond (has_row key held.writes) (Some (greater_of (get key_cmp old.committed key) held.number)) (get key_cmp old.committed key))
    → Takes old (record { doubts = doubts; numbers = numbers; held = held_keys; committed = committed }) (Ended tid Decided.Commit) true
settles old doubts numbers held_keys committed tid held is d n k c rs given t keeps =
    let at : doubt_of rs tid ≡ Some held = sym (t.doubts tid) ∙ is in
    let mine : Install = record { tid = held.tid; number = held.number; writes = held.writes } in
    let due : installs (Ended tid Decided.Commit ∷ rs) ≡ by_number mine (installs rs) = ap (λ o. install_held o (installs rs)) at in (
      (λ e. (tt, keeps), λ w. refl),
      λ e. ended_tells old doubts numbers held_keys committed tid Decided.Commit held rs (all_apart rs given.1 keeps) at (doubt_tid rs tid held at) d n k
          (λ key. subst (λ is. IsWrittenUpTo is key (get key_cmp committed key)) (sym due)
          (subst (IsWrittenUpTo (by_number mine (installs rs)) key) (sym (c key)) (installed mine (installs rs) key (get key_cmp old.committed key) (t.committed key)))) t,
    )

-- and an abort doesn't
pub aborts : (old : Front) (doubts : BTreeMap Tid Held) (numbers : BTreeSet ℕ) (held_keys : BTreeMap Key ℕ) (tid : Tid) (held : Held) → get tid_cmp old.doubts tid ≡ Some held
    → ((q : Tid) → get tid_cmp doubts q ≡ cond (is_eq (tid_cmp tid q)) None (get tid_cmp old.doubts q))
    → ((n : ℕ) → contains nat_cmp numbers n ≡ cond (is_eq (nat_cmp held.number n)) false (contains nat_cmp old.numbers n))
    → ((key : Key) → get key_cmp held_keys key ≡ cond (has_row key held.writes) None (get key_cmp old.held key))
    → Takes old (record { doubts = doubts; numbers = numbers; held = held_keys; committed = old.committed }) (Ended tid Decided.Abort) true
aborts old doubts numbers held_keys tid held is d n k rs given t keeps =
    let at : doubt_of rs tid ≡ Some held = sym (t.doubts tid) ∙ is in (
      (λ e. (tt, keeps), λ w. refl),
      λ e. ended_tells old doubts numbers held_keys old.committed tid Decided.Abort held rs (all_apart rs given.1 keeps) at (doubt_tid rs tid held at) d n k t.committed t,
    )

-- ---- a Local

pub local_tells : (old : Front) (committed : BTreeMap Key ℕ) (tid : Tid) (number : ℕ) (writes : List Put) (rs : List SiteRecord)
    → ((key : Key) → get key_cmp committed key ≡ cond (has_row key writes) (Some (greater_of (get key_cmp old.committed key) number)) (get key_cmp old.committed key))
    → Tells old rs → Tells (record { doubts = old.doubts; numbers = old.numbers; held = old.held; committed = committed }) (Local tid number writes ∷ rs)
local_tells old committed tid number writes rs c t = record {
  doubts = t.doubts;
  numbers = t.numbers;
  all_numbers = t.all_numbers;
  held = λ key. by_look key (get key_cmp old.held key) (t.held key);
  committed = λ key. subst (IsWrittenUpTo (installs (Local tid number writes ∷ rs)) key) (sym (c key))
      (installed (record { tid = tid; number = number; writes = writes }) (installs rs) key (get key_cmp old.committed key) (t.committed key));
}
  where
    by_look : (key : Key) (o : Option ℕ) → IsHeldBy rs key o → IsHeldBy (Local tid number writes ∷ rs) key o
    by_look key None h = h
    by_look key (Some n) h = h

pub commits : (old new : Front) (tid : Tid) (number : ℕ) (writes : List Put) → each_of (tests.may_write old number) writes ≡ true
    → ((rs : List SiteRecord) → Tells old rs → Tells new (Local tid number writes ∷ rs)) → Takes old new (Local tid number writes) true
commits old new tid number writes can tells rs given t keeps =
    ((λ e. (write_there old rs tid number writes (all_apart rs given.1 keeps) t can, keeps), λ k. refl), λ e. tells rs t)

pub refuses_local : (old new : Front) (tid : Tid) (number : ℕ) (writes : List Put) → each_of (tests.may_write old number) writes ≡ false → Takes old new (Local tid number writes) false
refuses_local old new tid number writes nay rs given t keeps =
    ((λ e. absurd cc, λ k. (let yes = write_back old rs tid number writes t k.0 in absurd cc)), λ e. absurd cc)

-- ---- the others say nothing of it

pub passes : (front : Front) (r : SiteRecord) → ((rs : List SiteRecord) → MayStand r rs) → ((rs : List SiteRecord) → Tells front rs → Tells front (r ∷ rs)) → Takes front front r true
passes front r may tells rs given t keeps = ((λ e. (may rs, keeps), λ k. refl), λ e. tells rs t)

again_held : (r : SiteRecord) (rs : List SiteRecord) (key : Key) (o : Option ℕ) → ((x : Held) → IsDoubt rs x → IsDoubt (r ∷ rs) x) → ((x : Held) → IsDoubt (r ∷ rs) x → IsDoubt rs x)
    → IsHeldBy rs key o → IsHeldBy (r ∷ rs) key o
again_held r rs key None on back none = λ x is. none x (back x is)
again_held r rs key (Some n) on back (x, is, row, same) = (x, on x is, row, same)

pub passes_same : (front : Front) (r : SiteRecord) (rs : List SiteRecord) → ((tid : Tid) → doubt_of (r ∷ rs) tid ≡ doubt_of rs tid) → installs (r ∷ rs) ≡ installs rs
    → Tells front rs → Tells front (r ∷ rs)
passes_same front r rs doubt due t = record {
  doubts = λ tid. t.doubts tid ∙ sym (doubt tid);
  numbers = λ n has. (let (x, is, same) = t.numbers n has in (x, doubt x.tid ∙ is, same));
  all_numbers = λ x is. t.all_numbers x (sym (doubt x.tid) ∙ is);
  held = λ key. again_held r rs key (get key_cmp front.held key) (λ x is. doubt x.tid ∙ is) (λ x is. sym (doubt x.tid) ∙ is) (t.held key);
  committed = λ key. subst (λ is. IsWrittenUpTo is key (get key_cmp front.committed key)) (sym due) (t.committed key);
}

pub passes_site : (front : Front) (site : SiteId) (engine : Engine) (protocol : Protocol) (items : List Put) → Takes front front (Setup site engine protocol items) true
passes_site front site engine protocol items =
    passes front (Setup site engine protocol items) (λ rs. tt) (λ rs t. passes_same front (Setup site engine protocol items) rs (λ tid. refl) refl t)

pub passes_start : (front : Front) (epoch : ℕ) → Takes front front (Start epoch) true
passes_start front epoch = passes front (Start epoch) (λ rs. tt) (λ rs t. passes_same front (Start epoch) rs (λ tid. refl) refl t)

pub passes_sum : (front : Front) (sum : SiteSum) → Takes front front (Checkpoint sum) true
passes_sum front sum = passes front (Checkpoint sum) (λ rs. tt) (λ rs t. passes_same front (Checkpoint sum) rs (λ tid. refl) refl t)

-- ---- the walk

pub of_every_front : OfEveryFront walk
of_every_front = record { given = λ x xs h. h.1; keeps = λ x xs h. h.1 }
