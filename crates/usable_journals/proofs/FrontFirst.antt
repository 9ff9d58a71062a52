-- What a first record is taken as, and what the rules of attempts and tickets give of the records behind it.
use Rattle.std.proofs.Common.{◌≡◌, ℕ, ◌<◌, ◌≤◌, ◌↔◌, nat_lt, Bool, true, false, cond, Option, Some, None, List, [], ◌∷◌, ◌++◌, map, refl, sym, ap, ◌∙◌, subst, inl, inr, arith}
use Rattle.std.proofs.lemmas.List.{append_assoc}
use Rattle.mdb_base.specs.declared.names.Tid.{Tid}
use Rattle.mdb_base.specs.Names.{same_tid, tid_before}
use Rattle.mdb_base.specs.Words.{Among, Each}
use Rattle.mdb_base.proofs.ForCallers.{before_apart, each_all, each_inserted, same_tid-refl, same_tid-sym}
use Rattle.order_laws.specs.Chains.{In}
use Rattle.order_laws.proofs.ForCallers.{among_is, each_at}
use Rattle.fed_rules.specs.declared.records.SiteRecord.{SiteRecord}
use Rattle.fed_rules.specs.declared.records.SiteRecord.TheVariants.{Setup, Start, Prepared, Ended, Local, Checkpoint}
use Rattle.fed_rules.specs.Reopened.{home_by, local_read}
use Rattle.fed_rules.specs.SiteRecords.{Held, Home, Install, doubt_of, installs}
use Rattle.fed_rules.specs.Usable.{AreSumsOfSome, AreWithin, KeepClear, OnceEach, RiseBy, TicketsRise, counted, tickets}
use Rattle.engine_laws.proofs.ForCallers.{doubt_tid}
use Rattle.site_history.proofs.ForCallers.{SameDue, WritesNothing, all_due, carried_installs, doubt_prepared, locals_undoubted}
use Rattle.usable_journals.specs.declared.fronts.Front.{Front}
use Rattle.usable_journals.specs.Fronts.{AreInOrder, AreNew, FallByTicket, IsDoubt, IsNew, IsTakenAs, MayAllStand, TakesAll, Tells, below, held_read}
use Rattle.usable_journals.proofs.FrontLaws.{AreAllApart, may_hold_from, new_or_old, still, was_doubt}
use Rattle.usable_journals.proofs.FrontSteps.{all_apart, local_tells}
use Rattle.usable_journals.proofs.FrontOrder.{all_stand, apart_back, apart_there, behind_back, same_new}
use Rattle.usable_journals.proofs.OnceLaws.{counted_behind}

-- ---- committed local ones of a first Checkpoint

locals_quiet : (n : ℕ) (ts : List Tid) → Each WritesNothing (installs (map (local_read n) ts))
locals_quiet n [] = tt
locals_quiet n (t ∷ ts) =
    each_inserted WritesNothing (λ (a b : Install). nat_lt b.number a.number) (record { tid = t; number = n; writes = [] }) (installs (map (local_read n) ts)) refl (locals_quiet n ts)

locals_told : (front : Front) (n : ℕ) (ts : List Tid) → Tells front [] → Tells front (map (local_read n) ts)
locals_told front n [] t = t
locals_told front n (u ∷ ts) t = local_tells front front.committed u n [] (map (local_read n) ts) (λ key. refl) (locals_told front n ts t)

locals_stand : (n : ℕ) (ts : List Tid) → MayAllStand (map (local_read n) ts)
locals_stand n [] = tt
locals_stand n (t ∷ ts) = ((λ x is less. each_all _ (λ put. refl) x.writes, λ i at. inr tt), locals_stand n ts)

locals_new : (n : ℕ) (ts : List Tid) → AreNew (map (local_read n) ts)
locals_new n [] = tt
locals_new n (t ∷ ts) = (tt, locals_new n ts)

clear_of : (held : Held) (i : Install) → WritesNothing i → KeepClear held.writes i.writes
clear_of held i none = subst (KeepClear held.writes) (sym none) (each_all _ (λ put. refl) held.writes)

-- ---- those that it has in doubt

-- of each attempt one
abbrev pub OneEach : List Held → Type 0
OneEach xs = (a b : Held) → In a xs → In b xs → same_tid a.tid b.tid ≡ true → a ≡ b

one_each : (xs : List Held) → RiseBy (λ (held : Held). held.tid) xs → OneEach xs
one_each [] rise a b i j e = absurd i
one_each (x ∷ xs) rise a b (inl p) (inl q) e = sym p ∙ q
one_each (x ∷ xs) rise a b (inl p) (inr j) e =
    let before : tid_before x.tid b.tid ≡ true = each_at (λ (y : Held). tid_before x.tid y.tid ≡ true) b xs rise.0 j in
    let apart : same_tid a.tid b.tid ≡ false = ap (λ (h : Held). same_tid h.tid b.tid) (sym p) ∙ before_apart x.tid b.tid before in absurd cc
one_each (x ∷ xs) rise a b (inr i) (inl q) e =
    let before : tid_before x.tid a.tid ≡ true = each_at (λ (y : Held). tid_before x.tid y.tid ≡ true) a xs rise.0 i in
    let apart : same_tid a.tid b.tid ≡ false = same_tid-sym a.tid b.tid ∙ ap (λ (h : Held). same_tid h.tid a.tid) (sym q) ∙ before_apart x.tid a.tid before in absurd cc
one_each (x ∷ xs) rise a b (inr i) (inr j) e = one_each xs rise.1 a b i j e

module _ (ls : List SiteRecord) (free : (tid : Tid) → doubt_of ls tid ≡ None) where
  -- who is in doubt is listed
  in_carried : (xs : List Held) (h : Held) → IsDoubt (map held_read xs ++ ls) h → In h xs
  in_carried [] h is = let none = free h.tid in cc
  in_carried (x ∷ xs) h is = elim (new_or_old x h (map held_read xs ++ ls) is) [ inl e ↦ inl e | inr old ↦ inr (in_carried xs h old) ]

  -- who is listed is in doubt, if each attempt is listed once
  listed : (xs : List Held) → OneEach xs → (h : Held) → In h xs → IsDoubt (map held_read xs ++ ls) h
  listed [] one h i = absurd i
  listed (x ∷ xs) one h i = by_test (same_tid x.tid h.tid) refl i (λ j. listed xs (λ a b p q f. one a b (inr p) (inr q) f) h j)
    where
      by_test : (b : Bool) → same_tid x.tid h.tid ≡ b → In h (x ∷ xs) → (In h xs → IsDoubt (map held_read xs ++ ls) h)
          → cond b (Some x) (doubt_of (map held_read xs ++ ls) h.tid) ≡ Some h
      by_test true e j rest = ap Some (one x h (inl refl) j e)
      by_test false e (inl same) rest = let yes : same_tid x.tid h.tid ≡ true = subst (λ (y : Held). same_tid x.tid y.tid ≡ true) same (same_tid-refl x.tid) in cc
      by_test false e (inr j) rest = rest j

  -- by falling ticket each is new behind the others
  carried_new : (xs : List Held) → FallByTicket xs → OneEach xs → AreNew ls → AreNew (map held_read xs ++ ls)
  carried_new [] fall one rest = rest
  carried_new (x ∷ xs) fall one rest = ((none (doubt_of (map held_read xs ++ ls) x.tid) refl, low), carried_new xs fall.1 (λ a b p q f. one a b (inr p) (inr q) f) rest)
    where
      low : (h : Held) → IsDoubt (map held_read xs ++ ls) h → h.ticket < x.ticket
      low h is = each_at (λ (y : Held). y.ticket < x.ticket) h xs fall.0 (in_carried xs h is)

      none : (o : Option Held) → doubt_of (map held_read xs ++ ls) x.tid ≡ o → doubt_of (map held_read xs ++ ls) x.tid ≡ None
      none None e = e
      none (Some h) e =
          let own : h.tid ≡ x.tid = doubt_tid (map held_read xs ++ ls) x.tid h e in
          let is : IsDoubt (map held_read xs ++ ls) h = ap (doubt_of (map held_read xs ++ ls)) own ∙ e in
          let less : h.ticket < x.ticket = low h is in
          let yes : same_tid x.tid h.tid ≡ true = subst (λ u. same_tid x.tid u ≡ true) (sym own) (same_tid-refl x.tid) in
          let same : x.ticket ≡ h.ticket = ap (λ (y : Held). y.ticket) (one x h (inl refl) (inr (in_carried xs h is)) yes) in absurd (omega (arith, less, same))

  -- and each may stand behind them where all are apart
  carried_stand : Each WritesNothing (installs ls) → MayAllStand ls → (xs : List Held) → AreNew (map held_read xs ++ ls) → AreAllApart (map held_read xs ++ ls)
      → MayAllStand (map held_read xs ++ ls)
  carried_stand quiet rest [] new apart = rest
  carried_stand quiet rest (x ∷ xs) new apart = (
    (
      may_hold_from x (map held_read xs ++ ls) apart new.0.0 new.0.1,
      λ i at less. clear_of x i (each_at WritesNothing i (installs ls) quiet (subst (In i) (carried_installs xs ls) at)),
    ),
    carried_stand quiet rest xs new.1 (λ a b p q other. apart a b (still x a (map held_read xs ++ ls) new.0.0 p) (still x b (map held_read xs ++ ls) new.0.0 q) other),
  )

  -- the same ones in another order
  carried_same : (xs ys : List Held) → OneEach xs → OneEach ys → ((h : Held) → In h xs → In h ys) → ((h : Held) → In h ys → In h xs) → SameDue (map held_read xs ++ ls) (map held_read ys ++ ls)
  carried_same xs ys one_x one_y there back = record {
    due = carried_installs xs ls ∙ sym (carried_installs ys ls);
    doubt = λ tid. by_both tid (doubt_of (map held_read xs ++ ls) tid) (doubt_of (map held_read ys ++ ls) tid) refl refl;
  }
    where
      onto : (us vs : List Held) → OneEach vs → ((h : Held) → In h us → In h vs) → (tid : Tid) (h : Held) → doubt_of (map held_read us ++ ls) tid ≡ Some h → doubt_of (map held_read vs ++ ls) tid ≡ Some h
      onto us vs one sub tid h e =
          let own : h.tid ≡ tid = doubt_tid (map held_read us ++ ls) tid h e in
          ap (doubt_of (map held_read vs ++ ls)) (sym own)
          ∙ listed vs one h (sub h (in_carried us h (ap (doubt_of (map held_read us ++ ls)) own ∙ e)))

      by_both : (tid : Tid) (o p : Option Held) → doubt_of (map held_read xs ++ ls) tid ≡ o → doubt_of (map held_read ys ++ ls) tid ≡ p → o ≡ p
      by_both tid None None e f = refl
      by_both tid (Some h) p e f = sym (onto xs ys one_y there tid h e) ∙ f
      by_both tid None (Some h) e f = sym e ∙ onto ys xs one_x back tid h f

-- ---- the first record

pub record IsFirst (front : Front) (first : SiteRecord) (base : List SiteRecord) : Type 0 where
  pub same : SameDue (base ++ below first) (counted (first ∷ []))
  pub order : MayAllStand (base ++ below first) ↔ AreInOrder (first ∷ [])
  pub new : AreNew (base ++ below first)
  pub told : Tells front (below first)
  pub stand : MayAllStand (below first)

no_doubts : AreAllApart (counted [])
no_doubts a b x y other = cc

same_apart : (a b : List SiteRecord) → SameDue a b → AreAllApart a → AreAllApart b
same_apart a b s apart x y p q other = apart x y (s.doubt x.tid ∙ p) (s.doubt y.tid ∙ q) other

pub first_is : (front : Front) (home : Home) (first : SiteRecord) (base : List SiteRecord) → home_by first ≡ Some home → AreSumsOfSome first → IsTakenAs first base → Tells front []
    → IsFirst front first base
first_is front home (Checkpoint sum) base is some (sorted, by, e) t = subst (IsFirst front (Checkpoint sum)) (sym e) (record {
  same = same;
  order = (
    λ stand. record {
      apart = (apart_back (Checkpoint sum ∷ []) (same_apart (map held_read sorted ++ ls) (counted (Checkpoint sum ∷ [])) same (all_apart (map held_read sorted ++ ls) new stand)), apart_back [] no_doubts);
      clear = (
        behind_back (Checkpoint sum ∷ []) (λ held d i at less. clear_of held i
            (each_at WritesNothing i (installs ls) (locals_quiet sum.counter sum.locals) (subst (In i) (carried_installs sum.doubtful ls) at))),
        tt,
      );
      on_top = tt;
    },
    λ o. carried_stand ls free (locals_quiet sum.counter sum.locals) (locals_stand sum.counter sum.locals) sorted new
        (same_apart (counted (Checkpoint sum ∷ [])) (map held_read sorted ++ ls) (record { due = sym same.due; doubt = λ tid. sym (same.doubt tid) }) (apart_there (Checkpoint sum ∷ []) o.apart.0)),
  );
  new = new;
  told = locals_told front sum.counter sum.locals t;
  stand = locals_stand sum.counter sum.locals;
})
  where
    ls : List SiteRecord
    ls = map (local_read sum.counter) sum.locals

    free : (tid : Tid) → doubt_of ls tid ≡ None
    free tid = locals_undoubted sum.counter sum.locals tid

    one_sum : OneEach sum.doubtful
    one_sum = one_each sum.doubtful some.doubtful_rise

    one_sorted : OneEach sorted
    one_sorted a b i j f = one_sum a b (by.there a i) (by.there b j) f

    same : SameDue (map held_read sorted ++ ls) (counted (Checkpoint sum ∷ []))
    same = carried_same ls free sorted sum.doubtful one_sorted one_sum by.there by.back

    new : AreNew (map held_read sorted ++ ls)
    new = carried_new ls free sorted by.falls one_sorted (locals_new sum.counter sum.locals)
first_is front home (Setup site engine protocol items) base is some e t = subst (IsFirst front (Setup site engine protocol items)) (sym e) (record {
  same = record { due = refl; doubt = λ tid. refl };
  order = (
    λ stand. record { apart = (apart_back (Setup site engine protocol items ∷ []) (λ a b x y other. cc), apart_back [] no_doubts); clear = (tt, tt); on_top = tt },
    λ o. (tt, tt),
  );
  new = (tt, tt);
  told = t;
  stand = tt;
})
first_is front home (Start n) base is some e t = cc
first_is front home (Prepared u m n k w) base is some e t = cc
first_is front home (Ended u d) base is some e t = cc
first_is front home (Local u n w) base is some e t = cc

-- ---- each record behind it is new

ticket_listed : (journal : List SiteRecord) → Each AreWithin journal → (x : Held) → IsDoubt (counted journal) x → Among (λ n. x.ticket ≤ n) (tickets journal)
ticket_listed [] within x is = cc
ticket_listed (Checkpoint sum ∷ []) within x is =
    let i = in_carried (map (local_read sum.counter) sum.locals) (λ tid. locals_undoubted sum.counter sum.locals tid) sum.doubtful x is in
    inl (each_at (λ (h : Held). h.ticket ≤ sum.published) x sum.doubtful within.0.tickets i)
ticket_listed (Checkpoint sum ∷ next ∷ older) within x is = inr (ticket_listed (next ∷ older) within.1 x is)
ticket_listed (Prepared t m n k w ∷ older) within x is =
    elim (new_or_old (record { tid = t; epoch = m; number = n; ticket = k; writes = w }) x (counted older) is) [
      | inl e ↦ inl (let same = ap (λ (h : Held). h.ticket) e in omega (arith, same))
      | inr old ↦ inr (ticket_listed older within.1 x old)
    ]
ticket_listed (Ended t d ∷ older) within x is = ticket_listed older within.1 x (was_doubt t d x (counted older) is).1
ticket_listed (Setup site engine protocol items ∷ older) within x is = ticket_listed older within.1 x is
ticket_listed (Start n ∷ older) within x is = ticket_listed older within.1 x is
ticket_listed (Local t n w ∷ older) within x is = ticket_listed older within.1 x is

new_of : (r : SiteRecord) (journal : List SiteRecord) → Each AreWithin journal → OnceEach (r ∷ counted journal) → TicketsRise (r ∷ journal) → IsNew r (counted journal)
new_of (Prepared t m n k w) journal within once rise = (none (doubt_of (counted journal) t) refl, low)
  where
    none : (o : Option Held) → doubt_of (counted journal) t ≡ o → doubt_of (counted journal) t ≡ None
    none None e = e
    none (Some h) e = absurd (once.0 (doubt_prepared (counted journal) t h e))

    low : (x : Held) → IsDoubt (counted journal) x → x.ticket < k
    low x is =
        let (n, i, most) = among_is (λ n. x.ticket ≤ n) (tickets journal) (ticket_listed journal within x is) in
        let less = each_at (λ before. before < k) n (tickets journal) rise.0 i in omega (arith, less, most)
new_of (Ended t d) journal within once rise = tt
new_of (Setup site engine protocol items) journal within once rise = tt
new_of (Start n) journal within once rise = tt
new_of (Local t n w) journal within once rise = tt
new_of (Checkpoint sum) journal within once rise = tt

once_behind : (r : SiteRecord) (rs : List SiteRecord) → OnceEach (r ∷ rs) → OnceEach rs
once_behind (Prepared t m n k w) rs o = o.1
once_behind (Ended t d) rs o = o.1
once_behind (Local t n w) rs o = o.1
once_behind (Setup site engine protocol items) rs o = o
once_behind (Start n) rs o = o
once_behind (Checkpoint sum) rs o = o

rise_behind : (r : SiteRecord) (rs : List SiteRecord) → TicketsRise (r ∷ rs) → TicketsRise rs
rise_behind (Prepared t m n k w) rs o = o.1
rise_behind (Ended t d) rs o = o
rise_behind (Local t n w) rs o = o
rise_behind (Setup site engine protocol items) rs o = o
rise_behind (Start n) rs o = o
rise_behind (Checkpoint sum) rs o = o

record IsKept (first : SiteRecord) (newer : List SiteRecord) : Type 0 where
  within : Each AreWithin (newer ++ first ∷ [])
  once : OnceEach (newer ++ counted (first ∷ []))
  rise : TicketsRise (newer ++ first ∷ [])

kept_behind : (first r : SiteRecord) (newer : List SiteRecord) → IsKept first (r ∷ newer) → IsKept first newer
kept_behind first r newer k = record { within = k.within.1; once = once_behind r (newer ++ counted (first ∷ [])) k.once; rise = rise_behind r (newer ++ first ∷ []) k.rise }

kept_new : (first r : SiteRecord) (newer : List SiteRecord) → IsKept first (r ∷ newer) → IsNew r (counted (newer ++ first ∷ []))
kept_new first r newer k = new_of r (newer ++ first ∷ []) k.within.1 (subst (λ rs. OnceEach (r ∷ rs)) (sym (counted_behind newer first)) k.once) k.rise

new_within : (first : SiteRecord) (newer xs ys : List SiteRecord) (r : SiteRecord) → IsKept first newer → newer ≡ xs ++ r ∷ ys → IsNew r (counted (ys ++ first ∷ []))
new_within first newer xs ys r k e = front xs (subst (IsKept first) e k)
  where
    front : (zs : List SiteRecord) → IsKept first (zs ++ r ∷ ys) → IsNew r (counted (ys ++ first ∷ []))
    front [] k = kept_new first r ys k
    front (z ∷ zs) k = front zs (kept_behind first z (zs ++ r ∷ ys) k)

all_new : (first : SiteRecord) (base newer : List SiteRecord) → SameDue base (counted (first ∷ [])) → AreNew base → IsKept first newer → AreNew (newer ++ base)
all_new first base [] same new k = new
all_new first base (r ∷ newer) same new k = (
  same_new r (newer ++ base) (counted (newer ++ first ∷ []))
      (subst (SameDue (newer ++ base)) (sym (counted_behind newer first)) (all_due newer base (counted (first ∷ [])) same)) (kept_new first r newer k),
  all_new first base newer same new (kept_behind first r newer k),
)

-- ---- the whole journal

pub order_says : (before after : Front) (home : Home) (first : SiteRecord) (newer base : List SiteRecord) (fits : Bool) → Tells before [] → home_by first ≡ Some home
    → AreSumsOfSome first → IsTakenAs first base → Each AreWithin (newer ++ first ∷ []) → OnceEach (counted (newer ++ first ∷ [])) → TicketsRise (newer ++ first ∷ [])
    → TakesAll before after (newer ++ base) fits → (fits ≡ true) ↔ AreInOrder (newer ++ first ∷ [])
order_says before after home first newer base fits t is some taken within once rise takes = (λ e. whole.0 (told.0 e), λ o. told.1 (whole.1 o))
  where
    kept : IsKept first newer
    kept = record { within = within; once = subst OnceEach (counted_behind newer first) once; rise = rise }

    f : IsFirst before first base
    f = first_is before home first base is some taken t

    joined : (newer ++ base) ++ below first ≡ newer ++ (base ++ below first)
    joined = append_assoc newer base (below first)

    told : (fits ≡ true) ↔ MayAllStand (newer ++ (base ++ below first))
    told = subst (λ rs. (fits ≡ true) ↔ MayAllStand rs) joined
        (takes (below first) (subst AreNew (sym joined) (all_new first (base ++ below first) newer f.same f.new kept)) f.told f.stand).0

    whole : MayAllStand (newer ++ (base ++ below first)) ↔ AreInOrder (newer ++ first ∷ [])
    whole = all_stand newer first (base ++ below first) f.same f.order (λ xs ys r e. new_within first newer xs ys r kept e)
