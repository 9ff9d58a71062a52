-- That a Checkpoint of the coordinator is the Sum of the records that it is read as, where these stand in order.
use Rattle.std.proofs.Common.{◌≡◌, ◌⊎◌, Bool, true, false, cond, not, ◌&&◌, ◌||◌, Option, Some, None, List, [], ◌∷◌, ◌++◌, map, refl, sym, ap, ap₂, ◌∙◌, subst, inl, inr}
use Rattle.mdb_base.specs.declared.names.Tid.{Tid}
use Rattle.mdb_base.specs.Names.{same_tid, tid_before}
use Rattle.mdb_base.specs.Words.{Among, Each, first_where, inserted, map_some, or_else, some_of, those}
use Rattle.mdb_base.proofs.ForCallers.{apart_behind, before_other, each_filtered, each_inserted, each_map, same_tid-equal, same_tid-refl}
use Rattle.order_laws.proofs.ForCallers.{ranks_tids}
use Rattle.presumptions.specs.declared.Participant.{Participant}
use Rattle.fed_rules.specs.declared.records.CoordRecord.{CoordRecord}
use Rattle.fed_rules.specs.declared.records.CoordRecord.TheVariants.{Initiation, Commit, Abort, End, Checkpoint}
use Rattle.fed_rules.specs.declared.sums.CommittedAttempt.{CommittedAttempt}
use Rattle.fed_rules.specs.declared.sums.CoordSum.{CoordSum}
use Rattle.fed_rules.specs.declared.sums.OpenAttempt.{OpenAttempt}
use Rattle.fed_rules.specs.CoordRecords.{class_of, ends_at_once, has_commit, has_end, named, ticketed}
use Rattle.fed_rules.specs.CoordSums.{also_open, committed_with, coord_sum, open_with}
use Rattle.fed_rules.specs.Reopened.{commit_read, coord_sum_read, end_read, initiation_read, is_open_in}
use Rattle.fed_rules.specs.Usable.{IsAnyOf, IsDecidedOf, IsSumOfOpen, RiseBy, StandInOrder}
use Rattle.coord_laws.specs.CoordRestarts.{open_in}
use Rattle.coord_laws.proofs.CoordTold.{IsTidy, found_or_not, left_open, open_is}

-- ---- records in order are tidy

none_end : (g : Tid) (rs : List CoordRecord) → (Among (IsDecidedOf g) rs → ⊥) → has_end rs g ≡ false
none_end g [] never = refl
none_end g (Initiation t ms ∷ rs) never = none_end g rs (λ i. never (inr i))
none_end g (Commit t ks ∷ rs) never = none_end g rs (λ i. never (inr i))
none_end g (Abort t ms ∷ rs) never = none_end g rs (λ i. never (inr i))
none_end g (Checkpoint sum ∷ rs) never = none_end g rs (λ i. never (inr i))
none_end g (End t ∷ rs) never = by_own (same_tid t g) refl (none_end g rs (λ i. never (inr i)))
  where
    by_own : (b : Bool) → same_tid t g ≡ b → has_end rs g ≡ false → cond b true (has_end rs g) ≡ false
    by_own true q k = absurd (never (inl (same_tid-equal t g q)))
    by_own false q k = k

pub none_commit : (g : Tid) (rs : List CoordRecord) → (Among (IsDecidedOf g) rs → ⊥) → has_commit rs g ≡ false
none_commit g [] never = refl
none_commit g (Initiation t ms ∷ rs) never = none_commit g rs (λ i. never (inr i))
none_commit g (End t ∷ rs) never = none_commit g rs (λ i. never (inr i))
none_commit g (Abort t ms ∷ rs) never = none_commit g rs (λ i. never (inr i))
none_commit g (Checkpoint sum ∷ rs) never = none_commit g rs (λ i. never (inr i))
none_commit g (Commit t ks ∷ rs) never = by_own (same_tid t g) refl (none_commit g rs (λ i. never (inr i)))
  where
    by_own : (b : Bool) → same_tid t g ≡ b → has_commit rs g ≡ false → cond b true (has_commit rs g) ≡ false
    by_own true q k = absurd (never (inl (same_tid-equal t g q)))
    by_own false q k = k

none_named : (protocols : List Participant) (g : Tid) (rs : List CoordRecord) → (Among (IsAnyOf g) rs → ⊥) → named protocols rs g ≡ None
none_named protocols g [] never = refl
none_named protocols g (End t ∷ rs) never = none_named protocols g rs (λ i. never (inr i))
none_named protocols g (Checkpoint sum ∷ rs) never = none_named protocols g rs (λ i. never (inr i))
none_named protocols g (Initiation t ms ∷ rs) never = by_own (same_tid t g) refl (none_named protocols g rs (λ i. never (inr i)))
  where
    by_own : (b : Bool) → same_tid t g ≡ b → named protocols rs g ≡ None → cond b (Some ms) (named protocols rs g) ≡ None
    by_own true q k = absurd (never (inl (same_tid-equal t g q)))
    by_own false q k = k
none_named protocols g (Commit t ks ∷ rs) never = by_own (same_tid t g) refl (none_named protocols g rs (λ i. never (inr i)))
  where
    by_own : (b : Bool) → same_tid t g ≡ b → named protocols rs g ≡ None
        → cond b (Some (or_else (named protocols rs g) (ticketed protocols ks))) (named protocols rs g) ≡ None
    by_own true q k = absurd (never (inl (same_tid-equal t g q)))
    by_own false q k = k
none_named protocols g (Abort t ms ∷ rs) never = by_own (same_tid t g) refl (none_named protocols g rs (λ i. never (inr i)))
  where
    by_own : (b : Bool) → same_tid t g ≡ b → named protocols rs g ≡ None → cond b (Some (or_else (named protocols rs g) ms)) (named protocols rs g) ≡ None
    by_own true q k = absurd (never (inl (same_tid-equal t g q)))
    by_own false q k = k

pub decided_any : (g : Tid) (rs : List CoordRecord) → Among (IsDecidedOf g) rs → Among (IsAnyOf g) rs
decided_any g [] i = i
decided_any g (Initiation t ms ∷ rs) (inl i) = absurd i
decided_any g (Commit t ks ∷ rs) (inl i) = inl i
decided_any g (Abort t ms ∷ rs) (inl i) = inl i
decided_any g (End t ∷ rs) (inl i) = inl i
decided_any g (Checkpoint sum ∷ rs) (inl i) = absurd i
decided_any g (r ∷ rs) (inr i) = inr (decided_any g rs i)

pub tidy_in_order : (protocols : List Participant) (g : Tid) (rs : List CoordRecord) → StandInOrder rs → IsTidy protocols g rs
tidy_in_order protocols g [] s = tt
tidy_in_order protocols g (Initiation t ms ∷ rs) s = (
  (λ own.
      let never : Among (IsAnyOf g) rs → ⊥ = subst (λ u. Among (IsAnyOf u) rs → ⊥) (same_tid-equal t g own) s.0 in (
        none_end g rs (λ i. never (decided_any g rs i)),
        none_commit g rs (λ i. never (decided_any g rs i)),
        (λ ns e. let clash : None ≡ Some ns = sym (none_named protocols g rs never) ∙ e in cc),
      )),
  tidy_in_order protocols g rs s.1,
)
tidy_in_order protocols g (Commit t ks ∷ rs) s = (
  (λ own.
      let never : Among (IsDecidedOf g) rs → ⊥ = subst (λ u. Among (IsDecidedOf u) rs → ⊥) (same_tid-equal t g own) s.0 in
      (none_end g rs never, none_commit g rs never)),
  tidy_in_order protocols g rs s.1,
)
tidy_in_order protocols g (Abort t ms ∷ rs) s = (
  (λ own.
      let never : Among (IsDecidedOf g) rs → ⊥ = subst (λ u. Among (IsDecidedOf u) rs → ⊥) (same_tid-equal t g own) s.0 in
      (none_end g rs never, none_commit g rs never)),
  tidy_in_order protocols g rs s.1,
)
tidy_in_order protocols g (End t ∷ rs) s = tidy_in_order protocols g rs s.1
tidy_in_order protocols g (Checkpoint sum ∷ rs) s = tidy_in_order protocols g rs s

pub order_behind : (r : CoordRecord) (rs : List CoordRecord) → StandInOrder (r ∷ rs) → StandInOrder rs
order_behind (Initiation t ms) rs s = s.1
order_behind (Commit t ks) rs s = s.1
order_behind (Abort t ms) rs s = s.1
order_behind (End t) rs s = s.1
order_behind (Checkpoint sum) rs s = s

-- ---- the open attempts of a Sum rise

abbrev rises : OpenAttempt → OpenAttempt → Bool
rises a b = tid_before a.tid b.tid

abbrev AreRising : List OpenAttempt → Type 0
AreRising attempts = RiseBy (λ (attempt : OpenAttempt). attempt.tid) attempts

inserted_rises : (x : OpenAttempt) (ys : List OpenAttempt) → AreRising ys → some_of (λ (a : OpenAttempt). same_tid a.tid x.tid) ys ≡ false → AreRising (inserted rises x ys)
inserted_rises x [] h none = (tt, tt)
inserted_rises x (y ∷ ys) h none = by_test (tid_before y.tid x.tid) refl (same_tid y.tid x.tid) refl none (inserted_rises x ys h.1)
  where
    by_test : (b : Bool) → tid_before y.tid x.tid ≡ b → (c : Bool) → same_tid y.tid x.tid ≡ c → (c || some_of (λ (a : OpenAttempt). same_tid a.tid x.tid) ys) ≡ false
        → (some_of (λ (a : OpenAttempt). same_tid a.tid x.tid) ys ≡ false → AreRising (inserted rises x ys)) → AreRising (cond b (y ∷ inserted rises x ys) (x ∷ y ∷ ys))
    by_test b e true f q k = cc
    by_test true e false f q k = (each_inserted (λ (z : OpenAttempt). tid_before y.tid z.tid ≡ true) rises x ys e h.0, k q)
    by_test false e false f q k =
        let first : tid_before x.tid y.tid ≡ true = before_other x.tid y.tid e f in (
          (
            first,
            each_map (λ (z : OpenAttempt). tid_before y.tid z.tid ≡ true) (λ (z : OpenAttempt). tid_before x.tid z.tid ≡ true)
                (λ z g. ranks_tids.onward x.tid y.tid z.tid first g) ys h.0,
          ),
          h,
        )

those_rise : (test : OpenAttempt → Bool) (xs : List OpenAttempt) → AreRising xs → AreRising (those test xs)
those_rise test [] h = tt
those_rise test (x ∷ xs) h = by_test (test x) (those_rise test xs h.1)
  where
    by_test : (b : Bool) → AreRising (those test xs) → AreRising (cond b (x ∷ those test xs) (those test xs))
    by_test true k = (each_filtered (λ (z : OpenAttempt). tid_before x.tid z.tid ≡ true) test xs h.0, k)
    by_test false k = k

opened_rise : (t : Tid) (ms : List Participant) (xs : List OpenAttempt) → AreRising xs → AreRising (also_open t ms xs)
opened_rise t ms xs h = by_test (some_of (λ (a : OpenAttempt). same_tid a.tid t) xs) refl
  where
    entry : OpenAttempt
    entry = record { tid = t; participants = ms }

    by_test : (b : Bool) → some_of (λ (a : OpenAttempt). same_tid a.tid t) xs ≡ b → AreRising (cond b xs (inserted rises (record { tid = t; participants = ms }) xs))
    by_test true e = h
    by_test false e = inserted_rises (record { tid = t; participants = ms }) xs h e

pub open_rise : (protocols : List Participant) (rs : List CoordRecord) → AreRising (open_with protocols [] rs)
open_rise protocols [] = tt
open_rise protocols (Initiation t ms ∷ rs) = opened_rise t ms (open_with protocols [] rs) (open_rise protocols rs)
open_rise protocols (Commit t ks ∷ rs) =
    those_rise (λ attempt. not (same_tid attempt.tid t && ends_at_once (class_of attempt.participants))) (also_open t (ticketed protocols ks) (open_with protocols [] rs))
    (opened_rise t (ticketed protocols ks) (open_with protocols [] rs) (open_rise protocols rs))
open_rise protocols (Abort t ms ∷ rs) = opened_rise t ms (open_with protocols [] rs) (open_rise protocols rs)
open_rise protocols (End t ∷ rs) = those_rise (λ attempt. not (same_tid attempt.tid t)) (open_with protocols [] rs) (open_rise protocols rs)
open_rise protocols (Checkpoint sum ∷ rs) = open_rise protocols rs

-- a rising list is told by who is open in it
abbrev looked_at : (b : Bool) → OpenAttempt → List OpenAttempt → Tid → Option (List Participant)
looked_at b x xs g = map_some (λ (a : OpenAttempt). a.participants) (cond b (Some x) (first_where (λ (a : OpenAttempt). same_tid a.tid g) xs))

open_none : (t : Tid) (xs : List OpenAttempt) → Each (λ (a : OpenAttempt). tid_before t a.tid ≡ true) xs → open_in xs t ≡ None
open_none t [] h = refl
open_none t (x ∷ xs) h = ap (λ b. looked_at b x xs t) (apart_behind t x.tid h.0) ∙ open_none t xs h.1

open_own : (x : OpenAttempt) (xs : List OpenAttempt) → open_in (x ∷ xs) x.tid ≡ Some x.participants
open_own x xs = ap (λ b. looked_at b x xs x.tid) (same_tid-refl x.tid)

same_open : (xs ys : List OpenAttempt) → AreRising xs → AreRising ys → ((g : Tid) → open_in xs g ≡ open_in ys g) → xs ≡ ys
same_open [] [] h k same = refl
same_open [] (y ∷ ys) h k same = let clash : None ≡ Some y.participants = same y.tid ∙ open_own y ys in cc
same_open (x ∷ xs) [] h k same = let clash : None ≡ Some x.participants = sym (same x.tid) ∙ open_own x xs in cc
same_open (x ∷ xs) (y ∷ ys) h k same =
    ap₂ (λ (z : OpenAttempt) (zs : List OpenAttempt). z ∷ zs) heads
    (same_open xs ys h.1 k.1 (λ g. rest g (same_tid x.tid g) refl))
  where
    tids : x.tid ≡ y.tid
    tids = by_before (tid_before x.tid y.tid) refl (tid_before y.tid x.tid) refl
      where
        by_before : (b : Bool) → tid_before x.tid y.tid ≡ b → (c : Bool) → tid_before y.tid x.tid ≡ c → x.tid ≡ y.tid
        by_before true e c f =
            let none : open_in (y ∷ ys) x.tid ≡ None =
            open_none x.tid (y ∷ ys) (e, each_map (λ (z : OpenAttempt). tid_before y.tid z.tid ≡ true) (λ (z : OpenAttempt). tid_before x.tid z.tid ≡ true) (λ z g. ranks_tids.onward x.tid y.tid z.tid e g) ys k.0) in
            let clash : None ≡ Some x.participants = sym none ∙ sym (same x.tid) ∙ open_own x xs in cc
        by_before false e true f =
            let none : open_in (x ∷ xs) y.tid ≡ None =
            open_none y.tid (x ∷ xs) (f, each_map (λ (z : OpenAttempt). tid_before x.tid z.tid ≡ true) (λ (z : OpenAttempt). tid_before y.tid z.tid ≡ true) (λ z g. ranks_tids.onward y.tid x.tid z.tid f g) xs h.0) in
            let clash : None ≡ Some y.participants = sym none ∙ same y.tid ∙ open_own y ys in cc
        by_before false e false f = ranks_tids.total x.tid y.tid e f

    heads : x ≡ y
    heads =
        let members : Some x.participants ≡ Some y.participants =
        sym (open_own x xs) ∙ same x.tid ∙ subst (λ t. open_in (y ∷ ys) t ≡ Some y.participants) (sym tids) (open_own y ys) in
        let parts : x.participants ≡ y.participants = cc in
        ap₂ (λ (t : Tid) (ms : List Participant). let a : OpenAttempt = record { tid = t; participants = ms } in a) tids parts

    rest : (g : Tid) (b : Bool) → same_tid x.tid g ≡ b → open_in xs g ≡ open_in ys g
    rest g true q =
        let own : x.tid ≡ g = same_tid-equal x.tid g q in
        subst (λ u. open_in xs u ≡ None) own (open_none x.tid xs h.0) ∙ sym (subst (λ u. open_in ys u ≡ None) (sym tids ∙ own) (open_none y.tid ys k.0))
    rest g false q =
        let other : same_tid y.tid g ≡ false = subst (λ t. same_tid t g ≡ false) tids q in
        sym (ap (λ b. looked_at b x xs g) q) ∙ same g ∙ ap (λ b. looked_at b y ys g) other

-- ---- what the read records say

abbrev is_of : Tid → CommittedAttempt → Bool
is_of g attempt = same_tid attempt.tid g

named_initiations : (protocols : List Participant) (g : Tid) (ys : List OpenAttempt) → named protocols (map initiation_read ys) g ≡ open_in ys g
named_initiations protocols g [] = refl
named_initiations protocols g (y ∷ ys) = by_own (same_tid y.tid g) (named_initiations protocols g ys)
  where
    by_own : (b : Bool) → named protocols (map initiation_read ys) g ≡ open_in ys g → cond b (Some y.participants) (named protocols (map initiation_read ys) g) ≡ looked_at b y ys g
    by_own true k = refl
    by_own false k = k

named_some : (protocols : List Participant) (g : Tid) (xs : List CommittedAttempt) (rs : List CoordRecord) (ms : List Participant) → named protocols rs g ≡ Some ms
    → named protocols (map commit_read xs ++ rs) g ≡ Some ms
named_some protocols g [] rs ms e = e
named_some protocols g (x ∷ xs) rs ms e = by_own (is_of g x) (named_some protocols g xs rs ms e)
  where
    by_own : (b : Bool) → named protocols (map commit_read xs ++ rs) g ≡ Some ms
        → cond b (Some (or_else (named protocols (map commit_read xs ++ rs) g) (ticketed protocols x.tickets))) (named protocols (map commit_read xs ++ rs) g) ≡ Some ms
    by_own true k = ap (λ o. Some (or_else o (ticketed protocols x.tickets))) k
    by_own false k = k

named_none : (protocols : List Participant) (g : Tid) (xs : List CommittedAttempt) (rs : List CoordRecord) → named protocols rs g ≡ None → some_of (is_of g) xs ≡ false
    → named protocols (map commit_read xs ++ rs) g ≡ None
named_none protocols g [] rs e none = e
named_none protocols g (x ∷ xs) rs e none = by_own (is_of g x) none (named_none protocols g xs rs e)
  where
    by_own : (b : Bool) → (b || some_of (is_of g) xs) ≡ false → (some_of (is_of g) xs ≡ false → named protocols (map commit_read xs ++ rs) g ≡ None)
        → cond b (Some (or_else (named protocols (map commit_read xs ++ rs) g) (ticketed protocols x.tickets))) (named protocols (map commit_read xs ++ rs) g) ≡ None
    by_own true q k = cc
    by_own false q k = k q

named_ends : (protocols : List Participant) (g : Tid) (xs : List CommittedAttempt) (rs : List CoordRecord) → named protocols (map end_read xs ++ rs) g ≡ named protocols rs g
named_ends protocols g [] rs = refl
named_ends protocols g (x ∷ xs) rs = named_ends protocols g xs rs

commit_ends : (g : Tid) (xs : List CommittedAttempt) (rs : List CoordRecord) → has_commit (map end_read xs ++ rs) g ≡ has_commit rs g
commit_ends g [] rs = refl
commit_ends g (x ∷ xs) rs = commit_ends g xs rs

commit_initiations : (g : Tid) (ys : List OpenAttempt) → has_commit (map initiation_read ys) g ≡ false
commit_initiations g [] = refl
commit_initiations g (y ∷ ys) = commit_initiations g ys

commit_commits : (g : Tid) (xs : List CommittedAttempt) (rs : List CoordRecord) → has_commit rs g ≡ false → has_commit (map commit_read xs ++ rs) g ≡ some_of (is_of g) xs
commit_commits g [] rs none = none
commit_commits g (x ∷ xs) rs none = by_own (is_of g x) (commit_commits g xs rs none)
  where
    by_own : (b : Bool) → has_commit (map commit_read xs ++ rs) g ≡ some_of (is_of g) xs → cond b true (has_commit (map commit_read xs ++ rs) g) ≡ (b || some_of (is_of g) xs)
    by_own true k = refl
    by_own false k = k

end_ends : (g : Tid) (xs : List CommittedAttempt) (rs : List CoordRecord) → has_end rs g ≡ false → has_end (map end_read xs ++ rs) g ≡ some_of (is_of g) xs
end_ends g [] rs none = none
end_ends g (x ∷ xs) rs none = by_own (is_of g x) (end_ends g xs rs none)
  where
    by_own : (b : Bool) → has_end (map end_read xs ++ rs) g ≡ some_of (is_of g) xs → cond b true (has_end (map end_read xs ++ rs) g) ≡ (b || some_of (is_of g) xs)
    by_own true k = refl
    by_own false k = k

end_others : (g : Tid) (xs : List CommittedAttempt) (ys : List OpenAttempt) → has_end (map commit_read xs ++ map initiation_read ys) g ≡ false
end_others g [] [] = refl
end_others g [] (y ∷ ys) = end_others g [] ys
end_others g (x ∷ xs) ys = end_others g xs ys

-- those that aren't open
left_none : (g : Tid) (test : CommittedAttempt → Bool) (xs : List CommittedAttempt) → ((x : CommittedAttempt) → is_of g x ≡ true → test x ≡ false)
    → some_of (is_of g) (those test xs) ≡ false
left_none g test [] out = refl
left_none g test (x ∷ xs) out = by_test (test x) refl (is_of g x) refl (left_none g test xs out)
  where
    by_test : (b : Bool) → test x ≡ b → (c : Bool) → is_of g x ≡ c → some_of (is_of g) (those test xs) ≡ false → some_of (is_of g) (cond b (x ∷ those test xs) (those test xs)) ≡ false
    by_test false e c f k = k
    by_test true e true f k = let clash : true ≡ false = sym e ∙ out x f in cc
    by_test true e false f k = ap (λ d. d || some_of (is_of g) (those test xs)) f ∙ k

left_all : (g : Tid) (test : CommittedAttempt → Bool) (xs : List CommittedAttempt) → ((x : CommittedAttempt) → is_of g x ≡ true → test x ≡ true)
    → some_of (is_of g) (those test xs) ≡ some_of (is_of g) xs
left_all g test [] own = refl
left_all g test (x ∷ xs) own = by_test (test x) refl (is_of g x) refl (left_all g test xs own)
  where
    by_test : (b : Bool) → test x ≡ b → (c : Bool) → is_of g x ≡ c → some_of (is_of g) (those test xs) ≡ some_of (is_of g) xs
        → some_of (is_of g) (cond b (x ∷ those test xs) (those test xs)) ≡ (c || some_of (is_of g) xs)
    by_test true e c f k = ap₂ (λ a b. a || b) f k
    by_test false e true f k = let clash : true ≡ false = sym (own x f) ∙ e in cc
    by_test false e false f k = k

module _ (protocols : List Participant) (sum : CoordSum) (fit : IsSumOfOpen sum) where
  abbrev not_open : CommittedAttempt → Bool
  not_open attempt = not (is_open_in sum attempt.tid)

  abbrev ends : List CommittedAttempt
  ends = those not_open sum.committed

  abbrev behind : List CoordRecord
  behind = map commit_read sum.committed ++ map initiation_read sum.open_attempts

  in_parts : coord_sum_read sum ≡ map end_read ends ++ behind
  in_parts = assoc (map end_read ends)
    where
      assoc : (xs : List CoordRecord) → (xs ++ map commit_read sum.committed) ++ map initiation_read sum.open_attempts ≡ xs ++ behind
      assoc [] = refl
      assoc (x ∷ xs) = ap (λ rs. x ∷ rs) (assoc xs)

  has_commit_is : (g : Tid) → has_commit (map end_read ends ++ behind) g ≡ some_of (is_of g) sum.committed
  has_commit_is g = commit_ends g ends behind ∙ commit_commits g sum.committed (map initiation_read sum.open_attempts) (commit_initiations g sum.open_attempts)

  has_end_is : (g : Tid) → has_end (map end_read ends ++ behind) g ≡ some_of (is_of g) ends
  has_end_is g = end_ends g ends behind (end_others g sum.committed sum.open_attempts)

  same_open_in : (x : CommittedAttempt) (g : Tid) (b : Bool) → is_open_in sum g ≡ b → is_of g x ≡ true → not_open x ≡ not b
  same_open_in x g b e own = ap (λ t. not (is_open_in sum t)) (same_tid-equal x.tid g own) ∙ ap not e

  -- who committed and is open is awaited
  waits : (g : Tid) (ms : List Participant) (ys : List OpenAttempt)
      → Each (λ (attempt : OpenAttempt). some_of (λ (done : CommittedAttempt). same_tid done.tid attempt.tid) sum.committed ≡ true → ends_at_once (class_of attempt.participants) ≡ false) ys
      → open_in ys g ≡ Some ms → some_of (is_of g) sum.committed ≡ true → ends_at_once (class_of ms) ≡ false
  waits g ms [] h e c = cc
  waits g ms (y ∷ ys) h e c = by_own (same_tid y.tid g) refl e (waits g ms ys h.1)
    where
      by_own : (b : Bool) → same_tid y.tid g ≡ b → looked_at b y ys g ≡ Some ms → (open_in ys g ≡ Some ms → some_of (is_of g) sum.committed ≡ true → ends_at_once (class_of ms) ≡ false)
          → ends_at_once (class_of ms) ≡ false
      by_own true q f k =
          let is : y.participants ≡ ms = cc in
          subst (λ ns. ends_at_once (class_of ns) ≡ false) is
          (h.0 (subst (λ t. some_of (λ (done : CommittedAttempt). same_tid done.tid t) sum.committed ≡ true) (sym (same_tid-equal y.tid g q)) c))
      by_own false q f k = k f c

  read_open : (g : Tid) → left_open (has_end (map end_read ends ++ behind) g) (has_commit (map end_read ends ++ behind) g) (named protocols (map end_read ends ++ behind) g)
      ≡ open_in sum.open_attempts g
  read_open g =
      ap₂ (λ a b. left_open a b (named protocols (map end_read ends ++ behind) g)) (has_end_is g) (has_commit_is g)
      ∙ ap (left_open (some_of (is_of g) ends) (some_of (is_of g) sum.committed)) (named_ends protocols g ends behind)
      ∙ by_found (found_or_not g sum.open_attempts)
    where
      by_found : (some_of (λ (a : OpenAttempt). same_tid a.tid g) sum.open_attempts ≡ false) × (open_in sum.open_attempts g ≡ None)
          ⊎ (some_of (λ (a : OpenAttempt). same_tid a.tid g) sum.open_attempts ≡ true) × ((ms : List Participant) × (open_in sum.open_attempts g ≡ Some ms))
          → left_open (some_of (is_of g) ends) (some_of (is_of g) sum.committed) (named protocols behind g) ≡ open_in sum.open_attempts g
      by_found (inr (some, (ms, looked))) =
          ap₂ (λ a o. left_open a (some_of (is_of g) sum.committed) o) (left_none g not_open sum.committed (λ x own. same_open_in x g true some own))
          (named_some protocols g sum.committed (map initiation_read sum.open_attempts) ms (named_initiations protocols g sum.open_attempts ∙ looked))
          ∙ by_commit (some_of (is_of g) sum.committed) refl
          ∙ sym looked
        where
          by_commit : (c : Bool) → some_of (is_of g) sum.committed ≡ c → left_open false c (Some ms) ≡ Some ms
          by_commit false e = refl
          by_commit true e = ap (λ b. cond b None (Some ms)) (waits g ms sum.open_attempts fit.awaited looked e)
      by_found (inl (none, looked)) =
          ap (λ a. left_open a (some_of (is_of g) sum.committed) (named protocols behind g)) (left_all g not_open sum.committed (λ x own. same_open_in x g false none own))
          ∙ by_commit (some_of (is_of g) sum.committed) refl
          ∙ sym looked
        where
          by_commit : (c : Bool) → some_of (is_of g) sum.committed ≡ c → left_open c c (named protocols behind g) ≡ None
          by_commit true e = refl
          by_commit false e = named_none protocols g sum.committed (map initiation_read sum.open_attempts) (named_initiations protocols g sum.open_attempts ∙ looked) e

  open_read : StandInOrder (coord_sum_read sum) → open_with protocols [] (coord_sum_read sum) ≡ sum.open_attempts
  open_read order =
      ap (open_with protocols (let l : List OpenAttempt = [] in l)) in_parts
      ∙ same_open (open_with protocols [] (map end_read ends ++ behind)) sum.open_attempts (open_rise protocols (map end_read ends ++ behind)) fit.open_rise
      (λ g. open_is protocols g (map end_read ends ++ behind) (tidy_in_order protocols g (map end_read ends ++ behind) (subst StandInOrder in_parts order)) ∙ read_open g)

  -- the committed ones
  inserted_first : (x : CommittedAttempt) (xs : List CommittedAttempt) → Each (λ (y : CommittedAttempt). tid_before x.tid y.tid ≡ true) xs
      → inserted (λ (a b : CommittedAttempt). tid_before a.tid b.tid) x xs ≡ x ∷ xs
  inserted_first x [] h = refl
  inserted_first x (y ∷ xs) h =
      ap (λ b. cond b (y ∷ inserted (λ (a b : CommittedAttempt). tid_before a.tid b.tid) x xs) (x ∷ y ∷ xs)) (ranks_tids.one_way x.tid y.tid h.0)

  committed_ends : (xs : List CommittedAttempt) (rs : List CoordRecord) → committed_with [] (map end_read xs ++ rs) ≡ committed_with [] rs
  committed_ends [] rs = refl
  committed_ends (x ∷ xs) rs = committed_ends xs rs

  committed_none : (ys : List OpenAttempt) → committed_with [] (map initiation_read ys) ≡ []
  committed_none [] = refl
  committed_none (y ∷ ys) = committed_none ys

  committed_all : (xs : List CommittedAttempt) (rs : List CoordRecord) → RiseBy (λ (attempt : CommittedAttempt). attempt.tid) xs → committed_with [] rs ≡ []
      → committed_with [] (map commit_read xs ++ rs) ≡ xs
  committed_all [] rs h none = none
  committed_all (x ∷ xs) rs h none =
      ap (inserted (λ (a b : CommittedAttempt). tid_before a.tid b.tid) x) (committed_all xs rs h.1 none) ∙ inserted_first x xs h.0

  committed_read : committed_with [] (coord_sum_read sum) ≡ sum.committed
  committed_read =
      ap (committed_with (let l : List CommittedAttempt = [] in l)) in_parts
      ∙ committed_ends ends behind
      ∙ committed_all sum.committed (map initiation_read sum.open_attempts) fit.committed_rise (committed_none sum.open_attempts)

  pub sum_read : StandInOrder (coord_sum_read sum) → coord_sum protocols (coord_sum_read sum) ≡ sum
  sum_read order =
      ap₂ (λ (os : List OpenAttempt) (cs : List CommittedAttempt). let s : CoordSum = record { open_attempts = os; committed = cs } in s) (open_read order) committed_read
