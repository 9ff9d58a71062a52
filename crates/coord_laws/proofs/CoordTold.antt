-- What the Sum of the coordinator's records tells of one attempt, where no record of it stands behind its End, and none but an End behind its
-- Commit.
use Rattle.std.proofs.Common.{◌≡◌, suc, ◌≤◌, ◌⊎◌, Bool, true, false, cond, not, ◌&&◌, ◌||◌, Option, Some, None, List, [], ◌∷◌, refl, sym, ap, ap₂, subst, ◌∙◌, inl, inr, arith}
use Rattle.mdb_base.specs.declared.names.Tid.{Tid}
use Rattle.mdb_base.specs.Names.{same_tid, tid_before}
use Rattle.mdb_base.specs.Words.{first_where, how_many, inserted, map_some, or_else, some_of, those}
use Rattle.mdb_base.proofs.ForCallers.{same_tid-equal, same_tid-refl}
use Rattle.presumptions.specs.declared.Participant.{Participant}
use Rattle.fed_rules.specs.declared.records.CoordRecord.{CoordRecord}
use Rattle.fed_rules.specs.declared.records.CoordRecord.TheVariants.{Initiation, Commit, Abort, End, Checkpoint}
use Rattle.fed_rules.specs.declared.sums.OpenAttempt.{OpenAttempt}
use Rattle.fed_rules.specs.CoordRecords.{class_of, ends_at_once, has_commit, has_end, named, ticketed}
use Rattle.fed_rules.specs.CoordSums.{after_commit, also_open, open_with}
use Rattle.coord_laws.specs.CoordRestarts.{open_in}

-- no record of the attempt stands behind its End, none but an End behind its Commit, and an Initiation has the participants that are named
abbrev pub IsTidy : List Participant → Tid → List CoordRecord → Type 0
IsTidy protocols g [] = Unit {0}
IsTidy protocols g (Initiation t ms ∷ rs) =
    (same_tid t g ≡ true → (has_end rs g ≡ false) × (has_commit rs g ≡ false) × ((ns : List Participant) → named protocols rs g ≡ Some ns → ns ≡ ms)) × IsTidy protocols g rs
IsTidy protocols g (Commit t ks ∷ rs) = (same_tid t g ≡ true → (has_end rs g ≡ false) × (has_commit rs g ≡ false)) × IsTidy protocols g rs
IsTidy protocols g (Abort t ms ∷ rs) = (same_tid t g ≡ true → (has_end rs g ≡ false) × (has_commit rs g ≡ false)) × IsTidy protocols g rs
IsTidy protocols g (newest ∷ rs) = IsTidy protocols g rs

abbrev pub is_of : Tid → OpenAttempt → Bool
is_of g attempt = same_tid attempt.tid g

abbrev pub rises : OpenAttempt → OpenAttempt → Bool
rises a b = tid_before a.tid b.tid

-- another attempt's entry changes nothing, wherever it is put
other_inserted : (g : Tid) (x : OpenAttempt) (ys : List OpenAttempt) → is_of g x ≡ false → open_in (inserted rises x ys) g ≡ open_in ys g
other_inserted g x [] e = ap (λ b. map_some (λ (a : OpenAttempt). a.participants) (cond b (Some x) None)) e
other_inserted g x (y ∷ ys) e = by_test (rises y x) (other_inserted g x ys e)
  where
    by_test : (b : Bool) → open_in (inserted rises x ys) g ≡ open_in ys g → open_in (cond b (y ∷ inserted rises x ys) (x ∷ y ∷ ys)) g ≡ open_in (y ∷ ys) g
    by_test false h = ap (λ c. map_some (λ (a : OpenAttempt). a.participants) (cond c (Some x) (first_where (is_of g) (y ∷ ys)))) e
    by_test true h = by_own (is_of g y) h
      where
        by_own : (c : Bool) → open_in (inserted rises x ys) g ≡ open_in ys g
            → map_some (λ (a : OpenAttempt). a.participants) (cond c (Some y) (first_where (is_of g) (inserted rises x ys)))
            ≡ map_some (λ (a : OpenAttempt). a.participants) (cond c (Some y) (first_where (is_of g) ys))
        by_own true k = refl
        by_own false k = k

-- the attempt's own entry is found, where there was none
own_inserted : (g : Tid) (x : OpenAttempt) (ys : List OpenAttempt) → is_of g x ≡ true → some_of (is_of g) ys ≡ false → open_in (inserted rises x ys) g ≡ Some x.participants
own_inserted g x [] e none = ap (λ b. map_some (λ (a : OpenAttempt). a.participants) (cond b (Some x) None)) e
own_inserted g x (y ∷ ys) e none = by_test (rises y x) (is_of g y) refl none (own_inserted g x ys e)
  where
    by_test : (b c : Bool) → is_of g y ≡ c → (c || some_of (is_of g) ys) ≡ false → (some_of (is_of g) ys ≡ false → open_in (inserted rises x ys) g ≡ Some x.participants)
        → open_in (cond b (y ∷ inserted rises x ys) (x ∷ y ∷ ys)) g ≡ Some x.participants
    by_test b true q f k = cc
    by_test false false q f k = ap (λ d. map_some (λ (a : OpenAttempt). a.participants) (cond d (Some x) (first_where (is_of g) (y ∷ ys)))) e
    by_test true false q f k = ap (λ d. map_some (λ (a : OpenAttempt). a.participants) (cond d (Some y) (first_where (is_of g) (inserted rises x ys)))) q ∙ k f

-- whether it is open is whether it is found
pub found_or_not : (g : Tid) (xs : List OpenAttempt) → (some_of (is_of g) xs ≡ false) × (open_in xs g ≡ None) ⊎ (some_of (is_of g) xs ≡ true) × ((ms : List Participant) × (open_in xs g ≡ Some ms))
found_or_not g [] = inl (refl, refl)
found_or_not g (x ∷ xs) = by_test (is_of g x) (found_or_not g xs)
  where
    by_test : (b : Bool) → (some_of (is_of g) xs ≡ false) × (open_in xs g ≡ None) ⊎ (some_of (is_of g) xs ≡ true) × ((ms : List Participant) × (open_in xs g ≡ Some ms))
        → ((b || some_of (is_of g) xs) ≡ false) × (map_some (λ (a : OpenAttempt). a.participants) (cond b (Some x) (first_where (is_of g) xs)) ≡ None)
        ⊎ ((b || some_of (is_of g) xs) ≡ true) × ((ms : List Participant) × (map_some (λ (a : OpenAttempt). a.participants) (cond b (Some x) (first_where (is_of g) xs)) ≡ Some ms))
    by_test true h = inr (refl, (x.participants, refl))
    by_test false h = h

own_opened : (g t : Tid) (ms : List Participant) (xs : List OpenAttempt) → same_tid t g ≡ true → open_in (also_open t ms xs) g ≡ Some (or_else (open_in xs g) ms)
own_opened g t ms xs e =
    subst (λ (u : Tid). open_in (also_open u ms xs) g ≡ Some (or_else (open_in xs g) ms)) (sym (same_tid-equal t g e)) (by_found (found_or_not g xs))
  where
    entry : OpenAttempt
    entry = record { tid = g; participants = ms }

    by_found : (some_of (is_of g) xs ≡ false) × (open_in xs g ≡ None) ⊎ (some_of (is_of g) xs ≡ true) × ((ns : List Participant) × (open_in xs g ≡ Some ns))
        → open_in (also_open g ms xs) g ≡ Some (or_else (open_in xs g) ms)
    by_found (inl (none, looked)) =
        ap (λ b. open_in (cond b xs (inserted rises entry xs)) g) none ∙ own_inserted g entry xs (same_tid-refl g) none ∙ ap (λ o. Some (or_else o ms)) (sym looked)
    by_found (inr (some, (ns, looked))) = ap (λ b. open_in (cond b xs (inserted rises entry xs)) g) some ∙ looked ∙ ap (λ o. Some (or_else o ms)) (sym looked)

other_opened : (g t : Tid) (ms : List Participant) (xs : List OpenAttempt) → same_tid t g ≡ false → open_in (also_open t ms xs) g ≡ open_in xs g
other_opened g t ms xs e = by_test (some_of (λ attempt. same_tid attempt.tid t) xs)
  where
    by_test : (b : Bool) → open_in (cond b xs (inserted rises (record { tid = t; participants = ms }) xs)) g ≡ open_in xs g
    by_test true = refl
    by_test false = other_inserted g (record { tid = t; participants = ms }) xs e

-- leaving out entries of other attempts changes nothing, and leaving out all of its own leaves none
left_out : (g : Tid) (test : OpenAttempt → Bool) (xs : List OpenAttempt) → ((x : OpenAttempt) → is_of g x ≡ true → test x ≡ true) → open_in (those test xs) g ≡ open_in xs g
left_out g test [] own = refl
left_out g test (x ∷ xs) own = by_test (is_of g x) refl (test x) refl (left_out g test xs own)
  where
    by_test : (b : Bool) → is_of g x ≡ b → (c : Bool) → test x ≡ c → open_in (those test xs) g ≡ open_in xs g
        → open_in (cond c (x ∷ those test xs) (those test xs)) g ≡ map_some (λ (a : OpenAttempt). a.participants) (cond b (Some x) (first_where (is_of g) xs))
    by_test true e true f h = ap (λ b. map_some (λ (a : OpenAttempt). a.participants) (cond b (Some x) (first_where (is_of g) (those test xs)))) e
    by_test true e false f h = let kept : true ≡ false = sym (own x e) ∙ f in cc
    by_test false e true f h = ap (λ b. map_some (λ (a : OpenAttempt). a.participants) (cond b (Some x) (first_where (is_of g) (those test xs)))) e ∙ h
    by_test false e false f h = h

all_left_out : (g : Tid) (test : OpenAttempt → Bool) (xs : List OpenAttempt) → ((x : OpenAttempt) → is_of g x ≡ true → test x ≡ false) → open_in (those test xs) g ≡ None
all_left_out g test [] own = refl
all_left_out g test (x ∷ xs) own = by_test (is_of g x) refl (test x) refl (all_left_out g test xs own)
  where
    by_test : (b : Bool) → is_of g x ≡ b → (c : Bool) → test x ≡ c → open_in (those test xs) g ≡ None → open_in (cond c (x ∷ those test xs) (those test xs)) g ≡ None
    by_test b e false f h = h
    by_test true e true f h = let left : true ≡ false = sym f ∙ own x e in cc
    by_test false e true f h = ap (λ d. map_some (λ (a : OpenAttempt). a.participants) (cond d (Some x) (first_where (is_of g) (those test xs)))) e ∙ h

-- an attempt has one entry at most
abbrev pub Once : Tid → List OpenAttempt → Type 0
Once g xs = how_many (is_of g) xs ≤ 1

count_inserted : (g : Tid) (x : OpenAttempt) (ys : List OpenAttempt) → how_many (is_of g) (inserted rises x ys) ≡ cond (is_of g x) (suc (how_many (is_of g) ys)) (how_many (is_of g) ys)
count_inserted g x [] = refl
count_inserted g x (y ∷ ys) = by_test (rises y x) (count_inserted g x ys)
  where
    by_own : (c d : Bool) → how_many (is_of g) (inserted rises x ys) ≡ cond c (suc (how_many (is_of g) ys)) (how_many (is_of g) ys)
        → cond d (suc (how_many (is_of g) (inserted rises x ys))) (how_many (is_of g) (inserted rises x ys))
        ≡ cond c (suc (cond d (suc (how_many (is_of g) ys)) (how_many (is_of g) ys))) (cond d (suc (how_many (is_of g) ys)) (how_many (is_of g) ys))
    by_own true true h = ap suc h
    by_own true false h = h
    by_own false true h = ap suc h
    by_own false false h = h

    by_test : (b : Bool) → how_many (is_of g) (inserted rises x ys) ≡ cond (is_of g x) (suc (how_many (is_of g) ys)) (how_many (is_of g) ys)
        → how_many (is_of g) (cond b (y ∷ inserted rises x ys) (x ∷ y ∷ ys))
        ≡ cond (is_of g x) (suc (cond (is_of g y) (suc (how_many (is_of g) ys)) (how_many (is_of g) ys))) (cond (is_of g y) (suc (how_many (is_of g) ys)) (how_many (is_of g) ys))
    by_test false h = refl
    by_test true h = by_own (is_of g x) (is_of g y) h

count_none : (g : Tid) (xs : List OpenAttempt) → some_of (is_of g) xs ≡ false → how_many (is_of g) xs ≡ 0
count_none g [] e = refl
count_none g (x ∷ xs) e = by_test (is_of g x) e (count_none g xs)
  where
    by_test : (b : Bool) → (b || some_of (is_of g) xs) ≡ false → (some_of (is_of g) xs ≡ false → how_many (is_of g) xs ≡ 0) → cond b (suc (how_many (is_of g) xs)) (how_many (is_of g) xs) ≡ 0
    by_test true f k = cc
    by_test false f k = k f

count_those : (g : Tid) (test : OpenAttempt → Bool) (xs : List OpenAttempt) → how_many (is_of g) (those test xs) ≤ how_many (is_of g) xs
count_those g test [] = omega arith
count_those g test (x ∷ xs) = by_test (test x) (is_of g x) (count_those g test xs)
  where
    by_test : (b c : Bool) → how_many (is_of g) (those test xs) ≤ how_many (is_of g) xs
        → how_many (is_of g) (cond b (x ∷ those test xs) (those test xs)) ≤ cond (is_of g x) (suc (how_many (is_of g) xs)) (how_many (is_of g) xs)
    by_test true c h = by_own (is_of g x) h
      where
        by_own : (d : Bool) → how_many (is_of g) (those test xs) ≤ how_many (is_of g) xs
            → cond d (suc (how_many (is_of g) (those test xs))) (how_many (is_of g) (those test xs)) ≤ cond d (suc (how_many (is_of g) xs)) (how_many (is_of g) xs)
        by_own true k = omega (arith, k)
        by_own false k = k
    by_test false c h = by_own (is_of g x) h
      where
        by_own : (d : Bool) → how_many (is_of g) (those test xs) ≤ how_many (is_of g) xs → how_many (is_of g) (those test xs) ≤ cond d (suc (how_many (is_of g) xs)) (how_many (is_of g) xs)
        by_own true k = omega (arith, k)
        by_own false k = k

once_opened : (g t : Tid) (ms : List Participant) (xs : List OpenAttempt) → Once g xs → Once g (also_open t ms xs)
once_opened g t ms xs h = by_test (some_of (λ (a : OpenAttempt). same_tid a.tid t) xs) refl
  where
    entry : OpenAttempt
    entry = record { tid = t; participants = ms }

    by_test : (b : Bool) → some_of (λ (a : OpenAttempt). same_tid a.tid t) xs ≡ b → Once g (cond b xs (inserted rises entry xs))
    by_test true e = h
    by_test false e = by_own (same_tid t g) refl (count_inserted g entry xs)
      where
        by_own : (c : Bool) → same_tid t g ≡ c → how_many (is_of g) (inserted rises entry xs) ≡ cond (same_tid t g) (suc (how_many (is_of g) xs)) (how_many (is_of g) xs) → Once g (inserted rises entry xs)
        by_own true q counted =
            let none = count_none g xs (subst (λ u. some_of (λ (a : OpenAttempt). same_tid a.tid u) xs ≡ false) (same_tid-equal t g q) e) in
            let one = counted ∙ ap (λ c. cond c (suc (how_many (is_of g) xs)) (how_many (is_of g) xs)) q in omega (arith, none, one)
        by_own false q counted = let same = counted ∙ ap (λ c. cond c (suc (how_many (is_of g) xs)) (how_many (is_of g) xs)) q in omega (arith, same, h)

pub once_open : (protocols : List Participant) (g : Tid) (rs : List CoordRecord) → Once g (open_with protocols [] rs)
once_open protocols g [] = omega arith
once_open protocols g (Initiation t ms ∷ rs) = once_opened g t ms (open_with protocols [] rs) (once_open protocols g rs)
once_open protocols g (Commit t ks ∷ rs) =
    let opened = once_opened g t (ticketed protocols ks) (open_with protocols [] rs) (once_open protocols g rs) in
    let less = count_those g (λ attempt. not (same_tid attempt.tid t && ends_at_once (class_of attempt.participants))) (also_open t (ticketed protocols ks) (open_with protocols [] rs)) in
    omega (arith, opened, less)
once_open protocols g (Abort t ms ∷ rs) = once_opened g t ms (open_with protocols [] rs) (once_open protocols g rs)
once_open protocols g (End t ∷ rs) =
    let old = once_open protocols g rs in
    let less = count_those g (λ attempt. not (same_tid attempt.tid t)) (open_with protocols [] rs) in omega (arith, old, less)
once_open protocols g (Checkpoint sum ∷ rs) = once_open protocols g rs

-- what a commit that is forgotten at once leaves of the participants
abbrev pub unless_ended : Option (List Participant) → Option (List Participant)
unless_ended None = None
unless_ended (Some ms) = cond (ends_at_once (class_of ms)) None (Some ms)

-- what is open of an attempt, by whether it ended, whether it committed, and who is named
abbrev pub left_open : Bool → Bool → Option (List Participant) → Option (List Participant)
left_open true committed some = None
left_open false true some = unless_ended some
left_open false false some = some

-- the entry of a committed attempt is left out where it is forgotten at once
own_committed : (g t : Tid) (xs : List OpenAttempt) → same_tid t g ≡ true → Once g xs → open_in (after_commit t xs) g ≡ unless_ended (open_in xs g)
own_committed g t xs e once =
    subst (λ (u : Tid). open_in (after_commit u xs) g ≡ unless_ended (open_in xs g)) (sym (same_tid-equal t g e)) (kept xs once)
  where
    test : OpenAttempt → Bool
    test attempt = not (same_tid attempt.tid g && ends_at_once (class_of attempt.participants))

    none_more : (ys : List OpenAttempt) → how_many (is_of g) ys ≤ 0 → open_in (those (λ attempt. not (same_tid attempt.tid g && ends_at_once (class_of attempt.participants))) ys) g ≡ None
    none_more [] h = refl
    none_more (y ∷ ys) h = by_own (is_of g y) refl h (none_more ys)
      where
        by_own : (b : Bool) → is_of g y ≡ b → cond b (suc (how_many (is_of g) ys)) (how_many (is_of g) ys) ≤ 0
            → (how_many (is_of g) ys ≤ 0 → open_in (those (λ attempt. not (same_tid attempt.tid g && ends_at_once (class_of attempt.participants))) ys) g ≡ None)
            → open_in (cond (not (same_tid y.tid g && ends_at_once (class_of y.participants))) (y ∷ those (λ attempt. not (same_tid attempt.tid g && ends_at_once (class_of attempt.participants))) ys) (those (λ attempt. not (same_tid attempt.tid g && ends_at_once (class_of attempt.participants))) ys)) g ≡ None
        by_own true q k rest = absurd (omega (arith, k))
        by_own false q k rest =
            ap (λ c. open_in (cond (not (c && ends_at_once (class_of y.participants))) (y ∷ those (λ attempt. not (same_tid attempt.tid g && ends_at_once (class_of attempt.participants))) ys) (those (λ attempt. not (same_tid attempt.tid g && ends_at_once (class_of attempt.participants))) ys)) g) q
            ∙ ap (λ c. map_some (λ (a : OpenAttempt). a.participants) (cond c (Some y) (first_where (is_of g) (those (λ attempt. not (same_tid attempt.tid g && ends_at_once (class_of attempt.participants))) ys)))) q
            ∙ rest k

    kept : (ys : List OpenAttempt) → how_many (is_of g) ys ≤ 1 → open_in (after_commit g ys) g ≡ unless_ended (open_in ys g)
    kept [] h = refl
    kept (y ∷ ys) h = by_own (is_of g y) refl h (kept ys)
      where
        by_own : (b : Bool) → is_of g y ≡ b → cond b (suc (how_many (is_of g) ys)) (how_many (is_of g) ys) ≤ 1
            → (how_many (is_of g) ys ≤ 1 → open_in (after_commit g ys) g ≡ unless_ended (open_in ys g))
            → open_in (after_commit g (y ∷ ys)) g ≡ unless_ended (open_in (y ∷ ys) g)
        by_own false q k rest =
            ap (λ c. open_in (cond (not (c && ends_at_once (class_of y.participants))) (y ∷ after_commit g ys) (after_commit g ys)) g) q
            ∙ ap (λ c. map_some (λ (a : OpenAttempt). a.participants) (cond c (Some y) (first_where (is_of g) (after_commit g ys)))) q
            ∙ rest k
            ∙ ap unless_ended (sym (ap (λ c. map_some (λ (a : OpenAttempt). a.participants) (cond c (Some y) (first_where (is_of g) ys))) q))
        by_own true q k rest =
            ap (λ c. open_in (cond (not (c && ends_at_once (class_of y.participants))) (y ∷ after_commit g ys) (after_commit g ys)) g) q
            ∙ by_end (ends_at_once (class_of y.participants)) refl
            ∙ ap unless_ended (sym (ap (λ c. map_some (λ (a : OpenAttempt). a.participants) (cond c (Some y) (first_where (is_of g) ys))) q))
          where
            by_end : (c : Bool) → ends_at_once (class_of y.participants) ≡ c
                → open_in (cond (not c) (y ∷ after_commit g ys) (after_commit g ys)) g ≡ cond (ends_at_once (class_of y.participants)) None (Some y.participants)
            by_end true f = none_more ys (omega (arith, k)) ∙ sym (ap (λ d. cond d None (Some y.participants)) f)
            by_end false f =
                ap (λ d. map_some (λ (a : OpenAttempt). a.participants) (cond d (Some y) (first_where (is_of g) (after_commit g ys)))) q
                ∙ sym (ap (λ d. cond d None (Some y.participants)) f)

-- so the open attempts tell who is named of those that haven't ended
pub open_is : (protocols : List Participant) (g : Tid) (rs : List CoordRecord) → IsTidy protocols g rs
    → open_in (open_with protocols [] rs) g ≡ left_open (has_end rs g) (has_commit rs g) (named protocols rs g)
open_is protocols g [] t = refl
open_is protocols g (Checkpoint sum ∷ rs) t = open_is protocols g rs t
open_is protocols g (Initiation u ms ∷ rs) t = by_own (same_tid u g) refl (open_is protocols g rs t.1)
  where
    old : List OpenAttempt
    old = open_with protocols [] rs

    by_own : (b : Bool) → same_tid u g ≡ b → open_in (open_with protocols [] rs) g ≡ left_open (has_end rs g) (has_commit rs g) (named protocols rs g)
        → open_in (also_open u ms (open_with protocols [] rs)) g ≡ left_open (has_end rs g) (has_commit rs g) (cond (same_tid u g) (Some ms) (named protocols rs g))
    by_own false q h = other_opened g u ms (open_with protocols [] rs) q ∙ h ∙ sym (ap (λ b. left_open (has_end rs g) (has_commit rs g) (cond b (Some ms) (named protocols rs g))) q)
    by_own true q h =
        let (ended, committed, names) = t.0 q in
        own_opened g u ms (open_with protocols [] rs) q
        ∙ ap (λ o. Some (or_else o ms)) (h ∙ ap₂ (λ a b. left_open a b (named protocols rs g)) ended committed)
        ∙ by_named (named protocols rs g) (t.0 q).2
        ∙ sym (ap₂ (λ a b. left_open a b (cond (same_tid u g) (Some ms) (named protocols rs g))) ended committed ∙ ap (λ b. cond b (Some ms) (named protocols rs g)) q)
      where
        by_named : (o : Option (List Participant)) → ((ns : List Participant) → o ≡ Some ns → ns ≡ ms) → Some (or_else o ms) ≡ Some ms
        by_named None same = refl
        by_named (Some ns) same = ap (λ (ks : List Participant). Some ks) (same ns refl)
open_is protocols g (Abort u ms ∷ rs) t = by_own (same_tid u g) refl (open_is protocols g rs t.1)
  where
    by_own : (b : Bool) → same_tid u g ≡ b → open_in (open_with protocols [] rs) g ≡ left_open (has_end rs g) (has_commit rs g) (named protocols rs g)
        → open_in (also_open u ms (open_with protocols [] rs)) g
        ≡ left_open (has_end rs g) (has_commit rs g) (cond (same_tid u g) (Some (or_else (named protocols rs g) ms)) (named protocols rs g))
    by_own false q h =
        other_opened g u ms (open_with protocols [] rs) q ∙ h
        ∙ sym (ap (λ b. left_open (has_end rs g) (has_commit rs g) (cond b (Some (or_else (named protocols rs g) ms)) (named protocols rs g))) q)
    by_own true q h =
        let (ended, committed) = t.0 q in
        own_opened g u ms (open_with protocols [] rs) q
        ∙ ap (λ o. Some (or_else o ms)) (h ∙ ap₂ (λ a b. left_open a b (named protocols rs g)) ended committed)
        ∙ sym (ap₂ (λ a b. left_open a b (cond (same_tid u g) (Some (or_else (named protocols rs g) ms)) (named protocols rs g))) ended committed
        ∙ ap (λ b. cond b (Some (or_else (named protocols rs g) ms)) (named protocols rs g)) q)
open_is protocols g (End u ∷ rs) t = by_own (same_tid u g) refl (open_is protocols g rs t)
  where
    by_own : (b : Bool) → same_tid u g ≡ b → open_in (open_with protocols [] rs) g ≡ left_open (has_end rs g) (has_commit rs g) (named protocols rs g)
        → open_in (those (λ attempt. not (same_tid attempt.tid u)) (open_with protocols [] rs)) g
        ≡ left_open (cond (same_tid u g) true (has_end rs g)) (has_commit rs g) (named protocols rs g)
    by_own true q h =
        all_left_out g (λ attempt. not (same_tid attempt.tid u)) (open_with protocols [] rs)
        (λ x e. ap not (subst (λ v. same_tid x.tid v ≡ true) (sym (same_tid-equal u g q)) e))
        ∙ sym (ap (λ b. left_open (cond b true (has_end rs g)) (has_commit rs g) (named protocols rs g)) q)
    by_own false q h =
        left_out g (λ attempt. not (same_tid attempt.tid u)) (open_with protocols [] rs) (λ x e. other x e (same_tid x.tid u) refl) ∙ h
        ∙ sym (ap (λ b. left_open (cond b true (has_end rs g)) (has_commit rs g) (named protocols rs g)) q)
      where
        other : (x : OpenAttempt) → is_of g x ≡ true → (b : Bool) → same_tid x.tid u ≡ b → not (same_tid x.tid u) ≡ true
        other x e false f = ap not f
        other x e true f =
            let one : u ≡ g = sym (same_tid-equal x.tid u f) ∙ same_tid-equal x.tid g e in
            let no_more : true ≡ false = sym (subst (λ v. same_tid u v ≡ true) one (same_tid-refl u)) ∙ q in cc
open_is protocols g (Commit u ks ∷ rs) t = by_own (same_tid u g) refl (open_is protocols g rs t.1)
  where
    by_own : (b : Bool) → same_tid u g ≡ b → open_in (open_with protocols [] rs) g ≡ left_open (has_end rs g) (has_commit rs g) (named protocols rs g)
        → open_in (after_commit u (also_open u (ticketed protocols ks) (open_with protocols [] rs))) g
        ≡ left_open (has_end rs g) (cond (same_tid u g) true (has_commit rs g)) (cond (same_tid u g) (Some (or_else (named protocols rs g) (ticketed protocols ks))) (named protocols rs g))
    by_own false q h =
        left_out g (λ attempt. not (same_tid attempt.tid u && ends_at_once (class_of attempt.participants))) (also_open u (ticketed protocols ks) (open_with protocols [] rs))
        (λ x e. other x e (same_tid x.tid u) refl)
        ∙ other_opened g u (ticketed protocols ks) (open_with protocols [] rs) q ∙ h
        ∙ sym (ap (λ b. left_open (has_end rs g) (cond b true (has_commit rs g)) (cond b (Some (or_else (named protocols rs g) (ticketed protocols ks))) (named protocols rs g))) q)
      where
        other : (x : OpenAttempt) → is_of g x ≡ true → (b : Bool) → same_tid x.tid u ≡ b → not (same_tid x.tid u && ends_at_once (class_of x.participants)) ≡ true
        other x e false f = ap (λ b. not (b && ends_at_once (class_of x.participants))) f
        other x e true f =
            let one : u ≡ g = sym (same_tid-equal x.tid u f) ∙ same_tid-equal x.tid g e in
            let no_more : true ≡ false = sym (subst (λ v. same_tid u v ≡ true) one (same_tid-refl u)) ∙ q in cc
    by_own true q h =
        let (ended, committed) = t.0 q in
        own_committed g u (also_open u (ticketed protocols ks) (open_with protocols [] rs)) q (once_opened g u (ticketed protocols ks) (open_with protocols [] rs) (once_open protocols g rs))
        ∙ ap unless_ended (own_opened g u (ticketed protocols ks) (open_with protocols [] rs) q
        ∙ ap (λ o. Some (or_else o (ticketed protocols ks))) (h ∙ ap₂ (λ a b. left_open a b (named protocols rs g)) ended committed))
        ∙ sym (ap (λ a. left_open a (cond (same_tid u g) true (has_commit rs g)) (cond (same_tid u g) (Some (or_else (named protocols rs g) (ticketed protocols ks))) (named protocols rs g))) ended
        ∙ ap (λ b. left_open false (cond b true (has_commit rs g)) (cond b (Some (or_else (named protocols rs g) (ticketed protocols ks))) (named protocols rs g))) q)
