-- What newer records say behind older ones, and behind a Checkpoint of these.
use Rattle.fed_rules.proofs.ForCallers.{carried_none, in_each}
use Rattle.engine_laws.proofs.ForCallers.{doubt_among, doubt_tid, each_by_tid}
use Rattle.std.proofs.Common.{◌≡◌, ℕ, ◌⊎◌, max, Bool, true, false, cond, Option, Some, None, List, [], ◌∷◌, ◌++◌, refl, sym, ap, ap₂, ◌∙◌, subst, inl, inr, arith, ltb-true, ltb-false, lt-ltb, le-ltb}
use Rattle.std.specs.Prelude.{nat_lt}
use Rattle.mdb_base.specs.declared.names.Tid.{Tid}
use Rattle.mdb_base.specs.declared.rows.Put.{Put}
use Rattle.mdb_base.specs.Names.{same_tid, tid_before}
use Rattle.mdb_base.specs.Rows.{with_rows}
use Rattle.mdb_base.specs.Words.{Each, Among, found, with_some, inserted}
use Rattle.mdb_base.proofs.ForCallers.{each_inserted, same_tid-equal, same_tid-refl}
use Rattle.presumptions.specs.declared.Decision.TheVariants as Decided
use Rattle.fed_rules.specs.declared.records.SiteRecord.{SiteRecord}
use Rattle.fed_rules.specs.declared.records.SiteRecord.TheVariants.{Setup, Start, Prepared, Ended, Local, Checkpoint}
use Rattle.fed_rules.specs.SiteRecords.{Held, Install, by_number, doubt_of, prepared_tids, doubts, by_tid, held_before, install_held, installs, last_number, last_ticket, rows_after, ticket_owner}
use Rattle.fed_rules.specs.SiteSums.{carried, epoch_with, locals_with}
use Rattle.site_history.specs.Sums.{StaysBelow, HeldComes, ComeInOrder}
use Rattle.site_history.proofs.RowsOnTop.{rows_on_top}
use Rattle.fed_rules.specs.Attempts.{each_attempt}

pub epoch_behind : (e : ℕ) (newer older : List SiteRecord) → epoch_with (epoch_with e older) newer ≡ epoch_with e (newer ++ older)
epoch_behind e [] older = refl
epoch_behind e (Start n ∷ newer) older = refl
epoch_behind e (Setup site engine protocol items ∷ newer) older = epoch_behind e newer older
epoch_behind e (Prepared t n number ticket writes ∷ newer) older = epoch_behind e newer older
epoch_behind e (Ended t d ∷ newer) older = epoch_behind e newer older
epoch_behind e (Local t n writes ∷ newer) older = epoch_behind e newer older
epoch_behind e (Checkpoint sum ∷ newer) older = epoch_behind e newer older

pub locals_behind : (tids : List Tid) (newer older : List SiteRecord) → locals_with (locals_with tids older) newer ≡ locals_with tids (newer ++ older)
locals_behind tids [] older = refl
locals_behind tids (Local t n writes ∷ newer) older = ap (inserted tid_before t) (locals_behind tids newer older)
locals_behind tids (Start n ∷ newer) older = locals_behind tids newer older
locals_behind tids (Setup site engine protocol items ∷ newer) older = locals_behind tids newer older
locals_behind tids (Prepared t n number ticket writes ∷ newer) older = locals_behind tids newer older
locals_behind tids (Ended t d ∷ newer) older = locals_behind tids newer older
locals_behind tids (Checkpoint sum ∷ newer) older = locals_behind tids newer older

max_over : (a b c : ℕ) → max (max a b) c ≡ max a (max b c)
max_over a b c = omega arith

pub number_behind : (newer older : List SiteRecord) → max (last_number newer) (last_number older) ≡ last_number (newer ++ older)
number_behind [] older = omega arith
number_behind (Local t n writes ∷ newer) older = max_over n (last_number newer) (last_number older) ∙ ap (max n) (number_behind newer older)
number_behind (Prepared t e n ticket writes ∷ newer) older = max_over n (last_number newer) (last_number older) ∙ ap (max n) (number_behind newer older)
number_behind (Start n ∷ newer) older = number_behind newer older
number_behind (Setup site engine protocol items ∷ newer) older = number_behind newer older
number_behind (Ended t d ∷ newer) older = number_behind newer older
number_behind (Checkpoint sum ∷ newer) older = number_behind newer older

pub ticket_behind : (newer older : List SiteRecord) → max (last_ticket newer) (last_ticket older) ≡ last_ticket (newer ++ older)
ticket_behind [] older = omega arith
ticket_behind (Prepared t e n ticket writes ∷ newer) older = max_over ticket (last_ticket newer) (last_ticket older) ∙ ap (max ticket) (ticket_behind newer older)
ticket_behind (Local t n writes ∷ newer) older = ticket_behind newer older
ticket_behind (Start n ∷ newer) older = ticket_behind newer older
ticket_behind (Setup site engine protocol items ∷ newer) older = ticket_behind newer older
ticket_behind (Ended t d ∷ newer) older = ticket_behind newer older
ticket_behind (Checkpoint sum ∷ newer) older = ticket_behind newer older

-- the owner of the published ticket
abbrev owner_with : ℕ → Option Tid → List SiteRecord → Option Tid
owner_with published owner newer = cond (nat_lt published (last_ticket newer)) (ticket_owner newer) owner

pub owner_behind : (newer older : List SiteRecord)
    → cond (nat_lt (last_ticket older) (last_ticket newer)) (ticket_owner newer) (ticket_owner older) ≡ ticket_owner (newer ++ older)
owner_behind [] older = ap (λ b. cond b None (ticket_owner older)) (le-ltb (last_ticket older) 0 (omega arith))
owner_behind (Prepared t e n ticket writes ∷ newer) older =
    by_tests (nat_lt (last_ticket newer) ticket) (nat_lt (last_ticket older) (last_ticket newer)) (nat_lt (last_ticket older) ticket) refl refl refl (owner_behind newer older)
  where
    all : last_ticket (newer ++ older) ≡ max (last_ticket newer) (last_ticket older)
    all = sym (ticket_behind newer older)

    by_tests : (a b c : Bool) → nat_lt (last_ticket newer) ticket ≡ a → nat_lt (last_ticket older) (last_ticket newer) ≡ b → nat_lt (last_ticket older) ticket ≡ c
        → cond b (ticket_owner newer) (ticket_owner older) ≡ ticket_owner (newer ++ older)
        → cond (nat_lt (last_ticket older) (max ticket (last_ticket newer))) (cond a (Some t) (ticket_owner newer)) (ticket_owner older)
        ≡ cond (nat_lt (last_ticket (newer ++ older)) ticket) (Some t) (ticket_owner (newer ++ older))
    by_tests true b true x y z rest =
        let p = ltb-true _ _ x in
        let q = ltb-true _ _ z in
        let over : nat_lt (last_ticket older) (max ticket (last_ticket newer)) ≡ true = lt-ltb _ _ (omega (arith, q)) in
        let last : nat_lt (last_ticket (newer ++ older)) ticket ≡ true = lt-ltb _ _ (omega (arith, p, q, all)) in cc
    by_tests true false false x y z rest =
        let q = ltb-false _ _ z in
        let r = ltb-false _ _ y in
        let over : nat_lt (last_ticket older) (max ticket (last_ticket newer)) ≡ false = le-ltb _ _ (omega (arith, q, r)) in
        let last : nat_lt (last_ticket (newer ++ older)) ticket ≡ false = le-ltb _ _ (omega (arith, q, all)) in cc
    by_tests true true false x y z rest =
        let p = ltb-true _ _ x in
        let q = ltb-false _ _ z in
        let r = ltb-true _ _ y in
        let no : ⊥ = omega (arith, p, q, r) in absurd no
    by_tests false true c x y z rest =
        let p = ltb-false _ _ x in
        let r = ltb-true _ _ y in
        let over : nat_lt (last_ticket older) (max ticket (last_ticket newer)) ≡ true = lt-ltb _ _ (omega (arith, r)) in
        let last : nat_lt (last_ticket (newer ++ older)) ticket ≡ false = le-ltb _ _ (omega (arith, p, all)) in cc
    by_tests false false c x y z rest =
        let p = ltb-false _ _ x in
        let r = ltb-false _ _ y in
        let over : nat_lt (last_ticket older) (max ticket (last_ticket newer)) ≡ false = le-ltb _ _ (omega (arith, p, r)) in
        let last : nat_lt (last_ticket (newer ++ older)) ticket ≡ false = le-ltb _ _ (omega (arith, p, all)) in cc
owner_behind (Local t n writes ∷ newer) older = owner_behind newer older
owner_behind (Start n ∷ newer) older = owner_behind newer older
owner_behind (Setup site engine protocol items ∷ newer) older = owner_behind newer older
owner_behind (Ended t d ∷ newer) older = owner_behind newer older
owner_behind (Checkpoint sum ∷ newer) older = owner_behind newer older

-- each of these is the one in doubt of its attempt
abbrev pub AreDoubts : List SiteRecord → List Held → Type 0
AreDoubts older helds = Each (λ held. doubt_of older held.tid ≡ Some held) helds

pub carried_doubt : (older : List SiteRecord) (helds : List Held) (tid : Tid) → AreDoubts older helds
    → Among (λ held. held.tid ≡ tid) helds ⊎ (doubt_of older tid ≡ None) → doubt_of (carried helds) tid ≡ doubt_of older tid
carried_doubt older [] tid are (inl a) = elim a [ ]
carried_doubt older [] tid are (inr none) = sym none
carried_doubt older (held ∷ helds) tid are among = by_test (same_tid held.tid tid) refl among (carried_doubt older helds tid are.1)
  where
    by_test : (b : Bool) → same_tid held.tid tid ≡ b → Among (λ h. h.tid ≡ tid) (held ∷ helds) ⊎ (doubt_of older tid ≡ None)
        → (Among (λ h. h.tid ≡ tid) helds ⊎ (doubt_of older tid ≡ None) → doubt_of (carried helds) tid ≡ doubt_of older tid)
        → cond b (Some held) (doubt_of (carried helds) tid) ≡ doubt_of older tid
    by_test true is among rest = sym are.0 ∙ ap (doubt_of older) (same_tid-equal held.tid tid is)
    by_test false is (inl (inl same)) rest = let one : same_tid held.tid tid ≡ true = subst (λ t. same_tid held.tid t ≡ true) same (same_tid-refl held.tid) in cc
    by_test false is (inl (inr more)) rest = rest (inl more)
    by_test false is (inr none) rest = rest (inr none)

pub found_doubts : (older : List SiteRecord) (tids : List Tid) → AreDoubts older (found (doubt_of older) tids)
found_doubts older [] = tt
found_doubts older (t ∷ tids) = by_held (doubt_of older t) refl (found_doubts older tids)
  where
    by_held : (o : Option Held) → doubt_of older t ≡ o → AreDoubts older (found (doubt_of older) tids) → AreDoubts older (with_some o (found (doubt_of older) tids))
    by_held None e rest = rest
    by_held (Some held) e rest = (ap (doubt_of older) (doubt_tid older t held e) ∙ e, rest)

pub among_inserted : (P : Held → Type 0) (held : Held) (helds : List Held) → P held ⊎ Among P helds → Among P (inserted held_before held helds)
among_inserted P held [] (inl p) = inl p
among_inserted P held [] (inr a) = elim a [ ]
among_inserted P held (y ∷ helds) a = by_test (held_before y held) a (among_inserted P held helds)
  where
    by_test : (b : Bool) → P held ⊎ Among P (y ∷ helds) → (P held ⊎ Among P helds → Among P (inserted held_before held helds))
        → Among P (cond b (y ∷ inserted held_before held helds) (held ∷ y ∷ helds))
    by_test true (inl p) k = inr (k (inl p))
    by_test true (inr (inl p)) k = inl p
    by_test true (inr (inr a)) k = inr (k (inr a))
    by_test false (inl p) k = inl p
    by_test false (inr a) k = inr a

pub among_by_tid : (P : Held → Type 0) (helds : List Held) → Among P helds → Among P (by_tid helds)
among_by_tid P [] a = a
among_by_tid P (held ∷ helds) (inl p) = among_inserted P held (by_tid helds) (inl p)
among_by_tid P (held ∷ helds) (inr a) = among_inserted P held (by_tid helds) (inr (among_by_tid P helds a))

found_among : (older : List SiteRecord) (tids : List Tid) (tid : Tid) → Among (λ u. u ≡ tid) tids
    → Among (λ (held : Held). held.tid ≡ tid) (found (doubt_of older) tids) ⊎ (doubt_of older tid ≡ None)
found_among older [] tid a = elim a [ ]
found_among older (t ∷ tids) tid (inl same) = by_held (doubt_of older t) refl
  where
    by_held : (o : Option Held) → doubt_of older t ≡ o
        → Among (λ (held : Held). held.tid ≡ tid) (with_some o (found (doubt_of older) tids)) ⊎ (doubt_of older tid ≡ None)
    by_held None e = inr (ap (doubt_of older) (sym same) ∙ e)
    by_held (Some held) e = inl (inl (doubt_tid older t held e ∙ same))
found_among older (t ∷ tids) tid (inr a) = by_held (doubt_of older t) (found_among older tids tid a)
  where
    by_held : (o : Option Held) → Among (λ (held : Held). held.tid ≡ tid) (found (doubt_of older) tids) ⊎ (doubt_of older tid ≡ None)
        → Among (λ (held : Held). held.tid ≡ tid) (with_some o (found (doubt_of older) tids)) ⊎ (doubt_of older tid ≡ None)
    by_held None rest = rest
    by_held (Some held) (inl a) = inl (inr a)
    by_held (Some held) (inr none) = inr none

-- a Checkpoint's Prepared records leave the same ones in doubt
pub carried_same : (older : List SiteRecord) (tid : Tid) → doubt_of (carried (doubts older)) tid ≡ doubt_of older tid
carried_same older tid =
    carried_doubt older (doubts older) tid (each_by_tid _ _ (found_doubts older (each_attempt (prepared_tids older))))
    (elim (doubt_among older tid) [
      | inl a ↦ (elim (found_among older (each_attempt (prepared_tids older)) tid (in_each (prepared_tids older) tid a)) [ inl b ↦ inl (among_by_tid _ _ b) | inr none ↦ inr none ])
      | inr none ↦ inr none
    ])

pub doubt_behind : (newer older others : List SiteRecord) → ((tid : Tid) → doubt_of others tid ≡ doubt_of older tid) → (tid : Tid)
    → doubt_of (newer ++ others) tid ≡ doubt_of (newer ++ older) tid
doubt_behind [] older others same tid = same tid
doubt_behind (Prepared t e n ticket writes ∷ newer) older others same tid =
    ap (λ o. cond (same_tid t tid) (Some (record { tid = t; epoch = e; number = n; ticket = ticket; writes = writes })) o) (doubt_behind newer older others same tid)
doubt_behind (Ended t d ∷ newer) older others same tid = ap (λ o. cond (same_tid t tid) None o) (doubt_behind newer older others same tid)
doubt_behind (Local t n writes ∷ newer) older others same tid = doubt_behind newer older others same tid
doubt_behind (Start n ∷ newer) older others same tid = doubt_behind newer older others same tid
doubt_behind (Setup site engine protocol items ∷ newer) older others same tid = doubt_behind newer older others same tid
doubt_behind (Checkpoint sum ∷ newer) older others same tid = doubt_behind newer older others same tid

-- the rows with the installs of newer records on top, one after another
abbrev pub put_held : Option Held → List Put → List Put
put_held None rows = rows
put_held (Some held) rows = with_rows held.writes rows

abbrev pub rows_with : List Put → (newer older : List SiteRecord) → List Put
rows_with base [] older = base
rows_with base (Local t n writes ∷ newer) older = with_rows writes (rows_with base newer older)
rows_with base (Ended t Decided.Commit ∷ newer) older = put_held (doubt_of (newer ++ older) t) (rows_with base newer older)
rows_with base (newest ∷ newer) older = rows_with base newer older

-- where installs come in order, each is written on top of those before
pub rows_in_order : (base : List Put) (newer older : List SiteRecord) → ComeInOrder (newer ++ older)
    → rows_after base (installs (newer ++ older)) ≡ rows_with (rows_after base (installs older)) newer older
rows_in_order base [] older c = refl
rows_in_order base (Local t n writes ∷ newer) older c =
    rows_on_top (record { tid = t; number = n; writes = writes }) (installs (newer ++ older)) base c.0
    ∙ ap (with_rows writes) (rows_in_order base newer older c.1)
rows_in_order base (Ended t Decided.Commit ∷ newer) older c = by_held (doubt_of (newer ++ older) t) c.0 ∙ ap (put_held (doubt_of (newer ++ older) t)) (rows_in_order base newer older c.1)
  where
    by_held : (o : Option Held) → HeldComes o (installs (newer ++ older))
        → rows_after base (install_held o (installs (newer ++ older))) ≡ put_held o (rows_after base (installs (newer ++ older)))
    by_held None h = refl
    by_held (Some held) h = rows_on_top (record { tid = held.tid; number = held.number; writes = held.writes }) (installs (newer ++ older)) base h
rows_in_order base (Ended t Decided.Abort ∷ newer) older c = rows_in_order base newer older c
rows_in_order base (Prepared t e n ticket writes ∷ newer) older c = rows_in_order base newer older c
rows_in_order base (Start n ∷ newer) older c = rows_in_order base newer older c
rows_in_order base (Setup site engine protocol items ∷ newer) older c = rows_in_order base newer older c
rows_in_order base (Checkpoint sum ∷ newer) older c = rows_in_order base newer older c

-- only who is in doubt matters of the older ones
pub rows_with_same : (base : List Put) (newer older others : List SiteRecord) → ((tid : Tid) → doubt_of others tid ≡ doubt_of older tid)
    → rows_with base newer others ≡ rows_with base newer older
rows_with_same base [] older others same = refl
rows_with_same base (Local t n writes ∷ newer) older others same = ap (with_rows writes) (rows_with_same base newer older others same)
rows_with_same base (Ended t Decided.Commit ∷ newer) older others same =
    ap₂ put_held (doubt_behind newer older others same t) (rows_with_same base newer older others same)
rows_with_same base (Ended t Decided.Abort ∷ newer) older others same = rows_with_same base newer older others same
rows_with_same base (Prepared t e n ticket writes ∷ newer) older others same = rows_with_same base newer older others same
rows_with_same base (Start n ∷ newer) older others same = rows_with_same base newer older others same
rows_with_same base (Setup site engine protocol items ∷ newer) older others same = rows_with_same base newer older others same
rows_with_same base (Checkpoint sum ∷ newer) older others same = rows_with_same base newer older others same

pub unsorted : (P : Install → Type 0) (i : Install) (xs : List Install) → Each P (by_number i xs) → P i × Each P xs
unsorted P i [] h = (h.0, tt)
unsorted P i (x ∷ xs) h = by_test (nat_lt i.number x.number) h (unsorted P i xs)
  where
    by_test : (b : Bool) → Each P (cond b (x ∷ by_number i xs) (i ∷ x ∷ xs)) → (Each P (by_number i xs) → P i × Each P xs) → P i × Each P (x ∷ xs)
    by_test true h k = let r = k h.1 in (r.0, (h.0, r.1))
    by_test false h k = h

-- the installs behind a Checkpoint are some of all
pub fewer_installs : (P : Install → Type 0) (newer older others : List SiteRecord) → ((tid : Tid) → doubt_of others tid ≡ doubt_of older tid)
    → installs others ≡ [] → Each P (installs (newer ++ older)) → Each P (installs (newer ++ others))
fewer_installs P [] older others same none h = subst (Each P) (sym none) tt
fewer_installs P (Local t n writes ∷ newer) older others same none h =
    let r = unsorted P (record { tid = t; number = n; writes = writes }) (installs (newer ++ older)) h in
    each_inserted P (λ (a b : Install). nat_lt b.number a.number) (record { tid = t; number = n; writes = writes }) (installs (newer ++ others)) r.0 (fewer_installs P newer older others same none r.1)
fewer_installs P (Ended t Decided.Commit ∷ newer) older others same none h =
    subst (λ o. Each P (install_held o (installs (newer ++ others)))) (sym (doubt_behind newer older others same t))
    (by_held (doubt_of (newer ++ older) t) h (fewer_installs P newer older others same none))
  where
    by_held : (o : Option Held) → Each P (install_held o (installs (newer ++ older)))
        → (Each P (installs (newer ++ older)) → Each P (installs (newer ++ others))) → Each P (install_held o (installs (newer ++ others)))
    by_held None h k = k h
    by_held (Some held) h k =
        let i : Install = record { tid = held.tid; number = held.number; writes = held.writes } in
        let r = unsorted P i (installs (newer ++ older)) h in
        each_inserted P (λ (a b : Install). nat_lt b.number a.number) i (installs (newer ++ others)) r.0 (k r.1)
fewer_installs P (Ended t Decided.Abort ∷ newer) older others same none h = fewer_installs P newer older others same none h
fewer_installs P (Prepared t e n ticket writes ∷ newer) older others same none h = fewer_installs P newer older others same none h
fewer_installs P (Start n ∷ newer) older others same none h = fewer_installs P newer older others same none h
fewer_installs P (Setup site engine protocol items ∷ newer) older others same none h = fewer_installs P newer older others same none h
fewer_installs P (Checkpoint sum ∷ newer) older others same none h = fewer_installs P newer older others same none h

carried_order : (helds : List Held) → ComeInOrder (carried helds)
carried_order [] = tt
carried_order (held ∷ helds) = carried_order helds

-- so the installs behind a Checkpoint come in order
in_order_behind : (newer older : List SiteRecord) (helds : List Held) → ((tid : Tid) → doubt_of (carried helds) tid ≡ doubt_of older tid)
    → ComeInOrder (newer ++ older) → ComeInOrder (newer ++ carried helds)
in_order_behind [] older helds same c = carried_order helds
in_order_behind (Local t n writes ∷ newer) older helds same c = (
  fewer_installs (StaysBelow (record { tid = t; number = n; writes = writes })) newer older (carried helds) same (carried_none helds) c.0,
  in_order_behind newer older helds same c.1,
)
in_order_behind (Ended t Decided.Commit ∷ newer) older helds same c = (
  subst (λ o. HeldComes o (installs (newer ++ carried helds))) (sym (doubt_behind newer older (carried helds) same t)) (by_held (doubt_of (newer ++ older) t) c.0),
  in_order_behind newer older helds same c.1,
)
  where
    by_held : (o : Option Held) → HeldComes o (installs (newer ++ older)) → HeldComes o (installs (newer ++ carried helds))
    by_held None h = tt
    by_held (Some held) h =
        fewer_installs (StaysBelow (record { tid = held.tid; number = held.number; writes = held.writes })) newer older (carried helds) same (carried_none helds) h
in_order_behind (Ended t Decided.Abort ∷ newer) older helds same c = in_order_behind newer older helds same c
in_order_behind (Prepared t e n ticket writes ∷ newer) older helds same c = in_order_behind newer older helds same c
in_order_behind (Start n ∷ newer) older helds same c = in_order_behind newer older helds same c
in_order_behind (Setup site engine protocol items ∷ newer) older helds same c = in_order_behind newer older helds same c
in_order_behind (Checkpoint sum ∷ newer) older helds same c = in_order_behind newer older helds same c

-- the rows behind a Checkpoint are those of all
pub rows_behind : (items : List Put) (newer older : List SiteRecord) → ComeInOrder (newer ++ older)
    → rows_after (rows_after items (installs older)) (installs (newer ++ carried (doubts older))) ≡ rows_after items (installs (newer ++ older))
rows_behind items newer older c =
    rows_in_order (rows_after items (installs older)) newer (carried (doubts older)) (in_order_behind newer older (doubts older) (carried_same older) c)
    ∙ ap (λ is. rows_with (rows_after (rows_after items (installs older)) is) newer (carried (doubts older))) (carried_none (doubts older))
    ∙ rows_with_same (rows_after items (installs older)) newer older (carried (doubts older)) (carried_same older)
    ∙ sym (rows_in_order items newer older c)
