-- The parts of a book hang together through each change of one run.
use Rattle.std.proofs.Common.{◌≡◌, ℕ, ◌+◌, ◌≤◌, Bool, true, false, not, ◌&&◌, ◌||◌, cond, is_some, Option, Some, None, IsSome, IfSome, List, [], ◌∷◌, Result, Ok, Err, OnOk, OnErr, refl, sym, ap, ◌∙◌, subst, arith}
use Rattle.std.specs.FinMap.{empty, from_entries, get-empty}
use Rattle.mdb_base.specs.declared.names.Tid.{Tid}
use Rattle.mdb_base.specs.Names.{same_tid, tid_cmp}
use Rattle.mdb_base.specs.Words.{map_some}
use Rattle.mdb_base.proofs.ForCallers.{same_tid-equal, same_tid-sym}
use Rattle.fed_rules.specs.declared.runs.Kept.{Kept}
use Rattle.fed_rules.specs.Runs.{Access, restored, is_sealed}
use Rattle.ticket_item.specs.Item.{Item, is_holder}
use Rattle.run_book.specs.declared.counters.Counters.{Counters}
use Rattle.run_book.specs.Held.{Held, Runs, held_in, with_run, without, is_taker}
use Rattle.run_book.specs.Book.{with_restored, granted_to}
use Rattle.run_book.specs.Changes.{changed_entries}
use Rattle.run_book.specs.Fields.{IsInOrder}
use Rattle.run_book.specs.Tables.{promised, promised_by}
use Rattle.run_book.proofs.Promises.{live-promises}
use Rattle.run_book.proofs.RunMaps.{look, get_run, entries_changed, promised-changed, promised-without, promise_of, held_in-changed, held_in-without, held_in-with_run}

pub some_held : (o : Option Held) → IsSome o → (held : Held) × (o ≡ Some held)
some_held None there = cc
some_held (Some held) there = (held, refl)

-- what is said of a run that is there
pub of_found : (P : Held → Type 0) (o : Option Held) (held : Held) → o ≡ Some held → IfSome o P → P held
of_found P None held is h = cc
of_found P (Some other) held is h = let same : other ≡ held = cc in subst P same h

pub if_found : (P : Held → Type 0) (o : Option Held) (held : Held) → o ≡ Some held → P held → IfSome o P
if_found P None held is h = cc
if_found P (Some other) held is h = let same : held ≡ other = cc in subst P same h

pub of_ticket : (o : Option ℕ) (ticket next : ℕ) → o ≡ Some ticket → IfSome o (λ t. t ≡ next) → ticket ≡ next
of_ticket None ticket next is h = cc
of_ticket (Some other) ticket next is h = let same : other ≡ ticket = cc in sym same ∙ h

-- one holder more or less
pub held_more : (t u : Tid) (x : Bool) → (same_tid u t || x) ≡ cond (same_tid t u) true x
held_more t u x = by_same (same_tid u t) (same_tid t u) (same_tid-sym u t)
  where
    by_same : (a b : Bool) → a ≡ b → (a || x) ≡ cond b true x
    by_same true true e = refl
    by_same true false e = cc
    by_same false true e = cc
    by_same false false e = refl

pub held_less : (t u : Tid) (x : Bool) → (not (same_tid u t) && x) ≡ cond (same_tid t u) false x
held_less t u x = by_same (same_tid u t) (same_tid t u) (same_tid-sym u t)
  where
    by_same : (a b : Bool) → a ≡ b → (not a && x) ≡ cond b false x
    by_same true true e = refl
    by_same true false e = cc
    by_same false true e = cc
    by_same false false e = refl

taker_cond : (b : Bool) (o p : Option Held) → is_taker (cond b o p) ≡ cond b (is_taker o) (is_taker p)
taker_cond true o p = refl
taker_cond false o p = refl

-- the holder in question is one as before
still_held : (t u : Tid) (takes : Bool) (holds : Tid → Bool) → holds t ≡ takes → holds u ≡ cond (same_tid t u) takes (holds u)
still_held t u takes holds is = by_same (same_tid t u) (λ e. ap holds (sym (same_tid-equal t u e)) ∙ is)
  where
    by_same : (b : Bool) → (b ≡ true → holds u ≡ takes) → holds u ≡ cond b takes (holds u)
    by_same true h = h refl
    by_same false h = refl

-- a run is changed
pub order_changed : (es fs : List (Tid × Held)) (count more spare room : ℕ) (old new : Item) (t : Tid) (change : Held → Held) (held : Held) →
    IsInOrder es count spare old → held_in (from_entries es) t ≡ Some held → fs ≡ changed_entries t change es → more + promised_by held ≡ count + promised_by (change held) → more ≤ room →
    ((u : Tid) → is_holder new u ≡ cond (same_tid t u) (is_taker (Some (change held))) (is_holder old u)) → IsInOrder fs more room new
order_changed es fs count more spare room old new t change held order found is counts fits holds =
    let at : look es t ≡ Some held = sym (get_run es t) ∙ found in
    let before = ap (λ (o : Option Held). promise_of o) at in
    let after = ap (λ (o : Option Held). promise_of (map_some change o)) at in
    let sum = promised-changed es t change in
    let same = ap (λ (xs : List (Tid × Held)). promised xs) is in
    let counted = order.counted in
    record {
      counted = omega (arith, sum, before, after, same, counted, counts);
      room = fits;
      holders = λ u.
          holds u
          ∙ (ap (λ (b : Bool). cond (same_tid t u) (is_taker (Some (change held))) b) (order.holders u)
          ∙ (sym (taker_cond (same_tid t u) (Some (change held)) (held_in (from_entries es) u))
          ∙ (ap (λ (o : Option Held). is_taker (cond (same_tid t u) (map_some change o) (held_in (from_entries es) u))) (sym found)
          ∙ (ap (λ (o : Option Held). is_taker o) (sym (held_in-changed (from_entries es) t u change))
          ∙ (ap (λ (rs : Runs). is_taker (held_in rs u)) (sym (entries_changed es t change))
          ∙ ap (λ (xs : List (Tid × Held)). is_taker (held_in (from_entries xs) u)) (sym is))))));
    }

-- a run is changed that promises as much as before, and takes the ticket or not as before
pub order_kept : (es fs : List (Tid × Held)) (count spare : ℕ) (item : Item) (t : Tid) (change : Held → Held) (held : Held) →
    IsInOrder es count spare item → held_in (from_entries es) t ≡ Some held → fs ≡ changed_entries t change es → promised_by held ≡ promised_by (change held) →
    is_taker (Some (change held)) ≡ is_taker (Some held) → IsInOrder fs count spare item
order_kept es fs count spare item t change held order found is promises takes =
    order_changed es fs count count spare spare item item t change held order found is (omega (arith, promises)) order.room
    (λ u. still_held t u (is_taker (Some (change held))) (λ x. is_holder item x) (order.holders t ∙ (ap (λ (o : Option Held). is_taker o) found ∙ sym takes)))

-- a run leaves
pub order_gone : (es fs : List (Tid × Held)) (count less spare room : ℕ) (old new : Item) (t : Tid) (held : Held) →
    IsInOrder es count spare old → held_in (from_entries es) t ≡ Some held → from_entries {R = tid_cmp} fs ≡ without t (from_entries es) →
    promised fs + promise_of (held_in (from_entries es) t) ≡ promised es → less + promised_by held ≡ count → less ≤ room →
    ((u : Tid) → is_holder new u ≡ cond (same_tid t u) false (is_holder old u)) → IsInOrder fs less room new
order_gone es fs count less spare room old new t held order found is sum counts fits holds =
    let own = ap (λ (o : Option Held). promise_of o) found in
    let counted = order.counted in
    record {
      counted = omega (arith, sum, own, counted, counts);
      room = fits;
      holders = λ u.
          holds u
          ∙ (ap (λ (b : Bool). cond (same_tid t u) false b) (order.holders u)
          ∙ (sym (taker_cond (same_tid t u) None (held_in (from_entries es) u))
          ∙ (ap (λ (o : Option Held). is_taker o) (sym (held_in-without (from_entries es) t u)) ∙ ap (λ (rs : Runs). is_taker (held_in rs u)) (sym is))));
    }

-- a run begins
pub order_put : (es fs : List (Tid × Held)) (count spare : ℕ) (item : Item) (t : Tid) (held : Held) →
    IsInOrder es count spare item → held_in (from_entries es) t ≡ None → from_entries {R = tid_cmp} fs ≡ with_run t held (from_entries es) →
    promised fs ≡ promised es + promised_by held → promised_by held ≡ 0 → is_taker (Some held) ≡ false → IsInOrder fs count spare item
order_put es fs count spare item t held order none is sum zero free =
    let counted = order.counted in
    record {
      counted = omega (arith, sum, zero, counted);
      room = order.room;
      holders = λ u.
          still_held t u false (λ x. is_holder item x) (order.holders t ∙ ap (λ (o : Option Held). is_taker o) none)
          ∙ (ap (λ (b : Bool). cond (same_tid t u) false b) (order.holders u)
          ∙ (ap (λ (b : Bool). cond (same_tid t u) b (is_taker (held_in (from_entries es) u))) (sym free)
          ∙ (sym (taker_cond (same_tid t u) (Some held) (held_in (from_entries es) u))
          ∙ (ap (λ (o : Option Held). is_taker o) (sym (held_in-with_run (from_entries es) t u held)) ∙ ap (λ (rs : Runs). is_taker (held_in rs u)) (sym is)))));
    }

-- no restored run holds the ticket
restored_take : (counters : Counters) (doubtful : List Kept) (runs : Runs) (u : Tid) → is_taker (held_in runs u) ≡ false → is_taker (held_in (with_restored counters doubtful runs) u) ≡ false
restored_take counters [] runs u free = free
restored_take counters (kept ∷ more) runs u free =
    let held : Held = record { run = restored kept; counters = counters } in
    restored_take counters more (with_run kept.tid held runs) u
    (ap (λ (o : Option Held). is_taker o) (held_in-with_run runs kept.tid u held) ∙ (taker_cond (same_tid kept.tid u) (Some held) (held_in runs u) ∙ by_same (same_tid kept.tid u) (is_taker (held_in runs u)) free))
  where
    by_same : (b x : Bool) → x ≡ false → cond b false x ≡ false
    by_same true x e = refl
    by_same false x e = e

pub order_restored : (es : List (Tid × Held)) (count spare : ℕ) (item : Item) (counters : Counters) (doubtful : List Kept) → from_entries {R = tid_cmp} es ≡ with_restored counters doubtful empty →
    count ≡ promised es → count ≤ spare → ((u : Tid) → is_holder item u ≡ false) → IsInOrder es count spare item
order_restored es count spare item counters doubtful is counted fits free = record {
  counted = sym counted;
  room = fits;
  holders = λ u. free u ∙ sym (ap (λ (rs : Runs). is_taker (held_in rs u)) is ∙ restored_take counters doubtful empty u (ap (λ (o : Option Held). is_taker o) (get-empty tid_cmp u)));
}

-- an access of a live run, whether there was memory for it or not
pub order_granted : {X Y : Type 0} (r : Result X Y) (es fs : List (Tid × Held)) (count spare : ℕ) (item : Item) (t : Tid) (access : Access) (held : Held) →
    IsInOrder es count spare item → held_in (from_entries es) t ≡ Some held → held.run.sealed ≡ None → OnOk r (fs ≡ changed_entries t (granted_to access) es) → OnErr r (fs ≡ es) → IsInOrder fs count spare item
order_granted (Ok x) es fs count spare item t access held order found live granted memory =
    order_kept es fs count spare item t (granted_to access) held order found granted (live-promises held live ∙ sym (live-promises (granted_to access held) live)) refl
order_granted (Err e) es fs count spare item t access held order found live granted memory = subst (λ (xs : List (Tid × Held)). IsInOrder xs count spare item) (sym memory) order

-- a sealed run holds nothing
pub sealed_takes_none : (held : Held) → IsSome held.run.sealed → is_taker (Some held) ≡ false
sealed_takes_none held sealed = ap (λ (b : Bool). not b && is_some held.run.ticket) sealed

-- who doesn't take it is no holder
pub holds_none : (es : List (Tid × Held)) (count spare : ℕ) (item : Item) (t : Tid) (held : Held) → IsInOrder es count spare item → held_in (from_entries es) t ≡ Some held → is_taker (Some held) ≡ false →
    (u : Tid) → is_holder item u ≡ cond (same_tid t u) false (is_holder item u)
holds_none es count spare item t held order found free u =
    still_held t u false (λ x. is_holder item x) (order.holders t ∙ (ap (λ (o : Option Held). is_taker o) found ∙ free))

-- nor has a run without a ticket
pub untaken : (held : Held) → held.run.ticket ≡ None → is_taker (Some held) ≡ false
untaken held none = ap (λ (o : Option ℕ). not (is_sealed held.run) && is_some o) none ∙ never (not (is_sealed held.run))
  where
    never : (b : Bool) → (b && false) ≡ false
    never true = refl
    never false = refl

-- what a run promises is counted
pub promise-le : (es : List (Tid × Held)) (count spare : ℕ) (item : Item) (t : Tid) (held : Held) → IsInOrder es count spare item → held_in (from_entries es) t ≡ Some held → promised_by held ≤ count
promise-le es count spare item t held order found =
    let sum = promised-without es t in
    let own = ap (λ (o : Option Held). promise_of o) (sym (get_run es t) ∙ found) in
    let counted = order.counted in
    omega (arith, sum, own, counted)

-- a live run with a ticket takes it
pub live_takes : (held : Held) {ticket : ℕ} → held.run.sealed ≡ None → held.run.ticket ≡ Some ticket → is_taker (Some held) ≡ true
live_takes held live taken = ap (λ (o : Option ℕ). not (is_some o) && is_some held.run.ticket) live ∙ ap (λ (o : Option ℕ). is_some o) taken
