-- The lists of the keys, and the holders that they keep.
use Rattle.std.proofs.Common.{◌≡◌, ℕ, Bool, true, false, ◌&&◌, cond, is_some, nat_eq, Option, Some, None, List, [], ◌∷◌, ◌++◌, refl, sym, ap, ◌∙◌, subst}
use Rattle.std.specs.FinMap.{get, insert, remove}
use Rattle.std.specs.Global.{Vec}
use Rattle.std.specs.List.{AllByRecursion, IsDistinct}
use Rattle.std.specs.Map.{keys_of}
use Rattle.std.proofs.lemmas.Bool.{cond-false, eqb-true}
use Rattle.std.proofs.lemmas.Map.Keys.{IsDistinct-head, IsDistinct-tail}
use Rattle.std.proofs.lemmas.Option.{same_Some}
use Rattle.mdb_base.specs.declared.names.Key.{Key}
use Rattle.mdb_base.specs.declared.names.Tid.{Tid}
use Rattle.mdb_base.specs.Words.{or_else}
use Rattle.mdb_base.proofs.ForCallers.{nat_eq-sym}
use Rattle.run_book.specs.declared.rival.Rival.{Rival}
use Rattle.locking_engine.specs.ByAge.{IsByAge, of_age, first_other, with_run, without_age}
use Rattle.locking_engine.specs.Holders.{Holders, place_of, held_by, IsOldestOther}
use Rattle.locking_engine.specs.Lists.{Lists, list_of, places_at, all_places, holders_in, AreInOrder}
use Rattle.locking_engine.specs.Places.{Place}
use Rattle.locking_engine.proofs.ByAge.{of_age-with_run, with_run-by_age, of_age-without, without-by_age, IsOldestBut, first_oldest}
use Rattle.locking_engine.proofs.Places.{look, get_holder, same_place, place-equal, ties, holder-put, holder-gone, same_holders_map}

-- who stands at an age, where a key has a list
abbrev pub standing : ℕ → Option (Vec Rival) → Option Tid
standing age None = None
standing age (Some list) = of_age age list.items

abbrev or_tid : Option Tid → Option Tid → Option Tid
or_tid None other = other
or_tid (Some t) other = Some t

or_none : (o : Option Tid) → or_tid o None ≡ o
or_none None = refl
or_none (Some t) = refl

same_both : (b : Bool) (o : Option Tid) → o ≡ cond b o o
same_both true o = refl
same_both false o = refl

-- a look-up among the holders of one key, and behind them
look-places : (key : ℕ) (xs : List Rival) (es : List (Place × Tid)) (q : Place) → look (places_at key xs ++ es) q ≡ cond (nat_eq q.key key) (or_tid (of_age q.age xs) (look es q)) (look es q)
look-places key [] es q = same_both (nat_eq q.key key) (look es q)
look-places key (x ∷ xs) es q =
    ap (λ (b : Bool). cond b (Some x.tid) (look (places_at key xs ++ es) q)) (ties q (record { key = key; age = x.rank }))
    ∙ ap (λ (o : Option Tid). cond (nat_eq q.key key && nat_eq q.age x.rank) (Some x.tid) o) (look-places key xs es q)
    ∙ by_tests (nat_eq q.key key) (nat_eq q.age x.rank) (nat_eq x.rank q.age) (nat_eq-sym q.age x.rank)
  where
    by_tests : (b c d : Bool) → c ≡ d → cond (b && c) (Some x.tid) (cond b (or_tid (of_age q.age xs) (look es q)) (look es q)) ≡ cond b (or_tid (cond d (Some x.tid) (of_age q.age xs)) (look es q)) (look es q)
    by_tests true true true e = refl
    by_tests true false false e = refl
    by_tests true true false e = cc
    by_tests true false true e = cc
    by_tests false c d e = refl

-- a key that none of the others is has no list among them
none_behind : (key : ℕ) (es : Lists) → AllByRecursion (λ other. nat_eq key other ≡ false) (keys_of es) → list_of es key ≡ None
none_behind key [] apart = refl
none_behind key (e ∷ es) apart = cond-false _ _ _ apart.0 ∙ none_behind key es apart.1

look-lists : (es : Lists) (q : Place) → IsDistinct nat_eq (keys_of es) → look (all_places es) q ≡ standing q.age (list_of es q.key)
look-lists [] q apart = refl
look-lists (e ∷ es) q apart =
    look-places e.0 e.1.items (all_places es) q
    ∙ ap (λ (o : Option Tid). cond (nat_eq q.key e.0) (or_tid (of_age q.age e.1.items) o) o) (look-lists es q (IsDistinct-tail nat_eq e.0 (keys_of es) apart))
    ∙ by_key (nat_eq q.key e.0) refl
  where
    by_key : (b : Bool) → nat_eq q.key e.0 ≡ b → cond b (or_tid (of_age q.age e.1.items) (standing q.age (list_of es q.key))) (standing q.age (list_of es q.key)) ≡ standing q.age (cond b (Some e.1) (list_of es q.key))
    by_key true same =
        let none : list_of es q.key ≡ None =
        ap (λ (key : ℕ). list_of es key) (eqb-true q.key e.0 same) ∙ none_behind e.0 es (IsDistinct-head nat_eq e.0 (keys_of es) apart) in
        ap (λ (o : Option (Vec Rival)). or_tid (of_age q.age e.1.items) (standing q.age o)) none ∙ or_none (of_age q.age e.1.items)
    by_key false other = refl

-- who stands at a place
pub get-lists : (es : Lists) (q : Place) → AreInOrder es → get (holders_in es) q ≡ standing q.age (list_of es q.key)
get-lists es q order = get_holder (all_places es) q ∙ look-lists es q order.apart

-- one key has another list
module _ (es fs : Lists) (key : ℕ) (list : Vec Rival) (order : AreInOrder es) (apart : IsDistinct nat_eq (keys_of fs)) (by_age : IsByAge list.items)
    (looks : (q : ℕ) → list_of fs q ≡ cond (nat_eq key q) (Some list) (list_of es q)) where
  pub order_changed : AreInOrder fs
  order_changed = record { apart = apart; by_age = λ q other is. by_key q other (nat_eq key q) (sym (looks q) ∙ is) }
    where
      by_key : (q : ℕ) (other : Vec Rival) (b : Bool) → cond b (Some list) (list_of es q) ≡ Some other → IsByAge other.items
      by_key q other true is = subst (λ (v : Vec Rival). IsByAge v.items) (same_Some list other is) by_age
      by_key q other false is = order.by_age q other is

  -- who stands at the other keys stays, and at this one stands who is in the list
  pub holders_changed : (age : ℕ) (who : Option Tid) (m : Holders) → ((a : ℕ) → of_age a list.items ≡ cond (nat_eq age a) who (standing a (list_of es key))) →
      ((q : Place) → get m q ≡ cond (same_place q (record { key = key; age = age })) who (get (holders_in es) q)) → holders_in fs ≡ m
  holders_changed age who m own to =
      same_holders_map _ _ (λ q. get-lists fs q order_changed ∙ (ap (λ (o : Option (Vec Rival)). standing q.age o) (looks q.key) ∙ (by_key q (nat_eq key q.key) refl ∙ sym (to q))))
    where
      turned : (q : Place) → nat_eq key q.key ≡ true → nat_eq age q.age ≡ same_place q (record { key = key; age = age })
      turned q same = nat_eq-sym age q.age ∙ sym (ap (λ (b : Bool). b && nat_eq q.age age) (nat_eq-sym q.key key ∙ same))

      by_key : (q : Place) (b : Bool) → nat_eq key q.key ≡ b → standing q.age (cond b (Some list) (list_of es q.key)) ≡ cond (same_place q (record { key = key; age = age })) who (get (holders_in es) q)
      by_key q true same =
          own q.age ∙ (ap (λ (n : ℕ). cond (nat_eq age q.age) who (standing q.age (list_of es n))) (eqb-true key q.key same)
          ∙ (ap (λ (b : Bool). cond b who (standing q.age (list_of es q.key))) (turned q same)
          ∙ ap (λ (o : Option Tid). cond (same_place q (record { key = key; age = age })) who o) (sym (get-lists es q order))))
      by_key q false other =
          sym (get-lists es q order) ∙ sym (cond-false _ _ _ (ap (λ (b : Bool). b && nat_eq q.age age) (nat_eq-sym q.key key ∙ other)))

  -- where the list has the same runs, the same stand
  pub holders_same : (was : Vec Rival) → list_of es key ≡ Some was → list.items ≡ was.items → holders_in fs ≡ holders_in es
  holders_same was found same =
      same_holders_map _ _ (λ q. get-lists fs q order_changed ∙ (ap (λ (o : Option (Vec Rival)). standing q.age o) (looks q.key) ∙ (by_key q (nat_eq key q.key) refl ∙ sym (get-lists es q order))))
    where
      by_key : (q : Place) (b : Bool) → nat_eq key q.key ≡ b → standing q.age (cond b (Some list) (list_of es q.key)) ≡ standing q.age (list_of es q.key)
      by_key q true here =
          ap (λ (xs : List Rival). of_age q.age xs) same
          ∙ sym (ap (λ (o : Option (Vec Rival)). standing q.age o) (ap (λ (n : ℕ). list_of es n) (sym (eqb-true key q.key here)) ∙ found))
      by_key q false other = refl

-- a map of holders with a run that stands where nobody stood
get-held : (m : Holders) (p q : Place) (t : Tid) → get (held_by p t m) q ≡ cond (same_place q p) (Some (or_else (get m p) t)) (get m q)
get-held m p q t = by_there (get m p) refl
  where
    same : (u : Tid) (b : Bool) → same_place q p ≡ b → get m p ≡ Some u → get m q ≡ cond b (Some u) (get m q)
    same u true e is = ap (λ (x : Place). get m x) (place-equal q p e) ∙ is
    same u false e is = refl

    by_there : (o : Option Tid) → get m p ≡ o → get (cond (is_some o) m (insert m p t)) q ≡ cond (same_place q p) (Some (or_else o t)) (get m q)
    by_there None none = holder-put m p q t
    by_there (Some u) is = same u (same_place q p) refl is

module _ (es fs : Lists) (key : Key) (order : AreInOrder es) (apart : IsDistinct nat_eq (keys_of fs)) where
  -- a run enters the list of the key
  pub entered_order : (run : Rival) (was now : Vec Rival) → list_of es key.0 ≡ Some was → now.items ≡ with_run run was.items → ((q : ℕ) → list_of fs q ≡ cond (nat_eq key.0 q) (Some now) (list_of es q)) → AreInOrder fs
  entered_order run was now found made looks =
      order_changed es fs key.0 now order apart (subst IsByAge (sym made) (with_run-by_age run was.items (order.by_age key.0 was found))) looks

  pub entered_held : (run : Rival) (was now : Vec Rival) → list_of es key.0 ≡ Some was → now.items ≡ with_run run was.items → ((q : ℕ) → list_of fs q ≡ cond (nat_eq key.0 q) (Some now) (list_of es q)) →
      holders_in fs ≡ held_by (place_of key run.rank) run.tid (holders_in es)
  entered_held run was now found made looks =
      holders_changed es fs key.0 now order apart (subst IsByAge (sym made) (with_run-by_age run was.items (order.by_age key.0 was found))) looks run.rank
      (Some (or_else (of_age run.rank was.items) run.tid)) (held_by (place_of key run.rank) run.tid (holders_in es))
      (λ a. ap (λ (xs : List Rival). of_age a xs) made ∙ (of_age-with_run run a was.items
      ∙ ap (λ (o : Option (Vec Rival)). cond (nat_eq run.rank a) (Some (or_else (of_age run.rank was.items) run.tid)) (standing a o)) (sym found)))
      (λ q. get-held (holders_in es) (place_of key run.rank) q run.tid
      ∙ ap (λ (o : Option Tid). cond (same_place q (place_of key run.rank)) (Some (or_else o run.tid)) (get (holders_in es) q)) here)
    where
      here : get (holders_in es) (place_of key run.rank) ≡ of_age run.rank was.items
      here = get-lists es (place_of key run.rank) order ∙ ap (λ (o : Option (Vec Rival)). standing run.rank o) found

  -- a key gets its first list, of one run
  pub begun_order : (run : Rival) (now : Vec Rival) → now.items ≡ run ∷ [] → ((q : ℕ) → list_of fs q ≡ cond (nat_eq key.0 q) (Some now) (list_of es q)) → AreInOrder fs
  begun_order run now made looks = order_changed es fs key.0 now order apart (subst IsByAge (sym made) (tt, tt)) looks

  pub begun_held : (run : Rival) (now : Vec Rival) → list_of es key.0 ≡ None → now.items ≡ run ∷ [] → ((q : ℕ) → list_of fs q ≡ cond (nat_eq key.0 q) (Some now) (list_of es q)) →
      holders_in fs ≡ insert (holders_in es) (place_of key run.rank) run.tid
  begun_held run now none made looks =
      holders_changed es fs key.0 now order apart (subst IsByAge (sym made) (tt, tt)) looks run.rank (Some run.tid) (insert (holders_in es) (place_of key run.rank) run.tid)
      (λ a. ap (λ (xs : List Rival). of_age a xs) made ∙ ap (λ (o : Option (Vec Rival)). cond (nat_eq run.rank a) (Some run.tid) (standing a o)) (sym none))
      (λ q. holder-put (holders_in es) (place_of key run.rank) q run.tid)

  -- the run of an age leaves the list of the key
  pub left_order : (age : ℕ) (was now : Vec Rival) → list_of es key.0 ≡ Some was → now.items ≡ without_age age was.items → ((q : ℕ) → list_of fs q ≡ cond (nat_eq key.0 q) (Some now) (list_of es q)) → AreInOrder fs
  left_order age was now found made looks =
      order_changed es fs key.0 now order apart (subst IsByAge (sym made) (without-by_age age was.items (order.by_age key.0 was found))) looks

  pub left_gone : (age : ℕ) (was now : Vec Rival) → list_of es key.0 ≡ Some was → now.items ≡ without_age age was.items → ((q : ℕ) → list_of fs q ≡ cond (nat_eq key.0 q) (Some now) (list_of es q)) →
      holders_in fs ≡ remove (holders_in es) (place_of key age)
  left_gone age was now found made looks =
      holders_changed es fs key.0 now order apart (subst IsByAge (sym made) (without-by_age age was.items (order.by_age key.0 was found))) looks age None (remove (holders_in es) (place_of key age))
      (λ a. ap (λ (xs : List Rival). of_age a xs) made ∙ (of_age-without age a was.items ∙ ap (λ (o : Option (Vec Rival)). cond (nat_eq age a) None (standing a o)) (sym found)))
      (λ q. holder-gone (holders_in es) (place_of key age) q)

module _ (es : Lists) (key : Key) (order : AreInOrder es) where
  -- who stands at a key, whether it has a list or not
  pub get-own : (age : ℕ) (found : Option (Vec Rival)) → list_of es key.0 ≡ found → get (holders_in es) (place_of key age) ≡ standing age found
  get-own age found is = get-lists es (place_of key age) order ∙ ap (λ (o : Option (Vec Rival)). standing age o) is

  -- nobody leaves a key that nobody has held
  pub nobody_left : (age : ℕ) → list_of es key.0 ≡ None → holders_in es ≡ remove (holders_in es) (place_of key age)
  nobody_left age none = same_holders_map _ _ (λ q. by_place q (same_place q (place_of key age)) refl ∙ sym (holder-gone (holders_in es) (place_of key age) q))
    where
      by_place : (q : Place) (b : Bool) → same_place q (place_of key age) ≡ b → get (holders_in es) q ≡ cond b None (get (holders_in es) q)
      by_place q true e = ap (λ (x : Place). get (holders_in es) x) (place-equal q (place_of key age) e) ∙ get-own age None none
      by_place q false e = refl

  -- the first one of another age in the list of the key is the oldest
  pub oldest_listed : (me : ℕ) (list : Vec Rival) → list_of es key.0 ≡ Some list → IsOldestOther (holders_in es) key me (first_other me list.items)
  oldest_listed me list found = of_list (first_other me list.items) (first_oldest me list.items (order.by_age key.0 list found))
    where
      of_list : (o : Option Rival) → IsOldestBut me list.items o → IsOldestOther (holders_in es) key me o
      of_list None none = λ age apart. get-own age (Some list) found ∙ none age apart
      of_list (Some rival) first = (get-own rival.rank (Some list) found ∙ first.0, first.1, λ age apart less. get-own age (Some list) found ∙ first.2 age apart less)

  pub nobody_listed : (me : ℕ) → list_of es key.0 ≡ None → IsOldestOther (holders_in es) key me None
  nobody_listed me none = λ age apart. get-own age None none
