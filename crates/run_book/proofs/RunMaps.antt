-- The runs by attempt, as a map and as the entries of the hash map that keeps them.
use Rattle.std.proofs.Common.{◌≡◌, ℕ, ◌+◌, Bool, true, false, cond, Option, Some, None, List, [], ◌∷◌, refl, sym, ap, ◌∙◌, arith}
use Rattle.std.specs.Ordering.{is_eq}
use Rattle.std.specs.FinMap.{from_entries, find, get, get-insert, get-remove, get-from_entries, insert, same_map}
use Rattle.std.specs.Map.{lookup, set_value, remove_entry}
use Rattle.std.specs.BTreeMap.{is_at}
use Rattle.std.specs.List.{sum_by}
use Rattle.std.specs.List.Sorted.{IsPermutation}
use Rattle.std.proofs.lemmas.List.Sorted.{sum_by-IsPermutation}
use Rattle.std.proofs.lemmas.List.Sums.{sum_by-cons}
use Rattle.std.proofs.lemmas.Bool.{cond-true, cond-false}
use Rattle.mdb_base.specs.declared.names.Tid.{Tid}
use Rattle.mdb_base.specs.Names.{same_tid, tid_cmp}
use Rattle.mdb_base.specs.Words.{map_some, or_else}
use Rattle.mdb_base.proofs.ForCallers.{same_tid-equal, same_tid-refl, same_tid-sym, tid_ties, tids_exact, tids_total}
use Rattle.run_book.specs.Held.{Held, Runs, held_in, with_run, changed_in, without}
use Rattle.run_book.specs.Changes.{changed_entries}
use Rattle.run_book.specs.Named.{by_tid, name_of, same_name, tid_of}
use Rattle.run_book.specs.declared.run_map.Name.{Name}
use Rattle.run_book.specs.Tables.{promised, promised_by}

turned : (a b : Tid) → is_eq (tid_cmp b a) ≡ same_tid a b
turned a b = tid_ties b a ∙ same_tid-sym b a

-- the run of an attempt after a run is put in, taken out or changed
pub held_in-with_run : (runs : Runs) (t u : Tid) (held : Held) → held_in (with_run t held runs) u ≡ cond (same_tid t u) (Some held) (held_in runs u)
held_in-with_run runs t u held = get-insert tids_total runs t held u ∙ ap (λ (b : Bool). cond b (Some held) (get runs u)) (turned t u)

pub held_in-without : (runs : Runs) (t u : Tid) → held_in (without t runs) u ≡ cond (same_tid t u) None (held_in runs u)
held_in-without runs t u = get-remove tids_total runs t u ∙ ap (λ (b : Bool). cond b None (get runs u)) (turned t u)

none_there : (runs : Runs) (t u : Tid) (change : Held → Held) (b : Bool) → same_tid t u ≡ b → held_in runs t ≡ None → held_in runs u ≡ cond b None (held_in runs u)
none_there runs t u change true e none = ap (λ (x : Tid). held_in runs x) (sym (same_tid-equal t u e)) ∙ none
none_there runs t u change false e none = refl

pub held_in-changed : (runs : Runs) (t u : Tid) (change : Held → Held) → held_in (changed_in t change runs) u ≡ cond (same_tid t u) (map_some change (held_in runs t)) (held_in runs u)
held_in-changed runs t u change = by_found (held_in runs t) refl
  where
    by_found : (o : Option Held) → held_in runs t ≡ o →
        held_in (or_else (map_some (λ held. insert runs t (change held)) o) runs) u ≡ cond (same_tid t u) (map_some change o) (held_in runs u)
    by_found None none = none_there runs t u change (same_tid t u) refl none
    by_found (Some held) is = held_in-with_run runs t u (change held)

pub held_in-put_own : (runs : Runs) (t : Tid) (held : Held) → held_in (with_run t held runs) t ≡ Some held
held_in-put_own runs t held = held_in-with_run runs t t held ∙ cond-true _ _ _ (same_tid-refl t)

pub held_in-put_other : (runs : Runs) (t u : Tid) (held : Held) → same_tid t u ≡ false → held_in (with_run t held runs) u ≡ held_in runs u
held_in-put_other runs t u held e = held_in-with_run runs t u held ∙ cond-false _ _ _ e

pub held_in-without_own : (runs : Runs) (t : Tid) → held_in (without t runs) t ≡ None
held_in-without_own runs t = held_in-without runs t t ∙ cond-true _ _ _ (same_tid-refl t)

pub held_in-without_other : (runs : Runs) (t u : Tid) → same_tid t u ≡ false → held_in (without t runs) u ≡ held_in runs u
held_in-without_other runs t u e = held_in-without runs t u ∙ cond-false _ _ _ e

pub held_in-changed_own : (runs : Runs) (t : Tid) (change : Held → Held) → held_in (changed_in t change runs) t ≡ map_some change (held_in runs t)
held_in-changed_own runs t change = held_in-changed runs t t change ∙ cond-true _ _ _ (same_tid-refl t)

pub held_in-changed_other : (runs : Runs) (t u : Tid) (change : Held → Held) → same_tid t u ≡ false → held_in (changed_in t change runs) u ≡ held_in runs u
held_in-changed_other runs t u change e = held_in-changed runs t u change ∙ cond-false _ _ _ e

-- what a look-up in a list finds
abbrev pub look : List (Tid × Held) → Tid → Option Held
look es tid = lookup (is_at (tid_cmp tid)) es

find_run : (es : List (Tid × Held)) (q : Tid) → find tid_cmp q es ≡ look es q
find_run [] q = refl
find_run (e ∷ es) q = ap (cond (is_at (tid_cmp q) e.0) (Some e.1)) (find_run es q)

pub get_run : (es : List (Tid × Held)) (q : Tid) → held_in (from_entries es) q ≡ look es q
get_run es q = get-from_entries tids_total es q ∙ find_run es q

pub same_runs : (a b : Runs) → ((q : Tid) → held_in a q ≡ held_in b q) → a ≡ b
same_runs a b h = same_map tids_total tids_exact a b h

-- what a look-up in the hash map finds
abbrev pub named : List (Name × Held) → Tid → Option Held
named es tid = lookup (same_name (name_of tid)) es

pub look-named : (es : List (Name × Held)) (q : Tid) → look (by_tid es) q ≡ named es q
look-named [] q = refl
look-named (e ∷ es) q =
    ap (λ (b : Bool). cond b (Some e.1) (look (by_tid es) q)) (tid_ties q (tid_of e.0)) ∙ ap (cond (same_name (name_of q) e.0) (Some e.1)) (look-named es q)

pub get-named : (es : List (Name × Held)) (q : Tid) → held_in (from_entries (by_tid es)) q ≡ named es q
get-named es q = get_run (by_tid es) q ∙ look-named es q

-- entries that differ at one attempt
pub runs_put : (es fs : List (Name × Held)) (t : Tid) (held : Held) → ((q : Tid) → named fs q ≡ cond (same_tid t q) (Some held) (named es q)) → from_entries {R = tid_cmp} (by_tid fs) ≡ with_run t held (from_entries (by_tid es))
runs_put es fs t held h =
    same_runs _ _ (λ q. get-named fs q ∙ h q
    ∙ sym (held_in-with_run (from_entries (by_tid es)) t q held ∙ ap (cond (same_tid t q) (Some held)) (get-named es q)))

pub runs_gone : (es fs : List (Name × Held)) (t : Tid) → ((q : Tid) → named fs q ≡ cond (same_tid t q) None (named es q)) → from_entries {R = tid_cmp} (by_tid fs) ≡ without t (from_entries (by_tid es))
runs_gone es fs t h =
    same_runs _ _ (λ q. get-named fs q ∙ h q
    ∙ sym (held_in-without (from_entries (by_tid es)) t q ∙ ap (cond (same_tid t q) None) (get-named es q)))

-- a change in the entries
look-changed : (es : List (Tid × Held)) (t q : Tid) (change : Held → Held) → look (changed_entries t change es) q ≡ cond (same_tid t q) (map_some change (look es t)) (look es q)
look-changed [] t q change = by_test (same_tid t q)
  where
    by_test : (b : Bool) → ◌≡◌ {A = Option Held} None (cond b None None)
    by_test true = refl
    by_test false = refl
look-changed (e ∷ es) t q change = by_own (is_eq (tid_cmp t e.0)) refl (look-changed es t q change)
  where
    Wanted : Bool → Type 0
    Wanted b = look (cond b ((e.0, change e.1) ∷ es) (e ∷ changed_entries t change es)) q ≡ cond (same_tid t q) (map_some change (cond b (Some e.1) (look es t))) (cond (is_eq (tid_cmp q e.0)) (Some e.1) (look es q))

    at_own : (x y : Bool) → x ≡ y → cond x (Some (change e.1)) (look es q) ≡ cond y (Some (change e.1)) (cond x (Some e.1) (look es q))
    at_own true true h = refl
    at_own true false h = cc
    at_own false true h = cc
    at_own false false h = refl

    at_other : (x y : Bool) → (x ≡ true → y ≡ false) → cond x (Some e.1) (cond y (map_some change (look es t)) (look es q)) ≡ cond y (map_some change (look es t)) (cond x (Some e.1) (look es q))
    at_other true true h = let bad = h refl in cc
    at_other true false h = refl
    at_other false y h = refl

    by_own : (b : Bool) → is_eq (tid_cmp t e.0) ≡ b → look (changed_entries t change es) q ≡ cond (same_tid t q) (map_some change (look es t)) (look es q) → Wanted b
    by_own true own rest =
        let same : t ≡ e.0 = same_tid-equal t e.0 (sym (tid_ties t e.0) ∙ own) in
        at_own (is_eq (tid_cmp q e.0)) (same_tid t q) (turned e.0 q ∙ ap (λ (x : Tid). same_tid x q) (sym same))
    by_own false own rest =
        ap (cond (is_eq (tid_cmp q e.0)) (Some e.1)) rest
        ∙ at_other (is_eq (tid_cmp q e.0)) (same_tid t q)
        (λ here. let same : q ≡ e.0 = same_tid-equal q e.0 (sym (tid_ties q e.0) ∙ here) in
        ap (λ (x : Tid). same_tid t x) same ∙ (sym (tid_ties t e.0) ∙ own))

pub entries_changed : (es : List (Tid × Held)) (t : Tid) (change : Held → Held) → from_entries {R = tid_cmp} (changed_entries t change es) ≡ changed_in t change (from_entries es)
entries_changed es t change =
    same_runs _ _ (λ q. get_run (changed_entries t change es) q ∙ look-changed es t q change
    ∙ sym (held_in-changed (from_entries es) t q change
    ∙ (ap (λ (o : Option Held). cond (same_tid t q) (map_some change o) (held_in (from_entries es) q)) (get_run es t)
    ∙ ap (cond (same_tid t q) (map_some change (look es t))) (get_run es q))))

-- a value written back where a look-up found one
pub written_back : (es : List (Name × Held)) (t : Tid) (change : Held → Held) (held new : Held) → named es t ≡ Some held → new ≡ change held →
    by_tid (set_value (same_name (name_of t)) es new) ≡ changed_entries t change (by_tid es)
written_back [] t change held new is made = refl
written_back (e ∷ es) t change held new is made =
    by_own (same_name (name_of t) e.0) is (written_back es t change held new)
    ∙ ap (λ (b : Bool). cond b ((tid_of e.0, change e.1) ∷ by_tid es) ((tid_of e.0, e.1) ∷ changed_entries t change (by_tid es))) (sym (tid_ties t (tid_of e.0)))
  where
    by_own : (b : Bool) → cond b (Some e.1) (named es t) ≡ Some held → (named es t ≡ Some held → new ≡ change held → by_tid (set_value (same_name (name_of t)) es new) ≡ changed_entries t change (by_tid es)) →
        by_tid (cond b ((e.0, new) ∷ es) (e ∷ set_value (same_name (name_of t)) es new)) ≡ cond b ((tid_of e.0, change e.1) ∷ by_tid es) ((tid_of e.0, e.1) ∷ changed_entries t change (by_tid es))
    by_own true here rest =
        let same : e.1 ≡ held = cc in
        ap (λ (h : Held). let hs : List (Tid × Held) = (tid_of e.0, h) ∷ by_tid es in hs) (made ∙ ap change (sym same))
    by_own false here rest = ap (λ (hs : List (Tid × Held)). (tid_of e.0, e.1) ∷ hs) (rest here made)

unchanged : (es : List (Tid × Held)) (t : Tid) (change : Held → Held) → look es t ≡ None → changed_entries t change es ≡ es
unchanged [] t change none = refl
unchanged (e ∷ es) t change none = by_own (is_eq (tid_cmp t e.0)) none (unchanged es t change)
  where
    by_own : (b : Bool) → cond b (Some e.1) (look es t) ≡ None → (look es t ≡ None → changed_entries t change es ≡ es) → cond b ((e.0, change e.1) ∷ es) (e ∷ changed_entries t change es) ≡ e ∷ es
    by_own true here rest = cc
    by_own false here rest = ap (λ (hs : List (Tid × Held)). e ∷ hs) (rest here)

-- where there is none, nothing changes
pub changed_none : (es : List (Name × Held)) (t : Tid) (change : Held → Held) → named es t ≡ None → changed_entries t change (by_tid es) ≡ by_tid es
changed_none es t change none = unchanged (by_tid es) t change (look-named es t ∙ none)

-- what a run promises, if there is one
abbrev pub promise_of : Option Held → ℕ
promise_of o = or_else (map_some promised_by o) 0

pub promised-changed : (es : List (Tid × Held)) (t : Tid) (change : Held → Held) → promised (changed_entries t change es) + promise_of (look es t) ≡ promised es + promise_of (map_some change (look es t))
promised-changed [] t change = refl
promised-changed (e ∷ es) t change = by_own (is_eq (tid_cmp t e.0)) (promised-changed es t change)
  where
    by_own : (b : Bool) → promised (changed_entries t change es) + promise_of (look es t) ≡ promised es + promise_of (map_some change (look es t)) →
        promised (cond b ((e.0, change e.1) ∷ es) (e ∷ changed_entries t change es)) + promise_of (cond b (Some e.1) (look es t)) ≡ promised (e ∷ es) + promise_of (map_some change (cond b (Some e.1) (look es t)))
    by_own true rest = omega arith
    by_own false rest = omega (arith, rest)

-- in whatever order the entries stand
promised-sum : (es : List (Name × Held)) → promised (by_tid es) ≡ sum_by (λ (e : Name × Held). promised_by e.1) es
promised-sum [] = refl
promised-sum (e ∷ es) = ap (λ (n : ℕ). promised_by e.1 + n) (promised-sum es) ∙ sym (sum_by-cons (λ (e : Name × Held). promised_by e.1) e es)

promised-reordered : (es fs : List (Name × Held)) → IsPermutation es fs → promised (by_tid fs) ≡ promised (by_tid es)
promised-reordered es fs moved = promised-sum fs ∙ sum_by-IsPermutation (λ (e : Name × Held). promised_by e.1) es fs moved ∙ sym (promised-sum es)

-- one run less in a list
pub promised-without : (es : List (Tid × Held)) (t : Tid) → promised (remove_entry (is_at (tid_cmp t)) es) + promise_of (look es t) ≡ promised es
promised-without [] t = refl
promised-without (e ∷ es) t = by_own (is_eq (tid_cmp t e.0)) (promised-without es t)
  where
    by_own : (b : Bool) → promised (remove_entry (is_at (tid_cmp t)) es) + promise_of (look es t) ≡ promised es →
        promised (cond b es (e ∷ remove_entry (is_at (tid_cmp t)) es)) + promise_of (cond b (Some e.1) (look es t)) ≡ promised (e ∷ es)
    by_own true rest = omega arith
    by_own false rest = omega (arith, rest)

by_tid-removed : (es : List (Name × Held)) (t : Tid) → by_tid (remove_entry (same_name (name_of t)) es) ≡ remove_entry (is_at (tid_cmp t)) (by_tid es)
by_tid-removed [] t = refl
by_tid-removed (e ∷ es) t =
    by_own (same_name (name_of t) e.0) (by_tid-removed es t)
    ∙ ap (λ (b : Bool). cond b (by_tid es) ((tid_of e.0, e.1) ∷ remove_entry (is_at (tid_cmp t)) (by_tid es))) (sym (tid_ties t (tid_of e.0)))
  where
    by_own : (b : Bool) → by_tid (remove_entry (same_name (name_of t)) es) ≡ remove_entry (is_at (tid_cmp t)) (by_tid es) →
        by_tid (cond b es (e ∷ remove_entry (same_name (name_of t)) es)) ≡ cond b (by_tid es) ((tid_of e.0, e.1) ∷ remove_entry (is_at (tid_cmp t)) (by_tid es))
    by_own true rest = refl
    by_own false rest = ap (λ (hs : List (Tid × Held)). (tid_of e.0, e.1) ∷ hs) rest

-- one run less
pub promised-gone : (es fs : List (Name × Held)) (t : Tid) → IsPermutation (remove_entry (same_name (name_of t)) es) fs → promised (by_tid fs) + promise_of (named es t) ≡ promised (by_tid es)
promised-gone es fs t moved =
    ap (λ (n : ℕ). n + promise_of (named es t)) (promised-reordered _ fs moved ∙ ap (λ (hs : List (Tid × Held)). promised hs) (by_tid-removed es t))
    ∙ ap (λ (o : Option Held). promised (remove_entry (is_at (tid_cmp t)) (by_tid es)) + promise_of o) (sym (look-named es t))
    ∙ promised-without (by_tid es) t

-- one run more
pub promised-put : (es fs : List (Name × Held)) (t : Tid) (held : Held) → IsPermutation ((name_of t, held) ∷ es) fs → promised (by_tid fs) ≡ promised (by_tid es) + promised_by held
promised-put es fs t held moved = let all = promised-reordered _ fs moved in omega (arith, all)
