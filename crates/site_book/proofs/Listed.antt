-- The live attempts, read off the entries of the hash map and sorted.
use Rattle.std.proofs.Common.{◌≡◌, ◌+◌, ◌||◌, Bool, true, false, cond, is_some, Option, Some, List, [], ◌∷◌, inl, inr, get_or, refl, sym, ◌∙◌, ap, subst, arith}
use Rattle.std.specs.declared.cmp.Ordering.TheVariants.{Less}
use Rattle.std.specs.List.{AllByRecursion, IsDistinct, list_any}
use Rattle.std.specs.List.Sorted.{IsPermutation, IsSorted, IsStrictlySortedBy}
use Rattle.std.specs.Map.{keys_of}
use Rattle.std.specs.Ordering.{is_lt}
use Rattle.std.proofs.lemmas.Bool.Decides.{nat_tests}
use Rattle.std.proofs.lemmas.List.Sorted.{IsPermutation-sym, list_any-IsPermutation}
use Rattle.std.proofs.lemmas.Map.Keys.{IsDistinct-IsPermutation, apart_from_distinct, sorted_from_all_adjacent}
use Rattle.mdb_base.specs.declared.names.Tid.{Tid}
use Rattle.mdb_base.specs.Names.{same_tid, tid_before, tid_cmp}
use Rattle.mdb_base.specs.Words.{Among, Each}
use Rattle.mdb_base.proofs.ForCallers.{each_among, each_recursion, less_before, same_tid-equal, same_tid-refl, same_tid-sym, tids_total}
use Rattle.site_book.specs.declared.attempt_map.Name.{Name}
use Rattle.site_book.specs.declared.progress.Progress.{Progress}
use Rattle.site_book.specs.Book.{live_part}
use Rattle.site_book.specs.Listing.{AreRising, Lists, is_live_in, live_keys}
use Rattle.site_book.specs.Named.{by_tid, kept_in, name_of, same_name, tid_of}
use Rattle.site_book.proofs.NamedMaps.{get-named, named}

-- a name that none of the entries has is no live one among them
each_apart : (name : Name) (es : List (Name × Progress)) → AllByRecursion (λ other. same_name name other ≡ false) (keys_of es) → Each (λ tid. same_tid (tid_of name) tid ≡ false) (live_keys (by_tid es))
each_apart name [] apart = tt
each_apart name (e ∷ es) apart = by_test (is_some (live_part (Some e.1))) (each_apart name es apart.1)
  where
    by_test : (b : Bool) → Each (λ tid. same_tid (tid_of name) tid ≡ false) (live_keys (by_tid es)) → Each (λ tid. same_tid (tid_of name) tid ≡ false) (cond b (tid_of e.0 ∷ live_keys (by_tid es)) (live_keys (by_tid es)))
    by_test true rest = (apart.0, rest)
    by_test false rest = rest

-- the live ones differ
live_apart : (es : List (Name × Progress)) → IsDistinct same_name (keys_of es) → IsDistinct same_tid (live_keys (by_tid es))
unfolding IsDistinct
live_apart [] apart = tt
live_apart (e ∷ es) apart = by_test (is_some (live_part (Some e.1))) (live_apart es apart.1)
  where
    by_test : (b : Bool) → IsDistinct same_tid (live_keys (by_tid es)) → IsDistinct same_tid (cond b (tid_of e.0 ∷ live_keys (by_tid es)) (live_keys (by_tid es)))
    by_test true rest = (each_recursion (λ tid. same_tid (tid_of e.0) tid ≡ false) (live_keys (by_tid es)) (each_apart e.0 es apart.0), rest)
    by_test false rest = rest

-- a live entry that is found has its attempt among the live ones
live_among : (es : List (Name × Progress)) (tid : Tid) → is_some (live_part (named es tid)) ≡ true → Among (λ listed. listed ≡ tid) (live_keys (by_tid es))
live_among [] tid live = cc
live_among (e ∷ es) tid live = by_name (live_among es tid) (same_name (name_of tid) e.0) refl live
  where
    behind : (b : Bool) → Among (λ listed. listed ≡ tid) (live_keys (by_tid es)) → Among (λ listed. listed ≡ tid) (cond b (tid_of e.0 ∷ live_keys (by_tid es)) (live_keys (by_tid es)))
    behind true i = inr i
    behind false i = i

    first : (b : Bool) → b ≡ true → tid_of e.0 ≡ tid → Among (λ listed. listed ≡ tid) (cond b (tid_of e.0 ∷ live_keys (by_tid es)) (live_keys (by_tid es)))
    first true h same = inl same
    first false h same = cc

    by_name : (is_some (live_part (named es tid)) ≡ true → Among (λ listed. listed ≡ tid) (live_keys (by_tid es))) → (b : Bool) → same_name (name_of tid) e.0 ≡ b → is_some (live_part (cond b (Some e.1) (named es tid))) ≡ true → Among (λ listed. listed ≡ tid) (live_keys (by_tid (e ∷ es)))
    by_name rest true here h = first (is_some (live_part (Some e.1))) h (sym (same_tid-equal tid (tid_of e.0) here))
    by_name rest false other h = behind (is_some (live_part (Some e.1))) (rest h)

-- and where the names differ each of the live ones is found live
among_live : (es : List (Name × Progress)) → IsDistinct same_name (keys_of es) → (tid : Tid) → Among (λ listed. listed ≡ tid) (live_keys (by_tid es)) → is_some (live_part (named es tid)) ≡ true
unfolding IsDistinct
among_live [] apart tid i = absurd i
among_live (e ∷ es) apart tid i = by_test (among_live es apart.1 tid) (is_some (live_part (Some e.1))) refl i
  where
    behind : (Among (λ listed. listed ≡ tid) (live_keys (by_tid es)) → is_some (live_part (named es tid)) ≡ true) → Among (λ listed. listed ≡ tid) (live_keys (by_tid es)) → is_some (live_part (cond (same_name (name_of tid) e.0) (Some e.1) (named es tid))) ≡ true
    behind rest j =
        let other : same_tid tid (tid_of e.0) ≡ false =
        same_tid-sym tid (tid_of e.0) ∙ each_among (λ t. same_tid (tid_of e.0) t ≡ false) tid (live_keys (by_tid es)) (each_apart e.0 es apart.0) j in
        ap (λ (b : Bool). is_some (live_part (cond b (Some e.1) (named es tid)))) other ∙ rest j

    by_test : (Among (λ listed. listed ≡ tid) (live_keys (by_tid es)) → is_some (live_part (named es tid)) ≡ true) → (b : Bool) → is_some (live_part (Some e.1)) ≡ b → Among (λ listed. listed ≡ tid) (cond b (tid_of e.0 ∷ live_keys (by_tid es)) (live_keys (by_tid es))) → is_some (live_part (cond (same_name (name_of tid) e.0) (Some e.1) (named es tid))) ≡ true
    by_test rest true live (inl same) =
        let here : same_tid tid (tid_of e.0) ≡ true = ap (λ (t : Tid). same_tid tid t) same ∙ same_tid-refl tid in
        ap (λ (b : Bool). is_some (live_part (cond b (Some e.1) (named es tid)))) here ∙ live
    by_test rest true live (inr j) = behind rest j
    by_test rest false live j = behind rest j

-- a sort leaves the same attempts
among_any : (tid : Tid) (tids : List Tid) → Among (λ listed. listed ≡ tid) tids → list_any (λ t. same_tid t tid) tids ≡ true
among_any tid [] i = absurd i
among_any tid (t ∷ ts) (inl same) = ap (λ (u : Tid). same_tid u tid || list_any (λ x. same_tid x tid) ts) same ∙ ap (λ (b : Bool). b || list_any (λ x. same_tid x tid) ts) (same_tid-refl tid)
among_any tid (t ∷ ts) (inr i) = later (same_tid t tid) (list_any (λ x. same_tid x tid) ts) (among_any tid ts i)
  where
    later : (x y : Bool) → y ≡ true → (x || y) ≡ true
    later true y e = refl
    later false y e = e

any_among : (tid : Tid) (tids : List Tid) → list_any (λ t. same_tid t tid) tids ≡ true → Among (λ listed. listed ≡ tid) tids
any_among tid [] h = cc
any_among tid (t ∷ ts) h = by_test (same_tid t tid) refl h (any_among tid ts)
  where
    by_test : (b : Bool) → same_tid t tid ≡ b → (b || list_any (λ x. same_tid x tid) ts) ≡ true → (list_any (λ x. same_tid x tid) ts ≡ true → Among (λ listed. listed ≡ tid) ts) → Among (λ listed. listed ≡ tid) (t ∷ ts)
    by_test true here h rest = inl (same_tid-equal t tid here)
    by_test false other h rest = inr (rest h)

moved : (tid : Tid) (xs ys : List Tid) → IsPermutation xs ys → Among (λ listed. listed ≡ tid) xs → Among (λ listed. listed ≡ tid) ys
moved tid xs ys moves i = any_among tid ys (sym (list_any-IsPermutation (λ t. same_tid t tid) xs ys moves) ∙ among_any tid xs i)

-- and attempts that differ rise behind it
less_of : (a b : Tid) → is_lt (tid_cmp b a) ≡ false → same_tid a b ≡ false → tid_cmp a b ≡ Less
less_of a b e f = grind (arith, nat_tests)

abbrev nothing : Tid
nothing = record { tx = record { 0 = 0 }; attempt = 0 }

sorted_strictly : (tids : List Tid) → IsSorted tid_cmp tids → IsDistinct same_tid tids → IsStrictlySortedBy tid_cmp tids
sorted_strictly tids order apart =
    sorted_from_all_adjacent tids_total tids nothing
    (λ k l. less_of (get_or tids k nothing) (get_or tids (k + 1) nothing) (order k nothing (omega arith) l) (apart_from_distinct same_tid tids k (k + 1) nothing apart (omega arith) l))

each_before : (tid : Tid) (tids : List Tid) → AllByRecursion (λ later. tid_cmp tid later ≡ Less) tids → Each (λ later. tid_before tid later ≡ true) tids
each_before tid [] less = tt
each_before tid (t ∷ ts) less = (less_before tid t less.0, each_before tid ts less.1)

strictly_rising : (tids : List Tid) → IsStrictlySortedBy tid_cmp tids → AreRising tids
unfolding IsStrictlySortedBy
strictly_rising [] order = tt
strictly_rising (t ∷ ts) order = (each_before t ts order.0, strictly_rising ts order.1)

-- the live attempts of the map
pub lists_live : (es : List (Name × Progress)) (tids sorted : List Tid) → tids ≡ live_keys (by_tid es) → IsDistinct same_name (keys_of es) → IsPermutation tids sorted → IsSorted tid_cmp sorted → Lists (is_live_in (kept_in es)) sorted
lists_live es tids sorted are apart moves order = record {
  rising = strictly_rising sorted (sorted_strictly sorted order
      (IsDistinct-IsPermutation same_tid same_tid-sym tids sorted moves (subst (λ (ts : List Tid). IsDistinct same_tid ts) (sym are) (live_apart es apart))));
  members = λ tid. (
    (λ i. ap (λ (o : Option Progress). is_some (live_part o)) (get-named es tid)
        ∙ among_live es apart tid (subst (λ (ts : List Tid). Among (λ listed. listed ≡ tid) ts) are (moved tid sorted tids (IsPermutation-sym tids sorted moves) i))),
    (λ found. moved tid tids sorted moves
        (subst (λ (ts : List Tid). Among (λ listed. listed ≡ tid) ts) (sym are)
        (live_among es tid (sym (ap (λ (o : Option Progress). is_some (live_part o)) (get-named es tid)) ∙ found)))),
  );
}
