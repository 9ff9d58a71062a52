-- What is done to a tree of values, as it is done to the list of its entries.
use Rattle.std.proofs.Common.{◌≡◌, ℕ, Bool, true, false, cond, Option, Some, None, List, [], ◌∷◌, ◌++◌, map, refl, sym, ◌∙◌, ap}
use Rattle.std.specs.BTreeMap.{insert_entry, is_at}
use Rattle.std.specs.declared.cmp.Ordering.{Ordering}
use Rattle.std.specs.declared.cmp.Ordering.TheVariants.{Less, Equal, Greater}
use Rattle.std.specs.Global.{Vec}
use Rattle.std.specs.Map.{lookup, set_value}
use Rattle.std.specs.Ordering.{match_ordering}
use Rattle.mdb_base.specs.declared.names.Tid.{Tid}
use Rattle.session_report.specs.Told.{Reads, with_begun, with_value}
use Rattle.mdb_base.specs.Names.{tid_cmp}

abbrev pub viewed : List (Tid × Vec ℕ) → Reads
viewed entries = map (λ entry. (entry.0, entry.1.items)) entries

-- the values of what was found
abbrev pub items_of : Option (Vec ℕ) → Option (List ℕ)
items_of None = None
items_of (Some values) = Some values.items

-- an attempt with nothing read
pub viewed_begun : (entries : List (Tid × Vec ℕ)) (tid : Tid) (none : Vec ℕ) → none.items ≡ [] → viewed (insert_entry tid_cmp entries tid none) ≡ with_begun tid (viewed entries)
viewed_begun [] tid none e = ap (λ (values : List ℕ). let entry : Tid × List ℕ = (tid, values) in entry ∷ []) e
viewed_begun (entry ∷ entries) tid none e = by_order (tid_cmp tid entry.0) (viewed_begun entries tid none e)
  where
    by_order : (o : Ordering) → viewed (insert_entry tid_cmp entries tid none) ≡ with_begun tid (viewed entries)
        → viewed (match_ordering o ((tid, none) ∷ entry ∷ entries) ((entry.0, none) ∷ entries) (entry ∷ insert_entry tid_cmp entries tid none))
        ≡ match_ordering o ((tid, []) ∷ (entry.0, entry.1.items) ∷ viewed entries) ((entry.0, []) ∷ viewed entries) ((entry.0, entry.1.items) ∷ with_begun tid (viewed entries))
    by_order Less h = ap (λ (values : List ℕ). let first : Tid × List ℕ = (tid, values) in first ∷ (entry.0, entry.1.items) ∷ viewed entries) e
    by_order Equal h = ap (λ (values : List ℕ). let first : Tid × List ℕ = (entry.0, values) in first ∷ viewed entries) e
    by_order Greater h = ap (λ (more : Reads). let first : Tid × List ℕ = (entry.0, entry.1.items) in first ∷ more) h

-- one value more
pub viewed_value : (entries : List (Tid × Vec ℕ)) (tid : Tid) (value : ℕ) (old new : Vec ℕ) → lookup (is_at (tid_cmp tid)) entries ≡ Some old → new.items ≡ old.items ++ value ∷ []
    → viewed (set_value (is_at (tid_cmp tid)) entries new) ≡ with_value tid value (viewed entries)
viewed_value [] tid value old new e more = cc
viewed_value (entry ∷ entries) tid value old new e more = by_test (is_at (tid_cmp tid) entry.0) e (viewed_value entries tid value old new)
  where
    by_test : (b : Bool) → cond b (Some entry.1) (lookup (is_at (tid_cmp tid)) entries) ≡ Some old
        → (lookup (is_at (tid_cmp tid)) entries ≡ Some old → new.items ≡ old.items ++ value ∷ [] → viewed (set_value (is_at (tid_cmp tid)) entries new) ≡ with_value tid value (viewed entries))
        → viewed (cond b ((entry.0, new) ∷ entries) (entry ∷ set_value (is_at (tid_cmp tid)) entries new))
        ≡ cond b ((entry.0, entry.1.items ++ value ∷ []) ∷ viewed entries) ((entry.0, entry.1.items) ∷ with_value tid value (viewed entries))
    by_test true e h =
        let same : entry.1 ≡ old = cc in
        ap (λ (values : List ℕ). let first : Tid × List ℕ = (entry.0, values) in first ∷ viewed entries) (more ∙ ap (λ (v : Vec ℕ). v.items ++ value ∷ []) (sym same))
    by_test false e h = ap (λ (rest : Reads). let first : Tid × List ℕ = (entry.0, entry.1.items) in first ∷ rest) (h e more)

-- none of an attempt that doesn't stand there
pub viewed_absent : (entries : List (Tid × Vec ℕ)) (tid : Tid) (value : ℕ) → lookup (is_at (tid_cmp tid)) entries ≡ None → viewed entries ≡ with_value tid value (viewed entries)
viewed_absent [] tid value e = refl
viewed_absent (entry ∷ entries) tid value e = by_test (is_at (tid_cmp tid) entry.0) e (viewed_absent entries tid value)
  where
    by_test : (b : Bool) → cond b (Some entry.1) (lookup (is_at (tid_cmp tid)) entries) ≡ None
        → (lookup (is_at (tid_cmp tid)) entries ≡ None → viewed entries ≡ with_value tid value (viewed entries))
        → viewed (entry ∷ entries) ≡ cond b ((entry.0, entry.1.items ++ value ∷ []) ∷ viewed entries) ((entry.0, entry.1.items) ∷ with_value tid value (viewed entries))
    by_test true e h = cc
    by_test false e h = ap (λ (rest : Reads). let first : Tid × List ℕ = (entry.0, entry.1.items) in first ∷ rest) (h e)

-- a look-up
pub viewed_look : (entries : List (Tid × Vec ℕ)) (tid : Tid) (found : Option (Vec ℕ)) → lookup (is_at (tid_cmp tid)) entries ≡ found → lookup (is_at (tid_cmp tid)) (viewed entries) ≡ items_of found
viewed_look [] tid found e = ap items_of e
viewed_look (entry ∷ entries) tid found e = by_test (is_at (tid_cmp tid) entry.0) e (viewed_look entries tid found)
  where
    by_test : (b : Bool) → cond b (Some entry.1) (lookup (is_at (tid_cmp tid)) entries) ≡ found
        → (lookup (is_at (tid_cmp tid)) entries ≡ found → lookup (is_at (tid_cmp tid)) (viewed entries) ≡ items_of found)
        → cond b (Some entry.1.items) (lookup (is_at (tid_cmp tid)) (viewed entries)) ≡ items_of found
    by_test true e h = ap items_of e
    by_test false e h = h e
