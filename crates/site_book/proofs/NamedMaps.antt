-- The attempts as a map, and as the entries of the hash map that keeps them.
use Rattle.std.proofs.Common.{◌≡◌, Bool, cond, Option, Some, None, IsSome, List, [], ◌∷◌, refl, sym, ap, ◌∙◌}
use Rattle.std.specs.FinMap.{get, insert, remove}
use Rattle.std.specs.Map.{lookup}
use Rattle.mdb_base.specs.declared.names.Tid.{Tid}
use Rattle.mdb_base.specs.Names.{same_tid}
use Rattle.mdb_base.specs.Words.{map_some, or_else}
use Rattle.mdb_base.proofs.ForCallers.{tid_ties, tids_exact, tids_total}
use Rattle.site_book.specs.declared.attempt_map.Name.{Name}
use Rattle.site_book.specs.declared.progress.Progress.{Progress}
use Rattle.site_book.specs.Book.{changed_in}
use Rattle.site_book.specs.Named.{by_tid, kept_in, name_of, same_name, tid_of}
use Rattle.site_book.proofs.Maps.{get-gone, get-put, get_look, look, same}

-- what a look-up in the hash map finds
abbrev pub named : List (Name × Progress) → Tid → Option Progress
named es tid = lookup (same_name (name_of tid)) es

look-named : (es : List (Name × Progress)) (q : Tid) → look tids_total tids_exact (by_tid es) q ≡ named es q
look-named [] q = refl
look-named (e ∷ es) q =
    ap (λ (b : Bool). cond b (Some e.1) (look tids_total tids_exact (by_tid es) q)) (tid_ties q (tid_of e.0))
    ∙ ap (λ (o : Option Progress). cond (same_name (name_of q) e.0) (Some e.1) o) (look-named es q)

pub get-named : (es : List (Name × Progress)) (q : Tid) → get (kept_in es) q ≡ named es q
get-named es q = get_look tids_total tids_exact (by_tid es) q ∙ look-named es q

-- entries that differ at one attempt
pub named_put : (es fs : List (Name × Progress)) (t : Tid) (p : Progress) → ((q : Tid) → named fs q ≡ cond (same_tid t q) (Some p) (named es q)) → kept_in fs ≡ insert (kept_in es) t p
named_put es fs t p h =
    same tids_total tids_exact _ _ (λ q. get-named fs q ∙ (h q
    ∙ sym (get-put tids_total tids_exact (kept_in es) t q p ∙ (ap (λ (b : Bool). cond b (Some p) (get (kept_in es) q)) (tid_ties t q)
    ∙ ap (λ (o : Option Progress). cond (same_tid t q) (Some p) o) (get-named es q)))))

pub named_gone : (es fs : List (Name × Progress)) (t : Tid) → ((q : Tid) → named fs q ≡ cond (same_tid t q) None (named es q)) → kept_in fs ≡ remove (kept_in es) t
named_gone es fs t h =
    same tids_total tids_exact _ _ (λ q. get-named fs q ∙ (h q
    ∙ sym (get-gone tids_total tids_exact (kept_in es) t q ∙ (ap (λ (b : Bool). cond b None (get (kept_in es) q)) (tid_ties t q)
    ∙ ap (λ (o : Option Progress). cond (same_tid t q) None o) (get-named es q)))))

pub some_is : (o : Option Progress) (p : Progress) → o ≡ Some p → IsSome o
some_is None p e = cc
some_is (Some q) p e = refl

-- this is done to how far one attempt is, where it has an entry
pub named_changed : (es fs : List (Name × Progress)) (t : Tid) (change : Progress → Progress) (was now : Progress) → named es t ≡ Some was → now ≡ change was →
    ((q : Tid) → named fs q ≡ cond (same_tid t q) (Some now) (named es q)) → kept_in fs ≡ changed_in t change (kept_in es)
named_changed es fs t change was now found made h =
    named_put es fs t now h ∙ (ap (λ (p : Progress). insert (kept_in es) t p) made
    ∙ sym (ap (λ (o : Option Progress). or_else (map_some (λ p. insert (kept_in es) t (change p)) o) (kept_in es)) (get-named es t ∙ found)))

pub named_kept : (es : List (Name × Progress)) (t : Tid) (change : Progress → Progress) → named es t ≡ None → kept_in es ≡ changed_in t change (kept_in es)
named_kept es t change none =
    sym (ap (λ (o : Option Progress). or_else (map_some (λ p. insert (kept_in es) t (change p)) o) (kept_in es)) (get-named es t ∙ none))
