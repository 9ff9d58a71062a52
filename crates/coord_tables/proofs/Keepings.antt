-- The next of the items that pass a test, with what is made of them.
use Rattle.std.proofs.Common.{◌≡◌, ℕ, ◌<◌, ◌+◌, Bool, true, false, cond, List, [], ◌∷◌, ◌++◌, get_or, length, map, take, sym, ap, ◌∙◌}
use Rattle.std.proofs.lemmas.List.{append-nil, take_more, map_push}
use Rattle.mdb_base.specs.Words.{those}
use Rattle.mdb_base.proofs.ForCallers.{those_append}

pub next_kept : {A B : Type 0} (f : A → B) (test : A → Bool) (xs : List A) (i : ℕ) (x : A) (b : Bool) → i < length xs → x ≡ get_or xs i x → test x ≡ b
    → map f (those test (take (i + 1) xs)) ≡ cond b (map f (those test (take i xs)) ++ f x ∷ []) (map f (those test (take i xs)))
next_kept f test xs i x b within here e =
    ap (λ ys. map f (those test ys)) (take_more xs i x within ∙ ap (λ y. take i xs ++ y ∷ []) (sym here))
    ∙ ap (map f) (those_append test (take i xs) (x ∷ []))
    ∙ ap (λ c. map f (those test (take i xs) ++ cond c (x ∷ []) [])) e
    ∙ by_test b
  where
    by_test : (c : Bool) → map f (those test (take i xs) ++ cond c (x ∷ []) []) ≡ cond c (map f (those test (take i xs)) ++ f x ∷ []) (map f (those test (take i xs)))
    by_test true = map_push f (those test (take i xs)) x
    by_test false = ap (map f) (append-nil (those test (take i xs)))
