-- Lists that are turned round, and what is found in them.
use Rattle.std.proofs.Common.{◌≡◌, Option, Some, None, List, [], ◌∷◌, ◌++◌, map, reverse, refl, sym, ap, ◌∙◌, subst}
use Rattle.std.proofs.lemmas.List.{append-nil}
use Rattle.mdb_base.specs.Words.{Each, found, map_some, with_some}
use Rattle.mdb_base.proofs.ForCallers.{each_append, found_append, reverse_more}

pub each_reverse : {A : Type 0} (P : A → Type 0) (xs : List A) → Each P (reverse xs) → Each P xs
each_reverse P [] h = tt
each_reverse P (x ∷ xs) h =
    let both = each_append P (reverse xs) (x ∷ []) (subst (Each P) (reverse_more x xs) h) in
    (both.1.0, each_reverse P xs both.0)

-- two facts of each item
pub each_both : {A : Type 0} (P Q : A → Type 0) (xs : List A) → Each P xs → Each Q xs → Each (λ x. P x × Q x) xs
each_both P Q [] p q = tt
each_both P Q (x ∷ xs) p q = ((p.0, q.0), each_both P Q xs p.1 q.1)

-- what is found in a list that is turned round
pub found_reverse : {A B : Type 0} (look : A → Option B) (xs : List A) → found look (reverse xs) ≡ reverse (found look xs)
found_reverse look [] = refl
found_reverse {A} {B} look (x ∷ xs) =
    ap (found look) (reverse_more x xs)
    ∙ found_append look (reverse xs) (x ∷ [])
    ∙ ap (λ (bs : List B). bs ++ found look (x ∷ [])) (found_reverse look xs)
    ∙ by_value (look x)
  where
    by_value : (o : Option B) → reverse (found look xs) ++ with_some o [] ≡ reverse (with_some o (found look xs))
    by_value None = append-nil (reverse (found look xs))
    by_value (Some b) = sym (reverse_more b (found look xs))

pub found_map : {A B C : Type 0} (look : B → Option C) (f : A → B) (xs : List A) → found look (map f xs) ≡ found (λ x. look (f x)) xs
found_map look f [] = refl
found_map {A} {B} {C} look f (x ∷ xs) = ap (λ (cs : List C). with_some (look (f x)) cs) (found_map look f xs)

-- where a look-up finds what the function makes of what the other finds
pub found_some : {A B C : Type 0} (f : B → C) (look : A → Option C) (other : A → Option B) (xs : List A) → Each (λ x. look x ≡ map_some f (other x)) xs → found look xs ≡ map f (found other xs)
found_some f look other [] h = refl
found_some {A} {B} {C} f look other (x ∷ xs) h =
    ap (λ (o : Option C). with_some o (found look xs)) h.0
    ∙ by_value (other x) (found_some f look other xs h.1)
  where
    by_value : (o : Option B) → found look xs ≡ map f (found other xs) → with_some (map_some f o) (found look xs) ≡ map f (with_some o (found other xs))
    by_value None e = e
    by_value (Some b) e = ap (λ (cs : List C). f b ∷ cs) e

-- a fact of each value that the look-up finds of some item
pub found_each : {A B : Type 0} (P : B → Type 0) (look : A → Option B) (xs : List A) → Each (λ x. (y : B) → look x ≡ Some y → P y) xs → Each P (found look xs)
found_each P look [] h = tt
found_each {A} {B} P look (x ∷ xs) h = by_value (look x) refl (found_each P look xs h.1)
  where
    by_value : (o : Option B) → look x ≡ o → Each P (found look xs) → Each P (with_some o (found look xs))
    by_value None e rest = rest
    by_value (Some y) e rest = (h.0 y e, rest)
