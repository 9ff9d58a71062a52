-- Turns in their order: those that are done stand newest first, and those ahead oldest first.
use Rattle.std.proofs.Common.{◌≡◌, ◌⊎◌, inl, inr, Some, List, [], ◌∷◌, ◌++◌, length, map, reverse, refl, sym, ap, ◌∙◌, append_assoc}
use Rattle.std.proofs.lemmas.List.{append-nil, reverse-append, reverse-reverse}
use Rattle.mdb_base.specs.Words.{found, item_at, with_some}
use Rattle.std.specs.Prelude.{Option, None}
use Rattle.order_laws.specs.Chains.{In}

-- the first of those ahead goes behind the others
pub onto : {A : Type 0} (x : A) (xs ys : List A) → reverse (x ∷ xs) ++ ys ≡ reverse xs ++ x ∷ ys
onto {A} x xs ys = ap (λ (zs : List A). zs ++ ys) (reverse-append (x ∷ []) xs) ∙ append_assoc (reverse xs) (x ∷ []) ys

-- none done, all ahead
pub all_ahead : {A : Type 0} (xs : List A) → reverse (reverse xs) ++ [] ≡ xs
all_ahead xs = append-nil (reverse (reverse xs)) ∙ reverse-reverse xs

-- what was found was found of some item
pub record IsFound {A B : Type 0} (look : A → Option B) (xs : List A) (b : B) : Type 0 where
  pub item : A
  pub among : In item xs
  pub is : look item ≡ Some b

pub found_of : {A B : Type 0} (look : A → Option B) (b : B) (xs : List A) → In b (found look xs) → IsFound look xs b
found_of look b [] i = absurd i
found_of {A} {B} look b (x ∷ xs) i = by_look (look x) refl i (found_of look b xs)
  where
    by_look : (o : Option B) → look x ≡ o → In b (with_some o (found look xs)) → (In b (found look xs) → IsFound look xs b) → IsFound look (x ∷ xs) b
    by_look None e j others = (let rest = others j in record { item = rest.item; among = inr rest.among; is = rest.is })
    by_look (Some c) e (inl same) others = record { item = x; among = inl refl; is = e ∙ ap (λ (y : B). Some y) same }
    by_look (Some c) e (inr j) others = (let rest = others j in record { item = rest.item; among = inr rest.among; is = rest.is })

-- the turn whose line is the next one, and those behind it
pub record IsFirst {T L : Type 0} (line_of : T → L) (ahead : List T) (line : L) (lines : List L) : Type 0 where
  pub turn : T
  pub rest : List T
  pub is : ahead ≡ turn ∷ rest
  pub line_is : line_of turn ≡ line
  pub lines_are : map line_of rest ≡ lines

pub first_ahead : {T L : Type 0} (line_of : T → L) (ahead : List T) (line : L) (lines : List L) → map line_of ahead ≡ line ∷ lines → IsFirst line_of ahead line lines
first_ahead line_of [] line lines e = cc
first_ahead line_of (t ∷ ts) line lines e = record { turn = t; rest = ts; is = refl; line_is = cc; lines_are = cc }

pub none_ahead : {T L : Type 0} (line_of : T → L) (ahead : List T) → map line_of ahead ≡ [] → ahead ≡ []
none_ahead line_of [] e = refl
none_ahead line_of (t ∷ ts) e = cc

-- it goes to the done ones
pub goes_on : {A : Type 0} (ahead done all rest : List A) (x : A) → reverse ahead ++ done ≡ all → ahead ≡ x ∷ rest → reverse rest ++ x ∷ done ≡ all
goes_on {A} ahead done all rest x split is = sym (onto x rest done) ∙ ap (λ (xs : List A). reverse xs ++ done) (sym is) ∙ split

-- a turn stands among the first ones, or behind them with what is behind it
pub stands : {A : Type 0} (xs ys up down : List A) (x : A) → xs ++ ys ≡ up ++ x ∷ down → In x xs ⊎ ((middle : List A) × (ys ≡ middle ++ x ∷ down))
stands [] ys up down x e = inr (up, e)
stands (y ∷ xs) ys [] down x e = inl (inl cc)
stands (y ∷ xs) ys (u ∷ up) down x e = (let rest : xs ++ ys ≡ up ++ x ∷ down = cc in elim (stands xs ys up down x rest) [ inl i ↦ inl (inr i) | inr m ↦ inr m ])

-- the item right behind a list
pub item_behind : {A : Type 0} (xs more : List A) (x : A) → item_at ((xs ++ x ∷ []) ++ more) (length xs) ≡ Some x
item_behind [] more x = refl
item_behind (y ∷ xs) more x = item_behind xs more x
