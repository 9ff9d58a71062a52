use Rattle.std.proofs.Common.{◌⊎◌, List, [], ◌∷◌, ◌++◌, inl, inr, subst, sym, map}
use Rattle.mdb_base.specs.Words.{Each}
use Rattle.mdb_base.proofs.ForCallers.{append_each}
use Rattle.order_laws.specs.Chains.{In, Chain, Acyclic, Within, Way}

-- two chains, of which the first ends where the second begins, are one
pub chain_append : {A : Type 0} (E : A → A → Type 0) (a : A) (xs : List A) (c : A) (ys : List A) (b : A) →
    Chain E a xs c → Chain E c ys b → Chain E a (xs ++ c ∷ ys) b
chain_append E a [] c ys b p q = (p, q)
chain_append E a (x ∷ xs) c ys b p q = (p.0, chain_append E x xs c ys b p.1 q)

-- a chain of one relation is, under another naming, one of any relation that has its edges
pub chain_map : {A B : Type 0} (E : A → A → Type 0) (F : B → B → Type 0) (f : A → B) →
    ((a b : A) → E a b → F (f a) (f b)) → (a : A) (xs : List A) (b : A) → Chain E a xs b → Chain F (f a) (map f xs) (f b)
chain_map E F f h a [] b p = h a b p
chain_map E F f h a (x ∷ xs) b p = (h a x p.0, chain_map E F f h x xs b p.1)

-- fewer edges, fewer elements or another naming leave a relation without a cycle
pub acyclic_map : {A B : Type 0} (E : A → A → Type 0) (F : B → B → Type 0) (f : A → B) →
    ((a b : A) → E a b → F (f a) (f b)) → Acyclic F → Acyclic E
acyclic_map E F f h none a xs p = none (f a) (map f xs) (chain_map E F f h a xs a p)

-- one step and then a way
pub way_cons : {A : Type 0} (E : A → A → Type 0) (ns : List A) (a x b : A) → E a x → In x ns → Way E ns x b → Way E ns a b
way_cons E ns a x b e i w = record { middle = x ∷ w.middle; among = (i, w.among); chain = (e, w.chain) }

-- a way of one step
pub way_one : {A : Type 0} (E : A → A → Type 0) (ns : List A) (a b : A) → E a b → Way E ns a b
way_one E ns a b e = record { middle = []; among = tt; chain = e }

-- two ways, of which the first ends where the second begins
pub way_append : {A : Type 0} (E : A → A → Type 0) (ns : List A) (a c b : A) → In c ns → Way E ns a c → Way E ns c b → Way E ns a b
way_append E ns a c b i v w =
    record {
      middle = v.middle ++ c ∷ w.middle;
      among = append_each (λ x. In x ns) v.middle (c ∷ w.middle) v.among (i, w.among);
      chain = chain_append E a v.middle c w.middle b v.chain w.chain;
    }

way_step : {A : Type 0} (E : A → A → Type 0) (c : A) (ns : List A) (a x b : A) → E a x → In x (c ∷ ns) →
    Way E ns x b ⊎ (Way E ns x c × Way E ns c b) → Way E ns a b ⊎ (Way E ns a c × Way E ns c b)
way_step E c ns a x b e (inl p) (inl w) = inr (way_one E ns a c (subst (E a) (sym p) e), subst (λ y. Way E ns y b) (sym p) w)
way_step E c ns a x b e (inl p) (inr w) = inr (way_one E ns a c (subst (E a) (sym p) e), w.1)
way_step E c ns a x b e (inr i) (inl w) = inl (way_cons E ns a x b e i w)
way_step E c ns a x b e (inr i) (inr w) = inr (way_cons E ns a x c e i w.0, w.1)

way_parts : {A : Type 0} (E : A → A → Type 0) (c : A) (ns : List A) (a : A) (xs : List A) (b : A) →
    Each (λ x. In x (c ∷ ns)) xs → Chain E a xs b → Way E ns a b ⊎ (Way E ns a c × Way E ns c b)
way_parts E c ns a [] b i p = inl (way_one E ns a b p)
way_parts E c ns a (x ∷ xs) b i p = way_step E c ns a x b p.0 i.0 (way_parts E c ns x xs b i.1 p.1)

-- a way either does without one of the elements, or goes to it and on from it
pub way_splits : {A : Type 0} (E : A → A → Type 0) (c : A) (ns : List A) (a b : A) →
    Way E (c ∷ ns) a b → Way E ns a b ⊎ (Way E ns a c × Way E ns c b)
way_splits E c ns a b w = way_parts E c ns a w.middle b w.among w.chain

-- a chain of edges between some elements is a way over them
pub chain_way : {A : Type 0} (E : A → A → Type 0) (ns : List A) (a : A) (xs : List A) (b : A) →
    Chain (Within E ns) a xs b → In a ns × Way E ns a b
chain_way E ns a [] b p = (p.from, way_one E ns a b p.edge)
chain_way E ns a (x ∷ xs) b p = (p.0.from, way_cons E ns a x b p.0.edge p.0.to (chain_way E ns x xs b p.1).1)

-- a way between two of the elements is a chain of edges between them
pub way_chain : {A : Type 0} (E : A → A → Type 0) (ns : List A) (a : A) (xs : List A) (b : A) →
    In a ns → Each (λ x. In x ns) xs → In b ns → Chain E a xs b → Chain (Within E ns) a xs b
way_chain E ns a [] b i is j p = record { edge = p; from = i; to = j }
way_chain E ns a (x ∷ xs) b i is j p = (record { edge = p.0; from = i; to = is.0 }, way_chain E ns x xs b is.0 is.1 j p.1)

accepted_at : {A : Type 0} (E : A → A → Type 0) (g : A) (ns : List A) → Acyclic (Within E ns) → (Way E ns g g → ⊥) →
    (a : A) → In a (g ∷ ns) → Way E ns a a ⊎ (Way E ns a g × Way E ns g a) → ⊥
accepted_at E g ns old none a (inl p) (inl w) = none (subst (λ y. Way E ns y y) (sym p) w)
accepted_at E g ns old none a (inl p) (inr w) = none (subst (λ y. Way E ns y g) (sym p) w.0)
accepted_at E g ns old none a (inr i) (inl w) = old a w.middle (way_chain E ns a w.middle a i w.among i w.chain)
accepted_at E g ns old none a (inr i) (inr w) = none (way_append E ns g a g i w.1 w.0)

-- an element through which no cycle leads keeps a relation without a cycle
pub accepted : {A : Type 0} (E : A → A → Type 0) (g : A) (ns : List A) →
    Acyclic (Within E ns) → (Way E ns g g → ⊥) → Acyclic (Within E (g ∷ ns))
accepted E g ns old none a xs p =
    let w = chain_way E (g ∷ ns) a xs a p in accepted_at E g ns old none a w.0 (way_splits E g ns a a w.1)
