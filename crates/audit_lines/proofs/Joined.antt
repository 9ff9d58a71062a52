-- Tests that are joined.
use Rattle.std.proofs.Common.{◌≡◌, ℕ, Bool, true, false, ◌&&◌, ◌==◌, List, [], ◌∷◌, refl, ap, ◌∙◌}
use Rattle.std.specs.Cmp.Lexicographic.{pointwise}
use Rattle.mdb_base.specs.declared.names.SiteId.{SiteId}
use Rattle.mdb_base.specs.declared.names.Tid.{Tid}
use Rattle.mdb_base.specs.declared.replies.Edge.{Edge}
use Rattle.mdb_base.specs.contracts.replies.EdgePartialEq.TheImpl as of_edges
use Rattle.audit_rules.specs.Same.{edges_numbers, same_numbers}

pub one : (a : Bool) → a ≡ (a && true)
one true = refl
one false = refl

pub two : (a b : Bool) → (a && b) ≡ (a && (b && true))
two true b = one b
two false b = refl

three : (a b c : Bool) → ((a && b) && c) ≡ (a && (b && (c && true)))
three true b c = two b c
three false b c = refl

assoc : (a b c : Bool) → ((a && b) && c) ≡ (a && (b && c))
assoc true b c = refl
assoc false b c = refl

last : (a b c : Bool) → (a && (b && c)) ≡ (a && (b && (c && true)))
last true b c = two b c
last false b c = refl

-- the tests of an attempt's numbers, with another one
pub tid_then : (a b : Tid) (c : Bool) → (((a.tx.0 == b.tx.0) && (a.attempt == b.attempt)) && c) ≡ ((a.tx.0 == b.tx.0) && ((a.attempt == b.attempt) && c))
tid_then a b c = assoc (a.tx.0 == b.tx.0) (a.attempt == b.attempt) c

pub tid_joined : (a b : Tid) (c d : Bool) → c ≡ d → (((a.tx.0 == b.tx.0) && (a.attempt == b.attempt)) && c) ≡ ((a.tx.0 == b.tx.0) && ((a.attempt == b.attempt) && d))
tid_joined a b c d e = tid_then a b c ∙ ap (λ x. (a.tx.0 == b.tx.0) && ((a.attempt == b.attempt) && x)) e

pub tid_number : (a b : Tid) (m n : ℕ) → (((a.tx.0 == b.tx.0) && (a.attempt == b.attempt)) && (m == n)) ≡ ((a.tx.0 == b.tx.0) && ((a.attempt == b.attempt) && ((m == n) && true)))
tid_number a b m n = three (a.tx.0 == b.tx.0) (a.attempt == b.attempt) (m == n)

pub site_tid : (s t : SiteId) (a b : Tid) → ((s.0 == t.0) && ((a.tx.0 == b.tx.0) && (a.attempt == b.attempt))) ≡ ((s.0 == t.0) && ((a.tx.0 == b.tx.0) && ((a.attempt == b.attempt) && true)))
site_tid s t a b = last (s.0 == t.0) (a.tx.0 == b.tx.0) (a.attempt == b.attempt)

pub and_true : (a b : Bool) → a ≡ b → (a && true) ≡ b
and_true true b e = e
and_true false b e = e

five : (a b c d e f : Bool) → (((a && b) && ((c && d) && e)) && f) ≡ (a && (b && (c && (d && (e && f)))))
five true true true true e f = refl
five true true true false e f = refl
five true true false d e f = refl
five true false c d e f = refl
five false b c d e f = refl

-- edges are the same where their numbers are
pub edges_tell : (xs ys : List Edge) → pointwise (of_edges.ghosts.eq) xs ys ≡ same_numbers (edges_numbers xs) (edges_numbers ys)
edges_tell [] [] = refl
edges_tell [] (y ∷ ys) = refl
edges_tell (x ∷ xs) [] = refl
edges_tell (x ∷ xs) (y ∷ ys) =
    five (x.from.tx.0 == y.from.tx.0) (x.from.attempt == y.from.attempt) (x.to.tx.0 == y.to.tx.0) (x.to.attempt == y.to.attempt) (x.site.0 == y.site.0) (pointwise (of_edges.ghosts.eq) xs ys)
    ∙ ap (λ b. (x.from.tx.0 == y.from.tx.0) && ((x.from.attempt == y.from.attempt) && ((x.to.tx.0 == y.to.tx.0) && ((x.to.attempt == y.to.attempt) && ((x.site.0 == y.site.0) && b))))) (edges_tell xs ys)
