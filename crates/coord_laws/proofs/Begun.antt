-- The attempts that were begun, as a list: each has the number of those of its transaction that were begun before it.
use Rattle.std.proofs.Common.{◌≡◌, ◌⊎◌, ℕ, suc, ◌<◌, ◌≤◌, Bool, true, false, cond, Option, Some, None, List, [], ◌∷◌, inl, inr, refl, sym, ap, ap₂, subst, ◌∙◌, arith}
use Rattle.std.proofs.lemmas.Bool.{eqb-true, cases_lt}
use Rattle.mdb_base.specs.declared.names.Tid.{Tid}
use Rattle.mdb_base.specs.declared.names.Tx.{Tx}
use Rattle.mdb_base.specs.Names.{same_tx}
use Rattle.mdb_base.specs.Words.{Among, how_many, with_some}
use Rattle.mdb_base.proofs.ForCallers.{same_tid-equal, same_tid-refl, same_tx-equal, same_tx-refl}
use Rattle.order_laws.specs.Chains.{In, Distinct}
use Rattle.fed_rules.specs.declared.answers.Answer.{Answer}
use Rattle.fed_rules.specs.declared.answers.Answer.TheVariants as Say
use Rattle.fed_rules.specs.CoordPast.{CoordPast, begins, begun_by, begun_tids}

-- how many of these attempts are of the transaction
abbrev pub of_tx : List Tid → Tx → ℕ
of_tx tids tx = how_many (λ t. same_tx t.tx tx) tids

-- one more attempt is one of its transaction, or of another one
pub more_attempts : (tx : Tx) (o : Option Tid) (tids : List Tid) → of_tx tids tx ≤ of_tx (with_some o tids) tx
more_attempts tx None tids = omega arith
more_attempts tx (Some u) tids = by_test (same_tx u.tx tx) where
  by_test : (b : Bool) → of_tx tids tx ≤ cond b (suc (of_tx tids tx)) (of_tx tids tx)
  by_test true = omega arith
  by_test false = omega arith

pub one_attempt : (g : Tid) (tids : List Tid) → of_tx (g ∷ tids) g.tx ≡ suc (of_tx tids g.tx)
one_attempt g tids = ap (λ b. cond b (suc (of_tx tids g.tx)) (of_tx tids g.tx)) (same_tx-refl g.tx)

-- the answer that begins the attempt
pub begun_answer : (g : Tid) (a : Answer) → begins g a ≡ true → a ≡ Say.Begun g
begun_answer g (Say.Begun t) e = ap Say.Begun (same_tid-equal t g e)
begun_answer g a e = cc

pub begins_some : (g : Tid) (a : Answer) → begun_by a ≡ Some g → begins g a ≡ true
begins_some g (Say.Begun t) e =
    let same : t ≡ g = cc in subst (λ u. begins u (Say.Begun t) ≡ true) same (same_tid-refl t)
begins_some g a e = cc

pub in_more : (g : Tid) (o : Option Tid) (tids : List Tid) → In g tids → In g (with_some o tids)
in_more g None tids i = i
in_more g (Some t) tids i = inr i

-- an attempt that was begun is listed
pub begun_in : (past : CoordPast) (g : Tid) → Among (λ x. begins g x.answer ≡ true) past → In g (begun_tids past)
begun_in [] g i = absurd i
begun_in (x ∷ past) g (inl e) = subst (λ a. In g (with_some (begun_by a) (begun_tids past))) (sym (begun_answer g x.answer e)) (inl refl)
begun_in (x ∷ past) g (inr i) = in_more g (begun_by x.answer) (begun_tids past) (begun_in past g i)

-- an attempt that begins is one more of its transaction
pub begun_number : (g : Tid) (a : Answer) (tids : List Tid) → begins g a ≡ true → of_tx (with_some (begun_by a) tids) g.tx ≡ suc (of_tx tids g.tx)
begun_number g a tids e = ap (λ b. of_tx (with_some (begun_by b) tids) g.tx) (begun_answer g a e) ∙ one_attempt g tids

-- each of these attempts has the number of those of its transaction behind it
abbrev pub AreNumbered : List Tid → Type 0
AreNumbered [] = Unit {0}
AreNumbered (tid ∷ tids) = (tid.attempt ≡ of_tx tids tid.tx) × AreNumbered tids

pub numbered_below : (tids : List Tid) (g : Tid) → AreNumbered tids → In g tids → g.attempt < of_tx tids g.tx
numbered_below [] g n i = absurd i
numbered_below (t ∷ tids) g n (inl e) =
    let one = subst (λ u. u.attempt ≡ of_tx tids u.tx) e n.0 in
    let all = subst (λ u. of_tx (u ∷ tids) g.tx ≡ suc (of_tx tids g.tx)) (sym e) (one_attempt g tids) in omega (arith, one, all)
numbered_below (t ∷ tids) g n (inr i) =
    let less = numbered_below tids g n.1 i in
    let more = more_attempts g.tx (Some t) tids in omega (arith, less, more)

tid_is : (t g : Tid) → same_tx t.tx g.tx ≡ true → t.attempt ≡ g.attempt → t ≡ g
tid_is t g s a =
    let make : ℕ → ℕ → Tid = λ n k. record { tx = record { 0 = n }; attempt = k } in
    ap₂ make (eqb-true t.tx.0 g.tx.0 s) a

pub below_listed : (tids : List Tid) (g : Tid) → AreNumbered tids → g.attempt < of_tx tids g.tx → In g tids
below_listed [] g n less = absurd (omega (arith, less))
below_listed (t ∷ tids) g n less = by_test (same_tx t.tx g.tx) refl less (cases_lt g.attempt (of_tx tids g.tx)) (below_listed tids g n.1) where
  number : same_tx t.tx g.tx ≡ true → t.attempt ≡ of_tx tids g.tx
  number s = subst (λ u. t.attempt ≡ of_tx tids u) (same_tx-equal t.tx g.tx s) n.0

  by_test : (b : Bool) → same_tx t.tx g.tx ≡ b → g.attempt < cond b (suc (of_tx tids g.tx)) (of_tx tids g.tx)
      → (g.attempt < of_tx tids g.tx) ⊎ (of_tx tids g.tx ≤ g.attempt) → (g.attempt < of_tx tids g.tx → In g tids) → In g (t ∷ tids)
  by_test b s l (inl below) old = inr (old below)
  by_test true s l (inr most) old = inl (tid_is t g s (let own = number s in omega (arith, own, l, most)))
  by_test false s l (inr most) old = absurd (omega (arith, l, most))

pub numbered_distinct : (tids : List Tid) → AreNumbered tids → Distinct tids
numbered_distinct [] n = tt
numbered_distinct (t ∷ tids) n =
    ((λ i. let less = numbered_below tids t n.1 i in let number = n.0 in omega (arith, less, number)), numbered_distinct tids n.1)
