-- Different attempts of 1,024 transactions, 32 of each, are at most 32,768.
use Rattle.std.proofs.Common.{◌≡◌, ℕ, zero, suc, ◌*◌, ◌<◌, ◌≤◌, ◌⊎◌, Option, Some, List, [], ◌∷◌, ◌++◌, length, inl, inr, refl, sym, ap, subst, arith}
use Rattle.std.proofs.lemmas.Bool.{cases_lt}
use Rattle.mdb_base.specs.declared.names.Tid.{Tid}
use Rattle.mdb_base.specs.declared.names.Tx.{Tx}
use Rattle.mdb_base.specs.Words.{found}
use Rattle.mdb_base.proofs.ForCallers.{among_append, among_behind, length-append}
use Rattle.order_laws.specs.Chains.{Distinct, In}
use Rattle.fed_rules.specs.Requests.{attempt}
use Rattle.found_laws.specs.Ranges.{IsInRange}
use Rattle.closing_laws.proofs.Lengths.{distinct_in_others, found_in_others, least_or_less}

-- the attempts of a transaction with numbers below this one, and 32 of each transaction up to this number
attempts_below : Tx → ℕ → List Tid
attempts_below tx zero = []
attempts_below tx (suc n) = attempt tx n ∷ attempts_below tx n

all_attempts : ℕ → List Tid
all_attempts zero = []
all_attempts (suc n) = attempts_below (record { 0 = suc n }) 32 ++ all_attempts n

below_many : (tx : Tx) (n : ℕ) → length (attempts_below tx n) ≡ n
unfolding attempts_below
below_many tx zero = refl
below_many tx (suc n) = ap suc (below_many tx n)

all_many : (n : ℕ) → length (all_attempts n) ≡ 32 * n
unfolding all_attempts
all_many zero = refl
all_many (suc n) =
    let both = length-append (attempts_below (record { 0 = suc n }) 32) (all_attempts n) in
    let own = below_many (record { 0 = suc n }) 32 in
    let rest = all_many n in omega (arith, both, own, rest)

in_below : (tid : Tid) (n : ℕ) → tid.attempt < n → In tid (attempts_below tid.tx n)
unfolding attempts_below
in_below tid zero less = absurd (omega (arith, less))
in_below tid (suc n) less = elim (cases_lt tid.attempt n) [
  | inl below ↦ inr (in_below tid n below)
  | inr above ↦ inl (let last : n ≡ tid.attempt = omega (arith, less, above) in ap (attempt tid.tx) last)
]

in_all : (tid : Tid) (n : ℕ) → tid.attempt < 32 → 1 ≤ tid.tx.0 → tid.tx.0 ≤ n → In tid (all_attempts n)
unfolding all_attempts
in_all tid zero few least most = absurd (omega (arith, least, most))
in_all tid (suc n) few least most = by_last (least_or_less tid.tx.0 n most) (in_all tid n few least)
  where
    here : Tx
    here = record { 0 = suc n }

    by_last : (suc n ≡ tid.tx.0) ⊎ (tid.tx.0 ≤ n) → (tid.tx.0 ≤ n → In tid (all_attempts n)) → In tid (attempts_below here 32 ++ all_attempts n)
    by_last (inl e) rest =
        let own : tid.tx ≡ here = ap (λ (k : ℕ). let tx : Tx = record { 0 = k } in tx) (sym e) in
        among_append (λ t. t ≡ tid) (attempts_below here 32) (all_attempts n) (subst (λ tx. In tid (attempts_below tx 32)) own (in_below tid 32 few))
    by_last (inr less) rest = among_behind (λ t. t ≡ tid) (attempts_below here 32) (all_attempts n) (rest less)

-- different attempts in their ranges
pub few_tids : (tids : List Tid) → Distinct tids → ((tid : Tid) → In tid tids → IsInRange tid) → length tids ≤ 32768
few_tids tids apart each =
    let within = distinct_in_others tids (all_attempts 1024) apart (λ tid i. let is = each tid i in in_all tid 1024 is.2 is.0 is.1) in
    let all = all_many 1024 in omega (arith, within, all)

-- and those for which something is found
pub few_found : {A : Type 0} (look : Tid → Option A) (tids : List Tid) → Distinct tids → ((tid : Tid) (a : A) → In tid tids → look tid ≡ Some a → IsInRange tid)
    → length (found look tids) ≤ 32768
few_found look tids apart each =
    let within = found_in_others look tids (all_attempts 1024) apart (λ tid a i e. let is = each tid a i e in in_all tid 1024 is.2 is.0 is.1) in
    let all = all_many 1024 in omega (arith, within, all)
