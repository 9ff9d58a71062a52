-- Installs by number of older and of newer records: the newer ones may be written behind all the older ones, where none of these with a
-- greater number writes one of their keys.
use Rattle.std.proofs.Common.{◌≡◌, ◌≤◌, Bool, true, false, cond, Option, Some, None, List, [], ◌∷◌, ◌++◌, refl, sym, ap, ◌∙◌, subst, inl, inr, arith, ltb-true, ltb-false, le-ltb}
use Rattle.std.specs.Prelude.{nat_lt}
use Rattle.mdb_base.specs.declared.names.Tid.{Tid}
use Rattle.mdb_base.specs.declared.rows.Put.{Put}
use Rattle.mdb_base.specs.Rows.{with_rows}
use Rattle.mdb_base.specs.Words.{Each}
use Rattle.mdb_base.proofs.ForCallers.{each_inserted, each_map}
use Rattle.presumptions.specs.declared.Decision.TheVariants as Decided
use Rattle.fed_rules.specs.declared.records.SiteRecord.{SiteRecord}
use Rattle.fed_rules.specs.declared.records.SiteRecord.TheVariants.{Setup, Start, Prepared, Ended, Local, Checkpoint}
use Rattle.fed_rules.specs.SiteRecords.{Held, Install, by_number, doubt_of, doubts, install_held, installs, rows_after}
use Rattle.fed_rules.specs.SiteSums.{carried}
use Rattle.fed_rules.proofs.ForCallers.{carried_none}
use Rattle.site_history.specs.Sums.{StaysBelow}
use Rattle.site_history.proofs.Behind.{carried_same, doubt_behind}
use Rattle.site_history.proofs.RowsOnTop.{rows_commute}

-- both lists, each in its order
data IsMix : List Install → List Install → List Install → Type 0 where
  mix_none : IsMix [] [] []
  mix_new : (n : Install) {news olds all : List Install} → IsMix news olds all → IsMix (n ∷ news) olds (n ∷ all)
  mix_old : (o : Install) {news olds all : List Install} → IsMix news olds all → IsMix news (o ∷ olds) (o ∷ all)

abbrev Falls : List Install → Type 0
Falls [] = Unit {0}
Falls (i ∷ is) = Each (λ z. z.number ≤ i.number) is × Falls is

falls_more : (n : Install) (is : List Install) → Falls is → Falls (by_number n is)
falls_more n [] f = (tt, tt)
falls_more n (i ∷ is) f = by_test (nat_lt n.number i.number) refl (falls_more n is f.1)
  where
    by_test : (b : Bool) → nat_lt n.number i.number ≡ b → Falls (by_number n is) → Falls (cond b (i ∷ by_number n is) (n ∷ i ∷ is))
    by_test true e rest =
        (each_inserted (λ z. z.number ≤ i.number) (λ (a b : Install). nat_lt b.number a.number) n is (let l = ltb-true _ _ e in omega (arith, l)) f.0, rest)
    by_test false e rest =
        let l = ltb-false _ _ e in
        ((omega (arith, l), each_map (λ (z : Install). z.number ≤ i.number) (λ (z : Install). z.number ≤ n.number) (λ z le. omega (arith, le, l)) is f.0), f)

falls : (rs : List SiteRecord) → Falls (installs rs)
falls [] = tt
falls (Setup site engine protocol items ∷ rs) = falls rs
falls (Checkpoint sum ∷ rs) = falls rs
falls (Start n ∷ rs) = falls rs
falls (Prepared t e n ticket writes ∷ rs) = falls rs
falls (Ended t Decided.Abort ∷ rs) = falls rs
falls (Ended t Decided.Commit ∷ rs) = by_held (doubt_of rs t) (falls rs)
  where
    by_held : (o : Option Held) → Falls (installs rs) → Falls (install_held o (installs rs))
    by_held None f = f
    by_held (Some held) f = falls_more (record { tid = held.tid; number = held.number; writes = held.writes }) (installs rs) f
falls (Local t n writes ∷ rs) = falls_more (record { tid = t; number = n; writes = writes }) (installs rs) (falls rs)

each_new : (P : Install → Type 0) (news olds all : List Install) → IsMix news olds all → Each P all → Each P news
each_new P news olds all mix_none h = tt
each_new P news olds all (mix_new n {news = rest_new} {all = rest_all} m) h = (h.0, each_new P rest_new olds rest_all m h.1)
each_new P news olds all (mix_old o {olds = rest_old} {all = rest_all} m) h = each_new P news rest_old rest_all m h.1

first_of : (n : Install) (is : List Install) → Each (λ z. z.number ≤ n.number) is → by_number n is ≡ n ∷ is
first_of n [] h = refl
first_of n (i ∷ is) h = ap (λ b. cond b (i ∷ by_number n is) (n ∷ i ∷ is)) (le-ltb n.number i.number h.0)

mix_more : (n : Install) (news olds all : List Install) → IsMix news olds all → Falls all → IsMix (by_number n news) olds (by_number n all)
mix_more n news olds all mix_none f = mix_new n mix_none
mix_more n news olds all (mix_new x {news = rest_new} {all = rest_all} m) f = by_test (nat_lt n.number x.number) (mix_more n rest_new olds rest_all m f.1)
  where
    by_test : (b : Bool) → IsMix (by_number n rest_new) olds (by_number n rest_all)
        → IsMix (cond b (x ∷ by_number n rest_new) (n ∷ x ∷ rest_new)) olds (cond b (x ∷ by_number n rest_all) (n ∷ x ∷ rest_all))
    by_test true k = mix_new x k
    by_test false k = mix_new n (mix_new x m)
mix_more n news olds all (mix_old o {olds = rest_old} {all = rest_all} m) f = by_test (nat_lt n.number o.number) refl (mix_more n news rest_old rest_all m f.1)
  where
    by_test : (b : Bool) → nat_lt n.number o.number ≡ b → IsMix (by_number n news) rest_old (by_number n rest_all)
        → IsMix (by_number n news) (o ∷ rest_old) (cond b (o ∷ by_number n rest_all) (n ∷ o ∷ rest_all))
    by_test true e k = mix_old o k
    by_test false e k =
        let l = ltb-false _ _ e in
        subst (λ is. IsMix is (o ∷ rest_old) (n ∷ o ∷ rest_all))
        (sym (first_of n news (each_map (λ (z : Install). z.number ≤ o.number) (λ (z : Install). z.number ≤ n.number) (λ z le. omega (arith, le, l)) news
        (each_new (λ z. z.number ≤ o.number) news rest_old rest_all m f.0))))
        (mix_new n (mix_old o m))

mix_all : (olds : List Install) → IsMix [] olds olds
mix_all [] = mix_none
mix_all (o ∷ olds) = mix_old o (mix_all olds)

mixed : (newer older others : List SiteRecord) → ((tid : Tid) → doubt_of others tid ≡ doubt_of older tid) → installs others ≡ []
    → IsMix (installs (newer ++ others)) (installs older) (installs (newer ++ older))
mixed [] older others same none = subst (λ is. IsMix is (installs older) (installs older)) (sym none) (mix_all (installs older))
mixed (Setup site engine protocol items ∷ newer) older others same none = mixed newer older others same none
mixed (Checkpoint sum ∷ newer) older others same none = mixed newer older others same none
mixed (Start n ∷ newer) older others same none = mixed newer older others same none
mixed (Prepared t e n ticket writes ∷ newer) older others same none = mixed newer older others same none
mixed (Ended t Decided.Abort ∷ newer) older others same none = mixed newer older others same none
mixed (Ended t Decided.Commit ∷ newer) older others same none =
    subst (λ o. IsMix (install_held o (installs (newer ++ others))) (installs older) (install_held (doubt_of (newer ++ older) t) (installs (newer ++ older))))
    (sym (doubt_behind newer older others same t)) (by_held (doubt_of (newer ++ older) t) (mixed newer older others same none))
  where
    by_held : (o : Option Held) → IsMix (installs (newer ++ others)) (installs older) (installs (newer ++ older))
        → IsMix (install_held o (installs (newer ++ others))) (installs older) (install_held o (installs (newer ++ older)))
    by_held None m = m
    by_held (Some held) m =
        mix_more (record { tid = held.tid; number = held.number; writes = held.writes }) (installs (newer ++ others)) (installs older) (installs (newer ++ older)) m
        (falls (newer ++ older))
mixed (Local t n writes ∷ newer) older others same none =
    mix_more (record { tid = t; number = n; writes = writes }) (installs (newer ++ others)) (installs older) (installs (newer ++ older))
    (mixed newer older others same none) (falls (newer ++ older))

-- an older one goes before newer ones that it stays below, though its number is greater
goes_before : (o : Install) (news : List Install) (base : List Put) → Each (λ i. StaysBelow i o) news → Each (λ i. i.number ≤ o.number) news
    → with_rows o.writes (rows_after base news) ≡ rows_after (with_rows o.writes base) news
goes_before o [] base b l = refl
goes_before o (n ∷ news) base b l = by_below b.0 (goes_before o news base b.1 l.1)
  where
    by_below : StaysBelow n o → with_rows o.writes (rows_after base news) ≡ rows_after (with_rows o.writes base) news
        → with_rows o.writes (with_rows n.writes (rows_after base news)) ≡ with_rows n.writes (rows_after (with_rows o.writes base) news)
    by_below (inl less) rest = let m = l.0 in let never : ⊥ = omega (arith, less, m) in absurd never
    by_below (inr apart) rest = sym (rows_commute n.writes o.writes (rows_after base news) apart) ∙ ap (with_rows n.writes) rest

each_part : (o : Install) (olds news : List Install) → Each (λ i. Each (StaysBelow i) (o ∷ olds)) news
    → Each (λ i. StaysBelow i o) news × Each (λ i. Each (StaysBelow i) olds) news
each_part o olds [] h = (tt, tt)
each_part o olds (n ∷ news) h = let r = each_part o olds news h.1 in ((h.0.0, r.0), (h.0.1, r.1))

rows_mix : (base : List Put) (news olds all : List Install) → IsMix news olds all → Falls all → Each (λ i. Each (StaysBelow i) olds) news
    → rows_after base all ≡ rows_after (rows_after base olds) news
rows_mix base news olds all mix_none f h = refl
rows_mix base news olds all (mix_new n {news = rest_new} {all = rest_all} m) f h = ap (with_rows n.writes) (rows_mix base rest_new olds rest_all m f.1 h.1)
rows_mix base news olds all (mix_old o {olds = rest_old} {all = rest_all} m) f h =
    let parts = each_part o rest_old news h in
    ap (with_rows o.writes) (rows_mix base news rest_old rest_all m f.1 parts.1)
    ∙ goes_before o news (rows_after base rest_old) parts.0 (each_new (λ z. z.number ≤ o.number) news rest_old rest_all m f.0)

-- the rows behind a Checkpoint are those of all
pub rows_behind_any : (items : List Put) (newer older : List SiteRecord)
    → Each (λ i. Each (StaysBelow i) (installs older)) (installs (newer ++ carried (doubts older)))
    → rows_after (rows_after items (installs older)) (installs (newer ++ carried (doubts older))) ≡ rows_after items (installs (newer ++ older))
rows_behind_any items newer older h =
    sym (rows_mix items (installs (newer ++ carried (doubts older))) (installs older) (installs (newer ++ older))
    (mixed newer older (carried (doubts older)) (carried_same older) (carried_none (doubts older))) (falls (newer ++ older)) h)
