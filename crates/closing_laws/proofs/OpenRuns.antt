-- The attempts with open runs, which are neither sealed nor ended.
use Rattle.std.proofs.Common.{◌≡◌, Bool, true, false, cond, not, Option, Some, None, List, [], ◌∷◌, map, inl, inr, refl, ◌∙◌, ap, subst}
use Rattle.mdb_base.specs.declared.names.Tid.{Tid}
use Rattle.mdb_base.specs.Words.{those, found, with_some}
use Rattle.order_laws.specs.Chains.{In}
use Rattle.fed_rules.specs.Runs.{Run, is_sealed}

-- whether a run is open
abbrev pub is_open : Run → Bool
is_open run = not (is_sealed run)

abbrev pub open_tids : (Tid → Option Run) → List Tid → List Tid
open_tids look tids = map (λ run. run.tid) (those is_open (found look tids))

pub in_open : (look : Tid → Option Run) (tids : List Tid) (z : Tid) (run : Run) → In z tids → look z ≡ Some run → run.tid ≡ z → is_sealed run ≡ false → In z (open_tids look tids)
in_open look [] z run i e own f = absurd i
in_open look (t ∷ ts) z run i e own f = by_look (look t) refl i (λ j. in_open look ts z run j e own f)
  where
    by_seal : (r : Run) (b : Bool) → is_sealed r ≡ b → (t ≡ z → r ≡ run) → In z (t ∷ ts) → (In z ts → In z (open_tids look ts)) → In z (map (λ run. run.tid) (cond (not b) (r ∷ those is_open (found look ts)) (those is_open (found look ts))))
    by_seal r true g same (inl s) k = (let h : is_sealed run ≡ true = subst (λ u. is_sealed u ≡ true) (same s) g in cc)
    by_seal r true g same (inr j) k = k j
    by_seal r false g same (inl s) k = inl (ap (λ (u : Run). u.tid) (same s) ∙ own)
    by_seal r false g same (inr j) k = inr (k j)

    by_look : (o : Option Run) → look t ≡ o → In z (t ∷ ts) → (In z ts → In z (open_tids look ts)) → In z (map (λ run. run.tid) (those is_open (with_some o (found look ts))))
    by_look None g (inl s) k = (let h : look z ≡ None = subst (λ u. look u ≡ None) s g in cc)
    by_look None g (inr j) k = k j
    by_look (Some r) g i k = by_seal r (is_sealed r) refl (λ s. (let h : look z ≡ Some r = subst (λ u. look u ≡ Some r) s g in cc)) i k
