-- What a site is due has numbers that differ.
use Rattle.std.proofs.Common.{◌≡◌, ◌⊎◌, ℕ, Bool, true, false, cond, List, [], ◌∷◌, sym, ap, ◌∙◌, inl, inr}
use Rattle.mdb_base.specs.declared.names.Tid.{Tid}
use Rattle.mdb_base.specs.declared.rows.Put.{Put}
use Rattle.mdb_base.specs.Words.{Each}
use Rattle.order_laws.specs.Chains.{In}
use Rattle.order_laws.proofs.ForCallers.{in_inserted}
use Rattle.fed_rules.specs.declared.records.SiteRecord.{SiteRecord}
use Rattle.fed_rules.specs.declared.records.SiteRecord.TheVariants.{Setup, Start, Prepared, Ended, Local, Checkpoint}
use Rattle.fed_rules.specs.SiteRecords.{Install, by_number, due_installs}
use Rattle.site_history.specs.Records.{BindOnce, IsBound}
use Rattle.site_history.proofs.ForCallers.{install_before}
use Rattle.disk_laws.proofs.ForCallers.{IsApartFrom, TellApart}
use Rattle.resume_laws.specs.Tables.{NumbersDiffer}

-- where records with a number are of one attempt, one that is due with this number is of it
bound_due : (commits : Tid → Bool) (t : Tid) (n : ℕ) (rs : List SiteRecord) (i : Install) → Each (IsApartFrom t n) rs → In i (due_installs commits rs) → i.number ≡ n → IsBound t rs
bound_due commits t n [] i a m e = absurd m
bound_due commits t n (Local u k w ∷ rs) i a m e = elim (in_inserted install_before (record { tid = u; number = k; writes = w }) i (due_installs commits rs) m) [
  | inl same ↦ inl (a.0 (ap (λ (x : Install). x.number) same ∙ e))
  | inr j ↦ inr (bound_due commits t n rs i a.1 j e)
]
bound_due commits t n (Prepared u epoch k ticket w ∷ rs) i a m e = by_test (commits u) m (λ j. bound_due commits t n rs i a.1 j e)
  where
    by_test : (b : Bool) → In i (cond b (by_number (record { tid = u; number = k; writes = w }) (due_installs commits rs)) (due_installs commits rs))
        → (In i (due_installs commits rs) → IsBound t rs) → IsBound t (Prepared u epoch k ticket w ∷ rs)
    by_test true l rest = elim (in_inserted install_before (record { tid = u; number = k; writes = w }) i (due_installs commits rs) l) [
      | inl same ↦ inl (a.0 (ap (λ (x : Install). x.number) same ∙ e))
      | inr j ↦ inr (rest j)
    ]
    by_test false l rest = inr (rest l)
bound_due commits t n (Setup site engine protocol items ∷ rs) i a m e = inr (bound_due commits t n rs i a.1 m e)
bound_due commits t n (Start epoch ∷ rs) i a m e = inr (bound_due commits t n rs i a.1 m e)
bound_due commits t n (Ended u d ∷ rs) i a m e = inr (bound_due commits t n rs i a.1 m e)
bound_due commits t n (Checkpoint sum ∷ rs) i a m e = inr (bound_due commits t n rs i a.1 m e)

more_differ : (commits : Tid → Bool) (t : Tid) (n : ℕ) (w : List Put) (rs : List SiteRecord) → Each (IsApartFrom t n) rs → (IsBound t rs → ⊥) → NumbersDiffer (due_installs commits rs)
    → NumbersDiffer (by_number (record { tid = t; number = n; writes = w }) (due_installs commits rs))
more_differ commits t n w rs apart free old a b i j e =
    by_both (in_inserted install_before (record { tid = t; number = n; writes = w }) a (due_installs commits rs) i) (in_inserted install_before (record { tid = t; number = n; writes = w }) b (due_installs commits rs) j)
  where
    open_both : (x y : Install) → record { tid = t; number = n; writes = w } ≡ x → In y (due_installs commits rs) → y.number ≡ x.number → ⊥
    open_both x y same k f = free (bound_due commits t n rs y apart k (f ∙ sym (ap (λ (z : Install). z.number) same)))

    by_both : (record { tid = t; number = n; writes = w } ≡ a) ⊎ In a (due_installs commits rs) → (record { tid = t; number = n; writes = w } ≡ b) ⊎ In b (due_installs commits rs) → a ≡ b
    by_both (inl p) (inl q) = sym p ∙ q
    by_both (inl p) (inr k) = absurd (open_both a b p k (sym e))
    by_both (inr k) (inl q) = absurd (open_both b a q k e)
    by_both (inr k) (inr l) = old a b k l e

pub dues_differ : (commits : Tid → Bool) (rs : List SiteRecord) → TellApart rs → BindOnce rs → NumbersDiffer (due_installs commits rs)
dues_differ commits [] a once = λ x y i. absurd i
dues_differ commits (Local t n w ∷ rs) a once = more_differ commits t n w rs a.0 once.0 (dues_differ commits rs a.1 once.1)
dues_differ commits (Prepared t e n k w ∷ rs) a once = by_test (commits t) (dues_differ commits rs a.1 once.1)
  where
    by_test : (b : Bool) → NumbersDiffer (due_installs commits rs)
        → NumbersDiffer (cond b (by_number (record { tid = t; number = n; writes = w }) (due_installs commits rs)) (due_installs commits rs))
    by_test true old = more_differ commits t n w rs a.0 once.0 old
    by_test false old = old
dues_differ commits (Setup site engine protocol items ∷ rs) a once = dues_differ commits rs a once
dues_differ commits (Start e ∷ rs) a once = dues_differ commits rs a once
dues_differ commits (Ended t d ∷ rs) a once = dues_differ commits rs a once
dues_differ commits (Checkpoint sum ∷ rs) a once = dues_differ commits rs a once
