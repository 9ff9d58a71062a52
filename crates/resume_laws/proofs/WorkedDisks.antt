-- Usable disks, disks that are usable each and contradict each other, and the sessions that go on from them.
use Rattle.std.proofs.Common.{◌≡◌, ℕ, ◌⊎◌, [], ◌∷◌, reverse, refl, sym, ap, subst, ◌∙◌, inl, inr, arith}
use Rattle.mdb_base.specs.declared.names.Tx.{Tx}
use Rattle.mdb_base.proofs.ForCallers.{some_parts}
use Rattle.order_laws.specs.Tickets.{HasNoCycle}
use Rattle.fed_rules.specs.declared.records.CoordRecord.{CoordRecord}
use Rattle.fed_rules.specs.Found.{Journal}
use Rattle.fed_rules.specs.Resumed.{plan_of, resumed_lines}
use Rattle.fed_rules.specs.Scenarios.{protocols}
use Rattle.fed_rules.specs.Usable.{AreUnnamed, IsUsableCoordinator, IsUsableSite}
use Rattle.fed_rules.proofs.ForCallers.{opened}
use Rattle.found_laws.specs.FoundSessions.{AreUsable}
use Rattle.resume_laws.specs.WorkedDisks.{begun, one_local, two_disks, worked_lines}

none_among : ⊥ ⊎ (⊥ ⊎ ⊥) → ⊥
none_among (inl e) = e
none_among (inr (inl e)) = e
none_among (inr (inr e)) = e

no_cycle : HasNoCycle []
no_cycle t [] c = c.some refl
no_cycle t (e ∷ es) c = c.edges.0.has_from

-- whichever transaction is begun, each disk alone is usable
pub usable_coordinator : (tx : ℕ) → IsUsableCoordinator (protocols (plan_of (two_disks tx))) (begun tx).records
usable_coordinator tx = record {
  below = (tt, tt);
  sums = tt;
  order = ((λ i. i), tt);
  once = tt;
  sums_of_open = (tt, tt);
  sites = ((inl refl, tt), tt);
  cycle_free = no_cycle;
}

pub usable_site : IsUsableSite 1 one_local.records
usable_site = record {
  below = ((omega arith, omega arith), (omega arith, (tt, tt)));
  within = (tt, (tt, (tt, tt)));
  first = refl;
  set_up = tt;
  sums = tt;
  epochs = (omega arith, tt);
  once = (none_among, tt);
  numbers_differ = ((λ i. i), tt);
  tickets_rise = tt;
  parted = λ tx l g. elim g [ inl e ↦ absurd e | inr e ↦ elim e [ inl f ↦ absurd f | inr f ↦ elim f [ inl h ↦ absurd h | inr h ↦ absurd h ] ] ];
  doubts_apart = ((λ a b i j n. absurd i), ((λ a b i j n. absurd i), ((λ a b i j n. absurd i), (λ a b i j n. absurd i))));
  clear = (tt, (tt, (tt, tt)));
  on_top = (tt, tt);
  sums_of_some = (tt, (tt, (tt, tt)));
}

-- the local transaction isn't the one that is begun
is_another : AreUnnamed (begun 2).records one_local.records
is_another tx (inl one) (inl other) = let no : 1 ≡ 2 = ap (λ (t : Tx). t.0) (one ∙ sym other) in absurd (omega (arith, no))
is_another tx (inl one) (inr none) = absurd none
is_another tx (inr none) named = absurd (none_among none)

pub usable : AreUsable (two_disks 2)
usable = record {
  coordinator = begun 2;
  is = refl;
  usable = usable_coordinator 2;
  members = ((tt, tt), tt);
  sites = (1, omega arith, omega arith, usable_site, tt);
  unnamed = (is_another, tt);
}

-- it is
pub foreign : AreUsable (two_disks 1) → ⊥
foreign u =
    let unnamed : AreUnnamed (begun 1).records one_local.records =
    subst (λ (j : Journal CoordRecord). AreUnnamed j.records one_local.records) (sym (some_parts u.is)) u.unnamed.0 in
    unnamed (record { 0 = 1 }) (inl refl) (inl refl)

pub lines_contradict : resumed_lines (two_disks 1) ≡ reverse (worked_lines 1)
unfolding opened
lines_contradict = refl

pub lines_agree : resumed_lines (two_disks 2) ≡ reverse (worked_lines 2)
unfolding opened
lines_agree = refl
