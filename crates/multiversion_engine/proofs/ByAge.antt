-- The first run of a part of the tree that keeps runs by their ages.
use Rattle.std.proofs.Common.{◌≡◌, ℕ, ◌<◌, ◌≤◌, Option, None, is_some, List, [], ◌∷◌, ap, ◌∙◌}
use Rattle.std.specs.declared.ops.Bound.TheVariants.{Included, Excluded}
use Rattle.std.specs.Ordering.{nat_cmp}
use Rattle.std.specs.FinMap.{from_entries, get}
use Rattle.std.specs.BTreeMap.{BTreeMap}
use Rattle.std.specs.BTreeMap.Range.{IsRangeOf}
use Rattle.std.proofs.lemmas.Map.Keys.{le_from_not_gt}
use Rattle.mdb_base.specs.declared.names.Tid.{Tid}
use Rattle.mdb_base.proofs.ForCallers.{le-nat_cmp, less-nat_cmp, nat_cmp-less}
use Rattle.run_book.proofs.ForCallers.{get_look}
use Rattle.multiversion_engine.specs.Unended.{HasAgeWithin}

-- the first run of a part of the tree, and none there
pub some_within : (from until : ℕ) (m : BTreeMap ℕ Tid) (r rest : List (ℕ × Tid)) (e : ℕ × Tid) →
    IsRangeOf nat_cmp (Excluded from) (Included until) m r → r ≡ e ∷ rest → HasAgeWithin (from_entries m.entries) from until
some_within from until m [] rest e h is = cc
some_within from until m (x ∷ xs) rest e h is = record {
  age = x.0;
  above = nat_cmp-less from x.0 h.1.0.0;
  within = le_from_not_gt x.0 until h.1.0.1;
  there = ap (λ (o : Option Tid). is_some o) (get_look m.entries x.0 ∙ h.1.1);
}

pub none_within : (from until : ℕ) (m : BTreeMap ℕ Tid) (r : List (ℕ × Tid)) → IsRangeOf nat_cmp (Excluded from) (Included until) m r → r ≡ [] →
    (age : ℕ) → from < age → age ≤ until → get (from_entries {R = nat_cmp} m.entries) age ≡ None
none_within from until m r h is age above within = get_look m.entries age ∙ h.5 is age (less-nat_cmp from age above, le-nat_cmp age until within)
