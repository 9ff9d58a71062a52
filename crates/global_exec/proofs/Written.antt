-- A write through the map at a name is a change of the attempt of that name.
use Rattle.std.proofs.Common.{◌≡◌, Some, None, List, sym, ap, ◌∙◌, subst}
use Rattle.std.specs.Map.{values_of, lookup, set_value}
use Rattle.mdb_base.specs.declared.names.Tid.{Tid}
use Rattle.global_exec.specs.declared.entries.Name.{Name}
use Rattle.global_exec.specs.Entries.{AreNamed, name_of, same_name}
use Rattle.global_exec.specs.Firsts.{replaced}
use Rattle.global_exec.specs.Live.{Live, is_of, live_of}
use Rattle.global_exec.proofs.Named.{lookup-live, named_set, values-set}

module _ (tid : Tid) (n : Name) (is : n ≡ name_of tid) (es : List (Name × Live)) (named : AreNamed es) (now : List Live) (view : values_of es ≡ now) where
  found_by : lookup (same_name n) es ≡ live_of tid now
  found_by = ap (λ (m : Name). lookup (same_name m) es) is ∙ lookup-live tid es named ∙ ap (live_of tid) view

  pub missing : None ≡ lookup (same_name n) es → live_of tid now ≡ None
  missing e = sym found_by ∙ sym e

  module _ (k w : Live) (there : Some k ≡ lookup (same_name n) es) (new : List (Name × Live)) (set : new ≡ set_value (same_name n) es w) (change : Live → Live) (to : w ≡ change k) (keeps : (change k).tid ≡ k.tid) where
    is_set : new ≡ set_value (same_name (name_of tid)) es w
    is_set = set ∙ ap (λ (m : Name). set_value (same_name m) es w) is

    found_in : live_of tid (values_of es) ≡ Some k
    found_in = ap (live_of tid) view ∙ sym found_by ∙ sym there

    pub named_after : AreNamed new
    named_after = subst AreNamed (sym is_set) (named_set tid es k w named found_in (ap (λ (v : Live). v.tid) to ∙ keeps))

    pub values_after : values_of new ≡ replaced (is_of tid) change now
    values_after = ap values_of is_set ∙ values-set tid change es k w named found_in to ∙ ap (replaced (is_of tid) change) view
