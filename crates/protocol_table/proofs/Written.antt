-- A write through the map at a name is a change of the attempt of that name.
use Rattle.std.proofs.Common.{◌≡◌, Some, None, List, sym, ap, ◌∙◌, subst}
use Rattle.std.specs.Map.{values_of, lookup, set_value}
use Rattle.mdb_base.specs.declared.names.Tid.{Tid}
use Rattle.protocol_table.specs.declared.entries.Name.{Name}
use Rattle.protocol_table.specs.declared.known.Known.{Known}
use Rattle.protocol_table.specs.Attempts.{known_of, changed}
use Rattle.protocol_table.specs.Entries.{AreNamed, HaveOwnNames, name_of, same_name}
use Rattle.protocol_table.proofs.Named.{lookup-known, named_set, values-set}

module _ (tid : Tid) (n : Name) (is : n ≡ name_of tid) (es : List (Name × Known)) (named : AreNamed es) (now : List Known) (view : values_of es ≡ now) where
  found_by : lookup (same_name n) es ≡ known_of tid now
  found_by =
      ap (λ (m : Name). lookup (same_name m) es) is ∙ lookup-known tid es named ∙ ap (known_of tid) view

  pub missing : None ≡ lookup (same_name n) es → known_of tid now ≡ None
  missing e = sym found_by ∙ sym e

  module _ (apart : HaveOwnNames es) (k w : Known) (there : Some k ≡ lookup (same_name n) es) (new : List (Name × Known)) (set : new ≡ set_value (same_name n) es w) (change : Known → Known) (to : w ≡ change k) (keeps : (change k).tid ≡ k.tid) where
    pub found : known_of tid now ≡ Some k
    found = sym found_by ∙ sym there

    is_set : new ≡ set_value (same_name (name_of tid)) es w
    is_set = set ∙ ap (λ (m : Name). set_value (same_name m) es w) is

    found_in : known_of tid (values_of es) ≡ Some k
    found_in = ap (known_of tid) view ∙ found

    pub named_after : AreNamed new
    named_after = subst AreNamed (sym is_set) (named_set tid es k w named found_in (ap (λ (v : Known). v.tid) to ∙ keeps))

    pub values_after : values_of new ≡ changed tid change now
    values_after = ap values_of is_set ∙ values-set tid change es k w named apart found_in to ∙ ap (changed tid change) view
