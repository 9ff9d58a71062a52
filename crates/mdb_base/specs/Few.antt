-- Where the items of a short list lie.
use Rattle.std.specs.Prelude.{List, [], ◌∷◌}
use Rattle.mdb_base.specs.declared.few.Held.{Held}
use Rattle.mdb_base.specs.declared.few.Held.TheVariants as held

-- the items in their order
abbrev pub held_items : {T : Type 0} → Held T → List T
held_items held.Nothing = []
held_items (held.One item) = item ∷ []
held_items (held.Many items) = items.items
