use Rattle.std.proofs.Common.{◌≡◌, Option, Some, None, is_some, refl, sym, ap, ◌∙◌}
use Rattle.mdb_base.specs.Words.{map_some}
use Rattle.actor_store.specs.Store.{trip_of_rules}
use Rattle.site_core.proofs.site.SiteCore.is_armed.Goals as goal

some_map : {A B : Type 0} (f : A → B) (o : Option A) → is_some (map_some f o) ≡ is_some o
some_map f None = refl
some_map f (Some x) = refl

pub returns : goal.returns
returns g c = λ home past h. c.is_some.ensures ∙ sym (some_map trip_of_rules c.args.self.now.store.trip) ∙ ap is_some h.memory.trip
