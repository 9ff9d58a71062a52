use Rattle.std.proofs.Common.{[], ◌∷◌, sym, subst}
use Rattle.std.proofs.lemmas.Result.{on_ok_weaker}
use Rattle.mdb_base.specs.Words.{some_of}
use Rattle.fed_rules.specs.declared.records.CoordRecord.{CoordRecord}
use Rattle.fed_rules.specs.Usable.{coord_read}
use Rattle.usable_journals.specs.Named.{AddsTo, is_attempt_of}
use Rattle.usable_journals.proofs.NamedLaws.{adds_first_sum}
use Rattle.usable_journals.proofs.unnamed.add_first.Goals as goal

pub returns-in-Checkpoint : goal.returns-in-Checkpoint
returns-in-Checkpoint c =
    on_ok_weaker c.add_sum.result
    (λ h. subst (λ (e : CoordRecord). AddsTo (λ tx. some_of (is_attempt_of tx) (coord_read (e ∷ []))) c.args.names.now c.add_sum.new.names) (sym c.in-Checkpoint.is)
    (adds_first_sum c.in-Checkpoint.sum c.args.names.now c.add_sum.new.names h)) c.add_sum.ensures
