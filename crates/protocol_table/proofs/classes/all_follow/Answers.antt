use Rattle.std.proofs.Common.{rules, tests, sym, ◌∙◌}
use Rattle.std.proofs.lemmas.Iterator.{YieldsList-from_slice}
use Rattle.std.proofs.lemmas.Iterator.Search.{all_from_yields_List}
use Rattle.mdb_base.proofs.ForCallers.{each_of-list_all}
use Rattle.presumptions.specs.declared.Participant.{Participant}
use Rattle.fed_rules.specs.CoordRecords.{same_protocol}
use Rattle.protocol_table.specs.declared.members.Member.{Member}
use Rattle.protocol_table.specs.Attempts.{participant_of}
use Rattle.protocol_table.proofs.Words.{each_of_map}
use Rattle.protocol_table.proofs.classes.all_follow.Goals as goal

pub returns : goal.returns
returns c =
    all_from_yields_List (λ (m : Member). same_protocol m.protocol c.args.protocol) _ _ _ c.all.ensures.ran (YieldsList-from_slice c.args.members.now cc) (λ x b q k. search (rules, tests))
    ∙ (sym (each_of-list_all (λ (m : Member). same_protocol m.protocol c.args.protocol) c.args.members.now)
    ∙ sym (each_of_map (λ (p : Participant). same_protocol p.protocol c.args.protocol) participant_of c.args.members.now))
