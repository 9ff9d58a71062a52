use Rattle.std.proofs.Common.{◌<◌, None, false, length, slice_set, get_or, ◌∙◌, ap, arith}
use Rattle.std.proofs.lemmas.List.{get_or_default}
use Rattle.std.proofs.lemmas.List.Edits.{map_over_more}
use Rattle.presumptions.specs.declared.Protocol.TheVariants as By
use Rattle.protocol_table.specs.declared.members.Member.{Member}
use Rattle.protocol_table.specs.Attempts.{with_vote}
use Rattle.protocol_table.proofs.members.note_vote.Goals as goal

abbrev nothing : Member
nothing = record { site = record { 0 = 0 }; protocol = By.Nothing; vote = None; acked = false }

pub loop-member-preserved : goal.loop-member-preserved
loop-member-preserved c =
    let i = c.loop-member.member-index in
    let ys = c.loop-member.members in
    let x = get_or ys i nothing in
    let within : i < length ys = omega arith in
    ap (λ (m : Member). slice_set ys i m) c.with_vote.ensures
    ∙ map_over_more (with_vote c.args.site c.args.ticket) c.args.members.now ys i x (omega arith) c.loop-member.invariant (get_or_default ys i nothing x within)
