use Rattle.std.proofs.Common.{Some, None, cond, not, map, sym, ap, ◌∙◌}
use Rattle.mdb_base.specs.Words.{some_of}
use Rattle.fed_rules.specs.CoordRecords.{is_nobody, required_of}
use Rattle.protocol_table.specs.Attempts.{member_acks, participant_of}
use Rattle.protocol_table.proofs.Required.{nobody_acks}
use Rattle.protocol_table.proofs.known.Known.forgets_at_once.Goals as goal

pub returns : goal.returns
returns c =
    let members = c.args.self.now.members in
    ap not (c.some_acks.ensures ∙ ap (some_of (member_acks c.args.decision)) c.as_slice.ensures)
    ∙ sym (nobody_acks c.args.decision members)
    ∙ sym (ap (λ b. is_nobody (required_of c.args.decision (cond b (Some (map participant_of members)) None))) c.if-not-self.false)
