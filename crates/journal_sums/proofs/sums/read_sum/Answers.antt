use Rattle.std.proofs.Common.{[], ◌∷◌, ◌∙◌}
use Rattle.std.specs.Prelude.{reverse}
use Rattle.std.proofs.lemmas.Result.{IfOk-weaker}
use Rattle.fed_rules.specs.SiteSums.{behind_sum}
use Rattle.journal_sums.specs.Journals.{base}
use Rattle.journal_sums.proofs.ReadingLaws.{all_read, begins_of, journal_is, never_empty}
use Rattle.journal_sums.proofs.sums.read_sum.Goals as goal

pub unreachable-requires : goal.unreachable-requires
unreachable-requires c = never_empty c.args.records.now c.requires c.in_default.ensures.cases

pub begin-requires : goal.begin-requires
begin-requires c = record {
  home = c.requires.home;
  begins = begins_of c.requires.home c.args.records.now c.in-Some.oldest.now c.in-Some.newer.now c.in-Some.ensures.cases.0 c.requires.journal;
}

pub returns : goal.returns
returns c =
    let records = c.args.records.now in
    let oldest = c.in-Some.oldest.now in
    let newer = c.in-Some.newer.now in
    let split = c.in-Some.ensures.cases.0 in
    IfOk-weaker c.into_sum.result _ _
    (λ sum made home journal.
    let first = c.in_ok-reading.ensures home (begins_of home records oldest newer split journal) in
    let read = all_read c.take_all.new.self home records oldest newer split (c.in_ok-take_all.ensures home (oldest ∷ []) first) in
    made (base home (reverse records)) (behind_sum (reverse records)) read ∙ journal_is home (reverse records)) c.into_sum.ensures
