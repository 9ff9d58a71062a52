use Rattle.std.proofs.Common.{List, ap₂, ◌∙◌}
use Rattle.std.proofs.lemmas.Slice.Eq.{slice_eq-Decides}
use Rattle.std.specs.Cmp.Lexicographic.{pointwise}
use Rattle.presumptions.specs.declared.Participant.{Participant}
use Rattle.usable_journals.specs.CoordTests.{same_member}
use Rattle.usable_journals.proofs.SameLists.{member_decides}
use Rattle.usable_journals.proofs.coord_sums.same_participants.Goals as goal

pub returns : goal.returns
returns c =
    slice_eq-Decides member_decides c.args.one.now c.args.other.now c.members_match.result
    (c.members_match.ensures ∙ ap₂ (λ (xs ys : List Participant). pointwise same_member xs ys) c.as_slice.ensures.items c.as_slice-2.ensures.items)
