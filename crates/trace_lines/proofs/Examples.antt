-- Bytes and the lines that they are read as, by evaluation.
use Rattle.std.proofs.Common.{◌≡◌, ℕ, false, [], ◌∷◌, Some, None, refl}
use Rattle.std.specs.Prelude.{codes}
use Rattle.mdb_base.specs.declared.names.SiteId.{SiteId}
use Rattle.mdb_base.specs.declared.names.Tid.{Tid}
use Rattle.mdb_base.specs.declared.replies.Edge.{Edge}
use Rattle.presumptions.specs.declared.Decision.TheVariants as Final
use Rattle.fed_rules.specs.declared.commands.Command.TheVariants as Ask
use Rattle.fed_rules.specs.declared.commands.Place.{Place}
use Rattle.fed_rules.specs.declared.answers.Answer.TheVariants as Say
use Rattle.fed_rules.specs.declared.answers.Cause.TheVariants as Because
use Rattle.trace_lines.specs.Lexed.{line_in}
use Rattle.trace_lines.proofs.Opened.{opened}

site : ℕ → SiteId
site n = record { 0 = n }

attempt_of : ℕ → Tid
attempt_of tx = record { tx = record { 0 = tx }; attempt = 0 }

edge : ℕ → ℕ → ℕ → Edge
edge from to n = record { from = attempt_of from; to = attempt_of to; site = site n }

place : ℕ → ℕ → Place
place n at = record { site = site n; place = at }

a_cycle_with_its_places : line_in (codes "take 1 5 => decides abort cycle 2.0>1.0@2 1.0>2.0@1 sends 1/7 2/8")
    ≡ Some (record {
      command = Ask.Take (site 1) 5;
      answer = Say.Decides Final.Abort (Some (Because.Cycle (edge 2 1 2 ∷ edge 1 2 1 ∷ []))) false;
      sends = place 1 7 ∷ place 2 8 ∷ [];
    })
unfolding opened site attempt_of edge place
a_cycle_with_its_places = refl

a_leading_zero_is_no_number : line_in (codes "step 01 => end") ≡ None
unfolding opened
a_leading_zero_is_no_number = refl

two_spaces_are_no_gap : line_in (codes "step 1  => end") ≡ None
unfolding opened
two_spaces_are_no_gap = refl

an_answer_of_another_command_is_none : line_in (codes "step 1 => set") ≡ None
unfolding opened
an_answer_of_another_command_is_none = refl
