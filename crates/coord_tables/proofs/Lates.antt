-- What giving an attempt up comes to.
use Rattle.std.proofs.Common.{◌≡◌, true, false, refl, sym, ap}
use Rattle.mdb_base.specs.declared.names.Tid.{Tid}
use Rattle.mdb_base.specs.Words.{when}
use Rattle.fed_rules.specs.declared.answers.Answer.TheVariants as Say
use Rattle.fed_rules.specs.declared.answers.Cause.TheVariants as For
use Rattle.fed_rules.specs.declared.events.CoordEvent.TheVariants as Ev
use Rattle.fed_rules.specs.Happenings.{quiet}
use Rattle.fed_rules.specs.Coord.{aborts, answered, of_late}
use Rattle.fed_rules.specs.CoordPast.{CoordPast, is_open}
use Rattle.coord_tables.specs.Deciding.{IsAborting}
use Rattle.coord_tables.specs.Terms.{Terms, answer_of}

given_up : (terms : Terms) (past : CoordPast) (tid : Tid) → is_open past tid ≡ true → answer_of terms past (Ev.Late tid) ≡ aborts terms.protocols past (Ev.Late tid) tid For.Late
unfolding answered of_late when
given_up terms past tid e = ap (λ b. when b (aborts terms.protocols past (Ev.Late tid) tid For.Late) (quiet (Ev.Late tid) Say.Idle)) e

pub late_idle : (terms : Terms) (past : CoordPast) (tid : Tid) → is_open past tid ≡ false → answer_of terms past (Ev.Late tid) ≡ quiet (Ev.Late tid) Say.Idle
unfolding answered of_late when
late_idle terms past tid e = ap (λ b. when b (aborts terms.protocols past (Ev.Late tid) tid For.Late) (quiet (Ev.Late tid) Say.Idle)) e

pub late_aborting : (terms : Terms) (past : CoordPast) (tid : Tid) → is_open past tid ≡ true → IsAborting terms past (Ev.Late tid) tid For.Late
late_aborting terms past tid u = record {
  usual = tt;
  numbered = tt;
  undecided = u;
  cause = For.Late;
  line = given_up terms past tid u;
  about = λ t. refl;
  prints = λ x forgets heard e. sym e;
}
