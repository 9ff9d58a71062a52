-- Lines and reports that are the same are the same text.
use Rattle.std.proofs.Common.{◌++◌, ap₂}
use Rattle.report_text.specs.Spelling.{report_bytes}
use Rattle.line_text.specs.Spelling.{lines_bytes}
use Rattle.replay_laws.specs.Printed.{CommandsPrintAgain}
use Rattle.replay_laws.specs.Replayed.{CommandsGiveAgain}

pub prints_again : CommandsGiveAgain → CommandsPrintAgain
prints_again again scenario commands lines others rest right closed_right =
    let same = again scenario commands lines others rest right closed_right in
    record {
      bare_text = ap₂ (λ ls report. lines_bytes ls ++ report_bytes report) same.bare_lines same.report;
      whole = λ none. ap₂ (λ ls report. lines_bytes ls ++ report_bytes report) (same.whole none) same.report;
    }
