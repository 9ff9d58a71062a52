use Rattle.std.proofs.Common.{◌≡◌, length}
use Rattle.line_text.specs.Fits as fits
use Rattle.trace_lines.proofs.fits.sites_rise.Given as goal

-- the places that are left rise exactly where all do
abbrev pub invariant-loop-rest : goal.invariant-loop-rest
invariant-loop-rest l = fits.sites_rise l.rest ≡ fits.sites_rise l.places

abbrev pub decreases-loop-rest : goal.decreases-loop-rest
decreases-loop-rest l = length l.rest
