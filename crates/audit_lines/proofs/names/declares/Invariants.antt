use Rattle.std.proofs.Common.{◌≡◌, drop}
use Rattle.fed_rules.specs.Plans.{is_declared}
use Rattle.audit_lines.proofs.names.declares.Given as goal

-- the lines that are left decide
abbrev pub invariant-loop-line : goal.invariant-loop-line
invariant-loop-line l = is_declared l.sites l.site ≡ is_declared (drop l.line-index l.sites) l.site
