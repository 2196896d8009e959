-- The counts, and then the answers.
use Rattle.protection.specs.Systems.{system_of}
use Rattle.render.proofs.Appending.{short_first, at_exit, appended_then}
use Rattle.report.specs.Reports.{scheme_line}
use Rattle.report.proofs.whole.put_report.Goals as goal

pub returns-in_err-put_counts : goal.returns-in_err-put_counts
returns-in_err-put_counts g c =
    at_exit _ _ _ _ c.from_residual.ensures.0
    (short_first _ _ (scheme_line (system_of (g.S.Walk.model c.args.system.now) (g.S.System.labels c.args.system.now))) _
    c.in_err-put_counts.ensures)

pub returns : goal.returns
returns g c =
    appended_then _ _ _ _ (scheme_line (system_of (g.S.Walk.model c.args.system.now) (g.S.System.labels c.args.system.now))) _
    c.in_ok-put_counts.ensures c.put_answers.ensures
