use Rattle.std.proofs.Common.{◌≡◌, sym, subst, Ok, Err, Result}
use Rattle.scheme.specs.Models.{SchemeModel}
use Rattle.record.specs.Schemes.{scheme_of}
use Rattle.record.specs.SystemLaws.{scheme_bounds}
use Rattle.text.specs.declared.fault.SchemeFault.{SchemeFault}
use Rattle.text.specs.Faults.{scheme_report}
use Rattle.text.specs.Reading.{reading}
use Rattle.text.proofs.Sound.{reading_asked}
use Rattle.text.proofs.Limits.{reading_writable}
use Rattle.record.specs.Systems.{scheme_system}
use Rattle.words.specs.declared.fault.Report.{Report}
use Rattle.render.specs.Appended.{Appended}
use Rattle.report.specs.Answers.{refused_line}
use Rattle.report.specs.Reports.{report_lines}
use Rattle.report.specs.Printed.{PrintedKept}
use Rattle.report.proofs.Printed.{report_kept, refusal_bytes}
use Rattle.report.proofs.Readings.{read_one_way}
use Rattle.report.proofs.output.annex.Goals as goal

pub returns-in-Ok-clause-every_printed_answer_is_kept : goal.returns-in-Ok-clause-every_printed_answer_is_kept
returns-in-Ok-clause-every_printed_answer_is_kept c =
    let m : SchemeModel = scheme_of c.read.new.scheme in
    let read : reading c.args.text.now ≡ Ok m = sym c.in-Ok.ensures.result in (
      report_lines m (scheme_system m),
      subst (λ (d : SchemeModel). Appended c.put_report.result c.args.out.now c.put_report.new.out (report_lines d (scheme_system m))) c.draft.ensures
          c.put_report.ensures,
      subst (λ (r : Result SchemeModel SchemeFault). PrintedKept r (report_lines m (scheme_system m))) (sym read)
          (report_kept m (scheme_bounds c.read.new.scheme) (λ i q asked. reading_asked c.args.text.now m read i q asked)),
    )

pub returns-in-Err-clause-every_printed_answer_is_kept : goal.returns-in-Err-clause-every_printed_answer_is_kept
returns-in-Err-clause-every_printed_answer_is_kept c =
    let read : reading c.args.text.now ≡ Err c.in-Err.fault = sym c.in-Err.ensures.result in (
      refused_line (scheme_report c.in-Err.fault),
      subst (λ (r : Report). Appended c.put_refusal.result c.args.out.now c.put_refusal.new.out (refused_line r)) c.report.ensures
          c.put_refusal.ensures.line,
      subst (λ (r : Result SchemeModel SchemeFault). PrintedKept r (refused_line (scheme_report c.in-Err.fault))) (sym read)
          (refusal_bytes (scheme_report c.in-Err.fault)),
    )

pub returns-in-Ok-clause-read_one_way : goal.returns-in-Ok-clause-read_one_way
returns-in-Ok-clause-read_one_way c m read = read_one_way m (reading_writable c.args.text.now m read)
