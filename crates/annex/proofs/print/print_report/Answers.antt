-- What is printed of the bytes that came, said of all that the input had left.
use Rattle.std.proofs.Common.{◌≡◌, ℕ, List, ◌++◌, take, IfSome, ap, ◌∙◌, subst}
use Rattle.std.proofs.lemmas.Result.{on_ok_weaker}
use Rattle.std.specs.Io.KnownBytes.{Appends}
use Rattle.report.specs.Reports.{annex_output, output_of}
use Rattle.report.specs.Printed.{PrintedKept}
use Rattle.annex.proofs.Enough.{of_all_left, kept_value, kept_outcome}
use Rattle.annex.proofs.print.print_report.Goals as goal

pub returns-clause-report : goal.returns-clause-report
returns-clause-report g c =
    let text = c.in_ok-text.text.now in
    let grown = c.in_ok-annex.ensures.report in
    let printed : c.as_slice.result.now ≡ annex_output text = c.as_slice.ensures.value ∙ grown.items ∙ ap (λ (l : List ℕ). l ++ annex_output text) c.new-report.ensures.items in
    kept_outcome c.write_all.result c.map_err-2.result _ c.map_err-2.ensures.variant
    (on_ok_weaker c.write_all.result
    (λ appended. of_all_left (g.R.Read.remaining c.args.input.now) text _
    (kept_value c.read_up_to.result c.map_err.result c.in_ok-text.text (λ bytes. IfSome (g.R.Read.remaining c.args.input.now) (λ left. bytes.now ≡ take 65536 left)) _
    c.map_err.ensures.variant c.map_err.ensures.cases c.in_ok-text.was c.read_up_to.ensures.first)
    (λ all same. subst (Appends _ _) (printed ∙ ap output_of same) appended))
    c.write_all.ensures.bytes)

pub returns-clause-every_printed_answer_is_kept : goal.returns-clause-every_printed_answer_is_kept
returns-clause-every_printed_answer_is_kept g c =
    let text = c.in_ok-text.text.now in
    let kept = c.in_ok-annex.ensures.every_printed_answer_is_kept in
    let printed : c.as_slice.result.now ≡ kept.0 = c.as_slice.ensures.value ∙ kept.1.items ∙ ap (λ (l : List ℕ). l ++ kept.0) c.new-report.ensures.items in
    kept_outcome c.write_all.result c.map_err-2.result _ c.map_err-2.ensures.variant
    (on_ok_weaker c.write_all.result
    (λ appended. of_all_left (g.R.Read.remaining c.args.input.now) text _
    (kept_value c.read_up_to.result c.map_err.result c.in_ok-text.text (λ bytes. IfSome (g.R.Read.remaining c.args.input.now) (λ left. bytes.now ≡ take 65536 left)) _
    c.map_err.ensures.variant c.map_err.ensures.cases c.in_ok-text.was c.read_up_to.ensures.first)
    (λ all same. (kept.0, subst (Appends _ _) printed appended, subst (λ r. PrintedKept r kept.0) same kept.2)))
    c.write_all.ensures.bytes)
