-- Worked examples of whole reports, byte by byte.
use Rattle.std.specs.Prelude.{◌≡◌, codes}
use Rattle.text.specs.Writing.{written}
use Rattle.report.specs.Reports.{annex_output}
use Rattle.worked_examples.specs.Limits.{Declares}
use Rattle.worked_examples.specs.Declared.{every_clause}
use Rattle.worked_examples.specs.Meter.{Meter}
use Rattle.worked_examples.specs.Handover.{Handover}
use Rattle.worked_examples.specs.Texts.{meter, meter_report, handover, handover_report, most, answered, unanswered, unanswered_report}

pub record Reports : Type 0 where
  pub meter_is : Declares meter Meter
  pub meter_prints : annex_output meter ≡ meter_report
  -- it is the text that its scheme is written as
  pub meter_is_written : Declares meter (λ m. written m ≡ meter)
  pub handover_is : Declares handover Handover
  pub handover_prints : annex_output handover ≡ handover_report
  pub handover_is_written : Declares handover (λ m. written m ≡ handover)
  -- and so it is with one that has every form of a line
  pub every_clause_is_written : Declares every_clause (λ m. written m ≡ every_clause)
  -- the most states that a scheme may have, and no query
  pub most_prints : annex_output most ≡ codes "scheme 1048576 0\n"
  -- as many states as the tables have entries, and more: (1 + 63) × (1 + 63), (1 + 3 × 22) × (1 + 3 × 22)
  pub answered_prints : annex_output answered ≡ codes "scheme 4096 0\nnever x y r 1 0\n"
  pub unanswered_prints : annex_output unanswered ≡ unanswered_report
