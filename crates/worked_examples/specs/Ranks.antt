-- Worked examples of two faults in one line, or in a whole text: which of them is reported.
use Rattle.std.specs.Prelude.{◌≡◌, ◌++◌, codes}
use Rattle.report.specs.Reports.{annex_output}
use Rattle.worked_examples.specs.Texts.{one_policy, four_attributes}

pub record Ranks : Type 0 where
  pub byte_before_length : annex_output (codes "abcdefghijklmnopqr\t\n") ≡ codes "refused 1 1 19\n"
  pub length_before_kind : annex_output (codes "foo abcdefghijklmnopqr\n") ≡ codes "refused 2 1 5\n"
  pub order_before_count : annex_output (codes "right r\nattr a\n") ≡ codes "refused 10 2 1\n"
  pub count_before_form : annex_output (codes "attr A\n") ≡ codes "refused 11 1 1\n"
  pub form_before_most : annex_output (four_attributes ++ codes "attr A 2\n")
      ≡ codes "refused 12 5 6\n"
  pub most_before_name : annex_output (four_attributes ++ codes "attr a 0\n")
      ≡ codes "refused 23 5 1\n"
  pub form_before_value : annex_output (codes "attr a 2\nattr b 2\nobject x 9 X\n")
      ≡ codes "refused 12 3 12\n"
  -- names and values rank alike: the leftmost word counts
  pub name_left_of_size : annex_output (codes "attr a 2\nattr a 0\n") ≡ codes "refused 20 2 6\n"
  pub name_left_of_right : annex_output (one_policy ++ codes "policy p q\n")
      ≡ codes "refused 20 6 8\n"
  pub leftmost_value : annex_output (codes "attr a 2\nattr b 2\nobject x 2 3\n")
      ≡ codes "refused 22 3 10\n"
  pub undeclared_subject_first : annex_output (one_policy ++ codes "query u v w\n")
      ≡ codes "refused 21 6 7\n"
  -- the first faulty line decides, and the end of the text comes last
  pub first_line : annex_output (codes "attr a 0\n\t\n") ≡ codes "refused 22 1 8\n"
  pub line_before_end : annex_output (codes "attr a 2\nfoo\n") ≡ codes "refused 10 2 1\n"
  pub kinds_before_states :
      annex_output (codes "attr a 250\nattr b 250\nattr c 250\nattr d 250\nobject x 0 0 0 0\n")
      ≡ codes "refused 24 6 1\n"
