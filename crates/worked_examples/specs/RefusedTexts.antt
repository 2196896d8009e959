-- Worked examples of refused texts: what `annex` prints for each fault. Most faults stand below a
-- blank line and behind two spaces, so that number, line and place all differ.
use Rattle.std.specs.Prelude.{◌≡◌, ℕ, ◌<◌, List, [], ◌∷◌, ◌++◌, length, codes}
use Rattle.report.specs.Reports.{annex_output}
use Rattle.worked_examples.specs.Texts.{too_many, two_objects, one_policy, six_predicates, four_attributes}

pub record RefusedTexts : Type 0 where
  -- 1: a byte that no line may have, at its place
  pub tab : annex_output (two_objects ++ codes "\n  query x y\tr\n") ≡ codes "refused 1 6 12\n"
  pub byte_127 : annex_output (two_objects ++ codes "\n  policy p\u{7f} r\n")
      ≡ codes "refused 1 6 11\n"
  pub byte_255 : annex_output (two_objects ++ (codes "\n  query x y r" ++ (255 ∷ codes "\n")))
      ≡ codes "refused 1 6 14\n"
  pub carriage_return : annex_output (codes "attr a 2\r\nright r\r\n") ≡ codes "refused 1 1 9\n"
  -- 2: a word of 18 bytes
  pub long_word : annex_output (two_objects ++ codes "\n  query x abcdefghijklmnopqr r\n")
      ≡ codes "refused 2 6 11\n"
  -- 4: more than 65,535 bytes, whatever they are
  pub long_text :
      (text : List ℕ) → 65535 < length text → annex_output text ≡ codes "refused 4 0 0\n"
  -- 10: an unknown first word, or a line out of order
  pub unknown : annex_output (two_objects ++ codes "\n  rule p r\n") ≡ codes "refused 10 6 3\n"
  pub attribute_too_late : annex_output (two_objects ++ codes "\n  attr b 2\n")
      ≡ codes "refused 10 6 3\n"
  pub if_without_policy : annex_output (two_objects ++ codes "\n  if s.a = 0\n")
      ≡ codes "refused 10 6 3\n"
  pub if_below_do : annex_output (one_policy ++ codes "do s.a to 0\n\n  if s.a = 0\n")
      ≡ codes "refused 10 8 3\n"
  -- 11: a wrong count of words
  pub query_of_three : annex_output (two_objects ++ codes "\n  query x y\n")
      ≡ codes "refused 11 6 3\n"
  pub object_of_four : annex_output (two_objects ++ codes "\n  object z 0 0\n")
      ≡ codes "refused 11 6 3\n"
  -- 12: a word of a form that it may not have
  pub no_name : annex_output (two_objects ++ codes "\n  query x  Y r\n") ≡ codes "refused 12 6 12\n"
  pub no_comparison : annex_output (one_policy ++ codes "\n  if s.a == 0\n")
      ≡ codes "refused 12 7 10\n"
  -- of two such words the leftmost; what stands behind a verb that is none is not judged
  pub no_verb : annex_output (one_policy ++ codes "\n  do s.a is X\n") ≡ codes "refused 12 7 10\n"
  -- 20: a new name that its kind already has
  pub used_object : annex_output (two_objects ++ codes "\n  object  x 1\n")
      ≡ codes "refused 20 6 11\n"
  pub used_policy : annex_output (one_policy ++ codes "\n  policy p r\n")
      ≡ codes "refused 20 7 10\n"
  -- 21: a right, an object or a term's attribute that is not declared
  pub no_right : annex_output (two_objects ++ codes "\n  policy p  q\n") ≡ codes "refused 21 6 13\n"
  pub no_object : annex_output (two_objects ++ codes "\n  query x z r\n")
      ≡ codes "refused 21 6 11\n"
  pub no_attribute : annex_output (one_policy ++ codes "\n  if   s.b = 0\n")
      ≡ codes "refused 21 7 8\n"
  pub no_attribute_of_operand : annex_output (one_policy ++ codes "\n  if s.a = o.b\n")
      ≡ codes "refused 21 7 12\n"
  -- 22: a size that is not 1 to 250, a value that is not below its size
  pub size_0 : annex_output (codes "\n  attr a 0\n") ≡ codes "refused 22 2 10\n"
  pub size_251 : annex_output (codes "\n  attr a 251\n") ≡ codes "refused 22 2 10\n"
  pub value_at_the_size : annex_output (two_objects ++ codes "\n  object z 2\n")
      ≡ codes "refused 22 6 12\n"
  -- 23: a fifth attribute, a seventh predicate
  pub fifth_attribute : annex_output (four_attributes ++ codes "\n  attr e 1\n")
      ≡ codes "refused 23 6 3\n"
  pub seventh_predicate : annex_output (one_policy ++ (six_predicates ++ codes "\n  if s.a set\n"))
      ≡ codes "refused 23 13 3\n"
  -- 24: no attribute, no right, no object; at the line after the last
  pub without_attribute : annex_output (codes "right r\n  object x\n") ≡ codes "refused 24 3 1\n"
  pub without_right : annex_output (codes "attr a 2\n\n  object x 0\n") ≡ codes "refused 24 4 1\n"
  pub without_object : annex_output (codes "attr a 2\n\n  right r\n\n") ≡ codes "refused 24 5 1\n"
  pub empty_text : annex_output [] ≡ codes "refused 24 1 1\n"
  pub single_line_end : annex_output (codes "\n") ≡ codes "refused 24 2 1\n"
  -- 25: more than 1,048,576 states; at the line after the last
  pub many_states : annex_output (too_many ++ codes "\n") ≡ codes "refused 25 7 1\n"
