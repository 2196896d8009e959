-- Worked examples of the kinds of lines: which word names each, below what each may stand, and how
-- many words it may have.
use Rattle.std.specs.Prelude.{◌≡◌, ℕ, List, [], ◌∷◌, map, filter, codes, Some, None, Option}
use Rattle.std.specs.List.{range_with_len}
use Rattle.scheme.specs.declared.kind.Kind.{Kind}
use Rattle.scheme.specs.declared.kind.Kind.TheVariants.{Attr, Right, Object, Policy, If, Do, Query}
use Rattle.lines.specs.Kinds.{kind_in, in_order, count_allowed}

-- none of the words names a kind
abbrev pub Unknown : List (List ℕ) → Type 0
Unknown words = map kind_in words ≡ map (λ w. None) words

-- what may stand above a line: nothing, or a line of a kind
abbrev pub all_above : List (Option Kind)
all_above =
    None
    ∷ Some Attr ∷ Some Right ∷ Some Object ∷ Some Policy ∷ Some If ∷ Some Do ∷ Some Query ∷ []

-- those of them below which a line of this kind may stand
abbrev pub stands_below : Kind → List (Option Kind)
stands_below k = filter (λ last. in_order last k) all_above

-- the counts of words, up to 9, that a line of this kind may have, with so many attributes
abbrev pub counts : Kind → ℕ → List ℕ
counts k attributes = filter (count_allowed k attributes) (range_with_len 0 10)

pub record Order : Type 0 where
  pub attr_word : kind_in (codes "attr") ≡ Some Attr
  pub right_word : kind_in (codes "right") ≡ Some Right
  pub object_word : kind_in (codes "object") ≡ Some Object
  pub policy_word : kind_in (codes "policy") ≡ Some Policy
  pub if_word : kind_in (codes "if") ≡ Some If
  pub do_word : kind_in (codes "do") ≡ Some Do
  pub query_word : kind_in (codes "query") ≡ Some Query
  pub misspelled : Unknown (codes "atr" ∷ codes "attrs" ∷ codes "Attr" ∷ codes "rigth" ∷ codes "obj"
      ∷ codes "policies" ∷ codes "If" ∷ codes "doo" ∷ codes "queri" ∷ [])
  pub other_words : Unknown (codes "null" ∷ codes "to" ∷ codes "destroy" ∷ codes "s.a" ∷ codes "7"
      ∷ codes "-" ∷ codes "=" ∷ [])
  -- all of the order: each kind below each other, and below nothing
  pub attr_below : stands_below Attr ≡ None ∷ Some Attr ∷ []
  pub right_below : stands_below Right ≡ None ∷ Some Attr ∷ Some Right ∷ []
  pub object_below : stands_below Object ≡ None ∷ Some Attr ∷ Some Right ∷ Some Object ∷ []
  pub policy_below : stands_below Policy
      ≡ None ∷ Some Attr ∷ Some Right ∷ Some Object ∷ Some Policy ∷ Some If ∷ Some Do ∷ []
  pub if_below : stands_below If ≡ Some Policy ∷ Some If ∷ []
  pub do_below : stands_below Do ≡ Some Policy ∷ Some If ∷ Some Do ∷ []
  pub query_below : stands_below Query ≡ all_above
  -- an object has a word for each attribute, and two more
  pub attr_counts : counts Attr 2 ≡ 3 ∷ []
  pub right_counts : counts Right 2 ≡ 2 ∷ []
  pub object_counts : map (counts Object) (0 ∷ 1 ∷ 4 ∷ []) ≡ (2 ∷ []) ∷ (3 ∷ []) ∷ (6 ∷ []) ∷ []
  pub policy_counts : counts Policy 2 ≡ 3 ∷ []
  pub if_counts : counts If 2 ≡ 3 ∷ 4 ∷ []
  pub do_counts : counts Do 2 ≡ 3 ∷ 4 ∷ []
  pub query_counts : counts Query 2 ≡ 4 ∷ []
