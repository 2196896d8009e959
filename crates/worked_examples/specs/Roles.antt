-- Worked examples of roles: what each word of a line is, and which words may stand for it.
use Rattle.std.specs.Prelude.{◌≡◌, ℕ, ◌-◌, List, [], ◌∷◌, ◌++◌, map, filter, length, codes}
use Rattle.std.specs.List.{range_with_len}
use Rattle.scheme.specs.declared.kind.Kind.{Kind}
use Rattle.scheme.specs.declared.kind.Kind.TheVariants.{Attr, Right, Object, Policy, If, Do, Query}
use Rattle.words.specs.Cuts.{words_of}
use Rattle.words.specs.Tokens.{form_of}
use Rattle.lines.specs.declared.role.Role.{Role}
use Rattle.lines.specs.declared.role.Role.TheVariants as role
use Rattle.lines.specs.declared.role.Instead.TheVariants.{Nothing, Number, NumberOrDash}
use Rattle.lines.specs.declared.role.Key.TheVariants.{Test, Verb, Destroy, Party}
use Rattle.lines.specs.Roles.{role_at, fits}
use Rattle.worked_examples.specs.Cutting.{line}

-- the roles of the words of a line behind its first
abbrev pub roles : Kind → List ℕ → List Role
roles k bytes =
    let ws = words_of (line 1 bytes) in
    map (role_at k ws) (range_with_len 1 (length ws - 1))

-- words of each form
abbrev pub plain_names : List (List ℕ)
plain_names =
    codes "ann"
    ∷ codes "nul" ∷ codes "too" ∷ codes "adds" ∷ codes "destroyed" ∷ codes "so" ∷ codes "attr" ∷ []

abbrev pub tests : List (List ℕ)
tests = codes "null" ∷ codes "set" ∷ []

abbrev pub verbs : List (List ℕ)
verbs = codes "to" ∷ codes "add" ∷ codes "sub" ∷ []

abbrev pub parties : List (List ℕ)
parties = codes "s" ∷ codes "o" ∷ []

abbrev pub names : List (List ℕ)
names = plain_names ++ (tests ++ (verbs ++ (codes "destroy" ∷ parties)))

abbrev pub numbers : List (List ℕ)
numbers = codes "0" ∷ codes "7" ∷ codes "255" ∷ []

abbrev pub terms : List (List ℕ)
terms = codes "s.a" ∷ codes "o.left" ∷ []

abbrev pub comparisons : List (List ℕ)
comparisons = codes "=" ∷ codes "!=" ∷ codes "<" ∷ codes "<=" ∷ codes ">" ∷ codes ">=" ∷ []

abbrev pub dash : List (List ℕ)
dash = codes "-" ∷ []

abbrev pub others : List (List ℕ)
others = codes "Ann" ∷ codes "256" ∷ codes "x.a" ∷ codes "==" ∷ codes "--" ∷ []

abbrev pub all_words : List (List ℕ)
all_words = names ++ (numbers ++ (terms ++ (comparisons ++ (dash ++ others))))

-- those of all these words that may have a role
abbrev pub allowed : Role → List (List ℕ)
allowed r = filter (λ w. fits r (form_of w)) all_words

pub record Roles : Type 0 where
  pub attr_line : roles Attr (codes "attr left 3") ≡ role.NewName ∷ role.Size ∷ []
  pub right_line : roles Right (codes "right drive") ≡ role.NewName ∷ []
  pub object_line : roles Object (codes "object ann 0 - 7")
      ≡ role.NewName ∷ role.Value ∷ role.Value ∷ role.Value ∷ []
  pub policy_line : roles Policy (codes "policy refill load") ≡ role.NewName ∷ role.Known Right ∷ []
  pub test_line : roles If (codes "if s.a null") ≡ role.Term Nothing ∷ role.Key Test ∷ []
  pub comparison_line : roles If (codes "if s.a = 0")
      ≡ role.Term Nothing ∷ role.Comparison ∷ role.Term Number ∷ []
  pub destroy_line : roles Do (codes "do destroy s") ≡ role.Key Destroy ∷ role.Key Party ∷ []
  pub to_line : roles Do (codes "do s.a to 0")
      ≡ role.Term Nothing ∷ role.Key Verb ∷ role.Term NumberOrDash ∷ []
  pub add_line : roles Do (codes "do s.a add 1")
      ≡ role.Term Nothing ∷ role.Key Verb ∷ role.Amount ∷ []
  pub sub_line : roles Do (codes "do s.a sub 1")
      ≡ role.Term Nothing ∷ role.Key Verb ∷ role.Amount ∷ []
  pub query_line : roles Query (codes "query ann m1 load")
      ≡ role.Known Object ∷ role.Known Object ∷ role.Known Right ∷ []
  -- the forms that each role allows, and no other
  pub new_name : allowed role.NewName ≡ names
  pub declared_right : allowed (role.Known Right) ≡ names
  pub declared_object : allowed (role.Known Object) ≡ names
  pub size : allowed role.Size ≡ numbers
  pub value : allowed role.Value ≡ numbers ++ dash
  pub term : allowed (role.Term Nothing) ≡ terms
  pub operand : allowed (role.Term Number) ≡ numbers ++ terms
  pub source : allowed (role.Term NumberOrDash) ≡ numbers ++ (terms ++ dash)
  pub comparison : allowed role.Comparison ≡ comparisons
  pub amount : allowed role.Amount ≡ numbers
  pub test : allowed (role.Key Test) ≡ tests
  pub verb : allowed (role.Key Verb) ≡ verbs
  pub destroy : allowed (role.Key Destroy) ≡ codes "destroy" ∷ []
  pub party : allowed (role.Key Party) ≡ parties
